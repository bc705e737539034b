use Rattle.std.proofs.Common.{◌≡◌, true, false, refl}
use Rattle.hay_audit.proofs.Walking.{said_small, walks_block, walks_nothing, walks_nowhere, walks_on, walks_open}
use Rattle.hay_audit.proofs.judge.walk_line.Goals as goal

pub returns-in-Lanes : goal.returns-in-Lanes
returns-in-Lanes c = walks_block c.args.settings.now c.args.transcript.now c.args.candidates c.args.number c.args.turns c.args.said c.in-Lanes.is

pub returns-in-Nothing : goal.returns-in-Nothing
returns-in-Nothing c = walks_nothing c.args.settings.now c.args.transcript.now c.args.candidates c.args.number c.args.turns c.args.said c.in-Nothing.is c.requires.kept

pub returns-then-is_open : goal.returns-then-is_open
returns-then-is_open c = walks_open c.args.settings.now c.args.transcript.now c.args.candidates c.args.number c.args.turns c.args.said c.in-Asks.item c.in-Asks.is (c.if-is_open.ensures.yes refl)

pub advance-requires-clause-within : goal.advance-requires-clause-within
advance-requires-clause-within c = said_small c.args.said c.in-Asks.item c.in-Asks.is c.requires.told

pub advance-requires-clause-shut : goal.advance-requires-clause-shut
advance-requires-clause-shut c = c.if-is_open.ensures.no refl

pub returns-then-is_empty : goal.returns-then-is_empty
returns-then-is_empty c =
    walks_nowhere c.args.settings.now c.args.transcript.now c.args.candidates c.in_ok-next.next c.args.number c.args.turns c.args.said c.in-Asks.item c.in-Asks.is
    (c.if-is_open.ensures.no refl) (c.if-is_empty.ensures.0 refl)
    c.in_ok-next.ensures.went

pub returns : goal.returns
returns c =
    walks_on c.args.settings.now c.args.transcript.now c.args.candidates c.in_ok-next.next c.args.number c.args.turns c.args.said c.in-Asks.item c.in-Asks.is (c.if-is_open.ensures.no refl)
    (λ e. let lie : false ≡ true = c.if-is_empty.ensures.1 e in absurd cc)
    c.in_ok-next.ensures.went c.in_ok-next.ensures.kept
