-- Worked lines alone: a compaction is begun, goes on and is finished, by a line each, and one is whole.
use Rattle.std.specs.Prelude.{◌≡◌, ℕ, zero, suc, ◌<◌, ◌≤◌, length, false, List, [], ◌∷◌, refl, Some, ◌+◌}
use Rattle.std.specs.List.{AllByRecursion as Each}
use Rattle.std.proofs.Common.{sym, ap, arith, lit≤, lit<}
use Rattle.hay_needle.specs.declared.settings.TheConstants.{LAST_GENERATION}
use Rattle.hay_script.specs.declared.Command.{Command}
use Rattle.hay_script.specs.declared.Command.TheVariants as command
use Rattle.hay_reply.specs.declared.Reply.{Reply}
use Rattle.hay_reply.specs.declared.Reply.TheVariants as reply
use Rattle.hay_legal.specs.declared.known.Run.{Run}
use Rattle.hay_legal.specs.declared.known.ReplicaKnown.{ReplicaKnown}
use Rattle.hay_legal.specs.declared.known.VolumeKnown.{VolumeKnown}
use Rattle.hay_legal.specs.declared.known.Known.{Known}
use Rattle.hay_legal.specs.declared.turn.Item.TheVariants as item
use Rattle.hay_legal.specs.declared.turn.LaneItem.{LaneItem}
use Rattle.hay_legal.specs.Known.{empty_replica, empty_volume, fresh_unharmed, replica_at, volume_at}
use Rattle.hay_legal.specs.Plain.{LegalPlain}
use Rattle.hay_legal.specs.Subject.{IsOf}
use Rattle.hay_legal.proofs.Steps.{none_falls, one}
use Rattle.hay_history.specs.LaneSteps.{Follows, Step}
use Rattle.hay_history.specs.LaneSteps.Did.{Begins, Examines, Swaps}
use Rattle.hay_history.specs.Histories.{History, Seen, behind, first_of, steps_of}
use Rattle.hay_history.specs.Commands.{Came, EndsAt, IsOfLine, IsRegular, LineDid, course}
use Rattle.hay_history.proofs.Lists.{each_weaker}
use Rattle.hay_history.proofs.AloneLaw.{lines_are_legal}
use Rattle.hay_history.proofs.Worked.{grows, line_of, no_change, of_first, on_first, on_one, seen, sound, stands_between, tag}

-- a replica with one cell that no photo has; a compaction of it that has so many cells left; and the replica behind it
abbrev one_cell : VolumeKnown
one_cell = record empty_volume { replicas = record empty_replica { end = 120; cells = 1 } ∷ [] }

abbrev run_with : ℕ → Run
run_with left = record { goal = 1; left = left }

abbrev running : Run → VolumeKnown
running run = record empty_volume { replicas = record empty_replica { end = 120; cells = 1; run = Some run } ∷ [] }

abbrev swapped_once : VolumeKnown
swapped_once = record empty_volume { replicas = record empty_replica { generation = 1 } ∷ [] }

abbrev with_one : VolumeKnown → Known
with_one volume = record (fresh_unharmed one) { volumes = volume ∷ [] }

abbrev of_steps : List Step → History
of_steps steps = record { volumes = on_one steps; directory = []; begun = λ v j. tag 0 1 }

-- of the one replica of the one volume
of_one : (P : ℕ → ℕ → Type 0) → P 0 0 → (v j : ℕ) → v < 1 → j < 1 → P v j
of_one P here v j below within = of_first (λ v. P v j) (of_first (P 0) here j within) v below

abbrev only_replica : VolumeKnown → ReplicaKnown
only_replica volume = replica_at volume 0

-- a store of the one volume, as it stood before a line
pub record Before (volume : VolumeKnown) : Type 0 where
  pub many : length volume.replicas ≡ 1
  pub end : 64 ≤ (only_replica volume).end
  pub number : (run : Run) → (only_replica volume).run ≡ Some run → (only_replica volume).generation < LAST_GENERATION
  pub goal : (run : Run) → (only_replica volume).run ≡ Some run → run.goal ≡ (only_replica volume).generation + 1

store_of : (volume : VolumeKnown) → Before volume → IsOf one (with_one volume)
store_of volume h = record {
  volumes = refl;
  replicas = of_first (λ v. length (volume_at (with_one volume) v).replicas ≡ 1) h.many;
  homes = tt;
  pending = λ pending there. cc;
}

regular_of : (volume : VolumeKnown) → Before volume → IsRegular one (with_one volume)
regular_of volume h = record {
  machines = lit≤ tt;
  slots = refl;
  ends = of_one (λ v j. 64 ≤ (replica_at (volume_at (with_one volume) v) j).end) h.end;
  numbers = of_one (λ v j. (run : Run) → (replica_at (volume_at (with_one volume) v) j).run ≡ Some run
      → (replica_at (volume_at (with_one volume) v) j).generation < LAST_GENERATION) h.number;
  runs = of_one (λ v j. (run : Run) → (replica_at (volume_at (with_one volume) v) j).run ≡ Some run
      → run.goal ≡ (replica_at (volume_at (with_one volume) v) j).generation + 1) h.goal;
}

-- a line alone, between the first of its steps and the last
module _ (start : VolumeKnown) (steps : List Step) (asked : Command) (answer : Reply) (left : VolumeKnown) where
  abbrev lone : LaneItem
  lone = line_of 0 2 asked answer

  abbrev until : Seen
  until = seen (length steps) 0

  lone_came : Before start → Follows one 0 (first_of one (with_one start) 0) steps → Each (λ step. step.tag ≡ tag 0 2) steps
      → Each (λ at. (0 ≤ at.0) × (at.0 < length steps)) (steps_of steps 2)
      → LineDid (course one (with_one start) (of_steps steps) (λ line. seen 0 0) (λ line. until) lone) (item.Command asked) answer
      → EndsAt one 0 (behind (first_of one (with_one start) 0) steps (length steps)) (with_one left)
      → Came one (with_one start) (lone ∷ []) (of_steps steps) (with_one left)
  lone_came before follows tags own did ends = record {
    store = store_of start before;
    regular = regular_of start before;
    distinct = (tt, tt);
    lanes = (lit< tt, tt);
    follows = of_first (λ v. Follows one v (first_of one (with_one start) v) (on_one steps v)) follows;
    follows_rows = tt;
    lines = of_first (λ v. Each (λ step. IsOfLine (lone ∷ []) step.tag) (on_one steps v))
        (each_weaker (λ step. step.tag ≡ tag 0 2) (λ step. IsOfLine (lone ∷ []) step.tag) (λ step is. (lone, (0, lit< tt, refl), sym is)) steps tags);
    row_lines = tt;
    from = λ line. seen 0 0;
    to = λ line. until;
    answers = (
      record {
        later = record { volumes = grows 0 (length steps) (omega arith); rows = lit≤ tt; arm = lit≤ tt };
        steps = stands_between steps 0 (length steps) 2 own;
        rows = tt;
        did = did;
      },
      tt,
    );
    first = (record { volumes = λ v. omega arith; rows = lit≤ tt; arm = lit≤ tt }, tt);
    order = (tt, tt);
    last = (record { volumes = at_each; rows = lit≤ tt; arm = lit≤ tt }, tt);
    volumes = of_first (λ v. EndsAt one v (behind (first_of one (with_one start) v) (on_one steps v) (length (on_one steps v))) (with_one left)) ends;
    directory = record { directory = refl; drained = refl; faults = refl; fuses = refl };
    count = refl;
    slots = refl;
    faults = none_falls (fresh_unharmed one).faults;
    arms = none_falls (fresh_unharmed one).arms;
    faults_end = (omega arith, (omega arith, tt));
    arms_end = (omega arith, (omega arith, (omega arith, (omega arith, (omega arith, (omega arith, (omega arith, (omega arith, tt))))))));
  }
    where
      at_each : (v : ℕ) → on_first (length steps) v ≤ length (on_one steps v)
      at_each zero = omega arith
      at_each (suc v) = lit≤ tt

  -- it is legal, as each compaction that stands was begun by line 1 of lane 0
  lone_legal : Came one (with_one start) (lone ∷ []) (of_steps steps) (with_one left)
      → LegalPlain one (with_one start) 2 (item.Command asked) answer (with_one left)
  lone_legal came = lines_are_legal one (with_one start) (with_one left) lone (of_steps steps) refl (λ v j run below within stands. refl) came

-- BEFORE

before_fresh : Before one_cell
before_fresh = record { many = refl; end = lit≤ tt; number = λ run stands. lit< tt; goal = λ run stands. cc }

before_running : (left : ℕ) → Before (running (run_with left))
before_running left =
    record { many = refl; end = lit≤ tt; number = λ run stands. lit< tt; goal = λ run stands. let same : run_with left ≡ run = cc in sym (ap (λ (r : Run). r.goal) same) }

-- A COMPACTION THAT IS BEGUN

abbrev begins : List Step
begins = record { tag = tag 0 2; did = Begins 0; after = sound (running (run_with 1)) } ∷ []

begun_is_legal : LegalPlain one (with_one one_cell) 2 (item.Command (command.Begin 0 0)) (reply.Begun 0 0 1) (with_one (running (run_with 1)))
begun_is_legal = lone_legal one_cell begins (command.Begin 0 0) (reply.Begun 0 0 1) (running (run_with 1))
    (lone_came one_cell begins (command.Begin 0 0) (reply.Begun 0 0 1) (running (run_with 1)) before_fresh
    ((refl, lit< tt, refl, lit< tt, refl), (λ j. omega arith), (λ j. refl), tt)
    (refl, tt)
    ((lit≤ tt, lit< tt), tt)
    ((refl, refl), (record { rows = refl; elsewhere = no_change begins 2; step = record { place = 0; step = _; only = refl; is = refl } }, refl))
    (record { volume = refl; faults = λ j within. refl; fuses = λ j within. refl }))

-- ONE THAT GOES ON

abbrev goes_on : List Step
goes_on = record { tag = tag 0 2; did = Examines 0 1; after = sound (running (run_with 0)) } ∷ []

stepped_is_legal : LegalPlain one (with_one (running (run_with 1))) 2 (item.Command (command.Step 0 0 5)) (reply.Stepped 0 0 1) (with_one (running (run_with 0)))
stepped_is_legal = lone_legal (running (run_with 1)) goes_on (command.Step 0 0 5) (reply.Stepped 0 0 1) (running (run_with 0))
    (lone_came (running (run_with 1)) goes_on (command.Step 0 0 5) (reply.Stepped 0 0 1) (running (run_with 0)) (before_running 1)
    ((refl, lit< tt, (run_with 1, refl, lit≤ tt, refl)), (λ j. omega arith), (λ j. refl), tt)
    (refl, tt)
    ((lit≤ tt, lit< tt), tt) (
      (refl, refl),
      (
        record {
          only = record { rows = refl; elsewhere = no_change goes_on 2; step = record { place = 0; step = _; only = refl; is = refl } };
          own = (tag 0 1, refl, record { run = run_with 1; stands = refl; begun = refl });
        },
        refl,
      ),
    )
    (record { volume = refl; faults = λ j within. refl; fuses = λ j within. refl }))

-- ONE THAT IS FINISHED

abbrev swaps : List Step
swaps = record { tag = tag 0 2; did = Swaps 0 64 0 false; after = sound swapped_once } ∷ []

finished_is_legal : LegalPlain one (with_one (running (run_with 0))) 2 (item.Command (command.Finish 0 0)) (reply.Compacted 0 0 1) (with_one swapped_once)
finished_is_legal = lone_legal (running (run_with 0)) swaps (command.Finish 0 0) (reply.Compacted 0 0 1) swapped_once
    (lone_came (running (run_with 0)) swaps (command.Finish 0 0) (reply.Compacted 0 0 1) swapped_once (before_running 0)
    ((refl, lit< tt, (run_with 0, refl, refl, lit≤ tt), record { photos_fit = lit≤ tt; no_longer = lit≤ tt; photos = lit≤ tt; no_more = lit≤ tt }, refl), (λ j. omega arith), (λ j. refl), tt)
    (refl, tt)
    ((lit≤ tt, lit< tt), tt) (
      (refl, refl),
      (
        64,
        0,
        record {
          only = record { rows = refl; elsewhere = no_change swaps 2; step = record { place = 0; step = _; only = refl; is = refl } };
          own = (tag 0 1, refl, record { run = run_with 0; stands = refl; begun = refl });
        },
        refl,
      ),
    )
    (record { volume = refl; faults = λ j within. refl; fuses = λ j within. refl }))

-- ONE THAT IS WHOLE

abbrev compacts : List Step
compacts =
    record { tag = tag 0 2; did = Begins 0; after = sound (running (run_with 1)) }
    ∷ record { tag = tag 0 2; did = Examines 0 1; after = sound (running (run_with 0)) }
    ∷ record { tag = tag 0 2; did = Swaps 0 64 0 false; after = sound swapped_once } ∷ []

compacted_is_legal : LegalPlain one (with_one one_cell) 2 (item.Command (command.Compact 0 0)) (reply.Compacted 0 0 1) (with_one swapped_once)
compacted_is_legal = lone_legal one_cell compacts (command.Compact 0 0) (reply.Compacted 0 0 1) swapped_once
    (lone_came one_cell compacts (command.Compact 0 0) (reply.Compacted 0 0 1) swapped_once before_fresh (
      (refl, lit< tt, refl, lit< tt, refl),
      (λ j. omega arith),
      (λ j. refl),
      (
        (refl, lit< tt, (run_with 1, refl, lit≤ tt, refl)),
        (λ j. omega arith),
        (λ j. refl),
        ((refl, lit< tt, (run_with 0, refl, refl, lit≤ tt), record { photos_fit = lit≤ tt; no_longer = lit≤ tt; photos = lit≤ tt; no_more = lit≤ tt }, refl), (λ j. omega arith), (λ j. refl), tt),
      ),
    )
    (refl, (refl, (refl, tt)))
    ((lit≤ tt, lit< tt), ((lit≤ tt, lit< tt), ((lit≤ tt, lit< tt), tt))) (
      (refl, refl),
      (
        64,
        0,
        record {
          place = 2;
          step = _;
          is = refl;
          ran = record {
            rows = refl;
            elsewhere = no_change compacts 2;
            place = 0;
            first = _;
            begins = refl;
            middle = _ ∷ [];
            examines = ((1, refl), tt);
            steps = refl;
            until = 2;
            behind_it = lit< tt;
            inside = (lit< tt, tt);
            seen = (lit≤ tt, lit≤ tt);
            own = record { run = run_with 0; stands = refl; begun = refl };
            none = refl;
          };
          last = refl;
        },
        refl,
        (λ same. (refl, refl)),
      ),
    )
    (record { volume = refl; faults = λ j within. refl; fuses = λ j within. refl }))
