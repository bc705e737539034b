-- Worked blocks: two lanes put to one pair, and a third reads between; a put fails, and others meet its freeze.
use Rattle.std.specs.Prelude.{◌≡◌, ◌≢◌, ℕ, zero, suc, ◌<◌, ◌≤◌, ◌==◌, ◌+◌, length, true, false, if◌then◌else◌, List, [], ◌∷◌, codes, refl, Some, None}
use Rattle.std.specs.List.{AllByRecursion as Each}
use Rattle.std.proofs.Common.{filter, sym, subst, arith, lit≤, lit<, ap, inl, inr, ◌∙◌}
use Rattle.hay_needle.specs.declared.settings.TheConstants.{LAST_GENERATION}
use Rattle.hay_url.proofs.Cookies.{cookie_of-zero}
use Rattle.hay_core.specs.declared.entry.Entry.TheVariants as entry
use Rattle.hay_core.specs.declared.entry.CoreTag.{CoreTag}
use Rattle.hay_script.specs.declared.Command.{Command}
use Rattle.hay_script.specs.declared.Command.TheVariants as command
use Rattle.hay_reply.specs.declared.Reply.{Reply}
use Rattle.hay_reply.specs.declared.Reply.TheVariants as reply
use Rattle.hay_legal.specs.declared.known.DirKnown.{DirKnown}
use Rattle.hay_legal.specs.declared.known.Known.{Known}
use Rattle.hay_legal.specs.declared.known.ReplicaKnown.{ReplicaKnown}
use Rattle.hay_legal.specs.declared.known.Run.{Run}
use Rattle.hay_legal.specs.declared.known.VolumeKnown.{VolumeKnown}
use Rattle.hay_legal.specs.declared.turn.Item.TheVariants as item
use Rattle.hay_legal.specs.declared.turn.LaneItem.{LaneItem}
use Rattle.hay_legal.specs.Blocks.{LegalBlock}
use Rattle.hay_legal.specs.Known.{empty_replica, arm_count, empty_volume, fault_count, fresh_unharmed, replica_at, slot_of, volume_at}
use Rattle.hay_legal.specs.Plain.{frozen_with, put_entry}
use Rattle.hay_legal.specs.Subject.{IsOf}
use Rattle.hay_reply.specs.declared.ClosedBy.{ClosedBy}
use Rattle.hay_legal.proofs.Steps.{none_falls, one, own, pair}
use Rattle.hay_history.specs.LaneSteps.{Follows, RowStep, Standing, Step}
use Rattle.hay_history.specs.LaneSteps.Did.{Entered, Pends}
use Rattle.hay_history.specs.LaneSteps.RowDid.{AddsRow}
use Rattle.hay_history.specs.Histories.{History, IsLater, Seen, behind, changes_it, first_of, steps_of}
use Rattle.hay_history.specs.Commands.{Answered, Came, EndsAt, IsOfLine, IsRegular, at_first, at_last, course}
use Rattle.hay_history.proofs.Law.{blocks_are_legal}

abbrev pub tag : ℕ → ℕ → CoreTag
tag lane line = record { lane = lane; line = line }

-- the volume behind the first put, and behind both
abbrev first : VolumeKnown
first = record empty_volume {
  log = record { tag = tag 0 2; entry = entry.Put (pair 1) own (codes "a") } ∷ [];
  replicas = record empty_replica { end = 120; cells = 1; bare = 1 } ∷ [];
}

abbrev second : VolumeKnown
second = record empty_volume {
  log = record { tag = tag 0 2; entry = entry.Put (pair 1) own (codes "a") }
      ∷ record { tag = tag 1 3; entry = entry.Put (pair 1) own (codes "b") } ∷ [];
  replicas = record empty_replica { end = 176; cells = 2; bare = 2 } ∷ [];
}

abbrev rows : DirKnown
rows = record { rows = record { pair = pair 1; volume = 0 } ∷ []; frozen = false; pending = None }

abbrev pub sound : VolumeKnown → Standing
sound volume = record { volume = volume; faults = (first_of one (fresh_unharmed one) 0).faults; fuses = (first_of one (fresh_unharmed one) 0).fuses }

-- these are the steps of the one volume
abbrev pub on_one : List Step → ℕ → List Step
on_one all zero = all
on_one all (suc v) = []

abbrev puts : List Step
puts =
    record { tag = tag 0 2; did = Entered (entry.Put (pair 1) own (codes "a")); after = sound first }
    ∷ record { tag = tag 1 3; did = Entered (entry.Put (pair 1) own (codes "b")); after = sound second } ∷ []

-- the first line of a block adds the row
abbrev row_added : List RowStep
row_added = record { tag = tag 0 2; did = AddsRow (record { pair = pair 1; volume = 0 }); after = record { directory = rows; drained = false ∷ []; faults = 0; fuses = 0 } } ∷ []

abbrev history : History
history = record { volumes = on_one puts; directory = row_added; begun = λ v j. tag 0 1 }

abbrev both : Known
both = record (fresh_unharmed one) { volumes = second ∷ []; directory = rows }

abbrev pub line_of : ℕ → ℕ → Command → Reply → LaneItem
line_of lane line asked answer = record { line = line; lane = lane; item = item.Command asked; reply = answer }

abbrev items : List LaneItem
items =
    line_of 0 2 (command.Put (pair 1) (codes "a")) (reply.Stored 0 1 1 own)
    ∷ line_of 1 3 (command.Put (pair 1) (codes "b")) (reply.Stored 0 2 1 own)
    ∷ line_of 2 4 (command.Read (pair 1) own) (reply.Photo 0 0 1 1 (codes "a")) ∷ []

-- so many steps of the one volume
abbrev pub on_first : ℕ → ℕ → ℕ
on_first n zero = n
on_first n (suc v) = 0

abbrev pub seen : ℕ → ℕ → Seen
seen n d = record { volumes = on_first n; rows = d; arm = 0 }

-- what the lanes had seen before and behind each line
abbrev from : ℕ → Seen
from line = if line == 2 then seen 0 0 else seen 1 1

abbrev to : ℕ → Seen
to line = if line == 3 then seen 2 1 else seen 1 1

pub grows : (n m : ℕ) → n ≤ m → (v : ℕ) → on_first n v ≤ on_first m v
grows n m le zero = le
grows n m le (suc v) = lit≤ tt

later : (n m d e : ℕ) → n ≤ m → d ≤ e → IsLater (seen n d) (seen m e)
later n m d e le le' = record { volumes = grows n m le; rows = le'; arm = lit≤ tt }

pub none_elsewhere : (all : List Step) (line u : ℕ) → u ≢ 0 → steps_of (on_one all u) line ≡ []
none_elsewhere all line zero differs = absurd (differs refl)
none_elsewhere all line (suc u) differs = refl

abbrev pub changes_of : List Step → ℕ → List (ℕ × Step)
changes_of all line = filter (λ at. changes_it (at.1).did) (steps_of all line)

pub no_change : (all : List Step) (line u : ℕ) → u ≢ 0 → changes_of (on_one all u) line ≡ []
no_change all line u differs = ap (filter (λ at. changes_it (at.1).did)) (none_elsewhere all line u differs)

-- the steps of a line on each volume stand between these
pub stands_between : (all : List Step) (n m line : ℕ) → Each (λ at. (n ≤ at.0) × (at.0 < m)) (steps_of all line)
    → (v : ℕ) → Each (λ at. (on_first n v ≤ at.0) × (at.0 < on_first m v)) (steps_of (on_one all v) line)
stands_between all n m line here zero = here
stands_between all n m line here (suc v) = tt

-- a line changes nothing where it changes nothing on the one volume
nowhere : (all : List Step) (line : ℕ) → changes_of all line ≡ [] → (v : ℕ) → changes_of (on_one all v) line ≡ []
nowhere all line none zero = none
nowhere all line none (suc v) = refl

pub below_one : (v : ℕ) → v < 1 → v ≡ 0
below_one v below = omega (arith, below)

put_a : Answered (course one (fresh_unharmed one) history from to (line_of 0 2 (command.Put (pair 1) (codes "a")) (reply.Stored 0 1 1 own)))
    (line_of 0 2 (command.Put (pair 1) (codes "a")) (reply.Stored 0 1 1 own))
put_a = record {
  later = later 0 1 0 1 (lit≤ tt) (lit≤ tt);
  steps = stands_between puts 0 1 2 ((lit≤ tt, lit< tt), tt);
  rows = ((lit≤ tt, lit< tt), tt);
  did = record {
    row = inr (record {
      row = record { pair = pair 1; volume = 0 };
      step = record { place = 0; step = _; only = refl; is = refl };
      own_pair = refl;
      taker = record { tried = (0, lit< tt, refl); moment = 0; seen = (lit≤ tt, lit≤ tt); takes = refl; before = tt };
    });
    home = record { moment = 1; seen = (lit≤ tt, lit≤ tt); front = refl; is = refl };
    below = lit< tt;
    own_cookie = sym cookie_of-zero;
    elsewhere = no_change puts 2;
    step = record { place = 0; step = _; only = refl; is = refl };
    room = refl;
    position = refl;
  };
}

put_b : Answered (course one (fresh_unharmed one) history from to (line_of 1 3 (command.Put (pair 1) (codes "b")) (reply.Stored 0 2 1 own)))
    (line_of 1 3 (command.Put (pair 1) (codes "b")) (reply.Stored 0 2 1 own))
put_b = record {
  later = later 1 2 1 1 (lit≤ tt) (lit≤ tt);
  steps = stands_between puts 1 2 3 ((lit≤ tt, lit< tt), tt);
  rows = tt;
  did = record {
    row = inl refl;
    home = record { moment = 1; seen = (lit≤ tt, lit≤ tt); front = refl; is = refl };
    below = lit< tt;
    own_cookie = sym cookie_of-zero;
    elsewhere = no_change puts 3;
    step = record { place = 1; step = _; only = refl; is = refl };
    room = refl;
    position = refl;
  };
}

read_c : Answered (course one (fresh_unharmed one) history from to (line_of 2 4 (command.Read (pair 1) own) (reply.Photo 0 0 1 1 (codes "a"))))
    (line_of 2 4 (command.Read (pair 1) own) (reply.Photo 0 0 1 1 (codes "a")))
read_c = record {
  later = later 1 1 1 1 (lit≤ tt) (lit≤ tt);
  steps = stands_between puts 1 1 4 tt;
  rows = tt;
  did = record {
    home = record { moment = 1; seen = (lit≤ tt, lit≤ tt); front = refl; is = refl };
    below = lit< tt;
    moment = 1;
    seen = (lit≤ tt, lit≤ tt);
    front = refl;
    replica = 0;
    there = refl;
    stood = refl;
    passed = record { to_arm = λ j. false; arm = inl (lit≤ tt); disks = tt };
    looks = (refl, no_change puts 4, tt);
  };
}

pub fresh_at : (v j : ℕ) → v < 1 → j < 1 → replica_at (volume_at (fresh_unharmed one) v) j ≡ empty_replica
fresh_at v j below within =
    subst (λ (u : ℕ). replica_at (volume_at (fresh_unharmed one) u) j ≡ empty_replica) (sym (below_one v below))
    (subst (λ (i : ℕ). replica_at (volume_at (fresh_unharmed one) 0) i ≡ empty_replica) (sym (below_one j within)) refl)

pub no_run : (v j : ℕ) → v < 1 → j < 1 → (run : Run) → (replica_at (volume_at (fresh_unharmed one) v) j).run ≡ Some run
    → run.goal ≡ (replica_at (volume_at (fresh_unharmed one) v) j).generation + 1
no_run v j below within run there =
    let none : None ≡ Some run = ap (λ (r : ReplicaKnown). r.run) (sym (fresh_at v j below within)) ∙ there in
    cc

no_number : (v j : ℕ) → v < 1 → j < 1 → (run : Run) → (replica_at (volume_at (fresh_unharmed one) v) j).run ≡ Some run
    → (replica_at (volume_at (fresh_unharmed one) v) j).generation < LAST_GENERATION
no_number v j below within run there =
    let none : None ≡ Some run = ap (λ (r : ReplicaKnown). r.run) (sym (fresh_at v j below within)) ∙ there in
    cc

-- of the one volume
pub of_first : (P : ℕ → Type 0) → P 0 → (v : ℕ) → v < 1 → P v
of_first P here v below = subst P (sym (below_one v below)) here

from_first : (lane n d : ℕ) → arm_count (fresh_unharmed one) lane ≤ 0 → IsLater (at_first (fresh_unharmed one) lane) (seen n d)
from_first lane n d none = record { volumes = λ v. omega arith; rows = omega arith; arm = none }

to_last : (all : List Step) (t : Known) (lane n d : ℕ) → n ≤ length all → d ≤ 1 → IsLater (seen n d) (at_last t (record { volumes = on_one all; directory = row_added; begun = λ v j. tag 0 1 }) lane)
to_last all t lane n d le le' = record { volumes = at_each; rows = le'; arm = omega arith }
  where
    at_each : (v : ℕ) → on_first n v ≤ length (on_one all v)
    at_each zero = le
    at_each (suc v) = lit≤ tt

pub store : IsOf one (fresh_unharmed one)
store = record {
  volumes = refl;
  replicas = of_first (λ v. length (volume_at (fresh_unharmed one) v).replicas ≡ 1) refl;
  homes = tt;
  pending = λ pending there. cc;
}

pub regular : IsRegular one (fresh_unharmed one)
regular = record {
  machines = lit≤ tt;
  slots = refl;
  ends = λ v j below within. subst (λ (r : ReplicaKnown). 64 ≤ r.end) (sym (fresh_at v j below within)) (lit≤ tt);
  numbers = no_number;
  runs = no_run;
}

came : Came one (fresh_unharmed one) items history both
came = record {
  store = store;
  regular = regular;
  distinct = (((λ e. omega (arith, e)), ((λ e. omega (arith, e)), tt)), (((λ e. omega (arith, e)), tt), (tt, tt)));
  lanes = (lit< tt, (lit< tt, (lit< tt, tt)));
  follows = of_first (λ v. Follows one v (first_of one (fresh_unharmed one) v) (on_one puts v))
      ((refl, refl), (λ j. omega arith), (λ j. refl), ((refl, refl), (λ j. omega arith), (λ j. refl), tt));
  follows_rows = (((refl, refl), refl), lit≤ tt, (refl, refl), tt);
  lines = of_first (λ v. Each (λ step. IsOfLine items step.tag) (on_one puts v)) ((_, (0, lit< tt, refl), refl), ((_, (1, lit< tt, refl), refl), tt));
  row_lines = ((_, (0, lit< tt, refl), refl), tt);
  from = from;
  to = to;
  answers = (put_a, (put_b, (read_c, tt)));
  first = (from_first 0 0 0 (lit≤ tt), (from_first 1 1 1 (lit≤ tt), (from_first 2 1 1 (lit≤ tt), tt)));
  order = (((λ e. absurd (omega (arith, e))), ((λ e. absurd (omega (arith, e))), tt)), (((λ e. absurd (omega (arith, e))), tt), (tt, tt)));
  last = (to_last puts both 0 1 1 (lit≤ tt) (lit≤ tt), (to_last puts both 1 2 1 (lit≤ tt) (lit≤ tt), (to_last puts both 2 1 1 (lit≤ tt) (lit≤ tt), tt)));
  volumes = of_first (λ v. EndsAt one v (behind (first_of one (fresh_unharmed one) v) (on_one puts v) (length (on_one puts v))) both)
      (record { volume = refl; faults = λ j within. refl; fuses = λ j within. refl });
  directory = record { directory = refl; drained = refl; faults = refl; fuses = refl };
  count = refl;
  slots = refl;
  faults = none_falls (fresh_unharmed one).faults;
  arms = none_falls (fresh_unharmed one).arms;
  faults_end = (omega arith, (omega arith, tt));
  arms_end = (omega arith, (omega arith, (omega arith, (omega arith, (omega arith, (omega arith, (omega arith, (omega arith, tt))))))));
}

both_is_legal : LegalBlock one (fresh_unharmed one) items (record { volume = 0; from = 0; lines = 2 ∷ 3 ∷ [] } ∷ []) (record { from = 0; rows = record { line = 2; volume = 0 } ∷ [] }) both
both_is_legal = blocks_are_legal one (fresh_unharmed one) both items history (tt, (tt, (tt, tt))) came

-- A BLOCK IN WHICH A PUT FAILS

-- the disk of the one replica failed once
abbrev failed_once : VolumeKnown → Standing
failed_once volume = record { volume = volume; faults = λ j. (first_of one (fresh_unharmed one) 0).faults j + 1; fuses = (first_of one (fresh_unharmed one) 0).fuses }

abbrev left_frozen : VolumeKnown
left_frozen = frozen_with 0 (tag 0 2) (put_entry one (pair 1) (codes "a")) true (volume_at (fresh_unharmed one) 0)

abbrev freezes : List Step
freezes = record { tag = tag 0 2; did = Pends 0 (put_entry one (pair 1) (codes "a")) true; after = failed_once left_frozen } ∷ []

abbrev freeze : History
freeze = record { volumes = on_one freezes; directory = row_added; begun = λ v j. tag 0 1 }

abbrev frozen : Known
frozen = record (fresh_unharmed one) { volumes = left_frozen ∷ []; directory = rows; faults = 0 ∷ 1 ∷ [] }

abbrev by_freeze : ClosedBy
by_freeze = record { volume = 0; machine = 0 }

abbrev meeting : List LaneItem
meeting =
    line_of 0 2 (command.Put (pair 1) (codes "a")) (reply.Failed 0 0 1)
    ∷ line_of 1 3 (command.Put (pair 1) (codes "b")) (reply.ReadOnly (by_freeze ∷ []))
    ∷ line_of 2 4 (command.Flush 0 0) (reply.ReadOnly (by_freeze ∷ [])) ∷ []

abbrev since : ℕ → Seen
since line = if line == 2 then seen 0 0 else seen 1 1

abbrev until : ℕ → Seen
until line = seen 1 1

put_failed : Answered (course one (fresh_unharmed one) freeze since until (line_of 0 2 (command.Put (pair 1) (codes "a")) (reply.Failed 0 0 1)))
    (line_of 0 2 (command.Put (pair 1) (codes "a")) (reply.Failed 0 0 1))
put_failed = record {
  later = later 0 1 0 1 (lit≤ tt) (lit≤ tt);
  steps = stands_between freezes 0 1 2 ((lit≤ tt, lit< tt), tt);
  rows = ((lit≤ tt, lit< tt), tt);
  did = record {
    row = inr (record {
      row = record { pair = pair 1; volume = 0 };
      step = record { place = 0; step = _; only = refl; is = refl };
      own_pair = refl;
      taker = record { tried = (0, lit< tt, refl); moment = 0; seen = (lit≤ tt, lit≤ tt); takes = refl; before = tt };
    });
    d = 1;
    home = record { moment = 1; seen = (lit≤ tt, lit≤ tt); front = refl; is = refl };
    below = lit< tt;
    elsewhere = no_change freezes 2;
    step = record { place = 0; step = _; only = refl; is = refl };
    room = refl;
    failed = (0, refl, (inl (lit< tt), refl), (lit≤ tt, tt));
  };
}

put_refused : Answered (course one (fresh_unharmed one) freeze since until (line_of 1 3 (command.Put (pair 1) (codes "b")) (reply.ReadOnly (by_freeze ∷ []))))
    (line_of 1 3 (command.Put (pair 1) (codes "b")) (reply.ReadOnly (by_freeze ∷ [])))
put_refused = record {
  later = later 1 1 1 1 (lit≤ tt) (lit≤ tt);
  steps = stands_between freezes 1 1 3 tt;
  rows = tt;
  did = record {
    row = inl refl;
    nothing = nowhere freezes 3 refl;
    because = inr (1, 0, record { moment = 1; seen = (lit≤ tt, lit≤ tt); front = refl; is = refl }, record { moment = 1; seen = (lit≤ tt, lit≤ tt); is = refl });
  };
}

flush_refused : Answered (course one (fresh_unharmed one) freeze since until (line_of 2 4 (command.Flush 0 0) (reply.ReadOnly (by_freeze ∷ []))))
    (line_of 2 4 (command.Flush 0 0) (reply.ReadOnly (by_freeze ∷ [])))
flush_refused = record {
  later = later 1 1 1 1 (lit≤ tt) (lit≤ tt);
  steps = stands_between freezes 1 1 4 tt;
  rows = tt;
  did = (inl (refl, record { moment = 1; seen = (lit≤ tt, lit≤ tt); is = refl }), (nowhere freezes 4 refl, refl));
}

came_frozen : Came one (fresh_unharmed one) meeting freeze frozen
came_frozen = record {
  store = store;
  regular = regular;
  distinct = (((λ e. omega (arith, e)), ((λ e. omega (arith, e)), tt)), (((λ e. omega (arith, e)), tt), (tt, tt)));
  lanes = (lit< tt, (lit< tt, (lit< tt, tt)));
  follows = of_first (λ v. Follows one v (first_of one (fresh_unharmed one) v) (on_one freezes v)) ((refl, refl), (λ j. omega arith), (λ j. refl), tt);
  follows_rows = (((refl, refl), refl), lit≤ tt, (refl, refl), tt);
  lines = of_first (λ v. Each (λ step. IsOfLine meeting step.tag) (on_one freezes v)) ((_, (0, lit< tt, refl), refl), tt);
  row_lines = ((_, (0, lit< tt, refl), refl), tt);
  from = since;
  to = until;
  answers = (put_failed, (put_refused, (flush_refused, tt)));
  first = (from_first 0 0 0 (lit≤ tt), (from_first 1 1 1 (lit≤ tt), (from_first 2 1 1 (lit≤ tt), tt)));
  order = (((λ e. absurd (omega (arith, e))), ((λ e. absurd (omega (arith, e))), tt)), (((λ e. absurd (omega (arith, e))), tt), (tt, tt)));
  last = (to_last freezes frozen 0 1 1 (lit≤ tt) (lit≤ tt), (to_last freezes frozen 1 1 1 (lit≤ tt) (lit≤ tt), (to_last freezes frozen 2 1 1 (lit≤ tt) (lit≤ tt), tt)));
  volumes = of_first (λ v. EndsAt one v (behind (first_of one (fresh_unharmed one) v) (on_one freezes v) (length (on_one freezes v))) frozen)
      (record {
        volume = refl;
        faults = λ j within. subst (λ (i : ℕ). fault_count frozen (slot_of one 0 i) ≡ (first_of one (fresh_unharmed one) 0).faults i + 1)
            (sym (below_one j within)) refl;
        fuses = λ j within. refl;
      });
  directory = record { directory = refl; drained = refl; faults = refl; fuses = refl };
  count = refl;
  slots = refl;
  faults = (lit≤ tt, (lit≤ tt, tt));
  arms = none_falls (fresh_unharmed one).arms;
  faults_end = (omega arith, (omega arith, tt));
  arms_end = (omega arith, (omega arith, (omega arith, (omega arith, (omega arith, (omega arith, (omega arith, (omega arith, tt))))))));
}

frozen_is_legal : LegalBlock one (fresh_unharmed one) meeting [] (record { from = 0; rows = record { line = 2; volume = 0 } ∷ [] }) frozen
frozen_is_legal = blocks_are_legal one (fresh_unharmed one) frozen meeting freeze (tt, (tt, (tt, tt))) came_frozen
