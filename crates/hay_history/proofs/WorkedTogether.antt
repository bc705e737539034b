-- A worked block of three lanes: a put adds the row of its pair while a compaction stands, a delete of another lane ends the
-- compaction as the disk fails, a read answers at a front from before the delete, and a put fails.
use Rattle.std.specs.Prelude.{◌≡◌, ℕ, zero, suc, ◌<◌, ◌≤◌, ◌==◌, ◌+◌, length, true, false, if◌then◌else◌, List, [], ◌∷◌, codes, refl, Some, None}
use Rattle.std.specs.List.{AllByRecursion as Each}
use Rattle.std.proofs.Common.{sym, subst, arith, lit≤, lit<, inl, inr}
use Rattle.hay_needle.specs.declared.settings.TheConstants.{LAST_GENERATION}
use Rattle.hay_url.proofs.Cookies.{cookie_of-zero}
use Rattle.hay_core.specs.declared.entry.Entry.TheVariants as entry
use Rattle.hay_script.specs.declared.Command.TheVariants as command
use Rattle.hay_reply.specs.declared.Reply.TheVariants as reply
use Rattle.hay_legal.specs.declared.known.DirKnown.{DirKnown}
use Rattle.hay_legal.specs.declared.known.Known.{Known}
use Rattle.hay_legal.specs.declared.known.ReplicaKnown.{ReplicaKnown}
use Rattle.hay_legal.specs.declared.known.Run.{Run}
use Rattle.hay_legal.specs.declared.known.VolumeKnown.{VolumeKnown}
use Rattle.hay_legal.specs.declared.turn.LaneItem.{LaneItem}
use Rattle.hay_legal.specs.Blocks.{LegalBlock}
use Rattle.hay_legal.specs.Known.{empty_replica, arm_count, empty_volume, fault_count, fresh_unharmed, replica_at, slot_of, volume_at}
use Rattle.hay_legal.specs.Plain.{frozen_with, put_entry}
use Rattle.hay_legal.specs.Subject.{IsOf}
use Rattle.hay_legal.proofs.Steps.{none_falls, one, own, pair}
use Rattle.hay_history.specs.LaneSteps.{Follows, RowStep, Standing, Step}
use Rattle.hay_history.specs.LaneSteps.Did.{Begins, Entered, Examines, Pends}
use Rattle.hay_history.specs.LaneSteps.RowDid.{AddsRow}
use Rattle.hay_history.specs.Histories.{History, IsLater, Seen, behind, first_of}
use Rattle.hay_history.specs.Commands.{Answered, Came, EndsAt, IsOfLine, IsRegular, at_first, at_last, course}
use Rattle.hay_history.proofs.Law.{blocks_are_legal}
use Rattle.hay_history.proofs.Worked.{below_one, grows, line_of, no_change, of_first, on_first, on_one, seen, stands_between, tag}

-- WHAT STANDS

-- the one replica has a photo of pair 1
abbrev first_replica : ReplicaKnown
first_replica = record empty_replica { base = (pair 1, record { cookie = own; bytes = codes "a" }) ∷ []; end = 120; cells = 1 }

abbrev one_row : DirKnown
one_row = record { rows = record { pair = pair 1; volume = 0 } ∷ []; frozen = false; pending = None }

abbrev before : Known
before = record (fresh_unharmed one) { volumes = record empty_volume { replicas = first_replica ∷ [] } ∷ []; directory = one_row }

-- so many calls of the replica's disk failed in the block
abbrev failing : ℕ → VolumeKnown → Standing
failing n volume = record { volume = volume; faults = λ j. (first_of one before 0).faults j + n; fuses = (first_of one before 0).fuses }

-- a compaction that has so many cells left
abbrev run_with : ℕ → Run
run_with left = record { goal = 1; left = left }

abbrev begun : VolumeKnown
begun = record empty_volume { replicas = record first_replica { run = Some (run_with 1) } ∷ [] }

-- the replica behind the put of pair 2, and the volume with this run
abbrev grown_replica : ReplicaKnown
grown_replica = record first_replica { end = 176; cells = 2; bare = 1 }

abbrev with_put_of : Run → VolumeKnown
with_put_of run = record empty_volume {
  log = record { tag = tag 0 2; entry = entry.Put (pair 2) own (codes "b") } ∷ [];
  replicas = record grown_replica { run = Some run } ∷ [];
}

abbrev deleted : VolumeKnown
deleted = record empty_volume {
  log = record { tag = tag 0 2; entry = entry.Put (pair 2) own (codes "b") } ∷ record { tag = tag 1 3; entry = entry.Del (pair 1) } ∷ [];
  replicas = grown_replica ∷ [];
}

abbrev left_frozen : VolumeKnown
left_frozen = frozen_with 0 (tag 2 6) (put_entry one (pair 2) (codes "c")) true deleted

abbrev both_rows : DirKnown
both_rows = record { rows = record { pair = pair 1; volume = 0 } ∷ record { pair = pair 2; volume = 0 } ∷ []; frozen = false; pending = None }

abbrev after : Known
after = record (fresh_unharmed one) { volumes = left_frozen ∷ []; directory = both_rows; faults = 0 ∷ 2 ∷ [] }

-- THE STEPS, AND THE LINES

abbrev steps : List Step
steps =
    record { tag = tag 2 4; did = Begins 0; after = failing 0 begun }
    ∷ record { tag = tag 0 2; did = Entered (entry.Put (pair 2) own (codes "b")); after = failing 0 (with_put_of (run_with 2)) }
    ∷ record { tag = tag 2 4; did = Examines 0 1; after = failing 0 (with_put_of (run_with 1)) }
    ∷ record { tag = tag 1 3; did = Entered (entry.Del (pair 1)); after = failing 1 deleted }
    ∷ record { tag = tag 2 6; did = Pends 0 (put_entry one (pair 2) (codes "c")) true; after = failing 2 left_frozen } ∷ []

abbrev row_added : List RowStep
row_added =
    record { tag = tag 0 2; did = AddsRow (record { pair = pair 2; volume = 0 }); after = record { directory = both_rows; drained = false ∷ []; faults = 0; fuses = 0 } } ∷ []

abbrev history : History
history = record { volumes = on_one steps; directory = row_added; begun = λ v j. tag 0 1 }

abbrev put_b : LaneItem
put_b = line_of 0 2 (command.Put (pair 2) (codes "b")) (reply.Stored 0 1 2 own)

abbrev del_a : LaneItem
del_a = line_of 1 3 (command.Del (pair 1)) (reply.Deleted 0 2 1)

abbrev compact : LaneItem
compact = line_of 2 4 (command.Compact 0 0) (reply.Failed 0 0 1)

-- its lane has not seen the delete
abbrev read_a : LaneItem
read_a = line_of 0 5 (command.Read (pair 1) own) (reply.Photo 0 0 1 2 (codes "a"))

abbrev put_c : LaneItem
put_c = line_of 2 6 (command.Put (pair 2) (codes "c")) (reply.Failed 0 0 2)

abbrev items : List LaneItem
items = put_b ∷ del_a ∷ compact ∷ read_a ∷ put_c ∷ []

-- what the lanes had seen before and behind each line
abbrev from : ℕ → Seen
from line = if line == 5 then seen 2 1 else if line == 6 then seen 4 1 else seen 0 0

abbrev to : ℕ → Seen
to line = if line == 2 then seen 2 1 else if line == 5 then seen 2 1 else if line == 6 then seen 5 1 else seen 4 0

abbrev IsAnswered : LaneItem → Type 0
IsAnswered item = Answered (course one before history from to item) item

later : (n m d e : ℕ) → n ≤ m → d ≤ e → IsLater (seen n d) (seen m e)
later n m d e le le' = record { volumes = grows n m le; rows = le'; arm = lit≤ tt }

-- THE ANSWERS

put_b_answered : IsAnswered put_b
put_b_answered = record {
  later = later 0 2 0 1 (lit≤ tt) (lit≤ tt);
  steps = stands_between steps 0 2 2 ((lit≤ tt, lit< tt), tt);
  rows = ((lit≤ tt, lit< tt), tt);
  did = record {
    row = inr (record {
      row = record { pair = pair 2; volume = 0 };
      step = record { place = 0; step = _; only = refl; is = refl };
      own_pair = refl;
      taker = record { tried = (0, lit< tt, refl); moment = 1; seen = (lit≤ tt, lit≤ tt); takes = refl; before = tt };
    });
    home = record { moment = 1; seen = (lit≤ tt, lit≤ tt); front = refl; is = refl };
    below = lit< tt;
    own_cookie = sym cookie_of-zero;
    elsewhere = no_change steps 2;
    step = record { place = 1; step = _; only = refl; is = refl };
    room = refl;
    position = refl;
  };
}

-- it saw the Directory before the new row
del_a_answered : IsAnswered del_a
del_a_answered = record {
  later = later 0 4 0 0 (lit≤ tt) (lit≤ tt);
  steps = stands_between steps 0 4 3 ((lit≤ tt, lit< tt), tt);
  rows = tt;
  did = record {
    home = record { moment = 0; seen = (lit≤ tt, lit≤ tt); front = refl; is = refl };
    below = lit< tt;
    rows = refl;
    elsewhere = no_change steps 3;
    step = record { place = 3; step = _; only = refl; is = refl };
    «open» = refl;
    stood = refl;
    position = refl;
  };
}

-- it began and examined a cell, and met its compaction ended by the delete
compact_answered : IsAnswered compact
compact_answered = record {
  later = later 0 4 0 0 (lit≤ tt) (lit≤ tt);
  steps = stands_between steps 0 4 4 ((lit≤ tt, lit< tt), ((lit≤ tt, lit< tt), tt));
  rows = tt;
  did = (
    (refl, refl),
    inr (inr (inr (record {
      ran = record {
        rows = refl;
        elsewhere = no_change steps 4;
        place = 0;
        first = _;
        begins = refl;
        middle = _ ∷ [];
        examines = ((1, refl), tt);
        steps = refl;
        until = 3;
        behind_it = lit< tt;
        inside = (lit< tt, tt);
        seen = (lit≤ tt, lit≤ tt);
        own = record { run = run_with 1; stands = refl; begun = refl };
        none = refl;
      };
      thawed = refl;
      rose = (inl (lit< tt), refl);
    }))),
  );
}

read_a_answered : IsAnswered read_a
read_a_answered = record {
  later = later 2 2 1 1 (lit≤ tt) (lit≤ tt);
  steps = stands_between steps 2 2 5 tt;
  rows = tt;
  did = record {
    home = record { moment = 1; seen = (lit≤ tt, lit≤ tt); front = refl; is = refl };
    below = lit< tt;
    moment = 2;
    seen = (lit≤ tt, lit≤ tt);
    front = refl;
    replica = 0;
    there = refl;
    stood = refl;
    passed = record { to_arm = λ j. false; arm = inl (lit≤ tt); disks = tt };
    looks = (refl, no_change steps 5, tt);
  };
}

put_c_answered : IsAnswered put_c
put_c_answered = record {
  later = later 4 5 1 1 (lit≤ tt) (lit≤ tt);
  steps = stands_between steps 4 5 6 ((lit≤ tt, lit< tt), tt);
  rows = tt;
  did = record {
    row = inl refl;
    d = 2;
    home = record { moment = 1; seen = (lit≤ tt, lit≤ tt); front = refl; is = refl };
    below = lit< tt;
    elsewhere = no_change steps 6;
    step = record { place = 4; step = _; only = refl; is = refl };
    room = refl;
    failed = (0, refl, (inl (lit< tt), refl), (lit≤ tt, tt));
  };
}

-- THE BLOCK

-- of the one replica of the one volume
of_one : (P : ℕ → ℕ → Type 0) → P 0 0 → (v j : ℕ) → v < 1 → j < 1 → P v j
of_one P here v j below within = of_first (λ v. P v j) (of_first (P 0) here j within) v below

store : IsOf one before
store = record {
  volumes = refl;
  replicas = of_first (λ v. length (volume_at before v).replicas ≡ 1) refl;
  homes = (lit< tt, tt);
  pending = λ pending there. cc;
}

regular : IsRegular one before
regular = record {
  machines = lit≤ tt;
  slots = refl;
  ends = of_one (λ v j. 64 ≤ (replica_at (volume_at before v) j).end) (lit≤ tt);
  numbers = of_one (λ v j. (run : Run) → (replica_at (volume_at before v) j).run ≡ Some run → (replica_at (volume_at before v) j).generation < LAST_GENERATION) (λ run there. lit< tt);
  runs = of_one (λ v j. (run : Run) → (replica_at (volume_at before v) j).run ≡ Some run → run.goal ≡ (replica_at (volume_at before v) j).generation + 1) (λ run there. cc);
}

from_first : (lane n d : ℕ) → arm_count before lane ≤ 0 → IsLater (at_first before lane) (seen n d)
from_first lane n d none = record { volumes = λ v. omega arith; rows = omega arith; arm = none }

to_last : (lane n d : ℕ) → n ≤ 5 → d ≤ 1 → IsLater (seen n d) (at_last after history lane)
to_last lane n d le le' = record { volumes = at_each; rows = le'; arm = omega arith }
  where
    at_each : (v : ℕ) → on_first n v ≤ length (on_one steps v)
    at_each zero = le
    at_each (suc v) = lit≤ tt

came : Came one before items history after
came = record {
  store = store;
  regular = regular;
  distinct = (
    ((λ e. omega (arith, e)), ((λ e. omega (arith, e)), ((λ e. omega (arith, e)), ((λ e. omega (arith, e)), tt)))),
    (
      ((λ e. omega (arith, e)), ((λ e. omega (arith, e)), ((λ e. omega (arith, e)), tt))),
      (((λ e. omega (arith, e)), ((λ e. omega (arith, e)), tt)), (((λ e. omega (arith, e)), tt), (tt, tt))),
    ),
  );
  lanes = (lit< tt, (lit< tt, (lit< tt, (lit< tt, (lit< tt, tt)))));
  follows = of_first (λ v. Follows one v (first_of one before v) (on_one steps v)) (
    (refl, lit< tt, refl, lit< tt, refl),
    (λ j. omega arith),
    (λ j. refl),
    (
      (refl, refl),
      (λ j. omega arith),
      (λ j. refl),
      (
        (refl, lit< tt, (run_with 2, refl, lit≤ tt, refl)),
        (λ j. omega arith),
        (λ j. refl),
        (
          (refl, (true ∷ [], (λ j there. inl (omega arith)), refl)),
          (λ j. omega arith),
          (λ j. refl),
          ((refl, refl), (λ j. omega arith), (λ j. refl), tt),
        ),
      ),
    ),
  );
  follows_rows = (((refl, refl), refl), lit≤ tt, (refl, refl), tt);
  lines = of_first (λ v. Each (λ step. IsOfLine items step.tag) (on_one steps v)) (
    (compact, (2, lit< tt, refl), refl),
    ((put_b, (0, lit< tt, refl), refl), ((compact, (2, lit< tt, refl), refl), ((del_a, (1, lit< tt, refl), refl), ((put_c, (4, lit< tt, refl), refl), tt)))),
  );
  row_lines = ((put_b, (0, lit< tt, refl), refl), tt);
  from = from;
  to = to;
  answers = (put_b_answered, (del_a_answered, (compact_answered, (read_a_answered, (put_c_answered, tt)))));
  first = (
    from_first 0 0 0 (lit≤ tt),
    (from_first 1 0 0 (lit≤ tt), (from_first 2 0 0 (lit≤ tt), (from_first 0 2 1 (lit≤ tt), (from_first 2 4 1 (lit≤ tt), tt)))),
  );
  order = (
    ((λ e. absurd (omega (arith, e))), ((λ e. absurd (omega (arith, e))), ((λ same. later 2 2 1 1 (lit≤ tt) (lit≤ tt)), ((λ e. absurd (omega (arith, e))), tt)))),
    (
      ((λ e. absurd (omega (arith, e))), ((λ e. absurd (omega (arith, e))), ((λ e. absurd (omega (arith, e))), tt))),
      (((λ e. absurd (omega (arith, e))), ((λ same. later 4 4 0 1 (lit≤ tt) (lit≤ tt)), tt)), (((λ e. absurd (omega (arith, e))), tt), (tt, tt))),
    ),
  );
  last = (
    to_last 0 2 1 (lit≤ tt) (lit≤ tt),
    (to_last 1 4 0 (lit≤ tt) (lit≤ tt), (to_last 2 4 0 (lit≤ tt) (lit≤ tt), (to_last 0 2 1 (lit≤ tt) (lit≤ tt), (to_last 2 5 1 (lit≤ tt) (lit≤ tt), tt)))),
  );
  volumes = of_first (λ v. EndsAt one v (behind (first_of one before v) (on_one steps v) (length (on_one steps v))) after) (record {
    volume = refl;
    faults = λ j within. subst (λ (i : ℕ). fault_count after (slot_of one 0 i) ≡ (first_of one before 0).faults i + 2) (sym (below_one j within)) refl;
    fuses = λ j within. refl;
  });
  directory = record { directory = refl; drained = refl; faults = refl; fuses = refl };
  count = refl;
  slots = refl;
  faults = (lit≤ tt, (lit≤ tt, tt));
  arms = none_falls (fresh_unharmed one).arms;
  faults_end = (omega arith, (omega arith, tt));
  arms_end = (omega arith, (omega arith, (omega arith, (omega arith, (omega arith, (omega arith, (omega arith, (omega arith, tt))))))));
}

-- So it is legal, with these notes.
together_is_legal : LegalBlock one before items (record { volume = 0; from = 0; lines = 2 ∷ 3 ∷ [] } ∷ []) (record { from = 1; rows = record { line = 2; volume = 0 } ∷ [] }) after
together_is_legal = blocks_are_legal one before after items history (tt, (tt, (tt, (tt, (tt, tt))))) came
