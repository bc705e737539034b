use Rattle.std.proofs.Common.{◌≡◌, ◌<◌, ℕ, Err, sym, ap, subst, ◌∙◌}
use Rattle.hay_physical.specs.declared.fault.ReplicaFault.{ReplicaFault}
use Rattle.hay_physical.specs.declared.fault.ReplicaFault.TheVariants as fault
use Rattle.std.proofs.Common.{Option}
use Rattle.hay_map.specs.Places.{place_in}
use Rattle.hay_logical.specs.Sights.{latest_sight, sights_of}
use Rattle.hay_open.specs.Stored.{last_cell}
use Rattle.hay_compact.specs.Copying.{IsLatest, IsPassedOrStands}
use Rattle.hay_physical.specs.OpenCopies.{Copy, end_of, goal_of, next_of, volume_bytes}
use Rattle.hay_physical.proofs.Laws.{next_left}
use Rattle.hay_logical.specs.Fits.{PhotoAt}
use Rattle.hay_logical.specs.ReplicaCalls.{GoesOn, IsStepFault, latest_of}
use Rattle.std.proofs.lemmas.Bool.{true≢false}
use Rattle.hay_logical.proofs.Calls.{still_up}
use Rattle.hay_logical.proofs.Examining.{examine_cause, goes_after, latest_is, leaves_none, peeked_fits, peeked_small, step_ends, step_later}
use Rattle.hay_logical.proofs.runs.examine.Given as given
use Rattle.std.proofs.Common.{arith}
use Rattle.hay_physical.specs.CompactionRuns.{EndsRun, IsPeeked}
use Rattle.hay_logical.specs.Seen.{ChangesRun, replica_seen}
use Rattle.hay_logical.proofs.Damages.{heads_none, heads_one, lacks_next, latest_seen, lacks_there, meets_later}
use Rattle.hay_logical.proofs.Seen.{changes_through, run_changed, steps_end, steps_one}
use Rattle.hay_logical.proofs.runs.examine.Goals as goal
use Rattle.hay_logical.proofs.runs.examine.Goals.{After-peek, After-copy}

-- the replica behind the two calls
peeked : (g : given.Over) (c : goal.After-peek g) → GoesOn g.D.Disk.Tells g.D.Disk.files c.args.replica.now c.peek.new.self
peeked g c = record {
  up = still_up c.args.replica.now c.peek.new.self c.peek.ensures.«open» c.peek.ensures.same c.requires.up;
  sup = c.peek.ensures.sup;
  stuck = c.peek.ensures.stuck;
  stands = c.peek.ensures.stands;
  reach = λ tells. record { deletes = c.peek.ensures.deletes tells; sees = c.peek.ensures.sees tells };
  head = c.peek.ensures.head_file;
}

copied : (g : given.Over) (c : goal.After-copy g) → GoesOn g.D.Disk.Tells g.D.Disk.files c.peek.new.self c.copy.new.self
copied g c = record {
  up = still_up c.peek.new.self c.copy.new.self c.copy.ensures.«open» c.copy.ensures.same (still_up c.args.replica.now c.peek.new.self c.peek.ensures.«open» c.peek.ensures.same c.requires.up);
  sup = c.copy.ensures.sup;
  stuck = c.copy.ensures.stuck;
  stands = c.copy.ensures.stands;
  reach = λ tells. record { deletes = c.copy.ensures.deletes tells; sees = c.copy.ensures.sees tells };
  head = c.copy.ensures.head_file;
}

pub returns-in-Ok-None-clause-examines : goal.returns-in-Ok-None-clause-examines
returns-in-Ok-None-clause-examines g c = record {
  on = peeked g (goal.at.returns-in-Ok-None-clause-examines g c).After-peek;
  goal = c.in-Ok-None.ensures.goal;
  examined = λ tells s run stands has places. (
    λ e. absurd (true≢false (sym e)),
    λ e. (rw c.in-Ok-None.field-0-is at (c.in-Ok-None.ensures.all tells s run has), c.in-Ok-None.ensures.run tells s run has),
  );
  refused = λ tells s run stands has places. tt;
  cause = tt;
}

pub returns-in-Ok-clause-examines : goal.returns-in-Ok-clause-examines
returns-in-Ok-clause-examines g c =
    let r : Copy g.row.D.Denot = c.args.replica.now in
    let x : Copy g.row.D.Denot = c.peek.new.self in
    let y : Copy g.row.D.Denot = c.copy.new.self in
    let peeks = peeked g (goal.at.returns-in-Ok-clause-examines g c).After-peek in
    let copies = copied g (goal.at.returns-in-Ok-clause-examines g c).After-copy in
    record {
      on = goes_after g.D.Disk.Tells g.D.Disk.files r x y peeks copies;
      goal = c.in-Ok.ensures.goal ∙ c.in-Ok-Some.ensures.goal;
      examined = λ tells s run stands has places.
          let next = rw c.in-Ok-Some.field-0-is at (c.in-Ok-Some.ensures.next tells s run has) in
          let latest : IsLatest s.cells c.in-Ok-Some.cell.pair c.latest_in-latest.result =
          subst (λ l. IsLatest s.cells c.in-Ok-Some.cell.pair l) (sym c.latest_in-latest.ensures)
          (latest_is g.D.Piece.Piece.Tells s.cells c.in-Ok-Some.cell.pair (place_in c.row.result c.args.at) next.1.0 next.1.1
          (subst (λ l. PhotoAt g.D.Piece.Piece.Tells (last_cell s.cells c.in-Ok-Some.cell.pair) (place_in l c.args.at)) (sym c.row.ensures.row) (places c.in-Ok-Some.cell.pair))) in (
            λ e. (next_left g.D.Disk.files x s run c.in-Ok-Some.cell next.0, c.in-Ok.ensures.run tells s run next.0 latest),
            λ e. absurd (true≢false e),
          );
      refused = λ tells s run stands has places. tt;
      cause = tt;
    }

pub returns-in-Err-copy-clause-examines : goal.returns-in-Err-copy-clause-examines
returns-in-Err-copy-clause-examines g c =
    let r : Copy g.row.D.Denot = c.args.replica.now in
    let x : Copy g.row.D.Denot = c.peek.new.self in
    let y : Copy g.row.D.Denot = c.copy.new.self in
    let peeks = peeked g (goal.at.returns-in-Err-copy-clause-examines g c).After-peek in
    let copies = copied g (goal.at.returns-in-Err-copy-clause-examines g c).After-copy in
    let goal_stays : goal_of x ≡ goal_of r = c.in-Ok-Some.ensures.goal in
    record {
      on = goes_after g.D.Disk.Tells g.D.Disk.files r x y peeks copies;
      goal = tt;
      examined = λ tells s run stands has places. tt;
      refused = λ tells s run stands has places.
          leaves_none g.D.Disk.files y s run 0 c.in-Err-copy.fault
          (λ e. c.copy.ensures.memory tells (c.in-Err-copy.is ∙ ap Err e) s run (c.in-Ok-Some.ensures.run tells s run has))
          (λ at e. c.copy.ensures.whole tells s run (rw c.in-Ok-Some.field-0-is at (c.in-Ok-Some.ensures.next tells s run has)).0 at (c.in-Err-copy.is ∙ ap Err e));
      cause = step_later g.D.Disk.fault_count 1 1 r x y c.in-Err-copy.fault c.peek.ensures.counts goal_stays
          (λ at meets. meets_later 1 (replica_seen r) (replica_seen x) at (c.peek.ensures.place goal_stays) c.peek.ensures.stays.1 meets)
          (examine_cause g.D.Disk.fault_count x y c.in-Err-copy.fault peeks.up (λ e. c.requires.standing (sym goal_stays ∙ e))
          (λ e. c.copy.ensures.thawed (c.in-Err-copy.is ∙ ap Err e)) (λ n e. c.copy.ensures.none n (c.in-Err-copy.is ∙ ap Err e))
          (λ at e. c.copy.ensures.damaged at (c.in-Err-copy.is ∙ ap Err e))
          c.in-Err-copy.ensures.causes c.in-Err-copy.ensures.ends);
    }

-- why no cell was peeked at
peek_cause : (g : given.Over) (c : goal.In-Err g) → IsStepFault g.D.Disk.fault_count 1 c.args.replica.now c.peek.new.self c.in-Err.fault
peek_cause g c = examine_cause g.D.Disk.fault_count c.args.replica.now c.peek.new.self c.in-Err.fault c.requires.up c.requires.standing
    (λ e. c.peek.ensures.thawed (c.in-Err.is ∙ ap Err e)) (λ n e. c.peek.ensures.none n (c.in-Err.is ∙ ap Err e))
    (λ at e. c.peek.ensures.damaged at (c.in-Err.is ∙ ap Err e)) c.in-Err.ensures.causes c.in-Err.ensures.ends

pub returns-in-Err-clause-examines : goal.returns-in-Err-clause-examines
returns-in-Err-clause-examines g c =
    let r : Copy g.row.D.Denot = c.args.replica.now in
    let x : Copy g.row.D.Denot = c.peek.new.self in
    record {
      on = peeked g (goal.at.returns-in-Err-clause-examines g c).After-peek;
      goal = tt;
      examined = λ tells s run stands has places. tt;
      refused = λ tells s run stands has places.
          leaves_none g.D.Disk.files x s run 0 c.in-Err.fault
          (λ e. absurd (c.peek.ensures.memory (c.in-Err.is ∙ ap Err e)))
          (λ at e. c.peek.ensures.whole tells s run has at (c.in-Err.is ∙ ap Err e));
      cause = peek_cause g c;
    }

-- what is seen of the replica behind them
peek_changes : (g : given.Over) (c : goal.After-peek g) → ChangesRun (replica_seen c.args.replica.now) (replica_seen c.peek.new.self)
peek_changes g c = let p = c.peek.ensures in run_changed c.args.replica.now c.peek.new.self p.stays p.stuck p.bare

copy_changes : (g : given.Over) (c : goal.After-copy g) → ChangesRun (replica_seen c.peek.new.self) (replica_seen c.copy.new.self)
copy_changes g c = let p = c.copy.ensures in run_changed c.peek.new.self c.copy.new.self p.stays p.stuck p.bare

pub returns-in-Ok-None-clause-seen : goal.returns-in-Ok-None-clause-seen
returns-in-Ok-None-clause-seen g c =
    let held = c.in-Ok-None.ensures.goal in
    steps_end c.args.replica.now c.peek.new.self c.requires.standing (peek_changes g (goal.at.returns-in-Ok-None-clause-seen g c).After-peek) held (c.peek.ensures.place held)
    (rw c.in-Ok-None.field-0-is at c.in-Ok-None.ensures.at_end)

pub returns-in-Ok-clause-seen : goal.returns-in-Ok-clause-seen
returns-in-Ok-clause-seen g c =
    let x : Copy g.row.D.Denot = c.peek.new.self in
    let held = c.in-Ok-Some.ensures.goal in
    let peeked : IsPeeked x c.in-Ok-Some.cell = rw c.in-Ok-Some.field-0-is at c.in-Ok-Some.ensures.peeked in
    steps_one c.args.replica.now x c.copy.new.self c.in-Ok-Some.cell.size c.requires.standing (peek_changes g (goal.at.returns-in-Ok-clause-seen g c).After-peek)
    (copy_changes g (goal.at.returns-in-Ok-clause-seen g c).After-copy) held c.in-Ok.ensures.goal (c.peek.ensures.place held) c.in-Ok.ensures.moved
    (peeked_fits x c.in-Ok-Some.cell peeked (λ e. c.requires.standing (sym held ∙ e))) (peeked_small x c.in-Ok-Some.cell peeked (λ e. c.requires.standing (sym held ∙ e)))

pub returns-in-Err-copy-clause-left : goal.returns-in-Err-copy-clause-left
returns-in-Err-copy-clause-left g c =
    let r : Copy g.row.D.Denot = c.args.replica.now in
    let x : Copy g.row.D.Denot = c.peek.new.self in
    let y : Copy g.row.D.Denot = c.copy.new.self in
    let held = c.in-Ok-Some.ensures.goal in (
      changes_through (replica_seen r) (replica_seen x) (replica_seen y) (peek_changes g (goal.at.returns-in-Err-copy-clause-left g c).After-peek)
          (copy_changes g (goal.at.returns-in-Err-copy-clause-left g c).After-copy),
      λ same.
          let stays = c.peek.ensures.place held in
          let next = c.in-Err-copy.ensures.place (same ∙ sym held) in
          let more : next_of x < end_of x = rw c.in-Ok-Some.field-0-is at c.in-Ok-Some.ensures.more in
          let end = c.peek.ensures.stays.1 in
          (omega (arith, next, stays), omega (arith, next, more, end)),
    )

pub returns-in-Err-clause-left : goal.returns-in-Err-clause-left
returns-in-Err-clause-left g c = (
  peek_changes g (goal.at.returns-in-Err-clause-left g c).After-peek,
  λ same. absurd (c.requires.standing (sym same ∙ step_ends g.D.Disk.fault_count 1 c.args.replica.now c.peek.new.self c.in-Err.fault
      (λ e. c.peek.ensures.memory (c.in-Err.is ∙ ap Err e)) (peek_cause g c))),
)

pub returns-in-Ok-None-clause-bytes : goal.returns-in-Ok-None-clause-bytes
returns-in-Ok-None-clause-bytes g c = c.peek.ensures.bytes

pub returns-in-Ok-clause-bytes : goal.returns-in-Ok-clause-bytes
returns-in-Ok-clause-bytes g c = λ tells. c.copy.ensures.bytes tells ∙ c.peek.ensures.bytes tells

pub returns-in-Err-copy-clause-bytes : goal.returns-in-Err-copy-clause-bytes
returns-in-Err-copy-clause-bytes g c = λ tells. c.copy.ensures.bytes tells ∙ c.peek.ensures.bytes tells

pub returns-in-Err-clause-bytes : goal.returns-in-Err-clause-bytes
returns-in-Err-clause-bytes g c = c.peek.ensures.bytes

pub returns-in-Ok-None-clause-lead : goal.returns-in-Ok-None-clause-lead
returns-in-Ok-None-clause-lead g c = λ tells.
    heads_none (sights_of c.args.rows.now) c.args.at (next_of c.args.replica.now) (next_of c.peek.new.self) (volume_bytes g.D.Disk.files c.args.replica.now)
    (c.peek.ensures.place c.in-Ok-None.ensures.goal)

pub returns-in-Ok-clause-lead : goal.returns-in-Ok-clause-lead
returns-in-Ok-clause-lead g c = λ tells.
    let r : Copy g.row.D.Denot = c.args.replica.now in
    let x : Copy g.row.D.Denot = c.peek.new.self in
    let head = rw c.in-Ok-Some.field-0-is at (c.in-Ok-Some.ensures.head tells) in
    let latest : c.latest_in-latest.result ≡ latest_sight (sights_of c.args.rows.now c.in-Ok-Some.cell.pair c.args.at) =
    c.latest_in-latest.ensures ∙ ap (λ row. latest_of (place_in row c.args.at)) c.row.ensures.row ∙ latest_seen c.args.rows.now c.in-Ok-Some.cell.pair c.args.at in
    let met = subst (λ (l : Option ℕ). IsPassedOrStands (next_of x) c.in-Ok-Some.cell l (volume_bytes g.D.Disk.files x)) latest (c.in-Ok.ensures.met tells) in
    heads_one (sights_of c.args.rows.now) c.args.at (next_of r) (next_of x) (next_of c.copy.new.self) (volume_bytes g.D.Disk.files r) (volume_bytes g.D.Disk.files x) c.in-Ok-Some.cell
    (c.peek.ensures.place c.in-Ok-Some.ensures.goal) (c.peek.ensures.bytes tells) c.in-Ok.ensures.moved head met

pub returns-in-Err-copy-clause-damaged : goal.returns-in-Err-copy-clause-damaged
returns-in-Err-copy-clause-damaged g c = λ tells place is.
    let r : Copy g.row.D.Denot = c.args.replica.now in
    let x : Copy g.row.D.Denot = c.peek.new.self in
    let head = rw c.in-Ok-Some.field-0-is at (c.in-Ok-Some.ensures.head tells) in
    let same : c.in-Err-copy.fault ≡ fault.Damaged place = cc in
    let here = c.copy.ensures.damaged place (c.in-Err-copy.is ∙ ap (λ (f : ReplicaFault). Err f) same) in
    lacks_there (sights_of c.args.rows.now) c.args.at 1 place (replica_seen r) (replica_seen x) (volume_bytes g.D.Disk.files r) (volume_bytes g.D.Disk.files x)
    (c.peek.ensures.place c.in-Ok-Some.ensures.goal) c.peek.ensures.stays.1 (c.peek.ensures.bytes tells)
    (lacks_next (sights_of c.args.rows.now) c.args.at place (replica_seen x) (volume_bytes g.D.Disk.files x) here.0
    (c.in-Err-copy.ensures.lacks tells head place (ap (λ (f : ReplicaFault). Err f) same)))

pub returns-in-Err-clause-damaged : goal.returns-in-Err-clause-damaged
returns-in-Err-clause-damaged g c = λ tells place is.
    let same : c.in-Err.fault ≡ fault.Damaged place = cc in
    let here = c.peek.ensures.damaged place (c.in-Err.is ∙ ap (λ (f : ReplicaFault). Err f) same) in
    lacks_next (sights_of c.args.rows.now) c.args.at place (replica_seen c.args.replica.now) (volume_bytes g.D.Disk.files c.args.replica.now) here.0
    (c.in-Err.ensures.lacks tells place (ap (λ (f : ReplicaFault). Err f) same))

pub returns-in-Err-copy-clause-wanting : goal.returns-in-Err-copy-clause-wanting
returns-in-Err-copy-clause-wanting g c = λ is.
    let x : Copy g.row.D.Denot = c.peek.new.self in
    let y : Copy g.row.D.Denot = c.copy.new.self in
    let same : c.in-Err-copy.fault ≡ fault.NoMemory = cc in
    let stays = subst (λ (f : ReplicaFault). EndsRun (g.D.Disk.fault_count y.disk) x y f) same c.in-Err-copy.ensures.ends in
    c.in-Err-copy.ensures.place stays ∙ c.peek.ensures.place c.in-Ok-Some.ensures.goal

pub returns-in-Err-clause-wanting : goal.returns-in-Err-clause-wanting
returns-in-Err-clause-wanting g c = λ is.
    let same : c.in-Err.fault ≡ fault.NoMemory = cc in
    absurd (c.peek.ensures.memory (c.in-Err.is ∙ ap (λ (f : ReplicaFault). Err f) same))
