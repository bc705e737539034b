use Rattle.std.proofs.Common.{◌≡◌, ◌≤◌, ℕ, List, Err, ◌<◌, ◌+◌, Some, refl, sym, ap, subst, ◌∙◌, arith}
use Rattle.hay_physical.specs.declared.fault.ReplicaFault.{ReplicaFault}
use Rattle.hay_physical.specs.declared.fault.ReplicaFault.TheVariants as fault
use Rattle.std.specs.Prelude.{if◌then◌else◌, min}
use Rattle.hay_physical.specs.CompactionRuns.{HasRun, Run}
use Rattle.hay_logical.specs.ReplicaCalls.{stepped_by}
use Rattle.hay_logical.proofs.Examining.{goes_after, goes_none, leaves_some, step_later, step_more, step_none}
use Rattle.hay_logical.proofs.Seen.{steps_break, steps_more, steps_none, steps_stop}
use Rattle.hay_logical.specs.Seen.{ReplicaSeen, StepsTo, replica_seen}
use Rattle.hay_logical.proofs.Damages.{heads_more, heads_none, lacks_behind, meets_behind}
use Rattle.hay_logical.specs.Needles.{HeadsLead}
use Rattle.hay_logical.specs.Sights.{sights_of}
use Rattle.hay_physical.specs.OpenCopies.{next_of, volume_bytes}
use Rattle.hay_logical.proofs.runs.step.Goals as goal

pub loop-examined-init : goal.loop-examined-init
loop-examined-init g c = record {
  on = goes_none g.D.Disk.Tells g.D.Disk.files c.args.replica.now c.requires.up;
  goal = refl;
  seen = steps_none c.args.replica.now c.requires.standing;
  counts = omega arith;
  bytes = λ tells. refl;
  lead = λ tells. heads_none (sights_of c.args.rows.now) c.args.at (next_of c.args.replica.now) (next_of c.args.replica.now) (volume_bytes g.D.Disk.files c.args.replica.now) refl;
  fuses = refl;
  stepped = λ tells s run stands has places. ((let low : 0 ≤ run.left = omega arith in low), subst (λ (x : Run). HasRun g.D.Disk.files c.args.replica.now s (Some x)) (sym (step_none run)) has);
}

pub loop-examined-preserved : goal.loop-examined-preserved
loop-examined-preserved g c =
    let was = c.loop-examined.invariant in
    let counts = c.examine.ensures.counts in
    record {
      on = goes_after g.D.Disk.Tells g.D.Disk.files c.args.replica.now c.loop-examined.replica c.examine.new.replica was.on c.in-Ok-true.ensures.examines.on;
      goal = c.in-Ok-true.ensures.examines.goal ∙ was.goal;
      seen = steps_more c.loop-examined.examined (replica_seen c.args.replica.now) (replica_seen c.loop-examined.replica) (replica_seen c.examine.new.replica) was.seen
          (subst (λ more. StepsTo 1 (if more then 1 else 0) (replica_seen c.loop-examined.replica) (replica_seen c.examine.new.replica)) c.in-Ok-true.field-0-test c.in-Ok-true.ensures.seen);
      counts = (let low = was.counts in omega (arith, low, counts));
      bytes = λ tells. c.examine.ensures.bytes tells ∙ was.bytes tells;
      lead = λ tells.
          heads_more (sights_of c.args.rows.now) c.args.at c.loop-examined.examined 1 (next_of c.args.replica.now) (next_of c.loop-examined.replica) (next_of c.examine.new.replica)
          (volume_bytes g.D.Disk.files c.args.replica.now) (was.lead tells)
          (subst (λ more. HeadsLead (sights_of c.args.rows.now) c.args.at (if more then 1 else 0) (next_of c.loop-examined.replica) (next_of c.examine.new.replica)
          (volume_bytes g.D.Disk.files c.args.replica.now)) c.in-Ok-true.field-0-test
          (subst (λ (l : List ℕ). HeadsLead (sights_of c.args.rows.now) c.args.at (if c.in-Ok-true.field-0 then 1 else 0) (next_of c.loop-examined.replica)
          (next_of c.examine.new.replica) l) (was.bytes tells) (c.in-Ok-true.ensures.lead tells)));
      fuses = c.examine.ensures.fuses ∙ was.fuses;
      stepped = λ tells s run stands has places.
          let so_far = was.stepped tells s run stands has places in
          let here = (c.in-Ok-true.ensures.examines.examined tells s (stepped_by c.loop-examined.examined run) (was.on.stands tells s stands) so_far.1 places).0 c.in-Ok-true.field-0-test in
          let few = so_far.0 in
          let some = here.0 in (
            (let low : c.loop-examined.examined + 1 ≤ run.left = omega (arith, few, some) in low),
            subst (λ (x : Run). HasRun g.D.Disk.files c.examine.new.replica s (Some x)) (step_more c.loop-examined.examined 1 run) here.1,
          );
    }

pub returns-in-Ok-false-clause-steps : goal.returns-in-Ok-false-clause-steps
returns-in-Ok-false-clause-steps g c =
    let was = c.loop-examined.invariant in
    record {
      on = goes_after g.D.Disk.Tells g.D.Disk.files c.args.replica.now c.loop-examined.replica c.examine.new.replica was.on c.in-Ok-false.ensures.examines.on;
      goal = c.in-Ok-false.ensures.examines.goal ∙ was.goal;
      stepped = λ tells s run stands has places.
          let so_far = was.stepped tells s run stands has places in
          let here = (c.in-Ok-false.ensures.examines.examined tells s (stepped_by c.loop-examined.examined run) (was.on.stands tells s stands) so_far.1 places).1 c.in-Ok-false.field-0-test in
          let few = so_far.0 in
          let none = here.0 in
          let low = c.loop-examined-test.true in (
            (let e : c.loop-examined.examined ≡ min c.args.cells run.left = omega (arith, few, none, low) in e),
            here.1,
          );
      refused = λ tells s run stands has places. tt;
      cause = tt;
    }

pub returns-in-Err-clause-steps : goal.returns-in-Err-clause-steps
returns-in-Err-clause-steps g c =
    let was = c.loop-examined.invariant in
    record {
      on = goes_after g.D.Disk.Tells g.D.Disk.files c.args.replica.now c.loop-examined.replica c.examine.new.replica was.on c.in-Err.ensures.examines.on;
      goal = tt;
      stepped = λ tells s run stands has places. tt;
      refused = λ tells s run stands has places.
          let so_far = was.stepped tells s run stands has places in
          let test = c.loop-examined-test.true in
          let low : c.loop-examined.examined < c.args.cells = omega (arith, test) in
          leaves_some g.D.Disk.files c.examine.new.replica s run c.args.cells c.loop-examined.examined c.in-Err.fault low so_far.0
          (c.in-Err.ensures.examines.refused tells s (stepped_by c.loop-examined.examined run) (was.on.stands tells s stands) so_far.1 places);
      cause = step_later g.D.Disk.fault_count c.args.cells 1 c.args.replica.now c.loop-examined.replica c.examine.new.replica c.in-Err.fault was.counts was.goal
          (λ at. meets_behind c.args.cells c.loop-examined.examined (replica_seen c.args.replica.now) (replica_seen c.loop-examined.replica) at
          (let test = c.loop-examined-test.true in omega (arith, test)) was.seen)
          c.in-Err.ensures.examines.cause;
    }

pub returns-clause-steps : goal.returns-clause-steps
returns-clause-steps g c =
    let was = c.loop-examined.invariant in
    record {
      on = was.on;
      goal = was.goal;
      stepped = λ tells s run stands has places.
          let so_far = was.stepped tells s run stands has places in
          let few = so_far.0 in
          let done : c.loop-examined.examined ≡ c.args.cells = omega arith in (
            (let e : c.args.cells ≡ min c.args.cells run.left = omega (arith, few, done) in e),
            subst (λ n. HasRun g.D.Disk.files c.loop-examined.replica s (Some (stepped_by n run))) done so_far.1,
          );
      refused = λ tells s run stands has places. tt;
      cause = tt;
    }

pub returns-in-Ok-false-clause-seen : goal.returns-in-Ok-false-clause-seen
returns-in-Ok-false-clause-seen g c =
    let less = c.loop-examined-test.true in
    let few : c.loop-examined.examined ≤ c.args.cells = omega (arith, less) in
    steps_stop c.args.cells c.loop-examined.examined (replica_seen c.args.replica.now) (replica_seen c.loop-examined.replica) (replica_seen c.examine.new.replica) few c.loop-examined.invariant.seen
    (subst (λ more. StepsTo 1 (if more then 1 else 0) (replica_seen c.loop-examined.replica) (replica_seen c.examine.new.replica)) c.in-Ok-false.field-0-test c.in-Ok-false.ensures.seen)

pub returns-in-Err-clause-left : goal.returns-in-Err-clause-left
returns-in-Err-clause-left g c =
    steps_break c.loop-examined.examined (replica_seen c.args.replica.now) (replica_seen c.loop-examined.replica)
    (replica_seen c.examine.new.replica) c.loop-examined.invariant.seen c.in-Err.ensures.left

pub returns-clause-seen : goal.returns-clause-seen
returns-clause-seen g c =
    let done : c.loop-examined.examined ≡ c.args.cells = omega arith in
    subst (λ n. StepsTo n n (replica_seen c.args.replica.now) (replica_seen c.loop-examined.replica)) done c.loop-examined.invariant.seen

pub returns-in-Err-clause-damaged : goal.returns-in-Err-clause-damaged
returns-in-Err-clause-damaged g c = λ tells place is.
    let was = c.loop-examined.invariant in
    let same : c.in-Err.fault ≡ fault.Damaged place = cc in
    let test = c.loop-examined-test.true in
    lacks_behind (sights_of c.args.rows.now) c.args.at c.args.cells c.loop-examined.examined place (replica_seen c.args.replica.now) (replica_seen c.loop-examined.replica)
    (volume_bytes g.D.Disk.files c.args.replica.now) (volume_bytes g.D.Disk.files c.loop-examined.replica) (omega (arith, test)) (was.lead tells)
    (ap (λ (s : ReplicaSeen). s.end) was.seen.only) (was.bytes tells)
    (c.in-Err.ensures.damaged tells place (ap (λ (f : ReplicaFault). Err f) same))

pub returns-in-Ok-false-clause-lead : goal.returns-in-Ok-false-clause-lead
returns-in-Ok-false-clause-lead g c = λ tells.
    let was = c.loop-examined.invariant in
    let same : next_of c.examine.new.replica ≡ next_of c.loop-examined.replica =
    (subst (λ more. StepsTo 1 (if more then 1 else 0) (replica_seen c.loop-examined.replica) (replica_seen c.examine.new.replica)) c.in-Ok-false.field-0-test c.in-Ok-false.ensures.seen).none refl in
    subst (λ n. HeadsLead (sights_of c.args.rows.now) c.args.at c.loop-examined.examined (next_of c.args.replica.now) n (volume_bytes g.D.Disk.files c.args.replica.now)) (sym same) (was.lead tells)

pub returns-clause-lead : goal.returns-clause-lead
returns-clause-lead g c = λ tells.
    let done : c.loop-examined.examined ≡ c.args.cells = omega arith in
    subst (λ n. HeadsLead (sights_of c.args.rows.now) c.args.at n (next_of c.args.replica.now) (next_of c.loop-examined.replica) (volume_bytes g.D.Disk.files c.args.replica.now))
    done (c.loop-examined.invariant.lead tells)

pub returns-in-Err-clause-part : goal.returns-in-Err-clause-part
returns-in-Err-clause-part g c = λ tells is.
    let was = c.loop-examined.invariant in
    let same : c.in-Err.fault ≡ fault.NoMemory = cc in
    let stays = c.in-Err.ensures.wanting (ap (λ (f : ReplicaFault). Err f) same) in (
      c.loop-examined.examined,
      (let test = c.loop-examined-test.true in omega (arith, test)),
      subst (λ n. HeadsLead (sights_of c.args.rows.now) c.args.at c.loop-examined.examined (next_of c.args.replica.now) n (volume_bytes g.D.Disk.files c.args.replica.now))
          (sym stays) (was.lead tells),
    )
