use Rattle.std.proofs.Common.{◌≡◌, Err, Ok, true, length, refl, sym, ap, subst}
use Rattle.hay_physical.specs.OpenCopies.{Copy, volume_bytes}
use Rattle.hay_physical.specs.Faults as physical_faults
use Rattle.hay_physical.specs.declared.fault.ReplicaFault.{ReplicaFault}
use Rattle.hay_logical.specs.ReplicaCalls.{BeginsAt}
use Rattle.hay_logical.specs.ReplicaCalls.Start.{Fresh, Going}
use Rattle.hay_logical.proofs.Beginning.{begin_holds, begin_left, begins}
use Rattle.hay_logical.proofs.Calls.{up_open}
use Rattle.hay_logical.proofs.Reaching.{reaches_on}
use Rattle.hay_logical.proofs.Swapping.{keeps_rows, stays_later, swaps_later}
use Rattle.hay_logical.proofs.runs.compact.Given as given
use Rattle.hay_physical.proofs.Views.{if_ok_so, on_err_so, on_ok_one}
use Rattle.hay_logical.proofs.Damages.{heads_anew, lacks_anew, meets_anew}
use Rattle.hay_logical.proofs.Seen.{changes_through, run_changed, swap_later}
use Rattle.hay_logical.specs.Seen.{replica_seen}
use Rattle.hay_logical.specs.Sights.{sights_of}
use Rattle.hay_logical.proofs.runs.compact.Goals as goal
use Rattle.hay_logical.proofs.runs.compact.Goals.{After-begin}

-- what the beginning has left
begun : (g : given.Over) (c : After-begin g) → BeginsAt g.D.Disk.Tells g.D.Disk.files g.D.Disk.fault_count c.args.replica.now c.begin.new.self c.begin.result
begun g c =
    let e = c.begin.ensures in
    begins g.D.Disk.Tells g.D.Disk.files g.D.Disk.fault_count c.args.replica.now c.begin.new.self c.begin.result c.requires.up e.«open» e.same e.sup e.stuck e.stands
    (λ tells. record { deletes = e.deletes tells; sees = e.sees tells }) e.head_file
    e.busy e.worn e.thawed e.idle e.most e.last e.begun e.goal e.kept e.causes

pub returns-in-Ok-clause-swaps : goal.returns-in-Ok-clause-swaps
returns-in-Ok-clause-swaps g c =
    let r : Copy g.row.D.Denot = c.args.replica.now in
    let x : Copy g.row.D.Denot = c.begin.new.self in
    let y : Copy g.row.D.Denot = c.finish.new.replica in
    let began : BeginsAt g.D.Disk.Tells g.D.Disk.files g.D.Disk.fault_count r x (Ok c.in-Ok.field-0) =
    subst (λ z. BeginsAt g.D.Disk.Tells g.D.Disk.files g.D.Disk.fault_count r x z) c.in-Ok.is (begun g (goal.at.returns-in-Ok-clause-swaps g c).After-begin) in
    swaps_later g.D.Disk.Tells g.D.Disk.files g.D.Disk.fault_count g.D.Piece.Piece.Tells c.args.rows.now c.finish.new.rows c.args.at r x y c.finish.result Fresh Going
    (λ e. let wrong : Going ≡ Fresh = e in cc)
    c.requires.up began.on began.rest c.begin.ensures.counts
    (λ place. meets_anew (replica_seen r) (replica_seen x) place c.in-Ok.ensures.first c.begin.ensures.stays.1)
    (λ tells s run stands start places.
    let has = began.begun tells s stands in
    (record { goal = c.in-Ok.field-0; left = length s.cells; tight = true }, ap (λ z. z.tight) (sym start.1), has.1))
    c.finish.ensures.swaps

pub returns-in-Ok-clause-stays : goal.returns-in-Ok-clause-stays
returns-in-Ok-clause-stays g c =
    let began = begun g (goal.at.returns-in-Ok-clause-stays g c).After-begin in
    stays_later g.D.Disk.Tells g.D.Disk.files c.args.replica.now c.begin.new.self c.finish.new.replica c.finish.result began.on.reach c.finish.ensures.stays

pub returns-in-Err-clause-stays : goal.returns-in-Err-clause-stays
returns-in-Err-clause-stays g c = let began = begun g (goal.at.returns-in-Err-clause-stays g c).After-begin in began.on.reach

pub returns-in-Err-clause-swaps : goal.returns-in-Err-clause-swaps
returns-in-Err-clause-swaps g c =
    let r : Copy g.row.D.Denot = c.args.replica.now in
    let x : Copy g.row.D.Denot = c.begin.new.self in
    let began : BeginsAt g.D.Disk.Tells g.D.Disk.files g.D.Disk.fault_count r x (Err c.in-Err.fault) =
    subst (λ z. BeginsAt g.D.Disk.Tells g.D.Disk.files g.D.Disk.fault_count r x z) c.in-Err.is (begun g (goal.at.returns-in-Err-clause-swaps g c).After-begin) in
    record {
      «open» = up_open x began.on.up;
      sup = began.on.sup;
      up = tt;
      left = begin_left g.D.Disk.Tells g.D.Disk.files g.D.Disk.fault_count r x c.in-Err.fault began.on.up began.kept began.cause;
      swapped = λ tells s run stands start places. tt;
      sizes = λ tells. tt;
      still = began.on.stuck;
      removed = λ tells s stands. tt;
      refused = λ tells s run stands start places.
          begin_holds g.D.Disk.Tells g.D.Disk.files g.D.Disk.fault_count r x s run c.in-Err.fault (began.on.stands tells s stands) began.on.stuck
          (λ e. began.last tells s stands (ap Err e)) began.cause;
      reach = λ tells reach.
          reaches_on g.D.Disk.files c.args.rows.now c.args.rows.now c.args.at r x (λ u. c.requires.up) (λ u. up_open r c.requires.up) (began.on.reach tells) (λ pair. refl) reach;
      head = λ tells up. began.on.head tells;
    }

pub returns-in-Err-clause-places : goal.returns-in-Err-clause-places
returns-in-Err-clause-places g c = keeps_rows c.args.rows.now c.args.at _

pub returns-in-Ok-clause-seen : goal.returns-in-Ok-clause-seen
returns-in-Ok-clause-seen g c =
    let stays = c.begin.ensures.stays in
    if_ok_so c.finish.result _ _ (λ files seen. swap_later (replica_seen c.args.replica.now) (replica_seen c.begin.new.self)
    (replica_seen c.finish.new.replica) files.generation files.end stays.0 stays.1 seen) c.finish.ensures.seen

pub returns-in-Ok-clause-kept : goal.returns-in-Ok-clause-kept
returns-in-Ok-clause-kept g c =
    let r : Copy g.row.D.Denot = c.args.replica.now in
    let x : Copy g.row.D.Denot = c.begin.new.self in
    let b = c.begin.ensures in
    on_err_so c.finish.result _ _ (λ kept. changes_through (replica_seen r) (replica_seen x) (replica_seen c.finish.new.replica) (run_changed r x b.stays b.stuck b.bare) kept) c.finish.ensures.kept

pub returns-in-Err-clause-kept : goal.returns-in-Err-clause-kept
returns-in-Err-clause-kept g c = let b = c.begin.ensures in run_changed c.args.replica.now c.begin.new.self b.stays b.stuck b.bare

pub returns-in-Ok-clause-lead : goal.returns-in-Ok-clause-lead
returns-in-Ok-clause-lead g c = λ tells.
    on_ok_one c.finish.result _ _
    (heads_anew (sights_of c.args.rows.now) c.args.at (replica_seen c.args.replica.now) (replica_seen c.begin.new.self) (volume_bytes g.D.Disk.files c.args.replica.now)
    (volume_bytes g.D.Disk.files c.begin.new.self)
    c.in-Ok.ensures.first c.begin.ensures.stays.1 (c.begin.ensures.bytes tells))
    (c.finish.ensures.lead tells)

pub returns-in-Ok-clause-damaged : goal.returns-in-Ok-clause-damaged
returns-in-Ok-clause-damaged g c = λ tells place is.
    lacks_anew (sights_of c.args.rows.now) c.args.at place (replica_seen c.args.replica.now) (replica_seen c.begin.new.self) (volume_bytes g.D.Disk.files c.args.replica.now)
    (volume_bytes g.D.Disk.files c.begin.new.self)
    c.in-Ok.ensures.first c.begin.ensures.stays.1 (c.begin.ensures.bytes tells) (c.finish.ensures.damaged tells place is)

pub returns-in-Err-clause-damaged : goal.returns-in-Err-clause-damaged
returns-in-Err-clause-damaged g c = λ tells place is.
    let same : c.in-Err.fault ≡ ReplicaFault.Damaged place = cc in
    absurd (subst (λ (f : ReplicaFault). physical_faults.IsBeginFault (g.D.Disk.fault_count (c.args.replica.now).disk) (g.D.Disk.fault_count (c.begin.new.self).disk) f) same c.in-Err.ensures.causes)

pub returns-in-Ok-clause-unsure : goal.returns-in-Ok-clause-unsure
returns-in-Ok-clause-unsure g c = λ tells f is.
    heads_anew (sights_of c.args.rows.now) c.args.at (replica_seen c.args.replica.now) (replica_seen c.begin.new.self) (volume_bytes g.D.Disk.files c.args.replica.now)
    (volume_bytes g.D.Disk.files c.begin.new.self)
    c.in-Ok.ensures.first c.begin.ensures.stays.1 (c.begin.ensures.bytes tells) (c.finish.ensures.unsure tells f is)

pub returns-in-Err-clause-unsure : goal.returns-in-Err-clause-unsure
returns-in-Err-clause-unsure g c = λ tells f is. absurd cc
