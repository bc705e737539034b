use Rattle.std.proofs.Common.{◌≡◌, ◌⊎◌, inl, inr, ℕ, List, None, Some, refl, sym, ap, subst, ◌∙◌, arith}
use Rattle.std.specs.Prelude.{Err, IfErr, Ok, OnErr, OnOk, Result}
use Rattle.std.proofs.lemmas.Result.{IfErr-at_err}
use Rattle.hay_physical.specs.OpenCopies.{Copy, KeepsHead, contents_of}
use Rattle.hay_physical.proofs.Views.{on_err_so}
use Rattle.hay_logical.specs.Volumes.{Volume}
use Rattle.hay_cluster.specs.declared.maintenance.Maintenance.{Maintenance}
use Rattle.std.specs.Prelude.{IfOk}
use Rattle.hay_logical.specs.Seen.{volume_seen}
use Rattle.hay_cluster.specs.Seen.{WorkRefusedSeen, WorkSeen}
use Rattle.hay_cluster.proofs.SeenWork.{frozen_cause, frozen_refused, frozen_refused_seen}
use Rattle.hay_logical.specs.Sights.{Sights, sights_of}
use Rattle.hay_cluster.specs.Sights.{DoneSights}
use Rattle.hay_physical.specs.OpenCopies.{volume_bytes}
use Rattle.hay_logical.proofs.Damages.{heads_none}
use Rattle.hay_logical.specs.Needles.{HeadsLeadOn, HeadsLeadPart, IsDamagedCell}
use Rattle.hay_logical.specs.Seen.{ReplicaSeen, begun, replica_seen}
use Rattle.hay_logical.specs.declared.fault.LogicalFault.{LogicalFault}
use Rattle.hay_logical.specs.declared.fault.LogicalFault.TheVariants as refusal
use Rattle.hay_cluster.specs.declared.maintenance.Maintenance.TheVariants.{Flush, Begin, Step, Finish, Compact}
use Rattle.hay_cluster.specs.Maintenance.{HasSwapped, MayWantMemory}
use Rattle.hay_cluster.specs.Needles.{LacksWork, LeadsPart, LeadsSwap, LeadsWork}
use Rattle.hay_cluster.proofs.maintenance.maintain.Goals as goal

some_none : {X : Type 0} {x : X} → Some x ≡ None → ⊥
some_none is = cc

one_copy : {D : Type 0} (r r' : Copy D) → Some r ≡ Some r' → r' ≡ r
one_copy r r' is = cc

on_ok : {T E : Type 0} (r : Result T E) (Q : Type 0) → Q → OnOk r Q
on_ok (Ok x) Q q = q
on_ok (Err e) Q q = tt

on_err : {T E : Type 0} (r : Result T E) (Q : Type 0) → Q → OnErr r Q
on_err (Ok x) Q q = tt
on_err (Err e) Q q = q

if_ok : {T E : Type 0} (r : Result T E) → IfOk r (λ x. Unit {0})
if_ok (Ok x) = tt
if_ok (Err e) = tt

if_ok_by : {T E : Type 0} (r : Result T E) (Q : Type 0) (P : T → Type 0) → (Q → (x : T) → P x) → OnOk r Q → IfOk r P
if_ok_by (Ok x) Q P makes q = makes q x
if_ok_by (Err e) Q P makes q = tt

if_err_made : {T E : Type 0} (r : Result T E) (P : E → Type 0) → ((e : E) → r ≡ Err e → P e) → IfErr r P
if_err_made (Ok x) P makes = tt
if_err_made (Err e) P makes = makes e refl

-- the files were swapped, or this is so
finished_or : (r : Result ℕ LogicalFault) (Q : Type 0) → OnErr r Q → HasSwapped Finish r ⊎ Q
finished_or (Ok n) Q q = inl tt
finished_or (Err fault) Q q = inr q

compacted_or : (r : Result ℕ LogicalFault) (Q : Type 0) → OnErr r Q → HasSwapped Compact r ⊎ Q
compacted_or (Ok n) Q q = inl tt
compacted_or (Err fault) Q q = inr q

-- work that examined nothing
none_led : (sights : Sights) (j : ℕ) (work : Maintenance) (r : ReplicaSeen) (file : List ℕ) → LeadsPart sights j work r r file
none_led sights j (Step cells) r file = (0, omega arith, heads_none sights j r.next r.next file refl)
none_led sights j Flush r file = tt
none_led sights j Begin r file = tt
none_led sights j Finish r file = tt
none_led sights j Compact r file = tt

-- a step that was refused
step_led : (sights : Sights) (j cells : ℕ) (r r' : ReplicaSeen) (file : List ℕ) (fault : LogicalFault) → (fault ≡ refusal.NoMemory → HeadsLeadPart sights j cells r.next r'.next file)
    → ((m : ℕ) → fault ≡ refusal.ReadOnly m → ⊥) → MayWantMemory fault → LeadsPart sights j (Step cells) r r' file
step_led sights j cells r r' file refusal.NoMemory part thawed wants = let led = part refl in (led.0, (let few = led.1 in omega (arith, few)), led.2)
step_led sights j cells r r' file (refusal.ReadOnly m) part thawed wants = absurd (thawed m refl)
step_led sights j cells r r' file (refusal.Failed m f) part thawed wants = absurd wants
step_led sights j cells r r' file (refusal.Busy m generation) part thawed wants = absurd wants
step_led sights j cells r r' file (refusal.Worn m) part thawed wants = absurd wants
step_led sights j cells r r' file refusal.Idle part thawed wants = absurd wants
step_led sights j cells r r' file (refusal.Damaged m at) part thawed wants = absurd wants
step_led sights j cells r r' file (refusal.Full m end need capacity) part thawed wants = absurd wants
step_led sights j cells r r' file (refusal.Gone front) part thawed wants = absurd wants

pub returns-in-Finish-clause-others : goal.returns-in-Finish-clause-others
returns-in-Finish-clause-others g c = λ j apart r r' was now. (c.finish.ensures.beside j apart r r' was now).disk

pub returns-in-Compact-clause-others : goal.returns-in-Compact-clause-others
returns-in-Compact-clause-others g c = λ j apart r r' was now. (c.compact.ensures.beside j apart r r' was now).disk

pub returns-in-Some-clause-refused : goal.returns-in-Some-clause-refused
returns-in-Some-clause-refused g c = λ tells k stands.
    frozen_refused g.D.Disk.files g.D.Piece.Piece.Tells c.args.work k c.args.replica c.args.volume.now c.in-Some.machine (sym (c.frozen.ensures.known tells k stands) ∙ c.in-Some.is)

pub returns-in-Some-clause-causes : goal.returns-in-Some-clause-causes
returns-in-Some-clause-causes g c =
    frozen_cause g.D.Disk.fault_count (c.args.volume.now).settings c.args.work (c.args.volume.now).number c.args.replica (c.args.volume.now).replicas (c.args.volume.now).replicas
    c.in-Some.machine (c.in-Some.ensures).on

pub returns-in-Some-clause-frozen : goal.returns-in-Some-clause-frozen
returns-in-Some-clause-frozen g c = λ m so. let same : Some c.in-Some.machine ≡ Some m = sym c.in-Some.is ∙ c.frozen.ensures.is ∙ so in cc

pub returns-in-Some-clause-untouched : goal.returns-in-Some-clause-untouched
returns-in-Some-clause-untouched g c = λ untouched. refl

pub returns-in-Some-clause-others : goal.returns-in-Some-clause-others
returns-in-Some-clause-others g c = λ j apart r r' at at'. ap (λ (x : Copy g.row.D.Denot). x.disk) (one_copy r r' (sym at ∙ at'))

pub returns-in-Some-clause-counts : goal.returns-in-Some-clause-counts
returns-in-Some-clause-counts g c = record {
  count = refl;
  rises = λ j r r' at at'. let same = ap (λ (x : Copy g.row.D.Denot). g.D.Disk.fault_count x.disk) (one_copy r r' (sym at ∙ at')) in omega (arith, same);
  stay = λ j r r' at at'. ap (λ (x : Copy g.row.D.Denot). g.D.Disk.fuse_count x.disk) (one_copy r r' (sym at ∙ at'));
}

pub returns-in-Some-clause-same : goal.returns-in-Some-clause-same
returns-in-Some-clause-same g c = record { settings = refl; number = refl; sups = λ j r r' at at'. ap (λ (x : Copy g.row.D.Denot). x.sup) (one_copy r r' (sym at ∙ at')) }

pub returns-in-Flush-clause-frozen : goal.returns-in-Flush-clause-frozen
returns-in-Flush-clause-frozen g c = λ m so. absurd (some_none (sym so ∙ sym c.frozen.ensures.is ∙ c.in_default.is))

pub returns-in-Begin-clause-frozen : goal.returns-in-Begin-clause-frozen
returns-in-Begin-clause-frozen g c = λ m so. absurd (some_none (sym so ∙ sym c.frozen.ensures.is ∙ c.in_default.is))

pub returns-in-Step-clause-frozen : goal.returns-in-Step-clause-frozen
returns-in-Step-clause-frozen g c = λ m so. absurd (some_none (sym so ∙ sym c.frozen.ensures.is ∙ c.in_default.is))

pub returns-in-Finish-clause-frozen : goal.returns-in-Finish-clause-frozen
returns-in-Finish-clause-frozen g c = λ m so. absurd (some_none (sym so ∙ sym c.frozen.ensures.is ∙ c.in_default.is))

pub returns-in-Compact-clause-frozen : goal.returns-in-Compact-clause-frozen
returns-in-Compact-clause-frozen g c = λ m so. absurd (some_none (sym so ∙ sym c.frozen.ensures.is ∙ c.in_default.is))

pub returns-in-Some-clause-refused_seen : goal.returns-in-Some-clause-refused_seen
returns-in-Some-clause-refused_seen g c =
    frozen_refused_seen (c.args.volume.now).settings c.args.work (c.args.volume.now).number c.args.replica c.in-Some.machine (volume_seen c.args.volume.now) (sym c.frozen.ensures.is ∙ c.in-Some.is)

pub returns-in-Flush-clause-seen : goal.returns-in-Flush-clause-seen
returns-in-Flush-clause-seen g c =
    subst (λ (work : Maintenance). IfOk c.flush.result (λ number. WorkSeen work c.args.replica number (volume_seen c.args.volume.now) (volume_seen c.flush.new.self)))
    (sym c.in-Flush.is) c.flush.ensures.seen

pub returns-in-Flush-clause-refused_seen : goal.returns-in-Flush-clause-refused_seen
returns-in-Flush-clause-refused_seen g c =
    subst (λ (work : Maintenance). IfErr c.flush.result (λ fault. WorkRefusedSeen (c.args.volume.now).settings work (c.args.volume.now).number c.args.replica fault
    (volume_seen c.args.volume.now) (volume_seen c.flush.new.self))) (sym c.in-Flush.is) c.flush.ensures.refused_seen

pub returns-in-Begin-clause-seen : goal.returns-in-Begin-clause-seen
returns-in-Begin-clause-seen g c =
    subst (λ (work : Maintenance). IfOk c.begin.result (λ number. WorkSeen work c.args.replica number (volume_seen c.args.volume.now) (volume_seen c.begin.new.self)))
    (sym c.in-Begin.is) c.begin.ensures.seen

pub returns-in-Begin-clause-refused_seen : goal.returns-in-Begin-clause-refused_seen
returns-in-Begin-clause-refused_seen g c =
    subst (λ (work : Maintenance). IfErr c.begin.result (λ fault. WorkRefusedSeen (c.args.volume.now).settings work (c.args.volume.now).number c.args.replica fault
    (volume_seen c.args.volume.now) (volume_seen c.begin.new.self))) (sym c.in-Begin.is) c.begin.ensures.refused_seen

pub returns-in-Step-clause-seen : goal.returns-in-Step-clause-seen
returns-in-Step-clause-seen g c =
    subst (λ (work : Maintenance). IfOk c.step.result (λ number. WorkSeen work c.args.replica number (volume_seen c.args.volume.now) (volume_seen c.step.new.self)))
    (sym c.in-Step.is) c.step.ensures.seen

pub returns-in-Step-clause-refused_seen : goal.returns-in-Step-clause-refused_seen
returns-in-Step-clause-refused_seen g c =
    subst (λ (work : Maintenance). IfErr c.step.result (λ fault. WorkRefusedSeen (c.args.volume.now).settings work (c.args.volume.now).number c.args.replica fault
    (volume_seen c.args.volume.now) (volume_seen c.step.new.self))) (sym c.in-Step.is) c.step.ensures.refused_seen

pub returns-in-Finish-clause-seen : goal.returns-in-Finish-clause-seen
returns-in-Finish-clause-seen g c =
    subst (λ (work : Maintenance). IfOk c.finish.result (λ number. WorkSeen work c.args.replica number (volume_seen c.args.volume.now) (volume_seen c.finish.new.self)))
    (sym c.in-Finish.is) c.finish.ensures.seen

pub returns-in-Finish-clause-refused_seen : goal.returns-in-Finish-clause-refused_seen
returns-in-Finish-clause-refused_seen g c =
    subst (λ (work : Maintenance). IfErr c.finish.result (λ fault. WorkRefusedSeen (c.args.volume.now).settings work (c.args.volume.now).number c.args.replica fault
    (volume_seen c.args.volume.now) (volume_seen c.finish.new.self))) (sym c.in-Finish.is) c.finish.ensures.refused_seen

pub returns-in-Compact-clause-seen : goal.returns-in-Compact-clause-seen
returns-in-Compact-clause-seen g c =
    subst (λ (work : Maintenance). IfOk c.compact.result (λ number. WorkSeen work c.args.replica number (volume_seen c.args.volume.now) (volume_seen c.compact.new.self)))
    (sym c.in-Compact.is) c.compact.ensures.seen

pub returns-in-Compact-clause-refused_seen : goal.returns-in-Compact-clause-refused_seen
returns-in-Compact-clause-refused_seen g c =
    subst (λ (work : Maintenance). IfErr c.compact.result (λ fault. WorkRefusedSeen (c.args.volume.now).settings work (c.args.volume.now).number c.args.replica fault
    (volume_seen c.args.volume.now) (volume_seen c.compact.new.self))) (sym c.in-Compact.is) c.compact.ensures.refused_seen

pub returns-in-Flush-clause-sights : goal.returns-in-Flush-clause-sights
returns-in-Flush-clause-sights g c =
    subst (λ (work : Maintenance). OnOk c.flush.result (DoneSights work c.args.replica (volume_seen c.flush.new.self) (sights_of (c.args.volume.now).rows)
    (sights_of (c.flush.new.self).rows))) (sym c.in-Flush.is)
    (on_ok c.flush.result _ (λ pair j. ap (λ (w : Volume g.row.D.Denot g.row.D-Piece.Denot). sights_of w.rows pair j) c.flush.ensures.still))

pub returns-in-Flush-clause-refused_sights : goal.returns-in-Flush-clause-refused_sights
returns-in-Flush-clause-refused_sights g c =
    on_err c.flush.result _ (λ pair j. ap (λ (w : Volume g.row.D.Denot g.row.D-Piece.Denot). sights_of w.rows pair j) c.flush.ensures.still)

pub returns-in-Begin-clause-sights : goal.returns-in-Begin-clause-sights
returns-in-Begin-clause-sights g c =
    subst (λ (work : Maintenance). OnOk c.begin.result (DoneSights work c.args.replica (volume_seen c.begin.new.self) (sights_of (c.args.volume.now).rows)
    (sights_of (c.begin.new.self).rows))) (sym c.in-Begin.is)
    (on_ok c.begin.result _ (λ pair j. ap (λ (w : Volume g.row.D.Denot g.row.D-Piece.Denot). sights_of w.rows pair j) c.begin.ensures.still))

pub returns-in-Begin-clause-refused_sights : goal.returns-in-Begin-clause-refused_sights
returns-in-Begin-clause-refused_sights g c =
    on_err c.begin.result _ (λ pair j. ap (λ (w : Volume g.row.D.Denot g.row.D-Piece.Denot). sights_of w.rows pair j) c.begin.ensures.still)

pub returns-in-Step-clause-sights : goal.returns-in-Step-clause-sights
returns-in-Step-clause-sights g c =
    subst (λ (work : Maintenance). OnOk c.step.result (DoneSights work c.args.replica (volume_seen c.step.new.self) (sights_of (c.args.volume.now).rows)
    (sights_of (c.step.new.self).rows))) (sym c.in-Step.is)
    (on_ok c.step.result _ (λ pair j. ap (λ (w : Volume g.row.D.Denot g.row.D-Piece.Denot). sights_of w.rows pair j) c.step.ensures.still))

pub returns-in-Step-clause-refused_sights : goal.returns-in-Step-clause-refused_sights
returns-in-Step-clause-refused_sights g c =
    on_err c.step.result _ (λ pair j. ap (λ (w : Volume g.row.D.Denot g.row.D-Piece.Denot). sights_of w.rows pair j) c.step.ensures.still)

pub returns-in-Some-clause-refused_sights : goal.returns-in-Some-clause-refused_sights
returns-in-Some-clause-refused_sights g c =
    λ pair j. refl

pub returns-in-Finish-clause-sights : goal.returns-in-Finish-clause-sights
returns-in-Finish-clause-sights g c =
    subst (λ (work : Maintenance). OnOk c.finish.result (DoneSights work c.args.replica (volume_seen c.finish.new.self) (sights_of (c.args.volume.now).rows)
    (sights_of (c.finish.new.self).rows))) (sym c.in-Finish.is) c.finish.ensures.sights

pub returns-in-Compact-clause-sights : goal.returns-in-Compact-clause-sights
returns-in-Compact-clause-sights g c =
    subst (λ (work : Maintenance). OnOk c.compact.result (DoneSights work c.args.replica (volume_seen c.compact.new.self) (sights_of (c.args.volume.now).rows)
    (sights_of (c.compact.new.self).rows))) (sym c.in-Compact.is) c.compact.ensures.sights

pub returns-in-Some-clause-damaged : goal.returns-in-Some-clause-damaged
returns-in-Some-clause-damaged g c = λ tells m place is. absurd cc

pub returns-in-Flush-clause-damaged : goal.returns-in-Flush-clause-damaged
returns-in-Flush-clause-damaged g c = λ tells m place is. absurd (IfErr-at_err _ is c.flush.ensures.causes)

pub returns-in-Begin-clause-damaged : goal.returns-in-Begin-clause-damaged
returns-in-Begin-clause-damaged g c = λ tells m place is. absurd (IfErr-at_err _ is c.begin.ensures.causes)

pub returns-in-Flush-clause-lead : goal.returns-in-Flush-clause-lead
returns-in-Flush-clause-lead g c = λ tells r r' was now.
    subst (λ (work : Maintenance). IfOk c.flush.result (λ number. LeadsWork (sights_of (c.args.volume.now).rows) c.args.replica work number (replica_seen r) (replica_seen r')
    (volume_bytes g.D.Disk.files r))) (sym c.in-Flush.is) (if_ok c.flush.result)

pub returns-in-Begin-clause-lead : goal.returns-in-Begin-clause-lead
returns-in-Begin-clause-lead g c = λ tells r r' was now.
    subst (λ (work : Maintenance). IfOk c.begin.result (λ number. LeadsWork (sights_of (c.args.volume.now).rows) c.args.replica work number (replica_seen r) (replica_seen r')
    (volume_bytes g.D.Disk.files r))) (sym c.in-Begin.is) (if_ok c.begin.result)

pub returns-in-Step-clause-damaged : goal.returns-in-Step-clause-damaged
returns-in-Step-clause-damaged g c = λ tells m place is.
    subst (λ (work : Maintenance). IsDamagedCell g.D.Disk.files (c.args.volume.now).replicas c.args.replica
    (LacksWork (sights_of (c.args.volume.now).rows) c.args.replica work place)) (sym c.in-Step.is) (c.step.ensures.damaged tells m place is)

pub returns-in-Step-clause-lead : goal.returns-in-Step-clause-lead
returns-in-Step-clause-lead g c = λ tells r r' was now.
    subst (λ (work : Maintenance). IfOk c.step.result (λ number. LeadsWork (sights_of (c.args.volume.now).rows) c.args.replica work number (replica_seen r) (replica_seen r')
    (volume_bytes g.D.Disk.files r))) (sym c.in-Step.is)
    (c.step.ensures.lead tells r r' was now)

pub returns-in-Finish-clause-damaged : goal.returns-in-Finish-clause-damaged
returns-in-Finish-clause-damaged g c = λ tells m place is.
    subst (λ (work : Maintenance). IsDamagedCell g.D.Disk.files (c.args.volume.now).replicas c.args.replica
    (LacksWork (sights_of (c.args.volume.now).rows) c.args.replica work place)) (sym c.in-Finish.is) (c.finish.ensures.damaged tells m place is)

pub returns-in-Finish-clause-lead : goal.returns-in-Finish-clause-lead
returns-in-Finish-clause-lead g c = λ tells r r' was now.
    subst (λ (work : Maintenance). IfOk c.finish.result (λ number. LeadsWork (sights_of (c.args.volume.now).rows) c.args.replica work number (replica_seen r) (replica_seen r')
    (volume_bytes g.D.Disk.files r))) (sym c.in-Finish.is)
    (if_ok_by c.finish.result _ (λ number. HeadsLeadOn (sights_of (c.args.volume.now).rows) c.args.replica (replica_seen r) (volume_bytes g.D.Disk.files r))
    (λ leads number. leads r was) (c.finish.ensures.lead tells))

pub returns-in-Compact-clause-damaged : goal.returns-in-Compact-clause-damaged
returns-in-Compact-clause-damaged g c = λ tells m place is.
    subst (λ (work : Maintenance). IsDamagedCell g.D.Disk.files (c.args.volume.now).replicas c.args.replica
    (LacksWork (sights_of (c.args.volume.now).rows) c.args.replica work place)) (sym c.in-Compact.is) (c.compact.ensures.damaged tells m place is)

pub returns-in-Compact-clause-lead : goal.returns-in-Compact-clause-lead
returns-in-Compact-clause-lead g c = λ tells r r' was now.
    subst (λ (work : Maintenance). IfOk c.compact.result (λ number. LeadsWork (sights_of (c.args.volume.now).rows) c.args.replica work number (replica_seen r) (replica_seen r')
    (volume_bytes g.D.Disk.files r))) (sym c.in-Compact.is)
    (if_ok_by c.compact.result _ (λ number. HeadsLeadOn (sights_of (c.args.volume.now).rows) c.args.replica (begun (replica_seen r)) (volume_bytes g.D.Disk.files r))
    (λ leads number. leads r was) (c.compact.ensures.lead tells))

pub returns-in-Some-clause-part : goal.returns-in-Some-clause-part
returns-in-Some-clause-part g c = λ tells r r' was now wants.
    let file = volume_bytes g.D.Disk.files r in
    subst (λ (x : Copy g.row.D.Denot). LeadsPart (sights_of (c.args.volume.now).rows) c.args.replica c.args.work (replica_seen r) (replica_seen x) file) (sym (one_copy r r' (sym was ∙ now)))
    (none_led (sights_of (c.args.volume.now).rows) c.args.replica c.args.work (replica_seen r) file)

pub returns-in-Flush-clause-part : goal.returns-in-Flush-clause-part
returns-in-Flush-clause-part g c = λ tells r r' was now.
    subst (λ (work : Maintenance). IfErr c.flush.result (λ fault. MayWantMemory fault
    → LeadsPart (sights_of (c.args.volume.now).rows) c.args.replica work (replica_seen r) (replica_seen r') (volume_bytes g.D.Disk.files r))) (sym c.in-Flush.is)
    (if_err_made c.flush.result _ (λ fault is wants. tt))

pub returns-in-Begin-clause-part : goal.returns-in-Begin-clause-part
returns-in-Begin-clause-part g c = λ tells r r' was now.
    subst (λ (work : Maintenance). IfErr c.begin.result (λ fault. MayWantMemory fault
    → LeadsPart (sights_of (c.args.volume.now).rows) c.args.replica work (replica_seen r) (replica_seen r') (volume_bytes g.D.Disk.files r))) (sym c.in-Begin.is)
    (if_err_made c.begin.result _ (λ fault is wants. tt))

pub returns-in-Finish-clause-part : goal.returns-in-Finish-clause-part
returns-in-Finish-clause-part g c = λ tells r r' was now.
    subst (λ (work : Maintenance). IfErr c.finish.result (λ fault. MayWantMemory fault
    → LeadsPart (sights_of (c.args.volume.now).rows) c.args.replica work (replica_seen r) (replica_seen r') (volume_bytes g.D.Disk.files r))) (sym c.in-Finish.is)
    (if_err_made c.finish.result _ (λ fault is wants. tt))

pub returns-in-Compact-clause-part : goal.returns-in-Compact-clause-part
returns-in-Compact-clause-part g c = λ tells r r' was now.
    subst (λ (work : Maintenance). IfErr c.compact.result (λ fault. MayWantMemory fault
    → LeadsPart (sights_of (c.args.volume.now).rows) c.args.replica work (replica_seen r) (replica_seen r') (volume_bytes g.D.Disk.files r))) (sym c.in-Compact.is)
    (if_err_made c.compact.result _ (λ fault is wants. tt))

pub returns-in-Step-clause-part : goal.returns-in-Step-clause-part
returns-in-Step-clause-part g c = λ tells r r' was now.
    subst (λ (work : Maintenance). IfErr c.step.result (λ fault. MayWantMemory fault → LeadsPart (sights_of (c.args.volume.now).rows) c.args.replica work (replica_seen r)
    (replica_seen r') (volume_bytes g.D.Disk.files r))) (sym c.in-Step.is)
    (if_err_made c.step.result _ (λ fault is. step_led (sights_of (c.args.volume.now).rows) c.args.replica c.in-Step.cells (replica_seen r) (replica_seen r') (volume_bytes g.D.Disk.files r) fault
    (λ memory. c.step.ensures.part tells r r' was now (is ∙ ap (λ (f : LogicalFault). Err f) memory))
    (λ m so. c.step.ensures.thawed (sym c.frozen.ensures.is ∙ c.in_default.is) m (is ∙ ap (λ (f : LogicalFault). Err f) so))))

pub returns-in-Some-clause-froze : goal.returns-in-Some-clause-froze
returns-in-Some-clause-froze g c = λ tells thawed m e. absurd (some_none (sym c.in-Some.is ∙ c.frozen.ensures.is ∙ thawed))

pub returns-in-Flush-clause-froze : goal.returns-in-Flush-clause-froze
returns-in-Flush-clause-froze g c = λ tells thawed m e. absurd (some_none (sym e ∙ ap (λ (w : Volume g.row.D.Denot g.row.D-Piece.Denot). w.frozen) c.flush.ensures.still ∙ thawed))

pub returns-in-Begin-clause-froze : goal.returns-in-Begin-clause-froze
returns-in-Begin-clause-froze g c = λ tells thawed m e. absurd (some_none (sym e ∙ ap (λ (w : Volume g.row.D.Denot g.row.D-Piece.Denot). w.frozen) c.begin.ensures.still ∙ thawed))

pub returns-in-Step-clause-froze : goal.returns-in-Step-clause-froze
returns-in-Step-clause-froze g c = λ tells thawed m e. absurd (some_none (sym e ∙ ap (λ (w : Volume g.row.D.Denot g.row.D-Piece.Denot). w.frozen) c.step.ensures.still ∙ thawed))

pub returns-in-Finish-clause-froze : goal.returns-in-Finish-clause-froze
returns-in-Finish-clause-froze g c = λ tells thawed m e r was.
    subst (λ (work : Maintenance). LeadsSwap (sights_of (c.args.volume.now).rows) c.args.replica work (replica_seen r) (volume_bytes g.D.Disk.files r)) (sym c.in-Finish.is)
    (c.finish.ensures.froze tells thawed m e r was)

pub returns-in-Compact-clause-froze : goal.returns-in-Compact-clause-froze
returns-in-Compact-clause-froze g c = λ tells thawed m e r was.
    subst (λ (work : Maintenance). LeadsSwap (sights_of (c.args.volume.now).rows) c.args.replica work (replica_seen r) (volume_bytes g.D.Disk.files r)) (sym c.in-Compact.is)
    (c.compact.ensures.froze tells thawed m e r was)

pub returns-in-Some-clause-head_file : goal.returns-in-Some-clause-head_file
returns-in-Some-clause-head_file g c = λ tells thawed r r' was now. inr (ap (λ (x : Copy g.row.D.Denot). contents_of g.D.Disk.files x.disk 0) (one_copy r r' (sym was ∙ now)))

pub returns-in-Flush-clause-head_file : goal.returns-in-Flush-clause-head_file
returns-in-Flush-clause-head_file g c = λ tells thawed r r' was now. inr (c.flush.ensures.head_file tells r r' was now)

pub returns-in-Begin-clause-head_file : goal.returns-in-Begin-clause-head_file
returns-in-Begin-clause-head_file g c = λ tells thawed r r' was now. inr (c.begin.ensures.head_file tells r r' was now)

pub returns-in-Step-clause-head_file : goal.returns-in-Step-clause-head_file
returns-in-Step-clause-head_file g c = λ tells thawed r r' was now. inr (c.step.ensures.head_file tells r r' was now)

pub returns-in-Finish-clause-head_file : goal.returns-in-Finish-clause-head_file
returns-in-Finish-clause-head_file g c = λ tells thawed r r' was now.
    subst (λ (work : Maintenance). HasSwapped work c.finish.result ⊎ KeepsHead g.D.Disk.files r r') (sym c.in-Finish.is)
    (finished_or c.finish.result (KeepsHead g.D.Disk.files r r') (on_err_so c.finish.result _ _ (λ head. head thawed r r' was now) (c.finish.ensures.head_file tells)))

pub returns-in-Compact-clause-head_file : goal.returns-in-Compact-clause-head_file
returns-in-Compact-clause-head_file g c = λ tells thawed r r' was now.
    subst (λ (work : Maintenance). HasSwapped work c.compact.result ⊎ KeepsHead g.D.Disk.files r r') (sym c.in-Compact.is)
    (compacted_or c.compact.result (KeepsHead g.D.Disk.files r r') (on_err_so c.compact.result _ _ (λ head. head thawed r r' was now) (c.compact.ensures.head_file tells)))
