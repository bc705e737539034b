use Rattle.std.proofs.Common.{◌≡◌, ◌+◌, None, Err, sym, ap, subst, ◌∙◌}
use Rattle.std.specs.Prelude.{IfErr}
use Rattle.std.proofs.lemmas.Result.{err_from_is_err_and, on_ok_weaker, on_err_weaker}
use Rattle.hay_needle.specs.declared.settings.Settings.{Settings}
use Rattle.hay_physical.proofs.Views.{if_err_so, if_ok_so}
use Rattle.hay_logical.specs.declared.fault.LogicalFault.{LogicalFault}
use Rattle.hay_logical.specs.Answers.{DeleteRefused}
use Rattle.hay_logical.specs.Stands.{Stands}
use Rattle.hay_logical.proofs.Bytes.{files_more}
use Rattle.hay_logical.proofs.Changing.{not_some}
use Rattle.hay_logical.proofs.Through.{counts_through, delete_later, erased_later, look_refused, same_through}
use Rattle.hay_logical.specs.Volumes.{IsMachineOf, Volume}
use Rattle.hay_logical.specs.ReplicaCalls.{KeepsAbove}
use Rattle.hay_logical.proofs.Above.{above_files, above_looked}
use Rattle.hay_logical.proofs.Untouched.{stuck_more, stuck_same}
use Rattle.std.specs.Prelude.{OnErr}
use Rattle.hay_logical.specs.Stands.{IsTightAt}
use Rattle.hay_logical.proofs.Changing.{some_none}
use Rattle.hay_logical.specs.declared.fault.LogicalFault.TheVariants as logical
use Rattle.hay_logical.specs.Answers.{IsSightFault}
use Rattle.std.proofs.Common.{refl}
use Rattle.hay_logical.specs.Seen.{DeleteRefusedSeen, EraseSeen, VolumeSeen, volume_seen}
use Rattle.hay_logical.proofs.SeenChanges.{look_refused_seen}
use Rattle.hay_logical.specs.Sights.{DeleteRefusedSights, FindsPhoto, Sights, sights_of}
use Rattle.hay_logical.proofs.SightChanges.{delete_refused_behind, delete_unlooked, finds_behind}
use Rattle.hay_logical.proofs.Looks.{if_err_at}
use Rattle.hay_logical.proofs.Through.{runs_later}
use Rattle.hay_physical.specs.OpenCopies.{volume_bytes}
use Rattle.hay_logical.specs.Needles.{IsToldBy}
use Rattle.hay_logical.specs.Sights.{Sight}
use Rattle.hay_logical.proofs.Needles.{told_none}
use Rattle.hay_logical.proofs.logical.Logical.erase.Goals as goal

pub returns-in-Some-clause-refused : goal.returns-in-Some-clause-refused
unfolding Stands
returns-in-Some-clause-refused g c = λ tells k stands. (stands.frozen ∙ ap (λ v. v.frozen) (sym c.self.view_is) ∙ c.in-Some.is, stands)

pub returns-in_err-see_each-clause-refused : goal.returns-in_err-see_each-clause-refused
unfolding Stands
returns-in_err-see_each-clause-refused g c = λ tells k stands.
    let fault = err_from_is_err_and c.from_residual.result c.from_residual.ensures.1 in
    let thawed : k.frozen ≡ None = stands.frozen ∙ ap (λ v. v.frozen) (sym c.self.view_is) ∙ not_some c.self.inside.frozen c.in_default.not-Some in
    subst (λ r. IfErr r (DeleteRefused g.D.Disk.files g.D.Piece.Piece.Tells k c.args.tag c.args.pair c.see_each.new.self)) (sym fault.1)
    (subst (λ (f : LogicalFault). DeleteRefused g.D.Disk.files g.D.Piece.Piece.Tells k c.args.tag c.args.pair c.see_each.new.self f) (sym fault.2)
    (look_refused g.D.Disk.files g.D.Piece.Piece.Tells g.D.Disk.fault_count g.D.Disk.fuse_count k c.args.tag c.args.pair c.args.self.now.settings c.args.self.now.number
    c.args.self.now.replicas c.see_each.new.self.replicas c.see_each.new.self c.in_err-see_each.field-0.0
    c.in_err-see_each.ensures.causes thawed (c.see_each.ensures.stands tells k stands)
    (λ m at e. c.see_each.ensures.undamaged tells k stands m at (c.in_err-see_each.was ∙ ap (λ (f : LogicalFault). Err f) e))))

pub returns-clause-erased : goal.returns-clause-erased
returns-clause-erased g c = λ tells k stands.
    if_ok_so c.erase_seen.result _ _
    (λ e is. erased_later g.D.Disk.files g.D.Piece.Piece.Tells g.D.Disk.fault_count g.D.Disk.fuse_count c.args.self.now c.see_each.new.self c.erase_seen.new.self
    c.see_each.ensures.counts c.see_each.ensures.same c.see_each.ensures.runs k c.args.pair e is)
    (c.erase_seen.ensures.erased tells k (c.see_each.ensures.stands tells k stands))

pub returns-clause-of : goal.returns-clause-of
returns-clause-of g c = if_ok_so c.erase_seen.result _ _ (λ e is. (is.0, is.1 ∙ ap (λ n. n + 1) c.see_each.ensures.still.1)) c.erase_seen.ensures.of

pub returns-clause-still : goal.returns-clause-still
returns-clause-still g c = on_ok_weaker c.erase_seen.result
    (λ same. (ap (λ v. v.front) same ∙ c.see_each.ensures.still.1, ap (λ v. v.frozen) same ∙ c.see_each.ensures.still.0, ap (λ v. v.unsure) same ∙ c.see_each.ensures.still.2))
    c.erase_seen.ensures.still

pub returns-clause-refused : goal.returns-clause-refused
returns-clause-refused g c = λ tells k stands. c.erase_seen.ensures.refused tells k (c.see_each.ensures.stands tells k stands)

pub returns-clause-causes : goal.returns-clause-causes
returns-clause-causes g c =
    if_err_so c.erase_seen.result _ _
    (λ f is. delete_later g.D.Disk.files g.D.Piece.Piece.Tells g.D.Disk.fault_count g.D.Disk.fuse_count c.args.self.now c.see_each.new.self c.erase_seen.new.self
    c.see_each.ensures.counts c.see_each.ensures.same f is)
    c.erase_seen.ensures.causes

pub returns-clause-counts : goal.returns-clause-counts
returns-clause-counts g c =
    counts_through g.D.Disk.fault_count g.D.Disk.fuse_count c.args.self.now.replicas c.see_each.new.self.replicas c.erase_seen.new.self.replicas c.see_each.ensures.counts c.erase_seen.ensures.counts

pub returns-clause-same : goal.returns-clause-same
returns-clause-same g c = same_through c.args.self.now c.see_each.new.self c.erase_seen.new.self c.see_each.ensures.counts.count c.see_each.ensures.same c.erase_seen.ensures.same

pub returns-in-Some-clause-causes : goal.returns-in-Some-clause-causes
returns-in-Some-clause-causes g c =
    subst (λ (v : Volume g.row.D.Denot g.row.D-Piece.Denot). IsMachineOf v.settings v.number c.in-Some.machine) c.self.view_is ((c.self.invariant.0).frozen_by c.in-Some.machine c.in-Some.is)

pub returns-clause-files : goal.returns-clause-files
returns-clause-files g c = on_err_weaker c.erase_seen.result
    (λ keeps same. files_more g.D.Disk.Tells g.D.Disk.files c.args.self.now.replicas c.see_each.new.self.replicas c.erase_seen.new.self.replicas c.see_each.ensures.counts.count
    c.see_each.ensures.files (keeps (same ∙ sym c.see_each.ensures.still.2)))
    c.erase_seen.ensures.files

pub returns-in_err-see_each-clause-above : goal.returns-in_err-see_each-clause-above
returns-in_err-see_each-clause-above g c = λ m count e.
    above_files g.D.Disk.Tells g.D.Disk.files c.args.self.now.settings c.args.self.now.number m c.args.self.now.replicas c.see_each.new.self.replicas c.see_each.ensures.files

pub returns-clause-above : goal.returns-clause-above
returns-clause-above g c = λ m count e.
    let same = c.see_each.ensures.same in
    above_looked g.D.Disk.Tells g.D.Disk.files c.args.self.now.settings c.args.self.now.number m c.args.self.now.replicas c.see_each.new.self.replicas
    c.erase_seen.new.self.replicas c.see_each.ensures.counts.count c.see_each.ensures.files
    (subst (λ n. KeepsAbove g.D.Disk.Tells g.D.Disk.files c.args.self.now.settings n m c.see_each.new.self.replicas c.erase_seen.new.self.replicas) same.number
    (subst (λ (s : Settings). KeepsAbove g.D.Disk.Tells g.D.Disk.files s c.see_each.new.self.number m c.see_each.new.self.replicas c.erase_seen.new.self.replicas) same.settings
    (c.erase_seen.ensures.above m count e)))

pub returns-in-Some-clause-stuck : goal.returns-in-Some-clause-stuck
returns-in-Some-clause-stuck g c = stuck_same c.args.self.now.replicas

pub returns-clause-stuck : goal.returns-clause-stuck
returns-clause-stuck g c =
    stuck_more c.args.self.now.replicas c.see_each.new.self.replicas c.erase_seen.new.self.replicas c.see_each.ensures.counts.count c.see_each.ensures.stuck c.erase_seen.ensures.stuck

pub returns-in_err-see_each-clause-tight : goal.returns-in_err-see_each-clause-tight
returns-in_err-see_each-clause-tight g c = λ tells k stands j tight.
    let fault = err_from_is_err_and c.from_residual.result c.from_residual.ensures.1 in
    subst (λ r. OnErr r (c.see_each.new.self.unsure ≡ c.args.self.now.unsure → IsTightAt g.D.Disk.files c.see_each.new.self j)) (sym fault.1) (λ same. c.see_each.ensures.tight tells k stands j tight)

pub returns-clause-tight : goal.returns-clause-tight
returns-clause-tight g c = λ tells k stands j tight. on_err_weaker c.erase_seen.result
    (λ keeps same. keeps (same ∙ sym c.see_each.ensures.still.2)) (c.erase_seen.ensures.tight tells j (c.see_each.ensures.tight tells k stands j tight))

pub returns-in-Some-clause-thawed : goal.returns-in-Some-clause-thawed
returns-in-Some-clause-thawed g c = λ none m e. some_none (sym c.in-Some.is ∙ ap (λ v. v.frozen) c.self.view_is ∙ none)

pub returns-in_err-see_each-clause-thawed : goal.returns-in_err-see_each-clause-thawed
returns-in_err-see_each-clause-thawed g c = λ none m e.
    let fault = err_from_is_err_and c.from_residual.result c.from_residual.ensures.1 in
    let same : c.in_err-see_each.field-0.0 ≡ logical.ReadOnly m = (let both = sym fault.1 ∙ e in let is = fault.2 in cc) in
    subst (λ r. IfErr r (IsSightFault g.D.Disk.fault_count c.args.self.now.settings c.args.self.now.number c.args.self.now.replicas c.see_each.new.self.replicas))
    (c.in_err-see_each.was ∙ ap (λ (f : LogicalFault). Err f) same) c.see_each.ensures.causes

pub returns-clause-thawed : goal.returns-clause-thawed
returns-clause-thawed g c = λ none m e. c.erase_seen.ensures.thawed m e

pub returns-in-Some-clause-refused_seen : goal.returns-in-Some-clause-refused_seen
returns-in-Some-clause-refused_seen g c = (refl, ap (λ v. v.frozen) (sym c.self.view_is) ∙ c.in-Some.is)

pub returns-in_err-see_each-clause-refused_seen : goal.returns-in_err-see_each-clause-refused_seen
returns-in_err-see_each-clause-refused_seen g c =
    let fault = err_from_is_err_and c.from_residual.result c.from_residual.ensures.1 in
    let old : VolumeSeen = volume_seen c.args.self.now in
    let new : VolumeSeen = volume_seen c.see_each.new.self in
    subst (λ r. IfErr r (DeleteRefusedSeen c.args.tag c.args.pair old new)) (sym fault.1)
    (subst (λ (f : LogicalFault). DeleteRefusedSeen c.args.tag c.args.pair old new f) (sym fault.2)
    (look_refused_seen g.D.Disk.fault_count c.args.self.now.settings c.args.self.now.number c.args.self.now.replicas c.see_each.new.self.replicas c.args.tag c.args.pair old new
    (ap (λ v. v.frozen) (sym c.self.view_is) ∙ not_some c.self.inside.frozen c.in_default.not-Some, c.see_each.ensures.unchanged) c.in_err-see_each.field-0.0 c.in_err-see_each.ensures.causes))

pub returns-clause-after : goal.returns-clause-after
returns-clause-after g c = on_ok_weaker c.erase_seen.result (λ seen. subst (λ (s : VolumeSeen). EraseSeen s
    (volume_seen c.erase_seen.new.self)) c.see_each.ensures.unchanged seen) c.erase_seen.ensures.after

pub returns-clause-refused_seen : goal.returns-clause-refused_seen
returns-clause-refused_seen g c =
    subst (λ (s : VolumeSeen). IfErr c.erase_seen.result (DeleteRefusedSeen c.args.tag c.args.pair s
    (volume_seen c.erase_seen.new.self))) c.see_each.ensures.unchanged c.erase_seen.ensures.refused_seen

pub returns-in-Some-clause-refused_sights : goal.returns-in-Some-clause-refused_sights
returns-in-Some-clause-refused_sights g c = λ q j. refl

pub returns-in_err-see_each-clause-refused_sights : goal.returns-in_err-see_each-clause-refused_sights
returns-in_err-see_each-clause-refused_sights g c =
    let fault = err_from_is_err_and c.from_residual.result c.from_residual.ensures.1 in
    let old : Sights = sights_of c.args.self.now.rows in
    let new : Sights = sights_of c.see_each.new.self.rows in
    let thawed : c.see_each.new.self.frozen ≡ None = c.see_each.ensures.still.0 ∙ ap (λ v. v.frozen) (sym c.self.view_is) ∙ not_some c.self.inside.frozen c.in_default.not-Some in
    subst (λ r. IfErr r (DeleteRefusedSights c.args.self.now.settings c.args.self.now.number c.args.pair c.see_each.new.self.frozen old new)) (sym fault.1)
    (subst (λ (f : LogicalFault). DeleteRefusedSights c.args.self.now.settings c.args.self.now.number c.args.pair c.see_each.new.self.frozen old new f) (sym fault.2)
    (delete_unlooked c.args.self.now.settings c.args.self.now.number c.args.pair old new c.see_each.new.self.frozen thawed c.in_err-see_each.field-0.0 c.in_err-see_each.ensures.refused_sights))

pub returns-clause-sights : goal.returns-clause-sights
returns-clause-sights g c =
    let old : Sights = sights_of c.args.self.now.rows in
    let mid : Sights = sights_of c.see_each.new.self.rows in
    let new : Sights = sights_of c.erase_seen.new.self.rows in
    on_ok_weaker c.erase_seen.result (λ finds. finds_behind c.args.pair c.args.self.now.settings.replicas old mid new c.in_ok-see_each.ensures.sights
    (subst (λ (s : Settings). FindsPhoto c.args.pair s.replicas mid new) c.see_each.ensures.same.settings finds)) c.erase_seen.ensures.sights

pub returns-clause-refused_sights : goal.returns-clause-refused_sights
returns-clause-refused_sights g c =
    let old : Sights = sights_of c.args.self.now.rows in
    let mid : Sights = sights_of c.see_each.new.self.rows in
    let new : Sights = sights_of c.erase_seen.new.self.rows in
    let same = c.see_each.ensures.same in
    if_err_at c.erase_seen.result _ _
    (λ f e is. delete_refused_behind c.args.self.now.settings c.args.self.now.number c.args.pair old mid new c.erase_seen.new.self.frozen c.in_ok-see_each.ensures.sights f
    (λ m by. c.erase_seen.ensures.thawed m (e ∙ ap (λ (x : LogicalFault). Err x) by))
    (subst (λ n. DeleteRefusedSights c.args.self.now.settings n c.args.pair c.erase_seen.new.self.frozen mid new f) same.number
    (subst (λ (s : Settings). DeleteRefusedSights s c.see_each.new.self.number c.args.pair c.erase_seen.new.self.frozen mid new f) same.settings is)))
    c.erase_seen.ensures.refused_sights

pub returns-clause-ended : goal.returns-clause-ended
returns-clause-ended g c = on_ok_weaker c.erase_seen.result
    (λ keeps. runs_later g.D.Disk.files g.D.Piece.Piece.Tells g.D.Disk.fault_count g.D.Disk.fuse_count c.args.self.now c.see_each.new.self c.erase_seen.new.self
    c.see_each.ensures.counts c.see_each.ensures.same
    c.see_each.ensures.runs keeps) c.erase_seen.ensures.ended

pub returns-in_err-see_each-clause-told : goal.returns-in_err-see_each-clause-told
returns-in_err-see_each-clause-told g c = c.see_each.ensures.told

pub returns-in-Some-clause-told : goal.returns-in-Some-clause-told
returns-in-Some-clause-told g c = λ tells.
    told_none g.D.Disk.files c.args.pair c.args.self.now.replicas (sights_of c.args.self.now.rows) (sights_of c.args.self.now.rows) (λ q j. refl)

pub returns-clause-told : goal.returns-clause-told
returns-clause-told g c = λ tells j r e.
    let seen = c.see_each.ensures.told tells j r e in
    subst (λ (s : Sight). IsToldBy (volume_bytes g.D.Disk.files r) (sights_of c.args.self.now.rows c.args.pair j) s) (sym (c.erase_seen.ensures.rows c.args.pair j)) seen

pub returns-in_err-see_each-clause-damaged : goal.returns-in_err-see_each-clause-damaged
returns-in_err-see_each-clause-damaged g c = λ tells m place e.
    let fault = err_from_is_err_and c.from_residual.result c.from_residual.ensures.1 in
    let is : c.in_err-see_each.field-0.0 ≡ logical.Damaged m place = (let both = sym fault.1 ∙ e in let by = fault.2 in cc) in
    c.see_each.ensures.damaged tells m place (c.in_err-see_each.was ∙ ap (λ (f : LogicalFault). Err f) is)

pub returns-clause-damaged : goal.returns-clause-damaged
returns-clause-damaged g c = λ tells m place e. absurd (c.erase_seen.ensures.undamaged m place e)
