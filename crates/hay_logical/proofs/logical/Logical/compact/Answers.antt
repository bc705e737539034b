use Rattle.std.proofs.Common.{◌≡◌, Ok, Err, sym, ap, ◌∙◌}
use Rattle.std.proofs.lemmas.Result.{err_from_is_err_and}
use Rattle.hay_logical.specs.declared.fault.LogicalFault.{LogicalFault}
use Rattle.hay_logical.specs.declared.fault.LogicalFault.TheVariants.{Damaged, ReadOnly}
use Rattle.std.proofs.Common.{subst}
use Rattle.std.specs.Prelude.{IfErr, None}
use Rattle.hay_logical.specs.Seen.{CompactRefusedSeen, VolumeSeen, volume_seen}
use Rattle.std.specs.Prelude.{OnErr}
use Rattle.hay_logical.specs.Sights.{KeepsSights, sights_of}
use Rattle.hay_physical.specs.OpenCopies.{Copy, KeepsHead}
use Rattle.hay_logical.specs.Fits.{At}
use Rattle.hay_logical.proofs.logical.Logical.compact.Goals as goal

pub returns-in_err-files-clause-frozen : goal.returns-in_err-files-clause-frozen
returns-in_err-files-clause-frozen g c = λ m e.
    let fault = err_from_is_err_and c.from_residual.result c.from_residual.ensures.1 in
    let was = c.compact_files.ensures.frozen m e in
    let same : c.in_err-files.field-0.0 ≡ ReadOnly m = (let both = sym c.in_err-files.was ∙ was.0 in cc) in
    (fault.1 ∙ ap (λ (f : LogicalFault). Err f) (fault.2 ∙ same), was.1)

pub returns-clause-frozen : goal.returns-clause-frozen
returns-clause-frozen g c = λ m e.
    let wrong : Ok c.in_ok-files.files ≡ Err (ReadOnly m) = sym c.in_ok-files.was ∙ (c.compact_files.ensures.frozen m e).0 in
    absurd cc

pub returns-in_err-files-clause-thawed : goal.returns-in_err-files-clause-thawed
returns-in_err-files-clause-thawed g c = λ none m e.
    let fault = err_from_is_err_and c.from_residual.result c.from_residual.ensures.1 in
    let same : c.in_err-files.field-0.0 ≡ ReadOnly m = (let both = sym fault.1 ∙ e in let is = fault.2 in cc) in
    c.compact_files.ensures.thawed none m (c.in_err-files.was ∙ ap (λ (f : LogicalFault). Err f) same)

pub returns-clause-seen : goal.returns-clause-seen
returns-clause-seen g c = (c.in_ok-files.files.end, c.in_ok-files.ensures.seen)

pub returns-in_err-files-clause-refused_seen : goal.returns-in_err-files-clause-refused_seen
returns-in_err-files-clause-refused_seen g c =
    let fault = err_from_is_err_and c.from_residual.result c.from_residual.ensures.1 in
    let old : VolumeSeen = volume_seen c.args.self.now in
    let new : VolumeSeen = volume_seen c.compact_files.new.self in
    subst (λ r. IfErr r (CompactRefusedSeen c.args.self.now.settings c.args.self.now.number c.args.replica old new)) (sym fault.1)
    (subst (λ (f : LogicalFault). CompactRefusedSeen c.args.self.now.settings c.args.self.now.number c.args.replica old new f) (sym fault.2) c.in_err-files.ensures.refused_seen)

pub returns-in_err-files-clause-refused_sights : goal.returns-in_err-files-clause-refused_sights
returns-in_err-files-clause-refused_sights g c =
    let fault = err_from_is_err_and c.from_residual.result c.from_residual.ensures.1 in
    subst (λ r. OnErr r (KeepsSights (sights_of c.args.self.now.rows) (sights_of c.compact_files.new.self.rows))) (sym fault.1) c.in_err-files.ensures.refused_sights

pub returns-in_err-files-clause-damaged : goal.returns-in_err-files-clause-damaged
returns-in_err-files-clause-damaged g c = λ tells m place e.
    let fault = err_from_is_err_and c.from_residual.result c.from_residual.ensures.1 in
    let same : c.in_err-files.field-0.0 ≡ Damaged m place = (let both = sym fault.1 ∙ e in let is = fault.2 in cc) in
    c.compact_files.ensures.damaged tells m place (c.in_err-files.was ∙ ap (λ (f : LogicalFault). Err f) same)

pub returns-in_err-files-clause-head_file : goal.returns-in_err-files-clause-head_file
returns-in_err-files-clause-head_file g c = λ tells.
    let fault = err_from_is_err_and c.from_residual.result c.from_residual.ensures.1 in
    subst (λ r. OnErr r (c.compact_files.new.self.frozen ≡ None → (x x' : Copy g.row.D.Denot) → At c.args.self.now.replicas c.args.replica x
    → At c.compact_files.new.self.replicas c.args.replica x' → KeepsHead g.D.Disk.files x x')) (sym fault.1)
    (c.in_err-files.ensures.head_file tells)
