use Rattle.std.proofs.Common.{◌≡◌, Ok, Err, sym, ap, subst, ◌∙◌}
use Rattle.std.proofs.lemmas.Result.{err_from_is_err_and}
use Rattle.hay_logical.specs.declared.fault.LogicalFault.{LogicalFault}
use Rattle.hay_logical.specs.declared.fault.LogicalFault.TheVariants.{Failed, ReadOnly}
use Rattle.hay_logical.specs.Volumes.{IsOpenVolume, IsSame, KeepsCounts}
use Rattle.hay_logical.specs.ReplicaCalls.{KeepsStuck}
use Rattle.std.specs.Prelude.{IfErr}
use Rattle.hay_logical.specs.Seen.{DeleteRefusedSeen, VolumeSeen, volume_seen}
use Rattle.std.proofs.Common.{length}
use Rattle.hay_logical.specs.Fits.{At}
use Rattle.hay_needle.specs.declared.needle.Pair.{Pair}
use Rattle.hay_logical.specs.Sights.{DeleteRefusedSights, ErasesSights, Sights, sights_of}
use Rattle.std.specs.Prelude.{OnErr}
use Rattle.hay_logical.specs.declared.fault.LogicalFault.TheVariants as refusal
use Rattle.hay_logical.specs.Needles.{AreToldBy}
use Rattle.hay_logical.proofs.logical.Logical.delete.Goals as goal

pub returns-clause-deleted : goal.returns-clause-deleted
returns-clause-deleted g c = λ tells k stands. c.hide.ensures.deleted tells k c.args.tag c.args.pair c.args.self.now (c.in_ok-erased.ensures.erased tells k stands)

pub returns-clause-deleted_unsure : goal.returns-clause-deleted_unsure
returns-clause-deleted_unsure g c = ap (λ v. v.unsure) c.hide.ensures.still ∙ c.in_ok-erased.ensures.still.2

pub returns-clause-open : goal.returns-clause-open
returns-clause-open g c = let was = c.erase.ensures.«open» in subst IsOpenVolume (sym c.hide.ensures.still) (record { all = was.all; each = was.each })

pub returns-clause-counts : goal.returns-clause-counts
returns-clause-counts g c = subst (λ v. KeepsCounts g.D.Disk.fault_count g.D.Disk.fuse_count c.args.self.now.replicas v.replicas) (sym c.hide.ensures.still) c.erase.ensures.counts

pub returns-clause-same : goal.returns-clause-same
returns-clause-same g c = let was = c.erase.ensures.same in subst (λ v. IsSame c.args.self.now v) (sym c.hide.ensures.still) (record { settings = was.settings; number = was.number; sups = was.sups })

pub returns-in_err-erased-clause-frozen : goal.returns-in_err-erased-clause-frozen
returns-in_err-erased-clause-frozen g c = λ m e.
    let fault = err_from_is_err_and c.from_residual.result c.from_residual.ensures.1 in
    let was = c.erase.ensures.frozen m e in
    let same : c.in_err-erased.field-0.0 ≡ ReadOnly m = (let both = sym c.in_err-erased.was ∙ was.0 in cc) in
    (fault.1 ∙ ap (λ (f : LogicalFault). Err f) (fault.2 ∙ same), was.1)

pub returns-clause-frozen : goal.returns-clause-frozen
returns-clause-frozen g c = λ m e.
    let wrong : Ok c.in_ok-erased.erased ≡ Err (ReadOnly m) = sym c.in_ok-erased.was ∙ (c.erase.ensures.frozen m e).0 in
    absurd cc

pub returns-clause-still : goal.returns-clause-still
returns-clause-still g c = ap (λ v. v.frozen) c.hide.ensures.still ∙ c.in_ok-erased.ensures.still.1

pub returns-clause-stuck : goal.returns-clause-stuck
returns-clause-stuck g c = subst (λ v. KeepsStuck c.args.self.now.replicas v.replicas) (sym c.hide.ensures.still) c.erase.ensures.stuck

pub returns-in_err-erased-clause-above : goal.returns-in_err-erased-clause-above
returns-in_err-erased-clause-above g c = λ m count e.
    let fault = err_from_is_err_and c.from_residual.result c.from_residual.ensures.1 in
    let same : c.in_err-erased.field-0.0 ≡ Failed m count = (let both = sym fault.1 ∙ e in let is = fault.2 in cc) in
    c.erase.ensures.above m count (c.in_err-erased.was ∙ ap (λ (f : LogicalFault). Err f) same)

pub returns-in_err-erased-clause-thawed : goal.returns-in_err-erased-clause-thawed
returns-in_err-erased-clause-thawed g c = λ none m e.
    let fault = err_from_is_err_and c.from_residual.result c.from_residual.ensures.1 in
    let same : c.in_err-erased.field-0.0 ≡ ReadOnly m = (let both = sym fault.1 ∙ e in let is = fault.2 in cc) in
    c.erase.ensures.thawed none m (c.in_err-erased.was ∙ ap (λ (f : LogicalFault). Err f) same)

pub returns-clause-after : goal.returns-clause-after
returns-clause-after g c =
    let erased = c.in_ok-erased.ensures.after in
    let is = ap volume_seen c.hide.ensures.still in (
      c.hide.ensures.position ∙ c.in_ok-erased.ensures.of.1,
      ap (λ (s : VolumeSeen). s.front) is ∙ sym c.hide.ensures.position,
      record {
        thawed = erased.1.thawed;
        frozen = ap (λ (s : VolumeSeen). s.frozen) is ∙ erased.1.frozen;
        unsure = ap (λ (s : VolumeSeen). s.unsure) is ∙ erased.1.unsure;
        count = ap (λ (s : VolumeSeen). length s.replicas) is ∙ erased.1.count;
        each = λ j r r' e f. erased.1.each j r r' e (subst (λ (s : VolumeSeen). At s.replicas j r') is f);
      },
    )

pub returns-in_err-erased-clause-refused_seen : goal.returns-in_err-erased-clause-refused_seen
returns-in_err-erased-clause-refused_seen g c =
    let fault = err_from_is_err_and c.from_residual.result c.from_residual.ensures.1 in
    let old : VolumeSeen = volume_seen c.args.self.now in
    let new : VolumeSeen = volume_seen c.erase.new.self in
    subst (λ r. IfErr r (DeleteRefusedSeen c.args.tag c.args.pair old new)) (sym fault.1)
    (subst (λ (f : LogicalFault). DeleteRefusedSeen c.args.tag c.args.pair old new f) (sym fault.2) c.in_err-erased.ensures.refused_seen)

pub returns-clause-sights : goal.returns-clause-sights
returns-clause-sights g c = record {
  found = sights_of c.erase.new.self.rows;
  finds = c.in_ok-erased.ensures.sights;
  erases = subst (λ (p : Pair). ErasesSights p (sights_of c.erase.new.self.rows) (sights_of c.hide.new.self.rows)) c.in_ok-erased.ensures.of.0 c.hide.ensures.sights;
}

pub returns-in_err-erased-clause-refused_sights : goal.returns-in_err-erased-clause-refused_sights
returns-in_err-erased-clause-refused_sights g c =
    let fault = err_from_is_err_and c.from_residual.result c.from_residual.ensures.1 in
    let old : Sights = sights_of c.args.self.now.rows in
    let new : Sights = sights_of c.erase.new.self.rows in
    subst (λ r. IfErr r (DeleteRefusedSights c.args.self.now.settings c.args.self.now.number c.args.pair c.erase.new.self.frozen old new)) (sym fault.1)
    (subst (λ (f : LogicalFault). DeleteRefusedSights c.args.self.now.settings c.args.self.now.number c.args.pair c.erase.new.self.frozen old new f)
    (sym fault.2) c.in_err-erased.ensures.refused_sights)

pub returns-clause-ended : goal.returns-clause-ended
returns-clause-ended g c = λ j r r' e f. c.in_ok-erased.ensures.ended j r r' e (subst (λ v. At v.replicas j r') c.hide.ensures.still f)

pub returns-clause-told : goal.returns-clause-told
returns-clause-told g c = λ tells. record {
  deletes = record {
    found = sights_of c.erase.new.self.rows;
    finds = c.in_ok-erased.ensures.sights;
    erases = subst (λ (p : Pair). ErasesSights p (sights_of c.erase.new.self.rows) (sights_of c.hide.new.self.rows)) c.in_ok-erased.ensures.of.0 c.hide.ensures.sights;
  };
  told = c.erase.ensures.told tells;
}

pub returns-in_err-erased-clause-refused_told : goal.returns-in_err-erased-clause-refused_told
returns-in_err-erased-clause-refused_told g c = λ tells.
    let fault = err_from_is_err_and c.from_residual.result c.from_residual.ensures.1 in
    subst (λ r. OnErr r (AreToldBy g.D.Disk.files c.args.self.now.replicas c.args.pair (sights_of c.args.self.now.rows) (sights_of c.erase.new.self.rows))) (sym fault.1) (c.erase.ensures.told tells)

pub returns-in_err-erased-clause-damaged : goal.returns-in_err-erased-clause-damaged
returns-in_err-erased-clause-damaged g c = λ tells m place e.
    let fault = err_from_is_err_and c.from_residual.result c.from_residual.ensures.1 in
    let is : c.in_err-erased.field-0.0 ≡ refusal.Damaged m place = (let both = sym fault.1 ∙ e in let by = fault.2 in cc) in
    c.erase.ensures.damaged tells m place (c.in_err-erased.was ∙ ap (λ (f : LogicalFault). Err f) is)
