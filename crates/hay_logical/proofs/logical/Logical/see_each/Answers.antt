use Rattle.std.proofs.Common.{◌≡◌, ◌<◌, Err, refl, sym, ap, subst, ◌∙◌, arith}
use Rattle.std.specs.Prelude.{IfErr}
use Rattle.std.proofs.lemmas.Result.{err_from_is_err_and}
use Rattle.hay_map.specs.Rows.{row_at}
use Rattle.hay_logical.specs.declared.fault.LogicalFault.{LogicalFault}
use Rattle.hay_logical.specs.Answers.{IsSightFault}
use Rattle.hay_logical.proofs.Through.{cause_later, kept_more, kept_none, seen_more}
use Rattle.hay_logical.proofs.Untouched.{stuck_more, stuck_same}
use Rattle.hay_needle.specs.declared.settings.Settings.{Settings}
use Rattle.hay_logical.specs.declared.fault.LogicalFault.TheVariants as refusal
use Rattle.hay_logical.specs.Needles.{IsDamagedLook}
use Rattle.hay_logical.specs.Seen.{VolumeSeen}
use Rattle.hay_logical.specs.Sights.{KeepsSights, LookRefusedSights, Sights, sights_of}
use Rattle.hay_logical.proofs.Bytes.{bytes_through}
use Rattle.hay_logical.proofs.Needles.{damaged_behind, told_behind, told_none}
use Rattle.hay_logical.proofs.SightChanges.{look_refused_behind, looks_kept, looks_more, sights_kept}
use Rattle.hay_logical.proofs.logical.Logical.see_each.Goals as goal

pub loop-replica-init : goal.loop-replica-init
loop-replica-init g c = record {
  kept = kept_none g.D.Disk.Tells g.D.Disk.files g.D.Piece.Piece.Tells g.D.Disk.fault_count g.D.Disk.fuse_count c.args.self.now c.requires.«open»;
  tight = λ tells k stands j tight. tight;
  stuck = stuck_same c.args.self.now.replicas;
  seen = λ j h. let wrong : ⊥ = omega (arith, h) in absurd wrong;
  looks = looks_kept c.args.pair (sights_of c.args.self.now.rows) (sights_of c.args.self.now.rows) (λ q j. refl);
  told = λ tells. told_none g.D.Disk.files c.args.pair c.args.self.now.replicas (sights_of c.args.self.now.rows) (sights_of c.args.self.now.rows) (λ q j. refl);
  unchanged = refl;
}

pub see_in-requires : goal.see_in-requires
see_in-requires g c =
    let below : c.loop-replica.replica < c.loop-replica.self.settings.replicas =
    subst (λ s. c.loop-replica.replica < s.replicas) (ap (λ v. v.settings) c.self.view_is ∙ sym c.loop-replica.invariant.kept.same.settings) c.loop-replica-test.true in
    record {
      within = below;
      «open» = c.loop-replica.invariant.kept.«open»;
    }

pub returns-in_err-see_in-clause-stands : goal.returns-in_err-see_in-clause-stands
returns-in_err-see_in-clause-stands g c = λ tells k stands. c.see_in.ensures.stands tells k (c.loop-replica.invariant.kept.stands tells k stands)

pub returns-in_err-see_in-clause-undamaged : goal.returns-in_err-see_in-clause-undamaged
returns-in_err-see_in-clause-undamaged g c = λ tells k stands m at is.
    let fault = err_from_is_err_and c.from_residual.result c.from_residual.ensures.1 in
    c.see_in.ensures.undamaged tells k (c.loop-replica.invariant.kept.stands tells k stands) m at
    (c.in_err-see_in.was ∙ ap (λ (f : LogicalFault). Err f) (sym fault.2 ∙ (let same = sym fault.1 ∙ is in cc)))

pub returns-in_err-see_in-clause-causes : goal.returns-in_err-see_in-clause-causes
returns-in_err-see_in-clause-causes g c =
    let fault = err_from_is_err_and c.from_residual.result c.from_residual.ensures.1 in
    let cause =
    cause_later g.D.Disk.Tells g.D.Disk.files g.D.Piece.Piece.Tells g.D.Disk.fault_count g.D.Disk.fuse_count c.args.self.now c.loop-replica.self c.see_in.new.self
    c.loop-replica.invariant.kept c.in_err-see_in.field-0.0 c.in_err-see_in.ensures.causes in
    subst (λ r. IfErr r (IsSightFault g.D.Disk.fault_count c.args.self.now.settings c.args.self.now.number c.args.self.now.replicas c.see_in.new.self.replicas)) (sym fault.1)
    (subst (λ (f : LogicalFault). IsSightFault g.D.Disk.fault_count c.args.self.now.settings c.args.self.now.number c.args.self.now.replicas c.see_in.new.self.replicas f) (sym fault.2) cause)

pub returns-in_err-see_in-clause-counts : goal.returns-in_err-see_in-clause-counts
returns-in_err-see_in-clause-counts g c =
    (kept_more g.D.Disk.Tells g.D.Disk.files g.D.Piece.Piece.Tells g.D.Disk.fault_count g.D.Disk.fuse_count c.args.self.now c.loop-replica.self c.see_in.new.self
    c.loop-replica.invariant.kept c.see_in.ensures.stands c.see_in.ensures.«open» c.see_in.ensures.counts c.see_in.ensures.same c.see_in.ensures.still c.see_in.ensures.runs
    c.see_in.ensures.files).counts

pub returns-in_err-see_in-clause-same : goal.returns-in_err-see_in-clause-same
returns-in_err-see_in-clause-same g c =
    (kept_more g.D.Disk.Tells g.D.Disk.files g.D.Piece.Piece.Tells g.D.Disk.fault_count g.D.Disk.fuse_count c.args.self.now c.loop-replica.self c.see_in.new.self
    c.loop-replica.invariant.kept c.see_in.ensures.stands c.see_in.ensures.«open» c.see_in.ensures.counts c.see_in.ensures.same c.see_in.ensures.still c.see_in.ensures.runs
    c.see_in.ensures.files).same

pub returns-in_err-see_in-clause-still : goal.returns-in_err-see_in-clause-still
returns-in_err-see_in-clause-still g c =
    (kept_more g.D.Disk.Tells g.D.Disk.files g.D.Piece.Piece.Tells g.D.Disk.fault_count g.D.Disk.fuse_count c.args.self.now c.loop-replica.self c.see_in.new.self
    c.loop-replica.invariant.kept c.see_in.ensures.stands c.see_in.ensures.«open» c.see_in.ensures.counts c.see_in.ensures.same c.see_in.ensures.still c.see_in.ensures.runs
    c.see_in.ensures.files).still

pub loop-replica-preserved : goal.loop-replica-preserved
loop-replica-preserved g c = record {
  kept =
      kept_more g.D.Disk.Tells g.D.Disk.files g.D.Piece.Piece.Tells g.D.Disk.fault_count g.D.Disk.fuse_count c.args.self.now c.loop-replica.self c.see_in.new.self
      c.loop-replica.invariant.kept c.see_in.ensures.stands c.see_in.ensures.«open» c.see_in.ensures.counts c.see_in.ensures.same c.see_in.ensures.still c.see_in.ensures.runs c.see_in.ensures.files;
  tight = λ tells k stands j tight. c.see_in.ensures.tight tells k (c.loop-replica.invariant.kept.stands tells k stands) j (c.loop-replica.invariant.tight tells k stands j tight);
  stuck = stuck_more c.args.self.now.replicas c.loop-replica.self.replicas c.see_in.new.self.replicas c.loop-replica.invariant.kept.counts.count c.loop-replica.invariant.stuck c.see_in.ensures.stuck;
  seen =
      seen_more c.args.pair c.loop-replica.replica c.loop-replica.self.rows c.see_in.new.self.rows (row_at c.see_in.new.self.rows c.args.pair) c.in_ok-see_in.ensures.row refl
      c.in_ok-see_in.ensures.seen c.loop-replica.invariant.seen;
  looks = looks_more c.args.pair (sights_of c.args.self.now.rows) (sights_of c.loop-replica.self.rows)
      (sights_of c.see_in.new.self.rows) c.loop-replica.invariant.looks c.in_ok-see_in.ensures.sights.looks;
  told = λ tells.
      let kept = c.loop-replica.invariant.kept in
      told_behind g.D.Disk.files c.args.pair c.args.self.now.replicas c.loop-replica.self.replicas (sights_of c.args.self.now.rows) (sights_of c.loop-replica.self.rows)
      (sights_of c.see_in.new.self.rows)
      kept.counts.count c.loop-replica.invariant.looks
      (bytes_through g.D.Disk.Tells g.D.Disk.files tells c.args.self.now.replicas c.loop-replica.self.replicas kept.bytes (ap (λ (s : VolumeSeen). s.replicas) c.loop-replica.invariant.unchanged))
      c.in_ok-see_in.ensures.sights.looks (c.loop-replica.invariant.told tells) (c.see_in.ensures.told tells);
  unchanged = c.see_in.ensures.unchanged ∙ c.loop-replica.invariant.unchanged;
}

pub returns-clause-stands : goal.returns-clause-stands
returns-clause-stands g c = c.loop-replica.invariant.kept.stands

pub returns-clause-seen : goal.returns-clause-seen
returns-clause-seen g c = λ j h.
    let below : j < c.self.inside.settings.replicas = subst (λ s. j < s.replicas) (c.loop-replica.invariant.kept.same.settings ∙ sym (ap (λ v. v.settings) c.self.view_is)) h in
    let over = c.loop-replica-test.false in
    c.loop-replica.invariant.seen j (omega (arith, below, over))

pub returns-clause-open : goal.returns-clause-open
returns-clause-open g c = c.loop-replica.invariant.kept.«open»

pub returns-clause-counts : goal.returns-clause-counts
returns-clause-counts g c = c.loop-replica.invariant.kept.counts

pub returns-clause-same : goal.returns-clause-same
returns-clause-same g c = c.loop-replica.invariant.kept.same

pub returns-clause-still : goal.returns-clause-still
returns-clause-still g c = c.loop-replica.invariant.kept.still

pub returns-in_err-see_in-clause-runs : goal.returns-in_err-see_in-clause-runs
returns-in_err-see_in-clause-runs g c =
    (kept_more g.D.Disk.Tells g.D.Disk.files g.D.Piece.Piece.Tells g.D.Disk.fault_count g.D.Disk.fuse_count c.args.self.now c.loop-replica.self c.see_in.new.self
    c.loop-replica.invariant.kept c.see_in.ensures.stands c.see_in.ensures.«open» c.see_in.ensures.counts c.see_in.ensures.same c.see_in.ensures.still c.see_in.ensures.runs
    c.see_in.ensures.files).runs

pub returns-clause-runs : goal.returns-clause-runs
returns-clause-runs g c = c.loop-replica.invariant.kept.runs

pub returns-in_err-see_in-clause-files : goal.returns-in_err-see_in-clause-files
returns-in_err-see_in-clause-files g c =
    (kept_more g.D.Disk.Tells g.D.Disk.files g.D.Piece.Piece.Tells g.D.Disk.fault_count g.D.Disk.fuse_count c.args.self.now c.loop-replica.self c.see_in.new.self
    c.loop-replica.invariant.kept c.see_in.ensures.stands c.see_in.ensures.«open» c.see_in.ensures.counts c.see_in.ensures.same c.see_in.ensures.still c.see_in.ensures.runs
    c.see_in.ensures.files).bytes

pub returns-clause-files : goal.returns-clause-files
returns-clause-files g c = c.loop-replica.invariant.kept.bytes

pub returns-in_err-see_in-clause-stuck : goal.returns-in_err-see_in-clause-stuck
returns-in_err-see_in-clause-stuck g c =
    stuck_more c.args.self.now.replicas c.loop-replica.self.replicas c.see_in.new.self.replicas c.loop-replica.invariant.kept.counts.count c.loop-replica.invariant.stuck c.see_in.ensures.stuck

pub returns-clause-stuck : goal.returns-clause-stuck
returns-clause-stuck g c = c.loop-replica.invariant.stuck

pub returns-in_err-see_in-clause-tight : goal.returns-in_err-see_in-clause-tight
returns-in_err-see_in-clause-tight g c = λ tells k stands j tight.
    c.see_in.ensures.tight tells k (c.loop-replica.invariant.kept.stands tells k stands) j (c.loop-replica.invariant.tight tells k stands j tight)

pub returns-clause-tight : goal.returns-clause-tight
returns-clause-tight g c = c.loop-replica.invariant.tight

pub returns-in_err-see_in-clause-unchanged : goal.returns-in_err-see_in-clause-unchanged
returns-in_err-see_in-clause-unchanged g c = c.see_in.ensures.unchanged ∙ c.loop-replica.invariant.unchanged

pub returns-clause-unchanged : goal.returns-clause-unchanged
returns-clause-unchanged g c = c.loop-replica.invariant.unchanged

pub returns-clause-sights : goal.returns-clause-sights
returns-clause-sights g c = c.loop-replica.invariant.looks

pub returns-in_err-see_in-clause-refused_sights : goal.returns-in_err-see_in-clause-refused_sights
returns-in_err-see_in-clause-refused_sights g c =
    let fault = err_from_is_err_and c.from_residual.result c.from_residual.ensures.1 in
    let same = c.loop-replica.invariant.kept.same in
    let old : Sights = sights_of c.args.self.now.rows in
    let mid : Sights = sights_of c.loop-replica.self.rows in
    let new : Sights = sights_of c.see_in.new.self.rows in
    subst (λ r. IfErr r (LookRefusedSights c.args.self.now.settings c.args.self.now.number c.args.pair old new)) (sym fault.1)
    (subst (λ (f : LogicalFault). LookRefusedSights c.args.self.now.settings c.args.self.now.number c.args.pair old new f) (sym fault.2)
    (look_refused_behind c.args.self.now.settings c.args.self.now.number c.args.pair old mid new c.loop-replica.invariant.looks c.in_err-see_in.field-0.0
    (subst (λ n. LookRefusedSights c.args.self.now.settings n c.args.pair mid new c.in_err-see_in.field-0.0) same.number
    (subst (λ (s : Settings). LookRefusedSights s c.loop-replica.self.number c.args.pair mid new c.in_err-see_in.field-0.0) same.settings c.in_err-see_in.ensures.refused_sights))))

pub returns-in_err-see_in-clause-told : goal.returns-in_err-see_in-clause-told
returns-in_err-see_in-clause-told g c = λ tells.
    let kept = c.loop-replica.invariant.kept in
    let old : Sights = sights_of c.args.self.now.rows in
    let mid : Sights = sights_of c.loop-replica.self.rows in
    let new : Sights = sights_of c.see_in.new.self.rows in
    let same : KeepsSights mid new = sights_kept c.loop-replica.self.rows c.see_in.new.self.rows c.in_err-see_in.ensures.kept in
    told_behind g.D.Disk.files c.args.pair c.args.self.now.replicas c.loop-replica.self.replicas old mid new kept.counts.count c.loop-replica.invariant.looks
    (bytes_through g.D.Disk.Tells g.D.Disk.files tells c.args.self.now.replicas c.loop-replica.self.replicas kept.bytes (ap (λ (s : VolumeSeen). s.replicas) c.loop-replica.invariant.unchanged))
    (looks_kept c.args.pair mid new same) (c.loop-replica.invariant.told tells) (c.see_in.ensures.told tells)

pub returns-clause-told : goal.returns-clause-told
returns-clause-told g c = c.loop-replica.invariant.told

pub returns-in_err-see_in-clause-damaged : goal.returns-in_err-see_in-clause-damaged
returns-in_err-see_in-clause-damaged g c = λ tells m place e.
    let fault = err_from_is_err_and c.from_residual.result c.from_residual.ensures.1 in
    let kept = c.loop-replica.invariant.kept in
    let is : c.in_err-see_in.field-0.0 ≡ refusal.Damaged m place = (let both = sym fault.1 ∙ e in let by = fault.2 in cc) in
    let here = c.see_in.ensures.damaged tells m place (c.in_err-see_in.was ∙ ap (λ (f : LogicalFault). Err f) is) in
    let mids = c.loop-replica.self.replicas in
    let mid : Sights = sights_of c.loop-replica.self.rows in
    damaged_behind g.D.Disk.files c.args.pair c.args.self.now.replicas mids (sights_of c.args.self.now.rows) mid mid kept.counts.count c.loop-replica.invariant.looks
    (bytes_through g.D.Disk.Tells g.D.Disk.files tells c.args.self.now.replicas mids kept.bytes (ap (λ (s : VolumeSeen). s.replicas) c.loop-replica.invariant.unchanged))
    c.args.self.now.settings c.args.self.now.number m place
    (subst (λ n. IsDamagedLook g.D.Disk.files c.args.self.now.settings n mids c.args.pair m place mid) kept.same.number
    (subst (λ (s : Settings). IsDamagedLook g.D.Disk.files s c.loop-replica.self.number mids c.args.pair m place mid) kept.same.settings here))
