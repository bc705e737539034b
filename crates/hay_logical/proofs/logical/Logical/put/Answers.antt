use Rattle.std.proofs.Common.{◌≡◌, Err, sym, ap, subst, ◌∙◌}
use Rattle.std.proofs.lemmas.Result.{err_from_is_err_and}
use Rattle.hay_logical.specs.declared.fault.LogicalFault.{LogicalFault}
use Rattle.hay_logical.specs.declared.fault.LogicalFault.TheVariants.{Failed}
use Rattle.hay_logical.specs.Volumes.{IsOpenVolume, IsSame, KeepsCounts}
use Rattle.hay_logical.specs.ReplicaCalls.{KeepsStuck}
use Rattle.std.proofs.Common.{ℕ, List, length}
use Rattle.std.specs.Prelude.{map, IfErr}
use Rattle.hay_logical.specs.Seen.{PutRefusedSeen, ReplicaSeen, VolumeSeen, grown, replica_seen, volume_seen}
use Rattle.std.proofs.lemmas.List.{length-map}
use Rattle.std.specs.Prelude.{OnErr}
use Rattle.hay_needle.specs.declared.needle.Pair.{Pair}
use Rattle.hay_needle.specs.declared.settings.Settings.{Settings}
use Rattle.hay_logical.specs.Sights.{KeepsSights, StoresSights, sights_of}
use Rattle.hay_logical.proofs.SightChanges.{sights_kept, stores_kept}
use Rattle.hay_logical.proofs.logical.Logical.put.Goals as goal

pub returns-clause-stored : goal.returns-clause-stored
returns-clause-stored g c = λ tells k stands. c.show.ensures.put tells k c.args.tag c.args.pair c.args.cookie c.args.bytes.now (c.in_ok-written.ensures.written tells k stands)

pub returns-clause-stored_unsure : goal.returns-clause-stored_unsure
returns-clause-stored_unsure g c = ap (λ v. v.unsure) c.show.ensures.still ∙ c.in_ok-written.ensures.still.unsure

pub returns-clause-open : goal.returns-clause-open
returns-clause-open g c = let was = c.write.ensures.«open» in subst IsOpenVolume (sym c.show.ensures.still) (record { all = was.all; each = was.each })

pub returns-clause-counts : goal.returns-clause-counts
returns-clause-counts g c = subst (λ v. KeepsCounts g.D.Disk.fault_count g.D.Disk.fuse_count c.args.self.now.replicas v.replicas) (sym c.show.ensures.still) c.write.ensures.counts

pub returns-clause-same : goal.returns-clause-same
returns-clause-same g c = let was = c.write.ensures.same in subst (λ v. IsSame c.args.self.now v) (sym c.show.ensures.still) (record { settings = was.settings; number = was.number; sups = was.sups })

pub write-requires : goal.write-requires
write-requires g c = record { size = c.requires.size; «open» = c.requires.«open» }

pub show-requires : goal.show-requires
show-requires g c = c.in_ok-written.ensures.fits

pub returns-clause-still : goal.returns-clause-still
returns-clause-still g c = ap (λ v. v.frozen) c.show.ensures.still ∙ c.in_ok-written.ensures.still.frozen

pub returns-clause-stuck : goal.returns-clause-stuck
returns-clause-stuck g c = subst (λ v. KeepsStuck c.args.self.now.replicas v.replicas) (sym c.show.ensures.still) c.write.ensures.stuck

pub returns-in_err-written-clause-above : goal.returns-in_err-written-clause-above
returns-in_err-written-clause-above g c = λ m count e.
    let fault = err_from_is_err_and c.from_residual.result c.from_residual.ensures.1 in
    let same : c.in_err-written.field-0.0 ≡ Failed m count = (let both = sym fault.1 ∙ e in let is = fault.2 in cc) in
    c.write.ensures.above m count (c.in_err-written.was ∙ ap (λ (f : LogicalFault). Err f) same)

pub returns-clause-seen : goal.returns-clause-seen
returns-clause-seen g c =
    let wrote = c.in_ok-written.ensures.seen in
    let with : ℕ → VolumeSeen = λ n. record (volume_seen c.args.self.now) { front = n; replicas = map (grown (length c.args.bytes.now)) (volume_seen c.args.self.now).replicas } in (
      c.show.ensures.position ∙ c.in_ok-written.ensures.of.1,
      wrote.0,
      ap volume_seen c.show.ensures.still ∙ ap (λ (s : VolumeSeen). record s { front = c.in_ok-written.written.position }) wrote.1
          ∙ ap (λ n. with n) (sym c.show.ensures.position),
    )

pub returns-in_err-written-clause-refused_seen : goal.returns-in_err-written-clause-refused_seen
returns-in_err-written-clause-refused_seen g c =
    let fault = err_from_is_err_and c.from_residual.result c.from_residual.ensures.1 in
    let old : VolumeSeen = volume_seen c.args.self.now in
    let new : VolumeSeen = volume_seen c.write.new.self in
    subst (λ r. IfErr r (PutRefusedSeen c.args.self.now.settings c.args.self.now.number c.args.tag (length c.args.bytes.now) old new)) (sym fault.1)
    (subst (λ (f : LogicalFault). PutRefusedSeen c.args.self.now.settings c.args.self.now.number c.args.tag (length c.args.bytes.now) old new f) (sym fault.2)
    c.in_err-written.ensures.refused_seen)

pub returns-clause-sights : goal.returns-clause-sights
returns-clause-sights g c =
    let of = c.in_ok-written.ensures.of in
    let same = c.write.ensures.same in
    let kept = sights_kept c.args.self.now.rows c.write.new.self.rows c.in_ok-written.ensures.still.rows.rows in
    let replicas : List ReplicaSeen = (volume_seen c.args.self.now).replicas in
    let many : length replicas ≡ c.write.new.self.settings.replicas =
    length-map c.args.self.now.replicas replica_seen ∙ c.requires.«open».all ∙ sym (ap (λ (s : Settings). s.replicas) same.settings) in
    stores_kept c.args.pair replicas (sights_of c.args.self.now.rows) (sights_of c.write.new.self.rows) (sights_of c.show.new.self.rows) kept
    (subst (λ (p : Pair). StoresSights p replicas (sights_of c.write.new.self.rows) (sights_of c.show.new.self.rows)) of.0 (c.show.ensures.sights replicas many c.in_ok-written.ensures.ends))

pub returns-in_err-written-clause-refused_sights : goal.returns-in_err-written-clause-refused_sights
returns-in_err-written-clause-refused_sights g c =
    let fault = err_from_is_err_and c.from_residual.result c.from_residual.ensures.1 in
    subst (λ r. OnErr r (KeepsSights (sights_of c.args.self.now.rows) (sights_of c.write.new.self.rows))) (sym fault.1)
    (sights_kept c.args.self.now.rows c.write.new.self.rows c.in_err-written.ensures.kept)
