use Rattle.std.proofs.Common.{◌≡◌, get_or, inl, inr, sym, subst}
use Rattle.hay_batch.specs.declared.photo.NewPhoto.{NewPhoto}
use Rattle.hay_batch.specs.Batches.{batch_total}
use Rattle.hay_batch.specs.Shelves.{StandsAs, contents_of, with_stored}
use Rattle.hay_batch.specs.Stores.{IsTargetOf, MovesEnds}
use Rattle.hay_batch.proofs.Loading.{files_same, left_same}
use Rattle.hay_batch.proofs.Showing.{batch_shows}
use Rattle.hay_batch.proofs.StoreLaws.{if_err_more, if_ok_more, on_ok_if, same_tries, target_of}
use Rattle.hay_batch.proofs.StoredLaws.{leaves_stored, stands_left, stands_stored}
use Rattle.hay_batch.proofs.store.LoadStore.load_batch.Goals as goal

-- nothing was changed
pub returns-in-Some-clause-left : goal.returns-in-Some-clause-left
returns-in-Some-clause-left g c = λ tells k left stands leaves. inl (left_same g.D.Disk.files k c.args.self.now left c.requires.shape stands leaves)

pub returns-in-Err-clause-left : goal.returns-in-Err-clause-left
returns-in-Err-clause-left g c = λ tells k left stands leaves. inl (left_same g.D.Disk.files k c.args.self.now left c.requires.shape stands leaves)

pub returns-in-Ok-clause-left : goal.returns-in-Ok-clause-left
returns-in-Ok-clause-left g c = λ tells k left stands leaves.
    let first : NewPhoto = get_or c.args.photos.now 0 c.index-photos-0.result in
    let target = target_of c.args.self.now c.args.photos.now first.pair.key c.batch_total-need.result c.in-Ok.volume (λ key all. all 0 c.index-photos-0.result c.requires.batch.some)
    c.batch_total-need.ensures c.in-Ok.ensures.first c.in-Ok.ensures.room in
    inr (c.in-Ok.volume, target, c.load_into.ensures.left tells k left stands leaves)

-- which volumes were tried
pub returns-in-Err-clause-full : goal.returns-in-Err-clause-full
returns-in-Err-clause-full g c = λ tries is key all.
    let first : NewPhoto = get_or c.args.photos.now 0 c.index-photos-0.result in
    let same : first.pair.key ≡ key = all 0 c.index-photos-0.result c.requires.batch.some in
    same_tries c.args.self.now first.pair.key key c.batch_total-need.result (batch_total c.args.photos.now) c.args.self.now.settings.volumes tries same c.batch_total-need.ensures
    (c.in-Err.ensures.full tries is)

pub returns-in-Ok-clause-room : goal.returns-in-Ok-clause-room
returns-in-Ok-clause-room g c =
    let first : NewPhoto = get_or c.args.photos.now 0 c.index-photos-0.result in
    let target = target_of c.args.self.now c.args.photos.now first.pair.key c.batch_total-need.result c.in-Ok.volume (λ key all. all 0 c.index-photos-0.result c.requires.batch.some)
    c.batch_total-need.ensures c.in-Ok.ensures.first c.in-Ok.ensures.room in
    if_ok_more c.load_into.result _ _ c.load_into.ensures.answer (λ loaded answer. subst (λ v. IsTargetOf c.args.self.now c.args.photos.now v) (sym answer.0) target)

pub returns-in-Ok-clause-failed : goal.returns-in-Ok-clause-failed
returns-in-Ok-clause-failed g c =
    let first : NewPhoto = get_or c.args.photos.now 0 c.index-photos-0.result in
    let target = target_of c.args.self.now c.args.photos.now first.pair.key c.batch_total-need.result c.in-Ok.volume (λ key all. all 0 c.index-photos-0.result c.requires.batch.some)
    c.batch_total-need.ensures c.in-Ok.ensures.first c.in-Ok.ensures.room in
    let failed = c.load_into.ensures.failed in
    if_err_more c.load_into.result _ _ _ failed failed (λ fault fails same slot faults is. (c.in-Ok.volume, target, fails slot faults is))

pub returns-in-Some-clause-shows : goal.returns-in-Some-clause-shows
returns-in-Some-clause-shows g c = λ cells at i photo there. batch_shows c.args.photos.now cells at i photo c.requires.distinct there

pub returns-in-Ok-clause-shows : goal.returns-in-Ok-clause-shows
returns-in-Ok-clause-shows g c = λ cells at i photo there. batch_shows c.args.photos.now cells at i photo c.requires.distinct there

pub returns-in-Err-clause-shows : goal.returns-in-Err-clause-shows
returns-in-Err-clause-shows g c = λ cells at i photo there. batch_shows c.args.photos.now cells at i photo c.requires.distinct there

pub returns-in-Some-clause-files : goal.returns-in-Some-clause-files
returns-in-Some-clause-files g c = λ tells. files_same g.D.Disk.files c.args.self.now

pub returns-in-Err-clause-files : goal.returns-in-Err-clause-files
returns-in-Err-clause-files g c = λ tells. files_same g.D.Disk.files c.args.self.now

pub returns-in-Ok-clause-ends : goal.returns-in-Ok-clause-ends
returns-in-Ok-clause-ends g c =
    let told = c.load_into.ensures in
    on_ok_if c.load_into.result _ _ _ told.ends told.answer (λ moves loaded answer. subst (λ v. MovesEnds v c.args.photos.now c.args.self.now c.load_into.new.self) (sym answer.0) moves)

-- what an opening finds
pub returns-in-Some-clause-left_stored : goal.returns-in-Some-clause-left_stored
returns-in-Some-clause-left_stored g c = λ tells s image was leaves. inl (stands_left g.D.Disk.files s c.args.self.now image c.requires.shape was leaves)

pub returns-in-Err-clause-left_stored : goal.returns-in-Err-clause-left_stored
returns-in-Err-clause-left_stored g c = λ tells s image was leaves. inl (stands_left g.D.Disk.files s c.args.self.now image c.requires.shape was leaves)

pub returns-in-Ok-clause-left_stored : goal.returns-in-Ok-clause-left_stored
returns-in-Ok-clause-left_stored g c = λ tells s image was leaves.
    let told = c.load_into.ensures in
    let first : NewPhoto = get_or c.args.photos.now 0 c.index-photos-0.result in
    let target = target_of c.args.self.now c.args.photos.now first.pair.key c.batch_total-need.result c.in-Ok.volume (λ key all. all 0 c.index-photos-0.result c.requires.batch.some)
    c.batch_total-need.ensures c.in-Ok.ensures.first c.in-Ok.ensures.room in
    inr (
      c.in-Ok.volume,
      target,
      leaves_stored g.D.Disk.files c.args.photos.now s c.args.self.now c.load_into.new.self c.requires.shape told.shape.1 told.shape.0 (told.files tells) was image leaves
          c.in-Ok.volume (told.left tells),
    )

pub returns-in-Ok-clause-stored : goal.returns-in-Ok-clause-stored
returns-in-Ok-clause-stored g c = λ tells s was.
    let told = c.load_into.ensures in
    on_ok_if c.load_into.result _ _ _ (told.loaded tells) told.answer (λ loads loaded answer.
    subst (λ v. StandsAs g.D.Disk.files c.load_into.new.self (with_stored v c.args.photos.now s)) (sym answer.0)
    (stands_stored g.D.Disk.files c.args.photos.now s c.args.self.now c.load_into.new.self c.requires.shape told.shape.1 told.shape.0 (told.files tells) was c.in-Ok.volume
    (loads (contents_of c.args.self.now.settings s) was.contents)))
