use Rattle.std.proofs.Common.{◌≡◌, None, All, take}
use Rattle.hay_batch.specs.declared.photo.NewPhoto.{NewPhoto}
use Rattle.hay_batch.specs.Homes.{home_among}
use Rattle.hay_batch.proofs.directory.LoadDirectory.first_home.Given as goal

abbrev pub invariant-loop-photo : goal.invariant-loop-photo
invariant-loop-photo g l = All (λ (photo : NewPhoto). home_among l.self.homes photo.pair ≡ None) (take l.photo-index l.photos)
