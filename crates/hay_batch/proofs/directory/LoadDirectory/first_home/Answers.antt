use Rattle.std.proofs.Common.{◌≡◌, ◌≤◌, None, All, length, sym, subst, ◌∙◌, arith}
use Rattle.std.proofs.lemmas.List.{take_all}
use Rattle.std.proofs.lemmas.List.Elements.{All-more}
use Rattle.hay_batch.specs.declared.photo.NewPhoto.{NewPhoto}
use Rattle.hay_batch.specs.Homes.{home_among}
use Rattle.hay_batch.proofs.directory.LoadDirectory.first_home.Goals as goal

pub loop-photo-preserved : goal.loop-photo-preserved
loop-photo-preserved g c =
    let P = λ (photo : NewPhoto). home_among c.args.self.now.homes photo.pair ≡ None in
    let none : c.get.result ≡ None = c.in_default.is in
    All-more P c.args.photos.now c.loop-photo.photo-index c.photo-item.result c.loop-photo-test.true c.loop-photo.invariant (subst P c.photo-item.is (sym c.get.ensures ∙ none))

pub returns-clause-none : goal.returns-clause-none
returns-clause-none g c =
    let all : length c.args.photos.now ≤ c.loop-photo.photo-index = omega arith in
    subst (All (λ (photo : NewPhoto). home_among c.args.self.now.homes photo.pair ≡ None)) (take_all c.loop-photo.photo-index c.args.photos.now all) c.loop-photo.invariant
