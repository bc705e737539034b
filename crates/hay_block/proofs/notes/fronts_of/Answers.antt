use Rattle.std.proofs.Common.{rules, ◌≡◌, ◌+◌, ◌∷◌, ◌++◌, [], ℕ, List, suc, take, length, sym, ap, subst, ◌∙◌, arith, Some}
use Rattle.std.specs.List.{AllZip}
use Rattle.std.proofs.lemmas.List.{take_all}
use Rattle.hay_legal.specs.declared.known.VolumeKnown.{VolumeKnown}
use Rattle.hay_lane.proofs.Lists.{get_read}
use Rattle.hay_block.proofs.Lists.{zip_more}
use Rattle.hay_shared_volume.specs.Making.{VolumeStands}
use Rattle.hay_logical.specs.Volumes.{Volume}
use Rattle.hay_block.proofs.notes.fronts_of.Goals as goal

pub loop-volume-preserved : goal.loop-volume-preserved
loop-volume-preserved g c =
    let i : ℕ = c.loop-volume.volume-index in
    let next : suc i ≡ i + 1 = omega arith in
    let Is : Volume g.row.D.Denot g.row.D-Piece.Denot → ℕ → Type 0 =
    λ volume front. (known : VolumeKnown) → VolumeStands g.D.Disk.Tells g.D.Disk.files g.D.Piece.Piece.Tells volume known → front ≡ length known.log in
    record {
      each = subst (AllZip Is (take (i + 1) c.args.volumes.now)) (sym c.push_reserved.ensures.items)
          (subst (λ n. AllZip Is (take n c.args.volumes.now) (c.loop-volume.fronts.items ++ c.front.result ∷ [])) next
          (zip_more Is c.args.volumes.now c.loop-volume.fronts.items i c.volume-item.result c.front.result
          (get_read c.args.volumes.now i c.volume-item.result c.loop-volume-test.true ∙ ap Some (sym c.volume-item.is)) c.loop-volume.invariant.each
          (λ known stands. c.front.ensures.known stands.tells known stands.stands)));
      count = search rules;
      room = search rules;
    }

pub returns : goal.returns
returns g c =
    let Is : Volume g.row.D.Denot g.row.D-Piece.Denot → ℕ → Type 0 =
    λ volume front. (known : VolumeKnown) → VolumeStands g.D.Disk.Tells g.D.Disk.files g.D.Piece.Piece.Tells volume known → front ≡ length known.log in
    subst (λ (l : List (Volume g.row.D.Denot g.row.D-Piece.Denot)). AllZip Is l c.loop-volume.fronts.items)
    (take_all c.loop-volume.volume-index c.args.volumes.now c.loop-volume-test.false) c.loop-volume.invariant.each
