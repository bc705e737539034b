use Rattle.std.proofs.Common.{◌∙◌, List, ap, arith, refl, subst, sym}
use Rattle.std.proofs.lemmas.List.Elements.{All-push}
use Rattle.hay_map.specs.Sealed.{SealedNeedle}
use Rattle.hay_map.specs.declared.view.OpenCell.{OpenCell}
use Rattle.hay_open.specs.Finds.{ArePlacesWithin}
use Rattle.hay_compact.specs.Finishing.{ArePhotos, IsLive}
use Rattle.hay_compact.proofs.Copied.{is_next, not_next}
use Rattle.hay_compact.proofs.Sealings.{places_pass, places_sealed, rests_sealed, due_inside, within_push}
use Rattle.hay_compact.proofs.finish.seal_next.Goals as goal

pub returns-then-ne-clause-places : goal.returns-then-ne-clause-places
returns-then-ne-clause-places g c = λ tells sup s rest can due so_far.
    places_pass g.D.Piece.Piece.Tells sup (g.D.Disk.files c.args.disk.now c.args.file) c.args.standing.now s c.args.row rest c.args.places.now.items can due
    (λ same. not_next c.place.result c.args.row.at c.args.row.at c.if-ne.ensures refl (c.place.ensures.place ∙ same)) so_far

pub seal-requires-clause-inside : goal.seal-requires-clause-inside
seal-requires-clause-inside g c = λ tells.
    let ready = c.requires.ready tells in
    let file = g.D.Disk.files c.args.disk.now c.args.file in
    let inside = due_inside ready.0 file ready.1 c.args.row ready.2 c.total_of-total.result ready.3.rests ready.4 c.total_of-total.ensures in
    let room = ready.3.rests.is.closed.room in
    omega arith

pub returns-in_err-push-clause-rests : goal.returns-in_err-push-clause-rests
returns-in_err-push-clause-rests g c = λ tells sup s rest rests due.
    rests_sealed sup (g.D.Disk.files c.args.disk.now c.args.file) (g.D.Disk.files c.seal.new.self c.args.file) s c.args.row rest c.total_of-total.result rests due
    c.total_of-total.ensures (c.seal.ensures.seals tells)

pub returns-clause-rests : goal.returns-clause-rests
returns-clause-rests g c = λ tells sup s rest rests due.
    rests_sealed sup (g.D.Disk.files c.args.disk.now c.args.file) (g.D.Disk.files c.seal.new.self c.args.file) s c.args.row rest c.total_of-total.result rests due
    c.total_of-total.ensures (c.seal.ensures.seals tells)

pub returns-clause-places : goal.returns-clause-places
returns-clause-places g c = λ tells sup s rest can due so_far.
    let bytes = c.in_ok-piece.ensures.bytes tells in
    places_sealed g.D.Piece.Piece.Tells sup (g.D.Disk.files c.args.disk.now c.args.file) c.args.standing.now s c.args.row rest c.args.places.now.items c.push.new.self.items
    c.new.result c.total_of-total.result bytes.0 can due
    (sym c.place.ensures.place ∙ is_next c.place.result c.args.row.at c.ne.result c.ne.ensures c.if-ne.false)
    c.total_of-total.ensures (ap (λ (n : SealedNeedle). n.at) c.new.ensures) (ap (λ (n : SealedNeedle). n.size) c.new.ensures) (ap (λ (n : SealedNeedle). n.bytes) c.new.ensures ∙ bytes.1)
    c.in_ok-push.ensures.items so_far

pub returns-clause-photos : goal.returns-clause-photos
returns-clause-photos g c = λ all.
    subst (λ (cells : List (OpenCell _)). ArePhotos cells) (sym c.in_ok-push.ensures.items)
    (All-push (λ (cell : OpenCell _). IsLive cell.place) c.args.places.now.items _ all tt)

pub returns-clause-within : goal.returns-clause-within
returns-clause-within g c = λ end lies all.
    subst (λ (cells : List (OpenCell _)). ArePlacesWithin end cells) (sym c.in_ok-push.ensures.items)
    (within_push end c.args.places.now.items _ all (
      omega (arith, lies.0, ap (λ (n : SealedNeedle). n.at) c.new.ensures),
      omega (arith, lies.1, ap (λ (n : SealedNeedle). n.at) c.new.ensures),
    ))
