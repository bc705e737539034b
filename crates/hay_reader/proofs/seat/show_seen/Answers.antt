use Rattle.std.proofs.Common.{◌≡◌, ℕ, ◌+◌, ◌%◌, Ok, length, sym, ap, subst, ◌∙◌}
use Rattle.hay_map.specs.Places.{place_in}
use Rattle.hay_reader.specs.Tried.{HasItsPhoto, PlaceGives, ShowsSeen}
use Rattle.hay_reader.specs.Shown.{reply_at}
use Rattle.hay_reader.proofs.Passing.{none_passed, reads_at}
use Rattle.hay_reader.proofs.seat.show_seen.Goals as goal

pub returns-clause-reads : goal.returns-clause-reads
returns-clause-reads g c = λ arm its.
    let next : (c.args.start + c.len.result) % c.len-replicas.result ≡ (c.args.start + length c.args.passed) % length c.args.row.now =
    ap (λ (n : ℕ). (c.args.start + n) % c.len-replicas.result) c.len.ensures ∙ ap (λ (n : ℕ). (c.args.start + length c.args.passed) % n) c.len-replicas.ensures.is in
    let place = c.place.ensures ∙ ap (λ (j : ℕ). place_in c.args.row.now j) next in
    let gives = c.show_place-shown.ensures.gives arm.sure (subst (λ p. HasItsPhoto c.args.needle.now p) (sym place) its) in
    rw c.reply_of.ensures
    (reads_at g.P.Piece.Tells arm c.args.start c.args.row.now c.args.cookie c.show_place-shown.new.out.items c.args.passed c.args.passed _ c.show_place-shown.result
    (record {
      before = none_passed g.P.Piece.Tells arm c.args.start c.args.row.now c.args.cookie c.args.passed c.requires.first;
      fewer = c.requires.fewer;
      next = next;
      gives = subst (λ p. PlaceGives g.P.Piece.Tells arm.sure c.args.cookie c.show_place-shown.new.out.items p (Ok c.show_place-shown.result)) c.place.ensures gives;
    }))

pub returns-clause-shows : goal.returns-clause-shows
returns-clause-shows g c =
    let next : (c.args.start + c.len.result) % c.len-replicas.result ≡ (c.args.start + length c.args.passed) % length c.args.row.now =
    ap (λ (n : ℕ). (c.args.start + n) % c.len-replicas.result) c.len.ensures ∙ ap (λ (n : ℕ). (c.args.start + length c.args.passed) % n) c.len-replicas.ensures.is in
    let place = c.place.ensures ∙ ap (λ (j : ℕ). place_in c.args.row.now j) next in (
      c.show_place-shown.result,
      subst (λ p. ShowsSeen c.args.cookie c.show_place-shown.new.out.items c.args.needle.now p c.show_place-shown.result) place c.show_place-shown.ensures.shows,
      c.reply_of.ensures ∙ ap (λ (j : ℕ). reply_at j c.args.passed c.show_place-shown.result) next,
    )
