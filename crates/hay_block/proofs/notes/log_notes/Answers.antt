use Rattle.std.proofs.Common.{◌≡◌, ◌<◌, ◌++◌, ◌∷◌, [], ℕ, List, Vec, Global, length, map, sym, ap, ◌∙◌, arith, Some, vec_len, vec_capacity, append-nil}
use Rattle.std.specs.Prelude.{slice_get, slice_index_or}
use Rattle.std.proofs.lemmas.Grind.{common_steps}
use Rattle.hay_front.specs.declared.front.Tag.{Tag}
use Rattle.hay_legal.specs.declared.turn.LogNote.{LogNote}
use Rattle.hay_lane.proofs.Lists.{get_read}
use Rattle.hay_block.specs.Behind.{log_note_from}
use Rattle.hay_block.specs.Stores.{line_of_tag, notes_from}
use Rattle.hay_block.proofs.Lists.{mapped}
use Rattle.hay_block.proofs.Telling.{noted_one, nothing_noted, one_note}
use Rattle.hay_block.proofs.notes.log_notes.Goals as goal
use Rattle.hay_block.proofs.notes.log_notes.Goals.{then-not-is_empty, else-not-is_empty}

pub loop-i-preserved : goal.loop-i-preserved
loop-i-preserved c =
    let i : ℕ = c.loop-i.i in
    let below : i < length c.args.tags.now = omega (arith, c.loop-i-test.true) in
    let front : ℕ = slice_index_or c.args.fronts.now i 0 in
    let lines : List ℕ = c.in_ok-lines.lines.items in
    let told : List (List ℕ) = map (λ (own : Vec Tag Global). map line_of_tag own.items) c.args.tags.now in
    let front_at : slice_get c.args.fronts.now i ≡ Some front = get_read c.args.fronts.now i 0 (omega (arith, below, c.requires.as_many)) in
    let tags_at : slice_get c.args.tags.now i ≡ Some c.index-tags-i.result = get_read c.args.tags.now i c.index-tags-i.result below ∙ ap Some (sym c.index-tags-i.is) in
    let lines_are : lines ≡ map line_of_tag c.index-tags-i.result.items = c.in_ok-lines.ensures ∙ ap (map line_of_tag) c.as_slice.ensures.value in
    let lines_at : slice_get told i ≡ Some lines = mapped (λ (own : Vec Tag Global). map line_of_tag own.items) c.args.tags.now i c.index-tags-i.result tags_at ∙ ap Some (sym lines_are) in
    let step = λ (made : c.if-not-is_empty.notes.items ≡ c.loop-i.notes.items ++ log_note_from i front lines).
    one_note c.args.fronts.now told i front lines c.loop-i.notes.items c.if-not-is_empty.notes.items (notes_from 0 c.args.fronts.now told) front_at lines_at made c.loop-i.invariant.notes in
    elim c.if-not-is_empty.branch [
      | then-not-is_empty w ↦
          let long = ap (λ (v : Vec LogNote Global). vec_len v) w.notes-is in
          let wide = ap (λ (v : Vec LogNote Global). vec_capacity v) w.notes-is in
          let some : lines ≡ [] → ⊥ = λ none.
          let no : vec_len c.in_ok-lines.lines ≡ 0 = let n = ap length none in omega (arith, n, c.in_ok-lines.lines.ok.0) in
          grind (arith, common_steps, no, c.is_empty.ensures, w.if-not-is_empty) in
          let one : log_note_from i front lines ≡ record { volume = i; from = front; lines = lines } ∷ [] = noted_one i front lines some in
          record {
            notes = step (ap (λ (v : Vec LogNote Global). v.items) w.notes-is
                ∙ (w.push_reserved.ensures.items
                ∙ (ap (λ (z : List ℕ). c.loop-i.notes.items ++ record { volume = i; from = front; lines = z } ∷ []) w.from_vec.ensures ∙ ap (λ z. c.loop-i.notes.items ++ z) (sym one))));
            count = omega (arith, long, w.push_reserved.ensures.len, c.loop-i.invariant.count);
            room = omega (arith, wide, w.push_reserved.ensures.capacity, c.loop-i.invariant.room);
          }
      | else-not-is_empty w ↦
          let long = ap (λ (v : Vec LogNote Global). vec_len v) w.notes-is in
          let wide = ap (λ (v : Vec LogNote Global). vec_capacity v) w.notes-is in
          let no : vec_len c.in_ok-lines.lines ≡ 0 = grind (arith, common_steps, c.is_empty.ensures, w.if-not-is_empty) in
          let none : log_note_from i front lines ≡ [] = nothing_noted i front lines (omega (arith, no, c.in_ok-lines.lines.ok.0)) in
          record {
            notes = step (ap (λ (v : Vec LogNote Global). v.items) w.notes-is ∙ (sym (append-nil c.loop-i.notes.items) ∙ ap (λ z. c.loop-i.notes.items ++ z) (sym none)));
            count = omega (arith, long, c.loop-i.invariant.count);
            room = omega (arith, wide, c.loop-i.invariant.room);
          }
    ]
