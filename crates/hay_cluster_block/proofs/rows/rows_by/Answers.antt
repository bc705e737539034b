use Rattle.std.proofs.Common.{◌≡◌, ◌+◌, ◌++◌, ◌∷◌, [], ℕ, List, Vec, Global, Option, None, Some, refl, take, map, filter_map, get_or, sym, ap, subst, ◌∙◌, arith, append-nil, vec_len, vec_capacity}
use Rattle.std.specs.List.{AllByRecursion, cons_option}
use Rattle.std.proofs.lemmas.List.{map-append, take_more}
use Rattle.std.proofs.lemmas.List.Elements.{filter_map-append}
use Rattle.hay_front.specs.declared.front.Tag.{Tag}
use Rattle.hay_reply.specs.declared.LineVolume.{LineVolume}
use Rattle.hay_reply.specs.Fits.{FitsRow}
use Rattle.hay_block.specs.Stores.{line_of_tag}
use Rattle.hay_cluster_block.specs.Rows.{home_kept, row_by}
use Rattle.hay_cluster_block.proofs.Slots.{each_last}
use Rattle.hay_cluster_block.proofs.rows.rows_by.Goals as goal
use Rattle.hay_cluster_block.proofs.rows.rows_by.Goals.{in-Some, in_default}

none : Tag
none = record { seat = 0; lane = 0; line = 0 }

none_is : (row : Option LineVolume) → ((x : LineVolume) → row ≡ Some x → ⊥) → row ≡ None
none_is None never = refl
none_is (Some x) never = absurd (never x refl)

pub loop-tag-preserved : goal.loop-tag-preserved
unfolding none
loop-tag-preserved c =
    let added : List Tag = c.args.added.now in
    let i : ℕ = c.loop-tag.tag-index in
    let tag : Tag = get_or added i none in
    let Of : ℕ → Option LineVolume = λ line. row_by line (home_kept c.args.homes.now line) in
    let before : List ℕ = map line_of_tag (take i added) in
    let step : map line_of_tag (take (i + 1) added) ≡ before ++ tag.line ∷ [] = ap (map line_of_tag) (take_more added i none c.loop-tag-test.true) ∙ map-append line_of_tag (take i added) (tag ∷ []) in
    let more : filter_map Of (map line_of_tag (take (i + 1) added)) ≡ filter_map Of before ++ cons_option (Of tag.line) [] =
    ap (filter_map Of) step ∙ filter_map-append Of before (tag.line ∷ []) in
    elim c.match-row.branch [
      | in-Some w ↦ record {
        rows = ap (λ (v : Vec LineVolume Global). v.items) w.rows-is
            ∙ (w.push_reserved.ensures.items
            ∙ (ap (λ z. z ++ w.in-Some.row ∷ []) c.loop-tag.invariant.rows
            ∙ (ap (λ z. filter_map Of before ++ cons_option z []) (sym w.in-Some.is ∙ c.row.ensures.is) ∙ sym more)));
        fits = subst (λ (v : Vec LineVolume Global). AllByRecursion FitsRow v.items) (sym w.rows-is)
            (subst (AllByRecursion FitsRow) (sym w.push_reserved.ensures.items) (each_last FitsRow c.loop-tag.rows.items w.in-Some.row c.loop-tag.invariant.fits w.in-Some.ensures.fits));
        count = let long = ap (λ (v : Vec LineVolume Global). vec_len v) w.rows-is in omega (arith, long, w.push_reserved.ensures.len, c.loop-tag.invariant.count);
        room = let wide = ap (λ (v : Vec LineVolume Global). vec_capacity v) w.rows-is in omega (arith, wide, w.push_reserved.ensures.capacity, c.loop-tag.invariant.room);
      }
      | in_default w ↦ record {
        rows = ap (λ (v : Vec LineVolume Global). v.items) w.rows-is
            ∙ (c.loop-tag.invariant.rows
            ∙ (sym (append-nil (filter_map Of before)) ∙ (ap (λ z. filter_map Of before ++ cons_option z []) (sym (none_is c.row.result w.in_default.not-Some) ∙ c.row.ensures.is) ∙ sym more)));
        fits = subst (λ (v : Vec LineVolume Global). AllByRecursion FitsRow v.items) (sym w.rows-is) c.loop-tag.invariant.fits;
        count = let long = ap (λ (v : Vec LineVolume Global). vec_len v) w.rows-is in omega (arith, long, c.loop-tag.invariant.count);
        room = let wide = ap (λ (v : Vec LineVolume Global). vec_capacity v) w.rows-is in omega (arith, wide, c.loop-tag.invariant.room);
      }
    ]
