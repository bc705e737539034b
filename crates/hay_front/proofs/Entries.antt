-- Tags beside what they are of.
use Rattle.std.proofs.Common.{◌≡◌, Bool, true, false, List, [], ◌∷◌, ◌++◌, map, filter, length, refl, ap, ◌∙◌, sym, arith, append-nil, length-append}
use Rattle.std.proofs.lemmas.List.Elements.{filter-append}
use Rattle.hay_front.specs.declared.front.Tag.{Tag}
use Rattle.hay_front.specs.Entries.{entries}
use Rattle.hay_front.specs.Fronts.{logged}

module _ {D : Type 0} where
  pub entries_deeds : (ts : List Tag) (ds : List D) → length ts ≡ length ds → map (λ e. e.deed) (entries ts ds) ≡ ds
  entries_deeds [] [] e = refl
  entries_deeds [] (d ∷ ds) e = absurd (omega (arith, e))
  entries_deeds (t ∷ ts) [] e = absurd (omega (arith, e))
  entries_deeds (t ∷ ts) (d ∷ ds) e = ap (λ l. d ∷ l) (entries_deeds ts ds (omega (arith, e)))

  pub entries_tags : (ts : List Tag) (ds : List D) → length ts ≡ length ds → map (λ e. e.tag) (entries ts ds) ≡ ts
  entries_tags [] ds e = refl
  entries_tags (t ∷ ts) [] e = absurd (omega (arith, e))
  entries_tags (t ∷ ts) (d ∷ ds) e = ap (λ l. t ∷ l) (entries_tags ts ds (omega (arith, e)))

  pub entries_length : (ts : List Tag) (ds : List D) → length ts ≡ length ds → length (entries ts ds) ≡ length ts
  entries_length [] ds e = refl
  entries_length (t ∷ ts) [] e = absurd (omega (arith, e))
  entries_length (t ∷ ts) (d ∷ ds) e = let r = entries_length ts ds (omega (arith, e)) in omega (arith, r)

  entries_snoc : (ts : List Tag) (ds : List D) (t : Tag) (d : D) → length ts ≡ length ds → entries (ts ++ t ∷ []) (ds ++ d ∷ []) ≡ entries ts ds ++ record { tag = t; deed = d } ∷ []
  entries_snoc [] [] t d e = refl
  entries_snoc [] (x ∷ ds) t d e = absurd (omega (arith, e))
  entries_snoc (s ∷ ts) [] t d e = absurd (omega (arith, e))
  entries_snoc (s ∷ ts) (x ∷ ds) t d e = ap (λ l. record { tag = s; deed = x } ∷ l) (entries_snoc ts ds t d (omega (arith, e)))

  -- the deeds that count, with a deed more
  filter_snoc : (counts : D → Bool) (ds : List D) (d : D) (b : Bool) → counts d ≡ b → filter counts (ds ++ d ∷ []) ≡ logged b (filter counts ds) d
  filter_snoc counts ds d true is = filter-append counts ds (d ∷ []) ∙ rw is refl
  filter_snoc counts ds d false is = filter-append counts ds (d ∷ []) ∙ rw is (append-nil (filter counts ds))

  entries_logged : (ts : List Tag) (ds : List D) (t : Tag) (d : D) (b : Bool) → length ts ≡ length ds
      → entries (logged b ts t) (logged b ds d) ≡ logged b (entries ts ds) (record { tag = t; deed = d })
  entries_logged ts ds t d true e = entries_snoc ts ds t d e
  entries_logged ts ds t d false e = refl

  length_logged : (ts : List Tag) (ds : List D) (t : Tag) (d : D) (b : Bool) → length ts ≡ length ds → length (logged b ts t) ≡ length (logged b ds d)
  length_logged ts ds t d true e = omega (arith, e, length-append ts (t ∷ []), length-append ds (d ∷ []))
  length_logged ts ds t d false e = e

  module _ (counts : D → Bool) (ts : List Tag) (ds : List D) (t : Tag) (d : D) (e : length ts ≡ length (filter counts ds)) where
    -- the log with a deed more, which has an entry if it counts
    pub entries_more : entries (logged (counts d) ts t) (filter counts (ds ++ d ∷ [])) ≡ logged (counts d) (entries ts (filter counts ds)) (record { tag = t; deed = d })
    entries_more = ap (entries (logged (counts d) ts t)) (filter_snoc counts ds d (counts d) refl) ∙ entries_logged ts (filter counts ds) t d (counts d) e

    pub length_more : length (logged (counts d) ts t) ≡ length (filter counts (ds ++ d ∷ []))
    length_more = length_logged ts (filter counts ds) t d (counts d) e ∙ ap length (sym (filter_snoc counts ds d (counts d) refl))
