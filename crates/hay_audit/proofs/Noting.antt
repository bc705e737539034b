-- Notes at the front of a text.
use Rattle.std.proofs.Common.{◌≡◌, ◌≢◌, ℕ, zero, suc, ◌+◌, ◌-◌, ◌<◌, ◌≤◌, List, [], ◌∷◌, ◌++◌, length, take, drop, Option, Some, None, refl, sym, ap, subst, ◌∙◌, arith, append_assoc}
use Rattle.std.specs.Prelude.{flat_map, IfNone, IfSome}
use Rattle.std.specs.List.{AllByRecursion as Each}
use Rattle.std.proofs.lemmas.List.{length-drop}
use Rattle.hay_reply.specs.declared.Note.{Note}
use Rattle.hay_reply.specs.Fits.{FitsNote}
use Rattle.hay_reply.specs.Replies.{note_line, note_text}
use Rattle.hay_audit_steps.proofs.Feeds.{cut_once, fine_note, note_text_line, one_note}
use Rattle.hay_audit.specs.Feeds.{feed_at}
use Rattle.hay_audit.proofs.Lists.{drop_twice}
use Rattle.hay_audit.proofs.Reading.{IsLine, line_is, no_line}

-- ONE NOTE

pub note_is : (n : Note) (text : List ℕ) (feed : ℕ) → IsLine text feed → note_text n ≡ take feed text → note_line n ++ drop (feed + 1) text ≡ text
note_is n text feed is e = note_text_line n (drop (feed + 1) text) ∙ ap (λ (xs : List ℕ). xs ++ 10 ∷ drop (feed + 1) text) e ∙ sym is.parts

pub no_feed : (text : List ℕ) → feed_at text ≡ None → (n : Note) (rest : List ℕ) → note_line n ++ rest ≢ text
no_feed text none n rest e = no_line text none (note_text n) rest (sym (note_text_line n rest) ∙ e)

pub no_note : (text : List ℕ) (feed : ℕ) → IsLine text feed → ((n : Note) → FitsNote n → note_text n ≢ take feed text) → (n : Note) (rest : List ℕ) → FitsNote n → note_line n ++ rest ≢ text
no_note text feed is none n rest fits e =
    none n fits (cut_once (note_text n) (take feed text) rest (drop (feed + 1) text) (fine_note n fits) is.fine (sym (note_text_line n rest) ∙ e ∙ is.parts)).0

-- MORE NOTES

abbrev pub NoneAt : ℕ → List ℕ → Type 0
NoneAt count text = (notes : List Note) (rest : List ℕ) → length notes ≡ count → Each FitsNote notes → flat_map note_line notes ++ rest ≢ text

-- these notes were read, up to this place: where no more stand behind it, there are not as many
pub record NotesRead (text : List ℕ) (count : ℕ) (notes : List Note) (behind : ℕ) : Type 0 where
  pub within : behind ≤ length text
  pub few : length notes ≤ count
  pub fits : Each FitsNote notes
  pub parts : flat_map note_line notes ++ drop behind text ≡ text
  pub others : NoneAt (count - length notes) (drop behind text) → NoneAt count text

each_one_more : (notes : List Note) (n : Note) → Each FitsNote notes → FitsNote n → Each FitsNote (notes ++ n ∷ [])
each_one_more [] n h g = (g, tt)
each_one_more (x ∷ notes) n h g = (h.0, each_one_more notes n h.1 g)

lines_one_more : (notes : List Note) (n : Note) (rest : List ℕ) → flat_map note_line (notes ++ n ∷ []) ++ rest ≡ flat_map note_line notes ++ (note_line n ++ rest)
lines_one_more [] n rest = ap (λ (xs : List ℕ). xs ++ rest) (nothing_behind (note_line n))
  where
    nothing_behind : (xs : List ℕ) → xs ++ [] ≡ xs
    nothing_behind [] = refl
    nothing_behind (x ∷ xs) = ap (λ (ys : List ℕ). x ∷ ys) (nothing_behind xs)
lines_one_more (x ∷ notes) n rest =
    append_assoc (note_line x) (flat_map note_line (notes ++ n ∷ [])) rest
    ∙ ap (λ (xs : List ℕ). note_line x ++ xs) (lines_one_more notes n rest)
    ∙ sym (append_assoc (note_line x) (flat_map note_line notes) (note_line n ++ rest))

long_one_more : (notes : List Note) (n : Note) → length (notes ++ n ∷ []) ≡ length notes + 1
long_one_more [] n = omega arith
long_one_more (x ∷ notes) n = omega (arith, long_one_more notes n)

-- where no more stand behind a note, there are no more before it
none_before : (left : ℕ) (text rest : List ℕ) (n : Note) → FitsNote n → note_line n ++ rest ≡ text → NoneAt left rest → NoneAt (suc left) text
none_before left text rest n fits is none [] behind many each e = absurd (omega (arith, many))
none_before left text rest n fits is none (x ∷ notes) behind many each e =
    let cut = one_note n x rest (flat_map note_line notes ++ behind) fits each.0 (sym (append_assoc (note_line x) (flat_map note_line notes) behind) ∙ e ∙ sym is) in
    none notes behind (omega (arith, many)) each.1 cut.1

pub read_on : (text part : List ℕ) (count : ℕ) (notes new : List Note) (behind more : ℕ) (n : Note) → NotesRead text count notes behind → length notes < count
    → part ≡ drop behind text → more ≤ length part
    → FitsNote n → note_line n ++ drop more part ≡ part → new ≡ notes ++ n ∷ [] → NotesRead text count new (behind + more)
read_on text part count notes new behind more n h left is within fits read added =
    let rest : drop (behind + more) text ≡ drop more part = drop_twice behind more text ∙ ap (λ (xs : List ℕ). drop more xs) (sym is) in
    let long : length part ≡ length (drop behind text) = ap (λ (xs : List ℕ). length xs) is in
    subst (λ (ns : List Note). NotesRead text count ns (behind + more)) (sym added) (record {
      within = omega (arith, h.within, within, long, length-drop behind text);
      few = omega (arith, left, long_one_more notes n);
      fits = each_one_more notes n h.fits fits;
      parts = lines_one_more notes n (drop (behind + more) text)
          ∙ ap (λ (xs : List ℕ). flat_map note_line notes ++ (note_line n ++ xs)) rest
          ∙ ap (λ (xs : List ℕ). flat_map note_line notes ++ xs) (read ∙ is)
          ∙ h.parts;
      others =
          λ none. h.others (subst (λ (m : ℕ). NoneAt m (drop behind text)) (let e : suc (count - length (notes ++ n ∷ [])) ≡ count - length notes = omega (arith, left, long_one_more notes n) in e)
          (subst (λ (xs : List ℕ). NoneAt (suc (count - length (notes ++ n ∷ []))) xs) is
          (none_before (count - length (notes ++ n ∷ [])) part (drop more part) n fits read (subst (λ (xs : List ℕ). NoneAt (count - length (notes ++ n ∷ [])) xs) rest none))));
    })

pub none_read : (text : List ℕ) (count : ℕ) → NotesRead text count [] 0
none_read text count = record {
  within = omega arith;
  few = omega arith;
  fits = tt;
  parts = refl;
  others = λ none. subst (λ (n : ℕ). NoneAt n text) (let e : count - 0 ≡ count = omega arith in e) none;
}

-- where the next note is not there
pub none_next : (text part : List ℕ) (count : ℕ) (notes : List Note) (behind : ℕ) → NotesRead text count notes behind → length notes < count → part ≡ drop behind text
    → ((n : Note) (rest : List ℕ) → FitsNote n → note_line n ++ rest ≢ part) → NoneAt count text
none_next text part count notes behind h left is none = h.others (one_less (count - length notes) (omega (arith, left)))
  where
    one_less : (n : ℕ) → 0 < n → NoneAt n (drop behind text)
    one_less n some [] rest many each e = absurd (omega (arith, many, some))
    one_less n some (x ∷ more) rest many each e =
        none x (flat_map note_line more ++ rest) each.0 (sym (append_assoc (note_line x) (flat_map note_line more) rest) ∙ e ∙ sym is)
