-- The lines of a script, as they are taken.
use Rattle.std.proofs.Common.{◌≡◌, ◌≢◌, inl, inr, ℕ, ◌+◌, ◌<◌, ◌≤◌, Bool, true, List, [], ◌∷◌, ◌++◌, length, Option, Some, None, refl, sym, ap, subst, ◌∙◌, append_assoc, length-append, arith}
use Rattle.std.specs.Prelude.{map}
use Rattle.std.proofs.lemmas.Bool.{false≢true}
use Rattle.hay_needle.specs.declared.settings.Settings.{Settings}
use Rattle.hay_script.specs.declared.Line.{Line}
use Rattle.hay_script.specs.Script.{lines_of}
use Rattle.hay_script.specs.declared.words.TheConstants.{MAX_SCRIPT}
use Rattle.hay_lines.specs.Lines.{TookLine, TookOver, TookPart}
use Rattle.hay_lines.specs.Said.{SaysNext}
use Rattle.hay_lines.specs.Stream.{Accounts, Held, IsReadToEnd, IsTooLong, TookAll, TookAtMost, rest_of}
use Rattle.hay_lines.proofs.Feeding.{lines_of-some, fed_next}
use Rattle.hay_lines.proofs.Taking.{accounts_more, long_before}
use Rattle.hay_load.specs.Gathering.{Group, OpenBatch, Step, closed, groups_from, line_step}
use Rattle.hay_loading.specs.Endings.{says}
use Rattle.hay_loading.specs.Lines.{ComeNext, Makes, rest_groups}

-- the line that was taken is the first of those that were left
line_first : (all text : List ℕ) (after : Option (List ℕ)) (ended : Bool) → TookLine (Some all) text after ended → (rest : List ℕ) × (after ≡ Some rest) × (lines_of all ≡ text ∷ lines_of rest)
line_first all text after ended (inl w) = fed_next all text after w.0
line_first all text after ended (inr w) = ([], w.0.all.1, ap lines_of w.0.all.0 ∙ lines_of-some text w.0.free w.0.some)

-- nothing is left where the end was met
line_over : (all text : List ℕ) (after : Option (List ℕ)) (ended : Bool) → TookLine (Some all) text after ended → ended ≡ true → after ≡ Some []
line_over all text after ended (inl w) met = absurd (false≢true (sym w.1 ∙ met))
line_over all text after ended (inr w) met = w.0.all.1

pub said_end : (said : Option Line) (before after : Option (List ℕ)) (ended : Bool) → SaysNext None said before after ended → ended ≡ true → IsReadToEnd before after
said_end None None after ended next met = tt
said_end (Some said) None after ended next met = tt
said_end None (Some all) after ended next met = next.0.1
said_end (Some said) (Some all) after ended next met = line_over all next.0 after ended next.1 met

-- where nothing is held, what is left is what the source has left
rest_none : (left : Option (List ℕ)) (held : Held) → held.bytes ≡ [] → rest_of left held ≡ left
rest_none None held none = refl
rest_none (Some all) held none = ap (λ (bytes : List ℕ). Some (bytes ++ all)) none

pub part_left : (before left : Option (List ℕ)) (held : Held) → held.bytes ≡ [] → TookPart before (rest_of left held) → TookPart before left
part_left before left held none took = subst (λ (after : Option (List ℕ)). TookPart before after) (rest_none left held none) took

pub over_left : (before left : Option (List ℕ)) (held : Held) → held.bytes ≡ [] → TookOver before (rest_of left held) → TookOver before left
over_left before left held none took = subst (λ (after : Option (List ℕ)). TookOver before after) (rest_none left held none) took

-- WHAT THEY MAKE

module _ (settings : Settings) (number : ℕ) (held : Option OpenBatch) where
  abbrev made : Line → Step
  made said = line_step settings number held said

  step_makes : (rest text rest' : List ℕ) (said : Line) → lines_of rest ≡ text ∷ lines_of rest' → said ≡ says text
      → rest_groups settings number held rest ≡ (made said).groups ++ rest_groups settings (number + 1) (made said).held rest'
  step_makes rest text rest' said lines is =
      ap (λ (l : List (List ℕ)). groups_from settings number held (map says l)) lines
      ∙ ap (λ (s : Line). (made s).groups ++ rest_groups settings (number + 1) (made s).held rest') (sym is)

  pub line_makes : (said : Line) (before after : Option (List ℕ)) (ended : Bool) (held' : Option OpenBatch) → SaysNext None (Some said) before after ended → held' ≡ (made said).held
      → Makes settings number held before (made said).groups (number + 1) held' after
  line_makes said before after ended held' next is = λ rest told.
      let P : Option (List ℕ) → Type 0 = λ b. TookLine b next.0 after ended in
      let first = line_first rest next.0 after ended (subst P told next.1) in (
        first.0,
        first.1,
        step_makes rest next.0 first.0 said first.2 next.2
            ∙ ap (λ (h : Option OpenBatch). (made said).groups ++ rest_groups settings (number + 1) h first.0) (sym is),
      )

  pub line_next : (said : Line) (before after : Option (List ℕ)) (ended : Bool) → SaysNext None (Some said) before after ended → ComeNext settings number held before (made said).groups
  line_next said before after ended next = λ rest told.
      let P : Option (List ℕ) → Type 0 = λ b. TookLine b next.0 after ended in
      let first = line_first rest next.0 after ended (subst P told next.1) in (
        rest_groups settings (number + 1) (made said).held first.0,
        step_makes rest next.0 first.0 said first.2 next.2,
      )

  -- the end was met in place of a line
  pub end_makes : (before after : Option (List ℕ)) (ended : Bool) → SaysNext None None before after ended → Makes settings number held before [] number held after
  end_makes before after ended over = λ rest told.
      let P : Option (List ℕ) → Type 0 = λ b. TookAll b [] after in
      let all = subst P told over.0 in ([], all.1, ap (λ (l : List ℕ). rest_groups settings number held l) all.0)

  -- of any lines no groups come first
  pub none_next : (left : Option (List ℕ)) → ComeNext settings number held left []
  none_next left = λ rest told. (rest_groups settings number held rest, refl)

-- MORE LINES

same_some : (x y : List ℕ) → Some x ≡ Some y → x ≡ y
same_some x y is = cc

pub makes_none : (settings : Settings) (number : ℕ) (held : Option OpenBatch) (left : Option (List ℕ)) (all : Held) → all.bytes ≡ [] → Makes settings number held left [] number held (rest_of left all)
makes_none settings number held left all none = λ rest told.
    (rest, ap (λ (l : Option (List ℕ)). rest_of l all) told ∙ ap (λ (l : List ℕ). Some (l ++ rest)) none, refl)

-- behind lines come more
module _ (settings : Settings) (number number' : ℕ) (held held' : Option OpenBatch) (left left' : Option (List ℕ)) (groups more : List Group)
    (first : Makes settings number held left groups number' held' left') where
  pub makes_more : (number'' : ℕ) (held'' : Option OpenBatch) (left'' : Option (List ℕ)) → Makes settings number' held' left' more number'' held'' left''
      → Makes settings number held left (groups ++ more) number'' held'' left''
  makes_more number'' held'' left'' second = λ rest told.
      let a = first rest told in
      let b = second a.0 a.1 in (
        b.0,
        b.1,
        a.2 ∙ ap (λ (l : List Group). groups ++ l) b.2 ∙ sym (append_assoc groups more (rest_groups settings number'' held'' b.0)),
      )

  pub next_more : ComeNext settings number' held' left' more → ComeNext settings number held left (groups ++ more)
  next_more second = λ rest told.
      let a = first rest told in
      let b = second a.0 a.1 in (
        b.0,
        a.2 ∙ ap (λ (l : List Group). groups ++ l) b.1 ∙ sym (append_assoc groups more b.0),
      )

  -- and then nothing
  pub makes_all : (number'' : ℕ) (held'' : Option OpenBatch) (left'' : Option (List ℕ)) → Makes settings number' held' left' more number'' held'' left'' → IsReadToEnd left' left''
      → (rest : List ℕ) → left ≡ Some rest → rest_groups settings number held rest ≡ (groups ++ more) ++ closed held''
  makes_all number'' held'' left'' second over rest told =
      let a = first rest told in
      let b = second a.0 a.1 in
      let P : Option (List ℕ) → Type 0 = λ l. IsReadToEnd l left'' in
      let ends : left'' ≡ Some [] = subst P a.1 over in
      let none : b.0 ≡ [] = same_some b.0 [] (sym b.1 ∙ ends) in
      a.2 ∙ ap (λ (l : List Group). groups ++ l) b.2 ∙ sym (append_assoc groups more (rest_groups settings number'' held'' b.0))
      ∙ ap (λ (l : List ℕ). (groups ++ more) ++ rest_groups settings number'' held'' l) none

-- HOW LONG A SCRIPT IS

pub short_script : (limit : ℕ) (script : List ℕ) (mid new : Option (List ℕ)) (first held held' : Held)
    → Accounts (Some script) first mid held → Accounts mid held new held' → IsReadToEnd (rest_of mid held) (rest_of new held') → first.taken ≡ 0 → held'.taken ≤ limit → length script ≤ limit
short_script limit script None new first held held' h k over at_first small = cc
short_script limit script (Some rest) None first held held' h k over at_first small = cc
short_script limit script (Some rest) (Some last) first held held' h k over at_first small =
    let same : rest ≡ h.0 = cc in
    let same' : last ≡ k.0 = cc in
    let nothing : held'.bytes ++ last ≡ [] = cc in
    omega (arith, h.2, k.2, ap length same, ap length same', ap length nothing, length-append held'.bytes last, at_first, small)

pub long_script : (limit : ℕ) (script : List ℕ) (mid after : Option (List ℕ)) (first held : Held) → Accounts (Some script) first mid held → IsTooLong limit mid held after → first.taken ≡ 0
    → (rest : List ℕ) × (after ≡ Some rest) × (length script ≡ limit + 1 + length rest)
long_script limit script mid after first held h long at_first =
    let more = long_before limit (Some script) mid after first held h long in (more.0, more.1, omega (arith, more.2, at_first))

pub taken_nothing : (limit : ℕ) (left : Option (List ℕ)) → TookAtMost limit left left
taken_nothing limit left script told = (script, told, omega arith)

pub taken_most : (limit : ℕ) (left mid after : Option (List ℕ)) (first held held' : Held) → Accounts left first mid held → Accounts mid held after held' → first.taken ≡ 0
    → held'.taken ≤ limit → TookAtMost limit left after
taken_most limit left mid after first held held' h k at_first small script told =
    let all = accounts_more left mid after first held held' h k in
    let made : Accounts (Some script) first after held' = rw told at all in (made.0, made.1, omega (arith, made.2, at_first, small))

pub last_of_none : (a b : List ℕ) → a ++ b ≡ [] → b ≡ []
last_of_none [] b e = e
last_of_none (x ∷ a) b e = cc

pub read_to_end : (script mid new : Option (List ℕ)) (first held held' : Held) → Accounts script first mid held → IsReadToEnd (rest_of mid held) (rest_of new held') → IsReadToEnd script new
read_to_end None mid new first held held' h over = tt
read_to_end (Some script) None new first held held' h over = cc
read_to_end (Some script) (Some rest) None first held held' h over = cc
read_to_end (Some script) (Some rest) (Some last) first held held' h over =
    let nothing : held'.bytes ++ last ≡ [] = cc in ap (λ (bytes : List ℕ). Some bytes) (last_of_none held'.bytes last nothing)
