-- One item more.
use Rattle.std.proofs.Common.{◌≡◌, ℕ, List, [], ◌∷◌, ◌++◌, map, refl, sym, ap, subst, ◌∙◌, inl, inr, append_assoc}
use Rattle.std.specs.List.{AllByRecursion as Each}
use Rattle.hay_needle.specs.declared.settings.Settings.{Settings}
use Rattle.hay_legal.specs.declared.known.Known.{Known}
use Rattle.hay_legal.specs.declared.turn.Turn.{Turn}
use Rattle.hay_legal.specs.Items.{Asked, item_of_turn}
use Rattle.hay_legal.specs.Known.{NoneFalls}
use Rattle.hay_legal.specs.Legal.{LegalTurn, Legal, known_after}
use Rattle.hay_legal.specs.Transcript.{turn_text}
use Rattle.hay_audit_steps.specs.Law.{CandidatesBegin, NoneAdvance, CandidatesAdvance, CandidatesGoOn}
use Rattle.hay_audit_steps.specs.CheckerSteps.{Below, AnyOf, with_counts}
use Rattle.hay_audit_steps.specs.Reached.{FitsTurn, texts, Runs}
use Rattle.hay_audit_steps.proofs.Laying.{any_left, any_right, each_both}

-- LISTS

each_on : {X : Type 0} (P Q : X → Type 0) (xs : List X) → ((x : X) → P x → Q x) → Each P xs → Each Q xs
each_on P Q [] step h = tt
each_on P Q (x ∷ xs) step h = (step x h.0, each_on P Q xs step h.1)

any_of_each : {X : Type 0} (P Q : X → Type 0) (R : Type 0) (xs : List X) → ((x : X) → P x → Q x → R) → Each P xs → AnyOf Q xs → R
any_of_each P Q R [] step h g = absurd g
any_of_each P Q R (x ∷ xs) step h g = elim g [ inl here ↦ step x h.0 here | inr there ↦ any_of_each P Q R xs step h.1 there ]

-- a front and a last one
record Cut (settings : Settings) (asks : List Asked) (asked : Asked) (turns : List Turn) : Type 0 where
  front : List Turn
  last : Turn
  parts : turns ≡ front ++ last ∷ []
  before : map item_of_turn front ≡ asks
  item : item_of_turn last ≡ asked

cut_last : (settings : Settings) (asks : List Asked) (asked : Asked) (turns : List Turn) → map item_of_turn turns ≡ asks ++ asked ∷ [] → Cut settings asks asked turns
cut_last settings [] asked [] e = absurd cc
cut_last settings (a ∷ asks) asked [] e = absurd cc
cut_last settings [] asked (turn ∷ []) e = record { front = []; last = turn; parts = refl; before = refl; item = cc }
cut_last settings [] asked (turn ∷ other ∷ turns) e = absurd cc
cut_last settings (a ∷ asks) asked (turn ∷ turns) e =
    let first : item_of_turn turn ≡ a = cc in
    let rest : map item_of_turn turns ≡ asks ++ asked ∷ [] = cc in
    let cut = cut_last settings asks asked turns rest in
    record {
      front = turn ∷ cut.front;
      last = cut.last;
      parts = ap (λ (ts : List Turn). turn ∷ ts) cut.parts;
      before = ap (λ (x : Asked). x ∷ map item_of_turn cut.front) first ∙ ap (λ (xs : List Asked). a ∷ xs) cut.before;
      item = cut.item;
    }

legal_on : (settings : Settings) (b : Known) (front : List Turn) (mid : Known) (last : Turn) → Legal settings b front mid → LegalTurn settings mid last
    → Legal settings b (front ++ last ∷ []) (known_after last)
legal_on settings b [] mid last h g = (subst (λ (k : Known). LegalTurn settings k last) h g, refl)
legal_on settings b (turn ∷ front) mid last h g = (h.0, legal_on settings (known_after turn) front mid last h.1 g)

legal_cut : (settings : Settings) (b t : Known) (front : List Turn) (last : Turn) → Legal settings b (front ++ last ∷ []) t
    → (mid : Known) × Legal settings b front mid × LegalTurn settings mid last × (known_after last ≡ t)
legal_cut settings b t [] last h = (b, refl, h.0, sym h.1)
legal_cut settings b t (turn ∷ front) last h =
    let rest = legal_cut settings (known_after turn) t front last h.1 in
    (rest.0, (h.0, rest.1), rest.2, rest.3)

fits_cut : (front : List Turn) (last : Turn) → Each FitsTurn (front ++ last ∷ []) → Each FitsTurn front × FitsTurn last
fits_cut [] last h = (tt, h.0)
fits_cut (turn ∷ front) last h = let rest = fits_cut front last h.1 in ((h.0, rest.0), rest.1)

texts_cut : (front : List Turn) (last : Turn) (rest : List ℕ) → texts (front ++ last ∷ []) ++ rest ≡ texts front ++ (turn_text last ++ rest)
texts_cut [] last rest = append_assoc (turn_text last) [] rest
texts_cut (turn ∷ front) last rest =
    append_assoc (turn_text turn) (texts (front ++ last ∷ [])) rest
    ∙ ap (λ (xs : List ℕ). turn_text turn ++ xs) (texts_cut front last rest)
    ∙ sym (append_assoc (turn_text turn) (texts front) (turn_text last ++ rest))

-- CANDIDATES

pub advance_none : {S : Type 0} (Has : S → Known → Type 0) → NoneAdvance Has
advance_none Has settings asked = record { sound = tt; complete = tt }

pub advance_more : {S : Type 0} (Has : S → Known → Type 0) → CandidatesAdvance Has
advance_more {S} Has settings asked c cs next others one rest = record {
  sound = each_both _ next others
      (each_on _ _ next (λ d h t has. inl (h t has)) one.sound)
      (each_on _ _ others (λ d h t has. inr (h t has)) rest.sound);
  complete = (
    λ b faults arms fuses turn t rest' has f a leads. any_left _ next others (one.complete b faults arms fuses turn t rest' has f a leads),
    each_on _ _ cs (λ d h b faults arms fuses turn t rest' has f a leads. any_right _ next others (h b faults arms fuses turn t rest' has f a leads)) rest.complete,
  );
}

pub reached_none : {S : Type 0} (Has : S → Known → Type 0) → CandidatesBegin Has
reached_none {S} Has settings c = record {
  sound = ((λ t has. (t, [], has, record { asked = refl; legal = refl; fits = tt; text = refl })), tt);
  complete = λ b faults arms fuses turns t rest' has f a runs. inl (at_start b faults arms fuses turns t rest' has f a runs);
}
  where
    at_start : (b : Known) (faults arms fuses : List ℕ) (turns : List Turn) (t : Known) (rest' : List ℕ) → Has c.state b → NoneFalls b.faults faults → NoneFalls b.arms arms
        → Runs settings [] (with_counts b faults arms fuses) c.rest turns t rest'
        → (c.rest ≡ rest') × (e : Known) × Has c.state e × Below e t
    at_start b faults arms fuses [] t rest' has f a runs =
        (sym runs.text, b, has, subst (λ (k : Known). Below b k) (sym runs.legal) (record { volumes = refl; directory = refl; drained = refl; faults = f; arms = a }))
    at_start b faults arms fuses (turn ∷ turns) t rest' has f a runs = absurd (let none : item_of_turn turn ∷ map item_of_turn turns ≡ [] = runs.asked in cc)

-- what is below stands as it, with other counts
same_but : (e t : Known) → Below e t → t ≡ with_counts e t.faults t.arms t.fuses
same_but e t below =
    ap (λ (x : _). record t { volumes = x }) below.volumes
    ∙ ap (λ (x : _). record t { volumes = e.volumes; directory = x }) below.directory
    ∙ ap (λ (x : _). record t { volumes = e.volumes; directory = e.directory; drained = x }) below.drained

pub reached_more : {S : Type 0} (Has : S → Known → Type 0) → CandidatesGoOn Has
reached_more {S} Has settings asks asked c cs next reached advance = record {
  sound = each_on _ _ next
      (λ d h t has. any_of_each _ _ _ cs
      (λ m before here.
      let first = before here.0 here.2 in (
        first.0,
        first.1 ++ here.1 ∷ [],
        first.2,
        record {
          asked = asked_on first.1 here.1 (first.3).asked (here.3).item;
          legal = subst (λ (k : Known). Legal settings first.0 (first.1 ++ here.1 ∷ []) k) (here.3).after (legal_on settings first.0 first.1 here.0 here.1 (first.3).legal (here.3).legal);
          fits = each_both FitsTurn first.1 (here.1 ∷ []) (first.3).fits ((here.3).fits, tt);
          text = texts_cut first.1 here.1 d.rest ∙ ap (λ (xs : List ℕ). texts first.1 ++ xs) (here.3).text ∙ (first.3).text;
        },
      ))
      reached.sound (h t has))
      advance.sound;
  complete = λ b faults arms fuses turns t rest' has f a runs.
      let cut = cut_last settings asks asked turns runs.asked in
      let legal = legal_cut settings (with_counts b faults arms fuses) t cut.front cut.last (subst (λ (ts : List Turn). Legal settings (with_counts b faults arms fuses) ts t) cut.parts runs.legal) in
      let fits = fits_cut cut.front cut.last (subst (λ (ts : List Turn). Each FitsTurn ts) cut.parts runs.fits) in
      let text : texts cut.front ++ (turn_text cut.last ++ rest') ≡ c.rest =
      sym (texts_cut cut.front cut.last rest') ∙ subst (λ (ts : List Turn). texts ts ++ rest' ≡ c.rest) cut.parts runs.text in
      any_of_each _ _ _ cs
      (λ m step here.
      let same : legal.0 ≡ with_counts here.1 (legal.0).faults (legal.0).arms (legal.0).fuses = same_but here.1 legal.0 here.3 in
      step here.1 (legal.0).faults (legal.0).arms (legal.0).fuses cut.last t rest' here.2 (here.3).faults (here.3).arms
      (record {
        item = cut.item;
        legal = subst (λ (k : Known). LegalTurn settings k cut.last) same legal.2;
        after = legal.3;
        fits = fits.1;
        text = sym here.0;
      }))
      advance.complete
      (reached.complete b faults arms fuses cut.front legal.0 (turn_text cut.last ++ rest') has f a
      (record { asked = cut.before; legal = legal.1; fits = fits.0; text = text }));
}
  where
    asked_on : (front : List Turn) (last : Turn) → map item_of_turn front ≡ asks → item_of_turn last ≡ asked → map item_of_turn (front ++ last ∷ []) ≡ asks ++ asked ∷ []
    asked_on front last e g = map_on front last ∙ ap (λ (xs : List Asked). xs ++ item_of_turn last ∷ []) e ∙ ap (λ (x : Asked). asks ++ x ∷ []) g
      where
        map_on : (front : List Turn) (last : Turn) → map item_of_turn (front ++ last ∷ []) ≡ map item_of_turn front ++ item_of_turn last ∷ []
        map_on [] last = refl
        map_on (turn ∷ front) last = ap (λ (xs : List Asked). item_of_turn turn ∷ xs) (map_on front last)
