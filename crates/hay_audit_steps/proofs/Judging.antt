-- What the candidates behind the first items tell.
use Rattle.std.proofs.Common.{◌≡◌, ℕ, zero, suc, ◌≤◌, List, [], ◌∷◌, ◌++◌, length, map, take, drop, refl, sym, ap, subst, ◌∙◌, inl, inr, arith, append_assoc}
use Rattle.std.proofs.Common.{append-nil as append_nil}
use Rattle.std.specs.Prelude.{slice_get, ◌<◌, ◌+◌, replicate, Some}
use Rattle.std.specs.List.{AllByRecursion as Each}
use Rattle.hay_needle.specs.declared.settings.Settings.{Settings}
use Rattle.hay_reply.specs.Replies.{header_line}
use Rattle.hay_legal.specs.declared.known.Known.{Known}
use Rattle.hay_legal.specs.declared.turn.Turn.{Turn}
use Rattle.hay_legal.specs.Items.{Asked}
use Rattle.hay_legal.specs.Known.{NoneFalls, fresh, fresh_unharmed, disk_count}
use Rattle.hay_legal.specs.Statuses.{IsFront}
use Rattle.hay_legal.specs.Legal.{Legal}
use Rattle.hay_legal.specs.Transcript.{turn_text}
use Rattle.hay_audit_steps.specs.CheckerSteps.{Below, AnyOf}
use Rattle.hay_audit_steps.specs.Reached.{FitsTurn, Candidate, texts, Runs, Reached}
use Rattle.hay_legal.specs.Items.{item_of_turn, items_of}
use Rattle.hay_legal.specs.Legal.{known_after}
use Rattle.hay_audit_steps.specs.Judged.{Explained, Fits, FitsWhole, IsGreatest, Begins, IsAny, IsUsed, AreBeforeOpen, HasOtherHeader}
use Rattle.hay_audit_steps.specs.Judged.Judgement.{Lawful, Unlawful, Open}
use Rattle.hay_audit_steps.specs.Law.{CandidatesJudge, OtherHeadersAreUnlawful}

zeros_fall : (n : ℕ) (xs : List ℕ) → length xs ≡ n → NoneFalls (replicate n 0) xs
zeros_fall zero [] e = tt
zeros_fall zero (x ∷ xs) e = absurd (omega (arith, e))
zeros_fall (suc n) [] e = absurd (omega (arith, e))
zeros_fall (suc n) (x ∷ xs) e = (omega arith, zeros_fall n xs (omega (arith, e)))

long : (n : ℕ) → length {A = ℕ} (replicate n 0) ≡ n
long zero = refl
long (suc n) = ap suc (long n)

-- the turns that lead to a candidate explain what it has used
explained : {S : Type 0} (Has : S → Known → Type 0) (settings : Settings) (items : List Asked) (transcript : List ℕ) (c : Candidate S) → Begins Has settings transcript c
    → (IsText : List ℕ → Type 0) (t : Known) (rest : List ℕ)
    → (k : Known) (turns : List Turn) → Has c.state k → Runs settings items k c.rest turns t rest
    → (texts turns ++ rest ≡ c.rest → IsText (header_line settings ++ texts turns))
    → Explained settings items IsText
explained Has settings items transcript c begins IsText t rest k turns has run told = record {
  faults = replicate (disk_count settings) 0;
  fuses = replicate (disk_count settings) 0;
  arms = replicate 8 0;
  disks = long (disk_count settings);
  lanes = long 8;
  turns = turns;
  t = t;
  asked = run.asked;
  legal = subst (λ (x : Known). Legal settings x turns t) (begins.alone k has) run.legal;
  fits = run.fits;
  told = told run.text;
}

pub some_fit : {S : Type 0} (Has : S → Known → Type 0) (settings : Settings) (items : List Asked) (transcript : List ℕ) (m : ℕ) (c : Candidate S) (cs : List (Candidate S))
    → Begins Has settings transcript c → Reached Has settings (take m items) c cs → m ≤ length items → IsAny Has cs → Fits settings items transcript m
some_fit {S} Has settings items transcript m c cs begins reached within any = (within, first cs reached.sound any)
  where
    first : (ds : List (Candidate S)) → Each (λ (d : Candidate S). (t : Known) → Has d.state t
        → (k : Known) × (turns : List Turn) × Has c.state k × Runs settings (take m items) k c.rest turns t d.rest) ds
        → IsAny Has ds → Explained settings (take m items) (λ text. IsFront text transcript)
    first [] h any = absurd any
    first (d ∷ ds) h (inr there) = first ds h.1 there
    first (d ∷ ds) h (inl one) =
        let run = h.0 one.0 one.1 in
        explained Has settings (take m items) transcript c begins (λ text. IsFront text transcript) one.0 d.rest run.0 run.1 run.2 run.3
        (λ e. (d.rest, sym (append_assoc (header_line settings) (texts run.1) d.rest ∙ ap (λ (xs : List ℕ). header_line settings ++ xs) e ∙ begins.header)))

pub whole_fit : {S : Type 0} (Has : S → Known → Type 0) (settings : Settings) (items : List Asked) (transcript : List ℕ) (c : Candidate S) (cs : List (Candidate S))
    → Begins Has settings transcript c → Reached Has settings items c cs → IsUsed Has cs → FitsWhole settings items transcript
whole_fit {S} Has settings items transcript c cs begins reached used = first cs reached.sound used
  where
    whole_text : (text rest : List ℕ) → rest ≡ [] → text ++ rest ≡ c.rest → header_line settings ++ text ≡ transcript
    whole_text text rest none e =
        ap (λ (xs : List ℕ). header_line settings ++ xs) (sym (append_nil text) ∙ ap (λ (xs : List ℕ). text ++ xs) (sym none) ∙ e) ∙ begins.header

    first : (ds : List (Candidate S)) → Each (λ (d : Candidate S). (t : Known) → Has d.state t → (k : Known) × (turns : List Turn) × Has c.state k × Runs settings items k c.rest turns t d.rest) ds
        → IsUsed Has ds → FitsWhole settings items transcript
    first [] h used = absurd used
    first (d ∷ ds) h (inr there) = first ds h.1 there
    first (d ∷ ds) h (inl one) =
        let run = h.0 one.1 one.2 in
        explained Has settings items transcript c begins (λ text. text ≡ transcript) one.1 d.rest run.0 run.1 run.2 run.3 (λ e. whole_text (texts run.1) d.rest one.0 e)

-- where turns fit, there are candidates
pub fit_some : {S : Type 0} (Has : S → Known → Type 0) (settings : Settings) (items : List Asked) (transcript : List ℕ) (m : ℕ) (c : Candidate S) (cs : List (Candidate S))
    → Begins Has settings transcript c → Reached Has settings (take m items) c cs
    → Fits settings items transcript m → IsAny Has cs
fit_some {S} Has settings items transcript m c cs begins reached fits =
    let e = fits.1 in
    let text : texts e.turns ++ e.told.0 ≡ c.rest = same_tail (header_line settings) (texts e.turns ++ e.told.0) c.rest
    (sym (append_assoc (header_line settings) (texts e.turns) e.told.0) ∙ sym e.told.1 ∙ sym begins.header) in
    any_to cs (reached.complete (fresh_unharmed settings) e.faults e.arms e.fuses e.turns e.t e.told.0 begins.fresh
    (zeros_fall (disk_count settings) e.faults e.disks) (zeros_fall 8 e.arms e.lanes)
    (record { asked = e.asked; legal = e.legal; fits = e.fits; text = text }))
  where
    any_to : (ds : List (Candidate S)) → AnyOf (λ (d : Candidate S). (d.rest ≡ ((fits.1).told).0) × (k : Known) × Has d.state k × Below k (fits.1).t) ds → IsAny Has ds
    any_to [] h = absurd h
    any_to (d ∷ ds) h = elim h [ inl here ↦ inl (here.1, here.2) | inr there ↦ inr (any_to ds there) ]

    same_tail : (xs ys zs : List ℕ) → xs ++ ys ≡ xs ++ zs → ys ≡ zs
    same_tail [] ys zs e = e
    same_tail (x ∷ xs) ys zs e = same_tail xs ys zs (cc)

pub fit_whole : {S : Type 0} (Has : S → Known → Type 0) (settings : Settings) (items : List Asked) (transcript : List ℕ) (c : Candidate S) (cs : List (Candidate S))
    → Begins Has settings transcript c → Reached Has settings items c cs
    → FitsWhole settings items transcript → IsUsed Has cs
fit_whole {S} Has settings items transcript c cs begins reached e =
    let text : texts e.turns ++ [] ≡ c.rest = same_tail (header_line settings) (texts e.turns ++ []) c.rest
    (ap (λ (xs : List ℕ). header_line settings ++ xs) (append_nil (texts e.turns)) ∙ e.told ∙ sym begins.header) in
    any_to cs (reached.complete (fresh_unharmed settings) e.faults e.arms e.fuses e.turns e.t [] begins.fresh
    (zeros_fall (disk_count settings) e.faults e.disks) (zeros_fall 8 e.arms e.lanes)
    (record { asked = e.asked; legal = e.legal; fits = e.fits; text = text }))
  where
    any_to : (ds : List (Candidate S)) → AnyOf (λ (d : Candidate S). (d.rest ≡ []) × (k : Known) × Has d.state k × Below k e.t) ds → IsUsed Has ds
    any_to [] h = absurd h
    any_to (d ∷ ds) h = elim h [ inl here ↦ inl (here.0, here.1, here.2) | inr there ↦ inr (any_to ds there) ]

    same_tail : (xs ys zs : List ℕ) → xs ++ ys ≡ xs ++ zs → ys ≡ zs
    same_tail [] ys zs e = e
    same_tail (x ∷ xs) ys zs e = same_tail xs ys zs (cc)

-- THE JUDGEMENT BY CANDIDATES

-- the first of turns that fit fit too
shorter : (settings : Settings) (items : List Asked) (transcript : List ℕ) (m n : ℕ) → m ≤ n → n ≤ length items → Explained settings (take n items) (λ text. IsFront text transcript)
    → Explained settings (take m items) (λ text. IsFront text transcript)
shorter settings items transcript m n less within h =
    let cut = cut_turns h.turns (take n items) m h.asked in
    let part =
    legal_front settings (fresh settings h.faults h.fuses h.arms) h.t (take m h.turns) (drop m h.turns)
    (subst (λ (ts : List Turn). Legal settings (fresh settings h.faults h.fuses h.arms) ts h.t) (sym (take_drop m h.turns)) h.legal) in
    record {
      faults = h.faults;
      fuses = h.fuses;
      arms = h.arms;
      disks = h.disks;
      lanes = h.lanes;
      turns = take m h.turns;
      t = part.0;
      asked = cut ∙ take_less items m n less;
      legal = part.1;
      fits = fits_front (take m h.turns) (drop m h.turns) (subst (λ (ts : List Turn). Each FitsTurn ts) (sym (take_drop m h.turns)) h.fits);
      told = (
        texts (drop m h.turns) ++ h.told.0,
        h.told.1
            ∙ append_assoc (header_line settings) (texts h.turns) h.told.0
            ∙ ap (λ (xs : List ℕ). header_line settings ++ xs) (sym (ap (λ (ts : List Turn). texts ts ++ h.told.0) (take_drop m h.turns)) ∙ texts_front (take m h.turns) (drop m h.turns) h.told.0)
            ∙ sym (append_assoc (header_line settings) (texts (take m h.turns)) (texts (drop m h.turns) ++ h.told.0)),
      );
    }
  where
    take_drop : (m : ℕ) (ts : List Turn) → take m ts ++ drop m ts ≡ ts
    take_drop zero ts = refl
    take_drop (suc m) [] = refl
    take_drop (suc m) (t ∷ ts) = ap (λ (xs : List Turn). t ∷ xs) (take_drop m ts)

    take_less : (xs : List Asked) (m n : ℕ) → m ≤ n → take m (take n xs) ≡ take m xs
    take_less xs zero n h = refl
    take_less [] (suc m) zero h = absurd (omega (arith, h))
    take_less [] (suc m) (suc n) h = refl
    take_less (x ∷ xs) (suc m) zero h = absurd (omega (arith, h))
    take_less (x ∷ xs) (suc m) (suc n) h = ap (λ (ys : List Asked). x ∷ ys) (take_less xs m n (omega (arith, h)))

    cut_turns : (ts : List Turn) (xs : List Asked) (m : ℕ) → map item_of_turn ts ≡ xs → map item_of_turn (take m ts) ≡ take m xs
    cut_turns ts xs zero e = refl
    cut_turns [] xs (suc m) e = ap (λ (ys : List Asked). take (suc m) ys) e
    cut_turns (t ∷ ts) xs (suc m) e =
        ap (λ (ys : List Asked). item_of_turn t ∷ ys) (cut_turns ts (map item_of_turn ts) m refl) ∙ ap (λ (ys : List Asked). take (suc m) ys) e

    legal_front : (settings : Settings) (k t : Known) (front back : List Turn) → Legal settings k (front ++ back) t → (mid : Known) × Legal settings k front mid
    legal_front settings k t [] back h = (k, refl)
    legal_front settings k t (turn ∷ front) back h = let rest = legal_front settings (known_after turn) t front back h.1 in (rest.0, (h.0, rest.1))

    fits_front : (front back : List Turn) → Each FitsTurn (front ++ back) → Each FitsTurn front
    fits_front [] back h = tt
    fits_front (turn ∷ front) back h = (h.0, fits_front front back h.1)

    texts_front : (front back : List Turn) (rest : List ℕ) → texts (front ++ back) ++ rest ≡ texts front ++ (texts back ++ rest)
    texts_front [] back rest = refl
    texts_front (turn ∷ front) back rest =
        append_assoc (turn_text turn) (texts (front ++ back)) rest
        ∙ ap (λ (xs : List ℕ). turn_text turn ++ xs) (texts_front front back rest)
        ∙ sym (append_assoc (turn_text turn) (texts front) (texts back ++ rest))

-- so the first m items are the most that fit
pub stops_at : {S : Type 0} (Has : S → Known → Type 0) (settings : Settings) (items : List Asked) (transcript : List ℕ) (c : Candidate S) (m : ℕ) (cs next : List (Candidate S))
    → Begins Has settings transcript c → Reached Has settings (take m items) c cs → IsAny Has cs
    → Reached Has settings (take (suc m) items) c next → (IsAny Has next → ⊥) → suc m ≤ length items
    → IsGreatest settings items transcript m
stops_at Has settings items transcript c m cs next begins here any behind none within = record {
  fits = inl (some_fit Has settings items transcript m c cs begins here (omega (arith, within)) any);
  no_more = λ more above fits.
      none (fit_some Has settings items transcript (suc m) c next begins behind
      (within, shorter settings items transcript (suc m) more (omega (arith, above)) fits.0 fits.1));
}

-- THE JUDGEMENT

pub take_all : (items : List Asked) → take (length items) items ≡ items
take_all [] = refl
take_all (x ∷ items) = ap (λ (xs : List Asked). x ∷ xs) (take_all items)

pub take_twice : (items : List Asked) (m n : ℕ) → m ≤ n → take m (take n items) ≡ take m items
take_twice items zero n h = refl
take_twice items (suc m) zero h = absurd (omega (arith, h))
take_twice [] (suc m) (suc n) h = refl
take_twice (x ∷ items) (suc m) (suc n) h = ap (λ (xs : List Asked). x ∷ xs) (take_twice items m n (omega (arith, h)))

pub take_long : (items : List Asked) (n : ℕ) → n ≤ length items → length (take n items) ≡ n
take_long items zero h = refl
take_long [] (suc n) h = absurd (omega (arith, h))
take_long (x ∷ items) (suc n) h = ap suc (take_long items n (omega (arith, h)))

-- n is no more than all items are
pub before_within : (items : List Asked) (transcript : List ℕ) (n : ℕ) → AreBeforeOpen items transcript n → n ≤ length items
before_within items transcript n before = elim before.next [ inl all ↦ omega (arith, all) | inr next ↦ there items n next.0 next.1 ]
  where
    there : (items : List Asked) (n : ℕ) (asked : Asked) → slice_get items n ≡ Some asked → n ≤ length items
    there [] n asked e = absurd cc
    there (x ∷ items) zero asked e = omega arith
    there (x ∷ items) (suc n) asked e = omega (arith, there items n asked e)

unlawful_within : {S : Type 0} (Has : S → Known → Type 0) (settings : Settings) (items : List Asked) (transcript : List ℕ) (c : Candidate S) (m n : ℕ) (cs next : List (Candidate S))
    → Begins Has settings transcript c → n ≤ length items → m < n
    → Reached Has settings (take m items) c cs → IsAny Has cs → Reached Has settings (take (m + 1) items) c next → (IsAny Has next → ⊥)
    → IsGreatest settings (take n items) transcript m
unlawful_within Has settings items transcript c m n cs next begins within less here any behind none =
    let long_enough : length (take n items) ≡ n = take_long items n within in
    let next_is : suc m ≡ m + 1 = omega arith in
    stops_at Has settings (take n items) transcript c m cs next begins
    (subst (λ (xs : List Asked). Reached Has settings xs c cs) (sym (take_twice items m n (omega (arith, less)))) here) any
    (subst (λ (xs : List Asked). Reached Has settings xs c next) (sym (take_twice items (suc m) n (omega (arith, less))))
    (subst (λ (i : ℕ). Reached Has settings (take i items) c next) (sym next_is) behind))
    none (omega (arith, less, long_enough))

unlawful_behind : {S : Type 0} (Has : S → Known → Type 0) (settings : Settings) (items : List Asked) (transcript : List ℕ) (c : Candidate S) (m : ℕ) (cs : List (Candidate S))
    → Begins Has settings transcript c → m ≡ length items
    → Reached Has settings items c cs → IsAny Has cs → IsGreatest settings (take m items) transcript m
unlawful_behind Has settings items transcript c m cs begins all here any =
    let whole : take m items ≡ items = ap (λ (i : ℕ). take i items) all ∙ take_all items in
    let long_enough : length (take m items) ≡ m = take_long items m (omega (arith, all)) in
    record {
      fits = inl (subst (λ (xs : List Asked). Fits settings xs transcript m) (sym whole)
          (some_fit Has settings items transcript m c cs begins (subst (λ (xs : List Asked). Reached Has settings xs c cs) (sym whole) here) (omega (arith, all)) any));
      no_more = λ more above fits. omega (arith, above, fits.0, long_enough);
    }

pub candidates_judge : {S : Type 0} (Has : S → Known → Type 0) → CandidatesJudge Has
candidates_judge {S} Has settings script transcript c n (Lawful m) begins before tells =
    (n, before, (tells.0, tells.1, whole_fit Has settings (items_of script) transcript c tells.2 begins tells.3 tells.4))
candidates_judge {S} Has settings script transcript c n (Open m) begins before tells =
    (n, before, (tells.0, tells.1, some_fit Has settings (items_of script) transcript n c tells.2 begins tells.3 (omega (arith, tells.1)) tells.4))
candidates_judge {S} Has settings script transcript c n (Unlawful m) begins before (inl tells) = (
  n,
  before,
  (
    unlawful_within Has settings (items_of script) transcript c m n tells.1 tells.4 begins (before_within (items_of script) transcript n before) tells.0 tells.2 tells.3 tells.5 tells.6,
    inl tells.0,
  ),
)
candidates_judge {S} Has settings script transcript c n (Unlawful m) begins before (inr tells) = (
  n,
  before,
  (
    subst (λ (i : ℕ). IsGreatest settings (take i (items_of script)) transcript m) tells.0
        (unlawful_behind Has settings (items_of script) transcript c m tells.2 begins (tells.0 ∙ tells.1) tells.3 tells.4),
    inr (inl (tells.0, tells.1, λ whole. tells.5 (fit_whole Has settings (items_of script) transcript c tells.2 begins tells.3 whole))),
  ),
)

-- no turns have a text whose header differs
pub other_header : (settings : Settings) (items : List Asked) (transcript : List ℕ) (m : ℕ) → HasOtherHeader settings transcript → Fits settings items transcript m → ⊥
other_header settings items transcript m other fits =
    let e = fits.1 in
    other (texts e.turns ++ e.told.0, e.told.1 ∙ append_assoc (header_line settings) (texts e.turns) e.told.0)

pub other_headers_are_unlawful : OtherHeadersAreUnlawful
other_headers_are_unlawful settings script transcript n before other = (
  n,
  before,
  (
    record { fits = inr (refl, other); no_more = λ more above fits. other_header settings (take n (items_of script)) transcript more other fits },
    inr (inr (refl, other)),
  ),
)
