-- Candidates without those for which others stand.
use Rattle.std.proofs.Common.{◌≡◌, ℕ, ◌+◌, ◌<◌, ◌≤◌, List, [], ◌∷◌, ◌++◌, length, take, drop, get_or, refl, sym, ap, subst, ◌∙◌, inl, inr, arith}
use Rattle.std.specs.List.{AllByRecursion as Each}
use Rattle.std.proofs.lemmas.List.{drop_more, take_more}
use Rattle.std.proofs.lemmas.Slice.Zip.{all_zipped_more}
use Rattle.hay_needle.specs.declared.settings.Settings.{Settings}
use Rattle.hay_legal.specs.declared.known.Known.{Known}
use Rattle.hay_legal.specs.declared.known.VolumeKnown.{VolumeKnown}
use Rattle.hay_legal.specs.declared.turn.Turn.{Turn}
use Rattle.hay_legal.specs.Items.{Asked}
use Rattle.hay_legal.specs.Known.{NoneFalls}
use Rattle.hay_audit_steps.specs.Boxes.{Between, Box, Has, Within, fill, fill_volumes}
use Rattle.hay_audit_steps.specs.Slacks.{Slack}
use Rattle.hay_audit_steps.specs.CheckerSteps.{AnyOf, Below, with_counts}
use Rattle.hay_audit_steps.specs.Reached.{AllAdvance, Candidate as Kept, Leads}
use Rattle.hay_audit.specs.declared.judge.Candidate.{Candidate}
use Rattle.hay_audit.specs.Candidates.{AreKept, IsKept, all_standing, standing}
use Rattle.hay_audit.specs.Joined.{Covers, Joined, StandsFor}

-- LISTS

each_by : {X : Type 0} (P Q : X → Type 0) (xs : List X) → ((x : X) → P x → Q x) → Each P xs → Each Q xs
each_by P Q [] step h = tt
each_by P Q (x ∷ xs) step h = (step x h.0, each_by P Q xs step h.1)

each_at : {X : Type 0} (P Q : X → Type 0) (R : Type 0) (xs : List X) → ((x : X) → P x → Q x → R) → Each P xs → AnyOf Q xs → R
each_at P Q R [] step h g = absurd g
each_at P Q R (x ∷ xs) step h g = elim g [ inl here ↦ step x h.0 here | inr there ↦ each_at P Q R xs step h.1 there ]

any_on : {X : Type 0} (P : X → Type 0) (xs ys : List X) → AnyOf P xs → AnyOf P (xs ++ ys)
any_on P [] ys h = absurd h
any_on P (x ∷ xs) ys h = elim h [ inl here ↦ inl here | inr there ↦ inr (any_on P xs ys there) ]

any_last : {X : Type 0} (P : X → Type 0) (xs : List X) (x : X) → P x → AnyOf P (xs ++ x ∷ [])
any_last P [] x h = inl h
any_last P (y ∷ xs) x h = inr (any_last P xs x h)

each_last : {X : Type 0} (P : X → Type 0) (xs : List X) (x : X) → Each P xs → P x → Each P (xs ++ x ∷ [])
each_last P [] x h g = (g, tt)
each_last P (y ∷ xs) x h g = (h.0, each_last P xs x h.1 g)

-- the item at a place, or one behind it
pub any_here : {X : Type 0} (P : X → Type 0) (xs : List X) (i : ℕ) (x : X) → i < length xs → x ≡ get_or xs i x → AnyOf P (x ∷ drop (i + 1) xs) → AnyOf P (drop i xs)
any_here P xs i x within is h = subst (λ (ys : List _). AnyOf P ys) (ap (λ y. y ∷ drop (i + 1) xs) is ∙ sym (drop_more xs i x within)) h

-- COUNTS

none_falls_on : (xs ys zs : List ℕ) → NoneFalls xs ys → NoneFalls ys zs → NoneFalls xs zs
none_falls_on [] [] [] h g = tt
none_falls_on [] [] (z ∷ zs) h g = absurd g
none_falls_on [] (y ∷ ys) zs h g = absurd h
none_falls_on (x ∷ xs) [] zs h g = absurd h
none_falls_on (x ∷ xs) (y ∷ ys) [] h g = absurd g
none_falls_on (x ∷ xs) (y ∷ ys) (z ∷ zs) h g = (omega (arith, h.0, g.0), none_falls_on xs ys zs h.1 g.1)

none_falls_here : (xs : List ℕ) → NoneFalls xs xs
none_falls_here [] = tt
none_falls_here (x ∷ xs) = (omega arith, none_falls_here xs)

-- one count more
pub falls_more : (xs ys : List ℕ) (i : ℕ) → i < length xs → i < length ys → NoneFalls (take i xs) (take i ys) → get_or xs i 0 ≤ get_or ys i 0 → NoneFalls (take (i + 1) xs) (take (i + 1) ys)
falls_more xs ys i within within' falls le =
    subst (λ (zs : List ℕ). NoneFalls zs (take (i + 1) ys)) (sym (take_more xs i 0 within))
    (subst (λ (zs : List ℕ). NoneFalls (take i xs ++ get_or xs i 0 ∷ []) zs) (sym (take_more ys i 0 within'))
    (all_zipped_more ◌≤◌ (take i xs) (take i ys) (get_or xs i 0) (get_or ys i 0) falls le))

below_here : (k : Known) → Below k k
below_here k = record { volumes = refl; directory = refl; drained = refl; faults = none_falls_here k.faults; arms = none_falls_here k.arms }

below_on : (a b c : Known) → Below a b → Below b c → Below a c
below_on a b c h g = record {
  volumes = g.volumes ∙ h.volumes;
  directory = g.directory ∙ h.directory;
  drained = g.drained ∙ h.drained;
  faults = none_falls_on a.faults b.faults c.faults h.faults g.faults;
  arms = none_falls_on a.arms b.arms c.arms h.arms g.arms;
}

-- STATES

filled : (a b : Known) (xss : List (List Slack)) → Below a b → Below (fill xss a) (fill xss b)
filled a b xss h = record {
  volumes = ap (λ (volumes : List VolumeKnown). fill_volumes xss volumes) h.volumes;
  directory = h.directory;
  drained = h.drained;
  faults = h.faults;
  arms = h.arms;
}

has_below : (a b : Box) (t : Known) → Covers a b → (e : Known) × Has b e × Below e t → (e : Known) × Has a e × Below e t
has_below a b t covers h =
    let has = h.1 in
    let between : Between a.low has.0 a.high = record {
      least = subst (λ (low : List (List Slack)). Within low has.0) (sym covers.low) (has.1).least;
      most = subst (λ (high : List (List Slack)). Within has.0 high) (sym covers.high) (has.1).most;
    } in
    let below : Below (fill has.0 a.base) h.0 = subst (λ (k : Known). Below (fill has.0 a.base) k) (sym has.2) (filled a.base b.base has.0 covers.base) in
    (fill has.0 a.base, (has.0, between, refl), below_on (fill has.0 a.base) h.0 t below h.2)

-- CANDIDATES

among_each : (P : Candidate → Type 0) (all kept : List Candidate) → Each (λ one. AnyOf (λ other. other ≡ one) all) kept → Each P all → Each P kept
among_each P all [] among h = tt
among_each P all (one ∷ kept) among h =
    (each_at P (λ other. other ≡ one) (P one) all (λ other held is. subst (λ (c : Candidate). P c) is held) h among.0, among_each P all kept among.1 h)

-- what a candidate has to be, for a state that an item leads to
abbrev Leaves : List ℕ → Known → Kept Box → Type 0
Leaves rest t d = (d.rest ≡ rest) × (e : Known) × Has d.state e × Below e t

stands_for : (transcript rest : List ℕ) (t : Known) (one other : Candidate) → StandsFor one other → Leaves rest t (standing transcript other) → Leaves rest t (standing transcript one)
stands_for transcript rest t one other stands leaves =
    let below = has_below one.state other.state t stands.covers (leaves.1, leaves.2, leaves.3) in
    (ap (λ (n : ℕ). drop n transcript) stands.at ∙ leaves.0, below.0, below.1, below.2)

any_standing : (transcript : List ℕ) (P : Candidate → Type 0) (Q : Kept Box → Type 0) (kept : List Candidate) → ((one : Candidate) → P one → Q (standing transcript one))
    → AnyOf P kept → AnyOf Q (all_standing transcript kept)
any_standing transcript P Q [] step h = absurd h
any_standing transcript P Q (one ∷ kept) step h = elim h [ inl here ↦ inl (step one here) | inr there ↦ inr (any_standing transcript P Q kept step there) ]

any_joined : (transcript rest : List ℕ) (t : Known) (all kept : List Candidate) → Each (λ other. AnyOf (λ one. StandsFor one other) kept) all
    → AnyOf (Leaves rest t) (all_standing transcript all) → AnyOf (Leaves rest t) (all_standing transcript kept)
any_joined transcript rest t [] kept covered h = absurd h
any_joined transcript rest t (other ∷ all) kept covered h = elim h [
  | inl here ↦ any_standing transcript (λ one. StandsFor one other) (Leaves rest t) kept (λ one stands. stands_for transcript rest t one other stands here) covered.0
  | inr there ↦ any_joined transcript rest t all kept covered.1 there
]

each_standing : (transcript : List ℕ) (Q : Kept Box → Type 0) (all : List Candidate) → Each Q (all_standing transcript all) → Each (λ one. Q (standing transcript one)) all
each_standing transcript Q [] h = tt
each_standing transcript Q (one ∷ all) h = (h.0, each_standing transcript Q all h.1)

all_standing_each : (transcript : List ℕ) (Q : Kept Box → Type 0) (all : List Candidate) → Each (λ one. Q (standing transcript one)) all → Each Q (all_standing transcript all)
all_standing_each transcript Q [] h = tt
all_standing_each transcript Q (one ∷ all) h = (h.0, all_standing_each transcript Q all h.1)

-- whence a candidate comes by an item
abbrev Comes : Settings → Asked → List (Kept Box) → Kept Box → Type 0
Comes settings asked cs d = (t : Known) → Has d.state t → AnyOf (λ (c : Kept Box). (k : Known) × (turn : Turn) × Has c.state k × Leads settings asked k c.rest turn t d.rest) cs

pub joined_advances : (settings : Settings) (transcript : List ℕ) (asked : Asked) (cs : List (Kept Box)) (all kept : List Candidate) → Joined all kept
    → AllAdvance Has settings asked cs (all_standing transcript all) → AllAdvance Has settings asked cs (all_standing transcript kept)
joined_advances settings transcript asked cs all kept joined h = record {
  sound =
      all_standing_each transcript (Comes settings asked cs) kept
      (among_each (λ one. Comes settings asked cs (standing transcript one)) all kept joined.among (each_standing transcript (Comes settings asked cs) all h.sound));
  complete =
      each_by _ _ cs (λ c goes k faults arms fuses turn t rest has f a leads. any_joined transcript rest t all kept joined.covered (goes k faults arms fuses turn t rest has f a leads)) h.complete;
}

pub joined_kept : (settings : Settings) (transcript : List ℕ) (all kept : List Candidate) → Joined all kept → AreKept settings transcript all → AreKept settings transcript kept
joined_kept settings transcript all kept joined h = among_each (IsKept settings transcript) all kept joined.among h

-- ONE MORE

pub joined_none : Joined [] []
joined_none = record { among = tt; covered = tt }

same_stands : (one : Candidate) → StandsFor one one
same_stands one = record { at = refl; covers = record { low = refl; high = refl; base = below_here one.state.base } }

pub joined_more : (done kept : List Candidate) (c : Candidate) → Joined done kept → Joined (done ++ c ∷ []) (kept ++ c ∷ [])
joined_more done kept c joined = record {
  among =
      each_last (λ one. AnyOf (λ other. other ≡ one) (done ++ c ∷ [])) kept c
      (each_by (λ one. AnyOf (λ other. other ≡ one) done) (λ one. AnyOf (λ other. other ≡ one) (done ++ c ∷ [])) kept (λ one h. any_on (λ other. other ≡ one) done (c ∷ []) h) joined.among)
      (any_last (λ other. other ≡ c) done c refl);
  covered =
      each_last (λ other. AnyOf (λ one. StandsFor one other) (kept ++ c ∷ [])) done c
      (each_by (λ other. AnyOf (λ one. StandsFor one other) kept) (λ other. AnyOf (λ one. StandsFor one other) (kept ++ c ∷ [])) done
      (λ other h. any_on (λ one. StandsFor one other) kept (c ∷ []) h) joined.covered)
      (any_last (λ one. StandsFor one c) kept c (same_stands c));
}

pub joined_less : (done kept : List Candidate) (c : Candidate) → Joined done kept → AnyOf (λ one. StandsFor one c) kept → Joined (done ++ c ∷ []) kept
joined_less done kept c joined some = record {
  among = each_by (λ one. AnyOf (λ other. other ≡ one) done) (λ one. AnyOf (λ other. other ≡ one) (done ++ c ∷ [])) kept (λ one h. any_on (λ other. other ≡ one) done (c ∷ []) h) joined.among;
  covered = each_last (λ other. AnyOf (λ one. StandsFor one other) kept) done c joined.covered some;
}
