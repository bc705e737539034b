-- The pass over the sides in which the first that has a device call left makes it.
use Rattle.std.proofs.Common.{◌≡◌, ℕ, ◌+◌, ◌<◌, List, [], ◌∷◌, ◌++◌, length, drop, get_or, Option, Some, None, refl, sym, ap, ◌∙◌, append_assoc}
use Rattle.std.specs.Prelude.{option_map, is_some, Bool, true, false}
use Rattle.hay_core.specs.declared.machine.Side.{Side}
use Rattle.hay_core.specs.declared.machine.Work.{Work}
use Rattle.hay_core.specs.declared.calls.Harm.{Harm}
use Rattle.hay_core.specs.declared.calls.DeviceCall.{DeviceCall}
use Rattle.hay_core.specs.Calls.{call_of}
use Rattle.hay_core.specs.Transitions.{at_first, put_first, first_call, first_of_two, first_passes, first_side_passes}
use Rattle.hay_core.proofs.Lists.{next_left}

-- what becomes of the sides that are left, once a call was met or not
abbrev pub left : Work → (DeviceCall → Side → Side) → Option Harm → List Side → List Side
left w f None sides = at_first w f sides
left w f (Some harm) sides = sides

abbrev pub harm_or : Option Harm → Option Harm → Option Harm
harm_or None other = other
harm_or (Some harm) other = Some harm

abbrev harm_of : Option DeviceCall → Option Harm
harm_of o = option_map (λ call. call.harm) o

first_alike : (a b : Side) (xs : List Side) → a ∷ [] ≡ b ∷ [] → a ∷ xs ≡ b ∷ xs
first_alike a b xs e = ap (λ (ys : List Side). ys ++ xs) e

meets : (w : Work) (f : DeviceCall → Side → Side) (s t : Side) (rest : List Side) (o : Option DeviceCall) → t ∷ [] ≡ put_first o f s [] []
    → t ∷ left w f (harm_of o) rest ≡ put_first o f s rest (at_first w f rest)
meets w f s t rest None e = first_alike t s (at_first w f rest) e
meets w f s t rest (Some call) e = first_alike t (f call s) rest e

-- no call was met yet
pub sides_met : (w : Work) (f : DeviceCall → Side → Side) (before list whole : List Side) (i : ℕ) (s t : Side) (harm : Option Harm) → i < length list → s ≡ get_or list i s
    → t ∷ [] ≡ at_first w f (s ∷ []) → harm ≡ option_map (λ call. call.harm) (call_of w s) → before ++ at_first w f (drop i list) ≡ whole
    → (before ++ t ∷ []) ++ left w f harm (drop (i + 1) list) ≡ whole
sides_met w f before list whole i s t harm h is made harm_is e =
    append_assoc before (t ∷ []) (left w f harm (drop (i + 1) list))
    ∙ ap (λ (o : Option Harm). before ++ t ∷ left w f o (drop (i + 1) list)) harm_is
    ∙ ap (λ (xs : List Side). before ++ xs) (meets w f s t (drop (i + 1) list) (call_of w s) made)
    ∙ ap (λ (xs : List Side). before ++ at_first w f xs) (sym (next_left list i s h is)) ∙ e

harm_first : (a b : Option DeviceCall) → harm_or (harm_of a) (harm_of b) ≡ harm_of (first_of_two a b)
harm_first None b = refl
harm_first (Some call) b = refl

pub harm_met : (w : Work) (list : List Side) (i : ℕ) (s : Side) (harm whole : Option Harm) → i < length list → s ≡ get_or list i s → harm ≡ option_map (λ call. call.harm) (call_of w s)
    → option_map (λ call. call.harm) (first_call w (drop i list)) ≡ whole → harm_or harm (option_map (λ call. call.harm) (first_call w (drop (i + 1) list))) ≡ whole
harm_met w list i s harm whole h is harm_is e =
    ap (λ (o : Option Harm). harm_or o (harm_of (first_call w (drop (i + 1) list)))) harm_is
    ∙ harm_first (call_of w s) (first_call w (drop (i + 1) list))
    ∙ ap (λ (xs : List Side). harm_of (first_call w xs)) (sym (next_left list i s h is)) ∙ e

-- a call was met: the other sides stay
pub sides_stay : (w : Work) (f : DeviceCall → Side → Side) (before list whole : List Side) (i : ℕ) (s t : Side) (harm : Harm) → i < length list → s ≡ get_or list i s → t ≡ s
    → before ++ drop i list ≡ whole → (before ++ t ∷ []) ++ drop (i + 1) list ≡ whole
sides_stay w f before list whole i s t harm h is same e =
    append_assoc before (t ∷ []) (drop (i + 1) list) ∙ ap (λ (x : Side). before ++ x ∷ drop (i + 1) list) same ∙ ap (λ (xs : List Side). before ++ xs) (sym (next_left list i s h is)) ∙ e

-- a side without a call is passed
pub none_here : (w : Work) (s : Side) (rest : List Side) → is_some (call_of w s) ≡ false → first_call w (s ∷ rest) ≡ first_call w rest
none_here w s rest f = go (call_of w s) f
  where
    go : (o : Option DeviceCall) → is_some o ≡ false → first_of_two o (first_call w rest) ≡ first_call w rest
    go None f = refl
    go (Some call) f = absurd (Rattle.std.proofs.lemmas.Bool.true≢false f)

pub some_here : (w : Work) (s : Side) (rest : List Side) → is_some (call_of w s) ≡ true → is_some (first_call w (s ∷ rest)) ≡ true
some_here w s rest f = go (call_of w s) f
  where
    go : (o : Option DeviceCall) → is_some o ≡ true → is_some (first_of_two o (first_call w rest)) ≡ true
    go None f = absurd (Rattle.std.proofs.lemmas.Bool.false≢true f)
    go (Some call) f = refl

pub test_passed : (w : Work) (test : Side → Bool) (s : Side) (rest : List Side) → is_some (call_of w s) ≡ false → first_passes w test (s ∷ rest) ≡ first_passes w test rest
test_passed w test s rest f = go (call_of w s) f
  where
    go : (o : Option DeviceCall) → is_some o ≡ false → first_side_passes o (test s) (first_passes w test rest) ≡ first_passes w test rest
    go None f = refl
    go (Some call) f = absurd (Rattle.std.proofs.lemmas.Bool.true≢false f)

pub test_here : (w : Work) (test : Side → Bool) (s : Side) (rest : List Side) → is_some (call_of w s) ≡ true → first_passes w test (s ∷ rest) ≡ test s
test_here w test s rest f = go (call_of w s) f
  where
    go : (o : Option DeviceCall) → is_some o ≡ true → first_side_passes o (test s) (first_passes w test rest) ≡ test s
    go None f = absurd (Rattle.std.proofs.lemmas.Bool.false≢true f)
    go (Some call) f = refl

-- the same, as the loop has it
pub sides_on : (w : Work) (f : DeviceCall → Side → Side) (before list whole : List Side) (i : ℕ) (s t : Side) (harm : Option Harm) → is_some harm ≡ true → i < length list → s ≡ get_or list i s → t ≡ s
    → before ++ left w f harm (drop i list) ≡ whole → (before ++ t ∷ []) ++ left w f harm (drop (i + 1) list) ≡ whole
sides_on w f before list whole i s t None f' h is same e = absurd (Rattle.std.proofs.lemmas.Bool.false≢true f')
sides_on w f before list whole i s t (Some harm) f' h is same e = sides_stay w f before list whole i s t harm h is same e

pub harm_on : (a b whole : Option Harm) (harm : Option Harm) → is_some harm ≡ true → harm_or harm a ≡ whole → harm_or harm b ≡ whole
harm_on a b whole None f e = absurd (Rattle.std.proofs.lemmas.Bool.false≢true f)
harm_on a b whole (Some harm) f e = e

pub none_met : (w : Work) (f : DeviceCall → Side → Side) (harm : Option Harm) (xs : List Side) → is_some harm ≡ false → left w f harm xs ≡ at_first w f xs
none_met w f None xs e = refl
none_met w f (Some harm) xs e = absurd (Rattle.std.proofs.lemmas.Bool.true≢false e)

pub none_or : (harm other : Option Harm) → is_some harm ≡ false → harm_or harm other ≡ other
none_or None other e = refl
none_or (Some harm) other e = absurd (Rattle.std.proofs.lemmas.Bool.true≢false e)
