-- What the tests of a step tell.
use Rattle.std.proofs.Common.{◌≡◌, ℕ, ◌-◌, ◌^◌, Bool, true, false, List, [], ◌∷◌, Option, Some, None, refl, ap}
use Rattle.std.specs.Prelude.{not, ◌&&◌, ◌||◌, ◌==◌, nat_lt, map, is_none, is_some}
use Rattle.std.specs.Bool.{Decides}
use Rattle.std.proofs.lemmas.Bool.Decides.{Decides-eqb, Decides-and, Decides-or, Decides-ltb}
use Rattle.hay_needle.specs.declared.needle.Pair.{Pair}
use Rattle.hay_needle.specs.declared.needle.Cookie.{Cookie}
use Rattle.hay_reply.specs.declared.Refused.{Refused}
use Rattle.hay_reply.specs.declared.Refused.TheVariants as refused
use Rattle.hay_disk.specs.Counts.{Rose}
use Rattle.hay_legal.specs.declared.known.Known.{Known}
use Rattle.hay_legal.specs.Known.{home_of, has_risen}
use Rattle.hay_legal.specs.Plain.{DirectoryOpen}
use Rattle.hay_audit_steps.specs.Next.{is_at, cookie_eq, same_refused, refuse_so, is_dir_open}

pub tells_at : (o : Option ℕ) (n : ℕ) → Decides (is_at o n) (o ≡ Some n)
tells_at None n = (λ h. absurd cc, λ h. absurd cc)
tells_at (Some m) n = (λ h. ap (λ (x : ℕ). Some x) ((Decides-eqb m n).0 h), λ h. (Decides-eqb m n).1 (let e : Some m ≡ Some n = h in cc))

pub tells_cookie : (a b : Cookie) → Decides (cookie_eq a b) (a ≡ b)
tells_cookie a b = (λ h. (let e : a.0 ≡ b.0 = (Decides-eqb a.0 b.0).0 h in ap (λ (x : ℕ). record { 0 = x }) e), λ h. (Decides-eqb a.0 b.0).1 (ap (λ (c : Cookie). c.0) h))

pub tells_none : (o : Option ℕ) → Decides (is_none o) (o ≡ None)
tells_none None = (λ h. refl, λ h. refl)
tells_none (Some x) = (λ h. absurd cc, λ h. absurd cc)

pub tells_flag : (b : Bool) → Decides b (b ≡ true)
tells_flag b = (λ h. h, λ h. h)

pub tells_unset : (b : Bool) → Decides (not b) (b ≡ false)
tells_unset true = (λ h. absurd cc, λ h. absurd cc)
tells_unset false = (λ h. refl, λ h. refl)

pub tells_rise : (before after : ℕ) → Decides (has_risen before after) (Rose before after)
tells_rise before after = Decides-or (nat_lt before after) (after == 2 ^ 64 - 1) (Decides-ltb before after) (Decides-eqb after (2 ^ 64 - 1))

tells_refused : (a b : Refused) → Decides (same_refused a b) (a ≡ b)
tells_refused (refused.NoRoom v m end need) (refused.NoRoom v' m' end' need') =
    let all = Decides-and (v == v') ((m == m') && ((end == end') && (need == need'))) (Decides-eqb v v')
    (Decides-and (m == m') ((end == end') && (need == need')) (Decides-eqb m m')
    (Decides-and (end == end') (need == need') (Decides-eqb end end') (Decides-eqb need need'))) in (
      λ h. (let parts = all.0 h in let e0 : v ≡ v' = parts.0 in let e1 : m ≡ m' = parts.1.0 in let e2 : end ≡ end' = parts.1.1.0 in let e3 : need ≡ need' = parts.1.1.1 in cc),
      λ h. all.1 (cc, (cc, (cc, cc))),
    )
tells_refused (refused.Closed v m) (refused.Closed v' m') =
    let all = Decides-and (v == v') (m == m') (Decides-eqb v v') (Decides-eqb m m') in
    (λ h. (let parts = all.0 h in let e0 : v ≡ v' = parts.0 in let e1 : m ≡ m' = parts.1 in cc), λ h. all.1 (cc, cc))
tells_refused (refused.NoRoom v m end need) (refused.Closed v' m') = (λ h. absurd cc, λ h. absurd cc)
tells_refused (refused.Closed v m) (refused.NoRoom v' m' end' need') = (λ h. absurd cc, λ h. absurd cc)

pub tells_refusals : (tries : List (Option Refused)) (refused : List Refused) → Decides (refuse_so tries refused) (tries ≡ map (λ r. Some r) refused)
tells_refusals [] [] = (λ h. refl, λ h. refl)
tells_refusals (Some a ∷ tries) (b ∷ refused) =
    let rest = tells_refusals tries refused in
    let both = Decides-and (same_refused a b) (refuse_so tries refused) (tells_refused a b) rest in (
      λ h. (let parts = both.0 h in let e0 : a ≡ b = parts.0 in let e1 : tries ≡ map (λ r. Some r) refused = parts.1 in cc),
      λ h. both.1 (cc, cc),
    )
tells_refusals [] (b ∷ refused) = (λ h. absurd cc, λ h. absurd cc)
tells_refusals (None ∷ tries) [] = (λ h. absurd cc, λ h. absurd cc)
tells_refusals (Some a ∷ tries) [] = (λ h. absurd cc, λ h. absurd cc)
tells_refusals (None ∷ tries) (b ∷ refused) = (λ h. absurd cc, λ h. absurd cc)

pub tells_open : (b : Known) (pair : Pair) → Decides (is_dir_open b pair) (DirectoryOpen b pair)
tells_open b pair = by_home (home_of b pair) b.directory.frozen
  where
    by_home : (home : Option ℕ) (frozen : Bool) → Decides (is_some home || not frozen) (home ≡ None → frozen ≡ false)
    by_home (Some v) frozen = (λ h e. absurd cc, λ h. refl)
    by_home None true = (λ h. absurd cc, λ h. absurd (let e : true ≡ false = h refl in cc))
    by_home None false = (λ h e. refl, λ h. refl)
