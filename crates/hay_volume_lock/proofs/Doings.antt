-- Acts, and one more.
use Rattle.std.proofs.Common.{◌≡◌, inl, inr, ℕ, List, [], ◌∷◌, ◌++◌, Option, refl, sym, subst}
use mathlib.Core.List.{IsPrefix}
use Rattle.hay_core.specs.declared.entry.CoreTag.{CoreTag}
use Rattle.hay_history.specs.Histories.{begun_in}
use Rattle.hay_holdings.proofs.Ending.{all_or_before}
use Rattle.hay_meeting.specs.declared.act.VolumeAct.{VolumeAct}
use Rattle.hay_meeting.specs.Acts.{begun_of, did_of}
use Rattle.hay_meeting.specs.Locks.{Doing, past}
use Rattle.hay_volume_lock.specs.Keeping.{ended_in, ended_of}

pub begun_more : (j : ℕ) (before : CoreTag) (acts : List VolumeAct) (act : VolumeAct) → begun_of j before (acts ++ act ∷ []) ≡ begun_in j act.tag (did_of act.did) (begun_of j before acts)
begun_more j before [] act = refl
begun_more j before (x ∷ xs) act = begun_more j (begun_in j x.tag (did_of x.did) before) xs act

-- two lists with one more at the end that are the same
same_last : {A : Type 0} (xs ys : List A) (x y : A) → xs ++ x ∷ [] ≡ ys ++ y ∷ [] → (xs ≡ ys) × (x ≡ y)
same_last [] [] x y same = (refl, cc same)
same_last [] (b ∷ []) x y same = absurd (cc same)
same_last [] (b ∷ c ∷ ys) x y same = absurd (cc same)
same_last (a ∷ []) [] x y same = absurd (cc same)
same_last (a ∷ c ∷ xs) [] x y same = absurd (cc same)
same_last (a ∷ xs) (b ∷ ys) x y same =
    let first : a ≡ b = cc same in
    let rest : xs ++ x ∷ [] ≡ ys ++ y ∷ [] = cc same in
    let both = same_last xs ys x y rest in (cc (first, both.0), both.1)

-- what holds of each act of a history, and of one behind it, with what was before
pub doings_more : {A : Type 0} (P : Doing A → Type 0) (acts : List A) (act : A) → ((doing : Doing A) → IsPrefix (past doing) acts → P doing) → P (record { held = acts; act = act })
    → (doing : Doing A) → IsPrefix (past doing) (acts ++ act ∷ []) → P doing
doings_more P acts act each here doing begins = elim (all_or_before acts act (past doing) begins) [
  | inl all ↦
      let same = same_last doing.held acts doing.act act all in
      subst (λ (d : Doing _). P d) (λ i. record { held = sym same.0 i; act = sym same.1 i }) here
  | inr before ↦ each doing before
]

pub ended_more : (j lane : ℕ) (begun : CoreTag) (before : Option ℕ) (acts : List VolumeAct) (act : VolumeAct)
    → ended_of j lane begun before (acts ++ act ∷ []) ≡ ended_in j lane (begun_of j begun acts) act (ended_of j lane begun before acts)
ended_more j lane begun before [] act = refl
ended_more j lane begun before (x ∷ xs) act = ended_more j lane (begun_in j x.tag (did_of x.did) begun) (ended_in j lane begun x before) xs act
