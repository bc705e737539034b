-- Acts that set no fuse.
use Rattle.std.proofs.Common.{◌≡◌, ◌≢◌, ℕ, List, [], ◌∷◌, ◌++◌, Some, refl, sym, ap, ◌∙◌}
use Rattle.std.specs.List.{AllByRecursion as Each}
use Rattle.hay_history.specs.LaneSteps.{LeadsRowFuses, RowDid}
use Rattle.hay_meeting.specs.declared.act.DirAct.{DirAct}
use Rattle.hay_meeting.specs.declared.act.DirDid.{DirDid}
use Rattle.hay_meeting.specs.declared.act.DirDid.TheVariants as did
use Rattle.hay_meeting.specs.Acts.{row_did_of}
use Rattle.hay_turn.specs.Slots.{acts_in}
use Rattle.hay_directory_lock.specs.Acts.{SetNoFuse}

-- what was done left how many are set
stays_by : (what : DirDid) → what ≢ did.FusesRow → (before after : ℕ) → LeadsRowFuses (row_did_of what) before after → after ≡ before
stays_by did.TriesRow none before after leads = leads
stays_by (did.AddsRow row) none before after leads = leads
stays_by (did.PendsRow row) none before after leads = leads
stays_by (did.Drains m is) none before after leads = leads
stays_by did.FusesRow none before after leads = absurd (none refl)

-- and so did acts, the last one of which did that
pub unfused_more : (acts : List DirAct) (act : DirAct) (first before after : ℕ) → LeadsRowFuses (row_did_of act.did) before after
    → (SetNoFuse acts → before ≡ first) → SetNoFuse (acts ++ act ∷ []) → after ≡ first
unfused_more acts act first before after leads stood none =
    stays_by act.did (each_rest acts none).0 before after leads ∙ stood (each_first acts none)
  where
    each_first : (xs : List DirAct) → SetNoFuse (xs ++ act ∷ []) → SetNoFuse xs
    each_first [] each = tt
    each_first (x ∷ xs) each = (each.0, each_first xs each.1)

    each_rest : (xs : List DirAct) → SetNoFuse (xs ++ act ∷ []) → SetNoFuse (act ∷ [])
    each_rest [] each = each
    each_rest (x ∷ xs) each = each_rest xs each.1

-- one act, by what it did
pub one_unfused : (what : DirDid) (act : DirAct) → what ≢ did.FusesRow → act.did ≡ what → SetNoFuse (acts_in (Some act))
one_unfused what act none is = (λ fused. none (sym is ∙ fused), tt)

pub step_unfused : (step : RowDid) (act : DirAct) → step ≢ row_did_of did.FusesRow → row_did_of act.did ≡ step → SetNoFuse (acts_in (Some act))
step_unfused step act none is = (λ fused. none (sym is ∙ ap row_did_of fused), tt)
