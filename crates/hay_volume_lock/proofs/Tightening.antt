-- What holds of a compaction since whose beginning no entry came: act by act.
use Rattle.std.proofs.Common.{◌≡◌, ◌⊎◌, inl, inr, ℕ, ◌≤◌, List, [], ◌∷◌, ◌++◌, length, None, refl, sym, ap, subst, ◌∙◌, arith, append-nil, append_assoc, length-append}
use Rattle.std.proofs.lemmas.Option.{none-some}
use mathlib.Core.List.{IsPrefix}
use Rattle.hay_core.specs.declared.entry.CoreTag.{CoreTag}
use Rattle.hay_core.specs.declared.entry.Logged.{Logged}
use Rattle.hay_needle.specs.declared.settings.Settings.{Settings}
use Rattle.hay_needle.specs.Tables.{live_end}
use Rattle.hay_legal.specs.declared.known.Run.{Run}
use Rattle.hay_legal.specs.Known.{now, replica_at}
use Rattle.hay_history.specs.LaneSteps.{Follows, HasRun, Leads, Standing}
use Rattle.hay_history.specs.LaneSteps.Did.{Begins}
use Rattle.hay_history.proofs.Changes.{leads_becomes, leads_extends, log_by}
use Rattle.hay_history.proofs.Own.{is_begin}
use Rattle.hay_meeting.specs.declared.act.VolumeAct.{VolumeAct}
use Rattle.hay_meeting.specs.declared.act.VolumeDid.{VolumeDid}
use Rattle.hay_meeting.specs.declared.act.VolumeDid.TheVariants as act_did
use Rattle.hay_meeting.specs.Acts.{Start, did_of, entry_of, left_by, volume_lock}
use Rattle.hay_meeting.specs.Facts.{volume_stood}
use Rattle.hay_meeting.specs.Locks.{Doing, left, past, replayed}
use Rattle.hay_meeting.proofs.Replays.{left_append}
use Rattle.hay_meeting.proofs.Standings.{extends, follows_behind, follows_first, logged_of}
use Rattle.hay_turn.proofs.Prefixes.{prefix_trans}
use Rattle.hay_holdings.specs.Volumes.{HasRunOf, IsTightSince}
use Rattle.hay_volume_lock.specs.Since.{SinceBegun}
use Rattle.hay_volume_lock.proofs.Doings.{doings_more}
use Rattle.hay_volume_lock.proofs.Losing.{none_stays, some_or_none}

-- an act that adds no entry to the log
quiet_by : (tag : CoreTag) (d : VolumeDid) → length (log_by tag (did_of d)) ≡ 0 → entry_of d ≡ None
quiet_by tag (act_did.Entered change ended) none = absurd (cc none)
quiet_by tag act_did.Tries none = refl
quiet_by tag (act_did.Pends m change failed) none = refl
quiet_by tag (act_did.Freezes m) none = refl
quiet_by tag (act_did.Flushes i) none = refl
quiet_by tag (act_did.Sticks i) none = refl
quiet_by tag (act_did.Begins i) none = refl
quiet_by tag (act_did.Examines i n) none = refl
quiet_by tag (act_did.Ends i) none = refl
quiet_by tag (act_did.Swaps i end cells frozen) none = refl
quiet_by tag (act_did.Poises m i) none = refl
quiet_by tag (act_did.Fuses i) none = refl

begins_quiet : (j : ℕ) (d : VolumeDid) → did_of d ≡ Begins j → entry_of d ≡ None
begins_quiet j (act_did.Begins i) is = refl
begins_quiet j (act_did.Entered change ended) is = absurd (cc is)
begins_quiet j act_did.Tries is = absurd (cc is)
begins_quiet j (act_did.Pends m change failed) is = absurd (cc is)
begins_quiet j (act_did.Freezes m) is = absurd (cc is)
begins_quiet j (act_did.Flushes i) is = absurd (cc is)
begins_quiet j (act_did.Sticks i) is = absurd (cc is)
begins_quiet j (act_did.Examines i n) is = absurd (cc is)
begins_quiet j (act_did.Ends i) is = absurd (cc is)
begins_quiet j (act_did.Swaps i end cells frozen) is = absurd (cc is)
begins_quiet j (act_did.Poises m i) is = absurd (cc is)
begins_quiet j (act_did.Fuses i) is = absurd (cc is)

no_items : {A : Type 0} (xs : List A) → length xs ≡ 0 → xs ≡ []
no_items [] none = refl
no_items (x ∷ xs) none = absurd (cc none)

module _ (settings : Settings) (v : ℕ) (first : Standing) (j : ℕ) (held : List VolumeAct) (act : VolumeAct)
    (follows : Follows settings v first (replayed volume_lock first (held ++ act ∷ []))) where
  abbrev then_held : List VolumeAct
  then_held = held ++ act ∷ []

  abbrev before : Standing
  before = left volume_lock first held

  stood_then : left volume_lock first then_held ≡ left_by act before
  stood_then = left_append volume_lock first held (act ∷ [])

  leads : Leads settings v act.tag (did_of act.did) before (left_by act before)
  leads = (follows_behind settings v first held (act ∷ []) follows).0

  log_then : (left volume_lock first then_held).volume.log ≡ (before.volume).log ++ log_by act.tag (did_of act.did)
  log_then = ap (λ (s : Standing). (s.volume).log) stood_then ∙ (leads_extends settings v act.tag (did_of act.did) before (left_by act before) leads).log

  -- a log only grows
  log_held : (start : List VolumeAct) → IsPrefix start held → length ((left volume_lock first start).volume).log ≤ length (before.volume).log
  log_held start (more, is) =
      let rest = follows_behind settings v first start (more ++ act ∷ [])
      (subst (λ (l : List VolumeAct). Follows settings v first (replayed volume_lock first l)) (ap (λ (l : List VolumeAct). l ++ act ∷ []) (sym is) ∙ append_assoc start more (act ∷ [])) follows) in
      let grown = (extends settings v (left volume_lock first start) more (follows_first settings v (left volume_lock first start) more (act ∷ []) rest)).log in
      let whole : (before.volume).log ≡ ((left volume_lock first start).volume).log ++ logged_of more =
      ap (λ (l : List VolumeAct). ((left volume_lock first l).volume).log) (sym is) ∙ ap (λ (s : Standing). (s.volume).log) (left_append volume_lock first start more) ∙ grown in
      let long : length (before.volume).log ≡ length (((left volume_lock first start).volume).log ++ logged_of more) = ap length whole in
      let both = length-append ((left volume_lock first start).volume).log (logged_of more) in
      (let le : length ((left volume_lock first start).volume).log ≤ length (before.volume).log = omega (arith, long, both) in le)

  -- what it keeps of one that began before, and what holds of one that it begins, holds behind it
  pub since_more : (WasSo IsSo : Type 0) → SinceBegun first j held WasSo
      → (entry_of act.did ≡ None → (run : Run) → HasRun (left_by act before) j run → (did_of act.did ≡ Begins j) ⊎ WasSo → IsSo)
      → SinceBegun first j then_held IsSo
  since_more WasSo IsSo was step = doings_more
      (λ doing. did_of (doing.act).did ≡ Begins j → ((left volume_lock first then_held).volume).log ≡ ((left volume_lock first doing.held).volume).log → (run : Run)
      → HasRun (left volume_lock first then_held) j run → IsSo)
      held act earlier
      (λ begins same run stands. step (begins_quiet j act.did begins) run (sym (ap (λ (s : Standing). (replica_at s.volume j).run) stood_then) ∙ stands) (inl begins))
    where
      earlier : (doing : Doing VolumeAct) → IsPrefix (past doing) held → did_of (doing.act).did ≡ Begins j
          → ((left volume_lock first then_held).volume).log ≡ ((left volume_lock first doing.held).volume).log → (run : Run) → HasRun (left volume_lock first then_held) j run → IsSo
      earlier doing begins did same run stands =
          let low = log_held doing.held (prefix_trans doing.held (past doing) held (doing.act ∷ [], refl) begins) in
          let long = ap length (sym same ∙ log_then) in
          let both = length-append (before.volume).log (log_by act.tag (did_of act.did)) in
          let none : length (log_by act.tag (did_of act.did)) ≡ 0 = omega (arith, low, long, both) in
          let log_same : (before.volume).log ≡ ((left volume_lock first doing.held).volume).log =
          sym (log_then ∙ ap (λ (l : List Logged). (before.volume).log ++ l) (no_items (log_by act.tag (did_of act.did)) none) ∙ append-nil (before.volume).log) ∙ same in
          let now_stands : HasRun (left_by act before) j run = sym (ap (λ (s : Standing). (replica_at s.volume j).run) stood_then) ∙ stands in
          elim (is_begin j (did_of act.did)) [
            | inl is ↦ step (quiet_by act.tag act.did none) run now_stands (inl is)
            | inr other ↦ elim (some_or_none (replica_at before.volume j).run) [
              | inl some ↦ step (quiet_by act.tag act.did none) run now_stands (inr (was doing begins did log_same some.0 some.1))
              | inr rests ↦ absurd (none-some run
                  (sym (none_stays j (did_of act.did) before.volume (left_by act before).volume other
                  (leads_becomes settings v act.tag (did_of act.did) before (left_by act before) leads j) rests) ∙ now_stands))
            ]
          ]

-- and so the sizes behind a swap are tight
pub tight_since : (settings : Settings) (start : Start) (v j end cells : ℕ) (who : CoreTag) (held : List VolumeAct) (IsSo : Type 0) → SinceBegun (start.volumes v) j held IsSo
    → HasRunOf settings start v j who held
    → (IsSo → (end ≡ live_end (now (volume_stood start v held) (replica_at (volume_stood start v held) j)))
    × (cells ≡ length (now (volume_stood start v held) (replica_at (volume_stood start v held) j))))
    → IsTightSince settings start v j end cells held
tight_since settings start v j end cells who held IsSo since has tight begins within is same = tight (since begins within is same has.run has.stands)
