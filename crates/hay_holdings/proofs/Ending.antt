-- How it is told that a compaction of a line came to its end, and that a swap's sizes are tight: act by act.
use Rattle.std.proofs.Common.{◌≡◌, ◌⊎◌, inl, inr, ℕ, ◌≤◌, List, [], ◌∷◌, ◌++◌, length, refl, sym, ap, subst, ◌∙◌, arith, length-append, None}
use Rattle.std.proofs.lemmas.Bool.{cases_lt}
use Rattle.std.proofs.lemmas.Option.{none-some}
use mathlib.Core.List.{IsPrefix}
use Rattle.hay_needle.specs.declared.settings.Settings.{Settings}
use Rattle.hay_needle.specs.Tables.{live_end}
use Rattle.hay_core.specs.declared.entry.CoreTag.{CoreTag}
use Rattle.hay_legal.specs.Known.{now, replica_at}
use Rattle.hay_history.specs.LaneSteps.{Follows, Standing}
use Rattle.hay_history.specs.LaneSteps.Did.{Begins}
use Rattle.hay_turn.proofs.Prefixes.{prefix_self, prefix_trans}
use Rattle.hay_meeting.specs.declared.act.VolumeAct.{VolumeAct}
use Rattle.hay_meeting.specs.Acts.{Start, did_of, volume_lock}
use Rattle.hay_meeting.specs.Facts.{volume_stood}
use Rattle.hay_meeting.specs.Locks.{Doing, left, past, replayed}
use Rattle.hay_meeting.specs.Sights.{stood}
use Rattle.hay_meeting.proofs.Replays.{left_append, prefix_length, same_prefix}
use Rattle.hay_meeting.proofs.Standings.{extends, follows_behind, follows_first, logged_of}
use Rattle.hay_holdings.specs.Volumes.{EndedAt, HasRunOf, IsTightSince}
use Rattle.hay_holdings.proofs.Lists.{prefix_by_length}

-- what begins acts and one more is all of these, or begins the acts
pub all_or_before : {A : Type 0} (held : List A) (act : A) (acts : List A) → IsPrefix acts (held ++ act ∷ []) → (acts ≡ held ++ act ∷ []) ⊎ IsPrefix acts held
all_or_before held act acts begins =
    let long = length-append held (act ∷ []) in
    let most = prefix_length acts (held ++ act ∷ []) begins in
    elim (cases_lt (length held) (length acts)) [
      | inl more ↦ inl (same_prefix acts (held ++ act ∷ []) (held ++ act ∷ []) begins (prefix_self (held ++ act ∷ [])) (omega (arith, long, most, more)))
      | inr le ↦ inr (prefix_by_length acts held (held ++ act ∷ []) begins (act ∷ [], refl) le)
    ]

module _ (settings : Settings) (start : Start) (v j : ℕ) (who : CoreTag) (held : List VolumeAct) (act : VolumeAct) where
  abbrev then_held : List VolumeAct
  then_held = held ++ act ∷ []

  -- the act ends the line's compaction, which stood
  abbrev pub ends_now : HasRunOf settings start v j who held → (replica_at (volume_stood start v then_held) j).run ≡ None → EndedAt settings start v j who then_held
  ends_now has none = record {
    until = record { held = held; act = act };
    within = prefix_self then_held;
    own = has;
    none = none;
    last = λ acts begins stands. elim (all_or_before held act acts begins) [
      | inl all ↦
          let run : HasRunOf settings start v j who then_held = subst (HasRunOf settings start v j who) all stands in
          absurd (none-some run.run (sym none ∙ run.stands))
      | inr before ↦ prefix_length acts held before
    ];
  }

  -- it had ended before the act, behind which none of the line's stands
  pub ended_before : (HasRunOf settings start v j who then_held → ⊥) → EndedAt settings start v j who held → EndedAt settings start v j who then_held
  ended_before none ended = record {
    until = ended.until;
    within = prefix_trans (past ended.until) held then_held ended.within (act ∷ [], refl);
    own = ended.own;
    none = ended.none;
    last = λ acts begins stands. elim (all_or_before held act acts begins) [
      | inl all ↦ absurd (none (subst (HasRunOf settings start v j who) all stands))
      | inr before ↦ ended.last acts before stands
    ];
  }

-- TIGHT SIZES

-- a volume's log only grows
log_grows : (settings : Settings) (start : Start) (v : ℕ) (first whole : List VolumeAct) → Follows settings v (start.volumes v) (replayed volume_lock (start.volumes v) whole) → IsPrefix first whole
    → IsPrefix (volume_stood start v first).log (volume_stood start v whole).log
log_grows settings start v first whole follows (more, is) =
    let s : Standing = start.volumes v in
    let rest : Follows settings v (left volume_lock s first) (replayed volume_lock (left volume_lock s first) more) =
    follows_behind settings v s first more (subst (λ acts. Follows settings v s (replayed volume_lock s acts)) (sym is) follows) in
    let last : left volume_lock (left volume_lock s first) more ≡ stood start v whole = sym (left_append volume_lock s first more) ∙ ap (stood start v) is in
    (logged_of more, sym (extends settings v (left volume_lock s first) more rest).log ∙ ap (λ (z : Standing). (z.volume).log) last)

-- where no entry came since the last compaction of the replica began, the sizes are tight if they are those of the standing photos
module _ (settings : Settings) (start : Start) (v j end cells : ℕ) (held : List VolumeAct) (follows : Follows settings v (start.volumes v) (replayed volume_lock (start.volumes v) held)) where
  pub tight_since_last : (last : Doing VolumeAct) → IsPrefix (past last) held
      → ((begins : Doing VolumeAct) → IsPrefix (past begins) held → did_of (begins.act).did ≡ Begins j → length begins.held ≤ length last.held)
      → ((volume_stood start v held).log ≡ (volume_stood start v last.held).log
      → (end ≡ live_end (now (volume_stood start v held) (replica_at (volume_stood start v held) j)))
      × (cells ≡ length (now (volume_stood start v held) (replica_at (volume_stood start v held) j))))
      → IsTightSince settings start v j end cells held
  tight_since_last last within latest tight begins there is same =
      let before : IsPrefix begins.held held = prefix_trans begins.held (past begins) held (begins.act ∷ [], refl) there in
      let last_before : IsPrefix last.held held = prefix_trans last.held (past last) held (last.act ∷ [], refl) within in
      let first : IsPrefix begins.held last.held = prefix_by_length begins.held last.held held before last_before (latest begins there is) in
      let last_follows =
      follows_first settings v (start.volumes v) last.held last_before.0 (subst (λ acts. Follows settings v (start.volumes v) (replayed volume_lock (start.volumes v) acts))
      (sym last_before.1) follows) in
      let less = prefix_length (volume_stood start v begins.held).log (volume_stood start v last.held).log (log_grows settings start v begins.held last.held last_follows first) in
      let more = prefix_length (volume_stood start v last.held).log (volume_stood start v held).log (log_grows settings start v last.held held follows last_before) in
      let all : length (volume_stood start v held).log ≡ length (volume_stood start v begins.held).log = ap length same in
      tight (same_prefix (volume_stood start v held).log (volume_stood start v last.held).log (volume_stood start v held).log (prefix_self (volume_stood start v held).log)
      (log_grows settings start v last.held held follows last_before) (omega (arith, less, more, all)))
