-- Each photo is in the home of its pair alone, and what a delete leaves over restarts.
use Rattle.std.proofs.Common.{◌≡◌, ◌≢◌, ℕ, ◌<◌, ◌≤◌, Bool, true, false, List, [], ◌∷◌, length, Option, Some, None, refl, sym, ap, subst, ◌∙◌, ◌⊎◌, inl, inr, arith}
use Rattle.std.specs.Prelude.{slice_index_or, replicate}
use Rattle.std.proofs.lemmas.List.{length-replicate, get_or-replicate, get_or_past}
use Rattle.std.proofs.lemmas.Bool.{cases_Bool, cond-true, cond-false, cases_lt}
use Rattle.hay_needle.specs.declared.needle.Pair.{Pair}
use Rattle.hay_needle.specs.declared.needle.Cookie.{Cookie}
use Rattle.hay_needle.specs.declared.needle.Outcome.{Outcome}
use Rattle.hay_needle.specs.declared.needle.Outcome.TheVariants as outcome
use Rattle.hay_needle.specs.declared.settings.Settings.{Settings}
use Rattle.hay_needle.specs.Tables.{Table, outcome_at, pair_eq}
use Rattle.hay_needle.proofs.TableLaws.{pair_same, pair_refl}
use Rattle.hay_script.specs.declared.Command.{Command}
use Rattle.hay_script.specs.declared.Command.TheVariants as command
use Rattle.hay_reply.specs.declared.Reply.{Reply}
use Rattle.hay_reply.specs.declared.Reply.TheVariants as reply
use Rattle.hay_core.specs.declared.entry.Entry.TheVariants as entry
use Rattle.hay_core.specs.declared.entry.CoreTag.{CoreTag}
use Rattle.hay_core.specs.declared.entry.Logged.{Logged}
use Rattle.hay_core.specs.Entries.{after, entry_row}
use Rattle.hay_core.proofs.EntryLaws.{at-apply_entry}
use Rattle.hay_legal.specs.declared.known.ReplicaKnown.{ReplicaKnown}
use Rattle.hay_legal.specs.declared.known.VolumeKnown.{VolumeKnown}
use Rattle.hay_legal.specs.declared.known.Pending.{Pending}
use Rattle.hay_legal.specs.declared.known.DirKnown.{DirKnown}
use Rattle.hay_legal.specs.declared.known.Known.{Known}
use Rattle.hay_legal.specs.declared.turn.Item.{Item}
use Rattle.hay_legal.specs.declared.turn.Item.TheVariants as item
use Rattle.hay_legal.specs.declared.turn.Turn.{Turn}
use Rattle.hay_legal.specs.declared.turn.Turn.TheVariants.{Plain, Lanes, Restart}
use Rattle.hay_legal.specs.Known.{now, home_of, home_in, volume_at, replica_at, empty_volume, empty_replica, fresh_unharmed, fresh_volume}
use Rattle.hay_legal.specs.Plain.{IsDeleted, LegalPlain, LegalCommand, LegalShow, IsShown}
use Rattle.hay_reply.specs.declared.Note.{Note}
use Rattle.hay_legal.specs.Restarts.{Reopens, LegalRestart, IsRestarted, kept_entry, is_kept, with_entries}
use Rattle.hay_legal.specs.Legal.{Legal}
use Rattle.hay_legal.specs.Subject.{known_behind, pair_of, AsksFor, IsOf, changed_pair, SaysNothing, LosesChanges, LeavesAloneFrom, AllLeaveAlone, IsTidy, IsRefusedAsAbsent}
use Rattle.hay_legal.specs.Subject.{DeletedIsGoneBehindRestarts}
use Rattle.hay_legal.proofs.Subject.Shown.{legal_split, row_pair, pair_differs, Tells}
use Rattle.hay_legal.proofs.Subject.Effects.{calm_undisturbed, del_disturbed, plain_effect}
use Rattle.hay_legal.proofs.Subject.Entries.{plain_is_of, reopened_many, volume_reopened, restart_is_of, is_of_behind, home_bounded}
use Rattle.hay_legal.proofs.Subject.Standing.{at_replica, same_now, adds_now, plain_home, replica_bounded, answered, tells_or_nothing, deleted_stands}
use Rattle.hay_legal.proofs.Subject.Reopened.{kept_other, replica_over, home_over, answer_lost}
use Rattle.hay_legal.proofs.Subject.Waiting.{plain_pends}

-- TIDY STORES

pub plain_tidy : (settings : Settings) (k : Known) (line : ℕ) (i : Item) (r : Reply) (t : Known) → LegalPlain settings k line i r t → IsTidy settings k → IsTidy settings t
plain_tidy settings k line i r t h tidy = record {
  photos = λ v j pair below within. elim (tidy.photos v j pair below within) [
    | inl nothing ↦ elim (plain_effect settings k line i r t h) [
      | inl calm ↦ inl (same_now (volume_at k v) (volume_at t v) j pair ((calm_undisturbed settings k t calm).each v) ∙ nothing)
      | inr change ↦ elim ((change.3).each v) [
        | inl same ↦ inl (same_now (volume_at k v) (volume_at t v) j pair same ∙ nothing)
        | inr adds ↦ elim (cases_Bool (pair_eq (entry_row (change.1).entry).pair pair)) [
          | inl own ↦
              let is : pair_of (change.1).entry ≡ pair = sym (row_pair (change.1).entry) ∙ pair_same (entry_row (change.1).entry).pair pair own in
              inr (subst (λ (p : Pair). home_of t p ≡ Some v) is (change.6 ∙ ap (λ (u : ℕ). Some u) (sym adds.0)))
          | inr other ↦ inl (adds_now (volume_at k v) (volume_at t v) change.1 j pair adds.1
              ∙ cond-false (pair_eq (entry_row (change.1).entry).pair pair) (entry_row (change.1).entry).outcome (at_replica (volume_at k v) j pair) other
              ∙ nothing)
        ]
      ]
    ]
    | inr home ↦ inr (plain_home settings k line i r t pair v h home)
  ];
  pending = λ v pending there. elim (plain_pends settings k line i r t v h) [
    | inl same ↦ plain_home settings k line i r t (pair_of pending.entry) v h (tidy.pending v pending (sym same ∙ there))
    | inr new ↦
        let found : Some new.0 ≡ Some pending = sym new.1 ∙ there in
        let is : new.0 ≡ pending = cc in
        subst (λ (p : Pending). home_of t (pair_of p.entry) ≡ Some v) is new.2
  ];
}

pub kept_none : (table : Table) (o : Option Pending) → with_entries table (kept_entry o false) ≡ table
kept_none table None = refl
kept_none table (Some pending) = refl

-- where a replica lost what was pending, it has what it had
pub tidy_lost : (settings : Settings) (k : Known) (kept : List (List Bool)) (row : Bool) (t : Known) (v j : ℕ) (pair : Pair) → Reopens settings k kept row t → IsTidy settings k
    → v < settings.volumes → j < settings.replicas → at_replica (volume_at t v) j pair ≡ at_replica (volume_at k v) j pair
    → (at_replica (volume_at t v) j pair ≡ outcome.Nothing) ⊎ (home_of t pair ≡ Some v)
tidy_lost settings k kept row t v j pair h tidy below within same =
    elim (tidy.photos v j pair below within) [
      | inl nothing ↦ inl (same ∙ nothing)
      | inr home ↦ inr (home_over settings k kept row t pair v h home)
    ]

-- where it kept it, that is in the home of its pair
pub tidy_kept : (settings : Settings) (k : Known) (kept : List (List Bool)) (row : Bool) (t : Known) (v j : ℕ) (pair : Pair) → Reopens settings k kept row t → IsTidy settings k
    → v < settings.volumes → j < settings.replicas → is_kept (slice_index_or kept v []) j ≡ true
    → (o : Option Pending) → (volume_at k v).pending ≡ o
    → at_replica (volume_at t v) j pair ≡ outcome_at (with_entries (now (volume_at k v) (replica_at (volume_at k v) j)) (kept_entry o true)) pair
    → (at_replica (volume_at t v) j pair ≡ outcome.Nothing) ⊎ (home_of t pair ≡ Some v)
tidy_kept settings k kept row t v j pair h tidy below within is o pends over =
    let stays : home_of k pair ≡ Some v → home_of t pair ≡ Some v =
    λ home. home_over settings k kept row t pair v h home in
    elim (tidy.photos v j pair below within) [
      | inl nothing ↦ go o pends over stays nothing
      | inr home ↦ inr (stays home)
    ]
  where
    go : (o : Option Pending) → (volume_at k v).pending ≡ o
        → at_replica (volume_at t v) j pair ≡ outcome_at (with_entries (now (volume_at k v) (replica_at (volume_at k v) j)) (kept_entry o true)) pair
        → (home_of k pair ≡ Some v → home_of t pair ≡ Some v) → at_replica (volume_at k v) j pair ≡ outcome.Nothing
        → (at_replica (volume_at t v) j pair ≡ outcome.Nothing) ⊎ (home_of t pair ≡ Some v)
    go None pends over stays nothing = inl (over ∙ nothing)
    go (Some pending) pends over stays nothing =
        elim (cases_Bool (pair_eq (entry_row pending.entry).pair pair)) [
          | inl own ↦
              let same : pair_of pending.entry ≡ pair = sym (row_pair pending.entry) ∙ pair_same (entry_row pending.entry).pair pair own in
              inr (stays (subst (λ (p : Pair). home_of k p ≡ Some v) same (tidy.pending v pending pends)))
          | inr other ↦ inl (over
              ∙ at-apply_entry (now (volume_at k v) (replica_at (volume_at k v) j)) pending.entry pair
              ∙ cond-false (pair_eq (entry_row pending.entry).pair pair) (entry_row pending.entry).outcome (at_replica (volume_at k v) j pair) other
              ∙ nothing)
        ]

pub tidy_over : (settings : Settings) (k : Known) (kept : List (List Bool)) (row : Bool) (t : Known) (v j : ℕ) (pair : Pair) → IsOf settings k → Reopens settings k kept row t → IsTidy settings k
    → v < settings.volumes → j < settings.replicas
    → (at_replica (volume_at t v) j pair ≡ outcome.Nothing) ⊎ (home_of t pair ≡ Some v)
tidy_over settings k kept row t v j pair is h tidy below within =
    let table : Table = now (volume_at k v) (replica_at (volume_at k v) j) in
    let over = replica_over settings k kept row t v j pair h is below within in
    elim (cases_Bool (is_kept (slice_index_or kept v []) j)) [
      | inl has ↦ tidy_kept settings k kept row t v j pair h tidy below within has (volume_at k v).pending refl
          (over ∙ ap (λ (b : Bool). outcome_at (with_entries table (kept_entry (volume_at k v).pending b)) pair) has)
      | inr lost ↦ tidy_lost settings k kept row t v j pair h tidy below within
          (over ∙ ap (λ (b : Bool). outcome_at (with_entries table (kept_entry (volume_at k v).pending b)) pair) lost
          ∙ ap (λ (s : Table). outcome_at s pair) (kept_none table (volume_at k v).pending))
    ]

-- behind a restart nothing is pending
pub none_pends : (settings : Settings) (k : Known) (kept : List (List Bool)) (row : Bool) (t : Known) (v : ℕ) (pending : Pending) → Reopens settings k kept row t
    → (volume_at t v).pending ≡ Some pending → ⊥
none_pends settings k kept row t v pending h there =
    elim (cases_lt v (length k.volumes)) [
      | inl below ↦
          let none : None ≡ Some pending = sym (volume_reopened settings k kept row t v h below).pending ∙ there in absurd cc
      | inr past ↦
          let many : length t.volumes ≡ length k.volumes = reopened_many settings 0 k.volumes kept t.volumes h.volumes in
          let more : length t.volumes ≤ v = omega (arith, past, many) in
          let none : None ≡ Some pending = sym (ap (λ (volume : VolumeKnown). volume.pending) (get_or_past t.volumes v empty_volume more)) ∙ there in absurd cc
    ]

pub reopened_is_tidy : (settings : Settings) (k : Known) (kept : List (List Bool)) (row : Bool) (t : Known) → IsOf settings k → Reopens settings k kept row t
    → IsTidy settings k → IsTidy settings t
reopened_is_tidy settings k kept row t is h tidy = record {
  photos = λ v j pair below within. tidy_over settings k kept row t v j pair is h tidy below within;
  pending = λ v pending there. absurd (none_pends settings k kept row t v pending h there);
}

pub restart_is_tidy : (settings : Settings) (k : Known) (r : Reply) (notes : List Note) (t : Known) → IsOf settings k → LegalRestart settings k r notes t
    → IsTidy settings k → IsTidy settings t
restart_is_tidy settings k (reply.Restarted d) notes t is h tidy = reopened_is_tidy settings k h.kept h.row t is h.opened tidy
restart_is_tidy settings k reply.NoMem notes t is h tidy = record {
  photos = λ v j pair below within.
      subst (λ (volumes : List VolumeKnown). (at_replica (slice_index_or volumes v empty_volume) j pair ≡ outcome.Nothing) ⊎ (home_of t pair ≡ Some v)) (sym (h.leaves).volumes)
      (subst (λ (dir : DirKnown). (at_replica (volume_at k v) j pair ≡ outcome.Nothing) ⊎ (home_in dir.rows pair ≡ Some v)) (sym (h.leaves).directory)
      (tidy.photos v j pair below within));
  pending = λ v pending there.
      let before : (volume_at k v).pending ≡ Some pending =
      subst (λ (volumes : List VolumeKnown). (slice_index_or volumes v empty_volume).pending ≡ Some pending) (h.leaves).volumes there in
      subst (λ (dir : DirKnown). home_in dir.rows (pair_of pending.entry) ≡ Some v) (sym (h.leaves).directory) (tidy.pending v pending before);
}
restart_is_tidy settings k _ notes t is h tidy = absurd h

-- a store that was just formatted
pub is_tidy-fresh : (settings : Settings) → IsTidy settings (fresh_unharmed settings)
is_tidy-fresh settings = record {
  photos = λ v j pair below within. inl (
      let volume : volume_at (fresh_unharmed settings) v ≡ fresh_volume settings = get_or-replicate settings.volumes v (fresh_volume settings) empty_volume below in
      ap (λ (x : VolumeKnown). at_replica x j pair) volume
      ∙ ap (λ (x : ReplicaKnown). outcome_at (now (fresh_volume settings) x) pair) (get_or-replicate settings.replicas j empty_replica empty_replica within));
  pending = λ v pending there. elim (cases_lt v settings.volumes) [
    | inl below ↦
        let none : None ≡ Some pending = sym (ap (λ (x : VolumeKnown). x.pending) (get_or-replicate settings.volumes v (fresh_volume settings) empty_volume below)) ∙ there in absurd cc
    | inr past ↦
        let more : length (replicate settings.volumes (fresh_volume settings)) ≤ v = omega (arith, past, length-replicate settings.volumes (fresh_volume settings)) in
        let none : None ≡ Some pending =
        sym (ap (λ (x : VolumeKnown). x.pending) (get_or_past (replicate settings.volumes (fresh_volume settings)) v empty_volume more)) ∙ there in absurd cc
  ];
}

-- WHAT A DELETE LEAVES, OVER RESTARTS

-- No replica of any volume has a photo of the pair.
pub record Absent (settings : Settings) (k : Known) (pair : Pair) : Type 0 where
  pub each : (v j : ℕ) → v < settings.volumes → j < settings.replicas → at_replica (volume_at k v) j pair ≡ outcome.Nothing

pub absent_plain : (settings : Settings) (k : Known) (line : ℕ) (i : Item) (r : Reply) (t : Known) (pair : Pair) → LegalPlain settings k line i r t → changed_pair i r ≢ Some pair
    → Absent settings k pair → Absent settings t pair
absent_plain settings k line i r t pair h quiet absent = record {
  each = λ v j below within. elim (plain_effect settings k line i r t h) [
    | inl calm ↦ same_now (volume_at k v) (volume_at t v) j pair ((calm_undisturbed settings k t calm).each v) ∙ absent.each v j below within
    | inr change ↦ elim ((change.3).each v) [
      | inl same ↦ same_now (volume_at k v) (volume_at t v) j pair same ∙ absent.each v j below within
      | inr adds ↦ adds_now (volume_at k v) (volume_at t v) change.1 j pair adds.1
          ∙ cond-false (pair_eq (entry_row (change.1).entry).pair pair) (entry_row (change.1).entry).outcome (at_replica (volume_at k v) j pair)
          (pair_differs (entry_row (change.1).entry).pair pair (λ e. quiet (change.2 ∙ ap (λ (p : Pair). Some p) (sym (row_pair (change.1).entry) ∙ e))))
          ∙ absent.each v j below within
    ]
  ];
}

pub absent_restart : (settings : Settings) (k : Known) (d : ℕ) (notes : List Note) (t : Known) (pair : Pair) → IsOf settings k → IsRestarted settings k d notes t
    → LosesChanges settings pair k notes → Absent settings k pair → Absent settings t pair
absent_restart settings k d notes t pair is h loses absent = record {
  each = λ v j below within.
      replica_over settings k h.kept h.row t v j pair h.opened is below within
      ∙ kept_other (now (volume_at k v) (replica_at (volume_at k v) j)) (volume_at k v).pending (is_kept (slice_index_or h.kept v []) j) pair
      (λ pending there own. answer_lost settings k d notes t v j pending h is below within there (loses v pending below there own))
      ∙ absent.each v j below within;
}

pub absent_alone : (settings : Settings) (k : Known) (line pick : ℕ) (r : Reply) (notes : List Note) (t : Known) (pair : Pair) → IsOf settings k
    → LegalRestart settings k r notes t → LeavesAloneFrom settings pair k (Restart line pick r notes t) → Absent settings k pair → Absent settings t pair
absent_alone settings k line pick (reply.Restarted d) notes t pair is h alone absent = absent_restart settings k d notes t pair is h alone.1 absent
absent_alone settings k line pick reply.NoMem notes t pair is h alone absent = absurd alone.0
absent_alone settings k line pick _ notes t pair is h alone absent = absurd h

pub absent_over : (settings : Settings) (k t : Known) (turns : List Turn) (pair : Pair) → IsOf settings k → Legal settings k turns t → AllLeaveAlone settings pair k turns
    → Absent settings k pair → IsOf settings t × Absent settings t pair
absent_over settings k t [] pair is legal alone absent =
    (subst (λ (x : Known). IsOf settings x) (sym legal) is, subst (λ (x : Known). Absent settings x pair) (sym legal) absent)
absent_over settings k t (Plain line i r after ∷ turns) pair is legal alone absent =
    absent_over settings after t turns pair (plain_is_of settings k line i r after is legal.0) legal.1 alone.1 (absent_plain settings k line i r after pair legal.0 alone.0 absent)
absent_over settings k t (Lanes items logs rows after ∷ turns) pair is legal alone absent = absurd alone.0
absent_over settings k t (Restart line pick r notes after ∷ turns) pair is legal alone absent =
    absent_over settings after t turns pair (restart_is_of settings k r notes after is legal.0) legal.1 alone.1
    (absent_alone settings k line pick r notes after pair is legal.0 alone.0 absent)

-- what is shown of an absent pair is nothing
pub shown_absent : (settings : Settings) (k : Known) (tag : CoreTag) (start : ℕ) (pair : Pair) (v m p d : ℕ) (shown : Outcome) (t : Known) → IsOf settings k
    → Absent settings k pair → IsShown settings k tag start pair v m p d shown t → shown ≡ outcome.Nothing
shown_absent settings k tag start pair v m p d shown t is absent h =
    sym h.stands
    ∙ absent.each v h.replica (home_bounded settings k.directory.rows pair v is.homes (h.seen).home) (replica_bounded settings v m h.replica h.there)

pub show_absent : (settings : Settings) (k : Known) (tag : CoreTag) (start : ℕ) (pair : Pair) (cookie : Cookie) (r : Reply) (t : Known) → Tells r → IsOf settings k
    → Absent settings k pair → LegalShow settings k tag start pair cookie r t → IsRefusedAsAbsent r
show_absent settings k tag start pair cookie (reply.Photo v m p d bytes) t tells is absent h =
    let same = shown_absent settings k tag start pair v m p d (outcome.Photo (record { cookie = cookie; bytes = bytes })) t is absent h in absurd cc
show_absent settings k tag start pair cookie (reply.Gone v m p d) t tells is absent h = tt
show_absent settings k tag start pair cookie (reply.WrongCookie v m p d) t tells is absent h =
    let same = shown_absent settings k tag start pair v m p d (outcome.Photo (record { cookie = h.0; bytes = h.1 })) t is absent h.3 in absurd cc
show_absent settings k tag start pair cookie (reply.Unknown d) t tells is absent h = tt
show_absent settings k tag start pair cookie (reply.Unreadable v p d causes) t tells is absent h = tt
show_absent settings k tag start pair cookie _ t tells is absent h = absurd tells

pub silent_as_absent : (r : Reply) → SaysNothing r → IsRefusedAsAbsent r
silent_as_absent (reply.Gone v m p d) h = tt
silent_as_absent (reply.Unknown d) h = tt
silent_as_absent r h = h

pub answer_absent : (settings : Settings) (k : Known) (tag : CoreTag) (c : Command) (r : Reply) (t : Known) (pair : Pair) (cookie : Cookie) → IsOf settings k
    → Absent settings k pair → AsksFor c pair cookie → LegalCommand settings k tag c r t → IsRefusedAsAbsent r
answer_absent settings k tag c r t pair cookie is absent asks h =
    elim (tells_or_nothing settings k tag c r t pair cookie asks h) [
      | inl tells ↦ answered settings k tag c r t pair cookie IsRefusedAsAbsent tells asks (λ start. show_absent settings k tag start pair cookie r t tells is absent) h
      | inr silent ↦ silent_as_absent r silent
    ]

-- behind the turn of a delete that was answered deleted no volume has the pair
pub deleted_absent : (settings : Settings) (b : Known) (line : ℕ) (pair : Pair) (v p d : ℕ) (after : Known) → IsOf settings b → IsTidy settings b
    → LegalPlain settings b line (item.Command (command.Del pair)) (reply.Deleted v p d) after → Absent settings after pair
deleted_absent settings b line pair v p d after is tidy h =
    let tag : CoreTag = record { lane = 0; line = line } in
    let logged : Logged = record { tag = tag; entry = entry.Del pair } in
    let deleted : IsDeleted settings b tag pair v p d after = h in
    let change = del_disturbed settings b tag pair v p d after deleted in
    record {
      each = λ w j below within. elim (change.each w) [
        | inl same ↦ elim (tidy.photos w j pair below within) [
          | inl nothing ↦ same_now (volume_at b w) (volume_at after w) j pair same ∙ nothing
          | inr home ↦
              let homes : Some w ≡ Some v = sym home ∙ (deleted.home).home in
              let here : w ≡ v = cc in
              let stands = deleted_stands settings b line pair v p d after is h in
              let at_home : Some stands.volume ≡ Some v = sym stands.home ∙ ap (λ (dir : DirKnown). home_in dir.rows pair) (deleted.leaves).directory ∙ (deleted.home).home in
              let there : stands.volume ≡ v = cc in
              ap (λ (u : ℕ). at_replica (volume_at after u) j pair) (here ∙ sym there) ∙ stands.each j within
        ]
        | inr adds ↦ adds_now (volume_at b w) (volume_at after w) logged j pair adds.1
            ∙ cond-true (pair_eq pair pair) outcome.Nothing (at_replica (volume_at b w) j pair) (pair_refl pair)
      ];
    }

pub deleted_is_gone_behind_restarts : DeletedIsGoneBehindRestarts
deleted_is_gone_behind_restarts settings k t earlier between later line line' pair v p d after after' request cookie r is tidy legal alone asks =
    let parts = legal_split settings k t earlier _ legal in
    let b : Known = known_behind k earlier in
    let now_of : IsOf settings b = is_of_behind settings k b earlier is parts.0 in
    let after_of : IsOf settings after = plain_is_of settings b line (item.Command (command.Del pair)) (reply.Deleted v p d) after now_of parts.1.0 in
    let rest = legal_split settings after t between _ parts.1.1 in
    let end = absent_over settings after (known_behind after between) between pair after_of rest.0 alone
    (deleted_absent settings b line pair v p d after now_of tidy parts.1.0) in
    answer_absent settings (known_behind after between) (record { lane = 0; line = line' }) request r after' pair cookie end.0 end.1 asks rest.1.0
