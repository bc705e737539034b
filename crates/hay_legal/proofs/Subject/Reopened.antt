-- What a restart leaves of what stands.
use Rattle.std.proofs.Common.{◌≡◌, ℕ, zero, suc, ◌+◌, ◌<◌, Bool, true, false, List, [], ◌∷◌, length, map, Option, Some, None, refl, sym, ap, subst, ◌∙◌, inl, inr, arith}
use Rattle.std.specs.Prelude.{slice_index_or, is_none, Contains}
use Rattle.std.proofs.lemmas.List.Elements.{Contains-append_left, Contains-append_right}
use Rattle.std.proofs.lemmas.List.{get_or-set_same}
use Rattle.std.proofs.lemmas.Bool.{cases_Bool, cond-true, cond-false, true≢false}
use Rattle.hay_needle.specs.declared.needle.Pair.{Pair}
use Rattle.hay_needle.specs.declared.needle.Photo.{Photo}
use Rattle.hay_needle.specs.declared.needle.Outcome.TheVariants as outcome
use Rattle.hay_needle.specs.declared.settings.Settings.{Settings}
use Rattle.hay_needle.specs.Tables.{Table, outcome_at, pair_eq, look_after}
use Rattle.hay_needle.proofs.TableLaws.{pair_refl}
use Rattle.hay_script.specs.declared.Command.TheVariants as command
use Rattle.hay_reply.specs.declared.Reply.{Reply}
use Rattle.hay_reply.specs.declared.Reply.TheVariants as reply
use Rattle.hay_core.specs.declared.entry.Entry.{Entry}
use Rattle.hay_core.specs.declared.entry.CoreTag.{CoreTag}
use Rattle.hay_core.specs.declared.entry.Logged.{Logged}
use Rattle.hay_core.specs.Entries.{after, entry_row, logged_row}
use Rattle.hay_core.proofs.EntryLaws.{at-apply_entry}
use Rattle.hay_legal.specs.declared.known.VolumeKnown.{VolumeKnown}
use Rattle.hay_legal.specs.declared.known.HomeRow.{HomeRow}
use Rattle.hay_legal.specs.declared.known.Pending.{Pending}
use Rattle.hay_legal.specs.declared.known.DirKnown.{DirKnown}
use Rattle.hay_legal.specs.declared.known.Known.{Known}
use Rattle.hay_legal.specs.declared.turn.Item.TheVariants as item
use Rattle.hay_legal.specs.declared.turn.Turn.{Turn}
use Rattle.hay_legal.specs.declared.turn.Turn.TheVariants.{Plain, Lanes, Restart}
use Rattle.hay_legal.specs.Known.{now, home_of, home_in, volume_at, replica_at, empty_volume, refusal_of, machine_of}
use Rattle.hay_url.specs.Url.{cookie_of}
use Rattle.hay_legal.specs.Plain.{PutFailed, frozen_with, put_entry}
use Rattle.hay_reply.specs.declared.Note.{Note}
use Rattle.hay_legal.specs.Restarts.{Reopens, ReopenedVolumes, ReopenedReplica, LegalRestart, IsRestarted, MayKeep, kept_row, kept_entry, is_kept, with_entries, kept_note}
use Rattle.hay_legal.specs.Restarts.{replica_notes, pending_notes, volume_notes, row_notes}
use Rattle.hay_legal.specs.Legal.{Legal}
use Rattle.hay_legal.specs.Subject.{known_behind, pair_of, IsOf, NoneKept, NoneLost, LosesChanges, LeavesAloneFrom, AllLeaveAlone, StoredIsReadBehindRestarts, FailedPutIsPending}
use Rattle.hay_legal.specs.Subject.{KeptIsRead, KeptIsGone}
use Rattle.hay_legal.proofs.Subject.Shown.{legal_split, outcome_of, row_pair, row_outcome, at-now, pair_differs}
use Rattle.hay_legal.proofs.Subject.Effects.{home_stays, taken_home}
use Rattle.hay_legal.proofs.Subject.Entries.{plain_is_of, reopened_replica, volume_reopened, restart_is_of, is_of_behind, home_bounded, taken_bounded}
use Rattle.hay_legal.proofs.Subject.Standing.{at_replica, Standing, standing_plain, standing_between, answer_photo, answer_gone, stored_stands}

-- WHAT A RESTART LEAVES

-- the replica's answer in a list of answers, as a note
pub replica_noted : (settings : Settings) (v line n : ℕ) (kept : List Bool) (i : ℕ) → i < length kept
    → Contains (replica_notes settings v line n kept) (kept_note v (machine_of settings v (n + i)) line (is_kept kept i))
replica_noted settings v line n [] i below = absurd (omega (arith, below))
replica_noted settings v line n (b ∷ kept) zero below =
    let plus : n ≡ n + 0 = omega arith in
    (0, omega arith, ap (λ (j : ℕ). kept_note v (machine_of settings v j) line b) plus)
replica_noted settings v line n (b ∷ kept) (suc i) below =
    let plus : n + 1 + i ≡ n + suc i = omega arith in
    let less : i < length kept = omega (arith, below) in
    let rest = subst (λ (j : ℕ). Contains (replica_notes settings v line (n + 1) kept) (kept_note v (machine_of settings v j) line (is_kept kept i))) plus
    (replica_noted settings v line (n + 1) kept i less) in
    (suc rest.0, omega (arith, rest.1), rest.2)

pub volume_noted : (settings : Settings) (n : ℕ) (olds : List VolumeKnown) (kepts : List (List Bool)) (news : List VolumeKnown) (i : ℕ) (note : Note)
    → ReopenedVolumes settings n olds kepts news → i < length olds
    → Contains (pending_notes settings (n + i) (slice_index_or olds i empty_volume).pending (slice_index_or kepts i [])) note
    → Contains (volume_notes settings n olds kepts) note
volume_noted settings n [] kepts news i note h below has = absurd (omega (arith, below))
volume_noted settings n (old ∷ olds) (kept ∷ kepts) (new ∷ news) zero note h below has =
    let plus : n + 0 ≡ n = omega arith in
    Contains-append_left (pending_notes settings n old.pending kept) (volume_notes settings (n + 1) olds kepts) note
    (subst (λ (v : ℕ). Contains (pending_notes settings v old.pending kept) note) plus has)
volume_noted settings n (old ∷ olds) (kept ∷ kepts) (new ∷ news) (suc i) note h below has =
    let plus : n + suc i ≡ n + 1 + i = omega arith in
    let less : i < length olds = omega (arith, below) in
    Contains-append_right (pending_notes settings n old.pending kept) (volume_notes settings (n + 1) olds kepts) note
    (volume_noted settings (n + 1) olds kepts news i note h.1 less
    (subst (λ (v : ℕ). Contains (pending_notes settings v (slice_index_or olds i empty_volume).pending (slice_index_or kepts i [])) note) plus has))
volume_noted settings n (old ∷ olds) [] news i note h below has = absurd h
volume_noted settings n (old ∷ olds) (kept ∷ kepts) [] i note h below has = absurd h

-- the answers are one for each replica
pub kept_many : (settings : Settings) (v : ℕ) (volume : VolumeKnown) (pending : Pending) (o : Option Pending) (kept : List Bool) → o ≡ Some pending → MayKeep settings v volume o kept
    → length kept ≡ length volume.replicas
kept_many settings v volume pending None kept e may = absurd cc
kept_many settings v volume pending (Some other) kept e may = may.0

-- each replica's answer about a pending change is told
pub told : (settings : Settings) (k : Known) (d : ℕ) (notes : List Note) (t : Known) (v j : ℕ) (pending : Pending) → (h : IsRestarted settings k d notes t)
    → IsOf settings k → v < settings.volumes → j < settings.replicas → (volume_at k v).pending ≡ Some pending
    → Contains notes (kept_note v (machine_of settings v j) (pending.tag).line (is_kept (slice_index_or h.kept v []) j))
told settings k d notes t v j pending h is below within there =
    let below_all : v < length k.volumes = subst (λ (n : ℕ). v < n) (sym is.volumes) below in
    let found = volume_reopened settings k h.kept h.row t v h.opened below_all in
    let many : length (slice_index_or h.kept v []) ≡ settings.replicas =
    kept_many settings v (volume_at k v) pending (volume_at k v).pending (slice_index_or h.kept v []) there found.may ∙ is.replicas v below in
    let inside : j < length (slice_index_or h.kept v []) = subst (λ (n : ℕ). j < n) (sym many) within in
    let note : Note = kept_note v (machine_of settings v j) (pending.tag).line (is_kept (slice_index_or h.kept v []) j) in
    let plus : 0 + j ≡ j = omega arith in
    let zero_plus : 0 + v ≡ v = omega arith in
    let first : Contains (replica_notes settings v (pending.tag).line 0 (slice_index_or h.kept v [])) note =
    subst (λ (i : ℕ). Contains (replica_notes settings v (pending.tag).line 0 (slice_index_or h.kept v []))
    (kept_note v (machine_of settings v i) (pending.tag).line (is_kept (slice_index_or h.kept v []) j))) plus
    (replica_noted settings v (pending.tag).line 0 (slice_index_or h.kept v []) j inside) in
    let here : Contains (pending_notes settings (0 + v) (volume_at k v).pending (slice_index_or h.kept v [])) note =
    subst (λ (u : ℕ). Contains (pending_notes settings u (volume_at k v).pending (slice_index_or h.kept v [])) note) (sym zero_plus)
    (subst (λ (o : Option Pending). Contains (pending_notes settings v o (slice_index_or h.kept v [])) note) (sym there) first) in
    subst (λ (ns : List Note). Contains ns note) (sym h.told)
    (Contains-append_left (volume_notes settings 0 k.volumes h.kept) (row_notes k.directory.pending h.row) note
    (volume_noted settings 0 k.volumes h.kept t.volumes v note (h.opened).volumes below_all here))

-- what a replica has at a pair behind a restart, by its answer
pub at_reopened : (old new : VolumeKnown) (j : ℕ) (kept : List Entry) (pair : Pair) → new.log ≡ [] → ReopenedReplica old (replica_at old j) kept (replica_at new j)
    → at_replica new j pair ≡ outcome_at (with_entries (now old (replica_at old j)) kept) pair
at_reopened old new j kept pair log h =
    at-now new (replica_at new j) pair
    ∙ ap (λ (entries : List Logged). look_after (map logged_row entries) pair (outcome_at (replica_at new j).base pair)) log
    ∙ ap (λ (table : Table). outcome_at table pair) h.base

-- a change that was not kept, or of another pair, leaves what stood; one that was kept stands
pub kept_other : (table : Table) (o : Option Pending) (answer : Bool) (pair : Pair)
    → ((pending : Pending) → o ≡ Some pending → pair_of pending.entry ≡ pair → answer ≡ false) → outcome_at (with_entries table (kept_entry o answer)) pair ≡ outcome_at table pair
kept_other table None answer pair lost = refl
kept_other table (Some pending) false pair lost = refl
kept_other table (Some pending) true pair lost =
    at-apply_entry table pending.entry pair
    ∙ cond-false (pair_eq (entry_row pending.entry).pair pair) (entry_row pending.entry).outcome (outcome_at table pair)
    (pair_differs (entry_row pending.entry).pair pair (λ e. true≢false (lost pending refl (sym (row_pair pending.entry) ∙ e))))

pub kept_own : (table : Table) (o : Option Pending) (answer : Bool) (pending : Pending) (pair : Pair) → o ≡ Some pending → answer ≡ true → pair_of pending.entry ≡ pair
    → outcome_at (with_entries table (kept_entry o answer)) pair ≡ outcome_of pending.entry
kept_own table o answer pending pair there is own =
    ap (λ (p : Option Pending). outcome_at (with_entries table (kept_entry p answer)) pair) there
    ∙ ap (λ (b : Bool). outcome_at (with_entries table (kept_entry (Some pending) b)) pair) is
    ∙ at-apply_entry table pending.entry pair
    ∙ cond-true (pair_eq (entry_row pending.entry).pair pair) (entry_row pending.entry).outcome (outcome_at table pair)
    (ap (λ (p : Pair). pair_eq p pair) (row_pair pending.entry ∙ own) ∙ pair_refl pair)
    ∙ row_outcome pending.entry

-- a replica of a volume, over a restart
pub replica_over : (settings : Settings) (k : Known) (kept : List (List Bool)) (row : Bool) (t : Known) (v j : ℕ) (pair : Pair) → Reopens settings k kept row t → IsOf settings k
    → v < settings.volumes → j < settings.replicas
    → at_replica (volume_at t v) j pair ≡ outcome_at (with_entries (now (volume_at k v) (replica_at (volume_at k v) j))
    (kept_entry (volume_at k v).pending (is_kept (slice_index_or kept v []) j))) pair
replica_over settings k kept row t v j pair h is below within =
    let found = volume_reopened settings k kept row t v h (subst (λ (n : ℕ). v < n) (sym is.volumes) below) in
    let inside : j < length (volume_at k v).replicas = subst (λ (n : ℕ). j < n) (sym (is.replicas v below)) within in
    let plus : 0 + j ≡ j = omega arith in
    let opened = reopened_replica (volume_at k v) (slice_index_or kept v []) 0 (volume_at k v).replicas (volume_at t v).replicas j found.replicas inside in
    let opened_j : ReopenedReplica (volume_at k v) (replica_at (volume_at k v) j) (kept_entry (volume_at k v).pending (is_kept (slice_index_or kept v []) j)) (replica_at (volume_at t v) j) =
    subst (λ (i : ℕ). ReopenedReplica (volume_at k v) (replica_at (volume_at k v) j) (kept_entry (volume_at k v).pending (is_kept (slice_index_or kept v []) i))
    (replica_at (volume_at t v) j)) plus opened in
    at_reopened (volume_at k v) (volume_at t v) j (kept_entry (volume_at k v).pending (is_kept (slice_index_or kept v []) j)) pair found.log opened_j

-- a home stands over a restart
pub home_over : (settings : Settings) (k : Known) (kept : List (List Bool)) (row : Bool) (t : Known) (pair : Pair) (v : ℕ) → Reopens settings k kept row t → home_of k pair ≡ Some v
    → home_of t pair ≡ Some v
home_over settings k kept row t pair v h home =
    ap (λ (rows : List HomeRow). home_in rows pair) h.rows ∙ home_stays k.directory.rows (kept_row k.directory.pending row) pair v home

-- the answer about a change that no note calls kept, or none lost
pub answer_lost : (settings : Settings) (k : Known) (d : ℕ) (notes : List Note) (t : Known) (v j : ℕ) (pending : Pending) → (h : IsRestarted settings k d notes t)
    → IsOf settings k → v < settings.volumes → j < settings.replicas → (volume_at k v).pending ≡ Some pending → NoneKept notes v (pending.tag).line
    → is_kept (slice_index_or h.kept v []) j ≡ false
answer_lost settings k d notes t v j pending h is below within there none =
    elim (cases_Bool (is_kept (slice_index_or h.kept v []) j)) [
      | inl has ↦ absurd (none (machine_of settings v j)
          (subst (λ (b : Bool). Contains notes (kept_note v (machine_of settings v j) (pending.tag).line b)) has (told settings k d notes t v j pending h is below within there)))
      | inr lost ↦ lost
    ]

pub answer_kept : (settings : Settings) (k : Known) (d : ℕ) (notes : List Note) (t : Known) (v j : ℕ) (pending : Pending) → (h : IsRestarted settings k d notes t)
    → IsOf settings k → v < settings.volumes → j < settings.replicas → (volume_at k v).pending ≡ Some pending → NoneLost notes v (pending.tag).line
    → is_kept (slice_index_or h.kept v []) j ≡ true
answer_kept settings k d notes t v j pending h is below within there none =
    elim (cases_Bool (is_kept (slice_index_or h.kept v []) j)) [
      | inl has ↦ has
      | inr lost ↦ absurd (none (machine_of settings v j)
          (subst (λ (b : Bool). Contains notes (kept_note v (machine_of settings v j) (pending.tag).line b)) lost (told settings k d notes t v j pending h is below within there)))
    ]

-- a photo stands over a restart that keeps no change of its pair
pub standing_restart : (settings : Settings) (k : Known) (d : ℕ) (notes : List Note) (t : Known) (pair : Pair) (photo : Photo) → IsOf settings k → 0 < settings.replicas
    → IsRestarted settings k d notes t → LosesChanges settings pair k notes → Standing settings k pair (outcome.Photo photo) → Standing settings t pair (outcome.Photo photo)
standing_restart settings k d notes t pair photo is some h loses stands =
    let v : ℕ = stands.volume in
    let below : v < settings.volumes = home_bounded settings k.directory.rows pair v is.homes stands.home in
    record {
      volume = v;
      home = home_over settings k h.kept h.row t pair v h.opened stands.home;
      each = λ j within.
          replica_over settings k h.kept h.row t v j pair h.opened is below within
          ∙ kept_other (now (volume_at k v) (replica_at (volume_at k v) j)) (volume_at k v).pending (is_kept (slice_index_or h.kept v []) j) pair
          (λ pending there own. answer_lost settings k d notes t v j pending h is below within there (loses v pending below there own))
          ∙ stands.each j within;
    }

-- a pending change that was kept stands
pub standing_kept : (settings : Settings) (k : Known) (d : ℕ) (notes : List Note) (t : Known) (pair : Pair) (v : ℕ) (pending : Pending) → IsOf settings k → 0 < settings.replicas
    → IsRestarted settings k d notes t → (volume_at k v).pending ≡ Some pending → pair_of pending.entry ≡ pair → home_of k pair ≡ Some v → NoneLost notes v (pending.tag).line
    → Standing settings t pair (outcome_of pending.entry)
standing_kept settings k d notes t pair v pending is some h there own home none =
    let below : v < settings.volumes = home_bounded settings k.directory.rows pair v is.homes home in
    record {
      volume = v;
      home = home_over settings k h.kept h.row t pair v h.opened home;
      each = λ j within.
          replica_over settings k h.kept h.row t v j pair h.opened is below within
          ∙ kept_own (now (volume_at k v) (replica_at (volume_at k v) j)) (volume_at k v).pending (is_kept (slice_index_or h.kept v []) j) pending pair there
          (answer_kept settings k d notes t v j pending h is below within there none) own;
    }

pub restart_alone : (settings : Settings) (k : Known) (line pick : ℕ) (r : Reply) (notes : List Note) (t : Known) (pair : Pair) (photo : Photo) → IsOf settings k → 0 < settings.replicas
    → LegalRestart settings k r notes t → LeavesAloneFrom settings pair k (Restart line pick r notes t) → Standing settings k pair (outcome.Photo photo)
    → Standing settings t pair (outcome.Photo photo)
restart_alone settings k line pick (reply.Restarted d) notes t pair photo is some h alone stands = standing_restart settings k d notes t pair photo is some h alone.1 stands
restart_alone settings k line pick reply.NoMem notes t pair photo is some h alone stands = absurd alone.0
restart_alone settings k line pick _ notes t pair photo is some h alone stands = absurd h

pub standing_over : (settings : Settings) (k t : Known) (turns : List Turn) (pair : Pair) (photo : Photo) → IsOf settings k → 0 < settings.replicas
    → Legal settings k turns t → AllLeaveAlone settings pair k turns → Standing settings k pair (outcome.Photo photo) → Standing settings t pair (outcome.Photo photo)
standing_over settings k t [] pair photo is some legal alone stands = subst (λ (x : Known). Standing settings x pair (outcome.Photo photo)) (sym legal) stands
standing_over settings k t (Plain line i r after ∷ turns) pair photo is some legal alone stands =
    standing_over settings after t turns pair photo (plain_is_of settings k line i r after is legal.0) some legal.1 alone.1
    (standing_plain settings k line i r after pair (outcome.Photo photo) legal.0 alone.0 stands)
standing_over settings k t (Lanes items logs rows after ∷ turns) pair photo is some legal alone stands = absurd alone.0
standing_over settings k t (Restart line pick r notes after ∷ turns) pair photo is some legal alone stands =
    standing_over settings after t turns pair photo (restart_is_of settings k r notes after is legal.0) some legal.1 alone.1
    (restart_alone settings k line pick r notes after pair photo is some legal.0 alone.0 stands)

pub stored_is_read_behind_restarts : StoredIsReadBehindRestarts
stored_is_read_behind_restarts settings k t earlier between later line line' pair bytes v p d c after after' request cookie r is some legal alone asks =
    let parts = legal_split settings k t earlier _ legal in
    let b : Known = known_behind k earlier in
    let now_of : IsOf settings b = is_of_behind settings k b earlier is parts.0 in
    let after_of : IsOf settings after = plain_is_of settings b line (item.Command (command.Put pair bytes)) (reply.Stored v p d c) after now_of parts.1.0 in
    let rest = legal_split settings after t between _ parts.1.1 in
    answer_photo settings (known_behind after between) (record { lane = 0; line = line' }) request r after' pair cookie (cookie_of settings.secret pair.key) bytes
    (standing_over settings after (known_behind after between) between pair _ after_of some rest.0 alone
    (stored_stands settings b line pair bytes v p d c after now_of parts.1.0)) asks rest.1.0

pub failed_put_is_pending : FailedPutIsPending
failed_put_is_pending settings k t earlier later line pair bytes v m f after is legal =
    let parts = legal_split settings k t earlier _ legal in
    let b : Known = known_behind k earlier in
    let now_of : IsOf settings b = is_of_behind settings k b earlier is parts.0 in
    let tag : CoreTag = record { lane = 0; line = line } in
    let h : PutFailed settings b tag pair bytes v m f after = parts.1.0 in
    let test : ℕ → Bool = λ u. is_none (refusal_of settings b (length bytes) u) in
    let below : v < length b.volumes = subst (λ (n : ℕ). v < n) (sym now_of.volumes) (taken_bounded settings b pair v test (home_of b pair) now_of refl h.taker) in
    let frozen : VolumeKnown = frozen_with m tag (put_entry settings pair bytes) true (volume_at b v) in (
      ap (λ (vs : List VolumeKnown). (slice_index_or vs v empty_volume).pending) (h.leaves).volumes
          ∙ ap (λ (volume : VolumeKnown). volume.pending) (get_or-set_same b.volumes v frozen empty_volume below),
      ap (λ (dir : DirKnown). home_in dir.rows pair) (h.leaves).directory ∙ taken_home settings b pair v test (home_of b pair) refl h.taker,
    )

pub kept_is_read : KeptIsRead
kept_is_read settings k t earlier between later line line' pick d notes pair own bytes v pending after after' request cookie r is some legal there entry_is home lost alone asks =
    let parts = legal_split settings k t earlier _ legal in
    let b : Known = known_behind k earlier in
    let now_of : IsOf settings b = is_of_behind settings k b earlier is parts.0 in
    let after_of : IsOf settings after = restart_is_of settings b (reply.Restarted d) notes after now_of parts.1.0 in
    let rest = legal_split settings after t between _ parts.1.1 in
    let stands : Standing settings after pair (outcome.Photo (record { cookie = own; bytes = bytes })) =
    subst (λ (e : Entry). Standing settings after pair (outcome_of e)) entry_is
    (standing_kept settings b d notes after pair v pending now_of some parts.1.0 there (ap pair_of entry_is) home lost) in
    answer_photo settings (known_behind after between) (record { lane = 0; line = line' }) request r after' pair cookie own bytes
    (standing_over settings after (known_behind after between) between pair _ after_of some rest.0 alone stands) asks rest.1.0

pub kept_is_gone : KeptIsGone
kept_is_gone settings k t earlier between later line line' pick d notes pair v pending after after' request cookie r is some legal there entry_is home lost quiet asks =
    let parts = legal_split settings k t earlier _ legal in
    let b : Known = known_behind k earlier in
    let now_of : IsOf settings b = is_of_behind settings k b earlier is parts.0 in
    let rest = legal_split settings after t between _ parts.1.1 in
    let stands : Standing settings after pair outcome.Nothing =
    subst (λ (e : Entry). Standing settings after pair (outcome_of e)) entry_is
    (standing_kept settings b d notes after pair v pending now_of some parts.1.0 there (ap pair_of entry_is) home lost) in
    answer_gone settings (known_behind after between) (record { lane = 0; line = line' }) request r after' pair cookie
    (standing_between settings after (known_behind after between) between pair _ rest.0 quiet stands) asks rest.1.0
