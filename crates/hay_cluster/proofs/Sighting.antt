-- What is seen of the photos of a store: laws of calls, and of replies.
use Rattle.std.proofs.Common.{◌≡◌, ◌≢◌, ◌⊎◌, Bool, ℕ, zero, suc, List, [], ◌∷◌, map, Option, Some, None, inl, inr, refl, sym, ap, subst, ◌∙◌, arith}
use Rattle.std.specs.Prelude.{slice_get, slice_index, slice_set}
use Rattle.std.specs.Option.{option_map_or}
use Rattle.std.proofs.lemmas.Bool.{cases_order}
use Rattle.std.proofs.lemmas.Option.{same_Some}
use Rattle.hay_needle.specs.declared.needle.Pair.{Pair}
use Rattle.hay_needle.specs.declared.settings.Settings.{Settings}
use Rattle.hay_reply.specs.declared.Refused.{Refused}
use Rattle.hay_reply.specs.declared.Reply.{Reply}
use Rattle.hay_reply.specs.declared.Reply.TheVariants as reply
use Rattle.hay_legal.specs.Known.{replica_on, slot_of}
use Rattle.hay_legal.specs.Suiting.{SuitsFuse}
use Rattle.hay_disk.specs.Counts.{Rose}
use Rattle.hay_directory.specs.declared.fault.DirFault.{DirFault}
use Rattle.hay_directory.specs.declared.fault.DirFault.TheVariants as settling
use Rattle.hay_directory.specs.State.{State}
use Rattle.hay_logical.specs.declared.fault.LogicalFault.{LogicalFault}
use Rattle.hay_logical.specs.declared.fault.LogicalFault.TheVariants as refusal
use Rattle.hay_logical.specs.Answers.{BreaksPutOff}
use Rattle.hay_logical.specs.Fits.{At}
use Rattle.hay_logical.specs.Seen.{ReplicaSeen, SeesAt, VolumeSeen, replica_seen, volume_seen}
use Rattle.hay_logical.specs.ReplicaCalls.{KeepsRuns}
use Rattle.hay_physical.specs.OpenCopies.{Copy}
use Rattle.hay_logical.specs.Volumes.{Volume}
use Rattle.hay_logical.proofs.Lists.{at_set_other}
use Rattle.hay_logical.specs.Sights.{AwaitsLook, BecomesSeen, DeleteRefusedSights, FindsPhoto, IsLiveSight, IsSeenOn, KeepsSights, Looks, LooksAtPair, LooksInVain, Sight, Sights}
use Rattle.hay_logical.specs.Sights.{StoresSights, sights_of}
use Rattle.hay_logical.specs.Sights.Sight.{Gone, Live, Never, Unseen}
use Rattle.hay_cluster.specs.declared.maintenance.Maintenance.{Maintenance}
use Rattle.hay_cluster.specs.declared.maintenance.Maintenance.TheVariants.{Flush, Begin, Step, Finish, Compact}
use Rattle.hay_cluster.specs.Causes.{EndsByFaults}
use Rattle.hay_cluster.specs.Changes.{IsDeleteReply, IsReadOnly}
use Rattle.hay_cluster.specs.Maintenance.{IsRefusedAs, done_as}
use Rattle.hay_cluster.specs.Puts.{IsPutReply, IsRefusal, settle_reply}
use Rattle.hay_cluster.specs.Seen.{AnswersDrain, StoreSeen, VolumeAt, home_seen, no_sights, places_of, store_seen}
use Rattle.hay_cluster.specs.Sights.{ChangesPhotos, DeleteSights, DoneSights, KeepsPhotos, LooksAtHome, PutSights, WorkSights, told_by}
use Rattle.hay_cluster.specs.Sights.{Told}
use Rattle.hay_cluster.specs.Sights.Told.{Absent, Damaged, Deleted, Failed, Missing, Nothing, Shown, Stored, Swapped, Unreadable, Wanting}
use Rattle.hay_cluster.specs.Store.{IsShaped, Open, disks_of}
use Rattle.hay_cluster.proofs.Lists.{map-at, slice_get-set}
use Rattle.hay_cluster.proofs.Moves.{Called, called_shape, count_at, with_directory, with_one}
use Rattle.hay_cluster.proofs.Seeing.{seen_at}

-- LOOKS

pub keeps_sights : (seen : Sights) → KeepsSights seen seen
keeps_sights seen pair j = refl

keeps_sights_on : (old mid new : Sights) → KeepsSights old mid → KeepsSights mid new → KeepsSights old new
keeps_sights_on old mid new first second pair j = second pair j ∙ first pair j

pub kept_looks : (pair : Pair) (old new : Sights) → KeepsSights old new → LooksAtPair pair old new
kept_looks pair old new kept = record { each = λ j. inl (kept pair j); others = λ other j apart. kept other j }

-- what was looked at awaits no look
pub seen_once : (a b c : Sight) → BecomesSeen a b → BecomesSeen b c → ⊥
seen_once Never b c shown again = shown
seen_once (Live at) b c shown again = shown
seen_once Gone b c shown again = shown
seen_once (Unseen at size) b c (inl live) again = subst (λ x. BecomesSeen x c) live again
seen_once (Unseen at size) b c (inr gone) again = subst (λ x. BecomesSeen x c) gone again

looks_on : (a b c : Sight) → Looks a b → Looks b c → Looks a c
looks_on a b c (inl same) (inl again) = inl (again ∙ same)
looks_on a b c (inl same) (inr shown) = inr (subst (λ x. BecomesSeen x c) same shown)
looks_on a b c (inr shown) (inl again) = inr (subst (λ x. BecomesSeen a x) (sym again) shown)
looks_on a b c (inr shown) (inr again) = absurd (seen_once a b c shown again)

pub looks_at_on : (pair : Pair) (old mid new : Sights) → LooksAtPair pair old mid → LooksAtPair pair mid new → LooksAtPair pair old new
looks_at_on pair old mid new first second = record {
  each = λ j. looks_on (old pair j) (mid pair j) (new pair j) (first.each j) (second.each j);
  others = λ other j apart. second.others other j apart ∙ first.others other j apart;
}

-- PHOTOS

pub keeps_photos : (seen : StoreSeen) → KeepsPhotos seen seen
keeps_photos seen v = keeps_sights (seen.places v)

-- what is seen of them is the same
pub same_photos : (old new : StoreSeen) → new.places ≡ old.places → KeepsPhotos old new
same_photos old new same v pair j = ap (λ (places : ℕ → Sights). places v pair j) same

kept_from : (old mid new : StoreSeen) → mid.places ≡ old.places → KeepsPhotos mid new → KeepsPhotos old new
kept_from old mid new same kept v = subst (λ (places : ℕ → Sights). KeepsSights (places v) (new.places v)) same (kept v)

module _ (v : ℕ) (old new : StoreSeen) where
  pub photos_as : (P Q : Sights → Sights → Type 0) → ((before after : Sights) → P before after → Q before after) → ChangesPhotos v P old new → ChangesPhotos v Q old new
  photos_as P Q onwards c = record { changes = onwards (old.places v) (new.places v) c.changes; others = c.others }

  pub photos_kept : (Changes : Sights → Sights → Type 0) → ((before after : Sights) → KeepsSights before after → Changes before after) → KeepsPhotos old new → ChangesPhotos v Changes old new
  photos_kept Changes onwards kept = record { changes = onwards (old.places v) (new.places v) (kept v); others = λ w apart. kept w }

  pub photos_still : ChangesPhotos v KeepsSights old new → KeepsPhotos old new
  photos_still c w =
      elim (cases_order w v) [
        | inl same ↦ subst (λ (n : ℕ). KeepsSights (old.places n) (new.places n)) (sym same) c.changes
        | inr (inl less) ↦ c.others w (λ e. absurd (omega (arith, less, e)))
        | inr (inr more) ↦ c.others w (λ e. absurd (omega (arith, more, e)))
      ]

module _ (v : ℕ) (old mid new : StoreSeen) where
  -- behind a call that changes nothing of them
  pub photos_from : (Changes : Sights → Sights → Type 0) → mid.places ≡ old.places → ChangesPhotos v Changes mid new → ChangesPhotos v Changes old new
  photos_from Changes same c = record {
    changes = subst (λ (places : ℕ → Sights). Changes (places v) (new.places v)) same c.changes;
    others = λ w apart. subst (λ (places : ℕ → Sights). KeepsSights (places w) (new.places w)) same (c.others w apart);
  }

  pub looks_further : (pair : Pair) → ChangesPhotos v (LooksAtPair pair) old mid → ChangesPhotos v (LooksAtPair pair) mid new → ChangesPhotos v (LooksAtPair pair) old new
  looks_further pair first second = record {
    changes = looks_at_on pair (old.places v) (mid.places v) (new.places v) first.changes second.changes;
    others = λ w apart. keeps_sights_on (old.places w) (mid.places w) (new.places w) (first.others w apart) (second.others w apart);
  }

-- a pair's home was looked at
pub looks_home : (pair : Pair) (v : ℕ) (old new : StoreSeen) → home_seen old pair ≡ Some v → ChangesPhotos v (LooksAtPair pair) old new → LooksAtHome (home_seen old pair) pair old new
looks_home pair v old new home looks = subst (λ (o : Option ℕ). LooksAtHome o pair old new) (sym home) looks

-- and so it may be where nothing is seen otherwise
pub kept_home : (pair : Pair) (o : Option ℕ) (old new : StoreSeen) → KeepsPhotos old new → LooksAtHome o pair old new
kept_home pair None old new kept = kept
kept_home pair (Some v) old new kept = photos_kept v old new (LooksAtPair pair) (kept_looks pair) kept

-- CALLS OF ONE PART

module _ {D P A : Type 0} (old store : Open D P A) (is : store ≡ old) where
  pub photos_at : (v : ℕ) (volume : Volume D P) → At store.volumes v volume → (store_seen old).places v ≡ sights_of volume.rows
  photos_at v volume at =
      ap (λ (st : Open D P A). places_of st.volumes v) (sym is) ∙ ap (λ (o : Option (Volume D P)). option_map_or (λ (volume : Volume D P). sights_of volume.rows) o no_sights) at

  module _ (v : ℕ) (before after : Volume D P) (at : At store.volumes v before) where
    pub photos_now : (store_seen (with_one store v after)).places v ≡ sights_of after.rows
    photos_now = ap (λ (o : Option (Volume D P)). option_map_or (λ (volume : Volume D P). sights_of volume.rows) o no_sights) (slice_get-set store.volumes v before after at)

    photos_beside : (w : ℕ) → w ≢ v → KeepsSights ((store_seen old).places w) ((store_seen (with_one store v after)).places w)
    photos_beside w apart pair j =
        ap (λ (seen : Sights). seen pair j)
        (ap (λ (o : Option (Volume D P)). option_map_or (λ (volume : Volume D P). sights_of volume.rows) o no_sights) (at_set_other store.volumes w v after apart)
        ∙ ap (λ (st : Open D P A). places_of st.volumes w) is)

    pub volume_photos : (Changes : Sights → Sights → Type 0) → Changes (sights_of before.rows) (sights_of after.rows) → ChangesPhotos v Changes (store_seen old) (store_seen (with_one store v after))
    volume_photos Changes changes = record {
      changes = subst (λ (seen : Sights). Changes seen ((store_seen (with_one store v after)).places v)) (sym (photos_at v before at))
          (subst (λ (seen : Sights). Changes (sights_of before.rows) seen) (sym photos_now) changes);
      others = photos_beside;
    }

    pub volume_kept_photos : KeepsSights (sights_of before.rows) (sights_of after.rows) → KeepsPhotos (store_seen old) (store_seen (with_one store v after))
    volume_kept_photos kept = photos_still v (store_seen old) (store_seen (with_one store v after)) (volume_photos KeepsSights kept)

  pub directory_photos : (after : State D) → KeepsPhotos (store_seen old) (store_seen (with_directory store after))
  directory_photos after v pair j = ap (λ (st : Open D P A). places_of st.volumes v pair j) is

-- COMPACTIONS THAT A DELETE ENDS

pub at_mapped : {A B : Type 0} (f : A → B) (xs : List A) (i : ℕ) (y : B) → slice_get (map f xs) i ≡ Some y → (x : A) × (slice_get xs i ≡ Some x) × (y ≡ f x)
at_mapped f [] i y at = absurd cc
at_mapped f (x ∷ xs) zero y at = let same : f x ≡ y = cc in (x, refl, sym same)
at_mapped f (x ∷ xs) (suc i) y at = at_mapped f xs i y at

-- a replica that is seen so
seen_copy : {D P : Type 0} (volume : Volume D P) (w : VolumeSeen) (j : ℕ) (Is : ReplicaSeen → Type 0) → w ≡ volume_seen volume → SeesAt j Is w
    → (r : Copy D) × At volume.replicas j r × Is (replica_seen r)
seen_copy volume w j Is same sees =
    let there = at_mapped replica_seen volume.replicas j sees.0 (subst (λ (v : VolumeSeen). At v.replicas j sees.0) same sees.1) in
    (there.0, there.1, subst Is there.2 sees.2)

module _ {D P A : Type 0} (faults fuses : D → ℕ) (old store : Open D P A) (v : ℕ) (before after : Volume D P) (is : store ≡ old) (shape : IsShaped store)
    (called : Called faults fuses store v before after) where
  pub runs_end : KeepsRuns faults before.replicas after.replicas
      → EndsByFaults old.settings v (store_seen old) (store_seen (with_one store v after)) (map faults (disks_of old)) (map faults (disks_of (with_one store v after)))
  runs_end runs = λ j goal had none.
      let was : had.0 ≡ volume_seen before = same_Some had.0 (volume_seen before) (sym had.1 ∙ seen_at old store is v before called.at) in
      let now : none.0 ≡ volume_seen after =
      same_Some none.0 (volume_seen after) (sym none.1 ∙ map-at volume_seen (slice_set store.volumes v after) v after (slice_get-set store.volumes v before after called.at)) in
      let r = seen_copy before had.0 j (λ r. r.goal ≡ Some goal) was had.2 in
      let r' = seen_copy after none.0 j (λ r. r.goal ≡ None) now none.2 in
      elim (runs j r.0 r'.0 r.1 r'.1) [
        | inl same ↦ let both : None ≡ Some goal = sym r'.2 ∙ same ∙ r.2 in absurd cc
        | inr ended ↦
            subst (λ (st : Open D P A). Rose (slice_index (map faults (disks_of st)) (slot_of st.settings v j))
            (slice_index (map faults (disks_of (with_one store v after))) (slot_of st.settings v j))) is
            (subst (λ n. Rose n (slice_index (map faults (disks_of (with_one store v after))) (slot_of store.settings v j))) (sym (count_at faults store v j before r.0 shape called.at r.1))
            (subst (λ n. Rose (faults (r.0).disk) n)
            (sym (count_at faults (with_one store v after) v j after r'.0 (called_shape faults fuses store v before after shape called) (slice_get-set store.volumes v before after called.at) r'.1))
            ended.1))
      ]

-- REPLIES OF PUTS

module _ (settings : Settings) (pair : Pair) (old new : StoreSeen) (kept : KeepsPhotos old new) where
  pub turned_sights : (refused : List Refused) (said : Reply) → IsRefusal refused said → PutSights settings pair (told_by said) old new
  turned_sights refused (reply.Full tries) told = kept
  turned_sights refused (reply.ReadOnly closed) told = kept
  turned_sights refused reply.NoMem told = kept
  turned_sights refused _ told = absurd told

  pub unsettled_sights : (fault : DirFault) (said : Reply) → said ≡ settle_reply fault → PutSights settings pair (told_by said) old new
  unsettled_sights settling.Frozen said is = subst (λ (r : Reply). PutSights settings pair (told_by r) old new) (sym is) kept
  unsettled_sights settling.NoMemory said is = subst (λ (r : Reply). PutSights settings pair (told_by r) old new) (sym is) kept
  unsettled_sights (settling.Failed faults) said is = subst (λ (r : Reply). PutSights settings pair (told_by r) old new) (sym is) kept

  pub unstored_sights : (v : ℕ) (fault : LogicalFault) (said : Reply) → IsPutReply v fault said → BreaksPutOff fault → PutSights settings pair (told_by said) old new
  unstored_sights v (refusal.Failed m count) said told breaks = subst (λ (r : Reply). PutSights settings pair (told_by r) old new) (sym told) kept
  unstored_sights v refusal.NoMemory said told breaks = subst (λ (r : Reply). PutSights settings pair (told_by r) old new) (sym told) kept
  unstored_sights v (refusal.ReadOnly m) said told breaks = absurd breaks
  unstored_sights v (refusal.Full m end need capacity) said told breaks = absurd breaks
  unstored_sights v (refusal.Gone front) said told breaks = absurd breaks
  unstored_sights v (refusal.Busy m goal) said told breaks = absurd breaks
  unstored_sights v (refusal.Worn m) said told breaks = absurd breaks
  unstored_sights v refusal.Idle said told breaks = absurd breaks
  unstored_sights v (refusal.Damaged m place) said told breaks = absurd breaks

-- behind a row that was added
pub put_from : (pair : Pair) (old mid new : StoreSeen) (settings : Settings) (told : Told) → mid.volumes ≡ old.volumes → mid.places ≡ old.places
    → PutSights settings pair told mid new → PutSights settings pair told old new
put_from pair old mid new settings (Stored v) volumes same stored =
    (stored.0, subst (λ (all : List VolumeSeen). At all v stored.0) volumes stored.1, photos_from v old mid new (StoresSights pair (stored.0).replicas) same stored.2)
put_from pair old mid new settings (Failed v m) volumes same kept = kept_from old mid new same kept
put_from pair old mid new settings Wanting volumes same kept = kept_from old mid new same kept
put_from pair old mid new settings Nothing volumes same kept = kept_from old mid new same kept
put_from pair old mid new settings (Deleted v) volumes same none = none
put_from pair old mid new settings (Absent v) volumes same none = none
put_from pair old mid new settings (Damaged v m at) volumes same none = none
put_from pair old mid new settings (Shown v m) volumes same none = none
put_from pair old mid new settings (Missing v m) volumes same none = none
put_from pair old mid new settings (Unreadable v causes) volumes same none = none
put_from pair old mid new settings (Swapped v m) volumes same none = none

-- REPLIES OF DELETES

module _ (settings : Settings) (pair : Pair) (v : ℕ) (old new : StoreSeen) where
  pub closed_sights : (m : ℕ) (said : Reply) → IsReadOnly v m said → KeepsPhotos old new → DeleteSights settings pair (told_by said) old new
  closed_sights m said (inl closed) kept = subst (λ (r : Reply). DeleteSights settings pair (told_by r) old new) (sym closed) kept
  closed_sights m said (inr none) kept = subst (λ (r : Reply). DeleteSights settings pair (told_by r) old new) (sym none) (kept_home pair (home_seen old pair) old new kept)

  module _ (rows : ℕ) (said : Reply) (home : home_seen old pair ≡ Some v) (volume : VolumeSeen) (at : At new.volumes v volume) where
    failed_sights : (m count : ℕ) → ChangesPhotos v (λ before after. DeleteRefusedSights settings v pair volume.frozen before after (refusal.Failed m count)) old new
        → DeleteSights settings pair (Failed v m) old new
    failed_sights m count c = by c.changes
      where
        by : ((volume.frozen ≡ Some m) × FindsPhoto pair settings.replicas (old.places v) (new.places v) × IsSeenOn settings v pair m IsLiveSight (new.places v))
            ⊎ ((volume.frozen ≡ None) × LooksInVain settings v pair m AwaitsLook (old.places v) (new.places v)) → DeleteSights settings pair (Failed v m) old new
        by (inl (frozen, finds, live)) = inl ((volume, at, frozen), record { changes = finds; others = c.others }, live)
        by (inr (thawed, looks)) = inr ((volume, at, thawed), record { changes = looks; others = c.others })

    pub undeleted_sights : (fault : LogicalFault) → IsDeleteReply v rows fault said → ChangesPhotos v (λ before after. DeleteRefusedSights settings v pair volume.frozen before after fault) old new
        → DeleteSights settings pair (told_by said) old new
    undeleted_sights (refusal.Gone front) told c = subst (λ (r : Reply). DeleteSights settings pair (told_by r) old new) (sym told) c
    undeleted_sights (refusal.Failed m count) told c = subst (λ (r : Reply). DeleteSights settings pair (told_by r) old new) (sym told) (failed_sights m count c)
    undeleted_sights (refusal.Damaged m place) told c = subst (λ (r : Reply). DeleteSights settings pair (told_by r) old new) (sym told) c
    undeleted_sights refusal.NoMemory told c = subst (λ (r : Reply). DeleteSights settings pair (told_by r) old new) (sym told) (looks_home pair v old new home c)
    undeleted_sights (refusal.ReadOnly m) told c = closed_sights m said told (photos_still v old new c)
    undeleted_sights (refusal.Full m end need capacity) told c = absurd told
    undeleted_sights (refusal.Busy m goal) told c = absurd told
    undeleted_sights (refusal.Worn m) told c = absurd told
    undeleted_sights refusal.Idle told c = absurd told

-- REPLIES OF WORK

module _ (settings : Settings) (v m : ℕ) (old new : StoreSeen) where
  pub worked_sights : (work : Maintenance) (at number : ℕ) (said : Reply) → said ≡ done_as v m work number → replica_on settings v m ≡ Some at
      → VolumeAt v (λ volume. ChangesPhotos v (DoneSights work at volume) old new) new
      → WorkSights settings (told_by said) old new
  worked_sights Flush at number said is there c = subst (λ (r : Reply). WorkSights settings (told_by r) old new) (sym is) (photos_still v old new c.2)
  worked_sights Begin at number said is there c = subst (λ (r : Reply). WorkSights settings (told_by r) old new) (sym is) (photos_still v old new c.2)
  worked_sights (Step cells) at number said is there c = subst (λ (r : Reply). WorkSights settings (told_by r) old new) (sym is) (photos_still v old new c.2)
  worked_sights Finish at number said is there c = subst (λ (r : Reply). WorkSights settings (told_by r) old new) (sym is) (at, there, c)
  worked_sights Compact at number said is there c = subst (λ (r : Reply). WorkSights settings (told_by r) old new) (sym is) (at, there, c)

  read_only_sights : (by : ℕ) (said : Reply) → IsReadOnly v by said → KeepsPhotos old new → WorkSights settings (told_by said) old new
  read_only_sights by said (inl closed) kept = subst (λ (r : Reply). WorkSights settings (told_by r) old new) (sym closed) kept
  read_only_sights by said (inr none) kept = subst (λ (r : Reply). WorkSights settings (told_by r) old new) (sym none) kept

  pub unworked_sights : (fault : LogicalFault) (said : Reply) → IsRefusedAs v m fault said → KeepsPhotos old new → WorkSights settings (told_by said) old new
  unworked_sights (refusal.ReadOnly by) said told kept = read_only_sights by said told kept
  unworked_sights (refusal.Failed m' count) said told kept = subst (λ (r : Reply). WorkSights settings (told_by r) old new) (sym told) kept
  unworked_sights (refusal.Busy m' goal) said told kept = subst (λ (r : Reply). WorkSights settings (told_by r) old new) (sym told) kept
  unworked_sights (refusal.Worn m') said told kept = subst (λ (r : Reply). WorkSights settings (told_by r) old new) (sym told) kept
  unworked_sights refusal.Idle said told kept = subst (λ (r : Reply). WorkSights settings (told_by r) old new) (sym told) kept
  unworked_sights (refusal.Damaged m' place) said told kept = subst (λ (r : Reply). WorkSights settings (told_by r) old new) (sym told) kept
  unworked_sights refusal.NoMemory said told kept = subst (λ (r : Reply). WorkSights settings (told_by r) old new) (sym told) kept
  unworked_sights (refusal.Full m' end need capacity) said told kept = absurd told
  unworked_sights (refusal.Gone front) said told kept = absurd told

-- A REPLY OTHER THAN THAT OF A DELETE

pub closed_not_deleted : (w m : ℕ) (said : Reply) → IsReadOnly w m said → (v p d : ℕ) → said ≢ reply.Deleted v p d
closed_not_deleted w m said (inl closed) v p d is = cc
closed_not_deleted w m said (inr none) v p d is = cc

pub refused_not_deleted : (w rows : ℕ) (fault : LogicalFault) (said : Reply) → IsDeleteReply w rows fault said → (v p d : ℕ) → said ≢ reply.Deleted v p d
refused_not_deleted w rows (refusal.Gone front) said told v p d is = cc
refused_not_deleted w rows (refusal.Failed m count) said told v p d is = cc
refused_not_deleted w rows (refusal.Damaged m place) said told v p d is = cc
refused_not_deleted w rows refusal.NoMemory said told v p d is = cc
refused_not_deleted w rows (refusal.ReadOnly m) said told v p d is = closed_not_deleted w m said told v p d is
refused_not_deleted w rows (refusal.Full m end need capacity) said told v p d is = told
refused_not_deleted w rows (refusal.Busy m goal) said told v p d is = told
refused_not_deleted w rows (refusal.Worn m) said told v p d is = told
refused_not_deleted w rows refusal.Idle said told v p d is = told

pub drained_not_deleted : (m : ℕ) (to : Bool) (done said : Reply) (old new : StoreSeen) → ((v p d : ℕ) → done ≢ reply.Deleted v p d) → AnswersDrain m to done said old new
    → (v p d : ℕ) → said ≢ reply.Deleted v p d
drained_not_deleted m to done said old new other (inl (same, moves)) v p d is = other v p d (sym same ∙ is)
drained_not_deleted m to done said old new other (inr (none, keeps)) v p d is = cc

pub fused_not_deleted : (o : Option ℕ) (done said : Reply) → ((v p d : ℕ) → done ≢ reply.Deleted v p d) → SuitsFuse o done said → (v p d : ℕ) → said ≢ reply.Deleted v p d
fused_not_deleted (Some j) done said other same v p d is = other v p d (sym same ∙ is)
fused_not_deleted None done said other none v p d is = cc
