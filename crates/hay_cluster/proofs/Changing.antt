-- Deletes are legal.
use Rattle.std.proofs.Common.{◌≡◌, ℕ, ◌<◌, ◌⊎◌, true, List, [], ◌∷◌, length, map, Some, None, refl, sym, ap, subst, ◌∙◌, inl, inr, arith}
use Rattle.std.specs.Prelude.{◌==◌, ◌<◌, find, nat_lt, slice_index}
use Rattle.std.specs.List.{range_with_len}
use Rattle.std.proofs.lemmas.Bool.{cases_Bool, cond-true, cond-false, eqb-true}
use Rattle.std.proofs.lemmas.Bool.Decides.{nat_tests}
use Rattle.std.proofs.lemmas.Option.{slice_get_within}
use Rattle.hay_needle.specs.declared.needle.Pair.{Pair}
use Rattle.hay_needle.specs.declared.settings.Settings.{Settings}
use Rattle.hay_disk.specs.Counts.{Rose}
use Rattle.hay_disk.specs.Disk.{Files}
use Rattle.hay_script.specs.declared.Command.TheVariants as command
use Rattle.hay_reply.specs.declared.Reply.{Reply}
use Rattle.hay_reply.specs.declared.Reply.TheVariants as reply
use Rattle.hay_core.specs.declared.entry.CoreTag.{CoreTag}
use Rattle.hay_core.specs.declared.entry.Entry.TheVariants as entry
use Rattle.hay_physical.specs.OpenCopies.{Copy}
use Rattle.hay_legal.specs.declared.known.Known.{Known}
use Rattle.hay_legal.specs.declared.known.VolumeKnown.{VolumeKnown}
use Rattle.hay_legal.specs.Known.{Leaves, closed, drained_of, has_risen, home_of, machine_of, replica_on, slot_of, volume_at, with_volume}
use Rattle.hay_legal.specs.Plain.{HasPair, change_volume, disk_rose, frozen_with, with_del}
use Rattle.hay_logical.specs.Answers.{DeleteRefused, IsDeleted}
use Rattle.hay_logical.specs.declared.fault.LogicalFault.{LogicalFault}
use Rattle.hay_logical.specs.declared.fault.LogicalFault.TheVariants.{ReadOnly, Gone, Failed, NoMemory}
use Rattle.hay_logical.specs.Fits.{At}
use Rattle.hay_logical.specs.Stands as logical
use Rattle.hay_logical.specs.Volumes.{Volume}
use Rattle.hay_cluster.specs.Causes.{IsDeleteCause}
use Rattle.hay_cluster.specs.Changes.{IsDeleteReply, IsReadOnly}
use Rattle.hay_cluster.specs.Parts.{Comes}
use Rattle.hay_cluster.specs.State.{Answered, Stands}
use Rattle.hay_cluster.specs.Store.{Open, disks_of}
use Rattle.hay_cluster.proofs.Answering.{answered, stays}
use Rattle.hay_cluster.proofs.Moves.{count_at, has_item, volume_of}
use Rattle.hay_cluster.proofs.Puts.{rose_to, with_same}
use Rattle.hay_cluster.proofs.Refusals.{open-thawed}

-- the machine of a replica that was found by it
pub replica_machine : (settings : Settings) (v m j : ℕ) → replica_on settings v m ≡ Some j → machine_of settings v j ≡ m
replica_machine settings v m j is =
    elim (cases_Bool (nat_lt v settings.volumes)) [
      | inl volume ↦ go (range_with_len 0 settings.replicas) (sym (cond-true (nat_lt v settings.volumes)
          (find (λ i. machine_of settings v i == m) (range_with_len 0 settings.replicas)) None volume) ∙ is)
      | inr beyond ↦ let e : None ≡ Some j = sym (cond-false (nat_lt v settings.volumes) (find (λ i. machine_of settings v i == m) (range_with_len 0 settings.replicas)) None beyond) ∙ is in absurd cc
    ]
  where
    go : (js : List ℕ) → find (λ i. machine_of settings v i == m) js ≡ Some j → machine_of settings v j ≡ m
    go [] h = absurd cc
    go (i ∷ js) h =
        elim (cases_Bool (machine_of settings v i == m)) [
          | inl hit ↦
              let e : Some i ≡ Some j = sym (cond-true (machine_of settings v i == m) (Some i) (find (λ u. machine_of settings v u == m) js) hit) ∙ h in
              let same : i ≡ j = cc in
              subst (λ u. machine_of settings v u ≡ m) same (eqb-true (machine_of settings v i) m hit)
          | inr miss ↦ go js (sym (cond-false (machine_of settings v i == m) (Some i) (find (λ u. machine_of settings v u == m) js) miss) ∙ h)
        ]

-- a count that rose is seen to have risen
risen : (before after : ℕ) → Rose before after → has_risen before after ≡ true
risen before after rose = grind (arith, nat_tests, rose)

module _ {D P A : Type 0} (files : D → Files) (Tells : Type 0) (faults fuses : D → ℕ) (arm_faults : A → ℕ) where
  -- nothing but counts changed where a volume stands for what it stood for
  pub comes_still : (old new : Open D P A) (k : Known) (v : ℕ) → Stands files Tells faults fuses arm_faults old k → v < (old.settings).volumes
      → Comes files Tells faults fuses arm_faults k (with_volume k v (volume_at k v)) new → Comes files Tells faults fuses arm_faults k k new
  comes_still old new k v stands within came = record {
    known = came.known;
    leaves = subst (λ (e : Known). Leaves k e came.known) (with_same files Tells faults fuses arm_faults old k v stands within) came.leaves;
    stands = came.stands;
  }

  -- a compaction that a delete ended
  ended_rose : (old new : Open D P A) (k t : Known) (v : ℕ) (before after : Volume D P) (j : ℕ) → Stands files Tells faults fuses arm_faults old k → Stands files Tells faults fuses arm_faults new t
      → new.settings ≡ old.settings → At old.volumes v before → At new.volumes v after → j < (before.settings).replicas
      → ((r r' : Copy D) → At before.replicas j r → At after.replicas j r' → Rose (faults r.disk) (faults r'.disk)) → disk_rose old.settings k t v j ≡ true
  unfolding Stands
  ended_rose old new k t v before after j s s' same at now within rose =
      let was = volume_of old v before s.shape at in
      let is = volume_of new v after s'.shape now in
      let long : length before.replicas ≡ (before.settings).replicas = was.all in
      let long' : length after.replicas ≡ (before.settings).replicas = is.all ∙ ap (λ (t : Settings). t.replicas) (is.settings_are ∙ same ∙ sym was.settings_are) in
      let old_one = has_item before.replicas j (omega (arith, long, within)) in
      let new_one = has_item after.replicas j (omega (arith, long', within)) in
      let counted : slice_index k.faults (slot_of old.settings v j) ≡ faults (old_one.0).disk =
      ap (λ ns. slice_index ns (slot_of old.settings v j)) s.fault_counts ∙ count_at faults old v j before old_one.0 s.shape at old_one.1 in
      let counted' : slice_index t.faults (slot_of old.settings v j) ≡ faults (new_one.0).disk =
      ap (λ ns. slice_index ns (slot_of old.settings v j)) s'.fault_counts ∙ ap (λ (q : Settings). slice_index (map faults (disks_of new)) (slot_of q v j)) (sym same)
      ∙ count_at faults new v j after new_one.0 s'.shape now new_one.1 in
      ap (λ n. has_risen n (slice_index t.faults (slot_of old.settings v j))) counted ∙ ap (λ n. has_risen (faults (old_one.0).disk) n) counted'
      ∙ risen (faults (old_one.0).disk) (faults (new_one.0).disk) (rose old_one.0 new_one.0 old_one.1 new_one.1)

  pub deleted : (old new : Open D P A) (k : Known) (tag : CoreTag) (pair : Pair) (v p d : ℕ) (before after : Volume D P) → new.settings ≡ old.settings
      → Stands files Tells faults fuses arm_faults old k
      → home_of k pair ≡ Some v → closed old.settings k v ≡ None → At old.volumes v before → At new.volumes v after
      → (done : IsDeleted files faults Tells (volume_at k v) tag pair p before after) → (came : Comes files Tells faults fuses arm_faults k
      (with_volume k v (with_del done.ended tag pair (volume_at k v))) new)
      → d ≡ length (came.known).directory.rows → Answered files Tells faults fuses arm_faults k tag (command.Del pair) (reply.Deleted v p d) new
  deleted old new k tag pair v p d before after same stands home opened at now done came rows =
      answered files Tells faults fuses arm_faults new old.settings k came.known tag (command.Del pair) (reply.Deleted v p d) same
      (record {
        home = record { home = home; «open» = opened; rows = rows ∙ ap (λ dir. length dir.rows) (came.leaves).directory };
        stood = done.stood;
        position = done.position;
        ended = done.ended;
        cause =
            λ j is. ended_rose old new k came.known v before after j stands came.stands same at now (subst (λ n. j < n) done.count (slice_get_within done.ended j true is))
            (λ r r' was now'. done.cause j r r' is was now');
        leaves = came.leaves;
      }) came.stands

  pub read_only_del : (store : Open D P A) (k : Known) (tag : CoreTag) (pair : Pair) (v m : ℕ) (answer : Reply) → Stands files Tells faults fuses arm_faults store k → home_of k pair ≡ Some v
      → closed store.settings k v ≡ Some m → IsReadOnly v m answer → Answered files Tells faults fuses arm_faults k tag (command.Del pair) answer store
  read_only_del store k tag pair v m answer stands home is (inl told) =
      subst (λ (r : Reply). Answered files Tells faults fuses arm_faults k tag (command.Del pair) r store) (sym told)
      (answered files Tells faults fuses arm_faults store store.settings k k tag (command.Del pair) (reply.ReadOnly (record { volume = v; machine = m } ∷ [])) refl ((home, is), stays k) stands)
  read_only_del store k tag pair v m answer stands home is (inr told) =
      subst (λ (r : Reply). Answered files Tells faults fuses arm_faults k tag (command.Del pair) r store) (sym told)
      (answered files Tells faults fuses arm_faults store store.settings k k tag (command.Del pair) reply.NoMem refl (inl (stays k)) stands)

  -- a delete that a volume did not make
  pub not_deleted : (old new : Open D P A) (k : Known) (tag : CoreTag) (pair : Pair) (v d : ℕ) (fault : LogicalFault) (answer : Reply) (after : Volume D P) → new.settings ≡ old.settings
      → v < (old.settings).volumes → Stands files Tells faults fuses arm_faults old k → home_of k pair ≡ Some v → closed old.settings k v ≡ None
      → ((known : Known) → Stands files Tells faults fuses arm_faults new known → d ≡ length known.directory.rows)
      → IsDeleteCause old.settings v (map faults (disks_of old)) (map faults (disks_of new)) fault → DeleteRefused files Tells (volume_at k v) tag pair after fault
      → ((known : VolumeKnown) → logical.Stands files Tells after known → Comes files Tells faults fuses arm_faults k (with_volume k v known) new)
      → IsDeleteReply v d fault answer → Answered files Tells faults fuses arm_faults k tag (command.Del pair) answer new
  not_deleted old new k tag pair v d (ReadOnly m) answer after same within stands home opened rows cause refused comes told =
      let e : None ≡ Some m = sym (open-thawed (volume_at k v).frozen (drained_of old.settings k v) opened) ∙ refused.0 in absurd cc
  not_deleted old new k tag pair v d (Gone front) answer after same within stands home opened rows cause refused comes told =
      let came = comes_still old new k v stands within (comes (volume_at k v) refused.3) in
      subst (λ (r : Reply). Answered files Tells faults fuses arm_faults k tag (command.Del pair) r new) (sym told)
      (answered files Tells faults fuses arm_faults new old.settings k came.known tag (command.Del pair) (reply.Absent v front d) same
      (record {
        home = record { home = home; «open» = opened; rows = rows came.known came.stands ∙ ap (λ dir. length dir.rows) (came.leaves).directory };
        nothing = refused.1;
        front = refused.2;
        leaves = came.leaves;
      }) came.stands)
  not_deleted old new k tag pair v d (Failed m f) answer after same within stands home opened rows cause refused comes told =
      subst (λ (r : Reply). Answered files Tells faults fuses arm_faults k tag (command.Del pair) r new) (sym told)
      (elim refused.1 [
        | inl still ↦
            let came = comes_still old new k v stands within (comes (volume_at k v) still) in
            failed came.known came.stands (inl came.leaves)
        | inr froze ↦
            let came = comes (frozen_with m tag (entry.Del pair) true (volume_at k v)) froze.1 in
            failed came.known came.stands (inr (froze.0, came.leaves))
      ])
    where
      failed : (t : Known) → Stands files Tells faults fuses arm_faults new t
          → Leaves k k t ⊎ (HasPair k v pair × Leaves k (change_volume k v (frozen_with m tag (entry.Del pair) true)) t)
          → Answered files Tells faults fuses arm_faults k tag (command.Del pair) (reply.Failed v m f) new
      failed t now leaves =
          let rose = rose_to files Tells faults fuses arm_faults old new old.settings k t v m f stands now cause.1 in
          answered files Tells faults fuses arm_faults new old.settings k t tag (command.Del pair) (reply.Failed v m f) same
          (record { home = home; «open» = opened; replica = rose.0; there = rose.1; rose = rose.2; leaves = leaves }) now
  not_deleted old new k tag pair v d NoMemory answer after same within stands home opened rows cause refused comes told =
      let came = comes_still old new k v stands within (comes (volume_at k v) refused.1) in
      subst (λ (r : Reply). Answered files Tells faults fuses arm_faults k tag (command.Del pair) r new) (sym told)
      (answered files Tells faults fuses arm_faults new old.settings k came.known tag (command.Del pair) reply.NoMem same (inl came.leaves) came.stands)
  not_deleted old new k tag pair v d _ answer after same within stands home opened rows cause refused comes told = absurd refused
