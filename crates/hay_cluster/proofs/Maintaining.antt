-- Flushes and compactions are legal.
use Rattle.std.proofs.Common.{◌≡◌, ℕ, ◌<◌, ◌≤◌, List, [], ◌∷◌, length, map, Option, Some, None, refl, sym, ap, subst, ◌∙◌, inl, inr, arith}
use Rattle.std.specs.Prelude.{min}
use Rattle.hay_needle.specs.declared.settings.Settings.{Settings}
use Rattle.hay_disk.specs.Disk.{Files}
use Rattle.hay_script.specs.declared.Command.TheVariants as command
use Rattle.hay_reply.specs.declared.Reply.{Reply}
use Rattle.hay_reply.specs.declared.Reply.TheVariants as reply
use Rattle.hay_core.specs.declared.entry.CoreTag.{CoreTag}
use Rattle.hay_legal.specs.declared.known.Known.{Known}
use Rattle.hay_legal.specs.declared.known.VolumeKnown.{VolumeKnown}
use Rattle.hay_legal.specs.Known.{Leaves, empty_volume, machine_of, replica_on, volume_at, with_volume}
use Rattle.hay_legal.specs.Plain.{IsAtRest, IsLoose, IsOpen, IsTight, LegalCommand, MayFinish, OnReplica, LegalBegin, LegalCompact, LegalFinish, LegalFlush, LegalStep, RoseTo}
use Rattle.hay_legal.specs.Plain.{SwapFailed, SwapNoMem, Swaps, as_it_is, change_volume, frozen_by, poised, stepped, swapped, with_bare, with_run, with_stuck, without_run}
use Rattle.hay_logical.specs.Answers as answers
use Rattle.hay_logical.specs.Answers.{BeginRefused, CompactRefused, FinishRefused, FlushRefused, StandsFailed, StandsSwapped, StepRefused, change_at, poised_at}
use Rattle.hay_logical.specs.declared.fault.LogicalFault.{LogicalFault}
use Rattle.hay_logical.specs.declared.fault.LogicalFault.TheVariants.{Busy, Failed, Idle, NoMemory, ReadOnly, Worn}
use Rattle.hay_logical.specs.Stands as logical
use Rattle.hay_logical.specs.Volumes.{Volume}
use Rattle.hay_cluster.specs.declared.maintenance.Maintenance.{Maintenance}
use Rattle.hay_cluster.specs.declared.maintenance.Maintenance.TheVariants.{Flush, Begin, Step, Finish, Compact}
use Rattle.hay_cluster.specs.Causes.{IsReplicaCause, RoseAt}
use Rattle.hay_cluster.specs.Changes.{IsReadOnly}
use Rattle.hay_cluster.specs.Maintenance.{IsDone, IsRefused, IsRefusedAs, command_of, done_as}
use Rattle.hay_cluster.specs.Parts.{Comes}
use Rattle.hay_cluster.specs.State.{Answered, Stands}
use Rattle.hay_cluster.specs.Store.{Open, IsVolumeOf, disks_of}
use Rattle.hay_cluster.proofs.Answering.{answered, stays}
use Rattle.hay_cluster.proofs.Changing.{comes_still, replica_machine}
use Rattle.hay_cluster.proofs.Lists.{AllZip-long, set-set, slice_index_or-set}
use Rattle.hay_cluster.proofs.Puts.{rose_to}

-- A VOLUME THAT CHANGES TWICE

changed_twice : (k : Known) (v : ℕ) (volume : VolumeKnown) (f : VolumeKnown → VolumeKnown) → v < length k.volumes → change_volume (with_volume k v volume) v f ≡ with_volume k v (f volume)
changed_twice k v volume f within =
    ap (λ (w : VolumeKnown). with_volume (with_volume k v volume) v (f w)) (slice_index_or-set k.volumes v volume empty_volume within)
    ∙ ap (λ (vs : List VolumeKnown). record k { volumes = vs }) (set-set k.volumes v volume (f volume))

-- A REPLICA WAS ASKED

-- Replica j of v, on machine m, was asked for work, and the volume was one thing before and another behind it.
pub record Asked {D P A : Type 0} (files : D → Files) (Tells : Type 0) (faults fuses : D → ℕ) (arm_faults : A → ℕ) (old new : Open D P A) (k : Known) (v m j : ℕ)
    (before after : Volume D P) : Type 0 where
  pub same : new.settings ≡ old.settings
  pub within : v < (old.settings).volumes
  pub there : replica_on old.settings v m ≡ Some j
  pub stands : Stands files Tells faults fuses arm_faults old k
  pub was : IsVolumeOf old.settings v before
  pub stood : logical.Stands files Tells before (volume_at k v)
  pub comes : (known : VolumeKnown) → logical.Stands files Tells after known → Comes files Tells faults fuses arm_faults k (with_volume k v known) new

-- The store stands at something of which this holds.
pub record Reached {D P A : Type 0} (files : D → Files) (Tells : Type 0) (faults fuses : D → ℕ) (arm_faults : A → ℕ) (store : Open D P A) (Is : Known → Type 0) : Type 0 where
  pub known : Known
  pub is : Is known
  pub stands : Stands files Tells faults fuses arm_faults store known

module _ {D P A : Type 0} (files : D → Files) (Tells : Type 0) (faults fuses : D → ℕ) (arm_faults : A → ℕ) where
  volumes_long : (store : Open D P A) (k : Known) → Stands files Tells faults fuses arm_faults store k → length k.volumes ≡ (store.settings).volumes
  unfolding Stands
  volumes_long store k s = sym (AllZip-long (logical.Stands files Tells) store.volumes k.volumes s.volumes) ∙ (s.shape).many

  module _ (old new : Open D P A) (k : Known) (v m j : ℕ) (before after : Volume D P) (asked : Asked files Tells faults fuses arm_faults old new k v m j before after) where
    machine_is : machine_of before.settings before.number j ≡ m
    machine_is =
        ap (λ (s : Settings). machine_of s before.number j) (asked.was).settings_are ∙ ap (λ n. machine_of old.settings n j) (asked.was).number ∙ replica_machine old.settings v m j asked.there

    known_within : v < length k.volumes
    known_within = subst (λ n. v < n) (sym (volumes_long old k asked.stands)) asked.within

    -- nothing but counts changed
    still : logical.Stands files Tells after (volume_at k v) → Comes files Tells faults fuses arm_faults k k new
    still stands = comes_still files Tells faults fuses arm_faults old new k v asked.stands asked.within (asked.comes (volume_at k v) stands)

    untouched : after ≡ before → Comes files Tells faults fuses arm_faults k k new
    untouched is = still (subst (λ (w : Volume D P). logical.Stands files Tells w (volume_at k v)) (sym is) asked.stood)

    -- a failure of the replica's disk
    risen : (t : Known) (m' f : ℕ) → m' ≡ m → Stands files Tells faults fuses arm_faults new t → RoseAt old.settings v m' (map faults (disks_of old)) (map faults (disks_of new)) f
        → RoseTo old.settings k v j f t
    risen t m' f is stands cause =
        let rose = rose_to files Tells faults fuses arm_faults old new old.settings k t v m' f asked.stands stands cause in
        let found : Some rose.0 ≡ Some j = sym rose.1 ∙ ap (λ n. replica_on old.settings v n) is ∙ asked.there in
        let one : rose.0 ≡ j = cc in
        subst (λ i. RoseTo old.settings k v i f t) one rose.2

    -- what the files of the replica became
    swaps : (Sizes : VolumeKnown → ℕ → ℕ → ℕ → Type 0) (besides : VolumeKnown → VolumeKnown) → StandsSwapped files Tells Sizes besides (volume_at k v) j after
        → Reached files Tells faults fuses arm_faults new (λ t. Swaps (λ known u i end cells. Sizes (volume_at known u) i end cells) besides k v j t)
    swaps Sizes besides (end, cells, sizes, stands) =
        let now : VolumeKnown = change_at (volume_at k v) j (swapped end cells) in
        let came = asked.comes (besides now) stands in
        record {
          known = came.known;
          is = (end, cells, sizes, subst (λ (e : Known). Leaves k e came.known) (sym (changed_twice k v now besides known_within)) came.leaves);
          stands = came.stands;
        }

    failed : (m' : ℕ) → m' ≡ m → StandsFailed files Tells m' (volume_at k v) j after → Reached files Tells faults fuses arm_faults new (λ t. SwapFailed m k v j t)
    failed m' is (inl stands) =
        let came = asked.comes (change_at (volume_at k v) j without_run) stands in
        record { known = came.known; is = inl came.leaves; stands = came.stands }
    failed m' is (inr stands) =
        let came = asked.comes (poised_at m (volume_at k v) j) (subst (λ n. logical.Stands files Tells after (poised_at n (volume_at k v) j)) is stands) in
        let twice = changed_twice k v (frozen_by m (volume_at k v)) (λ volume. change_at volume j poised) known_within in
        record { known = came.known; is = inr (subst (λ (e : Known). Leaves k e came.known) (sym twice) came.leaves); stands = came.stands }

    -- memory was wanting to swap, and the run is gone
    gave_up : (Ready : Known → ℕ → ℕ → Type 0) (Sizes : Known → ℕ → ℕ → ℕ → ℕ → Type 0) → IsOpen k v → Ready k v j → logical.Stands files Tells after (change_at (volume_at k v) j without_run)
        → Reached files Tells faults fuses arm_faults new (λ t. SwapNoMem old.settings Ready Sizes k v j t)
    gave_up Ready Sizes thawed ready stands =
        let came = asked.comes (change_at (volume_at k v) j without_run) stands in
        record { known = came.known; is = inr (thawed, ready, inl came.leaves); stands = came.stands }

    -- an answer that is legal for the replica
    told_by : (tag : CoreTag) (work : Maintenance) (r answer : Reply) (t : Known) → answer ≡ r → LegalCommand old.settings k tag (command_of work v m) r t
        → Stands files Tells faults fuses arm_faults new t
        → Answered files Tells faults fuses arm_faults k tag (command_of work v m) answer new
    told_by tag work r answer t is h stands =
        subst (λ (a : Reply). Answered files Tells faults fuses arm_faults k tag (command_of work v m) a new) (sym is)
        (answered files Tells faults fuses arm_faults new old.settings k t tag (command_of work v m) r asked.same h stands)

    found_here : (Legal : ℕ → Reply → Known → Type 0) (r : Reply) (t : Known) → Legal j r t → OnReplica k (replica_on old.settings v m) Legal r t
    found_here Legal r t h = subst (λ (o : Option ℕ). OnReplica k o Legal r t) (sym asked.there) h

    -- refused by this machine, if there is memory to say so
    told_closed : (tag : CoreTag) (work : Maintenance) (Legal : ℕ → Reply → Known → Type 0) (m' : ℕ) (answer : Reply) (t : Known)
        → ((r : Reply) → OnReplica k (replica_on old.settings v m) Legal r t → LegalCommand old.settings k tag (command_of work v m) r t)
        → IsReadOnly v m' answer → Legal j (reply.ReadOnly (record { volume = v; machine = m' } ∷ [])) t → Legal j reply.NoMem t → Stands files Tells faults fuses arm_faults new t
        → Answered files Tells faults fuses arm_faults k tag (command_of work v m) answer new
    told_closed tag work Legal m' answer t so (inl is) closed no_memory stands =
        told_by tag work (reply.ReadOnly (record { volume = v; machine = m' } ∷ [])) answer t is (so _ (found_here Legal _ t closed)) stands
    told_closed tag work Legal m' answer t so (inr is) closed no_memory stands =
        told_by tag work reply.NoMem answer t is (so _ (found_here Legal _ t no_memory)) stands

    -- WORK THAT WAS DONE

    pub maintained : (tag : CoreTag) (work : Maintenance) (n : ℕ) → IsDone files Tells work (volume_at k v) j n after
        → Answered files Tells faults fuses arm_faults k tag (command_of work v m) (done_as v m work n) new
    maintained tag Flush n done =
        let came = asked.comes (change_at (volume_at k v) j (with_bare 0)) done.stands in
        told_by tag Flush (reply.Flushed v m n) _ came.known refl
        (found_here (LegalFlush old.settings k v m) _ came.known ((refl, refl), done.thawed, done.loose, done.number, came.leaves)) came.stands
    maintained tag Begin n done =
        let came = asked.comes _ done.stands in
        told_by tag Begin (reply.Begun v m n) _ came.known refl
        (found_here (LegalBegin old.settings k v m) _ came.known ((refl, refl), done.thawed, done.rest, done.next, came.leaves)) came.stands
    maintained tag (Step cells) n done =
        let came = asked.comes (change_at (volume_at k v) j (with_run (stepped n done.run))) done.stands in
        told_by tag (Step cells) (reply.Stepped v m n) _ came.known refl
        (found_here (λ i. LegalStep old.settings k v m i cells) _ came.known ((refl, refl), done.thawed, (done.run, done.stood, done.number, came.leaves))) came.stands
    maintained tag Finish n done =
        let reached = swaps answers.IsLoose as_it_is done.swaps in
        told_by tag Finish (reply.Compacted v m n) _ reached.known refl
        (found_here (LegalFinish old.settings k v m) _ reached.known ((refl, refl), done.thawed, done.stood, done.next, reached.is)) reached.stands
    maintained tag Compact n done =
        let reached = swaps answers.IsTight as_it_is done.swaps in
        told_by tag Compact (reply.Compacted v m n) _ reached.known refl
        (found_here (LegalCompact old.settings k v m) _ reached.known ((refl, refl), done.thawed, done.rest, done.next, reached.is)) reached.stands

    -- WORK THAT WAS REFUSED

    not_flushed : (tag : CoreTag) (fault : LogicalFault) (answer : Reply) → IsReplicaCause old.settings Flush v j (map faults (disks_of old)) (map faults (disks_of new)) fault
        → FlushRefused files Tells (volume_at k v) j before after fault → IsRefusedAs v m fault answer → Answered files Tells faults fuses arm_faults k tag (command.Flush v m) answer new
    not_flushed tag (ReadOnly m') answer cause refused told =
        let came = untouched refused.1 in
        told_closed tag Flush (LegalFlush old.settings k v m) m' answer came.known (λ r h. h) told
        ((elim refused.0 [ inl frozen ↦ inl (refl, frozen) | inr stuck ↦ inr ((refl, stuck.2 ∙ machine_is), stuck.0, stuck.1) ]), came.leaves) came.leaves came.stands
    not_flushed tag (Failed m' f) answer cause refused told =
        let came = asked.comes (change_at (volume_at k v) j with_stuck) refused.3 in
        let here : m' ≡ m = refused.2 ∙ machine_is in
        told_by tag Flush (reply.Failed v m' f) answer came.known told
        (found_here (LegalFlush old.settings k v m) _ came.known ((refl, here), refused.0, refused.1, risen came.known m' f here came.stands cause.1, came.leaves)) came.stands
    not_flushed tag NoMemory answer cause refused told =
        let came = still refused.2 in
        told_by tag Flush reply.NoMem answer came.known told (found_here (LegalFlush old.settings k v m) _ came.known came.leaves) came.stands
    not_flushed tag _ answer cause refused told = absurd refused

    not_begun : (tag : CoreTag) (fault : LogicalFault) (answer : Reply) → IsReplicaCause old.settings Begin v j (map faults (disks_of old)) (map faults (disks_of new)) fault
        → BeginRefused files Tells (volume_at k v) j before after fault → IsRefusedAs v m fault answer → Answered files Tells faults fuses arm_faults k tag (command.Begin v m) answer new
    not_begun tag (ReadOnly m') answer cause refused told =
        let came = untouched refused.1 in
        told_closed tag Begin (LegalBegin old.settings k v m) m' answer came.known (λ r h. h) told ((refl, refused.0), came.leaves) came.leaves came.stands
    not_begun tag (Busy m' g) answer cause refused told =
        let came = untouched refused.3 in
        told_by tag Begin (reply.Busy v m' g) answer came.known told
        (found_here (LegalBegin old.settings k v m) _ came.known ((refl, refused.1 ∙ machine_is), refused.0, refused.2, came.leaves)) came.stands
    not_begun tag (Worn m') answer cause refused told =
        let came = untouched refused.4 in
        told_by tag Begin (reply.Worn v m') answer came.known told
        (found_here (LegalBegin old.settings k v m) _ came.known ((refl, refused.1 ∙ machine_is), refused.0, (refused.2, refused.3), came.leaves)) came.stands
    not_begun tag (Failed m' f) answer cause refused told =
        let came = still refused.3 in
        let here : m' ≡ m = refused.1 ∙ machine_is in
        told_by tag Begin (reply.Failed v m' f) answer came.known told
        (found_here (LegalBegin old.settings k v m) _ came.known ((refl, here), refused.0, refused.2, risen came.known m' f here came.stands cause.1, came.leaves)) came.stands
    not_begun tag NoMemory answer cause refused told =
        let came = still refused.2 in
        told_by tag Begin reply.NoMem answer came.known told (found_here (LegalBegin old.settings k v m) _ came.known came.leaves) came.stands
    not_begun tag _ answer cause refused told = absurd refused

    not_stepped : (tag : CoreTag) (cells : ℕ) (fault : LogicalFault) (answer : Reply) → IsReplicaCause old.settings (Step cells) v j (map faults (disks_of old)) (map faults (disks_of new)) fault
        → StepRefused files Tells (volume_at k v) j cells before after fault → IsRefusedAs v m fault answer → Answered files Tells faults fuses arm_faults k tag (command.Step v m cells) answer new
    not_stepped tag cells (ReadOnly m') answer cause refused told =
        let came = untouched refused.1 in
        told_closed tag (Step cells) (λ i. LegalStep old.settings k v m i cells) m' answer came.known (λ r h. h) told ((refl, refused.0), came.leaves) (inl came.leaves) came.stands
    not_stepped tag cells Idle answer cause refused told =
        let came = untouched refused.2 in
        told_by tag (Step cells) (reply.Idle v m) answer came.known told
        (found_here (λ i. LegalStep old.settings k v m i cells) _ came.known ((refl, refl), refused.0, refused.1, came.leaves)) came.stands
    not_stepped tag cells (Failed m' f) answer cause refused told =
        let came = asked.comes (change_at (volume_at k v) j without_run) refused.3 in
        let here : m' ≡ m = refused.1 ∙ machine_is in
        told_by tag (Step cells) (reply.Failed v m' f) answer came.known told
        (found_here (λ i. LegalStep old.settings k v m i cells) _ came.known ((refl, here), refused.0, refused.2, risen came.known m' f here came.stands cause.1, came.leaves)) came.stands
    not_stepped tag cells NoMemory answer cause (thawed, (run, n, stood, few, stands)) told =
        let came = asked.comes (change_at (volume_at k v) j (with_run (stepped n run))) stands in
        told_by tag (Step cells) reply.NoMem answer came.known told
        (found_here (λ i. LegalStep old.settings k v m i cells) _ came.known (inr (thawed, run, n, stood, (let most : n ≤ min cells run.left = omega (arith, few) in most), came.leaves))) came.stands
    not_stepped tag cells _ answer cause refused told = absurd refused

    not_finished : (tag : CoreTag) (fault : LogicalFault) (answer : Reply) → IsReplicaCause old.settings Finish v j (map faults (disks_of old)) (map faults (disks_of new)) fault
        → FinishRefused files Tells (volume_at k v) j before after fault → IsRefusedAs v m fault answer → Answered files Tells faults fuses arm_faults k tag (command.Finish v m) answer new
    not_finished tag (ReadOnly m') answer cause refused told =
        let came = untouched refused.1 in
        told_closed tag Finish (LegalFinish old.settings k v m) m' answer came.known (λ r h. h) told ((refl, refused.0), came.leaves) (inl came.leaves) came.stands
    not_finished tag Idle answer cause refused told =
        let came = untouched refused.2 in
        told_by tag Finish (reply.Idle v m) answer came.known told
        (found_here (LegalFinish old.settings k v m) _ came.known ((refl, refl), refused.0, refused.1, came.leaves)) came.stands
    not_finished tag (Failed m' f) answer cause refused told =
        let here : m' ≡ m = refused.1 ∙ machine_is in
        let reached = failed m' here refused.3 in
        told_by tag Finish (reply.Failed v m' f) answer reached.known told
        (found_here (LegalFinish old.settings k v m) _ reached.known ((refl, here), refused.0, refused.2, risen reached.known m' f here reached.stands cause.1, reached.is)) reached.stands
    not_finished tag NoMemory answer cause refused told =
        let reached = gave_up MayFinish IsLoose refused.0 refused.1 refused.2 in
        told_by tag Finish reply.NoMem answer reached.known told (found_here (LegalFinish old.settings k v m) _ reached.known reached.is) reached.stands
    not_finished tag _ answer cause refused told = absurd refused

    not_compacted : (tag : CoreTag) (fault : LogicalFault) (answer : Reply) → IsReplicaCause old.settings Compact v j (map faults (disks_of old)) (map faults (disks_of new)) fault
        → CompactRefused files Tells (volume_at k v) j before after fault → IsRefusedAs v m fault answer → Answered files Tells faults fuses arm_faults k tag (command.Compact v m) answer new
    not_compacted tag (ReadOnly m') answer cause refused told =
        let came = untouched refused.1 in
        told_closed tag Compact (LegalCompact old.settings k v m) m' answer came.known (λ r h. h) told ((refl, refused.0), came.leaves) (inl came.leaves) came.stands
    not_compacted tag (Busy m' g) answer cause refused told =
        let came = still refused.3 in
        told_by tag Compact (reply.Busy v m' g) answer came.known told
        (found_here (LegalCompact old.settings k v m) _ came.known ((refl, refused.1 ∙ machine_is), refused.0, refused.2, came.leaves)) came.stands
    not_compacted tag (Worn m') answer cause refused told =
        let came = still refused.4 in
        told_by tag Compact (reply.Worn v m') answer came.known told
        (found_here (LegalCompact old.settings k v m) _ came.known ((refl, refused.1 ∙ machine_is), refused.0, (refused.2, refused.3), came.leaves)) came.stands
    not_compacted tag (Failed m' f) answer cause refused told =
        let here : m' ≡ m = refused.1 ∙ machine_is in
        let reached = failed m' here refused.3 in
        told_by tag Compact (reply.Failed v m' f) answer reached.known told
        (found_here (LegalCompact old.settings k v m) _ reached.known ((refl, here), refused.0, refused.2, risen reached.known m' f here reached.stands cause.1, reached.is)) reached.stands
    not_compacted tag NoMemory answer cause refused told =
        let reached = gave_up IsAtRest IsTight refused.0 refused.1 refused.2 in
        told_by tag Compact reply.NoMem answer reached.known told (found_here (LegalCompact old.settings k v m) _ reached.known reached.is) reached.stands
    not_compacted tag _ answer cause refused told = absurd refused

    pub not_maintained : (tag : CoreTag) (work : Maintenance) (fault : LogicalFault) (answer : Reply)
        → IsReplicaCause old.settings work v j (map faults (disks_of old)) (map faults (disks_of new)) fault
        → IsRefused files Tells work (volume_at k v) j before after fault → IsRefusedAs v m fault answer → Answered files Tells faults fuses arm_faults k tag (command_of work v m) answer new
    not_maintained tag Flush fault answer cause refused told = not_flushed tag fault answer cause refused told
    not_maintained tag Begin fault answer cause refused told = not_begun tag fault answer cause refused told
    not_maintained tag (Step cells) fault answer cause refused told = not_stepped tag cells fault answer cause refused told
    not_maintained tag Finish fault answer cause refused told = not_finished tag fault answer cause refused told
    not_maintained tag Compact fault answer cause refused told = not_compacted tag fault answer cause refused told

-- A REPLICA THAT THERE IS NOT

module _ {D P A : Type 0} (files : D → Files) (Tells : Type 0) (faults fuses : D → ℕ) (arm_faults : A → ℕ) where
  pub nowhere : (store : Open D P A) (k : Known) (v m : ℕ) (tag : CoreTag) (work : Maintenance) → replica_on store.settings v m ≡ None → Stands files Tells faults fuses arm_faults store k
      → Answered files Tells faults fuses arm_faults k tag (command_of work v m) reply.Nowhere store
  nowhere store k v m tag work none stands =
      answered files Tells faults fuses arm_faults store store.settings k k tag (command_of work v m) reply.Nowhere refl (at work) stands
    where
      none_here : (Legal : ℕ → Reply → Known → Type 0) → OnReplica k (replica_on store.settings v m) Legal reply.Nowhere k
      none_here Legal = subst (λ (o : Option ℕ). OnReplica k o Legal reply.Nowhere k) (sym none) (stays k)

      at : (asked : Maintenance) → LegalCommand store.settings k tag (command_of asked v m) reply.Nowhere k
      at Flush = none_here (LegalFlush store.settings k v m)
      at Begin = none_here (LegalBegin store.settings k v m)
      at (Step cells) = none_here (λ i. LegalStep store.settings k v m i cells)
      at Finish = none_here (LegalFinish store.settings k v m)
      at Compact = none_here (LegalCompact store.settings k v m)
