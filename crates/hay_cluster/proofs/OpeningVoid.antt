-- What is left of the disks of a store that was opened, or was not.
use Rattle.std.proofs.Common.{◌≡◌, ℕ, zero, suc, ◌+◌, ◌<◌, ◌⊎◌, inl, inr, Bool, List, [], ◌∷◌, length, Some, refl, sym, ap, subst, ◌∙◌, arith}
use Rattle.std.proofs.lemmas.Option.{same_Some}
use Rattle.std.specs.Prelude.{slice_get}
use Rattle.hay_needle.specs.declared.settings.Settings.{Settings}
use Rattle.hay_needle.specs.declared.settings.Super.{Super}
use Rattle.hay_disk.specs.Disk.{Files, IsImage, MayLeave}
use Rattle.hay_disk.specs.Shelf.{HeldArm, HeldDisk}
use Rattle.hay_disk.proofs.Images.{solid_whole}
use Rattle.hay_mount.specs.Mounts.{InOrder, IsGivenDisk, IsMountedDisk}
use Rattle.hay_open.specs.Stored.{OpensAs, Stored, fresh_stored}
use Rattle.hay_reply.specs.declared.Note.{Note}
use Rattle.hay_legal.specs.Known.{disk_count, empty_replica, slot_of}
use Rattle.hay_legal.specs.Stands.{Contents, Found, found_of}
use Rattle.hay_legal.specs.Statuses.{FindsNothing}
use Rattle.hay_directory.specs.Rows.{OpensRows}
use Rattle.hay_logical.specs.Fits.{IsReplica, found_as, super_of}
use Rattle.hay_cluster.specs.Opening.{LeavesVolume, OpensParts}
use Rattle.hay_cluster.specs.Outside.{FormatsVoid, IsKept, KeepsContents, read_of}
use Rattle.hay_cluster.specs.Store.{IsShaped, Open, contents_in, disks_of}
use Rattle.hay_cluster.proofs.ClosingStore.{contents_at, order_get, order_item, order_self}
use Rattle.hay_cluster.proofs.Formatted.{opened_formatted}
use Rattle.hay_cluster.proofs.Moves.{volume_of}
use Rattle.hay_cluster.proofs.OpeningDamage.{contents_kept, slot_found, zip_get}
use Rattle.hay_cluster.proofs.OpeningStore.{MovedParts, shape_moved}
use Rattle.hay_cluster.proofs.OpeningTaken.{IsTaken, KeepsBytes, disks_keep, in_volume, taken_contents, taken_disk}

void_or : (l : List ℕ) → (l ≡ []) ⊎ (l ≡ [] → ⊥)
void_or [] = inl refl
void_or (byte ∷ bytes) = inr (λ is. absurd cc)

-- a replica of which only what was just formatted is found is a new one
stored_new : (settings : Settings) (v j : ℕ) (sup : Super) (contents : Contents) (found : Found) → sup ≡ super_of settings v j
    → ((s : Stored) → OpensAs sup contents s → s ≡ fresh_stored) → IsReplica settings v j contents found
    → found ≡ found_of empty_replica
unfolding IsReplica
stored_new settings v j sup contents found same fresh is = is.is ∙ ap found_as (fresh is.stored (subst (λ (u : Super). OpensAs u contents is.stored) (sym same) is.opens))

module _ {D : Type 0} (DiskTells : Type 0) (files : D → Files) (faults fuses : D → ℕ) where
  one_kept : (drawn : D → ℕ → ℕ) → DiskTells → (slot : ℕ) (held held' : HeldDisk) (d d' : D) → IsMountedDisk DiskTells files drawn faults fuses held d
      → IsGivenDisk DiskTells files drawn faults fuses held' d' → KeepsBytes files d d'
      → ((files d 0).now ≡ [] → (image : Contents) → MayLeave (files d') image → (other : Settings) → FindsNothing (IsReplica other) (OpensRows other) other slot image) → IsKept slot held held'
  one_kept drawn tells slot held held' d d' taken given keeps nothing = elim (void_or ((held.files 0).now)) [
    | inl void ↦ inl (record {
      void = void;
      nothing = λ image may. nothing (taken.now tells 0 ∙ void) image (subst (λ (f : Files). MayLeave f image) (given.files_are tells) may);
    })
    | inr some ↦ inr (inr (λ image may n.
        let k = keeps (λ none. some (sym (taken.now tells 0) ∙ none)) n in
        solid_whole (files d' n) (image n) (k.1 (taken.solid tells n)) (subst (λ (f : Files). IsImage (f n) (image n)) (given.files_are tells) (may n)) ∙ k.0 ∙ taken.now tells n))
  ]

module _ {D P A : Type 0} (DiskTells : Type 0) (files : D → Files) (Tells : Type 0) (faults fuses : D → ℕ) (arm_faults : A → ℕ) where
  replica_left : DiskTells → (old new : Open D P A) → IsShaped old → MovedParts DiskTells files Tells faults fuses arm_faults old new → (v j : ℕ) (d d' : D)
      → v < (old.settings).volumes → j < (old.settings).replicas
      → slice_get (disks_of old) (slot_of old.settings v j) ≡ Some d → slice_get (disks_of new) (slot_of old.settings v j) ≡ Some d' → (files d 0).now ≡ []
      → (image : Contents) → MayLeave (files d') image → (sup : Super) (s : Stored) → OpensAs sup image s → s ≡ fresh_stored
  replica_left tells old new shape m v j d d' volume replica at at' void image may sup s opens =
      let shape' = shape_moved DiskTells files Tells faults fuses arm_faults old new shape m in
      let x = order_item old.volumes v (let many = shape.many in let less : v < length old.volumes = omega (arith, volume, many) in less) in
      let y = zip_get (LeavesVolume DiskTells files Tells faults fuses) old.volumes new.volumes v x.0 x.1 m.volumes in
      let of = volume_of old v x.0 shape x.1 in
      let many : length (x.0).replicas ≡ (old.settings).replicas = of.all ∙ ap (λ (s : Settings). s.replicas) of.settings_are in
      let count : length (y.0).replicas ≡ length (x.0).replicas = (y.2).counts.count in
      let r = order_item (x.0).replicas j (let less : j < length (x.0).replicas = omega (arith, replica, many) in less) in
      let r' = order_item (y.0).replicas j (let less : j < length (y.0).replicas = omega (arith, replica, many, count) in less) in
      let there : slice_get (disks_of old) (slot_of old.settings v j) ≡ Some (r.0).disk =
      in_volume (λ n disk. slice_get (disks_of old) n ≡ Some disk) old v j x.0 r.0 shape x.1 r.1 (order_self (disks_of old)) in
      let there' : slice_get (disks_of new) (slot_of old.settings v j) ≡ Some (r'.0).disk =
      subst (λ (s : Settings). slice_get (disks_of new) (slot_of s v j) ≡ Some (r'.0).disk) m.settings
      (in_volume (λ n disk. slice_get (disks_of new) n ≡ Some disk) new v j y.0 r'.0 shape' y.1 r'.1 (order_self (disks_of new))) in
      let was : (r.0).disk ≡ d = same_Some (r.0).disk d (sym there ∙ at) in
      let now : d' ≡ (r'.0).disk = same_Some d' (r'.0).disk (sym at' ∙ there') in
      let keeps = (y.2).kept tells j r.0 r'.0 r.1 r'.1 in
      keeps.nothing (ap (λ (e : D). (files e 0).now) was ∙ void) image (subst (λ (e : D). MayLeave (files e) image) now may) sup s opens

  -- whatever a stop leaves of a disk that was void, an opening finds nothing in its slot
  void_left : DiskTells → (old new : Open D P A) → IsShaped old → MovedParts DiskTells files Tells faults fuses arm_faults old new → (slot : ℕ) (d d' : D) → slot < disk_count old.settings
      → slice_get (disks_of old) slot ≡ Some d → slice_get (disks_of new) slot ≡ Some d' → (files d 0).now ≡ []
      → (image : Contents) → MayLeave (files d') image → (other : Settings) → FindsNothing (IsReplica other) (OpensRows other) other slot image
  void_left tells old new shape m zero d d' within at at' void image may other =
      let was : (old.directory).disk ≡ d = cc in
      let now : d' ≡ (new.directory).disk = cc in
      record {
        directory = λ zeroth homes opens. m.directory.nothing tells (ap (λ (e : D). (files e 0).now) was ∙ void) image homes other (subst (λ (e : D). IsImage (files e 0) (image 0)) now (may 0)) opens;
        replicas = λ v j volume replica place. absurd (omega (arith, place));
      }
  void_left tells old new shape m (suc n) d d' within at at' void image may other =
      let p = slot_found old.settings n (shape.built).some_replicas within in
      record {
        directory = λ zeroth. absurd (omega (arith, zeroth));
        replicas = λ v j volume replica place found is.
            stored_new other v j (super_of other v j) image found refl
            (replica_left tells old new shape m p.0 p.1 d d' p.2 p.3 (subst (λ slot. slice_get (disks_of old) slot ≡ Some d) (sym p.4) at)
            (subst (λ slot. slice_get (disks_of new) slot ≡ Some d') (sym p.4) at') void image may (super_of other v j)) is;
      }

  module _ (drawn : D → ℕ → ℕ) (sure : A → Bool) (disks : ℕ → HeldDisk) (arms : ℕ → HeldArm) where
    kept_in : DiskTells → (old new : Open D P A) (after : ℕ → HeldDisk) → IsTaken DiskTells files Tells faults fuses arm_faults drawn sure disks arms old
        → MovedParts DiskTells files Tells faults fuses arm_faults old new
        → InOrder (λ slot disk. IsGivenDisk DiskTells files drawn faults fuses (after slot) disk) 0 (disks_of new) → (slot : ℕ) → slot < disk_count old.settings → IsKept slot (disks slot) (after slot)
    kept_in tells old new after t m given slot below =
        let i = taken_disk DiskTells files Tells faults fuses arm_faults drawn sure disks arms old t slot below in
        let k = zip_get (KeepsBytes files) (disks_of old) (disks_of new) slot i.0 i.1 (disks_keep DiskTells files Tells faults fuses arm_faults tells old new m) in
        let place : slot ≡ 0 + slot = omega arith in
        one_kept DiskTells files faults fuses drawn tells slot (disks slot) (after slot) i.0 k.0 i.2
        (order_get (λ n disk. IsGivenDisk DiskTells files drawn faults fuses (after n) disk) 0 (disks_of new) slot slot k.0 place k.1 given) k.2
        (void_left tells old new t.shape m slot i.0 k.0 below i.1 k.1)

    pub back_kept : DiskTells → (settings : Settings) (old new : Open D P A) (after : ℕ → HeldDisk) → old.settings ≡ settings
        → IsTaken DiskTells files Tells faults fuses arm_faults drawn sure disks arms old
        → MovedParts DiskTells files Tells faults fuses arm_faults old new → InOrder (λ slot disk. IsGivenDisk DiskTells files drawn faults fuses (after slot) disk) 0 (disks_of new)
        → (slot : ℕ) → slot < disk_count settings → IsKept slot (disks slot) (after slot)
    back_kept tells settings old new after same t m given slot below =
        kept_in tells old new after t m given slot (subst (λ (s : Settings). slot < disk_count s) (sym same) below)

    -- each disk that was void was formatted
    pub formats_void : (tells : DiskTells) → ((disk : D) (n : ℕ) → IsImage (files disk n) (files disk n).now) → (settings : Settings) (old new : Open D P A) (notes : List Note)
        → old.settings ≡ settings
        → IsTaken DiskTells files Tells faults fuses arm_faults drawn sure disks arms old → MovedParts DiskTells files Tells faults fuses arm_faults old new
        → OpensParts DiskTells files Tells faults fuses old.directory new.directory old.volumes new.volumes notes → FormatsVoid settings (λ slot. read_of (disks slot)) (contents_in files new)
    formats_void tells now settings old new notes same t m opens slot below void =
        let shape' = shape_moved DiskTells files Tells faults fuses arm_faults old new t.shape m in
        let less : slot < disk_count old.settings = subst (λ (s : Settings). slot < disk_count s) (sym same) below in
        let less' : slot < disk_count new.settings = subst (λ (s : Settings). slot < disk_count s) (sym m.settings) less in
        let i = taken_disk DiskTells files Tells faults fuses arm_faults drawn sure disks arms old t slot less in
        let k = zip_get (KeepsBytes files) (disks_of old) (disks_of new) slot i.0 i.1 (disks_keep DiskTells files Tells faults fuses arm_faults tells old new m) in
        let reads : contents_in files new slot ≡ (λ n. (files k.0 n).now) = contents_at files new slot k.0 k.1 in
        let nothing = void_left tells old new t.shape m slot i.0 k.0 less i.1 k.1 ((i.2).now tells 0 ∙ void) (λ n. (files k.0 n).now) (λ n. now k.0 n) settings in (
          opened_formatted files now DiskTells Tells faults fuses tells old new notes t.fresh shape' opens slot less',
          subst (λ (c : Contents). FindsNothing (IsReplica settings) (OpensRows settings) settings slot c) (sym reads) nothing,
        )

    -- each disk that was not void has what it had
    pub contents_stay : DiskTells → (settings : Settings) (old new : Open D P A) → old.settings ≡ settings → IsTaken DiskTells files Tells faults fuses arm_faults drawn sure disks arms old
        → MovedParts DiskTells files Tells faults fuses arm_faults old new → KeepsContents settings (λ slot. read_of (disks slot)) (contents_in files new)
    contents_stay tells settings old new same t m slot file below some =
        let less : slot < disk_count old.settings = subst (λ (s : Settings). slot < disk_count s) (sym same) below in
        let was = taken_contents DiskTells files Tells faults fuses arm_faults drawn sure disks arms tells old t slot less in
        let void : contents_in files old slot 0 ≡ [] → ⊥ = λ none. some (ap (λ (contents : Contents). contents 0) (sym was) ∙ none) in
        ap (λ (contents : Contents). contents file) (contents_kept DiskTells files Tells faults fuses arm_faults tells old new t.shape m slot less void ∙ was)

    -- and so it has where it is given back
    pub back_contents : (settings : Settings) (new : Open D P A) (after : ℕ → HeldDisk) → ((slot : ℕ) → slot < disk_count settings → read_of (after slot) ≡ contents_in files new slot)
        → KeepsContents settings (λ slot. read_of (disks slot)) (contents_in files new) → KeepsContents settings (λ slot. read_of (disks slot)) (λ slot. read_of (after slot))
    back_contents settings new after given keeps slot file below some =
        ap (λ (contents : Contents). contents file) (given slot below) ∙ keeps slot file below some
