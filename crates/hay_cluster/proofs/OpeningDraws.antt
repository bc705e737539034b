-- How little the openings of a store read of its volume files.
use Rattle.std.proofs.Common.{◌≡◌, ℕ, zero, suc, ◌+◌, ◌<◌, ◌≤◌, ◌^◌, Bool, false, List, [], ◌∷◌, length, Some, None, sym, ap, subst, ◌∙◌, arith}
use Rattle.std.proofs.Math.Path.{fun_ext}
use Rattle.std.specs.Prelude.{Option, slice_get}
use Rattle.std.proofs.lemmas.Option.{slice_get_within}
use Rattle.std.specs.List.{AllZip}
use Rattle.std.specs.Option.{option_map_or}
use Rattle.hay_needle.specs.declared.needle.Pair.{Pair}
use Rattle.hay_needle.specs.declared.settings.Settings.{Settings}
use Rattle.hay_needle.specs.declared.settings.Super.{Super}
use Rattle.hay_disk.specs.Disk.{Files}
use Rattle.hay_disk.specs.Shelf.{HeldArm, HeldDisk}
use Rattle.hay_mount.specs.Mounts.{IsMountedDisk}
use Rattle.hay_open.specs.Stored.{volume_file}
use Rattle.hay_legal.specs.declared.known.Known.{Known}
use Rattle.hay_legal.specs.declared.known.ReplicaKnown.{ReplicaKnown}
use Rattle.hay_legal.specs.declared.known.VolumeKnown.{VolumeKnown}
use Rattle.hay_legal.specs.Known.{FaultsRose, empty_replica, empty_volume, replica_at, slot_of, volume_at}
use Rattle.hay_legal.specs.Stands.{Contents}
use Rattle.hay_legal.specs.Statuses.{IsNew, IsNewVolume, IsUntouched}
use Rattle.hay_physical.specs.OpenCopies.{Copy, contents_of, is_stuck}
use Rattle.hay_physical.specs.Draws.{DrewLittle}
use Rattle.hay_physical.proofs.Drawing.{flushed_draws, stands_stored}
use Rattle.hay_logical.specs.declared.unsure.Unsure.{Unsure}
use Rattle.hay_logical.specs.Draws.{looked_pair}
use Rattle.hay_logical.specs.Fits.{At, super_of}
use Rattle.hay_logical.specs.Stands as logical
use Rattle.hay_logical.specs.Volumes.{Volume}
use Rattle.hay_logical.proofs.Lists.{at_or, at_same}
use Rattle.hay_cluster.specs.Draws.{DrawsVolume, EachDrewLittle, FlushedDrewLittle, StopsDrawing, drawn_in, looked_in, no_look, none_drawn}
use Rattle.hay_cluster.specs.Opening.{Gathers}
use Rattle.hay_cluster.specs.State.{Stands}
use Rattle.hay_cluster.specs.Store.{IsShaped, Open, contents_in, disks_of}
use Rattle.hay_cluster.proofs.ClosingStore.{contents_at, order_item, order_self}
use Rattle.hay_cluster.proofs.Lists.{AllByRecursion-at, AllZip-long}
use Rattle.hay_cluster.proofs.Moves.{volume_of}
use Rattle.hay_cluster.proofs.OpeningDamage.{superblock, zip_get}
use Rattle.hay_cluster.proofs.OpeningLists.{Gathered, GathersFirst}
use Rattle.hay_cluster.proofs.OpeningTaken.{IsTaken, in_volume}

-- OF WHAT EACH ITEM DID, A PART

module _ {X Y : Type 0} (R S : X → X → List Y → Type 0) (less : (x y : X) (more : List Y) → R x y more → S x y more) where
  first_less : (n : ℕ) (xs ys : List X) (all : List Y) → GathersFirst R n xs ys all → GathersFirst S n xs ys all
  first_less zero xs ys all g = g
  first_less (suc n) [] ys all g = absurd g
  first_less (suc n) (x ∷ xs) [] all g = absurd g
  first_less (suc n) (x ∷ xs) (y ∷ ys) all g = record { front = g.front; behind = g.behind; parts = g.parts; first = less x y g.front g.first; rest = first_less n xs ys g.behind g.rest }

  pub gathered_less : (n : ℕ) (xs ys : List X) (all : List Y) → Gathered R n xs ys all → Gathered S n xs ys all
  gathered_less n xs ys all g = record { first = first_less n xs ys all g.first }

  pub gathers_less : (xs ys : List X) (all : List Y) → Gathers R xs ys all → Gathers S xs ys all
  gathers_less [] [] all g = g
  gathers_less [] (y ∷ ys) all g = absurd g
  gathers_less (x ∷ xs) [] all g = absurd g
  gathers_less (x ∷ xs) (y ∷ ys) all g = record { front = g.front; behind = g.behind; parts = g.parts; first = less x y g.front g.first; rest = gathers_less xs ys g.behind g.rest }

-- where something is told, each did so
pub zip_told : {X : Type 0} (Tells : Type 0) (R : X → X → Type 0) (xs ys : List X) → Tells → AllZip (λ x y. Tells → R x y) xs ys → AllZip R xs ys
zip_told Tells R [] [] tells all = tt
zip_told Tells R [] (y ∷ ys) tells all = absurd all
zip_told Tells R (x ∷ xs) [] tells all = absurd all
zip_told Tells R (x ∷ xs) (y ∷ ys) tells all = (all.0 tells, zip_told Tells R xs ys tells all.1)

module _ {D P : Type 0} (files : D → Files) (drawn : D → ℕ → ℕ) (Tells : Type 0) (fits : (disk : D) (n : ℕ) → length (files disk n).now < 2 ^ 64) where
  -- a replica whose index has all records
  replica_flushed : (before : ℕ → ℕ) (sup : Super) (settings : Settings) (volume : Volume D P) (k : VolumeKnown) (j : ℕ) (r : Copy D) → r.sup ≡ sup → IsNewVolume settings k
      → j < length k.replicas → (replica_at k j).bare ≡ 0
      → logical.Stands files Tells volume k → At volume.replicas j r → DrewLittle sup (contents_of files r.disk) None before (drawn r.disk)
      → drawn r.disk (volume_file (replica_at k j).generation) ≤ before (volume_file (replica_at k j).generation) + (64 + 36 + 8)
  unfolding logical.Stands
  replica_flushed before sup settings volume k j r mine new within bare stands there drew =
      let thawed : volume.frozen ≡ None = sym stands.frozen ∙ new.frozen in
      let takes : logical.TakesChanges files Tells volume k = subst (λ (f : Option ℕ). logical.StandsBy files Tells volume k f) thawed stands.by in
      let one = takes.each j r there in
      let item = order_item k.replicas j within in
      let is : replica_at k j ≡ item.0 = at_or k.replicas j item.0 empty_replica item.1 in
      let untouched : IsUntouched (replica_at k j) = subst (λ (x : ReplicaKnown). IsUntouched x) (sym is) (AllByRecursion-at IsUntouched k.replicas j item.0 item.1 new.replicas) in
      let loose : is_stuck r ≡ false = sym one.stuck ∙ untouched.0 in
      let stored = stands_stored files r one.stored loose one.stands in
      let here = one.fits.bare in
      let all : one.stored.records ≡ length one.stored.cells = omega (arith, here, bare) in
      let most =
      flushed_draws r.sup (contents_of files r.disk) before (drawn r.disk) one.stored (λ n. fits r.disk n) stored all
      (subst (λ (u : Super). DrewLittle u (contents_of files r.disk) None before (drawn r.disk)) (sym mine) drew) in
      subst (λ n. drawn r.disk (volume_file n) ≤ before (volume_file n) + (64 + 36 + 8)) (sym one.fits.generation) most

-- THE REPLICAS OF A STORE

module _ {D P A : Type 0} (files : D → Files) (drawn : D → ℕ → ℕ) where
  drawn_at : (store : Open D P A) (slot : ℕ) (disk : D) → slice_get (disks_of store) slot ≡ Some disk → ◌≡◌ {A = ℕ → ℕ} (drawn_in drawn store slot) (drawn disk)
  drawn_at store slot disk at = let reads : Option D → ℕ → ℕ = λ o n. option_map_or (λ d. drawn d n) o 0 in ap reads at

  -- the replica of a store at its place
  record IsPlaced (store : Open D P A) (v j : ℕ) : Type 0 where
    volume : Volume D P
    copy : Copy D
    at : At store.volumes v volume
    there : At volume.replicas j copy
    mine : copy.sup ≡ super_of store.settings v j
    stands : slice_get (disks_of store) (slot_of store.settings v j) ≡ Some copy.disk

  placed : (store : Open D P A) (v j : ℕ) → IsShaped store → v < (store.settings).volumes → j < (store.settings).replicas → IsPlaced store v j
  placed store v j shape low within =
      let many = shape.many in
      let x = order_item store.volumes v (let less : v < length store.volumes = omega (arith, low, many) in less) in
      let is = volume_of store v x.0 shape x.1 in
      let long : length (x.0).replicas ≡ (store.settings).replicas = is.all ∙ ap (λ (s : Settings). s.replicas) is.settings_are in
      let r = order_item (x.0).replicas j (let less : j < length (x.0).replicas = omega (arith, within, long) in less) in
      record {
        volume = x.0;
        copy = r.0;
        at = x.1;
        there = r.1;
        mine = superblock store.settings v j x.0 r.0 is r.1;
        stands = in_volume (λ m disk. slice_get (disks_of store) m ≡ Some disk) store v j x.0 r.0 shape x.1 r.1 (order_self (disks_of store));
      }

  -- each replica was opened, of which was read so much before
  each_drew : (old new : Open D P A) (before : ℕ → ℕ → ℕ) (looked : ℕ → Option Pair) → IsShaped old → IsShaped new → new.settings ≡ old.settings
      → ((v j : ℕ) (x : Volume D P) (r : Copy D) → At old.volumes v x → At x.replicas j r → (n : ℕ) → drawn r.disk n ≡ before (slot_of old.settings v j) n)
      → ((v : ℕ) (x : Volume D P) → At old.volumes v x → looked_pair x.unsure ≡ looked v)
      → AllZip (DrawsVolume files drawn) old.volumes new.volumes → EachDrewLittle old.settings (contents_in files new) looked before (drawn_in drawn new)
  each_drew old new before looked shape shape' same was looks all v j low within =
      let slot = slot_of old.settings v j in
      let o = placed old v j shape low within in
      let n = placed new v j shape' (subst (λ (s : Settings). v < s.volumes) (sym same) low) (subst (λ (s : Settings). j < s.replicas) (sym same) within) in
      let y = zip_get (DrawsVolume files drawn) old.volumes new.volumes v o.volume o.at all in
      let own : y.0 ≡ n.volume = at_same new.volumes v y.0 n.volume y.1 n.at in
      let does : DrawsVolume files drawn o.volume n.volume = subst (λ (w : Volume D P). DrawsVolume files drawn o.volume w) own y.2 in
      let stands : slice_get (disks_of new) slot ≡ Some (n.copy).disk = subst (λ (s : Settings). slice_get (disks_of new) (slot_of s v j) ≡ Some (n.copy).disk) same n.stands in
      let drew : DrewLittle (o.copy).sup (contents_of files (n.copy).disk) (looked_pair (o.volume).unsure) (drawn (o.copy).disk) (drawn (n.copy).disk) = does j o.copy n.copy o.there n.there in
      let first : ◌≡◌ {A = ℕ → ℕ} (drawn (o.copy).disk) (before slot) = fun_ext (was v j o.volume o.copy o.at o.there) in
      subst (λ (u : Super). DrewLittle u (contents_in files new slot) (looked v) (before slot) (drawn_in drawn new slot)) o.mine
      (subst (λ (contents : Contents). DrewLittle (o.copy).sup contents (looked v) (before slot) (drawn_in drawn new slot)) (sym (contents_at files new slot (n.copy).disk stands))
      (subst (λ (p : Option Pair). DrewLittle (o.copy).sup (contents_of files (n.copy).disk) p (before slot) (drawn_in drawn new slot)) (looks v o.volume o.at)
      (subst (λ (f : ℕ → ℕ). DrewLittle (o.copy).sup (contents_of files (n.copy).disk) (looked_pair (o.volume).unsure) f (drawn_in drawn new slot)) first
      (subst (λ (f : ℕ → ℕ). DrewLittle (o.copy).sup (contents_of files (n.copy).disk) (looked_pair (o.volume).unsure) (drawn (o.copy).disk) f) (sym (drawn_at new slot (n.copy).disk stands)) drew))))

  -- by a first opening, of the disks of a shelf
  pub opening_drew : (DiskTells Tells : Type 0) (faults fuses : D → ℕ) (arm_faults : A → ℕ) (sure : A → Bool) (disks : ℕ → HeldDisk) (arms : ℕ → HeldArm) → DiskTells
      → (settings : Settings) (old new : Open D P A) → old.settings ≡ settings
      → IsTaken DiskTells files Tells faults fuses arm_faults drawn sure disks arms old → IsShaped new → new.settings ≡ old.settings → AllZip (DrawsVolume files drawn) old.volumes new.volumes
      → EachDrewLittle settings (contents_in files new) no_look (λ slot. (disks slot).drawn) (drawn_in drawn new)
  opening_drew DiskTells Tells faults fuses arm_faults sure disks arms tells settings old new mine t shape same all =
      subst (λ (s : Settings). EachDrewLittle s (contents_in files new) no_look (λ slot. (disks slot).drawn) (drawn_in drawn new)) mine
      (each_drew old new (λ slot. (disks slot).drawn) no_look t.shape shape same
      (λ v j x r at there n. (in_volume (λ m disk. IsMountedDisk DiskTells files drawn faults fuses (disks m) disk) old v j x r t.shape at there t.disks_are).drawn_is tells n)
      (λ v x at. ap (λ (u : Option Unsure). looked_pair u) (AllByRecursion-at (λ (w : Volume D P). w.unsure ≡ None) old.volumes v x at t.unsure)) all)

  -- by the opening of a restart
  pub restart_drew : (old mid new : Open D P A) → IsShaped mid → IsShaped new → mid.settings ≡ old.settings → new.settings ≡ mid.settings
      → AllZip (StopsDrawing drawn) old.volumes mid.volumes → AllZip (DrawsVolume files drawn) mid.volumes new.volumes
      → EachDrewLittle old.settings (contents_in files new) (looked_in old) none_drawn (drawn_in drawn new)
  restart_drew old mid new shape shape' settings same stopped all =
      let was_at : (v : ℕ) (x : Volume D P) → At mid.volumes v x → (o : Volume D P) × (At old.volumes v o) × StopsDrawing drawn o x = λ v x at.
      let long = AllZip-long (StopsDrawing drawn) old.volumes mid.volumes stopped in
      let within = slice_get_within mid.volumes v x at in
      let o = order_item old.volumes v (let less : v < length old.volumes = omega (arith, long, within) in less) in
      let y = zip_get (StopsDrawing drawn) old.volumes mid.volumes v o.0 o.1 stopped in
      (o.0, o.1, subst (λ (w : Volume D P). StopsDrawing drawn o.0 w) (at_same mid.volumes v y.0 x y.1 at) y.2) in
      subst (λ (s : Settings). EachDrewLittle s (contents_in files new) (looked_in old) none_drawn (drawn_in drawn new)) settings
      (each_drew mid new none_drawn (looked_in old) shape shape' same
      (λ v j x r at there n. (was_at v x at).2.nothing j r there n)
      (λ v x at.
      let o = was_at v x at in
      let reads : Option (Volume D P) → Option Pair = λ w. option_map_or (λ volume. looked_pair volume.unsure) w None in
      ap (λ (u : Option Unsure). looked_pair u) o.2.unsure ∙ sym (ap reads o.1)) all)

  -- A STORE WHOSE INDEXES HAVE ALL RECORDS

  module _ (Tells : Type 0) (fits : (disk : D) (n : ℕ) → length (files disk n).now < 2 ^ 64) where
    store_flushed : (faults fuses : D → ℕ) (arm_faults : A → ℕ) (before : ℕ → ℕ → ℕ) (store : Open D P A) (k t : Known) → IsNew store.settings k → FaultsRose k t
        → Stands files Tells faults fuses arm_faults store t
        → EachDrewLittle store.settings (contents_in files store) no_look before (drawn_in drawn store) → FlushedDrewLittle store.settings k before (drawn_in drawn store)
    unfolding Stands
    store_flushed faults fuses arm_faults before store k t new rose stands drew v j low within bare =
        let slot = slot_of store.settings v j in
        let p = placed store v j stands.shape low within in
        let y = zip_get (logical.Stands files Tells) store.volumes t.volumes v p.volume p.at stands.volumes in
        let there : slice_get k.volumes v ≡ Some y.0 = ap (λ (l : List VolumeKnown). slice_get l v) (sym rose.volumes) ∙ y.1 in
        let is : volume_at k v ≡ y.0 = at_or k.volumes v y.0 empty_volume there in
        let fresh : IsNewVolume store.settings y.0 = AllByRecursion-at (IsNewVolume store.settings) k.volumes v y.0 there new.volumes in
        let many = fresh.count in
        let mine : DrewLittle (super_of store.settings v j) (contents_of files (p.copy).disk) None (before slot) (drawn (p.copy).disk) =
        subst (λ (f : ℕ → ℕ). DrewLittle (super_of store.settings v j) (contents_of files (p.copy).disk) None (before slot) f) (drawn_at store slot (p.copy).disk p.stands)
        (subst (λ (contents : Contents). DrewLittle (super_of store.settings v j) contents None (before slot) (drawn_in drawn store slot))
        (contents_at files store slot (p.copy).disk p.stands) (drew v j low within)) in
        let most =
        replica_flushed files drawn Tells fits (before slot) (super_of store.settings v j) store.settings p.volume y.0 j p.copy p.mine fresh
        (let less : j < length (y.0).replicas = omega (arith, within, many) in less)
        (subst (λ (w : VolumeKnown). (replica_at w j).bare ≡ 0) is bare) y.2 p.there mine in
        subst (λ (w : VolumeKnown). drawn_in drawn store slot (volume_file (replica_at w j).generation) ≤ before slot (volume_file (replica_at w j).generation) + (64 + 36 + 8)) (sym is)
        (subst (λ (f : ℕ → ℕ). f (volume_file (replica_at y.0 j).generation) ≤ before slot (volume_file (replica_at y.0 j).generation) + (64 + 36 + 8))
        (sym (drawn_at store slot (p.copy).disk p.stands)) most)

    -- what is known of it as it was opened
    pub flushed_drew : (faults fuses : D → ℕ) (arm_faults : A → ℕ) (settings : Settings) (before : ℕ → ℕ → ℕ) (store : Open D P A) (k t : Known) → store.settings ≡ settings
        → IsNew settings k → FaultsRose k t → Stands files Tells faults fuses arm_faults store t
        → EachDrewLittle settings (contents_in files store) no_look before (drawn_in drawn store) → FlushedDrewLittle settings k before (drawn_in drawn store)
    flushed_drew faults fuses arm_faults settings before store k t mine new rose stands drew =
        subst (λ (s : Settings). FlushedDrewLittle s k before (drawn_in drawn store)) mine
        (store_flushed faults fuses arm_faults before store k t (subst (λ (s : Settings). IsNew s k) (sym mine) new) rose stands
        (subst (λ (s : Settings). EachDrewLittle s (contents_in files store) no_look before (drawn_in drawn store)) (sym mine) drew))
