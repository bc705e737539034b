-- Where an opening that was refused finds damage.
use Rattle.std.proofs.Common.{◌≡◌, ℕ, zero, suc, ◌+◌, ◌*◌, ◌/◌, ◌%◌, ◌<◌, ◌≤◌, ◌⊎◌, inl, inr, Bool, List, [], ◌∷◌, length, map, Some, refl, sym, ap, subst, ◌∙◌, arith}
use Rattle.std.proofs.Math.Nat.{mul-le-mul_left}
use Rattle.std.proofs.Math.Path.{fun_ext}
use Rattle.std.proofs.lemmas.Nat.{div-mul-add, div_below, mod-mul-add}
use Rattle.std.proofs.lemmas.Bool.{cases_lt}
use Rattle.std.proofs.lemmas.Option.{same_Some, slice_get_within}
use Rattle.std.specs.Prelude.{slice_get}
use Rattle.std.specs.List.{AllZip}
use Rattle.hay_needle.specs.declared.settings.Settings.{Settings}
use Rattle.hay_needle.specs.declared.settings.Super.{Super}
use Rattle.hay_disk.specs.Disk.{Files}
use Rattle.hay_disk.specs.Shelf.{HeldArm, HeldDisk}
use Rattle.hay_reply.specs.declared.Note.{Note}
use Rattle.hay_open.specs.declared.fault.OpenFault.{OpenFault}
use Rattle.hay_open.specs.declared.fault.OpenFault.TheVariants as opening
use Rattle.hay_open.specs.Stored.{OpensAs, Stored}
use Rattle.hay_open.specs.Damage.{IsOpeningDamage}
use Rattle.hay_legal.specs.declared.known.HomeRow.{HomeRow}
use Rattle.hay_legal.specs.Known.{disk_count, slot_of}
use Rattle.hay_legal.specs.Stands.{Contents, Found}
use Rattle.hay_dirfile.specs.Journal.{IsDamagedJournal}
use Rattle.hay_directory.specs.Rows.{OpensRows, journal_super}
use Rattle.hay_directory.specs.State as directory
use Rattle.hay_directory.proofs.RowLaws.{opens_void}
use Rattle.hay_physical.specs.OpenCopies.{Copy, contents_of}
use Rattle.hay_logical.specs.Fits.{At, IsReplica, super_of}
use Rattle.hay_logical.specs.ReplicaCalls.{IsOpenFault}
use Rattle.hay_logical.specs.Volumes.{Volume}
use Rattle.hay_cluster.specs.declared.fault.ClusterFault.{ClusterFault}
use Rattle.hay_cluster.specs.declared.fault.ClusterFault.TheVariants.{Shelf, Failed, Damaged, NoMemory}
use Rattle.hay_cluster.specs.Causes.{HasFaultCause}
use Rattle.hay_cluster.specs.Faults.{not_opened}
use Rattle.hay_cluster.specs.Opening.{Gathers, IsRefusedIn, LeavesVolume, OpensDirectory, OpensParts, OpensVolume, RefusesDirectory, RefusesParts, StaysUndamaged}
use Rattle.hay_cluster.specs.Outside.{AreSoundBelow, IsDamagedDisk, IsFirstDamage, IsNotWhole, IsUndamaged, IsUndamagedBelow, IsVoid, read_of}
use Rattle.hay_cluster.specs.Store.{IsShaped, IsVolumeOf, Open, contents_in, disks_of}
use Rattle.hay_cluster.proofs.ClosingStore.{contents_at, disks_many, order_item, order_self}
use Rattle.hay_cluster.proofs.Lists.{AllZip-long}
use Rattle.hay_cluster.proofs.Moves.{volume_of}
use Rattle.hay_cluster.proofs.OpeningStore.{MovedParts, StoppedParts, opening_cause, shape_moved}
use Rattle.hay_cluster.proofs.OpeningTaken.{IsTaken, KeepsBytes, disks_keep, in_volume, taken_contents}
use Rattle.hay_cluster.proofs.OpeningVolumes.{damage_told}

-- one slot has one replica
same_place : (r v j v' j' : ℕ) → j < r → j' < r → 1 + v * r + j ≡ 1 + v' * r + j' → (v ≡ v') × (j ≡ j')
same_place r v j v' j' low low' is =
    let flat : v * r + j ≡ v' * r + j' = omega (arith, is) in (
      sym (div-mul-add v r j low) ∙ ap (λ n. n / r) flat ∙ div-mul-add v' r j' low',
      sym (mod-mul-add v r j low) ∙ ap (λ n. n % r) flat ∙ mod-mul-add v' r j' low',
    )

-- each slot has a disk of the Directory or of a replica
pub slot_found : (settings : Settings) (n : ℕ) → 1 ≤ settings.replicas → suc n < disk_count settings
    → (v : ℕ) × (j : ℕ) × (v < settings.volumes) × (j < settings.replicas) × (slot_of settings v j ≡ suc n)
slot_found settings n some below =
    let inside : n < settings.volumes * settings.replicas = omega (arith, below) in
    let split : settings.replicas * (n / settings.replicas) + n % settings.replicas ≡ n = omega (arith, some) in (
      n / settings.replicas,
      n % settings.replicas,
      div_below n settings.replicas settings.volumes some inside,
      omega (arith, some),
      omega (arith, split),
    )

pub slot_within : (settings : Settings) (v j : ℕ) → v < settings.volumes → j < settings.replicas → slot_of settings v j < disk_count settings
slot_within settings v j volume replica =
    let up : v + 1 ≤ settings.volumes = omega (arith, volume) in
    let product = mul-le-mul_left settings.replicas up in
    omega (arith, product, replica)

told_slot : (slot slot' file at : ℕ) (f : OpenFault) → f ≡ opening.Damaged file at → not_opened slot f ≡ Damaged slot' file at → slot ≡ slot'
told_slot slot slot' file at f is told =
    let both : Damaged slot file at ≡ Damaged slot' file at = sym (ap (λ (g : OpenFault). not_opened slot g) is) ∙ told in cc

-- a replica's superblock is that of its place
pub superblock : {D P : Type 0} (settings : Settings) (v j : ℕ) (x : Volume D P) (r : Copy D) → IsVolumeOf settings v x → At x.replicas j r → r.sup ≡ super_of settings v j
superblock settings v j x r is at = is.sups j r at ∙ ap (λ (s : Settings). super_of s x.number j) is.settings_are ∙ ap (λ n. super_of settings n j) is.number

not_found : (settings : Settings) (v j : ℕ) (sup : Super) (contents : Contents) (found : Found) → sup ≡ super_of settings v j → ((s : Stored) → OpensAs sup contents s → ⊥)
    → IsReplica settings v j contents found → ⊥
unfolding IsReplica
not_found settings v j sup contents found same none is = none is.stored (subst (λ (u : Super). OpensAs u contents is.stored) (sym same) is.opens)

some_read : (sup : Super) (contents : Contents) (file at : ℕ) → IsOpeningDamage sup contents file at → IsVoid contents → ⊥
unfolding IsOpeningDamage
some_read sup contents file at damage void = damage.0 void

pub zip_get : {A B : Type 0} (R : A → B → Type 0) (xs : List A) (ys : List B) (i : ℕ) (x : A) → slice_get xs i ≡ Some x → AllZip R xs ys → (y : B) × (slice_get ys i ≡ Some y) × R x y
zip_get R [] ys i x at all = absurd cc
zip_get R (x' ∷ xs) [] i x at all = absurd all
zip_get R (x' ∷ xs) (y ∷ ys) zero x at all = let same : x' ≡ x = cc in (y, refl, subst (λ z. R z y) same all.0)
zip_get R (x' ∷ xs) (y ∷ ys) (suc i) x at all = zip_get R xs ys i x at all.1

pub gathers_at : {X Y : Type 0} (R : X → X → List Y → Type 0) (xs ys : List X) (all : List Y) (i : ℕ) (x y : X) → Gathers R xs ys all → At xs i x → At ys i y → (more : List Y) × R x y more
gathers_at R [] ys all i x y g at at' = absurd cc
gathers_at R (x' ∷ xs) [] all i x y g at at' = absurd g
gathers_at R (x' ∷ xs) (y' ∷ ys) all zero x y g at at' =
    let was : x' ≡ x = cc in
    let is : y' ≡ y = cc in
    (g.front, subst (λ z. R x z g.front) is (subst (λ z. R z y' g.front) was g.first))
gathers_at R (x' ∷ xs) (y' ∷ ys) all (suc i) x y g at at' = gathers_at R xs ys g.behind i x y g.rest at at'

some_bytes : {X : Type 0} (xs : List X) → (xs ≡ [] → ⊥) → 0 < length xs
some_bytes [] some = absurd (some refl)
some_bytes (x ∷ xs) some = omega arith

-- What an opening that is refused names of a disk: it is not void, and has its first damage here.
record NamesDamage (settings : Settings) (slot file at : ℕ) (contents : Contents) : Type 0 where
  within : slot < disk_count settings
  not_whole : IsNotWhole settings slot contents
  place : IsFirstDamage settings slot file at contents
  some : IsVoid contents → ⊥

damaged_disk : (settings : Settings) (slot file at : ℕ) (contents : ℕ → Contents) → NamesDamage settings slot file at (contents slot) → IsUndamagedBelow settings slot contents
    → IsDamagedDisk settings contents slot file at
damaged_disk settings slot file at contents d lowest = record { within = d.within; not_whole = d.not_whole; place = d.place; lowest = lowest }

-- LOWER SLOTS

-- a replica in a lower slot is of a lower volume, or a lower one of the same volume
lower_place : (replicas v j v' j' : ℕ) → j' < replicas → 1 + v * replicas + j < 1 + v' * replicas + j' → (v < v') ⊎ ((v ≡ v') × (j < j'))
lower_place replicas v j v' j' within low = elim (cases_lt v v') [
  | inl less ↦ inl less
  | inr most ↦ elim (cases_lt v' v) [
    | inl more ↦
        let up : v' + 1 ≤ v = omega (arith, more) in
        let product = mul-le-mul_left replicas up in
        absurd (omega (arith, product, within, low))
    | inr least ↦
        let same : v ≡ v' = omega (arith, most, least) in
        let product : v * replicas ≡ v' * replicas = ap (λ n. n * replicas) same in
        inr (same, omega (arith, product, low))
  ]
]

-- disks of the same bytes
undamaged_on : (settings : Settings) (end : ℕ) (f g : ℕ → Contents) → ((slot : ℕ) → slot < end → ◌≡◌ {A = Contents} (g slot) (f slot)) → IsUndamagedBelow settings end f
    → IsUndamagedBelow settings end g
undamaged_on settings end f g same none slot file at below some damaged =
    none slot file at below (λ void. some (ap (λ (contents : Contents). contents 0) (same slot below) ∙ void))
    (subst (λ (contents : Contents). IsFirstDamage settings slot file at contents) (same slot below) damaged)

-- the slot that a refusal tells of
abbrev pub TellsSlot : ClusterFault → ℕ → Type 0
TellsSlot (Shelf count) slot = ⊥
TellsSlot (Failed told count) slot = told ≡ slot
TellsSlot (Damaged told file at) slot = told ≡ slot
TellsSlot NoMemory slot = ⊥

told_within : (settings : Settings) (before after : List ℕ) (fault : ClusterFault) (slot : ℕ) → HasFaultCause settings before after fault → TellsSlot fault slot → slot < disk_count settings
told_within settings before after (Shelf count) slot cause told = absurd told
told_within settings before after (Failed there count) slot cause told = subst (λ n. n < disk_count settings) told cause.0
told_within settings before after (Damaged there file at) slot cause told = subst (λ n. n < disk_count settings) told cause.0
told_within settings before after NoMemory slot cause told = absurd told

told_here : (told slot : ℕ) (f : OpenFault) → TellsSlot (not_opened told f) slot → told ≡ slot
told_here told slot (opening.Failed count) tells = tells
told_here told slot (opening.Damaged file at) tells = tells
told_here told slot opening.NoMemory tells = absurd tells

directory_damaged : (settings other : Settings) (file at : ℕ) (contents : Contents) → other ≡ settings → file ≡ 0 → IsDamagedJournal (journal_super other) (contents 0) at
    → ((rows : List HomeRow) → OpensRows other contents rows → ⊥) → NamesDamage settings 0 file at contents
directory_damaged settings other file at contents same zeroth damage none =
    let whole : (rows : List HomeRow) → OpensRows settings contents rows → ⊥ = λ rows opens. none rows (subst (λ (s : Settings). OpensRows s contents rows) (sym same) opens) in
    record {
      within = omega arith;
      not_whole = record { directory = λ is. whole; replica = λ v j volume replica place found found_is. absurd (omega (arith, place)) };
      place = record {
        journal = λ is. (zeroth, subst (λ (s : Settings). IsDamagedJournal (journal_super s) (contents 0) at) same damage);
        replica = λ v j volume replica place. absurd (omega (arith, place));
      };
      some = λ void. whole [] (opens_void settings contents void);
    }

replica_damaged : (settings : Settings) (v j file at : ℕ) (sup : Super) (contents : Contents) → v < settings.volumes → j < settings.replicas → sup ≡ super_of settings v j
    → IsOpeningDamage sup contents file at
    → ((s : Stored) → OpensAs sup contents s → ⊥) → NamesDamage settings (slot_of settings v j) file at contents
replica_damaged settings v j file at sup contents volume replica mine damage none = record {
  within = slot_within settings v j volume replica;
  not_whole = record {
    directory = λ zeroth rows opens. absurd (let none : slot_of settings v j ≡ 0 = zeroth in omega (arith, none));
    replica = λ v' j' volume' replica' place found is.
        let same = same_place settings.replicas v j v' j' replica replica' place in
        not_found settings v j sup contents found mine none (subst (λ n. IsReplica settings n j contents found) (sym same.0) (subst (λ n. IsReplica settings v' n contents found) (sym same.1) is));
  };
  place = record {
    journal = λ zeroth. absurd (let none : slot_of settings v j ≡ 0 = zeroth in omega (arith, none));
    replica = λ v' j' volume' replica' place.
        let same = same_place settings.replicas v j v' j' replica replica' place in
        subst (λ n. IsOpeningDamage (super_of settings v' n) contents file at) same.1
        (subst (λ n. IsOpeningDamage (super_of settings n j) contents file at) same.0 (subst (λ (u : Super). IsOpeningDamage u contents file at) mine damage));
  };
  some = some_read sup contents file at damage;
}

none_below : (settings : Settings) (slot : ℕ) (contents : ℕ → Contents) → slot ≡ 0 → IsUndamagedBelow settings slot contents
none_below settings slot contents zeroth n file at below = absurd (omega (arith, below, zeroth))

module _ {D : Type 0} (DiskTells : Type 0) (files : D → Files) (faults : D → ℕ) where
  directory_first : (old new : directory.State D) (fault : ClusterFault) (slot : ℕ) → RefusesDirectory DiskTells files faults old new fault → TellsSlot fault slot → slot ≡ 0
  directory_first old new (Shelf count) slot refused told = absurd told
  directory_first old new (Failed s count) slot refused told = sym told ∙ refused.0
  directory_first old new (Damaged s file at) slot refused told = sym told ∙ refused.0
  directory_first old new NoMemory slot refused told = absurd told

module _ {D P A : Type 0} (DiskTells : Type 0) (files : D → Files) (Tells : Type 0) (faults fuses : D → ℕ) (arm_faults : A → ℕ) where
  -- THE DISKS THAT WERE OPENED

  abbrev Names : Open D P A → ℕ → ℕ → ℕ → Type 0
  Names store slot file at = NamesDamage store.settings slot file at (contents_in files store slot)

  directory_named : DiskTells → (old new : Open D P A) → IsShaped old → (slot file at : ℕ)
      → RefusesDirectory DiskTells files faults old.directory new.directory (Damaged slot file at) → Names old slot file at
  directory_named tells old new shape slot file at (zeroth, first, damage) =
      let d = damage tells in
      subst (λ n. Names old n file at) (sym zeroth)
      (subst (λ (contents : Contents). NamesDamage old.settings 0 file at contents) (sym (contents_at files old 0 (old.directory).disk refl))
      (directory_damaged old.settings (old.directory).settings file at (λ n. (files (old.directory).disk n).now) shape.directory first d.0 d.1))

  volume_named : DiskTells → (old : Open D P A) → IsShaped old → (v j slot file at : ℕ) (x : Volume D P) (r r' : Copy D) (f : OpenFault) → At old.volumes v x → At x.replicas j r
      → IsOpenFault DiskTells files faults r r' f → not_opened (slot_of old.settings v j) f ≡ Damaged slot file at → Names old slot file at
  volume_named tells old shape v j slot file at x r r' f at_volume there cause told =
      let settings = old.settings in
      let is = volume_of old v x shape at_volume in
      let volume : v < settings.volumes = subst (λ n. v < n) shape.many (slice_get_within old.volumes v x at_volume) in
      let many : length x.replicas ≡ settings.replicas = is.all ∙ ap (λ (s : Settings). s.replicas) is.settings_are in
      let replica : j < settings.replicas = subst (λ n. j < n) many (slice_get_within x.replicas j r there) in
      let damaged : f ≡ opening.Damaged file at = damage_told (slot_of settings v j) f slot file at told in
      let here : slot_of settings v j ≡ slot = told_slot (slot_of settings v j) slot file at f damaged told in
      let damage : IsOpenFault DiskTells files faults r r' (opening.Damaged file at) = subst (λ g. IsOpenFault DiskTells files faults r r' g) damaged cause in
      let stands : slice_get (disks_of old) (slot_of settings v j) ≡ Some r.disk =
      in_volume (λ n disk. slice_get (disks_of old) n ≡ Some disk) old v j x r shape at_volume there (order_self (disks_of old)) in
      subst (λ n. Names old n file at) here
      (subst (λ (contents : Contents). NamesDamage settings (slot_of settings v j) file at contents) (sym (contents_at files old (slot_of settings v j) r.disk stands))
      (replica_damaged settings v j file at r.sup (contents_of files r.disk) volume replica (superblock settings v j x r is there) (damage.0 tells) (damage.1 tells)))

  named_in : DiskTells → (old new : Open D P A) (fault : ClusterFault) → IsShaped old → RefusesParts DiskTells files faults old.settings old.directory new.directory old.volumes new.volumes fault
      → (slot file at : ℕ) → fault ≡ Damaged slot file at → Names old slot file at
  named_in tells old new fault shape (inl by) slot file at is =
      directory_named tells old new shape slot file at (subst (λ f. RefusesDirectory DiskTells files faults old.directory new.directory f) is by)
  named_in tells old new fault shape (inr (notes, opened, inl memory)) slot file at is = let both : NoMemory ≡ Damaged slot file at = sym memory ∙ is in absurd cc
  named_in tells old new fault shape (inr (notes, opened, inr by)) slot file at is =
      let r = by.refused in
      volume_named tells old shape by.volume r.refusal.replica slot file at by.before r.cause.before r.cause.after r.refusal.fault by.was r.cause.was r.cause.cause (sym r.told ∙ is)

  -- a disk that is not void keeps its bytes
  pub contents_kept : DiskTells → (old new : Open D P A) → IsShaped old → MovedParts DiskTells files Tells faults fuses arm_faults old new → (slot : ℕ) → slot < disk_count old.settings
      → (IsVoid (contents_in files old slot) → ⊥) → ◌≡◌ {A = Contents} (contents_in files new slot) (contents_in files old slot)
  contents_kept tells old new shape m slot below some =
      let many = disks_many old shape in
      let there = order_item (disks_of old) slot (let less : slot < length (disks_of old) = omega (arith, below, many) in less) in
      let kept = zip_get (KeepsBytes files) (disks_of old) (disks_of new) slot there.0 there.1 (disks_keep DiskTells files Tells faults fuses arm_faults tells old new m) in
      let was = contents_at files old slot there.0 there.1 in
      contents_at files new slot kept.0 kept.1
      ∙ fun_ext (λ n. (kept.2 (λ void. some (ap (λ (contents : Contents). contents 0) was ∙ void)) n).0) ∙ sym was

  named_behind : DiskTells → (old new : Open D P A) (fault : ClusterFault) → IsShaped old → MovedParts DiskTells files Tells faults fuses arm_faults old new
      → RefusesParts DiskTells files faults old.settings old.directory new.directory old.volumes new.volumes fault → (slot file at : ℕ) → fault ≡ Damaged slot file at
      → NamesDamage old.settings slot file at (contents_in files new slot)
  named_behind tells old new fault shape m refused slot file at is =
      let named = named_in tells old new fault shape refused slot file at is in
      subst (λ (contents : Contents). NamesDamage old.settings slot file at contents) (sym (contents_kept tells old new shape m slot named.within named.some)) named

  -- LOWER SLOTS

  replica_sound : (store : Open D P A) (end v j : ℕ) → IsShaped store → v < (store.settings).volumes → j < (store.settings).replicas → slot_of store.settings v j < end
      → ((v j : ℕ) (x : Volume D P) (r : Copy D) → slot_of store.settings v j < end → At store.volumes v x → At x.replicas j r → (file at : ℕ)
      → IsOpeningDamage r.sup (contents_of files r.disk) file at → ⊥)
      → (file at : ℕ) → IsFirstDamage store.settings (slot_of store.settings v j) file at (contents_in files store (slot_of store.settings v j)) → ⊥
  replica_sound store end v j shape volume within low none file at damaged =
      let many = shape.many in
      let x = order_item store.volumes v (let less : v < length store.volumes = omega (arith, volume, many) in less) in
      let is = volume_of store v x.0 shape x.1 in
      let long : length (x.0).replicas ≡ (store.settings).replicas = is.all ∙ ap (λ (s : Settings). s.replicas) is.settings_are in
      let r = order_item (x.0).replicas j (let less : j < length (x.0).replicas = omega (arith, within, long) in less) in
      let stands : slice_get (disks_of store) (slot_of store.settings v j) ≡ Some (r.0).disk =
      in_volume (λ m disk. slice_get (disks_of store) m ≡ Some disk) store v j x.0 r.0 shape x.1 r.1 (order_self (disks_of store)) in
      none v j x.0 r.0 low x.1 r.1 file at
      (subst (λ (u : Super). IsOpeningDamage u (contents_of files (r.0).disk) file at) (sym (superblock store.settings v j x.0 r.0 is r.1))
      (subst (λ (contents : Contents). IsOpeningDamage (super_of store.settings v j) contents file at) (contents_at files store (slot_of store.settings v j) (r.0).disk stands)
      (damaged.replica v j volume within refl)))

  slots_sound : (store : Open D P A) (end : ℕ) → IsShaped store → end ≤ disk_count store.settings
      → (0 < length (files (store.directory).disk 0).now → (at : ℕ) → IsDamagedJournal (journal_super (store.directory).settings) (files (store.directory).disk 0).now at → ⊥)
      → ((v j : ℕ) (x : Volume D P) (r : Copy D) → slot_of store.settings v j < end → At store.volumes v x → At x.replicas j r → (file at : ℕ)
      → IsOpeningDamage r.sup (contents_of files r.disk) file at → ⊥)
      → IsUndamagedBelow store.settings end (contents_in files store)
  slots_sound store end shape most journal replica zero file at below some damaged =
      let same : ◌≡◌ {A = Contents} (contents_in files store 0) (contents_of files (store.directory).disk) = contents_at files store 0 (store.directory).disk refl in
      journal (some_bytes (files (store.directory).disk 0).now (λ void. some (ap (λ (contents : Contents). contents 0) same ∙ void))) at
      (subst (λ (s : Settings). IsDamagedJournal (journal_super s) (files (store.directory).disk 0).now at) (sym shape.directory)
      (subst (λ (contents : Contents). IsDamagedJournal (journal_super store.settings) (contents 0) at) same (damaged.journal refl).1))
  slots_sound store end shape most journal replica (suc n) file at below some damaged =
      let p = slot_found store.settings n (shape.built).some_replicas (let low : suc n < disk_count store.settings = omega (arith, below, most) in low) in
      replica_sound store end p.0 p.1 shape p.2 p.3 (subst (λ slot. slot < end) (sym p.4) below) replica file at
      (subst (λ slot. IsFirstDamage store.settings slot file at (contents_in files store slot)) (sym p.4) damaged)

  -- each replica in a lower slot was not damaged, and is not now
  abbrev LowerStay : Open D P A → Open D P A → ℕ → Type 0
  LowerStay old new end =
      (v j : ℕ) (x y : Volume D P) (r r' : Copy D) → slot_of old.settings v j < end → At old.volumes v x → At new.volumes v y → At x.replicas j r → At y.replicas j r' → StaysUndamaged files r r'

  before_sound : DiskTells → (old new : Open D P A) (notes : List Note) (end : ℕ) → IsShaped old → MovedParts DiskTells files Tells faults fuses arm_faults old new
      → OpensDirectory DiskTells files old.directory new.directory notes
      → end ≤ disk_count old.settings → LowerStay old new end → IsUndamagedBelow old.settings end (contents_in files old)
  before_sound tells old new notes end shape m opened most stay =
      slots_sound old end shape most (opened.undamaged tells) (λ v j x r low at there file place.
      let y = zip_get (LeavesVolume DiskTells files Tells faults fuses) old.volumes new.volumes v x at m.volumes in
      let within = slice_get_within x.replicas j r there in
      let count : length (y.0).replicas ≡ length x.replicas = (y.2).counts.count in
      let r' = order_item (y.0).replicas j (let less : j < length (y.0).replicas = omega (arith, within, count) in less) in
      (stay v j x y.0 r r'.0 low at y.1 there r'.1).0 file place)

  behind_sound : DiskTells → (old new : Open D P A) (notes : List Note) (end : ℕ) → IsShaped old → MovedParts DiskTells files Tells faults fuses arm_faults old new
      → OpensDirectory DiskTells files old.directory new.directory notes
      → end ≤ disk_count old.settings → LowerStay old new end → IsUndamagedBelow old.settings end (contents_in files new)
  behind_sound tells old new notes end shape m opened most stay =
      let shape' = shape_moved DiskTells files Tells faults fuses arm_faults old new shape m in
      subst (λ (s : Settings). IsUndamagedBelow s end (contents_in files new)) m.settings
      (slots_sound new end shape' (subst (λ (s : Settings). end ≤ disk_count s) (sym m.settings) most)
      (λ some place damage. opened.undamaged_now tells place (subst (λ (s : Settings). IsDamagedJournal (journal_super s) (files (new.directory).disk 0).now place) m.directory.settings damage))
      (λ v j y r' low at' there' file place damage.
      let below = slice_get_within new.volumes v y at' in
      let many : length new.volumes ≡ length old.volumes = sym (AllZip-long (LeavesVolume DiskTells files Tells faults fuses) old.volumes new.volumes m.volumes) in
      let x = order_item old.volumes v (let less : v < length old.volumes = omega (arith, below, many) in less) in
      let z = zip_get (LeavesVolume DiskTells files Tells faults fuses) old.volumes new.volumes v x.0 x.1 m.volumes in
      let same : z.0 ≡ y = same_Some z.0 y (sym z.1 ∙ at') in
      let there : At (z.0).replicas j r' = subst (λ (w : Volume D P). At w.replicas j r') (sym same) there' in
      let within = slice_get_within (z.0).replicas j r' there in
      let count : length (z.0).replicas ≡ length (x.0).replicas = (z.2).counts.count in
      let r = order_item (x.0).replicas j (let less : j < length (x.0).replicas = omega (arith, within, count) in less) in
      let sup : r'.sup ≡ (r.0).sup =
      superblock new.settings v j y r' (volume_of new v y shape' at') there' ∙ ap (λ (s : Settings). super_of s v j) m.settings
      ∙ sym (superblock old.settings v j x.0 r.0 (volume_of old v x.0 shape x.1) r.1) in
      (stay v j x.0 z.0 r.0 r' (subst (λ (s : Settings). slot_of s v j < end) m.settings low) x.1 z.1 r.1 there).1 file place
      (subst (λ (u : Super). IsOpeningDamage u (contents_of files r'.disk) file place) sup damage)))

  refused_stay : DiskTells → (old new : Open D P A) (fault : ClusterFault) → IsShaped old → (by : IsRefusedIn DiskTells files faults old.settings old.volumes new.volumes fault)
      → LowerStay old new (slot_of old.settings by.volume by.refused.refusal.replica)
  refused_stay tells old new fault shape by v j x y r r' low at at' there there' =
      let c = by.refused.cause in
      let of = volume_of old by.volume by.before shape by.was in
      let many : length by.before.replicas ≡ (old.settings).replicas = of.all ∙ ap (λ (s : Settings). s.replicas) of.settings_are in
      let within = slice_get_within by.before.replicas by.refused.refusal.replica c.before c.was in
      elim (lower_place (old.settings).replicas v j by.volume by.refused.refusal.replica (let less : by.refused.refusal.replica < (old.settings).replicas = omega (arith, within, many) in less) low) [
        | inl less ↦ by.earlier tells v x y less at at' j r r' there there'
        | inr same ↦
            let was : x ≡ by.before = same_Some x by.before (sym (subst (λ n. At old.volumes n x) same.0 at) ∙ by.was) in
            let is : y ≡ by.after = same_Some y by.after (sym (subst (λ n. At new.volumes n y) same.0 at') ∙ by.is) in
            c.earlier tells j r r' same.1 (subst (λ (w : Volume D P). At w.replicas j r) was there) (subst (λ (w : Volume D P). At w.replicas j r') is there')
      ]

  -- no disk in a lower slot is void
  lower_formatted : DiskTells → (old new : Open D P A) (notes : List Note) (end : ℕ) → IsShaped old → MovedParts DiskTells files Tells faults fuses arm_faults old new
      → OpensDirectory DiskTells files old.directory new.directory notes
      → end ≤ disk_count old.settings → LowerStay old new end → (slot : ℕ) → slot < end → IsVoid (contents_in files new slot) → ⊥
  lower_formatted tells old new notes end shape m opened most stay zero below void =
      let some = opened.formatted tells in
      let none : (files (new.directory).disk 0).now ≡ [] = ap (λ (contents : Contents). contents 0) (sym (contents_at files new 0 (new.directory).disk refl)) ∙ void in
      let long = ap length none in
      omega (arith, some, long)
  lower_formatted tells old new notes end shape m opened most stay (suc n) below void =
      let shape' = shape_moved DiskTells files Tells faults fuses arm_faults old new shape m in
      let p = slot_found old.settings n (shape.built).some_replicas (let low : suc n < disk_count old.settings = omega (arith, below, most) in low) in
      let x = order_item old.volumes p.0 (let many = shape.many in let volume = p.2 in let less : p.0 < length old.volumes = omega (arith, volume, many) in less) in
      let y = zip_get (LeavesVolume DiskTells files Tells faults fuses) old.volumes new.volumes p.0 x.0 x.1 m.volumes in
      let of = volume_of old p.0 x.0 shape x.1 in
      let long : length (x.0).replicas ≡ (old.settings).replicas = of.all ∙ ap (λ (s : Settings). s.replicas) of.settings_are in
      let count : length (y.0).replicas ≡ length (x.0).replicas = (y.2).counts.count in
      let within = p.3 in
      let r = order_item (x.0).replicas p.1 (let less : p.1 < length (x.0).replicas = omega (arith, within, long) in less) in
      let r' = order_item (y.0).replicas p.1 (let less : p.1 < length (y.0).replicas = omega (arith, within, long, count) in less) in
      let low : slot_of old.settings p.0 p.1 < end = subst (λ slot. slot < end) (sym p.4) below in
      let here : slot_of new.settings p.0 p.1 ≡ suc n = ap (λ (s : Settings). slot_of s p.0 p.1) m.settings ∙ p.4 in
      let stands : slice_get (disks_of new) (slot_of new.settings p.0 p.1) ≡ Some (r'.0).disk =
      in_volume (λ k disk. slice_get (disks_of new) k ≡ Some disk) new p.0 p.1 y.0 r'.0 shape' y.1 r'.1 (order_self (disks_of new)) in
      (stay p.0 p.1 x.0 y.0 r.0 r'.0 low x.1 y.1 r.1 r'.1).2
      (ap (λ (contents : Contents). contents 0) (sym (contents_at files new (suc n) (r'.0).disk (subst (λ k. slice_get (disks_of new) k ≡ Some (r'.0).disk) here stands))) ∙ void)

  -- nothing in a lower slot than that of which a refusal tells was damaged, and no disk there is now damaged or void
  abbrev LowerSound : Open D P A → Open D P A → ℕ → Type 0
  LowerSound old new slot = IsUndamagedBelow old.settings slot (contents_in files old) × AreSoundBelow old.settings slot (contents_in files new)

  lower_sound : DiskTells → (old new : Open D P A) (fault : ClusterFault) (slot : ℕ) → IsShaped old → MovedParts DiskTells files Tells faults fuses arm_faults old new
      → RefusesParts DiskTells files faults old.settings old.directory new.directory old.volumes new.volumes fault → TellsSlot fault slot → LowerSound old new slot
  lower_sound tells old new fault slot shape m (inl by) told =
      let zeroth = directory_first DiskTells files faults old.directory new.directory fault slot by told in (
        none_below old.settings slot (contents_in files old) zeroth,
        record {
          formatted = λ n below. absurd (omega (arith, below, zeroth));
          undamaged = none_below old.settings slot (contents_in files new) zeroth;
        },
      )
  lower_sound tells old new fault slot shape m (inr (notes, opened, inl memory)) told = absurd (subst (λ f. TellsSlot f slot) memory told)
  lower_sound tells old new fault slot shape m (inr (notes, opened, inr by)) told =
      let j = by.refused.refusal.replica in
      let end = slot_of old.settings by.volume j in
      let here : end ≡ slot = told_here end slot by.refused.refusal.fault (subst (λ f. TellsSlot f slot) by.refused.told told) in
      let of = volume_of old by.volume by.before shape by.was in
      let many : length by.before.replicas ≡ (old.settings).replicas = of.all ∙ ap (λ (s : Settings). s.replicas) of.settings_are in
      let within = slice_get_within by.before.replicas j by.refused.cause.before by.refused.cause.was in
      let volume : by.volume < (old.settings).volumes = subst (λ n. by.volume < n) shape.many (slice_get_within old.volumes by.volume by.before by.was) in
      let inside = slot_within old.settings by.volume j volume (let less : j < (old.settings).replicas = omega (arith, within, many) in less) in
      let most : end ≤ disk_count old.settings = omega (arith, inside) in
      let stay = refused_stay tells old new fault shape by in
      subst (λ n. LowerSound old new n) here (
        before_sound tells old new notes end shape m opened most stay,
        record { formatted = lower_formatted tells old new notes end shape m opened most stay; undamaged = behind_sound tells old new notes end shape m opened most stay },
      )

  -- WHAT A RESTART NAMES

  pub restart_damaged : DiskTells → (old mid new : Open D P A) (fault : ClusterFault) → IsShaped mid → StoppedParts DiskTells files Tells faults fuses arm_faults old mid
      → MovedParts DiskTells files Tells faults fuses arm_faults mid new
      → RefusesParts DiskTells files faults mid.settings mid.directory new.directory mid.volumes new.volumes fault → (slot file at : ℕ) → fault ≡ Damaged slot file at
      → IsDamagedDisk old.settings (contents_in files new) slot file at
  restart_damaged tells old mid new fault shape s m refused slot file at is =
      let told : TellsSlot fault slot = subst (λ f. TellsSlot f slot) (sym is) refl in
      damaged_disk old.settings slot file at (contents_in files new)
      (subst (λ (t : Settings). NamesDamage t slot file at (contents_in files new slot)) s.settings (named_behind tells mid new fault shape m refused slot file at is))
      (subst (λ (t : Settings). IsUndamagedBelow t slot (contents_in files new)) s.settings ((lower_sound tells mid new fault slot shape m refused told).1).undamaged)

  -- and those below are sound
  pub restart_first : DiskTells → (old mid new : Open D P A) (fault : ClusterFault) → IsShaped mid → StoppedParts DiskTells files Tells faults fuses arm_faults old mid
      → MovedParts DiskTells files Tells faults fuses arm_faults mid new
      → RefusesParts DiskTells files faults mid.settings mid.directory new.directory mid.volumes new.volumes fault → (slot : ℕ) → TellsSlot fault slot
      → AreSoundBelow old.settings slot (contents_in files new)
  restart_first tells old mid new fault shape s m refused slot told =
      subst (λ (t : Settings). AreSoundBelow t slot (contents_in files new)) s.settings (lower_sound tells mid new fault slot shape m refused told).1

  pub restart_sound : DiskTells → (old mid new : Open D P A) (notes : List Note) → IsShaped mid → StoppedParts DiskTells files Tells faults fuses arm_faults old mid
      → MovedParts DiskTells files Tells faults fuses arm_faults mid new
      → OpensParts DiskTells files Tells faults fuses mid.directory new.directory mid.volumes new.volumes notes → IsUndamaged old.settings (contents_in files new)
  restart_sound tells old mid new notes shape s m opened =
      let stay : LowerStay mid new (disk_count mid.settings) = λ v j x y r r' low at at'.
      let g = gathers_at (OpensVolume DiskTells files Tells faults fuses) mid.volumes new.volumes opened.of_volumes v x y opened.volumes at at' in (g.1).undamaged tells j r r' in
      let all : disk_count mid.settings ≤ disk_count mid.settings = omega arith in
      subst (λ (t : Settings). IsUndamaged t (contents_in files new)) s.settings
      (behind_sound tells mid new opened.of_directory (disk_count mid.settings) shape m opened.directory all stay)

  -- WHAT A FIRST OPENING NAMES

  lower_taken : DiskTells → (drawn : D → ℕ → ℕ) (sure : A → Bool) (disks : ℕ → HeldDisk) (arms : ℕ → HeldArm) (old : Open D P A)
      → IsTaken DiskTells files Tells faults fuses arm_faults drawn sure disks arms old
      → (slot : ℕ) → slot ≤ disk_count old.settings → IsUndamagedBelow old.settings slot (contents_in files old) → IsUndamagedBelow old.settings slot (λ n. read_of (disks n))
  lower_taken tells drawn sure disks arms old t slot below sound =
      undamaged_on old.settings slot (contents_in files old) (λ n. read_of (disks n))
      (λ n less. sym (taken_contents DiskTells files Tells faults fuses arm_faults drawn sure disks arms tells old t n
      (let low : n < disk_count old.settings = omega (arith, less, below) in low))) sound

  pub opening_damaged : DiskTells → (drawn : D → ℕ → ℕ) (sure : A → Bool) (disks after : ℕ → HeldDisk) (arms : ℕ → HeldArm) (settings : Settings) (old new : Open D P A)
      (fault : ClusterFault) → old.settings ≡ settings
      → IsTaken DiskTells files Tells faults fuses arm_faults drawn sure disks arms old → MovedParts DiskTells files Tells faults fuses arm_faults old new
      → ((slot : ℕ) → slot < disk_count settings → ◌≡◌ {A = Contents} (read_of (after slot)) (contents_in files new slot))
      → RefusesParts DiskTells files faults old.settings old.directory new.directory old.volumes new.volumes fault → (slot file at : ℕ) → fault ≡ Damaged slot file at
      → IsDamagedDisk settings (λ n. read_of (disks n)) slot file at × IsDamagedDisk settings (λ n. read_of (after n)) slot file at
  opening_damaged tells drawn sure disks after arms settings old new fault same t m back refused slot file at is =
      let was = named_in tells old new fault t.shape refused slot file at is in
      let behind = named_behind tells old new fault t.shape m refused slot file at is in
      let below : slot < disk_count settings = subst (λ (s : Settings). slot < disk_count s) same was.within in
      let told : TellsSlot fault slot = subst (λ f. TellsSlot f slot) (sym is) refl in
      let lower = lower_sound tells old new fault slot t.shape m refused told in (
        damaged_disk settings slot file at (λ n. read_of (disks n))
            (subst (λ (s : Settings). NamesDamage s slot file at (read_of (disks slot))) same
            (subst (λ (contents : Contents). NamesDamage old.settings slot file at contents) (taken_contents DiskTells files Tells faults fuses arm_faults drawn sure disks arms
            tells old t slot was.within) was))
            (subst (λ (s : Settings). IsUndamagedBelow s slot (λ n. read_of (disks n))) same (lower_taken tells drawn sure disks arms old t slot
            (let within = was.within in let most : slot ≤ disk_count old.settings = omega (arith, within) in most) lower.0)),
        damaged_disk settings slot file at (λ n. read_of (after n))
            (subst (λ (s : Settings). NamesDamage s slot file at (read_of (after slot))) same
            (subst (λ (contents : Contents). NamesDamage old.settings slot file at contents) (sym (back slot below)) behind))
            (undamaged_on settings slot (contents_in files new) (λ n. read_of (after n)) (λ n less. back n (let low : n < disk_count settings = omega (arith, less, below) in low))
            (subst (λ (s : Settings). IsUndamagedBelow s slot (contents_in files new)) same (lower.1).undamaged)),
      )

  pub opening_failed : DiskTells → (drawn : D → ℕ → ℕ) (sure : A → Bool) (disks : ℕ → HeldDisk) (arms : ℕ → HeldArm) (settings : Settings) (old new : Open D P A)
      (fault : ClusterFault) → old.settings ≡ settings
      → IsTaken DiskTells files Tells faults fuses arm_faults drawn sure disks arms old → MovedParts DiskTells files Tells faults fuses arm_faults old new
      → RefusesParts DiskTells files faults old.settings old.directory new.directory old.volumes new.volumes fault → (slot count : ℕ) → fault ≡ Failed slot count
      → IsUndamagedBelow settings slot (λ n. read_of (disks n))
  opening_failed tells drawn sure disks arms settings old new fault same t m refused slot count is =
      let told : TellsSlot fault slot = subst (λ f. TellsSlot f slot) (sym is) refl in
      let cause : HasFaultCause old.settings (map faults (disks_of old)) (map faults (disks_of new)) (Failed slot count) =
      subst (λ f. HasFaultCause old.settings (map faults (disks_of old)) (map faults (disks_of new)) f) is
      (opening_cause DiskTells files Tells faults fuses arm_faults old new fault t.shape m refused) in
      let within : slot < disk_count old.settings = cause.0 in
      subst (λ (s : Settings). IsUndamagedBelow s slot (λ n. read_of (disks n))) same (lower_taken tells drawn sure disks arms old t slot
      (let most : slot ≤ disk_count old.settings = omega (arith, within) in most) (lower_sound tells old new fault slot t.shape m refused told).0)

  pub opening_first : DiskTells → (drawn : D → ℕ → ℕ) (sure : A → Bool) (disks after : ℕ → HeldDisk) (arms : ℕ → HeldArm) (settings : Settings) (old new : Open D P A)
      (fault : ClusterFault) → old.settings ≡ settings
      → IsTaken DiskTells files Tells faults fuses arm_faults drawn sure disks arms old → MovedParts DiskTells files Tells faults fuses arm_faults old new
      → ((slot : ℕ) → slot < disk_count settings → ◌≡◌ {A = Contents} (read_of (after slot)) (contents_in files new slot))
      → RefusesParts DiskTells files faults old.settings old.directory new.directory old.volumes new.volumes fault → (slot : ℕ) → TellsSlot fault slot
      → AreSoundBelow settings slot (λ n. read_of (after n))
  opening_first tells drawn sure disks after arms settings old new fault same t m back refused slot told =
      let within = subst (λ (s : Settings). slot < disk_count s) same
      (told_within old.settings (map faults (disks_of old)) (map faults (disks_of new)) fault slot
      (opening_cause DiskTells files Tells faults fuses arm_faults old new fault t.shape m refused) told) in
      let lower = subst (λ (s : Settings). AreSoundBelow s slot (contents_in files new)) same (lower_sound tells old new fault slot t.shape m refused told).1 in
      let here = λ (n : ℕ) (less : n < slot). back n (let low : n < disk_count settings = omega (arith, less, within) in low) in
      record {
        formatted = λ n less void. lower.formatted n less (ap (λ (contents : Contents). contents 0) (sym (here n less)) ∙ void);
        undamaged = undamaged_on settings slot (contents_in files new) (λ n. read_of (after n)) here lower.undamaged;
      }

  -- WHAT AN OPENING THAT IS NOT REFUSED FOUND

  pub opened_sound : DiskTells → (drawn : D → ℕ → ℕ) (sure : A → Bool) (disks : ℕ → HeldDisk) (arms : ℕ → HeldArm) (settings : Settings) (old new : Open D P A) (notes : List Note)
      → old.settings ≡ settings
      → IsTaken DiskTells files Tells faults fuses arm_faults drawn sure disks arms old → MovedParts DiskTells files Tells faults fuses arm_faults old new
      → OpensParts DiskTells files Tells faults fuses old.directory new.directory old.volumes new.volumes notes → IsUndamaged settings (λ slot. read_of (disks slot))
  opened_sound tells drawn sure disks arms settings old new notes mine t m opened =
      let stay : LowerStay old new (disk_count old.settings) = λ v j x y r r' low at at'.
      let g = gathers_at (OpensVolume DiskTells files Tells faults fuses) old.volumes new.volumes opened.of_volumes v x y opened.volumes at at' in (g.1).undamaged tells j r r' in
      let all : disk_count old.settings ≤ disk_count old.settings = omega arith in
      subst (λ (s : Settings). IsUndamaged s (λ slot. read_of (disks slot))) mine
      (lower_taken tells drawn sure disks arms old t (disk_count old.settings) all (before_sound tells old new opened.of_directory (disk_count old.settings) t.shape m opened.directory all stay))
