-- What becomes of the disks of a shelf when a store is opened on them.
use Rattle.std.proofs.Common.{◌≡◌, ◌⊎◌, inl, inr, ◌<◌, ◌≤◌, ◌+◌, ◌*◌, ◌/◌, ◌%◌, ℕ, zero, suc, List, [], ◌∷◌, length, refl, sym, ap, subst, ◌∙◌, arith}
use Rattle.std.proofs.Math.Path.{fun_ext}
use Rattle.std.proofs.Math.Nat.{mul-le-mul_left}
use Rattle.std.proofs.lemmas.Nat.{div-mul-add, div_below, mod-mul-add}
use Rattle.hay_needle.specs.declared.settings.Settings.{Settings}
use Rattle.hay_needle.specs.declared.settings.Super.{Super}
use Rattle.hay_disk.specs.Disk.{Files, IsImage, MayLeave}
use Rattle.hay_disk.specs.Shelf.{HeldDisk}
use Rattle.hay_disk.proofs.Images.{solid_whole}
use Rattle.hay_mount.specs.Mounts.{InOrder, IsGivenDisk, IsMountedDisk}
use Rattle.hay_open.specs.Damage.{IsOpeningDamage}
use Rattle.hay_open.specs.Stored.{IsVoid, OpensAs, Stored}
use Rattle.hay_open.proofs.Standing.{opens_void}
use Rattle.hay_dirfile.specs.Journal.{IsDamagedJournal, IsJournal}
use Rattle.hay_dirfile.specs.declared.row.DirRow.{DirRow}
use Rattle.hay_batch.specs.Openings.{OpensDirectory, OpensReplica, journal_super}
use Rattle.hay_batch.specs.Replicas.{At}
use Rattle.hay_batch.specs.Shelves.{IsDamagedDisk, IsLimited, IsUndamagedBelow, OpensRows, OpensSlot, disk_count, place_super, replica_super, slot_of}
use Rattle.hay_batch.specs.Slots.{IsAtRest}

-- PLACES

pub place_is : (settings : Settings) (v j place : ℕ) → j < settings.replicas → place ≡ v * settings.replicas + j → place_super settings place ≡ replica_super settings v j
place_is settings v j place low is =
    let first : place / settings.replicas ≡ v = ap (λ n. n / settings.replicas) is ∙ div-mul-add v settings.replicas j low in
    let second : place % settings.replicas ≡ j = ap (λ n. n % settings.replicas) is ∙ mod-mul-add v settings.replicas j low in
    ap (λ n. replica_super settings n (place % settings.replicas)) first ∙ ap (λ n. replica_super settings v n) second

pub slot_within : (settings : Settings) (v j : ℕ) → v < settings.volumes → j < settings.replicas → slot_of settings v j < disk_count settings
slot_within settings v j volume replica =
    let up : v + 1 ≤ settings.volumes = omega (arith, volume) in
    let product = mul-le-mul_left settings.replicas up in
    omega (arith, product, replica)

-- ITEMS IN ORDER

pub order_at : {X : Type 0} (P : ℕ → X → Type 0) (n : ℕ) (xs : List X) (i m : ℕ) (x : X) → m ≡ n + i → At xs i x → InOrder P n xs → P m x
order_at P n [] i m x is at all = absurd cc
order_at P n (y ∷ xs) zero m x is at all = let here : n ≡ m = omega (arith, is) in let same : y ≡ x = cc in subst (λ z. P m z) same (subst (λ k. P k y) here all.0)
order_at P n (y ∷ xs) (suc i) m x is at all = order_at P (n + 1) xs i m x (omega (arith, is)) at all.1

pub order_here : {X : Type 0} (P : ℕ → X → Type 0) (xs : List X) (i : ℕ) (x : X) → At xs i x → InOrder P 0 xs → P i x
order_here P xs i x at all = order_at P 0 xs i i x (omega arith) at all

-- ONE DISK

empty_or : (l : List ℕ) → (l ≡ []) ⊎ (0 < length l)
empty_or [] = inl refl
empty_or (byte ∷ bytes) = inr (omega arith)

pub some_of : (l : List ℕ) → (l ≡ [] → ⊥) → 0 < length l
some_of [] none = absurd (none refl)
some_of (byte ∷ bytes) none = omega arith

no_rows : (superblock file : List ℕ) (volumes : ℕ) (rows : List DirRow) → file ≡ [] → IsJournal superblock volumes file rows → ⊥
no_rows superblock file volumes rows none is = omega (arith, is.closed.room, ap length none)

module _ {D : Type 0} (Tells : Type 0) (files : D → Files) (drawn : D → ℕ → ℕ) (faults fuses : D → ℕ) where
  abbrev pub IsTaken : HeldDisk → D → Type 0
  IsTaken held disk = IsMountedDisk Tells files drawn faults fuses held disk

  abbrev pub IsGiven : HeldDisk → D → Type 0
  IsGiven held disk = IsGivenDisk Tells files drawn faults fuses held disk

  pub rests_taken : (held : HeldDisk) (d : D) → IsTaken held d → IsAtRest Tells files d
  rests_taken held d taken = record { solid = taken.solid; free = taken.free }

  pub reads_taken : (held : HeldDisk) (d : D) → Tells → IsTaken held d → ◌≡◌ {A = ℕ → List ℕ} (λ n. (files d n).now) (λ n. (held.files n).now)
  reads_taken held d tells taken = fun_ext (λ n. taken.now tells n)

  pub slot_replica : (slot : ℕ) (held : HeldDisk) (d d' : D) → 0 < slot → IsTaken held d → OpensReplica Tells files faults fuses d d' → OpensSlot Tells slot held (files d') (faults d') (fuses d')
  slot_replica slot held d d' behind taken opens =
      let some : Tells → (IsVoid (λ n. (held.files n).now) → ⊥) → IsVoid (λ n. (files d n).now) → ⊥ = λ tells none void. none (sym (taken.now tells 0) ∙ void) in
      record {
        kept = λ tells none image may n. solid_whole (files d' n) (image n) (opens.stays tells (some tells none) n) (may n) ∙ opens.kept tells (some tells none) n ∙ taken.now tells n;
        now = λ tells none n. opens.kept tells (some tells none) n ∙ taken.now tells n;
        nothing = λ tells void image may. record {
          rows = λ zeroth. absurd (omega (arith, zeroth, behind));
          stored = λ _. opens.nothing tells (taken.now tells 0 ∙ void) image may;
        };
        later = (let e = taken.fault_count in let more = opens.later in omega (arith, e, more));
        fuses_are = opens.fuses ∙ taken.fuse_count;
      }

  -- one that was not opened
  pub slot_untouched : (slot : ℕ) (held : HeldDisk) (d d' : D) → 0 < slot → IsTaken held d → d' ≡ d → OpensSlot Tells slot held (files d') (faults d') (fuses d')
  slot_untouched slot held d d' behind taken same = subst (λ e. OpensSlot Tells slot held (files e) (faults e) (fuses e)) (sym same) (record {
    kept = λ tells none image may n. solid_whole (files d n) (image n) (taken.solid tells n) (may n) ∙ taken.now tells n;
    now = λ tells none n. taken.now tells n;
    nothing = λ tells void image may. record {
      rows = λ zeroth. absurd (omega (arith, zeroth, behind));
      stored = λ _ sup s opens. opens_void sup image s (solid_whole (files d 0) (image 0) (taken.solid tells 0) (may 0) ∙ taken.now tells 0 ∙ void) opens;
    };
    later = (let e = taken.fault_count in omega (arith, e));
    fuses_are = taken.fuse_count;
  })

  pub slot_directory : (held : HeldDisk) (d d' : D) → IsTaken held d → OpensDirectory Tells files faults fuses d d' → OpensSlot Tells 0 held (files d') (faults d') (fuses d')
  slot_directory held d d' taken opens =
      let same : Tells → (IsVoid (λ n. (held.files n).now) → ⊥) → files d' ≡ files d = λ tells none. opens.same tells (some_of (files d 0).now (λ void. none (sym (taken.now tells 0) ∙ void))) in
      record {
        kept = λ tells none image may n. solid_whole (files d n) (image n) (taken.solid tells n) (subst (λ (f : Files). IsImage (f n) (image n)) (same tells none) (may n)) ∙ taken.now tells n;
        now = λ tells none n. ap (λ (f : Files). (f n).now) (same tells none) ∙ taken.now tells n;
        nothing = λ tells void image may. record {
          rows = λ _ superblock volumes rows is. opens.nothing tells (taken.now tells 0 ∙ void) superblock (image 0) volumes rows (may 0) is;
          stored = λ behind. absurd (omega (arith, behind));
        };
        later = (let e = taken.fault_count in let more = opens.later in omega (arith, e, more));
        fuses_are = opens.fuses ∙ taken.fuse_count;
      }

  -- in its slot again
  pub slot_given : (slot : ℕ) (held back : HeldDisk) (d' : D) → IsGiven back d' → OpensSlot Tells slot held (files d') (faults d') (fuses d')
      → OpensSlot Tells slot held back.files back.fault_count back.fuse_count
  slot_given slot held back d' given opens = record {
    kept = λ tells none image may. opens.kept tells none image (subst (λ (f : Files). MayLeave f image) (given.files_are tells) may);
    now = λ tells none n. ap (λ (f : Files). (f n).now) (given.files_are tells) ∙ opens.now tells none n;
    nothing = λ tells void image may. opens.nothing tells void image (subst (λ (f : Files). MayLeave f image) (given.files_are tells) may);
    later = (let e = given.fault_count in let more = opens.later in omega (arith, e, more));
    fuses_are = given.fuse_count ∙ opens.fuses_are;
  }

  pub reads_given : (back : HeldDisk) (d' : D) → Tells → IsGiven back d' → ◌≡◌ {A = ℕ → List ℕ} (λ n. (files d' n).now) (λ n. (back.files n).now)
  reads_given back d' tells given = fun_ext (λ n. sym (ap (λ (f : Files). (f n).now) (given.files_are tells)))

-- DAMAGE

module _ (settings : Settings) (contents : ℕ → ℕ → List ℕ) where
  pub undamaged_below : (end : ℕ) → IsLimited settings → end ≤ disk_count settings
      → (0 < end → 0 < length (contents 0 0) → (at : ℕ) → IsDamagedJournal (journal_super settings) (contents 0 0) at → ⊥)
      → ((i : ℕ) → i + 1 < end → (file at : ℕ) → IsOpeningDamage (place_super settings i) (contents (i + 1)) file at → ⊥) → IsUndamagedBelow settings end contents
  undamaged_below end limits most first others zero file at below some damage =
      first below (some_of (contents 0 0) some) at (damage.journal refl).1
  undamaged_below end limits most first others (suc i) file at below some damage =
      let positive = limits.some_replicas in
      let split : settings.replicas * (i / settings.replicas) + i % settings.replicas ≡ i = omega (arith, positive) in
      let low : i % settings.replicas < settings.replicas = omega (arith, positive) in
      let inside : i < settings.volumes * settings.replicas = omega (arith, below, most) in
      let volume = div_below i settings.replicas settings.volumes positive inside in
      let here : suc i ≡ i + 1 = omega arith in
      let slot : suc i ≡ slot_of settings (i / settings.replicas) (i % settings.replicas) = omega (arith, split) in
      others i (omega (arith, below)) file at (subst (λ n. IsOpeningDamage (place_super settings i) (contents n) file at) here
      (damage.replica (i / settings.replicas) (i % settings.replicas) volume low slot))

  pub damaged_at : (place file at : ℕ) → place + 1 < disk_count settings → IsOpeningDamage (place_super settings place) (contents (place + 1)) file at
      → ((s : Stored) → OpensAs (place_super settings place) (contents (place + 1)) s → ⊥) → IsUndamagedBelow settings (place + 1) contents → IsDamagedDisk settings contents (place + 1) file at
  damaged_at place file at within damage only lowest =
      let same : (v j : ℕ) → j < settings.replicas → place + 1 ≡ slot_of settings v j → place_super settings place ≡ replica_super settings v j =
      λ v j low is. place_is settings v j place low (let e : place ≡ v * settings.replicas + j = omega (arith, is) in e) in
      record {
        within = within;
        not_whole = record {
          journal = λ zeroth. absurd (omega (arith, zeroth));
          replica = λ v j volume low is s opens. only s (subst (λ (sup : Super). OpensAs sup (contents (place + 1)) s) (sym (same v j low is)) opens);
        };
        place = record {
          journal = λ zeroth. absurd (omega (arith, zeroth));
          replica = λ v j volume low is. subst (λ (sup : Super). IsOpeningDamage sup (contents (place + 1)) file at) (same v j low is) damage;
        };
        lowest = lowest;
      }

  pub damaged_first : (file at : ℕ) → file ≡ 0 → IsDamagedJournal (journal_super settings) (contents 0 0) at → ((rows : List DirRow) → OpensRows settings (contents 0 0) rows → ⊥)
      → IsDamagedDisk settings contents 0 file at
  damaged_first file at is damage only = record {
    within = omega arith;
    not_whole = record {
      journal = λ _. only;
      replica = λ v j volume low is'. absurd (omega (arith, is'));
    };
    place = record {
      journal = λ _. (is, damage);
      replica = λ v j volume low is'. absurd (omega (arith, is'));
    };
    lowest = λ slot file' at' below. absurd (omega (arith, below));
  }
