-- What is given back of a whole shelf.
use Rattle.std.proofs.Common.{◌≡◌, inl, inr, ℕ, ◌<◌, ◌≤◌, false, sym, ap, subst, ◌∙◌, arith}
use Rattle.std.proofs.lemmas.Bool.{cases_lt}
use Rattle.hay_disk.specs.Disk.{Files}
use Rattle.hay_disk.specs.Shelf.{HeldDisk, HeldArm}
use Rattle.hay_mount.specs.Mounts.{AreIn, AreArmsIn, SameFrom}
use Rattle.hay_needle.specs.declared.settings.Settings.{Settings}
use Rattle.hay_legal.specs.Known.{disk_count}
use Rattle.hay_legal.specs.Stands.{Contents}
use Rattle.hay_cluster.specs.Outside.{IsVoid, read_of}
use Rattle.hay_cluster.specs.Store.{Open, contents_in}
use Rattle.hay_run.specs.Turns.{IsFormatted}

pub disks_in : (n : ℕ) (disks disks' : ℕ → HeldDisk) → ((slot : ℕ) → (disks slot).is_out ≡ false) → AreIn n disks' → SameFrom n disks disks' → (slot : ℕ) → (disks' slot).is_out ≡ false
disks_in n disks disks' before back same slot = elim (cases_lt slot n) [
  | inl below ↦ back slot below
  | inr above ↦ ap (λ (d : HeldDisk). d.is_out) (same slot above) ∙ before slot
]

pub arms_in : (n : ℕ) (arms arms' : ℕ → HeldArm) → ((lane : ℕ) → (arms lane).is_out ≡ false) → AreArmsIn n arms' → SameFrom n arms arms' → (lane : ℕ) → (arms' lane).is_out ≡ false
arms_in n arms arms' before back same lane = elim (cases_lt lane n) [
  | inl below ↦ back lane below
  | inr above ↦ ap (λ (a : HeldArm). a.is_out) (same lane above) ∙ before lane
]

-- where the first ones did not fall and the others are as they were, none did
pub none_fell : {X : Type 0} (count : X → ℕ) (n : ℕ) (old new : ℕ → X) → ((i : ℕ) → i < n → count (old i) ≤ count (new i)) → SameFrom n old new → (i : ℕ) → count (old i) ≤ count (new i)
none_fell {X} count n old new later same i = elim (cases_lt i n) [
  | inl below ↦ later i below
  | inr above ↦ let is : count (new i) ≡ count (old i) = ap count (same i above) in omega (arith, is)
]

pub same_more : {X : Type 0} (n : ℕ) (a b c : ℕ → X) → SameFrom n a b → SameFrom n b c → SameFrom n a c
same_more n a b c h k i above = k i above ∙ h i above

-- the disks of a store, none of which is void, are given back so
pub given_formatted : {D P A : Type 0} (files : D → Files) (settings : Settings) (store : Open D P A) (given : ℕ → HeldDisk) → store.settings ≡ settings
    → ((slot : ℕ) → slot < disk_count store.settings → read_of (given slot) ≡ contents_in files store slot) → IsFormatted files store
    → (slot : ℕ) → slot < disk_count settings → IsVoid (read_of (given slot)) → ⊥
given_formatted files settings store given is_settings closed formatted slot within void =
    let below = subst (λ (s : Settings). slot < disk_count s) (sym is_settings) within in
    formatted slot below (ap (λ (contents : Contents). contents 0) (sym (closed slot below)) ∙ void)
