-- What a load of a store does.
use Rattle.std.specs.Prelude.{◌≡◌, ◌⊎◌, ◌≤◌, ◌<◌, ℕ, List, length, Option, Some}
use Rattle.hay_disk.specs.Shelf.{HeldArm, HeldDisk}
use Rattle.hay_mount.specs.Mounts.{SameFrom}
use Rattle.hay_needle.specs.declared.settings.Settings.{Settings}
use Rattle.hay_script.specs.declared.words.TheConstants.{MAX_SCRIPT}
use Rattle.hay_legal.specs.Known.{disk_count}
use Rattle.hay_lines.specs.Stream.{IsReadToEnd}
use Rattle.hay_batch.specs.Shelves.{IsUndamagedBelow, reads_of}
use Rattle.hay_loading.specs.Endings.{CountsOn, HaltsBehind, LoadsTo, ReadFront, ReadOver}
use Rattle.hay_run.specs.Runs.{WasRead}

-- A load that ends with this status: what was read, answered and written, and what the disks that were given back hold. Where the source
-- failed, or the script is too long, just what ends with the lines that were read was answered. Where the script was read, or its end was
-- met, nothing that an opening reads of the disks was damaged. No other disk is taken, and no arm.
pub record IsLoad (Tells : Type 0) (settings : Settings) (status : ℕ) (disks disks' : ℕ → HeldDisk) (arms arms' : ℕ → HeldArm)
    (shelf shelf' : ℕ) (left left' before after : Option (List ℕ)) : Type 0 where
  pub loaded : (script : List ℕ) → left ≡ Some script → LoadsTo Tells settings script disks disks' shelf shelf' before after left' status
  pub halts : status ≡ 4 → (script : List ℕ) → left ≡ Some script → HaltsBehind Tells settings script disks disks' shelf shelf' before after (λ read. ReadFront script read left')
  pub halts_over : status ≡ 7 → (script : List ℕ) → left ≡ Some script → HaltsBehind Tells settings script disks disks' shelf shelf' before after (λ read. ReadOver script read left')
  pub ended : status ≡ 0 → IsReadToEnd left left'
  pub short : status ≡ 0 → (script : List ℕ) → left ≡ Some script → length script ≤ MAX_SCRIPT
  pub sound : Tells → (status ≡ 0) ⊎ (status ≡ 4) ⊎ (status ≡ 7) ⊎ WasRead left left' → IsUndamagedBelow settings (disk_count settings) (reads_of disks)
  pub counts : (slot : ℕ) → slot < disk_count settings → CountsOn (disks slot) (disks' slot)
  pub other_slots : SameFrom (disk_count settings) disks disks'
  pub lanes : arms' ≡ arms
