-- A load among the modes of a run.
use Rattle.std.proofs.Common.{◌≡◌, ◌≢◌, ◌⊎◌, ◌<◌, ◌≤◌, inl, inr, ℕ, false, List, ◌∷◌, ◌++◌, length, Option, Some, refl, ap, ◌∙◌, arith}
use Rattle.hay_disk.specs.Shelf.{HeldArm, HeldDisk}
use Rattle.hay_needle.specs.declared.needle.Pair.{Pair}
use Rattle.hay_needle.specs.declared.settings.Settings.{Settings}
use Rattle.hay_script.specs.declared.Command.TheVariants as command
use Rattle.hay_script.specs.declared.Line.TheVariants as said
use Rattle.hay_lines.specs.Lines.{NoFeed, fed_text}
use Rattle.hay_open.specs.Stored.{IsVoid}
use Rattle.hay_batch.specs.Shelves.{IsFirstDamage, reads_of}
use Rattle.hay_legal.specs.Known.{disk_count}
use Rattle.hay_legal.specs.Statuses.{Ending, status_of}
use Rattle.hay_legal.specs.Statuses.Ending.{ReadAll, OutputFault, InputFault, NoMemory, NotOpened, TooLong}
use Rattle.hay_loading.specs.declared.stops.Stop.TheVariants as stop
use Rattle.hay_loading.specs.Endings.{IsStatus, WroteBoth, says}
use Rattle.hay_loading.proofs.Refusing.{ends_unbegun}
use Rattle.hay_loading.proofs.Refuted.{broke_on_its_line}
use Rattle.hay_loading.proofs.Sinks.{wrote_nothing}
use Rattle.hay_loading.proofs.Statuses.{to_stop}
use Rattle.hay_run.specs.Loads.{IsLoad}
use Rattle.hay_run.specs.Runs.{IsSureStill, WasRead}

-- each status of a load is one of a run
pub ends_so : (status : ℕ) → IsStatus status → (ending : Ending) × (status ≡ status_of ending)
ends_so status (inl is) = (ReadAll, is)
ends_so status (inr (inl is)) = (OutputFault, is)
ends_so status (inr (inr (inl is))) = (InputFault, is)
ends_so status (inr (inr (inr (inl is)))) = (NoMemory, is)
ends_so status (inr (inr (inr (inr (inl is))))) = (NotOpened, is)
ends_so status (inr (inr (inr (inr (inr is))))) = (TooLong, is)

-- arms that are as they were
pub same_arm : (arms arms' : ℕ → HeldArm) → arms' ≡ arms → (lane : ℕ) → arms' lane ≡ arms lane
same_arm arms arms' same lane = ap (λ (f : ℕ → HeldArm). f lane) same

pub sure_still : (old new : HeldArm) → new ≡ old → IsSureStill old new
sure_still old new same = λ sure. (ap (λ (a : HeldArm). a.is_sure) same ∙ sure, ap (λ (a : HeldArm). a.fault_count) same)

-- where something was read, a source has not what it had
was_read : (left left' : Option (List ℕ)) → WasRead left left' → left' ≢ left
was_read left left' (script, is, other) same = other (same ∙ is)

pub read_so : {A B C : Type 0} (left left' : Option (List ℕ)) → A ⊎ B ⊎ C ⊎ WasRead left left' → A ⊎ B ⊎ C ⊎ (left' ≢ left)
read_so left left' (inl a) = inl a
read_so left left' (inr (inl b)) = inr (inl b)
read_so left left' (inr (inr (inl c))) = inr (inr (inl c))
read_so left left' (inr (inr (inr read))) = inr (inr (inr (was_read left left' read)))

-- a load of which something was read, over a disk that an opening finds damaged
pub loaded_past_damage : (Tells : Type 0) (settings : Settings) (status slot file at : ℕ) (disks disks' : ℕ → HeldDisk) (arms arms' : ℕ → HeldArm) (shelf shelf' : ℕ)
    (left left' before after : Option (List ℕ)) → Tells → slot < disk_count settings → (IsVoid (reads_of disks slot) → ⊥) → IsFirstDamage settings slot file at (reads_of disks slot)
    → WasRead left left' → IsLoad Tells settings status disks disks' arms arms' shelf shelf' left left' before after → ⊥
loaded_past_damage Tells settings status slot file at disks disks' arms arms' shelf shelf' left left' before after tells within some damage read load =
    load.sound tells (inr (inr (inr read))) slot file at within some damage

-- a load that a disk's failure ended, of which no more was read than the line of its first put
pub failed_on_its_line : (Tells : Type 0) (settings : Settings) (status : ℕ) (line more rest bytes : List ℕ) (pair : Pair) (disks disks' : ℕ → HeldDisk) (arms arms' : ℕ → HeldArm) (shelf shelf' : ℕ)
    (before after : Option (List ℕ)) → status ≡ 6 → NoFeed line → says (fed_text line) ≡ said.Plain (command.Put pair bytes) → 0 < length more → length more ≤ length rest
    → length rest < length (line ++ 10 ∷ more) → IsLoad Tells settings status disks disks' arms arms' shelf shelf' (Some (line ++ 10 ∷ more)) (Some rest) before after → ⊥
failed_on_its_line Tells settings status line more rest bytes pair disks disks' arms arms' shelf shelf' before after six free is some short read load =
    elim ((load.loaded (line ++ 10 ∷ more) refl).store six) [
      | inl refuses ↦
          let same : rest ≡ line ++ 10 ∷ more = (let unread = refuses.unread in cc) in
          let long = ap (λ (l : List ℕ). length l) same in
          absurd (omega (arith, long, read))
      | inr breaks ↦ broke_on_its_line Tells settings line more rest bytes disks disks' shelf shelf' before after pair WroteBoth free is some short breaks
    ]

-- memory was wanting for the words
pub load_nothing : (Tells : Type 0) (settings : Settings) (status : ℕ) (disks : ℕ → HeldDisk) (arms : ℕ → HeldArm) (shelf : ℕ) (left before : Option (List ℕ))
    → ((slot : ℕ) → (disks slot).is_out ≡ false) → status ≡ 5
    → IsLoad Tells settings status disks disks arms arms shelf shelf left left before before
load_nothing Tells settings status disks arms shelf left before back five = record {
  loaded = λ script told. to_stop Tells settings script disks disks shelf shelf before before left stop.NoMemory status five
      (ends_unbegun Tells settings script disks shelf before before left told (λ slot below. back slot) (0, wrote_nothing before) stop.NoMemory (inr refl));
  halts = λ four. absurd (omega (arith, five, four));
  halts_over = λ seven. absurd (omega (arith, five, seven));
  ended = λ zero. absurd (omega (arith, five, zero));
  short = λ zero. absurd (omega (arith, five, zero));
  sound = λ tells opened. absurd (elim opened [
    | inl zero ↦ omega (arith, five, zero)
    | inr (inl four) ↦ omega (arith, five, four)
    | inr (inr (inl seven)) ↦ omega (arith, five, seven)
    | inr (inr (inr read)) ↦ was_read left left read refl
  ]);
  counts = λ slot below. record { faults_rise = omega arith; fuses_are = refl };
  other_slots = λ slot above. refl;
  lanes = refl;
}

-- no status of a load is that of words that are no command
pub never_two : (status : ℕ) (ending : Ending) → status ≡ status_of ending → status ≡ 2 → ⊥
never_two status ReadAll is two = omega (arith, is, two)
never_two status OutputFault is two = omega (arith, is, two)
never_two status InputFault is two = omega (arith, is, two)
never_two status NoMemory is two = omega (arith, is, two)
never_two status NotOpened is two = omega (arith, is, two)
never_two status TooLong is two = omega (arith, is, two)
