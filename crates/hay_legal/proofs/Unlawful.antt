-- Answers and endings that are not legal, each as a lemma.
use Rattle.std.proofs.Common.{◌≡◌, ◌⊎◌, inl, inr, ℕ, ◌-◌, ◌^◌, ◌<◌, false, List, [], ◌∷◌, ◌++◌, Some, None, refl, sym, ap, ◌∙◌, arith}
use Rattle.std.specs.List.{list_any}
use Rattle.hay_needle.specs.declared.needle.Pair.{Pair}
use Rattle.hay_needle.specs.declared.needle.Cookie.{Cookie}
use Rattle.hay_needle.specs.declared.needle.Photo.{Photo}
use Rattle.hay_needle.specs.declared.settings.Settings.{Settings}
use Rattle.hay_needle.specs.Tables.{Table}
use Rattle.hay_needle.specs.declared.settings.TheConstants.{LAST_GENERATION}
use Rattle.hay_reply.specs.declared.Note.{Note}
use Rattle.hay_reply.specs.declared.Passed.{Passed}
use Rattle.hay_reply.specs.declared.Reply.{Reply}
use Rattle.hay_reply.specs.declared.Reply.TheVariants.{Failed, NoMem, Restarted, Unreadable}
use Rattle.hay_script.specs.declared.Command.{Command}
use Rattle.hay_core.specs.declared.entry.CoreTag.{CoreTag}
use Rattle.hay_legal.specs.declared.known.HomeRow.{HomeRow}
use Rattle.hay_legal.specs.declared.known.Known.{Known}
use Rattle.hay_legal.specs.declared.turn.Item.TheVariants as item
use Rattle.hay_legal.specs.declared.turn.Turn.{Turn}
use Rattle.hay_legal.specs.declared.turn.Turn.TheVariants.{Restart}
use Rattle.hay_legal.specs.Known.{Leaves, closed, disk_count, fault_count, fuse_count, home_of, slot_of, volume_at}
use Rattle.hay_legal.specs.Plain.{IsIdle, LegalDel, LegalFinish, LegalCompact, LegalShow, has_pair, replica_of}
use Rattle.hay_legal.specs.Stands.{Contents, Found, Outside, StandsOn}
use Rattle.hay_legal.specs.Restarts.{LegalRestart}
use Rattle.hay_legal.specs.Statuses.{Ending, IsFront, IsUnopened, IsVoidStill, Interrupted, RestartRefused, TellsFailure, WantsLast}
use Rattle.hay_legal.specs.Statuses.Ending.{ReadAll}
use Rattle.hay_legal.specs.Subject.{NothingFailed}
use Rattle.hay_legal.proofs.Complete.{unreadable_blames}

same_home : (k : Known) (pair : Pair) (v w : ℕ) → home_of k pair ≡ Some v → home_of k pair ≡ Some w → w ≡ v
same_home k pair v w home other = let both : Some v ≡ Some w = sym home ∙ other in cc

-- WANT OF MEMORY CHANGES NOTHING OF WHAT IS CLOSED

-- a deletion on a closed volume neither freezes it again nor takes the place of what is pending
pub no_memory_to_a_deletion : (settings : Settings) (k : Known) (tag : CoreTag) (pair : Pair) (v m : ℕ) (t : Known)
    → home_of k pair ≡ Some v → closed settings k v ≡ Some m → LegalDel settings k tag pair NoMem t → Leaves k k t
no_memory_to_a_deletion settings k tag pair v m t home shut (inl leaves) = leaves
no_memory_to_a_deletion settings k tag pair v m t home shut (inr (w, there, none, froze)) =
    let same : w ≡ v = same_home k pair v w home there in
    let clash : None ≡ Some m = sym none ∙ ap (closed settings k) same ∙ shut in absurd cc

-- nor does a read of a frozen one
pub no_memory_to_a_read : (settings : Settings) (k : Known) (tag : CoreTag) (start : ℕ) (pair : Pair) (cookie : Cookie) (v m : ℕ) (t : Known)
    → home_of k pair ≡ Some v → (volume_at k v).frozen ≡ Some m → LegalShow settings k tag start pair cookie NoMem t → Leaves k k t
no_memory_to_a_read settings k tag start pair cookie v m t home frozen (inl leaves) = leaves
no_memory_to_a_read settings k tag start pair cookie v m t home frozen (inr (w, there, thawed, froze)) =
    let same : w ≡ v = same_home k pair v w home there in
    let clash : None ≡ Some m = sym thawed ∙ ap (λ (u : ℕ). (volume_at k u).frozen) same ∙ frozen in absurd cc

-- nothing is swapped where no compaction stands
pub no_memory_to_a_finish : (settings : Settings) (k : Known) (v m j : ℕ) (t : Known) → IsIdle k v j → LegalFinish settings k v m j NoMem t → Leaves k k t
no_memory_to_a_finish settings k v m j t idle (inl leaves) = leaves
no_memory_to_a_finish settings k v m j t idle (inr (thawed, ready, done)) = let clash : None ≡ Some ready.0.0 = sym idle ∙ ready.0.1 in absurd cc

-- nor behind the last generation
pub no_memory_at_the_last_generation : (settings : Settings) (k : Known) (v m j : ℕ) (t : Known) → (replica_of k v j).generation ≡ LAST_GENERATION
    → LegalCompact settings k v m j NoMem t → Leaves k k t
no_memory_at_the_last_generation settings k v m j t last (inl leaves) = leaves
no_memory_at_the_last_generation settings k v m j t last (inr (thawed, ready, done)) = absurd (let less = ready.1 in omega (arith, less, last))

-- FAILURES

-- a deletion of what stands nowhere freezes nothing
pub failed_deletion_of_nothing : (settings : Settings) (k : Known) (tag : CoreTag) (pair : Pair) (v m f : ℕ) (t : Known)
    → list_any (has_pair (volume_at k v) pair) (volume_at k v).replicas ≡ false → LegalDel settings k tag pair (Failed v m f) t → Leaves k k t
failed_deletion_of_nothing settings k tag pair v m f t nothing h = elim h.leaves [
  | inl leaves ↦ leaves
  | inr froze ↦ let clash = sym nothing ∙ froze.0 in absurd cc
]

-- a read is not refused where no count rose, whatever count is told
pub unreadable_without_a_failure : (settings : Settings) (k : Known) (tag : CoreTag) (start : ℕ) (pair : Pair) (cookie : Cookie) (v p d : ℕ) (causes : List Passed) (t : Known)
    → 0 < settings.replicas → NothingFailed k t → LegalShow settings k tag start pair cookie (Unreadable v p d causes) t → ⊥
unreadable_without_a_failure settings k tag start pair cookie v p d causes t some calm h = unreadable_blames settings k tag start pair v p d causes t some calm h

-- an opening is not refused for a disk whose count did not rise
pub refused_without_a_failure : (settings : Settings) (k : Known) (given : Outside) (note : Note)
    → ((slot : ℕ) → slot < disk_count settings → (given.faults slot ≡ fault_count k slot) × (fault_count k slot < 2 ^ 64 - 1)) → TellsFailure settings k given note → ⊥
refused_without_a_failure settings k given note calm (slot, count, is, within, (inl above, reached)) =
    let here = calm slot within in omega (arith, above, reached, here.0)
refused_without_a_failure settings k given note calm (slot, count, is, within, (inr at_end, reached)) =
    let here = calm slot within in omega (arith, at_end, reached, here.0, here.1)

-- ENDINGS

-- a restart that wanted memory is not gone on from
pub restart_without_memory_goes_on : (line pick : ℕ) (notes : List Note) (after : Known) (next : Turn) (turns before : List Turn) (ending : Ending)
    → WantsLast ending (before ++ Restart line pick NoMem notes after ∷ next ∷ turns) → ⊥
restart_without_memory_goes_on line pick notes after next turns before ending wants =
    let last = wants before line pick notes after (next ∷ turns) refl in let clash = last.0 in cc

-- and the run does not end as one whose script was read
pub restart_without_memory_ends_well : (line pick : ℕ) (notes : List Note) (after : Known) (before : List Turn) → WantsLast ReadAll (before ++ Restart line pick NoMem notes after ∷ []) → ⊥
restart_without_memory_ends_well line pick notes after before wants = elim (wants before line pick notes after [] refl).1 [
  | inl is ↦ cc
  | inr is ↦ cc
]

-- nor is it followed by one that is refused
pub restart_refused_behind_a_wanting_one : (replica : Settings → ℕ → ℕ → Contents → Found → Type 0) (rows : Settings → Contents → List HomeRow → Type 0) (void : Contents → Type 0)
    (settings : Settings) (k : Known) (script read : List ℕ) (taken : Outside)
    (before : List Turn) (line pick : ℕ) (notes : List Note) (after t : Known) (written : List ℕ) (given : Outside) (Much : List ℕ → List ℕ → Type 0)
    → RestartRefused replica rows void settings k script read taken (before ++ Restart line pick NoMem notes after ∷ []) t written given Much → ⊥
restart_refused_behind_a_wanting_one replica rows void settings k script read taken before line pick notes after t written given Much refused =
    refused.answered before line pick notes after [] refl

module _ (replica : Settings → ℕ → ℕ → Contents → Found → Type 0) (rows : Settings → Contents → List HomeRow → Type 0) (void : Contents → Type 0) (settings : Settings) (k : Known)
    (script read : List ℕ) (taken : Outside) (turn : Turn) (turns : List Turn) (t : Known) (written : List ℕ) (given : Outside) where
  -- Behind a turn the disks given back hold what was acknowledged, but for a restart that is the next item and was refused.
  pub acknowledged_is_held : Interrupted replica rows void settings k script read taken (turn ∷ turns) t written given
      → StandsOn (replica settings) (rows settings) settings t given ⊎ RestartRefused replica rows void settings k script read taken (turn ∷ turns) t written given IsFront
  acknowledged_is_held (inl stood) = inl stood.stands
  acknowledged_is_held (inr (inl never)) = let clash = never.none in absurd cc
  acknowledged_is_held (inr (inr (inl first))) = let clash = first.none in absurd cc
  acknowledged_is_held (inr (inr (inr again))) = inr again

module _ (replica : Settings → ℕ → ℕ → Contents → Found → Type 0) (rows : Settings → Contents → List HomeRow → Type 0) (void : Contents → Type 0) (settings : Settings) (k : Known)
    (script read : List ℕ) (byte : ℕ) (taken : Outside) (turns : List Turn) (t : Known) (written : List ℕ) (given : Outside) where
  -- So they do as soon as a byte of the script was read, turns or none.
  pub read_behind_an_opening : Interrupted replica rows void settings k script (byte ∷ read) taken turns t written given
      → StandsOn (replica settings) (rows settings) settings t given ⊎ RestartRefused replica rows void settings k script (byte ∷ read) taken turns t written given IsFront
  read_behind_an_opening (inl stood) = inl stood.stands
  read_behind_an_opening (inr (inl never)) = let clash = never.unread in absurd cc
  read_behind_an_opening (inr (inr (inl first))) = let clash = first.unread in absurd cc
  read_behind_an_opening (inr (inr (inr again))) = inr again

-- A VOID DISK AT A FIRST OPENING THAT WAS REFUSED

-- a void disk that was formatted in part has no photo that an opening would find, by whatever settings
pub stranger_in_a_void_disk : (replica : Settings → ℕ → ℕ → Contents → Found → Type 0) (rows : Settings → Contents → List HomeRow → Type 0) (void : Contents → Type 0)
    (settings other : Settings) (taken : Outside) (image : ℕ → Contents) (v j : ℕ) (contents : Contents) (found : Found) (first : Pair × Photo) (others : Table)
    → v < other.volumes → j < other.replicas → IsVoidStill replica rows void settings taken image (slot_of other v j) contents
    → replica other v j (image (slot_of other v j)) found → found.table ≡ first ∷ others → ⊥
stranger_in_a_void_disk replica rows void settings other taken image v j contents found first others below within still finds is =
    let none : found.table ≡ [] = ap (λ (f : Found). f.table) ((still.nothing other).replicas v j below within refl found finds) in
    let clash = sym none ∙ is in absurd cc

-- no refused opening sets a fuse
pub fuse_at_a_refused_opening : (replica : Settings → ℕ → ℕ → Contents → Found → Type 0) (rows : Settings → Contents → List HomeRow → Type 0) (void : Contents → Type 0)
    (settings : Settings) (k : Known) (taken given : Outside) (slot : ℕ) → slot < disk_count settings → fuse_count k slot < given.fuses slot
    → IsUnopened replica rows void settings k taken given → ⊥
fuse_at_a_refused_opening replica rows void settings k taken given slot below set never = omega (arith, set, never.fuses slot below)

-- ARMS

-- no opening uses an arm
pub restart_uses_an_arm : (settings : Settings) (k : Known) (reply : Reply) (notes : List Note) (t : Known) → LegalRestart settings k reply notes t → t.arms ≡ k.arms
restart_uses_an_arm settings k (Restarted d) notes t h = (h.opened).arms
restart_uses_an_arm settings k NoMem notes t h = (h.leaves).arms
restart_uses_an_arm settings k _ notes t h = absurd h
