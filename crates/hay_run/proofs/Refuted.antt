-- Causes of texts that no run has, each as a lemma.
use Rattle.std.proofs.Common.{◌≡◌, ◌≢◌, ◌⊎◌, ℕ, zero, suc, ◌+◌, ◌*◌, ◌-◌, ◌%◌, ◌^◌, ◌<◌, ◌≤◌, List, [], ◌∷◌, ◌++◌, length, Option, Some, None, refl, sym, ap, subst, ◌∙◌, inl, inr, arith}
use Rattle.std.proofs.Math.Nat.{mod-eq_of_lt, mod-lt}
use Rattle.std.proofs.lemmas.Bool.{cases_eq}
use Rattle.std.proofs.lemmas.List.{append_cancel_left, append_cancel_right}
use Rattle.std.specs.Prelude.{Bool, true, false, codes, decimal, drop, map, replicate, slice_index, slice_index_or, slice_set}
use Rattle.std.specs.List.{AllByRecursion, AllZip, range_with_len}
use Rattle.hay_disk.specs.Counts.{IsNext, Rose}
use Rattle.hay_needle.specs.declared.needle.CellHead.{CellHead}
use Rattle.hay_needle.specs.declared.needle.Cookie.{Cookie}
use Rattle.hay_needle.specs.declared.needle.Needle.{Needle}
use Rattle.hay_needle.specs.declared.needle.Pair.{Pair}
use Rattle.hay_needle.specs.declared.settings.Settings.{Settings}
use Rattle.hay_needle.specs.declared.total.TheConstants.{MAX_NEEDLE, MAX_PHOTO}
use Rattle.hay_needle.specs.declared.needle.Version.TheVariants.{Two}
use Rattle.hay_needle.specs.Needle.{BeginsWithNeedle, needle_of_cell}
use Rattle.hay_needle.specs.Sizes.{max_photo, needle_total}
use Rattle.hay_needle.specs.declared.settings.TheConstants.{LAST_GENERATION}
use Rattle.hay_url.specs.declared.Url.{Url as UrlParts}
use Rattle.hay_core.specs.declared.entry.CoreTag.{CoreTag}
use Rattle.hay_script.specs.declared.Command.{Command}
use Rattle.hay_script.specs.declared.Command.TheVariants as asks
use Rattle.hay_reply.specs.declared.Cause.{Cause}
use Rattle.hay_reply.specs.declared.Cause.TheVariants.{Arm, Damage, Disk}
use Rattle.hay_reply.specs.declared.Note.TheVariants.{OpenDamaged}
use Rattle.hay_reply.specs.declared.Passed.{Passed}
use Rattle.hay_reply.specs.declared.ClosedBy.{ClosedBy}
use Rattle.hay_reply.specs.declared.Refused.{Refused}
use Rattle.hay_reply.specs.declared.Refused.TheVariants.{NoRoom}
use Rattle.hay_reply.specs.declared.Reply.{Reply}
use Rattle.hay_reply.specs.declared.Reply.TheVariants.{Absent, Begun, Compacted, Damaged, Deleted, Failed, Flushed, Full, Gone, Idle, NoMem, Photo, ReadOnly, Stepped, Stored, Unknown, Unreadable}
use Rattle.hay_reply.specs.Fits.{FitsReply}
use Rattle.hay_reply.specs.Replies.{numbered_line, reply_text}
use Rattle.hay_reply.specs.Reading.{reply_of, words_of}
use Rattle.hay_reply.proofs.Back.{back_reply}
use Rattle.hay_legal.specs.Known.{CameUp, disk_count, home_in, machine_of, replica_on, slot_of, tries_by}
use Rattle.hay_legal.specs.Plain.{as_closed, order_from}
use Rattle.hay_legal.specs.Stands.{Contents, Outside}
use Rattle.hay_legal.specs.Statuses.{read_contents}
use Rattle.hay_legal.specs.Suiting.{Suits, start_at}
use Rattle.hay_logical.specs.declared.fault.LogicalFault.{LogicalFault}
use Rattle.hay_logical.specs.declared.fault.LogicalFault.TheVariants as refusal
use Rattle.hay_logical.specs.declared.unsure.Change.TheVariants as change
use Rattle.hay_logical.specs.declared.unsure.Unsure.{Unsure}
use Rattle.hay_logical.specs.Notes.{IsToldPlace, ToldUnsure}
use Rattle.hay_open.specs.Stored.{OpensAs, Stored as WasStored, volume_file}
use Rattle.hay_open.proofs.Faults.{past_the_last}
use Rattle.hay_volume.specs.Needles.{HasNeedleOf, LacksNeedleOf, LacksNeedleWithin}
use Rattle.hay_volume.proofs.Readings.{cell_begins}
use Rattle.hay_logical.specs.Fits.{At, super_of}
use Rattle.hay_logical.specs.Needles.{HeadsLead, HeadsLeadOn, IsToldBy, LacksCell, LacksSeen}
use Rattle.hay_logical.proofs.Damages.{BreaksBehind, broken_ends}
use Rattle.hay_logical.specs.Seen.{BeginRefusedSeen, FlushRefusedSeen, IsFoundAs, IsFresh, MeetsDamage, PutSeen, ReplicaSeen, RoomSeen, SeesAt, SeesRoom, StepRefusedSeen, StepsTo, VolumeSeen, begun}
use Rattle.hay_logical.specs.Sights.{AwaitsLook, AwaitsLookAt, IsLiveSight, LiesWithin, Looks, LooksAtPair, SeesAll, Sight, Sights, StoresSights, SwapsSights, gone_sight}
use Rattle.hay_logical.specs.Sights.Sight.{Gone as WasGone, Live, Never, Unseen}
use Rattle.hay_legal.specs.declared.known.HomeRow.{HomeRow}
use Rattle.hay_directory.specs.Rows.{OpensRows}
use Rattle.hay_directory.proofs.RowLaws.{opens_once}
use Rattle.hay_cluster.specs.Causes.{Counts, EndsRuns, LeavesFuses}
use Rattle.hay_cluster.specs.Leaving.{AnySlot, IsApartOn, KeepsIn, LeavesByPut, LeavesByWork, LeavesContents, MayAddRow, MayPut}
use Rattle.hay_cluster.specs.Maintenance.{IsRefusedAs}
use Rattle.hay_cluster.specs.Needles.{AreToldAs, DeletesAsTold, FileAt, FreezesAt, IsDamagedLookOn, LacksFor, LacksPlace, MeetsNeedles, TellsDamage}
use Rattle.hay_cluster.specs.Passing.{CauseCameUp, PassesBefore, PassesOver, StandsFor, TriesTo}
use Rattle.hay_cluster.specs.Seen.{Answers, AnswersPut, Closes, GetsHome, IsFrozenBy, IsThawed, MovesVolume, OpensSeen, OpensVolumeSeen, PlacesLie, RefusesPhoto, StoreSeen}
use Rattle.hay_cluster.specs.Seen.{TakesPhotoAt, VolumeAt, home_seen, is_drained}
use Rattle.hay_cluster.specs.Sights.{ChangesPhotos, IsAbsent, LeavesSights, SeesOn}
use Rattle.hay_cluster.specs.Store.{IsBuilt}
use Rattle.hay_legal.proofs.Machines.{replica_found, same_machine}
use Rattle.hay_cluster.proofs.OpeningStore.{slot_below}
use Rattle.hay_run.specs.Causing.{BeginsAt, HasSureArm, IsNoteCaused, IsReplyText, IsRestartText, Tally, plain_tag}
use Rattle.hay_run.specs.Runs.{IsFirstRefusal}
use Rattle.hay_run.proofs.Counting.{arm_there}

-- a flush that changed what reads give of a disk but the replica's
pub flush_elsewhere : (Tells : Type 0) (settings : Settings) (before after : Tally) (v m number slot file : ℕ) (text : List ℕ) → Tells → slot < disk_count settings → IsApartOn settings v m slot
    → (after.contents slot file ≡ before.contents slot file → ⊥) → IsReplyText Tells settings before after (asks.Flush v m) number text → ⊥
flush_elsewhere Tells settings before after v m number slot file text tells within apart changed told =
    elim (told.contents tells) [ inl work ↦ changed (work.1 slot file within apart) | inr keeps ↦ changed (keeps slot file within tt) ]

-- a read that changed what reads give of any disk
pub read_with_a_change : (Tells : Type 0) (settings : Settings) (before after : Tally) (pair : Pair) (cookie : Cookie) (number slot file : ℕ) (text : List ℕ) → Tells → slot < disk_count settings
    → (after.contents slot file ≡ before.contents slot file → ⊥) → IsReplyText Tells settings before after (asks.Read pair cookie) number text → ⊥
read_with_a_change Tells settings before after pair cookie number slot file text tells within changed told = changed (told.contents tells slot file within tt)

-- a put that was refused for want of room, and changed a disk
full_not_made : (settings : Settings) (tries : List Refused) (before after : List VolumeSeen) (old new : ℕ → Contents) (v : ℕ) → MayPut (Full tries) before after old new settings v → ⊥
full_not_made settings tries before after old new v (inl (p, d, c, is)) = cc
full_not_made settings tries before after old new v (inr (inl (m, f, is, keeps))) = cc
full_not_made settings tries before after old new v (inr (inr (is, pends))) = cc

full_adds_none : (tries : List Refused) → MayAddRow (Full tries) → ⊥
full_adds_none tries (inl (v, p, d, c, is)) = cc
full_adds_none tries (inr (inl (v, m, f, is))) = cc
full_adds_none tries (inr (inr (inl (f, is)))) = cc
full_adds_none tries (inr (inr (inr is))) = cc

pub full_with_a_change : (settings : Settings) (pair : Pair) (before after : List VolumeSeen) (old new : ℕ → Contents) (tries : List Refused) (slot file : ℕ) → slot < disk_count settings
    → (new slot file ≡ old slot file → ⊥) → LeavesByPut settings pair (Full tries) before after old new → ⊥
full_with_a_change settings pair before after old new tries zero file within changed leaves =
    elim (leaves.rows) [ inl row ↦ full_adds_none tries row.0 | inr same ↦ changed (ap (λ (contents : Contents). contents file) same) ]
full_with_a_change settings pair before after old new tries (suc slot) file within changed leaves =
    elim (leaves.replicas) [ inl put ↦ full_not_made settings tries before after old new put.0 put.1 | inr keeps ↦ changed (keeps (suc slot) file within (λ is. cc)) ]

-- a restart that used an arm
pub restart_with_an_arm : (Tells : Type 0) (settings : Settings) (before after : Tally) (pick number : ℕ) (text : List ℕ) → (after.counts.arms ≡ before.counts.arms → ⊥)
    → IsRestartText Tells settings before after (asks.Restart pick) number text → ⊥
restart_with_an_arm Tells settings before after pick number text used (p, rows, notes, asked, large, tells, fits, opens, many, arms, is, sound) = used arms

-- a fuse of the Directory's disk that was told, and not set
pub fused_without_a_fuse : (Tells : Type 0) (settings : Settings) (taken : Outside) (sure : ℕ → Bool) (before after : Tally) (calls : ℕ) → BeginsAt Tells settings taken sure before
    → slice_index before.fuses 0 < 2 ^ 64 - 1
    → after.fuses ≡ before.fuses → LeavesFuses settings (asks.FuseDir calls) before.fuses after.fuses → ⊥
fused_without_a_fuse Tells settings taken sure before after calls begins low same (n, next, set) = unset before.fuses begins.fused (sym same ∙ set) low next
  where
    unset : (fuses : List ℕ) → length fuses ≡ disk_count settings → fuses ≡ slice_set fuses 0 n → slice_index fuses 0 < 2 ^ 64 - 1
        → IsNext (slice_index fuses 0) n → ⊥
    unset [] many is low next = omega (arith, many)
    unset (f ∷ fuses) many is low next =
        let here : f ≡ n = cc in
        elim next [ inl more ↦ omega (arith, more, here) | inr end ↦ omega (arith, end, here, low) ]

-- damage of a disk that the store has not
pub damage_outside : (Tells : Type 0) (settings : Settings) (before after : Tally) (slot file at : ℕ) → disk_count settings ≤ slot
    → IsNoteCaused Tells settings before after (OpenDamaged slot file at) → ⊥
damage_outside Tells settings before after slot file at high cause = let within = (cause.0).0 in omega (arith, within, high)

pub damage_outside_at_first : (Tells : Type 0) (settings : Settings) (taken given : Outside) (slot file at : ℕ) → disk_count settings ≤ slot
    → IsFirstRefusal Tells settings taken given (OpenDamaged slot file at) → ⊥
damage_outside_at_first Tells settings taken given slot file at high (inl (count, is, rose, told)) = cc
damage_outside_at_first Tells settings taken given slot file at high (inr (inl (other, (count, is, within, rose, told), lowest))) = cc
damage_outside_at_first Tells settings taken given slot file at high (inr (inr (other, f, a, is, within, why))) =
    let same : slot ≡ other = cc in let low = within.0 in omega (arith, same, low, high)

-- damage of the Directory's disk in another file than its journal
pub damage_in_another_file : (Tells : Type 0) (settings : Settings) (before after : Tally) (file at : ℕ) → file ≢ 0 → IsNoteCaused Tells settings before after (OpenDamaged 0 file at) → ⊥
damage_in_another_file Tells settings before after file at other cause = other ((cause.0).1.0 refl)

pub damage_in_another_file_at_first : (Tells : Type 0) (settings : Settings) (taken given : Outside) (file at : ℕ) → file ≢ 0 → IsFirstRefusal Tells settings taken given (OpenDamaged 0 file at) → ⊥
damage_in_another_file_at_first Tells settings taken given file at other (inl (count, is, rose, told)) = cc
damage_in_another_file_at_first Tells settings taken given file at other (inr (inl (slot, (count, is, within, rose, told), lowest))) = cc
damage_in_another_file_at_first Tells settings taken given file at other (inr (inr (slot, f, a, is, within, why))) =
    let here : slot ≡ 0 = cc in let same : file ≡ f = cc in other (same ∙ within.1.0 here)

-- damage of a replica's disk behind the files of the last generation
pub damage_past_the_last : (Tells : Type 0) (settings : Settings) (before after : Tally) (slot file at : ℕ) → 0 < slot → 131072 < file
    → IsNoteCaused Tells settings before after (OpenDamaged slot file at) → ⊥
damage_past_the_last Tells settings before after slot file at behind far cause = past_the_last file far ((cause.0).1.1 behind)

pub damage_past_the_last_at_first : (Tells : Type 0) (settings : Settings) (taken given : Outside) (slot file at : ℕ) → 0 < slot → 131072 < file
    → IsFirstRefusal Tells settings taken given (OpenDamaged slot file at) → ⊥
damage_past_the_last_at_first Tells settings taken given slot file at behind far (inl (count, is, rose, told)) = cc
damage_past_the_last_at_first Tells settings taken given slot file at behind far (inr (inl (other, (count, is, within, rose, told), lowest))) = cc
damage_past_the_last_at_first Tells settings taken given slot file at behind far (inr (inr (other, f, a, is, within, why))) =
    let own : slot ≡ other = cc in let same : file ≡ f = cc in past_the_last f (omega (arith, far, same)) (within.1.1 (omega (arith, behind, own)))

-- WHAT IS SEEN OF VOLUMES AND THE DIRECTORY

-- one line has one reply
same_reply : (number : ℕ) (a b : Reply) → FitsReply a → FitsReply b → numbered_line number a ≡ numbered_line number b → a ≡ b
same_reply number a b fits fits' same =
    let line = append_cancel_right (decimal number ++ codes " " ++ reply_text a) (decimal number ++ codes " " ++ reply_text b) (codes "\n") same in
    let text : reply_text a ≡ reply_text b = append_cancel_left (decimal number ++ codes " ") (reply_text a) (reply_text b) line in
    let one : Some a ≡ Some b = sym (back_reply a fits) ∙ ap (λ (l : List ℕ). reply_of (words_of l)) text ∙ back_reply b fits' in cc

-- a line that answers a command with this reply
abbrev pub Says : Type 0 → Settings → Tally → Tally → Command → ℕ → Reply → Type 0
Says Tells settings before after command number said = FitsReply said × IsReplyText Tells settings before after command number (numbered_line number said)

-- one that the command may be given
suits_so : (Tells : Type 0) (settings : Settings) (before after : Tally) (command : Command) (number : ℕ) (said : Reply) → Says Tells settings before after command number said
    → Suits settings number command said
suits_so Tells settings before after command number said (large, told) =
    subst (λ (r : Reply). Suits settings number command r) (sym (same_reply number said told.said large told.fits told.is)) told.suits

-- how it is answered, then
answers_so : (Tells : Type 0) (settings : Settings) (before after : Tally) (command : Command) (number : ℕ) (said : Reply) → Says Tells settings before after command number said
    → Answers settings (plain_tag number) command said before.seen after.seen
answers_so Tells settings before after command number said (large, told) =
    subst (λ (r : Reply). Answers settings (plain_tag number) command r before.seen after.seen) (sym (same_reply number said told.said large told.fits told.is)) told.answers

-- and what reads of the disks give
contents_so : (Tells : Type 0) (settings : Settings) (before after : Tally) (command : Command) (number : ℕ) (said : Reply) → Tells → Says Tells settings before after command number said
    → LeavesContents settings command said (before.seen).volumes (after.seen).volumes before.contents after.contents
contents_so Tells settings before after command number said tells (large, told) =
    subst (λ (r : Reply). LeavesContents settings command r (before.seen).volumes (after.seen).volumes before.contents after.contents)
    (sym (same_reply number said told.said large told.fits told.is)) (told.contents tells)

-- and what is seen of photos
pub sights_so : (Tells : Type 0) (settings : Settings) (before after : Tally) (command : Command) (number : ℕ) (said : Reply) → Says Tells settings before after command number said
    → LeavesSights settings command said before.seen after.seen
sights_so Tells settings before after command number said (large, told) =
    subst (λ (r : Reply). LeavesSights settings command r before.seen after.seen) (sym (same_reply number said told.said large told.fits told.is)) told.sights

-- and which replicas were passed over
passes_so : (Tells : Type 0) (settings : Settings) (before after : Tally) (command : Command) (number : ℕ) (said : Reply) → Says Tells settings before after command number said
    → PassesBefore Tells settings (HasSureArm before 0) after.contents (plain_tag number) command before.counts after.counts after.seen said
passes_so Tells settings before after command number said (large, told) =
    let P : Reply → Type 0 = λ r. PassesBefore Tells settings (HasSureArm before 0) after.contents (plain_tag number) command before.counts after.counts after.seen r in
    subst P (sym (same_reply number said told.said large told.fits told.is)) told.passes

-- and which compactions it ended
ended_so : (Tells : Type 0) (settings : Settings) (before after : Tally) (command : Command) (number : ℕ) (said : Reply) → Says Tells settings before after command number said
    → EndsRuns settings said before.seen after.seen before.counts.disks after.counts.disks
ended_so Tells settings before after command number said (large, told) =
    subst (λ (r : Reply). EndsRuns settings r before.seen after.seen before.counts.disks after.counts.disks) (sym (same_reply number said told.said large told.fits told.is)) told.ended

-- the volume that a put got took its photo
takes : (settings : Settings) (pair : Pair) (size v : ℕ) (old new : StoreSeen) → GetsHome settings pair size v old new → TakesPhotoAt settings old size v
takes settings pair size v old new (inl (home, taking, kept)) = taking
takes settings pair size v old new (inr ((before, refused, after, tries, aside, taking), moves)) = taking

-- a put that was stored in a volume with a replica on a drained machine
pub stored_on_a_drained_machine : (Tells : Type 0) (settings : Settings) (before after : Tally) (pair : Pair) (photo : List ℕ) (number v p d j : ℕ) (cookie : Cookie)
    → j < settings.replicas → is_drained before.seen (machine_of settings v j) ≡ true → Says Tells settings before after (asks.Put pair photo) number (Stored v p d cookie) → ⊥
stored_on_a_drained_machine Tells settings before after pair photo number v p d j cookie within drained says =
    let answers : AnswersPut settings (plain_tag number) pair (length photo) (Stored v p d cookie) before.seen after.seen =
    answers_so Tells settings before after (asks.Put pair photo) number (Stored v p d cookie) says in
    let took = takes settings pair (length photo) v before.seen answers.0.0 answers.0.1 in
    let undrained = took.0.1 j within in cc

-- nothing is pending in a volume that is thawed
settled_at : (seen : StoreSeen) (v : ℕ) (volume : VolumeSeen) → At seen.volumes v volume → IsThawed seen v → volume.unsure ≡ None
settled_at seen v volume there (other, at, (thawed, settled)) =
    let same : Some volume ≡ Some other = sym there ∙ at in
    let is : volume ≡ other = cc in
    subst (λ (o : VolumeSeen). o.unsure ≡ None) (sym is) settled

-- a put that failed at a volume where a change was pending before
pub pending_twice : (Tells : Type 0) (settings : Settings) (before after : Tally) (pair : Pair) (photo : List ℕ) (number v m n : ℕ) (volume : VolumeSeen) (u : Unsure)
    → At (before.seen).volumes v volume → volume.unsure ≡ Some u → Says Tells settings before after (asks.Put pair photo) number (Failed v m n) → ⊥
pending_twice Tells settings before after pair photo number v m n volume u there pends says =
    let answers : AnswersPut settings (plain_tag number) pair (length photo) (Failed v m n) before.seen after.seen =
    answers_so Tells settings before after (asks.Put pair photo) number (Failed v m n) says in
    let took = takes settings pair (length photo) v before.seen answers.0 answers.1 in
    let settled : volume.unsure ≡ None = settled_at before.seen v volume there took.0.0 in cc

none_drained : (n m : ℕ) → slice_index_or (replicate n false) m false ≡ true → ⊥
none_drained zero m is = cc
none_drained (suc n) zero is = cc
none_drained (suc n) (suc m) is = none_drained n m is

at_all : {X : Type 0} (Is : X → Type 0) (xs : List X) (v : ℕ) (x : X) → AllByRecursion Is xs → At xs v x → Is x
at_all Is [] v x all at = cc
at_all Is (y ∷ ys) zero x (is, all) at = let same : y ≡ x = cc in subst Is same is
at_all Is (y ∷ ys) (suc v) x (is, all) at = at_all Is ys v x all at

nothing_closes : (settings : Settings) (seen : StoreSeen) (v m : ℕ) → OpensSeen settings seen → Closes settings seen v m → ⊥
nothing_closes settings seen v m opens (inl (volume, there, frozen)) =
    let thawed : volume.frozen ≡ None = (at_all (OpensVolumeSeen settings) seen.volumes v volume opens.volumes there).0.thawed in cc
nothing_closes settings seen v m opens (inr (thawed, first)) =
    none_drained settings.machines m (subst (λ (l : List Bool). slice_index_or l m false ≡ true) opens.directory.drained first.drained)

-- a put that was refused as read-only in a store that was just opened
pub readonly_with_nothing_closed : (Tells : Type 0) (settings : Settings) (before after : Tally) (pair : Pair) (photo : List ℕ) (number : ℕ) (by : ClosedBy) (tries : List ClosedBy)
    → OpensSeen settings before.seen → Says Tells settings before after (asks.Put pair photo) number (ReadOnly (by ∷ tries)) → ⊥
readonly_with_nothing_closed Tells settings before after pair photo number by tries opens says =
    let answers : AnswersPut settings (plain_tag number) pair (length photo) (ReadOnly (by ∷ tries)) before.seen after.seen =
    answers_so Tells settings before after (asks.Put pair photo) number (ReadOnly (by ∷ tries)) says in
    first (tries_by settings pair (home_seen before.seen pair)) answers.1
  where
    first : (tried : List ℕ) → AllZip (RefusesPhoto settings before.seen (length photo)) tried (map as_closed (by ∷ tries)) → ⊥
    first [] all = all
    first (v ∷ vs) (refuses, all) = nothing_closes settings before.seen by.volume by.machine opens refuses.1

-- a put that was refused for want of room where each replica of the volume has room
pub full_with_room : (Tells : Type 0) (settings : Settings) (before after : Tally) (pair : Pair) (photo : List ℕ) (number v m end need : ℕ) (volume : VolumeSeen)
    → At (before.seen).volumes v volume → RoomSeen settings (length photo) volume
    → Says Tells settings before after (asks.Put pair photo) number (Full (NoRoom v m end need ∷ [])) → ⊥
full_with_room Tells settings before after pair photo number v m end need volume there room says =
    let answers : AnswersPut settings (plain_tag number) pair (length photo) (Full (NoRoom v m end need ∷ [])) before.seen after.seen =
    answers_so Tells settings before after (asks.Put pair photo) number (Full (NoRoom v m end need ∷ [])) says in
    first (tries_by settings pair (home_seen before.seen pair)) answers.1
  where
    lacks : (r : ReplicaSeen) → SeesRoom settings.capacity (length photo) r → settings.capacity < r.end + needle_total (length photo) + 8 → ⊥
    lacks r fits lack = omega (arith, fits, lack)

    first : (tried : List ℕ) → AllZip (RefusesPhoto settings before.seen (length photo)) tried (NoRoom v m end need ∷ []) → ⊥
    first [] all = all
    first (w ∷ ws) ((refuses, (opens, (other, at, full))), all) =
        let same : Some volume ≡ Some other = sym there ∙ at in
        let is : volume ≡ other = cc in
        let fits : RoomSeen settings (length photo) other = subst (λ (o : VolumeSeen). RoomSeen settings (length photo) o) is room in
        lacks full.replica (fits.1 full.at full.replica full.there) full.lacks

-- a photo that was stored at another position than the next
pub stored_at_another_position : (Tells : Type 0) (settings : Settings) (before after : Tally) (pair : Pair) (photo : List ℕ) (number v p d : ℕ) (cookie : Cookie) (volume : VolumeSeen)
    → At (before.seen).volumes v volume → (p ≡ volume.front + 1 → ⊥) → Says Tells settings before after (asks.Put pair photo) number (Stored v p d cookie) → ⊥
stored_at_another_position Tells settings before after pair photo number v p d cookie volume there other says =
    let answers : AnswersPut settings (plain_tag number) pair (length photo) (Stored v p d cookie) before.seen after.seen =
    answers_so Tells settings before after (asks.Put pair photo) number (Stored v p d cookie) says in
    at answers.0.0 answers.0.1 answers.0.2
  where
    kept : (mid : StoreSeen) → GetsHome settings pair (length photo) v before.seen mid → mid.volumes ≡ (before.seen).volumes
    kept mid (inl (home, taking, keeps)) = keeps.volumes
    kept mid (inr (taker, settles)) = settles.volumes

    at : (mid : StoreSeen) → GetsHome settings pair (length photo) v before.seen mid → MovesVolume v (PutSeen (length photo) p) mid after.seen → ⊥
    at mid gets moves =
        let was : At (before.seen).volumes v moves.before = subst (λ (l : List VolumeSeen). At l v moves.before) (kept mid gets) moves.was in
        let same : Some volume ≡ Some moves.before = sym there ∙ was in
        let is : volume ≡ moves.before = cc in
        let next : p ≡ (moves.before).front + 1 = moves.moves.0 in
        other (subst (λ (o : VolumeSeen). p ≡ o.front + 1) (sym is) next)

-- a pair with a home that is told as unknown
pub unknown_with_a_home : (Tells : Type 0) (settings : Settings) (before after : Tally) (pair : Pair) (cookie : Cookie) (number v d : ℕ)
    → home_seen before.seen pair ≡ Some v → Says Tells settings before after (asks.Read pair cookie) number (Unknown d) → ⊥
unknown_with_a_home Tells settings before after pair cookie number v d home says = shown (answers_so Tells settings before after (asks.Read pair cookie) number (Unknown d) says)
  where
    shown : Answers settings (plain_tag number) (asks.Read pair cookie) (Unknown d) before.seen after.seen → ⊥
    shown (keeps, (none, rows)) = let is : home_seen before.seen pair ≡ None = none in cc

-- WORK

-- a reply that was printed tells of no refusal but its own
flushed_is_no_refusal : (v m n : ℕ) (fault : LogicalFault) → IsRefusedAs v m fault (Flushed v m n) → ⊥
flushed_is_no_refusal v m n (refusal.ReadOnly by) (inl is) = cc
flushed_is_no_refusal v m n (refusal.ReadOnly by) (inr is) = cc
flushed_is_no_refusal v m n (refusal.Failed m' f) is = cc
flushed_is_no_refusal v m n (refusal.Busy m' generation) is = cc
flushed_is_no_refusal v m n (refusal.Worn m') is = cc
flushed_is_no_refusal v m n refusal.Idle is = cc
flushed_is_no_refusal v m n (refusal.Damaged m' at) is = cc
flushed_is_no_refusal v m n refusal.NoMemory is = cc
flushed_is_no_refusal v m n (refusal.Full m' end need capacity) is = is
flushed_is_no_refusal v m n (refusal.Gone front) is = is

begun_is_no_refusal : (v m n : ℕ) (fault : LogicalFault) → IsRefusedAs v m fault (Begun v m n) → ⊥
begun_is_no_refusal v m n (refusal.ReadOnly by) (inl is) = cc
begun_is_no_refusal v m n (refusal.ReadOnly by) (inr is) = cc
begun_is_no_refusal v m n (refusal.Failed m' f) is = cc
begun_is_no_refusal v m n (refusal.Busy m' generation) is = cc
begun_is_no_refusal v m n (refusal.Worn m') is = cc
begun_is_no_refusal v m n refusal.Idle is = cc
begun_is_no_refusal v m n (refusal.Damaged m' at) is = cc
begun_is_no_refusal v m n refusal.NoMemory is = cc
begun_is_no_refusal v m n (refusal.Full m' end need capacity) is = is
begun_is_no_refusal v m n (refusal.Gone front) is = is

stepped_is_no_refusal : (v m n : ℕ) (fault : LogicalFault) → IsRefusedAs v m fault (Stepped v m n) → ⊥
stepped_is_no_refusal v m n (refusal.ReadOnly by) (inl is) = cc
stepped_is_no_refusal v m n (refusal.ReadOnly by) (inr is) = cc
stepped_is_no_refusal v m n (refusal.Failed m' f) is = cc
stepped_is_no_refusal v m n (refusal.Busy m' generation) is = cc
stepped_is_no_refusal v m n (refusal.Worn m') is = cc
stepped_is_no_refusal v m n refusal.Idle is = cc
stepped_is_no_refusal v m n (refusal.Damaged m' at) is = cc
stepped_is_no_refusal v m n refusal.NoMemory is = cc
stepped_is_no_refusal v m n (refusal.Full m' end need capacity) is = is
stepped_is_no_refusal v m n (refusal.Gone front) is = is

-- what is seen of a volume, and of its replica on this machine
pub record SeesReplica (settings : Settings) (seen : StoreSeen) (v m : ℕ) (r : ReplicaSeen) : Type 0 where
  pub volume : VolumeSeen
  pub there : At seen.volumes v volume
  pub at : ℕ
  pub on : replica_on settings v m ≡ Some at
  pub is : At volume.replicas at r

-- is what work there meets
same_replica : (settings : Settings) (seen : StoreSeen) (v m at : ℕ) (r met : ReplicaSeen) (volume : VolumeSeen) → SeesReplica settings seen v m r
    → replica_on settings v m ≡ Some at → At seen.volumes v volume → At volume.replicas at met → r ≡ met
same_replica settings seen v m at r met volume sees on there is =
    let one : Some sees.at ≡ Some at = sym sees.on ∙ on in
    let same_at : sees.at ≡ at = cc in
    let two : Some sees.volume ≡ Some volume = sym sees.there ∙ there in
    let same_volume : sees.volume ≡ volume = cc in
    let old : At volume.replicas sees.at r = subst (λ (o : VolumeSeen). At o.replicas sees.at r) same_volume sees.is in
    let here : At volume.replicas at r = subst (λ j. At volume.replicas j r) same_at old in
    let three : Some r ≡ Some met = sym here ∙ is in cc

-- a flush that told another number of cells than had no record
pub flushed_another_number : (Tells : Type 0) (settings : Settings) (before after : Tally) (v m n number : ℕ) (r : ReplicaSeen) → SeesReplica settings before.seen v m r
    → (n ≡ r.bare → ⊥) → Says Tells settings before after (asks.Flush v m) number (Flushed v m n) → ⊥
flushed_another_number Tells settings before after v m n number r sees other says =
    done (answers_so Tells settings before after (asks.Flush v m) number (Flushed v m n) says)
  where
    done : Answers settings (plain_tag number) (asks.Flush v m) (Flushed v m n) before.seen after.seen → ⊥
    done (inl (none, nowhere, keeps)) = cc
    done (inr (inl (at, told, on, is, moves))) =
        let change = moves.moves.1 in
        let same = same_replica settings before.seen v m at r change.before moves.before sees on moves.was change.was in
        let many : n ≡ told = cc in
        let bare : told ≡ (change.before).bare = change.becomes.1 in
        other (subst (λ (o : ReplicaSeen). n ≡ o.bare) (sym same) (many ∙ bare))
    done (inr (inr (at, fault, on, refused, moves))) = flushed_is_no_refusal v m n fault refused

-- a compaction that was begun towards a generation behind the last one
pub begun_behind_the_last : (Tells : Type 0) (settings : Settings) (before after : Tally) (v m n number : ℕ) → LAST_GENERATION < n
    → Says Tells settings before after (asks.Begin v m) number (Begun v m n) → ⊥
begun_behind_the_last Tells settings before after v m n number high says =
    done (answers_so Tells settings before after (asks.Begin v m) number (Begun v m n) says)
  where
    done : Answers settings (plain_tag number) (asks.Begin v m) (Begun v m n) before.seen after.seen → ⊥
    done (inl (none, nowhere, keeps)) = cc
    done (inr (inl (at, goal, on, is, moves))) =
        let change = moves.moves.1 in
        let many : n ≡ goal = cc in
        let below = change.becomes.0.1 in
        let next = change.becomes.1 in omega (arith, high, many, below, next)
    done (inr (inr (at, fault, on, refused, moves))) = begun_is_no_refusal v m n fault refused

-- a step that told more cells than there is room for between the next one and their end
pub stepped_over_more_than_stand : (Tells : Type 0) (settings : Settings) (before after : Tally) (v m cells n number : ℕ) (r : ReplicaSeen) → SeesReplica settings before.seen v m r
    → 0 < n → r.end < r.next + n * needle_total 0 → Says Tells settings before after (asks.Step v m cells) number (Stepped v m n) → ⊥
stepped_over_more_than_stand Tells settings before after v m cells n number r sees some more says =
    done (answers_so Tells settings before after (asks.Step v m cells) number (Stepped v m n) says)
  where
    too_far : (told : ℕ) (a b : ReplicaSeen) → n ≡ told → StepsTo cells told a b → a.end < a.next + told * needle_total 0 → ⊥
    too_far told a b many steps far =
        let behind = steps.behind in
        elim (steps.within) [ inl none ↦ omega (arith, some, many, none) | inr within ↦ omega (arith, behind, within, far) ]

    done : Answers settings (plain_tag number) (asks.Step v m cells) (Stepped v m n) before.seen after.seen → ⊥
    done (inl (none, nowhere, keeps)) = cc
    done (inr (inl (at, told, on, is, moves))) =
        let change = moves.moves.1 in
        let same = same_replica settings before.seen v m at r change.before moves.before sees on moves.was change.was in
        let many : n ≡ told = cc in
        let here : (change.before).end < (change.before).next + n * needle_total 0 = subst (λ (o : ReplicaSeen). o.end < o.next + n * needle_total 0) same more in
        too_far told change.before change.after many change.becomes (subst (λ k. (change.before).end < (change.before).next + k * needle_total 0) many here)
    done (inr (inr (at, fault, on, refused, moves))) = stepped_is_no_refusal v m n fault refused

-- a step that examined less than was asked for, where more cells are left than so many of the largest photos take
pub stepped_short_of_what_is_left : (Tells : Type 0) (settings : Settings) (before after : Tally) (v m cells n number : ℕ) (r : ReplicaSeen) → SeesReplica settings before.seen v m r
    → n < cells → r.next + n * needle_total (max_photo Two) < r.end → Says Tells settings before after (asks.Step v m cells) number (Stepped v m n) → ⊥
stepped_short_of_what_is_left Tells settings before after v m cells n number r sees fewer left says =
    done (answers_so Tells settings before after (asks.Step v m cells) number (Stepped v m n) says)
  where
    too_short : (a b : ReplicaSeen) → StepsTo cells n a b → a.next + n * needle_total (max_photo Two) < a.end → ⊥
    too_short a b steps short =
        let most = steps.most in
        elim (steps.all) [ inl all ↦ omega (arith, fewer, all) | inr behind ↦ omega (arith, most, behind, short) ]

    done : Answers settings (plain_tag number) (asks.Step v m cells) (Stepped v m n) before.seen after.seen → ⊥
    done (inl (none, nowhere, keeps)) = cc
    done (inr (inl (at, told, on, is, moves))) =
        let change = moves.moves.1 in
        let same = same_replica settings before.seen v m at r change.before moves.before sees on moves.was change.was in
        let many : told ≡ n = cc in
        let steps : StepsTo cells n change.before change.after = subst (λ k. StepsTo cells k change.before change.after) many change.becomes in
        too_short change.before change.after steps (subst (λ (o : ReplicaSeen). o.next + n * needle_total (max_photo Two) < o.end) same left)
    done (inr (inr (at, fault, on, refused, moves))) = stepped_is_no_refusal v m n fault refused

-- damage that a step met elsewhere than at its next cell or behind it
pub damaged_outside_the_cells : (Tells : Type 0) (settings : Settings) (before after : Tally) (v m cells m' place number : ℕ) (r : ReplicaSeen) → SeesReplica settings before.seen v m r
    → (place < r.next) ⊎ (r.end ≤ place) → Says Tells settings before after (asks.Step v m cells) number (Damaged v m' place) → ⊥
damaged_outside_the_cells Tells settings before after v m cells m' place number r sees outside says =
    told (answers_so Tells settings before after (asks.Step v m cells) number (Damaged v m' place) says)
  where
    beyond : (low end : ℕ) → (place < low) ⊎ (end ≤ place) → low ≤ place → place < end → ⊥
    beyond low end (inl less) from below = omega (arith, less, from)
    beyond low end (inr more) from below = omega (arith, more, below)

    refused : (fault : LogicalFault) (at : ℕ) (old new : VolumeSeen) → ((met : ReplicaSeen) → At old.replicas at met → r ≡ met) → IsRefusedAs v m fault (Damaged v m' place)
        → StepRefusedSeen settings v at cells old new fault → ⊥
    refused (refusal.Damaged m'' there) at old new same is (ended, (met, on, meets)) =
        let one : there ≡ place = cc in
        let here : MeetsDamage cells place met = subst (λ k. MeetsDamage cells k met) one meets in
        let behind = here.behind in
        beyond met.next met.end (subst (λ (o : ReplicaSeen). (place < o.next) ⊎ (o.end ≤ place)) (same met on) outside) (let from : met.next ≤ place = omega (arith, behind) in from) here.within
    refused refusal.Idle at old new same is seen = cc
    refused (refusal.ReadOnly by) at old new same (inl is) seen = cc
    refused (refusal.ReadOnly by) at old new same (inr is) seen = cc
    refused (refusal.Failed m'' f) at old new same is seen = cc
    refused (refusal.Busy m'' generation) at old new same is seen = cc
    refused (refusal.Worn m'') at old new same is seen = cc
    refused refusal.NoMemory at old new same is seen = cc
    refused (refusal.Full m'' end need capacity) at old new same is seen = is
    refused (refusal.Gone front) at old new same is seen = is

    told : Answers settings (plain_tag number) (asks.Step v m cells) (Damaged v m' place) before.seen after.seen → ⊥
    told (inl (none, nowhere, keeps)) = cc
    told (inr (inl (at, n, on, is, moves))) = cc
    told (inr (inr (at, fault, on, is, moves))) =
        refused fault at moves.before moves.after (λ met there. same_replica settings before.seen v m at r met moves.before sees on moves.was there) is moves.moves

-- damage that a step of one cell met behind its next cell
pub step_of_one_cell_damaged_behind_it : (Tells : Type 0) (settings : Settings) (before after : Tally) (v m m' place number : ℕ) (r : ReplicaSeen) → SeesReplica settings before.seen v m r
    → place ≢ r.next → Says Tells settings before after (asks.Step v m 1) number (Damaged v m' place) → ⊥
step_of_one_cell_damaged_behind_it Tells settings before after v m m' place number r sees other says =
    told (answers_so Tells settings before after (asks.Step v m 1) number (Damaged v m' place) says)
  where
    refused : (fault : LogicalFault) (at : ℕ) (old new : VolumeSeen) → ((met : ReplicaSeen) → At old.replicas at met → r ≡ met) → IsRefusedAs v m fault (Damaged v m' place)
        → StepRefusedSeen settings v at 1 old new fault → ⊥
    refused (refusal.Damaged m'' there) at old new same is (ended, (met, on, meets)) =
        let one : there ≡ place = cc in
        let here : MeetsDamage 1 place r = subst (λ (o : ReplicaSeen). MeetsDamage 1 place o) (sym (same met on)) (subst (λ k. MeetsDamage 1 k met) one meets) in
        let none = here.few in
        let low = here.behind in
        let high : place ≤ r.next + here.examined * MAX_NEEDLE = here.most in
        other (omega (arith, none, low, high))
    refused refusal.Idle at old new same is seen = cc
    refused (refusal.ReadOnly by) at old new same (inl is) seen = cc
    refused (refusal.ReadOnly by) at old new same (inr is) seen = cc
    refused (refusal.Failed m'' f) at old new same is seen = cc
    refused (refusal.Busy m'' generation) at old new same is seen = cc
    refused (refusal.Worn m'') at old new same is seen = cc
    refused refusal.NoMemory at old new same is seen = cc
    refused (refusal.Full m'' end need capacity) at old new same is seen = is
    refused (refusal.Gone front) at old new same is seen = is

    told : Answers settings (plain_tag number) (asks.Step v m 1) (Damaged v m' place) before.seen after.seen → ⊥
    told (inl (none, nowhere, keeps)) = cc
    told (inr (inl (at, n, on, is, moves))) = cc
    told (inr (inr (at, fault, on, is, moves))) =
        refused fault at moves.before moves.after (λ met there. same_replica settings before.seen v m at r met moves.before sees on moves.was there) is moves.moves

-- a flush that failed where each cell had its record
pub flush_of_nothing_failed : (Tells : Type 0) (settings : Settings) (before after : Tally) (v m m' n number : ℕ) (r : ReplicaSeen) → SeesReplica settings before.seen v m r
    → r.bare ≡ 0 → Says Tells settings before after (asks.Flush v m) number (Failed v m' n) → ⊥
flush_of_nothing_failed Tells settings before after v m m' n number r sees none says =
    told (answers_so Tells settings before after (asks.Flush v m) number (Failed v m' n) says)
  where
    refused : (fault : LogicalFault) (at : ℕ) (old new : VolumeSeen) → ((met : ReplicaSeen) → At old.replicas at met → r ≡ met) → IsRefusedAs v m fault (Failed v m' n)
        → FlushRefusedSeen settings v at old new fault → ⊥
    refused (refusal.Failed m'' f) at old new same is (thawed, machine, changes) =
        let some : 0 < r.bare = subst (λ (o : ReplicaSeen). 0 < o.bare) (sym (same changes.before changes.was)) changes.becomes.2 in omega (arith, none, some)
    refused (refusal.ReadOnly by) at old new same (inl is) seen = cc
    refused (refusal.ReadOnly by) at old new same (inr is) seen = cc
    refused refusal.NoMemory at old new same is seen = cc
    refused refusal.Idle at old new same is seen = seen
    refused (refusal.Damaged m'' there) at old new same is seen = seen
    refused (refusal.Busy m'' generation) at old new same is seen = seen
    refused (refusal.Worn m'') at old new same is seen = seen
    refused (refusal.Full m'' end need capacity) at old new same is seen = is
    refused (refusal.Gone front) at old new same is seen = is

    told : Answers settings (plain_tag number) (asks.Flush v m) (Failed v m' n) before.seen after.seen → ⊥
    told (inl (none, nowhere, keeps)) = cc
    told (inr (inl (at, appended, on, is, moves))) = cc
    told (inr (inr (at, fault, on, is, moves))) =
        refused fault at moves.before moves.after (λ met there. same_replica settings before.seen v m at r met moves.before sees on moves.was there) is moves.moves

-- a flush that was done while the volume is frozen
pub flushed_while_frozen : (Tells : Type 0) (settings : Settings) (before after : Tally) (v m n by number : ℕ) → IsFrozenBy before.seen v by
    → Says Tells settings before after (asks.Flush v m) number (Flushed v m n) → ⊥
flushed_while_frozen Tells settings before after v m n by number (volume, there, frozen) says =
    done (answers_so Tells settings before after (asks.Flush v m) number (Flushed v m n) says)
  where
    done : Answers settings (plain_tag number) (asks.Flush v m) (Flushed v m n) before.seen after.seen → ⊥
    done (inl (none, nowhere, keeps)) = cc
    done (inr (inl (at, appended, on, is, moves))) =
        let same : Some volume ≡ Some moves.before = sym there ∙ moves.was in
        let here : volume ≡ moves.before = cc in
        let still : (moves.before).frozen ≡ Some by = subst (λ (o : VolumeSeen). o.frozen ≡ Some by) here frozen in
        let thawed : (moves.before).frozen ≡ None = moves.moves.0 in cc
    done (inr (inr (at, fault, on, refused, moves))) = flushed_is_no_refusal v m n fault refused

-- a step of a compaction that was told as idle while the volume is frozen
pub idle_while_frozen : (Tells : Type 0) (settings : Settings) (before after : Tally) (v m cells by number : ℕ) → IsFrozenBy before.seen v by
    → Says Tells settings before after (asks.Step v m cells) number (Idle v m) → ⊥
idle_while_frozen Tells settings before after v m cells by number (volume, there, frozen) says =
    told (answers_so Tells settings before after (asks.Step v m cells) number (Idle v m) says)
  where
    refused : (fault : LogicalFault) (at : ℕ) (old new : VolumeSeen) → old.frozen ≡ Some by → IsRefusedAs v m fault (Idle v m) → StepRefusedSeen settings v at cells old new fault → ⊥
    refused refusal.Idle at old new still is seen = let thawed : old.frozen ≡ None = seen.0.0 in cc
    refused (refusal.ReadOnly m') at old new still (inl is) seen = cc
    refused (refusal.ReadOnly m') at old new still (inr is) seen = cc
    refused (refusal.Failed m' f) at old new still is seen = cc
    refused (refusal.Busy m' generation) at old new still is seen = cc
    refused (refusal.Worn m') at old new still is seen = cc
    refused (refusal.Damaged m' place) at old new still is seen = cc
    refused refusal.NoMemory at old new still is seen = cc
    refused (refusal.Full m' end need capacity) at old new still is seen = is
    refused (refusal.Gone front) at old new still is seen = is

    told : Answers settings (plain_tag number) (asks.Step v m cells) (Idle v m) before.seen after.seen → ⊥
    told (inl (none, nowhere, keeps)) = cc
    told (inr (inl (at, n, on, is, moves))) = cc
    told (inr (inr (at, fault, on, is, moves))) =
        let same : Some volume ≡ Some moves.before = sym there ∙ moves.was in
        let here : volume ≡ moves.before = cc in
        let still : (moves.before).frozen ≡ Some by = subst (λ (o : VolumeSeen). o.frozen ≡ Some by) here frozen in
        refused fault at moves.before moves.after still is moves.moves

-- a compaction whose beginning failed while one stands
pub begin_failed_beside_one : (Tells : Type 0) (settings : Settings) (before after : Tally) (v m m' n goal number : ℕ) (r : ReplicaSeen) → SeesReplica settings before.seen v m r
    → r.goal ≡ Some goal → Says Tells settings before after (asks.Begin v m) number (Failed v m' n) → ⊥
begin_failed_beside_one Tells settings before after v m m' n goal number r sees stands says =
    told (answers_so Tells settings before after (asks.Begin v m) number (Failed v m' n) says)
  where
    refused : (fault : LogicalFault) (at : ℕ) (old new : VolumeSeen) → ((met : ReplicaSeen) → At old.replicas at met → r ≡ met) → IsRefusedAs v m fault (Failed v m' n)
        → BeginRefusedSeen settings v at old new fault → ⊥
    refused (refusal.Failed m'' f) at old new same is seen =
        let met = seen.1 in
        let none : (met.0).goal ≡ None = met.2.0 in
        let one : (met.0).goal ≡ Some goal = subst (λ (o : ReplicaSeen). o.goal ≡ Some goal) (same met.0 met.1) stands in cc
    refused refusal.Idle at old new same is seen = cc
    refused (refusal.ReadOnly by) at old new same (inl is) seen = cc
    refused (refusal.ReadOnly by) at old new same (inr is) seen = cc
    refused (refusal.Busy m'' generation) at old new same is seen = cc
    refused (refusal.Worn m'') at old new same is seen = cc
    refused (refusal.Damaged m'' place) at old new same is seen = cc
    refused refusal.NoMemory at old new same is seen = cc
    refused (refusal.Full m'' end need capacity) at old new same is seen = is
    refused (refusal.Gone front) at old new same is seen = is

    told : Answers settings (plain_tag number) (asks.Begin v m) (Failed v m' n) before.seen after.seen → ⊥
    told (inl (none, nowhere, keeps)) = cc
    told (inr (inl (at, number', on, is, moves))) = cc
    told (inr (inr (at, fault, on, is, moves))) =
        refused fault at moves.before moves.after (λ met there. same_replica settings before.seen v m at r met moves.before sees on moves.was there) is moves.moves

-- PHOTOS

-- a look changes nothing where a photo is known to stand
still_live : (old new : Sight) → IsLiveSight old → Looks old new → IsLiveSight new
still_live Never new live looks = absurd live
still_live (Live at) new live (inl same) = subst IsLiveSight (sym same) tt
still_live (Live at) new live (inr found) = absurd found
still_live WasGone new live looks = absurd live
still_live (Unseen at size) new live looks = absurd live

-- nor where none does
still_absent : (old new : Sight) → IsAbsent old → Looks old new → IsAbsent new
still_absent Never new none (inl same) = subst IsAbsent (sym same) tt
still_absent Never new none (inr found) = absurd found
still_absent (Live at) new none looks = absurd none
still_absent WasGone new none (inl same) = subst IsAbsent (sym same) tt
still_absent WasGone new none (inr found) = absurd found
still_absent (Unseen at size) new none looks = absurd none

not_both : (s : Sight) → IsAbsent s → IsLiveSight s → ⊥
not_both Never none live = live
not_both (Live at) none live = none
not_both WasGone none live = live
not_both (Unseen at size) none live = live

still_none : (old new : Sight) → IsAbsent old → Looks old new → IsLiveSight new → ⊥
still_none old new none looks live = not_both new (still_absent old new none looks) live

-- nor is one that was looked at unseen then
still_seen : (old new : Sight) → (AwaitsLook old → ⊥) → Looks old new → AwaitsLook new → ⊥
still_seen old new known (inl same) awaits = known (subst AwaitsLook same awaits)
still_seen Never new known (inr found) awaits = found
still_seen (Live at) new known (inr found) awaits = found
still_seen WasGone new known (inr found) awaits = found
still_seen (Unseen at size) new known (inr found) awaits = known tt

-- a photo that is known to stand on a replica, and was told as gone by it
pub gone_where_it_stands : (Tells : Type 0) (settings : Settings) (before after : Tally) (pair : Pair) (cookie : Cookie) (v m f d j number : ℕ) → replica_on settings v m ≡ Some j
    → IsLiveSight ((before.seen).places v pair j) → Says Tells settings before after (asks.Read pair cookie) number (Gone v m f d) → ⊥
gone_where_it_stands Tells settings before after pair cookie v m f d j number on live says = read (sights_so Tells settings before after (asks.Read pair cookie) number (Gone v m f d) says)
  where
    read : LeavesSights settings (asks.Read pair cookie) (Gone v m f d) before.seen after.seen → ⊥
    read (looked, (i, there, none)) =
        let same : Some j ≡ Some i = sym on ∙ there in
        let here : j ≡ i = cc in
        let now : IsLiveSight ((after.seen).places v pair i) = subst (λ k. IsLiveSight ((after.seen).places v pair k)) here
        (still_live ((before.seen).places v pair j) ((after.seen).places v pair j) live ((looked.changes).each j)) in
        not_both ((after.seen).places v pair i) none now

-- a deletion that found nothing where a photo is known to stand
pub absent_where_it_stands : (Tells : Type 0) (settings : Settings) (before after : Tally) (pair : Pair) (v f d j number : ℕ) → j < settings.replicas
    → IsLiveSight ((before.seen).places v pair j) → Says Tells settings before after (asks.Del pair) number (Absent v f d) → ⊥
absent_where_it_stands Tells settings before after pair v f d j number within live says = found (sights_so Tells settings before after (asks.Del pair) number (Absent v f d) says)
  where
    found : LeavesSights settings (asks.Del pair) (Absent v f d) before.seen after.seen → ⊥
    found changes =
        let finds = changes.changes in
        finds.none (j, within, still_live ((before.seen).places v pair j) ((after.seen).places v pair j) live ((finds.looks).each j))

-- a deletion of a photo of which it is known that it stands on no replica
pub deleted_where_none_stands : (Tells : Type 0) (settings : Settings) (before after : Tally) (pair : Pair) (v p d number : ℕ)
    → ((j : ℕ) → j < settings.replicas → IsAbsent ((before.seen).places v pair j))
    → Says Tells settings before after (asks.Del pair) number (Deleted v p d) → ⊥
deleted_where_none_stands Tells settings before after pair v p d number none says = found (sights_so Tells settings before after (asks.Del pair) number (Deleted v p d) says)
  where
    found : LeavesSights settings (asks.Del pair) (Deleted v p d) before.seen after.seen → ⊥
    found changes =
        let deletes = changes.changes in
        let live = (deletes.finds).live in
        still_none ((before.seen).places v pair live.0) (deletes.found pair live.0) (none live.0 live.1) (((deletes.finds).looks).each live.0) live.2

-- a deletion that failed behind its looks, and left the volume open
pub failed_delete_leaves_it_open : (Tells : Type 0) (settings : Settings) (before after : Tally) (pair : Pair) (v m n number : ℕ) (volume : VolumeSeen)
    → SeesAll pair settings.replicas ((before.seen).places v)
    → At (after.seen).volumes v volume → volume.frozen ≡ None → Says Tells settings before after (asks.Del pair) number (Failed v m n) → ⊥
failed_delete_leaves_it_open Tells settings before after pair v m n number volume seen there thawed says = failed (sights_so Tells settings before after (asks.Del pair) number (Failed v m n) says)
  where
    failed : LeavesSights settings (asks.Del pair) (Failed v m n) before.seen after.seen → ⊥
    failed (inl ((other, at, frozen), changes, live)) =
        let same : Some volume ≡ Some other = sym there ∙ at in
        let is : volume ≡ other = cc in
        let open_still : other.frozen ≡ None = subst (λ (o : VolumeSeen). o.frozen ≡ None) is thawed in cc
    failed (inr (open_still, changes)) =
        let vain = changes.changes in
        let on = vain.unseen in
        still_seen ((before.seen).places v pair on.0) ((after.seen).places v pair on.0) (seen on.0 on.1) ((vain.looks).each on.0) on.3

-- a deletion that ended a compaction though no call of the replica's disk failed
pub deleted_and_ended_a_compaction : (Tells : Type 0) (settings : Settings) (before after : Tally) (pair : Pair) (v p d j goal number : ℕ)
    → VolumeAt v (SeesAt j (λ r. r.goal ≡ Some goal)) before.seen → VolumeAt v (SeesAt j (λ r. r.goal ≡ None)) after.seen
    → (Rose (slice_index before.counts.disks (slot_of settings v j)) (slice_index after.counts.disks (slot_of settings v j)) → ⊥)
    → Says Tells settings before after (asks.Del pair) number (Deleted v p d) → ⊥
deleted_and_ended_a_compaction Tells settings before after pair v p d j goal number stood ended still says =
    still (ended_so Tells settings before after (asks.Del pair) number (Deleted v p d) says v p d refl j goal stood ended)

-- PHOTOS BEHIND A COMPACTION

-- the command ends a compaction on this replica, or is one whole
abbrev pub IsSwap : Command → ℕ → ℕ → Type 0
IsSwap command v m = (command ≡ asks.Compact v m) ⊎ (command ≡ asks.Finish v m)

-- so the replica's photos are seen otherwise
abbrev pub SwapsOn : Settings → ℕ → ℕ → StoreSeen → StoreSeen → Type 0
SwapsOn settings v m old new =
    (at : ℕ) × (replica_on settings v m ≡ Some at) × VolumeAt v (λ volume. ChangesPhotos v (SwapsSights at volume.replicas) old new) new

swaps_so : (Tells : Type 0) (settings : Settings) (before after : Tally) (work : Command) (v m g number : ℕ) → IsSwap work v m
    → Says Tells settings before after work number (Compacted v m g)
    → SwapsOn settings v m before.seen after.seen
swaps_so Tells settings before after work v m g number (inl is) says =
    let P : Command → Type 0 = λ c. Says Tells settings before after c number (Compacted v m g) in
    sights_so Tells settings before after (asks.Compact v m) number (Compacted v m g) (subst P is says)
swaps_so Tells settings before after work v m g number (inr is) says =
    let P : Command → Type 0 = λ c. Says Tells settings before after c number (Compacted v m g) in
    sights_so Tells settings before after (asks.Finish v m) number (Compacted v m g) (subst P is says)

-- no photo comes to stand in new files where none stood
swap_keeps_absent : (at : ℕ) (replicas : List ReplicaSeen) (pair : Pair) (j : ℕ) (old new : Sights) → SwapsSights at replicas old new → IsAbsent (old pair j) → IsAbsent (new pair j)
swap_keeps_absent at replicas pair j old new swaps none =
    elim (cases_eq j at) [
      | inl same ↦ subst (λ k. IsAbsent (new pair k)) (sym same) (here (old pair at) refl (subst (λ k. IsAbsent (old pair k)) same none))
      | inr other ↦ subst IsAbsent (sym (swaps.others pair j other)) none
    ]
  where
    here : (s : Sight) → old pair at ≡ s → IsAbsent s → IsAbsent (new pair at)
    here Never is absent = subst IsAbsent (sym (swaps.never pair is)) tt
    here (Live place) is absent = absurd absent
    here WasGone is absent = subst IsAbsent (sym (swaps.gone pair is)) tt
    here (Unseen place size) is absent = absurd absent

-- nor is one left that was not looked at
swap_keeps_seen : (at number : ℕ) (replicas : List ReplicaSeen) (pair : Pair) (old new : Sights) → SwapsSights at replicas old new → SeesAll pair number old → SeesAll pair number new
swap_keeps_seen at number replicas pair old new swaps seen j within awaits =
    elim (cases_eq j at) [
      | inl same ↦ swaps.seen pair (subst (λ k. AwaitsLook (new pair k)) same awaits)
      | inr other ↦ seen j within (subst AwaitsLook (swaps.others pair j other) awaits)
    ]

gone_is_absent : (s : Sight) → IsAbsent (gone_sight s)
gone_is_absent Never = tt
gone_is_absent (Live at) = tt
gone_is_absent WasGone = tt
gone_is_absent (Unseen at size) = tt

-- a photo of a pair that was deleted before a compaction
pub photo_of_a_deleted_pair_behind_a_compaction : (Tells : Type 0) (settings : Settings) (a b c d : Tally) (work : Command) (pair : Pair) (cookie : Cookie)
    (v m g p rows m' f rows' first second third : ℕ) (photo : List ℕ) → IsSwap work v m
    → Says Tells settings a b (asks.Del pair) first (Deleted v p rows) → Says Tells settings b c work second (Compacted v m g)
    → Says Tells settings c d (asks.Read pair cookie) third (Photo v m' f rows' photo) → ⊥
photo_of_a_deleted_pair_behind_a_compaction Tells settings a b c d work pair cookie v m g p rows m' f rows' first second third photo swap deletes compacts shows =
    shown (sights_so Tells settings a b (asks.Del pair) first (Deleted v p rows) deletes) (swaps_so Tells settings b c work v m g second swap compacts)
    (sights_so Tells settings c d (asks.Read pair cookie) third (Photo v m' f rows' photo) shows)
  where
    shown : LeavesSights settings (asks.Del pair) (Deleted v p rows) a.seen b.seen → SwapsOn settings v m b.seen c.seen
        → LeavesSights settings (asks.Read pair cookie) (Photo v m' f rows' photo) c.seen d.seen → ⊥
    shown deleted (at, on, (volume, is, swaps)) (looked, (j, there, live)) =
        let erases = (deleted.changes).erases in
        let first_none : IsAbsent ((b.seen).places v pair j) = subst IsAbsent (sym (erases.gone j)) (gone_is_absent ((deleted.changes).found pair j)) in
        let second_none = swap_keeps_absent at volume.replicas pair j ((b.seen).places v) ((c.seen).places v) swaps.changes first_none in
        let third_none = still_absent ((c.seen).places v pair j) ((d.seen).places v pair j) second_none ((looked.changes).each j) in
        not_both ((d.seen).places v pair j) third_none live

-- what was stored was looked at on each replica
stored_is_seen : (settings : Settings) (pair : Pair) (v : ℕ) (old new : StoreSeen) → VolumeAt v (λ volume. length volume.replicas ≡ settings.replicas) old
    → VolumeAt v (λ volume. ChangesPhotos v (StoresSights pair volume.replicas) old new) old → SeesAll pair settings.replicas (new.places v)
stored_is_seen settings pair v old new (volume, there, many) (other, at, changes) j within awaits =
    let same : Some volume ≡ Some other = sym there ∙ at in
    let here : volume ≡ other = cc in
    let count : length other.replicas ≡ settings.replicas = subst (λ (o : VolumeSeen). length o.replicas ≡ settings.replicas) here many in
    let r = arm_there other.replicas j (omega (arith, within, count)) in
    let live = (changes.changes).live j r.0 r.1 in subst AwaitsLook live awaits

-- a deletion that failed behind a compaction, of a photo stored before it, and left the volume open to a put
pub failed_delete_leaves_it_open_behind_a_compaction : (Tells : Type 0) (settings : Settings) (a b c d e : Tally) (work : Command) (pair other : Pair) (photo photo' : List ℕ)
    (cookie cookie' : Cookie) (v m g p rows m' n p' rows' first second third fourth : ℕ) → VolumeAt v (λ volume. length volume.replicas ≡ settings.replicas) a.seen → IsSwap work v m
    → Says Tells settings a b (asks.Put pair photo) first (Stored v p rows cookie) → Says Tells settings b c work second (Compacted v m g)
    → Says Tells settings c d (asks.Del pair) third (Failed v m' n) → Says Tells settings d e (asks.Put other photo') fourth (Stored v p' rows' cookie') → ⊥
failed_delete_leaves_it_open_behind_a_compaction Tells settings a b c d e work pair other photo photo' cookie cookie' v m g p rows m' n p' rows' first second third fourth
    many swap stores compacts fails stores' =
    let stored = sights_so Tells settings a b (asks.Put pair photo) first (Stored v p rows cookie) stores in
    let seen = stored_is_seen settings pair v a.seen b.seen many stored in
    let swaps = swaps_so Tells settings b c work v m g second swap compacts in
    let answers : AnswersPut settings (plain_tag fourth) other (length photo') (Stored v p' rows' cookie') d.seen e.seen =
    answers_so Tells settings d e (asks.Put other photo') fourth (Stored v p' rows' cookie') stores' in
    let took = takes settings other (length photo') v d.seen answers.0.0 answers.0.1 in
    let thawed = took.0.0 in
    failed_delete_leaves_it_open Tells settings c d pair v m' n third thawed.0
    (swap_keeps_seen swaps.0 settings.replicas (swaps.2.0).replicas pair ((b.seen).places v) ((c.seen).places v) (swaps.2.2).changes seen) thawed.1 thawed.2.0 fails

-- REPLICAS THAT ARE PASSED OVER

-- the first of those that are tried answers, or is one of those before
tried_first : (f : ℕ → ℕ) (n j : ℕ) (front rest : List ℕ) → 0 < n → map f (range_with_len 0 n) ≡ front ++ j ∷ rest → (j ≡ f 0) ⊎ ((others : List ℕ) × (front ≡ f 0 ∷ others))
tried_first f zero j front rest some is = absurd (omega (arith, some))
tried_first f (suc n) j [] rest some is = inl cc
tried_first f (suc n) j (i ∷ front) rest some is = inr (front, (let same : i ≡ f 0 = cc in ap (λ k. k ∷ front) same))

first_cause : (Tells : Type 0) (A B C : Passed → Type 0) (m : ℕ) (ms : List ℕ) (causes : List Passed) → map (λ passed. passed.machine) causes ≡ m ∷ ms → AllByRecursion A causes
    → AllByRecursion B causes
    → (Tells → AllByRecursion C causes) → (cause : Passed) × (cause.machine ≡ m) × A cause × B cause × (Tells → C cause)
first_cause Tells A B C m ms [] order each stood lacks = absurd cc
first_cause Tells A B C m ms (cause ∷ causes) order each stood lacks = (cause, cc, each.0, stood.0, λ tells. (lacks tells).0)

-- where another replica answers, the first one was passed over
pub record PassesFirst (Tells : Type 0) (settings : Settings) (Sure : Type 0) (contents : ℕ → Contents) (lane start v : ℕ) (pair : Pair) (before after : Counts) (seen : StoreSeen) : Type 0 where
  pub cause : Cause
  pub came : CauseCameUp settings Sure lane v before after (machine_of settings v start) cause
  pub stood : StandsFor cause (seen.places v pair start)
  pub lacks : Tells → LacksFor settings contents seen v pair start cause

passes_first : (Tells : Type 0) (settings : Settings) (Sure : Type 0) (contents : ℕ → Contents) (lane start v m j : ℕ) (pair : Pair) (before after : Counts) (seen : StoreSeen)
    → IsBuilt settings → v < settings.volumes
    → start < settings.replicas → replica_on settings v m ≡ Some j → j ≢ start → TriesTo Tells settings Sure contents lane start v m pair before after seen
    → PassesFirst Tells settings Sure contents lane start v pair before after seen
passes_first Tells settings Sure contents lane start v m j pair before after seen built volume within on other tries =
    elim (tried_first (λ i. (start + i) % settings.replicas) settings.replicas tries.replica tries.front tries.rest (omega (arith, within)) tries.tries) [
      | inl same ↦ absurd (other (answers ∙ same ∙ first))
      | inr (others, is) ↦ passed others is
    ]
  where
    first : (start + 0) % settings.replicas ≡ start
    first = let same : start + 0 ≡ start = omega arith in ap (λ k. k % settings.replicas) same ∙ mod-eq_of_lt within

    answers : j ≡ tries.replica
    answers = let same : Some j ≡ Some tries.replica = sym on ∙ tries.there in cc

    passed : (others : List ℕ) → tries.front ≡ (start + 0) % settings.replicas ∷ others → PassesFirst Tells settings Sure contents lane start v pair before after seen
    passed others is =
        let passes = tries.passes in
        let order : map (λ passed. passed.machine) tries.causes ≡ machine_of settings v ((start + 0) % settings.replicas) ∷ map (machine_of settings v) others =
        passes.order ∙ ap (λ (js : List ℕ). map (machine_of settings v) js) is in
        let one =
        first_cause Tells (λ passed. CauseCameUp settings Sure lane v before after passed.machine passed.cause) (λ passed. SeesOn settings v pair (StandsFor passed.cause) seen passed.machine)
        (λ passed. (k : ℕ) × (replica_on settings v passed.machine ≡ Some k) × LacksFor settings contents seen v pair k passed.cause)
        (machine_of settings v ((start + 0) % settings.replicas)) (map (machine_of settings v) others) tries.causes order passes.each passes.stood passes.lacks in
        let machine : (one.0).machine ≡ machine_of settings v start = one.1 ∙ ap (machine_of settings v) first in
        let sees = one.3 in
        let same : Some sees.0 ≡ Some start = sym sees.1 ∙ ap (replica_on settings v) machine ∙ replica_found settings v start volume within built.no_more_replicas in
        let here : sees.0 ≡ start = cc in
        record {
          cause = (one.0).cause;
          came = subst (λ k. CauseCameUp settings Sure lane v before after k (one.0).cause) machine one.2;
          stood = subst (λ k. StandsFor (one.0).cause (seen.places v pair k)) here sees.2;
          lacks = λ tells.
              let on = one.4 tells in
              let there : Some on.0 ≡ Some start = sym on.1 ∙ ap (replica_on settings v) machine ∙ replica_found settings v start volume within built.no_more_replicas in
              let first : on.0 ≡ start = cc in
              subst (λ k. LacksFor settings contents seen v pair k (one.0).cause) first on.2;
        }

none_stands : (cause : Cause) (s : Sight) → IsAbsent s → StandsFor cause s → ⊥
none_stands (Arm count) Never absent may = may
none_stands (Arm count) (Live at) absent may = absent
none_stands (Arm count) WasGone absent may = may
none_stands (Arm count) (Unseen at size) absent may = absent
none_stands (Disk count) Never absent may = may
none_stands (Disk count) (Live at) absent may = absent
none_stands (Disk count) WasGone absent may = may
none_stands (Disk count) (Unseen at size) absent may = absent
none_stands (Damage place) Never absent may = may
none_stands (Damage place) (Live at) absent may = absent
none_stands (Damage place) WasGone absent may = may
none_stands (Damage place) (Unseen at size) absent may = absent

-- a photo that another replica showed than the first in the order of the line, of which it was seen that it has none
pub photo_behind_a_replica_without_one : (Tells : Type 0) (settings : Settings) (before after : Tally) (pair : Pair) (cookie : Cookie) (v m f d j number : ℕ) (photo : List ℕ)
    → IsBuilt settings → v < settings.volumes → replica_on settings v m ≡ Some j → j ≢ start_at settings number → IsAbsent ((before.seen).places v pair (start_at settings number))
    → Says Tells settings before after (asks.Read pair cookie) number (Photo v m f d photo) → ⊥
photo_behind_a_replica_without_one Tells settings before after pair cookie v m f d j number photo built volume on other none says =
    read (passes_so Tells settings before after (asks.Read pair cookie) number (Photo v m f d photo) says)
    (sights_so Tells settings before after (asks.Read pair cookie) number (Photo v m f d photo) says)
  where
    start : ℕ
    start = start_at settings number

    read : TriesTo Tells settings (HasSureArm before 0) after.contents 0 start v m pair before.counts after.counts after.seen
        → LeavesSights settings (asks.Read pair cookie) (Photo v m f d photo) before.seen after.seen → ⊥
    read tries (looked, shown) =
        let some = built.some_replicas in
        let passed = passes_first Tells settings (HasSureArm before 0) after.contents 0 start v m j pair before.counts after.counts after.seen built volume
        (mod-lt number (omega (arith, some))) on other tries in
        none_stands passed.cause ((after.seen).places v pair start) (still_absent ((before.seen).places v pair start) ((after.seen).places v pair start) none
        ((looked.changes).each start)) passed.stood

-- a photo that another replica showed than the first in the order of the line, whose photo was looked at, though no fetch of the arm failed
pub photo_behind_a_whole_needle : (Tells : Type 0) (settings : Settings) (before after : Tally) (pair : Pair) (cookie : Cookie) (v m f d j number : ℕ) (photo : List ℕ) → Tells
    → IsBuilt settings → v < settings.volumes → replica_on settings v m ≡ Some j → j ≢ start_at settings number → IsLiveSight ((before.seen).places v pair (start_at settings number))
    → slice_index after.counts.arms 0 ≡ slice_index before.counts.arms 0 → slice_index before.counts.arms 0 < 2 ^ 64 - 1
    → Says Tells settings before after (asks.Read pair cookie) number (Photo v m f d photo) → ⊥
photo_behind_a_whole_needle Tells settings before after pair cookie v m f d j number photo tells built volume on other live same low says =
    read (passes_so Tells settings before after (asks.Read pair cookie) number (Photo v m f d photo) says)
    (sights_so Tells settings before after (asks.Read pair cookie) number (Photo v m f d photo) says)
  where
    start : ℕ
    start = start_at settings number

    never : (cause : Cause) (s : Sight) → IsLiveSight s → CauseCameUp settings (HasSureArm before 0) 0 v before.counts after.counts (machine_of settings v start) cause → StandsFor cause s
        → (s ≡ (after.seen).places v pair start) → LacksFor settings after.contents after.seen v pair start cause → ⊥
    never (Arm count) s lives came stood is lacks = came_not (slice_index before.counts.arms 0) (slice_index after.counts.arms 0) count same low came.1
      where
        came_not : (b a n : ℕ) → a ≡ b → b < 2 ^ 64 - 1 → CameUp b n a → ⊥
        came_not b a n still below (inl more, most) = omega (arith, still, below, more, most)
        came_not b a n still below (inr end, most) = omega (arith, still, below, end, most)
    never (Disk count) Never lives came stood is lacks = lives
    never (Disk count) (Live at) lives came stood is lacks = stood
    never (Disk count) WasGone lives came stood is lacks = lives
    never (Disk count) (Unseen at size) lives came stood is lacks = lives
    never (Damage place) s lives came stood is lacks = none s lives (subst (λ (x : Sight). LacksPlace settings after.contents after.seen v start x) (sym is) lacks)
      where
        none : (x : Sight) → IsLiveSight x → LacksPlace settings after.contents after.seen v start x → ⊥
        none Never l h = l
        none (Live at) l h = h
        none WasGone l h = l
        none (Unseen at size) l h = l

    read : TriesTo Tells settings (HasSureArm before 0) after.contents 0 start v m pair before.counts after.counts after.seen
        → LeavesSights settings (asks.Read pair cookie) (Photo v m f d photo) before.seen after.seen → ⊥
    read tries (looked, shown) =
        let some = built.some_replicas in
        let passed = passes_first Tells settings (HasSureArm before 0) after.contents 0 start v m j pair before.counts after.counts after.seen built volume
        (mod-lt number (omega (arith, some))) on other tries in
        never passed.cause ((after.seen).places v pair start) (still_live ((before.seen).places v pair start) ((after.seen).places v pair start) live ((looked.changes).each start))
        passed.came passed.stood refl
        (passed.lacks tells)

-- so of a get that another machine than the URL's answered
pub photo_of_a_url_behind_a_replica_without_one : (Tells : Type 0) (settings : Settings) (before after : Tally) (url : UrlParts) (m f d i j number : ℕ) (photo : List ℕ)
    → IsBuilt settings → url.volume < settings.volumes → i < settings.replicas → replica_on settings url.volume url.machine ≡ Some i → replica_on settings url.volume m ≡ Some j → j ≢ i
    → IsAbsent ((before.seen).places url.volume url.pair i) → Says Tells settings before after (asks.Get url) number (Photo url.volume m f d photo) → ⊥
photo_of_a_url_behind_a_replica_without_one Tells settings before after url m f d i j number photo built volume within there on other none says =
    get (passes_so Tells settings before after (asks.Get url) number (Photo url.volume m f d photo) says i there)
    (sights_so Tells settings before after (asks.Get url) number (Photo url.volume m f d photo) says)
  where
    get : TriesTo Tells settings (HasSureArm before 0) after.contents 0 i url.volume m url.pair before.counts after.counts after.seen
        → LeavesSights settings (asks.Get url) (Photo url.volume m f d photo) before.seen after.seen → ⊥
    get tries (looked, shown) =
        let passed = passes_first Tells settings (HasSureArm before 0) after.contents 0 i url.volume m j url.pair before.counts after.counts after.seen built volume within on other tries in
        let was = (before.seen).places url.volume url.pair i in
        let is = (after.seen).places url.volume url.pair i in
        none_stands passed.cause is (still_absent was is none ((looked.changes).each i)) passed.stood

-- a failure of an arm that was sure
pub unreadable_for_a_sure_arm : (Tells : Type 0) (settings : Settings) (before after : Tally) (pair : Pair) (cookie : Cookie) (v f d m n number : ℕ) (causes : List Passed)
    → HasSureArm before 0 → Says Tells settings before after (asks.Read pair cookie) number (Unreadable v f d (record { machine = m; cause = Arm n } ∷ causes)) → ⊥
unreadable_for_a_sure_arm Tells settings before after pair cookie v f d m n number causes sure says =
    let passes : PassesOver Tells settings (HasSureArm before 0) after.contents 0 v pair before.counts after.counts after.seen (order_from settings (start_at settings number))
    (record { machine = m; cause = Arm n } ∷ causes) =
    passes_so Tells settings before after (asks.Read pair cookie) number (Unreadable v f d (record { machine = m; cause = Arm n } ∷ causes)) says in
    passes.each.0.0 sure

-- nor one whose count did not rise
pub unreadable_for_an_arm_that_did_not_fail : (Tells : Type 0) (settings : Settings) (before after : Tally) (pair : Pair) (cookie : Cookie) (v f d m n number : ℕ) (causes : List Passed)
    → slice_index after.counts.arms 0 ≡ slice_index before.counts.arms 0 → slice_index before.counts.arms 0 < 2 ^ 64 - 1
    → Says Tells settings before after (asks.Read pair cookie) number (Unreadable v f d (record { machine = m; cause = Arm n } ∷ causes)) → ⊥
unreadable_for_an_arm_that_did_not_fail Tells settings before after pair cookie v f d m n number causes same low says =
    let passes : PassesOver Tells settings (HasSureArm before 0) after.contents 0 v pair before.counts after.counts after.seen (order_from settings (start_at settings number))
    (record { machine = m; cause = Arm n } ∷ causes) =
    passes_so Tells settings before after (asks.Read pair cookie) number (Unreadable v f d (record { machine = m; cause = Arm n } ∷ causes)) says in
    came (slice_index before.counts.arms 0) (slice_index after.counts.arms 0) same low passes.each.0.1
  where
    came : (a b : ℕ) → b ≡ a → a < 2 ^ 64 - 1 → CameUp a n b → ⊥
    came a b is less (inl more, most) = omega (arith, is, more, most)
    came a b is less (inr end, most) = omega (arith, is, less, end, most)

-- nor a disk's
pub unreadable_for_a_disk_that_did_not_fail : (Tells : Type 0) (settings : Settings) (before after : Tally) (pair : Pair) (cookie : Cookie) (v f d m j n number : ℕ) (causes : List Passed)
    → replica_on settings v m ≡ Some j → (Rose (slice_index before.counts.disks (slot_of settings v j)) (slice_index after.counts.disks (slot_of settings v j)) → ⊥)
    → Says Tells settings before after (asks.Read pair cookie) number (Unreadable v f d (record { machine = m; cause = Disk n } ∷ causes)) → ⊥
unreadable_for_a_disk_that_did_not_fail Tells settings before after pair cookie v f d m j n number causes on still says =
    let passes : PassesOver Tells settings (HasSureArm before 0) after.contents 0 v pair before.counts after.counts after.seen (order_from settings (start_at settings number))
    (record { machine = m; cause = Disk n } ∷ causes) =
    passes_so Tells settings before after (asks.Read pair cookie) number (Unreadable v f d (record { machine = m; cause = Disk n } ∷ causes)) says in
    let rose = passes.each.0 in
    let same : Some rose.replica ≡ Some j = sym rose.there ∙ on in
    let here : rose.replica ≡ j = cc in
    still (subst (λ k. Rose (slice_index before.counts.disks (slot_of settings v k)) (slice_index after.counts.disks (slot_of settings v k))) here rose.rose)

-- a photo longer than the largest
pub photo_longer_than_the_largest : (Tells : Type 0) (settings : Settings) (before after : Tally) (pair : Pair) (cookie : Cookie) (v m f d number : ℕ) (photo : List ℕ)
    → MAX_PHOTO < length photo → Says Tells settings before after (asks.Read pair cookie) number (Photo v m f d photo) → ⊥
photo_longer_than_the_largest Tells settings before after pair cookie v m f d number photo longer says =
    read (suits_so Tells settings before after (asks.Read pair cookie) number (Photo v m f d photo) says)
  where
    read : Suits settings number (asks.Read pair cookie) (Photo v m f d photo) → ⊥
    read (inl (rows, is)) = cc
    read (inr (inl (w, below, inl (m', p, d', bytes, on, short, is)))) = let same : photo ≡ bytes = cc in omega (arith, longer, short, ap length same)
    read (inr (inl (w, below, inr (inl (m', p, d', on, is))))) = cc
    read (inr (inl (w, below, inr (inr (inl (m', p, d', on, is)))))) = cc
    read (inr (inl (w, below, inr (inr (inr (p, d', causes, each, is)))))) = cc
    read (inr (inr is)) = cc

-- PLACES AND DAMAGE

-- this file has a needle of a photo of so many bytes there
pub record HasNeedleAt (file : List ℕ) (place size : ℕ) : Type 0 where
  pub needle : Needle
  pub begins : BeginsWithNeedle (drop place file) needle
  pub long : length (needle.photo).bytes ≡ size

-- and what is told of damage
pub damage_so : (Tells : Type 0) (settings : Settings) (before after : Tally) (command : Command) (number : ℕ) (said : Reply) → Tells → Says Tells settings before after command number said
    → TellsDamage settings before.contents before.seen command said
damage_so Tells settings before after command number said tells (large, told) =
    subst (λ (r : Reply). TellsDamage settings before.contents before.seen command r) (sym (same_reply number said told.said large told.fits told.is)) (told.damaged tells)

-- a deletion that met damage where the needle stands that is recorded
pub damaged_where_the_needle_stands : (Tells : Type 0) (settings : Settings) (before after : Tally) (pair : Pair) (v m j place size number : ℕ) (r : ReplicaSeen) → Tells
    → replica_on settings v m ≡ Some j → VolumeAt v (λ volume. At volume.replicas j r) before.seen → (before.seen).places v pair j ≡ Unseen place size
    → HasNeedleAt (before.contents (slot_of settings v j) (volume_file r.generation)) place size
    → Says Tells settings before after (asks.Del pair) number (Damaged v m place) → ⊥
damaged_where_the_needle_stands Tells settings before after pair v m j place size number r tells on (volume, there, is) unseen stands says =
    met (damage_so Tells settings before after (asks.Del pair) number (Damaged v m place) tells says v m place refl)
  where
    file : ReplicaSeen → List ℕ
    file o = before.contents (slot_of settings v j) (volume_file o.generation)

    met : IsDamagedLookOn settings before.contents before.seen v pair m place → ⊥
    met (i, on', (volume', there', (r', is', lacks))) =
        let same : Some j ≡ Some i = sym on ∙ on' in
        let here : i ≡ j = cc in
        let one : Some volume' ≡ Some volume = sym there' ∙ there in
        let same_volume : volume' ≡ volume = cc in
        let on_volume : At volume.replicas i r' = subst (λ (o : VolumeSeen). At o.replicas i r') same_volume is' in
        let two : Some r' ≡ Some r = sym (subst (λ k. At volume.replicas k r') here on_volume) ∙ is in
        let same_replica : r' ≡ r = cc in
        let at_slot : LacksSeen (before.contents (slot_of settings v j) (volume_file r'.generation)) place ((before.seen).places v pair j) =
        subst (λ k. LacksSeen (before.contents (slot_of settings v k) (volume_file r'.generation)) place ((before.seen).places v pair k)) here lacks in
        let at_file : LacksSeen (file r) place ((before.seen).places v pair j) = subst (λ (o : ReplicaSeen). LacksSeen (file o) place ((before.seen).places v pair j)) same_replica at_slot in
        let none : LacksSeen (file r) place (Unseen place size) = subst (λ (s : Sight). LacksSeen (file r) place s) unseen at_file in
        none.1 stands.needle stands.begins stands.long

-- a step that met damage where a needle stands that ends before the cells do
pub step_damaged_where_a_needle_stands : (Tells : Type 0) (settings : Settings) (before after : Tally) (v m cells j place size number : ℕ) (r : ReplicaSeen) → Tells
    → replica_on settings v m ≡ Some j → VolumeAt v (λ volume. At volume.replicas j r) before.seen → place + needle_total size ≤ r.end
    → HasNeedleAt (before.contents (slot_of settings v j) (volume_file r.generation)) place size
    → Says Tells settings before after (asks.Step v m cells) number (Damaged v m place) → ⊥
step_damaged_where_a_needle_stands Tells settings before after v m cells j place size number r tells on (volume, there, is) within stands says =
    met (damage_so Tells settings before after (asks.Step v m cells) number (Damaged v m place) tells says m place refl j on)
  where
    met : FileAt settings before.contents before.seen v j (λ o file. LacksCell ((before.seen).places v) j cells place o file) → ⊥
    met (volume', there', (r', is', lacks)) =
        let one : Some volume' ≡ Some volume = sym there' ∙ there in
        let same_volume : volume' ≡ volume = cc in
        let two : Some r' ≡ Some r = sym (subst (λ (o : VolumeSeen). At o.replicas j r') same_volume is') ∙ is in
        let same_replica : r' ≡ r = cc in
        let none : LacksNeedleWithin r.end place (before.contents (slot_of settings v j) (volume_file r.generation)) =
        subst (λ (o : ReplicaSeen). LacksNeedleWithin o.end place (before.contents (slot_of settings v j) (volume_file o.generation))) same_replica lacks.lacks in
        let ends : place + needle_total (length ((stands.needle).photo).bytes) ≤ r.end = subst (λ k. place + needle_total k ≤ r.end) (sym stands.long) within in
        none stands.needle stands.begins ends

-- what awaits a look is seen at one place
awaits_same : (old new : Sight) (place place' : ℕ) → AwaitsLookAt place old → Looks old new → AwaitsLookAt place' new → place' ≡ place
awaits_same old new place place' was (inl same) is = at_one old was (subst (AwaitsLookAt place') same is)
  where
    at_one : (s : Sight) → AwaitsLookAt place s → AwaitsLookAt place' s → place' ≡ place
    at_one Never was is = absurd was
    at_one (Live at) was is = absurd was
    at_one WasGone was is = absurd was
    at_one (Unseen at size) was is = is ∙ sym was
awaits_same Never new place place' was (inr found) is = absurd was
awaits_same (Live at) new place place' was (inr found) is = absurd was
awaits_same WasGone new place place' was (inr found) is = absurd was
awaits_same (Unseen at size) new place place' was (inr (inl live)) is = absurd (subst (AwaitsLookAt place') live is)
awaits_same (Unseen at size) new place place' was (inr (inr gone)) is = absurd (subst (AwaitsLookAt place') gone is)

-- a deletion that failed, and froze the volume, at a replica that has no photo of the pair
pub delete_failed_where_no_photo_is : (Tells : Type 0) (settings : Settings) (before after : Tally) (pair : Pair) (v m n j number : ℕ) → IsBuilt settings
    → j < settings.replicas → m ≡ machine_of settings v j → IsAbsent ((before.seen).places v pair j) → IsFrozenBy after.seen v m
    → Says Tells settings before after (asks.Del pair) number (Failed v m n) → ⊥
delete_failed_where_no_photo_is Tells settings before after pair v m n j number built within machine none frozen says =
    failed (sights_so Tells settings before after (asks.Del pair) number (Failed v m n) says)
  where
    few : settings.replicas ≤ settings.machines
    few = built.no_more_replicas

    failed : LeavesSights settings (asks.Del pair) (Failed v m n) before.seen after.seen → ⊥
    failed (inl (by, changes, (i, low, on, live))) =
        let same : i ≡ j = same_machine settings.machines v i j (omega (arith, low, few)) (omega (arith, within, few)) (sym on ∙ machine) in
        let here : IsLiveSight ((after.seen).places v pair j) = subst (λ k. IsLiveSight ((after.seen).places v pair k)) same live in
        still_none ((before.seen).places v pair j) ((after.seen).places v pair j) none (((changes.changes).looks).each j) here
    failed (inr ((volume, there, thawed), looks)) =
        let one : Some volume ≡ Some frozen.0 = sym there ∙ frozen.1 in
        let same : volume ≡ frozen.0 = cc in
        let by : volume.frozen ≡ Some m = subst (λ (o : VolumeSeen). o.frozen ≡ Some m) (sym same) frozen.2 in cc

-- two deletions of a pair that met damage at two places of one replica
pub damaged_at_two_places : (Tells : Type 0) (settings : Settings) (a b c : Tally) (pair : Pair) (v m place place' first second : ℕ) → IsBuilt settings → place' ≢ place
    → Says Tells settings a b (asks.Del pair) first (Damaged v m place) → Says Tells settings b c (asks.Del pair) second (Damaged v m place') → ⊥
damaged_at_two_places Tells settings a b c pair v m place place' first second built other says says' =
    met (sights_so Tells settings a b (asks.Del pair) first (Damaged v m place) says) (sights_so Tells settings b c (asks.Del pair) second (Damaged v m place') says')
  where
    met : LeavesSights settings (asks.Del pair) (Damaged v m place) a.seen b.seen → LeavesSights settings (asks.Del pair) (Damaged v m place') b.seen c.seen → ⊥
    met was is =
        let on = (was.changes).unseen in
        let on' = (is.changes).unseen in
        let few = built.no_more_replicas in
        let same : on'.0 ≡ on.0 = same_machine settings.machines v on'.0 on.0 (omega (arith, on'.1, few)) (omega (arith, on.1, few)) (sym on'.2 ∙ on.2) in
        let here : AwaitsLookAt place' ((c.seen).places v pair on.0) = subst (λ j. AwaitsLookAt place' ((c.seen).places v pair j)) same on'.3 in
        other (awaits_same ((b.seen).places v pair on.0) ((c.seen).places v pair on.0) place place' on.3 (((is.changes).looks).each on.0) here)

-- a look leaves a photo where it is recorded
still_there : (old new : Sight) (at place : ℕ) → StandsFor (Damage at) old → Looks old new → StandsFor (Damage place) new → place ≡ at
still_there old new at place was (inl same) is = at_one old was (subst (StandsFor (Damage place)) same is)
  where
    at_one : (s : Sight) → StandsFor (Damage at) s → StandsFor (Damage place) s → place ≡ at
    at_one Never was is = absurd was
    at_one (Live there) was is = is ∙ sym was
    at_one WasGone was is = absurd was
    at_one (Unseen there size) was is = is ∙ sym was
still_there Never new at place was (inr found) is = absurd was
still_there (Live there) new at place was (inr found) is = absurd found
still_there WasGone new at place was (inr found) is = absurd was
still_there (Unseen there size) new at place was (inr (inl live)) is = let same : place ≡ there = subst (StandsFor (Damage place)) live is in same ∙ sym was
still_there (Unseen there size) new at place was (inr (inr gone)) is = absurd (subst (StandsFor (Damage place)) gone is)

-- what a read that starts at this replica's machine tells of it first, by what is seen of the pair there behind it
pub first_passed : (Tells : Type 0) (settings : Settings) (before after : Tally) (pair : Pair) (cookie : Cookie) (v f d m j number : ℕ) (cause : Cause) (causes : List Passed)
    → replica_on settings v m ≡ Some j → Says Tells settings before after (asks.Read pair cookie) number (Unreadable v f d (record { machine = m; cause = cause } ∷ causes))
    → StandsFor cause ((after.seen).places v pair j)
first_passed Tells settings before after pair cookie v f d m j number cause causes on says =
    read (passes_so Tells settings before after (asks.Read pair cookie) number said says)
  where
    said : Reply
    said = Unreadable v f d (record { machine = m; cause = cause } ∷ causes)

    read : PassesOver Tells settings (HasSureArm before 0) after.contents 0 v pair before.counts after.counts after.seen (order_from settings (start_at settings number))
        (record { machine = m; cause = cause } ∷ causes)
        → StandsFor cause ((after.seen).places v pair j)
    read passes =
        let sees = passes.stood.0 in
        let same : Some sees.0 ≡ Some j = sym sees.1 ∙ on in
        let here : sees.0 ≡ j = cc in
        subst (λ k. StandsFor cause ((after.seen).places v pair k)) here sees.2

-- a read that names damage at another place than the one where the photo of the pair is recorded
pub unreadable_at_another_place : (Tells : Type 0) (settings : Settings) (before after : Tally) (pair : Pair) (cookie : Cookie) (v f d m j at place number : ℕ) (causes : List Passed)
    → replica_on settings v m ≡ Some j → StandsFor (Damage at) ((before.seen).places v pair j) → place ≢ at
    → Says Tells settings before after (asks.Read pair cookie) number (Unreadable v f d (record { machine = m; cause = Damage place } ∷ causes)) → ⊥
unreadable_at_another_place Tells settings before after pair cookie v f d m j at place number causes on stood other says =
    read (sights_so Tells settings before after (asks.Read pair cookie) number (Unreadable v f d (record { machine = m; cause = Damage place } ∷ causes)) says)
  where
    read : ChangesPhotos v (LooksAtPair pair) before.seen after.seen → ⊥
    read looked =
        other (still_there ((before.seen).places v pair j) ((after.seen).places v pair j) at place stood ((looked.changes).each j)
        (first_passed Tells settings before after pair cookie v f d m j number (Damage place) causes on says))

-- and of its needle, where the disks tell
first_lacks : (Tells : Type 0) (settings : Settings) (before after : Tally) (pair : Pair) (cookie : Cookie) (v f d m j number : ℕ) (cause : Cause) (causes : List Passed) → Tells
    → replica_on settings v m ≡ Some j → Says Tells settings before after (asks.Read pair cookie) number (Unreadable v f d (record { machine = m; cause = cause } ∷ causes))
    → LacksFor settings after.contents after.seen v pair j cause
first_lacks Tells settings before after pair cookie v f d m j number cause causes tells on says =
    read (passes_so Tells settings before after (asks.Read pair cookie) number said says)
  where
    said : Reply
    said = Unreadable v f d (record { machine = m; cause = cause } ∷ causes)

    read : PassesOver Tells settings (HasSureArm before 0) after.contents 0 v pair before.counts after.counts after.seen (order_from settings (start_at settings number))
        (record { machine = m; cause = cause } ∷ causes)
        → LacksFor settings after.contents after.seen v pair j cause
    read passes =
        let first = (passes.lacks tells).0 in
        let same : Some first.0 ≡ Some j = sym first.1 ∙ on in
        let here : first.0 ≡ j = cc in
        subst (λ k. LacksFor settings after.contents after.seen v pair k cause) here first.2

-- a read that names damage of a replica's photo that was looked at
pub unreadable_where_a_photo_was_looked_at : (Tells : Type 0) (settings : Settings) (before after : Tally) (pair : Pair) (cookie : Cookie) (v f d m j place number : ℕ) (causes : List Passed) → Tells
    → replica_on settings v m ≡ Some j → IsLiveSight ((before.seen).places v pair j)
    → Says Tells settings before after (asks.Read pair cookie) number (Unreadable v f d (record { machine = m; cause = Damage place } ∷ causes)) → ⊥
unreadable_where_a_photo_was_looked_at Tells settings before after pair cookie v f d m j place number causes tells on live says =
    read (sights_so Tells settings before after (asks.Read pair cookie) number (Unreadable v f d (record { machine = m; cause = Damage place } ∷ causes)) says)
  where
    never : (s : Sight) → IsLiveSight s → LacksPlace settings after.contents after.seen v j s → ⊥
    never Never lives lacks = lives
    never (Live at) lives lacks = lacks
    never WasGone lives lacks = lives
    never (Unseen at size) lives lacks = lives

    read : ChangesPhotos v (LooksAtPair pair) before.seen after.seen → ⊥
    read looked =
        never ((after.seen).places v pair j) (still_live ((before.seen).places v pair j) ((after.seen).places v pair j) live ((looked.changes).each j))
        (first_lacks Tells settings before after pair cookie v f d m j number (Damage place) causes tells on says)

-- a read that names damage where the needle stands that is recorded
pub unreadable_where_the_needle_stands : (Tells : Type 0) (settings : Settings) (before after : Tally) (pair : Pair) (cookie : Cookie) (v f d m j at size place number : ℕ)
    (r : ReplicaSeen) (causes : List Passed)
    → Tells → v < settings.volumes → j < settings.replicas → replica_on settings v m ≡ Some j → VolumeAt v (λ volume. At volume.replicas j r) before.seen
    → (before.seen).places v pair j ≡ Unseen at size
    → HasNeedleAt (before.contents (slot_of settings v j) (volume_file r.generation)) at size
    → Says Tells settings before after (asks.Read pair cookie) number (Unreadable v f d (record { machine = m; cause = Damage place } ∷ causes)) → ⊥
unreadable_where_the_needle_stands Tells settings before after pair cookie v f d m j at size place number r causes tells volume within on (w, there, is) unseen stands says =
    read (sights_so Tells settings before after (asks.Read pair cookie) number said says)
  where
    said : Reply
    said = Unreadable v f d (record { machine = m; cause = Damage place } ∷ causes)

    file : ReplicaSeen → List ℕ
    file o = before.contents (slot_of settings v j) (volume_file o.generation)

    keeps : KeepsIn settings AnySlot before.contents after.contents
    keeps = contents_so Tells settings before after (asks.Read pair cookie) number said tells says

    same : (after.seen).volumes ≡ (before.seen).volumes
    same = ((answers_so Tells settings before after (asks.Read pair cookie) number said says).0).volumes

    none : FileAt settings after.contents after.seen v j (λ o bytes. LacksNeedleOf size at bytes) → ⊥
    none (w', there', (r', is', lacks)) =
        let one : Some w' ≡ Some w = sym (subst (λ (ws : List VolumeSeen). At ws v w') same there') ∙ there in
        let same_volume : w' ≡ w = cc in
        let two : Some r' ≡ Some r = sym (subst (λ (o : VolumeSeen). At o.replicas j r') same_volume is') ∙ is in
        let same_replica : r' ≡ r = cc in
        let now : LacksNeedleOf size at (after.contents (slot_of settings v j) (volume_file r.generation)) =
        subst (λ (o : ReplicaSeen). LacksNeedleOf size at (after.contents (slot_of settings v j) (volume_file o.generation))) same_replica lacks in
        let was : LacksNeedleOf size at (file r) =
        subst (λ (bytes : List ℕ). LacksNeedleOf size at bytes) (keeps (slot_of settings v j) (volume_file r.generation) (slot_below settings v j volume within) tt) now in
        was stands.needle stands.begins stands.long

    never : (s : Sight) → Looks (Unseen at size) s → LacksPlace settings after.contents after.seen v j s → ⊥
    never Never looks lacks = lacks
    never (Live there) looks lacks = lacks
    never WasGone looks lacks = lacks
    never (Unseen there long) (inl still) lacks =
        none (subst (λ n. FileAt settings after.contents after.seen v j (λ o bytes. LacksNeedleOf n at bytes)) (let one : long ≡ size = cc in one)
        (subst (λ n. FileAt settings after.contents after.seen v j (λ o bytes. LacksNeedleOf long n bytes)) (let two : there ≡ at = cc in two) lacks))
    never (Unseen there long) (inr (inl found)) lacks = cc
    never (Unseen there long) (inr (inr found)) lacks = cc

    read : ChangesPhotos v (LooksAtPair pair) before.seen after.seen → ⊥
    read looked =
        never ((after.seen).places v pair j) (subst (λ (s : Sight). Looks s ((after.seen).places v pair j)) unseen ((looked.changes).each j))
        (first_lacks Tells settings before after pair cookie v f d m j number (Damage place) causes tells on says)

-- a read that names a failure of the arm at a replica whose place was not looked at
pub unreadable_for_an_arm_that_was_not_asked : (Tells : Type 0) (settings : Settings) (before after : Tally) (pair : Pair) (cookie : Cookie) (v f d m j count number : ℕ) (causes : List Passed)
    → replica_on settings v m ≡ Some j → AwaitsLook ((after.seen).places v pair j)
    → Says Tells settings before after (asks.Read pair cookie) number (Unreadable v f d (record { machine = m; cause = Arm count } ∷ causes)) → ⊥
unreadable_for_an_arm_that_was_not_asked Tells settings before after pair cookie v f d m j count number causes on awaits says =
    never ((after.seen).places v pair j) awaits (first_passed Tells settings before after pair cookie v f d m j number (Arm count) causes on says)
  where
    never : (s : Sight) → AwaitsLook s → StandsFor (Arm count) s → ⊥
    never Never awaits live = awaits
    never (Live at) awaits live = awaits
    never WasGone awaits live = awaits
    never (Unseen at size) awaits live = live

-- a read that names a failure of the disk at a replica whose place was looked at before
pub unreadable_for_a_look_that_was_not_taken : (Tells : Type 0) (settings : Settings) (before after : Tally) (pair : Pair) (cookie : Cookie) (v f d m j count number : ℕ) (causes : List Passed)
    → replica_on settings v m ≡ Some j → IsLiveSight ((before.seen).places v pair j)
    → Says Tells settings before after (asks.Read pair cookie) number (Unreadable v f d (record { machine = m; cause = Disk count } ∷ causes)) → ⊥
unreadable_for_a_look_that_was_not_taken Tells settings before after pair cookie v f d m j count number causes on live says =
    looked_at (sights_so Tells settings before after (asks.Read pair cookie) number said says)
  where
    said : Reply
    said = Unreadable v f d (record { machine = m; cause = Disk count } ∷ causes)

    never : (old new : Sight) → IsLiveSight old → Looks old new → AwaitsLook new → ⊥
    never Never new live looks awaits = live
    never (Live at) new live (inl same) awaits = subst AwaitsLook same awaits
    never (Live at) new live (inr found) awaits = found
    never WasGone new live looks awaits = live
    never (Unseen at size) new live looks awaits = live

    looked_at : ChangesPhotos v (LooksAtPair pair) before.seen after.seen → ⊥
    looked_at looked =
        never ((before.seen).places v pair j) ((after.seen).places v pair j) live ((looked.changes).each j)
        (first_passed Tells settings before after pair cookie v f d m j number (Disk count) causes on says)

-- a flush that tells more cells, right behind an opening, than have room before the end of the replica's cells
pub flushed_more_than_stand : (Tells : Type 0) (settings : Settings) (before after : Tally) (v m n number : ℕ) (r : ReplicaSeen) → OpensSeen settings before.seen
    → SeesReplica settings before.seen v m r
    → r.end < 64 + n * needle_total 0 → Says Tells settings before after (asks.Flush v m) number (Flushed v m n) → ⊥
flushed_more_than_stand Tells settings before after v m n number r opens sees full says =
    flushed_another_number Tells settings before after v m n number r sees
    (λ same. let from : 64 + n * needle_total 0 ≤ r.end = subst (λ k. 64 + k * needle_total 0 ≤ r.end) (sym same) (fresh.from) in omega (arith, full, from)) says
  where
    fresh : IsFresh r
    fresh =
        let opened = at_all (OpensVolumeSeen settings) (before.seen).volumes v sees.volume opens.volumes sees.there in
        (opened.0).fresh sees.at r sees.is

-- a photo that is shown by a replica that has no cell
pub photo_of_an_empty_replica : (Tells : Type 0) (settings : Settings) (before after : Tally) (pair : Pair) (cookie : Cookie) (v m f d number : ℕ) (photo : List ℕ) (r : ReplicaSeen)
    → PlacesLie before.seen → SeesReplica settings before.seen v m r → r.end ≡ 64
    → Says Tells settings before after (asks.Read pair cookie) number (Photo v m f d photo) → ⊥
photo_of_an_empty_replica Tells settings before after pair cookie v m f d number photo r lie sees empty says =
    read (sights_so Tells settings before after (asks.Read pair cookie) number (Photo v m f d photo) says)
  where
    lies : (pair : Pair) → LiesWithin r.end ((before.seen).places v pair sees.at)
    lies other = (lie v sees.volume sees.there).within sees.at r sees.is other

    none : (old new : Sight) → LiesWithin r.end old → Looks old new → IsLiveSight new → ⊥
    none old new within (inl same) live = here old within (subst IsLiveSight same live)
      where
        here : (s : Sight) → LiesWithin r.end s → IsLiveSight s → ⊥
        here Never within live = live
        here (Live at) within live = let from = within.0 in let end = within.1 in omega (arith, from, end, empty)
        here WasGone within live = live
        here (Unseen at size) within live = live
    none Never new within (inr found) live = found
    none (Live at) new within (inr found) live = found
    none WasGone new within (inr found) live = found
    none (Unseen at size) new within (inr found) live = let from = within.0 in let end = within.1 in omega (arith, from, end, empty)

    read : LeavesSights settings (asks.Read pair cookie) (Photo v m f d photo) before.seen after.seen → ⊥
    read (looked, (j, on, live)) =
        let same : Some j ≡ Some sees.at = sym on ∙ sees.on in
        let here : j ≡ sees.at = cc in
        let now : IsLiveSight ((after.seen).places v pair sees.at) = subst (λ k. IsLiveSight ((after.seen).places v pair k)) here live in
        none ((before.seen).places v pair sees.at) ((after.seen).places v pair sees.at) (lies pair) ((looked.changes).each sees.at) now

-- WHAT LOOKS MADE OF PLACES, WHERE THE DISKS TELL

pub told_so : (Tells : Type 0) (settings : Settings) (before after : Tally) (command : Command) (number : ℕ) (said : Reply) → Tells → Says Tells settings before after command number said
    → MeetsNeedles settings before.contents before.seen after.seen command said
told_so Tells settings before after command number said tells (large, told) =
    subst (λ (r : Reply). MeetsNeedles settings before.contents before.seen after.seen command r) (sym (same_reply number said told.said large told.fits told.is)) (told.told tells)

-- a replica of which a needle of a recorded size was not looked at yet, and has none there
pub record LacksRecorded (settings : Settings) (tally : Tally) (v j : ℕ) (pair : Pair) : Type 0 where
  pub within : j < settings.replicas
  pub place : ℕ
  pub size : ℕ
  pub unseen : (tally.seen).places v pair j ≡ Unseen place size
  pub volume : VolumeSeen
  pub there : At (tally.seen).volumes v volume
  pub replica : ReplicaSeen
  pub is : At volume.replicas j replica
  pub lacks : LacksNeedleOf size place (tally.contents (slot_of settings v j) (volume_file replica.generation))

-- a look leaves it unseen
stays_unseen : (settings : Settings) (before : Tally) (v j : ℕ) (pair : Pair) (behind : Sights) → LacksRecorded settings before v j pair → AreToldAs settings before.contents before.seen v pair behind
    → Looks ((before.seen).places v pair j) (behind pair j) → AwaitsLook (behind pair j)
stays_unseen settings before v j pair behind lacks told looks =
    stays (behind pair j) (subst (λ (s : Sight). Looks s (behind pair j)) lacks.unseen looks)
    (subst (λ (s : Sight). IsToldBy (file lacks.replica) s (behind pair j)) lacks.unseen (here (told j lacks.within)))
  where
    file : ReplicaSeen → List ℕ
    file o = before.contents (slot_of settings v j) (volume_file o.generation)

    here : FileAt settings before.contents before.seen v j (λ r bytes. IsToldBy bytes ((before.seen).places v pair j) (behind pair j))
        → IsToldBy (file lacks.replica) ((before.seen).places v pair j) (behind pair j)
    here (volume, there, (r, is, so)) =
        let one : Some volume ≡ Some lacks.volume = sym there ∙ lacks.there in
        let same : volume ≡ lacks.volume = cc in
        let two : Some r ≡ Some lacks.replica = sym (subst (λ (o : VolumeSeen). At o.replicas j r) same is) ∙ lacks.is in
        let same_replica : r ≡ lacks.replica = cc in
        subst (λ (o : ReplicaSeen). IsToldBy (file o) ((before.seen).places v pair j) (behind pair j)) same_replica so

    none : (deleted : Bool) → HasNeedleOf lacks.size deleted lacks.place (file lacks.replica) → ⊥
    none deleted has =
        let begins = cell_begins lacks.place (file lacks.replica) has.cell has.stands in lacks.lacks (needle_of_cell has.cell) begins has.size_is

    stays : (new : Sight) → Looks (Unseen lacks.place lacks.size) new → IsToldBy (file lacks.replica) (Unseen lacks.place lacks.size) new → AwaitsLook new
    stays Never (inl same) so = cc
    stays Never (inr (inl found)) so = cc
    stays Never (inr (inr found)) so = cc
    stays (Live at) looks so = absurd (none false so)
    stays WasGone looks so = absurd (none true so)
    stays (Unseen at size) looks so = tt

-- a photo that a replica showed whose needle is damaged, and was not looked at
pub photo_of_a_damaged_needle : (Tells : Type 0) (settings : Settings) (before after : Tally) (pair : Pair) (cookie : Cookie) (v m f d j number : ℕ) (photo : List ℕ) → Tells
    → replica_on settings v m ≡ Some j → LacksRecorded settings before v j pair → Says Tells settings before after (asks.Read pair cookie) number (Photo v m f d photo) → ⊥
photo_of_a_damaged_needle Tells settings before after pair cookie v m f d j number photo tells on lacks says =
    shown (sights_so Tells settings before after (asks.Read pair cookie) number (Photo v m f d photo) says)
  where
    told : AreToldAs settings before.contents before.seen v pair ((after.seen).places v)
    told = told_so Tells settings before after (asks.Read pair cookie) number (Photo v m f d photo) tells says

    live_not_unseen : (s : Sight) → IsLiveSight s → AwaitsLook s → ⊥
    live_not_unseen Never live awaits = live
    live_not_unseen (Live at) live awaits = awaits
    live_not_unseen WasGone live awaits = live
    live_not_unseen (Unseen at size) live awaits = live

    shown : LeavesSights settings (asks.Read pair cookie) (Photo v m f d photo) before.seen after.seen → ⊥
    shown (looked, (i, there, live)) =
        let same : Some i ≡ Some j = sym there ∙ on in
        let here : i ≡ j = cc in
        live_not_unseen ((after.seen).places v pair j) (subst (λ k. IsLiveSight ((after.seen).places v pair k)) here live)
        (stays_unseen settings before v j pair ((after.seen).places v) lacks told ((looked.changes).each j))

-- one that was told as gone by such a replica
pub gone_of_a_damaged_needle : (Tells : Type 0) (settings : Settings) (before after : Tally) (pair : Pair) (cookie : Cookie) (v m f d j number : ℕ) → Tells
    → replica_on settings v m ≡ Some j → LacksRecorded settings before v j pair → Says Tells settings before after (asks.Read pair cookie) number (Gone v m f d) → ⊥
gone_of_a_damaged_needle Tells settings before after pair cookie v m f d j number tells on lacks says =
    shown (sights_so Tells settings before after (asks.Read pair cookie) number (Gone v m f d) says)
  where
    told : AreToldAs settings before.contents before.seen v pair ((after.seen).places v)
    told = told_so Tells settings before after (asks.Read pair cookie) number (Gone v m f d) tells says

    absent_not_unseen : (s : Sight) → IsAbsent s → AwaitsLook s → ⊥
    absent_not_unseen Never none awaits = awaits
    absent_not_unseen (Live at) none awaits = awaits
    absent_not_unseen WasGone none awaits = awaits
    absent_not_unseen (Unseen at size) none awaits = none

    shown : LeavesSights settings (asks.Read pair cookie) (Gone v m f d) before.seen after.seen → ⊥
    shown (looked, (i, there, none)) =
        let same : Some i ≡ Some j = sym there ∙ on in
        let here : i ≡ j = cc in
        absent_not_unseen ((after.seen).places v pair j) (subst (λ k. IsAbsent ((after.seen).places v pair k)) here none)
        (stays_unseen settings before v j pair ((after.seen).places v) lacks told ((looked.changes).each j))

-- a deletion of a photo of which a replica's needle is damaged, and was not looked at
pub deleted_over_a_damaged_needle : (Tells : Type 0) (settings : Settings) (before after : Tally) (pair : Pair) (v p d j number : ℕ) → Tells
    → LacksRecorded settings before v j pair → Says Tells settings before after (asks.Del pair) number (Deleted v p d) → ⊥
deleted_over_a_damaged_needle Tells settings before after pair v p d j number tells lacks says =
    let told : DeletesAsTold settings before.contents before.seen v pair ((after.seen).places v) = told_so Tells settings before after (asks.Del pair) number (Deleted v p d) tells says in
    (told.finds).all j lacks.within (stays_unseen settings before v j pair told.found lacks told.told (((told.finds).looks).each j))

-- a step that was done though so many heads do not stand from its next cell on
pub stepped_over_damage : (Tells : Type 0) (settings : Settings) (before after : Tally) (v m cells n j number : ℕ) (volume : VolumeSeen) (r : ReplicaSeen) → Tells
    → replica_on settings v m ≡ Some j → At (before.seen).volumes v volume → At volume.replicas j r
    → ((place : ℕ) → HeadsLead ((before.seen).places v) j n r.next place (before.contents (slot_of settings v j) (volume_file r.generation)) → ⊥)
    → Says Tells settings before after (asks.Step v m cells) number (Stepped v m n) → ⊥
stepped_over_damage Tells settings before after v m cells n j number volume r tells on there is none says =
    met ((told_so Tells settings before after (asks.Step v m cells) number (Stepped v m n) tells says).done n refl j on)
  where
    met : FileAt settings before.contents before.seen v j (λ o file. VolumeAt v (SeesAt j (λ o'. HeadsLead ((before.seen).places v) j n o.next o'.next file)) after.seen) → ⊥
    met (volume', there', (o, is', (behind, at, (o', at', lead)))) =
        let one : Some volume' ≡ Some volume = sym there' ∙ there in
        let same : volume' ≡ volume = cc in
        let two : Some o ≡ Some r = sym (subst (λ (w : VolumeSeen). At w.replicas j o) same is') ∙ is in
        let same_replica : o ≡ r = cc in
        none o'.next (subst (λ (x : ReplicaSeen). HeadsLead ((before.seen).places v) j n x.next o'.next (before.contents (slot_of settings v j) (volume_file x.generation))) same_replica lead)

-- a compaction that was done though heads do not stand from its first cell on as far as the cells go
pub compacted_over_damage : (Tells : Type 0) (settings : Settings) (before after : Tally) (v m n j number : ℕ) (volume : VolumeSeen) (r : ReplicaSeen) → Tells
    → replica_on settings v m ≡ Some j → At (before.seen).volumes v volume → At volume.replicas j r
    → (HeadsLeadOn ((before.seen).places v) j (begun r) (before.contents (slot_of settings v j) (volume_file r.generation)) → ⊥)
    → Says Tells settings before after (asks.Compact v m) number (Compacted v m n) → ⊥
compacted_over_damage Tells settings before after v m n j number volume r tells on there is none says =
    met ((told_so Tells settings before after (asks.Compact v m) number (Compacted v m n) tells says).done n refl j on)
  where
    met : FileAt settings before.contents before.seen v j (λ o file. VolumeAt v (SeesAt j (λ o'. HeadsLeadOn ((before.seen).places v) j (begun o) file)) after.seen) → ⊥
    met (volume', there', (o, is', (behind, at, (o', at', lead)))) =
        let one : Some volume' ≡ Some volume = sym there' ∙ there in
        let same : volume' ≡ volume = cc in
        let two : Some o ≡ Some r = sym (subst (λ (w : VolumeSeen). At w.replicas j o) same is') ∙ is in
        let same_replica : o ≡ r = cc in
        none (subst (λ (x : ReplicaSeen). HeadsLeadOn ((before.seen).places v) j (begun x) (before.contents (slot_of settings v j) (volume_file x.generation))) same_replica lead)

-- a step that was done over a cell that it was to copy, and whose head alone is whole
pub stepped_over_a_broken_body : (Tells : Type 0) (settings : Settings) (before after : Tally) (v m cells n j number at : ℕ) (volume : VolumeSeen) (r : ReplicaSeen) (front : List CellHead) → Tells
    → replica_on settings v m ≡ Some j → At (before.seen).volumes v volume → At volume.replicas j r
    → BreaksBehind ((before.seen).places v) j r.next at (before.contents (slot_of settings v j) (volume_file r.generation)) front → length front < n
    → Says Tells settings before after (asks.Step v m cells) number (Stepped v m n) → ⊥
stepped_over_a_broken_body Tells settings before after v m cells n j number at volume r front tells on there is breaks more says =
    stepped_over_damage Tells settings before after v m cells n j number volume r tells on there is
    (λ place lead.
    let few = (broken_ends ((before.seen).places v) j n r.next at place (before.contents (slot_of settings v j) (volume_file r.generation)) front breaks lead).0 in
    omega (arith, few, more))
    says

-- one that wanted memory behind it
pub stepped_partly_over_a_broken_body : (Tells : Type 0) (settings : Settings) (before after : Tally) (v m cells j number at : ℕ) (volume behind : VolumeSeen) (r r' : ReplicaSeen)
    (front : List CellHead) → Tells
    → replica_on settings v m ≡ Some j → At (before.seen).volumes v volume → At volume.replicas j r → At (after.seen).volumes v behind → At behind.replicas j r'
    → BreaksBehind ((before.seen).places v) j r.next at (before.contents (slot_of settings v j) (volume_file r.generation)) front → at < r'.next
    → Says Tells settings before after (asks.Step v m cells) number NoMem → ⊥
stepped_partly_over_a_broken_body Tells settings before after v m cells j number at volume behind r r' front tells on there is now is' breaks past says =
    met ((told_so Tells settings before after (asks.Step v m cells) number NoMem tells says).part refl j on)
  where
    file : List ℕ
    file = before.contents (slot_of settings v j) (volume_file r.generation)

    met : FileAt settings before.contents before.seen v j (λ o file. VolumeAt v (SeesAt j (λ o'. (n : ℕ) × (n ≤ cells) × HeadsLead ((before.seen).places v) j n o.next o'.next file)) after.seen) → ⊥
    met (volume', there', (o, at', (behind', now', (o', at'', lead)))) =
        let one : Some volume' ≡ Some volume = sym there' ∙ there in
        let same : volume' ≡ volume = cc in
        let two : Some o ≡ Some r = sym (subst (λ (w : VolumeSeen). At w.replicas j o) same at') ∙ is in
        let same_replica : o ≡ r = cc in
        let three : Some behind' ≡ Some behind = sym now' ∙ now in
        let same_behind : behind' ≡ behind = cc in
        let four : Some o' ≡ Some r' = sym (subst (λ (w : VolumeSeen). At w.replicas j o') same_behind at'') ∙ is' in
        let same_now : o' ≡ r' = cc in
        let led : HeadsLead ((before.seen).places v) j lead.0 r.next r'.next file =
        subst (λ (x : ReplicaSeen). HeadsLead ((before.seen).places v) j lead.0 r.next x.next file) same_now
        (subst (λ (x : ReplicaSeen). HeadsLead ((before.seen).places v) j lead.0 x.next o'.next (before.contents (slot_of settings v j) (volume_file x.generation))) same_replica lead.2) in
        let low = (broken_ends ((before.seen).places v) j lead.0 r.next at r'.next file front breaks led).1 in
        omega (arith, low, past)

-- a compaction that was done over one before the end of its cells
pub compacted_over_a_broken_body : (Tells : Type 0) (settings : Settings) (before after : Tally) (v m n j number at : ℕ) (volume : VolumeSeen) (r : ReplicaSeen) (front : List CellHead) → Tells
    → replica_on settings v m ≡ Some j → At (before.seen).volumes v volume → At volume.replicas j r
    → BreaksBehind ((before.seen).places v) j 64 at (before.contents (slot_of settings v j) (volume_file r.generation)) front → at < r.end
    → Says Tells settings before after (asks.Compact v m) number (Compacted v m n) → ⊥
compacted_over_a_broken_body Tells settings before after v m n j number at volume r front tells on there is breaks within says =
    compacted_over_damage Tells settings before after v m n j number volume r tells on there is
    (λ lead.
    let far : r.end ≤ lead.1 = lead.2 in
    let low = (broken_ends ((before.seen).places v) j lead.0 64 at lead.1 (before.contents (slot_of settings v j) (volume_file r.generation)) front breaks lead.3).1 in
    omega (arith, far, low, within))
    says

module _ (Tells : Type 0) (settings : Settings) (before after : Tally) (v m f j number : ℕ) (volume : VolumeSeen) (r : ReplicaSeen) (tells : Tells)
    (on : replica_on settings v m ≡ Some j) (there : At (before.seen).volumes v volume) (is : At volume.replicas j r) (froze : FreezesAt v before.seen after.seen) where
  abbrev sights : Sights
  sights = (before.seen).places v

  abbrev file : List ℕ
  file = before.contents (slot_of settings v j) (volume_file r.generation)

  -- what is so of the replica's file
  so : (Is : ReplicaSeen → List ℕ → Type 0) → FileAt settings before.contents before.seen v j Is → Is r file
  so Is (volume', there', (o, is', has)) =
      let one : Some volume' ≡ Some volume = sym there' ∙ there in
      let same : volume' ≡ volume = cc in
      let two : Some o ≡ Some r = sym (subst (λ (w : VolumeSeen). At w.replicas j o) same is') ∙ is in
      let same_replica : o ≡ r = cc in
      subst (λ (x : ReplicaSeen). Is x (before.contents (slot_of settings v j) (volume_file x.generation))) same_replica has

  -- a compaction whose switch of files failed and froze the volume, though heads do not stand from its next cell on as far as the cells go
  pub finish_froze_over_damage : (HeadsLeadOn sights j r file → ⊥) → Says Tells settings before after (asks.Finish v m) number (Failed v m f) → ⊥
  finish_froze_over_damage none says =
      none (so (HeadsLeadOn sights j) ((told_so Tells settings before after (asks.Finish v m) number (Failed v m f) tells says).froze froze j on))

  -- nor from its first one on, where it was begun by the same command
  pub compact_froze_over_damage : (HeadsLeadOn sights j (begun r) file → ⊥) → Says Tells settings before after (asks.Compact v m) number (Failed v m f) → ⊥
  compact_froze_over_damage none says =
      none (so (λ o. HeadsLeadOn sights j (begun o)) ((told_so Tells settings before after (asks.Compact v m) number (Failed v m f) tells says).froze froze j on))

  -- over a cell that it was to copy, before the end of its cells, whose head alone is whole
  pub finish_froze_over_a_broken_body : (at : ℕ) (front : List CellHead) → BreaksBehind sights j r.next at file front → at < r.end
      → Says Tells settings before after (asks.Finish v m) number (Failed v m f) → ⊥
  finish_froze_over_a_broken_body at front breaks within says =
      finish_froze_over_damage
      (λ lead.
      let far : r.end ≤ lead.1 = lead.2 in
      let low = (broken_ends sights j lead.0 r.next at lead.1 file front breaks lead.3).1 in
      omega (arith, far, low, within))
      says

  pub compact_froze_over_a_broken_body : (at : ℕ) (front : List CellHead) → BreaksBehind sights j 64 at file front → at < r.end
      → Says Tells settings before after (asks.Compact v m) number (Failed v m f) → ⊥
  compact_froze_over_a_broken_body at front breaks within says =
      compact_froze_over_damage
      (λ lead.
      let far : r.end ≤ lead.1 = lead.2 in
      let low = (broken_ends sights j lead.0 64 at lead.1 file front breaks lead.3).1 in
      omega (arith, far, low, within))
      says

-- HEADS BEHIND WORK THAT FAILED

module _ (Tells : Type 0) (settings : Settings) (before after : Tally) (v m by f j number : ℕ) (tells : Tells) (on : replica_on settings v m ≡ Some j) (low : v < settings.volumes)
    (within : j < settings.replicas)
    (other : after.contents (slot_of settings v j) 0 ≡ before.contents (slot_of settings v j) 0 → ⊥) where
  -- the head of a replica changed behind work that failed, though its volume takes changes then
  head_of_another : (now : VolumeSeen) → At (after.seen).volumes v now → now.frozen ≡ None
      → LeavesByWork settings v m (Failed v by f) (after.seen).volumes before.contents after.contents → ⊥
  head_of_another now is thawed (inr keeps) = other (keeps (slot_of settings v j) 0 (slot_below settings v j low within) tt)
  head_of_another now is thawed (inl (may, apart, head)) = elim (head now j is thawed on) [
    | inl compacted ↦ let wrong : Failed v by f ≡ Compacted v m compacted.0 = compacted.1 in cc
    | inr same ↦ other same
  ]

  -- a step, a flush, and the beginning and the end of a compaction
  pub step_failed_with_another_head : (cells : ℕ) (now : VolumeSeen) → At (after.seen).volumes v now → now.frozen ≡ None
      → Says Tells settings before after (asks.Step v m cells) number (Failed v by f) → ⊥
  step_failed_with_another_head cells now is thawed says = head_of_another now is thawed (contents_so Tells settings before after (asks.Step v m cells) number (Failed v by f) tells says)

  pub flush_failed_with_another_head : (now : VolumeSeen) → At (after.seen).volumes v now → now.frozen ≡ None → Says Tells settings before after (asks.Flush v m) number (Failed v by f) → ⊥
  flush_failed_with_another_head now is thawed says = head_of_another now is thawed (contents_so Tells settings before after (asks.Flush v m) number (Failed v by f) tells says)

  pub begin_failed_with_another_head : (now : VolumeSeen) → At (after.seen).volumes v now → now.frozen ≡ None → Says Tells settings before after (asks.Begin v m) number (Failed v by f) → ⊥
  begin_failed_with_another_head now is thawed says = head_of_another now is thawed (contents_so Tells settings before after (asks.Begin v m) number (Failed v by f) tells says)

  pub finish_failed_with_another_head : (now : VolumeSeen) → At (after.seen).volumes v now → now.frozen ≡ None → Says Tells settings before after (asks.Finish v m) number (Failed v by f) → ⊥
  finish_failed_with_another_head now is thawed says = head_of_another now is thawed (contents_so Tells settings before after (asks.Finish v m) number (Failed v by f) tells says)

-- The end of a compaction that failed over a cell that it was to copy, whose head alone is whole, with another head of the replica behind
-- it: whether or not that froze the volume.
pub finish_failed_over_a_broken_body : (Tells : Type 0) (settings : Settings) (before after : Tally) (v m f j number at : ℕ) (volume now : VolumeSeen) (r : ReplicaSeen) (front : List CellHead) → Tells
    → replica_on settings v m ≡ Some j → v < settings.volumes → j < settings.replicas → (after.contents (slot_of settings v j) 0 ≡ before.contents (slot_of settings v j) 0 → ⊥)
    → At (before.seen).volumes v volume → volume.frozen ≡ None → At volume.replicas j r → At (after.seen).volumes v now
    → BreaksBehind ((before.seen).places v) j r.next at (before.contents (slot_of settings v j) (volume_file r.generation)) front → at < r.end
    → Says Tells settings before after (asks.Finish v m) number (Failed v m f) → ⊥
finish_failed_over_a_broken_body Tells settings before after v m f j number at volume now r front tells on low within other there thawed is here breaks past says = by_freeze now.frozen refl
  where
    by_freeze : (o : Option ℕ) → now.frozen ≡ o → ⊥
    by_freeze None still = finish_failed_with_another_head Tells settings before after v m m f j number tells on low within other now here still says
    by_freeze (Some by) froze =
        let freezes : FreezesAt v before.seen after.seen = ((volume, there, thawed), by, (now, here, froze)) in
        finish_froze_over_a_broken_body Tells settings before after v m f j number volume r tells on there is freezes at front breaks past says

-- RESTARTS OVER DAMAGED DISKS

-- What the opening found of the place of a delete that was pending is so.
module _ (Tells : Type 0) (settings : Settings) (before after : Tally) (pick number v j : ℕ) (pair : Pair) (tag : CoreTag) (text : List ℕ) (old now : VolumeSeen) (r : ReplicaSeen) (tells : Tells)
    (was : At (before.seen).volumes v old) (pending : old.unsure ≡ Some (record { tag = tag; change = change.Delete pair })) (within : j < settings.replicas)
    (is : At (after.seen).volumes v now) (there : At now.replicas j r) where
  abbrev found_in : List ℕ
  found_in = after.contents (slot_of settings v j) (volume_file r.generation)

  place_so : IsRestartText Tells settings before after (asks.Restart pick) number text → IsToldPlace ((after.seen).places v pair j) found_in
  place_so (p, rows, notes, asked, large, tells_all, fits, opens, many, arms, text_is, sound) = so_there ((sound tells).pending v j old was within)
    where
      so_pending : (u : Option Unsure) → u ≡ Some (record { tag = tag; change = change.Delete pair }) → ToldUnsure u ((after.seen).places v) j found_in
          → IsToldPlace ((after.seen).places v pair j) found_in
      so_pending u same told = subst (λ (w : Option Unsure). ToldUnsure w ((after.seen).places v) j found_in) same told

      so_there : FileAt settings after.contents after.seen v j (λ o bytes. ToldUnsure old.unsure ((after.seen).places v) j bytes) → IsToldPlace ((after.seen).places v pair j) found_in
      so_there (now', is', (o, there', told)) =
          let one : Some now' ≡ Some now = sym is' ∙ is in
          let same : now' ≡ now = cc in
          let two : Some o ≡ Some r = sym (subst (λ (w : VolumeSeen). At w.replicas j o) same there') ∙ there in
          let same_replica : o ≡ r = cc in
          so_pending old.unsure pending (subst (λ (x : ReplicaSeen). ToldUnsure old.unsure ((after.seen).places v) j
          (after.contents (slot_of settings v j) (volume_file x.generation))) same_replica told)

  -- a delete that was told as lost on a replica since its place was not looked at, though a needle of its size stands there
  pub lost_over_a_needle : (at size : ℕ) (deleted : Bool) → (after.seen).places v pair j ≡ Unseen at size → HasNeedleOf size deleted at found_in
      → IsRestartText Tells settings before after (asks.Restart pick) number text → ⊥
  lost_over_a_needle at size deleted unseen has told =
      let lacks : LacksNeedleOf size at found_in = subst (λ (s : Sight). IsToldPlace s found_in) unseen (place_so told) in
      lacks (needle_of_cell has.cell) (cell_begins at found_in has.cell has.stands) has.size_is

  -- and one since its photo was found, though the needle there is deleted, or none is there
  pub lost_without_a_photo : (at : ℕ) → (after.seen).places v pair j ≡ Live at → ((size : ℕ) → HasNeedleOf size false at found_in → ⊥)
      → IsRestartText Tells settings before after (asks.Restart pick) number text → ⊥
  lost_without_a_photo at live none told =
      let has : (size : ℕ) × HasNeedleOf size false at found_in = subst (λ (s : Sight). IsToldPlace s found_in) live (place_so told) in
      none has.0 has.1

-- OPENINGS OVER DAMAGED DISKS

-- a store whose first opening found another end of a replica than its whole disk has, whatever the others have
pub found_another_end : (Tells : Type 0) (settings : Settings) (taken : Outside) (sure : ℕ → Bool) (tally : Tally) (v j : ℕ) (s : WasStored) (volume : VolumeSeen) (r : ReplicaSeen) → Tells
    → v < settings.volumes → j < settings.replicas → OpensAs (super_of settings v j) (read_contents taken (slot_of settings v j)) s
    → At (tally.seen).volumes v volume → At volume.replicas j r → (r.end ≡ s.end → ⊥) → BeginsAt Tells settings taken sure tally → ⊥
found_another_end Tells settings taken sure tally v j s volume r tells low within opens there is other begins =
    met ((begins.reads tells).finds v j s low within opens).0
  where
    met : VolumeAt v (SeesAt j (IsFoundAs s)) tally.seen → ⊥
    met (volume', there', (o, is', found)) =
        let one : Some volume' ≡ Some volume = sym there' ∙ there in
        let same : volume' ≡ volume = cc in
        let two : Some o ≡ Some r = sym (subst (λ (w : VolumeSeen). At w.replicas j o) same is') ∙ is in
        let same_replica : o ≡ r = cc in
        other (ap (λ (x : ReplicaSeen). x.end) (sym same_replica) ∙ found.0)

-- a flush, right behind the first opening, that tells of a replica another number of cells than its whole disk has without a record
pub flushed_another_number_at_first : (Tells : Type 0) (settings : Settings) (taken : Outside) (sure : ℕ → Bool) (before after : Tally) (v m n number : ℕ) (s : WasStored) (r : ReplicaSeen) → Tells
    → v < settings.volumes → (sees : SeesReplica settings before.seen v m r) → sees.at < settings.replicas → OpensAs (super_of settings v sees.at) (read_contents taken (slot_of settings v sees.at)) s
    → (n ≡ length s.cells - s.records → ⊥) → BeginsAt Tells settings taken sure before → Says Tells settings before after (asks.Flush v m) number (Flushed v m n) → ⊥
flushed_another_number_at_first Tells settings taken sure before after v m n number s r tells low sees within opens other begins says =
    flushed_another_number Tells settings before after v m n number r sees (λ same. other (same ∙ met ((begins.reads tells).finds v sees.at s low within opens).0)) says
  where
    met : VolumeAt v (SeesAt sees.at (IsFoundAs s)) before.seen → r.bare ≡ length s.cells - s.records
    met (volume', there', (o, is', found)) =
        let one : Some volume' ≡ Some sees.volume = sym there' ∙ sees.there in
        let same : volume' ≡ sees.volume = cc in
        let two : Some o ≡ Some r = sym (subst (λ (w : VolumeSeen). At w.replicas sees.at o) same is') ∙ sees.is in
        let same_replica : o ≡ r = cc in
        ap (λ (x : ReplicaSeen). x.bare) (sym same_replica) ∙ found.2

-- one whose Directory was whole, and that had no home then for a pair with a row
pub homeless_with_a_row : (Tells : Type 0) (settings : Settings) (taken : Outside) (sure : ℕ → Bool) (tally : Tally) (rows : List HomeRow) (pair : Pair) (v : ℕ) → Tells
    → settings.volumes ≤ 2 ^ 32 → OpensRows settings (read_contents taken 0) rows → home_in rows pair ≡ Some v → home_seen tally.seen pair ≡ None → BeginsAt Tells settings taken sure tally → ⊥
homeless_with_a_row Tells settings taken sure tally rows pair v tells few opens has none begins =
    let found = begins.reads tells in
    let same : rows ≡ found.rows = opens_once settings (read_contents taken 0) rows found.rows few opens found.reads in
    let home : home_seen tally.seen pair ≡ Some v = (found.directory).homes pair ∙ ap (λ (l : List HomeRow). home_in l pair) (sym same) ∙ has in
    let wrong : None ≡ Some v = sym none ∙ home in cc
