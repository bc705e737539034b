-- A restart, and its refusals.
use Rattle.std.proofs.Common.{◌≡◌, ◌≢◌, ◌⊎◌, inl, inr, ℕ, ◌^◌, ◌<◌, List, [], ◌∷◌, ◌++◌, Option, Some, refl, sym, ap, subst, ◌∙◌, arith}
use Rattle.std.specs.Prelude.{flat_map, slice_index, Err, IsErrOf}
use Rattle.std.specs.List.{AllByRecursion}
use Rattle.std.proofs.lemmas.List.{append-nil}
use Rattle.hay_disk.specs.Counts.{Rose}
use Rattle.hay_disk.specs.Disk.{Files}
use Rattle.hay_disk.specs.Streams.{Wrote, WrotePart}
use Rattle.hay_script.specs.declared.Command.TheVariants as asks
use Rattle.hay_reply.specs.Fits.{FitsNote}
use Rattle.hay_reply.specs.declared.Note.{Note}
use Rattle.hay_reply.specs.declared.Note.TheVariants.{OpenFailed, OpenDamaged}
use Rattle.hay_reply.specs.declared.Reply.TheVariants.{Restarted, NoMem}
use Rattle.hay_reply.specs.Replies.{numbered_line, note_line}
use Rattle.hay_legal.specs.declared.known.Known.{Known}
use Rattle.hay_legal.specs.declared.turn.Item.TheVariants as item
use Rattle.hay_legal.specs.Items.Asked.{Alone}
use Rattle.hay_needle.specs.declared.settings.Settings.{Settings}
use Rattle.hay_legal.specs.declared.turn.Turn.{Turn}
use Rattle.hay_legal.specs.declared.turn.Turn.TheVariants.{Restart}
use Rattle.hay_legal.specs.Known.{CameUp, FaultsRose, disk_count, fault_count}
use Rattle.hay_legal.specs.Restarts.{IsRestarted}
use Rattle.hay_cluster.specs.declared.fault.ClusterFault.{ClusterFault}
use Rattle.hay_cluster.specs.declared.fault.ClusterFault.TheVariants as refusal
use Rattle.hay_cluster.specs.Causes.{HasFaultCause}
use Rattle.hay_cluster.specs.Outside.{AreSoundBelow, IsDamagedDisk}
use Rattle.hay_cluster.specs.State.{Holds, Stands}
use Rattle.hay_cluster.specs.Store.{Open, contents_in}
use Rattle.hay_run.specs.declared.stops.Stop.{Stop}
use Rattle.hay_run.specs.declared.stops.Stop.TheVariants as stop
use Rattle.hay_run.specs.Stops.{note_of}
use Rattle.hay_run.specs.Stopping.{RefusedAsked, BrokeAsked}
use Rattle.hay_run.specs.Turns.{Writing, Standing, AnswersTurns, AnyTurn, counts_of, Halts}
use Rattle.hay_run.proofs.Turning.{answers_restart}

pub not_store : (why : Stop) → IsErrOf {T = Unit {0}} {E = Stop} (Err why) stop.Output ⊎ IsErrOf {T = Unit {0}} {E = Stop} (Err why) stop.NoMemory → why ≢ stop.Store
not_store why (inl e) is = cc
not_store why (inr e) is = cc

-- what is known of a store's disks are their counts
pub stands_counts : {D P A : Type 0} (files : D → Files) (Tells : Type 0) (faults fuses : D → ℕ) (arm_faults : A → ℕ) (store : Open D P A) (k : Known)
    → Stands files Tells faults fuses arm_faults store k → k.faults ≡ counts_of faults store
unfolding Stands
stands_counts files Tells faults fuses arm_faults store k stands = stands.fault_counts

pub holds_counts : {D P A : Type 0} (files : D → Files) (faults fuses : D → ℕ) (arm_faults : A → ℕ) (store : Open D P A) (k : Known)
    → Holds files faults fuses arm_faults store k → k.faults ≡ counts_of faults store
unfolding Holds
holds_counts files faults fuses arm_faults store k holds = holds.fault_counts

-- the reply to a restart, with its notes
pub restarted : {D P A : Type 0} (Left : Standing D P A) (Is : Turn → Type 0) → ((line pick d : ℕ) (notes : List Note) (after : Known) → Is (Restart line pick (Restarted d) notes after))
    → (Writes : Writing) (k t : Known) (number pick rows count : ℕ) (notes slice : List Note) (written written' : Option (List ℕ)) (store : Open D P A)
    → IsRestarted store.settings k count notes t → rows < 2 ^ 64 → AllByRecursion FitsNote notes → rows ≡ count → slice ≡ notes → Left store t
    → Writes written (numbered_line number (Restarted rows) ++ flat_map note_line slice) written'
    → AnswersTurns Is Writes Left k (Alone number (item.Command (asks.Restart pick)) ∷ []) written store written'
restarted Left Is is_one Writes k t number pick rows count notes slice written written' store is large fits same_rows same_notes left wrote =
    let P : ℕ → Type 0 = λ d. IsRestarted store.settings k d notes t in
    let Q : List Note → Type 0 = λ told. Writes written (numbered_line number (Restarted rows) ++ flat_map note_line told) written' in
    answers_restart Left Is Writes k t number pick (Restarted rows) notes written written' store (is_one number pick rows notes t) (large, fits) (subst P (sym same_rows) is) left
    (subst Q same_notes wrote)

-- WHAT A REFUSAL LEAVES

-- what was known, but for counts that may have risen
abbrev pub LeavesKnown : {D P A : Type 0} → Standing D P A → Known → Open D P A → Type 0
LeavesKnown Left k store = (t : Known) × FaultsRose k t × Left store t

-- a count that rose to what is told came up to it
pub rose_came_up : (before after count : ℕ) → Rose before after → count ≡ after → CameUp before count after
rose_came_up before after count (inl less) same = (inl (omega (arith, less, same)), omega (arith, same))
rose_came_up before after count (inr most) same = (inr (same ∙ most), omega (arith, same))

module _ {D P A : Type 0} (Tells : Type 0) (Begins Left : Standing D P A) (files : D → Files) (faults : D → ℕ) (store store' : Open D P A) (number pick : ℕ)
    (written written' : Option (List ℕ)) (why : Stop)
    (same : store'.settings ≡ store.settings)
    (counted : (k : Known) → Begins store k → k.faults ≡ counts_of faults store)
    (counted' : (t : Known) → Left store' t → t.faults ≡ counts_of faults store')
    (left : Tells → (k : Known) → Begins store k → LeavesKnown Left k store') where
  abbrev pub RisenIn : ℕ → ℕ → Type 0
  RisenIn slot count = (slot < disk_count store.settings) × Rose (slice_index (counts_of faults store) slot) (slice_index (counts_of faults store') slot)
      × (count ≡ slice_index (counts_of faults store') slot)

  refused_failed : (Writes : Writing) (slot count : ℕ) → RisenIn slot count → Writes written (note_line (OpenFailed slot count)) written'
      → RefusedAsked Tells Writes Begins Left number (Alone number (item.Command (asks.Restart pick)) ∷ []) store written store' written'
  refused_failed Writes slot count risen wrote = (
    pick,
    refl,
    λ tells k stands.
        let at = left tells k stands in
        let before : slice_index (counts_of faults store) slot ≡ fault_count k slot = ap (λ (counts : List ℕ). slice_index counts slot) (sym (counted k stands)) in
        let after : slice_index (counts_of faults store') slot ≡ fault_count at.0 slot = ap (λ (counts : List ℕ). slice_index counts slot) (sym (counted' at.0 at.2)) in
        record {
          t = at.0;
          leaves = at.1;
          left = at.2;
          slot = slot;
          count = count;
          within = subst (λ (s : Settings). slot < disk_count s) (sym same) risen.0;
          came = subst (λ n. CameUp n count (fault_count at.0 slot)) before
              (subst (λ n. CameUp (slice_index (counts_of faults store) slot) count n) after
              (rose_came_up (slice_index (counts_of faults store) slot) (slice_index (counts_of faults store') slot) count risen.1 risen.2));
          wrote = wrote;
        },
  )

  refused_damaged : (Writes : Writing) → (Tells → (k : Known) → Begins store k → ⊥)
      → RefusedAsked Tells Writes Begins Left number (Alone number (item.Command (asks.Restart pick)) ∷ []) store written store' written'
  refused_damaged Writes none = (pick, refl, λ tells k stands. absurd (none tells k stands))

  not_restarted : WrotePart written (numbered_line number NoMem) written'
      → BrokeAsked Tells Begins Left number (Alone number (item.Command (asks.Restart pick)) ∷ []) store written store' written'
  not_restarted wrote = inl (λ tells k stands.
      let at = left tells k stands in
      let P : List ℕ → Type 0 = λ text. WrotePart written text written' in
      answers_restart Left AnyTurn WrotePart k at.0 number pick NoMem [] written written' store' tt (tt, tt)
      (record { leaves = at.1; told = refl }) at.2 (subst P (sym (append-nil (numbered_line number NoMem))) wrote))

  abbrev CauseOf : ClusterFault → Type 0
  CauseOf fault = HasFaultCause store.settings (counts_of faults store) (counts_of faults store') fault

  abbrev DamagedFor : ClusterFault → Type 0
  DamagedFor fault = Tells → (k : Known) → Begins store k → (slot file at : ℕ) → fault ≡ refusal.Damaged slot file at → ⊥

  abbrev PlaceFor : ClusterFault → Type 0
  PlaceFor fault = Tells → (slot file at : ℕ) → fault ≡ refusal.Damaged slot file at
      → IsDamagedDisk store.settings (contents_in files store') slot file at × AreSoundBelow store.settings slot (contents_in files store')

  abbrev LowestFor : ClusterFault → Type 0
  LowestFor fault = Tells → (slot count : ℕ) → fault ≡ refusal.Failed slot count → AreSoundBelow store.settings slot (contents_in files store')

  other_stop : {X : Type 0} → why ≢ stop.Store → (why ≡ stop.Store) ⊎ X → X
  other_stop not (inl is) = absurd (not is)
  other_stop not (inr x) = x

  pub broke : (fault : ClusterFault) → CauseOf fault → DamagedFor fault → why ≢ stop.Store
      → (fault ≡ refusal.NoMemory → (why ≢ stop.Store) × WrotePart written (numbered_line number NoMem) written')
      → ((note : Note) → note_of fault ≡ Some note → (why ≡ stop.Store) ⊎ WrotePart written (note_line note) written')
      → BrokeAsked Tells Begins Left number (Alone number (item.Command (asks.Restart pick)) ∷ []) store written store' written'
  broke (refusal.Shelf count) cause damaged not wanting part = absurd cause
  broke (refusal.Failed slot count) cause damaged not wanting part =
      inr (refused_failed WrotePart slot count cause (other_stop not (part (OpenFailed slot count) refl)))
  broke (refusal.Damaged slot file at) cause damaged not wanting part =
      inr (refused_damaged WrotePart (λ tells k stands. damaged tells k stands slot file at refl))
  broke refusal.NoMemory cause damaged not wanting part = not_restarted (wanting refl).1

  abbrev ToldFor : ClusterFault → Type 0
  ToldFor fault = (note : Note) × (note_of fault ≡ Some note) × Wrote written (note_line note) written'

  told_failed : (slot count : ℕ) → ToldFor (refusal.Failed slot count) → Wrote written (note_line (OpenFailed slot count)) written'
  told_failed slot count told =
      let P : Note → Type 0 = λ note. Wrote written (note_line note) written' in
      let e : Some (OpenFailed slot count) ≡ Some told.0 = told.1 in
      let same : told.0 ≡ OpenFailed slot count = cc in subst P same told.2

  told_damaged : (slot file at : ℕ) → ToldFor (refusal.Damaged slot file at) → Wrote written (note_line (OpenDamaged slot file at)) written'
  told_damaged slot file at told =
      let P : Note → Type 0 = λ note. Wrote written (note_line note) written' in
      let e : Some (OpenDamaged slot file at) ≡ Some told.0 = told.1 in
      let same : told.0 ≡ OpenDamaged slot file at = cc in subst P same told.2

  pub refused : (fault : ClusterFault) → CauseOf fault → DamagedFor fault → (fault ≡ refusal.NoMemory → ⊥) → ToldFor fault
      → RefusedAsked Tells Wrote Begins Left number (Alone number (item.Command (asks.Restart pick)) ∷ []) store written store' written'
  refused (refusal.Shelf count) cause damaged some told = absurd cause
  refused (refusal.Failed slot count) cause damaged some told = refused_failed Wrote slot count cause (told_failed slot count told)
  refused (refusal.Damaged slot file at) cause damaged some told =
      refused_damaged Wrote (λ tells k stands. damaged tells k stands slot file at refl)
  refused refusal.NoMemory cause damaged some told = absurd (some refl)

  told_behind : (note : Note) → Wrote written (note_line note) written' → (held : List ℕ) → written ≡ Some held → (text : List ℕ) × (written' ≡ Some (held ++ text ++ note_line note))
  told_behind note wrote held is = (
    [],
    (let behind : Wrote (Some held) (note_line note) written' = subst (λ w. Wrote w (note_line note) written') is wrote in
        subst (λ (bytes : List ℕ). written' ≡ Some (bytes ++ note_line note)) (sym (append-nil held)) behind),
  )

  pub halts : (fault : ClusterFault) → CauseOf fault → DamagedFor fault → PlaceFor fault → LowestFor fault → (fault ≡ refusal.NoMemory → ⊥) → ToldFor fault
      → Halts Tells Begins files faults store store' written written'
  halts (refusal.Shelf count) cause damaged place lowest some told = absurd cause
  halts (refusal.Failed slot count) cause damaged place lowest some told = record {
    note = OpenFailed slot count;
    why = inl (slot, count, refl, cause.0, cause.1, cause.2, λ tells. lowest tells slot count refl);
    told = told_behind (OpenFailed slot count) (told_failed slot count told);
  }
  halts (refusal.Damaged slot file at) cause damaged place lowest some told = record {
    note = OpenDamaged slot file at;
    why = inr (slot, file, at, refl, cause, λ tells. (λ k stands. damaged tells k stands slot file at refl, (place tells slot file at refl).0, (place tells slot file at refl).1));
    told = told_behind (OpenDamaged slot file at) (told_damaged slot file at told);
  }
  halts refusal.NoMemory cause damaged place lowest some told = absurd (some refl)
