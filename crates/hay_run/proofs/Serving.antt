-- From the stop of a turn to that of all turns.
use Rattle.std.proofs.Common.{◌≡◌, ◌⊎◌, inl, inr, ℕ, ◌<◌, List, [], ◌++◌, Option, None, Some, refl, ap, subst, ◌∙◌, append_assoc}
use Rattle.std.specs.Prelude.{slice_index, Result, Err, IsErrOf, OnErr}
use Rattle.std.proofs.lemmas.Result.{IfErr-at_err}
use Rattle.hay_disk.specs.Disk.{Files}
use Rattle.hay_disk.specs.Streams.{Wrote}
use Rattle.hay_needle.specs.declared.settings.Settings.{Settings}
use Rattle.hay_legal.specs.Items.{Asked}
use Rattle.hay_legal.specs.Known.{NoneFalls, disk_count}
use Rattle.hay_reply.specs.declared.Note.{Note}
use Rattle.hay_reply.specs.Replies.{note_line}
use Rattle.hay_cluster.specs.Causes.{HasFile}
use Rattle.hay_cluster.specs.Outside.{AreSoundBelow, IsDamagedDisk}
use Rattle.hay_cluster.specs.Store.{Open, contents_in}
use Rattle.hay_run.specs.declared.stops.Stop.{Stop}
use Rattle.hay_run.specs.declared.stops.Stop.TheVariants as stop
use Rattle.hay_run.specs.Items.{TookOpen}
use Rattle.hay_lines.specs.Lines.{TookPart, TookOver, TookSome}
use Rattle.hay_lines.specs.Stream.{Held}
use Rattle.hay_run.specs.Turns.{Standing, AnswersAll, Appends, Broke, RefusesRestart, StopsTurn, HoldsNone, Keeps, counts_of, RefusedFor, Halts}
use Rattle.hay_run.proofs.Counting.{NoneFalls-at, rose_more}

module _ {D P A : Type 0} (Tells : Type 0) (Begins Left : Standing D P A) (number : ℕ) (rest written after written' : Option (List ℕ)) (store store' : Open D P A) (r : Result ℕ Stop) where
  -- what a turn's stop says, by its kind
  pub stops_by : (why : Stop) → r ≡ Err why
      → (IsErrOf r stop.Input → TookOpen TookPart number None rest after × (store' ≡ store) × (written' ≡ written))
      → (IsErrOf r stop.TooLong → TookOpen TookOver number None rest after × (store' ≡ store) × (written' ≡ written))
      → (IsErrOf r stop.Output → Broke Tells Begins Left store number rest written store' after written')
      → (IsErrOf r stop.NoMemory → (TookSome rest after × Keeps Tells Begins store store' × (written' ≡ written)) ⊎ Broke Tells Begins Left store number rest written store' after written')
      → (IsErrOf r stop.Store → RefusesRestart Tells Wrote Begins Left store number rest written store' after written')
      → StopsTurn Tells Begins Left why number rest written store after written' store'
  stops_by stop.Input is input over output memory refused = input is
  stops_by stop.TooLong is input over output memory refused = over is
  stops_by stop.Output is input over output memory refused = output is
  stops_by stop.NoMemory is input over output memory refused = memory is
  stops_by stop.Store is input over output memory refused = refused is

-- what was written is the same where the sink is
pub memory_same : {K A B C : Type 0} (written : K → Option (List ℕ)) (sink sink' : K) → (A × B × (sink' ≡ sink)) ⊎ C → (A × B × (written sink' ≡ written sink)) ⊎ C
memory_same written sink sink' (inl h) = inl (h.0, h.1, ap written h.2)
memory_same written sink sink' (inr h) = inr h

pub holds_none : (r : Result ℕ Stop) (held : Held) (why : Stop) → r ≡ Err why → (IsErrOf r stop.Input ⊎ IsErrOf r stop.TooLong → held.bytes ≡ []) → HoldsNone why held
holds_none r held stop.Input is none = none (inl is)
holds_none r held stop.TooLong is none = none (inr is)
holds_none r held stop.Output is none = tt
holds_none r held stop.NoMemory is none = tt
holds_none r held stop.Store is none = tt

refused_more : {D P A : Type 0} (Tells : Type 0) (Stands : Standing D P A) (files : D → Files) (faults : D → ℕ) (asked : List Asked) (written written' : Option (List ℕ))
    (store mid store' : Open D P A) (told : Note)
    → mid.settings ≡ store.settings → NoneFalls (counts_of faults store) (counts_of faults mid) → AnswersAll Tells Stands asked store written mid written'
    → RefusedFor Tells Stands files faults mid store' told → RefusedFor Tells Stands files faults store store' told
refused_more Tells Stands files faults asked written written' store mid store' told same later answers (inl (slot, count, is, below, rose, count_is, lowest)) =
    inl (
      slot,
      count,
      is,
      subst (λ (settings : Settings). slot < disk_count settings) same below,
      rose_more (slice_index (counts_of faults store) slot) (slice_index (counts_of faults mid) slot) (slice_index (counts_of faults store') slot)
          (NoneFalls-at (counts_of faults store) (counts_of faults mid) slot later) rose,
      count_is,
      λ tells. subst (λ (settings : Settings). AreSoundBelow settings slot (contents_in files store')) same (lowest tells),
    )
refused_more Tells Stands files faults asked written written' store mid store' told same later answers (inr (slot, file, at, is, below, damaged)) =
    inr (
      slot,
      file,
      at,
      is,
      subst (λ (settings : Settings). HasFile settings slot file) same below,
      λ tells. (
        λ k stands. let a = answers tells k stands in (damaged tells).0 a.t a.left,
        subst (λ (settings : Settings). IsDamagedDisk settings (contents_in files store') slot file at) same (damaged tells).1,
        subst (λ (settings : Settings). AreSoundBelow settings slot (contents_in files store')) same (damaged tells).2,
      ),
    )

pub halts_more : {D P A : Type 0} (Tells : Type 0) (Stands : Standing D P A) (files : D → Files) (faults : D → ℕ) (asked : List Asked)
    (written written' written'' : Option (List ℕ)) (store mid store' : Open D P A)
    → mid.settings ≡ store.settings → NoneFalls (counts_of faults store) (counts_of faults mid) → Appends written written' → AnswersAll Tells Stands asked store written mid written'
    → Halts Tells Stands files faults mid store' written' written'' → Halts Tells Stands files faults store store' written written''
halts_more Tells Stands files faults asked written written' written'' store mid store' same later appends answers h = record {
  note = h.note;
  why = refused_more Tells Stands files faults asked written written' store mid store' h.note same later answers h.why;
  told = λ held is.
      let first = appends held is in
      let next = h.told (held ++ first.0) first.1 in (
        first.0 ++ next.0,
        next.1 ∙ ap (λ (bytes : List ℕ). Some (bytes ++ note_line h.note)) (append_assoc held first.0 next.0),
      );
}

-- a stop for another reason than a long script
pub other_stop : {T P : Type 0} (r : Result T Stop) (why : Stop) → r ≡ Err why → (why ≡ stop.TooLong → ⊥)
    → (IsErrOf r stop.Input ⊎ IsErrOf r stop.NoMemory ⊎ IsErrOf r stop.Output ⊎ IsErrOf r stop.Store → P) → P
other_stop r stop.Input is other h = h (inl is)
other_stop r stop.NoMemory is other h = h (inr (inl is))
other_stop r stop.Output is other h = h (inr (inr (inl is)))
other_stop r stop.Store is other h = h (inr (inr (inr is)))
other_stop r stop.TooLong is other h = absurd (other refl)

-- one of four stops, of a call that reads and stopped so
four_stops : {U : Type 0} (w : Result U Stop) → IsErrOf w stop.Input ⊎ IsErrOf w stop.NoMemory ⊎ IsErrOf w stop.Output ⊎ IsErrOf w stop.Store → w ≡ Err stop.TooLong → ⊥
four_stops w (inl e) is = cc
four_stops w (inr (inl e)) is = cc
four_stops w (inr (inr (inl e))) is = cc
four_stops w (inr (inr (inr e))) is = cc

read_by : {T : Type 0} (r : Result T Stop) → (r ≡ Err stop.TooLong → ⊥) → (r ≡ Err stop.Input) ⊎ (r ≡ Err stop.NoMemory) ⊎ (r ≡ Err stop.TooLong) → IsErrOf r stop.Input ⊎ IsErrOf r stop.NoMemory
read_by r other (inl e) = inl e
read_by r other (inr (inl e)) = inr e
read_by r other (inr (inr e)) = absurd (other e)

-- one of two stops, of another call that stopped so
pub either_stop : {T U : Type 0} (r : Result T Stop) (w : Result U Stop) (why : Stop) → r ≡ Err why → w ≡ Err why
    → IsErrOf w stop.Input ⊎ IsErrOf w stop.NoMemory → IsErrOf r stop.Input ⊎ IsErrOf r stop.NoMemory
either_stop r w why is same (inl e) = inl cc
either_stop r w why is same (inr e) = inr cc

pub read_stop : {T U : Type 0} (r : Result T Stop) (w : Result U Stop) (why : Stop) → r ≡ Err why → w ≡ Err why → OnErr r ((r ≡ Err stop.Input) ⊎ (r ≡ Err stop.NoMemory) ⊎ (r ≡ Err stop.TooLong))
    → IsErrOf w stop.Input ⊎ IsErrOf w stop.NoMemory ⊎ IsErrOf w stop.Output ⊎ IsErrOf w stop.Store → IsErrOf r stop.Input ⊎ IsErrOf r stop.NoMemory
read_stop r w why is same kinds four =
    read_by r (λ e. four_stops w four cc) (IfErr-at_err (λ (x : Stop). (r ≡ Err stop.Input) ⊎ (r ≡ Err stop.NoMemory) ⊎ (r ≡ Err stop.TooLong)) is kinds)
