-- How a load ends whose store was not opened.
use Rattle.std.proofs.Common.{◌≡◌, ◌≢◌, ◌⊎◌, inl, inr, ℕ, ◌<◌, List, Option, Some, Err, refl, sym, subst}
use Rattle.std.specs.Prelude.{IsErrOf, IsOk}
use Rattle.hay_needle.specs.declared.settings.Settings.{Settings}
use Rattle.hay_disk.specs.Counts.{Rose}
use Rattle.hay_disk.specs.Shelf.{HeldDisk}
use Rattle.hay_disk.specs.Streams.{Wrote, WrotePart}
use Rattle.hay_mount.specs.Mounts.{AreIn}
use Rattle.hay_open.specs.declared.fault.OpenFault.{OpenFault}
use Rattle.hay_open.specs.Stored.{IsSlotFile}
use Rattle.hay_reply.specs.declared.Note.{Note}
use Rattle.hay_reply.specs.Fits.{FitsNote}
use Rattle.hay_reply.specs.Replies.{header_line, note_line}
use Rattle.hay_batch.specs.declared.fault.LoadOpenFault.{LoadOpenFault}
use Rattle.hay_batch.specs.Shelves.{AreSoundBelow, IsDamagedDisk, IsUndamagedBelow, disk_count, reads_of}
use Rattle.hay_loading.specs.declared.stops.Stop.{Stop}
use Rattle.hay_loading.specs.declared.stops.Stop.TheVariants as stop
use Rattle.hay_loading.specs.Endings.{AreLeft, Ends, IsRefusal, Unopened}
use Rattle.hay_loading.specs.Stops.{note_of}
use Rattle.hay_loading.proofs.Sinks.{part_more, wrote_more, wrote_part}
use Rattle.hay_loading.proofs.Statuses.{stopped}

module _ (Tells : Type 0) (settings : Settings) (script : List ℕ) (old new : ℕ → HeldDisk) (shelf shelf' : ℕ) (before begun after rest : Option (List ℕ))
    (unread : rest ≡ Some script) (fault : LoadOpenFault)
    (fits : (note : Note) → note_of fault ≡ Some note → FitsNote note)
    (left : AreLeft Tells settings script old new shelf shelf' before after)
    (by_shelf : (faults : ℕ) → fault ≡ LoadOpenFault.Shelf faults → Rose shelf shelf' × (faults ≡ shelf'))
    (failed : (slot faults : ℕ) → fault ≡ LoadOpenFault.Open slot (OpenFault.Failed faults)
    → (slot < disk_count settings) × Rose (old slot).fault_count (new slot).fault_count × (faults ≡ (new slot).fault_count)
    × (Tells → IsUndamagedBelow settings slot (reads_of old) × AreSoundBelow settings slot (reads_of new)))
    (damaged : (slot file at : ℕ) → fault ≡ LoadOpenFault.Open slot (OpenFault.Damaged file at) → (slot < disk_count settings) × IsSlotFile slot file
    × (Tells → IsDamagedDisk settings (reads_of old) slot file at × IsDamagedDisk settings (reads_of new) slot file at × AreSoundBelow settings slot (reads_of new)))
    (header : Wrote before (header_line settings) begun) where
  why_by : (x : LoadOpenFault) (note : Note) → fault ≡ x → note_of x ≡ Some note → IsRefusal Tells settings script old new shelf shelf' before after note
  why_by (LoadOpenFault.Shelf faults) note is told = let f = by_shelf faults is in inl (faults, cc, f.0, f.1)
  why_by (LoadOpenFault.Open slot (OpenFault.Failed faults)) note is told = let f = failed slot faults is in inr (inl (slot, faults, cc, f.0, f.1, f.2, f.3))
  why_by (LoadOpenFault.Open slot (OpenFault.Damaged file at)) note is told = let f = damaged slot file at is in inr (inr (slot, file, at, cc, f.0, f.1, f.2))
  why_by (LoadOpenFault.Open slot OpenFault.NoMemory) note is told = absurd cc
  why_by LoadOpenFault.NoMemory note is told = absurd cc

  unopened : after ≡ begun → Unopened Tells settings script old new shelf shelf' before after rest
  unopened same = record {
    left = left;
    unread = unread;
    wrote = wrote_part before after (header_line settings)
        (subst (λ (w : Option (List ℕ)). Wrote before (header_line settings) w) (sym same) header);
  }

  -- by what was written of it
  pub ends_refused : (why : Stop) → (why ≡ stop.Store → (note : Note) × (note_of fault ≡ Some note) × Wrote begun (note_line note) after)
      → (why ≡ stop.Output → (note : Note) × (note_of fault ≡ Some note) × WrotePart begun (note_line note) after) → (why ≡ stop.NoMemory → after ≡ begun)
      → (why ≡ stop.Output) ⊎ (why ≡ stop.NoMemory) ⊎ (why ≡ stop.Store) → Ends Tells settings script old new shelf shelf' before after rest (Err why)
  ends_refused stop.Output told part wanting stops =
      let t = part refl in
      inr (inl (record {
        note = t.0;
        fits = fits t.0 t.1;
        why = why_by fault t.0 refl t.1;
        left = left;
        unread = unread;
        wrote = part_more before begun after (header_line settings) (note_line t.0) header t.2;
      }))
  ends_refused stop.NoMemory told part wanting stops = inl (unopened (wanting refl))
  ends_refused stop.Store told part wanting stops =
      let t = told refl in
      inl (record {
        note = t.0;
        fits = fits t.0 t.1;
        why = why_by fault t.0 refl t.1;
        left = left;
        unread = unread;
        wrote = wrote_more before begun after (header_line settings) (note_line t.0) header t.2;
      })
  ends_refused stop.Input told part wanting (inl is) = absurd cc
  ends_refused stop.Input told part wanting (inr (inl is)) = absurd cc
  ends_refused stop.Input told part wanting (inr (inr is)) = absurd cc
  ends_refused stop.TooLong told part wanting (inl is) = absurd cc
  ends_refused stop.TooLong told part wanting (inr (inl is)) = absurd cc
  ends_refused stop.TooLong told part wanting (inr (inr is)) = absurd cc

-- the header was not written
module _ (Tells : Type 0) (settings : Settings) (script : List ℕ) (old : ℕ → HeldDisk) (shelf : ℕ) (before after rest : Option (List ℕ)) (unread : rest ≡ Some script)
    (back : AreIn (disk_count settings) old)
    (part : WrotePart before (header_line settings) after) where
  untouched : AreLeft Tells settings script old old shelf shelf before after
  untouched = λ slot within. inl (record {
    kept = λ tells. inl refl;
    now = λ tells n. refl;
    drawn_is = λ tells n. refl;
    fault_count = refl;
    fuse_count = refl;
    back = back slot within;
  })

  pub ends_unbegun : (why : Stop) → (why ≡ stop.Output) ⊎ (why ≡ stop.NoMemory) → Ends Tells settings script old old shelf shelf before after rest (Err why)
  ends_unbegun stop.Output stops = inl (record { left = untouched; unread = unread; wrote = part })
  ends_unbegun stop.NoMemory stops = inl (record { left = untouched; unread = unread; wrote = part })
  ends_unbegun stop.Store (inl is) = absurd cc
  ends_unbegun stop.Store (inr is) = absurd cc
  ends_unbegun stop.Input (inl is) = absurd cc
  ends_unbegun stop.Input (inr is) = absurd cc
  ends_unbegun stop.TooLong (inl is) = absurd cc
  ends_unbegun stop.TooLong (inr is) = absurd cc

-- a load with one of these stops read no script as far as it could be, nor where its source has what it had
pub not_read : (why : Stop) (left : Option (List ℕ)) → (why ≡ stop.Output) ⊎ (why ≡ stop.NoMemory) ⊎ (why ≡ stop.Store)
    → IsOk (stopped why) ⊎ IsErrOf (stopped why) stop.Input ⊎ IsErrOf (stopped why) stop.TooLong ⊎ (left ≢ left) → ⊥
not_read why left stops (inl done) = absurd cc
not_read why left (inl is) (inr (inl input)) = absurd cc
not_read why left (inr (inl is)) (inr (inl input)) = absurd cc
not_read why left (inr (inr is)) (inr (inl input)) = absurd cc
not_read why left (inl is) (inr (inr (inl long))) = absurd cc
not_read why left (inr (inl is)) (inr (inr (inl long))) = absurd cc
not_read why left (inr (inr is)) (inr (inr (inl long))) = absurd cc
not_read why left stops (inr (inr (inr read))) = read refl

-- one of two stops
pub same_stop : (why a b : Stop) → (stopped why ≡ stopped a) ⊎ (stopped why ≡ stopped b) → (why ≡ a) ⊎ (why ≡ b)
same_stop why a b (inl is) = inl cc
same_stop why a b (inr is) = inr cc
