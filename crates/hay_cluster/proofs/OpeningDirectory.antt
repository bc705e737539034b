-- What stops and openings make of the Directory.
use Rattle.std.proofs.Common.{◌≡◌, ℕ, ◌<◌, ◌⊎◌, inl, inr, Bool, List, ◌++◌, length, refl, sym, subst}
use Rattle.std.proofs.lemmas.List.{append-nil}
use Rattle.hay_disk.specs.Counts.{Rose}
use Rattle.hay_disk.specs.Disk.{Files}
use Rattle.hay_dirfile.specs.declared.fault.OpenFault.{OpenFault}
use Rattle.hay_dirfile.specs.declared.fault.OpenFault.TheVariants as opening
use Rattle.hay_dirfile.specs.Journal.{IsDamagedJournal}
use Rattle.hay_legal.specs.declared.known.DirKnown.{DirKnown}
use Rattle.hay_legal.specs.declared.known.HomeRow.{HomeRow}
use Rattle.hay_legal.specs.Restarts.{directory_with, kept_row}
use Rattle.hay_directory.specs.Rows.{OpensRows, journal_super}
use Rattle.hay_directory.specs.State.{State, Holds, Stands, Stopped}
use Rattle.hay_directory.proofs.RowLaws.{opens_journal}
use Rattle.hay_directory.proofs.Standing as standing
use Rattle.hay_cluster.specs.declared.fault.ClusterFault.{ClusterFault}
use Rattle.hay_cluster.specs.Faults.{no_directory}
use Rattle.hay_cluster.specs.Opening.{RefusesDirectory}
use Rattle.hay_cluster.specs.State.{DirectoryHolds}

module _ {D : Type 0} (DiskTells : Type 0) (files : D → Files) (faults : D → ℕ) (old new : State D) where
  refused_by : (f : OpenFault)
      → ((n : ℕ) → f ≡ opening.Failed n → (n ≡ faults new.disk) × Rose (faults old.disk) (faults new.disk))
      → (DiskTells → (file at : ℕ) → f ≡ opening.Damaged file at → (file ≡ 0) × (0 < length (files old.disk 0).now) × IsDamagedJournal (journal_super old.settings) (files old.disk 0).now at)
      → ((file at : ℕ) → f ≡ opening.Damaged file at → file ≡ 0)
      → (DiskTells → (rows : List HomeRow) (file at : ℕ) → OpensRows old.settings (λ n. (files old.disk n).now) rows → f ≡ opening.Damaged file at → ⊥)
      → RefusesDirectory DiskTells files faults old new (no_directory f)
  refused_by (opening.Failed n) failed damaged zeroth whole = let h = failed n refl in (refl, h.1, h.0)
  refused_by (opening.Damaged file at) failed damaged zeroth whole = (refl, zeroth file at refl, λ tells. ((damaged tells file at refl).2, λ rows opens. whole tells rows file at opens refl))
  refused_by opening.NoMemory failed damaged zeroth whole = tt

  pub directory_refused : (f : OpenFault) (r : ClusterFault) → r ≡ no_directory f
      → ((n : ℕ) → f ≡ opening.Failed n → (n ≡ faults new.disk) × Rose (faults old.disk) (faults new.disk))
      → (DiskTells → (file at : ℕ) → f ≡ opening.Damaged file at → (file ≡ 0) × (0 < length (files old.disk 0).now) × IsDamagedJournal (journal_super old.settings) (files old.disk 0).now at)
      → ((file at : ℕ) → f ≡ opening.Damaged file at → file ≡ 0)
      → (DiskTells → (rows : List HomeRow) (file at : ℕ) → OpensRows old.settings (λ n. (files old.disk n).now) rows → f ≡ opening.Damaged file at → ⊥)
      → RefusesDirectory DiskTells files faults old new r
  directory_refused f r is failed damaged zeroth whole = subst (λ x. RefusesDirectory DiskTells files faults old new x) (sym is) (refused_by f failed damaged zeroth whole)

-- what a stopped Directory has can be opened
module _ {D : Type 0} (files : D → Files) where
  pub stopped_rows : (d : State D) (known : DirKnown) → Stopped files d known → (rows : List HomeRow) × OpensRows d.settings (λ n. (files d.disk n).now) rows
  unfolding Stopped
  stopped_rows d known s = (known.rows ++ kept_row known.pending s.kept, opens_journal d.settings (λ n. (files d.disk n).now) (known.rows ++ kept_row known.pending s.kept) s.journal)

  pub holds_images : (d : State D) (known : DirKnown) → Holds files d known → DirectoryHolds files d.settings d.disk known
  unfolding Holds
  holds_images d known h = h.images

  pub left_holds : (d : State D) (known : DirKnown) (drained : List Bool)
      → Stopped files d known ⊎ ((kept : Bool) × Stands files d (directory_with (known.rows ++ kept_row known.pending kept)) drained) → DirectoryHolds files d.settings d.disk known
  left_holds d known drained (inl stopped) = holds_images d known (standing.stopped_holds files d known stopped)
  left_holds d known drained (inr (kept, stands)) = λ image is.
      let now = directory_with (known.rows ++ kept_row known.pending kept) in
      let found = holds_images d now (standing.stands_holds files d now drained stands) image is in
      (kept, subst (λ (l : List HomeRow). OpensRows d.settings image l) (append-nil (known.rows ++ kept_row known.pending kept)) found.1)
