-- A Directory that a batch is added to.
use Rattle.std.proofs.Common.{◌≡◌, ◌⊎◌, inl, ◌<◌, ◌≤◌, ◌+◌, ◌*◌, ◌^◌, min, ℕ, List, ◌++◌, length, map, All, sym, ap, subst, ◌∙◌, arith, length-append}
use Rattle.std.specs.Option.{option_or}
use Rattle.std.proofs.lemmas.List.Elements.{All-map}
use Rattle.hay_needle.specs.declared.needle.Pair.{Pair}
use Rattle.hay_disk.specs.Disk.{Files, IsImage, IsSolid, IsSolidIn, KeepsOthers}
use Rattle.hay_disk.specs.Gate.{IsGate}
use Rattle.hay_dirfile.specs.Journal.{IsJournal, journal_end, journal_magic}
use Rattle.hay_dirfile.specs.declared.journal.Journal.{Journal}
use Rattle.hay_dirfile.specs.declared.row.DirRow.{DirRow}
use Rattle.hay_batch.specs.declared.directory.LoadDirectory.{LoadDirectory}
use Rattle.hay_batch.specs.declared.photo.NewPhoto.{NewPhoto}
use Rattle.hay_batch.specs.Batches.{new_row}
use Rattle.hay_batch.specs.Directories.{HoldsRows, MaySettle}
use Rattle.hay_batch.specs.Homes.{home_among, home_in}
use Rattle.hay_batch.proofs.HomeLaws.{homes_more}
use Rattle.hay_batch.proofs.RowRuns.{journal_kept, rows_end}

-- the rows of a batch are of its volume
rows_below : (volume volumes : ℕ) (photos : List NewPhoto) → volume < volumes → All (λ (row : DirRow). row.volume < volumes) (map (new_row volume) photos)
rows_below volume volumes photos below = All-map (λ (row : DirRow). row.volume < volumes) (new_row volume) photos (λ k d within. below)

-- where nothing was changed, a stop leaves what there was
pub may_settle_same : {D : Type 0} (files : D → Files) (volume : ℕ) (photos : List NewPhoto) (old new : LoadDirectory D) → new.disk ≡ old.disk → MaySettle files volume photos old new
may_settle_same files volume photos old new same = record {
  left = λ superblock volumes rows image below has leaves.
      inl (journal_kept superblock volumes (files old.disk 0) image rows old.journal.end has.end has.ready has.is (λ k from to. has.solid.places k)
      (subst (λ d. IsImage (files d 0) image) same leaves));
  others = λ other apart. ap (λ d. files d other) same;
}

-- what an append of rows says
pub may_settle : {D : Type 0} (files : D → Files) (volume : ℕ) (photos : List NewPhoto) (given : List DirRow) (old new : LoadDirectory D) → given ≡ map (new_row volume) photos
    → ((superblock : List ℕ) (volumes : ℕ) (rows : List DirRow) (image : List ℕ) → All (λ (row : DirRow). row.volume < volumes) given → old.journal.end ≡ journal_end rows
    → IsJournal superblock volumes (files old.disk 0).now rows
    → IsSolidIn 0 old.journal.end (files old.disk 0) → IsImage (files new.disk 0) image → IsJournal superblock volumes image rows ⊎ IsJournal superblock volumes image (rows ++ given))
    → KeepsOthers 0 (files old.disk) (files new.disk) → MaySettle files volume photos old new
may_settle files volume photos given old new are left others = record {
  left = λ superblock volumes rows image below has leaves.
      subst (λ (l : List DirRow). IsJournal superblock volumes image rows ⊎ IsJournal superblock volumes image (rows ++ l)) are
      (left superblock volumes rows image (subst (λ (l : List DirRow). All (λ (row : DirRow). row.volume < volumes) l) (sym are) (rows_below volume volumes photos below)) has.end
      has.is (λ k from to. has.solid.places k) leaves);
  others = others;
}

count_of : (rows more : List DirRow) (n old new end len : ℕ) → old ≡ length rows → n ≡ length more → new ≡ min (old + n) 18446744073709551615 → end ≡ journal_end (rows ++ more)
    → end + 8 ≤ len → len < 2 ^ 64 → new ≡ length (rows ++ more)
count_of rows more n old new end len counts ns is ends room fits = omega (arith, length-append rows more)

pub settled : {D : Type 0} (files : D → Files) (volume n : ℕ) (photos : List NewPhoto) (seen given : List DirRow) (old new : LoadDirectory D) → seen ≡ map (new_row volume) photos
    → given ≡ map (new_row volume) photos → n ≡ length given
    → ((disk : D) → length (files disk 0).now < 2 ^ 64)
    → new.journal ≡ (let j : Journal = record { end = old.journal.end + 24 * length given } in j) → new.rows ≡ min (old.rows + n) 18446744073709551615
    → ((superblock : List ℕ) (volumes : ℕ) (rows : List DirRow) → All (λ (row : DirRow). row.volume < volumes) given → old.journal.end ≡ journal_end rows
    → IsJournal superblock volumes (files old.disk 0).now rows
    → IsJournal superblock volumes (files new.disk 0).now (rows ++ given))
    → IsSolid (files new.disk 0) → IsGate journal_magic new.journal.end (files new.disk 0)
    → ((pair : Pair) → home_among new.homes pair ≡ option_or (home_among old.homes pair) (home_in seen pair))
    → (superblock : List ℕ) (volumes : ℕ) (rows : List DirRow) → volume < volumes → HoldsRows files superblock volumes rows old
    → HoldsRows files superblock volumes (rows ++ map (new_row volume) photos) new
settled files volume n photos seen given old new seens are ns fits moved counts added solid next homes superblock volumes rows below has =
    let end : new.journal.end ≡ journal_end (rows ++ given) = ap (λ (j : Journal). j.end) moved ∙ ap (λ (k : ℕ). k + 24 * length given) has.end ∙ sym (rows_end rows given) in
    subst (λ (l : List DirRow). HoldsRows files superblock volumes (rows ++ l) new) are (record {
      is = added superblock volumes rows (subst (λ (l : List DirRow). All (λ (row : DirRow). row.volume < volumes) l) (sym are) (rows_below volume volumes photos below)) has.end has.is;
      end = end;
      solid = solid;
      ready = next;
      homes = homes_more old.homes new.homes rows given has.homes (λ pair. homes pair ∙ ap (λ (l : List DirRow). option_or (home_among old.homes pair) (home_in l pair)) (seens ∙ sym are));
      count = count_of rows given n old.rows new.rows new.journal.end (length (files new.disk 0).now) has.count ns counts end next.closed.room (fits new.disk);
    })
