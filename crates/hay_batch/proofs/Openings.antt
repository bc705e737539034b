-- What was opened, as what a store holds.
use Rattle.std.proofs.Common.{◌≡◌, inl, inr, ◌<◌, List, [], ◌∷◌, ℕ, length, refl, sym, ap, subst, ◌∙◌, arith}
use Rattle.std.specs.Option.{option_or}
use Rattle.hay_needle.specs.declared.needle.Pair.{Pair}
use Rattle.hay_needle.specs.declared.settings.Settings.{Settings}
use Rattle.hay_needle.specs.declared.settings.Super.{Super}
use Rattle.hay_needle.specs.Super.{super_bytes}
use Rattle.hay_disk.specs.Disk.{Files, IsSolid}
use Rattle.hay_dirfile.specs.Journal.{IsJournal, journal_end}
use Rattle.hay_dirfile.specs.declared.row.DirRow.{DirRow}
use Rattle.hay_open.specs.declared.opened.Opened.{Opened}
use Rattle.hay_open.specs.Finds.{OpenedAs}
use Rattle.hay_open.specs.Stored.{IsVoid, OpensAs, Stored, fresh_stored}
use Rattle.hay_open.proofs.Standing.{stored_not_void}
use Rattle.hay_batch.specs.declared.opening.OpenJournal.{OpenJournal}
use Rattle.hay_batch.specs.Directories.{HoldsRows}
use Rattle.hay_batch.specs.Directories as directories
use Rattle.hay_batch.specs.Homes.{AreHomes, home_among, home_in}
use Rattle.hay_batch.specs.Openings.{directory_of, journal_super}
use Rattle.hay_batch.specs.Shelves.{IsOpenAs, OpensRows}
use Rattle.hay_batch.specs.Slots.{replica_of}

pub opened_as : {D P : Type 0} (files : D → Files) (disk : D) (sup : Super) (s : Stored) (opened : Opened P) → OpenedAs sup (files disk) opened s → IsOpenAs files sup s (replica_of disk opened.volume)
opened_as {D} files disk sup s opened has = record {
  rests = record {
    is = record { head = has.head.is; volume = has.cells.is; lags = has.lags; index_end = opened.index.end; index = has.index.is };
    head = has.head.solid;
    volume = has.cells.solid;
    index = has.index.solid;
  };
  volume = has.volume;
}

-- and its disk is formatted
module _ {D P : Type 0} (files : D → Files) (old new : D) (sup : Super) (opened : Opened P) (kept : (IsVoid (λ n. (files old n).now) → ⊥) → (n : ℕ) → (files new n).now ≡ (files old n).now)
    (opens : (s : Stored) → OpensAs sup (λ n. (files old n).now) s → OpenedAs sup (files new) opened s) (void : IsVoid (λ n. (files new n).now)) where
  void_by : (head : List ℕ) → (files old 0).now ≡ head → ⊥
  unfolding OpensAs
  void_by [] is = stored_not_void sup (λ n. (files new n).now) fresh_stored (opened_as files new sup fresh_stored opened (opens fresh_stored (inl (is, refl)))).rests.is void
  void_by (byte ∷ bytes) is =
      let some : IsVoid (λ n. (files old n).now) → ⊥ = λ none. (let both : byte ∷ bytes ≡ [] = sym is ∙ none in absurd cc) in
      some (sym (kept some 0) ∙ void)

  pub opened_formatted : ⊥
  unfolding void_by
  opened_formatted = void_by (files old 0).now refl

pub homes_are : (old new : List ((ℕ × ℕ) × ℕ)) (rows : List DirRow) → old ≡ [] → ((pair : Pair) → home_among new pair ≡ option_or (home_among old pair) (home_in rows pair)) → AreHomes new rows
homes_are old new rows none adds = record { are = λ pair. adds pair ∙ ap (λ (l : List ((ℕ × ℕ) × ℕ)). option_or (home_among l pair) (home_in rows pair)) none }

-- the rows that were read are those that an opening finds
pub rows_read : (settings : Settings) (sup : Super) (old new : List ℕ) (items : List DirRow) → sup ≡ journal_super settings → (old ≡ [] → items ≡ []) → (0 < length old → new ≡ old)
    → IsJournal (super_bytes sup) sup.settings.volumes new items → OpensRows settings old items
rows_read settings sup [] new items same void stays is = inl (refl, void refl)
rows_read settings sup (byte ∷ bytes) new items same void stays is =
    inr (subst (λ (l : List ℕ). IsJournal (super_bytes (journal_super settings)) settings.volumes l items) (stays (omega arith))
    (subst (λ (u : Super). IsJournal (super_bytes u) u.settings.volumes new items) same is))

-- What was read of a journal is what the Directory holds.
pub record Reads {D : Type 0} (files : D → Files) (sup : Super) (disk : D) (kept : OpenJournal) (items : List DirRow) : Type 0 where
  pub is : IsJournal (super_bytes sup) sup.settings.volumes (files disk 0).now items
  pub end : kept.journal.end ≡ journal_end items
  pub solid : IsSolid (files disk 0)
  pub ready : directories.IsReady files (directory_of disk kept)
  pub homes : AreHomes kept.homes items
  pub count : kept.rows ≡ length items

pub journal_holds : {D : Type 0} (files : D → Files) (settings : Settings) (sup : Super) (disk : D) (kept : OpenJournal) (items rows : List DirRow) → sup ≡ journal_super settings
    → items ≡ rows → Reads files sup disk kept items
    → HoldsRows files (super_bytes (journal_super settings)) settings.volumes rows (directory_of disk kept)
journal_holds {D} files settings sup disk kept items rows same all r =
    subst (λ (l : List DirRow). HoldsRows files (super_bytes (journal_super settings)) settings.volumes l (directory_of disk kept)) all (record {
      is = subst (λ (u : Super). IsJournal (super_bytes u) u.settings.volumes (files disk 0).now items) same r.is;
      end = r.end;
      solid = r.solid;
      ready = r.ready;
      homes = r.homes;
      count = r.count;
    })
