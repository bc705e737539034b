-- The rows of a journal, as the rows of homes.
use Rattle.std.proofs.Common.{◌≡◌, ◌⊎◌, inl, inr, ◌<◌, ◌≤◌, ◌+◌, ◌^◌, ℕ, Bool, true, false, List, [], ◌∷◌, ◌++◌, length, map, Option, Some, None, refl, sym, ap, subst, ◌∙◌, arith}
use Rattle.std.proofs.Common.{append-nil, length-append}
use Rattle.std.proofs.lemmas.List.{map-append, length-map}
use Rattle.hay_needle.specs.declared.needle.Pair.{Pair}
use Rattle.hay_needle.specs.declared.settings.Settings.{Settings}
use Rattle.hay_needle.specs.declared.settings.Super.{Super}
use Rattle.hay_needle.specs.Super.{super_bytes}
use Rattle.hay_disk.specs.Disk.{FileState, IsImage, IsSolid, IsSolidIn}
use Rattle.hay_disk.specs.Gate.{IsGate}
use Rattle.hay_disk.proofs.Images.{solid_whole}
use Rattle.hay_dirfile.specs.declared.row.DirRow.{DirRow}
use Rattle.hay_dirfile.specs.Journal.{IsJournal, journal_end, journal_magic}
use Rattle.hay_dirfile.proofs.JournalLaws.{one_journal}
use Rattle.hay_legal.specs.declared.known.HomeRow.{HomeRow}
use Rattle.hay_legal.specs.declared.known.PendingRow.{PendingRow}
use Rattle.hay_legal.specs.Known.{home_in}
use Rattle.hay_legal.specs.Restarts.{kept_row}
use Rattle.hay_directory.specs.Homes.{home_among}
use Rattle.hay_directory.specs.Rows.{dir_row, home_row, journal_super, HasJournal, FileHasRows, OpensRows}
use Rattle.hay_directory.specs.State.{FindsRows, HoldsRows, IsSettled, IsUnsure}

-- THE SAME ROWS

pub dir_rows : (rows : List DirRow) → map dir_row (map home_row rows) ≡ rows
dir_rows [] = refl
dir_rows (row ∷ rows) = ap (λ (l : List DirRow). row ∷ l) (dir_rows rows)

pub home_rows : (rows : List HomeRow) → map home_row (map dir_row rows) ≡ rows
home_rows [] = refl
home_rows (row ∷ rows) = ap (λ (l : List HomeRow). row ∷ l) (home_rows rows)

pub dir_rows-more : (rows : List HomeRow) (row : HomeRow) → map dir_row (rows ++ row ∷ []) ≡ map dir_row rows ++ dir_row row ∷ []
dir_rows-more rows row = map-append dir_row rows (row ∷ [])

-- a file of a journal is not empty
pub not_void : (settings : Settings) (file : List ℕ) (rows : List HomeRow) → HasJournal settings file rows → 0 < length file
not_void settings file rows is = omega (arith, is.closed.room)

not_both : (settings : Settings) (file : List ℕ) (rows : List HomeRow) → file ≡ [] → HasJournal settings file rows → ⊥
not_both settings file rows void is = omega (arith, not_void settings file rows is, ap length void)

-- one file has one list of rows
one_list : (settings : Settings) (file : List ℕ) (rows more : List HomeRow) → settings.volumes ≤ 2 ^ 32 → FileHasRows settings file rows → FileHasRows settings file more → rows ≡ more
one_list settings file rows more most (inl void) (inl also) = void.1 ∙ sym also.1
one_list settings file rows more most (inl void) (inr is) = absurd (not_both settings file more void.0 is)
one_list settings file rows more most (inr is) (inl void) = absurd (not_both settings file rows void.0 is)
one_list settings file rows more most (inr is) (inr also) =
    sym (home_rows rows) ∙ ap (λ l. map home_row l) (one_journal (super_bytes (journal_super settings)) settings.volumes file (map dir_row rows) (map dir_row more) most is also) ∙ home_rows more

-- what an opening finds is one list of rows
pub opens_once : (settings : Settings) (contents : ℕ → List ℕ) (rows more : List HomeRow) → settings.volumes ≤ 2 ^ 32 → OpensRows settings contents rows
    → OpensRows settings contents more → rows ≡ more
unfolding OpensRows
opens_once settings contents rows more most first second = one_list settings (contents 0) rows more most first second

pub opens_journal : (settings : Settings) (contents : ℕ → List ℕ) (rows : List HomeRow) → HasJournal settings (contents 0) rows → OpensRows settings contents rows
unfolding OpensRows
opens_journal settings contents rows is = inr is

-- a void disk has no rows
pub opens_void : (settings : Settings) (contents : ℕ → List ℕ) → contents 0 ≡ [] → OpensRows settings contents []
unfolding OpensRows
opens_void settings contents void = inl (void, refl)

-- where no journal has a row, nothing has
pub no_rows : (settings : Settings) (file : List ℕ) (rows : List HomeRow) → ((items : List DirRow) → IsJournal (super_bytes (journal_super settings)) settings.volumes file items
    → items ≡ []) → FileHasRows settings file rows → rows ≡ []
no_rows settings file rows none (inl void) = void.1
no_rows settings file rows none (inr is) = sym (home_rows rows) ∙ ap (λ (l : List DirRow). map home_row l) (none (map dir_row rows) is)

-- WHAT A STOP LEAVES

pub journal_left : (settings : Settings) (file : FileState) (end : ℕ) (rows : List HomeRow) (pending : Option PendingRow) (image : List ℕ)
    → HoldsRows settings file end rows pending → IsImage file image
    → (kept : Bool) × HasJournal settings image (rows ++ kept_row pending kept)
journal_left settings file end rows None image settled is =
    let here : HasJournal settings image rows = subst (λ (l : List ℕ). HasJournal settings l rows) (sym (solid_whole file image settled.solid is)) settled.journal in
    (false, subst (λ (l : List HomeRow). HasJournal settings image l) (sym (append-nil rows)) here)
journal_left settings file end rows (Some pending) image unsure is = elim (unsure.images image is) [
  | inl old ↦ (false, subst (λ (l : List HomeRow). HasJournal settings image l) (sym (append-nil rows)) old)
  | inr new ↦ (true, new)
]

-- A ROW IS ADDED

-- what the journal says of a row that was added
abbrev pub Adds : DirRow → ℕ → List ℕ → List ℕ → Type 0
Adds row end old new =
    (superblock : List ℕ) (volumes : ℕ) (rows : List DirRow) → row.volume < volumes → end ≡ journal_end rows → IsJournal superblock volumes old rows
    → IsJournal superblock volumes new (rows ++ row ∷ [])

abbrev pub Leaves : DirRow → ℕ → FileState → FileState → Type 0
Leaves row end old new =
    (superblock : List ℕ) (volumes : ℕ) (rows : List DirRow) (image : List ℕ) → row.volume < volumes → end ≡ journal_end rows → IsJournal superblock volumes old.now rows
    → IsSolidIn 0 end old → IsImage new image
    → IsJournal superblock volumes image rows ⊎ IsJournal superblock volumes image (rows ++ row ∷ [])

pub row_added : (settings : Settings) (old new : FileState) (end next : ℕ) (rows : List HomeRow) (row : HomeRow) → IsSettled settings old end rows → row.volume < settings.volumes
    → Adds (dir_row row) end old.now new.now → IsSolid new → IsGate journal_magic next new → next ≡ end + 24
    → IsSettled settings new next (rows ++ row ∷ [])
row_added settings old new end next rows row was below adds solid gate nexts =
    let more = sym (dir_rows-more rows row) in
    record {
      journal = subst (λ (l : List DirRow). IsJournal (super_bytes (journal_super settings)) settings.volumes new.now l) more
          (adds (super_bytes (journal_super settings)) settings.volumes (map dir_row rows) below was.ends was.journal);
      solid = solid;
      gate = gate;
      ends = omega (arith, was.ends, nexts, length-map rows dir_row, length-map (rows ++ row ∷ []) dir_row, length-append rows (row ∷ []));
    }

pub row_left : (settings : Settings) (old new : FileState) (end : ℕ) (rows : List HomeRow) (row : HomeRow) → IsSettled settings old end rows → row.volume < settings.volumes
    → Leaves (dir_row row) end old new → home_in rows row.pair ≡ None → IsUnsure settings new rows row
row_left settings old new end rows row was below leaves homeless = record {
  images = λ image is. elim (leaves (super_bytes (journal_super settings)) settings.volumes (map dir_row rows) image below was.ends was.journal (λ k from to. was.solid.places k) is) [
    | inl same ↦ inl same
    | inr more ↦ inr (subst (λ (l : List DirRow). IsJournal (super_bytes (journal_super settings)) settings.volumes image l) (sym (dir_rows-more rows row)) more)
  ];
  homeless = homeless;
}

-- WHAT AN OPENING FINDS

file_rows : (settings : Settings) (file new : List ℕ) (items : List DirRow) → HasJournal settings new (map home_row items) → (file ≡ [] → items ≡ [])
    → (0 < length file → new ≡ file) → FileHasRows settings file (map home_row items)
file_rows settings [] new items is void keeps = inl (refl, ap (λ (l : List DirRow). map home_row l) (void refl))
file_rows settings (byte ∷ file) new items is void keeps = inr (subst (λ (l : List ℕ). HasJournal settings l (map home_row items)) (keeps (omega arith)) is)

only_rows : (settings : Settings) (file : List ℕ) (items : List DirRow) (more : List HomeRow) → (file ≡ [] → items ≡ [])
    → ((rows : List DirRow) → IsJournal (super_bytes (journal_super settings)) settings.volumes file rows → items ≡ rows)
    → FileHasRows settings file more → map home_row items ≡ more
only_rows settings file items more void exact (inl none) = ap (λ (l : List DirRow). map home_row l) (void none.0) ∙ sym none.1
only_rows settings file items more void exact (inr is) = ap (λ (l : List DirRow). map home_row l) (exact (map dir_row more) is) ∙ home_rows more

pub found_rows : (settings : Settings) (sup : Super) (old new : FileState) (end count : ℕ) (homes : List ((ℕ × ℕ) × ℕ)) (items : List DirRow) → sup ≡ journal_super settings
    → IsJournal (super_bytes sup) sup.settings.volumes new.now items → end ≡ journal_end items
    → IsSolid new → IsGate journal_magic end new → (old.now ≡ [] → items ≡ []) → (0 < length old.now → new ≡ old)
    → ((rows : List DirRow) → IsJournal (super_bytes sup) sup.settings.volumes old.now rows → items ≡ rows)
    → ((pair : Pair) → home_among homes pair ≡ home_in (map home_row items) pair) → count ≡ length items → FindsRows settings old new end homes count (map home_row items)
found_rows settings sup old new end count homes items sups is ends solid gate void keeps exact homes_are counts =
    let same : IsJournal (super_bytes (journal_super settings)) settings.volumes new.now items = subst (λ (s : Super). IsJournal (super_bytes s) s.settings.volumes new.now items) sups is in
    let here : HasJournal settings new.now (map home_row items) =
    subst (λ (l : List DirRow). IsJournal (super_bytes (journal_super settings)) settings.volumes new.now l) (sym (dir_rows items)) same in
    record {
      found = file_rows settings old.now new.now items here void (λ some. ap (λ (f : FileState). f.now) (keeps some));
      only =
          λ more has. only_rows settings old.now items more void (subst (λ (s : Super). (rows : List DirRow) → IsJournal (super_bytes s) s.settings.volumes old.now rows
          → items ≡ rows) sups exact) has;
      settled = record { journal = here; solid = solid; gate = gate; ends = ends ∙ ap (λ (l : List DirRow). journal_end l) (sym (dir_rows items)) };
      homes_are = homes_are;
      count_is = counts ∙ sym (length-map items home_row);
    }

-- what has rows is not damaged
pub undamaged : (settings : Settings) (sup : Super) (file : List ℕ) (rows : List HomeRow) → sup ≡ journal_super settings → FileHasRows settings file rows → 0 < length file
    → ((items : List DirRow) → IsJournal (super_bytes sup) sup.settings.volumes file items → ⊥) → ⊥
undamaged settings sup file rows sups (inl none) some only = omega (arith, ap length none.0)
undamaged settings sup file rows sups (inr is) some only = only (map dir_row rows) (subst (λ (s : Super). IsJournal (super_bytes s) s.settings.volumes file (map dir_row rows)) (sym sups) is)
