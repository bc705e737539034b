-- What the next run of a store knows of pairs.
use Rattle.std.proofs.Common.{◌≡◌, ◌⊎◌, inl, inr, ◌≤◌, ◌^◌, ℕ, List, [], ◌∷◌, length, map, Option, Some, None, refl, sym, ap, subst, ◌∙◌, arith}
use Rattle.std.specs.Prelude.{if◌then◌else◌}
use Rattle.std.proofs.lemmas.List.{length-map}
use Rattle.hay_needle.specs.Super.{super_bytes}
use Rattle.hay_needle.specs.Tables.{pair_eq}
use Rattle.hay_needle.specs.declared.needle.Cookie.{Cookie}
use Rattle.hay_needle.specs.declared.needle.Pair.{Pair}
use Rattle.hay_needle.specs.declared.settings.Settings.{Settings}
use Rattle.hay_dirfile.specs.Journal.{IsJournal}
use Rattle.hay_dirfile.specs.declared.row.DirRow.{DirRow}
use Rattle.hay_reply.specs.declared.Reply.{Reply}
use Rattle.hay_reply.specs.declared.Reply.TheVariants as reply
use Rattle.hay_core.specs.declared.entry.CoreTag.{CoreTag}
use Rattle.hay_legal.specs.declared.known.HomeRow.{HomeRow}
use Rattle.hay_legal.specs.declared.known.Known.{Known}
use Rattle.hay_legal.specs.Known.{home_of}
use Rattle.hay_legal.specs.Known as known
use Rattle.hay_legal.specs.Plain.{LegalShow, start_of}
use Rattle.hay_directory.specs.Rows.{home_row, journal_super}
use Rattle.hay_directory.specs.Rows as directory
use Rattle.hay_directory.proofs.RowLaws.{dir_rows, opens_journal, opens_once, opens_void}
use Rattle.hay_batch.specs.Homes.{home_in}
use Rattle.hay_loading.specs.NextRun.{PairsWithoutRowAreUnknown, RunsFindNoOthers, RunsFindTheRows}

pub runs_find_the_rows : RunsFindTheRows
runs_find_the_rows settings image rows (inl void) = subst (λ (l : List DirRow). directory.OpensRows settings (image 0) (map home_row l)) (sym void.1) (opens_void settings (image 0) void.0)
runs_find_the_rows settings image rows (inr is) =
    opens_journal settings (image 0) (map home_row rows)
    (subst (λ (l : List DirRow). IsJournal (super_bytes (journal_super settings)) settings.volumes (image 0 0) l) (sym (dir_rows rows)) is)

same_home : (rows : List DirRow) (pair : Pair) → known.home_in (map home_row rows) pair ≡ home_in rows pair
same_home [] pair = refl
same_home (row ∷ rows) pair = ap (λ (home : Option ℕ). if pair_eq row.pair pair then Some row.volume else home) (same_home rows pair)

pub runs_find_no_others : RunsFindNoOthers
runs_find_no_others settings image rows k few opens finds =
    let most : settings.volumes ≤ 2 ^ 32 = omega (arith, few) in
    let same : k.directory.rows ≡ map home_row rows = opens_once settings (image 0) k.directory.rows (map home_row rows) most finds (runs_find_the_rows settings image rows opens) in (
      λ pair. ap (λ (l : List HomeRow). known.home_in l pair) same ∙ same_home rows pair,
      ap length same ∙ length-map rows home_row,
    )

-- whatever shows a pair that has no home
shown_unknown : (settings : Settings) (k t : Known) (tag : CoreTag) (start count : ℕ) (pair : Pair) (cookie : Cookie) (answer : Reply) → home_of k pair ≡ None → length k.directory.rows ≡ count
    → LegalShow settings k tag start pair cookie answer t → (answer ≡ reply.Unknown count) ⊎ (answer ≡ reply.NoMem)
shown_unknown settings k t tag start count pair cookie (reply.Photo v m p d bytes) none many shows = let home = shows.seen.home in absurd cc
shown_unknown settings k t tag start count pair cookie (reply.Gone v m p d) none many shows = let home = shows.seen.home in absurd cc
shown_unknown settings k t tag start count pair cookie (reply.WrongCookie v m p d) none many shows = let home = shows.3.seen.home in absurd cc
shown_unknown settings k t tag start count pair cookie (reply.Unreadable v p d causes) none many shows = let home = shows.seen.home in absurd cc
shown_unknown settings k t tag start count pair cookie (reply.Unknown d) none many shows = inl (ap (λ (n : ℕ). reply.Unknown n) (shows.0.1 ∙ many))
shown_unknown settings k t tag start count pair cookie reply.NoMem none many shows = inr refl
shown_unknown settings k t tag start count pair cookie _ none many shows = absurd shows

pub pairs_without_row_are_unknown : PairsWithoutRowAreUnknown
pairs_without_row_are_unknown settings image rows k t line pair cookie answer few opens finds none legal =
    let found = runs_find_no_others settings image rows k few opens finds in
    shown_unknown settings k t (record { lane = 0; line = line }) (start_of settings (record { lane = 0; line = line })) (length rows) pair cookie answer (found.0 pair ∙ none) found.1 legal
