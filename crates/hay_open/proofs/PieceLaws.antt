-- Pieces that were given out of a volume file, one needle after another.
use Rattle.std.proofs.Common.{◌≡◌, inl, inr, ℕ, ◌+◌, ◌≤◌, false, List, [], ◌∷◌, ◌++◌, take, drop, Some, refl, sym, subst, ◌∙◌, arith}
use Rattle.std.specs.List.{slice_get}
use Rattle.hay_needle.specs.Sizes.{needle_total}
use Rattle.hay_disk.specs.Disk.{Files, FileState, KeepsOthers, Seals}
use Rattle.hay_disk.proofs.Steps.{others_others, solid_seals}
use Rattle.hay_index.specs.declared.record.Record.{Record}
use Rattle.hay_index.specs.Records.{AreInRow, place_behind}
use Rattle.hay_open.specs.Listing.{GivesPieces, RowFlagsFree}
use Rattle.hay_open.proofs.CellRows.{behind_far, row_within, split_at}

-- flags bytes before a piece, behind it, and its hole
flags_before : (from at n : ℕ) (rows more : List Record) (old new : FileState) → AreInRow from (rows ++ more) → place_behind from rows ≤ at → Seals at n 28 old new
    → RowFlagsFree old more → (RowFlagsFree old more → RowFlagsFree new more)
    → RowFlagsFree old (rows ++ more) → RowFlagsFree new (rows ++ more)
flags_before from at n [] more old new row low seals were rest free = rest free
flags_before from at n (r ∷ rows) more old new row low seals were rest free =
    let far = behind_far (from + needle_total r.size) rows in
    let place = row.0 in
    (seals.free (r.at + 28) free.0 (inl (inl (omega arith))), flags_before (from + needle_total r.size) at n rows more old new row.1 low seals were rest free.1)

flags_behind : (from at n : ℕ) (rows : List Record) (old new : FileState) → AreInRow from rows → at + n ≤ from → Seals at n 28 old new → RowFlagsFree old rows → RowFlagsFree new rows
flags_behind from at n [] old new row far seals free = tt
flags_behind from at n (r ∷ rows) old new row far seals free =
    let place = row.0 in
    (seals.free (r.at + 28) free.0 (inl (inr (omega arith))), flags_behind (from + needle_total r.size) at n rows old new row.1 (omega arith) seals free.1)

row_here : (from : ℕ) (before after : List Record) (r : Record) → AreInRow from (before ++ r ∷ after) → (r.at ≡ place_behind from before) × AreInRow (r.at + needle_total r.size) after
row_here from [] after r row = (row.0, subst (λ n. AreInRow (n + needle_total r.size) after) (sym row.0) row.1)
row_here from (b ∷ before) after r row = row_here (from + needle_total b.size) before after r row.1

free_behind : (before after : List Record) (r : Record) (file : FileState) → RowFlagsFree file (before ++ r ∷ after) → RowFlagsFree file (r ∷ after)
free_behind [] after r file free = free
free_behind (b ∷ before) after r file free = free_behind before after r file free.1

flags_stay : (from : ℕ) (before after : List Record) (r : Record) (old new : FileState) → AreInRow from (before ++ r ∷ after) → Seals r.at (needle_total r.size) 28 old new
    → RowFlagsFree old (before ++ r ∷ after)
    → RowFlagsFree new (before ++ r ∷ after)
flags_stay from before after r old new row seals free =
    let here = row_here from before after r row in
    flags_before from r.at (needle_total r.size) before (r ∷ after) old new row (omega (arith, here.0)) seals (free_behind before after r old free)
    (λ own. (seals.free (r.at + 28) own.0 (inr refl), flags_behind (r.at + needle_total r.size) r.at (needle_total r.size) after old new here.1 (omega arith) seals own.1)) free

-- none, one, and some after others

pub gives_none : (volume end : ℕ) (rows : List Record) (files : Files) → GivesPieces volume rows end files files
gives_none volume end rows files = record { others = λ other apart. refl; now = refl; solid = λ was. was; flags = λ free. free; free = λ free. free }

pub gives_one : (volume k : ℕ) (rows : List Record) (r : Record) (old new : Files) → AreInRow 64 rows → slice_get rows k ≡ Some r → KeepsOthers volume old new
    → Seals r.at (needle_total r.size) 28 (old volume) (new volume)
    → GivesPieces volume rows (place_behind 64 rows) old new
gives_one volume k rows r old new row there others seals =
    let split : rows ≡ take k rows ++ r ∷ drop (k + 1) rows = split_at k rows r there in
    let within = row_within 64 k rows r row there in
    record {
      others = others;
      now = seals.now;
      solid = λ was. solid_seals r.at (needle_total r.size) 28 (old volume) (new volume) was seals;
      flags = λ free.
          subst (λ (l : List Record). RowFlagsFree (new volume) l) (sym split)
          (flags_stay 64 (take k rows) (drop (k + 1) rows) r (old volume) (new volume) (subst (λ (l : List Record). AreInRow 64 l) split row) seals
          (subst (λ (l : List Record). RowFlagsFree (old volume) l) split free));
      free = λ free k from. seals.free k (free k from) (inl (inr (omega (arith, within.1))));
    }

pub gives_more : (volume end : ℕ) (rows : List Record) (a b c : Files) → GivesPieces volume rows end a b → GivesPieces volume rows end b c → GivesPieces volume rows end a c
gives_more volume end rows a b c first second = record {
  others = others_others volume a b c first.others second.others;
  now = second.now ∙ first.now;
  solid = λ was. second.solid (first.solid was);
  flags = λ free. second.flags (first.flags free);
  free = λ free. second.free (first.free free);
}

-- nothing sealed at all
pub all_free : (rows : List Record) (file : FileState) → ((k : ℕ) → file.sealed k ≡ false) → RowFlagsFree file rows
all_free [] file free = tt
all_free (r ∷ rows) file free = (free (r.at + 28), all_free rows file free)
