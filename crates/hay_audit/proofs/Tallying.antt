-- How much entries add to what stands.
use Rattle.std.proofs.Common.{◌≡◌, ℕ, ◌+◌, ◌≤◌, Bool, true, false, cond, not, List, [], ◌∷◌, ◌++◌, length, fold, filter, sum_by, take, refl, sym, ap, subst, ◌∙◌, arith}
use Rattle.std.proofs.Common.{take_all}
use Rattle.std.specs.FinMap.Entries.{by_order}
use Rattle.std.specs.Ordering.{eq_by_cmp}
use Rattle.std.specs.declared.cmp.Ordering.{Ordering}
use Rattle.std.specs.declared.cmp.Ordering.TheVariants.{Less, Equal, Greater}
use Rattle.std.proofs.lemmas.List.{length-map}
use Rattle.std.proofs.lemmas.List.Sums.{sum_by-cons}
use Rattle.hay_needle.specs.declared.needle.Pair.{Pair}
use Rattle.hay_needle.specs.declared.needle.Photo.{Photo}
use Rattle.hay_needle.specs.Sizes.{needle_total}
use Rattle.hay_needle.specs.Tables.{Table, live_end, pair_cmp, with_photo}
use Rattle.hay_core.specs.declared.entry.Entry.{Entry}
use Rattle.hay_core.specs.declared.entry.Entry.TheVariants as entry
use Rattle.hay_core.specs.declared.entry.Logged.{Logged}
use Rattle.hay_core.specs.Entries.{apply_entry, entries_of}
use Rattle.hay_legal.specs.declared.known.ReplicaKnown.{ReplicaKnown}
use Rattle.hay_legal.specs.declared.known.VolumeKnown.{VolumeKnown}
use Rattle.hay_legal.specs.Known.{now}
use Rattle.hay_legal.specs.Restarts.{added_cells, added_end, with_entries}

-- A SUM OVER A TABLE

-- it grows by the new photo's part at most
put_within : (f : Pair × Photo → ℕ) (n : ℕ) (pair : Pair) (photo : Photo) (table : Table) → ((p : Pair) → f (p, photo) ≡ n)
    → sum_by f (with_photo table pair photo) ≤ sum_by f table + n
put_within f n pair photo [] is = omega (arith, is pair, sum_by-cons f (pair, photo) [])
put_within f n pair photo (e ∷ table) is = by (pair_cmp pair e.0) (put_within f n pair photo table is)
  where
    by : (o : Ordering) → sum_by f (with_photo table pair photo) ≤ sum_by f table + n
        → sum_by f (by_order o ((pair, photo) ∷ e ∷ table) ((e.0, photo) ∷ table) (e ∷ with_photo table pair photo)) ≤ sum_by f (e ∷ table) + n
    by Less rest = omega (arith, is pair, sum_by-cons f (pair, photo) (e ∷ table))
    by Equal rest = omega (arith, is e.0, sum_by-cons f (e.0, photo) table, sum_by-cons f e table)
    by Greater rest = omega (arith, rest, sum_by-cons f e (with_photo table pair photo), sum_by-cons f e table)

keep_within : {X : Type 0} (f : X → ℕ) (x : X) (xs ys : List X) (b : Bool) → sum_by f ys ≤ sum_by f xs → sum_by f (cond b (x ∷ ys) ys) ≤ sum_by f (x ∷ xs)
keep_within f x xs ys true rest = omega (arith, rest, sum_by-cons f x xs, sum_by-cons f x ys)
keep_within f x xs ys false rest = omega (arith, rest, sum_by-cons f x xs)

-- and falls where photos go
filter_within : {X : Type 0} (f : X → ℕ) (test : X → Bool) (xs : List X) → sum_by f (filter test xs) ≤ sum_by f xs
filter_within f test [] = omega arith
filter_within f test (x ∷ xs) = keep_within f x xs (filter test xs) (test x) (filter_within f test xs)

counted : {X : Type 0} (xs : List X) → sum_by (λ x. 1) xs ≡ length xs
counted [] = refl
counted (x ∷ xs) = omega (arith, counted xs, sum_by-cons (λ y. 1) x xs)

abbrev photo_total : Pair × Photo → ℕ
photo_total photo = needle_total (length (photo.1).bytes)

-- ONE ENTRY

-- A table's end and its photos are at most so much above those of another.
pub record IsAbove (table next : Table) (bytes cells : ℕ) : Type 0 where
  pub end : live_end next ≤ live_end table + bytes
  pub photos : length next ≤ length table + cells

pub entry_above : (table : Table) (e : Entry) → IsAbove table (apply_entry table e) (added_end (e ∷ [])) (added_cells (e ∷ []))
entry_above table (entry.Put pair cookie bytes) =
    let photo : Photo = record { cookie = cookie; bytes = bytes } in
    let size = put_within photo_total (needle_total (length bytes)) pair photo table (λ p. refl) in
    let photos = put_within (λ e. 1) 1 pair photo table (λ p. refl) in
    record { end = omega (arith, size); photos = omega (arith, photos, counted (with_photo table pair photo), counted table) }
entry_above table (entry.Del pair) =
    let size = filter_within photo_total (λ (e : Pair × Photo). not (eq_by_cmp pair_cmp pair e.0)) table in
    let photos = filter_within (λ e. 1) (λ (e : Pair × Photo). not (eq_by_cmp pair_cmp pair e.0)) table in
    record { end = omega (arith, size); photos = omega (arith, photos, counted (apply_entry table (entry.Del pair)), counted table) }

-- A LOG

-- the bytes of the needles of its puts
abbrev pub log_size : List Logged → ℕ
log_size [] = 0
log_size (logged ∷ log) = added_end (logged.entry ∷ []) + log_size log

pub log_size_more : (log : List Logged) (logged : Logged) → log_size (log ++ logged ∷ []) ≡ log_size log + added_end (logged.entry ∷ [])
log_size_more [] logged = omega arith
log_size_more (first ∷ log) logged = omega (arith, log_size_more log logged)

pub log_length : (log : List Logged) (logged : Logged) → length (log ++ logged ∷ []) ≡ length log + 1
log_length [] logged = refl
log_length (first ∷ log) logged = omega (arith, log_length log logged)

one_cell : (e : Entry) → added_cells (e ∷ []) ≤ 1
one_cell (entry.Put pair cookie bytes) = omega arith
one_cell (entry.Del pair) = omega arith

log_above : (table : Table) (log : List Logged) → IsAbove table (fold apply_entry table (entries_of log)) (log_size log) (length log)
log_above table [] = record { end = omega arith; photos = omega arith }
log_above table (logged ∷ log) =
    let first = entry_above table logged.entry in
    let rest = log_above (apply_entry table logged.entry) log in
    record {
      end = omega (arith, first.end, rest.end);
      photos = omega (arith, first.photos, rest.photos, one_cell logged.entry);
    }

now_is : (volume : VolumeKnown) (replica : ReplicaKnown) → now volume replica ≡ fold apply_entry replica.base (entries_of volume.log)
now_is volume replica =
    ap (λ (es : List Entry). fold apply_entry replica.base es)
    (ap (λ (n : ℕ). take n (entries_of volume.log)) (sym (length-map volume.log (λ logged. logged.entry))) ∙ take_all (length (entries_of volume.log)) (entries_of volume.log) (omega arith))

-- what stands on a replica, by what it began with
pub now_above : (volume : VolumeKnown) (replica : ReplicaKnown) → IsAbove replica.base (now volume replica) (log_size volume.log) (length volume.log)
now_above volume replica = subst (λ (t : Table). IsAbove replica.base t (log_size volume.log) (length volume.log)) (sym (now_is volume replica)) (log_above replica.base volume.log)

-- KEPT ENTRIES

pub none_above : (table : Table) → IsAbove table (with_entries table []) (added_end []) (added_cells [])
none_above table = record { end = omega arith; photos = omega arith }

pub one_above : (table : Table) (e : Entry) → IsAbove table (with_entries table (e ∷ [])) (added_end (e ∷ [])) (added_cells (e ∷ []))
one_above table e = entry_above table e
