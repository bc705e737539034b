-- How little an opening reads of a volume file.
use Rattle.std.proofs.Common.{◌≡◌, ◌⊎◌, inl, inr, ℕ, suc, ◌+◌, ◌<◌, ◌≤◌, ◌^◌, Bool, true, false, List, [], ◌∷◌, ◌++◌, length, map, take, drop, if◌then◌else◌, Option, Some, refl}
use Rattle.std.proofs.Common.{sym, ap, subst, ◌∙◌, arith}
use Rattle.std.proofs.Math.Path.{fun_ext}
use Rattle.std.specs.Prelude.{None}
use Rattle.std.specs.List.{AllZip, slice_get}
use Rattle.std.proofs.lemmas.List.{drop-map, drop_all, length-map}
use Rattle.hay_needle.specs.declared.needle.Cell.{Cell}
use Rattle.hay_needle.specs.declared.needle.Pair.{Pair}
use Rattle.hay_needle.specs.declared.settings.Super.{Super}
use Rattle.hay_needle.specs.Tables.{pair_eq}
use Rattle.hay_needle.specs.Super.{super_bytes}
use Rattle.hay_needle.proofs.TableLaws.{pair_same}
use Rattle.hay_disk.specs.Disk.{Files}
use Rattle.hay_head.specs.Head.{IsHead}
use Rattle.hay_volume.specs.declared.volume.VolumeFile.{VolumeFile}
use Rattle.hay_volume.proofs.Readings.{one_reading}
use Rattle.hay_index.specs.declared.record.Record.{Record}
use Rattle.hay_index.specs.Records.{IsIndex, place_behind}
use Rattle.hay_map.specs.declared.place.Place.{Place}
use Rattle.hay_map.specs.declared.place.Place.TheVariants as place
use Rattle.hay_map.specs.declared.view.OpenCell.{OpenCell}
use Rattle.hay_map.specs.Rows.{last_place}
use Rattle.hay_open.specs.declared.opened.Opened.{Opened}
use Rattle.hay_open.specs.Damage.{HasOrphans, IsRecorded}
use Rattle.hay_open.specs.Finds.{IsOrphanOf, OpenedAs, ReadsWhole, StandsAt, drawn_most, unseen_cell}
use Rattle.hay_open.specs.Stored.{IndexRests, IsStored, IsVoid, OpensAs, PlaceOf, Stored, cell_record, fresh_stored, head_super, index_file, index_super, unrecorded, volume_file, volume_super}
use Rattle.hay_open.proofs.Listings.{stored_behind, stored_same}
use Rattle.hay_physical.specs.OpenCopies.{Copy, contents_of, is_stuck, phase_stuck}
use Rattle.hay_physical.specs.Replicas.{IndexStands, Stands}
use Rattle.hay_physical.specs.Draws.{DrewLittle, DrewRecorded, HasRecordOf}

-- PLACES THAT WERE NOT LOOKED AT

module _ {P : Type 0} where
  -- it is that of a record of the pair, where it was not looked at
  abbrev IsRecordedPlace : List Record → Pair → Place P → Type 0
  IsRecordedPlace records pair p = (at size : ℕ) → p ≡ place.Unseen at size → HasRecordOf records pair size

  either_recorded : (records : List Record) (pair : Pair) (b : Bool) (p q : Place P) → (b ≡ true → IsRecordedPlace records pair p) → IsRecordedPlace records pair q
      → IsRecordedPlace records pair (if b then p else q)
  either_recorded records pair true p q own other = own refl
  either_recorded records pair false p q own other = other

  stands_seen : (at there size : ℕ) (p : Place P) → StandsAt at p → p ≡ place.Unseen there size → ⊥
  stands_seen at there size p stands is = subst (λ (q : Place P). StandsAt at q) is stands

  seen_recorded : (Tells : Type 0) (records : List Record) (orphans : List Cell) (seen : List (OpenCell P)) (pair : Pair) (p : Place P) → AllZip (IsOrphanOf Tells) orphans seen
      → IsRecordedPlace records pair p
      → IsRecordedPlace records pair (last_place seen pair p)
  seen_recorded Tells records [] [] pair p all before = before
  seen_recorded Tells records [] (one ∷ seen) pair p all before = absurd all
  seen_recorded Tells records (cell ∷ orphans) [] pair p all before = absurd all
  seen_recorded Tells records (cell ∷ orphans) (one ∷ seen) pair p all before =
      seen_recorded Tells records orphans seen pair (if pair_eq one.pair pair then one.place else p) all.1
      (either_recorded records pair (pair_eq one.pair pair) one.place p (λ own at size is. absurd (stands_seen cell.at at size one.place all.0.stands is)) before)

  same_size : (r : Record) (at size : ℕ) → ◌≡◌ {A = Place P} (place.Unseen r.at r.size) (place.Unseen at size) → r.size ≡ size
  same_size r at size is = cc

  rows_recorded : (Tells : Type 0) (all records : List Record) (orphans : List Cell) (seen : List (OpenCell P)) (pair : Pair) (p : Place P)
      → ((number : ℕ) (r : Record) → slice_get records number ≡ Some r → (k : ℕ) × (slice_get all k ≡ Some r))
      → AllZip (IsOrphanOf Tells) orphans seen → IsRecordedPlace all pair p → IsRecordedPlace all pair (last_place (map unseen_cell records ++ seen) pair p)
  rows_recorded Tells all [] orphans seen pair p within zipped before = seen_recorded Tells all orphans seen pair p zipped before
  rows_recorded Tells all (r ∷ records) orphans seen pair p within zipped before =
      rows_recorded Tells all records orphans seen pair (if pair_eq r.pair pair then place.Unseen r.at r.size else p) (λ number s there. within (suc number) s there) zipped
      (either_recorded all pair (pair_eq r.pair pair) (place.Unseen r.at r.size) p
      (λ own at size is. let here = within 0 r refl in record { number = here.0; one = r; there = here.1; pair_is = pair_same r.pair pair own; size_is = same_size r at size is }) before)

  none_unseen : (Tells : Type 0) (p : Place P) (at size : ℕ) → PlaceOf Tells None p → p ≡ place.Unseen at size → ⊥
  none_unseen Tells p at size of is = subst (λ (q : Place P). PlaceOf Tells None q) is of

-- WHAT WAS READ

-- where a head stands the file is not empty
pub some_head : (superblock file : List ℕ) (generation : ℕ) → IsHead superblock file generation → file ≡ [] → ⊥
some_head superblock file generation is void = omega (arith, is.closed.room, ap length void)

module _ {P : Type 0} (Tells : Type 0) (sup : Super) (old new : Files) (opened : Opened P) (before after : ℕ → ℕ)
    (named : opened.volume.file ≡ volume_file opened.head.generation) (most : after opened.volume.file ≤ before opened.volume.file + drawn_most opened.index.pending) where
  at_file : (orphans : List Cell) → opened.index.pending ≡ map cell_record orphans
      → after (volume_file opened.head.generation) ≤ before (volume_file opened.head.generation) + (drawn_most (map cell_record orphans) + 0)
  at_file orphans noted =
      let here : after (volume_file opened.head.generation) ≤ before (volume_file opened.head.generation) + drawn_most (map cell_record orphans) =
      subst (λ (l : List Record). after (volume_file opened.head.generation) ≤ before (volume_file opened.head.generation) + drawn_most l) noted
      (subst (λ n. after n ≤ before n + drawn_most opened.index.pending) named most) in
      omega (arith, here)

  -- of a disk that was formatted
  fresh_draws : OpenedAs sup new opened fresh_stored → ((pair : Pair) → PlaceOf Tells None (last_place opened.cells.items pair place.None))
      → DrewRecorded sup (λ n. (new n).now) before after opened.cells.items
  fresh_draws o none = record {
    drew = record {
      generation = opened.head.generation;
      records = [];
      index_end = opened.index.end;
      orphans = [];
      end = opened.volume.end;
      recorded = record {
        head = subst (λ n. IsHead (super_bytes (head_super sup)) (new 0).now n) (sym o.generation) o.head.is;
        begins = subst (λ n. take 64 (new (volume_file n)).now ≡ super_bytes (volume_super sup n)) (sym o.generation) o.cells.is.begins;
        index = subst (λ n. IsIndex (super_bytes (index_super sup n)) (new (index_file n)).now [] opened.index.end) (sym o.generation) o.index.is;
      };
      behind = subst (λ n. HasOrphans (new (volume_file n)).now [] [] opened.volume.end) (sym o.generation)
          (subst (λ n. HasOrphans (new 1).now [] [] n) (sym (ap (λ (v : VolumeFile). v.end) o.volume))
          (record { fits = λ number r last there. absurd (omega (arith, last)); has = o.cells.is.has; closed = o.cells.is.closed }));
      more = 0;
      looks = refl;
      most = at_file [] o.noted;
    };
    unseen = λ pair at size is. absurd (none_unseen Tells (last_place opened.cells.items pair place.None) at size (none pair) is);
  }

  whole_draws : ReadsWhole Tells sup (λ n. (old n).now) opened → ◌≡◌ {A = ℕ → List ℕ} (λ n. (new n).now) (λ n. (old n).now) → DrewRecorded sup (λ n. (new n).now) before after opened.cells.items
  whole_draws whole kept = record {
    drew = record {
      generation = opened.head.generation;
      records = whole.records;
      index_end = opened.index.end;
      orphans = whole.orphans;
      end = opened.volume.end;
      recorded = subst (λ contents. IsRecorded sup contents opened.head.generation whole.records opened.index.end) (sym kept) whole.recorded;
      behind = subst (λ (contents : ℕ → List ℕ). HasOrphans (contents (volume_file opened.head.generation)) whole.records whole.orphans opened.volume.end) (sym kept) whole.behind;
      more = 0;
      looks = refl;
      most = at_file whole.orphans whole.noted;
    };
    unseen = λ pair.
        subst (λ (l : List (OpenCell P)). IsRecordedPlace whole.records pair (last_place l pair place.None)) (sym whole.cells.1)
        (rows_recorded Tells whole.records whole.records whole.orphans whole.cells.0 pair place.None (λ number r there. (number, there)) whole.cells.2 (λ at size is. absurd cc));
  }

  pub opening_draws : IsVoid (λ n. (old n).now) ⊎ ReadsWhole Tells sup (λ n. (old n).now) opened → (OpensAs sup (λ n. (old n).now) fresh_stored → OpenedAs sup new opened fresh_stored)
      → (OpensAs sup (λ n. (old n).now) fresh_stored → (pair : Pair) → PlaceOf Tells None (last_place opened.cells.items pair place.None))
      → ((IsVoid (λ n. (old n).now) → ⊥) → (n : ℕ) → (new n).now ≡ (old n).now) → DrewRecorded sup (λ n. (new n).now) before after opened.cells.items
  unfolding OpensAs
  opening_draws (inl void) fresh places kept = fresh_draws (fresh (inl (void, refl))) (places (inl (void, refl)))
  opening_draws (inr whole) fresh places kept =
      whole_draws whole (fun_ext (λ n. kept (λ void. some_head (super_bytes (head_super sup)) (old 0).now opened.head.generation whole.recorded.head void) n))

-- OF A WHOLE DISK

-- what was read of it is what it has
pub drew_stored : (sup : Super) (contents : ℕ → List ℕ) (looked : Option Pair) (before after : ℕ → ℕ) (s : Stored) → ((n : ℕ) → length (contents n) < 2 ^ 64)
    → IsStored sup contents s → (drew : DrewLittle sup contents looked before after)
    → (drew.generation ≡ s.generation) × (map cell_record drew.orphans ≡ unrecorded s)
drew_stored sup contents looked before after s fits stored drew =
    let same = stored_same sup contents drew.generation drew.index_end drew.records s fits drew.recorded stored in
    let behind = stored_behind sup contents drew.generation drew.records s stored same in
    let cells =
    one_reading (place_behind 64 drew.records) drew.end s.end (contents (volume_file drew.generation)) drew.orphans (drop s.records s.cells) drew.behind.has drew.behind.closed behind.0 behind.1 in
    (sym same.generation_is, ap (λ (l : List Cell). map cell_record l) cells.0 ∙ sym (drop-map cell_record s.records s.cells))

none_behind : (s : Stored) → s.records ≡ length s.cells → unrecorded s ≡ []
none_behind s all = drop_all s.records (map cell_record s.cells) (omega (arith, all, length-map s.cells cell_record))

-- where all cells have a record, and no look was taken, it is no more than this
pub flushed_draws : (sup : Super) (contents : ℕ → List ℕ) (before after : ℕ → ℕ) (s : Stored) → ((n : ℕ) → length (contents n) < 2 ^ 64) → IsStored sup contents s
    → s.records ≡ length s.cells → DrewLittle sup contents None before after
    → after (volume_file s.generation) ≤ before (volume_file s.generation) + 108
flushed_draws sup contents before after s fits stored all drew =
    let same = drew_stored sup contents None before after s fits stored drew in
    let nothing : map cell_record drew.orphans ≡ [] = same.1 ∙ none_behind s all in
    let none : drew.more ≡ 0 = drew.looks in
    let here : after (volume_file drew.generation) ≤ before (volume_file drew.generation) + (drawn_most [] + drew.more) =
    subst (λ (l : List Record). after (volume_file drew.generation) ≤ before (volume_file drew.generation) + (drawn_most l + drew.more)) nothing drew.most in
    subst (λ n. after (volume_file n) ≤ before (volume_file n) + 108) same.0 (omega (arith, here, none))

-- what a replica whose index is not stuck stands for is stored on its disk
pub stands_stored : {D : Type 0} (files : D → Files) (r : Copy D) (s : Stored) → is_stuck r ≡ false → Stands files r s → IsStored r.sup (contents_of files r.disk) s
unfolding Stands
stands_stored files r s loose stands =
    let stuck : stands.opened.index.frozen ≡ false = sym (ap phase_stuck stands.phase) ∙ loose in
    let index : IndexRests r.sup (files r.disk (index_file s.generation)) s stands.opened.index.end =
    subst (λ (b : Bool). IndexStands r.sup (files r.disk (index_file s.generation)) s stands.opened.index.end b) stuck stands.stand.index in
    record { head = stands.stand.head.is; volume = stands.stand.cells.is; lags = stands.stand.lags; index_end = stands.opened.index.end; index = index.is }
