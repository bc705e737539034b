-- A photo that the index of a disk records: how an opening sees it, by whether its needle stands.
use Rattle.std.proofs.Common.{◌≡◌, ℕ, ◌+◌, ◌<◌, ◌≤◌, ◌^◌, Bool, false, true, List, [], ◌∷◌, length, Option, None, Some, refl, ap, sym, subst, ◌∙◌, arith}
use Rattle.std.specs.Prelude.{if◌then◌else◌}
use Rattle.std.specs.Option.{option_or}
use Rattle.hay_needle.specs.declared.needle.Cell.{Cell}
use Rattle.hay_needle.specs.declared.needle.Pair.{Pair}
use Rattle.hay_needle.specs.declared.settings.Settings.{Settings}
use Rattle.hay_needle.specs.declared.settings.Super.{Super}
use Rattle.hay_needle.specs.Needle.{needle_of_cell}
use Rattle.hay_needle.specs.Sizes.{needle_total}
use Rattle.hay_needle.specs.Super.{super_bytes}
use Rattle.hay_needle.specs.Tables.{pair_eq}
use Rattle.hay_head.proofs.HeadLaws.{one_generation}
use Rattle.hay_index.specs.declared.record.Record.{Record}
use Rattle.hay_index.specs.Records.{AreInRow, IsIndex, place_behind}
use Rattle.hay_index.proofs.Readings.{one_reading as one_index}
use Rattle.hay_volume.specs.Needles.{HasNeedleOf, LacksNeedleOf}
use Rattle.hay_volume.proofs.Readings.{cell_begins, one_reading, same_cell}
use Rattle.hay_open.specs.Damage.{HasOrphans, ReadsAs}
use Rattle.hay_open.specs.Stored.{IsVoid, head_super, index_file, index_super, last_cell, volume_file}
use Rattle.hay_open.proofs.CellRows.{behind_far}
use Rattle.hay_legal.specs.Known.{slot_of}
use Rattle.hay_legal.specs.Stands.{Contents}
use Rattle.hay_physical.proofs.Drawing.{some_head}
use Rattle.hay_logical.specs.Fits.{super_of}
use Rattle.hay_logical.specs.Readings.{IsReadAs, IsSightOfPair, IsSightOfRecord, last_record}
use Rattle.hay_logical.specs.Seen.{ReplicaSeen, SeesAt}
use Rattle.hay_logical.specs.Sights.{Sight}
use Rattle.hay_logical.specs.Sights.Sight.{Gone, Live, Never, Unseen}
use Rattle.hay_cluster.specs.Needles.{FileAt}
use Rattle.hay_cluster.specs.Seen.{ReadsEach, StoreSeen, VolumeAt}

-- All that an opening reads is of the format, and has this record of the pair as the last one. No cell of the pair lacks a record.
pub record IsLast (sup : Super) (contents : ℕ → List ℕ) (pair : Pair) : Type 0 where
  pub generation : ℕ
  pub records : List Record
  pub orphans : List Cell
  pub end : ℕ
  pub reads : ReadsAs sup contents generation records orphans end
  pub none : last_cell orphans pair ≡ None
  pub one : Record
  pub last : last_record records pair ≡ Some one
  pub short : (n : ℕ) → length (contents n) < 2 ^ 64

-- no needle of the recorded size stands at its place
abbrev pub LacksLast : Super → (ℕ → List ℕ) → Pair → Type 0
LacksLast sup contents pair = (d : IsLast sup contents pair) × LacksNeedleOf d.one.size d.one.at (contents (volume_file d.generation))

-- such a needle stands there, deleted or not
abbrev pub HasLast : Super → (ℕ → List ℕ) → Pair → Bool → Type 0
HasLast sup contents pair deleted = (d : IsLast sup contents pair) × HasNeedleOf d.one.size deleted d.one.at (contents (volume_file d.generation))

abbrev pub HasLastAt : ℕ → Super → (ℕ → List ℕ) → Pair → Bool → Type 0
HasLastAt place sup contents pair deleted = (has : HasLast sup contents pair deleted) × (((has.0).one).at ≡ place)

-- The needle of the last record of a pair ends before the place behind all records.
last_within : (at : ℕ) (records : List Record) (pair : Pair) (one : Record) → AreInRow at records → last_record records pair ≡ Some one
    → one.at + needle_total one.size ≤ place_behind at records
last_within at [] pair one row last = absurd cc
last_within at (r ∷ records) pair one row last = by_rest (last_record records pair) last (λ is. last_within (at + needle_total r.size) records pair one row.1 is)
  where
    by_pair : (test : Bool) → (if test then Some r else None) ≡ Some one → one.at + needle_total one.size ≤ place_behind at (r ∷ records)
    by_pair false same = absurd cc
    by_pair true same =
        let it : r ≡ one = cc in
        subst (λ (x : Record). x.at + needle_total x.size ≤ place_behind at (r ∷ records)) it (omega (arith, row.0, behind_far (at + needle_total r.size) records))

    by_rest : (o : Option Record) → option_or o (if pair_eq r.pair pair then Some r else None) ≡ Some one
        → (o ≡ Some one → one.at + needle_total one.size ≤ place_behind (at + needle_total r.size) records)
        → one.at + needle_total one.size ≤ place_behind at (r ∷ records)
    by_rest (Some x) same next = next same
    by_rest None same next = by_pair (pair_eq r.pair pair) same

-- at a place stands one needle
pub one_deleted : (size at : ℕ) (file : List ℕ) → HasNeedleOf size false at file → HasNeedleOf size true at file → ⊥
one_deleted size at file has other =
    let same : has.cell ≡ other.cell = same_cell at file has.cell other.cell has.stands other.stands in
    let alive : false ≡ true = sym has.deleted_is ∙ ap (λ (c : Cell). c.deleted) same ∙ other.deleted_is in
    cc

-- where a place was not looked at its needle stands, deleted or not
abbrev pub StandsSeen : List ℕ → Sight → Type 0
StandsSeen file Never = Unit {0}
StandsSeen file (Live at) = Unit {0}
StandsSeen file Gone = Unit {0}
StandsSeen file (Unseen at size) = (deleted : Bool) × HasNeedleOf size deleted at file

-- a place is a photo's, or a look makes it one
abbrev pub ShowsSeen : List ℕ → Sight → Type 0
ShowsSeen file Never = ⊥
ShowsSeen file (Live at) = Unit {0}
ShowsSeen file Gone = ⊥
ShowsSeen file (Unseen at size) = HasNeedleOf size false at file

module _ (sup : Super) (contents : ℕ → List ℕ) (pair : Pair) (d : IsLast sup contents pair) where
  pub some_disk : IsVoid contents → ⊥
  some_disk void = some_head (super_bytes (head_super sup)) (contents 0) d.generation ((d.reads).recorded).head void

  abbrev file : List ℕ
  file = contents (volume_file d.generation)

  -- an opening reads this, and nothing else
  read_once : (seen : ReplicaSeen) (sights : Pair → Sight) (is : IsReadAs sup contents seen sights)
      → (seen.generation ≡ d.generation) × (is.records ≡ d.records) × (is.orphans ≡ d.orphans) × (seen.end ≡ d.end)
  read_once seen sights is =
      let same : seen.generation ≡ d.generation = one_generation (super_bytes (head_super sup)) (contents 0) seen.generation d.generation ((is.reads).recorded).head ((d.reads).recorded).head in
      let index : IsIndex (super_bytes (index_super sup d.generation)) (contents (index_file d.generation)) is.records (is.reads).index_end =
      subst (λ n. IsIndex (super_bytes (index_super sup n)) (contents (index_file n)) is.records (is.reads).index_end) same ((is.reads).recorded).index in
      let rows : is.records ≡ d.records =
      (one_index (super_bytes (index_super sup d.generation)) (contents (index_file d.generation)) is.records d.records (is.reads).index_end (d.reads).index_end (d.short (index_file d.generation))
      index ((d.reads).recorded).index).0 in
      let behind : HasOrphans file d.records is.orphans seen.end =
      subst (λ (l : List Record). HasOrphans file l is.orphans seen.end) rows (subst (λ n. HasOrphans (contents (volume_file n)) is.records is.orphans seen.end) same (is.reads).behind) in
      let cells = one_reading (place_behind 64 d.records) seen.end d.end file is.orphans d.orphans behind.has behind.closed ((d.reads).behind).has ((d.reads).behind).closed in
      (same, rows, cells.0, cells.1)

  -- it sees the photo by its record
  pub seen_by_record : (seen : ReplicaSeen) (sights : Pair → Sight) → IsReadAs sup contents seen sights → IsSightOfRecord file d.one (sights pair)
  seen_by_record seen sights is =
      let once = read_once seen sights is in
      let same = once.0 in
      let rows = once.1 in
      let cells = once.2 in
      let place : IsSightOfPair file (last_cell is.orphans pair) (last_record is.records pair) (sights pair) =
      subst (λ n. IsSightOfPair (contents (volume_file n)) (last_cell is.orphans pair) (last_record is.records pair) (sights pair)) same (is.places pair) in
      let bare : IsSightOfPair file None (last_record is.records pair) (sights pair) =
      subst (λ (o : Option Cell). IsSightOfPair file o (last_record is.records pair) (sights pair)) (ap (λ (l : List Cell). last_cell l pair) cells ∙ d.none) place in
      subst (λ (o : Option Record). IsSightOfPair file None o (sights pair)) (ap (λ (l : List Record). last_record l pair) rows ∙ d.last) bare

  -- whose needle ends before the cells do
  pub record_within : d.one.at + needle_total d.one.size ≤ d.end
  record_within =
      let low = last_within 64 d.records pair d.one (((d.reads).recorded).index).row d.last in
      let ends = (((d.reads).behind).has).ends in
      omega (arith, low, ends)

  -- as one that was not looked at, where its needle is damaged
  pub lacking_unseen : LacksNeedleOf d.one.size d.one.at file → (x : Sight) → IsSightOfRecord file d.one x → x ≡ Unseen d.one.at d.one.size
  lacking_unseen lacks = by_record
    where
      no_needle : (deleted : Bool) → HasNeedleOf d.one.size deleted d.one.at file → ⊥
      no_needle deleted has = lacks (needle_of_cell has.cell) (cell_begins d.one.at file has.cell has.stands) has.size_is

      by_record : (x : Sight) → IsSightOfRecord file d.one x → x ≡ Unseen d.one.at d.one.size
      by_record Never so = absurd so
      by_record (Live at) so = absurd (no_needle false so.1)
      by_record Gone so = absurd (no_needle true so)
      by_record (Unseen at size) so = ap (λ n. Unseen n size) so.0 ∙ ap (λ n. Unseen d.one.at n) so.1

  -- where it stands, by its needle
  pub standing_seen : (deleted : Bool) → HasNeedleOf d.one.size deleted d.one.at file → (x : Sight) → IsSightOfRecord file d.one x → StandsSeen file x
  standing_seen deleted has Never so = tt
  standing_seen deleted has (Live at) so = tt
  standing_seen deleted has Gone so = tt
  standing_seen deleted has (Unseen at size) so =
      (deleted, subst (λ n. HasNeedleOf n deleted at file) (sym so.1) (subst (λ n. HasNeedleOf d.one.size deleted n file) (sym so.0) has))

  -- and never as gone, where it is not deleted
  pub standing_shows : HasNeedleOf d.one.size false d.one.at file → (x : Sight) → IsSightOfRecord file d.one x → ShowsSeen file x
  standing_shows has Never so = absurd so
  standing_shows has (Live at) so = tt
  standing_shows has Gone so = absurd (one_deleted d.one.size d.one.at file has so)
  standing_shows has (Unseen at size) so = subst (λ n. HasNeedleOf n false at file) (sym so.1) (subst (λ n. HasNeedleOf d.one.size false n file) (sym so.0) has)

-- So it is of a replica of a store.
pub seen_so : (settings : Settings) (contents : ℕ → Contents) (seen : StoreSeen) (pair : Pair) (v j : ℕ) → v < settings.volumes → j < settings.replicas
    → (d : IsLast (super_of settings v j) (contents (slot_of settings v j)) pair) (Is : ℕ → List ℕ → Sight → Type 0)
    → ((x : Sight) → IsSightOfRecord (contents (slot_of settings v j) (volume_file d.generation)) d.one x → Is d.end (contents (slot_of settings v j) (volume_file d.generation)) x)
    → ReadsEach settings contents seen → FileAt settings contents seen v j (λ r file. Is r.end file (seen.places v pair j))
seen_so settings contents seen pair v j low within d Is so reads = met (reads v j low within)
  where
    met : VolumeAt v (SeesAt j (λ r. IsReadAs (super_of settings v j) (contents (slot_of settings v j)) r (λ pair. seen.places v pair j))) seen
        → FileAt settings contents seen v j (λ r file. Is r.end file (seen.places v pair j))
    met (volume, there, (r, is, read)) =
        let once = read_once (super_of settings v j) (contents (slot_of settings v j)) pair d r (λ pair. seen.places v pair j) read in
        let by = seen_by_record (super_of settings v j) (contents (slot_of settings v j)) pair d r (λ pair. seen.places v pair j) read in
        let here : Is r.end (contents (slot_of settings v j) (volume_file d.generation)) (seen.places v pair j) =
        subst (λ n. Is n (contents (slot_of settings v j) (volume_file d.generation)) (seen.places v pair j)) (sym once.3) (so (seen.places v pair j) by) in
        (volume, there, (r, is, subst (λ n. Is r.end (contents (slot_of settings v j) (volume_file n)) (seen.places v pair j)) (sym once.0) here))
