-- How little the openings of a volume's replicas read.
use Rattle.std.proofs.Common.{◌≡◌, inl, inr, ℕ, ◌+◌, ◌<◌, ◌≤◌, List, length, Some, None, refl, sym, subst, ◌∙◌, arith}
use Rattle.std.proofs.Math.Path.{fun_ext}
use Rattle.std.specs.Prelude.{Option, Result}
use Rattle.hay_needle.specs.declared.needle.Pair.{Pair}
use Rattle.hay_disk.specs.Disk.{Files}
use Rattle.hay_index.specs.declared.record.Record.{Record}
use Rattle.hay_map.specs.MapRows.{MapRows}
use Rattle.hay_map.specs.Places.{place_in}
use Rattle.hay_map.specs.Rows.{row_at}
use Rattle.hay_map.specs.declared.place.Place.{Place}
use Rattle.hay_map.specs.declared.place.Place.TheVariants as place
use Rattle.hay_open.specs.Damage.{HasOrphans, IsRecorded}
use Rattle.hay_open.specs.Stored.{volume_file}
use Rattle.hay_physical.specs.declared.fault.ReplicaFault.{ReplicaFault}
use Rattle.hay_physical.specs.OpenCopies.{Copy, contents_of}
use Rattle.hay_physical.specs.Draws.{HasRecordOf, LooksAtMost}
use Rattle.hay_logical.specs.Draws.{DrawsAtMost, DrewAt, DrewRecordedAt, look_total, looked_total}
use Rattle.hay_logical.specs.Fits.{At}
use Rattle.hay_logical.specs.ReplicaCalls.{CallsOne, LooksAt, SeesRow}
use Rattle.hay_logical.specs.Volumes.{KeepsCounts}
use Rattle.hay_logical.proofs.Lists.{Went, at_below, at_there, went_each, went_step}
use Rattle.hay_logical.proofs.Sighting.{other_places}

-- THE PLACES OF THE OTHER REPLICAS

pub drew_on : {D P : Type 0} (files : D → Files) (drawn : D → ℕ → ℕ) (rows rows' : MapRows P) (j : ℕ) (r r' : Copy D) → ((pair : Pair) → place_in (row_at rows' pair) j ≡ place_in (row_at rows pair) j)
    → DrewRecordedAt files drawn rows j r r' → DrewRecordedAt files drawn rows' j r r'
drew_on files drawn rows rows' j r r' same was = record { drew = was.drew; unseen = λ pair at size is. was.unseen pair at size (sym (same pair) ∙ is) }

-- A LOOK AT EACH REPLICA IN ORDER

module _ {D P : Type 0} (drawn : D → ℕ → ℕ) (pair : Pair) (before : MapRows P) where
  abbrev LooksAtPlace : ℕ → Copy D → Copy D → Type 0
  LooksAtPlace j r r' = DrawsAtMost drawn (look_total (place_in (row_at before pair) j)) r r'

  -- the first so many were looked at
  pub record DrawsLooks (n : ℕ) (old new : List (Copy D)) (rows : MapRows P) : Type 0 where
    pub went : Went LooksAtPlace n old new
    pub places : (j : ℕ) → n ≤ j → place_in (row_at rows pair) j ≡ place_in (row_at before pair) j

  pub draws_one : (at : ℕ) (old items new : List (Copy D)) (rows rows' : MapRows P) (result : Result Unit ReplicaFault) → DrawsLooks at old items rows
      → (one : CallsOne at items new) → SeesRow pair at rows rows' result
      → DrawsAtMost drawn (look_total (place_in (row_at rows pair) at)) one.before one.after → DrawsLooks (at + 1) old new rows'
  draws_one at old items new rows rows' result looks one row draws =
      let here : at ≤ at = omega arith in
      record {
        went = subst (λ (l : List (Copy D)). Went LooksAtPlace (at + 1) old l) (sym one.is)
            (went_step LooksAtPlace LooksAtPlace at old items one.before one.after looks.went one.was (λ i r r' low is. is)
            (subst (λ (p : Place P). DrawsAtMost drawn (look_total p) one.before one.after) (looks.places at here) draws));
        places = λ j later.
            let apart : j ≡ at → ⊥ = (λ same. absurd (omega (arith, later, same))) in
            other_places pair at rows rows' result row j apart pair ∙ looks.places j (let more : at ≤ j = omega (arith, later) in more);
      }

  pub draws_each : (n : ℕ) (old new : List (Copy D)) (rows : MapRows P) → DrawsLooks n old new rows → (j : ℕ) (r r' : Copy D) → At old j r → At new j r' → LooksAtPlace j r r'
  draws_each n old new rows looks = went_each LooksAtPlace LooksAtPlace n old new looks.went (λ j r r' is. is) (λ j r m. omega arith)

-- AN OPENING AND THEN A LOOK

module _ {D P : Type 0} (files : D → Files) (drawn : D → ℕ → ℕ) (rows : MapRows P) where
  place_looks : (records : List Record) (pair : Pair) (p : Place P) → ((at size : ℕ) → p ≡ place.Unseen at size → HasRecordOf records pair size) → LooksAtMost (Some pair) records (look_total p)
  place_looks records pair (place.Live needle) unseen = inl refl
  place_looks records pair place.None unseen = inl refl
  place_looks records pair place.Gone unseen = inl refl
  place_looks records pair (place.Unseen at size) unseen = inr (size, unseen at size refl, refl)

  look_most : (j : ℕ) (looked : Option Pair) (r x : Copy D) → (was : DrewRecordedAt files drawn rows j r x) → LooksAtMost looked ((was.drew).records) (looked_total looked rows j)
  look_most j None r x was = refl
  look_most j (Some pair) r x was = place_looks ((was.drew).records) pair (place_in (row_at rows pair) j) (was.unseen pair)

  pub drew_looked : (j : ℕ) (looked : Option Pair) (r x y : Copy D) → DrewRecordedAt files drawn rows j r x → ((n : ℕ) → (files y.disk n).now ≡ (files x.disk n).now)
      → DrawsAtMost drawn (looked_total looked rows j) x y
      → DrewAt files drawn looked r y
  drew_looked j looked r x y was now draws =
      let d = was.drew in
      let same : ◌≡◌ {A = ℕ → List ℕ} (contents_of files x.disk) (contents_of files y.disk) = fun_ext (λ n. sym (now n)) in
      let nothing : d.more ≡ 0 = d.looks in
      record {
        generation = d.generation;
        records = d.records;
        index_end = d.index_end;
        orphans = d.orphans;
        end = d.end;
        recorded = subst (λ contents. IsRecorded r.sup contents d.generation d.records d.index_end) same d.recorded;
        behind = subst (λ (contents : ℕ → List ℕ). HasOrphans (contents (volume_file d.generation)) d.records d.orphans d.end) same d.behind;
        more = looked_total looked rows j;
        looks = look_most j looked r x was;
        most = (let one = d.most in let two = draws (volume_file d.generation) in omega (arith, one, two, nothing));
      }

  pub drew_all : {Tells : Type 0} (DiskTells : Type 0) (faults fuses : D → ℕ) (looked : Option Pair) (olds mids news : List (Copy D)) (rows' : MapRows P) → DiskTells
      → KeepsCounts faults fuses olds mids
      → ((j : ℕ) (x y : Copy D) → At mids j x → At news j y → LooksAt DiskTells files Tells rows rows' j x y)
      → ((j : ℕ) (r x : Copy D) → At olds j r → At mids j x → DrewRecordedAt files drawn rows j r x)
      → ((j : ℕ) (x y : Copy D) → At mids j x → At news j y → DrawsAtMost drawn (looked_total looked rows j) x y) → (j : ℕ) (r y : Copy D) → At olds j r → At news j y → DrewAt files drawn looked r y
  drew_all DiskTells faults fuses looked olds mids news rows' tells counts looks opened draws j r y e f =
      let m = at_there mids j (let h = at_below olds j r e in let n = counts.count in let less : j < length mids = omega (arith, h, n) in less) in
      drew_looked j looked r m.0 y (opened j r m.0 e m.1) ((looks j m.0 y m.1 f).keeps tells).now (draws j m.0 y m.1 f)
