-- An index file beside rows has one reading: it is damaged at one place, or not at all.
use Rattle.std.proofs.Common.{◌≡◌, ◌≢◌, ◌⊎◌, inl, inr, ℕ, zero, suc, ◌+◌, ◌<◌, ◌^◌, List, [], ◌∷◌, ◌++◌, length, take, drop, refl, sym, ap, ◌∙◌, subst, arith, append_assoc}
use Rattle.std.proofs.Common.{length-append, length-drop, Some, Err}
use Rattle.std.specs.List.{flat_map, slice_get}
use Rattle.std.proofs.lemmas.Bool.{cases_lt}
use Rattle.std.proofs.lemmas.Grind.{flat_map-append}
use Rattle.std.proofs.lemmas.List.{drop_at}
use Rattle.std.proofs.lemmas.Option.{same_Some}
use Rattle.hay_needle.specs.declared.settings.Super.{Super}
use Rattle.hay_needle.specs.declared.superblock.SuperFault.{SuperFault}
use Rattle.hay_needle.specs.Super.{SuperFits, fault_place, super_bytes}
use Rattle.hay_needle.proofs.Supers.{is_only}
use Rattle.hay_disk.specs.Gate.{IsClosed}
use Rattle.hay_index.specs.declared.record.Record.{Record}
use Rattle.hay_index.specs.Records.{BeginsWithBlock, HasRecords, IsBrokenAt, IsIndex, block_bytes, index_magic}
use Rattle.hay_index.proofs.BlockLaws.{block_long}
use Rattle.hay_index.proofs.Readings.{all_lead, first_begins, front_is, LeadsFrom, one_block, others_lead}
use Rattle.hay_check.specs.Listing.{HasMisfit, IsBrokenBehind, IsDamagedListing, IsMisfitAt}

-- RECORDS THAT ARE NOT THE ROWS

get_front : (xs ys : List Record) (k : ℕ) → k < length xs → slice_get (xs ++ ys) k ≡ slice_get xs k
get_front [] ys k within = absurd (omega arith)
get_front (x ∷ xs) ys zero within = refl
get_front (x ∷ xs) ys (suc k) within = get_front xs ys k (omega arith)

get_next : (xs ys : List Record) → slice_get (xs ++ ys) (length xs) ≡ slice_get ys 0
get_next [] ys = refl
get_next (x ∷ xs) ys = get_next xs ys

-- where the first misfit of a block is, it has a record, and there is no such row
there_is : (rows block : List Record) (first place : ℕ) (m : HasMisfit rows block first place) → slice_get block (length m.before) ≡ Some m.misfit
there_is rows block first place m = ap (λ (l : List Record). slice_get l (length m.before)) m.parts ∙ get_next m.before (m.misfit ∷ m.after)

no_such_row : (rows block : List Record) (first place : ℕ) (m : HasMisfit rows block first place) → slice_get rows (length m.before) ≢ Some m.misfit
no_such_row rows block first place m is = m.other (sym (get_next m.before m.rest) ∙ ap (λ (l : List Record). slice_get l (length m.before)) (sym m.fit) ∙ is)

-- and before it the records are the rows
agree : (rows block : List Record) (first place k : ℕ) (m : HasMisfit rows block first place) → k < length m.before → slice_get rows k ≡ slice_get block k
agree rows block first place k m below =
    ap (λ (l : List Record). slice_get l k) m.fit ∙ get_front m.before m.rest k below ∙ sym (get_front m.before (m.misfit ∷ m.after) k below) ∙ ap (λ (l : List Record). slice_get l k) (sym m.parts)

not_below : (rows block : List Record) (first a b : ℕ) (m : HasMisfit rows block first a) (n : HasMisfit rows block first b) → length m.before < length n.before → ⊥
not_below rows block first a b m n below = no_such_row rows block first a m (agree rows block first b (length m.before) n below ∙ there_is rows block first a m)

misfit_once : (rows block : List Record) (first a b : ℕ) → HasMisfit rows block first a → HasMisfit rows block first b → a ≡ b
misfit_once rows block first a b m n =
    elim (cases_lt (length m.before) (length n.before)) [
      | inl below ↦ absurd (not_below rows block first a b m n below)
      | inr other ↦ elim (cases_lt (length n.before) (length m.before)) [
        | inl above ↦ absurd (not_below rows block first b a n m above)
        | inr neither ↦ omega (arith, m.stands, n.stands)
      ]
    ]

no_misfit : (rows block tail : List Record) (first place : ℕ) → rows ≡ block ++ tail → HasMisfit rows block first place → ⊥
no_misfit rows block tail first place are m =
    let within : length m.before < length block = omega (arith, ap length m.parts, length-append m.before (m.misfit ∷ m.after)) in
    no_such_row rows block first place m (ap (λ (l : List Record). slice_get l (length m.before)) are ∙ get_front block tail (length m.before) within ∙ there_is rows block first place m)

-- a block stands where the blocks `more` end, and `blocks` goes on with it
abbrev GoesOn : List ℕ → List (List Record) → List (List Record) → ℕ → Type 0
GoesOn file blocks more place = (block : List Record) × (rest : List (List Record)) × (blocks ≡ more ++ block ∷ rest) × BeginsWithBlock (drop place file) block

record Beside (file : List ℕ) (blocks more : List (List Record)) (p q : ℕ) : Type 0 where
  lie : ((p ≡ q) × (blocks ≡ more)) ⊎ GoesOn file blocks more q ⊎ GoesOn file more blocks p

beside_more : (file : List ℕ) (b : List Record) (blocks more : List (List Record)) (p q : ℕ) → Beside file blocks more p q → Beside file (b ∷ blocks) (b ∷ more) p q
beside_more file b blocks more p q beside =
    let with : List (List Record) → List (List Record) = λ l. b ∷ l in
    elim beside.lie [
      | inl same ↦ record { lie = inl (same.0, ap with same.1) }
      | inr other ↦ elim other [
        | inl first ↦ record { lie = inr (inl (first.0, first.1, ap with first.2, first.3)) }
        | inr second ↦ record { lie = inr (inr (second.0, second.1, ap with second.2, second.3)) }
      ]
    ]

beside : (at p q : ℕ) (file : List ℕ) (blocks more : List (List Record)) → length file < 2 ^ 64 → LeadsFrom at file blocks p → LeadsFrom at file more q → Beside file blocks more p q
beside at p q file [] [] fits leads again = record { lie = inl (omega (arith, leads.ends, again.ends), refl) }
beside at p q file [] (d ∷ more) fits leads again =
    let here : at ≡ p = omega (arith, leads.ends) in
    record { lie = inr (inr (d, more, refl, subst (λ n. BeginsWithBlock (drop n file) d) here (first_begins at q file d more again))) }
beside at p q file (b ∷ blocks) [] fits leads again =
    let here : at ≡ q = omega (arith, again.ends) in
    record { lie = inr (inl (b, blocks, refl, subst (λ n. BeginsWithBlock (drop n file) b) here (first_begins at p file b blocks leads))) }
beside at p q file (b ∷ blocks) (d ∷ more) fits leads again =
    let short : length (drop at file) < 2 ^ 64 = omega (arith, length-drop at file) in
    let same : d ≡ b = one_block (drop at file) d b short (first_begins at q file d more again) (first_begins at p file b blocks leads) in
    let behind : LeadsFrom (at + length (block_bytes b)) file more q = subst (λ (x : List Record). LeadsFrom (at + length (block_bytes x)) file more q) same (others_lead at q file d more again) in
    subst (λ (x : List Record). Beside file (b ∷ blocks) (x ∷ more) p q) (sym same) (beside_more file b blocks more p q
    (beside (at + length (block_bytes b)) p q file blocks more fits (others_lead at p file b blocks leads) behind))

-- the same of the records
abbrev HasMore : List ℕ → List Record → List Record → ℕ → Type 0
HasMore file records others place = (block : List Record) × (tail : List Record) × (records ≡ others ++ (block ++ tail)) × BeginsWithBlock (drop place file) block

more_records : (file : List ℕ) (records others : List Record) (blocks more : List (List Record)) (place : ℕ) → flat_map (λ (b : List Record). b) blocks ≡ records
    → flat_map (λ (b : List Record). b) more ≡ others → GoesOn file blocks more place
    → HasMore file records others place
more_records file records others blocks more place are also (block, rest, parts, begins) = (
  block,
  flat_map (λ (b : List Record). b) rest,
  sym are ∙ ap (λ (l : List (List Record)). flat_map (λ (b : List Record). b) l) parts ∙ flat_map-append (λ (b : List Record). b) more (block ∷ rest)
      ∙ ap (λ (l : List Record). l ++ (block ++ flat_map (λ (b : List Record). b) rest)) also,
  begins,
)

record RecordsBeside (file : List ℕ) (records others : List Record) (p q : ℕ) : Type 0 where
  lie : ((p ≡ q) × (records ≡ others)) ⊎ HasMore file records others q ⊎ HasMore file others records p

records_beside : (superblock file : List ℕ) (records others : List Record) (p q : ℕ) → length file < 2 ^ 64 → HasRecords superblock file records p
    → HasRecords superblock file others q → RecordsBeside file records others p q
records_beside superblock file records others p q fits has again =
    let lie = (beside 64 p q file has.blocks again.blocks fits (all_lead superblock file records p has) (all_lead superblock file others q again)).lie in
    elim lie [
      | inl same ↦ record { lie = inl (same.0, sym has.are ∙ ap (λ (l : List (List Record)). flat_map (λ (b : List Record). b) l) same.1 ∙ again.are) }
      | inr other ↦ elim other [
        | inl first ↦ record { lie = inr (inl (more_records file records others has.blocks again.blocks q has.are again.are first)) }
        | inr second ↦ record { lie = inr (inr (more_records file others records again.blocks has.blocks p again.are has.are second)) }
      ]
    ]

-- DAMAGE

abbrev IsBrokenHere : ℕ → List ℕ → List Record → ℕ → Type 0
IsBrokenHere at file rest place = (IsBrokenAt at file × (place ≡ at)) ⊎ IsMisfitAt at file rest place

-- where a block stands of the next rows nothing is broken

block_there : (at : ℕ) (file : List ℕ) (block : List Record) → BeginsWithBlock (drop at file) block → IsBrokenAt at file → ⊥
block_there at file block begins (inl short) = omega (arith, block_long (drop at file) block begins, length-drop at file)
block_there at file block begins (inr none) = none.1 block begins

block_whole : (at place : ℕ) (file : List ℕ) (rest block tail : List Record) → length file < 2 ^ 64 → BeginsWithBlock (drop at file) block → rest ≡ block ++ tail → IsBrokenHere at file rest place → ⊥
block_whole at place file rest block tail fits begins are (inl broken) = block_there at file block begins broken.0
block_whole at place file rest block tail fits begins are (inr out) =
    let short : length (drop at file) < 2 ^ 64 = omega (arith, length-drop at file) in
    let same : block ≡ out.block = one_block (drop at file) block out.block short begins out.stands in
    no_misfit rest out.block tail (at + 16) place (are ∙ ap (λ (l : List Record). l ++ tail) same) out.misfit

broken_once : (at a b : ℕ) (file : List ℕ) (rest : List Record) → length file < 2 ^ 64 → IsBrokenHere at file rest a → IsBrokenHere at file rest b → a ≡ b
broken_once at a b file rest fits (inl x) (inl y) = x.1 ∙ sym y.1
broken_once at a b file rest fits (inl x) (inr y) = absurd (block_there at file y.block y.stands x.0)
broken_once at a b file rest fits (inr x) (inl y) = absurd (block_there at file x.block x.stands y.0)
broken_once at a b file rest fits (inr x) (inr y) =
    let short : length (drop at file) < 2 ^ 64 = omega (arith, length-drop at file) in
    let same : y.block ≡ x.block = one_block (drop at file) y.block x.block short y.stands x.stands in
    misfit_once rest x.block (at + 16) a b x.misfit (subst (λ (l : List Record). HasMisfit rest l (at + 16) b) same y.misfit)

-- the rows behind the same records
behind_same : (front xs ys : List Record) → front ++ xs ≡ front ++ ys → xs ≡ ys
behind_same front xs ys same = sym (drop_at front xs (length front) refl) ∙ ap (λ (l : List Record). drop (length front) l) same ∙ drop_at front ys (length front) refl

goes_on : (rows records others rest behind block tail : List Record) → rows ≡ others ++ rest → rows ≡ records ++ behind → records ≡ others ++ (block ++ tail) → rest ≡ block ++ (tail ++ behind)
goes_on rows records others rest behind block tail first second more =
    behind_same others rest (block ++ (tail ++ behind))
    (sym first ∙ second ∙ ap (λ (l : List Record). l ++ behind) more ∙ append_assoc others (block ++ tail) behind ∙ ap (λ (l : List Record). others ++ l) (append_assoc block tail behind))

listing_once : (superblock file : List ℕ) (rows : List Record) (a b : ℕ) → length file < 2 ^ 64 → IsBrokenBehind superblock file rows a → IsBrokenBehind superblock file rows b → a ≡ b
listing_once superblock file rows a b fits x y =
    elim (records_beside superblock file x.records y.records x.at y.at fits x.lead y.lead).lie [
      | inl same ↦
          let rest : y.rest ≡ x.rest = behind_same x.records y.rest x.rest (ap (λ (l : List Record). l ++ y.rest) same.1 ∙ sym y.fit ∙ x.fit) in
          broken_once x.at a b file x.rest fits x.broken (subst (λ (l : List Record). IsBrokenHere x.at file l b) rest (subst (λ n. IsBrokenHere n file y.rest b) (sym same.0) y.broken))
      | inr other ↦ elim other [
        | inl more ↦ absurd (block_whole y.at b file y.rest more.0 (more.1 ++ x.rest) fits more.3 (goes_on rows x.records y.records y.rest x.rest more.0 more.1 y.fit x.fit more.2) y.broken)
        | inr more ↦ absurd (block_whole x.at a file x.rest more.0 (more.1 ++ y.rest) fits more.3 (goes_on rows y.records x.records x.rest y.rest more.0 more.1 x.fit y.fit more.2) x.broken)
      ]
    ]

-- where the blocks end nothing is broken
closed_whole : (at place : ℕ) (file : List ℕ) (rest : List Record) → IsClosed index_magic at file → IsBrokenHere at file rest place → ⊥
closed_whole at place file rest closed (inl (inl short, is)) = omega (arith, closed.room)
closed_whole at place file rest closed (inl (inr none, is)) = closed.shut none.0
closed_whole at place file rest closed (inr out) = closed.shut (ap (λ (l : List ℕ). take 8 l) (out.stands).parts)

open_at : (at : ℕ) (file : List ℕ) (block : List Record) → BeginsWithBlock (drop at file) block → IsClosed index_magic at file → ⊥
open_at at file block begins closed = closed.shut (ap (λ (l : List ℕ). take 8 l) begins.parts)

listing_whole : (superblock file : List ℕ) (rows records : List Record) (behind : List Record) (end place : ℕ) → length file < 2 ^ 64 → rows ≡ records ++ behind
    → IsIndex superblock file records end → IsBrokenBehind superblock file rows place → ⊥
listing_whole superblock file rows records behind end place fits are is x =
    elim (records_beside superblock file records x.records end x.at fits is.has x.lead).lie [
      | inl same ↦ closed_whole x.at place file x.rest (subst (λ n. IsClosed index_magic n file) same.0 is.closed) x.broken
      | inr other ↦ elim other [
        | inl more ↦ block_whole x.at place file x.rest more.0 (more.1 ++ behind) fits more.3 (goes_on rows records x.records x.rest behind more.0 more.1 x.fit are more.2) x.broken
        | inr more ↦ open_at end file more.0 more.3 is.closed
      ]
    ]

-- THE FILE

pub index_once : (sup : Super) (file : List ℕ) (rows : List Record) (a b : ℕ) → SuperFits sup → length file < 2 ^ 64 → IsDamagedListing sup file rows a → IsDamagedListing sup file rows b → a ≡ b
index_once sup file rows a b fits short (inl x) (inl y) =
    let same : x.0 ≡ y.0 = same_Some x.0 y.0 (sym x.1 ∙ y.1) in
    x.2 ∙ ap (λ (fault : SuperFault). fault_place fault) same ∙ sym y.2
index_once sup file rows a b fits short (inl x) (inr y) = let none = is_only file sup (Err x.0) fits (sym x.1) y.0 in absurd cc
index_once sup file rows a b fits short (inr x) (inl y) = let none = is_only file sup (Err y.0) fits (sym y.1) x.0 in absurd cc
index_once sup file rows a b fits short (inr x) (inr y) = listing_once (super_bytes sup) file rows a b short x.1 y.1

pub index_whole : (sup : Super) (file : List ℕ) (rows records behind : List Record) (end place : ℕ) → SuperFits sup → length file < 2 ^ 64 → rows ≡ records ++ behind
    → IsIndex (super_bytes sup) file records end → IsDamagedListing sup file rows place → ⊥
index_whole sup file rows records behind end place fits short are is (inl x) =
    let none = is_only file sup (Err x.0) fits (sym x.1) (front_is (super_bytes sup) file records end is) in
    absurd cc
index_whole sup file rows records behind end place fits short are is (inr x) = listing_whole (super_bytes sup) file rows records behind end place short are is x.1
