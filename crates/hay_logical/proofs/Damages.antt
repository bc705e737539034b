-- Where a compaction meets damage: behind the heads of cells that stand one behind another.
use Rattle.std.proofs.Common.{◌≡◌, inl, inr, Some, true, false, take, drop, ℕ, ◌+◌, ◌*◌, ◌<◌, ◌≤◌, List, [], ◌∷◌, ◌++◌, length, length-append, refl, sym, ap, subst, ◌∙◌, arith}
use Rattle.std.specs.List.{AllByRecursion}
use Rattle.hay_needle.specs.declared.needle.Cell.{Cell}
use Rattle.hay_needle.specs.declared.needle.CellHead.{CellHead}
use Rattle.hay_needle.specs.declared.needle.Pair.{Pair}
use Rattle.hay_needle.specs.Needle.{Head, head_of_cell, needle_of_cell}
use Rattle.hay_needle.proofs.Needles.{one_head}
use Rattle.hay_needle.specs.Sizes.{max_photo, needle_total}
use Rattle.hay_needle.specs.declared.needle.Version.TheVariants.{Two}
use Rattle.hay_needle.specs.declared.total.TheConstants.{MAX_NEEDLE}
use Rattle.hay_volume.specs.Cells.{HasCells}
use Rattle.hay_volume.specs.Needles.{AreHeadsFrom, LacksNeedleOf, LacksNeedleWithin}
use Rattle.hay_volume.proofs.Readings.{cell_begins, cells_first}
use Rattle.hay_map.specs.MapRows.{MapRows}
use Rattle.hay_map.specs.Places.{place_in}
use Rattle.hay_map.specs.Rows.{row_at}
use Rattle.hay_map.specs.declared.place.Place.{Place}
use Rattle.hay_map.specs.declared.place.Place.TheVariants as place
use Rattle.hay_compact.specs.Copying.{HeadStands, IsPassedOrStands}
use Rattle.hay_compact.proofs.Copyings.{read_head}
use Rattle.hay_logical.specs.Needles.{HeadsLead, HeadsLeadOn, LacksCell, LacksCellLeft}
use Rattle.hay_logical.specs.Sights.{Sights, latest_sight, sight, sights_of}
use Rattle.hay_logical.specs.ReplicaCalls.{latest_of}
use Rattle.hay_logical.specs.Seen.{MeetsDamage, MeetsDamageLeft, ReplicaSeen, StepsTo, begun}

-- WHATEVER THE DISK TELLS

-- where what is seen of the compaction stays
pub meets_later : (cells : ℕ) (r x : ReplicaSeen) (place : ℕ) → x.next ≡ r.next → x.end ≡ r.end → MeetsDamage cells place x → MeetsDamage cells place r
meets_later cells r x place next end meets = record {
  examined = meets.examined;
  few = meets.few;
  behind = subst (λ n. n + meets.examined * needle_total 0 ≤ place) next meets.behind;
  most = subst (λ n. place ≤ n + meets.examined * needle_total (max_photo Two)) next meets.most;
  from = meets.from;
  within = subst (λ n. place < n) end meets.within;
}

-- where it began, and stands at the first cell
pub meets_anew : (r x : ReplicaSeen) (place : ℕ) → x.next ≡ 64 → x.end ≡ r.end → MeetsDamageLeft place x → MeetsDamageLeft place (begun r)
meets_anew r x place next end meets = meets_later r.end (begun r) x place next end (subst (λ n. MeetsDamage n place x) end meets)

-- behind cells that were examined
pub meets_behind : (cells n : ℕ) (r x : ReplicaSeen) (place : ℕ) → n < cells → StepsTo n n r x → MeetsDamage 1 place x → MeetsDamage cells place r
meets_behind cells n r x place less steps meets =
    let first = meets.few in
    let low : r.next + n * 48 ≤ x.next = steps.behind in
    let high : x.next ≤ r.next + n * MAX_NEEDLE = steps.most in
    let from : x.next + meets.examined * 48 ≤ place = meets.behind in
    let to : place ≤ x.next + meets.examined * MAX_NEEDLE = meets.most in
    record {
      examined = n;
      few = less;
      behind = (let behind : r.next + n * 48 ≤ place = omega (arith, low, from) in behind);
      most = (let most : place ≤ r.next + n * MAX_NEEDLE = omega (arith, first, high, to) in most);
      from = meets.from;
      within = subst (λ e. place < e) (ap (λ (s : ReplicaSeen). s.end) steps.only) meets.within;
    }

-- SIGHTS

latest_same : {P : Type 0} (p : Place P) → latest_of p ≡ latest_sight (sight p)
latest_same place.None = refl
latest_same (place.Live needle) = refl
latest_same place.Gone = refl
latest_same (place.Unseen at size) = refl

-- what a compaction asks the rows for is what is seen of them
pub latest_seen : {P : Type 0} (rows : MapRows P) (pair : Pair) (replica : ℕ) → latest_of (place_in (row_at rows pair) replica) ≡ latest_sight (sights_of rows pair replica)
latest_seen rows pair replica = latest_same (place_in (row_at rows pair) replica)

-- HEADS

all_more : {X : Type 0} (P : X → Type 0) (xs ys : List X) → AllByRecursion P xs → AllByRecursion P ys → AllByRecursion P (xs ++ ys)
all_more P [] ys first later = later
all_more P (x ∷ xs) ys first later = (first.0, all_more P xs ys first.1 later)

row_more : (next mid place : ℕ) (heads more : List CellHead) → AreHeadsFrom next heads mid → AreHeadsFrom mid more place → AreHeadsFrom next (heads ++ more) place
row_more next mid place [] more row later = subst (λ n. AreHeadsFrom n more place) (sym row) later
row_more next mid place (head ∷ heads) more row later = (row.0, row_more (next + needle_total head.size) mid place heads more row.1 later)

pub heads_none : (sights : Sights) (replica next place : ℕ) (file : List ℕ) → place ≡ next → HeadsLead sights replica 0 next place file
heads_none sights replica next place file here = record { heads = []; row = sym here; stand = tt; met = tt; many = refl }

-- the head that was read at the next place
pub heads_one : (sights : Sights) (replica next at place : ℕ) (file later : List ℕ) (head : CellHead) → at ≡ next → later ≡ file → place ≡ at + needle_total head.size → HeadStands at head later
    → IsPassedOrStands at head (latest_sight (sights head.pair replica)) later → HeadsLead sights replica 1 next place file
heads_one sights replica next at place file later head here bytes ends stands met = record {
  heads = head ∷ [];
  row = (stands.place ∙ here, ap (λ n. n + needle_total head.size) (sym here) ∙ sym ends);
  stand = (subst (λ (l : List ℕ). HeadStands head.at head l) bytes (subst (λ n. HeadStands n head later) (sym stands.place) stands), tt);
  met = (
    subst (λ (l : List ℕ). IsPassedOrStands head.at head (latest_sight (sights head.pair replica)) l) bytes
        (subst (λ n. IsPassedOrStands n head (latest_sight (sights head.pair replica)) later) (sym stands.place) met),
    tt,
  );
  many = refl;
}

pub heads_more : (sights : Sights) (replica n m next mid place : ℕ) (file : List ℕ) → HeadsLead sights replica n next mid file → HeadsLead sights replica m mid place file
    → HeadsLead sights replica (n + m) next place file
heads_more sights replica n m next mid place file first later = record {
  heads = first.heads ++ later.heads;
  row = row_more next mid place first.heads later.heads first.row later.row;
  stand = all_more (λ (head : CellHead). HeadStands head.at head file) first.heads later.heads first.stand later.stand;
  met = all_more (λ (head : CellHead). IsPassedOrStands head.at head (latest_sight (sights head.pair replica)) file) first.heads later.heads first.met later.met;
  many = length-append first.heads later.heads ∙ ap (λ k. k + length later.heads) first.many ∙ ap (λ k. n + k) later.many;
}

-- as far as the end, where all cells were to be examined
pub heads_all : (sights : Sights) (replica number : ℕ) (r x : ReplicaSeen) (file : List ℕ) → StepsTo r.end number r x → HeadsLead sights replica number r.next x.next file
    → HeadsLeadOn sights replica r file
heads_all sights replica number r x file steps lead =
    let low : r.next + number * 48 ≤ x.next = steps.behind in
    (number, x.next, elim steps.all [ inl all ↦ omega (arith, all, low) | inr far ↦ far ], lead)

-- so where it began, and stands at the first cell
pub heads_anew : (sights : Sights) (replica : ℕ) (r x : ReplicaSeen) (file later : List ℕ) → x.next ≡ 64 → x.end ≡ r.end → later ≡ file → HeadsLeadOn sights replica x later
    → HeadsLeadOn sights replica (begun r) file
heads_anew sights replica r x file later next end bytes lead = (
  lead.0,
  lead.1,
  subst (λ n. n ≤ lead.1) end lead.2,
  subst (λ n. HeadsLead sights replica lead.0 n lead.1 file) next (subst (λ (l : List ℕ). HeadsLead sights replica lead.0 x.next lead.1 l) bytes lead.3),
)

-- DAMAGE

-- at the next cell
pub lacks_next : (sights : Sights) (replica place : ℕ) (r : ReplicaSeen) (file : List ℕ) → place ≡ r.next → LacksNeedleWithin r.end place file → LacksCell sights replica 1 place r file
lacks_next sights replica place r file here lacks = record { examined = 0; few = omega arith; lead = heads_none sights replica r.next place file here; lacks = lacks }

-- behind calls that left the volume file
pub lacks_there : (sights : Sights) (replica cells place : ℕ) (r x : ReplicaSeen) (file later : List ℕ) → x.next ≡ r.next → x.end ≡ r.end → later ≡ file
    → LacksCell sights replica cells place x later → LacksCell sights replica cells place r file
lacks_there sights replica cells place r x file later next end bytes lacks = record {
  examined = lacks.examined;
  few = lacks.few;
  lead = subst (λ n. HeadsLead sights replica lacks.examined n place file) next (subst (λ (l : List ℕ). HeadsLead sights replica lacks.examined x.next place l) bytes lacks.lead);
  lacks = subst (λ n. LacksNeedleWithin n place file) end (subst (λ (l : List ℕ). LacksNeedleWithin x.end place l) bytes lacks.lacks);
}

-- where the compaction began, and stands at the first cell
pub lacks_anew : (sights : Sights) (replica place : ℕ) (r x : ReplicaSeen) (file later : List ℕ) → x.next ≡ 64 → x.end ≡ r.end → later ≡ file
    → LacksCellLeft sights replica place x later → LacksCellLeft sights replica place (begun r) file
lacks_anew sights replica place r x file later next end bytes lacks =
    lacks_there sights replica r.end place (begun r) x file later next end bytes (subst (λ n. LacksCell sights replica n place x later) end lacks)

-- behind cells that were examined
pub lacks_behind : (sights : Sights) (replica cells n place : ℕ) (r x : ReplicaSeen) (file later : List ℕ) → n < cells → HeadsLead sights replica n r.next x.next file
    → x.end ≡ r.end → later ≡ file → LacksCell sights replica 1 place x later → LacksCell sights replica cells place r file
lacks_behind sights replica cells n place r x file later less lead end bytes lacks = record {
  examined = n + lacks.examined;
  few = (let first = lacks.few in omega (arith, less, first));
  lead = heads_more sights replica n lacks.examined r.next x.next place file lead (subst (λ (l : List ℕ). HeadsLead sights replica lacks.examined x.next place l) bytes lacks.lead);
  lacks = subst (λ k. LacksNeedleWithin k place file) end (subst (λ (l : List ℕ). LacksNeedleWithin x.end place l) bytes lacks.lacks);
}

-- WHOLE NEEDLES

row_behind : (next place : ℕ) (heads : List CellHead) → AreHeadsFrom next heads place → next ≤ place
row_behind next place [] row = omega (arith, row)
row_behind next place (head ∷ heads) row = let later = row_behind (next + needle_total head.size) place heads row.1 in omega (arith, later)

cells_behind : (next last : ℕ) (file : List ℕ) (cells : List Cell) → HasCells next file cells last → next ≤ last
cells_behind next last file cells has = let ends = has.ends in omega (arith, ends)

-- Where whole needles stand from `next` to `last`, heads lead to none but their places as far as that.
needles_lead : (next end place last : ℕ) (file : List ℕ) (heads : List CellHead) (cells : List Cell) → HasCells next file cells last → last ≤ end
    → AreHeadsFrom next heads place → AllByRecursion (λ (head : CellHead). HeadStands head.at head file) heads → LacksNeedleWithin end place file → last ≤ place
needles_lead next end place last file heads [] has within row stand lacks =
    let low = row_behind next place heads row in
    let ends = has.ends in
    let none : has.needles ≡ [] = has.are in
    let long : length has.needles ≡ 0 = ap length none in
    omega (arith, low, ends, long)
needles_lead next end place last file [] (cell ∷ cells) has within row stand lacks =
    let first = cells_first next last file cell cells has in
    let low = cells_behind (next + needle_total (length cell.bytes)) last file cells first.1 in
    let fits : next + needle_total (length cell.bytes) ≤ end = omega (arith, low, within) in
    absurd (subst (λ n. LacksNeedleWithin end n file) (sym row) lacks _ (cell_begins next file cell first.0) fits)
needles_lead next end place last file (head ∷ heads) (cell ∷ cells) has within row stand lacks =
    let first = cells_first next last file cell cells has in
    let here : HeadStands next head file = subst (λ n. HeadStands n head file) row.0 stand.0 in
    let same : head.size ≡ length cell.bytes = ap (λ (h : CellHead). h.size) (read_head next file cell head first.0 here.place here.is) in
    needles_lead (next + needle_total (length cell.bytes)) end place last file heads cells first.1 within
    (subst (λ n. AreHeadsFrom (next + needle_total n) heads place) same row.1) stand.1 lacks

-- So damage is told in none of them, nor where one begins.
pub damaged_within_a_needle : (sights : Sights) (replica cells place last : ℕ) (r : ReplicaSeen) (file : List ℕ) (whole : List Cell) → HasCells r.next file whole last
    → last ≤ r.end → LacksCell sights replica cells place r file → last ≤ place
damaged_within_a_needle sights replica cells place last r file whole has within lacks =
    needles_lead r.next r.end place last file (lacks.lead).heads whole has within (lacks.lead).row (lacks.lead).stand lacks.lacks

-- BROKEN BODIES

-- Behind these heads a cell stands that is to be copied, and its head alone is whole.
pub record BreaksBehind (sights : Sights) (replica next at : ℕ) (file : List ℕ) (front : List CellHead) : Type 0 where
  pub head : CellHead
  pub stands : HeadStands at head file
  pub alive : head.deleted ≡ false
  pub last : latest_sight (sights head.pair replica) ≡ Some at
  pub lacks : LacksNeedleOf head.size at file
  pub row : AreHeadsFrom next front at
  pub stand : AllByRecursion (λ (head : CellHead). HeadStands head.at head file) front

-- one head stands at a place
same_head : (at : ℕ) (file : List ℕ) (g h : CellHead) → HeadStands at g file → HeadStands at h file → g ≡ h
same_head at file g h a b =
    let with : ℕ → Head → CellHead = λ k x. record { at = k; version = x.version; pair = x.pair; cookie = x.cookie; size = x.size; deleted = x.deleted } in
    ap (λ k. with k (head_of_cell g)) (a.place ∙ sym b.place) ∙ ap (with h.at) (one_head (take 36 (drop at file)) (head_of_cell g) (head_of_cell h) a.is b.is)

body_met : (sights : Sights) (replica next at : ℕ) (file : List ℕ) (front : List CellHead) → (breaks : BreaksBehind sights replica next at file front)
    → IsPassedOrStands at breaks.head (latest_sight (sights (breaks.head).pair replica)) file → ⊥
body_met sights replica next at file front breaks (inl deleted) = let wrong : false ≡ true = sym breaks.alive ∙ deleted in cc
body_met sights replica next at file front breaks (inr (inl other)) = other breaks.last
body_met sights replica next at file front breaks (inr (inr has)) = breaks.lacks (needle_of_cell has.cell) (cell_begins at file has.cell has.stands) has.size_is

heads_end : (sights : Sights) (replica next at : ℕ) (file : List ℕ) (front : List CellHead) → BreaksBehind sights replica next at file front → (place : ℕ) (heads : List CellHead)
    → AreHeadsFrom next heads place → AllByRecursion (λ (head : CellHead). HeadStands head.at head file) heads
    → AllByRecursion (λ (head : CellHead). IsPassedOrStands head.at head (latest_sight (sights head.pair replica)) file) heads → (length heads ≤ length front) × (place ≤ at)
heads_end sights replica next at file [] breaks place [] row stand met = let here : next ≡ at = breaks.row in (omega arith, omega (arith, row, here))
heads_end sights replica next at file [] breaks place (h ∷ heads) row stand met =
    let here : h.at ≡ at = row.0 ∙ breaks.row in
    let same : h ≡ breaks.head = same_head at file h breaks.head (subst (λ n. HeadStands n h file) here stand.0) breaks.stands in
    absurd (body_met sights replica next at file [] breaks (subst (λ (x : CellHead). IsPassedOrStands at x (latest_sight (sights x.pair replica)) file) same
    (subst (λ n. IsPassedOrStands n h (latest_sight (sights h.pair replica)) file) here met.0)))
heads_end sights replica next at file (f ∷ front) breaks place [] row stand met =
    let low : next ≤ at = row_behind next at (f ∷ front) breaks.row in (omega arith, omega (arith, row, low))
heads_end sights replica next at file (f ∷ front) breaks place (h ∷ heads) row stand met =
    let first : f.at ≡ next = (breaks.row).0 in
    let one : f ≡ h = same_head next file f h (subst (λ n. HeadStands n f file) first (breaks.stand).0) (subst (λ n. HeadStands n h file) row.0 stand.0) in
    let behind : BreaksBehind sights replica (next + needle_total h.size) at file front = record {
      head = breaks.head;
      stands = breaks.stands;
      alive = breaks.alive;
      last = breaks.last;
      lacks = breaks.lacks;
      row = subst (λ (x : CellHead). AreHeadsFrom (next + needle_total x.size) front at) one (breaks.row).1;
      stand = (breaks.stand).1;
    } in
    let later = heads_end sights replica (next + needle_total h.size) at file front behind place heads row.1 stand.1 met.1 in
    let few : length heads ≤ length front = later.0 in (omega (arith, few), later.1)

-- So no work leads behind it.
pub broken_ends : (sights : Sights) (replica number next at place : ℕ) (file : List ℕ) (front : List CellHead) → BreaksBehind sights replica next at file front
    → HeadsLead sights replica number next place file → (number ≤ length front) × (place ≤ at)
broken_ends sights replica number next at place file front breaks lead =
    let ends = heads_end sights replica next at file front breaks place lead.heads lead.row lead.stand lead.met in
    let few : length lead.heads ≤ length front = ends.0 in
    let many = lead.many in (omega (arith, few, many), ends.1)
