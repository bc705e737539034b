-- What an opening finds of a volume behind a stop: one of the outcomes of a restart.
use Rattle.std.proofs.Common.{◌≡◌, ◌⊎◌, inl, inr, ℕ, zero, suc, ◌+◌, ◌-◌, ◌<◌, ◌≤◌, Bool, true, false, not, List, [], ◌∷◌, ◌++◌, length, map, Option, Some, None, refl, sym, ap}
use Rattle.std.proofs.Common.{subst, ◌∙◌, arith, length-append}
use Rattle.std.specs.Prelude.{slice_get, nat_lt}
use Rattle.std.proofs.lemmas.Bool.{cases_Bool, cases_lt, true≢false}
use Rattle.std.proofs.lemmas.Bool.Decides.{nat_tests}
use Rattle.std.proofs.lemmas.List.{length-map}
use Rattle.hay_needle.specs.declared.needle.Cell.{Cell}
use Rattle.hay_needle.specs.declared.needle.Outcome.{Outcome}
use Rattle.hay_needle.specs.declared.needle.Outcome.TheVariants as outcome
use Rattle.hay_needle.specs.declared.settings.Settings.{Settings}
use Rattle.hay_needle.specs.Tables.{Table, live_end, outcome_at, table_of}
use Rattle.hay_disk.specs.Disk.{Files, MayLeave}
use Rattle.hay_volume.specs.Cells.{needles_of}
use Rattle.hay_core.specs.declared.entry.Entry.{Entry}
use Rattle.hay_core.specs.declared.entry.Entry.TheVariants.{Put, Del}
use Rattle.hay_legal.specs.declared.known.Pending.{Pending}
use Rattle.hay_legal.specs.declared.known.ReplicaKnown.{ReplicaKnown}
use Rattle.hay_legal.specs.declared.known.VolumeKnown.{VolumeKnown}
use Rattle.hay_legal.specs.Known.{empty_replica, machine_of, now, replica_at, stands as has_photo}
use Rattle.hay_legal.specs.Restarts.{BareIs, KeptAfter, KeptBelow, KeptFirst, MayKeep, ReopenedReplica, ReopenedReplicas, ReopenedVolume, added_cells, added_end, is_kept}
use Rattle.hay_legal.specs.Restarts.{kept_entry, nothing_at, with_entries}
use Rattle.hay_legal.specs.Stands.{Contents, VolumeOutcome, found_of}
use Rattle.hay_open.specs.Stored.{IsStored, OpensAs, Stored, volume_file}
use Rattle.hay_compact.specs.Copying.{end_of}
use Rattle.hay_compact.proofs.CellLists.{cells_end}
use Rattle.hay_physical.specs.CompactionRuns.{Swaps}
use Rattle.hay_needle.specs.declared.settings.Super.{Super}
use Rattle.hay_physical.specs.OpenCopies.{Copy}
use Rattle.hay_physical.specs.Replicas.{IsLike}
use Rattle.hay_physical.specs.Replicas as physical
use Rattle.hay_physical.proofs.Holding.{finds_opens}
use Rattle.hay_physical.proofs.Laws.{holds_image}
use Rattle.hay_logical.specs.Fits.{At, Fits, HoldsPart, HoldsSwap, IsReplica, Makes, Part, part_of, super_of}
use Rattle.hay_logical.specs.Fits.Part.{Kept, Unsure as Perhaps, Lost}
use Rattle.hay_logical.specs.Stands.{HoldsFor, HoldsPending, IsBroken, ReplicaHolds}
use Rattle.hay_logical.specs.Volumes.{IsOfSettings, Volume}
use Rattle.hay_logical.proofs.Holding.{part_kept, part_lost}
use Rattle.hay_logical.proofs.Lists.{at_below, at_either, at_map, at_or, at_same, at_there}
use Rattle.hay_legal.proofs.Machines.{replica_found}
use Rattle.hay_logical.proofs.SwapSizes.{photos_end, photos_fewer}
use Rattle.hay_logical.proofs.Tables.{makes_nothing}

-- A REPLICA

-- what is known of a replica that was just opened
abbrev pub known_of : Stored → ReplicaKnown
known_of s = record {
  base = table_of (needles_of s.cells);
  end = s.end;
  cells = length s.cells;
  bare = length s.cells - s.records;
  generation = s.generation;
  stuck = false;
  run = None;
  poised = false;
}

-- kept entries make t of s
record Adds (entries : List Entry) (s t : Stored) : Type 0 where
  table : table_of (needles_of t.cells) ≡ with_entries (table_of (needles_of s.cells)) entries
  end : t.end ≡ s.end + added_end entries
  cells : length t.cells ≡ length s.cells + added_cells entries
  records : t.records ≡ s.records
  generation : t.generation ≡ s.generation

adds_none : (s : Stored) → Adds [] s s
adds_none s = record {
  table = refl;
  end = let e : s.end ≡ s.end + 0 = omega arith in e;
  cells = let e : length s.cells ≡ length s.cells + 0 = omega arith in e;
  records = refl;
  generation = refl;
}

adds_one : (entry : Entry) (s t : Stored) → Makes entry s t → Adds (entry ∷ []) s t
adds_one entry s t m = record { table = m.table; end = m.end; cells = m.cells; records = m.records; generation = m.generation }

bare_by : (stuck : Bool) (most cells records less : ℕ) → most + less ≡ cells → less ≤ records → (stuck ≡ false → records ≡ less) → BareIs stuck most (cells - records)
bare_by true most cells records less sum fewer same = omega (arith, sum, fewer)
bare_by false most cells records less sum fewer same = let e = same refl in omega (arith, sum, e)

reopened_by : (k : VolumeKnown) (old : ReplicaKnown) (entries : List Entry) (s t found : Stored) → Fits k old s → Adds entries s t → IsLike old.stuck t found
    → ReopenedReplica k old entries (known_of found)
reopened_by k old entries s t found fits adds like =
    let sum : old.bare + added_cells entries + t.records ≡ length found.cells =
    (let b = fits.bare in let c = adds.cells in let r = adds.records in let l = ap length like.cells in omega (arith, b, c, r, l)) in
    record {
      base = ap (λ (cells : List Cell). table_of (needles_of cells)) like.cells ∙ adds.table ∙ ap (λ (x : Table). with_entries x entries) fits.table;
      stands = inl (record {
        end = like.end ∙ adds.end ∙ ap (λ n. n + added_end entries) (sym fits.end);
        cells = ap length like.cells ∙ adds.cells ∙ ap (λ n. n + added_cells entries) (sym fits.cells);
        bare = bare_by old.stuck (old.bare + added_cells entries) (length found.cells) found.records t.records sum like.fewer like.same;
        generation = like.generation ∙ adds.generation ∙ sym fits.generation;
      });
      loose = refl;
      idle = refl;
      settled = refl;
    }

-- behind a head switch that was not known to be made
swapped_by : (k : VolumeKnown) (old : ReplicaKnown) (s t found : Stored) → old.poised ≡ true → Fits k old s → Swaps s t → IsLike old.stuck t found → found.end ≡ end_of found.cells
    → ReopenedReplica k old [] (known_of found)
swapped_by k old s t found poised fits swaps like ends =
    let table : table_of (needles_of found.cells) ≡ now k old = ap (λ (cells : List Cell). table_of (needles_of cells)) like.cells ∙ swaps.table ∙ fits.table in
    let count : length found.cells ≡ length t.cells = ap length like.cells in
    record {
      base = table;
      stands = inr (record {
        poised = poised;
        end = subst (λ (x : Table). live_end x ≤ found.end) table (let e = photos_end found.cells in omega (arith, e, ends));
        no_longer = let a = like.end in let b = swaps.shorter in let c = fits.end in omega (arith, a, b, c);
        cells = subst (λ (x : Table). length x ≤ length found.cells) table (photos_fewer found.cells);
        no_more = let b = swaps.fewer in let c = fits.cells in omega (arith, count, b, c);
        bare = let a = like.fewer in let b = swaps.records in omega (arith, a, b, count);
        generation = like.generation ∙ swaps.generation ∙ ap (λ n. n + 1) (sym fits.generation);
      });
      loose = refl;
      idle = refl;
      settled = refl;
    }

-- WHICH REPLICAS KEEP A CHANGE

pub record KeptRule (k : VolumeKnown) (entry : Entry) (at j : ℕ) (kept : Bool) : Type 0 where
  pub below : j < at → kept ≡ true
  pub nothing : nothing_at k entry j ≡ true → kept ≡ true
  pub above : at < j → nothing_at k entry j ≡ false → kept ≡ false

abbrev pub RuleBy : VolumeKnown → Option Pending → ℕ → ℕ → Bool → Type 0
RuleBy k None at j kept = Unit {0}
RuleBy k (Some pending) at j kept = KeptRule k pending.entry at j kept

-- What was found of a replica, and whether it has the change.
pub record Choice : Type 0 where
  pub found : Stored
  pub kept : Bool

pub record ReplicaOutcome (k : VolumeKnown) (at j : ℕ) (c : Choice) : Type 0 where
  pub reopened : ReopenedReplica k (replica_at k j) (kept_entry k.pending c.kept) (known_of c.found)
  pub rule : RuleBy k k.pending at j c.kept

nothing_is : (o : Outcome) → not (has_photo o) ≡ true → o ≡ outcome.Nothing
nothing_is outcome.Nothing e = refl
nothing_is (outcome.Photo photo) e = absurd cc

-- a delete where nothing stands changes nothing
adds_nothing : (k : VolumeKnown) (entry : Entry) (j : ℕ) (s : Stored) → nothing_at k entry j ≡ true → Fits k (replica_at k j) s → Adds (entry ∷ []) s s
adds_nothing k (Put pair cookie bytes) j s e fits = absurd cc
adds_nothing k (Del pair) j s e fits =
    adds_one (Del pair) s s (makes_nothing s pair
    (ap (λ (t : Table). outcome_at t pair) fits.table ∙ nothing_is (outcome_at (now k (replica_at k j)) pair) e))

module _ (k : VolumeKnown) (pending : Pending) (at j : ℕ) (s : Stored) (fits : Fits k (replica_at k j) s) where
  abbrev Is : Choice → Type 0
  Is c = ReopenedReplica k (replica_at k j) (kept_entry (Some pending) c.kept) (known_of c.found) × KeptRule k pending.entry at j c.kept

  -- found as what stood before
  as_before : (found : Stored) → IsLike (replica_at k j).stuck s found → (j < at → ⊥) → (kept : Bool) × Is (record { found = found; kept = kept })
  as_before found like not_below = elim (cases_Bool (nothing_at k pending.entry j)) [
    | inl t ↦ (
      true,
      (
        reopened_by k (replica_at k j) (pending.entry ∷ []) s s found fits (adds_nothing k pending.entry j s t fits) like,
        record { below = λ h. refl; nothing = λ h. refl; above = λ h f. absurd (true≢false (sym t ∙ f)) },
      ),
    )
    | inr f ↦ (
      false,
      (
        reopened_by k (replica_at k j) [] s s found fits (adds_none s) like,
        record { below = λ h. absurd (not_below h); nothing = λ h. absurd (true≢false (sym h ∙ f)); above = λ h g. refl },
      ),
    )
  ]

  -- found as what the change makes
  as_after : (t found : Stored) → Makes pending.entry s t → IsLike (replica_at k j).stuck t found → (at < j → ⊥) → (kept : Bool) × Is (record { found = found; kept = kept })
  as_after t found makes like not_above = (
    true,
    (
      reopened_by k (replica_at k j) (pending.entry ∷ []) s t found fits (adds_one pending.entry s t makes) like,
      record { below = λ h. refl; nothing = λ h. refl; above = λ h f. absurd (not_above h) },
    ),
  )

-- the replica that broke the change off
at_part : (at j : ℕ) → part_of at j ≡ Perhaps → j ≡ at
at_part at j e = elim (cases_lt j at) [
  | inl less ↦ let wrong : Kept ≡ Perhaps = sym (part_kept at j less) ∙ e in cc
  | inr most ↦ elim (cases_lt at j) [
    | inl more ↦ let wrong : Lost ≡ Perhaps = sym (part_lost at j more) ∙ e in cc
    | inr no_more ↦ omega (arith, most, no_more)
  ]
]

-- what finds a replica, and what is known of it then
module _ {D : Type 0} (files : D → Files) (r : Copy D) (E : Stored → Type 0)
    (finder : (b : Bool) (a t : Stored) → physical.Holds files r b a t → (found : Stored) × (IsLike b a found ⊎ IsLike b t found) × E found)
    (sized : (found : Stored) → E found → found.end ≡ end_of found.cells) where
  abbrev OutcomeBy : VolumeKnown → ℕ → ℕ → Option Pending → Type 0
  OutcomeBy k at j p = (c : Choice) × (ReopenedReplica k (replica_at k j) (kept_entry p c.kept) (known_of c.found) × RuleBy k p at j c.kept) × E c.found

  by_part : (k : VolumeKnown) (pending : Pending) (at j : ℕ) (s : Stored) → Fits k (replica_at k j) s → (part : Part) → part_of at j ≡ part
      → HoldsPart files r (replica_at k j).stuck pending.entry s part → OutcomeBy k at j (Some pending)
  by_part k pending at j s fits Kept is h =
      let f = finder (replica_at k j).stuck h.0 h.0 h.2 in
      let like : IsLike (replica_at k j).stuck h.0 f.0 = elim (f.1) [ inl l ↦ l | inr l ↦ l ] in
      let c = as_after k pending at j s fits h.0 f.0 h.1 like (λ above. let wrong : Kept ≡ Lost = sym is ∙ part_lost at j above in cc) in
      (record { found = f.0; kept = c.0 }, c.1, f.2)
  by_part k pending at j s fits Perhaps is h =
      let f = finder (replica_at k j).stuck s h.0 h.2 in
      let here : j ≡ at = at_part at j is in
      elim (f.1) [
        | inl l ↦ let c = as_before k pending at j s fits f.0 l (λ below. omega (arith, below, here)) in (record { found = f.0; kept = c.0 }, c.1, f.2)
        | inr l ↦ let c = as_after k pending at j s fits h.0 f.0 h.1 l (λ above. omega (arith, above, here)) in (record { found = f.0; kept = c.0 }, c.1, f.2)
      ]
  by_part k pending at j s fits Lost is h =
      let f = finder (replica_at k j).stuck s s h in
      let like : IsLike (replica_at k j).stuck s f.0 = elim (f.1) [ inl l ↦ l | inr l ↦ l ] in
      let c = as_before k pending at j s fits f.0 like (λ below. let wrong : Kept ≡ Lost = sym (part_kept at j below) ∙ is in cc) in
      (record { found = f.0; kept = c.0 }, c.1, f.2)

  by_swap : (k : VolumeKnown) (at j : ℕ) (s : Stored) → Fits k (replica_at k j) s → (poised : Bool) → (replica_at k j).poised ≡ poised
      → HoldsSwap files r (replica_at k j).stuck s poised → OutcomeBy k at j None
  by_swap k at j s fits false is h =
      let f = finder (replica_at k j).stuck s s h in
      let like : IsLike (replica_at k j).stuck s f.0 = elim (f.1) [ inl l ↦ l | inr l ↦ l ] in
      (record { found = f.0; kept = false }, (reopened_by k (replica_at k j) [] s s f.0 fits (adds_none s) like, tt), f.2)
  by_swap k at j s fits true is h =
      let f = finder (replica_at k j).stuck s h.0 h.2 in
      elim (f.1) [
        | inl l ↦ (record { found = f.0; kept = false }, (reopened_by k (replica_at k j) [] s s f.0 fits (adds_none s) l, tt), f.2)
        | inr l ↦ (record { found = f.0; kept = false }, (swapped_by k (replica_at k j) s h.0 f.0 is fits h.1 l (sized f.0 f.2), tt), f.2)
      ]

  by_pending : (k : VolumeKnown) (p : Option Pending) (at j : ℕ) (s : Stored) → Fits k (replica_at k j) s
      → HoldsPending files r (replica_at k j).stuck (replica_at k j).poised s p at j → OutcomeBy k at j p
  by_pending k None at j s fits h = by_swap k at j s fits (replica_at k j).poised refl h
  by_pending k (Some pending) at j s fits h = by_part k pending at j s fits (part_of at j) refl h.1

  pub replica_outcome : (k : VolumeKnown) (at j : ℕ) → ReplicaHolds files k at j r → (c : Choice) × ReplicaOutcome k at j c × E c.found
  replica_outcome k at j h =
      let o = by_pending k k.pending at j h.stored h.fits h.holds in
      (o.0, record { reopened = o.1.0; rule = o.1.1 }, o.2)

-- LISTS OF CHOICES

pub record Chosen {X : Type 0} (P : ℕ → X → Type 0) (n : ℕ) : Type 0 where
  pub items : List X
  pub count : length items ≡ n
  pub each : (j : ℕ) (x : X) → At items j x → P j x

pub choose : {X : Type 0} (P : ℕ → X → Type 0) (n : ℕ) → ((j : ℕ) → j < n → (x : X) × P j x) → Chosen P n
choose P zero each = record { items = []; count = refl; each = λ j x e. absurd cc }
choose P (suc n) each =
    let rest = choose P n (λ j h. each j (let less : j < suc n = omega (arith, h) in less)) in
    let last = each n (let less : n < suc n = omega arith in less) in
    record {
      items = rest.items ++ last.0 ∷ [];
      count = length-append rest.items (last.0 ∷ []) ∙ (let c = rest.count in let e : length rest.items + 1 ≡ suc n = omega (arith, c) in e);
      each = λ j x e. elim (at_either rest.items last.0 j x e) [
        | inl h ↦ rest.each j x h
        | inr h ↦ subst (λ (y : _). P j y) (sym h.1) (subst (λ i. P i last.0) (sym (h.0 ∙ rest.count)) last.1)
      ];
    }

-- the lists agree with the volumes
reopened_all : (k : VolumeKnown) (kept : List Bool) (n : ℕ) (olds news : List ReplicaKnown) → length news ≡ length olds
    → ((i : ℕ) (old new : ReplicaKnown) → At olds i old → At news i new → ReopenedReplica k old (kept_entry k.pending (is_kept kept (n + i))) new)
    → ReopenedReplicas k kept n olds news
reopened_all k kept n [] [] count each = tt
reopened_all k kept n [] (new ∷ news) count each = absurd (omega (arith, count))
reopened_all k kept n (old ∷ olds) [] count each = absurd (omega (arith, count))
reopened_all k kept n (old ∷ olds) (new ∷ news) count each =
    let fewer : length news ≡ length olds = omega (arith, count) in
    let plus : n + 0 ≡ n = omega arith in (
      subst (λ i. ReopenedReplica k old (kept_entry k.pending (is_kept kept i)) new) plus (each 0 old new refl refl),
      reopened_all k kept (n + 1) olds news fewer (λ i o m e f.
          let next : n + suc i ≡ n + 1 + i = omega arith in
          subst (λ x. ReopenedReplica k o (kept_entry k.pending (is_kept kept x)) m) next (each (suc i) o m e f)),
    )

abbrev pub kept_list : Option Pending → List Choice → List Bool
kept_list None choices = []
kept_list (Some pending) choices = map (λ c. c.kept) choices

abbrev pub opened_as : List Choice → VolumeKnown
opened_as choices = record { log = []; frozen = None; pending = None; replicas = map (λ c. known_of c.found) choices }

module _ (settings : Settings) (v : ℕ) (of : IsOfSettings settings v) (k : VolumeKnown) (at : ℕ) (many : length k.replicas ≡ settings.replicas)
    (broken : IsBroken settings v k.frozen at k.pending) (chosen : Chosen (ReplicaOutcome k at) settings.replicas) where
  kept_by : (p : Option Pending) (j : ℕ) (c : Choice) → At chosen.items j c → kept_entry p (is_kept (kept_list p chosen.items) j) ≡ kept_entry p c.kept
  kept_by None j c e = none_kept (is_kept [] j) c.kept
    where
      none_kept : (a b : Bool) → kept_entry None a ≡ kept_entry None b
      none_kept a b = refl
  kept_by (Some pending) j c e = ap (kept_entry (Some pending)) (at_or (map (λ (x : Choice). x.kept) chosen.items) j c.kept false (at_map (λ (x : Choice). x.kept) chosen.items j c e))

  -- the answer for a replica
  answer_at : (p : Option Pending) → k.pending ≡ p → (j : ℕ) → j < settings.replicas → (c : Choice) × At chosen.items j c × RuleBy k p at j c.kept
  answer_at p is j h =
      let there = at_there chosen.items j (let n = chosen.count in let less : j < length chosen.items = omega (arith, h, n) in less) in
      (there.0, there.1, subst (λ (q : Option Pending). RuleBy k q at j there.0.kept) is (chosen.each j there.0 there.1).rule)

  kept_get : (j : ℕ) (c : Choice) (b : Bool) → At chosen.items j c → c.kept ≡ b → slice_get (map (λ (x : Choice). x.kept) chosen.items) j ≡ Some b
  kept_get j c b e is = at_map (λ (x : Choice). x.kept) chosen.items j c e ∙ ap Some is

  within_list : (j : ℕ) → j < length (map (λ (x : Choice). x.kept) chosen.items) → j < settings.replicas
  within_list j h = let l = length-map chosen.items (λ (x : Choice). x.kept) in let n = chosen.count in omega (arith, h, l, n)

  kept_below : (pending : Pending) → k.pending ≡ Some pending → at < settings.replicas → KeptBelow k pending.entry at (map (λ (x : Choice). x.kept) chosen.items)
  kept_below pending is low = record {
    below = λ j h. let a = answer_at (Some pending) is j (omega (arith, h, low)) in kept_get j a.0 true a.1 (a.2.below h);
    nothing = λ j h e. let a = answer_at (Some pending) is j (within_list j h) in kept_get j a.0 true a.1 (a.2.nothing e);
    above = λ j h l e. let a = answer_at (Some pending) is j (within_list j l) in kept_get j a.0 false a.1 (a.2.above h e);
  }

  kept_first : (pending : Pending) → k.pending ≡ Some pending → (entry : Entry) → pending.entry ≡ entry → IsBroken settings v k.frozen at (Some (record pending { failed = false; entry = entry }))
      → KeptFirst entry (map (λ (x : Choice). x.kept) chosen.items)
  kept_first pending is (Del pair) e b = λ j h.
      let all : settings.replicas ≤ at = b in
      let low = within_list j h in
      let a = answer_at (Some pending) is j low in
      kept_get j a.0 true a.1 (a.2.below (omega (arith, low, all)))
  kept_first pending is (Put pair cookie bytes) e b = elim (cases_Bool (is_kept (map (λ (x : Choice). x.kept) chosen.items) at)) [
    | inl t ↦ (
      at + 1,
      λ j h. by_place (at + 1) j h (λ less. elim (cases_lt j at) [
        | inl below ↦ inl below
        | inr most ↦ let here : j ≡ at = omega (arith, most, less) in inr (here, t)
      ]) (λ more. inl (omega (arith, more))),
    )
    | inr f ↦ (
      at,
      λ j h. by_place at j h (λ less. inl less) (λ more. elim (cases_lt at j) [
        | inl above ↦ inl above
        | inr no_more ↦ let here : j ≡ at = omega (arith, more, no_more) in inr (here, f)
      ]),
    )
  ]
    where
      lost_above : (j : ℕ) → at < j → (c : Choice) → KeptRule k pending.entry at j c.kept → c.kept ≡ false
      lost_above j h c rule = rule.above h (ap (λ (x : Entry). nothing_at k x j) e)

      by_place : (n j : ℕ) → j < length (map (λ (x : Choice). x.kept) chosen.items)
          → (j < n → (j < at) ⊎ ((j ≡ at) × (is_kept (map (λ (x : Choice). x.kept) chosen.items) at ≡ true)))
          → (n ≤ j → (at < j) ⊎ ((j ≡ at) × (is_kept (map (λ (x : Choice). x.kept) chosen.items) at ≡ false)))
          → slice_get (map (λ (x : Choice). x.kept) chosen.items) j ≡ Some (nat_lt j n)
      by_place n j h low high =
          let a = answer_at (Some pending) is j (within_list j h) in
          let read : is_kept (map (λ (x : Choice). x.kept) chosen.items) j ≡ a.0.kept =
          at_or (map (λ (x : Choice). x.kept) chosen.items) j a.0.kept false (at_map (λ (x : Choice). x.kept) chosen.items j a.0 a.1) in
          elim (cases_lt j n) [
            | inl less ↦
                let test : nat_lt j n ≡ true = grind (arith, nat_tests, less) in
                kept_get j a.0 true a.1 (elim (low less) [
                  | inl below ↦ a.2.below below
                  | inr here ↦ sym read ∙ ap (is_kept (map (λ (x : Choice). x.kept) chosen.items)) here.0 ∙ here.1
                ]) ∙ ap Some (sym test)
            | inr more ↦
                let test : nat_lt j n ≡ false = grind (arith, nat_tests, more) in
                kept_get j a.0 false a.1 (elim (high more) [
                  | inl above ↦ lost_above j above a.0 a.2
                  | inr here ↦ sym read ∙ ap (is_kept (map (λ (x : Choice). x.kept) chosen.items)) here.0 ∙ here.1
                ]) ∙ ap Some (sym test)
          ]

  kept_after : (pending : Pending) → k.pending ≡ Some pending → (failed : Bool) → pending.failed ≡ failed → KeptAfter settings v k pending failed (map (λ (x : Choice). x.kept) chosen.items)
  kept_after pending is true e =
      let b : IsBroken settings v k.frozen at (Some (record pending { failed = true })) =
      subst (λ (x : Bool). IsBroken settings v k.frozen at (Some (record pending { failed = x }))) e (subst (λ (q : Option Pending). IsBroken settings v k.frozen at q) is broken) in
      (machine_of settings v at, at, b.1, replica_found settings v at of.within b.0 of.fits, kept_below pending is b.0)
  kept_after pending is false e =
      kept_first pending is pending.entry refl (subst (λ (x : Bool). IsBroken settings v k.frozen at (Some (record pending { failed = x }))) e
      (subst (λ (q : Option Pending). IsBroken settings v k.frozen at q) is broken))

  may_keep : (p : Option Pending) → k.pending ≡ p → MayKeep settings v k p (kept_list p chosen.items)
  may_keep None is = refl
  may_keep (Some pending) is =
      (length-map chosen.items (λ (x : Choice). x.kept) ∙ chosen.count ∙ sym many, kept_after pending is pending.failed refl)

  -- what was found is one of the outcomes of a restart
  pub reopened_volume : ReopenedVolume settings v k (kept_list k.pending chosen.items) (opened_as chosen.items)
  reopened_volume = record {
    may = may_keep k.pending refl;
    replicas = reopened_all k (kept_list k.pending chosen.items) 0 k.replicas (map (λ (x : Choice). known_of x.found) chosen.items)
        (length-map chosen.items (λ (x : Choice). known_of x.found) ∙ chosen.count ∙ sym many)
        (λ i old new e f.
        let low : i < length k.replicas = at_below k.replicas i old e in
        let there = at_there chosen.items i (let n = chosen.count in let less : i < length chosen.items = omega (arith, low, n, many) in less) in
        let o = chosen.each i there.0 there.1 in
        let new_is : known_of there.0.found ≡ new =
        at_same (map (λ (x : Choice). known_of x.found) chosen.items) i (known_of there.0.found) new (at_map (λ (x : Choice). known_of x.found) chosen.items i there.0 there.1) f in
        let old_is : replica_at k i ≡ old = at_or k.replicas i old empty_replica e in
        let plus : i ≡ 0 + i = omega arith in
        subst (λ n. ReopenedReplica k old (kept_entry k.pending (is_kept (kept_list k.pending chosen.items) n)) new) plus
        (subst (λ (es : List Entry). ReopenedReplica k old es new) (sym (kept_by k.pending i there.0 there.1))
        (subst (λ (x : ReplicaKnown). ReopenedReplica k old (kept_entry k.pending there.0.kept) x) new_is
        (subst (λ (x : ReplicaKnown). ReopenedReplica k x (kept_entry k.pending there.0.kept) (known_of there.0.found)) old_is o.reopened))));
    log = refl;
    frozen = refl;
    pending = refl;
  }

-- IN EVERY IMAGE

-- an opening finds this, and its cells stand without gaps
record OpensFor (sup : Super) (contents : Contents) (s : Stored) : Type 0 where
  opens : OpensAs sup contents s
  ends : s.end ≡ end_of s.cells

stored_end : (sup : Super) (contents : ℕ → List ℕ) (s : Stored) → IsStored sup contents s → s.end ≡ end_of s.cells
stored_end sup contents s is = sym (cells_end 64 s.end (contents (volume_file s.generation)) s.cells is.volume.has)

pub volume_outcome : {D P : Type 0} (files : D → Files) (volume : Volume D P) (k : VolumeKnown) → IsOfSettings volume.settings volume.number → HoldsFor files volume k
    → ((j : ℕ) (r : Copy D) → At volume.replicas j r → r.sup ≡ super_of volume.settings volume.number j)
    → (image : ℕ → Contents) → ((j : ℕ) (r : Copy D) → At volume.replicas j r → MayLeave (files r.disk) (image j))
    → VolumeOutcome (IsReplica volume.settings) volume.settings volume.number k image
unfolding IsReplica
volume_outcome files volume k of h sups image leaves =
    let each : (j : ℕ) → j < volume.settings.replicas → (c : Choice) × (ReplicaOutcome k h.broken_at j c × OpensFor (super_of volume.settings volume.number j) (image j) c.found) =
    (λ j low.
    let there = at_there volume.replicas j (let a = h.all in let less : j < length volume.replicas = omega (arith, low, a) in less) in
    let o = replica_outcome files there.0 (λ found. OpensFor (super_of volume.settings volume.number j) (image j) found)
    (λ b a t holds.
    let f = holds_image files there.0 b a t (image j) holds (leaves j there.0 there.1) in (
      f.found,
      f.like,
      record {
        opens = subst (λ sup. OpensAs sup (image j) f.found) (sups j there.0 there.1) (finds_opens there.0.sup (image j) b a t f);
        ends = stored_end there.0.sup (image j) f.found f.is;
      },
    ))
    (λ found is. is.ends)
    k h.broken_at j (h.each j there.0 there.1) in
    (o.0, (o.1, o.2))) in
    let both = choose (λ j c. ReplicaOutcome k h.broken_at j c × OpensFor (super_of volume.settings volume.number j) (image j) c.found) volume.settings.replicas each in
    let chosen : Chosen (ReplicaOutcome k h.broken_at) volume.settings.replicas = record { items = both.items; count = both.count; each = λ j c e. (both.each j c e).0 } in
    record {
      kept = kept_list k.pending both.items;
      opened = opened_as both.items;
      reopened = reopened_volume volume.settings volume.number of k h.broken_at h.many h.broken chosen;
      found = λ j low.
          let there = at_there both.items j (let n = both.count in let less : j < length both.items = omega (arith, low, n) in less) in
          let new_is : replica_at (opened_as both.items) j ≡ known_of there.0.found =
          at_or (map (λ (x : Choice). known_of x.found) both.items) j (known_of there.0.found) empty_replica (at_map (λ (x : Choice). known_of x.found) both.items j there.0 there.1) in
          record {
            stored = there.0.found;
            opens = (both.each j there.0 there.1).1.opens;
            is = ap found_of new_is;
          };
    }
