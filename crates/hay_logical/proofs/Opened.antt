-- An opened volume stands for what its disks had, and its notes tell what they had of a change that was broken off.
use Rattle.std.proofs.Common.{◌≡◌, inl, inr, ℕ, zero, suc, ◌+◌, ◌-◌, ◌<◌, ◌≤◌, Bool, true, false, not, List, [], ◌∷◌, length, map, Option, Some, None, Result, Err, refl, sym, ap, subst, ◌∙◌, arith}
use Rattle.std.specs.Prelude.{nat_lt, slice_get, slice_index}
use Rattle.std.specs.List.{AllByRecursion}
use Rattle.std.proofs.lemmas.Bool.{cases_Bool, cond-true, le-ltb, lt-ltb, true≢false}
use Rattle.std.proofs.lemmas.List.{length-map}
use Rattle.hay_needle.specs.declared.needle.Outcome.{Outcome}
use Rattle.hay_needle.specs.declared.needle.Outcome.TheVariants as outcome
use Rattle.hay_needle.specs.declared.needle.Cookie.{Cookie}
use Rattle.hay_needle.specs.declared.needle.Pair.{Pair}
use Rattle.hay_needle.specs.declared.settings.Settings.{Settings}
use Rattle.hay_needle.specs.declared.settings.Super.{Super}
use Rattle.hay_needle.specs.Sizes.{needle_total}
use Rattle.hay_needle.specs.Tables.{Table, outcome_at, pair_eq, table_of, without_pair}
use Rattle.hay_needle.proofs.TableLaws.{at-without_pair, pair_refl}
use Rattle.hay_reply.specs.declared.Note.{Note}
use Rattle.hay_disk.specs.Disk.{Files}
use Rattle.hay_volume.specs.Cells.{needles_of}
use Rattle.hay_core.specs.declared.entry.Entry.{Entry}
use Rattle.hay_core.specs.declared.entry.Entry.TheVariants.{Put, Del}
use Rattle.hay_core.specs.declared.entry.Logged.{Logged}
use Rattle.hay_core.specs.Entries.{after, entries_of}
use Rattle.hay_legal.specs.declared.known.Pending.{Pending}
use Rattle.hay_legal.specs.declared.known.ReplicaKnown.{ReplicaKnown}
use Rattle.hay_legal.specs.declared.known.VolumeKnown.{VolumeKnown}
use Rattle.hay_legal.specs.Known.{empty_replica, now, replica_at, stands as has_photo}
use Rattle.hay_legal.specs.Restarts.{ReopenedReplica, added_end, kept_entry, pending_notes, replica_notes}
use Rattle.hay_legal.specs.Stands.{found_of}
use Rattle.hay_legal.specs.Statuses.{IsUntouched}
use Rattle.hay_map.specs.MapRows.{MapRows}
use Rattle.hay_map.specs.Places.{PlaceMeans, place_in}
use Rattle.hay_map.specs.Rows.{row_at}
use Rattle.hay_map.specs.declared.place.Place.{Place}
use Rattle.hay_map.specs.declared.place.Place.TheVariants as place
use Rattle.hay_open.specs.declared.fault.OpenFault.TheVariants as open_fault
use Rattle.hay_open.specs.Stored.{OpensAs, Stored, last_cell}
use Rattle.hay_compact.specs.Finishing.{IsSeen}
use Rattle.hay_physical.specs.OpenCopies.{Copy, contents_of, end_of, goal_of, is_stuck}
use Rattle.hay_physical.specs.Replicas as physical
use Rattle.hay_physical.proofs.Laws.{stands_cells_end, stands_end}
use Rattle.hay_logical.specs.declared.fault.Unopened.{Unopened}
use Rattle.hay_logical.specs.declared.unsure.Change.{Change}
use Rattle.hay_logical.specs.declared.unsure.Change.TheVariants as change
use Rattle.hay_logical.specs.declared.unsure.Unsure.{Unsure}
use Rattle.hay_logical.specs.Answers.{IsReopened}
use Rattle.hay_logical.specs.Fits.{At, Fits, HoldsPart, HoldsSwap, IsReplica, Part, PhotoAt, found_as, part_of, super_of}
use Rattle.hay_logical.specs.Fits.Part.{Kept, Unsure as Perhaps, Lost}
use Rattle.hay_logical.specs.Notes.{NotesTell, SeesChange, SeesUnsure, keeps, may_be_live}
use Rattle.hay_logical.specs.Seen.{ReplicaSeen, replica_seen}
use Rattle.hay_logical.specs.Sights.{Sights, sight, sights_of}
use Rattle.hay_logical.specs.Stands.{HoldsFor, HoldsPending, IsChange, IsFirst, IsPending, ReplicaStands, Stands, StandsFor}
use Rattle.hay_logical.specs.ReplicaCalls.{IsRefusedAt, OpensAt}
use Rattle.hay_logical.specs.Volumes.{IsOfSettings}
use Rattle.hay_logical.proofs.Compacting.{no_run}
use Rattle.hay_logical.proofs.Lists.{at_below, at_map, at_or, at_same, at_there}
use Rattle.hay_logical.proofs.Reopening.{Choice, Chosen, KeptRule, ReplicaOutcome, RuleBy, choose, kept_list, known_of, opened_as, reopened_volume, replica_outcome}
use Rattle.hay_logical.proofs.Standing.{volume_with}
use Rattle.hay_logical.proofs.Tables.{place_means}

-- LISTS

every_at : {X : Type 0} (P : X → Type 0) (xs : List X) (j : ℕ) (x : X) → AllByRecursion P xs → At xs j x → P x
every_at P [] j x all e = absurd cc
every_at P (y ∷ xs) zero x all e = let same : y ≡ x = cc in subst P same all.0
every_at P (y ∷ xs) (suc j) x all e = every_at P xs j x all.1 e

lists_same : {X : Type 0} (xs ys : List X) → length xs ≡ length ys → ((j : ℕ) → j < length ys → slice_get xs j ≡ slice_get ys j) → xs ≡ ys
lists_same [] [] count each = refl
lists_same [] (y ∷ ys) count each = absurd (omega (arith, count))
lists_same (x ∷ xs) [] count each = absurd (omega (arith, count))
lists_same (x ∷ xs) (y ∷ ys) count each =
    let fewer : length xs ≡ length ys = omega (arith, count) in
    let first : Some x ≡ Some y = each 0 (let h : 0 < length (y ∷ ys) = omega arith in h) in
    let same : x ≡ y = cc in
    ap (λ z. z ∷ xs) same ∙ ap (λ zs. y ∷ zs) (lists_same xs ys fewer (λ j h. each (suc j) (let less : suc j < length (y ∷ ys) = omega (arith, h) in less)))

-- A REPLICA THAT WAS JUST OPENED

stands_lags : {D : Type 0} (files : D → Files) (r : Copy D) (s : Stored) → physical.Stands files r s → s.records ≤ length s.cells
unfolding physical.Stands
stands_lags files r s stands = stands.stand.lags

less_back : (n m : ℕ) → m ≤ n → n - m + m ≡ n
less_back n m h = omega (arith, h)

now_fresh : (k : VolumeKnown) (r : ReplicaKnown) → k.log ≡ [] → r.base ≡ now k r
now_fresh k r e = ap (λ (log : List Logged). after (entries_of log) (length log) r.base) (sym e)

fits_known : (k : VolumeKnown) (s : Stored) → k.log ≡ [] → s.records ≤ length s.cells → Fits k (known_of s) s
fits_known k s log lags = record {
  table = now_fresh k (known_of s) log;
  end = refl;
  cells = refl;
  bare = less_back (length s.cells) s.records lags;
  generation = refl;
}

fits_first : (k : VolumeKnown) (r : ReplicaKnown) (s : Stored) → k.log ≡ [] → s.records ≤ length s.cells → found_of r ≡ found_as s → Fits k r s
fits_first k r s log lags is = record {
  table = sym (ap (λ f. f.table) is) ∙ now_fresh k r log;
  end = ap (λ f. f.end) is;
  cells = ap (λ f. f.cells) is;
  bare = ap (λ n. n + s.records) (ap (λ f. f.bare) is) ∙ less_back (length s.cells) s.records lags;
  generation = ap (λ f. f.generation) is;
}

-- WHAT THE NOTES TELL

total_some : (n : ℕ) → 0 < needle_total n
total_some n = omega arith

end_is : (k : VolumeKnown) (old : ReplicaKnown) (entries : List Entry) (found : Stored) → old.poised ≡ false → ReopenedReplica k old entries (known_of found) → found.end ≡ old.end + added_end entries
end_is k old entries found settled r = elim (r.stands) [
  | inl s ↦ s.end
  | inr w ↦ absurd (true≢false (sym w.poised ∙ settled))
]

live_is : {P : Type 0} (Tells : Type 0) (pair : Pair) (p : Place P) (o : Outcome) → IsSeen p → PlaceMeans Tells pair p o → may_be_live (sight p) ≡ has_photo o
live_is Tells pair (place.Live needle) (outcome.Photo photo) seen is = refl
live_is Tells pair (place.Live needle) outcome.Nothing seen is = absurd is
live_is Tells pair place.None (outcome.Photo photo) seen is = absurd is
live_is Tells pair place.None outcome.Nothing seen is = refl
live_is Tells pair place.Gone (outcome.Photo photo) seen is = absurd is
live_is Tells pair place.Gone outcome.Nothing seen is = refl
live_is Tells pair (place.Unseen at size) (outcome.Photo photo) seen is = absurd seen
live_is Tells pair (place.Unseen at size) outcome.Nothing seen is = absurd seen

module _ {P : Type 0} (Tells : Type 0) (k : VolumeKnown) (at j : ℕ) (found : Stored) (settled : (replica_at k j).poised ≡ false) (known : j < length k.replicas)
    (rows : MapRows P) (end : ℕ) (ends : end ≡ found.end) (places : (pair : Pair) → PhotoAt Tells (last_cell found.cells pair) (place_in (row_at rows pair) j)) where
  put_keeps : (before : ℕ) (pair : Pair) (cookie : Cookie) (bytes : List ℕ) (b : Bool) (pending : Pending) → pending.entry ≡ Put pair cookie bytes → before ≡ (replica_at k j).end
      → ReopenedReplica k (replica_at k j) (kept_entry (Some pending) b) (known_of found) → nat_lt before end ≡ b
  put_keeps before pair cookie bytes true pending is was r =
      let some = total_some (length bytes) in
      let grown : found.end ≡ (replica_at k j).end + needle_total (length bytes) =
      end_is k (replica_at k j) (Put pair cookie bytes ∷ []) found settled (subst (λ (e : Entry). ReopenedReplica k (replica_at k j) (e ∷ []) (known_of found)) is r) in
      lt-ltb before end (omega (arith, some, grown, was, ends))
  put_keeps before pair cookie bytes false pending is was r =
      let stays : found.end ≡ (replica_at k j).end + 0 = end_is k (replica_at k j) [] found settled r in
      le-ltb before end (omega (arith, stays, was, ends))

  live_by : (pair : Pair) → IsSeen (place_in (row_at rows pair) j) → may_be_live (sights_of rows pair j) ≡ has_photo (outcome_at (table_of (needles_of found.cells)) pair)
  live_by pair seen =
      live_is Tells pair (place_in (row_at rows pair) j) (outcome_at (table_of (needles_of found.cells)) pair) seen
      (place_means Tells found.cells pair (place_in (row_at rows pair) j) seen (places pair))

  delete_keeps : (pair : Pair) (b : Bool) (pending : Pending) → IsSeen (place_in (row_at rows pair) j) → pending.entry ≡ Del pair → KeptRule k (Del pair) at j b
      → ReopenedReplica k (replica_at k j) (kept_entry (Some pending) b) (known_of found) → not (may_be_live (sights_of rows pair j)) ≡ b
  delete_keeps pair true pending seen is rule r =
      let made : table_of (needles_of found.cells) ≡ without_pair (now k (replica_at k j)) pair =
      (subst (λ (e : Entry). ReopenedReplica k (replica_at k j) (e ∷ []) (known_of found)) is r).base in
      let nothing : outcome_at (table_of (needles_of found.cells)) pair ≡ outcome.Nothing =
      ap (λ (t : Table). outcome_at t pair) made ∙ at-without_pair (now k (replica_at k j)) pair pair
      ∙ cond-true (pair_eq pair pair) outcome.Nothing (outcome_at (now k (replica_at k j)) pair) (pair_refl pair) in
      ap not (live_by pair seen ∙ ap has_photo nothing)
  delete_keeps pair false pending seen is rule r =
      let stays : table_of (needles_of found.cells) ≡ now k (replica_at k j) = r.base in
      elim (cases_Bool (not (has_photo (outcome_at (now k (replica_at k j)) pair)))) [
        | inl t ↦ absurd (true≢false (sym (rule.nothing t)))
        | inr f ↦ ap not (live_by pair seen ∙ ap (λ (t : Table). has_photo (outcome_at t pair)) stays) ∙ f
      ]

  keeps_by : (asked : Change) (entry : Entry) (b : Bool) (pending : Pending) → SeesChange asked rows j → pending.entry ≡ entry → IsChange asked k entry → KeptRule k entry at j b
      → ReopenedReplica k (replica_at k j) (kept_entry (Some pending) b) (known_of found) → keeps asked (sights_of rows) j end ≡ b
  keeps_by (change.Put ends) (Put pair cookie bytes) b pending seen is asked rule r = put_keeps (slice_index ends j) pair cookie bytes b pending is (asked j known) r
  keeps_by (change.Put ends) (Del pair) b pending seen is asked rule r = absurd asked
  keeps_by (change.Delete other) (Put pair cookie bytes) b pending seen is asked rule r = absurd asked
  keeps_by (change.Delete other) (Del pair) b pending seen is asked rule r =
      ap (λ (q : Pair). not (may_be_live (sights_of rows q j))) asked ∙ delete_keeps pair b pending (subst (λ (q : Pair). IsSeen (place_in (row_at rows q) j)) asked seen) is rule r

-- a replica is settled where a change is pending
settled_by : {D : Type 0} (files : D → Files) (r : Copy D) (stuck poised : Bool) (s : Stored) (p : Option Pending) (at j : ℕ) (pending : Pending) → p ≡ Some pending
    → HoldsPending files r stuck poised s p at j → poised ≡ false
settled_by files r stuck poised s None at j pending e h = absurd cc
settled_by files r stuck poised s (Some other) at j pending e h = h.0

-- what a disk holds where a change is pending
some_part : {D : Type 0} (files : D → Files) (r : Copy D) (stuck : Bool) (entry : Entry) (s : Stored) (part : Part) → HoldsPart files r stuck entry s part
    → (a : Stored) × (t : Stored) × physical.Holds files r stuck a t
some_part files r stuck entry s Kept h = (h.0, h.0, h.2)
some_part files r stuck entry s Perhaps h = (s, h.0, h.2)
some_part files r stuck entry s Lost h = (s, s, h)

some_swap : {D : Type 0} (files : D → Files) (r : Copy D) (stuck : Bool) (s : Stored) (poised : Bool) → HoldsSwap files r stuck s poised
    → (a : Stored) × (t : Stored) × physical.Holds files r stuck a t
some_swap files r stuck s false h = (s, s, h)
some_swap files r stuck s true h = (s, h.0, h.2)

some_pending : {D : Type 0} (files : D → Files) (r : Copy D) (stuck poised : Bool) (s : Stored) (p : Option Pending) (at j : ℕ) → HoldsPending files r stuck poised s p at j
    → (a : Stored) × (t : Stored) × physical.Holds files r stuck a t
some_pending files r stuck poised s None at j h = some_swap files r stuck s poised h
some_pending files r stuck poised s (Some pending) at j h = some_part files r stuck pending.entry s (part_of at j) h.1

-- what was found of a replica that is open now
pub record FoundIn {D P : Type 0} (files : D → Files) (Tells : Type 0) (rows : MapRows P) (j : ℕ) (r : Copy D) (found : Stored) : Type 0 where
  pub stands : physical.Stands files r found
  pub places : (pair : Pair) → PhotoAt Tells (last_cell found.cells pair) (place_in (row_at rows pair) j)

pub record ChosenIn {D P : Type 0} (files : D → Files) (Tells : Type 0) (news : List (Copy D)) (rows : MapRows P) (k : VolumeKnown) (at j : ℕ) (c : Choice) : Type 0 where
  pub outcome : ReplicaOutcome k at j c
  pub settled : (pending : Pending) → k.pending ≡ Some pending → (replica_at k j).poised ≡ false
  pub replica : Copy D
  pub there : At news j replica
  pub found : FoundIn files Tells rows j replica c.found
  pub loose : is_stuck replica ≡ false
  pub alone : goal_of replica ≡ None

module _ {D P : Type 0} (DiskTells : Type 0) (files : D → Files) (Tells : Type 0) (settings : Settings) (number : ℕ) (olds news : List (Copy D)) (rows : MapRows P) (count : length news ≡ length olds)
    (each : (j : ℕ) (r r' : Copy D) → At olds j r → At news j r' → OpensAt DiskTells files Tells rows j r r') where
  stands_opened : (k : VolumeKnown) → length news ≡ settings.replicas → length k.replicas ≡ settings.replicas → k.log ≡ [] → k.frozen ≡ None → k.pending ≡ None
      → ((j : ℕ) (r : Copy D) → At news j r → ReplicaStands files Tells (volume_with settings number news rows 0 None None) k j r)
      → StandsFor files Tells (volume_with settings number news rows 0 None None) k
  stands_opened k all many log frozen pending replicas = record {
    all = all;
    many = many;
    front = ap length (sym log);
    frozen = frozen;
    unsure = nothing_unsure k.pending pending;
    by = record { pending = pending; each = replicas };
  }
    where
      nothing_unsure : (p : Option Pending) → p ≡ None → IsPending None k p
      nothing_unsure None e = tt
      nothing_unsure (Some pending) e = absurd cc

  old_at : (j : ℕ) (r' : Copy D) → At news j r' → (r : Copy D) × At olds j r
  old_at j r' f = let h = at_below news j r' f in at_there olds j (let less : j < length olds = omega (arith, h, count) in less)

  -- of disks that were not opened before
  pub first_stands : DiskTells → (before : MapRows P) (front : ℕ) (frozen : Option ℕ) (unsure : Option Unsure) (k : VolumeKnown) → length olds ≡ settings.replicas
      → ((j : ℕ) (r : Copy D) → At olds j r → r.sup ≡ super_of settings number j) → IsFirst files (volume_with settings number olds before front frozen unsure) k
      → StandsFor files Tells (volume_with settings number news rows 0 None None) k
  unfolding IsReplica
  first_stands tells before front frozen unsure k all sups first =
      stands_opened k (count ∙ all) (first.new).count (first.new).log (first.new).frozen (first.new).pending (λ j r' f.
      let old = old_at j r' f in
      let found = first.found j old.0 old.1 in
      let o = each j old.0 r' old.1 f in
      let stood = o.opened tells found.stored (subst (λ (sup : Super). OpensAs sup (contents_of files (old.0).disk) found.stored) (sym (sups j old.0 old.1)) found.opens) in
      let low = at_below olds j old.0 old.1 in
      let known = at_there k.replicas j (let m = (first.new).count in let less : j < length k.replicas = omega (arith, low, m, all) in less) in
      let rest : IsUntouched (replica_at k j) = subst IsUntouched (sym (at_or k.replicas j known.0 empty_replica known.1)) (every_at IsUntouched k.replicas j known.0 (first.new).replicas known.1) in
      record {
        stored = found.stored;
        fits = fits_first k (replica_at k j) found.stored (first.new).log (stands_lags files r' found.stored stood.0) found.is;
        stands = stood.0;
        stuck = rest.0 ∙ sym o.loose;
        run = no_run files r' found.stored (replica_at k j).run rest.1 o.alone;
        settled = rest.2;
        places = stood.1;
      })

  -- behind a stop
  module _ (tells : DiskTells) (of : IsOfSettings settings number) (before : MapRows P) (front : ℕ) (frozen : Option ℕ) (unsure : Option Unsure) (k : VolumeKnown)
      (holds : HoldsFor files (volume_with settings number olds before front frozen unsure) k) (pends : IsPending unsure k k.pending)
      (seen : (j : ℕ) (r : Copy D) → At olds j r → (stuck : Bool) (s t : Stored) → physical.Holds files r stuck s t → SeesUnsure unsure rows j) where
    chosen_at : (j : ℕ) → j < settings.replicas → (c : Choice) × ChosenIn files Tells news rows k holds.broken_at j c
    chosen_at j low =
        let old = at_there olds j (let a = holds.all in let less : j < length olds = omega (arith, low, a) in less) in
        let new = at_there news j (let a = holds.all in let less : j < length news = omega (arith, low, a, count) in less) in
        let o = each j old.0 new.0 old.1 new.1 in
        let h = holds.each j old.0 old.1 in
        let found = replica_outcome files old.0 (λ (s : Stored). FoundIn files Tells rows j new.0 s)
        (λ b a t is. let f = o.reopened tells b a t is in (f.0, f.1, record { stands = f.2; places = f.3 }))
        (λ s is. stands_cells_end files new.0 s is.stands)
        k holds.broken_at j h in (
          found.0,
          record {
            outcome = found.1;
            settled = λ pending e. settled_by files old.0 (replica_at k j).stuck (replica_at k j).poised h.stored k.pending holds.broken_at j pending e h.holds;
            replica = new.0;
            there = new.1;
            found = found.2;
            loose = o.loose;
            alone = o.alone;
          },
        )

    seen_at : (j : ℕ) → j < length news → SeesUnsure unsure rows j
    seen_at j low =
        let old = at_there olds j (let less : j < length olds = omega (arith, low, count) in less) in
        let h = holds.each j old.0 old.1 in
        let some = some_pending files old.0 (replica_at k j).stuck (replica_at k j).poised h.stored k.pending holds.broken_at j h.holds in
        seen j old.0 old.1 (replica_at k j).stuck some.0 some.1 some.2

    pub reopened : (notes : List Note) → NotesTell settings number unsure (sights_of rows) (map replica_seen news) notes
        → IsReopened files Tells k notes (volume_with settings number news rows 0 None None)
    unfolding Stands
    reopened notes are =
        let both = choose (ChosenIn files Tells news rows k holds.broken_at) settings.replicas chosen_at in
        let chosen : Chosen (ReplicaOutcome k holds.broken_at) settings.replicas = record { items = both.items; count = both.count; each = λ j c e. (both.each j c e).outcome } in
        record {
          kept = kept_list k.pending both.items;
          opened = opened_as both.items;
          reopened = reopened_volume settings number of k holds.broken_at holds.many holds.broken chosen;
          stands = stands_opened (opened_as both.items) (count ∙ holds.all) (length-map both.items (λ (x : Choice). known_of x.found) ∙ both.count) refl refl refl (λ j r' f. opened_at both j r' f);
          told = told_by both notes unsure k.pending seen_at pends refl are;
        }
      where
        choice_at : (both : Chosen (ChosenIn files Tells news rows k holds.broken_at) settings.replicas) (j : ℕ) → j < length news → (c : Choice) × At both.items j c
        choice_at both j h = at_there both.items j (let n = both.count in let a = holds.all in let less : j < length both.items = omega (arith, h, n, a, count) in less)

        opened_at : (both : Chosen (ChosenIn files Tells news rows k holds.broken_at) settings.replicas) (j : ℕ) (r : Copy D) → At news j r
            → ReplicaStands files Tells (volume_with settings number news rows 0 None None) (opened_as both.items) j r
        opened_at both j r f =
            let c = choice_at both j (at_below news j r f) in
            let is = both.each j c.0 c.1 in
            let same : r ≡ is.replica = at_same news j r is.replica f is.there in
            let new_is : replica_at (opened_as both.items) j ≡ known_of (c.0).found =
            at_or (map (λ (x : Choice). known_of x.found) both.items) j (known_of (c.0).found) empty_replica (at_map (λ (x : Choice). known_of x.found) both.items j c.0 c.1) in
            record {
              stored = (c.0).found;
              fits = subst (λ (x : ReplicaKnown). Fits (opened_as both.items) x (c.0).found) (sym new_is)
                  (fits_known (opened_as both.items) (c.0).found refl (stands_lags files is.replica (c.0).found (is.found).stands));
              stands = subst (λ (x : Copy D). physical.Stands files x (c.0).found) (sym same) (is.found).stands;
              stuck = ap (λ (x : ReplicaKnown). x.stuck) new_is ∙ sym is.loose ∙ ap (λ (x : Copy D). is_stuck x) (sym same);
              run = no_run files r (c.0).found (replica_at (opened_as both.items) j).run (ap (λ (x : ReplicaKnown). x.run) new_is) (ap (λ (x : Copy D). goal_of x) same ∙ is.alone);
              settled = ap (λ (x : ReplicaKnown). x.poised) new_is;
              places = (is.found).places;
            }

        told_by : (both : Chosen (ChosenIn files Tells news rows k holds.broken_at) settings.replicas) (notes : List Note) (u : Option Unsure) (p : Option Pending)
            → ((j : ℕ) → j < length news → SeesUnsure u rows j) → IsPending u k p → k.pending ≡ p
            → NotesTell settings number u (sights_of rows) (map replica_seen news) notes → notes ≡ pending_notes settings number p (kept_list p both.items)
        told_by both notes None None see is e are = are
        told_by both notes None (Some pending) see is e are = absurd is
        told_by both notes (Some u) None see is e are = absurd is
        told_by both notes (Some u) (Some pending) see is e are =
            are.2 ∙ ap (λ tag. replica_notes settings number tag.line 0 are.0) is.0
            ∙ ap (λ (l : List Bool). replica_notes settings number (pending.tag).line 0 l)
            (lists_same are.0 (map (λ (x : Choice). x.kept) both.items)
            ((are.1).count ∙ length-map news replica_seen ∙ count ∙ holds.all ∙ sym both.count ∙ sym (length-map both.items (λ (x : Choice). x.kept))) (λ j h.
            let low : j < length news = (let l = length-map both.items (λ (x : Choice). x.kept) in let n = both.count in let a = holds.all in omega (arith, h, l, n, a, count)) in
            let c = choice_at both j low in
            let b = both.each j c.0 c.1 in
            let known : j < length k.replicas = (let m = holds.many in let a = holds.all in omega (arith, low, m, a, count)) in
            let outcome : ReopenedReplica k (replica_at k j) (kept_entry (Some pending) (c.0).kept) (known_of (c.0).found) =
            subst (λ (q : Option Pending). ReopenedReplica k (replica_at k j) (kept_entry q (c.0).kept) (known_of (c.0).found)) e (b.outcome).reopened in
            let rule : KeptRule k pending.entry at_of j (c.0).kept = subst (λ (q : Option Pending). RuleBy k q at_of j (c.0).kept) e (b.outcome).rule in
            (are.1).each j (replica_seen b.replica) (at_map replica_seen news j b.replica b.there)
            ∙ ap Some (keeps_by Tells k at_of j (c.0).found (b.settled pending e) known rows (end_of b.replica) (stands_end files b.replica (c.0).found (b.found).stands) (b.found).places
            u.change pending.entry (c.0).kept pending (see j low) refl is.1 rule outcome)
            ∙ sym (at_map (λ (x : Choice). x.kept) both.items j c.0 c.1)))
          where
            at_of : ℕ
            at_of = holds.broken_at

-- WHAT A REFUSAL SAYS

-- a disk that holds what is known is not damaged
pub not_damaged : {D P : Type 0} (DiskTells : Type 0) (files : D → Files) (faults : D → ℕ) (settings : Settings) (number : ℕ) (olds news : List (Copy D)) (before : MapRows P) (front : ℕ)
    (frozen : Option ℕ) (unsure : Option Unsure) (k : VolumeKnown) (j file at : ℕ) → DiskTells → HoldsFor files (volume_with settings number olds before front frozen unsure) k
    → IsRefusedAt DiskTells files faults olds news (record { replica = j; fault = open_fault.Damaged file at }) → ⊥
not_damaged DiskTells files faults settings number olds news before front frozen unsure k j file at tells holds refused =
    let h = holds.each j refused.before refused.was in
    let some = some_pending files refused.before (replica_at k j).stuck (replica_at k j).poised h.stored k.pending holds.broken_at j h.holds in
    (refused.cause).2 tells (replica_at k j).stuck some.0 some.1 some.2

-- OTHER FACTS OF VOLUMES

pub no_item : {X : Type 0} (j : ℕ) (x : X) → At [] j x → ⊥
no_item j x e = let h = at_below [] j x e in omega (arith, h)

pub same_super : {D : Type 0} (r : Copy D) (settings : Settings) (v n m : ℕ) → r.sup ≡ super_of settings v n → n ≡ m → r.sup ≡ super_of settings v m
same_super r settings v n m e f = e ∙ ap (super_of settings v) f

pub err_same : {X Y : Type 0} (result : Result X Y) (x y : Y) → result ≡ Err x → result ≡ Err y → x ≡ y
err_same result x y e f = let both : Err x ≡ Err y = sym e ∙ f in cc

-- the notes, where no change was broken off
pub no_notes : (settings : Settings) (v : ℕ) (unsure : Option Unsure) (sights : Sights) (replicas : List ReplicaSeen) (notes : List Note) → unsure ≡ None
    → NotesTell settings v unsure sights replicas notes → notes ≡ []
no_notes settings v unsure sights replicas notes e tell = subst (λ (u : Option Unsure). NotesTell settings v u sights replicas notes) e tell

pub no_damage : {X : Type 0} (result : Result X Unopened) (replica file at : ℕ) → result ≡ Err (record { replica = 0; fault = open_fault.NoMemory })
    → result ≡ Err (record { replica = replica; fault = open_fault.Damaged file at }) → ⊥
no_damage result replica file at e f =
    let same = err_same result (record { replica = 0; fault = open_fault.NoMemory }) (record { replica = replica; fault = open_fault.Damaged file at }) e f in
    let wrong : open_fault.NoMemory ≡ open_fault.Damaged file at = ap (λ (u : Unopened). u.fault) same in
    cc

-- the notes, of equal lists of replicas
pub notes_on : {D : Type 0} (settings : Settings) (v : ℕ) (unsure : Option Unsure) (sights : Sights) (a b : List (Copy D)) (notes : List Note) → a ≡ b
    → NotesTell settings v unsure sights (map replica_seen a) notes → NotesTell settings v unsure sights (map replica_seen b) notes
notes_on {D} settings v unsure sights a b notes e tell = subst (λ (rs : List (Copy D)). NotesTell settings v unsure sights (map replica_seen rs) notes) e tell

pub reopened_on : {D P : Type 0} (files : D → Files) (Tells : Type 0) (k : VolumeKnown) (settings : Settings) (v : ℕ) (rows : MapRows P) (a b : List (Copy D)) (notes : List Note) → b ≡ a
    → IsReopened files Tells k notes (volume_with settings v a rows 0 None None) → IsReopened files Tells k notes (volume_with settings v b rows 0 None None)
reopened_on files Tells k settings v rows a b notes e is = subst (λ replicas. IsReopened files Tells k notes (volume_with settings v replicas rows 0 None None)) (sym e) is
