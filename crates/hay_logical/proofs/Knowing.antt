-- What is known of a volume behind each of its steps.
use Rattle.std.proofs.Common.{◌≡◌, ◌≢◌, ℕ, ◌+◌, ◌<◌, Bool, true, false, List, [], ◌∷◌, ◌++◌, length, map, fold, refl, sym, ap, subst, ◌∙◌, arith}
use Rattle.std.specs.Prelude.{slice_index_or}
use Rattle.std.proofs.lemmas.List.{length-map, map-append, take_all, get_or-map, get_or-set_same, get_or-set_other}
use Rattle.std.proofs.lemmas.List.Sums.{fold-append}
use Rattle.hay_needle.specs.declared.needle.Cookie.{Cookie}
use Rattle.hay_needle.specs.declared.needle.Pair.{Pair}
use Rattle.hay_needle.specs.Tables.{Table}
use Rattle.hay_core.specs.declared.entry.CoreTag.{CoreTag}
use Rattle.hay_core.specs.declared.entry.Entry.{Entry}
use Rattle.hay_core.specs.declared.entry.Entry.TheVariants.{Put, Del}
use Rattle.hay_core.specs.declared.entry.Logged.{Logged}
use Rattle.hay_core.specs.Entries.{after, apply_entry, entries_of}
use Rattle.hay_legal.specs.declared.known.ReplicaKnown.{ReplicaKnown}
use Rattle.hay_legal.specs.declared.known.VolumeKnown.{VolumeKnown}
use Rattle.hay_legal.specs.Known.{empty_replica, now, replica_at}
use Rattle.hay_legal.specs.Plain.{frozen_with, grown, with_bare, with_del, with_put, with_stuck, without_run}
use Rattle.hay_legal.specs.Restarts.{added_cells, added_end}
use Rattle.hay_open.specs.Stored.{Stored}
use Rattle.hay_physical.specs.Replicas.{all_recorded}
use Rattle.hay_logical.specs.Answers.{change_at}
use Rattle.hay_logical.specs.Fits.{At, Fits, Makes}
use Rattle.hay_logical.proofs.Compacting.{ended_at, ended_by}

whole_log : (log : List Logged) (base : Table) → after (entries_of log) (length log) base ≡ fold apply_entry base (entries_of log)
whole_log log base = ap (λ (l : List Entry). fold apply_entry base l) (take_all (length log) (entries_of log) (omega (arith, length-map log (λ (l : Logged). l.entry))))

pub logged_table : (log : List Logged) (entry : Logged) (base : Table) → after (entries_of (log ++ entry ∷ [])) (length (log ++ entry ∷ [])) base
    ≡ apply_entry (after (entries_of log) (length log) base) entry.entry
logged_table log entry base =
    whole_log (log ++ entry ∷ []) base ∙ ap (λ (l : List Entry). fold apply_entry base l) (map-append (λ (l : Logged). l.entry) log (entry ∷ []))
    ∙ fold-append apply_entry base (entries_of log) (entry.entry ∷ []) ∙ ap (λ (t : Table). apply_entry t entry.entry) (sym (whole_log log base))

-- a replica with an entry more
pub record Grows (entry : Entry) (r r' : ReplicaKnown) : Type 0 where
  pub base : r'.base ≡ r.base
  pub end : r'.end ≡ r.end + added_end (entry ∷ [])
  pub cells : r'.cells ≡ r.cells + added_cells (entry ∷ [])
  pub bare : r'.bare ≡ r.bare + added_cells (entry ∷ [])
  pub generation : r'.generation ≡ r.generation

pub grown_grows : (pair : Pair) (cookie : Cookie) (bytes : List ℕ) (r : ReplicaKnown) → Grows (Put pair cookie bytes) r (grown (length bytes) r)
grown_grows pair cookie bytes r = record {
  base = refl;
  end = refl;
  cells = refl;
  bare = refl;
  generation = refl;
}

pub same_grows : (pair : Pair) (r : ReplicaKnown) → Grows (Del pair) r r
same_grows pair r = record {
  base = refl;
  end = let e : r.end ≡ r.end + 0 = omega arith in e;
  cells = let e : r.cells ≡ r.cells + 0 = omega arith in e;
  bare = let e : r.bare ≡ r.bare + 0 = omega arith in e;
  generation = refl;
}

pub fits_logged : (k t : VolumeKnown) (tag : CoreTag) (entry : Entry) (r r' : ReplicaKnown) (s s' : Stored) → t.log ≡ k.log ++ record { tag = tag; entry = entry } ∷ []
    → Grows entry r r' → Makes entry s s' → Fits k r s → Fits t r' s'
fits_logged k t tag entry r r' s s' log grows makes fits = record {
  table = makes.table ∙ ap (λ (x : Table). apply_entry x entry) fits.table
      ∙ sym (logged_table k.log (record { tag = tag; entry = entry }) r.base)
      ∙ ap (λ (l : List Logged). after (entries_of l) (length l) r.base) (sym log)
      ∙ ap (λ (b : Table). after (entries_of t.log) (length t.log) b) (sym grows.base);
  end = grows.end ∙ ap (λ n. n + added_end (entry ∷ [])) fits.end ∙ sym makes.end;
  cells = grows.cells ∙ ap (λ n. n + added_cells (entry ∷ [])) fits.cells ∙ sym makes.cells;
  bare = let b = fits.bare in let m = makes.cells in let g = grows.bare in let r_is = makes.records in omega (arith, b, m, g, r_is);
  generation = grows.generation ∙ fits.generation ∙ sym makes.generation;
}

-- the same log and the same table
pub fits_same : (k t : VolumeKnown) (r r' : ReplicaKnown) (s : Stored) → t.log ≡ k.log → r'.base ≡ r.base → r'.end ≡ r.end → r'.cells ≡ r.cells → r'.bare ≡ r.bare
    → r'.generation ≡ r.generation → Fits k r s → Fits t r' s
fits_same k t r r' s log base end cells bare generation fits = record {
  table = fits.table ∙ ap (λ (l : List Logged). after (entries_of l) (length l) r.base) (sym log) ∙ ap (λ (b : Table). after (entries_of t.log) (length t.log) b) (sym base);
  end = end ∙ fits.end;
  cells = cells ∙ fits.cells;
  bare = ap (λ n. n + s.records) bare ∙ fits.bare;
  generation = generation ∙ fits.generation;
}

-- REPLICAS OF A CHANGED VOLUME

pub replica_mapped : (f : ReplicaKnown → ReplicaKnown) (replicas : List ReplicaKnown) (j : ℕ) → j < length replicas
    → slice_index_or (map f replicas) j empty_replica ≡ f (slice_index_or replicas j empty_replica)
replica_mapped f replicas j h = get_or-map f replicas j empty_replica empty_replica h

pub fits_put : (k : VolumeKnown) (tag : CoreTag) (pair : Pair) (cookie : Cookie) (bytes : List ℕ) (j : ℕ) (s s' : Stored) → j < length k.replicas
    → Makes (Put pair cookie bytes) s s' → Fits k (replica_at k j) s → Fits (with_put k tag pair cookie bytes) (replica_at (with_put k tag pair cookie bytes) j) s'
fits_put k tag pair cookie bytes j s s' h makes fits =
    subst (λ (r : ReplicaKnown). Fits (with_put k tag pair cookie bytes) r s') (sym (replica_mapped (grown (length bytes)) k.replicas j h))
    (fits_logged k (with_put k tag pair cookie bytes) tag (Put pair cookie bytes) (replica_at k j) (grown (length bytes) (replica_at k j)) s s' refl
    (grown_grows pair cookie bytes (replica_at k j)) makes fits)

pub put_replica : (k : VolumeKnown) (tag : CoreTag) (pair : Pair) (cookie : Cookie) (bytes : List ℕ) (j : ℕ) → j < length k.replicas
    → replica_at (with_put k tag pair cookie bytes) j ≡ grown (length bytes) (replica_at k j)
put_replica k tag pair cookie bytes j h = replica_mapped (grown (length bytes)) k.replicas j h

ended_grows : (pair : Pair) (b : Bool) (r : ReplicaKnown) → Grows (Del pair) r (ended_by b r)
ended_grows pair false r = same_grows pair r
ended_grows pair true r = let g = same_grows pair r in record { base = g.base; end = g.end; cells = g.cells; bare = g.bare; generation = g.generation }

pub deleted_replica : (k : VolumeKnown) (ended : List Bool) (tag : CoreTag) (pair : Pair) (j : ℕ) (b : Bool) → At ended j b → j < length k.replicas
    → replica_at (with_del ended tag pair k) j ≡ ended_by b (replica_at k j)
deleted_replica k ended tag pair j b e h = ended_at ended k.replicas j b e h

pub fits_delete : (k : VolumeKnown) (ended : List Bool) (tag : CoreTag) (pair : Pair) (j : ℕ) (b : Bool) (s s' : Stored) → At ended j b → j < length k.replicas
    → Makes (Del pair) s s' → Fits k (replica_at k j) s → Fits (with_del ended tag pair k) (replica_at (with_del ended tag pair k) j) s'
fits_delete k ended tag pair j b s s' e h makes fits =
    subst (λ (r : ReplicaKnown). Fits (with_del ended tag pair k) r s') (sym (deleted_replica k ended tag pair j b e h))
    (fits_logged k (with_del ended tag pair k) tag (Del pair) (replica_at k j) (ended_by b (replica_at k j)) s s' refl (ended_grows pair b (replica_at k j)) makes fits)

pub fits_frozen : (k : VolumeKnown) (m : ℕ) (tag : CoreTag) (entry : Entry) (failed : Bool) (j : ℕ) (s : Stored) → j < length k.replicas
    → Fits k (replica_at k j) s → Fits (frozen_with m tag entry failed k) (replica_at (frozen_with m tag entry failed k) j) s
fits_frozen k m tag entry failed j s h fits =
    subst (λ (r : ReplicaKnown). Fits (frozen_with m tag entry failed k) r s) (sym (replica_mapped without_run k.replicas j h))
    (fits_same k (frozen_with m tag entry failed k) (replica_at k j) (without_run (replica_at k j)) s refl refl refl refl refl refl fits)

pub frozen_base : (k : VolumeKnown) (m : ℕ) (tag : CoreTag) (entry : Entry) (failed : Bool) (j : ℕ) → j < length k.replicas
    → now (frozen_with m tag entry failed k) (replica_at (frozen_with m tag entry failed k) j) ≡ now k (replica_at k j)
frozen_base k m tag entry failed j h = ap (λ (r : ReplicaKnown). after (entries_of k.log) (length k.log) r.base) (replica_mapped without_run k.replicas j h)

pub put_stuck : (k : VolumeKnown) (tag : CoreTag) (pair : Pair) (cookie : Cookie) (bytes : List ℕ) (j : ℕ) → j < length k.replicas
    → (replica_at (with_put k tag pair cookie bytes) j).stuck ≡ (replica_at k j).stuck
put_stuck k tag pair cookie bytes j h = ap (λ (r : ReplicaKnown). r.stuck) (replica_mapped (grown (length bytes)) k.replicas j h)

pub frozen_stuck : (k : VolumeKnown) (m : ℕ) (tag : CoreTag) (entry : Entry) (failed : Bool) (j : ℕ) → j < length k.replicas
    → (replica_at (frozen_with m tag entry failed k) j).stuck ≡ (replica_at k j).stuck
frozen_stuck k m tag entry failed j h = ap (λ (r : ReplicaKnown). r.stuck) (replica_mapped without_run k.replicas j h)

pub frozen_replica : (k : VolumeKnown) (m : ℕ) (tag : CoreTag) (entry : Entry) (failed : Bool) (j : ℕ) → j < length k.replicas
    → replica_at (frozen_with m tag entry failed k) j ≡ without_run (replica_at k j)
frozen_replica k m tag entry failed j h = replica_mapped without_run k.replicas j h

pub frozen_end : (k : VolumeKnown) (m : ℕ) (tag : CoreTag) (entry : Entry) (failed : Bool) (j : ℕ) → j < length k.replicas
    → (replica_at (frozen_with m tag entry failed k) j).end ≡ (replica_at k j).end
frozen_end k m tag entry failed j h = ap (λ (r : ReplicaKnown). r.end) (replica_mapped without_run k.replicas j h)

pub changed_here : (k : VolumeKnown) (j : ℕ) (change : ReplicaKnown → ReplicaKnown) → j < length k.replicas → replica_at (change_at k j change) j ≡ change (replica_at k j)
changed_here k j change h = get_or-set_same k.replicas j (change (replica_at k j)) empty_replica h

pub changed_other : (k : VolumeKnown) (i j : ℕ) (change : ReplicaKnown → ReplicaKnown) → i ≢ j → replica_at (change_at k j change) i ≡ replica_at k i
changed_other k i j change h = get_or-set_other k.replicas j i (change (replica_at k j)) empty_replica h

pub fits_flushed : (k : VolumeKnown) (j : ℕ) (s : Stored) → j < length k.replicas → Fits k (replica_at k j) s
    → Fits (change_at k j (with_bare 0)) (replica_at (change_at k j (with_bare 0)) j) (all_recorded s)
fits_flushed k j s h fits =
    subst (λ (r : ReplicaKnown). Fits (change_at k j (with_bare 0)) r (all_recorded s)) (sym (changed_here k j (with_bare 0) h))
    (record {
      table = fits.table;
      end = fits.end;
      cells = fits.cells;
      bare = let e : 0 + length s.cells ≡ length s.cells = omega arith in e;
      generation = fits.generation;
    })

pub fits_stuck : (k : VolumeKnown) (j : ℕ) (s : Stored) → j < length k.replicas → Fits k (replica_at k j) s
    → Fits (change_at k j with_stuck) (replica_at (change_at k j with_stuck) j) s
fits_stuck k j s h fits =
    subst (λ (r : ReplicaKnown). Fits (change_at k j with_stuck) r s) (sym (changed_here k j with_stuck h))
    (fits_same k (change_at k j with_stuck) (replica_at k j) (with_stuck (replica_at k j)) s refl refl refl refl refl refl fits)

pub fits_other : (k : VolumeKnown) (i j : ℕ) (change : ReplicaKnown → ReplicaKnown) (s : Stored) → i ≢ j → Fits k (replica_at k i) s
    → Fits (change_at k j change) (replica_at (change_at k j change) i) s
fits_other k i j change s h fits =
    subst (λ (r : ReplicaKnown). Fits (change_at k j change) r s) (sym (changed_other k i j change h))
    (fits_same k (change_at k j change) (replica_at k i) (replica_at k i) s refl refl refl refl refl refl fits)
