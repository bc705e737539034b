-- What a volume stands for behind each of its calls.
use Rattle.std.proofs.Common.{◌≡◌, inl, inr, ℕ, Bool, cond, List, [], ◌∷◌, ◌++◌, Option, Some, None, refl, sym, ap, subst, ◌∙◌}
use Rattle.std.specs.Option.{option_or}
use Rattle.std.proofs.lemmas.Bool.{cases_Bool, cond-true, cond-false}
use Rattle.hay_needle.specs.declared.needle.Cell.{Cell}
use Rattle.hay_needle.specs.declared.needle.Cookie.{Cookie}
use Rattle.hay_needle.specs.declared.needle.Outcome.TheVariants as outcome
use Rattle.hay_needle.specs.declared.needle.Pair.{Pair}
use Rattle.hay_needle.specs.declared.settings.Settings.{Settings}
use Rattle.hay_needle.specs.Tables.{pair_eq}
use Rattle.hay_disk.specs.Disk.{Files}
use Rattle.hay_volume.specs.Cells.{live_cell}
use Rattle.hay_legal.specs.declared.known.Pending.{Pending}
use Rattle.hay_legal.specs.declared.known.VolumeKnown.{VolumeKnown}
use Rattle.hay_map.specs.MapRows.{MapRows}
use Rattle.hay_map.specs.Places.{PlaceMeans, place_in}
use Rattle.hay_map.specs.Rows.{changed_row, row_at}
use Rattle.hay_map.specs.declared.place.Place.{Place}
use Rattle.hay_map.specs.declared.place.Place.TheVariants as place
use Rattle.hay_map.specs.declared.view.MapOp.TheVariants as op
use Rattle.hay_open.specs.Stored.{Stored, last_cell}
use Rattle.hay_physical.specs.OpenCopies.{Copy}
use Rattle.hay_physical.specs.Replicas as physical
use Rattle.hay_logical.specs.declared.unsure.Unsure.{Unsure}
use Rattle.hay_logical.specs.Fits.{PhotoAt}
use Rattle.hay_logical.specs.Stands.{IsPending, StandsBy, StandsFor, TakesChanges}
use Rattle.hay_logical.specs.ReplicaCalls.{IsPlaceOf}
use Rattle.hay_logical.specs.Volumes.{Volume}
use Rattle.hay_logical.proofs.Tables.{last_more, seen_means}

abbrev pub volume_with : {D P : Type 0} → Settings → ℕ → List (Copy D) → MapRows P → ℕ → Option ℕ → Option Unsure → Volume D P
volume_with settings number replicas rows front frozen unsure =
    record { settings = settings; number = number; replicas = replicas; rows = rows; front = front; frozen = frozen; unsure = unsure }

-- nothing is pending where nothing is unsure
pub pending_unsure : (u : Option Unsure) (k : VolumeKnown) (p : Option Pending) → IsPending u k p → p ≡ None → u ≡ None
pending_unsure None k p is e = refl
pending_unsure (Some unsure) k None is e = absurd is
pending_unsure (Some unsure) k (Some pending) is e = absurd cc

pub none_pending : (u : Option Unsure) (k : VolumeKnown) (p : Option Pending) → u ≡ None → p ≡ None → IsPending u k p
none_pending None k None e f = tt
none_pending None k (Some pending) e f = absurd cc
none_pending (Some unsure) k p e f = absurd cc

place_put : {P : Type 0} (Tells : Type 0) (end : ℕ) (pair : Pair) (cookie : Cookie) (bytes : List ℕ) (p : Place P) → IsPlaceOf Tells end pair cookie bytes p
    → PhotoAt Tells (Some (live_cell end pair cookie bytes)) p
place_put Tells end pair cookie bytes (place.Live needle) is = is
place_put Tells end pair cookie bytes place.None is = absurd is
place_put Tells end pair cookie bytes place.Gone is = absurd is
place_put Tells end pair cookie bytes (place.Unseen at size) is = absurd is

-- what a place means behind a put
pub place_written : {P : Type 0} (Tells : Type 0) (end : ℕ) (pair : Pair) (cookie : Cookie) (bytes : List ℕ) (p : Place P) → IsPlaceOf Tells end pair cookie bytes p
    → PlaceMeans Tells pair p (outcome.Photo (record { cookie = cookie; bytes = bytes }))
place_written {P} Tells end pair cookie bytes (place.Live needle) is = seen_means {P = P} Tells pair (live_cell end pair cookie bytes) (place.Live needle) refl tt is
place_written Tells end pair cookie bytes place.None is = absurd is
place_written Tells end pair cookie bytes place.Gone is = absurd is
place_written Tells end pair cookie bytes (place.Unseen at size) is = absurd is

module _ {D P : Type 0} (DiskTells : Type 0) (files : D → Files) (Tells : Type 0) (settings : Settings) (number : ℕ) where
  pub takes : (replicas : List (Copy D)) (rows : MapRows P) (front : ℕ) (frozen : Option ℕ) (unsure : Option Unsure) (k : VolumeKnown)
      → StandsFor files Tells (volume_with settings number replicas rows front frozen unsure) k → frozen ≡ None
      → TakesChanges files Tells (volume_with settings number replicas rows front frozen unsure) k
  takes replicas rows front frozen unsure k stands e = subst (StandsBy files Tells (volume_with settings number replicas rows front frozen unsure) k) e stands.by

  -- the places behind a put
  pub put_places : (pair : Pair) (cookie : Cookie) (bytes : List ℕ) (row : List (Place P)) (rows : MapRows P) (j : ℕ) (s : Stored)
      → IsPlaceOf Tells s.end pair cookie bytes (place_in row j) → ((q : Pair) → PhotoAt Tells (last_cell s.cells q) (place_in (row_at rows q) j))
      → (q : Pair) → PhotoAt Tells (last_cell (physical.with_cell s pair cookie bytes).cells q) (place_in (changed_row (op.Put pair row) q (row_at rows q)) j)
  put_places pair cookie bytes row rows j s is places q =
      let c : Cell = live_cell s.end pair cookie bytes in
      elim (cases_Bool (pair_eq pair q)) [
        | inl t ↦
            let cell : last_cell (s.cells ++ c ∷ []) q ≡ Some c = last_more s.cells c q ∙ ap (λ (b : Bool). option_or (cond b (Some c) None) (last_cell s.cells q)) t in
            let there : changed_row (op.Put pair row) q (row_at rows q) ≡ row = cond-true (pair_eq pair q) row (row_at rows q) t in
            subst (λ (o : Option Cell). PhotoAt Tells o (place_in (changed_row (op.Put pair row) q (row_at rows q)) j)) (sym cell)
            (subst (λ (l : List (Place P)). PhotoAt Tells (Some c) (place_in l j)) (sym there) (place_put Tells s.end pair cookie bytes (place_in row j) is))
        | inr f ↦
            let cell : last_cell (s.cells ++ c ∷ []) q ≡ last_cell s.cells q = last_more s.cells c q ∙ ap (λ (b : Bool). option_or (cond b (Some c) None) (last_cell s.cells q)) f in
            let there : changed_row (op.Put pair row) q (row_at rows q) ≡ row_at rows q = cond-false (pair_eq pair q) row (row_at rows q) f in
            subst (λ (o : Option Cell). PhotoAt Tells o (place_in (changed_row (op.Put pair row) q (row_at rows q)) j)) (sym cell)
            (subst (λ (l : List (Place P)). PhotoAt Tells (last_cell s.cells q) (place_in l j)) (sym there) (places q))
      ]
