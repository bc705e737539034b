-- The outcomes of each volume and of the directory are an outcome of the whole.
use Rattle.std.specs.Prelude.{◌≡◌, ℕ, suc, zero, ◌+◌, ◌<◌, ◌++◌, Bool, List, [], ◌∷◌, length, map, slice_index_or, refl}
use Rattle.std.proofs.Common.{arith, sym, subst}
use Rattle.hay_needle.specs.declared.settings.Settings.{Settings}
use Rattle.hay_legal.specs.declared.known.HomeRow.{HomeRow}
use Rattle.hay_legal.specs.declared.known.VolumeKnown.{VolumeKnown}
use Rattle.hay_legal.specs.declared.known.Known.{Known}
use Rattle.hay_legal.specs.Known.{volume_at, replica_at, slot_of, empty_volume}
use Rattle.hay_legal.specs.Restarts.{ReopenedVolumes, directory_with, kept_row, undrained}
use Rattle.hay_legal.specs.Stands.{Contents, Found, HasOutcome, VolumeOutcome, found_of}
use Rattle.hay_legal.proofs.Steps.{none_falls}

module _ (replica : ℕ → ℕ → Contents → Found → Type 0) (settings : Settings) (image : ℕ → Contents) where
  -- the disks of a volume's replicas
  abbrev pub images_of : ℕ → ℕ → Contents
  images_of v j = image (slot_of settings v j)

  -- each of the volumes, of which the first has number v, has an outcome over its slots
  abbrev pub EachOutcome : ℕ → List VolumeKnown → Type 0
  EachOutcome v volumes =
      (i : ℕ) → i < length volumes → VolumeOutcome replica settings (v + i) (slice_index_or volumes i empty_volume) (images_of (v + i))

  -- the outcomes of volumes, joined
  record VolumesFound (v : ℕ) (volumes : List VolumeKnown) : Type 0 where
    kept : List (List Bool)
    opened : List VolumeKnown
    reopened : ReopenedVolumes settings v volumes kept opened
    found : (i : ℕ) → i < length volumes → (j : ℕ) → j < settings.replicas
        → replica (v + i) j (images_of (v + i) j) (found_of (replica_at (slice_index_or opened i empty_volume) j))

  FoundAt : ℕ → VolumeKnown → ℕ → Type 0
  FoundAt v volume i = (j : ℕ) → j < settings.replicas → replica i j (images_of i j) (found_of (replica_at volume j))

  found_each : (v : ℕ) (old : VolumeKnown) (olds : List VolumeKnown) (first : VolumeOutcome replica settings v old (images_of v)) (rest : VolumesFound (v + 1) olds)
      → (i : ℕ) → i < length (old ∷ olds) → (j : ℕ) → j < settings.replicas
      → replica (v + i) j (images_of (v + i) j) (found_of (replica_at (slice_index_or (first.opened ∷ rest.opened) i empty_volume) j))
  found_each v old olds first rest zero below j within =
      let plus : v ≡ v + 0 = omega arith in
      subst (λ (u : ℕ). replica u j (images_of u j) (found_of (replica_at first.opened j))) plus (first.found j within)
  found_each v old olds first rest (suc i) below j within =
      let plus : v + 1 + i ≡ v + suc i = omega arith in
      let less : i < length olds = omega (arith, below) in
      subst (λ (u : ℕ). replica u j (images_of u j) (found_of (replica_at (slice_index_or rest.opened i empty_volume) j))) plus (rest.found i less j within)

  volumes_found : (v : ℕ) (volumes : List VolumeKnown) → EachOutcome v volumes → VolumesFound v volumes
  volumes_found v [] each = record { kept = []; opened = []; reopened = tt; found = λ i below. absurd (omega (arith, below)) }
  volumes_found v (old ∷ olds) each =
      let plus : v + 0 ≡ v = omega arith in
      let some : 0 < length (old ∷ olds) = omega arith in
      let first : VolumeOutcome replica settings v old (images_of v) =
      subst (λ (u : ℕ). VolumeOutcome replica settings u old (images_of u)) plus (each 0 some) in
      let rest = volumes_found (v + 1) olds (λ i below.
      let next : v + suc i ≡ v + 1 + i = omega arith in
      let less : suc i < length (old ∷ olds) = omega (arith, below) in
      subst (λ (u : ℕ). VolumeOutcome replica settings u (slice_index_or olds i empty_volume) (images_of u)) next (each (suc i) less)) in
      record {
        kept = first.kept ∷ rest.kept;
        opened = first.opened ∷ rest.opened;
        reopened = (first.reopened, rest.reopened);
        found = found_each v old olds first rest;
      }

  -- The outcomes of the volumes, and the rows with or without the pending one, make an outcome of the whole.
  pub joined : (rows : Contents → List HomeRow → Type 0) (k : Known) (row : Bool) → length k.volumes ≡ settings.volumes
      → ((v : ℕ) → v < settings.volumes → VolumeOutcome replica settings v (volume_at k v) (images_of v))
      → rows (image 0) (k.directory.rows ++ kept_row k.directory.pending row)
      → HasOutcome replica rows settings k image
  joined rows k row many each directory =
      let all : VolumesFound 0 k.volumes = volumes_found 0 k.volumes (λ i below.
      let plus : i ≡ 0 + i = omega arith in
      subst (λ (u : ℕ). VolumeOutcome replica settings u (slice_index_or k.volumes i empty_volume) (images_of u)) plus
      (each i (subst (λ (n : ℕ). i < n) many below))) in
      record {
        kept = all.kept;
        row = row;
        opened = record {
          volumes = all.opened;
          directory = directory_with (k.directory.rows ++ kept_row k.directory.pending row);
          drained = map undrained k.drained;
          faults = k.faults;
          arms = k.arms;
          fuses = k.fuses;
        };
        reopens = record {
          volumes = all.reopened;
          rows = refl;
          directory = refl;
          drained = refl;
          fuses = refl;
          faults = none_falls k.faults;
          arms = refl;
        };
        found = record {
          replicas = λ v j below within.
              let plus : 0 + v ≡ v = omega arith in
              subst (λ (u : ℕ). replica u j (images_of u j) (found_of (replica_at (slice_index_or all.opened v empty_volume) j))) plus
              (all.found v (subst (λ (n : ℕ). v < n) (sym many) below) j within);
          directory = directory;
        };
      }
