-- What is seen of a store in memory: laws of openings and restarts.
use Rattle.std.proofs.Common.{◌≡◌, ℕ, zero, suc, ◌+◌, ◌<◌, List, [], ◌∷◌, ◌++◌, map, Option, refl, ap, sym, subst, ◌∙◌, arith}
use Rattle.std.proofs.lemmas.List.{length-map}
use Rattle.std.specs.List.{AllByRecursion, AllZip}
use Rattle.hay_needle.specs.declared.settings.Settings.{Settings}
use Rattle.hay_disk.specs.Disk.{Files}
use Rattle.hay_mount.specs.Mounts.{InOrder}
use Rattle.hay_reply.specs.declared.Note.{Note}
use Rattle.hay_reply.specs.Fits.{FitsNote}
use Rattle.hay_directory.specs.declared.mode.Unsure.{Unsure as UnsureRow}
use Rattle.hay_directory.specs.Notes.{notes_by}
use Rattle.hay_directory.specs.Rows.{RowsWithin}
use Rattle.hay_directory.specs.Seen.{directory_seen}
use Rattle.hay_directory.specs.Seen as directory
use Rattle.hay_physical.specs.OpenCopies.{Copy, volume_bytes}
use Rattle.hay_logical.specs.declared.unsure.Unsure.{Unsure}
use Rattle.hay_logical.specs.Fits.{At}
use Rattle.hay_logical.specs.Notes.{NotesTell, ToldUnsure}
use Rattle.hay_logical.specs.Seen.{VolumeSeen, replica_seen, volume_seen}
use Rattle.hay_logical.specs.Volumes.{Volume}
use Rattle.hay_logical.specs.Sights.{Sights, sights_of}
use Rattle.hay_cluster.specs.Opening.{Gathers, OpensParts, OpensVolume, StopsVolume}
use Rattle.hay_cluster.specs.Seen.{OpensSeen, OpensVolumeSeen, TellsSeen, TellsVolumes, VolumeLies, places_of, store_seen}
use Rattle.hay_cluster.specs.Needles.{FileAt, PendingTold}
use Rattle.hay_cluster.specs.Store.{IsShaped, IsVolumeOf, Open, contents_in}
use Rattle.hay_cluster.proofs.Needling.{file_on}
use Rattle.hay_cluster.proofs.OpeningStore.{StoppedParts}
use Rattle.hay_cluster.proofs.Showing.{all_append}
use Rattle.hay_cluster.proofs.Sighting.{at_mapped, photos_at}

-- OPENINGS

module _ {D P : Type 0} (DiskTells : Type 0) (files : D → Files) (Tells : Type 0) (faults fuses : D → ℕ) where
  opened_each : (settings : Settings) (v : ℕ) (ys zs : List (Volume D P)) (notes : List Note) → InOrder (IsVolumeOf settings) v zs
      → Gathers (OpensVolume DiskTells files Tells faults fuses) ys zs notes
      → AllByRecursion (OpensVolumeSeen settings) (map volume_seen zs)
  opened_each settings v [] [] notes order opens = tt
  opened_each settings v [] (z ∷ zs) notes order opens = absurd opens
  opened_each settings v (y ∷ ys) [] notes order opens = absurd opens
  opened_each settings v (y ∷ ys) (z ∷ zs) notes order opens = (
    (opens.first.seen, length-map z.replicas replica_seen ∙ (order.0).all ∙ ap (λ (s : Settings). s.replicas) (order.0).settings_are),
    opened_each settings (v + 1) ys zs opens.behind order.1 opens.rest,
  )

  lie_each : (ys zs : List (Volume D P)) (notes : List Note) → Gathers (OpensVolume DiskTells files Tells faults fuses) ys zs notes
      → (v : ℕ) (z : Volume D P) → At zs v z → VolumeLies (sights_of z.rows) (volume_seen z)
  lie_each [] [] notes opens v z at = absurd cc
  lie_each [] (x ∷ zs) notes opens v z at = absurd opens
  lie_each (y ∷ ys) [] notes opens v z at = absurd opens
  lie_each (y ∷ ys) (x ∷ zs) notes opens zero z at =
      let same : x ≡ z = cc in
      subst (λ (w : Volume D P). VolumeLies (sights_of w.rows) (volume_seen w)) same
      (record { from = λ j r there. let low = (((opens.first).seen).fresh j r there).from in omega (arith, low); within = (opens.first).lie })
  lie_each (y ∷ ys) (x ∷ zs) notes opens (suc v) z at = lie_each ys zs opens.behind opens.rest v z at

module _ {D P A : Type 0} (DiskTells : Type 0) (files : D → Files) (Tells : Type 0) (faults fuses : D → ℕ) where
  -- what is seen behind an opening
  pub opens_seen : (settings : Settings) (old new : Open D P A) (notes : List Note) → old.settings ≡ settings → new.settings ≡ settings → IsShaped old → IsShaped new
      → OpensParts DiskTells files Tells faults fuses old.directory new.directory old.volumes new.volumes notes → OpensSeen settings (store_seen new)
  opens_seen settings old new notes was same shape shape' opens =
      let seen = (opens.directory).seen in
      record {
        many = length-map new.volumes volume_seen ∙ shape'.many ∙ ap (λ (s : Settings). s.volumes) same;
        volumes = subst (λ (s : Settings). AllByRecursion (OpensVolumeSeen s) (map volume_seen new.volumes)) same
            (opened_each DiskTells files Tells faults fuses new.settings 0 old.volumes new.volumes opens.of_volumes shape'.volumes opens.volumes);
        lie = λ v volume at.
            let there = at_mapped volume_seen new.volumes v volume at in
            let places : Sights = sights_of (there.0).rows in
            let lies : VolumeLies places (volume_seen there.0) = lie_each DiskTells files Tells faults fuses old.volumes new.volumes opens.of_volumes opens.volumes v there.0 there.1 in
            subst (λ (w : VolumeSeen). VolumeLies (places_of new.volumes v) w) (sym there.2)
            (subst (λ (found : Sights). VolumeLies found (volume_seen there.0)) (sym (photos_at new new refl v there.0 there.1)) lies);
        rows = seen.0;
        within = subst (λ (s : Settings). RowsWithin s.volumes seen.0) (shape'.directory ∙ same) seen.1;
        directory = subst (λ (s : Settings). directory.OpenSeen s.machines seen.0 (directory_seen new.directory)) (shape.directory ∙ was) seen.2;
      }

-- RESTARTS

module _ {D P : Type 0} (DiskTells : Type 0) (files : D → Files) (Tells : Type 0) (faults fuses : D → ℕ) (settings : Settings) (places : ℕ → Sights) where
  tells_each : (v : ℕ) (xs ys zs : List (Volume D P)) (notes : List Note) → InOrder (IsVolumeOf settings) v ys → AllZip (StopsVolume DiskTells files Tells faults fuses) xs ys
      → Gathers (OpensVolume DiskTells files Tells faults fuses) ys zs notes → ((j : ℕ) (z : Volume D P) → At zs j z → places (v + j) ≡ sights_of z.rows)
      → TellsVolumes settings v (map volume_seen xs) (map volume_seen zs) places notes
  tells_each v [] [] [] notes order stops opens are = opens
  tells_each v [] [] (z ∷ zs) notes order stops opens are = absurd opens
  tells_each v [] (y ∷ ys) zs notes order stops opens are = absurd stops
  tells_each v (x ∷ xs) [] zs notes order stops opens are = absurd stops
  tells_each v (x ∷ xs) (y ∷ ys) [] notes order stops opens are = absurd opens
  tells_each v (x ∷ xs) (y ∷ ys) (z ∷ zs) notes order stops opens are =
      let here : places v ≡ sights_of z.rows = let e : v ≡ v + 0 = omega arith in ap places e ∙ are 0 z refl in
      let of : NotesTell settings v x.unsure (places v) (volume_seen z).replicas opens.front =
      subst (λ (seen : Sights). NotesTell settings v x.unsure seen (volume_seen z).replicas opens.front) (sym here)
      (subst (λ (s : Settings). NotesTell s v x.unsure (sights_of z.rows) (volume_seen z).replicas opens.front) order.0.settings_are
      (subst (λ n. NotesTell y.settings n x.unsure (sights_of z.rows) (volume_seen z).replicas opens.front) order.0.number
      (subst (λ (u : Option Unsure). NotesTell y.settings y.number u (sights_of z.rows) (volume_seen z).replicas opens.front) stops.0.unsure opens.first.told))) in (
        opens.front,
        opens.behind,
        opens.parts,
        of,
        tells_each (v + 1) xs ys zs opens.behind order.1 stops.1 opens.rest
            (λ j w at. let e : v + 1 + j ≡ v + suc j = omega arith in ap places e ∙ are (suc j) w at),
      )

module _ {D P A : Type 0} (DiskTells : Type 0) (files : D → Files) (Tells : Type 0) (faults fuses : D → ℕ) (arm_faults : A → ℕ) where
  -- the notes of a restart are of what was pending
  pub tells_seen : (old mid new : Open D P A) (notes : List Note) → IsShaped mid → StoppedParts DiskTells files Tells faults fuses arm_faults old mid
      → OpensParts DiskTells files Tells faults fuses mid.directory new.directory mid.volumes new.volumes notes → TellsSeen old.settings (store_seen old) (store_seen new) notes
  tells_seen old mid new notes shape stopped opens = (
    opens.of_volumes,
    opens.told ∙ ap (λ (l : List Note). opens.of_volumes ++ l) ((opens.directory).told ∙ ap (λ (u : Option UnsureRow). notes_by u (directory_seen new.directory).homes) (stopped.directory).unsure),
    subst (λ (s : Settings). TellsVolumes s 0 (map volume_seen old.volumes) (map volume_seen new.volumes) (places_of new.volumes) opens.of_volumes) stopped.settings
        (tells_each DiskTells files Tells faults fuses mid.settings (places_of new.volumes) 0 old.volumes mid.volumes new.volumes opens.of_volumes shape.volumes stopped.volumes opens.volumes
        (λ j z at. let e : 0 + j ≡ j = omega arith in ap (places_of new.volumes) e ∙ photos_at new new refl j z at)),
  )

-- PLACES OF DELETIONS THAT WERE PENDING

module _ {D P : Type 0} (DiskTells : Type 0) (files : D → Files) (Tells : Type 0) (faults fuses : D → ℕ) where
  pending_at : DiskTells → (xs ys zs : List (Volume D P)) (notes : List Note) → AllZip (StopsVolume DiskTells files Tells faults fuses) xs ys
      → Gathers (OpensVolume DiskTells files Tells faults fuses) ys zs notes
      → (v : ℕ) (x : Volume D P) → At xs v x → (z : Volume D P) × At zs v z × ((j : ℕ) (r : Copy D) → At z.replicas j r → ToldUnsure x.unsure (sights_of z.rows) j (volume_bytes files r))
  pending_at tells [] ys zs notes stops opens v x at = absurd cc
  pending_at tells (x' ∷ xs) [] zs notes stops opens v x at = absurd stops
  pending_at tells (x' ∷ xs) (y ∷ ys) [] notes stops opens v x at = absurd opens
  pending_at tells (x' ∷ xs) (y ∷ ys) (z ∷ zs) notes stops opens zero x at =
      let same : x' ≡ x = cc in (
        z,
        refl,
        λ j r there. subst (λ (u : Option Unsure). ToldUnsure u (sights_of z.rows) j (volume_bytes files r)) (stops.0.unsure ∙ ap (λ (w : Volume D P). w.unsure) same)
            (opens.first.told_places tells j r there),
      )
  pending_at tells (x' ∷ xs) (y ∷ ys) (z ∷ zs) notes stops opens (suc v) x at = pending_at tells xs ys zs opens.behind stops.1 opens.rest v x at

module _ {D P A : Type 0} (DiskTells : Type 0) (files : D → Files) (Tells : Type 0) (faults fuses : D → ℕ) (arm_faults : A → ℕ) where
  pub pending_told : DiskTells → (old mid new : Open D P A) (notes : List Note) → IsShaped new → new.settings ≡ old.settings → StoppedParts DiskTells files Tells faults fuses arm_faults old mid
      → OpensParts DiskTells files Tells faults fuses mid.directory new.directory mid.volumes new.volumes notes → PendingTold old.settings (contents_in files new) (store_seen old) (store_seen new)
  pending_told tells old mid new notes shape same stopped opens v j seen at within =
      let there = at_mapped volume_seen old.volumes v seen at in
      let found = pending_at DiskTells files Tells faults fuses tells old.volumes mid.volumes new.volumes opens.of_volumes stopped.volumes opens.volumes v there.0 there.1 in
      let low : j < (new.settings).replicas = subst (λ (s : Settings). j < s.replicas) (sym same) within in
      subst (λ (s : Settings). FileAt s (contents_in files new) (store_seen new) v j (λ r file. ToldUnsure seen.unsure ((store_seen new).places v) j file)) same
      (file_on files new new refl shape v found.0 found.1 (λ r file. ToldUnsure seen.unsure ((store_seen new).places v) j file) j low
      (λ r here. subst (λ (u : Option Unsure). ToldUnsure u ((store_seen new).places v) j (volume_bytes files r)) (sym (ap (λ (w : VolumeSeen). w.unsure) there.2))
      (subst (λ (s : Sights). ToldUnsure (there.0).unsure s j (volume_bytes files r)) (sym (photos_at new new refl v found.0 found.1)) (found.2 j r here))))

-- NOTES

module _ {D P : Type 0} (DiskTells : Type 0) (files : D → Files) (Tells : Type 0) (faults fuses : D → ℕ) where
  fits_each : (ys zs : List (Volume D P)) (notes : List Note) → Gathers (OpensVolume DiskTells files Tells faults fuses) ys zs notes → AllByRecursion FitsNote notes
  fits_each [] [] notes opens = subst (λ (l : List Note). AllByRecursion FitsNote l) (sym opens) tt
  fits_each [] (z ∷ zs) notes opens = absurd opens
  fits_each (y ∷ ys) [] notes opens = absurd opens
  fits_each (y ∷ ys) (z ∷ zs) notes opens =
      subst (λ (l : List Note). AllByRecursion FitsNote l) (sym opens.parts) (all_append FitsNote opens.front opens.behind opens.first.fits (fits_each ys zs opens.behind opens.rest))

module _ {D P A : Type 0} (DiskTells : Type 0) (files : D → Files) (Tells : Type 0) (faults fuses : D → ℕ) where
  pub opened_fit : (old new : Open D P A) (notes : List Note) → OpensParts DiskTells files Tells faults fuses old.directory new.directory old.volumes new.volumes notes → AllByRecursion FitsNote notes
  opened_fit old new notes opens =
      subst (λ (l : List Note). AllByRecursion FitsNote l) (sym opens.told)
      (all_append FitsNote opens.of_volumes opens.of_directory (fits_each DiskTells files Tells faults fuses old.volumes new.volumes opens.of_volumes opens.volumes) opens.directory.fits)
