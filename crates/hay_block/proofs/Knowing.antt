-- What lanes know, by their seats.
use Rattle.std.proofs.Common.{◌≡◌, ◌≤◌, ℕ, List, [], ◌∷◌, map, length, refl, sym, ap, Option, Some, None, slice_get}
use Rattle.std.proofs.lemmas.Option.{slice_get_past}
use Rattle.hay_core.specs.declared.entry.Entry.{Entry}
use Rattle.hay_legal.specs.declared.known.HomeRow.{HomeRow}
use Rattle.hay_meeting.specs.declared.act.DirAct.{DirAct}
use Rattle.hay_meeting.specs.declared.act.VolumeAct.{VolumeAct}
use Rattle.hay_meeting.specs.Locks.{LockSight}
use Rattle.hay_meeting.specs.Sights.{Sight}
use Rattle.hay_lane.specs.declared.lane.Lane.{Lane}
use Rattle.hay_lane.specs.Lanes.{known_by, sight}
use Rattle.hay_block.specs.Ends.{IsNew}
use Rattle.hay_shared_volume.specs.Ends.{unseen}
use Rattle.hay_block.specs.Seats.{AreSeatsAt, HasNewSeats}

module _ {S T A : Type 0} (of : S → LockSight VolumeAct Entry) (of_rows : T → LockSight DirAct HomeRow) (arm_faults : A → ℕ) where
  abbrev pub known : Lane S T A → Sight
  known lane = sight of of_rows arm_faults lane

  -- what all seats at a lock know is what their lanes know of it
  pub known_at : (v : ℕ) (lanes : List (Lane S T A)) (seats : List S) → AreSeatsAt v lanes seats → map of seats ≡ map (λ s. s.volumes v) (map known lanes)
  known_at v [] [] all = refl
  known_at v [] (seat ∷ seats) all = absurd all
  known_at v (lane ∷ lanes) [] all = absurd all
  known_at v (lane ∷ lanes) (seat ∷ seats) (here, all) =
      let one : of seat ≡ known_by of (slice_get (lane.volumes).items v) = ap (known_by of) (sym here) in
      λ i. one i ∷ known_at v lanes seats all i

  pub rows_known : (lanes : List (Lane S T A)) → map of_rows (map (λ l. l.directory) lanes) ≡ map (λ s. s.directory) (map known lanes)
  rows_known [] = refl
  rows_known (lane ∷ lanes) = ap (λ z. of_rows lane.directory ∷ z) (rows_known lanes)

  -- nothing is known of a volume at which a lane has no seat
  pub unknown_past : (lane : Lane S T A) (v : ℕ) → length (lane.volumes).items ≤ v → (known lane).volumes v ≡ unseen
  unknown_past lane v past = ap (known_by of) (slice_get_past (lane.volumes).items v past)

  new_by : (found : Option S) → ((seat : S) → found ≡ Some seat → of seat ≡ unseen) → known_by of found ≡ unseen
  new_by None each = refl
  new_by (Some seat) each = each seat refl

  pub new_lane : (lane : Lane S T A) → HasNewSeats of of_rows lane → IsNew (known lane)
  new_lane lane new = record { volumes = λ v. new_by (slice_get (lane.volumes).items v) (new.volumes v); directory = new.directory }
