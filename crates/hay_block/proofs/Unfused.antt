-- A block sets no fuse.
use Rattle.std.proofs.Common.{◌≡◌, ◌≢◌, ◌<◌, ℕ, List, [], ◌∷◌, length, map, refl, sym, ap, subst, ◌∙◌, arith, Some, slice_get, Vec, Global, eq-eqb, ne_eqb}
use Rattle.std.specs.Prelude.{Bool}
use Rattle.std.specs.List.{AllByRecursion as Each}
use Rattle.std.proofs.lemmas.List.{length-map}
use Rattle.std.proofs.lemmas.Option.{slice_get_within}
use mathlib.Core.Logic.{dite}
use native.Mathlib.Decide.{ℕ_discrete}
use Rattle.hay_needle.specs.declared.settings.Settings.{Settings}
use Rattle.hay_core.specs.declared.entry.Entry.{Entry}
use Rattle.hay_front.specs.declared.front.Tag.{Tag}
use Rattle.hay_reply.specs.declared.Reply.{Reply}
use Rattle.hay_legal.specs.declared.known.DirKnown.{DirKnown}
use Rattle.hay_legal.specs.declared.known.HomeRow.{HomeRow}
use Rattle.hay_legal.specs.declared.known.VolumeKnown.{VolumeKnown}
use Rattle.hay_lanes.proofs.Results.{unmapped}
use Rattle.hay_turn.specs.Acts.{AllBelow, acts_of}
use Rattle.hay_meeting.specs.declared.act.DirAct.{DirAct}
use Rattle.hay_meeting.specs.declared.act.DirDid.TheVariants as row_did
use Rattle.hay_meeting.specs.declared.act.VolumeAct.{VolumeAct}
use Rattle.hay_meeting.specs.declared.act.VolumeDid.TheVariants as did
use Rattle.hay_meeting.specs.Acts.{Start, row_lock, volume_lock}
use Rattle.hay_meeting.specs.Locks.{Lock, LockSight}
use Rattle.hay_meeting.proofs.Closing.{there}
use Rattle.hay_volume_lock.specs.Acts.{SetNoFuse}
use Rattle.hay_shared_volume.specs.Ends.{Ended}
use Rattle.hay_shared_volume.specs.Making.{AreUnseen}
use Rattle.hay_shared_volume.specs.Tellings.{StoreVolume}
use Rattle.hay_lane.specs.Fuses.{IsUnfused, SetNoRowFuse}
use Rattle.hay_lane.specs.declared.lane.Lane.{Lane}
use Rattle.hay_block.specs.declared.worker.Job.{Job}
use Rattle.hay_block.specs.Frames.{RanAll, VolumeTook}
use Rattle.hay_block.specs.Making.{LeavesDirectory}
use Rattle.hay_block.specs.Seats.{AreSeatsAt}
use Rattle.hay_block.specs.Stores.{AreStill, FusesStay}
use Rattle.hay_block.proofs.Lists.{mapped, same_item, zip_at, zip_long}
use Rattle.hay_block.proofs.Whole.{Gives, given_lanes, workers_left}

-- ALL ACTS OF A LOCK, by those of each seat

module _ {E : Type 0} (seat : E → ℕ) (P : E → Type 0) where
  rest_of : (n : ℕ) (act : E) (acts : List E) → Each P (acts_of seat n (act ∷ acts)) → Each P (acts_of seat n acts)
  rest_of n act acts each = dite (ℕ_discrete (seat act) n)
      (λ same. let own : Each P (act ∷ acts_of seat n acts) = rw (eq-eqb (seat act) n same) at each in own.1)
      (λ other. rw (ne_eqb (seat act) n other) at each)

  pub each_act : (n : ℕ) (acts : List E) → AllBelow seat n acts → ((i : ℕ) → i < n → Each P (acts_of seat i acts)) → Each P acts
  each_act n [] below each = tt
  each_act n (act ∷ acts) below each =
      let own : Each P (act ∷ acts_of seat (seat act) acts) = rw (eq-eqb (seat act) (seat act) refl) at (each (seat act) below.0) in
      (own.0, each_act n acts below.1 (λ i within. rest_of i act acts (each i within)))

-- what holds of each own act of each seat holds of each
ended_each : {S E X T : Type 0} (lock : Lock S E X T) (P : E → Type 0) (seats : List (LockSight E X)) (history : List E) → Ended lock seats history
    → ((i : ℕ) (s : LockSight E X) → slice_get seats i ≡ Some s → Each P s.own) → Each P history
ended_each lock P seats history ended each = each_act lock.seat P (length seats) history ended.below (λ i within.
    let s = there seats i within in subst (Each P) (sym (ended.own i s.0 s.1)) (each i s.0 s.1))

-- WHERE THE LINES WERE ANSWERED, whatever the disks tell

module _ {V D S T A W : Type 0} {fits : ℕ → V → Settings → ℕ → S → Type 0} {fits_rows : D → Settings → ℕ → T → Type 0} {is_at : S → StoreVolume → Type 0} {is_at_rows : T → Start → Type 0}
    {of : S → LockSight VolumeAct Entry} {of_rows : T → LockSight DirAct HomeRow} {arm_sure : A → Bool} {arm_faults : A → ℕ} {stands : W → VolumeKnown → Type 0} {faults fuses : W → ℕ → ℕ}
    {settings : Settings} {lock : D} {drained : Vec Bool Global} {volumes : List W} {seats : List T} {arms : List A} {behind : List W} {tags : List (Vec Tag Global)}
    {seats_behind : List T} {arms_behind : List A}
    {jobs : List (List Job)} {replies : List (List Reply)}
    (all : RanAll fits fits_rows is_at is_at_rows of of_rows arm_sure arm_faults stands faults fuses settings lock drained volumes seats arms behind tags seats_behind arms_behind jobs replies)
    (unseen : AreUnseen of_rows seats) (given : length jobs ≡ length arms) where
  abbrev Took : ℕ → Type 0
  Took v = VolumeTook fits fits_rows is_at is_at_rows of of_rows arm_sure arm_faults stands faults fuses settings all.lanes all.after v v volumes behind tags

  -- a lane's seat is among those of all lanes
  seat_in : (lanes : List (Lane S T A)) (v : ℕ) (at_volume : List S) → AreSeatsAt v lanes at_volume → (lane : ℕ) (l : Lane S T A) (seat : S)
      → slice_get lanes lane ≡ Some l → slice_get (l.volumes).items v ≡ Some seat → slice_get at_volume lane ≡ Some seat
  seat_in lanes v at_volume are lane l seat at at_seat =
      let Here : Lane S T A → S → Type 0 = λ l seat. slice_get (l.volumes).items v ≡ Some seat in
      let s = there at_volume lane (let within = slice_get_within lanes lane l at in let long = zip_long Here lanes at_volume are in omega (arith, within, long)) in
      s.1 ∙ (sym (zip_at Here lanes at_volume are lane l s.0 at s.1) ∙ at_seat)

  -- new lanes have set none
  new_unfused : (lane : ℕ) (l : Lane S T A) → slice_get all.lanes lane ≡ Some l → IsUnfused of of_rows l
  new_unfused lane l at = record {
    volumes = λ v seat at_seat.
        let long = (all.seated lane l at).seats in
        let within = slice_get_within (l.volumes).items v seat at_seat in
        let t : Took v = all.took v (omega (arith, long, within)) in
        let none = (t.unseen).each lane seat (seat_in all.lanes v t.seats t.of_lanes lane l seat at at_seat) in
        subst (λ (s : LockSight VolumeAct Entry). SetNoFuse s.own) (sym none) tt;
    rows =
        let seat = subst (λ z. slice_get z lane ≡ Some l.directory) all.seats_are (mapped (λ (z : Lane S T A). z.directory) all.lanes lane l at) in
        subst (λ (s : LockSight DirAct HomeRow). SetNoRowFuse s.own) (sym (unseen.each lane l.directory seat)) tt;
  }

  -- and none is set by its lines
  lane_unfused : (lane : ℕ) (m : Lane S T A) → slice_get all.after lane ≡ Some m → IsUnfused of of_rows m
  lane_unfused lane m at =
      let Stay : Lane S T A → Lane S T A → Type 0 = λ a b. IsUnfused of of_rows a → IsUnfused of of_rows b in
      let stays = workers_left (Gives all) Stay (λ l none. none) (λ a b c x y none. y (x none)) (λ before lane job after reply gives. gives.unfused) (given_lanes all given) all.answers in
      let within = slice_get_within all.after lane m at in
      let same = (all.answers).workers_stay in
      let l = there all.lanes lane (omega (arith, within, same)) in
      zip_at Stay all.lanes all.after stays lane l.0 m l.1 at (new_unfused lane l.0 l.1)

  volume_unfused : (v : ℕ) (t : Took v) → SetNoFuse (t.left).history
  volume_unfused v t = ended_each volume_lock (λ act. (j : ℕ) → act.did ≢ did.Fuses j) (map of t.ended) (t.left).history (t.left).ended (λ i s at.
      let seat = unmapped of t.ended i s at in
      let Here : Lane S T A → S → Type 0 = λ l seat. slice_get (l.volumes).items v ≡ Some seat in
      let within = slice_get_within t.ended i seat.0 seat.1 in
      let long = zip_long Here all.after t.ended t.of_after in
      let m = there all.after i (omega (arith, within, long)) in
      subst (λ (z : LockSight VolumeAct Entry). SetNoFuse z.own) seat.2
      ((lane_unfused i m.0 m.1).volumes v seat.0 (zip_at Here all.after t.ended t.of_after i m.0 seat.0 m.1 seat.1)))

  -- no fuse was set on a disk
  pub block_unfused : {F : Type 0} {stands_rows : F → DirKnown → List Bool → Type 0} {row_faults row_fuses : F → ℕ} {directory after : F} {tags_behind : List Tag}
      → length volumes ≡ settings.volumes → LeavesDirectory of_rows stands_rows row_faults row_fuses directory seats_behind after tags_behind
      → FusesStay settings fuses row_fuses volumes directory behind after
  block_unfused many left = record {
    volumes = λ v j a b at_a at_b within.
        let t : Took v = all.took v (let low = slice_get_within volumes v a at_a in omega (arith, low, many)) in
        subst (λ z. fuses b j ≡ fuses z j) (same_item volumes v t.was at_a)
        (subst (λ z. fuses z j ≡ fuses t.before j) (same_item behind v t.is at_b) ((t.left).fuses_stay (volume_unfused v t) j within));
    rows = left.fuses_stay (ended_each row_lock (λ act. act.did ≢ row_did.FusesRow) (map of_rows seats_behind) left.history left.ended (λ i s at.
        let seat = unmapped of_rows seats_behind i s at in
        let lane : (m : Lane S T A) × (slice_get all.after i ≡ Some m) × (seat.0 ≡ m.directory) =
        let m = unmapped (λ (z : Lane S T A). z.directory) all.after i seat.0 (subst (λ z. slice_get z i ≡ Some seat.0) (sym all.seats_behind_are) seat.1) in (m.0, m.1, sym m.2) in
        subst (λ (z : LockSight DirAct HomeRow). SetNoRowFuse z.own) seat.2
        (subst (λ (z : T). SetNoRowFuse (of_rows z).own) (sym lane.2) (lane_unfused i lane.0 lane.1).rows)));
  }

-- WHERE NO LINE WAS ANSWERED

-- volumes that stand as they stood have the counts that they had
pub still_fuses : {W F : Type 0} {stands : W → VolumeKnown → Type 0} {faults fuses : W → ℕ → ℕ} {row_fuses : F → ℕ} {settings : Settings} {old new : List W} {before after : F}
    → AreStill stands faults fuses settings old new → after ≡ before → FusesStay settings fuses row_fuses old before new after
still_fuses {W} {F} {stands} {faults} {fuses} {row_fuses} still same = record {
  volumes = λ v j a b at_a at_b within. (still.each v a b at_a at_b).fuses_are j within;
  rows = ap row_fuses same;
}

-- a store that is as it was
pub same_fuses : {W F : Type 0} {fuses : W → ℕ → ℕ} {row_fuses : F → ℕ} {settings : Settings} {volumes : List W} {before after : F} → after ≡ before
    → FusesStay settings fuses row_fuses volumes before volumes after
same_fuses {W} {F} {fuses} {row_fuses} {settings} {volumes} same = record {
  volumes = λ v j a b at_a at_b within. ap (λ z. fuses z j) (same_item volumes v at_b at_a);
  rows = ap row_fuses same;
}
