-- What a holding tells where the acts of its lane that were seen are its own: as they are behind each seat.
use Rattle.std.proofs.Common.{◌≡◌, ℕ, List, [], ◌++◌, Option, None, sym, ap, subst, ◌∙◌}
use Rattle.hay_core.specs.declared.entry.CoreTag.{CoreTag}
use Rattle.hay_disk.specs.Disk.{Files}
use Rattle.hay_front.specs.Fronts.{IsBehind}
use Rattle.hay_holdings.specs.Volumes.{VolumeCall}
use Rattle.hay_meeting.specs.declared.act.VolumeAct.{VolumeAct}
use Rattle.hay_turn.specs.Acts.{AllOf, acts_of}
use Rattle.hay_turn.specs.Seats.{Holds, SeatState, after_free}
use Rattle.hay_turn.specs.Slots.{acts_in}
use Rattle.hay_turn.proofs.ActLists.{acts_of_all, acts_of_append}
use Rattle.hay_volume_lock.specs.Answers.{Found, IsTold, StoreVolume}
use Rattle.hay_volume_lock.specs.Keeping.{GoesOn, IsKept}
use Rattle.hay_volume_lock.specs.Seats.{IsSeated}
use Rattle.hay_volume_lock.specs.declared.guarded.Guarded.{Guarded}
use Rattle.hay_volume_lock.specs.declared.guarded.Opened.{Opened}
use Rattle.hay_volume_lock.proofs.Growing.{goes_nowhere}
use Rattle.hay_volume_lock.proofs.Holding.{View, all_mine, made_told, seat_of}
use Rattle.hay_volume_lock.proofs.Lost.{IsOwnSight, OwnSights}
use Rattle.hay_volume_lock.proofs.Publishing.{Changes, changed_told}

module _ {D P : Type 0} (Tells : Type 0) (files : D → Files) (PieceTells : Type 0) (faults fuses : D → ℕ) (tag : CoreTag) where
  abbrev Kept : Opened D P → List VolumeAct → Guarded D P → Type 0
  Kept opened acts x = IsKept Tells files PieceTells faults fuses opened acts x

  module _ (t t' : SeatState (Opened D P) VolumeAct) {stood : ℕ} (v : View D P) (kept : Guarded D P)
      (seated : IsSeated t stood v) (holds : Holds (λ act. act.seat) (λ opened acts x. Kept opened acts x) t t' kept) (lane : t.number ≡ tag.lane) where
    own_then : IsOwnSight tag (seat_of t v).sight
    own_then = subst (λ (n : ℕ). acts_of (λ act. act.seat) n t.seen ≡ t.own) lane seated.own

    own_now : (t'' : SeatState (Opened D P) VolumeAct) (w : View D P) (made : List VolumeAct) → AllOf (λ act. act.seat) t.number made → t'' ≡ after_free t' made → IsOwnSight tag (seat_of t'' w).sight
    own_now t'' w made mine free = subst (λ (n : ℕ). acts_of (λ act. act.seat) n t''.seen ≡ t''.own) lane
        (ap (λ (z : SeatState (Opened D P) VolumeAct). acts_of (λ act. act.seat) t.number z.seen) free
        ∙ acts_of_append (λ act. act.seat) t.number t'.seen made
        ∙ ap (λ (l : List VolumeAct). l ++ acts_of (λ act. act.seat) t.number made) (holds.own ∙ sym (ap (λ (z : SeatState (Opened D P) VolumeAct). z.own) holds.same))
        ∙ ap (λ (l : List VolumeAct). t'.own ++ l) (acts_of_all (λ act. act.seat) t.number made mine)
        ∙ sym (ap (λ (z : SeatState (Opened D P) VolumeAct). z.own) free))

  -- with its act or none
  pub made_owned : (t t' t'' : SeatState (Opened D P) VolumeAct) {stood : ℕ} (v v' : View D P) (kept after : Guarded D P) (made : Option VolumeAct) (seated : IsSeated t stood v)
      (holds : Holds (λ act. act.seat) (λ opened acts x. Kept opened acts x) t t' kept) (behind : IsBehind v (kept.front).shown) (all : v' ≡ (kept.front).shown)
      (goes : GoesOn Tells files PieceTells faults fuses tag kept after made) (free : t'' ≡ after_free t' (acts_in made)) → t.number ≡ tag.lane
      → (Is : StoreVolume → VolumeCall) → Found Tells files PieceTells faults fuses tag kept made (λ volume. OwnSights tag (Is volume))
      → IsTold Tells files PieceTells faults fuses t.start (λ volume. Is volume (seat_of t v).sight (seat_of t'' v').sight)
  made_owned t t' t'' v v' kept after made seated holds behind all goes free lane Is finds opened is tells k s volume at =
      made_told Tells files PieceTells faults fuses tag t t' t'' v v' kept after made seated holds behind all goes free (λ volume. OwnSights tag (Is volume)) finds opened is tells k s volume at
      (own_then t t' v kept seated holds lane) (own_now t t' v kept seated holds lane t'' v' (acts_in made) (all_mine t.number tag.lane (acts_in made) lane goes.seats) free)

  -- that made none
  pub quiet_owned : (t t' t'' : SeatState (Opened D P) VolumeAct) {stood : ℕ} (v v' : View D P) (kept : Guarded D P) (seated : IsSeated t stood v)
      (holds : Holds (λ act. act.seat) (λ opened acts x. Kept opened acts x) t t' kept) (behind : IsBehind v (kept.front).shown) (all : v' ≡ (kept.front).shown) (free : t'' ≡ after_free t' [])
      → t.number ≡ tag.lane → (Is : StoreVolume → VolumeCall) → Found Tells files PieceTells faults fuses tag kept None (λ volume. OwnSights tag (Is volume))
      → IsTold Tells files PieceTells faults fuses t.start (λ volume. Is volume (seat_of t v).sight (seat_of t'' v').sight)
  quiet_owned t t' t'' v v' kept seated holds behind all free = made_owned t t' t'' v v' kept kept None seated holds behind all (goes_nowhere Tells files PieceTells faults fuses tag kept) free

  -- that published a change, or could not
  pub changed_owned : (t t' : SeatState (Opened D P) VolumeAct) {stood : ℕ} (v v' w : View D P) (kept after : Guarded D P) (made : Option VolumeAct) (seated : IsSeated t stood v)
      (holds : Holds (λ act. act.seat) (λ opened acts x. Kept opened acts x) t t' kept) (behind : IsBehind v (kept.front).shown) (all : v' ≡ (kept.front).shown) (shown : w ≡ (after.front).shown)
      (changes : Changes Tells files PieceTells faults fuses tag kept after made) (t'' : SeatState (Opened D P) VolumeAct) (free : t'' ≡ after_free t' (acts_in made)) → t.number ≡ tag.lane
      → (Is : StoreVolume → VolumeCall) → Found Tells files PieceTells faults fuses tag kept made (λ volume. OwnSights tag (Is volume))
      → IsTold Tells files PieceTells faults fuses t.start (λ volume. Is volume (seat_of t v).sight (seat_of t'' w).sight)
  changed_owned t t' v v' w kept after made seated holds behind all shown changes t'' free lane Is finds opened is tells k s volume at =
      changed_told Tells files PieceTells faults fuses tag t t' v v' w kept after made seated holds behind all shown changes t'' free (λ volume. OwnSights tag (Is volume)) finds
      opened is tells k s volume at
      (own_then t t' v kept seated holds lane) (own_now t t' v kept seated holds lane t'' w (acts_in made) (all_mine t.number tag.lane (acts_in made) lane changes.seats) free)
