-- A lock that was made for a block, and its seats.
use Rattle.std.proofs.Common.{◌≡◌, ℕ, ◌<◌, ◌≤◌, List, sym, ap, subst, ◌∙◌, arith, Some, slice_get}
use Rattle.std.proofs.lemmas.Option.{slice_get_within}
use Rattle.hay_needle.specs.declared.settings.Settings.{Settings}
use Rattle.hay_disk.specs.Disk.{Files}
use Rattle.hay_script.specs.declared.words.TheConstants.{MAX_LANES}
use Rattle.hay_logical.specs.Stands.{Stands}
use Rattle.hay_logical.specs.Volumes.{Volume}
use Rattle.hay_volume_lock.specs.Seats.{AreNew, Seated, new_seat}
use Rattle.hay_shared_volume.specs.Making.{AreAt, AreSeated, AreUnseen, IsMadeOf, IsVolumeOf, VolumeStands, count_of, standing}
use Rattle.hay_shared_volume.specs.Seats.{IsSeatOf, WasAt}
use Rattle.hay_shared_volume.specs.declared.volume.SharedVolume.{SharedVolume}

module _ {D P : Type 0} (shared : SharedVolume D P) (volume : Volume D P) (lanes : ℕ) (seats : List (Seated D P)) (new : AreNew shared.lock volume lanes seats)
    (first : slice_get seats 0 ≡ Some (shared.first).value) where
  first_is : (shared.first).value ≡ new_seat shared.lock new.opened lanes 0
  first_is = new.each 0 (shared.first).value first

  first_seats : (shared.first).value.seats ≡ lanes
  first_seats = ap (λ (s : Seated D P). s.seats) first_is

  first_start : (shared.first).value.start ≡ Some new.opened
  first_start = ap (λ (s : Seated D P). s.start) first_is

  pub is_made_of : (settings : Settings) (room number : ℕ) → shared.settings ≡ settings → room ≡ lanes → 0 < lanes → IsVolumeOf volume settings number
      → IsMadeOf shared room volume settings number lanes
  is_made_of settings room number same room_is some of = record {
    of = of;
    settings_are = same;
    some = some;
    room_is = room_is;
    seats = first_seats;
    opened = new.opened;
    is = first_start;
    from = new.from;
    volume_is = new.own;
  }

  pub are_seated : (settings : Settings) (number : ℕ) → volume.settings ≡ settings → volume.number ≡ number → lanes ≤ MAX_LANES → AreSeated (IsSeatOf number) shared settings lanes seats
  are_seated settings number same numbered few = record {
    many = new.count;
    each = λ lane seat at.
        let is = new.each lane seat at in
        let within = slice_get_within seats lane seat at in
        let many = new.count in record {
          rests = record { own = ap (λ (s : Seated D P). s.lock) is; rests = ap (λ (s : Seated D P). s.holds) is };
          number = ap (λ (s : Seated D P). s.number) is;
          few = omega (arith, within, many, few);
          seats = ap (λ (s : Seated D P). s.seats) is ∙ sym first_seats;
          start = ap (λ (s : Seated D P). s.start) is ∙ sym first_start;
          opened = new.opened;
          is = first_start;
          settings_are = ap (λ (v : Volume D P). v.settings) new.own ∙ same;
          volume_is = ap (λ (v : Volume D P). v.number) new.own ∙ numbered;
        };
  }

  pub are_unseen : AreUnseen (λ (seat : Seated D P). seat.sight) seats
  are_unseen = record { each = λ lane seat at. ap (λ (s : Seated D P). s.sight) (new.each lane seat at) }

  pub are_at : (Tells : Type 0) (files : D → Files) (PieceTells : Type 0) (faults fuses : D → ℕ) (settings : Settings) (number : ℕ) → IsVolumeOf volume settings number
      → AreAt (WasAt Tells files PieceTells faults fuses) (VolumeStands Tells files PieceTells) (count_of faults) (count_of fuses) settings number volume seats
  are_at Tells files PieceTells faults fuses settings number of lane seat at known stands start same = record {
    opened = new.opened;
    is = ap (λ (s : Seated D P). s.start) (new.each lane seat at);
    tells = stands.tells;
    known = known;
    stands = subst (λ (v : Volume D P). Stands files PieceTells v known) (sym new.own) stands.stands;
    at = record {
      settings = sym (ap (λ (v : Volume D P). v.settings) new.own ∙ of.settings_are);
      number = sym (ap (λ (v : Volume D P). v.number) new.own ∙ of.number_is);
      start = same ∙ ap (λ (v : Volume D P). standing (count_of faults) (count_of fuses) v known) (sym new.own);
    };
  }
