-- Seats of a volume's lock that lanes share.
use Rattle.std.proofs.Common.{◌≡◌, ◌<◌, ◌++◌, ℕ, List, [], ◌∷◌, sym, ap, subst, ◌∙◌, Some}
use Rattle.hay_needle.specs.declared.settings.Settings.{Settings}
use Rattle.hay_disk.specs.Disk.{Files}
use Rattle.hay_core.specs.declared.entry.CoreTag.{CoreTag}
use Rattle.hay_core.specs.declared.entry.Entry.{Entry}
use Rattle.hay_meeting.specs.declared.act.VolumeAct.{VolumeAct}
use Rattle.hay_meeting.specs.Locks.{LockSight}
use Rattle.hay_turn.specs.Slots.{acts_in}
use Rattle.hay_shared_volume.specs.Tellings.{Stays, StoreVolume}
use Rattle.hay_volume_lock.specs.Answers as locks
use Rattle.hay_volume_lock.specs.Acts.{SetNoFuse}
use Rattle.hay_volume_lock.specs.Answers.{IsAlways, IsTold, OneLook, UnfusedHolding}
use Rattle.hay_volume_lock.specs.Refusing.{OfOpened}
use Rattle.hay_volume_lock.specs.Seats.{HasReplica, IsSameSeat, MayAct, Seated}
use Rattle.hay_volume_lock.specs.declared.guarded.Opened.{Opened}
use Rattle.hay_shared_volume.specs.declared.volume.SharedVolume.{SharedVolume}
use Rattle.hay_shared_volume.specs.Seats.{IsSeatOf, WasAt, at_lock}

module _ {D P : Type 0} {v : ℕ} {shared : SharedVolume D P} {settings : Settings} where
  pub may_act : {tag : CoreTag} {seat : Seated D P} → IsSeatOf v shared settings tag.lane seat → MayAct shared.lock tag seat
  may_act fits = record { rests = fits.rests; lane = fits.number }

  -- the volume of the seat has the settings
  pub of_settings : {lane : ℕ} {seat : Seated D P} → IsSeatOf v shared settings lane seat → (opened : Opened D P) → seat.start ≡ Some opened → (opened.volume).settings ≡ settings
  of_settings {lane} {seat} fits opened is =
      let one : Some fits.opened ≡ Some opened = sym fits.is ∙ (sym fits.start ∙ is) in
      let same : fits.opened ≡ opened = cc in
      subst (λ (o : Opened D P). (o.volume).settings ≡ settings) same fits.settings_are

  pub has_replica : {lane : ℕ} {seat : Seated D P} → IsSeatOf v shared settings lane seat → (j : ℕ) → j < settings.replicas → HasReplica seat j
  has_replica fits j less opened is = subst (λ (s : Settings). j < s.replicas) (sym (of_settings fits opened is)) less

  -- a call leaves a seat at its lock
  pub still_fits : {lane : ℕ} {old new : Seated D P} → IsSameSeat old new → IsSeatOf v shared settings lane old → IsSeatOf v shared settings lane new
  still_fits same fits = record {
    rests = record { own = ap (λ (z : Seated D P). z.lock) same ∙ (fits.rests).own; rests = ap (λ (z : Seated D P). z.holds) same ∙ (fits.rests).rests };
    number = ap (λ (z : Seated D P). z.number) same ∙ fits.number;
    few = fits.few;
    seats = ap (λ (z : Seated D P). z.seats) same ∙ fits.seats;
    start = ap (λ (z : Seated D P). z.start) same ∙ fits.start;
    opened = fits.opened;
    is = fits.is;
    settings_are = fits.settings_are;
    volume_is = fits.volume_is;
  }

  -- what is so of the volume that was opened is so of this one
  pub of_volume : {lane : ℕ} {seat : Seated D P} → IsSeatOf v shared settings lane seat → (IsSo : Settings → ℕ → Type 0) → OfOpened seat.start IsSo → IsSo settings v
  of_volume fits IsSo opened_so =
      subst (λ (n : ℕ). IsSo settings n) fits.volume_is
      (subst (λ (s : Settings). IsSo s ((fits.opened).volume).number) fits.settings_are (opened_so fits.opened (fits.start ∙ fits.is)))

module _ {D P : Type 0} (Tells : Type 0) (files : D → Files) (PieceTells : Type 0) (faults fuses : D → ℕ) where
  pub stays_there : {v : ℕ} (shared : SharedVolume D P) {old new : Seated D P} → IsSameSeat old new → Stays (IsSeatOf v) (WasAt Tells files PieceTells faults fuses) shared old new
  stays_there shared same = record {
    fits_still = λ settings lane fits. still_fits same fits;
    at_still = λ volume at. record {
      opened = at.opened;
      is = ap (λ (z : Seated D P). z.start) same ∙ at.is;
      tells = at.tells;
      known = at.known;
      stands = at.stands;
      at = at.at;
    };
  }

  -- what a call tells where its disks tell, it tells of the volume
  pub told : {IsSo : locks.StoreVolume → Type 0} {seat : Seated D P} {volume : StoreVolume} → IsTold Tells files PieceTells faults fuses seat.start IsSo
      → WasAt Tells files PieceTells faults fuses seat volume → IsSo (at_lock volume)
  told {IsSo} {seat} {volume} tells at = tells at.opened at.is at.tells at.known at.stands (at_lock volume) at.at

  pub always : {IsSo : locks.StoreVolume → Type 0} {seat : Seated D P} {volume : StoreVolume} → IsAlways faults fuses seat.start IsSo
      → WasAt Tells files PieceTells faults fuses seat volume → IsSo (at_lock volume)
  always {IsSo} {seat} {volume} so at = so at.opened at.is at.known (at_lock volume) at.at

  -- the volume has so many replicas
  pub replicas_at : {v : ℕ} {shared : SharedVolume D P} {settings : Settings} {lane : ℕ} {seat : Seated D P} {volume : StoreVolume}
      → WasAt Tells files PieceTells faults fuses seat volume → IsSeatOf v shared settings lane seat → volume.settings ≡ settings
  replicas_at at fits = (at.at).settings ∙ of_settings fits at.opened at.is

-- A CALL THAT SETS NO FUSE

both_unfused : (xs ys : List VolumeAct) → SetNoFuse xs → SetNoFuse ys → SetNoFuse (xs ++ ys)
both_unfused [] ys some more = more
both_unfused (x ∷ xs) ys some more = (some.0, both_unfused xs ys some.1 more)

pub still_unfused : {tag : CoreTag} {a b : LockSight VolumeAct Entry} → UnfusedHolding tag a b → SetNoFuse a.own → SetNoFuse b.own
still_unfused {tag} {a} held none = subst SetNoFuse (sym (held.holding).own) (both_unfused a.own (acts_in held.made) none held.is)

pub looked_unfused : {a b : LockSight VolumeAct Entry} → OneLook a b → SetNoFuse a.own → SetNoFuse b.own
looked_unfused looked none = subst SetNoFuse (sym looked.own) none
