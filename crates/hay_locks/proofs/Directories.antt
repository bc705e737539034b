-- Seats of the Directory's lock that lanes share.
use Rattle.std.proofs.Common.{◌≡◌, ◌++◌, ℕ, List, [], ◌∷◌, sym, subst, ◌∙◌, Some}
use Rattle.std.specs.Prelude.{Result, Ok, Err}
use Rattle.hay_needle.specs.declared.settings.Settings.{Settings}
use Rattle.hay_core.specs.declared.entry.CoreTag.{CoreTag}
use Rattle.hay_legal.specs.declared.known.HomeRow.{HomeRow}
use Rattle.hay_meeting.specs.declared.act.DirAct.{DirAct}
use Rattle.hay_meeting.specs.Acts.{Start}
use Rattle.hay_meeting.specs.Locks.{LockSight}
use Rattle.hay_directory.specs.declared.fault.DirFault.{DirFault}
use Rattle.hay_directory.specs.declared.fault.DirFault.TheVariants as refusal
use Rattle.hay_turn.specs.Slots.{acts_in}
use Rattle.hay_lane.specs.Fuses.{SetNoRowFuse}
use Rattle.hay_lane.specs.Tellings.{SettleTells}
use Rattle.hay_shared_volume.specs.Tellings.{Stays}
use Rattle.hay_directory_lock.specs.Answers.{IsTold, OneLook, SettlesAs, UnfusedHolding}
use Rattle.hay_directory_lock.specs.Begun.{BegunAt}
use Rattle.hay_directory_lock.specs.Seats.{DirectorySeatState, IsSeated, LockState}
use Rattle.hay_locks.specs.declared.directory.SharedDirectory.{SharedDirectory}
use Rattle.hay_locks.specs.Directories.{IsRowSeatOf, RowsWereAt}

-- a call leaves a seat where it is
abbrev Goes : {D : Type 0} → LockState → DirectorySeatState D → DirectorySeatState D → Type 0
Goes {D} lock old new = (begun : BegunAt D) (lane : ℕ) → IsSeated lock begun lane old → IsSeated lock begun lane new

pub rows_stay : {D P : Type 0} {shared : SharedDirectory D P} {settings : Settings} {lane : ℕ} {old new : DirectorySeatState D} → IsRowSeatOf shared settings lane old
    → (faults fuses : D → ℕ) → Goes shared.lock old new → Stays IsRowSeatOf (RowsWereAt faults fuses) shared old new
rows_stay {lane = lane} fits faults fuses goes = record {
  fits_still = λ s l f. record { begun = f.begun; is = f.is; seated = goes f.begun l f.seated; settings_are = f.settings_are };
  at_still = λ start at. record {
    begun = at.begun;
    is = (goes fits.begun lane fits.seated).start ∙ (sym (fits.seated).start ∙ at.is);
    stands = at.stands;
  };
}

-- what a call tells for all that may have stood
pub rows_told : {D P : Type 0} {shared : SharedDirectory D P} {settings : Settings} {lane : ℕ} {old : DirectorySeatState D} → IsRowSeatOf shared settings lane old
    → {faults fuses : D → ℕ} {IsSo : Start → Type 0} {start : Start} → IsTold faults fuses shared.lock old IsSo → RowsWereAt faults fuses old start → IsSo start
rows_told {D} {shared = shared} {lane = lane} {old = old} fits {start = start} tells at =
    let one : Some fits.begun ≡ Some at.begun = sym (fits.seated).start ∙ at.is in
    let same : fits.begun ≡ at.begun = cc in
    tells at.begun lane (subst (λ (b : BegunAt D). IsSeated shared.lock b lane old) same fits.seated) start at.stands

pub settle_tells : (start : Start) (tag : CoreTag) (row : HomeRow) (answer : Result (ℕ × ℕ) DirFault) (a b : LockSight DirAct HomeRow) → SettlesAs start row tag answer a b
    → SettleTells start tag row answer a b
settle_tells start tag row (Ok answer) a b x = x
settle_tells start tag row (Err refusal.Frozen) a b x = x
settle_tells start tag row (Err refusal.NoMemory) a b x = x
settle_tells start tag row (Err (refusal.Failed faults)) a b x = x

-- A CALL THAT SETS NO FUSE

both_unfused : (xs ys : List DirAct) → SetNoRowFuse xs → SetNoRowFuse ys → SetNoRowFuse (xs ++ ys)
both_unfused [] ys some more = more
both_unfused (x ∷ xs) ys some more = (some.0, both_unfused xs ys some.1 more)

pub rows_unfused : {tag : CoreTag} {a b : LockSight DirAct HomeRow} → UnfusedHolding tag a b → SetNoRowFuse a.own → SetNoRowFuse b.own
rows_unfused {tag} {a} held none = subst SetNoRowFuse (sym (held.holding).own) (both_unfused a.own (acts_in held.made) none held.is)

pub rows_looked : {a b : LockSight DirAct HomeRow} → OneLook a b → SetNoRowFuse a.own → SetNoRowFuse b.own
rows_looked looked none = subst SetNoRowFuse (sym looked.own) none
