-- A lock of a block where it ends.
use Rattle.std.proofs.Common.{◌≡◌, ◌-◌, ◌^◌, ◌<◌, ◌≤◌, ℕ, List, [], ◌∷◌, length, map, refl, sym, ap, subst, ◌∙◌, arith, Option, Some, None, slice_get}
use Rattle.std.specs.List.{cons_option}
use Rattle.std.proofs.lemmas.List.{length-map}
use mathlib.Core.List.{IsPrefix}
use Rattle.hay_needle.specs.declared.settings.Settings.{Settings}
use Rattle.hay_core.specs.declared.entry.Entry.{Entry}
use Rattle.hay_disk.specs.Disk.{Files}
use Rattle.hay_front.specs.declared.front.Tag.{Tag}
use Rattle.hay_lanes.proofs.Results.{unmapped}
use Rattle.hay_logical.specs.Volumes.{HasSupers, Volume}
use Rattle.hay_meeting.specs.declared.act.VolumeAct.{VolumeAct}
use Rattle.hay_meeting.specs.Acts.{entry_of, volume_lock}
use Rattle.hay_meeting.specs.Locks.{Lock, LockSight, entries}
use Rattle.hay_turn.specs.Acts.{AllBelow, acts_of}
use Rattle.hay_volume_lock.specs.Keeping.{add_tag, tag_of, tags_of}
use Rattle.hay_volume_lock.specs.Opening as opening
use Rattle.hay_volume_lock.specs.Seats.{Seated}
use Rattle.hay_shared_volume.specs.Ends.{Ended, entered_lines}
use Rattle.hay_shared_volume.specs.Making.{AreSeated, IsMadeOf, IsVolumeOf, LeavesVolume, VolumeStands, count_of}
use Rattle.hay_shared_volume.specs.Seats.{IsSeatOf}
use Rattle.hay_shared_volume.specs.declared.volume.SharedVolume.{SharedVolume}

-- what seats know of all acts at their lock, by what each of them knows
pub ended_by : {S E X Y Z : Type 0} (lock : Lock Y E X Z) (of : S → LockSight E X) (seats : List S) (history : List E)
    → ((lane : ℕ) (s : S) → slice_get seats lane ≡ Some s → acts_of lock.seat lane history ≡ (of s).own) → AllBelow lock.seat (length seats) history
    → ((lane : ℕ) (s : S) → slice_get seats lane ≡ Some s → IsPrefix (of s).seen history)
    → ((lane : ℕ) (s : S) → slice_get seats lane ≡ Some s → IsPrefix (of s).shown (entries lock history)) → Ended lock (map of seats) history
ended_by {S} {E} {X} lock of seats history own below seen shown = record {
  own = λ lane s at. let seat = unmapped of seats lane s at in own lane seat.0 seat.1 ∙ ap (λ (z : LockSight E X). z.own) seat.2;
  below = subst (λ n. AllBelow lock.seat n history) (sym (length-map seats of)) below;
  seen = λ lane s at. let seat = unmapped of seats lane s at in subst (λ (z : LockSight E X). IsPrefix z.seen history) seat.2 (seen lane seat.0 seat.1);
  shown = λ lane s at. let seat = unmapped of seats lane s at in subst (λ (z : LockSight E X). IsPrefix z.shown (entries lock history)) seat.2 (shown lane seat.0 seat.1);
}

-- tags have the lines of the changes that were entered
abbrev line_if : VolumeAct → Option Entry → Option ℕ
line_if act None = None
line_if act (Some change) = Some ((act.tag).line)

lines_entered : (acts : List VolumeAct) → map (λ (tag : Tag). tag.line) (tags_of acts) ≡ entered_lines acts
lines_entered [] = refl
lines_entered (act ∷ acts) =
    let rest = lines_entered acts in
    elim (entry_of act.did) as (λ o. map (λ (tag : Tag). tag.line) (add_tag o (tag_of act) (tags_of acts)) ≡ cons_option (line_if act o) (entered_lines acts)) [
      | None ↦ rest
      | Some change ↦ ap (λ l. (act.tag).line ∷ l) rest
    ]

module _ {D P : Type 0} {shared : SharedVolume D P} {settings : Settings} {number room : ℕ} {volume : Volume D P} {seats : List (Seated D P)}
    (made : IsMadeOf shared room volume settings number (length seats)) where
  -- these are all seats of the lock
  pub all_seated : {other : Settings} {v : ℕ} → AreSeated (IsSeatOf v) shared other (length seats) seats → opening.AreSeated shared.lock made.opened seats
  all_seated sits = record {
    some = made.some;
    each = λ i s at. let fits = sits.each i s at in record { rests = fits.rests; number = fits.number; seats = fits.seats ∙ made.seats; start = fits.start ∙ made.is };
  }

  module _ (Tells : Type 0) (files : D → Files) (PieceTells : Type 0) (faults fuses : D → ℕ) {after : Volume D P} {tags : List Tag}
      (closes : opening.Closes Tells files PieceTells faults fuses made.opened seats after tags) where
    opened_settings : ((made.opened).volume).settings ≡ settings
    opened_settings = ap (λ (v : Volume D P). v.settings) made.volume_is ∙ (made.of).settings_are

    opened_number : ((made.opened).volume).number ≡ number
    opened_number = ap (λ (v : Volume D P). v.number) made.volume_is ∙ (made.of).number_is

    -- all replicas of the store's settings are there
    pub within : (shared.settings).replicas ≤ length after.replicas
    within =
        let all : length after.replicas ≡ (after.settings).replicas = subst (λ (v : Volume D P). length v.replicas ≡ (v.settings).replicas) closes.is ((closes.stands).is_open).all in
        let same : (after.settings).replicas ≡ (shared.settings).replicas =
        ap (λ (s : Settings). s.replicas) (subst (λ (v : Volume D P). v.settings ≡ ((made.opened).volume).settings) closes.is (closes.stands).same_settings ∙ opened_settings
        ∙ sym made.settings_are) in
        omega (arith, all, same)

    pub is_volume_of : HasSupers after → IsVolumeOf after settings number
    is_volume_of sups = subst (λ (v : Volume D P). IsVolumeOf v settings number) closes.is (record {
      settings_are = (closes.stands).same_settings ∙ opened_settings;
      number_is = (closes.stands).number ∙ opened_number;
      of = (made.of).of;
      is_open = (closes.stands).is_open;
      sups = subst (λ (v : Volume D P). HasSupers v) (sym closes.is) sups;
    })

    pub leaves_volume : ((j : ℕ) → j < settings.replicas → count_of faults after j ≤ 2 ^ 64 - 1)
        → LeavesVolume (λ (seat : Seated D P). seat.sight) (VolumeStands Tells files PieceTells) (count_of faults) (count_of fuses) settings number volume seats after tags
    leaves_volume small =
        let kept = closes.stands in
        let low : (j : ℕ) → j < (((made.opened).volume).settings).replicas → count_of faults (closes.kept).logical j ≤ 2 ^ 64 - 1 =
        λ j below. subst (λ (v : Volume D P). count_of faults v j ≤ 2 ^ 64 - 1) (sym closes.is) (small j (subst (λ (s : Settings). j < s.replicas) opened_settings below)) in
        subst (λ (v : Volume D P). LeavesVolume (λ (seat : Seated D P). seat.sight) (VolumeStands Tells files PieceTells) (count_of faults) (count_of fuses) settings number v seats
        after tags) made.volume_is
        (subst (λ n. LeavesVolume (λ (seat : Seated D P). seat.sight) (VolumeStands Tells files PieceTells) (count_of faults) (count_of fuses) settings n (made.opened).volume seats
        after tags) opened_number
        (subst (λ (s : Settings). LeavesVolume (λ (seat : Seated D P). seat.sight) (VolumeStands Tells files PieceTells) (count_of faults) (count_of fuses) s
        ((made.opened).volume).number (made.opened).volume seats after tags) opened_settings
        (subst (λ (v : Volume D P). LeavesVolume (λ (seat : Seated D P). seat.sight) (VolumeStands Tells files PieceTells) (count_of faults) (count_of fuses)
        ((made.opened).volume).settings ((made.opened).volume).number (made.opened).volume seats v tags) closes.is (record {
          history = closes.history;
          ended = ended_by volume_lock (λ (seat : Seated D P). seat.sight) seats closes.history closes.own closes.below closes.seen closes.shown;
          sized = kept.sized;
          lines = ap (map (λ (tag : Tag). tag.line)) closes.tags_are ∙ lines_entered closes.history;
          follows = λ known stands. kept.follows stands.tells known stands.stands;
          stands_for = λ known stands. record { tells = stands.tells; stands = kept.stands stands.tells known stands.stands };
          faults_are = λ known j below. kept.fault_counts known j;
          fuses_are = λ known j below. kept.fuse_counts known j;
          rises = λ j below. kept.rises j;
          fuses_stay = λ none j below. kept.fuses_stay none j;
          small = low;
        }))))
