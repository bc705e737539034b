-- The Directory's lock where it ends.
use Rattle.std.proofs.Common.{◌≡◌, ◌-◌, ◌^◌, ◌<◌, ◌≤◌, ℕ, List, [], ◌∷◌, length, map, refl, sym, ap, subst, ◌∙◌, Option, Some, None}
use Rattle.std.specs.Prelude.{filter_map}
use Rattle.std.specs.List.{cons_option}
use Rattle.hay_needle.specs.declared.settings.Settings.{Settings}
use Rattle.hay_disk.specs.Disk.{Files}
use Rattle.hay_front.specs.declared.front.Tag.{Tag}
use Rattle.hay_reply.specs.declared.LineVolume.{LineVolume}
use Rattle.hay_legal.specs.declared.known.HomeRow.{HomeRow}
use Rattle.hay_directory.specs.State.{State}
use Rattle.hay_meeting.specs.declared.act.DirAct.{DirAct}
use Rattle.hay_meeting.specs.Acts.{row_lock, row_of}
use Rattle.hay_directory_lock.specs.Acts as rows
use Rattle.hay_directory_lock.specs.Begun.{BegunAt}
use Rattle.hay_directory_lock.specs.Opening as directory
use Rattle.hay_directory_lock.specs.Seats.{DirectorySeatState, IsSeated, sight}
use Rattle.hay_directory_lock.specs.Standing.{standing_of}
use Rattle.hay_directory_lock.proofs.Knowing.{stands_at}
use Rattle.hay_block.specs.Behind.{added_row}
use Rattle.hay_shared_volume.specs.Making.{AreSeated}
use Rattle.hay_block.specs.Making.{LeavesDirectory}
use Rattle.hay_locks.specs.Directories.{IsRowSeatOf}
use Rattle.hay_locks.specs.Making.{DirectoryStands, IsDirectoryOf, IsMadeOfRows, rows_count_of}
use Rattle.hay_locks.specs.declared.directory.SharedDirectory.{SharedDirectory}
use Rattle.hay_shared_volume.proofs.Ending.{ended_by}

abbrev row_line : DirAct → Option HomeRow → Option LineVolume
row_line act None = None
row_line act (Some row) = Some (record { line = (act.tag).line; volume = row.volume })

lines_added : (acts : List DirAct) → map (λ (tag : Tag). tag.line) (rows.tags_of acts) ≡ map (λ (row : LineVolume). row.line) (filter_map added_row acts)
lines_added [] = refl
lines_added (act ∷ acts) =
    let rest = lines_added acts in
    elim (row_of act.did) as (λ o. map (λ (tag : Tag). tag.line) (rows.add_tag o (rows.tag_of act) (rows.tags_of acts))
    ≡ map (λ (row : LineVolume). row.line) (cons_option (row_line act o) (filter_map added_row acts))) [
      | None ↦ rest
      | Some row ↦ ap (λ l. (act.tag).line ∷ l) rest
    ]

module _ {D P : Type 0} {shared : SharedDirectory D P} {settings : Settings} {room : ℕ} {before : State D} {seats : List (DirectorySeatState D)}
    (made : IsMadeOfRows shared room before settings (length seats)) where
  pub all_seated_rows : {other : Settings} → AreSeated IsRowSeatOf shared other (length seats) seats → directory.AreSeated shared.lock made.begun seats
  all_seated_rows sits = record {
    many = sym made.seats;
    some = subst (λ n. 0 < n) (sym made.seats) made.some;
    each = λ lane seat at.
        let fits = sits.each lane seat at in
        let one : Some fits.begun ≡ Some made.begun = sym fits.is ∙ made.is in
        let same : fits.begun ≡ made.begun = cc in
        subst (λ (b : BegunAt D). IsSeated shared.lock b lane seat) same fits.seated;
  }

  module _ (Tells : Type 0) (files : D → Files) (faults fuses : D → ℕ) {after : State D} {tags : List Tag}
      (closes : directory.Closes Tells files faults fuses shared.lock made.begun seats after tags) where
    pub is_directory_of : IsDirectoryOf after settings
    is_directory_of = record {
      settings_are = (closes.stands).settings ∙ (ap (λ (d : State D). d.settings) made.directory_is ∙ (made.of).settings_are);
      up = (closes.stands).up;
    }

    pub leaves_directory : rows_count_of faults after ≤ 2 ^ 64 - 1
        → LeavesDirectory (sight {D = D}) (DirectoryStands Tells files) (rows_count_of faults) (rows_count_of fuses) before seats after tags
    leaves_directory small =
        let kept = closes.stands in
        subst (λ (d : State D). LeavesDirectory (sight {D = D}) (DirectoryStands Tells files) (rows_count_of faults) (rows_count_of fuses) d seats after tags) made.directory_is (record {
          history = closes.history;
          ended = ended_by row_lock (sight {D = D}) seats closes.history closes.own closes.below closes.seen closes.shown;
          lines = ap (map (λ (tag : Tag). tag.line)) closes.tags_are ∙ lines_added closes.history;
          untouched = kept.untouched;
          follows = λ known drained stands.
              kept.follows (standing_of faults fuses (made.begun).directory known drained) (stands_at files faults fuses (made.begun).directory known drained stands.stands);
          stands_for = λ known drained stands. record { tells = stands.tells; stands = kept.told stands.tells (standing_of faults fuses (made.begun).directory known drained) stands.stands };
          faults_are = λ known drained stands.
              sym (kept.counted (standing_of faults fuses (made.begun).directory known drained) (stands_at files faults fuses (made.begun).directory known drained stands.stands).counted).faults_are;
          fuses_are = λ known drained stands.
              sym (kept.counted (standing_of faults fuses (made.begun).directory known drained) (stands_at files faults fuses (made.begun).directory known drained stands.stands).counted).fuses_are;
          rises = kept.rises;
          fuses_stay = kept.fuses_stay;
          small = small;
        })
