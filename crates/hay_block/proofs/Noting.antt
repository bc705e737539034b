-- The notes behind a block, by the acts of its lanes.
use Rattle.std.proofs.Common.{◌≡◌, ◌<◌, ◌+◌, ℕ, zero, suc, ◌≤◌, List, [], ◌∷◌, ◌++◌, map, length, drop, flat_map, filter_map, refl, ap, ◌∙◌, arith}
use Rattle.std.specs.List.{cons_option, range_with_len}
use Rattle.std.proofs.Math.Seq.{drop-append_seam}
use Rattle.hay_needle.specs.declared.settings.Settings.{Settings}
use Rattle.hay_core.specs.declared.entry.CoreTag.{CoreTag}
use Rattle.hay_core.specs.declared.entry.Logged.{Logged}
use Rattle.hay_legal.specs.declared.known.Known.{Known}
use Rattle.hay_legal.specs.declared.known.VolumeKnown.{VolumeKnown}
use Rattle.hay_legal.specs.Known.{volume_at}
use Rattle.hay_legal.specs.Blocks.{log_note, new_entries}
use Rattle.hay_history.specs.Histories.{row_line}
use Rattle.hay_history.proofs.Changes.{log_by}
use Rattle.hay_history.specs.LaneSteps.{Follows, RowsStanding, Standing}
use Rattle.hay_meeting.specs.declared.act.DirAct.{DirAct}
use Rattle.hay_meeting.specs.declared.act.DirDid.{DirDid}
use Rattle.hay_meeting.specs.declared.act.DirDid.TheVariants as act_row
use Rattle.hay_meeting.specs.declared.act.VolumeAct.{VolumeAct}
use Rattle.hay_meeting.specs.declared.act.VolumeDid.{VolumeDid}
use Rattle.hay_meeting.specs.declared.act.VolumeDid.TheVariants as act
use Rattle.hay_meeting.specs.Acts.{did_of, row_lock, rows_left_by, volume_lock}
use Rattle.hay_meeting.specs.Locks.{left, replayed}
use Rattle.hay_meeting.proofs.Standings.{extends, logged_of}
use Rattle.hay_block.specs.Behind.{added_row, log_note_from}
use Rattle.hay_shared_volume.specs.Ends.{entered_line, entered_lines}

-- VOLUMES

abbrev line_of_logged : Logged → ℕ
line_of_logged logged = (logged.tag).line

entered_one : (seat : ℕ) (tag : CoreTag) (d : VolumeDid) (faults fuses : List ℕ) (rest : List Logged)
    → map line_of_logged (log_by tag (did_of d) ++ rest) ≡ cons_option (entered_line (record { seat = seat; tag = tag; did = d; faults = faults; fuses = fuses })) (map line_of_logged rest)
entered_one seat tag act.Tries faults fuses rest = refl
entered_one seat tag (act.Entered change ended) faults fuses rest = refl
entered_one seat tag (act.Pends m change failed) faults fuses rest = refl
entered_one seat tag (act.Freezes m) faults fuses rest = refl
entered_one seat tag (act.Flushes j) faults fuses rest = refl
entered_one seat tag (act.Sticks j) faults fuses rest = refl
entered_one seat tag (act.Begins j) faults fuses rest = refl
entered_one seat tag (act.Examines j n) faults fuses rest = refl
entered_one seat tag (act.Ends j) faults fuses rest = refl
entered_one seat tag (act.Swaps j end cells frozen) faults fuses rest = refl
entered_one seat tag (act.Poises m j) faults fuses rest = refl
entered_one seat tag (act.Fuses j) faults fuses rest = refl

entered : (acts : List VolumeAct) → map line_of_logged (logged_of acts) ≡ entered_lines acts
entered [] = refl
entered (x ∷ acts) = entered_one x.seat x.tag x.did x.faults x.fuses (logged_of acts) ∙ ap (cons_option (entered_line x)) (entered acts)

-- the note tells the new entries
note_by : (k t : Known) (v : ℕ) (new : List Logged) → new_entries k t v ≡ new → log_note k t v ≡ log_note_from v (length (volume_at k v).log) (map line_of_logged new)
note_by k t v [] e = rw e refl
note_by k t v (logged ∷ rest) e = rw e refl

pub volume_note : (settings : Settings) (k t : Known) (v : ℕ) (s : Standing) (acts : List VolumeAct) → Follows settings v s (replayed volume_lock s acts)
    → s.volume ≡ volume_at k v → volume_at t v ≡ (left volume_lock s acts).volume
    → log_note k t v ≡ log_note_from v (length (volume_at k v).log) (entered_lines acts)
volume_note settings k t v s acts follows first last =
    let grown : (volume_at t v).log ≡ (volume_at k v).log ++ logged_of acts =
    ap (λ (z : VolumeKnown). z.log) last ∙ ((extends settings v s acts follows).log ∙ ap (λ (z : VolumeKnown). z.log ++ logged_of acts) first) in
    let new : new_entries k t v ≡ logged_of acts =
    ap (drop (length (volume_at k v).log)) grown ∙ drop-append_seam (volume_at k v).log (logged_of acts) in
    note_by k t v (logged_of acts) new ∙ ap (log_note_from v (length (volume_at k v).log)) (entered acts)

-- lists that are the same for each number of a range
pub flat_same : {X : Type 0} (f g : ℕ → List X) (a n : ℕ) → ((v : ℕ) → a ≤ v → v < a + n → f v ≡ g v) → flat_map f (range_with_len a n) ≡ flat_map g (range_with_len a n)
flat_same f g a zero same = refl
flat_same f g a (suc n) same =
    ap (λ z. z ++ flat_map f (range_with_len (a + 1) n)) (same a (omega arith) (omega arith))
    ∙ ap (λ z. g a ++ z) (flat_same f g (a + 1) n (λ v low high. same v (omega (arith, low)) (omega (arith, high))))

-- THE DIRECTORY

row_one : (seat : ℕ) (tag : CoreTag) (d : DirDid) (faults fuses : ℕ) (s : RowsStanding)
    → row_line (row_lock.step s (record { seat = seat; tag = tag; did = d; faults = faults; fuses = fuses })) ≡ added_row (record { seat = seat; tag = tag; did = d; faults = faults; fuses = fuses })
row_one seat tag act_row.TriesRow faults fuses s = refl
row_one seat tag (act_row.AddsRow row) faults fuses s = refl
row_one seat tag (act_row.PendsRow row) faults fuses s = refl
row_one seat tag (act_row.Drains m is) faults fuses s = refl
row_one seat tag act_row.FusesRow faults fuses s = refl

pub rows_noted : (s : RowsStanding) (acts : List DirAct) → filter_map row_line (replayed row_lock s acts) ≡ filter_map added_row acts
rows_noted s [] = refl
rows_noted s (x ∷ acts) =
    ap (λ z. cons_option z (filter_map row_line (replayed row_lock (rows_left_by x s) acts))) (row_one x.seat x.tag x.did x.faults x.fuses s)
    ∙ ap (cons_option (added_row x)) (rows_noted (rows_left_by x s) acts)
