-- A block's lines are legal.
use Rattle.std.proofs.Common.{◌≡◌, ◌<◌, ℕ, List, length, sym, ap, subst, ◌∙◌, arith}
use Rattle.std.proofs.lemmas.List.{length-map}
use Rattle.std.proofs.lemmas.List.FromFn.{get_or-map-range_with_len, length-range_with_len}
use Rattle.hay_needle.specs.declared.settings.Settings.{Settings}
use Rattle.hay_legal.specs.declared.known.Known.{Known}
use Rattle.hay_legal.specs.declared.turn.LaneItem.{LaneItem}
use Rattle.hay_legal.specs.declared.turn.LogNote.{LogNote}
use Rattle.hay_legal.specs.declared.turn.RowNote.{RowNote}
use Rattle.hay_legal.specs.Blocks.{LegalBlock, log_note, log_notes}
use Rattle.hay_legal.specs.Known.{empty_volume, volume_at, volumes_of}
use Rattle.hay_history.specs.Histories.{first_rows, row_note}
use Rattle.hay_history.specs.LaneSteps.{RowsStanding}
use Rattle.hay_meeting.specs.Acts.{Happened, Start}
use Rattle.hay_meeting.specs.Chains.{EndsAs, IsWhole, Lines}
use Rattle.hay_meeting.specs.Law.{cut_of}
use Rattle.hay_meeting.specs.Sights.{Sight, StandsAt, history_of, rows_stood, stood}
use Rattle.hay_meeting.proofs.Meeting.{lanes_make_blocks}
use Rattle.hay_meeting.proofs.Opening.{nothing_yet}
use Rattle.hay_block.specs.Behind.{known_behind, log_note_from, log_notes_of, row_note_of}
use Rattle.hay_shared_volume.specs.Ends.{entered_lines}
use Rattle.hay_block.specs.Law.{BlockRan, BlocksAreLegal}
use Rattle.hay_block.proofs.Ending.{locks_whole, new_lanes_begin, opened_there}
use Rattle.hay_block.proofs.Noting.{flat_same, rows_noted, volume_note}

module _ {settings : Settings} {start : Start} {k : Known} {before after : List Sight} {items : List LaneItem} {h : Happened} {faults fuses arms : List ℕ}
    (ran : BlockRan settings start k before after items h faults fuses arms) where
  abbrev t : Known
  t = known_behind settings start h faults fuses arms

  -- WHAT STANDS BEHIND

  volume_behind : (v : ℕ) → v < settings.volumes → volume_at t v ≡ (stood start v (h.volumes v)).volume
  volume_behind v below = get_or-map-range_with_len (λ v. (stood start v (h.volumes v)).volume) 0 settings.volumes v v empty_volume below (omega arith)

  stands_behind : StandsAt settings start t h
  stands_behind = record {
    volumes = λ v below. record {
      volume = volume_behind v below;
      faults = λ j within. ((ran.counts).faults_are).replicas v j below within;
      fuses = λ j within. ((ran.counts).fuses_are).replicas v j below within;
    };
    rows =
        let s : RowsStanding = rows_stood start h.directory in
        λ i. record { directory = s.directory; drained = s.drained; faults = ((ran.counts).faults_are).first i; fuses = ((ran.counts).fuses_are).first i };
  }

  ends_as : EndsAs settings start (length before) h k t
  ends_as =
      let settled = (ran.opens).settled in record {
        stands = stands_behind;
        count = length-map (volumes_of settings) (λ v. (stood start v (h.volumes v)).volume) ∙ (length-range_with_len 0 settings.volumes ∙ sym (settled.store).volumes);
        fuse_slots = ((ran.counts).fuses_are).many ∙ sym (settled.regular).slots;
        fault_slots = ((ran.counts).faults_are).many ∙ sym settled.disks;
        arm_slots = (ran.counts).as_many;
        other_arms = (ran.counts).other_arms;
        faults_end = (ran.counts).faults_end;
        arms_end = (ran.counts).arms_end;
      }

  lines : Lines settings start (length before) before after items nothing_yet h k t
  lines = record {
    some = ran.some;
    few = ran.few;
    from = opened_there ran.opens;
    begins = new_lanes_begin before ran.new;
    arms_before = ran.arms_before;
    lines = ran.lines;
    distinct = ran.distinct;
    ends = subst (λ n. IsWhole settings start n after h) ran.same (locks_whole ran.ends);
    arms_behind = ran.arms_behind;
    last = ends_as;
  }

  -- NOTES

  notes_are : log_notes settings k t ≡ log_notes_of settings k h
  notes_are = flat_same (log_note k t) (λ v. log_note_from v (length (volume_at k v).log) (entered_lines (h.volumes v))) 0 settings.volumes
      (λ v low high.
      let below : v < settings.volumes = omega (arith, high) in
      volume_note settings k t v (start.volumes v) (h.volumes v) ((ran.ends).volumes v below).follows (sym ((ran.opens).volumes v below).volume) (volume_behind v below))

  rows_are : row_note k (history_of settings k (cut_of nothing_yet) h) ≡ row_note_of k h
  rows_are = ap (λ z. record { from = length (k.directory).rows; rows = z }) (rows_noted (first_rows k) h.directory)

pub blocks_are_legal : BlocksAreLegal
blocks_are_legal settings start k before after items h faults fuses arms ran =
    let r = lanes_make_blocks settings start (length before) before after items nothing_yet h k (t ran) (lines ran) ran.may in
    let settled = r.1 in (
      subst (λ (n : List LogNote). LegalBlock settings k items n (row_note_of k h) (t ran)) (notes_are ran)
          (subst (λ (n : RowNote). LegalBlock settings k items (log_notes settings k (t ran)) n (t ran)) (rows_are ran) r.0),
      record { store = settled.store; regular = settled.regular; disks = settled.disks },
    )
