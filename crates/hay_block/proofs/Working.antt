-- A block that lanes ran is legal.
use Rattle.std.proofs.Common.{◌≡◌, ◌≢◌, ◌<◌, ◌≤◌, ℕ, List, map, length, sym, ap, subst, ◌∙◌, arith, Some, slice_get}
use Rattle.std.specs.Prelude.{Bool}
use Rattle.std.proofs.lemmas.List.{length-map}
use Rattle.hay_needle.specs.declared.settings.Settings.{Settings}
use Rattle.hay_script.specs.declared.words.TheConstants.{MAX_LANES}
use Rattle.hay_core.specs.declared.entry.Entry.{Entry}
use Rattle.hay_reply.specs.declared.Reply.{Reply}
use Rattle.hay_legal.specs.declared.known.HomeRow.{HomeRow}
use Rattle.hay_legal.specs.declared.known.Known.{Known}
use Rattle.hay_legal.specs.declared.turn.LaneItem.{LaneItem}
use Rattle.hay_legal.specs.Known.{EachPair, arm_count}
use Rattle.hay_history.proofs.Lists.{each_weaker}
use Rattle.hay_meeting.specs.declared.act.DirAct.{DirAct}
use Rattle.hay_meeting.specs.declared.act.VolumeAct.{VolumeAct}
use Rattle.hay_meeting.specs.Acts.{Happened, Start}
use Rattle.hay_meeting.specs.Chains.{AreLanes, ArmsAre}
use Rattle.hay_meeting.specs.Locks.{LockSight}
use Rattle.hay_meeting.specs.Sights.{Sight}
use Rattle.hay_lane.specs.declared.lane.Lane.{Lane}
use Rattle.hay_lane.specs.declared.lane.Shared.{Shared}
use Rattle.hay_shared_volume.specs.Tellings.{StoreVolume}
use Rattle.hay_lanes.proofs.Results.{unmapped}
use Rattle.hay_block.specs.declared.worker.Job.{Job}
use Rattle.hay_block.specs.Behind.{CountsBehind, known_behind}
use Rattle.hay_block.specs.Ends.{IsNew, LocksEnded, RowsEnded, VolumeEnded}
use Rattle.hay_shared_volume.specs.Ends.{unseen}
use Rattle.hay_block.specs.Law.{BlockRan}
use Rattle.hay_block.specs.Lines.{AreItems}
use Rattle.hay_block.specs.Seats.{HasNewSeats}
use Rattle.hay_block.specs.Lanes.{LanesAreLegal, LanesRan}
use Rattle.hay_block.proofs.Chaining.{items_stand, lanes_answered, still_sit}
use Rattle.hay_block.proofs.Legal.{blocks_are_legal}
use Rattle.hay_block.proofs.Lists.{each_by, each_mapped}
use Rattle.hay_block.proofs.Knowing.{known, known_at, new_lane, rows_known, unknown_past}

module _ {V D S T A : Type 0} {fits : ℕ → V → Settings → ℕ → S → Type 0} {fits_rows : D → Settings → ℕ → T → Type 0} {is_at : S → StoreVolume → Type 0} {is_at_rows : T → Start → Type 0}
    {of : S → LockSight VolumeAct Entry} {of_rows : T → LockSight DirAct HomeRow} {arm_sure : A → Bool} {arm_faults : A → ℕ}
    {shared : Shared V D} {start : Start} {k : Known} {lanes after : List (Lane S T A)} {jobs : List (List Job)} {replies : List (List Reply)} {h : Happened} {faults fuses arms : List ℕ}
    (ran : LanesRan fits fits_rows is_at is_at_rows of of_rows arm_sure arm_faults shared start k lanes after jobs replies h faults fuses arms) where
  abbrev sights : List (Lane S T A) → List Sight
  sights ls = map (known of of_rows arm_faults) ls

  many : (ls : List (Lane S T A)) → length (sights ls) ≡ length ls
  many ls = length-map ls (known of of_rows arm_faults)

  -- the arms' counts of lanes
  arms_are : (ls : List (Lane S T A)) (j : Known) → ((lane : ℕ) (l : Lane S T A) → slice_get ls lane ≡ Some l → arm_faults l.arm ≡ arm_count j lane) → ArmsAre (sights ls) j
  arms_are ls j each lane s at =
      let l = unmapped (known of of_rows arm_faults) ls lane s at in
      ap (λ (z : Sight). z.arm) (sym l.2) ∙ each lane l.0 l.1

  -- WHERE ALL LOCKS ENDED

  long : (lane : ℕ) (l : Lane S T A) → slice_get after lane ≡ Some l → length (l.volumes).items ≡ (shared.settings).volumes
  long lane l at = ((still_sit fits fits_rows is_at is_at_rows of of_rows arm_sure arm_faults shared start ran.given ran.sits ran.answers lane l at).seated).seats

  ended : LocksEnded shared.settings start (sights after) h
  ended = record {
    volumes = λ v below.
        let e = ran.ends v below in
        subst (λ z. VolumeEnded shared.settings start v z (h.volumes v)) (known_at of of_rows arm_faults v after e.seats e.of_lanes) e.ended;
    no_others = ran.no_others;
    unknown = each_mapped (known of of_rows arm_faults) (λ (s : Sight). (v : ℕ) → (shared.settings).volumes ≤ v → s.volumes v ≡ unseen) after
        (each_by (λ (l : Lane S T A). (v : ℕ) → (shared.settings).volumes ≤ v → (known of of_rows arm_faults l).volumes v ≡ unseen) after
        (λ lane l at v high. unknown_past of of_rows arm_faults l v (let e = long lane l at in omega (arith, high, e))));
    directory = subst (λ z. RowsEnded start z h.directory) (rows_known of of_rows arm_faults after) ran.directory;
  }

  lines : (items : List LaneItem) → AreItems jobs replies items → AreLanes shared.settings start k.drained (length (sights lanes)) (sights lanes) (sights after) items
  lines items are =
      subst (λ (z : List Bool). AreLanes shared.settings start z (length (sights lanes)) (sights lanes) (sights after) items) ran.drained
      (subst (λ n. AreLanes shared.settings start (shared.drained).items n (sights lanes) (sights after) items) (sym (many lanes))
      (lanes_answered fits fits_rows is_at is_at_rows of of_rows arm_sure arm_faults shared start ran.given ran.sits ran.answers items are))

  block : (items : List LaneItem) → AreItems jobs replies items → EachPair (λ a b. a.line ≢ b.line) items
      → BlockRan shared.settings start k (sights lanes) (sights after) items h faults fuses arms
  block items are distinct = record {
    opens = ran.opens;
    some = subst (λ n. 0 < n) (sym (many lanes)) ran.some;
    few = subst (λ n. n ≤ MAX_LANES) (sym (many lanes)) ran.few;
    new = each_mapped (known of of_rows arm_faults) IsNew lanes (each_weaker (HasNewSeats of of_rows) (λ l. IsNew (known of of_rows arm_faults l)) (new_lane of of_rows arm_faults) lanes ran.new);
    arms_before = arms_are lanes k ran.arms_before;
    lines = lines items are;
    distinct = distinct;
    may = items_stand (ran.answers).lanes_stay ran.served are;
    same = many after ∙ ((ran.answers).workers_stay ∙ sym (many lanes));
    ends = ended;
    counts = subst (λ n. CountsBehind shared.settings start n h k faults fuses arms) (sym (many lanes)) ran.counts;
    arms_behind = arms_are after (known_behind shared.settings start h faults fuses arms) ran.arms_behind;
  }

pub lanes_are_legal : LanesAreLegal
lanes_are_legal V D S T A fits fits_rows is_at is_at_rows of of_rows arm_sure arm_faults shared start k lanes after jobs replies h faults fuses arms ran items are distinct =
    blocks_are_legal shared.settings start k (sights ran lanes) (sights ran after) items h faults fuses arms (block ran items are distinct)
