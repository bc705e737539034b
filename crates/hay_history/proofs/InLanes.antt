-- Lines that may stand in a block did what lines of blocks do.
use Rattle.std.specs.Prelude.{List}
use Rattle.std.specs.List.{AllByRecursion as Each}
use Rattle.hay_needle.specs.declared.settings.Settings.{Settings}
use Rattle.hay_script.specs.declared.Command.TheVariants as command
use Rattle.hay_reply.specs.declared.Reply.{Reply}
use Rattle.hay_legal.specs.declared.known.Known.{Known}
use Rattle.hay_legal.specs.declared.turn.Item.{Item}
use Rattle.hay_legal.specs.declared.turn.Item.TheVariants as asks
use Rattle.hay_legal.specs.declared.turn.LaneItem.{LaneItem}
use Rattle.hay_history.specs.Histories.{Course, History}
use Rattle.hay_history.specs.Commands.{AnsweredBy, Came, CameInLanes, ItemDid, LineDid, MayStandInLane, course}
use Rattle.hay_history.proofs.Lists.{each_both}

lane_did : (c : Course) (item : Item) (reply : Reply) → MayStandInLane item → LineDid c item reply → ItemDid c item reply
lane_did c (asks.Command (command.Put pair bytes)) reply may did = did
lane_did c (asks.Command (command.Read pair cookie)) reply may did = did
lane_did c (asks.Command (command.Get url)) reply may did = did
lane_did c (asks.Command (command.Del pair)) reply may did = did
lane_did c (asks.Command (command.Url pair)) reply may did = did
lane_did c (asks.Command (command.Flush v m)) reply may did = did
lane_did c (asks.Command (command.Compact v m)) reply may did = did
lane_did c (asks.Command (command.Begin v m)) reply may did = absurd may
lane_did c (asks.Command (command.Step v m cells)) reply may did = absurd may
lane_did c (asks.Command (command.Finish v m)) reply may did = absurd may
lane_did c (asks.Command (command.Drain m)) reply may did = absurd may
lane_did c (asks.Command (command.Undrain m)) reply may did = absurd may
lane_did c (asks.Command (command.Fuse v m n)) reply may did = absurd may
lane_did c (asks.Command (command.FuseDir n)) reply may did = absurd may
lane_did c (asks.Command (command.Restart pick)) reply may did = absurd may
lane_did c asks.Bad reply may did = did

pub answered_in_lane : (c : Course) (item : LaneItem) → MayStandInLane item.item → AnsweredBy LineDid c item → AnsweredBy ItemDid c item
answered_in_lane c item may h =
    record { later = h.later; steps = h.steps; rows = h.rows; did = lane_did c item.item item.reply may h.did }

abbrev pub in_lanes : (settings : Settings) (k : Known) (items : List LaneItem) (history : History) (t : Known) → Each (λ item. MayStandInLane item.item) items
    → Came settings k items history t → CameInLanes settings k items history t
in_lanes settings k items history t may h = record {
  store = h.store;
  regular = h.regular;
  distinct = h.distinct;
  lanes = h.lanes;
  follows = h.follows;
  follows_rows = h.follows_rows;
  lines = h.lines;
  row_lines = h.row_lines;
  from = h.from;
  to = h.to;
  answers = each_both (λ item. MayStandInLane item.item) (λ item. AnsweredBy LineDid (course settings k history h.from h.to item) item)
      (λ item. AnsweredBy ItemDid (course settings k history h.from h.to item) item)
      (λ item. answered_in_lane (course settings k history h.from h.to item) item) items may h.answers;
  first = h.first;
  «order» = h.«order»;
  last = h.last;
  volumes = h.volumes;
  directory = h.directory;
  count = h.count;
  slots = h.slots;
  faults = h.faults;
  arms = h.arms;
  faults_end = h.faults_end;
  arms_end = h.arms_end;
}
