-- A line that did what its reply says, as its lane saw it, was answered as it may be, whatever else happens in all.
use Rattle.std.proofs.Common.{ℕ, Bool, List, Option, None, Some}
use Rattle.hay_needle.specs.declared.settings.Settings.{Settings}
use Rattle.hay_script.specs.declared.Command.{Command}
use Rattle.hay_script.specs.declared.Command.TheVariants as command
use Rattle.hay_reply.specs.declared.Reply.{Reply}
use Rattle.hay_reply.specs.declared.Reply.TheVariants.{Drained, Fused, FusedDir, NoMem, Nowhere, Undrained}
use Rattle.hay_legal.specs.declared.known.Known.{Known}
use Rattle.hay_legal.specs.declared.turn.Item.{Item}
use Rattle.hay_legal.specs.declared.turn.Item.TheVariants as asks
use Rattle.hay_legal.specs.declared.turn.LaneItem.{LaneItem}
use Rattle.hay_legal.specs.Known.{replica_on}
use Rattle.hay_legal.specs.Plain.{start_of}
use Rattle.hay_legal.specs.Blocks.{tag_of}
use Rattle.hay_history.specs.LaneSteps.{RowDid}
use Rattle.hay_history.specs.Histories.{Course}
use Rattle.hay_history.specs.Commands.{DrainDid, FuseDid, FuseDirDid, LineDid, OnlyDidRow, UndrainDid}
use Rattle.hay_meeting.specs.Acts.{Happened, Start}
use Rattle.hay_meeting.specs.Chains.{GoesOn, Note}
use Rattle.hay_meeting.specs.Replies.{AnsweredHere, CommandDidHere, DidHere, DrainDidHere, FuseDidHere, FuseDirDidHere, OnlyDidRowHere, UndrainDidHere}
use Rattle.hay_meeting.specs.Sights.{Bears, Cut, Doings, IsLegalLine, Sight, Work}
use Rattle.hay_meeting.proofs.DelReplies.{del_did}
use Rattle.hay_meeting.proofs.Courses.{answered, c}
use Rattle.hay_meeting.proofs.PutReplies.{put_did}
use Rattle.hay_meeting.proofs.ReadReplies.{get_did, show_did, url_did}
use Rattle.hay_meeting.proofs.RunReplies.{begin_did, compact_did, finish_did, flush_did, only_did, step_did}
use Rattle.hay_meeting.proofs.Seeing.{did_nothing, no_steps, one_row_step}

module _ {settings : Settings} {start : Start} {drained : List Bool} {k : Known} {cut : Cut} {h : Happened} {item : LaneItem} {a b : Sight} {doings : Doings}
    (bears : Bears settings start drained k cut h item a b) (work : Work item a b doings) where
  abbrev line : Course
  line = c bears work

  only_did_row : {did : RowDid} → OnlyDidRowHere settings start drained item a b doings did → OnlyDidRow line did
  only_did_row (none, doing) = (no_steps bears work none, one_row_step bears work doing)

  drain_did : (m : ℕ) (reply : Reply) → DrainDidHere settings start drained item a b doings m reply → DrainDid line m reply
  drain_did m (Drained m') (same, below, only) = (same, below, only_did_row only)
  drain_did m Nowhere (above, none) = (above, did_nothing bears work none)
  drain_did m NoMem none = did_nothing bears work none
  drain_did m _ x = absurd x

  undrain_did : (m : ℕ) (reply : Reply) → UndrainDidHere settings start drained item a b doings m reply → UndrainDid line m reply
  undrain_did m (Undrained m') (same, below, only) = (same, below, only_did_row only)
  undrain_did m Nowhere (above, none) = (above, did_nothing bears work none)
  undrain_did m NoMem none = did_nothing bears work none
  undrain_did m _ x = absurd x

  fuse_did : (v m n : ℕ) (there : Option ℕ) (reply : Reply) → FuseDidHere settings start drained item a b doings v m n there reply → FuseDid line v m n there reply
  fuse_did v m n None Nowhere none = did_nothing bears work none
  fuse_did v m n None NoMem none = did_nothing bears work none
  fuse_did v m n None _ x = absurd x
  fuse_did v m n (Some j) (Fused v' m' n') (on, same, only) = (on, same, only_did bears work only)
  fuse_did v m n (Some j) NoMem none = did_nothing bears work none
  fuse_did v m n (Some j) _ x = absurd x

  fuse_dir_did : (n : ℕ) (reply : Reply) → FuseDirDidHere settings start drained item a b doings n reply → FuseDirDid line n reply
  fuse_dir_did n (FusedDir n') (same, only) = (same, only_did_row only)
  fuse_dir_did n NoMem none = did_nothing bears work none
  fuse_dir_did n _ x = absurd x

  command_did : (asked : Command) (reply : Reply) → CommandDidHere settings start drained item a b doings asked reply → LineDid line (asks.Command asked) reply
  command_did (command.Put pair bytes) reply x = put_did bears work pair bytes reply x
  command_did (command.Read pair cookie) reply x = show_did bears work (start_of settings (tag_of item)) pair cookie reply x
  command_did (command.Get url) reply x = get_did bears work url _ reply x
  command_did (command.Del pair) reply x = del_did bears work pair reply x
  command_did (command.Url pair) reply x = url_did bears work pair reply x
  command_did (command.Flush v m) reply x = flush_did bears work v m (replica_on settings v m) reply x
  command_did (command.Compact v m) reply x = compact_did bears work v m (replica_on settings v m) reply x
  command_did (command.Begin v m) reply x = begin_did bears work v m (replica_on settings v m) reply x
  command_did (command.Step v m cells) reply x = step_did bears work v m cells (replica_on settings v m) reply x
  command_did (command.Finish v m) reply x = finish_did bears work v m (replica_on settings v m) reply x
  command_did (command.Drain m) reply x = drain_did m reply x
  command_did (command.Undrain m) reply x = undrain_did m reply x
  command_did (command.Fuse v m n) reply x = fuse_did v m n (replica_on settings v m) reply x
  command_did (command.FuseDir n) reply x = fuse_dir_did n reply x
  command_did (command.Restart pick) reply x = x

  line_did : (asked : Item) (reply : Reply) → DidHere settings start drained item a b doings asked reply → LineDid line asked reply
  line_did (asks.Command asked) reply x = command_did asked reply x
  line_did asks.Bad reply (bad, none) = (bad, did_nothing bears work none)

pub is_legal_line : {settings : Settings} {start : Start} {drained : List Bool} {item : LaneItem} {a b : Sight} {doings : Doings} → Work item a b doings
    → DidHere settings start drained item a b doings item.item item.reply
    → IsLegalLine settings start drained a b item
is_legal_line {item} work did k cut h bears = answered bears work (line_did bears work item.item item.reply did)

pub goes_on : {settings : Settings} {start : Start} {drained : List Bool} (note : Note) → AnsweredHere settings start drained note.item note.before note.after → GoesOn settings start drained note
goes_on note x = record { doings = x.doings; work = x.work; legal = is_legal_line x.work x.did }
