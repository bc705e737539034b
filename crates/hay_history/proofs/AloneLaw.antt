-- A line of lane 0 that came about by its own steps alone is legal as a plain turn.
use Rattle.std.proofs.Common.{◌≡◌, ℕ, [], ◌∷◌, refl, sym, subst}
use Rattle.hay_needle.specs.declared.settings.Settings.{Settings}
use Rattle.hay_script.specs.declared.Command.TheVariants as command
use Rattle.hay_legal.specs.declared.known.Known.{Known}
use Rattle.hay_legal.specs.declared.turn.Item.{Item}
use Rattle.hay_legal.specs.declared.turn.Item.TheVariants as asks
use Rattle.hay_legal.specs.declared.turn.LaneItem.{LaneItem}
use Rattle.hay_legal.specs.Known.{replica_on}
use Rattle.hay_legal.specs.Plain.{LegalItem, start_of}
use Rattle.hay_legal.specs.Blocks.{tag_of}
use Rattle.hay_history.specs.Histories.{History}
use Rattle.hay_history.specs.Commands.{Came, CameInLanes, LineDid, MayStandInLane}
use Rattle.hay_history.specs.Law.{LinesAreLegal, RunsOfPlain}
use Rattle.hay_history.proofs.Alone.{among}
use Rattle.hay_history.proofs.AloneCompacts.{compact_plain}
use Rattle.hay_history.proofs.AloneDels.{del_plain, flush_plain}
use Rattle.hay_history.proofs.AlonePuts.{put_plain}
use Rattle.hay_history.proofs.AloneReads.{get_plain, nothing_left, show_plain, url_plain}
use Rattle.hay_history.proofs.AloneRuns.{begin_plain, finish_plain, step_plain}
use Rattle.hay_history.proofs.AloneSettings.{drain_plain, fuse_dir_plain, fuse_plain, undrain_plain}
use Rattle.hay_history.proofs.InLanes.{in_lanes}
use Rattle.hay_history.proofs.Lines.{answered, course_of}

module _ (settings : Settings) (k t : Known) (history : History) (item : LaneItem) (lane : item.lane ≡ 0) (plain : RunsOfPlain settings k history)
    (h : Came settings k (item ∷ []) history t) where
  abbrev Legal : Item → Type 0
  Legal asked = LegalItem settings k (tag_of item) asked item.reply t

  abbrev laned : {asked : Item} → item.item ≡ asked → MayStandInLane asked → CameInLanes settings k (item ∷ []) history t
  laned is may = in_lanes settings k (item ∷ []) history t (subst MayStandInLane (sym is) may, tt) h

  -- its command, of those that stand in blocks too, and of the others
  line_legal : (asked : Item) → item.item ≡ asked → LineDid (course_of h item) asked item.reply → Legal asked
  line_legal (asks.Command (command.Put pair bytes)) is did = put_plain item (laned is tt) pair bytes item.reply did
  line_legal (asks.Command (command.Read pair cookie)) is did = show_plain item (laned is tt) (start_of settings (tag_of item)) pair cookie item.reply did
  line_legal (asks.Command (command.Get url)) is did = get_plain item (laned is tt) url (replica_on settings url.volume url.machine) item.reply did
  line_legal (asks.Command (command.Del pair)) is did = del_plain item (laned is tt) pair item.reply did
  line_legal (asks.Command (command.Url pair)) is did = url_plain item (laned is tt) pair item.reply did
  line_legal (asks.Command (command.Flush v m)) is did = flush_plain item (laned is tt) v m (replica_on settings v m) item.reply refl did
  line_legal (asks.Command (command.Compact v m)) is did = compact_plain item (laned is tt) v m (replica_on settings v m) item.reply refl did
  line_legal (asks.Command (command.Begin v m)) is did = begin_plain item h v m (replica_on settings v m) item.reply refl did
  line_legal (asks.Command (command.Step v m cells)) is did = step_plain item h lane plain v m cells (replica_on settings v m) item.reply refl did
  line_legal (asks.Command (command.Finish v m)) is did = finish_plain item h lane plain v m (replica_on settings v m) item.reply refl did
  line_legal (asks.Command (command.Drain m)) is did = drain_plain item h m item.reply did
  line_legal (asks.Command (command.Undrain m)) is did = undrain_plain item h m item.reply did
  line_legal (asks.Command (command.Fuse v m n)) is did = fuse_plain item h v m n (replica_on settings v m) item.reply refl did
  line_legal (asks.Command (command.FuseDir n)) is did = fuse_dir_plain item h n item.reply did
  line_legal (asks.Command (command.Restart pick)) is did = absurd did
  line_legal asks.Bad is did = (did.0, nothing_left item (laned is tt) did.1)

pub lines_are_legal : LinesAreLegal
lines_are_legal settings k t item history lane plain h =
    subst (λ (n : ℕ). LegalItem settings k (record { lane = n; line = item.line }) item.item item.reply t) lane
    (line_legal settings k t history item lane plain h item.item refl (answered h item (among item h)).did)
