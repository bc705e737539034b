-- The answers of lines that changed nothing: for want of memory, nowhere, and to a line that is no command.
use Rattle.std.proofs.Common.{◌≡◌, ◌≢◌, inl, inr, ℕ, ◌≤◌, Bool, List, [], ◌++◌, refl, sym, ap, subst, ◌∙◌, Option, Some, None}
use Rattle.hay_needle.specs.declared.settings.Settings.{Settings}
use Rattle.hay_url.specs.declared.Url.{Url as UrlParts}
use Rattle.hay_script.specs.declared.Command.{Command}
use Rattle.hay_script.specs.declared.Command.TheVariants as command
use Rattle.hay_reply.specs.declared.Reply.TheVariants.{BadLine, NoMem, Nowhere}
use Rattle.hay_core.specs.declared.entry.CoreTag.{CoreTag}
use Rattle.hay_legal.specs.declared.turn.Item.TheVariants as asks
use Rattle.hay_legal.specs.declared.turn.LaneItem.{LaneItem}
use Rattle.hay_legal.specs.Known.{replica_on}
use Rattle.hay_meeting.specs.declared.act.VolumeAct.{VolumeAct}
use Rattle.hay_meeting.specs.Acts.{Start}
use Rattle.hay_meeting.specs.Facts.{NothingDone, changed, changed_rows}
use Rattle.hay_meeting.specs.Locks.{Doing}
use Rattle.hay_meeting.specs.Replies.{AnsweredHere, BeginDidHere, CommandDidHere, CompactDidHere, FinishDidHere, FlushDidHere, FuseDidHere, GetDidHere, StepDidHere}
use Rattle.hay_meeting.specs.Sights.{Sight}
use Rattle.hay_meeting.proofs.Phases.{and_then, changed_both, changed_rows_both}
use Rattle.hay_holdings.specs.Holdings.{doings_in}
use Rattle.hay_holdings.specs.Lines.{IsAnswered, Unchanged, line_of}
use Rattle.hay_holdings.specs.Rows.{ChangedNoRow}
use Rattle.hay_holdings.specs.Sights.{AtDirectory, AtVolume, Idle, doings_at, no_doings, only_rows}
use Rattle.hay_holdings.specs.Volumes.{ChangedNothing}
use Rattle.hay_holdings.proofs.Calls.{no_row_changed, nothing_changed}
use Rattle.hay_holdings.proofs.Going.{call_went, changed_nowhere, row_call_went, went_more, work_of}

-- WHAT CHANGES NOTHING

pub idle_unchanged : {tag : CoreTag} {a b : Sight} → Idle tag a b → Unchanged tag a b
idle_unchanged idle = record { doings = no_doings; went = idle; volumes = λ v. refl; rows = refl }

pub call_unchanged : (settings : Settings) (start : Start) {v : ℕ} {tag : CoreTag} {a b : Sight} → AtVolume v (ChangedNothing settings start v tag) a b → Unchanged tag a b
call_unchanged settings start {v = v} x =
    let ds : List (Doing VolumeAct) = doings_in (x.is).held (x.is).made in
    record { doings = doings_at v ds []; went = call_went x; volumes = changed_nowhere v ds (nothing_changed (x.is).held (x.is).made (x.is).is); rows = refl }

pub row_call_unchanged : (start : Start) {tag : CoreTag} {a b : Sight} → AtDirectory (ChangedNoRow start tag) a b → Unchanged tag a b
row_call_unchanged start x = record {
  doings = only_rows (doings_in (x.is).held (x.is).made);
  went = row_call_went x;
  volumes = λ v. refl;
  rows = no_row_changed (x.is).held (x.is).made (x.is).is;
}

pub unchanged_more : {tag : CoreTag} {a m b : Sight} → Unchanged tag a m → Unchanged tag m b → Unchanged tag a b
unchanged_more x y = record {
  doings = and_then x.doings y.doings;
  went = went_more x.went y.went;
  volumes = λ v. changed_both ((x.doings).volumes v) ((y.doings).volumes v) ∙ (ap (λ ds. ds ++ changed ((y.doings).volumes v)) (x.volumes v) ∙ y.volumes v);
  rows = changed_rows_both (x.doings).rows (y.doings).rows ∙ (ap (λ ds. ds ++ changed_rows (y.doings).rows) x.rows ∙ y.rows);
}

module _ (settings : Settings) (start : Start) (drained : List Bool) {tag : CoreTag} {a b : Sight} (un : Unchanged tag a b) where
  nothing : NothingDone settings start drained a b un.doings
  nothing = (un.volumes, un.rows)

  pub bad_line : AnsweredHere settings start drained (line_of tag asks.Bad BadLine) a b
  bad_line = record { doings = un.doings; work = work_of un.went; did = (refl, nothing) }

  -- WANT OF MEMORY

  wanting : (item : LaneItem) (c : Command) → ((pick : ℕ) → c ≢ command.Restart pick) → CommandDidHere settings start drained item a b un.doings c NoMem
  wanting item (command.Put pair bytes) other = inr (inl un.rows, inl un.volumes)
  wanting item (command.Read pair cookie) other = (un.rows, inl un.volumes)
  wanting item (command.Get url) other = elim (replica_on settings url.volume url.machine) as (λ (there : Option ℕ). GetDidHere settings start drained item a b un.doings url there NoMem) [
    | None ↦ (un.volumes, un.rows)
    | Some j ↦ (un.rows, inl un.volumes)
  ]
  wanting item (command.Del pair) other = (un.rows, inl un.volumes)
  wanting item (command.Url pair) other = (un.volumes, un.rows)
  wanting item (command.Flush v m) other = elim (replica_on settings v m) as (λ (there : Option ℕ). FlushDidHere settings start drained item a b un.doings v m there NoMem) [
    | None ↦ (un.volumes, un.rows)
    | Some j ↦ (un.volumes, un.rows)
  ]
  wanting item (command.Compact v m) other = elim (replica_on settings v m) as (λ (there : Option ℕ). CompactDidHere settings start drained item a b un.doings v m there NoMem) [
    | None ↦ (un.volumes, un.rows)
    | Some j ↦ inl (un.volumes, un.rows)
  ]
  wanting item (command.Begin v m) other = elim (replica_on settings v m) as (λ (there : Option ℕ). BeginDidHere settings start drained item a b un.doings v m there NoMem) [
    | None ↦ (un.volumes, un.rows)
    | Some j ↦ (un.volumes, un.rows)
  ]
  wanting item (command.Step v m cells) other = elim (replica_on settings v m) as (λ (there : Option ℕ). StepDidHere settings start drained item a b un.doings v m cells there NoMem) [
    | None ↦ (un.volumes, un.rows)
    | Some j ↦ inl (un.volumes, un.rows)
  ]
  wanting item (command.Finish v m) other = elim (replica_on settings v m) as (λ (there : Option ℕ). FinishDidHere settings start drained item a b un.doings v m there NoMem) [
    | None ↦ (un.volumes, un.rows)
    | Some j ↦ inl (un.volumes, un.rows)
  ]
  wanting item (command.Drain m) other = (un.volumes, un.rows)
  wanting item (command.Undrain m) other = (un.volumes, un.rows)
  wanting item (command.Fuse v m n) other = elim (replica_on settings v m) as (λ (there : Option ℕ). FuseDidHere settings start drained item a b un.doings v m n there NoMem) [
    | None ↦ (un.volumes, un.rows)
    | Some j ↦ (un.volumes, un.rows)
  ]
  wanting item (command.FuseDir n) other = (un.volumes, un.rows)
  wanting item (command.Restart pick) other = absurd (other pick refl)

  -- memory was wanting before anything was changed
  pub wants_memory : (c : Command) → ((pick : ℕ) → c ≢ command.Restart pick) → IsAnswered settings start drained tag c NoMem a b
  wants_memory c other = record { doings = un.doings; work = work_of un.went; did = wanting (line_of tag (asks.Command c) NoMem) c other }

  -- NO REPLICA, OR NO MACHINE, THERE

  module _ {v m : ℕ} (nowhere : replica_on settings v m ≡ None) where
    pub flush_nowhere : IsAnswered settings start drained tag (command.Flush v m) Nowhere a b
    flush_nowhere = record {
      doings = un.doings;
      work = work_of un.went;
      did = subst (λ there. FlushDidHere settings start drained (line_of tag (asks.Command (command.Flush v m)) Nowhere) a b un.doings v m there Nowhere) (sym nowhere) (un.volumes, un.rows);
    }

    pub compact_nowhere : IsAnswered settings start drained tag (command.Compact v m) Nowhere a b
    compact_nowhere = record {
      doings = un.doings;
      work = work_of un.went;
      did = subst (λ there. CompactDidHere settings start drained (line_of tag (asks.Command (command.Compact v m)) Nowhere) a b un.doings v m there Nowhere) (sym nowhere) (un.volumes, un.rows);
    }

    pub begin_nowhere : IsAnswered settings start drained tag (command.Begin v m) Nowhere a b
    begin_nowhere = record {
      doings = un.doings;
      work = work_of un.went;
      did = subst (λ there. BeginDidHere settings start drained (line_of tag (asks.Command (command.Begin v m)) Nowhere) a b un.doings v m there Nowhere) (sym nowhere) (un.volumes, un.rows);
    }

    pub step_nowhere : {cells : ℕ} → IsAnswered settings start drained tag (command.Step v m cells) Nowhere a b
    step_nowhere {cells} = record {
      doings = un.doings;
      work = work_of un.went;
      did = subst (λ there. StepDidHere settings start drained (line_of tag (asks.Command (command.Step v m cells)) Nowhere) a b un.doings v m cells there Nowhere) (sym nowhere) (un.volumes, un.rows);
    }

    pub finish_nowhere : IsAnswered settings start drained tag (command.Finish v m) Nowhere a b
    finish_nowhere = record {
      doings = un.doings;
      work = work_of un.went;
      did = subst (λ there. FinishDidHere settings start drained (line_of tag (asks.Command (command.Finish v m)) Nowhere) a b un.doings v m there Nowhere) (sym nowhere) (un.volumes, un.rows);
    }

    pub fuse_nowhere : {n : ℕ} → IsAnswered settings start drained tag (command.Fuse v m n) Nowhere a b
    fuse_nowhere {n} = record {
      doings = un.doings;
      work = work_of un.went;
      did = subst (λ there. FuseDidHere settings start drained (line_of tag (asks.Command (command.Fuse v m n)) Nowhere) a b un.doings v m n there Nowhere) (sym nowhere) (un.volumes, un.rows);
    }

  pub get_nowhere : {url : UrlParts} → replica_on settings url.volume url.machine ≡ None → IsAnswered settings start drained tag (command.Get url) Nowhere a b
  get_nowhere {url} nowhere = record {
    doings = un.doings;
    work = work_of un.went;
    did = subst (λ there. GetDidHere settings start drained (line_of tag (asks.Command (command.Get url)) Nowhere) a b un.doings url there Nowhere) (sym nowhere) (un.volumes, un.rows);
  }

  pub drain_nowhere : {m : ℕ} → settings.machines ≤ m → IsAnswered settings start drained tag (command.Drain m) Nowhere a b
  drain_nowhere above = record { doings = un.doings; work = work_of un.went; did = (above, (un.volumes, un.rows)) }

  pub undrain_nowhere : {m : ℕ} → settings.machines ≤ m → IsAnswered settings start drained tag (command.Undrain m) Nowhere a b
  undrain_nowhere above = record { doings = un.doings; work = work_of un.went; did = (above, (un.volumes, un.rows)) }
