-- The answers of flushes, of compactions step by step, of fuses and of drains, from their calls.
use Rattle.std.proofs.Common.{◌≡◌, inl, inr, ℕ, ◌<◌, ◌≤◌, Bool, true, false, List, [], ◌∷◌, refl, sym, subst, min, Some, None}
use Rattle.hay_needle.specs.declared.settings.Settings.{Settings}
use Rattle.hay_needle.specs.declared.settings.TheConstants.{LAST_GENERATION}
use Rattle.hay_script.specs.declared.Command.TheVariants as command
use Rattle.hay_reply.specs.declared.ClosedBy.{ClosedBy}
use Rattle.hay_reply.specs.declared.Reply.{Reply}
use Rattle.hay_reply.specs.declared.Reply.TheVariants as reply
use Rattle.hay_core.specs.declared.entry.CoreTag.{CoreTag}
use Rattle.hay_legal.specs.declared.known.Run.{Run}
use Rattle.hay_legal.specs.declared.turn.Item.TheVariants as asks
use Rattle.hay_legal.specs.declared.turn.LaneItem.{LaneItem}
use Rattle.hay_legal.specs.Known.{replica_at, replica_on}
use Rattle.hay_history.specs.LaneSteps.{Did}
use Rattle.hay_history.specs.Histories.{changes_it}
use Rattle.hay_meeting.specs.declared.act.VolumeAct.{VolumeAct}
use Rattle.hay_meeting.specs.Acts.{Start, did_of}
use Rattle.hay_meeting.specs.Facts.{Found, HasRunAt, IsLastDoing, RoseAt, volume_stood}
use Rattle.hay_meeting.specs.Locks.{Doing}
use Rattle.hay_meeting.specs.Replies.{BeginDidHere, BeginFailedHere, FinishDidHere, FlushDidHere, FuseDidHere, OnlyDidHere, StepDidHere, WentOnHere}
use Rattle.hay_meeting.specs.Sights.{Doings, Sight}
use Rattle.hay_holdings.specs.Lines.{IsAnswered, line_of}
use Rattle.hay_holdings.specs.Rows.{Drained, FusedDir}
use Rattle.hay_holdings.specs.Sights.{AtDirectory, AtVolume, doings_at, no_doings, on_volume, only_rows}
use Rattle.hay_holdings.specs.Volumes as calls
use Rattle.hay_holdings.specs.Volumes.{HasRunOf, RoseTo}
use Rattle.hay_holdings.proofs.Finding.{acted_at, acted_on_rows, found_at, one_doing, one_row_doing, one_try, rose_at}
use Rattle.hay_holdings.proofs.Going.{changed_other, last_here, quiet_went, work_of}

abbrev pub run_at : {settings : Settings} {start : Start} {drained : List Bool} {a b : Sight} {v j : ℕ} {who : CoreTag} {held : List VolumeAct} → HasRunOf settings start v j who held
    → HasRunAt settings start drained a b v j held who
run_at has = record { run = has.run; stands = has.stands; begun = has.begun }

module _ (settings : Settings) (start : Start) (drained : List Bool) (tag : CoreTag) (a b : Sight) where
  -- DRAINS, AND A FUSE OF THE DIRECTORY

  pub drains : {m : ℕ} → m < settings.machines → AtDirectory (Drained start tag m true) a b → IsAnswered settings start drained tag (command.Drain m) (reply.Drained m) a b
  drains below x =
      let acts = acted_on_rows x (λ held none. none) in
      record { doings = only_rows (acts.doing ∷ []); work = work_of acts.went; did = (refl, below, ((λ u. refl), one_row_doing acts.doing acts.is refl)) }

  pub undrains : {m : ℕ} → m < settings.machines → AtDirectory (Drained start tag m false) a b → IsAnswered settings start drained tag (command.Undrain m) (reply.Undrained m) a b
  undrains below x =
      let acts = acted_on_rows x (λ held none. none) in
      record { doings = only_rows (acts.doing ∷ []); work = work_of acts.went; did = (refl, below, ((λ u. refl), one_row_doing acts.doing acts.is refl)) }

  pub fuses_dir : {n : ℕ} → AtDirectory (FusedDir start tag) a b → IsAnswered settings start drained tag (command.FuseDir n) (reply.FusedDir n) a b
  fuses_dir x =
      let acts = acted_on_rows x (λ held none. none) in
      record { doings = only_rows (acts.doing ∷ []); work = work_of acts.went; did = (refl, ((λ u. refl), one_row_doing acts.doing acts.is refl)) }

  -- WHAT A HOLDING FOUND of the replica, or of a compaction that was not begun

  module _ {v : ℕ} (below : v < settings.volumes) where
    -- the volume was frozen as it was held
    pub frozen_at : {machine : ℕ} → AtVolume v (calls.MetFrozen settings start v tag machine) a b → Found settings start drained a b v (λ acts. (volume_stood start v acts).frozen ≡ Some machine)
    frozen_at x = found_at below x ((x.is).is).1

    -- a compaction stood as it was held, or there was no number for another
    pub busy_at : {j g : ℕ} → AtVolume v (calls.MetBusy settings start v tag j g) a b
        → Found settings start drained a b v (λ acts. ((volume_stood start v acts).frozen ≡ None) × ((run : Run) × ((replica_at (volume_stood start v acts) j).run ≡ Some run) × (run.goal ≡ g)))
    busy_at {j} {g} x = found_at below x (((x.is).is).1, ((x.is).is).2)

    pub worn_at : {j : ℕ} → AtVolume v (calls.MetWorn settings start v tag j) a b
        → Found settings start drained a b v (λ acts. ((volume_stood start v acts).frozen ≡ None) × ((replica_at (volume_stood start v acts) j).run ≡ None)
        × ((replica_at (volume_stood start v acts) j).generation ≡ LAST_GENERATION))
    worn_at {j} x = found_at below x (((x.is).is).1, ((x.is).is).2, ((x.is).is).3)

    -- one was not begun, since a call failed in the doing
    pub not_begun : {item : LaneItem} {j f : ℕ} (x : AtVolume v (calls.BeginFailed settings start v tag j f) a b)
        → BeginFailedHere settings start drained item a b (doings_at v ((acted_at x (λ held none. none.0)).doing ∷ []) []) v j f
    not_begun {j = j} x =
        let acts = acted_at x (λ held none. none.0) in record {
          below = below;
          rows = refl;
          elsewhere = changed_other v (acts.doing ∷ []);
          try = one_try v acts.doing (acts.is).0;
          thawed = (acts.is).1;
          at_rest = (acts.is).2;
          number = (acts.is).3;
          failed = rose_at (acts.is).4;
          last = last_here v acts.doing;
        }

  -- ONE ACT ON ONE REPLICA

  module _ (v m j : ℕ) (there : replica_on settings v m ≡ Some j) (below : v < settings.volumes) where
    -- it acted on the volume alone, and did this
    abbrev only_did : {item : LaneItem} {did : Did} (doing : Doing VolumeAct) → did_of (doing.act).did ≡ did → changes_it did ≡ true
        → OnlyDidHere settings start drained item a b (doings_at v (doing ∷ []) []) v did
    only_did doing is changes = record { below = below; rows = refl; elsewhere = changed_other v (doing ∷ []); doing = one_doing v doing is changes }

    failed_last : {f : ℕ} (doing : Doing VolumeAct) → RoseTo settings start v j f doing → RoseAt settings start drained a b v doing j f × IsLastDoing (on_volume v (doing ∷ []) v) doing
    failed_last doing rose = (rose_at rose, last_here v doing)

    pub fuses : {n : ℕ} → AtVolume v (calls.Fused settings start v tag j) a b → IsAnswered settings start drained tag (command.Fuse v m n) (reply.Fused v m n) a b
    fuses {n} x =
        let acts = acted_at x (λ held none. none) in
        let item : LaneItem = line_of tag (asks.Command (command.Fuse v m n)) (reply.Fused v m n) in
        let doings : Doings = doings_at v (acts.doing ∷ []) [] in record {
          doings = doings;
          work = work_of acts.went;
          did = subst (λ o. FuseDidHere settings start drained item a b doings v m n o (reply.Fused v m n)) (sym there) ((refl, refl), refl, only_did acts.doing acts.is refl);
        }

    -- FLUSHES

    -- what a flush did here is what the line did
    flushed_as : (r : Reply) (doings : Doings) → FlushDidHere settings start drained (line_of tag (asks.Command (command.Flush v m)) r) a b doings v m (Some j) r
        → FlushDidHere settings start drained (line_of tag (asks.Command (command.Flush v m)) r) a b doings v m (replica_on settings v m) r
    flushed_as r doings did = subst (λ o. FlushDidHere settings start drained (line_of tag (asks.Command (command.Flush v m)) r) a b doings v m o r) (sym there) did

    pub flush_done : {n : ℕ} → AtVolume v (calls.Flushed settings start v tag j n) a b → IsAnswered settings start drained tag (command.Flush v m) (reply.Flushed v m n) a b
    flush_done {n} x =
        let acts = acted_at x (λ held none. none.0) in
        let ds : List (Doing VolumeAct) = acts.doing ∷ [] in record {
          doings = doings_at v ds [];
          work = work_of acts.went;
          did = flushed_as (reply.Flushed v m n) (doings_at v ds []) (
            (refl, refl),
            record { below = below; rows = refl; elsewhere = changed_other v ds; doing = one_doing v acts.doing (acts.is).0 refl; number = (acts.is).1 },
          );
        }

    pub flush_failed : {f : ℕ} → AtVolume v (calls.FlushFailed settings start v tag j f) a b → IsAnswered settings start drained tag (command.Flush v m) (reply.Failed v m f) a b
    flush_failed {f} x =
        let acts = acted_at x (λ held none. none.0) in
        let ds : List (Doing VolumeAct) = acts.doing ∷ [] in record {
          doings = doings_at v ds [];
          work = work_of acts.went;
          did = flushed_as (reply.Failed v m f) (doings_at v ds []) (
            (refl, refl),
            record {
              below = below;
              rows = refl;
              elsewhere = changed_other v ds;
              doing = one_doing v acts.doing (acts.is).0 refl;
              failed = rose_at (acts.is).1;
              last = last_here v acts.doing;
            },
          );
        }

    abbrev by_machine : ℕ → List ClosedBy
    by_machine machine = record { volume = v; machine = machine } ∷ []

    pub flush_frozen : {machine : ℕ} → AtVolume v (calls.MetFrozen settings start v tag machine) a b
        → IsAnswered settings start drained tag (command.Flush v m) (reply.ReadOnly (by_machine machine)) a b
    flush_frozen {machine} x = record {
      doings = no_doings;
      work = work_of (quiet_went x ((x.is).is).0);
      did = flushed_as (reply.ReadOnly (by_machine machine)) no_doings (inl (refl, frozen_at below x), ((λ u. refl), refl));
    }

    pub flush_stuck : AtVolume v (calls.MetStuck settings start v tag j) a b → IsAnswered settings start drained tag (command.Flush v m) (reply.ReadOnly (by_machine m)) a b
    flush_stuck x =
        let found : Found settings start drained a b v (λ acts. ((volume_stood start v acts).frozen ≡ None) × ((replica_at (volume_stood start v acts) j).stuck ≡ true)) =
        found_at below x (((x.is).is).1, ((x.is).is).2) in record {
          doings = no_doings;
          work = work_of (quiet_went x ((x.is).is).0);
          did = flushed_as (reply.ReadOnly (by_machine m)) no_doings (inr ((refl, refl), found), ((λ u. refl), refl));
        }

    -- COMPACTIONS THAT BEGIN

    begun_as : (r : Reply) (doings : Doings) → BeginDidHere settings start drained (line_of tag (asks.Command (command.Begin v m)) r) a b doings v m (Some j) r
        → BeginDidHere settings start drained (line_of tag (asks.Command (command.Begin v m)) r) a b doings v m (replica_on settings v m) r
    begun_as r doings did = subst (λ o. BeginDidHere settings start drained (line_of tag (asks.Command (command.Begin v m)) r) a b doings v m o r) (sym there) did

    pub begin_done : {g : ℕ} → AtVolume v (calls.Begun settings start v tag j g) a b → IsAnswered settings start drained tag (command.Begin v m) (reply.Begun v m g) a b
    begin_done {g} x =
        let acts = acted_at x (λ held none. none.0) in
        let ds : List (Doing VolumeAct) = acts.doing ∷ [] in record {
          doings = doings_at v ds [];
          work = work_of acts.went;
          did = begun_as (reply.Begun v m g) (doings_at v ds []) ((refl, refl), (only_did acts.doing (acts.is).0 refl, (acts.is).2));
        }

    pub begin_frozen : {machine : ℕ} → AtVolume v (calls.MetFrozen settings start v tag machine) a b
        → IsAnswered settings start drained tag (command.Begin v m) (reply.ReadOnly (by_machine machine)) a b
    begin_frozen {machine} x = record {
      doings = no_doings;
      work = work_of (quiet_went x ((x.is).is).0);
      did = begun_as (reply.ReadOnly (by_machine machine)) no_doings ((refl, frozen_at below x), ((λ u. refl), refl));
    }

    pub begin_busy : {g : ℕ} → AtVolume v (calls.MetBusy settings start v tag j g) a b → IsAnswered settings start drained tag (command.Begin v m) (reply.Busy v m g) a b
    begin_busy {g} x = record {
      doings = no_doings;
      work = work_of (quiet_went x ((x.is).is).0);
      did = begun_as (reply.Busy v m g) no_doings ((refl, refl), ((λ u. refl), refl), busy_at below x);
    }

    pub begin_worn : AtVolume v (calls.MetWorn settings start v tag j) a b → IsAnswered settings start drained tag (command.Begin v m) (reply.Worn v m) a b
    begin_worn x = record {
      doings = no_doings;
      work = work_of (quiet_went x ((x.is).is).0);
      did = begun_as (reply.Worn v m) no_doings ((refl, refl), ((λ u. refl), refl), worn_at below x);
    }

    pub begin_failed : {f : ℕ} → AtVolume v (calls.BeginFailed settings start v tag j f) a b → IsAnswered settings start drained tag (command.Begin v m) (reply.Failed v m f) a b
    begin_failed {f} x =
        let acts = acted_at x (λ held none. none.0) in
        let ds : List (Doing VolumeAct) = acts.doing ∷ [] in record {
          doings = doings_at v ds [];
          work = work_of acts.went;
          did = begun_as (reply.Failed v m f) (doings_at v ds []) ((refl, refl), not_begun below x);
        }

    -- COMPACTIONS THAT A LINE OF THIS LANE HAS BEGUN

    -- a step on one of them
    abbrev went_on : {item : LaneItem} {who : CoreTag} {did : Did} (doing : Doing VolumeAct) → did_of (doing.act).did ≡ did → changes_it did ≡ true → who.lane ≡ item.lane
        → HasRunOf settings start v j who doing.held → WentOnHere settings start drained item a b (doings_at v (doing ∷ []) []) v j did
    went_on {who = who} doing is changes own has = record { only = only_did doing is changes; own = (who, own, run_at has) }

    -- none stood as it was held
    idle_at : AtVolume v (calls.MetIdle settings start v tag j) a b
        → Found settings start drained a b v (λ acts. ((volume_stood start v acts).frozen ≡ None)
        × (((who : CoreTag) × (who.lane ≡ tag.lane) × HasRunAt settings start drained a b v j acts who) → ⊥))
    idle_at x =
        found_at below x (
          ((x.is).is).1,
          (λ run. ((x.is).is).2 run.0 run.1 (record { run = (run.2).run; stands = (run.2).stands; begun = (run.2).begun })),
        )

    module _ (cells : ℕ) where
      stepped_as : (r : Reply) (doings : Doings) → StepDidHere settings start drained (line_of tag (asks.Command (command.Step v m cells)) r) a b doings v m cells (Some j) r
          → StepDidHere settings start drained (line_of tag (asks.Command (command.Step v m cells)) r) a b doings v m cells (replica_on settings v m) r
      stepped_as r doings did = subst (λ o. StepDidHere settings start drained (line_of tag (asks.Command (command.Step v m cells)) r) a b doings v m cells o r) (sym there) did

      pub step_done : {who : CoreTag} {n : ℕ} → who.lane ≡ tag.lane → AtVolume v (calls.Stepped settings start v tag j who n (λ left. n ≡ min cells left)) a b
          → IsAnswered settings start drained tag (command.Step v m cells) (reply.Stepped v m n) a b
      step_done {who} {n} own x =
          let acts = acted_at x (λ held none. none.0) in
          let ds : List (Doing VolumeAct) = acts.doing ∷ [] in record {
            doings = doings_at v ds [];
            work = work_of acts.went;
            did = stepped_as (reply.Stepped v m n) (doings_at v ds []) ((refl, refl), (went_on acts.doing (acts.is).0 refl own ((acts.is).1).0, ((acts.is).1).1));
          }

      -- some of them, and then memory was wanting
      pub step_wanted : {who : CoreTag} {n : ℕ} → who.lane ≡ tag.lane → AtVolume v (calls.Stepped settings start v tag j who n (λ left. n ≤ min cells left)) a b
          → IsAnswered settings start drained tag (command.Step v m cells) reply.NoMem a b
      step_wanted {who} {n} own x =
          let acts = acted_at x (λ held none. none.0) in
          let ds : List (Doing VolumeAct) = acts.doing ∷ [] in record {
            doings = doings_at v ds [];
            work = work_of acts.went;
            did = stepped_as reply.NoMem (doings_at v ds []) (inr (n, (went_on acts.doing (acts.is).0 refl own ((acts.is).1).0, ((acts.is).1).1)));
          }

      pub step_frozen : {machine : ℕ} → AtVolume v (calls.MetFrozen settings start v tag machine) a b
          → IsAnswered settings start drained tag (command.Step v m cells) (reply.ReadOnly (by_machine machine)) a b
      step_frozen {machine} x = record {
        doings = no_doings;
        work = work_of (quiet_went x ((x.is).is).0);
        did = stepped_as (reply.ReadOnly (by_machine machine)) no_doings ((refl, frozen_at below x), ((λ u. refl), refl));
      }

      pub step_idle : AtVolume v (calls.MetIdle settings start v tag j) a b → IsAnswered settings start drained tag (command.Step v m cells) (reply.Idle v m) a b
      step_idle x = record {
        doings = no_doings;
        work = work_of (quiet_went x ((x.is).is).0);
        did = stepped_as (reply.Idle v m) no_doings ((refl, refl), idle_at x, ((λ u. refl), refl));
      }

      pub step_failed : {who : CoreTag} {f : ℕ} → who.lane ≡ tag.lane → AtVolume v (calls.RunFailed settings start v tag j who f) a b
          → IsAnswered settings start drained tag (command.Step v m cells) (reply.Failed v m f) a b
      step_failed {who} {f} own x =
          let acts = acted_at x (λ held none. none.0) in
          let ds : List (Doing VolumeAct) = acts.doing ∷ [] in record {
            doings = doings_at v ds [];
            work = work_of acts.went;
            did = stepped_as (reply.Failed v m f) (doings_at v ds []) ((refl, refl), (went_on acts.doing (acts.is).0 refl own (acts.is).1, failed_last acts.doing (acts.is).2));
          }

    finished_as : (r : Reply) (doings : Doings) → FinishDidHere settings start drained (line_of tag (asks.Command (command.Finish v m)) r) a b doings v m (Some j) r
        → FinishDidHere settings start drained (line_of tag (asks.Command (command.Finish v m)) r) a b doings v m (replica_on settings v m) r
    finished_as r doings did = subst (λ o. FinishDidHere settings start drained (line_of tag (asks.Command (command.Finish v m)) r) a b doings v m o r) (sym there) did

    pub finish_frozen : {machine : ℕ} → AtVolume v (calls.MetFrozen settings start v tag machine) a b
        → IsAnswered settings start drained tag (command.Finish v m) (reply.ReadOnly (by_machine machine)) a b
    finish_frozen {machine} x = record {
      doings = no_doings;
      work = work_of (quiet_went x ((x.is).is).0);
      did = finished_as (reply.ReadOnly (by_machine machine)) no_doings ((refl, frozen_at below x), ((λ u. refl), refl));
    }

    pub finish_idle : AtVolume v (calls.MetIdle settings start v tag j) a b → IsAnswered settings start drained tag (command.Finish v m) (reply.Idle v m) a b
    finish_idle x = record {
      doings = no_doings;
      work = work_of (quiet_went x ((x.is).is).0);
      did = finished_as (reply.Idle v m) no_doings ((refl, refl), idle_at x, ((λ u. refl), refl));
    }

    module _ {who : CoreTag} (own : who.lane ≡ tag.lane) where
      pub finish_done : {g end cells : ℕ} → AtVolume v (calls.Switched settings start v tag j who g end cells false) a b
          → IsAnswered settings start drained tag (command.Finish v m) (reply.Compacted v m g) a b
      finish_done {g} {end} {cells} x =
          let acts = acted_at x (λ held none. none.0) in
          let ds : List (Doing VolumeAct) = acts.doing ∷ [] in record {
            doings = doings_at v ds [];
            work = work_of acts.went;
            did = finished_as (reply.Compacted v m g) (doings_at v ds []) ((refl, refl), (end, cells, went_on acts.doing (acts.is).0 refl own (acts.is).1, (acts.is).2));
          }

      -- the swap stands, and the volume is frozen for want of memory
      pub finish_froze : {g end cells : ℕ} → AtVolume v (calls.Switched settings start v tag j who g end cells true) a b
          → IsAnswered settings start drained tag (command.Finish v m) reply.NoMem a b
      finish_froze {g} {end} {cells} x =
          let acts = acted_at x (λ held none. none.0) in
          let ds : List (Doing VolumeAct) = acts.doing ∷ [] in record {
            doings = doings_at v ds [];
            work = work_of acts.went;
            did = finished_as reply.NoMem (doings_at v ds []) (inr (inr (end, cells, went_on acts.doing (acts.is).0 refl own (acts.is).1)));
          }

      pub finish_wanted : AtVolume v (calls.RunWanted settings start v tag j who) a b → IsAnswered settings start drained tag (command.Finish v m) reply.NoMem a b
      finish_wanted x =
          let acts = acted_at x (λ held none. none.0) in
          let ds : List (Doing VolumeAct) = acts.doing ∷ [] in record {
            doings = doings_at v ds [];
            work = work_of acts.went;
            did = finished_as reply.NoMem (doings_at v ds []) (inr (inl (went_on acts.doing (acts.is).0 refl own (acts.is).1)));
          }

      pub finish_failed : {f : ℕ} → AtVolume v (calls.RunFailed settings start v tag j who f) a b → IsAnswered settings start drained tag (command.Finish v m) (reply.Failed v m f) a b
      finish_failed {f} x =
          let acts = acted_at x (λ held none. none.0) in
          let ds : List (Doing VolumeAct) = acts.doing ∷ [] in record {
            doings = doings_at v ds [];
            work = work_of acts.went;
            did = finished_as (reply.Failed v m f) (doings_at v ds []) ((refl, refl), inl (went_on acts.doing (acts.is).0 refl own (acts.is).1, failed_last acts.doing (acts.is).2));
          }

      pub finish_poised : {f : ℕ} → AtVolume v (calls.SwapFailed settings start v tag j who m f) a b
          → IsAnswered settings start drained tag (command.Finish v m) (reply.Failed v m f) a b
      finish_poised {f} x =
          let acts = acted_at x (λ held none. none.0) in
          let ds : List (Doing VolumeAct) = acts.doing ∷ [] in record {
            doings = doings_at v ds [];
            work = work_of acts.went;
            did = finished_as (reply.Failed v m f) (doings_at v ds []) ((refl, refl), inr (went_on acts.doing (acts.is).0 refl own (acts.is).1, failed_last acts.doing (acts.is).2));
          }
