-- The answer of a whole compaction, from its calls.
use Rattle.std.proofs.Common.{◌≡◌, inl, inr, ℕ, zero, suc, ◌<◌, ◌≤◌, Bool, true, false, List, [], ◌∷◌, ◌++◌, length, map, refl, sym, ap, subst, ◌∙◌, arith, append-nil}
use Rattle.std.proofs.Common.{length-append, Option, Some, None}
use Rattle.std.specs.Prelude.{slice_index_or, slice_set}
use Rattle.std.specs.List.{AllByRecursion as Each}
use Rattle.std.proofs.lemmas.Option.{none-some}
use mathlib.Core.List.{IsPrefix}
use Rattle.hay_needle.specs.declared.settings.Settings.{Settings}
use Rattle.hay_needle.specs.Tables.{live_end}
use Rattle.hay_script.specs.declared.Command.TheVariants as command
use Rattle.hay_reply.specs.declared.ClosedBy.{ClosedBy}
use Rattle.hay_reply.specs.declared.Reply.{Reply}
use Rattle.hay_reply.specs.declared.Reply.TheVariants as reply
use Rattle.hay_core.specs.declared.entry.CoreTag.{CoreTag}
use Rattle.hay_legal.specs.declared.known.ReplicaKnown.{ReplicaKnown}
use Rattle.hay_legal.specs.declared.known.Run.{Run}
use Rattle.hay_legal.specs.declared.known.VolumeKnown.{VolumeKnown}
use Rattle.hay_legal.specs.declared.turn.Item.{Item}
use Rattle.hay_legal.specs.declared.turn.Item.TheVariants as asks
use Rattle.hay_legal.specs.Known.{empty_replica, now, replica_at, replica_on}
use Rattle.hay_legal.specs.Plain.{frozen_by, poised, swapped, without_run}
use Rattle.hay_legal.proofs.Subject.Effects.{each_append}
use Rattle.hay_history.specs.LaneSteps.{Did, Standing, change_at}
use Rattle.hay_history.specs.LaneSteps.Did.{Ends, Examines, Poises, Swaps}
use Rattle.hay_history.proofs.Changes.{changed_at, rested_at}
use Rattle.hay_history.specs.Histories.{begun_in, changes_it}
use Rattle.hay_history.proofs.Lists.{each_both, each_kept, each_weaker}
use Rattle.hay_turn.proofs.Prefixes.{prefix_trans}
use Rattle.hay_meeting.specs.declared.act.VolumeAct.{VolumeAct}
use Rattle.hay_meeting.specs.declared.act.VolumeDid.{VolumeDid}
use Rattle.hay_meeting.specs.declared.act.VolumeDid.TheVariants as act
use Rattle.hay_meeting.specs.Acts.{Start, begun_of, did_of, examined, examined_by, known_by, nobody, volume_lock}
use Rattle.hay_meeting.specs.Facts.{IsLastDoing, RoseAt, changed, volume_stood}
use Rattle.hay_meeting.specs.Locks.{Doing, Held, IsDoing, Worked, entries, past}
use Rattle.hay_meeting.specs.Replies.{CompactDidHere, RanAsHere, RanFrozenHere, RanHere, RanUntilHere}
use Rattle.hay_meeting.specs.Sights.{Doings, Sight}
use Rattle.hay_meeting.proofs.Chaining.{same_at}
use Rattle.hay_meeting.proofs.Phases.{changed_both, doing_wider, last_behind}
use Rattle.hay_meeting.proofs.Replays.{entries_prefix, left_append, prefix_length}
use Rattle.hay_meeting.proofs.Standings.{begun_append}
use Rattle.hay_holdings.specs.Holdings.{doings_in}
use Rattle.hay_holdings.specs.Lines.{Compacting, IsAnswered, line_of}
use Rattle.hay_holdings.specs.Sights.{AtVolume, Idle, Went, doings_at, no_doings, on_volume}
use Rattle.hay_holdings.specs.Volumes as calls
use Rattle.hay_holdings.specs.Volumes.{EndedAt, HasRunOf, RoseTo}
use Rattle.hay_holdings.proofs.Calls.{holding_held, nothing_changed, one_changed}
use Rattle.hay_holdings.proofs.Finding.{acted_at, rose_at}
use Rattle.hay_holdings.proofs.Going.{call_went, changed_here, changed_other, on_here, quiet_went, went_at_both, went_idle, work_of}
use Rattle.hay_holdings.proofs.Lists.{prefix_by_length}
use Rattle.hay_holdings.proofs.WorkAnswers.{busy_at, frozen_at, not_begun, run_at, worn_at}

-- WHAT AN ACT LEAVES OF A RUN

-- a replica with a run that is set is there
set_there : (rs : List ReplicaKnown) (j : ℕ) (new : ReplicaKnown) (run : Run) → (slice_index_or rs j empty_replica).run ≡ Some run
    → slice_index_or (slice_set rs j new) j empty_replica ≡ new
set_there [] j new run stands = absurd (none-some run stands)
set_there (r ∷ rs) zero new run stands = refl
set_there (r ∷ rs) (suc j) new run stands = set_there rs j new run stands

changed_there : (volume : VolumeKnown) (j : ℕ) (change : ReplicaKnown → ReplicaKnown) (run : Run) → (replica_at volume j).run ≡ Some run
    → replica_at (change_at volume j change) j ≡ change (replica_at volume j)
changed_there volume j change run stands = set_there volume.replicas j (change (replica_at volume j)) run stands

run_rested : (rs : List ReplicaKnown) (j : ℕ) → (slice_index_or (map without_run rs) j empty_replica).run ≡ None
run_rested rs j = ap (λ (r : ReplicaKnown). r.run) (rested_at rs j)

-- these end the compaction of a replica
abbrev EndsRun : Did → ℕ → Type 0
EndsRun (Ends i) j = i ≡ j
EndsRun (Swaps i end cells freezes) j = i ≡ j
EndsRun (Poises m i) j = i ≡ j
EndsRun _ j = ⊥

module _ (tag : CoreTag) (volume : VolumeKnown) (j : ℕ) (run : Run) (stands : (replica_at volume j).run ≡ Some run) where
  -- where the change of the replica i, which is j, takes its run
  taken : (i : ℕ) (change : ReplicaKnown → ReplicaKnown) → ((r : ReplicaKnown) → (change r).run ≡ None) → i ≡ j → (replica_at (change_at volume i change) j).run ≡ None
  taken i change takes same =
      subst (λ (n : ℕ). (replica_at (change_at volume n change) j).run ≡ None) (sym same)
      (ap (λ (r : ReplicaKnown). r.run) (changed_there volume j change run stands) ∙ takes (replica_at volume j))

  poises_none : (m i : ℕ) → (replica_at (change_at (frozen_by m volume) i poised) j).run ≡ None
  poises_none m i = elim (changed_at (frozen_by m volume) i poised j) [
    | inl same ↦ ap (λ (r : ReplicaKnown). r.run) same ∙ run_rested volume.replicas j
    | inr new ↦ ap (λ (r : ReplicaKnown). r.run) new.1 ∙ run_rested volume.replicas j
  ]

  none_behind : (d : VolumeDid) → EndsRun (did_of d) j → (replica_at (known_by tag d volume) j).run ≡ None
  none_behind (act.Ends i) same = taken i without_run (λ r. refl) same
  none_behind (act.Swaps i end cells None) same = taken i (swapped end cells) (λ r. refl) same
  none_behind (act.Swaps i end cells (Some m)) same = run_rested (change_at volume i (swapped end cells)).replicas j
  none_behind (act.Poises m i) same = poises_none m i
  none_behind _ other = absurd other

  -- and this keeps it
  stands_on : (n : ℕ) (d : VolumeDid) → did_of d ≡ Examines j n → (new : Run) × ((replica_at (known_by tag d volume) j).run ≡ Some new)
  stands_on n (act.Examines i k) same =
      let at : i ≡ j = ap examined_replica same in
      subst (λ (o : ℕ). (new : Run) × ((replica_at (change_at volume o (examined k)) j).run ≡ Some new)) (sym at)
      (_, ap (λ (r : ReplicaKnown). r.run) (changed_there volume j (examined k) run stands) ∙ ap (λ (o : Option Run). (examined_by k o (replica_at volume j)).run) stands)
    where
      examined_replica : Did → ℕ
      examined_replica (Examines i k) = i
      examined_replica _ = j
  stands_on n _ same = absurd (cc same)

module _ (settings : Settings) (start : Start) (v j : ℕ) where
  past_volume : (doing : Doing VolumeAct) → volume_stood start v (past doing) ≡ known_by (doing.act).tag (doing.act).did (volume_stood start v doing.held)
  past_volume doing = ap (λ (s : Standing). s.volume) (left_append volume_lock (start.volumes v) doing.held (doing.act ∷ []))

  ends_there : {who : CoreTag} (doing : Doing VolumeAct) → HasRunOf settings start v j who doing.held → EndsRun (did_of (doing.act).did) j
      → (replica_at (volume_stood start v (past doing)) j).run ≡ None
  ends_there doing has ends =
      ap (λ (z : VolumeKnown). (replica_at z j).run) (past_volume doing)
      ∙ none_behind (doing.act).tag (volume_stood start v doing.held) j has.run has.stands (doing.act).did ends

  runs_on : {who : CoreTag} {n : ℕ} (doing : Doing VolumeAct) → HasRunOf settings start v j who doing.held → did_of (doing.act).did ≡ Examines j n → HasRunOf settings start v j who (past doing)
  runs_on {who} {n} doing has is =
      let on = stands_on (doing.act).tag (volume_stood start v doing.held) j has.run has.stands n (doing.act).did is in record {
        run = on.0;
        stands = ap (λ (z : VolumeKnown). (replica_at z j).run) (past_volume doing) ∙ on.1;
        begun = begun_append j nobody doing.held (doing.act ∷ []) ∙ (ap (λ (d : Did). begun_in j (doing.act).tag d (begun_of j nobody doing.held)) is ∙ has.begun);
      }

-- IN ITS COURSE

module _ (settings : Settings) (start : Start) (drained : List Bool) (tag : CoreTag) (v j : ℕ) where
  abbrev On : Sight → Sight → Type 0
  On a b = Compacting settings start drained tag v j a b

  pub compact_begins : {g : ℕ} {a b : Sight} → AtVolume v (calls.Begun settings start v tag j g) a b → On a b
  compact_begins x =
      let acts = acted_at x (λ held none. none.0) in record {
        doings = acts.doing ∷ [];
        went = acts.went;
        first = acts.doing;
        begins = (acts.is).0;
        middle = [];
        examines = tt;
        steps = one_changed acts.doing (acts.is).0 refl;
        stood = (acts.is).1;
        stand = tt;
      }

  module _ {a m : Sight} (c : On a m) where
    -- a doing more that changed something
    steps_more : {did : Did} (doing : Doing VolumeAct) → did_of (doing.act).did ≡ did → changes_it did ≡ true → changed (c.doings ++ doing ∷ []) ≡ c.first ∷ (c.middle ++ doing ∷ [])
    steps_more doing is changes =
        changed_both c.doings (doing ∷ []) ∙ (ap (λ ds. ds ++ changed (doing ∷ [])) c.steps ∙ ap (λ ds. c.first ∷ (c.middle ++ ds)) (one_changed doing is changes))

    pub compact_steps : {b : Sight} {n : ℕ} (AsMany : ℕ → Type 0) → AtVolume v (calls.Stepped settings start v tag j tag n AsMany) m b → On a b
    compact_steps {b} {n} AsMany x =
        let acts = acted_at x (λ held none. none.0) in
        let doing : Doing VolumeAct = acts.doing in record {
          doings = c.doings ++ doing ∷ [];
          went = went_at_both v c.doings (acts.doing ∷ []) c.went acts.went;
          first = c.first;
          begins = c.begins;
          middle = c.middle ++ doing ∷ [];
          examines = each_append (λ d. (n : ℕ) × (did_of (d.act).did ≡ Examines j n)) c.middle (doing ∷ []) c.examines ((n, (acts.is).0), tt);
          steps = steps_more doing (acts.is).0 refl;
          stood = c.stood;
          stand = each_append (λ d. HasRunOf settings start v j tag (past d)) c.middle (doing ∷ []) c.stand (runs_on settings start v j doing ((acts.is).1).0 (acts.is).0, tt);
        }

    -- it goes on without an act, or with one that changed nothing
    pub compact_on : {b : Sight} → Idle tag m b → On a b
    compact_on idle = record {
      doings = c.doings;
      went = went_idle c.went idle;
      first = c.first;
      begins = c.begins;
      middle = c.middle;
      examines = c.examines;
      steps = c.steps;
      stood = c.stood;
      stand = c.stand;
    }

    pub compact_waits : {b : Sight} → AtVolume v (calls.ChangedNothing settings start v tag) m b → On a b
    compact_waits x =
        let ds : List (Doing VolumeAct) = doings_in (x.is).held (x.is).made in record {
          doings = c.doings ++ ds;
          went = went_at_both v c.doings ds c.went (call_went x);
          first = c.first;
          begins = c.begins;
          middle = c.middle;
          examines = c.examines;
          steps = changed_both c.doings ds ∙ (ap (λ es. changed c.doings ++ es) (nothing_changed (x.is).held (x.is).made (x.is).is) ∙ (append-nil (changed c.doings) ∙ c.steps));
          stood = c.stood;
          stand = c.stand;
        }

    -- its doings lie between
    worked_there : Worked volume_lock tag (a.volumes v) (m.volumes v) c.doings
    worked_there = subst (Worked volume_lock tag (a.volumes v) (m.volumes v)) (on_here v c.doings) ((c.went).volumes v)

    lie : Each (IsDoing volume_lock (a.volumes v) (m.volumes v)) (c.first ∷ c.middle)
    lie = subst (Each (IsDoing volume_lock (a.volumes v) (m.volumes v))) c.steps
        (each_kept (IsDoing volume_lock (a.volumes v) (m.volumes v)) (λ d. changes_it (did_of (d.act).did)) c.doings worked_there.each)

    -- ITS END by a doing of its own

    module _ (b : Sight) (below : v < settings.volumes) {did : Did} (doing : Doing VolumeAct) (is : did_of (doing.act).did ≡ did) (changes : changes_it did ≡ true) (ends : EndsRun did j)
        (has : HasRunOf settings start v j tag doing.held) (between : IsDoing volume_lock (m.volumes v) (b.volumes v) doing) where
      is_behind : (d : Doing VolumeAct) → IsDoing volume_lock (a.volumes v) (m.volumes v) d → length d.held < length doing.held
      is_behind d lies =
          let l = prefix_length (past d) doing.held (prefix_trans (past d) (m.volumes v).seen doing.held lies.to between.from) in
          omega (arith, l, length-append d.held (d.act ∷ []))

      abbrev ran_own : {item : Item} {said : Reply} → RanHere settings start drained (line_of tag item said) a b (doings_at v (c.doings ++ doing ∷ []) []) v j (doing ∷ [])
      ran_own = record {
        below = below;
        rows = refl;
        elsewhere = changed_other v (c.doings ++ doing ∷ []);
        first = c.first;
        begins = c.begins;
        middle = c.middle;
        examines = c.examines;
        steps = changed_here v (c.doings ++ doing ∷ []) (steps_more doing is changes);
        until = doing;
        ran = record {
          between = doing_wider volume_lock worked_there.later (same_at (b.volumes v)) doing between;
          own = run_at has;
          none = ends_there settings start v j doing has (subst (λ (d : Did). EndsRun d j) (sym is) ends);
        };
        behind_it = is_behind c.first lie.0;
        inside = each_weaker (IsDoing volume_lock (a.volumes v) (m.volumes v)) (λ d. length d.held < length doing.held) is_behind c.middle lie.1;
      }

      abbrev ran_as : {item : Item} {said : Reply} → RanAsHere settings start drained (line_of tag item said) a b (doings_at v (c.doings ++ doing ∷ []) []) v j did
      ran_as = record { doing = doing; is = is; ran = ran_own; last = refl }

      failed_there : {f : ℕ} → RoseTo settings start v j f doing → RoseAt settings start drained a b v doing j f × IsLastDoing (on_volume v (c.doings ++ doing ∷ []) v) doing
      failed_there rose = (
        rose_at rose,
        subst (λ ds. IsLastDoing ds doing) (sym (on_here v (c.doings ++ doing ∷ []))) (last_behind volume_lock (doing ∷ []) doing worked_there between (omega arith, tt)),
      )

      -- the sizes of a swap, where no entry came in its course
      tight_there : {end cells : ℕ} → calls.IsTightSince settings start v j end cells doing.held
          → (volume_stood start v doing.held).log ≡ (volume_stood start v (c.first).held).log
          → (end ≡ live_end (now (volume_stood start v doing.held) (replica_at (volume_stood start v doing.held) j)))
          × (cells ≡ length (now (volume_stood start v doing.held) (replica_at (volume_stood start v doing.held) j)))
      tight_there tight = tight c.first (prefix_trans (past c.first) (m.volumes v).seen doing.held (lie.0).to between.from) c.begins

    -- ITS END by an act of another line

    module _ (b : Sight) (below : v < settings.volumes) {held : List VolumeAct} (found : Held volume_lock (m.volumes v) (b.volumes v) held) (ended : EndedAt settings start v j tag held) where
      abbrev until : Doing VolumeAct
      until = ended.until

      -- what stood behind each of its doings stood before it
      is_before : (d : Doing VolumeAct) → IsDoing volume_lock (a.volumes v) (m.volumes v) d → HasRunOf settings start v j tag (past d) → length (past d) ≤ length until.held
      is_before d lies has = ended.last (past d) (prefix_trans (past d) (m.volumes v).seen held lies.to found.from) has

      is_inside : (d : Doing VolumeAct) → IsDoing volume_lock (a.volumes v) (m.volumes v) d → HasRunOf settings start v j tag (past d) → length d.held < length until.held
      is_inside d lies has = let l = is_before d lies has in omega (arith, l, length-append d.held (d.act ∷ []))

      first_before : IsPrefix (c.first).held until.held
      first_before =
          prefix_trans (c.first).held (past c.first) until.held ((c.first).act ∷ [], refl)
          (prefix_by_length (past c.first) until.held held (prefix_trans (past c.first) (m.volumes v).seen held (lie.0).to found.from)
          (prefix_trans until.held (past until) held (until.act ∷ [], refl) ended.within) (is_before c.first lie.0 c.stood))

      until_between : IsDoing volume_lock (a.volumes v) (b.volumes v) until
      until_between = record {
        from = prefix_trans (a.volumes v).seen (c.first).held until.held (lie.0).from first_before;
        shown_from =
            prefix_trans (a.volumes v).shown (entries volume_lock (c.first).held) (entries volume_lock until.held) (lie.0).shown_from
            (entries_prefix volume_lock (c.first).held until.held first_before);
        to = prefix_trans (past until) held (b.volumes v).seen ended.within found.to;
        shown_to = prefix_trans (entries volume_lock (past until)) (entries volume_lock held) (b.volumes v).shown (entries_prefix volume_lock (past until) held ended.within) found.shown_to;
      }

      found_behind : Held volume_lock (a.volumes v) (b.volumes v) held
      found_behind =
          let later = worked_there.later in record {
            from = prefix_trans (a.volumes v).seen (m.volumes v).seen held later.seen found.from;
            shown_from = prefix_trans (a.volumes v).shown (m.volumes v).shown (entries volume_lock held) later.shown found.shown_from;
            to = found.to;
            shown_to = found.shown_to;
          }

      abbrev ran_others : {item : Item} {said : Reply} → RanHere settings start drained (line_of tag item said) a b (doings_at v c.doings []) v j []
      ran_others = record {
        below = below;
        rows = refl;
        elsewhere = changed_other v c.doings;
        first = c.first;
        begins = c.begins;
        middle = c.middle;
        examines = c.examines;
        steps = changed_here v c.doings (c.steps ∙ ap (λ ds. c.first ∷ ds) (sym (append-nil c.middle)));
        until = until;
        ran = record { between = until_between; own = run_at ended.own; none = ended.none };
        behind_it = is_inside c.first lie.0 c.stood;
        inside = each_both (IsDoing volume_lock (a.volumes v) (m.volumes v)) (λ d. HasRunOf settings start v j tag (past d)) (λ d. length d.held < length until.held) is_inside c.middle lie.1 c.stand;
      }

  -- THE ANSWERS

  module _ (m : ℕ) (there : replica_on settings v m ≡ Some j) (below : v < settings.volumes) where
    compacted_as : (a b : Sight) (r : Reply) (doings : Doings) → CompactDidHere settings start drained (line_of tag (asks.Command (command.Compact v m)) r) a b doings v m (Some j) r
        → CompactDidHere settings start drained (line_of tag (asks.Command (command.Compact v m)) r) a b doings v m (replica_on settings v m) r
    compacted_as a b r doings did = subst (λ o. CompactDidHere settings start drained (line_of tag (asks.Command (command.Compact v m)) r) a b doings v m o r) (sym there) did

    abbrev by_machine : ℕ → List ClosedBy
    by_machine machine = record { volume = v; machine = machine } ∷ []

    -- it was not begun
    module _ {a b : Sight} where
      pub compact_frozen : {machine : ℕ} → AtVolume v (calls.MetFrozen settings start v tag machine) a b
          → IsAnswered settings start drained tag (command.Compact v m) (reply.ReadOnly (by_machine machine)) a b
      compact_frozen {machine} x = record {
        doings = no_doings;
        work = work_of (quiet_went x ((x.is).is).0);
        did = compacted_as a b (reply.ReadOnly (by_machine machine)) no_doings (inl ((refl, frozen_at settings start drained tag a b below x), ((λ u. refl), refl)));
      }

      pub compact_busy : {g : ℕ} → AtVolume v (calls.MetBusy settings start v tag j g) a b → IsAnswered settings start drained tag (command.Compact v m) (reply.Busy v m g) a b
      compact_busy {g} x = record {
        doings = no_doings;
        work = work_of (quiet_went x ((x.is).is).0);
        did = compacted_as a b (reply.Busy v m g) no_doings ((refl, refl), ((λ u. refl), refl), busy_at settings start drained tag a b below x);
      }

      pub compact_worn : AtVolume v (calls.MetWorn settings start v tag j) a b → IsAnswered settings start drained tag (command.Compact v m) (reply.Worn v m) a b
      compact_worn x = record {
        doings = no_doings;
        work = work_of (quiet_went x ((x.is).is).0);
        did = compacted_as a b (reply.Worn v m) no_doings ((refl, refl), ((λ u. refl), refl), worn_at settings start drained tag a b below x);
      }

      pub compact_not_begun : {f : ℕ} → AtVolume v (calls.BeginFailed settings start v tag j f) a b → IsAnswered settings start drained tag (command.Compact v m) (reply.Failed v m f) a b
      compact_not_begun {f} x =
          let acts = acted_at x (λ held none. none.0) in
          let ds : List (Doing VolumeAct) = acts.doing ∷ [] in record {
            doings = doings_at v ds [];
            work = work_of acts.went;
            did = compacted_as a b (reply.Failed v m f) (doings_at v ds []) ((refl, refl), inl (not_begun settings start drained tag a b below x));
          }

    module _ {a k b : Sight} (c : On a k) where
      pub compact_done : {g end cells : ℕ} → AtVolume v (calls.Swapped settings start v tag j tag g end cells false) k b
          → IsAnswered settings start drained tag (command.Compact v m) (reply.Compacted v m g) a b
      compact_done {g} {end} {cells} x =
          let acts = acted_at x (λ held none. (none.0).0) in
          let doing : Doing VolumeAct = acts.doing in
          let ds : List (Doing VolumeAct) = c.doings ++ doing ∷ [] in record {
            doings = doings_at v ds [];
            work = work_of (went_at_both v c.doings (acts.doing ∷ []) c.went acts.went);
            did = compacted_as a b (reply.Compacted v m g) (doings_at v ds []) (
              (refl, refl),
              (
                end,
                cells,
                ran_as c b below doing ((acts.is).0).0 refl refl ((acts.is).0).1 acts.between,
                ((acts.is).0).2,
                tight_there c b below doing ((acts.is).0).0 refl refl ((acts.is).0).1 acts.between (acts.is).1,
              ),
            );
          }

      pub compact_froze : {g end cells : ℕ} → AtVolume v (calls.Swapped settings start v tag j tag g end cells true) k b
          → IsAnswered settings start drained tag (command.Compact v m) reply.NoMem a b
      compact_froze {g} {end} {cells} x =
          let acts = acted_at x (λ held none. (none.0).0) in
          let doing : Doing VolumeAct = acts.doing in
          let ds : List (Doing VolumeAct) = c.doings ++ doing ∷ [] in record {
            doings = doings_at v ds [];
            work = work_of (went_at_both v c.doings (acts.doing ∷ []) c.went acts.went);
            did = compacted_as a b reply.NoMem (doings_at v ds []) (inr (inr (inl (
              end,
              cells,
              ran_as c b below doing ((acts.is).0).0 refl refl ((acts.is).0).1 acts.between,
              tight_there c b below doing ((acts.is).0).0 refl refl ((acts.is).0).1 acts.between (acts.is).1,
            ))));
          }

      pub compact_wanted : AtVolume v (calls.RunWanted settings start v tag j tag) k b → IsAnswered settings start drained tag (command.Compact v m) reply.NoMem a b
      compact_wanted x =
          let acts = acted_at x (λ held none. none.0) in
          let ds : List (Doing VolumeAct) = c.doings ++ acts.doing ∷ [] in record {
            doings = doings_at v ds [];
            work = work_of (went_at_both v c.doings (acts.doing ∷ []) c.went acts.went);
            did = compacted_as a b reply.NoMem (doings_at v ds []) (inr (inl (ran_as c b below acts.doing (acts.is).0 refl refl (acts.is).1 acts.between)));
          }

      pub compact_failed : {f : ℕ} → AtVolume v (calls.RunFailed settings start v tag j tag f) k b → IsAnswered settings start drained tag (command.Compact v m) (reply.Failed v m f) a b
      compact_failed {f} x =
          let acts = acted_at x (λ held none. none.0) in
          let doing : Doing VolumeAct = acts.doing in
          let ds : List (Doing VolumeAct) = c.doings ++ doing ∷ [] in record {
            doings = doings_at v ds [];
            work = work_of (went_at_both v c.doings (acts.doing ∷ []) c.went acts.went);
            did = compacted_as a b (reply.Failed v m f) (doings_at v ds []) (
              (refl, refl),
              inr (inl (
                ran_as c b below doing (acts.is).0 refl refl (acts.is).1 acts.between,
                failed_there c b below doing (acts.is).0 refl refl (acts.is).1 acts.between (acts.is).2,
              )),
            );
          }

      pub compact_poised : {f : ℕ} → AtVolume v (calls.SwapFailed settings start v tag j tag m f) k b → IsAnswered settings start drained tag (command.Compact v m) (reply.Failed v m f) a b
      compact_poised {f} x =
          let acts = acted_at x (λ held none. none.0) in
          let doing : Doing VolumeAct = acts.doing in
          let ds : List (Doing VolumeAct) = c.doings ++ doing ∷ [] in record {
            doings = doings_at v ds [];
            work = work_of (went_at_both v c.doings (acts.doing ∷ []) c.went acts.went);
            did = compacted_as a b (reply.Failed v m f) (doings_at v ds []) (
              (refl, refl),
              inr (inr (inl (
                ran_as c b below doing (acts.is).0 refl refl (acts.is).1 acts.between,
                failed_there c b below doing (acts.is).0 refl refl (acts.is).1 acts.between (acts.is).2,
              ))),
            );
          }

      -- a delete of another line had ended it
      module _ {f : ℕ} (x : AtVolume v (calls.RunDeleted settings start v tag j tag f) k b) where
        until_here : {item : Item} {said : Reply} → RanUntilHere settings start drained (line_of tag item said) a b (doings_at v c.doings []) v j f
        until_here = record {
          ran = ran_others c b below (holding_held volume_lock (x.is).holding) (((x.is).is).2).0;
          thawed = (((x.is).is).2).1;
          rose = rose_at (((x.is).is).2).2;
        }

        went_until : Went tag a b (doings_at v c.doings [])
        went_until = went_idle c.went (quiet_went x ((x.is).is).0)

        pub compact_deleted : IsAnswered settings start drained tag (command.Compact v m) (reply.Failed v m f) a b
        compact_deleted = record {
          doings = doings_at v c.doings [];
          work = work_of went_until;
          did = compacted_as a b (reply.Failed v m f) (doings_at v c.doings []) ((refl, refl), inr (inr (inr until_here)));
        }

        pub compact_deleted_wanted : IsAnswered settings start drained tag (command.Compact v m) reply.NoMem a b
        compact_deleted_wanted = record {
          doings = doings_at v c.doings [];
          work = work_of went_until;
          did = compacted_as a b reply.NoMem (doings_at v c.doings []) (inr (inr (inr (inl (f, until_here)))));
        }

      -- the volume had been frozen in its course
      module _ {machine : ℕ} (x : AtVolume v (calls.RunFrozen settings start v tag j tag machine) k b) where
        frozen_here : {item : Item} {said : Reply} → RanFrozenHere settings start drained (line_of tag item said) a b (doings_at v c.doings []) v j machine
        frozen_here =
            let held = holding_held volume_lock (x.is).holding in record {
              ran = ran_others c b below held ((x.is).is).1;
              found = record { below = below; held = (x.is).held; between = found_behind c b below held ((x.is).is).1; is = ((((x.is).is).1).within, ((x.is).is).2) };
            }

        went_frozen : Went tag a b (doings_at v c.doings [])
        went_frozen = went_idle c.went (quiet_went x ((x.is).is).0)

        pub compact_met_frozen : IsAnswered settings start drained tag (command.Compact v m) (reply.ReadOnly (by_machine machine)) a b
        compact_met_frozen = record {
          doings = doings_at v c.doings [];
          work = work_of went_frozen;
          did = compacted_as a b (reply.ReadOnly (by_machine machine)) (doings_at v c.doings []) (inr (refl, frozen_here));
        }

        pub compact_frozen_wanted : IsAnswered settings start drained tag (command.Compact v m) reply.NoMem a b
        compact_frozen_wanted = record {
          doings = doings_at v c.doings [];
          work = work_of went_frozen;
          did = compacted_as a b reply.NoMem (doings_at v c.doings []) (inr (inr (inr (inr (machine, frozen_here)))));
        }
