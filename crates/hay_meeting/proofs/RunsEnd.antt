-- A compaction that stood and stands no more was ended by some act between.
use Rattle.std.proofs.Common.{◌≡◌, ◌⊎◌, inl, inr, ℕ, Bool, false, List, [], ◌∷◌, ◌++◌, length, map, refl, sym, ap, subst, ◌∙◌, append_assoc, Option, Some, None, option_map}
use Rattle.std.proofs.lemmas.Option.{none-some}
use Rattle.std.proofs.lemmas.Bool.{ne_eqb}
use mathlib.Core.List.{IsPrefix}
use Rattle.hay_needle.specs.declared.settings.Settings.{Settings}
use Rattle.hay_core.specs.declared.entry.CoreTag.{CoreTag}
use Rattle.hay_core.specs.declared.entry.Entry.TheVariants as entry
use Rattle.hay_legal.specs.declared.known.ReplicaKnown.{ReplicaKnown}
use Rattle.hay_legal.specs.declared.known.Run.{Run}
use Rattle.hay_legal.specs.declared.known.VolumeKnown.{VolumeKnown}
use Rattle.hay_legal.specs.Known.{replica_at}
use Rattle.hay_legal.specs.Plain.{grown, run_grown, swapped, with_bare, with_stuck, without_run}
use Rattle.hay_history.specs.LaneSteps.{Follows, Leads, Standing, change_at}
use Rattle.hay_history.specs.LaneSteps.Did.{Ends, Swaps}
use Rattle.hay_history.specs.Histories.{begun_in}
use Rattle.hay_turn.proofs.Prefixes.{prefix_trans}
use Rattle.hay_history.proofs.Changes.{changed_at, ended_at, mapped_at}
use Rattle.hay_meeting.specs.declared.act.VolumeAct.{VolumeAct}
use Rattle.hay_meeting.specs.declared.act.VolumeDid.{VolumeDid}
use Rattle.hay_meeting.specs.declared.act.VolumeDid.TheVariants as act
use Rattle.hay_meeting.specs.Acts.{Start, begun_at, begun_of, did_of, examined, examined_by, known_by, left_by, nobody, volume_lock}
use Rattle.hay_meeting.specs.Facts.{HasRunAt, volume_stood}
use Rattle.hay_meeting.specs.Locks.{Doing, Held, entries, left, past, replayed}
use Rattle.hay_meeting.specs.CompactionEnds.{FoundEnded, HowEnded, RunEnded}
use Rattle.hay_meeting.specs.Sights.{Sight, stood}
use Rattle.hay_meeting.proofs.Replays.{entries_prefix, left_append}
use Rattle.hay_meeting.proofs.Standings.{begun_append, follows_behind}
use Rattle.hay_meeting.specs.CompactionEnds.HowEnded.{ByDelete, ByEnd, ByFreeze, BySwap}

-- where a change keeps runs, one that stood stands
kept_run : (volume : VolumeKnown) (i j : ℕ) (change : ReplicaKnown → ReplicaKnown) (run : Run)
    → ((r : ReplicaKnown) (run : Run) → r.run ≡ Some run → (new : Run) × ((change r).run ≡ Some new))
    → (replica_at volume j).run ≡ Some run → (replica_at (change_at volume i change) j).run ≡ None → ⊥
kept_run volume i j change run keeps stands none = elim (changed_at volume i change j) [
  | inl same ↦ none-some run (sym none ∙ (ap (λ (r : ReplicaKnown). r.run) same ∙ stands))
  | inr new ↦ let r = keeps (replica_at volume j) run stands in none-some r.0 (sym none ∙ (ap (λ (r : ReplicaKnown). r.run) new.1 ∙ r.1))
]

-- or it was a change of that replica
changed_run : (volume : VolumeKnown) (i j : ℕ) (change : ReplicaKnown → ReplicaKnown) (run : Run)
    → (replica_at volume j).run ≡ Some run → (replica_at (change_at volume i change) j).run ≡ None → i ≡ j
changed_run volume i j change run stands none = elim (changed_at volume i change j) [
  | inl same ↦ absurd (none-some run (sym none ∙ (ap (λ (r : ReplicaKnown). r.run) same ∙ stands)))
  | inr new ↦ new.0
]

examined_keeps : (n : ℕ) (r : ReplicaKnown) (run : Run) → r.run ≡ Some run → (new : Run) × ((examined n r).run ≡ Some new)
examined_keeps n r run stands = subst (λ (o : Option Run). (new : Run) × ((examined_by n o r).run ≡ Some new)) (sym stands) (_, refl)

module _ (settings : Settings) (v : ℕ) (x : VolumeAct) (s : Standing) (j : ℕ) (run : Run) (stands : (replica_at s.volume j).run ≡ Some run) where
  abbrev after_of : VolumeDid → VolumeKnown
  after_of d = known_by x.tag d s.volume

  by_put : (size : ℕ) → (replica_at (record s.volume { replicas = map (grown size) (s.volume).replicas }) j).run ≡ None → ⊥
  by_put size none = elim (mapped_at (grown size) (s.volume).replicas j) [
    | inl new ↦ none-some (run_grown run) (sym none ∙ (ap (λ (r : ReplicaKnown). r.run) new ∙ ap (option_map run_grown) stands))
    | inr same ↦ none-some run (sym none ∙ (ap (λ (r : ReplicaKnown). r.run) same ∙ stands))
  ]

  how : (d : VolumeDid) → x.did ≡ d → Leads settings v x.tag (did_of d) s (left_by x s) → (replica_at (after_of d) j).run ≡ None → HowEnded j x s (left_by x s)
  how act.Tries is leads none = absurd (none-some run (sym none ∙ stands))
  how (act.Entered (entry.Put pair cookie bytes) ended) is leads none = absurd (by_put (length bytes) none)
  how (act.Entered (entry.Del pair) ended) is (thawed, (which, rose, same)) none =
      let after : replica_at (left_by x s).volume j ≡ replica_at (after_of (act.Entered (entry.Del pair) ended)) j = ap (λ (d : VolumeDid). replica_at (after_of d) j) is in
      elim (ended_at which (s.volume).replicas j) [
        | inl as_it_was ↦ absurd (none-some run (sym none ∙ (ap (λ (r : ReplicaKnown). r.run) (sym after)
            ∙ (ap (λ (z : VolumeKnown). (replica_at z j).run) same ∙ (ap (λ (r : ReplicaKnown). r.run) as_it_was ∙ stands)))))
        | inr by ↦ ByDelete pair (ap did_of is) (rose j by.0) (ap (λ (z : VolumeKnown). z.frozen) same ∙ thawed)
      ]
  how (act.Pends m change failed) is leads none = ByFreeze m (ap (λ (d : VolumeDid). (after_of d).frozen) is)
  how (act.Freezes m) is leads none = ByFreeze m (ap (λ (d : VolumeDid). (after_of d).frozen) is)
  how (act.Flushes i) is leads none = absurd (kept_run s.volume i j (with_bare 0) run (λ r run stands. (run, stands)) stands none)
  how (act.Sticks i) is leads none = absurd (kept_run s.volume i j with_stuck run (λ r run stands. (run, stands)) stands none)
  how (act.Begins i) is leads none = absurd (kept_run s.volume i j begun_at run (λ r run stands. (_, refl)) stands none)
  how (act.Examines i n) is leads none = absurd (kept_run s.volume i j (examined n) run (λ r run stands. examined_keeps n r run stands) stands none)
  how (act.Ends i) is leads none = ByEnd (ap did_of is ∙ ap Ends (changed_run s.volume i j without_run run stands none))
  how (act.Swaps i end cells (Some m)) is leads none = ByFreeze m (ap (λ (d : VolumeDid). (after_of d).frozen) is)
  how (act.Swaps i end cells None) is leads none =
      BySwap end cells (ap did_of is ∙ ap (λ (n : ℕ). Swaps n end cells false) (changed_run s.volume i j (swapped end cells) run stands none))
  how (act.Poises m i) is leads none = ByFreeze m (ap (λ (d : VolumeDid). (after_of d).frozen) is)
  how (act.Fuses i) is leads none = absurd (none-some run (sym none ∙ stands))

  -- an act behind which it stands began none
  not_begun : (tag : CoreTag) (d : VolumeDid) → Leads settings v x.tag (did_of d) s (left_by x s) → begun_in j x.tag (did_of d) tag ≡ tag
  not_begun tag act.Tries leads = refl
  not_begun tag (act.Entered change ended) leads = refl
  not_begun tag (act.Pends m change failed) leads = refl
  not_begun tag (act.Freezes m) leads = refl
  not_begun tag (act.Flushes i) leads = refl
  not_begun tag (act.Sticks i) leads = refl
  not_begun tag (act.Begins i) (thawed, within, at_rest, less, same) =
      rw (ne_eqb i j (λ e. none-some run (sym at_rest ∙ subst (λ (n : ℕ). (replica_at s.volume n).run ≡ Some run) (sym e) stands))) refl
  not_begun tag (act.Examines i n) leads = refl
  not_begun tag (act.Ends i) leads = refl
  not_begun tag (act.Swaps i end cells frozen) leads = refl
  not_begun tag (act.Poises m i) leads = refl
  not_begun tag (act.Fuses i) leads = refl

some_or_none : (o : Option Run) → ((run : Run) × (o ≡ Some run)) ⊎ (o ≡ None)
some_or_none None = inr refl
some_or_none (Some run) = inl (run, refl)

pub run_ended : (settings : Settings) (v : ℕ) (s : Standing) (j : ℕ) (tag : CoreTag) (run : Run) (acts : List VolumeAct) → Follows settings v s (replayed volume_lock s acts)
    → (replica_at s.volume j).run ≡ Some run → (replica_at (left volume_lock s acts).volume j).run ≡ None → RunEnded s j tag acts
run_ended settings v s j tag run [] follows stands none = absurd (none-some run (sym none ∙ stands))
run_ended settings v s j tag run (x ∷ acts) (leads, falls, fuses, rest) stands none =
    elim (some_or_none (replica_at (left_by x s).volume j).run) [
      | inl still ↦
          let more = run_ended settings v (left_by x s) j tag still.0 acts rest still.1 none in record {
            held = x ∷ more.held;
            act = more.act;
            later = more.later;
            parts = ap (λ z. x ∷ z) more.parts;
            run = more.run;
            stood = more.stood;
            begun = ap (λ (t : CoreTag). begun_of j t more.held) (not_begun settings v x s j run stands tag x.did leads) ∙ more.begun;
            none = more.none;
            how = more.how;
          }
      | inr ended ↦ record {
        held = [];
        act = x;
        later = acts;
        parts = refl;
        run = run;
        stood = stands;
        begun = refl;
        none = ended;
        how = how settings v x s j run stands x.did refl leads ended;
      }
    ]

-- The line's compaction stood as one holding found it, and as a later one found it there was none.
pub found_ended : {settings : Settings} {start : Start} {drained : List Bool} {a b : Sight} {v j : ℕ} {tag : CoreTag} (held more : List VolumeAct)
    → Follows settings v (start.volumes v) (replayed volume_lock (start.volumes v) (held ++ more))
    → Held volume_lock (a.volumes v) (b.volumes v) held → Held volume_lock (a.volumes v) (b.volumes v) (held ++ more)
    → HasRunAt settings start drained a b v j held tag → (replica_at (volume_stood start v (held ++ more)) j).run ≡ None
    → FoundEnded settings start drained a b v j tag held
found_ended {settings} {start} {drained} {a} {b} {v} {j} {tag} held more follows first last has none =
    let s : Standing = stood start v held in
    let e = run_ended settings v s j tag has.run more (follows_behind settings v (start.volumes v) held more follows) has.stands
    (ap (λ (z : Standing). (replica_at z.volume j).run) (sym (left_append volume_lock (start.volumes v) held more)) ∙ none) in
    let until : Doing VolumeAct = record { held = held ++ e.held; act = e.act } in
    let before : stood start v (held ++ e.held) ≡ left volume_lock s e.held = left_append volume_lock (start.volumes v) held e.held in
    let after : stood start v (past until) ≡ left_by e.act (left volume_lock s e.held) =
    left_append volume_lock (start.volumes v) (held ++ e.held) (e.act ∷ []) ∙ ap (left_by e.act) before in
    let whole : past until ++ e.later ≡ held ++ more =
    append_assoc (held ++ e.held) (e.act ∷ []) e.later ∙ (append_assoc held e.held (e.act ∷ e.later) ∙ ap (λ z. held ++ z) (sym e.parts)) in
    let within : IsPrefix (past until) (held ++ more) = (e.later, whole) in record {
      until = until;
      ran = record {
        between = record {
          from = prefix_trans (a.volumes v).seen held (held ++ e.held) first.from (e.held, refl);
          shown_from =
              prefix_trans (a.volumes v).shown (entries volume_lock held) (entries volume_lock (held ++ e.held)) first.shown_from (entries_prefix volume_lock held (held ++ e.held) (e.held, refl));
          to = prefix_trans (past until) (held ++ more) (b.volumes v).seen within last.to;
          shown_to =
              prefix_trans (entries volume_lock (past until)) (entries volume_lock (held ++ more)) (b.volumes v).shown (entries_prefix volume_lock (past until) (held ++ more) within) last.shown_to;
        };
        own = record {
          run = e.run;
          stands = ap (λ (z : Standing). (replica_at z.volume j).run) before ∙ e.stood;
          begun = begun_append j nobody held e.held ∙ (ap (λ (t : CoreTag). begun_of j t e.held) has.begun ∙ e.begun);
        };
        none = ap (λ (z : Standing). (replica_at z.volume j).run) after ∙ e.none;
      };
      behind = (e.held, refl);
      how = subst (λ (z : Standing). HowEnded j e.act z (stood start v (past until))) (sym before) (subst (HowEnded j e.act (left volume_lock s e.held)) (sym after) e.how);
    }
