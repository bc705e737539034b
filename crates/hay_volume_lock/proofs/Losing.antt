-- How a compaction that a line began is told to have ended by acts of other lanes.
use Rattle.std.proofs.Common.{◌≡◌, ◌⊎◌, inl, inr, ℕ, zero, suc, ◌<◌, Bool, true, false, List, [], ◌∷◌, ◌++◌, length, Option, Some, None, option_map, refl, sym, ap, subst, ◌∙◌}
use Rattle.std.proofs.Common.{arith, append_assoc, append-nil}
use Rattle.std.specs.Prelude.{◌==◌, ◌≢◌, if◌then◌else◌, slice_get, slice_index_or}
use Rattle.std.proofs.lemmas.Bool.{cases_Bool, cases_eq, cond-false, cond-true, eq-eqb, ne_eqb}
use Rattle.std.proofs.lemmas.Option.{none-some}
use mathlib.Core.List.{IsPrefix}
use Rattle.hay_needle.specs.declared.needle.Pair.{Pair}
use Rattle.hay_needle.specs.declared.settings.Settings.{Settings}
use Rattle.hay_core.specs.declared.entry.CoreTag.{CoreTag}
use Rattle.hay_core.specs.declared.entry.Entry.TheVariants as entry
use Rattle.hay_disk.specs.Counts.{Rose}
use Rattle.hay_legal.specs.declared.known.ReplicaKnown.{ReplicaKnown}
use Rattle.hay_legal.specs.declared.known.Run.{Run}
use Rattle.hay_legal.specs.declared.known.VolumeKnown.{VolumeKnown}
use Rattle.hay_legal.specs.Known.{replica_at}
use Rattle.hay_legal.specs.Plain.{run_grown}
use Rattle.hay_history.specs.Histories.{begun_in}
use Rattle.hay_history.specs.LaneSteps.{Did, Follows, Leads, Standing}
use Rattle.hay_history.specs.LaneSteps.Did.{Begins, Ends, Entered, Examines, Flushes, Freezes, Fuses, Pends, Poises, Sticks, Swaps, Tries}
use Rattle.hay_history.proofs.Changes.{Becomes, leads_becomes}
use Rattle.hay_history.proofs.Changes as changes
use Rattle.hay_history.proofs.Changes.Becomes.{Goes, Grows, IsFlushed, IsPoised, IsStuck, IsSwapped, Rests, Starts, Stays}
use Rattle.hay_history.proofs.Own.{is_begin}
use Rattle.hay_turn.proofs.Prefixes.{prefix_self, prefix_trans}
use Rattle.hay_meeting.specs.declared.act.VolumeAct.{VolumeAct}
use Rattle.hay_meeting.specs.declared.act.VolumeDid.{VolumeDid}
use Rattle.hay_meeting.specs.declared.act.VolumeDid.TheVariants as act_did
use Rattle.hay_meeting.specs.Acts.{Start, begun_of, did_of, known_by, left_by, nobody, volume_lock}
use Rattle.hay_meeting.specs.Facts.{volume_stood}
use Rattle.hay_meeting.specs.Locks.{left, past, replayed}
use Rattle.hay_meeting.specs.CompactionEnds.{HowEnded}
use Rattle.hay_meeting.specs.CompactionEnds.HowEnded.{ByDelete, ByEnd, ByFreeze, BySwap}
use Rattle.hay_meeting.specs.Sights.{stood}
use Rattle.hay_meeting.proofs.Replays.{left_append, prefix_length}
use Rattle.hay_meeting.proofs.RunsEnd.{run_ended}
use Rattle.hay_holdings.specs.Volumes.{EndedAt, HasRunOf, RoseTo}
use Rattle.hay_holdings.proofs.Ending.{all_or_before}
use Rattle.hay_volume_lock.specs.Keeping.{EndsOwn, ended_of, ends_at}
use Rattle.hay_volume_lock.proofs.Doings.{begun_more, ended_more}

-- ONE ACT

pub some_or_none : (o : Option Run) → ((run : Run) × (o ≡ Some run)) ⊎ (o ≡ None)
some_or_none None = inr refl
some_or_none (Some run) = inl (run, refl)

-- where none begins none stands
pub none_stays : (j : ℕ) (did : Did) (a b : VolumeKnown) → did ≢ Begins j → Becomes a did j (replica_at a j) (replica_at b j) → (replica_at a j).run ≡ None → (replica_at b j).run ≡ None
none_stays j did a b other (Stays is) none = ap (λ (r : ReplicaKnown). r.run) is ∙ none
none_stays j did a b other (Grows pair cookie bytes entered is) none = ap (λ (r : ReplicaKnown). r.run) is ∙ ap (option_map run_grown) none
none_stays j did a b other (Rests is) none = ap (λ (r : ReplicaKnown). r.run) is
none_stays j did a b other (IsFlushed flushed is) none = ap (λ (r : ReplicaKnown). r.run) is ∙ none
none_stays j did a b other (IsStuck sticks is) none = ap (λ (r : ReplicaKnown). r.run) is ∙ none
none_stays j did a b other (Starts begins rest low is) none = absurd (other begins)
none_stays j did a b other (Goes n run examines stands low is) none = absurd (none-some run (sym none ∙ stands))
none_stays j did a b other (IsSwapped end cells freezes swaps run sizes is) none = ap (λ (r : ReplicaKnown). r.run) is
none_stays j did a b other (IsPoised m poises is) none = ap (λ (r : ReplicaKnown). r.run) is

begun_here : (j : ℕ) (tag before : CoreTag) (did : Did) → did ≡ Begins j → begun_in j tag did before ≡ tag
begun_here j tag before did is = subst (λ (d : Did). begun_in j tag d before ≡ tag) (sym is) (cond-true (j == j) tag before (eq-eqb j j refl))

begun_still : (j : ℕ) (tag before : CoreTag) (did : Did) → did ≢ Begins j → begun_in j tag did before ≡ before
begun_still j tag before (Begins i) other = elim (cases_eq i j) [
  | inl same ↦ absurd (other (ap Begins same))
  | inr apart ↦ cond-false (i == j) tag before (ne_eqb i j apart)
]
begun_still j tag before Tries other = refl
begun_still j tag before (Entered change) other = refl
begun_still j tag before (Pends m change failed) other = refl
begun_still j tag before (Freezes m) other = refl
begun_still j tag before (Flushes i) other = refl
begun_still j tag before (Sticks i) other = refl
begun_still j tag before (Examines i k) other = refl
begun_still j tag before (Ends i) other = refl
begun_still j tag before (Swaps i end cells freezes) other = refl
begun_still j tag before (Poises m i) other = refl
begun_still j tag before (Fuses i) other = refl

-- none begins where one stands
begins_none : (settings : Settings) (v j : ℕ) (tag : CoreTag) (did : Did) (a b : Standing) (run : Run) → Leads settings v tag did a b → (replica_at a.volume j).run ≡ Some run → did ≢ Begins j
begins_none settings v j tag did a b run leads stands is =
    let begins : Leads settings v tag (Begins j) a b = subst (λ (d : Did). Leads settings v tag d a b) is leads in
    none-some run (sym begins.2 ∙ stands)

-- a volume that is not frozen was not before
thawed_before : (settings : Settings) (v : ℕ) (tag : CoreTag) (did : Did) (a b : Standing) → Leads settings v tag did a b → (b.volume).frozen ≡ None → (a.volume).frozen ≡ None
thawed_before settings v tag Tries a b h thawed = sym (ap (λ (z : VolumeKnown). z.frozen) h) ∙ thawed
thawed_before settings v tag (Fuses j) a b h thawed = sym (ap (λ (z : VolumeKnown). z.frozen) h.1) ∙ thawed
thawed_before settings v tag (Entered (entry.Put pair cookie bytes)) a b h thawed = h.0
thawed_before settings v tag (Entered (entry.Del pair)) a b h thawed = h.0
thawed_before settings v tag (Pends m change failed) a b h thawed = h.0
thawed_before settings v tag (Freezes m) a b h thawed = h.0
thawed_before settings v tag (Flushes j) a b h thawed = h.0
thawed_before settings v tag (Sticks j) a b h thawed = h.0
thawed_before settings v tag (Begins j) a b h thawed = h.0
thawed_before settings v tag (Examines j n) a b h thawed = h.0
thawed_before settings v tag (Ends j) a b h thawed = h.0
thawed_before settings v tag (Swaps j end cells freezes) a b h thawed = h.0
thawed_before settings v tag (Poises m j) a b h thawed = h.0

-- the one act among one that ended a compaction
none_before : {A : Type 0} (xs : List A) (y : A) (ys : List A) → [] ≡ xs ++ y ∷ ys → ⊥
none_before [] y ys same = cc same
none_before (x ∷ xs) y ys same = cc same

how_one : (j : ℕ) (s : Standing) (act x : VolumeAct) (before later : List VolumeAct) → act ∷ [] ≡ before ++ x ∷ later
    → HowEnded j x (left volume_lock s before) (left_by x (left volume_lock s before)) → HowEnded j act s (left_by act s)
how_one j s act x [] later parts how = let same : act ≡ x = cc parts in subst (λ (z : VolumeAct). HowEnded j z s (left_by z s)) (sym same) how
how_one j s act x (y ∷ ys) later parts how = absurd (none_before ys x later (let rest : [] ≡ ys ++ x ∷ later = cc parts in rest))

-- a delete that ended a compaction tells so
told_end : (ended : List Bool) (j : ℕ) → slice_get ended j ≡ Some true → slice_index_or ended j false ≡ true
told_end [] j at = absurd (none-some true at)
told_end (b ∷ ended) zero at = cc at
told_end (b ∷ ended) (suc j) at = told_end ended j at

tells_end : (tag : CoreTag) (volume : VolumeKnown) (j : ℕ) (pair : Pair) (run : Run) (d : VolumeDid) → did_of d ≡ Entered (entry.Del pair)
    → (replica_at volume j).run ≡ Some run → (replica_at (known_by tag d volume) j).run ≡ None → ends_at j d ≡ true
tells_end tag volume j pair run (act_did.Entered (entry.Del p) ended) is stands none = elim (changes.ended_at ended volume.replicas j) [
  | inl same ↦ absurd (none-some run (sym none ∙ ap (λ (r : ReplicaKnown). r.run) same ∙ stands))
  | inr by ↦ told_end ended j by.0
]
tells_end tag volume j pair run (act_did.Entered (entry.Put p cookie bytes) ended) is stands none = absurd (let wrong : entry.Put p cookie bytes ≡ entry.Del pair = cc is in cc wrong)
tells_end tag volume j pair run act_did.Tries is stands none = absurd (cc is)
tells_end tag volume j pair run (act_did.Pends m change failed) is stands none = absurd (cc is)
tells_end tag volume j pair run (act_did.Freezes m) is stands none = absurd (cc is)
tells_end tag volume j pair run (act_did.Flushes i) is stands none = absurd (cc is)
tells_end tag volume j pair run (act_did.Sticks i) is stands none = absurd (cc is)
tells_end tag volume j pair run (act_did.Begins i) is stands none = absurd (cc is)
tells_end tag volume j pair run (act_did.Examines i n) is stands none = absurd (cc is)
tells_end tag volume j pair run (act_did.Ends i) is stands none = absurd (cc is)
tells_end tag volume j pair run (act_did.Swaps i end cells frozen) is stands none = absurd (cc is)
tells_end tag volume j pair run (act_did.Poises m i) is stands none = absurd (cc is)
tells_end tag volume j pair run (act_did.Fuses i) is stands none = absurd (cc is)

-- an item that is there is read whatever is read where none is
same_item : (xs : List ℕ) (j a b : ℕ) → j < length xs → slice_index_or xs j a ≡ slice_index_or xs j b
same_item [] j a b less = absurd (omega (arith, less))
same_item (x ∷ xs) zero a b less = refl
same_item (x ∷ xs) (suc j) a b less = same_item xs j a b (omega (arith, less))

-- ACT BY ACT

module _ (settings : Settings) (start : Start) (v j : ℕ) (who : CoreTag) (within : j < settings.replicas) where
  abbrev volume_at : List VolumeAct → VolumeKnown
  volume_at acts = volume_stood start v acts

  abbrev run_at : List VolumeAct → Option Run
  run_at acts = (replica_at (volume_at acts) j).run

  -- an act of another lane, which tells what it found and did
  pub record IsOther (held : List VolumeAct) (act : VolumeAct) : Type 0 where
    pub follows : Follows settings v (stood start v held) (replayed volume_lock (stood start v held) (act ∷ []))
    pub sized : length act.faults ≡ settings.replicas
    pub seat : act.seat ≡ (act.tag).lane
    pub other : act.seat ≡ who.lane → ⊥
    pub owned : EndsOwn (did_of act.did) j → act.seat ≡ (begun_of j nobody held).lane
    pub cuts : ends_at j act.did ≡ true → (run : Run) × (run_at held ≡ Some run)

  -- a delete of another lane ended it
  pub record ByOther (acts : List VolumeAct) (ended : EndedAt settings start v j who acts) : Type 0 where
    pub thawed : (volume_at (past ended.until)).frozen ≡ None
    pub count : ℕ
    pub rose : RoseTo settings start v j count ended.until
    pub kept : ended_of j who.lane nobody None acts ≡ Some count

  -- It ended, and none stands that a line of its lane began. Unless the volume is frozen a delete ended it.
  pub record IsGone (acts : List VolumeAct) : Type 0 where
    pub ended : EndedAt settings start v j who acts
    pub apart : (run : Run) → run_at acts ≡ Some run → (begun_of j nobody acts).lane ≡ who.lane → ⊥
    pub deleted : (volume_at acts).frozen ≡ None → ByOther acts ended

  module _ (held : List VolumeAct) (act : VolumeAct) (is_other : IsOther held act) where
    abbrev then_held : List VolumeAct
    then_held = held ++ act ∷ []

    abbrev before : Standing
    before = stood start v held

    leads : Leads settings v act.tag (did_of act.did) before (left_by act before)
    leads = (is_other.follows).0

    stood_then : stood start v then_held ≡ left_by act before
    stood_then = left_append volume_lock (start.volumes v) held (act ∷ [])

    none_then : did_of act.did ≢ Begins j → run_at held ≡ None → run_at then_held ≡ None
    none_then other none =
        ap (λ (s : Standing). (replica_at s.volume j).run) stood_then
        ∙ none_stays j (did_of act.did) before.volume (left_by act before).volume other (leads_becomes settings v act.tag (did_of act.did) before (left_by act before) leads j) none

    -- none of the lane's stands behind it where none stood
    apart_then : ((run : Run) → run_at held ≡ Some run → (begun_of j nobody held).lane ≡ who.lane → ⊥)
        → (run : Run) → run_at then_held ≡ Some run → (begun_of j nobody then_held).lane ≡ who.lane → ⊥
    apart_then apart run stands lane = elim (is_begin j (did_of act.did)) [
      | inl is ↦ is_other.other (is_other.seat ∙ sym (ap (λ (t : CoreTag). t.lane) (begun_more j nobody held act ∙ begun_here j act.tag (begun_of j nobody held) (did_of act.did) is)) ∙ lane)
      | inr other ↦ elim (some_or_none (run_at held)) [
        | inl some ↦ apart some.0 some.1 (sym (ap (λ (t : CoreTag). t.lane) (begun_more j nobody held act ∙ begun_still j act.tag (begun_of j nobody held) (did_of act.did) other)) ∙ lane)
        | inr none ↦ none-some run (sym (none_then other none) ∙ stands)
      ]
    ]

    -- IT STOOD

    module _ (has : HasRunOf settings start v j who held) where
      still : (run : Run) → run_at then_held ≡ Some run → HasRunOf settings start v j who then_held
      still run stands = record {
        run = run;
        stands = stands;
        begun = begun_more j nobody held act
            ∙ begun_still j act.tag (begun_of j nobody held) (did_of act.did) (begins_none settings v j act.tag (did_of act.did) before (left_by act before) has.run leads has.stands)
            ∙ has.begun;
      }

      module _ (none : run_at then_held ≡ None) where
        none_left : (replica_at (left_by act before).volume j).run ≡ None
        none_left = sym (ap (λ (s : Standing). (replica_at s.volume j).run) stood_then) ∙ none

        how : HowEnded j act before (left_by act before)
        how = let e = run_ended settings v before j who has.run (act ∷ []) is_other.follows has.stands none_left in how_one j before act e.act e.held e.later e.parts e.how

        abbrev now_ended : EndedAt settings start v j who then_held
        now_ended = record {
          until = record { held = held; act = act };
          within = prefix_self then_held;
          own = has;
          none = none;
          last = λ acts begins stands. elim (all_or_before held act acts begins) [
            | inl all ↦
                let run : HasRunOf settings start v j who then_held = subst (HasRunOf settings start v j who) all stands in
                absurd (none-some run.run (sym none ∙ run.stands))
            | inr first ↦ prefix_length acts held first
          ];
        }

        own_lane : (begun_of j nobody held).lane ≡ who.lane
        own_lane = ap (λ (t : CoreTag). t.lane) has.begun

        kept_now : (pair : Pair) → did_of act.did ≡ Entered (entry.Del pair) → ended_of j who.lane nobody None then_held ≡ Some ((left_by act before).faults j)
        kept_now pair is =
            ended_more j who.lane nobody None held act
            ∙ ap (λ (b : Bool). if b then (if (begun_of j nobody held).lane == who.lane then Some (slice_index_or act.faults j 0) else ended_of j who.lane nobody None held)
            else ended_of j who.lane nobody None held)
            (tells_end act.tag before.volume j pair has.run act.did is has.stands none_left)
            ∙ ap (λ (b : Bool). if b then Some (slice_index_or act.faults j 0) else ended_of j who.lane nobody None held) (eq-eqb (begun_of j nobody held).lane who.lane own_lane)
            ∙ ap Some (same_item act.faults j 0 (before.faults j) (let sized = is_other.sized in omega (arith, within, sized)))

        deleted_now : (volume_at then_held).frozen ≡ None → HowEnded j act before (left_by act before) → ByOther then_held now_ended
        deleted_now thawed (ByDelete pair is rose open_then) = record {
          thawed = thawed;
          count = (left_by act before).faults j;
          rose = (
            within,
            subst (λ (s : Standing). Rose (before.faults j) (s.faults j)) (sym stood_then) rose,
            ap (λ (s : Standing). s.faults j) (sym stood_then),
          );
          kept = kept_now pair is;
        }
        deleted_now thawed (ByFreeze m frozen) = absurd (none-some m (sym thawed ∙ ap (λ (s : Standing). (s.volume).frozen) stood_then ∙ frozen))
        deleted_now thawed (ByEnd is) = absurd (is_other.other (is_other.owned (subst (λ (d : Did). EndsOwn d j) (sym is) refl) ∙ own_lane))
        deleted_now thawed (BySwap end cells is) = absurd (is_other.other (is_other.owned (subst (λ (d : Did). EndsOwn d j) (sym is) refl) ∙ own_lane))

        now_gone : IsGone then_held
        now_gone = record {
          ended = now_ended;
          apart = λ run stands lane. none-some run (sym none ∙ stands);
          deleted = λ thawed. deleted_now thawed how;
        }

    -- IT HAD ENDED

    module _ (gone : IsGone held) where
      abbrev before_ended : EndedAt settings start v j who then_held
      before_ended = record {
        until = (gone.ended).until;
        within = prefix_trans (past (gone.ended).until) held then_held (gone.ended).within (act ∷ [], refl);
        own = (gone.ended).own;
        none = (gone.ended).none;
        last = λ acts begins stands. elim (all_or_before held act acts begins) [
          | inl all ↦
              let run : HasRunOf settings start v j who then_held = subst (HasRunOf settings start v j who) all stands in
              absurd (apart_then gone.apart run.run run.stands (ap (λ (t : CoreTag). t.lane) run.begun))
          | inr first ↦ (gone.ended).last acts first stands
        ];
      }

      -- what is kept of it stays
      kept_on : ended_of j who.lane nobody None then_held ≡ ended_of j who.lane nobody None held
      kept_on = ended_more j who.lane nobody None held act ∙ elim (cases_Bool (ends_at j act.did)) [
        | inl ends ↦
            let cut = is_other.cuts ends in
            ap (λ (b : Bool). if b then (if (begun_of j nobody held).lane == who.lane then Some (slice_index_or act.faults j 0) else ended_of j who.lane nobody None held)
            else ended_of j who.lane nobody None held) ends
            ∙ ap (λ (b : Bool). if b then Some (slice_index_or act.faults j 0) else ended_of j who.lane nobody None held)
            (ne_eqb (begun_of j nobody held).lane who.lane (λ same. gone.apart cut.0 cut.1 same))
        | inr keeps ↦ ap (λ (b : Bool). if b then (if (begun_of j nobody held).lane == who.lane then Some (slice_index_or act.faults j 0) else ended_of j who.lane nobody None held)
            else ended_of j who.lane nobody None held) keeps
      ]

      still_gone : IsGone then_held
      still_gone = record {
        ended = before_ended;
        apart = apart_then gone.apart;
        deleted = λ thawed.
            let was = gone.deleted (thawed_before settings v act.tag (did_of act.did) before (left_by act before) leads (sym (ap (λ (s : Standing). (s.volume).frozen) stood_then) ∙ thawed)) in
            record { thawed = was.thawed; count = was.count; rose = was.rose; kept = kept_on ∙ was.kept };
      }

    pub gone_on : HasRunOf settings start v j who held ⊎ IsGone held → HasRunOf settings start v j who then_held ⊎ IsGone then_held
    gone_on (inl has) = elim (some_or_none (run_at then_held)) [
      | inl some ↦ inl (still has some.0 some.1)
      | inr none ↦ inr (now_gone has none)
    ]
    gone_on (inr gone) = inr (still_gone gone)

  -- behind acts of other lanes
  pub gone_along : (held more : List VolumeAct) → ((first : List VolumeAct) (act : VolumeAct) → IsPrefix first more → IsPrefix (first ++ act ∷ []) more → IsOther (held ++ first) act)
      → HasRunOf settings start v j who held ⊎ IsGone held → HasRunOf settings start v j who (held ++ more) ⊎ IsGone (held ++ more)
  gone_along held [] each at = subst (λ (l : List VolumeAct). HasRunOf settings start v j who l ⊎ IsGone l) (sym (append-nil held)) at
  gone_along held (act ∷ more) each at =
      subst (λ (l : List VolumeAct). HasRunOf settings start v j who l ⊎ IsGone l) (append_assoc held (act ∷ []) more)
      (gone_along (held ++ act ∷ []) more
      (λ first x begins begins_more. subst (λ (l : List VolumeAct). IsOther l x) (sym (append_assoc held (act ∷ []) first))
      (each (act ∷ first) x (begins.0, ap (λ (l : List VolumeAct). act ∷ l) begins.1) (begins_more.0, ap (λ (l : List VolumeAct). act ∷ l) begins_more.1)))
      (gone_on held act (subst (λ (l : List VolumeAct). IsOther l act) (append-nil held) (each [] act (act ∷ more, refl) (more, refl))) at))
