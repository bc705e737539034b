-- What an act makes of what stands behind the lock.
use Rattle.std.proofs.Common.{◌≡◌, ◌⊎◌, inl, inr, ℕ, ◌<◌, ◌≤◌, List, [], ◌∷◌, ◌++◌, length, Option, Some, None, refl, sym, ap, subst, ◌∙◌, append-nil, arith}
use Rattle.std.specs.Prelude.{slice_index_or, map, Bool, true, false, ◌==◌, if◌then◌else◌, IsNone, IfSome, ◌↔◌}
use Rattle.std.specs.List.{AllByRecursion as Each}
use Rattle.std.proofs.lemmas.List.{length-map}
use Rattle.std.proofs.lemmas.Option.{none-some}
use mathlib.Core.Logic.{dite}
use native.Mathlib.Decide.{ℕ_discrete}
use Rattle.hay_core.specs.declared.entry.CoreTag.{CoreTag}
use Rattle.hay_core.specs.declared.entry.Entry.{Entry}
use Rattle.hay_disk.specs.Disk.{Files}
use Rattle.hay_front.specs.declared.front.Tag.{Tag}
use Rattle.hay_legal.specs.declared.known.Run.{Run}
use Rattle.hay_legal.specs.declared.known.VolumeKnown.{VolumeKnown}
use Rattle.hay_legal.specs.Known.{replica_at}
use Rattle.hay_history.specs.LaneSteps.{Did, Follows, HasRun, Leads, LeadsFuses, NoneFall, Standing}
use Rattle.hay_history.specs.LaneSteps.Did.{Begins}
use Rattle.hay_history.specs.Histories.{begun_in}
use Rattle.hay_logical.specs.Fits.{At}
use Rattle.hay_logical.specs.Stands.{IsTightAt, RunsTight, Stands}
use Rattle.hay_logical.specs.Answers.{change_at}
use Rattle.hay_logical.specs.Volumes.{IsOpenVolume, IsSame, KeepsCounts, Volume}
use Rattle.hay_logical.proofs.Knowing.{changed_here}
use Rattle.hay_logical.proofs.Tightness.{tight_each}
use Rattle.hay_legal.specs.declared.known.ReplicaKnown.{ReplicaKnown}
use Rattle.hay_meeting.specs.declared.act.VolumeAct.{VolumeAct}
use Rattle.hay_meeting.specs.Acts.{IsSized, begun_of, did_of, entry_of, known_by, left_by, nobody, volume_lock}
use Rattle.hay_meeting.specs.Locks.{add_shown, entries, left, replayed}
use Rattle.hay_meeting.proofs.Replays.{entries_append, left_append}
use Rattle.hay_map.specs.Rows.{row_at}
use Rattle.hay_needle.specs.declared.needle.Pair.{Pair}
use Rattle.hay_needle.specs.declared.settings.Settings.{Settings}
use Rattle.hay_physical.specs.OpenCopies.{Copy}
use Rattle.hay_views.specs.MapPasts.{entered_by}
use Rattle.hay_volume_lock.specs.Acts.{act_of, counts, did_by}
use Rattle.hay_volume_lock.specs.Ended.{ended_at}
use Rattle.hay_volume_lock.specs.Keeping.{EndsOwn, GoesOn, IsKept, add_tag, count_at, ended_in, ends_at, published_row, standing_of, stood_of, tag_of, tags_of}
use Rattle.hay_volume_lock.specs.declared.act.Made.{Made}
use Rattle.hay_volume_lock.specs.declared.act.Made.TheVariants as made_is
use Rattle.hay_volume_lock.specs.declared.guarded.Guarded.{Guarded}
use Rattle.hay_volume_lock.specs.declared.guarded.Opened.{Opened}
use Rattle.hay_volume_lock.proofs.Counting.{count_behind, count_each}
use Rattle.hay_volume_lock.proofs.Doings.{begun_more, doings_more, ended_more}
use Rattle.hay_volume_lock.proofs.Tightening.{since_more}
use Rattle.hay_volume_lock.proofs.Unfused.{unfused_more}

-- ONE ACT MORE

-- an act may follow what stands
pub record FollowsOne (settings : Settings) (v : ℕ) (before : Standing) (act : VolumeAct) : Type 0 where
  pub leads : Leads settings v act.tag (did_of act.did) before (left_by act before)
  pub faults : NoneFall before.faults (left_by act before).faults
  pub fuses : LeadsFuses (did_of act.did) before.fuses (left_by act before).fuses

pub follows_more : (settings : Settings) (v : ℕ) (before : Standing) (acts : List VolumeAct) (act : VolumeAct)
    → Follows settings v before (replayed volume_lock before acts) → FollowsOne settings v (left volume_lock before acts) act
    → Follows settings v before (replayed volume_lock before (acts ++ act ∷ []))
follows_more settings v before [] act follows one = (one.leads, one.faults, one.fuses, tt)
follows_more settings v before (x ∷ xs) act follows one = (follows.0, follows.1, follows.2, follows_more settings v (left_by x before) xs act follows.3 one)

pub tags_more : (acts : List VolumeAct) (act : VolumeAct) → tags_of (acts ++ act ∷ []) ≡ tags_of acts ++ add_tag (entry_of act.did) (tag_of act) []
tags_more [] act = refl
tags_more (x ∷ xs) act = ap (λ (l : List Tag). add_tag (entry_of x.did) (tag_of x) l) (tags_more xs act) ∙ added (entry_of x.did)
  where
    added : (e : Option Entry) → add_tag e (tag_of x) (tags_of xs ++ add_tag (entry_of act.did) (tag_of act) []) ≡ add_tag e (tag_of x) (tags_of xs) ++ add_tag (entry_of act.did) (tag_of act) []
    added None = refl
    added (Some change) = refl

pub each_more : {A : Type 0} (P : A → Type 0) (xs : List A) (x : A) → Each P xs → P x → Each P (xs ++ x ∷ [])
each_more P [] x each here = (here, tt)
each_more P (y ∷ ys) x each here = (each.0, each_more P ys x each.1 here)

-- TIGHT COMPACTIONS

-- one that was tight is so still, unless the volume is frozen then
abbrev pub TightStays : {D P : Type 0} → (D → Files) → Guarded D P → Guarded D P → Type 0
TightStays files old new = (new.logical).frozen ≡ None → (j : ℕ) → IsTightAt files old.logical j → IsTightAt files new.logical j

-- what was known is known still, and a compaction that was tight is so still
abbrev pub Keeps : {D P : Type 0} → Type 0 → (D → Files) → Type 0 → Guarded D P → Guarded D P → Type 0
Keeps Tells files PieceTells old new = Tells → (k : VolumeKnown) → Stands files PieceTells old.logical k
    → Stands files PieceTells new.logical k
    × ((new.logical).frozen ≡ None → (j : ℕ) (run : Run) → (replica_at k j).run ≡ Some run → IsTightAt files old.logical j → IsTightAt files new.logical j)

module _ {D P : Type 0} (files : D → Files) (old new : Guarded D P) where
  -- where of replica j alone anything changed
  pub tight_rest : (j : ℕ) → length (new.logical).replicas ≡ length (old.logical).replicas
      → ((new.logical).frozen ≡ None → (i : ℕ) → (i ≡ j → ⊥) → (r r' : Copy D) → At (old.logical).replicas i r → At (new.logical).replicas i r' → r' ≡ r)
      → (new.logical).frozen ≡ None → (i : ℕ) → (i ≡ j → ⊥) → IsTightAt files old.logical i → IsTightAt files new.logical i
  tight_rest j count others thawed i other =
      tight_each files (old.logical).replicas (new.logical).replicas count i (λ r r' e f t. subst (λ (c : Copy D). RunsTight files c) (sym (others thawed i other r r' e f)) t)

-- a compaction that ended does not stand
pub ended_there : {D P : Type 0} (files : D → Files) (Tells : Type 0) (volume : Volume D P) (k : VolumeKnown) → Stands files Tells volume k → (j : ℕ) → j < (volume.settings).replicas
    → (change : ReplicaKnown → ReplicaKnown) → ((r : ReplicaKnown) → (change r).run ≡ None) → (replica_at (change_at k j change) j).run ≡ None
unfolding Stands
ended_there files Tells volume k stands j within change ends =
    ap (λ (r : ReplicaKnown). r.run) (changed_here k j change (let many = stands.many in (let h : j < length k.replicas = omega (arith, many, within) in h))) ∙ ends (replica_at k j)

-- an act that enters nothing leaves the compactions tight that stand behind it, if they were so, or it begins them
abbrev pub TightBehind : {D P : Type 0} → (D → Files) → CoreTag → Made → Guarded D P → Guarded D P → Standing → Type 0
TightBehind files tag made old new before =
    (new.logical).frozen ≡ None → entry_of (did_by made) ≡ None → (j : ℕ) (run : Run) → (replica_at (known_by tag (did_by made) before.volume) j).run ≡ Some run
    → (did_of (did_by made) ≡ Begins j) ⊎ IsTightAt files old.logical j → IsTightAt files new.logical j

module _ {D P : Type 0} (files : D → Files) (tag : CoreTag) (made : Made) (old new : Guarded D P) (before : Standing) where
  abbrev BeginsNone : Type 0
  BeginsNone = (i : ℕ) → did_of (did_by made) ≡ Begins i → ⊥

  pub tight_still : BeginsNone → TightStays files old new → TightBehind files tag made old new before
  tight_still none stays thawed quiet j run stands was = elim was [
    | inl begins ↦ absurd (none j begins)
    | inr tight ↦ stays thawed j tight
  ]

  pub tight_frozen : (m : ℕ) → (new.logical).frozen ≡ Some m → TightBehind files tag made old new before
  tight_frozen m is thawed quiet j run stands was = absurd (none-some m (sym thawed ∙ is))

  pub tight_entered : (change : Entry) → entry_of (did_by made) ≡ Some change → TightBehind files tag made old new before
  tight_entered change is thawed quiet j run stands was = absurd (none-some change (sym quiet ∙ is))

  -- of replica j alone anything changed
  module _ (j : ℕ) (count : length (new.logical).replicas ≡ length (old.logical).replicas)
      (others : (new.logical).frozen ≡ None → (i : ℕ) → (i ≡ j → ⊥) → (r r' : Copy D) → At (old.logical).replicas i r → At (new.logical).replicas i r' → r' ≡ r) where
    -- whose compaction ended
    pub tight_ended : BeginsNone → (replica_at (known_by tag (did_by made) before.volume) j).run ≡ None → TightBehind files tag made old new before
    tight_ended none ended thawed quiet i run stands was = elim was [
      | inl begins ↦ absurd (none i begins)
      | inr tight ↦ dite (ℕ_discrete i j)
          (λ same. absurd (none-some run (sym ended ∙ subst (λ (n : ℕ). (replica_at (known_by tag (did_by made) before.volume) n).run ≡ Some run) same stands)))
          (λ other. tight_rest files old new j count others thawed i other tight)
    ]

    -- or began, and is tight
    pub tight_begun : did_of (did_by made) ≡ Begins j → IsTightAt files new.logical j → TightBehind files tag made old new before
    tight_begun begins tight thawed quiet i run stands was = dite (ℕ_discrete i j)
        (λ same. subst (λ (n : ℕ). IsTightAt files new.logical n) (sym same) tight)
        (λ other. elim was [
          | inl other_begins ↦ absurd (other (let both : Begins j ≡ Begins i = sym begins ∙ other_begins in cc both))
          | inr tight_then ↦ tight_rest files old new j count others thawed i other tight_then
        ])

-- The volume changed and nothing else, and no count of faults fell. Unless it is frozen it was not before, and its rows stay.
pub record IsOfOne {D P : Type 0} (faults : D → ℕ) (old new : Guarded D P) : Type 0 where
  pub settings : new.settings ≡ old.settings
  pub front : new.front ≡ old.front
  pub same : IsSame old.logical new.logical
  pub is_open : IsOpenVolume new.logical
  pub count : length (new.logical).replicas ≡ length (old.logical).replicas
  pub rises : (j : ℕ) (r r' : Copy D) → At (old.logical).replicas j r → At (new.logical).replicas j r' → faults r.disk ≤ faults r'.disk
  pub thawed : (new.logical).frozen ≡ None → (old.logical).frozen ≡ None
  pub rows : (new.logical).frozen ≡ None → (pair : Pair) → row_at (new.logical).rows pair ≡ row_at (old.logical).rows pair

-- What the act tells of compactions that ended: the counts that are kept are those behind it; it ended some of its own lane, or as a
-- delete some that stood.
pub record EndsRuns {D P : Type 0} (Tells : Type 0) (files : D → Files) (PieceTells : Type 0) (old new : Guarded D P) (act : VolumeAct) : Type 0 where
  pub ended : (j lane : ℕ) → j < (old.settings).replicas → lane < 8
      → ended_at new.ended j lane ≡ ended_in j lane (slice_index_or old.begun j nobody) act (ended_at old.ended j lane)
  pub owned : (j : ℕ) → j < (old.settings).replicas → EndsOwn (did_of act.did) j → act.seat ≡ (slice_index_or old.begun j nobody).lane
  pub cuts : Tells → (before : Standing) → Stands files PieceTells old.logical before.volume → (j : ℕ) → ends_at j act.did ≡ true → (run : Run) × HasRun before j run

-- an act that ends none
pub ends_none : {D P : Type 0} (Tells : Type 0) (files : D → Files) (PieceTells : Type 0) (old new : Guarded D P) (act : VolumeAct)
    → ((j : ℕ) → ends_at j act.did ≡ false) → ((j : ℕ) → EndsOwn (did_of act.did) j → ⊥) → new.ended ≡ old.ended → EndsRuns Tells files PieceTells old new act
ends_none Tells files PieceTells old new act none own same = record {
  ended = λ j lane less few.
      ap (λ (l : List (List (Option ℕ))). ended_at l j lane) same
      ∙ sym (ap (λ (b : Bool). if b then (if (slice_index_or old.begun j nobody).lane == lane then Some (slice_index_or act.faults j 0) else ended_at old.ended j lane)
      else ended_at old.ended j lane) (none j));
  owned = λ j less is. absurd (own j is);
  cuts = λ tells before s j is. absurd (let not : false ≡ true = sym (none j) ∙ is in cc not);
}

-- what it did led from the counts of fuses before to those behind it
abbrev pub LeadsFusesOf : {D P : Type 0} → (D → ℕ) → Guarded D P → Guarded D P → Did → Type 0
LeadsFusesOf fuses old new did = (before after : ℕ → ℕ) → ((j : ℕ) → before j ≡ count_at fuses (old.logical).replicas j)
    → ((j : ℕ) → after j ≡ count_at fuses (new.logical).replicas j) → LeadsFuses did before after

-- no fuse was set
abbrev pub FusesStay : {D P : Type 0} → (D → ℕ) → Guarded D P → Guarded D P → Type 0
FusesStay {D} fuses old new = (j : ℕ) (r r' : Copy D) → At (old.logical).replicas j r → At (new.logical).replicas j r' → fuses r'.disk ≡ fuses r.disk

-- so it is where the replicas alone changed
pub of_still : {D P : Type 0} (faults fuses : D → ℕ) (old new : Guarded D P) → new.settings ≡ old.settings → new.front ≡ old.front → IsSame old.logical new.logical → IsOpenVolume new.logical
    → KeepsCounts faults fuses (old.logical).replicas (new.logical).replicas → new.logical ≡ record old.logical { replicas = (new.logical).replicas } → IsOfOne faults old new × FusesStay fuses old new
of_still faults fuses old new settings front same is_open counts still = (
  record {
    settings = settings;
    front = front;
    same = same;
    is_open = is_open;
    count = counts.count;
    rises = counts.rises;
    thawed = λ thawed. sym (ap (λ v. v.frozen) still) ∙ thawed;
    rows = λ thawed pair. ap (λ v. row_at v.rows pair) still;
  },
  counts.stay,
)

module _ {D P : Type 0} (Tells : Type 0) (files : D → Files) (PieceTells : Type 0) (faults fuses : D → ℕ) (opened : Opened D P) (acts : List VolumeAct) (old new : Guarded D P) where
  abbrev Kept : List VolumeAct → Guarded D P → Type 0
  Kept held kept = IsKept Tells files PieceTells faults fuses opened held kept

  abbrev stood : VolumeKnown → Standing
  stood k = stood_of faults fuses opened k acts

  -- no count of a disk falls
  none_falls : IsOfOne faults old new → (j : ℕ) → count_at faults (old.logical).replicas j ≤ count_at faults (new.logical).replicas j
  none_falls of j = count_each faults (old.logical).replicas (new.logical).replicas of.count (λ a b. a ≤ b) (omega arith) of.rises j

  rises_more : Kept acts old → IsOfOne faults old new → (j : ℕ) → count_at faults (opened.volume).replicas j ≤ count_at faults (new.logical).replicas j
  rises_more h of j = let before = h.rises j in let more = none_falls of j in omega (arith, before, more)

  -- the rows stay those that are published
  rows_still : (h : Kept acts old) → IsOfOne faults old new → (new.logical).frozen ≡ None → (pair : Pair)
      → published_row opened.volume (h.from).rows ((new.front).shown).deeds pair ≡ row_at (new.logical).rows pair
  rows_still h of thawed pair =
      ap (λ f. published_row opened.volume (h.from).rows (f.shown).deeds pair) of.front ∙ h.rows (of.thawed thawed) pair ∙ sym (of.rows thawed pair)

  -- AN ACT THAT A VIEW SHOWS NOTHING OF

  module _ (tag : CoreTag) (made : Made) where
    abbrev this_act : VolumeAct
    this_act = act_of faults fuses tag made (new.logical).replicas

    faults_then : (h : Kept acts old) (of : IsOfOne faults old new) (k : VolumeKnown) (j : ℕ) → (left_by this_act (stood k)).faults j ≡ count_at faults (new.logical).replicas j
    faults_then h of k j = count_behind faults (old.logical).replicas (new.logical).replicas j ((stood k).faults j) of.count (h.fault_counts k j)

    fuses_then : (h : Kept acts old) (of : IsOfOne faults old new) (k : VolumeKnown) (j : ℕ) → (left_by this_act (stood k)).fuses j ≡ count_at fuses (new.logical).replicas j
    fuses_then h of k j = count_behind fuses (old.logical).replicas (new.logical).replicas j ((stood k).fuses j) of.count (h.fuse_counts k j)

    none_fall : (h : Kept acts old) (of : IsOfOne faults old new) (k : VolumeKnown) → NoneFall (stood k).faults (left_by this_act (stood k)).faults
    none_fall h of k j =
        subst (λ (n : ℕ). n ≤ (left_by this_act (stood k)).faults j) (sym (h.fault_counts k j))
        (subst (λ (n : ℕ). count_at faults (old.logical).replicas j ≤ n) (sym (faults_then h of k j)) (none_falls of j))

    pub kept_more : Kept acts old → IsOfOne faults old new → entry_of (did_by made) ≡ None → LeadsFusesOf fuses old new (did_of (did_by made))
        → (Tells → (k : VolumeKnown) → Stands files PieceTells opened.volume k → Leads (opened.volume).settings (opened.volume).number tag (did_of (did_by made)) (stood k)
        (left_by this_act (stood k)))
        → (Tells → (k : VolumeKnown) → Stands files PieceTells opened.volume k → Stands files PieceTells new.logical (known_by tag (did_by made) (stood k).volume))
        → (Tells → (k : VolumeKnown) → Stands files PieceTells opened.volume k → TightBehind files tag made old new (stood k))
        → ((j : ℕ) → j < ((opened.volume).settings).replicas → slice_index_or new.begun j nobody ≡ begun_in j tag (did_of (did_by made)) (slice_index_or old.begun j nobody))
        → EndsRuns Tells files PieceTells old new this_act
        → Kept (acts ++ this_act ∷ []) new
    kept_more h of quiet fuses_lead leads stands tight begun ends = record {
      from = h.from;
      settings = of.settings ∙ h.settings;
      same_settings = (of.same).settings ∙ h.same_settings;
      number = (of.same).number ∙ h.number;
      is_open = of.is_open;
      stands =
          λ tells k s. subst (λ (z : Standing). Stands files PieceTells new.logical z.volume)
          (sym (left_append volume_lock (standing_of faults fuses opened k) acts (this_act ∷ []))) (stands tells k s);
      follows = follows_now;
      sized = each_more (IsSized ((opened.volume).settings).replicas) acts this_act h.sized (record { faults = sized_by faults; fuses = sized_by fuses });
      fault_counts = λ k j. ap (λ (z : Standing). z.faults j) (left_append volume_lock (standing_of faults fuses opened k) acts (this_act ∷ [])) ∙ faults_then h of k j;
      fuse_counts = λ k j. ap (λ (z : Standing). z.fuses j) (left_append volume_lock (standing_of faults fuses opened k) acts (this_act ∷ [])) ∙ fuses_then h of k j;
      rises = rises_more h of;
      fuses_stay = unfused_more acts this_act (count_at fuses (opened.volume).replicas) (count_at fuses (old.logical).replicas) (count_at fuses (new.logical).replicas)
          (fuses_lead _ _ (λ j. refl) (λ j. refl)) h.fuses_stay;
      front = ap (λ f. (f.shown).front) of.front ∙ h.front;
      base = ap (λ f. (f.shown).base) of.front ∙ h.base;
      entered = ap (λ f. entered_by (f.shown).deeds) of.front ∙ h.entered
          ∙ sym (entries_append volume_lock acts (this_act ∷ []) ∙ ap (λ (e : Option Entry). entries volume_lock acts ++ add_shown e []) quiet ∙ append-nil (entries volume_lock acts));
      serves = λ thawed. ap (λ f. f.closed) of.front ∙ h.serves (of.thawed thawed);
      rows = rows_still h of;
      tags = ap (λ f. map (λ e. e.tag) f.log) of.front ∙ h.tags
          ∙ sym (tags_more acts this_act ∙ ap (λ (e : Option Entry). tags_of acts ++ add_tag e (tag_of this_act) []) quiet ∙ append-nil (tags_of acts));
      lanes = each_more (λ act. act.seat ≡ (act.tag).lane) acts this_act h.lanes refl;
      begun = λ j less. begun j less ∙ ap (λ (t : CoreTag). begun_in j tag (did_of (did_by made)) t) (h.begun j less) ∙ sym (begun_more j nobody acts this_act);
      ended = λ j lane less few.
          ends.ended j lane (subst (λ (s : Settings). j < s.replicas) (sym h.settings) less) few
          ∙ ap (λ (t : CoreTag). ended_in j lane t this_act (ended_at old.ended j lane)) (h.begun j less)
          ∙ ap (λ (o : Option ℕ). ended_in j lane (begun_of j nobody acts) this_act o) (h.ended j lane less few)
          ∙ sym (ended_more j lane nobody None acts this_act);
      owned = doings_more (λ doing. (j : ℕ) → j < ((opened.volume).settings).replicas → EndsOwn (did_of (doing.act).did) j → (doing.act).seat ≡ (begun_of j nobody doing.held).lane)
          acts this_act h.owned
          (λ j less own. ends.owned j (subst (λ (s : Settings). j < s.replicas) (sym h.settings) less) own ∙ ap (λ (t : CoreTag). t.lane) (h.begun j less));
      cuts = λ tells k s. doings_more (λ doing. (j : ℕ) → ends_at j (doing.act).did ≡ true → (run : Run) × HasRun (stood_of faults fuses opened k doing.held) j run)
          acts this_act (h.cuts tells k s) (ends.cuts tells (stood k) (h.stands tells k s));
      tight = λ tells thawed k s j. since_more (opened.volume).settings (opened.volume).number (standing_of faults fuses opened k) j acts this_act (follows_now tells k s)
          (IsTightAt files old.logical j) (IsTightAt files new.logical j) (h.tight tells (of.thawed thawed) k s j) (λ enters run stands_then. tight tells k s thawed enters j run stands_then);
    }
      where
        follows_now : Tells → (k : VolumeKnown) → Stands files PieceTells opened.volume k
            → Follows (opened.volume).settings (opened.volume).number (standing_of faults fuses opened k) (replayed volume_lock (standing_of faults fuses opened k) (acts ++ this_act ∷ []))
        follows_now tells k s = follows_more (opened.volume).settings (opened.volume).number (standing_of faults fuses opened k) acts this_act (h.follows tells k s)
            (record { leads = leads tells k s; faults = none_fall h of k; fuses = fuses_lead (stood k).fuses (left_by this_act (stood k)).fuses (h.fuse_counts k) (fuses_then h of k) })

        sized_by : (count : D → ℕ) → length (counts count (new.logical).replicas) ≡ ((opened.volume).settings).replicas
        sized_by count = length-map (new.logical).replicas (λ (r : Copy D). count r.disk) ∙ (of.is_open).all ∙ ap (λ (s : Settings). s.replicas) ((of.same).settings ∙ h.same_settings)

  -- NO ACT, where no call of a disk has failed

  pub kept_same : Kept acts old → IsOfOne faults old new → counts faults (old.logical).replicas ≡ counts faults (new.logical).replicas
      → FusesStay fuses old new → Keeps Tells files PieceTells old new → new.begun ≡ old.begun → new.ended ≡ old.ended → Kept acts new
  kept_same h of even stay keeps begun ended = record {
    from = h.from;
    settings = of.settings ∙ h.settings;
    same_settings = (of.same).settings ∙ h.same_settings;
    number = (of.same).number ∙ h.number;
    is_open = of.is_open;
    stands = λ tells k s. (keeps tells (stood k).volume (h.stands tells k s)).0;
    follows = h.follows;
    sized = h.sized;
    fault_counts = λ k j. h.fault_counts k j ∙ ap (λ (l : List ℕ). slice_index_or l j 0) even;
    fuse_counts = λ k j. h.fuse_counts k j ∙ sym (count_each fuses (old.logical).replicas (new.logical).replicas of.count (λ a b. b ≡ a) refl stay j);
    rises = rises_more h of;
    fuses_stay = λ none j. count_each fuses (old.logical).replicas (new.logical).replicas of.count (λ a b. b ≡ a) refl stay j ∙ h.fuses_stay none j;
    front = ap (λ f. (f.shown).front) of.front ∙ h.front;
    base = ap (λ f. (f.shown).base) of.front ∙ h.base;
    entered = ap (λ f. entered_by (f.shown).deeds) of.front ∙ h.entered;
    serves = λ thawed. ap (λ f. f.closed) of.front ∙ h.serves (of.thawed thawed);
    rows = rows_still h of;
    tags = ap (λ f. map (λ e. e.tag) f.log) of.front ∙ h.tags;
    lanes = h.lanes;
    begun = λ j less. ap (λ (l : List CoreTag). slice_index_or l j nobody) begun ∙ h.begun j less;
    ended = λ j lane less few. ap (λ (l : List (List (Option ℕ))). ended_at l j lane) ended ∙ h.ended j lane less few;
    owned = h.owned;
    cuts = h.cuts;
    tight = λ tells thawed k s j begins within is same run stands_then.
        (keeps tells (stood k).volume (h.stands tells k s)).1 thawed j run stands_then (h.tight tells (of.thawed thawed) k s j begins within is same run stands_then);
  }

-- WHAT A HOLDING LEAVES

module _ {D P : Type 0} (Tells : Type 0) (files : D → Files) (PieceTells : Type 0) (faults fuses : D → ℕ) (tag : CoreTag) (old new : Guarded D P) where
  abbrev Goes : Option VolumeAct → Type 0
  Goes made = GoesOn Tells files PieceTells faults fuses tag old new made

  -- this act led from what the volume stood for to what it stands for
  pub record LeadsTo (made : Made) (before : Standing) : Type 0 where
    pub leads : Leads (old.logical).settings (old.logical).number tag (did_of (did_by made)) before (left_by (act_of faults fuses tag made (new.logical).replicas) before)
    pub stands : Stands files PieceTells new.logical (known_by tag (did_by made) before.volume)
    pub tight : TightBehind files tag made old new before

  -- nothing was changed
  pub tries_leads : Keeps Tells files PieceTells old new → Tells → (before : Standing) → Stands files PieceTells old.logical before.volume → LeadsTo made_is.Tries before
  tries_leads keeps tells before s = let kept = keeps tells before.volume s in record {
    leads = refl;
    stands = kept.0;
    tight = λ thawed enters j run has was. elim was [
      | inl begins ↦ absurd (cc begins)
      | inr tight ↦ kept.1 thawed j run has tight
    ];
  }

  pub no_fuse : IsOfOne faults old new → FusesStay fuses old new → (before after : ℕ → ℕ) → ((j : ℕ) → before j ≡ count_at fuses (old.logical).replicas j)
      → ((j : ℕ) → after j ≡ count_at fuses (new.logical).replicas j) → (j : ℕ) → after j ≡ before j
  no_fuse of stay before after was is j = is j ∙ count_each fuses (old.logical).replicas (new.logical).replicas of.count (λ a b. b ≡ a) refl stay j ∙ sym (was j)

  pub goes_more : (made : Made) → IsOfOne faults old new → LeadsFusesOf fuses old new (did_of (did_by made)) → entry_of (did_by made) ≡ None
      → (Tells → (before : Standing) → Stands files PieceTells old.logical before.volume → LeadsTo made before)
      → ((j : ℕ) → j < (old.settings).replicas → slice_index_or new.begun j nobody ≡ begun_in j tag (did_of (did_by made)) (slice_index_or old.begun j nobody))
      → EndsRuns Tells files PieceTells old new (act_of faults fuses tag made (new.logical).replicas)
      → (act : VolumeAct) → act ≡ act_of faults fuses tag made (new.logical).replicas → Goes (Some act)
  goes_more made of fuses_lead quiet leads begun ends act is = subst (λ (z : VolumeAct). Goes (Some z)) (sym is) (record {
    kept = λ opened held h. kept_more Tells files PieceTells faults fuses opened held old new tag made h of quiet fuses_lead
        (λ tells k s. subst (λ (z : Settings). Leads z (opened.volume).number tag (did_of (did_by made)) (stood_of faults fuses opened k held)
        (left_by this (stood_of faults fuses opened k held))) h.same_settings
        (subst (λ (z : ℕ). Leads (old.logical).settings z tag (did_of (did_by made)) (stood_of faults fuses opened k held) (left_by this (stood_of faults fuses opened k held))) h.number
        (leads tells (stood_of faults fuses opened k held) (h.stands tells k s)).leads))
        (λ tells k s. (leads tells (stood_of faults fuses opened k held) (h.stands tells k s)).stands)
        (λ tells k s. (leads tells (stood_of faults fuses opened k held) (h.stands tells k s)).tight)
        (λ j less. begun j (subst (λ (z : Settings). j < z.replicas) (sym h.settings) less)) ends;
    tags = (refl, tt);
    seats = (refl, tt);
    quiet = ap (λ (e : Option Entry). add_shown e []) quiet;
    shown = of.front;
  })
    where
      this : VolumeAct
      this = act_of faults fuses tag made (new.logical).replicas

  pub goes_none : IsOfOne faults old new → FusesStay fuses old new → counts faults (old.logical).replicas ≡ counts faults (new.logical).replicas
      → Keeps Tells files PieceTells old new → new.begun ≡ old.begun → new.ended ≡ old.ended → Goes None
  goes_none of stay even keeps begun ended = record {
    kept = λ opened held h. subst (λ (l : List VolumeAct). IsKept Tells files PieceTells faults fuses opened l new) (sym (append-nil held))
        (kept_same Tells files PieceTells faults fuses opened held old new h of even stay keeps begun ended);
    tags = tt;
    seats = tt;
    quiet = refl;
    shown = of.front;
  }

  -- where nothing was changed: an act tells of it where a call of a disk has failed
  pub goes_tried : IsOfOne faults old new → FusesStay fuses old new → Keeps Tells files PieceTells old new → new.begun ≡ old.begun → new.ended ≡ old.ended
      → (made : Option VolumeAct) → (IsNone made ↔ (counts faults (old.logical).replicas ≡ counts faults (new.logical).replicas))
      → IfSome made (λ act. act ≡ act_of faults fuses tag made_is.Tries (new.logical).replicas) → Goes made
  goes_tried of stay keeps begun ended None even act = goes_none of stay (even.0 refl) keeps begun ended
  goes_tried of stay keeps begun ended (Some made) even act = goes_more made_is.Tries of (no_fuse of stay) refl
      (tries_leads keeps) (λ j less. ap (λ (l : List CoreTag). slice_index_or l j nobody) begun)
      (ends_none Tells files PieceTells old new (act_of faults fuses tag made_is.Tries (new.logical).replicas) (λ j. refl) (λ j own. own) ended) made act

-- a holding that made no act and changed nothing
pub goes_nowhere : {D P : Type 0} (Tells : Type 0) (files : D → Files) (PieceTells : Type 0) (faults fuses : D → ℕ) (tag : CoreTag) (kept : Guarded D P)
    → GoesOn Tells files PieceTells faults fuses tag kept kept None
goes_nowhere Tells files PieceTells faults fuses tag kept = record {
  kept = λ opened held h. subst (λ (l : List VolumeAct). IsKept Tells files PieceTells faults fuses opened l kept) (sym (append-nil held)) h;
  tags = tt;
  seats = tt;
  quiet = refl;
  shown = refl;
}
