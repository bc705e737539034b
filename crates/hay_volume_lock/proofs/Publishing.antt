-- What a holding leaves that changes the volume and what is published of it, and what it tells of its lane.
use Rattle.std.proofs.Common.{◌≡◌, ℕ, ◌<◌, ◌≤◌, Bool, true, false, List, [], ◌∷◌, ◌++◌, length, Option, Some, None, refl, sym, ap, subst, ◌∙◌, append_assoc, append-nil, arith}
use Rattle.std.specs.Prelude.{slice_index_or, map}
use Rattle.std.specs.List.{AllByRecursion as Each}
use Rattle.std.proofs.lemmas.List.{length-map}
use Rattle.hay_core.specs.declared.entry.CoreTag.{CoreTag}
use Rattle.hay_core.specs.declared.entry.Entry.{Entry}
use Rattle.hay_disk.specs.Disk.{Files}
use Rattle.hay_front.specs.declared.front.Tag.{Tag}
use Rattle.hay_front.specs.Entries.{LogEntry}
use Rattle.hay_front.specs.Fronts.{IsBehind, Witness, with_deed}
use Rattle.hay_legal.specs.declared.known.Run.{Run}
use Rattle.hay_legal.specs.declared.known.VolumeKnown.{VolumeKnown}
use Rattle.hay_history.specs.LaneSteps.{Follows, HasRun, Leads, NoneFall, Standing}
use Rattle.hay_history.specs.Histories.{begun_in}
use Rattle.hay_holdings.specs.Holdings.{Holding}
use Rattle.hay_holdings.specs.Volumes.{VolumeCall}
use Rattle.hay_logical.specs.Fits.{At}
use Rattle.hay_logical.specs.Stands.{IsTightAt, Stands}
use Rattle.hay_logical.specs.Volumes.{IsOpenVolume, IsSame, Volume}
use Rattle.hay_map.specs.Rows.{FitsRows, changed_row, row_at}
use Rattle.hay_map.specs.declared.place.Place.{Place}
use Rattle.hay_meeting.specs.declared.act.VolumeAct.{VolumeAct}
use Rattle.hay_meeting.specs.Acts.{IsSized, begun_of, did_of, entry_of, known_by, left_by, nobody, volume_lock}
use Rattle.hay_meeting.specs.Locks.{add_shown, replayed}
use Rattle.hay_meeting.proofs.Replays.{entries_append, left_append}
use Rattle.hay_needle.specs.declared.needle.Pair.{Pair}
use Rattle.hay_needle.specs.declared.settings.Settings.{Settings}
use Rattle.hay_physical.specs.OpenCopies.{Copy}
use Rattle.hay_turn.specs.Acts.{AllOf}
use Rattle.hay_turn.specs.Seats.{Holds, SeatState, after_free}
use Rattle.hay_turn.specs.Slots.{acts_in}
use Rattle.hay_views.specs.declared.places.Published.{Published}
use Rattle.hay_views.specs.MapPasts.{MapPast, begun_at, entered_by}
use Rattle.hay_volume_lock.specs.Acts.{SetNoFuse, act_of, counts, did_by}
use Rattle.hay_volume_lock.specs.Answers.{Found, FoundAlways, IsAlways, IsTold, StoreVolume, UnfusedHolding}
use Rattle.hay_volume_lock.specs.Ended.{ended_at}
use Rattle.hay_volume_lock.specs.Keeping.{EndsOwn, IsKept, IsOpened, add_tag, count_at, ended_in, ends_at, published_row, standing_of, stood_of, tag_of}
use Rattle.hay_volume_lock.specs.Seats.{IsSameSeat, IsSeated}
use Rattle.hay_volume_lock.specs.Tries.{IsTried}
use Rattle.hay_volume_lock.specs.declared.act.Made.{Made}
use Rattle.hay_volume_lock.specs.declared.act.Made.TheVariants as made_is
use Rattle.hay_volume_lock.specs.declared.guarded.Guarded.{Guarded}
use Rattle.hay_volume_lock.specs.declared.guarded.Opened.{Opened}
use Rattle.hay_volume_lock.proofs.Counting.{count_behind, count_each}
use Rattle.hay_volume_lock.proofs.Doings.{begun_more, doings_more, ended_more}
use Rattle.hay_volume_lock.proofs.Tightening.{since_more}
use Rattle.hay_volume_lock.proofs.Unfused.{unfused_more}
use Rattle.hay_volume_lock.proofs.Growing.{EndsRuns, FusesStay, Keeps, LeadsFusesOf, LeadsTo, TightBehind, each_more, ends_none, follows_more, tags_more, tries_leads}
use Rattle.hay_volume_lock.proofs.Holding.{all_mine, seat_of, seated_behind, took}
use Rattle.hay_volume_lock.proofs.Published.{entered_more, row_more}

abbrev View : Type 0 → Type 0 → Type 0
View D P = Witness (MapPast P (Volume D P)) (Volume D P) (Published P)

-- what begins what was shown begins what is shown
pub later_same : {M B X : Type 0} (v w z : Witness M B X) → IsBehind v w → z ≡ w → IsBehind v z
later_same v w z behind same = subst (λ x. IsBehind v x) (sym same) behind

pub later_deed : {M B X : Type 0} (v w z : Witness M B X) (deed : X) → IsBehind v w → z ≡ with_deed w deed → IsBehind v z
later_deed v w z deed behind same = subst (λ x. IsBehind v x) (sym same)
    (behind.0, behind.1, ((behind.2).0 ++ deed ∷ [], sym (append_assoc v.deeds (behind.2).0 (deed ∷ [])) ∙ ap (λ l. l ++ deed ∷ []) (behind.2).1))

-- WHAT CHANGED

-- the volume and its front, and no count of faults fell
pub record IsOfBoth {D P : Type 0} (faults : D → ℕ) (old new : Guarded D P) : Type 0 where
  pub settings : new.settings ≡ old.settings
  pub same : IsSame old.logical new.logical
  pub is_open : IsOpenVolume new.logical
  pub count : length (new.logical).replicas ≡ length (old.logical).replicas
  pub rises : (j : ℕ) (r r' : Copy D) → At (old.logical).replicas j r → At (new.logical).replicas j r' → faults r.disk ≤ faults r'.disk

-- unless it is frozen, it was not before
abbrev pub Thaws : {D P : Type 0} → Guarded D P → Guarded D P → Type 0
Thaws old new = (new.logical).frozen ≡ None → (old.logical).frozen ≡ None

-- the front shows more: what was entered for the line, if anything was
pub record Shows {D P : Type 0} (tag : CoreTag) (entered : Option Entry) (old new : Guarded D P) : Type 0 where
  pub front : ((new.front).shown).front ≡ ((old.front).shown).front
  pub base : ((new.front).shown).base ≡ ((old.front).shown).base
  pub more : entered_by ((new.front).shown).deeds ≡ entered_by ((old.front).shown).deeds ++ add_shown entered []
  pub tags : map (λ e. e.tag) (new.front).log ≡ map (λ e. e.tag) (old.front).log ++ add_tag entered (record { seat = tag.lane; lane = tag.lane; line = tag.line }) []

-- unless the volume is frozen, its front publishes changes, and its rows are those that are published, if they were before
pub record Serves {D P : Type 0} (opened : Opened D P) (old new : Guarded D P) : Type 0 where
  pub «open» : (new.logical).frozen ≡ None → (new.front).closed ≡ false
  pub rows : (from : IsOpened opened) → ((old.logical).frozen ≡ None → (pair : Pair) → published_row opened.volume from.rows ((old.front).shown).deeds pair ≡ row_at (old.logical).rows pair)
      → (new.logical).frozen ≡ None → (pair : Pair) → published_row opened.volume from.rows ((new.front).shown).deeds pair ≡ row_at (new.logical).rows pair

module _ {D P : Type 0} (Tells : Type 0) (files : D → Files) (PieceTells : Type 0) (faults fuses : D → ℕ) (opened : Opened D P) (acts : List VolumeAct) (old new : Guarded D P) where
  abbrev Kept : List VolumeAct → Guarded D P → Type 0
  Kept held kept = IsKept Tells files PieceTells faults fuses opened held kept

  abbrev stood : VolumeKnown → Standing
  stood k = stood_of faults fuses opened k acts

  -- no count of a disk falls
  none_falls : IsOfBoth faults old new → (j : ℕ) → count_at faults (old.logical).replicas j ≤ count_at faults (new.logical).replicas j
  none_falls of j = count_each faults (old.logical).replicas (new.logical).replicas of.count (λ a b. a ≤ b) (omega arith) of.rises j

  rises_more : Kept acts old → IsOfBoth faults old new → (j : ℕ) → count_at faults (opened.volume).replicas j ≤ count_at faults (new.logical).replicas j
  rises_more h of j = let before = h.rises j in let more = none_falls of j in omega (arith, before, more)

  -- AN ACT

  module _ (tag : CoreTag) (made : Made) where
    abbrev this_act : VolumeAct
    this_act = act_of faults fuses tag made (new.logical).replicas

    faults_then : (h : Kept acts old) (of : IsOfBoth faults old new) (k : VolumeKnown) (j : ℕ) → (left_by this_act (stood k)).faults j ≡ count_at faults (new.logical).replicas j
    faults_then h of k j = count_behind faults (old.logical).replicas (new.logical).replicas j ((stood k).faults j) of.count (h.fault_counts k j)

    fuses_then : (h : Kept acts old) (of : IsOfBoth faults old new) (k : VolumeKnown) (j : ℕ) → (left_by this_act (stood k)).fuses j ≡ count_at fuses (new.logical).replicas j
    fuses_then h of k j = count_behind fuses (old.logical).replicas (new.logical).replicas j ((stood k).fuses j) of.count (h.fuse_counts k j)

    none_fall : (h : Kept acts old) (of : IsOfBoth faults old new) (k : VolumeKnown) → NoneFall (stood k).faults (left_by this_act (stood k)).faults
    none_fall h of k j =
        subst (λ (n : ℕ). n ≤ (left_by this_act (stood k)).faults j) (sym (h.fault_counts k j))
        (subst (λ (n : ℕ). count_at faults (old.logical).replicas j ≤ n) (sym (faults_then h of k j)) (none_falls of j))

    pub kept_acted : Kept acts old → IsOfBoth faults old new → Thaws old new → Shows tag (entry_of (did_by made)) old new → Serves opened old new → LeadsFusesOf fuses old new (did_of (did_by made))
        → (Tells → (k : VolumeKnown) → Stands files PieceTells opened.volume k → Leads (opened.volume).settings (opened.volume).number tag (did_of (did_by made)) (stood k)
        (left_by this_act (stood k)))
        → (Tells → (k : VolumeKnown) → Stands files PieceTells opened.volume k → Stands files PieceTells new.logical (known_by tag (did_by made) (stood k).volume))
        → (Tells → (k : VolumeKnown) → Stands files PieceTells opened.volume k → TightBehind files tag made old new (stood k))
        → ((j : ℕ) → j < ((opened.volume).settings).replicas → slice_index_or new.begun j nobody ≡ begun_in j tag (did_of (did_by made)) (slice_index_or old.begun j nobody))
        → EndsRuns Tells files PieceTells old new this_act
        → Kept (acts ++ this_act ∷ []) new
    kept_acted h of thaws shows serves fuses_lead leads stands tight begun ends = record {
      from = h.from;
      settings = of.settings ∙ h.settings;
      same_settings = (of.same).settings ∙ h.same_settings;
      number = (of.same).number ∙ h.number;
      is_open = of.is_open;
      stands =
          λ tells k s. subst (λ (z : Standing). Stands files PieceTells new.logical z.volume)
          (sym (left_append volume_lock (standing_of faults fuses opened k) acts (this_act ∷ []))) (stands tells k s);
      follows = follows_now;
      sized = each_more (IsSized ((opened.volume).settings).replicas) acts this_act h.sized (record { faults = sized_by faults; fuses = sized_by fuses });
      fault_counts = λ k j. ap (λ (z : Standing). z.faults j) (left_append volume_lock (standing_of faults fuses opened k) acts (this_act ∷ [])) ∙ faults_then h of k j;
      fuse_counts = λ k j. ap (λ (z : Standing). z.fuses j) (left_append volume_lock (standing_of faults fuses opened k) acts (this_act ∷ [])) ∙ fuses_then h of k j;
      rises = rises_more h of;
      fuses_stay = unfused_more acts this_act (count_at fuses (opened.volume).replicas) (count_at fuses (old.logical).replicas) (count_at fuses (new.logical).replicas)
          (fuses_lead _ _ (λ j. refl) (λ j. refl)) h.fuses_stay;
      front = shows.front ∙ h.front;
      base = shows.base ∙ h.base;
      entered = shows.more ∙ ap (λ (l : List Entry). l ++ add_shown (entry_of (did_by made)) []) h.entered ∙ sym (entries_append volume_lock acts (this_act ∷ []));
      serves = serves.«open»;
      rows = serves.rows h.from h.rows;
      tags = shows.tags ∙ ap (λ (l : List Tag). l ++ add_tag (entry_of (did_by made)) (tag_of this_act) []) h.tags ∙ sym (tags_more acts this_act);
      lanes = each_more (λ act. act.seat ≡ (act.tag).lane) acts this_act h.lanes refl;
      begun = λ j less. begun j less ∙ ap (λ (t : CoreTag). begun_in j tag (did_of (did_by made)) t) (h.begun j less) ∙ sym (begun_more j nobody acts this_act);
      ended = λ j lane less few.
          ends.ended j lane (subst (λ (s : Settings). j < s.replicas) (sym h.settings) less) few
          ∙ ap (λ (t : CoreTag). ended_in j lane t this_act (ended_at old.ended j lane)) (h.begun j less)
          ∙ ap (λ (o : Option ℕ). ended_in j lane (begun_of j nobody acts) this_act o) (h.ended j lane less few)
          ∙ sym (ended_more j lane nobody None acts this_act);
      owned = doings_more (λ doing. (j : ℕ) → j < ((opened.volume).settings).replicas → EndsOwn (did_of (doing.act).did) j → (doing.act).seat ≡ (begun_of j nobody doing.held).lane)
          acts this_act h.owned
          (λ j less own. ends.owned j (subst (λ (s : Settings). j < s.replicas) (sym h.settings) less) own ∙ ap (λ (t : CoreTag). t.lane) (h.begun j less));
      cuts = λ tells k s. doings_more (λ doing. (j : ℕ) → ends_at j (doing.act).did ≡ true → (run : Run) × HasRun (stood_of faults fuses opened k doing.held) j run)
          acts this_act (h.cuts tells k s) (ends.cuts tells (stood k) (h.stands tells k s));
      tight = λ tells thawed k s j. since_more (opened.volume).settings (opened.volume).number (standing_of faults fuses opened k) j acts this_act (follows_now tells k s)
          (IsTightAt files old.logical j) (IsTightAt files new.logical j) (h.tight tells (thaws thawed) k s j) (λ enters run stands_then. tight tells k s thawed enters j run stands_then);
    }
      where
        follows_now : Tells → (k : VolumeKnown) → Stands files PieceTells opened.volume k
            → Follows (opened.volume).settings (opened.volume).number (standing_of faults fuses opened k) (replayed volume_lock (standing_of faults fuses opened k) (acts ++ this_act ∷ []))
        follows_now tells k s = follows_more (opened.volume).settings (opened.volume).number (standing_of faults fuses opened k) acts this_act (h.follows tells k s)
            (record { leads = leads tells k s; faults = none_fall h of k; fuses = fuses_lead (stood k).fuses (left_by this_act (stood k)).fuses (h.fuse_counts k) (fuses_then h of k) })

        sized_by : (count : D → ℕ) → length (counts count (new.logical).replicas) ≡ ((opened.volume).settings).replicas
        sized_by count = length-map (new.logical).replicas (λ (r : Copy D). count r.disk) ∙ (of.is_open).all ∙ ap (λ (s : Settings). s.replicas) ((of.same).settings ∙ h.same_settings)

  -- NO ACT, where no call of a disk has failed

  pub kept_seen : (tag : CoreTag) → Kept acts old → IsOfBoth faults old new → Thaws old new → Shows tag None old new → Serves opened old new → FusesStay fuses old new
      → counts faults (old.logical).replicas ≡ counts faults (new.logical).replicas
      → Keeps Tells files PieceTells old new → new.begun ≡ old.begun → new.ended ≡ old.ended → Kept acts new
  kept_seen tag h of thaws shows serves stay even keeps begun ended = record {
    from = h.from;
    settings = of.settings ∙ h.settings;
    same_settings = (of.same).settings ∙ h.same_settings;
    number = (of.same).number ∙ h.number;
    is_open = of.is_open;
    stands = λ tells k s. (keeps tells (stood k).volume (h.stands tells k s)).0;
    follows = h.follows;
    sized = h.sized;
    fault_counts = λ k j. h.fault_counts k j ∙ ap (λ (l : List ℕ). slice_index_or l j 0) even;
    fuse_counts = λ k j. h.fuse_counts k j ∙ sym (count_each fuses (old.logical).replicas (new.logical).replicas of.count (λ a b. b ≡ a) refl stay j);
    rises = rises_more h of;
    fuses_stay = λ none j. count_each fuses (old.logical).replicas (new.logical).replicas of.count (λ a b. b ≡ a) refl stay j ∙ h.fuses_stay none j;
    front = shows.front ∙ h.front;
    base = shows.base ∙ h.base;
    entered = shows.more ∙ append-nil (entered_by ((old.front).shown).deeds) ∙ h.entered;
    serves = serves.«open»;
    rows = serves.rows h.from h.rows;
    tags = shows.tags ∙ append-nil (map (λ e. e.tag) (old.front).log) ∙ h.tags;
    lanes = h.lanes;
    begun = λ j less. ap (λ (l : List CoreTag). slice_index_or l j nobody) begun ∙ h.begun j less;
    ended = λ j lane less few. ap (λ (l : List (List (Option ℕ))). ended_at l j lane) ended ∙ h.ended j lane less few;
    owned = h.owned;
    cuts = h.cuts;
    tight = λ tells thawed k s j begins within is same run stands_then.
        (keeps tells (stood k).volume (h.stands tells k s)).1 thawed j run stands_then (h.tight tells (thaws thawed) k s j begins within is same run stands_then);
  }

-- WHAT A HOLDING LEAVES

-- for the line it made this act, or none
pub record Changes {D P : Type 0} (Tells : Type 0) (files : D → Files) (PieceTells : Type 0) (faults fuses : D → ℕ) (tag : CoreTag) (old new : Guarded D P) (made : Option VolumeAct) : Type 0 where
  pub kept : (opened : Opened D P) (held : List VolumeAct) → IsKept Tells files PieceTells faults fuses opened held old → IsKept Tells files PieceTells faults fuses opened (held ++ acts_in made) new
  pub tags : Each (λ act. act.tag ≡ tag) (acts_in made)
  pub seats : Each (λ act. act.seat ≡ tag.lane) (acts_in made)

module _ {D P : Type 0} (Tells : Type 0) (files : D → Files) (PieceTells : Type 0) (faults fuses : D → ℕ) (tag : CoreTag) (old new : Guarded D P) where
  abbrev Leaves : Option VolumeAct → Type 0
  Leaves made = Changes Tells files PieceTells faults fuses tag old new made

  pub fuses_stay : length (new.logical).replicas ≡ length (old.logical).replicas → FusesStay fuses old new → (before after : ℕ → ℕ) → ((j : ℕ) → before j ≡ count_at fuses (old.logical).replicas j)
      → ((j : ℕ) → after j ≡ count_at fuses (new.logical).replicas j) → (j : ℕ) → after j ≡ before j
  fuses_stay count stay before after was is j = is j ∙ count_each fuses (old.logical).replicas (new.logical).replicas count (λ a b. b ≡ a) refl stay j ∙ sym (was j)

  pub changes_acted : (made : Made) → IsOfBoth faults old new → Thaws old new → Shows tag (entry_of (did_by made)) old new
      → ((opened : Opened D P) → (old.logical).settings ≡ (opened.volume).settings → Serves opened old new)
      → LeadsFusesOf fuses old new (did_of (did_by made))
      → (Tells → (before : Standing) → Stands files PieceTells old.logical before.volume → LeadsTo Tells files PieceTells faults fuses tag old new made before)
      → ((j : ℕ) → j < (old.settings).replicas → slice_index_or new.begun j nobody ≡ begun_in j tag (did_of (did_by made)) (slice_index_or old.begun j nobody))
      → EndsRuns Tells files PieceTells old new (act_of faults fuses tag made (new.logical).replicas)
      → (act : VolumeAct) → act ≡ act_of faults fuses tag made (new.logical).replicas → Leaves (Some act)
  changes_acted made of thaws shows serves fuses_lead leads begun ends act is = subst (λ (z : VolumeAct). Leaves (Some z)) (sym is) (record {
    kept = λ opened held h. kept_acted Tells files PieceTells faults fuses opened held old new tag made h of thaws shows (serves opened h.same_settings) fuses_lead
        (λ tells k s. subst (λ (z : Settings). Leads z (opened.volume).number tag (did_of (did_by made)) (stood_of faults fuses opened k held)
        (left_by this (stood_of faults fuses opened k held))) h.same_settings
        (subst (λ (z : ℕ). Leads (old.logical).settings z tag (did_of (did_by made)) (stood_of faults fuses opened k held) (left_by this (stood_of faults fuses opened k held))) h.number
        (leads tells (stood_of faults fuses opened k held) (h.stands tells k s)).leads))
        (λ tells k s. (leads tells (stood_of faults fuses opened k held) (h.stands tells k s)).stands)
        (λ tells k s. (leads tells (stood_of faults fuses opened k held) (h.stands tells k s)).tight)
        (λ j less. begun j (subst (λ (z : Settings). j < z.replicas) (sym h.settings) less)) ends;
    tags = (refl, tt);
    seats = (refl, tt);
  })
    where
      this : VolumeAct
      this = act_of faults fuses tag made (new.logical).replicas

  -- where what stands was not changed: an act tells of it where a call of a disk has failed
  pub changes_seen : IsOfBoth faults old new → Thaws old new → Shows tag None old new
      → ((opened : Opened D P) → (old.logical).settings ≡ (opened.volume).settings → Serves opened old new)
      → FusesStay fuses old new → Keeps Tells files PieceTells old new → new.begun ≡ old.begun → new.ended ≡ old.ended
      → (made : Option VolumeAct) → IsTried faults fuses tag (counts faults (old.logical).replicas) (new.logical).replicas made → Leaves made
  changes_seen of thaws shows serves stay keeps begun ended None tried = record {
    kept = λ opened held h. subst (λ (l : List VolumeAct). IsKept Tells files PieceTells faults fuses opened l new) (sym (append-nil held))
        (kept_seen Tells files PieceTells faults fuses opened held old new tag h of thaws shows (serves opened h.same_settings) stay (tried.quiet.0 refl) keeps begun ended);
    tags = tt;
    seats = tt;
  }
  changes_seen of thaws shows serves stay keeps begun ended (Some act) tried = changes_acted made_is.Tries of thaws shows serves (fuses_stay of.count stay)
      (tries_leads Tells files PieceTells faults fuses tag old new keeps) (λ j less. ap (λ (l : List CoreTag). slice_index_or l j nobody) begun)
      (ends_none Tells files PieceTells old new (act_of faults fuses tag made_is.Tries (new.logical).replicas) (λ j. refl) (λ j own. own) ended) act tried.is

-- WHAT IT TELLS

module _ {D P : Type 0} (Tells : Type 0) (files : D → Files) (PieceTells : Type 0) (faults fuses : D → ℕ) (tag : CoreTag) (t t' : SeatState (Opened D P) VolumeAct) {stood : ℕ}
    (v v' v'' : View D P) (kept after : Guarded D P) (made : Option VolumeAct)
    (seated : IsSeated t stood v) (holds : Holds (λ act. act.seat) (λ opened acts x. IsKept Tells files PieceTells faults fuses opened acts x) t t' kept)
    (behind : IsBehind v (kept.front).shown) (all : v' ≡ (kept.front).shown) (shown : v'' ≡ (after.front).shown)
    (changes : Changes Tells files PieceTells faults fuses tag kept after made) where
  start_same : t'.start ≡ t.start
  start_same = ap (λ (z : SeatState (Opened D P) VolumeAct). z.start) holds.same

  kept_then : (opened : Opened D P) → t.start ≡ Some opened → IsKept Tells files PieceTells faults fuses opened (t'.seen ++ acts_in made) after
  kept_then opened is = changes.kept opened t'.seen (holds.stands_for opened is)

  -- the volume may be put back behind it
  pub changed_free : (opened : Opened D P) → t'.start ≡ Some opened → IsKept Tells files PieceTells faults fuses opened (t'.seen ++ acts_in made) after
  changed_free opened is = kept_then opened (sym start_same ∙ is)

  pub changed_mine : t.number ≡ tag.lane → AllOf (λ act. act.seat) t'.number (acts_in made)
  changed_mine lane = all_mine t'.number tag.lane (acts_in made) (ap (λ (z : SeatState (Opened D P) VolumeAct). z.number) holds.same ∙ lane) changes.seats

  module _ (t'' : SeatState (Opened D P) VolumeAct) (free : t'' ≡ after_free t' (acts_in made)) where
    holding : Holding volume_lock tag t'.seen made (seat_of t v).sight (seat_of t'' v'').sight
    holding =
        let takes = took Tells files PieceTells faults fuses t t' v v' kept seated holds behind all in record {
          from = holds.seen;
          shown_from = takes.shown;
          seen = ap (λ (z : SeatState (Opened D P) VolumeAct). z.seen) free;
          own = ap (λ (z : SeatState (Opened D P) VolumeAct). z.own) free ∙ ap (λ (z : SeatState (Opened D P) VolumeAct). z.own ++ acts_in made) holds.same;
          shown = ap (λ (z : View D P). entered_by z.deeds) shown ∙ (kept_then seated.opened seated.is).entered;
          tags = changes.tags;
          seats = changes.seats;
        }

    pub changed_seated : t.number ≡ tag.lane → IsBehind v v'' → IsSeated t'' stood v''
    changed_seated lane later = seated_behind Tells files PieceTells faults fuses t t' t'' v v'' kept (acts_in made) seated holds later
        (all_mine t.number tag.lane (acts_in made) lane changes.seats) free

    pub changed_told : (Is : StoreVolume → VolumeCall) → Found Tells files PieceTells faults fuses tag kept made Is
        → IsTold Tells files PieceTells faults fuses t.start (λ volume. Is volume (seat_of t v).sight (seat_of t'' v'').sight)
    changed_told Is finds opened is tells k s volume at = finds opened t'.seen (holds.stands_for opened is) tells k s volume at (seat_of t v).sight (seat_of t'' v'').sight holding

    pub changed_always : (Is : StoreVolume → VolumeCall) → FoundAlways Tells files PieceTells faults fuses tag kept made Is
        → IsAlways faults fuses t.start (λ volume. Is volume (seat_of t v).sight (seat_of t'' v'').sight)
    changed_always Is finds opened is k volume at = finds opened t'.seen (holds.stands_for opened is) k volume at (seat_of t v).sight (seat_of t'' v'').sight holding

    pub changed_held : SetNoFuse (acts_in made) → UnfusedHolding tag (seat_of t v).sight (seat_of t'' v'').sight
    changed_held none = record { held = t'.seen; made = made; holding = holding; is = none }

    pub changed_same : t.holds ≡ false → IsSameSeat (seat_of t v) (seat_of t'' v'')
    changed_same rests =
        let whole : t'' ≡ record t { seen = t'.seen ++ acts_in made; own = t'.own ++ acts_in made; holds = false } =
        free ∙ ap (λ (z : SeatState (Opened D P) VolumeAct). record z { seen = t'.seen ++ acts_in made; own = t'.own ++ acts_in made; holds = false }) holds.same in
        subst (λ (z : SeatState (Opened D P) VolumeAct). IsSameSeat (seat_of t v) (seat_of z v'')) (sym whole)
        (ap (λ (b : Bool). seat_of (record t { seen = t'.seen ++ acts_in made; own = t'.own ++ acts_in made; holds = b }) v'') (sym rests))

-- WHAT IS PUBLISHED

module _ {D P : Type 0} (tag : CoreTag) (old new : Guarded D P) where
  -- a change that was published, which entered this or nothing
  pub shows_deed : (deed : Published P) (entered : Option Entry) → deed.entered ≡ add_shown entered []
      → (new.front).shown ≡ with_deed (old.front).shown deed
      → map (λ e. e.tag) (new.front).log ≡ map (λ e. e.tag) (old.front).log ++ add_tag entered (record { seat = tag.lane; lane = tag.lane; line = tag.line }) []
      → Shows tag entered old new
  shows_deed deed entered is shown tags = record {
    front = ap (λ (w : View D P). w.front) shown;
    base = ap (λ (w : View D P). w.base) shown;
    more = ap (λ (w : View D P). entered_by w.deeds) shown ∙ entered_more ((old.front).shown).deeds deed ∙ ap (λ (l : List Entry). entered_by ((old.front).shown).deeds ++ l) is;
    tags = tags;
  }

  -- where it was refused, nothing was
  pub shows_nothing : (new.front).shown ≡ (old.front).shown → (new.front).log ≡ (old.front).log → Shows tag None old new
  shows_nothing shown log = record {
    front = ap (λ (w : View D P). w.front) shown;
    base = ap (λ (w : View D P). w.base) shown;
    more = ap (λ (w : View D P). entered_by w.deeds) shown ∙ sym (append-nil (entered_by ((old.front).shown).deeds));
    tags = ap (λ (l : List (LogEntry (Published P))). map (λ e. e.tag) l) log ∙ sym (append-nil (map (λ e. e.tag) (old.front).log));
  }

  -- the rows are changed as they are published
  pub serves_deed : (deed : Published P) (opened : Opened D P) → (new.front).closed ≡ false → (new.front).shown ≡ with_deed (old.front).shown deed
      → ((new.logical).frozen ≡ None → (old.logical).frozen ≡ None) → FitsRows ((opened.volume).settings).replicas deed.change
      → ((pair : Pair) → row_at (new.logical).rows pair ≡ changed_row deed.change pair (row_at (old.logical).rows pair)) → Serves opened old new
  serves_deed deed opened «open» shown thawed fit rows = record {
    «open» = λ still. «open»;
    rows = λ from were still pair.
        ap (λ (w : View D P). published_row opened.volume from.rows w.deeds pair) shown
        ∙ row_more (begun_at opened.volume from.rows) ((old.front).shown).deeds deed pair (subst (λ (n : ℕ). FitsRows n deed.change) (sym from.width) fit)
        ∙ ap (λ (row : List (Place P)). changed_row deed.change pair row) (were (thawed still) pair)
        ∙ sym (rows pair);
  }

  -- a frozen volume owes nothing
  pub serves_frozen : (opened : Opened D P) (m : ℕ) → (new.logical).frozen ≡ Some m → Serves opened old new
  serves_frozen opened m is = record { «open» = λ still. absurd (cc (is, still)); rows = λ from were still pair. absurd (cc (is, still)) }
