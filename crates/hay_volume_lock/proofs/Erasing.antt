-- Steps of a delete within a holding: places that are seen, and a photo that is deleted then.
use Rattle.std.proofs.Common.{◌≡◌, inl, inr, ℕ, ◌+◌, ◌<◌, Bool, true, false, List, [], ◌∷◌, ◌++◌, length, Option, Some, None, refl, sym, ap, subst, ◌∙◌, append-nil, append_assoc, arith}
use Rattle.std.specs.Prelude.{Result, Ok, Err, map, slice_get, slice_index_or, slice_set}
use Rattle.std.proofs.lemmas.Bool.{cases_lt, cond-true}
use Rattle.std.proofs.lemmas.Option.{none-some}
use Rattle.hay_core.specs.declared.entry.CoreTag.{CoreTag}
use Rattle.hay_core.specs.declared.entry.Entry.{Entry}
use Rattle.hay_core.specs.declared.entry.Entry.TheVariants as entry
use Rattle.hay_compact.specs.Finishing.{IsSeen}
use Rattle.hay_disk.specs.Counts.{Rose}
use Rattle.hay_disk.specs.Disk.{Files}
use Rattle.hay_front.specs.declared.front.Tag.{Tag}
use Rattle.hay_front.specs.Entries.{LogEntry}
use Rattle.hay_front.specs.Fronts.{Holds, IsBehind, MayPublish, Witness, logged, with_deed}
use Rattle.hay_legal.specs.declared.known.ReplicaKnown.{ReplicaKnown}
use Rattle.hay_legal.specs.declared.known.VolumeKnown.{VolumeKnown}
use Rattle.hay_legal.specs.Known.{machine_of}
use Rattle.hay_legal.specs.Plain.{ended_where, frozen_by, with_del}
use Rattle.hay_history.specs.LaneSteps.{Standing}
use Rattle.hay_logical.specs.Answers as logical
use Rattle.hay_logical.specs.declared.fault.LogicalFault.{LogicalFault}
use Rattle.hay_logical.specs.declared.fault.LogicalFault.TheVariants.{Busy, Damaged, Failed, Full, Gone, Idle, NoMemory, ReadOnly, Worn}
use Rattle.hay_logical.specs.declared.unsure.Change.TheVariants as unsure
use Rattle.hay_logical.specs.declared.written.Erased.{Erased}
use Rattle.hay_logical.specs.Seen.{DeleteRefusedSeen, VolumeSeen, volume_seen}
use Rattle.hay_logical.specs.Stands.{Stands}
use Rattle.hay_logical.specs.ReplicaCalls.{SetsPlaceAt}
use Rattle.hay_logical.specs.Unshown.{GivesUp, IsErased}
use Rattle.hay_logical.specs.Volumes.{IsOpenVolume, IsSame, KeepsCounts, Volume}
use Rattle.hay_map.specs.MapRows.{MapRows}
use Rattle.hay_map.specs.Places.{place_in}
use Rattle.hay_map.specs.Rows.{ChangesRows, FitsRows, changed_row, row_at}
use Rattle.hay_map.specs.declared.place.Place.{Place}
use Rattle.hay_map.specs.declared.view.MapOp.{MapOp}
use Rattle.hay_map.specs.declared.view.MapOp.TheVariants as op
use Rattle.hay_meeting.specs.declared.act.VolumeAct.{VolumeAct}
use Rattle.hay_needle.specs.declared.needle.Pair.{Pair}
use Rattle.hay_needle.specs.declared.settings.Settings.{Settings}
use Rattle.hay_needle.specs.Tables.{pair_eq}
use Rattle.hay_needle.proofs.TableLaws.{pair_refl}
use Rattle.hay_physical.specs.OpenCopies.{goal_of}
use Rattle.hay_views.specs.declared.places.Published.{Published}
use Rattle.hay_views.specs.MapPasts.{Enters, begun_at, is_entry}
use Rattle.hay_volume_lock.specs.Acts.{act_of, counts}
use Rattle.hay_volume_lock.specs.Answers.{Found}
use Rattle.hay_volume_lock.specs.Changes.{freezes_by, pends_by}
use Rattle.hay_volume_lock.specs.Deletes.{DeleteAnswer, delete_made, noted, over_since}
use Rattle.hay_volume_lock.specs.Ended.{ended_at}
use Rattle.hay_volume_lock.specs.Keeping.{IsKept, count_at, published_row, stood_of}
use Rattle.hay_volume_lock.specs.Tries.{tried_made}
use Rattle.hay_volume_lock.specs.declared.act.Made.{Made}
use Rattle.hay_volume_lock.specs.declared.act.Made.TheVariants as made_is
use Rattle.hay_volume_lock.specs.declared.guarded.Guarded.{Guarded}
use Rattle.hay_volume_lock.specs.declared.guarded.Opened.{Opened}
use Rattle.hay_volume_lock.proofs.Deleting.{Deletes, counts_more, delete_given_up, delete_refused, delete_shown, delete_since, over_is, ran_before, rose_erased, same_more}
use Rattle.hay_volume_lock.proofs.Deleting.{serves_kept, serves_more, shows_more, sight_refused, sight_since, sight_wanted}
use Rattle.hay_volume_lock.proofs.Growing.{Keeps, TightStays}
use Rattle.hay_volume_lock.proofs.Holding.{stood_is}
use Rattle.hay_volume_lock.proofs.Published.{Fact, del_tells, fact_first, may_publish, set_in}
use Rattle.hay_volume_lock.proofs.Publishing.{serves_deed, serves_frozen, shows_deed, shows_nothing}
use Rattle.hay_volume_lock.proofs.Putting.{IsMadeBy, both_again, both_rows, frozen_known, tags_logged}
use Rattle.hay_volume_lock.proofs.Seeing.{Sees, sees_more}

pub behind_itself : {M B X : Type 0} (w : Witness M B X) → IsBehind w w
behind_itself w = (refl, refl, ([], append-nil w.deeds))

pub later_more : {M B X : Type 0} (u v w : Witness M B X) → IsBehind u v → IsBehind v w → IsBehind u w
later_more u v w a b = (
  a.0 ∙ b.0,
  a.1 ∙ b.1,
  ((a.2).0 ++ (b.2).0, sym (append_assoc u.deeds (a.2).0 (b.2).0) ∙ ap (λ l. l ++ (b.2).0) (a.2).1 ∙ (b.2).1),
)

-- each place below the next was seen
pub seen_next : {P : Type 0} (row : List (Place P)) (n : ℕ) → ((j : ℕ) → j < n → IsSeen (place_in row j)) → IsSeen (place_in row n) → (j : ℕ) → j < n + 1 → IsSeen (place_in row j)
seen_next row n each here j less = elim (cases_lt j n) [
  | inl below ↦ each j below
  | inr past ↦ (let same : n ≡ j = omega arith in subst (λ (i : ℕ). IsSeen (place_in row i)) same here)
]

-- places of a row of which one was set that was seen
pub seen_set : {P : Type 0} (pair : Pair) (replica : ℕ) (there : Place P) (old new : MapRows P) → SetsPlaceAt pair replica there old new → IsSeen there
    → (j : ℕ) → IsSeen (place_in (row_at old pair) j) → IsSeen (place_in (row_at new pair) j)
seen_set pair replica there old new sets seen j was =
    subst (λ (row : List (Place _)). IsSeen (place_in row j)) (sym (sets pair ∙ cond-true (pair_eq pair pair) (slice_set (row_at old pair) replica there) (row_at old pair) (pair_refl pair)))
    (elim (set_in (row_at old pair) replica there j) [
      | inl same ↦ subst (λ (p : Place _). IsSeen p) (sym same) was
      | inr here ↦ subst (λ (p : Place _). IsSeen p) (sym here.1) seen
    ])

-- a delete that was refused leaves what was pending, unless it froze the volume
pub unsure_kept : {D P : Type 0} (tag : CoreTag) (pair : Pair) (old new : Volume D P) (fault : LogicalFault) → DeleteRefusedSeen tag pair (volume_seen old) (volume_seen new) fault
    → new.frozen ≡ None → new.unsure ≡ old.unsure
unsure_kept tag pair old new (Failed m f) (inl stays) thawed = ap (λ (s : VolumeSeen). s.unsure) stays.1
unsure_kept tag pair old new (Failed m f) (inr freezes) thawed = absurd (none-some m (sym thawed ∙ freezes.frozen))
unsure_kept tag pair old new NoMemory stays thawed = ap (λ (s : VolumeSeen). s.unsure) stays.1
unsure_kept tag pair old new (ReadOnly m) stays thawed = ap (λ (s : VolumeSeen). s.unsure) stays.0
unsure_kept tag pair old new (Gone front) stays thawed = ap (λ (s : VolumeSeen). s.unsure) (stays.0).1
unsure_kept tag pair old new (Damaged m at) stays thawed = ap (λ (s : VolumeSeen). s.unsure) stays.1
unsure_kept tag pair old new (Full m end need capacity) stays thawed = absurd stays
unsure_kept tag pair old new (Busy m g) stays thawed = absurd stays
unsure_kept tag pair old new (Worn m) stays thawed = absurd stays
unsure_kept tag pair old new Idle stays thawed = absurd stays

module _ {D P : Type 0} (Tells : Type 0) (files : D → Files) (PieceTells : Type 0) (faults fuses : D → ℕ) (tag : CoreTag) where
  abbrev Seen : Guarded D P → Guarded D P → Type 0
  Seen old new = Sees Tells files PieceTells faults fuses tag old new

  -- a holding found the volume thawed, and has seen places since
  pub record HasSeen (now : Guarded D P) : Type 0 where
    pub opened : Opened D P
    pub held : List VolumeAct
    pub old : Guarded D P
    pub found : IsKept Tells files PieceTells faults fuses opened held old
    pub thawed : (old.logical).frozen ≡ None
    pub sees : Seen old now

  -- what a delete leaves and tells that did this, behind places that it saw
  abbrev pub DeletesBy : Guarded D P → Guarded D P → Pair → Result ℕ LogicalFault → Option Made → Type 0
  DeletesBy mid new pair answer did = (old : Guarded D P) → (old.logical).frozen ≡ None → Seen old mid
      → (act : Option VolumeAct) → IsMadeBy Tells files PieceTells faults fuses tag old new did act → Deletes Tells files PieceTells faults fuses tag old new pair answer act

  -- an act that was made of what was done
  pub made_act : (old new : Guarded D P) (made : Made) (act : VolumeAct) → act ≡ act_of faults fuses tag made (new.logical).replicas
      → IsMadeBy Tells files PieceTells faults fuses tag old new (Some made) (Some act)
  made_act old new made act is = record {
    acts = λ m same. ap Some (is ∙ ap (λ (z : Made). act_of faults fuses tag z (new.logical).replicas) (let one : made ≡ m = cc same in one));
    tries = λ none. absurd (cc none);
  }

  -- WHERE PLACES WERE SEEN

  module _ (now : Guarded D P) (since : HasSeen now) where
    pub thawed_now : (now.logical).frozen ≡ None
    thawed_now = (since.sees).frozen ∙ since.thawed

    pub serves_now : (now.front).closed ≡ false
    serves_now = ((since.sees).serves since.opened (since.found).same_settings).«open» thawed_now

    pub settings_now : (now.logical).settings ≡ now.settings
    settings_now = (((since.sees).of).same).settings ∙ (since.found).same_settings ∙ sym ((since.found).settings) ∙ sym ((since.sees).of).settings

  pub since : (old now : Guarded D P) (opened : Opened D P) (held : List VolumeAct) → IsKept Tells files PieceTells faults fuses opened held old → (old.logical).frozen ≡ None → Seen old now
      → HasSeen now
  since old now opened held found thawed sees = record { opened = opened; held = held; old = old; found = found; thawed = thawed; sees = sees }

  module _ (old mid : Guarded D P) (sees : Seen old mid) where
    pub counts_seen : KeepsCounts faults fuses (old.logical).replicas (mid.logical).replicas
    counts_seen = record { count = (sees.of).count; rises = (sees.of).rises; stay = sees.stay }

  -- the volume was frozen before
  pub met_frozen : (kept : Guarded D P) (pair : Pair) (m : ℕ) → (Tells → (k : VolumeKnown) → Stands files PieceTells kept.logical k → k.frozen ≡ Some m)
      → Found Tells files PieceTells faults fuses tag kept None (λ volume. DeleteAnswer volume tag pair (Err (ReadOnly m)))
  met_frozen kept pair m known opened held h tells k s volume at a b holding = record {
    held = held;
    made = None;
    holding = holding;
    is = (refl, sym (ap (λ (z : Standing). (z.volume).frozen) (stood_is faults fuses opened k volume held at)) ∙ known tells (stood_of faults fuses opened k held).volume (h.stands tells k s));
  }

  -- nothing was seen more, and what stands was not changed
  pub sees_still : (mid new : Guarded D P) → new.settings ≡ mid.settings → new.front ≡ mid.front → new.begun ≡ mid.begun → new.ended ≡ mid.ended → (mid.front).closed ≡ false
      → IsSame mid.logical new.logical → IsOpenVolume new.logical → KeepsCounts faults fuses (mid.logical).replicas (new.logical).replicas
      → Keeps Tells files PieceTells mid new → (new.logical).frozen ≡ (mid.logical).frozen
      → ((pair : Pair) → row_at (new.logical).rows pair ≡ row_at (mid.logical).rows pair) → Seen mid new
  sees_still mid new settings front begun ended closed same is_open counts keeps frozen rows = record {
    of = record { settings = settings; same = same; is_open = is_open; count = counts.count; rises = counts.rises };
    shows = shows_nothing tag mid new (ap (λ f. f.shown) front) (ap (λ f. f.log) front);
    serves = λ opened is. record {
      «open» = λ thawed. ap (λ f. f.closed) front ∙ closed;
      rows = λ from were still q. ap (λ f. published_row opened.volume from.rows (f.shown).deeds q) front ∙ were (sym frozen ∙ still) q ∙ sym (rows q);
    };
    stay = counts.stay;
    keeps = keeps;
    begun = begun;
    ended = ended;
    frozen = frozen;
  }

  -- A LOOK THAT WAS REFUSED

  pub halts_refused : (mid new : Guarded D P) (pair : Pair) → Seen mid new → (fault : LogicalFault)
      → (Tells → (k : VolumeKnown) → Stands files PieceTells mid.logical k → (m at : ℕ) → fault ≡ Damaged m at → ⊥)
      → logical.IsSightFault faults (mid.logical).settings (mid.logical).number (mid.logical).replicas (new.logical).replicas fault
      → DeletesBy mid new pair (Err fault) (tried_made fault)
  halts_refused mid new pair more fault undamaged cause old thawed sees act by =
      let all : Seen old new = sees_more Tells files PieceTells faults fuses tag old mid new sees more in
      sight_refused Tells files PieceTells faults fuses tag old new pair all.of all.stay all.shows all.serves all.begun all.ended thawed fault all.keeps
      (λ tells k s. undamaged tells k (sees.keeps tells k s).0)
      (sight_since faults fuses old.logical mid.logical (new.logical).replicas (sees.of).same (counts_seen old mid sees) fault cause) act by

  -- or for want of memory to publish what it saw
  pub halts_wanted : (mid new : Guarded D P) (seen : Volume D P) (pair : Pair) → new.settings ≡ mid.settings → new.begun ≡ mid.begun → new.ended ≡ mid.ended
      → (new.front).shown ≡ (mid.front).shown → (new.front).log ≡ (mid.front).log
      → IsSame mid.logical seen → IsOpenVolume seen → KeepsCounts faults fuses (mid.logical).replicas seen.replicas
      → (Tells → (k : VolumeKnown) → Stands files PieceTells mid.logical k → Stands files PieceTells seen k)
      → IsSame seen new.logical → IsOpenVolume new.logical → KeepsCounts faults fuses seen.replicas (new.logical).replicas
      → (Tells → (k : VolumeKnown) → Stands files PieceTells seen k → k.frozen ≡ None → Stands files PieceTells new.logical (frozen_by (machine_of seen.settings seen.number 0) k))
      → (new.logical).frozen ≡ Some (machine_of seen.settings seen.number 0)
      → DeletesBy mid new pair (Err NoMemory) (freezes_by None (new.logical).frozen)
  halts_wanted mid new seen pair settings begun ended shown log same is_open counts stands again new_open more freezes frozen old thawed sees act by =
      let to_seen : IsSame old.logical seen = same_more old.logical mid.logical seen (sees.of).count (sees.of).same same in
      let both = both_again Tells files PieceTells faults fuses tag old new seen (settings ∙ (sees.of).settings) to_seen is_open
      (counts_more faults fuses (old.logical).replicas (mid.logical).replicas seen.replicas (counts_seen old mid sees) counts) again new_open more in
      let m : ℕ = machine_of seen.settings seen.number 0 in
      sight_wanted Tells files PieceTells faults fuses tag old new pair both.0 both.1 (shows_more tag old mid new None sees.shows (shows_nothing tag mid new shown log))
      (λ opened is. serves_frozen tag old new opened m frozen) (begun ∙ sees.begun) (ended ∙ sees.ended) thawed m
      (ap (λ (s : Settings). machine_of s seen.number 0) to_seen.settings ∙ ap (λ (v : ℕ). machine_of (old.logical).settings v 0) to_seen.number) frozen
      (λ tells k s. freezes tells k (stands tells k (sees.keeps tells k s).0) (frozen_known files PieceTells old.logical k s ∙ thawed)) act by

  -- A DELETE

  pub erase_refused : (mid new : Guarded D P) (pair : Pair) → new.settings ≡ mid.settings → new.front ≡ mid.front → new.begun ≡ mid.begun → new.ended ≡ mid.ended
      → (mid.front).closed ≡ false → (mid.logical).frozen ≡ None
      → IsSame mid.logical new.logical → IsOpenVolume new.logical → KeepsCounts faults fuses (mid.logical).replicas (new.logical).replicas
      → ((q : Pair) → row_at (new.logical).rows q ≡ row_at (mid.logical).rows q)
      → (Tells → TightStays files mid new) → (fault : LogicalFault)
      → (Tells → (k : VolumeKnown) → Stands files PieceTells mid.logical k → logical.DeleteRefused files PieceTells k tag pair new.logical fault)
      → logical.IsDeleteFault faults (mid.logical).settings (mid.logical).number (mid.logical).replicas (new.logical).replicas fault
      → ((m at : ℕ) → fault ≡ Damaged m at → ⊥)
      → DeletesBy mid new pair (Err fault) (delete_made (new.logical).frozen (entry.Del pair) fault)
  erase_refused mid new pair settings front begun ended closed thawed_mid same is_open counts rows tight fault refused cause undamaged old thawed sees act by =
      let both = both_again Tells files PieceTells faults fuses tag old new mid.logical (settings ∙ (sees.of).settings) (sees.of).same (sees.of).is_open (counts_seen old mid sees)
      same is_open counts in
      delete_refused Tells files PieceTells faults fuses tag old new pair both.0 both.1
      (shows_more tag old mid new None sees.shows (shows_nothing tag mid new (ap (λ f. f.shown) front) (ap (λ f. f.log) front)))
      (λ opened is. serves_kept tag old mid new opened (sees.serves opened is) front closed thawed_mid rows) (begun ∙ sees.begun) (ended ∙ sees.ended) thawed fault
      (λ tells k s still j run has was. tight tells still j ((sees.keeps tells k s).1 thawed_mid j run has was))
      (λ tells k s. refused tells k (sees.keeps tells k s).0)
      (delete_since faults fuses old.logical mid.logical (new.logical).replicas (sees.of).same (counts_seen old mid sees) fault cause) undamaged act by

  module _ (mid : Guarded D P) (pair : Pair) (deed : Published P) (change_is : deed.change ≡ op.Del pair) (entered_is : deed.entered ≡ entry.Del pair ∷ []) where
    abbrev change : Entry
    change = entry.Del pair

    deed_is : deed ≡ record { change = op.Del pair; entered = change ∷ [] }
    deed_is = λ i. record { change = change_is i; entered = entered_is i }

    -- it may be published
    pub erase_may : HasSeen mid → Holds (Fact Tells files PieceTells) (mid.front).shown → MayPublish (Fact Tells files PieceTells) (mid.front).shown deed
    erase_may since fact =
        let h = since.found in
        let base = ((since.sees).shows).base ∙ h.base ∙ (h.from).base in
        let fit : FitsRows ((h.from).rows).replicas deed.change = subst (λ (d : Published P). FitsRows ((h.from).rows).replicas d.change) (sym deed_is) tt in
        may_publish Tells files PieceTells (since.opened).volume (h.from).rows (mid.front).shown base fact deed
        (record { rows = fit; enters = subst (λ (d : Published P). Enters d.change d.entered) (sym deed_is) refl })
        (del_tells Tells files PieceTells (begun_at (since.opened).volume (h.from).rows) ((mid.front).shown).deeds deed fit
        (fact_first Tells files PieceTells (since.opened).volume (h.from).rows (mid.front).shown base fact).1 pair deed_is)

    module _ (new : Guarded D P) (er : Volume D P) (erased : Erased) (settings : new.settings ≡ mid.settings) (begun : new.begun ≡ mid.begun)
        (thawed_mid : (mid.logical).frozen ≡ None) (same : IsSame mid.logical er) (is_open : IsOpenVolume er) (held : KeepsCounts faults fuses (mid.logical).replicas er.replicas)
        (stands : Tells → (k : VolumeKnown) → Stands files PieceTells mid.logical k → IsErased files faults PieceTells k pair erased mid.logical er) where
      -- it was not published, and given up
      pub erase_unshown : new.ended ≡ mid.ended → (new.front).shown ≡ (mid.front).shown → (new.front).log ≡ (mid.front).log
          → (Tells → (k : VolumeKnown) → GivesUp files PieceTells k tag (unsure.Delete pair) er new.logical)
          → IsSame er new.logical → IsOpenVolume new.logical → KeepsCounts faults fuses er.replicas (new.logical).replicas
          → (new.logical).frozen ≡ Some (machine_of er.settings er.number 0)
          → DeletesBy mid new pair (Err NoMemory) (pends_by (new.logical).frozen change false)
      erase_unshown ended shown log given again new_open more frozen old thawed sees act by =
          let to_er : IsSame old.logical er = same_more old.logical mid.logical er (sees.of).count (sees.of).same same in
          let both = both_again Tells files PieceTells faults fuses tag old new er (settings ∙ (sees.of).settings) to_er is_open
          (counts_more faults fuses (old.logical).replicas (mid.logical).replicas er.replicas (counts_seen old mid sees) held) again new_open more in
          let m : ℕ = machine_of er.settings er.number 0 in
          delete_given_up Tells files PieceTells faults fuses tag old new pair both.0 both.1 (shows_more tag old mid new None sees.shows (shows_nothing tag mid new shown log))
          (λ opened is. serves_frozen tag old new opened m frozen) (begun ∙ sees.begun) (ended ∙ sees.ended) thawed m
          (ap (λ (s : Settings). machine_of s er.number 0) to_er.settings ∙ ap (λ (v : ℕ). machine_of (old.logical).settings v 0) to_er.number) frozen
          (λ tells k s. let e = stands tells k (sees.keeps tells k s).0 in
          (e.stood, given tells k change (op.Del pair) (ended_known k) e.unshown refl))
          act by
        where
          ended_known : VolumeKnown → List ReplicaKnown
          ended_known k = ended_where (logical.ended_runs (mid.logical).replicas er.replicas) k.replicas

      -- it was published and shown
      pub erase_shown : (p : ℕ) (over : List Bool) (item : LogEntry (Published P)) → item.tag ≡ record { seat = tag.lane; lane = tag.lane; line = tag.line }
          → new.front ≡ record { shown = with_deed (mid.front).shown deed; log = logged (is_entry deed.change) (mid.front).log item; closed = false }
          → erased.pair ≡ pair → er ≡ record mid.logical { replicas = er.replicas }
          → ChangesRows (op.Del erased.pair) er.rows (new.logical).rows → new.logical ≡ record er { rows = (new.logical).rows; front = erased.position }
          → (Tells → (k : VolumeKnown) (tag : CoreTag) (pair : Pair) (before : Volume D P) → IsErased files faults PieceTells k pair erased before er
          → logical.IsDeleted files faults PieceTells k tag pair p before new.logical)
          → over ≡ over_since (map goal_of (mid.logical).replicas) (new.logical).replicas
          → ((j lane : ℕ) → j < (mid.settings).replicas → lane < 8 → ended_at new.ended j lane ≡ noted over mid.begun (counts faults (new.logical).replicas) mid.ended j lane)
          → DeletesBy mid new pair (Ok p) (Some (made_is.Enters change over))
      erase_shown p over item own_tag front own still rows hidden deleted over_of slots old thawed sees act by =
          let to_er : IsSame old.logical er = same_more old.logical mid.logical er (sees.of).count (sees.of).same same in
          let both = both_rows Tells files PieceTells faults fuses tag old new er (settings ∙ (sees.of).settings) to_er is_open
          (counts_more faults fuses (old.logical).replicas (mid.logical).replicas er.replicas (counts_seen old mid sees) held) erased.position hidden in
          let shown : (new.front).shown ≡ with_deed (mid.front).shown deed = ap (λ f. f.shown) front in
          let done = delete_shown Tells files PieceTells faults fuses tag old new pair p over both.0 both.1
          (shows_more tag old mid new (Some change) sees.shows (shows_deed tag mid new deed (Some change) entered_is shown logged_more))
          (λ opened is. serves_more tag old mid new opened (sees.serves opened is) (serves_deed tag mid new deed opened (ap (λ f. f.closed) front) shown (λ thawed. thawed_mid)
          (subst (λ (d : Published P). FitsRows ((opened.volume).settings).replicas d.change) (sym deed_is) tt) changed))
          (begun ∙ sees.begun) thawed slots_old (λ tells k s. rose tells k (sees.keeps tells k s).0)
          (λ tells k s j is. ran_before files PieceTells faults mid.logical (new.logical).replicas k (sees.keeps tells k s).0 j
          (subst (λ (l : List Bool). slice_index_or l j false ≡ true) over_runs is))
          (λ tells k s. gone tells k (sees.keeps tells k s).0) in
          subst (λ (z : Option VolumeAct). Deletes Tells files PieceTells faults fuses tag old new pair (Ok p) z) (sym (by.acts (made_is.Enters change over) refl))
          (record { leaves = done.0; told = done.1; always = λ m f e. absurd (cc e) })
        where
          over_runs : over ≡ logical.ended_runs (mid.logical).replicas (new.logical).replicas
          over_runs = over_of ∙ over_is (mid.logical).replicas (new.logical).replicas

          logged_more : map (λ e. e.tag) (new.front).log ≡ map (λ e. e.tag) (mid.front).log ++ record { seat = tag.lane; lane = tag.lane; line = tag.line } ∷ []
          logged_more = ap (λ f. map (λ e. e.tag) f.log) front ∙ tags_logged (mid.front).log item (is_entry deed.change) (ap is_entry change_is)
              ∙ ap (λ (t : Tag). map (λ e. e.tag) (mid.front).log ++ t ∷ []) own_tag

          changed : (q : Pair) → row_at (new.logical).rows q ≡ changed_row deed.change q (row_at (mid.logical).rows q)
          changed q =
              rows.rows q ∙ ap (λ (o : Pair). changed_row (op.Del o) q (row_at er.rows q)) own ∙ ap (λ (v : Volume D P). changed_row (op.Del pair) q (row_at v.rows q)) still
              ∙ ap (λ (c : MapOp P). changed_row c q (row_at (mid.logical).rows q)) (sym change_is)

          is_deleted : (tells : Tells) (k : VolumeKnown) → Stands files PieceTells mid.logical k → logical.IsDeleted files faults PieceTells k tag pair p mid.logical new.logical
          is_deleted tells k s = deleted tells k tag pair mid.logical (stands tells k s)

          gone : Tells → (k : VolumeKnown) → Stands files PieceTells mid.logical k
              → (logical.is_held k pair ≡ true) × (p ≡ length k.log + 1) × Stands files PieceTells new.logical (with_del over tag pair k)
          gone tells k s = let d = is_deleted tells k s in
              (d.stood, d.position, subst (λ (l : List Bool). Stands files PieceTells new.logical (with_del l tag pair k)) (d.runs ∙ sym over_runs) d.stands)

          replicas_same : (new.logical).replicas ≡ er.replicas
          replicas_same = ap (λ (v : Volume D P). v.replicas) hidden

          rose : Tells → (k : VolumeKnown) → Stands files PieceTells mid.logical k → (j : ℕ) → slice_get over j ≡ Some true
              → Rose (count_at faults (old.logical).replicas j) (count_at faults (new.logical).replicas j)
          rose tells k s j is = let d = is_deleted tells k s in
              rose_erased faults fuses (old.logical).replicas (mid.logical).replicas (new.logical).replicas (counts_seen old mid sees) (ap length replicas_same ∙ held.count)
              (ap length (sym d.runs) ∙ d.count ∙ sym ((sees.of).is_open).all)
              (λ i r r' e a b. d.cause i r r' (ap (λ (l : List Bool). slice_get l i) d.runs ∙ e) a b) j (ap (λ (l : List Bool). slice_get l j) (sym over_runs) ∙ is)

          slots_old : (j lane : ℕ) → j < (old.settings).replicas → lane < 8
              → ended_at new.ended j lane ≡ noted over old.begun (counts faults (new.logical).replicas) old.ended j lane
          slots_old j lane less few =
              slots j lane (subst (λ (z : Settings). j < z.replicas) (sym (sees.of).settings) less) few
              ∙ ap (λ (l : List CoreTag). noted over l (counts faults (new.logical).replicas) mid.ended j lane) sees.begun
              ∙ ap (λ (l : List (List (Option ℕ))). noted over old.begun (counts faults (new.logical).replicas) l j lane) sees.ended
