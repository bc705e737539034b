-- What a holding leaves that swapped the files of a compaction and published where the photos stand.
use Rattle.std.proofs.Common.{◌≡◌, ℕ, ◌<◌, Bool, false, List, [], ◌∷◌, ◌++◌, append-nil, length, Option, Some, None, refl, sym, ap, subst, ◌∙◌, arith}
use Rattle.std.specs.Prelude.{fold, map, slice_index_or, true}
use Rattle.hay_core.specs.declared.entry.CoreTag.{CoreTag}
use Rattle.hay_core.specs.declared.entry.Entry.{Entry}
use Rattle.hay_core.specs.Entries.{apply_entry}
use Rattle.hay_disk.specs.Disk.{Files}
use Rattle.hay_front.specs.Entries.{LogEntry}
use Rattle.hay_front.specs.Fronts.{Holds, MayPublish, logged, with_deed}
use Rattle.hay_legal.specs.declared.known.VolumeKnown.{VolumeKnown}
use Rattle.hay_legal.specs.Known.{at_front, machine_of, now, replica_at}
use Rattle.hay_legal.specs.Plain.{first_machine, frozen_by, swapped}
use Rattle.hay_legal.proofs.Subject.Effects.{replica_same}
use Rattle.hay_logical.specs.Answers.{change_at}
use Rattle.hay_logical.specs.Fits.{At, PlaceStands}
use Rattle.hay_logical.specs.Stands.{Stands}
use Rattle.hay_logical.specs.Volumes.{IsOpenVolume, IsSame, KeepsCounts, Volume}
use Rattle.hay_logical.proofs.Lists.{at_there}
use Rattle.hay_logical.proofs.Methods.{shown}
use Rattle.hay_map.specs.Places.{place_in}
use Rattle.hay_map.specs.Rows.{ChangesRows, FitsRows, changed_row, row_at}
use Rattle.hay_map.specs.declared.view.MapOp.{MapOp}
use Rattle.hay_map.specs.declared.view.MapOp.TheVariants as op
use Rattle.hay_map.specs.declared.view.OpenCell.{OpenCell}
use Rattle.hay_map.specs.declared.place.Place.{Place}
use Rattle.hay_map.specs.declared.place.Place.TheVariants as place
use Rattle.hay_meeting.specs.declared.act.VolumeAct.{VolumeAct}
use Rattle.hay_meeting.specs.Acts.{nobody, volume_lock}
use Rattle.hay_meeting.specs.Locks.{entries}
use Rattle.hay_meeting.proofs.Standings.{table_behind}
use Rattle.hay_needle.specs.declared.needle.Outcome.{Outcome}
use Rattle.hay_needle.specs.declared.needle.Pair.{Pair}
use Rattle.hay_needle.specs.declared.settings.Settings.{Settings}
use Rattle.hay_needle.specs.Tables.{Table, outcome_at}
use Rattle.hay_physical.specs.OpenCopies.{Copy}
use Rattle.hay_views.specs.declared.places.Published.{Published}
use Rattle.hay_views.specs.MapPasts.{Enters, begun_at, entered_by, is_entry, row_of, with_published}
use Rattle.hay_volume_lock.specs.Acts.{act_of}
use Rattle.hay_volume_lock.specs.Ended.{ended_at}
use Rattle.hay_volume_lock.specs.Keeping.{IsKept, published_row, standing_of, stood_of}
use Rattle.hay_volume_lock.specs.Rows.{PlaceTells, RowsTell}
use Rattle.hay_volume_lock.specs.declared.act.Made.TheVariants as made_is
use Rattle.hay_volume_lock.specs.declared.guarded.Guarded.{Guarded}
use Rattle.hay_volume_lock.specs.declared.guarded.Opened.{Opened}
use Rattle.hay_volume_lock.proofs.Published.{Fact, entered_more, may_publish, row_more}
use Rattle.hay_volume_lock.proofs.Publishing.{Changes, IsOfBoth, changes_acted, fuses_stay, serves_deed, serves_frozen, shows_deed, shows_nothing}
use Rattle.hay_volume_lock.proofs.Growing.{EndsRuns, FusesStay}
use Rattle.hay_volume_lock.proofs.Putting.{both_again}
use Rattle.hay_volume_lock.proofs.Swapping.{IsSwap, froze_leads, swap_leads}

-- what a place stands for it tells
place_tells : {D P : Type 0} (files : D → Files) (PieceTells : Type 0) (r : Copy D) (pair : Pair) (p : Place P) (what : Outcome) → PlaceStands files PieceTells r pair p what
    → PlaceTells PieceTells pair p what
place_tells files PieceTells r pair (place.Live needle) what stands = stands
place_tells files PieceTells r pair place.None what stands = stands
place_tells files PieceTells r pair place.Gone what stands = stands
place_tells files PieceTells r pair (place.Unseen at size) what stands = tt

-- a swap leaves each table
now_swapped : (k : VolumeKnown) (j end cells i : ℕ) → now (change_at k j (swapped end cells)) (replica_at (change_at k j (swapped end cells)) i) ≡ now k (replica_at k i)
now_swapped k j end cells i = ap (λ (base : Table). at_front k (record (replica_at k i) { base = base }) (length k.log)) ((replica_same k j (swapped end cells) (λ r. refl)).bases i)

module _ {D P : Type 0} (Tells : Type 0) (files : D → Files) (PieceTells : Type 0) (faults fuses : D → ℕ) (tag : CoreTag) (old : Guarded D P) (j g end count : ℕ)
    (within : j < ((old.logical).settings).replicas)
    (thawed : (old.logical).frozen ≡ None) (mid : Volume D P) (cells : List (OpenCell P)) (deed : Published P) (deed_is : deed ≡ record { change = op.Swap j cells; entered = [] })
    (rows : ChangesRows (op.Swap j cells) (old.logical).rows mid.rows)
    (swap : Tells → (k : VolumeKnown) → Stands files PieceTells old.logical k → IsSwap files PieceTells k j g end count mid)
    (same : IsSame old.logical mid) (is_open : IsOpenVolume mid) (counts : KeepsCounts faults fuses (old.logical).replicas mid.replicas) where
  abbrev Kept : Opened D P → List VolumeAct → Type 0
  Kept opened held = IsKept Tells files PieceTells faults fuses opened held old

  abbrev owner : ℕ → CoreTag
  owner i = slice_index_or old.begun i nobody

  change_is : deed.change ≡ op.Swap j cells
  change_is = ap (λ (d : Published P). d.change) deed_is

  entered_is : deed.entered ≡ []
  entered_is = ap (λ (d : Published P). d.entered) deed_is

  shown_place : (behind : VolumeKnown) → Stands files PieceTells mid behind → (pair : Pair) (i : ℕ) (r : Copy D) → At mid.replicas i r
      → PlaceStands files PieceTells r pair (place_in (row_at mid.rows pair) i) (outcome_at (now behind (replica_at behind i)) pair)
  unfolding Stands
  shown_place behind stands pair i r there = shown mid.settings mid.number Tells files PieceTells faults fuses mid.replicas mid.rows mid.front mid.frozen mid.unsure behind stands pair i r there

  -- the places may be published
  pub swap_may : (opened : Opened D P) (held : List VolumeAct) → Kept opened held → Holds (Fact Tells files PieceTells) (old.front).shown
      → MayPublish (Fact Tells files PieceTells) (old.front).shown deed
  swap_may opened held h fact =
      may_publish Tells files PieceTells opened.volume (h.from).rows (old.front).shown base fact deed
      (record { rows = fit; enters = subst (λ (d : Published P). Enters d.change d.entered) (sym deed_is) refl }) tells_more
    where
      base : ((old.front).shown).base ≡ Some (begun_at opened.volume (h.from).rows, opened.volume)
      base = h.base ∙ (h.from).base

      in_rows : j < ((h.from).rows).replicas
      in_rows = subst (λ (n : ℕ). j < n) (ap (λ (s : Settings). s.replicas) h.same_settings ∙ sym (h.from).width) within

      fit : FitsRows ((h.from).rows).replicas deed.change
      fit = subst (λ (change : MapOp P). FitsRows ((h.from).rows).replicas change) (sym change_is) in_rows

      deeds : List (Published P)
      deeds = ((old.front).shown).deeds

      -- the row behind it is the volume's
      row_then : (pair : Pair) → row_of (fold with_published (begun_at opened.volume (h.from).rows) (((old.front).shown).deeds ++ deed ∷ [])) pair ≡ row_at mid.rows pair
      row_then pair =
          row_more (begun_at opened.volume (h.from).rows) ((old.front).shown).deeds deed pair fit
          ∙ ap (λ (change : MapOp P). changed_row change pair (published_row opened.volume (h.from).rows ((old.front).shown).deeds pair)) change_is
          ∙ ap (λ (row : List (Place P)). changed_row (op.Swap j cells) pair row) (h.rows thawed pair)
          ∙ sym (rows.rows pair)

      entered_then : entered_by (((old.front).shown).deeds ++ deed ∷ []) ≡ entries volume_lock held
      entered_then =
          entered_more ((old.front).shown).deeds deed ∙ ap (λ (l : List Entry). entered_by ((old.front).shown).deeds ++ l) entered_is ∙ append-nil (entered_by ((old.front).shown).deeds) ∙ h.entered

      tells_more : RowsTell Tells files PieceTells (begun_at opened.volume (h.from).rows) (((old.front).shown).deeds ++ deed ∷ [])
      tells_more tells k s pair i less =
          let before : VolumeKnown = (stood_of faults fuses opened k held).volume in
          let w = swap tells before (h.stands tells k s) in
          let behind : VolumeKnown = change_at before j (swapped end count) in
          let all = is_open.all in
          let r =
          at_there mid.replicas i (let few : i < (mid.settings).replicas = subst (λ (z : Settings). i < z.replicas) (sym (same.settings ∙ h.same_settings)) less in
          (let h : i < length mid.replicas = omega (arith, all, few) in h)) in
          let table : now behind (replica_at behind i) ≡ fold apply_entry (now k (replica_at k i)) (entered_by (((old.front).shown).deeds ++ deed ∷ [])) =
          now_swapped before j end count i
          ∙ table_behind (opened.volume).settings (opened.volume).number (standing_of faults fuses opened k) held i (h.follows tells k s)
          ∙ ap (fold apply_entry (now k (replica_at k i))) (sym entered_then) in
          subst (λ (row : List (Place P)). PlaceTells PieceTells pair (place_in row i) (outcome_at
          (fold apply_entry (now k (replica_at k i)) (entered_by (((old.front).shown).deeds ++ deed ∷ []))) pair)) (sym (row_then pair))
          (subst (λ (t : Table). PlaceTells PieceTells pair (place_in (row_at mid.rows pair) i) (outcome_at t pair)) table
          (place_tells files PieceTells r.0 pair (place_in (row_at mid.rows pair) i) (outcome_at (now behind (replica_at behind i)) pair)
          (shown_place behind w.stands pair i r.0 r.1)))

  module _ (new : Guarded D P) (settings : new.settings ≡ old.settings) (begun : new.begun ≡ old.begun) (ended : new.ended ≡ old.ended) (own : (owner j).lane ≡ tag.lane) where
    abbrev Leaves : Option VolumeAct → Type 0
    Leaves made = Changes Tells files PieceTells faults fuses tag old new made

    with_begun : (i : ℕ) → i < (old.settings).replicas → slice_index_or new.begun i nobody ≡ slice_index_or old.begun i nobody
    with_begun i less = ap (λ (l : List CoreTag). slice_index_or l i nobody) begun

    ends : (frozen : Option ℕ) → EndsRuns Tells files PieceTells old new (act_of faults fuses tag (made_is.Swaps j end count frozen) (new.logical).replicas)
    ends frozen = record {
      ended = λ i lane less few. ap (λ l. ended_at l i lane) ended;
      owned = λ i less is. subst (λ (n : ℕ). tag.lane ≡ (owner n).lane) is (sym own);
      cuts = λ tells before s i wrong. absurd (let not : false ≡ true = wrong in cc not);
    }

    -- they were published
    pub swap_shown : (mid.frozen ≡ (old.logical).frozen → (i : ℕ) → (i ≡ j → ⊥) → (r r' : Copy D) → At (old.logical).replicas i r → At mid.replicas i r' → r' ≡ r)
        → (item : LogEntry (Published P)) → new.front ≡ record { shown = with_deed (old.front).shown deed; log = logged (is_entry deed.change) (old.front).log item; closed = false }
        → new.logical ≡ mid → (act : VolumeAct) → act ≡ act_of faults fuses tag (made_is.Swaps j end count None) (new.logical).replicas → Leaves (Some act)
    swap_shown others item front is_mid act is =
        let shown_is : (new.front).shown ≡ with_deed (old.front).shown deed = ap (λ f. f.shown) front in
        changes_acted Tells files PieceTells faults fuses tag old new (made_is.Swaps j end count None) both (λ still. thawed)
        (shows_deed tag old new deed None entered_is shown_is
        (ap (λ f. map (λ e. e.tag) f.log) front ∙ ap (λ (b : Bool). map (λ e. e.tag) (logged b (old.front).log item)) (ap is_entry change_is) ∙ sym (append-nil (map (λ e. e.tag) (old.front).log))))
        (λ opened same_as. serves_deed tag old new deed opened (ap (λ f. f.closed) front) shown_is (λ still. thawed)
        (subst (λ (change : MapOp P). FitsRows ((opened.volume).settings).replicas change) (sym change_is) (subst (λ (z : Settings). j < z.replicas) same_as within))
        (λ pair. ap (λ (v : Volume D P). row_at v.rows pair) is_mid ∙ rows.rows pair ∙ ap (λ (change : MapOp P). changed_row change pair (row_at (old.logical).rows pair)) (sym change_is)))
        (fuses_stay Tells files PieceTells faults fuses tag old new both.count stay)
        (λ tells before s. swap_leads Tells files PieceTells faults fuses tag old j g end count within new before s both.count
        (λ still i other r r' e f. others (sym (ap (λ (v : Volume D P). v.frozen) is_mid) ∙ still ∙ sym thawed) i other r r' e (subst (λ (v : Volume D P). At v.replicas i r') is_mid f))
        (subst (λ (v : Volume D P). IsSwap files PieceTells before.volume j g end count v) (sym is_mid) (swap tells before.volume s)))
        with_begun (ends None) act is
      where
        both : IsOfBoth faults old new
        both = subst (λ (v : Volume D P). IsOfBoth faults old (record new { logical = v })) (sym is_mid)
            (record { settings = settings; same = same; is_open = is_open; count = counts.count; rises = counts.rises })

        stay : FusesStay fuses old new
        stay = subst (λ (v : Volume D P). FusesStay fuses old (record new { logical = v })) (sym is_mid) counts.stay

    -- they were not, and the volume was frozen
    module _ (again : IsSame mid new.logical) (new_open : IsOpenVolume new.logical) (more : KeepsCounts faults fuses mid.replicas (new.logical).replicas)
        (frozen : (new.logical).frozen ≡ Some (first_machine mid.settings mid.number))
        (froze : Tells → (k : VolumeKnown) → Stands files PieceTells mid k → k.frozen ≡ None → Stands files PieceTells new.logical (frozen_by (first_machine mid.settings mid.number) k)) where
      first_same : first_machine mid.settings mid.number ≡ first_machine (old.logical).settings (old.logical).number
      first_same = ap (λ (s : Settings). machine_of s mid.number 0) same.settings ∙ ap (λ (v : ℕ). machine_of (old.logical).settings v 0) same.number

      pub swap_unshown : (new.front).shown ≡ (old.front).shown → (new.front).log ≡ (old.front).log
          → (act : VolumeAct) → act ≡ act_of faults fuses tag (made_is.Swaps j end count (Some (first_machine (old.logical).settings (old.logical).number))) (new.logical).replicas → Leaves (Some act)
      swap_unshown shown log act is =
          let m : ℕ = first_machine (old.logical).settings (old.logical).number in
          let both = both_again Tells files PieceTells faults fuses tag old new mid settings same is_open counts again new_open more in
          changes_acted Tells files PieceTells faults fuses tag old new (made_is.Swaps j end count (Some m)) both.0 (λ still. thawed)
          (shows_nothing tag old new shown log)
          (λ opened same_as. serves_frozen tag old new opened m (frozen ∙ ap Some first_same))
          (fuses_stay Tells files PieceTells faults fuses tag old new (both.0).count both.1)
          (λ tells before s. let w = swap tells before.volume s in froze_leads Tells files PieceTells faults fuses tag old j g end count within mid new before w
          (subst (λ (n : ℕ). Stands files PieceTells new.logical (frozen_by n (change_at before.volume j (swapped end count)))) first_same
          (froze tells (change_at before.volume j (swapped end count)) w.stands w.thawed)))
          with_begun (ends (Some m)) act is
