-- What a delete leaves and tells.
use Rattle.std.proofs.Common.{◌≡◌, inl, inr, ℕ, zero, suc, ◌+◌, ◌<◌, ◌≤◌, Bool, true, false, List, [], ◌∷◌, ◌++◌, append_assoc, length, Option, Some, None, refl, sym, ap, subst}
use Rattle.std.proofs.Common.{◌∙◌, append-nil, length-append, arith}
use Rattle.std.specs.Prelude.{◌||◌, ◌==◌, if◌then◌else◌, map, Result, Ok, Err, option_map, slice_get, slice_index_or, take}
use Rattle.std.specs.List.{list_any, range_with_len}
use Rattle.std.proofs.lemmas.Bool.{cases_lt, cond-false, cond-true, eq-eqb, eqb-true}
use Rattle.hay_core.specs.declared.entry.CoreTag.{CoreTag}
use Rattle.hay_core.specs.declared.entry.Entry.{Entry}
use Rattle.hay_core.specs.declared.entry.Entry.TheVariants as entry
use Rattle.hay_disk.specs.Counts.{Rose}
use Rattle.hay_disk.specs.Disk.{Files}
use Rattle.hay_legal.specs.declared.known.VolumeKnown.{VolumeKnown}
use Rattle.hay_legal.specs.Known.{empty_replica, machine_of, now, replica_at, replicas_of, stands}
use Rattle.hay_legal.specs.Plain.{frozen_with, has_pair}
use Rattle.hay_history.specs.LaneSteps.{Standing}
use Rattle.hay_holdings.specs.Volumes.{stood_there}
use Rattle.hay_logical.specs.Answers as logical
use Rattle.hay_logical.specs.Stands.{IsTightAt, Stands}
use Rattle.hay_needle.specs.declared.needle.Pair.{Pair}
use Rattle.hay_needle.specs.declared.settings.Settings.{Settings}
use Rattle.hay_needle.specs.Tables.{outcome_at}
use Rattle.hay_history.specs.LaneSteps.Did.{Freezes, Pends}
use Rattle.hay_front.specs.declared.front.Tag.{Tag}
use Rattle.hay_front.specs.Fronts.{Holds, MayPublish, Witness, with_deed}
use Rattle.hay_legal.specs.declared.known.Run.{Run}
use Rattle.hay_legal.specs.Plain.{frozen_by, with_del}
use Rattle.hay_holdings.specs.Volumes.{FailedOn}
use Rattle.hay_logical.specs.declared.fault.LogicalFault.{LogicalFault}
use Rattle.hay_logical.specs.declared.fault.LogicalFault.TheVariants.{Busy, Damaged, Failed, Full, Gone, Idle, NoMemory, ReadOnly, Worn}
use Rattle.hay_logical.specs.Fits.{At}
use Rattle.hay_logical.specs.Volumes.{IsSame, KeepsCounts, Volume}
use Rattle.hay_logical.proofs.Lists.{at_below, at_there}
use Rattle.hay_logical.proofs.Stepping.{standing_known}
use Rattle.hay_map.specs.Rows.{row_at}
use Rattle.hay_meeting.specs.declared.act.VolumeAct.{VolumeAct}
use Rattle.hay_meeting.specs.Acts.{left_by, nobody}
use Rattle.hay_meeting.specs.Locks.{add_shown}
use Rattle.hay_meeting.specs.Facts.{volume_stood}
use Rattle.hay_physical.specs.OpenCopies.{Copy, goal_of}
use Rattle.hay_views.specs.declared.places.Published.{Published}
use Rattle.hay_views.specs.MapPasts.{MapPast, entered_by}
use Rattle.hay_volume_lock.specs.Acts.{act_of, counts}
use Rattle.hay_volume_lock.specs.Answers.{Found, FoundAlways, IsAt, StoreVolume}
use Rattle.hay_volume_lock.specs.Changes.{DiskFailed, freezes_by, pends_by}
use Rattle.hay_volume_lock.specs.Deletes.{DeleteAnswer, delete_made, failed_made, noted, over_since}
use Rattle.hay_volume_lock.specs.Ended.{ended_at}
use Rattle.hay_volume_lock.specs.Keeping.{IsKept, add_tag, count_at, ended_in, published_row, stood_of}
use Rattle.hay_volume_lock.specs.Tries.{IsTried, tried_made}
use Rattle.hay_volume_lock.specs.declared.act.Made.{Made}
use Rattle.hay_volume_lock.specs.declared.act.Made.TheVariants as made_is
use Rattle.hay_volume_lock.specs.declared.guarded.Guarded.{Guarded}
use Rattle.hay_volume_lock.specs.declared.guarded.Opened.{Opened}
use Rattle.hay_volume_lock.proofs.Published.{Fact}
use Rattle.hay_volume_lock.proofs.Counting.{count_behind, count_there}
use Rattle.hay_volume_lock.proofs.Growing.{FusesStay, Keeps, ends_none, tight_entered, tight_frozen, tries_leads}
use Rattle.hay_volume_lock.proofs.Holding.{stood_is}
use Rattle.hay_volume_lock.proofs.Publishing.{Changes, IsOfBoth, Serves, Shows, changes_acted, changes_seen, fuses_stay, kept_acted}
use Rattle.hay_volume_lock.proofs.Putting.{IsMadeBy, err_same, failed_on, frozen_known, nothing_made}
use Rattle.hay_volume_lock.proofs.Seeing.{froze}

-- a delete that made this act, or none, leaves and tells so
pub record Deletes {D P : Type 0} (Tells : Type 0) (files : D → Files) (PieceTells : Type 0) (faults fuses : D → ℕ) (tag : CoreTag) (old new : Guarded D P)
    (pair : Pair) (answer : Result ℕ LogicalFault) (act : Option VolumeAct) : Type 0 where
  pub leaves : Changes Tells files PieceTells faults fuses tag old new act
  pub told : Found Tells files PieceTells faults fuses tag old act (λ volume. DeleteAnswer volume tag pair answer)
  pub always : (m f : ℕ) → answer ≡ Err (Failed m f) → FoundAlways Tells files PieceTells faults fuses tag old act (λ volume. DiskFailed volume tag m f)

-- WHETHER A PHOTO STOOD

or_here : {X : Type 0} (d : X) (pre : List X) (x : X) (xs : List X) → slice_index_or (pre ++ x ∷ xs) (length pre) d ≡ x
or_here d [] x xs = refl
or_here d (y ∷ pre) x xs = or_here d pre x xs

any_from : {X : Type 0} (f : X → Bool) (d : X) (pre xs : List X) → list_any (λ j. f (slice_index_or (pre ++ xs) j d)) (range_with_len (length pre) (length xs)) ≡ list_any f xs
any_from f d pre [] = refl
any_from {X} f d pre (x ∷ xs) =
    let rest = any_from f d (pre ++ x ∷ []) xs in
    let same : (pre ++ x ∷ []) ++ xs ≡ pre ++ x ∷ xs = append_assoc pre (x ∷ []) xs in
    let long : length (pre ++ x ∷ []) ≡ length pre + 1 = length-append pre (x ∷ []) in
    let more : list_any (λ j. f (slice_index_or (pre ++ x ∷ xs) j d)) (range_with_len (length pre + 1) (length xs)) ≡ list_any f xs =
    subst (λ (l : List X). list_any (λ j. f (slice_index_or l j d)) (range_with_len (length pre + 1) (length xs)) ≡ list_any f xs) same
    (subst (λ (n : ℕ). list_any (λ j. f (slice_index_or ((pre ++ x ∷ []) ++ xs) j d)) (range_with_len n (length xs)) ≡ list_any f xs) long rest) in
    ap (λ z. f z || list_any (λ j. f (slice_index_or (pre ++ x ∷ xs) j d)) (range_with_len (length pre + 1) (length xs))) (or_here d pre x xs) ∙ ap (λ b. f x || b) more

pub held_there : (k : VolumeKnown) (n : ℕ) (pair : Pair) → length k.replicas ≡ n → logical.is_held k pair ≡ list_any (λ j. stands (outcome_at (now k (replica_at k j)) pair)) (range_with_len 0 n)
held_there k n pair many = sym (any_from (has_pair k pair) empty_replica [] k.replicas) ∙ ap (λ (m : ℕ). list_any (λ j. stands (outcome_at (now k (replica_at k j)) pair)) (range_with_len 0 m)) many

-- WHAT IS KEPT behind several calls

pub same_more : {D P : Type 0} (a b c : Volume D P) → length b.replicas ≡ length a.replicas → IsSame a b → IsSame b c → IsSame a c
same_more a b c count one two = record {
  settings = two.settings ∙ one.settings;
  number = two.number ∙ one.number;
  sups = λ j r r' e f. let m = at_there b.replicas j (let less = at_below a.replicas j r e in omega (arith, less, count)) in two.sups j m.0 r' m.1 f ∙ one.sups j r m.0 e m.1;
}

pub counts_more : {D : Type 0} (faults fuses : D → ℕ) (a b c : List (Copy D)) → KeepsCounts faults fuses a b → KeepsCounts faults fuses b c → KeepsCounts faults fuses a c
counts_more faults fuses a b c one two = record {
  count = two.count ∙ one.count;
  rises =
      λ j r r' e f. let m = at_there b j (let less = at_below a j r e in let count = one.count in omega (arith, less, count)) in
      (let x = one.rises j r m.0 e m.1 in let y = two.rises j m.0 r' m.1 f in omega (arith, x, y));
  stay = λ j r r' e f. let m = at_there b j (let less = at_below a j r e in let count = one.count in omega (arith, less, count)) in two.stay j m.0 r' m.1 f ∙ one.stay j r m.0 e m.1;
}

rose_since : (a b c : ℕ) → a ≤ b → Rose b c → Rose a c
rose_since a b c less (inl more) = inl (omega (arith, less, more))
rose_since a b c less (inr most) = inr most

-- a disk that failed has failed since
pub failed_since : {D P : Type 0} (faults fuses : D → ℕ) (old mid : Volume D P) (new : List (Copy D)) (m f : ℕ) → IsSame old mid → KeepsCounts faults fuses old.replicas mid.replicas
    → logical.HasFailed faults mid.settings mid.number mid.replicas new m f → logical.HasFailed faults old.settings old.number old.replicas new m f
failed_since faults fuses old mid new m f same counts failed =
    let was = at_there old.replicas failed.replica (let less = at_below mid.replicas failed.replica failed.before failed.was in let count = counts.count in omega (arith, less, count)) in record {
      replica = failed.replica;
      within = subst (λ (s : Settings). failed.replica < s.replicas) same.settings failed.within;
      before = was.0;
      after = failed.after;
      was = was.1;
      is = failed.is;
      machine = failed.machine ∙ ap (λ (s : Settings). machine_of s mid.number failed.replica) same.settings ∙ ap (λ (v : ℕ). machine_of old.settings v failed.replica) same.number;
      rose = rose_since (faults ((was.0).disk)) (faults ((failed.before).disk)) (faults ((failed.after).disk)) (counts.rises failed.replica was.0 failed.before was.1 failed.was) failed.rose;
      printed = failed.printed;
    }

many_of : {D P : Type 0} (files : D → Files) (PieceTells : Type 0) (volume : Volume D P) (k : VolumeKnown) → Stands files PieceTells volume k → length k.replicas ≡ (volume.settings).replicas
unfolding Stands
many_of files PieceTells volume k s = s.many

module _ {D P : Type 0} (Tells : Type 0) (files : D → Files) (PieceTells : Type 0) (faults fuses : D → ℕ) (tag : CoreTag) (old new : Guarded D P) (pair : Pair) where
  abbrev change : Entry
  change = entry.Del pair

  abbrev Leaves : Option VolumeAct → Type 0
  Leaves made = Changes Tells files PieceTells faults fuses tag old new made

  -- on some replica a photo stood, or on none
  pub stood_by : (opened : Opened D P) (held : List VolumeAct) → IsKept Tells files PieceTells faults fuses opened held old → (k : VolumeKnown) (volume : StoreVolume)
      → IsAt faults fuses opened k volume
      → Stands files PieceTells old.logical (stood_of faults fuses opened k held).volume
      → logical.is_held (stood_of faults fuses opened k held).volume pair ≡ stood_there volume.settings volume.start volume.number pair held
  stood_by opened held h k volume at s =
      let k' : VolumeKnown = (stood_of faults fuses opened k held).volume in
      held_there k' (volume.settings).replicas pair (many_of files PieceTells old.logical k' s ∙ ap (λ (z : Settings). z.replicas) (h.same_settings ∙ sym at.settings))
      ∙ ap (λ (z : Standing). list_any (λ j. stands (outcome_at (now z.volume (replica_at z.volume j)) pair)) (replicas_of volume.settings)) (stood_is faults fuses opened k volume held at)

  pub known_thawed : (old.logical).frozen ≡ None → (k : VolumeKnown) → Stands files PieceTells old.logical k → k.frozen ≡ None
  known_thawed thawed k s = frozen_known files PieceTells old.logical k s ∙ thawed

  pub found_thawed : (old.logical).frozen ≡ None → (opened : Opened D P) (held : List VolumeAct) → IsKept Tells files PieceTells faults fuses opened held old
      → (k : VolumeKnown) (volume : StoreVolume) → IsAt faults fuses opened k volume
      → Stands files PieceTells old.logical (stood_of faults fuses opened k held).volume → (volume_stood volume.start volume.number held).frozen ≡ None
  found_thawed thawed opened held h k volume at s =
      sym (ap (λ (z : Standing). (z.volume).frozen) (stood_is faults fuses opened k volume held at)) ∙ known_thawed thawed (stood_of faults fuses opened k held).volume s

  abbrev pub act_by : Made → VolumeAct
  act_by made = act_of faults fuses tag made (new.logical).replicas

  abbrev Refused : LogicalFault → Option VolumeAct → Type 0
  Refused fault made = Deletes Tells files PieceTells faults fuses tag old new pair (Err fault) made

  module _ (of : IsOfBoth faults old new) (stay : FusesStay fuses old new) (shows : Shows tag None old new)
      (serves : (opened : Opened D P) → (old.logical).settings ≡ (opened.volume).settings → Serves opened old new)
      (begun : new.begun ≡ old.begun) (ended : new.ended ≡ old.ended) (thawed : (old.logical).frozen ≡ None) where
    -- it changed nothing, but that a call of a disk failed
    tries : Keeps Tells files PieceTells old new → Leaves (Some (act_by made_is.Tries))
    tries keeps =
        changes_acted Tells files PieceTells faults fuses tag old new made_is.Tries of (λ still. thawed) shows serves (fuses_stay Tells files PieceTells faults fuses tag old new of.count stay)
        (tries_leads Tells files PieceTells faults fuses tag old new keeps) (λ j less. ap (λ (l : List CoreTag). slice_index_or l j nobody) begun)
        (ends_none Tells files PieceTells old new (act_by made_is.Tries) (λ j. refl) (λ j own. own) ended) (act_by made_is.Tries) refl

    tried : Keeps Tells files PieceTells old new → (made : Option VolumeAct)
        → IsTried faults fuses tag (counts faults (old.logical).replicas) (new.logical).replicas made → Leaves made
    tried keeps made is = changes_seen Tells files PieceTells faults fuses tag old new of (λ still. thawed) shows serves stay keeps begun ended made is

    -- the delete is pending
    pends : (m : ℕ) (failed : Bool) → (Tells → (k : VolumeKnown) → Stands files PieceTells old.logical k → Stands files PieceTells new.logical (frozen_with m tag change failed k))
        → Leaves (Some (act_by (made_is.Pends m change failed)))
    pends m failed still =
        changes_acted Tells files PieceTells faults fuses tag old new (made_is.Pends m change failed) of (λ still. thawed) shows serves
        (fuses_stay Tells files PieceTells faults fuses tag old new of.count stay)
        (λ tells before s. let pending_known = still tells before.volume s in record {
          leads = (known_thawed thawed before.volume s, refl);
          stands = pending_known;
          tight =
              tight_frozen files tag (made_is.Pends m change failed) old new before m (sym (frozen_known files PieceTells new.logical (frozen_with m tag change failed before.volume) pending_known));
        })
        (λ j less. ap (λ (l : List CoreTag). slice_index_or l j nobody) begun)
        (ends_none Tells files PieceTells old new (act_by (made_is.Pends m change failed)) (λ j. refl) (λ j own. own) ended) (act_by (made_is.Pends m change failed)) refl

    -- A LOOK OF IT FAILED

    pub sight_refused : (fault : LogicalFault) → Keeps Tells files PieceTells old new
        → (Tells → (k : VolumeKnown) → Stands files PieceTells old.logical k → (m at : ℕ) → fault ≡ Damaged m at → ⊥)
        → logical.IsSightFault faults (old.logical).settings (old.logical).number (old.logical).replicas (new.logical).replicas fault
        → (made : Option VolumeAct) → IsMadeBy Tells files PieceTells faults fuses tag old new (tried_made fault) made → Refused fault made
    sight_refused (Failed m f) still undamaged cause made by =
        let act : VolumeAct = act_by made_is.Tries in
        let leaves : Leaves (Some act) = tries still in
        subst (λ (z : Option VolumeAct). Refused (Failed m f) z) (sym (by.acts made_is.Tries refl)) (record {
          leaves = leaves;
          told = λ opened held h tells k s volume at a b holding. record {
            held = held;
            made = Some act;
            holding = holding;
            is = (
              found_thawed thawed opened held h k volume at (h.stands tells k s),
              failed_on Tells files PieceTells faults fuses tag old new opened held act h
                  (leaves.kept opened held h) m f cause k volume at,
              inl refl,
            );
          };
          always = λ n g e. failed_always m f act leaves cause n g (err_same e);
        })
      where
        failed_always : (m f : ℕ) (act : VolumeAct) → Leaves (Some act) → logical.HasFailed faults (old.logical).settings (old.logical).number (old.logical).replicas (new.logical).replicas m f
            → (n g : ℕ) → ◌≡◌ {A = LogicalFault} (Failed m f) (Failed n g) → FoundAlways Tells files PieceTells faults fuses tag old (Some act) (λ volume. DiskFailed volume tag n g)
        failed_always m f act leaves cause n g e opened held h k volume at a b holding =
            let mm : m ≡ n = cc e in let ff : f ≡ g = cc e in record {
              held = held;
              made = Some act;
              holding = holding;
              is = subst (λ (x : ℕ). FailedOn volume.settings volume.start volume.number x g held (Some act)) mm
                  (subst (λ (y : ℕ). FailedOn volume.settings volume.start volume.number m y held (Some act)) ff
                  (failed_on Tells files PieceTells faults fuses tag old new opened held act h (leaves.kept opened held h) m f cause k volume at));
            }
    sight_refused NoMemory still undamaged cause made by = record {
      leaves = tried still made (by.tries refl);
      told =
          λ opened held h tells k s volume at a b holding. record {
            held = held;
            made = made;
            holding = holding;
            is = inl (nothing_made Tells files PieceTells faults fuses tag old new made (by.tries refl));
          };
      always = λ m f e. absurd (cc e);
    }
    sight_refused (Damaged m at) still undamaged cause made by = record {
      leaves = tried still made (by.tries refl);
      told = λ opened held h tells k s volume there a b holding. absurd (undamaged tells (stood_of faults fuses opened k held).volume (h.stands tells k s) m at refl);
      always = λ m f e. absurd (cc e);
    }
    sight_refused (ReadOnly m) still undamaged cause made by = absurd cause
    sight_refused (Full m end need capacity) still undamaged cause made by = absurd cause
    sight_refused (Gone front) still undamaged cause made by = absurd cause
    sight_refused (Busy m g) still undamaged cause made by = absurd cause
    sight_refused (Worn m) still undamaged cause made by = absurd cause
    sight_refused Idle still undamaged cause made by = absurd cause

    -- IT WAS FROZEN for want of memory to publish what was seen

    pub sight_wanted : (m : ℕ) → m ≡ machine_of (old.logical).settings (old.logical).number 0 → (new.logical).frozen ≡ Some m
        → (Tells → (k : VolumeKnown) → Stands files PieceTells old.logical k → Stands files PieceTells new.logical (frozen_by m k))
        → (made : Option VolumeAct) → IsMadeBy Tells files PieceTells faults fuses tag old new (freezes_by None (new.logical).frozen) made → Refused NoMemory made
    sight_wanted m first frozen stands made by =
        let act : VolumeAct = act_by (made_is.Freezes m) in
        subst (λ (z : Option VolumeAct). Refused NoMemory z) (sym (by.acts (made_is.Freezes m) (ap (λ (f : Option ℕ). freezes_by None f) frozen))) (record {
          leaves = froze Tells files PieceTells faults fuses tag old new m of stay shows begun ended thawed frozen stands act refl;
          told = λ opened held h tells k s volume at a b holding. record {
            held = held;
            made = Some act;
            holding = holding;
            is = inr (inl (
              found_thawed thawed opened held h k volume at (h.stands tells k s),
              ap (λ (n : ℕ). Freezes n) (first ∙ ap (λ (z : Settings). machine_of z (old.logical).number 0) (h.same_settings ∙ sym at.settings)
                  ∙ ap (λ (v : ℕ). machine_of volume.settings v 0) (h.number ∙ sym at.number)),
            ));
          };
          always = λ m f e. absurd (cc e);
        })

    -- THE DELETE WAS REFUSED

    abbrev Tight : Type 0
    Tight = Tells → (k : VolumeKnown) → Stands files PieceTells old.logical k → (new.logical).frozen ≡ None → (j : ℕ) (run : Run) → (replica_at k j).run ≡ Some run
        → IsTightAt files old.logical j → IsTightAt files new.logical j

    failed_by : Tight → (m f : ℕ) → (frozen : Option ℕ) → (new.logical).frozen ≡ frozen
        → (Tells → (k : VolumeKnown) → Stands files PieceTells old.logical k → logical.DeleteRefused files PieceTells k tag pair new.logical (Failed m f))
        → logical.HasFailed faults (old.logical).settings (old.logical).number (old.logical).replicas (new.logical).replicas m f
        → (made : Option VolumeAct) → IsMadeBy Tells files PieceTells faults fuses tag old new (failed_made frozen change) made → Refused (Failed m f) made
    failed_by tight m f (Some n) is refused cause made by =
        let act : VolumeAct = act_by (made_is.Pends n change true) in
        let leaves : Leaves (Some act) = pends n true (λ tells k s. stands k (refused tells k s)) in
        subst (λ (z : Option VolumeAct). Refused (Failed m f) z) (sym (by.acts (made_is.Pends n change true) refl)) (record {
          leaves = leaves;
          told = λ opened held h tells k s volume at a b holding.
              let s_old = h.stands tells k s in
              let r = refused tells (stood_of faults fuses opened k held).volume s_old in record {
                held = held;
                made = Some act;
                holding = holding;
                is = (
                  found_thawed thawed opened held h k volume at s_old,
                  failed_on Tells files PieceTells faults fuses tag old new opened held act h (leaves.kept opened held h) m f cause k volume at,
                  inr (
                    ap (λ (x : ℕ). Pends x change true) (same_machine (stood_of faults fuses opened k held).volume r),
                    sym (stood_by opened held h k volume at s_old) ∙ was_held (stood_of faults fuses opened k held).volume r,
                  ),
                );
              };
          always = λ x g e opened held h k volume at a b holding.
              let mm : m ≡ x = cc e in let ff : f ≡ g = cc e in record {
                held = held;
                made = Some act;
                holding = holding;
                is = subst (λ (y : ℕ). FailedOn volume.settings volume.start volume.number y g held (Some act)) mm
                    (subst (λ (y : ℕ). FailedOn volume.settings volume.start volume.number m y held (Some act)) ff
                    (failed_on Tells files PieceTells faults fuses tag old new opened held act h (leaves.kept opened held h) m f cause k volume at));
              };
        })
      where
        same_machine : (k : VolumeKnown) → logical.DeleteRefused files PieceTells k tag pair new.logical (Failed m f) → n ≡ m
        same_machine k (open_then, inl s) = let not : ◌≡◌ {A = Option ℕ} None (Some n) = sym open_then ∙ frozen_known files PieceTells new.logical k s ∙ is in absurd (cc not)
        same_machine k (open_then, inr (was, s)) = let both : ◌≡◌ {A = Option ℕ} (Some m) (Some n) = frozen_known files PieceTells new.logical (frozen_with m tag change true k) s ∙ is in sym (cc both)

        stands : (k : VolumeKnown) → logical.DeleteRefused files PieceTells k tag pair new.logical (Failed m f) → Stands files PieceTells new.logical (frozen_with n tag change true k)
        stands k (open_then, inl s) = let not : ◌≡◌ {A = Option ℕ} None (Some n) = sym open_then ∙ frozen_known files PieceTells new.logical k s ∙ is in absurd (cc not)
        stands k (open_then, inr (was, s)) = subst (λ (x : ℕ). Stands files PieceTells new.logical (frozen_with x tag change true k)) (sym (same_machine k (open_then, inr (was, s)))) s

        was_held : (k : VolumeKnown) → logical.DeleteRefused files PieceTells k tag pair new.logical (Failed m f) → logical.is_held k pair ≡ true
        was_held k (open_then, inl s) = let not : ◌≡◌ {A = Option ℕ} None (Some n) = sym open_then ∙ frozen_known files PieceTells new.logical k s ∙ is in absurd (cc not)
        was_held k (open_then, inr (was, s)) = was
    failed_by tight m f None is refused cause made by =
        let act : VolumeAct = act_by made_is.Tries in
        let leaves : Leaves (Some act) = tries (λ tells k s. (stands k (refused tells k s), tight tells k s)) in
        subst (λ (z : Option VolumeAct). Refused (Failed m f) z) (sym (by.acts made_is.Tries refl)) (record {
          leaves = leaves;
          told = λ opened held h tells k s volume at a b holding. record {
            held = held;
            made = Some act;
            holding = holding;
            is = (
              found_thawed thawed opened held h k volume at (h.stands tells k s),
              failed_on Tells files PieceTells faults fuses tag old new opened held act h
                  (leaves.kept opened held h) m f cause k volume at,
              inl refl,
            );
          };
          always = λ x g e opened held h k volume at a b holding.
              let mm : m ≡ x = cc e in let ff : f ≡ g = cc e in record {
                held = held;
                made = Some act;
                holding = holding;
                is = subst (λ (y : ℕ). FailedOn volume.settings volume.start volume.number y g held (Some act)) mm
                    (subst (λ (y : ℕ). FailedOn volume.settings volume.start volume.number m y held (Some act)) ff
                    (failed_on Tells files PieceTells faults fuses tag old new opened held act h (leaves.kept opened held h) m f cause k volume at));
              };
        })
      where
        stands : (k : VolumeKnown) → logical.DeleteRefused files PieceTells k tag pair new.logical (Failed m f) → Stands files PieceTells new.logical k
        stands k (open_then, inl s) = s
        stands k (open_then, inr (was, s)) = let not : ◌≡◌ {A = Option ℕ} (Some m) None = frozen_known files PieceTells new.logical (frozen_with m tag change true k) s ∙ is in absurd (cc not)

    pub delete_refused : (fault : LogicalFault) → Tight
        → (Tells → (k : VolumeKnown) → Stands files PieceTells old.logical k → logical.DeleteRefused files PieceTells k tag pair new.logical fault)
        → logical.IsDeleteFault faults (old.logical).settings (old.logical).number (old.logical).replicas (new.logical).replicas fault
        → ((m at : ℕ) → fault ≡ Damaged m at → ⊥)
        → (made : Option VolumeAct) → IsMadeBy Tells files PieceTells faults fuses tag old new (delete_made (new.logical).frozen change fault) made → Refused fault made
    delete_refused (Failed m f) tight refused cause undamaged made by = failed_by tight m f (new.logical).frozen refl refused cause made by
    delete_refused NoMemory tight refused cause undamaged made by = record {
      leaves = tried (λ tells k s. ((refused tells k s).1, tight tells k s)) made (by.tries refl);
      told =
          λ opened held h tells k s volume at a b holding. record {
            held = held;
            made = made;
            holding = holding;
            is = inl (nothing_made Tells files PieceTells faults fuses tag old new made (by.tries refl));
          };
      always = λ m f e. absurd (cc e);
    }
    delete_refused (Gone p) tight refused cause undamaged made by = record {
      leaves = tried (λ tells k s. ((refused tells k s).3, tight tells k s)) made (by.tries refl);
      told = λ opened held h tells k s volume at a b holding.
          let s_old = h.stands tells k s in
          let r = refused tells (stood_of faults fuses opened k held).volume s_old in record {
            held = held;
            made = made;
            holding = holding;
            is = (
              nothing_made Tells files PieceTells faults fuses tag old new made (by.tries refl),
              found_thawed thawed opened held h k volume at s_old,
              sym (stood_by opened held h k volume at s_old) ∙ r.1,
              r.2 ∙ ap (λ (z : Standing). length (z.volume).log) (stood_is faults fuses opened k volume held at),
            );
          };
      always = λ m f e. absurd (cc e);
    }
    delete_refused (ReadOnly m) tight refused cause undamaged made by = record {
      leaves = tried (λ tells k s. ((refused tells k s).1, tight tells k s)) made (by.tries refl);
      told = λ opened held h tells k s volume at a b holding.
          let s_old = h.stands tells k s in
          let not : ◌≡◌ {A = Option ℕ} None (Some m) =
          sym (known_thawed thawed (stood_of faults fuses opened k held).volume s_old) ∙ (refused tells (stood_of faults fuses opened k held).volume s_old).0 in absurd (cc not);
      always = λ m f e. absurd (cc e);
    }
    delete_refused (Damaged m at) tight refused cause undamaged made by = absurd (undamaged m at refl)
    delete_refused (Full m end need capacity) tight refused cause undamaged made by = absurd cause
    delete_refused (Busy m g) tight refused cause undamaged made by = absurd cause
    delete_refused (Worn m) tight refused cause undamaged made by = absurd cause
    delete_refused Idle tight refused cause undamaged made by = absurd cause

    -- IT WAS GIVEN UP for want of memory to publish it

    pub delete_given_up : (m : ℕ) → m ≡ machine_of (old.logical).settings (old.logical).number 0 → (new.logical).frozen ≡ Some m
        → (Tells → (k : VolumeKnown) → Stands files PieceTells old.logical k → (logical.is_held k pair ≡ true) × Stands files PieceTells new.logical (frozen_with m tag change false k))
        → (made : Option VolumeAct) → IsMadeBy Tells files PieceTells faults fuses tag old new (pends_by (new.logical).frozen change false) made → Refused NoMemory made
    delete_given_up m first frozen given made by =
        let act : VolumeAct = act_by (made_is.Pends m change false) in
        subst (λ (z : Option VolumeAct). Refused NoMemory z) (sym (by.acts (made_is.Pends m change false) (ap (λ (f : Option ℕ). pends_by f change false) frozen))) (record {
          leaves = pends m false (λ tells k s. (given tells k s).1);
          told = λ opened held h tells k s volume at a b holding.
              let s_old = h.stands tells k s in record {
                held = held;
                made = Some act;
                holding = holding;
                is = inr (inr (
                  found_thawed thawed opened held h k volume at s_old,
                  ap (λ (n : ℕ). Pends n change false) (first ∙ ap (λ (z : Settings). machine_of z (old.logical).number 0) (h.same_settings ∙ sym at.settings)
                      ∙ ap (λ (v : ℕ). machine_of volume.settings v 0) (h.number ∙ sym at.number)),
                  sym (stood_by opened held h k volume at s_old) ∙ (given tells (stood_of faults fuses opened k held).volume s_old).0,
                ));
              };
          always = λ m f e. absurd (cc e);
        })

  -- IT WAS PUBLISHED

  module _ (p : ℕ) (over : List Bool) (of : IsOfBoth faults old new) (stay : FusesStay fuses old new) (shows : Shows tag (Some change) old new)
      (serves : (opened : Opened D P) → (old.logical).settings ≡ (opened.volume).settings → Serves opened old new)
      (begun : new.begun ≡ old.begun) (thawed : (old.logical).frozen ≡ None)
      (slots : (j lane : ℕ) → j < (old.settings).replicas → lane < 8
      → ended_at new.ended j lane ≡ ended_in j lane (slice_index_or old.begun j nobody) (act_by (made_is.Enters change over)) (ended_at old.ended j lane))
      (rose : Tells → (k : VolumeKnown) → Stands files PieceTells old.logical k → (j : ℕ) → slice_get over j ≡ Some true
      → Rose (count_at faults (old.logical).replicas j) (count_at faults (new.logical).replicas j))
      (ran : Tells → (k : VolumeKnown) → Stands files PieceTells old.logical k → (j : ℕ) → slice_index_or over j false ≡ true → (run : Run) × ((replica_at k j).run ≡ Some run))
      (deleted : Tells → (k : VolumeKnown) → Stands files PieceTells old.logical k
      → (logical.is_held k pair ≡ true) × (p ≡ length k.log + 1) × Stands files PieceTells new.logical (with_del over tag pair k)) where
    pub delete_shown : Leaves (Some (act_by (made_is.Enters change over))) × Found Tells files PieceTells faults fuses tag old (Some (act_by (made_is.Enters change over)))
        (λ volume. DeleteAnswer volume tag pair (Ok p))
    delete_shown = (
      record {
        kept = λ opened held h. kept_acted Tells files PieceTells faults fuses opened held old new tag (made_is.Enters change over) h of (λ still. thawed) shows (serves opened h.same_settings)
            (fuses_stay Tells files PieceTells faults fuses tag old new of.count stay)
            (λ tells k s. (
              known_thawed thawed (stood_of faults fuses opened k held).volume (h.stands tells k s),
              (
                over,
                λ j is. subst (λ (n : ℕ). Rose n ((left_by (act_by (made_is.Enters change over)) (stood_of faults fuses opened k held)).faults j)) (sym (h.fault_counts k j))
                    (subst (λ (n : ℕ). Rose (count_at faults (old.logical).replicas j) n)
                    (sym (count_behind faults (old.logical).replicas (new.logical).replicas j ((stood_of faults fuses opened k held).faults j) of.count (h.fault_counts k j)))
                    (rose tells (stood_of faults fuses opened k held).volume (h.stands tells k s) j is)),
                refl,
              ),
            ))
            (λ tells k s. (deleted tells (stood_of faults fuses opened k held).volume (h.stands tells k s)).2)
            (λ tells k s. tight_entered files tag (made_is.Enters change over) old new (stood_of faults fuses opened k held) change refl)
            (λ j less. ap (λ (l : List CoreTag). slice_index_or l j nobody) begun)
            (record { ended = slots; owned = λ j less own. absurd own; cuts = λ tells before s j is. ran tells before.volume s j is });
        tags = (refl, tt);
        seats = (refl, tt);
      },
      λ opened held h tells k s volume at a b holding.
          let s_old = h.stands tells k s in
          let d = deleted tells (stood_of faults fuses opened k held).volume s_old in record {
            held = held;
            made = Some (act_by (made_is.Enters change over));
            holding = holding;
            is = (
              refl,
              found_thawed thawed opened held h k volume at s_old,
              sym (stood_by opened held h k volume at s_old) ∙ d.0,
              d.1 ∙ ap (λ (z : Standing). length (z.volume).log + 1) (stood_is faults fuses opened k volume held at),
            );
          },
    )

-- WHERE THE VOLUME WAS SEEN BEFORE

module _ {D P : Type 0} (faults fuses : D → ℕ) (old mid : Volume D P) (new : List (Copy D)) (same : IsSame old mid) (counts : KeepsCounts faults fuses old.replicas mid.replicas) where
  machine_since : (m j : ℕ) → m ≡ machine_of mid.settings mid.number j → m ≡ machine_of old.settings old.number j
  machine_since m j is = is ∙ ap (λ (s : Settings). machine_of s mid.number j) same.settings ∙ ap (λ (v : ℕ). machine_of old.settings v j) same.number

  pub sight_since : (fault : LogicalFault) → logical.IsSightFault faults mid.settings mid.number mid.replicas new fault → logical.IsSightFault faults old.settings old.number old.replicas new fault
  sight_since (Failed m f) cause = failed_since faults fuses old mid new m f same counts cause
  sight_since (Damaged m at) cause = (cause.0, subst (λ (s : Settings). cause.0 < s.replicas) same.settings cause.1, machine_since m cause.0 cause.2)
  sight_since NoMemory cause = tt
  sight_since (ReadOnly m) cause = cause
  sight_since (Gone front) cause = cause
  sight_since (Full m end need capacity) cause = cause
  sight_since (Busy m g) cause = cause
  sight_since (Worn m) cause = cause
  sight_since Idle cause = cause

  pub delete_since : (fault : LogicalFault) → logical.IsDeleteFault faults mid.settings mid.number mid.replicas new fault → logical.IsDeleteFault faults old.settings old.number old.replicas new fault
  delete_since (Failed m f) cause = failed_since faults fuses old mid new m f same counts cause
  delete_since (ReadOnly m) cause = (cause.0, subst (λ (s : Settings). cause.0 < s.replicas) same.settings cause.1, machine_since m cause.0 cause.2)
  delete_since (Damaged m at) cause = (cause.0, subst (λ (s : Settings). cause.0 < s.replicas) same.settings cause.1, machine_since m cause.0 cause.2)
  delete_since NoMemory cause = tt
  delete_since (Gone front) cause = tt
  delete_since (Full m end need capacity) cause = cause
  delete_since (Busy m g) cause = cause
  delete_since (Worn m) cause = cause
  delete_since Idle cause = cause

-- BY WHAT THE CALLS TELL

module _ {D P : Type 0} (tag : CoreTag) (old mid new : Guarded D P) where
  pub shows_more : (entered : Option Entry) → Shows tag None old mid → Shows tag entered mid new → Shows tag entered old new
  shows_more entered one two = record {
    front = two.front ∙ one.front;
    base = two.base ∙ one.base;
    more = two.more ∙ ap (λ (l : List Entry). l ++ add_shown entered []) (one.more ∙ append-nil (entered_by ((old.front).shown).deeds));
    tags = two.tags ∙ ap (λ (l : List Tag). l ++ add_tag entered (record { seat = tag.lane; lane = tag.lane; line = tag.line }) []) (one.tags ∙ append-nil (map (λ e. e.tag) (old.front).log));
  }

  pub serves_more : (opened : Opened D P) → Serves opened old mid → Serves opened mid new → Serves opened old new
  serves_more opened one two = record { «open» = two.«open»; rows = λ from were still pair. two.rows from (λ thawed. one.rows from were thawed) still pair }

  -- the front and the rows stayed
  pub serves_kept : (opened : Opened D P) → Serves opened old mid → new.front ≡ mid.front → (mid.front).closed ≡ false → (mid.logical).frozen ≡ None
      → ((pair : Pair) → row_at (new.logical).rows pair ≡ row_at (mid.logical).rows pair) → Serves opened old new
  serves_kept opened one front closed thawed rows = record {
    «open» = λ still. ap (λ f. f.closed) front ∙ closed;
    rows = λ from were still pair. ap (λ f. published_row opened.volume from.rows (f.shown).deeds pair) front ∙ one.rows from were thawed pair ∙ sym (rows pair);
  }

-- what was published holds with what is published behind it
pub holds_more : {D P : Type 0} (Tells : Type 0) (files : D → Files) (PieceTells : Type 0) (w : Witness (MapPast P (Volume D P)) (Volume D P) (Published P)) (deed : Published P)
    → Holds (Fact Tells files PieceTells) w → MayPublish (Fact Tells files PieceTells) w deed → Holds (Fact Tells files PieceTells) (with_deed w deed)
holds_more Tells files PieceTells w deed holds may = (holds.0, holds.1, holds.2, may holds.0 holds.1 holds.2)

-- COMPACTIONS THAT ENDED

pub over_is : {D : Type 0} (old new : List (Copy D)) → over_since (map goal_of old) new ≡ logical.ended_runs old new
over_is [] new = refl
over_is (r ∷ old) [] = refl
over_is (r ∷ old) (q ∷ new) = ap (λ (l : List Bool). logical.has_ended (goal_of r) (goal_of q) ∷ l) (over_is old new)

-- one of them stood before
stood_before : {D : Type 0} (old new : List (Copy D)) (j : ℕ) → slice_index_or (logical.ended_runs old new) j false ≡ true → (r : Copy D) × (g : ℕ) × At old j r × (goal_of r ≡ Some g)
stood_before [] new j is = absurd (cc is)
stood_before (r ∷ old) [] j is = absurd (cc is)
stood_before (r ∷ old) (q ∷ new) zero is = here (goal_of r) refl (goal_of q) is
  where
    here : (a : Option ℕ) → goal_of r ≡ a → (b : Option ℕ) → logical.has_ended a b ≡ true → (x : Copy _) × (g : ℕ) × At (r ∷ old) 0 x × (goal_of x ≡ Some g)
    here None e b is = absurd (cc is)
    here (Some g) e b is = (r, g, refl, e)
stood_before (r ∷ old) (q ∷ new) (suc j) is = stood_before old new j is

run_there : (run : Option Run) (g : ℕ) → option_map (λ (run : Run). run.goal) run ≡ Some g → (r : Run) × (run ≡ Some r)
run_there None g is = absurd (cc is)
run_there (Some run) g is = (run, refl)

pub ran_before : {D P : Type 0} (files : D → Files) (PieceTells : Type 0) (faults : D → ℕ) (volume : Volume D P) (new : List (Copy D)) (k : VolumeKnown) → Stands files PieceTells volume k
    → (j : ℕ) → slice_index_or (logical.ended_runs volume.replicas new) j false ≡ true → (run : Run) × ((replica_at k j).run ≡ Some run)
unfolding Stands
ran_before files PieceTells faults volume new k s j is =
    let was = stood_before volume.replicas new j is in
    run_there (replica_at k j).run was.1 (sym (standing_known volume.settings volume.number PieceTells files PieceTells faults volume.replicas volume.rows volume.front
    volume.frozen volume.unsure k s j was.0 was.2) ∙ was.3)

-- and the disk of each has failed
pub rose_erased : {D : Type 0} (faults fuses : D → ℕ) (old mid new : List (Copy D)) → KeepsCounts faults fuses old mid → length new ≡ length mid → length (logical.ended_runs mid new) ≡ length mid
    → ((j : ℕ) (r r' : Copy D) → slice_get (logical.ended_runs mid new) j ≡ Some true → At mid j r → At new j r' → Rose (faults r.disk) (faults r'.disk))
    → (j : ℕ) → slice_get (logical.ended_runs mid new) j ≡ Some true → Rose (count_at faults old j) (count_at faults new j)
rose_erased faults fuses old mid new counts same long cause j is =
    let less : j < length mid = (let l = at_below (logical.ended_runs mid new) j true is in omega (arith, l, long)) in
    let o = at_there old j (let c = counts.count in omega (arith, less, c)) in
    let m = at_there mid j less in
    let n = at_there new j (omega (arith, less, same)) in
    subst (λ (x : ℕ). Rose x (count_at faults new j)) (sym (count_there faults old j o.0 o.1))
    (subst (λ (x : ℕ). Rose (faults ((o.0).disk)) x) (sym (count_there faults new j n.0 n.1))
    (rose_since (faults ((o.0).disk)) (faults ((m.0).disk)) (faults ((n.0).disk)) (counts.rises j o.0 m.0 o.1 m.1) (cause j m.0 n.0 is m.1 n.1)))

-- ONE AFTER ANOTHER

pub map_next : {X Y : Type 0} (f : X → Y) (xs : List X) (j : ℕ) (x : X) → At xs j x → take (suc j) (map f xs) ≡ take j (map f xs) ++ f x ∷ []
map_next f [] j x there = absurd (cc there)
map_next f (y ∷ xs) zero x there = let same : y ≡ x = cc there in ap (λ z. f z ∷ []) same
map_next f (y ∷ xs) (suc j) x there = ap (λ l. f y ∷ l) (map_next f xs j x there)

pub over_next : {D : Type 0} (runs : List (Option ℕ)) (replicas : List (Copy D)) (j : ℕ) (run : Option ℕ) (r : Copy D) → At runs j run → At replicas j r
    → take (suc j) (over_since runs replicas) ≡ take j (over_since runs replicas) ++ logical.has_ended run (goal_of r) ∷ []
over_next [] replicas j run r here there = absurd (cc here)
over_next (a ∷ runs) [] j run r here there = absurd (cc there)
over_next (a ∷ runs) (b ∷ replicas) zero run r here there =
    let run_is : a ≡ run = cc here in let copy_is : b ≡ r = cc there in ap (λ z. logical.has_ended z (goal_of b) ∷ []) run_is ∙ ap (λ z. logical.has_ended run (goal_of z) ∷ []) copy_is
over_next (a ∷ runs) (b ∷ replicas) (suc j) run r here there = ap (λ l. logical.has_ended a (goal_of b) ∷ l) (over_next runs replicas j run r here there)

pub over_long : {D : Type 0} (runs : List (Option ℕ)) (replicas : List (Copy D)) (n : ℕ) → length runs ≡ n → length replicas ≡ n → length (over_since runs replicas) ≡ n
over_long [] replicas n a b = a
over_long (r ∷ runs) [] n a b = b
over_long (r ∷ runs) (q ∷ replicas) zero a b = absurd (omega (arith, a))
over_long (r ∷ runs) (q ∷ replicas) (suc n) a b = ap suc (over_long runs replicas n (omega (arith, a)) (omega (arith, b)))

pub next_taken : {X : Type 0} (xs before behind : List X) (j : ℕ) (x y : X) → take (suc j) xs ≡ take j xs ++ y ∷ [] → x ≡ y → before ≡ take j xs → behind ≡ before ++ x ∷ [] → behind ≡ take (j + 1) xs
next_taken xs before behind j x y next same taken more =
    let one : suc j ≡ j + 1 = omega arith in
    more ∙ ap (λ l. l ++ x ∷ []) taken ∙ ap (λ z. take j xs ++ z ∷ []) same ∙ sym next ∙ ap (λ n. take n xs) one

-- a count more is kept
module _ (over : List Bool) (begun : List CoreTag) (faults : List ℕ) (first before behind : List (List (Option ℕ))) (i fault : ℕ) where
  abbrev begun_by : ℕ
  begun_by = (slice_index_or begun i nobody).lane

  abbrev pub Done : ℕ → List (List (Option ℕ)) → Type 0
  Done n ended = (j lane : ℕ) → j < n → lane < 8 → ended_at ended j lane ≡ noted over begun faults first j lane

  abbrev pub Rest : ℕ → List (List (Option ℕ)) → Type 0
  Rest n ended = (j lane : ℕ) → n ≤ j → ended_at ended j lane ≡ ended_at first j lane

  pub noted_over : Done i before → Rest i before → slice_index_or over i false ≡ true → slice_index_or faults i 0 ≡ fault → (begun_by < 8 → ended_at behind i begun_by ≡ Some fault)
      → ((j lane : ℕ) → (j ≡ i → lane ≡ begun_by → ⊥) → ended_at behind j lane ≡ ended_at before j lane) → Done (i + 1) behind × Rest (i + 1) behind
  noted_over done rest is count set others = (
    λ j lane less few. elim (cases_lt j i) [
      | inl below ↦ others j lane (λ same own. omega (arith, below, same)) ∙ done j lane below few
      | inr past ↦ (let same : i ≡ j = omega arith in subst (λ (n : ℕ). ended_at behind n lane ≡ noted over begun faults first n lane) same (here lane few (begun_by == lane) refl))
    ],
    λ j lane past. others j lane (λ same own. omega (arith, past, same)) ∙ rest j lane (omega (arith, past)),
  )
    where
      here : (lane : ℕ) → lane < 8 → (b : Bool) → (begun_by == lane) ≡ b → ended_at behind i lane ≡ noted over begun faults first i lane
      here lane few true same =
          let own : begun_by ≡ lane = eqb-true begun_by lane same in
          subst (λ (n : ℕ). ended_at behind i n ≡ Some fault) own (set (subst (λ (n : ℕ). n < 8) (sym own) few)) ∙ ap Some (sym count)
          ∙ sym (cond-true (slice_index_or over i false) (if begun_by == lane then Some (slice_index_or faults i 0) else ended_at first i lane) (ended_at first i lane) is
          ∙ cond-true (begun_by == lane) (Some (slice_index_or faults i 0)) (ended_at first i lane) same)
      here lane few false other =
          others i lane (λ same own. let not : true ≡ false = sym (eq-eqb begun_by lane (sym own)) ∙ other in cc not) ∙ rest i lane (omega arith)
          ∙ sym (cond-true (slice_index_or over i false) (if begun_by == lane then Some (slice_index_or faults i 0) else ended_at first i lane) (ended_at first i lane) is
          ∙ cond-false (begun_by == lane) (Some (slice_index_or faults i 0)) (ended_at first i lane) other)

  pub noted_not : Done i before → Rest i before → slice_index_or over i false ≡ false → Done (i + 1) before × Rest (i + 1) before
  noted_not done rest is = (
    λ j lane less few. elim (cases_lt j i) [
      | inl below ↦ done j lane below few
      | inr past ↦ (let same : i ≡ j = omega arith in subst (λ (n : ℕ). ended_at before n lane ≡ noted over begun faults first n lane) same
          (rest i lane (omega arith) ∙ sym (cond-false (slice_index_or over i false) (if begun_by == lane then Some (slice_index_or faults i 0) else ended_at first i lane)
          (ended_at first i lane) is)))
    ],
    λ j lane past. rest j lane (omega (arith, past)),
  )
