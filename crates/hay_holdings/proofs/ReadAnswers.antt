-- The answer of a read and of a get, from its calls.
use Rattle.std.proofs.Common.{◌≡◌, ◌≢◌, ◌⊎◌, inl, inr, ℕ, ◌+◌, ◌-◌, ◌^◌, ◌<◌, ◌≤◌, Bool, true, false, cond, not, List, [], ◌∷◌, ◌++◌, length, map, refl, sym, ap, subst, ◌∙◌}
use Rattle.std.proofs.Common.{arith, append-nil, append_assoc, count_by, Contains, take_while, Option, Some, None}
use Rattle.std.specs.Prelude.{◌==◌}
use Rattle.std.specs.List.{AllZip, AllByRecursion as Each}
use Rattle.std.proofs.lemmas.Bool.{eq-eqb, ne_eqb}
use Rattle.std.proofs.lemmas.List.Elements.{Contains-append_left, Contains-append_right}
use mathlib.Core.Logic.{dite}
use native.Mathlib.Decide.{ℕ_discrete}
use Rattle.hay_needle.specs.declared.needle.Pair.{Pair}
use Rattle.hay_needle.specs.declared.needle.Cookie.{Cookie}
use Rattle.hay_needle.specs.declared.needle.Outcome.{Outcome}
use Rattle.hay_needle.specs.declared.needle.Outcome.TheVariants as outcome
use Rattle.hay_needle.specs.declared.settings.Settings.{Settings}
use Rattle.hay_url.specs.declared.Url.{Url as UrlParts}
use Rattle.hay_script.specs.declared.Command.TheVariants as command
use Rattle.hay_reply.specs.declared.Cause.{Cause}
use Rattle.hay_reply.specs.declared.Cause.TheVariants.{Arm, Damage, Disk}
use Rattle.hay_reply.specs.declared.Passed.{Passed}
use Rattle.hay_reply.specs.declared.Reply.{Reply}
use Rattle.hay_reply.specs.declared.Reply.TheVariants.{Gone, Moved, NoMem, Photo, Unknown, Unreadable, WrongCookie}
use Rattle.hay_core.specs.declared.entry.CoreTag.{CoreTag}
use Rattle.hay_legal.specs.declared.turn.Item.TheVariants as asks
use Rattle.hay_legal.specs.declared.turn.LaneItem.{LaneItem}
use Rattle.hay_legal.specs.Known.{CameUp, EachPair, machine_of, replica_on}
use Rattle.hay_legal.specs.Plain.{ArmRises, first_machine, order_from, start_of}
use Rattle.hay_legal.proofs.Subject.Effects.{each_append}
use Rattle.hay_history.specs.LaneSteps.Did.{Freezes, Tries}
use Rattle.hay_history.specs.Histories.{changes_it}
use Rattle.hay_history.proofs.Lists.{each_both, each_from, each_weaker, is_first, pair_append, zip_weaker}
use Rattle.hay_meeting.specs.declared.act.VolumeAct.{VolumeAct}
use Rattle.hay_meeting.specs.Acts.{Start, did_of}
use Rattle.hay_meeting.specs.Facts.{NothingOn, RoseAt, changed, changed_rows}
use Rattle.hay_meeting.specs.Locks.{Doing}
use Rattle.hay_meeting.specs.Replies.{GetDidHere, LookFailedHere, LookFrozeHere, PassedForHere, PassedOverHere, ShowedHere}
use Rattle.hay_meeting.specs.Sights.{Doings, IsLaterSight, Sight}
use Rattle.hay_meeting.proofs.Chaining.{later_at, same_at, same_sight}
use Rattle.hay_meeting.proofs.Phases.{saw_home_wider}
use Rattle.hay_meeting.proofs.Picking.{pair_unmap}
use Rattle.hay_holdings.specs.Holdings.{doings_in}
use Rattle.hay_holdings.specs.Lines.{ArmFailed, IsAnswered, Sees, LookFailed, Looking, PassedFor, PassedOver, Shows, ShowsAs, Unchanged, line_of}
use Rattle.hay_holdings.specs.Sights.{AtArm, AtVolume, Idle, Went, doings_at, no_doings, on_volume}
use Rattle.hay_holdings.specs.Volumes.{MadeNothing, MadeOne, ChangedNothing, ShownAt, SightFailed, SightWanted}
use Rattle.hay_holdings.proofs.Calls.{only_tries}
use Rattle.hay_holdings.proofs.Finding.{acted_at, rose_at}
use Rattle.hay_holdings.proofs.Going.{arm_went, call_went, changed_nowhere, changed_other, look_went, on_each, on_here, on_none, went_at_both, went_later, went_same, work_of}
use Rattle.hay_holdings.proofs.Lists.{count_fewer, count_more, count_same, count_taken, zip_more}

-- the parts of equal lists
cons_parts : {x y : ℕ} {xs ys : List ℕ} → x ∷ xs ≡ y ∷ ys → (x ≡ y) × (xs ≡ ys)
cons_parts same = (cc same, cc same)

-- doings that only tried changed nothing
tries_unchanged : (ds : List (Doing VolumeAct)) → Each (λ d. did_of (d.act).did ≡ Tries) ds → changed ds ≡ []
tries_unchanged [] each = refl
tries_unchanged (d ∷ ds) each = ap (λ (b : Bool). cond b (d ∷ changed ds) (changed ds)) (ap changes_it each.0) ∙ tries_unchanged ds each.1

-- a cause of a disk may stand behind any
disk_behind : (f : ℕ) (cause : Cause) → ArmRises cause (Disk f)
disk_behind f (Arm g) = tt
disk_behind f (Disk g) = tt
disk_behind f (Damage at) = tt

module _ (settings : Settings) (start : Start) (drained : List Bool) (tag : CoreTag) where
  module _ (pair : Pair) (d v : ℕ) where
    abbrev Over : List ℕ → List Cause → Sight → Sight → Type 0
    Over js causes a b = PassedOver settings start drained tag pair d v js causes a b

    none_at : {a b : Sight} → Idle tag a b → Went tag a b (doings_at v [] [])
    none_at idle = went_same (doings_at v [] []) (λ u. sym (on_none v u)) refl idle

    pub reads : {a b : Sight} → Sees settings start drained tag pair d (Some v) a b → Over [] [] a b
    reads x = record {
      home = x.saw;
      doings = [];
      went = none_at x.idle;
      tries = tt;
      each = tt;
      rises = tt;
      to_arm = λ j. true;
      arm = inl (let e = (x.idle).arm in omega (arith, e));
      disks = λ j. inl refl;
    }

    -- IT GOES ON, and passes over none

    -- why a replica was passed over, with more doings and a later arm
    passed_for : (a m b : Sight) (ds es : List (Doing VolumeAct)) (j : ℕ) (cause : Cause) → m.arm ≤ b.arm → PassedFor settings start drained tag v ds a m j cause
        → PassedFor settings start drained tag v (ds ++ es) a b j cause
    passed_for a m b ds es j (Arm f) later has = let l = has.1 in (has.0, omega (arith, l, later))
    passed_for a m b ds es j (Disk f) later has = (has.0, Contains-append_left ds es has.0 has.1, has.2)
    passed_for a m b ds es j (Damage at) later has = has

    module _ {js : List ℕ} {causes : List Cause} {a m b : Sight} (over : Over js causes a m) where
      abbrev goes_on : (es : List (Doing VolumeAct)) → Went tag m b (doings_at v es []) → Each (λ doing. did_of (doing.act).did ≡ Tries) es
          → (b.arm ≡ m.arm) ⊎ (b.arm < 2 ^ 64) → Over js causes a b
      goes_on es went tries most =
          let later = went.arm in record {
            home = saw_home_wider (same_sight a) (went_later went) over.home;
            doings = over.doings ++ es;
            went = went_at_both v over.doings es over.went went;
            tries = each_append (λ doing. did_of (doing.act).did ≡ Tries) over.doings es over.tries tries;
            each = zip_weaker (PassedFor settings start drained tag v over.doings a m) (PassedFor settings start drained tag v (over.doings ++ es) a b) js causes
                (λ j cause among has. passed_for a m b over.doings es j cause later has) over.each;
            rises = over.rises;
            to_arm = over.to_arm;
            arm = elim over.arm [
              | inl le ↦ inl (omega (arith, le, later))
              | inr end ↦ inr (elim most [ inl same ↦ same ∙ end | inr less ↦ omega (arith, end, less, later) ])
            ];
            disks = λ j. elim (over.disks j) [
              | inl fetched ↦ inl fetched
              | inr failed ↦ inr (failed.0, ((failed.1).0, Contains-append_left over.doings es (failed.1).0 (failed.1).1, (failed.1).2))
            ];
          }

      pub read_goes_on : Idle tag m b → (b.arm ≡ m.arm) ⊎ (b.arm < 2 ^ 64) → Over js causes a b
      read_goes_on idle most = goes_on [] (none_at idle) tt most

      -- a place was seen under the lock
      pub read_sees : AtVolume v (ChangedNothing settings start v tag) m b → Over js causes a b
      read_sees x = goes_on (doings_in (x.is).held (x.is).made) (call_went x) (only_tries (x.is).held (x.is).made (x.is).is) (inl x.arm)

    -- one more replica was passed over
    with_one : {js : List ℕ} {causes : List Cause} {a m : Sight} (over : Over js causes a m) (j : ℕ) (cause : Cause) (to_arm : ℕ → Bool)
        → PassedFor settings start drained tag v over.doings a m j cause → Each (λ c. ArmRises c cause) causes
        → (a.arm + count_by to_arm (js ++ j ∷ []) ≤ m.arm) ⊎ (m.arm ≡ 2 ^ 64 - 1) → ((i : ℕ) → (to_arm i ≡ true) ⊎ ((f : ℕ) × LookFailed settings start drained tag v over.doings i f))
        → Over (js ++ j ∷ []) (causes ++ cause ∷ []) a m
    with_one {js} {causes} {a} {m} over j cause to_arm has rises arm disks = record {
      home = over.home;
      doings = over.doings;
      went = over.went;
      tries = over.tries;
      each = zip_more (PassedFor settings start drained tag v over.doings a m) js (j ∷ []) causes (cause ∷ []) over.each (has, tt);
      rises = pair_append ArmRises causes (cause ∷ []) over.rises (tt, tt) (each_weaker (λ c. ArmRises c cause) (λ c. ArmRises c cause × Unit {0}) (λ c r. (r, tt)) causes rises);
      to_arm = to_arm;
      arm = arm;
      disks = disks;
    }

    -- a place could not be seen, since a call of its disk failed
    disk_failed : {js : List ℕ} {causes : List Cause} {a b : Sight} {j f : ℕ} (over : Over js causes a b) → LookFailed settings start drained tag v over.doings j f
        → Over (js ++ j ∷ []) (causes ++ Disk f ∷ []) a b
    disk_failed {js} {causes} {a} {b} {j} {f} over failed =
        let to_arm : ℕ → Bool = λ i. cond (i == j) false (over.to_arm i) in
        let fewer =
        count_fewer to_arm over.to_arm (λ i. elim (i == j) as (λ (e : Bool). (cond e false (over.to_arm i) ≡ over.to_arm i) ⊎ (cond e false (over.to_arm i) ≡ false))
        [ true ↦ inr refl | false ↦ inl refl ]) js in
        let last = count_same to_arm js j (ap (λ (e : Bool). cond e false (over.to_arm j)) (eq-eqb j j refl)) in
        with_one over j (Disk f) to_arm failed (each_from (λ c. ArmRises c (Disk f)) causes (λ c among. disk_behind f c))
        (elim over.arm [ inl le ↦ inl (omega (arith, le, fewer, last)) | inr end ↦ inr end ])
        (λ i. dite (ℕ_discrete i j)
        (λ same. inr (f, subst (λ (n : ℕ). LookFailed settings start drained tag v over.doings n f) (sym same) failed))
        (λ differs. elim (over.disks i) [
          | inl fetched ↦ inl (ap (λ (e : Bool). cond e false (over.to_arm i)) (ne_eqb i j differs) ∙ fetched)
          | inr other ↦ inr other
        ]))

    pub sight_fails : {js : List ℕ} {causes : List Cause} {a m b : Sight} {j f : ℕ} → Over js causes a m → AtVolume v (SightFailed settings start v tag j f) m b
        → Over (js ++ j ∷ []) (causes ++ Disk f ∷ []) a b
    sight_fails {js} {causes} {a} {m} {b} {j} {f} over x =
        let acts = acted_at x (λ held none. none.0) in
        let doing : Doing VolumeAct = acts.doing in
        disk_failed (goes_on over (doing ∷ []) acts.went ((acts.is).0, tt) (inl x.arm))
        (doing, Contains-append_right over.doings (doing ∷ []) doing (is_first doing []), (acts.is).1)

    -- a fetch failed, of which the arm's count came up to f
    came_behind : (js : List ℕ) (causes : List Cause) (ds : List (Doing VolumeAct)) (a m : Sight) (f : ℕ) → (m.arm < f) ⊎ (f ≡ 2 ^ 64 - 1)
        → AllZip (PassedFor settings start drained tag v ds a m) js causes
        → Each (λ c. ArmRises c (Arm f)) causes
    came_behind [] [] ds a m f came each = tt
    came_behind [] (c ∷ causes) ds a m f came each = absurd each
    came_behind (j ∷ js) [] ds a m f came each = absurd each
    came_behind (j ∷ js) (Arm g ∷ causes) ds a m f came each =
        let l = (each.0).1 in (elim came [ inl less ↦ inl (omega (arith, l, less)) | inr end ↦ inr end ], came_behind js causes ds a m f came each.1)
    came_behind (j ∷ js) (Disk g ∷ causes) ds a m f came each = (tt, came_behind js causes ds a m f came each.1)
    came_behind (j ∷ js) (Damage at ∷ causes) ds a m f came each = absurd each.0

    pub fetch_fails : {js : List ℕ} {causes : List Cause} {a m b : Sight} (j : ℕ) {f : ℕ} → Over js causes a m → AtArm m b → CameUp m.arm f b.arm → b.arm < 2 ^ 64
        → Over (js ++ j ∷ []) (causes ++ Arm f ∷ []) a b
    fetch_fails {js} {causes} {a} {m} {b} j {f} over x came low =
        let begun : a.arm ≤ m.arm = (over.went).arm in
        let up : f ≤ b.arm = came.1 in
        let count = count_more over.to_arm js j in
        let more : Over js causes a b = goes_on over [] (none_at (arm_went x)) tt (inr low) in
        with_one more j (Arm f) over.to_arm
        (elim came.0 [ inl less ↦ inl (omega (arith, begun, less)) | inr end ↦ inr end ], up)
        (came_behind js causes over.doings a m f came.0 over.each)
        (elim over.arm [
          | inl le ↦ elim came.0 [ inl less ↦ inl (omega (arith, le, less, up, count)) | inr end ↦ inr (omega (arith, end, up, low)) ]
          | inr high ↦ inr (elim came.0 [ inl less ↦ omega (arith, high, less, up, low) | inr end ↦ omega (arith, end, up, low) ])
        ])
        more.disks

    -- a failure behind another one
    failed_behind : (m b f : ℕ) (cause : Cause) → ArmRises (Arm f) cause → ArmFailed m b cause → ArmFailed f b cause
    failed_behind m b f (Arm g) up failed = (up, failed.1)
    failed_behind m b f (Disk g) up failed = failed
    failed_behind m b f (Damage at) up failed = failed

    -- several fetches failed, of which the counts rise
    pub fetches_fail : {js : List ℕ} {causes : List Cause} {a m b : Sight} (js' : List ℕ) (causes' : List Cause) → length js' ≡ length causes' → Each (ArmFailed m.arm b.arm) causes'
        → EachPair ArmRises causes' → AtArm m b → b.arm < 2 ^ 64 → Over js causes a m → Over (js ++ js') (causes ++ causes') a b
    fetches_fail {js} {causes} {a} {m} {b} [] [] many failed rises x low over =
        subst (λ z. Over z (causes ++ []) a b) (sym (append-nil js)) (subst (λ z. Over js z a b) (sym (append-nil causes)) (read_goes_on over (arm_went x) (inr low)))
    fetches_fail [] (c ∷ causes') many failed rises x low over = absurd (omega (arith, many))
    fetches_fail (j ∷ js') [] many failed rises x low over = absurd (omega (arith, many))
    fetches_fail (j ∷ js') (Disk f ∷ causes') many failed rises x low over = absurd failed.0
    fetches_fail (j ∷ js') (Damage at ∷ causes') many failed rises x low over = absurd failed.0
    fetches_fail {js} {causes} {a} {m} {b} (j ∷ js') (Arm f ∷ causes') many failed rises x low over =
        let t : Sight = record m { arm = f } in
        let up : f ≤ b.arm = (failed.0).1 in
        let later = x.arm in
        let first_at : AtArm m t = record {
          volumes = λ v. refl;
          directory = refl;
          arm = elim (failed.0).0 [ inl less ↦ omega (arith, less) | inr end ↦ omega (arith, end, later, low) ];
          most = inr (omega (arith, up, low));
        } in
        let rest_at : AtArm t b = record { volumes = x.volumes; directory = x.directory; arm = up; most = inr low } in
        let first : Over (js ++ j ∷ []) (causes ++ Arm f ∷ []) a t = fetch_fails j over first_at ((failed.0).0, omega arith) (omega (arith, up, low)) in
        let all : Over ((js ++ j ∷ []) ++ js') ((causes ++ Arm f ∷ []) ++ causes') a b =
        fetches_fail js' causes' (omega (arith, many)) (each_both (ArmRises (Arm f)) (ArmFailed m.arm b.arm) (ArmFailed f b.arm) (failed_behind m.arm b.arm f) causes' rises.0 failed.1)
        rises.1 rest_at low first in
        subst (λ z. Over z (causes ++ Arm f ∷ causes') a b) (append_assoc js (j ∷ []) js')
        (subst (λ z. Over ((js ++ j ∷ []) ++ js') z a b) (append_assoc causes (Arm f ∷ []) causes') all)

    -- ITS LAST LOOK at the volume's view

    abbrev Look : ℕ → (ℕ → Outcome) → List ℕ → List Cause → Sight → Sight → Type 0
    Look p what js causes a b = Looking settings start drained tag pair d v p what js causes a b

    shows_wider : {p : ℕ} {what : ℕ → Outcome} {a m b : Sight} → Shows settings start drained tag pair v p what a m → IsLaterSight m b → Shows settings start drained tag pair v p what a b
    shows_wider {m = m} {b = b} x later = record { sight = x.sight; from = x.from; to = later_at x.sight (m.volumes v) (b.volumes v) x.to (later.volumes v); front = x.front; is = x.is }

    module _ {js : List ℕ} {causes : List Cause} {p : ℕ} {what : ℕ → Outcome} {a m b : Sight} where
      pub read_looks : Over js causes a m → AtVolume v (ShownAt settings start v pair p what) m b → Look p what js causes a b
      read_looks over x =
          let passed : Over js causes a b = read_goes_on over (look_went x (x.is).looked) (inl x.arm) in record {
            passed = passed;
            shows = record { sight = b.volumes v; from = (went_later passed.went).volumes v; to = same_at (b.volumes v); front = (x.is).front; is = (x.is).is };
          }

      -- it goes on, as by fetches that succeeded, or by such that failed
      pub look_goes_on : Look p what js causes a m → Idle tag m b → (b.arm ≡ m.arm) ⊎ (b.arm < 2 ^ 64) → Look p what js causes a b
      look_goes_on look idle most = record { passed = read_goes_on look.passed idle most; shows = shows_wider look.shows (went_later idle) }

      pub look_fetches : Look p what js causes a m → AtArm m b → Look p what js causes a b
      look_fetches look x = look_goes_on look (arm_went x) x.most

      pub look_fetches_fail : (js' : List ℕ) (causes' : List Cause) → length js' ≡ length causes' → Each (ArmFailed m.arm b.arm) causes' → EachPair ArmRises causes' → AtArm m b
          → b.arm < 2 ^ 64 → Look p what js causes a m → Look p what (js ++ js') (causes ++ causes') a b
      look_fetches_fail js' causes' many failed rises x low look = record {
        passed = fetches_fail js' causes' many failed rises x low look.passed;
        shows = shows_wider look.shows (went_later (arm_went {tag = tag} x));
      }

    -- WHAT IT IS ANSWERED

    module _ {js : List ℕ} {causes : List Cause} {a b : Sight} (over : Over js causes a b) where
      abbrev here : Doings
      here = doings_at v over.doings []

      look_failed : {j f : ℕ} → LookFailed settings start drained tag v over.doings j f
          → (doing : Doing VolumeAct) × Contains (on_volume v over.doings v) doing × RoseAt settings start drained a b v doing j f
      look_failed failed = (failed.0, subst (λ ds. Contains ds failed.0) (sym (on_here v over.doings)) failed.1, rose_at failed.2)

      only_looks : (changed_rows [] ≡ []) × ((u : ℕ) → u ≢ v → changed (on_volume v over.doings u) ≡ [])
          × Each (λ doing. did_of (doing.act).did ≡ Tries) (on_volume v over.doings v)
      only_looks = (refl, changed_other v over.doings, on_each v (λ doing. did_of (doing.act).did ≡ Tries) over.doings over.tries)

      -- memory was wanting
      pub read_wants : Unchanged tag a b
      read_wants = record { doings = here; went = over.went; volumes = changed_nowhere v over.doings (tries_unchanged over.doings over.tries); rows = refl }

      passed_here : {item : LaneItem} (test : ℕ → Bool) (j : ℕ) (later : List ℕ) → test j ≡ false → PassedOverHere settings start drained item a b here v (take_while test (js ++ j ∷ later))
      passed_here {item} test j later fails =
          let count = count_taken over.to_arm test js j later fails in record {
            to_arm = over.to_arm;
            arm = elim over.arm [ inl le ↦ inl (omega (arith, le, count)) | inr end ↦ inr end ];
            disks = each_from (λ j. (over.to_arm j ≡ true) ⊎ ((f : ℕ) × LookFailedHere settings start drained item a b here v j f)) (take_while test (js ++ j ∷ later))
                (λ j among. elim (over.disks j) [ inl fetched ↦ inl fetched | inr failed ↦ inr (failed.0, look_failed failed.1) ]);
          }

      -- each replica was passed over
      passed_for_here : (item : LaneItem) (j : ℕ) (cause : Cause) → PassedFor settings start drained tag v over.doings a b j cause → PassedForHere settings start drained item a b here v j cause
      passed_for_here item j (Arm f) has = has
      passed_for_here item j (Disk f) has = look_failed has
      passed_for_here item j (Damage at) has = has

      all_passed : (item : LaneItem) (replicas : List ℕ) (passed : List Passed) → map (λ (p : Passed). p.machine) passed ≡ map (machine_of settings v) replicas
          → AllZip (PassedFor settings start drained tag v over.doings a b) replicas (map (λ (p : Passed). p.cause) passed)
          → AllZip (λ j passed. (passed.machine ≡ machine_of settings v j) × PassedForHere settings start drained item a b here v j passed.cause) replicas passed
      all_passed item [] [] machines each = tt
      all_passed item [] (p ∷ passed) machines each = absurd each
      all_passed item (j ∷ replicas) [] machines each = absurd each
      all_passed item (j ∷ replicas) (p ∷ passed) machines each =
          let parts = cons_parts machines in ((parts.0, passed_for_here item j p.cause each.0), all_passed item replicas passed parts.1 each.1)

    module _ {js : List ℕ} {causes : List Cause} {p : ℕ} {what : ℕ → Outcome} {a b : Sight} (look : Look p what js causes a b) (below : v < settings.volumes) where
      -- a replica showed this
      module _ {first j : ℕ} (later : List ℕ) (within : j < settings.replicas) (there : replica_on settings v (machine_of settings v j) ≡ Some j)
          (order : order_from settings first ≡ js ++ j ∷ later) where
        showed : {item : LaneItem} {shown : Outcome} → what j ≡ shown → ShowedHere settings start drained item a b (here look.passed) first pair v (machine_of settings v j) p d shown
        showed {item} is =
            let test : ℕ → Bool = λ i. not (machine_of settings v i == machine_of settings v j) in record {
              home = (look.passed).home;
              below = below;
              front = record { sight = (look.shows).sight; from = (look.shows).from; to = (look.shows).to; front = (look.shows).front };
              replica = j;
              there = there;
              stood = sym ((look.shows).is j within) ∙ is;
              passed = subst (λ (replicas : List ℕ). PassedOverHere settings start drained item a b (here look.passed) v (take_while test replicas)) (sym order)
                  (passed_here look.passed test j later (ap not (eq-eqb (machine_of settings v j) (machine_of settings v j) refl)));
              looks = only_looks look.passed;
            }

        pub shows_photo : {cookie : Cookie} {bytes : List ℕ} → what j ≡ outcome.Photo (record { cookie = cookie; bytes = bytes })
            → ShowsAs settings start drained tag first pair cookie (Photo v (machine_of settings v j) p d bytes) a b
        shows_photo is = record { doings = here look.passed; went = (look.passed).went; did = λ item. showed is }

        pub shows_gone : {cookie : Cookie} → what j ≡ outcome.Nothing → ShowsAs settings start drained tag first pair cookie (Gone v (machine_of settings v j) p d) a b
        shows_gone is = record { doings = here look.passed; went = (look.passed).went; did = λ item. showed is }

        pub shows_wrong_cookie : {cookie other : Cookie} {bytes : List ℕ} → other ≢ cookie → what j ≡ outcome.Photo (record { cookie = other; bytes = bytes })
            → ShowsAs settings start drained tag first pair cookie (WrongCookie v (machine_of settings v j) p d) a b
        shows_wrong_cookie {cookie} {other} {bytes} differs is = record { doings = here look.passed; went = (look.passed).went; did = λ item. (other, bytes, differs, showed is) }

    -- each replica was passed over
    pub shows_unreadable : {js : List ℕ} {p : ℕ} {what : ℕ → Outcome} {a b : Sight} {first : ℕ} {cookie : Cookie} {passed : List Passed}
        → Look p what js (map (λ (p : Passed). p.cause) passed) a b → v < settings.volumes → order_from settings first ≡ js
        → map (λ (p : Passed). p.machine) passed ≡ map (machine_of settings v) js → ShowsAs settings start drained tag first pair cookie (Unreadable v p d passed) a b
    shows_unreadable {js} {a = a} {b = b} {passed = passed} look below order machines = record {
      doings = here look.passed;
      went = (look.passed).went;
      did = λ item. record {
        home = (look.passed).home;
        below = below;
        front = record { sight = (look.shows).sight; from = (look.shows).from; to = (look.shows).to; front = (look.shows).front };
        each =
            subst (λ (replicas : List ℕ). AllZip (λ j passed. (passed.machine ≡ machine_of settings v j)
            × PassedForHere settings start drained item a b (here look.passed) v j passed.cause) replicas passed) (sym order)
            (all_passed look.passed item js passed machines (look.passed).each);
        arms = pair_unmap (λ (p : Passed). p.cause) ArmRises passed (look.passed).rises;
        looks = only_looks look.passed;
      };
    }

    -- for want of memory it may have frozen the volume
    module _ {js : List ℕ} {causes : List Cause} {a m b : Sight} (over : Over js causes a m) (x : AtVolume v (SightWanted settings start v tag) m b) where
      abbrev all_doings : List (Doing VolumeAct)
      all_doings = over.doings ++ doings_in (x.is).held (x.is).made

      abbrev Looks : Doing VolumeAct → Type 0
      Looks doing = (did_of (doing.act).did ≡ Tries) ⊎ (did_of (doing.act).did ≡ Freezes (first_machine settings v))

      last_looks : (held : List VolumeAct) (made : Option VolumeAct) → MadeNothing made ⊎ MadeOne (Freezes (first_machine settings v)) made → Each Looks (doings_in held made)
      last_looks held None did = tt
      last_looks held (Some act) (inl tries) = (inl tries, tt)
      last_looks held (Some act) (inr froze) = (inr froze, tt)

      went_all : Went tag a b (doings_at v all_doings [])
      went_all = went_at_both v over.doings (doings_in (x.is).held (x.is).made) over.went (call_went x)

      abbrev look_froze : {item : LaneItem} → LookFrozeHere settings start drained item a b (doings_at v all_doings []) pair
      look_froze = record {
        d = d;
        v = v;
        home = saw_home_wider (same_sight a) (went_later (call_went x)) over.home;
        elsewhere = changed_other v all_doings;
        steps = on_each v Looks all_doings
            (each_append Looks over.doings (doings_in (x.is).held (x.is).made) (each_weaker (λ doing. did_of (doing.act).did ≡ Tries) Looks (λ doing tries. inl tries) over.doings over.tries)
            (last_looks (x.is).held (x.is).made (x.is).is));
      }

      pub read_sight_wanted : {cookie : Cookie} → IsAnswered settings start drained tag (command.Read pair cookie) NoMem a b
      read_sight_wanted = record { doings = doings_at v all_doings []; work = work_of went_all; did = (refl, inr look_froze) }

      pub get_sight_wanted : {url : UrlParts} {first : ℕ} → url.pair ≡ pair → url.volume ≡ v → replica_on settings url.volume url.machine ≡ Some first
          → IsAnswered settings start drained tag (command.Get url) NoMem a b
      get_sight_wanted {url} {first} own at there =
          let item : LaneItem = line_of tag (asks.Command (command.Get url)) NoMem in
          let doings : Doings = doings_at v all_doings [] in record {
            doings = doings;
            work = work_of went_all;
            did = subst (λ o. GetDidHere settings start drained item a b doings url o NoMem) (sym there)
                (subst (λ (q : Pair). (changed_rows [] ≡ []) × (NothingOn settings start drained a b doings
                ⊎ ((froze : LookFrozeHere settings start drained item a b doings q) × (froze.v ≡ url.volume)))) (sym own)
                (refl, inr (look_froze, sym at)));
          }

  -- IT SAW NO HOME

  pub shows_unknown : {pair : Pair} {d first : ℕ} {cookie : Cookie} {a b : Sight} → Sees settings start drained tag pair d None a b
      → ShowsAs settings start drained tag first pair cookie (Unknown d) a b
  shows_unknown x = record { doings = no_doings; went = x.idle; did = λ item. (x.saw, ((λ u. refl), refl)) }

  -- A READ

  pub read_answered : {pair : Pair} {cookie : Cookie} {reply : Reply} {a b : Sight} → ShowsAs settings start drained tag (start_of settings tag) pair cookie reply a b
      → IsAnswered settings start drained tag (command.Read pair cookie) reply a b
  read_answered {pair} {cookie} {reply} x = record { doings = x.doings; work = work_of x.went; did = x.did (line_of tag (asks.Command (command.Read pair cookie)) reply) }

  -- A GET

  module _ (url : UrlParts) {first : ℕ} (there : replica_on settings url.volume url.machine ≡ Some first) (a b : Sight) where
    abbrev AsGet : Reply → Type 0
    AsGet reply = ShowsAs settings start drained tag first url.pair url.cookie reply a b

    abbrev Got : Reply → Type 0
    Got reply = IsAnswered settings start drained tag (command.Get url) reply a b

    -- what was done there is what the line did
    got_as : (reply : Reply) (x : AsGet reply) → GetDidHere settings start drained (line_of tag (asks.Command (command.Get url)) reply) a b x.doings url (Some first) reply → Got reply
    got_as reply x did = record {
      doings = x.doings;
      work = work_of x.went;
      did = subst (λ o. GetDidHere settings start drained (line_of tag (asks.Command (command.Get url)) reply) a b x.doings url o reply) (sym there) did;
    }

    abbrev asked : Reply → LaneItem
    asked reply = line_of tag (asks.Command (command.Get url)) reply

    pub get_photo : {v m p d : ℕ} {bytes : List ℕ} → v ≡ url.volume → AsGet (Photo v m p d bytes) → Got (Photo v m p d bytes)
    get_photo {v} {m} {p} {d} {bytes} at x = let reply : Reply = Photo v m p d bytes in got_as reply x (x.did (asked reply), at)

    pub get_gone : {v m p d : ℕ} → v ≡ url.volume → AsGet (Gone v m p d) → Got (Gone v m p d)
    get_gone {v} {m} {p} {d} at x = let reply : Reply = Gone v m p d in got_as reply x (x.did (asked reply), at)

    pub get_wrong_cookie : {v m p d : ℕ} → v ≡ url.volume → AsGet (WrongCookie v m p d) → Got (WrongCookie v m p d)
    get_wrong_cookie {v} {m} {p} {d} at x = let reply : Reply = WrongCookie v m p d in got_as reply x (x.did (asked reply), at)

    pub get_unreadable : {v p d : ℕ} {passed : List Passed} → v ≡ url.volume → AsGet (Unreadable v p d passed) → Got (Unreadable v p d passed)
    get_unreadable {v} {p} {d} {passed} at x = let reply : Reply = Unreadable v p d passed in got_as reply x (x.did (asked reply), at)

    pub get_unknown : {d : ℕ} → AsGet (Unknown d) → Got (Unknown d)
    get_unknown {d} x = got_as (Unknown d) x (x.did (asked (Unknown d)), tt)

    pub get_moved : {v d : ℕ} → v ≢ url.volume → Sees settings start drained tag url.pair d (Some v) a b → Got (Moved v d)
    get_moved {v} {d} differs x = record {
      doings = no_doings;
      work = work_of x.idle;
      did = subst (λ o. GetDidHere settings start drained (asked (Moved v d)) a b no_doings url o (Moved v d)) (sym there) (x.saw, differs, ((λ u. refl), refl));
    }
