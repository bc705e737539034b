-- What a step of a compaction found and did, as a step of a lane.
use Rattle.std.proofs.Common.{◌≡◌, ℕ, ◌<◌, ◌≤◌, List, Option, Some, None, refl, sym, ap, subst, ◌∙◌, arith}
use Rattle.std.specs.Prelude.{false, true, slice_index_or, min, IfSome}
use Rattle.std.proofs.lemmas.Option.{none-some}
use Rattle.hay_core.specs.declared.entry.CoreTag.{CoreTag}
use Rattle.hay_core.specs.declared.entry.Entry.{Entry}
use Rattle.hay_disk.specs.Disk.{Files}
use Rattle.hay_legal.specs.declared.known.Run.{Run}
use Rattle.hay_legal.specs.declared.known.VolumeKnown.{VolumeKnown}
use Rattle.hay_legal.specs.Known.{machine_of, replica_at, with_replica}
use Rattle.hay_legal.specs.Plain.{stepped, with_run, without_run}
use Rattle.hay_history.specs.LaneSteps.{Standing}
use Rattle.hay_history.specs.LaneSteps.Did.{Examines, Tries}
use Rattle.hay_logical.specs.Answers as logical
use Rattle.hay_logical.specs.declared.fault.LogicalFault.{LogicalFault}
use Rattle.hay_logical.specs.declared.fault.LogicalFault.TheVariants.{Busy, Damaged, Failed, Full, Gone, Idle, NoMemory, ReadOnly, Worn}
use Rattle.hay_logical.specs.Fits.{At}
use Rattle.hay_logical.specs.Stands.{IsTightAt, Stands}
use Rattle.hay_meeting.specs.declared.act.VolumeAct.{VolumeAct}
use Rattle.hay_meeting.specs.Acts.{begun_of, did_of, examined_by, known_by, nobody, volume_lock}
use Rattle.hay_meeting.specs.Locks.{LockSight}
use Rattle.hay_meeting.specs.Sights.{stood}
use Rattle.hay_holdings.specs.Holdings.{Holding}
use Rattle.hay_holdings.specs.Volumes.{FailedAct, HasRunOf}
use Rattle.hay_holdings.specs.Volumes as calls
use Rattle.hay_physical.specs.OpenCopies.{Copy}
use Rattle.hay_volume_lock.specs.Acts.{act_of, did_by}
use Rattle.hay_volume_lock.specs.Answers.{Found, FoundAlways, IsAt, StoreVolume}
use Rattle.hay_volume_lock.specs.Compactions.{FailedHere, IsBarred, MayGoOn, OfLane, StepAnswer, StepHalted, StepStops, StillGoes, halted_made, step_made, stopped_made}
use Rattle.hay_volume_lock.specs.Compactions as steps
use Rattle.hay_volume_lock.specs.Ended.{ended_at}
use Rattle.hay_volume_lock.specs.Keeping.{GoesOn, IsKept, stood_of}
use Rattle.hay_volume_lock.specs.declared.act.Made.{Made}
use Rattle.hay_volume_lock.specs.declared.act.Made.TheVariants as made_is
use Rattle.hay_volume_lock.specs.declared.compactions.Examined.{Examined}
use Rattle.hay_volume_lock.specs.declared.guarded.Guarded.{Guarded}
use Rattle.hay_volume_lock.specs.declared.guarded.Opened.{Opened}
use Rattle.hay_volume_lock.proofs.Finding.{failed_act, on_machine}
use Rattle.hay_volume_lock.proofs.Growing.{FusesStay, IsOfOne, LeadsFusesOf, TightStays, ended_there, ends_none, goes_more, no_fuse, tight_ended, tight_still}
use Rattle.hay_volume_lock.proofs.Holding.{stood_is}

module _ {D P : Type 0} (Tells : Type 0) (files : D → Files) (PieceTells : Type 0) (faults fuses : D → ℕ) (tag : CoreTag) (old : Guarded D P) where
  -- the line that began the compaction of replica j
  abbrev owner : ℕ → CoreTag
  owner j = slice_index_or old.begun j nobody

  abbrev Stood : VolumeKnown → Type 0
  Stood k = Stands files PieceTells old.logical k

  abbrev Kept : Opened D P → List VolumeAct → Type 0
  Kept opened held = IsKept Tells files PieceTells faults fuses opened held old

  -- WHERE NONE GOES ON

  module _ (j : ℕ) (within : j < ((old.logical).settings).replicas) where
    owner_is : (opened : Opened D P) (held : List VolumeAct) → Kept opened held → owner j ≡ begun_of j nobody held
    owner_is opened held h = h.begun j (subst (λ s. j < s.replicas) h.same_settings within)

    pub barred_found : (n cells : ℕ) (fault : LogicalFault) → (Tells → (k : VolumeKnown) → Stood k → IsBarred k j tag.lane (owner j) fault)
        → Found Tells files PieceTells faults fuses tag old None (λ volume. StepHalted volume tag j cells n fault)
    barred_found n cells fault known opened held h tells k s volume at a b holding =
        found fault (known tells (stood_of faults fuses opened k held).volume (h.stands tells k s))
      where
        there : stood_of faults fuses opened k held ≡ stood volume.start volume.number held
        there = stood_is faults fuses opened k volume held at

        found : (fault : LogicalFault) → IsBarred (stood_of faults fuses opened k held).volume j tag.lane (owner j) fault → StepHalted volume tag j cells n fault a b
        found (ReadOnly m) is = record { held = held; made = None; holding = holding; is = (refl, sym (ap (λ (z : Standing). (z.volume).frozen) there) ∙ is) }
        found Idle is = record {
          held = held;
          made = None;
          holding = holding;
          is = (
            refl,
            sym (ap (λ (z : Standing). (z.volume).frozen) there) ∙ is.0,
            λ who lane has. none-some has.run
                (sym (is.1 (ap (λ (t : CoreTag). t.lane) (owner_is opened held h ∙ has.begun) ∙ lane))
                ∙ ap (λ (z : Standing). (replica_at z.volume j).run) there ∙ has.stands),
          );
        }
        found NoMemory is = absurd is
        found (Failed m f) is = absurd is
        found (Damaged m place) is = absurd is
        found (Full m end need capacity) is = absurd is
        found (Gone front) is = absurd is
        found (Busy m g) is = absurd is
        found (Worn m) is = absurd is

    -- WHERE ONE GOES ON

    module _ (new : Guarded D P) (of : IsOfOne faults old new) (stay : FusesStay fuses old new) (begun : new.begun ≡ old.begun) (ended : new.ended ≡ old.ended) (own : (owner j).lane ≡ tag.lane)
        (may : Tells → (k : VolumeKnown) → Stood k → MayGoOn k j tag.lane (owner j))
        (others : (i : ℕ) → (i ≡ j → ⊥) → (r r' : Copy D) → At (old.logical).replicas i r → At (new.logical).replicas i r' → r' ≡ r) where
      abbrev Goes : Option VolumeAct → Type 0
      Goes made = GoesOn Tells files PieceTells faults fuses tag old new made

      abbrev Behind : Made → VolumeAct → Type 0
      Behind made act = act ≡ act_of faults fuses tag made (new.logical).replicas

      with_begun : (i : ℕ) → i < (old.settings).replicas → slice_index_or new.begun i nobody ≡ slice_index_or old.begun i nobody
      with_begun i less = ap (λ (l : List CoreTag). slice_index_or l i nobody) begun

      none_set : LeadsFusesOf fuses old new Tries
      none_set = no_fuse Tells files PieceTells faults fuses tag old new of stay

      -- it examined cells
      examines : (n : ℕ) → (Tells → (k : VolumeKnown) → Stood k → TightStays files old new)
          → (Tells → (k : VolumeKnown) → Stood k → (run : Run) × ((replica_at k j).run ≡ Some run) × (n ≤ run.left) × logical.StandsStepped files PieceTells k j run n new.logical)
          → (act : VolumeAct) → Behind (made_is.Examines j n) act → Goes (Some act)
      examines n tight told act is = goes_more Tells files PieceTells faults fuses tag old new (made_is.Examines j n) of none_set refl
          (λ tells before s.
          let t = told tells before.volume s in
          let same : known_by tag (did_by (made_is.Examines j n)) before.volume ≡ logical.change_at before.volume j (with_run (stepped n t.0)) =
          ap (λ (o : Option Run). with_replica before.volume j (examined_by n o (replica_at before.volume j))) t.1 in record {
            leads = ((may tells before.volume s).thawed, within, (t.0, t.1, t.2, same));
            stands = subst (λ (z : VolumeKnown). Stands files PieceTells new.logical z) (sym same) t.3;
            tight = tight_still files tag (made_is.Examines j n) old new before (λ i begins. absurd (cc begins)) (tight tells before.volume s);
          })
          with_begun (ends_none Tells files PieceTells old new (act_of faults fuses tag (made_is.Examines j n) (new.logical).replicas) (λ i. refl) (λ i none. none) ended) act is

      -- the compaction ended
      ends_run : (Tells → (k : VolumeKnown) → Stood k → Stands files PieceTells new.logical (logical.change_at k j without_run)) → (act : VolumeAct) → Behind (made_is.Ends j) act → Goes (Some act)
      ends_run told act is = goes_more Tells files PieceTells faults fuses tag old new (made_is.Ends j) of none_set refl
          (λ tells before s. let m = may tells before.volume s in record {
            leads = (m.thawed, within, m.stands, refl);
            stands = told tells before.volume s;
            tight =
                tight_ended files tag (made_is.Ends j) old new before j of.count (λ thawed. others) (λ i begins. absurd (cc begins))
                (ended_there files PieceTells old.logical before.volume s j within without_run (λ r. refl));
          })
          with_begun (record {
            ended = λ i lane less few. ap (λ l. ended_at l i lane) ended;
            owned = λ i less same. subst (λ (n : ℕ). tag.lane ≡ (owner n).lane) same (sym own);
            cuts = λ tells before s i wrong. absurd (let not : false ≡ true = wrong in cc not);
          }) act is

      tries : (Tells → (k : VolumeKnown) → Stood k → ⊥) → (act : VolumeAct) → Behind made_is.Tries act → Goes (Some act)
      tries never act is = goes_more Tells files PieceTells faults fuses tag old new made_is.Tries of none_set refl
          (λ tells before s. absurd (never tells before.volume s)) with_begun
          (ends_none Tells files PieceTells old new (act_of faults fuses tag made_is.Tries (new.logical).replicas) (λ i. refl) (λ i none. none) ended) act is

      module _ (n cells : ℕ) (act : VolumeAct) where
        -- unless it ended, it is as tight as it was
        abbrev Tight : Option LogicalFault → Type 0
        Tight refused = Tells → (k : VolumeKnown) (run : Run) → Stood k → k.frozen ≡ None → (replica_at k j).run ≡ Some run → StillGoes refused
            → (i : ℕ) → IsTightAt files old.logical i → IsTightAt files new.logical i

        tight_at : (refused : Option LogicalFault) → Tight refused → StillGoes refused → Tells → (k : VolumeKnown) → Stood k → TightStays files old new
        tight_at refused tight still tells k s thawed = let m = may tells k s in tight tells k (m.stands).0 s m.thawed (m.stands).1 still

        abbrev Told : Option LogicalFault → Type 0
        Told refused = Tells → (k : VolumeKnown) (run : Run) → Stood k → k.frozen ≡ None → (replica_at k j).run ≡ Some run
            → steps.Examines files PieceTells k j run cells old.logical new.logical n refused

        -- as it stood
        told_at : (refused : Option LogicalFault) → Told refused → (tells : Tells) (k : VolumeKnown) (s : Stood k)
            → steps.Examines files PieceTells k j ((may tells k s).stands).0 cells old.logical new.logical n refused
        told_at refused told tells k s = let m = may tells k s in told tells k (m.stands).0 s m.thawed (m.stands).1

        halted_goes : (fault : LogicalFault) → Tight (Some fault) → Told (Some fault) → Behind (halted_made j n fault) act → Goes (Some act)
        halted_goes NoMemory tight told is =
            examines n (tight_at (Some NoMemory) tight tt) (λ tells k s. let t = told_at (Some NoMemory) told tells k s in let m = (may tells k s).stands in let few = t.0 in
            (m.0, m.1, (let less : n ≤ (m.0).left = omega (arith, few) in less), t.1)) act is
        halted_goes (Failed m f) tight told is = ends_run (λ tells k s. (told_at (Some (Failed m f)) told tells k s).1) act is
        halted_goes (Damaged m place) tight told is = ends_run (λ tells k s. absurd (told_at (Some (Damaged m place)) told tells k s)) act is
        halted_goes (ReadOnly m) tight told is = tries (told_at (Some (ReadOnly m)) told) act is
        halted_goes Idle tight told is = tries (told_at (Some Idle) told) act is
        halted_goes (Full m end need capacity) tight told is = tries (told_at (Some (Full m end need capacity)) told) act is
        halted_goes (Gone front) tight told is = tries (told_at (Some (Gone front)) told) act is
        halted_goes (Busy m g) tight told is = tries (told_at (Some (Busy m g)) told) act is
        halted_goes (Worn m) tight told is = tries (told_at (Some (Worn m)) told) act is

        stopped_goes : (refused : Option LogicalFault) → Tight refused → Told refused → Behind (stopped_made j n refused) act → Goes (Some act)
        stopped_goes None tight told is =
            examines n (tight_at None tight tt) (λ tells k s. let t = told_at None told tells k s in let m = (may tells k s).stands in let few = t.0 in
            (m.0, m.1, (let less : n ≤ (m.0).left = omega (arith, few) in less), t.1)) act is
        stopped_goes (Some fault) tight told is = halted_goes fault tight told is

        -- WHAT IT FOUND

        module _ (goes : Goes (Some act)) (opened : Opened D P) (held : List VolumeAct) (h : Kept opened held) (k : VolumeKnown) (volume : StoreVolume) (at : IsAt faults fuses opened k volume) where
          failed_now : (m f : ℕ) → logical.IsRunFault faults (old.logical).settings (old.logical).number j (old.logical).replicas (new.logical).replicas (Failed m f)
              → (m ≡ machine_of volume.settings volume.number j) × FailedAct volume.settings volume.start volume.number j f held (Some act)
          failed_now m f cause = (
            on_machine Tells files PieceTells faults fuses tag old new opened held k volume h at m j cause.0,
            failed_act Tells files PieceTells faults fuses tag old new act goes j m f within cause.0 cause.1 opened held h k volume at,
          )

          module _ (tells : Tells) (s : Stands files PieceTells opened.volume k) (a b : LockSight VolumeAct Entry) (holding : Holding volume_lock tag held (Some act) a b) where
            abbrev now_known : VolumeKnown
            now_known = (stood_of faults fuses opened k held).volume

            now_stands : Stood now_known
            now_stands = h.stands tells k s

            there : stood_of faults fuses opened k held ≡ stood volume.start volume.number held
            there = stood_is faults fuses opened k volume held at

            who : CoreTag
            who = begun_of j nobody held

            who_lane : (begun_of j nobody held).lane ≡ tag.lane
            who_lane = sym (ap (λ (t : CoreTag). t.lane) (owner_is opened held h)) ∙ own

            abbrev found_run : HasRunOf volume.settings volume.start volume.number j (begun_of j nobody held) held
            found_run = record {
              run = ((may tells now_known now_stands).stands).0;
              stands = sym (ap (λ (z : Standing). (replica_at z.volume j).run) there) ∙ ((may tells now_known now_stands).stands).1;
              begun = refl;
            }

            stepped_as : (AsMany : ℕ → Type 0) → did_of act.did ≡ Examines j n → AsMany (((may tells now_known now_stands).stands).0).left
                → OfLane volume tag (λ who. calls.Stepped volume.settings volume.start volume.number tag j who n AsMany) a b
            stepped_as AsMany did many = (begun_of j nobody held, who_lane, record { held = held; made = Some act; holding = holding; is = (did, (found_run, many)) })

            halted_as : (fault : LogicalFault) → Told (Some fault) → logical.IsRunFault faults (old.logical).settings (old.logical).number j (old.logical).replicas (new.logical).replicas fault
                → Behind (halted_made j n fault) act → StepHalted volume tag j cells n fault a b
            halted_as NoMemory told cause is = stepped_as (λ left. n ≤ min cells left) (ap (λ (z : VolumeAct). did_of z.did) is) (told_at (Some NoMemory) told tells now_known now_stands).0
            halted_as (Failed m f) told cause is =
                let failed = failed_now m f cause in (
                  failed.0,
                  (begun_of j nobody held, who_lane, record { held = held; made = Some act; holding = holding; is = (ap (λ (z : VolumeAct). did_of z.did) is, found_run, failed.1) }),
                )
            halted_as (Damaged m place) told cause is = absurd (told_at (Some (Damaged m place)) told tells now_known now_stands)
            halted_as (ReadOnly m) told cause is = absurd (told_at (Some (ReadOnly m)) told tells now_known now_stands)
            halted_as Idle told cause is = absurd (told_at (Some Idle) told tells now_known now_stands)
            halted_as (Full m end need capacity) told cause is = absurd (told_at (Some (Full m end need capacity)) told tells now_known now_stands)
            halted_as (Gone front) told cause is = absurd (told_at (Some (Gone front)) told tells now_known now_stands)
            halted_as (Busy m g) told cause is = absurd (told_at (Some (Busy m g)) told tells now_known now_stands)
            halted_as (Worn m) told cause is = absurd (told_at (Some (Worn m)) told tells now_known now_stands)

            stopped_as : (refused : Option LogicalFault) → Told refused
                → IfSome refused (logical.IsRunFault faults (old.logical).settings (old.logical).number j (old.logical).replicas (new.logical).replicas)
                → Behind (stopped_made j n refused) act → StepStops volume tag j cells n refused a b
            stopped_as None told cause is = stepped_as (λ left. n ≡ min cells left) (ap (λ (z : VolumeAct). did_of z.did) is) (told_at None told tells now_known now_stands).0
            stopped_as (Some fault) told cause is = halted_as fault told cause is

      -- a step goes on, and is found to be one
      pub step_goes : (cells : ℕ) (examined : Examined) (act : VolumeAct) → Tight examined.cells cells act examined.refused → Told examined.cells cells act examined.refused
          → Behind (step_made j examined) act → Goes (Some act)
      step_goes cells examined act tight told is = stopped_goes examined.cells cells act examined.refused tight told is

      pub step_found : (cells : ℕ) (examined : Examined) (act : VolumeAct) → Tight examined.cells cells act examined.refused → Told examined.cells cells act examined.refused
          → IfSome examined.refused (logical.IsRunFault faults (old.logical).settings (old.logical).number j (old.logical).replicas (new.logical).replicas)
          → Behind (step_made j examined) act → Found Tells files PieceTells faults fuses tag old (Some act) (λ volume. StepAnswer volume tag j cells examined)
      step_found cells examined act tight told cause is opened held h tells k s volume at a b holding =
          stopped_as examined.cells cells act (step_goes cells examined act tight told is) opened held h k volume at tells s a b holding examined.refused told cause is

      pub step_failed : (cells : ℕ) (examined : Examined) (act : VolumeAct) → Tight examined.cells cells act examined.refused → Told examined.cells cells act examined.refused
          → IfSome examined.refused (logical.IsRunFault faults (old.logical).settings (old.logical).number j (old.logical).replicas (new.logical).replicas)
          → Behind (step_made j examined) act → (m f : ℕ) → examined.refused ≡ Some (Failed m f)
          → FoundAlways Tells files PieceTells faults fuses tag old (Some act) (λ volume. FailedHere volume tag j m f)
      step_failed cells examined act tight told cause is m f fault opened held h k volume at a b holding =
          let failed = failed_now examined.cells cells act (step_goes cells examined act tight told is) opened held h k volume at m f
          (subst (λ (o : Option LogicalFault). IfSome o (logical.IsRunFault faults (old.logical).settings (old.logical).number j (old.logical).replicas (new.logical).replicas)) fault cause) in
          (failed.0, record { held = held; made = Some act; holding = holding; is = failed.1 })
