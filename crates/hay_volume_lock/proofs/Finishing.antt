-- What a compaction that did not end with a swap is found to be, as a step of a lane.
use Rattle.std.proofs.Common.{◌≡◌, inl, inr, ℕ, ◌<◌, List, Option, Some, None, refl, sym, ap, subst, ◌∙◌}
use Rattle.std.specs.Prelude.{false, true, slice_index_or}
use Rattle.std.proofs.lemmas.Option.{none-some}
use Rattle.hay_core.specs.declared.entry.CoreTag.{CoreTag}
use Rattle.hay_core.specs.declared.entry.Entry.{Entry}
use Rattle.hay_disk.specs.Disk.{Files}
use Rattle.hay_legal.specs.declared.known.VolumeKnown.{VolumeKnown}
use Rattle.hay_legal.specs.Known.{machine_of, replica_at}
use Rattle.hay_legal.specs.Plain.{without_run}
use Rattle.hay_history.specs.LaneSteps.{Standing}
use Rattle.hay_history.specs.LaneSteps.Did.{Tries}
use Rattle.hay_logical.specs.Answers as logical
use Rattle.hay_logical.specs.declared.fault.LogicalFault.{LogicalFault}
use Rattle.hay_logical.specs.declared.fault.LogicalFault.TheVariants.{Busy, Damaged, Failed, Full, Gone, Idle, NoMemory, ReadOnly, Worn}
use Rattle.hay_logical.specs.Fits.{At}
use Rattle.hay_logical.specs.Stands.{Stands}
use Rattle.hay_logical.specs.Volumes.{Volume}
use Rattle.hay_meeting.specs.declared.act.VolumeAct.{VolumeAct}
use Rattle.hay_meeting.specs.Acts.{begun_of, did_of, nobody, volume_lock}
use Rattle.hay_meeting.specs.Locks.{LockSight}
use Rattle.hay_meeting.specs.Sights.{stood}
use Rattle.hay_holdings.specs.Holdings.{Holding}
use Rattle.hay_holdings.specs.Volumes.{FailedAct, HasRunOf}
use Rattle.hay_physical.specs.OpenCopies.{Copy}
use Rattle.hay_volume_lock.specs.Acts.{act_of}
use Rattle.hay_volume_lock.specs.Answers.{Found, FoundAlways, IsAt, StoreVolume}
use Rattle.hay_volume_lock.specs.Compactions.{FailedHere, MayGoOn, Unswapped, unswapped_made}
use Rattle.hay_volume_lock.specs.Ended.{ended_at}
use Rattle.hay_volume_lock.specs.Keeping.{GoesOn, IsKept, stood_of}
use Rattle.hay_volume_lock.specs.declared.act.Made.{Made}
use Rattle.hay_volume_lock.specs.declared.act.Made.TheVariants as made_is
use Rattle.hay_volume_lock.specs.declared.guarded.Guarded.{Guarded}
use Rattle.hay_volume_lock.specs.declared.guarded.Opened.{Opened}
use Rattle.hay_volume_lock.proofs.Finding.{failed_act, on_machine}
use Rattle.hay_volume_lock.proofs.Growing.{FusesStay, IsOfOne, LeadsFusesOf, ended_there, ends_none, goes_more, no_fuse, tight_ended, tight_frozen}
use Rattle.hay_volume_lock.proofs.Holding.{stood_is}

some_is : {A : Type 0} {a b : A} → Some a ≡ Some b → a ≡ b
some_is same = cc same

-- it is known by which machine a volume is frozen
pub frozen_known : {D P : Type 0} (files : D → Files) (Tells : Type 0) (volume : Volume D P) (k : VolumeKnown) → Stands files Tells volume k → k.frozen ≡ volume.frozen
unfolding Stands
frozen_known files Tells volume k stands = stands.frozen

module _ {D P : Type 0} (Tells : Type 0) (files : D → Files) (PieceTells : Type 0) (faults fuses : D → ℕ) (tag : CoreTag) (old new : Guarded D P) (j : ℕ)
    (within : j < ((old.logical).settings).replicas)
    (of : IsOfOne faults old new) (stay : FusesStay fuses old new) (begun : new.begun ≡ old.begun) (ended : new.ended ≡ old.ended)
    (others : (new.logical).frozen ≡ (old.logical).frozen → (i : ℕ) → (i ≡ j → ⊥) → (r r' : Copy D) → At (old.logical).replicas i r → At (new.logical).replicas i r' → r' ≡ r) where
  abbrev owner : ℕ → CoreTag
  owner i = slice_index_or old.begun i nobody

  abbrev Stood : VolumeKnown → Type 0
  Stood k = Stands files PieceTells old.logical k

  abbrev Kept : Opened D P → List VolumeAct → Type 0
  Kept opened held = IsKept Tells files PieceTells faults fuses opened held old

  abbrev Goes : Option VolumeAct → Type 0
  Goes made = GoesOn Tells files PieceTells faults fuses tag old new made

  abbrev Behind : Made → VolumeAct → Type 0
  Behind made act = act ≡ act_of faults fuses tag made (new.logical).replicas

  module _ (own : (owner j).lane ≡ tag.lane) (may : Tells → (k : VolumeKnown) → Stood k → MayGoOn k j tag.lane (owner j)) where
    with_begun : (i : ℕ) → i < (old.settings).replicas → slice_index_or new.begun i nobody ≡ slice_index_or old.begun i nobody
    with_begun i less = ap (λ (l : List CoreTag). slice_index_or l i nobody) begun

    none_set : LeadsFusesOf fuses old new Tries
    none_set = no_fuse Tells files PieceTells faults fuses tag old new of stay

    -- the compaction ended
    pub ends_run : (Tells → (k : VolumeKnown) → Stood k → Stands files PieceTells new.logical (logical.change_at k j without_run)) → (act : VolumeAct) → Behind (made_is.Ends j) act → Goes (Some act)
    ends_run told act is = goes_more Tells files PieceTells faults fuses tag old new (made_is.Ends j) of none_set refl
        (λ tells before s. let m = may tells before.volume s in record {
          leads = (m.thawed, within, m.stands, refl);
          stands = told tells before.volume s;
          tight = tight_ended files tag (made_is.Ends j) old new before j of.count (λ thawed. others (thawed ∙ sym (of.thawed thawed))) (λ i begins. absurd (cc begins))
              (ended_there files PieceTells old.logical before.volume s j within without_run (λ r. refl));
        })
        with_begun (record {
          ended = λ i lane less few. ap (λ l. ended_at l i lane) ended;
          owned = λ i less same. subst (λ (n : ℕ). tag.lane ≡ (owner n).lane) same (sym own);
          cuts = λ tells before s i wrong. absurd (let not : false ≡ true = wrong in cc not);
        }) act is

    -- the head may name either generation
    poises : (m : ℕ) → (Tells → (k : VolumeKnown) → Stood k → Stands files PieceTells new.logical (logical.poised_at m k j)) → (act : VolumeAct) → Behind (made_is.Poises m j) act → Goes (Some act)
    poises m told act is = goes_more Tells files PieceTells faults fuses tag old new (made_is.Poises m j) of none_set refl
        (λ tells before s. let may = may tells before.volume s in let poised_known = told tells before.volume s in record {
          leads = (may.thawed, within, may.stands, refl);
          stands = poised_known;
          tight = tight_frozen files tag (made_is.Poises m j) old new before m (sym (frozen_known files PieceTells new.logical (logical.poised_at m before.volume j) poised_known));
        })
        with_begun (ends_none Tells files PieceTells old new (act_of faults fuses tag (made_is.Poises m j) (new.logical).replicas) (λ i. refl) (λ i none. none) ended) act is

    tries : (Tells → (k : VolumeKnown) → Stood k → ⊥) → (act : VolumeAct) → Behind made_is.Tries act → Goes (Some act)
    tries never act is = goes_more Tells files PieceTells faults fuses tag old new made_is.Tries of none_set refl
        (λ tells before s. absurd (never tells before.volume s)) with_begun
        (ends_none Tells files PieceTells old new (act_of faults fuses tag made_is.Tries (new.logical).replicas) (λ i. refl) (λ i none. none) ended) act is

    -- by which machine it is frozen tells which of the two a failure left
    left_thawed : (m : ℕ) (k : VolumeKnown) → (new.logical).frozen ≡ None → logical.StandsFailed files PieceTells m k j new.logical
        → Stands files PieceTells new.logical (logical.change_at k j without_run)
    left_thawed m k thawed (inl stands) = stands
    left_thawed m k thawed (inr poised) = absurd (none-some m (sym thawed ∙ sym (frozen_known files PieceTells new.logical (logical.poised_at m k j) poised)))

    left_frozen : (m machine : ℕ) (k : VolumeKnown) → k.frozen ≡ None → (new.logical).frozen ≡ Some machine → logical.StandsFailed files PieceTells m k j new.logical
        → Stands files PieceTells new.logical (logical.poised_at machine k j)
    left_frozen m machine k thawed is (inl stands) =
        absurd (none-some machine (sym thawed ∙ frozen_known files PieceTells new.logical (logical.change_at k j without_run) stands ∙ is))
    left_frozen m machine k thawed is (inr poised) =
        let same : m ≡ machine = some_is (frozen_known files PieceTells new.logical (logical.poised_at m k j) poised ∙ is) in
        subst (λ (n : ℕ). Stands files PieceTells new.logical (logical.poised_at n k j)) same poised

    poised_by : (m machine : ℕ) (k : VolumeKnown) → k.frozen ≡ None → (new.logical).frozen ≡ Some machine → logical.StandsFailed files PieceTells m k j new.logical → machine ≡ m
    poised_by m machine k thawed is (inl stands) =
        absurd (none-some machine (sym thawed ∙ frozen_known files PieceTells new.logical (logical.change_at k j without_run) stands ∙ is))
    poised_by m machine k thawed is (inr poised) = sym (some_is (frozen_known files PieceTells new.logical (logical.poised_at m k j) poised ∙ is))

    -- A REFUSAL

    module _ (frozen : Option ℕ) (frozen_is : (new.logical).frozen ≡ frozen) where
      abbrev Told : LogicalFault → Type 0
      Told fault = Tells → (k : VolumeKnown) → Stood k → logical.FinishRefused files PieceTells k j old.logical new.logical fault

      -- it is neither frozen nor without a compaction
      not_frozen : (m : ℕ) → Told (ReadOnly m) → Tells → (k : VolumeKnown) → Stood k → ⊥
      not_frozen m told tells k s = none-some m (sym (may tells k s).thawed ∙ (told tells k s).0)

      not_idle : Told Idle → Tells → (k : VolumeKnown) → Stood k → ⊥
      not_idle told tells k s = let stands = (may tells k s).stands in none-some stands.0 (sym (told tells k s).1 ∙ stands.1)

      unswapped_goes : (fault : LogicalFault) (o : Option ℕ) → (new.logical).frozen ≡ o → Told fault → (act : VolumeAct) → Behind (unswapped_made j fault o) act → Goes (Some act)
      unswapped_goes (Failed m f) None is told act behind = ends_run (λ tells k s. left_thawed m k is (told tells k s).3) act behind
      unswapped_goes (Failed m f) (Some machine) is told act behind = poises machine (λ tells k s. left_frozen m machine k (may tells k s).thawed is (told tells k s).3) act behind
      unswapped_goes NoMemory o is told act behind = ends_run (λ tells k s. (told tells k s).2) act behind
      unswapped_goes (Damaged m place) o is told act behind = ends_run (λ tells k s. absurd (told tells k s)) act behind
      unswapped_goes (ReadOnly m) o is told act behind = tries (not_frozen m told) act behind
      unswapped_goes Idle o is told act behind = tries (not_idle told) act behind
      unswapped_goes (Full m end need capacity) o is told act behind = tries told act behind
      unswapped_goes (Gone front) o is told act behind = tries told act behind
      unswapped_goes (Busy m g) o is told act behind = tries told act behind
      unswapped_goes (Worn m) o is told act behind = tries told act behind

      module _ (act : VolumeAct) (goes : Goes (Some act)) (opened : Opened D P) (held : List VolumeAct) (h : Kept opened held) (k : VolumeKnown) (volume : StoreVolume)
          (at : IsAt faults fuses opened k volume) where
        failed_now : (m f : ℕ) → logical.IsRunFault faults (old.logical).settings (old.logical).number j (old.logical).replicas (new.logical).replicas (Failed m f)
            → (m ≡ machine_of volume.settings volume.number j) × FailedAct volume.settings volume.start volume.number j f held (Some act)
        failed_now m f cause = (
          on_machine Tells files PieceTells faults fuses tag old new opened held k volume h at m j cause.0,
          failed_act Tells files PieceTells faults fuses tag old new act goes j m f within cause.0 cause.1 opened held h k volume at,
        )

        module _ (tells : Tells) (s : Stands files PieceTells opened.volume k) (a b : LockSight VolumeAct Entry) (holding : Holding volume_lock tag held (Some act) a b) where
          abbrev now_known : VolumeKnown
          now_known = (stood_of faults fuses opened k held).volume

          now_stands : Stood now_known
          now_stands = h.stands tells k s

          there : stood_of faults fuses opened k held ≡ stood volume.start volume.number held
          there = stood_is faults fuses opened k volume held at

          owner_is : owner j ≡ begun_of j nobody held
          owner_is = h.begun j (subst (λ z. j < z.replicas) h.same_settings within)

          found_run : HasRunOf volume.settings volume.start volume.number j (owner j) held
          found_run = record {
            run = ((may tells now_known now_stands).stands).0;
            stands = sym (ap (λ (z : Standing). (replica_at z.volume j).run) there) ∙ ((may tells now_known now_stands).stands).1;
            begun = sym owner_is;
          }

          unswapped_as : (fault : LogicalFault) (o : Option ℕ) → (new.logical).frozen ≡ o → Told fault
              → logical.IsRunFault faults (old.logical).settings (old.logical).number j (old.logical).replicas (new.logical).replicas fault
              → Behind (unswapped_made j fault o) act → Unswapped volume tag j fault o (owner j) a b
          unswapped_as (Failed m f) None frozen_as told cause is =
              let failed = failed_now m f cause in
              (failed.0, record { held = held; made = Some act; holding = holding; is = (ap (λ (z : VolumeAct). did_of z.did) is, found_run, failed.1) })
          unswapped_as (Failed m f) (Some machine) frozen_as told cause is =
              let failed = failed_now m f cause in
              let r = told tells now_known now_stands in (
                (failed.0, poised_by m machine now_known r.0 frozen_as r.3),
                record {
                  held = held;
                  made = Some act;
                  holding = holding;
                  is = (ap (λ (z : VolumeAct). did_of z.did) is, found_run, failed.1);
                },
              )
          unswapped_as NoMemory o frozen_as told cause is = record { held = held; made = Some act; holding = holding; is = (ap (λ (z : VolumeAct). did_of z.did) is, found_run) }
          unswapped_as (Damaged m place) o frozen_as told cause is = absurd (told tells now_known now_stands)
          unswapped_as (ReadOnly m) o frozen_as told cause is = absurd (not_frozen m told tells now_known now_stands)
          unswapped_as Idle o frozen_as told cause is = absurd (not_idle told tells now_known now_stands)
          unswapped_as (Full m end need capacity) o frozen_as told cause is = absurd (told tells now_known now_stands)
          unswapped_as (Gone front) o frozen_as told cause is = absurd (told tells now_known now_stands)
          unswapped_as (Busy m g) o frozen_as told cause is = absurd (told tells now_known now_stands)
          unswapped_as (Worn m) o frozen_as told cause is = absurd (told tells now_known now_stands)

      module _ (fault : LogicalFault) (act : VolumeAct) (told : Told fault)
          (cause : logical.IsRunFault faults (old.logical).settings (old.logical).number j (old.logical).replicas (new.logical).replicas fault) (is : Behind (unswapped_made j fault frozen) act) where
        -- it goes on, and is found to be one of these
        pub refused_goes : Goes (Some act)
        refused_goes = unswapped_goes fault frozen frozen_is told act is

        pub refused_found : Found Tells files PieceTells faults fuses tag old (Some act) (λ volume. Unswapped volume tag j fault frozen (owner j))
        refused_found opened held h tells k s volume at a b holding = unswapped_as act refused_goes opened held h k volume at tells s a b holding fault frozen frozen_is told cause is

        pub refused_failed : (m f : ℕ) → fault ≡ Failed m f → FoundAlways Tells files PieceTells faults fuses tag old (Some act) (λ volume. FailedHere volume tag j m f)
        refused_failed m f same opened held h k volume at a b holding =
            let failed = failed_now act refused_goes opened held h k volume at m f
            (subst (λ (e : LogicalFault). logical.IsRunFault faults (old.logical).settings (old.logical).number j (old.logical).replicas (new.logical).replicas e) same cause) in
            (failed.0, record { held = held; made = Some act; holding = holding; is = failed.1 })
