-- What a put leaves and tells.
use Rattle.std.proofs.Common.{◌≡◌, inl, inr, ℕ, ◌+◌, ◌<◌, Bool, true, false, List, [], ◌∷◌, ◌++◌, length, Option, Some, None, refl, sym, ap, subst, ◌∙◌, arith}
use Rattle.std.specs.Prelude.{IfNone, Result, Ok, Err, map, slice_index_or}
use Rattle.std.proofs.lemmas.Option.{none-some}
use Rattle.std.proofs.lemmas.List.{map-append}
use Rattle.hay_core.specs.declared.entry.CoreTag.{CoreTag}
use Rattle.hay_core.specs.declared.entry.Entry.{Entry}
use Rattle.hay_core.specs.declared.entry.Entry.TheVariants as entry
use Rattle.hay_disk.specs.Counts.{Rose}
use Rattle.hay_disk.specs.Disk.{Files}
use Rattle.hay_legal.specs.declared.known.VolumeKnown.{VolumeKnown}
use Rattle.hay_legal.specs.Known.{machine_of, replica_on, room_refusal_of}
use Rattle.hay_front.specs.declared.front.Tag.{Tag}
use Rattle.hay_front.specs.Entries.{LogEntry}
use Rattle.hay_front.specs.Fronts.{Holds, MayPublish, logged, with_deed}
use Rattle.hay_legal.specs.Plain.{frozen_with, grown}
use Rattle.hay_history.specs.LaneSteps.{Standing}
use Rattle.hay_history.specs.LaneSteps.Did.{Pends}
use Rattle.hay_holdings.specs.Volumes.{FailedOn, MadeNothing, Takes}
use Rattle.hay_logical.specs.Answers as logical
use Rattle.hay_logical.specs.declared.fault.LogicalFault.{LogicalFault}
use Rattle.hay_logical.specs.declared.fault.LogicalFault.TheVariants.{Busy, Damaged, Failed, Full, Gone, Idle, NoMemory, ReadOnly, Worn}
use Rattle.hay_logical.specs.declared.unsure.Change.TheVariants as unsure
use Rattle.hay_logical.specs.declared.written.Written.{Written}
use Rattle.hay_logical.specs.Fits.{At}
use Rattle.hay_logical.specs.Stands.{IsChange, Stands}
use Rattle.hay_logical.specs.Unshown.{GivesUp, IsWritten, ShowsSame}
use Rattle.hay_logical.specs.Volumes.{IsOfSettings, IsOpenVolume, IsSame, KeepsCounts, Volume}
use Rattle.hay_logical.proofs.Lists.{at_below, at_there}
use Rattle.hay_legal.proofs.Machines.{replica_found}
use Rattle.hay_meeting.specs.declared.act.VolumeAct.{VolumeAct}
use Rattle.hay_meeting.specs.Acts.{did_of, nobody}
use Rattle.hay_meeting.specs.Facts.{volume_stood}
use Rattle.hay_meeting.specs.Sights.{stood}
use Rattle.hay_needle.specs.declared.needle.Cookie.{Cookie}
use Rattle.hay_needle.specs.declared.needle.Pair.{Pair}
use Rattle.hay_needle.specs.declared.settings.Settings.{Settings}
use Rattle.hay_map.specs.Rows.{ChangesRows, FitsRows, changed_row, row_at}
use Rattle.hay_map.specs.declared.place.Place.{Place}
use Rattle.hay_map.specs.declared.view.MapOp.{MapOp}
use Rattle.hay_map.specs.declared.view.MapOp.TheVariants as op
use Rattle.hay_physical.specs.OpenCopies.{Copy}
use Rattle.hay_reply.specs.declared.Refused.TheVariants.{NoRoom}
use Rattle.hay_views.specs.declared.places.Published.{Published}
use Rattle.hay_views.specs.MapPasts.{Enters, begun_at, is_entry}
use Rattle.hay_volume_lock.specs.Acts.{act_of, counts}
use Rattle.hay_volume_lock.specs.Answers.{Found, FoundAlways, IsAt, StoreVolume}
use Rattle.hay_volume_lock.specs.Changes.{DiskFailed, PutAnswer, PutRefused, pends_by, put_made}
use Rattle.hay_volume_lock.specs.Keeping.{GoesOn, IsKept, stood_of}
use Rattle.hay_volume_lock.specs.Tries.{IsTried}
use Rattle.hay_volume_lock.specs.declared.act.Made.{Made}
use Rattle.hay_volume_lock.specs.declared.act.Made.TheVariants as made_is
use Rattle.hay_volume_lock.specs.declared.guarded.Guarded.{Guarded}
use Rattle.hay_volume_lock.specs.declared.guarded.Opened.{Opened}
use Rattle.hay_volume_lock.proofs.Counting.{count_there}
use Rattle.hay_volume_lock.proofs.Growing.{FusesStay, IsOfOne, TightStays, ends_none, goes_more, goes_tried, no_fuse, tight_entered, tight_frozen}
use Rattle.hay_volume_lock.proofs.Holding.{stood_is}
use Rattle.hay_volume_lock.proofs.Published.{Fact, fact_first, may_publish, put_tells}
use Rattle.hay_volume_lock.proofs.Publishing.{Changes, IsOfBoth, Serves, Shows, changes_acted, fuses_stay, serves_deed, serves_frozen, shows_deed, shows_nothing}

-- WHAT STANDS

-- what is known of a volume has its freeze
pub frozen_known : {D P : Type 0} (files : D → Files) (PieceTells : Type 0) (volume : Volume D P) (k : VolumeKnown) → Stands files PieceTells volume k → k.frozen ≡ volume.frozen
unfolding Stands
frozen_known files PieceTells volume k s = s.frozen

-- what holds where no machine froze a volume
pub settled : {A : Type 0} (frozen : Option ℕ) → frozen ≡ None → IfNone frozen A → A
settled None is none = none
settled (Some m) is none = absurd (none-some m (sym is))

module _ {D P : Type 0} (Tells : Type 0) (files : D → Files) (PieceTells : Type 0) (faults fuses : D → ℕ) (tag : CoreTag) (old new : Guarded D P) where
  abbrev Kept : Opened D P → List VolumeAct → Type 0
  Kept opened held = IsKept Tells files PieceTells faults fuses opened held old

  -- it took a photo of this size
  pub takes_of : (opened : Opened D P) (held : List VolumeAct) → Kept opened held → (k : VolumeKnown) (volume : StoreVolume) → IsAt faults fuses opened k volume → (size : ℕ)
      → logical.HasRoom (old.logical).settings (old.logical).number (stood_of faults fuses opened k held).volume size → Takes volume.settings volume.start volume.number size held
  takes_of opened held h k volume at size room =
      let there : stood_of faults fuses opened k held ≡ stood volume.start volume.number held = stood_is faults fuses opened k volume held at in (
        sym (ap (λ (z : Standing). (z.volume).frozen) there) ∙ room.0,
        sym (ap (λ (z : Standing). room_refusal_of (old.logical).settings (old.logical).number z.volume size) there
            ∙ ap (λ (z : Settings). room_refusal_of z (old.logical).number (volume_stood volume.start volume.number held) size) (h.same_settings ∙ sym at.settings)
            ∙ ap (λ (z : ℕ). room_refusal_of volume.settings z (volume_stood volume.start volume.number held) size) (h.number ∙ sym at.number)) ∙ room.1,
      )

  -- the disk on the machine failed in the act
  pub failed_on : (opened : Opened D P) (held : List VolumeAct) (act : VolumeAct) → Kept opened held → IsKept Tells files PieceTells faults fuses opened (held ++ act ∷ []) new
      → (m f : ℕ) → logical.HasFailed faults (old.logical).settings (old.logical).number (old.logical).replicas (new.logical).replicas m f
      → (k : VolumeKnown) (volume : StoreVolume) → IsAt faults fuses opened k volume → FailedOn volume.settings volume.start volume.number m f held (Some act)
  failed_on opened held act h after m f failed k volume at =
      let j : ℕ = failed.replica in
      let s_is : (old.logical).settings ≡ volume.settings = h.same_settings ∙ sym at.settings in
      let n_is : (old.logical).number ≡ volume.number = h.number ∙ sym at.number in
      let of : IsOfSettings volume.settings volume.number =
      subst (λ (s : Settings). IsOfSettings s volume.number) (sym at.settings) (subst (λ (v : ℕ). IsOfSettings (opened.volume).settings v) (sym at.number) (h.from).of) in
      let less : j < (volume.settings).replicas = subst (λ (s : Settings). j < s.replicas) s_is failed.within in
      let on : m ≡ machine_of volume.settings volume.number j =
      failed.machine ∙ ap (λ (s : Settings). machine_of s (old.logical).number j) s_is ∙ ap (λ (v : ℕ). machine_of volume.settings v j) n_is in
      let was : (stood volume.start volume.number held).faults j ≡ faults ((failed.before).disk) =
      ap (λ (s : Standing). s.faults j) (sym (stood_is faults fuses opened k volume held at)) ∙ h.fault_counts k j ∙ count_there faults (old.logical).replicas j failed.before failed.was in
      let is : (stood volume.start volume.number (held ++ act ∷ [])).faults j ≡ faults ((failed.after).disk) =
      ap (λ (s : Standing). s.faults j) (sym (stood_is faults fuses opened k volume (held ++ act ∷ []) at)) ∙ after.fault_counts k j
      ∙ count_there faults (new.logical).replicas j failed.after failed.is in (
        j,
        ap (λ (n : ℕ). replica_on volume.settings volume.number n) on ∙ replica_found volume.settings volume.number j of.within less of.fits,
        (
          less,
          subst (λ (n : ℕ). Rose n ((stood volume.start volume.number (held ++ act ∷ [])).faults j)) (sym was) (subst (λ (n : ℕ). Rose (faults ((failed.before).disk)) n) (sym is) failed.rose),
          failed.printed ∙ sym is,
        ),
      )

  -- no act was made where nothing happened
  pub none_made : (made : Option VolumeAct) → IsTried faults fuses tag (counts faults (old.logical).replicas) (new.logical).replicas made → new.logical ≡ old.logical → made ≡ None
  none_made None tried same = refl
  none_made (Some act) tried same = absurd (cc (tried.quiet.1 (sym (ap (λ l. counts faults l.replicas) same))))

  pub nothing_made : (made : Option VolumeAct) → IsTried faults fuses tag (counts faults (old.logical).replicas) (new.logical).replicas made → MadeNothing made
  nothing_made None tried = tt
  nothing_made (Some act) tried = ap (λ (z : VolumeAct). did_of z.did) tried.is

  -- the act that was made, by what was done
  pub record IsMadeBy (did : Option Made) (made : Option VolumeAct) : Type 0 where
    pub acts : (m : Made) → did ≡ Some m → made ≡ Some (act_of faults fuses tag m (new.logical).replicas)
    pub tries : did ≡ None → IsTried faults fuses tag (counts faults (old.logical).replicas) (new.logical).replicas made

  module _ (pair : Pair) (cookie : Cookie) (bytes : List ℕ) where
    abbrev change : Entry
    change = entry.Put pair cookie bytes

    -- A PUT THAT WAS REFUSED before anything was published

    pub record Refuses (fault : LogicalFault) (made : Option VolumeAct) : Type 0 where
      pub goes : GoesOn Tells files PieceTells faults fuses tag old new made
      pub told : Found Tells files PieceTells faults fuses tag old made (λ volume. PutRefused volume tag pair cookie bytes fault)
      pub always : (m f : ℕ) → fault ≡ Failed m f → FoundAlways Tells files PieceTells faults fuses tag old made (λ volume. DiskFailed volume tag m f)

    module _ (of : IsOfOne faults old new) (stay : FusesStay fuses old new) (begun : new.begun ≡ old.begun) (ended : new.ended ≡ old.ended) (thawed : (old.logical).frozen ≡ None)
        (tight : Tells → TightStays files old new) where
      thawed_known : (k : VolumeKnown) → Stands files PieceTells old.logical k → k.frozen ≡ None
      thawed_known k s = frozen_known files PieceTells old.logical k s ∙ thawed

      -- the volume was frozen by this machine, with the put pending
      pending : (m : ℕ) (failed : Bool) → (Tells → (k : VolumeKnown) → Stands files PieceTells old.logical k → Stands files PieceTells new.logical (frozen_with m tag change failed k))
          → (act : VolumeAct) → act ≡ act_of faults fuses tag (made_is.Pends m change failed) (new.logical).replicas → GoesOn Tells files PieceTells faults fuses tag old new (Some act)
      pending m failed stands act is =
          goes_more Tells files PieceTells faults fuses tag old new (made_is.Pends m change failed) of (no_fuse Tells files PieceTells faults fuses tag old new of stay) refl
          (λ tells before s. let pending_known = stands tells before.volume s in record {
            leads = (thawed_known before.volume s, refl);
            stands = pending_known;
            tight =
                tight_frozen files tag (made_is.Pends m change failed) old new before m (sym (frozen_known files PieceTells new.logical (frozen_with m tag change failed before.volume) pending_known));
          })
          (λ j less. ap (λ (l : List CoreTag). slice_index_or l j nobody) begun)
          (ends_none Tells files PieceTells old new (act_of faults fuses tag (made_is.Pends m change failed) (new.logical).replicas) (λ j. refl) (λ j own. own) ended) act is

      tried : (Tells → (k : VolumeKnown) → Stands files PieceTells old.logical k → Stands files PieceTells new.logical k) → (made : Option VolumeAct)
          → IsTried faults fuses tag (counts faults (old.logical).replicas) (new.logical).replicas made → GoesOn Tells files PieceTells faults fuses tag old new made
      tried stands made tries =
          goes_tried Tells files PieceTells faults fuses tag old new of stay (λ tells k s. (stands tells k s, λ frozen j run has. tight tells frozen j)) begun ended made tries.quiet tries.is

      wanted : (frozen : Option ℕ) → (new.logical).frozen ≡ frozen
          → (Tells → (k : VolumeKnown) → Stands files PieceTells old.logical k → logical.PutRefused files PieceTells k tag pair cookie bytes old.logical new.logical NoMemory)
          → (made : Option VolumeAct) → IsMadeBy (pends_by frozen change false) made → Refuses NoMemory made
      wanted (Some m) is refused made by =
          let act : VolumeAct = act_of faults fuses tag (made_is.Pends m change false) (new.logical).replicas in
          subst (λ (z : Option VolumeAct). Refuses NoMemory z) (sym (by.acts (made_is.Pends m change false) refl)) (record {
            goes = pending m false (λ tells k s. stands k (refused tells k s)) act refl;
            told = λ opened held h tells k s volume at a b holding.
                let r = refused tells (stood_of faults fuses opened k held).volume (h.stands tells k s) in record {
                  held = held;
                  made = Some act;
                  holding = holding;
                  is = inr (
                    ap (λ (n : ℕ). Pends n change false)
                        (first (stood_of faults fuses opened k held).volume r ∙ ap (λ (s : Settings). machine_of s (old.logical).number 0) (h.same_settings ∙ sym at.settings)
                        ∙ ap (λ (v : ℕ). machine_of volume.settings v 0) (h.number ∙ sym at.number)),
                    takes_of opened held h k volume at (length bytes) r.0,
                  );
                };
            always = λ m f e. absurd (cc e);
          })
        where
          -- it is the first machine
          first : (k : VolumeKnown) → logical.PutRefused files PieceTells k tag pair cookie bytes old.logical new.logical NoMemory → m ≡ machine_of (old.logical).settings (old.logical).number 0
          first k (room, inl s) = let not : ◌≡◌ {A = Option ℕ} None (Some m) = sym room.0 ∙ frozen_known files PieceTells new.logical k s ∙ is in absurd (cc not)
          first k (room, inr s) =
              let same : ◌≡◌ {A = Option ℕ} (Some (machine_of (old.logical).settings (old.logical).number 0)) (Some m) =
              frozen_known files PieceTells new.logical (frozen_with (machine_of (old.logical).settings (old.logical).number 0) tag change false k) s ∙ is in sym (cc same)

          stands : (k : VolumeKnown) → logical.PutRefused files PieceTells k tag pair cookie bytes old.logical new.logical NoMemory
              → Stands files PieceTells new.logical (frozen_with m tag change false k)
          stands k (room, inl s) = let not : ◌≡◌ {A = Option ℕ} None (Some m) = sym room.0 ∙ frozen_known files PieceTells new.logical k s ∙ is in absurd (cc not)
          stands k (room, inr s) = subst (λ (n : ℕ). Stands files PieceTells new.logical (frozen_with n tag change false k)) (sym (first k (room, inr s))) s
      wanted None is refused made by = record {
        goes = tried (λ tells k s. stands k (refused tells k s)) made (by.tries refl);
        told = λ opened held h tells k s volume at a b holding. record { held = held; made = made; holding = holding; is = inl (nothing_made made (by.tries refl)) };
        always = λ m f e. absurd (cc e);
      }
        where
          stands : (k : VolumeKnown) → logical.PutRefused files PieceTells k tag pair cookie bytes old.logical new.logical NoMemory → Stands files PieceTells new.logical k
          stands k (room, inl s) = s
          stands k (room, inr s) =
              let not : ◌≡◌ {A = Option ℕ} (Some (machine_of (old.logical).settings (old.logical).number 0)) None =
              frozen_known files PieceTells new.logical (frozen_with (machine_of (old.logical).settings (old.logical).number 0) tag change false k) s ∙ is in absurd (cc not)

      pub put_refused : (fault : LogicalFault)
          → (Tells → (k : VolumeKnown) → Stands files PieceTells old.logical k → logical.PutRefused files PieceTells k tag pair cookie bytes old.logical new.logical fault)
          → logical.IsPutFault faults (old.logical).settings (old.logical).number (old.logical).replicas (new.logical).replicas fault
          → (made : Option VolumeAct) → IsMadeBy (put_made (new.logical).frozen change fault) made → Refuses fault made
      put_refused (ReadOnly m) refused cause made by = record {
        goes = tried (λ tells k s. subst (λ v. Stands files PieceTells v k) (sym (refused tells k s).1) s) made (by.tries refl);
        told = λ opened held h tells k s volume at a b holding.
            let s_old = h.stands tells k s in
            let not : ◌≡◌ {A = Option ℕ} None (Some m) =
            sym (thawed_known (stood_of faults fuses opened k held).volume s_old) ∙ (refused tells (stood_of faults fuses opened k held).volume s_old).0 in absurd (cc not);
        always = λ m f e. absurd (cc e);
      }
      put_refused (Full m end need capacity) refused cause made by = record {
        goes = tried (λ tells k s. subst (λ v. Stands files PieceTells v k) (sym (refused tells k s).3) s) made (by.tries refl);
        told = λ opened held h tells k s volume at a b holding.
            let r = refused tells (stood_of faults fuses opened k held).volume (h.stands tells k s) in
            let there : stood_of faults fuses opened k held ≡ stood volume.start volume.number held = stood_is faults fuses opened k volume held at in (
              r.2 ∙ ap (λ (s : Settings). s.capacity) (h.same_settings ∙ sym at.settings),
              record {
                held = held;
                made = made;
                holding = holding;
                is = (
                  none_made made (by.tries refl) r.3,
                  sym (ap (λ (z : Standing). (z.volume).frozen) there) ∙ r.0,
                  sym (ap (λ (z : Standing). room_refusal_of (old.logical).settings (old.logical).number z.volume (length bytes)) there
                      ∙ ap (λ (z : Settings). room_refusal_of z (old.logical).number (volume_stood volume.start volume.number held) (length bytes)) (h.same_settings ∙ sym at.settings)
                      ∙ ap (λ (z : ℕ). room_refusal_of volume.settings z (volume_stood volume.start volume.number held) (length bytes)) (h.number ∙ sym at.number))
                      ∙ r.1 ∙ ap (λ (v : ℕ). Some (NoRoom v m end need)) (h.number ∙ sym at.number),
                );
              },
            );
        always = λ m f e. absurd (cc e);
      }
      put_refused (Failed m f) refused cause made by =
          let act : VolumeAct = act_of faults fuses tag (made_is.Pends m change true) (new.logical).replicas in
          let goes : GoesOn Tells files PieceTells faults fuses tag old new (Some act) = pending m true (λ tells k s. (refused tells k s).1) act refl in
          subst (λ (z : Option VolumeAct). Refuses (Failed m f) z) (sym (by.acts (made_is.Pends m change true) refl)) (record {
            goes = goes;
            told = λ opened held h tells k s volume at a b holding. record {
              held = held;
              made = Some act;
              holding = holding;
              is = (
                refl,
                takes_of opened held h k volume at (length bytes) (refused tells (stood_of faults fuses opened k held).volume (h.stands tells k s)).0,
                failed_on opened held act h (goes.kept opened held h) m f cause k volume at,
              );
            };
            always = λ n g e opened held h k volume at a b holding.
                let mm : m ≡ n = cc e in let ff : f ≡ g = cc e in record {
                  held = held;
                  made = Some act;
                  holding = holding;
                  is = subst (λ (x : ℕ). FailedOn volume.settings volume.start volume.number x g held (Some act)) mm
                      (subst (λ (y : ℕ). FailedOn volume.settings volume.start volume.number m y held (Some act)) ff (failed_on opened held act h (goes.kept opened held h) m f cause k volume at));
                };
          })
      put_refused NoMemory refused cause made by = wanted (new.logical).frozen refl refused made by
      put_refused (Gone front) refused cause made by = absurd cause
      put_refused (Busy m g) refused cause made by = absurd cause
      put_refused (Worn m) refused cause made by = absurd cause
      put_refused Idle refused cause made by = absurd cause
      put_refused (Damaged m at) refused cause made by = absurd cause

    -- A PUT THAT STOOD ON EACH REPLICA

    module _ (of : IsOfBoth faults old new) (stay : FusesStay fuses old new) (begun : new.begun ≡ old.begun) (ended : new.ended ≡ old.ended) (thawed : (old.logical).frozen ≡ None) where
      known_thawed : (k : VolumeKnown) → Stands files PieceTells old.logical k → k.frozen ≡ None
      known_thawed k s = frozen_known files PieceTells old.logical k s ∙ thawed

      old_room : (k : VolumeKnown) → logical.HasRoom (new.logical).settings (new.logical).number k (length bytes) → logical.HasRoom (old.logical).settings (old.logical).number k (length bytes)
      old_room k room =
          subst (λ (s : Settings). logical.HasRoom s (old.logical).number k (length bytes)) (of.same).settings
          (subst (λ (v : ℕ). logical.HasRoom (new.logical).settings v k (length bytes)) (of.same).number room)

      -- and was published
      pub put_stored : (p : ℕ) → (Tells → (k : VolumeKnown) → Stands files PieceTells old.logical k → logical.IsPut files PieceTells k tag pair cookie bytes p new.logical)
          → Shows tag (Some change) old new → ((opened : Opened D P) → (old.logical).settings ≡ (opened.volume).settings → Serves opened old new)
          → (act : VolumeAct) → act ≡ act_of faults fuses tag (made_is.Enters change []) (new.logical).replicas
          → Changes Tells files PieceTells faults fuses tag old new (Some act) × Found Tells files PieceTells faults fuses tag old (Some act) (λ volume. PutAnswer volume tag pair cookie bytes (Ok p))
      put_stored p put shows serves act is = (
        changes_acted Tells files PieceTells faults fuses tag old new (made_is.Enters change []) of (λ still. thawed) shows serves
            (fuses_stay Tells files PieceTells faults fuses tag old new of.count stay)
            (λ tells before s. record {
              leads = (known_thawed before.volume s, refl);
              stands = (put tells before.volume s).stands;
              tight = tight_entered files tag (made_is.Enters change []) old new before change refl;
            })
            (λ j less. ap (λ (l : List CoreTag). slice_index_or l j nobody) begun)
            (ends_none Tells files PieceTells old new (act_of faults fuses tag (made_is.Enters change []) (new.logical).replicas) (λ j. refl) (λ j own. own) ended) act is,
        λ opened held h tells k s volume at a b holding.
            let q = put tells (stood_of faults fuses opened k held).volume (h.stands tells k s) in record {
              held = held;
              made = Some act;
              holding = holding;
              is = (
                ap (λ (z : VolumeAct). did_of z.did) is,
                takes_of opened held h k volume at (length bytes) (old_room (stood_of faults fuses opened k held).volume q.room),
                q.position ∙ ap (λ (z : Standing). length (z.volume).log + 1) (stood_is faults fuses opened k volume held at),
              );
            },
      )

      -- and was given up for want of memory
      pub put_given_up : (Tells → (k : VolumeKnown) → Stands files PieceTells old.logical k
          → logical.HasRoom (old.logical).settings (old.logical).number k (length bytes) × Stands files PieceTells new.logical
          (frozen_with (machine_of (old.logical).settings (old.logical).number 0) tag change false k))
          → Shows tag None old new → ((opened : Opened D P) → (old.logical).settings ≡ (opened.volume).settings → Serves opened old new)
          → (act : VolumeAct) → act ≡ act_of faults fuses tag (made_is.Pends (machine_of (old.logical).settings (old.logical).number 0) change false) (new.logical).replicas
          → Changes Tells files PieceTells faults fuses tag old new (Some act) × Found Tells files PieceTells faults fuses tag old (Some act)
          (λ volume. PutAnswer volume tag pair cookie bytes (Err NoMemory))
      put_given_up given shows serves act is =
          let m : ℕ = machine_of (old.logical).settings (old.logical).number 0 in (
            changes_acted Tells files PieceTells faults fuses tag old new (made_is.Pends m change false) of (λ still. thawed) shows serves
                (fuses_stay Tells files PieceTells faults fuses tag old new of.count stay)
                (λ tells before s. let pending_known = (given tells before.volume s).1 in record {
                  leads = (known_thawed before.volume s, refl);
                  stands = pending_known;
                  tight =
                      tight_frozen files tag (made_is.Pends m change false) old new before m (sym (frozen_known files PieceTells new.logical
                      (frozen_with m tag change false before.volume) pending_known));
                })
                (λ j less. ap (λ (l : List CoreTag). slice_index_or l j nobody) begun)
                (ends_none Tells files PieceTells old new (act_of faults fuses tag (made_is.Pends m change false) (new.logical).replicas) (λ j. refl) (λ j own. own) ended) act is,
            λ opened held h tells k s volume at a b holding. record {
              held = held;
              made = Some act;
              holding = holding;
              is = inr (
                ap (λ (z : VolumeAct). did_of z.did) is
                    ∙ ap (λ (n : ℕ). Pends n change false) (ap (λ (s : Settings). machine_of s (old.logical).number 0) (h.same_settings ∙ sym at.settings)
                    ∙ ap (λ (v : ℕ). machine_of volume.settings v 0) (h.number ∙ sym at.number)),
                takes_of opened held h k volume at (length bytes) (given tells (stood_of faults fuses opened k held).volume (h.stands tells k s)).0,
              );
            },
          )

-- WHERE NOTHING WAS CHANGED

pub err_same : {X : Type 0} {a b : LogicalFault} → ◌≡◌ {A = Result X LogicalFault} (Err a) (Err b) → a ≡ b
err_same same = cc same

module _ {D P : Type 0} (Tells : Type 0) (files : D → Files) (PieceTells : Type 0) (faults fuses : D → ℕ) (tag : CoreTag) (kept : Guarded D P) (pair : Pair) (cookie : Cookie) (bytes : List ℕ) where
  -- the volume was frozen before
  pub met_frozen : (m : ℕ) → (Tells → (k : VolumeKnown) → Stands files PieceTells kept.logical k → k.frozen ≡ Some m)
      → Found Tells files PieceTells faults fuses tag kept None (λ volume. PutAnswer volume tag pair cookie bytes (Err (ReadOnly m)))
  met_frozen m known opened held h tells k s volume at a b holding = record {
    held = held;
    made = None;
    holding = holding;
    is = (refl, sym (ap (λ (z : Standing). (z.volume).frozen) (stood_is faults fuses opened k volume held at)) ∙ known tells (stood_of faults fuses opened k held).volume (h.stands tells k s));
  }

  -- memory was wanting
  pub wanted_nothing : Found Tells files PieceTells faults fuses tag kept None (λ volume. PutAnswer volume tag pair cookie bytes (Err NoMemory))
  wanted_nothing opened held h tells k s volume at a b holding = record { held = held; made = None; holding = holding; is = inl tt }

-- BY WHAT THE CALLS TELL

pub tags_logged : {D : Type 0} (log : List (LogEntry D)) (item : LogEntry D) (counts : Bool) → counts ≡ true → map (λ e. e.tag) (logged counts log item) ≡ map (λ e. e.tag) log ++ item.tag ∷ []
tags_logged log item true is = map-append (λ e. e.tag) log (item ∷ [])
tags_logged log item false is = absurd (cc is)

module _ {D P : Type 0} (Tells : Type 0) (files : D → Files) (PieceTells : Type 0) (faults fuses : D → ℕ) (tag : CoreTag) (old new : Guarded D P) (mid : Volume D P)
    (same_settings : new.settings ≡ old.settings)
    (same : IsSame old.logical mid) (is_open : IsOpenVolume mid) (counts : KeepsCounts faults fuses (old.logical).replicas mid.replicas) where
  -- the rows alone were changed behind a change of the replicas
  pub both_rows : (n : ℕ) → new.logical ≡ record mid { rows = (new.logical).rows; front = n } → IsOfBoth faults old new × FusesStay fuses old new
  both_rows n still =
      let replicas : (new.logical).replicas ≡ mid.replicas = ap (λ (v : Volume D P). v.replicas) still in (
        record {
          settings = same_settings;
          same = record {
            settings = ap (λ (v : Volume D P). v.settings) still ∙ same.settings;
            number = ap (λ (v : Volume D P). v.number) still ∙ same.number;
            sups = λ j r r' e f. same.sups j r r' e (subst (λ (l : List (Copy D)). At l j r') replicas f);
          };
          is_open = subst (λ (v : Volume D P). IsOpenVolume v) (sym still) (record { all = is_open.all; each = is_open.each });
          count = ap length replicas ∙ counts.count;
          rises = λ j r r' e f. counts.rises j r r' e (subst (λ (l : List (Copy D)). At l j r') replicas f);
        },
        λ j r r' e f. counts.stay j r r' e (subst (λ (l : List (Copy D)). At l j r') replicas f),
      )

  -- the replicas were changed again
  pub both_again : IsSame mid new.logical → IsOpenVolume new.logical → KeepsCounts faults fuses mid.replicas (new.logical).replicas → IsOfBoth faults old new × FusesStay fuses old new
  both_again again new_open more = (
    record {
      settings = same_settings;
      same = record {
        settings = again.settings ∙ same.settings;
        number = again.number ∙ same.number;
        sups = λ j r r' e f. let m = there j r e in again.sups j m.0 r' m.1 f ∙ same.sups j r m.0 e m.1;
      };
      is_open = new_open;
      count = more.count ∙ counts.count;
      rises = λ j r r' e f. let m = there j r e in (let a = counts.rises j r m.0 e m.1 in let b = more.rises j m.0 r' m.1 f in omega (arith, a, b));
    },
    λ j r r' e f. let m = there j r e in more.stay j m.0 r' m.1 f ∙ counts.stay j r m.0 e m.1,
  )
    where
      there : (j : ℕ) (r : Copy D) → At (old.logical).replicas j r → (m : Copy D) × At mid.replicas j m
      there j r e = at_there mid.replicas j (let less = at_below (old.logical).replicas j r e in let count = counts.count in omega (arith, less, count))

module _ {D P : Type 0} (Tells : Type 0) (files : D → Files) (PieceTells : Type 0) (faults fuses : D → ℕ) (tag : CoreTag) (old : Guarded D P) (pair : Pair) (cookie : Cookie) (bytes : List ℕ)
    (mid : Volume D P) (written : Written P) (deed : Published P)
    (own : written.pair ≡ pair) (long : length written.row ≡ ((old.logical).settings).replicas)
    (stands : Tells → (k : VolumeKnown) → Stands files PieceTells old.logical k → IsWritten files PieceTells k pair cookie bytes written mid)
    (change_is : deed.change ≡ op.Put written.pair written.row) (entered_is : deed.entered ≡ entry.Put pair cookie bytes ∷ []) (same : IsSame old.logical mid) where
  abbrev photo : Entry
  photo = entry.Put pair cookie bytes

  deed_is : deed ≡ record { change = op.Put pair written.row; entered = photo ∷ [] }
  deed_is = λ i. record { change = (change_is ∙ ap (λ (q : Pair). op.Put q written.row) own) i; entered = entered_is i }

  -- the photo may be published
  pub put_may : (opened : Opened D P) (held : List VolumeAct) → IsKept Tells files PieceTells faults fuses opened held old → Holds (Fact Tells files PieceTells) (old.front).shown
      → MayPublish (Fact Tells files PieceTells) (old.front).shown deed
  put_may opened held h fact =
      let base = h.base ∙ (h.from).base in
      let width : length written.row ≡ ((h.from).rows).replicas = long ∙ ap (λ (s : Settings). s.replicas) h.same_settings ∙ sym (h.from).width in
      let fit : FitsRows ((h.from).rows).replicas deed.change = subst (λ (d : Published P). FitsRows ((h.from).rows).replicas d.change) (sym deed_is) width in
      may_publish Tells files PieceTells opened.volume (h.from).rows (old.front).shown base fact deed
      (record { rows = fit; enters = subst (λ (d : Published P). Enters d.change d.entered) (sym deed_is) (cookie, bytes, refl) })
      (put_tells Tells files PieceTells (begun_at opened.volume (h.from).rows) ((old.front).shown).deeds deed fit
      (fact_first Tells files PieceTells opened.volume (h.from).rows (old.front).shown base fact).1 pair cookie bytes written.row deed_is
      (λ tells k s j less. (stands tells (stood_of faults fuses opened k held).volume (h.stands tells k s)).means j
      (subst (λ (s : Settings). j < s.replicas) (sym (same.settings ∙ h.same_settings)) less)))

  module _ (new : Guarded D P) (settings : new.settings ≡ old.settings) (begun : new.begun ≡ old.begun) (ended : new.ended ≡ old.ended) (thawed : (old.logical).frozen ≡ None)
      (is_open : IsOpenVolume mid) (counts : KeepsCounts faults fuses (old.logical).replicas mid.replicas) where
    -- it was published and shown
    pub put_shown : (p : ℕ) (item : LogEntry (Published P)) → item.tag ≡ record { seat = tag.lane; lane = tag.lane; line = tag.line }
        → new.front ≡ record { shown = with_deed (old.front).shown deed; log = logged (is_entry deed.change) (old.front).log item; closed = false }
        → ShowsSame old.logical mid → ChangesRows (op.Put written.pair written.row) mid.rows (new.logical).rows
        → new.logical ≡ record mid { rows = (new.logical).rows; front = written.position }
        → (Tells → (k : VolumeKnown) (tag : CoreTag) (pair : Pair) (cookie : Cookie) (bytes : List ℕ) → IsWritten files PieceTells k pair cookie bytes written mid
        → logical.IsPut files PieceTells k tag pair cookie bytes p new.logical)
        → (act : VolumeAct) → act ≡ act_of faults fuses tag (made_is.Enters photo []) (new.logical).replicas
        → Changes Tells files PieceTells faults fuses tag old new (Some act) × Found Tells files PieceTells faults fuses tag old (Some act) (λ volume. PutAnswer volume tag pair cookie bytes (Ok p))
    put_shown p item own_tag front shows rows still put act is =
        let both = both_rows Tells files PieceTells faults fuses tag old new mid settings same is_open counts written.position still in
        let shown : (new.front).shown ≡ with_deed (old.front).shown deed = ap (λ f. f.shown) front in
        put_stored Tells files PieceTells faults fuses tag old new pair cookie bytes both.0 both.1 begun ended thawed p
        (λ tells k s. put tells k tag pair cookie bytes (stands tells k s))
        (shows_deed tag old new deed (Some photo) entered_is shown
        (ap (λ f. map (λ e. e.tag) f.log) front ∙ tags_logged (old.front).log item (is_entry deed.change) (ap is_entry change_is)
        ∙ ap (λ (t : Tag). map (λ e. e.tag) (old.front).log ++ t ∷ []) own_tag))
        (λ opened same_as. serves_deed tag old new deed opened (ap (λ f. f.closed) front) shown (λ still. thawed)
        (subst (λ (d : Published P). FitsRows ((opened.volume).settings).replicas d.change) (sym deed_is) (long ∙ ap (λ (s : Settings). s.replicas) same_as))
        (λ q. rows.rows q ∙ ap (λ (row : List (Place P)). changed_row (op.Put written.pair written.row) q row) ((shows.rows).rows q)
        ∙ ap (λ (change : MapOp P). changed_row change q (row_at (old.logical).rows q)) (sym change_is)))
        act is

    -- it was not published, and given up
    pub put_unshown : (new.front).shown ≡ (old.front).shown → (new.front).log ≡ (old.front).log
        → ShowsSame old.logical mid → (ends : List ℕ) → ends ≡ written.ends → (Tells → (k : VolumeKnown) → GivesUp files PieceTells k tag (unsure.Put ends) mid new.logical)
        → IsSame mid new.logical → IsOpenVolume new.logical → KeepsCounts faults fuses mid.replicas (new.logical).replicas
        → (new.logical).frozen ≡ Some (machine_of mid.settings mid.number 0)
        → (made : Option VolumeAct) → IsMadeBy Tells files PieceTells faults fuses tag old new (pends_by (new.logical).frozen photo false) made
        → Changes Tells files PieceTells faults fuses tag old new made × Found Tells files PieceTells faults fuses tag old made (λ volume. PutAnswer volume tag pair cookie bytes (Err NoMemory))
    put_unshown shown log shows ends ends_is given again new_open more frozen made by =
        let m : ℕ = machine_of (old.logical).settings (old.logical).number 0 in
        let first : machine_of mid.settings mid.number 0 ≡ m = ap (λ (s : Settings). machine_of s mid.number 0) same.settings ∙ ap (λ (v : ℕ). machine_of (old.logical).settings v 0) same.number in
        let both = both_again Tells files PieceTells faults fuses tag old new mid settings same is_open counts again new_open more in
        let now_frozen : (new.logical).frozen ≡ Some m = frozen ∙ ap Some first in
        let act : VolumeAct = act_of faults fuses tag (made_is.Pends m photo false) (new.logical).replicas in
        subst (λ (z : Option VolumeAct). Changes Tells files PieceTells faults fuses tag old new z
        × Found Tells files PieceTells faults fuses tag old z (λ volume. PutAnswer volume tag pair cookie bytes (Err NoMemory)))
        (sym (by.acts (made_is.Pends m photo false) (ap (λ (f : Option ℕ). pends_by f photo false) now_frozen)))
        (put_given_up Tells files PieceTells faults fuses tag old new pair cookie bytes both.0 both.1 begun ended thawed
        (λ tells k s. let w = stands tells k s in (
          subst (λ (z : Settings). logical.HasRoom z (old.logical).number k (length bytes)) same.settings (subst (λ (v : ℕ). logical.HasRoom mid.settings v k (length bytes)) same.number w.room),
          subst (λ (n : ℕ). Stands files PieceTells new.logical (frozen_with n tag photo false k)) first
              (given tells k photo (op.Put pair written.row) (map (grown (length bytes)) k.replicas) w.unshown
              (subst (λ (l : List ℕ). IsChange (unsure.Put l) k photo) (sym ends_is) w.ends)),
        ))
        (shows_nothing tag old new shown log) (λ opened same_as. serves_frozen tag old new opened m now_frozen) act refl)
