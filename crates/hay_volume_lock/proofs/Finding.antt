-- What a call found and did, as a step of a lane.
use Rattle.std.proofs.Common.{◌⊎◌, ◌≡◌, ◌≢◌, inl, inr, true, ℕ, ◌+◌, ◌<◌, ◌≤◌, List, [], ◌∷◌, ◌++◌, length, Option, Some, None, option_map, refl, sym, ap, subst, ◌∙◌, arith}
use Rattle.std.specs.Prelude.{◌==◌, false, slice_index_or, find, IsNone, IfSome, ◌↔◌, Result, Ok, Err, IfOk, IfErr, OnOk}
use Rattle.std.proofs.lemmas.Option.{none-some}
use Rattle.std.specs.List.{enumerate_from}
use Rattle.std.proofs.lemmas.Bool.{cases_order, cond-true, eq-eqb}
use Rattle.std.proofs.lemmas.List.{get_or-set_same}
use Rattle.hay_core.specs.declared.entry.CoreTag.{CoreTag}
use Rattle.hay_core.specs.declared.entry.Entry.{Entry}
use Rattle.hay_disk.specs.Counts.{IsNext, Rose}
use Rattle.hay_disk.specs.Disk.{Files}
use Rattle.hay_legal.specs.declared.known.Run.{Run}
use Rattle.hay_legal.specs.declared.known.ReplicaKnown.{ReplicaKnown}
use Rattle.hay_legal.specs.declared.known.VolumeKnown.{VolumeKnown}
use Rattle.hay_legal.specs.Known.{empty_replica, lacks_room, machine_of, replica_at, room_refusal_of}
use Rattle.hay_legal.specs.Plain.{with_run}
use Rattle.hay_history.specs.Histories.{begun_in}
use Rattle.hay_history.specs.LaneSteps.{Standing}
use Rattle.hay_history.specs.LaneSteps.Did.{Begins, Fuses, Tries}
use Rattle.hay_logical.specs.Answers as logical
use Rattle.hay_logical.specs.declared.fault.LogicalFault.{LogicalFault}
use Rattle.hay_logical.specs.declared.fault.LogicalFault.TheVariants.{Busy, Damaged, Failed, Full, Gone, Idle, NoMemory, ReadOnly, Worn}
use Rattle.hay_logical.specs.Fits.{At}
use Rattle.hay_logical.specs.Stands.{IsTightAt, Stands}
use Rattle.hay_logical.specs.Volumes.{IsOfSettings, IsOpenVolume, IsSame, KeepsCounts, Volume}
use Rattle.hay_logical.proofs.Lists.{at_there}
use Rattle.hay_legal.proofs.Machines.{same_machine}
use Rattle.hay_map.specs.Rows.{row_at}
use Rattle.hay_meeting.specs.declared.act.VolumeAct.{VolumeAct}
use Rattle.hay_meeting.specs.Acts.{begun_at, begun_of, did_of, entry_of, known_by, nobody, volume_lock}
use Rattle.hay_meeting.specs.Facts.{volume_stood}
use Rattle.hay_meeting.specs.Locks.{LockSight}
use Rattle.hay_meeting.specs.Sights.{stood}
use Rattle.hay_meeting.proofs.Replays.{left_append}
use Rattle.hay_holdings.specs.Holdings.{Holding}
use Rattle.hay_holdings.specs.Volumes.{FailedAct, Fused, HasRunOf, MadeNothing, VolumeCall}
use Rattle.hay_needle.specs.declared.settings.Settings.{Settings}
use Rattle.hay_needle.specs.declared.settings.TheConstants.{LAST_GENERATION}
use Rattle.hay_physical.specs.OpenCopies.{Copy}
use Rattle.hay_reply.specs.declared.Refused.{Refused}
use Rattle.hay_reply.specs.declared.Refused.TheVariants.{Closed, NoRoom}
use Rattle.hay_volume_lock.specs.Acts.{act_of, counts, did_by}
use Rattle.hay_volume_lock.specs.Answers.{BeginAnswer, BeginRefused, FailedLook, FlushAnswer, FlushBarred, FlushRefused, Found, FoundAlways, FrozenAnswer, IsAt, RoomAnswer, StoreVolume}
use Rattle.hay_volume_lock.specs.Keeping.{EndsOwn, GoesOn, IsKept, ends_at, stood_of}
use Rattle.hay_volume_lock.specs.Tries.{IsBegunBy, IsTried, begin_made, flush_answer, flush_made}
use Rattle.hay_volume_lock.specs.declared.act.Made.{Made}
use Rattle.hay_volume_lock.specs.declared.act.Made.TheVariants as made_is
use Rattle.hay_volume_lock.specs.declared.guarded.Guarded.{Guarded}
use Rattle.hay_volume_lock.specs.declared.guarded.Opened.{Opened}
use Rattle.hay_volume_lock.specs.declared.refusals.Unflushed.{Unflushed}
use Rattle.hay_volume_lock.proofs.Counting.{count_one, count_there}
use Rattle.hay_volume_lock.proofs.Doings.{begun_more}
use Rattle.hay_volume_lock.proofs.Growing.{FusesStay, IsOfOne, Keeps, LeadsFusesOf, LeadsTo, TightStays, ends_none, goes_more, goes_tried, no_fuse, of_still, tight_begun}
use Rattle.hay_volume_lock.proofs.Growing.{tight_rest, tight_still, tries_leads}
use Rattle.hay_volume_lock.proofs.Holding.{stood_is}

-- what is known of a volume has its freeze
known_frozen : {D P : Type 0} (files : D → Files) (PieceTells : Type 0) (volume : Volume D P) (k : VolumeKnown) → Stands files PieceTells volume k → k.frozen ≡ volume.frozen
unfolding Stands
known_frozen files PieceTells volume k s = s.frozen

-- a flush that is told as failed has failed
pub flush_failed_by : (by : Option ℕ) (answer : Result ℕ LogicalFault) (m f : ℕ) (o : Option ℕ)
    → ◌≡◌ {A = Result ℕ Unflushed} (flush_answer by answer) (Err (record { fault = Failed m f; frozen = o }))
    → (answer ≡ Err (Failed m f)) × (by ≡ o)
flush_failed_by by (Ok n) m f o is = absurd (cc is)
flush_failed_by by (Err fault) m f o is =
    let same : ◌≡◌ {A = Unflushed} (record { fault = fault; frozen = by }) (record { fault = Failed m f; frozen = o }) = cc is in
    (ap (λ (u : Unflushed). Err u.fault) same, ap (λ (u : Unflushed). u.frozen) same)

-- WHETHER IT TAKES A CHANGE

module _ (volume : StoreVolume) (tag : CoreTag) (held : List VolumeAct) (a b : LockSight VolumeAct Entry) (holding : Holding volume_lock tag held None a b) where
  abbrev now_known : VolumeKnown
  now_known = volume_stood volume.start volume.number held

  pub frozen_answer : (machine : Option ℕ) → machine ≡ now_known.frozen → FrozenAnswer volume tag machine a b
  frozen_answer None is = record { held = held; made = None; holding = holding; is = (refl, sym is) }
  frozen_answer (Some m) is = record { held = held; made = None; holding = holding; is = (refl, sym is) }

  pub room_answer_by : (size : ℕ) (result : Result Unit LogicalFault) (frozen : Option ℕ) (refused : Option Refused) → now_known.frozen ≡ frozen
      → room_refusal_of volume.settings volume.number now_known size ≡ refused → result ≡ logical.room_answer volume.settings frozen refused → RoomAnswer volume tag size result a b
  room_answer_by size result (Some m) refused f r e =
      subst (λ (z : Result Unit LogicalFault). RoomAnswer volume tag size z a b) (sym e) (record { held = held; made = None; holding = holding; is = (refl, f) })
  room_answer_by size result None None f r e =
      subst (λ (z : Result Unit LogicalFault). RoomAnswer volume tag size z a b) (sym e) (record { held = held; made = None; holding = holding; is = (refl, (f, r)) })
  room_answer_by size result None (Some (NoRoom w m end need)) f r e =
      subst (λ (z : Result Unit LogicalFault). RoomAnswer volume tag size z a b) (sym e)
      (refl, record { held = held; made = None; holding = holding; is = (refl, f, r ∙ ap (λ (n : ℕ). Some (NoRoom n m end need)) (same w m end need r)) })
    where
      from : (at : Option (ℕ × ReplicaKnown)) (w m end need : ℕ) (f g : ℕ × ReplicaKnown → ℕ) (v x : ℕ) → option_map (λ at. NoRoom v (f at) (g at) x) at ≡ Some (NoRoom w m end need) → w ≡ v
      from None w m end need f g v x e = absurd cc
      from (Some at) w m end need f g v x e = cc

      same : (w m end need : ℕ) → room_refusal_of volume.settings volume.number now_known size ≡ Some (NoRoom w m end need) → w ≡ volume.number
      same w m end need e = from (find (λ at. lacks_room volume.settings size at.1) (enumerate_from 0 now_known.replicas)) w m end need _ _ volume.number _ e
  room_answer_by size result None (Some (Closed w m)) f r e = absurd (never (find (λ at. lacks_room volume.settings size at.1) (enumerate_from 0 now_known.replicas)) _ _ _ r)
    where
      never : (at : Option (ℕ × ReplicaKnown)) (f g : ℕ × ReplicaKnown → ℕ) (x : ℕ) → option_map (λ at. NoRoom volume.number (f at) (g at) x) at ≡ Some (Closed w m) → ⊥
      never None f g x e = absurd cc
      never (Some at) f g x e = absurd cc

-- LOOKS AT WHAT STANDS

module _ {D P : Type 0} (Tells : Type 0) (files : D → Files) (PieceTells : Type 0) (faults fuses : D → ℕ) (tag : CoreTag) (kept : Guarded D P) where
  pub frozen_found : (machine : Option ℕ) → (Tells → (k : VolumeKnown) → Stands files PieceTells kept.logical k → machine ≡ k.frozen)
      → Found Tells files PieceTells faults fuses tag kept None (λ volume. FrozenAnswer volume tag machine)
  frozen_found machine known opened held h tells k s volume at a b holding =
      frozen_answer volume tag held a b holding machine
      (known tells (stood_of faults fuses opened k held).volume (h.stands tells k s) ∙ ap (λ (z : Standing). (z.volume).frozen) (stood_is faults fuses opened k volume held at))

  pub room_found : (size : ℕ) (answer : Result Unit LogicalFault) → (Tells → (k : VolumeKnown) → Stands files PieceTells kept.logical k
      → answer ≡ logical.room_answer (kept.logical).settings k.frozen (room_refusal_of (kept.logical).settings (kept.logical).number k size))
      → Found Tells files PieceTells faults fuses tag kept None (λ volume. RoomAnswer volume tag size answer)
  room_found size answer known opened held h tells k s volume at a b holding =
      let now : VolumeKnown = volume_stood volume.start volume.number held in
      room_answer_by volume tag held a b holding size answer now.frozen (room_refusal_of volume.settings volume.number now size) refl refl
      (known tells (stood_of faults fuses opened k held).volume (h.stands tells k s)
      ∙ ap (λ (z : Standing). logical.room_answer (kept.logical).settings (z.volume).frozen (room_refusal_of (kept.logical).settings (kept.logical).number z.volume size))
      (stood_is faults fuses opened k volume held at)
      ∙ ap (λ (z : Settings). logical.room_answer z now.frozen (room_refusal_of z (kept.logical).number now size)) (h.same_settings ∙ sym at.settings)
      ∙ ap (λ (z : ℕ). logical.room_answer volume.settings now.frozen (room_refusal_of volume.settings z now size)) (h.number ∙ sym at.number))

-- CALLS OF THE DISKS

module _ {D P : Type 0} (Tells : Type 0) (files : D → Files) (PieceTells : Type 0) (faults fuses : D → ℕ) (tag : CoreTag) (old new : Guarded D P) where
  abbrev Goes : Option VolumeAct → Type 0
  Goes made = GoesOn Tells files PieceTells faults fuses tag old new made

  abbrev Finds : Option VolumeAct → (StoreVolume → VolumeCall) → Type 0
  Finds made Is = Found Tells files PieceTells faults fuses tag old made Is

  abbrev Always : Option VolumeAct → (StoreVolume → VolumeCall) → Type 0
  Always made Is = FoundAlways Tells files PieceTells faults fuses tag old made Is

  abbrev Kept : Opened D P → List VolumeAct → Type 0
  Kept opened held = IsKept Tells files PieceTells faults fuses opened held old

  abbrev Behind : (made : Made) → VolumeAct → Type 0
  Behind made act = act ≡ act_of faults fuses tag made (new.logical).replicas

  same_settings : (opened : Opened D P) (held : List VolumeAct) (k : VolumeKnown) (volume : StoreVolume) → Kept opened held → IsAt faults fuses opened k volume
      → (old.logical).settings ≡ volume.settings
  same_settings opened held k volume h at = h.same_settings ∙ sym at.settings

  same_number : (opened : Opened D P) (held : List VolumeAct) (k : VolumeKnown) (volume : StoreVolume) → Kept opened held → IsAt faults fuses opened k volume → (old.logical).number ≡ volume.number
  same_number opened held k volume h at = h.number ∙ sym at.number

  pub on_machine : (opened : Opened D P) (held : List VolumeAct) (k : VolumeKnown) (volume : StoreVolume) → Kept opened held → IsAt faults fuses opened k volume
      → (m j : ℕ) → m ≡ machine_of (old.logical).settings (old.logical).number j → m ≡ machine_of volume.settings volume.number j
  on_machine opened held k volume h at m j is =
      is ∙ ap (λ (s : Settings). machine_of s (old.logical).number j) (same_settings opened held k volume h at) ∙ ap (λ (v : ℕ). machine_of volume.settings v j) (same_number opened held k volume h at)

  many_of : (k : VolumeKnown) → Stands files PieceTells old.logical k → length k.replicas ≡ ((old.logical).settings).replicas
  unfolding Stands
  many_of k s = s.many

  -- where a call of the replica's disk failed, its count rose in the act
  pub failed_act : (act : VolumeAct) → Goes (Some act) → (j m f : ℕ) → j < ((old.logical).settings).replicas → m ≡ machine_of (old.logical).settings (old.logical).number j
      → logical.HasFailed faults (old.logical).settings (old.logical).number (old.logical).replicas (new.logical).replicas m f
      → (opened : Opened D P) (held : List VolumeAct) → Kept opened held → (k : VolumeKnown) (volume : StoreVolume) → IsAt faults fuses opened k volume
      → FailedAct volume.settings volume.start volume.number j f held (Some act)
  failed_act act goes j m f within machine failed opened held h k volume at =
      let of : IsOfSettings (old.logical).settings (old.logical).number =
      subst (λ (s : Settings). IsOfSettings s (old.logical).number) (sym h.same_settings) (subst (λ (v : ℕ). IsOfSettings (opened.volume).settings v) (sym h.number) (h.from).of) in
      let few : ((old.logical).settings).replicas ≤ ((old.logical).settings).machines = of.fits in
      let one : failed.replica ≡ j = same_machine ((old.logical).settings).machines (old.logical).number failed.replica j
      (let w = failed.within in omega arith) (omega arith) (sym failed.machine ∙ machine) in
      let was : (stood volume.start volume.number held).faults j ≡ faults ((failed.before).disk) =
      ap (λ (s : Standing). s.faults j) (sym (stood_is faults fuses opened k volume held at)) ∙ h.fault_counts k j
      ∙ count_there faults (old.logical).replicas j failed.before (subst (λ (i : ℕ). At (old.logical).replicas i failed.before) one failed.was) in
      let is : (stood volume.start volume.number (held ++ act ∷ [])).faults j ≡ faults ((failed.after).disk) =
      ap (λ (s : Standing). s.faults j) (sym (stood_is faults fuses opened k volume (held ++ act ∷ []) at)) ∙ (goes.kept opened held h).fault_counts k j
      ∙ count_there faults (new.logical).replicas j failed.after (subst (λ (i : ℕ). At (new.logical).replicas i failed.after) one failed.is) in (
        subst (λ (s : Settings). j < s.replicas) (same_settings opened held k volume h at) within,
        subst (λ (n : ℕ). Rose n ((stood volume.start volume.number (held ++ act ∷ [])).faults j)) (sym was) (subst (λ (n : ℕ). Rose (faults ((failed.before).disk)) n) (sym is) failed.rose),
        failed.printed ∙ sym is,
      )

  -- no act was made where nothing happened
  none_made : (made : Option VolumeAct) → (IsNone made ↔ (counts faults (old.logical).replicas ≡ counts faults (new.logical).replicas)) → new.logical ≡ old.logical → made ≡ None
  none_made None even same = refl
  none_made (Some act) even same = absurd (cc (even.1 (ap (λ l. counts faults l.replicas) (sym same))))

  nothing_made : (made : Option VolumeAct) → IfSome made (Behind made_is.Tries) → MadeNothing made
  nothing_made None act = tt
  nothing_made (Some made) act = ap (λ (z : VolumeAct). did_of z.did) act

  module _ (of : IsOfOne faults old new) (stay : FusesStay fuses old new) (ended : new.ended ≡ old.ended) (j : ℕ) (within : j < ((old.logical).settings).replicas) where
    more : (made : Made) → entry_of (did_by made) ≡ None → LeadsFusesOf fuses old new (did_of (did_by made))
        → (Tells → (before : Standing) → Stands files PieceTells old.logical before.volume → LeadsTo Tells files PieceTells faults fuses tag old new made before)
        → ((i : ℕ) → i < (old.settings).replicas → slice_index_or new.begun i nobody ≡ begun_in i tag (did_of (did_by made)) (slice_index_or old.begun i nobody))
        → ((i : ℕ) → ends_at i (did_by made) ≡ false) → ((i : ℕ) → EndsOwn (did_of (did_by made)) i → ⊥)
        → (act : VolumeAct) → Behind made act → Goes (Some act)
    more made quiet fuses_lead leads begun none own act is =
        goes_more Tells files PieceTells faults fuses tag old new made of fuses_lead quiet leads begun
        (ends_none Tells files PieceTells old new (act_of faults fuses tag made (new.logical).replicas) none own ended) act is

    none_set : LeadsFusesOf fuses old new Tries
    none_set = no_fuse Tells files PieceTells faults fuses tag old new of stay

    tried : Keeps Tells files PieceTells old new → new.begun ≡ old.begun
        → (made : Option VolumeAct) → (IsNone made ↔ (counts faults (old.logical).replicas ≡ counts faults (new.logical).replicas)) → IfSome made (Behind made_is.Tries) → Goes made
    tried keeps begun made even act = goes_tried Tells files PieceTells faults fuses tag old new of stay keeps begun ended made even act

    same_begun : new.begun ≡ old.begun → (i : ℕ) → i < (old.settings).replicas → slice_index_or new.begun i nobody ≡ slice_index_or old.begun i nobody
    same_begun begun i less = ap (λ (l : List CoreTag). slice_index_or l i nobody) begun

    -- by the act of the answer
    abbrev Acts : Option Made → Option VolumeAct → Type 0
    Acts did made = ((m : Made) → did ≡ Some m → made ≡ Some (act_of faults fuses tag m (new.logical).replicas))
        × (did ≡ None → IsTried faults fuses tag (counts faults (old.logical).replicas) (new.logical).replicas made)

    -- FLUSHES

    pub flush_ok : new.begun ≡ old.begun → (Tells → TightStays files old new) → (n : ℕ)
        → (Tells → (k : VolumeKnown) → Stands files PieceTells old.logical k → logical.IsFlushed files PieceTells k j n new.logical)
        → (act : VolumeAct) → Behind (made_is.Flushes j) act → Goes (Some act) × Finds (Some act) (λ volume. FlushAnswer volume tag j (Ok n))
    flush_ok begun tight n flushed act is = (
      more (made_is.Flushes j) refl none_set
          (λ tells before s. let f = flushed tells before.volume s in record {
            leads = (f.thawed, within, f.loose, refl);
            stands = f.stands;
            tight = tight_still files tag (made_is.Flushes j) old new before (λ i begins. absurd (cc begins)) (tight tells);
          })
          (same_begun begun) (λ i. refl) (λ i own. own) act is,
      λ opened held h tells k s volume at a b holding. record {
        held = held;
        made = Some act;
        holding = holding;
        is = (
          ap (λ (z : VolumeAct). did_of z.did) is,
          (flushed tells (stood_of faults fuses opened k held).volume (h.stands tells k s)).number
              ∙ ap (λ (z : Standing). (replica_at z.volume j).bare) (stood_is faults fuses opened k volume held at),
        );
      },
    )

    pub flush_failed : new.begun ≡ old.begun → (Tells → TightStays files old new) → (m f : ℕ) (o : Option ℕ) → m ≡ machine_of (old.logical).settings (old.logical).number j
        → logical.HasFailed faults (old.logical).settings (old.logical).number (old.logical).replicas (new.logical).replicas m f
        → (Tells → (k : VolumeKnown) → Stands files PieceTells old.logical k → logical.FlushRefused files PieceTells k j old.logical new.logical (Failed m f))
        → (act : VolumeAct) → Behind (made_is.Sticks j) act → Goes (Some act) × Always (Some act) (λ volume. FlushRefused volume tag j (Failed m f) o)
    flush_failed begun tight m f o machine failed refused act is =
        let goes : Goes (Some act) = more (made_is.Sticks j) refl none_set
        (λ tells before s. let r = refused tells before.volume s in record {
          leads = (r.0, within, r.1, refl);
          stands = r.3;
          tight = tight_still files tag (made_is.Sticks j) old new before (λ i begins. absurd (cc begins)) (tight tells);
        })
        (same_begun begun) (λ i. refl) (λ i own. own) act is in (
          goes,
          λ opened held h k volume at a b holding.
              let rose = failed_act act goes j m f within machine failed opened held h k volume at in (
                on_machine opened held k volume h at m j machine,
                record {
                  held = held;
                  made = Some act;
                  holding = holding;
                  is = (ap (λ (z : VolumeAct). did_of z.did) is, rose);
                },
              ),
        )

    flush_kept : (fault : LogicalFault) → ((m f : ℕ) → fault ≡ Failed m f → ⊥) → (k : VolumeKnown) → logical.FlushRefused files PieceTells k j old.logical new.logical fault
        → Stands files PieceTells old.logical k → Stands files PieceTells new.logical k
    flush_kept (ReadOnly m) not k r s = subst (λ v. Stands files PieceTells v k) (sym r.1) s
    flush_kept (Failed m f) not k r s = absurd (not m f refl)
    flush_kept NoMemory not k r s = r.2
    flush_kept (Full m end need capacity) not k r s = absurd r
    flush_kept (Gone front) not k r s = absurd r
    flush_kept (Busy m g) not k r s = absurd r
    flush_kept (Worn m) not k r s = absurd r
    flush_kept Idle not k r s = absurd r
    flush_kept (Damaged m at) not k r s = absurd r

    pub flush_refused : new.begun ≡ old.begun → (Tells → TightStays files old new) → (fault : LogicalFault) → ((m f : ℕ) → fault ≡ Failed m f → ⊥)
        → (Tells → (k : VolumeKnown) → Stands files PieceTells old.logical k → logical.FlushRefused files PieceTells k j old.logical new.logical fault)
        → (made : Option VolumeAct) → (IsNone made ↔ (counts faults (old.logical).replicas ≡ counts faults (new.logical).replicas)) → IfSome made (Behind made_is.Tries)
        → (o : Option ℕ) → (new.logical).frozen ≡ o → Goes made × Finds made (λ volume. FlushRefused volume tag j fault o)
    flush_refused begun tight fault not refused made even act o frozen = (
      tried (λ tells k s. (flush_kept fault not k (refused tells k s) s, λ thawed i run has. tight tells thawed i)) begun made even act,
      λ opened held h tells k s volume at a b holding.
          found fault not (stood_of faults fuses opened k held) volume held a b holding (stood_is faults fuses opened k volume held at)
          (λ m e. on_machine opened held k volume h at m j e) (known_frozen files PieceTells old.logical (stood_of faults fuses opened k held).volume (h.stands tells k s))
          (refused tells (stood_of faults fuses opened k held).volume (h.stands tells k s)),
    )
      where
        barred : (m : ℕ) (by : Option ℕ) (now : Standing) (volume : StoreVolume) (held : List VolumeAct) (a b : LockSight VolumeAct Entry)
            → Holding volume_lock tag held made a b → now ≡ stood volume.start volume.number held
            → ((m : ℕ) → m ≡ machine_of (old.logical).settings (old.logical).number j → m ≡ machine_of volume.settings volume.number j)
            → new.logical ≡ old.logical → (now.volume).frozen ≡ by
            → ((now.volume).frozen ≡ Some m) ⊎ (((now.volume).frozen ≡ None) × ((replica_at now.volume j).stuck ≡ true) × (m ≡ machine_of (old.logical).settings (old.logical).number j))
            → FlushBarred volume tag j m by a b
        barred m (Some by) now volume held a b holding there machine same is (inl closed) =
            record { held = held; made = made; holding = holding; is = (none_made made even same, sym (ap (λ (z : Standing). (z.volume).frozen) there) ∙ closed) }
        barred m (Some by) now volume held a b holding there machine same is (inr stuck) = absurd (let wrong : ◌≡◌ {A = Option ℕ} None (Some by) = sym stuck.0 ∙ is in cc wrong)
        barred m None now volume held a b holding there machine same is (inl closed) = absurd (let wrong : ◌≡◌ {A = Option ℕ} (Some m) None = sym closed ∙ is in cc wrong)
        barred m None now volume held a b holding there machine same is (inr stuck) = (
          machine m stuck.2,
          record {
            held = held;
            made = made;
            holding = holding;
            is = (none_made made even same, sym (ap (λ (z : Standing). (z.volume).frozen) there) ∙ stuck.0, sym (ap (λ (z : Standing). (replica_at z.volume j).stuck) there) ∙ stuck.1);
          },
        )

        found : (fault : LogicalFault) → ((m f : ℕ) → fault ≡ Failed m f → ⊥) → (now : Standing) (volume : StoreVolume) (held : List VolumeAct) (a b : LockSight VolumeAct Entry)
            → Holding volume_lock tag held made a b → now ≡ stood volume.start volume.number held
            → ((m : ℕ) → m ≡ machine_of (old.logical).settings (old.logical).number j → m ≡ machine_of volume.settings volume.number j)
            → (now.volume).frozen ≡ (old.logical).frozen
            → logical.FlushRefused files PieceTells now.volume j old.logical new.logical fault → FlushRefused volume tag j fault o a b
        found (ReadOnly m) not now volume held a b holding there machine known r =
            barred m o now volume held a b holding there machine r.1 (known ∙ ap (λ v. v.frozen) (sym r.1) ∙ frozen) r.0
        found (Failed m f) not now volume held a b holding there machine known r = absurd (not m f refl)
        found NoMemory not now volume held a b holding there machine known r = record { held = held; made = made; holding = holding; is = nothing_made made act }
        found (Full m end need capacity) not now volume held a b holding there machine known r = absurd r
        found (Gone front) not now volume held a b holding there machine known r = absurd r
        found (Busy m g) not now volume held a b holding there machine known r = absurd r
        found (Worn m) not now volume held a b holding there machine known r = absurd r
        found Idle not now volume held a b holding there machine known r = absurd r
        found (Damaged m at) not now volume held a b holding there machine known r = absurd r

    flush_rest : new.begun ≡ old.begun → (Tells → TightStays files old new) → (fault : LogicalFault) → ((m f : ℕ) → fault ≡ Failed m f → ⊥)
        → (Tells → (k : VolumeKnown) → Stands files PieceTells old.logical k → logical.FlushRefused files PieceTells k j old.logical new.logical fault)
        → (made : Option VolumeAct) → IsTried faults fuses tag (counts faults (old.logical).replicas) (new.logical).replicas made
        → (o : Option ℕ) → (new.logical).frozen ≡ o → Goes made × Finds made (λ volume. FlushRefused volume tag j fault o)
        × ((m f : ℕ) → ◌≡◌ {A = Result ℕ LogicalFault} (Err fault) (Err (Failed m f)) → Always made (λ volume. FlushRefused volume tag j (Failed m f) o))
    flush_rest begun tight fault not refused made tried o frozen =
        let found = flush_refused begun tight fault not refused made tried.quiet tried.is o frozen in
        (found.0, found.1, λ m f e. absurd (not m f (let same : fault ≡ Failed m f = cc e in same)))

    pub flush_found : new.begun ≡ old.begun → (Tells → TightStays files old new) → (answer : Result ℕ LogicalFault)
        → (Tells → (k : VolumeKnown) → Stands files PieceTells old.logical k → IfOk answer (λ n. logical.IsFlushed files PieceTells k j n new.logical))
        → (Tells → (k : VolumeKnown) → Stands files PieceTells old.logical k → IfErr answer (logical.FlushRefused files PieceTells k j old.logical new.logical))
        → IfErr answer (logical.IsFlushFault faults (old.logical).settings (old.logical).number j (old.logical).replicas (new.logical).replicas)
        → (made : Option VolumeAct) → Acts (flush_made j answer) made → (o : Option ℕ) → (new.logical).frozen ≡ o
        → Goes made × Finds made (λ volume. FlushAnswer volume tag j (flush_answer o answer))
        × ((m f : ℕ) → answer ≡ Err (Failed m f) → Always made (λ volume. FlushRefused volume tag j (Failed m f) o))
    flush_found begun tight (Ok n) flushed refused cause made acts o frozen =
        let is = acts.0 (made_is.Flushes j) refl in
        let found = flush_ok begun tight n flushed (act_of faults fuses tag (made_is.Flushes j) (new.logical).replicas) refl in
        subst (λ (z : Option VolumeAct). Goes z × Finds z (λ volume. FlushAnswer volume tag j (Ok n))
        × ((m f : ℕ) → ◌≡◌ {A = Result ℕ LogicalFault} (Ok n) (Err (Failed m f)) → Always z (λ volume. FlushRefused volume tag j (Failed m f) o)))
        (sym is) (found.0, found.1, λ m f e. absurd cc)
    flush_found begun tight (Err (Failed m f)) flushed refused cause made acts o frozen =
        let is = acts.0 (made_is.Sticks j) refl in
        let found = flush_failed begun tight m f o cause.0 cause.1 refused (act_of faults fuses tag (made_is.Sticks j) (new.logical).replicas) refl in
        subst (λ (z : Option VolumeAct). Goes z × Finds z (λ volume. FlushRefused volume tag j (Failed m f) o)
        × ((m' f' : ℕ) → ◌≡◌ {A = Result ℕ LogicalFault} (Err (Failed m f)) (Err (Failed m' f')) → Always z (λ volume. FlushRefused volume tag j (Failed m' f') o)))
        (sym is) (
          found.0,
          λ opened held h tells k s volume at. found.1 opened held h k volume at,
          λ m' f' e. subst (λ (r : Result ℕ LogicalFault). IfErr r (λ fault. Always (Some (act_of faults fuses tag (made_is.Sticks j) (new.logical).replicas))
              (λ volume. FlushRefused volume tag j fault o))) e found.1,
        )
    flush_found begun tight (Err (ReadOnly m)) flushed refused cause made acts o frozen = flush_rest begun tight (ReadOnly m) (λ m f e. absurd cc) refused made (acts.1 refl) o frozen
    flush_found begun tight (Err NoMemory) flushed refused cause made acts o frozen = flush_rest begun tight NoMemory (λ m f e. absurd cc) refused made (acts.1 refl) o frozen
    flush_found begun tight (Err (Full m end need capacity)) flushed refused cause made acts o frozen =
        flush_rest begun tight (Full m end need capacity) (λ m f e. absurd cc) refused made (acts.1 refl) o frozen
    flush_found begun tight (Err (Gone front)) flushed refused cause made acts o frozen = flush_rest begun tight (Gone front) (λ m f e. absurd cc) refused made (acts.1 refl) o frozen
    flush_found begun tight (Err (Busy m g)) flushed refused cause made acts o frozen = flush_rest begun tight (Busy m g) (λ m f e. absurd cc) refused made (acts.1 refl) o frozen
    flush_found begun tight (Err (Worn m)) flushed refused cause made acts o frozen = flush_rest begun tight (Worn m) (λ m f e. absurd cc) refused made (acts.1 refl) o frozen
    flush_found begun tight (Err Idle) flushed refused cause made acts o frozen = flush_rest begun tight Idle (λ m f e. absurd cc) refused made (acts.1 refl) o frozen
    flush_found begun tight (Err (Damaged m at)) flushed refused cause made acts o frozen = flush_rest begun tight (Damaged m at) (λ m f e. absurd cc) refused made (acts.1 refl) o frozen

    -- COMPACTIONS THAT BEGIN

    -- of replica j alone anything changed
    abbrev Others : Type 0
    Others = (i : ℕ) → (i ≡ j → ⊥) → (r r' : Copy D) → At (old.logical).replicas i r → At (new.logical).replicas i r' → r' ≡ r

    pub begin_ok : ((i : ℕ) → i < (old.settings).replicas → slice_index_or new.begun i nobody ≡ begun_in i tag (Begins j) (slice_index_or old.begun i nobody))
        → Others → (Tells → (k : VolumeKnown) → Stands files PieceTells old.logical k → IsTightAt files new.logical j)
        → (g : ℕ) → (Tells → (k : VolumeKnown) → Stands files PieceTells old.logical k → logical.IsBegun files PieceTells k j g new.logical)
        → (act : VolumeAct) → Behind (made_is.Begins j) act → Goes (Some act) × Finds (Some act) (λ volume. BeginAnswer volume tag j (Ok g))
    begin_ok begun others tight g is_begun act is = (
      more (made_is.Begins j) refl none_set
          (λ tells before s. let i = is_begun tells before.volume s in record {
            leads = ((i.thawed, within, (i.rest).0, (i.rest).1, refl));
            stands =
                subst (λ (n : ℕ). Stands files PieceTells new.logical (logical.change_at before.volume j (with_run (record { goal = n; left = (replica_at before.volume j).cells })))) i.next i.stands;
            tight = tight_begun files tag (made_is.Begins j) old new before j of.count (λ thawed. others) refl (tight tells before.volume s);
          })
          begun (λ i. refl) (λ i own. own) act is,
      λ opened held h tells k s volume at a b holding.
          let there : stood_of faults fuses opened k held ≡ stood volume.start volume.number held = stood_is faults fuses opened k volume held at in
          let s_old = h.stands tells k s in
          let i = is_begun tells (stood_of faults fuses opened k held).volume s_old in record {
            held = held;
            made = Some act;
            holding = holding;
            is = (
              ap (λ (z : VolumeAct). did_of z.did) is,
              has_run volume held
                  (subst (λ (z : Standing). j < length ((z.volume).replicas)) there (subst (λ (n : ℕ). j < n) (sym (many_of (stood_of faults fuses opened k held).volume s_old)) within)),
              i.next ∙ ap (λ (z : Standing). (replica_at z.volume j).generation + 1) there,
            );
          },
    )
      where
        has_run : (volume : StoreVolume) (held : List VolumeAct) → j < length ((volume_stood volume.start volume.number held).replicas)
            → HasRunOf volume.settings volume.start volume.number j tag (held ++ act ∷ [])
        has_run volume held less =
            let before : VolumeKnown = volume_stood volume.start volume.number held in
            let after : volume_stood volume.start volume.number (held ++ act ∷ []) ≡ logical.change_at before j begun_at =
            ap (λ (z : Standing). z.volume) (left_append volume_lock ((volume.start).volumes volume.number) held (act ∷ []))
            ∙ ap (λ (z : VolumeAct). known_by z.tag z.did before) is in record {
              run = record { goal = (replica_at before j).generation + 1; left = (replica_at before j).cells };
              stands = ap (λ (z : VolumeKnown). (replica_at z j).run) after
                  ∙ ap (λ (r : ReplicaKnown). r.run) (get_or-set_same before.replicas j (begun_at (replica_at before j)) empty_replica less);
              begun = begun_more j nobody held act
                  ∙ ap (λ (z : VolumeAct). begun_in j z.tag (did_of z.did) (begun_of j nobody held)) is
                  ∙ cond-true (j == j) tag (begun_of j nobody held) (eq-eqb j j refl);
            }

    -- one that stood is as it was
    tight_at_rest : Others → (k : VolumeKnown) → (replica_at k j).run ≡ None → (new.logical).frozen ≡ None → (i : ℕ) (run : Run) → (replica_at k i).run ≡ Some run
        → IsTightAt files old.logical i → IsTightAt files new.logical i
    tight_at_rest others k rests thawed i run has = tight_rest files old new j of.count (λ thawed. others) thawed i
        (λ same. none-some run (sym rests ∙ subst (λ (n : ℕ). (replica_at k n).run ≡ Some run) same has))

    pub begin_failed : new.begun ≡ old.begun → Others → (m f : ℕ) → m ≡ machine_of (old.logical).settings (old.logical).number j
        → logical.HasFailed faults (old.logical).settings (old.logical).number (old.logical).replicas (new.logical).replicas m f
        → (Tells → (k : VolumeKnown) → Stands files PieceTells old.logical k → logical.BeginRefused files PieceTells k j old.logical new.logical (Failed m f))
        → (act : VolumeAct) → Behind made_is.Tries act
        → Goes (Some act) × Always (Some act) (λ volume. FailedLook volume tag j m f) × Finds (Some act) (λ volume. BeginAnswer volume tag j (Err (Failed m f)))
    begin_failed begun others m f machine failed refused act is =
        let goes : Goes (Some act) = more made_is.Tries refl none_set
        (tries_leads Tells files PieceTells faults fuses tag old new (λ tells k s. let r = refused tells k s in (r.3, tight_at_rest others k (r.2).0)))
        (same_begun begun) (λ i. refl) (λ i own. own) act is in (
          goes,
          λ opened held h k volume at a b holding.
              let rose = failed_act act goes j m f within machine failed opened held h k volume at in (
                on_machine opened held k volume h at m j machine,
                record {
                  held = held;
                  made = Some act;
                  holding = holding;
                  is = (ap (λ (z : VolumeAct). did_of z.did) is, rose);
                },
              ),
          λ opened held h tells k s volume at a b holding.
              let there : stood_of faults fuses opened k held ≡ stood volume.start volume.number held = stood_is faults fuses opened k volume held at in
              let r = refused tells (stood_of faults fuses opened k held).volume (h.stands tells k s) in
              let rose = failed_act act goes j m f within machine failed opened held h k volume at in (
                on_machine opened held k volume h at m j machine,
                record {
                  held = held;
                  made = Some act;
                  holding = holding;
                  is = (
                    ap (λ (z : VolumeAct). did_of z.did) is,
                    sym (ap (λ (z : Standing). (z.volume).frozen) there) ∙ r.0,
                    sym (ap (λ (z : Standing). (replica_at z.volume j).run) there) ∙ (r.2).0,
                    subst (λ (z : Standing). (replica_at z.volume j).generation < LAST_GENERATION) there (r.2).1,
                    rose,
                  );
                },
              ),
        )

    tight_same : new.logical ≡ old.logical → (new.logical).frozen ≡ None → (i : ℕ) (run : Run) → IsTightAt files old.logical i → IsTightAt files new.logical i
    tight_same same thawed i run = subst (λ (v : Volume D P). IsTightAt files v i) (sym same)

    begin_tight : Others → (fault : LogicalFault) → ((m f : ℕ) → fault ≡ Failed m f → ⊥) → (k : VolumeKnown) → logical.BeginRefused files PieceTells k j old.logical new.logical fault
        → (new.logical).frozen ≡ None → (i : ℕ) (run : Run) → (replica_at k i).run ≡ Some run → IsTightAt files old.logical i → IsTightAt files new.logical i
    begin_tight others (ReadOnly m) not k r thawed i run has = tight_same r.1 thawed i run
    begin_tight others (Busy m g) not k r thawed i run has = tight_same r.3 thawed i run
    begin_tight others (Worn m) not k r thawed i run has = tight_same r.4 thawed i run
    begin_tight others (Failed m f) not k r thawed i run has = absurd (not m f refl)
    begin_tight others NoMemory not k r thawed i run has = tight_at_rest others k (r.1).0 thawed i run has
    begin_tight others (Full m end need capacity) not k r thawed i run has = absurd r
    begin_tight others (Gone front) not k r thawed i run has = absurd r
    begin_tight others Idle not k r thawed i run has = absurd r
    begin_tight others (Damaged m at) not k r thawed i run has = absurd r

    begin_kept : (fault : LogicalFault) → ((m f : ℕ) → fault ≡ Failed m f → ⊥) → (k : VolumeKnown) → logical.BeginRefused files PieceTells k j old.logical new.logical fault
        → Stands files PieceTells old.logical k → Stands files PieceTells new.logical k
    begin_kept (ReadOnly m) not k r s = subst (λ v. Stands files PieceTells v k) (sym r.1) s
    begin_kept (Busy m g) not k r s = subst (λ v. Stands files PieceTells v k) (sym r.3) s
    begin_kept (Worn m) not k r s = subst (λ v. Stands files PieceTells v k) (sym r.4) s
    begin_kept (Failed m f) not k r s = absurd (not m f refl)
    begin_kept NoMemory not k r s = r.2
    begin_kept (Full m end need capacity) not k r s = absurd r
    begin_kept (Gone front) not k r s = absurd r
    begin_kept Idle not k r s = absurd r
    begin_kept (Damaged m at) not k r s = absurd r

    pub begin_refused : new.begun ≡ old.begun → Others → (fault : LogicalFault) → ((m f : ℕ) → fault ≡ Failed m f → ⊥)
        → (Tells → (k : VolumeKnown) → Stands files PieceTells old.logical k → logical.BeginRefused files PieceTells k j old.logical new.logical fault)
        → (made : Option VolumeAct) → (IsNone made ↔ (counts faults (old.logical).replicas ≡ counts faults (new.logical).replicas)) → IfSome made (Behind made_is.Tries)
        → Goes made × Finds made (λ volume. BeginRefused volume tag j fault)
    begin_refused begun others fault not refused made even act = (
      tried (λ tells k s. let r = refused tells k s in (begin_kept fault not k r s, begin_tight others fault not k r)) begun made even act,
      λ opened held h tells k s volume at a b holding.
          found fault not (stood_of faults fuses opened k held) volume held a b holding (stood_is faults fuses opened k volume held at)
          (λ m e. on_machine opened held k volume h at m j e) (refused tells (stood_of faults fuses opened k held).volume (h.stands tells k s)),
    )
      where
        found : (fault : LogicalFault) → ((m f : ℕ) → fault ≡ Failed m f → ⊥) → (now : Standing) (volume : StoreVolume) (held : List VolumeAct) (a b : LockSight VolumeAct Entry)
            → Holding volume_lock tag held made a b → now ≡ stood volume.start volume.number held
            → ((m : ℕ) → m ≡ machine_of (old.logical).settings (old.logical).number j → m ≡ machine_of volume.settings volume.number j)
            → logical.BeginRefused files PieceTells now.volume j old.logical new.logical fault → BeginRefused volume tag j fault a b
        found (ReadOnly m) not now volume held a b holding there machine r =
            record { held = held; made = made; holding = holding; is = (none_made made even r.1, sym (ap (λ (z : Standing). (z.volume).frozen) there) ∙ r.0) }
        found (Busy m g) not now volume held a b holding there machine r = (
          machine m r.1,
          record {
            held = held;
            made = made;
            holding = holding;
            is = (none_made made even r.3, sym (ap (λ (z : Standing). (z.volume).frozen) there) ∙ r.0, ((r.2).0, sym (ap (λ (z : Standing). (replica_at z.volume j).run) there) ∙ (r.2).1, (r.2).2));
          },
        )
        found (Worn m) not now volume held a b holding there machine r = (
          machine m r.1,
          record {
            held = held;
            made = made;
            holding = holding;
            is = (
              none_made made even r.4,
              sym (ap (λ (z : Standing). (z.volume).frozen) there) ∙ r.0,
              sym (ap (λ (z : Standing). (replica_at z.volume j).run) there) ∙ r.2,
              sym (ap (λ (z : Standing). (replica_at z.volume j).generation) there) ∙ r.3,
            );
          },
        )
        found (Failed m f) not now volume held a b holding there machine r = absurd (not m f refl)
        found NoMemory not now volume held a b holding there machine r = record { held = held; made = made; holding = holding; is = nothing_made made act }
        found (Full m end need capacity) not now volume held a b holding there machine r = absurd r
        found (Gone front) not now volume held a b holding there machine r = absurd r
        found Idle not now volume held a b holding there machine r = absurd r
        found (Damaged m at) not now volume held a b holding there machine r = absurd r

    begin_rest : new.begun ≡ old.begun → Others → (fault : LogicalFault) → ((m f : ℕ) → fault ≡ Failed m f → ⊥)
        → (Tells → (k : VolumeKnown) → Stands files PieceTells old.logical k → logical.BeginRefused files PieceTells k j old.logical new.logical fault)
        → (made : Option VolumeAct) → IsTried faults fuses tag (counts faults (old.logical).replicas) (new.logical).replicas made
        → Goes made × Finds made (λ volume. BeginRefused volume tag j fault)
        × ((m f : ℕ) → ◌≡◌ {A = Result ℕ LogicalFault} (Err fault) (Err (Failed m f)) → Always made (λ volume. FailedLook volume tag j m f))
    begin_rest begun others fault not refused made tried =
        let found = begin_refused begun others fault not refused made tried.quiet tried.is in
        (found.0, found.1, λ m f e. absurd (not m f (let same : fault ≡ Failed m f = cc e in same)))

    pub begin_found : (answer : Result ℕ LogicalFault) → IsBegunBy tag j answer old.begun new.begun → Others
        → (Tells → (k : VolumeKnown) → Stands files PieceTells old.logical k → OnOk answer (IsTightAt files new.logical j))
        → (Tells → (k : VolumeKnown) → Stands files PieceTells old.logical k → IfOk answer (λ g. logical.IsBegun files PieceTells k j g new.logical))
        → (Tells → (k : VolumeKnown) → Stands files PieceTells old.logical k → IfErr answer (logical.BeginRefused files PieceTells k j old.logical new.logical))
        → IfErr answer (logical.IsBeginFault faults (old.logical).settings (old.logical).number j (old.logical).replicas (new.logical).replicas)
        → (made : Option VolumeAct) → Acts (begin_made j answer) made
        → Goes made × Finds made (λ volume. BeginAnswer volume tag j answer)
        × ((m f : ℕ) → answer ≡ Err (Failed m f) → Always made (λ volume. FailedLook volume tag j m f))
    begin_found (Ok g) begun others tight is_begun refused cause made acts =
        let is = acts.0 (made_is.Begins j) refl in
        let found = begin_ok (λ i less. begun i) others tight g is_begun (act_of faults fuses tag (made_is.Begins j) (new.logical).replicas) refl in
        subst (λ (z : Option VolumeAct). Goes z × Finds z (λ volume. BeginAnswer volume tag j (Ok g))
        × ((m f : ℕ) → ◌≡◌ {A = Result ℕ LogicalFault} (Ok g) (Err (Failed m f)) → Always z (λ volume. FailedLook volume tag j m f)))
        (sym is) (found.0, found.1, λ m f e. absurd cc)
    begin_found (Err (Failed m f)) begun others tight is_begun refused cause made acts =
        let is = acts.0 made_is.Tries refl in
        let found = begin_failed begun others m f cause.0 cause.1 refused (act_of faults fuses tag made_is.Tries (new.logical).replicas) refl in
        subst (λ (z : Option VolumeAct). Goes z × Finds z (λ volume. BeginAnswer volume tag j (Err (Failed m f)))
        × ((m' f' : ℕ) → ◌≡◌ {A = Result ℕ LogicalFault} (Err (Failed m f)) (Err (Failed m' f')) → Always z (λ volume. FailedLook volume tag j m' f')))
        (sym is) (
          found.0,
          found.2,
          λ m' f' e.
              let machine : m ≡ m' = cc e in
              let count : f ≡ f' = cc e in
              subst (λ (x : ℕ). Always (Some (act_of faults fuses tag made_is.Tries (new.logical).replicas)) (λ volume. FailedLook volume tag j x f')) machine
              (subst (λ (x : ℕ). Always (Some (act_of faults fuses tag made_is.Tries (new.logical).replicas)) (λ volume. FailedLook volume tag j m x)) count found.1),
        )
    begin_found (Err (ReadOnly m)) begun others tight is_begun refused cause made acts = begin_rest begun others (ReadOnly m) (λ m f e. absurd cc) refused made (acts.1 refl)
    begin_found (Err NoMemory) begun others tight is_begun refused cause made acts = begin_rest begun others NoMemory (λ m f e. absurd cc) refused made (acts.1 refl)
    begin_found (Err (Full m end need capacity)) begun others tight is_begun refused cause made acts =
        begin_rest begun others (Full m end need capacity) (λ m f e. absurd cc) refused made (acts.1 refl)
    begin_found (Err (Gone front)) begun others tight is_begun refused cause made acts = begin_rest begun others (Gone front) (λ m f e. absurd cc) refused made (acts.1 refl)
    begin_found (Err (Busy m g)) begun others tight is_begun refused cause made acts = begin_rest begun others (Busy m g) (λ m f e. absurd cc) refused made (acts.1 refl)
    begin_found (Err (Worn m)) begun others tight is_begun refused cause made acts = begin_rest begun others (Worn m) (λ m f e. absurd cc) refused made (acts.1 refl)
    begin_found (Err Idle) begun others tight is_begun refused cause made acts = begin_rest begun others Idle (λ m f e. absurd cc) refused made (acts.1 refl)
    begin_found (Err (Damaged m at)) begun others tight is_begun refused cause made acts = begin_rest begun others (Damaged m at) (λ m f e. absurd cc) refused made (acts.1 refl)

  -- FUSES

  module _ (of : IsOfOne faults old new) (j : ℕ) (within : j < ((old.logical).settings).replicas) where
    pub fuse_leads : length (old.logical).replicas ≡ ((old.logical).settings).replicas
        → ((r r' : Copy D) → At (old.logical).replicas j r → At (new.logical).replicas j r' → IsNext (fuses r.disk) (fuses r'.disk))
        → ((i : ℕ) → i ≢ j → (r r' : Copy D) → At (old.logical).replicas i r → At (new.logical).replicas i r' → fuses r'.disk ≡ fuses r.disk)
        → LeadsFusesOf fuses old new (Fuses j)
    fuse_leads all next stay before after was is =
        let old_at = at_there (old.logical).replicas j (let h : j < length (old.logical).replicas = omega arith in h) in
        let new_at = at_there (new.logical).replicas j (let h : j < length (new.logical).replicas = omega (arith, of.count) in h) in (
          subst (λ (n : ℕ). IsNext n (after j)) (sym (was j ∙ count_there fuses (old.logical).replicas j old_at.0 old_at.1))
              (subst (λ (n : ℕ). IsNext (fuses ((old_at.0).disk)) n) (sym (is j ∙ count_there fuses (new.logical).replicas j new_at.0 new_at.1)) (next old_at.0 new_at.0 old_at.1 new_at.1)),
          λ i other. is i ∙ count_one fuses (old.logical).replicas (new.logical).replicas of.count (λ a b. b ≡ a) refl i (stay i other) ∙ sym (was i),
        )

    pub fuse_made : new.begun ≡ old.begun → new.ended ≡ old.ended → LeadsFusesOf fuses old new (Fuses j)
        → (Tells → (k : VolumeKnown) → Stands files PieceTells old.logical k → Stands files PieceTells new.logical k)
        → (Tells → TightStays files old new) → (act : VolumeAct) → Behind (made_is.Fuses j) act → Goes (Some act) × Always (Some act) (λ volume. Fused volume.settings volume.start volume.number tag j)
    fuse_made begun ended leads stands tight act is = (
      goes_more Tells files PieceTells faults fuses tag old new (made_is.Fuses j) of leads refl
          (λ tells before s. record {
            leads = (within, refl);
            stands = stands tells before.volume s;
            tight = tight_still files tag (made_is.Fuses j) old new before (λ i begins. absurd (cc begins)) (tight tells);
          })
          (λ i less. ap (λ (l : List CoreTag). slice_index_or l i nobody) begun)
          (ends_none Tells files PieceTells old new (act_of faults fuses tag (made_is.Fuses j) (new.logical).replicas) (λ i. refl) (λ i own. own) ended) act is,
      λ opened held h k volume at a b holding. record { held = held; made = Some act; holding = holding; is = ap (λ (z : VolumeAct). did_of z.did) is },
    )

  -- what a call that sets a fuse tells of the volume and of its disks
  pub fuse_goes : IsOpenVolume old.logical → IsOpenVolume new.logical → IsSame old.logical new.logical → length (new.logical).replicas ≡ length (old.logical).replicas
      → new.logical ≡ record old.logical { replicas = (new.logical).replicas }
      → new.settings ≡ old.settings → new.front ≡ old.front → new.begun ≡ old.begun → new.ended ≡ old.ended → (j : ℕ) → j < ((old.logical).settings).replicas
      → ((r r' : Copy D) → At (old.logical).replicas j r → At (new.logical).replicas j r' → IsNext (fuses r.disk) (fuses r'.disk) × (faults r'.disk ≡ faults r.disk))
      → ((i : ℕ) → (i ≡ j → ⊥) → (r r' : Copy D) → At (old.logical).replicas i r → At (new.logical).replicas i r' → r' ≡ r)
      → (Tells → (k : VolumeKnown) → Stands files PieceTells old.logical k → Stands files PieceTells new.logical k) → (Tells → TightStays files old new)
      → (act : VolumeAct) → Behind (made_is.Fuses j) act → Goes (Some act) × Always (Some act) (λ volume. Fused volume.settings volume.start volume.number tag j)
  fuse_goes open_old open_new same count still settings front begun ended j within fused others stands tight act is =
      fuse_made of j within begun ended
      (fuse_leads of j within open_old.all (λ r r' e f. (fused r r' e f).0) (λ i other r r' e f. ap (λ (x : Copy D). fuses x.disk) (others i other r r' e f))) stands tight act is
    where
      rises : (i : ℕ) (r r' : Copy D) → At (old.logical).replicas i r → At (new.logical).replicas i r' → faults r.disk ≤ faults r'.disk
      rises i r r' e f = elim (cases_order i j) [
        | inl here ↦
            let stay = (fused r r' (subst (λ (n : ℕ). At (old.logical).replicas n r) here e) (subst (λ (n : ℕ). At (new.logical).replicas n r') here f)).1 in
            (let h : faults r.disk ≤ faults r'.disk = omega (arith, stay) in h)
        | inr away ↦
            let stay = ap (λ (x : Copy D). faults x.disk) (others i (apart i j away) r r' e f) in
            (let h : faults r.disk ≤ faults r'.disk = omega (arith, stay) in h)
      ]
        where
          apart : (i j : ℕ) → (i < j) ⊎ (j < i) → i ≡ j → ⊥
          apart i j (inl less) same = omega (arith, less, same)
          apart i j (inr more) same = omega (arith, more, same)

      of : IsOfOne faults old new
      of = record {
        settings = settings;
        front = front;
        same = same;
        is_open = open_new;
        count = count;
        rises = rises;
        thawed = λ thawed. sym (ap (λ v. v.frozen) still) ∙ thawed;
        rows = λ thawed pair. ap (λ v. row_at v.rows pair) still;
      }

-- WHOLE CALLS

module _ {D P : Type 0} (Tells : Type 0) (files : D → Files) (PieceTells : Type 0) (faults fuses : D → ℕ) (tag : CoreTag) (old new : Guarded D P) where
  -- the act for what was done
  acts_by : (before : List ℕ) (did want : Option Made) (made : Option VolumeAct) → before ≡ counts faults (old.logical).replicas → did ≡ want
      → ((m : Made) → did ≡ Some m → made ≡ Some (act_of faults fuses tag m (new.logical).replicas))
      → (did ≡ None → IsTried faults fuses tag before (new.logical).replicas made)
      → ((m : Made) → want ≡ Some m → made ≡ Some (act_of faults fuses tag m (new.logical).replicas))
      × (want ≡ None → IsTried faults fuses tag (counts faults (old.logical).replicas) (new.logical).replicas made)
  acts_by before did want made same is some none =
      (λ m e. some m (is ∙ e), λ e. subst (λ (l : List ℕ). IsTried faults fuses tag l (new.logical).replicas made) same (none (is ∙ e)))

  -- the replicas alone changed
  pub record Changed : Type 0 where
    pub settings : new.settings ≡ old.settings
    pub front : new.front ≡ old.front
    pub ended : new.ended ≡ old.ended
    pub same : IsSame old.logical new.logical
    pub is_open : IsOpenVolume new.logical
    pub counts : KeepsCounts faults fuses (old.logical).replicas (new.logical).replicas
    pub still : new.logical ≡ record old.logical { replicas = (new.logical).replicas }

  module _ (change : Changed) (j : ℕ) (within : j < ((old.logical).settings).replicas) (answer : Result ℕ LogicalFault) (before : List ℕ)
      (was : before ≡ counts faults (old.logical).replicas) (did : Option Made) (made : Option VolumeAct)
      (some : (m : Made) → did ≡ Some m → made ≡ Some (act_of faults fuses tag m (new.logical).replicas))
      (none : did ≡ None → IsTried faults fuses tag before (new.logical).replicas made) where
    abbrev both : IsOfOne faults old new × FusesStay fuses old new
    both = of_still faults fuses old new change.settings change.front change.same change.is_open change.counts change.still

    pub flush_call : new.begun ≡ old.begun → (Tells → TightStays files old new)
        → (Tells → (k : VolumeKnown) → Stands files PieceTells old.logical k → IfOk answer (λ n. logical.IsFlushed files PieceTells k j n new.logical))
        → (Tells → (k : VolumeKnown) → Stands files PieceTells old.logical k → IfErr answer (logical.FlushRefused files PieceTells k j old.logical new.logical))
        → IfErr answer (logical.IsFlushFault faults (old.logical).settings (old.logical).number j (old.logical).replicas (new.logical).replicas)
        → did ≡ flush_made j answer → (o : Option ℕ) → (new.logical).frozen ≡ o
        → GoesOn Tells files PieceTells faults fuses tag old new made
        × Found Tells files PieceTells faults fuses tag old made (λ volume. FlushAnswer volume tag j (flush_answer o answer))
        × ((m f : ℕ) → answer ≡ Err (Failed m f) → FoundAlways Tells files PieceTells faults fuses tag old made (λ volume. FlushRefused volume tag j (Failed m f) o))
    flush_call begun tight flushed refused cause is o frozen =
        flush_found Tells files PieceTells faults fuses tag old new both.0 both.1 change.ended j within begun tight answer flushed refused cause made
        (acts_by before did (flush_made j answer) made was is some none) o frozen

    pub begin_call : IsBegunBy tag j answer old.begun new.begun
        → ((i : ℕ) → (i ≡ j → ⊥) → (r r' : Copy D) → At (old.logical).replicas i r → At (new.logical).replicas i r' → r' ≡ r)
        → (Tells → (k : VolumeKnown) → Stands files PieceTells old.logical k → OnOk answer (IsTightAt files new.logical j))
        → (Tells → (k : VolumeKnown) → Stands files PieceTells old.logical k → IfOk answer (λ g. logical.IsBegun files PieceTells k j g new.logical))
        → (Tells → (k : VolumeKnown) → Stands files PieceTells old.logical k → IfErr answer (logical.BeginRefused files PieceTells k j old.logical new.logical))
        → IfErr answer (logical.IsBeginFault faults (old.logical).settings (old.logical).number j (old.logical).replicas (new.logical).replicas)
        → did ≡ begin_made j answer
        → GoesOn Tells files PieceTells faults fuses tag old new made
        × Found Tells files PieceTells faults fuses tag old made (λ volume. BeginAnswer volume tag j answer)
        × ((m f : ℕ) → answer ≡ Err (Failed m f) → FoundAlways Tells files PieceTells faults fuses tag old made (λ volume. FailedLook volume tag j m f))
    begin_call begun others tight is_begun refused cause is =
        begin_found Tells files PieceTells faults fuses tag old new both.0 both.1 change.ended j within answer begun others tight is_begun refused cause made
        (acts_by before did (begin_made j answer) made was is some none)
