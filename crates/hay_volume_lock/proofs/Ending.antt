-- What the end of a compaction leaves and tells, by what the calls of a volume tell.
use Rattle.std.proofs.Common.{◌≡◌, ℕ, ◌+◌, ◌<◌, true, false, List, [], Option, Some, None, refl, sym, ap, subst, ◌∙◌, arith}
use Rattle.std.specs.Prelude.{Result, Ok, Err, slice_index_or}
use Rattle.hay_core.specs.declared.entry.CoreTag.{CoreTag}
use Rattle.hay_disk.specs.Disk.{Files}
use Rattle.hay_front.specs.Entries.{LogEntry}
use Rattle.hay_front.specs.Fronts.{logged, with_deed}
use Rattle.hay_legal.specs.declared.known.VolumeKnown.{VolumeKnown}
use Rattle.hay_legal.specs.Known.{machine_of, replica_at}
use Rattle.hay_legal.specs.Plain.{first_machine, frozen_by}
use Rattle.hay_history.specs.LaneSteps.{Standing}
use Rattle.hay_history.specs.LaneSteps.Did.{Swaps}
use Rattle.hay_logical.specs.declared.fault.LogicalFault.{LogicalFault}
use Rattle.hay_logical.specs.declared.fault.LogicalFault.TheVariants.{Busy, Damaged, Failed, Full, Gone, Idle, NoMemory, ReadOnly, Worn}
use Rattle.hay_logical.specs.Answers.{IsTight}
use Rattle.hay_logical.specs.Fits.{At}
use Rattle.hay_logical.specs.Stands.{IsFrozen, IsTightAt, Stands, StandsBy}
use Rattle.hay_logical.specs.Volumes.{IsOpenVolume, IsSame, KeepsCounts, Volume}
use Rattle.hay_logical.proofs.Lists.{at_there}
use Rattle.hay_map.specs.Rows.{ChangesRows, row_at}
use Rattle.hay_map.specs.declared.view.MapOp.TheVariants as op
use Rattle.hay_map.specs.declared.view.OpenCell.{OpenCell}
use Rattle.hay_holdings.specs.Volumes.{Swapped, Switched}
use Rattle.hay_meeting.specs.declared.act.VolumeAct.{VolumeAct}
use Rattle.hay_meeting.specs.Acts.{did_of, is_frozen_then, nobody}
use Rattle.hay_meeting.specs.Sights.{stood}
use Rattle.hay_needle.specs.declared.needle.Pair.{Pair}
use Rattle.hay_needle.specs.declared.settings.Settings.{Settings}
use Rattle.hay_views.specs.declared.places.Published.{Published}
use Rattle.hay_views.specs.MapPasts.{is_entry}
use Rattle.hay_physical.specs.OpenCopies.{Copy}
use Rattle.hay_volume_lock.specs.Acts.{act_of}
use Rattle.hay_volume_lock.specs.Answers.{Found}
use Rattle.hay_volume_lock.specs.Compactions.{IsBarred, MayGoOn, Unswapped}
use Rattle.hay_volume_lock.specs.Finishes.{CompactAnswer, CompactRefused, FinishAnswer, FinishRefused, IsLost}
use Rattle.hay_volume_lock.specs.Keeping.{stood_of}
use Rattle.hay_volume_lock.specs.Since.{SinceBegun}
use Rattle.hay_volume_lock.specs.declared.act.Made.TheVariants as made_is
use Rattle.hay_volume_lock.specs.declared.guarded.Guarded.{Guarded}
use Rattle.hay_volume_lock.specs.declared.refusals.Finished.{Finished}
use Rattle.hay_volume_lock.specs.declared.refusals.Uncompacted.{Uncompacted}
use Rattle.hay_volume_lock.specs.declared.refusals.Uncompacted.TheVariants as lost
use Rattle.hay_volume_lock.specs.declared.refusals.Unfinished.{Unfinished}
use Rattle.hay_volume_lock.proofs.Growing.{IsOfOne}
use Rattle.hay_volume_lock.proofs.Holding.{stood_is}
use Rattle.hay_volume_lock.proofs.Lost.{OwnSights, deleted_lost, frozen_lost, never_lost}
use Rattle.hay_volume_lock.proofs.Moving.{swap_shown, swap_unshown}
use Rattle.hay_volume_lock.proofs.Publishing.{Changes}
use Rattle.hay_volume_lock.proofs.Stepping.{barred_found}
use Rattle.hay_volume_lock.proofs.Swapping.{IsSwap}
use Rattle.hay_volume_lock.proofs.Tightening.{tight_since}

-- a volume that can be frozen by no machine
pub none_frozen : (o : Option ℕ) → ((m : ℕ) → o ≡ Some m → ⊥) → o ≡ None
none_frozen None not = refl
none_frozen (Some m) not = absurd (not m refl)

pub unfinished_same : {fault : LogicalFault} {by o : Option ℕ} {m f : ℕ}
    → ◌≡◌ {A = Result Finished Unfinished} (Err (record { fault = fault; frozen = by })) (Err (record { fault = Failed m f; frozen = o })) → fault ≡ Failed m f
unfinished_same {fault} {by} {o} {m} {f} is =
    let same : ◌≡◌ {A = Unfinished} (record { fault = fault; frozen = by }) (record { fault = Failed m f; frozen = o }) = cc is in ap (λ (u : Unfinished). u.fault) same

module _ {D P : Type 0} (Tells : Type 0) (files : D → Files) (PieceTells : Type 0) (faults fuses : D → ℕ) (tag : CoreTag) (old : Guarded D P) (j : ℕ)
    (within : j < ((old.logical).settings).replicas) where
  abbrev owner : CoreTag
  owner = slice_index_or old.begun j nobody

  abbrev Stood : VolumeKnown → Type 0
  Stood k = Stands files PieceTells old.logical k

  -- none goes on
  pub finish_barred : (fault : LogicalFault) (frozen : Option ℕ) → (Tells → (k : VolumeKnown) → Stood k → IsBarred k j tag.lane owner fault)
      → Found Tells files PieceTells faults fuses tag old None (λ volume. FinishRefused volume tag j fault frozen)
  finish_barred (ReadOnly m) frozen known = barred_found Tells files PieceTells faults fuses tag old j within 0 0 (ReadOnly m) known
  finish_barred Idle frozen known = barred_found Tells files PieceTells faults fuses tag old j within 0 0 Idle known
  finish_barred NoMemory frozen known = λ opened held h tells k s volume at a b holding. absurd (known tells (stood_of faults fuses opened k held).volume (h.stands tells k s))
  finish_barred (Failed m f) frozen known = λ opened held h tells k s volume at a b holding. absurd (known tells (stood_of faults fuses opened k held).volume (h.stands tells k s))
  finish_barred (Damaged m place) frozen known = λ opened held h tells k s volume at a b holding. absurd (known tells (stood_of faults fuses opened k held).volume (h.stands tells k s))
  finish_barred (Full m end need capacity) frozen known = λ opened held h tells k s volume at a b holding. absurd (known tells (stood_of faults fuses opened k held).volume (h.stands tells k s))
  finish_barred (Gone front) frozen known = λ opened held h tells k s volume at a b holding. absurd (known tells (stood_of faults fuses opened k held).volume (h.stands tells k s))
  finish_barred (Busy m g) frozen known = λ opened held h tells k s volume at a b holding. absurd (known tells (stood_of faults fuses opened k held).volume (h.stands tells k s))
  finish_barred (Worn m) frozen known = λ opened held h tells k s volume at a b holding. absurd (known tells (stood_of faults fuses opened k held).volume (h.stands tells k s))

  module _ (own : owner.lane ≡ tag.lane) where
    -- it was refused
    pub finish_refused : (act : VolumeAct) (fault : LogicalFault) (frozen : Option ℕ)
        → Found Tells files PieceTells faults fuses tag old (Some act) (λ volume. Unswapped volume tag j fault frozen owner)
        → Found Tells files PieceTells faults fuses tag old (Some act) (λ volume. FinishRefused volume tag j fault frozen)
    finish_refused act (Failed m f) frozen found opened held h tells k s volume at a b holding = (owner, own, found opened held h tells k s volume at a b holding)
    finish_refused act NoMemory frozen found opened held h tells k s volume at a b holding = (owner, own, found opened held h tells k s volume at a b holding)
    finish_refused act (ReadOnly m) frozen found opened held h tells k s volume at a b holding = absurd (found opened held h tells k s volume at a b holding)
    finish_refused act Idle frozen found opened held h tells k s volume at a b holding = absurd (found opened held h tells k s volume at a b holding)
    finish_refused act (Damaged m place) frozen found opened held h tells k s volume at a b holding = absurd (found opened held h tells k s volume at a b holding)
    finish_refused act (Full m end need capacity) frozen found opened held h tells k s volume at a b holding = absurd (found opened held h tells k s volume at a b holding)
    finish_refused act (Gone front) frozen found opened held h tells k s volume at a b holding = absurd (found opened held h tells k s volume at a b holding)
    finish_refused act (Busy m g) frozen found opened held h tells k s volume at a b holding = absurd (found opened held h tells k s volume at a b holding)
    finish_refused act (Worn m) frozen found opened held h tells k s volume at a b holding = absurd (found opened held h tells k s volume at a b holding)

    -- its files are the current ones
    switched_found : (g end cells : ℕ) (frozen : Option ℕ) (act : VolumeAct) → did_of act.did ≡ Swaps j end cells (is_frozen_then frozen)
        → (Tells → (k : VolumeKnown) → Stood k → MayGoOn k j tag.lane owner) → (Tells → (k : VolumeKnown) → Stood k → g ≡ (replica_at k j).generation + 1)
        → Found Tells files PieceTells faults fuses tag old (Some act) (λ volume. Switched volume.settings volume.start volume.number tag j owner g end cells (is_frozen_then frozen))
    switched_found g end cells frozen act did may next opened held h tells k s volume at a b holding =
        let there : stood_of faults fuses opened k held ≡ stood volume.start volume.number held = stood_is faults fuses opened k volume held at in
        let now = may tells (stood_of faults fuses opened k held).volume (h.stands tells k s) in
        record {
          held = held;
          made = Some act;
          holding = holding;
          is = (
            did,
            record {
              run = (now.stands).0;
              stands = sym (ap (λ (z : Standing). (replica_at z.volume j).run) there) ∙ (now.stands).1;
              begun = sym (h.begun j (subst (λ z. j < z.replicas) h.same_settings within));
            },
            next tells (stood_of faults fuses opened k held).volume (h.stands tells k s) ∙ ap (λ (z : Standing). (replica_at z.volume j).generation + 1) there,
          );
        }

    pub finish_found : (g end cells : ℕ) (frozen : Option ℕ) (act : VolumeAct) → did_of act.did ≡ Swaps j end cells (is_frozen_then frozen)
        → (Tells → (k : VolumeKnown) → Stood k → MayGoOn k j tag.lane owner) → (Tells → (k : VolumeKnown) → Stood k → g ≡ (replica_at k j).generation + 1)
        → Found Tells files PieceTells faults fuses tag old (Some act) (λ volume. FinishAnswer volume tag j (Ok (record { generation = g; frozen = is_frozen_then frozen })))
    finish_found g end cells frozen act did may next opened held h tells k s volume at a b holding =
        (end, cells, (owner, own, switched_found g end cells frozen act did may next opened held h tells k s volume at a b holding))

    -- of just the sizes of what stood, where no entry came since it began
    swapped_found : (g end cells : ℕ) (frozen : Option ℕ) (act : VolumeAct) → did_of act.did ≡ Swaps j end cells (is_frozen_then frozen)
        → (Tells → (k : VolumeKnown) → Stood k → MayGoOn k j tag.lane owner) → (Tells → (k : VolumeKnown) → Stood k → g ≡ (replica_at k j).generation + 1)
        → (old.logical).frozen ≡ None → (Tells → (k : VolumeKnown) → Stood k → IsTightAt files old.logical j → IsTight k j end cells)
        → Found Tells files PieceTells faults fuses tag old (Some act) (λ volume. Swapped volume.settings volume.start volume.number tag j owner g end cells (is_frozen_then frozen))
    unfolding switched_found
    swapped_found g end cells frozen act did may next thawed tight opened held h tells k s volume at a b holding =
        let there : stood_of faults fuses opened k held ≡ stood volume.start volume.number held = stood_is faults fuses opened k volume held at in
        let switched = switched_found g end cells frozen act did may next opened held h tells k s volume at a b holding in
        record {
          held = held;
          made = Some act;
          holding = holding;
          is = (
            switched.is,
            tight_since volume.settings volume.start volume.number j end cells owner held (IsTightAt files old.logical j)
                (subst (λ (z : Standing). SinceBegun z j held (IsTightAt files old.logical j)) (sym at.start) (h.tight tells thawed k s j))
                (switched.is).1
                (λ is. subst (λ (z : Standing). IsTight z.volume j end cells) there (tight tells (stood_of faults fuses opened k held).volume (h.stands tells k s) is)),
          );
        }

    pub compact_found : owner ≡ tag → (g end cells : ℕ) (frozen : Option ℕ) (act : VolumeAct) → did_of act.did ≡ Swaps j end cells (is_frozen_then frozen)
        → (Tells → (k : VolumeKnown) → Stood k → MayGoOn k j tag.lane owner) → (Tells → (k : VolumeKnown) → Stood k → g ≡ (replica_at k j).generation + 1)
        → (old.logical).frozen ≡ None → (Tells → (k : VolumeKnown) → Stood k → IsTightAt files old.logical j → IsTight k j end cells)
        → Found Tells files PieceTells faults fuses tag old (Some act) (λ volume. OwnSights tag (CompactAnswer volume tag j (Ok (record { generation = g; frozen = is_frozen_then frozen }))))
    compact_found is_own g end cells frozen act did may next thawed tight opened held h tells k s volume at a b holding own_then own_now has = (
      end,
      cells,
      subst (λ (who : CoreTag). Swapped volume.settings volume.start volume.number tag j who g end cells (is_frozen_then frozen) a b) is_own
          (swapped_found g end cells frozen act did may next thawed tight opened held h tells k s volume at a b holding),
    )

    module _ (may : Tells → (k : VolumeKnown) → Stood k → MayGoOn k j tag.lane owner) (thawed : (old.logical).frozen ≡ None)
        (g end count : ℕ) (mid : Volume D P) (cells : List (OpenCell P)) (deed : Published P)
        (deed_is : deed ≡ record { change = op.Swap j cells; entered = [] }) (rows : ChangesRows (op.Swap j cells) (old.logical).rows mid.rows)
        (swap : Tells → (k : VolumeKnown) → Stands files PieceTells old.logical k → IsSwap files PieceTells k j g end count mid)
        (same : IsSame old.logical mid) (is_open : IsOpenVolume mid) (counts : KeepsCounts faults fuses (old.logical).replicas mid.replicas)
        (new : Guarded D P) (settings : new.settings ≡ old.settings) (begun : new.begun ≡ old.begun) (ended : new.ended ≡ old.ended) where
      -- where the photos stand was published
      pub finish_shown : (mid.frozen ≡ (old.logical).frozen → (i : ℕ) → (i ≡ j → ⊥) → (r r' : Copy D) → At (old.logical).replicas i r → At mid.replicas i r' → r' ≡ r)
          → (item : LogEntry (Published P)) → new.front ≡ record { shown = with_deed (old.front).shown deed; log = logged (is_entry deed.change) (old.front).log item; closed = false }
          → new.logical ≡ mid → (act : VolumeAct) → act ≡ act_of faults fuses tag (made_is.Swaps j end count None) (new.logical).replicas
          → Changes Tells files PieceTells faults fuses tag old new (Some act)
          × Found Tells files PieceTells faults fuses tag old (Some act) (λ volume. FinishAnswer volume tag j (Ok (record { generation = g; frozen = false })))
      finish_shown others item front is_mid act is = (
        swap_shown Tells files PieceTells faults fuses tag old j g end count within thawed mid cells deed deed_is rows swap same is_open counts new settings begun ended own others
            item front is_mid act is,
        finish_found g end count None act (ap (λ (z : VolumeAct). did_of z.did) is) may (λ tells k s. (swap tells k s).next),
      )

      -- or the volume was frozen for want of memory
      pub finish_unshown : IsSame mid new.logical → IsOpenVolume new.logical → KeepsCounts faults fuses mid.replicas (new.logical).replicas
          → (new.logical).frozen ≡ Some (first_machine mid.settings mid.number)
          → (Tells → (k : VolumeKnown) → Stands files PieceTells mid k → k.frozen ≡ None → Stands files PieceTells new.logical (frozen_by (first_machine mid.settings mid.number) k))
          → (new.front).shown ≡ (old.front).shown → (new.front).log ≡ (old.front).log
          → (by : Option ℕ) → by ≡ (new.logical).frozen → (act : VolumeAct) → act ≡ act_of faults fuses tag (made_is.Swaps j end count by) (new.logical).replicas
          → Changes Tells files PieceTells faults fuses tag old new (Some act)
          × Found Tells files PieceTells faults fuses tag old (Some act) (λ volume. FinishAnswer volume tag j (Ok (record { generation = g; frozen = true })))
      finish_unshown again new_open more frozen froze shown log by by_is act is =
          let m : ℕ = first_machine (old.logical).settings (old.logical).number in
          let first : first_machine mid.settings mid.number ≡ m = ap (λ (s : Settings). machine_of s mid.number 0) same.settings ∙ ap (λ (v : ℕ). machine_of (old.logical).settings v 0) same.number in
          let act_is : act ≡ act_of faults fuses tag (made_is.Swaps j end count (Some m)) (new.logical).replicas =
          is ∙ ap (λ (o : Option ℕ). act_of faults fuses tag (made_is.Swaps j end count o) (new.logical).replicas) (by_is ∙ frozen ∙ ap Some first) in (
            swap_unshown Tells files PieceTells faults fuses tag old j g end count within thawed mid cells deed deed_is rows swap same is_open counts new settings begun ended own
                again new_open more frozen froze shown log act act_is,
            finish_found g end count (Some m) act (ap (λ (z : VolumeAct). did_of z.did) act_is) may (λ tells k s. (swap tells k s).next),
          )

      module _ (is_own : owner ≡ tag) (tight : Tells → (k : VolumeKnown) → Stood k → IsTightAt files old.logical j → IsTight k j end count) where
        pub compact_shown : (act : VolumeAct) → act ≡ act_of faults fuses tag (made_is.Swaps j end count None) (new.logical).replicas
            → Found Tells files PieceTells faults fuses tag old (Some act) (λ volume. OwnSights tag (CompactAnswer volume tag j (Ok (record { generation = g; frozen = false }))))
        compact_shown act is = compact_found is_own g end count None act (ap (λ (z : VolumeAct). did_of z.did) is) may (λ tells k s. (swap tells k s).next) thawed tight

        pub compact_unshown : (by : Option ℕ) (m : ℕ) → by ≡ Some m → (act : VolumeAct) → act ≡ act_of faults fuses tag (made_is.Swaps j end count by) (new.logical).replicas
            → Found Tells files PieceTells faults fuses tag old (Some act) (λ volume. OwnSights tag (CompactAnswer volume tag j (Ok (record { generation = g; frozen = true }))))
        compact_unshown by m by_is act is =
            compact_found is_own g end count (Some m) act (ap (λ (z : VolumeAct). did_of z.did) is ∙ ap (λ (o : Option ℕ). Swaps j end count (is_frozen_then o)) by_is)
            may (λ tells k s. (swap tells k s).next) thawed tight

  -- A LINE'S OWN COMPACTION

  -- it does not stand
  pub compact_lost : tag.lane < 8 → (refusal : Uncompacted) → (Tells → (k : VolumeKnown) → Stood k → IsLost k j tag owner old.ended refusal)
      → Found Tells files PieceTells faults fuses tag old None (λ volume. OwnSights tag (CompactRefused volume tag j refusal))
  compact_lost few (lost.Unfinished unfinished) known = λ opened held h tells k s volume at a b holding. absurd (known tells (stood_of faults fuses opened k held).volume (h.stands tells k s))
  compact_lost few (lost.Frozen m) known = frozen_lost Tells files PieceTells faults fuses tag old j within m known
  compact_lost few (lost.Deleted f) known = λ opened held h tells k s volume at a b holding.
      deleted_lost Tells files PieceTells faults fuses tag old j within few (Some f) (known tells (stood_of faults fuses opened k held).volume (h.stands tells k s)).2
      (λ told behind stands. ((known told behind stands).0, (known told behind stands).1)) f refl opened held h tells k s volume at a b holding
  compact_lost few lost.Idle known = λ opened held h tells k s volume at a b holding.
      never_lost Tells files PieceTells faults fuses tag old j within few None (known tells (stood_of faults fuses opened k held).volume (h.stands tells k s)).2
      (λ told behind stands. ((known told behind stands).0, (known told behind stands).1)) refl opened held h tells k s volume at a b holding

  -- it was refused
  pub compact_refused : owner ≡ tag → (act : VolumeAct) (fault : LogicalFault) (frozen : Option ℕ)
      → Found Tells files PieceTells faults fuses tag old (Some act) (λ volume. Unswapped volume tag j fault frozen owner)
      → Found Tells files PieceTells faults fuses tag old (Some act) (λ volume. OwnSights tag (CompactRefused volume tag j (lost.Unfinished (record { fault = fault; frozen = frozen }))))
  compact_refused is_own act fault frozen found opened held h tells k s volume at a b holding own_then own_now has =
      subst (λ (who : CoreTag). Unswapped volume tag j fault frozen who a b) is_own (found opened held h tells k s volume at a b holding)

-- a frozen volume has no compaction
pub idle_frozen : {D P : Type 0} (files : D → Files) (PieceTells : Type 0) (volume : Volume D P) (k : VolumeKnown) → Stands files PieceTells volume k → (m : ℕ) → volume.frozen ≡ Some m → (j : ℕ)
    → j < (volume.settings).replicas
    → (replica_at k j).run ≡ None
unfolding Stands
idle_frozen files PieceTells volume k s m frozen j less =
    let by : IsFrozen files PieceTells volume k = subst (λ (o : Option ℕ). StandsBy files PieceTells volume k o) frozen s.by in
    let r = at_there volume.replicas j (let all = s.all in omega (arith, all, less)) in (by.idle j r.0 r.1).0

pub uncompacted_same : {refusal : Uncompacted} {m f : ℕ} {o : Option ℕ} → ◌≡◌ {A = Result Finished Uncompacted} (Err refusal) (Err (lost.Unfinished (record { fault = Failed m f; frozen = o })))
    → refusal ≡ lost.Unfinished (record { fault = Failed m f; frozen = o })
uncompacted_same is = cc is

pub compact_failed : {fault : LogicalFault} {by o : Option ℕ} {m f : ℕ}
    → ◌≡◌ {A = Result Finished Uncompacted} (Err (lost.Unfinished (record { fault = fault; frozen = by }))) (Err (lost.Unfinished (record { fault = Failed m f; frozen = o }))) → fault ≡ Failed m f
compact_failed {fault} {by} {o} {m} {f} is =
    let same : ◌≡◌ {A = Unfinished} (record { fault = fault; frozen = by }) (record { fault = Failed m f; frozen = o }) = cc is in ap (λ (u : Unfinished). u.fault) same

-- a refusal left the front and the rows
pub finish_of : {D P : Type 0} (faults fuses : D → ℕ) (old new : Guarded D P) → new.settings ≡ old.settings → new.front ≡ old.front → IsSame old.logical new.logical → IsOpenVolume new.logical
    → KeepsCounts faults fuses (old.logical).replicas (new.logical).replicas → ((m : ℕ) → (old.logical).frozen ≡ Some m → new.logical ≡ old.logical)
    → ((pair : Pair) → row_at (new.logical).rows pair ≡ row_at (old.logical).rows pair) → IsOfOne faults old new
finish_of faults fuses old new settings front same is_open counts frozen rows = record {
  settings = settings;
  front = front;
  same = same;
  is_open = is_open;
  count = counts.count;
  rises = counts.rises;
  thawed = λ thawed. none_frozen (old.logical).frozen (λ m is. let wrong : ◌≡◌ {A = Option ℕ} None (Some m) = sym thawed ∙ ap (λ v. v.frozen) (frozen m is) ∙ is in cc wrong);
  rows = λ thawed pair. rows pair;
}
