-- Acts that set no fuse.
use Rattle.std.proofs.Common.{◌≡◌, ◌≢◌, ℕ, List, [], ◌∷◌, ◌++◌, Bool, false, Option, Some, None, Result, Ok, Err, refl, sym, ap, subst, ◌∙◌}
use Rattle.std.specs.Prelude.{IfSome}
use Rattle.std.specs.List.{AllByRecursion as Each}
use Rattle.hay_core.specs.declared.entry.CoreTag.{CoreTag}
use Rattle.hay_core.specs.declared.entry.Entry.{Entry}
use Rattle.hay_history.specs.LaneSteps.{LeadsFuses}
use Rattle.hay_logical.specs.declared.fault.LogicalFault.{LogicalFault}
use Rattle.hay_logical.specs.declared.fault.LogicalFault.TheVariants.{Busy, Damaged, Failed, Full, Gone, Idle, NoMemory, ReadOnly, Worn}
use Rattle.hay_meeting.specs.declared.act.VolumeAct.{VolumeAct}
use Rattle.hay_meeting.specs.declared.act.VolumeDid.{VolumeDid}
use Rattle.hay_meeting.specs.declared.act.VolumeDid.TheVariants as did
use Rattle.hay_meeting.specs.Acts.{did_of}
use Rattle.hay_physical.specs.OpenCopies.{Copy}
use Rattle.hay_turn.specs.Slots.{acts_in}
use Rattle.hay_volume_lock.specs.Acts.{SetNoFuse, act_of, did_by}
use Rattle.hay_volume_lock.specs.Changes.{freezes_by, pends_by, put_made}
use Rattle.hay_volume_lock.specs.Compactions.{halted_made, step_made, stopped_made, unswapped_made}
use Rattle.hay_volume_lock.specs.Deletes.{delete_made, failed_made}
use Rattle.hay_volume_lock.specs.Tries.{IsTried, begin_made, flush_made, stuck_made, tried_made}
use Rattle.hay_volume_lock.specs.declared.act.Made.{Made}
use Rattle.hay_volume_lock.specs.declared.act.Made.TheVariants as made
use Rattle.hay_volume_lock.specs.declared.compactions.Examined.{Examined}

-- LISTS OF ACTS

each_first : {A : Type 0} (P : A → Type 0) (xs ys : List A) → Each P (xs ++ ys) → Each P xs
each_first P [] ys each = tt
each_first P (x ∷ xs) ys each = (each.0, each_first P xs ys each.1)

each_rest : {A : Type 0} (P : A → Type 0) (xs ys : List A) → Each P (xs ++ ys) → Each P ys
each_rest P [] ys each = each
each_rest P (x ∷ xs) ys each = each_rest P xs ys each.1

-- WHAT WAS DONE

-- it is no fuse
abbrev pub IsNoFuse : Made → Type 0
IsNoFuse what = (j : ℕ) → did_by what ≢ did.Fuses j

-- so what was done left how many are set
stays_by : (what : VolumeDid) → ((j : ℕ) → what ≢ did.Fuses j) → (before after : ℕ → ℕ) → LeadsFuses (did_of what) before after → (j : ℕ) → after j ≡ before j
stays_by did.Tries none before after leads = leads
stays_by (did.Entered change ended) none before after leads = leads
stays_by (did.Pends m change failed) none before after leads = leads
stays_by (did.Freezes m) none before after leads = leads
stays_by (did.Flushes i) none before after leads = leads
stays_by (did.Sticks i) none before after leads = leads
stays_by (did.Begins i) none before after leads = leads
stays_by (did.Examines i n) none before after leads = leads
stays_by (did.Ends i) none before after leads = leads
stays_by (did.Swaps i end cells frozen) none before after leads = leads
stays_by (did.Poises m i) none before after leads = leads
stays_by (did.Fuses i) none before after leads = absurd (none i refl)

-- and so did acts, the last one of which did that
pub unfused_more : (acts : List VolumeAct) (act : VolumeAct) (first before after : ℕ → ℕ) → LeadsFuses (did_of act.did) before after
    → (SetNoFuse acts → (j : ℕ) → before j ≡ first j) → SetNoFuse (acts ++ act ∷ []) → (j : ℕ) → after j ≡ first j
unfused_more acts act first before after leads stood none j =
    stays_by act.did (each_rest (λ a. (i : ℕ) → a.did ≢ did.Fuses i) acts (act ∷ []) none).0 before after leads j
    ∙ stood (each_first (λ a. (i : ℕ) → a.did ≢ did.Fuses i) acts (act ∷ []) none) j

pub pends_unfused : (frozen : Option ℕ) (change : Entry) (failed : Bool) → IfSome (pends_by frozen change failed) IsNoFuse
pends_unfused None change failed = tt
pends_unfused (Some m) change failed = λ j is. cc is

pub put_unfused : (frozen : Option ℕ) (change : Entry) (fault : LogicalFault) → IfSome (put_made frozen change fault) IsNoFuse
put_unfused frozen change (Failed m f) = λ j is. cc is
put_unfused frozen change NoMemory = pends_unfused frozen change false
put_unfused frozen change (ReadOnly m) = tt
put_unfused frozen change (Full m end need capacity) = tt
put_unfused frozen change (Gone front) = tt
put_unfused frozen change (Busy m g) = tt
put_unfused frozen change (Worn m) = tt
put_unfused frozen change Idle = tt
put_unfused frozen change (Damaged m at) = tt

pub freezes_unfused : (before frozen : Option ℕ) → IfSome (freezes_by before frozen) IsNoFuse
freezes_unfused None None = tt
freezes_unfused None (Some m) = λ j is. cc is
freezes_unfused (Some by) frozen = tt

pub delete_unfused : (frozen : Option ℕ) (change : Entry) (fault : LogicalFault) → IfSome (delete_made frozen change fault) IsNoFuse
delete_unfused None change (Failed m f) = λ j is. cc is
delete_unfused (Some by) change (Failed m f) = λ j is. cc is
delete_unfused frozen change NoMemory = tt
delete_unfused frozen change (ReadOnly m) = tt
delete_unfused frozen change (Full m end need capacity) = tt
delete_unfused frozen change (Gone front) = tt
delete_unfused frozen change (Busy m g) = tt
delete_unfused frozen change (Worn m) = tt
delete_unfused frozen change Idle = tt
delete_unfused frozen change (Damaged m at) = tt

pub tried_unfused : (fault : LogicalFault) → IfSome (tried_made fault) IsNoFuse
tried_unfused (Failed m f) = λ j is. cc is
tried_unfused NoMemory = tt
tried_unfused (ReadOnly m) = tt
tried_unfused (Full m end need capacity) = tt
tried_unfused (Gone front) = tt
tried_unfused (Busy m g) = tt
tried_unfused (Worn m) = tt
tried_unfused Idle = tt
tried_unfused (Damaged m at) = tt

stuck_unfused : (i : ℕ) (fault : LogicalFault) → IfSome (stuck_made i fault) IsNoFuse
stuck_unfused i (Failed m f) = λ j is. cc is
stuck_unfused i NoMemory = tt
stuck_unfused i (ReadOnly m) = tt
stuck_unfused i (Full m end need capacity) = tt
stuck_unfused i (Gone front) = tt
stuck_unfused i (Busy m g) = tt
stuck_unfused i (Worn m) = tt
stuck_unfused i Idle = tt
stuck_unfused i (Damaged m at) = tt

pub flush_unfused : (i : ℕ) (answer : Result ℕ LogicalFault) → IfSome (flush_made i answer) IsNoFuse
flush_unfused i (Ok n) = λ j is. cc is
flush_unfused i (Err fault) = stuck_unfused i fault

pub begin_unfused : (i : ℕ) (answer : Result ℕ LogicalFault) → IfSome (begin_made i answer) IsNoFuse
begin_unfused i (Ok g) = λ j is. cc is
begin_unfused i (Err fault) = tried_unfused fault

halted_unfused : (i n : ℕ) (fault : LogicalFault) → IsNoFuse (halted_made i n fault)
halted_unfused i n (Failed m f) = λ j is. cc is
halted_unfused i n NoMemory = λ j is. cc is
halted_unfused i n (ReadOnly m) = λ j is. cc is
halted_unfused i n (Full m end need capacity) = λ j is. cc is
halted_unfused i n (Gone front) = λ j is. cc is
halted_unfused i n (Busy m g) = λ j is. cc is
halted_unfused i n (Worn m) = λ j is. cc is
halted_unfused i n Idle = λ j is. cc is
halted_unfused i n (Damaged m at) = λ j is. cc is

stopped_unfused : (i n : ℕ) (refused : Option LogicalFault) → IsNoFuse (stopped_made i n refused)
stopped_unfused i n None = λ j is. cc is
stopped_unfused i n (Some fault) = halted_unfused i n fault

pub step_unfused : (i : ℕ) (examined : Examined) → IsNoFuse (step_made i examined)
step_unfused i examined = stopped_unfused i examined.cells examined.refused

pub unswapped_unfused : (i : ℕ) (fault : LogicalFault) (frozen : Option ℕ) → IsNoFuse (unswapped_made i fault frozen)
unswapped_unfused i (Failed m f) None = λ j is. cc is
unswapped_unfused i (Failed m f) (Some machine) = λ j is. cc is
unswapped_unfused i NoMemory frozen = λ j is. cc is
unswapped_unfused i (ReadOnly m) frozen = λ j is. cc is
unswapped_unfused i (Full m end need capacity) frozen = λ j is. cc is
unswapped_unfused i (Gone front) frozen = λ j is. cc is
unswapped_unfused i (Busy m g) frozen = λ j is. cc is
unswapped_unfused i (Worn m) frozen = λ j is. cc is
unswapped_unfused i Idle frozen = λ j is. cc is
unswapped_unfused i (Damaged m at) frozen = λ j is. cc is

-- THE ACT OF A HOLDING

module _ {D : Type 0} (faults fuses : D → ℕ) (tag : CoreTag) (replicas : List (Copy D)) where
  pub one_unfused : (what : Made) (act : VolumeAct) → act ≡ act_of faults fuses tag what replicas → IsNoFuse what → SetNoFuse (acts_in (Some act))
  one_unfused what act is none = (λ j e. none j (sym (ap (λ (a : VolumeAct). a.did) is) ∙ e), tt)

  -- one of an act that may have changed nothing
  pub tries_unfused : (before : List ℕ) (act : Option VolumeAct) → IsTried faults fuses tag before replicas act → SetNoFuse (acts_in act)
  tries_unfused before None tried = tt
  tries_unfused before (Some act) tried = one_unfused made.Tries act tried.is (λ j is. cc is)

  pub made_unfused_by : (before : List ℕ) (what : Option Made) (act : Option VolumeAct) → IfSome what IsNoFuse
      → ((m : Made) → what ≡ Some m → act ≡ Some (act_of faults fuses tag m replicas)) → (what ≡ None → IsTried faults fuses tag before replicas act) → SetNoFuse (acts_in act)
  made_unfused_by before None act none did tried = tries_unfused before act (tried refl)
  made_unfused_by before (Some m) act none did tried = subst (λ (o : Option VolumeAct). SetNoFuse (acts_in o)) (sym (did m refl)) (none, tt)
