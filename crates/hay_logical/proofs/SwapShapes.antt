-- The shape of a volume behind the end of a compaction.
use Rattle.std.proofs.Common.{◌≡◌, inl, inr, ℕ, ◌<◌, false, List, length, Option, None, sym, ap, subst, ◌∙◌, arith}
use Rattle.std.specs.Prelude.{Err, OnErr, Result}
use Rattle.std.proofs.lemmas.Bool.{cases_eq}
use Rattle.hay_needle.specs.declared.settings.Settings.{Settings}
use Rattle.hay_disk.specs.Disk.{Files}
use Rattle.hay_map.specs.MapRows.{MapRows}
use Rattle.hay_physical.specs.declared.fault.ReplicaFault.TheVariants as fault
use Rattle.hay_physical.specs.OpenCopies.{Copy, IsOpenCopy, IsUp, KeepsHead, is_frozen, is_stuck}
use Rattle.hay_logical.specs.declared.unsure.Unsure.{Unsure}
use Rattle.hay_logical.specs.declared.runs.NewFiles.{NewFiles}
use Rattle.hay_logical.specs.declared.runs.Unswapped.{Unswapped}
use Rattle.hay_logical.specs.declared.runs.Unswapped.TheVariants.{Refused, Unsure as Perhaps}
use Rattle.hay_logical.specs.Fits.{At}
use Rattle.hay_logical.specs.Refusals.{unfinished_by}
use Rattle.hay_logical.specs.ReplicaCalls.{KeepsPlaces, KeepsStuck, LosesRun, Start, StaysInReach, SwapsAt, SwapsOne}
use Rattle.hay_logical.specs.Volumes.{CanReach, IsFrozenBy, IsShaped, ReachesPlaces, Volume}
use Rattle.hay_logical.specs.Volumes as volumes
use Rattle.hay_logical.proofs.Calls.{up_open, up_thawed}
use Rattle.hay_logical.proofs.Lists.{at_below, at_same, at_there}
use Rattle.hay_logical.proofs.Methods.{shaped_on}
use Rattle.hay_logical.proofs.Reaching.{reaches_on}
use Rattle.hay_logical.proofs.Standing.{volume_with}

module _ {D P : Type 0} (DiskTells : Type 0) (files : D → Files) (Tells : Type 0) (faults : D → ℕ) (start : Start) (items new : List (Copy D)) (rows rows' : MapRows P) (at : ℕ)
    (one : SwapsOne DiskTells files at items new)
    (ups : (j : ℕ) (r : Copy D) → At items j r → IsUp r) where
  -- what holds of the replica that was called, and of the others
  each_of : (Q : Copy D → Copy D → Type 0) → Q one.before one.after → ((r r' : Copy D) → IsUp r → LosesRun DiskTells files r r' → Q r r') → (j : ℕ) (r r' : Copy D) → At items j r
      → At new j r' → Q r r'
  each_of Q here others j r r' e f = elim (cases_eq j at) [
    | inl same ↦
        let r_is : r ≡ one.before = at_same items at r one.before (subst (λ n. At items n r) same e) one.was in
        let r'_is : r' ≡ one.after = at_same new at r' one.after (subst (λ n. At new n r') same f) one.is in
        subst (λ x. Q x r') (sym r_is) (subst (λ x. Q one.before x) (sym r'_is) here)
    | inr apart ↦ others r r' (ups j r e) (one.others j r r' apart e f).0
  ]

  pub swaps_kept : (result : Result (NewFiles P) Unswapped) → SwapsAt DiskTells files faults Tells start rows rows' at one.before one.after result → (j : ℕ) (r r' : Copy D)
      → At items j r → At new j r' → IsOpenCopy r' × (r'.sup ≡ r.sup)
  swaps_kept result swaps = each_of (λ r r'. IsOpenCopy r' × (r'.sup ≡ r.sup)) (swaps.«open», swaps.sup) (λ r r' up loses. (loses.«open» (up_open r up), loses.sup))

  pub swaps_thawed : IsUp one.after → (j : ℕ) (r r' : Copy D) → At items j r → At new j r' → is_frozen r' ≡ false
  swaps_thawed up = each_of (λ r r'. is_frozen r' ≡ false) (up_thawed one.after up) (λ r r' was loses. loses.frozen ∙ up_thawed r was)

  pub swaps_up : (settings : Settings) (number : ℕ) (u : Unswapped) → SwapsAt DiskTells files faults Tells start rows rows' at one.before one.after (Err u)
      → (unfinished_by settings number at u).frozen ≡ None → IsUp one.after
  swaps_up settings number (Refused (fault.Failed n)) swaps none = swaps.left.0
  swaps_up settings number (Refused (fault.Damaged place)) swaps none = swaps.left.0
  swaps_up settings number (Refused fault.NoMemory) swaps none = swaps.left.0
  swaps_up settings number (Refused (fault.Busy goal)) swaps none = subst (λ (x : Copy D). IsUp x) (sym swaps.left.2) (ups at one.before one.was)
  swaps_up settings number (Refused fault.Worn) swaps none = subst (λ (x : Copy D). IsUp x) (sym swaps.left.3) (ups at one.before one.was)
  swaps_up settings number (Refused fault.Frozen) swaps none = absurd swaps.left
  swaps_up settings number (Refused (fault.Full end need capacity)) swaps none = absurd swaps.left
  swaps_up settings number (Refused (fault.Ended n)) swaps none = absurd swaps.left
  swaps_up settings number (Perhaps n) swaps none = absurd cc

  pub swaps_stuck : is_stuck one.after ≡ is_stuck one.before → KeepsStuck items new
  swaps_stuck same = each_of (λ r r'. is_stuck r' ≡ is_stuck r) same (λ r r' up loses. loses.stuck)

  pub swaps_reach : (result : Result (NewFiles P) Unswapped) → SwapsAt DiskTells files faults Tells start rows rows' at one.before one.after result
      → KeepsPlaces rows rows' at result → CanReach DiskTells files Tells items rows → CanReach DiskTells files Tells new rows'
  swaps_reach result swaps places can tells j r' f = elim (cases_eq j at) [
    | inl same ↦
        let r'_is : r' ≡ one.after = at_same new at r' one.after (subst (λ n. At new n r') same f) one.is in
        subst (λ n. ReachesPlaces files Tells rows' n r') (sym same) (subst (λ (x : Copy D). ReachesPlaces files Tells rows' at x) (sym r'_is) (swaps.reach tells (can tells at one.before one.was)))
    | inr apart ↦
        let old = at_there items j (let h = at_below new j r' f in let count = one.count in let less : j < length items = omega (arith, h, count) in less) in
        let up : IsUp old.0 = ups j old.0 old.1 in
        reaches_on files rows rows' j old.0 r' (λ u. up) (λ u. up_open old.0 up) ((one.others j old.0 r' apart old.1 f).0.reach tells) (λ pair. places.others pair j apart) (can tells j old.0 old.1)
  ]

-- a volume's call that ended a compaction
pub record SwapCall {D P : Type 0} (DiskTells : Type 0) (files : D → Files) (Tells : Type 0) (faults : D → ℕ) (start : Start) (items new : List (Copy D)) (rows rows' : MapRows P)
    (at : ℕ) (result : Result (NewFiles P) Unswapped) : Type 0 where
  pub one : SwapsOne DiskTells files at items new
  pub ups : (j : ℕ) (r : Copy D) → At items j r → IsUp r
  pub swaps : SwapsAt DiskTells files faults Tells start rows rows' at one.before one.after result
  pub stays : OnErr result (StaysInReach DiskTells files one.before one.after)
  pub places : KeepsPlaces rows rows' at result

pub called_with : {D P : Type 0} {DiskTells : Type 0} {files : D → Files} {Tells : Type 0} {faults : D → ℕ} {start : Start} {items new : List (Copy D)} {rows rows' : MapRows P}
    {at : ℕ} {result result' : Result (NewFiles P) Unswapped}
    → result ≡ result' → SwapCall DiskTells files Tells faults start items new rows rows' at result → SwapCall DiskTells files Tells faults start items new rows rows' at result'
called_with {D} {P} {DiskTells} {files} {Tells} {faults} {start} {items} {new} {rows} {rows'} {at} is call = subst (λ z. SwapCall DiskTells files Tells faults start items new rows rows' at z) is call

module _ {D P : Type 0} {DiskTells : Type 0} {files : D → Files} {Tells : Type 0} {faults : D → ℕ} {start : Start} {items new : List (Copy D)} {rows rows' : MapRows P} {at : ℕ}
    {result : Result (NewFiles P) Unswapped}
    (call : SwapCall DiskTells files Tells faults start items new rows rows' at result) where
  pub called_each : (j : ℕ) (r r' : Copy D) → At items j r → At new j r' → IsOpenCopy r' × (r'.sup ≡ r.sup)
  called_each = swaps_kept DiskTells files Tells faults start items new rows rows' at call.one call.ups result call.swaps

  pub called_shaped : (settings : Settings) (number : ℕ) (replicas : List (Copy D)) (front : ℕ) (frozen frozen' : Option ℕ) (unsure : Option Unsure) → replicas ≡ new
      → (frozen' ≡ None → IsUp call.one.after) → IsFrozenBy settings number frozen' → (frozen' ≡ None → unsure ≡ None)
      → IsShaped (volume_with settings number items rows front frozen unsure) → IsShaped (volume_with settings number replicas rows' front frozen' unsure)
  called_shaped settings number replicas front frozen frozen' unsure is up by settled shape =
      subst (λ rs. IsShaped (volume_with settings number rs rows' front frozen' unsure)) (sym is)
      (shaped_on settings number items new rows rows' front front frozen frozen' unsure unsure shape by settled call.one.count (λ j r r' e f. (called_each j r r' e f).1) call.places.width
      (λ none. swaps_thawed DiskTells files Tells faults start items new rows rows' at call.one call.ups (up none)))

  pub called_reach : (replicas : List (Copy D)) → replicas ≡ new → CanReach DiskTells files Tells items rows → CanReach DiskTells files Tells replicas rows'
  called_reach replicas is can =
      subst (λ rs. CanReach DiskTells files Tells rs rows') (sym is) (swaps_reach DiskTells files Tells faults start items new rows rows' at call.one call.ups result call.swaps call.places can)

  pub called_open : (volume : Volume D P) → volume.replicas ≡ new → length items ≡ volume.settings.replicas → volumes.IsOpenVolume volume
  called_open volume is all = record {
    all = ap length is ∙ call.one.count ∙ all;
    each = λ j r' f.
        let there = subst (λ xs. At xs j r') is f in
        let old = at_there items j (subst (λ n. j < n) call.one.count (at_below new j r' there)) in
        (called_each j old.0 r' old.1 there).0;
  }

-- where nothing freezes the volume the replica takes changes
pub called_up : {D P : Type 0} {DiskTells : Type 0} {files : D → Files} {Tells : Type 0} {faults : D → ℕ} {start : Start} {items new : List (Copy D)} {rows rows' : MapRows P}
    {at : ℕ} (settings : Settings) (number : ℕ) (u : Unswapped)
    (call : SwapCall DiskTells files Tells faults start items new rows rows' at (Err u)) → (unfinished_by settings number at u).frozen ≡ None → IsUp call.one.after
called_up {D} {P} {DiskTells} {files} {Tells} {faults} {start} {items} {new} {rows} {rows'} {at} settings number u call none =
    swaps_up DiskTells files Tells faults start items new rows rows' at call.one call.ups settings number u call.swaps none

-- a refusal leaves each index as it was
pub called_stuck : {D P : Type 0} {DiskTells : Type 0} {files : D → Files} {Tells : Type 0} {faults : D → ℕ} {start : Start} {items new : List (Copy D)} {rows rows' : MapRows P}
    {at : ℕ} (u : Unswapped)
    (call : SwapCall DiskTells files Tells faults start items new rows rows' at (Err u)) → KeepsStuck items new
called_stuck {D} {P} {DiskTells} {files} {Tells} {faults} {start} {items} {new} {rows} {rows'} {at} u call =
    swaps_stuck DiskTells files Tells faults start items new rows rows' at call.one call.ups call.swaps.still

-- and the head of the replica that was called, where that takes changes
pub called_head : {D P : Type 0} {DiskTells : Type 0} {files : D → Files} {Tells : Type 0} {faults : D → ℕ} {start : Start} {items new : List (Copy D)} {rows rows' : MapRows P}
    {at : ℕ} (u : Unswapped)
    (call : SwapCall DiskTells files Tells faults start items new rows rows' at (Err u)) → DiskTells → IsUp call.one.after → (r r' : Copy D) → At items at r → At new at r' → KeepsHead files r r'
called_head {D} {P} {DiskTells} {files} {Tells} {faults} {start} {items} {new} {rows} {rows'} {at} u call tells up r r' e f =
    subst (λ (x : Copy D). KeepsHead files x r') (at_same items at call.one.before r call.one.was e)
    (subst (λ (x : Copy D). KeepsHead files call.one.before x) (at_same new at call.one.after r' call.one.is f) (call.swaps.head tells up))
