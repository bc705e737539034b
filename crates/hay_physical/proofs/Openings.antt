-- What an opening makes of a replica.
use Rattle.std.proofs.Common.{◌≡◌, ℕ, Bool, false, List, sym, ◌∙◌, subst}
use Rattle.std.specs.Prelude.{Result, Ok, Err, OnErr}
use Rattle.hay_needle.specs.declared.settings.Super.{Super}
use Rattle.hay_disk.specs.Disk.{Files, IsImage, IsSolid, MayLeave}
use Rattle.hay_open.specs.declared.fault.OpenFault.{OpenFault}
use Rattle.hay_open.specs.declared.opened.Opened.{Opened}
use Rattle.hay_open.specs.Finds as found
use Rattle.hay_open.specs.Finds.{OpenedAs}
use Rattle.hay_open.specs.Stored.{IsVoid, OpensAs, Stored, index_file}
use Rattle.hay_physical.specs.declared.state.Copier.TheVariants.{Ended}
use Rattle.hay_physical.specs.OpenCopies.{Copy}
use Rattle.hay_physical.specs.Replicas.{FilesReady, FilesStand, Holds, IndexStands, MayFind}
use Rattle.hay_physical.proofs.Holding.{finds_left, finds_now, not_void}

-- a disk that is void or whole stands as what it was opened
pub opened_stands : {P : Type 0} (sup : Super) (files : Files) (opened : Opened P) (s : Stored) → OpenedAs sup files opened s → opened.index.frozen ≡ false
    → FilesStand sup files (record { head = opened.head; volume = opened.volume; index = opened.index; frozen = false; copier = Ended 0 }) s
opened_stands sup files opened s o live = record {
  generation = o.generation;
  lags = o.lags;
  volume = o.volume;
  index_number = o.index_number;
  noted = o.noted;
  head = o.head;
  cells = o.cells;
  index = subst (λ (b : Bool). IndexStands sup (files (index_file s.generation)) s opened.index.end b) (sym live) o.index;
}

-- and any one is ready for changes
pub opened_ready : {P : Type 0} (files : Files) (opened : Opened P) → found.IsReady files opened
    → FilesReady files (record { head = opened.head; volume = opened.volume; index = opened.index; frozen = false; copier = Ended 0 })
opened_ready files opened r = record { volume_number = r.volume_number; index_number = r.index_number; head = r.head; volume = r.volume; index = λ live. r.index }

-- THE DISK OF A REPLICA

pub disk_finds : {D : Type 0} (files : D → Files) (r q : Copy D) (stuck : Bool) (s t : Stored) → q ≡ r → Holds files r stuck s t → MayFind q.sup (files q.disk) stuck s t
disk_finds files r q stuck s t view holds = subst (λ (x : Copy _). Holds files x stuck s t) (sym view) holds

pub disk_opens : {D : Type 0} (files : D → Files) (r q : Copy D) (s : Stored) → q ≡ r → OpensAs r.sup (λ n. (files r.disk n).now) s → OpensAs q.sup (λ n. (files q.disk n).now) s
disk_opens files r q s view opens = subst (λ (x : Copy _). OpensAs x.sup (λ n. (files x.disk n).now) s) (sym view) opens

-- what may be found is not void
pub finds_not_void : (sup : Super) (files : Files) (stuck : Bool) (s t : Stored) → MayLeave files (λ n. (files n).now) → MayFind sup files stuck s t → IsVoid (λ n. (files n).now) → ⊥
finds_not_void sup files stuck s t left finds void =
    let f = finds_now sup files stuck s t left finds in
    not_void sup (λ n. (files n).now) f.found f.is void

-- it is found still where the bytes were kept, and nothing is loose
pub finds_kept : (sup : Super) (old new : Files) (stuck : Bool) (s t : Stored) → MayLeave old (λ n. (old n).now) → ((n : ℕ) → (new n).now ≡ (old n).now)
    → ((n : ℕ) → IsSolid (new n)) → MayFind sup old stuck s t → MayFind sup new stuck s t
finds_kept sup old new stuck s t left kept solid finds =
    finds_left sup old new stuck s t (λ n. subst (λ (l : List ℕ). IsImage (old n) l) (sym (kept n)) (left n)) solid finds

-- REFUSALS

pub on_any : {T E : Type 0} (r : Result T E) (P : Type 0) → P → OnErr r P
on_any (Ok value) P p = tt
on_any (Err fault) P p = p

pub same_fault : {T : Type 0} (r : Result T OpenFault) (passed fault : OpenFault) (file at : ℕ) → r ≡ Err passed → passed ≡ fault → r ≡ Err (OpenFault.Damaged file at)
    → fault ≡ OpenFault.Damaged file at
same_fault r passed fault file at was same is = let e : passed ≡ OpenFault.Damaged file at = cc in sym same ∙ e
