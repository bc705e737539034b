-- A replica and the files that it has open.
use Rattle.std.proofs.Common.{◌≡◌, ℕ, false, refl, sym, ◌∙◌, ap, subst}
use Rattle.std.specs.Prelude.{Option, Some, None, Result, Ok, Err, IfErr, IfOk, IfSome, OnOk, OnErr}
use Rattle.hay_needle.specs.declared.settings.Super.{Super}
use Rattle.hay_disk.specs.Disk.{Files}
use Rattle.hay_open.specs.Stored.{Stored}
use Rattle.hay_physical.specs.declared.state.OpenFiles.{OpenFiles}
use Rattle.hay_physical.specs.declared.state.Phase.{Phase}
use Rattle.hay_physical.specs.declared.state.Phase.TheVariants.{Open}
use Rattle.hay_physical.specs.OpenCopies.{Copy, HasFrozen, IsUp, is_stuck, phase_stuck}
use Rattle.hay_physical.specs.Replicas.{FilesStand, MayDelete, MayFlag, PhaseMayDelete, Stands}

-- the same open files
pub one_open : (a b : OpenFiles) → Open a ≡ Open b → a ≡ b
one_open a b e = cc

-- WHAT IS KNOWN OF THE FILES

pub files_stand : {D : Type 0} (files : D → Files) (r : Copy D) (sup : Super) (disk : D) (phase : Phase) (opened : OpenFiles) (s : Stored)
    → record { sup = sup; disk = disk; phase = phase } ≡ r → phase ≡ Open opened → Stands files r s
    → FilesStand sup (files disk) opened s
unfolding Stands
files_stand files r sup disk phase opened s view is stands =
    let st = subst (λ (x : Copy _). Stands files x s) (sym view) stands in
    subst (λ (x : OpenFiles). FilesStand sup (files disk) x s) (one_open st.opened opened (sym st.phase ∙ is)) st.stand

pub files_going : {D : Type 0} (files : D → Files) (r : Copy D) (sup : Super) (disk : D) (phase : Phase) (opened : OpenFiles) (s : Stored)
    → record { sup = sup; disk = disk; phase = phase } ≡ r → phase ≡ Open opened → Stands files r s
    → opened.frozen ≡ false
unfolding Stands
files_going files r sup disk phase opened s view is stands =
    let st = subst (λ (x : Copy _). Stands files x s) (sym view) stands in
    ap (λ (x : OpenFiles). x.frozen) (one_open opened st.opened (sym is ∙ st.phase)) ∙ st.up

pub files_flag : {D : Type 0} (files : D → Files) (r : Copy D) (sup : Super) (disk : D) (phase : Phase) (opened : OpenFiles) (at : ℕ)
    → record { sup = sup; disk = disk; phase = phase } ≡ r → phase ≡ Open opened → MayDelete files r at
    → MayFlag (files disk opened.volume.file) opened.volume.end at
unfolding MayDelete
files_flag files r sup disk phase opened at view is may =
    subst (λ (p : Phase). PhaseMayDelete (files disk) p at) is (subst (λ (x : Copy _). MayDelete files x at) (sym view) may)

pub files_stuck : {D : Type 0} (r : Copy D) (sup : Super) (disk : D) (phase : Phase) (opened : OpenFiles) → record { sup = sup; disk = disk; phase = phase } ≡ r
    → phase ≡ Open opened → opened.index.frozen ≡ is_stuck r
files_stuck r sup disk phase opened view is = sym (ap phase_stuck is) ∙ ap (λ (x : Copy _). is_stuck x) view

pub files_up : {D : Type 0} (r : Copy D) (sup : Super) (disk : D) (phase : Phase) (opened : OpenFiles) → record { sup = sup; disk = disk; phase = phase } ≡ r → phase ≡ Open opened
    → opened.frozen ≡ false → IsUp r
files_up r sup disk phase opened view is going =
    subst (λ (x : Copy _). IsUp x) view (subst (λ (p : Phase). HasFrozen false p) (sym is) going)

-- WHAT THE FILES MAKE OF THE REPLICA

pub open_stands : {D : Type 0} (files : D → Files) (sup : Super) (disk : D) (opened : OpenFiles) (s : Stored) → opened.frozen ≡ false → FilesStand sup (files disk) opened s
    → Stands files (record { sup = sup; disk = disk; phase = Open opened }) s
unfolding Stands
open_stands files sup disk opened s going stand = record { opened = opened; phase = refl; up = going; stand = stand }

pub open_deletes : {D : Type 0} (files : D → Files) (sup : Super) (disk : D) (opened : OpenFiles) (at : ℕ) → MayFlag (files disk opened.volume.file) opened.volume.end at
    → MayDelete files (record { sup = sup; disk = disk; phase = Open opened }) at
unfolding MayDelete
open_deletes files sup disk opened at flag = flag

-- ANOTHER DISK WITH THE SAME FILES

pub moved_stands : {D : Type 0} (files : D → Files) (r : Copy D) (sup : Super) (disk new : D) (phase : Phase) (s : Stored) → record { sup = sup; disk = disk; phase = phase } ≡ r
    → files new ≡ files disk → Stands files r s
    → Stands files (record { sup = sup; disk = new; phase = phase }) s
unfolding Stands
moved_stands files r sup disk new phase s view same stands =
    let st = subst (λ (x : Copy _). Stands files x s) (sym view) stands in
    record { opened = st.opened; phase = st.phase; up = st.up; stand = subst (λ (f : Files). FilesStand sup f st.opened s) (sym same) st.stand }

pub moved_deletes : {D : Type 0} (files : D → Files) (r : Copy D) (sup : Super) (disk new : D) (phase : Phase) (at : ℕ) → record { sup = sup; disk = disk; phase = phase } ≡ r
    → files new ≡ files disk → MayDelete files r at
    → MayDelete files (record { sup = sup; disk = new; phase = phase }) at
unfolding MayDelete
moved_deletes files r sup disk new phase at view same may =
    subst (λ (f : Files). PhaseMayDelete f phase at) (sym same) (subst (λ (x : Copy _). MayDelete files x at) (sym view) may)

-- OUTCOMES

pub if_ok : {T E : Type 0} (r : Result T E) (P Q : T → Type 0) (O : Type 0) → ((v : T) → P v → O → Q v) → IfOk r P → OnOk r O → IfOk r Q
if_ok (Ok value) P Q O makes p o = makes value p o
if_ok (Err fault) P Q O makes p o = p

pub if_ok_so : {T E : Type 0} (r : Result T E) (P Q : T → Type 0) → ((v : T) → P v → Q v) → IfOk r P → IfOk r Q
if_ok_so (Ok value) P Q makes p = makes value p
if_ok_so (Err fault) P Q makes p = p

pub on_ok_so : {T E : Type 0} (r : Result T E) (P Q O : Type 0) → (P → O → Q) → OnOk r P → OnOk r O → OnOk r Q
on_ok_so (Ok value) P Q O makes p o = makes p o
on_ok_so (Err fault) P Q O makes p o = p

pub on_err_so : {T E : Type 0} (r : Result T E) (P Q : Type 0) → (P → Q) → OnErr r P → OnErr r Q
on_err_so (Ok value) P Q makes p = p
on_err_so (Err fault) P Q makes p = makes p

pub on_ok_both : {T E : Type 0} (r : Result T E) (A B : Type 0) → OnOk r A → OnOk r B → OnOk r (A × B)
on_ok_both (Ok value) A B a b = (a, b)
on_ok_both (Err fault) A B a b = tt

pub by_result : {T E : Type 0} (r : Result T E) (P : Type 0) → IfOk r (λ value. P) → OnErr r P → P
by_result (Ok value) P ok err = ok
by_result (Err fault) P ok err = err

pub if_ok_from : {T E : Type 0} (r : Result T E) (P : Type 0) {Q : Type 0} → (P → Q) → OnOk r P → IfOk r (λ value. Q)
if_ok_from (Ok value) P makes p = makes p
if_ok_from (Err fault) P makes p = tt

pub if_ok_unit : {T E : Type 0} (r : Result T E) (P : T → Type 0) (Q : Type 0) → ((v : T) → P v → Q) → IfOk r P → OnOk r Q
if_ok_unit (Ok value) P Q makes p = makes value p
if_ok_unit (Err fault) P Q makes p = tt

pub if_ok_both : {T E : Type 0} (r : Result T E) (P Q R : T → Type 0) → ((v : T) → P v → Q v → R v) → IfOk r P → IfOk r Q → IfOk r R
if_ok_both (Ok value) P Q R makes p q = makes value p q
if_ok_both (Err fault) P Q R makes p q = p

pub if_ok_some : {T E : Type 0} (r : Result (Option T) E) (P Q : T → Type 0) → ((v : T) → P v → Q v) → IfOk r (λ o. IfSome o P) → IfOk r (λ o. IfSome o Q)
if_ok_some (Ok None) P Q makes p = p
if_ok_some (Ok (Some value)) P Q makes p = makes value p
if_ok_some (Err fault) P Q makes p = p

pub if_err_so : {T E : Type 0} (r : Result T E) (P Q : E → Type 0) → ((e : E) → P e → Q e) → IfErr r P → IfErr r Q
if_err_so (Ok value) P Q makes p = p
if_err_so (Err fault) P Q makes p = makes fault p

pub if_ok_on : {T E : Type 0} (r : Result T E) (P : T → Type 0) (O Q : Type 0) → ((v : T) → P v → O → Q) → IfOk r P → OnOk r O → OnOk r Q
if_ok_on (Ok value) P O Q makes p o = makes value p o
if_ok_on (Err fault) P O Q makes p o = tt

pub on_ok_one : {T E : Type 0} (r : Result T E) (P Q : Type 0) → (P → Q) → OnOk r P → OnOk r Q
on_ok_one (Ok value) P Q makes p = makes p
on_ok_one (Err fault) P Q makes p = p

pub refused : {T E : Type 0} (r : Result T E) (why : E) (P : Type 0) → r ≡ Err why → OnErr r P → P
refused (Ok value) why P is p = let wrong : Ok value ≡ Err why = is in absurd cc
refused (Err fault) why P is p = p
