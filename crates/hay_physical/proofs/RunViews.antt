-- A compaction of a replica, and of the files that it has open.
use Rattle.std.proofs.Common.{◌≡◌, ◌<◌, ◌⊎◌, List, true≢false, inl, inr, ℕ, ◌+◌, true, false, Option, Some, None, refl, sym, ◌∙◌, ap, subst}
use Rattle.std.specs.Prelude.{option_map}
use Rattle.std.proofs.lemmas.Bool.{cases_Bool}
use Rattle.hay_needle.specs.declared.needle.CellHead.{CellHead}
use Rattle.hay_needle.specs.declared.settings.Super.{Super}
use Rattle.hay_disk.specs.Disk.{Files, FileState}
use Rattle.hay_open.specs.Stored.{Stored, volume_file}
use Rattle.hay_compact.specs.Copying.{KeepsOtherFiles}
use Rattle.hay_physical.specs.declared.state.OpenFiles.{OpenFiles}
use Rattle.hay_physical.specs.declared.state.Phase.{Phase}
use Rattle.hay_physical.specs.declared.state.Phase.TheVariants.{Open}
use Rattle.hay_physical.specs.OpenCopies.{CanBegin, Copy, contents_of, copier_goal, goal_of, phase_generation, phase_goal, volume_bytes}
use Rattle.hay_physical.specs.Replicas.{FilesReady, IsBounded, IsBoundedPhase, IsCopierReady, IsSettled, IsSettledPhase, MayDelete, MayFlag, PhaseReady, Stands}
use Rattle.hay_physical.specs.CompactionRuns.{FilesPeek, FilesRun, HasNext, HasRun, KeepsFiles, PeekStands, Run, RunStands}
use Rattle.hay_physical.proofs.RunLaws.{flag_beside, next_besides_volume, not_ended, run_deleted, stand_beside}
use Rattle.hay_compact.specs.Copying.{Stage}
use Rattle.hay_disk.specs.Disk.{KeepsOthers}
use Rattle.hay_physical.specs.declared.state.Copier.{Copier}
use Rattle.hay_physical.specs.declared.state.Copier.TheVariants.{Ended, Standing}
use Rattle.hay_physical.specs.Replicas.{FilesStand, without_cell}
use Rattle.hay_physical.specs.CompactionRuns.{EndsInDelete, HasLastAt, RepeatsIn, loosened}
use Rattle.hay_compact.proofs.CellLists.{lacks_none, lacks_parts}
use Rattle.hay_compact.proofs.Copyings.{current_parts}
use Rattle.hay_needle.proofs.TableLaws.{pair_refl}
use Rattle.hay_needle.specs.Tables.{lacks, pair_eq}
use Rattle.hay_volume.specs.Cells.{needles_of}
use Rattle.hay_open.specs.Stored.{last_cell}
use Rattle.hay_needle.specs.declared.needle.Cell.{Cell}
use Rattle.hay_needle.specs.declared.needle.Pair.{Pair}
use Rattle.hay_needle.specs.declared.settings.TheConstants.{LAST_GENERATION}
use Rattle.std.proofs.Common.{◌∷◌, drop, take, not}
use Rattle.hay_physical.specs.CompactionRuns.{HasPair}
use Rattle.hay_physical.specs.declared.fault.ReplicaFault.{ReplicaFault}
use Rattle.hay_physical.specs.declared.fault.ReplicaFault.TheVariants as fault
use Rattle.hay_physical.specs.OpenCopies.{copier_faults}
use Rattle.hay_physical.specs.CompactionRuns.{EndsBy, EndsRun}
use Rattle.hay_map.specs.declared.place.Place.{Place}
use Rattle.hay_map.specs.declared.place.Place.TheVariants as place
use Rattle.hay_physical.specs.Replicas.{MayDeletePlace, MayFlagPlace}
use Rattle.std.proofs.lemmas.Bool.{and_parts, not-true}
use Rattle.hay_physical.proofs.Views.{files_flag, files_going, files_stand, one_open, open_deletes, open_stands}

-- WHAT IS KNOWN OF THE FILES

pub files_ready : (files : Files) (phase : Phase) (opened : OpenFiles) → phase ≡ Open opened → PhaseReady files phase → opened.frozen ≡ false → FilesReady files opened × IsCopierReady files opened
files_ready files phase opened is ready going = (subst (λ (p : Phase). PhaseReady files p) is ready) going

pub files_settled : (phase : Phase) (opened : OpenFiles) → phase ≡ Open opened → IsSettledPhase phase → IsSettled opened
files_settled phase opened is settled = subst (λ (p : Phase). IsSettledPhase p) is settled

pub files_bounded : (capacity : ℕ) (phase : Phase) (opened : OpenFiles) → phase ≡ Open opened → IsBoundedPhase capacity phase → IsBounded capacity opened
files_bounded capacity phase opened is bounded = subst (λ (p : Phase). IsBoundedPhase capacity p) is bounded

-- what is said of the replica is said of them
pub files_say : {D T : Type 0} (say : Phase → T) (r : Copy D) (sup : Super) (disk : D) (phase : Phase) (opened : OpenFiles) → record { sup = sup; disk = disk; phase = phase } ≡ r
    → phase ≡ Open opened → say (Open opened) ≡ say r.phase
files_say say r sup disk phase opened view is = sym (ap say is) ∙ ap (λ (x : Copy _). say x.phase) view

pub files_begin : {D : Type 0} (r : Copy D) (sup : Super) (disk : D) (phase : Phase) (opened : OpenFiles) → record { sup = sup; disk = disk; phase = phase } ≡ r → phase ≡ Open opened
    → (copier_goal opened.copier ≡ None) × (opened.head.generation < LAST_GENERATION) → CanBegin r
files_begin r sup disk phase opened view is may =
    subst (λ (x : Copy _). CanBegin x) view (subst (λ (p : Phase). (phase_goal p ≡ None) × (phase_generation p < LAST_GENERATION)) (sym is) may)

pub files_goal : {D : Type 0} (r : Copy D) (sup : Super) (disk : D) (phase : Phase) (opened : OpenFiles) → record { sup = sup; disk = disk; phase = phase } ≡ r
    → phase ≡ Open opened → copier_goal opened.copier ≡ goal_of r
files_goal r sup disk phase opened view is = sym (ap phase_goal is) ∙ ap (λ (x : Copy _). goal_of x) view

pub files_run : {D : Type 0} (files : D → Files) (r : Copy D) (sup : Super) (disk : D) (phase : Phase) (opened : OpenFiles) (s : Stored) (run : Run)
    → record { sup = sup; disk = disk; phase = phase } ≡ r → phase ≡ Open opened → HasRun files r s (Some run)
    → FilesRun sup (files disk) opened s run
unfolding HasRun
files_run files r sup disk phase opened s run view is has =
    let h = subst (λ (x : Copy _). RunStands files x s run) (sym view) has in
    subst (λ (x : OpenFiles). FilesRun sup (files disk) x s run) (one_open h.opened opened (sym h.phase ∙ is)) h.has

pub files_peek : {D : Type 0} (files : D → Files) (r : Copy D) (sup : Super) (disk : D) (phase : Phase) (opened : OpenFiles) (s : Stored) (run : Run) (head : CellHead)
    → record { sup = sup; disk = disk; phase = phase } ≡ r → phase ≡ Open opened → HasNext files r s run head
    → FilesPeek sup (files disk) opened s run head
unfolding HasNext
files_peek files r sup disk phase opened s run head view is has =
    let h = subst (λ (x : Copy _). PeekStands files x s run head) (sym view) has in
    subst (λ (x : OpenFiles). FilesPeek sup (files disk) x s run head) (one_open h.opened opened (sym h.phase ∙ is)) h.has

-- WHAT THE FILES MAKE OF THE REPLICA

pub open_run : {D : Type 0} (files : D → Files) (sup : Super) (disk : D) (opened : OpenFiles) (s : Stored) (run : Run) → FilesRun sup (files disk) opened s run
    → HasRun files (record { sup = sup; disk = disk; phase = Open opened }) s (Some run)
unfolding HasRun
open_run files sup disk opened s run has = record { opened = opened; phase = refl; has = has }

pub open_none : {D : Type 0} (files : D → Files) (sup : Super) (disk : D) (opened : OpenFiles) (s : Stored) → copier_goal opened.copier ≡ None
    → HasRun files (record { sup = sup; disk = disk; phase = Open opened }) s None
unfolding HasRun
open_none files sup disk opened s none = none

pub open_next : {D : Type 0} (files : D → Files) (sup : Super) (disk : D) (opened : OpenFiles) (s : Stored) (run : Run) (head : CellHead)
    → FilesPeek sup (files disk) opened s run head → HasNext files (record { sup = sup; disk = disk; phase = Open opened }) s run head
unfolding HasNext
open_next files sup disk opened s run head has = record { opened = opened; phase = refl; has = has }

none_is : {D : Type 0} (files : D → Files) (r : Copy D) (s : Stored) → HasRun files r s None → goal_of r ≡ None
unfolding HasRun
none_is files r s has = has

pub files_none : {D : Type 0} (files : D → Files) (r : Copy D) (sup : Super) (disk : D) (phase : Phase) (opened : OpenFiles) (s : Stored)
    → record { sup = sup; disk = disk; phase = phase } ≡ r → phase ≡ Open opened → HasRun files r s None
    → copier_goal opened.copier ≡ None
files_none files r sup disk phase opened s view is has = files_goal r sup disk phase opened view is ∙ none_is files r s has

-- a change that the compaction follows, or a replica without one
pub run_through : {D : Type 0} (run : Option Run) (change : Run → Run) (files : D → Files) (r : Copy D) (sup : Super) (disk new : D) (phase : Phase) (opened next : OpenFiles)
    (s t : Stored) → record { sup = sup; disk = disk; phase = phase } ≡ r → phase ≡ Open opened
    → next.copier ≡ opened.copier → ((x : Run) → FilesRun sup (files disk) opened s x → FilesRun sup (files new) next t (change x)) → HasRun files r s run
    → HasRun files (record { sup = sup; disk = new; phase = Open next }) t (option_map change run)
run_through None change files r sup disk new phase opened next s t view is same makes has =
    open_none files sup new next t (ap copier_goal same ∙ files_none files r sup disk phase opened s view is has)
run_through (Some run) change files r sup disk new phase opened next s t view is same makes has =
    open_run files sup new next t (change run) (makes run (files_run files r sup disk phase opened s run view is has))

pub run_still : {D : Type 0} (run : Option Run) (files : D → Files) (r : Copy D) (sup : Super) (disk new : D) (phase : Phase) (opened next : OpenFiles) (s t : Stored)
    → record { sup = sup; disk = disk; phase = phase } ≡ r → phase ≡ Open opened
    → next.copier ≡ opened.copier → ((x : Run) → FilesRun sup (files disk) opened s x → FilesRun sup (files new) next t x) → HasRun files r s run
    → HasRun files (record { sup = sup; disk = new; phase = Open next }) t run
run_still None files r sup disk new phase opened next s t view is same makes has =
    open_none files sup new next t (ap copier_goal same ∙ files_none files r sup disk phase opened s view is has)
run_still (Some run) files r sup disk new phase opened next s t view is same makes has =
    open_run files sup new next t run (makes run (files_run files r sup disk phase opened s run view is has))

-- FILES BESIDE THOSE OF THE REPLICA

pub beside_stands : {D : Type 0} (files : D → Files) (r : Copy D) (sup : Super) (disk new : D) (phase : Phase) (opened next : OpenFiles) (s : Stored)
    → record { sup = sup; disk = disk; phase = phase } ≡ r → phase ≡ Open opened
    → KeepsFiles opened next → KeepsOtherFiles (opened.head.generation + 1) (files disk) (files new) → Stands files r s → Stands files (record { sup = sup; disk = new; phase = Open next }) s
beside_stands files r sup disk new phase opened next s view is keeps others stands =
    open_stands files sup new next s (ap (λ (o : OpenFiles). o.frozen) keeps ∙ files_going files r sup disk phase opened s view is stands)
    (stand_beside sup (files disk) (files new) opened next s (files_stand files r sup disk phase opened s view is stands) keeps others)

pub beside_deletes : {D : Type 0} (files : D → Files) (r : Copy D) (sup : Super) (disk new : D) (phase : Phase) (opened next : OpenFiles) (at : ℕ)
    → record { sup = sup; disk = disk; phase = phase } ≡ r → phase ≡ Open opened
    → (opened.frozen ≡ true → (next ≡ opened) × (new ≡ disk)) → PhaseReady (files disk) phase → KeepsFiles opened next → KeepsOtherFiles (opened.head.generation + 1) (files disk) (files new)
    → MayDelete files r at → MayDelete files (record { sup = sup; disk = new; phase = Open next }) at
beside_deletes files r sup disk new phase opened next at view is frozen ready keeps others may =
    let flag = files_flag files r sup disk phase opened at view is may in
    open_deletes files sup new next at
    (elim (cases_Bool opened.frozen) [
      | inl stuck ↦
          let same = frozen stuck in
          subst (λ (d : _). MayFlag (files d next.volume.file) next.volume.end at) (sym same.1) (subst (λ (o : OpenFiles). MayFlag (files disk o.volume.file) o.volume.end at) (sym same.0) flag)
      | inr going ↦ flag_beside (files disk) (files new) opened next at (files_ready (files disk) phase opened is ready going).0 keeps others flag
    ])

-- the pair of a cell has a last cell
pub has_pair : (n : ℕ) (cells : List Cell) (cell : Cell) → drop n cells ≡ cell ∷ drop (n + 1) cells → HasPair cells cell.pair
has_pair n cells cell is =
    elim (none_or (last_cell cells cell.pair)) [
      | inr found ↦ found
      | inl none ↦
          let lack =
          lacks_parts cell.pair (take n cells) (cell ∷ drop (n + 1) cells) (subst (λ (l : List Cell). lacks cell.pair (needles_of l) ≡ true) (current_parts n cells cell is)
          (lacks_none cells cell.pair none)) in
          let apart = (and_parts (not (pair_eq cell.pair cell.pair)) (lacks cell.pair (needles_of (drop (n + 1) cells))) lack.1).0 in
          absurd (true≢false (sym (pair_refl cell.pair) ∙ not-true (pair_eq cell.pair cell.pair) apart))
    ]
  where
    none_or : (o : Option Cell) → (o ≡ None) ⊎ ((c : Cell) × (o ≡ Some c))
    none_or None = inl refl
    none_or (Some c) = inr (c, refl)

pub peek_pair : (sup : Super) (files : Files) (opened : OpenFiles) (s : Stored) (run : Run) (head : CellHead) → FilesPeek sup files opened s run head → HasPair s.cells head.pair
peek_pair sup files opened s run head p =
    subst (λ (q : Pair). HasPair s.cells q) (sym (ap (λ (x : CellHead). x.pair) p.copy.head_is)) (has_pair p.has.examined s.cells p.cell p.is)

pub ends_run : {D : Type 0} (why : ReplicaFault) (faults : ℕ) (r : Copy D) (sup : Super) (disk new : D) (phase : Phase) (opened next : OpenFiles)
    → record { sup = sup; disk = disk; phase = phase } ≡ r → phase ≡ Open opened
    → EndsBy faults opened.copier next.copier why → EndsRun faults r (record { sup = sup; disk = new; phase = Open next }) why
ends_run (fault.Failed printed) faults r sup disk new phase opened next view is ends = (ap copier_goal ends, ap copier_faults ends)
ends_run (fault.Damaged at) faults r sup disk new phase opened next view is ends = (ap copier_goal ends, ap copier_faults ends)
ends_run fault.Frozen faults r sup disk new phase opened next view is ends = ends ∙ files_goal r sup disk phase opened view is
ends_run (fault.Full end need capacity) faults r sup disk new phase opened next view is ends = ends ∙ files_goal r sup disk phase opened view is
ends_run (fault.Busy generation) faults r sup disk new phase opened next view is ends = ends ∙ files_goal r sup disk phase opened view is
ends_run (fault.Ended printed) faults r sup disk new phase opened next view is ends = ends ∙ files_goal r sup disk phase opened view is
ends_run fault.Worn faults r sup disk new phase opened next view is ends = ends ∙ files_goal r sup disk phase opened view is
ends_run fault.NoMemory faults r sup disk new phase opened next view is ends = ends ∙ files_goal r sup disk phase opened view is

pub place_deletes : {D P : Type 0} (files : D → Files) (sup : Super) (disk : D) (opened : OpenFiles) (x : Place P) → MayFlagPlace (files disk) opened x
    → MayDeletePlace files (record { sup = sup; disk = disk; phase = Open opened }) x
place_deletes files sup disk opened (place.Live needle) flag = open_deletes files sup disk opened needle.at flag
place_deletes files sup disk opened place.None flag = tt
place_deletes files sup disk opened place.Gone flag = tt
place_deletes files sup disk opened (place.Unseen at size) flag = open_deletes files sup disk opened at flag

pub ended_flag : (files : Files) (opened next : OpenFiles) (at : ℕ) → KeepsFiles opened next → MayFlag (files opened.volume.file) opened.volume.end at
    → MayFlag (files next.volume.file) next.volume.end at
ended_flag files opened next at keeps flag = subst (λ (o : OpenFiles). MayFlag (files o.volume.file) o.volume.end at) (sym keeps) flag

-- the same files on another disk
pub moved_run : {D : Type 0} (run : Option Run) (files : D → Files) (r : Copy D) (sup : Super) (disk new : D) (phase : Phase) (s : Stored)
    → record { sup = sup; disk = disk; phase = phase } ≡ r → files new ≡ files disk → HasRun files r s run
    → HasRun files (record { sup = sup; disk = new; phase = phase }) s run
unfolding HasRun
moved_run None files r sup disk new phase s view same has = ap (λ (x : Copy _). goal_of x) view ∙ has
moved_run (Some run) files r sup disk new phase s view same has =
    let h = subst (λ (x : Copy _). RunStands files x s run) (sym view) has in
    record { opened = h.opened; phase = h.phase; has = subst (λ (f : Files). FilesRun sup f h.opened s run) (sym same) h.has }

-- A DELETE

same_goal : (faults after : ℕ) (old new : Copier) (stage next : Stage) → EndsInDelete faults after old new → old ≡ Standing stage → new ≡ Standing next → next.generation ≡ stage.generation
same_goal faults after old new stage next (inl same) was is =
    let e : Some next.generation ≡ Some stage.generation = sym (ap copier_goal is) ∙ same ∙ ap copier_goal was in cc
same_goal faults after old new stage next (inr ended) was is = not_ended new after next ended.0 is

deleted_by : {D : Type 0} (copier : Copier) (files : D → Files) (sup : Super) (disk between new : D) (opened flagged next : OpenFiles) (s : Stored) (pair : Pair)
    (at faults after : ℕ) (run : Run) → next.copier ≡ copier → FilesStand sup (files disk) opened s
    → flagged.copier ≡ opened.copier → flagged.volume ≡ opened.volume → FilesStand sup (files between) flagged (without_cell s at)
    → KeepsOthers opened.volume.file (files disk) (files between) → HasLastAt s.cells pair at
    → ((stage : Stage) → flagged.copier ≡ Standing stage → RepeatsIn (files between) (files new) flagged pair stage next.copier)
    → EndsInDelete faults after flagged.copier next.copier → KeepsFiles flagged next → FilesRun sup (files disk) opened s run
    → HasRun files (record { sup = sup; disk = new; phase = Open next }) (without_cell s at) (Some (loosened run)) ⊎ (copier_goal next.copier ≡ None)
deleted_by (Ended n) files sup disk between new opened flagged next s pair at faults after run is f copier volume stand others last repeats ends keeps r = inr (ap copier_goal is)
deleted_by (Standing x) files sup disk between new opened flagged next s pair at faults after run is f copier volume stand others last repeats ends keeps r =
    let was = copier ∙ r.stands in
    let again = subst (λ (c : Copier). RepeatsIn (files between) (files new) flagged pair r.stage c) is (repeats r.stage was) in
    inl (open_run files sup new next (without_cell s at) (loosened run)
    (run_deleted sup (files disk) (files between) (files new) opened flagged next s pair at run x r f volume stand
    (next_besides_volume sup (files disk) (files disk) (files between) opened s f others) last
    (again sup) (same_goal faults after flagged.copier next.copier r.stage x ends was is) is (ap (λ (o : OpenFiles). o.volume) keeps)))

pub delete_run : {D : Type 0} (run : Option Run) (files : D → Files) (r : Copy D) (sup : Super) (disk between new : D) (phase : Phase) (opened flagged next : OpenFiles)
    (s : Stored) (pair : Pair) (at faults after : ℕ) → record { sup = sup; disk = disk; phase = phase } ≡ r → phase ≡ Open opened
    → FilesStand sup (files disk) opened s
    → flagged.copier ≡ opened.copier → flagged.volume ≡ opened.volume → FilesStand sup (files between) flagged (without_cell s at)
    → KeepsOthers opened.volume.file (files disk) (files between) → HasLastAt s.cells pair at
    → ((stage : Stage) → flagged.copier ≡ Standing stage → RepeatsIn (files between) (files new) flagged pair stage next.copier)
    → EndsInDelete faults after flagged.copier next.copier → KeepsFiles flagged next → HasRun files r s run
    → HasRun files (record { sup = sup; disk = new; phase = Open next }) (without_cell s at) (option_map loosened run) ⊎ (copier_goal next.copier ≡ None)
delete_run None files r sup disk between new phase opened flagged next s pair at faults after view is f copier volume stand others last repeats (inl same) keeps has =
    inr (same ∙ ap copier_goal copier ∙ files_none files r sup disk phase opened s view is has)
delete_run None files r sup disk between new phase opened flagged next s pair at faults after view is f copier volume stand others last repeats (inr ended) keeps has = inr (ap copier_goal ended.0)
delete_run (Some run) files r sup disk between new phase opened flagged next s pair at faults after view is f copier volume stand others last repeats ends keeps has =
    deleted_by next.copier files sup disk between new opened flagged next s pair at faults after run refl f copier volume stand others last repeats ends keeps
    (files_run files r sup disk phase opened s run view is has)

-- the bytes of the current volume file
pub files_bytes : {D : Type 0} (files : D → Files) (r : Copy D) (sup : Super) (disk : D) (phase : Phase) (opened : OpenFiles) (capacity : ℕ)
    → record { sup = sup; disk = disk; phase = phase } ≡ r → phase ≡ Open opened
    → IsBounded capacity opened → (files disk opened.volume.file).now ≡ volume_bytes files r
files_bytes files r sup disk phase opened capacity view is bounded =
    ap (λ n. (files disk n).now) bounded.file ∙ ap (λ (p : Phase). (files disk (volume_file (phase_generation p))).now) (sym is) ∙ ap (λ (x : Copy _). volume_bytes files x) view

-- the head stays where its file did
pub head_beside : {D : Type 0} (files : D → Files) (r : Copy D) (sup : Super) (disk new : D) (phase : Phase) → record { sup = sup; disk = disk; phase = phase } ≡ r → files new 0 ≡ files disk 0
    → contents_of files new 0 ≡ contents_of files r.disk 0
head_beside files r sup disk new phase view same = ap (λ (f : FileState). f.now) same ∙ ap (λ (x : Copy _). contents_of files x.disk 0) view

-- what changed no current file has left them
pub bytes_beside : {D : Type 0} (files : D → Files) (r : Copy D) (sup : Super) (disk new : D) (phase : Phase) (opened next : OpenFiles)
    → record { sup = sup; disk = disk; phase = phase } ≡ r → phase ≡ Open opened
    → KeepsFiles opened next → files new (volume_file opened.head.generation) ≡ files disk (volume_file opened.head.generation)
    → volume_bytes files (record { sup = sup; disk = new; phase = Open next }) ≡ volume_bytes files r
bytes_beside files r sup disk new phase opened next view is keeps same =
    ap (λ (o : OpenFiles). (files new (volume_file o.head.generation)).now) keeps ∙ ap (λ (f : FileState). f.now) same
    ∙ ap (λ (p : Phase). (files disk (volume_file (phase_generation p))).now) (sym is) ∙ ap (λ (x : Copy _). volume_bytes files x) view
