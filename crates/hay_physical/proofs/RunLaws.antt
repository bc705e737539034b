-- A compaction beside an open replica.
use Rattle.std.proofs.Common.{true≢false, Option, ◌≡◌, ◌≢◌, ◌⊎◌, inl, inr, ℕ, suc, ◌+◌, ◌-◌, ◌≤◌, Bool, true, false, cond, List, [], ◌∷◌, length, drop, Some, None, refl, sym, ◌∙◌}
use Rattle.std.proofs.Common.{ap, subst, arith, length-append, ◌&&◌}
use Rattle.std.proofs.lemmas.Bool.{cases_Bool}
use Rattle.std.proofs.lemmas.List.{length-drop, length-map}
use Rattle.hay_needle.specs.declared.needle.Cell.{Cell}
use Rattle.hay_needle.specs.declared.needle.CellHead.{CellHead}
use Rattle.hay_needle.specs.declared.needle.Cookie.{Cookie}
use Rattle.hay_needle.specs.declared.needle.Needle.{Needle}
use Rattle.hay_needle.specs.declared.needle.Pair.{Pair}
use Rattle.hay_needle.specs.declared.settings.Super.{Super}
use Rattle.hay_needle.specs.Needle.{needle_of_cell, needle_magic}
use Rattle.hay_needle.specs.Super.{super_bytes}
use Rattle.hay_needle.specs.Tables.{flag_last, lacks, pair_eq}
use Rattle.hay_needle.specs.declared.settings.TheConstants.{LAST_GENERATION}
use Rattle.hay_disk.specs.Disk.{Files, FileState, KeepsOthers}
use Rattle.hay_head.specs.declared.head.Head.{Head}
use Rattle.hay_volume.specs.declared.fault.CellFault.{CellFault}
use Rattle.hay_volume.specs.declared.volume.VolumeFile.{VolumeFile}
use Rattle.std.specs.Prelude.{IfSome, IfNone, nat_eq}
use Rattle.hay_volume.specs.Cells.{IsVolume, live_cell, needles_of, with_flag}
use Rattle.hay_index.specs.Records.{IsIndex, index_magic}
use Rattle.hay_open.specs.Stored.{HeadRests, Stored, VolumeRests, index_file, index_super, volume_file, volume_super}
use Rattle.hay_compact.specs.Copying.{Copying, IsHeadOf, IsLatest, IsMaking, KeepsOtherFiles, MovesOn, Repeats, Stage, with_copy, renewed}
use Rattle.hay_compact.proofs.CellLists.{flagged_needles}
use Rattle.hay_compact.proofs.Meanwhile.{copies_deleted, copies_none, copies_put, copies_repeated, copying_current, copying_delete, copying_put}
use Rattle.hay_physical.specs.declared.state.Copier.{Copier}
use Rattle.hay_physical.specs.declared.state.Copier.TheVariants.{Ended, Standing}
use Rattle.hay_physical.specs.declared.state.OpenFiles.{OpenFiles}
use Rattle.hay_physical.specs.OpenCopies.{copier_capacity, copier_goal, copier_next}
use Rattle.hay_physical.specs.Replicas.{FilesReady, FilesStand, IndexStands, IsBounded, IsCopierReady, IsSettled, MayFlag, with_cell, without_cell}
use Rattle.hay_physical.specs.CompactionRuns.{FilesPeek, FilesRun, HasLastAt, KeepsCopier, KeepsFiles, Run, loosened, longer, stepped}
use Rattle.hay_disk.specs.Gate.{IsGate}
use Rattle.hay_head.specs.Head.{head_magic, row_place}

-- FILES BESIDE THOSE OF A REPLICA

pub stand_beside : (sup : Super) (files later : Files) (opened new : OpenFiles) (s : Stored) → FilesStand sup files opened s → KeepsFiles opened new
    → KeepsOtherFiles (opened.head.generation + 1) files later → FilesStand sup later new s
stand_beside sup files later opened new s f keeps others =
    let g = f.generation in
    let head : later 0 ≡ files 0 = others 0 (λ e. omega arith) (λ e. omega arith) in
    let volume : later (volume_file s.generation) ≡ files (volume_file s.generation) = others (volume_file s.generation) (λ e. omega arith) (λ e. omega arith) in
    let index : later (index_file s.generation) ≡ files (index_file s.generation) = others (index_file s.generation) (λ e. omega arith) (λ e. omega arith) in
    subst (λ (o : OpenFiles). FilesStand sup later o s) (sym keeps) (record {
      generation = f.generation;
      lags = f.lags;
      volume = f.volume;
      index_number = f.index_number;
      noted = f.noted;
      head = subst (λ (x : FileState). HeadRests sup x s.generation) (sym head) f.head;
      cells = subst (λ (x : FileState). VolumeRests sup x s) (sym volume) f.cells;
      index = subst (λ (x : FileState). IndexStands sup x s opened.index.end opened.index.frozen) (sym index) f.index;
    })

-- what stands does not read the copier
pub stand_with : (sup : Super) (files : Files) (opened new : OpenFiles) (s : Stored) → FilesStand sup files opened s → KeepsFiles opened new → FilesStand sup files new s
stand_with sup files opened new s f keeps = stand_beside sup files files opened new s f keeps (λ other first second. refl)

pub ready_beside : (files later : Files) (opened new : OpenFiles) → FilesReady files opened → KeepsFiles opened new → KeepsOtherFiles (opened.head.generation + 1) files later → FilesReady later new
ready_beside files later opened new r keeps others =
    let v = r.volume_number in
    let i = r.index_number in
    let head : later 0 ≡ files 0 = others 0 (λ e. omega arith) (λ e. omega arith) in
    let volume : later opened.volume.file ≡ files opened.volume.file = others opened.volume.file (λ e. omega arith) (λ e. omega arith) in
    let index : later opened.index.file ≡ files opened.index.file = others opened.index.file (λ e. omega arith) (λ e. omega arith) in
    subst (λ (o : OpenFiles). FilesReady later o) (sym keeps) (record {
      volume_number = r.volume_number;
      index_number = r.index_number;
      head = subst (λ (x : FileState). IsGate head_magic (row_place (opened.head.generation + 1)) x) (sym head) r.head;
      volume = subst (λ (x : FileState). IsGate needle_magic opened.volume.end x) (sym volume) r.volume;
      index = λ live. subst (λ (x : FileState). IsGate index_magic opened.index.end x) (sym index) (r.index live);
    })

pub ready_with : (files : Files) (opened new : OpenFiles) → FilesReady files opened → KeepsFiles opened new → FilesReady files new
ready_with files opened new r keeps = ready_beside files files opened new r keeps (λ other first second. refl)

pub flag_beside : (files later : Files) (opened new : OpenFiles) (at : ℕ) → FilesReady files opened → KeepsFiles opened new → KeepsOtherFiles (opened.head.generation + 1) files later
    → MayFlag (files opened.volume.file) opened.volume.end at → MayFlag (later new.volume.file) new.volume.end at
flag_beside files later opened new at r keeps others flag =
    let v = r.volume_number in
    let volume : later opened.volume.file ≡ files opened.volume.file = others opened.volume.file (λ e. omega arith) (λ e. omega arith) in
    subst (λ (o : OpenFiles). MayFlag (later o.volume.file) o.volume.end at) (sym keeps) (subst (λ (x : FileState). MayFlag x opened.volume.end at) (sym volume) flag)

-- WHAT HOLDS OF A COPIER ON ANY DISK

no_goal : (copier : Copier) (faults goal : ℕ) → copier ≡ Ended faults → copier_goal copier ≡ Some goal → ⊥
no_goal copier faults goal ended is = let e : None ≡ Some goal = sym (ap copier_goal ended) ∙ is in absurd cc

pub goal_is : (opened : OpenFiles) (stage : Stage) → opened.copier ≡ Standing stage → copier_goal opened.copier ≡ Some stage.generation
goal_is opened stage is = ap copier_goal is

pub settled_kept : (old new : OpenFiles) → IsSettled old → KeepsCopier old new → IsSettled new
settled_kept old new settled keeps = record {
  next = λ goal is. settled.next goal (was goal is) ∙ ap (λ (h : Head). h.generation + 1) (sym keeps.head);
  most = λ goal is. settled.most goal (was goal is);
  dropped = λ frozen. elim (cases_Bool old.frozen) [
    | inl before ↦ ap copier_goal (keeps.stays before) ∙ settled.dropped before
    | inr going ↦ ap copier_goal (keeps.dropped going frozen).1
  ];
}
  where
    was : (goal : ℕ) → copier_goal new.copier ≡ Some goal → copier_goal old.copier ≡ Some goal
    was goal is =
        elim (cases_Bool new.frozen) [
          | inr going ↦ ap copier_goal (sym (keeps.same going)) ∙ is
          | inl frozen ↦ elim (cases_Bool old.frozen) [
            | inl before ↦ ap copier_goal (sym (keeps.stays before)) ∙ is
            | inr going ↦ absurd (let ended = keeps.dropped going frozen in no_goal new.copier ended.0 goal ended.1 is)
          ]
        ]

pub settled_none : (opened : OpenFiles) → copier_goal opened.copier ≡ None → IsSettled opened
settled_none opened none = record {
  next = λ goal is. absurd (let e : None ≡ Some goal = sym none ∙ is in cc);
  most = λ goal is. absurd (let e : None ≡ Some goal = sym none ∙ is in cc);
  dropped = λ frozen. none;
}

pub settled_same : (old new : OpenFiles) → IsSettled old → KeepsFiles old new → (copier_goal new.copier ≡ copier_goal old.copier) ⊎ (copier_goal new.copier ≡ None) → IsSettled new
settled_same old new settled keeps (inl same) = record {
  next = λ goal is. settled.next goal (sym same ∙ is) ∙ ap (λ (o : OpenFiles). o.head.generation + 1) (sym keeps);
  most = λ goal is. settled.most goal (sym same ∙ is);
  dropped = λ frozen. same ∙ settled.dropped (ap (λ (o : OpenFiles). o.frozen) (sym keeps) ∙ frozen);
}
settled_same old new settled keeps (inr none) = settled_none new none

pub settled_still : (old new : OpenFiles) → IsSettled old → new.head ≡ old.head → new.copier ≡ old.copier → new.frozen ≡ old.frozen → IsSettled new
settled_still old new settled head copier frozen = record {
  next = λ goal is. settled.next goal (ap copier_goal (sym copier) ∙ is) ∙ ap (λ (h : Head). h.generation + 1) (sym head);
  most = λ goal is. settled.most goal (ap copier_goal (sym copier) ∙ is);
  dropped = λ now. ap copier_goal copier ∙ settled.dropped (sym frozen ∙ now);
}

pub bounded_still : (capacity : ℕ) (old new : OpenFiles) → IsBounded capacity old → new.head ≡ old.head → new.volume.file ≡ old.volume.file
    → new.volume.capacity ≡ old.volume.capacity → old.volume.end ≤ new.volume.end → new.copier ≡ old.copier → IsBounded capacity new
bounded_still capacity old new bounded head file volume grows copier =
    let most = bounded.most in
    let from = bounded.from in
    let within = bounded.within in
    record {
      file = file ∙ bounded.file ∙ ap (λ (h : Head). volume_file h.generation) (sym head);
      volume = volume ∙ bounded.volume;
      next = λ most is. bounded.next most (ap copier_capacity (sym copier) ∙ is);
      most = omega (arith, ap (λ (h : Head). h.generation) head);
      from = omega arith;
      within = omega (arith, ap copier_next copier);
    }

pub bounded_ended : (capacity : ℕ) (new : OpenFiles) (faults : ℕ) → new.volume.file ≡ volume_file new.head.generation → new.volume.capacity ≡ capacity → new.head.generation ≤ LAST_GENERATION
    → 64 ≤ new.volume.end → new.copier ≡ Ended faults → IsBounded capacity new
bounded_ended capacity new faults file volume most from ended = record {
  file = file;
  volume = volume;
  next = λ most is. absurd (let e : None ≡ Some most = sym (ap copier_capacity ended) ∙ is in cc);
  most = most;
  from = from;
  within = (let none : copier_next new.copier ≡ 0 = ap copier_next ended in omega arith);
}

-- and nothing else changed
pub bounded_dropped : (capacity : ℕ) (old new : OpenFiles) (faults : ℕ) → IsBounded capacity old → KeepsFiles old new → new.copier ≡ Ended faults → IsBounded capacity new
bounded_dropped capacity old new faults bounded keeps ended =
    bounded_ended capacity new faults (subst (λ (o : OpenFiles). o.volume.file ≡ volume_file o.head.generation) (sym keeps) bounded.file)
    (ap (λ (o : OpenFiles). o.volume.capacity) keeps ∙ bounded.volume)
    (subst (λ (o : OpenFiles). o.head.generation ≤ LAST_GENERATION) (sym keeps) bounded.most) (subst (λ (o : OpenFiles). 64 ≤ o.volume.end) (sym keeps) bounded.from) ended

pub bounded_stage : (capacity : ℕ) (old new : OpenFiles) (stage : Stage) → IsBounded capacity old → KeepsFiles old new → new.copier ≡ Standing stage → stage.capacity ≡ capacity
    → stage.next ≤ old.volume.end → IsBounded capacity new
bounded_stage capacity old new stage bounded keeps stands same within = record {
  file = subst (λ (o : OpenFiles). o.volume.file ≡ volume_file o.head.generation) (sym keeps) bounded.file;
  volume = ap (λ (o : OpenFiles). o.volume.capacity) keeps ∙ bounded.volume;
  next = λ most is. let e : Some stage.capacity ≡ Some most = sym (ap copier_capacity stands) ∙ is in let f : most ≡ stage.capacity = cc in f ∙ same;
  most = subst (λ (o : OpenFiles). o.head.generation ≤ LAST_GENERATION) (sym keeps) bounded.most;
  from = subst (λ (o : OpenFiles). 64 ≤ o.volume.end) (sym keeps) bounded.from;
  within = subst (λ (o : OpenFiles). copier_next new.copier ≤ o.volume.end) (sym keeps) (subst (λ k. k ≤ old.volume.end) (sym (ap copier_next stands)) within);
}

pub bounded_next : (capacity : ℕ) (old new : OpenFiles) (stage later : Stage) → IsBounded capacity old → KeepsFiles old new
    → old.copier ≡ Standing stage → new.copier ≡ Standing later → later.capacity ≡ stage.capacity → later.next ≤ old.volume.end → IsBounded capacity new
bounded_next capacity old new stage later bounded keeps was is same within =
    bounded_stage capacity old new later bounded keeps is (same ∙ bounded.next stage.capacity (ap copier_capacity was)) within

-- what was examined is within the cells
pub examined_within : (capacity : ℕ) (opened : OpenFiles) (stage : Stage) → IsBounded capacity opened → opened.copier ≡ Standing stage → stage.next ≤ opened.volume.end
examined_within capacity opened stage bounded is = subst (λ k. k ≤ opened.volume.end) (ap copier_next is) bounded.within

pub bounded_kept : (capacity : ℕ) (old new : OpenFiles) → IsBounded capacity old → new.volume.file ≡ old.volume.file → new.volume.capacity ≡ old.volume.capacity
    → old.volume.end ≤ new.volume.end → KeepsCopier old new → IsBounded capacity new
bounded_kept capacity old new bounded file volume grows keeps =
    elim (cases_Bool new.frozen) [
      | inr going ↦ bounded_still capacity old new bounded keeps.head file volume grows (keeps.same going)
      | inl frozen ↦ elim (cases_Bool old.frozen) [
        | inl before ↦ bounded_still capacity old new bounded keeps.head file volume grows (keeps.stays before)
        | inr going ↦
            let ended = keeps.dropped going frozen in
            let most = bounded.most in
            let from = bounded.from in
            bounded_ended capacity new ended.0 (file ∙ bounded.file ∙ ap (λ (h : Head). volume_file h.generation) (sym keeps.head)) (volume ∙ bounded.volume)
            (omega (arith, ap (λ (h : Head). h.generation) keeps.head)) (omega arith) ended.1
      ]
    ]

-- where none stands no cell is next
pub none_next : (copier : Copier) → copier_goal copier ≡ None → copier_next copier ≡ 0
none_next (Ended faults) none = refl
none_next (Standing stage) none = absurd cc

-- one that ended does not have the goal any more
pub gone : (old new : Copier) (stage : Stage) (faults : ℕ) → old ≡ Standing stage → new ≡ Ended faults → copier_goal new ≡ copier_goal old → ⊥
gone old new stage faults was ended same = let e : None ≡ Some stage.generation = sym (ap copier_goal ended) ∙ same ∙ ap copier_goal was in cc

-- a change that leaves it leaves the next cell
pub place_kept : (old new : OpenFiles) → KeepsCopier old new → copier_goal new.copier ≡ copier_goal old.copier → copier_next new.copier ≡ copier_next old.copier
place_kept old new keeps same =
    elim (cases_Bool new.frozen) [
      | inr going ↦ ap copier_next (keeps.same going)
      | inl frozen ↦ elim (cases_Bool old.frozen) [
        | inl before ↦ ap copier_next (keeps.stays before)
        | inr going ↦ let ended = keeps.dropped going frozen in ap copier_next ended.1 ∙ sym (none_next old.copier (sym same ∙ ap copier_goal ended.1))
      ]
    ]

-- a freeze ends it
pub freeze_keeps : (old new : OpenFiles) (faults : ℕ) → old.frozen ≡ false → new.head ≡ old.head → new.frozen ≡ true → new.copier ≡ Ended faults → KeepsCopier old new
freeze_keeps old new faults going head frozen copier = record {
  head = head;
  thawed = λ thawed. absurd (true≢false (sym frozen ∙ thawed));
  same = λ thawed. absurd (true≢false (sym frozen ∙ thawed));
  stays = λ before. absurd (true≢false (sym before ∙ going));
  dropped = λ before after. (faults, copier);
}

pub making_moved : (files later : Files) (stage : Stage) → IsMaking files stage → later stage.volume.file ≡ files stage.volume.file
    → later stage.index.file ≡ files stage.index.file → IsMaking later stage
making_moved files later stage m volume index = record {
  sup = m.sup;
  fresh = m.fresh;
  making = record {
    names_volume = m.making.names_volume;
    names_index = m.making.names_index;
    volume_is = subst (λ (f : FileState). IsVolume (super_bytes (volume_super m.sup stage.generation)) f.now m.fresh stage.volume.end) (sym volume) m.making.volume_is;
    index_is = subst (λ (f : FileState). IsIndex (super_bytes (index_super m.sup stage.generation)) f.now [] stage.index.end) (sym index) m.making.index_is;
    volume_free = λ k. ap (λ (f : FileState). f.sealed k) volume ∙ m.making.volume_free k;
    index_free = λ k. ap (λ (f : FileState). f.sealed k) index ∙ m.making.index_free k;
    noted = m.making.noted;
    anew = m.making.anew;
    places = m.making.places;
    capacity_is = m.making.capacity_is;
  };
}

-- a change of another file
pub copier_ready_kept : (files later : Files) (old new : OpenFiles) (changed : ℕ) → IsSettled old → IsCopierReady files old → new.copier ≡ old.copier → KeepsOthers changed files later
    → (changed ≡ volume_file (old.head.generation + 1) → ⊥) → (changed ≡ index_file (old.head.generation + 1) → ⊥) → IsCopierReady later new
copier_ready_kept files later old new changed settled ready same others first second = λ stage is.
    let before : old.copier ≡ Standing stage = sym same ∙ is in
    let m = ready stage before in
    let next = settled.next stage.generation (goal_is old stage before) in
    let v = m.making.names_volume in
    let i = m.making.names_index in
    making_moved files later stage m (others stage.volume.file (λ e. first (omega arith))) (others stage.index.file (λ e. second (omega arith)))

pub copier_ready_volume : (files later : Files) (old new : OpenFiles) → IsSettled old → FilesReady files old → IsCopierReady files old → new.copier ≡ old.copier
    → KeepsOthers old.volume.file files later → IsCopierReady later new
copier_ready_volume files later old new settled r ready same others =
    let v = r.volume_number in
    copier_ready_kept files later old new old.volume.file settled ready same others (λ e. omega arith) (λ e. omega arith)

pub copier_ready_index : (files later : Files) (old new : OpenFiles) → IsSettled old → FilesReady files old → IsCopierReady files old → new.copier ≡ old.copier
    → KeepsOthers old.index.file files later → IsCopierReady later new
copier_ready_index files later old new settled r ready same others =
    let i = r.index_number in
    copier_ready_kept files later old new old.index.file settled ready same others (λ e. omega arith) (λ e. omega arith)

-- A RUN

pub run_begun : (sup : Super) (files later : Files) (opened new : OpenFiles) (stage : Stage) (s : Stored) (goal : ℕ)
    → ((old : VolumeFile) (superblock : List ℕ) (cells : List Cell) → IsVolume superblock (files old.file).now cells old.end → old.file ≢ volume_file goal
    → old.file ≢ index_file goal → Copying sup later old stage cells [] 0)
    → FilesStand sup files opened s → stage.generation ≡ goal → goal ≡ opened.head.generation + 1 → new.volume ≡ opened.volume → new.copier ≡ Standing stage
    → FilesRun sup later new s (record { goal = goal; left = length s.cells; tight = true })
run_begun sup files later opened new stage s goal begun f named next volume copier =
    let g = f.generation in
    let v : VolumeFile = record { file = volume_file s.generation; end = s.end; capacity = sup.settings.capacity } in
    let is : new.volume ≡ v = volume ∙ f.volume in
    record {
      stage = stage;
      stands = copier;
      goal = named;
      next = omega arith;
      fresh = [];
      examined = 0;
      copying = subst (λ (x : VolumeFile). Copying sup later x stage s.cells [] 0) (sym is)
          (begun v (super_bytes (volume_super sup s.generation)) s.cells f.cells.is (λ e. omega arith) (λ e. omega arith));
      copies = copies_none s.cells;
      fewer = omega arith;
      left = omega arith;
      tight = λ yes. refl;
    }

-- the current volume file
pub stands_volume : (sup : Super) (files : Files) (opened : OpenFiles) (s : Stored) → FilesStand sup files opened s
    → IsVolume (super_bytes (volume_super sup s.generation)) (files opened.volume.file).now s.cells opened.volume.end
stands_volume sup files opened s f = subst (λ (v : VolumeFile). IsVolume (super_bytes (volume_super sup s.generation)) (files v.file).now s.cells v.end) (sym f.volume) f.cells.is

-- the files of the next generation are as they were
pub record KeepsNext (files later : Files) (generation : ℕ) : Type 0 where
  pub volume : later (volume_file (generation + 1)) ≡ files (volume_file (generation + 1))
  pub index : later (index_file (generation + 1)) ≡ files (index_file (generation + 1))

pub next_besides_volume : (sup : Super) (files old later : Files) (opened : OpenFiles) (s : Stored) → FilesStand sup files opened s → KeepsOthers opened.volume.file old later
    → KeepsNext old later s.generation
next_besides_volume sup files old later opened s f others =
    let file : opened.volume.file ≡ volume_file s.generation = ap (λ (v : VolumeFile). v.file) f.volume in
    record { volume = others (volume_file (s.generation + 1)) (λ e. omega arith); index = others (index_file (s.generation + 1)) (λ e. omega arith) }

pub next_besides_index : (sup : Super) (files old later : Files) (opened : OpenFiles) (s : Stored) → FilesStand sup files opened s → KeepsOthers opened.index.file old later
    → KeepsNext old later s.generation
next_besides_index sup files old later opened s f others =
    let file = f.index_number in
    record { volume = others (volume_file (s.generation + 1)) (λ e. omega arith); index = others (index_file (s.generation + 1)) (λ e. omega arith) }

run_volume : (sup : Super) (files later : Files) (opened : OpenFiles) (s : Stored) (run : Run) → (r : FilesRun sup files opened s run) → KeepsNext files later s.generation
    → later r.stage.volume.file ≡ files r.stage.volume.file
run_volume sup files later opened s run r keeps =
    let at : r.stage.volume.file ≡ volume_file (s.generation + 1) = r.copying.names_volume ∙ ap volume_file (r.goal ∙ r.next) in
    subst (λ k. later k ≡ files k) (sym at) keeps.volume

run_index : (sup : Super) (files later : Files) (opened : OpenFiles) (s : Stored) (run : Run) → (r : FilesRun sup files opened s run) → KeepsNext files later s.generation
    → later r.stage.index.file ≡ files r.stage.index.file
run_index sup files later opened s run r keeps =
    let at : r.stage.index.file ≡ index_file (s.generation + 1) = r.copying.names_index ∙ ap index_file (r.goal ∙ r.next) in
    subst (λ k. later k ≡ files k) (sym at) keeps.index

-- The cells stay, and so do the files of the next generation.
pub run_kept : (sup : Super) (files later : Files) (opened new : OpenFiles) (s : Stored) (n : ℕ) (run : Run) → FilesRun sup files opened s run → new.copier ≡ opened.copier → new.volume ≡ opened.volume
    → FilesStand sup later new (record s { records = n }) → KeepsNext files later s.generation → FilesRun sup later new (record s { records = n }) run
run_kept sup files later opened new s n run r copier volume stand keeps = record {
  stage = r.stage;
  stands = copier ∙ r.stands;
  goal = r.goal;
  next = r.next;
  fresh = r.fresh;
  examined = r.examined;
  copying = copying_current sup files later opened.volume new.volume r.stage s.cells s.cells r.fresh r.examined (super_bytes (volume_super sup s.generation)) r.copying
      (run_volume sup files later opened s run r keeps) (run_index sup files later opened s run r keeps) (ap (λ (v : VolumeFile). v.file) volume)
      (stands_volume sup later new (record s { records = n }) stand) r.copying.within refl (λ pair none. none);
  copies = r.copies;
  fewer = r.fewer;
  left = r.left;
  tight = r.tight;
}

-- a photo was put
pub run_put : (sup : Super) (files later : Files) (opened new : OpenFiles) (s : Stored) (pair : Pair) (cookie : Cookie) (photo : List ℕ) (run : Run)
    → FilesRun sup files opened s run → new.copier ≡ opened.copier → new.volume.file ≡ opened.volume.file
    → FilesStand sup later new (with_cell s pair cookie photo) → KeepsNext files later s.generation → FilesRun sup later new (with_cell s pair cookie photo) (longer run)
run_put sup files later opened new s pair cookie photo run r copier file stand keeps =
    let cell : Cell = live_cell s.end pair cookie photo in
    let left = r.left in
    record {
      stage = r.stage;
      stands = copier ∙ r.stands;
      goal = r.goal;
      next = r.next;
      fresh = r.fresh;
      examined = r.examined;
      copying = copying_put sup files later opened.volume new.volume r.stage s.cells r.fresh cell r.examined (super_bytes (volume_super sup s.generation)) r.copying
          (run_volume sup files later opened s run r keeps) (run_index sup files later opened s run r keeps) file
          (stands_volume sup later new (with_cell s pair cookie photo) stand);
      copies = copies_put r.fresh s.cells cell r.examined r.copying.within refl r.copies;
      fewer = r.fewer;
      left = omega (arith, length-append s.cells (cell ∷ []));
      tight = λ yes. absurd (let e : false ≡ true = yes in cc);
    }

-- A PHOTO WAS DELETED

length-flag_last : (pair : Pair) (needles : List Needle) → length (flag_last pair needles) ≡ length needles
length-flag_last pair [] = refl
length-flag_last pair (n ∷ needles) =
    elim (pair_eq n.pair pair && lacks pair needles) as (λ b. length (cond b (record n { deleted = true } ∷ needles) (n ∷ flag_last pair needles)) ≡ length (n ∷ needles)) [
      | true ↦ refl
      | false ↦ ap suc (length-flag_last pair needles)
    ]

-- in the current file, and then again in the new one
pub run_deleted : (sup : Super) (files middle later : Files) (opened flagged new : OpenFiles) (s : Stored) (pair : Pair) (at : ℕ) (run : Run) (next : Stage)
    → (r : FilesRun sup files opened s run) → FilesStand sup files opened s
    → flagged.volume ≡ opened.volume → FilesStand sup middle flagged (without_cell s at) → KeepsNext files middle s.generation → HasLastAt s.cells pair at
    → ((current fresh : List Cell) (examined : ℕ) → Copying sup middle flagged.volume r.stage current fresh examined → Repeats sup later flagged.volume next current fresh examined pair)
    → next.generation ≡ r.stage.generation → new.copier ≡ Standing next → new.volume ≡ flagged.volume → FilesRun sup later new (without_cell s at) (loosened run)
run_deleted sup files middle later opened flagged new s pair at run next r f volume stand keeps last repeats named copier same =
    let cells : List Cell = with_flag at true s.cells in
    let has = r.copying.current_is.has in
    let needles : needles_of cells ≡ flag_last pair (needles_of s.cells) =
    subst (λ k. needles_of (with_flag k true s.cells) ≡ flag_last pair (needles_of s.cells)) last.place
    (flagged_needles opened.volume.end (files opened.volume.file).now s.cells pair last.cell has last.last) in
    let there : Copying sup middle opened.volume r.stage cells r.fresh r.examined =
    copying_delete sup files middle opened.volume r.stage s.cells r.fresh r.examined at true (super_bytes (volume_super sup s.generation)) r.copying
    (run_volume sup files middle opened s run r keeps) (run_index sup files middle opened s run r keeps)
    (subst (λ (v : VolumeFile). IsVolume (super_bytes (volume_super sup s.generation)) (middle v.file).now cells v.end) volume (stands_volume sup middle flagged (without_cell s at) stand)) in
    let again = repeats cells r.fresh r.examined (subst (λ (v : VolumeFile). Copying sup middle v r.stage cells r.fresh r.examined) (sym volume) there) in
    let fewer = r.fewer in
    let left = r.left in
    record {
      stage = next;
      stands = copier;
      goal = named ∙ r.goal;
      next = r.next;
      fresh = again.flagged;
      examined = r.examined;
      copying = subst (λ (v : VolumeFile). Copying sup later v next cells again.flagged r.examined) (sym same) again.copying;
      copies =
          copies_repeated r.fresh s.cells cells again.flagged r.examined pair needles again.needles
          (λ other apart. copies_deleted r.fresh s.cells cells r.examined pair other needles apart (r.copies other));
      fewer = omega (arith, length-map again.flagged needle_of_cell, ap length again.needles, length-flag_last pair (needles_of r.fresh), length-map r.fresh needle_of_cell);
      left = omega (arith, length-map s.cells (λ (cell : Cell). cond (nat_eq cell.at at) (record cell { deleted = true }) cell));
      tight = λ yes. absurd (let e : false ≡ true = yes in cc);
    }

-- A CELL IS EXAMINED

-- a copier that stands where it stood
pub run_moves : (sup : Super) (files later : Files) (opened new : OpenFiles) (s : Stored) (run : Run) (next : Stage) → (r : FilesRun sup files opened s run)
    → new.copier ≡ Standing next → new.volume ≡ opened.volume → next.generation ≡ r.stage.generation
    → Copying sup later opened.volume next s.cells r.fresh r.examined → FilesRun sup later new s run
run_moves sup files later opened new s run next r copier volume named copying = record {
  stage = next;
  stands = copier;
  goal = named ∙ r.goal;
  next = r.next;
  fresh = r.fresh;
  examined = r.examined;
  copying = subst (λ (v : VolumeFile). Copying sup later v next s.cells r.fresh r.examined) (sym volume) copying;
  copies = r.copies;
  fewer = r.fewer;
  left = r.left;
  tight = r.tight;
}

-- the stage of a copier
pub one_stage : (a b : Stage) → Standing a ≡ Standing b → a ≡ b
one_stage a b e = cc

length-with_copy : (fresh : List Cell) (at n : ℕ) (cell : Cell) (copied : Bool) → length fresh ≤ n → length (with_copy fresh at cell copied) ≤ n + 1
length-with_copy fresh at n cell true few = omega (arith, length-append fresh (renewed at cell ∷ []))
length-with_copy fresh at n cell false few = omega arith

pub run_stepped : (sup : Super) (files later : Files) (opened new : OpenFiles) (s : Stored) (run : Run) (next : Stage) (head : CellHead) (copied : Bool)
    → (p : FilesPeek sup files opened s run head) → new.copier ≡ Standing next → new.volume ≡ opened.volume
    → next.generation ≡ p.has.stage.generation → MovesOn sup later opened.volume next s.cells p.has.fresh p.has.examined p.cell p.has.stage.volume.end copied → FilesRun sup later new s (stepped run)
run_stepped sup files later opened new s run next head copied p copier volume named moves =
    let r = p.has in
    let left = r.left in
    let more = length-drop r.examined s.cells in
    let some : length (drop r.examined s.cells) ≡ suc (length (drop (r.examined + 1) s.cells)) = ap length p.is in
    let e : r.examined + 1 + (run.left - 1) ≡ length s.cells = omega arith in
    record {
      stage = next;
      stands = copier;
      goal = named ∙ r.goal;
      next = r.next;
      fresh = with_copy r.fresh r.stage.volume.end p.cell copied;
      examined = r.examined + 1;
      copying = subst (λ (v : VolumeFile). Copying sup later v next s.cells (with_copy r.fresh r.stage.volume.end p.cell copied) (r.examined + 1)) (sym volume) moves.copying;
      copies = λ pair. moves.table pair (r.copies pair);
      fewer = length-with_copy r.fresh r.stage.volume.end r.examined p.cell copied r.fewer;
      left = e;
      tight = λ yes. moves.exact (r.tight yes);
    }

-- WHAT THE COPIER'S CALLS SAY

-- a run at the copier that stands
pub copying_at : (sup : Super) (files : Files) (opened : OpenFiles) (s : Stored) (run : Run) (stage : Stage) → (r : FilesRun sup files opened s run)
    → opened.copier ≡ Standing stage → Copying sup files opened.volume stage s.cells r.fresh r.examined
copying_at sup files opened s run stage r is = subst (λ (x : Stage). Copying sup files opened.volume x s.cells r.fresh r.examined) (one_stage r.stage stage (sym r.stands ∙ is)) r.copying

pub stage_at : (sup : Super) (files : Files) (opened : OpenFiles) (s : Stored) (run : Run) (stage : Stage) → (r : FilesRun sup files opened s run) → opened.copier ≡ Standing stage → r.stage ≡ stage
stage_at sup files opened s run stage r is = one_stage r.stage stage (sym r.stands ∙ is)

pub by_fault : (fault : CellFault) (P : Type 0) → (fault ≡ CellFault.NoMemory → P) → (fault ≡ CellFault.Failed → P) → ((at : ℕ) → fault ≡ CellFault.Damaged at → P) → P
by_fault CellFault.NoMemory P memory failed damaged = memory refl
by_fault CellFault.Failed P memory failed damaged = failed refl
by_fault (CellFault.Damaged at) P memory failed damaged = damaged at refl

-- the run is at the next cell
peek_one : (sup : Super) (files later : Files) (opened : OpenFiles) (s : Stored) (run : Run) (stage : Stage) (head : CellHead) (r : FilesRun sup files opened s run) → opened.copier ≡ Standing stage
    → later ≡ files → (cell : Cell) × (drop r.examined s.cells ≡ cell ∷ drop (r.examined + 1) s.cells) × IsHeadOf stage.next head cell → FilesPeek sup later opened s run head
peek_one sup files later opened s run stage head r was same cell =
    subst (λ (f : Files). FilesPeek sup f opened s run head) (sym same) (record {
      has = r;
      cell = cell.0;
      is = cell.1;
      copy = subst (λ (x : Stage). IsHeadOf x.next head cell.0) (sym (stage_at sup files opened s run stage r was)) cell.2;
    })

pub peek_next : (o : Option CellHead) (sup : Super) (files later : Files) (opened : OpenFiles) (s : Stored) (run : Run) (stage : Stage) (r : FilesRun sup files opened s run)
    → opened.copier ≡ Standing stage
    → later ≡ files → IfSome o (λ head. (cell : Cell) × (drop r.examined s.cells ≡ cell ∷ drop (r.examined + 1) s.cells) × IsHeadOf stage.next head cell)
    → IfSome o (λ head. FilesPeek sup later opened s run head)
peek_next None sup files later opened s run stage r was same cell = cell
peek_next (Some head) sup files later opened s run stage r was same cell = peek_one sup files later opened s run stage head r was same cell

pub none_left : (o : Option CellHead) (n left all : ℕ) → n + left ≡ all → IfNone o (n ≡ all) → IfNone o (left ≡ 0)
none_left None n left all sum here = omega arith
none_left (Some head) n left all sum here = here

-- a copier that was ended
pub not_ended : {P : Type 0} (copier : Copier) (faults : ℕ) (x : Stage) → copier ≡ Ended faults → copier ≡ Standing x → P
not_ended copier faults x ended is = let e : Ended faults ≡ Standing x = sym ended ∙ is in absurd cc

pub run_copied : (sup : Super) (files later : Files) (opened new : OpenFiles) (s : Stored) (run : Run) (stage next : Stage) (head : CellHead) (latest : Option ℕ) (copied : Bool)
    → FilesPeek sup files opened s run head → opened.copier ≡ Standing stage → new.copier ≡ Standing next → new.volume ≡ opened.volume
    → next.generation ≡ stage.generation → IsLatest s.cells head.pair latest
    → ((current fresh : List Cell) (examined : ℕ) (cell : Cell) → Copying sup files opened.volume stage current fresh examined
    → drop examined current ≡ cell ∷ drop (examined + 1) current → IsHeadOf stage.next head cell → IsLatest current cell.pair latest
    → MovesOn sup later opened.volume next current fresh examined cell stage.volume.end copied)
    → FilesRun sup later new s (stepped run)
run_copied sup files later opened new s run stage next head latest copied p was copier volume named last moves =
    let r = p.has in
    let same = stage_at sup files opened s run stage r was in
    let pair : head.pair ≡ p.cell.pair = ap (λ (x : CellHead). x.pair) p.copy.head_is in
    let step =
    moves s.cells r.fresh r.examined p.cell (copying_at sup files opened s run stage r was) p.is (subst (λ (x : Stage). IsHeadOf x.next head p.cell) same p.copy)
    (subst (λ (q : Pair). IsLatest s.cells q latest) pair last) in
    run_stepped sup files later opened new s run next head copied p copier volume (named ∙ ap (λ (x : Stage). x.generation) (sym same))
    (subst (λ (x : Stage). MovesOn sup later opened.volume next s.cells r.fresh r.examined p.cell x.volume.end copied) (sym same) step)

-- a run whose copier did not move
pub run_stays : (sup : Super) (files later : Files) (opened new : OpenFiles) (s : Stored) (run : Run) (stage next : Stage) → FilesRun sup files opened s run
    → opened.copier ≡ Standing stage → new.copier ≡ Standing next → new.volume ≡ opened.volume
    → next.generation ≡ stage.generation → ((current fresh : List Cell) (examined : ℕ) → Copying sup files opened.volume stage current fresh examined
    → Copying sup later opened.volume next current fresh examined)
    → FilesRun sup later new s run
run_stays sup files later opened new s run stage next r was copier volume named stays =
    run_moves sup files later opened new s run next r copier volume (named ∙ ap (λ (x : Stage). x.generation) (sym (stage_at sup files opened s run stage r was)))
    (stays s.cells r.fresh r.examined (copying_at sup files opened s run stage r was))

-- what the copier writes is beside the files of the replica
pub beside_volume : (files later : Files) (opened : OpenFiles) (stage : Stage) → IsSettled opened → opened.copier ≡ Standing stage → IsMaking files stage
    → KeepsOthers stage.volume.file files later → KeepsOtherFiles (opened.head.generation + 1) files later
beside_volume files later opened stage settled is m others = λ other first second.
    let next = settled.next stage.generation (goal_is opened stage is) in
    let names = m.making.names_volume in
    others other (λ e. first (omega arith))
