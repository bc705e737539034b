-- The files of a compaction become the current ones.
use Rattle.std.proofs.Common.{◌≡◌, ◌≢◌, inl, inr, ℕ, ◌+◌, ◌≤◌, Bool, false, List, length, take, Option, Some, None, refl, sym, ◌∙◌, ap, subst, arith}
use Rattle.std.specs.Prelude.{sum_by, map}
use Rattle.std.proofs.lemmas.List.{drop_all, length-map, take_all}
use Rattle.hay_needle.specs.declared.needle.Cell.{Cell}
use Rattle.hay_needle.specs.declared.needle.Pair.{Pair}
use Rattle.hay_needle.specs.declared.settings.Super.{Super}
use Rattle.hay_needle.specs.Needle.{needle_magic}
use Rattle.hay_needle.specs.Super.{super_bytes}
use Rattle.hay_disk.specs.Disk.{Files, FileState, KeepsOthers, IsImage, IsSolid}
use Rattle.hay_disk.specs.Gate.{IsClosed, IsGate}
use Rattle.hay_disk.proofs.Images.{solid_whole}
use Rattle.hay_head.specs.Head.{IsHead}
use Rattle.hay_volume.specs.declared.volume.VolumeFile.{VolumeFile}
use Rattle.hay_volume.specs.Cells.{HasCells, IsVolume, needles_of}
use Rattle.hay_volume.proofs.FlagLaws.{placed}
use Rattle.hay_volume.proofs.Readings.{one_reading}
use Rattle.hay_index.specs.declared.index.IndexFile.{IndexFile}
use Rattle.hay_index.specs.Records.{IsIndex, index_magic}
use Rattle.hay_map.specs.declared.place.Place.{Place}
use Rattle.hay_map.specs.declared.place.Place.TheVariants as place
use Rattle.hay_open.specs.Stored.{HeadRests, IndexRests, PlaceOf, Stored, VolumeRests, cell_record, head_super, index_file, index_super, last_cell, volume_file, volume_super}
use Rattle.hay_compact.specs.declared.finish.Finished.{Finished}
use Rattle.hay_compact.specs.Copying.{KeepsOtherFiles, Stage, cell_total, renewed_needle, stored_of}
use Rattle.hay_compact.specs.Finishing.{IsFinished}
use Rattle.hay_compact.proofs.CellLists.{cells_end, last_place_of}
use Rattle.hay_physical.specs.declared.state.OpenFiles.{OpenFiles}
use Rattle.hay_physical.specs.Replicas.{FilesReady, FilesStand, IndexStands, MayFind, MayFlag, MayFlagPlace}
use Rattle.hay_physical.specs.CompactionRuns.{FilesRun, IsTight, KeepsBut, MaySwitch, Run, Swaps, Switches}
use Rattle.hay_physical.proofs.CellRows.{flag_free}
use Rattle.hay_physical.proofs.Holding.{image_index}
use Rattle.hay_physical.proofs.RunLaws.{copying_at, ready_beside, stage_at, stand_beside}
use Rattle.hay_physical.specs.declared.state.Copier.TheVariants.{Standing}
use Rattle.hay_compact.proofs.LiveNeedles.{all_among}
use Rattle.hay_compact.proofs.Meanwhile.{copies_table}
use Rattle.hay_needle.specs.Needle.{needle_of_cell}

pub old_apart : (files : Files) (opened : OpenFiles) → FilesReady files opened → 0 ≢ opened.volume.file
old_apart files opened r e = let v = r.volume_number in omega arith

pub old_index_apart : (files : Files) (opened : OpenFiles) → FilesReady files opened → 0 ≢ opened.index.file
old_index_apart files opened r e = let v = r.index_number in omega arith

-- where nothing was switched
pub unfrozen_stands : (sup : Super) (f0 f1 : Files) (opened new : OpenFiles) (stage : Stage) (s : Stored) → FilesStand sup f0 opened s → KeepsOtherFiles stage.generation f0 f1
    → stage.generation ≡ opened.head.generation + 1 → new ≡ record opened { frozen = new.frozen } → FilesStand sup f1 new s
unfrozen_stands sup f0 f1 opened new stage s f others named is =
    let g = stand_beside sup f0 f1 opened opened s f refl (subst (λ k. KeepsOtherFiles k f0 f1) named others) in
    subst (λ (o : OpenFiles). FilesStand sup f1 o s) (sym is) (record {
      generation = g.generation;
      lags = g.lags;
      volume = g.volume;
      index_number = g.index_number;
      noted = g.noted;
      head = g.head;
      cells = g.cells;
      index = g.index;
    })

pub unfrozen_ready : (f0 f1 : Files) (opened new : OpenFiles) (stage : Stage) → FilesReady f0 opened → KeepsOtherFiles stage.generation f0 f1
    → stage.generation ≡ opened.head.generation + 1 → new ≡ record opened { frozen = new.frozen } → FilesReady f1 new
unfrozen_ready f0 f1 opened new stage r others named is =
    let g = ready_beside f0 f1 opened opened r refl (subst (λ k. KeepsOtherFiles k f0 f1) named others) in
    subst (λ (o : OpenFiles). FilesReady f1 o) (sym is) (record { volume_number = g.volume_number; index_number = g.index_number; head = g.head; volume = g.volume; index = g.index })

-- the files with those that were made
abbrev pub swapped_files : {P : Type 0} → OpenFiles → Finished P → OpenFiles
swapped_files opened finished = record opened { head = record { generation = opened.head.generation + 1 }; volume = finished.volume; index = finished.index }

index_thawed : {P : Type 0} (Tells : Type 0) (sup : Super) (files : Files) (finished : Finished P) (stage : Stage) (fresh : List Cell)
    → IsFinished Tells sup files finished stage fresh → finished.index.frozen ≡ false
index_thawed Tells sup files finished stage fresh fin = ap (λ (i : IndexFile). i.frozen) fin.index_is

pub swap_stands : {P : Type 0} (Tells : Type 0) (sup : Super) (f0 f1 f2 : Files) (opened new : OpenFiles) (s : Stored) (stage : Stage) (fresh : List Cell) (finished : Finished P)
    → FilesStand sup f0 opened s → KeepsOtherFiles stage.generation f0 f1 → stage.generation ≡ opened.head.generation + 1 → IsFinished Tells sup f1 finished stage fresh
    → new ≡ swapped_files opened finished → Switches (f1 0) (f2 0) opened.head.generation → KeepsBut opened.volume.file opened.index.file f1 f2
    → FilesStand sup f2 new (stored_of stage fresh)
swap_stands Tells sup f0 f1 f2 opened new s stage fresh finished f others named fin is sw but =
    let gen = f.generation in
    let volume_old : opened.volume.file ≡ volume_file s.generation = ap (λ (v : VolumeFile). v.file) f.volume in
    let index_old = f.index_number in
    let head0 : f1 0 ≡ f0 0 = others 0 (λ e. omega arith) (λ e. omega arith) in
    let volume : f2 (volume_file stage.generation) ≡ f1 (volume_file stage.generation) = but (volume_file stage.generation) (λ e. omega arith) (λ e. omega arith) (λ e. omega arith) in
    let index : f2 (index_file stage.generation) ≡ f1 (index_file stage.generation) = but (index_file stage.generation) (λ e. omega arith) (λ e. omega arith) (λ e. omega arith) in
    let was : IsHead (super_bytes (head_super sup)) (f1 0).now opened.head.generation =
    subst (λ k. IsHead (super_bytes (head_super sup)) (f1 0).now k) (sym gen) (subst (λ (x : FileState). IsHead (super_bytes (head_super sup)) x.now s.generation) (sym head0) f.head.is) in
    let long : length (map cell_record fresh) ≤ length fresh = omega (arith, length-map fresh cell_record) in
    subst (λ (o : OpenFiles). FilesStand sup f2 o (stored_of stage fresh)) (sym is) (record {
      generation = sym named;
      lags = omega arith;
      volume = fin.volume_is;
      index_number = ap (λ (i : IndexFile). i.file) fin.index_is;
      noted = ap (λ (i : IndexFile). i.pending) fin.index_is ∙ sym (drop_all (length fresh) (map cell_record fresh) long);
      head = subst (λ k. HeadRests sup (f2 0) k) (sym named) (record { is = sw.is (super_bytes (head_super sup)) was; solid = sw.solid; gate = sw.gate });
      cells = subst (λ (x : FileState). VolumeRests sup x (stored_of stage fresh)) (sym volume) fin.volume_rests;
      index = subst (λ (b : Bool). IndexStands sup (f2 (index_file stage.generation)) (stored_of stage fresh) finished.index.end b) (sym (index_thawed Tells sup f1 finished stage fresh fin))
          (subst (λ (x : FileState). IndexRests sup x (stored_of stage fresh) finished.index.end) (sym index) fin.index_rests);
    })

-- the new files behind the swap
pub record KeepsMade (f1 f2 : Files) (generation : ℕ) : Type 0 where
  pub volume : f2 (volume_file generation) ≡ f1 (volume_file generation)
  pub index : f2 (index_file generation) ≡ f1 (index_file generation)

pub made_kept : (files f1 f2 : Files) (opened : OpenFiles) (stage : Stage) → FilesReady files opened → stage.generation ≡ opened.head.generation + 1
    → KeepsBut opened.volume.file opened.index.file f1 f2 → KeepsMade f1 f2 stage.generation
made_kept files f1 f2 opened stage r named but =
    let v = r.volume_number in
    let i = r.index_number in
    record {
      volume = but (volume_file stage.generation) (λ e. omega arith) (λ e. omega arith) (λ e. omega arith);
      index = but (index_file stage.generation) (λ e. omega arith) (λ e. omega arith) (λ e. omega arith);
    }

pub swap_ready : {P : Type 0} (Tells : Type 0) (sup : Super) (f1 f2 : Files) (opened new : OpenFiles) (stage : Stage) (fresh : List Cell) (finished : Finished P)
    → stage.generation ≡ opened.head.generation + 1 → IsFinished Tells sup f1 finished stage fresh
    → new ≡ swapped_files opened finished → Switches (f1 0) (f2 0) opened.head.generation → KeepsMade f1 f2 stage.generation → FilesReady f2 new
swap_ready Tells sup f1 f2 opened new stage fresh finished named fin is sw made =
    let file : finished.volume.file ≡ volume_file stage.generation = ap (λ (v : VolumeFile). v.file) fin.volume_is in
    let end : finished.volume.end ≡ stage.volume.end = ap (λ (v : VolumeFile). v.end) fin.volume_is in
    let index : finished.index.file ≡ index_file stage.generation = ap (λ (i : IndexFile). i.file) fin.index_is in
    subst (λ (o : OpenFiles). FilesReady f2 o) (sym is) (record {
      volume_number = file ∙ ap volume_file named;
      index_number = index ∙ ap index_file named;
      head = sw.gate;
      volume =
          subst (λ k. IsGate needle_magic finished.volume.end (f2 k)) (sym file) (subst (λ k. IsGate needle_magic k (f2 (volume_file stage.generation))) (sym end)
          (subst (λ (x : FileState). IsGate needle_magic stage.volume.end x) (sym made.volume) fin.volume_rests.gate));
      index = λ live. subst (λ k. IsGate index_magic finished.index.end (f2 k)) (sym index) (subst (λ (x : FileState). IsGate index_magic finished.index.end x) (sym made.index) fin.index_rests.gate);
    })

-- each photo that was copied can be deleted
flag_place : {P : Type 0} (Tells : Type 0) (sup : Super) (files : Files) (opened : OpenFiles) (t : Stored) (pair : Pair) (last : Option Cell) (x : Place P)
    → VolumeRests sup (files opened.volume.file) t → opened.volume.end ≡ t.end → last_cell t.cells pair ≡ last → PlaceOf Tells last x → MayFlagPlace files opened x
flag_place Tells sup files opened t pair (Some cell) (place.Live needle) rests end is fits =
    let has = last_place_of t.cells pair cell is in
    let range = placed 64 cell.at rests.is.has.needles t.cells rests.is.has.are has in
    let ends = rests.is.has.ends in
    let there : MayFlag (files opened.volume.file) opened.volume.end cell.at = record {
      within = omega (arith, range.1);
      free = flag_free (files opened.volume.file) cell.at t.cells rests.flags has;
    } in
    subst (λ k. MayFlag (files opened.volume.file) opened.volume.end k) (sym fits.at) there
flag_place Tells sup files opened t pair (Some cell) (place.Unseen at size) rests end is fits =
    let has = last_place_of t.cells pair cell is in
    let range = placed 64 cell.at rests.is.has.needles t.cells rests.is.has.are has in
    let ends = rests.is.has.ends in
    let there : MayFlag (files opened.volume.file) opened.volume.end cell.at = record {
      within = omega (arith, range.1);
      free = flag_free (files opened.volume.file) cell.at t.cells rests.flags has;
    } in
    subst (λ k. MayFlag (files opened.volume.file) opened.volume.end k) (sym fits.0) there
flag_place Tells sup files opened t pair None (place.Live needle) rests end is fits = absurd fits
flag_place Tells sup files opened t pair None (place.Unseen at size) rests end is fits = absurd fits
flag_place Tells sup files opened t pair last place.None rests end is fits = tt
flag_place Tells sup files opened t pair last place.Gone rests end is fits = tt

pub swap_flags : {P : Type 0} (Tells : Type 0) (sup : Super) (f1 f2 : Files) (opened new : OpenFiles) (stage : Stage) (fresh : List Cell) (finished : Finished P) (pair : Pair) (x : Place P)
    → IsFinished Tells sup f1 finished stage fresh → new ≡ swapped_files opened finished → KeepsMade f1 f2 stage.generation → PlaceOf Tells (last_cell fresh pair) x → MayFlagPlace f2 new x
swap_flags {P = P} Tells sup f1 f2 opened new stage fresh finished pair x fin is made fits =
    let file : finished.volume.file ≡ volume_file stage.generation = ap (λ (v : VolumeFile). v.file) fin.volume_is in
    let end : finished.volume.end ≡ stage.volume.end = ap (λ (v : VolumeFile). v.end) fin.volume_is in
    let rests : VolumeRests sup (f2 finished.volume.file) (stored_of stage fresh) =
    subst (λ k. VolumeRests sup (f2 k) (stored_of stage fresh)) (sym file) (subst (λ (s : FileState). VolumeRests sup s (stored_of stage fresh)) (sym made.volume) fin.volume_rests) in
    subst (λ (o : OpenFiles). MayFlagPlace f2 o x) (sym is) (flag_place Tells sup f2 (swapped_files opened finished) (stored_of stage fresh) pair (last_cell fresh pair) x rests end refl fits)

-- Whatever the new files are said to stand for, its cells are those that were copied.
pub swap_counts : {P : Type 0} (Tells : Type 0) (sup other : Super) (f1 f2 : Files) (opened new : OpenFiles) (t : Stored) (stage : Stage) (fresh : List Cell) (finished : Finished P)
    → IsFinished Tells sup f1 finished stage fresh → new ≡ swapped_files opened finished → KeepsMade f1 f2 stage.generation → stage.index.pending ≡ map cell_record fresh
    → FilesStand other f2 new t → length t.cells ≡ length stage.index.pending
swap_counts Tells sup other f1 f2 opened new t stage fresh finished fin is made noted f =
    let file : finished.volume.file ≡ volume_file stage.generation = ap (λ (v : VolumeFile). v.file) fin.volume_is in
    let there : volume_file t.generation ≡ volume_file stage.generation = sym (ap (λ (v : VolumeFile). v.file) f.volume) ∙ ap (λ (o : OpenFiles). o.volume.file) is ∙ file in
    let rests : VolumeRests sup (f2 (volume_file stage.generation)) (stored_of stage fresh) = subst (λ (x : FileState). VolumeRests sup x (stored_of stage fresh)) (sym made.volume) fin.volume_rests in
    let now = subst (λ k. HasCells 64 (f2 k).now t.cells t.end) there f.cells.is.has in
    let shut = subst (λ k. IsClosed needle_magic t.end (f2 k).now) there f.cells.is.closed in
    let same = one_reading 64 t.end stage.volume.end (f2 (volume_file stage.generation)).now t.cells fresh now shut rests.is.has rests.is.closed in
    ap length same.0 ∙ sym (ap length noted ∙ length-map fresh cell_record)

-- Where the head was not written whole, an opening finds what stood or what was made.
pub swap_finds : {P : Type 0} (Tells : Type 0) (sup : Super) (f0 f1 f2 : Files) (opened : OpenFiles) (s : Stored) (stage : Stage) (fresh : List Cell) (finished : Finished P)
    → FilesStand sup f0 opened s → KeepsOtherFiles stage.generation f0 f1 → stage.generation ≡ opened.head.generation + 1 → IsFinished Tells sup f1 finished stage fresh
    → MaySwitch (f1 0) (f2 0) opened.head.generation → KeepsOthers 0 f1 f2 → MayFind sup f2 opened.index.frozen s (stored_of stage fresh)
unfolding MayFind
swap_finds Tells sup f0 f1 f2 opened s stage fresh finished f others named fin left rest = λ image leaves.
    let gen = f.generation in
    let g : ℕ = s.generation in
    let t : Stored = stored_of stage fresh in
    let head0 : f1 0 ≡ f0 0 = others 0 (λ e. omega arith) (λ e. omega arith) in
    let was : IsHead (super_bytes (head_super sup)) (f1 0).now opened.head.generation =
    subst (λ k. IsHead (super_bytes (head_super sup)) (f1 0).now k) (sym gen) (subst (λ (x : FileState). IsHead (super_bytes (head_super sup)) x.now s.generation) (sym head0) f.head.is) in
    let solid = subst (λ (x : FileState). IsSolid x) (sym head0) f.head.solid in
    let volume0 : f2 (volume_file g) ≡ f0 (volume_file g) = rest (volume_file g) (λ e. omega arith) ∙ others (volume_file g) (λ e. omega arith) (λ e. omega arith) in
    let index0 : f2 (index_file g) ≡ f0 (index_file g) = rest (index_file g) (λ e. omega arith) ∙ others (index_file g) (λ e. omega arith) (λ e. omega arith) in
    let volume1 : f2 (volume_file stage.generation) ≡ f1 (volume_file stage.generation) = rest (volume_file stage.generation) (λ e. omega arith) in
    let index1 : f2 (index_file stage.generation) ≡ f1 (index_file stage.generation) = rest (index_file stage.generation) (λ e. omega arith) in
    elim (left (super_bytes (head_super sup)) (image 0) was (λ k low high. solid.places k) (leaves 0)) [
      | inl old ↦
          let r =
          image_index sup (f0 (index_file g)) s opened.index.end opened.index.frozen (image (index_file g)) f.lags f.index
          (subst (λ (x : FileState). IsImage x (image (index_file g))) index0 (leaves (index_file g))) in
          let same : image (volume_file g) ≡ (f0 (volume_file g)).now =
          solid_whole (f0 (volume_file g)) (image (volume_file g)) f.cells.solid (subst (λ (x : FileState). IsImage x (image (volume_file g))) volume0 (leaves (volume_file g))) in
          record {
            found = record s { records = r.records };
            is = record {
              head = subst (λ k. IsHead (super_bytes (head_super sup)) (image 0) k) gen old;
              volume = subst (λ (l : List ℕ). IsVolume (super_bytes (volume_super sup g)) l s.cells s.end) (sym same) f.cells.is;
              lags = r.lags;
              index_end = r.end;
              index = r.is;
            };
            like = inl (record { cells = refl; end = refl; generation = refl; fewer = r.fewer; same = r.same });
          }
      | inr new ↦
          let volume_same : image (volume_file stage.generation) ≡ (f1 (volume_file stage.generation)).now =
          solid_whole (f1 (volume_file stage.generation)) (image (volume_file stage.generation)) fin.volume_rests.solid
          (subst (λ (x : FileState). IsImage x (image (volume_file stage.generation))) volume1 (leaves (volume_file stage.generation))) in
          let index_same : image (index_file stage.generation) ≡ (f1 (index_file stage.generation)).now =
          solid_whole (f1 (index_file stage.generation)) (image (index_file stage.generation)) fin.index_rests.solid
          (subst (λ (x : FileState). IsImage x (image (index_file stage.generation))) index1 (leaves (index_file stage.generation))) in
          record {
            found = t;
            is = record {
              head = subst (λ k. IsHead (super_bytes (head_super sup)) (image 0) k) (sym named) new;
              volume = subst (λ (l : List ℕ). IsVolume (super_bytes (volume_super sup stage.generation)) l fresh stage.volume.end) (sym volume_same) fin.volume_rests.is;
              lags = omega arith;
              index_end = finished.index.end;
              index =
                  subst (λ (l : List ℕ). IsIndex (super_bytes (index_super sup stage.generation)) l (take (length fresh) (map cell_record fresh)) finished.index.end)
                  (sym index_same) fin.index_rests.is;
            };
            like = inr (record { cells = refl; end = refl; generation = refl; fewer = omega arith; same = λ live. refl });
          }
    ]

-- What a run that has examined all cells has copied.
pub run_swaps : (sup : Super) (files : Files) (opened : OpenFiles) (s : Stored) (run : Run) (stage : Stage) → FilesStand sup files opened s → (r : FilesRun sup files opened s run)
    → opened.copier ≡ Standing stage → run.left ≡ 0
    → stage.volume.end ≤ stage.next → Swaps s (stored_of stage r.fresh)
run_swaps sup files opened s run stage f r is none behind =
    let h = copying_at sup files opened s run stage r is in
    let left = r.left in
    let fewer = r.fewer in
    let all : r.examined ≡ length s.cells = omega arith in
    let whole = cells_end 64 opened.volume.end (files opened.volume.file).now s.cells h.current_is.has in
    let taken : sum_by cell_total (take r.examined s.cells) ≡ sum_by cell_total s.cells = ap (sum_by cell_total) (take_all r.examined s.cells (omega arith)) in
    let next = h.next_is in
    let end : opened.volume.end ≡ s.end = ap (λ (v : VolumeFile). v.end) f.volume in
    record {
      table = copies_table r.fresh s.cells r.examined (omega arith) r.copies;
      anew = h.anew;
      generation = ap (λ (x : Stage). x.generation) (sym (stage_at sup files opened s run stage r is)) ∙ r.goal ∙ r.next;
      records = refl;
      fewer = omega arith;
      shorter = omega arith;
    }

pub run_tight : (sup : Super) (files : Files) (opened : OpenFiles) (s : Stored) (run : Run) (stage : Stage) → (r : FilesRun sup files opened s run) → run.left ≡ 0
    → IsTight run s (stored_of stage r.fresh)
run_tight sup files opened s run stage r none = λ yes.
    let left = r.left in
    r.tight yes ∙ ap (map renewed_needle) (all_among r.examined (needles_of s.cells) (omega (arith, length-map s.cells needle_of_cell)))
