-- What is stored on the disks of a store, with a batch behind it.
use Rattle.std.proofs.Common.{◌≡◌, inl, inr, ◌<◌, ◌≤◌, ◌+◌, ℕ, zero, suc, Bool, true, false, List, [], ◌∷◌, ◌++◌, length, map, take, refl, sym, ap, subst, ◌∙◌, arith, length-append}
use Rattle.std.specs.Prelude.{if◌then◌else◌, nat_eq}
use Rattle.hay_needle.specs.declared.needle.Cell.{Cell}
use Rattle.hay_needle.specs.declared.settings.Settings.{Settings}
use Rattle.hay_needle.specs.declared.settings.Super.{Super}
use Rattle.hay_needle.specs.Super.{super_bytes}
use Rattle.hay_disk.specs.Disk.{FileState, Files, IsImage, IsSolid, KeepsOthers, MayLeave}
use Rattle.hay_disk.proofs.Images.{solid_whole}
use Rattle.hay_head.specs.Head.{IsHead}
use Rattle.hay_index.specs.declared.record.Record.{Record}
use Rattle.hay_index.specs.Records.{IsIndex}
use Rattle.hay_volume.specs.Cells.{IsVolume}
use Rattle.hay_volume.specs.declared.volume.VolumeFile.{VolumeFile}
use Rattle.hay_open.specs.Stored.{IsStored, OpensAs, Stored, cell_record, head_super, index_file, index_super, recorded, volume_file, volume_super}
use Rattle.hay_batch.specs.declared.photo.NewPhoto.{NewPhoto}
use Rattle.hay_batch.specs.declared.replica.LoadReplica.{LoadReplica}
use Rattle.hay_batch.specs.declared.store.LoadStore.{LoadStore}
use Rattle.hay_batch.specs.Batches.{batch_total, new_cells}
use Rattle.hay_batch.specs.Openings.{journal_super}
use Rattle.hay_batch.specs.Replicas.{Holds, file_of}
use Rattle.hay_batch.specs.Shelves.{IsOpenAs, LeavesBatch, MayLeaveDisks, OpensStore, StandsAs, StoredStore, contents_of, replica_super, slot_of, with_needles, with_stored}
use Rattle.hay_batch.specs.Stores.{Contents, Images, IsShaped, KeepsFiles, LeavesWithOrWithout, MayLeaveStore, ReplicaAt, Stands, with_batch}
use Rattle.hay_batch.proofs.Lists.{at_below}
use Rattle.hay_batch.proofs.Loading.{replica_there, rows_kept}

-- RECORDS BEHIND WHICH CELLS COME

front_records : (n : ℕ) (cells more : List Cell) → n ≤ length cells → take n (map cell_record (cells ++ more)) ≡ take n (map cell_record cells)
front_records zero cells more low = refl
front_records (suc n) [] more low = absurd (omega (arith, low))
front_records (suc n) (cell ∷ cells) more low = ap (λ (l : List Record). cell_record cell ∷ l) (front_records n cells more (let less : n ≤ length cells = omega (arith, low) in less))

longer : (n : ℕ) (cells more : List Cell) → n ≤ length cells → n ≤ length (cells ++ more)
longer n cells more low = let e = length-append cells more in omega (arith, low, e)

opens_stored : (sup : Super) (contents : ℕ → List ℕ) (s : Stored) → IsStored sup contents s → OpensAs sup contents s
unfolding OpensAs
opens_stored sup contents s is = inr is

-- CONTENTS OF WHICH ONLY THE VOLUME FILE IS ANOTHER

module _ (sup : Super) (s : Stored) (old new : ℕ → List ℕ) (photos : List NewPhoto) where
  stored_same : IsStored sup old s → new 0 ≡ old 0 → new (index_file s.generation) ≡ old (index_file s.generation)
      → IsVolume (super_bytes (volume_super sup s.generation)) (new (volume_file s.generation)) s.cells s.end → IsStored sup new s
  stored_same is head index volume = record {
    head = subst (λ (l : List ℕ). IsHead (super_bytes (head_super sup)) l s.generation) (sym head) is.head;
    volume = volume;
    lags = is.lags;
    index_end = is.index_end;
    index = subst (λ (l : List ℕ). IsIndex (super_bytes (index_super sup s.generation)) l (recorded s) is.index_end) (sym index) is.index;
  }

  stored_more : IsStored sup old s → new 0 ≡ old 0 → new (index_file s.generation) ≡ old (index_file s.generation)
      → IsVolume (super_bytes (volume_super sup s.generation)) (new (volume_file s.generation)) (s.cells ++ new_cells s.end photos) (s.end + batch_total photos)
      → IsStored sup new (with_needles photos s)
  stored_more is head index volume = record {
    head = subst (λ (l : List ℕ). IsHead (super_bytes (head_super sup)) l s.generation) (sym head) is.head;
    volume = volume;
    lags = longer s.records s.cells (new_cells s.end photos) is.lags;
    index_end = is.index_end;
    index =
        subst (λ (l : List Record). IsIndex (super_bytes (index_super sup s.generation)) (new (index_file s.generation)) l is.index_end)
        (sym (front_records s.records s.cells (new_cells s.end photos) is.lags))
        (subst (λ (l : List ℕ). IsIndex (super_bytes (index_super sup s.generation)) l (recorded s) is.index_end) (sym index) is.index);
  }

-- ONE REPLICA

head_apart : (g : ℕ) → 0 ≡ volume_file g → ⊥
head_apart g same = omega (arith, same)

index_apart : (g : ℕ) → index_file g ≡ volume_file g → ⊥
index_apart g same = omega (arith, same)

volume_is : (x : VolumeFile) (f e c : ℕ) → x.file ≡ f → x.end ≡ e → x.capacity ≡ c → x ≡ record { file = f; end = e; capacity = c }
volume_is x f e c first second third =
    let with_file : ℕ → VolumeFile = λ n. record { file = n; end = x.end; capacity = x.capacity } in
    let with_end : ℕ → VolumeFile = λ n. record { file = f; end = n; capacity = x.capacity } in
    let with_capacity : ℕ → VolumeFile = λ n. record { file = f; end = e; capacity = n } in
    ap with_file first ∙ ap with_end second ∙ ap with_capacity third

module _ {D : Type 0} (files : D → Files) (sup : Super) (photos : List NewPhoto) (st : Stored) (r r' : LoadReplica D) (was : IsOpenAs files sup st r)
    (number : r'.volume.file ≡ r.volume.file) (room : r'.volume.capacity ≡ r.volume.capacity)
    (others : KeepsOthers r.volume.file (files r.disk) (files r'.disk)) where
  file_is : r.volume.file ≡ volume_file st.generation
  file_is = ap (λ (x : VolumeFile). x.file) was.volume

  capacity_is : r'.volume.capacity ≡ sup.settings.capacity
  capacity_is = room ∙ ap (λ (x : VolumeFile). x.capacity) was.volume

  new_file : r'.volume.file ≡ volume_file st.generation
  unfolding file_is
  new_file = number ∙ file_is

  kept_others : KeepsOthers (volume_file st.generation) (files r.disk) (files r'.disk)
  unfolding file_is
  kept_others = subst (λ n. KeepsOthers n (files r.disk) (files r'.disk)) file_is others

  head_same : files r'.disk 0 ≡ files r.disk 0
  unfolding kept_others
  head_same = kept_others 0 (head_apart st.generation)

  index_same : files r'.disk (index_file st.generation) ≡ files r.disk (index_file st.generation)
  unfolding kept_others
  index_same = kept_others (index_file st.generation) (index_apart st.generation)

  pub open_by : (b : Bool) → r'.volume.end ≡ (if b then st.end + batch_total photos else st.end)
      → Holds files (super_bytes (volume_super sup st.generation)) (if b then st.cells ++ new_cells st.end photos else st.cells) r'
      → IsOpenAs files sup (if b then with_needles photos st else st) r'
  unfolding head_same index_same new_file capacity_is
  open_by true end holds = record {
    rests = record {
      is = stored_more sup st (λ n. (files r.disk n).now) (λ n. (files r'.disk n).now) photos was.rests.is (ap (λ (f : FileState). f.now) head_same) (ap (λ (f : FileState). f.now) index_same)
          (subst (λ n. IsVolume (super_bytes (volume_super sup st.generation)) (files r'.disk n).now (st.cells ++ new_cells st.end photos) (st.end + batch_total photos)) new_file
          (subst (λ e. IsVolume (super_bytes (volume_super sup st.generation)) (files r'.disk r'.volume.file).now (st.cells ++ new_cells st.end photos) e) end holds.is));
      head = subst (λ (f : FileState). IsSolid f) (sym head_same) was.rests.head;
      volume = subst (λ n. IsSolid (files r'.disk n)) new_file holds.solid;
      index = subst (λ (f : FileState). IsSolid f) (sym index_same) was.rests.index;
    };
    volume = volume_is r'.volume (volume_file st.generation) (st.end + batch_total photos) sup.settings.capacity new_file end capacity_is;
  }
  open_by false end holds = record {
    rests = record {
      is = stored_same sup st (λ n. (files r.disk n).now) (λ n. (files r'.disk n).now) photos was.rests.is (ap (λ (f : FileState). f.now) head_same) (ap (λ (f : FileState). f.now) index_same)
          (subst (λ n. IsVolume (super_bytes (volume_super sup st.generation)) (files r'.disk n).now st.cells st.end) new_file
          (subst (λ e. IsVolume (super_bytes (volume_super sup st.generation)) (files r'.disk r'.volume.file).now st.cells e) end holds.is));
      head = subst (λ (f : FileState). IsSolid f) (sym head_same) was.rests.head;
      volume = subst (λ n. IsSolid (files r'.disk n)) new_file holds.solid;
      index = subst (λ (f : FileState). IsSolid f) (sym index_same) was.rests.index;
    };
    volume = volume_is r'.volume (volume_file st.generation) st.end sup.settings.capacity new_file end capacity_is;
  }

  -- what a stop leaves of its disk
  module _ (image : ℕ → List ℕ) (leaves : MayLeave (files r'.disk) image) where
    head_left : image 0 ≡ (files r.disk 0).now
    unfolding head_same
    head_left = solid_whole (files r.disk 0) (image 0) was.rests.head (subst (λ (f : FileState). IsImage f (image 0)) head_same (leaves 0))

    index_left : image (index_file st.generation) ≡ (files r.disk (index_file st.generation)).now
    unfolding index_same
    index_left =
        solid_whole (files r.disk (index_file st.generation)) (image (index_file st.generation)) was.rests.index
        (subst (λ (f : FileState). IsImage f (image (index_file st.generation))) index_same (leaves (index_file st.generation)))

    pub left_volume : IsImage (file_of files r') (image (volume_file st.generation))
    unfolding new_file
    left_volume = subst (λ n. IsImage (files r'.disk n) (image (volume_file st.generation))) (sym new_file) (leaves (volume_file st.generation))

    pub left_same : IsVolume (super_bytes (volume_super sup st.generation)) (image (volume_file st.generation)) st.cells st.end → OpensAs sup image st
    unfolding head_left index_left
    left_same volume = opens_stored sup image st (stored_same sup st (λ n. (files r.disk n).now) image photos was.rests.is head_left index_left volume)

    pub left_more : IsVolume (super_bytes (volume_super sup st.generation)) (image (volume_file st.generation)) (st.cells ++ new_cells st.end photos) (st.end + batch_total photos)
        → OpensAs sup image (with_needles photos st)
    unfolding head_left index_left
    left_more volume = opens_stored sup image (with_needles photos st) (stored_more sup st (λ n. (files r.disk n).now) image photos was.rests.is head_left index_left volume)

    pub left_by : (b : Bool) → IsVolume (super_bytes (volume_super sup st.generation)) (image (volume_file st.generation))
        (if b then st.cells ++ new_cells st.end photos else st.cells) (if b then st.end + batch_total photos else st.end)
        → OpensAs sup image (if b then with_needles photos st else st)
    unfolding left_same left_more
    left_by true volume = left_more volume
    left_by false volume = left_same volume

holds_by : {D : Type 0} (files : D → Files) (sup : Super) (photos : List NewPhoto) (st : Stored) (r : LoadReplica D) (b : Bool)
    → Holds files (super_bytes (volume_super sup st.generation)) (if b then st.cells ++ new_cells st.end photos else st.cells) r
    → let now : Stored = if b then with_needles photos st else st in Holds files (super_bytes (volume_super sup now.generation)) now.cells r
holds_by files sup photos st r true holds = holds
holds_by files sup photos st r false holds = holds

end_by : (photos : List NewPhoto) (st : Stored) (n : ℕ) (b : Bool) → n ≡ (if b then st.end + batch_total photos else st.end) → n ≡ (if b then with_needles photos st else st).end
end_by photos st n true is = is
end_by photos st n false is = is

-- THE STORE

-- each replica that there is now was there before
record WasReplica {D : Type 0} (old : LoadStore D) (v j : ℕ) : Type 0 where
  before : LoadReplica D
  is_there : ReplicaAt old v j before

replica_was : {D : Type 0} (old new : LoadStore D) (v j : ℕ) (r' : LoadReplica D) → IsShaped old → IsShaped new → new.settings ≡ old.settings → ReplicaAt new v j r' → WasReplica old v j
replica_was {D} old new v j r' shape shape' same there =
    let volumes : new.settings.volumes ≡ old.settings.volumes = ap (λ (x : Settings). x.volumes) same in
    let replicas : new.settings.replicas ≡ old.settings.replicas = ap (λ (x : Settings). x.replicas) same in
    let volume : v < old.settings.volumes = (let below = at_below new.volumes.items v there.0 there.1 in let many = shape'.volumes in omega (arith, below, many, volumes)) in
    let replica : j < old.settings.replicas = (let below = at_below there.0.replicas.items j r' there.2 in let many = shape'.replicas v there.0 there.1 in omega (arith, below, many, replicas)) in
    let r = replica_there old v j shape volume replica in
    record { before = r.0; is_there = r.1 }

module _ {D : Type 0} (files : D → Files) (photos : List NewPhoto) (s : StoredStore) (old new : LoadStore D) (shape : IsShaped old) (shape' : IsShaped new)
    (same : new.settings ≡ old.settings) (kept : KeepsFiles files old new) (was : StandsAs files old s) where
  pub stands_stored : (v : ℕ) → Stands files new (with_batch v photos (contents_of old.settings s)) → StandsAs files new (with_stored v photos s)
  stands_stored v stands = record {
    contents = subst (λ (x : Settings). Stands files new (contents_of x (with_stored v photos s))) (sym same) (record {
      directory = stands.directory;
      replicas = λ u j r' there. holds_by files (replica_super old.settings u j) photos (s.replicas u j) r' (nat_eq u v) (stands.replicas u j r' there);
      ends = λ u j r' there. end_by photos (s.replicas u j) r'.volume.end (nat_eq u v) (stands.ends u j r' there);
    });
    replicas = λ u j r' there.
        let w = replica_was old new u j r' shape shape' same there in
        subst (λ (x : Settings). IsOpenAs files (replica_super x u j) ((with_stored v photos s).replicas u j) r') (sym same)
        (open_by files (replica_super old.settings u j) photos (s.replicas u j) w.before r' (was.replicas u j w.before w.is_there) (kept.numbers u j w.before r' w.is_there there)
        (kept.rooms u j w.before r' w.is_there there)
        (kept.replicas u j w.before r' w.is_there there) (nat_eq u v) (stands.ends u j r' there) (stands.replicas u j r' there));
  }

  -- a replica that there was, and what became of it
  record Both (u j : ℕ) : Type 0 where
    before : LoadReplica D
    was_there : ReplicaAt old u j before
    after : LoadReplica D
    is_there : ReplicaAt new u j after

  both_at : (u j : ℕ) → u < old.settings.volumes → j < old.settings.replicas → Both u j
  both_at u j volume replica =
      let r = replica_there old u j shape volume replica in
      let r' = replica_there new u j shape' (subst (λ (x : Settings). u < x.volumes) (sym same) volume) (subst (λ (x : Settings). j < x.replicas) (sym same) replica) in
      record { before = r.0; was_there = r.1; after = r'.0; is_there = r'.1 }

  module _ (image : ℕ → ℕ → List ℕ) (leaves : MayLeaveDisks files new image) where
    leaves_at : (u j : ℕ) (r' : LoadReplica D) → ReplicaAt new u j r' → MayLeave (files r'.disk) (image (slot_of old.settings u j))
    leaves_at u j r' there = subst (λ (x : Settings). MayLeave (files r'.disk) (image (slot_of x u j))) same (leaves.replicas u j r' there)

    left_images : Images
    left_images = record { journal = image 0 0; volumes = λ u j. image (slot_of old.settings u j) (volume_file (s.replicas u j).generation) }

    may_leave : MayLeaveStore files new left_images
    unfolding leaves_at left_images
    may_leave = record {
      journal = leaves.directory 0;
      volumes = λ u j r' there.
          let w = replica_was old new u j r' shape shape' same there in
          left_volume files (replica_super old.settings u j) photos (s.replicas u j) w.before r' (was.replicas u j w.before w.is_there)
          (kept.numbers u j w.before r' w.is_there there) (kept.rooms u j w.before r' w.is_there there) (kept.replicas u j w.before r' w.is_there there)
          (image (slot_of old.settings u j)) (leaves_at u j r' there);
    }

    opens_same : (u j : ℕ) → u < old.settings.volumes → j < old.settings.replicas → IsVolume
        (super_bytes (volume_super (replica_super old.settings u j) (s.replicas u j).generation)) (left_images.volumes u j) (s.replicas u j).cells (s.replicas u j).end
        → OpensAs (replica_super old.settings u j) (image (slot_of old.settings u j)) (s.replicas u j)
    unfolding both_at leaves_at left_images
    opens_same u j volume replica is =
        let b = both_at u j volume replica in
        left_same files (replica_super old.settings u j) photos (s.replicas u j) b.before b.after (was.replicas u j b.before b.was_there)
        (kept.numbers u j b.before b.after b.was_there b.is_there) (kept.rooms u j b.before b.after b.was_there b.is_there)
        (kept.replicas u j b.before b.after b.was_there b.is_there) (image (slot_of old.settings u j)) (leaves_at u j b.after b.is_there) is

    opens_more : (u j : ℕ) → u < old.settings.volumes → j < old.settings.replicas
        → IsVolume (super_bytes (volume_super (replica_super old.settings u j) (s.replicas u j).generation)) (left_images.volumes u j)
        ((s.replicas u j).cells ++ new_cells (s.replicas u j).end photos) ((s.replicas u j).end + batch_total photos)
        → OpensAs (replica_super old.settings u j) (image (slot_of old.settings u j)) (with_needles photos (s.replicas u j))
    unfolding both_at leaves_at left_images
    opens_more u j volume replica is =
        let b = both_at u j volume replica in
        left_more files (replica_super old.settings u j) photos (s.replicas u j) b.before b.after (was.replicas u j b.before b.was_there)
        (kept.numbers u j b.before b.after b.was_there b.is_there) (kept.rooms u j b.before b.after b.was_there b.is_there)
        (kept.replicas u j b.before b.after b.was_there b.is_there) (image (slot_of old.settings u j)) (leaves_at u j b.after b.is_there) is

    opens_by : (b : Bool) (u j : ℕ) → u < old.settings.volumes → j < old.settings.replicas
        → IsVolume (super_bytes (volume_super (replica_super old.settings u j) (s.replicas u j).generation)) (left_images.volumes u j)
        (if b then (s.replicas u j).cells ++ new_cells (s.replicas u j).end photos else (s.replicas u j).cells)
        (if b then (s.replicas u j).end + batch_total photos else (s.replicas u j).end)
        → OpensAs (replica_super old.settings u j) (image (slot_of old.settings u j)) (if b then with_needles photos (s.replicas u j) else s.replicas u j)
    opens_by true u j volume replica is = opens_more u j volume replica is
    opens_by false u j volume replica is = opens_same u j volume replica is

    -- what a stop leaves, as an opening finds it
    pub leaves_stored : (v : ℕ) → ((k : Contents) (left : Images) → Stands files old k → MayLeaveStore files new left → LeavesWithOrWithout old.settings v photos k left)
        → LeavesBatch old.settings v photos image s
    unfolding left_images
    leaves_stored v left = elim (left (contents_of old.settings s) left_images was.contents may_leave) [
      | inl w ↦ inl (record {
        rows = inr w.rows;
        replicas = λ u j volume replica. elim (w.cells u j volume replica) [
          | inl is ↦ inl (opens_same u j volume replica is)
          | inr is ↦ inr (opens_more u j volume replica is)
        ];
        others = λ u j apart volume replica. opens_same u j volume replica (w.others u j apart volume replica);
      })
      | inr w ↦ inr (record {
        rows = inr w.rows;
        replicas = λ u j volume replica. opens_by (nat_eq u v) u j volume replica (w.cells u j volume replica);
      })
    ]

-- what a stop leaves of a store at which nothing is under way
pub stands_left : {D : Type 0} (files : D → Files) (s : StoredStore) (store : LoadStore D) (image : ℕ → ℕ → List ℕ) → IsShaped store → StandsAs files store s
    → MayLeaveDisks files store image → OpensStore store.settings image s
stands_left {D} files s store image shape was leaves = record {
  rows = inr (rows_kept files (super_bytes (journal_super store.settings)) store.settings.volumes s.rows store.directory (image 0 0) was.contents.directory (leaves.directory 0));
  replicas = λ v j volume replica.
      let r = replica_there store v j shape volume replica in
      let opened = was.replicas v j r.0 r.1 in
      let may = leaves.replicas v j r.0 r.1 in
      let st = s.replicas v j in
      let whole : image (slot_of store.settings v j) (volume_file st.generation) ≡ (files r.0.disk (volume_file st.generation)).now =
      solid_whole (files r.0.disk (volume_file st.generation)) (image (slot_of store.settings v j) (volume_file st.generation)) opened.rests.volume (may (volume_file st.generation)) in
      opens_stored (replica_super store.settings v j) (image (slot_of store.settings v j)) st
      (stored_same (replica_super store.settings v j) st (λ n. (files r.0.disk n).now) (image (slot_of store.settings v j)) [] opened.rests.is
      (solid_whole (files r.0.disk 0) (image (slot_of store.settings v j) 0) opened.rests.head (may 0))
      (solid_whole (files r.0.disk (index_file st.generation)) (image (slot_of store.settings v j) (index_file st.generation)) opened.rests.index (may (index_file st.generation)))
      (subst (λ (l : List ℕ). IsVolume (super_bytes (volume_super (replica_super store.settings v j) st.generation)) l st.cells st.end) (sym whole) opened.rests.is.volume));
}
