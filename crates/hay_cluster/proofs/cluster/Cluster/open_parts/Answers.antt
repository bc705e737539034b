use Rattle.std.proofs.Common.{◌≡◌, ◌++◌, List, length, take, drop, refl, sym, subst, ◌∙◌, arith, inr, ap}
use Rattle.std.proofs.lemmas.List.{take_at}
use Rattle.std.proofs.lemmas.Result.{err_from_is_err_and}
use Rattle.std.specs.List.{AllByRecursion, AllZip}
use Rattle.hay_reply.specs.declared.Note.{Note}
use Rattle.hay_logical.specs.Stands.{IsIdleVolume}
use Rattle.hay_logical.specs.Volumes.{Volume, IsClosed}
use Rattle.hay_mount.specs.Mounts.{InOrder}
use Rattle.hay_cluster.specs.Draws.{DrawsVolume}
use Rattle.hay_cluster.specs.Opening.{LeavesVolume, Gathers, OpensDirectory, OpensVolume, RefusesParts, RefusesVolumes}
use Rattle.hay_cluster.specs.Store.{IsShaped, Open, IsVolumeOf}
use Rattle.hay_cluster.proofs.OpeningLists.{AllZip-still, each_told, passed_on}
use Rattle.hay_cluster.proofs.OpeningStore.{MovedParts, shape_moved}
use Rattle.hay_cluster.proofs.OpeningVolumes.{moves_still}
use Rattle.hay_cluster.proofs.cluster.Cluster.open_parts.Goals as goal

pub returns-in_err-row_notes-clause-volumes : goal.returns-in_err-row_notes-clause-volumes
returns-in_err-row_notes-clause-volumes g c =
    let items = c.self.inside.volumes.items in
    subst (λ (st : Open g.row.D.Denot g.row.D-Piece.Denot g.row.A.Denot). AllZip (LeavesVolume g.D.Disk.Tells g.D.Disk.files g.D.Piece.Piece.Tells g.D.Disk.fault_count
    g.D.Disk.fuse_count) st.volumes items) c.self.view_is
    (AllZip-still (LeavesVolume g.D.Disk.Tells g.D.Disk.files g.D.Piece.Piece.Tells g.D.Disk.fault_count g.D.Disk.fuse_count)
    (λ (v : Volume g.row.D.Denot g.row.D-Piece.Denot). g.D.Disk.Tells → IsIdleVolume g.D.Disk.files v) items
    (λ v idle. moves_still g.D.Disk.Tells g.D.Disk.files g.D.Piece.Piece.Tells g.D.Disk.fault_count g.D.Disk.fuse_count v idle)
    (each_told g.D.Disk.Tells (IsIdleVolume g.D.Disk.files) items (λ tells. subst (λ (st : Open g.row.D.Denot g.row.D-Piece.Denot g.row.A.Denot).
    AllByRecursion (IsIdleVolume g.D.Disk.files) st.volumes) (sym c.self.view_is) (c.requires.idle tells))))

pub invariant_of-self-in_err-notes : goal.invariant_of-self-in_err-notes
invariant_of-self-in_err-notes g c =
    let items = c.self.inside.volumes.items in
    let vs = c.open_volumes.new.volumes in
    let long : length vs ≡ length items = (let same = c.open_volumes.auto.volumes in omega (arith, same, c.as_mut_slice.ensures.len, c.self.inside.volumes.ok.0)) in
    let whole : take c.self.inside.volumes.len (vs ++ drop (length vs) items) ≡ vs =
    take_at vs (drop (length vs) items) c.self.inside.volumes.len (let here : length vs ≡ c.self.inside.volumes.len = omega (arith, long, c.self.inside.volumes.ok.0) in here) in
    let old : Open g.row.D.Denot g.row.D-Piece.Denot g.row.A.Denot = record {
      settings = c.self.inside.settings;
      directory = c.self.inside.directory;
      volumes = items;
      arms = c.self.inside.seats.items;
    } in
    let new : Open g.row.D.Denot g.row.D-Piece.Denot g.row.A.Denot = record {
      settings = c.self.inside.settings;
      directory = c.open_directory.new.directory;
      volumes = vs;
      arms = c.self.inside.seats.items;
    } in
    let zipped : AllZip (LeavesVolume g.D.Disk.Tells g.D.Disk.files g.D.Piece.Piece.Tells g.D.Disk.fault_count g.D.Disk.fuse_count) items vs =
    subst (λ (l : List (Volume g.row.D.Denot g.row.D-Piece.Denot)). AllZip (LeavesVolume g.D.Disk.Tells g.D.Disk.files g.D.Piece.Piece.Tells g.D.Disk.fault_count
    g.D.Disk.fuse_count) l vs) c.as_mut_slice.ensures.value c.open_volumes.ensures.moves in
    let parts : MovedParts g.D.Disk.Tells g.D.Disk.files g.D.Piece.Piece.Tells g.D.Disk.fault_count g.D.Disk.fuse_count g.A.Arm.fault_count
    old new = record { settings = refl; arms = refl; directory = c.open_directory.ensures.moves; volumes = zipped } in
    subst (λ (l : List (Volume g.row.D.Denot g.row.D-Piece.Denot)). let store : Open g.row.D.Denot
    g.row.D-Piece.Denot g.row.A.Denot = record { settings = c.self.inside.settings; directory = c.open_directory.new.directory; volumes = l; arms = c.self.inside.seats.items }
    in IsShaped store) (sym whole)
    (shape_moved g.D.Disk.Tells g.D.Disk.files g.D.Piece.Piece.Tells g.D.Disk.fault_count g.D.Disk.fuse_count g.A.Arm.fault_count old new c.self.invariant parts)

pub returns-in_err-notes-clause-shape : goal.returns-in_err-notes-clause-shape
returns-in_err-notes-clause-shape g c =
    let items = c.self.inside.volumes.items in
    let vs = c.open_volumes.new.volumes in
    let long : length vs ≡ length items = (let same = c.open_volumes.auto.volumes in omega (arith, same, c.as_mut_slice.ensures.len, c.self.inside.volumes.ok.0)) in
    let whole : take c.self.inside.volumes.len (vs ++ drop (length vs) items) ≡ vs =
    take_at vs (drop (length vs) items) c.self.inside.volumes.len (let here : length vs ≡ c.self.inside.volumes.len = omega (arith, long, c.self.inside.volumes.ok.0) in here) in
    let old : Open g.row.D.Denot g.row.D-Piece.Denot g.row.A.Denot = record {
      settings = c.self.inside.settings;
      directory = c.self.inside.directory;
      volumes = items;
      arms = c.self.inside.seats.items;
    } in
    let new : Open g.row.D.Denot g.row.D-Piece.Denot g.row.A.Denot = record {
      settings = c.self.inside.settings;
      directory = c.open_directory.new.directory;
      volumes = vs;
      arms = c.self.inside.seats.items;
    } in
    let zipped : AllZip (LeavesVolume g.D.Disk.Tells g.D.Disk.files g.D.Piece.Piece.Tells g.D.Disk.fault_count g.D.Disk.fuse_count) items vs =
    subst (λ (l : List (Volume g.row.D.Denot g.row.D-Piece.Denot)). AllZip (LeavesVolume g.D.Disk.Tells g.D.Disk.files g.D.Piece.Piece.Tells g.D.Disk.fault_count
    g.D.Disk.fuse_count) l vs) c.as_mut_slice.ensures.value c.open_volumes.ensures.moves in
    let parts : MovedParts g.D.Disk.Tells g.D.Disk.files g.D.Piece.Piece.Tells g.D.Disk.fault_count g.D.Disk.fuse_count g.A.Arm.fault_count
    old new = record { settings = refl; arms = refl; directory = c.open_directory.ensures.moves; volumes = zipped } in
    subst (λ (l : List (Volume g.row.D.Denot g.row.D-Piece.Denot)). let store : Open g.row.D.Denot
    g.row.D-Piece.Denot g.row.A.Denot = record { settings = c.self.inside.settings; directory = c.open_directory.new.directory; volumes = l; arms = c.self.inside.seats.items }
    in IsShaped store) (sym whole)
    (shape_moved g.D.Disk.Tells g.D.Disk.files g.D.Piece.Piece.Tells g.D.Disk.fault_count g.D.Disk.fuse_count g.A.Arm.fault_count old new c.self.invariant parts)

pub invariant_of-self-in_err-append : goal.invariant_of-self-in_err-append
invariant_of-self-in_err-append g c =
    let items = c.self.inside.volumes.items in
    let vs = c.open_volumes.new.volumes in
    let long : length vs ≡ length items = (let same = c.open_volumes.auto.volumes in omega (arith, same, c.as_mut_slice.ensures.len, c.self.inside.volumes.ok.0)) in
    let whole : take c.self.inside.volumes.len (vs ++ drop (length vs) items) ≡ vs =
    take_at vs (drop (length vs) items) c.self.inside.volumes.len (let here : length vs ≡ c.self.inside.volumes.len = omega (arith, long, c.self.inside.volumes.ok.0) in here) in
    let old : Open g.row.D.Denot g.row.D-Piece.Denot g.row.A.Denot = record {
      settings = c.self.inside.settings;
      directory = c.self.inside.directory;
      volumes = items;
      arms = c.self.inside.seats.items;
    } in
    let new : Open g.row.D.Denot g.row.D-Piece.Denot g.row.A.Denot = record {
      settings = c.self.inside.settings;
      directory = c.open_directory.new.directory;
      volumes = vs;
      arms = c.self.inside.seats.items;
    } in
    let zipped : AllZip (LeavesVolume g.D.Disk.Tells g.D.Disk.files g.D.Piece.Piece.Tells g.D.Disk.fault_count g.D.Disk.fuse_count) items vs =
    subst (λ (l : List (Volume g.row.D.Denot g.row.D-Piece.Denot)). AllZip (LeavesVolume g.D.Disk.Tells g.D.Disk.files g.D.Piece.Piece.Tells g.D.Disk.fault_count
    g.D.Disk.fuse_count) l vs) c.as_mut_slice.ensures.value c.open_volumes.ensures.moves in
    let parts : MovedParts g.D.Disk.Tells g.D.Disk.files g.D.Piece.Piece.Tells g.D.Disk.fault_count g.D.Disk.fuse_count g.A.Arm.fault_count
    old new = record { settings = refl; arms = refl; directory = c.open_directory.ensures.moves; volumes = zipped } in
    subst (λ (l : List (Volume g.row.D.Denot g.row.D-Piece.Denot)). let store : Open g.row.D.Denot
    g.row.D-Piece.Denot g.row.A.Denot = record { settings = c.self.inside.settings; directory = c.open_directory.new.directory; volumes = l; arms = c.self.inside.seats.items }
    in IsShaped store) (sym whole)
    (shape_moved g.D.Disk.Tells g.D.Disk.files g.D.Piece.Piece.Tells g.D.Disk.fault_count g.D.Disk.fuse_count g.A.Arm.fault_count old new c.self.invariant parts)

pub returns-in_err-append-clause-shape : goal.returns-in_err-append-clause-shape
returns-in_err-append-clause-shape g c =
    let items = c.self.inside.volumes.items in
    let vs = c.open_volumes.new.volumes in
    let long : length vs ≡ length items = (let same = c.open_volumes.auto.volumes in omega (arith, same, c.as_mut_slice.ensures.len, c.self.inside.volumes.ok.0)) in
    let whole : take c.self.inside.volumes.len (vs ++ drop (length vs) items) ≡ vs =
    take_at vs (drop (length vs) items) c.self.inside.volumes.len (let here : length vs ≡ c.self.inside.volumes.len = omega (arith, long, c.self.inside.volumes.ok.0) in here) in
    let old : Open g.row.D.Denot g.row.D-Piece.Denot g.row.A.Denot = record {
      settings = c.self.inside.settings;
      directory = c.self.inside.directory;
      volumes = items;
      arms = c.self.inside.seats.items;
    } in
    let new : Open g.row.D.Denot g.row.D-Piece.Denot g.row.A.Denot = record {
      settings = c.self.inside.settings;
      directory = c.open_directory.new.directory;
      volumes = vs;
      arms = c.self.inside.seats.items;
    } in
    let zipped : AllZip (LeavesVolume g.D.Disk.Tells g.D.Disk.files g.D.Piece.Piece.Tells g.D.Disk.fault_count g.D.Disk.fuse_count) items vs =
    subst (λ (l : List (Volume g.row.D.Denot g.row.D-Piece.Denot)). AllZip (LeavesVolume g.D.Disk.Tells g.D.Disk.files g.D.Piece.Piece.Tells g.D.Disk.fault_count
    g.D.Disk.fuse_count) l vs) c.as_mut_slice.ensures.value c.open_volumes.ensures.moves in
    let parts : MovedParts g.D.Disk.Tells g.D.Disk.files g.D.Piece.Piece.Tells g.D.Disk.fault_count g.D.Disk.fuse_count g.A.Arm.fault_count
    old new = record { settings = refl; arms = refl; directory = c.open_directory.ensures.moves; volumes = zipped } in
    subst (λ (l : List (Volume g.row.D.Denot g.row.D-Piece.Denot)). let store : Open g.row.D.Denot
    g.row.D-Piece.Denot g.row.A.Denot = record { settings = c.self.inside.settings; directory = c.open_directory.new.directory; volumes = l; arms = c.self.inside.seats.items }
    in IsShaped store) (sym whole)
    (shape_moved g.D.Disk.Tells g.D.Disk.files g.D.Piece.Piece.Tells g.D.Disk.fault_count g.D.Disk.fuse_count g.A.Arm.fault_count old new c.self.invariant parts)

pub invariant_of-self-2 : goal.invariant_of-self-2
invariant_of-self-2 g c =
    let items = c.self.inside.volumes.items in
    let vs = c.open_volumes.new.volumes in
    let long : length vs ≡ length items = (let same = c.open_volumes.auto.volumes in omega (arith, same, c.as_mut_slice.ensures.len, c.self.inside.volumes.ok.0)) in
    let whole : take c.self.inside.volumes.len (vs ++ drop (length vs) items) ≡ vs =
    take_at vs (drop (length vs) items) c.self.inside.volumes.len (let here : length vs ≡ c.self.inside.volumes.len = omega (arith, long, c.self.inside.volumes.ok.0) in here) in
    let old : Open g.row.D.Denot g.row.D-Piece.Denot g.row.A.Denot = record {
      settings = c.self.inside.settings;
      directory = c.self.inside.directory;
      volumes = items;
      arms = c.self.inside.seats.items;
    } in
    let new : Open g.row.D.Denot g.row.D-Piece.Denot g.row.A.Denot = record {
      settings = c.self.inside.settings;
      directory = c.open_directory.new.directory;
      volumes = vs;
      arms = c.self.inside.seats.items;
    } in
    let zipped : AllZip (LeavesVolume g.D.Disk.Tells g.D.Disk.files g.D.Piece.Piece.Tells g.D.Disk.fault_count g.D.Disk.fuse_count) items vs =
    subst (λ (l : List (Volume g.row.D.Denot g.row.D-Piece.Denot)). AllZip (LeavesVolume g.D.Disk.Tells g.D.Disk.files g.D.Piece.Piece.Tells g.D.Disk.fault_count
    g.D.Disk.fuse_count) l vs) c.as_mut_slice.ensures.value c.open_volumes.ensures.moves in
    let parts : MovedParts g.D.Disk.Tells g.D.Disk.files g.D.Piece.Piece.Tells g.D.Disk.fault_count g.D.Disk.fuse_count g.A.Arm.fault_count
    old new = record { settings = refl; arms = refl; directory = c.open_directory.ensures.moves; volumes = zipped } in
    subst (λ (l : List (Volume g.row.D.Denot g.row.D-Piece.Denot)). let store : Open g.row.D.Denot
    g.row.D-Piece.Denot g.row.A.Denot = record { settings = c.self.inside.settings; directory = c.open_directory.new.directory; volumes = l; arms = c.self.inside.seats.items }
    in IsShaped store) (sym whole)
    (shape_moved g.D.Disk.Tells g.D.Disk.files g.D.Piece.Piece.Tells g.D.Disk.fault_count g.D.Disk.fuse_count g.A.Arm.fault_count old new c.self.invariant parts)

pub returns-clause-shape : goal.returns-clause-shape
returns-clause-shape g c =
    let items = c.self.inside.volumes.items in
    let vs = c.open_volumes.new.volumes in
    let long : length vs ≡ length items = (let same = c.open_volumes.auto.volumes in omega (arith, same, c.as_mut_slice.ensures.len, c.self.inside.volumes.ok.0)) in
    let whole : take c.self.inside.volumes.len (vs ++ drop (length vs) items) ≡ vs =
    take_at vs (drop (length vs) items) c.self.inside.volumes.len (let here : length vs ≡ c.self.inside.volumes.len = omega (arith, long, c.self.inside.volumes.ok.0) in here) in
    let old : Open g.row.D.Denot g.row.D-Piece.Denot g.row.A.Denot = record {
      settings = c.self.inside.settings;
      directory = c.self.inside.directory;
      volumes = items;
      arms = c.self.inside.seats.items;
    } in
    let new : Open g.row.D.Denot g.row.D-Piece.Denot g.row.A.Denot = record {
      settings = c.self.inside.settings;
      directory = c.open_directory.new.directory;
      volumes = vs;
      arms = c.self.inside.seats.items;
    } in
    let zipped : AllZip (LeavesVolume g.D.Disk.Tells g.D.Disk.files g.D.Piece.Piece.Tells g.D.Disk.fault_count g.D.Disk.fuse_count) items vs =
    subst (λ (l : List (Volume g.row.D.Denot g.row.D-Piece.Denot)). AllZip (LeavesVolume g.D.Disk.Tells g.D.Disk.files g.D.Piece.Piece.Tells g.D.Disk.fault_count
    g.D.Disk.fuse_count) l vs) c.as_mut_slice.ensures.value c.open_volumes.ensures.moves in
    let parts : MovedParts g.D.Disk.Tells g.D.Disk.files g.D.Piece.Piece.Tells g.D.Disk.fault_count g.D.Disk.fuse_count g.A.Arm.fault_count
    old new = record { settings = refl; arms = refl; directory = c.open_directory.ensures.moves; volumes = zipped } in
    subst (λ (l : List (Volume g.row.D.Denot g.row.D-Piece.Denot)). let store : Open g.row.D.Denot
    g.row.D-Piece.Denot g.row.A.Denot = record { settings = c.self.inside.settings; directory = c.open_directory.new.directory; volumes = l; arms = c.self.inside.seats.items }
    in IsShaped store) (sym whole)
    (shape_moved g.D.Disk.Tells g.D.Disk.files g.D.Piece.Piece.Tells g.D.Disk.fault_count g.D.Disk.fuse_count g.A.Arm.fault_count old new c.self.invariant parts)

pub returns-in_err-notes-clause-volumes : goal.returns-in_err-notes-clause-volumes
returns-in_err-notes-clause-volumes g c =
    let items = c.self.inside.volumes.items in
    let vs = c.open_volumes.new.volumes in
    let long : length vs ≡ length items = (let same = c.open_volumes.auto.volumes in omega (arith, same, c.as_mut_slice.ensures.len, c.self.inside.volumes.ok.0)) in
    let whole : take c.self.inside.volumes.len (vs ++ drop (length vs) items) ≡ vs =
    take_at vs (drop (length vs) items) c.self.inside.volumes.len (let here : length vs ≡ c.self.inside.volumes.len = omega (arith, long, c.self.inside.volumes.ok.0) in here) in
    let zipped : AllZip (LeavesVolume g.D.Disk.Tells g.D.Disk.files g.D.Piece.Piece.Tells g.D.Disk.fault_count g.D.Disk.fuse_count) items vs =
    subst (λ (l : List (Volume g.row.D.Denot g.row.D-Piece.Denot)). AllZip (LeavesVolume g.D.Disk.Tells g.D.Disk.files g.D.Piece.Piece.Tells g.D.Disk.fault_count
    g.D.Disk.fuse_count) l vs) c.as_mut_slice.ensures.value c.open_volumes.ensures.moves in
    subst (λ (st : Open g.row.D.Denot g.row.D-Piece.Denot g.row.A.Denot). AllZip (LeavesVolume g.D.Disk.Tells g.D.Disk.files g.D.Piece.Piece.Tells g.D.Disk.fault_count
    g.D.Disk.fuse_count) st.volumes (take c.self.inside.volumes.len (vs ++ drop (length vs) items))) c.self.view_is
    (subst (λ (l : List (Volume g.row.D.Denot g.row.D-Piece.Denot)). AllZip (LeavesVolume g.D.Disk.Tells g.D.Disk.files g.D.Piece.Piece.Tells g.D.Disk.fault_count
    g.D.Disk.fuse_count) items l) (sym whole) zipped)

pub returns-in_err-append-clause-volumes : goal.returns-in_err-append-clause-volumes
returns-in_err-append-clause-volumes g c =
    let items = c.self.inside.volumes.items in
    let vs = c.open_volumes.new.volumes in
    let long : length vs ≡ length items = (let same = c.open_volumes.auto.volumes in omega (arith, same, c.as_mut_slice.ensures.len, c.self.inside.volumes.ok.0)) in
    let whole : take c.self.inside.volumes.len (vs ++ drop (length vs) items) ≡ vs =
    take_at vs (drop (length vs) items) c.self.inside.volumes.len (let here : length vs ≡ c.self.inside.volumes.len = omega (arith, long, c.self.inside.volumes.ok.0) in here) in
    let zipped : AllZip (LeavesVolume g.D.Disk.Tells g.D.Disk.files g.D.Piece.Piece.Tells g.D.Disk.fault_count g.D.Disk.fuse_count) items vs =
    subst (λ (l : List (Volume g.row.D.Denot g.row.D-Piece.Denot)). AllZip (LeavesVolume g.D.Disk.Tells g.D.Disk.files g.D.Piece.Piece.Tells g.D.Disk.fault_count
    g.D.Disk.fuse_count) l vs) c.as_mut_slice.ensures.value c.open_volumes.ensures.moves in
    subst (λ (st : Open g.row.D.Denot g.row.D-Piece.Denot g.row.A.Denot). AllZip (LeavesVolume g.D.Disk.Tells g.D.Disk.files g.D.Piece.Piece.Tells g.D.Disk.fault_count
    g.D.Disk.fuse_count) st.volumes (take c.self.inside.volumes.len (vs ++ drop (length vs) items))) c.self.view_is
    (subst (λ (l : List (Volume g.row.D.Denot g.row.D-Piece.Denot)). AllZip (LeavesVolume g.D.Disk.Tells g.D.Disk.files g.D.Piece.Piece.Tells g.D.Disk.fault_count
    g.D.Disk.fuse_count) items l) (sym whole) zipped)

pub returns-clause-volumes : goal.returns-clause-volumes
returns-clause-volumes g c =
    let items = c.self.inside.volumes.items in
    let vs = c.open_volumes.new.volumes in
    let long : length vs ≡ length items = (let same = c.open_volumes.auto.volumes in omega (arith, same, c.as_mut_slice.ensures.len, c.self.inside.volumes.ok.0)) in
    let whole : take c.self.inside.volumes.len (vs ++ drop (length vs) items) ≡ vs =
    take_at vs (drop (length vs) items) c.self.inside.volumes.len (let here : length vs ≡ c.self.inside.volumes.len = omega (arith, long, c.self.inside.volumes.ok.0) in here) in
    let zipped : AllZip (LeavesVolume g.D.Disk.Tells g.D.Disk.files g.D.Piece.Piece.Tells g.D.Disk.fault_count g.D.Disk.fuse_count) items vs =
    subst (λ (l : List (Volume g.row.D.Denot g.row.D-Piece.Denot)). AllZip (LeavesVolume g.D.Disk.Tells g.D.Disk.files g.D.Piece.Piece.Tells g.D.Disk.fault_count
    g.D.Disk.fuse_count) l vs) c.as_mut_slice.ensures.value c.open_volumes.ensures.moves in
    subst (λ (st : Open g.row.D.Denot g.row.D-Piece.Denot g.row.A.Denot). AllZip (LeavesVolume g.D.Disk.Tells g.D.Disk.files g.D.Piece.Piece.Tells g.D.Disk.fault_count
    g.D.Disk.fuse_count) st.volumes (take c.self.inside.volumes.len (vs ++ drop (length vs) items))) c.self.view_is
    (subst (λ (l : List (Volume g.row.D.Denot g.row.D-Piece.Denot)). AllZip (LeavesVolume g.D.Disk.Tells g.D.Disk.files g.D.Piece.Piece.Tells g.D.Disk.fault_count
    g.D.Disk.fuse_count) items l) (sym whole) zipped)

pub returns-in_err-notes-clause-refused : goal.returns-in_err-notes-clause-refused
returns-in_err-notes-clause-refused g c =
    let items = c.self.inside.volumes.items in
    let vs = c.open_volumes.new.volumes in
    let long : length vs ≡ length items = (let same = c.open_volumes.auto.volumes in omega (arith, same, c.as_mut_slice.ensures.len, c.self.inside.volumes.ok.0)) in
    let whole : take c.self.inside.volumes.len (vs ++ drop (length vs) items) ≡ vs =
    take_at vs (drop (length vs) items) c.self.inside.volumes.len (let here : length vs ≡ c.self.inside.volumes.len = omega (arith, long, c.self.inside.volumes.ok.0) in here) in
    let r = c.from_residual-in_err-notes in
    let p = err_from_is_err_and r.result r.ensures.1 in
    let fault = c.in_err-notes.field-0.0 in
    let refused : RefusesVolumes g.D.Disk.Tells g.D.Disk.files g.D.Disk.fault_count c.self.inside.settings items vs fault =
    subst (λ (l : List (Volume g.row.D.Denot g.row.D-Piece.Denot)). RefusesVolumes g.D.Disk.Tells g.D.Disk.files g.D.Disk.fault_count c.self.inside.settings l vs fault)
    c.as_mut_slice.ensures.value c.in_err-notes.ensures.refused in
    passed_on r.result (RefusesParts g.D.Disk.Tells g.D.Disk.files g.D.Disk.fault_count c.args.self.now.settings c.args.self.now.directory c.open_directory.new.directory
    c.args.self.now.volumes (take c.self.inside.volumes.len (vs ++ drop (length vs) items)))
    fault p.0 p.1 p.2
    (inr (
      c.in_ok-row_notes.row_notes,
      subst (λ (st : Open g.row.D.Denot g.row.D-Piece.Denot g.row.A.Denot). OpensDirectory g.D.Disk.Tells g.D.Disk.files st.directory c.open_directory.new.directory
          c.in_ok-row_notes.row_notes) c.self.view_is c.in_ok-row_notes.ensures.opened,
      subst (λ (st : Open g.row.D.Denot g.row.D-Piece.Denot g.row.A.Denot). RefusesVolumes g.D.Disk.Tells g.D.Disk.files g.D.Disk.fault_count st.settings st.volumes
          (take c.self.inside.volumes.len (vs ++ drop (length vs) items)) fault) c.self.view_is
          (subst (λ (l : List (Volume g.row.D.Denot g.row.D-Piece.Denot)). RefusesVolumes g.D.Disk.Tells g.D.Disk.files g.D.Disk.fault_count c.self.inside.settings items l fault) (sym whole) refused),
    ))

pub returns-clause-opened : goal.returns-clause-opened
returns-clause-opened g c =
    let items = c.self.inside.volumes.items in
    let vs = c.open_volumes.new.volumes in
    let long : length vs ≡ length items = (let same = c.open_volumes.auto.volumes in omega (arith, same, c.as_mut_slice.ensures.len, c.self.inside.volumes.ok.0)) in
    let whole : take c.self.inside.volumes.len (vs ++ drop (length vs) items) ≡ vs =
    take_at vs (drop (length vs) items) c.self.inside.volumes.len (let here : length vs ≡ c.self.inside.volumes.len = omega (arith, long, c.self.inside.volumes.ok.0) in here) in
    let notes = c.in_ok-notes.notes.items in
    let gathers : Gathers (OpensVolume g.D.Disk.Tells g.D.Disk.files g.D.Piece.Piece.Tells g.D.Disk.fault_count g.D.Disk.fuse_count) items vs notes =
    subst (λ (l : List (Volume g.row.D.Denot g.row.D-Piece.Denot)). Gathers (OpensVolume g.D.Disk.Tells g.D.Disk.files g.D.Piece.Piece.Tells g.D.Disk.fault_count
    g.D.Disk.fuse_count) l vs notes) c.as_mut_slice.ensures.value c.in_ok-notes.ensures.opened in
    record {
      of_volumes = notes;
      of_directory = c.in_ok-row_notes.row_notes;
      told = c.from_vec.ensures ∙ c.in_ok-append.ensures.items ∙ ap (λ (l : List Note). notes ++ l) c.into_vec.ensures;
      volumes =
          subst (λ (st : Open g.row.D.Denot g.row.D-Piece.Denot g.row.A.Denot). Gathers (OpensVolume g.D.Disk.Tells g.D.Disk.files g.D.Piece.Piece.Tells g.D.Disk.fault_count
          g.D.Disk.fuse_count) st.volumes (take c.self.inside.volumes.len (vs ++ drop (length vs) items)) notes) c.self.view_is
          (subst (λ (l : List (Volume g.row.D.Denot g.row.D-Piece.Denot)). Gathers (OpensVolume g.D.Disk.Tells g.D.Disk.files g.D.Piece.Piece.Tells g.D.Disk.fault_count
          g.D.Disk.fuse_count) items l notes) (sym whole) gathers);
      directory =
          subst (λ (st : Open g.row.D.Denot g.row.D-Piece.Denot g.row.A.Denot). OpensDirectory g.D.Disk.Tells g.D.Disk.files st.directory c.open_directory.new.directory
          c.in_ok-row_notes.row_notes) c.self.view_is c.in_ok-row_notes.ensures.opened;
    }

pub open_volumes-requires : goal.open_volumes-requires
open_volumes-requires g c =
    let value = c.as_mut_slice.ensures.value in
    let closed : AllByRecursion IsClosed c.self.inside.volumes.items =
    subst (λ (st : Open g.row.D.Denot g.row.D-Piece.Denot g.row.A.Denot). AllByRecursion IsClosed st.volumes) (sym c.self.view_is) c.requires.closed in
    record {
      built = c.self.invariant.built;
      many = ap (λ (l : List (Volume g.row.D.Denot g.row.D-Piece.Denot)). length l) value ∙ c.self.invariant.many;
      numbers = subst (λ (l : List (Volume g.row.D.Denot g.row.D-Piece.Denot)). InOrder (IsVolumeOf c.self.inside.settings) 0 l) (sym value) c.self.invariant.volumes;
      closed = subst (λ (l : List (Volume g.row.D.Denot g.row.D-Piece.Denot)). AllByRecursion IsClosed l) (sym value) closed;
      idle =
          λ tells. subst (λ (l : List (Volume g.row.D.Denot g.row.D-Piece.Denot)). AllByRecursion (IsIdleVolume g.D.Disk.files) l) (sym value)
          (subst (λ (st : Open g.row.D.Denot g.row.D-Piece.Denot g.row.A.Denot). AllByRecursion (IsIdleVolume g.D.Disk.files) st.volumes) (sym c.self.view_is) (c.requires.idle tells));
    }

pub returns-clause-drew : goal.returns-clause-drew
returns-clause-drew g c = λ tells.
    let R = λ (old new : Volume g.row.D.Denot g.row.D-Piece.Denot). DrawsVolume g.D.Disk.files g.D.Disk.drawn old new in
    let items = c.self.inside.volumes.items in
    let vs = c.open_volumes.new.volumes in
    let long : length vs ≡ length items = (let same = c.open_volumes.auto.volumes in omega (arith, same, c.as_mut_slice.ensures.len, c.self.inside.volumes.ok.0)) in
    let whole : take c.self.inside.volumes.len (vs ++ drop (length vs) items) ≡ vs =
    take_at vs (drop (length vs) items) c.self.inside.volumes.len (let here : length vs ≡ c.self.inside.volumes.len = omega (arith, long, c.self.inside.volumes.ok.0) in here) in
    let zipped : AllZip R items vs = subst (λ (l : List (Volume g.row.D.Denot g.row.D-Piece.Denot)). AllZip R l vs) c.as_mut_slice.ensures.value (c.in_ok-notes.ensures.drew tells) in
    subst (λ (st : Open g.row.D.Denot g.row.D-Piece.Denot g.row.A.Denot). AllZip R st.volumes (take c.self.inside.volumes.len (vs ++ drop (length vs) items))) c.self.view_is
    (subst (λ (l : List (Volume g.row.D.Denot g.row.D-Piece.Denot)). AllZip R items l) (sym whole) zipped)
