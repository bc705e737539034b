use Rattle.std.proofs.Common.{◌≡◌, ◌++◌, List, length, take, drop, refl, sym, subst, arith, ap}
use Rattle.std.proofs.lemmas.List.{take_at}
use Rattle.std.specs.List.{AllZip}
use Rattle.hay_directory.specs.State.{unsure_of}
use Rattle.hay_logical.specs.Volumes.{Volume}
use Rattle.hay_cluster.specs.Draws.{StopsDrawing}
use Rattle.hay_cluster.specs.Opening.{StopsDirectory, StopsVolume}
use Rattle.hay_cluster.specs.Store.{IsShaped, Open}
use Rattle.hay_cluster.proofs.OpeningStore.{StoppedParts, shape_stopped}
use Rattle.hay_cluster.proofs.cluster.Cluster.stop.Goals as goal

pub invariant_of-self : goal.invariant_of-self
invariant_of-self g c =
    let items = c.self.inside.volumes.items in
    let vs = c.stop_volumes.new.volumes in
    let long : length vs ≡ length items = (let same = c.stop_volumes.auto.volumes in omega (arith, same, c.as_mut_slice.ensures.len, c.self.inside.volumes.ok.0)) in
    let whole : take c.self.inside.volumes.len (vs ++ drop (length vs) items) ≡ vs =
    take_at vs (drop (length vs) items) c.self.inside.volumes.len (let here : length vs ≡ c.self.inside.volumes.len = omega (arith, long, c.self.inside.volumes.ok.0) in here) in
    let old : Open g.row.D.Denot g.row.D-Piece.Denot g.row.A.Denot = record {
      settings = c.self.inside.settings;
      directory = c.self.inside.directory;
      volumes = items;
      arms = c.self.inside.seats.items;
    } in
    let new : Open g.row.D.Denot g.row.D-Piece.Denot g.row.A.Denot = record { settings = c.self.inside.settings; directory = c.stop.new.self; volumes = vs; arms = c.self.inside.seats.items } in
    let zipped : AllZip (StopsVolume g.D.Disk.Tells g.D.Disk.files g.D.Piece.Piece.Tells g.D.Disk.fault_count g.D.Disk.fuse_count) items vs =
    subst (λ (l : List (Volume g.row.D.Denot g.row.D-Piece.Denot)). AllZip (StopsVolume g.D.Disk.Tells g.D.Disk.files g.D.Piece.Piece.Tells g.D.Disk.fault_count
    g.D.Disk.fuse_count) l vs) c.as_mut_slice.ensures.value c.stop_volumes.ensures.stops in
    let parts : StoppedParts g.D.Disk.Tells g.D.Disk.files g.D.Piece.Piece.Tells g.D.Disk.fault_count g.D.Disk.fuse_count g.A.Arm.fault_count
    old new = record {
      settings = refl;
      arms = refl;
      directory = record {
        settings = c.stop.ensures.settings;
        same_faults = c.stop.ensures.faults;
        same_fuses = c.stop.ensures.fuses;
        rests = record {
          closed = c.stop.ensures.closed.0;
          solid = λ tells. c.stop.ensures.solid tells 0;
          free = λ tells. c.stop.ensures.free tells 0;
        };
        stopped = c.stop.ensures.stopped;
        long = c.stop.ensures.long;
        unsure = ap unsure_of c.stop.ensures.closed.1;
      };
      volumes = zipped;
    } in
    subst (λ (l : List (Volume g.row.D.Denot g.row.D-Piece.Denot)). let store : Open g.row.D.Denot
    g.row.D-Piece.Denot g.row.A.Denot = record { settings = c.self.inside.settings; directory = c.stop.new.self; volumes = l; arms = c.self.inside.seats.items } in IsShaped store) (sym whole)
    (shape_stopped g.D.Disk.Tells g.D.Disk.files g.D.Piece.Piece.Tells g.D.Disk.fault_count g.D.Disk.fuse_count g.A.Arm.fault_count old new c.self.invariant parts)

pub returns-clause-shape : goal.returns-clause-shape
returns-clause-shape g c =
    let items = c.self.inside.volumes.items in
    let vs = c.stop_volumes.new.volumes in
    let long : length vs ≡ length items = (let same = c.stop_volumes.auto.volumes in omega (arith, same, c.as_mut_slice.ensures.len, c.self.inside.volumes.ok.0)) in
    let whole : take c.self.inside.volumes.len (vs ++ drop (length vs) items) ≡ vs =
    take_at vs (drop (length vs) items) c.self.inside.volumes.len (let here : length vs ≡ c.self.inside.volumes.len = omega (arith, long, c.self.inside.volumes.ok.0) in here) in
    let old : Open g.row.D.Denot g.row.D-Piece.Denot g.row.A.Denot = record {
      settings = c.self.inside.settings;
      directory = c.self.inside.directory;
      volumes = items;
      arms = c.self.inside.seats.items;
    } in
    let new : Open g.row.D.Denot g.row.D-Piece.Denot g.row.A.Denot = record { settings = c.self.inside.settings; directory = c.stop.new.self; volumes = vs; arms = c.self.inside.seats.items } in
    let zipped : AllZip (StopsVolume g.D.Disk.Tells g.D.Disk.files g.D.Piece.Piece.Tells g.D.Disk.fault_count g.D.Disk.fuse_count) items vs =
    subst (λ (l : List (Volume g.row.D.Denot g.row.D-Piece.Denot)). AllZip (StopsVolume g.D.Disk.Tells g.D.Disk.files g.D.Piece.Piece.Tells g.D.Disk.fault_count
    g.D.Disk.fuse_count) l vs) c.as_mut_slice.ensures.value c.stop_volumes.ensures.stops in
    let parts : StoppedParts g.D.Disk.Tells g.D.Disk.files g.D.Piece.Piece.Tells g.D.Disk.fault_count g.D.Disk.fuse_count g.A.Arm.fault_count
    old new = record {
      settings = refl;
      arms = refl;
      directory = record {
        settings = c.stop.ensures.settings;
        same_faults = c.stop.ensures.faults;
        same_fuses = c.stop.ensures.fuses;
        rests = record {
          closed = c.stop.ensures.closed.0;
          solid = λ tells. c.stop.ensures.solid tells 0;
          free = λ tells. c.stop.ensures.free tells 0;
        };
        stopped = c.stop.ensures.stopped;
        long = c.stop.ensures.long;
        unsure = ap unsure_of c.stop.ensures.closed.1;
      };
      volumes = zipped;
    } in
    subst (λ (l : List (Volume g.row.D.Denot g.row.D-Piece.Denot)). let store : Open g.row.D.Denot
    g.row.D-Piece.Denot g.row.A.Denot = record { settings = c.self.inside.settings; directory = c.stop.new.self; volumes = l; arms = c.self.inside.seats.items } in IsShaped store) (sym whole)
    (shape_stopped g.D.Disk.Tells g.D.Disk.files g.D.Piece.Piece.Tells g.D.Disk.fault_count g.D.Disk.fuse_count g.A.Arm.fault_count old new c.self.invariant parts)

pub returns-clause-directory : goal.returns-clause-directory
returns-clause-directory g c =
    subst (λ (st : Open g.row.D.Denot g.row.D-Piece.Denot g.row.A.Denot). StopsDirectory g.D.Disk.Tells g.D.Disk.files g.D.Disk.fault_count g.D.Disk.fuse_count st.directory
    c.stop.new.self) c.self.view_is
    (record {
      settings = c.stop.ensures.settings;
      same_faults = c.stop.ensures.faults;
      same_fuses = c.stop.ensures.fuses;
      rests = record { closed = c.stop.ensures.closed.0; solid = λ tells. c.stop.ensures.solid tells 0; free = λ tells. c.stop.ensures.free tells 0 };
      stopped = c.stop.ensures.stopped;
      long = c.stop.ensures.long;
      unsure = ap unsure_of c.stop.ensures.closed.1;
    })

pub returns-clause-volumes : goal.returns-clause-volumes
returns-clause-volumes g c =
    let items = c.self.inside.volumes.items in
    let vs = c.stop_volumes.new.volumes in
    let long : length vs ≡ length items = (let same = c.stop_volumes.auto.volumes in omega (arith, same, c.as_mut_slice.ensures.len, c.self.inside.volumes.ok.0)) in
    let whole : take c.self.inside.volumes.len (vs ++ drop (length vs) items) ≡ vs =
    take_at vs (drop (length vs) items) c.self.inside.volumes.len (let here : length vs ≡ c.self.inside.volumes.len = omega (arith, long, c.self.inside.volumes.ok.0) in here) in
    let zipped : AllZip (StopsVolume g.D.Disk.Tells g.D.Disk.files g.D.Piece.Piece.Tells g.D.Disk.fault_count g.D.Disk.fuse_count) items vs =
    subst (λ (l : List (Volume g.row.D.Denot g.row.D-Piece.Denot)). AllZip (StopsVolume g.D.Disk.Tells g.D.Disk.files g.D.Piece.Piece.Tells g.D.Disk.fault_count
    g.D.Disk.fuse_count) l vs) c.as_mut_slice.ensures.value c.stop_volumes.ensures.stops in
    subst (λ (st : Open g.row.D.Denot g.row.D-Piece.Denot g.row.A.Denot). AllZip (StopsVolume g.D.Disk.Tells g.D.Disk.files g.D.Piece.Piece.Tells g.D.Disk.fault_count
    g.D.Disk.fuse_count) st.volumes (take c.self.inside.volumes.len (vs ++ drop (length vs) items))) c.self.view_is
    (subst (λ (l : List (Volume g.row.D.Denot g.row.D-Piece.Denot)). AllZip (StopsVolume g.D.Disk.Tells g.D.Disk.files g.D.Piece.Piece.Tells g.D.Disk.fault_count
    g.D.Disk.fuse_count) items l) (sym whole) zipped)

pub returns-clause-drawn : goal.returns-clause-drawn
returns-clause-drawn g c = λ tells.
    let R = λ (old new : Volume g.row.D.Denot g.row.D-Piece.Denot). StopsDrawing g.D.Disk.drawn old new in
    let items = c.self.inside.volumes.items in
    let vs = c.stop_volumes.new.volumes in
    let long : length vs ≡ length items = (let same = c.stop_volumes.auto.volumes in omega (arith, same, c.as_mut_slice.ensures.len, c.self.inside.volumes.ok.0)) in
    let whole : take c.self.inside.volumes.len (vs ++ drop (length vs) items) ≡ vs =
    take_at vs (drop (length vs) items) c.self.inside.volumes.len (let here : length vs ≡ c.self.inside.volumes.len = omega (arith, long, c.self.inside.volumes.ok.0) in here) in
    let zipped : AllZip R items vs = subst (λ (l : List (Volume g.row.D.Denot g.row.D-Piece.Denot)). AllZip R l vs) c.as_mut_slice.ensures.value (c.stop_volumes.ensures.drawn tells) in
    subst (λ (st : Open g.row.D.Denot g.row.D-Piece.Denot g.row.A.Denot). AllZip R st.volumes (take c.self.inside.volumes.len (vs ++ drop (length vs) items))) c.self.view_is
    (subst (λ (l : List (Volume g.row.D.Denot g.row.D-Piece.Denot)). AllZip R items l) (sym whole) zipped)
