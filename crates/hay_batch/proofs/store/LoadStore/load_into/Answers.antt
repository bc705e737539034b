use Rattle.std.proofs.Common.{◌≡◌, ◌+◌, ◌*◌, inl, inr, sym, ap, subst}
use Rattle.hay_needle.specs.declared.settings.Settings.{Settings}
use Rattle.hay_disk.specs.Disk.{KeepsOthers}
use Rattle.hay_batch.specs.declared.directory.LoadDirectory.{LoadDirectory}
use Rattle.hay_batch.specs.declared.replica.LoadReplica.{LoadReplica}
use Rattle.hay_batch.specs.Directories.{HoldsRows, MaySettle}
use Rattle.hay_batch.proofs.Loading.{Touches, fails_replica, files_kept, left_all_or_no_rows, left_without_rows, ready_loaded, refused_is, rows_kept, stands_loaded}
use Rattle.hay_batch.proofs.StoreLaws.{on_ok_more}
use Rattle.hay_batch.proofs.store.LoadStore.load_into.Goals as goal

pub append-requires-clause-ready : goal.append-requires-clause-ready
append-requires-clause-ready g c = λ tells j r there. (c.requires.ready tells).replicas c.args.volume j r there

-- both parts were called
pub returns-in-Ok-clause-loaded : goal.returns-in-Ok-clause-loaded
returns-in-Ok-clause-loaded g c = λ tells.
    let touched : Touches c.args.volume c.args.self.now c.append.new.self = record {
      settings = c.append.ensures.shape.0;
      was = c.requires.shape;
      is = c.append.ensures.shape.1;
      others = c.append.ensures.others;
    } in
    on_ok_more c.settle_rows.result _ _ (c.settle_rows.ensures.settled tells) (λ settled k stands.
    stands_loaded g.D.Disk.files c.args.volume c.args.photos.now k c.args.self.now c.append.new.self touched stands g.D.Disk.Tells tells c.in-Ok.ensures.added c.settle_rows.new.directory
    (settled k.superblock c.args.self.now.settings.volumes k.rows c.requires.there
    (subst (λ (d : LoadDirectory g.row.D.Denot). HoldsRows g.D.Disk.files k.superblock c.args.self.now.settings.volumes k.rows d) (sym c.append.ensures.same) stands.directory)))

pub returns-in-Ok-clause-next : goal.returns-in-Ok-clause-next
returns-in-Ok-clause-next g c = λ tells.
    let touched : Touches c.args.volume c.args.self.now c.append.new.self = record {
      settings = c.append.ensures.shape.0;
      was = c.requires.shape;
      is = c.append.ensures.shape.1;
      others = c.append.ensures.others;
    } in
    on_ok_more c.settle_rows.result _ _ (c.settle_rows.ensures.next tells)
    (ready_loaded g.D.Disk.Tells tells g.D.Disk.files c.args.volume c.args.photos.now c.args.self.now c.append.new.self c.settle_rows.new.directory touched (c.requires.ready tells)
    c.in-Ok.ensures.added)

pub returns-in-Ok-clause-left : goal.returns-in-Ok-clause-left
returns-in-Ok-clause-left g c = λ tells k left stands leaves.
    let touched : Touches c.args.volume c.args.self.now c.append.new.self = record {
      settings = c.append.ensures.shape.0;
      was = c.requires.shape;
      is = c.append.ensures.shape.1;
      others = c.append.ensures.others;
    } in
    let settles : MaySettle g.D.Disk.files c.args.volume c.args.photos.now c.args.self.now.directory c.settle_rows.new.directory =
    subst (λ (d : LoadDirectory g.row.D.Denot). MaySettle g.D.Disk.files c.args.volume c.args.photos.now d c.settle_rows.new.directory) c.append.ensures.same (c.settle_rows.ensures.left tells) in
    left_all_or_no_rows g.D.Disk.files c.args.volume c.args.photos.now k c.args.self.now c.append.new.self touched stands g.D.Disk.Tells tells c.in-Ok.ensures.added left leaves.volumes
    (settles.left k.superblock c.args.self.now.settings.volumes k.rows left.journal c.requires.there stands.directory leaves.journal)

pub returns-in-Ok-clause-ends : goal.returns-in-Ok-clause-ends
returns-in-Ok-clause-ends g c = on_ok_more c.settle_rows.result _ _ c.settle_rows.ensures.homes (λ _. record {
  here = λ j r r' was is. (c.in-Ok.ensures.added j r r' was is).volume;
  others = λ v j r r' apart was is. ap (λ (x : LoadReplica g.row.D.Denot). x.volume) (c.append.ensures.others v j r r' apart was is);
})

-- a replica refused
pub returns-in-Err-clause-left : goal.returns-in-Err-clause-left
returns-in-Err-clause-left g c = λ tells k left stands leaves.
    let touched : Touches c.args.volume c.args.self.now c.append.new.self = record {
      settings = c.append.ensures.shape.0;
      was = c.requires.shape;
      is = c.append.ensures.shape.1;
      others = c.append.ensures.others;
    } in
    inl (left_without_rows g.D.Disk.files c.args.volume c.args.photos.now k c.args.self.now c.append.new.self touched stands left leaves.volumes (c.append.ensures.left tells)
    (rows_kept g.D.Disk.files k.superblock c.args.self.now.settings.volumes k.rows c.append.new.self.directory left.journal
    (subst (λ (d : LoadDirectory g.row.D.Denot). HoldsRows g.D.Disk.files k.superblock c.args.self.now.settings.volumes k.rows d) (sym c.append.ensures.same) stands.directory) leaves.journal))

pub returns-in-Err-clause-failed : goal.returns-in-Err-clause-failed
returns-in-Err-clause-failed g c = λ slot faults is.
    let touched : Touches c.args.volume c.args.self.now c.append.new.self = record {
      settings = c.append.ensures.shape.0;
      was = c.requires.shape;
      is = c.append.ensures.shape.1;
      others = c.append.ensures.others;
    } in
    let there = refused_is c.in-Err.fault c.refused.result slot faults (1 + c.args.volume * c.append.new.self.settings.replicas) c.refused.ensures.failed c.refused.ensures.no_memory is in
    inr (fails_replica g.D.Disk.fault_count c.args.volume there.0 slot faults c.args.self.now _ touched c.requires.there
    (subst (λ (s : Settings). slot ≡ 1 + c.args.volume * s.replicas + there.0) c.append.ensures.shape.0 there.2) (c.in-Err.ensures.failed there.0 faults there.1))

-- other files

pub returns-in-Ok-clause-files : goal.returns-in-Ok-clause-files
returns-in-Ok-clause-files g c = λ tells.
    let touched : Touches c.args.volume c.args.self.now c.append.new.self = record {
      settings = c.append.ensures.shape.0;
      was = c.requires.shape;
      is = c.append.ensures.shape.1;
      others = c.append.ensures.others;
    } in
    files_kept g.D.Disk.files c.args.volume c.args.photos.now c.args.self.now c.append.new.self c.settle_rows.new.directory touched (c.append.ensures.left tells)
    (subst (λ (d : LoadDirectory g.row.D.Denot). KeepsOthers 0 (g.D.Disk.files d.disk) (g.D.Disk.files c.settle_rows.new.directory.disk)) c.append.ensures.same
    (c.settle_rows.ensures.left tells).others)

pub returns-in-Err-clause-files : goal.returns-in-Err-clause-files
returns-in-Err-clause-files g c = λ tells.
    let touched : Touches c.args.volume c.args.self.now c.append.new.self = record {
      settings = c.append.ensures.shape.0;
      was = c.requires.shape;
      is = c.append.ensures.shape.1;
      others = c.append.ensures.others;
    } in
    files_kept g.D.Disk.files c.args.volume c.args.photos.now c.args.self.now c.append.new.self c.append.new.self.directory touched (c.append.ensures.left tells)
    (λ other apart. ap (λ (d : LoadDirectory g.row.D.Denot). g.D.Disk.files d.disk other) c.append.ensures.same)
