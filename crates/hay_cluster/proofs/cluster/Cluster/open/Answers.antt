use Rattle.std.proofs.Common.{◌≡◌, ◌<◌, ◌≤◌, ℕ, inr, map, sym, ap, subst, ◌∙◌, arith, refl}
use Rattle.std.proofs.lemmas.Result.{err_from_is_err_and}
use Rattle.std.specs.Prelude.{slice_index}
use Rattle.hay_needle.specs.declared.settings.Settings.{Settings}
use Rattle.hay_disk.specs.Counts.{Rose}
use Rattle.hay_mount.specs.Mounts.{IsPutBack}
use Rattle.hay_legal.specs.Known.{disk_count}
use Rattle.hay_cluster.specs.Causes.{HasFile}
use Rattle.hay_cluster.specs.declared.fault.ClusterFault.TheVariants.{Shelf, Failed, Damaged, NoMemory}
use Rattle.hay_cluster.specs.Store.{disks_of}
use Rattle.hay_cluster.proofs.ClosingStore.{disks_many}
use Rattle.hay_cluster.proofs.OpeningDamage.{opened_sound, opening_damaged, opening_failed, TellsSlot, opening_first}
use Rattle.hay_cluster.proofs.OpeningDraws.{flushed_drew, opening_drew}
use Rattle.hay_cluster.proofs.OpeningFound.{found_new}
use Rattle.hay_cluster.proofs.OpeningLists.{passed_on}
use Rattle.hay_cluster.proofs.OpeningReads.{opened_live, opened_read, opened_reads}
use Rattle.hay_cluster.proofs.OpeningStore.{MovedParts, opens_up}
use Rattle.hay_cluster.proofs.OpeningTaken.{IsTakingFault, back_arm, back_counts, back_failed, back_shelf, back_damaged, is_taken, moved_arms, moved_counts, moved_sure}
use Rattle.hay_cluster.proofs.OpeningTaken.{not_memory_damaged, not_memory_failed, one_fault, passed_back, taken_idle, taken_rests, taking_damaged, taking_failed, taking_shelf}
use Rattle.hay_cluster.proofs.OpeningVoid.{back_contents, back_kept, contents_stay, formats_void}
use Rattle.hay_cluster.proofs.SeenOpening.{opens_seen}
use Rattle.hay_cluster.proofs.cluster.Cluster.open.Goals as goal

pub assemble-cluster-requires : goal.assemble-cluster-requires
assemble-cluster-requires g c =
    let count : c.disk_count.result ≡ disk_count c.args.settings = c.disk_count.ensures.is in
    record {
      built = c.requires.built;
      many = c.in_ok-volumes.ensures.count;
      empty = c.in_ok-volumes.ensures.empty;
      disks = c.in_ok-disks.ensures.disk_count ∙ count;
      lanes = c.in_ok-disks.ensures.arm_count;
    }

pub take_parts-requires-clause-disks_in : goal.take_parts-requires-clause-disks_in
take_parts-requires-clause-disks_in g c =
    let count : c.disk_count.result ≡ disk_count c.args.settings = c.disk_count.ensures.is in
    λ slot below. c.requires.disks_in slot (let low : slot < disk_count c.args.settings = omega (arith, count, below) in low)

pub open_parts-requires-clause-directory : goal.open_parts-requires-clause-directory
open_parts-requires-clause-directory g c =
    let taken =
    is_taken g.D.Disk.Tells g.D.Disk.files g.D.Piece.Piece.Tells g.D.Disk.fault_count g.D.Disk.fuse_count g.A.Arm.fault_count g.D.Disk.drawn g.A.Arm.is_sure
    (g.H.Shelf.disks c.args.shelf.now) (g.H.Shelf.arms c.args.shelf.now) c.assemble-cluster.result c.in_ok-disks.disks.items c.in_ok-disks.seats.items
    c.assemble-cluster.ensures.shape c.assemble-cluster.ensures.fresh c.assemble-cluster.ensures.closed c.assemble-cluster.ensures.unsure c.assemble-cluster.ensures.disks
    c.assemble-cluster.ensures.arms c.in_ok-disks.ensures.disks c.in_ok-disks.ensures.arms in
    taken_rests g.D.Disk.Tells g.D.Disk.files g.D.Piece.Piece.Tells g.D.Disk.fault_count g.D.Disk.fuse_count g.A.Arm.fault_count g.D.Disk.drawn g.A.Arm.is_sure
    (g.H.Shelf.disks c.args.shelf.now) (g.H.Shelf.arms c.args.shelf.now) c.assemble-cluster.result taken

pub open_parts-requires-clause-idle : goal.open_parts-requires-clause-idle
open_parts-requires-clause-idle g c =
    let taken =
    is_taken g.D.Disk.Tells g.D.Disk.files g.D.Piece.Piece.Tells g.D.Disk.fault_count g.D.Disk.fuse_count g.A.Arm.fault_count g.D.Disk.drawn g.A.Arm.is_sure
    (g.H.Shelf.disks c.args.shelf.now) (g.H.Shelf.arms c.args.shelf.now) c.assemble-cluster.result c.in_ok-disks.disks.items c.in_ok-disks.seats.items
    c.assemble-cluster.ensures.shape c.assemble-cluster.ensures.fresh c.assemble-cluster.ensures.closed c.assemble-cluster.ensures.unsure c.assemble-cluster.ensures.disks
    c.assemble-cluster.ensures.arms c.in_ok-disks.ensures.disks c.in_ok-disks.ensures.arms in
    λ tells. taken_idle g.D.Disk.Tells g.D.Disk.files g.D.Piece.Piece.Tells g.D.Disk.fault_count g.D.Disk.fuse_count g.A.Arm.fault_count g.D.Disk.drawn g.A.Arm.is_sure
    (g.H.Shelf.disks c.args.shelf.now) (g.H.Shelf.arms c.args.shelf.now) tells c.assemble-cluster.result taken

pub close-requires-clause-disks_out : goal.close-requires-clause-disks_out
close-requires-clause-disks_out g c =
    let count : c.disk_count.result ≡ disk_count c.args.settings = c.disk_count.ensures.is in
    let more : disk_count c.open_parts.new.self.settings ≡ disk_count c.args.settings = ap (λ (s : Settings). disk_count s) (c.open_parts.ensures.settings ∙ c.assemble-cluster.ensures.settings) in
    λ slot below. c.in_ok-disks.ensures.disks_out slot (let low : slot < c.disk_count.result = omega (arith, count, more, below) in low)

pub returns-in_err-volumes-clause-damaged : goal.returns-in_err-volumes-clause-damaged
returns-in_err-volumes-clause-damaged g c =
    let p = err_from_is_err_and c.from_residual.result c.from_residual.ensures.1 in
    let memory : c.in_err-volumes.field-0.0 ≡ NoMemory = c.in_err-volumes.ensures.no_memory in
    λ tells slot file at is. absurd (not_memory_damaged p.0 slot file at (p.2 ∙ memory) (one_fault c.from_residual.result p.0 (Damaged slot file at) p.1 is))

pub returns-in_err-volumes-clause-failed_lowest : goal.returns-in_err-volumes-clause-failed_lowest
returns-in_err-volumes-clause-failed_lowest g c =
    let p = err_from_is_err_and c.from_residual.result c.from_residual.ensures.1 in
    let memory : c.in_err-volumes.field-0.0 ≡ NoMemory = c.in_err-volumes.ensures.no_memory in
    λ tells slot faults is. absurd (not_memory_failed p.0 slot faults (p.2 ∙ memory) (one_fault c.from_residual.result p.0 (Failed slot faults) p.1 is))

pub returns-in_err-disks-clause-kept : goal.returns-in_err-disks-clause-kept
returns-in_err-disks-clause-kept g c =
    let p = err_from_is_err_and c.from_residual-in_err-disks.result c.from_residual-in_err-disks.ensures.1 in
    let count : c.disk_count.result ≡ disk_count c.args.settings = c.disk_count.ensures.is in
    let back : (slot : ℕ) → slot < disk_count c.args.settings → IsPutBack g.D.Disk.Tells (g.H.Shelf.disks c.args.shelf.now slot) (g.H.Shelf.disks c.take_parts.new.shelf slot) =
    λ slot below. c.in_err-disks.ensures.put_back slot (let low : slot < c.disk_count.result = omega (arith, count, below) in low) in
    λ tells. passed_back c.from_residual-in_err-disks.result _ p.0 p.1 (λ slot below. inr ((back slot below).kept tells))

pub returns-in_err-disks-clause-disks_back : goal.returns-in_err-disks-clause-disks_back
returns-in_err-disks-clause-disks_back g c =
    let p = err_from_is_err_and c.from_residual-in_err-disks.result c.from_residual-in_err-disks.ensures.1 in
    let count : c.disk_count.result ≡ disk_count c.args.settings = c.disk_count.ensures.is in
    let back : (slot : ℕ) → slot < disk_count c.args.settings → IsPutBack g.D.Disk.Tells (g.H.Shelf.disks c.args.shelf.now slot) (g.H.Shelf.disks c.take_parts.new.shelf slot) =
    λ slot below. c.in_err-disks.ensures.put_back slot (let low : slot < c.disk_count.result = omega (arith, count, below) in low) in
    passed_back c.from_residual-in_err-disks.result _ p.0 p.1 (λ slot below. (back slot below).back)

pub returns-in_err-disks-clause-arms_back : goal.returns-in_err-disks-clause-arms_back
returns-in_err-disks-clause-arms_back g c =
    let p = err_from_is_err_and c.from_residual-in_err-disks.result c.from_residual-in_err-disks.ensures.1 in
    passed_back c.from_residual-in_err-disks.result _ p.0 p.1 (λ lane below. (c.in_err-disks.ensures.arms_back lane below).back)

pub returns-in_err-disks-clause-back_counts : goal.returns-in_err-disks-clause-back_counts
returns-in_err-disks-clause-back_counts g c =
    let p = err_from_is_err_and c.from_residual-in_err-disks.result c.from_residual-in_err-disks.ensures.1 in
    let count : c.disk_count.result ≡ disk_count c.args.settings = c.disk_count.ensures.is in
    let back : (slot : ℕ) → slot < disk_count c.args.settings → IsPutBack g.D.Disk.Tells (g.H.Shelf.disks c.args.shelf.now slot) (g.H.Shelf.disks c.take_parts.new.shelf slot) =
    λ slot below. c.in_err-disks.ensures.put_back slot (let low : slot < c.disk_count.result = omega (arith, count, below) in low) in
    passed_back c.from_residual-in_err-disks.result _ p.0 p.1 (λ slot below. let b = back slot below in record { faults_rise = (let e = b.fault_count in omega (arith, e)); fuses_are = b.fuse_count })

pub returns-in_err-disks-clause-back_arms : goal.returns-in_err-disks-clause-back_arms
returns-in_err-disks-clause-back_arms g c =
    let p = err_from_is_err_and c.from_residual-in_err-disks.result c.from_residual-in_err-disks.ensures.1 in
    passed_back c.from_residual-in_err-disks.result _ p.0 p.1 c.in_err-disks.ensures.arms_back

pub returns-in_err-disks-clause-shelf : goal.returns-in_err-disks-clause-shelf
returns-in_err-disks-clause-shelf g c =
    let p = err_from_is_err_and c.from_residual-in_err-disks.result c.from_residual-in_err-disks.ensures.1 in
    let cause : IsTakingFault (g.H.Shelf.fault_count c.args.shelf.now) (g.H.Shelf.fault_count c.take_parts.new.shelf) c.in_err-disks.field-0.0 = c.in_err-disks.ensures.cause in
    passed_on c.from_residual-in_err-disks.result (λ fault. (faults : ℕ) → fault ≡ Shelf faults
    → Rose (g.H.Shelf.fault_count c.args.shelf.now) (g.H.Shelf.fault_count c.take_parts.new.shelf) × (faults ≡ g.H.Shelf.fault_count c.take_parts.new.shelf))
    c.in_err-disks.field-0.0 p.0 p.1 p.2 (λ faults is. taking_shelf (g.H.Shelf.fault_count c.args.shelf.now) (g.H.Shelf.fault_count c.take_parts.new.shelf)
    c.in_err-disks.field-0.0 faults cause is)

pub returns-in_err-disks-clause-failed : goal.returns-in_err-disks-clause-failed
returns-in_err-disks-clause-failed g c =
    let p = err_from_is_err_and c.from_residual-in_err-disks.result c.from_residual-in_err-disks.ensures.1 in
    let cause : IsTakingFault (g.H.Shelf.fault_count c.args.shelf.now) (g.H.Shelf.fault_count c.take_parts.new.shelf) c.in_err-disks.field-0.0 = c.in_err-disks.ensures.cause in
    passed_on c.from_residual-in_err-disks.result (λ fault. (slot faults : ℕ) → fault ≡ Failed slot faults
    → (slot < disk_count c.args.settings) × Rose (g.H.Shelf.disks c.args.shelf.now slot).fault_count (g.H.Shelf.disks c.take_parts.new.shelf slot).fault_count
    × (faults ≡ (g.H.Shelf.disks c.take_parts.new.shelf slot).fault_count)) c.in_err-disks.field-0.0 p.0 p.1 p.2
    (λ slot faults is. absurd (taking_failed (g.H.Shelf.fault_count c.args.shelf.now) (g.H.Shelf.fault_count c.take_parts.new.shelf) c.in_err-disks.field-0.0 slot faults cause is))

pub returns-in_err-disks-clause-failed_lowest : goal.returns-in_err-disks-clause-failed_lowest
returns-in_err-disks-clause-failed_lowest g c =
    let p = err_from_is_err_and c.from_residual-in_err-disks.result c.from_residual-in_err-disks.ensures.1 in
    let cause : IsTakingFault (g.H.Shelf.fault_count c.args.shelf.now) (g.H.Shelf.fault_count c.take_parts.new.shelf) c.in_err-disks.field-0.0 = c.in_err-disks.ensures.cause in
    λ tells slot faults is. absurd (taking_failed (g.H.Shelf.fault_count c.args.shelf.now) (g.H.Shelf.fault_count c.take_parts.new.shelf) c.in_err-disks.field-0.0 slot faults cause
    (sym p.2 ∙ one_fault c.from_residual-in_err-disks.result p.0 (Failed slot faults) p.1 is))

pub returns-in_err-disks-clause-damaged : goal.returns-in_err-disks-clause-damaged
returns-in_err-disks-clause-damaged g c =
    let p = err_from_is_err_and c.from_residual-in_err-disks.result c.from_residual-in_err-disks.ensures.1 in
    let cause : IsTakingFault (g.H.Shelf.fault_count c.args.shelf.now) (g.H.Shelf.fault_count c.take_parts.new.shelf) c.in_err-disks.field-0.0 = c.in_err-disks.ensures.cause in
    λ tells slot file at is. absurd (taking_damaged (g.H.Shelf.fault_count c.args.shelf.now) (g.H.Shelf.fault_count c.take_parts.new.shelf) c.in_err-disks.field-0.0 slot file at
    cause (sym p.2 ∙ one_fault c.from_residual-in_err-disks.result p.0 (Damaged slot file at) p.1 is))

pub returns-in_err-disks-clause-other_slots : goal.returns-in_err-disks-clause-other_slots
returns-in_err-disks-clause-other_slots g c =
    let count : c.disk_count.result ≡ disk_count c.args.settings = c.disk_count.ensures.is in
    λ slot high. c.take_parts.ensures.other_slots slot (let more : c.disk_count.result ≤ slot = omega (arith, count, high) in more)

pub returns-in-Ok-clause-opened : goal.returns-in-Ok-clause-opened
returns-in-Ok-clause-opened g c =
    let taken =
    is_taken g.D.Disk.Tells g.D.Disk.files g.D.Piece.Piece.Tells g.D.Disk.fault_count g.D.Disk.fuse_count g.A.Arm.fault_count g.D.Disk.drawn g.A.Arm.is_sure
    (g.H.Shelf.disks c.args.shelf.now) (g.H.Shelf.arms c.args.shelf.now) c.assemble-cluster.result c.in_ok-disks.disks.items c.in_ok-disks.seats.items
    c.assemble-cluster.ensures.shape c.assemble-cluster.ensures.fresh c.assemble-cluster.ensures.closed c.assemble-cluster.ensures.unsure c.assemble-cluster.ensures.disks
    c.assemble-cluster.ensures.arms c.in_ok-disks.ensures.disks c.in_ok-disks.ensures.arms in
    let moved : MovedParts g.D.Disk.Tells g.D.Disk.files g.D.Piece.Piece.Tells g.D.Disk.fault_count g.D.Disk.fuse_count g.A.Arm.fault_count
    c.assemble-cluster.result c.open_parts.new.self = record {
      settings = c.open_parts.ensures.settings;
      arms = c.open_parts.ensures.arms;
      directory = c.open_parts.ensures.directory;
      volumes = c.open_parts.ensures.volumes;
    } in
    λ tells k finds. found_new g.D.Disk.Tells g.D.Disk.files g.D.Piece.Piece.Tells g.D.Disk.fault_count g.D.Disk.fuse_count g.A.Arm.fault_count g.D.Disk.drawn g.A.Arm.is_sure
    (g.H.Shelf.disks c.args.shelf.now) (g.H.Shelf.arms c.args.shelf.now) (g.H.Shelf.fault_count c.args.shelf.now) tells c.args.settings c.assemble-cluster.result
    c.open_parts.new.self k c.in-Ok._notes c.assemble-cluster.ensures.settings taken moved c.in-Ok.ensures.opened finds

pub returns-in-Ok-clause-sound : goal.returns-in-Ok-clause-sound
returns-in-Ok-clause-sound g c =
    let taken =
    is_taken g.D.Disk.Tells g.D.Disk.files g.D.Piece.Piece.Tells g.D.Disk.fault_count g.D.Disk.fuse_count g.A.Arm.fault_count g.D.Disk.drawn g.A.Arm.is_sure
    (g.H.Shelf.disks c.args.shelf.now) (g.H.Shelf.arms c.args.shelf.now) c.assemble-cluster.result c.in_ok-disks.disks.items c.in_ok-disks.seats.items
    c.assemble-cluster.ensures.shape c.assemble-cluster.ensures.fresh c.assemble-cluster.ensures.closed c.assemble-cluster.ensures.unsure c.assemble-cluster.ensures.disks
    c.assemble-cluster.ensures.arms c.in_ok-disks.ensures.disks c.in_ok-disks.ensures.arms in
    let moved : MovedParts g.D.Disk.Tells g.D.Disk.files g.D.Piece.Piece.Tells g.D.Disk.fault_count g.D.Disk.fuse_count g.A.Arm.fault_count
    c.assemble-cluster.result c.open_parts.new.self = record {
      settings = c.open_parts.ensures.settings;
      arms = c.open_parts.ensures.arms;
      directory = c.open_parts.ensures.directory;
      volumes = c.open_parts.ensures.volumes;
    } in
    λ tells. opened_sound g.D.Disk.Tells g.D.Disk.files g.D.Piece.Piece.Tells g.D.Disk.fault_count g.D.Disk.fuse_count g.A.Arm.fault_count tells g.D.Disk.drawn g.A.Arm.is_sure
    (g.H.Shelf.disks c.args.shelf.now) (g.H.Shelf.arms c.args.shelf.now) c.args.settings c.assemble-cluster.result c.open_parts.new.self c.in-Ok._notes
    c.assemble-cluster.ensures.settings taken moved c.in-Ok.ensures.opened

pub returns-in-Ok-clause-up : goal.returns-in-Ok-clause-up
returns-in-Ok-clause-up g c =
    record {
      directory = c.in-Ok.ensures.opened.directory.up;
      volumes = opens_up g.D.Disk.Tells g.D.Disk.files g.D.Piece.Piece.Tells g.D.Disk.fault_count g.D.Disk.fuse_count _ _
          c.in-Ok.ensures.opened.of_volumes c.in-Ok.ensures.opened.volumes;
    }

pub returns-in-Ok-clause-counts : goal.returns-in-Ok-clause-counts
returns-in-Ok-clause-counts g c =
    let taken =
    is_taken g.D.Disk.Tells g.D.Disk.files g.D.Piece.Piece.Tells g.D.Disk.fault_count g.D.Disk.fuse_count g.A.Arm.fault_count g.D.Disk.drawn g.A.Arm.is_sure
    (g.H.Shelf.disks c.args.shelf.now) (g.H.Shelf.arms c.args.shelf.now) c.assemble-cluster.result c.in_ok-disks.disks.items c.in_ok-disks.seats.items
    c.assemble-cluster.ensures.shape c.assemble-cluster.ensures.fresh c.assemble-cluster.ensures.closed c.assemble-cluster.ensures.unsure c.assemble-cluster.ensures.disks
    c.assemble-cluster.ensures.arms c.in_ok-disks.ensures.disks c.in_ok-disks.ensures.arms in
    let moved : MovedParts g.D.Disk.Tells g.D.Disk.files g.D.Piece.Piece.Tells g.D.Disk.fault_count g.D.Disk.fuse_count g.A.Arm.fault_count
    c.assemble-cluster.result c.open_parts.new.self = record {
      settings = c.open_parts.ensures.settings;
      arms = c.open_parts.ensures.arms;
      directory = c.open_parts.ensures.directory;
      volumes = c.open_parts.ensures.volumes;
    } in
    let many : disk_count c.assemble-cluster.result.settings ≡ disk_count c.args.settings = ap (λ (s : Settings). disk_count s) c.assemble-cluster.ensures.settings in
    λ slot below. moved_counts g.D.Disk.Tells g.D.Disk.files g.D.Piece.Piece.Tells g.D.Disk.fault_count g.D.Disk.fuse_count g.A.Arm.fault_count g.D.Disk.drawn g.A.Arm.is_sure
    (g.H.Shelf.disks c.args.shelf.now) (g.H.Shelf.arms c.args.shelf.now) c.assemble-cluster.result c.open_parts.new.self taken moved slot
    (let low : slot < disk_count c.assemble-cluster.result.settings = omega (arith, many, below) in low)

pub returns-in-Ok-clause-arm_counts : goal.returns-in-Ok-clause-arm_counts
returns-in-Ok-clause-arm_counts g c =
    let taken =
    is_taken g.D.Disk.Tells g.D.Disk.files g.D.Piece.Piece.Tells g.D.Disk.fault_count g.D.Disk.fuse_count g.A.Arm.fault_count g.D.Disk.drawn g.A.Arm.is_sure
    (g.H.Shelf.disks c.args.shelf.now) (g.H.Shelf.arms c.args.shelf.now) c.assemble-cluster.result c.in_ok-disks.disks.items c.in_ok-disks.seats.items
    c.assemble-cluster.ensures.shape c.assemble-cluster.ensures.fresh c.assemble-cluster.ensures.closed c.assemble-cluster.ensures.unsure c.assemble-cluster.ensures.disks
    c.assemble-cluster.ensures.arms c.in_ok-disks.ensures.disks c.in_ok-disks.ensures.arms in
    λ lane below. moved_arms g.D.Disk.Tells g.D.Disk.files g.D.Piece.Piece.Tells g.D.Disk.fault_count g.D.Disk.fuse_count g.A.Arm.fault_count g.D.Disk.drawn g.A.Arm.is_sure
    (g.H.Shelf.disks c.args.shelf.now) (g.H.Shelf.arms c.args.shelf.now) c.assemble-cluster.result c.open_parts.new.self taken c.open_parts.ensures.arms lane below

pub returns-in-Ok-clause-sure_arms : goal.returns-in-Ok-clause-sure_arms
returns-in-Ok-clause-sure_arms g c =
    let taken =
    is_taken g.D.Disk.Tells g.D.Disk.files g.D.Piece.Piece.Tells g.D.Disk.fault_count g.D.Disk.fuse_count g.A.Arm.fault_count g.D.Disk.drawn g.A.Arm.is_sure
    (g.H.Shelf.disks c.args.shelf.now) (g.H.Shelf.arms c.args.shelf.now) c.assemble-cluster.result c.in_ok-disks.disks.items c.in_ok-disks.seats.items
    c.assemble-cluster.ensures.shape c.assemble-cluster.ensures.fresh c.assemble-cluster.ensures.closed c.assemble-cluster.ensures.unsure c.assemble-cluster.ensures.disks
    c.assemble-cluster.ensures.arms c.in_ok-disks.ensures.disks c.in_ok-disks.ensures.arms in
    λ lane arm at. moved_sure g.D.Disk.Tells g.D.Disk.files g.D.Piece.Piece.Tells g.D.Disk.fault_count g.D.Disk.fuse_count g.A.Arm.fault_count g.D.Disk.drawn g.A.Arm.is_sure
    (g.H.Shelf.disks c.args.shelf.now) (g.H.Shelf.arms c.args.shelf.now) c.assemble-cluster.result c.open_parts.new.self taken c.open_parts.ensures.arms lane arm at

pub returns-in-Ok-clause-disks_out : goal.returns-in-Ok-clause-disks_out
returns-in-Ok-clause-disks_out g c =
    let count : c.disk_count.result ≡ disk_count c.args.settings = c.disk_count.ensures.is in
    λ slot below. c.in_ok-disks.ensures.disks_out slot (let low : slot < c.disk_count.result = omega (arith, count, below) in low)

pub returns-in-Ok-clause-other_slots : goal.returns-in-Ok-clause-other_slots
returns-in-Ok-clause-other_slots g c =
    let count : c.disk_count.result ≡ disk_count c.args.settings = c.disk_count.ensures.is in
    λ slot high. c.take_parts.ensures.other_slots slot (let more : c.disk_count.result ≤ slot = omega (arith, count, high) in more)

pub returns-in-Err-clause-kept : goal.returns-in-Err-clause-kept
returns-in-Err-clause-kept g c =
    let taken =
    is_taken g.D.Disk.Tells g.D.Disk.files g.D.Piece.Piece.Tells g.D.Disk.fault_count g.D.Disk.fuse_count g.A.Arm.fault_count g.D.Disk.drawn g.A.Arm.is_sure
    (g.H.Shelf.disks c.args.shelf.now) (g.H.Shelf.arms c.args.shelf.now) c.assemble-cluster.result c.in_ok-disks.disks.items c.in_ok-disks.seats.items
    c.assemble-cluster.ensures.shape c.assemble-cluster.ensures.fresh c.assemble-cluster.ensures.closed c.assemble-cluster.ensures.unsure c.assemble-cluster.ensures.disks
    c.assemble-cluster.ensures.arms c.in_ok-disks.ensures.disks c.in_ok-disks.ensures.arms in
    let moved : MovedParts g.D.Disk.Tells g.D.Disk.files g.D.Piece.Piece.Tells g.D.Disk.fault_count g.D.Disk.fuse_count g.A.Arm.fault_count
    c.assemble-cluster.result c.open_parts.new.self = record {
      settings = c.open_parts.ensures.settings;
      arms = c.open_parts.ensures.arms;
      directory = c.open_parts.ensures.directory;
      volumes = c.open_parts.ensures.volumes;
    } in
    λ tells. back_kept g.D.Disk.Tells g.D.Disk.files g.D.Piece.Piece.Tells g.D.Disk.fault_count g.D.Disk.fuse_count g.A.Arm.fault_count g.D.Disk.drawn g.A.Arm.is_sure
    (g.H.Shelf.disks c.args.shelf.now) (g.H.Shelf.arms c.args.shelf.now) tells c.args.settings c.assemble-cluster.result c.open_parts.new.self
    (g.H.Shelf.disks c.close.new.shelf) c.assemble-cluster.ensures.settings taken moved c.close.ensures.disks

pub returns-in-Err-clause-disks_back : goal.returns-in-Err-clause-disks_back
returns-in-Err-clause-disks_back g c =
    let more : disk_count c.open_parts.new.self.settings ≡ disk_count c.args.settings = ap (λ (s : Settings). disk_count s) (c.open_parts.ensures.settings ∙ c.assemble-cluster.ensures.settings) in
    λ slot below. c.close.ensures.disks_back slot (let low : slot < disk_count c.open_parts.new.self.settings = omega (arith, more, below) in low)

pub returns-in-Err-clause-back_counts : goal.returns-in-Err-clause-back_counts
returns-in-Err-clause-back_counts g c =
    let taken =
    is_taken g.D.Disk.Tells g.D.Disk.files g.D.Piece.Piece.Tells g.D.Disk.fault_count g.D.Disk.fuse_count g.A.Arm.fault_count g.D.Disk.drawn g.A.Arm.is_sure
    (g.H.Shelf.disks c.args.shelf.now) (g.H.Shelf.arms c.args.shelf.now) c.assemble-cluster.result c.in_ok-disks.disks.items c.in_ok-disks.seats.items
    c.assemble-cluster.ensures.shape c.assemble-cluster.ensures.fresh c.assemble-cluster.ensures.closed c.assemble-cluster.ensures.unsure c.assemble-cluster.ensures.disks
    c.assemble-cluster.ensures.arms c.in_ok-disks.ensures.disks c.in_ok-disks.ensures.arms in
    let moved : MovedParts g.D.Disk.Tells g.D.Disk.files g.D.Piece.Piece.Tells g.D.Disk.fault_count g.D.Disk.fuse_count g.A.Arm.fault_count
    c.assemble-cluster.result c.open_parts.new.self = record {
      settings = c.open_parts.ensures.settings;
      arms = c.open_parts.ensures.arms;
      directory = c.open_parts.ensures.directory;
      volumes = c.open_parts.ensures.volumes;
    } in
    let many : disk_count c.assemble-cluster.result.settings ≡ disk_count c.args.settings = ap (λ (s : Settings). disk_count s) c.assemble-cluster.ensures.settings in
    let more : disk_count c.open_parts.new.self.settings ≡ disk_count c.args.settings = ap (λ (s : Settings). disk_count s) (c.open_parts.ensures.settings ∙ c.assemble-cluster.ensures.settings) in
    let faults_are : (slot : ℕ) → slot < disk_count c.assemble-cluster.result.settings
    → ((g.H.Shelf.disks c.close.new.shelf) slot).fault_count ≡ slice_index (map g.D.Disk.fault_count (disks_of c.open_parts.new.self)) slot = λ slot low.
    c.close.ensures.fault_counts slot (let less : slot < disk_count c.open_parts.new.self.settings = omega (arith, many, more, low) in less) in
    let fuses_are : (slot : ℕ) → slot < disk_count c.assemble-cluster.result.settings
    → ((g.H.Shelf.disks c.close.new.shelf) slot).fuse_count ≡ slice_index (map g.D.Disk.fuse_count (disks_of c.open_parts.new.self)) slot = λ slot low.
    c.close.ensures.fuse_counts slot (let less : slot < disk_count c.open_parts.new.self.settings = omega (arith, many, more, low) in less) in
    λ slot below. back_counts g.D.Disk.Tells g.D.Disk.files g.D.Piece.Piece.Tells g.D.Disk.fault_count g.D.Disk.fuse_count g.A.Arm.fault_count g.D.Disk.drawn g.A.Arm.is_sure
    (g.H.Shelf.disks c.args.shelf.now) (g.H.Shelf.arms c.args.shelf.now) c.assemble-cluster.result c.open_parts.new.self (g.H.Shelf.disks c.close.new.shelf) taken moved
    faults_are fuses_are slot (let low : slot < disk_count c.assemble-cluster.result.settings = omega (arith, many, below) in low)

pub returns-in-Err-clause-back_arms : goal.returns-in-Err-clause-back_arms
returns-in-Err-clause-back_arms g c =
    let taken =
    is_taken g.D.Disk.Tells g.D.Disk.files g.D.Piece.Piece.Tells g.D.Disk.fault_count g.D.Disk.fuse_count g.A.Arm.fault_count g.D.Disk.drawn g.A.Arm.is_sure
    (g.H.Shelf.disks c.args.shelf.now) (g.H.Shelf.arms c.args.shelf.now) c.assemble-cluster.result c.in_ok-disks.disks.items c.in_ok-disks.seats.items
    c.assemble-cluster.ensures.shape c.assemble-cluster.ensures.fresh c.assemble-cluster.ensures.closed c.assemble-cluster.ensures.unsure c.assemble-cluster.ensures.disks
    c.assemble-cluster.ensures.arms c.in_ok-disks.ensures.disks c.in_ok-disks.ensures.arms in
    back_arm g.D.Disk.Tells g.D.Disk.files g.D.Piece.Piece.Tells g.D.Disk.fault_count g.D.Disk.fuse_count g.A.Arm.fault_count g.D.Disk.drawn g.A.Arm.is_sure
    (g.H.Shelf.disks c.args.shelf.now) (g.H.Shelf.arms c.args.shelf.now) c.assemble-cluster.result c.open_parts.new.self (g.H.Shelf.arms c.close.new.shelf) taken
    c.open_parts.ensures.arms c.close.ensures.arm_counts c.close.ensures.sure_arms c.close.ensures.arms_back

pub returns-in-Err-clause-shelf : goal.returns-in-Err-clause-shelf
returns-in-Err-clause-shelf g c =
    let taken =
    is_taken g.D.Disk.Tells g.D.Disk.files g.D.Piece.Piece.Tells g.D.Disk.fault_count g.D.Disk.fuse_count g.A.Arm.fault_count g.D.Disk.drawn g.A.Arm.is_sure
    (g.H.Shelf.disks c.args.shelf.now) (g.H.Shelf.arms c.args.shelf.now) c.assemble-cluster.result c.in_ok-disks.disks.items c.in_ok-disks.seats.items
    c.assemble-cluster.ensures.shape c.assemble-cluster.ensures.fresh c.assemble-cluster.ensures.closed c.assemble-cluster.ensures.unsure c.assemble-cluster.ensures.disks
    c.assemble-cluster.ensures.arms c.in_ok-disks.ensures.disks c.in_ok-disks.ensures.arms in
    let moved : MovedParts g.D.Disk.Tells g.D.Disk.files g.D.Piece.Piece.Tells g.D.Disk.fault_count g.D.Disk.fuse_count g.A.Arm.fault_count
    c.assemble-cluster.result c.open_parts.new.self = record {
      settings = c.open_parts.ensures.settings;
      arms = c.open_parts.ensures.arms;
      directory = c.open_parts.ensures.directory;
      volumes = c.open_parts.ensures.volumes;
    } in
    λ faults is. absurd (back_shelf g.D.Disk.Tells g.D.Disk.files g.D.Piece.Piece.Tells g.D.Disk.fault_count g.D.Disk.fuse_count g.A.Arm.fault_count g.D.Disk.drawn g.A.Arm.is_sure
    (g.H.Shelf.disks c.args.shelf.now) (g.H.Shelf.arms c.args.shelf.now) c.assemble-cluster.result c.open_parts.new.self c.in-Err.fault taken moved c.in-Err.ensures.refused faults is)

pub returns-in-Err-clause-failed : goal.returns-in-Err-clause-failed
returns-in-Err-clause-failed g c =
    let taken =
    is_taken g.D.Disk.Tells g.D.Disk.files g.D.Piece.Piece.Tells g.D.Disk.fault_count g.D.Disk.fuse_count g.A.Arm.fault_count g.D.Disk.drawn g.A.Arm.is_sure
    (g.H.Shelf.disks c.args.shelf.now) (g.H.Shelf.arms c.args.shelf.now) c.assemble-cluster.result c.in_ok-disks.disks.items c.in_ok-disks.seats.items
    c.assemble-cluster.ensures.shape c.assemble-cluster.ensures.fresh c.assemble-cluster.ensures.closed c.assemble-cluster.ensures.unsure c.assemble-cluster.ensures.disks
    c.assemble-cluster.ensures.arms c.in_ok-disks.ensures.disks c.in_ok-disks.ensures.arms in
    let moved : MovedParts g.D.Disk.Tells g.D.Disk.files g.D.Piece.Piece.Tells g.D.Disk.fault_count g.D.Disk.fuse_count g.A.Arm.fault_count
    c.assemble-cluster.result c.open_parts.new.self = record {
      settings = c.open_parts.ensures.settings;
      arms = c.open_parts.ensures.arms;
      directory = c.open_parts.ensures.directory;
      volumes = c.open_parts.ensures.volumes;
    } in
    let many : disk_count c.assemble-cluster.result.settings ≡ disk_count c.args.settings = ap (λ (s : Settings). disk_count s) c.assemble-cluster.ensures.settings in
    let more : disk_count c.open_parts.new.self.settings ≡ disk_count c.args.settings = ap (λ (s : Settings). disk_count s) (c.open_parts.ensures.settings ∙ c.assemble-cluster.ensures.settings) in
    let faults_are : (slot : ℕ) → slot < disk_count c.assemble-cluster.result.settings
    → ((g.H.Shelf.disks c.close.new.shelf) slot).fault_count ≡ slice_index (map g.D.Disk.fault_count (disks_of c.open_parts.new.self)) slot = λ slot low.
    c.close.ensures.fault_counts slot (let less : slot < disk_count c.open_parts.new.self.settings = omega (arith, many, more, low) in less) in
    λ slot faults is.
    let f =
    back_failed g.D.Disk.Tells g.D.Disk.files g.D.Piece.Piece.Tells g.D.Disk.fault_count g.D.Disk.fuse_count g.A.Arm.fault_count g.D.Disk.drawn g.A.Arm.is_sure
    (g.H.Shelf.disks c.args.shelf.now) (g.H.Shelf.arms c.args.shelf.now) c.assemble-cluster.result c.open_parts.new.self (g.H.Shelf.disks c.close.new.shelf) c.in-Err.fault
    taken moved c.in-Err.ensures.refused faults_are slot faults is in
    let low = f.0 in
    ((let less : slot < disk_count c.args.settings = omega (arith, many, low) in less), f.1, f.2)

pub returns-in-Err-clause-failed_lowest : goal.returns-in-Err-clause-failed_lowest
returns-in-Err-clause-failed_lowest g c =
    let taken =
    is_taken g.D.Disk.Tells g.D.Disk.files g.D.Piece.Piece.Tells g.D.Disk.fault_count g.D.Disk.fuse_count g.A.Arm.fault_count g.D.Disk.drawn g.A.Arm.is_sure
    (g.H.Shelf.disks c.args.shelf.now) (g.H.Shelf.arms c.args.shelf.now) c.assemble-cluster.result c.in_ok-disks.disks.items c.in_ok-disks.seats.items
    c.assemble-cluster.ensures.shape c.assemble-cluster.ensures.fresh c.assemble-cluster.ensures.closed c.assemble-cluster.ensures.unsure c.assemble-cluster.ensures.disks
    c.assemble-cluster.ensures.arms c.in_ok-disks.ensures.disks c.in_ok-disks.ensures.arms in
    let moved : MovedParts g.D.Disk.Tells g.D.Disk.files g.D.Piece.Piece.Tells g.D.Disk.fault_count g.D.Disk.fuse_count g.A.Arm.fault_count
    c.assemble-cluster.result c.open_parts.new.self = record {
      settings = c.open_parts.ensures.settings;
      arms = c.open_parts.ensures.arms;
      directory = c.open_parts.ensures.directory;
      volumes = c.open_parts.ensures.volumes;
    } in
    λ tells slot faults is.
    let told : c.in-Err.fault ≡ Failed slot faults = cc in
    opening_failed g.D.Disk.Tells g.D.Disk.files g.D.Piece.Piece.Tells g.D.Disk.fault_count g.D.Disk.fuse_count g.A.Arm.fault_count tells g.D.Disk.drawn g.A.Arm.is_sure
    (g.H.Shelf.disks c.args.shelf.now) (g.H.Shelf.arms c.args.shelf.now) c.args.settings c.assemble-cluster.result c.open_parts.new.self c.in-Err.fault
    c.assemble-cluster.ensures.settings taken moved c.in-Err.ensures.refused slot faults told

pub returns-in-Err-clause-damaged : goal.returns-in-Err-clause-damaged
returns-in-Err-clause-damaged g c =
    let taken =
    is_taken g.D.Disk.Tells g.D.Disk.files g.D.Piece.Piece.Tells g.D.Disk.fault_count g.D.Disk.fuse_count g.A.Arm.fault_count g.D.Disk.drawn g.A.Arm.is_sure
    (g.H.Shelf.disks c.args.shelf.now) (g.H.Shelf.arms c.args.shelf.now) c.assemble-cluster.result c.in_ok-disks.disks.items c.in_ok-disks.seats.items
    c.assemble-cluster.ensures.shape c.assemble-cluster.ensures.fresh c.assemble-cluster.ensures.closed c.assemble-cluster.ensures.unsure c.assemble-cluster.ensures.disks
    c.assemble-cluster.ensures.arms c.in_ok-disks.ensures.disks c.in_ok-disks.ensures.arms in
    let moved : MovedParts g.D.Disk.Tells g.D.Disk.files g.D.Piece.Piece.Tells g.D.Disk.fault_count g.D.Disk.fuse_count g.A.Arm.fault_count
    c.assemble-cluster.result c.open_parts.new.self = record {
      settings = c.open_parts.ensures.settings;
      arms = c.open_parts.ensures.arms;
      directory = c.open_parts.ensures.directory;
      volumes = c.open_parts.ensures.volumes;
    } in
    let more : disk_count c.open_parts.new.self.settings ≡ disk_count c.args.settings = ap (λ (s : Settings). disk_count s) (c.open_parts.ensures.settings ∙ c.assemble-cluster.ensures.settings) in
    λ tells slot file at is.
    let told : c.in-Err.fault ≡ Damaged slot file at = cc in
    opening_damaged g.D.Disk.Tells g.D.Disk.files g.D.Piece.Piece.Tells g.D.Disk.fault_count g.D.Disk.fuse_count g.A.Arm.fault_count tells g.D.Disk.drawn g.A.Arm.is_sure
    (g.H.Shelf.disks c.args.shelf.now) (g.H.Shelf.disks c.close.new.shelf) (g.H.Shelf.arms c.args.shelf.now) c.args.settings c.assemble-cluster.result c.open_parts.new.self
    c.in-Err.fault c.assemble-cluster.ensures.settings taken moved
    (λ n below. c.close.ensures.contents tells n (let low : n < disk_count c.open_parts.new.self.settings = omega (arith, more, below) in low)) c.in-Err.ensures.refused slot file at told

pub returns-in-Err-clause-other_slots : goal.returns-in-Err-clause-other_slots
returns-in-Err-clause-other_slots g c =
    let count : c.disk_count.result ≡ disk_count c.args.settings = c.disk_count.ensures.is in
    let more : disk_count c.open_parts.new.self.settings ≡ disk_count c.args.settings = ap (λ (s : Settings). disk_count s) (c.open_parts.ensures.settings ∙ c.assemble-cluster.ensures.settings) in
    λ slot high. c.close.ensures.other_slots slot (let far : disk_count c.open_parts.new.self.settings ≤ slot = omega (arith, more, high) in far)
    ∙ c.take_parts.ensures.other_slots slot (let far : c.disk_count.result ≤ slot = omega (arith, count, high) in far)

pub returns-in-Err-clause-other_lanes : goal.returns-in-Err-clause-other_lanes
returns-in-Err-clause-other_lanes g c =
    λ lane high. c.close.ensures.other_lanes lane high ∙ c.take_parts.ensures.other_lanes lane high

pub returns-in-Err-clause-counted : goal.returns-in-Err-clause-counted
returns-in-Err-clause-counted g c =
    omega (arith, c.close.ensures.counted, c.take_parts.ensures.counted)

pub returns-in-Ok-clause-drew : goal.returns-in-Ok-clause-drew
returns-in-Ok-clause-drew g c = λ tells.
    let taken =
    is_taken g.D.Disk.Tells g.D.Disk.files g.D.Piece.Piece.Tells g.D.Disk.fault_count g.D.Disk.fuse_count g.A.Arm.fault_count g.D.Disk.drawn g.A.Arm.is_sure
    (g.H.Shelf.disks c.args.shelf.now) (g.H.Shelf.arms c.args.shelf.now) c.assemble-cluster.result c.in_ok-disks.disks.items c.in_ok-disks.seats.items
    c.assemble-cluster.ensures.shape c.assemble-cluster.ensures.fresh c.assemble-cluster.ensures.closed c.assemble-cluster.ensures.unsure c.assemble-cluster.ensures.disks
    c.assemble-cluster.ensures.arms c.in_ok-disks.ensures.disks c.in_ok-disks.ensures.arms in
    opening_drew g.D.Disk.files g.D.Disk.drawn g.D.Disk.Tells g.D.Piece.Piece.Tells g.D.Disk.fault_count g.D.Disk.fuse_count g.A.Arm.fault_count g.A.Arm.is_sure
    (g.H.Shelf.disks c.args.shelf.now) (g.H.Shelf.arms c.args.shelf.now) tells c.args.settings c.assemble-cluster.result c.open_parts.new.self
    c.assemble-cluster.ensures.settings taken c.open_parts.ensures.shape c.open_parts.ensures.settings (c.in-Ok.ensures.drew tells)

pub returns-in-Ok-clause-flushed : goal.returns-in-Ok-clause-flushed
returns-in-Ok-clause-flushed g c = λ tells k finds.
    let found = returns-in-Ok-clause-opened g c tells k finds in
    let short = g.met.D.Disk.fits in
    flushed_drew g.D.Disk.files g.D.Disk.drawn g.D.Piece.Piece.Tells (λ disk n. short disk n tells) g.D.Disk.fault_count g.D.Disk.fuse_count g.A.Arm.fault_count c.args.settings
    (λ slot. (g.H.Shelf.disks c.args.shelf.now slot).drawn) c.open_parts.new.self k found.0
    (c.open_parts.ensures.settings ∙ c.assemble-cluster.ensures.settings) finds.new found.1 found.2 (returns-in-Ok-clause-drew g c tells)

pub returns-in-Ok-clause-contents : goal.returns-in-Ok-clause-contents
returns-in-Ok-clause-contents g c =
    let taken =
    is_taken g.D.Disk.Tells g.D.Disk.files g.D.Piece.Piece.Tells g.D.Disk.fault_count g.D.Disk.fuse_count g.A.Arm.fault_count g.D.Disk.drawn g.A.Arm.is_sure
    (g.H.Shelf.disks c.args.shelf.now) (g.H.Shelf.arms c.args.shelf.now) c.assemble-cluster.result c.in_ok-disks.disks.items c.in_ok-disks.seats.items
    c.assemble-cluster.ensures.shape c.assemble-cluster.ensures.fresh c.assemble-cluster.ensures.closed c.assemble-cluster.ensures.unsure c.assemble-cluster.ensures.disks
    c.assemble-cluster.ensures.arms c.in_ok-disks.ensures.disks c.in_ok-disks.ensures.arms in
    let moved : MovedParts g.D.Disk.Tells g.D.Disk.files g.D.Piece.Piece.Tells g.D.Disk.fault_count g.D.Disk.fuse_count g.A.Arm.fault_count
    c.assemble-cluster.result c.open_parts.new.self = record {
      settings = c.open_parts.ensures.settings;
      arms = c.open_parts.ensures.arms;
      directory = c.open_parts.ensures.directory;
      volumes = c.open_parts.ensures.volumes;
    } in
    λ tells. contents_stay g.D.Disk.Tells g.D.Disk.files g.D.Piece.Piece.Tells g.D.Disk.fault_count g.D.Disk.fuse_count g.A.Arm.fault_count g.D.Disk.drawn g.A.Arm.is_sure
    (g.H.Shelf.disks c.args.shelf.now) (g.H.Shelf.arms c.args.shelf.now) tells c.args.settings c.assemble-cluster.result c.open_parts.new.self c.assemble-cluster.ensures.settings taken moved

pub returns-in-Err-clause-contents_back : goal.returns-in-Err-clause-contents_back
returns-in-Err-clause-contents_back g c =
    let taken =
    is_taken g.D.Disk.Tells g.D.Disk.files g.D.Piece.Piece.Tells g.D.Disk.fault_count g.D.Disk.fuse_count g.A.Arm.fault_count g.D.Disk.drawn g.A.Arm.is_sure
    (g.H.Shelf.disks c.args.shelf.now) (g.H.Shelf.arms c.args.shelf.now) c.assemble-cluster.result c.in_ok-disks.disks.items c.in_ok-disks.seats.items
    c.assemble-cluster.ensures.shape c.assemble-cluster.ensures.fresh c.assemble-cluster.ensures.closed c.assemble-cluster.ensures.unsure c.assemble-cluster.ensures.disks
    c.assemble-cluster.ensures.arms c.in_ok-disks.ensures.disks c.in_ok-disks.ensures.arms in
    let moved : MovedParts g.D.Disk.Tells g.D.Disk.files g.D.Piece.Piece.Tells g.D.Disk.fault_count g.D.Disk.fuse_count g.A.Arm.fault_count
    c.assemble-cluster.result c.open_parts.new.self = record {
      settings = c.open_parts.ensures.settings;
      arms = c.open_parts.ensures.arms;
      directory = c.open_parts.ensures.directory;
      volumes = c.open_parts.ensures.volumes;
    } in
    let more : disk_count c.open_parts.new.self.settings ≡ disk_count c.args.settings = ap (λ (s : Settings). disk_count s) (c.open_parts.ensures.settings ∙ c.assemble-cluster.ensures.settings) in
    λ tells. back_contents g.D.Disk.Tells g.D.Disk.files g.D.Piece.Piece.Tells g.D.Disk.fault_count g.D.Disk.fuse_count g.A.Arm.fault_count g.D.Disk.drawn g.A.Arm.is_sure
    (g.H.Shelf.disks c.args.shelf.now) (g.H.Shelf.arms c.args.shelf.now) c.args.settings c.open_parts.new.self (g.H.Shelf.disks c.close.new.shelf)
    (λ slot below. c.close.ensures.contents tells slot (let low : slot < disk_count c.open_parts.new.self.settings = omega (arith, more, below) in low))
    (contents_stay g.D.Disk.Tells g.D.Disk.files g.D.Piece.Piece.Tells g.D.Disk.fault_count g.D.Disk.fuse_count g.A.Arm.fault_count g.D.Disk.drawn g.A.Arm.is_sure
    (g.H.Shelf.disks c.args.shelf.now) (g.H.Shelf.arms c.args.shelf.now) tells c.args.settings c.assemble-cluster.result c.open_parts.new.self c.assemble-cluster.ensures.settings taken moved)

pub returns-in_err-disks-clause-contents_back : goal.returns-in_err-disks-clause-contents_back
returns-in_err-disks-clause-contents_back g c =
    let p = err_from_is_err_and c.from_residual-in_err-disks.result c.from_residual-in_err-disks.ensures.1 in
    let count : c.disk_count.result ≡ disk_count c.args.settings = c.disk_count.ensures.is in
    let back : (slot : ℕ) → slot < disk_count c.args.settings → IsPutBack g.D.Disk.Tells (g.H.Shelf.disks c.args.shelf.now slot) (g.H.Shelf.disks c.take_parts.new.shelf slot) =
    λ slot below. c.in_err-disks.ensures.put_back slot (let low : slot < c.disk_count.result = omega (arith, count, below) in low) in
    λ tells. passed_back c.from_residual-in_err-disks.result _ p.0 p.1 (λ slot file below some. (back slot below).now tells file)

pub returns-in_err-volumes-clause-damaged_within : goal.returns-in_err-volumes-clause-damaged_within
returns-in_err-volumes-clause-damaged_within g c =
    let p = err_from_is_err_and c.from_residual.result c.from_residual.ensures.1 in
    let memory : c.in_err-volumes.field-0.0 ≡ NoMemory = c.in_err-volumes.ensures.no_memory in
    λ slot file at is. absurd (not_memory_damaged p.0 slot file at (p.2 ∙ memory) (one_fault c.from_residual.result p.0 (Damaged slot file at) p.1 is))

pub returns-in_err-disks-clause-damaged_within : goal.returns-in_err-disks-clause-damaged_within
returns-in_err-disks-clause-damaged_within g c =
    let p = err_from_is_err_and c.from_residual-in_err-disks.result c.from_residual-in_err-disks.ensures.1 in
    let cause : IsTakingFault (g.H.Shelf.fault_count c.args.shelf.now) (g.H.Shelf.fault_count c.take_parts.new.shelf) c.in_err-disks.field-0.0 = c.in_err-disks.ensures.cause in
    λ slot file at is. absurd (taking_damaged (g.H.Shelf.fault_count c.args.shelf.now) (g.H.Shelf.fault_count c.take_parts.new.shelf) c.in_err-disks.field-0.0 slot file at cause
    (sym p.2 ∙ one_fault c.from_residual-in_err-disks.result p.0 (Damaged slot file at) p.1 is))

pub returns-in-Ok-clause-disks : goal.returns-in-Ok-clause-disks
returns-in-Ok-clause-disks g c =
    disks_many c.open_parts.new.self c.open_parts.ensures.shape ∙ ap (λ (s : Settings). disk_count s) (c.open_parts.ensures.settings ∙ c.assemble-cluster.ensures.settings)

pub returns-in-Err-clause-damaged_within : goal.returns-in-Err-clause-damaged_within
returns-in-Err-clause-damaged_within g c =
    let taken =
    is_taken g.D.Disk.Tells g.D.Disk.files g.D.Piece.Piece.Tells g.D.Disk.fault_count g.D.Disk.fuse_count g.A.Arm.fault_count g.D.Disk.drawn g.A.Arm.is_sure
    (g.H.Shelf.disks c.args.shelf.now) (g.H.Shelf.arms c.args.shelf.now) c.assemble-cluster.result c.in_ok-disks.disks.items c.in_ok-disks.seats.items
    c.assemble-cluster.ensures.shape c.assemble-cluster.ensures.fresh c.assemble-cluster.ensures.closed c.assemble-cluster.ensures.unsure c.assemble-cluster.ensures.disks
    c.assemble-cluster.ensures.arms c.in_ok-disks.ensures.disks c.in_ok-disks.ensures.arms in
    let moved : MovedParts g.D.Disk.Tells g.D.Disk.files g.D.Piece.Piece.Tells g.D.Disk.fault_count g.D.Disk.fuse_count g.A.Arm.fault_count
    c.assemble-cluster.result c.open_parts.new.self = record {
      settings = c.open_parts.ensures.settings;
      arms = c.open_parts.ensures.arms;
      directory = c.open_parts.ensures.directory;
      volumes = c.open_parts.ensures.volumes;
    } in
    λ slot file at is.
    let told : c.in-Err.fault ≡ Damaged slot file at = cc in
    subst (λ (s : Settings). HasFile s slot file) c.assemble-cluster.ensures.settings
    (back_damaged g.D.Disk.Tells g.D.Disk.files g.D.Piece.Piece.Tells g.D.Disk.fault_count g.D.Disk.fuse_count g.A.Arm.fault_count g.D.Disk.drawn g.A.Arm.is_sure
    (g.H.Shelf.disks c.args.shelf.now) (g.H.Shelf.arms c.args.shelf.now) c.assemble-cluster.result c.open_parts.new.self c.in-Err.fault taken moved c.in-Err.ensures.refused slot file at told)

pub returns-in-Ok-clause-formatted : goal.returns-in-Ok-clause-formatted
returns-in-Ok-clause-formatted g c = λ tells.
    let taken =
    is_taken g.D.Disk.Tells g.D.Disk.files g.D.Piece.Piece.Tells g.D.Disk.fault_count g.D.Disk.fuse_count g.A.Arm.fault_count g.D.Disk.drawn g.A.Arm.is_sure
    (g.H.Shelf.disks c.args.shelf.now) (g.H.Shelf.arms c.args.shelf.now) c.assemble-cluster.result c.in_ok-disks.disks.items c.in_ok-disks.seats.items
    c.assemble-cluster.ensures.shape c.assemble-cluster.ensures.fresh c.assemble-cluster.ensures.closed c.assemble-cluster.ensures.unsure c.assemble-cluster.ensures.disks
    c.assemble-cluster.ensures.arms c.in_ok-disks.ensures.disks c.in_ok-disks.ensures.arms in
    let moved : MovedParts g.D.Disk.Tells g.D.Disk.files g.D.Piece.Piece.Tells g.D.Disk.fault_count g.D.Disk.fuse_count g.A.Arm.fault_count
    c.assemble-cluster.result c.open_parts.new.self = record {
      settings = c.open_parts.ensures.settings;
      arms = c.open_parts.ensures.arms;
      directory = c.open_parts.ensures.directory;
      volumes = c.open_parts.ensures.volumes;
    } in
    formats_void g.D.Disk.Tells g.D.Disk.files g.D.Piece.Piece.Tells g.D.Disk.fault_count g.D.Disk.fuse_count g.A.Arm.fault_count g.D.Disk.drawn g.A.Arm.is_sure
    (g.H.Shelf.disks c.args.shelf.now) (g.H.Shelf.arms c.args.shelf.now) tells (λ disk n. g.met.D.Disk.may_leave_now disk n tells)
    c.args.settings c.assemble-cluster.result c.open_parts.new.self c.in-Ok._notes c.assemble-cluster.ensures.settings taken moved c.in-Ok.ensures.opened

pub returns-in-Ok-clause-opens : goal.returns-in-Ok-clause-opens
returns-in-Ok-clause-opens g c =
    opens_seen g.D.Disk.Tells g.D.Disk.files g.D.Piece.Piece.Tells g.D.Disk.fault_count g.D.Disk.fuse_count c.args.settings c.assemble-cluster.result c.open_parts.new.self
    c.in-Ok._notes c.assemble-cluster.ensures.settings
    (c.open_parts.ensures.settings ∙ c.assemble-cluster.ensures.settings) c.assemble-cluster.ensures.shape c.open_parts.ensures.shape c.in-Ok.ensures.opened

pub returns-in-Err-clause-failed_first : goal.returns-in-Err-clause-failed_first
returns-in-Err-clause-failed_first g c =
    let taken =
    is_taken g.D.Disk.Tells g.D.Disk.files g.D.Piece.Piece.Tells g.D.Disk.fault_count g.D.Disk.fuse_count g.A.Arm.fault_count g.D.Disk.drawn g.A.Arm.is_sure
    (g.H.Shelf.disks c.args.shelf.now) (g.H.Shelf.arms c.args.shelf.now) c.assemble-cluster.result c.in_ok-disks.disks.items c.in_ok-disks.seats.items
    c.assemble-cluster.ensures.shape c.assemble-cluster.ensures.fresh c.assemble-cluster.ensures.closed c.assemble-cluster.ensures.unsure c.assemble-cluster.ensures.disks
    c.assemble-cluster.ensures.arms c.in_ok-disks.ensures.disks c.in_ok-disks.ensures.arms in
    let moved : MovedParts g.D.Disk.Tells g.D.Disk.files g.D.Piece.Piece.Tells g.D.Disk.fault_count g.D.Disk.fuse_count g.A.Arm.fault_count
    c.assemble-cluster.result c.open_parts.new.self = record {
      settings = c.open_parts.ensures.settings;
      arms = c.open_parts.ensures.arms;
      directory = c.open_parts.ensures.directory;
      volumes = c.open_parts.ensures.volumes;
    } in
    let more : disk_count c.open_parts.new.self.settings ≡ disk_count c.args.settings = ap (λ (s : Settings). disk_count s) (c.open_parts.ensures.settings ∙ c.assemble-cluster.ensures.settings) in
    λ tells slot faults is.
    let told : c.in-Err.fault ≡ Failed slot faults = cc in
    opening_first g.D.Disk.Tells g.D.Disk.files g.D.Piece.Piece.Tells g.D.Disk.fault_count g.D.Disk.fuse_count g.A.Arm.fault_count tells g.D.Disk.drawn g.A.Arm.is_sure
    (g.H.Shelf.disks c.args.shelf.now) (g.H.Shelf.disks c.close.new.shelf) (g.H.Shelf.arms c.args.shelf.now) c.args.settings c.assemble-cluster.result c.open_parts.new.self
    c.in-Err.fault c.assemble-cluster.ensures.settings taken moved
    (λ n below. c.close.ensures.contents tells n (let low : n < disk_count c.open_parts.new.self.settings = omega (arith, more, below) in low)) c.in-Err.ensures.refused slot
    (subst (λ f. TellsSlot f slot) (sym told) refl)

pub returns-in-Err-clause-damaged_first : goal.returns-in-Err-clause-damaged_first
returns-in-Err-clause-damaged_first g c =
    let taken =
    is_taken g.D.Disk.Tells g.D.Disk.files g.D.Piece.Piece.Tells g.D.Disk.fault_count g.D.Disk.fuse_count g.A.Arm.fault_count g.D.Disk.drawn g.A.Arm.is_sure
    (g.H.Shelf.disks c.args.shelf.now) (g.H.Shelf.arms c.args.shelf.now) c.assemble-cluster.result c.in_ok-disks.disks.items c.in_ok-disks.seats.items
    c.assemble-cluster.ensures.shape c.assemble-cluster.ensures.fresh c.assemble-cluster.ensures.closed c.assemble-cluster.ensures.unsure c.assemble-cluster.ensures.disks
    c.assemble-cluster.ensures.arms c.in_ok-disks.ensures.disks c.in_ok-disks.ensures.arms in
    let moved : MovedParts g.D.Disk.Tells g.D.Disk.files g.D.Piece.Piece.Tells g.D.Disk.fault_count g.D.Disk.fuse_count g.A.Arm.fault_count
    c.assemble-cluster.result c.open_parts.new.self = record {
      settings = c.open_parts.ensures.settings;
      arms = c.open_parts.ensures.arms;
      directory = c.open_parts.ensures.directory;
      volumes = c.open_parts.ensures.volumes;
    } in
    let more : disk_count c.open_parts.new.self.settings ≡ disk_count c.args.settings = ap (λ (s : Settings). disk_count s) (c.open_parts.ensures.settings ∙ c.assemble-cluster.ensures.settings) in
    λ tells slot file at is.
    let told : c.in-Err.fault ≡ Damaged slot file at = cc in
    opening_first g.D.Disk.Tells g.D.Disk.files g.D.Piece.Piece.Tells g.D.Disk.fault_count g.D.Disk.fuse_count g.A.Arm.fault_count tells g.D.Disk.drawn g.A.Arm.is_sure
    (g.H.Shelf.disks c.args.shelf.now) (g.H.Shelf.disks c.close.new.shelf) (g.H.Shelf.arms c.args.shelf.now) c.args.settings c.assemble-cluster.result c.open_parts.new.self
    c.in-Err.fault c.assemble-cluster.ensures.settings taken moved
    (λ n below. c.close.ensures.contents tells n (let low : n < disk_count c.open_parts.new.self.settings = omega (arith, more, below) in low)) c.in-Err.ensures.refused slot
    (subst (λ f. TellsSlot f slot) (sym told) refl)

pub returns-in_err-volumes-clause-failed_first : goal.returns-in_err-volumes-clause-failed_first
returns-in_err-volumes-clause-failed_first g c =
    let p = err_from_is_err_and c.from_residual.result c.from_residual.ensures.1 in
    let memory : c.in_err-volumes.field-0.0 ≡ NoMemory = c.in_err-volumes.ensures.no_memory in
    λ tells slot faults is. absurd (not_memory_failed p.0 slot faults (p.2 ∙ memory) (one_fault c.from_residual.result p.0 (Failed slot faults) p.1 is))

pub returns-in_err-volumes-clause-damaged_first : goal.returns-in_err-volumes-clause-damaged_first
returns-in_err-volumes-clause-damaged_first g c =
    let p = err_from_is_err_and c.from_residual.result c.from_residual.ensures.1 in
    let memory : c.in_err-volumes.field-0.0 ≡ NoMemory = c.in_err-volumes.ensures.no_memory in
    λ tells slot file at is. absurd (not_memory_damaged p.0 slot file at (p.2 ∙ memory) (one_fault c.from_residual.result p.0 (Damaged slot file at) p.1 is))

pub returns-in_err-disks-clause-failed_first : goal.returns-in_err-disks-clause-failed_first
returns-in_err-disks-clause-failed_first g c =
    let p = err_from_is_err_and c.from_residual-in_err-disks.result c.from_residual-in_err-disks.ensures.1 in
    let cause : IsTakingFault (g.H.Shelf.fault_count c.args.shelf.now) (g.H.Shelf.fault_count c.take_parts.new.shelf) c.in_err-disks.field-0.0 = c.in_err-disks.ensures.cause in
    λ tells slot faults is. absurd (taking_failed (g.H.Shelf.fault_count c.args.shelf.now) (g.H.Shelf.fault_count c.take_parts.new.shelf) c.in_err-disks.field-0.0 slot faults cause
    (sym p.2 ∙ one_fault c.from_residual-in_err-disks.result p.0 (Failed slot faults) p.1 is))

pub returns-in_err-disks-clause-damaged_first : goal.returns-in_err-disks-clause-damaged_first
returns-in_err-disks-clause-damaged_first g c =
    let p = err_from_is_err_and c.from_residual-in_err-disks.result c.from_residual-in_err-disks.ensures.1 in
    let cause : IsTakingFault (g.H.Shelf.fault_count c.args.shelf.now) (g.H.Shelf.fault_count c.take_parts.new.shelf) c.in_err-disks.field-0.0 = c.in_err-disks.ensures.cause in
    λ tells slot file at is. absurd (taking_damaged (g.H.Shelf.fault_count c.args.shelf.now) (g.H.Shelf.fault_count c.take_parts.new.shelf) c.in_err-disks.field-0.0 slot file at
    cause (sym p.2 ∙ one_fault c.from_residual-in_err-disks.result p.0 (Damaged slot file at) p.1 is))

pub returns-in-Ok-clause-reads : goal.returns-in-Ok-clause-reads
returns-in-Ok-clause-reads g c =
    let taken =
    is_taken g.D.Disk.Tells g.D.Disk.files g.D.Piece.Piece.Tells g.D.Disk.fault_count g.D.Disk.fuse_count g.A.Arm.fault_count g.D.Disk.drawn g.A.Arm.is_sure
    (g.H.Shelf.disks c.args.shelf.now) (g.H.Shelf.arms c.args.shelf.now) c.assemble-cluster.result c.in_ok-disks.disks.items c.in_ok-disks.seats.items
    c.assemble-cluster.ensures.shape c.assemble-cluster.ensures.fresh c.assemble-cluster.ensures.closed c.assemble-cluster.ensures.unsure c.assemble-cluster.ensures.disks
    c.assemble-cluster.ensures.arms c.in_ok-disks.ensures.disks c.in_ok-disks.ensures.arms in
    let moved : MovedParts g.D.Disk.Tells g.D.Disk.files g.D.Piece.Piece.Tells g.D.Disk.fault_count g.D.Disk.fuse_count g.A.Arm.fault_count
    c.assemble-cluster.result c.open_parts.new.self = record {
      settings = c.open_parts.ensures.settings;
      arms = c.open_parts.ensures.arms;
      directory = c.open_parts.ensures.directory;
      volumes = c.open_parts.ensures.volumes;
    } in
    λ tells. opened_reads g.D.Disk.Tells g.D.Disk.files g.D.Piece.Piece.Tells g.D.Disk.fault_count g.D.Disk.fuse_count g.A.Arm.fault_count tells g.D.Disk.drawn g.A.Arm.is_sure
    (g.H.Shelf.disks c.args.shelf.now) (g.H.Shelf.arms c.args.shelf.now) c.args.settings c.assemble-cluster.result c.open_parts.new.self c.in-Ok._notes
    c.assemble-cluster.ensures.settings taken moved c.in-Ok.ensures.opened

pub returns-in-Ok-clause-live : goal.returns-in-Ok-clause-live
returns-in-Ok-clause-live g c = λ tells.
    opened_live g.D.Disk.Tells g.D.Disk.files g.D.Piece.Piece.Tells g.D.Disk.fault_count g.D.Disk.fuse_count tells c.args.settings c.assemble-cluster.result c.open_parts.new.self
    c.in-Ok._notes (c.open_parts.ensures.settings ∙ c.assemble-cluster.ensures.settings) c.open_parts.ensures.shape c.in-Ok.ensures.opened

pub returns-in-Ok-clause-reads_each : goal.returns-in-Ok-clause-reads_each
returns-in-Ok-clause-reads_each g c = λ tells.
    opened_read g.D.Disk.Tells g.D.Disk.files g.D.Piece.Piece.Tells g.D.Disk.fault_count g.D.Disk.fuse_count tells c.args.settings c.assemble-cluster.result c.open_parts.new.self
    c.in-Ok._notes (c.open_parts.ensures.settings ∙ c.assemble-cluster.ensures.settings) c.open_parts.ensures.shape c.in-Ok.ensures.opened
