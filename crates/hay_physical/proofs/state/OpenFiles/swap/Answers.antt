use Rattle.std.proofs.Common.{◌≡◌, ◌⊎◌, ◌+◌, sym, subst}
use Rattle.hay_disk.specs.Disk.{FileState, IsSolidIn}
use Rattle.hay_disk.specs.Gate.{IsGate}
use Rattle.hay_head.specs.Head.{IsHead, head_magic, row_place}
use Rattle.hay_physical.specs.CompactionRuns.{Switches}
use Rattle.hay_physical.proofs.Removing.{removed_since}
use Rattle.hay_physical.proofs.state.OpenFiles.swap.Goals as goal

pub returns-in-Ok-clause-switches : goal.returns-in-Ok-clause-switches
returns-in-Ok-clause-switches g c = λ tells first second.
    let files = g.D.Disk.files in
    let same : files c.adopt.new.disk 0 ≡ files c.switch.new.disk 0 = c.adopt.ensures.others tells 0 first second in
    let is = c.current-generation.ensures in
    subst (λ (x : FileState). Switches (files c.args.disk.now 0) x c.args.self.now.head.generation) (sym same) (record {
      is = λ superblock head. subst (λ k. IsHead superblock (files c.switch.new.disk 0).now (k + 1)) is (c.in-Ok.ensures.switched tells superblock head);
      solid = c.in-Ok.ensures.solid tells;
      gate = subst (λ k. IsGate head_magic (row_place (k + 1 + 1)) (files c.switch.new.disk 0)) is (c.in-Ok.ensures.next tells);
    })

pub returns-in-Err-NoMemory-clause-left : goal.returns-in-Err-NoMemory-clause-left
returns-in-Err-NoMemory-clause-left g c = λ tells superblock image head solid leaves.
    let now = g.D.Disk.files c.args.disk.now 0 in
    subst (λ k. IsSolidIn 0 (row_place (k + 1)) now → IsHead superblock image c.args.self.now.head.generation ⊎ IsHead superblock image (k + 1)) c.current-generation.ensures
    (λ whole. c.switch.ensures.left tells superblock image head whole leaves) solid

pub returns-clause-left : goal.returns-clause-left
returns-clause-left g c = λ tells superblock image head solid leaves.
    let now = g.D.Disk.files c.args.disk.now 0 in
    subst (λ k. IsSolidIn 0 (row_place (k + 1)) now → IsHead superblock image c.args.self.now.head.generation ⊎ IsHead superblock image (k + 1)) c.current-generation.ensures
    (λ whole. c.switch.ensures.left tells superblock image head whole leaves) solid

pub returns-in-Ok-clause-removed : goal.returns-in-Ok-clause-removed
returns-in-Ok-clause-removed g c = λ tells.
    removed_since (g.D.Disk.files c.adopt.new.disk) c.args.self.now.volume.file c.args.self.now.index.file (g.D.Disk.fault_count c.args.disk.now)
    (g.D.Disk.fault_count c.switch.new.disk) (g.D.Disk.fault_count c.adopt.new.disk)
    c.switch.ensures.counted.later (c.adopt.ensures.removed tells)
