use Rattle.std.proofs.Common.{ap}
use Rattle.hay_batch.proofs.ReplicaLaws.{added, may_add}
use Rattle.hay_batch.proofs.replica.LoadReplica.append.Goals as goal

pub returns-in-Ok-clause-added : goal.returns-in-Ok-clause-added
returns-in-Ok-clause-added g c =
    added g.D.Disk.Tells g.D.Disk.files c.args.photos.now c.args.self.now _ c.in-Ok.ensures.moved (λ tells. c.in-Ok.ensures.added tells) (λ tells. c.in-Ok.ensures.solid tells)
    (λ tells. c.in-Ok.ensures.next tells)

pub returns-in-Ok-clause-left : goal.returns-in-Ok-clause-left
returns-in-Ok-clause-left g c = λ tells.
    may_add g.D.Disk.files c.args.photos.now c.args.self.now _ (ap (λ v. v.file) c.in-Ok.ensures.moved) (ap (λ v. v.capacity) c.in-Ok.ensures.moved)
    (c.append_many.ensures.left tells) (c.append_many.ensures.others tells)

pub returns-in-Err-Failed-clause-left : goal.returns-in-Err-Failed-clause-left
returns-in-Err-Failed-clause-left g c = λ tells.
    may_add g.D.Disk.files c.args.photos.now c.args.self.now _ (ap (λ v. v.file) c.in-Err-Failed.ensures.stayed) (ap (λ v. v.capacity) c.in-Err-Failed.ensures.stayed)
    (c.append_many.ensures.left tells) (c.append_many.ensures.others tells)

pub returns-in-Err-NoMemory-clause-left : goal.returns-in-Err-NoMemory-clause-left
returns-in-Err-NoMemory-clause-left g c = λ tells.
    may_add g.D.Disk.files c.args.photos.now c.args.self.now _ (ap (λ v. v.file) c.in-Err-NoMemory.ensures.stayed) (ap (λ v. v.capacity) c.in-Err-NoMemory.ensures.stayed)
    (c.append_many.ensures.left tells) (c.append_many.ensures.others tells)
