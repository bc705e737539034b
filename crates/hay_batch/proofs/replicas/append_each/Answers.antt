use Rattle.std.proofs.Common.{◌≡◌, ◌≤◌, Err, length, ap, arith}
use Rattle.std.specs.Prelude.{slice_index_or}
use Rattle.hay_batch.specs.declared.replica.LoadReplica.{LoadReplica}
use Rattle.hay_batch.specs.Replicas.{At}
use Rattle.hay_batch.proofs.Lists.{at_read, went_all, went_next, went_step}
use Rattle.hay_batch.proofs.ReplicaLaws.{failed_there, touched_broken, touched_each}
use Rattle.hay_batch.proofs.replicas.append_each.Goals as goal

pub append-requires-clause-ready : goal.append-requires-clause-ready
append-requires-clause-ready g c = λ tells.
    let here : LoadReplica g.row.D.Denot = slice_index_or c.loop-j.replicas c.loop-j.j c.index-replicas-j.result in
    let there : At c.loop-j.replicas c.loop-j.j here = at_read c.loop-j.replicas c.loop-j.j c.index-replicas-j.result (omega arith) in
    c.requires.ready tells c.loop-j.j here (went_next _ c.loop-j.j c.args.replicas.now c.loop-j.replicas here c.loop-j.invariant there)

pub append-requires-clause-room : goal.append-requires-clause-room
append-requires-clause-room g c =
    let here : LoadReplica g.row.D.Denot = slice_index_or c.loop-j.replicas c.loop-j.j c.index-replicas-j.result in
    let there : At c.loop-j.replicas c.loop-j.j here = at_read c.loop-j.replicas c.loop-j.j c.index-replicas-j.result (omega arith) in
    c.requires.room c.loop-j.j here (went_next _ c.loop-j.j c.args.replicas.now c.loop-j.replicas here c.loop-j.invariant there)

pub loop-j-preserved : goal.loop-j-preserved
loop-j-preserved g c =
    let here : LoadReplica g.row.D.Denot = slice_index_or c.loop-j.replicas c.loop-j.j c.index-replicas-j.result in
    let there : At c.loop-j.replicas c.loop-j.j here = at_read c.loop-j.replicas c.loop-j.j c.index-replicas-j.result (omega arith) in
    went_step _ _ c.loop-j.j c.args.replicas.now c.loop-j.replicas here c.append.new.self c.loop-j.invariant there (λ x y p. p)
    (record { adds = c.in-Ok.ensures.added; left = c.append.ensures.left; later = c.append.ensures.counted.later; fuses = c.append.ensures.fuses })

pub returns-clause-added : goal.returns-clause-added
returns-clause-added g c =
    λ j r r' e f. (went_all _ c.loop-j.j c.args.replicas.now _ c.loop-j.invariant (let all : length c.args.replicas.now ≤ c.loop-j.j = omega (arith, c.loop-j.invariant.count) in all) j r r' e f).adds

pub returns-clause-left : goal.returns-clause-left
returns-clause-left g c = λ tells j r r' e f.
    (touched_each g.D.Disk.Tells g.D.Disk.files g.D.Disk.fault_count g.D.Disk.fuse_count c.args.photos.now c.loop-j.j c.args.replicas.now _ c.loop-j.invariant j r r' e f).left tells

pub returns-clause-counts : goal.returns-clause-counts
returns-clause-counts g c = λ j r r' e f.
    (touched_each g.D.Disk.Tells g.D.Disk.files g.D.Disk.fault_count g.D.Disk.fuse_count c.args.photos.now c.loop-j.j c.args.replicas.now _ c.loop-j.invariant j r r' e f).later

pub returns-clause-fuses : goal.returns-clause-fuses
returns-clause-fuses g c = λ j r r' e f.
    (touched_each g.D.Disk.Tells g.D.Disk.files g.D.Disk.fault_count g.D.Disk.fuse_count c.args.photos.now c.loop-j.j c.args.replicas.now _ c.loop-j.invariant j r r' e f).fuses

pub returns-in-Err-Failed-clause-left : goal.returns-in-Err-Failed-clause-left
returns-in-Err-Failed-clause-left g c = λ tells j r r' e f.
    let here : LoadReplica g.row.D.Denot = slice_index_or c.loop-j.replicas c.loop-j.j c.index-replicas-j.result in
    let there : At c.loop-j.replicas c.loop-j.j here = at_read c.loop-j.replicas c.loop-j.j c.index-replicas-j.result (omega arith) in
    (touched_broken g.D.Disk.Tells g.D.Disk.files g.D.Disk.fault_count g.D.Disk.fuse_count c.args.photos.now c.loop-j.j c.args.replicas.now c.loop-j.replicas here c.append.new.self
    c.loop-j.invariant there
    c.append.ensures.left c.append.ensures.counted.later c.append.ensures.fuses j r r' e f).left tells

pub returns-in-Err-Failed-clause-counts : goal.returns-in-Err-Failed-clause-counts
returns-in-Err-Failed-clause-counts g c = λ j r r' e f.
    let here : LoadReplica g.row.D.Denot = slice_index_or c.loop-j.replicas c.loop-j.j c.index-replicas-j.result in
    let there : At c.loop-j.replicas c.loop-j.j here = at_read c.loop-j.replicas c.loop-j.j c.index-replicas-j.result (omega arith) in
    (touched_broken g.D.Disk.Tells g.D.Disk.files g.D.Disk.fault_count g.D.Disk.fuse_count c.args.photos.now c.loop-j.j c.args.replicas.now c.loop-j.replicas here c.append.new.self
    c.loop-j.invariant there
    c.append.ensures.left c.append.ensures.counted.later c.append.ensures.fuses j r r' e f).later

pub returns-in-Err-Failed-clause-fuses : goal.returns-in-Err-Failed-clause-fuses
returns-in-Err-Failed-clause-fuses g c = λ j r r' e f.
    let here : LoadReplica g.row.D.Denot = slice_index_or c.loop-j.replicas c.loop-j.j c.index-replicas-j.result in
    let there : At c.loop-j.replicas c.loop-j.j here = at_read c.loop-j.replicas c.loop-j.j c.index-replicas-j.result (omega arith) in
    (touched_broken g.D.Disk.Tells g.D.Disk.files g.D.Disk.fault_count g.D.Disk.fuse_count c.args.photos.now c.loop-j.j c.args.replicas.now c.loop-j.replicas here c.append.new.self
    c.loop-j.invariant there
    c.append.ensures.left c.append.ensures.counted.later c.append.ensures.fuses j r r' e f).fuses

pub returns-in-Err-NoMemory-clause-left : goal.returns-in-Err-NoMemory-clause-left
returns-in-Err-NoMemory-clause-left g c = λ tells j r r' e f.
    let here : LoadReplica g.row.D.Denot = slice_index_or c.loop-j.replicas c.loop-j.j c.index-replicas-j.result in
    let there : At c.loop-j.replicas c.loop-j.j here = at_read c.loop-j.replicas c.loop-j.j c.index-replicas-j.result (omega arith) in
    (touched_broken g.D.Disk.Tells g.D.Disk.files g.D.Disk.fault_count g.D.Disk.fuse_count c.args.photos.now c.loop-j.j c.args.replicas.now c.loop-j.replicas here c.append.new.self
    c.loop-j.invariant there
    c.append.ensures.left c.append.ensures.counted.later c.append.ensures.fuses j r r' e f).left tells

pub returns-in-Err-NoMemory-clause-counts : goal.returns-in-Err-NoMemory-clause-counts
returns-in-Err-NoMemory-clause-counts g c = λ j r r' e f.
    let here : LoadReplica g.row.D.Denot = slice_index_or c.loop-j.replicas c.loop-j.j c.index-replicas-j.result in
    let there : At c.loop-j.replicas c.loop-j.j here = at_read c.loop-j.replicas c.loop-j.j c.index-replicas-j.result (omega arith) in
    (touched_broken g.D.Disk.Tells g.D.Disk.files g.D.Disk.fault_count g.D.Disk.fuse_count c.args.photos.now c.loop-j.j c.args.replicas.now c.loop-j.replicas here c.append.new.self
    c.loop-j.invariant there
    c.append.ensures.left c.append.ensures.counted.later c.append.ensures.fuses j r r' e f).later

pub returns-in-Err-NoMemory-clause-fuses : goal.returns-in-Err-NoMemory-clause-fuses
returns-in-Err-NoMemory-clause-fuses g c = λ j r r' e f.
    let here : LoadReplica g.row.D.Denot = slice_index_or c.loop-j.replicas c.loop-j.j c.index-replicas-j.result in
    let there : At c.loop-j.replicas c.loop-j.j here = at_read c.loop-j.replicas c.loop-j.j c.index-replicas-j.result (omega arith) in
    (touched_broken g.D.Disk.Tells g.D.Disk.files g.D.Disk.fault_count g.D.Disk.fuse_count c.args.photos.now c.loop-j.j c.args.replicas.now c.loop-j.replicas here c.append.new.self
    c.loop-j.invariant there
    c.append.ensures.left c.append.ensures.counted.later c.append.ensures.fuses j r r' e f).fuses

pub returns-in-Err-Failed-clause-failed : goal.returns-in-Err-Failed-clause-failed
returns-in-Err-Failed-clause-failed g c = λ j faults is r r' e f.
    let here : LoadReplica g.row.D.Denot = slice_index_or c.loop-j.replicas c.loop-j.j c.index-replicas-j.result in
    let there : At c.loop-j.replicas c.loop-j.j here = at_read c.loop-j.replicas c.loop-j.j c.index-replicas-j.result (omega arith) in
    let place : c.loop-j.j ≡ j = cc in
    let found : c.faults.result ≡ faults = cc in
    failed_there _ g.D.Disk.fault_count c.loop-j.j c.faults.result c.args.replicas.now c.loop-j.replicas here c.append.new.self c.loop-j.invariant there
    (c.in-Err-Failed.ensures.counted.cause (ap Err c.in-Err-Failed.field-0-is)) c.faults.ensures j faults r r' place found e f
