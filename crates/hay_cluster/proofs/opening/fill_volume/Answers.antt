use Rattle.std.proofs.Common.{◌≡◌, ◌<◌, length, sym, ap, ◌∙◌, arith}
use Rattle.hay_needle.specs.declared.settings.Settings.{Settings}
use Rattle.hay_logical.specs.Volumes.{Volume}
use Rattle.hay_cluster.proofs.OpeningFill.{filled, filling_more, filling_none}
use Rattle.hay_cluster.proofs.opening.fill_volume.Goals as goal

pub loop-replica-init : goal.loop-replica-init
loop-replica-init g c = filling_none c.args.volume.now c.args.disks.now.items c.requires.empty

pub loop-replica-preserved : goal.loop-replica-preserved
loop-replica-preserved g c =
    let f = c.loop-replica.invariant in
    filling_more _ c.args.volume.now c.loop-replica.volume c.add.new.self c.args.disks.now.items c.loop-replica.disks.items c.pop.new.self.items c.in-Some.disk f
    (c.in-Some.ensures).items c.add.ensures

pub unreachable-requires : goal.unreachable-requires
unreachable-requires g c =
    let f = c.loop-replica.invariant in
    let no = (c.in_default.ensures).cases in
    omega (arith, no.0, f.fewer, c.loop-replica.disks.ok.0, c.requires.enough, c.loop-replica-test.true)

pub add-requires : goal.add-requires
add-requires g c =
    let f = c.loop-replica.invariant in
    let same = ap (λ (v : Volume g.row.D.Denot g.row.D-Piece.Denot). (v.settings).replicas) f.only ∙ ap (λ (s : Settings). s.replicas) c.requires.settings in
    let room : length c.loop-replica.volume.replicas < (c.loop-replica.volume.settings).replicas = omega (arith, f.count, same, c.loop-replica-test.true) in
    room

pub returns-clause-taken : goal.returns-clause-taken
returns-clause-taken g c =
    let all : c.loop-replica._replica ≡ c.args.settings.now.replicas = omega arith in
    filled c.loop-replica._replica c.args.volume.now c.loop-replica.volume c.args.disks.now.items c.loop-replica.disks.items
    (all ∙ sym (ap (λ (s : Settings). s.replicas) c.requires.settings)) c.loop-replica.invariant

pub returns-clause-fewer : goal.returns-clause-fewer
returns-clause-fewer g c = let f = c.loop-replica.invariant in omega (arith, f.fewer)
