use Rattle.std.proofs.Common.{◌≡◌, ◌+◌, ◌*◌, ◌≤◌, List, [], ◌++◌, length, get_or, sym, ap, subst, ◌∙◌, arith}
use Rattle.std.proofs.Math.Nat.{mul-le-mul_left}
use Rattle.std.proofs.lemmas.List.{append-nil, nil_from_length}
use Rattle.std.specs.Prelude.{reverse}
use Rattle.hay_cluster.specs.Opening.{FillsVolume, Gathers, IsEmptyVolume}
use Rattle.hay_cluster.proofs.Lists.{InOrder-get}
use Rattle.hay_cluster.proofs.OpeningFill.{fills_more, fills_none}
use Rattle.hay_cluster.proofs.OpeningLists.{at_read, gathered_all, gathered_was}
use Rattle.hay_cluster.proofs.opening.fill_volumes.Goals as goal

pub loop-volume-init : goal.loop-volume-init
loop-volume-init g c = fills_none _ _ _

pub loop-volume-preserved : goal.loop-volume-preserved
loop-volume-preserved g c =
    let n = c.loop-volume.volume-index in
    let taken = c.fill_volume.ensures.taken in
    fills_more c.args.settings.now.replicas n c.args.volumes.now c.loop-volume.volumes c.args.disks.now.items c.loop-volume.disks.items c.fill_volume.new.disks.items taken.0
    (get_or c.loop-volume.volumes n c.volume-item.result) c.fill_volume.new.volume c.loop-volume.invariant (at_read c.loop-volume.volumes n c.volume-item.result (omega arith))
    taken.1 taken.2 c.fill_volume.ensures.fewer

pub fill_volume-requires : goal.fill_volume-requires
fill_volume-requires g c =
    let n = c.loop-volume.volume-index in
    let y = get_or c.loop-volume.volumes n c.volume-item.result in
    let f = c.loop-volume.invariant in
    let was = InOrder-get (IsEmptyVolume c.args.settings.now) c.args.volumes.now n y
    (gathered_was FillsVolume n c.args.volumes.now c.loop-volume.volumes f.taken y f.gathered (at_read c.loop-volume.volumes n c.volume-item.result (omega arith))) c.requires.empty in
    let next : n + 1 ≤ length c.args.volumes.now = omega arith in
    let product = mul-le-mul_left c.args.settings.now.replicas next in
    let enough : c.args.settings.now.replicas ≤ length c.loop-volume.disks.items = omega (arith, product, f.fewer, c.requires.enough) in
    record { empty = was.none; settings = was.settings_are; enough = enough }

pub returns : goal.returns
returns g c =
    let f = c.loop-volume.invariant in
    let index : c.loop-volume.volume-index ≡ length c.args.volumes.now = omega arith in
    let product = ap (λ k. k * c.args.settings.now.replicas) index in
    let none : c.loop-volume.disks.items ≡ [] = nil_from_length c.loop-volume.disks.items (omega (arith, f.fewer, product, c.requires.enough)) in
    subst (λ (l : List g.row.D.Denot). Gathers FillsVolume c.args.volumes.now c.loop-volume.volumes l)
    (sym (f.parts ∙ ap (λ (l : List g.row.D.Denot). f.taken ++ reverse l) none ∙ append-nil f.taken))
    (gathered_all FillsVolume c.loop-volume.volume-index c.args.volumes.now c.loop-volume.volumes f.taken f.gathered (omega arith))
