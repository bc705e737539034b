use Rattle.std.proofs.Common.{◌≡◌, ◌+◌, ◌*◌, ◌≤◌, ◌∷◌, [], ℕ, List, length, sym, ap, subst, ◌∙◌, arith, length-append}
use Rattle.std.proofs.Math.Nat.{mul-le-mul_left}
use Rattle.hay_needle.specs.declared.settings.TheConstants.{MAX_VOLUMES}
use Rattle.hay_disk.specs.Shelf.{HeldDisk}
use Rattle.hay_batch.specs.declared.store.LoadVolume.{LoadVolume}
use Rattle.hay_batch.specs.Replicas.{At}
use Rattle.hay_batch.proofs.Closing.{VolumeGiven, at_last, gives_more, volume_stays_given}
use Rattle.hay_batch.proofs.shelf.give_volumes.Goals as goal

pub give_replicas-requires-clause-few : goal.give_replicas-requires-clause-few
give_replicas-requires-clause-few g c =
    let gives = c.loop-volume.invariant.gives in
    let rest = c.pop.new.self.items in
    let count : c.len.result ≡ length rest = c.len.ensures ∙ c.pop.new.self.ok.0 in
    let long : length c.loop-volume.volumes.items ≡ length rest + 1 =
    ap (λ (l : List (LoadVolume g.row.H-Disk.Denot)). length l) (c.in-Some.ensures).items ∙ length-append rest (c.in-Some.volume ∷ []) in
    let fewer = gives.fewer in
    let few = c.requires.few in
    let low : c.len.result + 1 ≤ MAX_VOLUMES = omega (arith, count, long, fewer, few) in
    let product : c.len.result * c.args.replicas ≤ c.len.result * 4 = mul-le-mul_left c.len.result c.requires.most in
    let all =
    c.requires.all (length rest) c.in-Some.volume (gives.left (length rest) c.in-Some.volume
    (subst (λ (l : List (LoadVolume g.row.H-Disk.Denot)). At l (length rest) c.in-Some.volume) (sym (c.in-Some.ensures).items) (at_last rest c.in-Some.volume))) in
    let most = c.requires.most in
    omega (arith, low, product, most, all)

pub give_replicas-requires-clause-out : goal.give_replicas-requires-clause-out
give_replicas-requires-clause-out g c = λ slot from to.
    let gives = c.loop-volume.invariant.gives in
    let rest = c.pop.new.self.items in
    let count : c.len.result ≡ length rest = c.len.ensures ∙ c.pop.new.self.ok.0 in
    let long : length c.loop-volume.volumes.items ≡ length rest + 1 =
    ap (λ (l : List (LoadVolume g.row.H-Disk.Denot)). length l) (c.in-Some.ensures).items ∙ length-append rest (c.in-Some.volume ∷ []) in
    let fewer = gives.fewer in
    let all =
    c.requires.all (length rest) c.in-Some.volume (gives.left (length rest) c.in-Some.volume
    (subst (λ (l : List (LoadVolume g.row.H-Disk.Denot)). At l (length rest) c.in-Some.volume) (sym (c.in-Some.ensures).items) (at_last rest c.in-Some.volume))) in
    let first : length c.loop-volume.volumes.items * c.args.replicas ≡ c.len.result * c.args.replicas + c.args.replicas =
    (let e = ap (λ n. n * c.args.replicas) long in let d = ap (λ n. n * c.args.replicas) count in omega (arith, e, d)) in
    let product = mul-le-mul_left c.args.replicas fewer in
    ap (λ (held : HeldDisk). held.is_out) (gives.below slot (omega (arith, to, first, all))) ∙ c.requires.out slot (omega (arith, to, first, all, product))

pub loop-volume-preserved : goal.loop-volume-preserved
loop-volume-preserved g c =
    let P = VolumeGiven g.H.Disk.Disk.Tells g.H.Disk.Disk.files g.H.Disk.Disk.drawn g.H.Disk.Disk.fault_count g.H.Disk.Disk.fuse_count c.args.replicas in
    let gives = c.loop-volume.invariant.gives in
    let rest = c.pop.new.self.items in
    let held = g.H.Shelf.disks c.give_replicas.new.shelf in
    let count : c.len.result ≡ length rest = c.len.ensures ∙ c.pop.new.self.ok.0 in
    let same : c.len.result * c.args.replicas ≡ length rest * c.args.replicas = ap (λ n. n * c.args.replicas) count in
    let all =
    c.requires.all (length rest) c.in-Some.volume (gives.left (length rest) c.in-Some.volume
    (subst (λ (l : List (LoadVolume g.row.H-Disk.Denot)). At l (length rest) c.in-Some.volume) (sym (c.in-Some.ensures).items) (at_last rest c.in-Some.volume))) in
    let given : P held c.len.result c.in-Some.volume = c.give_replicas.ensures.given in
    record {
      gives = gives_more P 1 c.args.replicas c.args.volumes.items c.loop-volume.volumes.items rest c.in-Some.volume (g.H.Shelf.disks c.args.shelf.now) (g.H.Shelf.disks c.loop-volume.shelf) held
          (volume_stays_given g.H.Disk.Disk.Tells g.H.Disk.Disk.files g.H.Disk.Disk.drawn g.H.Disk.Disk.fault_count g.H.Disk.Disk.fuse_count c.args.replicas) (c.in-Some.ensures).items gives
          (let Q : ℕ → Type 0 = λ n. P held n c.in-Some.volume in subst Q count given)
          (λ slot low. c.give_replicas.ensures.below slot (omega (arith, low, same)))
          (λ slot high. c.give_replicas.ensures.others slot (omega (arith, high, same, all)));
      others = c.give_replicas.ensures.lanes ∙ c.loop-volume.invariant.others;
      counted = c.give_replicas.ensures.counted ∙ c.loop-volume.invariant.counted;
    }

pub returns-clause-given : goal.returns-clause-given
returns-clause-given g c = λ v j w r at. c.loop-volume.invariant.gives.done v w (let none = (c.in_default.ensures).cases in omega (arith, none.0, c.loop-volume.volumes.ok.0)) at j r
