use Rattle.std.proofs.Common.{◌≡◌, ◌+◌, ◌*◌, ◌≤◌, List, [], ◌∷◌, ◌++◌, length, refl, sym, ap, subst, ◌∙◌, arith}
use Rattle.std.proofs.lemmas.List.{length-append, nil_from_length}
use Rattle.std.proofs.Math.Nat.{mul-le-mul_left}
use Rattle.std.specs.List.{AllByRecursion, flat_map}
use Rattle.hay_needle.specs.declared.settings.TheConstants.{MAX_VOLUMES}
use Rattle.hay_disk.specs.Shelf.{HeldDisk}
use Rattle.hay_mount.specs.Mounts.{InOrder, IsGivenDisk}
use Rattle.hay_logical.specs.Volumes.{Volume}
use Rattle.hay_cluster.specs.Store.{volume_disks}
use Rattle.hay_cluster.proofs.ClosingSlots.{all-front, all-last, disks-long, flat-long, flat-one, from-all, from-more, from-none, rest_shorter}
use Rattle.hay_cluster.proofs.closing.give_volumes.Goals as goal

pub loop-volume-init : goal.loop-volume-init
loop-volume-init g c = record {
  gives =
      from-none (IsGivenDisk g.H.Disk.Disk.Tells g.H.Disk.Disk.files g.H.Disk.Disk.drawn g.H.Disk.Disk.fault_count g.H.Disk.Disk.fuse_count) 1
      (flat_map volume_disks c.args.volumes.items) (g.H.Shelf.disks c.args.shelf.now);
  few = c.requires.few;
  all = c.requires.all;
  others = refl;
  counted = refl;
}

pub loop-volume-preserved : goal.loop-volume-preserved
loop-volume-preserved g c =
    let P = (IsGivenDisk g.H.Disk.Disk.Tells g.H.Disk.Disk.files g.H.Disk.Disk.drawn g.H.Disk.Disk.fault_count g.H.Disk.Disk.fuse_count) in
    let items = (c.in-Some.ensures).items in
    let vs = c.pop.new.self.items in
    let each : AllByRecursion (λ (v : Volume g.row.H-Disk.Denot g.row.H-Disk-Piece.Denot). length (volume_disks v) ≡ c.args.replicas) (vs ++ c.in-Some.volume ∷ []) =
    subst (λ (l : List (Volume g.row.H-Disk.Denot g.row.H-Disk-Piece.Denot)). AllByRecursion
    (λ (v : Volume g.row.H-Disk.Denot g.row.H-Disk-Piece.Denot). length (volume_disks v) ≡ c.args.replicas) l) items c.loop-volume.invariant.all in
    let front = all-front (λ (v : Volume g.row.H-Disk.Denot g.row.H-Disk-Piece.Denot). length (volume_disks v) ≡ c.args.replicas) vs (c.in-Some.volume ∷ []) each in
    let last : length (volume_disks c.in-Some.volume) ≡ c.args.replicas =
    all-last (λ (v : Volume g.row.H-Disk.Denot g.row.H-Disk-Piece.Denot). length (volume_disks v) ≡ c.args.replicas) vs c.in-Some.volume each in
    let count : c.len.result ≡ length vs = c.len.ensures ∙ c.pop.new.self.ok.0 in
    let from : 1 + c.len.result * c.args.replicas ≡ 1 + length (flat_map volume_disks vs) =
    ap (λ n. 1 + n * c.args.replicas) count ∙ ap (λ n. 1 + n) (sym (flat-long volume_disks c.args.replicas vs front)) in
    let new = g.H.Shelf.disks c.give_volume.new.shelf in
    record {
      gives =
          from-more P 1 (flat_map volume_disks c.args.volumes.items) (flat_map volume_disks c.loop-volume.volumes.items) (flat_map volume_disks vs) (volume_disks c.in-Some.volume)
          (g.H.Shelf.disks c.args.shelf.now) (g.H.Shelf.disks c.loop-volume.shelf) new
          (ap (λ (l : List (Volume g.row.H-Disk.Denot g.row.H-Disk-Piece.Denot)). flat_map volume_disks l) items ∙ flat-one volume_disks vs c.in-Some.volume) c.loop-volume.invariant.gives
          (subst (λ n. InOrder (λ slot disk. P (new slot) disk) n (volume_disks c.in-Some.volume)) from c.give_volume.ensures.given)
          (λ n low. c.give_volume.ensures.below n (omega (arith, low, from)))
          (λ n low. c.give_volume.ensures.others n (omega (arith, low, from, last)));
      few =
          (let less = ap (λ (l : List (Volume g.row.H-Disk.Denot g.row.H-Disk-Piece.Denot)). length l) items
          ∙ length-append vs (c.in-Some.volume ∷ []) in let few = c.loop-volume.invariant.few in omega (arith, less, few));
      all = front;
      others = c.give_volume.ensures.lanes ∙ c.loop-volume.invariant.others;
      counted = c.give_volume.ensures.counted ∙ c.loop-volume.invariant.counted;
    }

pub returns-clause-given : goal.returns-clause-given
returns-clause-given g c =
    let none : c.loop-volume.volumes.items ≡ [] = nil_from_length c.loop-volume.volumes.items (let no = (c.in_default.ensures).cases in omega (arith, no.0, c.loop-volume.volumes.ok.0)) in
    from-all (IsGivenDisk g.H.Disk.Disk.Tells g.H.Disk.Disk.files g.H.Disk.Disk.drawn g.H.Disk.Disk.fault_count g.H.Disk.Disk.fuse_count) 1
    (flat_map volume_disks c.args.volumes.items) (flat_map volume_disks c.loop-volume.volumes.items) (g.H.Shelf.disks c.args.shelf.now) (g.H.Shelf.disks c.loop-volume.shelf)
    (ap (λ (l : List (Volume g.row.H-Disk.Denot g.row.H-Disk-Piece.Denot)). flat_map volume_disks l) none) c.loop-volume.invariant.gives

pub returns-clause-below : goal.returns-clause-below
returns-clause-below g c = c.loop-volume.invariant.gives.below 0 (omega arith)

pub returns-clause-others : goal.returns-clause-others
returns-clause-others g c = λ n low. c.loop-volume.invariant.gives.above n (let long = flat-long volume_disks c.args.replicas c.args.volumes.items c.requires.all in omega (arith, low, long))

pub overflow_cast-len : goal.overflow_cast-len
overflow_cast-len g c =
    let vs = c.pop.new.self.items in
    let count : c.len.result ≡ length vs = c.len.ensures ∙ c.pop.new.self.ok.0 in
    let long : length c.loop-volume.volumes.items ≡ length vs + 1 =
    ap (λ (l : List (Volume g.row.H-Disk.Denot g.row.H-Disk-Piece.Denot)). length l) (c.in-Some.ensures).items ∙ length-append vs (c.in-Some.volume ∷ []) in
    let low : c.len.result + 1 ≤ MAX_VOLUMES = omega (arith, count, long, c.loop-volume.invariant.few) in
    let product : c.len.result * c.args.replicas ≤ c.len.result * 4 = mul-le-mul_left c.len.result c.requires.most in
    omega (arith, low, product)

pub overflow_mul-len : goal.overflow_mul-len
overflow_mul-len g c =
    let vs = c.pop.new.self.items in
    let count : c.len.result ≡ length vs = c.len.ensures ∙ c.pop.new.self.ok.0 in
    let long : length c.loop-volume.volumes.items ≡ length vs + 1 =
    ap (λ (l : List (Volume g.row.H-Disk.Denot g.row.H-Disk-Piece.Denot)). length l) (c.in-Some.ensures).items ∙ length-append vs (c.in-Some.volume ∷ []) in
    let low : c.len.result + 1 ≤ MAX_VOLUMES = omega (arith, count, long, c.loop-volume.invariant.few) in
    let product : c.len.result * c.args.replicas ≤ c.len.result * 4 = mul-le-mul_left c.len.result c.requires.most in
    omega (arith, low, product)

pub overflow_add-len : goal.overflow_add-len
overflow_add-len g c =
    let vs = c.pop.new.self.items in
    let count : c.len.result ≡ length vs = c.len.ensures ∙ c.pop.new.self.ok.0 in
    let long : length c.loop-volume.volumes.items ≡ length vs + 1 =
    ap (λ (l : List (Volume g.row.H-Disk.Denot g.row.H-Disk-Piece.Denot)). length l) (c.in-Some.ensures).items ∙ length-append vs (c.in-Some.volume ∷ []) in
    let low : c.len.result + 1 ≤ MAX_VOLUMES = omega (arith, count, long, c.loop-volume.invariant.few) in
    let product : c.len.result * c.args.replicas ≤ c.len.result * 4 = mul-le-mul_left c.len.result c.requires.most in
    omega (arith, low, product)

pub give_volume-requires : goal.give_volume-requires
give_volume-requires g c =
    let vs = c.pop.new.self.items in
    let count : c.len.result ≡ length vs = c.len.ensures ∙ c.pop.new.self.ok.0 in
    let long : length c.loop-volume.volumes.items ≡ length vs + 1 =
    ap (λ (l : List (Volume g.row.H-Disk.Denot g.row.H-Disk-Piece.Denot)). length l) (c.in-Some.ensures).items ∙ length-append vs (c.in-Some.volume ∷ []) in
    let low : c.len.result + 1 ≤ MAX_VOLUMES = omega (arith, count, long, c.loop-volume.invariant.few) in
    let product : c.len.result * c.args.replicas ≤ c.len.result * 4 = mul-le-mul_left c.len.result c.requires.most in
    let gives = c.loop-volume.invariant.gives in
    let shorter =
    rest_shorter (IsGivenDisk g.H.Disk.Disk.Tells g.H.Disk.Disk.files g.H.Disk.Disk.drawn g.H.Disk.Disk.fault_count g.H.Disk.Disk.fuse_count) 1
    (flat_map volume_disks c.args.volumes.items) (flat_map volume_disks c.loop-volume.volumes.items) (g.H.Shelf.disks c.args.shelf.now) (g.H.Shelf.disks c.loop-volume.shelf) gives in
    let all = flat-long volume_disks c.args.replicas c.args.volumes.items c.requires.all in
    let rest = flat-long volume_disks c.args.replicas c.loop-volume.volumes.items c.loop-volume.invariant.all in
    let more : length c.loop-volume.volumes.items * c.args.replicas ≡ c.len.result * c.args.replicas + c.args.replicas =
    (let e = ap (λ n. n * c.args.replicas) long in let d = ap (λ n. n * c.args.replicas) count in omega (arith, e, d)) in
    let each : AllByRecursion (λ (v : Volume g.row.H-Disk.Denot g.row.H-Disk-Piece.Denot). length (volume_disks v) ≡ c.args.replicas) (vs ++ c.in-Some.volume ∷ []) =
    subst (λ (l : List (Volume g.row.H-Disk.Denot g.row.H-Disk-Piece.Denot)). AllByRecursion
    (λ (v : Volume g.row.H-Disk.Denot g.row.H-Disk-Piece.Denot). length (volume_disks v) ≡ c.args.replicas) l) (c.in-Some.ensures).items c.loop-volume.invariant.all in
    record {
      few = let most = c.requires.most in omega (arith, low, product, most);
      all = sym (disks-long c.in-Some.volume.replicas) ∙ all-last (λ (v : Volume g.row.H-Disk.Denot g.row.H-Disk-Piece.Denot). length (volume_disks v) ≡ c.args.replicas) vs c.in-Some.volume each;
      out = λ n below. ap (λ (held : HeldDisk). held.is_out) (gives.below n (omega (arith, below, rest, more))) ∙ c.requires.out n (omega (arith, below, rest, more, shorter, all));
    }
