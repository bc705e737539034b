use Rattle.std.proofs.Common.{◌≡◌, ◌+◌, ◌-◌, ◌<◌, ℕ, List, [], ◌∷◌, ◌++◌, length, map, refl, ap, subst, ◌∙◌, arith}
use Rattle.hay_disk.specs.Shelf.{HeldDisk}
use Rattle.hay_mount.specs.Mounts.{IsGivenDisk}
use Rattle.hay_physical.specs.OpenCopies.{Copy}
use Rattle.hay_cluster.specs.Store.{disk_of, volume_disks}
use Rattle.hay_cluster.proofs.ClosingSlots.{disks-long, from-all, from-more, from-none, one_longer, rest_shorter, take_split}
use Rattle.hay_cluster.proofs.closing.give_volume.Goals as goal

pub loop-disk-init : goal.loop-disk-init
loop-disk-init g c = record {
  gives =
      from-none (IsGivenDisk g.H.Disk.Disk.Tells g.H.Disk.Disk.files g.H.Disk.Disk.drawn g.H.Disk.Disk.fault_count g.H.Disk.Disk.fuse_count) c.args.first
      (volume_disks c.args.volume) (g.H.Shelf.disks c.args.shelf.now);
  slot = let long = disks-long c.args.volume.replicas in omega (arith, long, c.requires.all);
  others = refl;
  counted = refl;
}

pub loop-disk-preserved : goal.loop-disk-preserved
loop-disk-preserved g c =
    let P = (IsGivenDisk g.H.Disk.Disk.Tells g.H.Disk.Disk.files g.H.Disk.Disk.drawn g.H.Disk.Disk.fault_count g.H.Disk.Disk.fuse_count) in
    let taken = c.in-Some.ensures.disk in
    let rest = volume_disks c.loop-disk.volume in
    let rest' = volume_disks c.take.new.self in
    let split : rest ≡ rest' ++ c.in-Some.disk ∷ [] = take_split c.loop-disk.volume.replicas c.take.new.self.replicas taken.0 c.in-Some.disk taken.1 taken.2 in
    let long : length rest ≡ length rest' + 1 = one_longer rest rest' c.in-Some.disk split in
    let slot : c.loop-disk.slot - 1 ≡ c.args.first + length rest' = omega (arith, c.loop-disk.invariant.slot, long) in
    let new = g.H.Shelf.disks c.give_disk.new.self in
    let given : P (new (c.loop-disk.slot - 1)) c.in-Some.disk = record {
      drawn_is = c.give_disk.ensures.drawn;
      files_are = c.give_disk.ensures.files;
      fault_count = c.give_disk.ensures.faults;
      fuse_count = c.give_disk.ensures.fuses;
      back = c.give_disk.ensures.back;
    } in
    record {
      gives =
          from-more P c.args.first (volume_disks c.args.volume) rest rest' (c.in-Some.disk ∷ []) (g.H.Shelf.disks c.args.shelf.now) (g.H.Shelf.disks c.loop-disk.shelf) new split
          c.loop-disk.invariant.gives
          ((let Q : ℕ → Type 0 = λ n. P (new n) c.in-Some.disk in subst Q slot given), tt)
          (λ n low. c.give_disk.ensures.others n (λ same. absurd (omega (arith, low, slot, same))))
          (λ n low. c.give_disk.ensures.others n (λ same. absurd (omega (arith, low, slot, same))));
      slot = slot;
      others = c.give_disk.ensures.lanes ∙ c.loop-disk.invariant.others;
      counted = c.give_disk.ensures.counted ∙ c.loop-disk.invariant.counted;
    }

pub loop-disk-smaller : goal.loop-disk-smaller
loop-disk-smaller g c =
    let taken = c.in-Some.ensures.disk in
    let long : length (volume_disks c.loop-disk.volume) ≡ length (volume_disks c.take.new.self) + 1 =
    one_longer (volume_disks c.loop-disk.volume) (volume_disks c.take.new.self) c.in-Some.disk
    (take_split c.loop-disk.volume.replicas c.take.new.self.replicas taken.0 c.in-Some.disk taken.1 taken.2) in
    let less : length (volume_disks c.take.new.self) < length (volume_disks c.loop-disk.volume) = omega (arith, long) in
    less

pub returns-clause-given : goal.returns-clause-given
returns-clause-given g c =
    from-all (IsGivenDisk g.H.Disk.Disk.Tells g.H.Disk.Disk.files g.H.Disk.Disk.drawn g.H.Disk.Disk.fault_count g.H.Disk.Disk.fuse_count) c.args.first (volume_disks c.args.volume)
    (volume_disks c.loop-disk.volume) (g.H.Shelf.disks c.args.shelf.now) (g.H.Shelf.disks c.loop-disk.shelf)
    (ap (λ (l : List (Copy g.row.H-Disk.Denot)). map disk_of l) (c.in_default.ensures).none) c.loop-disk.invariant.gives

pub returns-clause-below : goal.returns-clause-below
returns-clause-below g c = λ n low. c.loop-disk.invariant.gives.below n (omega (arith, low))

pub returns-clause-others : goal.returns-clause-others
returns-clause-others g c = λ n low. c.loop-disk.invariant.gives.above n (let long = disks-long c.args.volume.replicas in omega (arith, low, long, c.requires.all))

pub give_disk-requires : goal.give_disk-requires
give_disk-requires g c =
    let gives = c.loop-disk.invariant.gives in
    let taken = c.in-Some.ensures.disk in
    let long : length (volume_disks c.loop-disk.volume) ≡ length (volume_disks c.take.new.self) + 1 =
    one_longer (volume_disks c.loop-disk.volume) (volume_disks c.take.new.self) c.in-Some.disk
    (take_split c.loop-disk.volume.replicas c.take.new.self.replicas taken.0 c.in-Some.disk taken.1 taken.2) in
    let shorter =
    rest_shorter (IsGivenDisk g.H.Disk.Disk.Tells g.H.Disk.Disk.files g.H.Disk.Disk.drawn g.H.Disk.Disk.fault_count g.H.Disk.Disk.fuse_count) c.args.first
    (volume_disks c.args.volume) (volume_disks c.loop-disk.volume) (g.H.Shelf.disks c.args.shelf.now) (g.H.Shelf.disks c.loop-disk.shelf) gives in
    let all = disks-long c.args.volume.replicas in
    ap (λ (held : HeldDisk). held.is_out) (gives.below (c.loop-disk.slot - 1) (omega (arith, c.loop-disk.invariant.slot, long)))
    ∙ c.requires.out (c.loop-disk.slot - 1) (omega (arith, c.loop-disk.invariant.slot, long, shorter, all, c.requires.all))

pub overflow_sub-slot : goal.overflow_sub-slot
overflow_sub-slot g c =
    let taken = c.in-Some.ensures.disk in
    let long : length (volume_disks c.loop-disk.volume) ≡ length (volume_disks c.take.new.self) + 1 =
    one_longer (volume_disks c.loop-disk.volume) (volume_disks c.take.new.self) c.in-Some.disk
    (take_split c.loop-disk.volume.replicas c.take.new.self.replicas taken.0 c.in-Some.disk taken.1 taken.2) in
    omega (arith, c.loop-disk.invariant.slot, long)
