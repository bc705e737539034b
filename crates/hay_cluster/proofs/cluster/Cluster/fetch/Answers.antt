use Rattle.std.proofs.Common.{◌≡◌, ◌+◌, ◌%◌, ◌<◌, ℕ, List, [], length, map, sym, ap, subst, ◌∙◌, inl, inr, arith}
use Rattle.std.specs.Prelude.{slice_index, IfSome}
use Rattle.hay_needle.specs.declared.settings.Settings.{Settings}
use Rattle.hay_legal.specs.Known.{NoneFalls, slot_of, volume_at}
use Rattle.hay_reader.specs.Causes.{ComeFirst}
use Rattle.hay_reader.specs.declared.seat.ReadReply.{ReadReply}
use Rattle.hay_cluster.specs.Causes.{StaySure}
use Rattle.hay_cluster.specs.Leaving.{AnySlot, KeepsIn}
use Rattle.hay_cluster.specs.Reads.{MayHave, NeverIn, PassesFrom, PassesTo, ReadPasses, IsSeenAt, IsSeenByAt, StopsUnseen, counts_of, outcomes_of}
use Rattle.hay_cluster.specs.Store.{Open, contents_in, disks_of}
use Rattle.hay_cluster.proofs.Answering.{same_falls}
use Rattle.hay_cluster.proofs.Leaving.{keeps-on, same_contents}
use Rattle.hay_cluster.proofs.Moves.{falls_trans}
use Rattle.hay_cluster.proofs.Showing.{arm_goes_on, comes_on, found_bytes, found_passes, found_says, never_on, passes_on, read_on, says_on, sight_goes_on, stops_further, stops_same}
use Rattle.hay_cluster.proofs.Sure.{arm_on, sure_trans}
use Rattle.hay_cluster.proofs.Sighting.{kept_looks, looks_further, photos_kept, same_photos}
use Rattle.hay_cluster.proofs.ReadSights.{found_sees, next_apart}
use Rattle.hay_cluster.proofs.Seeing.{keeps_on, keeps_same}
use Rattle.hay_logical.specs.Sights.{LooksAtPair}
use Rattle.hay_cluster.specs.Sights.{ChangesPhotos}
use Rattle.hay_cluster.specs.Seen.{Keeps, StoreSeen, store_seen}
use Rattle.hay_cluster.proofs.Needling.{contents_same, none_looked, told_further}
use Rattle.hay_cluster.specs.Passing.{IsOfPlace}
use Rattle.hay_cluster.specs.Needles.{AreToldAs}
use Rattle.hay_legal.specs.Stands.{Contents}
use Rattle.std.specs.List.{AllByRecursion}
use Rattle.hay_cluster.proofs.cluster.Cluster.fetch.Goals as goal
use Rattle.hay_cluster.proofs.cluster.Cluster.fetch.Goals.{else-loop-test, then-loop-test+in_default}

pub loop-init : goal.loop-init
loop-init g c = record {
  says = λ tells k stands. let says = c.read_first-front.ensures.says tells k stands in (says.1, says.2);
  passes = c.read_first-front.ensures.passes;
  stops = stops_same c.args.self.now c.read_first-front.new.self c.args.volume c.args.pair _ c.read_first-front.ensures.volumes c.read_first-front.ensures.stops;
  tries = λ j causes is. omega arith;
  bytes = c.read_first-front.ensures.bytes;
  room = omega (arith, c.requires.room, c.read_first-front.ensures.room);
  sure_arms = c.read_first-front.ensures.sure_arms;
  counts = same_falls g.D.Disk.fault_count (disks_of c.args.self.now) (disks_of c.read_first-front.new.self) c.read_first-front.ensures.disks;
  fuses = ap (λ (ds : List g.row.D.Denot). map g.D.Disk.fuse_count ds) c.read_first-front.ensures.disks;
  contents = λ tells. same_contents g.D.Disk.files (c.args.self.now).settings c.args.self.now c.read_first-front.new.self c.read_first-front.ensures.disks;
  seen = keeps_same (store_seen c.args.self.now) (store_seen c.read_first-front.new.self) c.read_first-front.ensures.seen;
  looks =
      photos_kept c.args.volume (store_seen c.args.self.now) (store_seen c.read_first-front.new.self) (LooksAtPair c.args.pair) (kept_looks c.args.pair)
      (same_photos (store_seen c.args.self.now) (store_seen c.read_first-front.new.self) (ap (λ (seen : StoreSeen). seen.places) c.read_first-front.ensures.seen));
  told = λ tells.
      let store : Open g.row.D.Denot g.row.D-Piece.Denot g.row.A.Denot = record {
        settings = c.self.inside.settings;
        directory = c.self.inside.directory;
        volumes = c.self.inside.volumes.items;
        arms = c.self.inside.seats.items;
      } in
      let first = c.read_first-front.new.self in
      let places = (store_seen first).places c.args.volume in
      let within : c.args.volume < (first.settings).volumes = subst (λ (s : Settings). c.args.volume < s.volumes) (sym c.read_first-front.ensures.settings) c.requires.volume in
      let here = none_looked g.D.Disk.files first store c.self.view_is c.self.invariant c.args.volume c.args.pair within in
      subst (λ (seen : StoreSeen). AreToldAs (c.args.self.now).settings (contents_in g.D.Disk.files c.args.self.now) seen c.args.volume c.args.pair places) c.read_first-front.ensures.seen
      (subst (λ (contents : ℕ → Contents). AreToldAs (c.args.self.now).settings contents (store_seen first) c.args.volume c.args.pair places)
      (contents_same g.D.Disk.files c.args.self.now first c.read_first-front.ensures.disks)
      (subst (λ (s : Settings). AreToldAs s (contents_in g.D.Disk.files first) (store_seen first) c.args.volume c.args.pair places) c.read_first-front.ensures.settings here));
  sees = c.read_first-front.ensures.sees;
  arm_counts = c.read_first-front.ensures.arm_counts;
  settings = c.read_first-front.ensures.settings;
  up = c.read_first-front.ensures.up;
}

pub returns-in_default-see_or_pass-clause-says : goal.returns-in_default-see_or_pass-clause-says
returns-in_default-see_or_pass-clause-says g c = λ tells k stands.
    let came = (c.loop.invariant.says tells k stands).1 in (
      (c.read_first-front.ensures.says tells k stands).0,
      tt,
      comes_on g.D.Disk.files g.D.Piece.Piece.Tells g.D.Disk.fault_count g.D.Disk.fuse_count g.A.Arm.fault_count c.loop.self
          c.see_or_pass.new.self k came (c.see_or_pass.ensures.stands tells came.known came.stands),
    )

pub returns-in_default-see_or_pass-clause-counts : goal.returns-in_default-see_or_pass-clause-counts
returns-in_default-see_or_pass-clause-counts g c =
    falls_trans (map g.D.Disk.fault_count (disks_of c.args.self.now)) (map g.D.Disk.fault_count (disks_of c.loop.self)) (map g.D.Disk.fault_count (disks_of c.see_or_pass.new.self))
    c.loop.invariant.counts c.see_or_pass.ensures.counts

pub read_more-read-requires-clause-first : goal.read_more-read-requires-clause-first
read_more-read-requires-clause-first g c =
    let inv = c.loop.invariant in
    let stop : PassesTo (NeverIn g.D.Disk.Tells g.D.Disk.files g.D.Piece.Piece.Tells g.D.Disk.fault_count g.D.Disk.fuse_count g.A.Arm.fault_count g.A.Arm.is_sure c.args.self.now
    c.args.lane) (c.args.self.now).settings c.args.lane c.args.volume c.args.start (counts_of g.D.Disk.fault_count g.A.Arm.fault_count c.args.self.now)
    (counts_of g.D.Disk.fault_count g.A.Arm.fault_count c.loop.self) (IsOfPlace g.D.Disk.Tells (c.args.self.now).settings (contents_in g.D.Disk.files c.loop.self)
    (store_seen c.loop.self) c.args.volume c.args.pair) [] c.in-Unseen.causes c.in-Unseen.replica =
    subst (λ (r : ReadReply). ReadPasses (NeverIn g.D.Disk.Tells g.D.Disk.files g.D.Piece.Piece.Tells g.D.Disk.fault_count g.D.Disk.fuse_count g.A.Arm.fault_count g.A.Arm.is_sure
    c.args.self.now c.args.lane) (c.args.self.now).settings c.args.lane c.args.volume c.args.start (counts_of g.D.Disk.fault_count g.A.Arm.fault_count c.args.self.now)
    (counts_of g.D.Disk.fault_count g.A.Arm.fault_count c.loop.self) (IsOfPlace g.D.Disk.Tells (c.args.self.now).settings (contents_in g.D.Disk.files c.loop.self)
    (store_seen c.loop.self) c.args.volume c.args.pair) [] r) c.in-Unseen.is inv.passes in
    let order : ComeFirst c.args.start (c.loop.self.settings).replicas c.in-Unseen.causes =
    subst (λ (s : Settings). ComeFirst c.args.start s.replicas c.in-Unseen.causes) (sym inv.settings) stop.passes.order in
    let next : c.in-Unseen.replica ≡ (c.args.start + length c.in-Unseen.causes) % (c.loop.self.settings).replicas =
    stop.next ∙ ap (λ (s : Settings). (c.args.start + length c.in-Unseen.causes) % s.replicas) (sym inv.settings) in
    let sight = c.in-Ok.ensures.passes c.args.lane c.args.start order next in
    subst (λ (s : Settings). ComeFirst c.args.start s.replicas c.in-Ok.passed) (sym c.see_or_pass.ensures.settings) sight.order

pub read_more-read-requires-clause-fewer : goal.read_more-read-requires-clause-fewer
read_more-read-requires-clause-fewer g c =
    let inv = c.loop.invariant in
    let stop : PassesTo (NeverIn g.D.Disk.Tells g.D.Disk.files g.D.Piece.Piece.Tells g.D.Disk.fault_count g.D.Disk.fuse_count g.A.Arm.fault_count g.A.Arm.is_sure c.args.self.now
    c.args.lane) (c.args.self.now).settings c.args.lane c.args.volume c.args.start (counts_of g.D.Disk.fault_count g.A.Arm.fault_count c.args.self.now)
    (counts_of g.D.Disk.fault_count g.A.Arm.fault_count c.loop.self) (IsOfPlace g.D.Disk.Tells (c.args.self.now).settings (contents_in g.D.Disk.files c.loop.self)
    (store_seen c.loop.self) c.args.volume c.args.pair) [] c.in-Unseen.causes c.in-Unseen.replica =
    subst (λ (r : ReadReply). ReadPasses (NeverIn g.D.Disk.Tells g.D.Disk.files g.D.Piece.Piece.Tells g.D.Disk.fault_count g.D.Disk.fuse_count g.A.Arm.fault_count g.A.Arm.is_sure
    c.args.self.now c.args.lane) (c.args.self.now).settings c.args.lane c.args.volume c.args.start (counts_of g.D.Disk.fault_count g.A.Arm.fault_count c.args.self.now)
    (counts_of g.D.Disk.fault_count g.A.Arm.fault_count c.loop.self) (IsOfPlace g.D.Disk.Tells (c.args.self.now).settings (contents_in g.D.Disk.files c.loop.self)
    (store_seen c.loop.self) c.args.volume c.args.pair) [] r) c.in-Unseen.is inv.passes in
    let order : ComeFirst c.args.start (c.loop.self.settings).replicas c.in-Unseen.causes =
    subst (λ (s : Settings). ComeFirst c.args.start s.replicas c.in-Unseen.causes) (sym inv.settings) stop.passes.order in
    let next : c.in-Unseen.replica ≡ (c.args.start + length c.in-Unseen.causes) % (c.loop.self.settings).replicas =
    stop.next ∙ ap (λ (s : Settings). (c.args.start + length c.in-Unseen.causes) % s.replicas) (sym inv.settings) in
    let fewer = stop.fewer in
    let same = ap (λ (s : Settings). s.replicas) (c.see_or_pass.ensures.settings ∙ inv.settings) in
    elim c.in-Ok.ensures.on [ inl one ↦ omega (arith, one, fewer, same) | inr seen ↦ let long = seen.0 in omega (arith, long, fewer, same) ]

pub read_more-read-requires-clause-needle : goal.read_more-read-requires-clause-needle
read_more-read-requires-clause-needle g c = λ bytes is.
    let inv = c.loop.invariant in
    let stop : PassesTo (NeverIn g.D.Disk.Tells g.D.Disk.files g.D.Piece.Piece.Tells g.D.Disk.fault_count g.D.Disk.fuse_count g.A.Arm.fault_count g.A.Arm.is_sure c.args.self.now
    c.args.lane) (c.args.self.now).settings c.args.lane c.args.volume c.args.start (counts_of g.D.Disk.fault_count g.A.Arm.fault_count c.args.self.now)
    (counts_of g.D.Disk.fault_count g.A.Arm.fault_count c.loop.self) (IsOfPlace g.D.Disk.Tells (c.args.self.now).settings (contents_in g.D.Disk.files c.loop.self)
    (store_seen c.loop.self) c.args.volume c.args.pair) [] c.in-Unseen.causes c.in-Unseen.replica =
    subst (λ (r : ReadReply). ReadPasses (NeverIn g.D.Disk.Tells g.D.Disk.files g.D.Piece.Piece.Tells g.D.Disk.fault_count g.D.Disk.fuse_count g.A.Arm.fault_count g.A.Arm.is_sure
    c.args.self.now c.args.lane) (c.args.self.now).settings c.args.lane c.args.volume c.args.start (counts_of g.D.Disk.fault_count g.A.Arm.fault_count c.args.self.now)
    (counts_of g.D.Disk.fault_count g.A.Arm.fault_count c.loop.self) (IsOfPlace g.D.Disk.Tells (c.args.self.now).settings (contents_in g.D.Disk.files c.loop.self)
    (store_seen c.loop.self) c.args.volume c.args.pair) [] r) c.in-Unseen.is inv.passes in
    let unseen : IsSeenAt c.loop.self c.args.volume c.args.pair c.in-Unseen.replica → ⊥ = subst (λ (r : ReadReply). StopsUnseen c.loop.self c.args.volume c.args.pair r) c.in-Unseen.is inv.stops in
    let seen =
    subst (λ o. IfSome o (λ needle. (c.in-Ok.passed ≡ c.in-Unseen.causes) × IsSeenByAt g.D.Disk.Tells g.D.Piece.Piece.Tells c.see_or_pass.new.self c.args.volume c.args.pair
    c.in-Unseen.replica needle.items)) is (c.in-Ok.ensures.needle unseen) in
    let replicas : ((c.see_or_pass.new.self).settings).replicas ≡ ((c.args.self.now).settings).replicas = ap (λ (s : Settings). s.replicas) (c.see_or_pass.ensures.settings ∙ inv.settings) in
    let long : length c.in-Ok.passed ≡ length c.in-Unseen.causes = ap length seen.0 in
    let fewer = stop.fewer in
    let next : c.in-Unseen.replica ≡ (c.args.start + length c.in-Ok.passed) % ((c.see_or_pass.new.self).settings).replicas =
    stop.next ∙ ap (λ (n : ℕ). (c.args.start + n) % ((c.args.self.now).settings).replicas) (sym long) ∙ ap (λ (n : ℕ). (c.args.start + length c.in-Ok.passed) % n) (sym replicas) in
    (omega (arith, fewer, long, replicas), subst (λ (j : ℕ). IsSeenByAt g.D.Disk.Tells g.D.Piece.Piece.Tells c.see_or_pass.new.self c.args.volume c.args.pair j bytes.items) next seen.1)

pub loop-preserved : goal.loop-preserved
loop-preserved g c =
    let inv = c.loop.invariant in
    let stop : PassesTo (NeverIn g.D.Disk.Tells g.D.Disk.files g.D.Piece.Piece.Tells g.D.Disk.fault_count g.D.Disk.fuse_count g.A.Arm.fault_count g.A.Arm.is_sure c.args.self.now
    c.args.lane) (c.args.self.now).settings c.args.lane c.args.volume c.args.start (counts_of g.D.Disk.fault_count g.A.Arm.fault_count c.args.self.now)
    (counts_of g.D.Disk.fault_count g.A.Arm.fault_count c.loop.self) (IsOfPlace g.D.Disk.Tells (c.args.self.now).settings (contents_in g.D.Disk.files c.loop.self)
    (store_seen c.loop.self) c.args.volume c.args.pair) [] c.in-Unseen.causes c.in-Unseen.replica =
    subst (λ (r : ReadReply). ReadPasses (NeverIn g.D.Disk.Tells g.D.Disk.files g.D.Piece.Piece.Tells g.D.Disk.fault_count g.D.Disk.fuse_count g.A.Arm.fault_count g.A.Arm.is_sure
    c.args.self.now c.args.lane) (c.args.self.now).settings c.args.lane c.args.volume c.args.start (counts_of g.D.Disk.fault_count g.A.Arm.fault_count c.args.self.now)
    (counts_of g.D.Disk.fault_count g.A.Arm.fault_count c.loop.self) (IsOfPlace g.D.Disk.Tells (c.args.self.now).settings (contents_in g.D.Disk.files c.loop.self)
    (store_seen c.loop.self) c.args.volume c.args.pair) [] r) c.in-Unseen.is inv.passes in
    let order : ComeFirst c.args.start (c.loop.self.settings).replicas c.in-Unseen.causes =
    subst (λ (s : Settings). ComeFirst c.args.start s.replicas c.in-Unseen.causes) (sym inv.settings) stop.passes.order in
    let next : c.in-Unseen.replica ≡ (c.args.start + length c.in-Unseen.causes) % (c.loop.self.settings).replicas =
    stop.next ∙ ap (λ (s : Settings). (c.args.start + length c.in-Unseen.causes) % s.replicas) (sym inv.settings) in
    let sight = c.in-Ok.ensures.passes c.args.lane c.args.start order next in
    let here =
    subst (λ (s : Settings). PassesFrom (NeverIn g.D.Disk.Tells g.D.Disk.files g.D.Piece.Piece.Tells g.D.Disk.fault_count g.D.Disk.fuse_count g.A.Arm.fault_count
    g.A.Arm.is_sure c.loop.self c.args.lane) s c.args.lane c.args.volume c.args.start (counts_of g.D.Disk.fault_count g.A.Arm.fault_count c.loop.self)
    (counts_of g.D.Disk.fault_count g.A.Arm.fault_count c.see_or_pass.new.self) c.in-Unseen.causes c.in-Ok.passed) inv.settings sight in
    let fewer = stop.fewer in
    let same : (c.see_or_pass.new.self).settings ≡ (c.args.self.now).settings = c.see_or_pass.ensures.settings ∙ inv.settings in
    let passed =
    passes_on (NeverIn g.D.Disk.Tells g.D.Disk.files g.D.Piece.Piece.Tells g.D.Disk.fault_count g.D.Disk.fuse_count g.A.Arm.fault_count g.A.Arm.is_sure c.args.self.now
    c.args.lane) (NeverIn g.D.Disk.Tells g.D.Disk.files g.D.Piece.Piece.Tells g.D.Disk.fault_count g.D.Disk.fuse_count g.A.Arm.fault_count g.A.Arm.is_sure c.loop.self
    c.args.lane) (c.args.self.now).settings c.args.lane c.args.volume c.args.start (counts_of g.D.Disk.fault_count g.A.Arm.fault_count c.args.self.now)
    (counts_of g.D.Disk.fault_count g.A.Arm.fault_count c.loop.self) (counts_of g.D.Disk.fault_count g.A.Arm.fault_count c.see_or_pass.new.self) [] c.in-Unseen.causes c.in-Ok.passed
    (never_on g.D.Disk.Tells g.D.Disk.files g.D.Piece.Piece.Tells g.D.Disk.fault_count g.D.Disk.fuse_count g.A.Arm.fault_count g.A.Arm.is_sure c.args.self.now c.loop.self c.args.lane
    (arm_on g.A.Arm.is_sure g.A.Arm.fault_count (c.args.self.now).arms (c.loop.self).arms c.args.lane inv.sure_arms)
    (λ w. let came = (inv.says w.0 w.1 w.2).1 in (w.0, came.known, came.stands)))
    (sight_goes_on (c.args.self.now).settings c.args.lane c.args.volume c.args.start (counts_of g.D.Disk.fault_count g.A.Arm.fault_count c.args.self.now)
    (counts_of g.D.Disk.fault_count g.A.Arm.fault_count c.loop.self) (counts_of g.D.Disk.fault_count g.A.Arm.fault_count c.see_or_pass.new.self) c.in-Unseen.causes
    c.in-Unseen.replica inv.arm_counts
    (ap (λ (xs : List g.row.A.Denot). map g.A.Arm.fault_count xs) c.see_or_pass.ensures.arms) inv.counts stop.passes.order fewer stop.next
    (subst (λ (s : Settings). (j : ℕ) → j < s.replicas → (j ≡ c.in-Unseen.replica → ⊥)
    → slice_index (map g.D.Disk.fault_count (disks_of c.see_or_pass.new.self)) (slot_of s c.args.volume j)
    ≡ slice_index (map g.D.Disk.fault_count (disks_of c.loop.self)) (slot_of s c.args.volume j)) inv.settings c.see_or_pass.ensures.others))
    stop.passes here in
    let reads =
    subst (λ (s : Settings). ReadPasses (NeverIn g.D.Disk.Tells g.D.Disk.files g.D.Piece.Piece.Tells g.D.Disk.fault_count g.D.Disk.fuse_count g.A.Arm.fault_count
    g.A.Arm.is_sure c.see_or_pass.new.self c.args.lane) s c.args.lane c.args.volume c.args.start (counts_of g.D.Disk.fault_count g.A.Arm.fault_count c.see_or_pass.new.self)
    (counts_of g.D.Disk.fault_count g.A.Arm.fault_count c.read_more-read.new.self) (IsOfPlace g.D.Disk.Tells s (contents_in g.D.Disk.files c.read_more-read.new.self)
    (store_seen c.read_more-read.new.self) c.args.volume c.args.pair) c.in-Ok.passed c.read_more-read.result) same c.read_more-read.ensures.passes in
    let falls =
    falls_trans (map g.D.Disk.fault_count (disks_of c.args.self.now)) (map g.D.Disk.fault_count (disks_of c.loop.self))
    (map g.D.Disk.fault_count (disks_of c.see_or_pass.new.self)) inv.counts c.see_or_pass.ensures.counts in
    let arms : NoneFalls (map g.A.Arm.fault_count (c.args.self.now).arms) (map g.A.Arm.fault_count (c.see_or_pass.new.self).arms) =
    subst (λ (xs : List g.row.A.Denot). NoneFalls (map g.A.Arm.fault_count (c.args.self.now).arms) (map g.A.Arm.fault_count xs)) (sym c.see_or_pass.ensures.arms) inv.arm_counts in
    let sure_arms : StaySure g.A.Arm.is_sure g.A.Arm.fault_count (c.args.self.now).arms (c.see_or_pass.new.self).arms =
    subst (λ (xs : List g.row.A.Denot). StaySure g.A.Arm.is_sure g.A.Arm.fault_count (c.args.self.now).arms xs) (sym c.see_or_pass.ensures.arms) inv.sure_arms in
    record {
      says = λ tells k stands.
          let first = (inv.says tells k stands).1 in
          let came =
          comes_on g.D.Disk.files g.D.Piece.Piece.Tells g.D.Disk.fault_count g.D.Disk.fuse_count g.A.Arm.fault_count c.loop.self c.see_or_pass.new.self k first
          (c.see_or_pass.ensures.stands tells first.known first.stands) in
          let says = c.read_more-read.ensures.says tells came.known came.stands in (
            says_on (c.args.self.now).settings (c.see_or_pass.new.self).settings k came.known c.args.volume c.args.pair c.args.cookie _ c.read_more-read.result same
                (came.leaves).volumes says.0,
            comes_on g.D.Disk.files g.D.Piece.Piece.Tells g.D.Disk.fault_count g.D.Disk.fuse_count g.A.Arm.fault_count c.see_or_pass.new.self
                c.read_more-read.new.self k came says.1,
          );
      passes =
          read_on (NeverIn g.D.Disk.Tells g.D.Disk.files g.D.Piece.Piece.Tells g.D.Disk.fault_count g.D.Disk.fuse_count g.A.Arm.fault_count g.A.Arm.is_sure c.args.self.now
          c.args.lane) (NeverIn g.D.Disk.Tells g.D.Disk.files g.D.Piece.Piece.Tells g.D.Disk.fault_count g.D.Disk.fuse_count g.A.Arm.fault_count g.A.Arm.is_sure
          c.see_or_pass.new.self c.args.lane) (c.args.self.now).settings c.args.lane c.args.volume c.args.start (counts_of g.D.Disk.fault_count g.A.Arm.fault_count c.args.self.now)
          (counts_of g.D.Disk.fault_count g.A.Arm.fault_count c.see_or_pass.new.self) (counts_of g.D.Disk.fault_count g.A.Arm.fault_count c.read_more-read.new.self)
          (IsOfPlace g.D.Disk.Tells (c.args.self.now).settings (contents_in g.D.Disk.files c.read_more-read.new.self) (store_seen c.read_more-read.new.self) c.args.volume
          c.args.pair) [] c.in-Ok.passed c.read_more-read.result
          (never_on g.D.Disk.Tells g.D.Disk.files g.D.Piece.Piece.Tells g.D.Disk.fault_count g.D.Disk.fuse_count g.A.Arm.fault_count g.A.Arm.is_sure c.args.self.now c.see_or_pass.new.self c.args.lane
          (arm_on g.A.Arm.is_sure g.A.Arm.fault_count (c.args.self.now).arms (c.see_or_pass.new.self).arms c.args.lane sure_arms)
          (λ w.
          let first = (inv.says w.0 w.1 w.2).1 in
          let came = c.see_or_pass.ensures.stands w.0 first.known first.stands in
          (w.0, came.known, came.stands)))
          (arm_goes_on (c.args.self.now).settings c.args.lane c.args.volume (counts_of g.D.Disk.fault_count g.A.Arm.fault_count c.args.self.now)
          (counts_of g.D.Disk.fault_count g.A.Arm.fault_count c.see_or_pass.new.self) (counts_of g.D.Disk.fault_count g.A.Arm.fault_count c.read_more-read.new.self)
          c.in-Ok.passed arms c.read_more-read.ensures.arm_counts falls c.read_more-read.ensures.most
          (ap (λ (ds : List g.row.D.Denot). map g.D.Disk.fault_count ds) c.read_more-read.ensures.disks))
          passed reads;
      stops = stops_same c.see_or_pass.new.self c.read_more-read.new.self c.args.volume c.args.pair c.read_more-read.result c.read_more-read.ensures.volumes c.read_more-read.ensures.stops;
      tries = λ j more is.
          let longer =
          stops_further (NeverIn g.D.Disk.Tells g.D.Disk.files g.D.Piece.Piece.Tells g.D.Disk.fault_count g.D.Disk.fuse_count g.A.Arm.fault_count g.A.Arm.is_sure
          c.see_or_pass.new.self c.args.lane) (c.args.self.now).settings c.args.lane c.args.volume c.args.start
          (counts_of g.D.Disk.fault_count g.A.Arm.fault_count c.see_or_pass.new.self) (counts_of g.D.Disk.fault_count g.A.Arm.fault_count c.read_more-read.new.self)
          (IsOfPlace g.D.Disk.Tells (c.args.self.now).settings (contents_in g.D.Disk.files c.read_more-read.new.self) (store_seen c.read_more-read.new.self) c.args.volume
          c.args.pair) c.see_or_pass.new.self c.args.pair c.in-Unseen.replica c.in-Unseen.causes c.in-Ok.passed c.read_more-read.result j more stop.next c.in-Ok.ensures.on
          reads c.read_more-read.ensures.stops is in
          let so_far = inv.tries c.in-Unseen.replica c.in-Unseen.causes c.in-Unseen.is in
          omega (arith, longer, so_far);
      bytes = c.read_more-read.ensures.bytes;
      room = omega (arith, inv.room, c.read_more-read.ensures.room);
      sure_arms = sure_trans g.A.Arm.is_sure g.A.Arm.fault_count (c.args.self.now).arms (c.see_or_pass.new.self).arms (c.read_more-read.new.self).arms sure_arms c.read_more-read.ensures.sure_arms;
      counts = subst (λ (ds : List g.row.D.Denot). NoneFalls (map g.D.Disk.fault_count (disks_of c.args.self.now)) (map g.D.Disk.fault_count ds)) (sym c.read_more-read.ensures.disks) falls;
      fuses = ap (λ (ds : List g.row.D.Denot). map g.D.Disk.fuse_count ds) c.read_more-read.ensures.disks ∙ c.see_or_pass.ensures.fuses ∙ inv.fuses;
      contents = λ tells.
          keeps-on (c.args.self.now).settings AnySlot _ (contents_in g.D.Disk.files c.see_or_pass.new.self) _
          (keeps-on (c.args.self.now).settings AnySlot _ (contents_in g.D.Disk.files c.loop.self) _ (inv.contents tells)
          (subst (λ (s : Settings). KeepsIn s AnySlot (contents_in g.D.Disk.files c.loop.self) (contents_in g.D.Disk.files c.see_or_pass.new.self)) inv.settings
          (c.see_or_pass.ensures.contents tells)))
          (same_contents g.D.Disk.files (c.args.self.now).settings c.see_or_pass.new.self c.read_more-read.new.self c.read_more-read.ensures.disks);
      seen =
          subst (λ (seen : StoreSeen). Keeps (store_seen c.args.self.now) seen) (sym c.read_more-read.ensures.seen)
          (keeps_on (store_seen c.args.self.now) (store_seen c.loop.self) (store_seen c.see_or_pass.new.self) inv.seen c.see_or_pass.ensures.seen);
      looks = subst (λ (seen : StoreSeen). ChangesPhotos c.args.volume (LooksAtPair c.args.pair) (store_seen c.args.self.now) seen) (sym c.read_more-read.ensures.seen)
          (looks_further c.args.volume (store_seen c.args.self.now) (store_seen c.loop.self) (store_seen c.see_or_pass.new.self) c.args.pair inv.looks c.see_or_pass.ensures.looks);
      told =
          λ tells. subst (λ (seen : StoreSeen). AreToldAs (c.args.self.now).settings (contents_in g.D.Disk.files c.args.self.now) (store_seen c.args.self.now) c.args.volume
          c.args.pair (seen.places c.args.volume)) (sym c.read_more-read.ensures.seen)
          (told_further (c.args.self.now).settings (contents_in g.D.Disk.files c.args.self.now) (contents_in g.D.Disk.files c.loop.self) (store_seen c.args.self.now)
          (store_seen c.loop.self) (store_seen c.see_or_pass.new.self) c.args.volume c.args.pair c.requires.volume
          (inv.seen).volumes (inv.contents tells) inv.looks c.see_or_pass.ensures.looks (inv.told tells)
          (subst (λ (s : Settings). AreToldAs s (contents_in g.D.Disk.files c.loop.self) (store_seen c.loop.self) c.args.volume c.args.pair
          ((store_seen c.see_or_pass.new.self).places c.args.volume)) inv.settings (c.see_or_pass.ensures.told tells)));
      sees = c.read_more-read.ensures.sees;
      arm_counts =
          falls_trans (map g.A.Arm.fault_count (c.args.self.now).arms) (map g.A.Arm.fault_count (c.see_or_pass.new.self).arms)
          (map g.A.Arm.fault_count (c.read_more-read.new.self).arms) arms c.read_more-read.ensures.arm_counts;
      settings = c.read_more-read.ensures.settings ∙ same;
      up = c.read_more-read.ensures.up;
    }

pub found_of-requires : goal.found_of-requires
found_of-requires g c = λ replica causes is. elim c.loop-test.branch [
  | else-loop-test w ↦
      let inv = c.loop.invariant in
      let stop : PassesTo (NeverIn g.D.Disk.Tells g.D.Disk.files g.D.Piece.Piece.Tells g.D.Disk.fault_count g.D.Disk.fuse_count g.A.Arm.fault_count g.A.Arm.is_sure c.args.self.now
      c.args.lane) (c.args.self.now).settings c.args.lane c.args.volume c.args.start (counts_of g.D.Disk.fault_count g.A.Arm.fault_count c.args.self.now)
      (counts_of g.D.Disk.fault_count g.A.Arm.fault_count c.loop.self) (IsOfPlace g.D.Disk.Tells (c.args.self.now).settings (contents_in g.D.Disk.files c.loop.self)
      (store_seen c.loop.self) c.args.volume c.args.pair) [] causes replica =
      subst (λ (r : ReadReply). ReadPasses (NeverIn g.D.Disk.Tells g.D.Disk.files g.D.Piece.Piece.Tells g.D.Disk.fault_count g.D.Disk.fuse_count g.A.Arm.fault_count g.A.Arm.is_sure
      c.args.self.now c.args.lane) (c.args.self.now).settings c.args.lane c.args.volume c.args.start (counts_of g.D.Disk.fault_count g.A.Arm.fault_count c.args.self.now)
      (counts_of g.D.Disk.fault_count g.A.Arm.fault_count c.loop.self) (IsOfPlace g.D.Disk.Tells (c.args.self.now).settings (contents_in g.D.Disk.files c.loop.self)
      (store_seen c.loop.self) c.args.volume c.args.pair) [] r) is inv.passes in
      let fewer = stop.fewer in
      let so_far = inv.tries replica causes is in
      let same = ap (λ (st : Open g.row.D.Denot g.row.D-Piece.Denot g.row.A.Denot). (st.settings).replicas) c.self.view_is ∙ ap (λ (s : Settings). s.replicas) c.read_first-front.ensures.settings in
      let ended = w.loop-test.false in
      omega (arith, fewer, so_far, same, ended)
  | then-loop-test+in_default w ↦ w.in_default.not-Unseen replica causes is
]

pub returns-clause-says : goal.returns-clause-says
returns-clause-says g c = λ tells k stands.
    let says = c.loop.invariant.says tells k stands in (
      (c.read_first-front.ensures.says tells k stands).0,
      found_says c.args.cookie (outcomes_of (c.args.self.now).settings (volume_at k c.args.volume) c.args.pair) _ c.loop.read
          c.found_of.result c.found_of.ensures says.0,
      says.1,
    )

pub returns-clause-passes : goal.returns-clause-passes
returns-clause-passes g c =
    found_passes (NeverIn g.D.Disk.Tells g.D.Disk.files g.D.Piece.Piece.Tells g.D.Disk.fault_count g.D.Disk.fuse_count g.A.Arm.fault_count g.A.Arm.is_sure c.args.self.now
    c.args.lane) (c.args.self.now).settings c.args.lane c.args.volume c.args.start (counts_of g.D.Disk.fault_count g.A.Arm.fault_count c.args.self.now)
    (counts_of g.D.Disk.fault_count g.A.Arm.fault_count c.loop.self) (IsOfPlace g.D.Disk.Tells (c.args.self.now).settings (contents_in g.D.Disk.files c.loop.self)
    (store_seen c.loop.self) c.args.volume c.args.pair) c.loop.read c.found_of.result c.found_of.ensures c.loop.invariant.passes

pub returns-in_default-see_or_pass-clause-contents : goal.returns-in_default-see_or_pass-clause-contents
returns-in_default-see_or_pass-clause-contents g c = λ tells.
    keeps-on (c.args.self.now).settings AnySlot _ (contents_in g.D.Disk.files c.loop.self) _ (c.loop.invariant.contents tells)
    (subst (λ (s : Settings). KeepsIn s AnySlot (contents_in g.D.Disk.files c.loop.self) (contents_in g.D.Disk.files c.see_or_pass.new.self)) c.loop.invariant.settings
    (c.see_or_pass.ensures.contents tells))

pub see_or_pass-requires-clause-apart : goal.see_or_pass-requires-clause-apart
see_or_pass-requires-clause-apart g c =
    let stop : PassesTo (NeverIn g.D.Disk.Tells g.D.Disk.files g.D.Piece.Piece.Tells g.D.Disk.fault_count g.D.Disk.fuse_count g.A.Arm.fault_count g.A.Arm.is_sure c.args.self.now
    c.args.lane) (c.args.self.now).settings c.args.lane c.args.volume c.args.start (counts_of g.D.Disk.fault_count g.A.Arm.fault_count c.args.self.now)
    (counts_of g.D.Disk.fault_count g.A.Arm.fault_count c.loop.self) (IsOfPlace g.D.Disk.Tells (c.args.self.now).settings (contents_in g.D.Disk.files c.loop.self)
    (store_seen c.loop.self) c.args.volume c.args.pair) [] c.in-Unseen.causes c.in-Unseen.replica =
    subst (λ (r : ReadReply). ReadPasses (NeverIn g.D.Disk.Tells g.D.Disk.files g.D.Piece.Piece.Tells g.D.Disk.fault_count g.D.Disk.fuse_count g.A.Arm.fault_count g.A.Arm.is_sure
    c.args.self.now c.args.lane) (c.args.self.now).settings c.args.lane c.args.volume c.args.start (counts_of g.D.Disk.fault_count g.A.Arm.fault_count c.args.self.now)
    (counts_of g.D.Disk.fault_count g.A.Arm.fault_count c.loop.self) (IsOfPlace g.D.Disk.Tells (c.args.self.now).settings (contents_in g.D.Disk.files c.loop.self)
    (store_seen c.loop.self) c.args.volume c.args.pair) [] r) c.in-Unseen.is c.loop.invariant.passes in
    subst (λ (s : Settings). AllByRecursion (λ over. (over.replica < s.replicas) × (over.replica ≡ c.in-Unseen.replica → ⊥)) c.in-Unseen.causes) (sym c.loop.invariant.settings)
    (next_apart (c.args.self.now).settings c.args.start c.in-Unseen.causes c.in-Unseen.replica stop.passes.order stop.fewer stop.next)

pub see_or_pass-requires-clause-may_stand : goal.see_or_pass-requires-clause-may_stand
see_or_pass-requires-clause-may_stand g c =
    let stop : PassesTo (NeverIn g.D.Disk.Tells g.D.Disk.files g.D.Piece.Piece.Tells g.D.Disk.fault_count g.D.Disk.fuse_count g.A.Arm.fault_count g.A.Arm.is_sure c.args.self.now
    c.args.lane) (c.args.self.now).settings c.args.lane c.args.volume c.args.start (counts_of g.D.Disk.fault_count g.A.Arm.fault_count c.args.self.now)
    (counts_of g.D.Disk.fault_count g.A.Arm.fault_count c.loop.self) (IsOfPlace g.D.Disk.Tells (c.args.self.now).settings (contents_in g.D.Disk.files c.loop.self)
    (store_seen c.loop.self) c.args.volume c.args.pair) [] c.in-Unseen.causes c.in-Unseen.replica =
    subst (λ (r : ReadReply). ReadPasses (NeverIn g.D.Disk.Tells g.D.Disk.files g.D.Piece.Piece.Tells g.D.Disk.fault_count g.D.Disk.fuse_count g.A.Arm.fault_count g.A.Arm.is_sure
    c.args.self.now c.args.lane) (c.args.self.now).settings c.args.lane c.args.volume c.args.start (counts_of g.D.Disk.fault_count g.A.Arm.fault_count c.args.self.now)
    (counts_of g.D.Disk.fault_count g.A.Arm.fault_count c.loop.self) (IsOfPlace g.D.Disk.Tells (c.args.self.now).settings (contents_in g.D.Disk.files c.loop.self)
    (store_seen c.loop.self) c.args.volume c.args.pair) [] r) c.in-Unseen.is c.loop.invariant.passes in
    subst (λ (s : Settings). MayHave (IsOfPlace g.D.Disk.Tells s (contents_in g.D.Disk.files c.loop.self) (store_seen c.loop.self) c.args.volume c.args.pair) c.in-Unseen.causes)
    (sym c.loop.invariant.settings) stop.stood

pub returns-in_default-see_or_pass-clause-seen : goal.returns-in_default-see_or_pass-clause-seen
returns-in_default-see_or_pass-clause-seen g c =
    keeps_on (store_seen c.args.self.now) (store_seen c.loop.self) (store_seen c.see_or_pass.new.self) c.loop.invariant.seen c.see_or_pass.ensures.seen

pub returns-in_default-see_or_pass-clause-looks : goal.returns-in_default-see_or_pass-clause-looks
returns-in_default-see_or_pass-clause-looks g c =
    looks_further c.args.volume (store_seen c.args.self.now) (store_seen c.loop.self) (store_seen c.see_or_pass.new.self) c.args.pair c.loop.invariant.looks c.see_or_pass.ensures.looks

pub returns-clause-sees : goal.returns-clause-sees
returns-clause-sees g c =
    found_sees ((store_seen c.loop.self).places c.args.volume c.args.pair) c.loop.read c.found_of.result c.found_of.ensures c.loop.invariant.sees

pub returns-in_default-see_or_pass-clause-bytes : goal.returns-in_default-see_or_pass-clause-bytes
returns-in_default-see_or_pass-clause-bytes g c = λ j is. absurd cc

pub returns-clause-bytes : goal.returns-clause-bytes
returns-clause-bytes g c = found_bytes c.loop.photo.items c.loop.read c.found_of.result c.found_of.ensures c.loop.invariant.bytes

pub returns-in_default-see_or_pass-clause-told : goal.returns-in_default-see_or_pass-clause-told
returns-in_default-see_or_pass-clause-told g c = λ tells.
    let inv = c.loop.invariant in
    told_further (c.args.self.now).settings (contents_in g.D.Disk.files c.args.self.now) (contents_in g.D.Disk.files c.loop.self) (store_seen c.args.self.now)
    (store_seen c.loop.self) (store_seen c.see_or_pass.new.self) c.args.volume c.args.pair c.requires.volume
    (inv.seen).volumes (inv.contents tells) inv.looks c.see_or_pass.ensures.looks (inv.told tells)
    (subst (λ (s : Settings). AreToldAs s (contents_in g.D.Disk.files c.loop.self) (store_seen c.loop.self) c.args.volume c.args.pair
    ((store_seen c.see_or_pass.new.self).places c.args.volume)) inv.settings (c.see_or_pass.ensures.told tells))

pub read_more-read-requires-clause-may_stand : goal.read_more-read-requires-clause-may_stand
read_more-read-requires-clause-may_stand g c =
    subst (λ (s : Settings). MayHave (IsOfPlace g.D.Disk.Tells s (contents_in g.D.Disk.files c.see_or_pass.new.self) (store_seen c.see_or_pass.new.self) c.args.volume c.args.pair)
    c.in-Ok.passed) (sym c.see_or_pass.ensures.settings)
    c.in-Ok.ensures.may_stand
