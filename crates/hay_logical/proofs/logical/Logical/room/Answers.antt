use Rattle.std.proofs.Common.{◌≡◌, ◌<◌, ℕ, Some, None, Ok, Err, length, sym, ap, subst, ◌∙◌, arith}
use Rattle.hay_needle.specs.Sizes.{needle_total}
use Rattle.hay_legal.specs.Known.{machine_of, room_refusal_of}
use Rattle.hay_reply.specs.declared.Refused.TheVariants.{NoRoom}
use Rattle.hay_physical.specs.OpenCopies.{Copy, capacity_of, end_of}
use Rattle.hay_logical.specs.declared.fault.LogicalFault.TheVariants.{Full}
use Rattle.hay_logical.specs.declared.fault.LogicalFault.{LogicalFault}
use Rattle.hay_logical.specs.Answers.{IsRoomFault, room_answer}
use Rattle.hay_logical.specs.Fits.{At}
use Rattle.hay_logical.specs.Refusals.{answer_at}
use Rattle.hay_logical.specs.Stands.{Stands, StandsFor}
use Rattle.hay_logical.specs.ReplicaCalls.{LacksRoom}
use Rattle.hay_logical.specs.Volumes.{Volume, IsMachineOf}
use Rattle.hay_logical.proofs.Lists.{at_below}
use Rattle.hay_logical.proofs.Rooms.{capacity_by, known_capacity, room_by, room_none, room_some}
use Rattle.hay_logical.proofs.Standing.{volume_with}
use Rattle.std.proofs.Common.{◌≤◌, ◌+◌, refl}
use Rattle.hay_logical.specs.Seen.{ReplicaSeen, RoomRefusedSeen, SeesRoom, replica_seen, volume_seen}
use Rattle.hay_logical.proofs.Lists.{at_map}
use Rattle.hay_logical.proofs.Seen.{map_at}
use Rattle.hay_logical.proofs.logical.Logical.room.Goals as goal

pub returns-in-Some-clause-known : goal.returns-in-Some-clause-known
unfolding Stands
returns-in-Some-clause-known g c = λ tells k stands.
    let frozen : k.frozen ≡ Some c.in-Some.machine = stands.frozen ∙ ap (λ (v : Volume g.row.D.Denot g.row.D-Piece.Denot). v.frozen) (sym c.self.view_is) ∙ c.in-Some.is in
    ap (λ o. room_answer c.args.self.now.settings o (room_refusal_of c.args.self.now.settings c.args.self.now.number k c.args.size)) (sym frozen)

pub returns-in-Some-clause-frozen : goal.returns-in-Some-clause-frozen
returns-in-Some-clause-frozen g c = λ m e.
    let both : Some c.in-Some.machine ≡ Some m = sym c.in-Some.is ∙ ap (λ (v : Volume g.row.D.Denot g.row.D-Piece.Denot). v.frozen) c.self.view_is ∙ e in
    cc

pub room_in-requires-clause-most : goal.room_in-requires-clause-most
room_in-requires-clause-most g c =
    let e = ap length c.as_slice.ensures.value in
    let n = (c.self.invariant.0).count in
    let m = ((c.self.invariant.0).settings).most in
    omega (arith, e, n, m)

pub room_in-requires-clause-open : goal.room_in-requires-clause-open
room_in-requires-clause-open g c = λ j r e.
    c.requires.«open».each j r (subst (λ (v : Volume g.row.D.Denot g.row.D-Piece.Denot). At v.replicas j r) c.self.view_is (subst (λ xs. At xs j r) c.as_slice.ensures.value e))

pub returns-in_default-room_in-clause-known : goal.returns-in_default-room_in-clause-known
unfolding Stands
returns-in_default-room_in-clause-known g c = λ tells k stands.
    let here = c.self.inside in
    let known : StandsFor g.D.Disk.files g.D.Piece.Piece.Tells (volume_with here.settings here.number here.replicas.items here.rows here.front None here.unsure) k =
    subst (λ fr. StandsFor g.D.Disk.files g.D.Piece.Piece.Tells (volume_with here.settings here.number here.replicas.items here.rows here.front fr here.unsure) k) c.in_default.is
    (subst (λ v. StandsFor g.D.Disk.files g.D.Piece.Piece.Tells v k) (sym c.self.view_is) stands) in
    let none = room_none g.D.Disk.files g.D.Piece.Piece.Tells here.settings here.number here.replicas.items here.rows here.front here.unsure k known (c.self.invariant.0).sups c.args.size
    (λ j r e. c.in_default-room_in.ensures.fits j r (subst (λ xs. At xs j r) (sym c.as_slice.ensures.value) e)) in
    subst (λ (v : Volume g.row.D.Denot g.row.D-Piece.Denot). Ok tt ≡ room_answer v.settings k.frozen (room_refusal_of v.settings v.number k c.args.size)) c.self.view_is
    (room_by here.settings None k.frozen None (room_refusal_of here.settings here.number k c.args.size) known.frozen none)

pub returns-in_default-room_in-clause-frozen : goal.returns-in_default-room_in-clause-frozen
returns-in_default-room_in-clause-frozen g c = λ m e.
    let both : None ≡ Some m = sym c.in_default.is ∙ ap (λ (v : Volume g.row.D.Denot g.row.D-Piece.Denot). v.frozen) c.self.view_is ∙ e in
    absurd cc

pub returns-in_default-room_in-clause-fits : goal.returns-in_default-room_in-clause-fits
returns-in_default-room_in-clause-fits g c = (
  ap (λ (v : Volume g.row.D.Denot g.row.D-Piece.Denot). v.frozen) (sym c.self.view_is) ∙ c.in_default.is,
  λ j r e. c.in_default-room_in.ensures.fits j r (subst (λ xs. At xs j r) (sym c.as_slice.ensures.value)
      (subst (λ (v : Volume g.row.D.Denot g.row.D-Piece.Denot). At v.replicas j r) (sym c.self.view_is) e)),
)

pub machine_of-machine-requires-clause-of : goal.machine_of-machine-requires-clause-of
machine_of-machine-requires-clause-of g c = (c.self.invariant.0).settings

pub machine_of-machine-requires-clause-within : goal.machine_of-machine-requires-clause-within
machine_of-machine-requires-clause-within g c =
    let l = c.in-Err.ensures.lacks in
    let h = at_below c.as_slice.result.now c.in-Err.lacking.at l.replica l.there in
    let e = ap length c.as_slice.ensures.value in
    let n = (c.self.invariant.0).count in
    let m = ((c.self.invariant.0).settings).most in
    omega (arith, h, e, n, m)

pub returns-clause-known : goal.returns-clause-known
unfolding Stands
returns-clause-known g c = λ tells k stands.
    let here = c.self.inside in
    let known : StandsFor g.D.Disk.files g.D.Piece.Piece.Tells (volume_with here.settings here.number here.replicas.items here.rows here.front None here.unsure) k =
    subst (λ fr. StandsFor g.D.Disk.files g.D.Piece.Piece.Tells (volume_with here.settings here.number here.replicas.items here.rows here.front fr here.unsure) k) c.in_default.is
    (subst (λ v. StandsFor g.D.Disk.files g.D.Piece.Piece.Tells v k) (sym c.self.view_is) stands) in
    let l : LacksRoom c.args.size here.replicas.items c.in-Err.lacking = subst (λ xs. LacksRoom c.args.size xs c.in-Err.lacking) c.as_slice.ensures.value c.in-Err.ensures.lacks in
    let capacity =
    known_capacity g.D.Disk.files g.D.Piece.Piece.Tells here.settings here.number here.replicas.items here.rows here.front here.unsure k known (c.self.invariant.0).sups
    c.args.size c.in-Err.lacking.at l.replica l.there in
    let refusal =
    room_some g.D.Disk.files g.D.Piece.Piece.Tells here.settings here.number here.replicas.items here.rows here.front here.unsure k known (c.self.invariant.0).sups c.args.size
    c.in-Err.lacking l in
    let total = needle_total c.args.size in
    subst (λ (v : Volume g.row.D.Denot g.row.D-Piece.Denot). Err c.answer_at.result ≡ room_answer v.settings k.frozen (room_refusal_of v.settings v.number k c.args.size)) c.self.view_is
    (ap (λ (f : LogicalFault). Err f) (c.answer_at.ensures ∙ ap (answer_at c.machine_of-machine.result) l.cause)
    ∙ ap (λ m. Err (Full m (end_of l.replica) total (capacity_of l.replica))) c.machine_of-machine.ensures
    ∙ ap (λ n. Err (Full (machine_of here.settings here.number c.in-Err.lacking.at) (end_of l.replica) total n)) capacity
    ∙ room_by here.settings None k.frozen (Some (NoRoom here.number (machine_of here.settings here.number c.in-Err.lacking.at) (end_of l.replica) total))
    (room_refusal_of here.settings here.number k c.args.size) known.frozen refusal)

pub returns-clause-frozen : goal.returns-clause-frozen
returns-clause-frozen g c = λ m e.
    let both : None ≡ Some m = sym c.in_default.is ∙ ap (λ (v : Volume g.row.D.Denot g.row.D-Piece.Denot). v.frozen) c.self.view_is ∙ e in
    absurd cc

pub returns-clause-causes : goal.returns-clause-causes
returns-clause-causes g c =
    let l = c.in-Err.ensures.lacks in
    let below = at_below c.as_slice.result.now c.in-Err.lacking.at l.replica l.there in
    let long = ap length c.as_slice.ensures.value in
    let few = (c.self.invariant.0).count in
    let within : c.in-Err.lacking.at < c.self.inside.settings.replicas = omega (arith, below, long, few) in
    subst (λ (f : LogicalFault). IsRoomFault c.args.self.now.settings c.args.self.now.number f) (sym (c.answer_at.ensures ∙ ap (answer_at c.machine_of-machine.result) l.cause))
    (subst (λ (v : Volume g.row.D.Denot g.row.D-Piece.Denot). IsMachineOf v.settings v.number c.machine_of-machine.result) c.self.view_is
    (c.in-Err.lacking.at, within, c.machine_of-machine.ensures))

pub returns-in-Some-clause-causes : goal.returns-in-Some-clause-causes
returns-in-Some-clause-causes g c =
    subst (λ (v : Volume g.row.D.Denot g.row.D-Piece.Denot). IsMachineOf v.settings v.number c.in-Some.machine) c.self.view_is ((c.self.invariant.0).frozen_by c.in-Some.machine c.in-Some.is)

pub returns-in-Some-clause-takes : goal.returns-in-Some-clause-takes
returns-in-Some-clause-takes g c = λ none fits.
    let both : Some c.in-Some.machine ≡ None = sym c.in-Some.is ∙ ap (λ (v : Volume g.row.D.Denot g.row.D-Piece.Denot). v.frozen) c.self.view_is ∙ none in
    absurd cc

pub returns-clause-takes : goal.returns-clause-takes
returns-clause-takes g c = λ none fits.
    let l = c.in-Err.ensures.lacks in
    let there : At c.args.self.now.replicas c.in-Err.lacking.at l.replica =
    subst (λ (v : Volume g.row.D.Denot g.row.D-Piece.Denot). At v.replicas c.in-Err.lacking.at l.replica) c.self.view_is
    (subst (λ xs. At xs c.in-Err.lacking.at l.replica) c.as_slice.ensures.value l.there) in
    let room = fits c.in-Err.lacking.at l.replica there in
    let full = l.full in
    absurd (omega (arith, room, full))

pub returns-in-Some-clause-thawed : goal.returns-in-Some-clause-thawed
returns-in-Some-clause-thawed g c = λ none m e.
    let both : Some c.in-Some.machine ≡ None = sym c.in-Some.is ∙ ap (λ (v : Volume g.row.D.Denot g.row.D-Piece.Denot). v.frozen) c.self.view_is ∙ none in
    absurd cc

pub returns-clause-thawed : goal.returns-clause-thawed
returns-clause-thawed g c = λ none m e.
    let l = c.in-Err.ensures.lacks in
    let said = sym (c.answer_at.ensures ∙ ap (answer_at c.machine_of-machine.result) l.cause) in
    absurd cc

pub returns-in_default-room_in-clause-seen : goal.returns-in_default-room_in-clause-seen
returns-in_default-room_in-clause-seen g c = (
  ap (λ (v : Volume g.row.D.Denot g.row.D-Piece.Denot). v.frozen) (sym c.self.view_is) ∙ c.in_default.is,
  λ j s e.
      let x = map_at replica_seen c.args.self.now.replicas j s e in
      let inside = subst (λ (v : Volume g.row.D.Denot g.row.D-Piece.Denot). At v.replicas j x.0) (sym c.self.view_is) x.1 in
      let there = subst (λ xs. At xs j x.0) (sym c.as_slice.ensures.value) inside in
      let fits = c.in_default-room_in.ensures.fits j x.0 there in
      let has = capacity_by c.self.inside.settings c.args.self.now.settings c.self.inside.number j x.0 (c.in_default-room_in.ensures.capacities j x.0 there) ((c.self.invariant.0).sups j x.0 inside)
      (ap (λ (v : Volume g.row.D.Denot g.row.D-Piece.Denot). v.settings) c.self.view_is) in
      subst (λ (y : ReplicaSeen). SeesRoom c.args.self.now.settings.capacity c.args.size y) (sym x.2)
      (subst (λ n. end_of x.0 + needle_total c.args.size + 8 ≤ n) has fits),
)

pub returns-in-Some-clause-refused_seen : goal.returns-in-Some-clause-refused_seen
returns-in-Some-clause-refused_seen g c = ap (λ (v : Volume g.row.D.Denot g.row.D-Piece.Denot). v.frozen) (sym c.self.view_is) ∙ c.in-Some.is

pub returns-clause-refused_seen : goal.returns-clause-refused_seen
returns-clause-refused_seen g c =
    let l = c.in-Err.ensures.lacks in
    let low = c.in-Err.lacking.at in
    let size = c.args.size in
    let capacity = c.args.self.now.settings.capacity in
    let now = c.args.self.now.replicas in
    let there : At now low l.replica = subst (λ (v : Volume g.row.D.Denot g.row.D-Piece.Denot). At v.replicas low l.replica) c.self.view_is (subst
    (λ xs. At xs low l.replica) c.as_slice.ensures.value l.there) in
    let has : (j : ℕ) (r : Copy g.row.D.Denot) → j ≤ low → At c.as_slice.result.now j r → capacity_of r ≡ capacity =
    λ j r most e.
    capacity_by c.self.inside.settings c.args.self.now.settings c.self.inside.number j r (c.in-Err.ensures.lacks_capacities j r most e)
    ((c.self.invariant.0).sups j r (subst (λ xs. At xs j r) c.as_slice.ensures.value e)) (ap (λ (v : Volume g.row.D.Denot g.row.D-Piece.Denot). v.settings) c.self.view_is) in
    subst (λ (f : LogicalFault). RoomRefusedSeen c.args.self.now.settings c.args.self.now.number size (volume_seen c.args.self.now) f) (sym (c.answer_at.ensures ∙ ap
    (answer_at c.machine_of-machine.result) l.cause))
    (record {
      at = low;
      replica = replica_seen l.replica;
      there = at_map replica_seen now low l.replica there;
      thawed = ap (λ (v : Volume g.row.D.Denot g.row.D-Piece.Denot). v.frozen) (sym c.self.view_is) ∙ c.in_default.is;
      below = λ j s less e.
          let x = map_at replica_seen now j s e in
          let there = subst (λ xs. At xs j x.0) (sym c.as_slice.ensures.value) (subst (λ (v : Volume g.row.D.Denot g.row.D-Piece.Denot). At v.replicas j x.0) (sym c.self.view_is) x.1) in
          let fits = l.below j x.0 less there in
          let most : j ≤ low = omega (arith, less) in
          subst (λ (y : ReplicaSeen). SeesRoom capacity size y) (sym x.2) (subst (λ n. end_of x.0 + needle_total size + 8 ≤ n) (has j x.0 most there) fits);
      lacks = subst (λ n. n < end_of l.replica + needle_total size + 8) (has low l.replica (omega arith) l.there) l.full;
      machine = c.machine_of-machine.ensures ∙ ap (λ (v : Volume g.row.D.Denot g.row.D-Piece.Denot). machine_of v.settings v.number low) c.self.view_is;
      end_is = refl;
      need_is = refl;
      capacity_is = has low l.replica (omega arith) l.there;
    })
