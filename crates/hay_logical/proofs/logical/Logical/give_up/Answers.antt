use Rattle.std.proofs.Common.{arith, false, List, Some, refl, sym, ap, subst, ◌∙◌}
use Rattle.hay_legal.specs.Known.{machine_of}
use Rattle.hay_legal.specs.Plain.{frozen_with}
use Rattle.hay_physical.specs.OpenCopies.{Copy}
use Rattle.hay_logical.specs.declared.unsure.Unsure.{Unsure}
use Rattle.hay_logical.specs.Stands.{Stands, StandsFor}
use Rattle.hay_logical.specs.Volumes.{IsOpenVolume, IsSame, Volume}
use Rattle.hay_logical.proofs.Changing.{some_none}
use Rattle.hay_logical.proofs.Showing.{given_up}
use Rattle.hay_logical.proofs.Standing.{volume_with}
use Rattle.hay_logical.specs.Seen.{FreezesSeen, volume_seen}
use Rattle.hay_logical.proofs.SeenSwaps.{idle_seen}
use Rattle.hay_logical.proofs.Seen.{longer_seen, many_seen}
use Rattle.hay_logical.proofs.logical.Logical.give_up.Goals as goal

pub invariant_of-self : goal.invariant_of-self
invariant_of-self g c =
    let shape = c.self.invariant.0 in (
      record {
        settings = shape.settings;
        count = shape.count;
        sups = shape.sups;
        width = shape.width;
        thawed = shape.thawed;
        frozen_by = shape.frozen_by;
        settled = λ none. some_none (sym (ap (λ v. v.frozen) (c.self.view_is ∙ c.halt.ensures.still)) ∙ none);
      },
      c.self.invariant.1,
      c.self.invariant.2,
    )

pub returns-clause-pending : goal.returns-clause-pending
unfolding Stands
returns-clause-pending g c = λ tells k entry change behind is asks.
    let old = c.args.self.now in
    let unsure : Unsure = record { tag = c.args.tag; change = c.args.change } in
    subst (λ (v : Volume g.row.D.Denot g.row.D-Piece.Denot). StandsFor g.D.Disk.files g.D.Piece.Piece.Tells (record v { unsure = Some unsure })
    (frozen_with (machine_of old.settings old.number 0) c.args.tag entry false k)) (sym (c.self.view_is ∙ c.halt.ensures.still))
    (given_up old.settings old.number g.D.Disk.Tells g.D.Disk.files g.D.Piece.Piece.Tells g.D.Disk.fault_count g.D.Disk.fuse_count tells old.replicas c.halt.new.self.replicas
    old.rows old.front old.frozen old.unsure k c.args.tag entry change behind c.args.change
    (machine_of old.settings old.number 0) is asks refl c.halt.ensures.counts.count c.halt.ensures.each c.halt.ensures.ended)

pub returns-clause-still : goal.returns-clause-still
returns-clause-still g c =
    let unsure : Unsure = record { tag = c.args.tag; change = c.args.change } in
    let machine = machine_of c.args.self.now.settings c.args.self.now.number 0 in
    ap (λ (v : Volume g.row.D.Denot g.row.D-Piece.Denot). record v { unsure = Some unsure }) (c.self.view_is ∙ c.halt.ensures.still)
    ∙ ap (λ (rs : List (Copy g.row.D.Denot)). volume_with c.args.self.now.settings c.args.self.now.number rs c.args.self.now.rows c.args.self.now.front (Some machine)
    (Some unsure)) (sym (ap (λ v. v.replicas) c.self.view_is))

pub returns-clause-open : goal.returns-clause-open
returns-clause-open g c =
    let was = subst IsOpenVolume (sym c.self.view_is) c.halt.ensures.«open» in
    record { all = was.all; each = was.each }

pub returns-clause-same : goal.returns-clause-same
returns-clause-same g c =
    let was = subst (λ v. IsSame c.args.self.now v) (sym c.self.view_is) c.halt.ensures.same in
    record { settings = was.settings; number = was.number; sups = was.sups }

pub returns-clause-seen : goal.returns-clause-seen
returns-clause-seen g c = λ none.
    let old = c.args.self.now in
    let unsure : Unsure = record { tag = c.args.tag; change = c.args.change } in
    subst (λ (v : Volume g.row.D.Denot g.row.D-Piece.Denot). FreezesSeen (machine_of old.settings old.number 0) (Some unsure) (volume_seen old) (volume_seen
    (record v { unsure = Some unsure }))) (sym (c.self.view_is ∙ c.halt.ensures.still))
    (record {
      thawed = none;
      settled = c.halt.ensures.settled none;
      many = many_seen c.args.self.now.replicas c.halt.new.self.replicas c.halt.ensures.counts.count;
      front = refl;
      frozen = refl;
      unsure = refl;
      idle = idle_seen c.halt.new.self.replicas c.halt.ensures.ended;
      longer = longer_seen c.args.self.now.replicas c.halt.new.self.replicas _ refl (λ j r r' e f. let end = (c.halt.ensures.each j r r' e f).end in omega (arith, end));
    })
