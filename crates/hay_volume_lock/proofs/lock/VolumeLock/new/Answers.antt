use Rattle.std.proofs.Common.{[], ◌∷◌, List, sym, subst, ◌∙◌, arith}
use Rattle.std.specs.Vec.Iter.{into_iter_items}
use Rattle.hay_logical.specs.Volumes.{IsOfSettings}
use Rattle.hay_meeting.specs.declared.act.VolumeAct.{VolumeAct}
use Rattle.hay_meeting.specs.Acts.{nobody}
use Rattle.hay_needle.specs.declared.settings.Settings.{Settings}
use Rattle.hay_turn.specs.Seats.{SeatState}
use Rattle.hay_volume_lock.specs.Seats.{Seated}
use Rattle.hay_volume_lock.specs.declared.guarded.Opened.{Opened}
use Rattle.hay_volume_lock.proofs.Opening.{Seating, View, all_nobody, none_left, opened_is, opens, seated_next, seating_begins, seating_ends, seating_next}
use Rattle.hay_volume_lock.proofs.lock.VolumeLock.new.Goals as goal

pub new-requires-2-clause-start : goal.new-requires-2-clause-start
new-requires-2-clause-start g c =
    opens g.D.Disk.Tells g.D.Disk.files g.P.Piece.Tells g.D.Disk.fault_count g.D.Disk.fuse_count (record {
      settings = c.args.settings;
      logical = c.args.logical;
      front =
          c.in-Ok-publish.front;
      begun = nobody ∷ nobody ∷ nobody ∷ nobody ∷ [];
      ended = c.none.result;
    })
    (subst (λ (s : Settings). IsOfSettings s c.args.logical.number) (sym c.requires.settings) c.requires.of) c.requires.open c.in-Ok-publish.ensures.0 (sym c.requires.settings) all_nobody
    c.none.ensures

pub loop-own-init : goal.loop-own-init
loop-own-init g c =
    let made = c.in-Ok-new.ensures.made in
    let shows = c.in-Ok-publish.ensures.0 in
    let seating : Seating c.in-Ok-new.turn c.args.logical c.args.seats c.front-stood.result [] c.in-Ok-new.turns.items c.in-Ok-publish.views.items =
    seating_begins (record {
      settings = c.args.settings;
      logical = c.args.logical;
      front = c.in-Ok-publish.front;
      begun = nobody ∷ nobody ∷ nobody ∷ nobody ∷ [];
      ended =
          c.none.result;
    }) made.0 made.1.from
    (opened_is g.D.Disk.Tells g.D.Disk.files g.P.Piece.Tells g.D.Disk.fault_count g.D.Disk.fuse_count (record {
      settings = c.args.settings;
      logical = c.args.logical;
      front =
          c.in-Ok-publish.front;
      begun = nobody ∷ nobody ∷ nobody ∷ nobody ∷ [];
      ended = c.none.result;
    }) (subst (λ (s : Settings). IsOfSettings s c.args.logical.number) (sym
    c.requires.settings) c.requires.of) c.requires.open shows made.0 made.1)
    c.front-stood.ensures.is made.1.front made.1.base shows.blank made.3 (sym c.in-Ok-new.turns.ok.0 ∙ made.2) c.in-Ok-publish.ensures.1 in
    record {
      seating = subst (λ (l : List (Seated g.row.D.Denot g.row.P.Denot)). Seating c.in-Ok-new.turn c.args.logical c.args.seats c.front-stood.result l (into_iter_items
          c.into_iter-own-iterator.result) (into_iter_items c.into_iter-views.result)) (sym c.in-Ok-with_capacity.ensures.items)
          (subst (λ (l : List (SeatState (Opened g.row.D.Denot g.row.P.Denot) VolumeAct)). Seating c.in-Ok-new.turn c.args.logical c.args.seats c.front-stood.result [] l (into_iter_items
          c.into_iter-views.result)) (sym c.into_iter-own-iterator.ensures.into_iter_gives.0)
          (subst (λ (l : List (View g.row.D.Denot g.row.P.Denot)). Seating c.in-Ok-new.turn c.args.logical c.args.seats c.front-stood.result [] c.in-Ok-new.turns.items l) (sym
          c.into_iter-views.ensures.rest) seating));
      room = omega (arith, c.in-Ok-with_capacity.ensures.len, c.in-Ok-with_capacity.ensures.capacity, c.into_iter-own-iterator.ensures.into_iter_gives.1, made.2);
    }

pub invariant_of-push_reserved : goal.invariant_of-push_reserved
invariant_of-push_reserved g c = seated_next c.in-Some.own c.in-Some-next.view
    (subst (λ (l : List (SeatState (Opened g.row.D.Denot g.row.P.Denot) VolumeAct)). Seating c.in-Ok-new.turn c.args.logical c.args.seats c.front-stood.result c.loop-own.lanes.items l
    (c.in-Some-next.view ∷ into_iter_items c.next-in-loop-own.new.self)) c.in-Some.ensures.steps.0
    (subst (λ (l : List (View g.row.D.Denot g.row.P.Denot)). Seating c.in-Ok-new.turn c.args.logical c.args.seats c.front-stood.result c.loop-own.lanes.items (into_iter_items
    c.loop-own.own-iterator) l) c.in-Some-next.ensures.cases.0 c.loop-own.invariant.seating))

pub loop-own-preserved : goal.loop-own-preserved
loop-own-preserved g c = record {
  seating = subst (λ (l : List (Seated g.row.D.Denot g.row.P.Denot)). Seating c.in-Ok-new.turn c.args.logical c.args.seats c.front-stood.result l (into_iter_items c.next.new.self)
      (into_iter_items c.next-in-loop-own.new.self)) (sym c.push_reserved.ensures.items)
      (seating_next c.in-Some.own c.in-Some-next.view
      (subst (λ (l : List (SeatState (Opened g.row.D.Denot g.row.P.Denot) VolumeAct)). Seating c.in-Ok-new.turn c.args.logical c.args.seats c.front-stood.result c.loop-own.lanes.items l
      (c.in-Some-next.view ∷ into_iter_items c.next-in-loop-own.new.self)) c.in-Some.ensures.steps.0
      (subst (λ (l : List (View g.row.D.Denot g.row.P.Denot)). Seating c.in-Ok-new.turn c.args.logical c.args.seats c.front-stood.result c.loop-own.lanes.items (into_iter_items
      c.loop-own.own-iterator) l) c.in-Some-next.ensures.cases.0 c.loop-own.invariant.seating)));
  room = omega (arith, c.loop-own.invariant.room, c.push_reserved.ensures.len, c.push_reserved.ensures.capacity, c.in-Some.ensures.steps.1);
}

pub returns-in-None-clause-made : goal.returns-in-None-clause-made
returns-in-None-clause-made g c = (
  c.in-Ok.ensures,
  seating_ends (subst (λ (l : List (SeatState (Opened g.row.D.Denot g.row.P.Denot) VolumeAct)). Seating c.in-Ok-new.turn c.args.logical c.args.seats c.front-stood.result
      c.loop-own.lanes.items l (into_iter_items c.loop-own.views))
      (none_left (into_iter_items c.loop-own.own-iterator) (sym c.loop-own.own-iterator.rest.ok.0 ∙ c.in-None.ensures.steps.0)) c.loop-own.invariant.seating),
)
