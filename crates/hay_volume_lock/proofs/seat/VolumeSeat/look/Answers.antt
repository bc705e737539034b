use Rattle.std.proofs.Common.{refl, ap, subst, ◌∙◌}
use Rattle.hay_holdings.specs.Holdings.{Looked}
use Rattle.hay_volume_lock.specs.Seats.{Seated}
use Rattle.hay_volume_lock.proofs.Holding.{entered_prefix, seat_of}
use Rattle.hay_volume_lock.proofs.Telling.{front_tells, places_tell, row_long}
use Rattle.hay_volume_lock.proofs.seat.VolumeSeat.look.Goals as goal

pub returns-clause-looked : goal.returns-clause-looked
returns-clause-looked g c =
    subst (λ (s : Seated g.row.D.Denot g.row.P.Denot). Looked s.sight (seat_of c.self.inside.turn c.look-published.new.self).sight) c.self.view_is
    (record { seen = refl; own = refl; shown = entered_prefix c.self.inside.view.deeds c.look-published.new.self.deeds c.look-published.ensures.seen.2 })

pub returns-clause-shown : goal.returns-clause-shown
returns-clause-shown g c = λ o is tells k stands volume here. record {
  looked = returns-clause-looked g c;
  front =
      front_tells g.D.Disk.Tells g.D.Disk.files g.P.Piece.Tells c.self.inside.turn c.self.inside.stood c.self.inside.view c.look-published.new.self c.self.invariant
      c.look-published.ensures.seen c.look-published.ensures.fact
      g.D.Disk.fault_count g.D.Disk.fuse_count c.look-published.result.0 c.all_changes.result c.look-published.ensures.front c.all_changes.ensures o
      (ap (λ (s : Seated g.row.D.Denot g.row.P.Denot). s.start) c.self.view_is ∙ is) tells k stands volume here;
  is = λ j less. refl;
}

pub returns-clause-places : goal.returns-clause-places
returns-clause-places g c = λ o is tells k stands volume here.
    places_tell g.D.Disk.Tells g.D.Disk.files g.P.Piece.Tells c.self.inside.turn c.self.inside.stood c.self.inside.view c.look-published.new.self c.self.invariant
    c.look-published.ensures.seen c.look-published.ensures.fact
    c.args.pair c.look-published.result.1 c.look-published.ensures.row g.D.Disk.fault_count g.D.Disk.fuse_count o
    (ap (λ (s : Seated g.row.D.Denot g.row.P.Denot). s.start) c.self.view_is ∙ is) tells k stands volume here

pub returns-clause-long : goal.returns-clause-long
returns-clause-long g c = λ o is.
    row_long g.D.Disk.Tells g.D.Disk.files g.P.Piece.Tells c.self.inside.turn c.self.inside.stood c.self.inside.view c.look-published.new.self c.self.invariant
    c.look-published.ensures.seen c.look-published.ensures.fact
    c.args.pair c.look-published.result.1 c.look-published.ensures.row o (ap (λ (s : Seated g.row.D.Denot g.row.P.Denot). s.start) c.self.view_is ∙ is)
