use Rattle.std.proofs.Common.{◌≡◌, ◌+◌, [], ◌∷◌, List, length, sym, ap, subst, ◌∙◌, arith}
use Rattle.std.proofs.lemmas.List.{length-append}
use Rattle.hay_mount.specs.Mounts.{InOrder}
use Rattle.hay_mount.proofs.Orders.{InOrder-snoc}
use Rattle.hay_logical.specs.Volumes.{Volume}
use Rattle.hay_cluster.specs.Opening.{IsEmptyVolume}
use Rattle.hay_cluster.proofs.opening.empty_volumes.Goals as goal

pub loop-number-preserved : goal.loop-number-preserved
loop-number-preserved g c =
    let made = c.in-Ok.ensures in
    let old = c.loop-number.volumes.items in
    let items = c.push_reserved.ensures.items in
    let place : c.loop-number.number ≡ 0 + length old = omega (arith, c.loop-number.invariant.count) in
    let more : length c.push_reserved.new.self.items ≡ length old + 1 = ap (λ (l : List (Volume g.row.D.Denot g.row.D-Piece.Denot)). length l) items ∙ length-append old (c.in-Ok.volume ∷ []) in
    record {
      count = omega (arith, more, c.loop-number.invariant.count);
      room = omega (arith, c.loop-number.invariant.room, c.push_reserved.ensures.capacity);
      empty = subst (λ (l : List (Volume g.row.D.Denot g.row.D-Piece.Denot)). InOrder (IsEmptyVolume c.args.settings.now) 0 l) (sym items)
          (InOrder-snoc (IsEmptyVolume c.args.settings.now) 0 old c.in-Ok.volume c.loop-number.invariant.empty
          (record { settings_are = made.settings.0; number = made.settings.1 ∙ place; none = made.replicas; sure = made.unsure.1 }));
    }
