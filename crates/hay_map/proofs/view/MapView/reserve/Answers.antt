use Rattle.std.proofs.Common.{length, refl, ap, arith}
use Rattle.std.proofs.lemmas.Bool.{false≢true}
use Rattle.hay_map.specs.MapRows.{MapRows}
use Rattle.hay_map.proofs.RowLaws.{keeps_same, known_same, kept_same, room_spare, spare_room}
use Rattle.hay_map.proofs.view.MapView.reserve.Goals as goal

pub returns-in_err-reserve-clause-rows : goal.returns-in_err-reserve-clause-rows
returns-in_err-reserve-clause-rows g c =
    rw (← c.self.view_is)
    (keeps_same _ _ (record { replicas = refl; blank = refl; offsets = λ pair. c.reserve.ensures.entries.2 (pair.key, pair.alt) }) refl)

pub returns-in_err-reserve-clause-enough : goal.returns-in_err-reserve-clause-enough
returns-in_err-reserve-clause-enough g c = λ room.
    let was = room_spare c.args.self.now room in
    let spare = ap (λ (rows : MapRows _). rows.spare_offsets) c.self.view_is in
    absurd (false≢true (c.in_err-reserve.ensures.succeeds (omega arith)))

pub invariant_of-self-in_err-reserve-2 : goal.invariant_of-self-in_err-reserve-2
invariant_of-self-in_err-reserve-2 g c =
    kept_same _ _ (record { replicas = refl; blank = refl; offsets = λ pair. c.reserve.ensures.entries.2 (pair.key, pair.alt) }) (ap length c.reserve-2.ensures.items) c.self.invariant

pub returns-in_err-reserve-2-clause-rows : goal.returns-in_err-reserve-2-clause-rows
returns-in_err-reserve-2-clause-rows g c =
    rw (← c.self.view_is)
    (keeps_same _ _ (record { replicas = refl; blank = refl; offsets = λ pair. c.reserve.ensures.entries.2 (pair.key, pair.alt) }) c.reserve-2.ensures.items)

pub returns-in_err-reserve-2-clause-enough : goal.returns-in_err-reserve-2-clause-enough
returns-in_err-reserve-2-clause-enough g c = λ room.
    let was = room_spare c.args.self.now room in
    let spare = ap (λ (rows : MapRows _). rows.spare_places) c.self.view_is in
    let replicas = ap (λ (rows : MapRows _). rows.replicas) c.self.view_is in
    absurd (false≢true (c.in_err-reserve-2.ensures.succeeds (omega (arith, c.self.invariant.some))))

pub invariant_of-self-2 : goal.invariant_of-self-2
invariant_of-self-2 g c =
    kept_same _ _ (record { replicas = refl; blank = refl; offsets = λ pair. c.reserve.ensures.entries.2 (pair.key, pair.alt) }) (ap length c.reserve-2.ensures.items) c.self.invariant

pub returns-clause-rows : goal.returns-clause-rows
returns-clause-rows g c =
    rw (← c.self.view_is)
    (keeps_same _ _ (record { replicas = refl; blank = refl; offsets = λ pair. c.reserve.ensures.entries.2 (pair.key, pair.alt) }) c.reserve-2.ensures.items)

pub returns-clause-room : goal.returns-clause-room
returns-clause-room g c = spare_room _ c.in_ok-reserve.ensures.ok (omega (arith, c.in_ok-reserve-2.ensures.ok))

pub returns-in_err-reserve-clause-known : goal.returns-in_err-reserve-clause-known
returns-in_err-reserve-clause-known g c = rw (← c.self.view_is) (known_same _ _ (record { replicas = refl; blank = refl; offsets = λ pair. c.reserve.ensures.entries.2 (pair.key, pair.alt) }))

pub returns-in_err-reserve-2-clause-known : goal.returns-in_err-reserve-2-clause-known
returns-in_err-reserve-2-clause-known g c = rw (← c.self.view_is) (known_same _ _ (record { replicas = refl; blank = refl; offsets = λ pair. c.reserve.ensures.entries.2 (pair.key, pair.alt) }))

pub returns-clause-known : goal.returns-clause-known
returns-clause-known g c = rw (← c.self.view_is) (known_same _ _ (record { replicas = refl; blank = refl; offsets = λ pair. c.reserve.ensures.entries.2 (pair.key, pair.alt) }))

pub invariant_of-self : goal.invariant_of-self
invariant_of-self g c = kept_same _ _ (record { replicas = refl; blank = refl; offsets = λ pair. c.reserve.ensures.entries.2 (pair.key, pair.alt) }) refl c.self.invariant
