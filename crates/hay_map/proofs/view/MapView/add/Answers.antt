use Rattle.std.proofs.Common.{◌≡◌, inl, inr, false, None, length, refl, sym, ap, ◌∙◌, arith}
use Rattle.std.specs.Prelude.{is_some}
use Rattle.std.proofs.lemmas.Bool.{false≢true, true≢false}
use Rattle.hay_needle.specs.declared.needle.Pair.{Pair}
use Rattle.hay_map.specs.MapRows.{MapRows, offset_of}
use Rattle.hay_map.specs.Rows.{has_row}
use Rattle.hay_map.proofs.RowLaws.{added_rows, added_kept, room_spare, unknown_none, has_row_is, keeps_keeps, known_some, adds_row}
use Rattle.hay_map.proofs.view.MapView.add.Goals as goal

pub returns-then-is_some-clause-known : goal.returns-then-is_some-clause-known
returns-then-is_some-clause-known g c =
    has_row_is c.args.self.now c.args.pair ∙ sym (ap is_some c.offset.ensures) ∙ sym c.is_some.ensures ∙ c.if-is_some.true

pub returns-in_err-reserve-clause-memory : goal.returns-in_err-reserve-clause-memory
returns-in_err-reserve-clause-memory g c =
    let none : has_row c.args.self.now c.args.pair ≡ false = has_row_is c.args.self.now c.args.pair ∙ sym (ap is_some c.offset.ensures) ∙ sym c.is_some.ensures ∙ c.if-is_some.false in
    λ h. elim h [
      | inl has ↦ absurd (true≢false (sym has ∙ none))
      | inr room ↦ absurd (false≢true (c.in_err-reserve.ensures.enough room))
    ]

pub push_none-requires : goal.push_none-requires
push_none-requires g c =
    let room = room_spare _ (c.in_ok-reserve.ensures.room) in
    let spare = ap (λ (rows : MapRows _). rows.spare_places) c.self.view_is in
    let replicas = ap (λ (rows : MapRows _). rows.replicas) c.self.view_is in
    omega (arith, c.self.invariant.some)

pub invariant_of-self : goal.invariant_of-self
invariant_of-self g c =
    let room = room_spare _ (c.in_ok-reserve.ensures.room) in
    let spare = ap (λ (rows : MapRows _). rows.spare_offsets) c.self.view_is in
    absurd (false≢true (c.in_err-insert.ensures.succeeds (omega arith)))

pub returns-in_err-insert-clause-rows : goal.returns-in_err-insert-clause-rows
returns-in_err-insert-clause-rows g c =
    let room = room_spare _ (c.in_ok-reserve.ensures.room) in
    let spare = ap (λ (rows : MapRows _). rows.spare_offsets) c.self.view_is in
    absurd (false≢true (c.in_err-insert.ensures.succeeds (omega arith)))

pub returns-in_err-insert-clause-memory : goal.returns-in_err-insert-clause-memory
returns-in_err-insert-clause-memory g c =
    let room = room_spare _ (c.in_ok-reserve.ensures.room) in
    let spare = ap (λ (rows : MapRows _). rows.spare_offsets) c.self.view_is in
    absurd (false≢true (c.in_err-insert.ensures.succeeds (omega arith)))

none_before : {P : Type 0} (now reserved inside : MapRows P) (pair : Pair) → has_row now pair ≡ false → ((other : Pair) → has_row reserved other ≡ has_row now other)
    → inside ≡ reserved → offset_of inside pair ≡ None
none_before now reserved inside pair none known is = unknown_none inside pair (ap (λ (rows : MapRows _). has_row rows pair) is ∙ known pair ∙ none)

pub invariant_of-self-2 : goal.invariant_of-self-2
invariant_of-self-2 g c =
    let none : has_row c.args.self.now c.args.pair ≡ false = has_row_is c.args.self.now c.args.pair ∙ sym (ap is_some c.offset.ensures) ∙ sym c.is_some.ensures ∙ c.if-is_some.false in
    let begins : c.len-at.result ≡ length c.self.inside.places.items = c.len-at.ensures ∙ c.self.inside.places.ok.0 in
    added_kept c.args.pair _ _
    (adds_row c.args.pair c.len-at.result _ _ refl refl c.push_none.ensures (none_before _ _ _ c.args.pair none c.reserve.ensures.known c.self.view_is) begins
    (λ other. c.in_ok-insert.ensures.updates.0 (other.key, other.alt)))
    c.self.invariant

pub returns-clause-rows : goal.returns-clause-rows
returns-clause-rows g c =
    let none : has_row c.args.self.now c.args.pair ≡ false = has_row_is c.args.self.now c.args.pair ∙ sym (ap is_some c.offset.ensures) ∙ sym c.is_some.ensures ∙ c.if-is_some.false in
    let begins : c.len-at.result ≡ length c.self.inside.places.items = c.len-at.ensures ∙ c.self.inside.places.ok.0 in
    keeps_keeps _ _ _ c.in_ok-reserve.ensures.rows
    (rw (← c.self.view_is)
    (added_rows c.args.pair _ _
    (adds_row c.args.pair c.len-at.result _ _ refl refl c.push_none.ensures (none_before _ _ _ c.args.pair none c.reserve.ensures.known c.self.view_is) begins
    (λ other. c.in_ok-insert.ensures.updates.0 (other.key, other.alt)))
    c.self.invariant))

pub returns-clause-known : goal.returns-clause-known
returns-clause-known g c = known_some _ c.args.pair c.len-at.result (c.in_ok-insert.ensures.updates.1)
