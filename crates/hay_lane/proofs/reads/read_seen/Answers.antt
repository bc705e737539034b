use Rattle.std.proofs.Common.{◌+◌, ◌%◌, ◌<◌, inl, inr, length, refl, ap, arith}
use Rattle.std.proofs.lemmas.Bool.Decides.{nat_tests}
use Rattle.hay_lane.proofs.Suiting.{shown_at, shown_by_row}
use Rattle.hay_lane.proofs.Blaming.{reads_blame, seen_blames}
use Rattle.hay_lane.proofs.reads.read_seen.Goals as goal

pub returns-clause-reads : goal.returns-clause-reads
returns-clause-reads g c its =
    elim its [
      | inl none ↦ let long = ap length none in absurd (grind (arith, nat_tests, long, c.if-is_empty.false, c.is_empty.ensures))
      | inr has ↦ c.show_seen.ensures.reads _ has
    ]

pub returns-then-is_empty-clause-shown : goal.returns-then-is_empty-clause-shown
returns-then-is_empty-clause-shown g c =
    let some = c.requires.first in
    shown_by_row g.P.Piece.Tells _ (length c.args.row.now) c.args.first c.args.row.now c.args.cookie c.args.passed c.show_more.new.out.items c.show_more.result refl
    (omega (arith, some)) c.show_more.ensures.reads

pub returns-clause-shown : goal.returns-clause-shown
returns-clause-shown g c =
    let some = c.requires.first in
    let within : (c.args.first + length c.args.passed) % length c.args.row.now < length c.args.row.now = omega (arith, some) in
    shown_at c.args.first (length c.args.row.now) ((c.args.first + length c.args.passed) % length c.args.row.now) c.show_seen.result within c.show_seen.ensures.next

pub returns-then-is_empty-clause-blames : goal.returns-then-is_empty-clause-blames
returns-then-is_empty-clause-blames g c =
    reads_blame g.A.Arm.is_sure g.A.Arm.fault_count g.P.Piece.Tells c.args.arm.now c.show_more.new.self c.args.first c.args.row.now c.args.cookie c.args.passed
    c.show_more.new.out.items c.show_more.result (record { rises = c.show_more.ensures.later; sure = c.show_more.ensures.stays_sure }) c.show_more.ensures.reads c.show_more.ensures.sure

pub returns-clause-blames : goal.returns-clause-blames
returns-clause-blames g c = seen_blames g.A.Arm.is_sure g.A.Arm.fault_count c.args.arm.now c.args.cookie _ _ c.args.passed _ _ c.show_seen.result c.show_seen.ensures.shows
