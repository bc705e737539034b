use Rattle.std.proofs.Common.{◌≡◌, ◌≤◌, ℕ, Option, None, drop, take, ap, arith, sym, subst, ◌∙◌}
use Rattle.std.specs.Prelude.{IfNone, IfSome}
use Rattle.std.proofs.lemmas.Bool.{true≢false}
use Rattle.hay_needle.specs.Needle.{Head, HeadBytes, head_of_cell}
use Rattle.hay_needle.specs.declared.needle.CellHead.{CellHead}
use Rattle.hay_needle.specs.declared.total.TheConstants.{MAX_PHOTO}
use Rattle.hay_volume.specs.Needles.{LacksNeedleWithin}
use Rattle.hay_compact.specs.Copying.{HasPeeked, HeadStands, Stage}
use Rattle.hay_compact.proofs.Copyings.{has_next, has_room, long_needle, no_damage, no_needle, peeked_of, read_head}
use Rattle.hay_compact.proofs.compactor.Compactor.peek.Goals as goal

pub returns-then-ready-clause-all : goal.returns-then-ready-clause-all
returns-then-ready-clause-all g c = λ tells sup current fresh examined copying.
    (c.ready.ensures.all sup (g.D.Disk.files c.args.disk.now) current fresh examined copying).0 c.if-ready.true

pub returns-in_default-clause-whole : goal.returns-in_default-clause-whole
returns-in_default-clause-whole g c = λ tells sup current fresh examined k copying is.
    let file = (g.D.Disk.files c.args.disk.now c.args.old.now.file).now in
    let next = has_next sup (g.D.Disk.files c.args.disk.now) c.args.old.now c.args.self.now current fresh examined c.self.inside.next copying (ap (λ (s : Stage). s.next) c.self.view_is)
    (λ all. true≢false (sym ((c.ready.ensures.all sup (g.D.Disk.files c.args.disk.now) current fresh examined copying).1 all) ∙ c.if-ready.false)) in
    let NoHead : (n : ℕ) → Option CellHead → Type 0 = λ n o. IfNone o ((head : Head) → HeadBytes (take 36 (drop c.self.inside.next (g.D.Disk.files c.args.disk.now n).now)) head → ⊥) in
    no_damage c.self.inside.next c.args.old.now.end examined file current next
    (subst (λ n. NoHead n None) c.file.ensures (subst (NoHead c.file.result) c.in_default.is (c.in_ok-head.ensures.none tells)))

pub returns-then-room-total_of-clause-whole : goal.returns-then-room-total_of-clause-whole
returns-then-room-total_of-clause-whole g c = λ tells sup current fresh examined k copying is.
    let fits = g.met.D.Disk.fits c.args.disk.now c.args.old.now.file tells in
    let file = (g.D.Disk.files c.args.disk.now c.args.old.now.file).now in
    let next = has_next sup (g.D.Disk.files c.args.disk.now) c.args.old.now c.args.self.now current fresh examined c.self.inside.next copying (ap (λ (s : Stage). s.next) c.self.view_is)
    (λ all. true≢false (sym ((c.ready.ensures.all sup (g.D.Disk.files c.args.disk.now) current fresh examined copying).1 all) ∙ c.if-ready.false)) in
    let short = c.if-room-total_of.true in
    let total = c.total_of.ensures in
    let head = c.in-Some.head in
    let place : head.at ≡ c.self.inside.next = subst (λ (o : Option CellHead). IfSome o (λ h. h.at ≡ c.self.inside.next)) c.in-Some.is c.in_ok-head.ensures.place in
    let stands =
    subst (λ (o : Option CellHead). IfSome o (λ h. HeadBytes (take 36 (drop c.self.inside.next (g.D.Disk.files c.args.disk.now c.file.result).now)) (head_of_cell h)))
    c.in-Some.is (c.in_ok-head.ensures.stands tells) in
    has_room c.self.inside.next c.args.old.now.end examined c.saturating_sub-room.result c.saturating_add.result file current head next
    (read_head c.self.inside.next file next.cell head next.stands place (subst (λ n. HeadBytes (take 36 (drop c.self.inside.next (g.D.Disk.files c.args.disk.now n).now))
    (head_of_cell head)) c.file.ensures stands))
    fits (omega (arith, c.saturating_add.ensures, c.end.ensures)) c.saturating_sub-room.ensures (omega arith)

pub returns-clause-peeked : goal.returns-clause-peeked
returns-clause-peeked g c =
    let enough = c.if-room-total_of.false in
    let total = c.total_of.ensures in
    subst (λ k. HasPeeked c.args.old.now.end k c.in-Some.head) (ap (λ (s : Stage). s.next) c.self.view_is)
    (peeked_of c.self.inside.next c.args.old.now.end c.saturating_sub-room.result c.saturating_add.result c.in-Some.head
    (subst (λ (o : Option CellHead). IfSome o (λ h. h.size ≤ MAX_PHOTO)) c.in-Some.is c.in_ok-head.ensures.size) (omega (arith, c.saturating_add.ensures, c.end.ensures))
    c.saturating_sub-room.ensures (omega arith))

pub returns-clause-cell : goal.returns-clause-cell
returns-clause-cell g c = λ tells sup current fresh examined copying.
    let file = (g.D.Disk.files c.args.disk.now c.args.old.now.file).now in
    let next = has_next sup (g.D.Disk.files c.args.disk.now) c.args.old.now c.args.self.now current fresh examined c.self.inside.next copying (ap (λ (s : Stage). s.next) c.self.view_is)
    (λ all. true≢false (sym ((c.ready.ensures.all sup (g.D.Disk.files c.args.disk.now) current fresh examined copying).1 all) ∙ c.if-ready.false)) in
    let head = c.in-Some.head in
    let place : head.at ≡ c.self.inside.next = subst (λ (o : Option CellHead). IfSome o (λ h. h.at ≡ c.self.inside.next)) c.in-Some.is c.in_ok-head.ensures.place in
    let stands =
    subst (λ (o : Option CellHead). IfSome o (λ h. HeadBytes (take 36 (drop c.self.inside.next (g.D.Disk.files c.args.disk.now c.file.result).now)) (head_of_cell h)))
    c.in-Some.is (c.in_ok-head.ensures.stands tells) in (
      next.cell,
      next.is,
      record {
        place = next.stands.is.place ∙ ap (λ (s : Stage). s.next) c.self.view_is;
        head_is =
            read_head c.self.inside.next file next.cell head next.stands place (subst (λ n. HeadBytes (take 36 (drop c.self.inside.next (g.D.Disk.files c.args.disk.now n).now))
            (head_of_cell head)) c.file.ensures stands);
      },
    )

pub returns-clause-more : goal.returns-clause-more
returns-clause-more g c =
    let left : c.args.old.now.end ≤ c.self.inside.next → ⊥ = λ end. true≢false (sym (c.ready.ensures.end.1 (omega (arith, end, ap (λ (s : Stage). s.next) c.self.view_is))) ∙ c.if-ready.false) in
    omega (arith, left, ap (λ (s : Stage). s.next) c.self.view_is)

pub returns-in_default-clause-place : goal.returns-in_default-clause-place
returns-in_default-clause-place g c = λ k is.
    let next = ap (λ (s : Stage). s.next) c.self.view_is in
    let at : c.self.inside.next ≡ k = cc in
    let left : c.args.old.now.end ≤ c.self.inside.next → ⊥ = λ end. true≢false (sym (c.ready.ensures.end.1 (omega (arith, end, next))) ∙ c.if-ready.false) in
    (sym at ∙ next, omega (arith, at, c.self.invariant.from, c.self.invariant.behind), omega (arith, at, left))

pub returns-then-room-total_of-clause-place : goal.returns-then-room-total_of-clause-place
returns-then-room-total_of-clause-place g c = λ k is.
    let next = ap (λ (s : Stage). s.next) c.self.view_is in
    let at : c.self.inside.next ≡ k = cc in
    let left : c.args.old.now.end ≤ c.self.inside.next → ⊥ = λ end. true≢false (sym (c.ready.ensures.end.1 (omega (arith, end, next))) ∙ c.if-ready.false) in
    (sym at ∙ next, omega (arith, at, c.self.invariant.from, c.self.invariant.behind), omega (arith, at, left))

pub returns-in_default-clause-lacks : goal.returns-in_default-clause-lacks
returns-in_default-clause-lacks g c = λ tells room k is.
    let file = (g.D.Disk.files c.args.disk.now c.args.old.now.file).now in
    let at : c.self.inside.next ≡ k = cc in
    let NoHead : (n : ℕ) → Option CellHead → Type 0 = λ n o. IfNone o ((head : Head) → HeadBytes (take 36 (drop c.self.inside.next (g.D.Disk.files c.args.disk.now n).now)) head → ⊥) in
    subst (λ j. LacksNeedleWithin c.args.old.now.end j file) at
    (no_needle c.self.inside.next c.args.old.now.end file (subst (λ n. NoHead n None) c.file.ensures (subst (NoHead c.file.result) c.in_default.is (c.in_ok-head.ensures.none tells))))

pub returns-then-room-total_of-clause-lacks : goal.returns-then-room-total_of-clause-lacks
returns-then-room-total_of-clause-lacks g c = λ tells room k is.
    let file = (g.D.Disk.files c.args.disk.now c.args.old.now.file).now in
    let at : c.self.inside.next ≡ k = cc in
    let head = c.in-Some.head in
    let stands =
    subst (λ (o : Option CellHead). IfSome o (λ h. HeadBytes (take 36 (drop c.self.inside.next (g.D.Disk.files c.args.disk.now c.file.result).now)) (head_of_cell h)))
    c.in-Some.is (c.in_ok-head.ensures.stands tells) in
    let there : HeadStands c.self.inside.next head (g.D.Disk.files c.args.disk.now c.args.old.now.file).now = record {
      place = subst (λ (o : Option CellHead). IfSome o (λ h. h.at ≡ c.self.inside.next)) c.in-Some.is c.in_ok-head.ensures.place;
      is = subst (λ n. HeadBytes (take 36 (drop c.self.inside.next (g.D.Disk.files c.args.disk.now n).now)) (head_of_cell head)) c.file.ensures stands;
    } in
    let short = c.if-room-total_of.true in
    let total = c.total_of.ensures in
    subst (λ j. LacksNeedleWithin c.args.old.now.end j file) at
    (long_needle c.self.inside.next c.args.old.now.end c.saturating_sub-room.result c.saturating_add.result file head there room
    (omega (arith, c.saturating_add.ensures, c.end.ensures)) c.saturating_sub-room.ensures (omega arith))

pub returns-clause-head : goal.returns-clause-head
returns-clause-head g c = λ tells.
    let head = c.in-Some.head in
    let stands =
    subst (λ (o : Option CellHead). IfSome o (λ h. HeadBytes (take 36 (drop c.self.inside.next (g.D.Disk.files c.args.disk.now c.file.result).now)) (head_of_cell h)))
    c.in-Some.is (c.in_ok-head.ensures.stands tells) in
    let there : HeadStands c.self.inside.next head (g.D.Disk.files c.args.disk.now c.args.old.now.file).now = record {
      place = subst (λ (o : Option CellHead). IfSome o (λ h. h.at ≡ c.self.inside.next)) c.in-Some.is c.in_ok-head.ensures.place;
      is = subst (λ n. HeadBytes (take 36 (drop c.self.inside.next (g.D.Disk.files c.args.disk.now n).now)) (head_of_cell head)) c.file.ensures stands;
    } in
    subst (λ (s : Stage). HeadStands s.next head (g.D.Disk.files c.args.disk.now c.args.old.now.file).now) c.self.view_is there
