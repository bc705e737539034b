use Rattle.std.proofs.Common.{◌≡◌, ◌∙◌, inl, inr, ℕ, List, length, Err, ap, arith, sym, subst}
use Rattle.hay_disk.specs.Disk.{Files}
use Rattle.hay_open.specs.declared.fault.Refusal.{Refusal}
use Rattle.hay_open.specs.declared.fault.Refusal.TheVariants as refusal
use Rattle.hay_open.specs.Damage.{IsDamagedFront, IsOpeningDamage, IsReadingDamage}
use Rattle.hay_open.specs.Finds.{OpenedAs, ReadsWhole}
use Rattle.hay_open.specs.Stored.{Stored, IsStored, IsVoid, fresh_stored}
use Rattle.std.proofs.Math.Path.{fun_ext}
use Rattle.hay_open.proofs.Faults.{told_damaged, void_is}
use Rattle.hay_open.proofs.Formatting.{void_left}
use Rattle.hay_open.proofs.Opening.{opened_ready}
use Rattle.hay_open.proofs.PlaceLaws.{void_places}
use Rattle.hay_open.proofs.Standing.{opens_stored, opens_void}
use Rattle.hay_open.proofs.Undamaged.{reads_undamaged}
use Rattle.hay_open.proofs.open_replica.Goals as goal

pub returns-in-Ok-format_disk-clause-opened : goal.returns-in-Ok-format_disk-clause-opened
returns-in-Ok-format_disk-clause-opened g c = λ tells s opens.
    let contents : ℕ → List ℕ = λ n. (g.D.Disk.files c.args.disk.now n).now in
    let void : IsVoid contents = void_is (contents 0) (omega (arith, c.in-Ok-eq0.ensures.size tells, c.in-Ok-eq0.field-0-test)) in
    subst (λ (t : Stored). OpenedAs c.args.sup.now (g.D.Disk.files c.format_disk.new.disk) c.in-Ok-format_disk.opened t) (sym (opens_void c.args.sup.now contents s void opens))
    (c.in-Ok-format_disk.ensures.opened tells)

pub returns-in-Ok-format_disk-clause-places : goal.returns-in-Ok-format_disk-clause-places
returns-in-Ok-format_disk-clause-places g c = λ tells s opens.
    let contents : ℕ → List ℕ = λ n. (g.D.Disk.files c.args.disk.now n).now in
    let void : IsVoid contents = void_is (contents 0) (omega (arith, c.in-Ok-eq0.ensures.size tells, c.in-Ok-eq0.field-0-test)) in
    void_places g.D.Piece.Piece.Tells s.cells c.in-Ok-format_disk.opened.cells.items (ap (λ (t : Stored). t.cells) (opens_void c.args.sup.now contents s void opens)) c.in-Ok-format_disk.ensures.none

pub returns-in-Ok-format_disk-clause-ready : goal.returns-in-Ok-format_disk-clause-ready
returns-in-Ok-format_disk-clause-ready g c = λ tells.
    opened_ready c.args.sup.now (g.D.Disk.files c.format_disk.new.disk) c.in-Ok-format_disk.opened fresh_stored (c.in-Ok-format_disk.ensures.opened tells)

pub returns-in-Ok-format_disk-clause-whole : goal.returns-in-Ok-format_disk-clause-whole
returns-in-Ok-format_disk-clause-whole g c = λ tells. inl (void_is (g.D.Disk.files c.args.disk.now 0).now (omega (arith, c.in-Ok-eq0.ensures.size tells, c.in-Ok-eq0.field-0-test)))

pub returns-in-Ok-format_disk-clause-undamaged : goal.returns-in-Ok-format_disk-clause-undamaged
unfolding IsOpeningDamage
returns-in-Ok-format_disk-clause-undamaged g c = λ tells file at damage.
    damage.0 (void_is (g.D.Disk.files c.args.disk.now 0).now (omega (arith, c.in-Ok-eq0.ensures.size tells, c.in-Ok-eq0.field-0-test)))

pub returns-in-Ok-read_disk-clause-whole : goal.returns-in-Ok-read_disk-clause-whole
returns-in-Ok-read_disk-clause-whole g c = λ tells.
    inr (subst (λ (fs : Files). ReadsWhole g.D.Piece.Piece.Tells c.args.sup.now (λ n. (fs n).now) c.in-Ok-read_disk.opened) (c.size.ensures.same tells) (c.in-Ok-read_disk.ensures.whole tells))

pub returns-in-Ok-read_disk-clause-reads : goal.returns-in-Ok-read_disk-clause-reads
returns-in-Ok-read_disk-clause-reads g c = λ tells.
    subst (λ (contents : ℕ → List ℕ). ReadsWhole g.D.Piece.Piece.Tells c.args.sup.now contents c.in-Ok-read_disk.opened) (sym (fun_ext (c.read_disk.ensures.kept tells)))
    (c.in-Ok-read_disk.ensures.whole tells)

pub returns-in-Ok-read_disk-clause-undamaged : goal.returns-in-Ok-read_disk-clause-undamaged
unfolding IsOpeningDamage
returns-in-Ok-read_disk-clause-undamaged g c = λ tells file at damage.
    let contents : ℕ → List ℕ = λ n. (g.D.Disk.files c.args.disk.now n).now in
    let short = g.met.D.Disk.fits in
    let whole =
    subst (λ (fs : Files). ReadsWhole g.D.Piece.Piece.Tells c.args.sup.now (λ n. (fs n).now) c.in-Ok-read_disk.opened) (c.size.ensures.same tells) (c.in-Ok-read_disk.ensures.whole tells) in
    reads_undamaged g.D.Piece.Piece.Tells c.args.sup.now contents c.in-Ok-read_disk.opened file at (λ n. short c.args.disk.now n tells) whole
    (subst (λ (fs : Files). IsDamagedFront c.args.sup.now (λ n. (fs n).now) file at → ⊥) (c.size.ensures.same tells) (c.in-Ok-read_disk.ensures.front tells file at)) damage.1

pub returns-in-Ok-read_disk-clause-opened : goal.returns-in-Ok-read_disk-clause-opened
returns-in-Ok-read_disk-clause-opened g c = λ tells s opens.
    let contents : ℕ → List ℕ = λ n. (g.D.Disk.files c.args.disk.now n).now in
    let some : IsVoid contents → ⊥ = λ void. c.in-Ok.field-0-test.1 (omega (arith, c.in-Ok.ensures.size tells, ap (λ (l : List ℕ). length l) void)) in
    c.in-Ok-read_disk.ensures.opened tells s (subst (λ (fs : Files). IsStored c.args.sup.now (λ n. (fs n).now) s) (sym (c.size.ensures.same tells)) (opens_stored c.args.sup.now contents s some opens))

pub returns-in-Ok-read_disk-clause-places : goal.returns-in-Ok-read_disk-clause-places
returns-in-Ok-read_disk-clause-places g c = λ tells s opens.
    let contents : ℕ → List ℕ = λ n. (g.D.Disk.files c.args.disk.now n).now in
    let some : IsVoid contents → ⊥ = λ void. c.in-Ok.field-0-test.1 (omega (arith, c.in-Ok.ensures.size tells, ap (λ (l : List ℕ). length l) void)) in
    c.in-Ok-read_disk.ensures.places tells s (subst (λ (fs : Files). IsStored c.args.sup.now (λ n. (fs n).now) s) (sym (c.size.ensures.same tells)) (opens_stored c.args.sup.now contents s some opens))

pub returns-in-Err-read_disk-clause-damaged : goal.returns-in-Err-read_disk-clause-damaged
unfolding IsOpeningDamage
returns-in-Err-read_disk-clause-damaged g c = λ tells file at is.
    let contents : ℕ → List ℕ = λ n. (g.D.Disk.files c.args.disk.now n).now in
    let some : IsVoid contents → ⊥ = λ void. c.in-Ok.field-0-test.1 (omega (arith, c.in-Ok.ensures.size tells, ap (λ (l : List ℕ). length l) void)) in
    let was : c.in-Err-read_disk.refusal ≡ refusal.Damaged file at = told_damaged c.in-Err-read_disk.refusal _ file at c.told-in-Err-read_disk.result c.told-in-Err-read_disk.ensures (cc) in (
      some,
      subst (λ (fs : Files). IsReadingDamage c.args.sup.now (λ n. (fs n).now) file at) (c.size.ensures.same tells) (c.in-Err-read_disk.ensures.damaged tells file at (ap (λ (r : Refusal). Err r) was)),
    )

pub returns-in-Err-read_disk-clause-only : goal.returns-in-Err-read_disk-clause-only
returns-in-Err-read_disk-clause-only g c = λ tells s opens file at is.
    let contents : ℕ → List ℕ = λ n. (g.D.Disk.files c.args.disk.now n).now in
    let some : IsVoid contents → ⊥ = λ void. c.in-Ok.field-0-test.1 (omega (arith, c.in-Ok.ensures.size tells, ap (λ (l : List ℕ). length l) void)) in
    let was : c.in-Err-read_disk.refusal ≡ refusal.Damaged file at = told_damaged c.in-Err-read_disk.refusal _ file at c.told-in-Err-read_disk.result c.told-in-Err-read_disk.ensures (cc) in
    c.in-Err-read_disk.ensures.only tells s (subst (λ (fs : Files). IsStored c.args.sup.now (λ n. (fs n).now) s) (sym (c.size.ensures.same tells))
    (opens_stored c.args.sup.now contents s some opens)) file at (ap (λ (r : Refusal). Err r) was)

-- WHAT A STOP LEAVES OF A VOID DISK

pub returns-in-Err-clause-nothing : goal.returns-in-Err-clause-nothing
returns-in-Err-clause-nothing g c = λ tells void image leaves other s opens.
    void_left other (g.D.Disk.files c.args.disk.now) (g.D.Disk.files c.size.new.self) image s (ap (λ (fs : Files). fs 0) (c.size.ensures.same tells)) void (c.requires.solid tells 0) leaves opens

pub returns-in-Ok-format_disk-clause-nothing : goal.returns-in-Ok-format_disk-clause-nothing
returns-in-Ok-format_disk-clause-nothing g c = λ tells void image leaves other s opens.
    c.format_disk.ensures.nothing tells (ap (λ (fs : Files). (fs 0).now) (c.size.ensures.same tells) ∙ void) image leaves other s opens

pub returns-in-Err-format_disk-clause-nothing : goal.returns-in-Err-format_disk-clause-nothing
returns-in-Err-format_disk-clause-nothing g c = λ tells void image leaves other s opens.
    c.format_disk.ensures.nothing tells (ap (λ (fs : Files). (fs 0).now) (c.size.ensures.same tells) ∙ void) image leaves other s opens

pub returns-in-Ok-format_disk-clause-undamaged_now : goal.returns-in-Ok-format_disk-clause-undamaged_now
unfolding IsOpeningDamage
returns-in-Ok-format_disk-clause-undamaged_now g c = λ tells file at damage. c.in-Ok-format_disk.ensures.whole tells file at damage.1

pub returns-in-Ok-read_disk-clause-undamaged_now : goal.returns-in-Ok-read_disk-clause-undamaged_now
returns-in-Ok-read_disk-clause-undamaged_now g c = λ tells file at damage.
    let f = g.D.Disk.files in
    let kept : (λ n. (f c.read_disk.new.disk n).now) ≡ (λ n. (f c.args.disk.now n).now) =
    fun_ext (λ n. c.read_disk.ensures.kept tells n ∙ ap (λ (fs : Files). (fs n).now) (c.size.ensures.same tells)) in
    returns-in-Ok-read_disk-clause-undamaged g c tells file at (subst (λ contents. IsOpeningDamage c.args.sup.now contents file at) kept damage)

-- WHATEVER THE DISK TELLS

pub returns-in-Err-read_disk-clause-file : goal.returns-in-Err-read_disk-clause-file
returns-in-Err-read_disk-clause-file g c = λ file at is.
    let was : c.in-Err-read_disk.refusal ≡ refusal.Damaged file at = told_damaged c.in-Err-read_disk.refusal _ file at c.told-in-Err-read_disk.result c.told-in-Err-read_disk.ensures (cc) in
    c.in-Err-read_disk.ensures.file file at (ap (λ (r : Refusal). Err r) was)
