use Rattle.std.proofs.Common.{◌≡◌, ℕ, Option, Bool, Some, None, drop, length, sym, ap, ◌∙◌, arith}
use Rattle.hay_legal.specs.Known.{machine_of}
use Rattle.hay_audit_steps.specs.Reopen.{kept_by, read_kept}
use Rattle.hay_audit.proofs.Reopened.{kept_done, kept_first, kept_more, kept_other, kept_short}
use Rattle.hay_audit.proofs.keeps.read_kept.Goals as goal

pub loop-j-init : goal.loop-j-init
loop-j-init c = record {
  read = kept_first c.new-all.result (read_kept c.args.settings.now c.args.volume c.args.line 0 c.args.replicas.now c.args.notes.now) c.new-all.ensures;
  within = omega arith;
}

pub returns-then-j-notes-clause-none : goal.returns-then-j-notes-clause-none
returns-then-j-notes-clause-none c =
    kept_short c.args.settings.now c.args.volume c.args.line c.loop-j.j c.loop-j.all c.args.replicas.now c.args.notes.now
    (read_kept c.args.settings.now c.args.volume c.args.line 0 c.args.replicas.now c.args.notes.now) c.loop-j-test.true c.if-j-notes.true (c.loop-j.invariant).read

pub returns-in_default-clause-none : goal.returns-in_default-clause-none
returns-in_default-clause-none c =
    let says : kept_by c.args.volume (machine_of c.args.settings.now c.args.volume c.loop-j.j) c.args.line c.index-notes-j.result ≡ None =
    ap (λ (m : ℕ). kept_by c.args.volume m c.args.line c.index-notes-j.result) (sym c.machine_of.ensures) ∙ sym c.kept_by.ensures ∙ c.in_default.is in
    kept_other c.args.settings.now c.args.volume c.args.line c.loop-j.j c.loop-j.all c.args.replicas.now c.args.notes.now
    (read_kept c.args.settings.now c.args.volume c.args.line 0 c.args.replicas.now c.args.notes.now) c.index-notes-j.result
    c.loop-j-test.true (omega (arith, c.if-j-notes.false)) c.index-notes-j.is says (c.loop-j.invariant).read

pub loop-j-preserved : goal.loop-j-preserved
loop-j-preserved c =
    let says : kept_by c.args.volume (machine_of c.args.settings.now c.args.volume c.loop-j.j) c.args.line c.index-notes-j.result ≡ Some c.in-Some.kept =
    ap (λ (m : ℕ). kept_by c.args.volume m c.args.line c.index-notes-j.result) (sym c.machine_of.ensures) ∙ sym c.kept_by.ensures ∙ c.in-Some.is in
    record {
      read = kept_more c.args.settings.now c.args.volume c.args.line c.loop-j.j c.loop-j.all c.push.new.self c.in-Some.kept c.args.replicas.now c.args.notes.now
          (read_kept c.args.settings.now c.args.volume c.args.line 0 c.args.replicas.now c.args.notes.now) c.index-notes-j.result
          c.loop-j-test.true (omega (arith, c.if-j-notes.false)) c.index-notes-j.is says c.in_ok-push.ensures.ok (c.loop-j.invariant).read;
      within = omega (arith, c.if-j-notes.false);
    }

pub returns-clause-some : goal.returns-clause-some
returns-clause-some c =
    kept_done c.args.settings.now c.args.volume c.args.line c.loop-j.j c.loop-j.all c.args.replicas.now c.args.notes.now
    (read_kept c.args.settings.now c.args.volume c.args.line 0 c.args.replicas.now c.args.notes.now) c.loop-j-test.false (c.loop-j.invariant).read
    ∙ ap (λ (n : ℕ). Some (record { value = c.loop-j.all; rest = drop n c.args.notes.now })) (let e : c.loop-j.j ≡ length c.args.replicas.now = omega arith in e)
