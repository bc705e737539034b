use Rattle.std.proofs.Common.{◌≡◌, ℕ, List, ◌++◌, length, drop, ap, sym, ◌∙◌}
use Rattle.hay_reply.specs.Replies.{header_line}
use Rattle.hay_legal.specs.declared.known.Known.{Known}
use Rattle.hay_audit_steps.specs.BoxPlain.{exact_box}
use Rattle.hay_audit.proofs.Heads.{head_is, head_is_not}
use Rattle.hay_audit.proofs.Judging.{other_header_is_unlawful}
use Rattle.hay_audit.proofs.Placing.{begins_so, kept_first}
use Rattle.hay_audit.proofs.judge.audit.Goals as goal

pub returns-then-not-starts_with : goal.returns-then-not-starts_with
returns-then-not-starts_with c =
    let is : c.as_slice.result.now ≡ header_line c.args.settings.now =
    c.as_slice.ensures.value ∙ c.in_ok-header_line.ensures.ok ∙ ap (λ (xs : List ℕ). xs ++ header_line c.args.settings.now) c.new-header.ensures.items in
    other_header_is_unlawful c.args.settings.now c.args.script.now c.args.transcript.now
    (λ front. head_is_not c.args.transcript.now c.as_slice.result.now (sym c.if-not-starts_with.ensures.value) front.0 (front.1 ∙ ap (λ (xs : List ℕ). xs ++ front.0) (sym is)))

pub run-requires-clause-begins : goal.run-requires-clause-begins
run-requires-clause-begins c =
    let is : c.as_slice.result.now ≡ header_line c.args.settings.now =
    c.as_slice.ensures.value ∙ c.in_ok-header_line.ensures.ok ∙ ap (λ (xs : List ℕ). xs ++ header_line c.args.settings.now) c.new-header.ensures.items in
    let long : length c.as_slice.result.now ≡ c.len.result = c.as_slice.ensures.len ∙ sym c.len.ensures in
    begins_so c.args.settings.now c.args.transcript.now (drop c.len.result c.args.transcript.now) c.in_ok-exact_box.field-0
    (c.in_ok-exact_box.ensures ∙ ap (λ (k : Known). exact_box k) c.in_ok-fresh_state.ensures)
    (sym (head_is c.args.transcript.now c.as_slice.result.now (sym c.if-not-starts_with.ensures.value)
    ∙ ap (λ (xs : List ℕ). xs ++ drop (length c.as_slice.result.now) c.args.transcript.now) is
    ∙ ap (λ (n : ℕ). header_line c.args.settings.now ++ drop n c.args.transcript.now) long))

pub run-requires-clause-kept : goal.run-requires-clause-kept
run-requires-clause-kept c =
    let is : c.as_slice.result.now ≡ header_line c.args.settings.now =
    c.as_slice.ensures.value ∙ c.in_ok-header_line.ensures.ok ∙ ap (λ (xs : List ℕ). xs ++ header_line c.args.settings.now) c.new-header.ensures.items in
    let long : length c.as_slice.result.now ≡ c.len.result = c.as_slice.ensures.len ∙ sym c.len.ensures in
    kept_first c.args.settings.now c.args.transcript.now c.as_slice.result.now c.in_ok-exact_box.field-0 c.len.result
    (c.in_ok-exact_box.ensures ∙ ap (λ (k : Known). exact_box k) c.in_ok-fresh_state.ensures) is long
    (head_is c.args.transcript.now c.as_slice.result.now (sym c.if-not-starts_with.ensures.value))
