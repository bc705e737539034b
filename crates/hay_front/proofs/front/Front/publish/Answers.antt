use Rattle.std.proofs.Common.{◌≡◌, false, sym, ap, ◌∙◌, filter, length}
use Rattle.hay_front.specs.Fronts.{witness, with_deed, logged}
use Rattle.hay_front.specs.Entries.{entries}
use Rattle.hay_front.proofs.Entries.{entries_more, length_more}
use Rattle.hay_front.proofs.front.Front.publish.Goals as goal

pub invariant_of-self : goal.invariant_of-self
invariant_of-self g c = let i = c.self.invariant in record { there = (i.there.0, i.there.1, i.there.2, λ e. absurd (cc e)); whole = λ e. absurd (cc e); log_is = i.log_is }

pub invariant_of-self-in_err-reserve : goal.invariant_of-self-in_err-reserve
invariant_of-self-in_err-reserve g c = let i = c.self.invariant in
    record { there = (i.there.0, i.there.1, i.there.2, λ e. absurd (cc e)); whole = λ e. absurd (cc e); log_is = ap length c.reserve.ensures.items ∙ i.log_is }

pub show-requires-clause-front : goal.show-requires-clause-front
show-requires-clause-front g c = let k = g.T.View in let i = c.self.invariant in let d = k.deed c.args.op in
    let hist = i.whole (ap (λ f. f.closed) c.self.view_is ∙ c.requires.open) in
    c.front_behind-front.ensures ∙ (ap (λ b. length (logged b c.reserve.new.self.items c.args.tag)) c.counts-is_counted.ensures
    ∙ (length_more k.is_counted c.reserve.new.self.items c.self.inside.shown.deeds c.args.tag d (ap length c.reserve.ensures.items ∙ i.log_is)
    ∙ ap (λ w. length (filter k.is_counted w.deeds)) (sym (c.seen.ensures.same ∙ (c.known-all.ensures.same ∙ (c.add.ensures ∙ ap (λ w. with_deed w d) hist))))))

pub invariant_of-self-in-Err : goal.invariant_of-self-in-Err
invariant_of-self-in-Err g c = let i = c.self.invariant in
    let taken : c.in-Some.pair ≡ i.there.0 = cc (c.in-Some.is, c.take.ensures.value, i.there.1) in
    record {
      there = (
        c.in-Err.pair,
        c.put_back-in-Err.ensures,
        ap (λ s. witness s.seen.book s.seen.log) c.in-Err.ensures.refused
            ∙ (ap (λ p. witness p.shown.seen.book p.shown.seen.log) taken ∙ i.there.2),
        λ e. absurd (cc e),
      );
      whole = λ e. absurd (cc e);
      log_is = ap length c.reserve.ensures.items ∙ i.log_is;
    }

pub invariant_of-result : goal.invariant_of-result
invariant_of-result g c = let k = g.T.View in let i = c.self.invariant in let d = k.deed c.args.op in
    let hist = i.whole (ap (λ f. f.closed) c.self.view_is ∙ c.requires.open) in
    c.front_behind-front.ensures ∙ (ap (λ b. length (logged b c.reserve.new.self.items c.args.tag)) c.counts-is_counted.ensures
    ∙ (length_more k.is_counted c.reserve.new.self.items c.self.inside.shown.deeds c.args.tag d (ap length c.reserve.ensures.items ∙ i.log_is)
    ∙ ap (λ w. length (filter k.is_counted w.deeds)) (sym (c.known-all.ensures.same ∙ (c.add.ensures ∙ ap (λ w. with_deed w d) hist)))))

pub invariant_of-self-2 : goal.invariant_of-self-2
invariant_of-self-2 g c = let k = g.T.View in let i = c.self.invariant in let d = k.deed c.args.op in
    let hist = i.whole (ap (λ f. f.closed) c.self.view_is ∙ c.requires.open) in
    let all_is = c.again.ensures.same ∙ (c.known-all.ensures.same ∙ (c.add.ensures ∙ ap (λ w. with_deed w d) hist)) in
    record {
      there = (c.in-Ok.pair, c.put_back.ensures, ap (λ s. witness s.book s.log) c.in-Ok.ensures.shown.0 ∙ (c.seen.ensures.same ∙ sym c.again.ensures.same), λ _. c.in-Ok.ensures.shown.1);
      whole = λ _. sym (c.again.ensures.same ∙ c.known-all.ensures.same);
      log_is = ap length c.enter.ensures ∙ (ap (λ b. length (logged b c.reserve.new.self.items c.args.tag)) c.counts-is_counted.ensures
          ∙ (length_more k.is_counted c.reserve.new.self.items c.self.inside.shown.deeds c.args.tag d (ap length c.reserve.ensures.items ∙ i.log_is)
          ∙ ap (λ w. length (filter k.is_counted w.deeds)) (sym all_is)));
    }

pub returns-clause-done : goal.returns-clause-done
returns-clause-done g c = let k = g.T.View in let i = c.self.invariant in let d = k.deed c.args.op in
    let hist = i.whole (ap (λ f. f.closed) c.self.view_is ∙ c.requires.open) in
    let all_is = c.again.ensures.same ∙ (c.known-all.ensures.same ∙ (c.add.ensures ∙ ap (λ w. with_deed w d) hist)) in
    let shown = all_is ∙ ap (λ f. with_deed f.shown d) c.self.view_is in
    let tags = c.enter.ensures ∙ ap (λ b. logged b c.reserve.new.self.items c.args.tag) c.counts-is_counted.ensures in
    let log = ap (λ w. entries c.enter.new.log.items (filter k.is_counted w.deeds)) all_is
    ∙ (ap (λ ts. entries ts (filter k.is_counted (with_deed c.self.inside.shown d).deeds)) tags
    ∙ (entries_more k.is_counted c.reserve.new.self.items c.self.inside.shown.deeds c.args.tag d (ap length c.reserve.ensures.items ∙ i.log_is)
    ∙ (ap (λ ts. logged (k.is_counted d) (entries ts (filter k.is_counted c.self.inside.shown.deeds)) (record { tag = c.args.tag; deed = d })) c.reserve.ensures.items
    ∙ ap (λ f. logged (k.is_counted d) f.log (record { tag = c.args.tag; deed = d })) c.self.view_is))) in
    (λ j. record { shown = shown j; log = log j; closed = false }, sym c.again.ensures.same)
