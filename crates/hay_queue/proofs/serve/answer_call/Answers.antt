use Rattle.std.proofs.Common.{◌≡◌, ◌<◌, ◌≤◌, length, get_or, rules, refl, ap, sym, subst, ◌∙◌, arith}
use Rattle.std.proofs.lemmas.Option.{get_or_from_slice_get, slice_get_within}
use Rattle.hay_queue.specs.Shares.{lane_at}
use Rattle.hay_queue.proofs.serve.answer_call.Goals as goal

pub returns-in-Some : goal.returns-in-Some
returns-in-Some g c js os at here =
    let lane : c.lane-lane.result ≡ lane_at c.args.share.seat c.args.share.seats c.args.client = search rules in
    let list : c.index-jobs-lane.result ≡ js =
    c.index-jobs-lane.is ∙ (ap (λ n. get_or c.args.jobs.now n c.index-jobs-lane.result) lane ∙ get_or_from_slice_get c.args.jobs.now _ js c.index-jobs-lane.result at) in
    let items : c.as_slice.result.now ≡ js.items = c.as_slice.ensures.value ∙ ap (λ v. v.items) list in
    let inside : c.args.place < length c.as_slice.result.now = search rules in
    let inside_js : c.args.place < length js.items = subst (λ l. c.args.place < length l) items inside in
    let there : c.in-Some.job.now ≡ get_or c.as_slice.result.now c.args.place c.in-Some.job.now = search rules in
    let got : get_or js.items c.args.place c.in-Some.job.now ≡ c.in-Some.job.now = sym (ap (λ l. get_or l c.args.place c.in-Some.job.now) items) ∙ sym there in
    let outs : c.index_mut.result.now ≡ os = c.index_mut.ensures.value ∙ get_or_from_slice_get c.args.bench.now.kit.outs.items c.args.client os c.index_mut.result.now here in record {
      some = λ job is. let same : c.in-Some.job.now ≡ job = sym got ∙ get_or_from_slice_get js.items c.args.place job c.in-Some.job.now is in record {
        out = c.answer-out.result;
        more = c.push_reserved.new.self;
        answered = subst (λ j. g.W.Work.answers c.args.bench.now.worker (lane_at c.args.share.seat c.args.share.seats c.args.client) j c.answer-out.new.self c.answer-out.result) same
            (subst (λ n. g.W.Work.answers c.args.bench.now.worker n c.in-Some.job.now c.answer-out.new.self c.answer-out.result) lane c.answer-out.ensures.answered);
        kept = (search rules, search rules);
        after = refl;
      };
      none = λ past. absurd (omega arith);
    }

pub returns-in_default : goal.returns-in_default
returns-in_default g c js os at here =
    let lane : c.lane-lane.result ≡ lane_at c.args.share.seat c.args.share.seats c.args.client = search rules in
    let list : c.index-jobs-lane.result ≡ js =
    c.index-jobs-lane.is ∙ (ap (λ n. get_or c.args.jobs.now n c.index-jobs-lane.result) lane ∙ get_or_from_slice_get c.args.jobs.now _ js c.index-jobs-lane.result at) in
    let items : c.as_slice.result.now ≡ js.items = c.as_slice.ensures.value ∙ ap (λ v. v.items) list in
    let past : length c.as_slice.result.now ≤ c.args.place = search rules in record {
      some = λ job is. let lt = slice_get_within js.items c.args.place job is in let past_js : length js.items ≤ c.args.place = subst (λ l. length l ≤ c.args.place) items past in absurd (omega arith);
      none = λ p. (refl, refl);
    }
