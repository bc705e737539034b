-- A worker that is settled has served all its lanes.
use Rattle.std.proofs.Common.{◌≡◌, ℕ, ◌<◌, true, List, [], length, take, get_or, All, Vec, Global, Some, slice_get, refl, ap, sym, ◌∙◌, arith}
use Rattle.std.proofs.lemmas.List.{take_all}
use Rattle.std.proofs.lemmas.Option.{slice_get-get_or, slice_get_within}
use Rattle.hay_queue.specs.declared.rule.Stream.{Stream}
use Rattle.hay_queue.specs.declared.serve.Call.{Call}
use Rattle.hay_queue.specs.Benches.{AreClients, AreSent, Serving, Served}
use Rattle.hay_queue.specs.Desks.{DeskId, Sent, AreAll}
use Rattle.hay_queue.specs.Shares.{lane_at}
use Rattle.hay_queue.specs.Streams.{stream}
use Rattle.hay_queue.proofs.Steps.{item_at}

pub are_all : {J : Type 0} (seat seats : ℕ) (desk : DeskId Call) (jobs : List (Vec J Global)) (n m : ℕ) (clients : List (Sent Call)) → m ≡ n
    → AreSent seat seats desk jobs n clients → AreAll desk m clients
are_all seat seats desk jobs n m clients same sent = record {
  own = λ k d lt. let c = item_at clients k lt in
      let at : slice_get clients k ≡ Some (get_or clients k d) = slice_get-get_or clients k d lt in
      let h = sent.each k (get_or clients k d) at in let len = sent.many in let number : (get_or clients k d).number ≡ k = h.1 in (h.0, omega arith);
  each = λ number lt. let len = sent.many in let c = item_at clients number (omega arith) in (number, c.0, c.1, (sent.each number c.0 c.1).1);
}

module _ {W J O : Type 0} (answers : W → ℕ → J → W → O → Type 0) (seat seats : ℕ) (jobs : List (Vec J Global)) (w : W) where
  pub serves_nothing : (outs : List (Vec O Global)) → AreClients seat seats 0 jobs → Served seat seats answers jobs w w outs
  serves_nothing outs none_here = record {
    steps = [];
    answered = refl;
    own = λ k d lt. absurd (omega arith);
    each = λ client js at. let lane_in = slice_get_within jobs (lane_at seat seats client) js at in let lt = (none_here client).1 lane_in in absurd (omega arith);
  }

  pub served_all : (streams : List Stream) (after : W) (outs : List (Vec O Global)) (n : ℕ) (desk : DeskId Call) → AreClients seat seats n jobs → length streams ≡ n
      → Serving seat seats answers jobs w streams after outs
      → (clients : List (Sent Call)) → AreSent seat seats desk jobs n clients → All (λ (c : Sent Call). slice_get streams c.number ≡ Some (stream c.names true)) clients
      → Served seat seats answers jobs w after outs
  served_all streams after outs n desk all many served clients sent settled = record {
    steps = served.steps;
    answered = served.answered;
    own = served.own;
    each = λ client js at.
        let inside : client < n = (all client).1 (slice_get_within jobs (lane_at seat seats client) js at) in
        let len = sent.many in
        let m = served.many in
        let lt : client < length clients = omega arith in
        let c = item_at clients client lt in
        let out = item_at outs client (omega arith) in
        let is_sent = sent.each client c.0 c.1 in
        let d : Sent Call = get_or clients client c.0 in
        let same : d ≡ c.0 = cc (slice_get-get_or clients client c.0 lt, c.1) in
        let there : slice_get streams client ≡ Some (stream c.0.names true) =
        ap (slice_get streams) (sym (ap (λ (x : Sent Call). x.number) same ∙ is_sent.1)) ∙ (settled client c.0 lt ∙ ap (λ (x : Sent Call). Some (stream x.names true)) same) in
        let h = served.each client (stream c.0.names true) js out.0 there at out.1 in
        let whole : take (length c.0.names) js.items ≡ js.items = take_all (length c.0.names) js.items (let e = is_sent.2 js at in omega arith) in
        (out.0, out.1, h.0, h.1 ∙ whole);
  }
