use Rattle.std.proofs.Common.{◌≡◌, ◌<◌, vec_len, rules, subst}
use Rattle.hay_queue.specs.Benches.{IsPost}
use Rattle.hay_queue.specs.declared.serve.Post.{Post}
use Rattle.hay_queue.proofs.serve.kit_for.Goals as goal

pub returns : goal.returns
returns g c =
    let n = c.clients-clients.result in
    let some : 0 < n = search rules in
    let many : vec_len c.in_ok-desk.clients ≡ n = search rules in
    let post : Post = record { desk = c.in_ok-desk.desk; senders = record { clients = c.in_ok-desk.clients; ended = c.in_ok-ended.ended }; taker = c.in_ok-desk.taker } in record {
      clients = n;
      all = c.clients-clients.ensures.all;
      rooms = c.in_ok-outs.ensures;
      none = λ is. absurd cc;
      post = λ p is. let same : post ≡ p = cc is in (
        some,
        subst (IsPost c.args.share.seat c.args.share.seats n) same (record {
          many = many;
          senders = record { clients = search rules; ended = (search rules, search rules) };
          taker = search rules;
        }),
      );
    }
