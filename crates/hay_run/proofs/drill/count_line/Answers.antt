use Rattle.std.proofs.Common.{◌≡◌}
use Rattle.hay_reply.specs.Replies.{reply_text}
use Rattle.hay_run.proofs.Drilling.{told_counted}
use Rattle.hay_run.proofs.drill.count_line.Goals as goal

pub returns-in-Some-2 : goal.returns-in-Some-2
returns-in-Some-2 c =
    let read : reply_text c.in-Some-2.reply ≡ c.in-Some.text.now = rw c.in-Some-2.is at c.in_ok-reply.ensures.some in
    told_counted c.count_reply.result c.args.tally.now c.count_reply.new.tally c.args.line.now c.in-Some.text.now c.in-Some-2.reply
    c.count_reply.ensures c.fit_measured.ensures read c.in-Some.ensures.number c.in-Some.ensures.note
