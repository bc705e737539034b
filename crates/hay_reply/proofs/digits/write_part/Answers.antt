use Rattle.hay_reply.proofs.Encoding.{are_text}
use Rattle.hay_reply.proofs.digits.write_part.Goals as goal

pub text_of-requires : goal.text_of-requires
text_of-requires c = rw c.encode_into.ensures (are_text c.args.part.now)
