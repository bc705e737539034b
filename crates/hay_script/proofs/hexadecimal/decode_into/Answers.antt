use Rattle.std.proofs.Common.{arith, refl}
use Rattle.hay_script.proofs.Decoding.{read_pair, read_all}
use Rattle.hay_script.proofs.hexadecimal.decode_into.Goals as goal

pub bytes-preserved : goal.bytes-preserved
bytes-preserved c =
    rw (c.larger-worst.ensures, c.larger.ensures, c.digit_value-high.ensures, c.digit_value-low.ensures)
    (read_pair c.args.text.now c.bytes.out c.bytes.i c.bytes.worst _ (omega arith) (omega arith) refl c.bytes.invariant)

pub returns : goal.returns
returns c = read_all c.args.text.now c.bytes.out c.bytes.worst c.bytes.i (omega arith) (omega arith) c.bytes.invariant
