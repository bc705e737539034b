use Rattle.hay_script.proofs.Decoding.{HasRead}
use Rattle.hay_script.proofs.hexadecimal.decode_into.Given as goal

abbrev pub invariant-bytes : goal.invariant-bytes
invariant-bytes l = HasRead l.worst l.i l.text l.out
