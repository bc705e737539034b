use Rattle.std.proofs.Common.{◌≡◌, ◌++◌, length, string_bytes}
use Rattle.hex.specs.Hex.{encode_lower}
use Rattle.hay_reply.proofs.digits.write_digits.Given as goal

abbrev pub decreases-loop-rest : goal.decreases-loop-rest
decreases-loop-rest l = length l.rest

abbrev pub invariant-loop-rest : goal.invariant-loop-rest
invariant-loop-rest l = string_bytes l.out ++ encode_lower l.rest ≡ string_bytes l.initial.out ++ encode_lower l.bytes
