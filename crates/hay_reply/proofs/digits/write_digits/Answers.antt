use Rattle.std.proofs.Common.{arith, ◌∙◌, ◌≡◌, ◌+◌, ◌++◌, [], length, take, string_bytes}
use Rattle.hex.specs.Hex.{encode_lower}
use Rattle.hay_reply.proofs.Encoding.{part_written, all_written, less_is_left, none_is_left}
use Rattle.hay_reply.proofs.digits.write_digits.Goals as goal

pub loop-rest-smaller : goal.loop-rest-smaller
loop-rest-smaller c =
    let all : c.min.result + length c.split_at.result.1.now ≡ length c.loop-rest.rest.now = omega (arith, c.split_at.ensures.back_len, c.min.ensures) in
    less_is_left (length c.loop-rest.rest.now) c.min.result (length c.split_at.result.1.now) c.loop-rest-test.ensures c.min.ensures all

pub loop-rest-preserved : goal.loop-rest-preserved
loop-rest-preserved c =
    let out = string_bytes c.loop-rest.out in
    let wrote : string_bytes c.write_part.new.out ≡ out ++ encode_lower (take c.min.result c.loop-rest.rest.now) = rw (← c.split_at.ensures.front) c.in_ok-write_part.ensures in
    rw c.split_at.ensures.back (part_written out c.loop-rest.rest.now (string_bytes c.write_part.new.out) c.min.result wrote) ∙ c.loop-rest.invariant

pub returns : goal.returns
returns c =
    let none = none_is_left c.loop-rest.rest.now c.loop-rest-test.ensures in
    let all : string_bytes c.loop-rest.out ++ encode_lower [] ≡ string_bytes c.reserve.new.self ++ encode_lower c.args.bytes.now = rw none at c.loop-rest.invariant in
    rw (all_written (string_bytes c.loop-rest.out), c.in_ok-reserve.ensures.bytes) at all
