use Rattle.std.proofs.Common.{◌≡◌, ◌+◌, ◌-◌, ◌*◌, ◌^◌, min, slice_index_or, arith}
use Rattle.param_lines.proofs.Near.{near_more}
use Rattle.param_lines.proofs.number.near_number.Goals as goal

pub loop-digit-preserved : goal.loop-digit-preserved
loop-digit-preserved c =
    let i = c.loop-digit.digit-index in
    let e : c.min-number.result ≡ min (c.loop-digit.number * 10 + (slice_index_or c.args.digits.now i 0 - 48)) (2 ^ 65) = omega (arith, c.min-number.ensures) in
    near_more i c.loop-digit.number c.min-number.result c.args.digits.now c.loop-digit.invariant c.loop-digit-test.true e
