use Rattle.std.proofs.Common.{◌<◌, ◌^◌, arith}
use Rattle.nt_lines.proofs.Numbers.{below_fits}
use Rattle.nt_lines.proofs.enclosed.hex_number.Goals as goal

pub overflow_mul-number : goal.overflow_mul-number
overflow_mul-number c =
    let b : c.loop-digit.number < 16 ^ 7 = below_fits c.loop-digit.number c.loop-digit.digit-index c.loop-digit.invariant.below (omega arith) in omega (arith, b)

pub overflow_add-number : goal.overflow_add-number
overflow_add-number c =
    let b : c.loop-digit.number < 16 ^ 7 = below_fits c.loop-digit.number c.loop-digit.digit-index c.loop-digit.invariant.below (omega arith) in
    let small = c.in_ok-number.ensures.small in omega (arith, b, small)
