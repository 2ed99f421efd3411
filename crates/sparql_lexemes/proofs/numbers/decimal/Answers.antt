use Rattle.std.proofs.Common.{◌≤◌, length, arith}
use Rattle.sparql_lexemes.proofs.Decimals.{short_fits}
use Rattle.sparql_lexemes.proofs.numbers.decimal.Goals as goal

pub overflow_mul-number : goal.overflow_mul-number
overflow_mul-number c =
    let some : 1 ≤ length c.digits.rest.now = grind (arith, c.in-Some.ensures.cases) in
    let h = short_fits c.digits.number c.digits.rest.now some c.digits.invariant.short in
    omega (arith, h)

pub overflow_add-number : goal.overflow_add-number
overflow_add-number c =
    let some : 1 ≤ length c.digits.rest.now = grind (arith, c.in-Some.ensures.cases) in
    let h = short_fits c.digits.number c.digits.rest.now some c.digits.invariant.short in
    omega (arith, h, c.digit.ensures.below)
