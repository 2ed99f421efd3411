use Rattle.std.proofs.Common.{rules, arith}
use Rattle.sparql_grammar_meaning.specs.Grammar.{Truth_, And_}
use Rattle.sparql_conditions.specs.Operands.{StopsOne}
use Rattle.sparql_conditions.specs.AndSteps.{chain_later_stops as and_later_stops}
use Rattle.sparql_conditions.specs.OrSteps.{chain_later_stops as or_later_stops}
use Rattle.sparql_conditions.proofs.conditions.+conditions.Goals as goal

pub read_and-returns-in_err-member-clause-refuses : goal.read_and-returns-in_err-member-clause-refuses
read_and-returns-in_err-member-clause-refuses t c =
    let h : StopsOne And_ c.args.tokens.now c.in_err-member.field-0.0 = and_later_stops _ _ _ _ (rw c.in-Some-after_sign.ensures at c.loop-after.invariant.0) c.in_err-member.ensures.refuses in
    search rules

pub read_truth-returns-in_err-member-clause-refuses : goal.read_truth-returns-in_err-member-clause-refuses
read_truth-returns-in_err-member-clause-refuses t c =
    let h : StopsOne Truth_ c.args.tokens.now c.in_err-member.field-0.0 = or_later_stops _ _ _ _ (rw c.in-Some-after_sign.ensures at c.loop-after.invariant.0) c.in_err-member.ensures.refuses in
    search rules
