use Rattle.std.proofs.Common.{rules, arith, ◌<◌, length}
use Rattle.sparql_cursor.specs.Outcomes.{Stops}
use Rattle.sparql_grammar_meaning.specs.Grammar.{Same_}
use Rattle.sparql_terms.specs.TripleSteps.{same_second_stops, same_later_stops, same_step}
use Rattle.sparql_terms.proofs.triples.read_same.Goals as goal

pub returns-in_err-patterns-clause-refuses : goal.returns-in_err-patterns-clause-refuses
returns-in_err-patterns-clause-refuses c =
    let h : Stops Same_ c.args.tokens.now c.in_err-patterns.field-0.0 = same_second_stops _ _ _ _ c.in_ok-subject.ensures.reads c.in_err-patterns.ensures.refuses in
    search rules

pub returns-in_err-more-clause-refuses : goal.returns-in_err-more-clause-refuses
returns-in_err-more-clause-refuses c =
    let h : Stops Same_ c.args.tokens.now c.in_err-more.field-0.0 = same_later_stops _ _ _ _ _ (rw c.in-Some.ensures at c.loop-after.invariant.0) c.in_err-more.ensures.refuses in
    search rules

pub loop-after-preserved : goal.loop-after-preserved
loop-after-preserved c =
    let h = same_step _ _ _ _ _ _ (rw c.in-Some.ensures at c.loop-after.invariant.0) c.in_ok-more.ensures.reads in
    search rules
