use Rattle.std.proofs.Common.{rules, arith}
use Rattle.sparql_cursor.specs.Outcomes.{Stops}
use Rattle.sparql_grammar_meaning.specs.Grammar.{Triples_}
use Rattle.sparql_terms.specs.TripleSteps.{triples_rest_stops}
use Rattle.sparql_terms.proofs.triples.+read_triples.Goals as goal

pub returns-in_err-more-in-Some-clause-refuses : goal.returns-in_err-more-in-Some-clause-refuses
returns-in_err-more-in-Some-clause-refuses t c =
    let h : Stops Triples_ c.args.tokens.now c.in_err-more-in-Some.field-0.0 = triples_rest_stops _ _ _ _ (rw c.in-Some.ensures at c.in_ok-patterns.ensures.reads) (c.term_ahead.ensures.yes c.if-term_ahead.true) c.in_err-more-in-Some.ensures.refuses in
    search rules
