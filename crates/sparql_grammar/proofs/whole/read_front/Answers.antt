use Rattle.std.proofs.Common.{rules, arith}
use Rattle.sparql_grammar_meaning.specs.Grammar.{Query_}
use Rattle.sparql_cursor.specs.Outcomes.{Stops}
use Rattle.sparql_grammar.specs.QuerySteps.{query_got, query_tail_stops}
use Rattle.sparql_grammar.proofs.whole.read_front.Goals as goal

pub returns-in_err-tail-clause-refuses : goal.returns-in_err-tail-clause-refuses
returns-in_err-tail-clause-refuses c =
    let h : Stops Query_ c.args.tokens.now c.in_err-tail.field-0.0 = query_tail_stops _ _ _ _ _ c.in_ok-head.ensures.reads c.in_err-tail.ensures.refuses in
    search rules

pub returns-clause-reads : goal.returns-clause-reads
returns-clause-reads c = query_got _ _ _ _ _ _ _ _ c.in_ok-head.ensures.reads c.in_ok-tail.ensures.reads
