use Rattle.std.proofs.Common.{rules, arith}
use Rattle.sparql_grammar_meaning.specs.Grammar.{patterns_of}
use Rattle.sparql_terms.specs.TripleSteps.{PairGot, PairStops, pair_got, pair_objects}
use Rattle.sparql_terms.proofs.triples.read_pair.Goals as goal

pub returns-in_err-objects-clause-refuses : goal.returns-in_err-objects-clause-refuses
returns-in_err-objects-clause-refuses c =
    let h : PairStops c.args.tokens.now c.in_err-objects.field-0.0 = pair_objects _ _ _ c.in_ok-verb.ensures.reads c.in_err-objects.ensures.refuses in
    search rules

pub returns-clause-reads : goal.returns-clause-reads
returns-clause-reads c =
    let h : PairGot c.args.subject.now c.args.tokens.now (patterns_of c.args.subject.now c.in_ok-verb.verb c.in_ok-objects.objects) c.in_ok-objects.rest.now =
    pair_got _ _ _ c.in_ok-verb.ensures.reads c.in_ok-objects.ensures.reads in
    search rules
