use Rattle.std.proofs.Common.{rules, arith}
use Rattle.sparql_cursor.specs.Outcomes.{Stops}
use Rattle.sparql_grammar_meaning.specs.Grammar.{Objs_}
use Rattle.sparql_terms.specs.TripleSteps.{objects_later_stops}
use Rattle.sparql_terms.proofs.objects.read_objects.Goals as goal

pub returns-in_err-object-clause-refuses : goal.returns-in_err-object-clause-refuses
returns-in_err-object-clause-refuses c =
    let h : Stops Objs_ c.args.tokens.now c.in_err-object.field-0.0 = objects_later_stops _ _ _ _ (rw c.in-Some.ensures at c.loop-after.invariant.0) c.in_err-object.ensures.refuses in
    search rules
