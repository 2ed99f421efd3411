use Rattle.std.proofs.Common.{subst, sym, length}
use Rattle.sparql_grammar_meaning.specs.Grammar.{Values_, values}
use Rattle.sparql_cursor.specs.Outcomes.{Gets, Stops}
use Rattle.sparql_cursor.specs.declared.refusal.Refusal.TheVariants.{Syntax}
use Rattle.sparql_values.specs.ListSteps.{list_some, list_unclosed}
use Rattle.sparql_values.proofs.lists.read_values.Goals as goal

pub returns-in-Some-after_sign-clause-reads : goal.returns-in-Some-after_sign-clause-reads
returns-in-Some-after_sign-clause-reads c =
    subst (λ z. Gets Values_ z (values c.in_ok-values.values) c.in-Some-after_sign.rest.now) (sym c.in-Some.ensures)
    (list_some _ _ _ (c.value_ahead.ensures.yes c.if-value_ahead.true) (rw c.in-Some-after_sign.ensures at c.in_ok-values.ensures.reads))

pub returns-in-None-clause-refuses : goal.returns-in-None-clause-refuses
returns-in-None-clause-refuses c =
    subst (λ z. Stops Values_ z (Syntax (length c.in_ok-values.rest.now))) (sym c.in-Some.ensures)
    (list_unclosed _ _ _ (c.value_ahead.ensures.yes c.if-value_ahead.true) c.in_ok-values.ensures.reads c.in-None.ensures)
