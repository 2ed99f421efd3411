use Rattle.std.proofs.Common.{subst, sym, length}
use Rattle.sparql_cursor.specs.declared.refusal.Refusal.TheVariants.{Syntax}
use Rattle.sparql_values.specs.ValueSteps.{BracketStops, bracket_unclosed}
use Rattle.sparql_values.proofs.values.+values.Goals as goal

pub read_bracketed-returns-in-None-clause-refuses : goal.read_bracketed-returns-in-None-clause-refuses
read_bracketed-returns-in-None-clause-refuses t c =
    subst (λ z. BracketStops z (Syntax (length c.in_ok-value.rest.now))) (sym c.in-Some.ensures) (bracket_unclosed _ _ _ c.in_ok-value.ensures.reads c.in-None.ensures)
