-- Each refusal behind the first value: the law of that step, at what was read before it.
use Rattle.std.proofs.Common.{rules, arith, subst, sym, length, ◌∷◌}
use Rattle.sparql_grammar_meaning.specs.Grammar.{Test_}
use Rattle.sparql_grammar_meaning.specs.declared.lexeme.Lexeme.TheVariants as lexeme
use Rattle.sparql_grammar_meaning.specs.declared.lexeme.Sign.TheVariants as signs
use Rattle.sparql_cursor.specs.Outcomes.{Stops}
use Rattle.sparql_cursor.specs.declared.refusal.Refusal.TheVariants.{Syntax}
use Rattle.sparql_values.specs.TestSteps.{same_no_comma, same_second_stops, same_unclosed}
use Rattle.sparql_values.proofs.tests_of_values.read_same_term.Goals as goal

pub returns-in_default-after_sign-clause-refuses : goal.returns-in_default-after_sign-clause-refuses
returns-in_default-after_sign-clause-refuses c =
    subst (λ z. Stops Test_ (lexeme.Sign signs.SameTerm ∷ z) (Syntax (length c.in_ok-left.rest.now))) (sym c.in-Some.ensures)
    (same_no_comma _ _ _ c.in_ok-left.ensures.reads c.in_default-after_sign.ensures)

pub returns-in_err-right-clause-refuses : goal.returns-in_err-right-clause-refuses
returns-in_err-right-clause-refuses c =
    let h : Stops Test_ (lexeme.Sign signs.SameTerm ∷ c.args.tokens.now) c.in_err-right.field-0.0 =
    subst (λ z. Stops Test_ (lexeme.Sign signs.SameTerm ∷ z) c.in_err-right.field-0.0) (sym c.in-Some.ensures)
    (same_second_stops _ _ _ _ (rw c.in-Some-after_sign.ensures at c.in_ok-left.ensures.reads) c.in_err-right.ensures.refuses) in
    search rules

pub returns-in-None-clause-refuses : goal.returns-in-None-clause-refuses
returns-in-None-clause-refuses c =
    subst (λ z. Stops Test_ (lexeme.Sign signs.SameTerm ∷ z) (Syntax (length c.in_ok-right.rest.now))) (sym c.in-Some.ensures)
    (same_unclosed _ _ _ _ _ (rw c.in-Some-after_sign.ensures at c.in_ok-left.ensures.reads) c.in_ok-right.ensures.reads c.in-None.ensures)
