use Rattle.std.proofs.Common.{ap, ◌∙◌}
use Rattle.sparql_lexemes.specs.Declarings.{declaring_of}
use Rattle.sparql_lexemes.specs.Lexed.{begun, step, ended, names_ended}
use Rattle.sparql_lexemes.proofs.lexing.lexemes.Goals as goal

pub tokens-init : goal.tokens-init
tokens-init c = begun _ _ _ _ _ c.new-lexemes.ensures c.new-scope.ensures.declaring c.new-scope.ensures.prefixes c.new-scope.ensures.names

pub tokens-preserved : goal.tokens-preserved
tokens-preserved c =
    step _ _ _ _ _ _ _ _ _ _ _ _ _ _ _ _ c.tokens.invariant c.in-Some.ensures.cases.0 (ap declaring_of c.note.ensures.declaring) c.note.ensures.prefixes c.in_ok-note.ensures.names
    c.in_ok-next.ensures c.in_ok-push.ensures.ok c.in_ok-pass.ensures.declaring c.in_ok-pass.ensures.prefixes c.pass.ensures.names

pub returns-clause-lexemes : goal.returns-clause-lexemes
returns-clause-lexemes c = ended _ _ _ _ _ _ c.tokens.invariant c.in_default.ensures.cases

pub returns-clause-names : goal.returns-clause-names
returns-clause-names c = c.in_ok-names.ensures ∙ names_ended _ _ _ _ _ _ c.tokens.invariant c.in_default.ensures.cases
