use Rattle.std.proofs.Common.{sym, ◌∙◌}
use Rattle.sparql_tokens.specs.Nameless.{passed_more}
use Rattle.sparql_tokens.proofs.names.nameless_run.Goals as goal

pub chars-preserved : goal.chars-preserved
chars-preserved c =
    passed_more c.chars.at c.in-Some.first.now c.chars.rest.now c.in-Some.after.now c.args.chars.now c.chars.invariant c.in-Some.ensures.cases.0 c.if-first-eq58.false
    (sym c.goes_on.ensures ∙ c.if-not-goes_on.false)
