use Rattle.std.proofs.Common.{ap, ◌∙◌}
use Rattle.sparql_faults.specs.declared.limits.Counts.{Counts}
use Rattle.sparql_faults.specs.Passing.{limit_of}
use Rattle.sparql_faults.specs.States.{counts_of}
use Rattle.sparql_faults.specs.Faults.{limit_step}
use Rattle.sparql_faults.proofs.faults.take.Goals as goal

pub returns-in-Some : goal.returns-in-Some
returns-in-Some c =
    limit_step _ _ _ _ _ _ _ _ _ c.is_unknown.ensures c.if-is_unknown.false c.in_ok-next.ensures c.is_too_deep-deep.ensures c.has_long_count-long.ensures
    (c.limit_of.ensures ∙ ap (λ (z : Counts). limit_of z c.counts.result c.is_too_deep-deep.result c.has_long_count-long.result) c.counts-before.ensures
    ∙ ap (λ (z : Counts). limit_of (counts_of c.args.state) z c.is_too_deep-deep.result c.has_long_count-long.result) c.counts.ensures)
    c.in-Some.is
