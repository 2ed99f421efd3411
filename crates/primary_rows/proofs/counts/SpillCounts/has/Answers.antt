use Rattle.std.proofs.Common.{◌∙◌, ap, List, ℕ, nat_lt}
use Rattle.primary_rows.specs.Counted.{count_in}
use Rattle.primary_rows.proofs.CountSteps.{has-count}
use Rattle.primary_rows.proofs.counts.SpillCounts.has.Goals as goal

pub returns : goal.returns
returns c = c.contains_key.ensures ∙ has-count c.self.inside.counts.entries c.args.pred c.self.invariant ∙ ap (λ (es : List (ℕ × ℕ)). nat_lt 0 (count_in es c.args.pred)) c.self.view_is
