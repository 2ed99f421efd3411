use Rattle.std.proofs.Common.{◌∙◌, ap, nat_lt}
use Rattle.layout_meaning.specs.Rows.{is_spilled}
use Rattle.primary_rows.proofs.Counting.{spilled-test}
use Rattle.primary_rows.proofs.table.Table.is_spilled.Goals as goal

pub returns : goal.returns
returns c = c.has.ensures ∙ ap (nat_lt 0) (c.self.invariant.spilled c.args.pred) ∙ spilled-test c.args.pred c.self.inside.entities.entries ∙ ap (is_spilled c.args.pred) c.self.view_is
