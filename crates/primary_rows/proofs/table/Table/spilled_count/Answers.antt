use Rattle.std.proofs.Common.{◌∙◌, ap, nat_lt, ℕ}
use Rattle.layout_meaning.specs.Rows.{is_spilled}
use Rattle.primary_rows.specs.Counted.{count_in}
use Rattle.primary_rows.proofs.Counting.{spilled-test, recounted}
use Rattle.primary_rows.proofs.table.Table.spilled_count.Goals as goal

pub returns : goal.returns
returns c = recounted (λ (p : ℕ). nat_lt 0 (count_in c.self.inside.spilled p)) (λ (p : ℕ). is_spilled p c.args.self.now) c.len.result
    (λ (p : ℕ). ap (nat_lt 0) (c.self.invariant.spilled p) ∙ spilled-test p c.self.inside.entities.entries ∙ ap (is_spilled p) c.self.view_is) c.len.ensures
