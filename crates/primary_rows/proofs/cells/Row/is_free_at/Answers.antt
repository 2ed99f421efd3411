use Rattle.std.proofs.Common.{◌≡◌, ◌∙◌, ◌<◌, ◌≤◌, ap, sym, arith, length, nat_lt, false}
use Rattle.layout_meaning.specs.Side.{Row, free_at, is_none}
use Rattle.primary_rows.specs.Cells.{pair_of}
use Rattle.primary_rows.proofs.CellSteps.{free_at-cells, free_at-past_cells}
use Rattle.primary_rows.proofs.cells.Row.is_free_at.Goals as goal

pub returns-then-column-len : goal.returns-then-column-len
returns-then-column-len c =
    let within : c.args.column < length c.self.inside.pairs.items = omega arith in
    c.is_free.ensures ∙ ap (λ p. is_none (pair_of p)) c.index.ensures ∙ sym (free_at-cells c.self.inside.pairs.items c.args.column c.index.result.now within)
    ∙ ap (λ (r : Row). free_at r c.args.column) c.self.view_is

pub returns-else-column-len : goal.returns-else-column-len
returns-else-column-len c =
    let past : length c.self.inside.pairs.items ≤ c.args.column = omega arith in
    let a : nat_lt c.args.column c.len.result ≡ false = grind arith in
    a ∙ sym (free_at-past_cells c.self.inside.pairs.items c.args.column past) ∙ ap (λ (r : Row). free_at r c.args.column) c.self.view_is
