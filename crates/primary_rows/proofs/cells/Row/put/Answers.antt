use Rattle.std.proofs.Common.{◌∙◌, ◌≤◌, ap, sym, arith, length, Option, Some}
use Rattle.layout_meaning.specs.Side.{Row, Pair, put_at}
use Rattle.primary_rows.proofs.CellSteps.{put_at-cells, put_at-past_cells, set-fits}
use Rattle.primary_rows.proofs.cells.Row.put.Goals as goal

pub invariant_of-self : goal.invariant_of-self
invariant_of-self c = set-fits c.self.inside.pairs.items c.args.column c.filled.result c.filled.ensures.fits c.self.invariant

pub returns-then-column-len : goal.returns-then-column-len
returns-then-column-len c =
    let new : Option Pair = Some (record { pred = c.args.pred; value = c.args.value }) in
    put_at-cells c.self.inside.pairs.items c.args.column c.filled.result new c.filled.ensures.pair ∙ ap (λ (r : Row). put_at r c.args.column new) c.self.view_is

pub returns-else-column-len : goal.returns-else-column-len
returns-else-column-len c =
    let past : length c.self.inside.pairs.items ≤ c.args.column = omega arith in
    let new : Option Pair = Some (record { pred = c.args.pred; value = c.args.value }) in
    sym (ap (λ (r : Row). put_at r c.args.column new) (sym c.self.view_is) ∙ put_at-past_cells c.self.inside.pairs.items c.args.column new past ∙ c.self.view_is)
