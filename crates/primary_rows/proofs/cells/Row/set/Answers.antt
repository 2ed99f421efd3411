use Rattle.std.proofs.Common.{◌∙◌, ap, refl}
use Rattle.layout_meaning.specs.Side.{Row, put_at}
use Rattle.primary_rows.specs.Cells.{pair_of}
use Rattle.primary_rows.proofs.CellSteps.{put_at-cells, set-fits}
use Rattle.primary_rows.proofs.cells.Row.set.Goals as goal

pub invariant_of-self : goal.invariant_of-self
invariant_of-self c = set-fits c.self.inside.pairs.items c.args.column c.args.pair c.requires.fits c.self.invariant

pub returns : goal.returns
returns c =
    put_at-cells c.self.inside.pairs.items c.args.column c.args.pair (pair_of c.args.pair) refl
    ∙ ap (λ (r : Row). put_at r c.args.column (pair_of c.args.pair)) c.self.view_is
