use Rattle.std.proofs.Common.{◌≡◌, refl, replicate, pos}
use Rattle.primary_rows.specs.declared.cells.Pair as cells
use Rattle.primary_rows.proofs.CellSteps.{free-cells, free-fits}
use Rattle.primary_rows.proofs.cells.Row.free.Goals as goal

pub invariant_of-result : goal.invariant_of-result
invariant_of-result c =
    let z : cells.Pair = record { pred = 0; value = pos 0 } in
    let e : c.in_ok-pairs.pairs.items ≡ replicate c.args.width z = c.in_ok-pairs.ensures.items_if_clones_equal (λ (y : cells.Pair) (h : y ≡ z). h) in
    rw e (free-fits c.args.width z refl)

pub returns : goal.returns
returns c =
    let z : cells.Pair = record { pred = 0; value = pos 0 } in
    let e : c.in_ok-pairs.pairs.items ≡ replicate c.args.width z = c.in_ok-pairs.ensures.items_if_clones_equal (λ (y : cells.Pair) (h : y ≡ z). h) in
    rw e (free-cells c.args.width z refl)
