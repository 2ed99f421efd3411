use Rattle.std.proofs.Common.{◌≡◌, map, drop}
use Rattle.layout_meaning.specs.Side.{all_free}
use Rattle.primary_rows.specs.Cells.{pair_of}
use Rattle.primary_rows.proofs.cells.Row.is_free.Given as goal

abbrev pub invariant-loop-pair : goal.invariant-loop-pair
invariant-loop-pair l = all_free l.self ≡ all_free (map pair_of (drop l.pair-index l.pair-items))
