use Rattle.std.proofs.Common.{◌≡◌, ◌∷◌, take}
use Rattle.layout_meaning.specs.Columns.{fnv}
use Rattle.pred_columns.proofs.hashes.fnv1a.Given as goal

abbrev pub invariant-loop-byte : goal.invariant-loop-byte
invariant-loop-byte l = l.state ≡ fnv (l.seed ∷ take l.byte-index l.bytes)
