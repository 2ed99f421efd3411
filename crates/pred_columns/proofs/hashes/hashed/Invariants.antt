use Rattle.std.proofs.Common.{◌≡◌, ◌≤◌, length}
use Rattle.layout_meaning.specs.Columns.{hash_columns}
use Rattle.pred_columns.proofs.hashes.hashed.Given as goal

abbrev pub invariant-loop-seed : goal.invariant-loop-seed
invariant-loop-seed l = record {
  value : l.columns.items ≡ hash_columns l.count l.bytes l.seed;
  short : length l.columns.items ≤ l.seed;
  room : l.columns.capacity ≡ 4;
}
