use Rattle.std.proofs.Common.{◌≡◌, ◌&&◌, ◌||◌, ℕ, length, take}
use Rattle.pred_colour_meaning.specs.Interference.{has}
use Rattle.pred_colour.specs.GraphRows.{row_at}
use Rattle.pred_colour.proofs.rows.join_rows.Given as goal

abbrev pub invariant-loop-place : goal.invariant-loop-place
invariant-loop-place l = record {
  count : length l.rows ≡ length l.fn.rows;
  joined : (i n : ℕ) → has n (row_at l.rows i) ≡ (has n (row_at l.fn.rows i) || (has i (take l.place-index l.places) && has n l.set));
}
