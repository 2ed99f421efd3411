use Rattle.std.proofs.Common.{◌≡◌, ◌++◌, drop}
use Rattle.sql_gen_star_meaning.specs.Openings.{cells_of, openings_from}
use Rattle.sql_gen_arms.proofs.openings.cells.Given as goal

-- all numbers are those so far, and then those of the rest
abbrev pub invariant-loop-arm : goal.invariant-loop-arm
invariant-loop-arm l = cells_of (openings_from l.first l.arms) ≡ l.cells ++ cells_of (openings_from l.number (drop l._arm-index l.arms))
