use Rattle.std.proofs.Common.{◌≡◌, ◌++◌, map, drop}
use Rattle.sql_gen_star_meaning.specs.StarSelects.{branch_sql}
use Rattle.sql_gen_stars.proofs.access.found.Given as goal

-- the branches so far, and then those of the other columns
abbrev pub invariant-loop-pair : goal.invariant-loop-pair
invariant-loop-pair l = map (branch_sql l.id) l.pairs ≡ l.branches ++ map (branch_sql l.id) (drop l.pair-index l.pairs)
