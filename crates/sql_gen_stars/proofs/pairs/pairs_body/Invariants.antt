use Rattle.std.proofs.Common.{◌≡◌}
use Rattle.sql_gen_star_meaning.specs.PairSelects.{pair_cores}
use Rattle.sql_gen_stars.proofs.pairs.pairs_body.Given as goal

-- the SELECTs of the columns so far
abbrev pub invariant-loop-pair : goal.invariant-loop-pair
invariant-loop-pair l = l.cores ≡ pair_cores l.primary l.entity l.predicate l.pair 0
