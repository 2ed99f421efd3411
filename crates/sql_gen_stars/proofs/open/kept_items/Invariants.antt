use Rattle.std.proofs.Common.{◌≡◌, ◌<◌, ◌++◌, map, drop}
use Rattle.std.specs.List.{AllByRecursion}
use Rattle.sql_gen_star_meaning.specs.StarSelects.{cell_item, kept_sql}
use Rattle.sql_gen_stars.proofs.open.kept_items.Given as goal

-- the columns so far, and then those of the other arms, whose numbers are below 100
abbrev pub invariant-loop-arm : goal.invariant-loop-arm
invariant-loop-arm l = record {
  made : map (cell_item kept_sql) l.arms ≡ l.items ++ map (cell_item kept_sql) (drop l.arm-index l.arms);
  below : AllByRecursion (λ arm. arm < 100) (drop l.arm-index l.arms);
}
