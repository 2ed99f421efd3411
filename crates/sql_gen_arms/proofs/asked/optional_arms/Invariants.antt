use Rattle.std.proofs.Common.{◌≡◌, ◌++◌, drop}
use Rattle.sql_gen_star_solution_laws.specs.StarArms.{optional_arms}
use Rattle.sql_gen_star_out_laws.specs.StarOuts.{told_id}
use Rattle.sql_gen_arms.proofs.asked.optional_arms.Given as goal

-- all arms are those so far, and then those of the rest
abbrev pub invariant-loop-arm : goal.invariant-loop-arm
invariant-loop-arm l = l.fn.made ++ optional_arms l.columns (told_id l.ids) l.arms ≡ l.made ++ optional_arms l.columns (told_id l.ids) (drop l.arm-index l.arms)
