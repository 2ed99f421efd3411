use Rattle.std.proofs.Common.{◌≡◌, ◌++◌, drop}
use Rattle.sql_gen_star_solution_laws.specs.StarArms.{required_arms, required_vars}
use Rattle.sql_gen_star_out_laws.specs.StarOuts.{told_id}
use Rattle.sql_gen_arms.proofs.asked.required_arms.Given as goal

-- all arms are those so far, and then those of the rest, where the variables so far are bound
abbrev pub invariant-loop-arm : goal.invariant-loop-arm
invariant-loop-arm l = record {
  arms : l.fn.made ++ required_arms l.columns (told_id l.ids) l.fn.before.items l.arms ≡ l.made ++ required_arms l.columns (told_id l.ids) l.bound.items (drop l.arm-index l.arms);
  variables : required_vars (told_id l.ids) l.fn.before.items l.arms ≡ required_vars (told_id l.ids) l.bound.items (drop l.arm-index l.arms);
}
