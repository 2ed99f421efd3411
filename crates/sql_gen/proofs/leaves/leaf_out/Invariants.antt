use Rattle.std.proofs.Common.{◌≡◌, drop}
use Rattle.sql_gen_outs.specs.Told.{out_of}
use Rattle.sql_gen_tree_laws.specs.TreeOuts.{leaf_out, stars_out}
use Rattle.sql_gen.proofs.leaves.leaf_out.Given as goal

-- the out of all stars is the out so far, and then the stars that are left
abbrev pub invariant-loop-other : goal.invariant-loop-other
invariant-loop-other l = leaf_out l.facts l.ids l.stars ≡ stars_out l.facts l.ids (out_of l.out) (drop l.other-index l.others)
