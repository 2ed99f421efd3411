use Rattle.std.proofs.Common.{◌≡◌, drop}
use Rattle.sql_gen_star_out_laws.specs.StarOuts.{told_id}
use Rattle.sql_gen_arms.proofs.asked.told_id.Given as goal

-- what is told of the term by all pairs is what the rest tells
abbrev pub invariant-loop-pair : goal.invariant-loop-pair
invariant-loop-pair l = told_id l.ids l.term ≡ told_id (drop l.pair-index l.ids) l.term
