use Rattle.std.proofs.Common.{◌≡◌, ◌++◌, length}
use Rattle.sql_gen_star_meaning.specs.Openings.{open_vars, openings_from}
use Rattle.sql_gen_numbered_meaning.specs.NumberedStars.{numbered_last, numbered_openings}
use Rattle.sql_gen_arms.proofs.openings.opened.Given as goal

-- the chain so far and then the steps of the rest are the chain before and then the steps of all
abbrev pub invariant-loop-arm : goal.invariant-loop-arm
invariant-loop-arm l = record {
  steps : l.fn.chain.steps.items ++ numbered_openings l.side (length l.fn.chain.steps.items) l.fn.chain.before l.fn.chain.bound.items (openings_from l.first l.arms) ≡ l.steps.items ++ numbered_openings l.side (length l.steps.items) l.before l.bound.items (openings_from l.number l.rest);
  last : numbered_last (length l.fn.chain.steps.items) l.fn.chain.before (openings_from l.first l.arms) ≡ numbered_last (length l.steps.items) l.before (openings_from l.number l.rest);
  bound : open_vars l.fn.chain.bound.items (openings_from l.first l.arms) ≡ open_vars l.bound.items (openings_from l.number l.rest);
}

abbrev pub decreases-loop-arm : goal.decreases-loop-arm
decreases-loop-arm l = length l.rest
