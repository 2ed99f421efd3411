use Rattle.std.proofs.Common.{◌≡◌, ◌++◌}
use Rattle.std.specs.Vec.Iter.{into_iter_items}
use Rattle.sql_gen_numbered_meaning.specs.Numbered.{shifted}
use Rattle.sql_gen_outs.proofs.numbers.put_behind.Given as goal

-- all steps are those so far, and then those of the rest
abbrev pub invariant-loop-body : goal.invariant-loop-body
invariant-loop-body l = l.fn.steps.items ++ shifted l.count l.fn.seconds.items ≡ l.steps.items ++ shifted l.count (into_iter_items l.body-iterator)
