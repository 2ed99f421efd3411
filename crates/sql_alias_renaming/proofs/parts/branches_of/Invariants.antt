use Rattle.std.proofs.Common.{◌≡◌, ◌++◌}
use Rattle.std.specs.Vec.Iter.{into_iter_items}
use Rattle.sql_alias_renaming.specs.Parts.{branches_of}
use Rattle.sql_alias_renaming.proofs.parts.branches_of.Given as goal

-- what is made in all is what is made so far, and then what is made of the rest
abbrev pub invariant-loop-test : goal.invariant-loop-test
invariant-loop-test l = branches_of l.fn.tests.items l.fn.answers.items ≡ l.made ++ branches_of (into_iter_items l.test-iterator) (into_iter_items l.answers)
