use Rattle.std.proofs.Common.{◌≡◌, ◌++◌, drop}
use Rattle.std.specs.Vec.Iter.{into_iter_items}
use Rattle.sql_alias_renaming.specs.Parts.{keys_with}
use Rattle.sql_alias_renaming.proofs.parts.keys_with.Given as goal

-- what is made in all is what is made so far, and then what is made of the rest
abbrev pub invariant-loop-key : goal.invariant-loop-key
invariant-loop-key l = keys_with l.keys l.fn.exprs.items ≡ l.made ++ keys_with (drop l.key-index l.keys) (into_iter_items l.exprs)
