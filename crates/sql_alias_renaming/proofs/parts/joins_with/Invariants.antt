use Rattle.std.proofs.Common.{◌≡◌, ◌++◌, drop}
use Rattle.std.specs.Vec.Iter.{into_iter_items}
use Rattle.sql_alias_renaming.specs.NewNames.{new_name}
use Rattle.sql_alias_renaming.specs.Parts.{joins_with}
use Rattle.sql_alias_renaming.proofs.parts.joins_with.Given as goal

-- what is made in all is what is made so far, and then what is made of the rest
abbrev pub invariant-loop-join : goal.invariant-loop-join
invariant-loop-join l = joins_with (new_name l.names) l.joins l.fn.exprs.items ≡ l.made ++ joins_with (new_name l.names) (drop l.join-index l.joins) (into_iter_items l.exprs)
