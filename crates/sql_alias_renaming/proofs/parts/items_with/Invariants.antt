use Rattle.std.proofs.Common.{◌≡◌, ◌++◌, drop}
use Rattle.std.specs.Vec.Iter.{into_iter_items}
use Rattle.sql_alias_renaming.specs.Parts.{items_with}
use Rattle.sql_alias_renaming.proofs.parts.items_with.Given as goal

-- what is made in all is what is made so far, and then what is made of the rest
abbrev pub invariant-loop-item : goal.invariant-loop-item
invariant-loop-item l = items_with l.items l.fn.exprs.items ≡ l.made ++ items_with (drop l.item-index l.items) (into_iter_items l.exprs)
