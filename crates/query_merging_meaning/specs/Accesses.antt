-- How often a plan looks at a primary table (this project's own).
use Rattle.std.specs.Prelude.{ℕ, ◌+◌, if◌then◌else◌, List}
use Rattle.std.specs.List.{list_all}
use Rattle.bags.specs.Bag.{total}
use Rattle.rdf_meaning.specs.declared.side.SideName.{SideName}
use Rattle.rdf_meaning.specs.declared.side.SideName.TheVariants.{Direct, Reverse}
use Rattle.layout_meaning.specs.Facts.{FactsOf}
use Rattle.query_meaning.specs.declared.tree.Tree.{Tree, fold-Tree}
use Rattle.query_meaning.specs.declared.tree.Tree.TheOpen.{Tree-F, Leaf, Join, LeftJoin, Union, Filter}
use Rattle.query_plan_meaning.specs.declared.star.Arm.{Arm}
use Rattle.query_plan_meaning.specs.declared.star.Star.{Star}
use Rattle.query_plan_meaning.specs.Stars.{arms_of}
use Rattle.query_plan_meaning.specs.Plans.{is_constant}

abbrev pub columns_on : FactsOf → SideName → ℕ
columns_on facts Direct = facts.direct.count
columns_on facts Reverse = facts.reverse.count

-- one for a star of constant predicates, and one for each column of the side where a predicate is a variable
abbrev pub star_accesses : FactsOf → Star → ℕ
star_accesses facts star = if list_all (λ (a : Arm). is_constant a.pred) (arms_of star.body) then 1 else columns_on facts star.side

abbrev pub accesses_step : FactsOf → Tree-F (List Star) ℕ → ℕ
accesses_step facts (Leaf stars) = total (star_accesses facts) stars
accesses_step facts (Join a b) = a + b
accesses_step facts (LeftJoin a b c) = a + b
accesses_step facts (Union a b) = a + b
accesses_step facts (Filter c a) = a

-- over all stars of the tree
abbrev pub accesses : FactsOf → Tree (List Star) → ℕ
accesses facts = fold-Tree (List Star) ℕ (accesses_step facts)
