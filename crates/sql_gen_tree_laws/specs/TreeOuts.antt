-- The out of a plan's tree (this project's own): from the leaves up, as SPARQL 1.1 Query, section 18.5, evaluates the algebra.
use Rattle.std.specs.Prelude.{List, [], ◌∷◌, Option, Some, None}
use Rattle.layout_meaning.specs.Facts.{FactsOf, IdOf}
use Rattle.query_meaning.specs.declared.expression.TruthExpr.{TruthExpr}
use Rattle.query_meaning.specs.declared.tree.Tree.{Tree, fold-Tree}
use Rattle.query_meaning.specs.declared.tree.Tree.TheOpen.{Tree-F, Leaf, Join, LeftJoin, Union, Filter}
use Rattle.query_plan_meaning.specs.declared.star.Star.{Star}
use Rattle.sql_gen_filter_meaning.specs.ConditionVariables.{condition_variables}
use Rattle.sql_gen_filter_meaning.specs.Filters.{filter_sql}
use Rattle.sql_gen_out_laws.specs.Outs.{Out}
use Rattle.sql_gen_node_laws.specs.Nodes.{empty_out, joined_out, optional_out, united_out, filtered_out, conditional_out}
use Rattle.sql_gen_star_out_laws.specs.StarOuts.{star_out}

-- the outs of further stars of a leaf, each joined to those before it
abbrev pub stars_out : FactsOf → List IdOf → Out → List Star → Out
stars_out facts ids x [] = x
stars_out facts ids x (star ∷ stars) = stars_out facts ids (joined_out x (star_out facts ids star)) stars

-- a leaf: its stars from left to right, or one row that binds nothing
abbrev pub leaf_out : FactsOf → List IdOf → List Star → Out
leaf_out facts ids [] = empty_out
leaf_out facts ids (star ∷ stars) = stars_out facts ids (star_out facts ids star) stars

-- an optional part; a condition is in SQL over the terms of its variables
abbrev pub left_joined_out : Out → Out → Option TruthExpr → Out
left_joined_out x y None = optional_out x y
left_joined_out x y (Some f) = conditional_out x y (condition_variables f) (filter_sql f)

abbrev pub tree_out_step : FactsOf → List IdOf → Tree-F (List Star) Out → Out
tree_out_step facts ids (Leaf stars) = leaf_out facts ids stars
tree_out_step facts ids (Join x y) = joined_out x y
tree_out_step facts ids (LeftJoin x y f) = left_joined_out x y f
tree_out_step facts ids (Union x y) = united_out x y
tree_out_step facts ids (Filter f x) = filtered_out x (condition_variables f) (filter_sql f)

-- the out of the whole tree
abbrev pub tree_out : FactsOf → List IdOf → Tree (List Star) → Out
tree_out facts ids = fold-Tree (List Star) Out (tree_out_step facts ids)
