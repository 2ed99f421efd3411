-- The out of each kind of tree, and what its conditions pass.
use Rattle.std.specs.Prelude.{◌≡◌, ◌∷◌, [], List, Option}
use Rattle.std.proofs.Common.{sym, ap, ◌∙◌}
use Rattle.layout_meaning.specs.Facts.{FactsOf, IdOf}
use Rattle.query_meaning.specs.declared.expression.TruthExpr.{TruthExpr}
use Rattle.query_meaning.specs.declared.tree.Tree.{Tree, out-Tree, fold_out-Tree, map-Tree}
use Rattle.query_meaning.specs.declared.tree.Tree.TheVariants as trees
use Rattle.query_meaning.specs.declared.tree.Tree.TheOpen as layer
use Rattle.query_meaning.specs.declared.tree.Tree.TheOpen.{Tree-F}
use Rattle.query_meaning.specs.declared.tree.Tree.TheFolds.{fold-roll-Tree}
use Rattle.query_meaning.specs.declared.tree.Tree.TheViews as views
use Rattle.query_plan_meaning.specs.declared.star.Star.{Star}
use Rattle.sql_gen_filter_meaning.specs.ConditionVariables.{condition_variables}
use Rattle.sql_gen_filter_meaning.specs.Filters.{filter_sql}
use Rattle.sql_gen_out_laws.specs.Outs.{Out}
use Rattle.sql_gen_node_laws.specs.Nodes.{joined_out, united_out, filtered_out}
use Rattle.sql_gen_tree_laws.specs.TreeOuts.{leaf_out, left_joined_out, tree_out, tree_out_step}

abbrev Stars : Type 0
Stars = Tree (List Star)

module _ (facts : FactsOf) (ids : List IdOf) where
  abbrev T : Stars → Out
  T t = tree_out facts ids t

  made : (n : Stars) (d : Tree-F (List Star) Stars) → n ≡ views.roll-Tree (List Star) d → T n ≡ tree_out_step facts ids (map-Tree (List Star) Stars Out T d)
  made n d is = ap T is ∙ fold-roll-Tree (List Star) Out (tree_out_step facts ids) d

  pub tree-Leaf : (stars : List Star) → tree_out facts ids (trees.Leaf stars) ≡ leaf_out facts ids stars
  tree-Leaf stars = made (trees.Leaf stars) (layer.Leaf stars) (sym (views.rolls-Leaf stars))

  pub tree-Join : (a b : Stars) → tree_out facts ids (trees.Join a b) ≡ joined_out (tree_out facts ids a) (tree_out facts ids b)
  tree-Join a b = made (trees.Join a b) (layer.Join a b) (sym (views.rolls-Join a b))

  pub tree-LeftJoin : (a b : Stars) (f : Option TruthExpr) → tree_out facts ids (trees.LeftJoin a b f) ≡ left_joined_out (tree_out facts ids a) (tree_out facts ids b) f
  tree-LeftJoin a b f = made (trees.LeftJoin a b f) (layer.LeftJoin a b f) (sym (views.rolls-LeftJoin a b f))

  pub tree-Union : (a b : Stars) → tree_out facts ids (trees.Union a b) ≡ united_out (tree_out facts ids a) (tree_out facts ids b)
  tree-Union a b = made (trees.Union a b) (layer.Union a b) (sym (views.rolls-Union a b))

  pub tree-Filter : (f : TruthExpr) (a : Stars) → tree_out facts ids (trees.Filter f a) ≡ filtered_out (tree_out facts ids a) (condition_variables f) (filter_sql f)
  tree-Filter f a = made (trees.Filter f a) (layer.Filter f a) (sym (views.rolls-Filter f a))

  -- the same by the first level of a tree
  opened : (n : Stars) (d : Tree-F (List Star) Stars) → out-Tree (List Star) n ≡ d → T n ≡ tree_out_step facts ids (map-Tree (List Star) Stars Out T d)
  opened n d is = fold_out-Tree (List Star) Out (tree_out_step facts ids) n ∙ ap (λ (e : Tree-F (List Star) Stars). tree_out_step facts ids (map-Tree (List Star) Stars Out T e)) is

  pub tree_at-Leaf : (n : Stars) (stars : List Star) → out-Tree (List Star) n ≡ layer.Leaf stars → tree_out facts ids n ≡ leaf_out facts ids stars
  tree_at-Leaf n stars is = opened n (layer.Leaf stars) is

  pub tree_at-Join : (n a b : Stars) → out-Tree (List Star) n ≡ layer.Join a b → tree_out facts ids n ≡ joined_out (tree_out facts ids a) (tree_out facts ids b)
  tree_at-Join n a b is = opened n (layer.Join a b) is

  pub tree_at-LeftJoin : (n a b : Stars) (f : Option TruthExpr) → out-Tree (List Star) n ≡ layer.LeftJoin a b f → tree_out facts ids n ≡ left_joined_out (tree_out facts ids a) (tree_out facts ids b) f
  tree_at-LeftJoin n a b f is = opened n (layer.LeftJoin a b f) is

  pub tree_at-Union : (n a b : Stars) → out-Tree (List Star) n ≡ layer.Union a b → tree_out facts ids n ≡ united_out (tree_out facts ids a) (tree_out facts ids b)
  tree_at-Union n a b is = opened n (layer.Union a b) is

  pub tree_at-Filter : (n a : Stars) (f : TruthExpr) → out-Tree (List Star) n ≡ layer.Filter f a → tree_out facts ids n ≡ filtered_out (tree_out facts ids a) (condition_variables f) (filter_sql f)
  tree_at-Filter n a f is = opened n (layer.Filter f a) is
