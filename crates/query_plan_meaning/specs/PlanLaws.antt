-- The conditions and the leaves of each kind of tree.
use Rattle.std.specs.Prelude.{◌≡◌, Bool, ◌&&◌, List, [], ◌∷◌, ◌++◌, Option}
use Rattle.std.proofs.Common.{sym, ap, ◌∙◌}
use Rattle.query_meaning.specs.declared.expression.TruthExpr.{TruthExpr}
use Rattle.query_meaning.specs.declared.tree.Tree.{Tree, out-Tree, fold_out-Tree, map-Tree}
use Rattle.query_meaning.specs.declared.tree.Tree.TheVariants as trees
use Rattle.query_meaning.specs.declared.tree.Tree.TheOpen as layer
use Rattle.query_meaning.specs.declared.tree.Tree.TheOpen.{Tree-F}
use Rattle.query_meaning.specs.declared.tree.Tree.TheFolds.{fold-roll-Tree}
use Rattle.query_meaning.specs.declared.tree.Tree.TheViews as views
use Rattle.query_plan_meaning.specs.Plans.{present, expressions_of, expressions_step, every_leaf, every_leaf_step}

module _ {L : Type 0} where
  pub expressions-Leaf : (l : L) → expressions_of (trees.Leaf l) ≡ []
  expressions-Leaf l = ap (expressions_of {L = L}) (sym (views.rolls-Leaf l)) ∙ fold-roll-Tree L (List TruthExpr) expressions_step (layer.Leaf l)

  pub expressions-Join : (a b : Tree L) → expressions_of (trees.Join a b) ≡ expressions_of a ++ expressions_of b
  expressions-Join a b = ap (expressions_of {L = L}) (sym (views.rolls-Join a b)) ∙ fold-roll-Tree L (List TruthExpr) expressions_step (layer.Join a b)

  pub expressions-LeftJoin : (a b : Tree L) (f : Option TruthExpr) → expressions_of (trees.LeftJoin a b f) ≡ expressions_of a ++ expressions_of b ++ present f
  expressions-LeftJoin a b f = ap (expressions_of {L = L}) (sym (views.rolls-LeftJoin a b f)) ∙ fold-roll-Tree L (List TruthExpr) expressions_step (layer.LeftJoin a b f)

  pub expressions-Union : (a b : Tree L) → expressions_of (trees.Union a b) ≡ expressions_of a ++ expressions_of b
  expressions-Union a b = ap (expressions_of {L = L}) (sym (views.rolls-Union a b)) ∙ fold-roll-Tree L (List TruthExpr) expressions_step (layer.Union a b)

  pub expressions-Filter : (f : TruthExpr) (a : Tree L) → expressions_of (trees.Filter f a) ≡ expressions_of a ++ f ∷ []
  expressions-Filter f a = ap (expressions_of {L = L}) (sym (views.rolls-Filter f a)) ∙ fold-roll-Tree L (List TruthExpr) expressions_step (layer.Filter f a)

module _ {L : Type 0} (fits : L → Bool) where
  pub every-Leaf : (l : L) → every_leaf fits (trees.Leaf l) ≡ fits l
  every-Leaf l = ap (every_leaf fits) (sym (views.rolls-Leaf l)) ∙ fold-roll-Tree L Bool (every_leaf_step fits) (layer.Leaf l)

  pub every-Join : (a b : Tree L) → every_leaf fits (trees.Join a b) ≡ (every_leaf fits a && every_leaf fits b)
  every-Join a b = ap (every_leaf fits) (sym (views.rolls-Join a b)) ∙ fold-roll-Tree L Bool (every_leaf_step fits) (layer.Join a b)

  pub every-LeftJoin : (a b : Tree L) (f : Option TruthExpr) → every_leaf fits (trees.LeftJoin a b f) ≡ (every_leaf fits a && every_leaf fits b)
  every-LeftJoin a b f = ap (every_leaf fits) (sym (views.rolls-LeftJoin a b f)) ∙ fold-roll-Tree L Bool (every_leaf_step fits) (layer.LeftJoin a b f)

  pub every-Union : (a b : Tree L) → every_leaf fits (trees.Union a b) ≡ (every_leaf fits a && every_leaf fits b)
  every-Union a b = ap (every_leaf fits) (sym (views.rolls-Union a b)) ∙ fold-roll-Tree L Bool (every_leaf_step fits) (layer.Union a b)

  pub every-Filter : (f : TruthExpr) (a : Tree L) → every_leaf fits (trees.Filter f a) ≡ every_leaf fits a
  every-Filter f a = ap (every_leaf fits) (sym (views.rolls-Filter f a)) ∙ fold-roll-Tree L Bool (every_leaf_step fits) (layer.Filter f a)

  pub every_at-Leaf : (n : Tree L) (l : L) → out-Tree L n ≡ layer.Leaf l → every_leaf fits n ≡ fits l
  every_at-Leaf n l is = fold_out-Tree L Bool (every_leaf_step fits) n ∙ ap (λ (d : Tree-F L (Tree L)). every_leaf_step fits (map-Tree L (Tree L) Bool (every_leaf fits) d)) is

  pub every_at-Join : (n : Tree L) (a b : Tree L) → out-Tree L n ≡ layer.Join a b → every_leaf fits n ≡ (every_leaf fits a && every_leaf fits b)
  every_at-Join n a b is = fold_out-Tree L Bool (every_leaf_step fits) n ∙ ap (λ (d : Tree-F L (Tree L)). every_leaf_step fits (map-Tree L (Tree L) Bool (every_leaf fits) d)) is

  pub every_at-LeftJoin : (n : Tree L) (a b : Tree L) (f : Option TruthExpr) → out-Tree L n ≡ layer.LeftJoin a b f → every_leaf fits n ≡ (every_leaf fits a && every_leaf fits b)
  every_at-LeftJoin n a b f is = fold_out-Tree L Bool (every_leaf_step fits) n ∙ ap (λ (d : Tree-F L (Tree L)). every_leaf_step fits (map-Tree L (Tree L) Bool (every_leaf fits) d)) is

  pub every_at-Union : (n : Tree L) (a b : Tree L) → out-Tree L n ≡ layer.Union a b → every_leaf fits n ≡ (every_leaf fits a && every_leaf fits b)
  every_at-Union n a b is = fold_out-Tree L Bool (every_leaf_step fits) n ∙ ap (λ (d : Tree-F L (Tree L)). every_leaf_step fits (map-Tree L (Tree L) Bool (every_leaf fits) d)) is

  pub every_at-Filter : (n : Tree L) (f : TruthExpr) (a : Tree L) → out-Tree L n ≡ layer.Filter f a → every_leaf fits n ≡ every_leaf fits a
  every_at-Filter n f a is = fold_out-Tree L Bool (every_leaf_step fits) n ∙ ap (λ (d : Tree-F L (Tree L)). every_leaf_step fits (map-Tree L (Tree L) Bool (every_leaf fits) d)) is
