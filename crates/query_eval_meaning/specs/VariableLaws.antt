-- The variables of each kind of tree.
use Rattle.std.specs.Prelude.{◌≡◌, Option}
use Rattle.std.proofs.Common.{sym, ap, ◌∙◌}
use Rattle.query_meaning.specs.declared.expression.TruthExpr.{TruthExpr}
use Rattle.query_meaning.specs.declared.tree.Tree.{Tree, out-Tree, fold_out-Tree, map-Tree}
use Rattle.query_meaning.specs.declared.tree.Tree.TheVariants as trees
use Rattle.query_meaning.specs.declared.tree.Tree.TheOpen as layer
use Rattle.query_meaning.specs.declared.tree.Tree.TheOpen.{Tree-F}
use Rattle.query_meaning.specs.declared.tree.Tree.TheFolds.{fold-roll-Tree}
use Rattle.query_meaning.specs.declared.tree.Tree.TheViews as views
use Rattle.query_eval_meaning.specs.Variables.{Variables, in_both, in_either, variables_of, variables_step, certain_of, certain_step}

module _ {L : Type 0} (leaves : L → Variables) where
  pub variables-Leaf : (l : L) → variables_of leaves (trees.Leaf l) ≡ leaves l
  variables-Leaf l = ap (variables_of leaves) (sym (views.rolls-Leaf l)) ∙ fold-roll-Tree L Variables (variables_step leaves) (layer.Leaf l)

  pub variables-Join : (a b : Tree L) → variables_of leaves (trees.Join a b) ≡ in_either (variables_of leaves a) (variables_of leaves b)
  variables-Join a b = ap (variables_of leaves) (sym (views.rolls-Join a b)) ∙ fold-roll-Tree L Variables (variables_step leaves) (layer.Join a b)

  pub variables-LeftJoin : (a b : Tree L) (f : Option TruthExpr) → variables_of leaves (trees.LeftJoin a b f) ≡ in_either (variables_of leaves a) (variables_of leaves b)
  variables-LeftJoin a b f = ap (variables_of leaves) (sym (views.rolls-LeftJoin a b f)) ∙ fold-roll-Tree L Variables (variables_step leaves) (layer.LeftJoin a b f)

  pub variables-Union : (a b : Tree L) → variables_of leaves (trees.Union a b) ≡ in_either (variables_of leaves a) (variables_of leaves b)
  variables-Union a b = ap (variables_of leaves) (sym (views.rolls-Union a b)) ∙ fold-roll-Tree L Variables (variables_step leaves) (layer.Union a b)

  pub variables-Filter : (f : TruthExpr) (a : Tree L) → variables_of leaves (trees.Filter f a) ≡ variables_of leaves a
  variables-Filter f a = ap (variables_of leaves) (sym (views.rolls-Filter f a)) ∙ fold-roll-Tree L Variables (variables_step leaves) (layer.Filter f a)

  pub variables_at-Leaf : (n : Tree L) (l : L) → out-Tree L n ≡ layer.Leaf l → variables_of leaves n ≡ leaves l
  variables_at-Leaf n l is = fold_out-Tree L Variables (variables_step leaves) n ∙ ap (λ (d : Tree-F L (Tree L)). variables_step leaves (map-Tree L (Tree L) Variables (variables_of leaves) d)) is

  pub variables_at-Join : (n : Tree L) (a b : Tree L) → out-Tree L n ≡ layer.Join a b → variables_of leaves n ≡ in_either (variables_of leaves a) (variables_of leaves b)
  variables_at-Join n a b is = fold_out-Tree L Variables (variables_step leaves) n ∙ ap (λ (d : Tree-F L (Tree L)). variables_step leaves (map-Tree L (Tree L) Variables (variables_of leaves) d)) is

  pub variables_at-LeftJoin : (n : Tree L) (a b : Tree L) (f : Option TruthExpr) → out-Tree L n ≡ layer.LeftJoin a b f → variables_of leaves n ≡ in_either (variables_of leaves a) (variables_of leaves b)
  variables_at-LeftJoin n a b f is = fold_out-Tree L Variables (variables_step leaves) n ∙ ap (λ (d : Tree-F L (Tree L)). variables_step leaves (map-Tree L (Tree L) Variables (variables_of leaves) d)) is

  pub variables_at-Union : (n : Tree L) (a b : Tree L) → out-Tree L n ≡ layer.Union a b → variables_of leaves n ≡ in_either (variables_of leaves a) (variables_of leaves b)
  variables_at-Union n a b is = fold_out-Tree L Variables (variables_step leaves) n ∙ ap (λ (d : Tree-F L (Tree L)). variables_step leaves (map-Tree L (Tree L) Variables (variables_of leaves) d)) is

  pub variables_at-Filter : (n : Tree L) (f : TruthExpr) (a : Tree L) → out-Tree L n ≡ layer.Filter f a → variables_of leaves n ≡ variables_of leaves a
  variables_at-Filter n f a is = fold_out-Tree L Variables (variables_step leaves) n ∙ ap (λ (d : Tree-F L (Tree L)). variables_step leaves (map-Tree L (Tree L) Variables (variables_of leaves) d)) is

  pub certain-Leaf : (l : L) → certain_of leaves (trees.Leaf l) ≡ leaves l
  certain-Leaf l = ap (certain_of leaves) (sym (views.rolls-Leaf l)) ∙ fold-roll-Tree L Variables (certain_step leaves) (layer.Leaf l)

  pub certain-Join : (a b : Tree L) → certain_of leaves (trees.Join a b) ≡ in_either (certain_of leaves a) (certain_of leaves b)
  certain-Join a b = ap (certain_of leaves) (sym (views.rolls-Join a b)) ∙ fold-roll-Tree L Variables (certain_step leaves) (layer.Join a b)

  pub certain-LeftJoin : (a b : Tree L) (f : Option TruthExpr) → certain_of leaves (trees.LeftJoin a b f) ≡ certain_of leaves a
  certain-LeftJoin a b f = ap (certain_of leaves) (sym (views.rolls-LeftJoin a b f)) ∙ fold-roll-Tree L Variables (certain_step leaves) (layer.LeftJoin a b f)

  pub certain-Union : (a b : Tree L) → certain_of leaves (trees.Union a b) ≡ in_both (certain_of leaves a) (certain_of leaves b)
  certain-Union a b = ap (certain_of leaves) (sym (views.rolls-Union a b)) ∙ fold-roll-Tree L Variables (certain_step leaves) (layer.Union a b)

  pub certain-Filter : (f : TruthExpr) (a : Tree L) → certain_of leaves (trees.Filter f a) ≡ certain_of leaves a
  certain-Filter f a = ap (certain_of leaves) (sym (views.rolls-Filter f a)) ∙ fold-roll-Tree L Variables (certain_step leaves) (layer.Filter f a)

  pub certain_at-Leaf : (n : Tree L) (l : L) → out-Tree L n ≡ layer.Leaf l → certain_of leaves n ≡ leaves l
  certain_at-Leaf n l is = fold_out-Tree L Variables (certain_step leaves) n ∙ ap (λ (d : Tree-F L (Tree L)). certain_step leaves (map-Tree L (Tree L) Variables (certain_of leaves) d)) is

  pub certain_at-Join : (n : Tree L) (a b : Tree L) → out-Tree L n ≡ layer.Join a b → certain_of leaves n ≡ in_either (certain_of leaves a) (certain_of leaves b)
  certain_at-Join n a b is = fold_out-Tree L Variables (certain_step leaves) n ∙ ap (λ (d : Tree-F L (Tree L)). certain_step leaves (map-Tree L (Tree L) Variables (certain_of leaves) d)) is

  pub certain_at-LeftJoin : (n : Tree L) (a b : Tree L) (f : Option TruthExpr) → out-Tree L n ≡ layer.LeftJoin a b f → certain_of leaves n ≡ certain_of leaves a
  certain_at-LeftJoin n a b f is = fold_out-Tree L Variables (certain_step leaves) n ∙ ap (λ (d : Tree-F L (Tree L)). certain_step leaves (map-Tree L (Tree L) Variables (certain_of leaves) d)) is

  pub certain_at-Union : (n : Tree L) (a b : Tree L) → out-Tree L n ≡ layer.Union a b → certain_of leaves n ≡ in_both (certain_of leaves a) (certain_of leaves b)
  certain_at-Union n a b is = fold_out-Tree L Variables (certain_step leaves) n ∙ ap (λ (d : Tree-F L (Tree L)). certain_step leaves (map-Tree L (Tree L) Variables (certain_of leaves) d)) is

  pub certain_at-Filter : (n : Tree L) (f : TruthExpr) (a : Tree L) → out-Tree L n ≡ layer.Filter f a → certain_of leaves n ≡ certain_of leaves a
  certain_at-Filter n f a is = fold_out-Tree L Variables (certain_step leaves) n ∙ ap (λ (d : Tree-F L (Tree L)). certain_step leaves (map-Tree L (Tree L) Variables (certain_of leaves) d)) is
