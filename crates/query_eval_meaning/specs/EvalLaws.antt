-- The solutions of each kind of tree.
use Rattle.std.specs.Prelude.{◌≡◌, List, ◌++◌, Option}
use Rattle.std.proofs.Common.{sym, ap, ◌∙◌}
use Rattle.std.specs.List.{filter}
use Rattle.query_meaning.specs.declared.expression.TruthExpr.{TruthExpr}
use Rattle.query_meaning.specs.declared.tree.Tree.{Tree, out-Tree, fold_out-Tree, map-Tree}
use Rattle.query_meaning.specs.declared.tree.Tree.TheVariants as trees
use Rattle.query_meaning.specs.declared.tree.Tree.TheOpen as layer
use Rattle.query_meaning.specs.declared.tree.Tree.TheOpen.{Tree-F}
use Rattle.query_meaning.specs.declared.tree.Tree.TheFolds.{fold-roll-Tree}
use Rattle.query_meaning.specs.declared.tree.Tree.TheViews as views
use Rattle.query_eval_meaning.specs.Mapping.{Mapping}
use Rattle.query_eval_meaning.specs.Eval.{eval, eval_step, join, left_join, passes_over, holds_over}

module _ {L : Type 0} (leaves : L → List Mapping) where
  -- ---- by the constructor

  pub eval-Leaf : (l : L) → eval leaves (trees.Leaf l) ≡ leaves l
  eval-Leaf l = ap (eval leaves) (sym (views.rolls-Leaf l)) ∙ fold-roll-Tree L (List Mapping) (eval_step leaves) (layer.Leaf l)

  pub eval-Join : (a b : Tree L) → eval leaves (trees.Join a b) ≡ join (eval leaves a) (eval leaves b)
  eval-Join a b = ap (eval leaves) (sym (views.rolls-Join a b)) ∙ fold-roll-Tree L (List Mapping) (eval_step leaves) (layer.Join a b)

  pub eval-LeftJoin : (a b : Tree L) (f : Option TruthExpr) → eval leaves (trees.LeftJoin a b f) ≡ left_join (passes_over f) (eval leaves a) (eval leaves b)
  eval-LeftJoin a b f = ap (eval leaves) (sym (views.rolls-LeftJoin a b f)) ∙ fold-roll-Tree L (List Mapping) (eval_step leaves) (layer.LeftJoin a b f)

  pub eval-Union : (a b : Tree L) → eval leaves (trees.Union a b) ≡ eval leaves a ++ eval leaves b
  eval-Union a b = ap (eval leaves) (sym (views.rolls-Union a b)) ∙ fold-roll-Tree L (List Mapping) (eval_step leaves) (layer.Union a b)

  pub eval-Filter : (f : TruthExpr) (a : Tree L) → eval leaves (trees.Filter f a) ≡ filter (holds_over f) (eval leaves a)
  eval-Filter f a = ap (eval leaves) (sym (views.rolls-Filter f a)) ∙ fold-roll-Tree L (List Mapping) (eval_step leaves) (layer.Filter f a)

  -- ---- by what the tree opens to, as a walk over it sees it

  opened : (n : Tree L) → eval leaves n ≡ eval_step leaves (map-Tree L (Tree L) (List Mapping) (eval leaves) (out-Tree L n))
  opened n = fold_out-Tree L (List Mapping) (eval_step leaves) n

  pub eval_at-Leaf : (n : Tree L) (l : L) → out-Tree L n ≡ layer.Leaf l → eval leaves n ≡ leaves l
  eval_at-Leaf n l is = opened n ∙ ap (λ (d : Tree-F L (Tree L)). eval_step leaves (map-Tree L (Tree L) (List Mapping) (eval leaves) d)) is

  pub eval_at-Join : (n : Tree L) (a b : Tree L) → out-Tree L n ≡ layer.Join a b → eval leaves n ≡ join (eval leaves a) (eval leaves b)
  eval_at-Join n a b is = opened n ∙ ap (λ (d : Tree-F L (Tree L)). eval_step leaves (map-Tree L (Tree L) (List Mapping) (eval leaves) d)) is

  pub eval_at-LeftJoin : (n : Tree L) (a b : Tree L) (f : Option TruthExpr) → out-Tree L n ≡ layer.LeftJoin a b f → eval leaves n ≡ left_join (passes_over f) (eval leaves a) (eval leaves b)
  eval_at-LeftJoin n a b f is = opened n ∙ ap (λ (d : Tree-F L (Tree L)). eval_step leaves (map-Tree L (Tree L) (List Mapping) (eval leaves) d)) is

  pub eval_at-Union : (n : Tree L) (a b : Tree L) → out-Tree L n ≡ layer.Union a b → eval leaves n ≡ eval leaves a ++ eval leaves b
  eval_at-Union n a b is = opened n ∙ ap (λ (d : Tree-F L (Tree L)). eval_step leaves (map-Tree L (Tree L) (List Mapping) (eval leaves) d)) is

  pub eval_at-Filter : (n : Tree L) (f : TruthExpr) (a : Tree L) → out-Tree L n ≡ layer.Filter f a → eval leaves n ≡ filter (holds_over f) (eval leaves a)
  eval_at-Filter n f a is = opened n ∙ ap (λ (d : Tree-F L (Tree L)). eval_step leaves (map-Tree L (Tree L) (List Mapping) (eval leaves) d)) is
