-- The accesses of each kind of tree.
use Rattle.std.specs.Prelude.{◌≡◌, ℕ, ◌+◌, List, Option}
use Rattle.std.proofs.Common.{sym, ap, ◌∙◌}
use Rattle.bags.specs.Bag.{total}
use Rattle.layout_meaning.specs.Facts.{FactsOf}
use Rattle.query_meaning.specs.declared.expression.TruthExpr.{TruthExpr}
use Rattle.query_meaning.specs.declared.tree.Tree.{Tree}
use Rattle.query_meaning.specs.declared.tree.Tree.TheVariants as trees
use Rattle.query_meaning.specs.declared.tree.Tree.TheOpen as layer
use Rattle.query_meaning.specs.declared.tree.Tree.TheFolds.{fold-roll-Tree}
use Rattle.query_meaning.specs.declared.tree.Tree.TheViews as views
use Rattle.query_plan_meaning.specs.declared.star.Star.{Star}
use Rattle.query_merging_meaning.specs.Accesses.{star_accesses, accesses_step, accesses}

module _ (facts : FactsOf) where
  pub accesses-Leaf : (l : List Star) → accesses facts (trees.Leaf l) ≡ total (star_accesses facts) l
  accesses-Leaf l = ap (accesses facts) (sym (views.rolls-Leaf l)) ∙ fold-roll-Tree (List Star) ℕ (accesses_step facts) (layer.Leaf l)

  pub accesses-Join : (a b : Tree (List Star)) → accesses facts (trees.Join a b) ≡ accesses facts a + accesses facts b
  accesses-Join a b = ap (accesses facts) (sym (views.rolls-Join a b)) ∙ fold-roll-Tree (List Star) ℕ (accesses_step facts) (layer.Join a b)

  pub accesses-LeftJoin : (a b : Tree (List Star)) (c : Option TruthExpr) → accesses facts (trees.LeftJoin a b c) ≡ accesses facts a + accesses facts b
  accesses-LeftJoin a b c = ap (accesses facts) (sym (views.rolls-LeftJoin a b c)) ∙ fold-roll-Tree (List Star) ℕ (accesses_step facts) (layer.LeftJoin a b c)

  pub accesses-Union : (a b : Tree (List Star)) → accesses facts (trees.Union a b) ≡ accesses facts a + accesses facts b
  accesses-Union a b = ap (accesses facts) (sym (views.rolls-Union a b)) ∙ fold-roll-Tree (List Star) ℕ (accesses_step facts) (layer.Union a b)

  pub accesses-Filter : (c : TruthExpr) (a : Tree (List Star)) → accesses facts (trees.Filter c a) ≡ accesses facts a
  accesses-Filter c a = ap (accesses facts) (sym (views.rolls-Filter c a)) ∙ fold-roll-Tree (List Star) ℕ (accesses_step facts) (layer.Filter c a)
