-- Induction over trees.
use Rattle.std.specs.Prelude.{Option}
use Rattle.std.proofs.Common.{subst, sym}
use Rattle.query_meaning.specs.declared.expression.TruthExpr.{TruthExpr}
use Rattle.query_meaning.specs.declared.tree.Tree.{Tree, map-Tree}
use Rattle.query_meaning.specs.declared.tree.Tree.TheVariants as trees
use Rattle.query_meaning.specs.declared.tree.Tree.TheOpen.{Tree-F, Leaf, Join, LeftJoin, Union, Filter}
use Rattle.query_meaning.specs.declared.tree.Tree.TheFolds.{ind-Tree}
use Rattle.query_meaning.specs.declared.tree.Tree.TheViews as views

-- what holds of each leaf, and of each node of whose parts it holds, holds of each tree
pub tree_induction : {L : Type 0} (P : Tree L → Type 0) → ((l : L) → P (trees.Leaf l)) → ((a b : Tree L) → P a → P b → P (trees.Join a b)) → ((a b : Tree L) (f : Option TruthExpr) → P a → P b → P (trees.LeftJoin a b f)) →
    ((a b : Tree L) → P a → P b → P (trees.Union a b)) → ((f : TruthExpr) (a : Tree L) → P a → P (trees.Filter f a)) → (t : Tree L) → P t
tree_induction {L} P leaf join left_join union filter =
    ind-Tree L P (λ x y is. subst (λ (z : Tree-F L (Tree L)). P (views.roll-Tree L z)) is (node y))
  where
    node : (y : Tree-F L ((t : Tree L) × P t)) → P (views.roll-Tree L (map-Tree L ((t : Tree L) × P t) (Tree L) (λ e. e.0) y))
    node (Leaf l) = subst P (sym (views.rolls-Leaf l)) (leaf l)
    node (Join a b) = subst P (sym (views.rolls-Join a.0 b.0)) (join a.0 b.0 a.1 b.1)
    node (LeftJoin a b f) = subst P (sym (views.rolls-LeftJoin a.0 b.0 f)) (left_join a.0 b.0 f a.1 b.1)
    node (Union a b) = subst P (sym (views.rolls-Union a.0 b.0)) (union a.0 b.0 a.1 b.1)
    node (Filter f a) = subst P (sym (views.rolls-Filter f a.0)) (filter f a.0 a.1)
