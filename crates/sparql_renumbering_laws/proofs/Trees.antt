-- Trees with other numbers for their variables.
use Rattle.std.specs.Prelude.{◌≡◌, Bool, true, ◌&&◌, ℕ, List, [], ◌∷◌, ◌++◌, map, Option, Some, None, refl}
use Rattle.std.specs.List.{list_all}
use Rattle.std.proofs.Common.{sym, ap, ap₂, ◌∙◌, subst}
use Rattle.std.proofs.lemmas.List.{map-append}
use Rattle.query_meaning.specs.declared.pattern.Pattern.{Pattern}
use Rattle.query_meaning.specs.declared.expression.TruthExpr.{TruthExpr}
use Rattle.query_meaning.specs.declared.tree.Tree.{Tree, map-Tree}
use Rattle.query_meaning.specs.declared.tree.Tree.TheVariants as trees
use Rattle.query_meaning.specs.declared.tree.Tree.TheOpen as layer
use Rattle.query_meaning.specs.declared.tree.Tree.TheOpen.{Tree-F}
use Rattle.query_meaning.specs.declared.tree.Tree.TheFolds.{fold-roll-Tree, ind-Tree}
use Rattle.query_meaning.specs.declared.tree.Tree.TheViews as views
use Rattle.sparql_query_meaning.specs.Fragment.{renumbered_pattern, renumbered_truth, renumbered_condition, tree_step, renumbered_tree}
use Rattle.sparql_translation_laws.specs.TreePatterns.{tree_patterns, patterns-Leaf, patterns-Join, patterns-LeftJoin, patterns-Union, patterns-Filter}
use Rattle.sparql_query_laws.specs.Passing.{both_true, condition_passes, tree_passes, passes-Leaf, passes-Join, passes-LeftJoin, passes-Union, passes-Filter}
use Rattle.sparql_query_laws.specs.Sound.{left_true, right_true}

abbrev Leaf : Type 0
Leaf = List Pattern

-- what holds of each leaf, and of each node of whose parts it holds, holds of each tree
tree_induction : (P : Tree Leaf → Type 0) → ((ps : Leaf) → P (trees.Leaf ps)) → ((a b : Tree Leaf) → P a → P b → P (trees.Join a b)) → ((a b : Tree Leaf) (e : Option TruthExpr) → P a → P b → P (trees.LeftJoin a b e)) →
    ((a b : Tree Leaf) → P a → P b → P (trees.Union a b)) → ((e : TruthExpr) (a : Tree Leaf) → P a → P (trees.Filter e a)) → (t : Tree Leaf) → P t
tree_induction P leaf join left_join union filter =
    ind-Tree Leaf P (λ x y is. subst (λ (z : Tree-F Leaf (Tree Leaf)). P (views.roll-Tree Leaf z)) is (node y))
  where
    node : (y : Tree-F Leaf ((t : Tree Leaf) × P t)) → P (views.roll-Tree Leaf (map-Tree Leaf ((t : Tree Leaf) × P t) (Tree Leaf) (λ e. e.0) y))
    node (layer.Leaf ps) = subst P (sym (views.rolls-Leaf ps)) (leaf ps)
    node (layer.Join a b) = subst P (sym (views.rolls-Join a.0 b.0)) (join a.0 b.0 a.1 b.1)
    node (layer.LeftJoin a b e) = subst P (sym (views.rolls-LeftJoin a.0 b.0 e)) (left_join a.0 b.0 e a.1 b.1)
    node (layer.Union a b) = subst P (sym (views.rolls-Union a.0 b.0)) (union a.0 b.0 a.1 b.1)
    node (layer.Filter e a) = subst P (sym (views.rolls-Filter e a.0)) (filter e a.0 a.1)

module _ (f : ℕ → ℕ) where
  tree-Leaf : (ps : Leaf) → renumbered_tree f (trees.Leaf ps) ≡ trees.Leaf (map (renumbered_pattern f) ps)
  tree-Leaf ps = ap (renumbered_tree f) (sym (views.rolls-Leaf ps)) ∙ fold-roll-Tree Leaf (Tree Leaf) (tree_step f) (layer.Leaf ps)

  tree-Join : (a b : Tree Leaf) → renumbered_tree f (trees.Join a b) ≡ trees.Join (renumbered_tree f a) (renumbered_tree f b)
  tree-Join a b = ap (renumbered_tree f) (sym (views.rolls-Join a b)) ∙ fold-roll-Tree Leaf (Tree Leaf) (tree_step f) (layer.Join a b)

  tree-LeftJoin : (a b : Tree Leaf) (e : Option TruthExpr) → renumbered_tree f (trees.LeftJoin a b e) ≡ trees.LeftJoin (renumbered_tree f a) (renumbered_tree f b) (renumbered_condition f e)
  tree-LeftJoin a b e = ap (renumbered_tree f) (sym (views.rolls-LeftJoin a b e)) ∙ fold-roll-Tree Leaf (Tree Leaf) (tree_step f) (layer.LeftJoin a b e)

  tree-Union : (a b : Tree Leaf) → renumbered_tree f (trees.Union a b) ≡ trees.Union (renumbered_tree f a) (renumbered_tree f b)
  tree-Union a b = ap (renumbered_tree f) (sym (views.rolls-Union a b)) ∙ fold-roll-Tree Leaf (Tree Leaf) (tree_step f) (layer.Union a b)

  tree-Filter : (e : TruthExpr) (a : Tree Leaf) → renumbered_tree f (trees.Filter e a) ≡ trees.Filter (renumbered_truth f e) (renumbered_tree f a)
  tree-Filter e a = ap (renumbered_tree f) (sym (views.rolls-Filter e a)) ∙ fold-roll-Tree Leaf (Tree Leaf) (tree_step f) (layer.Filter e a)

-- ---- the patterns stay, in their order

module _ (f : ℕ → ℕ) where
  abbrev again : Leaf → Leaf
  again ps = map (renumbered_pattern f) ps

  abbrev Same : Tree Leaf → Type 0
  Same t = tree_patterns (renumbered_tree f t) ≡ again (tree_patterns t)

  both_same : (a b : Tree Leaf) → Same a → Same b → tree_patterns (renumbered_tree f a) ++ tree_patterns (renumbered_tree f b) ≡ again (tree_patterns a ++ tree_patterns b)
  both_same a b h k = ap₂ (λ (xs ys : Leaf). xs ++ ys) h k ∙ sym (map-append (renumbered_pattern f) (tree_patterns a) (tree_patterns b))

  pub patterns_same : (t : Tree Leaf) → Same t
  patterns_same =
      tree_induction Same (λ ps. ap tree_patterns (tree-Leaf f ps) ∙ patterns-Leaf (again ps) ∙ ap again (sym (patterns-Leaf ps)))
      (λ a b h k. ap tree_patterns (tree-Join f a b) ∙ patterns-Join (renumbered_tree f a) (renumbered_tree f b) ∙ both_same a b h k ∙ ap again (sym (patterns-Join a b)))
      (λ a b e h k. ap tree_patterns (tree-LeftJoin f a b e) ∙ patterns-LeftJoin (renumbered_tree f a) (renumbered_tree f b) (renumbered_condition f e) ∙ both_same a b h k ∙ ap again (sym (patterns-LeftJoin a b e)))
      (λ a b h k. ap tree_patterns (tree-Union f a b) ∙ patterns-Union (renumbered_tree f a) (renumbered_tree f b) ∙ both_same a b h k ∙ ap again (sym (patterns-Union a b)))
      (λ e a h. ap tree_patterns (tree-Filter f e a) ∙ patterns-Filter (renumbered_truth f e) (renumbered_tree f a) ∙ h ∙ ap again (sym (patterns-Filter e a)))

-- ---- what patterns and expressions pass with other numbers, their trees pass

module _ (f : ℕ → ℕ) (p q : Pattern → Bool) (test then : TruthExpr → Bool) (patterns : (x : Pattern) → p x ≡ true → q (renumbered_pattern f x) ≡ true) (truths : (e : TruthExpr) → test e ≡ true → then (renumbered_truth f e) ≡ true) where
  abbrev Passes : Tree Leaf → Type 0
  Passes t = tree_passes p test t ≡ true → tree_passes q then (renumbered_tree f t) ≡ true

  leaf_passes : (ps : Leaf) → list_all p ps ≡ true → list_all q (map (renumbered_pattern f) ps) ≡ true
  leaf_passes [] h = refl
  leaf_passes (x ∷ ps) h = both_true (patterns x (left_true (p x) (list_all p ps) h)) (leaf_passes ps (right_true (p x) (list_all p ps) h))

  both_pass : (a b : Tree Leaf) → Passes a → Passes b → (tree_passes p test a && tree_passes p test b) ≡ true → (tree_passes q then (renumbered_tree f a) && tree_passes q then (renumbered_tree f b)) ≡ true
  both_pass a b h k e = both_true (h (left_true (tree_passes p test a) (tree_passes p test b) e)) (k (right_true (tree_passes p test a) (tree_passes p test b) e))

  condition_again : (e : Option TruthExpr) → condition_passes test e ≡ true → condition_passes then (renumbered_condition f e) ≡ true
  condition_again None h = refl
  condition_again (Some e) h = truths e h

  pub passes_again : (t : Tree Leaf) → Passes t
  passes_again =
      tree_induction Passes (λ ps h. ap (tree_passes q then) (tree-Leaf f ps) ∙ passes-Leaf q then (map (renumbered_pattern f) ps) ∙ leaf_passes ps (sym (passes-Leaf p test ps) ∙ h))
      (λ a b h k e. ap (tree_passes q then) (tree-Join f a b) ∙ passes-Join q then (renumbered_tree f a) (renumbered_tree f b) ∙ both_pass a b h k (sym (passes-Join p test a b) ∙ e))
      (λ a b c h k e.
      let all = sym (passes-LeftJoin p test a b c) ∙ e in
      ap (tree_passes q then) (tree-LeftJoin f a b c) ∙ passes-LeftJoin q then (renumbered_tree f a) (renumbered_tree f b) (renumbered_condition f c)
      ∙ both_true (both_pass a b h k (left_true (tree_passes p test a && tree_passes p test b) (condition_passes test c) all)) (condition_again c (right_true (tree_passes p test a && tree_passes p test b) (condition_passes test c) all)))
      (λ a b h k e. ap (tree_passes q then) (tree-Union f a b) ∙ passes-Union q then (renumbered_tree f a) (renumbered_tree f b) ∙ both_pass a b h k (sym (passes-Union p test a b) ∙ e))
      (λ c a h e.
      let all = sym (passes-Filter p test c a) ∙ e in
      ap (tree_passes q then) (tree-Filter f c a) ∙ passes-Filter q then (renumbered_truth f c) (renumbered_tree f a) ∙ both_true (truths c (left_true (test c) (tree_passes p test a) all)) (h (right_true (test c) (tree_passes p test a) all)))
