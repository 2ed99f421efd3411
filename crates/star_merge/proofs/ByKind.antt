-- Merged trees, by the first level of a tree.
use Rattle.std.specs.Prelude.{◌≡◌, true, List, Option, Some, None, option_and_then}
use Rattle.std.proofs.Common.{sym, ap, ap₂, ◌∙◌, subst}
use Rattle.std.specs.List.{list_all}
use Rattle.layout_meaning.specs.Facts.{SpilledTerms}
use Rattle.query_meaning.specs.declared.expression.TruthExpr.{TruthExpr}
use Rattle.query_meaning.specs.declared.query.Query.{Query}
use Rattle.query_meaning.specs.declared.tree.Tree.{Tree, out-Tree, fold_out-Tree, map-Tree}
use Rattle.query_meaning.specs.declared.tree.Tree.TheVariants as trees
use Rattle.query_meaning.specs.declared.tree.Tree.TheOpen as layer
use Rattle.query_meaning.specs.declared.tree.Tree.TheOpen.{Tree-F}
use Rattle.query_plan_meaning.specs.declared.star.Star.{Star}
use Rattle.query_plan_meaning.specs.declared.plan.Plan.{Plan}
use Rattle.query_plan_meaning.specs.Plans.{every_leaf, ComesFrom}
use Rattle.query_merging_meaning.specs.Merging.{merged_leaf, merged_optional, merged_union, leaf_of, of_leaves, leaf_or, left_join_merged, merged_step, merged_tree, merged, is_single}
use Rattle.query_merging_laws.proofs.Trees.{leaf_of-Leaf, leaf_of-Join, leaf_of-LeftJoin, leaf_of-Union, leaf_of-Filter, merged-comes}

abbrev Stars : Type 0
Stars = Tree (List Star)

abbrev Layer : Type 0
Layer = Tree-F (List Star) Stars

-- ---- trees that are leaves

pub is_leaf : (n : Stars) (l : List Star) → n ≡ trees.Leaf l → leaf_of n ≡ Some l
is_leaf n l is = ap (leaf_of {L = List Star}) is ∙ leaf_of-Leaf l

pub is_join : (n a b : Stars) → n ≡ trees.Join a b → leaf_of n ≡ None
is_join n a b is = ap (leaf_of {L = List Star}) is ∙ leaf_of-Join a b

pub is_left_join : (n a b : Stars) (c : Option TruthExpr) → n ≡ trees.LeftJoin a b c → leaf_of n ≡ None
is_left_join n a b c is = ap (leaf_of {L = List Star}) is ∙ leaf_of-LeftJoin a b c

pub is_union : (n a b : Stars) → n ≡ trees.Union a b → leaf_of n ≡ None
is_union n a b is = ap (leaf_of {L = List Star}) is ∙ leaf_of-Union a b

pub is_filter : (n a : Stars) (c : TruthExpr) → n ≡ trees.Filter c a → leaf_of n ≡ None
is_filter n a c is = ap (leaf_of {L = List Star}) is ∙ leaf_of-Filter c a

pub ruleset leaf_laws = (is_leaf, is_join, is_left_join, is_union, is_filter)

abbrev two : (List Star → List Star → Option (List Star)) → Option (List Star) → Option (List Star) → Option (List Star)
two merge a b = option_and_then (λ (l : List Star). option_and_then (λ (m : List Star). merge l m) b) a

pub not_left : (merge : List Star → List Star → Option (List Star)) (a b : Stars) → leaf_of a ≡ None → of_leaves merge a b ≡ None
not_left merge a b e = ap (λ (o : Option (List Star)). two merge o (leaf_of b)) e

pub not_right : (merge : List Star → List Star → Option (List Star)) (a b : Stars) (l : List Star) → leaf_of a ≡ Some l → leaf_of b ≡ None → of_leaves merge a b ≡ None
not_right merge a b l e f = ap₂ (two merge) e f

pub both_leaves : (merge : List Star → List Star → Option (List Star)) (a b : Stars) (l m : List Star) → leaf_of a ≡ Some l → leaf_of b ≡ Some m → of_leaves merge a b ≡ merge l m
both_leaves merge a b l m e f = ap₂ (two merge) e f

pub ruleset of_leaves_laws = (not_left, not_right, both_leaves)

-- ---- each kind of tree

module _ (spilled : SpilledTerms) where
  opened : (n : Stars) (d : Layer) → out-Tree (List Star) n ≡ d → merged_tree spilled n ≡ merged_step spilled (map-Tree (List Star) Stars Stars (merged_tree spilled) d)
  opened n d is = fold_out-Tree (List Star) Stars (merged_step spilled) n ∙ ap (λ (e : Layer). merged_step spilled (map-Tree (List Star) Stars Stars (merged_tree spilled) e)) is

  pub merge-Leaf : (n : Stars) (l m : List Star) → out-Tree (List Star) n ≡ layer.Leaf l → m ≡ merged_leaf spilled l → trees.Leaf m ≡ merged_tree spilled n
  merge-Leaf n l m is e = ap (λ (x : List Star). trees.Leaf x) e ∙ sym (opened n (layer.Leaf l) is)

  pub merge-Join : (n a b x y : Stars) → out-Tree (List Star) n ≡ layer.Join a b → x ≡ merged_tree spilled a → y ≡ merged_tree spilled b → trees.Join x y ≡ merged_tree spilled n
  merge-Join n a b x y is h k = ap₂ (λ (s t : Stars). trees.Join s t) h k ∙ sym (opened n (layer.Join a b) is)

  pub merge-Filter : (n a x : Stars) (c d : TruthExpr) → out-Tree (List Star) n ≡ layer.Filter c a → d ≡ c → x ≡ merged_tree spilled a → trees.Filter d x ≡ merged_tree spilled n
  merge-Filter n a x c d is e h = ap₂ (λ (f : TruthExpr) (t : Stars). trees.Filter f t) e h ∙ sym (opened n (layer.Filter c a) is)

  pub merge-Condition : (n a b x y : Stars) (c d : TruthExpr) → out-Tree (List Star) n ≡ layer.LeftJoin a b (Some c) → d ≡ c → x ≡ merged_tree spilled a → y ≡ merged_tree spilled b → trees.LeftJoin x y (Some d) ≡ merged_tree spilled n
  merge-Condition n a b x y c d is e h k =
      ap (λ (f : TruthExpr). trees.LeftJoin x y (Some f)) e ∙ ap₂ (λ (s t : Stars). trees.LeftJoin s t (Some c)) h k
      ∙ sym (opened n (layer.LeftJoin a b (Some c)) is)

  left_join-at : (n a b x y : Stars) (o : Option (List Star)) → out-Tree (List Star) n ≡ layer.LeftJoin a b None → x ≡ merged_tree spilled a → y ≡ merged_tree spilled b → o ≡ of_leaves (merged_optional spilled) x y →
      leaf_or o (trees.LeftJoin x y None) ≡ merged_tree spilled n
  left_join-at n a b x y o is h k e =
      ap (λ (p : Option (List Star)). leaf_or p (trees.LeftJoin x y None)) e
      ∙ ap₂ (λ (s t : Stars). leaf_or (of_leaves (merged_optional spilled) s t) (trees.LeftJoin s t None)) h k ∙ sym (opened n (layer.LeftJoin a b None) is)

  pub merge-Optional : (n a b x y : Stars) (o : Option (List Star)) (l : List Star) → out-Tree (List Star) n ≡ layer.LeftJoin a b None → x ≡ merged_tree spilled a → y ≡ merged_tree spilled b →
      o ≡ of_leaves (merged_optional spilled) x y → o ≡ Some l → trees.Leaf l ≡ merged_tree spilled n
  merge-Optional n a b x y o l is h k e f = left_join-at n a b x y (Some l) is h k (sym f ∙ e)

  pub merge-LeftJoin : (n a b x y : Stars) (o : Option (List Star)) → out-Tree (List Star) n ≡ layer.LeftJoin a b None → x ≡ merged_tree spilled a → y ≡ merged_tree spilled b →
      o ≡ of_leaves (merged_optional spilled) x y → o ≡ None → trees.LeftJoin x y None ≡ merged_tree spilled n
  merge-LeftJoin n a b x y o is h k e f = left_join-at n a b x y None is h k (sym f ∙ e)

  union-at : (n a b x y : Stars) (o : Option (List Star)) → out-Tree (List Star) n ≡ layer.Union a b → x ≡ merged_tree spilled a → y ≡ merged_tree spilled b → o ≡ of_leaves (merged_union spilled) x y → leaf_or o (trees.Union x y) ≡ merged_tree spilled n
  union-at n a b x y o is h k e =
      ap (λ (p : Option (List Star)). leaf_or p (trees.Union x y)) e
      ∙ ap₂ (λ (s t : Stars). leaf_or (of_leaves (merged_union spilled) s t) (trees.Union s t)) h k ∙ sym (opened n (layer.Union a b) is)

  pub merge-Either : (n a b x y : Stars) (o : Option (List Star)) (l : List Star) → out-Tree (List Star) n ≡ layer.Union a b → x ≡ merged_tree spilled a → y ≡ merged_tree spilled b →
      o ≡ of_leaves (merged_union spilled) x y → o ≡ Some l → trees.Leaf l ≡ merged_tree spilled n
  merge-Either n a b x y o l is h k e f = union-at n a b x y (Some l) is h k (sym f ∙ e)

  pub merge-Union : (n a b x y : Stars) (o : Option (List Star)) → out-Tree (List Star) n ≡ layer.Union a b → x ≡ merged_tree spilled a → y ≡ merged_tree spilled b → o ≡ of_leaves (merged_union spilled) x y → o ≡ None → trees.Union x y ≡ merged_tree spilled n
  merge-Union n a b x y o is h k e f = union-at n a b x y None is h k (sym f ∙ e)

pub ruleset kind_laws = (merge-Leaf, merge-Join, merge-Filter, merge-Condition, merge-Optional, merge-LeftJoin, merge-Either, merge-Union)

-- ---- plans

pub comes_as : (spilled : SpilledTerms) (plan new : Plan) → new ≡ merged spilled plan → every_leaf (list_all is_single) plan.tree ≡ true → (q : Query) → ComesFrom q plan → ComesFrom q new
comes_as spilled plan new e s q c = subst (λ (p : Plan). ComesFrom q p) (sym e) (merged-comes spilled q plan s c)
