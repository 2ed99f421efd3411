-- The merged plan comes from every query that the plan comes from.
use Rattle.std.specs.Prelude.{◌≡◌, Bool, true, List, [], ◌∷◌, ◌++◌, Option, Some, None, option_and_then, refl}
use Rattle.std.proofs.Common.{sym, ap, ap₂, ◌∙◌, subst}
use Rattle.std.proofs.lemmas.Bool.{and_parts, and_from}
use Rattle.std.specs.List.{list_all, IsDistinct}
use Rattle.bags.specs.Bag.{total, SameBag}
use Rattle.bags.specs.BagLaws.{same-trans, same-append, same-filter}
use Rattle.rdf_meaning.specs.Terms.{RdfTriple, same_triple}
use Rattle.layout_meaning.specs.Facts.{SpilledTerms}
use Rattle.query_meaning.specs.declared.expression.TruthExpr.{TruthExpr}
use Rattle.query_meaning.specs.declared.query.Query.{Query}
use Rattle.query_meaning.specs.declared.tree.Tree.{Tree}
use Rattle.query_meaning.specs.declared.tree.Tree.TheVariants as trees
use Rattle.query_meaning.specs.declared.tree.Tree.TheOpen as layer
use Rattle.query_meaning.specs.declared.tree.Tree.TheFolds.{fold-roll-Tree}
use Rattle.query_meaning.specs.declared.tree.Tree.TheViews as views
use Rattle.query_eval_meaning.specs.Eval.{passes_over, holds_over}
use Rattle.query_eval_meaning.specs.EvalLaws.{eval-Leaf, eval-Join, eval-LeftJoin, eval-Union, eval-Filter}
use Rattle.query_plan_meaning.specs.declared.star.Star.{Star}
use Rattle.query_plan_meaning.specs.declared.plan.Plan.{Plan}
use Rattle.query_plan_meaning.specs.Stars.{stars_leaf, plan_solutions, star_in_width}
use Rattle.query_plan_meaning.specs.Plans.{present, expressions_of, every_leaf, leaf_fits, ComesFrom}
use Rattle.query_plan_meaning.specs.PlanLaws.{expressions-Leaf, expressions-Join, expressions-LeftJoin, expressions-Union, expressions-Filter, every-Leaf, every-Join, every-LeftJoin, every-Union, every-Filter}
use Rattle.query_algebra_laws.specs.Joins.{same-join, same-left_join}
use Rattle.query_algebra_laws.specs.TreeInduction.{tree_induction}
use Rattle.query_merging_meaning.specs.Merging.{merged_leaf, merged_optional, merged_union, leaf_step, leaf_of, of_leaves, leaf_or, left_join_merged, merged_step, merged_tree, merged, is_single, is_plain_where_several}
use Rattle.query_merging_laws.proofs.Forms.{none_some, some_is, IsGood, singles-tidy, tidy-good}
use Rattle.query_merging_laws.proofs.Required.{merged_leaf-same, merged_leaf-tidy}
use Rattle.query_merging_laws.proofs.OptionalPart.{merged_optional-same, merged_optional-good}
use Rattle.query_merging_laws.proofs.UnionSides.{merged_union-same, merged_union-good}

abbrev Stars : Type 0
Stars = Tree (List Star)

-- ---- the merged tree of each kind of tree

module _ (spilled : SpilledTerms) where
  abbrev M : Stars → Stars
  M = merged_tree spilled

  pub merged-Leaf : (l : List Star) → merged_tree spilled (trees.Leaf l) ≡ trees.Leaf (merged_leaf spilled l)
  merged-Leaf l = ap M (sym (views.rolls-Leaf l)) ∙ fold-roll-Tree (List Star) Stars (merged_step spilled) (layer.Leaf l)

  pub merged-Join : (a b : Stars) → merged_tree spilled (trees.Join a b) ≡ trees.Join (merged_tree spilled a) (merged_tree spilled b)
  merged-Join a b = ap M (sym (views.rolls-Join a b)) ∙ fold-roll-Tree (List Star) Stars (merged_step spilled) (layer.Join a b)

  pub merged-LeftJoin : (a b : Stars) (c : Option TruthExpr) → merged_tree spilled (trees.LeftJoin a b c) ≡ left_join_merged spilled (merged_tree spilled a) (merged_tree spilled b) c
  merged-LeftJoin a b c = ap M (sym (views.rolls-LeftJoin a b c)) ∙ fold-roll-Tree (List Star) Stars (merged_step spilled) (layer.LeftJoin a b c)

  pub merged-Union : (a b : Stars) → merged_tree spilled (trees.Union a b) ≡ leaf_or (of_leaves (merged_union spilled) (merged_tree spilled a) (merged_tree spilled b)) (trees.Union (merged_tree spilled a) (merged_tree spilled b))
  merged-Union a b = ap M (sym (views.rolls-Union a b)) ∙ fold-roll-Tree (List Star) Stars (merged_step spilled) (layer.Union a b)

  pub merged-Filter : (c : TruthExpr) (a : Stars) → merged_tree spilled (trees.Filter c a) ≡ trees.Filter c (merged_tree spilled a)
  merged-Filter c a = ap M (sym (views.rolls-Filter c a)) ∙ fold-roll-Tree (List Star) Stars (merged_step spilled) (layer.Filter c a)

-- ---- trees that are leaves

module _ {L : Type 0} where
  pub leaf_of-Leaf : (l : L) → leaf_of (trees.Leaf l) ≡ Some l
  leaf_of-Leaf l = ap (leaf_of {L = L}) (sym (views.rolls-Leaf l)) ∙ fold-roll-Tree L (Option L) leaf_step (layer.Leaf l)

  pub leaf_of-Join : (a b : Tree L) → leaf_of (trees.Join a b) ≡ None
  leaf_of-Join a b = ap (leaf_of {L = L}) (sym (views.rolls-Join a b)) ∙ fold-roll-Tree L (Option L) leaf_step (layer.Join a b)

  pub leaf_of-LeftJoin : (a b : Tree L) (c : Option TruthExpr) → leaf_of (trees.LeftJoin a b c) ≡ None
  leaf_of-LeftJoin a b c = ap (leaf_of {L = L}) (sym (views.rolls-LeftJoin a b c)) ∙ fold-roll-Tree L (Option L) leaf_step (layer.LeftJoin a b c)

  pub leaf_of-Union : (a b : Tree L) → leaf_of (trees.Union a b) ≡ None
  leaf_of-Union a b = ap (leaf_of {L = L}) (sym (views.rolls-Union a b)) ∙ fold-roll-Tree L (Option L) leaf_step (layer.Union a b)

  pub leaf_of-Filter : (c : TruthExpr) (a : Tree L) → leaf_of (trees.Filter c a) ≡ None
  leaf_of-Filter c a = ap (leaf_of {L = L}) (sym (views.rolls-Filter c a)) ∙ fold-roll-Tree L (Option L) leaf_step (layer.Filter c a)

  pub leaf-is : (t : Tree L) (l : L) → leaf_of t ≡ Some l → t ≡ trees.Leaf l
  leaf-is =
      tree_induction (λ t. (l : L) → leaf_of t ≡ Some l → t ≡ trees.Leaf l)
      (λ k l e. ap (λ (x : L). trees.Leaf x) (some_is k l (sym (leaf_of-Leaf k) ∙ e)))
      (λ a b p q l e. absurd (none_some l (sym (leaf_of-Join a b) ∙ e)))
      (λ a b c p q l e. absurd (none_some l (sym (leaf_of-LeftJoin a b c) ∙ e)))
      (λ a b p q l e. absurd (none_some l (sym (leaf_of-Union a b) ∙ e)))
      (λ c a p l e. absurd (none_some l (sym (leaf_of-Filter c a) ∙ e)))

  pub record AreLeaves (merge : L → L → Option L) (a b : Tree L) (merged : L) : Type 0 where
    pub left : L
    pub right : L
    pub one : a ≡ trees.Leaf left
    pub two : b ≡ trees.Leaf right
    pub now : merge left right ≡ Some merged

  pub leaves-are : (merge : L → L → Option L) (a b : Tree L) (merged : L) → of_leaves merge a b ≡ Some merged → AreLeaves merge a b merged
  leaves-are merge a b merged e = at (leaf_of a) (leaf_of b) refl refl e
    where
      at : (x y : Option L) → leaf_of a ≡ x → leaf_of b ≡ y → option_and_then (λ (l : L). option_and_then (λ (m : L). merge l m) y) x ≡ Some merged → AreLeaves merge a b merged
      at None y h k f = absurd (none_some merged f)
      at (Some l) None h k f = absurd (none_some merged f)
      at (Some l) (Some m) h k f = record { left = l; right = m; one = leaf-is a l h; two = leaf-is b m k; now = f }

-- ---- what holds of a merged tree

record IsMerged (spilled : SpilledTerms) (t m : Stars) : Type 0 where
  expressions : expressions_of m ≡ expressions_of t
  fits : every_leaf leaf_fits m ≡ true
  below : every_leaf (list_all star_in_width) m ≡ true
  plain : every_leaf (list_all (is_plain_where_several spilled)) m ≡ true
  same : (g : List RdfTriple) → IsDistinct same_triple g → SameBag (plan_solutions m g) (plan_solutions t g)

moved : {X : Type 0} {xs ys us vs : List X} → xs ≡ us → ys ≡ vs → SameBag us vs → SameBag xs ys
moved p q s = record { totals = λ g. ap (total g) p ∙ s.totals g ∙ sym (ap (total g) q) }

leaf-good : (spilled : SpilledTerms) (t a : Stars) (l : List Star) → IsMerged spilled t a → a ≡ trees.Leaf l → IsGood spilled l
leaf-good spilled t a l h is = record {
  fits = sym (every-Leaf leaf_fits l) ∙ sym (ap (every_leaf leaf_fits) is) ∙ h.fits;
  below = sym (every-Leaf (list_all star_in_width) l) ∙ sym (ap (every_leaf (list_all star_in_width)) is) ∙ h.below;
  plain = sym (every-Leaf (list_all (is_plain_where_several spilled)) l) ∙ sym (ap (every_leaf (list_all (is_plain_where_several spilled))) is) ∙ h.plain;
}

leaf-no_expressions : (spilled : SpilledTerms) (t a : Stars) (l : List Star) → IsMerged spilled t a → a ≡ trees.Leaf l → expressions_of t ≡ []
leaf-no_expressions spilled t a l h is = sym h.expressions ∙ ap (expressions_of {L = List Star}) is ∙ expressions-Leaf l

leaf-same : (spilled : SpilledTerms) (t a : Stars) (l : List Star) → IsMerged spilled t a → a ≡ trees.Leaf l → (g : List RdfTriple) → IsDistinct same_triple g → SameBag (stars_leaf g l) (plan_solutions t g)
leaf-same spilled t a l h is g d = moved (sym (eval-Leaf (stars_leaf g) l) ∙ sym (ap (λ (x : Stars). plan_solutions x g) is)) refl (h.same g d)

good-leaf : (spilled : SpilledTerms) (t : Stars) (l : List Star) → expressions_of t ≡ [] → IsGood spilled l → ((g : List RdfTriple) → IsDistinct same_triple g → SameBag (stars_leaf g l) (plan_solutions t g)) → IsMerged spilled t (trees.Leaf l)
good-leaf spilled t l e good s = record {
  expressions = expressions-Leaf l ∙ sym e;
  fits = every-Leaf leaf_fits l ∙ good.fits;
  below = every-Leaf (list_all star_in_width) l ∙ good.below;
  plain = every-Leaf (list_all (is_plain_where_several spilled)) l ∙ good.plain;
  same = λ g d. moved (eval-Leaf (stars_leaf g) l) refl (s g d);
}

leaf-merged : (spilled : SpilledTerms) (l : List Star) → list_all is_single l ≡ true → list_all star_in_width l ≡ true → IsMerged spilled (trees.Leaf l) (merged_tree spilled (trees.Leaf l))
leaf-merged spilled l e w =
    let tidy = singles-tidy spilled l e w in
    subst (λ (m : Stars). IsMerged spilled (trees.Leaf l) m) (sym (merged-Leaf spilled l))
    (good-leaf spilled (trees.Leaf l) (merged_leaf spilled l) (expressions-Leaf l) (tidy-good spilled (merged_leaf spilled l) (merged_leaf-tidy spilled l tidy))
    (λ g d. moved refl (eval-Leaf (stars_leaf g) l) (merged_leaf-same g d spilled l tidy)))

join-merged : (spilled : SpilledTerms) (a b x y : Stars) → IsMerged spilled a x → IsMerged spilled b y → IsMerged spilled (trees.Join a b) (trees.Join x y)
join-merged spilled a b x y h k = record {
  expressions = expressions-Join x y ∙ ap₂ (λ (es fs : List TruthExpr). es ++ fs) h.expressions k.expressions ∙ sym (expressions-Join a b);
  fits = every-Join leaf_fits x y ∙ and_from (every_leaf leaf_fits x) (every_leaf leaf_fits y) h.fits k.fits;
  below = every-Join (list_all star_in_width) x y ∙ and_from (every_leaf (list_all star_in_width) x) (every_leaf (list_all star_in_width) y) h.below k.below;
  plain = every-Join (list_all (is_plain_where_several spilled)) x y ∙ and_from (every_leaf (list_all (is_plain_where_several spilled)) x) (every_leaf (list_all (is_plain_where_several spilled)) y) h.plain k.plain;
  same = λ g d. moved (eval-Join (stars_leaf g) x y) (eval-Join (stars_leaf g) a b) (same-join (plan_solutions x g) (plan_solutions a g) (plan_solutions y g) (plan_solutions b g) (h.same g d) (k.same g d));
}

left_join-stays : (spilled : SpilledTerms) (a b x y : Stars) (c : Option TruthExpr) → IsMerged spilled a x → IsMerged spilled b y → IsMerged spilled (trees.LeftJoin a b c) (trees.LeftJoin x y c)
left_join-stays spilled a b x y c h k = record {
  expressions = expressions-LeftJoin x y c ∙ ap₂ (λ (es fs : List TruthExpr). es ++ fs ++ present c) h.expressions k.expressions ∙ sym (expressions-LeftJoin a b c);
  fits = every-LeftJoin leaf_fits x y c ∙ and_from (every_leaf leaf_fits x) (every_leaf leaf_fits y) h.fits k.fits;
  below = every-LeftJoin (list_all star_in_width) x y c ∙ and_from (every_leaf (list_all star_in_width) x) (every_leaf (list_all star_in_width) y) h.below k.below;
  plain = every-LeftJoin (list_all (is_plain_where_several spilled)) x y c ∙ and_from (every_leaf (list_all (is_plain_where_several spilled)) x) (every_leaf (list_all (is_plain_where_several spilled)) y) h.plain k.plain;
  same = λ g d. moved (eval-LeftJoin (stars_leaf g) x y c) (eval-LeftJoin (stars_leaf g) a b c) (same-left_join (passes_over c) (plan_solutions x g) (plan_solutions a g) (plan_solutions y g) (plan_solutions b g) (h.same g d) (k.same g d));
}

union-stays : (spilled : SpilledTerms) (a b x y : Stars) → IsMerged spilled a x → IsMerged spilled b y → IsMerged spilled (trees.Union a b) (trees.Union x y)
union-stays spilled a b x y h k = record {
  expressions = expressions-Union x y ∙ ap₂ (λ (es fs : List TruthExpr). es ++ fs) h.expressions k.expressions ∙ sym (expressions-Union a b);
  fits = every-Union leaf_fits x y ∙ and_from (every_leaf leaf_fits x) (every_leaf leaf_fits y) h.fits k.fits;
  below = every-Union (list_all star_in_width) x y ∙ and_from (every_leaf (list_all star_in_width) x) (every_leaf (list_all star_in_width) y) h.below k.below;
  plain = every-Union (list_all (is_plain_where_several spilled)) x y ∙ and_from (every_leaf (list_all (is_plain_where_several spilled)) x) (every_leaf (list_all (is_plain_where_several spilled)) y) h.plain k.plain;
  same = λ g d. moved (eval-Union (stars_leaf g) x y) (eval-Union (stars_leaf g) a b) (same-append (plan_solutions x g) (plan_solutions a g) (plan_solutions y g) (plan_solutions b g) (h.same g d) (k.same g d));
}

filter-merged : (spilled : SpilledTerms) (c : TruthExpr) (a x : Stars) → IsMerged spilled a x → IsMerged spilled (trees.Filter c a) (trees.Filter c x)
filter-merged spilled c a x h = record {
  expressions = expressions-Filter c x ∙ ap (λ (es : List TruthExpr). es ++ c ∷ []) h.expressions ∙ sym (expressions-Filter c a);
  fits = every-Filter leaf_fits c x ∙ h.fits;
  below = every-Filter (list_all star_in_width) c x ∙ h.below;
  plain = every-Filter (list_all (is_plain_where_several spilled)) c x ∙ h.plain;
  same = λ g d. moved (eval-Filter (stars_leaf g) c x) (eval-Filter (stars_leaf g) c a) (same-filter (holds_over c) (plan_solutions x g) (plan_solutions a g) (h.same g d));
}

left_join-leaf : (spilled : SpilledTerms) (a b x y : Stars) (l : List Star) → IsMerged spilled a x → IsMerged spilled b y → of_leaves (merged_optional spilled) x y ≡ Some l → IsMerged spilled (trees.LeftJoin a b None) (trees.Leaf l)
left_join-leaf spilled a b x y l h k e =
    let s = leaves-are (merged_optional spilled) x y l e in
    let good = leaf-good spilled a x s.left h s.one in
    let below = (leaf-good spilled b y s.right k s.two).below in
    good-leaf spilled (trees.LeftJoin a b None) l
    (expressions-LeftJoin a b None ∙ ap₂ (λ (es fs : List TruthExpr). es ++ fs ++ []) (leaf-no_expressions spilled a x s.left h s.one) (leaf-no_expressions spilled b y s.right k s.two))
    (merged_optional-good spilled s.left s.right l good below s.now)
    (λ g d. moved refl (eval-LeftJoin (stars_leaf g) a b None)
    (same-trans (merged_optional-same g d spilled s.left s.right l good below s.now)
    (same-left_join (λ m. true) (stars_leaf g s.left) (plan_solutions a g) (stars_leaf g s.right) (plan_solutions b g) (leaf-same spilled a x s.left h s.one g d) (leaf-same spilled b y s.right k s.two g d))))

left_join-merged : (spilled : SpilledTerms) (a b x y : Stars) (c : Option TruthExpr) → IsMerged spilled a x → IsMerged spilled b y → IsMerged spilled (trees.LeftJoin a b c) (left_join_merged spilled x y c)
left_join-merged spilled a b x y (Some c) h k = left_join-stays spilled a b x y (Some c) h k
left_join-merged spilled a b x y None h k = at (of_leaves (merged_optional spilled) x y) refl
  where
    at : (o : Option (List Star)) → of_leaves (merged_optional spilled) x y ≡ o → IsMerged spilled (trees.LeftJoin a b None) (leaf_or o (trees.LeftJoin x y None))
    at None e = left_join-stays spilled a b x y None h k
    at (Some l) e = left_join-leaf spilled a b x y l h k e

union-leaf : (spilled : SpilledTerms) (a b x y : Stars) (l : List Star) → IsMerged spilled a x → IsMerged spilled b y → of_leaves (merged_union spilled) x y ≡ Some l → IsMerged spilled (trees.Union a b) (trees.Leaf l)
union-leaf spilled a b x y l h k e =
    let s = leaves-are (merged_union spilled) x y l e in
    good-leaf spilled (trees.Union a b) l
    (expressions-Union a b ∙ ap₂ (λ (es fs : List TruthExpr). es ++ fs) (leaf-no_expressions spilled a x s.left h s.one) (leaf-no_expressions spilled b y s.right k s.two))
    (merged_union-good spilled s.left s.right l s.now (leaf-good spilled a x s.left h s.one).below (leaf-good spilled b y s.right k s.two).below)
    (λ g d. moved refl (eval-Union (stars_leaf g) a b)
    (same-trans (merged_union-same g spilled s.left s.right l s.now)
    (same-append (stars_leaf g s.left) (plan_solutions a g) (stars_leaf g s.right) (plan_solutions b g) (leaf-same spilled a x s.left h s.one g d) (leaf-same spilled b y s.right k s.two g d))))

union-merged : (spilled : SpilledTerms) (a b x y : Stars) → IsMerged spilled a x → IsMerged spilled b y → IsMerged spilled (trees.Union a b) (leaf_or (of_leaves (merged_union spilled) x y) (trees.Union x y))
union-merged spilled a b x y h k = at (of_leaves (merged_union spilled) x y) refl
  where
    at : (o : Option (List Star)) → of_leaves (merged_union spilled) x y ≡ o → IsMerged spilled (trees.Union a b) (leaf_or o (trees.Union x y))
    at None e = union-stays spilled a b x y h k
    at (Some l) e = union-leaf spilled a b x y l h k e

-- ---- whole trees

tree-merged : (spilled : SpilledTerms) (t : Stars) → every_leaf (list_all is_single) t ≡ true → every_leaf (list_all star_in_width) t ≡ true → IsMerged spilled t (merged_tree spilled t)
tree-merged spilled =
    let S : List Star → Bool = list_all is_single in
    let W : List Star → Bool = list_all star_in_width in
    tree_induction (λ t. every_leaf S t ≡ true → every_leaf W t ≡ true → IsMerged spilled t (merged_tree spilled t))
    (λ l e w. leaf-merged spilled l (sym (every-Leaf S l) ∙ e) (sym (every-Leaf W l) ∙ w))
    (λ a b p q e w.
    let i = and_parts (every_leaf S a) (every_leaf S b) (sym (every-Join S a b) ∙ e) in
    let j = and_parts (every_leaf W a) (every_leaf W b) (sym (every-Join W a b) ∙ w) in
    subst (λ (m : Stars). IsMerged spilled (trees.Join a b) m) (sym (merged-Join spilled a b)) (join-merged spilled a b (merged_tree spilled a) (merged_tree spilled b) (p i.0 j.0) (q i.1 j.1)))
    (λ a b c p q e w.
    let i = and_parts (every_leaf S a) (every_leaf S b) (sym (every-LeftJoin S a b c) ∙ e) in
    let j = and_parts (every_leaf W a) (every_leaf W b) (sym (every-LeftJoin W a b c) ∙ w) in
    subst (λ (m : Stars). IsMerged spilled (trees.LeftJoin a b c) m) (sym (merged-LeftJoin spilled a b c)) (left_join-merged spilled a b (merged_tree spilled a) (merged_tree spilled b) c (p i.0 j.0) (q i.1 j.1)))
    (λ a b p q e w.
    let i = and_parts (every_leaf S a) (every_leaf S b) (sym (every-Union S a b) ∙ e) in
    let j = and_parts (every_leaf W a) (every_leaf W b) (sym (every-Union W a b) ∙ w) in
    subst (λ (m : Stars). IsMerged spilled (trees.Union a b) m) (sym (merged-Union spilled a b)) (union-merged spilled a b (merged_tree spilled a) (merged_tree spilled b) (p i.0 j.0) (q i.1 j.1)))
    (λ c a p e w.
    subst (λ (m : Stars). IsMerged spilled (trees.Filter c a) m) (sym (merged-Filter spilled c a)) (filter-merged spilled c a (merged_tree spilled a) (p (sym (every-Filter S c a) ∙ e) (sym (every-Filter W c a) ∙ w))))

pub merged-comes : (spilled : SpilledTerms) (q : Query) (plan : Plan) → every_leaf (list_all is_single) plan.tree ≡ true → ComesFrom q plan → ComesFrom q (merged spilled plan)
merged-comes spilled q plan e c =
    let m = tree-merged spilled plan.tree e c.in_width in
    record {
      names = c.names;
      modifiers = c.modifiers;
      expressions = m.expressions ∙ c.expressions;
      fits = m.fits;
      in_width = m.below;
      solutions = λ g d. same-trans (m.same g d) (c.solutions g d);
    }

pub merged-plain : (spilled : SpilledTerms) (q : Query) (plan : Plan) → every_leaf (list_all is_single) plan.tree ≡ true → ComesFrom q plan → every_leaf (list_all (is_plain_where_several spilled)) (merged_tree spilled plan.tree) ≡ true
merged-plain spilled q plan e c = (tree-merged spilled plan.tree e c.in_width).plain
