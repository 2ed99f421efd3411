-- What all patterns and all conditions of a tree pass, its leaves and its list of conditions pass.
use Rattle.std.specs.Prelude.{◌≡◌, Bool, true, ◌&&◌, List, [], ◌∷◌, ◌++◌, Option, Some, None, refl}
use Rattle.std.specs.List.{list_all}
use Rattle.std.proofs.Common.{sym, ◌∙◌, ap}
use Rattle.std.proofs.lemmas.Bool.{and_parts, and_from}
use Rattle.std.proofs.lemmas.List.Folds.{list_all-append}
use Rattle.query_meaning.specs.declared.expression.TruthExpr.{TruthExpr}
use Rattle.query_meaning.specs.declared.pattern.Pattern.{Pattern}
use Rattle.query_meaning.specs.declared.tree.Tree.{Tree}
use Rattle.query_algebra_laws.specs.TreeInduction.{tree_induction}
use Rattle.query_plan_meaning.specs.Plans.{present, expressions_of, every_leaf}
use Rattle.query_plan_meaning.specs.PlanLaws.{expressions-Leaf, expressions-Join, expressions-LeftJoin, expressions-Union, expressions-Filter, every-Leaf, every-Join, every-LeftJoin, every-Union, every-Filter}
use Rattle.sparql_query_laws.specs.Passing.{condition_passes, tree_passes, passes-Leaf, passes-Join, passes-LeftJoin, passes-Union, passes-Filter}

-- a weaker test
pub all-more : {X : Type 0} (p q : X → Bool) → ((x : X) → p x ≡ true → q x ≡ true) → (xs : List X) → list_all p xs ≡ true → list_all q xs ≡ true
all-more p q h [] e = refl
all-more p q h (x ∷ xs) e = let k = and_parts (p x) (list_all p xs) e in and_from (q x) (list_all q xs) (h x k.0) (all-more p q h xs k.1)

module _ (p : Pattern → Bool) (test : TruthExpr → Bool) where
  abbrev All : Tree (List Pattern) → Bool
  All t = tree_passes p test t

  pub passes-leaves : (t : Tree (List Pattern)) → tree_passes p test t ≡ true → every_leaf (list_all p) t ≡ true
  passes-leaves =
      tree_induction (λ t. tree_passes p test t ≡ true → every_leaf (list_all p) t ≡ true)
      (λ l e. every-Leaf (list_all p) l ∙ sym (passes-Leaf p test l) ∙ e)
      (λ a b x y e. let k = and_parts (All a) (All b) (sym (passes-Join p test a b) ∙ e) in every-Join (list_all p) a b ∙ and_from _ _ (x k.0) (y k.1))
      (λ a b c x y e.
      let both = and_parts (All a && All b) (condition_passes test c) (sym (passes-LeftJoin p test a b c) ∙ e) in
      let k = and_parts (All a) (All b) both.0 in
      every-LeftJoin (list_all p) a b c ∙ and_from _ _ (x k.0) (y k.1))
      (λ a b x y e. let k = and_parts (All a) (All b) (sym (passes-Union p test a b) ∙ e) in every-Union (list_all p) a b ∙ and_from _ _ (x k.0) (y k.1))
      (λ c a x e. let k = and_parts (test c) (All a) (sym (passes-Filter p test c a) ∙ e) in every-Filter (list_all p) c a ∙ x k.1)

  present-passes : (c : Option TruthExpr) → condition_passes test c ≡ true → list_all test (present c) ≡ true
  present-passes None e = refl
  present-passes (Some f) e = and_from (test f) true e refl

  both-pass : (es fs : List TruthExpr) → list_all test es ≡ true → list_all test fs ≡ true → list_all test (es ++ fs) ≡ true
  both-pass es fs x y = list_all-append test es fs ∙ and_from (list_all test es) (list_all test fs) x y

  pub passes-expressions : (t : Tree (List Pattern)) → tree_passes p test t ≡ true → list_all test (expressions_of t) ≡ true
  passes-expressions =
      tree_induction (λ t. tree_passes p test t ≡ true → list_all test (expressions_of t) ≡ true)
      (λ l e. ap (list_all test) (expressions-Leaf l))
      (λ a b x y e.
      let k = and_parts (All a) (All b) (sym (passes-Join p test a b) ∙ e) in
      ap (list_all test) (expressions-Join a b) ∙ both-pass (expressions_of a) (expressions_of b) (x k.0) (y k.1))
      (λ a b c x y e.
      let both = and_parts (All a && All b) (condition_passes test c) (sym (passes-LeftJoin p test a b c) ∙ e) in
      let k = and_parts (All a) (All b) both.0 in
      ap (list_all test) (expressions-LeftJoin a b c)
      ∙ both-pass (expressions_of a ++ expressions_of b) (present c) (both-pass (expressions_of a) (expressions_of b) (x k.0) (y k.1)) (present-passes c both.1))
      (λ a b x y e.
      let k = and_parts (All a) (All b) (sym (passes-Union p test a b) ∙ e) in
      ap (list_all test) (expressions-Union a b) ∙ both-pass (expressions_of a) (expressions_of b) (x k.0) (y k.1))
      (λ c a x e.
      let k = and_parts (test c) (All a) (sym (passes-Filter p test c a) ∙ e) in
      ap (list_all test) (expressions-Filter c a) ∙ both-pass (expressions_of a) (c ∷ []) (x k.1) (and_from (test c) true k.0 refl))
