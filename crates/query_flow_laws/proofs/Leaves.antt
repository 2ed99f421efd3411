-- A tree with other leaves: its solutions, its conditions and what holds of its leaves.
use Rattle.std.specs.Prelude.{◌≡◌, Bool, true, ◌&&◌, List, [], ◌∷◌, ◌++◌, Option}
use Rattle.std.proofs.Common.{sym, ap, ap₂, ◌∙◌}
use Rattle.std.proofs.lemmas.Bool.{and_parts, and_from}
use Rattle.std.specs.List.{filter}
use Rattle.query_meaning.specs.declared.expression.TruthExpr.{TruthExpr}
use Rattle.query_meaning.specs.declared.tree.Tree.{Tree}
use Rattle.query_meaning.specs.declared.tree.Tree.TheVariants as trees
use Rattle.query_meaning.specs.declared.tree.Tree.TheOpen as layer
use Rattle.query_meaning.specs.declared.tree.Tree.TheFolds.{fold-roll-Tree}
use Rattle.query_meaning.specs.declared.tree.Tree.TheViews as views
use Rattle.query_eval_meaning.specs.Mapping.{Mapping}
use Rattle.query_eval_meaning.specs.Eval.{eval, join, left_join, passes_over, holds_over}
use Rattle.query_eval_meaning.specs.EvalLaws.{eval-Leaf, eval-Join, eval-LeftJoin, eval-Union, eval-Filter}
use Rattle.query_plan_meaning.specs.Plans.{present, expressions_of, every_leaf}
use Rattle.query_plan_meaning.specs.PlanLaws.{expressions-Leaf, expressions-Join, expressions-LeftJoin, expressions-Union, expressions-Filter, every-Leaf, every-Join, every-LeftJoin, every-Union, every-Filter}
use Rattle.query_algebra_laws.specs.TreeInduction.{tree_induction}
use Rattle.query_flow_meaning.specs.Planned.{leaves_step, with_leaves}

module _ {L M : Type 0} (f : L → M) where
  abbrev At : Tree L → Tree M
  At = with_leaves f

  pub with-Leaf : (l : L) → with_leaves f (trees.Leaf l) ≡ trees.Leaf (f l)
  with-Leaf l = ap (with_leaves f) (sym (views.rolls-Leaf l)) ∙ fold-roll-Tree L (Tree M) (leaves_step f) (layer.Leaf l)

  pub with-Join : (a b : Tree L) → with_leaves f (trees.Join a b) ≡ trees.Join (with_leaves f a) (with_leaves f b)
  with-Join a b = ap (with_leaves f) (sym (views.rolls-Join a b)) ∙ fold-roll-Tree L (Tree M) (leaves_step f) (layer.Join a b)

  pub with-LeftJoin : (a b : Tree L) (c : Option TruthExpr) → with_leaves f (trees.LeftJoin a b c) ≡ trees.LeftJoin (with_leaves f a) (with_leaves f b) c
  with-LeftJoin a b c = ap (with_leaves f) (sym (views.rolls-LeftJoin a b c)) ∙ fold-roll-Tree L (Tree M) (leaves_step f) (layer.LeftJoin a b c)

  pub with-Union : (a b : Tree L) → with_leaves f (trees.Union a b) ≡ trees.Union (with_leaves f a) (with_leaves f b)
  with-Union a b = ap (with_leaves f) (sym (views.rolls-Union a b)) ∙ fold-roll-Tree L (Tree M) (leaves_step f) (layer.Union a b)

  pub with-Filter : (c : TruthExpr) (a : Tree L) → with_leaves f (trees.Filter c a) ≡ trees.Filter c (with_leaves f a)
  with-Filter c a = ap (with_leaves f) (sym (views.rolls-Filter c a)) ∙ fold-roll-Tree L (Tree M) (leaves_step f) (layer.Filter c a)

  pub eval-with : (leaves : M → List Mapping) (t : Tree L) → eval leaves (with_leaves f t) ≡ eval (λ l. leaves (f l)) t
  eval-with leaves =
      let own : L → List Mapping = λ l. leaves (f l) in
      tree_induction (λ t. eval leaves (with_leaves f t) ≡ eval (λ l. leaves (f l)) t)
      (λ l. ap (eval leaves) (with-Leaf l) ∙ eval-Leaf leaves (f l) ∙ sym (eval-Leaf own l))
      (λ a b p q. ap (eval leaves) (with-Join a b) ∙ eval-Join leaves (At a) (At b) ∙ ap₂ join p q ∙ sym (eval-Join own a b))
      (λ a b c p q. ap (eval leaves) (with-LeftJoin a b c) ∙ eval-LeftJoin leaves (At a) (At b) c ∙ ap₂ (left_join (passes_over c)) p q ∙ sym (eval-LeftJoin own a b c))
      (λ a b p q. ap (eval leaves) (with-Union a b) ∙ eval-Union leaves (At a) (At b) ∙ ap₂ (λ (ms ns : List Mapping). ms ++ ns) p q ∙ sym (eval-Union own a b))
      (λ c a p. ap (eval leaves) (with-Filter c a) ∙ eval-Filter leaves c (At a) ∙ ap (filter (holds_over c)) p ∙ sym (eval-Filter own c a))

  pub expressions-with : (t : Tree L) → expressions_of (with_leaves f t) ≡ expressions_of t
  expressions-with =
      tree_induction (λ t. expressions_of (with_leaves f t) ≡ expressions_of t)
      (λ l. ap (expressions_of {L = M}) (with-Leaf l) ∙ expressions-Leaf (f l) ∙ sym (expressions-Leaf l))
      (λ a b p q. ap (expressions_of {L = M}) (with-Join a b) ∙ expressions-Join (At a) (At b) ∙ ap₂ (λ (x y : List TruthExpr). x ++ y) p q ∙ sym (expressions-Join a b))
      (λ a b c p q. ap (expressions_of {L = M}) (with-LeftJoin a b c) ∙ expressions-LeftJoin (At a) (At b) c ∙ ap₂ (λ (x y : List TruthExpr). x ++ y ++ present c) p q ∙ sym (expressions-LeftJoin a b c))
      (λ a b p q. ap (expressions_of {L = M}) (with-Union a b) ∙ expressions-Union (At a) (At b) ∙ ap₂ (λ (x y : List TruthExpr). x ++ y) p q ∙ sym (expressions-Union a b))
      (λ c a p. ap (expressions_of {L = M}) (with-Filter c a) ∙ expressions-Filter c (At a) ∙ ap (λ (x : List TruthExpr). x ++ c ∷ []) p ∙ sym (expressions-Filter c a))

  pub every-with : (fits : M → Bool) (t : Tree L) → every_leaf fits (with_leaves f t) ≡ every_leaf (λ l. fits (f l)) t
  every-with fits =
      let own : L → Bool = λ l. fits (f l) in
      tree_induction (λ t. every_leaf fits (with_leaves f t) ≡ every_leaf (λ l. fits (f l)) t)
      (λ l. ap (every_leaf fits) (with-Leaf l) ∙ every-Leaf fits (f l) ∙ sym (every-Leaf own l))
      (λ a b p q. ap (every_leaf fits) (with-Join a b) ∙ every-Join fits (At a) (At b) ∙ ap₂ (λ (x y : Bool). x && y) p q ∙ sym (every-Join own a b))
      (λ a b c p q. ap (every_leaf fits) (with-LeftJoin a b c) ∙ every-LeftJoin fits (At a) (At b) c ∙ ap₂ (λ (x y : Bool). x && y) p q ∙ sym (every-LeftJoin own a b c))
      (λ a b p q. ap (every_leaf fits) (with-Union a b) ∙ every-Union fits (At a) (At b) ∙ ap₂ (λ (x y : Bool). x && y) p q ∙ sym (every-Union own a b))
      (λ c a p. ap (every_leaf fits) (with-Filter c a) ∙ every-Filter fits c (At a) ∙ p ∙ sym (every-Filter own c a))

-- a test that follows from another
pub every-more : {L : Type 0} (p q : L → Bool) → ((l : L) → p l ≡ true → q l ≡ true) → (t : Tree L) → every_leaf p t ≡ true → every_leaf q t ≡ true
every-more {L} p q h =
    tree_induction (λ t. every_leaf p t ≡ true → every_leaf q t ≡ true)
    (λ l e. every-Leaf q l ∙ h l (sym (every-Leaf p l) ∙ e))
    (λ a b x y e. let k = and_parts (every_leaf p a) (every_leaf p b) (sym (every-Join p a b) ∙ e) in every-Join q a b ∙ and_from (every_leaf q a) (every_leaf q b) (x k.0) (y k.1))
    (λ a b c x y e. let k = and_parts (every_leaf p a) (every_leaf p b) (sym (every-LeftJoin p a b c) ∙ e) in every-LeftJoin q a b c ∙ and_from (every_leaf q a) (every_leaf q b) (x k.0) (y k.1))
    (λ a b x y e. let k = and_parts (every_leaf p a) (every_leaf p b) (sym (every-Union p a b) ∙ e) in every-Union q a b ∙ and_from (every_leaf q a) (every_leaf q b) (x k.0) (y k.1))
    (λ c a x e. every-Filter q c a ∙ x (sym (every-Filter p c a) ∙ e))

-- a test that every leaf passes
pub every-any : {L : Type 0} (q : L → Bool) → ((l : L) → q l ≡ true) → (t : Tree L) → every_leaf q t ≡ true
every-any {L} q h =
    tree_induction (λ t. every_leaf q t ≡ true)
    (λ l. every-Leaf q l ∙ h l)
    (λ a b x y. every-Join q a b ∙ and_from (every_leaf q a) (every_leaf q b) x y)
    (λ a b c x y. every-LeftJoin q a b c ∙ and_from (every_leaf q a) (every_leaf q b) x y)
    (λ a b x y. every-Union q a b ∙ and_from (every_leaf q a) (every_leaf q b) x y)
    (λ c a x. every-Filter q c a ∙ x)
