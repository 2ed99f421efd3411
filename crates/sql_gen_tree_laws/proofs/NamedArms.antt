-- The cells of the steps of a tree are told apart by two digits.
use Rattle.std.specs.Prelude.{◌&&◌, ◌++◌, ◌+◌, ◌<◌, ◌∷◌, ◌≡◌, ◌≤◌, Bool, List, None, Option, Some, [], length, map, refl, suc, true, ℕ}
use Rattle.std.proofs.Common.{◌∙◌, arith, length-append, subst, sym}
use Rattle.std.proofs.lemmas.Bool.{and_parts, leb-true}
use Rattle.std.specs.List.{AllByRecursion, list_all}
use Rattle.bags.specs.BagLaws.{each-append, each-map, each-weaker}
use Rattle.rdf_meaning.specs.declared.side.SideName.{SideName}
use Rattle.layout_meaning.specs.Facts.{FactsOf, IdOf}
use Rattle.query_meaning.specs.declared.expression.TruthExpr.{TruthExpr}
use Rattle.query_meaning.specs.declared.pattern.Slot.{Slot}
use Rattle.query_meaning.specs.declared.pattern.Slot.TheVariants.{Const, Var}
use Rattle.query_meaning.specs.declared.tree.Tree.{Tree}
use Rattle.query_meaning.specs.declared.tree.Tree.TheVariants as trees
use Rattle.query_algebra_laws.specs.TreeInduction.{tree_induction}
use Rattle.query_plan_meaning.specs.declared.star.Arm.{Arm}
use Rattle.query_plan_meaning.specs.declared.star.Star.{Star}
use Rattle.query_plan_meaning.specs.declared.star.StarBody.{StarBody}
use Rattle.query_plan_meaning.specs.declared.star.StarBody.TheVariants.{Both, Either}
use Rattle.query_plan_meaning.specs.Plans.{every_leaf}
use Rattle.query_plan_meaning.specs.PlanLaws.{every-Filter, every-Join, every-Leaf, every-LeftJoin, every-Union}
use Rattle.query_plan_meaning.specs.Stars.{arms_of}
use Rattle.sql_gen_meaning.specs.Compilable.{has_few_arms}
use Rattle.sql_gen_filter_meaning.specs.ConditionVariables.{condition_variables}
use Rattle.sql_gen_filter_meaning.specs.Filters.{filter_sql}
use Rattle.sql_gen_star_meaning.specs.Asked.{asked_vars}
use Rattle.sql_gen_star_meaning.specs.Openings.{Opening, cells_of, openings_from}
use Rattle.sql_gen_star_meaning.specs.declared.arm.StarArm.{StarArm}
use Rattle.sql_gen_star_solution_laws.specs.StarArms.{entity_vars}
use Rattle.sql_gen_star_laws.specs.StarSteps.{ArmsOf, star_arms}
use Rattle.sql_gen_either_laws.specs.EitherSteps.{Half, arms_in, half_arms}
use Rattle.sql_gen_numbered_meaning.specs.Numbered.{shift, shifted}
use Rattle.sql_gen_numbered_meaning.specs.NumberedStars.{numbered_openings}
use Rattle.sql_gen_numbered_meaning.specs.declared.numbered.NumberedBody.{NumberedBody}
use Rattle.sql_gen_numbered_meaning.specs.declared.numbered.NumberedBody.TheVariants.{Access, Distinct, Filtered, Joined, Matched, Open, Optional, Pairs, Passed, Single, United}
use Rattle.sql_gen_out_laws.specs.Further.{behind_both}
use Rattle.sql_gen_out_laws.specs.Outs.{Out}
use Rattle.sql_gen_node_laws.specs.Nodes.{joined_out}
use Rattle.sql_gen_star_out_laws.specs.StarOuts.{star_out, told_columns, told_id}
use Rattle.sql_gen_star_out_laws.proofs.ArmStars.{length-arms}
use Rattle.sql_gen_scripts.specs.Arms.{HasNamedArms, HaveNamedArms}
use Rattle.sql_gen_tree_laws.specs.TreeOuts.{leaf_out, left_joined_out, stars_out, tree_out}
use Rattle.sql_gen_tree_laws.proofs.TreeLevels.{tree-Filter, tree-Join, tree-Leaf, tree-LeftJoin, tree-Union}

-- ---- steps behind others

shift-named : (k : ℕ) (b : NumberedBody) → HasNamedArms b → HasNamedArms (shift k b)
shift-named k Single h = h
shift-named k (Access side spilled entity arms) h = h
shift-named k (Pairs side entity predicate columns) h = h
shift-named k (Open side a vs arm later asked) h = h
shift-named k (Joined left a b vs ws certain) h = h
shift-named k (United a b vs ws) h = h
shift-named k (Filtered a vs ts condition) h = h
shift-named k (Matched a b vs ws certain) h = h
shift-named k (Passed m vs ws ts condition) h = h
shift-named k (Optional a m vs ws certain) h = h
shift-named k (Distinct a vs us) h = h

behind-named : (xs ys more : List NumberedBody) → HaveNamedArms xs → HaveNamedArms ys → HaveNamedArms more → HaveNamedArms (behind_both xs ys more)
behind-named xs ys more p q r =
    each-append HasNamedArms (xs ++ shifted (length xs) ys) more
    (each-append HasNamedArms xs (shifted (length xs) ys) p (each-map HasNamedArms (shift (length xs)) ys (each-weaker HasNamedArms (λ b. HasNamedArms (shift (length xs) b)) (shift-named (length xs)) ys q))) r

-- ---- the steps of a star

cells-below : (i : ℕ) (arms : List StarArm) → i + length arms ≤ 100 → AllByRecursion (λ j. j < 100) (cells_of (openings_from i arms))
cells-below i [] l = tt
cells-below i (a ∷ arms) l = (omega arith, cells-below (suc i) arms (omega arith))

openings-named : (side : SideName) (n before : ℕ) (vs : List ℕ) (i : ℕ) (arms : List StarArm) → i + length arms ≤ 100 → HaveNamedArms (numbered_openings side n before vs (openings_from i arms))
openings-named side n before vs i [] l = tt
openings-named side n before vs i (a ∷ arms) l = ((omega arith, cells-below (suc i) arms (omega arith)), openings-named side (n + 1) n (asked_vars a.asked vs) (suc i) arms (omega arith))

module _ (facts : FactsOf) (ids : List IdOf) where
  star-arms : (x : Slot) (side : SideName) (arms : ArmsOf) → length (star_arms (told_columns facts side) (told_id ids) x arms) ≡ length ((arms.first ∷ arms.required) ++ arms.optional)
  star-arms x side arms =
      let l = length-arms (told_columns facts side) (told_id ids) (entity_vars (told_id ids) x) arms.optional (arms.first ∷ arms.required) in
      let r = length-append (arms.first ∷ arms.required) arms.optional in
      omega (arith, l, r)

  abbrev Named : Star → Type 0
  Named star = HaveNamedArms (star_out facts ids star).steps

  first-named : (p : Slot) (number : ℕ) (value x : Slot) (side : SideName) (ps qs : List Arm) →
      (let a : Arm = record { pattern = number; pred = p; value = value } in length ((a ∷ ps) ++ qs) ≤ 100 → Named (record { entity = x; side = side; body = Both (a ∷ ps) qs }))
  first-named (Var v) number value x side ps qs l = (tt, ((omega arith, tt), tt))
  first-named (Const c) number value x side ps qs l =
      (omega (arith, few), openings-named side 1 0 (entity_vars (told_id ids) x) 0 numbers (omega (arith, few)))
    where
      arms : ArmsOf
      arms = record { first = record { pattern = number; pred = Const c; value = value }; required = ps; optional = qs }

      numbers : List StarArm
      numbers = star_arms (told_columns facts side) (told_id ids) x arms

      few : length numbers ≤ 100
      few = let e = star-arms x side arms in omega (arith, e, l)

  either-named : (x : Slot) (side : SideName) (a b : Arm) (ls rs : List Arm) → length ((a ∷ ls) ++ (b ∷ rs)) ≤ 100 → Named (record { entity = x; side = side; body = Either (a ∷ ls) (b ∷ rs) })
  either-named x side a b ls rs l = (
    omega (arith, both, sum),
    each-append HasNamedArms (numbered_openings side 1 0 bound (openings_from 0 first)) _ (openings-named side 1 0 bound 0 first (omega (arith, sum)))
        (each-append HasNamedArms (numbered_openings side (1 + length first) 0 bound (openings_from (length first) second)) _ (openings-named side (1 + length first) 0 bound (length first) second (omega (arith, sum))) (tt, tt)),
  )
    where
      first : List StarArm
      first = star_arms (told_columns facts side) (told_id ids) x (half_arms (record { first = a; others = ls }))

      second : List StarArm
      second = star_arms (told_columns facts side) (told_id ids) x (half_arms (record { first = b; others = rs }))

      bound : List ℕ
      bound = entity_vars (told_id ids) x

      both : length (first ++ second) ≡ length first + length second
      both = length-append first second

      sum : length first + length second ≤ 100
      sum =
          let f = star-arms x side (half_arms (record { first = a; others = ls })) in
          let s = star-arms x side (half_arms (record { first = b; others = rs })) in
          let i = length-append (a ∷ ls) [] in
          let j = length-append (b ∷ rs) [] in
          let k = length-append (a ∷ ls) (b ∷ rs) in
          omega (arith, f, s, i, j, k)

  body-named : (x : Slot) (side : SideName) (body : StarBody) → length (arms_of body) ≤ 100 → Named (record { entity = x; side = side; body = body })
  body-named x side (Both [] qs) l = tt
  body-named x side (Both (a ∷ ps) qs) l = first-named a.pred a.pattern a.value x side ps qs l
  body-named x side (Either [] rs) l = tt
  body-named x side (Either (a ∷ ls) []) l = tt
  body-named x side (Either (a ∷ ls) (b ∷ rs)) l = either-named x side a b ls rs l

  star-named : (star : Star) → has_few_arms star ≡ true → Named star
  star-named star few = body-named star.entity star.side star.body (leb-true _ 100 few)

  -- ---- trees

  stars-named : (x : Out) (stars : List Star) → HaveNamedArms x.steps → list_all has_few_arms stars ≡ true → HaveNamedArms (stars_out facts ids x stars).steps
  stars-named x [] h few = h
  stars-named x (star ∷ stars) h few =
      let parts = and_parts (has_few_arms star) (list_all has_few_arms stars) few in
      stars-named (joined_out x (star_out facts ids star)) stars (behind-named x.steps (star_out facts ids star).steps _ h (star-named star parts.0) (tt, tt)) parts.1

  leaf-named : (stars : List Star) → list_all has_few_arms stars ≡ true → HaveNamedArms (leaf_out facts ids stars).steps
  leaf-named [] few = (tt, tt)
  leaf-named (star ∷ stars) few =
      let parts = and_parts (has_few_arms star) (list_all has_few_arms stars) few in
      stars-named (star_out facts ids star) stars (star-named star parts.0) parts.1

  left_joined-named : (x y : Out) (f : Option TruthExpr) → HaveNamedArms x.steps → HaveNamedArms y.steps → HaveNamedArms (left_joined_out x y f).steps
  left_joined-named x y None p q = behind-named x.steps y.steps _ p q (tt, tt)
  left_joined-named x y (Some f) p q = behind-named x.steps y.steps _ p q (tt, (tt, (tt, tt)))

  abbrev Few : List Star → Bool
  Few stars = list_all has_few_arms stars

  abbrev IsNamed : Tree (List Star) → Type 0
  IsNamed t = every_leaf (list_all has_few_arms) t ≡ true → HaveNamedArms (tree_out facts ids t).steps

  moved : (x y : Out) → x ≡ y → HaveNamedArms x.steps → HaveNamedArms y.steps
  moved x y e h = subst (λ (z : Out). HaveNamedArms z.steps) e h

  both-few : (n a b : Tree (List Star)) → every_leaf (list_all has_few_arms) n ≡ (every_leaf (list_all has_few_arms) a && every_leaf (list_all has_few_arms) b) → every_leaf (list_all has_few_arms) n ≡ true →
      (every_leaf (list_all has_few_arms) a ≡ true) × (every_leaf (list_all has_few_arms) b ≡ true)
  both-few n a b e few = and_parts (every_leaf (list_all has_few_arms) a) (every_leaf (list_all has_few_arms) b) (sym e ∙ few)

  tree-are-named : (t : Tree (List Star)) → IsNamed t
  tree-are-named =
      tree_induction IsNamed
      (λ stars few. moved (leaf_out facts ids stars) (tree_out facts ids (trees.Leaf stars)) (sym (tree-Leaf facts ids stars)) (leaf-named stars (sym (every-Leaf (list_all has_few_arms) stars) ∙ few)))
      (λ a b p q few. let parts = both-few (trees.Join a b) a b (every-Join (list_all has_few_arms) a b) few in
      moved _ (tree_out facts ids (trees.Join a b)) (sym (tree-Join facts ids a b)) (behind-named (tree_out facts ids a).steps (tree_out facts ids b).steps _ (p parts.0) (q parts.1) (tt, tt)))
      (λ a b f p q few. let parts = both-few (trees.LeftJoin a b f) a b (every-LeftJoin (list_all has_few_arms) a b f) few in
      moved _ (tree_out facts ids (trees.LeftJoin a b f)) (sym (tree-LeftJoin facts ids a b f)) (left_joined-named (tree_out facts ids a) (tree_out facts ids b) f (p parts.0) (q parts.1)))
      (λ a b p q few. let parts = both-few (trees.Union a b) a b (every-Union (list_all has_few_arms) a b) few in
      moved _ (tree_out facts ids (trees.Union a b)) (sym (tree-Union facts ids a b)) (behind-named (tree_out facts ids a).steps (tree_out facts ids b).steps _ (p parts.0) (q parts.1) (tt, tt)))
      (λ f a p few. moved _ (tree_out facts ids (trees.Filter f a)) (sym (tree-Filter facts ids f a))
      (each-append HasNamedArms (tree_out facts ids a).steps _ (p (sym (every-Filter (list_all has_few_arms) f a) ∙ few)) (tt, tt)))

pub tree-named : (facts : FactsOf) (ids : List IdOf) (tree : Tree (List Star)) → every_leaf (list_all has_few_arms) tree ≡ true → HaveNamedArms (tree_out facts ids tree).steps
tree-named facts ids tree few = tree-are-named facts ids tree few
