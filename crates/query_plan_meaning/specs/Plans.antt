-- Plans that come from a query (this project's own).
use Rattle.std.specs.Prelude.{◌≡◌, ℕ, ◌+◌, Bool, true, false, if◌then◌else◌, not, ◌&&◌, ◌||◌, ◌==◌, nat_le, List, [], ◌∷◌, ◌++◌, length, Option, Some, None}
use Rattle.std.specs.List.{list_all, IsDistinct}
use Rattle.bags.specs.Bag.{total, SameBag}
use Rattle.rdf_meaning.specs.Terms.{RdfTriple, same_triple, is_empty}
use Rattle.query_meaning.specs.declared.expression.TruthExpr.{TruthExpr}
use Rattle.query_meaning.specs.declared.pattern.Slot.{Slot}
use Rattle.query_meaning.specs.declared.pattern.Slot.TheVariants.{Var, Const}
use Rattle.query_meaning.specs.declared.query.Query.{Query}
use Rattle.query_meaning.specs.declared.tree.Tree.{Tree, fold-Tree}
use Rattle.query_meaning.specs.declared.tree.Tree.TheOpen.{Tree-F, Leaf, Join, LeftJoin, Union, Filter}
use Rattle.query_eval_meaning.specs.Leaf.{is_variable}
use Rattle.query_eval_meaning.specs.Eval.{solutions}
use Rattle.query_plan_meaning.specs.declared.star.Arm.{Arm}
use Rattle.query_plan_meaning.specs.declared.star.Star.{Star}
use Rattle.query_plan_meaning.specs.declared.star.StarBody.{StarBody}
use Rattle.query_plan_meaning.specs.declared.star.StarBody.TheVariants.{Both, Either}
use Rattle.query_plan_meaning.specs.declared.plan.Plan.{Plan}
use Rattle.query_plan_meaning.specs.Stars.{plan_solutions, arms_of, star_in_width}

-- ---- expressions

abbrev pub present : Option TruthExpr → List TruthExpr
present None = []
present (Some f) = f ∷ []

abbrev pub expressions_step : {L : Type 0} → Tree-F L (List TruthExpr) → List TruthExpr
expressions_step (Leaf l) = []
expressions_step (Join a b) = a ++ b
expressions_step (LeftJoin a b f) = a ++ b ++ present f
expressions_step (Union a b) = a ++ b
expressions_step (Filter f a) = a ++ f ∷ []

-- the conditions of a tree, each behind those of its parts
abbrev pub expressions_of : {L : Type 0} → Tree L → List TruthExpr
expressions_of {L} = fold-Tree L (List TruthExpr) expressions_step

-- ---- the form of stars

abbrev pub is_constant : Slot → Bool
is_constant (Var v) = false
is_constant (Const t) = true

-- how often a variable stands there
abbrev pub count_in_slot : ℕ → Slot → ℕ
count_in_slot v x = if is_variable v x then 1 else 0

abbrev pub count_in_arm : ℕ → Arm → ℕ
count_in_arm v a = count_in_slot v a.pred + count_in_slot v a.value

abbrev pub count_in_star : ℕ → Star → ℕ
count_in_star v star = count_in_slot v star.entity + total (count_in_arm v) (arms_of star.body)

-- a variable that stands nowhere else in the leaf
abbrev pub stands_once : List Star → Slot → Bool
stands_once leaf (Var v) = total (count_in_star v) leaf == 1
stands_once leaf (Const t) = false

abbrev pub required_there : StarBody → Bool
required_there (Both required optional) = not (is_empty required)
required_there (Either left right) = not (is_empty left) && not (is_empty right)

abbrev pub optional_of : StarBody → List Arm
optional_of (Both required optional) = optional
optional_of (Either left right) = []

-- a star of several arms has constant predicates
abbrev pub constant_where_several : StarBody → Bool
constant_where_several body = nat_le (length (arms_of body)) 1 || list_all (λ (a : Arm). is_constant a.pred) (arms_of body)

-- there is a required arm (or one on each side), several arms have constant predicates, and an optional arm's value stands nowhere else in the leaf
abbrev pub star_fits : List Star → Star → Bool
star_fits leaf star = required_there star.body && (constant_where_several star.body && list_all (λ (a : Arm). stands_once leaf a.value) (optional_of star.body))

abbrev pub leaf_fits : List Star → Bool
leaf_fits leaf = list_all (star_fits leaf) leaf

abbrev pub every_leaf_step : {L : Type 0} → (L → Bool) → Tree-F L Bool → Bool
every_leaf_step fits (Leaf l) = fits l
every_leaf_step fits (Join a b) = a && b
every_leaf_step fits (LeftJoin a b f) = a && b
every_leaf_step fits (Union a b) = a && b
every_leaf_step fits (Filter f a) = a

-- the test of every leaf
abbrev pub every_leaf : {L : Type 0} → (L → Bool) → Tree L → Bool
every_leaf {L} fits = fold-Tree L Bool (every_leaf_step fits)

-- ---- the plan of a query

-- the query's names, modifiers and expressions, stars that fit, variables that there are, and the query's solutions over every
-- set of triples
pub record ComesFrom (q : Query) (plan : Plan) : Type 0 where
  pub names : plan.names ≡ q.names
  pub modifiers : plan.modifiers ≡ q.modifiers
  pub expressions : expressions_of plan.tree ≡ expressions_of q.tree
  pub fits : every_leaf leaf_fits plan.tree ≡ true
  pub in_width : every_leaf (list_all star_in_width) plan.tree ≡ true
  pub solutions : (g : List RdfTriple) → IsDistinct same_triple g → SameBag (plan_solutions plan.tree g) (solutions q.tree g)
