-- Which plans may be compiled with given facts and ids (this project's own).
use Rattle.std.specs.Prelude.{◌≡◌, ℕ, ◌<◌, ◌≤◌, ◌^◌, Bool, true, ◌&&◌, nat_le, nat_eq, List, length, Option, Some, None}
use Rattle.std.specs.List.{list_any, list_all, AllByRecursion, IsDistinct}
use Rattle.rdf_meaning.specs.Terms.{same_term}
use Rattle.layout_meaning.specs.Columns.{ColumnsOf, candidates_of}
use Rattle.layout_meaning.specs.Facts.{FactsOf, IdOf}
use Rattle.query_meaning.specs.declared.expression.TruthExpr.{TruthExpr}
use Rattle.query_eval_meaning.specs.Mapping.{width}
use Rattle.query_meaning.specs.declared.modifiers.Key.{Key}
use Rattle.query_meaning.specs.declared.modifiers.Modifiers.{Modifiers}
use Rattle.query_meaning.specs.declared.pattern.Slot.{Slot}
use Rattle.query_meaning.specs.declared.pattern.Slot.TheVariants.{Var, Const}
use Rattle.query_plan_meaning.specs.declared.plan.Plan.{Plan}
use Rattle.query_plan_meaning.specs.declared.star.Arm.{Arm}
use Rattle.query_plan_meaning.specs.declared.star.Star.{Star}
use Rattle.query_plan_meaning.specs.Stars.{arms_of, star_in_width}
use Rattle.query_plan_meaning.specs.Plans.{expressions_of, leaf_fits, every_leaf}
use Rattle.query_merging_meaning.specs.Merging.{is_plain_where_several}
use Rattle.sql_gen_filter_meaning.specs.Connectives.{connectives}

-- ---- constants

-- a constant that the ids name, or a variable
abbrev pub is_told : List IdOf → Slot → Bool
is_told ids (Var v) = true
is_told ids (Const t) = list_any (λ (i : IdOf). same_term i.term t) ids

abbrev pub arm_is_told : List IdOf → Arm → Bool
arm_is_told ids a = is_told ids a.pred && is_told ids a.value

-- the ids name each constant of the star
abbrev pub star_is_told : List IdOf → Star → Bool
star_is_told ids star = is_told ids star.entity && list_all (arm_is_told ids) (arms_of star.body)

-- ---- arms

-- the cells of arms are told apart by two digits
abbrev pub has_few_arms : Star → Bool
has_few_arms star = nat_le (length (arms_of star.body)) 100

-- ---- columns

-- there are columns, no more than numbers of 64 bits count, and each predicate has candidates among them
pub record AreColumns (columns : ColumnsOf) : Type 0 where
  pub some : 1 ≤ columns.count
  pub countable : columns.count < 2 ^ 64
  pub candidates : (iri : List ℕ) → 0 < length (candidates_of columns iri)
  pub within : (iri : List ℕ) → AllByRecursion (λ c. c < columns.count) (candidates_of columns iri)

-- ---- conditions and modifiers

-- at most 97 of !, && and || stand inside one another
abbrev pub is_shallow : TruthExpr → Bool
is_shallow f = nat_le (connectives f) 97

-- no bound, or one of at most 18 digits
abbrev pub IsShortBound : Option ℕ → Type 0
IsShortBound None = Unit {0}
IsShortBound (Some n) = n < 10 ^ 18

-- at most 64 variables are shown, each once, they and the keys are below the width, and counts of rows have at most 18 digits
pub record AreShort (q : Modifiers) : Type 0 where
  pub few : length q.shown ≤ 64
  pub distinct : IsDistinct nat_eq q.shown
  pub in_width : AllByRecursion (λ v. v < width) q.shown
  pub keys_in_width : AllByRecursion (λ (k : Key). k.var < width) q.keys
  pub skip : q.skip < 10 ^ 18
  pub most : IsShortBound q.most

-- ---- the plan

-- In each leaf the stars fit, their variables are below the width, the ids name their constants, and several arms are plain.
-- The columns of both sides are countable. Conditions are shallow, and the modifiers short.
pub record Compilable (plan : Plan) (facts : FactsOf) (ids : List IdOf) : Type 0 where
  pub fits : every_leaf leaf_fits plan.tree ≡ true
  pub in_width : every_leaf (list_all star_in_width) plan.tree ≡ true
  pub told : every_leaf (list_all (star_is_told ids)) plan.tree ≡ true
  pub plain : every_leaf (list_all (is_plain_where_several facts.spilled)) plan.tree ≡ true
  pub few_arms : every_leaf (list_all has_few_arms) plan.tree ≡ true
  pub direct : AreColumns facts.direct
  pub reverse : AreColumns facts.reverse
  pub shallow : list_all is_shallow (expressions_of plan.tree) ≡ true
  pub short : AreShort plan.modifiers
