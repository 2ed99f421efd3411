-- The steps of a star, and what is asked of it (this project's own).
use Rattle.std.specs.Prelude.{◌≡◌, ℕ, suc, ◌<◌, Bool, true, List, [], ◌∷◌}
use Rattle.std.specs.List.{AllByRecursion}
use Rattle.query_meaning.specs.declared.pattern.Slot.{Slot}
use Rattle.query_meaning.specs.declared.pattern.Slot.TheVariants.{Var, Const}
use Rattle.query_eval_meaning.specs.Width.{slot_in_width}
use Rattle.query_plan_meaning.specs.declared.star.Arm.{Arm}
use Rattle.sql_meaning.specs.declared.script.Step.{Step}
use Rattle.layout_meaning.specs.Columns.{ColumnsOf, candidates_of}
use Rattle.sql_gen_step_laws.specs.Carried.{Name, Ids}
use Rattle.sql_gen_star_meaning.specs.Asked.{asked_slot, asked_vars}
use Rattle.sql_gen_star_meaning.specs.PairSelects.{pairs_body}
use Rattle.sql_gen_star_meaning.specs.declared.arm.StarArm.{StarArm}
use Rattle.sql_gen_star_meaning.specs.Openings.{openings_from, opening_steps, arms_steps, arms_last, open_vars}
use Rattle.sql_gen_star_solution_laws.specs.StarArms.{IsArm, required_vars, entity_vars, first_arm, other_arms, AllFresh, pair_entity, pair_predicate, pair_value}

-- a star with an arm that is required, and others
pub record ArmsOf : Type 0 where
  pub first : Arm
  pub required : List Arm
  pub optional : List Arm

-- all arms by the ids of terms
abbrev pub star_arms : ColumnsOf → Ids → Slot → ArmsOf → List StarArm
star_arms columns ids x arms = first_arm columns ids x arms.first ∷ other_arms columns ids x arms.first arms.required arms.optional

-- its steps, numbered from n on
abbrev pub star_steps : (ℕ → Name) → Name → Name → ℕ → Bool → ColumnsOf → Ids → Slot → ArmsOf → List Step
star_steps name primary lists n first columns ids x arms = arms_steps name primary lists n first (asked_slot ids [] x) (star_arms columns ids x arms)

-- the name of its last step
abbrev pub star_last : (ℕ → Name) → ℕ → ColumnsOf → Ids → Slot → ArmsOf → Name
star_last name n columns ids x arms = arms_last name n (star_arms columns ids x arms)

-- the variables of its last step: the entity's first
abbrev pub star_vars : ColumnsOf → Ids → Slot → ArmsOf → List ℕ
star_vars columns ids x arms = open_vars (entity_vars ids x) (openings_from 0 (star_arms columns ids x arms))

-- ---- one arm whose predicate is a variable: the pairs of k columns, and then the value's step

-- the variables of the pairs
abbrev pub pair_vars : Ids → Slot → Arm → List ℕ
pair_vars ids x a = asked_vars (pair_predicate ids x a) (entity_vars ids x)

-- the two steps, numbered from n on
abbrev pub pair_steps : (ℕ → Name) → Name → Name → ℕ → ℕ → Ids → Slot → Arm → List Step
pair_steps name primary lists n k ids x a =
    record { name = name n; body = pairs_body primary (pair_entity ids x) (pair_predicate ids x a) k }
    ∷ opening_steps name lists (suc n) (name n) (pair_vars ids x a) (record { number = 0; asked = pair_value ids x a } ∷ [])

-- the name of the second
abbrev pub pair_last : (ℕ → Name) → ℕ → Name
pair_last name n = name (suc n)

-- its variables
abbrev pub pair_all_vars : Ids → Slot → Arm → List ℕ
pair_all_vars ids x a = asked_vars (pair_value ids x a) (pair_vars ids x a)

-- ---- what is asked

-- a predicate that is a variable
abbrev pub IsVariable : Slot → Type 0
IsVariable (Var v) = Unit {0}
IsVariable (Const c) = ⊥

-- what is asked of a star: constant predicates, variables that there are, and optional values that stand nowhere else
pub record IsStar (ids : Ids) (x : Slot) (arms : ArmsOf) : Type 0 where
  pub entity : slot_in_width x ≡ true
  pub required : AllByRecursion IsArm (arms.first ∷ arms.required)
  pub optional : AllByRecursion IsArm arms.optional
  pub fresh : AllFresh ids (required_vars ids (entity_vars ids x) (arms.first ∷ arms.required)) arms.optional

-- each candidate is a column
abbrev pub AreWithin : ColumnsOf → Type 0
AreWithin columns = (iri : List ℕ) → AllByRecursion (λ c. c < columns.count) (candidates_of columns iri)
