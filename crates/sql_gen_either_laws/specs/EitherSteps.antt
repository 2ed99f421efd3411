-- The steps of an Either star: one look at the primary table, a chain of steps for each of its two lists of arms, and UNION ALL
-- (this project's own).
use Rattle.std.specs.Prelude.{◌≡◌, ℕ, suc, ◌+◌, ◌<◌, Bool, false, List, [], ◌∷◌, ◌++◌, length}
use Rattle.std.specs.Str.{bytes_eq}
use Rattle.query_meaning.specs.declared.pattern.Slot.{Slot}
use Rattle.query_plan_meaning.specs.declared.star.Arm.{Arm}
use Rattle.sql_meaning.specs.declared.script.Core.{Core}
use Rattle.sql_meaning.specs.declared.script.Step.{Step}
use Rattle.layout_meaning.specs.Columns.{ColumnsOf}
use Rattle.sql_gen_step_laws.specs.Carried.{Name, Ids}
use Rattle.sql_gen_step_laws.specs.StepSelects.{both, union_body}
use Rattle.sql_gen_star_meaning.specs.declared.arm.Asked.{Asked}
use Rattle.sql_gen_star_meaning.specs.Asked.{asked_slot, asked_vars}
use Rattle.sql_gen_star_meaning.specs.StarSelects.{access_core}
use Rattle.sql_gen_star_meaning.specs.declared.arm.StarArm.{StarArm}
use Rattle.sql_gen_star_meaning.specs.Openings.{openings_from, access_arms, cells_of, opening_steps, last_name, open_vars}
use Rattle.sql_gen_star_laws.specs.StarSteps.{ArmsOf, star_arms}

-- one of the two lists of arms, each of which has a first one
pub record Half : Type 0 where
  pub first : Arm
  pub others : List Arm

-- a list of arms as those of a star
abbrev pub half_arms : Half → ArmsOf
half_arms h = record { first = h.first; required = h.others; optional = [] }

abbrev pub arms_in : Half → List Arm
arms_in h = h.first ∷ h.others

-- by the ids of terms; the variables of its values are counted from the entity alone
abbrev pub half_numbers : ColumnsOf → Ids → Slot → Half → List StarArm
half_numbers columns ids x h = star_arms columns ids x (half_arms h)

-- ---- of any two lists of arms

-- the access step has the cells of both lists
abbrev pub both_core : Name → Bool → Asked → List StarArm → List StarArm → Core
both_core primary first entity left right = access_core primary first entity (access_arms (left ++ right)) (cells_of (openings_from 0 (left ++ right)))

-- the step n is the access step, those of the first list begin behind it, and those of the second behind them
abbrev pub left_steps : (ℕ → Name) → Name → ℕ → Asked → List StarArm → List Step
left_steps name lists n entity left = opening_steps name lists (suc n) (name n) (asked_vars entity []) (openings_from 0 left)

abbrev pub right_steps : (ℕ → Name) → Name → ℕ → Asked → List StarArm → List StarArm → List Step
right_steps name lists n entity left right = opening_steps name lists (suc n + length left) (name n) (asked_vars entity []) (openings_from (length left) right)

-- the names of the last steps of both chains, and their variables
abbrev pub left_last : (ℕ → Name) → ℕ → List StarArm → Name
left_last name n left = last_name name (suc n) (name n) (openings_from 0 left)

abbrev pub right_last : (ℕ → Name) → ℕ → List StarArm → List StarArm → Name
right_last name n left right = last_name name (suc n + length left) (name n) (openings_from (length left) right)

abbrev pub left_vars : Asked → List StarArm → List ℕ
left_vars entity left = open_vars (asked_vars entity []) (openings_from 0 left)

abbrev pub right_vars : Asked → List StarArm → List StarArm → List ℕ
right_vars entity left right = open_vars (asked_vars entity []) (openings_from (length left) right)

-- the number of the last step
abbrev pub united_number : ℕ → List StarArm → List StarArm → ℕ
united_number n left right = suc n + length left + length right

-- UNION ALL of both
abbrev pub united_step : (ℕ → Name) → ℕ → Asked → List StarArm → List StarArm → Step
united_step name n entity left right = record {
  name = name (united_number n left right);
  body = union_body (left_last name n left) (right_last name n left right) (left_vars entity left) (right_vars entity left right);
}

-- all steps
abbrev pub two_chains : (ℕ → Name) → Name → Name → ℕ → Bool → Asked → List StarArm → List StarArm → List Step
two_chains name primary lists n first entity left right =
    record { name = name n; body = record { cores = both_core primary first entity left right ∷ [] } }
    ∷ (left_steps name lists n entity left ++ (right_steps name lists n entity left right ++ united_step name n entity left right ∷ []))

-- ---- of a star

-- its steps, the number of the last one, and its variables
abbrev pub either_steps : (ℕ → Name) → Name → Name → ℕ → Bool → ColumnsOf → Ids → Slot → Half → Half → List Step
either_steps name primary lists n first columns ids x l r = two_chains name primary lists n first (asked_slot ids [] x) (half_numbers columns ids x l) (half_numbers columns ids x r)

abbrev pub either_number : ℕ → ColumnsOf → Ids → Slot → Half → Half → ℕ
either_number n columns ids x l r = united_number n (half_numbers columns ids x l) (half_numbers columns ids x r)

abbrev pub either_vars : ColumnsOf → Ids → Slot → Half → Half → List ℕ
either_vars columns ids x l r =
    both (left_vars (asked_slot ids [] x) (half_numbers columns ids x l)) (right_vars (asked_slot ids [] x) (half_numbers columns ids x l) (half_numbers columns ids x r))

-- a later step has another name than an earlier one
abbrev pub AreApart : (ℕ → Name) → ℕ → Type 0
AreApart name bound = (i j : ℕ) → i < j → j < bound → bytes_eq (name i) (name j) ≡ false
