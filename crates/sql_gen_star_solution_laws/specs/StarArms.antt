-- The arms of a star by the ids of terms: which are opened, and what is asked of each (this project's own).
use Rattle.std.specs.Prelude.{◌≡◌, ℕ, true, false, List, [], ◌∷◌, ◌++◌, map, Option, Some, None}
use Rattle.rdf_meaning.specs.Terms.{RdfTerm, RdfTriple}
use Rattle.rdf_meaning.specs.declared.side.SideName.{SideName}
use Rattle.rdf_meaning.specs.declared.side.SideName.TheVariants.{Direct, Reverse}
use Rattle.query_meaning.specs.declared.pattern.Slot.{Slot}
use Rattle.query_meaning.specs.declared.pattern.Slot.TheVariants.{Var, Const}
use Rattle.query_eval_meaning.specs.Mapping.{Mapping}
use Rattle.query_plan_meaning.specs.declared.star.Arm.{Arm}
use Rattle.query_plan_meaning.specs.Stars.{entity_of, arm_in_width}
use Rattle.layout_meaning.specs.Columns.{ColumnsOf, candidates_of}
use Rattle.layout_meaning.specs.Side.{Item}
use Rattle.sql_gen_step_laws.specs.Carried.{Ids}
use Rattle.sql_gen_step_laws.specs.StepSelects.{has}
use Rattle.sql_gen_star_meaning.specs.declared.arm.Asked.{Asked}
use Rattle.sql_gen_star_meaning.specs.Asked.{IdMapping, asked_vars, asked_slot, asked_maybe}
use Rattle.sql_gen_star_meaning.specs.declared.arm.StarArm.{StarArm}

-- an arm of a star of several arms has a constant as predicate
abbrev pub IsConstant : Slot → Type 0
IsConstant (Var v) = ⊥
IsConstant (Const c) = Unit {0}

-- what is asked of an arm: a constant predicate, and variables that there are
pub record IsArm (a : Arm) : Type 0 where
  pub constant : IsConstant a.pred
  pub below : arm_in_width a ≡ true

-- the id of a predicate that is a constant, and its columns
abbrev pub pred_number : Ids → Slot → ℕ
pred_number ids (Var v) = 0
pred_number ids (Const c) = ids c

abbrev pub pred_columns : ColumnsOf → Slot → List ℕ
pred_columns columns (Var v) = []
pred_columns columns (Const c) = candidates_of columns c.text

-- an arm of which this is asked
abbrev pub star_arm : ColumnsOf → Ids → Asked → Arm → StarArm
star_arm columns ids asked a = record { pred = pred_number ids a.pred; columns = pred_columns columns a.pred; asked = asked }

-- arms that are required, where the variables vs are bound before
abbrev pub required_arms : ColumnsOf → Ids → List ℕ → List Arm → List StarArm
required_arms columns ids vs [] = []
required_arms columns ids vs (a ∷ arms) = star_arm columns ids (asked_slot ids vs a.value) a ∷ required_arms columns ids (asked_vars (asked_slot ids vs a.value) vs) arms

-- the variables bound behind them
abbrev pub required_vars : Ids → List ℕ → List Arm → List ℕ
required_vars ids vs [] = vs
required_vars ids vs (a ∷ arms) = required_vars ids (asked_vars (asked_slot ids vs a.value) vs) arms

-- arms that are optional
abbrev pub optional_arms : ColumnsOf → Ids → List Arm → List StarArm
optional_arms columns ids arms = map (λ (a : Arm). star_arm columns ids (asked_maybe ids a.value) a) arms

-- the entity's variable, if it is one
abbrev pub entity_vars : Ids → Slot → List ℕ
entity_vars ids x = asked_vars (asked_slot ids [] x) []

-- the arms behind the first
abbrev pub other_arms : ColumnsOf → Ids → Slot → Arm → List Arm → List Arm → List StarArm
other_arms columns ids x a required optional =
    required_arms columns ids (asked_vars (asked_slot ids (entity_vars ids x) a.value) (entity_vars ids x)) required ++ optional_arms columns ids optional

-- the first arm, which is required
abbrev pub first_arm : ColumnsOf → Ids → Slot → Arm → StarArm
first_arm columns ids x a = star_arm columns ids (asked_slot ids (entity_vars ids x) a.value) a

-- an optional arm's value is a variable of its own
abbrev pub IsFresh : List ℕ → Slot → Type 0
IsFresh vs (Const c) = ⊥
IsFresh vs (Var v) = has vs v ≡ false

-- so is the value of each of these arms, where the variables vs are bound before
abbrev pub AllFresh : Ids → List ℕ → List Arm → Type 0
AllFresh ids vs [] = Unit {0}
AllFresh ids vs (a ∷ arms) = IsFresh vs a.value × AllFresh ids (asked_vars (asked_maybe ids a.value) vs) arms

-- ---- a star with one arm, whose predicate may be a variable

-- what is asked of the entity, of the predicate, and of the value
abbrev pub pair_entity : Ids → Slot → Asked
pair_entity ids x = asked_slot ids [] x

abbrev pub pair_predicate : Ids → Slot → Arm → Asked
pair_predicate ids x a = asked_slot ids (entity_vars ids x) a.pred

abbrev pub pair_value : Ids → Slot → Arm → Asked
pair_value ids x a = asked_slot ids (asked_vars (asked_slot ids (entity_vars ids x) a.pred) (entity_vars ids x)) a.value

-- ---- solutions by the ids of terms

-- a term's id, and a mapping's ids
abbrev pub number_of : Ids → Option RdfTerm → Option ℕ
number_of ids None = None
number_of ids (Some t) = Some (ids t)

abbrev pub numbers_of : Ids → Mapping → IdMapping
numbers_of ids m v = number_of ids (m v)

-- the value of a triple on a side, and its item
abbrev pub value_on : SideName → RdfTriple → RdfTerm
value_on Direct t = t.o
value_on Reverse t = t.s

abbrev pub side_item : SideName → Ids → RdfTriple → Item
side_item side ids t = record { entity = ids (entity_of side t); pred = ids t.p; value = ids (value_on side t) }
