-- A star arm after arm: its steps, and the mappings that they hold in the end (this project's own).
use Rattle.std.specs.Prelude.{◌≡◌, ℕ, zero, suc, Bool, true, false, ◌&&◌, ◌==◌, if◌then◌else◌, List, [], ◌∷◌, map, Option, Some, None}
use Rattle.std.specs.List.{flat_map, filter, AllByRecursion}
use Rattle.sql_meaning.specs.declared.script.Step.{Step}
use Rattle.layout_meaning.specs.Side.{Item, ValueLists, find_in_row}
use Rattle.layout_meaning.specs.Rows.{NumberedRow}
use Rattle.layout_standing_meaning.specs.Contents.{SideContents, held_values}
use Rattle.layout_standing_meaning.specs.Standing.{is_spilled_in}
use Rattle.sql_gen_step_laws.specs.Carried.{Name}
use Rattle.layout_row_meaning.specs.Reading.{found_in}
use Rattle.sql_gen_star_meaning.specs.declared.arm.StarArm.{StarArm}
use Rattle.sql_gen_star_meaning.specs.declared.arm.Asked.{Asked}
use Rattle.sql_gen_star_meaning.specs.Asked.{IdMapping, unbound, accepts, then_bound, asked_vars, Askable}
use Rattle.sql_gen_star_meaning.specs.Partials.{Partial, AccessArm, entity_numbers, open_arm}
use Rattle.sql_gen_star_meaning.specs.StarSelects.{access_core, open_core}

-- an arm that is opened, by its number in the access step
pub record Opening : Type 0 where
  pub number : ℕ
  pub asked : Asked

-- the arms are numbered from i on
abbrev pub openings_from : ℕ → List StarArm → List Opening
openings_from i [] = []
openings_from i (a ∷ arms) = record { number = i; asked = a.asked } ∷ openings_from (suc i) arms

-- what the access step reads of an arm
abbrev pub access_arm : StarArm → AccessArm
access_arm a = record { pred = a.pred; columns = a.columns }

-- the same of the arm with a number
abbrev pub access_arms : List StarArm → ℕ → AccessArm
access_arms [] i = record { pred = 0; columns = [] }
access_arms (a ∷ arms) zero = access_arm a
access_arms (a ∷ arms) (suc i) = access_arms arms i

-- an access step has these arms, from the number i on
abbrev pub AccessHas : (ℕ → AccessArm) → ℕ → List StarArm → Type 0
AccessHas access i [] = Unit {0}
AccessHas access i (a ∷ arms) = (access i ≡ access_arm a) × AccessHas access (suc i) arms

-- the numbers of arms
abbrev pub cells_of : List Opening → List ℕ
cells_of arms = map (λ (a : Opening). a.number) arms

-- ---- steps: step n reads the step before it

-- a step for each arm, numbered from n on
abbrev pub opening_steps : (ℕ → Name) → Name → ℕ → Name → List ℕ → List Opening → List Step
opening_steps name lists n before vs [] = []
opening_steps name lists n before vs (a ∷ arms) =
    record { name = name n; body = record { cores = open_core before lists vs a.number (cells_of arms) a.asked ∷ [] } } ∷ opening_steps name lists (suc n) (name n) (asked_vars a.asked vs) arms

-- the name of the last of them
abbrev pub last_name : (ℕ → Name) → ℕ → Name → List Opening → Name
last_name name n before [] = before
last_name name n before (a ∷ arms) = last_name name (suc n) (name n) arms

-- the access step n, and the steps of all arms
abbrev pub arms_steps : (ℕ → Name) → Name → Name → ℕ → Bool → Asked → List StarArm → List Step
arms_steps name primary lists n first entity arms =
    record { name = name n; body = record { cores = access_core primary first entity (access_arms arms) (cells_of (openings_from 0 arms)) ∷ [] } }
    ∷ opening_steps name lists (suc n) (name n) (asked_vars entity []) (openings_from 0 arms)

-- the name of the last of them
abbrev pub arms_last : (ℕ → Name) → ℕ → List StarArm → Name
arms_last name n arms = last_name name (suc n) (name n) (openings_from 0 arms)

-- ---- variables

-- those bound when all arms are open
abbrev pub open_vars : List ℕ → List Opening → List ℕ
open_vars vs [] = vs
open_vars vs (a ∷ arms) = open_vars (asked_vars a.asked vs) arms

-- each arm says rightly whether its variable is bound before
abbrev pub AllAskable : List ℕ → List Opening → Type 0
AllAskable vs [] = Unit {0}
AllAskable vs (a ∷ arms) = Askable vs a.asked × AllAskable (asked_vars a.asked vs) arms

-- ---- what they hold

-- the partial solutions after all arms
abbrev pub open_all : ValueLists → List Opening → List Partial → List Partial
open_all lists [] ps = ps
open_all lists (a ∷ arms) ps = open_all lists arms (flat_map (open_arm lists a.number a.asked) ps)

-- the values, or nothing once
abbrev pub held_choices : List ℕ → List (Option ℕ)
held_choices [] = None ∷ []
held_choices (x ∷ xs) = map (λ (y : ℕ). Some y) (x ∷ xs)

-- every choice of an entity's values, arm after arm
abbrev pub fill : SideContents → ℕ → List StarArm → IdMapping → List IdMapping
fill s e [] m = m ∷ []
fill s e (a ∷ arms) m = flat_map (fill s e arms) (map (λ o. then_bound a.asked o m) (filter (accepts a.asked m) (held_choices (held_values s e a.pred))))

-- every choice with this item's value for the first arm
abbrev pub item_numbers : SideContents → Asked → StarArm → List StarArm → Item → List IdMapping
item_numbers s entity a arms x =
    if x.pred == a.pred && (accepts entity unbound (Some x.entity) && accepts a.asked (entity_numbers entity x.entity) (Some x.value))
    then fill s x.entity arms (then_bound a.asked (Some x.value) (entity_numbers entity x.entity)) else []

-- with a variable predicate: this item's predicate and value
abbrev pub pair_numbers : Asked → Asked → Asked → Item → List IdMapping
pair_numbers entity predicate a x =
    if accepts entity unbound (Some x.entity) && (accepts predicate (entity_numbers entity x.entity) (Some x.pred) && accepts a (then_bound predicate (Some x.pred) (entity_numbers entity x.entity)) (Some x.value))
    then then_bound a (Some x.value) (then_bound predicate (Some x.pred) (entity_numbers entity x.entity)) ∷ [] else []

-- ---- what is asked of a side

-- the arm's columns have whatever a row has under its predicate
abbrev pub ArmFinds : SideContents → StarArm → Type 0
ArmFinds s a = AllByRecursion (λ (r : NumberedRow). found_in a.pred r.pairs a.columns ≡ find_in_row a.pred r.pairs) s.rows

-- rows of number 0 alone are read where no arm is spilled, and all rows for one arm
abbrev pub AreReadable : SideContents → Bool → StarArm → List StarArm → Type 0
AreReadable s true a arms = AllByRecursion (λ (b : StarArm). is_spilled_in b.pred s.rows ≡ false) (a ∷ arms)
AreReadable s false a arms = arms ≡ []
