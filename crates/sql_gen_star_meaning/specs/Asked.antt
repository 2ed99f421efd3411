-- What is asked of a place of a star, by the ids of terms (this project's own).
use Rattle.std.specs.Prelude.{◌≡◌, ℕ, Bool, true, false, if◌then◌else◌, ◌==◌, List, [], ◌∷◌, ◌++◌, Option, Some, None, is_some}
use Rattle.query_meaning.specs.declared.pattern.Slot.{Slot}
use Rattle.query_meaning.specs.declared.pattern.Slot.TheVariants.{Var, Const}
use Rattle.sql_gen_step_laws.specs.Carried.{Ids}
use Rattle.sql_gen_step_laws.specs.StepSelects.{has}
use Rattle.sql_gen_star_meaning.specs.declared.arm.Asked.{Asked}
use Rattle.sql_gen_star_meaning.specs.declared.arm.Asked.TheVariants.{Constant, Again, New, Maybe}

-- a solution mapping by the ids of its terms (SPARQL 1.1 Query, section 18.1.8)
abbrev pub IdMapping : Type 0
IdMapping = ℕ → Option ℕ

-- it binds nothing
abbrev pub unbound : IdMapping
unbound v = None

-- a mapping in which a variable became something else
abbrev pub put : ℕ → Option ℕ → IdMapping → IdMapping
put v x m w = if w == v then x else m w

-- both are there and equal
abbrev pub is_number : Option ℕ → Option ℕ → Bool
is_number None b = false
is_number (Some a) None = false
is_number (Some a) (Some b) = a == b

-- whether an id, or none, is what is asked where the mapping stands before
abbrev pub accepts : Asked → IdMapping → Option ℕ → Bool
accepts (Constant n) m o = is_number o (Some n)
accepts (Again v) m o = is_number o (m v)
accepts (New v) m o = is_some o
accepts (Maybe v) m o = true

-- the mapping behind it
abbrev pub then_bound : Asked → Option ℕ → IdMapping → IdMapping
then_bound (Constant n) o m = m
then_bound (Again v) o m = m
then_bound (New v) o m = put v o m
then_bound (Maybe v) o m = put v o m

-- the variables bound after it: a new one comes last, so that the entity's stands first
abbrev pub asked_vars : Asked → List ℕ → List ℕ
asked_vars (Constant n) vs = vs
asked_vars (Again v) vs = vs
asked_vars (New v) vs = vs ++ v ∷ []
asked_vars (Maybe v) vs = vs ++ v ∷ []

-- it says rightly of a variable whether it is bound before
abbrev pub Askable : List ℕ → Asked → Type 0
Askable vs (Constant n) = Unit {0}
Askable vs (Again v) = has vs v ≡ true
Askable vs (New v) = has vs v ≡ false
Askable vs (Maybe v) = has vs v ≡ false

-- it asks for a value
abbrev pub IsRequired : Asked → Type 0
IsRequired (Constant n) = Unit {0}
IsRequired (Again v) = Unit {0}
IsRequired (New v) = Unit {0}
IsRequired (Maybe v) = ⊥

-- an entity is a constant or a new variable
abbrev pub IsEntity : Asked → Type 0
IsEntity (Constant n) = Unit {0}
IsEntity (Again v) = ⊥
IsEntity (New v) = Unit {0}
IsEntity (Maybe v) = ⊥

-- a predicate that is a variable: the entity's, or a new one
abbrev pub IsPredicate : Asked → Asked → Type 0
IsPredicate entity (Constant n) = ⊥
IsPredicate entity (Again v) = has (asked_vars entity []) v ≡ true
IsPredicate entity (New v) = has (asked_vars entity []) v ≡ false
IsPredicate entity (Maybe v) = ⊥

-- what a required place asks where the variables vs are bound before
abbrev pub asked_slot : Ids → List ℕ → Slot → Asked
asked_slot ids vs (Const c) = Constant (ids c)
asked_slot ids vs (Var v) = if has vs v then Again v else New v

-- what the value of an optional arm asks
abbrev pub asked_maybe : Ids → Slot → Asked
asked_maybe ids (Const c) = Constant (ids c)
asked_maybe ids (Var v) = Maybe v
