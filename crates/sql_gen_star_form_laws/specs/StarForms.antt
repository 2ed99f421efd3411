-- What is asked of the parts of a star so that its SELECTs have a text (this project's own).
use Rattle.std.specs.Prelude.{◌≡◌, ℕ, ◌+◌, ◌<◌, ◌≤◌, ◌^◌, true, false, length, pos}
use Rattle.std.specs.List.{AllByRecursion}
use Rattle.query_eval_meaning.specs.Mapping.{width}
use Rattle.table_meaning.specs.Ints.{is_wide_int}
use Rattle.table_meaning.specs.Names.{is_name}
use Rattle.sql_meaning.specs.Scripts.{is_primary}
use Rattle.sql_gen_step_laws.specs.Carried.{Name}
use Rattle.sql_gen_star_meaning.specs.declared.arm.Asked.{Asked}
use Rattle.sql_gen_star_meaning.specs.declared.arm.Asked.TheVariants.{Constant, Again, New, Maybe}
use Rattle.sql_gen_star_meaning.specs.declared.arm.StarArm.{StarArm}
use Rattle.sql_gen_star_meaning.specs.Partials.{AccessArm}
use Rattle.sql_gen_star_meaning.specs.Openings.{Opening, access_arm}

-- an id that has a text, or a variable that there is
abbrev pub AskedFits : Asked → Type 0
AskedFits (Constant n) = is_wide_int (pos n) ≡ true
AskedFits (Again v) = v < width
AskedFits (New v) = v < width
AskedFits (Maybe v) = v < width

-- a column of a primary table, counted from 0, whose number from 1 on has 20 digits at most
abbrev pub ColumnFits : ℕ → Type 0
ColumnFits c = c + 1 < 2 ^ 64

-- a predicate whose id has a text, and at least one column in which it may stand
pub record ArmFits (a : AccessArm) : Type 0 where
  pub number : is_wide_int (pos a.pred) ≡ true
  pub some : 1 ≤ length a.columns
  pub columns : AllByRecursion ColumnFits a.columns

-- an arm whose number has two digits
abbrev pub TwoDigits : ℕ → Type 0
TwoDigits i = i < 100

pub record CellFits (arms : ℕ → AccessArm) (i : ℕ) : Type 0 where
  pub number : TwoDigits i
  pub arm : ArmFits (arms i)

-- ---- the steps of a star

-- an arm that is opened
pub record OpeningFits (a : Opening) : Type 0 where
  pub number : TwoDigits a.number
  pub asked : AskedFits a.asked

-- an arm that is read and opened
pub record StarArmFits (a : StarArm) : Type 0 where
  pub arm : ArmFits (access_arm a)
  pub asked : AskedFits a.asked

-- k steps from the number n on have names of the dialect,
abbrev pub AreNames : (ℕ → Name) → ℕ → ℕ → Type 0
AreNames name n k = (m : ℕ) → n ≤ m → m < n + k → is_name (name m) ≡ true

-- which are none of the primary tables'
abbrev pub AreNoPrimary : (ℕ → Name) → ℕ → ℕ → Type 0
AreNoPrimary name n k = (m : ℕ) → n ≤ m → m < n + k → is_primary (name m) ≡ false
