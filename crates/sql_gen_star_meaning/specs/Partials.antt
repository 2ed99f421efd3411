-- Partial solutions by the ids of terms: what is bound so far, and the cells of the arms that aren't open yet (this project's own).
use Rattle.std.specs.Prelude.{◌≡◌, ℕ, ◌/◌, ◌%◌, ◌+◌, ◌<◌, Bool, true, ◌&&◌, if◌then◌else◌, ◌==◌, List, [], ◌∷◌, ◌++◌, map, Option, Some, None, pos, length}
use Rattle.std.specs.List.{flat_map, filter, AllByRecursion}
use Rattle.bags.specs.Bag.{SameBag}
use Rattle.table_meaning.specs.declared.cell.Cell.{Cell}
use Rattle.table_meaning.specs.declared.cell.Cell.TheVariants.{Int}
use Rattle.sql_rows_meaning.specs.Tables.{Relation}
use Rattle.layout_meaning.specs.declared.value.Value.{Value}
use Rattle.layout_meaning.specs.Side.{Pair, ValueLists, found_values, values_of}
use Rattle.layout_meaning.specs.Rows.{NumberedRow}
use Rattle.sql_gen_step_laws.specs.Carried.{Name, column, one}
use Rattle.sql_gen_star_meaning.specs.declared.arm.Asked.{Asked}
use Rattle.sql_gen_star_meaning.specs.Asked.{IdMapping, unbound, accepts, then_bound}
use Rattle.layout_row_meaning.specs.Reading.{value_in, found_in}
use Rattle.sql_gen_star_meaning.specs.SideTables.{id_or_null, value_or_null}

-- ---- cells

-- the predicate of a pair
abbrev pub pred_of : Option Pair → Option ℕ
pred_of None = None
pred_of (Some q) = Some q.pred

-- what a cell may give: its values, or nothing once
abbrev pub choices_of : ValueLists → Option Value → List (Option ℕ)
choices_of lists None = None ∷ []
choices_of lists (Some v) = map (λ (n : ℕ). Some n) (values_of lists v)

-- a value that is there gives something
abbrev pub HasChoice : ValueLists → Option Value → Type 0
HasChoice lists None = Unit {0}
HasChoice lists (Some v) = 0 < length (found_values lists (Some v))

-- ---- partial solutions

-- what is bound, and the cell of each arm by its number
pub record Partial : Type 0 where
  pub numbers : IdMapping
  pub cells : ℕ → Option Value

-- the column of an arm's cell: r and two digits
unfoldable pub cell_name : ℕ → Name
cell_name i = 114 ∷ (48 + i / 10) ∷ (48 + i % 10) ∷ []

-- one, the variables vs, and the cells of these arms
abbrev pub partial_columns : List ℕ → List ℕ → List Name
partial_columns vs cells = one ∷ (map column vs ++ map cell_name cells)

-- a one, the numbers of the variables vs, and the cells of these arms
abbrev pub partial_row : List ℕ → List ℕ → Partial → List Cell
partial_row vs cells p = Int (pos 1) ∷ (map (λ v. id_or_null (p.numbers v)) vs ++ map (λ i. value_or_null (p.cells i)) cells)

-- each cell of a partial solution gives something, or is null
abbrev pub AllGive : ValueLists → Partial → Type 0
AllGive lists p = (i : ℕ) → HasChoice lists (p.cells i)

-- a table holds just these partial solutions
pub record HoldsPartials (lists : ValueLists) (vs cells : List ℕ) (ps : List Partial) (t : Relation) : Type 0 where
  pub columns : t.columns ≡ partial_columns vs cells
  pub rows : SameBag t.rows (map (partial_row vs cells) ps)
  pub all_give : AllByRecursion (AllGive lists) ps

-- ---- access: a row of the primary table gives its entity, and the cell of each arm

-- an arm's predicate by its number, and the predicate's columns
pub record AccessArm : Type 0 where
  pub pred : ℕ
  pub columns : List ℕ

-- whether a row is read; first: those of number 0 alone
abbrev pub access_test : Bool → Asked → NumberedRow → Bool
access_test first entity r = (if first then r.spill == 0 else true) && accepts entity unbound (Some r.entity)

-- the partial solution of a row
abbrev pub access_partial : Asked → (ℕ → AccessArm) → NumberedRow → Partial
access_partial entity arms r = record { numbers = then_bound entity (Some r.entity) unbound; cells = λ i. found_in (arms i).pred r.pairs (arms i).columns }

-- those of all rows that are read
abbrev pub access_partials : Bool → Asked → (ℕ → AccessArm) → List NumberedRow → List Partial
access_partials first entity arms rows = map (access_partial entity arms) (filter (access_test first entity) rows)

-- ---- pairs: each pair of a row gives its entity, its predicate and its cell

-- what is bound by the entity
abbrev pub entity_numbers : Asked → ℕ → IdMapping
entity_numbers entity e = then_bound entity (Some e) unbound

-- the partial solution of a pair; the pair's cell is that of each arm
abbrev pub pair_partial : Asked → Asked → ℕ → Option Pair → Partial
pair_partial entity predicate e q = record { numbers = then_bound predicate (pred_of q) (entity_numbers entity e); cells = λ i. value_in q }

-- the same where the pair is what is asked, else nothing
abbrev pub pair_partials : Asked → Asked → ℕ → Option Pair → List Partial
pair_partials entity predicate e q =
    if accepts entity unbound (Some e) && accepts predicate (entity_numbers entity e) (pred_of q) then pair_partial entity predicate e q ∷ [] else []

-- those of all pairs of all rows
abbrev pub all_pairs : Asked → Asked → List NumberedRow → List Partial
all_pairs entity predicate rows = flat_map (λ (r : NumberedRow). flat_map (pair_partials entity predicate r.entity) r.pairs) rows

-- ---- open: each choice of an arm's values that agrees with what is bound before

-- a partial solution with one more value
abbrev pub opened : Asked → Partial → Option ℕ → Partial
opened a p o = record { numbers = then_bound a o p.numbers; cells = p.cells }

abbrev pub open_arm : ValueLists → ℕ → Asked → Partial → List Partial
open_arm lists i a p = map (opened a p) (filter (accepts a p.numbers) (choices_of lists (p.cells i)))
