-- A table with the terms and their numbers, and how a step joins it.
use Rattle.std.specs.Prelude.{◌≡◌, ℕ, ℤ, ◌+◌, ◌/◌, ◌%◌, Bool, true, false, cond, if◌then◌else◌, List, [], ◌∷◌, map, Option, Some, None, pos, codes}
use Rattle.bags.specs.Bag.{total}
use Rattle.rdf_meaning.specs.Terms.{RdfTerm}
use Rattle.rdf_value_meaning.specs.Values.{class_of, value_of}
use Rattle.table_meaning.specs.declared.cell.Cell.{Cell}
use Rattle.table_meaning.specs.declared.cell.Cell.TheVariants.{Null, Int, Text}
use Rattle.sql_meaning.specs.declared.script.JoinTo.{JoinTo}
use Rattle.sql_meaning.specs.declared.expression.SqlExpr.{SqlExpr}
use Rattle.sql_meaning.specs.declared.expression.SqlExpr.TheVariants as sql
use Rattle.sql_rows_meaning.specs.Cells.{equal_cells}
use Rattle.sql_rows_meaning.specs.Values.{is_true}
use Rattle.sql_rows_meaning.specs.Tables.{Relation, cell_under}
use Rattle.query_eval_meaning.specs.Mapping.{Mapping}
use Rattle.sql_rows_meaning.specs.Values.{Sight}
use Rattle.sql_rows_meaning.specs.Sources.{with_row}
use Rattle.sql_gen_step_laws.specs.Carried.{Name, one, Ids}
use Rattle.sql_gen_step_laws.specs.StepSelects.{left_alias, cell_of, has}

abbrev pub id_name : Name
id_name = codes "id"

abbrev pub class_name : Name
class_name = codes "cls"

abbrev pub number_name : Name
number_name = codes "num"

abbrev pub text_name : Name
text_name = codes "txt"

abbrev pub aux_name : Name
aux_name = codes "aux"

abbrev pub term_columns : List Name
term_columns = id_name ∷ class_name ∷ number_name ∷ text_name ∷ aux_name ∷ []

abbrev pub value_cell : Option ℤ → Cell
value_cell None = Null
value_cell (Some n) = Int n

-- a term's number, class, value or null, text, and tag or datatype
abbrev pub term_cells : Ids → RdfTerm → List Cell
term_cells ids t = Int (pos (ids t)) ∷ Int (pos (class_of t)) ∷ value_cell (value_of t) ∷ Text t.text ∷ Text t.aux ∷ []

-- whether a row has this number
abbrev pub has_number : ℕ → List Cell → Bool
has_number n row = is_true (equal_cells (cell_under term_columns row id_name) (Int (pos n)))

-- each known term has just one row with its number, and that row is the term's
pub record HasTerms (ids : Ids) (known : RdfTerm → Bool) (t : Relation) : Type 0 where
  pub columns : t.columns ≡ term_columns
  pub own_row : (s : RdfTerm) → known s ≡ true → (h : List Cell → ℕ) → total (λ row. cond (has_number (ids s) row) (h row) 0) t.rows ≡ h (term_cells ids s)

-- a LEFT JOIN with the rows of a test
abbrev pub term_join : Name → Name → SqlExpr → JoinTo
term_join terms alias test = record { left = true; source = record { table = terms; alias = alias }; on = test }

-- the row of a variable's term; nulls where it is unbound
abbrev pub term_row : Ids → Option RdfTerm → List Cell
term_row ids None = []
term_row ids (Some t) = term_cells ids t

-- t and two digits
unfoldable pub term_alias : ℕ → Name
term_alias v = 116 ∷ (48 + v / 10) ∷ (48 + v % 10) ∷ []

-- the row whose number an expression gives
abbrev pub number_test : (ℕ → SqlExpr) → ℕ → SqlExpr
number_test f u = sql.Equal (sql.Name (term_alias u) id_name) (f u)

-- no row: never true, and still an equality of columns, by which a join is looked up
abbrev pub no_test : ℕ → SqlExpr
no_test u = sql.All (number_test (λ v. sql.Name left_alias one) u ∷ sql.Truth false ∷ [])

-- the row of a variable's number, or none where the step has no column for the variable
abbrev pub own_test : List ℕ → ℕ → SqlExpr
own_test vs u = if has vs u then number_test (cell_of left_alias) u else no_test u

-- one LEFT JOIN with the terms for each variable, by its test
abbrev pub term_joins : Name → (ℕ → SqlExpr) → List ℕ → List JoinTo
term_joins terms test us = map (λ u. term_join terms (term_alias u) (test u)) us

-- what the joins put in sight
abbrev pub with_terms : Ids → List ℕ → Mapping → Sight → Sight
with_terms ids [] m sight = sight
with_terms ids (u ∷ us) m sight = with_terms ids us m (with_row (term_alias u) term_columns (term_row ids (m u)) sight)

abbrev pub class_cell : Option RdfTerm → Cell
class_cell None = Null
class_cell (Some t) = Int (pos (class_of t))

abbrev pub number_cell : Option RdfTerm → Cell
number_cell None = Null
number_cell (Some t) = value_cell (value_of t)

abbrev pub text_cell : Option RdfTerm → Cell
text_cell None = Null
text_cell (Some t) = Text t.text

abbrev pub aux_cell : Option RdfTerm → Cell
aux_cell None = Null
aux_cell (Some t) = Text t.aux

-- each variable has the class, number, text and tag or datatype of its term, or four nulls
pub record Shows (us : List ℕ) (m : Mapping) (sight : Sight) : Type 0 where
  pub class : (u : ℕ) → has us u ≡ true → sight (term_alias u) class_name ≡ class_cell (m u)
  pub number : (u : ℕ) → has us u ≡ true → sight (term_alias u) number_name ≡ number_cell (m u)
  pub text : (u : ℕ) → has us u ≡ true → sight (term_alias u) text_name ≡ text_cell (m u)
  pub aux : (u : ℕ) → has us u ≡ true → sight (term_alias u) aux_name ≡ aux_cell (m u)
