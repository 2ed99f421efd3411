-- A LEFT JOIN with the table of terms gives each row once.
use Rattle.std.specs.Prelude.{◌≡◌, ℕ, Bool, true, cond, List, [], map, Option, Some, None, refl}
use Rattle.std.proofs.Common.{ap, ap₂, ◌∙◌, eqb}
use Rattle.std.proofs.lemmas.Slice.Eq.{bytes_eq-Decides}
use Rattle.std.specs.List.{filter}
use Rattle.std.specs.Str.{bytes_eq}
use Rattle.bags.specs.Bag.{total}
use Rattle.bags.specs.BagLaws.{total-same, total-map, total-filter, total-zero}
use Rattle.rdf_meaning.specs.Terms.{RdfTerm}
use Rattle.table_meaning.specs.declared.cell.Cell.{Cell}
use Rattle.table_meaning.specs.declared.cell.Cell.TheVariants.{Null, Int, Text, Truth}
use Rattle.sql_meaning.specs.declared.script.Source.{Source}
use Rattle.sql_meaning.specs.declared.expression.SqlExpr.{SqlExpr}
use Rattle.sql_rows_meaning.specs.Cells.{equal_cells}
use Rattle.sql_rows_meaning.specs.Values.{Sight, value_of, is_true}
use Rattle.sql_rows_meaning.specs.Tables.{Relations, cell_under}
use Rattle.sql_rows_meaning.specs.Sources.{with_row, joined_to}
use Rattle.sql_gen_step_laws.specs.Carried.{Name, Ids, id_cell}
use Rattle.sql_gen_step_laws.specs.LeftStep.{total-or_nulls}
use Rattle.sql_gen_term_laws.specs.TermTable.{id_name, term_columns, HasTerms, term_join, term_row}

pub own_cell : (alias : Name) (columns : List Name) (row : List Cell) (sight : Sight) (c : Name) → with_row alias columns row sight alias c ≡ cell_under columns row c
own_cell alias columns row sight c = let same : bytes_eq alias alias ≡ true = (bytes_eq-Decides alias alias).1 refl in rw same refl

pub equal-null : (x : Cell) → equal_cells x Null ≡ Null
equal-null Null = refl
equal-null (Int n) = refl
equal-null (Text t) = refl
equal-null (Truth b) = refl

-- no row has an unbound number
no-row : (h : List Cell → ℕ) (rows : List (List Cell)) → total (λ row. cond (is_true (equal_cells (cell_under term_columns row id_name) Null)) (h row) 0) rows ≡ 0
no-row h rows = total-same _ (λ row. 0) (λ row. ap (λ (x : Cell). cond (is_true x) (h row) 0) (equal-null (cell_under term_columns row id_name))) rows ∙ total-zero rows

-- whether a row of the table has the number of a variable's term
abbrev pub has_term_of : Ids → Option RdfTerm → List Cell → Bool
has_term_of ids o row = is_true (equal_cells (cell_under term_columns row id_name) (id_cell ids o))

pub total-term : (relations : Relations) (name alias : Name) (ids : Ids) (known : RdfTerm → Bool) → HasTerms ids known (relations name) → (on : SqlExpr) (o : Option RdfTerm) → ((t : RdfTerm) → o ≡ Some t → known t ≡ true) → (sight : Sight) →
    ((row : List Cell) → is_true (value_of on (with_row alias term_columns row sight)) ≡ has_term_of ids o row) → (k : Sight → ℕ) →
    total k (joined_to relations (term_join name alias on) sight) ≡ k (with_row alias term_columns (term_row ids o) sight)
total-term relations name alias ids known st on o knows sight test k =
    let source : Source = record { table = name; alias = alias } in
    let put : List Name → List Cell → Sight = λ cols row. with_row alias cols row sight in
    let found = filter (λ s. is_true (value_of on s)) (map (put (relations name).columns) (relations name).rows) in
    let each : (h : Sight → ℕ) → total h found ≡ total (λ row. cond (has_term_of ids o row) (h (put term_columns row)) 0) (relations name).rows =
    λ h. total-filter h (λ s. is_true (value_of on s)) (map (put (relations name).columns) (relations name).rows)
    ∙ total-map (λ s. cond (is_true (value_of on s)) (h s) 0) (put (relations name).columns) (relations name).rows
    ∙ ap (λ (cols : List Name). total (λ row. cond (is_true (value_of on (put cols row))) (h (put cols row)) 0) (relations name).rows) st.columns
    ∙ total-same _ _ (λ row. ap (λ (b : Bool). cond b (h (put term_columns row)) 0) (test row)) (relations name).rows in
    total-or_nulls k relations source sight found
    ∙ ap₂ (λ m r. cond (eqb m 0) (k (with_row alias (relations name).columns [] sight)) r) (each (λ s. 1)) (each k)
    ∙ ap (λ (cols : List Name). cond (eqb (total (λ row. cond (has_term_of ids o row) 1 0) (relations name).rows) 0) (k (with_row alias cols [] sight))
    (total (λ row. cond (has_term_of ids o row) (k (put term_columns row)) 0) (relations name).rows)) st.columns
    ∙ last o knows
  where
    last : (o : Option RdfTerm) → ((t : RdfTerm) → o ≡ Some t → known t ≡ true) →
        cond (eqb (total (λ row. cond (is_true (equal_cells (cell_under term_columns row id_name) (id_cell ids o))) 1 0) (relations name).rows) 0) (k (with_row alias term_columns [] sight))
        (total (λ row. cond (is_true (equal_cells (cell_under term_columns row id_name) (id_cell ids o))) (k (with_row alias term_columns row sight)) 0) (relations name).rows) ≡ k (with_row alias term_columns (term_row ids o) sight)
    last None kn = rw (no-row (λ row. 1) (relations name).rows) refl
    last (Some t) kn = rw (st.own_row t (kn t refl) (λ row. 1)) (st.own_row t (kn t refl) (λ row. k (with_row alias term_columns row sight)))
