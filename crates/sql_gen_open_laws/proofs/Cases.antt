-- The CASE over a predicate's columns.
use Rattle.std.proofs.Common.{◌≡◌, ℕ, ◌<◌, ◌⊎◌, Bool, true, false, if◌then◌else◌, List, [], ◌∷◌, map, Option, Some, None, refl, ap, ap₂, ◌∙◌, inl, inr, pos}
use Rattle.std.proofs.lemmas.Bool.{cases_Bool}
use Rattle.std.specs.List.{AllByRecursion}
use Rattle.table_meaning.specs.declared.cell.Cell.{Cell}
use Rattle.table_meaning.specs.declared.cell.Cell.TheVariants.{Null, Int}
use Rattle.table_meaning.specs.declared.kind.Kind.TheVariants as kind
use Rattle.sql_meaning.specs.declared.expression.Branch.{Branch}
use Rattle.sql_meaning.specs.declared.expression.SqlExpr.TheVariants as sql
use Rattle.sql_rows_meaning.specs.Cells.{equal_cells}
use Rattle.sql_rows_meaning.specs.Values.{Sight, Tried, value_of, is_true, first_true}
use Rattle.sql_rows_meaning.specs.ValueLaws.{tried, tried-is, value_of-Name, value_of-Int, value_of-Null, value_of-Equal, value_of-Case}
use Rattle.layout_meaning.specs.Side.{Pair, Row, is_pred}
use Rattle.layout_meaning.specs.Sound.{pair_at}
use Rattle.sql_gen_step_laws.specs.StepTests.{same_number}
use Rattle.layout_row_meaning.specs.Reading.{value_in, found_in}
use Rattle.sql_gen_star_meaning.specs.Partials.{pred_of}
use Rattle.sql_gen_star_meaning.specs.SideTables.{pred_name, val_name, id_or_null, value_or_null}
use Rattle.sql_gen_star_meaning.specs.StarSelects.{star_alias, branch_sql, found_sql}

test_is : (p : ℕ) (q : Option Pair) → is_true (equal_cells (id_or_null (pred_of q)) (Int (pos p))) ≡ is_pred p q
test_is p None = refl
test_is p (Some q) = same_number q.pred p

branch_is : (p c : ℕ) (q : Option Pair) (env : Sight) → env star_alias (pred_name c) ≡ id_or_null (pred_of q) → env star_alias (val_name c) ≡ value_or_null (value_in q) →
    tried (branch_sql p c) env ≡ record { test = equal_cells (id_or_null (pred_of q)) (Int (pos p)); value = value_or_null (value_in q) }
branch_is p c q env pred val =
    let test : value_of (sql.Equal (sql.Name star_alias (pred_name c)) (sql.Int (pos p))) env ≡ equal_cells (id_or_null (pred_of q)) (Int (pos p)) =
    value_of-Equal (sql.Name star_alias (pred_name c)) (sql.Int (pos p)) env ∙ ap₂ equal_cells (value_of-Name star_alias (pred_name c) env ∙ pred) (value_of-Int (pos p) env) in
    let value : value_of (sql.Name star_alias (val_name c)) env ≡ value_or_null (value_in q) = value_of-Name star_alias (val_name c) env ∙ val in
    tried-is (branch_sql p c) env ∙ ap₂ (λ (a b : Cell). (let t : Tried = record { test = a; value = b } in t)) test value

cases_are : (p k : ℕ) (r : Row) (env : Sight) → ((c : ℕ) → c < k → env star_alias (pred_name c) ≡ id_or_null (pred_of (pair_at r c))) → ((c : ℕ) → c < k → env star_alias (val_name c) ≡ value_or_null (value_in (pair_at r c))) →
    (cs : List ℕ) → AllByRecursion (λ c. c < k) cs → first_true (map (λ (b : Branch). tried b env) (map (branch_sql p) cs)) Null ≡ value_or_null (found_in p r cs)
cases_are p k r env preds vals [] below = refl
cases_are p k r env preds vals (c ∷ cs) below =
    ap (λ (t : Tried). if is_true t.test then t.value else first_true (map (λ (b : Branch). tried b env) (map (branch_sql p) cs)) Null) (branch_is p c (pair_at r c) env (preds c below.0) (vals c below.0))
    ∙ ap (λ (b : Bool). if b then value_or_null (value_in (pair_at r c)) else first_true (map (λ (b : Branch). tried b env) (map (branch_sql p) cs)) Null) (test_is p (pair_at r c))
    ∙ go (cases_Bool (is_pred p (pair_at r c))) (cases_are p k r env preds vals cs below.1)
  where
    go : (is_pred p (pair_at r c) ≡ true) ⊎ (is_pred p (pair_at r c) ≡ false) → first_true (map (λ (b : Branch). tried b env) (map (branch_sql p) cs)) Null ≡ value_or_null (found_in p r cs) →
        (if is_pred p (pair_at r c) then value_or_null (value_in (pair_at r c)) else first_true (map (λ (b : Branch). tried b env) (map (branch_sql p) cs)) Null) ≡ value_or_null (found_in p r (c ∷ cs))
    go (inl e) h = rw e refl
    go (inr e) h = rw e h

pub found_value : (p k : ℕ) (r : Row) (env : Sight) → ((c : ℕ) → c < k → env star_alias (pred_name c) ≡ id_or_null (pred_of (pair_at r c))) → ((c : ℕ) → c < k → env star_alias (val_name c) ≡ value_or_null (value_in (pair_at r c))) →
    (cs : List ℕ) → AllByRecursion (λ c. c < k) cs → value_of (found_sql p cs) env ≡ value_or_null (found_in p r cs)
found_value p k r env preds vals cs below =
    value_of-Case (map (branch_sql p) cs) (sql.Null kind.Int) env ∙ ap (first_true (map (λ (b : Branch). tried b env) (map (branch_sql p) cs))) (value_of-Null kind.Int env) ∙ cases_are p k r env preds vals cs below
