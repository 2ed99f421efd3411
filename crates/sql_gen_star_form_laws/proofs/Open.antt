-- The SELECT that opens an arm.
use Rattle.std.proofs.Common.{◌≡◌, ℕ, ◌+◌, ◌<◌, Bool, true, false, if◌then◌else◌, ◌==◌, List, [], ◌∷◌, ◌++◌, map, pos, refl, arith}
use Rattle.std.specs.List.{AllByRecursion}
use Rattle.query_eval_meaning.specs.Mapping.{width}
use Rattle.table_meaning.specs.Names.{is_name}
use Rattle.sql_meaning.specs.declared.expression.SqlExpr.TheVariants as sql
use Rattle.sql_meaning.specs.declared.script.JoinTo.{JoinTo}
use Rattle.sql_meaning.specs.Scripts.{is_primary, core_refs}
use Rattle.sql_gen_step_laws.specs.Carried.{Name}
use Rattle.sql_gen_step_laws.specs.StepSelects.{left_alias, cell_of, one_item, variable_item}
use Rattle.sql_gen_form_laws.specs.Fits.{ExprFits, ConditionFits, JoinsFit, CoreFits, AreVariables}
use Rattle.sql_gen_form_laws.proofs.Expressions.{fits-more, name-fits, int-fits, equal-fits, not-fits, is_null-fits, first-fits}
use Rattle.sql_gen_form_laws.proofs.Names.{left-name}
use Rattle.sql_gen_form_laws.proofs.Parts.{items-more, no-joins, next-join, no-condition, some-condition, no-keys, core-fits, sources-fit}
use Rattle.sql_gen_form_laws.proofs.Joins.{left-fits}
use Rattle.sql_gen_star_meaning.specs.declared.arm.Asked.{Asked}
use Rattle.sql_gen_star_meaning.specs.declared.arm.Asked.TheVariants.{Constant, Again, New, Maybe}
use Rattle.sql_gen_star_meaning.specs.Asked.{asked_vars}
use Rattle.sql_gen_star_meaning.specs.SideTables.{lid_name, elm_name}
use Rattle.sql_gen_star_meaning.specs.Partials.{cell_name}
use Rattle.sql_gen_star_meaning.specs.StarSelects.{list_alias, where_every, cell_item, opened_sql, open_tests, or_opened, open_sql, kept_sql, open_core}
use Rattle.sql_gen_star_form_laws.specs.StarForms.{AskedFits, TwoDigits}
use Rattle.sql_gen_star_form_laws.proofs.StarNames.{cell-name, list-name, lid-name, elm-name}
use Rattle.sql_gen_star_form_laws.proofs.Access.{partial-items, vars-below}

kept-fits : (i : ℕ) → TwoDigits i → ExprFits 1 (kept_sql i)
kept-fits i l = name-fits 0 left_alias (cell_name i) left-name (cell-name i l)

opened-fits : (i : ℕ) → TwoDigits i → ExprFits 2 (opened_sql i)
opened-fits i l = first-fits 1 (sql.Name list_alias elm_name ∷ sql.Name left_alias (cell_name i) ∷ []) (omega arith) (name-fits 0 list_alias elm_name list-name elm-name, (kept-fits i l, tt))

tests-fit : (i : ℕ) → TwoDigits i → (a : Asked) → AskedFits a → ConditionFits 4 (where_every (open_tests i a))
tests-fit i l (Constant n) w =
    let e = sql.Equal (opened_sql i) (sql.Int (pos n)) in some-condition 4 e (fits-more 3 4 e (omega arith) (equal-fits 2 (opened_sql i) (sql.Int (pos n)) (opened-fits i l) (int-fits 1 (pos n) w)))
tests-fit i l (Again v) w =
    let e = sql.Equal (opened_sql i) (cell_of left_alias v) in
    some-condition 4 e (fits-more 3 4 e (omega arith) (equal-fits 2 (opened_sql i) (cell_of left_alias v) (opened-fits i l) (fits-more 1 2 (cell_of left_alias v) (omega arith) (left-fits v w))))
tests-fit i l (New v) w = some-condition 4 (sql.Not (sql.IsNull (opened_sql i))) (not-fits 3 (sql.IsNull (opened_sql i)) (is_null-fits 2 (opened_sql i) (opened-fits i l)))
tests-fit i l (Maybe v) w = no-condition 4

or-fits : (i v w : ℕ) → TwoDigits i → w < width → ExprFits 2 (or_opened i v w)
or-fits i v w l k = go (w == v)
  where
    go : (b : Bool) → ExprFits 2 (if b then opened_sql i else cell_of left_alias w)
    go true = opened-fits i l
    go false = fits-more 1 2 (cell_of left_alias w) (omega arith) (left-fits w k)

open-sql_fits : (i : ℕ) → TwoDigits i → (a : Asked) (w : ℕ) → w < width → ExprFits 2 (open_sql i a w)
open-sql_fits i l (Constant n) w k = fits-more 1 2 (cell_of left_alias w) (omega arith) (left-fits w k)
open-sql_fits i l (Again v) w k = fits-more 1 2 (cell_of left_alias w) (omega arith) (left-fits w k)
open-sql_fits i l (New v) w k = or-fits i v w l k
open-sql_fits i l (Maybe v) w k = or-fits i v w l k

kept-cells : (kept : List ℕ) → AllByRecursion TwoDigits kept → AllByRecursion (λ j. TwoDigits j × ExprFits 2 (kept_sql j)) kept
kept-cells [] all = tt
kept-cells (j ∷ kept) all = ((all.0, fits-more 1 2 (kept_sql j) (omega arith) (kept-fits j all.0)), kept-cells kept all.1)

pub open-fits : (before lists : Name) → is_name before ≡ true → is_name lists ≡ true → (vs : List ℕ) → AreVariables vs → (i : ℕ) → TwoDigits i → (kept : List ℕ) → AllByRecursion TwoDigits kept → (a : Asked) → AskedFits a → CoreFits 4 (open_core before lists vs i kept a)
open-fits before lists p q vs wv i l kept wk a w =
    let on = sql.Equal (sql.Name list_alias lid_name) (kept_sql i) in
    let j : JoinTo = record { left = true; source = record { table = lists; alias = list_alias }; on = on } in
    let fits : ExprFits 4 on = fits-more 2 4 on (omega arith) (equal-fits 1 (sql.Name list_alias lid_name) (kept_sql i) (name-fits 0 list_alias lid_name list-name lid-name) (kept-fits i l)) in
    let joins : JoinsFit 4 (j ∷ []) = next-join 4 j [] q list-name fits (no-joins 4) in
    let items = items-more 2 4 (one_item ∷ (map (variable_item (open_sql i a)) (asked_vars a vs) ++ map (cell_item kept_sql) kept)) (omega arith)
    (partial-items 1 (open_sql i a) kept_sql (asked_vars a vs) kept (open-sql_fits i l a) (vars-below a w vs wv) (kept-cells kept wk)) in
    core-fits 4 (open_core before lists vs i kept a) (omega arith) items (sources-fit 4 before left_alias (j ∷ []) p left-name joins) joins.depth (tests-fit i l a w) (no-keys 4) refl refl

none-more : (a b : Bool) → a ≡ false → b ≡ false → (if a then 1 else 0) + ((if b then 1 else 0) + 0) ≡ 0
none-more a b e f = rw (e, f) refl

pub open-no_refs : (before lists : Name) → is_primary before ≡ false → is_primary lists ≡ false → (vs : List ℕ) (i : ℕ) (kept : List ℕ) (a : Asked) → core_refs (open_core before lists vs i kept a) ≡ 0
open-no_refs before lists p q vs i kept a = none-more (is_primary before) (is_primary lists) p q
