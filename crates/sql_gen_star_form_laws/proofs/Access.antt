-- The SELECT of access.
use Rattle.std.proofs.Common.{◌≡◌, ℕ, ◌+◌, ◌<◌, Bool, true, false, if◌then◌else◌, List, [], ◌∷◌, ◌++◌, map, Option, Some, None, pos, refl, arith}
use Rattle.std.proofs.lemmas.List.{length-map}
use Rattle.std.specs.List.{AllByRecursion}
use Rattle.bags.specs.BagLaws.{each-append}
use Rattle.query_eval_meaning.specs.Mapping.{width}
use Rattle.table_meaning.specs.Ints.{is_wide_int}
use Rattle.table_meaning.specs.Names.{is_name}
use Rattle.table_meaning.specs.declared.kind.Kind.TheVariants as kind
use Rattle.sql_meaning.specs.declared.expression.SqlExpr.{SqlExpr}
use Rattle.sql_meaning.specs.declared.expression.SqlExpr.TheVariants as sql
use Rattle.sql_meaning.specs.declared.script.Item.{Item}
use Rattle.sql_meaning.specs.Scripts.{is_primary, core_refs}
use Rattle.sql_gen_step_laws.specs.Carried.{Name}
use Rattle.sql_gen_step_laws.specs.StepSelects.{one_item, variable_item}
use Rattle.sql_gen_form_laws.specs.Fits.{ExprFits, BranchFits, ItemsFit, ConditionFits, CoreFits, AreVariables}
use Rattle.sql_gen_form_laws.proofs.Expressions.{fits-more, name-fits, int-fits, null-fits, equal-fits, every-fits, case-fits}
use Rattle.sql_gen_form_laws.proofs.Parts.{no-items, next-item, variable-items, one-before, no-joins, no-condition, no-keys, core-fits, sources-fit}
use Rattle.sql_gen_star_meaning.specs.declared.arm.Asked.{Asked}
use Rattle.sql_gen_star_meaning.specs.declared.arm.Asked.TheVariants.{Constant, Again, New, Maybe}
use Rattle.sql_gen_star_meaning.specs.Asked.{asked_vars}
use Rattle.sql_gen_star_meaning.specs.SideTables.{entry_name, spill_name, pred_name, val_name}
use Rattle.sql_gen_star_meaning.specs.Partials.{AccessArm}
use Rattle.sql_gen_star_meaning.specs.StarSelects.{star_alias, where_every, branch_sql, found_sql, entry_sql, spill_tests, entity_tests, entity_sql, arm_sql, cell_item, access_core}
use Rattle.sql_gen_star_form_laws.specs.StarForms.{AskedFits, ColumnFits, ArmFits, TwoDigits, CellFits}
use Rattle.sql_gen_star_form_laws.proofs.StarNames.{pred-name, val-name, cell-name, star-name, entry-name, spill-name}

-- ---- what the SELECTs of a star share

-- the columns of cells
cell-items : (n : ℕ) (f : ℕ → SqlExpr) (cells : List ℕ) → AllByRecursion (λ i. TwoDigits i × ExprFits n (f i)) cells → ItemsFit n (map (cell_item f) cells)
cell-items n f [] all = no-items n
cell-items n f (i ∷ cells) all = next-item n (cell_item f i) (map (cell_item f) cells) all.0.1 (cell-name i all.0.0) (cell-items n f cells all.1)

-- the ones, the columns of variables, and those of cells
pub partial-items : (n : ℕ) (f g : ℕ → SqlExpr) (us cells : List ℕ) → ((v : ℕ) → v < width → ExprFits (n + 1) (f v)) → AreVariables us → AllByRecursion (λ i. TwoDigits i × ExprFits (n + 1) (g i)) cells →
    ItemsFit (n + 1) (one_item ∷ (map (variable_item f) us ++ map (cell_item g) cells))
partial-items n f g us cells fits below all = one-before n (map (variable_item f) us ++ map (cell_item g) cells) (variable-items (n + 1) f us (map (cell_item g) cells) fits below (cell-items (n + 1) g cells all))

pub where-fits : (n : ℕ) (es : List SqlExpr) → AllByRecursion (ExprFits n) es → ConditionFits (n + 1) (where_every es)
where-fits n [] all = no-condition (n + 1)
where-fits n (e ∷ es) all = let r = every-fits n (e ∷ es) all in record { form = r.form; depth = r.depth }

-- a variable that is asked for is below the width
pub vars-below : (a : Asked) → AskedFits a → (vs : List ℕ) → AreVariables vs → AreVariables (asked_vars a vs)
vars-below (Constant n) w vs all = all
vars-below (Again v) w vs all = all
vars-below (New v) w vs all = each-append (λ v. v < width) vs (v ∷ []) all (w, tt)
vars-below (Maybe v) w vs all = each-append (λ v. v < width) vs (v ∷ []) all (w, tt)

-- ---- one table

pub entry-fits : ExprFits 1 entry_sql
entry-fits = name-fits 0 star_alias entry_name star-name entry-name

pub entities-fit : (entity : Asked) → AskedFits entity → AllByRecursion (ExprFits 3) (entity_tests entity)
entities-fit (Constant n) w = (fits-more 2 3 (sql.Equal entry_sql (sql.Int (pos n))) (omega arith) (equal-fits 1 entry_sql (sql.Int (pos n)) entry-fits (int-fits 0 (pos n) w)), tt)
entities-fit (Again v) w = tt
entities-fit (New v) w = tt
entities-fit (Maybe v) w = tt

-- a SELECT from the primary table alone
pub one-table : (primary : Name) → is_name primary ≡ true → (items : List Item) → ItemsFit 4 (one_item ∷ items) → (o : Option SqlExpr) → ConditionFits 4 o →
    CoreFits 4 (record { distinct = false; items = one_item ∷ items; from = Some (record { table = primary; alias = star_alias }); joins = []; condition = o; keys = []; most = None; skip = None })
one-table primary p items fits o test =
    core-fits 4 (record { distinct = false; items = one_item ∷ items; from = Some (record { table = primary; alias = star_alias }); joins = []; condition = o; keys = []; most = None; skip = None })
    (omega arith) fits (sources-fit 4 primary star_alias [] p star-name (no-joins 4)) (omega arith) test (no-keys 4) refl refl

pub one-ref : (b : Bool) → b ≡ true → (if b then 1 else 0) + 0 ≡ 1
one-ref b e = rw e refl

-- ---- CASE over the columns of a predicate

branches-fit : (p : ℕ) → is_wide_int (pos p) ≡ true → (cs : List ℕ) → AllByRecursion ColumnFits cs → AllByRecursion (BranchFits 2) (map (branch_sql p) cs)
branches-fit p w [] all = tt
branches-fit p w (c ∷ cs) all = (
  record {
    test = equal-fits 1 (sql.Name star_alias (pred_name c)) (sql.Int (pos p)) (name-fits 0 star_alias (pred_name c) star-name (pred-name c all.0)) (int-fits 0 (pos p) w);
    value = name-fits 1 star_alias (val_name c) star-name (val-name c all.0);
  },
  branches-fit p w cs all.1,
)

found-fits : (a : AccessArm) → ArmFits a → ExprFits 3 (found_sql a.pred a.columns)
found-fits a f = case-fits 2 (map (branch_sql a.pred) a.columns) (sql.Null kind.Int) (omega (arith, f.some, length-map a.columns (branch_sql a.pred))) (branches-fit a.pred f.number a.columns f.columns) (null-fits 1 kind.Int)

-- ---- access

spills-fit : (first : Bool) → AllByRecursion (ExprFits 3) (spill_tests first)
spills-fit true = (
  fits-more 2 3 (sql.Equal (sql.Name star_alias spill_name) (sql.Int (pos 0))) (omega arith)
      (equal-fits 1 (sql.Name star_alias spill_name) (sql.Int (pos 0)) (name-fits 0 star_alias spill_name star-name spill-name) (int-fits 0 (pos 0) refl)),
  tt,
)
spills-fit false = tt

cells-fit : (arms : ℕ → AccessArm) (cells : List ℕ) → AllByRecursion (CellFits arms) cells → AllByRecursion (λ i. TwoDigits i × ExprFits 4 (arm_sql arms i)) cells
cells-fit arms [] all = tt
cells-fit arms (i ∷ cells) all = ((all.0.number, fits-more 3 4 (arm_sql arms i) (omega arith) (found-fits (arms i) all.0.arm)), cells-fit arms cells all.1)

pub access-fits : (primary : Name) → is_name primary ≡ true → (first : Bool) (entity : Asked) → AskedFits entity → (arms : ℕ → AccessArm) (cells : List ℕ) → AllByRecursion (CellFits arms) cells → CoreFits 4 (access_core primary first entity arms cells)
access-fits primary p first entity w arms cells all =
    one-table primary p (map (variable_item entity_sql) (asked_vars entity []) ++ map (cell_item (arm_sql arms)) cells)
    (partial-items 3 entity_sql (arm_sql arms) (asked_vars entity []) cells (λ v l. fits-more 1 4 entry_sql (omega arith) entry-fits) (vars-below entity w [] tt) (cells-fit arms cells all))
    (where_every (spill_tests first ++ entity_tests entity)) (where-fits 3 (spill_tests first ++ entity_tests entity) (each-append (ExprFits 3) (spill_tests first) (entity_tests entity) (spills-fit first) (entities-fit entity w)))

pub access-refs : (primary : Name) → is_primary primary ≡ true → (first : Bool) (entity : Asked) (arms : ℕ → AccessArm) (cells : List ℕ) → core_refs (access_core primary first entity arms cells) ≡ 1
access-refs primary p first entity arms cells = one-ref (is_primary primary) p
