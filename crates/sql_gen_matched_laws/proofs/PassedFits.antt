-- A filter over the pairs fits.
use Rattle.std.proofs.Common.{◌≡◌, ℕ, ◌≤◌, true, false, List, [], ◌∷◌, ◌++◌, map, refl, arith}
use Rattle.table_meaning.specs.Names.{is_name}
use Rattle.sql_meaning.specs.declared.expression.SqlExpr.{SqlExpr}
use Rattle.sql_meaning.specs.Scripts.{is_primary, core_refs}
use Rattle.sql_gen_step_laws.specs.Carried.{Name}
use Rattle.sql_gen_step_laws.specs.StepSelects.{left_alias, one_item, variable_item, own_sql}
use Rattle.sql_gen_term_laws.specs.TermTable.{own_test, term_joins}
use Rattle.sql_gen_optional_laws.specs.MatchRows.{kept}
use Rattle.sql_gen_form_laws.specs.Fits.{ExprFits, ItemsFit, JoinsFit, CoreFits, AreVariables}
use Rattle.sql_gen_form_laws.proofs.Expressions.{name-fits}
use Rattle.sql_gen_form_laws.proofs.Names.{kept-name, left-name}
use Rattle.sql_gen_form_laws.proofs.Parts.{no-items, next-item, variable-items, one-before, items-more, joins-more, some-condition, no-keys, core-fits, sources-fit}
use Rattle.sql_gen_form_laws.proofs.Joins.{own-fits}
use Rattle.sql_gen_form_laws.proofs.Terms.{own_test-fits, term-joins_fit, term-joins_no_refs}
use Rattle.sql_gen_matched_laws.specs.PassedSelect.{still_item, passed_core}

still-items : (vs : List ℕ) → AreVariables vs → ItemsFit 1 (map still_item vs)
still-items [] all = no-items 1
still-items (v ∷ vs) all = next-item 1 (still_item v) (map still_item vs) (name-fits 0 left_alias (kept v) left-name (kept-name v all.0)) (kept-name v all.0) (still-items vs all.1)

pub passed-fits : (n : ℕ) → 3 ≤ n → (m terms : Name) → is_name m ≡ true → is_name terms ≡ true → (vs us ts : List ℕ) → AreVariables vs → AreVariables us → AreVariables ts →
    (condition : SqlExpr) → ExprFits n condition → CoreFits n (passed_core m terms vs us ts condition)
passed-fits n l m terms p q vs us ts wv wu wt condition e =
    let joins : JoinsFit n (term_joins terms (own_test us) ts) = joins-more 3 n (term_joins terms (own_test us) ts) l (term-joins_fit 3 terms q (own_test us) (own_test-fits us) ts wt) in
    let items = items-more 1 n (one_item ∷ map (variable_item (own_sql us)) us ++ map still_item vs) (omega arith)
    (one-before 0 (map (variable_item (own_sql us)) us ++ map still_item vs) (variable-items 1 (own_sql us) us (map still_item vs) (own-fits us) wu (still-items vs wv))) in
    core-fits n (passed_core m terms vs us ts condition) (omega arith) items (sources-fit n m left_alias (term_joins terms (own_test us) ts) p left-name joins) joins.depth (some-condition n condition e) (no-keys n) refl refl

pub passed-no_refs : (m terms : Name) → is_primary m ≡ false → is_primary terms ≡ false → (vs us ts : List ℕ) (condition : SqlExpr) → core_refs (passed_core m terms vs us ts condition) ≡ 0
passed-no_refs m terms p q vs us ts condition = rw (p, term-joins_no_refs terms q (own_test us) ts) refl
