-- The SQL of each kind of test gives the test's truth, where the columns are those of the terms.
use Rattle.std.proofs.Common.{◌≡◌, ℕ, inl, inr, Bool, true, false, not, if◌then◌else◌, ◌&&◌, ◌||◌, ◌==◌, List, [], ◌∷◌, map, refl, sym, ap, ap₂, ◌∙◌, pos, Option, Some, None, is_some}
use Rattle.std.specs.List.{list_any, AllByRecursion}
use Rattle.std.specs.Str.{bytes_eq}
use Rattle.std.specs.Ordering.{is_eq, is_lt}
use Rattle.std.proofs.lemmas.Bool.{eqb-true, or_cases}
use Rattle.std.proofs.lemmas.Map.Text.{is_eq-slice_cmp}
use Rattle.rdf_meaning.specs.Terms.{RdfTerm, same_term, is_empty}
use Rattle.rdf_value_meaning.specs.Values.{class_of, has_value}
use Rattle.rdf_value_meaning.specs.Values.{value_of as number_of}
use Rattle.table_meaning.specs.declared.cell.Cell.{Cell}
use Rattle.table_meaning.specs.declared.cell.Cell.TheVariants.{Null, Text, Truth}
use Rattle.sql_meaning.specs.declared.expression.SqlExpr.{SqlExpr}
use Rattle.sql_meaning.specs.declared.expression.SqlExpr.TheVariants as sql
use Rattle.query_meaning.specs.declared.expression.CompareOp.{CompareOp}
use Rattle.query_meaning.specs.declared.expression.CompareOp.TheVariants as op
use Rattle.query_meaning.specs.declared.expression.TermTest.{TermTest}
use Rattle.query_meaning.specs.declared.expression.TermTest.TheVariants as test
use Rattle.query_eval_meaning.specs.Mapping.{Mapping}
use Rattle.query_eval_meaning.specs.Expressions.{Value, not3, and3, or3, all3, any3, on_value, on_values, equal_terms, less_terms, compared_by_value, value_cmp, is_literal, compare, kind_passes, effective, is_nonzero}
use Rattle.query_eval_meaning.specs.Expressions.{Truth as Truth3}
use Rattle.sql_rows_meaning.specs.Cells.{equal_cells, less_cells, is_null}
use Rattle.sql_rows_meaning.specs.Values.{Sight, value_of, is_true, not_cell, and_cells, or_cells, all_cells, any_cells}
use Rattle.sql_rows_meaning.specs.ValueLaws.{value_of-Name, value_of-Int, value_of-Text, value_of-Truth, value_of-Not, value_of-All, value_of-Any}
use Rattle.sql_gen_step_laws.specs.StepSelects.{has, every}
use Rattle.bags.specs.BagLaws.{each-weaker}
use Rattle.sql_gen_term_laws.specs.TermTable.{class_name, term_alias, value_cell, class_cell, Shows}
use Rattle.sql_gen_term_laws.specs.Filters.{truth_cell, Means}
use Rattle.sql_gen_step_laws.specs.StepTests.{same_number}
use Rattle.sql_gen_filter_meaning.specs.Columns.{ValueSql, branch, literal_sql}
use Rattle.sql_gen_filter_laws.specs.Shown.{Shown, Gives}
use Rattle.sql_gen_filter_meaning.specs.Tests.{null_truth, class_in, both_in, classes_by_number, classes_by_text, some_error, both_literals, same_sql, equal_sql, less_sql, compare_sql, bound_sql, kind_sql, effective_sql, some_of}
use Rattle.sql_gen_filter_laws.proofs.Cases.{null_truth-is, case_last, case_first, both_truths, either_truth, first_null, three_truths, three_nulls, class_is-at, class_in-at, class_in-null, null_right, equal_at, less_at, null_at}
use Rattle.sql_gen_filter_laws.proofs.Terms.{has_number, same_by_class, literal_by_class, iri_by_class, blank_by_class, literal_by_kind}

-- ---- two values, in one row

both_in-at : (ns : List ℕ) (a b : ValueSql) (s t : RdfTerm) (env : Sight) → Shown a (Some s) env → Shown b (Some t) env → is_true (value_of (both_in ns a b) env) ≡ (class_of s == class_of t && list_any (λ n. class_of s == n) ns)
both_in-at ns a b s t env p q =
    ap is_true (both_truths (sql.Equal a.class b.class) (class_in ns a.class) env (class_of s == class_of t) (list_any (λ n. class_of s == n) ns)
    (equal_at a.class b.class env _ _ p.class q.class ∙ ap (λ (c : Bool). Truth c) (same_number (class_of s) (class_of t)))
    (class_in-at a.class env (class_of s) p.class ns))

both_in-left : (ns : List ℕ) (a b : ValueSql) (y : Value) (env : Sight) → Shown a None env → Shown b y env → is_true (value_of (both_in ns a b) env) ≡ false
both_in-left ns a b y env p q = first_null (sql.Equal a.class b.class) (class_in ns a.class) env (equal_at a.class b.class env _ _ p.class q.class)

both_in-right : (ns : List ℕ) (a b : ValueSql) (x : Value) (env : Sight) → Shown a x env → Shown b None env → is_true (value_of (both_in ns a b) env) ≡ false
both_in-right ns a b x env p q = first_null (sql.Equal a.class b.class) (class_in ns a.class) env (equal_at a.class b.class env _ _ p.class q.class ∙ null_right (class_cell x))

-- ---- less

-- what two terms of one class that has values give
abbrev ByValue : (RdfTerm → RdfTerm → Bool) → (Cell → Cell → Cell) → Type 0
ByValue test cells =
    (s t : RdfTerm) → ((class_of s == class_of t && list_any (λ n. class_of s == n) classes_by_number) ≡ true → cells (value_cell (number_of s)) (value_cell (number_of t)) ≡ Truth (test s t))
    × ((class_of s == class_of t && list_any (λ n. class_of s == n) classes_by_text) ≡ true → cells (Text s.text) (Text t.text) ≡ Truth (test s t))

one_class : (s t : RdfTerm) (b : Bool) → (class_of s == class_of t && b) ≡ true → class_of s ≡ class_of t
one_class s t b e = eqb-true _ _ (left (class_of s == class_of t) b e)
  where
    left : (b c : Bool) → (b && c) ≡ true → b ≡ true
    left true c e = refl
    left false c e = e

right_part : (b c : Bool) → (b && c) ≡ true → c ≡ true
right_part true c e = e
right_part false c e = cc

by_number : (n : ℕ) → (n == 3 || (n == 4 || (n == 9 || false))) ≡ true → (has_value n ≡ true) × ((n == 5) ≡ false)
by_number n e = elim (or_cases (n == 3) (n == 4 || (n == 9 || false)) e) [
  | inl p ↦ at 3 (eqb-true n 3 p) refl refl
  | inr q ↦ (elim (or_cases (n == 4) (n == 9 || false) q) [
    | inl p ↦ at 4 (eqb-true n 4 p) refl refl
    | inr r ↦ (elim (or_cases (n == 9) false r) [ inl p ↦ at 9 (eqb-true n 9 p) refl refl | inr s ↦ cc ])
  ])
]
  where
    at : (k : ℕ) → n ≡ k → has_value k ≡ true → (k == 5) ≡ false → (has_value n ≡ true) × ((n == 5) ≡ false)
    at k is h five = (ap has_value is ∙ h, ap (λ (i : ℕ). i == 5) is ∙ five)

just_five : (n : ℕ) → (n == 5 || false) ≡ true → (n == 5) ≡ true
just_five n e = elim (or_cases (n == 5) false e) [ inl p ↦ p | inr q ↦ cc ]

pub by_value-less : ByValue (λ s t. is_lt (value_cmp s t)) less_cells
by_value-less s t = (numbers, texts)
  where
    numbers : (class_of s == class_of t && list_any (λ n. class_of s == n) classes_by_number) ≡ true → less_cells (value_cell (number_of s)) (value_cell (number_of t)) ≡ Truth (is_lt (value_cmp s t))
    numbers e =
        let c : class_of s ≡ class_of t = one_class s t _ e in
        let k = by_number (class_of s) (right_part (class_of s == class_of t) _ e) in
        let x = has_number s k.0 in
        let y = has_number t (ap has_value (sym c) ∙ k.0) in
        rw (k.1, x.1, y.1) refl

    texts : (class_of s == class_of t && list_any (λ n. class_of s == n) classes_by_text) ≡ true → less_cells (Text s.text) (Text t.text) ≡ Truth (is_lt (value_cmp s t))
    texts e = let k = just_five (class_of s) (right_part (class_of s == class_of t) _ e) in rw k refl

split : (e p q r s : Bool) → (e && ((p || q || r) || s)) ≡ ((e && (p || (q || (r || false)))) || (e && (s || false)))
split false p q r s = refl
split true true q r s = refl
split true false true r s = refl
split true false false true s = refl
split true false false false true = refl
split true false false false false = refl

compared-is : (s t : RdfTerm) → compared_by_value s t ≡ ((class_of s == class_of t && list_any (λ n. class_of s == n) classes_by_number) || (class_of s == class_of t && list_any (λ n. class_of s == n) classes_by_text))
compared-is s t = split (class_of s == class_of t) (class_of s == 3) (class_of s == 4) (class_of s == 9) (class_of s == 5)

-- by number, by text, or else
chosen : (n x : Bool) (v w e : Cell) (r : Bool) (f : Truth3) → (n ≡ true → v ≡ Truth r) → (x ≡ true → w ≡ Truth r) → e ≡ truth_cell f → (if n then v else (if x then w else e)) ≡ truth_cell (if n || x then Some r else f)
chosen true x v w e r f p q h = p refl
chosen false true v w e r f p q h = q refl
chosen false false v w e r f p q h = h

less_some : (a b : ValueSql) (s t : RdfTerm) (env : Sight) → Shown a (Some s) env → Shown b (Some t) env → value_of (less_sql a b) env ≡ truth_cell (less_terms s t)
less_some a b s t env p q =
    let n = class_of s == class_of t && list_any (λ n. class_of s == n) classes_by_number in
    let x = class_of s == class_of t && list_any (λ n. class_of s == n) classes_by_text in
    let v = value_of (sql.Less a.number b.number) env in
    let w = value_of (sql.Less a.text b.text) env in
    case_first (both_in classes_by_number a b) (sql.Less a.number b.number) (branch (both_in classes_by_text a b) (sql.Less a.text b.text) ∷ []) null_truth env n (both_in-at classes_by_number a b s t env p q)
    ∙ ap (λ (r : Cell). if n then v else r)
    (case_first (both_in classes_by_text a b) (sql.Less a.text b.text) [] null_truth env x (both_in-at classes_by_text a b s t env p q)
    ∙ ap (λ (r : Cell). if x then w else r) (case_last null_truth env ∙ null_truth-is env))
    ∙ chosen n x v w Null (is_lt (value_cmp s t)) None (λ e. less_at a.number b.number env _ _ p.number q.number ∙ (by_value-less s t).0 e) (λ e. less_at a.text b.text env _ _ p.text q.text ∙ (by_value-less s t).1 e) refl
    ∙ ap (λ (c : Bool). truth_cell (if c then Some (is_lt (value_cmp s t)) else None)) (sym (compared-is s t))

less_null : (a b : ValueSql) (env : Sight) → is_true (value_of (both_in classes_by_number a b) env) ≡ false → is_true (value_of (both_in classes_by_text a b) env) ≡ false → value_of (less_sql a b) env ≡ Null
less_null a b env p q =
    case_first (both_in classes_by_number a b) (sql.Less a.number b.number) (branch (both_in classes_by_text a b) (sql.Less a.text b.text) ∷ []) null_truth env false p
    ∙ case_first (both_in classes_by_text a b) (sql.Less a.text b.text) [] null_truth env false q
    ∙ case_last null_truth env ∙ null_truth-is env

pub less_given : (a b : ValueSql) (x y : Value) (env : Sight) → Shown a x env → Shown b y env → value_of (less_sql a b) env ≡ truth_cell (on_values less_terms x y)
less_given a b (Some s) (Some t) env p q = less_some a b s t env p q
less_given a b None y env p q = less_null a b env (both_in-left classes_by_number a b y env p q) (both_in-left classes_by_text a b y env p q)
less_given a b (Some s) None env p q = less_null a b env (both_in-right classes_by_number a b (Some s) env p q) (both_in-right classes_by_text a b (Some s) env p q)

-- ---- equal

pub by_value-equal : ByValue (λ s t. is_eq (value_cmp s t)) equal_cells
by_value-equal s t = (numbers, texts)
  where
    numbers : (class_of s == class_of t && list_any (λ n. class_of s == n) classes_by_number) ≡ true → equal_cells (value_cell (number_of s)) (value_cell (number_of t)) ≡ Truth (is_eq (value_cmp s t))
    numbers e =
        let c : class_of s ≡ class_of t = one_class s t _ e in
        let k = by_number (class_of s) (right_part (class_of s == class_of t) _ e) in
        let x = has_number s k.0 in
        let y = has_number t (ap has_value (sym c) ∙ k.0) in
        rw (k.1, x.1, y.1) refl

    texts : (class_of s == class_of t && list_any (λ n. class_of s == n) classes_by_text) ≡ true → equal_cells (Text s.text) (Text t.text) ≡ Truth (is_eq (value_cmp s t))
    texts e = let k = just_five (class_of s) (right_part (class_of s == class_of t) _ e) in rw k (ap (λ (c : Bool). Truth c) (sym (is_eq-slice_cmp s.text t.text)))

-- ---- the same term

pub same_some : (a b : ValueSql) (s t : RdfTerm) (env : Sight) → Shown a (Some s) env → Shown b (Some t) env → value_of (same_sql a b) env ≡ Truth (same_term s t)
same_some a b s t env p q =
    three_truths (sql.Equal a.class b.class) (sql.Equal a.text b.text) (sql.Equal a.aux b.aux) env (class_of s == class_of t) (bytes_eq s.text t.text) (bytes_eq s.aux t.aux)
    (equal_at a.class b.class env _ _ p.class q.class ∙ ap (λ (c : Bool). Truth c) (same_number (class_of s) (class_of t)))
    (equal_at a.text b.text env _ _ p.text q.text) (equal_at a.aux b.aux env _ _ p.aux q.aux)
    ∙ ap (λ (c : Bool). Truth c) (same_by_class s t)

pub same_given : (a b : ValueSql) (x y : Value) (env : Sight) → Shown a x env → Shown b y env → value_of (same_sql a b) env ≡ truth_cell (on_values (λ s t. Some (same_term s t)) x y)
same_given a b (Some s) (Some t) env p q = same_some a b s t env p q
same_given a b None y env p q =
    three_nulls (sql.Equal a.class b.class) (sql.Equal a.text b.text) (sql.Equal a.aux b.aux) env
    (equal_at a.class b.class env _ _ p.class q.class) (equal_at a.text b.text env _ _ p.text q.text) (equal_at a.aux b.aux env _ _ p.aux q.aux)
same_given a b (Some s) None env p q =
    three_nulls (sql.Equal a.class b.class) (sql.Equal a.text b.text) (sql.Equal a.aux b.aux) env
    (equal_at a.class b.class env _ _ p.class q.class) (equal_at a.text b.text env _ _ p.text q.text) (equal_at a.aux b.aux env _ _ p.aux q.aux)

-- ---- equal, continued

literal-at : (a : ValueSql) (s : RdfTerm) (env : Sight) → Shown a (Some s) env → value_of (literal_sql a) env ≡ Truth (is_literal s)
literal-at a s env p = less_at (sql.Int (pos 2)) a.class env _ _ (value_of-Int (pos 2) env) p.class ∙ ap (λ (c : Bool). Truth c) (literal_by_class s)

error-at : (a b : ValueSql) (x y : Value) (env : Sight) → Shown a x env → Shown b y env → is_true (value_of (some_error a b) env) ≡ (is_null (class_cell x) || is_null (class_cell y))
error-at a b x y env p q = either_truth (sql.IsNull a.class) (sql.IsNull b.class) env _ _ (null_at a.class env _ p.class) (null_at b.class env _ q.class)

abbrev equal_last : ValueSql → ValueSql → SqlExpr
equal_last a b = sql.Case (branch (same_sql a b) (sql.Truth true) ∷ branch (both_literals a b) null_truth ∷ []) (sql.Truth false)

equal_rest : (a b : ValueSql) (s t : RdfTerm) (env : Sight) → Shown a (Some s) env → Shown b (Some t) env → value_of (equal_last a b) env ≡ truth_cell (if same_term s t then Some true else (if is_literal s && is_literal t then None else Some false))
equal_rest a b s t env p q =
    case_first (same_sql a b) (sql.Truth true) (branch (both_literals a b) null_truth ∷ []) (sql.Truth false) env (same_term s t) (ap is_true (same_some a b s t env p q))
    ∙ ap₂ (λ (v r : Cell). if same_term s t then v else r) (value_of-Truth true env)
    (case_first (both_literals a b) null_truth [] (sql.Truth false) env (is_literal s && is_literal t) (ap is_true (both_truths (literal_sql a) (literal_sql b) env _ _ (literal-at a s env p) (literal-at b t env q)))
    ∙ ap₂ (λ (v r : Cell). if is_literal s && is_literal t then v else r) (null_truth-is env) (case_last (sql.Truth false) env ∙ value_of-Truth false env))
    ∙ last (same_term s t) (is_literal s && is_literal t)
  where
    last : (b c : Bool) → (if b then Truth true else (if c then Null else Truth false)) ≡ truth_cell (if b then Some true else (if c then None else Some false))
    last true c = refl
    last false true = refl
    last false false = refl

equal_some : (a b : ValueSql) (s t : RdfTerm) (env : Sight) → Shown a (Some s) env → Shown b (Some t) env → value_of (equal_sql a b) env ≡ truth_cell (equal_terms s t)
equal_some a b s t env p q =
    let n = class_of s == class_of t && list_any (λ n. class_of s == n) classes_by_number in
    let x = class_of s == class_of t && list_any (λ n. class_of s == n) classes_by_text in
    let v = value_of (sql.Equal a.number b.number) env in
    let w = value_of (sql.Equal a.text b.text) env in
    case_first (some_error a b) null_truth (branch (both_in classes_by_number a b) (sql.Equal a.number b.number) ∷ branch (both_in classes_by_text a b) (sql.Equal a.text b.text) ∷ branch (same_sql a b) (sql.Truth true) ∷ branch (both_literals a b) null_truth ∷ [])
    (sql.Truth false) env false (error-at a b (Some s) (Some t) env p q)
    ∙ case_first (both_in classes_by_number a b) (sql.Equal a.number b.number) (branch (both_in classes_by_text a b) (sql.Equal a.text b.text) ∷ branch (same_sql a b) (sql.Truth true) ∷ branch (both_literals a b) null_truth ∷ [])
    (sql.Truth false) env n (both_in-at classes_by_number a b s t env p q)
    ∙ ap (λ (r : Cell). if n then v else r)
    (case_first (both_in classes_by_text a b) (sql.Equal a.text b.text) (branch (same_sql a b) (sql.Truth true) ∷ branch (both_literals a b) null_truth ∷ []) (sql.Truth false) env x (both_in-at classes_by_text a b s t env p q))
    ∙ chosen n x v w (value_of (equal_last a b) env) (is_eq (value_cmp s t)) (if same_term s t then Some true else (if is_literal s && is_literal t then None else Some false))
    (λ e. equal_at a.number b.number env _ _ p.number q.number ∙ (by_value-equal s t).0 e) (λ e. equal_at a.text b.text env _ _ p.text q.text ∙ (by_value-equal s t).1 e) (equal_rest a b s t env p q)
    ∙ ap (λ (c : Bool). truth_cell (if c then Some (is_eq (value_cmp s t)) else (if same_term s t then Some true else (if is_literal s && is_literal t then None else Some false)))) (sym (compared-is s t))

equal_null : (a b : ValueSql) (x y : Value) (env : Sight) → Shown a x env → Shown b y env → (is_null (class_cell x) || is_null (class_cell y)) ≡ true → value_of (equal_sql a b) env ≡ Null
equal_null a b x y env p q e =
    case_first (some_error a b) null_truth (branch (both_in classes_by_number a b) (sql.Equal a.number b.number) ∷ branch (both_in classes_by_text a b) (sql.Equal a.text b.text) ∷ branch (same_sql a b) (sql.Truth true) ∷ branch (both_literals a b) null_truth ∷ [])
    (sql.Truth false) env true (error-at a b x y env p q ∙ e)
    ∙ null_truth-is env

pub equal_given : (a b : ValueSql) (x y : Value) (env : Sight) → Shown a x env → Shown b y env → value_of (equal_sql a b) env ≡ truth_cell (on_values equal_terms x y)
equal_given a b (Some s) (Some t) env p q = equal_some a b s t env p q
equal_given a b None y env p q = equal_null a b None y env p q refl
equal_given a b (Some s) None env p q = equal_null a b (Some s) None env p q refl

-- ---- comparisons

pub not_cells : (e : SqlExpr) (t : Truth3) (env : Sight) → value_of e env ≡ truth_cell t → value_of (sql.Not e) env ≡ truth_cell (not3 t)
not_cells e t env p = value_of-Not e env ∙ ap not_cell p ∙ last t
  where
    last : (t : Truth3) → not_cell (truth_cell t) ≡ truth_cell (not3 t)
    last None = refl
    last (Some b) = refl

pub compare_given : (c : CompareOp) (a b : ValueSql) (x y : Value) (env : Sight) → Shown a x env → Shown b y env → value_of (compare_sql c a b) env ≡ truth_cell (compare c x y)
compare_given op.Equal a b x y env p q = equal_given a b x y env p q
compare_given op.NotEqual a b x y env p q = not_cells (equal_sql a b) _ env (equal_given a b x y env p q)
compare_given op.Less a b x y env p q = less_given a b x y env p q
compare_given op.Greater a b x y env p q = less_given b a y x env q p
compare_given op.LessEqual a b x y env p q = not_cells (less_sql b a) _ env (less_given b a y x env q p)
compare_given op.GreaterEqual a b x y env p q = not_cells (less_sql a b) _ env (less_given a b x y env p q)

-- ---- kinds and effective values

pub kind_given : (k : TermTest) (a : ValueSql) (x : Value) (env : Sight) → Shown a x env → value_of (kind_sql k a) env ≡ truth_cell (on_value (λ s. Some (kind_passes k s.kind)) x)
kind_given test.Iri a None env p = equal_at a.class (sql.Int (pos 2)) env _ _ p.class (value_of-Int (pos 2) env)
kind_given test.Blank a None env p = equal_at a.class (sql.Int (pos 1)) env _ _ p.class (value_of-Int (pos 1) env)
kind_given test.Literal a None env p = less_at (sql.Int (pos 2)) a.class env _ _ (value_of-Int (pos 2) env) p.class
kind_given test.Iri a (Some s) env p = class_is-at a.class env (class_of s) p.class 2 ∙ ap (λ (c : Bool). Truth c) (iri_by_class s)
kind_given test.Blank a (Some s) env p = class_is-at a.class env (class_of s) p.class 1 ∙ ap (λ (c : Bool). Truth c) (blank_by_class s)
kind_given test.Literal a (Some s) env p = literal-at a s env p ∙ ap (λ (c : Bool). Truth c) (literal_by_kind s)

empty_text : (text : List ℕ) → bytes_eq text [] ≡ is_empty text
empty_text [] = refl
empty_text (b ∷ bs) = refl

three_or_four : (n : ℕ) → (n == 3 || n == 4) ≡ true → has_value n ≡ true
three_or_four n e = elim (or_cases (n == 3) (n == 4) e) [ inl p ↦ ap has_value (eqb-true n 3 p) | inr p ↦ ap has_value (eqb-true n 4 p) ]

effective_some : (a : ValueSql) (s : RdfTerm) (env : Sight) → Shown a (Some s) env → value_of (effective_sql a) env ≡ truth_cell (effective s)
effective_some a s env p =
    let v = value_of (sql.Not (sql.Equal a.number (sql.Int (pos 0)))) env in
    let w = value_of (sql.Not (sql.Equal a.text (sql.Text []))) env in
    let k = class_of s in
    case_first (class_in (3 ∷ 4 ∷ []) a.class) (sql.Not (sql.Equal a.number (sql.Int (pos 0)))) (branch (class_in (5 ∷ 6 ∷ []) a.class) (sql.Not (sql.Equal a.text (sql.Text []))) ∷ branch (class_in (8 ∷ []) a.class) (sql.Truth false) ∷ []) null_truth env
    (list_any (λ n. k == n) (3 ∷ 4 ∷ [])) (ap is_true (class_in-at a.class env k p.class (3 ∷ 4 ∷ [])))
    ∙ ap (λ (r : Cell). if list_any (λ n. k == n) (3 ∷ 4 ∷ []) then v else r)
    (case_first (class_in (5 ∷ 6 ∷ []) a.class) (sql.Not (sql.Equal a.text (sql.Text []))) (branch (class_in (8 ∷ []) a.class) (sql.Truth false) ∷ []) null_truth env
    (list_any (λ n. k == n) (5 ∷ 6 ∷ [])) (ap is_true (class_in-at a.class env k p.class (5 ∷ 6 ∷ [])))
    ∙ ap (λ (r : Cell). if list_any (λ n. k == n) (5 ∷ 6 ∷ []) then w else r)
    (case_first (class_in (8 ∷ []) a.class) (sql.Truth false) [] null_truth env (list_any (λ n. k == n) (8 ∷ [])) (ap is_true (class_in-at a.class env k p.class (8 ∷ [])))
    ∙ ap₂ (λ (v r : Cell). if list_any (λ n. k == n) (8 ∷ []) then v else r) (value_of-Truth false env) (case_last null_truth env ∙ null_truth-is env)))
    ∙ last (k == 3) (k == 4) (k == 5) (k == 6) (k == 8) v w (is_nonzero (number_of s)) (not (is_empty s.text))
    (λ e. let n = has_number s (three_or_four k e) in
    value_of-Not (sql.Equal a.number (sql.Int (pos 0))) env ∙ ap not_cell (equal_at a.number (sql.Int (pos 0)) env _ _ p.number (value_of-Int (pos 0) env)) ∙ rw n.1 refl)
    (value_of-Not (sql.Equal a.text (sql.Text [])) env ∙ ap not_cell (equal_at a.text (sql.Text []) env _ _ p.text (value_of-Text [] env)) ∙ ap (λ (c : Bool). Truth (not c)) (empty_text s.text))
  where
    last : (a b c d e : Bool) (v w : Cell) (x y : Bool) → ((a || b) ≡ true → v ≡ Truth x) → w ≡ Truth y →
        (if a || (b || false) then v else (if c || (d || false) then w else (if e || false then Truth false else Null)))
        ≡ truth_cell (if a || b then Some x else (if c || d then Some y else (if e then Some false else None)))
    last true b c d e v w x y f g = f refl
    last false true c d e v w x y f g = f refl
    last false false true d e v w x y f g = g
    last false false false true e v w x y f g = g
    last false false false false true v w x y f g = refl
    last false false false false false v w x y f g = refl

pub effective_given : (a : ValueSql) (x : Value) (env : Sight) → Shown a x env → value_of (effective_sql a) env ≡ truth_cell (on_value effective x)
effective_given a (Some s) env p = effective_some a s env p
effective_given a None env p =
    case_first (class_in (3 ∷ 4 ∷ []) a.class) (sql.Not (sql.Equal a.number (sql.Int (pos 0)))) (branch (class_in (5 ∷ 6 ∷ []) a.class) (sql.Not (sql.Equal a.text (sql.Text []))) ∷ branch (class_in (8 ∷ []) a.class) (sql.Truth false) ∷ []) null_truth env
    false (class_in-null a.class env p.class (3 ∷ 4 ∷ []))
    ∙ case_first (class_in (5 ∷ 6 ∷ []) a.class) (sql.Not (sql.Equal a.text (sql.Text []))) (branch (class_in (8 ∷ []) a.class) (sql.Truth false) ∷ []) null_truth env false (class_in-null a.class env p.class (5 ∷ 6 ∷ []))
    ∙ case_first (class_in (8 ∷ []) a.class) (sql.Truth false) [] null_truth env false (class_in-null a.class env p.class (8 ∷ []))
    ∙ case_last null_truth env ∙ null_truth-is env

-- ---- all solutions

pub means_compare : (us : List ℕ) (c : CompareOp) (a b : ValueSql) (f g : Mapping → Value) → Gives us a f → Gives us b g → Means us (compare_sql c a b) (λ m. compare c (f m) (g m))
means_compare us c a b f g p q m env s = compare_given c a b (f m) (g m) env (p m env s) (q m env s)

pub means_same : (us : List ℕ) (a b : ValueSql) (f g : Mapping → Value) → Gives us a f → Gives us b g → Means us (same_sql a b) (λ m. on_values (λ s t. Some (same_term s t)) (f m) (g m))
means_same us a b f g p q m env s = same_given a b (f m) (g m) env (p m env s) (q m env s)

pub means_kind : (us : List ℕ) (k : TermTest) (a : ValueSql) (f : Mapping → Value) → Gives us a f → Means us (kind_sql k a) (λ m. on_value (λ s. Some (kind_passes k s.kind)) (f m))
means_kind us k a f p m env s = kind_given k a (f m) env (p m env s)

pub means_effective : (us : List ℕ) (a : ValueSql) (f : Mapping → Value) → Gives us a f → Means us (effective_sql a) (λ m. on_value effective (f m))
means_effective us a f p m env s = effective_given a (f m) env (p m env s)

pub means_bound : (us : List ℕ) (v : ℕ) → has us v ≡ true → Means us (bound_sql v) (λ m. Some (is_some (m v)))
means_bound us v h m env s =
    value_of-Not (sql.IsNull (sql.Name (term_alias v) class_name)) env ∙ ap not_cell (null_at (sql.Name (term_alias v) class_name) env _ (value_of-Name _ _ env ∙ s.class v h)) ∙ last (m v)
  where
    last : (x : Option RdfTerm) → not_cell (Truth (is_null (class_cell x))) ≡ truth_cell (Some (is_some x))
    last None = refl
    last (Some t) = refl

pub means_not : (us : List ℕ) (e : SqlExpr) (f : Mapping → Truth3) → Means us e f → Means us (sql.Not e) (λ m. not3 (f m))
means_not us e f p m env s = not_cells e (f m) env (p m env s)

and_three : (s t : Truth3) → and_cells (truth_cell s) (truth_cell t) ≡ truth_cell (and3 s t)
and_three (Some true) t = refl
and_three (Some false) t = refl
and_three None (Some true) = refl
and_three None (Some false) = refl
and_three None None = refl

or_three : (s t : Truth3) → or_cells (truth_cell s) (truth_cell t) ≡ truth_cell (or3 s t)
or_three (Some true) t = refl
or_three (Some false) t = refl
or_three None (Some true) = refl
or_three None (Some false) = refl
or_three None None = refl

and_one : (t : Truth3) → t ≡ and3 t (Some true)
and_one (Some true) = refl
and_one (Some false) = refl
and_one None = refl

or_one : (t : Truth3) → t ≡ or3 t (Some false)
or_one (Some true) = refl
or_one (Some false) = refl
or_one None = refl

-- the parts, one by one
module _ {X : Type 0} (us : List ℕ) (f : X → SqlExpr) (g : X → Mapping → Truth3) where
  all_parts : (m : Mapping) (env : Sight) → Shows us m env → (xs : List X) → AllByRecursion (λ x. Means us (f x) (g x)) xs → all_cells (map (λ e. value_of e env) (map f xs)) ≡ truth_cell (all3 (map (λ x. g x m) xs))
  all_parts m env s [] h = refl
  all_parts m env s (x ∷ xs) h = ap₂ and_cells (h.0 m env s) (all_parts m env s xs h.1) ∙ and_three (g x m) (all3 (map (λ x. g x m) xs))

  any_parts : (m : Mapping) (env : Sight) → Shows us m env → (xs : List X) → AllByRecursion (λ x. Means us (f x) (g x)) xs → any_cells (map (λ e. value_of e env) (map f xs)) ≡ truth_cell (any3 (map (λ x. g x m) xs))
  any_parts m env s [] h = refl
  any_parts m env s (x ∷ xs) h = ap₂ or_cells (h.0 m env s) (any_parts m env s xs h.1) ∙ or_three (g x m) (any3 (map (λ x. g x m) xs))

  pub means_all : (xs : List X) → AllByRecursion (λ x. Means us (f x) (g x)) xs → Means us (every (map f xs)) (λ m. all3 (map (λ x. g x m) xs))
  means_all [] h m env s = value_of-Truth true env
  means_all (x ∷ []) h m env s = h.0 m env s ∙ ap truth_cell (and_one (g x m))
  means_all (x ∷ y ∷ xs) h m env s = value_of-All (f x ∷ f y ∷ map f xs) env ∙ all_parts m env s (x ∷ y ∷ xs) h

  pub means_any : (xs : List X) → AllByRecursion (λ x. Means us (f x) (g x)) xs → Means us (some_of (map f xs)) (λ m. any3 (map (λ x. g x m) xs))
  means_any [] h m env s = value_of-Truth false env
  means_any (x ∷ []) h m env s = h.0 m env s ∙ ap truth_cell (or_one (g x m))
  means_any (x ∷ y ∷ xs) h m env s = value_of-Any (f x ∷ f y ∷ map f xs) env ∙ any_parts m env s (x ∷ y ∷ xs) h

-- IN
pub means_one_of : {X : Type 0} (us : List ℕ) (a : ValueSql) (f : Mapping → Value) (b : X → ValueSql) (g : X → Mapping → Value) → Gives us a f → (xs : List X) → AllByRecursion (λ x. Gives us (b x) (g x)) xs →
    Means us (some_of (map (λ x. equal_sql a (b x)) xs)) (λ m. any3 (map (λ x. on_values equal_terms (f m) (g x m)) xs))
means_one_of us a f b g p xs h =
    means_any us (λ x. equal_sql a (b x)) (λ x m. on_values equal_terms (f m) (g x m)) xs
    (each-weaker (λ x. Gives us (b x) (g x)) (λ x. Means us (equal_sql a (b x)) (λ m. on_values equal_terms (f m) (g x m))) (λ x q m env s. equal_given a (b x) (f m) (g x m) env (p m env s) (q m env s)) xs h)
