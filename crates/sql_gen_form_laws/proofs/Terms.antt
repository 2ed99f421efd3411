-- The SELECTs that join the terms: Filter, and LeftJoin with a condition.
use Rattle.std.proofs.Common.{◌≡◌, ℕ, ◌+◌, ◌<◌, ◌≤◌, Bool, true, false, if◌then◌else◌, List, [], ◌∷◌, ◌++◌, map, refl, arith}
use Rattle.query_eval_meaning.specs.Mapping.{width}
use Rattle.table_meaning.specs.Names.{is_name}
use Rattle.sql_meaning.specs.declared.expression.SqlExpr.{SqlExpr}
use Rattle.sql_meaning.specs.declared.expression.SqlExpr.TheVariants as sql
use Rattle.sql_meaning.specs.declared.script.JoinTo.{JoinTo}
use Rattle.sql_meaning.specs.Scripts.{total, is_primary, join_refs, core_refs, body_refs}
use Rattle.sql_gen_step_laws.specs.Carried.{Name, one}
use Rattle.sql_gen_step_laws.specs.StepSelects.{left_alias, right_alias, cell_of, every, has, shared_sql, shared, merged_sql, one_item, variable_item, both, own_sql, project_core}
use Rattle.sql_gen_term_laws.specs.TermTable.{id_name, number_test, no_test, own_test, term_join, term_alias, term_joins}
use Rattle.sql_gen_term_laws.specs.Filters.{filter_core}
use Rattle.sql_gen_optional_laws.specs.MatchRows.{kept, kept_item, kept_sql, either_test, matches_core, unmatched_core, optional_body}
use Rattle.sql_gen_binding_laws.specs.StepBinds.{each_made}
use Rattle.sql_gen_form_laws.specs.Fits.{ExprFits, ItemsFit, JoinsFit, CoreFits, BodyFits, AreVariables}
use Rattle.sql_gen_form_laws.proofs.Expressions.{fits-more, name-fits, truth-fits, equal-fits, is_null-fits, all-fits, any-fits, every-fits}
use Rattle.sql_gen_form_laws.proofs.Names.{kept-name, term-name, one-name, left-name, right-name, id-name}
use Rattle.sql_gen_form_laws.proofs.Parts.{below_width, both-variables, no-items, next-item, variable-items, one-before, step-items, items-more, no-joins, next-join, joins-more, some-condition, no-keys, core-fits, sources-fit}
use Rattle.sql_gen_form_laws.proofs.Bodies.{core-more, plain-bodies}
use Rattle.sql_gen_form_laws.proofs.Joins.{left-fits, merged-fits, on-fits, own-fits, project-fits}

-- ---- joins with the terms

id-fits : (u : ℕ) → u < width → ExprFits 1 (sql.Name (term_alias u) id_name)
id-fits u l = name-fits 0 (term_alias u) id_name (term-name u l) id-name

number_test-fits : (n : ℕ) (f : ℕ → SqlExpr) (u : ℕ) → u < width → ExprFits (n + 1) (f u) → ExprFits (n + 1 + 1) (number_test f u)
number_test-fits n f u l fits = equal-fits (n + 1) (sql.Name (term_alias u) id_name) (f u) (name-fits n (term_alias u) id_name (term-name u l) id-name) fits

no_test-fits : (u : ℕ) → u < width → ExprFits 3 (no_test u)
no_test-fits u l =
    let on = number_test (λ v. sql.Name left_alias one) u in
    all-fits 2 (on ∷ sql.Truth false ∷ []) (omega arith) (number_test-fits 0 (λ v. sql.Name left_alias one) u l (name-fits 0 left_alias one left-name one-name), (truth-fits 1 false, tt))

pub own_test-fits : (vs : List ℕ) (u : ℕ) → u < width → ExprFits 3 (own_test vs u)
own_test-fits vs u l = go (has vs u)
  where
    go : (b : Bool) → ExprFits 3 (if b then number_test (cell_of left_alias) u else no_test u)
    go true = fits-more 2 3 (number_test (cell_of left_alias) u) (omega arith) (number_test-fits 0 (cell_of left_alias) u l (left-fits u l))
    go false = no_test-fits u l

pub term-joins_fit : (n : ℕ) (terms : Name) → is_name terms ≡ true → (test : ℕ → SqlExpr) → ((v : ℕ) → v < width → ExprFits n (test v)) → (us : List ℕ) → AreVariables us → JoinsFit n (term_joins terms test us)
term-joins_fit n terms p test fits [] all = no-joins n
term-joins_fit n terms p test fits (u ∷ us) all =
    next-join n (term_join terms (term_alias u) (test u)) (term_joins terms test us) p (term-name u all.0) (fits u all.0) (term-joins_fit n terms p test fits us all.1)

pub term-joins_no_refs : (terms : Name) → is_primary terms ≡ false → (f : ℕ → SqlExpr) (us : List ℕ) → total (map join_refs (term_joins terms f us)) ≡ 0
term-joins_no_refs terms p f [] = refl
term-joins_no_refs terms p f (u ∷ us) = rw (p, term-joins_no_refs terms p f us) refl

-- ---- the filter

pub filter-fits : (n : ℕ) → 3 ≤ n → (a terms : Name) → is_name a ≡ true → is_name terms ≡ true → (vs us : List ℕ) → AreVariables vs → AreVariables us → (condition : SqlExpr) → ExprFits n condition → CoreFits n (filter_core a terms vs us condition)
filter-fits n l a terms p q vs us wv wu condition e =
    let joins : JoinsFit n (term_joins terms (own_test vs) us) = joins-more 3 n (term_joins terms (own_test vs) us) l (term-joins_fit 3 terms q (own_test vs) (own_test-fits vs) us wu) in
    let items = items-more 1 n (one_item ∷ map (variable_item (own_sql vs)) vs) (omega arith) (step-items 0 (own_sql vs) vs (own-fits vs) wv) in
    core-fits n (filter_core a terms vs us condition) (omega arith) items (sources-fit n a left_alias (term_joins terms (own_test vs) us) p left-name joins) joins.depth (some-condition n condition e) (no-keys n) refl refl

pub filter-no_refs : (a terms : Name) → is_primary a ≡ false → is_primary terms ≡ false → (vs us : List ℕ) (condition : SqlExpr) → core_refs (filter_core a terms vs us condition) ≡ 0
filter-no_refs a terms p q vs us condition = rw (p, term-joins_no_refs terms q (own_test vs) us) refl

-- ---- the matches of a LeftJoin with a condition

pub kept-items : (vs : List ℕ) → AreVariables vs → ItemsFit 1 (map kept_item vs)
kept-items [] all = no-items 1
kept-items (v ∷ vs) all = next-item 1 (kept_item v) (map kept_item vs) (left-fits v all.0) (kept-name v all.0) (kept-items vs all.1)

either_test-fits : (vs ws : List ℕ) (v : ℕ) → v < width → ExprFits 3 (either_test vs ws v)
either_test-fits vs ws v l = go (has vs v) (has ws v)
  where
    test : ExprFits 3 (number_test (merged_sql vs ws) v)
    test = number_test-fits 1 (merged_sql vs ws) v l (merged-fits vs ws v l)

    go : (b c : Bool) → ExprFits 3 (if b then number_test (merged_sql vs ws) v else if c then number_test (merged_sql vs ws) v else no_test v)
    go true c = test
    go false true = test
    go false false = no_test-fits v l

pub matches-fit : (n : ℕ) → 4 ≤ n → (a b terms : Name) → is_name a ≡ true → is_name b ≡ true → is_name terms ≡ true → (vs ws us certain : List ℕ) → AreVariables vs → AreVariables ws → AreVariables us →
    (condition : SqlExpr) → ExprFits n condition → CoreFits n (matches_core a b terms vs ws us certain condition)
matches-fit n l a b terms p q r vs ws us certain wv ww wu condition e =
    let on = every (map (shared_sql certain) (shared vs ws)) in
    let j : JoinTo = record { left = false; source = record { table = b; alias = right_alias }; on = on } in
    let joins : JoinsFit n (j ∷ term_joins terms (either_test vs ws) us) =
    next-join n j (term_joins terms (either_test vs ws) us) q right-name (fits-more 4 n on l (on-fits vs ws certain ww))
    (joins-more 3 n (term_joins terms (either_test vs ws) us) (omega arith) (term-joins_fit 3 terms r (either_test vs ws) (either_test-fits vs ws) us wu)) in
    let items = items-more 2 n (one_item ∷ map (variable_item (merged_sql vs ws)) (both vs ws) ++ map kept_item vs) (omega arith)
    (one-before 1 (map (variable_item (merged_sql vs ws)) (both vs ws) ++ map kept_item vs)
    (variable-items 2 (merged_sql vs ws) (both vs ws) (map kept_item vs) (merged-fits vs ws) (both-variables vs ws wv ww) (items-more 1 2 (map kept_item vs) (omega arith) (kept-items vs wv)))) in
    core-fits n (matches_core a b terms vs ws us certain condition) (omega arith) items (sources-fit n a left_alias (j ∷ term_joins terms (either_test vs ws) us) p left-name joins) joins.depth (some-condition n condition e) (no-keys n) refl refl

pub matches-no_refs : (a b terms : Name) → is_primary a ≡ false → is_primary b ≡ false → is_primary terms ≡ false → (vs ws us certain : List ℕ) (condition : SqlExpr) → core_refs (matches_core a b terms vs ws us certain condition) ≡ 0
matches-no_refs a b terms p q r vs ws us certain condition = rw (p, q, term-joins_no_refs terms r (either_test vs ws) us) refl

-- ---- the matches and the rest

its-fits : (v : ℕ) → v < width → ExprFits 1 (sql.Name right_alias (kept v))
its-fits v l = name-fits 0 right_alias (kept v) right-name (kept-name v l)

kept-fits : (certain : List ℕ) (v : ℕ) → v < width → ExprFits 4 (kept_sql certain v)
kept-fits certain v l = go (has certain v)
  where
    mine : SqlExpr
    mine = cell_of left_alias v

    its : SqlExpr
    its = sql.Name right_alias (kept v)

    equal : ExprFits 2 (sql.Equal its mine)
    equal = equal-fits 1 its mine (its-fits v l) (left-fits v l)

    nulls : ExprFits 3 (sql.All (sql.IsNull its ∷ sql.IsNull mine ∷ []))
    nulls = all-fits 2 (sql.IsNull its ∷ sql.IsNull mine ∷ []) (omega arith) (is_null-fits 1 its (its-fits v l), (is_null-fits 1 mine (left-fits v l), tt))

    go : (b : Bool) → ExprFits 4 (if b then sql.Equal its mine else sql.Any (sql.Equal its mine ∷ sql.All (sql.IsNull its ∷ sql.IsNull mine ∷ []) ∷ []))
    go true = fits-more 2 4 (sql.Equal its mine) (omega arith) equal
    go false = any-fits 3 (sql.Equal its mine ∷ sql.All (sql.IsNull its ∷ sql.IsNull mine ∷ []) ∷ []) (omega arith) (fits-more 2 3 (sql.Equal its mine) (omega arith) equal, (nulls, tt))

unmatched-fits : (a m : Name) → is_name a ≡ true → is_name m ≡ true → (vs ws certain : List ℕ) → AreVariables vs → AreVariables ws → CoreFits 5 (unmatched_core a m vs ws certain)
unmatched-fits a m p q vs ws certain wv ww =
    let on = every (map (kept_sql certain) vs) in
    let fits : ExprFits 5 on = every-fits 4 (map (kept_sql certain) vs) (each_made (ExprFits 4) (kept_sql certain) vs (λ v h. kept-fits certain v (below_width vs wv v h))) in
    let j : JoinTo = record { left = true; source = record { table = m; alias = right_alias }; on = on } in
    let joins : JoinsFit 5 (j ∷ []) = next-join 5 j [] q right-name fits (no-joins 5) in
    let items = items-more 1 5 (one_item ∷ map (variable_item (own_sql vs)) (both vs ws)) (omega arith) (step-items 0 (own_sql vs) (both vs ws) (own-fits vs) (both-variables vs ws wv ww)) in
    let missing : ExprFits 5 (sql.IsNull (sql.Name right_alias one)) = is_null-fits 4 (sql.Name right_alias one) (name-fits 3 right_alias one right-name one-name) in
    core-fits 5 (unmatched_core a m vs ws certain) (omega arith) items (sources-fit 5 a left_alias (j ∷ []) p left-name joins) joins.depth (some-condition 5 (sql.IsNull (sql.Name right_alias one)) missing) (no-keys 5) refl refl

pub optional-fits : (a m : Name) → is_name a ≡ true → is_name m ≡ true → (vs ws certain : List ℕ) → AreVariables vs → AreVariables ws → BodyFits 5 (optional_body a m vs ws certain)
optional-fits a m p q vs ws certain wv ww =
    plain-bodies 5 (project_core m (both vs ws) (both vs ws)) (unmatched_core a m vs ws certain ∷ [])
    (core-more 1 5 (project_core m (both vs ws) (both vs ws)) (omega arith) (project-fits m q (both vs ws) (both vs ws) (both-variables vs ws wv ww)), (unmatched-fits a m p q vs ws certain wv ww, tt)) refl

pub optional-no_refs : (a m : Name) → is_primary a ≡ false → is_primary m ≡ false → (vs ws certain : List ℕ) → body_refs (optional_body a m vs ws certain) ≡ 0
optional-no_refs a m p q vs ws certain = rw (p, q) refl
