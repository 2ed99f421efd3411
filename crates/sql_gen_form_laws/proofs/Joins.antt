-- The SELECTs of Join, LeftJoin and Union.
use Rattle.std.proofs.Common.{◌≡◌, ℕ, ◌<◌, ◌⊎◌, inl, inr, Bool, true, false, List, [], ◌∷◌, map, refl, arith}
use Rattle.std.proofs.lemmas.Bool.{cases_Bool}
use Rattle.query_eval_meaning.specs.Mapping.{width}
use Rattle.table_meaning.specs.Names.{is_name}
use Rattle.table_meaning.specs.declared.kind.Kind.TheVariants as kind
use Rattle.sql_meaning.specs.declared.expression.SqlExpr.TheVariants as sql
use Rattle.sql_meaning.specs.declared.script.JoinTo.{JoinTo}
use Rattle.sql_meaning.specs.Scripts.{is_primary, core_refs, body_refs}
use Rattle.sql_gen_step_laws.specs.Carried.{Name, column}
use Rattle.sql_gen_step_laws.specs.StepSelects.{left_alias, right_alias, cell_of, every, has, agree_sql, equal_sql, shared_sql, shared, merged_sql, one_item, variable_item, both, join_core, own_sql, project_core, union_body}
use Rattle.sql_gen_binding_laws.specs.StepBinds.{in_filter, each_made}
use Rattle.sql_gen_form_laws.specs.Fits.{ExprFits, JoinsFit, CoreFits, BodyFits, AreVariables}
use Rattle.sql_gen_form_laws.proofs.Expressions.{fits-more, name-fits, null-fits, equal-fits, is_null-fits, any-fits, first-fits, every-fits}
use Rattle.sql_gen_form_laws.proofs.Names.{column-name, left-name, right-name}
use Rattle.sql_gen_form_laws.proofs.Parts.{below_width, both-variables, step-items, items-more, no-joins, next-join, no-condition, no-keys, core-fits, sources-fit}
use Rattle.sql_gen_form_laws.proofs.Bodies.{plain-bodies}

pub left-fits : (v : ℕ) → v < width → ExprFits 1 (cell_of left_alias v)
left-fits v l = name-fits 0 left_alias (column v) left-name (column-name v l)

pub right-fits : (v : ℕ) → v < width → ExprFits 1 (cell_of right_alias v)
right-fits v l = name-fits 0 right_alias (column v) right-name (column-name v l)

shared-fits : (certain : List ℕ) (v : ℕ) → v < width → ExprFits 3 (shared_sql certain v)
shared-fits certain v l = go (cases_Bool (has certain v))
  where
    equal : ExprFits 2 (equal_sql v)
    equal = equal-fits 1 (cell_of left_alias v) (cell_of right_alias v) (left-fits v l) (right-fits v l)

    agree : ExprFits 3 (agree_sql v)
    agree = any-fits 2 (equal_sql v ∷ sql.IsNull (cell_of left_alias v) ∷ sql.IsNull (cell_of right_alias v) ∷ []) (omega arith)
        (equal, (is_null-fits 1 (cell_of left_alias v) (left-fits v l), (is_null-fits 1 (cell_of right_alias v) (right-fits v l), tt)))

    go : (has certain v ≡ true) ⊎ (has certain v ≡ false) → ExprFits 3 (shared_sql certain v)
    go (inl e) = rw e (fits-more 2 3 (equal_sql v) (omega arith) equal)
    go (inr e) = rw e agree

pub merged-fits : (vs ws : List ℕ) (v : ℕ) → v < width → ExprFits 2 (merged_sql vs ws v)
merged-fits vs ws v l = go (cases_Bool (has vs v)) (cases_Bool (has ws v))
  where
    go : (has vs v ≡ true) ⊎ (has vs v ≡ false) → (has ws v ≡ true) ⊎ (has ws v ≡ false) → ExprFits 2 (merged_sql vs ws v)
    go (inl e) (inl h) = rw (e, h) (first-fits 1 (cell_of left_alias v ∷ cell_of right_alias v ∷ []) (omega arith) (left-fits v l, (right-fits v l, tt)))
    go (inl e) (inr h) = rw (e, h) (fits-more 1 2 (cell_of left_alias v) (omega arith) (left-fits v l))
    go (inr e) h = rw e (fits-more 1 2 (cell_of right_alias v) (omega arith) (right-fits v l))

-- the condition of a join
pub on-fits : (vs ws certain : List ℕ) → AreVariables ws → ExprFits 4 (every (map (shared_sql certain) (shared vs ws)))
on-fits vs ws certain ww = every-fits 3 (map (shared_sql certain) (shared vs ws)) (each_made (ExprFits 3) (shared_sql certain) (shared vs ws) (λ v h. shared-fits certain v (below_width ws ww v (in_filter (has vs) ws v h).0)))

pub join-fits : (left : Bool) (a b : Name) → is_name a ≡ true → is_name b ≡ true → (vs ws certain : List ℕ) → AreVariables vs → AreVariables ws → CoreFits 4 (join_core left a b vs ws certain)
join-fits left a b p q vs ws certain wv ww =
    let on = every (map (shared_sql certain) (shared vs ws)) in
    let j : JoinTo = record { left = left; source = record { table = b; alias = right_alias }; on = on } in
    let joins : JoinsFit 4 (j ∷ []) = next-join 4 j [] q right-name (on-fits vs ws certain ww) (no-joins 4) in
    let items = items-more 2 4 (one_item ∷ map (variable_item (merged_sql vs ws)) (both vs ws)) (omega arith) (step-items 1 (merged_sql vs ws) (both vs ws) (merged-fits vs ws) (both-variables vs ws wv ww)) in
    core-fits 4 (join_core left a b vs ws certain) (omega arith) items (sources-fit 4 a left_alias (j ∷ []) p left-name joins) joins.depth (no-condition 4) (no-keys 4) refl refl

pub join-no_refs : (left : Bool) (a b : Name) → is_primary a ≡ false → is_primary b ≡ false → (vs ws certain : List ℕ) → core_refs (join_core left a b vs ws certain) ≡ 0
join-no_refs left a b p q vs ws certain = rw (p, q) refl

-- ---- the union

pub own-fits : (vs : List ℕ) (v : ℕ) → v < width → ExprFits 1 (own_sql vs v)
own-fits vs v l = go (cases_Bool (has vs v))
  where
    go : (has vs v ≡ true) ⊎ (has vs v ≡ false) → ExprFits 1 (own_sql vs v)
    go (inl e) = rw e (left-fits v l)
    go (inr e) = rw e (null-fits 0 kind.Int)

pub project-fits : (a : Name) → is_name a ≡ true → (vs us : List ℕ) → AreVariables us → CoreFits 1 (project_core a vs us)
project-fits a p vs us w =
    core-fits 1 (project_core a vs us) (omega arith) (step-items 0 (own_sql vs) us (own-fits vs) w) (sources-fit 1 a left_alias [] p left-name (no-joins 1)) (omega arith) (no-condition 1) (no-keys 1) refl refl

pub union-fits : (a b : Name) → is_name a ≡ true → is_name b ≡ true → (vs ws : List ℕ) → AreVariables vs → AreVariables ws → BodyFits 1 (union_body a b vs ws)
union-fits a b p q vs ws wv ww =
    let w = both-variables vs ws wv ww in
    plain-bodies 1 (project_core a vs (both vs ws)) (project_core b ws (both vs ws) ∷ []) (project-fits a p vs (both vs ws) w, (project-fits b q ws (both vs ws) w, tt)) refl

pub union-no_refs : (a b : Name) → is_primary a ≡ false → is_primary b ≡ false → (vs ws : List ℕ) → body_refs (union_body a b vs ws) ≡ 0
union-no_refs a b p q vs ws = rw (p, q) refl
