-- The columns and conditions that a star's SELECTs share.
use Rattle.std.proofs.Common.{◌≡◌, ℕ, ◌⊎◌, inl, inr, true, false, ◌==◌, List, [], ◌∷◌, ◌++◌, map, pos, sym, refl, ◌∙◌, subst, bytes_eq}
use Rattle.std.specs.Prelude.{Ok}
use Rattle.std.proofs.lemmas.Bool.{eq-eqb, eqb-true, or_cases, or_from, or_left, or_right, false_from_ne_true, both_ways}
use Rattle.std.proofs.lemmas.List.Folds.{list_any-append}
use Rattle.std.proofs.lemmas.Slice.Eq.{bytes_eq-Decides}
use Rattle.std.specs.List.{list_any, AllByRecursion}
use Rattle.table_meaning.specs.declared.kind.Kind.{Kind}
use Rattle.table_meaning.specs.declared.kind.Kind.TheVariants as kind
use Rattle.table_meaning.specs.declared.schema.Column.{Column}
use Rattle.sql_meaning.specs.declared.expression.SqlExpr.{SqlExpr}
use Rattle.sql_meaning.specs.declared.expression.SqlExpr.TheVariants as sql
use Rattle.sql_rows_meaning.specs.Scopes.{Scope}
use Rattle.sql_rows_meaning.specs.Checks.{same_kind, all_truths, check}
use Rattle.sql_rows_meaning.specs.CheckLaws.{check-Int, check-Not}
use Rattle.sql_rows_meaning.specs.Binding.{check_items, check_where, same_columns}
use Rattle.sql_gen_step_laws.specs.Carried.{Name, column, one}
use Rattle.sql_gen_step_laws.specs.StepSelects.{has, both, every, one_item, variable_item}
use Rattle.sql_gen_step_laws.specs.Lookups.{same_column}
use Rattle.sql_gen_binding_laws.specs.StepColumns.{int_column, Once}
use Rattle.sql_gen_binding_laws.specs.StepBinds.{then_fine, IsTest, every_fine, once-both, column_one}
use Rattle.sql_gen_star_meaning.specs.declared.arm.Asked.{Asked}
use Rattle.sql_gen_star_meaning.specs.declared.arm.Asked.TheVariants.{Constant, Again, New, Maybe}
use Rattle.sql_gen_star_meaning.specs.Asked.{asked_vars, Askable}
use Rattle.sql_gen_star_meaning.specs.Partials.{cell_name}
use Rattle.sql_gen_star_meaning.specs.StarSelects.{where_every, cell_item}
use Rattle.sql_gen_star_binding_laws.specs.StarColumns.{partial_schema}
use Rattle.sql_gen_star_binding_laws.proofs.InSight.{same_cell_name, cell_one, cell_column}

-- ---- columns

cells_bind : (s : Scope) (g : ℕ → SqlExpr) (cells : List ℕ) (names : List Name) → ((i : ℕ) → has cells i ≡ true → check (g i) s ≡ Ok kind.Int) → Once cells →
    ((i : ℕ) → has cells i ≡ true → list_any (bytes_eq (cell_name i)) names ≡ false) → check_items s names (map (cell_item g) cells) ≡ Ok (map (λ i. int_column (cell_name i)) cells)
cells_bind s g [] names ok o fresh = refl
cells_bind s g (i ∷ cells) names ok o fresh =
    let head : has (i ∷ cells) i ≡ true = or_left _ _ (eq-eqb i i refl) in
    let mine : check (g i) s ≡ Ok kind.Int = ok i head in
    let new : list_any (bytes_eq (cell_name i)) names ≡ false = fresh i head in
    let rest : check_items s (cell_name i ∷ names) (map (cell_item g) cells) ≡ Ok (map (λ i. int_column (cell_name i)) cells) =
    cells_bind s g cells (cell_name i ∷ names) (λ w h. ok w (or_right _ _ h)) o.1
    (λ w h. or_from _ _ (same_cell_name w i ∙ false_from_ne_true _ (λ q. both_ways _ o.0 (subst (λ x. has cells x ≡ true) (eqb-true w i q) h))) (fresh w (or_right _ _ h))) in
    rw mine (rw new (rw rest refl))

variables_bind : (s : Scope) (f g : ℕ → SqlExpr) (us cells : List ℕ) (names : List Name) → ((u : ℕ) → has us u ≡ true → check (f u) s ≡ Ok kind.Int) → ((i : ℕ) → has cells i ≡ true → check (g i) s ≡ Ok kind.Int) → Once us → Once cells →
    ((u : ℕ) → has us u ≡ true → list_any (bytes_eq (column u)) names ≡ false) → ((i : ℕ) → has cells i ≡ true → list_any (bytes_eq (cell_name i)) names ≡ false) →
    check_items s names (map (variable_item f) us ++ map (cell_item g) cells) ≡ Ok (map (λ v. int_column (column v)) us ++ map (λ i. int_column (cell_name i)) cells)
variables_bind s f g [] cells names ok own ou oc fresh apart = cells_bind s g cells names own oc apart
variables_bind s f g (u ∷ us) cells names ok own ou oc fresh apart =
    let head : has (u ∷ us) u ≡ true = or_left _ _ (eq-eqb u u refl) in
    let mine : check (f u) s ≡ Ok kind.Int = ok u head in
    let new : list_any (bytes_eq (column u)) names ≡ false = fresh u head in
    let rest : check_items s (column u ∷ names) (map (variable_item f) us ++ map (cell_item g) cells) ≡ Ok (map (λ v. int_column (column v)) us ++ map (λ i. int_column (cell_name i)) cells) =
    variables_bind s f g us cells (column u ∷ names) (λ w h. ok w (or_right _ _ h)) own ou.1 oc
    (λ w h. or_from _ _ (same_column w u ∙ false_from_ne_true _ (λ q. both_ways _ ou.0 (subst (λ x. has us x ≡ true) (eqb-true w u q) h))) (fresh w (or_right _ _ h)))
    (λ i h. or_from _ _ (cell_column i u) (apart i h)) in
    rw mine (rw new (rw rest refl))

-- the ones, variables and cells
pub partials_bind : (s : Scope) (f g : ℕ → SqlExpr) (us cells : List ℕ) → ((u : ℕ) → has us u ≡ true → check (f u) s ≡ Ok kind.Int) → ((i : ℕ) → has cells i ≡ true → check (g i) s ≡ Ok kind.Int) → Once us → Once cells →
    check_items s [] (one_item ∷ (map (variable_item f) us ++ map (cell_item g) cells)) ≡ Ok (partial_schema us cells)
partials_bind s f g us cells ok own ou oc =
    let rest : check_items s (one ∷ []) (map (variable_item f) us ++ map (cell_item g) cells) ≡ Ok (map (λ v. int_column (column v)) us ++ map (λ i. int_column (cell_name i)) cells) =
    variables_bind s f g us cells (one ∷ []) ok own ou oc (λ u h. or_from _ _ (column_one u) refl) (λ i h. or_from _ _ (cell_one i) refl) in
    rw (check-Int (pos 1) s, rest) refl

pub same_self : (cs : List Column) → same_columns cs cs ≡ true
same_self [] = refl
same_self (c ∷ cs) = rw ((bytes_eq-Decides c.name c.name).1 refl) (rw (own c.kind) (same_self cs))
  where
    own : (k : Kind) → same_kind k k ≡ true
    own kind.Int = refl
    own kind.Text = refl
    own kind.Truth = refl

-- ---- conditions

pub not_fine : (s : Scope) (e : SqlExpr) → check e s ≡ Ok kind.Truth → check (sql.Not e) s ≡ Ok kind.Truth
not_fine s e a = check-Not e s ∙ then_fine (check e s) kind.Truth (λ k. all_truths (k ∷ [])) a

pub where_fine : (s : Scope) (es : List SqlExpr) → AllByRecursion (IsTest s) es → check_where s (where_every es) ≡ Ok kind.Truth
where_fine s [] all = refl
where_fine s (e ∷ es) all = then_fine (check (every (e ∷ es)) s) kind.Truth (λ k. all_truths (k ∷ [])) (every_fine s (e ∷ es) all)

-- ---- variables

once_more : (vs : List ℕ) (v : ℕ) → Once vs → has vs v ≡ false → Once (vs ++ v ∷ [])
once_more vs v o e = let h : Once (both vs (v ∷ [])) = once-both vs (v ∷ []) o (refl, tt) in rw e at h

pub asked_once : (vs : List ℕ) (a : Asked) → Once vs → Askable vs a → Once (asked_vars a vs)
asked_once vs (Constant n) o e = o
asked_once vs (Again v) o e = o
asked_once vs (New v) o e = once_more vs v o e
asked_once vs (Maybe v) o e = once_more vs v o e

-- what is asked of an entity is askable, since nothing is bound before
pub entity_once : (a : Asked) → Once (asked_vars a [])
entity_once (Constant n) = tt
entity_once (Again v) = tt
entity_once (New v) = (refl, tt)
entity_once (Maybe v) = (refl, tt)

-- a variable behind others is one of them or the last
pub of_more : (vs : List ℕ) (v w : ℕ) → has (vs ++ v ∷ []) w ≡ true → (has vs w ≡ true) ⊎ ((v == w) ≡ true)
of_more vs v w e = elim (or_cases (has vs w) (has (v ∷ []) w) (sym (list_any-append (λ u. u == w) vs (v ∷ [])) ∙ e))
    [ inl h ↦ inl h | inr h ↦ elim (or_cases (v == w) false h) [ inl q ↦ inr q | inr q ↦ cc ] ]
