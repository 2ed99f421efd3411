-- A filter over the pairs binds.
use Rattle.std.proofs.Common.{◌≡◌, ℕ, ◌⊎◌, inl, inr, true, false, List, [], ◌∷◌, ◌++◌, map, Some, None, refl, ◌∙◌, subst, pos, bytes_eq}
use Rattle.std.proofs.lemmas.Bool.{cases_Bool, eq-eqb, eqb-true, or_from, or_left, or_right, false_from_ne_true, both_ways}
use Rattle.std.specs.List.{list_any}
use Rattle.std.specs.Prelude.{Ok}
use Rattle.table_meaning.specs.declared.kind.Kind.TheVariants as kind
use Rattle.sql_meaning.specs.declared.expression.SqlExpr.{SqlExpr}
use Rattle.sql_meaning.specs.declared.expression.SqlExpr.TheVariants as sql
use Rattle.sql_rows_meaning.specs.Scopes.{Scope, Schemas, Seen}
use Rattle.sql_rows_meaning.specs.Checks.{all_truths, check, check_truth}
use Rattle.sql_rows_meaning.specs.CheckLaws.{check-Int}
use Rattle.sql_rows_meaning.specs.Binding.{check_from, check_joins, check_items, check_select}
use Rattle.sql_gen_step_laws.specs.Carried.{Name, column, one}
use Rattle.sql_gen_step_laws.specs.StepSelects.{left_alias, cell_of, has, one_item, variable_item, own_sql}
use Rattle.sql_gen_step_laws.specs.Lookups.{same_column, one_column}
use Rattle.sql_gen_term_laws.specs.TermTable.{id_name, own_test, term_alias, term_joins}
use Rattle.sql_gen_binding_laws.specs.StepColumns.{int_column, Once, term_schema, TermsSeen, scope_with}
use Rattle.sql_gen_binding_laws.specs.StepBinds.{then_fine, name_fine, own_fine, column_one}
use Rattle.sql_gen_binding_laws.specs.TermBinds.{Stays, stays-terms, terms_seen, terms_in_scope, number_fine, no_fine, term_joins_fine, other_left}
use Rattle.sql_gen_optional_laws.specs.MatchRows.{kept}
use Rattle.sql_gen_optional_laws.specs.OptionalStep.{same_kept}
use Rattle.sql_gen_optional_binding_laws.specs.MatchColumns.{match_schema}
use Rattle.sql_gen_optional_binding_laws.specs.MatchBinds.{kept_one, one_kept, kept_column, column_in, kept_in}
use Rattle.sql_gen_matched_laws.specs.PassedSelect.{still_item, passed_core}

still_items : (s : Scope) (vs : List ℕ) (names : List Name) → ((v : ℕ) → has vs v ≡ true → check (sql.Name left_alias (kept v)) s ≡ Ok kind.Int) → Once vs → ((v : ℕ) → has vs v ≡ true → list_any (bytes_eq (kept v)) names ≡ false) →
    check_items s names (map still_item vs) ≡ Ok (map (λ v. int_column (kept v)) vs)
still_items s [] names ok o fresh = refl
still_items s (v ∷ vs) names ok o fresh =
    let head : has (v ∷ vs) v ≡ true = or_left _ _ (eq-eqb v v refl) in
    let mine : check (sql.Name left_alias (kept v)) s ≡ Ok kind.Int = ok v head in
    let new : list_any (bytes_eq (kept v)) names ≡ false = fresh v head in
    let rest : check_items s (kept v ∷ names) (map still_item vs) ≡ Ok (map (λ v. int_column (kept v)) vs) =
    still_items s vs (kept v ∷ names) (λ w h. ok w (or_right _ _ h)) o.1
    (λ w h. or_from _ _ (same_kept w v ∙ false_from_ne_true _ (λ q. both_ways _ o.0 (subst (λ x. has vs x ≡ true) (eqb-true w v q) h))) (fresh w (or_right _ _ h))) in
    rw mine (rw new (rw rest refl))

pair_items : (s : Scope) (f : ℕ → SqlExpr) (us vs : List ℕ) (names : List Name) → ((u : ℕ) → has us u ≡ true → check (f u) s ≡ Ok kind.Int) → ((v : ℕ) → has vs v ≡ true → check (sql.Name left_alias (kept v)) s ≡ Ok kind.Int) → Once us → Once vs →
    ((u : ℕ) → has us u ≡ true → list_any (bytes_eq (column u)) names ≡ false) → ((v : ℕ) → has vs v ≡ true → list_any (bytes_eq (kept v)) names ≡ false) →
    check_items s names (map (variable_item f) us ++ map still_item vs) ≡ Ok (map (λ v. int_column (column v)) us ++ map (λ v. int_column (kept v)) vs)
pair_items s f [] vs names ok own ou ov fresh apart = still_items s vs names own ov apart
pair_items s f (u ∷ us) vs names ok own ou ov fresh apart =
    let head : has (u ∷ us) u ≡ true = or_left _ _ (eq-eqb u u refl) in
    let mine : check (f u) s ≡ Ok kind.Int = ok u head in
    let new : list_any (bytes_eq (column u)) names ≡ false = fresh u head in
    let rest : check_items s (column u ∷ names) (map (variable_item f) us ++ map still_item vs) ≡ Ok (map (λ v. int_column (column v)) us ++ map (λ v. int_column (kept v)) vs) =
    pair_items s f us vs (column u ∷ names) (λ w h. ok w (or_right _ _ h)) own ou.1 ov
    (λ w h. or_from _ _ (same_column w u ∙ false_from_ne_true _ (λ q. both_ways _ ou.0 (subst (λ x. has us x ≡ true) (eqb-true w u q) h))) (fresh w (or_right _ _ h)))
    (λ v h. or_from _ _ (kept_column v u) (apart v h)) in
    rw mine (rw new (rw rest refl))

pub passed_fine : (schemas : Schemas) (m terms : Name) (vs us ts : List ℕ) → schemas m ≡ Some (match_schema vs us) → schemas terms ≡ Some term_schema → Once vs → Once us → Once ts →
    (condition : SqlExpr) → ((s : Scope) → TermsSeen ts s → check condition s ≡ Ok kind.Truth) → check_select schemas None (passed_core m terms vs us ts condition) ≡ Ok (match_schema vs us)
passed_fine schemas m terms vs us ts hm ht ov ou ot condition ok =
    let s0 : Scope = scope_with left_alias (match_schema vs us) (λ a c. None) in
    let start : Seen = record { aliases = left_alias ∷ []; scope = s0 } in
    let seen : Seen = terms_seen ts start in
    let s : Scope = seen.scope in
    let from : check_from schemas (Some (record { table = m; alias = left_alias })) ≡ Ok start = rw hm refl in
    let merged : (s : Scope) → Stays s0 s → (u : ℕ) → check (own_sql us u) s ≡ Ok kind.Int =
    λ s k u. own_fine s us (λ v h. name_fine left_alias (column v) s kind.Int (k.left (column v) ∙ rw (one_column v) (column_in vs us v h))) u in
    let mine : (v : ℕ) → has vs v ≡ true → check (sql.Name left_alias (kept v)) s ≡ Ok kind.Int =
    λ v h. name_fine left_alias (kept v) s kind.Int ((stays-terms ts start).left (kept v) ∙ rw (one_kept v) (kept_in vs us v h)) in
    let joins : check_joins schemas (term_joins terms (own_test us) ts) start ≡ Ok seen =
    term_joins_fine schemas terms ht (own_test us) ts start ot (λ u h. or_from _ _ (other_left u) refl) tests in
    let pairs : check_items s (one ∷ []) (map (variable_item (own_sql us)) us ++ map still_item vs) ≡ Ok (map (λ v. int_column (column v)) us ++ map (λ v. int_column (kept v)) vs) =
    pair_items s (own_sql us) us vs (one ∷ []) (λ u h. merged s (stays-terms ts start) u) mine ou ov (λ u h. or_from _ _ (column_one u) refl) (λ v h. or_from _ _ (kept_one v) refl) in
    let items : check_items s [] (one_item ∷ map (variable_item (own_sql us)) us ++ map still_item vs) ≡ Ok (match_schema vs us) = rw (check-Int (pos 1) s, pairs) refl in
    let test : check_truth condition s ≡ Ok kind.Truth = then_fine (check condition s) kind.Truth (λ k. all_truths (k ∷ [])) (ok s (terms_in_scope ts start)) in
    rw from (rw joins (rw items (rw test refl)))
  where
    tests : (s : Scope) → Stays (scope_with left_alias (match_schema vs us) (λ a c. None)) s → (u : ℕ) → s (term_alias u) id_name ≡ Some kind.Int → check (own_test us u) s ≡ Ok kind.Truth
    tests s k u own = go (cases_Bool (has us u))
      where
        go : (has us u ≡ true) ⊎ (has us u ≡ false) → check (own_test us u) s ≡ Ok kind.Truth
        go (inl e) = rw e (number_fine s (cell_of left_alias) u own (name_fine left_alias (column u) s kind.Int (k.left (column u) ∙ rw (one_column u) (column_in vs us u e))))
        go (inr e) = rw e (no_fine s u own (k.left one))
