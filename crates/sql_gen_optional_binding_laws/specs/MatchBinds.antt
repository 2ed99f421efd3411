-- The two steps of an optional join with a condition bind.
use Rattle.std.proofs.Common.{◌≡◌, ℕ, ◌⊎◌, Bool, true, false, if◌then◌else◌, List, [], ◌∷◌, ◌++◌, map, Some, None, refl, ap, ap₂, ◌∙◌, subst, inl, inr, ◌==◌, pos, bytes_eq}
use Rattle.std.proofs.lemmas.Bool.{cases_Bool, eq-eqb, eqb-true, or_cases, or_from, or_left, or_right, false_from_ne_true, both_ways}
use Rattle.std.specs.List.{list_any}
use Rattle.std.specs.Prelude.{◌+◌}
use Rattle.sql_meaning.specs.declared.script.JoinTo.{JoinTo}
use Rattle.sql_meaning.specs.declared.expression.SqlExpr.{SqlExpr}
use Rattle.sql_gen_step_laws.specs.Carried.{Name, column, one}
use Rattle.sql_gen_step_laws.specs.StepSelects.{left_alias, right_alias, cell_of, every, has, shared_sql, shared, merged_sql, one_item, variable_item, both, own_sql, project_core}
use Rattle.sql_gen_step_laws.specs.Lookups.{same_column, one_column}
use Rattle.sql_gen_term_laws.specs.TermTable.{id_name, number_test, no_test, term_alias, term_joins}
use Rattle.sql_rows_meaning.specs.Faults.{and_then, in_select}
use Rattle.sql_rows_meaning.specs.Scopes.{Scope, Schemas, kind_under, Seen}
use Rattle.sql_rows_meaning.specs.Checks.{all_truths, check, check_truth}
use Rattle.sql_rows_meaning.specs.CheckLaws.{check-Int, check-All, check-Any}
use Rattle.sql_rows_meaning.specs.Binding.{check_source, check_from, check_join, check_joins, check_items, check_like, check_select, check_others, check_body}
use Rattle.std.specs.Prelude.{Ok}
use Rattle.sql_gen_binding_laws.specs.StepColumns.{int_column, step_schema, Once, term_schema, TermsSeen, scope_with}
use Rattle.sql_gen_binding_laws.specs.StepBinds.{then_fine, name_fine, equal_fine, own_fine, kind_in_step, step_items, null_fine, tests_fine, every_fine, each_made, shared_fine, first_fine, in_filter, once-both, of_both, column_one, schemas_same}
use Rattle.sql_gen_binding_laws.specs.TermBinds.{Stays, stays-terms, terms_seen, terms_in_scope, number_fine, no_fine, term_joins_fine, other_left, other_right}
use Rattle.sql_gen_optional_laws.specs.MatchRows.{kept, kept_sql, kept_item, either_test, matches_core, unmatched_core, optional_body}
use Rattle.sql_gen_optional_laws.specs.OptionalStep.{same_kept}
use Rattle.sql_gen_optional_binding_laws.specs.MatchColumns.{match_schema}
use Rattle.sql_meaning.specs.declared.expression.SqlExpr.TheVariants as sql
use Rattle.table_meaning.specs.declared.kind.Kind.TheVariants as kind

pub kept_one : (v : ℕ) → bytes_eq (kept v) one ≡ false
unfolding kept
kept_one v = refl

pub one_kept : (v : ℕ) → bytes_eq one (kept v) ≡ false
unfolding kept
one_kept v = refl

pub kept_column : (w v : ℕ) → bytes_eq (kept w) (column v) ≡ false
unfolding kept column
kept_column w v = refl

column_kept : (w v : ℕ) → bytes_eq (column w) (kept v) ≡ false
unfolding kept column
column_kept w v = refl

-- ---- items

kept_items : (s : Scope) (vs : List ℕ) (names : List Name) → ((v : ℕ) → has vs v ≡ true → check (cell_of left_alias v) s ≡ Ok kind.Int) → Once vs → ((v : ℕ) → has vs v ≡ true → list_any (bytes_eq (kept v)) names ≡ false) →
    check_items s names (map kept_item vs) ≡ Ok (map (λ v. int_column (kept v)) vs)
kept_items s [] names ok o fresh = refl
kept_items s (v ∷ vs) names ok o fresh =
    let head : has (v ∷ vs) v ≡ true = or_left _ _ (eq-eqb v v refl) in
    let mine : check (cell_of left_alias v) s ≡ Ok kind.Int = ok v head in
    let new : list_any (bytes_eq (kept v)) names ≡ false = fresh v head in
    let rest : check_items s (kept v ∷ names) (map kept_item vs) ≡ Ok (map (λ v. int_column (kept v)) vs) =
    kept_items s vs (kept v ∷ names) (λ w h. ok w (or_right _ _ h)) o.1
    (λ w h. or_from _ _ (same_kept w v ∙ false_from_ne_true _ (λ q. both_ways _ o.0 (subst (λ x. has vs x ≡ true) (eqb-true w v q) h))) (fresh w (or_right _ _ h))) in
    rw mine (rw new (rw rest refl))

match_items : (s : Scope) (f : ℕ → SqlExpr) (us vs : List ℕ) (names : List Name) → ((u : ℕ) → has us u ≡ true → check (f u) s ≡ Ok kind.Int) → ((v : ℕ) → has vs v ≡ true → check (cell_of left_alias v) s ≡ Ok kind.Int) → Once us → Once vs →
    ((u : ℕ) → has us u ≡ true → list_any (bytes_eq (column u)) names ≡ false) → ((v : ℕ) → has vs v ≡ true → list_any (bytes_eq (kept v)) names ≡ false) →
    check_items s names (map (variable_item f) us ++ map kept_item vs) ≡ Ok (map (λ v. int_column (column v)) us ++ map (λ v. int_column (kept v)) vs)
match_items s f [] vs names ok own ou ov fresh apart = kept_items s vs names own ov apart
match_items s f (u ∷ us) vs names ok own ou ov fresh apart =
    let head : has (u ∷ us) u ≡ true = or_left _ _ (eq-eqb u u refl) in
    let mine : check (f u) s ≡ Ok kind.Int = ok u head in
    let new : list_any (bytes_eq (column u)) names ≡ false = fresh u head in
    let rest : check_items s (column u ∷ names) (map (variable_item f) us ++ map kept_item vs) ≡ Ok (map (λ v. int_column (column v)) us ++ map (λ v. int_column (kept v)) vs) =
    match_items s f us vs (column u ∷ names) (λ w h. ok w (or_right _ _ h)) own ou.1 ov
    (λ w h. or_from _ _ (same_column w u ∙ false_from_ne_true _ (λ q. both_ways _ ou.0 (subst (λ x. has us x ≡ true) (eqb-true w u q) h))) (fresh w (or_right _ _ h)))
    (λ v h. or_from _ _ (kept_column v u) (apart v h)) in
    rw mine (rw new (rw rest refl))

-- ---- the matches

merged_fine : (vs ws : List ℕ) (s : Scope) → ((v : ℕ) → has vs v ≡ true → check (cell_of left_alias v) s ≡ Ok kind.Int) → ((v : ℕ) → has ws v ≡ true → check (cell_of right_alias v) s ≡ Ok kind.Int) →
    (u : ℕ) → (has vs u ≡ true) ⊎ (has ws u ≡ true) → check (merged_sql vs ws u) s ≡ Ok kind.Int
merged_fine vs ws s mine its u h = go (cases_Bool (has vs u)) (cases_Bool (has ws u)) h
  where
    go : (has vs u ≡ true) ⊎ (has vs u ≡ false) → (has ws u ≡ true) ⊎ (has ws u ≡ false) → (has vs u ≡ true) ⊎ (has ws u ≡ true) → check (merged_sql vs ws u) s ≡ Ok kind.Int
    go (inl x) (inl y) h = rw (x, y) (first_fine s (cell_of left_alias u) (cell_of right_alias u) (mine u x) (its u y))
    go (inl x) (inr y) h = rw (x, y) (mine u x)
    go (inr x) (inl y) h = rw x (its u y)
    go (inr x) (inr y) (inl h) = absurd (both_ways _ x h)
    go (inr x) (inr y) (inr h) = absurd (both_ways _ y h)

either_fine : (vs ws : List ℕ) (s : Scope) → ((v : ℕ) → has vs v ≡ true → check (cell_of left_alias v) s ≡ Ok kind.Int) → ((v : ℕ) → has ws v ≡ true → check (cell_of right_alias v) s ≡ Ok kind.Int) → s left_alias one ≡ Some kind.Int →
    (u : ℕ) → s (term_alias u) id_name ≡ Some kind.Int → check (either_test vs ws u) s ≡ Ok kind.Truth
either_fine vs ws s mine its first u own = go (cases_Bool (has vs u)) (cases_Bool (has ws u))
  where
    found : (has vs u ≡ true) ⊎ (has ws u ≡ true) → check (number_test (merged_sql vs ws) u) s ≡ Ok kind.Truth
    found h = number_fine s (merged_sql vs ws) u own (merged_fine vs ws s mine its u h)

    go : (has vs u ≡ true) ⊎ (has vs u ≡ false) → (has ws u ≡ true) ⊎ (has ws u ≡ false) → check (either_test vs ws u) s ≡ Ok kind.Truth
    go (inl x) y = ap (λ (b : Bool). check (if b then number_test (merged_sql vs ws) u else if has ws u then number_test (merged_sql vs ws) u else no_test u) s) x ∙ found (inl x)
    go (inr x) (inl y) = ap₂ (λ (b c : Bool). check (if b then number_test (merged_sql vs ws) u else if c then number_test (merged_sql vs ws) u else no_test u) s) x y ∙ found (inr y)
    go (inr x) (inr y) = ap₂ (λ (b c : Bool). check (if b then number_test (merged_sql vs ws) u else if c then number_test (merged_sql vs ws) u else no_test u) s) x y ∙ no_fine s u own first

pub matches_fine : (schemas : Schemas) (a b terms : Name) (vs ws us certain : List ℕ) → schemas a ≡ Some (step_schema vs) → schemas b ≡ Some (step_schema ws) → schemas terms ≡ Some term_schema → Once vs → Once ws → Once us →
    (condition : SqlExpr) → ((s : Scope) → TermsSeen us s → check condition s ≡ Ok kind.Truth) →
    check_select schemas None (matches_core a b terms vs ws us certain condition) ≡ Ok (match_schema vs (both vs ws))
matches_fine schemas a b terms vs ws us certain ha hb ht ov ow ou condition ok =
    let on = every (map (shared_sql certain) (shared vs ws)) in
    let start : Seen = record { aliases = left_alias ∷ []; scope = scope_with left_alias (step_schema vs) (λ a c. None) } in
    let s0 : Scope = scope_with right_alias (step_schema ws) (scope_with left_alias (step_schema vs) (λ a c. None)) in
    let seen : Seen = record { aliases = right_alias ∷ left_alias ∷ []; scope = s0 } in
    let mine : (s : Scope) → Stays s0 s → (v : ℕ) → has vs v ≡ true → check (cell_of left_alias v) s ≡ Ok kind.Int = λ s k v h. name_fine left_alias (column v) s kind.Int (k.left (column v) ∙ kind_in_step vs v h) in
    let its : (s : Scope) → Stays s0 s → (v : ℕ) → has ws v ≡ true → check (cell_of right_alias v) s ≡ Ok kind.Int = λ s k v h. name_fine right_alias (column v) s kind.Int (k.right (column v) ∙ kind_in_step ws v h) in
    let still : Stays s0 s0 = record { left = λ c. refl; right = λ c. refl } in
    let test : check on s0 ≡ Ok kind.Truth = every_fine s0 (map (shared_sql certain) (shared vs ws))
    (each_made (λ e. check e s0 ≡ Ok kind.Truth) (shared_sql certain) (shared vs ws) (λ v h. let p = in_filter (has vs) ws v h in shared_fine s0 certain v (mine s0 still v p.1) (its s0 still v p.0))) in
    let from : check_from schemas (Some (record { table = a; alias = left_alias })) ≡ Ok start = rw ha refl in
    let j : JoinTo = record { left = false; source = record { table = b; alias = right_alias }; on = on } in
    let source : check_source schemas j.source start ≡ Ok seen = rw hb refl in
    let truth : check_truth on s0 ≡ Ok kind.Truth = then_fine (check on s0) kind.Truth (λ k. all_truths (k ∷ [])) test in
    let join : check_join schemas j start ≡ Ok seen =
    then_fine (check_source schemas j.source start) seen (λ more. and_then (check_truth on more.scope) (λ k. Ok more)) source
    ∙ then_fine (check_truth on s0) kind.Truth (λ k. Ok seen) truth in
    let last : Seen = terms_seen us seen in
    let s : Scope = last.scope in
    let stays : Stays s0 s = stays-terms us seen in
    let rest : check_joins schemas (term_joins terms (either_test vs ws) us) seen ≡ Ok last =
    term_joins_fine schemas terms ht (either_test vs ws) us seen ou (λ u h. or_from _ _ (other_right u) (or_from _ _ (other_left u) refl)) (λ s k. either_fine vs ws s (mine s k) (its s k) (k.left one)) in
    let joins : check_joins schemas (j ∷ term_joins terms (either_test vs ws) us) start ≡ Ok last = then_fine (check_join schemas j start) seen (check_joins schemas (term_joins terms (either_test vs ws) us)) join ∙ rest in
    let both_items : check_items s (one ∷ []) (map (variable_item (merged_sql vs ws)) (both vs ws) ++ map kept_item vs) ≡ Ok (map (λ v. int_column (column v)) (both vs ws) ++ map (λ v. int_column (kept v)) vs) =
    match_items s (merged_sql vs ws) (both vs ws) vs (one ∷ []) (λ u h. merged_fine vs ws s (mine s stays) (its s stays) u (of_both vs ws u h)) (mine s stays) (once-both vs ws ov ow) ov (λ u h. or_from _ _ (column_one u) refl) (λ v h. or_from _ _ (kept_one v) refl) in
    let items : check_items s [] (one_item ∷ map (variable_item (merged_sql vs ws)) (both vs ws) ++ map kept_item vs) ≡ Ok (match_schema vs (both vs ws)) = rw (check-Int (pos 1) s, both_items) refl in
    let where_truth : check_truth condition s ≡ Ok kind.Truth = then_fine (check condition s) kind.Truth (λ k. all_truths (k ∷ [])) (ok s (terms_in_scope us seen)) in
    rw from (rw joins (rw items (rw where_truth refl)))

-- ---- the rest

pub column_in : (vs us : List ℕ) (v : ℕ) → has us v ≡ true → kind_under (map (λ v. int_column (column v)) us ++ map (λ v. int_column (kept v)) vs) (column v) ≡ Some kind.Int
column_in vs [] v e = cc
column_in vs (w ∷ us) v e = go (cases_Bool (w == v)) (or_cases (w == v) (has us v) e) (column_in vs us v)
  where
    go : ((w == v) ≡ true) ⊎ ((w == v) ≡ false) → ((w == v) ≡ true) ⊎ (has us v ≡ true) → (has us v ≡ true → kind_under (map (λ v. int_column (column v)) us ++ map (λ v. int_column (kept v)) vs) (column v) ≡ Some kind.Int) →
        kind_under (map (λ v. int_column (column v)) (w ∷ us) ++ map (λ v. int_column (kept v)) vs) (column v) ≡ Some kind.Int
    go (inl q) h r = rw (same_column w v, q) refl
    go (inr q) (inl h) r = cc
    go (inr q) (inr h) r = rw (same_column w v, q) (r h)

kept_alone : (vs : List ℕ) (v : ℕ) → has vs v ≡ true → kind_under (map (λ v. int_column (kept v)) vs) (kept v) ≡ Some kind.Int
kept_alone [] v e = cc
kept_alone (w ∷ vs) v e = go (cases_Bool (w == v)) (or_cases (w == v) (has vs v) e) (kept_alone vs v)
  where
    go : ((w == v) ≡ true) ⊎ ((w == v) ≡ false) → ((w == v) ≡ true) ⊎ (has vs v ≡ true) → (has vs v ≡ true → kind_under (map (λ v. int_column (kept v)) vs) (kept v) ≡ Some kind.Int) →
        kind_under (map (λ v. int_column (kept v)) (w ∷ vs)) (kept v) ≡ Some kind.Int
    go (inl q) h r = rw (same_kept w v, q) refl
    go (inr q) (inl h) r = cc
    go (inr q) (inr h) r = rw (same_kept w v, q) (r h)

pub kept_in : (vs us : List ℕ) (v : ℕ) → has vs v ≡ true → kind_under (map (λ v. int_column (column v)) us ++ map (λ v. int_column (kept v)) vs) (kept v) ≡ Some kind.Int
kept_in vs [] v e = kept_alone vs v e
kept_in vs (u ∷ us) v e = rw (column_kept u v) (kept_in vs us v e)

kept_fine : (s : Scope) (certain : List ℕ) (v : ℕ) → check (cell_of left_alias v) s ≡ Ok kind.Int → check (sql.Name right_alias (kept v)) s ≡ Ok kind.Int → check (kept_sql certain v) s ≡ Ok kind.Truth
kept_fine s certain v a b = go (cases_Bool (has certain v))
  where
    go : (has certain v ≡ true) ⊎ (has certain v ≡ false) → check (kept_sql certain v) s ≡ Ok kind.Truth
    go (inl e) = rw e (equal_fine s (sql.Name right_alias (kept v)) (cell_of left_alias v) b a)
    go (inr e) = let l = sql.Name right_alias (kept v) in let r = cell_of left_alias v in
        let nulls : check (sql.All (sql.IsNull l ∷ sql.IsNull r ∷ [])) s ≡ Ok kind.Truth = check-All (sql.IsNull l ∷ sql.IsNull r ∷ []) s ∙ tests_fine s (sql.IsNull l ∷ sql.IsNull r ∷ []) (null_fine s l kind.Int b, (null_fine s r kind.Int a, tt)) in
        rw e (check-Any (sql.Equal l r ∷ sql.All (sql.IsNull l ∷ sql.IsNull r ∷ []) ∷ []) s ∙ tests_fine s (sql.Equal l r ∷ sql.All (sql.IsNull l ∷ sql.IsNull r ∷ []) ∷ []) (equal_fine s l r b a, (nulls, tt)))

pub optional_fine : (schemas : Schemas) (n : ℕ) (a m : Name) (vs ws certain : List ℕ) → schemas a ≡ Some (step_schema vs) → schemas m ≡ Some (match_schema vs (both vs ws)) → Once vs → Once ws →
    check_body schemas n (optional_body a m vs ws certain).cores ≡ Ok (step_schema (both vs ws))
optional_fine schemas n a m vs ws certain ha hm ov ow =
    let us = both vs ws in
    let o = once-both vs ws ov ow in
    let none : Scope = λ a c. None in
    let s1 : Scope = scope_with left_alias (match_schema vs us) none in
    let start1 : Seen = record { aliases = left_alias ∷ []; scope = s1 } in
    let from1 : check_from schemas (Some (record { table = m; alias = left_alias })) ≡ Ok start1 = rw hm refl in
    let items1 : check_items s1 [] (one_item ∷ map (variable_item (own_sql us)) us) ≡ Ok (step_schema us) =
    step_items s1 (own_sql us) us (λ u h. own_fine s1 us (λ v k. name_fine left_alias (column v) s1 kind.Int (rw (one_column v) (column_in vs us v k))) u) o in
    let first : check_select schemas None (project_core m us us) ≡ Ok (step_schema us) = rw from1 (rw items1 refl) in
    let on = every (map (kept_sql certain) vs) in
    let start2 : Seen = record { aliases = left_alias ∷ []; scope = scope_with left_alias (step_schema vs) none } in
    let s2 : Scope = scope_with right_alias (match_schema vs us) (scope_with left_alias (step_schema vs) none) in
    let seen2 : Seen = record { aliases = right_alias ∷ left_alias ∷ []; scope = s2 } in
    let mine : (v : ℕ) → has vs v ≡ true → check (cell_of left_alias v) s2 ≡ Ok kind.Int = λ v h. name_fine left_alias (column v) s2 kind.Int (kind_in_step vs v h) in
    let its : (v : ℕ) → has vs v ≡ true → check (sql.Name right_alias (kept v)) s2 ≡ Ok kind.Int = λ v h. name_fine right_alias (kept v) s2 kind.Int (rw (one_kept v) (kept_in vs us v h)) in
    let test : check on s2 ≡ Ok kind.Truth = every_fine s2 (map (kept_sql certain) vs) (each_made (λ e. check e s2 ≡ Ok kind.Truth) (kept_sql certain) vs (λ v h. kept_fine s2 certain v (mine v h) (its v h))) in
    let from2 : check_from schemas (Some (record { table = a; alias = left_alias })) ≡ Ok start2 = rw ha refl in
    let j : JoinTo = record { left = true; source = record { table = m; alias = right_alias }; on = on } in
    let source : check_source schemas j.source start2 ≡ Ok seen2 = rw hm refl in
    let truth : check_truth on s2 ≡ Ok kind.Truth = then_fine (check on s2) kind.Truth (λ k. all_truths (k ∷ [])) test in
    let join : check_join schemas j start2 ≡ Ok seen2 =
    then_fine (check_source schemas j.source start2) seen2 (λ more. and_then (check_truth on more.scope) (λ k. Ok more)) source
    ∙ then_fine (check_truth on s2) kind.Truth (λ k. Ok seen2) truth in
    let items2 : check_items s2 [] (one_item ∷ map (variable_item (own_sql vs)) us) ≡ Ok (step_schema us) = step_items s2 (own_sql vs) us (λ u h. own_fine s2 vs mine u) o in
    let like : check_like (Some (step_schema us)) (step_schema us) ≡ Ok (step_schema us) = rw (schemas_same us) refl in
    let missing : check (sql.IsNull (sql.Name right_alias one)) s2 ≡ Ok kind.Truth = null_fine s2 (sql.Name right_alias one) kind.Int (name_fine right_alias one s2 kind.Int refl) in
    let where_truth : check_truth (sql.IsNull (sql.Name right_alias one)) s2 ≡ Ok kind.Truth = then_fine (check (sql.IsNull (sql.Name right_alias one)) s2) kind.Truth (λ k. all_truths (k ∷ [])) missing in
    let second : check_select schemas (Some (step_schema us)) (unmatched_core a m vs ws certain) ≡ Ok (step_schema us) = rw from2 (rw join (rw items2 (rw like (rw where_truth refl)))) in
    then_fine (in_select n (check_select schemas None (project_core m us us))) (step_schema us) (λ first. check_others schemas (n + 1) first (unmatched_core a m vs ws certain ∷ [])) (ap (in_select n) first)
    ∙ then_fine (in_select (n + 1) (check_select schemas (Some (step_schema us)) (unmatched_core a m vs ws certain))) (step_schema us) (λ _. Ok (step_schema us)) (ap (in_select (n + 1)) second)
