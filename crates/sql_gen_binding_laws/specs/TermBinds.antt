-- The SELECTs that join terms bind.
use Rattle.std.proofs.Common.{◌≡◌, ℕ, ◌⊎◌, true, false, List, [], ◌∷◌, map, Some, None, sym, refl, ◌∙◌, subst, inl, inr, ◌==◌, bytes_eq}
use Rattle.std.proofs.lemmas.Bool.{cases_Bool, eq-eqb, eqb-true, or_cases, or_from, or_left, or_right, false_from_ne_true, both_ways}
use Rattle.std.proofs.lemmas.Slice.Eq.{bytes_eq-Decides}
use Rattle.std.specs.List.{list_any}
use Rattle.sql_meaning.specs.declared.expression.SqlExpr.{SqlExpr}
use Rattle.sql_gen_step_laws.specs.Carried.{Name, column, one}
use Rattle.sql_gen_step_laws.specs.StepSelects.{left_alias, right_alias, cell_of, has, one_item, variable_item, own_sql}
use Rattle.sql_gen_term_laws.specs.TermTable.{id_name, number_test, no_test, own_test, term_join, term_alias, term_joins}
use Rattle.sql_gen_term_laws.specs.TermChain.{same_alias}
use Rattle.sql_gen_term_laws.specs.Filters.{filter_core}
use Rattle.table_meaning.specs.declared.schema.Column.{Column}
use Rattle.sql_rows_meaning.specs.Faults.{and_then}
use Rattle.sql_rows_meaning.specs.Scopes.{Scope, Schemas, kind_under, Seen}
use Rattle.sql_rows_meaning.specs.Checks.{all_truths, check, check_truth}
use Rattle.sql_rows_meaning.specs.CheckLaws.{check-Truth, check-All}
use Rattle.sql_rows_meaning.specs.Binding.{check_source, check_from, check_join, check_joins, check_items, check_select}
use Rattle.std.specs.Prelude.{Ok}
use Rattle.sql_gen_binding_laws.specs.StepColumns.{step_schema, Once, term_schema, TermsSeen, scope_with}
use Rattle.sql_gen_binding_laws.specs.StepBinds.{then_fine, name_fine, equal_fine, tests_fine, own_fine, kind_in_step, step_items}
use Rattle.sql_meaning.specs.declared.expression.SqlExpr.TheVariants as sql
use Rattle.table_meaning.specs.declared.kind.Kind.TheVariants as kind

left_other : (v : ℕ) → bytes_eq left_alias (term_alias v) ≡ false
unfolding term_alias
left_other v = refl

right_other : (v : ℕ) → bytes_eq right_alias (term_alias v) ≡ false
unfolding term_alias
right_other v = refl

pub other_left : (v : ℕ) → bytes_eq (term_alias v) left_alias ≡ false
unfolding term_alias
other_left v = refl

pub other_right : (v : ℕ) → bytes_eq (term_alias v) right_alias ≡ false
unfolding term_alias
other_right v = refl

-- both sides stay in sight
pub record Stays (s s' : Scope) : Type 0 where
  pub left : (c : Name) → s' left_alias c ≡ s left_alias c
  pub right : (c : Name) → s' right_alias c ≡ s right_alias c

stays-trans : (a b c : Scope) → Stays a b → Stays b c → Stays a c
stays-trans a b c p q = record { left = λ n. q.left n ∙ p.left n; right = λ n. q.right n ∙ p.right n }

stays-term : (u : ℕ) (schema : (List Column)) (s : Scope) → Stays s (scope_with (term_alias u) schema s)
stays-term u schema s = record { left = λ c. rw (left_other u) refl; right = λ c. rw (right_other u) refl }

abbrev pub terms_seen : List ℕ → Seen → Seen
terms_seen [] seen = seen
terms_seen (u ∷ us) seen = terms_seen us (record { aliases = term_alias u ∷ seen.aliases; scope = scope_with (term_alias u) term_schema seen.scope })

pub stays-terms : (us : List ℕ) (seen : Seen) → Stays seen.scope (terms_seen us seen).scope
stays-terms [] seen = record { left = λ c. refl; right = λ c. refl }
stays-terms (u ∷ us) seen =
    let next : Seen = record { aliases = term_alias u ∷ seen.aliases; scope = scope_with (term_alias u) term_schema seen.scope } in
    stays-trans seen.scope next.scope (terms_seen us next).scope (stays-term u term_schema seen.scope) (stays-terms us next)

abbrev InScope : ℕ → Scope → Type 0
InScope u s = (c : Name) → s (term_alias u) c ≡ kind_under term_schema c

in_scope : (us : List ℕ) (seen : Seen) (u : ℕ) → (has us u ≡ true) ⊎ InScope u seen.scope → InScope u (terms_seen us seen).scope
in_scope [] seen u (inl e) = cc
in_scope [] seen u (inr h) = h
in_scope (w ∷ us) seen u h = in_scope us (record { aliases = term_alias w ∷ seen.aliases; scope = scope_with (term_alias w) term_schema seen.scope }) u (go (cases_Bool (u == w)) h)
  where
    go : ((u == w) ≡ true) ⊎ ((u == w) ≡ false) → (has (w ∷ us) u ≡ true) ⊎ InScope u seen.scope → (has us u ≡ true) ⊎ InScope u (scope_with (term_alias w) term_schema seen.scope)
    go (inl e) h = inr (λ c. rw (same_alias u w, e) refl)
    go (inr e) (inl h) = inl (elim (or_cases (w == u) (has us u) h) [ inl k ↦ (let same : w ≡ u = eqb-true w u k in let yes : (u == w) ≡ true = eq-eqb u w (sym same) in cc) | inr k ↦ k ])
    go (inr e) (inr h) = inr (λ c. rw (same_alias u w, e) (h c))

pub terms_in_scope : (us : List ℕ) (seen : Seen) → TermsSeen us (terms_seen us seen).scope
terms_in_scope us seen u h = in_scope us seen u (inl h)

-- a test by a number binds
pub number_fine : (s : Scope) (f : ℕ → SqlExpr) (u : ℕ) → s (term_alias u) id_name ≡ Some kind.Int → check (f u) s ≡ Ok kind.Int → check (number_test f u) s ≡ Ok kind.Truth
number_fine s f u own ok = equal_fine s (sql.Name (term_alias u) id_name) (f u) (name_fine (term_alias u) id_name s kind.Int own) ok

-- so does one that is never true
pub no_fine : (s : Scope) (u : ℕ) → s (term_alias u) id_name ≡ Some kind.Int → s left_alias one ≡ Some kind.Int → check (no_test u) s ≡ Ok kind.Truth
no_fine s u own first =
    let on = number_test (λ v. sql.Name left_alias one) u in
    let test : check on s ≡ Ok kind.Truth = number_fine s (λ v. sql.Name left_alias one) u own (name_fine left_alias one s kind.Int first) in
    check-All (on ∷ sql.Truth false ∷ []) s ∙ tests_fine s (on ∷ sql.Truth false ∷ []) (test, (check-Truth false s, tt))

-- each join with the terms binds
pub term_joins_fine : (schemas : Schemas) (terms : Name) → schemas terms ≡ Some term_schema → (test : ℕ → SqlExpr) (us : List ℕ) (seen : Seen) → Once us → ((u : ℕ) → has us u ≡ true → list_any (bytes_eq (term_alias u)) seen.aliases ≡ false) →
    ((s : Scope) → Stays seen.scope s → (u : ℕ) → s (term_alias u) id_name ≡ Some kind.Int → check (test u) s ≡ Ok kind.Truth) → check_joins schemas (term_joins terms test us) seen ≡ Ok (terms_seen us seen)
term_joins_fine schemas terms ht test [] seen o fresh ok = refl
term_joins_fine schemas terms ht test (u ∷ us) seen o fresh ok =
    let j = term_join terms (term_alias u) (test u) in
    let next : Seen = record { aliases = term_alias u ∷ seen.aliases; scope = scope_with (term_alias u) term_schema seen.scope } in
    let new : list_any (bytes_eq (term_alias u)) seen.aliases ≡ false = fresh u (or_left _ _ (eq-eqb u u refl)) in
    let source : check_source schemas j.source seen ≡ Ok next = rw ht (rw new refl) in
    let own : next.scope (term_alias u) id_name ≡ Some kind.Int = rw ((bytes_eq-Decides (term_alias u) (term_alias u)).1 refl) refl in
    let fine : check j.on next.scope ≡ Ok kind.Truth = ok next.scope (stays-term u term_schema seen.scope) u own in
    let truth : check_truth j.on next.scope ≡ Ok kind.Truth = then_fine (check j.on next.scope) kind.Truth (λ k. all_truths (k ∷ [])) fine in
    let join : check_join schemas j seen ≡ Ok next =
    then_fine (check_source schemas j.source seen) next (λ more. and_then (check_truth j.on more.scope) (λ k. Ok more)) source
    ∙ then_fine (check_truth j.on next.scope) kind.Truth (λ k. Ok next) truth in
    then_fine (check_join schemas j seen) next (check_joins schemas (term_joins terms test us)) join
    ∙ term_joins_fine schemas terms ht test us next o.1
    (λ w h. or_from _ _ (same_alias w u ∙ false_from_ne_true _ (λ q. both_ways _ o.0 (subst (λ x. has us x ≡ true) (eqb-true w u q) h))) (fresh w (or_right _ _ h)))
    (λ s k. ok s (stays-trans seen.scope next.scope s (stays-term u term_schema seen.scope) k))

pub own_variables : (vs : List ℕ) (s s' : Scope) → Stays (scope_with left_alias (step_schema vs) s) s' → (u : ℕ) → check (own_sql vs u) s' ≡ Ok kind.Int
own_variables vs s s' k u = own_fine s' vs (λ v h. name_fine left_alias (column v) s' kind.Int (k.left (column v) ∙ kind_in_step vs v h)) u

-- the tests of a step's own variables bind
pub own_tests : (vs : List ℕ) (s s' : Scope) → Stays (scope_with left_alias (step_schema vs) s) s' → (u : ℕ) → s' (term_alias u) id_name ≡ Some kind.Int → check (own_test vs u) s' ≡ Ok kind.Truth
own_tests vs s s' k u own = go (cases_Bool (has vs u))
  where
    go : (has vs u ≡ true) ⊎ (has vs u ≡ false) → check (own_test vs u) s' ≡ Ok kind.Truth
    go (inl e) = rw e (number_fine s' (cell_of left_alias) u own (name_fine left_alias (column u) s' kind.Int (k.left (column u) ∙ kind_in_step vs u e)))
    go (inr e) = rw e (no_fine s' u own (k.left one))

-- ---- the filter

pub filter_fine : (schemas : Schemas) (a terms : Name) (vs us : List ℕ) → schemas a ≡ Some (step_schema vs) → schemas terms ≡ Some term_schema → Once vs → Once us →
    (condition : SqlExpr) → ((s : Scope) → TermsSeen us s → check condition s ≡ Ok kind.Truth) → check_select schemas None (filter_core a terms vs us condition) ≡ Ok (step_schema vs)
filter_fine schemas a terms vs us ha ht ov ou condition ok =
    let none : Scope = λ a c. None in
    let start : Seen = record { aliases = left_alias ∷ []; scope = scope_with left_alias (step_schema vs) none } in
    let seen : Seen = terms_seen us start in
    let s : Scope = seen.scope in
    let from : check_from schemas (Some (record { table = a; alias = left_alias })) ≡ Ok start = rw ha refl in
    let joins : check_joins schemas (term_joins terms (own_test vs) us) start ≡ Ok seen =
    term_joins_fine schemas terms ht (own_test vs) us start ou (λ u h. or_from _ _ (other_left u) refl) (own_tests vs none) in
    let items : check_items s [] (one_item ∷ map (variable_item (own_sql vs)) vs) ≡ Ok (step_schema vs) = step_items s (own_sql vs) vs (λ u h. own_variables vs none s (stays-terms us start) u) ov in
    let test : check_truth condition s ≡ Ok kind.Truth = then_fine (check condition s) kind.Truth (λ k. all_truths (k ∷ [])) (ok s (terms_in_scope us start)) in
    rw from (rw joins (rw items (rw test refl)))
