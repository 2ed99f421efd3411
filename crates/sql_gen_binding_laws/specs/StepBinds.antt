-- The SELECTs of join and union bind.
use Rattle.std.proofs.Common.{◌≡◌, ℕ, ◌⊎◌, Bool, true, false, if◌then◌else◌, ◌||◌, List, [], ◌∷◌, ◌++◌, map, Option, Some, None, sym, refl, ap, ap₂, ◌∙◌, subst, inl, inr, ◌==◌, pos, bytes_eq}
use Rattle.std.proofs.lemmas.Bool.{cases_Bool, eq-eqb, eqb-true, or_cases, or_from, or_left, or_right, false_from_ne_true, both_ways}
use Rattle.std.proofs.lemmas.List.Folds.{list_any-append}
use Rattle.std.proofs.lemmas.Slice.Eq.{bytes_eq-Decides}
use Rattle.std.specs.Prelude.{◌+◌}
use Rattle.sql_rows_meaning.specs.Faults.{in_select}
use Rattle.std.specs.List.{list_any, list_all, filter, AllByRecursion}
use Rattle.sql_rows_meaning.specs.Faults.{found, Checked, and_then, all_fine}
use Rattle.sql_meaning.specs.declared.script.JoinTo.{JoinTo}
use Rattle.sql_meaning.specs.declared.expression.SqlExpr.{SqlExpr}
use Rattle.sql_gen_step_laws.specs.Carried.{Name, column, one}
use Rattle.sql_gen_step_laws.specs.StepSelects.{left_alias, right_alias, cell_of, every, has, shared_sql, shared, merged_sql, one_item, variable_item, both, join_core, own_sql, project_core, union_body}
use Rattle.sql_gen_step_laws.specs.Lookups.{same_column, one_column}
use Rattle.table_meaning.specs.declared.kind.Kind.{Kind}
use Rattle.table_meaning.specs.declared.schema.Column.{Column}
use Rattle.sql_rows_meaning.specs.declared.fault.FaultKind.{FaultKind}
use Rattle.sql_rows_meaning.specs.declared.fault.FaultKind.TheVariants.{NoColumn, NotTruth}
use Rattle.sql_rows_meaning.specs.Scopes.{Scope, Schemas, kind_under, Seen}
use Rattle.sql_rows_meaning.specs.Checks.{KindChecked, same_kind, all_truths, one_kind, compared, check, check_truth}
use Rattle.sql_rows_meaning.specs.CheckLaws.{check-Name, check-Int, check-Truth, check-Null, check-Equal, check-IsNull, check-All, check-Any, check-First}
use Rattle.sql_rows_meaning.specs.Binding.{check_source, check_from, check_join, check_items, same_columns, check_like, check_select, check_others, check_body}
use Rattle.std.specs.Prelude.{Ok, Err}
use Rattle.sql_gen_binding_laws.specs.StepColumns.{int_column, step_schema, Once, scope_with}
use Rattle.sql_meaning.specs.declared.expression.SqlExpr.TheVariants as sql
use Rattle.table_meaning.specs.declared.kind.Kind.TheVariants as kind

pub then_fine : {F X Y : Type 0} (c : Checked F X) (x : X) (f : X → Checked F Y) → c ≡ Ok x → and_then c f ≡ f x
then_fine c x f e = ap (λ c. and_then c f) e

-- ---- variables

pub in_filter : (p : ℕ → Bool) (ws : List ℕ) (u : ℕ) → has (filter p ws) u ≡ true → (has ws u ≡ true) × (p u ≡ true)
in_filter p [] u e = cc
in_filter p (w ∷ ws) u e = go (cases_Bool (p w)) (in_filter p ws u)
  where
    go : (p w ≡ true) ⊎ (p w ≡ false) → (has (filter p ws) u ≡ true → (has ws u ≡ true) × (p u ≡ true)) → (has (w ∷ ws) u ≡ true) × (p u ≡ true)
    go (inr h) r = let q = r (rw h at e) in (or_right _ _ q.0, q.1)
    go (inl h) r = let k : ((w == u) || has (filter p ws) u) ≡ true = rw h at e in last h r (or_cases (w == u) (has (filter p ws) u) k)
      where
        last : p w ≡ true → (has (filter p ws) u ≡ true → (has ws u ≡ true) × (p u ≡ true)) → ((w == u) ≡ true) ⊎ (has (filter p ws) u ≡ true) → (has (w ∷ ws) u ≡ true) × (p u ≡ true)
        last h r (inl q) = (or_left _ _ q, subst (λ x. p x ≡ true) (eqb-true w u q) h)
        last h r (inr q) = let s = r q in (or_right _ _ s.0, s.1)

once-filter : (p : ℕ → Bool) (ws : List ℕ) → Once ws → Once (filter p ws)
once-filter p [] o = tt
once-filter p (w ∷ ws) o = go (cases_Bool (p w)) (once-filter p ws o.1)
  where
    go : (p w ≡ true) ⊎ (p w ≡ false) → Once (filter p ws) → Once (filter p (w ∷ ws))
    go (inl e) r = rw e (false_from_ne_true _ (λ h. both_ways _ o.0 (in_filter p ws w h).0), r)
    go (inr e) r = rw e r

once-append : (vs zs : List ℕ) → Once vs → Once zs → ((u : ℕ) → has vs u ≡ true → has zs u ≡ false) → Once (vs ++ zs)
once-append [] zs a b f = b
once-append (v ∷ vs) zs a b f = (
  list_any-append (λ w. w == v) vs zs ∙ or_from _ _ a.0 (f v (or_left _ _ (eq-eqb v v refl))),
  once-append vs zs a.1 b (λ u h. f u (or_right _ _ h)),
)

pub once-both : (vs ws : List ℕ) → Once vs → Once ws → Once (both vs ws)
once-both vs ws a b = once-append vs (filter (λ w. if has vs w then false else true) ws) a (once-filter (λ w. if has vs w then false else true) ws b)
    (λ u h. false_from_ne_true _ (λ k. let q : (if has vs u then false else true) ≡ true = (in_filter (λ w. if has vs w then false else true) ws u k).1 in let no : false ≡ true = rw h at q in cc))

pub of_both : (vs ws : List ℕ) (u : ℕ) → has (both vs ws) u ≡ true → (has vs u ≡ true) ⊎ (has ws u ≡ true)
of_both vs ws u e = elim (or_cases (has vs u) (has (filter (λ w. if has vs w then false else true) ws) u) (sym (list_any-append (λ w. w == u) vs (filter (λ w. if has vs w then false else true) ws)) ∙ e))
    [ inl h ↦ inl h | inr h ↦ inr (in_filter (λ w. if has vs w then false else true) ws u h).0 ]

-- ---- what is in sight

kind_of_variable : (vs : List ℕ) (v : ℕ) → has vs v ≡ true → kind_under (map (λ v. int_column (column v)) vs) (column v) ≡ Some kind.Int
kind_of_variable [] v e = cc
kind_of_variable (w ∷ vs) v e = go (cases_Bool (w == v)) (or_cases (w == v) (has vs v) e) (kind_of_variable vs v)
  where
    go : ((w == v) ≡ true) ⊎ ((w == v) ≡ false) → ((w == v) ≡ true) ⊎ (has vs v ≡ true) → (has vs v ≡ true → kind_under (map (λ v. int_column (column v)) vs) (column v) ≡ Some kind.Int) →
        kind_under (map (λ v. int_column (column v)) (w ∷ vs)) (column v) ≡ Some kind.Int
    go (inl q) h r = rw (same_column w v, q) refl
    go (inr q) (inl h) r = cc
    go (inr q) (inr h) r = rw (same_column w v, q) (r h)

pub kind_in_step : (vs : List ℕ) (v : ℕ) → has vs v ≡ true → kind_under (step_schema vs) (column v) ≡ Some kind.Int
kind_in_step vs v e = rw (one_column v) (kind_of_variable vs v e)

pub name_fine : (alias c : Name) (s : Scope) (k : Kind) → s alias c ≡ Some k → check (sql.Name alias c) s ≡ Ok k
name_fine alias c s k e = check-Name alias c s ∙ ap (found NoColumn) e

-- ---- tests

pub equal_fine : (s : Scope) (l r : SqlExpr) → check l s ≡ Ok kind.Int → check r s ≡ Ok kind.Int → check (sql.Equal l r) s ≡ Ok kind.Truth
equal_fine s l r a b = check-Equal l r s ∙ ap₂ compared a b

pub null_fine : (s : Scope) (e : SqlExpr) (k : Kind) → check e s ≡ Ok k → check (sql.IsNull e) s ≡ Ok kind.Truth
null_fine s e k a = check-IsNull e s ∙ ap (λ (c : KindChecked). and_then c (λ k. Ok kind.Truth)) a

abbrev pub IsTest : Scope → SqlExpr → Type 0
IsTest s e = check e s ≡ Ok kind.Truth

pub tests_fine : (s : Scope) (es : List SqlExpr) → AllByRecursion (IsTest s) es → and_then (all_fine (map (λ e. check e s) es)) all_truths ≡ Ok kind.Truth
tests_fine s es all = then_fine (all_fine (map (λ e. check e s) es)) (map (λ (e : SqlExpr). kind.Truth) es) all_truths (fine es all) ∙ all_true es
  where
    each : (es : List SqlExpr) → list_all (same_kind kind.Truth) (map (λ (e : SqlExpr). kind.Truth) es) ≡ true
    each [] = refl
    each (e ∷ es) = each es

    fine : (es : List SqlExpr) → AllByRecursion (IsTest s) es → all_fine (map (λ e. check e s) es) ≡ Ok (map (λ (e : SqlExpr). kind.Truth) es)
    fine [] all = refl
    fine (e ∷ es) all = ap₂ (λ (c : KindChecked) (cs : Checked FaultKind (List Kind)). and_then c (λ x. and_then cs (λ xs. Ok (x ∷ xs)))) all.0 (fine es all.1)

    all_true : (es : List SqlExpr) → all_truths (map (λ (e : SqlExpr). kind.Truth) es) ≡ Ok kind.Truth
    all_true es = ap (λ (b : Bool). if b then Ok kind.Truth else Err NotTruth) (each es)

pub every_fine : (s : Scope) (es : List SqlExpr) → AllByRecursion (λ e. check e s ≡ Ok kind.Truth) es → check (every es) s ≡ Ok kind.Truth
every_fine s [] all = check-Truth true s
every_fine s (e ∷ []) all = all.0
every_fine s (e ∷ f ∷ es) all = check-All (e ∷ f ∷ es) s ∙ tests_fine s (e ∷ f ∷ es) all

pub each_made : (P : SqlExpr → Type 0) (f : ℕ → SqlExpr) (vs : List ℕ) → ((v : ℕ) → has vs v ≡ true → P (f v)) → AllByRecursion P (map f vs)
each_made P f [] h = tt
each_made P f (v ∷ vs) h = (h v (or_left _ _ (eq-eqb v v refl)), each_made P f vs (λ u e. h u (or_right _ _ e)))

pub shared_fine : (s : Scope) (certain : List ℕ) (v : ℕ) → check (cell_of left_alias v) s ≡ Ok kind.Int → check (cell_of right_alias v) s ≡ Ok kind.Int → check (shared_sql certain v) s ≡ Ok kind.Truth
shared_fine s certain v a b = go (cases_Bool (has certain v))
  where
    go : (has certain v ≡ true) ⊎ (has certain v ≡ false) → check (shared_sql certain v) s ≡ Ok kind.Truth
    go (inl e) = rw e (equal_fine s (cell_of left_alias v) (cell_of right_alias v) a b)
    go (inr e) = let l = cell_of left_alias v in let r = cell_of right_alias v in
        rw e (check-Any (sql.Equal l r ∷ sql.IsNull l ∷ sql.IsNull r ∷ []) s ∙ tests_fine s (sql.Equal l r ∷ sql.IsNull l ∷ sql.IsNull r ∷ []) (equal_fine s l r a b, (null_fine s l kind.Int a, (null_fine s r kind.Int b, tt))))

pub first_fine : (s : Scope) (l r : SqlExpr) → check l s ≡ Ok kind.Int → check r s ≡ Ok kind.Int → check (sql.First (l ∷ r ∷ [])) s ≡ Ok kind.Int
first_fine s l r a b = check-First (l ∷ r ∷ []) s ∙ ap₂ (λ (c d : KindChecked). and_then (all_fine (c ∷ d ∷ [])) one_kind) a b

-- ---- items

pub column_one : (v : ℕ) → bytes_eq (column v) one ≡ false
unfolding column
column_one v = refl

pub items_fine : (s : Scope) (f : ℕ → SqlExpr) (us : List ℕ) (names : List Name) → ((u : ℕ) → has us u ≡ true → check (f u) s ≡ Ok kind.Int) → Once us → ((u : ℕ) → has us u ≡ true → list_any (bytes_eq (column u)) names ≡ false) →
    check_items s names (map (variable_item f) us) ≡ Ok (map (λ v. int_column (column v)) us)
items_fine s f [] names ok o fresh = refl
items_fine s f (u ∷ us) names ok o fresh =
    let head : has (u ∷ us) u ≡ true = or_left _ _ (eq-eqb u u refl) in
    let mine : check (f u) s ≡ Ok kind.Int = ok u head in
    let new : list_any (bytes_eq (column u)) names ≡ false = fresh u head in
    let rest : check_items s (column u ∷ names) (map (variable_item f) us) ≡ Ok (map (λ v. int_column (column v)) us) =
    items_fine s f us (column u ∷ names) (λ w h. ok w (or_right _ _ h)) o.1
    (λ w h. or_from _ _ (same_column w u ∙ false_from_ne_true _ (λ q. both_ways _ o.0 (subst (λ x. has us x ≡ true) (eqb-true w u q) h))) (fresh w (or_right _ _ h))) in
    rw (mine, new, rest) refl

pub step_items : (s : Scope) (f : ℕ → SqlExpr) (us : List ℕ) → ((u : ℕ) → has us u ≡ true → check (f u) s ≡ Ok kind.Int) → Once us → check_items s [] (one_item ∷ map (variable_item f) us) ≡ Ok (step_schema us)
step_items s f us ok o =
    let rest : check_items s (one ∷ []) (map (variable_item f) us) ≡ Ok (map (λ v. int_column (column v)) us) = items_fine s f us (one ∷ []) ok o (λ u h. or_from _ _ (column_one u) refl) in
    rw (check-Int (pos 1) s, rest) refl

-- ---- the join

pub join_fine : (schemas : Schemas) (left : Bool) (a b : Name) (vs ws certain : List ℕ) → schemas a ≡ Some (step_schema vs) → schemas b ≡ Some (step_schema ws) → Once vs → Once ws →
    check_select schemas None (join_core left a b vs ws certain) ≡ Ok (step_schema (both vs ws))
join_fine schemas left a b vs ws certain ha hb ov ow =
    let us = both vs ws in
    let on = every (map (shared_sql certain) (shared vs ws)) in
    let start : Seen = record { aliases = left_alias ∷ []; scope = scope_with left_alias (step_schema vs) (λ a c. None) } in
    let s : Scope = scope_with right_alias (step_schema ws) (scope_with left_alias (step_schema vs) (λ a c. None)) in
    let seen : Seen = record { aliases = right_alias ∷ left_alias ∷ []; scope = s } in
    let mine : (v : ℕ) → has vs v ≡ true → check (cell_of left_alias v) s ≡ Ok kind.Int = λ v h. name_fine left_alias (column v) s kind.Int (kind_in_step vs v h) in
    let its : (v : ℕ) → has ws v ≡ true → check (cell_of right_alias v) s ≡ Ok kind.Int = λ v h. name_fine right_alias (column v) s kind.Int (kind_in_step ws v h) in
    let test : check on s ≡ Ok kind.Truth = every_fine s (map (shared_sql certain) (shared vs ws))
    (each_made (λ e. check e s ≡ Ok kind.Truth) (shared_sql certain) (shared vs ws) (λ v h. let p = in_filter (has vs) ws v h in shared_fine s certain v (mine v p.1) (its v p.0))) in
    let from : check_from schemas (Some (record { table = a; alias = left_alias })) ≡ Ok start = rw ha refl in
    let j : JoinTo = record { left = left; source = record { table = b; alias = right_alias }; on = on } in
    let source : check_source schemas j.source start ≡ Ok seen = rw hb refl in
    let truth : check_truth on s ≡ Ok kind.Truth = then_fine (check on s) kind.Truth (λ k. all_truths (k ∷ [])) test in
    let join : check_join schemas j start ≡ Ok seen =
    then_fine (check_source schemas j.source start) seen (λ more. and_then (check_truth on more.scope) (λ k. Ok more)) source
    ∙ then_fine (check_truth on s) kind.Truth (λ k. Ok seen) truth in
    let items : check_items s [] (one_item ∷ map (variable_item (merged_sql vs ws)) us) ≡ Ok (step_schema us) =
    step_items s (merged_sql vs ws) us (λ u h. merged s mine its u (of_both vs ws u h)) (once-both vs ws ov ow) in
    rw from (rw join (rw items refl))
  where
    merged : (s : Scope) → ((v : ℕ) → has vs v ≡ true → check (cell_of left_alias v) s ≡ Ok kind.Int) → ((v : ℕ) → has ws v ≡ true → check (cell_of right_alias v) s ≡ Ok kind.Int) →
        (u : ℕ) → (has vs u ≡ true) ⊎ (has ws u ≡ true) → check (merged_sql vs ws u) s ≡ Ok kind.Int
    merged s mine its u h = go (cases_Bool (has vs u)) (cases_Bool (has ws u)) h
      where
        go : (has vs u ≡ true) ⊎ (has vs u ≡ false) → (has ws u ≡ true) ⊎ (has ws u ≡ false) → (has vs u ≡ true) ⊎ (has ws u ≡ true) → check (merged_sql vs ws u) s ≡ Ok kind.Int
        go (inl x) (inl y) h = rw (x, y) (first_fine s (cell_of left_alias u) (cell_of right_alias u) (mine u x) (its u y))
        go (inl x) (inr y) h = rw (x, y) (mine u x)
        go (inr x) (inl y) h = rw x (its u y)
        go (inr x) (inr y) (inl h) = absurd (both_ways _ x h)
        go (inr x) (inr y) (inr h) = absurd (both_ways _ y h)

-- ---- the union

pub schemas_same : (us : List ℕ) → same_columns (map (λ v. int_column (column v)) us) (map (λ v. int_column (column v)) us) ≡ true
schemas_same [] = refl
schemas_same (u ∷ us) = rw ((bytes_eq-Decides (column u) (column u)).1 refl) (schemas_same us)

pub own_fine : (s : Scope) (vs : List ℕ) → ((v : ℕ) → has vs v ≡ true → check (cell_of left_alias v) s ≡ Ok kind.Int) → (u : ℕ) → check (own_sql vs u) s ≡ Ok kind.Int
own_fine s vs mine u = go (cases_Bool (has vs u))
  where
    go : (has vs u ≡ true) ⊎ (has vs u ≡ false) → check (own_sql vs u) s ≡ Ok kind.Int
    go (inl e) = rw e (mine u e)
    go (inr e) = rw e (check-Null kind.Int s)

pub project_fine : (schemas : Schemas) (first : Option (List Column)) (a : Name) (vs us : List ℕ) → schemas a ≡ Some (step_schema vs) → Once us → check_like first (step_schema us) ≡ Ok (step_schema us) → check_select schemas first (project_core a vs us) ≡ Ok (step_schema us)
project_fine schemas first a vs us ha o like =
    let s : Scope = scope_with left_alias (step_schema vs) (λ a c. None) in
    let start : Seen = record { aliases = left_alias ∷ []; scope = s } in
    let from : check_from schemas (Some (record { table = a; alias = left_alias })) ≡ Ok start = rw ha refl in
    let items : check_items s [] (one_item ∷ map (variable_item (own_sql vs)) us) ≡ Ok (step_schema us) =
    step_items s (own_sql vs) us (λ u h. own_fine s vs (λ v k. name_fine left_alias (column v) s kind.Int (kind_in_step vs v k)) u) o in
    rw from (rw items (rw like refl))

pub union_fine : (schemas : Schemas) (n : ℕ) (a b : Name) (vs ws : List ℕ) → schemas a ≡ Some (step_schema vs) → schemas b ≡ Some (step_schema ws) → Once vs → Once ws →
    check_body schemas n (union_body a b vs ws).cores ≡ Ok (step_schema (both vs ws))
union_fine schemas n a b vs ws ha hb ov ow =
    let us = both vs ws in
    let o = once-both vs ws ov ow in
    let first : in_select n (check_select schemas None (project_core a vs us)) ≡ Ok (step_schema us) = ap (in_select n) (project_fine schemas None a vs us ha o refl) in
    let like : check_like (Some (step_schema us)) (step_schema us) ≡ Ok (step_schema us) = rw (schemas_same us) refl in
    let second : in_select (n + 1) (check_select schemas (Some (step_schema us)) (project_core b ws us)) ≡ Ok (step_schema us) = ap (in_select (n + 1)) (project_fine schemas (Some (step_schema us)) b ws us hb o like) in
    then_fine (in_select n (check_select schemas None (project_core a vs us))) (step_schema us) (λ first. check_others schemas (n + 1) first (project_core b ws us ∷ [])) first
    ∙ then_fine (in_select (n + 1) (check_select schemas (Some (step_schema us)) (project_core b ws us))) (step_schema us) (λ _. Ok (step_schema us)) second
