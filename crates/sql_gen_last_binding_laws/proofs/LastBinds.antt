-- The last SELECT binds, with three columns for each shown variable, and so does the step of DISTINCT before it.
use Rattle.std.specs.Prelude.{◌≡◌, ◌⊎◌, ℕ, ◌+◌, ◌^◌, ◌<◌, ◌≤◌, true, false, ◌||◌, ◌==◌, List, [], ◌∷◌, ◌++◌, map, length, Some, None, Ok, pos, codes, refl}
use Rattle.std.proofs.Common.{subst, inl, inr, arith, bytes_eq}
use Rattle.std.proofs.lemmas.Bool.{cases_Bool, eq-eqb, eqb-true, or_cases, or_from, or_left, or_right, false_from_ne_true, both_ways}
use Rattle.std.proofs.lemmas.Fmt.{decimal_injective}
use Rattle.std.proofs.lemmas.Slice.Eq.{bytes_eq-Decides}
use Rattle.std.specs.Fmt.{decimal}
use Rattle.std.specs.List.{list_any, flat_map, AllByRecursion}
use Rattle.table_meaning.specs.declared.kind.Kind.TheVariants as kind
use Rattle.query_meaning.specs.declared.modifiers.Key.{Key}
use Rattle.query_meaning.specs.declared.modifiers.Modifiers.{Modifiers}
use Rattle.sql_meaning.specs.declared.expression.SqlExpr.TheVariants as sql
use Rattle.sql_rows_meaning.specs.Scopes.{Scope, Schemas, Seen}
use Rattle.sql_rows_meaning.specs.Checks.{check}
use Rattle.sql_rows_meaning.specs.CheckLaws.{check-Int}
use Rattle.sql_rows_meaning.specs.Binding.{check_from, check_joins, check_items, check_keys, check_select}
use Rattle.sql_gen_answer_meaning.specs.Columns.{place_columns, answer_columns}
use Rattle.sql_gen_step_laws.specs.Carried.{Name, column, one}
use Rattle.sql_gen_step_laws.specs.StepSelects.{has, left_alias, own_sql, one_item, variable_item}
use Rattle.sql_gen_term_laws.specs.TermTable.{class_name, number_name, text_name, aux_name, own_test, term_alias, term_joins}
use Rattle.sql_gen_last_laws.specs.LastSelect.{once, class_key, four_keys, shown_items, keys_of, variables_of_keys, last_core}
use Rattle.sql_gen_last_laws.specs.DistinctSelect.{distinct_core}
use Rattle.sql_gen_last_laws.proofs.LastRows.{rising, all_in_sight, shown-in-sight}
use Rattle.sql_gen_binding_laws.specs.StepColumns.{step_schema, Once, term_schema, TermsSeen, scope_with}
use Rattle.sql_gen_binding_laws.specs.StepBinds.{name_fine, first_fine, own_fine, kind_in_step, step_items}
use Rattle.sql_gen_binding_laws.specs.TermBinds.{terms_seen, terms_in_scope, term_joins_fine, other_left, own_tests}

-- ---- the keys

pub once-once : (vs : List ℕ) → Once (once vs)
once-once [] = tt
once-once (v ∷ vs) = go (cases_Bool (has vs v)) (once-once vs)
  where
    go : (has vs v ≡ true) ⊎ (has vs v ≡ false) → Once (once vs) → Once (once (v ∷ vs))
    go (inl e) r = rw e r
    go (inr e) r = rw e (false_from_ne_true _ (λ h. both_ways _ e (of_once vs v h)), r)
      where
        of_once : (vs : List ℕ) (v : ℕ) → has (once vs) v ≡ true → has vs v ≡ true
        of_once [] v e = cc
        of_once (w ∷ vs) v e = more w vs v e (cases_Bool (has vs w)) (of_once vs v)
          where
            more : (w : ℕ) (vs : List ℕ) (v : ℕ) → has (once (w ∷ vs)) v ≡ true → (has vs w ≡ true) ⊎ (has vs w ≡ false) → (has (once vs) v ≡ true → has vs v ≡ true) → has (w ∷ vs) v ≡ true
            more w vs v e (inl h) r = let k : has (once vs) v ≡ true = rw h at e in or_right _ _ (r k)
            more w vs v e (inr h) r = let k : ((w == v) || has (once vs) v) ≡ true = rw h at e in elim (or_cases (w == v) (has (once vs) v) k) [ inl q ↦ or_left _ _ q | inr q ↦ or_right _ _ (r q) ]

pub keys_fine : (certain us : List ℕ) (ks : List Key) (s : Scope) → TermsSeen us s → AllByRecursion (λ (k : Key). has us k.var ≡ true) ks → check_keys s (flat_map (four_keys certain) ks) ≡ Ok kind.Truth
keys_fine certain us [] s seen all = refl
keys_fine certain us (k ∷ ks) s seen all =
    let a = term_alias k.var in
    let name : check (sql.Name a class_name) s ≡ Ok kind.Int = name_fine a class_name s kind.Int (seen k.var all.0 class_name) in
    let c : check (class_key certain k.var) s ≡ Ok kind.Int = class_fine certain k.var s name in
    let n : check (sql.Name a number_name) s ≡ Ok kind.Int = name_fine a number_name s kind.Int (seen k.var all.0 number_name) in
    let t : check (sql.Name a text_name) s ≡ Ok kind.Text = name_fine a text_name s kind.Text (seen k.var all.0 text_name) in
    let x : check (sql.Name a aux_name) s ≡ Ok kind.Text = name_fine a aux_name s kind.Text (seen k.var all.0 aux_name) in
    rw c (rw n (rw t (rw x (keys_fine certain us ks s seen all.1))))
  where
    class_fine : (certain : List ℕ) (v : ℕ) (s : Scope) → check (sql.Name (term_alias v) class_name) s ≡ Ok kind.Int → check (class_key certain v) s ≡ Ok kind.Int
    class_fine certain v s name = go (cases_Bool (has certain v))
      where
        go : (has certain v ≡ true) ⊎ (has certain v ≡ false) → check (class_key certain v) s ≡ Ok kind.Int
        go (inl e) = rw e name
        go (inr e) = rw e (first_fine s (sql.Name (term_alias v) class_name) (sql.Int (pos 0)) name (check-Int (pos 0) s))

-- ---- names by the place

abbrev class_at : ℕ → Name
class_at n = codes "c" ++ decimal n

abbrev text_at : ℕ → Name
text_at n = codes "t" ++ decimal n

abbrev aux_at : ℕ → Name
aux_at n = codes "a" ++ decimal n

-- other places have other numbers
other-number : (m n : ℕ) → n < m → m < 2 ^ 64 → bytes_eq (decimal m) (decimal n) ≡ false
other-number m n l b = false_from_ne_true _ (λ e.
    let same : m ≡ n = decimal_injective m n b (omega arith) ((bytes_eq-Decides (decimal m) (decimal n)).0 e) in absurd (omega arith))

-- the names of this place and of later ones are new
record Fresh (names : List Name) (at : ℕ) : Type 0 where
  class : (n : ℕ) → at ≤ n → n < 2 ^ 64 → list_any (bytes_eq (class_at n)) names ≡ false
  text : (n : ℕ) → at ≤ n → n < 2 ^ 64 → list_any (bytes_eq (text_at n)) names ≡ false
  aux : (n : ℕ) → at ≤ n → n < 2 ^ 64 → list_any (bytes_eq (aux_at n)) names ≡ false

more-names : (names : List Name) (at : ℕ) → Fresh names at → Fresh (aux_at at ∷ text_at at ∷ class_at at ∷ names) (at + 1)
more-names names at f = record {
  class = λ n l b. or_from _ _ refl (or_from _ _ refl (or_from _ _ (other-number n at (omega arith) b) (f.class n (omega arith) b)));
  text = λ n l b. or_from _ _ refl (or_from _ _ (other-number n at (omega arith) b) (or_from _ _ refl (f.text n (omega arith) b)));
  aux = λ n l b. or_from _ _ (other-number n at (omega arith) b) (or_from _ _ refl (or_from _ _ refl (f.aux n (omega arith) b)));
}

shown-fine : (s : Scope) (us : List ℕ) (at : ℕ) (shown : List ℕ) (names : List Name) → TermsSeen us s → at + length shown < 2 ^ 64 → ((v : ℕ) → has shown v ≡ true → has us v ≡ true) → Fresh names at →
    check_items s names (shown_items at shown) ≡ Ok (place_columns at (length shown))
shown-fine s us at [] names seen l own f = refl
shown-fine s us at (v ∷ shown) names seen l own f =
    let head : has (v ∷ shown) v ≡ true = or_left _ _ (eq-eqb v v refl) in
    let below : at < 2 ^ 64 = omega arith in
    let a = term_alias v in
    let c : check (sql.Name a class_name) s ≡ Ok kind.Int = name_fine a class_name s kind.Int (seen v (own v head) class_name) in
    let t : check (sql.Name a text_name) s ≡ Ok kind.Text = name_fine a text_name s kind.Text (seen v (own v head) text_name) in
    let x : check (sql.Name a aux_name) s ≡ Ok kind.Text = name_fine a aux_name s kind.Text (seen v (own v head) aux_name) in
    let new_c : list_any (bytes_eq (class_at at)) names ≡ false = f.class at (omega arith) below in
    let new_t : list_any (bytes_eq (text_at at)) (class_at at ∷ names) ≡ false = or_from _ _ refl (f.text at (omega arith) below) in
    let new_x : list_any (bytes_eq (aux_at at)) (text_at at ∷ class_at at ∷ names) ≡ false = or_from _ _ refl (or_from _ _ refl (f.aux at (omega arith) below)) in
    let rest : check_items s (aux_at at ∷ text_at at ∷ class_at at ∷ names) (shown_items (at + 1) shown) ≡ Ok (place_columns (at + 1) (length shown)) =
    shown-fine s us (at + 1) shown (aux_at at ∷ text_at at ∷ class_at at ∷ names) seen (omega arith) (λ w h. own w (or_right _ _ h)) (more-names names at f) in
    rw c (rw new_c (rw t (rw new_t (rw x (rw new_x (rw rest refl))))))

-- the shown ones are among the keys
shown-in : (us shown : List ℕ) → AllByRecursion (λ (k : Key). has us k.var ≡ true) (map rising shown) → (v : ℕ) → has shown v ≡ true → has us v ≡ true
shown-in us [] all v h = cc
shown-in us (w ∷ shown) all v h = go (or_cases (w == v) (has shown v) h) (shown-in us shown all.1 v)
  where
    go : ((w == v) ≡ true) ⊎ (has shown v ≡ true) → (has shown v ≡ true → has us v ≡ true) → has us v ≡ true
    go (inl q) r = subst (λ x. has us x ≡ true) (eqb-true w v q) all.0
    go (inr q) r = r q

first-names : Fresh (one ∷ []) 1
first-names = record { class = λ n l b. refl; text = λ n l b. refl; aux = λ n l b. refl }

pub last-fine : (schemas : Schemas) (a terms : Name) (vs certain : List ℕ) (q : Modifiers) → schemas a ≡ Some (step_schema vs) → schemas terms ≡ Some term_schema → length q.shown < 2 ^ 32 →
    check_select schemas None (last_core a terms vs certain q) ≡ Ok (answer_columns (length q.shown))
last-fine schemas a terms vs certain q ha ht short =
    let ks = keys_of q in
    let us = once (variables_of_keys ks) in
    let none : Scope = λ a c. None in
    let start : Seen = record { aliases = left_alias ∷ []; scope = scope_with left_alias (step_schema vs) none } in
    let seen : Seen = terms_seen us start in
    let s : Scope = seen.scope in
    let from : check_from schemas (Some (record { table = a; alias = left_alias })) ≡ Ok start = rw ha refl in
    let joins : check_joins schemas (term_joins terms (own_test vs) us) start ≡ Ok seen =
    term_joins_fine schemas terms ht (own_test vs) us start (once-once (variables_of_keys ks)) (λ u h. or_from _ _ (other_left u) refl) (own_tests vs none) in
    let shown : check_items s (one ∷ []) (shown_items 1 q.shown) ≡ Ok (place_columns 1 (length q.shown)) =
    shown-fine s us 1 q.shown (one ∷ []) (terms_in_scope us start) (omega arith) (shown-in us q.shown (shown-in-sight q)) first-names in
    let items : check_items s [] (one_item ∷ shown_items 1 q.shown) ≡ Ok (answer_columns (length q.shown)) = rw (check-Int (pos 1) s, shown) refl in
    let keys : check_keys s (flat_map (four_keys certain) ks) ≡ Ok kind.Truth = keys_fine certain us ks s (terms_in_scope us start) (all_in_sight ks) in
    rw from (rw joins (rw items (rw keys refl)))

-- ---- the step of DISTINCT

pub distinct-fine : (schemas : Schemas) (a : Name) (vs us : List ℕ) → schemas a ≡ Some (step_schema vs) → Once us → check_select schemas None (distinct_core a vs us) ≡ Ok (step_schema us)
distinct-fine schemas a vs us ha o =
    let s : Scope = scope_with left_alias (step_schema vs) (λ a c. None) in
    let start : Seen = record { aliases = left_alias ∷ []; scope = s } in
    let from : check_from schemas (Some (record { table = a; alias = left_alias })) ≡ Ok start = rw ha refl in
    let items : check_items s [] (one_item ∷ map (variable_item (own_sql vs)) us) ≡ Ok (step_schema us) =
    step_items s (own_sql vs) us (λ u h. own_fine s vs (λ v k. name_fine left_alias (column v) s kind.Int (kind_in_step vs v k)) u) o in
    rw from (rw items refl)
