-- A LEFT JOIN with the terms for each of several variables.
use Rattle.std.proofs.Common.{◌≡◌, ℕ, ◌+◌, ◌/◌, ◌%◌, ◌⊎◌, Bool, true, false, List, [], ◌∷◌, map, Option, Some, None, sym, refl, ap, ap₂, ◌∙◌, arith, eqb, inl, inr, ◌==◌, bytes_eq}
use Rattle.std.proofs.lemmas.Bool.{eq-eqb, eqb-true, ne_eqb, cases_Bool, cases_eq, and_parts, or_cases, false_from_ne_true}
use Rattle.std.specs.List.{flat_map, AllByRecursion}
use Rattle.query_eval_meaning.specs.Mapping.{Mapping}
use Rattle.rdf_meaning.specs.Terms.{RdfTerm}
use Rattle.bags.specs.Bag.{total, SameBag}
use Rattle.bags.specs.BagLaws.{total-map, total-flat_map, total-each, each-weaker}
use Rattle.table_meaning.specs.declared.cell.Cell.{Cell}
use Rattle.table_meaning.specs.declared.cell.Cell.TheVariants.{Null, Int, Text, Truth}
use Rattle.sql_meaning.specs.declared.expression.SqlExpr.{SqlExpr}
use Rattle.sql_meaning.specs.declared.expression.SqlExpr.TheVariants as sql
use Rattle.sql_rows_meaning.specs.Cells.{equal_cells}
use Rattle.sql_rows_meaning.specs.Values.{Sight, value_of, is_true, and_cells}
use Rattle.sql_rows_meaning.specs.Tables.{Relations, cell_under}
use Rattle.sql_rows_meaning.specs.Sources.{with_row, nothing_in_sight, joined_to, all_joined}
use Rattle.sql_rows_meaning.specs.ValueLaws.{value_of-Name, value_of-Null, value_of-Truth, value_of-Equal, value_of-All}
use Rattle.sql_gen_step_laws.specs.Carried.{Name, column, one, Ids, id_cell, carry, columns_of, Over, Carries}
use Rattle.sql_gen_step_laws.specs.StepSelects.{left_alias, right_alias, cell_of, has, own_sql}
use Rattle.sql_gen_step_laws.specs.Lookups.{cell_under_carry}
use Rattle.sql_gen_step_laws.specs.UnionStep.{lone_env}
use Rattle.sql_gen_term_laws.specs.TermTable.{id_name, class_name, number_name, text_name, aux_name, term_columns, HasTerms, number_test, no_test, own_test, term_join, term_row, term_alias, term_joins, with_terms, class_cell, number_cell, text_cell, aux_cell, Shows}
use Rattle.sql_gen_term_laws.specs.TermJoin.{own_cell, equal-null, has_term_of, total-term}
use Rattle.table_meaning.specs.declared.kind.Kind.TheVariants as kind

same_digits : (w v : ℕ) → 48 + w / 10 ≡ 48 + v / 10 → 48 + w % 10 ≡ 48 + v % 10 → w ≡ v
same_digits w v d r = omega arith

pub same_alias : (w v : ℕ) → bytes_eq (term_alias w) (term_alias v) ≡ (w == v)
unfolding term_alias
same_alias w v = go (cases_eq w v)
  where
    go : (w ≡ v) ⊎ (w ≡ v → ⊥) → bytes_eq (term_alias w) (term_alias v) ≡ (w == v)
    go (inl e) = rw (e, eq-eqb (48 + v / 10) (48 + v / 10) refl, eq-eqb (48 + v % 10) (48 + v % 10) refl, eq-eqb v v refl) refl
    go (inr ne) = false_from_ne_true _ (λ t.
        let p = and_parts (eqb (48 + w / 10) (48 + v / 10)) _ t in
        let q = and_parts (eqb (48 + w % 10) (48 + v % 10)) true p.1 in
        ne (same_digits w v (eqb-true _ _ p.0) (eqb-true _ _ q.0))) ∙ sym (ne_eqb w v ne)

left_other : (v : ℕ) → bytes_eq left_alias (term_alias v) ≡ false
unfolding term_alias
left_other v = refl

right_other : (v : ℕ) → bytes_eq right_alias (term_alias v) ≡ false
unfolding term_alias
right_other v = refl

-- both sides of a join stay in sight
pub record Keeps (env env' : Sight) : Type 0 where
  pub left : (c : Name) → env' left_alias c ≡ env left_alias c
  pub right : (c : Name) → env' right_alias c ≡ env right_alias c

pub keeps-self : (env : Sight) → Keeps env env
keeps-self env = record { left = λ c. refl; right = λ c. refl }

pub keeps-trans : (a b c : Sight) → Keeps a b → Keeps b c → Keeps a c
keeps-trans a b c p q = record { left = λ n. q.left n ∙ p.left n; right = λ n. q.right n ∙ p.right n }

pub keeps-term : (u : ℕ) (columns : List Name) (row : List Cell) (env : Sight) → Keeps env (with_row (term_alias u) columns row env)
keeps-term u columns row env = record { left = λ c. rw (left_other u) refl; right = λ c. rw (right_other u) refl }

pub keeps-terms : (ids : Ids) (us : List ℕ) (m : Mapping) (env : Sight) → Keeps env (with_terms ids us m env)
keeps-terms ids [] m env = keeps-self env
keeps-terms ids (u ∷ us) m env =
    let next : Sight = with_row (term_alias u) term_columns (term_row ids (m u)) env in
    keeps-trans env next (with_terms ids us m next) (keeps-term u term_columns (term_row ids (m u)) env) (keeps-terms ids us m next)

-- the test finds the row of each variable's term, as long as both sides stay in sight
pub record Finds (test : ℕ → SqlExpr) (ids : Ids) (known : RdfTerm → Bool) (m : Mapping) (env : Sight) : Type 0 where
  pub finds : (env' : Sight) → Keeps env env' → (u : ℕ) (row : List Cell) → is_true (value_of (test u) (with_row (term_alias u) term_columns row env')) ≡ has_term_of ids (m u) row
  pub knows_terms : (u : ℕ) (t : RdfTerm) → m u ≡ Some t → known t ≡ true

-- an expression that gives the number of a variable's term finds it
pub number-finds : (ids : Ids) (m : Mapping) (f : ℕ → SqlExpr) (u : ℕ) (row : List Cell) (env : Sight) →
    value_of (f u) (with_row (term_alias u) term_columns row env) ≡ id_cell ids (m u) → is_true (value_of (number_test f u) (with_row (term_alias u) term_columns row env)) ≡ has_term_of ids (m u) row
number-finds ids m f u row env is =
    let next : Sight = with_row (term_alias u) term_columns row env in
    ap is_true (value_of-Equal (sql.Name (term_alias u) id_name) (f u) next
    ∙ ap₂ equal_cells (value_of-Name (term_alias u) id_name next ∙ own_cell (term_alias u) term_columns row env id_name) is)

pub terms-chain : {X : Type 0} (M : X → Mapping) (relations : Relations) (terms : Name) (ids : Ids) (known : RdfTerm → Bool) → HasTerms ids known (relations terms) → (test : ℕ → SqlExpr) (us : List ℕ) (xs : List X) (envs : List Sight) (E : X → Sight) →
    AllByRecursion (λ x. Finds test ids known (M x) (E x)) xs → SameBag envs (map E xs) →
    SameBag (all_joined relations (term_joins terms test us) envs) (map (λ x. with_terms ids us (M x) (E x)) xs)
terms-chain M relations terms ids known st test [] xs envs E all s = s
terms-chain {X} M relations terms ids known st test (u ∷ us) xs envs E all s =
    let j = term_join terms (term_alias u) (test u) in
    let E' : X → Sight = λ x. with_row (term_alias u) term_columns (term_row ids (M x u)) (E x) in
    terms-chain M relations terms ids known st test us xs (flat_map (joined_to relations j) envs) E'
    (each-weaker (λ x. Finds test ids known (M x) (E x)) (λ x. Finds test ids known (M x) (E' x))
    (λ x p. record {
      finds = λ env' k. p.finds env' (keeps-trans (E x) (E' x) env' (keeps-term u term_columns (term_row ids (M x u)) (E x)) k);
      knows_terms = p.knows_terms;
    }) xs all)
    (record {
      totals = λ g.
          total-flat_map g (joined_to relations j) envs
          ∙ s.totals (λ e. total g (joined_to relations j e))
          ∙ total-map (λ e. total g (joined_to relations j e)) E xs
          ∙ total-each _ _ (λ x. Finds test ids known (M x) (E x))
          (λ x p. total-term relations terms (term_alias u) ids known st (test u) (M x u) (p.knows_terms u) (E x) (p.finds (E x) (keeps-self (E x)) u) g) xs all
          ∙ sym (total-map g E' xs);
    })

-- ---- what is in sight

abbrev pub ShowsAt : Ids → Mapping → ℕ → Sight → Type 0
ShowsAt ids m u env = (c : Name) → env (term_alias u) c ≡ cell_under term_columns (term_row ids (m u)) c

pub in_sight : (ids : Ids) (us : List ℕ) (m : Mapping) (env : Sight) (u : ℕ) → (has us u ≡ true) ⊎ ShowsAt ids m u env → ShowsAt ids m u (with_terms ids us m env)
in_sight ids [] m env u (inl e) = cc
in_sight ids [] m env u (inr h) = h
in_sight ids (w ∷ us) m env u h = in_sight ids us m next u (go (cases_Bool (u == w)) h)
  where
    next : Sight
    next = with_row (term_alias w) term_columns (term_row ids (m w)) env

    go : ((u == w) ≡ true) ⊎ ((u == w) ≡ false) → (has (w ∷ us) u ≡ true) ⊎ ShowsAt ids m u env → (has us u ≡ true) ⊎ ShowsAt ids m u (with_row (term_alias w) term_columns (term_row ids (m w)) env)
    go (inl e) h = let same : u ≡ w = eqb-true u w e in inr (λ c. rw (same_alias u w, e) (ap (λ v. cell_under term_columns (term_row ids (m v)) c) (sym same)))
    go (inr e) (inl h) = inl (elim (or_cases (w == u) (has us u) h) [ inl k ↦ (let same : w ≡ u = eqb-true w u k in let yes : (u == w) ≡ true = eq-eqb u w (sym same) in cc) | inr k ↦ k ])
    go (inr e) (inr h) = inr (λ c. rw (same_alias u w, e) (h c))

class_at : (ids : Ids) (o : Option RdfTerm) → cell_under term_columns (term_row ids o) class_name ≡ class_cell o
class_at ids None = refl
class_at ids (Some t) = refl

number_at : (ids : Ids) (o : Option RdfTerm) → cell_under term_columns (term_row ids o) number_name ≡ number_cell o
number_at ids None = refl
number_at ids (Some t) = refl

text_at : (ids : Ids) (o : Option RdfTerm) → cell_under term_columns (term_row ids o) text_name ≡ text_cell o
text_at ids None = refl
text_at ids (Some t) = refl

aux_at : (ids : Ids) (o : Option RdfTerm) → cell_under term_columns (term_row ids o) aux_name ≡ aux_cell o
aux_at ids None = refl
aux_at ids (Some t) = refl

pub shows_terms : (ids : Ids) (us : List ℕ) (m : Mapping) (env : Sight) → Shows us m (with_terms ids us m env)
shows_terms ids us m env = record {
  class = λ u h. in_sight ids us m env u (inl h) class_name ∙ class_at ids (m u);
  number = λ u h. in_sight ids us m env u (inl h) number_name ∙ number_at ids (m u);
  text = λ u h. in_sight ids us m env u (inl h) text_name ∙ text_at ids (m u);
  aux = λ u h. in_sight ids us m env u (inl h) aux_name ∙ aux_at ids (m u);
}

-- ---- one step in sight

pub own_seen : (ids : Ids) (known : RdfTerm → Bool) (vs : List ℕ) (m : Mapping) → Over vs known m → (env : Sight) → Keeps (lone_env ids vs m) env → (v : ℕ) → value_of (own_sql vs v) env ≡ id_cell ids (m v)
own_seen ids known vs m f env k v = go (cases_Bool (has vs v))
  where
    go : (has vs v ≡ true) ⊎ (has vs v ≡ false) → value_of (own_sql vs v) env ≡ id_cell ids (m v)
    go (inl e) = rw e (value_of-Name left_alias (column v) env ∙ k.left (column v) ∙ cell_under_carry ids known vs m v f)
    go (inr e) = rw (e, f.bound v e) (value_of-Null kind.Int env)

-- a test that is never true finds the row of no term
pub no-finds : (ids : Ids) (u : ℕ) (row : List Cell) (env : Sight) → is_true (value_of (no_test u) env) ≡ has_term_of ids None row
no-finds ids u row env =
    let on = number_test (λ v. sql.Name left_alias one) u in
    ap is_true (value_of-All (on ∷ sql.Truth false ∷ []) env) ∙ ap (λ (c : Cell). is_true (and_cells (value_of on env) (and_cells c (Truth true)))) (value_of-Truth false env)
    ∙ never (value_of on env) ∙ sym (ap is_true (equal-null (cell_under term_columns row id_name)))
  where
    never : (c : Cell) → is_true (and_cells c (Truth false)) ≡ false
    never (Truth true) = refl
    never (Truth false) = refl
    never Null = refl
    never (Int n) = refl
    never (Text t) = refl

-- the row of a variable's number, and none where the row has no column for it
pub own-finds : (ids : Ids) (known : RdfTerm → Bool) (vs : List ℕ) (m : Mapping) → Over vs known m → (env : Sight) → Keeps (lone_env ids vs m) env → (u : ℕ) (row : List Cell) →
    is_true (value_of (own_test vs u) (with_row (term_alias u) term_columns row env)) ≡ has_term_of ids (m u) row
own-finds ids known vs m f env k u row = go (cases_Bool (has vs u))
  where
    next : Sight
    next = with_row (term_alias u) term_columns row env

    still : Keeps (lone_env ids vs m) next
    still = keeps-trans (lone_env ids vs m) env next k (keeps-term u term_columns row env)

    go : (has vs u ≡ true) ⊎ (has vs u ≡ false) → is_true (value_of (own_test vs u) next) ≡ has_term_of ids (m u) row
    go (inl e) = rw e (number-finds ids m (cell_of left_alias) u row env (value_of-Name left_alias (column u) next ∙ still.left (column u) ∙ cell_under_carry ids known vs m u f))
    go (inr e) = rw (e, f.bound u e) (no-finds ids u row next)

pub finds_own : (ids : Ids) (known : RdfTerm → Bool) (vs : List ℕ) (m : Mapping) → Over vs known m → Finds (own_test vs) ids known m (lone_env ids vs m)
finds_own ids known vs m f = record { finds = own-finds ids known vs m f; knows_terms = f.known_terms }

pub lone_bag : (ids : Ids) (known : RdfTerm → Bool) (relations : Relations) (a : Name) (vs : List ℕ) (ms : List Mapping) → Carries ids known vs ms (relations a) →
    SameBag (map (λ row. with_row left_alias (relations a).columns row nothing_in_sight) (relations a).rows) (map (lone_env ids vs) ms)
lone_bag ids known relations a vs ms c = record {
  totals = λ g.
      total-map g (λ row. with_row left_alias (relations a).columns row nothing_in_sight) (relations a).rows
      ∙ ap (λ (k : List Name). total (λ row. g (with_row left_alias k row nothing_in_sight)) (relations a).rows) c.columns
      ∙ c.rows.totals (λ row. g (with_row left_alias (columns_of vs) row nothing_in_sight))
      ∙ total-map (λ row. g (with_row left_alias (columns_of vs) row nothing_in_sight)) (carry ids vs) ms
      ∙ sym (total-map g (lone_env ids vs) ms);
}

-- the terms of a step's variables beside each of its rows
pub own_terms : (ids : Ids) (known : RdfTerm → Bool) (relations : Relations) (a terms : Name) → HasTerms ids known (relations terms) → (vs us : List ℕ) (ms : List Mapping) → Carries ids known vs ms (relations a) →
    SameBag (all_joined relations (term_joins terms (own_test vs) us) (map (λ row. with_row left_alias (relations a).columns row nothing_in_sight) (relations a).rows)) (map (λ m. with_terms ids us m (lone_env ids vs m)) ms)
own_terms ids known relations a terms st vs us ms c =
    terms-chain (λ (m : Mapping). m) relations terms ids known st (own_test vs) us ms (map (λ row. with_row left_alias (relations a).columns row nothing_in_sight) (relations a).rows) (lone_env ids vs)
    (each-weaker (Over vs known) (λ m. Finds (own_test vs) ids known m (lone_env ids vs m)) (finds_own ids known vs) ms c.fits)
    (lone_bag ids known relations a vs ms c)
