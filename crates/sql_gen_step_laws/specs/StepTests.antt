-- What the compiled tests and items mean.
use Rattle.std.proofs.Common.{◌≡◌, ℕ, zero, suc, ◌<◌, ◌⊎◌, Bool, true, false, ◌&&◌, List, [], ◌∷◌, map, Option, Some, None, sym, refl, ap, ap₂, ◌∙◌, subst, arith, inl, inr, ◌==◌, pos, is_some}
use Rattle.std.proofs.lemmas.Bool.{eqb-true, eq-eqb, and_parts, cases_Bool, and_from, both_ways, or_left, or_right, or_cases}
use Rattle.std.proofs.lemmas.Bool.Decides.{Decides-int_eq, Decides-eqb}
use Rattle.std.specs.Bool.{one_answer}
use Rattle.std.specs.Ordering.{int_eq}
use Rattle.std.specs.List.{list_all, AllByRecursion}
use Rattle.query_eval_meaning.specs.Mapping.{Mapping, agree, agree_below, width, compatible, either, merge}
use Rattle.rdf_meaning.specs.Terms.{RdfTerm}
use Rattle.query_algebra_laws.specs.MappingLaws.{agreed}
use Rattle.table_meaning.specs.declared.cell.Cell.{Cell}
use Rattle.table_meaning.specs.declared.cell.Cell.TheVariants.{Truth}
use Rattle.sql_meaning.specs.declared.expression.SqlExpr.{SqlExpr}
use Rattle.sql_rows_meaning.specs.Values.{Sight, value_of, is_true, and_cells, all_cells, or_cells, any_cells, first_cell}
use Rattle.sql_rows_meaning.specs.Cells.{is_null, equal_cells}
use Rattle.sql_rows_meaning.specs.Sources.{with_row, nothing_in_sight}
use Rattle.sql_rows_meaning.specs.ValueLaws.{value_of-Name, value_of-All, value_of-Any, value_of-Equal, value_of-IsNull, value_of-First, value_of-Truth}
use Rattle.sql_gen_step_laws.specs.Carried.{Name, column, Ids, id_cell, carry, columns_of, Over, Numbers, Binds}
use Rattle.sql_gen_step_laws.specs.Lookups.{cell_under_carry}
use Rattle.sql_gen_step_laws.specs.StepSelects.{left_alias, right_alias, cell_of, every, has, agree_sql, equal_sql, shared_sql, shared, merged_sql}
use Rattle.sql_meaning.specs.declared.expression.SqlExpr.TheVariants as sql

abbrev null_test : Cell → Cell
null_test c = Truth (is_null c)

-- both rows in sight
abbrev pub pair_env : List Name → List Name → List Cell → List Cell → Sight
pair_env left_columns right_columns left right = with_row right_alias right_columns right (with_row left_alias left_columns left nothing_in_sight)

abbrev pub carried_env : Ids → List ℕ → List ℕ → Mapping → Mapping → Sight
carried_env ids vs ws a b = pair_env (columns_of vs) (columns_of ws) (carry ids vs a) (carry ids ws b)

and_true : (c d : Cell) → is_true (and_cells c d) ≡ (is_true c && is_true d)
and_true (Truth false) d = refl
and_true (Truth true) d = refl
and_true _ (Truth false) = refl
and_true _ (Truth true) = refl
and_true _ _ = refl

all_true : (es : List SqlExpr) (env : Sight) → is_true (all_cells (map (λ e. value_of e env) es)) ≡ list_all (λ e. is_true (value_of e env)) es
all_true [] env = refl
all_true (e ∷ es) env = and_true (value_of e env) (all_cells (map (λ e. value_of e env) es)) ∙ ap (λ b. is_true (value_of e env) && b) (all_true es env)

and_true_right : (b : Bool) → b ≡ (b && true)
and_true_right true = refl
and_true_right false = refl

pub every_true : (es : List SqlExpr) (env : Sight) → is_true (value_of (every es) env) ≡ list_all (λ e. is_true (value_of e env)) es
every_true [] env = ap is_true (value_of-Truth true env)
every_true (e ∷ []) env = and_true_right _
every_true (e ∷ f ∷ es) env = ap is_true (value_of-All (e ∷ f ∷ es) env) ∙ all_true (e ∷ f ∷ es) env

pub value-left : (ids : Ids) (known : RdfTerm → Bool) (vs ws : List ℕ) (a b : Mapping) → Over vs known a → (v : ℕ) → value_of (cell_of left_alias v) (carried_env ids vs ws a b) ≡ id_cell ids (a v)
value-left ids known vs ws a b f v = value_of-Name left_alias (column v) (carried_env ids vs ws a b) ∙ cell_under_carry ids known vs a v f

pub value-right : (ids : Ids) (known : RdfTerm → Bool) (vs ws : List ℕ) (a b : Mapping) → Over ws known b → (v : ℕ) → value_of (cell_of right_alias v) (carried_env ids vs ws a b) ≡ id_cell ids (b v)
value-right ids known vs ws a b f v = value_of-Name right_alias (column v) (carried_env ids vs ws a b) ∙ cell_under_carry ids known ws b v f

pos-same : (m n : ℕ) → pos m ≡ pos n → m ≡ n
pos-same m n e = cc

-- numbers that are the same
pub same_number : (m n : ℕ) → int_eq (pos m) (pos n) ≡ (m == n)
same_number m n =
    one_answer {P = pos m ≡ pos n} (int_eq (pos m) (pos n)) (m == n) (Decides-int_eq (pos m) (pos n)) ((λ t. ap pos ((Decides-eqb m n).0 t)), (λ e. (Decides-eqb m n).1 (pos-same m n e)))

one_of_three : (b : Bool) → is_true (or_cells (Truth b) (Truth false)) ≡ b
one_of_three true = refl
one_of_three false = refl

agree_cells : (ids : Ids) (known : RdfTerm → Bool) → Numbers ids known → (x y : Option RdfTerm) → ((t : RdfTerm) → x ≡ Some t → known t ≡ true) → ((t : RdfTerm) → y ≡ Some t → known t ≡ true) →
    is_true (any_cells (equal_cells (id_cell ids x) (id_cell ids y) ∷ null_test (id_cell ids x) ∷ null_test (id_cell ids y) ∷ [])) ≡ agree x y
agree_cells ids known n (Some s) (Some t) p q = one_of_three (int_eq (pos (ids s)) (pos (ids t))) ∙ same_number (ids s) (ids t) ∙ n s t (p s refl) (q t refl)
agree_cells ids known n (Some s) None p q = refl
agree_cells ids known n None (Some t) p q = refl
agree_cells ids known n None None p q = refl

pub agree_true : (ids : Ids) (known : RdfTerm → Bool) → Numbers ids known → (vs ws : List ℕ) (a b : Mapping) → Over vs known a → Over ws known b → (v : ℕ) →
    is_true (value_of (agree_sql v) (carried_env ids vs ws a b)) ≡ agree (a v) (b v)
agree_true ids known n vs ws a b f g v =
    let env = carried_env ids vs ws a b in
    let l = cell_of left_alias v in
    let r = cell_of right_alias v in
    let cells : value_of (agree_sql v) env ≡ any_cells (equal_cells (value_of l env) (value_of r env) ∷ null_test (value_of l env) ∷ null_test (value_of r env) ∷ []) =
    value_of-Any (sql.Equal l r ∷ sql.IsNull l ∷ sql.IsNull r ∷ []) env ∙ rw (value_of-Equal l r env, value_of-IsNull l env, value_of-IsNull r env) refl in
    ap is_true (cells ∙ ap₂ (λ x y. any_cells (equal_cells x y ∷ null_test x ∷ null_test y ∷ [])) (value-left ids known vs ws a b f v) (value-right ids known vs ws a b g v))
    ∙ agree_cells ids known n (a v) (b v) (f.known_terms v) (g.known_terms v)

first_cells : (ids : Ids) (x y : Option RdfTerm) → first_cell (id_cell ids x ∷ id_cell ids y ∷ []) ≡ id_cell ids (either x y)
first_cells ids (Some s) y = refl
first_cells ids None (Some t) = refl
first_cells ids None None = refl

either_none : (x : Option RdfTerm) → x ≡ either x None
either_none (Some t) = refl
either_none None = refl

pub merged_value : (ids : Ids) (known : RdfTerm → Bool) (vs ws : List ℕ) (a b : Mapping) → Over vs known a → Over ws known b → (v : ℕ) →
    value_of (merged_sql vs ws v) (carried_env ids vs ws a b) ≡ id_cell ids (merge a b v)
merged_value ids known vs ws a b f g v = go (cases_Bool (has vs v)) (cases_Bool (has ws v))
  where
    go : (has vs v ≡ true) ⊎ (has vs v ≡ false) → (has ws v ≡ true) ⊎ (has ws v ≡ false) → value_of (merged_sql vs ws v) (carried_env ids vs ws a b) ≡ id_cell ids (merge a b v)
    go (inl e) (inl h) = rw (e, h) (value_of-First (cell_of left_alias v ∷ cell_of right_alias v ∷ []) (carried_env ids vs ws a b)
        ∙ ap₂ (λ x y. first_cell (x ∷ y ∷ [])) (value-left ids known vs ws a b f v) (value-right ids known vs ws a b g v) ∙ first_cells ids (a v) (b v))
    go (inl e) (inr h) = rw (e, h) (value-left ids known vs ws a b f v ∙ ap (id_cell ids) (either_none (a v) ∙ ap (either (a v)) (sym (g.bound v h))))
    go (inr e) h = rw e (value-right ids known vs ws a b g v ∙ ap (λ x. id_cell ids (either x (b v))) (sym (f.bound v e)))

-- a plain equality serves where both sides are bound
bound_cells : (ids : Ids) (known : RdfTerm → Bool) → Numbers ids known → (x y : Option RdfTerm) → ((t : RdfTerm) → x ≡ Some t → known t ≡ true) → ((t : RdfTerm) → y ≡ Some t → known t ≡ true) →
    is_some x ≡ true → is_some y ≡ true → is_true (equal_cells (id_cell ids x) (id_cell ids y)) ≡ agree x y
bound_cells ids known n (Some s) (Some t) p q e f = same_number (ids s) (ids t) ∙ n s t (p s refl) (q t refl)
bound_cells ids known n (Some s) None p q e f = cc
bound_cells ids known n None y p q e f = cc

pub equal_true : (ids : Ids) (known : RdfTerm → Bool) → Numbers ids known → (vs ws : List ℕ) (a b : Mapping) → Over vs known a → Over ws known b → (v : ℕ) →
    is_some (a v) ≡ true → is_some (b v) ≡ true → is_true (value_of (equal_sql v) (carried_env ids vs ws a b)) ≡ agree (a v) (b v)
equal_true ids known n vs ws a b f g v e h =
    ap is_true (value_of-Equal (cell_of left_alias v) (cell_of right_alias v) (carried_env ids vs ws a b)
    ∙ ap₂ equal_cells (value-left ids known vs ws a b f v) (value-right ids known vs ws a b g v))
    ∙ bound_cells ids known n (a v) (b v) (f.known_terms v) (g.known_terms v) e h

pub shared_true : (ids : Ids) (known : RdfTerm → Bool) → Numbers ids known → (certain vs ws : List ℕ) (a b : Mapping) → Over vs known a → Over ws known b → Binds certain a → Binds certain b → (v : ℕ) →
    is_true (value_of (shared_sql certain v) (carried_env ids vs ws a b)) ≡ agree (a v) (b v)
shared_true ids known n certain vs ws a b f g p q v = go (cases_Bool (has certain v))
  where
    go : (has certain v ≡ true) ⊎ (has certain v ≡ false) → is_true (value_of (shared_sql certain v) (carried_env ids vs ws a b)) ≡ agree (a v) (b v)
    go (inl e) = rw e (equal_true ids known n vs ws a b f g v (p v e) (q v e))
    go (inr e) = rw e (agree_true ids known n vs ws a b f g v)

-- ---- the shared variables decide

pub same_bools : (x y : Bool) → (x ≡ true → y ≡ true) → (y ≡ true → x ≡ true) → x ≡ y
same_bools true true f g = refl
same_bools false false f g = refl
same_bools true false f g = sym (f refl)
same_bools false true f g = g refl

agree_below_from : (n : ℕ) (a b : Mapping) → ((v : ℕ) → v < n → agree (a v) (b v) ≡ true) → agree_below n a b ≡ true
agree_below_from zero a b f = refl
agree_below_from (suc n) a b f = and_from _ _ (f n (omega arith)) (agree_below_from n a b (λ v l. f v (omega arith)))

all_from : (p : ℕ → Bool) (vs ws : List ℕ) → ((v : ℕ) → has vs v ≡ true → has ws v ≡ true → p v ≡ true) → list_all p (shared vs ws) ≡ true
all_from p vs [] f = refl
all_from p vs (w ∷ ws) f = go (cases_Bool (has vs w)) (all_from p vs ws (λ v h k. f v h (or_right (w == v) (has ws v) k)))
  where
    go : (has vs w ≡ true) ⊎ (has vs w ≡ false) → list_all p (shared vs ws) ≡ true → list_all p (shared vs (w ∷ ws)) ≡ true
    go (inl e) r = rw e (and_from _ _ (f w e (or_left (w == w) (has ws w) (eq-eqb w w refl))) r)
    go (inr e) r = rw e r

shared-cons : (p : ℕ → Bool) (vs : List ℕ) (w : ℕ) (ws : List ℕ) → list_all p (shared vs (w ∷ ws)) ≡ true → (has vs w ≡ true → p w ≡ true) × (list_all p (shared vs ws) ≡ true)
shared-cons p vs w ws e = go (cases_Bool (has vs w))
  where
    go : (has vs w ≡ true) ⊎ (has vs w ≡ false) → (has vs w ≡ true → p w ≡ true) × (list_all p (shared vs ws) ≡ true)
    go (inl h) = let k : (p w && list_all p (shared vs ws)) ≡ true = rw h at e in let q = and_parts _ _ k in ((λ _. q.0), q.1)
    go (inr h) = ((λ t. absurd (both_ways (has vs w) h t)), rw h at e)

all_at : (p : ℕ → Bool) (vs ws : List ℕ) → list_all p (shared vs ws) ≡ true → (v : ℕ) → has vs v ≡ true → has ws v ≡ true → p v ≡ true
all_at p vs [] e v h k = cc
all_at p vs (w ∷ ws) e v h k = go (or_cases (w == v) (has ws v) k) (all_at p vs ws (shared-cons p vs w ws e).1 v h)
  where
    go : ((w == v) ≡ true) ⊎ (has ws v ≡ true) → (has ws v ≡ true → p v ≡ true) → p v ≡ true
    go (inl q) r = let same : w ≡ v = eqb-true w v q in subst (λ u. p u ≡ true) same ((shared-cons p vs w ws e).0 (rw same h))
    go (inr q) r = r q

below_at : (vs : List ℕ) → AllByRecursion (λ v. v < width) vs → (v : ℕ) → has vs v ≡ true → v < width
below_at [] all v e = cc
below_at (w ∷ vs) all v e = go (or_cases (w == v) (has vs v) e) (below_at vs all.1 v)
  where
    go : ((w == v) ≡ true) ⊎ (has vs v ≡ true) → (has vs v ≡ true → v < width) → v < width
    go (inl q) r = subst (λ u. u < width) (eqb-true w v q) all.0
    go (inr q) r = r q

agree_none : (x : Option RdfTerm) → agree x None ≡ true
agree_none (Some t) = refl
agree_none None = refl

pub compatible_is : (known : RdfTerm → Bool) (vs ws : List ℕ) (a b : Mapping) → Over vs known a → Over ws known b → AllByRecursion (λ v. v < width) vs →
    list_all (λ v. agree (a v) (b v)) (shared vs ws) ≡ compatible a b
compatible_is known vs ws a b f g below = same_bools _ _
    (λ e. agree_below_from width a b (λ v l. go v e (cases_Bool (has vs v)) (cases_Bool (has ws v))))
    (λ e. all_from (λ v. agree (a v) (b v)) vs ws (λ v h k. agreed width a b e v (below_at vs below v h)))
  where
    go : (v : ℕ) → list_all (λ v. agree (a v) (b v)) (shared vs ws) ≡ true → (has vs v ≡ true) ⊎ (has vs v ≡ false) → (has ws v ≡ true) ⊎ (has ws v ≡ false) → agree (a v) (b v) ≡ true
    go v e (inl h) (inl k) = all_at (λ v. agree (a v) (b v)) vs ws e v h k
    go v e (inl h) (inr k) = rw (g.bound v k) (agree_none (a v))
    go v e (inr h) k = rw (f.bound v h) refl
