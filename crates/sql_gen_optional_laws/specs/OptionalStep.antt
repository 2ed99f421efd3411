-- The matches, and the rows of the left side without one.
use Rattle.std.proofs.Common.{◌≡◌, ℕ, zero, suc, ◌+◌, ◌/◌, ◌%◌, ◌<◌, ◌⊎◌, Bool, true, false, cond, not, if◌then◌else◌, ◌&&◌, ◌||◌, List, [], ◌∷◌, ◌++◌, map, Option, Some, None, sym, refl, ap, ap₂, ◌∙◌, subst, arith, eqb, inl, inr, ◌==◌, pos, is_some, bytes_eq}
use Rattle.std.proofs.lemmas.Bool.{cases_Bool, cases_eq, eq-eqb, eqb-true, ne_eqb, and_parts, and_from, or_cases, or_left, or_right, false_from_ne_true}
use Rattle.std.proofs.lemmas.List.{append-nil}
use Rattle.std.specs.List.{filter, flat_map, list_all, list_any, AllByRecursion}
use Rattle.sql_gen_step_laws.specs.StepTests.{same_number, same_bools}
use Rattle.std.specs.Ordering.{int_eq}
use Rattle.sql_gen_step_laws.specs.PlainSelects.{plain_rows}
use Rattle.query_eval_meaning.specs.Mapping.{Mapping, width, compatible, merge}
use Rattle.query_eval_meaning.specs.Eval.{left_join, or_alone}
use Rattle.rdf_meaning.specs.Terms.{RdfTerm}
use Rattle.bags.specs.Bag.{total}
use Rattle.bags.specs.BagLaws.{total-same, total-map, total-flat_map, total-filter, total-each, each-append, each-map, each-flat_map, each-weaker, each-filter, total-append, total-zero}
use Rattle.table_meaning.specs.declared.cell.Cell.{Cell}
use Rattle.table_meaning.specs.declared.cell.Cell.TheVariants.{Null, Truth}
use Rattle.sql_meaning.specs.declared.script.Source.{Source}
use Rattle.sql_meaning.specs.declared.expression.SqlExpr.{SqlExpr}
use Rattle.sql_rows_meaning.specs.Values.{Sight, value_of, is_true, all_cells, any_cells}
use Rattle.sql_rows_meaning.specs.Cells.{is_null, equal_cells}
use Rattle.sql_rows_meaning.specs.Tables.{Relations, cell_under}
use Rattle.sql_rows_meaning.specs.Sources.{with_row, nothing_in_sight, or_nulls}
use Rattle.sql_rows_meaning.specs.Selects.{select_rows, item_cells}
use Rattle.sql_rows_meaning.specs.Rows.{body_relation}
use Rattle.sql_rows_meaning.specs.ValueLaws.{value_of-Name, value_of-All, value_of-Any, value_of-Equal, value_of-IsNull, value_of-Int, value_of-Null}
use Rattle.sql_gen_step_laws.specs.Carried.{Name, column, one, Ids, id_cell, carry, columns_of, Over, Numbers, Carries, Binds}
use Rattle.sql_gen_step_laws.specs.StepSelects.{left_alias, right_alias, cell_of, every, has, one_item, variable_item, both, own_sql, project_core}
use Rattle.sql_gen_step_laws.specs.Lookups.{cell_under_carry, same_column, one_column}
use Rattle.sql_gen_step_laws.specs.StepTests.{pair_env, every_true}
use Rattle.sql_gen_step_laws.specs.JoinStep.{total-carried, list_all-map, item_columns, in-both, merge-over, Both, each-both}
use Rattle.sql_gen_step_laws.specs.UnionStep.{wider}
use Rattle.sql_gen_step_laws.specs.LeftStep.{total-or_nulls}
use Rattle.query_eval_meaning.specs.Matches.{Match, matches_of, unmatched, same_below}
use Rattle.query_eval_meaning.specs.Variables.{IsNarrow}
use Rattle.query_eval_meaning.specs.Answer.{same_place}
use Rattle.query_algebra_laws.specs.Split.{left_join_split}
use Rattle.sql_gen_optional_laws.specs.MatchRows.{kept, kept_sql, unmatched_core, optional_body, match_columns, match_cells, OverBoth, Matches}
use Rattle.sql_meaning.specs.declared.expression.SqlExpr.TheVariants as sql
use Rattle.table_meaning.specs.declared.kind.Kind.TheVariants as kind

abbrev null_test : Cell → Cell
null_test c = Truth (is_null c)

-- ---- names

same_digits : (w v : ℕ) → 48 + w / 10 ≡ 48 + v / 10 → 48 + w % 10 ≡ 48 + v % 10 → w ≡ v
same_digits w v d r = omega arith

pub same_kept : (w v : ℕ) → bytes_eq (kept w) (kept v) ≡ (w == v)
unfolding kept
same_kept w v = go (cases_eq w v)
  where
    go : (w ≡ v) ⊎ (w ≡ v → ⊥) → bytes_eq (kept w) (kept v) ≡ (w == v)
    go (inl e) = rw (e, eq-eqb (48 + v / 10) (48 + v / 10) refl, eq-eqb (48 + v % 10) (48 + v % 10) refl, eq-eqb v v refl) refl
    go (inr ne) = false_from_ne_true _ (λ t.
        let p = and_parts (eqb (48 + w / 10) (48 + v / 10)) _ t in
        let q = and_parts (eqb (48 + w % 10) (48 + v % 10)) true p.1 in
        ne (same_digits w v (eqb-true _ _ p.0) (eqb-true _ _ q.0))) ∙ sym (ne_eqb w v ne)

one_kept : (v : ℕ) → bytes_eq one (kept v) ≡ false
unfolding kept
one_kept v = refl

column_kept : (w v : ℕ) → bytes_eq (column w) (kept v) ≡ false
unfolding column kept
column_kept w v = refl

-- ---- a match's cells

-- the cell of a variable among columns of variables, whatever stands behind them
cell_under_own : (name : ℕ → Name) → ((w v : ℕ) → bytes_eq (name w) (name v) ≡ (w == v)) → (ids : Ids) (vs : List ℕ) (m : Mapping) (v : ℕ) (ks : List Name) (cs : List Cell) → has vs v ≡ true →
    cell_under (map name vs ++ ks) (map (λ v. id_cell ids (m v)) vs ++ cs) (name v) ≡ id_cell ids (m v)
cell_under_own name same ids [] m v ks cs e = cc
cell_under_own name same ids (w ∷ vs) m v ks cs e = go (cases_Bool (w == v)) (or_cases (w == v) (has vs v) e) (cell_under_own name same ids vs m v ks cs)
  where
    go : ((w == v) ≡ true) ⊎ ((w == v) ≡ false) → ((w == v) ≡ true) ⊎ (has vs v ≡ true) → (has vs v ≡ true → cell_under (map name vs ++ ks) (map (λ v. id_cell ids (m v)) vs ++ cs) (name v) ≡ id_cell ids (m v)) →
        cell_under (map name (w ∷ vs) ++ ks) (map (λ v. id_cell ids (m v)) (w ∷ vs) ++ cs) (name v) ≡ id_cell ids (m v)
    go (inl q) h r = rw (same w v, q) (ap (λ u. id_cell ids (m u)) (eqb-true w v q))
    go (inr q) (inl h) r = cc
    go (inr q) (inr h) r = rw (same w v, q) (r h)

cell_under_past : (ids : Ids) (us : List ℕ) (m : Mapping) (v : ℕ) (ks : List Name) (cs : List Cell) → cell_under (map column us ++ ks) (map (λ v. id_cell ids (m v)) us ++ cs) (kept v) ≡ cell_under ks cs (kept v)
cell_under_past ids [] m v ks cs = refl
cell_under_past ids (u ∷ us) m v ks cs = rw (column_kept u v) (cell_under_past ids us m v ks cs)

pub merged_at : (ids : Ids) (vs us : List ℕ) (q : Match) (v : ℕ) → has us v ≡ true → cell_under (match_columns vs us) (match_cells ids vs us q) (column v) ≡ id_cell ids (q.merged v)
merged_at ids vs us q v h = rw (one_column v) (cell_under_own column same_column ids us q.merged v (map kept vs) (map (λ v. id_cell ids (q.left v)) vs) h)

pub kept_at : (ids : Ids) (vs us : List ℕ) (q : Match) (v : ℕ) → has vs v ≡ true → cell_under (match_columns vs us) (match_cells ids vs us q) (kept v) ≡ id_cell ids (q.left v)
kept_at ids vs us q v h =
    rw (one_kept v) (cell_under_past ids us q.merged v (map kept vs) (map (λ v. id_cell ids (q.left v)) vs)
    ∙ ap₂ (λ (ks : List Name) (cs : List Cell). cell_under ks cs (kept v)) (sym (append-nil (map kept vs))) (sym (append-nil (map (λ v. id_cell ids (q.left v)) vs)))
    ∙ cell_under_own kept same_kept ids vs q.left v [] [] h)

-- ---- the matches, with the columns of both sides

abbrev pub match_env : Ids → List ℕ → List ℕ → Match → Sight
match_env ids vs us q = with_row left_alias (match_columns vs us) (match_cells ids vs us q) nothing_in_sight

pub shown_value : (ids : Ids) (known : RdfTerm → Bool) (vs us : List ℕ) (q : Match) → Over us known q.merged → (v : ℕ) → value_of (own_sql us v) (match_env ids vs us q) ≡ id_cell ids (q.merged v)
shown_value ids known vs us q f v = go (cases_Bool (has us v))
  where
    go : (has us v ≡ true) ⊎ (has us v ≡ false) → value_of (own_sql us v) (match_env ids vs us q) ≡ id_cell ids (q.merged v)
    go (inl e) = rw e (value_of-Name left_alias (column v) (match_env ids vs us q) ∙ merged_at ids vs us q v e)
    go (inr e) = rw (e, f.bound v e) (value_of-Null kind.Int (match_env ids vs us q))

pub shown_cells : (ids : Ids) (known : RdfTerm → Bool) (vs us ts : List ℕ) (q : Match) → Over us known q.merged → item_cells (map (variable_item (own_sql us)) ts) (match_env ids vs us q) ≡ map (λ v. id_cell ids (q.merged v)) ts
shown_cells ids known vs us [] q f = refl
shown_cells ids known vs us (t ∷ ts) q f = ap₂ (λ (c : Cell) (cs : List Cell). c ∷ cs) (shown_value ids known vs us q f t) (shown_cells ids known vs us ts q f)

total-shown : (g : List Cell → ℕ) (ids : Ids) (known : RdfTerm → Bool) (relations : Relations) (m : Name) (vs us : List ℕ) (qs : List Match) → Matches ids known vs us qs (relations m) →
    total g (select_rows relations (project_core m us us)) ≡ total (λ (q : Match). g (carry ids us q.merged)) qs
total-shown g ids known relations m vs us qs c =
    let items = one_item ∷ map (variable_item (own_sql us)) us in
    ap (total g) (plain_rows relations (project_core m us us) refl refl refl refl)
    ∙ total-map g (item_cells items) (map (λ row. with_row left_alias (relations m).columns row nothing_in_sight) (relations m).rows)
    ∙ total-map (λ e. g (item_cells items e)) (λ row. with_row left_alias (relations m).columns row nothing_in_sight) (relations m).rows
    ∙ ap (λ (k : List Name). total (λ row. g (item_cells items (with_row left_alias k row nothing_in_sight))) (relations m).rows) c.columns
    ∙ c.rows.totals (λ row. g (item_cells items (with_row left_alias (match_columns vs us) row nothing_in_sight)))
    ∙ total-map (λ row. g (item_cells items (with_row left_alias (match_columns vs us) row nothing_in_sight))) (match_cells ids vs us) qs
    ∙ total-each _ _ (OverBoth vs us known) (λ q f. ap g (ap₂ (λ (c : Cell) (cs : List Cell). c ∷ cs) (value_of-Int (pos 1) (match_env ids vs us q)) (shown_cells ids known vs us us q f.merged))) qs c.fits

-- ---- the same left side

abbrev beside : Ids → List ℕ → List ℕ → Mapping → Match → Sight
beside ids vs us x q = pair_env (columns_of vs) (match_columns vs us) (carry ids vs x) (match_cells ids vs us q)

one_of_two : (b : Bool) → is_true (any_cells (Truth b ∷ Truth false ∷ [])) ≡ b
one_of_two true = refl
one_of_two false = refl

kept_cells : (ids : Ids) (known : RdfTerm → Bool) → Numbers ids known → (x y : Option RdfTerm) → ((t : RdfTerm) → x ≡ Some t → known t ≡ true) → ((t : RdfTerm) → y ≡ Some t → known t ≡ true) →
    is_true (any_cells (equal_cells (id_cell ids x) (id_cell ids y) ∷ all_cells (null_test (id_cell ids x) ∷ null_test (id_cell ids y) ∷ []) ∷ [])) ≡ same_place x y
kept_cells ids known n (Some s) (Some t) p q = one_of_two (int_eq (pos (ids s)) (pos (ids t))) ∙ same_number (ids s) (ids t) ∙ n s t (p s refl) (q t refl)
kept_cells ids known n (Some s) None p q = refl
kept_cells ids known n None (Some t) p q = refl
kept_cells ids known n None None p q = refl

plain_cells : (ids : Ids) (known : RdfTerm → Bool) → Numbers ids known → (x y : Option RdfTerm) → ((t : RdfTerm) → x ≡ Some t → known t ≡ true) → ((t : RdfTerm) → y ≡ Some t → known t ≡ true) → is_some y ≡ true →
    is_true (equal_cells (id_cell ids x) (id_cell ids y)) ≡ same_place x y
plain_cells ids known n (Some s) (Some t) p q e = same_number (ids s) (ids t) ∙ n s t (p s refl) (q t refl)
plain_cells ids known n None (Some t) p q e = refl
plain_cells ids known n x None p q e = cc

kept_true : (ids : Ids) (known : RdfTerm → Bool) → Numbers ids known → (certain vs us : List ℕ) (x : Mapping) (q : Match) → Over vs known x → Over vs known q.left → Binds certain x → (v : ℕ) → has vs v ≡ true →
    is_true (value_of (kept_sql certain v) (beside ids vs us x q)) ≡ same_place (q.left v) (x v)
kept_true ids known n certain vs us x q f g binds v h = go (cases_Bool (has certain v))
  where
    mine : value_of (cell_of left_alias v) (beside ids vs us x q) ≡ id_cell ids (x v)
    mine = value_of-Name left_alias (column v) (beside ids vs us x q) ∙ cell_under_carry ids known vs x v f

    its : value_of (sql.Name right_alias (kept v)) (beside ids vs us x q) ≡ id_cell ids (q.left v)
    its = value_of-Name right_alias (kept v) (beside ids vs us x q) ∙ kept_at ids vs us q v h

    go : (has certain v ≡ true) ⊎ (has certain v ≡ false) → is_true (value_of (kept_sql certain v) (beside ids vs us x q)) ≡ same_place (q.left v) (x v)
    go (inl e) = rw e (ap is_true (value_of-Equal (sql.Name right_alias (kept v)) (cell_of left_alias v) (beside ids vs us x q) ∙ ap₂ equal_cells its mine)
        ∙ plain_cells ids known n (q.left v) (x v) (g.known_terms v) (f.known_terms v) (binds v e))
    go (inr e) =
        let env = beside ids vs us x q in
        let l = sql.Name right_alias (kept v) in
        let r = cell_of left_alias v in
        let nulls : value_of (sql.All (sql.IsNull l ∷ sql.IsNull r ∷ [])) env ≡ all_cells (null_test (value_of l env) ∷ null_test (value_of r env) ∷ []) =
        value_of-All (sql.IsNull l ∷ sql.IsNull r ∷ []) env ∙ ap₂ (λ (c d : Cell). all_cells (c ∷ d ∷ [])) (value_of-IsNull l env) (value_of-IsNull r env) in
        let cells : value_of (sql.Any (sql.Equal l r ∷ sql.All (sql.IsNull l ∷ sql.IsNull r ∷ []) ∷ [])) env ≡ any_cells (equal_cells (value_of l env) (value_of r env) ∷ all_cells (null_test (value_of l env) ∷ null_test (value_of r env) ∷ []) ∷ []) =
        value_of-Any (sql.Equal l r ∷ sql.All (sql.IsNull l ∷ sql.IsNull r ∷ []) ∷ []) env ∙ ap₂ (λ (c d : Cell). any_cells (c ∷ d ∷ [])) (value_of-Equal l r env) nulls in
        rw e (ap is_true (cells ∙ ap₂ (λ (c d : Cell). any_cells (equal_cells c d ∷ all_cells (null_test c ∷ null_test d ∷ []) ∷ [])) its mine)
        ∙ kept_cells ids known n (q.left v) (x v) (g.known_terms v) (f.known_terms v))

below_at : (vs : List ℕ) → AllByRecursion (λ v. v < width) vs → (v : ℕ) → has vs v ≡ true → v < width
below_at [] all v e = cc
below_at (w ∷ vs) all v e = go (or_cases (w == v) (has vs v) e) (below_at vs all.1 v)
  where
    go : ((w == v) ≡ true) ⊎ (has vs v ≡ true) → (has vs v ≡ true → v < width) → v < width
    go (inl q) r = subst (λ u. u < width) (eqb-true w v q) all.0
    go (inr q) r = r q

narrow : (known : RdfTerm → Bool) (vs : List ℕ) → AllByRecursion (λ v. v < width) vs → (m : Mapping) → Over vs known m → IsNarrow m
narrow known vs below m f v l = f.bound v (false_from_ne_true _ (λ e. let h : v < width = below_at vs below v e in absurd (omega arith)))

-- all of a list, of which each item is told
all_told : (p q : ℕ → Bool) (vs : List ℕ) → ((v : ℕ) → has vs v ≡ true → p v ≡ q v) → list_all p vs ≡ list_all q vs
all_told p q [] f = refl
all_told p q (v ∷ vs) f = ap₂ (λ (a b : Bool). a && b) (f v (or_left _ _ (eq-eqb v v refl))) (all_told p q vs (λ u e. f u (or_right _ _ e)))

every_at : (p : ℕ → Bool) (vs : List ℕ) → list_all p vs ≡ true → (v : ℕ) → has vs v ≡ true → p v ≡ true
every_at p [] e v h = cc
every_at p (w ∷ vs) e v h = go (or_cases (w == v) (has vs v) h) (every_at p vs (and_parts (p w) (list_all p vs) e).1 v)
  where
    go : ((w == v) ≡ true) ⊎ (has vs v ≡ true) → (has vs v ≡ true → p v ≡ true) → p v ≡ true
    go (inl q) r = subst (λ u. p u ≡ true) (eqb-true w v q) (and_parts (p w) (list_all p vs) e).0
    go (inr q) r = r q

every_from : (p : ℕ → Bool) (vs : List ℕ) → ((v : ℕ) → has vs v ≡ true → p v ≡ true) → list_all p vs ≡ true
every_from p [] f = refl
every_from p (v ∷ vs) f = and_from _ _ (f v (or_left _ _ (eq-eqb v v refl))) (every_from p vs (λ u e. f u (or_right _ _ e)))

same_from : (n : ℕ) (m k : Mapping) → ((v : ℕ) → v < n → same_place (m v) (k v) ≡ true) → same_below n m k ≡ true
same_from zero m k f = refl
same_from (suc n) m k f = and_from _ _ (f n (omega arith)) (same_from n m k (λ v l. f v (omega arith)))

same_at : (n : ℕ) (m k : Mapping) → same_below n m k ≡ true → (v : ℕ) → v < n → same_place (m v) (k v) ≡ true
same_at zero m k e v l = absurd (omega arith)
same_at (suc n) m k e v l = go (cases_eq v n) (and_parts (same_place (m n) (k n)) (same_below n m k) e) (same_at n m k)
  where
    go : (v ≡ n) ⊎ (v ≡ n → ⊥) → (same_place (m n) (k n) ≡ true) × (same_below n m k ≡ true) → (same_below n m k ≡ true → (v : ℕ) → v < n → same_place (m v) (k v) ≡ true) → same_place (m v) (k v) ≡ true
    go (inl q) p r = subst (λ u. same_place (m u) (k u) ≡ true) (sym q) p.0
    go (inr q) p r = r p.1 v (omega arith)

-- the variables of the left side decide
same_on : (known : RdfTerm → Bool) (vs : List ℕ) → AllByRecursion (λ v. v < width) vs → (m k : Mapping) → Over vs known m → Over vs known k → list_all (λ v. same_place (m v) (k v)) vs ≡ same_below width m k
same_on known vs below m k f g = same_bools _ _
    (λ e. same_from width m k (λ v l. go v e (cases_Bool (has vs v))))
    (λ e. every_from (λ v. same_place (m v) (k v)) vs (λ v h. same_at width m k e v (below_at vs below v h)))
  where
    go : (v : ℕ) → list_all (λ v. same_place (m v) (k v)) vs ≡ true → (has vs v ≡ true) ⊎ (has vs v ≡ false) → same_place (m v) (k v) ≡ true
    go v e (inl h) = every_at (λ v. same_place (m v) (k v)) vs e v h
    go v e (inr h) = rw (f.bound v h, g.bound v h) refl

-- ---- the rows without a match

all_map : (p : SqlExpr → Bool) (f : ℕ → SqlExpr) (vs : List ℕ) → list_all p (map f vs) ≡ list_all (λ v. p (f v)) vs
all_map p f vs = list_all-map p (λ v. p (f v)) f (λ v. refl) vs

none_counted : {X : Type 0} (p : X → Bool) (xs : List X) → eqb (total (λ x. cond (p x) 1 0) xs) 0 ≡ not (list_any p xs)
none_counted p [] = refl
none_counted p (x ∷ xs) = go (cases_Bool (p x)) (none_counted p xs)
  where
    go : (p x ≡ true) ⊎ (p x ≡ false) → eqb (total (λ x. cond (p x) 1 0) xs) 0 ≡ not (list_any p xs) → eqb (cond (p x) 1 0 + total (λ x. cond (p x) 1 0) xs) 0 ≡ not (p x || list_any p xs)
    go (inl e) h = rw e (ne_eqb (1 + total (λ x. cond (p x) 1 0) xs) 0 (λ z. absurd (omega arith)))
    go (inr e) h =
        let same : 0 + total (λ x. cond (p x) 1 0) xs ≡ total (λ x. cond (p x) 1 0) xs = omega arith in
        rw e (ap (λ n. eqb n 0) same ∙ h)

abbrev missing : SqlExpr
missing = sql.IsNull (sql.Name right_alias one)

missing_is : (env : Sight) → is_true (value_of missing env) ≡ is_null (env right_alias one)
missing_is env = ap is_true (value_of-IsNull (sql.Name right_alias one) env ∙ ap null_test (value_of-Name right_alias one env))

own_value : (ids : Ids) (known : RdfTerm → Bool) (vs : List ℕ) (columns : List Name) (x : Mapping) → Over vs known x → (v : ℕ) → value_of (own_sql vs v) (pair_env (columns_of vs) columns (carry ids vs x) []) ≡ id_cell ids (x v)
own_value ids known vs columns x f v = go (cases_Bool (has vs v))
  where
    go : (has vs v ≡ true) ⊎ (has vs v ≡ false) → value_of (own_sql vs v) (pair_env (columns_of vs) columns (carry ids vs x) []) ≡ id_cell ids (x v)
    go (inl e) = rw e (value_of-Name left_alias (column v) (pair_env (columns_of vs) columns (carry ids vs x) []) ∙ cell_under_carry ids known vs x v f)
    go (inr e) = rw (e, f.bound v e) (value_of-Null kind.Int (pair_env (columns_of vs) columns (carry ids vs x) []))

own_cells : (ids : Ids) (known : RdfTerm → Bool) (vs ts : List ℕ) (columns : List Name) (x : Mapping) → Over vs known x → item_cells (map (variable_item (own_sql vs)) ts) (pair_env (columns_of vs) columns (carry ids vs x) []) ≡ map (λ v. id_cell ids (x v)) ts
own_cells ids known vs [] columns x f = refl
own_cells ids known vs (t ∷ ts) columns x f = ap₂ (λ (c : Cell) (cs : List Cell). c ∷ cs) (own_value ids known vs columns x f t) (own_cells ids known vs ts columns x f)

no_one : (columns : List Name) → cell_under columns [] one ≡ Null
no_one [] = refl
no_one (c ∷ columns) = refl

total-unmatched : (g : List Cell → ℕ) (ids : Ids) (known : RdfTerm → Bool) → Numbers ids known → (relations : Relations) (a m : Name) (vs ws certain : List ℕ) (ls : List Mapping) (qs : List Match) →
    Carries ids known vs ls (relations a) → Matches ids known vs (both vs ws) qs (relations m) → AllByRecursion (Binds certain) ls →
    total g (select_rows relations (unmatched_core a m vs ws certain)) ≡ total (λ x. cond (unmatched qs x) (g (carry ids (both vs ws) x)) 0) ls
total-unmatched g ids known n relations a m vs ws certain ls qs ca cm bl =
    let us = both vs ws in
    let items = one_item ∷ map (variable_item (own_sql vs)) us in
    let on = every (map (kept_sql certain) vs) in
    let source : Source = record { table = m; alias = right_alias } in
    let left : List Name → List Cell → Sight = λ ka ra. with_row left_alias ka ra nothing_in_sight in
    let found : Sight → List Sight = λ env. filter (λ e. is_true (value_of on e)) (map (λ rb. with_row right_alias (relations m).columns rb env) (relations m).rows) in
    let G : Sight → ℕ = λ e. cond (is_true (value_of missing e)) (g (item_cells items e)) 0 in
    let kv = columns_of vs in
    let km = match_columns vs us in
    let D : List Name → List Name → (Sight → ℕ) → List Cell → ℕ = λ ka kb k ra. total (λ rb. cond (is_true (value_of on (pair_env ka kb ra rb))) (k (pair_env ka kb ra rb)) 0) (relations m).rows in
    let W : List Name → List Name → List Cell → ℕ = λ ka kb ra. cond (eqb (D ka kb (λ e. 1) ra) 0) (G (pair_env ka kb ra [])) (D ka kb G ra) in
    let ka = (relations a).columns in
    let each : (k : Sight → ℕ) (ra : List Cell) → total k (found (left ka ra)) ≡ D ka (relations m).columns k ra =
    λ k ra. total-filter k (λ e. is_true (value_of on e)) (map (λ rb. with_row right_alias (relations m).columns rb (left ka ra)) (relations m).rows)
    ∙ total-map (λ e. cond (is_true (value_of on e)) (k e) 0) (λ rb. with_row right_alias (relations m).columns rb (left ka ra)) (relations m).rows in
    let tests : (x : Mapping) → Both (Over vs known) (Binds certain) x → (q : Match) → OverBoth vs us known q → is_true (value_of on (beside ids vs us x q)) ≡ same_below width q.left x =
    λ x p q o. every_true (map (kept_sql certain) vs) (beside ids vs us x q)
    ∙ all_map (λ e. is_true (value_of e (beside ids vs us x q))) (kept_sql certain) vs
    ∙ all_told (λ v. is_true (value_of (kept_sql certain v) (beside ids vs us x q))) (λ v. same_place (q.left v) (x v)) vs (λ v h. kept_true ids known n certain vs us x q p.fst o.left p.snd v h)
    ∙ same_on known vs ca.below q.left x o.left p.fst in
    let over : (x : Mapping) → Both (Over vs known) (Binds certain) x → (k : Sight → ℕ) (h : Match → ℕ) → ((q : Match) → k (beside ids vs us x q) ≡ h q) → D kv km k (carry ids vs x) ≡ total (λ (q : Match). cond (same_below width q.left x) (h q) 0) qs =
    λ x p k h e. cm.rows.totals (λ rb. cond (is_true (value_of on (pair_env kv km (carry ids vs x) rb))) (k (pair_env kv km (carry ids vs x) rb)) 0)
    ∙ total-map (λ rb. cond (is_true (value_of on (pair_env kv km (carry ids vs x) rb))) (k (pair_env kv km (carry ids vs x) rb)) 0) (match_cells ids vs us) qs
    ∙ total-each _ _ (OverBoth vs us known) (λ q o. ap₂ (λ (c : Bool) (i : ℕ). cond c i 0) (tests x p q o) (e q)) qs cm.fits in
    ap (total g) (plain_rows relations (unmatched_core a m vs ws certain) refl refl refl refl)
    ∙ total-map g (item_cells items) (filter (λ e. is_true (value_of missing e)) (flat_map (λ env. or_nulls relations source env (found env)) (map (left ka) (relations a).rows)))
    ∙ total-filter (λ e. g (item_cells items e)) (λ e. is_true (value_of missing e)) (flat_map (λ env. or_nulls relations source env (found env)) (map (left ka) (relations a).rows))
    ∙ total-flat_map G (λ env. or_nulls relations source env (found env)) (map (left ka) (relations a).rows)
    ∙ total-map (λ env. total G (or_nulls relations source env (found env))) (left ka) (relations a).rows
    ∙ total-same _ _ (λ ra. total-or_nulls G relations source (left ka ra) (found (left ka ra)) ∙ ap₂ (λ i j. cond (eqb i 0) (G (pair_env ka (relations m).columns ra [])) j) (each (λ e. 1) ra) (each G ra)) (relations a).rows
    ∙ ap₂ (λ (ka kb : List Name). total (W ka kb) (relations a).rows) ca.columns cm.columns
    ∙ total-carried ids known vs ls (relations a) (W kv km) ca
    ∙ total-each _ _ (Both (Over vs known) (Binds certain)) (λ x p.
    let null : G (pair_env kv km (carry ids vs x) []) ≡ g (carry ids us x) =
    ap₂ (λ (c : Bool) (r : List Cell). cond c (g r) 0) (missing_is (pair_env kv km (carry ids vs x) []))
    (ap₂ (λ (c : Cell) (cs : List Cell). c ∷ cs) (value_of-Int (pos 1) (pair_env kv km (carry ids vs x) [])) (own_cells ids known vs us km x p.fst)) in
    let none : total (λ (q : Match). cond (same_below width q.left x) 0 0) qs ≡ 0 = total-same _ _ (λ q. zero_both (same_below width q.left x)) qs ∙ total-zero qs in
    ap₂ (λ i j. cond (eqb i 0) (G (pair_env kv km (carry ids vs x) [])) j) (over x p (λ e. 1) (λ q. 1) (λ q. refl)) (over x p G (λ q. 0) (λ q. ap (λ (b : Bool). cond b (g (item_cells items (beside ids vs us x q))) 0) (missing_is (beside ids vs us x q))) ∙ none)
    ∙ ap₂ (λ (b : Bool) (r : ℕ). cond b r 0) (none_counted (λ (q : Match). same_below width q.left x) qs) null) ls (each-both _ _ ls ca.fits bl)
  where
    zero_both : (b : Bool) → ◌≡◌ {A = ℕ} (cond b 0 0) 0
    zero_both true = refl
    zero_both false = refl

-- ---- the whole

each-or_alone : (P : Mapping → Type 0) (a : Mapping) (ms : List Mapping) → P a → AllByRecursion P ms → AllByRecursion P (or_alone a ms)
each-or_alone P a [] p all = (p, tt)
each-or_alone P a (m ∷ ms) p all = all

left-over : (known : RdfTerm → Bool) (f : Mapping → Bool) (vs ws : List ℕ) (ls rs : List Mapping) → AllByRecursion (Over vs known) ls → AllByRecursion (Over ws known) rs → AllByRecursion (Over (both vs ws) known) (left_join f ls rs)
left-over known f vs ws ls rs fl fr =
    let P = Over (both vs ws) known in
    each-flat_map P (λ a. or_alone a (filter f (map (merge a) (filter (compatible a) rs)))) ls
    (each-weaker (Over vs known) (λ a. AllByRecursion P (or_alone a (filter f (map (merge a) (filter (compatible a) rs)))))
    (λ a fa. each-or_alone P a _ (wider known vs (both vs ws) (λ v e. (in-both vs ws v e).0) a fa)
    (each-filter P f _ (each-map P (merge a) (filter (compatible a) rs)
    (each-weaker (Over ws known) (λ b. P (merge a b)) (λ b gb. merge-over known vs ws a b fa gb) (filter (compatible a) rs) (each-filter (Over ws known) (compatible a) rs fr)))))
    ls fl)

pub optional_step : (ids : Ids) (known : RdfTerm → Bool) → Numbers ids known → (relations : Relations) (a m : Name) (vs ws certain : List ℕ) (ls rs : List Mapping) (f : Mapping → Bool) →
    Carries ids known vs ls (relations a) → AllByRecursion (Over ws known) rs → AllByRecursion (λ v. v < width) ws → Matches ids known vs (both vs ws) (matches_of f ls rs) (relations m) → AllByRecursion (Binds certain) ls →
    Carries ids known (both vs ws) (left_join f ls rs) (body_relation relations (optional_body a m vs ws certain))
optional_step ids known n relations a m vs ws certain ls rs f ca fr below cm bl = record {
  columns = ap (λ (xs : List Name). one ∷ xs) (item_columns (own_sql (both vs ws)) (both vs ws));
  rows = record {
    totals = λ g.
        let us = both vs ws in
        let qs = matches_of f ls rs in
        let narrows = each-weaker (Over vs known) IsNarrow (narrow known vs ca.below) ls ca.fits in
        total-append g (select_rows relations (project_core m us us)) (select_rows relations (unmatched_core a m vs ws certain) ++ [])
        ∙ ap₂ (λ i j. i + j) (total-shown g ids known relations m vs us qs cm)
        (ap (total g) (append-nil (select_rows relations (unmatched_core a m vs ws certain))) ∙ total-unmatched g ids known n relations a m vs ws certain ls qs ca cm bl)
        ∙ ap₂ (λ i j. i + j) (sym (total-map (λ x. g (carry ids us x)) (λ (q : Match). q.merged) qs)) (sym (total-filter (λ x. g (carry ids us x)) (unmatched qs) ls))
        ∙ sym (total-append (λ x. g (carry ids us x)) (map (λ (q : Match). q.merged) qs) (filter (unmatched qs) ls))
        ∙ sym ((left_join_split f ls rs narrows).totals (λ x. g (carry ids us x)))
        ∙ sym (total-map g (carry ids us) (left_join f ls rs));
  };
  fits = left-over known f vs ws ls rs ca.fits fr;
  below = each-append (λ v. v < width) vs (filter (λ w. if has vs w then false else true) ws) ca.below (each-filter (λ v. v < width) (λ w. if has vs w then false else true) ws below);
}
