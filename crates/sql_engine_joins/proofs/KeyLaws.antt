-- Keys that follow from conditions.
use Rattle.std.proofs.Common.{◌≡◌, ◌⊎◌, ℕ, zero, suc, ◌+◌, ◌<◌, Bool, true, false, List, [], ◌∷◌, ◌++◌, map, length, inl, inr, refl, sym, ap, ◌∙◌, subst, arith}
use Rattle.std.specs.Prelude.{if◌then◌else◌}
use Rattle.std.specs.List.{AllByRecursion, filter}
use Rattle.std.proofs.lemmas.Bool.{cases_Bool, both_ways}
use Rattle.std.proofs.lemmas.List.Elements.{All-from_recursion}
use Rattle.table_meaning.specs.declared.cell.Cell.{Cell}
use Rattle.table_meaning.specs.declared.cell.Cell.TheVariants.{Null, Int, Text, Truth}
use Rattle.sql_rows_meaning.specs.Cells.{equal_cells}
use Rattle.sql_rows_meaning.specs.Values.{is_true, and_cells, all_cells}
use Rattle.sql_bind_meaning.specs.declared.expression.BoundExpr.{BoundExpr}
use Rattle.sql_bind_meaning.specs.declared.expression.BoundExpr.TheVariants as v
use Rattle.sql_bind_meaning.specs.Values.{Picked, cell_in, row_in, bound_value}
use Rattle.sql_bind_meaning.specs.ValueLaws.{bound_value-Cell, bound_value-Int, bound_value-Text, bound_value-Equal, bound_value-All}
use Rattle.sql_bind_meaning.specs.Sources.{with_picked, with_each, bound_where_true}
use Rattle.sql_index.specs.Columns.{column_cells}
use Rattle.sql_index.specs.Matches.{is_equal, equal_from, equal_rows}
use Rattle.sql_engine_joins.specs.Keys.{IsEarlier, IsColumn, IsKeyOf, IsKeyOfAll}
use Rattle.sql_engine_joins.specs.Runs.{rows_beside}
use Rattle.sql_engine_joins.proofs.Equality.{equal_turned}

-- ---- columns of the new source, and of those before

last_row : (left : Picked) (row : List Cell) → row_in (left ++ row ∷ []) (length left) ≡ row
last_row [] row = refl
last_row (cells ∷ left) row = last_row left row

earlier_row : (left : Picked) (row : List Cell) (n : ℕ) → n < length left → row_in (left ++ row ∷ []) n ≡ row_in left n
earlier_row [] row n h = absurd (omega arith)
earlier_row (cells ∷ left) row zero h = refl
earlier_row (cells ∷ left) row (suc n) h = earlier_row left row n (omega arith)

pub new_column : (new column : ℕ) → IsColumn new (v.Cell new column) column
new_column new column left row len =
    bound_value-Cell new column (with_picked left row)
    ∙ ap (λ (cells : List Cell). cell_in cells column) (ap (row_in (left ++ row ∷ [])) (sym len) ∙ last_row left row)

pub earlier_column : (new source column : ℕ) → source < new → IsEarlier new (v.Cell source column)
earlier_column new source column lt left row len =
    bound_value-Cell source column (with_picked left row)
    ∙ ap (λ (cells : List Cell). cell_in cells column) (earlier_row left row source (subst (λ (n : ℕ). source < n) (sym len) lt))
    ∙ sym (bound_value-Cell source column left)

pub earlier_int : (new : ℕ) (n : _) → IsEarlier new (v.Int n)
earlier_int new n left row len = bound_value-Int n (with_picked left row) ∙ sym (bound_value-Int n left)

pub earlier_text : (new : ℕ) (t : List ℕ) → IsEarlier new (v.Text t)
earlier_text new t left row len = bound_value-Text t (with_picked left row) ∙ sym (bound_value-Text t left)

-- ---- equalities

-- of a column and a value before it
pub key_of_equality : (new : ℕ) (a b : BoundExpr) (column : ℕ) → IsColumn new a column → IsEarlier new b → IsKeyOf new (v.Equal a b) column b
key_of_equality new a b column is earlier left row len h =
    sym (λ i. is_true (equal_cells (is left row len i) (earlier left row len i))) ∙ sym (ap is_true (bound_value-Equal a b (with_picked left row))) ∙ h

-- the other way round
pub key_of_turned : (new : ℕ) (a b : BoundExpr) (column : ℕ) → IsColumn new b column → IsEarlier new a → IsKeyOf new (v.Equal a b) column a
key_of_turned new a b column is earlier left row len h =
    equal_turned (cell_in row column) (bound_value a left)
    ∙ sym (λ i. is_true (equal_cells (earlier left row len i) (is left row len i))) ∙ sym (ap is_true (bound_value-Equal a b (with_picked left row))) ∙ h

-- ---- the outermost AND

and_first : (x y : Cell) → is_true (and_cells x y) ≡ true → is_true x ≡ true
and_first Null Null h = cc
and_first Null (Int n) h = cc
and_first Null (Text t) h = cc
and_first Null (Truth true) h = cc
and_first Null (Truth false) h = cc
and_first (Int m) Null h = cc
and_first (Int m) (Int n) h = cc
and_first (Int m) (Text t) h = cc
and_first (Int m) (Truth true) h = cc
and_first (Int m) (Truth false) h = cc
and_first (Text m) Null h = cc
and_first (Text m) (Int n) h = cc
and_first (Text m) (Text t) h = cc
and_first (Text m) (Truth true) h = cc
and_first (Text m) (Truth false) h = cc
and_first (Truth true) y h = refl
and_first (Truth false) y h = h

and_second : (x y : Cell) → is_true x ≡ true → is_true (and_cells x y) ≡ true → is_true y ≡ true
and_second Null y t h = cc
and_second (Int m) y t h = cc
and_second (Text m) y t h = cc
and_second (Truth true) y t h = h
and_second (Truth false) y t h = cc

each_true : (p : Picked) (es : List BoundExpr) → is_true (all_cells (map (λ e. bound_value e p) es)) ≡ true → AllByRecursion (λ e. is_true (bound_value e p) ≡ true) es
each_true p [] h = tt
each_true p (e ∷ es) h =
    let rest : Cell = all_cells (map (λ e. bound_value e p) es) in
    let first : is_true (bound_value e p) ≡ true = and_first (bound_value e p) rest h in
    (first, each_true p es (and_second (bound_value e p) rest first h))

-- a key of the members of an AND is one of the AND
pub key_of_all : (new : ℕ) (es : List BoundExpr) (column : ℕ) (other : BoundExpr) → IsKeyOfAll new es column other → IsKeyOf new (v.All es) column other
key_of_all new es column other key left row len h =
    let p : Picked = with_picked left row in
    key left row len (All-from_recursion (λ e. is_true (bound_value e p) ≡ true) es (each_true p es (sym (ap is_true (bound_value-All es p)) ∙ h)))

-- ---- the rows that have the key are enough

kept_alike : (P : Picked → Bool) (x y : Picked) (xs ys : List Picked) → x ≡ y → filter P xs ≡ filter P ys → filter P (x ∷ xs) ≡ filter P (y ∷ ys)
kept_alike P x y xs ys e h = λ i. if P (e i) then e i ∷ h i else h i

left_out : (P : Picked → Bool) (y : Picked) (xs ys : List Picked) → P y ≡ false → filter P xs ≡ filter P ys → filter P xs ≡ filter P (y ∷ ys)
left_out P y xs ys e h = h ∙ sym (ap (λ (b : Bool). if b then y ∷ filter P ys else filter P ys) e)

module _ (P : Picked → Bool) (f : List Cell → Picked) (key : Cell) (column : ℕ) (equal : (row : List Cell) → P (f row) ≡ true → is_equal key (cell_in row column) ≡ true) where
  step : (t : Bool) (n : ℕ) (at : ℕ → List Cell) (row : List Cell) (rows : List (List Cell)) (rest : List ℕ) → is_equal key (cell_in row column) ≡ t → at n ≡ row
      → filter P (map (λ (i : ℕ). f (at i)) rest) ≡ filter P (map f rows) → filter P (map (λ (i : ℕ). f (at i)) (if t then n ∷ rest else rest)) ≡ filter P (f row ∷ map f rows)
  step true n at row rows rest is here h = kept_alike P (f (at n)) (f row) (map (λ (i : ℕ). f (at i)) rest) (map f rows) (ap f here) h
  step false n at row rows rest is here h = left_out P (f row) (map (λ (i : ℕ). f (at i)) rest) (map f rows) (out (cases_Bool (P (f row)))) h
    where
      out : (P (f row) ≡ true) ⊎ (P (f row) ≡ false) → P (f row) ≡ false
      out (inl e) = absurd (both_ways (is_equal key (cell_in row column)) is (equal row e))
      out (inr e) = e

  equal_enough : (n : ℕ) (at : ℕ → List Cell) (rows : List (List Cell)) → ((i : ℕ) → at (n + i) ≡ row_in rows i) → filter P (map (λ (i : ℕ). f (at i)) (equal_from key n (column_cells rows column))) ≡ filter P (map f rows)
  equal_enough n at [] same = refl
  equal_enough n at (row ∷ rows) same =
      let start : n + 0 ≡ n = omega arith in
      let next : (i : ℕ) → at (n + 1 + i) ≡ row_in rows i = λ i. (let e : n + 1 + i ≡ n + suc i = omega arith in ap at e ∙ same (suc i)) in
      step (is_equal key (cell_in row column)) n at row rows (equal_from key (n + 1) (column_cells rows column)) refl (ap at (sym start) ∙ same 0) (equal_enough (n + 1) at rows next)

-- among the rows that equal the key stand all for which the condition is true, in their order
pub matched_rows : (new : ℕ) (condition : BoundExpr) (column : ℕ) (other : BoundExpr) (left : Picked) (rows : List (List Cell)) → IsKeyOf new condition column other → length left ≡ new
    → bound_where_true condition (rows_beside rows left (equal_rows (column_cells rows column) (bound_value other left))) ≡ bound_where_true condition (with_each rows left)
matched_rows new condition column other left rows is len =
    equal_enough (λ (q : Picked). is_true (bound_value condition q)) (with_picked left) (bound_value other left) column
    (λ row h. is left row len h) 0 (row_in rows) rows (λ i. let e : 0 + i ≡ i = omega arith in ap (row_in rows) e)
