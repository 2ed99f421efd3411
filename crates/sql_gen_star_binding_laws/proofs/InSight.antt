-- What a star's SELECTs name is a column of a table or of the step before, and an int.
use Rattle.std.proofs.Common.{◌≡◌, ℕ, zero, suc, ◌+◌, ◌/◌, ◌%◌, ◌<◌, ◌⊎◌, inl, inr, Bool, true, false, if◌then◌else◌, ◌==◌, eqb, List, [], ◌∷◌, ◌++◌, map, Option, Some, sym, refl, ap, ◌∙◌, arith, bytes_eq}
use Rattle.std.specs.Prelude.{codes}
use Rattle.std.proofs.lemmas.Bool.{cases_eq, eq-eqb, eqb-true, ne_eqb, and_parts, or_cases, false_from_ne_true}
use Rattle.std.proofs.lemmas.List.{append-nil}
use Rattle.std.proofs.lemmas.Slice.Eq.{bytes_eq-Decides}
use Rattle.std.specs.Fmt.{decimal}
use Rattle.table_meaning.specs.declared.kind.Kind.{Kind}
use Rattle.table_meaning.specs.declared.kind.Kind.TheVariants as kind
use Rattle.table_meaning.specs.declared.schema.Column.{Column}
use Rattle.sql_rows_meaning.specs.Scopes.{kind_under}
use Rattle.layout_standing_meaning.specs.Schemas.{pair_columns, primary_schema}
use Rattle.sql_gen_step_laws.specs.Carried.{Name, column, one}
use Rattle.sql_gen_step_laws.specs.StepSelects.{has}
use Rattle.sql_gen_step_laws.specs.Lookups.{same_column}
use Rattle.sql_gen_binding_laws.specs.StepColumns.{int_column, step_schema}
use Rattle.sql_gen_star_meaning.specs.SideTables.{pred_name, val_name}
use Rattle.sql_gen_star_meaning.specs.Partials.{cell_name}
use Rattle.sql_gen_star_binding_laws.specs.StarColumns.{partial_schema}

-- the names of cells tell their numbers
same_digits : (i j : ℕ) → 48 + i / 10 ≡ 48 + j / 10 → 48 + i % 10 ≡ 48 + j % 10 → i ≡ j
same_digits i j d r = omega arith

pub same_cell_name : (i j : ℕ) → bytes_eq (cell_name i) (cell_name j) ≡ (i == j)
unfolding cell_name
same_cell_name i j = go (cases_eq i j)
  where
    go : (i ≡ j) ⊎ (i ≡ j → ⊥) → bytes_eq (cell_name i) (cell_name j) ≡ (i == j)
    go (inl e) = rw (e, eq-eqb (48 + j / 10) (48 + j / 10) refl, eq-eqb (48 + j % 10) (48 + j % 10) refl, eq-eqb j j refl) refl
    go (inr ne) = false_from_ne_true _ (λ t.
        let p = and_parts (eqb (48 + i / 10) (48 + j / 10)) _ t in
        let q = and_parts (eqb (48 + i % 10) (48 + j % 10)) true p.1 in
        ne (same_digits i j (eqb-true _ _ p.0) (eqb-true _ _ q.0))) ∙ sym (ne_eqb i j ne)

pub cell_one : (i : ℕ) → bytes_eq (cell_name i) one ≡ false
unfolding cell_name
cell_one i = refl

pub cell_column : (i v : ℕ) → bytes_eq (cell_name i) (column v) ≡ false
unfolding cell_name column
cell_column i v = refl

-- a column of ints, whichever it is
int_or : (b : Bool) (x : Option Kind) → x ≡ Some kind.Int → (if b then Some kind.Int else x) ≡ Some kind.Int
int_or true x e = refl
int_or false x e = e

int_here : (b : Bool) (x : Option Kind) → b ≡ true → (if b then Some kind.Int else x) ≡ Some kind.Int
int_here b x e = rw e refl

itself : (n : Name) → bytes_eq n n ≡ true
itself n = (bytes_eq-Decides n n).1 refl

-- ---- a primary table

pred_from : (n at m : ℕ) (j : ℕ) → m ≡ at + j → j < n → kind_under (pair_columns n at) (codes "pred" ++ decimal m) ≡ Some kind.Int
pred_from zero at m j e l = absurd (omega arith)
pred_from (suc n) at m zero e l =
    let same : m ≡ at = omega arith in
    int_here (bytes_eq (codes "pred" ++ decimal at) (codes "pred" ++ decimal m)) _ (ap (λ (x : ℕ). bytes_eq (codes "pred" ++ decimal at) (codes "pred" ++ decimal x)) same ∙ itself (codes "pred" ++ decimal at))
pred_from (suc n) at m (suc j) e l =
    int_or (bytes_eq (codes "pred" ++ decimal at) (codes "pred" ++ decimal m)) _
    (int_or (bytes_eq (codes "val" ++ decimal at) (codes "pred" ++ decimal m)) _ (pred_from n (at + 1) m j (omega arith) (omega arith)))

val_from : (n at m : ℕ) (j : ℕ) → m ≡ at + j → j < n → kind_under (pair_columns n at) (codes "val" ++ decimal m) ≡ Some kind.Int
val_from zero at m j e l = absurd (omega arith)
val_from (suc n) at m zero e l =
    let same : m ≡ at = omega arith in
    int_or (bytes_eq (codes "pred" ++ decimal at) (codes "val" ++ decimal m)) _
    (int_here (bytes_eq (codes "val" ++ decimal at) (codes "val" ++ decimal m)) _ (ap (λ (x : ℕ). bytes_eq (codes "val" ++ decimal at) (codes "val" ++ decimal x)) same ∙ itself (codes "val" ++ decimal at)))
val_from (suc n) at m (suc j) e l =
    int_or (bytes_eq (codes "pred" ++ decimal at) (codes "val" ++ decimal m)) _
    (int_or (bytes_eq (codes "val" ++ decimal at) (codes "val" ++ decimal m)) _ (val_from n (at + 1) m j (omega arith) (omega arith)))

pub pred-kind : (k c : ℕ) → c < k → kind_under (primary_schema k) (pred_name c) ≡ Some kind.Int
pred-kind k c l = int_or (bytes_eq (codes "entry") (pred_name c)) _ (int_or (bytes_eq (codes "spill") (pred_name c)) _ (pred_from k 1 (c + 1) c (omega arith) l))

pub val-kind : (k c : ℕ) → c < k → kind_under (primary_schema k) (val_name c) ≡ Some kind.Int
val-kind k c l = int_or (bytes_eq (codes "entry") (val_name c)) _ (int_or (bytes_eq (codes "spill") (val_name c)) _ (val_from k 1 (c + 1) c (omega arith) l))

-- ---- a step of a star

variable_from : (vs cells : List ℕ) (v : ℕ) → has vs v ≡ true → kind_under (map (λ v. int_column (column v)) vs ++ map (λ i. int_column (cell_name i)) cells) (column v) ≡ Some kind.Int
variable_from [] cells v e = cc
variable_from (w ∷ vs) cells v e = go (or_cases (w == v) (has vs v) e) (variable_from vs cells v)
  where
    go : ((w == v) ≡ true) ⊎ (has vs v ≡ true) → (has vs v ≡ true → kind_under (map (λ v. int_column (column v)) vs ++ map (λ i. int_column (cell_name i)) cells) (column v) ≡ Some kind.Int) →
        kind_under (map (λ v. int_column (column v)) (w ∷ vs) ++ map (λ i. int_column (cell_name i)) cells) (column v) ≡ Some kind.Int
    go (inl q) r = int_here (bytes_eq (column w) (column v)) _ (same_column w v ∙ q)
    go (inr h) r = int_or (bytes_eq (column w) (column v)) _ (r h)

pub variable-kind : (vs cells : List ℕ) (v : ℕ) → has vs v ≡ true → kind_under (partial_schema vs cells) (column v) ≡ Some kind.Int
variable-kind vs cells v e = int_or (bytes_eq one (column v)) _ (variable_from vs cells v e)

cell_alone : (cells : List ℕ) (i : ℕ) → has cells i ≡ true → kind_under (map (λ i. int_column (cell_name i)) cells) (cell_name i) ≡ Some kind.Int
cell_alone [] i e = cc
cell_alone (j ∷ cells) i e = go (or_cases (j == i) (has cells i) e) (cell_alone cells i)
  where
    go : ((j == i) ≡ true) ⊎ (has cells i ≡ true) → (has cells i ≡ true → kind_under (map (λ i. int_column (cell_name i)) cells) (cell_name i) ≡ Some kind.Int) →
        kind_under (map (λ i. int_column (cell_name i)) (j ∷ cells)) (cell_name i) ≡ Some kind.Int
    go (inl q) r = int_here (bytes_eq (cell_name j) (cell_name i)) _ (same_cell_name j i ∙ q)
    go (inr h) r = int_or (bytes_eq (cell_name j) (cell_name i)) _ (r h)

cell_from : (vs cells : List ℕ) (i : ℕ) → has cells i ≡ true → kind_under (map (λ v. int_column (column v)) vs ++ map (λ i. int_column (cell_name i)) cells) (cell_name i) ≡ Some kind.Int
cell_from [] cells i e = cell_alone cells i e
cell_from (v ∷ vs) cells i e = int_or (bytes_eq (column v) (cell_name i)) _ (cell_from vs cells i e)

pub cell-kind : (vs cells : List ℕ) (i : ℕ) → has cells i ≡ true → kind_under (partial_schema vs cells) (cell_name i) ≡ Some kind.Int
cell-kind vs cells i e = int_or (bytes_eq one (cell_name i)) _ (cell_from vs cells i e)

-- a step without cells has the columns of a step
pub no-cells : (vs : List ℕ) → partial_schema vs [] ≡ step_schema vs
no-cells vs = ap (λ (cs : List Column). int_column one ∷ cs) (append-nil (map (λ v. int_column (column v)) vs))
