-- The cells of a primary row, by name.
use Rattle.std.proofs.Common.{◌≡◌, ℕ, zero, suc, ◌+◌, ◌^◌, ◌≤◌, ◌<◌, Bool, true, false, if◌then◌else◌, List, [], ◌∷◌, ◌++◌, Option, Some, None, length, codes, bytes_eq, refl, ap, ◌∙◌, arith}
use Rattle.std.specs.Fmt.{decimal}
use Rattle.std.specs.List.{flat_map}
use Rattle.std.proofs.lemmas.Bool.{false_from_ne_true}
use Rattle.std.proofs.lemmas.Fmt.{decimal_injective}
use Rattle.std.proofs.lemmas.Slice.Eq.{bytes_eq-Decides}
use Rattle.table_meaning.specs.declared.cell.Cell.{Cell}
use Rattle.table_meaning.specs.Schemas.{column_names}
use Rattle.sql_rows_meaning.specs.Tables.{cell_under}
use Rattle.layout_meaning.specs.Side.{Pair, Row}
use Rattle.layout_meaning.specs.Sound.{pair_at}
use Rattle.layout_meaning.specs.Rows.{NumberedRow}
use Rattle.layout_standing_meaning.specs.Schemas.{pair_columns}
use Rattle.layout_standing_meaning.specs.Contents.{pair_cells, row_cells}
use Rattle.sql_gen_step_laws.specs.Carried.{Name}
use Rattle.layout_row_meaning.specs.Reading.{value_in}
use Rattle.sql_gen_star_meaning.specs.Partials.{pred_of}
use Rattle.sql_gen_star_meaning.specs.SideTables.{pred_name, val_name, primary_columns, id_or_null, value_or_null}

abbrev pred_named : ℕ → Name
pred_named n = codes "pred" ++ decimal n

abbrev val_named : ℕ → Name
val_named n = codes "val" ++ decimal n

apart : (m n : ℕ) → m < 2 ^ 64 → n < 2 ^ 64 → (m ≡ n → ⊥) → bytes_eq (decimal m) (decimal n) ≡ false
apart m n a b ne = false_from_ne_true _ (λ e. ne (decimal_injective m n a b ((bytes_eq-Decides (decimal m) (decimal n)).0 e)))

cells_are : (p : Option Pair) → pair_cells p ≡ id_or_null (pred_of p) ∷ value_or_null (value_in p) ∷ []
cells_are None = refl
cells_are (Some p) = refl

-- the columns of a pair before others
abbrev two_first : ℕ → ℕ → Row → List Cell → Name → Cell
two_first n at pairs cells name = cell_under (column_names (pair_columns (suc n) at)) (cells ++ flat_map pair_cells pairs) name

pred_from : (pairs : Row) (n at i m : ℕ) → length pairs ≡ n → at + n ≤ 2 ^ 64 → i < n → m ≡ at + i → cell_under (column_names (pair_columns n at)) (flat_map pair_cells pairs) (pred_named m) ≡ id_or_null (pred_of (pair_at pairs i))
pred_from [] n at i m len few l e = absurd (omega arith)
pred_from (p ∷ pairs) zero at i m len few l e = absurd (omega arith)
pred_from (p ∷ pairs) (suc n) at zero m len few l e =
    let same : at ≡ m = omega arith in
    let t : bytes_eq (pred_named at) (pred_named m) ≡ true = (bytes_eq-Decides (pred_named at) (pred_named m)).1 (ap pred_named same) in
    ap (λ (cells : List Cell). two_first n at pairs cells (pred_named m)) (cells_are p)
    ∙ ap (λ (b : Bool). if b then id_or_null (pred_of p) else (if bytes_eq (val_named at) (pred_named m) then value_or_null (value_in p) else cell_under (column_names (pair_columns n (at + 1))) (flat_map pair_cells pairs) (pred_named m))) t
pred_from (p ∷ pairs) (suc n) at (suc i) m len few l e =
    let f : bytes_eq (pred_named at) (pred_named m) ≡ false = apart at m (omega arith) (omega arith) (λ (s : at ≡ m). absurd (omega arith)) in
    ap (λ (cells : List Cell). two_first n at pairs cells (pred_named m)) (cells_are p)
    ∙ ap (λ (b : Bool). if b then id_or_null (pred_of p) else (if bytes_eq (val_named at) (pred_named m) then value_or_null (value_in p) else cell_under (column_names (pair_columns n (at + 1))) (flat_map pair_cells pairs) (pred_named m))) f
    ∙ pred_from pairs n (at + 1) i m (omega arith) (omega arith) (omega arith) (omega arith)

val_from : (pairs : Row) (n at i m : ℕ) → length pairs ≡ n → at + n ≤ 2 ^ 64 → i < n → m ≡ at + i → cell_under (column_names (pair_columns n at)) (flat_map pair_cells pairs) (val_named m) ≡ value_or_null (value_in (pair_at pairs i))
val_from [] n at i m len few l e = absurd (omega arith)
val_from (p ∷ pairs) zero at i m len few l e = absurd (omega arith)
val_from (p ∷ pairs) (suc n) at zero m len few l e =
    let same : at ≡ m = omega arith in
    let t : bytes_eq (val_named at) (val_named m) ≡ true = (bytes_eq-Decides (val_named at) (val_named m)).1 (ap val_named same) in
    ap (λ (cells : List Cell). two_first n at pairs cells (val_named m)) (cells_are p)
    ∙ ap (λ (b : Bool). if b then value_or_null (value_in p) else cell_under (column_names (pair_columns n (at + 1))) (flat_map pair_cells pairs) (val_named m)) t
val_from (p ∷ pairs) (suc n) at (suc i) m len few l e =
    let f : bytes_eq (val_named at) (val_named m) ≡ false = apart at m (omega arith) (omega arith) (λ (s : at ≡ m). absurd (omega arith)) in
    ap (λ (cells : List Cell). two_first n at pairs cells (val_named m)) (cells_are p)
    ∙ ap (λ (b : Bool). if b then value_or_null (value_in p) else cell_under (column_names (pair_columns n (at + 1))) (flat_map pair_cells pairs) (val_named m)) f
    ∙ val_from pairs n (at + 1) i m (omega arith) (omega arith) (omega arith) (omega arith)

pub pred_at : (r : NumberedRow) (k c : ℕ) → length r.pairs ≡ k → k < 2 ^ 64 → c < k → cell_under (primary_columns k) (row_cells r) (pred_name c) ≡ id_or_null (pred_of (pair_at r.pairs c))
pred_at r k c wide few l = pred_from r.pairs k 1 c (c + 1) wide (omega arith) l (omega arith)

pub val_at : (r : NumberedRow) (k c : ℕ) → length r.pairs ≡ k → k < 2 ^ 64 → c < k → cell_under (primary_columns k) (row_cells r) (val_name c) ≡ value_or_null (value_in (pair_at r.pairs c))
val_at r k c wide few l = val_from r.pairs k 1 c (c + 1) wide (omega arith) l (omega arith)
