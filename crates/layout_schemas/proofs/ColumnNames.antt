-- The columns of a primary table have distinct names.
use Rattle.std.proofs.Common.{◌≡◌, ℕ, zero, suc, ◌+◌, ◌^◌, ◌≤◌, ◌<◌, ◌&&◌, Bool, true, false, List, ◌∷◌, ◌++◌, codes, bytes_eq, refl, sym, ap, ◌∙◌, arith}
use Rattle.std.specs.Prelude.{not}
use Rattle.std.specs.Fmt.{decimal}
use Rattle.std.specs.List.{list_any}
use Rattle.std.proofs.lemmas.Bool.{or_from, false_from_ne_true}
use Rattle.std.proofs.lemmas.Fmt.{decimal_injective}
use Rattle.std.proofs.lemmas.Slice.Eq.{bytes_eq-Decides}
use Rattle.table_meaning.specs.declared.schema.Column.{Column}
use Rattle.table_meaning.specs.Schemas.{are_distinct, column_names, is_schema}
use Rattle.layout_standing_meaning.specs.Schemas.{int_column, pair_columns, primary_schema, list_schema, term_schema}

pub both : (x y : Bool) → x ≡ true → y ≡ true → (x && y) ≡ true
both true y a b = b
both false y a b = cc

apart-number : (m n : ℕ) → m < n → n < 2 ^ 64 → bytes_eq (decimal m) (decimal n) ≡ false
apart-number m n l b = false_from_ne_true _ (λ e. let same : m ≡ n = decimal_injective m n (omega arith) b ((bytes_eq-Decides (decimal m) (decimal n)).0 e) in absurd (omega arith))

-- the names of a pair aren't those of later pairs
pred-absent : (number n m : ℕ) → number < m → m + n < 2 ^ 64 → list_any (bytes_eq (codes "pred" ++ decimal number)) (column_names (pair_columns n m)) ≡ false
pred-absent number zero m l few = refl
pred-absent number (suc n) m l few = or_from _ _ (apart-number number m l (omega arith)) (or_from _ _ refl (pred-absent number n (m + 1) (omega arith) (omega arith)))

val-absent : (number n m : ℕ) → number < m → m + n < 2 ^ 64 → list_any (bytes_eq (codes "val" ++ decimal number)) (column_names (pair_columns n m)) ≡ false
val-absent number zero m l few = refl
val-absent number (suc n) m l few = or_from _ _ refl (or_from _ _ (apart-number number m l (omega arith)) (val-absent number n (m + 1) (omega arith) (omega arith)))

distinct-pairs : (n m : ℕ) → m + n < 2 ^ 64 → are_distinct (column_names (pair_columns n m)) ≡ true
distinct-pairs zero m few = refl
distinct-pairs (suc n) m few =
    both _ _ (ap not (or_from _ _ refl (pred-absent m n (m + 1) (omega arith) (omega arith))))
    (both _ _ (ap not (val-absent m n (m + 1) (omega arith) (omega arith))) (distinct-pairs n (m + 1) (omega arith)))

entry-absent : (n m : ℕ) → list_any (bytes_eq (codes "entry")) (column_names (pair_columns n m)) ≡ false
entry-absent zero m = refl
entry-absent (suc n) m = or_from _ _ refl (or_from _ _ refl (entry-absent n (m + 1)))

spill-absent : (n m : ℕ) → list_any (bytes_eq (codes "spill")) (column_names (pair_columns n m)) ≡ false
spill-absent zero m = refl
spill-absent (suc n) m = or_from _ _ refl (or_from _ _ refl (spill-absent n (m + 1)))

pub primary-is : (k : ℕ) → k ≤ 32 → is_schema (primary_schema k) ≡ true
primary-is k few =
    both _ _ (ap not (or_from _ _ refl (entry-absent k 1)))
    (both _ _ (ap not (spill-absent k 1)) (distinct-pairs k 1 (let l : 1 + k ≤ 33 = omega arith in omega arith)))

pub list-is : is_schema list_schema ≡ true
list-is = refl

pub term-is : is_schema term_schema ≡ true
term-is = refl

-- one more pair
pairs-more : (n at : ℕ) → pair_columns (n + 1) at ≡ pair_columns n at ++ pair_columns 1 (at + n)
pairs-more n at = ap (λ (m : ℕ). pair_columns m at) (one-more n) ∙ by n at
  where
    one-more : (m : ℕ) → m + 1 ≡ suc m
    one-more m = omega arith

    moved : (at m : ℕ) → at + 1 + m ≡ at + suc m
    moved at m = omega arith

    by : (m at : ℕ) → pair_columns (suc m) at ≡ pair_columns m at ++ pair_columns 1 (at + m)
    by zero at = ap (λ (i : ℕ). pair_columns 1 i) (same at)
      where
        same : (at : ℕ) → at ≡ at + 0
        same at = omega arith
    by (suc m) at =
        ap (λ (l : List Column). int_column (codes "pred" ++ decimal at) ∷ int_column (codes "val" ++ decimal at) ∷ l)
        (by m (at + 1) ∙ ap (λ (i : ℕ). pair_columns m (at + 1) ++ pair_columns 1 i) (moved at m))

pub primary-more : (n : ℕ) → primary_schema n ++ pair_columns 1 (n + 1) ≡ primary_schema (n + 1)
primary-more n =
    ap (λ (l : List Column). int_column (codes "entry") ∷ int_column (codes "spill") ∷ l)
    (ap (λ (i : ℕ). pair_columns n 1 ++ pair_columns 1 i) (turned n) ∙ sym (pairs-more n 1))
  where
    turned : (m : ℕ) → m + 1 ≡ 1 + m
    turned m = omega arith
