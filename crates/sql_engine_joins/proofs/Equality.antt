-- Equality of cells.
use Rattle.std.proofs.Common.{◌≡◌, ℕ, ℤ, Bool, true, false, List, refl, sym}
use Rattle.std.specs.Prelude.{not, if◌then◌else◌}
use Rattle.std.specs.Str.{bytes_eq}
use Rattle.std.specs.Ordering.{int_eq}
use Rattle.std.proofs.lemmas.Slice.Eq.{bytes_eq-Decides}
use Rattle.std.proofs.lemmas.Bool.Decides.{Decides-int_eq}
use Rattle.table_meaning.specs.declared.cell.Cell.{Cell}
use Rattle.table_meaning.specs.declared.cell.Cell.TheVariants.{Null, Int, Text, Truth}
use Rattle.sql_rows_meaning.specs.Cells.{equal_cells}
use Rattle.sql_rows_meaning.specs.Values.{is_true}

same_bool : (a b : Bool) → (a ≡ true → b ≡ true) → (b ≡ true → a ≡ true) → a ≡ b
same_bool true b f g = sym (f refl)
same_bool false true f g = g refl
same_bool false false f g = refl

ints : (a b : ℤ) → int_eq a b ≡ int_eq b a
ints a b = same_bool (int_eq a b) (int_eq b a) (λ e. (Decides-int_eq b a).1 (sym ((Decides-int_eq a b).0 e))) (λ e. (Decides-int_eq a b).1 (sym ((Decides-int_eq b a).0 e)))

texts : (a b : List ℕ) → bytes_eq a b ≡ bytes_eq b a
texts a b = same_bool (bytes_eq a b) (bytes_eq b a) (λ e. (bytes_eq-Decides b a).1 (sym ((bytes_eq-Decides a b).0 e))) (λ e. (bytes_eq-Decides a b).1 (sym ((bytes_eq-Decides b a).0 e)))

truths : (a b : Bool) → (if a then b else not b) ≡ (if b then a else not a)
truths true true = refl
truths true false = refl
truths false true = refl
truths false false = refl

-- two cells are equal either way round
pub equal_turned : (a b : Cell) → is_true (equal_cells a b) ≡ is_true (equal_cells b a)
equal_turned Null Null = refl
equal_turned Null (Int y) = refl
equal_turned Null (Text y) = refl
equal_turned Null (Truth y) = refl
equal_turned (Int x) Null = refl
equal_turned (Int x) (Int y) = ints x y
equal_turned (Int x) (Text y) = refl
equal_turned (Int x) (Truth y) = refl
equal_turned (Text x) Null = refl
equal_turned (Text x) (Int y) = refl
equal_turned (Text x) (Text y) = texts x y
equal_turned (Text x) (Truth y) = refl
equal_turned (Truth x) Null = refl
equal_turned (Truth x) (Int y) = refl
equal_turned (Truth x) (Text y) = refl
equal_turned (Truth x) (Truth y) = truths x y
