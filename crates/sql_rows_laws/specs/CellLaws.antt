-- Cells stand in a total order, and those that tie are equal.
use Rattle.std.specs.Prelude.{◌≡◌, ℕ, ℤ, Bool, true, false, List, Option, Some, None, refl}
use Rattle.std.proofs.Common.{sym, ap, subst}
use Rattle.std.proofs.Math.Path.{fun_ext}
use Rattle.std.specs.Bool.{Decides}
use Rattle.std.specs.Cmp.{IsTotalOrder, bool_cmp_total}
use Rattle.std.specs.Cmp.Lexicographic.{slice_cmp, options_total}
use Rattle.std.proofs.lemmas.Bool.Decides.{Decides-int_eq}
use Rattle.std.proofs.lemmas.Cmp.{nat_cmp_total, int_cmp_total, nat_list_cmp_total, on_total, then_total}
use Rattle.std.proofs.lemmas.Map.Lookups.{CmpEqualImpliesEq, exact_bytes, exact_signed}
use Rattle.std.proofs.lemmas.Slice.Eq.{bytes_eq-Decides}
use Rattle.std.specs.declared.cmp.Ordering.{Ordering}
use Rattle.std.specs.declared.cmp.Ordering.TheVariants.{Less, Equal, Greater}
use Rattle.std.specs.Ordering.{nat_cmp, int_cmp, bool_cmp, on, then_cmp, ordering_then}
use Rattle.std.specs.Option.{option_cmp}
use Rattle.table_meaning.specs.declared.cell.Cell.{Cell}
use Rattle.table_meaning.specs.declared.cell.Cell.TheVariants.{Null, Int, Text, Truth}
use Rattle.sql_rows_meaning.specs.Cells.{cell_order, same_cell}

abbrev rank : Cell → ℕ
rank Null = 0
rank (Int n) = 1
rank (Text t) = 2
rank (Truth b) = 3

abbrev number : Cell → Option ℤ
number (Int n) = Some n
number _ = None

abbrev text : Cell → Option (List ℕ)
text (Text t) = Some t
text _ = None

abbrev truth : Cell → Option Bool
truth (Truth b) = Some b
truth _ = None

-- by the kind, and then by what there is
abbrev by_parts : Cell → Cell → Ordering
by_parts = then_cmp (on rank nat_cmp) (then_cmp (on number (option_cmp int_cmp)) (then_cmp (on text (option_cmp (slice_cmp nat_cmp))) (on truth (option_cmp bool_cmp))))

then_equal : (o : Ordering) → o ≡ ordering_then o Equal
then_equal Less = refl
then_equal Equal = refl
then_equal Greater = refl

order-is : (a b : Cell) → cell_order a b ≡ by_parts a b
order-is Null Null = refl
order-is Null (Int b) = refl
order-is Null (Text b) = refl
order-is Null (Truth b) = refl
order-is (Int a) Null = refl
order-is (Int a) (Int b) = then_equal (int_cmp a b)
order-is (Int a) (Text b) = refl
order-is (Int a) (Truth b) = refl
order-is (Text a) Null = refl
order-is (Text a) (Int b) = refl
order-is (Text a) (Text b) = then_equal (slice_cmp nat_cmp a b)
order-is (Text a) (Truth b) = refl
order-is (Truth a) Null = refl
order-is (Truth a) (Int b) = refl
order-is (Truth a) (Text b) = refl
order-is (Truth a) (Truth b) = refl

by_parts_total : IsTotalOrder by_parts
by_parts_total =
    then_total (on_total rank nat_cmp_total) (then_total (on_total number (options_total int_cmp_total))
    (then_total (on_total text (options_total nat_list_cmp_total)) (on_total truth (options_total bool_cmp_total))))

pub cell_order_total : IsTotalOrder cell_order
cell_order_total = subst IsTotalOrder (sym (fun_ext (λ a. fun_ext (λ b. order-is a b)))) by_parts_total

pub cell_order_ties : CmpEqualImpliesEq cell_order
cell_order_ties Null Null e = refl
cell_order_ties Null (Int b) e = cc
cell_order_ties Null (Text b) e = cc
cell_order_ties Null (Truth b) e = cc
cell_order_ties (Int a) Null e = cc
cell_order_ties (Int a) (Int b) e = ap Int (exact_signed a b e)
cell_order_ties (Int a) (Text b) e = cc
cell_order_ties (Int a) (Truth b) e = cc
cell_order_ties (Text a) Null e = cc
cell_order_ties (Text a) (Int b) e = cc
cell_order_ties (Text a) (Text b) e = ap Text (exact_bytes a b e)
cell_order_ties (Text a) (Truth b) e = cc
cell_order_ties (Truth a) Null e = cc
cell_order_ties (Truth a) (Int b) e = cc
cell_order_ties (Truth a) (Text b) e = cc
cell_order_ties (Truth true) (Truth true) e = refl
cell_order_ties (Truth true) (Truth false) e = cc
cell_order_ties (Truth false) (Truth true) e = cc
cell_order_ties (Truth false) (Truth false) e = refl

cell-is : (a b : Cell) → same_cell a b ≡ true → a ≡ b
cell-is Null Null h = refl
cell-is Null (Int b) h = cc
cell-is Null (Text b) h = cc
cell-is Null (Truth b) h = cc
cell-is (Int a) Null h = cc
cell-is (Int a) (Int b) h = ap Int ((Decides-int_eq a b).0 h)
cell-is (Int a) (Text b) h = cc
cell-is (Int a) (Truth b) h = cc
cell-is (Text a) Null h = cc
cell-is (Text a) (Int b) h = cc
cell-is (Text a) (Text b) h = ap Text ((bytes_eq-Decides a b).0 h)
cell-is (Text a) (Truth b) h = cc
cell-is (Truth a) Null h = cc
cell-is (Truth a) (Int b) h = cc
cell-is (Truth a) (Text b) h = cc
cell-is (Truth true) (Truth true) h = refl
cell-is (Truth true) (Truth false) h = cc
cell-is (Truth false) (Truth true) h = cc
cell-is (Truth false) (Truth false) h = refl

cell-self : (a : Cell) → same_cell a a ≡ true
cell-self Null = refl
cell-self (Int a) = (Decides-int_eq a a).1 refl
cell-self (Text a) = (bytes_eq-Decides a a).1 refl
cell-self (Truth true) = refl
cell-self (Truth false) = refl

-- the test of cells says whether they are the same
pub same_cell-Decides : (a b : Cell) → Decides (same_cell a b) (a ≡ b)
same_cell-Decides a b = (cell-is a b, λ e. subst (λ (x : Cell). same_cell a x ≡ true) e (cell-self a))
