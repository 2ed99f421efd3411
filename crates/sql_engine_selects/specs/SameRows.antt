-- Equal cells and equal rows: the tests say it, and equal ones feed a hasher alike.
use Rattle.std.specs.Prelude.{◌≡◌, Bool, true, List, [], ◌∷◌, refl, IsTrue}
use Rattle.std.specs.Cmp.{IsEquivalence, first_so, second_so}
use Rattle.std.specs.Cmp.Lexicographic.{pointwise}
use Rattle.std.specs.Hash as fed
use Rattle.std.specs.Bool.{Decides}
use Rattle.std.proofs.Common.{ap, ap₂, subst}
use Rattle.bags.specs.Sort.{same_items}
use Rattle.rdf_meaning.specs.TermLaws.{decided_equiv}
use Rattle.table_meaning.specs.declared.cell.Cell.{Cell}
use Rattle.table_meaning.specs.declared.cell.Cell.TheVariants.{Null, Int, Text, Truth}
use Rattle.sql_rows_meaning.specs.Cells.{same_cell}
use Rattle.sql_rows_laws.specs.CellLaws.{same_cell-Decides}

abbrev pub same_row : List Cell → List Cell → Bool
same_row = same_items same_cell

pub same_cell_equiv : IsEquivalence same_cell
same_cell_equiv = decided_equiv same_cell same_cell-Decides

row-is : (a b : List Cell) → same_row a b ≡ true → a ≡ b
row-is [] [] h = refl
row-is [] (y ∷ b) h = cc
row-is (x ∷ a) [] h = cc
row-is (x ∷ a) (y ∷ b) h = ap₂ (λ (z : Cell) (zs : List Cell). z ∷ zs) ((same_cell-Decides x y).0 (first_so _ _ h)) (row-is a b (second_so _ _ h))

row-self : (a : List Cell) → same_row a a ≡ true
row-self [] = refl
row-self (x ∷ a) = rw ((same_cell-Decides x x).1 refl, row-self a) refl

-- the test of rows says whether they are the same
pub same_row-Decides : (a b : List Cell) → Decides (same_row a b) (a ≡ b)
same_row-Decides a b = (row-is a b, λ e. subst (λ (x : List Cell). same_row a x ≡ true) e (row-self a))

pub same_row_equiv : IsEquivalence same_row
same_row_equiv = decided_equiv same_row same_row-Decides

-- what a cell feeds a hasher
abbrev pub cell_writes : Cell → fed.HashWrites
cell_writes Null = fed.u8 0
cell_writes (Int n) = fed.i128 n
cell_writes (Text t) = fed.str t
cell_writes (Truth b) = fed.bool b

pub same_cell_hash : (a b : Cell) → IsTrue (same_cell a b) → cell_writes a ≡ cell_writes b
same_cell_hash a b h = ap cell_writes ((same_cell-Decides a b).0 h)

-- what a row feeds a hasher
abbrev pub row_writes : List Cell → fed.HashWrites
row_writes = fed.slice cell_writes

pub same_row_hash : (a b : List Cell) → IsTrue (same_row a b) → row_writes a ≡ row_writes b
same_row_hash a b h = ap row_writes (row-is a b h)

-- the standard library's test of lists is the same
pub same_row_is : (a b : List Cell) → pointwise same_cell a b ≡ same_row a b
same_row_is [] [] = refl
same_row_is [] (y ∷ b) = refl
same_row_is (x ∷ a) [] = refl
same_row_is (x ∷ a) (y ∷ b) = rw (same_row_is a b) refl
