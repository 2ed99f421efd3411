-- Cells compared (this project's own): null stands first, ints go by size, texts by their bytes, false before true.
-- Cells of unlike kinds are compared by no script that binds; they go in this order.
use Rattle.std.specs.Prelude.{Bool, true, false, if◌then◌else◌, not, ◌||◌}
use Rattle.std.specs.Str.{bytes_eq}
use Rattle.std.specs.declared.cmp.Ordering.{Ordering}
use Rattle.std.specs.declared.cmp.Ordering.TheVariants.{Less, Equal, Greater}
use Rattle.std.specs.Ordering.{nat_cmp, int_cmp, int_eq, bool_cmp, is_lt}
use Rattle.std.specs.Cmp.Lexicographic.{slice_cmp}
use Rattle.table_meaning.specs.declared.cell.Cell.{Cell}
use Rattle.table_meaning.specs.declared.cell.Cell.TheVariants.{Null, Int, Text, Truth}

abbrev pub is_null : Cell → Bool
is_null Null = true
is_null _ = false

-- the order of a key
abbrev pub cell_order : Cell → Cell → Ordering
cell_order Null Null = Equal
cell_order Null y = Less
cell_order (Int a) Null = Greater
cell_order (Int a) (Int b) = int_cmp a b
cell_order (Int a) y = Less
cell_order (Text a) Null = Greater
cell_order (Text a) (Int b) = Greater
cell_order (Text a) (Text b) = slice_cmp nat_cmp a b
cell_order (Text a) (Truth b) = Less
cell_order (Truth a) (Truth b) = bool_cmp a b
cell_order (Truth a) y = Greater

-- nulls are equal here
abbrev pub same_cell : Cell → Cell → Bool
same_cell Null Null = true
same_cell (Int a) (Int b) = int_eq a b
same_cell (Text a) (Text b) = bytes_eq a b
same_cell (Truth a) (Truth b) = if a then b else not b
same_cell _ _ = false

-- a truth about two cells, and null where one of them is null
abbrev pub unless_null : Cell → Cell → Bool → Cell
unless_null a b truth = if is_null a || is_null b then Null else Truth truth

-- `=`
abbrev pub equal_cells : Cell → Cell → Cell
equal_cells a b = unless_null a b (same_cell a b)

-- `<`, by the order of a key
abbrev pub less_cells : Cell → Cell → Cell
less_cells a b = unless_null a b (is_lt (cell_order a b))
