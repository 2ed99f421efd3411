-- What the rows of tables show.
use Rattle.std.specs.Prelude.{List, map}
use Rattle.table_meaning.specs.declared.cell.Cell.{Cell}
use Rattle.primary_rows.specs.Views.{seen_row}
use Rattle.layout_standing_meaning.specs.Contents.{row_cells, term_cells}
use Rattle.layout_elements.specs.ElementRows.{element_row}
use Rattle.layout_tables.specs.declared.table.TableRows.{TableRows}
use Rattle.layout_tables.specs.declared.table.TableRows.TheVariants.{Primary, Lists, Terms}

abbrev pub shown_rows : TableRows → List (List Cell)
shown_rows (Primary rows) = map (λ r. row_cells (seen_row r)) rows.items
shown_rows (Lists elements) = map element_row elements.items
shown_rows (Terms rows) = map term_cells rows.items
