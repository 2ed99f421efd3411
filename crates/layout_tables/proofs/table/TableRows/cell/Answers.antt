use Rattle.std.proofs.Common.{◌≡◌, ◌<◌, List, [], Option, Some, map, length, slice_get, sym, ap, subst, ◌∙◌}
use Rattle.std.specs.Prelude.{unwrap_or}
use Rattle.table_meaning.specs.declared.cell.Cell.{Cell}
use Rattle.table_meaning.specs.declared.cell.Cell.TheVariants.{Null}
use Rattle.primary_rows.specs.declared.views.RowView.{RowView}
use Rattle.primary_rows.specs.Views.{seen_row}
use Rattle.layout_standing_meaning.specs.Contents.{row_cells, term_cells}
use Rattle.layout_elements.specs.ElementRows.{element_row}
use Rattle.layout_tables.specs.Shown.{shown_rows}
use Rattle.layout_tables.specs.declared.table.TableRows.{TableRows}
use Rattle.layout_tables.proofs.Places.{mapped-at}
use Rattle.layout_tables.proofs.table.TableRows.cell.Goals as goal

pub returns-in-Primary : goal.returns-in-Primary
returns-in-Primary c =
    let l : c.args.row < length (map (λ (r : RowView). row_cells (seen_row r)) c.in-Primary.rows.items) = subst (λ (rows : TableRows). c.args.row < length (shown_rows rows)) c.in-Primary.is c.requires in
    let at : slice_get (shown_rows c.args.self.now) c.args.row ≡ Some (row_cells (seen_row c.index.result.now))
    = ap (λ (rows : TableRows). slice_get (shown_rows rows) c.args.row) c.in-Primary.is ∙ mapped-at (λ (r : RowView). row_cells (seen_row r)) c.in-Primary.rows.items c.args.row c.index.result.now l c.index.ensures in
    c.primary_cell.ensures ∙ sym (ap (λ (o : Option (List Cell)). unwrap_or (slice_get (unwrap_or o []) c.args.col) Null) at)

pub returns-in-Lists : goal.returns-in-Lists
returns-in-Lists c =
    let l : c.args.row < length (map element_row c.in-Lists.elements.items) = subst (λ (rows : TableRows). c.args.row < length (shown_rows rows)) c.in-Lists.is c.requires in
    let at : slice_get (shown_rows c.args.self.now) c.args.row ≡ Some (element_row c.index-in-Lists.result.now)
    = ap (λ (rows : TableRows). slice_get (shown_rows rows) c.args.row) c.in-Lists.is ∙ mapped-at element_row c.in-Lists.elements.items c.args.row c.index-in-Lists.result.now l c.index-in-Lists.ensures in
    c.element_cell.ensures ∙ sym (ap (λ (o : Option (List Cell)). unwrap_or (slice_get (unwrap_or o []) c.args.col) Null) at)

pub returns-in-Terms : goal.returns-in-Terms
returns-in-Terms c =
    let l : c.args.row < length (map term_cells c.in-Terms.rows.items) = subst (λ (rows : TableRows). c.args.row < length (shown_rows rows)) c.in-Terms.is c.requires in
    let at : slice_get (shown_rows c.args.self.now) c.args.row ≡ Some (term_cells c.index-in-Terms.result.now)
    = ap (λ (rows : TableRows). slice_get (shown_rows rows) c.args.row) c.in-Terms.is ∙ mapped-at term_cells c.in-Terms.rows.items c.args.row c.index-in-Terms.result.now l c.index-in-Terms.ensures in
    c.cell.ensures ∙ sym (ap (λ (o : Option (List Cell)). unwrap_or (slice_get (unwrap_or o []) c.args.col) Null) at)
