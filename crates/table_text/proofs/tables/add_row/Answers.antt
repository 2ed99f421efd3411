use Rattle.std.proofs.Common.{◌≡◌, sym, ◌∙◌, ap, List, ◌+◌, ◌-◌, ◌++◌, ◌∷◌, [], length, arith}
use Rattle.table_meaning.specs.declared.schema.Column.{Column}
use Rattle.table_meaning.specs.Tables.{NamedTable}
use Rattle.table_text.specs.Reading.{cells_of, fields_of}
use Rattle.table_text.proofs.LastRow.{row_some, row_none, names_kept}
use Rattle.table_text.proofs.tables.add_row.Goals as goal

pub returns-in_default-clause-step : goal.returns-in_default-clause-step
returns-in_default-clause-step c =
    let count : (c.len-count.result - 1) + 1 ≡ length c.args.tables.now.items = omega arith in
    row_none c.args.tables.now.items (c.len-count.result - 1) c.args.line.now c.index_mut-table.result.now count c.index_mut-table.ensures.value
    (sym c.in_default.is ∙ c.in_ok-row.ensures ∙ ap (λ (cs : List Column). cells_of cs (fields_of c.args.line.now)) (c.columns.ensures.value ∙ ap (λ (x : NamedTable). x.schema) c.table.view_is))

pub returns-clause-step : goal.returns-clause-step
returns-clause-step c =
    let t : NamedTable = c.index_mut-table.result.now in
    let count : (c.len-count.result - 1) + 1 ≡ length c.args.tables.now.items = omega arith in
    let rows : c.push.new.self.items ≡ t.rows ++ c.in-Some.row ∷ [] = c.in_ok-push.ensures.items ∙ ap (λ (x : NamedTable). x.rows ++ c.in-Some.row ∷ []) c.table.view_is in
    row_some c.args.tables.now.items (c.len-count.result - 1) c.args.line.now t _ c.in-Some.row count c.index_mut-table.ensures.value
    (sym c.in-Some.is ∙ c.in_ok-row.ensures ∙ ap (λ (cs : List Column). cells_of cs (fields_of c.args.line.now)) (c.columns.ensures.value ∙ ap (λ (x : NamedTable). x.schema) c.table.view_is))
    (λ i. record { name = (c.table.view_is i).name; schema = (c.table.view_is i).schema; rows = rows i })

pub returns-clause-names : goal.returns-clause-names
returns-clause-names c =
    names_kept c.args.tables.now.items (c.len-count.result - 1) c.index_mut-table.result.now _ c.index_mut-table.ensures.value (ap (λ (x : NamedTable). x.name) c.table.view_is)
