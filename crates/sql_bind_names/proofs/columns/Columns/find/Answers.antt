use Rattle.std.proofs.Common.{◌≡◌, List, ℕ, Some, None, subst}
use Rattle.table_meaning.specs.declared.schema.Column.{Column}
use Rattle.sql_rows_meaning.specs.Scopes.{kind_under}
use Rattle.sql_bind_laws.specs.Places.{column_place}
use Rattle.sql_bind_names.specs.Entries.{all_columns}
use Rattle.sql_bind_names.specs.Found.{Finds}
use Rattle.sql_bind_names.proofs.Headings.{column_found, column_missing}
use Rattle.sql_bind_names.proofs.columns.Columns.find.Goals as goal

pub returns-in-Some : goal.returns-in-Some
returns-in-Some c =
    let es = c.self.inside.kinds.entries in
    let name : List ℕ = c.args.name.now in
    let view : all_columns es ≡ c.args.self.now = c.self.view_is in
    subst (λ (l : List Column). Finds (kind_under l name) (column_place c.args.source 0 l name) (Some (record { kind = c.in-Some.kind.now; source = c.args.source; column = c.in-Some.column }))) view
    (column_found es name c.args.source c.in-Some.column c.in-Some.kind.now c.in-Some.ensures.index c.in-Some.ensures.value)

pub returns-in-None : goal.returns-in-None
returns-in-None c =
    let es = c.self.inside.kinds.entries in
    let name : List ℕ = c.args.name.now in
    let view : all_columns es ≡ c.args.self.now = c.self.view_is in
    subst (λ (l : List Column). Finds (kind_under l name) (column_place c.args.source 0 l name) None) view (column_missing es name (column_place c.args.source 0 (all_columns es) name) c.in-None.ensures.value)
