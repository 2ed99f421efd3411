use Rattle.std.proofs.Common.{◌≡◌, true, List, sym, subst}
use Rattle.table_meaning.specs.declared.schema.Column.{Column}
use Rattle.table_meaning.specs.Schemas.{is_schema}
use Rattle.layout_schemas.proofs.ColumnNames.{primary-is}
use Rattle.layout_schemas.proofs.schemas.primary_schema.Goals as goal

pub new-requires : goal.new-requires
new-requires c = subst (λ (l : List Column). is_schema l ≡ true) (sym c.in_ok-columns.ensures) (primary-is c.args.count c.requires)
