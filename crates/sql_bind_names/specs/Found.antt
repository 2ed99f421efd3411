-- What was found under a name: its kind and its place, or none.
use Rattle.std.specs.Prelude.{◌≡◌, Option, Some, None}
use Rattle.table_meaning.specs.declared.kind.Kind.{Kind}
use Rattle.sql_bind_meaning.specs.declared.expression.BoundExpr.{BoundExpr}
use Rattle.sql_bind_meaning.specs.declared.expression.BoundExpr.TheVariants as v
use Rattle.sql_bind_names.specs.declared.found.Place.{Place}

abbrev pub Finds : Option Kind → BoundExpr → Option Place → Type 0
Finds kind place None = kind ≡ None
Finds kind place (Some p) = (kind ≡ Some p.kind) × (place ≡ v.Cell p.source p.column)
