use Rattle.std.proofs.Common.{◌≡◌}
use Rattle.layout_standing_meaning.specs.Schemas.{primary_schema}
use Rattle.layout_schemas.proofs.schemas.primary_columns.Given as goal

abbrev pub invariant-loop-at : goal.invariant-loop-at
invariant-loop-at l = l.columns.items ≡ primary_schema l.at
