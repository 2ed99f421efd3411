use Rattle.sql_rows_laws.specs.NameLaws.{script-schema}
use Rattle.sql_rows_laws.proofs.rows.bound_columns_are_a_schema.Goals as goal

pub returns : goal.returns
returns c = script-schema
