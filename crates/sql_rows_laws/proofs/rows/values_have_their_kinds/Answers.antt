use Rattle.sql_rows_laws.specs.KindLaws.{value-kind}
use Rattle.sql_rows_laws.proofs.rows.values_have_their_kinds.Goals as goal

pub returns : goal.returns
returns c = value-kind
