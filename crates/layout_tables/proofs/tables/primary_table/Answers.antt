use Rattle.layout_standing_meaning.specs.Schemas.{table_of}
use Rattle.layout_tables.proofs.Places.{shown-primary}
use Rattle.layout_tables.proofs.tables.primary_table.Goals as goal

pub returns : goal.returns
returns c = let name = c.in_ok-text_of.ensures in let schema = c.in_ok-primary_schema.ensures in let rows = shown-primary c.args.rows.items in λ i. table_of (name i) (schema i) (rows i)
