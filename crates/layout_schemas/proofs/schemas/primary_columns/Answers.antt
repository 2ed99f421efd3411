use Rattle.std.proofs.Common.{◌+◌, ◌++◌, List, ap, ◌∙◌}
use Rattle.table_meaning.specs.declared.schema.Column.{Column}
use Rattle.layout_standing_meaning.specs.Schemas.{pair_columns}
use Rattle.layout_schemas.proofs.ColumnNames.{primary-more}
use Rattle.layout_schemas.proofs.schemas.primary_columns.Goals as goal

pub loop-at-preserved : goal.loop-at-preserved
loop-at-preserved c = c.in_ok-push_pair.ensures ∙ ap (λ (l : List Column). l ++ pair_columns 1 (c.loop-at.at + 1)) c.loop-at.invariant ∙ primary-more c.loop-at.at
