-- Indexes that are kept beside the relations.
use Rattle.std.specs.Prelude.{◌<◌, List, length}
use Rattle.table_meaning.specs.declared.cell.Cell.{Cell}
use Rattle.sql_bind_meaning.specs.Sources.{relation_rows}
use Rattle.sql_index.specs.Found.{IsIndexOf}
use Rattle.sql_engine_values.specs.declared.kept.KeptIndex.{KeptIndex}

-- the index of a column of a relation that is there
abbrev pub IsKept : List (List (List Cell)) → KeptIndex → Type 0
IsKept relations kept = (kept.relation < length relations) × IsIndexOf kept.index (relation_rows relations kept.relation) kept.column
