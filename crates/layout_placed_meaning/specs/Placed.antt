-- The tables that a layout gives for a list of changes (this project's own).
use Rattle.std.specs.Prelude.{List, [], ◌∷◌, map, fold, if◌then◌else◌}
use Rattle.table_meaning.specs.Tables.{NamedTable}
use Rattle.line_change_meaning.specs.declared.change.Change.{Change}
use Rattle.line_change_meaning.specs.declared.change.Change.TheVariants.{Add, Delete}
use Rattle.line_change_meaning.specs.Present.{named, is_delete, bulk}
use Rattle.layout_standing_meaning.specs.Schemas.{LayoutOf}
use Rattle.layout_standing_meaning.specs.Stored.{StoreOf, tables_of}
use Rattle.layout_standing_meaning.specs.Changes.{stored_in, taken_out}
use Rattle.layout_bulk_laws.specs.BulkStore.{bulk_store}

-- a store after a change: an added triple is put in, and a deleted one taken out
abbrev pub changed_in : StoreOf → Change → StoreOf
changed_in s (Add t) = stored_in s t
changed_in s (Delete t) = taken_out s t

-- the changes from the first deletion on
abbrev pub later_changes : List Change → List Change
later_changes [] = []
later_changes (change ∷ changes) = if is_delete change then change ∷ changes else later_changes changes

-- the bulk is placed at once, and the later changes are made one by one
abbrev pub placed_store : LayoutOf → List Change → StoreOf
placed_store layout changes = fold changed_in (bulk_store layout (map named (bulk changes))) (later_changes changes)

abbrev pub placed_tables : LayoutOf → List Change → List NamedTable
placed_tables layout changes = tables_of (placed_store layout changes)
