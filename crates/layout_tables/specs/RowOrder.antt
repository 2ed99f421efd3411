-- The order of the rows of the five tables (this project's own).
use Rattle.std.specs.Prelude.{◌≡◌, ◌⊎◌, ℕ, ◌<◌, List, AllPairs}
use Rattle.table_meaning.specs.Tables.{NamedTable}
use Rattle.layout_meaning.specs.Rows.{NumberedRow}
use Rattle.layout_standing_meaning.specs.Dictionary.{Entry}
use Rattle.layout_standing_meaning.specs.Schemas.{LayoutOf, five_tables}
use Rattle.layout_standing_meaning.specs.Contents.{SideContents, Contents, rows_said}

-- a row stands before another: its entity is lower, or it is the same entity and the row's number is lower
abbrev pub StandsBefore : NumberedRow → NumberedRow → Type 0
StandsBefore r q = (r.entity < q.entity) ⊎ ((r.entity ≡ q.entity) × (r.spill < q.spill))

-- rows by rising entity, then by rising number; lists by rising number, which is by falling id
pub record IsInOrder (s : SideContents) : Type 0 where
  pub rows : AllPairs StandsBefore s.rows
  pub lists : AllPairs (λ (l m : ℕ × List ℕ). l.0 < m.0) s.lists

-- The rows of exactly these five tables are those of the contents, one after another as the contents have them: rows by rising
-- entity, then by rising number; the elements of each list in their order, lists by falling id; terms by rising id.
pub record StandInOrder (layout : LayoutOf) (c : Contents) (tables : List NamedTable) : Type 0 where
  pub rows : tables ≡ five_tables layout (rows_said c)
  pub direct : IsInOrder c.direct
  pub reverse : IsInOrder c.reverse
  pub terms : AllPairs (λ (e f : Entry). e.id < f.id) c.terms
