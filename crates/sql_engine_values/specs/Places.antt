-- Rows that are picked from the sources of a SELECT, kept as the numbers of these rows.
use Rattle.std.specs.Prelude.{ℕ, List, [], ◌∷◌, map, Option, Some, None}
use Rattle.table_meaning.specs.declared.cell.Cell.{Cell}
use Rattle.sql_bind_meaning.specs.declared.script.BoundCore.{BoundCore}
use Rattle.sql_bind_meaning.specs.declared.script.BoundJoin.{BoundJoin}
use Rattle.sql_bind_meaning.specs.Values.{Picked, row_in}
use Rattle.sql_bind_meaning.specs.Sources.{relation_rows}

-- what a SELECT reads: the relations of the script, and for each of its sources the number of its relation
pub record SourceList : Type 0 where
  pub relations : List (List (List Cell))
  pub numbers : List ℕ

-- the rows with these numbers, one a source; without cells where there is no such row, or no such source
abbrev pub rows_at : List (List (List Cell)) → List ℕ → List ℕ → Picked
rows_at relations sources [] = []
rows_at relations [] (row ∷ rows) = [] ∷ rows_at relations [] rows
rows_at relations (source ∷ sources) (row ∷ rows) = row_in (relation_rows relations source) row ∷ rows_at relations sources rows

abbrev pub picked : SourceList → List ℕ → Picked
picked s rows = rows_at s.relations s.numbers rows

-- FROM's relation, where there is one, in front of others
abbrev pub after_from : Option ℕ → List ℕ → List ℕ
after_from None others = others
after_from (Some relation) others = relation ∷ others

abbrev pub join_numbers : List BoundJoin → List ℕ
join_numbers joins = map (λ (j : BoundJoin). j.relation) joins

-- the relations of a SELECT's sources: FROM's, and those of its joins
abbrev pub source_numbers : BoundCore → List ℕ
source_numbers c = after_from c.from (join_numbers c.joins)
