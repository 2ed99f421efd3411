-- The side of a bulk: this project's own.
use Rattle.std.specs.Prelude.{ℕ, List, []}
use Rattle.std.specs.List.{fold}
use Rattle.std.specs.declared.cmp.Ordering.{Ordering}
use Rattle.std.specs.Ordering.{nat_cmp}
use Rattle.bags.specs.Sort.{sort}
use Rattle.layout_meaning.specs.Side.{Item}
use Rattle.layout_meaning.specs.Columns.{ColumnsOf}
use Rattle.layout_meaning.specs.Rows.{SideOf, placed_in}
use Rattle.layout_bulk_meaning.specs.Appended.{appended_side}

abbrev pub by_entity : Item → Item → Ordering
by_entity a b = nat_cmp a.entity b.entity

-- a side without rows, whose first list has the id -1
abbrev pub empty_side : ColumnsOf → SideOf
empty_side columns = record { columns = columns; state = record { entities = []; lists = []; next = 0 } }

-- a side after items were placed in their order
abbrev pub placed_all : (ℕ → List ℕ) → SideOf → List Item → SideOf
placed_all iri_of s items = fold (λ side x. placed_in side (iri_of x.pred) x) s items

-- items are placed entity by entity, those of one entity in their order; then the lists have the ids from -1 downwards,
-- by rising entity, row number and column
abbrev pub bulk_side : ColumnsOf → (ℕ → List ℕ) → List Item → SideOf
bulk_side columns iri_of items = appended_side (empty_side columns) (placed_all iri_of (empty_side columns) (sort by_entity items))
