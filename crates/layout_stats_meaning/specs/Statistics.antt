-- Table statistics: what is counted of tables that stand for triples, and its text (this project's own).
use Rattle.std.specs.Prelude.{◌≡◌, ℕ, List, [], ◌∷◌, ◌++◌, length, codes}
use Rattle.std.specs.Fmt.{decimal}
use Rattle.rdf_meaning.specs.Terms.{RdfTriple}
use Rattle.table_meaning.specs.Tables.{NamedTable}
use Rattle.layout_meaning.specs.Columns.{ColumnsOf}
use Rattle.layout_meaning.specs.Rows.{IsCountOf}
use Rattle.layout_standing_meaning.specs.Schemas.{LayoutOf}
use Rattle.layout_standing_meaning.specs.Contents.{SideContents, Contents}
use Rattle.layout_standing_meaning.specs.Standing.{AreTables, Says, is_spilled_in}

pub record SideStatsOf : Type 0 where
  pub columns : ℕ
  pub rows : ℕ
  pub lists : ℕ
  pub spilled : ℕ

pub record StatsOf : Type 0 where
  pub triples : ℕ
  pub terms : ℕ
  pub direct : SideStatsOf
  pub reverse : SideStatsOf

-- the columns, the rows of the primary table, the lists, and the predicates that are spilled
pub record AreSideStats (of : ColumnsOf) (s : SideContents) (stats : SideStatsOf) : Type 0 where
  pub columns : stats.columns ≡ of.count
  pub rows : stats.rows ≡ length s.rows
  pub lists : stats.lists ≡ length s.lists
  pub spilled : IsCountOf (λ p. is_spilled_in p s.rows) stats.spilled

-- the triples that tables stand for under a layout, the terms of the tables, and what is counted of both sides
pub record AreStats (layout : LayoutOf) (tables : List NamedTable) (g : List RdfTriple) (stats : StatsOf) : Type 0 where
  pub contents : Contents
  pub exact_tables : AreTables layout contents tables
  pub same_triples : Says layout contents g
  pub triples : stats.triples ≡ length g
  pub terms : stats.terms ≡ length contents.terms
  pub direct : AreSideStats layout.direct contents.direct stats.direct
  pub reverse : AreSideStats layout.reverse contents.reverse stats.reverse

-- a word and a number, with a blank between
abbrev pub counted : List ℕ → ℕ → List ℕ
counted word n = word ++ 32 ∷ decimal n

abbrev pub side_text : List ℕ → SideStatsOf → List ℕ
side_text side stats =
    side ++ counted (codes " columns") stats.columns ++ counted (codes " rows") stats.rows ++ counted (codes " lists") stats.lists ++ counted (codes " spilled") stats.spilled ++ 10 ∷ []

-- four lines: the triples, the terms, and the columns, rows, lists and spilled predicates of both sides
abbrev pub stats_text : StatsOf → List ℕ
stats_text stats =
    counted (codes "triples") stats.triples ++ 10 ∷ counted (codes "terms") stats.terms ++ 10 ∷ side_text (codes "direct") stats.direct ++ side_text (codes "reverse") stats.reverse
