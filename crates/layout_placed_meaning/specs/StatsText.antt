-- The text of the statistics of changes.
use Rattle.std.specs.Prelude.{◌≡◌, ℕ, List}
use Rattle.line_change_meaning.specs.declared.change.Change.{Change}
use Rattle.line_change_meaning.specs.Present.{present}
use Rattle.layout_standing_meaning.specs.Schemas.{LayoutOf}
use Rattle.layout_stats_meaning.specs.Statistics.{StatsOf, AreStats, stats_text}
use Rattle.layout_placed_meaning.specs.Placed.{placed_tables}

-- The text tells what is counted of the tables that the layout gives for the changes. These tables stand for the triples that
-- are present after the changes.
pub record IsStatsText (layout : LayoutOf) (changes : List Change) (text : List ℕ) : Type 0 where
  pub stats : StatsOf
  pub counted : AreStats layout (placed_tables layout changes) (present changes) stats
  pub written : text ≡ stats_text stats
