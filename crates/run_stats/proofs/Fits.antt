-- What is counted of the store of a run.
use Rattle.std.proofs.Common.{◌≡◌, ℕ, List, subst}
use Rattle.line_change_meaning.specs.declared.change.Change.{Change}
use Rattle.line_change_meaning.specs.Present.{present}
use Rattle.colouring_file_meaning.specs.ColourLines.{ColourOf}
use Rattle.run_meaning.specs.declared.command.Options.{Options}
use Rattle.layout_standing_meaning.specs.Stored.{StoreOf, layout_of, tables_of, stored_triples}
use Rattle.layout_stats_meaning.specs.Statistics.{StatsOf, AreStats, stats_text}
use Rattle.layout_placed_meaning.specs.Chosen.{IsCounted}
use Rattle.layout_placed_meaning.specs.RunStores.{IsRunStore}
use Rattle.layout_placed_laws.proofs.Same.{same-stats}

pub stats-fit : (options : Options) (colours : List ColourOf) (changes : List Change) (s : StoreOf) (stats : StatsOf) (text : List ℕ) → IsRunStore options colours changes s
    → AreStats (layout_of s) (tables_of s) (stored_triples s) stats → text ≡ stats_text stats → IsCounted options colours changes text
stats-fit options colours changes s stats text run are written = record {
  layout = layout_of s;
  chosen = run.chosen;
  told = record {
    stats = stats;
    counted = subst (λ (w : StoreOf). AreStats (layout_of s) (tables_of w) (present changes) stats) run.placed
        (same-stats (layout_of s) (tables_of s) (stored_triples s) (present changes) stats run.triples are);
    written = written;
  };
}
