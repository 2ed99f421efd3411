-- The store of a run: that of changes, under the layout that a command's options ask for (this project's own).
use Rattle.std.specs.Prelude.{◌≡◌, List}
use Rattle.bags.specs.Bag.{SameBag}
use Rattle.line_change_meaning.specs.declared.change.Change.{Change}
use Rattle.line_change_meaning.specs.Present.{present}
use Rattle.colouring_file_meaning.specs.ColourLines.{ColourOf}
use Rattle.run_meaning.specs.declared.command.Options.{Options}
use Rattle.layout_standing_meaning.specs.Standing.{StandsFor}
use Rattle.layout_standing_meaning.specs.Stored.{StoreOf, layout_of, tables_of, stored_triples}
use Rattle.layout_placed_meaning.specs.Placed.{placed_store}
use Rattle.layout_placed_meaning.specs.Chosen.{IsLayoutOf}

-- The bulk is placed at once and the later changes one by one, under a layout that the options ask for. The triples of the store are
-- those that are present after the changes, and its tables stand for them.
pub record IsRunStore (options : Options) (colours : List ColourOf) (changes : List Change) (s : StoreOf) : Type 0 where
  pub chosen : IsLayoutOf options colours changes (layout_of s)
  pub placed : s ≡ placed_store (layout_of s) changes
  pub triples : SameBag (stored_triples s) (present changes)
  pub stands : StandsFor (layout_of s) (tables_of s) (present changes)
