-- The layout that a command's options ask for (this project's own).
use Rattle.std.specs.Prelude.{ℕ, Bool, true, false, if◌then◌else◌, List, [], ◌∷◌, map}
use Rattle.rdf_meaning.specs.Terms.{RdfTriple}
use Rattle.rdf_meaning.specs.declared.side.SideName.{SideName}
use Rattle.rdf_meaning.specs.declared.side.SideName.TheVariants.{Direct, Reverse}
use Rattle.line_change_meaning.specs.declared.change.Change.{Change}
use Rattle.line_change_meaning.specs.Present.{named, bulk}
use Rattle.colouring_file_meaning.specs.ColourLines.{ColourOf, same_side}
use Rattle.run_meaning.specs.declared.command.Layout.{Layout}
use Rattle.run_meaning.specs.declared.command.Layout.TheVariants.{Colour, Hash, File}
use Rattle.run_meaning.specs.declared.command.Options.{Options}
use Rattle.layout_standing_meaning.specs.Schemas.{LayoutOf}
use Rattle.layout_bulk_laws.specs.BulkStore.{terms_of, bulk_items}
use Rattle.layout_columns_meaning.specs.Layouts.{ChoiceOf, IsLayoutFor}
use Rattle.layout_placed_meaning.specs.StatsText.{IsStatsText}

-- the IRIs and columns that the colours of a file name for a side
abbrev pub known_on : SideName → List ColourOf → List (List ℕ × ℕ)
known_on side [] = []
known_on side (colour ∷ colours) = if same_side side colour.side then (colour.iri, colour.column) ∷ known_on side colours else known_on side colours

-- the columns that are known before the bulk: those of the file, where it is a file that says them
abbrev pub known_by : Layout → SideName → List ColourOf → List (List ℕ × ℕ)
known_by Colour side colours = []
known_by Hash side colours = []
known_by (File name) side colours = known_on side colours

-- whether the bulk's predicates are coloured
abbrev pub is_coloured : Layout → Bool
is_coloured Colour = true
is_coloured Hash = false
is_coloured (File name) = false

-- what options choose, where the colouring file has these colours
abbrev pub choice_of : Options → List ColourOf → ChoiceOf
choice_of options colours = record {
  direct = record { count = options.columns; hashes = options.hashes; known = known_by options.layout Direct colours };
  reverse = record { count = options.reverse; hashes = options.hashes; known = known_by options.layout Reverse colours };
  greedy = is_coloured options.layout;
}

-- the layout of the bulk's triples under the options
abbrev pub IsBulkLayout : Options → List ColourOf → List RdfTriple → LayoutOf → Type 0
IsBulkLayout options colours triples layout = IsLayoutFor (choice_of options colours) (terms_of triples) (bulk_items triples) layout

-- the layout of changes under the options
abbrev pub IsLayoutOf : Options → List ColourOf → List Change → LayoutOf → Type 0
IsLayoutOf options colours changes layout = IsBulkLayout options colours (map named (bulk changes)) layout

-- the text tells what is counted of the tables of the changes, under the layout that the options ask for
pub record IsCounted (options : Options) (colours : List ColourOf) (changes : List Change) (text : List ℕ) : Type 0 where
  pub layout : LayoutOf
  pub chosen : IsLayoutOf options colours changes layout
  pub told : IsStatsText layout changes text
