-- What is chosen of a layout, and when it is refused (this project's own).
use Rattle.std.specs.Prelude.{ℕ, Bool, true, false, if◌then◌else◌, List, [], ◌∷◌, map, Option}
use Rattle.std.specs.Option.{option_or}
use Rattle.rdf_meaning.specs.declared.side.SideName.{SideName}
use Rattle.rdf_meaning.specs.declared.side.SideName.TheVariants.{Direct, Reverse}
use Rattle.layout_meaning.specs.Columns.{ColumnsOf}
use Rattle.layout_columns_meaning.specs.Layouts.{ChoiceOf}
use Rattle.pred_columns.specs.declared.columns.ColourPair.{ColourPair}
use Rattle.pred_columns.specs.declared.columns.ColumnRefusal.{ColumnRefusal}
use Rattle.pred_columns.specs.Refusal.{known_of, refusal_of}
use Rattle.colouring_file_meaning.specs.ColourLines.{same_side}
use Rattle.colouring_file.specs.declared.colours.ColourLine.{ColourLine}
use Rattle.layout_choice.specs.declared.choice.ColourWay.{ColourWay}
use Rattle.layout_choice.specs.declared.choice.ColourWay.TheVariants.{HashOnly, Greedy, Given}

abbrev pub pair_of : ColourLine → ColourPair
pair_of line = record { iri = line.iri; column = line.column }

-- the IRIs and columns that lines name for a side
abbrev pub pairs_on : SideName → List ColourLine → List ColourPair
pairs_on side [] = []
pairs_on side (line ∷ lines) = if same_side side line.side then pair_of line ∷ pairs_on side lines else pairs_on side lines

-- the IRIs and columns that a way names for a side
abbrev pub known_pairs : SideName → ColourWay → List ColourPair
known_pairs side HashOnly = []
known_pairs side Greedy = []
known_pairs side (Given lines) = pairs_on side lines.items

-- and those for each side
abbrev pub direct_pairs : ColourWay → List ColourPair
direct_pairs = known_pairs Direct

abbrev pub reverse_pairs : ColourWay → List ColourPair
reverse_pairs = known_pairs Reverse

abbrev pub colours_bulk : ColourWay → Bool
colours_bulk HashOnly = false
colours_bulk Greedy = true
colours_bulk (Given lines) = false

abbrev pub columns_with : ℕ → ℕ → List ColourPair → ColumnsOf
columns_with count hashes pairs = record { count = count; hashes = hashes; known = map known_of pairs }

abbrev pub choice_made : ℕ → ℕ → ℕ → ColourWay → ChoiceOf
choice_made direct reverse hashes way = record {
  direct = columns_with direct hashes (direct_pairs way);
  reverse = columns_with reverse hashes (reverse_pairs way);
  greedy = colours_bulk way;
}

-- the direct side is judged first
abbrev pub refusal_chosen : ℕ → ℕ → ℕ → ColourWay → Option ColumnRefusal
refusal_chosen direct reverse hashes way = option_or (refusal_of direct hashes (direct_pairs way)) (refusal_of reverse hashes (reverse_pairs way))
