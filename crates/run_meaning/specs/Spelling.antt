-- Which words of the command line spell a command: its own word, then options in any order, each with its value and at most once, then its
-- names. `--layout` and `--colouring` choose the same thing. What isn't chosen has its default.
use Rattle.std.specs.Prelude.{◌≡◌, ℕ, false, ◌⊎◌, List, [], ◌∷◌, ◌++◌, Option, Some, None, IsTrue, codes, decimal}
use Rattle.std.specs.List.{flat_map, list_any}
use Rattle.run_meaning.specs.Limits.{most_pieces, most_drill, are_data_names}
use Rattle.run_meaning.specs.Words.{Word, is_option}
use Rattle.run_meaning.specs.Ranges.{IsWithin, AreInRange}
use Rattle.run_meaning.specs.declared.command.Layout.{Layout}
use Rattle.run_meaning.specs.declared.command.Layout.TheVariants.{Colour, Hash, File}
use Rattle.run_meaning.specs.declared.command.Options.{Options}
use Rattle.run_meaning.specs.declared.command.Command.{Command}
use Rattle.run_meaning.specs.declared.command.Command.TheVariants.{Query, Show, Plan, Stats, Exec, Drill}

-- an option with what it chooses
pub data Choice : Type 0 where
  direct_columns : ℕ → Choice
  reverse_columns : ℕ → Choice
  some_hashes : ℕ → Choice
  some_pieces : ℕ → Choice
  some_layout : Layout → Choice

-- the two words of an option
abbrev pub option_words : Choice → List Word
option_words (direct_columns n) = codes "--columns" ∷ decimal n ∷ []
option_words (reverse_columns n) = codes "--reverse" ∷ decimal n ∷ []
option_words (some_hashes n) = codes "--hashes" ∷ decimal n ∷ []
option_words (some_pieces n) = codes "--pieces" ∷ decimal n ∷ []
option_words (some_layout Colour) = codes "--layout" ∷ codes "colour" ∷ []
option_words (some_layout Hash) = codes "--layout" ∷ codes "hash" ∷ []
option_words (some_layout (File name)) = codes "--colouring" ∷ name ∷ []

-- what each option is about
abbrev pub columns_in : Choice → List ℕ
columns_in (direct_columns n) = n ∷ []
columns_in (reverse_columns n) = []
columns_in (some_hashes n) = []
columns_in (some_pieces n) = []
columns_in (some_layout layout) = []

abbrev pub reverse_in : Choice → List ℕ
reverse_in (direct_columns n) = []
reverse_in (reverse_columns n) = n ∷ []
reverse_in (some_hashes n) = []
reverse_in (some_pieces n) = []
reverse_in (some_layout layout) = []

abbrev pub hashes_in : Choice → List ℕ
hashes_in (direct_columns n) = []
hashes_in (reverse_columns n) = []
hashes_in (some_hashes n) = n ∷ []
hashes_in (some_pieces n) = []
hashes_in (some_layout layout) = []

abbrev pub pieces_in : Choice → List ℕ
pieces_in (direct_columns n) = []
pieces_in (reverse_columns n) = []
pieces_in (some_hashes n) = []
pieces_in (some_pieces n) = n ∷ []
pieces_in (some_layout layout) = []

abbrev pub layouts_in : Choice → List Layout
layouts_in (direct_columns n) = []
layouts_in (reverse_columns n) = []
layouts_in (some_hashes n) = []
layouts_in (some_pieces n) = []
layouts_in (some_layout layout) = layout ∷ []

-- one value at most is chosen: it holds, or else the default
abbrev pub IsChosen : {X : Type 0} → X → List X → X → Type 0
IsChosen default chosen value = ((chosen ≡ []) × (value ≡ default)) ⊎ (chosen ≡ value ∷ [])

-- a file's name doesn't begin with two dashes
abbrev pub IsFileName : Word → Type 0
IsFileName word = is_option word ≡ false

abbrev pub NamesFile : Layout → Type 0
NamesFile Colour = Unit {0}
NamesFile Hash = Unit {0}
NamesFile (File name) = IsFileName name

-- options that are chosen so, each at most once and in its range: 8 columns on each side, 2 hashes, one piece and the colouring of the
-- data where nothing else is chosen
pub record AreChosen (choices : List Choice) (options : Options) : Type 0 where
  pub columns : IsChosen 8 (flat_map columns_in choices) options.columns
  pub reverse : IsChosen 8 (flat_map reverse_in choices) options.reverse
  pub hashes : IsChosen 2 (flat_map hashes_in choices) options.hashes
  pub pieces : IsChosen 1 (flat_map pieces_in choices) options.pieces
  pub layout : IsChosen Colour (flat_map layouts_in choices) options.layout
  pub ranges : AreInRange options
  pub file : NamesFile options.layout

-- a command's word, options and names
pub record AreWords (words : List Word) (word : Word) (options : Options) (names : List Word) : Type 0 where
  pub choices : List Choice
  pub written : words ≡ word ∷ (flat_map option_words choices ++ names)
  pub chosen : AreChosen choices options

-- 1 to 16 data files
abbrev pub AreDataFiles : List Word → Type 0
AreDataFiles names = IsTrue (are_data_names names) × (list_any is_option names ≡ false)

-- DATA.. QUERY
abbrev pub SpellsOver : List Word → Word → Options → List Word → Word → Type 0
SpellsOver words word options data_files query_name =
    AreWords words word options (data_files ++ query_name ∷ []) × AreDataFiles data_files × IsFileName query_name

-- these words spell this command; numbers are in decimal
abbrev pub Spells : List Word → Command → Type 0
Spells words (Query options data_files query_name) = SpellsOver words (codes "query") options data_files query_name
Spells words (Show options data_files query_name) = SpellsOver words (codes "show") options data_files query_name
Spells words (Plan options data_files query_name) = SpellsOver words (codes "plan") options data_files query_name
Spells words (Stats options data_files) = AreWords words (codes "stats") options data_files × AreDataFiles data_files
Spells words (Exec pieces file_name) =
    (((words ≡ codes "exec" ∷ file_name ∷ []) × (pieces ≡ 1)) ⊎ (words ≡ codes "exec" ∷ codes "--pieces" ∷ decimal pieces ∷ file_name ∷ []))
    × IsWithin 1 most_pieces pieces × IsFileName file_name
Spells words (Drill options count seed) =
    AreWords words (codes "drill") options (decimal count ∷ decimal seed ∷ []) × IsWithin 1 most_drill count × IsWithin 0 4294967295 seed

-- the command that the words spell, or none where they spell none
abbrev pub IsCommandOf : List Word → Option Command → Type 0
IsCommandOf words (Some command) = Spells words command
IsCommandOf words None = (command : Command) → ¬ Spells words command
