-- What holds of the readings of lines and of data files, n being the file's number.
use Rattle.std.specs.Prelude.{◌≡◌, ◌<◌, ◌≤◌, ◌^◌, ◌⊎◌, ℕ, true, List, [], ◌∷◌, ◌++◌, length, Some, Ok, Err}
use Rattle.std.specs.Str.{IsUtf8}
use Rattle.rdf_meaning.specs.Terms.{is_label}
use Rattle.line_change_meaning.specs.declared.change.Change.{Change}
use Rattle.line_meaning.specs.Labels.{label_in, blank_in}
use Rattle.line_meaning.specs.Lines.{Line, lines_of, Reading}
use Rattle.line_meaning.specs.Grammar.{LineReads}
use Rattle.line_meaning.specs.Reader.{reading_of}
use Rattle.line_meaning.specs.Changes.{Refused, TooLong, Bad, changes_by, changes_of}

-- what is read is in the grammar
abbrev pub IsSound : Type 0
IsSound = (n : ℕ) (line : List ℕ) (r : Reading) → reading_of n line ≡ Some r → LineReads n line r

-- what is in the grammar is read
abbrev pub IsComplete : Type 0
IsComplete = (n : ℕ) (line : List ℕ) (r : Reading) → LineReads n line r → reading_of n line ≡ Some r

-- a line has a length and a reading in the grammar
pub record ReadsAs (n : ℕ) (line : Line) (r : Reading) : Type 0 where
  pub within : length line.text ≤ 65536
  pub reads : LineReads n line.text r

-- each line reads, and the changes are those of the readings in their order
abbrev pub LinesRead : ℕ → List Line → List Change → Type 0
LinesRead n [] changes = changes ≡ []
LinesRead n (line ∷ lines) changes =
    (r : Reading) × (others : List Change) × ReadsAs n line r × LinesRead n lines others × (changes ≡ changes_by r ++ others)

-- why a line is refused: it is too long, or else nothing in the grammar
abbrev pub IsRefusedFor : ℕ → Line → Refused → Type 0
IsRefusedFor n line (TooLong number) = (number ≡ line.number) × (65536 < length line.text)
IsRefusedFor n line (Bad number) = (number ≡ line.number) × (length line.text ≤ 65536) × ((r : Reading) → LineReads n line.text r → ⊥)

-- the first line that is refused, behind lines that read
abbrev pub FirstRefused : ℕ → List Line → Refused → Type 0
FirstRefused n [] why = ⊥
FirstRefused n (line ∷ lines) why = IsRefusedFor n line why ⊎ (((r : Reading) × ReadsAs n line r) × FirstRefused n lines why)

-- the changes of a file are those that its lines read as
abbrev pub ChangesAreRead : Type 0
ChangesAreRead = (n : ℕ) (bytes : List ℕ) (changes : List Change) → changes_of n bytes ≡ Ok changes → LinesRead n (lines_of bytes) changes

-- a file is refused for its first line that is refused
abbrev pub RefusalsAreFirst : Type 0
RefusalsAreFirst = (n : ℕ) (bytes : List ℕ) (why : Refused) → changes_of n bytes ≡ Err why → FirstRefused n (lines_of bytes) why

-- what the lines read as is computed
abbrev pub ReadingsAreComputed : Type 0
ReadingsAreComputed = (n : ℕ) (bytes : List ℕ) (changes : List Change) → LinesRead n (lines_of bytes) changes → changes_of n bytes ≡ Ok changes

-- the first line that is refused is computed
abbrev pub RefusalsAreComputed : Type 0
RefusalsAreComputed = (n : ℕ) (bytes : List ℕ) (why : Refused) → FirstRefused n (lines_of bytes) why → changes_of n bytes ≡ Err why

-- lines read as one list of changes at most
abbrev pub OneReading : Type 0
OneReading = (n : ℕ) (lines : List Line) (xs ys : List Change) → LinesRead n lines xs → LinesRead n lines ys → xs ≡ ys

-- lines have one first refused line at most
abbrev pub OneRefusal : Type 0
OneRefusal = (n : ℕ) (lines : List Line) (a b : Refused) → FirstRefused n lines a → FirstRefused n lines b → a ≡ b

-- lines that read have none
abbrev pub NeverBoth : Type 0
NeverBoth = (n : ℕ) (lines : List Line) (changes : List Change) (why : Refused) → LinesRead n lines changes → FirstRefused n lines why → ⊥

-- lines read, or one of them is the first that is refused
abbrev pub NeverNeither : Type 0
NeverNeither = (n : ℕ) (lines : List Line) → ((changes : List Change) × LinesRead n lines changes) ⊎ ((why : Refused) × FirstRefused n lines why)

-- a label is legal in each data file
abbrev pub LabelsAreLegal : Type 0
LabelsAreLegal = (n : ℕ) (label : List ℕ) → n < 2 ^ 64 → IsUtf8 label → is_label label ≡ true → IsUtf8 (label_in n label) × (is_label (label_in n label) ≡ true)

-- two labels of one file, or any two of two files, name two blank nodes
abbrev pub LabelsStayApart : Type 0
LabelsStayApart = (m n : ℕ) (a b : List ℕ) → m < 2 ^ 64 → n < 2 ^ 64 → blank_in m a ≡ blank_in n b → (m ≡ n) × (a ≡ b)
