-- What the lines of data file n change, or where the file is refused.
use Rattle.std.specs.Prelude.{ℕ, List, [], ◌∷◌, ◌++◌, length, Option, Some, None, Result, Ok, Err, nat_lt, if◌then◌else◌}
use Rattle.line_meaning.specs.Lines.{Line, lines_of, Reading, Nothing, Adds, Deletes}
use Rattle.line_meaning.specs.Reader.{reading_of}
use Rattle.line_change_meaning.specs.declared.change.Change.{Change}
use Rattle.line_change_meaning.specs.declared.change.Change.TheVariants.{Add, Delete}

-- the first line that is refused
pub data Refused : Type 0 where
  TooLong : ℕ → Refused
  Bad : ℕ → Refused

-- what a line changes
abbrev pub changes_by : Reading → List Change
changes_by Nothing = []
changes_by (Adds triple) = Add triple ∷ []
changes_by (Deletes triple) = Delete triple ∷ []

-- a line without a reading is out of the grammar
abbrev pub says : ℕ → Option Reading → Result (List Change) Refused
says number None = Err (Bad number)
says number (Some reading) = Ok (changes_by reading)

-- a line of more than 65,536 bytes is refused as such
abbrev pub line_changes : ℕ → Line → Result (List Change) Refused
line_changes n line = if nat_lt 65536 (length line.text) then Err (TooLong line.number) else says line.number (reading_of n line.text)

-- one list of changes before the others
abbrev pub before : List Change → Result (List Change) Refused → Result (List Change) Refused
before front (Err refused) = Err refused
before front (Ok others) = Ok (front ++ others)

abbrev pub then_changes : Result (List Change) Refused → Result (List Change) Refused → Result (List Change) Refused
then_changes (Err refused) others = Err refused
then_changes (Ok front) others = before front others

abbrev pub changes_in : ℕ → List Line → Result (List Change) Refused
changes_in n [] = Ok []
changes_in n (line ∷ lines) = then_changes (line_changes n line) (changes_in n lines)

abbrev pub changes_of : ℕ → List ℕ → Result (List Change) Refused
changes_of n bytes = changes_in n (lines_of bytes)
