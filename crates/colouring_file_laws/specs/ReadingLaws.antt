-- What holds of the readings of colouring files.
use Rattle.std.specs.Prelude.{◌≡◌, ℕ, List, [], Result, Ok, Err, IfOk, IfErr}
use Rattle.line_meaning.specs.Lines.{Line, lines_of}
use Rattle.line_meaning.specs.Changes.{Refused}
use Rattle.nt_lines.specs.declared.refusal.LineRefusal.{LineRefusal}
use Rattle.nt_lines.specs.declared.refusal.LineRefusal.TheVariants.{NoMemory}
use Rattle.colouring_file_meaning.specs.ColourLines.{ColourOf, ColourLinesRead, FirstColourRefused}
use Rattle.colouring_file_meaning.specs.ColourReader.{colours_of}
use Rattle.colouring_file.specs.Readings.{ReadsColours}

-- what the lines read as is computed
abbrev pub ReadingsAreComputed : Type 0
ReadingsAreComputed = (direct reverse : ℕ) (bytes : List ℕ) (colours : List ColourOf) → ColourLinesRead direct reverse [] (lines_of bytes) colours → colours_of direct reverse bytes ≡ Ok colours

-- the first line that is refused is computed
abbrev pub RefusalsAreComputed : Type 0
RefusalsAreComputed = (direct reverse : ℕ) (bytes : List ℕ) (why : Refused) → FirstColourRefused direct reverse [] (lines_of bytes) why → colours_of direct reverse bytes ≡ Err why

-- lines read as one list of colours at most
abbrev pub OneReading : Type 0
OneReading = (direct reverse : ℕ) (lines : List Line) (xs ys : List ColourOf) → ColourLinesRead direct reverse [] lines xs → ColourLinesRead direct reverse [] lines ys → xs ≡ ys

-- lines have one first refused line at most
abbrev pub OneRefusal : Type 0
OneRefusal = (direct reverse : ℕ) (lines : List Line) (a b : Refused) → FirstColourRefused direct reverse [] lines a → FirstColourRefused direct reverse [] lines b → a ≡ b

-- lines that read have none
abbrev pub NeverBoth : Type 0
NeverBoth = (direct reverse : ℕ) (lines : List Line) (colours : List ColourOf) (why : Refused) → ColourLinesRead direct reverse [] lines colours → FirstColourRefused direct reverse [] lines why → ⊥

-- what may be answered for lines that read, by what the reader promises
abbrev pub OneAnswer : Type 0
OneAnswer =
    (direct reverse : ℕ) (lines : List Line) (colours : List ColourOf) (answer : Result (List ColourOf) LineRefusal) → ColourLinesRead direct reverse [] lines colours
    → ReadsColours direct reverse (λ (given : List ColourOf). given) answer lines → IfOk answer (λ given. given ≡ colours) × IfErr answer (λ e. e ≡ NoMemory)
