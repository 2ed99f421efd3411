-- What the reader answers, beside what the lines say.
use Rattle.std.specs.Prelude.{ℕ, List, [], Option, Some, None, Result, Ok, Err}
use Rattle.std.specs.Borrow.{Bor}
use Rattle.rdf_meaning.specs.declared.side.SideName.{SideName}
use Rattle.line_meaning.specs.Lines.{Line}
use Rattle.line_meaning.specs.Changes as refused
use Rattle.nt_lines.specs.declared.refusal.LineRefusal.{LineRefusal}
use Rattle.nt_lines.specs.declared.refusal.LineRefusal.TheVariants.{NoMemory, Bad, TooLong}
use Rattle.colouring_file_meaning.specs.ColourLines.{ColourOf, ColourLinesRead, FirstColourRefused}
use Rattle.colouring_file.specs.declared.line.Said.{Said}
use Rattle.colouring_file.specs.declared.line.Said.TheVariants as said
use Rattle.colouring_file.specs.Colours.{colour_of}

abbrev pub front_side : Option (SideName × Bor (List ℕ)) → Option (SideName × List ℕ)
front_side None = None
front_side (Some x) = Some (x.0, x.1.now)

-- what a line says, or that it is out of the grammar
abbrev pub reading : Said → Option (Option ColourOf)
reading said.Nothing = Some None
reading (said.Colour line) = Some (Some (colour_of line))
reading said.Bad = None

abbrev pub RefusesColour : ℕ → ℕ → LineRefusal → List Line → Type 0
RefusesColour direct reverse NoMemory lines = Unit {0}
RefusesColour direct reverse (Bad n) lines = FirstColourRefused direct reverse [] lines (refused.Bad n)
RefusesColour direct reverse (TooLong n) lines = FirstColourRefused direct reverse [] lines (refused.TooLong n)

-- what was answered is what the lines read as in the grammar, or the first line that is refused, unless memory ran out
abbrev pub ReadsColours : {X : Type 0} → ℕ → ℕ → (X → List ColourOf) → Result X LineRefusal → List Line → Type 0
ReadsColours direct reverse view (Ok x) lines = ColourLinesRead direct reverse [] lines (view x)
ReadsColours direct reverse view (Err e) lines = RefusesColour direct reverse e lines
