-- What is computed is what the grammar says.
use Rattle.std.proofs.Common.{◌≡◌, ℕ, List, []}
use Rattle.std.specs.Prelude.{Result, Ok, Err, IfOk}
use Rattle.line_meaning.specs.Lines.{lines_of}
use Rattle.line_meaning.specs.Changes.{Refused}
use Rattle.line_meaning.specs.Changes as refused
use Rattle.nt_lines.specs.declared.refusal.LineRefusal.{LineRefusal}
use Rattle.nt_lines.specs.declared.refusal.LineRefusal.TheVariants.{NoMemory, Bad, TooLong}
use Rattle.nt_lines.specs.Refusals.{Gives}
use Rattle.colouring_file_meaning.specs.ColourLines.{ColourOf, ColourLinesRead, FirstColourRefused, AreFit}
use Rattle.colouring_file_meaning.specs.ColourReader.{colours_of}
use Rattle.colouring_file.specs.Readings.{ReadsColours}

pub reads_colours : {X : Type 0} (direct reverse : ℕ) (view : X → List ColourOf) (result : Result X LineRefusal) (bytes : List ℕ)
    → ((colours : List ColourOf) → colours_of direct reverse bytes ≡ Ok colours → ColourLinesRead direct reverse [] (lines_of bytes) colours)
    → ((why : Refused) → colours_of direct reverse bytes ≡ Err why → FirstColourRefused direct reverse [] (lines_of bytes) why)
    → Gives view result (colours_of direct reverse bytes) → ReadsColours direct reverse view result (lines_of bytes)
reads_colours direct reverse view (Ok x) bytes a f g = a (view x) g
reads_colours direct reverse view (Err NoMemory) bytes a f g = tt
reads_colours direct reverse view (Err (Bad n)) bytes a f g = f (refused.Bad n) g
reads_colours direct reverse view (Err (TooLong n)) bytes a f g = f (refused.TooLong n) g

pub fits_colours : {X : Type 0} (direct reverse : ℕ) (view : X → List ColourOf) (result : Result X LineRefusal) (bytes : List ℕ)
    → ((colours : List ColourOf) → colours_of direct reverse bytes ≡ Ok colours → AreFit direct reverse colours)
    → Gives view result (colours_of direct reverse bytes) → IfOk result (λ x. AreFit direct reverse (view x))
fits_colours direct reverse view (Ok x) bytes a g = a (view x) g
fits_colours direct reverse view (Err e) bytes a g = tt
