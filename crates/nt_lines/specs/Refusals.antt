-- What the reader answers, beside what the lines say.
use Rattle.std.specs.Prelude.{◌≡◌, ◌+◌, ℕ, List, [], Option, Some, None, Result, Ok, Err}
use Rattle.line_meaning.specs.Lines.{Line, lines_from, Reading, Nothing, Adds, Deletes}
use Rattle.line_meaning.specs.Changes.{Refused}
use Rattle.line_meaning.specs.Changes as refused
use Rattle.line_laws.specs.LineLaws.{LinesRead, FirstRefused}
use Rattle.nt_lines.specs.declared.refusal.LineRefusal.{LineRefusal}
use Rattle.nt_lines.specs.declared.refusal.LineRefusal.TheVariants.{NoMemory, Bad, TooLong}
use Rattle.nt_lines.specs.declared.line.Said.{Said}
use Rattle.nt_lines.specs.declared.line.Said.TheVariants as said
use Rattle.std.specs.Borrow.{Bor}
use Rattle.line_change_meaning.specs.declared.change.Change.{Change}
use Rattle.line_change_meaning.specs.declared.change.Change.TheVariants.{Add, Delete}

-- a refusal is the defined one, unless memory ran out
abbrev pub Refuses : {Y : Type 0} → LineRefusal → Result Y Refused → Type 0
Refuses NoMemory read = Unit {0}
Refuses (Bad n) read = read ≡ Err (refused.Bad n)
Refuses (TooLong n) read = read ≡ Err (refused.TooLong n)

-- what was answered, seen by view, is what is defined, unless memory ran out
abbrev pub Gives : {X Y : Type 0} → (X → Y) → Result X LineRefusal → Result Y Refused → Type 0
Gives view (Ok x) read = read ≡ Ok (view x)
Gives view (Err e) read = Refuses e read

abbrev pub reading_by : Change → Reading
reading_by (Add triple) = Adds triple
reading_by (Delete triple) = Deletes triple

-- what a line says, or that it is out of the grammar
abbrev pub reading : Said → Option Reading
reading said.Nothing = Some Nothing
reading (said.Change change) = Some (reading_by change)
reading said.Bad = None

-- the lines after the first one, the first of which has this number or the next
abbrev pub lines_after : ℕ → Option (Bor (List ℕ) × ℕ) → List Line
lines_after n None = []
lines_after n (Some x) = lines_from (n + x.1) x.0.now

abbrev pub RefusesFirst : ℕ → LineRefusal → List Line → Type 0
RefusesFirst n NoMemory lines = Unit {0}
RefusesFirst n (Bad number) lines = FirstRefused n lines (refused.Bad number)
RefusesFirst n (TooLong number) lines = FirstRefused n lines (refused.TooLong number)

-- what was answered is what the lines of file n read as in the grammar, or the first of them that is refused, unless memory ran out
abbrev pub IsReading : {X : Type 0} → ℕ → (X → List Change) → Result X LineRefusal → List Line → Type 0
IsReading n view (Ok x) lines = LinesRead n lines (view x)
IsReading n view (Err e) lines = RefusesFirst n e lines
