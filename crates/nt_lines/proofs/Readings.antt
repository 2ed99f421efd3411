-- What is computed is what the grammar says.
use Rattle.std.proofs.Common.{ℕ, List}
use Rattle.std.specs.Prelude.{Result, Ok, Err}
use Rattle.line_change_meaning.specs.declared.change.Change.{Change}
use Rattle.line_meaning.specs.Lines.{lines_of}
use Rattle.line_meaning.specs.Changes.{changes_of}
use Rattle.line_meaning.specs.Changes as refused
use Rattle.line_laws.specs.LineLaws.{ChangesAreRead, RefusalsAreFirst}
use Rattle.nt_lines.specs.declared.refusal.LineRefusal.{LineRefusal}
use Rattle.nt_lines.specs.declared.refusal.LineRefusal.TheVariants.{NoMemory, Bad, TooLong}
use Rattle.nt_lines.specs.Refusals.{Gives, IsReading}

pub is_reading : {X : Type 0} (view : X → List Change) (result : Result X LineRefusal) (n : ℕ) (bytes : List ℕ) → ChangesAreRead → RefusalsAreFirst
    → Gives view result (changes_of n bytes) → IsReading n view result (lines_of bytes)
is_reading view (Ok x) n bytes a f g = a n bytes (view x) g
is_reading view (Err NoMemory) n bytes a f g = tt
is_reading view (Err (Bad number)) n bytes a f g = f n bytes (refused.Bad number) g
is_reading view (Err (TooLong number)) n bytes a f g = f n bytes (refused.TooLong number) g
