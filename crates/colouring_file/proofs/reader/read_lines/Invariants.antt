use Rattle.std.proofs.Common.{◌≡◌, ◌+◌, ◌≤◌, [], length}
use Rattle.std.specs.Prelude.{Ok}
use Rattle.line_meaning.specs.Lines.{lines_from}
use Rattle.colouring_file_meaning.specs.ColourReader.{with_lines}
use Rattle.colouring_file.proofs.reader.read_lines.Given as goal

abbrev pub invariant-lines : goal.invariant-lines
invariant-lines l =
    (with_lines l.direct l.reverse (Ok l.colours) (lines_from l.line l.rest) ≡ with_lines l.direct l.reverse (Ok []) (lines_from 1 l.bytes))
    × (l.line + length l.rest ≤ length l.bytes + 1)

abbrev pub decreases-lines : goal.decreases-lines
decreases-lines l = length l.rest
