use Rattle.std.proofs.Common.{◌≡◌, ◌+◌, ◌≤◌, length}
use Rattle.line_meaning.specs.Lines.{lines_from}
use Rattle.line_meaning.specs.Changes.{before, changes_in}
use Rattle.nt_lines.proofs.reader.read_lines.Given as goal

abbrev pub invariant-lines : goal.invariant-lines
invariant-lines l =
    (before l.changes.items (changes_in l.file (lines_from l.line l.rest)) ≡ changes_in l.file (lines_from 1 l.bytes))
    × (l.line + length l.rest ≤ length l.bytes + 1)

abbrev pub decreases-lines : goal.decreases-lines
decreases-lines l = length l.rest
