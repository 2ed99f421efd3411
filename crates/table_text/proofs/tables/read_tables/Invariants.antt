use Rattle.std.proofs.Common.{◌≡◌, ◌+◌, ◌≤◌, length, map}
use Rattle.table_meaning.specs.Tables.{table_name}
use Rattle.table_text.proofs.ReadLaws.{ReadSoFar}
use Rattle.table_text.proofs.tables.read_tables.Given as goal

abbrev pub invariant-lines : goal.invariant-lines
invariant-lines l =
    ReadSoFar l.version l.bytes l.rest l.tables.items l.line × (l.names ≡ map table_name l.tables.items) × (l.line + length l.rest ≤ length l.bytes + 2)

abbrev pub decreases-lines : goal.decreases-lines
decreases-lines l = length l.rest
