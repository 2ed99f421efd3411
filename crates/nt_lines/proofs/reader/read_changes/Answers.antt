use Rattle.nt_lines.proofs.Readings.{is_reading}
use Rattle.nt_lines.proofs.reader.read_changes.Goals as goal

pub returns-clause-grammar : goal.returns-clause-grammar
returns-clause-grammar c = is_reading _ c.read_lines.result c.args.file c.args.bytes.now c.lines_are_read.ensures.changes c.lines_are_read.ensures.refusals c.read_lines.ensures
