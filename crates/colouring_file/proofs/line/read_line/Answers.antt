use Rattle.std.proofs.Common.{sym}
use Rattle.colouring_file.proofs.Texts.{not_text, text}
use Rattle.colouring_file.proofs.line.read_line.Goals as goal

pub returns-in-Ok : goal.returns-in-Ok
returns-in-Ok c = rw (text c.args.direct c.args.reverse _ c.in-Ok.ensures.cases.1) (rw c.in-Ok.ensures.cases.0 at c.read_text.ensures)

pub returns-in-Err : goal.returns-in-Err
returns-in-Err c = sym (not_text c.args.direct c.args.reverse _ c.in-Err.ensures.cases.0)
