use Rattle.std.proofs.Common.{rules}
use Rattle.run_files.proofs.Texts.{all_given, longer_refused, read_failed}
use Rattle.run_files.proofs.text.read_text.Goals as goal

pub returns-in-Ok-All-clause-taken : goal.returns-in-Ok-All-clause-taken
returns-in-Ok-All-clause-taken g c =
    all_given (g.F.Shelf.content c.args.shelf.now) c.args.most c.args.which c.args.name.now c.new-text.result.items c.read_whole.new.into.items c.in-Ok-All.field-0 c.new-text.ensures.items c.in-Ok-All.field-0-is c.in-Ok-All.ensures.read

pub returns-in-Ok-Longer-clause-taken : goal.returns-in-Ok-Longer-clause-taken
returns-in-Ok-Longer-clause-taken g c =
    longer_refused (g.F.Shelf.content c.args.shelf.now) c.args.most c.args.which c.args.name.now c.new-text.result.items c.read_whole.new.into.items c.in-Ok-Longer.field-0 c.in-Ok-Longer.field-0-is c.in-Ok-Longer.ensures.read

pub returns-clause-taken : goal.returns-clause-taken
returns-clause-taken g c =
    read_failed (g.F.Shelf.content c.args.shelf.now) c.args.most c.args.which c.args.name.now c.in_ok-text_of-in-Err-Failed.field-0 (g.F.Shelf.faults c.args.shelf.now) (g.F.Shelf.faults c.read_whole.new.self)
    c.in_ok-text_of-in-Err-Failed.ensures (c.in-Err-Failed.ensures.failed (search rules))
