use Rattle.std.proofs.Common.{◌-◌, rules}
use Rattle.run_files.proofs.Files.{file_given, file_unread, file_refused}
use Rattle.run_files.proofs.data.read_more.Goals as goal

pub returns-in_err-text-clause-stops : goal.returns-in_err-text-clause-stops
returns-in_err-text-clause-stops g c =
    file_unread c.from_residual.result c.in_err-text.field-0.0 (g.F.Shelf.content c.args.shelf.now) (g.F.Shelf.faults c.args.shelf.now) (g.F.Shelf.faults c.read_text.new.shelf)
    c.args.file c.args.left c.args.changes.now.items c.args.name.now c.from_residual.ensures.1 c.in_err-text.ensures.taken

pub returns-in_err-more-clause-stops : goal.returns-in_err-more-clause-stops
returns-in_err-more-clause-stops g c =
    file_refused c.from_residual-in_err-more.result c.in_err-more.field-0.0 (g.F.Shelf.content c.args.shelf.now) (g.F.Shelf.faults c.args.shelf.now) (g.F.Shelf.faults c.read_text.new.shelf)
    c.args.file c.args.left c.args.changes.now.items c.args.name.now c.in_ok-text.text.items c.deref.result.now
    c.from_residual-in_err-more.ensures.1 c.deref.ensures.value c.in_ok-text.ensures.taken c.in_err-more.ensures.err

pub returns-clause-taken : goal.returns-clause-taken
returns-clause-taken g c =
    file_given (g.F.Shelf.content c.args.shelf.now) c.args.file c.args.left c.args.changes.now.items c.in_ok-more.more.items c.append.new.self.items c.args.name.now c.in_ok-text.text.items c.deref.result.now
    c.deref.ensures.value c.in_ok-text.ensures.taken c.in_ok-more.ensures.ok c.in_ok-append.ensures.items (c.args.left - c.len.result) (search rules)
