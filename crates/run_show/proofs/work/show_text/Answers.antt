use Rattle.std.proofs.Common.{map}
use Rattle.colouring_file.specs.Colours.{colour_of}
use Rattle.run_query_file.proofs.Asks.{none_given, text_refused_first, work_done, work_refused}
use Rattle.run_show_meaning.specs.Showing.{showing, IsShown}
use Rattle.run_show.proofs.work.show_text.Goals as goal

pub returns-in_err-query-clause-ok : goal.returns-in_err-query-clause-ok
returns-in_err-query-clause-ok g c = none_given c.from_residual.result c.in_err-query.field-0.0 _ c.from_residual.ensures.1

pub returns-in_err-query-clause-err : goal.returns-in_err-query-clause-err
returns-in_err-query-clause-err g c =
    text_refused_first c.from_residual.result c.args.changes.items c.args.text.now (showing (map colour_of c.args.lines.items) c.args.changes.items) c.in_err-query.field-0.0 c.from_residual.ensures.1 c.in_err-query.ensures.refused

pub returns-clause-ok : goal.returns-clause-ok
returns-clause-ok g c =
    work_done (λ t. t.items) c.show_query.result c.args.changes.items c.args.text.now (showing (map colour_of c.args.lines.items) c.args.changes.items) (IsShown c.args.options.now) c.in_ok-query.query
    c.in_ok-query.ensures.query c.show_query.ensures.ok c.show_query.ensures.judged

pub returns-clause-err : goal.returns-clause-err
returns-clause-err g c =
    work_refused c.show_query.result c.args.changes.items c.args.text.now (showing (map colour_of c.args.lines.items) c.args.changes.items) c.in_ok-query.query c.in_ok-query.ensures.query c.show_query.ensures.refused
