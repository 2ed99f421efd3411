use Rattle.std.proofs.Common.{rules}
use Rattle.sql_text_writer.specs.Levels.{case_written}
use Rattle.sql_text_writer.proofs.exprs.+writing.Goals as goal

pub write_expr-returns-in_ok-write_between-in-Case-clause-ok : goal.write_expr-returns-in_ok-write_between-in-Case-clause-ok
write_expr-returns-in_ok-write_between-in-Case-clause-ok t c =
    case_written c.args.into.now.items c.write_branches.new.into.items c.write_between-in-Case.new.into.items c.args.expr.now c.get-in-Case.result.now c.as_slice-in-Case.result.now
    (search rules) c.in_ok-write_branches-in-Case.ensures.ok c.in_ok-write_between-in-Case.ensures.ok
