use Rattle.std.proofs.Common.{FitsSigned, rules}
use Rattle.std.specs.Int.{w128}
use Rattle.table_meaning.specs.IntLaws.{is_wide_int-fits}
use Rattle.sql_gen_filter_values.proofs.written.int_is_written.Goals as goal

pub returns : goal.returns
returns c = let fits : FitsSigned w128 c.args.number = search rules in is_wide_int-fits c.args.number fits
