use Rattle.std.proofs.Common.{arith}
use Rattle.std.proofs.lemmas.Bool.{lt-ltb}
use Rattle.query_eval_meaning.specs.Mapping.{width}
use Rattle.sql_gen_filter_values.proofs.written.variable_is_written.Goals as goal

pub returns : goal.returns
unfolding width
returns c = lt-ltb c.args.v 64 (omega (arith, c.number.ensures.value, c.number.ensures.below))
