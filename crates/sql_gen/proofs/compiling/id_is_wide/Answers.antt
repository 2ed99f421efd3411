use Rattle.std.proofs.Common.{arith, ◌^◌}
use Rattle.std.proofs.lemmas.Bool.{lt-ltb}
use Rattle.sql_gen.proofs.compiling.id_is_wide.Goals as goal

pub returns : goal.returns
returns c = lt-ltb c.args.id (2 ^ 127) (omega arith)
