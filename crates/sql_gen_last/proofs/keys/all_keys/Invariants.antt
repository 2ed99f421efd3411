use Rattle.std.proofs.Common.{◌≡◌, take}
use Rattle.query_eval_meaning.specs.Answer.{all_keys}
use Rattle.sql_gen_last.proofs.keys.all_keys.Given as goal

abbrev pub invariant-loop-variable : goal.invariant-loop-variable
invariant-loop-variable l = l.all.items ≡ all_keys l.keys (take l.variable-index l.shown)
