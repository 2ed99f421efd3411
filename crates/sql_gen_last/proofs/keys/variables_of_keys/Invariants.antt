use Rattle.std.proofs.Common.{◌≡◌, ◌++◌, drop}
use Rattle.sql_gen_last_laws.specs.LastSelect.{variables_of_keys}
use Rattle.sql_gen_last.proofs.keys.variables_of_keys.Given as goal

-- all are those so far, and then those of the rest
abbrev pub invariant-loop-key : goal.invariant-loop-key
invariant-loop-key l = variables_of_keys l.keys ≡ l.all.items ++ variables_of_keys (drop l.key-index l.keys)
