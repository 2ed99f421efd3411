use Rattle.std.proofs.Common.{◌≡◌, ◌++◌, drop}
use Rattle.std.specs.List.{flat_map}
use Rattle.sql_gen_last_laws.specs.LastSelect.{four_keys}
use Rattle.sql_gen_last.proofs.keys.sql_keys.Given as goal

-- all keys are those so far, and then those of the rest
abbrev pub invariant-loop-key : goal.invariant-loop-key
invariant-loop-key l = flat_map (four_keys l.certain) l.keys ≡ l.made ++ flat_map (four_keys l.certain) (drop l.key-index l.keys)
