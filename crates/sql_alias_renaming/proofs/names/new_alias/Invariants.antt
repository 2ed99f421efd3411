use Rattle.std.proofs.Common.{◌≡◌, drop}
use Rattle.sql_alias_renaming.specs.NewNames.{new_name}
use Rattle.sql_alias_renaming.proofs.names.new_alias.Given as goal

abbrev pub invariant-loop-pair : goal.invariant-loop-pair
invariant-loop-pair l = new_name l.names l.alias ≡ new_name (drop l.pair-index l.names) l.alias
