use Rattle.std.proofs.Common.{◌≡◌, take}
use Rattle.sql_bind_names.specs.Entries.{all_named}
use Rattle.sql_bind_names.proofs.known.Known.new.Given as goal

abbrev pub invariant-loop-at : goal.invariant-loop-at
invariant-loop-at l = all_named l.relations.entries ≡ take l.at l.schemas
