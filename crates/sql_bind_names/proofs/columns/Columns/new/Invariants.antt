use Rattle.std.proofs.Common.{◌≡◌, take}
use Rattle.sql_bind_names.specs.Entries.{all_columns}
use Rattle.sql_bind_names.proofs.columns.Columns.new.Given as goal

abbrev pub invariant-loop-at : goal.invariant-loop-at
invariant-loop-at l = all_columns l.kinds.entries ≡ take l.at l.columns
