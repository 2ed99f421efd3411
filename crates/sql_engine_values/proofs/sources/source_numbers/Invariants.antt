use Rattle.std.proofs.Common.{◌≡◌, ◌++◌, take}
use Rattle.sql_engine_values.specs.Places.{join_numbers}
use Rattle.sql_engine_values.proofs.sources.source_numbers.Given as goal

abbrev pub invariant-loop-join : goal.invariant-loop-join
invariant-loop-join l = l.numbers.items ≡ l.initial.numbers.items ++ join_numbers (take l.join-index l.join-items)
