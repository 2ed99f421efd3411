use Rattle.std.proofs.Common.{◌≡◌, map, take}
use Rattle.sql_gen_filter_meaning.specs.Columns.{class_is}
use Rattle.sql_gen_filter_meaning.specs.Chains.{chain_value}
use Rattle.filter_sql.proofs.kinds.class_in.Given as goal

-- the tests of the classes so far
abbrev pub invariant-loop-class : goal.invariant-loop-class
invariant-loop-class l = l.parts.items ≡ map (class_is (chain_value l.a).class) (take l.class-index l.classes)
