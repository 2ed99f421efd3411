use Rattle.std.proofs.Common.{◌≡◌, true, map, take}
use Rattle.std.specs.List.{list_all}
use Rattle.sql_gen_filter_meaning.specs.Chains.{chain_value, value_sql}
use Rattle.sql_gen_filter_meaning.specs.Tests.{equal_sql}
use Rattle.sql_gen_filter_form_laws.specs.Written.{is_written_value}
use Rattle.filter_sql.proofs.comparisons.one_of.Given as goal

-- the equations with the others so far, which can be written
abbrev pub invariant-loop-other : goal.invariant-loop-other
invariant-loop-other l =
    (l.parts.items ≡ map (λ d. equal_sql (chain_value l.a) (value_sql d)) (take l.other-index l.others))
    × (list_all is_written_value (take l.other-index l.others) ≡ true)
