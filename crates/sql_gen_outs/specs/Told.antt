-- The out that a value of the program is (this project's own).
use Rattle.sparql_variables.specs.Bits.{members}
use Rattle.sql_gen_out_laws.specs.Outs.{Out}
use Rattle.sql_gen_outs.specs.declared.out.Out.{Out as Value}

-- its steps, its last number, its variables, and the members of its set
abbrev pub out_of : Value → Out
out_of o = record { steps = o.steps.items; last = o.last; variables = o.variables; certain = members o.certain }
