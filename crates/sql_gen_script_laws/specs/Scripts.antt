-- The script of an out (this project's own).
use Rattle.std.specs.Prelude.{◌∷◌, List, [], false, if◌then◌else◌, ℕ}
use Rattle.std.specs.List.{filter}
use Rattle.query_meaning.specs.declared.modifiers.Modifiers.{Modifiers}
use Rattle.sql_gen_last_laws.specs.DistinctSelect.{is_distinct_first, repeated}
use Rattle.sql_gen_last_laws.specs.LastSelect.{last_core}
use Rattle.sql_gen_node_laws.specs.Nodes.{certain_own}
use Rattle.sql_gen_numbered_meaning.specs.Namings.{step_name}
use Rattle.sql_gen_numbered_meaning.specs.Numbered.{lone, terms_name, written}
use Rattle.sql_gen_numbered_meaning.specs.declared.numbered.NumberedBody.TheVariants.{Distinct}
use Rattle.sql_gen_out_laws.specs.Further.{put_after}
use Rattle.sql_gen_out_laws.specs.Outs.{Out, count}
use Rattle.sql_meaning.specs.declared.script.Script.{Script}

-- the steps under decimal names, and the last SELECT, in whose keys some variables are taken for certain
abbrev pub script_over : Out → List ℕ → Modifiers → Script
script_over out certain q = record { steps = written step_name out.steps; last = lone (last_core (step_name out.last) terms_name out.variables certain q) }

-- one more step, with the different rows of the shown variables
abbrev pub distinct_out : Out → List ℕ → Out
distinct_out out shown = put_after out (Distinct out.last out.variables shown ∷ []) (count out) shown (λ v. false)

-- where DISTINCT is asked and each key is shown, it is taken in a step before the last SELECT
abbrev pub script_of : Out → Modifiers → Script
script_of out q = if is_distinct_first q then script_over (distinct_out out q.shown) (filter out.certain q.shown) (repeated q) else script_over out (certain_own out) q
