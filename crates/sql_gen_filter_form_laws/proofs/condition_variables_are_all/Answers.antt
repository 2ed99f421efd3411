use Rattle.query_eval_meaning.specs.Mapping.{width}
use Rattle.sql_gen_filter_meaning.specs.ConditionVariables.{truth_variables}
use Rattle.sql_gen_filter_form_laws.proofs.ConditionNames.{once, are_variables, condition_named}
use Rattle.sql_gen_filter_form_laws.proofs.condition_variables_are_all.Goals as goal

pub returns-clause-once : goal.returns-clause-once
returns-clause-once c e = once (truth_variables e) width

pub returns-clause-variables : goal.returns-clause-variables
returns-clause-variables c e = are_variables (truth_variables e)

pub returns-clause-names : goal.returns-clause-names
returns-clause-names c = condition_named
