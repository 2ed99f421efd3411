use Rattle.run_outcome_laws.specs.OneOutcome.{jobs_ask_once}
use Rattle.run_outcome_laws.proofs.commands_ask_once.Goals as goal

pub returns-clause-once : goal.returns-clause-once
returns-clause-once c =
    jobs_ask_once c.queries_are_not_refused.ensures c.refusals_are_unique.ensures
    c.texts_have_one_outcome.ensures.reading c.texts_have_one_outcome.ensures.apart c.texts_have_one_outcome.ensures.bad
