use Rattle.colouring_file_laws.proofs.Computed.{readings_computed, refusals_computed, one_reading, one_refusal, never_both, one_answer}
use Rattle.colouring_file_laws.proofs.colourings_are_read_once.Goals as goal

pub returns-clause-readings : goal.returns-clause-readings
returns-clause-readings c = readings_computed

pub returns-clause-refusals : goal.returns-clause-refusals
returns-clause-refusals c = refusals_computed

pub returns-clause-one_reading : goal.returns-clause-one_reading
returns-clause-one_reading c = one_reading

pub returns-clause-one_refusal : goal.returns-clause-one_refusal
returns-clause-one_refusal c = one_refusal

pub returns-clause-never_both : goal.returns-clause-never_both
returns-clause-never_both c = never_both

pub returns-clause-one_answer : goal.returns-clause-one_answer
returns-clause-one_answer c = one_answer
