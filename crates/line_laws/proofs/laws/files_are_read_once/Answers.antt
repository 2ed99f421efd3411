use Rattle.line_laws.proofs.Computed.{readings_computed, refusals_computed, one_reading, one_refusal, never_both, never_neither}
use Rattle.line_laws.proofs.laws.files_are_read_once.Goals as goal

pub returns-clause-readings : goal.returns-clause-readings
returns-clause-readings c = readings_computed

pub returns-clause-refusals : goal.returns-clause-refusals
returns-clause-refusals c = refusals_computed

pub returns-clause-one_reading : goal.returns-clause-one_reading
returns-clause-one_reading c = one_reading

pub returns-clause-one_refusal : goal.returns-clause-one_refusal
returns-clause-one_refusal c = one_refusal

pub returns-clause-never_both : goal.returns-clause-never_both
returns-clause-never_both c = never_both

pub returns-clause-never_neither : goal.returns-clause-never_neither
returns-clause-never_neither c = never_neither
