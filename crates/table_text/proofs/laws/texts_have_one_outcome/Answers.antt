use Rattle.table_text.proofs.OneOutcome.{never_both, one_reading, read_or_bad}
use Rattle.table_text.proofs.laws.texts_have_one_outcome.Goals as goal

pub returns-clause-whole : goal.returns-clause-whole
returns-clause-whole c = read_or_bad

pub returns-clause-reading : goal.returns-clause-reading
returns-clause-reading c = one_reading

pub returns-clause-apart : goal.returns-clause-apart
returns-clause-apart c = never_both
