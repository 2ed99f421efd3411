use Rattle.layout_text_laws.proofs.Plain.{standing_plain}
use Rattle.layout_text_laws.proofs.standing_tables_are_plain.Goals as goal

pub returns : goal.returns
returns c = standing_plain
