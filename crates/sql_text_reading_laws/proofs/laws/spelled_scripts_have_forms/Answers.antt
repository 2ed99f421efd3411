use Rattle.sql_text_reading_laws.specs.Depths.{spelled_scripts_have_forms}
use Rattle.sql_text_reading_laws.proofs.laws.spelled_scripts_have_forms.Goals as goal

pub returns : goal.returns
returns c = spelled_scripts_have_forms
