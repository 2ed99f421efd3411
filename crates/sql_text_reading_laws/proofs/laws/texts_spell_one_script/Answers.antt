use Rattle.sql_text_reading_laws.specs.OneScript.{texts_spell_one_script}
use Rattle.sql_text_reading_laws.proofs.laws.texts_spell_one_script.Goals as goal

pub returns : goal.returns
returns c = texts_spell_one_script
