use Rattle.sql_text_reading_laws.specs.Depths.{read_scripts_are_writable}
use Rattle.sql_text_reading_laws.proofs.laws.read_scripts_are_writable.Goals as goal

pub returns : goal.returns
returns c = read_scripts_are_writable
