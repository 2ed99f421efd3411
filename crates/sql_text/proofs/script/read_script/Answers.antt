use Rattle.sql_text_script_laws.specs.Whole.{script_further}
use Rattle.sql_text.proofs.script.read_script.Goals as goal

pub returns-in-Some-clause-refuses : goal.returns-in-Some-clause-refuses
returns-in-Some-clause-refuses c =
    script_further _ _ _ _ _ c.in_ok-script.ensures.reads c.in-Some.ensures.first
