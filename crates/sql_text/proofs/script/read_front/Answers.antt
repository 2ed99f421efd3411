use Rattle.std.proofs.Common.{rules}
use Rattle.sql_meaning.specs.Grammar.{WholeScript}
use Rattle.sql_text_cursor.specs.Outcomes.{Stops}
use Rattle.sql_text_script_laws.specs.Steps as steps
use Rattle.sql_text.proofs.script.read_front.Goals as goal

pub returns-in_err-last-clause-refuses : goal.returns-in_err-last-clause-refuses
returns-in_err-last-clause-refuses c =
    let h : Stops WholeScript c.args.tokens.now c.in_err-last.field-0.0 = steps.script_body_stops _ _ _ _ c.in_ok-steps.ensures.reads c.in_err-last.ensures.refuses in
    search rules

pub returns-clause-reads : goal.returns-clause-reads
returns-clause-reads c =
    steps.script_got _ _ _ _ _ c.in_ok-steps.ensures.reads c.in_ok-last.ensures.reads
