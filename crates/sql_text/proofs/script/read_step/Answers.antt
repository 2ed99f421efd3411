use Rattle.std.proofs.Common.{rules}
use Rattle.sql_meaning.specs.Grammar.{OneStep}
use Rattle.sql_text_cursor.specs.Outcomes.{Stops}
use Rattle.sql_text_script_laws.specs.Steps as steps
use Rattle.sql_text.proofs.script.read_step.Goals as goal

pub returns-in_err-body-clause-refuses : goal.returns-in_err-body-clause-refuses
returns-in_err-body-clause-refuses c =
    let h : Stops OneStep c.args.tokens.now c.in_err-body.field-0.0 = steps.step_body_stops _ _ _ _ _ _ c.in_ok-name.ensures.reads c.in_ok-rest.ensures.reads c.in_ok-rest-2.ensures.reads c.in_err-body.ensures.refuses in
    search rules

pub returns-in_err-rest-3-clause-refuses : goal.returns-in_err-rest-3-clause-refuses
returns-in_err-rest-3-clause-refuses c =
    let h : Stops OneStep c.args.tokens.now c.in_err-rest-3.field-0.0 = steps.step_close_stops _ _ _ _ _ _ _ _ c.in_ok-name.ensures.reads c.in_ok-rest.ensures.reads c.in_ok-rest-2.ensures.reads c.in_ok-body.ensures.reads c.in_err-rest-3.ensures.refuses in
    search rules

pub returns-clause-reads : goal.returns-clause-reads
returns-clause-reads c =
    steps.step_got _ _ _ _ _ _ _ _ c.in_ok-name.ensures.reads c.in_ok-rest.ensures.reads c.in_ok-rest-2.ensures.reads c.in_ok-body.ensures.reads c.in_ok-rest-3.ensures.reads
