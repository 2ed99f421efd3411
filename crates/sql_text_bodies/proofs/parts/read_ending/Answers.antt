use Rattle.std.proofs.Common.{rules}
use Rattle.sql_meaning.specs.Grammar.{Ending}
use Rattle.sql_text_cursor.specs.Outcomes.{Stops}
use Rattle.sql_text_bodies.specs.Parts as parts
use Rattle.sql_text_bodies.proofs.parts.read_ending.Goals as goal

pub returns-clause-reads : goal.returns-clause-reads
returns-clause-reads c =
    parts.ending_got _ _ _ _ _ _ _ c.in_ok-keys.ensures.reads c.in_ok-most.ensures.reads c.in_ok-skip.ensures.reads

pub returns-in_err-most-clause-refuses : goal.returns-in_err-most-clause-refuses
returns-in_err-most-clause-refuses c =
    let h : Stops Ending c.args.tokens.now c.in_err-most.field-0.0 = parts.ending_most_stops _ _ _ _ c.in_ok-keys.ensures.reads c.in_err-most.ensures.refuses in
    search rules

pub returns-in_err-skip-clause-refuses : goal.returns-in_err-skip-clause-refuses
returns-in_err-skip-clause-refuses c =
    let h : Stops Ending c.args.tokens.now c.in_err-skip.field-0.0 = parts.ending_skip_stops _ _ _ _ _ _ c.in_ok-keys.ensures.reads c.in_ok-most.ensures.reads c.in_err-skip.ensures.refuses in
    search rules
