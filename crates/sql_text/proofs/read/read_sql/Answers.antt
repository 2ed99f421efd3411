use Rattle.std.proofs.Common.{rules}
use Rattle.sql_text.specs.Refuses.{AnswersSpelled, Refuses, no_memory, answers_read, answers_refused, is_read, read_steps, spells_told}
use Rattle.std.specs.Prelude.{Err}
use Rattle.sql_text.specs.declared.refusal.SqlRefusal.TheVariants.{NoMemory, Syntax}
use Rattle.sql_text.proofs.read.read_sql.Goals as goal

pub returns-in_err-tokens-clause-spelled : goal.returns-in_err-tokens-clause-spelled
returns-in_err-tokens-clause-spelled c =
    let h : AnswersSpelled c.args.bytes.now (Err NoMemory) = answers_refused c.args.bytes.now NoMemory no_memory in
    search rules

pub returns-in-Ok-clause-reads : goal.returns-in-Ok-clause-reads
returns-in-Ok-clause-reads c =
    spells_told _ _ _ _ c.in_ok-tokens.ensures c.as_slice.ensures c.in-Ok.ensures.reads

pub returns-in-Ok-clause-writable : goal.returns-in-Ok-clause-writable
returns-in-Ok-clause-writable c =
    is_read _ _ (spells_told _ _ _ _ c.in_ok-tokens.ensures c.as_slice.ensures c.in-Ok.ensures.reads)

pub returns-in-Ok-clause-spelled : goal.returns-in-Ok-clause-spelled
returns-in-Ok-clause-spelled c =
    answers_read _ _ (spells_told _ _ _ _ c.in_ok-tokens.ensures c.as_slice.ensures c.in-Ok.ensures.reads)

pub returns-in-Err-NoMemory-clause-spelled : goal.returns-in-Err-NoMemory-clause-spelled
returns-in-Err-NoMemory-clause-spelled c = answers_refused _ _ no_memory

pub returns-clause-spelled : goal.returns-clause-spelled
returns-clause-spelled c =
    let h : Refuses c.args.bytes.now (Syntax c.place_at.result) = search (read_steps, rules) in
    answers_refused _ _ h
