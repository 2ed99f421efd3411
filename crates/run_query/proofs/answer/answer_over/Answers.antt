use Rattle.std.proofs.Common.{length, ap, ◌∙◌}
use Rattle.run_query.proofs.Scripts.{binds_to_names, rows_decode, text_of_rows}
use Rattle.run_query.proofs.answer.answer_over.Goals as goal

pub answers_of-requires-clause-binds : goal.answers_of-requires-clause-binds
answers_of-requires-clause-binds g c = λ lifetimes within.
    binds_to_names c.args.store.now c.in_ok-tables.tables c.in_ok-tables.ensures.tables c.args.query.now c.in_ok-script.script c.in_ok-script.ensures
    c.in_ok-shown.shown.items c.in_ok-count.count c.in_ok-shown.ensures (c.in_ok-count.ensures ∙ ap length c.deref.ensures.value)

pub answers_of-requires-clause-decodes : goal.answers_of-requires-clause-decodes
answers_of-requires-clause-decodes g c = λ lifetimes within. rows_decode c.args.store.now c.in_ok-tables.tables c.in_ok-tables.ensures.tables c.args.query.now c.in_ok-script.script c.in_ok-script.ensures

pub returns : goal.returns
returns g c =
    text_of_rows c.args.store.now c.in_ok-tables.tables c.in_ok-tables.ensures.tables c.args.query.now c.in_ok-script.script c.in_ok-script.ensures
    c.deref-2.result.now c.in_ok-answers.answers c.new-text.result.items c.write_answers.new.into.items c.new-text.ensures.items (c.deref-2.ensures.value ∙ c.in_ok-shown.ensures) c.in_ok-answers.ensures c.in_ok-write_answers.ensures.ok
