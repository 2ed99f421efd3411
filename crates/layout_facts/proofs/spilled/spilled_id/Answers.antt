use Rattle.std.proofs.Common.{true, false, sym, ◌∙◌}
use Rattle.layout_facts.proofs.Told.{spilled-id, spilled-no_id}
use Rattle.layout_facts.proofs.spilled.spilled_id.Goals as goal

pub returns-in_err-find : goal.returns-in_err-find
returns-in_err-find c = c.from_residual.ensures ∙ spilled-no_id c.args.book.now c.args.t.now c.args.side.now.state c.in_err-find.ensures

pub returns-then-spilled : goal.returns-then-spilled
returns-then-spilled c =
    spilled-id c.args.book.now c.args.t.now c.in_ok-find.field-0 c.number-id.result c.args.side.now.state true c.requires c.in_ok-find.ensures c.number-id.ensures.value (sym c.if-spilled.true ∙ c.spilled.ensures)

pub returns-else-spilled : goal.returns-else-spilled
returns-else-spilled c =
    spilled-id c.args.book.now c.args.t.now c.in_ok-find.field-0 c.number-id.result c.args.side.now.state false c.requires c.in_ok-find.ensures c.number-id.ensures.value (sym c.if-spilled.false ∙ c.spilled.ensures)
