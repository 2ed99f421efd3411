use Rattle.std.proofs.Common.{◌∙◌}
use Rattle.layout_facts.proofs.Told.{id-is, id-none}
use Rattle.layout_facts.proofs.ids.id_of.Goals as goal

pub returns-in-Some : goal.returns-in-Some
returns-in-Some c = c.number.ensures.value ∙ id-is c.args.book.now c.args.t.now c.in-Some.id c.requires c.in-Some.ensures

pub returns-in-None : goal.returns-in-None
returns-in-None c = id-none c.args.book.now c.args.t.now c.in-None.ensures
