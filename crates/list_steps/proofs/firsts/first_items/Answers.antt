use Rattle.std.proofs.Common.{ap, ◌∙◌}
use Rattle.indexmap.specs.IndexSet.{insert_key}
use Rattle.list_steps.proofs.FirstsAsTheyCome.{firsts-insert}
use Rattle.list_steps.proofs.firsts.first_items.Goals as goal

pub items-preserved : goal.items-preserved
items-preserved g c =
    c.in_ok-add.ensures ∙ ap (λ kept. insert_key g.T.PartialEq.eq kept c.in-Some.item) c.items.invariant ∙ firsts-insert g.T.PartialEq.eq c.items.yielded c.in-Some.item
