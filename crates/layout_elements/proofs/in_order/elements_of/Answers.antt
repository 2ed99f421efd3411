use Rattle.layout_elements.proofs.in_order.elements_of.Goals as goal

pub elements_in-requires : goal.elements_in-requires
elements_in-requires c = (c.requires c.loop-number.number-index 0 c.loop-number-test.true).there
