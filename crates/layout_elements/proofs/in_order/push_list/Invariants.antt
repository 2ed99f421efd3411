use Rattle.std.proofs.Common.{◌≡◌, ◌++◌, map, take}
use Rattle.layout_standing_meaning.specs.Contents.{element_cells}
use Rattle.layout_elements.specs.ElementRows.{element_row}
use Rattle.layout_elements.proofs.in_order.push_list.Given as goal

abbrev pub invariant-loop-value : goal.invariant-loop-value
invariant-loop-value l = map element_row l.elements.items ≡ map element_row l.fn.elements.items ++ element_cells (l.number, take l.value-index l.values)
