use Rattle.std.proofs.Common.{◌≡◌, ℕ, map, take}
use Rattle.std.specs.List.{flat_map}
use Rattle.layout_meaning.specs.Side.{elements_of}
use Rattle.layout_standing_meaning.specs.Contents.{element_cells}
use Rattle.layout_elements.specs.ElementRows.{element_row}
use Rattle.layout_elements.proofs.in_order.elements_of.Given as goal

abbrev pub invariant-loop-number : goal.invariant-loop-number
invariant-loop-number l = map element_row l.elements.items ≡ flat_map (λ (n : ℕ). element_cells (n, elements_of l.lists.lists n)) (take l.number-index l.numbers)
