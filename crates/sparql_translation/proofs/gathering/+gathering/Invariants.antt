use Rattle.std.proofs.Common.{◌≡◌, drop, map, take}
use Rattle.sparql_meaning.specs.Translation.{group, part, take_parts}
use Rattle.sparql_translation.proofs.gathering.+gathering.Given as goal

abbrev pub invariant-take_elements-loop-element : goal.invariant-take_elements-loop-element
invariant-take_elements-loop-element l = take_parts l.before (map part (drop l.element-index l.elements)) ≡ take_parts l.fn.before (map part l.elements)

abbrev pub invariant-gather_all-loop-inner : goal.invariant-gather_all-loop-inner
invariant-gather_all-loop-inner l = l.all.items ≡ map group (take l.inner-index l.groups)
