use Rattle.std.proofs.Common.{◌≡◌, drop, map}
use Rattle.sparql_query_meaning.specs.Queries.{once, joined_lists, variables_of}
use Rattle.sparql_syntax.specs.Shown.{part_variables}
use Rattle.sparql_syntax.proofs.shown.+variables.Given as goal

abbrev pub invariant-note_elements-loop-element : goal.invariant-note_elements-loop-element
invariant-note_elements-loop-element l = once l.seen (joined_lists (map part_variables (drop l.element-index l.elements))) ≡ once l.fn.seen (joined_lists (map part_variables l.elements))

abbrev pub invariant-note_groups-loop-group : goal.invariant-note_groups-loop-group
invariant-note_groups-loop-group l = once l.seen (joined_lists (map variables_of (drop l.group-index l.groups))) ≡ once l.fn.seen (joined_lists (map variables_of l.groups))
