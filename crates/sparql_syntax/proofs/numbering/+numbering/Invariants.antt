use Rattle.std.proofs.Common.{◌≡◌, drop, map}
use Rattle.sparql_query_meaning.specs.Queries.{number_all}
use Rattle.sparql_syntax.specs.Numbering.{behind, number_part, number_whole}
use Rattle.sparql_syntax.proofs.numbering.+numbering.Given as goal

abbrev pub invariant-number_elements-loop-element : goal.invariant-number_elements-loop-element
invariant-number_elements-loop-element l = behind l.made (number_all (map number_part (drop l.element-index l.elements)) l.next) ≡ number_all (map number_part l.elements) l.fn.next

abbrev pub invariant-number_groups-loop-group : goal.invariant-number_groups-loop-group
invariant-number_groups-loop-group l = behind l.made (number_all (map number_whole (drop l.group-index l.groups)) l.next) ≡ number_all (map number_whole l.groups) l.fn.next
