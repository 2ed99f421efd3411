use Rattle.std.proofs.Common.{◌≡◌, drop, true, false}
use Rattle.rdf_meaning.specs.Terms.{goes_on_as_tag}
use Rattle.sparql_meaning.proofs.tag.is_tag.Given as goal

abbrev pub invariant-loop-b : goal.invariant-loop-b
invariant-loop-b l = goes_on_as_tag true false l.bytes ≡ goes_on_as_tag l.first l.some (drop l.b-index l.bytes)
