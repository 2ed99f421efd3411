use Rattle.std.proofs.Common.{◌≡◌, drop}
use Rattle.rdf_value_meaning.specs.Moments.{is_pictured}
use Rattle.rdf_terms.proofs.moment.is_pictured.Given as goal

abbrev pub invariant-loop-i : goal.invariant-loop-i
invariant-loop-i l = is_pictured (drop l.i l.picture) (drop l.i l.text) ≡ is_pictured l.picture l.text
