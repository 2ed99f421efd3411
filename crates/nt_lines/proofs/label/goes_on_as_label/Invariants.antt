use Rattle.std.proofs.Common.{◌≡◌, length}
use Rattle.rdf_meaning.specs.Terms.{goes_on_as_label}
use Rattle.nt_lines.proofs.label.goes_on_as_label.Given as goal

abbrev pub invariant-characters : goal.invariant-characters
invariant-characters l = goes_on_as_label l.rest ≡ goes_on_as_label l.chars

abbrev pub decreases-characters : goal.decreases-characters
decreases-characters l = length l.rest
