use Rattle.std.proofs.Common.{◌≡◌, drop}
use Rattle.rdf_meaning.specs.Terms.{is_tag, goes_on_as_tag}
use Rattle.nt_lines.proofs.label.is_tag.Given as goal

abbrev pub invariant-loop-byte : goal.invariant-loop-byte
invariant-loop-byte l = goes_on_as_tag l.is_first l.has_part (drop l.byte-index l.bytes) ≡ is_tag l.bytes
