use Rattle.std.proofs.Common.{◌≡◌, drop}
use Rattle.std.specs.List.{find}
use Rattle.std.specs.Str.{bytes_eq}
use Rattle.rdf_meaning.specs.Known.{known_bytes}
use Rattle.rdf_value_meaning.specs.Datatypes.{Entry}
use Rattle.rdf_terms.proofs.value.form_in.Given as goal

abbrev pub invariant-loop-known : goal.invariant-loop-known
invariant-loop-known l =
    find (λ (e : Entry). bytes_eq l.iri (known_bytes e.0)) (drop l.known-index l.datatypes) ≡ find (λ (e : Entry). bytes_eq l.iri (known_bytes e.0)) l.datatypes
