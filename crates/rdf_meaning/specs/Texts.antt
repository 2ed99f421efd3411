-- What a text shows.
use Rattle.std.specs.Prelude.{ℕ, List, string_bytes}
use Rattle.rdf_meaning.specs.declared.text.Inner.{Inner}
use Rattle.rdf_meaning.specs.declared.text.Inner.TheVariants.{Owned, Known}
use Rattle.rdf_meaning.specs.Known.{known_bytes}

abbrev pub inner_bytes : Inner → List ℕ
inner_bytes (Owned text) = string_bytes text
inner_bytes (Known datatype) = known_bytes datatype
