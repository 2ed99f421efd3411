-- Colours, plainly, and the sets that find them.
use Rattle.std.specs.Prelude.{◌≡◌, ◌&&◌, ℕ, nat_eq, Bool, List}
use Rattle.std.specs.List.{list_any}
use Rattle.std.specs.HashSet.{HashSet, contains}
use Rattle.std.specs.Cmp.Lexicographic.{pointwise}
use Rattle.rdf_meaning.specs.declared.side.SideName.{SideName}
use Rattle.rdf_meaning.specs.declared.side.SideName.TheVariants.{Direct, Reverse}
use Rattle.colouring_file_meaning.specs.ColourLines.{ColourOf, same_side}
use Rattle.colouring_file.specs.declared.colours.ColourLine.{ColourLine}

abbrev pub colour_of : ColourLine → ColourOf
colour_of line = record { side = line.side; iri = line.iri; column = line.column }

-- some colour has the side and the IRI
abbrev pub has_place : SideName → List ℕ → List ColourOf → Bool
has_place side iri colours = list_any (λ c. same_side side c.side && pointwise nat_eq iri c.iri) colours

pub record AreFound {S : Type 0} (colours : List ColourOf) (direct reverse : HashSet (List ℕ) S) : Type 0 where
  pub direct_found : (iri : List ℕ) → contains (pointwise nat_eq) direct iri ≡ has_place Direct iri colours
  pub reverse_found : (iri : List ℕ) → contains (pointwise nat_eq) reverse iri ≡ has_place Reverse iri colours
