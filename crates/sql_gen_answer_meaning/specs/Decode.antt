-- Rows read as an answer (this project's own): after a one, three cells for each shown variable.
use Rattle.std.specs.Prelude.{ℕ, ◌==◌, if◌then◌else◌, List, [], ◌∷◌, Option, Some, None, pos}
use Rattle.rdf_meaning.specs.declared.kind.TermKind.{TermKind}
use Rattle.rdf_meaning.specs.declared.kind.TermKind.TheVariants.{Iri, Blank, Tagged, Typed}
use Rattle.rdf_meaning.specs.Terms.{RdfTerm, is_term}
use Rattle.query_eval_meaning.specs.Answer.{Row}
use Rattle.table_meaning.specs.declared.cell.Cell.{Cell}
use Rattle.table_meaning.specs.declared.cell.Cell.TheVariants.{Null, Int, Text}

-- class 1 is a blank node, 2 an IRI, 6 a tagged literal, any other a typed one
abbrev pub kind_of_number : ℕ → TermKind
kind_of_number n = if n == 1 then Blank else (if n == 2 then Iri else (if n == 6 then Tagged else Typed))

-- the term of a class, a text, and a tag or datatype
abbrev pub term_from : ℕ → List ℕ → List ℕ → RdfTerm
term_from class text aux = record { kind = kind_of_number class; text = text; aux = aux }

-- the term that three cells make, or none for three nulls; other cells make no place
abbrev pub place_from : Cell → Cell → Cell → Option (Option RdfTerm)
place_from Null Null Null = Some None
place_from (Int (pos class)) (Text text) (Text aux) = if is_term (kind_of_number class) text aux then Some (Some (term_from class text aux)) else None
place_from _ _ _ = None

-- one more place in front, where both could be read
abbrev pub then_place : Option (Option RdfTerm) → Option Row → Option Row
then_place (Some place) (Some row) = Some (place ∷ row)
then_place _ _ = None

-- three cells for each place: a class, a text, and a tag or datatype that make a term; or three nulls, where it is unbound
abbrev pub decode_places : List Cell → Option Row
decode_places [] = Some []
decode_places (class ∷ text ∷ aux ∷ rest) = then_place (place_from class text aux) (decode_places rest)
decode_places _ = None

-- behind a one
abbrev pub decode_row : List Cell → Option Row
decode_row (Int (pos n) ∷ rest) = if n == 1 then decode_places rest else None
decode_row _ = None

-- one more row in front, where both could be read
abbrev pub then_row : Option Row → Option (List Row) → Option (List Row)
then_row (Some row) (Some rows) = Some (row ∷ rows)
then_row _ _ = None

-- all rows, or none where one has another form
abbrev pub decode : List (List Cell) → Option (List Row)
decode [] = Some []
decode (row ∷ rows) = then_row (decode_row row) (decode rows)
