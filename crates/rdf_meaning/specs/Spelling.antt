-- How terms are written in data and answers (N-Triples 1.1, section 7; which characters are escaped is this project's own).
use Rattle.std.specs.Prelude.{ℕ, Bool, List, [], ◌∷◌, ◌++◌, nat_lt, ◌==◌, ◌||◌, ◌/◌, ◌%◌, ◌+◌, if◌then◌else◌, codes}
use Rattle.std.specs.List.{flat_map}
use Rattle.std.specs.Str.{bytes_eq}
use Rattle.rdf_meaning.specs.declared.kind.TermKind.{TermKind}
use Rattle.rdf_meaning.specs.declared.kind.TermKind.TheVariants.{Iri, Blank, Tagged, Typed}
use Rattle.rdf_meaning.specs.declared.text.KnownDatatype.TheVariants.{String}
use Rattle.rdf_meaning.specs.Known.{known_bytes}
use Rattle.rdf_meaning.specs.Terms.{RdfTerm}

-- a byte that never stands in an IRI by itself: 00 to 20, and the nine marks
abbrev pub is_escaped : ℕ → Bool
is_escaped b = nat_lt b 33 || b == 60 || b == 62 || b == 34 || b == 123 || b == 125 || b == 124 || b == 94 || b == 96 || b == 92

-- a digit of base sixteen, in upper case
abbrev pub hex_digit : ℕ → ℕ
hex_digit n = if nat_lt n 10 then 48 + n else 55 + n

abbrev pub spelled_iri_byte : ℕ → List ℕ
spelled_iri_byte b = if is_escaped b then codes "\\u00" ++ (hex_digit (b / 16) ∷ hex_digit (b % 16) ∷ []) else b ∷ []

-- an IRI between angle brackets
abbrev pub iri_spelling : List ℕ → List ℕ
iri_spelling text = 60 ∷ (flat_map spelled_iri_byte text ++ 62 ∷ [])

-- a tab, a line feed, a carriage return, a quote and a backslash are escaped in a literal
abbrev pub spelled_text_byte : ℕ → List ℕ
spelled_text_byte b =
    if b == 9 then codes "\\t" else (if b == 10 then codes "\\n" else (if b == 13 then codes "\\r"
    else (if b == 34 then codes "\\\"" else (if b == 92 then codes "\\\\" else b ∷ []))))

-- a text between double quotes
abbrev pub text_spelling : List ℕ → List ℕ
text_spelling text = 34 ∷ (flat_map spelled_text_byte text ++ 34 ∷ [])

-- nothing for xsd:string
abbrev pub datatype_spelling : List ℕ → List ℕ
datatype_spelling datatype = if bytes_eq datatype (known_bytes String) then [] else codes "^^" ++ iri_spelling datatype

abbrev pub spelling_of_kind : TermKind → List ℕ → List ℕ → List ℕ
spelling_of_kind Iri text aux = iri_spelling text
spelling_of_kind Blank text aux = codes "_:" ++ text
spelling_of_kind Tagged text aux = text_spelling text ++ 64 ∷ aux
spelling_of_kind Typed text aux = text_spelling text ++ datatype_spelling aux

abbrev pub spelling : RdfTerm → List ℕ
spelling t = spelling_of_kind t.kind t.text t.aux
