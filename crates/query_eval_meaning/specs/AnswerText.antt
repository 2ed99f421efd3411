-- An answer as text: a profile of the SPARQL 1.1 Query Results TSV Format.
use Rattle.std.specs.Prelude.{ℕ, List, [], ◌∷◌, ◌++◌, map, Option, Some, None}
use Rattle.std.specs.List.{flat_map}
use Rattle.rdf_meaning.specs.Terms.{RdfTerm}
use Rattle.rdf_meaning.specs.Spelling.{spelling}
use Rattle.query_eval_meaning.specs.Answer.{Row}

-- each field behind a tab
abbrev pub tabbed_on : List (List ℕ) → List ℕ
tabbed_on fields = flat_map (λ field. 9 ∷ field) fields

-- fields with a tab between them
abbrev pub tabbed : List (List ℕ) → List ℕ
tabbed [] = []
tabbed (field ∷ fields) = field ++ tabbed_on fields

abbrev pub line : List (List ℕ) → List ℕ
line fields = tabbed fields ++ 10 ∷ []

-- nothing where it is unbound
abbrev pub place_text : Option RdfTerm → List ℕ
place_text None = []
place_text (Some t) = spelling t

abbrev pub row_text : Row → List ℕ
row_text row = line (map place_text row)

-- the names of the shown variables, each behind `?`
abbrev pub header_text : List (List ℕ) → List ℕ
header_text names = line (map (λ (name : List ℕ). 63 ∷ name) names)

-- a header, and a line for each row
abbrev pub answer_text : List (List ℕ) → List Row → List ℕ
answer_text names rows = header_text names ++ flat_map row_text rows
