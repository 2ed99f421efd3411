-- How a text is cut into lines (this project's own: as N-Triples 1.1, EOL, but every end counts), and what a line may say.
use Rattle.std.specs.Prelude.{◌+◌, ℕ, Bool, List, [], ◌∷◌, ◌||◌, ◌==◌, not, if◌then◌else◌}
use Rattle.rdf_meaning.specs.Terms.{RdfTriple}

-- a line by itself, and the number of line feeds before it, plus 1
pub record Line : Type 0 where
  pub number : ℕ
  pub text : List ℕ

-- this byte stands before what the first line has
abbrev pub onto_first : ℕ → ℕ → List Line → List Line
onto_first n b [] = record { number = n; text = b ∷ [] } ∷ []
onto_first n b (first ∷ others) = record { number = n; text = b ∷ first.text } ∷ others

-- neither a line feed nor a carriage return
abbrev pub is_inner : ℕ → Bool
is_inner b = not (b == 10 || b == 13)

-- every carriage return and every line feed ends a line
abbrev pub lines_from : ℕ → List ℕ → List Line
lines_from n [] = record { number = n; text = [] } ∷ []
lines_from n (b ∷ bs) =
    if b == 10 then record { number = n; text = [] } ∷ lines_from (n + 1) bs
    else (if b == 13 then record { number = n; text = [] } ∷ lines_from n bs else onto_first n b (lines_from n bs))

abbrev pub lines_of : List ℕ → List Line
lines_of bytes = lines_from 1 bytes

-- what a line says
pub data Reading : Type 0 where
  Nothing : Reading
  Adds : RdfTriple → Reading
  Deletes : RdfTriple → Reading
