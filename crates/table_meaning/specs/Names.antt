-- Names of tables, columns, steps and aliases, in tables as text and in the SQL dialect (this project's own).
use Rattle.std.specs.Prelude.{ℕ, Bool, false, ◌&&◌, ◌||◌, ◌==◌, not, nat_le, List, [], ◌∷◌, length, codes}
use Rattle.std.specs.List.{list_any, list_all}
use Rattle.std.specs.Str.{bytes_eq}
use Rattle.rdf_meaning.specs.Characters.{is_letter, is_digit}

-- words of the dialect, in capitals, which are no names: those of steps and bodies,
unfoldable pub body_words : List (List ℕ)
body_words = codes "WITH" ∷ codes "AS" ∷ codes "UNION" ∷ codes "ALL" ∷ codes "SELECT" ∷ codes "DISTINCT" ∷ []

-- of sources,
unfoldable pub source_words : List (List ℕ)
source_words = codes "FROM" ∷ codes "WHERE" ∷ codes "JOIN" ∷ codes "LEFT" ∷ codes "ON" ∷ []

-- of order and limits,
unfoldable pub order_words : List (List ℕ)
order_words = codes "ORDER" ∷ codes "BY" ∷ codes "DESC" ∷ codes "LIMIT" ∷ codes "OFFSET" ∷ []

-- of values,
unfoldable pub value_words : List (List ℕ)
value_words = codes "TRUE" ∷ codes "FALSE" ∷ codes "NULL" ∷ codes "CAST" ∷ codes "COALESCE" ∷ []

-- of kinds and tests,
unfoldable pub test_words : List (List ℕ)
test_words = codes "INT" ∷ codes "TEXT" ∷ codes "TRUTH" ∷ codes "AND" ∷ codes "OR" ∷ codes "NOT" ∷ []

-- and of choices
unfoldable pub case_words : List (List ℕ)
case_words = codes "IS" ∷ codes "CASE" ∷ codes "WHEN" ∷ codes "THEN" ∷ codes "ELSE" ∷ codes "END" ∷ []

abbrev pub is_among : List (List ℕ) → List ℕ → Bool
is_among words text = list_any (bytes_eq text) words

abbrev pub is_capital_word : List ℕ → Bool
is_capital_word text =
    is_among body_words text || (is_among source_words text || (is_among order_words text
    || (is_among value_words text || (is_among test_words text || is_among case_words text))))

-- an ASCII letter, a digit or `_`
abbrev pub is_name_byte : ℕ → Bool
is_name_byte b = is_letter b || is_digit b || b == 95

abbrev pub begins_with_letter : List ℕ → Bool
begins_with_letter [] = false
begins_with_letter (b ∷ bs) = is_letter b

-- a letter and up to 63 letters, digits or `_`, and no capital word
unfoldable pub is_name : List ℕ → Bool
is_name text = begins_with_letter text && (list_all is_name_byte text && (nat_le (length text) 64 && not (is_capital_word text)))
