-- The characters of tokens (SPARQL 1.1 Query, section 19.8).
use Rattle.std.specs.Prelude.{ℕ, Bool, ◌||◌, ◌==◌, nat_le, not}
use Rattle.rdf_meaning.specs.Characters.{is_between, is_digit, is_letter, is_base, is_name_mark}

abbrev pub is_blank : ℕ → Bool
is_blank c = c == 32 || c == 9 || c == 10 || c == 13

abbrev pub ends_line : ℕ → Bool
ends_line c = c == 10 || c == 13

-- a letter of any alphabet, or `_` (PN_CHARS_U)
abbrev pub is_start : ℕ → Bool
is_start c = is_base c || c == 95

-- what a variable's name goes on with (VARNAME)
abbrev pub is_variable_part : ℕ → Bool
is_variable_part c = is_start c || is_digit c || is_name_mark c

-- what a name goes on with (PN_CHARS)
abbrev pub is_part : ℕ → Bool
is_part c = is_variable_part c || c == 45

-- what a word goes on with
abbrev pub is_word_part : ℕ → Bool
is_word_part c = is_letter c || is_digit c || c == 95

-- what stands in an IRI by itself (IRIREF)
abbrev pub is_iri_part : ℕ → Bool
is_iri_part c = not (nat_le c 32 || c == 60 || c == 62 || c == 34 || c == 123 || c == 125 || c == 124 || c == 94 || c == 96 || c == 92)

-- what stands in a text between such quotes by itself (STRING_LITERAL1, STRING_LITERAL2)
abbrev pub is_text_part : ℕ → ℕ → Bool
is_text_part quote c = not (c == quote || c == 92 || c == 10 || c == 13)

-- a digit of base sixteen (HEX)
abbrev pub is_hex : ℕ → Bool
is_hex c = is_digit c || is_between 65 70 c || is_between 97 102 c

-- what a backslash keeps in a local name (PN_LOCAL_ESC): `_~.-!$&'()*+,;=/?#@%`
abbrev pub is_kept : ℕ → Bool
is_kept c =
    is_between 36 47 c || c == 33 || c == 35 || c == 59 || c == 61 || c == 63 || c == 64 || c == 95 || c == 126
