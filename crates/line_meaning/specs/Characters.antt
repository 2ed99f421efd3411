-- Characters of data lines and their escapes (N-Triples 1.1, section 7).
use Rattle.std.specs.Prelude.{ℕ, Bool, ◌||◌, ◌&&◌, ◌==◌, ◌+◌, ◌*◌, not, nat_le, nat_lt, if◌then◌else◌, Option, Some, None, List, [], ◌∷◌}
use Rattle.std.specs.Char.{digit_value, to_ascii_lowercase}
use Rattle.rdf_meaning.specs.Spelling.{is_escaped}
use Rattle.line_meaning.specs.declared.enclosure.Enclosure.{Enclosure}
use Rattle.line_meaning.specs.declared.enclosure.Enclosure.TheVariants.{Iri, Text}

-- a space or a tab
abbrev pub is_blank : ℕ → Bool
is_blank c = c == 32 || c == 9

-- the mark that ends an IRI or a text
abbrev pub close_of : Enclosure → ℕ
close_of Iri = 62
close_of Text = 34

-- a character that stands by itself between the marks
abbrev pub stands_raw : Enclosure → ℕ → Bool
stands_raw Iri c = not (is_escaped c)
stands_raw Text c = not (c == 34 || c == 92 || c == 10 || c == 13)

-- what a backslash and one letter stand for
abbrev pub letter_escape : ℕ → Option ℕ
letter_escape c =
    if c == 116 then Some 9 else (if c == 98 then Some 8 else (if c == 110 then Some 10 else (if c == 114 then Some 13
    else (if c == 102 then Some 12 else (if c == 34 then Some 34 else (if c == 39 then Some 39 else (if c == 92 then Some 92 else None)))))))

-- such escapes stand in texts alone
abbrev pub short_escape : Enclosure → ℕ → Option ℕ
short_escape Iri c = None
short_escape Text c = letter_escape c

-- the number that digits of base sixteen write behind those of n
abbrev pub hex_from : ℕ → List ℕ → Option ℕ
hex_from n [] = Some n
hex_from n (c ∷ cs) = if nat_lt (digit_value c) 16 then hex_from (n * 16 + digit_value c) cs else None

-- a character, and no surrogate
abbrev pub is_scalar : ℕ → Bool
is_scalar c = nat_lt c 0xD800 || (nat_le 0xE000 c && nat_lt c 0x110000)

-- how many digits follow `u` and `U`
abbrev pub digits_of_mark : ℕ → Option ℕ
digits_of_mark c = if c == 117 then Some 4 else (if c == 85 then Some 8 else None)

-- what may stand in a language tag, in any case
abbrev pub is_tag_part : ℕ → Bool
is_tag_part c = nat_lt (digit_value c) 36 || c == 45

abbrev pub lower : ℕ → ℕ
lower = to_ascii_lowercase
