-- The characters of names and labels (N-Triples 1.1, section 7: PN_CHARS_BASE, PN_CHARS_U, PN_CHARS).
use Rattle.std.specs.Prelude.{ℕ, Bool, ◌||◌, ◌&&◌, ◌==◌, nat_le}

abbrev pub is_between : ℕ → ℕ → ℕ → Bool
is_between low high c = nat_le low c && nat_le c high

abbrev pub is_digit : ℕ → Bool
is_digit c = is_between 48 57 c

abbrev pub is_small_letter : ℕ → Bool
is_small_letter c = is_between 97 122 c

abbrev pub is_letter : ℕ → Bool
is_letter c = is_between 65 90 c || is_small_letter c

-- a letter of any alphabet
abbrev pub is_base : ℕ → Bool
is_base c =
    is_letter c || is_between 0xC0 0xD6 c || is_between 0xD8 0xF6 c || is_between 0xF8 0x2FF c || is_between 0x370 0x37D c
    || is_between 0x37F 0x1FFF c || is_between 0x200C 0x200D c || is_between 0x2070 0x218F c || is_between 0x2C00 0x2FEF c
    || is_between 0x3001 0xD7FF c || is_between 0xF900 0xFDCF c || is_between 0xFDF0 0xFFFD c || is_between 0x10000 0xEFFFF c

-- what may stand in a name behind its first character, besides letters
abbrev pub is_name_mark : ℕ → Bool
is_name_mark c = c == 0xB7 || is_between 0x300 0x36F c || is_between 0x203F 0x2040 c

-- the first character of a label: a letter, `_` or `:`
abbrev pub is_label_start : ℕ → Bool
is_label_start c = is_base c || c == 95 || c == 58

-- a character inside a label: also `-`, digits and marks
abbrev pub is_label_part : ℕ → Bool
is_label_part c = is_label_start c || c == 45 || is_digit c || is_name_mark c
