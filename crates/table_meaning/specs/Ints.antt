-- Whole numbers of 128 bits, as they are written in tables as text and in the SQL dialect (this project's own).
use Rattle.std.specs.Prelude.{◌≡◌, ℕ, ℤ, pos, negsuc, ◌^◌, Bool, false, ◌&&◌, ◌||◌, ◌==◌, not, nat_lt, if◌then◌else◌, List, [], ◌∷◌, Option, Some, None, IsTrue}
use Rattle.std.specs.Fmt.{signed_decimal}
use Rattle.std.specs.List.{list_all}
use Rattle.std.specs.Str.Parse.{signed_digits_value}
use Rattle.rdf_meaning.specs.Characters.{is_digit}
use Rattle.rdf_meaning.specs.Terms.{is_empty}

-- at least -2^127, and below 2^127
abbrev pub is_wide_int : ℤ → Bool
is_wide_int (pos n) = nat_lt n (2 ^ 127)
is_wide_int (negsuc n) = nat_lt n (2 ^ 127)

-- in decimal without leading zeros, with `-` before a negative number: each number has one spelling
abbrev pub int_text : ℤ → List ℕ
int_text = signed_decimal

-- this text is that number
abbrev pub SpellsInt : List ℕ → ℤ → Type 0
SpellsInt text number = (text ≡ int_text number) × IsTrue (is_wide_int number)

-- the digits of a number from 0 on: `0` alone, or no zero in front
abbrev pub is_digits : List ℕ → Bool
is_digits [] = false
is_digits (digit ∷ digits) = is_digit digit && (list_all is_digit digits && (not (digit == 48) || is_empty digits))

abbrev pub begins_with_zero : List ℕ → Bool
begins_with_zero [] = false
begins_with_zero (b ∷ bs) = b == 48

-- `-` before the digits of a number other than 0, or the digits alone
abbrev pub is_int_form : List ℕ → Bool
is_int_form [] = false
is_int_form (b ∷ bs) = if b == 45 then is_digits bs && not (begins_with_zero bs) else is_digits (b ∷ bs)

-- the number that a text is, if it is one
unfoldable pub int_of : List ℕ → Option ℤ
int_of text = if is_int_form text && is_wide_int (signed_digits_value 10 text) then Some (signed_digits_value 10 text) else None
