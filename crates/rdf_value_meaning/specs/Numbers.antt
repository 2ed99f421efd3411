-- Numbers as literals write them (XML Schema 1.1, part 2, sections 3.3.3 and 3.4.13; the width is this project's own).
use Rattle.std.specs.Prelude.{ℕ, ℤ, pos, neg_ℤ, Bool, false, ◌+◌, ◌*◌, ◌^◌, ◌&&◌, ◌||◌, ◌==◌, not, nat_le, if◌then◌else◌, List, [], ◌∷◌, ◌++◌, length, take, drop, replicate, Option, Some, None}
use Rattle.std.specs.List.{list_all, prefix_len}
use Rattle.rdf_meaning.specs.Characters.{is_digit}
use Rattle.rdf_meaning.specs.Digits.{without_leading_zeros, without_trailing_zeros, number_of_digits}
use Rattle.rdf_meaning.specs.Terms.{is_empty}

-- a number as it is written: its sign, and the digits before and behind the point
pub record Numeral : Type 0 where
  pub is_negative : Bool
  pub whole : List ℕ
  pub fraction : List ℕ

abbrev pub has_minus : List ℕ → Bool
has_minus [] = false
has_minus (b ∷ bs) = b == 45

abbrev pub without_sign : List ℕ → List ℕ
without_sign [] = []
without_sign (b ∷ bs) = if b == 43 || b == 45 then bs else b ∷ bs

-- [0-9]+ behind the sign
abbrev pub whole_numeral : Bool → List ℕ → Option Numeral
whole_numeral negative digits =
    if not (is_empty digits) && list_all is_digit digits then Some (record { is_negative = negative; whole = digits; fraction = [] }) else None

-- what follows the digits before the point: nothing, or a point and digits; there is some digit
abbrev pub pointed_numeral : Bool → List ℕ → List ℕ → Option Numeral
pointed_numeral negative whole [] =
    if is_empty whole then None else Some (record { is_negative = negative; whole = whole; fraction = [] })
pointed_numeral negative whole (b ∷ fraction) =
    if b == 46 && list_all is_digit fraction && not (is_empty whole && is_empty fraction)
    then Some (record { is_negative = negative; whole = whole; fraction = fraction }) else None

-- the form of xsd:integer: [+-]?[0-9]+
abbrev pub integer_numeral : List ℕ → Option Numeral
integer_numeral text = whole_numeral (has_minus text) (without_sign text)

-- the form of xsd:decimal: [+-]?([0-9]+(.[0-9]*)?|.[0-9]+)
abbrev pub decimal_numeral : List ℕ → Option Numeral
decimal_numeral text =
    pointed_numeral (has_minus text) (take (prefix_len is_digit (without_sign text)) (without_sign text)) (drop (prefix_len is_digit (without_sign text)) (without_sign text))

-- at most nine digits behind the point, without the zeros at the end
abbrev pub is_fine : List ℕ → Bool
is_fine fraction = nat_le (length (without_trailing_zeros fraction)) 9

-- at most 18 digits before the point, and 9 behind it
abbrev pub is_in_width : Numeral → Bool
is_in_width n = nat_le (length (without_leading_zeros n.whole)) 18 && is_fine n.fraction

abbrev pub signed : Bool → ℕ → ℤ
signed negative n = if negative then neg_ℤ (pos n) else pos n

-- the whole number before the point, of any length
abbrev pub whole_part : Numeral → ℤ
whole_part n = signed n.is_negative (number_of_digits n.whole)

-- digits behind a point, in units of 10^-9
abbrev pub billionths : List ℕ → ℕ
billionths fraction = number_of_digits (take 9 (fraction ++ replicate 9 48))

-- in units of 10^-9
abbrev pub value_of_numeral : Numeral → ℤ
value_of_numeral n = signed n.is_negative (number_of_digits n.whole * 10 ^ 9 + billionths n.fraction)
