-- Dates with a time of day as literals write them (XML Schema 1.1, part 2, section 3.3.7). This project's own: the years,
-- the digits of a second, and that a time without a zone is one of UTC.
use Rattle.std.specs.Prelude.{ℕ, ℤ, pos, Bool, true, false, ◌+◌, ◌*◌, ◌^◌, ◌+ℤ◌, ◌-ℤ◌, ◌*ℤ◌, ◌&&◌, ◌||◌, ◌==◌, nat_le, if◌then◌else◌, List, [], ◌∷◌, take, drop, Option, Some, None, codes}
use Rattle.std.specs.List.{prefix_len}
use Rattle.rdf_meaning.specs.Characters.{is_digit, is_between}
use Rattle.rdf_meaning.specs.Digits.{number_of_digits}
use Rattle.rdf_meaning.specs.Terms.{is_empty}
use Rattle.rdf_value_meaning.specs.Numbers.{signed, is_fine, billionths}
use Rattle.rdf_value_meaning.specs.Calendar.{days_in_month, day_number}

-- a text of a picture, in which a zero stands for any digit and another byte for itself
abbrev pub is_pictured : List ℕ → List ℕ → Bool
is_pictured [] [] = true
is_pictured (p ∷ ps) (b ∷ bs) = (if p == 48 then is_digit b else b == p) && is_pictured ps bs
is_pictured _ _ = false

-- the number that stands at a place, of so many digits
abbrev pub number_at : ℕ → ℕ → List ℕ → ℕ
number_at place digits text = number_of_digits (take digits (drop place text))

-- a date and a time of day, without fraction and zone
pub record DateTime : Type 0 where
  pub year : ℕ
  pub month : ℕ
  pub day : ℕ
  pub hour : ℕ
  pub minute : ℕ
  pub second : ℕ

abbrev pub date_time_at : List ℕ → DateTime
date_time_at text = record {
  year = number_at 0 4 text;
  month = number_at 5 2 text;
  day = number_at 8 2 text;
  hour = number_at 11 2 text;
  minute = number_at 14 2 text;
  second = number_at 17 2 text;
}

abbrev pub is_date : ℕ → ℕ → ℕ → Bool
is_date y m d = is_between 1 9999 y && is_between 1 12 m && is_between 1 (days_in_month y m) d

abbrev pub is_time : ℕ → ℕ → ℕ → Bool
is_time hour minute second = nat_le hour 23 && nat_le minute 59 && nat_le second 59

abbrev pub seconds_of : DateTime → ℤ
seconds_of t = day_number t.year t.month t.day *ℤ pos 86400 +ℤ pos (t.hour * 3600 + t.minute * 60 + t.second)

-- YYYY-MM-DDThh:mm:ss, in seconds from 1970-01-01T00:00:00
abbrev pub seconds_of_text : List ℕ → Option ℤ
seconds_of_text text =
    let t = date_time_at text in
    if is_pictured (codes "0000-00-00T00:00:00") text && is_date t.year t.month t.day && is_time t.hour t.minute t.second
    then Some (seconds_of t) else None

-- what follows the seconds: a point and digits, where there is a point, and the zone
abbrev pub fraction_and_zone : List ℕ → Option (List ℕ × List ℕ)
fraction_and_zone [] = Some ([], [])
fraction_and_zone (b ∷ bs) =
    if b == 46 then (let n = prefix_len is_digit bs in if n == 0 then None else Some (take n bs, drop n bs)) else Some ([], b ∷ bs)

-- how far a zone is ahead of UTC, in minutes: at most 14 hours
abbrev pub minutes_of_zone : List ℕ → Option ℤ
minutes_of_zone [] = Some (pos 0)
minutes_of_zone (b ∷ bs) =
    if b == 90 then (if is_empty bs then Some (pos 0) else None)
    else (let minutes = number_at 0 2 bs * 60 + number_at 3 2 bs in
    if (b == 43 || b == 45) && is_pictured (codes "00:00") bs && nat_le (number_at 3 2 bs) 59 && nat_le minutes 840
    then Some (signed (b == 45) minutes) else None)

abbrev pub instant_by : Option ℤ → List ℕ → Option ℤ → Option ℤ
instant_by (Some seconds) fraction (Some zone) =
    if is_fine fraction then Some ((seconds -ℤ zone *ℤ pos 60) *ℤ pos (10 ^ 9) +ℤ pos (billionths fraction)) else None
instant_by _ fraction _ = None

abbrev pub instant_with : Option ℤ → Option (List ℕ × List ℕ) → Option ℤ
instant_with seconds None = None
instant_with seconds (Some tail) = instant_by seconds tail.0 (minutes_of_zone tail.1)

-- in nanoseconds from 1970-01-01T00:00:00 UTC
abbrev pub instant_of_text : List ℕ → Option ℤ
instant_of_text text = instant_with (seconds_of_text (take 19 text)) (fraction_and_zone (drop 19 text))
