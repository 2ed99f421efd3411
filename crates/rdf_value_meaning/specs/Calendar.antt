-- The proleptic Gregorian calendar (ISO 8601; XML Schema 1.1, part 2, appendix E.3): how long years and months are, and the number of a day.
use Rattle.std.specs.Prelude.{ℕ, zero, suc, ◌+◌, ◌-◌, ◌%◌, ℤ, pos, ◌-ℤ◌, Bool, not, ◌&&◌, ◌||◌, ◌==◌, if◌then◌else◌}

-- every fourth year, but of the centuries only every fourth
abbrev pub is_leap_year : ℕ → Bool
is_leap_year y = y % 4 == 0 && (not (y % 100 == 0) || y % 400 == 0)

abbrev pub days_in_year : ℕ → ℕ
days_in_year y = if is_leap_year y then 366 else 365

-- thirty days have April, June, September and November
abbrev pub days_in_month : ℕ → ℕ → ℕ
days_in_month y m =
    if m == 2 then (if is_leap_year y then 29 else 28)
    else (if m == 4 || m == 6 || m == 9 || m == 11 then 30 else 31)

-- the days of the years 0 to n - 1
unfoldable pub days_of_years : ℕ → ℕ
days_of_years zero = 0
days_of_years (suc n) = days_of_years n + days_in_year n

-- the days of the months 1 to n
unfoldable pub days_of_months : ℕ → ℕ → ℕ
days_of_months y zero = 0
days_of_months y (suc n) = days_of_months y n + days_in_month y (suc n)

-- how many days lie before a date, from 1 January of the year 0 on
unfoldable pub days_before : ℕ → ℕ → ℕ → ℕ
days_before y m d = days_of_years y + days_of_months y (m - 1) + (d - 1)

-- the number of a day: 0 for 1 January 1970
unfoldable pub day_number : ℕ → ℕ → ℕ → ℤ
day_number y m d = pos (days_before y m d) -ℤ pos (days_before 1970 1 1)
