-- The numbers of days: how they go on, and that `jiff` counts the same.
use Rattle.std.proofs.Common.{◌≡◌, ℕ, pos, zero, suc, ◌+◌, ◌-◌, ◌<◌, ◌≤◌, ◌+ℤ◌, refl, sym, ap, arith, unsigned_abs}
use Rattle.rdf_value_meaning.specs.Calendar.{days_in_year, days_in_month, days_of_years, days_of_months, days_before, day_number}
use Rattle.jiff_core.specs.Calendar as jiff
use Rattle.jiff_core.proofs.MarchLemmas.{leap_day, leap_day-shift, days_of_years-suc}
use Rattle.jiff_core.proofs.SignedLemmas.{signed_arith}

-- ---- the number of a day

year_length : (n : ℕ) → days_in_year n ≡ 365 + leap_day (pos n)
year_length n = grind arith

later_leap_day : (n base : ℕ) → base ≡ 10000 → leap_day (pos (n + base)) ≡ leap_day (pos n)
later_leap_day n base e = sym (leap_day-shift (pos n) (n + base) (omega (arith, signed_arith, e)))

years : (n base : ℕ) → base ≡ 10000 → jiff.days_of_years (n + base) ≡ jiff.days_of_years base + days_of_years n
unfolding days_of_years
years zero base e = let none : zero + base ≡ base = omega arith in rw none (omega arith)
years (suc n) base e =
    let more : suc n + base ≡ suc (n + base) = omega arith in
    rw more (omega (arith, days_of_years-suc (n + base), later_leap_day n base e, years n base e, year_length n))

months : (y m : ℕ) → jiff.days_of_months (pos y) m ≡ days_of_months y m
unfolding jiff.days_of_months days_of_months
months y zero = refl
months y (suc m) = ap (λ (d : ℕ). d + days_in_month y (suc m)) (months y m)

counted : (y m d base : ℕ) → base ≡ 10000 → 1 ≤ d → jiff.day_count (pos y) m d ≡ jiff.days_of_years base + days_before y m d
unfolding jiff.day_count days_before
counted y m d base e some =
    let at : unsigned_abs (pos y +ℤ pos 10000) ≡ y + base = omega (arith, e) in
    rw at (omega (arith, years y base e, months y (m - 1)))

-- the day number of `jiff` is the number of the day
pub same_day : (y m d : ℕ) → 1 ≤ d → jiff.days_from_civil (pos y) m d ≡ day_number y m d
unfolding jiff.days_from_civil day_number
same_day y m d some =
    omega (arith, signed_arith, counted y m d 10000 refl some, counted 1970 1 1 10000 refl (omega arith))

-- ---- one day after another

-- a day whose count is one more has the next number
after : (y m d a b c : ℕ) → days_before a b c ≡ days_before y m d + 1 → day_number a b c ≡ day_number y m d +ℤ pos 1
unfolding day_number
after y m d a b c e = omega (arith, signed_arith, e)

pub epoch : day_number 1970 1 1 ≡ pos 0
unfolding day_number
epoch = omega (arith, signed_arith)

pub next_day : (y m d : ℕ) → 1 ≤ d → d < days_in_month y m → day_number y m (d + 1) ≡ day_number y m d +ℤ pos 1
unfolding days_before
next_day y m d some less = after y m d y m (d + 1) (omega arith)

month_is_long : (y m : ℕ) → 1 ≤ days_in_month y m
month_is_long y m = grind arith

days_through : (y m : ℕ) → 1 ≤ m → days_of_months y m ≡ days_of_months y (m - 1) + days_in_month y m
unfolding days_of_months
days_through y zero some = absurd (omega arith)
days_through y (suc m) some = let e : suc m - 1 ≡ m = omega arith in rw e refl

pub next_month : (y m : ℕ) → 1 ≤ m → m < 12 → day_number y (m + 1) 1 ≡ day_number y m (days_in_month y m) +ℤ pos 1
unfolding days_before
next_month y m some less =
    let e : m + 1 - 1 ≡ m = omega arith in
    after y m (days_in_month y m) y (m + 1) 1 (rw e (omega (arith, days_through y m some, month_is_long y m)))

year_by_months : (y : ℕ) → days_of_months y 11 + 31 ≡ days_in_year y
unfolding days_of_months
year_by_months y = grind arith

pub next_year : (y : ℕ) → day_number (y + 1) 1 1 ≡ day_number y 12 31 +ℤ pos 1
unfolding days_before days_of_years days_of_months
next_year y =
    let e : y + 1 ≡ suc y = omega arith in
    rw e (after y 12 31 (suc y) 1 1 (omega (arith, year_by_months y)))
