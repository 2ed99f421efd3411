-- Moments as texts show them.
use Rattle.std.proofs.Common.{◌≡◌, ◌==◌, if◌then◌else◌, ℕ, ℤ, pos, suc, ◌+◌, ◌*◌, ◌^◌, ◌<◌, ◌≤◌, ◌+ℤ◌, ◌-ℤ◌, ◌*ℤ◌, min, Bool, true, false, ◌&&◌, List, [], ◌∷◌, length, take, drop, get_or, Option, Some, None, refl, sym, ap, ◌∙◌, arith}
use Rattle.std.proofs.Math.Seq.{drop-cons}
use Rattle.std.specs.Cmp.{second_so}
use Rattle.std.proofs.lemmas.Bool.{false_from_ne_true, le-leb}
use Rattle.std.proofs.lemmas.Bool.Decides.{nat_tests}
use Rattle.std.proofs.lemmas.List.{take_min, drop_min}
use Rattle.rdf_meaning.specs.Characters.{is_digit}
use Rattle.rdf_value_meaning.specs.Numbers.{is_fine, billionths}
use Rattle.rdf_value_meaning.specs.Calendar.{day_number, days_in_month}
use Rattle.rdf_value_meaning.specs.Moments.{is_pictured, is_date, seconds_of_text, fraction_and_zone, minutes_of_zone, instant_by, instant_with, instant_of_text}
use Rattle.jiff_core.specs.declared.civil.date.Date.{Date}
use Rattle.jiff_core.specs.Date.{epoch_day}
use Rattle.jiff_core.specs.Calendar.{days_from_civil}
use Rattle.rdf_day_laws.proofs.Days.{same_day}

-- ---- pictures

-- whether a byte may stand where a picture has this one
abbrev pub fits : ℕ → ℕ → Bool
fits p b = if p == 48 then is_digit b else b == p

pub same_length : (ps bs : List ℕ) → is_pictured ps bs ≡ true → length bs ≡ length ps
same_length [] [] h = refl
same_length [] (b ∷ bs) h = cc
same_length (p ∷ ps) [] h = cc
same_length (p ∷ ps) (b ∷ bs) h =
    let rest : length bs ≡ length ps = same_length ps bs (second_so (if p == 48 then is_digit b else b == p) (is_pictured ps bs) h) in ap suc rest

-- a text of another length has another picture
pub other_length : (ps bs : List ℕ) → (length bs ≡ length ps → ⊥) → is_pictured ps bs ≡ false
other_length ps bs h = false_from_ne_true _ (λ e. h (same_length ps bs e))

pub next_place : (ps bs : List ℕ) (i : ℕ) → i < length ps → i < length bs
    → is_pictured (drop i ps) (drop i bs) ≡ (fits (get_or ps i 0) (get_or bs i 0) && is_pictured (drop (i + 1) ps) (drop (i + 1) bs))
next_place ps bs i p b = let e : i + 1 ≡ suc i = omega arith in rw (e, drop-cons ps i 0 p, drop-cons bs i 0 b) refl

-- ---- dates

-- a date of `jiff` in the years of the profile is one, and has the number that `jiff` gives
pub found : (y m d : ℕ) (date : Date) → date.year ≡ pos y → date.month ≡ m → date.day ≡ d → 1 ≤ y → y ≤ 9999
    → (if is_date y m d then Some (day_number y m d) else None) ≡ Some (epoch_day date)
found y m d date year month day low high =
    let first : 1 ≤ m = omega (arith, month, date.month_in.0) in
    let last : m ≤ 12 = omega (arith, month, date.month_in.1) in
    let start : 1 ≤ d = omega (arith, day, date.day_in.0) in
    let end : d ≤ days_in_month y m = rw (year, month, day) at date.day_in.1 in
    let is : is_date y m d ≡ true = grind (arith, nat_tests) in
    let same : days_from_civil (pos y) m d ≡ epoch_day date = λ i. days_from_civil (sym year i) (sym month i) (sym day i) in
    rw is (ap (λ (n : ℤ). Some n) (sym (same_day y m d start) ∙ same))

-- ---- instants

none_first : (x : Option (List ℕ × List ℕ)) → instant_with None x ≡ None
none_first None = refl
none_first (Some x) = refl

none_last : (s : Option ℤ) (fraction : List ℕ) → instant_by s fraction None ≡ None
none_last None fraction = refl
none_last (Some s) fraction = refl

-- a text is cut behind its seconds
pub shown : (text front back : List ℕ) (n : ℕ) → n ≡ min 19 (length text) → front ≡ take n text → back ≡ drop n text
    → instant_of_text text ≡ instant_with (seconds_of_text front) (fraction_and_zone back)
shown text front back n e f b =
    let front_is : front ≡ take 19 text = f ∙ ap (λ (k : ℕ). take k text) e ∙ take_min 19 text in
    let back_is : back ≡ drop 19 text = b ∙ ap (λ (k : ℕ). drop k text) e ∙ drop_min 19 text in
    λ i. instant_with (seconds_of_text (sym front_is i)) (fraction_and_zone (sym back_is i))

pub without_seconds : (s : Option ℤ) (x : Option (List ℕ × List ℕ)) → s ≡ None → instant_with s x ≡ None
without_seconds s x e = ap (λ (s : Option ℤ). instant_with s x) e ∙ none_first x

pub without_fraction : (s : Option ℤ) (x : Option (List ℕ × List ℕ)) → x ≡ None → instant_with s x ≡ None
without_fraction s x e = ap (λ (x : Option (List ℕ × List ℕ)). instant_with s x) e

pub with_zone : (s : Option ℤ) (x : Option (List ℕ × List ℕ)) (fraction zone : List ℕ) → x ≡ Some (fraction, zone)
    → instant_with s x ≡ instant_by s fraction (minutes_of_zone zone)
with_zone s x fraction zone e = ap (λ (x : Option (List ℕ × List ℕ)). instant_with s x) e

pub without_zone : (s m : Option ℤ) (fraction : List ℕ) → m ≡ None → instant_by s fraction m ≡ None
without_zone s m fraction e = ap (λ (m : Option ℤ). instant_by s fraction m) e ∙ none_last s fraction

pub by_parts : (s m : Option ℤ) (fraction : List ℕ) (seconds minutes : ℤ) (fine : Bool) → s ≡ Some seconds → m ≡ Some minutes → is_fine fraction ≡ fine
    → instant_by s fraction m ≡ (if fine then Some ((seconds -ℤ minutes *ℤ pos 60) *ℤ pos (10 ^ 9) +ℤ pos (billionths fraction)) else None)
by_parts s m fraction seconds minutes fine e f g =
    (λ i. instant_by (e i) fraction (f i))
    ∙ ap (λ (b : Bool). if b then Some ((seconds -ℤ minutes *ℤ pos 60) *ℤ pos (10 ^ 9) +ℤ pos (billionths fraction)) else None) g
