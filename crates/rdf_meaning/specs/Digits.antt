-- Digits in decimal and the number that they write.
use Rattle.std.specs.Prelude.{ℕ, Bool, ◌+◌, ◌-◌, ◌*◌, ◌==◌, List, reverse, drop, fold}
use Rattle.std.specs.List.{prefix_len}

abbrev pub is_zero : ℕ → Bool
is_zero b = b == 48

abbrev pub without_leading_zeros : List ℕ → List ℕ
without_leading_zeros digits = drop (prefix_len is_zero digits) digits

abbrev pub without_trailing_zeros : List ℕ → List ℕ
without_trailing_zeros digits = reverse (without_leading_zeros (reverse digits))

-- the number that digits write
abbrev pub number_of_digits : List ℕ → ℕ
number_of_digits digits = fold (λ n b. n * 10 + (b - 48)) 0 digits
