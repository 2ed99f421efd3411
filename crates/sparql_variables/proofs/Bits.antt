-- What one more bit changes, and the bits of two sets.
use Rattle.std.proofs.Common.{◌≡◌, ◌<◌, ℕ, zero, suc, ◌*◌, ◌^◌, max, min, Bool, true, false, not, ◌||◌, ◌&&◌, ◌==◌, bit_or, bit_and, refl, sym, ap, ◌∙◌, arith}
use Rattle.std.specs.Int.{bit_at}
use Rattle.std.proofs.lemmas.Nat.Bits.{and_pow, bit_at-lt, bit_at_or, bit_at_and}
use Rattle.std.proofs.lemmas.Nat.{and_le_l, and_or_self, and_or_apart, pow_apart, pow_pos}
use Rattle.sparql_variables.specs.Bits.{members}

pub no_bits : (w : ℕ) → members 0 w ≡ false
no_bits w = grind (arith, and_le_l 0 (2 ^ w))

own_bit : (n v : ℕ) → members (bit_or n (2 ^ v)) v ≡ true
own_bit n v = grind (arith, and_or_self (2 ^ v) n, pow_pos v)

other_bit : (n v w : ℕ) → (v ≡ w → ⊥) → members (bit_or n (2 ^ v)) w ≡ members n w
other_bit n v w apart = ap (λ x. not (x == 0)) (and_or_apart (2 ^ w) n (2 ^ v) (pow_apart v w apart))

pub more_bits : (n v w : ℕ) → members (bit_or n (2 ^ v)) w ≡ (members n w || w == v)
more_bits n v w = grind (arith, own_bit n v, other_bit n v w)

pub ruleset bit_laws = (no_bits, more_bits)

-- ---- two sets

lit : (b p : ℕ) → b < 2 → 0 < p → not (b * p == 0) ≡ (b == 1)
lit zero p h k = grind (arith, k)
lit (suc zero) p h k = grind (arith, k)
lit (suc (suc b)) p h k = absurd (omega (arith, h))

bit_is : (n v : ℕ) → members n v ≡ (bit_at n v == 1)
bit_is n v = ap (λ x. not (x == 0)) (and_pow n v) ∙ lit (bit_at n v) (2 ^ v) (bit_at-lt n v) (pow_pos v)

greater : (a b : ℕ) → a < 2 → b < 2 → (max a b == 1) ≡ (a == 1 || b == 1)
greater zero zero h k = refl
greater zero (suc zero) h k = refl
greater (suc zero) zero h k = refl
greater (suc zero) (suc zero) h k = refl
greater (suc (suc a)) b h k = absurd (omega (arith, h))
greater a (suc (suc b)) h k = absurd (omega (arith, k))

less : (a b : ℕ) → a < 2 → b < 2 → (min a b == 1) ≡ (a == 1 && b == 1)
less zero zero h k = refl
less zero (suc zero) h k = refl
less (suc zero) zero h k = refl
less (suc zero) (suc zero) h k = refl
less (suc (suc a)) b h k = absurd (omega (arith, h))
less a (suc (suc b)) h k = absurd (omega (arith, k))

pub either_bits : (n m v : ℕ) → members (bit_or n m) v ≡ (members n v || members m v)
either_bits n m v =
    bit_is (bit_or n m) v ∙ ap (λ x. x == 1) (bit_at_or n m v) ∙ greater (bit_at n v) (bit_at m v) (bit_at-lt n v) (bit_at-lt m v)
    ∙ ap (λ (x : Bool). x || bit_at m v == 1) (sym (bit_is n v)) ∙ ap (λ (x : Bool). members n v || x) (sym (bit_is m v))

pub both_bits : (n m v : ℕ) → members (bit_and n m) v ≡ (members n v && members m v)
both_bits n m v =
    bit_is (bit_and n m) v ∙ ap (λ x. x == 1) (bit_at_and n m v) ∙ less (bit_at n v) (bit_at m v) (bit_at-lt n v) (bit_at-lt m v)
    ∙ ap (λ (x : Bool). x && bit_at m v == 1) (sym (bit_is n v)) ∙ ap (λ (x : Bool). members n v && x) (sym (bit_is m v))

pub ruleset both_laws = (either_bits, both_bits)
