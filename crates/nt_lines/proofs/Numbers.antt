use Rattle.std.proofs.Common.{◌≡◌, ℕ, ◌+◌, ◌*◌, ◌^◌, ◌≤◌, ◌<◌, arith, lit<, lit≤, List, drop}
use Rattle.line_meaning.specs.Characters.{hex_from}
use Rattle.std.proofs.Math.Nat.{pow-le-pow_right}
use Rattle.std.proofs.lemmas.Grind.{pow_more}

-- a number of at most i digits of base sixteen
pub record IsBelow (n i : ℕ) : Type 0 where
  pub bound : n + 1 ≤ 16 ^ i

pub below_none : IsBelow 0 0
below_none = record { bound = lit≤ tt }

pub below_next : (n d i : ℕ) → IsBelow n i → d < 16 → IsBelow (n * 16 + d) (i + 1)
below_next n d i b lt = let h = b.bound in record { bound = rw (pow_more 16 i) (omega (arith, h)) }

pub below_fits : (n i : ℕ) → IsBelow n i → i ≤ 7 → n < 16 ^ 7
below_fits n i b le = let p : 16 ^ i ≤ 16 ^ 7 = pow-le-pow_right (lit< tt) le in let h = b.bound in omega (arith, h, p)

-- the digits that a loop has read
pub record IsRead (digits : List ℕ) (n i : ℕ) : Type 0 where
  pub value : hex_from n (drop i digits) ≡ hex_from 0 digits
  pub below : IsBelow n i
