-- Shares of a count.
use Rattle.std.specs.Prelude.{◌≡◌, ◌<◌, ◌+◌, ℕ, zero, suc, refl}
use Rattle.std.proofs.Common.{ap, arith}
use Rattle.std.specs.Int.{div_ceil}
use Rattle.query_flow_meaning.specs.Flow.{shared_out}

pub share_none : (n ends : ℕ) → ends ≡ 0 → shared_out n ends ≡ 0
share_none n zero e = refl
share_none n (suc k) e = absurd (omega arith)

pub share_some : (n ends : ℕ) → 0 < ends → shared_out n ends ≡ div_ceil n ends
share_some n zero l = absurd (omega arith)
share_some n (suc k) l = ap (div_ceil n) (let h : 1 + k ≡ suc k = omega arith in h)

pub ruleset share_laws = (share_none, share_some)
