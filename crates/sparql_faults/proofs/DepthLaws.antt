-- How many brackets and `!` are open.
use Rattle.std.proofs.Common.{ℕ, suc, ◌≡◌, ◌+◌, ◌-◌, ◌<◌, ◌≤◌, Bool, true, false, List, [], ◌∷◌, length, drop, get_or, nat_lt, refl, sym, ap, ◌∙◌, arith}
use Rattle.std.proofs.Math.Seq.{drop-cons}
use Rattle.sparql_query_meaning.specs.Limits.{Role, next, subject, filter, open_now, one_if, behind_bracket}
use Rattle.sparql_faults.specs.Depth.{without_last}

pub last_bracket : (bs ds : List Bool) → ds ≡ without_last bs → ds ≡ [] → next subject ≡ behind_bracket bs
last_bracket [] ds h e = refl
last_bracket (b ∷ []) ds h e = refl
last_bracket (b ∷ c ∷ bs) ds h e = absurd cc

pub other_bracket : (bs ds : List Bool) → ds ≡ without_last bs → (ds ≡ [] → ⊥) → filter ds false ≡ behind_bracket bs
other_bracket [] ds h e = absurd (e h)
other_bracket (b ∷ []) ds h e = absurd (e h)
other_bracket (b ∷ c ∷ bs) ds h e = ap (λ (z : List Bool). filter z false) h

pub ruleset bracket_paths = (last_bracket, other_bracket)

-- so many may still be open behind those before a place
abbrev pub IsLeft : List Bool → Bool → ℕ → ℕ → ℕ → Type 0
IsLeft all waits most left at = nat_lt most (open_now all waits) ≡ nat_lt left (open_now (drop at all) waits)

there : (all : List Bool) (at : ℕ) (b : Bool) (waits : Bool) → at < length all → b ≡ get_or all at b → open_now (drop at all) waits ≡ 1 + one_if b + open_now (drop (suc at) all) waits
there all at b waits within is = ap (λ (z : List Bool). open_now z waits) (drop-cons all at b within) ∙ ap (λ (c : Bool). 1 + one_if c + open_now (drop (suc at) all) waits) (sym is)

pub too_many : (all : List Bool) (waits b : Bool) (most left at : ℕ) → IsLeft all waits most left at → at < length all → b ≡ get_or all at b → left < 1 + one_if b → nat_lt most (open_now all waits) ≡ true
too_many all waits b most left at h within is few = let e = there all at b waits within is in h ∙ (let k : nat_lt left (open_now (drop at all) waits) ≡ true = grind (arith, e, few) in k)

pub still_left : (all : List Bool) (waits b : Bool) (most left at : ℕ) → IsLeft all waits most left at → at < length all → b ≡ get_or all at b → 1 + one_if b ≤ left → IsLeft all waits most (left - (1 + one_if b)) (at + 1)
still_left all waits b most left at h within is some =
    let e = there all at b waits within is in
    let n : suc at ≡ at + 1 = omega arith in
    h ∙ (let k : nat_lt left (open_now (drop at all) waits) ≡ nat_lt (left - (1 + one_if b)) (open_now (drop (suc at) all) waits) = grind (arith, e, some) in k)
    ∙ ap (λ (z : ℕ). nat_lt (left - (1 + one_if b)) (open_now (drop z all) waits)) n

open_bracket : (bs : List Bool) (waits : Bool) → nat_lt (47 - one_if waits) (open_now bs false) ≡ nat_lt 48 (open_now (waits ∷ bs) false)
open_bracket bs true = grind arith
open_bracket bs false = grind arith

pub bracket_depth : (r : Role) (bs : List Bool) (waits : Bool) → nat_lt (47 - one_if waits) (open_now bs false) ≡ nat_lt 48 (open_now (waits ∷ bs) false)
bracket_depth r bs waits = open_bracket bs waits
