-- What stands of a name behind the place that a loop has come to.
use Rattle.std.proofs.Common.{◌≡◌, ℕ, zero, suc, ◌+◌, ◌-◌, ◌≤◌, Bool, true, false, List, [], ◌∷◌, length, drop, Option, Some, None, refl, sym, ap, ◌∙◌, arith, zero-add, ◌==◌, if◌then◌else◌}
use Rattle.std.proofs.lemmas.Bool.Decides.{nat_tests}
use Rattle.sparql_meaning.specs.Tokens.{name_from, part_len, one_more, to_colon}
use Rattle.sparql_tokens.specs.Table.{kept, more, goes_on}

more_one : (n : ℕ) (x : Option ℕ) → more (n + 1) x ≡ more n (one_more x)
more_one n None = refl
more_one n (Some m) = ap (λ k. Some k) (omega arith)

name_skip : (local : Bool) (n : ℕ) (cs : List ℕ) → n ≤ length cs → name_from local n cs ≡ n + name_from local 0 (drop n cs)
name_skip local zero cs h = sym (zero-add (name_from local 0 cs))
name_skip local (suc n) [] h = absurd (omega arith)
name_skip local (suc n) (c ∷ cs) h = let i : name_from local n cs ≡ n + name_from local 0 (drop n cs) = name_skip local n cs (omega arith) in omega arith

kept_dot : (end at n : ℕ) → kept end (at + 1) n ≡ kept end at (if n == 0 then 0 else 1 + n)
kept_dot end at zero = refl
kept_dot end at (suc n) = grind (arith, nat_tests)

dot_there : (local : Bool) (end at c : ℕ) (cs : List ℕ) → c ≡ 46 → kept end (at + 1) (name_from local 0 cs) ≡ kept end at (name_from local 0 (c ∷ cs))
dot_there local end at c cs h = kept_dot end at (name_from local 0 cs) ∙ ap (λ d. kept end at (name_from local 0 (d ∷ cs))) (sym h)

pub dot_step : (local : Bool) (end at c whole : ℕ) (rest cs : List ℕ) → kept end at (name_from local 0 rest) ≡ whole → rest ≡ c ∷ cs → c ≡ 46 → kept end (at + 1) (name_from local 0 cs) ≡ whole
dot_step local end at c whole rest cs w r h = dot_there local end at c cs h ∙ ap (λ l. kept end at (name_from local 0 l)) (sym r) ∙ w

front_part : (local : Bool) (n c : ℕ) (cs : List ℕ) → (c == 46) ≡ false → part_len local (c ∷ cs) ≡ suc n → name_from local 0 (c ∷ cs) ≡ 1 + name_from local n cs
front_part local n c cs h is = let e : suc n - 1 ≡ n = omega arith in let z : (suc n == 0) ≡ false = grind (arith, nat_tests) in rw (h, is, z, e) refl

kept_more : (end at n r : ℕ) → kept (at + suc n) (at + suc n) r ≡ kept end at (1 + (n + r))
kept_more end at n zero = grind (arith, nat_tests)
kept_more end at n (suc r) = grind (arith, nat_tests)

part_there : (local : Bool) (end at n c : ℕ) (cs : List ℕ) → (c == 46) ≡ false → part_len local (c ∷ cs) ≡ suc n → n ≤ length cs
    → kept (at + suc n) (at + suc n) (name_from local 0 (drop n cs)) ≡ kept end at (name_from local 0 (c ∷ cs))
part_there local end at n c cs h is w = kept_more end at n (name_from local 0 (drop n cs)) ∙ ap (λ k. kept end at (1 + k)) (sym (name_skip local n cs w)) ∙ ap (λ k. kept end at k) (sym (front_part local n c cs h is))

pub part_step : (local : Bool) (end at c n whole : ℕ) (rest cs : List ℕ) → kept end at (name_from local 0 rest) ≡ whole → rest ≡ c ∷ cs → (c ≡ 46 → ⊥) → n ≡ part_len local rest → n ≤ length rest → (n ≡ 0 → ⊥)
    → kept (at + n) (at + n) (name_from local 0 (drop n rest)) ≡ whole
part_step local end at c zero whole rest cs w r h is l nz = absurd (nz refl)
part_step local end at c (suc n) whole rest cs w r h is l nz =
    let e : (c == 46) ≡ false = grind (arith, nat_tests) in
    ap (λ k. kept (at + suc n) (at + suc n) (name_from local 0 (drop (suc n) k))) r
    ∙ part_there local end at n c cs e (ap (part_len local) (sym r) ∙ sym is) (omega (arith, ap length r))
    ∙ ap (λ k. kept end at (name_from local 0 k)) (sym r) ∙ w

pub colon_step : (at c : ℕ) (whole : Option ℕ) (rest cs : List ℕ) → more at (to_colon rest) ≡ whole → rest ≡ c ∷ cs → (c ≡ 58 → ⊥) → goes_on c cs ≡ true → more (at + 1) (to_colon cs) ≡ whole
colon_step at c whole rest cs w r h is =
    let e : (c == 58) ≡ false = grind (arith, nat_tests) in
    let there : more (at + 1) (to_colon cs) ≡ more at (to_colon (c ∷ cs)) = rw (e, is) (more_one at (to_colon cs)) in
    there ∙ ap (λ k. more at (to_colon k)) (sym r) ∙ w

pub colon_begins : (x : Option ℕ) → more 0 x ≡ x
colon_begins None = refl
colon_begins (Some n) = ap (λ k. Some k) (zero-add n)
