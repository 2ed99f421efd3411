-- Fronts of characters that pass a test, and choices.
use Rattle.std.proofs.Common.{◌≡◌, ◌≤◌, ◌<◌, ℕ, zero, suc, ◌+◌, ◌⊎◌, inl, inr, Bool, true, false, cond, eqb, List, [], ◌∷◌, ◌++◌, length, take, drop, refl, sym, ap, ◌∙◌, subst, arith, ◌||◌, ◌&&◌}
use Rattle.std.specs.Prelude.{Option, Some, None}
use Rattle.std.specs.List.{prefix_len}
use Rattle.std.proofs.Math.Numerals.{one-add}
use Rattle.std.proofs.lemmas.Bool.Decides.{Decides-eqb}
use Rattle.std.proofs.Math.Seq.{take-append_seam}
use Rattle.line_meaning.specs.Grammar.{Each}
use Rattle.sparql_meaning.specs.declared.token.TokenKind.{TokenKind}
use Rattle.sparql_meaning.specs.declared.token.Found.{Found}
use Rattle.sparql_token_laws.specs.Forms.{Spells}

-- what is found has at least so many characters, and with as many it is of this kind
abbrev pub Covers : TokenKind → ℕ → Option Found → Type 0
Covers kind n None = ⊥
Covers kind n (Some f) = (n ≤ f.chars) × (n ≡ f.chars → kind ≡ f.kind)

-- what is found, where something is, has more characters
abbrev pub Exceeds : ℕ → Option Found → Type 0
Exceeds n None = Unit {0}
Exceeds n (Some f) = n < f.chars

-- what is found stands in front, and is spelled
pub record Stands (cs : List ℕ) (f : Found) : Type 0 where
  pub written : List ℕ
  pub behind : List ℕ
  pub spelled : Spells f.kind written
  pub count : f.chars ≡ length written
  pub whole : cs ≡ written ++ behind

-- which way a choice went
pub chosen_or : {A : Type 0} (b : Bool) (x y z : A) → cond b x y ≡ z → ((b ≡ true) × (x ≡ z)) ⊎ ((b ≡ false) × (y ≡ z))
chosen_or true x y z e = inl (refl, e)
chosen_or false x y z e = inr (refl, e)

pub is_same : (c d : ℕ) → eqb c d ≡ true → c ≡ d
is_same c d e = (Decides-eqb c d).0 e

-- characters of which only one passes a test are not the same
pub apart : (p : ℕ → Bool) (c d : ℕ) → p c ≡ true → p d ≡ false → eqb c d ≡ false
apart p c d t f = by (eqb c d) refl
  where
    by : (b : Bool) → eqb c d ≡ b → b ≡ false
    by false e = refl
    by true e = let h : p d ≡ true = subst (λ (x : ℕ). p x ≡ true) (is_same c d e) t in absurd cc

pub either_true : (a b : Bool) → (a || b) ≡ true → (a ≡ true) ⊎ (b ≡ true)
either_true true b e = inl refl
either_true false b e = inr e

pub both_true : (a b : Bool) → (a && b) ≡ true → (a ≡ true) × (b ≡ true)
both_true true b e = (refl, e)
both_true false b e = absurd cc

pub or_left : (a b : Bool) → a ≡ true → (a || b) ≡ true
or_left a b e = rw e refl

pub or_right : (a b : Bool) → b ≡ true → (a || b) ≡ true
or_right true b e = refl
or_right false b e = e

pub parts : (n : ℕ) (cs : List ℕ) → cs ≡ take n cs ++ drop n cs
parts zero cs = refl
parts (suc n) [] = refl
parts (suc n) (c ∷ cs) = ap (λ t. c ∷ t) (parts n cs)

passes_at : (p : ℕ → Bool) (b : ℕ) (bs : List ℕ) (t : Bool) → p b ≡ t → Each p (take (prefix_len p bs) bs) → Each p (take (cond t (1 + prefix_len p bs) 0) (b ∷ bs))
passes_at p b bs true e h = rw one-add (e, h)
passes_at p b bs false e h = tt

pub run_passes : (p : ℕ → Bool) (cs : List ℕ) → Each p (take (prefix_len p cs) cs)
run_passes p [] = tt
run_passes p (c ∷ cs) = passes_at p c cs (p c) refl (run_passes p cs)

counted_at : (p : ℕ → Bool) (b : ℕ) (bs : List ℕ) (t : Bool) → length (take (prefix_len p bs) bs) ≡ prefix_len p bs → length (take (cond t (1 + prefix_len p bs) 0) (b ∷ bs)) ≡ cond t (1 + prefix_len p bs) 0
counted_at p b bs true h = rw one-add (ap suc h)
counted_at p b bs false h = refl

pub run_counted : (p : ℕ → Bool) (cs : List ℕ) → length (take (prefix_len p cs) cs) ≡ prefix_len p cs
run_counted p [] = refl
run_counted p (c ∷ cs) = counted_at p c cs (p c) (run_counted p cs)

-- a run goes on at least as far as characters pass
pub run_covers : (p : ℕ → Bool) (front rest : List ℕ) → Each p front → length front ≤ prefix_len p (front ++ rest)
run_covers p [] rest e = omega arith
run_covers p (c ∷ cs) rest e = let i = run_covers p cs rest e.1 in rw e.0 (omega (arith, i))

-- and no further, where the next one doesn't pass
pub run_is : (p : ℕ → Bool) (front rest : List ℕ) → Each p front → prefix_len p rest ≡ 0 → prefix_len p (front ++ rest) ≡ length front
run_is p [] rest e z = z
run_is p (c ∷ cs) rest e z = let i = run_is p cs rest e.1 z in rw e.0 (omega (arith, i))

pub front_taken : (front rest : List ℕ) (n : ℕ) → length front ≡ n → take n (front ++ rest) ≡ front
front_taken front rest n e = rw (← e) (take-append_seam front rest)

-- so many characters in front, of which this is so
pub record Front (P : List ℕ → Type 0) (n : ℕ) (cs : List ℕ) : Type 0 where
  pub written : List ℕ
  pub behind : List ℕ
  pub fine : P written
  pub count : n ≡ length written
  pub whole : cs ≡ written ++ behind

pub whole_taken : (cs written behind : List ℕ) (n : ℕ) → n ≡ length written → cs ≡ written ++ behind → take n cs ≡ written
whole_taken cs written behind n c w = ap (take n) w ∙ front_taken written behind n (sym c)

abbrev pub run_front : (p : ℕ → Bool) (cs : List ℕ) → Front (Each p) (prefix_len p cs) cs
run_front p cs = record { written = take (prefix_len p cs) cs; behind = drop (prefix_len p cs) cs; fine = run_passes p cs; count = sym (run_counted p cs); whole = parts (prefix_len p cs) cs }

pub some_same : {A : Type 0} (x y : A) → Some x ≡ Some y → x ≡ y
some_same x y e = cc

pub none_some : {A : Type 0} (y : A) → None ≡ Some y → ⊥
none_some y e = absurd cc
