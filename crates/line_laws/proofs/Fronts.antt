-- Fronts of characters that pass a test, and steps that may fail.
use Rattle.std.proofs.Common.{◌≡◌, ℕ, zero, suc, ◌+◌, Bool, true, false, cond, eqb, List, [], ◌∷◌, ◌++◌, take, drop, refl, ap}
use Rattle.std.specs.Prelude.{Option, Some, None, option_map}
use Rattle.std.proofs.Math.Numerals.{one-add}
use Rattle.std.specs.List.{prefix_len}
use Rattle.std.proofs.lemmas.Bool.Decides.{Decides-eqb}
use Rattle.line_meaning.specs.Grammar.{Each}
use Rattle.line_meaning.specs.Reader.{◌>>=◌, after_char}

pub bind_some : {A B : Type 0} (o : Option A) (f : A → Option B) (y : B) → (o >>= f) ≡ Some y → (x : A) × (o ≡ Some x) × (f x ≡ Some y)
bind_some None f y e = cc
bind_some (Some x) f y e = (x, refl, e)

pub chosen : {A : Type 0} (b : Bool) (x y : A) → cond b (Some x) None ≡ Some y → (b ≡ true) × (x ≡ y)
chosen true x y e = (refl, cc)
chosen false x y e = cc

pub past : (p : ℕ → Bool) (front rest : List ℕ) → Each p front → prefix_len p rest ≡ 0 → drop (prefix_len p (front ++ rest)) (front ++ rest) ≡ rest
past p [] rest e z = rw z refl
past p (b ∷ bs) rest e z = rw (e.0, one-add) (past p bs rest e.1 z)

pub before : (p : ℕ → Bool) (front rest : List ℕ) → Each p front → prefix_len p rest ≡ 0 → take (prefix_len p (front ++ rest)) (front ++ rest) ≡ front
before p [] rest e z = rw z refl
before p (b ∷ bs) rest e z = rw (e.0, one-add) (ap (λ t. b ∷ t) (before p bs rest e.1 z))

passes_at : (p : ℕ → Bool) (b : ℕ) (bs : List ℕ) (t : Bool) → p b ≡ t → Each p (take (prefix_len p bs) bs) → Each p (take (cond t (1 + prefix_len p bs) 0) (b ∷ bs))
passes_at p b bs true e h = rw one-add (e, h)
passes_at p b bs false e h = tt

pub front_passes : (p : ℕ → Bool) (bytes : List ℕ) → Each p (take (prefix_len p bytes) bytes)
front_passes p [] = tt
front_passes p (b ∷ bs) = passes_at p b bs (p b) refl (front_passes p bs)

pub each_push : (p : ℕ → Bool) (cs : List ℕ) (c : ℕ) → Each p cs → p c ≡ true → Each p (cs ++ c ∷ [])
each_push p [] c e h = (h, tt)
each_push p (d ∷ cs) c e h = (e.0, each_push p cs c e.1 h)

pub parts : (n : ℕ) (bytes : List ℕ) → bytes ≡ take n bytes ++ drop n bytes
parts zero bytes = refl
parts (suc n) [] = refl
parts (suc n) (b ∷ bs) = ap (λ t. b ∷ t) (parts n bs)

pub after_char_is : (c : ℕ) (bytes rest : List ℕ) → after_char c bytes ≡ Some rest → bytes ≡ c ∷ rest
after_char_is c [] rest e = cc
after_char_is c (b ∷ bs) rest e =
    let h = chosen (eqb b c) bs rest e in
    let same : b ≡ c = (Decides-eqb b c).0 h.0 in
    rw (same, h.1) refl

pub map_some : {A B : Type 0} (f : A → B) (o : Option A) (y : B) → option_map f o ≡ Some y → (x : A) × (o ≡ Some x) × (f x ≡ y)
map_some f None y e = cc
map_some f (Some x) y e = (x, refl, cc)
