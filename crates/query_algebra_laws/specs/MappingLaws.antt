-- The laws of mappings.
use Rattle.std.specs.Prelude.{◌≡◌, ℕ, zero, suc, ◌<◌, ◌≤◌, ◌⊎◌, true, false, Option, Some, None, is_some, refl}
use Rattle.std.proofs.Common.{ap, arith, eqb, inl, inr}
use Rattle.std.proofs.Math.Path.{fun_ext}
use Rattle.std.proofs.lemmas.Bool.{eq-eqb, ne_eqb, and_parts, cases_Bool, cases_eq}
use Rattle.rdf_meaning.specs.Terms.{RdfTerm}
use Rattle.rdf_meaning.specs.TermLaws.{same_term-is}
use Rattle.query_eval_meaning.specs.Mapping.{Mapping, set, agree, agree_below, either, merge}

-- the variable that is set, and the others
pub set-same : (v : ℕ) (t : Option RdfTerm) (m : Mapping) → set v t m v ≡ t
set-same v t m = rw (eq-eqb v v refl) refl

pub set-other : (v w : ℕ) (t : Option RdfTerm) (m : Mapping) → (w ≡ v → ⊥) → set v t m w ≡ m w
set-other v w t m ne = rw (ne_eqb w v ne) refl

pub agree_below-set : (n v : ℕ) (s t : Option RdfTerm) (a b : Mapping) → n ≤ v → agree_below n (set v s a) (set v t b) ≡ agree_below n a b
agree_below-set zero v s t a b l = refl
agree_below-set (suc n) v s t a b l =
    let ne : n ≡ v → ⊥ = omega arith in
    let le : n ≤ v = omega arith in
    rw (set-other v n s a ne, set-other v n t b ne, agree_below-set n v s t a b le) refl

pub merge-set : (v : ℕ) (s t : Option RdfTerm) (a b : Mapping) → merge (set v s a) (set v t b) ≡ set v (either s t) (merge a b)
merge-set v s t a b = fun_ext (λ w. at w (cases_Bool (eqb w v)))
  where
    at : (w : ℕ) → (eqb w v ≡ true) ⊎ (eqb w v ≡ false) → merge (set v s a) (set v t b) w ≡ set v (either s t) (merge a b) w
    at w = elim [ inl e ↦ rw e refl | inr e ↦ rw e refl ]

pub merge-left : (a b : Mapping) (v : ℕ) → is_some (a v) ≡ true → merge a b v ≡ a v
merge-left a b v = go (a v)
  where
    go : (x : Option RdfTerm) → is_some x ≡ true → either x (b v) ≡ x
    go (Some t) e = refl
    go None e = cc

pub merge-none : (a b : Mapping) (v : ℕ) → is_some (a v) ≡ false → merge a b v ≡ b v
merge-none a b v = go (a v)
  where
    go : (x : Option RdfTerm) → is_some x ≡ false → either x (b v) ≡ b v
    go (Some t) e = cc
    go None e = refl

agreed-step : (n : ℕ) (a b : Mapping) → agree (a n) (b n) ≡ true → ((v : ℕ) → v < n → agree (a v) (b v) ≡ true) → (v : ℕ) → v < suc n → agree (a v) (b v) ≡ true
agreed-step n a b top below v l = go (cases_eq v n)
  where
    go : (v ≡ n) ⊎ (v ≡ n → ⊥) → agree (a v) (b v) ≡ true
    go (inl q) = rw q top
    go (inr q) = below v (omega arith)

pub agreed : (n : ℕ) (a b : Mapping) → agree_below n a b ≡ true → (v : ℕ) → v < n → agree (a v) (b v) ≡ true
agreed zero a b e v l = absurd (omega arith)
agreed (suc n) a b e v l = let h = and_parts _ _ e in agreed-step n a b h.0 (agreed n a b h.1) v l

pub either-right : (x y : Option RdfTerm) → is_some y ≡ true → agree x y ≡ true → either x y ≡ y
either-right (Some s) (Some t) e h = ap (λ (t : RdfTerm). Some t) (same_term-is s t h)
either-right None y e h = refl
either-right (Some s) None e h = cc

pub none-is : (x : Option RdfTerm) → is_some x ≡ false → x ≡ None
none-is None e = refl
none-is (Some t) e = cc
