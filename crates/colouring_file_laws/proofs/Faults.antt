-- Pairs without a fault.
use Rattle.std.proofs.Common.{◌≡◌, ◌≤◌, ◌<◌, ◌+◌, ◌&&◌, ◌||◌, ℕ, nat_le, nat_lt, Bool, true, false, List, [], ◌∷◌, ◌++◌, None, refl, ◌∙◌, arith}
use Rattle.std.specs.List.{list_any, AllByRecursion, IsDistinct}
use Rattle.std.specs.Cmp.Lexicographic.{nat_list_eq_equiv}
use Rattle.std.proofs.lemmas.Bool.Decides.{nat_tests}
use Rattle.pred_columns.specs.declared.columns.ColourPair.{ColourPair}
use Rattle.pred_columns.specs.Refusal.{same_text, fault_from, refusal_of}
use Rattle.colouring_file_laws.specs.Pairs.{same_iri}

push-none : (x y : List ℕ) (seen : List (List ℕ)) → list_any (same_text x) seen ≡ false → same_text x y ≡ false → list_any (same_text x) (seen ++ y ∷ []) ≡ false
push-none x y [] h e = rw e refl
push-none x y (z ∷ zs) h e = by (same_text x z) (push-none x y zs) h
  where
    by : (b : Bool) → (list_any (same_text x) zs ≡ false → same_text x y ≡ false → list_any (same_text x) (zs ++ y ∷ []) ≡ false) → (b || list_any (same_text x) zs) ≡ false → (b || list_any (same_text x) (zs ++ y ∷ [])) ≡ false
    by true ih h = h
    by false ih h = ih h e

fresh-more : (p : ColourPair) (seen : List (List ℕ)) (ps : List ColourPair) → AllByRecursion (λ q. list_any (same_text q.iri) seen ≡ false) ps → AllByRecursion (λ q. same_iri p q ≡ false) ps
    → AllByRecursion (λ q. list_any (same_text q.iri) (seen ++ p.iri ∷ []) ≡ false) ps
fresh-more p seen [] a d = tt
fresh-more p seen (q ∷ qs) a d = (push-none q.iri p.iri seen a.0 (nat_list_eq_equiv.symm q.iri p.iri ∙ d.0), fresh-more p seen qs a.1 d.1)

no_fault : (k : ℕ) (seen : List (List ℕ)) (ps : List ColourPair) (at : ℕ) → AllByRecursion (λ p. p.column < k) ps → AllByRecursion (λ q. list_any (same_text q.iri) seen ≡ false) ps → IsDistinct same_iri ps → fault_from k seen ps at ≡ None
unfolding IsDistinct
no_fault k seen [] at below fresh once = refl
no_fault k seen (p ∷ ps) at below fresh once =
    let l : nat_lt p.column k ≡ true = (let h = below.0 in grind (arith, nat_tests)) in
    rw (fresh.0, l) (no_fault k (seen ++ p.iri ∷ []) ps (at + 1) below.1 (fresh-more p seen ps fresh.1 once.0) once.1)

unseen : (ps : List ColourPair) → AllByRecursion (λ (q : ColourPair). list_any (same_text q.iri) [] ≡ false) ps
unseen [] = tt
unseen (p ∷ ps) = (refl, unseen ps)

within : (a b n : ℕ) → a ≤ n → n ≤ b → (nat_le a n && nat_le n b) ≡ true
within a b n h i =
    let l : nat_le a n ≡ true = grind (arith, nat_tests) in
    let m : nat_le n b ≡ true = grind (arith, nat_tests) in
    rw (l, m) refl

pub fit_taken : (k hashes : ℕ) (pairs : List ColourPair) → 1 ≤ k → k ≤ 32 → 1 ≤ hashes → hashes ≤ 4 → AllByRecursion (λ p. p.column < k) pairs → IsDistinct same_iri pairs → refusal_of k hashes pairs ≡ None
fit_taken k hashes pairs a b d e below once = rw (within 1 32 k a b, within 1 4 hashes d e) (no_fault k [] pairs 0 below (unseen pairs) once)
