-- The count of a name that was noted once more.
use Rattle.std.proofs.Common.{◌≡◌, ℕ, ◌+◌, ◌<◌, List, [], ◌∷◌, ◌++◌, Bool, true, false, cond, sym, arith, refl, ap, ◌∙◌, zero-add, subst}
use Rattle.std.specs.Str.{bytes_eq}
use Rattle.std.proofs.lemmas.Slice.Eq.{bytes_eq-Decides}
use Rattle.std.proofs.lemmas.List.Sums.{sum_by-append}
use Rattle.store_io.specs.Reading.{CountsFaults}
use Rattle.store_io.specs.Shelves.{faults_among}

noted : (failed : List (List ℕ)) (name other : List ℕ) → faults_among (failed ++ name ∷ []) other ≡ faults_among failed other + cond (bytes_eq name other) 1 0
noted failed name other =
    sum_by-append (λ n. cond (bytes_eq n other) 1 0) failed (name ∷ []) ∙ ap (λ k. faults_among failed other + k) (zero-add (cond (bytes_eq name other) 1 0))

one_more : (b : Bool) (m n : ℕ) → b ≡ true → n ≡ m + cond b 1 0 → m < n
one_more true m n t e = omega arith
one_more false m n t e = cc

same_still : (b : Bool) (m n : ℕ) → (b ≡ true → ⊥) → n ≡ m + cond b 1 0 → n ≡ m
same_still true m n t e = absurd (t refl)
same_still false m n t e = omega arith

pub counted : (old new : List (List ℕ)) (name : List ℕ) → new ≡ old ++ name ∷ [] → CountsFaults (faults_among old) (faults_among new) name × (faults_among old name < faults_among new name)
counted old new name is =
    let count : (other : List ℕ) → faults_among new other ≡ faults_among old other + cond (bytes_eq name other) 1 0 = λ other. subst (λ (l : List (List ℕ)). faults_among l other ≡ faults_among old other + cond (bytes_eq name other) 1 0) (sym is) (noted old name other) in
    let rose : faults_among old name < faults_among new name = one_more (bytes_eq name name) _ _ ((bytes_eq-Decides name name).1 refl) (count name) in (
      record {
        later = omega arith;
        others = λ other apart. same_still (bytes_eq name other) _ _ (λ t. apart (sym ((bytes_eq-Decides name other).0 t))) (count other);
      },
      rose,
    )
