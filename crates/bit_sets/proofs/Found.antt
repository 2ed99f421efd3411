-- A number stands in its own block or nowhere.
use Rattle.std.proofs.Common.{◌≡◌, ◌<◌, ◌*◌, ◌/◌, ◌%◌, ◌≢◌, ℕ, zero, suc, nat_eq, Bool, true, false, ◌&&◌, List, [], ◌∷◌, length, get_or, inl, inr, refl, sym, ap, ◌∙◌, arith}
use Rattle.std.specs.Int.{bit_at}
use Rattle.std.specs.List.{list_any}
use Rattle.std.specs.List.Sorted.{IsStrictlySortedBy}
use Rattle.std.specs.Map.{keys_of}
use Rattle.std.specs.Ordering.{nat_cmp}
use Rattle.std.proofs.lemmas.Bool.{cases_lt}
use Rattle.std.proofs.lemmas.List.{get_or_default}
use Rattle.bit_sets.specs.Blocks.{numbers_of, numbers_in}
use Rattle.bit_sets.specs.Places.{IsAt, IsGap}
use Rattle.bit_sets.proofs.Members.{has_in, has_of, or_nothing, range_before, range_after, range_within}
use Rattle.bit_sets.proofs.Searched.{rises}

and_false : (a : Bool) → (a && false) ≡ false
and_false true = refl
and_false false = refl

and_true : (a : Bool) → (a && true) ≡ a
and_true true = refl
and_true false = refl

-- ---- one block
pub own_block : (n b w : ℕ) → n / 64 ≡ b → list_any (nat_eq n) (numbers_of (b, w)) ≡ nat_eq (bit_at w (n % 64)) 1
own_block n b w e = has_of n b w ∙ rw (range_within n (b * 64) 64 (omega arith) (omega arith)) (and_true (nat_eq (bit_at w (n % 64)) 1))

other_block : (n : ℕ) (e : ℕ × ℕ) → n / 64 ≢ e.0 → list_any (nat_eq n) (numbers_of e) ≡ false
other_block n (b, w) differ = elim (cases_lt n (b * 64)) [
  | inl lower ↦ has_of n b w ∙ rw (range_before n (b * 64) 64 lower) (and_false (nat_eq (bit_at w (n % 64)) 1))
  | inr higher ↦ has_of n b w ∙ rw (range_after n (b * 64) 64 (omega arith)) (and_false (nat_eq (bit_at w (n % 64)) 1))
]

-- ---- blocks
has_nowhere : (n : ℕ) (es : List (ℕ × ℕ)) → ((k : ℕ) (d : ℕ × ℕ) → k < length es → n / 64 ≢ (get_or es k d).0) → list_any (nat_eq n) (numbers_in es) ≡ false
unfolding numbers_in
has_nowhere n [] others = refl
has_nowhere n (e ∷ es) others = has_in n e es ∙ rw (other_block n e (others 0 e (omega arith))) (has_nowhere n es (λ k d l. others (suc k) d (omega arith)))

has_somewhere : (n : ℕ) (es : List (ℕ × ℕ)) (i : ℕ) (e : ℕ × ℕ) → i < length es → ((k : ℕ) (d : ℕ × ℕ) → k < length es → k ≢ i → n / 64 ≢ (get_or es k d).0)
    → list_any (nat_eq n) (numbers_in es) ≡ list_any (nat_eq n) (numbers_of (get_or es i e))
has_somewhere n [] i e l others = absurd (omega arith)
has_somewhere n (y ∷ es) zero e l others =
    has_in n y es ∙ rw (has_nowhere n es (λ k d m. others (suc k) d (omega arith) (λ h. absurd (omega arith)))) (or_nothing (list_any (nat_eq n) (numbers_of y)))
has_somewhere n (y ∷ es) (suc i) e l others =
    has_in n y es ∙ rw (other_block n y (others 0 y (omega arith) (λ h. absurd (omega arith)))) (has_somewhere n es i e (omega arith) (λ k d m differ. others (suc k) d (omega arith) (λ h. differ (omega arith))))

-- ---- where a search ended
module _ (es : List (ℕ × ℕ)) (n place : ℕ) where
  pub has_gap : IsGap (n / 64) es place → list_any (nat_eq n) (numbers_in es) ≡ false
  has_gap gap = has_nowhere n es (λ k d l same. elim (cases_lt k place) [
    | inl lower ↦ absurd (omega (arith, same, gap.lower k d lower))
    | inr higher ↦ absurd (omega (arith, same, gap.higher k d higher l))
  ])

  pub has_at : (d : ℕ × ℕ) → IsStrictlySortedBy nat_cmp (keys_of es) → IsAt (n / 64) es place → list_any (nat_eq n) (numbers_in es) ≡ nat_eq (bit_at (get_or es place d).1 (n % 64)) 1
  has_at d rising at =
      let key = λ (k : ℕ). (get_or es k (0, 0)).0 in
      let here : key place ≡ n / 64 = at.here (0, 0) in
      has_somewhere n es place d at.within (λ k x l differ same.
      let there : n / 64 ≡ key k = same ∙ ap (λ (e : ℕ × ℕ). e.0) (get_or_default es k x (0, 0) l) in
      elim (cases_lt k place) [
        | inl lower ↦ absurd (omega (arith, here, there, rises es rising (n / 64) k place lower at.within))
        | inr higher ↦ absurd (omega (arith, here, there, differ, rises es rising (n / 64) place k (omega (arith, higher, differ)) l))
      ])
      ∙ own_block n (get_or es place d).0 (get_or es place d).1 (sym (at.here d))
