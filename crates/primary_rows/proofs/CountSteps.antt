-- Steps on kept counts.
use Rattle.std.proofs.Common.{◌≡◌, ℕ, ◌+◌, ◌-◌, ◌<◌, ◌==◌, nat_eq, nat_lt, Bool, true, false, ◌||◌, List, [], ◌∷◌, Option, Some, None, length, refl, sym, ap, ◌∙◌, arith, subst}
use Rattle.std.specs.Ordering.{nat_cmp}
use Rattle.std.specs.BTreeMap.{is_at}
use Rattle.std.specs.Map.{lookup, set_value, keys_of}
use Rattle.std.specs.Option.{is_some}
use Rattle.std.specs.List.{list_any, IsDistinct, AllByRecursion}
use Rattle.std.proofs.lemmas.Map.Made.{is_some-lookup}
use Rattle.std.proofs.lemmas.Map.Entries.{length-keys_of}
use Rattle.layout_meaning.specs.Sound.{one_if}
use Rattle.layout_meaning.specs.Rows.{IsCountOf}
use Rattle.layout_meaning.proofs.Maps.{set_value-same, set_value-other}
use Rattle.layout_meaning.proofs.RowsKept.{All-found}
use Rattle.primary_rows.specs.Counted.{or_zero, count_in, ArePositive}

pub has-count : (es : List (ℕ × ℕ)) (p : ℕ) → ArePositive es → is_some (lookup (is_at (nat_cmp p)) es) ≡ nat_lt 0 (count_in es p)
has-count es p h = by (lookup (is_at (nat_cmp p)) es) refl
  where
    by : (o : Option ℕ) → lookup (is_at (nat_cmp p)) es ≡ o → is_some o ≡ nat_lt 0 (or_zero o)
    by None t = refl
    by (Some n) t = let a : 0 < n = All-found (λ (n : ℕ). 0 < n) p n es h t in grind arith

pub count-there : (es : List (ℕ × ℕ)) (p : ℕ) → 0 < count_in es p → lookup (is_at (nat_cmp p)) es ≡ Some (count_in es p)
count-there es p h = by (lookup (is_at (nat_cmp p)) es) h
  where
    by : (o : Option ℕ) → 0 < or_zero o → o ≡ Some (or_zero o)
    by None h = absurd (omega arith)
    by (Some n) h = refl

-- a count that is there becomes one less
pub count-set : (p n : ℕ) (es : List (ℕ × ℕ)) → 0 < count_in es p → n + 1 ≡ count_in es p → (q : ℕ) → count_in (set_value (is_at (nat_cmp p)) es n) q ≡ count_in es q - one_if (p == q)
count-set p n es h e q = by (p == q) refl
  where
    by : (b : Bool) → (p == q) ≡ b → count_in (set_value (is_at (nat_cmp p)) es n) q ≡ count_in es q - one_if b
    by true t =
        let k : p ≡ q = grind arith in
        let a : count_in (set_value (is_at (nat_cmp p)) es n) p ≡ n = ap or_zero (set_value-same p (count_in es p) n es (count-there es p h)) in
        subst (λ (z : ℕ). count_in (set_value (is_at (nat_cmp p)) es n) z ≡ count_in es z - 1) k (omega arith)
    by false t =
        let d : q ≡ p → ⊥ = λ (e : q ≡ p). (let x : (p == q) ≡ true = grind arith in (let y : true ≡ false = sym x ∙ t in absurd (no y))) in
        ap or_zero (set_value-other p q n es d) ∙ omega arith
      where
        no : true ≡ false → ⊥
        no e = cc

same_test : (n k : ℕ) → is_at (nat_cmp n) k ≡ nat_eq n k
same_test n k = grind arith

any-test : (n : ℕ) (ks : List ℕ) → list_any (is_at (nat_cmp n)) ks ≡ list_any (nat_eq n) ks
any-test n [] = refl
any-test n (k ∷ ks) = ap (λ (b : Bool). b || list_any (is_at (nat_cmp n)) ks) (same_test n k) ∙ ap (λ (b : Bool). nat_eq n k || b) (any-test n ks)

all-test : (n : ℕ) (ks : List ℕ) → AllByRecursion (λ (k : ℕ). is_at (nat_cmp n) k ≡ false) ks → AllByRecursion (λ (k : ℕ). nat_eq n k ≡ false) ks
all-test n [] h = tt
all-test n (k ∷ ks) h = (sym (same_test n k) ∙ h.0, all-test n ks h.1)

distinct-test : (ks : List ℕ) → IsDistinct (λ (n : ℕ). is_at (nat_cmp n)) ks → IsDistinct nat_eq ks
unfolding IsDistinct
distinct-test [] h = tt
distinct-test (k ∷ ks) h = (all-test k ks h.0, distinct-test ks h.1)

pub counted : (es : List (ℕ × ℕ)) → ArePositive es → IsDistinct (λ (n : ℕ). is_at (nat_cmp n)) (keys_of es) → IsCountOf (λ (p : ℕ). nat_lt 0 (count_in es p)) (length es)
counted es h d = record {
  names = keys_of es;
  distinct = distinct-test (keys_of es) d;
  exact = λ (n : ℕ). sym (any-test n (keys_of es)) ∙ sym (is_some-lookup (is_at (nat_cmp n)) es) ∙ has-count es n h;
  counted = length-keys_of es;
}
