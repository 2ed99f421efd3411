-- Choices are compared by cost, then by the pattern's number, then by the method.
use Rattle.std.specs.Prelude.{◌≡◌, ◌≢◌, ◌⊎◌, ℕ, Bool, true, false, ◌==◌, nat_lt, nat_le, List, [], ◌∷◌, refl}
use Rattle.std.proofs.Common.{sym, ◌∙◌, arith, inl, inr}
use Rattle.std.proofs.lemmas.Bool.{cases_Bool}
use Rattle.std.specs.Ordering.{nat_cmp, is_le}
use Rattle.bags.specs.Sort.{by_items}
use Rattle.layout_meaning.specs.Facts.{CountsOf}
use Rattle.query_flow_meaning.specs.Flow.{Choice, cost_of, method_rank, choice_order}

differ : (x y : ℕ) (xs ys : List ℕ) → (x == y) ≡ false → is_le (by_items nat_cmp [] (x ∷ xs) (y ∷ ys)) ≡ nat_lt x y
differ x y xs ys e = go (cases_Bool (nat_lt x y))
  where
    go : (nat_lt x y ≡ true) ⊎ (nat_lt x y ≡ false) → is_le (by_items nat_cmp [] (x ∷ xs) (y ∷ ys)) ≡ nat_lt x y
    go (inl h) = rw h refl
    go (inr h) = rw (h, e) refl

tie : (x y : ℕ) (xs ys : List ℕ) → nat_lt x y ≡ false → (x == y) ≡ true → is_le (by_items nat_cmp [] (x ∷ xs) (y ∷ ys)) ≡ is_le (by_items nat_cmp [] xs ys)
tie x y xs ys h e = rw (h, e) refl

same_not_less : (x y : ℕ) → x ≡ y → nat_lt x y ≡ false
same_not_less x y e = grind (arith)

same_equal : (x y : ℕ) → x ≡ y → (x == y) ≡ true
same_equal x y e = grind (arith)

other_not_equal : (x y : ℕ) → x ≢ y → (x == y) ≡ false
other_not_equal x y e = grind (arith)

last : (x y : ℕ) → is_le (by_items nat_cmp [] (x ∷ []) (y ∷ [])) ≡ nat_le x y
last x y = go (cases_Bool (nat_lt x y)) (cases_Bool (x == y))
  where
    below : nat_lt x y ≡ true → nat_le x y ≡ true
    below h = grind (arith)

    equal : (x == y) ≡ true → nat_le x y ≡ true
    equal h = grind (arith)

    above : nat_lt x y ≡ false → (x == y) ≡ false → nat_le x y ≡ false
    above h k = grind (arith)

    go : (nat_lt x y ≡ true) ⊎ (nat_lt x y ≡ false) → ((x == y) ≡ true) ⊎ ((x == y) ≡ false) → is_le (by_items nat_cmp [] (x ∷ []) (y ∷ [])) ≡ nat_le x y
    go (inl h) e = rw (h, below h) refl
    go (inr h) (inl e) = rw (h, e, equal e) refl
    go (inr h) (inr e) = rw (h, e, above h e) refl

pub by_cost : (counts : CountsOf) (c d : Choice) (x y : ℕ) → x ≡ cost_of counts c → y ≡ cost_of counts d → x ≢ y → is_le (choice_order counts c d) ≡ nat_lt x y
by_cost counts c d x y i j e =
    rw (i, j) (differ (cost_of counts c) (cost_of counts d) (c.pattern.number ∷ method_rank c.method ∷ []) (d.pattern.number ∷ method_rank d.method ∷ [])
    (other_not_equal (cost_of counts c) (cost_of counts d) (λ h. e (i ∙ h ∙ sym j))))

cost_tie : (counts : CountsOf) (c d : Choice) (x y : ℕ) → x ≡ cost_of counts c → y ≡ cost_of counts d → x ≡ y →
    is_le (choice_order counts c d) ≡ is_le (by_items nat_cmp [] (c.pattern.number ∷ method_rank c.method ∷ []) (d.pattern.number ∷ method_rank d.method ∷ []))
cost_tie counts c d x y i j e =
    let same : cost_of counts c ≡ cost_of counts d = sym i ∙ e ∙ j in
    tie (cost_of counts c) (cost_of counts d) (c.pattern.number ∷ method_rank c.method ∷ []) (d.pattern.number ∷ method_rank d.method ∷ []) (same_not_less (cost_of counts c) (cost_of counts d) same) (same_equal (cost_of counts c) (cost_of counts d) same)

pub by_number : (counts : CountsOf) (c d : Choice) (x y : ℕ) → x ≡ cost_of counts c → y ≡ cost_of counts d → x ≡ y → c.pattern.number ≢ d.pattern.number → is_le (choice_order counts c d) ≡ nat_lt c.pattern.number d.pattern.number
by_number counts c d x y i j e f = cost_tie counts c d x y i j e ∙ differ c.pattern.number d.pattern.number (method_rank c.method ∷ []) (method_rank d.method ∷ []) (other_not_equal c.pattern.number d.pattern.number f)

pub by_method : (counts : CountsOf) (c d : Choice) (x y : ℕ) → x ≡ cost_of counts c → y ≡ cost_of counts d → x ≡ y → c.pattern.number ≡ d.pattern.number → is_le (choice_order counts c d) ≡ nat_le (method_rank c.method) (method_rank d.method)
by_method counts c d x y i j e f =
    cost_tie counts c d x y i j e
    ∙ tie c.pattern.number d.pattern.number (method_rank c.method ∷ []) (method_rank d.method ∷ []) (same_not_less c.pattern.number d.pattern.number f) (same_equal c.pattern.number d.pattern.number f)
    ∙ last (method_rank c.method) (method_rank d.method)

pub ruleset order_laws = (by_cost, by_number, by_method)
