-- Sums over the pairs of rows after a change.
use Rattle.std.proofs.Common.{◌≡◌, ℕ, zero, suc, ◌+◌, ◌<◌, ◌==◌, Bool, true, false, if◌then◌else◌, is_some, List, [], ◌∷◌, Option, Some, None, replicate, arith, refl, ap, ◌∙◌}
use Rattle.bags.specs.Bag.{total}
use Rattle.layout_meaning.specs.Side.{Value, Pair, find_in_row, find, or_else, all_free, keep, write_in_row, write, free_at, put_at, first_free, first_of, put_or, place_new}

pub all_free-total : (g : Option Pair → ℕ) (r : List (Option Pair)) → g None ≡ 0 → all_free r ≡ true → total g r ≡ 0
all_free-total g [] z h = refl
all_free-total g (None ∷ r) z h = omega (arith, all_free-total g r z h)
all_free-total g (Some q ∷ r) z h = cc

pub write_in_row-total : (g : Option Pair → ℕ) (p : ℕ) (new : Option Pair) (v : Value) (r : List (Option Pair)) → find_in_row p r ≡ Some v
    → total g (write_in_row p new r) + g (Some (record { pred = p; value = v })) ≡ total g r + g new
write_in_row-total g p new v [] h = cc
write_in_row-total g p new v (None ∷ r) h = omega (arith, write_in_row-total g p new v r h)
write_in_row-total g p new v (Some q ∷ r) h = by (write_in_row-total g p new v r) (q.pred == p) refl h
  where
    by : (find_in_row p r ≡ Some v → total g (write_in_row p new r) + g (Some (record { pred = p; value = v })) ≡ total g r + g new) → (b : Bool) → (q.pred == p) ≡ b → (if b then Some q.value else find_in_row p r) ≡ Some v
        → total g (if b then new ∷ r else Some q ∷ write_in_row p new r) + g (Some (record { pred = p; value = v })) ≡ total g (Some q ∷ r) + g new
    by ih true t f =
        let e : q.pred ≡ p = grind arith in
        let d : q.value ≡ v = cc in
        let a : g (Some q) ≡ g (Some (record { pred = p; value = v })) = ap (λ (z : ℕ). g (Some (record { pred = z; value = q.value }))) e ∙ ap (λ (z : Value). g (Some (record { pred = p; value = z }))) d in
        omega arith
    by ih false t f = omega (arith, ih f)

pub keep-total : (g : Option Pair → ℕ) (r : List (Option Pair)) (rs : List (List (Option Pair))) → g None ≡ 0 → total (total g) (keep r rs) ≡ total g r + total (total g) rs
keep-total g r rs z = by (all_free r) refl
  where
    by : (b : Bool) → all_free r ≡ b → total (total g) (if b then rs else r ∷ rs) ≡ total g r + total (total g) rs
    by true t = omega (arith, all_free-total g r z t)
    by false t = refl

pub write-total : (g : Option Pair → ℕ) (p : ℕ) (new : Option Pair) (v : Value) (rs : List (List (Option Pair))) → g None ≡ 0 → find p rs ≡ Some v
    → total (total g) (write p new rs) + g (Some (record { pred = p; value = v })) ≡ total (total g) rs + g new
write-total g p new v [] z h = cc
write-total g p new v (r ∷ rs) z h = by (write-total g p new v rs z) (find_in_row p r) refl h
  where
    by : (find p rs ≡ Some v → total (total g) (write p new rs) + g (Some (record { pred = p; value = v })) ≡ total (total g) rs + g new) → (o : Option Value) → find_in_row p r ≡ o → or_else o (find p rs) ≡ Some v
        → total (total g) (if is_some o then keep (write_in_row p new r) rs else r ∷ write p new rs) + g (Some (record { pred = p; value = v })) ≡ total (total g) (r ∷ rs) + g new
    by ih None t f = omega (arith, ih f)
    by ih (Some w) t f = omega (arith, keep-total g (write_in_row p new r) rs z, write_in_row-total g p new v r (t ∙ f))

pub put_at-total : (g : Option Pair → ℕ) (r : List (Option Pair)) (c : ℕ) (new : Option Pair) → g None ≡ 0 → free_at r c ≡ true → total g (put_at r c new) ≡ total g r + g new
put_at-total g [] c new z h = cc
put_at-total g (None ∷ r) zero new z h = omega arith
put_at-total g (Some q ∷ r) zero new z h = cc
put_at-total g (o ∷ r) (suc c) new z h = omega (arith, put_at-total g r c new z h)

pub first_free-is : (r : List (Option Pair)) (cs : List ℕ) (c : ℕ) → first_free r cs ≡ Some c → free_at r c ≡ true
first_free-is r [] c h = cc
first_free-is r (d ∷ cs) c h = by (first_free-is r cs c) (free_at r d) refl h
  where
    by : (first_free r cs ≡ Some c → free_at r c ≡ true) → (b : Bool) → free_at r d ≡ b → (if b then Some d else first_free r cs) ≡ Some c → free_at r c ≡ true
    by ih true t f = cc
    by ih false t f = ih f

pub free_row : (k c : ℕ) → c < k → free_at (replicate k None) c ≡ true
free_row zero c h = absurd (omega arith)
free_row (suc k) zero h = refl
free_row (suc k) (suc c) h = free_row k c (omega arith)

pub free_row-total : (g : Option Pair → ℕ) (k : ℕ) → g None ≡ 0 → total g (replicate k None) ≡ 0
free_row-total g zero z = refl
free_row-total g (suc k) z = omega (arith, free_row-total g k z)

pub place_new-total : (g : Option Pair → ℕ) (k : ℕ) (cs : List ℕ) (pair : Pair) (rs : List (List (Option Pair))) → g None ≡ 0 → first_of cs < k
    → total (total g) (place_new k cs pair rs) ≡ total (total g) rs + g (Some pair)
place_new-total g k cs pair [] z h = omega (arith, put_at-total g (replicate k None) (first_of cs) (Some pair) z (free_row k (first_of cs) h), free_row-total g k z)
place_new-total g k cs pair (r ∷ rs) z h = by (place_new-total g k cs pair rs z h) (first_free r cs) refl
  where
    by : (total (total g) (place_new k cs pair rs) ≡ total (total g) rs + g (Some pair)) → (o : Option ℕ) → first_free r cs ≡ o → total (total g) (put_or o r pair rs (place_new k cs pair rs)) ≡ total (total g) (r ∷ rs) + g (Some pair)
    by ih None t = omega (arith, ih)
    by ih (Some c) t = omega (arith, put_at-total g r c (Some pair) z (first_free-is r cs c t))
