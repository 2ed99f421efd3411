-- The items of a side.
use Rattle.std.proofs.Common.{◌≡◌, ℕ, ◌+◌, ◌≤◌, Bool, true, false, if◌then◌else◌, List, [], ◌∷◌, ◌||◌, refl, sym, ap, arith, subst}
use Rattle.std.specs.List.{list_any, AllByRecursion, IsDistinct}
use Rattle.bags.specs.Bag.{total, SameBag}
use Rattle.bags.specs.BagLaws.{same-refl}
use Rattle.layout_meaning.specs.Columns.{candidates_of}
use Rattle.layout_meaning.specs.Side.{Item, SideState, items, is_held}
use Rattle.layout_meaning.specs.Sound.{one_if}
use Rattle.layout_meaning.specs.Rows.{SideOf, placed_in, taken_from}
use Rattle.layout_meaning.proofs.Held.{held_after_placing, held_after_taking}
use Rattle.layout_meaning.proofs.Changes.{placed-held, taken-free}
use Rattle.layout_standing_meaning.specs.Sides.{IsGoodSide}
use Rattle.layout_standing_meaning.proofs.Steps.{items-once, itself, count-held}
use Rattle.layout_side_laws.specs.Places.{same_item}

-- where a test counts nothing, it fails at each
none-passes : (x : Item) (xs : List Item) → total (λ (y : Item). one_if (same_item x y)) xs ≡ 0 → AllByRecursion (λ (y : Item). same_item x y ≡ false) xs
none-passes x [] z = tt
none-passes x (y ∷ ys) z = by (same_item x y) refl z (none-passes x ys)
  where
    Rest : Type 0
    Rest = total (λ (w : Item). one_if (same_item x w)) ys ≡ 0 → AllByRecursion (λ (w : Item). same_item x w ≡ false) ys

    by : (b : Bool) → same_item x y ≡ b → one_if b + total (λ (w : Item). one_if (same_item x w)) ys ≡ 0 → Rest → (same_item x y ≡ false) × AllByRecursion (λ (w : Item). same_item x w ≡ false) ys
    by true t z rest = absurd (omega arith)
    by false t z rest = (t, rest (omega arith))

distinct : (xs : List Item) → ((x : Item) → total (λ (y : Item). one_if (same_item x y)) xs ≤ 1) → IsDistinct same_item xs
unfolding IsDistinct
distinct [] once = tt
distinct (x ∷ xs) once = (none-passes x xs none, distinct xs (λ (y : Item). (let h = once y in omega arith)))
  where
    none : total (λ (y : Item). one_if (same_item x y)) xs ≡ 0
    none = let one : one_if (same_item x x) ≡ 1 = ap one_if (itself x) in let h = once x in omega arith

pub each-once : (s : SideOf) → IsGoodSide s → IsDistinct same_item (items s.state)
each-once s g = distinct (items s.state) (items-once s g)

any-counted : (x : Item) (xs : List Item) (b : Bool) → total (λ (y : Item). one_if (same_item x y)) xs ≡ one_if b → list_any (same_item x) xs ≡ b
any-counted x [] true h = cc
any-counted x [] false h = refl
any-counted x (y ∷ ys) b h = by (same_item x y) b h (any-counted x ys b)
  where
    by : (a c : Bool) → one_if a + total (λ (w : Item). one_if (same_item x w)) ys ≡ one_if c → (total (λ (w : Item). one_if (same_item x w)) ys ≡ one_if c → list_any (same_item x) ys ≡ c) → (a || list_any (same_item x) ys) ≡ c
    by true true h ih = refl
    by true false h ih = absurd (omega arith)
    by false c h ih = ih (omega arith)

pub held-among : (s : SideOf) → IsGoodSide s → (x : Item) → is_held x s.state ≡ list_any (same_item x) (items s.state)
held-among s g x = sym (any-counted x (items s.state) (is_held x s.state) (count-held s g x))

pub placed-there : (s : SideOf) (iri : List ℕ) (x : Item) → is_held x s.state ≡ true → placed_in s iri x ≡ s
placed-there s iri x h = ap (λ (t : SideState). record { columns = s.columns; state = t }) (placed-held s.columns.count (candidates_of s.columns iri) x s.state h)

pub taken-absent : (s : SideOf) (x : Item) → is_held x s.state ≡ false → taken_from s x ≡ s
taken-absent s x h = ap (λ (t : SideState). record { columns = s.columns; state = t }) (taken-free x s.state h)

pub placed-items : (s : SideOf) (iri : List ℕ) (x : Item) → IsGoodSide s → SameBag (items (placed_in s iri x).state) (if is_held x s.state then items s.state else x ∷ items s.state)
placed-items s iri x g = by (is_held x s.state) refl
  where
    by : (b : Bool) → is_held x s.state ≡ b → SameBag (items (placed_in s iri x).state) (if b then items s.state else x ∷ items s.state)
    by true t = subst (λ (n : SideOf). SameBag (items n.state) (items s.state)) (sym (placed-there s iri x t)) (same-refl (items s.state))
    by false t = record {
      totals = λ (f : Item → ℕ).
          let h : total f (items (placed_in s iri x).state) ≡ total f (items s.state) + f x = held_after_placing s.columns.count (candidates_of s.columns iri) x s.state f g.sound (g.first iri) t in
          omega arith;
    }

pub taken-items : (s : SideOf) (x : Item) → IsGoodSide s → SameBag (if is_held x s.state then x ∷ items (taken_from s x).state else items (taken_from s x).state) (items s.state)
taken-items s x g = by (is_held x s.state) refl
  where
    by : (b : Bool) → is_held x s.state ≡ b → SameBag (if b then x ∷ items (taken_from s x).state else items (taken_from s x).state) (items s.state)
    by true t = record {
      totals = λ (f : Item → ℕ).
          let h : total f (items (taken_from s x).state) + f x ≡ total f (items s.state) = held_after_taking s.columns.count x s.state f g.sound t in
          omega arith;
    }
    by false t = subst (λ (n : SideOf). SameBag (items n.state) (items s.state)) (sym (taken-absent s x t)) (same-refl (items s.state))
