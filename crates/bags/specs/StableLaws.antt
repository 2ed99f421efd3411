-- A stable sort is the sort, also where items that tie differ.
use Rattle.std.specs.Prelude.{◌≡◌, ◌⊎◌, Bool, true, false, cond, not, List, [], ◌∷◌, refl}
use Rattle.std.proofs.Common.{sym, ap, ap₂, ◌∙◌, inl, inr}
use Rattle.std.proofs.lemmas.Bool.{cases_Bool, both_ways, false_from_ne_true, and_from, and_parts}
use Rattle.std.specs.List.{filter, AllByRecursion}
use Rattle.std.specs.List.Sorted.{IsSorted, IsStable, ties}
use Rattle.std.specs.Cmp.{IsTotalOrder}
use Rattle.std.proofs.lemmas.Cmp.{tied_itself, tied_back}
use Rattle.std.specs.declared.cmp.Ordering.{Ordering}
use Rattle.std.specs.declared.cmp.Ordering.TheVariants.{Less, Equal, Greater}
use Rattle.std.specs.Ordering.{is_le, is_lt}
use Rattle.bags.specs.Sort.{insert_sorted, sort}
use Rattle.bags.specs.SortLaws.{IsRising, tied-from, above-from, rising-sort, rising-sorted}

-- neither is below the other
abbrev pub tie : {X : Type 0} → (X → X → Ordering) → X → X → Bool
tie cmp = ties (λ x y. is_lt (cmp x y))

not_lt_from_eq : (r : Ordering) → r ≡ Equal → not (is_lt r) ≡ true
not_lt_from_eq r e = rw e refl

eq_from : (r : Ordering) → not (is_lt r) ≡ true → is_le r ≡ true → r ≡ Equal
eq_from Less a b = cc
eq_from Equal a b = refl
eq_from Greater a b = cc

le_or : (r : Ordering) → not (is_lt r) ≡ true → is_le r ≡ false → r ≡ Greater
le_or Less a b = cc
le_or Equal a b = cc
le_or Greater a b = refl

module _ {X : Type 0} {cmp : X → X → Ordering} (o : IsTotalOrder cmp) where
  tie-from : (x y : X) → cmp x y ≡ Equal → tie cmp x y ≡ true
  tie-from x y e = and_from _ _ (not_lt_from_eq (cmp x y) e) (not_lt_from_eq (cmp y x) (tied_back o x y e))

  tie-is : (x y : X) → tie cmp x y ≡ true → cmp x y ≡ Equal
  tie-is x y e =
      let h = and_parts (not (is_lt (cmp x y))) (not (is_lt (cmp y x))) e in
      go (cases_Bool (is_le (cmp x y))) h
    where
      go : (is_le (cmp x y) ≡ true) ⊎ (is_le (cmp x y) ≡ false) → (not (is_lt (cmp x y)) ≡ true) × (not (is_lt (cmp y x)) ≡ true) → cmp x y ≡ Equal
      go (inl l) h = eq_from (cmp x y) h.0 l
      go (inr l) h = let b : is_lt (cmp y x) ≡ true = above-from o x y l in absurd (both_ways (not (is_lt (cmp y x))) (rw b refl) h.1)

-- of an item that ties with z, and one above it, both don't tie with z
apart : {X : Type 0} {cmp : X → X → Ordering} → IsTotalOrder cmp → (z x y : X) → is_le (cmp x y) ≡ false → tie cmp z x ≡ true → tie cmp z y ≡ false
apart {X} {cmp} o z x y l e = false_from_ne_true _ (λ h.
    let zx : cmp z x ≡ Equal = tie-is o z x e in
    let zy : cmp z y ≡ Equal = tie-is o z y h in
    let xy : cmp x y ≡ Equal = sym (o.congr z x y zx) ∙ zy in
    both_ways (is_le (cmp x y)) l (rw xy refl))

filter-insert : {X : Type 0} {cmp : X → X → Ordering} → IsTotalOrder cmp → (z x : X) (ys : List X) → filter (tie cmp z) (insert_sorted cmp x ys) ≡ filter (tie cmp z) (x ∷ ys)
filter-insert o z x [] = refl
filter-insert {X} {cmp} o z x (y ∷ ys) = go (cases_Bool (is_le (cmp x y))) (cases_Bool (tie cmp z x)) (filter-insert o z x ys)
  where
    go : (is_le (cmp x y) ≡ true) ⊎ (is_le (cmp x y) ≡ false) → (tie cmp z x ≡ true) ⊎ (tie cmp z x ≡ false) → filter (tie cmp z) (insert_sorted cmp x ys) ≡ filter (tie cmp z) (x ∷ ys) →
        filter (tie cmp z) (insert_sorted cmp x (y ∷ ys)) ≡ filter (tie cmp z) (x ∷ y ∷ ys)
    go (inl l) t h = rw l refl
    go (inr l) (inl t) h =
        let n : tie cmp z y ≡ false = apart o z x y l t in
        let step : filter (tie cmp z) (x ∷ ys) ≡ x ∷ filter (tie cmp z) ys = rw t refl in
        let left : filter (tie cmp z) (y ∷ insert_sorted cmp x ys) ≡ filter (tie cmp z) (insert_sorted cmp x ys) = rw n refl in
        let right : filter (tie cmp z) (x ∷ y ∷ ys) ≡ x ∷ filter (tie cmp z) ys = rw (t, n) refl in
        rw l (left ∙ h ∙ step ∙ sym right)
    go (inr l) (inr t) h =
        let step : filter (tie cmp z) (x ∷ ys) ≡ filter (tie cmp z) ys = rw t refl in
        let right : filter (tie cmp z) (x ∷ y ∷ ys) ≡ filter (tie cmp z) (y ∷ ys) = rw t refl in
        rw l (ap (λ (zs : List X). cond (tie cmp z y) (y ∷ zs) zs) (h ∙ step) ∙ sym right)

-- items that tie keep their order
pub stable-sort : {X : Type 0} (cmp : X → X → Ordering) → IsTotalOrder cmp → (xs : List X) → IsStable cmp xs (sort cmp xs)
stable-sort cmp o [] z = refl
stable-sort {X} cmp o (x ∷ xs) z = filter-insert o z x (sort cmp xs) ∙ ap (λ (zs : List X). cond (tie cmp z x) (x ∷ zs) zs) (stable-sort cmp o xs z)

record Tail {X : Type 0} (x y : X) (xs ys : List X) : Type 0 where
  first : x ≡ y
  rest : xs ≡ ys

tail_of : {X : Type 0} (x y : X) (xs ys : List X) → x ∷ xs ≡ y ∷ ys → Tail x y xs ys
tail_of x y xs ys e = record { first = cc; rest = cc }

-- something that passes stands in a list in order: its first item is at most that
first-atmost : {X : Type 0} {cmp : X → X → Ordering} → IsTotalOrder cmp → (x y : X) (us ys : List X) → IsRising cmp (y ∷ ys) → x ∷ us ≡ filter (tie cmp x) (y ∷ ys) → is_le (cmp y x) ≡ true
first-atmost {X} {cmp} o x y us ys r e = go (cases_Bool (tie cmp x y))
  where
    among : (zs ws : List X) → AllByRecursion (λ z. is_le (cmp y z) ≡ true) zs → x ∷ ws ≡ filter (tie cmp x) zs → is_le (cmp y x) ≡ true
    among [] ws all f = cc
    among (z ∷ zs) ws all f = at (cases_Bool (tie cmp x z)) (among zs ws all.1)
      where
        at : (tie cmp x z ≡ true) ⊎ (tie cmp x z ≡ false) → (x ∷ ws ≡ filter (tie cmp x) zs → is_le (cmp y x) ≡ true) → is_le (cmp y x) ≡ true
        at (inl t) rest = let g : x ∷ ws ≡ z ∷ filter (tie cmp x) zs = rw t at f in rw ((tail_of x z ws _ g).first) all.0
        at (inr t) rest = rest (rw t at f)

    go : (tie cmp x y ≡ true) ⊎ (tie cmp x y ≡ false) → is_le (cmp y x) ≡ true
    go (inl t) = rw (tied_back o x y (tie-is o x y t)) refl
    go (inr t) = among ys us r.0 (rw t at e)

filter_first : {X : Type 0} (p : X → Bool) (x : X) (xs : List X) → p x ≡ true → filter p (x ∷ xs) ≡ x ∷ filter p xs
filter_first p x xs e = rw e refl

left_out : {X : Type 0} (b : Bool) (x y : X) (xs ys : List X) → x ≡ y → cond b (x ∷ xs) xs ≡ cond b (y ∷ ys) ys → xs ≡ ys
left_out true x y xs ys s e = (tail_of x y xs ys e).rest
left_out false x y xs ys s e = e

-- lists in order of which the ties are the same lists are equal
pub rising-stable : {X : Type 0} {cmp : X → X → Ordering} → IsTotalOrder cmp → (xs ys : List X) → IsRising cmp xs → IsRising cmp ys → ((z : X) → filter (tie cmp z) xs ≡ filter (tie cmp z) ys) → xs ≡ ys
rising-stable o [] [] r q e = refl
rising-stable {X} {cmp} o [] (y ∷ ys) r q e = let t : tie cmp y y ≡ true = tie-from o y y (tied_itself o y) in let f : [] ≡ y ∷ filter (tie cmp y) ys = e y ∙ filter_first (tie cmp y) y ys t in cc
rising-stable {X} {cmp} o (x ∷ xs) [] r q e = let t : tie cmp x x ≡ true = tie-from o x x (tied_itself o x) in let f : x ∷ filter (tie cmp x) xs ≡ [] = sym (filter_first (tie cmp x) x xs t) ∙ e x in cc
rising-stable {X} {cmp} o (x ∷ xs) (y ∷ ys) r q e =
    let tx : tie cmp x x ≡ true = tie-from o x x (tied_itself o x) in
    let ty : tie cmp y y ≡ true = tie-from o y y (tied_itself o y) in
    let yx : is_le (cmp y x) ≡ true = first-atmost o x y (filter (tie cmp x) xs) ys q (sym (filter_first (tie cmp x) x xs tx) ∙ e x) in
    let xy : is_le (cmp x y) ≡ true = first-atmost o y x (filter (tie cmp y) ys) xs r (sym (filter_first (tie cmp y) y ys ty) ∙ sym (e y)) in
    let t : tie cmp x y ≡ true = tie-from o x y (tied-from o x y xy yx) in
    let heads : x ∷ filter (tie cmp x) xs ≡ y ∷ filter (tie cmp x) ys = sym (filter_first (tie cmp x) x xs tx) ∙ e x ∙ filter_first (tie cmp x) y ys t in
    let same : x ≡ y = (tail_of x y _ _ heads).first in
    let rests : (z : X) → filter (tie cmp z) xs ≡ filter (tie cmp z) ys = λ z. left_out (tie cmp z x) x y _ _ same (e z ∙ ap (λ b. cond b (y ∷ filter (tie cmp z) ys) (filter (tie cmp z) ys)) (ap (tie cmp z) (sym same))) in
    ap₂ (λ (w : X) (ws : List X). w ∷ ws) same (rising-stable o xs ys r.1 q.1 rests)

-- what a stable sort of the standard library ensures
pub sort-stable : {X : Type 0} (cmp : X → X → Ordering) → IsTotalOrder cmp → (xs ys : List X) → IsSorted cmp ys → IsStable cmp xs ys → ys ≡ sort cmp xs
sort-stable cmp o xs ys up s = rising-stable o ys (sort cmp xs) (rising-sorted o ys up) (rising-sort o xs) (λ z. s z ∙ sym (stable-sort cmp o xs z))
