-- Steps on the cells of a row.
use Rattle.std.proofs.Common.{◌≡◌, ℕ, zero, suc, ◌≤◌, ◌<◌, ◌&&◌, Bool, true, false, List, [], ◌∷◌, ◌++◌, map, Option, Some, None, take, drop, length, get_or, set, replicate, refl, sym, ap, ◌∙◌, arith}
use Rattle.std.specs.List.{list_all}
use Rattle.std.proofs.Math.Seq.{drop-cons}
use Rattle.std.proofs.lemmas.List.{map-set, get_or-map}
use Rattle.layout_meaning.specs.Side.{Pair, is_pred, is_none, write_in_row, free_at, put_at}
use Rattle.primary_rows.specs.declared.cells.Pair as cells
use Rattle.primary_rows.specs.Cells.{pair_of, fits}

pub free_at_past : (r : List (Option Pair)) (c : ℕ) → length r ≤ c → free_at r c ≡ false
free_at_past [] c h = refl
free_at_past (o ∷ r) zero h = absurd (omega arith)
free_at_past (o ∷ r) (suc c) h = free_at_past r c (omega arith)

pub free_at_get : (r : List (Option Pair)) (c : ℕ) (d : Option Pair) → c < length r → free_at r c ≡ is_none (get_or r c d)
free_at_get [] c d h = absurd (omega arith)
free_at_get (o ∷ r) zero d h = refl
free_at_get (o ∷ r) (suc c) d h = free_at_get r c d (omega arith)

pub put_at_past : (r : List (Option Pair)) (c : ℕ) (new : Option Pair) → length r ≤ c → put_at r c new ≡ r
put_at_past [] c new h = refl
put_at_past (o ∷ r) zero new h = absurd (omega arith)
put_at_past (o ∷ r) (suc c) new h = ap (λ (l : List (Option Pair)). o ∷ l) (put_at_past r c new (omega arith))

pub put_at_set : (r : List (Option Pair)) (c : ℕ) (new : Option Pair) → put_at r c new ≡ set r c new
put_at_set [] c new = refl
put_at_set (o ∷ r) zero new = refl
put_at_set (o ∷ r) (suc c) new = ap (λ (l : List (Option Pair)). o ∷ l) (put_at_set r c new)

-- a list with one item written is its front, the item and its rest
pub set-parts : {X : Type 0} (xs : List X) (i : ℕ) (x : X) → i < length xs → set xs i x ≡ take i xs ++ x ∷ drop (suc i) xs
set-parts [] i x h = absurd (omega arith)
set-parts (y ∷ ys) zero x h = refl
set-parts (y ∷ ys) (suc i) x h = ap (λ l. y ∷ l) (set-parts ys i x (omega arith))

pub write_head : (p : ℕ) (new x : Option Pair) (r : List (Option Pair)) → is_pred p x ≡ true → write_in_row p new (x ∷ r) ≡ new ∷ r
write_head p new None r h = cc
write_head p new (Some q) r h = rw h refl

pub write_tail : (p : ℕ) (new x : Option Pair) (r : List (Option Pair)) → is_pred p x ≡ false → write_in_row p new (x ∷ r) ≡ x ∷ write_in_row p new r
write_tail p new None r h = refl
write_tail p new (Some q) r h = rw h refl

-- the row in whose column i the pair stands
pub written_here : (p : ℕ) (new : Option Pair) (r : List (Option Pair)) (i : ℕ) (x : Option Pair) → i < length r → get_or r i x ≡ x → is_pred p x ≡ true
    → write_in_row p new r ≡ take i r ++ write_in_row p new (drop i r) → set r i new ≡ write_in_row p new r
written_here p new r i x within at is whole =
    let here : drop i r ≡ x ∷ drop (suc i) r = drop-cons r i x within ∙ ap (λ (y : Option Pair). y ∷ drop (suc i) r) at in
    let one : write_in_row p new (drop i r) ≡ new ∷ drop (suc i) r = ap (write_in_row p new) here ∙ write_head p new x (drop (suc i) r) is in
    set-parts r i new within ∙ sym (ap (λ (l : List (Option Pair)). take i r ++ l) one) ∙ sym whole

-- the same on cells
pub free-cells : (k : ℕ) (z : cells.Pair) → pair_of z ≡ None → map pair_of (replicate k z) ≡ replicate k None
free-cells zero z h = refl
free-cells (suc k) z h = rw h (ap (λ (l : List (Option Pair)). None ∷ l) (free-cells k z h))

pub free-fits : (k : ℕ) (z : cells.Pair) → fits z ≡ true → list_all fits (replicate k z) ≡ true
free-fits zero z h = refl
free-fits (suc k) z h = rw h (free-fits k z h)

pub set-fits : (xs : List cells.Pair) (i : ℕ) (x : cells.Pair) → fits x ≡ true → list_all fits xs ≡ true → list_all fits (set xs i x) ≡ true
set-fits [] i x h all = refl
set-fits (y ∷ ys) zero x h all = rw h (tail (fits y) (list_all fits ys) all)
  where
    tail : (a b : Bool) → (a && b) ≡ true → b ≡ true
    tail true b h = h
    tail false b h = cc
set-fits (y ∷ ys) (suc i) x h all = by (fits y) (set-fits ys i x h) all
  where
    by : (b : Bool) → (list_all fits ys ≡ true → list_all fits (set ys i x) ≡ true) → (b && list_all fits ys) ≡ true → (b && list_all fits (set ys i x)) ≡ true
    by true ih h = ih h
    by false ih h = cc

length-cells : (xs : List cells.Pair) → length (map pair_of xs) ≡ length xs
length-cells [] = refl
length-cells (x ∷ xs) = omega (arith, length-cells xs)

pub free_at-cells : (xs : List cells.Pair) (c : ℕ) (d : cells.Pair) → c < length xs → free_at (map pair_of xs) c ≡ is_none (pair_of (get_or xs c d))
free_at-cells xs c d h = free_at_get (map pair_of xs) c None (omega (arith, length-cells xs)) ∙ ap is_none (get_or-map pair_of xs c d None h)

pub free_at-past_cells : (xs : List cells.Pair) (c : ℕ) → length xs ≤ c → free_at (map pair_of xs) c ≡ false
free_at-past_cells xs c h = free_at_past (map pair_of xs) c (omega (arith, length-cells xs))

pub put_at-cells : (xs : List cells.Pair) (c : ℕ) (x : cells.Pair) (new : Option Pair) → pair_of x ≡ new → map pair_of (set xs c x) ≡ put_at (map pair_of xs) c new
put_at-cells xs c x new h = map-set pair_of xs c x ∙ ap (λ (o : Option Pair). set (map pair_of xs) c o) h ∙ sym (put_at_set (map pair_of xs) c new)

pub put_at-past_cells : (xs : List cells.Pair) (c : ℕ) (new : Option Pair) → length xs ≤ c → put_at (map pair_of xs) c new ≡ map pair_of xs
put_at-past_cells xs c new h = put_at_past (map pair_of xs) c new (omega (arith, length-cells xs))

map-drop : (xs : List cells.Pair) (i : ℕ) → map pair_of (drop i xs) ≡ drop i (map pair_of xs)
map-drop [] zero = refl
map-drop [] (suc i) = refl
map-drop (x ∷ xs) zero = refl
map-drop (x ∷ xs) (suc i) = map-drop xs i

map-take : (xs : List cells.Pair) (i : ℕ) → map pair_of (take i xs) ≡ take i (map pair_of xs)
map-take [] zero = refl
map-take [] (suc i) = refl
map-take (x ∷ xs) zero = refl
map-take (x ∷ xs) (suc i) = ap (λ (l : List (Option Pair)). pair_of x ∷ l) (map-take xs i)

pub written-cells : (p : ℕ) (new : Option Pair) (xs : List cells.Pair) (i : ℕ) (old x : cells.Pair) → i < length xs → get_or xs i old ≡ old → is_pred p (pair_of old) ≡ true → pair_of x ≡ new
    → write_in_row p new (map pair_of xs) ≡ map pair_of (take i xs) ++ write_in_row p new (map pair_of (drop i xs)) → map pair_of (set xs i x) ≡ write_in_row p new (map pair_of xs)
written-cells p new xs i old x within at is h whole =
    let e : get_or (map pair_of xs) i (pair_of old) ≡ pair_of old = get_or-map pair_of xs i old (pair_of old) within ∙ ap pair_of at in
    map-set pair_of xs i x ∙ ap (λ (o : Option Pair). set (map pair_of xs) i o) h
    ∙ written_here p new (map pair_of xs) i (pair_of old) (omega (arith, length-cells xs)) e is
    (whole ∙ ap (λ (l : List (Option Pair)). l ++ write_in_row p new (map pair_of (drop i xs))) (map-take xs i) ∙ ap (λ (l : List (Option Pair)). take i (map pair_of xs) ++ write_in_row p new l) (map-drop xs i))
