-- Sums over all pairs of a side, and what a change of lists leaves of them.
use Rattle.std.proofs.Common.{◌≡◌, ℕ, ◌+◌, ◌==◌, nat_eq, ◌||◌, Bool, true, false, cond, List, [], ◌∷◌, ◌++◌, map, Option, Some, None, arith, refl, sym, ap}
use Rattle.std.specs.List.{flat_map, list_any}
use Rattle.std.specs.Ordering.{nat_cmp}
use Rattle.std.specs.BTreeMap.{is_at}
use Rattle.std.specs.Map.{lookup}
use Rattle.std.specs.Set.{remove_key}
use Rattle.bags.specs.Bag.{total}
use Rattle.layout_meaning.specs.Side.{Value, One, Many, Pair, Item, SideState, or_empty, rows_of, values_of, find, write, put_by, with_rows, written, pair_items, items}
use Rattle.layout_meaning.specs.Sound.{one_if, over, names, value_names, numbered}
use Rattle.layout_meaning.proofs.Maps.{set_value-total, remove_entry-total, insert_entry-total, at_true}
use Rattle.layout_meaning.proofs.RowSums.{write-total}

-- how much the values of a pair weigh together
abbrev pub weight : (Item → ℕ) → List (ℕ × List ℕ) → ℕ → Option Pair → ℕ
weight f lists e None = 0
weight f lists e (Some p) = total (λ (v : ℕ). f (record { entity = e; pred = p.pred; value = v })) (values_of lists p.value)

pub total-frame : {X : Type 0} (N h k : X → ℕ) → ((x : X) → N x ≡ 0 → h x ≡ k x) → (xs : List X) → total N xs ≡ 0 → total h xs ≡ total k xs
total-frame N h k same [] z = refl
total-frame N h k same (x ∷ xs) z =
    let a : N x ≡ 0 = omega arith in
    let b : total N xs ≡ 0 = omega arith in
    omega (arith, same x a, total-frame N h k same xs b)

pub total-append : {X : Type 0} (f : X → ℕ) (xs ys : List X) → total f (xs ++ ys) ≡ total f xs + total f ys
total-append f [] ys = omega arith
total-append f (x ∷ xs) ys = omega (arith, total-append f xs ys)

pub total-map : {X Y : Type 0} (f : Y → ℕ) (h : X → Y) (xs : List X) → total f (map h xs) ≡ total (λ x. f (h x)) xs
total-map f h [] = refl
total-map f h (x ∷ xs) = omega (arith, total-map f h xs)

pub total-flat_map : {X Y : Type 0} (f : Y → ℕ) (h : X → List Y) (g : X → ℕ) → ((x : X) → total f (h x) ≡ g x) → (xs : List X) → total f (flat_map h xs) ≡ total g xs
total-flat_map f h g e [] = refl
total-flat_map f h g e (x ∷ xs) = omega (arith, total-append f (h x) (flat_map h xs), e x, total-flat_map f h g e xs)

pub total-pair_items : (f : Item → ℕ) (lists : List (ℕ × List ℕ)) (e : ℕ) (o : Option Pair) → total f (pair_items lists e o) ≡ weight f lists e o
total-pair_items f lists e None = refl
total-pair_items f lists e (Some p) = total-map f (λ (v : ℕ). record { entity = e; pred = p.pred; value = v }) (values_of lists p.value)

pub total-items : (f : Item → ℕ) (s : SideState) → total f (items s) ≡ over (weight f s.lists) s.entities
total-items f s =
    total-flat_map f (λ (en : ℕ × List (List (Option Pair))). flat_map (flat_map (pair_items s.lists en.0)) en.1) (λ (en : ℕ × List (List (Option Pair))). total (total (weight f s.lists en.0)) en.1)
    (λ (en : ℕ × List (List (Option Pair))). total-flat_map f (flat_map (pair_items s.lists en.0)) (total (weight f s.lists en.0))
    (λ (r : List (Option Pair)). total-flat_map f (pair_items s.lists en.0) (weight f s.lists en.0) (total-pair_items f s.lists en.0) r) en.1) s.entities

pub total-remove_key : (f : ℕ → ℕ) (v : ℕ) (xs : List ℕ) → list_any (nat_eq v) xs ≡ true → total f (remove_key (nat_eq v) xs) + f v ≡ total f xs
total-remove_key f v [] h = cc
total-remove_key f v (x ∷ xs) h = by (total-remove_key f v xs) (nat_eq v x) refl h
  where
    by : (list_any (nat_eq v) xs ≡ true → total f (remove_key (nat_eq v) xs) + f v ≡ total f xs) → (b : Bool) → nat_eq v x ≡ b → (b || list_any (nat_eq v) xs) ≡ true → total f (cond b xs (x ∷ remove_key (nat_eq v) xs)) + f v ≡ total f (x ∷ xs)
    by ih true t q =
        let e : v ≡ x = grind arith in
        let d : f v ≡ f x = ap f e in
        omega arith
    by ih false t q = omega (arith, ih q)

-- the sums over all pairs after the rows of one entity became others
pub over-with_rows : (g : ℕ → Option Pair → ℕ) (ents : List (ℕ × List (List (Option Pair)))) (e : ℕ) (new : List (List (Option Pair)))
    → over g (with_rows ents e new) + total (total (g e)) (rows_of ents e) ≡ over g ents + total (total (g e)) new
over-with_rows g ents e new = by (lookup (is_at (nat_cmp e)) ents) refl new
  where
    by : (o : Option (List (List (Option Pair)))) → lookup (is_at (nat_cmp e)) ents ≡ o → (new : List (List (Option Pair)))
        → over g (put_by o ents e new) + total (total (g e)) (or_empty o) ≡ over g ents + total (total (g e)) new
    by None t new = omega (arith, insert_entry-total (λ (en : ℕ × List (List (Option Pair))). total (total (g en.0)) en.1) e new ents t)
    by (Some old) t [] = omega (arith, remove_entry-total (λ (en : ℕ × List (List (Option Pair))). total (total (g en.0)) en.1) e old ents t)
    by (Some old) t (r ∷ rs) = omega (arith, set_value-total (λ (en : ℕ × List (List (Option Pair))). total (total (g en.0)) en.1) e old (r ∷ rs) ents t)

-- the sums over all pairs after one of them became another
pub written-total : (g : ℕ → Option Pair → ℕ) (x : Item) (new : Option Pair) (v : Value) (s : SideState) → g x.entity None ≡ 0 → find x.pred (rows_of s.entities x.entity) ≡ Some v
    → over g (written x new s) + g x.entity (Some (record { pred = x.pred; value = v })) ≡ over g s.entities + g x.entity new
written-total g x new v s z h =
    omega (arith, over-with_rows g s.entities x.entity (write x.pred new (rows_of s.entities x.entity)), write-total (g x.entity) x.pred new v (rows_of s.entities x.entity) z h)

other_number : (m n : ℕ) → one_if (m == n) ≡ 0 → m ≡ n → ⊥
other_number m n z k =
    let a : (m == n) ≡ true = grind arith in
    let b : one_if (m == n) ≡ 1 = ap one_if a in
    omega arith

-- a pair that doesn't name a changed list weighs what it did
pub weight-frame : (f : Item → ℕ) (n : ℕ) (lists new : List (ℕ × List ℕ)) → ((m : ℕ) → (m ≡ n → ⊥) → lookup (is_at (nat_cmp m)) new ≡ lookup (is_at (nat_cmp m)) lists)
    → (e : ℕ) (o : Option Pair) → names n o ≡ 0 → weight f lists e o ≡ weight f new e o
weight-frame f n lists new same e None z = refl
weight-frame f n lists new same e (Some q) z = by q.value z
  where
    by : (v : Value) → value_names n v ≡ 0 → total (λ (w : ℕ). f (record { entity = e; pred = q.pred; value = w })) (values_of lists v) ≡ total (λ (w : ℕ). f (record { entity = e; pred = q.pred; value = w })) (values_of new v)
    by (One w) z = refl
    by (Many m) z =
        let d : m ≡ n → ⊥ = other_number m n z in
        ap (λ (o : Option (List ℕ)). total (λ (w : ℕ). f (record { entity = e; pred = q.pred; value = w })) (or_empty o)) (sym (same m d))

pub over-frame : (f : Item → ℕ) (n : ℕ) (lists new : List (ℕ × List ℕ)) → ((m : ℕ) → (m ≡ n → ⊥) → lookup (is_at (nat_cmp m)) new ≡ lookup (is_at (nat_cmp m)) lists)
    → (ents : List (ℕ × List (List (Option Pair)))) → over (λ e. names n) ents ≡ 0 → over (weight f lists) ents ≡ over (weight f new) ents
over-frame f n lists new same ents z =
    total-frame (λ (en : ℕ × List (List (Option Pair))). total (total (names n)) en.1) (λ (en : ℕ × List (List (Option Pair))). total (total (weight f lists en.0)) en.1) (λ (en : ℕ × List (List (Option Pair))). total (total (weight f new en.0)) en.1)
    (λ (en : ℕ × List (List (Option Pair))). total-frame (total (names n)) (total (weight f lists en.0)) (total (weight f new en.0))
    (λ (r : List (Option Pair)). total-frame (names n) (weight f lists en.0) (weight f new en.0) (weight-frame f n lists new same en.0) r) en.1) ents z

-- a number that no list has, and one that a list has
pub numbered-none : (n : ℕ) (lists : List (ℕ × List ℕ)) → numbered n lists ≡ 0 → lookup (is_at (nat_cmp n)) lists ≡ None
numbered-none n [] z = refl
numbered-none n (l ∷ ls) z = by (numbered-none n ls) (is_at (nat_cmp n) l.0) refl (l.0 == n) refl z
  where
    by : (numbered n ls ≡ 0 → lookup (is_at (nat_cmp n)) ls ≡ None) → (b : Bool) → is_at (nat_cmp n) l.0 ≡ b → (c : Bool) → (l.0 == n) ≡ c → one_if c + numbered n ls ≡ 0 → cond b (Some l.1) (lookup (is_at (nat_cmp n)) ls) ≡ None
    by ih true t true u z = absurd (omega arith)
    by ih true t false u z = let e : l.0 ≡ n = at_true n l.0 t in absurd (grind arith)
    by ih false t c u z = ih (omega arith)

pub none-numbered : (n : ℕ) (lists : List (ℕ × List ℕ)) → lookup (is_at (nat_cmp n)) lists ≡ None → numbered n lists ≡ 0
none-numbered n [] z = refl
none-numbered n (l ∷ ls) z = by (none-numbered n ls) (is_at (nat_cmp n) l.0) refl (l.0 == n) refl z
  where
    by : (lookup (is_at (nat_cmp n)) ls ≡ None → numbered n ls ≡ 0) → (b : Bool) → is_at (nat_cmp n) l.0 ≡ b → (c : Bool) → (l.0 == n) ≡ c → cond b (Some l.1) (lookup (is_at (nat_cmp n)) ls) ≡ None → one_if c + numbered n ls ≡ 0
    by ih true t c u z = cc
    by ih false t true u z = absurd (grind arith)
    by ih false t false u z = omega (arith, ih z)
