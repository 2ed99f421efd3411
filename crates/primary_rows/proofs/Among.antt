-- The values of one entity among those of all.
use Rattle.std.proofs.Common.{if◌then◌else◌, ◌≡◌, ◌≤◌, ◌+◌, ◌∙◌, ℕ, Bool, true, false, List, [], ◌∷◌, ◌++◌, length, Option, Some, None, refl, arith}
use Rattle.std.specs.List.{flat_map, AllByRecursion}
use Rattle.std.specs.Ordering.{nat_cmp}
use Rattle.std.specs.BTreeMap.{is_at}
use Rattle.std.specs.Map.{lookup}
use Rattle.bags.specs.Bag.{total}
use Rattle.bags.specs.BagLaws.{total-append, total-flat_map, total-map, total-same}
use Rattle.layout_meaning.specs.declared.value.Value.{Value}
use Rattle.layout_meaning.specs.declared.value.Value.TheVariants.{One, Many}
use Rattle.layout_meaning.specs.Side.{Pair, Item, Row, Rows, Entities, ValueLists, or_empty, rows_of, values_of, pair_items}
use Rattle.layout_meaning.specs.Sound.{IsSoundList}
use Rattle.layout_bulk_meaning.specs.Appended.{named_by_value, named_by, named_in_rows, named_lists}
use Rattle.primary_rows.specs.Held.{HasList, IsThere, pair_count}
use Rattle.primary_rows.proofs.Moved.{list-known}

-- both parts of what holds of all
both : {X : Type 0} (P : X → Type 0) (xs ys : List X) → AllByRecursion P (xs ++ ys) → AllByRecursion P xs × AllByRecursion P ys
both P [] ys a = (tt, a)
both P (x ∷ xs) ys a = let r = both P xs ys a.1 in ((a.0, r.0), r.1)

there-value : (lists : ValueLists) (v : Value) → AllByRecursion IsSoundList (named_by_value lists v) → HasList lists v
there-value lists (One v) a = tt
there-value lists (Many n) a = list-known lists n a.0

there-pair : (lists : ValueLists) (o : Option Pair) → AllByRecursion IsSoundList (named_by lists o) → IsThere lists o
there-pair lists None a = tt
there-pair lists (Some p) a = there-value lists p.value a

there-row : (lists : ValueLists) (r : Row) → AllByRecursion IsSoundList (flat_map (named_by lists) r) → AllByRecursion (IsThere lists) r
there-row lists [] a = tt
there-row lists (o ∷ r) a =
    let h = both IsSoundList (named_by lists o) (flat_map (named_by lists) r) a in
    (there-pair lists o h.0, there-row lists r h.1)

there-rows : (lists : ValueLists) (rs : Rows) → AllByRecursion IsSoundList (named_in_rows lists rs) → AllByRecursion (AllByRecursion (IsThere lists)) rs
there-rows lists [] a = tt
there-rows lists (r ∷ rs) a =
    let h = both IsSoundList (flat_map (named_by lists) r) (named_in_rows lists rs) a in
    (there-row lists r h.0, there-rows lists rs h.1)

-- the lists of one entity are there
pub there-entity : (lists : ValueLists) (ents : Entities) (e : ℕ) → AllByRecursion IsSoundList (named_lists lists ents) → AllByRecursion (AllByRecursion (IsThere lists)) (rows_of ents e)
there-entity lists [] e a = tt
there-entity lists (en ∷ ents) e a =
    let h = both IsSoundList (named_in_rows lists en.1) (named_lists lists ents) a in
    by (is_at (nat_cmp e) en.0) (there-rows lists en.1 h.0) (there-entity lists ents e h.1)
  where
    by : (b : Bool) → AllByRecursion (AllByRecursion (IsThere lists)) en.1 → AllByRecursion (AllByRecursion (IsThere lists)) (rows_of ents e)
        → AllByRecursion (AllByRecursion (IsThere lists)) (or_empty (if b then Some en.1 else lookup (is_at (nat_cmp e)) ents))
    by true one rest = one
    by false one rest = rest

ones : {X : Type 0} (xs : List X) → total (λ (x : X). 1) xs ≡ length xs
ones [] = refl
ones (x ∷ xs) = let h = ones xs in omega arith

pair-items : (lists : ValueLists) (e : ℕ) (o : Option Pair) → total (λ (x : Item). 1) (pair_items lists e o) ≡ pair_count lists o
pair-items lists e None = refl
pair-items lists e (Some p) =
    total-map (λ (x : Item). 1) (λ (v : ℕ). record { entity = e; pred = p.pred; value = v }) (values_of lists p.value) ∙ ones (values_of lists p.value)

row-items : (lists : ValueLists) (e : ℕ) (r : Row) → total (λ (x : Item). 1) (flat_map (pair_items lists e) r) ≡ total (pair_count lists) r
row-items lists e r = total-flat_map (λ (x : Item). 1) (pair_items lists e) r ∙ total-same (λ (o : Option Pair). total (λ (x : Item). 1) (pair_items lists e o)) (pair_count lists) (pair-items lists e) r

pub rows-items : (lists : ValueLists) (e : ℕ) (rs : Rows) → total (λ (x : Item). 1) (flat_map (flat_map (pair_items lists e)) rs) ≡ total (total (pair_count lists)) rs
rows-items lists e rs =
    total-flat_map (λ (x : Item). 1) (flat_map (pair_items lists e)) rs
    ∙ total-same (λ (r : Row). total (λ (x : Item). 1) (flat_map (pair_items lists e) r)) (total (pair_count lists)) (row-items lists e) rs

-- an entity holds no more values than all entities together
pub within-all : (lists : ValueLists) (ents : Entities) (e : ℕ)
    → total (total (pair_count lists)) (rows_of ents e) ≤ total (λ (x : Item). 1) (flat_map (λ (en : ℕ × Rows). flat_map (flat_map (pair_items lists en.0)) en.1) ents)
within-all lists [] e = omega arith
within-all lists (en ∷ ents) e = by (is_at (nat_cmp e) en.0) (within-all lists ents e)
  where
    mine : List Item
    mine = flat_map (flat_map (pair_items lists en.0)) en.1

    others : List Item
    others = flat_map (λ (en : ℕ × Rows). flat_map (flat_map (pair_items lists en.0)) en.1) ents

    split : total (λ (x : Item). 1) (mine ++ others) ≡ total (λ (x : Item). 1) mine + total (λ (x : Item). 1) others
    split = total-append (λ (x : Item). 1) mine others

    by : (b : Bool) → total (total (pair_count lists)) (rows_of ents e) ≤ total (λ (x : Item). 1) others
        → total (total (pair_count lists)) (or_empty (if b then Some en.1 else lookup (is_at (nat_cmp e)) ents)) ≤ total (λ (x : Item). 1) (mine ++ others)
    by true rest = let h = rows-items lists en.0 en.1 in let k = split in omega (arith, h, k)
    by false rest = let k = split in omega (arith, rest, k)
