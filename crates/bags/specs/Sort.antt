-- A stable sort, lists compared by the first items that differ, and the first of equal items.
use Rattle.std.specs.Prelude.{Bool, true, false, if◌then◌else◌, ◌&&◌, List, [], ◌∷◌}
use Rattle.std.specs.List.{list_any}
use Rattle.std.specs.declared.cmp.Ordering.{Ordering}
use Rattle.std.specs.declared.cmp.Ordering.TheVariants.{Less, Equal, Greater}
use Rattle.std.specs.Ordering.{is_le, ordering_then, ordering_reverse}

-- x stands before the first item that it is not above
abbrev pub insert_sorted : {X : Type 0} → (X → X → Ordering) → X → List X → List X
insert_sorted cmp x [] = x ∷ []
insert_sorted cmp x (y ∷ ys) = if is_le (cmp x y) then x ∷ y ∷ ys else y ∷ insert_sorted cmp x ys

-- rising, and equal items in their order
abbrev pub sort : {X : Type 0} → (X → X → Ordering) → List X → List X
sort cmp [] = []
sort cmp (x ∷ xs) = insert_sorted cmp x (sort cmp xs)

-- the other way round, where asked
abbrev pub turned : Bool → Ordering → Ordering
turned down order = if down then ordering_reverse order else order

-- an item past the flags is not turned
abbrev pub first_flag : List Bool → Bool
first_flag [] = false
first_flag (down ∷ downs) = down

abbrev pub rest_flags : List Bool → List Bool
rest_flags [] = []
rest_flags (down ∷ downs) = downs

-- by the first items that differ, each turned where its flag says so; a list stands after its fronts
abbrev pub by_items : {X : Type 0} → (X → X → Ordering) → List Bool → List X → List X → Ordering
by_items cmp downs [] [] = Equal
by_items cmp downs [] (y ∷ ys) = Less
by_items cmp downs (x ∷ xs) [] = Greater
by_items cmp downs (x ∷ xs) (y ∷ ys) = ordering_then (turned (first_flag downs) (cmp x y)) (by_items cmp (rest_flags downs) xs ys)

-- equal item by item
abbrev pub same_items : {X : Type 0} → (X → X → Bool) → List X → List X → Bool
same_items same [] [] = true
same_items same [] (y ∷ ys) = false
same_items same (x ∷ xs) [] = false
same_items same (x ∷ xs) (y ∷ ys) = same x y && same_items same xs ys

-- the first of equal items, where those of `seen` stood before
abbrev pub firsts : {X : Type 0} → (X → X → Bool) → List X → List X → List X
firsts same seen [] = []
firsts same seen (x ∷ xs) = if list_any (same x) seen then firsts same seen xs else x ∷ firsts same (x ∷ seen) xs
