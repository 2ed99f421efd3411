-- Tables have one count of their sides.
use Rattle.std.proofs.Common.{◌≡◌, ◌≤◌, ◌+◌, ◌==◌, ℕ, suc, pos, negsuc, nat_eq, ◌&&◌, ◌||◌, not, Bool, true, false, List, [], ◌∷◌, map, length, Option, Some, None, refl, sym, ap, ◌∙◌, arith}
use Rattle.std.specs.List.{list_any, flat_map, AllByRecursion, IsDistinct}
use Rattle.std.specs.Map.{keys_of}
use Rattle.std.proofs.lemmas.Cmp.{nat_eq_equiv}
use Rattle.std.proofs.lemmas.Map.Made.{length-from_same_keys}
use Rattle.bags.specs.Bag.{SameBag}
use Rattle.bags.specs.BagLaws.{same-any, same-length}
use Rattle.table_meaning.specs.declared.cell.Cell.{Cell}
use Rattle.table_meaning.specs.declared.cell.Cell.TheVariants.{Null, Int, Text, Truth}
use Rattle.layout_meaning.specs.Columns.{ColumnsOf}
use Rattle.layout_meaning.specs.Side.{Pair, ValueLists, is_pred}
use Rattle.layout_meaning.specs.Sound.{one_if, numbered, IsSoundList}
use Rattle.layout_meaning.specs.Rows.{NumberedRow, IsCountOf}
use Rattle.layout_standing_meaning.specs.Contents.{SideContents, pair_cells, row_cells, element_cells}
use Rattle.layout_standing_meaning.specs.Standing.{is_spilled_in}
use Rattle.layout_standing_meaning.proofs.Each.{any-flat_map}
use Rattle.layout_stats_meaning.specs.Statistics.{SideStatsOf, AreSideStats}

any-map : {X Y : Type 0} (t : Y → Bool) (f : X → Y) (xs : List X) → list_any t (map f xs) ≡ list_any (λ x. t (f x)) xs
any-map t f [] = refl
any-map t f (x ∷ xs) = ap (λ (b : Bool). t (f x) || b) (any-map t f xs)

length-map : {X Y : Type 0} (f : X → Y) (xs : List X) → length (map f xs) ≡ length xs
length-map f [] = refl
length-map f (x ∷ xs) = ap suc (length-map f xs)

-- rows are as many as their cells
pub rows-counted : {X : Type 0} (f : X → List Cell) (xs ys : List X) → SameBag (map f xs) (map f ys) → length xs ≡ length ys
rows-counted f xs ys s = sym (length-map f xs) ∙ same-length (map f xs) (map f ys) s ∙ length-map f ys

-- ---- spilled predicates, by the cells of rows

abbrev cell_is : ℕ → Cell → Bool
cell_is p Null = false
cell_is p (Int (pos n)) = n == p
cell_is p (Int (negsuc n)) = false
cell_is p (Text t) = false
cell_is p (Truth b) = false

-- a predicate stands in cells that come in pairs
abbrev in_pairs : ℕ → List Cell → Bool
in_pairs p [] = false
in_pairs p (c ∷ []) = false
in_pairs p (c ∷ v ∷ cells) = cell_is p c || in_pairs p cells

abbrev spills : ℕ → List Cell → Bool
spills p [] = false
spills p (e ∷ []) = false
spills p (e ∷ n ∷ cells) = not (cell_is 0 n) && in_pairs p cells

pairs-told : (p : ℕ) (pairs : List (Option Pair)) → in_pairs p (flat_map pair_cells pairs) ≡ list_any (is_pred p) pairs
pairs-told p [] = refl
pairs-told p (None ∷ pairs) = pairs-told p pairs
pairs-told p (Some q ∷ pairs) = ap (λ (b : Bool). q.pred == p || b) (pairs-told p pairs)

rows-told : (p : ℕ) (rows : List NumberedRow) → list_any (spills p) (map row_cells rows) ≡ is_spilled_in p rows
rows-told p [] = refl
rows-told p (r ∷ rows) =
    ap (λ (b : Bool). (not (r.spill == 0) && b) || list_any (spills p) (map row_cells rows)) (pairs-told p r.pairs)
    ∙ ap (λ (b : Bool). (not (r.spill == 0) && list_any (is_pred p) r.pairs) || b) (rows-told p rows)

spilled-same : (xs ys : List NumberedRow) → SameBag (map row_cells xs) (map row_cells ys) → (p : ℕ) → is_spilled_in p xs ≡ is_spilled_in p ys
spilled-same xs ys s p = sym (rows-told p xs) ∙ same-any (spills p) (map row_cells xs) (map row_cells ys) s ∙ rows-told p ys

one_count : (f h : ℕ → Bool) (m n : ℕ) → ((p : ℕ) → f p ≡ h p) → IsCountOf f m → IsCountOf h n → m ≡ n
one_count f h m n e x y =
    sym x.counted ∙ length-from_same_keys nat_eq_equiv x.names y.names x.distinct y.distinct (λ p. x.exact p ∙ e p ∙ sym (y.exact p)) ∙ y.counted

-- ---- lists, by the cells of their elements

abbrev names_list : ℕ → Cell → Bool
names_list n Null = false
names_list n (Int (pos m)) = false
names_list n (Int (negsuc m)) = nat_eq n m
names_list n (Text t) = false
names_list n (Truth b) = false

abbrev of_list : ℕ → List Cell → Bool
of_list n [] = false
of_list n (c ∷ cells) = names_list n c

or_itself : (b : Bool) → (b || b) ≡ b
or_itself true = refl
or_itself false = refl

elements-told : (n m v : ℕ) (vs : List ℕ) → list_any (of_list n) (element_cells (m, v ∷ vs)) ≡ nat_eq n m
elements-told n m v [] = or_false (nat_eq n m)
  where
    or_false : (b : Bool) → (b || false) ≡ b
    or_false true = refl
    or_false false = refl
elements-told n m v (w ∷ vs) = ap (λ (b : Bool). nat_eq n m || b) (elements-told n m w vs) ∙ or_itself (nat_eq n m)

list-told : (n : ℕ) (l : ℕ × List ℕ) → IsSoundList l.1 → list_any (of_list n) (element_cells l) ≡ nat_eq n l.0
list-told n l s = by l.1 s.two
  where
    by : (vs : List ℕ) → 2 ≤ length vs → list_any (of_list n) (element_cells (l.0, vs)) ≡ nat_eq n l.0
    by [] h = absurd (omega arith)
    by (v ∷ vs) h = elements-told n l.0 v vs

lists-told : (n : ℕ) (lists : ValueLists) → AllByRecursion (λ (l : ℕ × List ℕ). IsSoundList l.1) lists → list_any (λ (l : ℕ × List ℕ). list_any (of_list n) (element_cells l)) lists ≡ list_any (nat_eq n) (keys_of lists)
lists-told n [] a = refl
lists-told n (l ∷ lists) a =
    ap (λ (b : Bool). b || list_any (λ (k : ℕ × List ℕ). list_any (of_list n) (element_cells k)) lists) (list-told n l a.0)
    ∙ ap (λ (b : Bool). nat_eq n l.0 || b) (lists-told n lists a.1)

apart : (n : ℕ) (lists : ValueLists) → numbered n lists ≡ 0 → AllByRecursion (λ m. nat_eq n m ≡ false) (keys_of lists)
apart n [] z = tt
apart n (l ∷ lists) z = by (l.0 == n) refl z (apart n lists)
  where
    by : (b : Bool) → (l.0 == n) ≡ b → one_if b + numbered n lists ≡ 0 → (numbered n lists ≡ 0 → AllByRecursion (λ m. nat_eq n m ≡ false) (keys_of lists)) → AllByRecursion (λ m. nat_eq n m ≡ false) (keys_of (l ∷ lists))
    by true e z ih = absurd (omega arith)
    by false e z ih = (let h : nat_eq n l.0 ≡ false = grind arith in h, ih (omega arith))

keys_once : (lists : ValueLists) → ((n : ℕ) → numbered n lists ≤ 1) → IsDistinct nat_eq (keys_of lists)
unfolding IsDistinct
keys_once [] once = tt
keys_once (l ∷ lists) once = (apart l.0 lists none, keys_once lists fewer)
  where
    none : numbered l.0 lists ≡ 0
    none =
        let e : (l.0 == l.0) ≡ true = grind arith in
        let one : one_if (l.0 == l.0) ≡ 1 = ap one_if e in
        let h : one_if (l.0 == l.0) + numbered l.0 lists ≤ 1 = once l.0 in
        omega arith

    fewer : (n : ℕ) → numbered n lists ≤ 1
    fewer n = let h : one_if (l.0 == n) + numbered n lists ≤ 1 = once n in omega arith

keys-counted : (lists : ValueLists) → length (keys_of lists) ≡ length lists
keys-counted [] = refl
keys-counted (l ∷ lists) = ap suc (keys-counted lists)

-- what is needed of the lists of a side
pub record AreApartLists (lists : ValueLists) : Type 0 where
  pub sound : AllByRecursion (λ (l : ℕ × List ℕ). IsSoundList l.1) lists
  pub once : (n : ℕ) → numbered n lists ≤ 1

lists-counted : (xs ys : ValueLists) → AreApartLists xs → AreApartLists ys → SameBag (flat_map element_cells xs) (flat_map element_cells ys) → length xs ≡ length ys
lists-counted xs ys a b s =
    sym (keys-counted xs) ∙ length-from_same_keys nat_eq_equiv (keys_of xs) (keys_of ys) (keys_once xs a.once) (keys_once ys b.once) same ∙ keys-counted ys
  where
    told : (n : ℕ) (lists : ValueLists) → AreApartLists lists → list_any (of_list n) (flat_map element_cells lists) ≡ list_any (nat_eq n) (keys_of lists)
    told n lists c = any-flat_map (of_list n) element_cells lists ∙ lists-told n lists c.sound

    same : (n : ℕ) → list_any (nat_eq n) (keys_of xs) ≡ list_any (nat_eq n) (keys_of ys)
    same n = sym (told n xs a) ∙ same-any (of_list n) (flat_map element_cells xs) (flat_map element_cells ys) s ∙ told n ys b

-- ---- a side

pub one_side : (columns : ColumnsOf) (c d : SideContents) (s t : SideStatsOf) → AreApartLists c.lists → AreApartLists d.lists → SameBag (map row_cells c.rows) (map row_cells d.rows)
    → SameBag (flat_map element_cells c.lists) (flat_map element_cells d.lists) → AreSideStats columns c s → AreSideStats columns d t → s ≡ t
one_side columns c d s t a b rows lists x y =
    let k = x.columns ∙ sym y.columns in
    let r = x.rows ∙ rows-counted row_cells c.rows d.rows rows ∙ sym y.rows in
    let l = x.lists ∙ lists-counted c.lists d.lists a b lists ∙ sym y.lists in
    let p = one_count (λ p. is_spilled_in p c.rows) (λ p. is_spilled_in p d.rows) s.spilled t.spilled (spilled-same c.rows d.rows rows) x.spilled y.spilled in
    λ i. record { columns = k i; rows = r i; lists = l i; spilled = p i }
