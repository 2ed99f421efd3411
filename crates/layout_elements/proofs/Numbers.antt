-- The numbers that rows name are those of the lists, in order.
use Rattle.std.proofs.Common.{◌≡◌, ℕ, zero, suc, ◌+◌, ◌^◌, ◌≤◌, ◌<◌, ◌==◌, Bool, true, false, List, [], ◌∷◌, ◌++◌, map, Option, Some, None, length, get_or, take, refl, sym, ap, ap₂, ◌∙◌, subst, arith, IsSome}
use Rattle.std.specs.Prelude.{All}
use Rattle.std.specs.List.{flat_map, AllByRecursion}
use Rattle.std.proofs.lemmas.List.{take_more}
use Rattle.std.specs.List.Sorted.{IsPermutation, IsSorted}
use Rattle.std.specs.Cmp.{nat_cmp_total}
use Rattle.std.specs.Ordering.{nat_cmp, is_le}
use Rattle.std.specs.BTreeMap.{is_at}
use Rattle.std.specs.Map.{lookup, keys_of}
use Rattle.bags.specs.Bag.{total}
use Rattle.bags.specs.BagLaws.{total-append, total-map, each-weaker}
use Rattle.bags.specs.PermutationLaws.{same-permutation}
use Rattle.bags.specs.SortLaws.{IsRising, rising-sorted}
use Rattle.table_meaning.specs.declared.cell.Cell.{Cell}
use Rattle.layout_meaning.specs.declared.value.Value.{Value}
use Rattle.layout_meaning.specs.declared.value.Value.TheVariants.{One, Many}
use Rattle.layout_meaning.specs.Columns.{ColumnsOf}
use Rattle.layout_meaning.specs.Side.{Pair, Row, ValueLists, SideState, elements_of}
use Rattle.layout_meaning.specs.Lists.{ListsOf}
use Rattle.layout_meaning.specs.Sound.{one_if, names, numbered, times, IsSound}
use Rattle.layout_meaning.specs.Rows.{NumberedRow, numbered_rows}
use Rattle.primary_rows.specs.Cells.{pair_of}
use Rattle.primary_rows.specs.Views.{seen_row}
use Rattle.primary_rows.specs.declared.cells.Pair as cells
use Rattle.primary_rows.specs.declared.views.RowView.{RowView}
use Rattle.layout_standing_meaning.specs.Contents.{element_cells}
use Rattle.layout_standing_meaning.proofs.Each.{each-two}
use Rattle.layout_standing_meaning.proofs.Known.{found_list}
use Rattle.layout_standing_meaning.proofs.Numbered.{numbered-total}
use Rattle.layout_list_laws.specs.InOrder.{AreRising}
use Rattle.layout_elements.specs.ElementRows.{many_of, named_list, IsListNumber}

-- the number that a pair names
many-one : (n : ℕ) (v : Value) (m : ℕ) → many_of v ≡ Some m → one_if (m == n) ≡ names n (Some (record { pred = 0; value = v }))
many-one n (One v) m h = cc
many-one n (Many k) m h = let e : k ≡ m = cc in ap (λ (i : ℕ). one_if (i == n)) (sym e)

many-none : (n : ℕ) (v : Value) → many_of v ≡ None → 0 ≡ names n (Some (record { pred = 0; value = v }))
many-none n (One v) h = refl
many-none n (Many k) h = cc

pub named-one : (n : ℕ) (o : Option Pair) (m : ℕ) (old : List ℕ) → named_list o ≡ Some m → times n (old ++ m ∷ []) ≡ times n old + names n o
named-one n None m old h = cc
named-one n (Some p) m old h =
    let a = total-append (λ (w : ℕ). one_if (w == n)) old (m ∷ []) in
    let b : one_if (m == n) ≡ names n (Some p) = many-one n p.value m h in
    omega arith

pub named-none : (n : ℕ) (o : Option Pair) (old : List ℕ) → named_list o ≡ None → times n old ≡ times n old + names n o
named-none n None old h = omega arith
named-none n (Some p) old h = let b : 0 ≡ names n (Some p) = many-none n p.value h in omega arith

-- a turn of a loop
total-on : {X : Type 0} (g : X → ℕ) (xs : List X) (i : ℕ) (d : X) → i < length xs → total g (take (i + 1) xs) ≡ total g (take i xs) + g (get_or xs i d)
total-on {X} g xs i d l =
    let a : total g (take (i + 1) xs) ≡ total g (take i xs ++ get_or xs i d ∷ []) = ap (λ (ys : List X). total g ys) (take_more xs i d l) in
    let b : total g (take i xs ++ get_or xs i d ∷ []) ≡ total g (take i xs) + total g (get_or xs i d ∷ []) = total-append g (take i xs) (get_or xs i d ∷ []) in
    omega arith

pub pairs-on : (n : ℕ) (ps : List cells.Pair) (i : ℕ) (d : cells.Pair) (old mid new : ℕ) → i < length ps → new ≡ mid + names n (pair_of (get_or ps i d))
    → mid ≡ old + total (names n) (map pair_of (take i ps)) → new ≡ old + total (names n) (map pair_of (take (i + 1) ps))
pairs-on n ps i d old mid new l step before =
    let a = total-map (names n) pair_of (take i ps) in
    let b = total-map (names n) pair_of (take (i + 1) ps) in
    let k = total-on (λ (p : cells.Pair). names n (pair_of p)) ps i d l in
    omega arith

abbrev named_in : ℕ → NumberedRow → ℕ
named_in n r = total (names n) r.pairs

pub rows-on : (n : ℕ) (rows : List RowView) (i : ℕ) (d : RowView) (mid new : ℕ) → i < length rows → new ≡ mid + total (names n) (map pair_of (get_or rows i d).cells.now)
    → mid ≡ total (λ (r : NumberedRow). total (names n) r.pairs) (map seen_row (take i rows)) → new ≡ total (λ (r : NumberedRow). total (names n) r.pairs) (map seen_row (take (i + 1) rows))
rows-on n rows i d mid new l step before =
    let a : total (named_in n) (map seen_row (take i rows)) ≡ total (λ (r : RowView). named_in n (seen_row r)) (take i rows) = total-map (named_in n) seen_row (take i rows) in
    let b : total (named_in n) (map seen_row (take (i + 1) rows)) ≡ total (λ (r : RowView). named_in n (seen_row r)) (take (i + 1) rows) = total-map (named_in n) seen_row (take (i + 1) rows) in
    let k = total-on (λ (r : RowView). named_in n (seen_row r)) rows i d l in
    omega arith

-- two lists in order with the same numbers are one
self : (n : ℕ) → one_if (n == n) ≡ 1
self n = grind arith

other : (m n : ℕ) → n < m → one_if (m == n) ≡ 0
other m n l = let e : (m == n) ≡ false = grind arith in ap one_if e

le-of : (m n : ℕ) → is_le (nat_cmp m n) ≡ true → m ≤ n
le-of m n h = grind arith

no-times : (n : ℕ) (xs : List ℕ) → AllByRecursion (λ (x : ℕ). n < x) xs → times n xs ≡ 0
no-times n [] h = refl
no-times n (x ∷ xs) h = let a = other x n h.0 in let b = no-times n xs h.1 in omega arith

no-number : (n : ℕ) (lists : ValueLists) → AllByRecursion (λ (l : ℕ × List ℕ). n < l.0) lists → numbered n lists ≡ 0
no-number n [] h = refl
no-number n (l ∷ lists) h = let a = other l.0 n h.0 in let b = no-number n lists h.1 in omega arith

sorted-keys : (ns : List ℕ) (lists : ValueLists) → IsRising nat_cmp ns → AreRising lists → ((n : ℕ) → times n ns ≡ numbered n lists) → ns ≡ keys_of lists
sorted-keys [] [] r q h = refl
sorted-keys [] (l ∷ lists) r q h = absurd (let a = h l.0 in let b = self l.0 in omega arith)
sorted-keys (x ∷ ns) [] r q h = absurd (let a = h x in let b = self x in omega arith)
sorted-keys (x ∷ ns) (l ∷ lists) r q h = ap₂ (λ (y : ℕ) (ys : List ℕ). y ∷ ys) same (sorted-keys ns lists r.1 q.1 rest)
  where
    not-below : x < l.0 → ⊥
    not-below b =
        let z : numbered x (l ∷ lists) ≡ 0 = no-number x (l ∷ lists) (b, each-weaker (λ (m : ℕ × List ℕ). l.0 ≤ m.0) (λ (m : ℕ × List ℕ). x < m.0) (λ (m : ℕ × List ℕ) (k : l.0 ≤ m.0). omega arith) lists q.0) in
        let a = h x in let s = self x in omega arith

    not-above : l.0 < x → ⊥
    not-above b =
        let z : times l.0 (x ∷ ns) ≡ 0 = no-times l.0 (x ∷ ns) (b, each-weaker (λ (y : ℕ). is_le (nat_cmp x y) ≡ true) (λ (y : ℕ). l.0 < y) (λ (y : ℕ) (k : is_le (nat_cmp x y) ≡ true). let m = le-of x y k in omega arith) ns r.0) in
        let a = h l.0 in let s = self l.0 in omega arith

    same : x ≡ l.0
    same = grind (arith, not-below, not-above)

    rest : (n : ℕ) → times n ns ≡ numbered n lists
    rest n = let a = h n in let b : one_if (x == n) ≡ one_if (l.0 == n) = ap (λ (m : ℕ). one_if (m == n)) same in omega arith

-- the numbers that rows name, sorted
pub numbers-sorted : (columns : ColumnsOf) (s : SideState) (rows : List NumberedRow) (found sorted : List ℕ) → IsSound columns.count s → AreRising s.lists → rows ≡ numbered_rows s.entities
    → ((n : ℕ) → times n found ≡ total (λ (r : NumberedRow). total (names n) r.pairs) rows) → IsPermutation found sorted → IsSorted nat_cmp sorted → sorted ≡ keys_of s.lists
numbers-sorted columns s rows found sorted sound rising e count moved order = sorted-keys sorted s.lists (rising-sorted nat_cmp_total sorted order) rising (λ (n : ℕ). counted n)
  where
    counted : (n : ℕ) → times n sorted ≡ numbered n s.lists
    counted n =
        let a : times n found ≡ times n sorted = (same-permutation found sorted moved).totals (λ (w : ℕ). one_if (w == n)) in
        let b : total (λ (r : NumberedRow). total (names n) r.pairs) rows ≡ total (λ (r : NumberedRow). total (names n) r.pairs) (numbered_rows s.entities) = ap (λ (l : List NumberedRow). total (λ (r : NumberedRow). total (names n) r.pairs) l) e in
        sym a ∙ count n ∙ b ∙ numbered-total (λ (k : ℕ) (r : Row). total (names n) r) s.entities ∙ sound.named n

-- each number is that of a list
keys-there : (lists : ValueLists) → AllByRecursion (λ (n : ℕ). 1 ≤ numbered n lists) (keys_of lists)
keys-there [] = tt
keys-there (l ∷ lists) = (
  (let a = self l.0 in omega arith),
  each-weaker (λ (n : ℕ). 1 ≤ numbered n lists) (λ (n : ℕ). 1 ≤ numbered n (l ∷ lists)) (λ (n : ℕ) (h : 1 ≤ numbered n lists). omega arith) (keys_of lists) (keys-there lists),
)

all-of : {X : Type 0} (P : X → Type 0) (xs : List X) → AllByRecursion P xs → All P xs
all-of P [] h k d l = absurd (omega arith)
all-of P (x ∷ xs) h zero d l = h.0
all-of P (x ∷ xs) h (suc k) d l = all-of P xs h.1 k d (omega arith)

pub keys-are_numbers : (columns : ColumnsOf) (s : SideState) (lists : ListsOf) (numbers : List ℕ) → IsSound columns.count s → lists.lists ≡ s.lists → s.next ≤ 2 ^ 62 → numbers ≡ keys_of s.lists → All (λ (n : ℕ). IsListNumber lists n) numbers
keys-are_numbers columns s lists numbers sound e few is =
    all-of (λ (n : ℕ). IsListNumber lists n) numbers (subst (λ (ns : List ℕ). AllByRecursion (λ (n : ℕ). IsListNumber lists n) ns) (sym is)
    (each-weaker (λ (n : ℕ). 1 ≤ numbered n s.lists) (λ (n : ℕ). IsListNumber lists n) one (keys_of s.lists) (keys-there s.lists)))
  where
    below : (n : ℕ) → 1 ≤ numbered n s.lists → (s.next ≤ n → numbered n s.lists ≡ 0) → n < 2 ^ 62
    below n l none = grind (arith, none)

    one : (n : ℕ) → 1 ≤ numbered n s.lists → IsListNumber lists n
    one n l = record {
      there = subst (λ (ls : ValueLists). IsSome (lookup (is_at (nat_cmp n)) ls)) (sym e) (subst (λ (o : Option (List ℕ)). IsSome o) (sym (found_list n s.lists l)) refl);
      below = below n l (sound.below n);
    }

-- each list is found by its number
unlike : (m n : ℕ) → (m == n) ≡ false → is_at (nat_cmp n) m ≡ false
unlike m n h = grind arith

none-like : (n : ℕ) (lists : ValueLists) → numbered n lists ≡ 0 → AllByRecursion (λ (l : ℕ × List ℕ). (l.0 == n) ≡ false) lists
none-like n [] h = tt
none-like n (l ∷ lists) h = by (l.0 == n) refl (none-like n lists)
  where
    by : (b : Bool) → (l.0 == n) ≡ b → (numbered n lists ≡ 0 → AllByRecursion (λ (m : ℕ × List ℕ). (m.0 == n) ≡ false) lists) → AllByRecursion (λ (m : ℕ × List ℕ). (m.0 == n) ≡ false) (l ∷ lists)
    by true e rest = absurd (let a : one_if (l.0 == n) ≡ 1 = ap one_if e in omega arith)
    by false e rest = (e, rest (omega arith))

found-on : (e l : ℕ × List ℕ) (lists : ValueLists) → (l.0 == e.0) ≡ false → elements_of lists l.0 ≡ l.1 → elements_of (e ∷ lists) l.0 ≡ l.1
found-on e l lists apart h = let k : is_at (nat_cmp l.0) e.0 ≡ false = unlike e.0 l.0 (turned l.0 e.0 apart) in rw k h
  where
    turned : (m n : ℕ) → (m == n) ≡ false → (n == m) ≡ false
    turned m n h = grind arith

found-here : (e : ℕ × List ℕ) (lists : ValueLists) → elements_of (e ∷ lists) e.0 ≡ e.1
found-here e lists = let k : is_at (nat_cmp e.0) e.0 ≡ true = here e.0 in rw k refl
  where
    here : (n : ℕ) → is_at (nat_cmp n) n ≡ true
    here n = grind arith

all-found : (lists : ValueLists) → ((n : ℕ) → numbered n lists ≤ 1) → AllByRecursion (λ (l : ℕ × List ℕ). elements_of lists l.0 ≡ l.1) lists
all-found [] apart = tt
all-found (e ∷ lists) apart =
    let z : numbered e.0 lists ≡ 0 = (let a = apart e.0 in let b = self e.0 in omega arith) in (
      found-here e lists,
      each-two (λ (l : ℕ × List ℕ). (l.0 == e.0) ≡ false) (λ (l : ℕ × List ℕ). elements_of lists l.0 ≡ l.1) (λ (l : ℕ × List ℕ). elements_of (e ∷ lists) l.0 ≡ l.1)
          (λ (l : ℕ × List ℕ) (k : (l.0 == e.0) ≡ false) (h : elements_of lists l.0 ≡ l.1). found-on e l lists k h) lists (none-like e.0 lists z) (all-found lists (λ (n : ℕ). let a = apart n in omega arith)),
    )

mapped : (all lists : ValueLists) → AllByRecursion (λ (l : ℕ × List ℕ). elements_of all l.0 ≡ l.1) lists → flat_map (λ (n : ℕ). element_cells (n, elements_of all n)) (keys_of lists) ≡ flat_map element_cells lists
mapped all [] h = refl
mapped all (l ∷ lists) h =
    ap₂ (λ (x y : List (List Cell)). x ++ y) (ap (λ (vs : List ℕ). element_cells (l.0, vs)) h.0) (mapped all lists h.1)

pub elements-of_keys : (columns : ColumnsOf) (s : SideState) (lists : ListsOf) (numbers : List ℕ) → IsSound columns.count s → lists.lists ≡ s.lists → numbers ≡ keys_of s.lists
    → flat_map (λ (n : ℕ). element_cells (n, elements_of lists.lists n)) numbers ≡ flat_map element_cells s.lists
elements-of_keys columns s lists numbers sound e is =
    ap (λ (ls : ValueLists). flat_map (λ (n : ℕ). element_cells (n, elements_of ls n)) numbers) e
    ∙ ap (λ (ns : List ℕ). flat_map (λ (n : ℕ). element_cells (n, elements_of s.lists n)) ns) is
    ∙ mapped s.lists s.lists (all-found s.lists sound.apart)
