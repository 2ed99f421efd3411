-- What holds of a side after each change.
use Rattle.std.proofs.Common.{◌≡◌, ℕ, ◌+◌, ◌^◌, ◌≤◌, ◌<◌, nat_eq, Bool, true, false, List, [], ◌∷◌, Option, Some, None, IsSome, All, length, arith, refl, sym, ap, ◌∙◌}
use Rattle.std.specs.List.{list_any, AllByRecursion}
use Rattle.std.specs.Ordering.{nat_cmp}
use Rattle.std.specs.BTreeMap.{is_at}
use Rattle.std.specs.Map.{lookup, remove_entry}
use Rattle.layout_meaning.specs.declared.value.Value.{Value}
use Rattle.layout_meaning.specs.declared.value.Value.TheVariants.{One, Many}
use Rattle.layout_meaning.specs.Side.{Row, Rows, Item, SideState, rows_of, found_values, find, find_in_row, or_else, place_by, take_by, first_of, only, left_lists, left_over, written}
use Rattle.layout_meaning.proofs.Held.{listed, held_by_place, held_by_take}
use Rattle.layout_meaning.proofs.Kept.{place_by-sound, take_by-sound}
use Rattle.layout_meaning.proofs.RowsKept.{rows_fit}
use Rattle.layout_meaning.proofs.Changes.{next-take_by}
use Rattle.layout_meaning.specs.Columns.{ColumnsOf, candidates_of}
use Rattle.primary_rows.specs.Kept.{IsSide}

pub left_over-one : (ys : List ℕ) (n : ℕ) (x : Item) (s : SideState) (a : ℕ) → only ys ≡ Some a
    → left_over ys n x s ≡ record { entities = written x (Some (record { pred = x.pred; value = One a })) s; lists = left_lists ys n s.lists; next = s.next }
left_over-one [] n x s a h = cc
left_over-one (b ∷ []) n x s a h = let e : b ≡ a = cc in
    ap (λ (z : ℕ). record { entities = written x (Some (record { pred = x.pred; value = One z })) s; lists = remove_entry (is_at (nat_cmp n)) s.lists; next = s.next }) e
left_over-one (b ∷ d ∷ more) n x s a h = cc

pub left_over-none : (ys : List ℕ) (n : ℕ) (x : Item) (s : SideState) → only ys ≡ None
    → left_over ys n x s ≡ record { entities = s.entities; lists = left_lists ys n s.lists; next = s.next }
left_over-none [] n x s h = refl
left_over-none (b ∷ []) n x s h = cc
left_over-none (b ∷ d ∷ more) n x s h = refl

-- a row in which something is found has a column
found-wide : (k p : ℕ) (v : Value) (rs : Rows) → AllByRecursion (λ (r : Row). length r ≡ k) rs → find p rs ≡ Some v → 0 < k
found-wide k p v [] wide h = cc
found-wide k p v (r ∷ rs) wide h = by (found-wide k p v rs wide.1) (find_in_row p r) refl h
  where
    some : (r : Row) (u : Value) → find_in_row p r ≡ Some u → 0 < length r
    some [] u h = cc
    some (o ∷ r) u h = omega arith

    by : (find p rs ≡ Some v → 0 < k) → (o : Option Value) → find_in_row p r ≡ o → or_else o (find p rs) ≡ Some v → 0 < k
    by ih None t h = ih h
    by ih (Some u) t h = (let a = some r u t in let b = wide.0 in omega arith)

-- the first of columns that are all below k
pub first-below : (k : ℕ) (xs : List ℕ) → 0 < length xs → All (λ c. c < k) xs → first_of xs < k
first-below k [] some h = absurd (omega arith)
first-below k (x ∷ xs) some h = h 0 0 (omega arith)

pub placed-side : (k : ColumnsOf) (columns : List ℕ) (x : Item) (s : SideState) (count more : ℕ) (found o : Option Value) (b : Bool) → IsSide k s count → first_of columns < k.count
    → found ≡ find x.pred (rows_of s.entities x.entity) → found ≡ o → b ≡ list_any (nat_eq x.value) (found_values s.lists found) → b ≡ false
    → (place_by o k.count columns x s).next ≤ 2 ^ 62 → more ≡ count + 1 → IsSide k (place_by o k.count columns x s) more
placed-side k columns x s count more found o b side first e d h f ids m = record {
  some = side.some;
  first = side.first;
  sound = place_by-sound k.count columns x s side.sound first o (sym e ∙ d) (ap (λ (o : Option Value). list_any (nat_eq x.value) (found_values s.lists o)) (sym d) ∙ sym h ∙ f);
  ids = ids;
  held = (let a = held_by_place k.count columns x s (λ (y : Item). 1) side.sound first o (sym e ∙ d) in let c = side.held in omega arith);
}

-- where something is found already, no column is chosen
pub placed-found : (k : ColumnsOf) (x : Item) (s : SideState) (count more : ℕ) (found : Option Value) (v : Value) (b : Bool) → IsSide k s count
    → found ≡ find x.pred (rows_of s.entities x.entity) → found ≡ Some v → b ≡ list_any (nat_eq x.value) (found_values s.lists found) → b ≡ false
    → (place_by (Some v) k.count (0 ∷ []) x s).next ≤ 2 ^ 62 → more ≡ count + 1 → IsSide k (place_by (Some v) k.count (0 ∷ []) x s) more
placed-found k x s count more found v b side e d h f ids m =
    placed-side k (0 ∷ []) x s count more found (Some v) b side
    (found-wide k.count x.pred v (rows_of s.entities x.entity) (rows_fit k.count x.entity s.entities side.sound.rows).wide (sym e ∙ d)) e d h f ids m

pub taken-side : (k : ColumnsOf) (x : Item) (s : SideState) (count less : ℕ) (found o : Option Value) (b : Bool) → IsSide k s count
    → found ≡ find x.pred (rows_of s.entities x.entity) → found ≡ o → b ≡ list_any (nat_eq x.value) (found_values s.lists found) → b ≡ true → less + 1 ≡ count
    → IsSide k (take_by o x s) less
taken-side k x s count less found o b side e d h f m = record {
  some = side.some;
  first = side.first;
  sound = take_by-sound k.count x s side.sound o (sym e ∙ d) (ap (λ (o : Option Value). list_any (nat_eq x.value) (found_values s.lists o)) (sym d) ∙ sym h ∙ f);
  ids = (let a = next-take_by o x s in let b = side.ids in omega arith);
  held = (let a = held_by_take k.count x s (λ (y : Item). 1) side.sound o (sym e ∙ d) (ap (λ (o : Option Value). list_any (nat_eq x.value) (found_values s.lists o)) (sym d) ∙ sym h ∙ f) in let c = side.held in omega arith);
}

-- a side that holds something counts it
pub counts-some : (k : ColumnsOf) (x : Item) (s : SideState) (count : ℕ) (found : Option Value) (b : Bool) → IsSide k s count
    → found ≡ find x.pred (rows_of s.entities x.entity) → b ≡ list_any (nat_eq x.value) (found_values s.lists found) → b ≡ true → 1 ≤ count
counts-some k x s count found b side e h f =
    let a = held_by_take k.count x s (λ (y : Item). 1) side.sound found (sym e) (sym h ∙ f) in let c = side.held in omega arith

pub list_there : (k : ColumnsOf) (n : ℕ) (x : Item) (s : SideState) (count : ℕ) (found : Option Value) → IsSide k s count → found ≡ find x.pred (rows_of s.entities x.entity) → found ≡ Some (Many n) → IsSome (lookup (is_at (nat_cmp n)) s.lists)
list_there k n x s count found side e d = let h = listed k.count n x s side.sound (sym e ∙ d) in rw h refl

pub empty-side : (k : ColumnsOf) (next : ℕ) → next ≤ 2 ^ 62 → ((iri : List ℕ) → 0 < length (candidates_of k iri)) → ((iri : List ℕ) → first_of (candidates_of k iri) < k.count) → IsSide k (record { entities = []; lists = []; next = next }) 0
empty-side k next ids some first = record {
  some = some;
  first = first;
  sound = record { rows = tt; lists = tt; named = λ (n : ℕ). refl; apart = λ (n : ℕ). omega arith; below = λ (n : ℕ) (l : next ≤ n). refl };
  ids = ids;
  held = refl;
}
