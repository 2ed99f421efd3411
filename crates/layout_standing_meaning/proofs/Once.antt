-- Each item of a side stands in one place.
use Rattle.std.proofs.Common.{◌≡◌, ℕ, ◌+◌, ◌≤◌, ◌==◌, ◌&&◌, Bool, true, false, if◌then◌else◌, List, [], ◌∷◌, map, Option, Some, None, refl, arith}
use Rattle.std.specs.List.{flat_map, AllByRecursion}
use Rattle.std.specs.Ordering.{nat_cmp}
use Rattle.std.specs.BTreeMap.{is_at}
use Rattle.std.specs.Map.{lookup}
use Rattle.bags.specs.Bag.{total}
use Rattle.bags.specs.BagLaws.{total-flat_map, total-map, total-append}
use Rattle.layout_meaning.specs.declared.value.Value.{Value}
use Rattle.layout_meaning.specs.declared.value.Value.TheVariants.{One, Many}
use Rattle.layout_meaning.specs.Side.{Pair, Row, Item, ValueLists, or_empty, elements_of, values_of, pair_items}
use Rattle.layout_meaning.specs.Sound.{one_if, has_pred, times, IsSoundList}
use Rattle.layout_meaning.specs.Rows.{NumberedRow}
use Rattle.layout_meaning.proofs.RowsKept.{All-found}
use Rattle.layout_standing_meaning.specs.Contents.{SideContents, said}

abbrev pub same_item : Item → Item → Bool
same_item y x = y.entity == x.entity && (y.pred == x.pred && y.value == x.value)

elements-once : (lists : ValueLists) → AllByRecursion (λ (l : ℕ × List ℕ). IsSoundList l.1) lists → (n v : ℕ) → times v (elements_of lists n) ≤ 1
elements-once lists sound n v = by (lookup (is_at (nat_cmp n)) lists) refl
  where
    by : (o : Option (List ℕ)) → lookup (is_at (nat_cmp n)) lists ≡ o → times v (or_empty o) ≤ 1
    by None t = omega arith
    by (Some xs) t = (All-found IsSoundList n xs lists sound t).once v

values-once : (lists : ValueLists) → AllByRecursion (λ (l : ℕ × List ℕ). IsSoundList l.1) lists → (v : ℕ) (w : Value) → times v (values_of lists w) ≤ 1
values-once lists sound v (One u) = by (u == v)
  where
    by : (b : Bool) → one_if b + 0 ≤ 1
    by true = omega arith
    by false = omega arith
values-once lists sound v (Many n) = elements-once lists sound n v

three-below : (a b c : Bool) → one_if (a && (b && c)) ≤ (if a && b then one_if c else 0)
three-below true true c = omega arith
three-below true false c = omega arith
three-below false b c = omega arith

mapped-below : (x : Item) (e p : ℕ) (vs : List ℕ) → total (λ (v : ℕ). one_if (same_item (record { entity = e; pred = p; value = v }) x)) vs ≤ (if e == x.entity && p == x.pred then times x.value vs else 0)
mapped-below x e p vs = by (e == x.entity) (p == x.pred) vs
  where
    by : (a b : Bool) (vs : List ℕ) → total (λ (v : ℕ). one_if (a && (b && v == x.value))) vs ≤ (if a && b then times x.value vs else 0)
    by true true [] = omega arith
    by true false [] = omega arith
    by false b [] = omega arith
    by true true (v ∷ vs) = (let ih = by true true vs in omega arith)
    by true false (v ∷ vs) = (let ih = by true false vs in omega arith)
    by false b (v ∷ vs) = (let ih = by false b vs in omega arith)

pair-below : (lists : ValueLists) → AllByRecursion (λ (l : ℕ × List ℕ). IsSoundList l.1) lists → (x : Item) (e : ℕ) (o : Option Pair)
    → total (λ (y : Item). one_if (same_item y x)) (pair_items lists e o) ≤ (if e == x.entity then has_pred x.pred o else 0)
pair-below lists sound x e None = by (e == x.entity)
  where
    by : (b : Bool) → 0 ≤ (if b then 0 else 0)
    by true = omega arith
    by false = omega arith
pair-below lists sound x e (Some q) =
    let a : total (λ (y : Item). one_if (same_item y x)) (pair_items lists e (Some q)) ≡ total (λ (v : ℕ). one_if (same_item (record { entity = e; pred = q.pred; value = v }) x)) (values_of lists q.value)
    = total-map (λ (y : Item). one_if (same_item y x)) (λ v. record { entity = e; pred = q.pred; value = v }) (values_of lists q.value) in
    let b = mapped-below x e q.pred (values_of lists q.value) in
    let c = by (e == x.entity) (q.pred == x.pred) in
    omega arith
  where
    by : (a b : Bool) → (if a && b then times x.value (values_of lists q.value) else 0) ≤ (if a then one_if b else 0)
    by true true = values-once lists sound x.value q.value
    by true false = omega arith
    by false b = omega arith

row-below : (lists : ValueLists) → AllByRecursion (λ (l : ℕ × List ℕ). IsSoundList l.1) lists → (x : Item) (e : ℕ) (r : Row)
    → total (λ (y : Item). one_if (same_item y x)) (flat_map (pair_items lists e) r) ≤ (if e == x.entity then total (has_pred x.pred) r else 0)
row-below lists sound x e [] = by (e == x.entity)
  where
    by : (b : Bool) → 0 ≤ (if b then 0 else 0)
    by true = omega arith
    by false = omega arith
row-below lists sound x e (o ∷ r) =
    let a = total-append (λ (y : Item). one_if (same_item y x)) (pair_items lists e o) (flat_map (pair_items lists e) r) in
    let b = pair-below lists sound x e o in
    let c = row-below lists sound x e r in
    let d = by (e == x.entity) in
    omega arith
  where
    by : (b : Bool) → (if b then has_pred x.pred o else 0) + (if b then total (has_pred x.pred) r else 0) ≤ (if b then has_pred x.pred o + total (has_pred x.pred) r else 0)
    by true = omega arith
    by false = omega arith

pub said-once : (s : SideContents) → AllByRecursion (λ (l : ℕ × List ℕ). IsSoundList l.1) s.lists
    → ((e p : ℕ) → total (λ (r : NumberedRow). if r.entity == e then total (has_pred p) r.pairs else 0) s.rows ≤ 1)
    → (x : Item) → total (λ (y : Item). one_if (same_item y x)) (said s) ≤ 1
said-once s sound once x =
    let a : total (λ (y : Item). one_if (same_item y x)) (said s) ≡ total (λ (r : NumberedRow). total (λ (y : Item). one_if (same_item y x)) (flat_map (pair_items s.lists r.entity) r.pairs)) s.rows
    = total-flat_map (λ (y : Item). one_if (same_item y x)) (λ (r : NumberedRow). flat_map (pair_items s.lists r.entity) r.pairs) s.rows in
    let b = below s.rows in
    let c = once x.entity x.pred in
    omega arith
  where
    below : (rows : List NumberedRow) → total (λ (r : NumberedRow). total (λ (y : Item). one_if (same_item y x)) (flat_map (pair_items s.lists r.entity) r.pairs)) rows ≤ total (λ (r : NumberedRow). if r.entity == x.entity then total (has_pred x.pred) r.pairs else 0) rows
    below [] = omega arith
    below (r ∷ rows) = (let a = row-below s.lists sound x r.entity r.pairs in let b = below rows in omega arith)
