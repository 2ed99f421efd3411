-- Sums over a side's items, row by row.
use Rattle.std.proofs.Common.{◌≡◌, ℕ, ◌+◌, ◌≤◌, ◌==◌, ◌&&◌, not, Bool, true, false, cond, if◌then◌else◌, List, [], ◌∷◌, Option, Some, None, refl, ap, ◌∙◌, arith, subst}
use Rattle.std.proofs.lemmas.Bool.{or_parts}
use Rattle.std.specs.List.{flat_map, list_any, AllByRecursion}
use Rattle.bags.specs.Bag.{total}
use Rattle.bags.specs.BagLaws.{total-map, total-append, total-cond, total-flat_map, total-each, each-weaker}
use Rattle.layout_meaning.specs.declared.value.Value.{Value}
use Rattle.layout_meaning.specs.Columns.{ColumnsOf}
use Rattle.layout_meaning.specs.Side.{Pair, Row, Item, ValueLists, is_pred, values_of, found_values, find_in_row, pair_items}
use Rattle.layout_meaning.specs.Sound.{one_if, has_pred}
use Rattle.layout_meaning.specs.Rows.{NumberedRow}
use Rattle.layout_standing_meaning.specs.Dictionary.{Entry}
use Rattle.layout_standing_meaning.specs.Contents.{SideContents, said}
use Rattle.layout_standing_meaning.specs.Standing.{SideStands, is_spilled_in}
use Rattle.layout_standing_meaning.proofs.Each.{each-part}
use Rattle.layout_table_laws.proofs.Candidates.{none-in_row}

-- an item's term, where it has the predicate
abbrev pub item_term : ℕ → (ℕ → ℕ → ℕ) → Item → ℕ
item_term p G x = cond (x.pred == p) (G x.entity x.value) 0

pair_term : (lists : ValueLists) (p k : ℕ) (G : ℕ → ℕ → ℕ) (q : Pair) → total (item_term p G) (pair_items lists k (Some q)) ≡ cond (q.pred == p) (total (G k) (values_of lists q.value)) 0
pair_term lists p k G q = total-map (item_term p G) (λ v. record { entity = k; pred = q.pred; value = v }) (values_of lists q.value) ∙ total-cond (q.pred == p) (G k) (values_of lists q.value)

none_total : (p : ℕ) (r : Row) → total (has_pred p) r ≡ 0 → find_in_row p r ≡ None
none_total p [] z = refl
none_total p (None ∷ r) z = none_total p r (omega arith)
none_total p (Some q ∷ r) z = by (q.pred == p) z (none_total p r)
  where
    by : (b : Bool) → one_if b + total (has_pred p) r ≡ 0 → (total (has_pred p) r ≡ 0 → find_in_row p r ≡ None) → (if b then Some q.value else find_in_row p r) ≡ None
    by true z ih = absurd (omega arith)
    by false z ih = ih (omega arith)

row_term : (lists : ValueLists) (p k : ℕ) (G : ℕ → ℕ → ℕ) (r : Row) → total (has_pred p) r ≤ 1 → total (item_term p G) (flat_map (pair_items lists k) r) ≡ total (G k) (found_values lists (find_in_row p r))
row_term lists p k G [] once = refl
row_term lists p k G (None ∷ r) once = row_term lists p k G r (omega arith)
row_term lists p k G (Some q ∷ r) once =
    total-append (item_term p G) (pair_items lists k (Some q)) (flat_map (pair_items lists k) r)
    ∙ ap (λ (n : ℕ). n + total (item_term p G) (flat_map (pair_items lists k) r)) (pair_term lists p k G q)
    ∙ by (q.pred == p) once (row_term lists p k G r)
  where
    by : (b : Bool) → one_if b + total (has_pred p) r ≤ 1 → (total (has_pred p) r ≤ 1 → total (item_term p G) (flat_map (pair_items lists k) r) ≡ total (G k) (found_values lists (find_in_row p r)))
        → cond b (total (G k) (values_of lists q.value)) 0 + total (item_term p G) (flat_map (pair_items lists k) r) ≡ total (G k) (found_values lists (if b then Some q.value else find_in_row p r))
    by true once ih =
        let z : total (has_pred p) r ≡ 0 = omega arith in
        let n : total (G k) (found_values lists (find_in_row p r)) ≡ 0 = ap (λ (o : Option Value). total (G k) (found_values lists o)) (none_total p r z) in
        let i = ih (omega arith) in
        omega arith
    by false once ih = let i = ih (omega arith) in omega arith

-- no row has a predicate twice
pub each_once : (columns : ColumnsOf) (es : List Entry) (s : SideContents) → SideStands columns es s → (p : ℕ) → AllByRecursion (λ (r : NumberedRow). total (has_pred p) r.pairs ≤ 1) s.rows
each_once columns es s st p =
    each-weaker (λ (r : NumberedRow). (e : ℕ) → (if r.entity == e then total (has_pred p) r.pairs else 0) ≤ 1) (λ (r : NumberedRow). total (has_pred p) r.pairs ≤ 1) (λ r a. own r (a r.entity)) s.rows
    (each-part (λ (e : ℕ) (r : NumberedRow). if r.entity == e then total (has_pred p) r.pairs else 0) (λ (e : ℕ). 1) s.rows (λ (e : ℕ). st.one_pair e p))
  where
    own : (r : NumberedRow) → (if r.entity == r.entity then total (has_pred p) r.pairs else 0) ≤ 1 → total (has_pred p) r.pairs ≤ 1
    own r a = let k : (r.entity == r.entity) ≡ true = grind arith in subst (λ (b : Bool). (if b then total (has_pred p) r.pairs else 0) ≤ 1) k a

pub said_term : (s : SideContents) (p : ℕ) (G : ℕ → ℕ → ℕ) → AllByRecursion (λ (r : NumberedRow). total (has_pred p) r.pairs ≤ 1) s.rows →
    total (item_term p G) (said s) ≡ total (λ (r : NumberedRow). total (G r.entity) (found_values s.lists (find_in_row p r.pairs))) s.rows
said_term s p G once =
    total-flat_map (item_term p G) (λ (r : NumberedRow). flat_map (pair_items s.lists r.entity) r.pairs) s.rows
    ∙ total-each _ _ (λ (r : NumberedRow). total (has_pred p) r.pairs ≤ 1) (λ r h. row_term s.lists p r.entity G r.pairs h) s.rows once

-- a predicate that isn't spilled stands in no row behind the first
pub each_behind : (p : ℕ) (rows : List NumberedRow) → is_spilled_in p rows ≡ false → AllByRecursion (λ (r : NumberedRow). (r.spill == 0) ≡ false → find_in_row p r.pairs ≡ None) rows
each_behind p [] h = tt
each_behind p (r ∷ rows) h =
    let q = or_parts (not (r.spill == 0) && list_any (is_pred p) r.pairs) (is_spilled_in p rows) h in
    (λ (e : (r.spill == 0) ≡ false). none-in_row p r.pairs (free (r.spill == 0) e q.0), each_behind p rows q.1)
  where
    free : (b : Bool) → b ≡ false → (not b && list_any (is_pred p) r.pairs) ≡ false → list_any (is_pred p) r.pairs ≡ false
    free true e h = cc
    free false e h = h
