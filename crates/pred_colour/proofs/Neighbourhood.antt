-- The neighbours in a graph of rows.
use Rattle.std.proofs.Common.{◌≡◌, ◌<◌, ℕ, zero, suc, nat_eq, not, ◌&&◌, Bool, true, false, List, [], ◌∷◌, map, get_or, length, Less, refl, sym, ap, ◌∙◌, arith, subst}
use Rattle.std.specs.List.{list_any, filter, AllByRecursion, IsDistinct}
use Rattle.std.specs.List.Sorted.{IsStrictlySortedBy}
use Rattle.std.specs.Ordering.{nat_cmp}
use Rattle.std.specs.BTreeMap.{is_at}
use Rattle.std.specs.Map.{keys_of}
use Rattle.std.proofs.lemmas.Bool.{and_parts, or_left, or_right, or_parts}
use Rattle.std.proofs.lemmas.List.{get_or_default}
use Rattle.std.proofs.lemmas.List.Elements.{All-from_recursion}
use Rattle.std.proofs.lemmas.List.Folds.{list_any_at, Any-from_list_any}
use Rattle.std.proofs.lemmas.List.Kept.{IsStrictlySortedBy-filter}
use Rattle.std.proofs.lemmas.Map.Keys.{below_from_sorted, Less-from_sorted, IsDistinct-from_apart}
use Rattle.std.proofs.lemmas.Map.Views.{any-filter_same}
use Rattle.pred_colour_meaning.specs.Interference.{Graph, has, neighbours_of, interfere, IsInterference}
use Rattle.pred_colour_meaning.proofs.Steps.{same_number, at_itself, at_other}
use Rattle.pred_colour.specs.Entities.{are_joined}
use Rattle.pred_colour.specs.GraphRows.{pred_at, row_at, is_other, others, with_rows, graph_of, AreBelow, AreRows}
use Rattle.pred_colour.proofs.Joins.{any-map, interfering, none_joined}
use Rattle.pred_colour.proofs.Members.{a_member, same_rising}

below_tail : (n j : ℕ) (js : List ℕ) → AreBelow n (j ∷ js) → AreBelow n js
below_tail n j js b k h = b k (or_right (nat_eq k j) (has k js) h)

below_head : (n j : ℕ) (js : List ℕ) → AreBelow n (j ∷ js) → j < n
below_head n j js b = b j (let e : nat_eq j j ≡ true = grind arith in or_left (nat_eq j j) (has j js) e)

less : (j k : ℕ) → nat_cmp j k ≡ Less → j < k
less j k h = grind arith

-- rising numbers at rising places rise
rising_at : (xs places : List ℕ) → IsStrictlySortedBy nat_cmp xs → IsStrictlySortedBy nat_cmp places → AreBelow (length xs) places → IsStrictlySortedBy nat_cmp (map (pred_at xs) places)
unfolding IsStrictlySortedBy
rising_at xs [] s r b = tt
rising_at xs (j ∷ js) s r b = (each js r.0 (below_tail (length xs) j js b), rising_at xs js s r.1 (below_tail (length xs) j js b))
  where
    each : (ks : List ℕ) → AllByRecursion (λ y. nat_cmp j y ≡ Less) ks → AreBelow (length xs) ks → AllByRecursion (λ y. nat_cmp (pred_at xs j) y ≡ Less) (map (pred_at xs) ks)
    each [] a b = tt
    each (k ∷ ks) a b = (Less-from_sorted nat_cmp xs j k 0 s (less j k a.0) (below_head (length xs) k ks b), each ks a.1 (below_tail (length xs) k ks b))

has_filter : (t : ℕ → Bool) (q : ℕ) (xs : List ℕ) → has q (filter t xs) ≡ (t q && has q xs)
has_filter t q xs = any-filter_same (nat_eq q) t (t q) (λ k h. ap t (sym (same_number q k h))) xs

implied : (a b : Bool) → (a ≡ true → b ≡ true) → (a && b) ≡ a
implied true b f = f refl
implied false b f = refl

pub has_others : (preds places : List ℕ) (p q : ℕ) → AreBelow (length preds) places → has q (others preds places p) ≡ is_other preds places p q
has_others preds places p q b =
    has_filter (is_other preds places p) q preds ∙ implied (is_other preds places p q) (has q preds) (λ h.
    let m = a_member (λ j. nat_eq q (pred_at preds j)) places (and_parts (not (nat_eq q p)) (list_any (λ j. nat_eq q (pred_at preds j)) places) h).1 in
    list_any_at (nat_eq q) preds m.0 0 (b m.0 m.1) m.2)

-- the predicates at rising places
pub others_at : (preds places : List ℕ) (p : ℕ) → IsStrictlySortedBy nat_cmp preds → IsStrictlySortedBy nat_cmp places → AreBelow (length preds) places
    → filter (λ q. not (nat_eq q p)) (map (pred_at preds) places) ≡ others preds places p
others_at preds places p s r b =
    same_rising _ _ (IsStrictlySortedBy-filter nat_cmp (λ q. not (nat_eq q p)) (map (pred_at preds) places) (rising_at preds places s r b))
    (IsStrictlySortedBy-filter nat_cmp (is_other preds places p) preds s) members
  where
    members : (q : ℕ) → has q (filter (λ q. not (nat_eq q p)) (map (pred_at preds) places)) ≡ has q (others preds places p)
    members q =
        has_filter (λ q. not (nat_eq q p)) q (map (pred_at preds) places) ∙ ap (λ (x : Bool). not (nat_eq q p) && x) (any-map (nat_eq q) (pred_at preds) places) ∙ sym (has_others preds places p q b)

pub keys_with_rows : (all preds : List ℕ) (rows : List (List ℕ)) → length rows ≡ length preds → keys_of (with_rows all preds rows) ≡ preds
keys_with_rows all [] rows e = refl
keys_with_rows all (p ∷ preds) [] e = absurd (omega arith)
keys_with_rows all (p ∷ preds) (row ∷ rows) e = ap (λ (ks : List ℕ). p ∷ ks) (keys_with_rows all preds rows (omega arith))

pub preds_are_keys : (preds : List ℕ) (rows : List (List ℕ)) (g : Graph) → graph_of preds rows ≡ g → length rows ≡ length preds → preds ≡ keys_of g
preds_are_keys preds rows g is count = sym (keys_with_rows preds preds rows count) ∙ ap keys_of is

-- the neighbours of the predicate at a place
pub neighbours_at : (all preds : List ℕ) (rows : List (List ℕ)) (i : ℕ) → IsStrictlySortedBy nat_cmp preds → length rows ≡ length preds → i < length preds
    → neighbours_of (with_rows all preds rows) (pred_at preds i) ≡ others all (row_at rows i) (pred_at preds i)
unfolding IsStrictlySortedBy
neighbours_at all [] rows i s e l = absurd (omega arith)
neighbours_at all (p ∷ preds) [] i s e l = absurd (omega arith)
neighbours_at all (p ∷ preds) (row ∷ rows) zero s e l = rw (at_itself p) refl
neighbours_at all (p ∷ preds) (row ∷ rows) (suc i) s e l =
    let k : i < length preds = omega arith in
    let h : nat_cmp p (pred_at preds i) ≡ Less = All-from_recursion (λ y. nat_cmp p y ≡ Less) preds s.0 i 0 k in
    let f : is_at (nat_cmp (pred_at preds i)) p ≡ false = grind arith in
    rw f (neighbours_at all preds rows i s.1 (omega arith) k)

-- what isn't a predicate has none
pub neighbours_of_none : (all preds : List ℕ) (rows : List (List ℕ)) (p : ℕ) → has p preds ≡ false → neighbours_of (with_rows all preds rows) p ≡ []
neighbours_of_none all [] rows p h = refl
neighbours_of_none all (q ∷ preds) [] p h = refl
neighbours_of_none all (q ∷ preds) (row ∷ rows) p h =
    let e = or_parts (nat_eq p q) (has p preds) h in
    rw (at_other p q e.0) (neighbours_of_none all preds rows p e.1)

place : (preds : List ℕ) (p : ℕ) → has p preds ≡ true → (i : ℕ) × (i < length preds) × (pred_at preds i ≡ p)
place preds p h = let m = Any-from_list_any (nat_eq p) preds h in (m.0, m.2, get_or_default preds m.0 0 m.1 m.2 ∙ m.3 ∙ sym (same_number p m.1 m.4))

distinct : (xs : List ℕ) → IsStrictlySortedBy nat_cmp xs → IsDistinct nat_eq xs
distinct xs s = IsDistinct-from_apart nat_eq xs (λ i j d l m. let b : get_or xs i d < get_or xs j d = below_from_sorted xs i j d s l m in grind arith)

none_twice : IsDistinct nat_eq []
unfolding IsDistinct
none_twice = tt

-- rows in which those are joined that some entity has make the graph of those that interfere
pub interferes : (entities : List (List ℕ)) (preds : List ℕ) (rows : List (List ℕ)) → AreRows preds rows → ((p : ℕ) → has p preds ≡ list_any (has p) entities)
    → ((i q : ℕ) → i < length preds → is_other preds (row_at rows i) (pred_at preds i) q ≡ list_any (are_joined (pred_at preds i) q) entities)
    → IsInterference entities (graph_of preds rows)
interferes entities preds rows r all joined = record {
  rising = rw keys r.rising;
  preds = λ p. ap (has p) keys ∙ all p;
  once = λ p. once p (has p preds) refl;
  joined = λ p q. both p q (has p preds) refl;
}
  where
    keys : keys_of (graph_of preds rows) ≡ preds
    keys = keys_with_rows preds preds rows r.count

    at : (i : ℕ) → i < length preds → neighbours_of (graph_of preds rows) (pred_at preds i) ≡ others preds (row_at rows i) (pred_at preds i)
    at i l = neighbours_at preds preds rows i r.rising r.count l

    once : (p : ℕ) (b : Bool) → has p preds ≡ b → IsDistinct nat_eq (neighbours_of (graph_of preds rows) p)
    once p true h =
        let m = place preds p h in
        subst (λ (s : ℕ). IsDistinct nat_eq (neighbours_of (graph_of preds rows) s)) m.2
        (subst (λ (xs : List ℕ). IsDistinct nat_eq xs) (sym (at m.0 m.1)) (distinct _ (IsStrictlySortedBy-filter nat_cmp (is_other preds (row_at rows m.0) (pred_at preds m.0)) preds r.rising)))
    once p false h = subst (λ (xs : List ℕ). IsDistinct nat_eq xs) (sym (neighbours_of_none preds preds rows p h)) none_twice

    both : (p q : ℕ) (b : Bool) → has p preds ≡ b → has q (neighbours_of (graph_of preds rows) p) ≡ interfere entities p q
    both p q true h =
        let m = place preds p h in
        subst (λ (s : ℕ). has q (neighbours_of (graph_of preds rows) s) ≡ interfere entities s q) m.2
        (ap (has q) (at m.0 m.1) ∙ has_others preds (row_at rows m.0) (pred_at preds m.0) q (r.below m.0) ∙ joined m.0 q m.1 ∙ interfering (pred_at preds m.0) q entities)
    both p q false h = ap (has q) (neighbours_of_none preds preds rows p h) ∙ sym (sym (interfering p q entities) ∙ none_joined p q entities (sym (all p) ∙ h))
