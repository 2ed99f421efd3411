-- The columns that neighbours have, by the places of the predicates that have them.
use Rattle.std.proofs.Common.{◌≡◌, ◌<◌, ◌≤◌, ◌+◌, ◌⊎◌, inl, inr, ℕ, zero, suc, nat_eq, not, ◌&&◌, ◌||◌, Bool, true, false, List, [], ◌∷◌, ◌++◌, Option, None, Result, Ok, Err, OnOk, length, replicate, refl, sym, ap, ap₂, ◌∙◌, arith, subst}
use Rattle.std.specs.List.{list_any}
use Rattle.std.specs.List.Sorted.{IsStrictlySortedBy}
use Rattle.std.specs.Ordering.{nat_cmp}
use Rattle.std.specs.Map.{keys_of}
use Rattle.std.proofs.lemmas.Bool.{and_parts, cases_lt}
use Rattle.pred_colour_meaning.specs.Interference.{Graph, has, neighbours_of}
use Rattle.pred_colour_meaning.specs.Colouring.{column_of, is_column, is_seen}
use Rattle.pred_colour_meaning.proofs.Steps.{any-same, same_number, column-other, column-new}
use Rattle.pred_colour.specs.Columns.{AreColumns}
use Rattle.pred_colour.specs.GraphRows.{pred_at, row_at, stands_in, others, graph_of, AreBelow, AreRows}
use Rattle.pred_colour.proofs.Found.{same_place, has_place}
use Rattle.pred_colour.proofs.Joins.{and_false}
use Rattle.pred_colour.proofs.Members.{at_self, same_truth, passes, a_member, or_false, tests_of_both_if}
use Rattle.pred_colour.proofs.Neighbourhood.{has_others, neighbours_at, keys_with_rows}

-- a row meets places, its own not among them, just if one of its other predicates stands there
meets_others : (preds row places : List ℕ) (i : ℕ) → IsStrictlySortedBy nat_cmp preds → i < length preds → AreBelow (length preds) row → AreBelow (length preds) places → has i places ≡ false
    → list_any (λ n. has n places) row ≡ list_any (stands_in preds places) (others preds row (pred_at preds i))
meets_others preds row places i s l b d apart = same_truth _ _ forth back
  where
    p : ℕ
    p = pred_at preds i

    another : (n : ℕ) → has n places ≡ true → nat_eq n i ≡ false
    another n h = by (nat_eq n i) refl
      where
        by : (c : Bool) → nat_eq n i ≡ c → c ≡ false
        by true e = let z : true ≡ false = sym h ∙ subst (λ (m : ℕ). has m places ≡ false) (sym (same_number n i e)) apart in z
        by false e = refl

    forth : list_any (λ n. has n places) row ≡ true → list_any (stands_in preds places) (others preds row p) ≡ true
    forth h =
        let m = a_member (λ n. has n places) row h in
        let below : m.0 < length preds = b m.0 m.1 in
        let differs : nat_eq (pred_at preds m.0) p ≡ false = same_place preds m.0 i s below l ∙ another m.0 m.2 in
        let stands : stands_in preds row (pred_at preds m.0) ≡ true = sym (has_place preds row m.0 s below b) ∙ m.1 in
        passes (stands_in preds places) (others preds row p) (pred_at preds m.0)
        (has_others preds row p (pred_at preds m.0) b ∙ ap₂ (λ (x y : Bool). not x && y) differs stands) (sym (has_place preds places m.0 s below d) ∙ m.2)

    back : list_any (stands_in preds places) (others preds row p) ≡ true → list_any (λ n. has n places) row ≡ true
    back h =
        let m = a_member (stands_in preds places) (others preds row p) h in
        let there = (and_parts (not (nat_eq m.0 p)) (stands_in preds row m.0) (sym (has_others preds row p m.0 b) ∙ m.1)).1 in
        let j = a_member (λ j. nat_eq m.0 (pred_at preds j)) row there in
        passes (λ n. has n places) row j.0 j.1
        (has_place preds places j.0 s (b j.0 j.1) d ∙ subst (λ (q : ℕ). stands_in preds places q ≡ true) (same_number m.0 (pred_at preds j.0) j.2) m.2)

-- so it does in a graph of rows
pub neighbour_there : (preds : List ℕ) (rows : List (List ℕ)) (g : Graph) (i : ℕ) (places : List ℕ) → graph_of preds rows ≡ g → AreRows preds rows → i < length (keys_of g) → AreBelow (length (keys_of g)) places → has i places ≡ false
    → list_any (λ n. has n places) (row_at rows i) ≡ list_any (stands_in (keys_of g) places) (neighbours_of g (pred_at (keys_of g) i))
neighbour_there preds rows g i places is r = subst Claim is (subst (Of (graph_of preds rows)) (sym keys) (λ l d apart. meets_others preds (row_at rows i) places i r.rising l (r.below i) d apart
    ∙ ap (list_any (stands_in preds places)) (sym (neighbours_at preds preds rows i r.rising r.count l))))
  where
    keys : keys_of (graph_of preds rows) ≡ preds
    keys = keys_with_rows preds preds rows r.count

    Of : Graph → List ℕ → Type 0
    Of h ks = i < length ks → AreBelow (length ks) places → has i places ≡ false → list_any (λ n. has n places) (row_at rows i) ≡ list_any (stands_in ks places) (neighbours_of h (pred_at ks i))

    Claim : Graph → Type 0
    Claim h = Of h (keys_of h)

-- the own place of a predicate with no column is nowhere
pub own_place : (preds : List ℕ) (k : ℕ) (given : List (ℕ × ℕ)) (sets : List (List ℕ)) (i c : ℕ) → AreColumns preds k given sets → c < k → column_of given (pred_at preds i) ≡ None → has i (row_at sets c) ≡ false
own_place preds k given sets i c a w free = by (has i (row_at sets c)) refl
  where
    by : (b : Bool) → has i (row_at sets c) ≡ b → b ≡ false
    by true h = sym (passes (λ j. nat_eq (pred_at preds i) (pred_at preds j)) (row_at sets c) i h (at_self (pred_at preds i))) ∙ a.stand c (pred_at preds i) w ∙ ap (is_column c) free
    by false h = refl

-- a neighbour that stands at a column's places has the column
pub seen_there : (preds : List ℕ) (k : ℕ) (given : List (ℕ × ℕ)) (sets : List (List ℕ)) (g : Graph) (p c : ℕ) → AreColumns preds k given sets → c < k
    → list_any (stands_in preds (row_at sets c)) (neighbours_of g p) ≡ is_seen g given p c
seen_there preds k given sets g p c a w = any-same (stands_in preds (row_at sets c)) (λ q. is_column c (column_of given q)) (λ q. a.stand c q w) (neighbours_of g p)

-- one more column is seen
pub seen_more : (seen : ℕ → Bool) (n : ℕ) → ((c : ℕ) → c < n → seen c ≡ true) → seen n ≡ true → (c : ℕ) → c < n + 1 → seen c ≡ true
seen_more seen n before last c l = by (cases_lt c n)
  where
    by : (c < n) ⊎ (n ≤ c) → seen c ≡ true
    by (inl b) = before c b
    by (inr b) = let e : n ≡ c = omega arith in subst (λ (m : ℕ). seen m ≡ true) e last

none_at : (k c : ℕ) → row_at (replicate k []) c ≡ []
none_at zero c = refl
none_at (suc k) zero = refl
none_at (suc k) (suc c) = none_at k c

-- before any column is given
pub no_columns : (preds : List ℕ) (k : ℕ) (given : List (ℕ × ℕ)) (sets : List (List ℕ)) → given ≡ [] → sets ≡ replicate k [] → AreColumns preds k given sets
no_columns preds k given sets g s = rw (g, s) (record {
  count = length_replicate k;
  below = λ c j h. let z : false ≡ true = sym (ap (has j) (none_at k c)) ∙ h in cc;
  stand = λ c q w. ap (λ (places : List ℕ). stands_in preds places q) (none_at k c);
})
  where
    length_replicate : (n : ℕ) → length (replicate {A = List ℕ} n []) ≡ n
    length_replicate zero = refl
    length_replicate (suc n) = ap suc (length_replicate n)

-- the predicate at a place has taken a column
pub column_given : (preds : List ℕ) (k : ℕ) (given after : List (ℕ × ℕ)) (sets new : List (List ℕ)) (i p c : ℕ) → AreColumns preds k given sets → i < length preds → pred_at preds i ≡ p → column_of given p ≡ None
    → after ≡ given ++ (p, c) ∷ [] → length new ≡ length sets → ((d n : ℕ) → has n (row_at new d) ≡ (has n (row_at sets d) || (nat_eq d c && nat_eq n i))) → AreColumns preds k after new
column_given preds k given after sets new i p c a l at free made count more = rw made (record { count = count ∙ a.count; below = below; stand = stand })
  where
    below : (d : ℕ) → AreBelow (length preds) (row_at new d)
    below d n h = by (has n (row_at sets d)) refl (nat_eq n i) refl (sym (more d n) ∙ h)
      where
        by : (x : Bool) → has n (row_at sets d) ≡ x → (y : Bool) → nat_eq n i ≡ y → (x || (nat_eq d c && y)) ≡ true → n < length preds
        by true e y f k = a.below d n e
        by false e true f k = let m : n ≡ i = same_number n i f in subst (λ (z : ℕ). z < length preds) (sym m) l
        by false e false f k = let z : false ≡ true = sym (and_false (nat_eq d c)) ∙ k in cc

    stand : (d q : ℕ) → d < k → stands_in preds (row_at new d) q ≡ is_column d (column_of (given ++ (p, c) ∷ []) q)
    stand d q w =
        tests_of_both_if (λ j. nat_eq q (pred_at preds j)) (row_at new d) (row_at sets d) (i ∷ []) (nat_eq d c)
        (λ n. more d n ∙ ap (λ (b : Bool). has n (row_at sets d) || (nat_eq d c && b)) (sym (or_false (nat_eq n i))))
        ∙ ap₂ (λ (a b : Bool). a || (nat_eq d c && b)) (a.stand d q w) (or_false (nat_eq q (pred_at preds i)) ∙ ap (nat_eq q) at) ∙ by (nat_eq q p) refl
      where
        by : (b : Bool) → nat_eq q p ≡ b → (is_column d (column_of given q) || (nat_eq d c && nat_eq q p)) ≡ is_column d (column_of (given ++ (p, c) ∷ []) q)
        by true e = subst (λ (r : ℕ). (is_column d (column_of given r) || (nat_eq d c && nat_eq r p)) ≡ is_column d (column_of (given ++ (p, c) ∷ []) r)) (sym (same_number q p e)) own
          where
            same : nat_eq p p ≡ true
            same = grind arith

            whole : (b : Bool) → (b && true) ≡ b
            whole true = refl
            whole false = refl

            own : (is_column d (column_of given p) || (nat_eq d c && nat_eq p p)) ≡ is_column d (column_of (given ++ (p, c) ∷ []) p)
            own = ap₂ (λ (o : Option ℕ) (b : Bool). is_column d o || (nat_eq d c && b)) free same ∙ whole (nat_eq d c) ∙ ap (is_column d) (sym (column-new p c given free))
        by false e =
            ap (λ (b : Bool). is_column d (column_of given q) || (nat_eq d c && b)) e ∙ ap (λ (b : Bool). is_column d (column_of given q) || b) (and_false (nat_eq d c)) ∙ or_false (is_column d (column_of given q))
            ∙ ap (is_column d) (sym (column-other q p c given e))

-- so it is if the call that gave it succeeded
pub column_given_if : {T E : Type 0} (r : Result T E) (preds : List ℕ) (k : ℕ) (given after : List (ℕ × ℕ)) (sets new : List (List ℕ)) (i p c : ℕ) → AreColumns preds k given sets → i < length preds → pred_at preds i ≡ p
    → column_of given p ≡ None → OnOk r (after ≡ given ++ (p, c) ∷ []) → OnOk r (length new ≡ length sets)
    → OnOk r ((d n : ℕ) → has n (row_at new d) ≡ (has n (row_at sets d) || (nat_eq d c && nat_eq n i))) → OnOk r (AreColumns preds k after new)
column_given_if (Ok x) preds k given after sets new i p c a l at free made count more = column_given preds k given after sets new i p c a l at free made count more
column_given_if (Err e) preds k given after sets new i p c a l at free made count more = tt
