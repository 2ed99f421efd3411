-- What a change keeps of the rows of one entity, and of all entries of a map.
use Rattle.std.proofs.Common.{◌≡◌, ℕ, zero, suc, ◌+◌, ◌≤◌, ◌<◌, ◌==◌, nat_eq, ◌||◌, Bool, true, false, cond, if◌then◌else◌, is_some, List, [], ◌∷◌, ◌++◌, Option, Some, None, length, replicate, arith, refl, ap, subst, ◌∙◌, Ordering, Less, Equal, Greater}
use Rattle.std.specs.List.{list_any, AllByRecursion}
use Rattle.std.proofs.lemmas.List.{length_push}
use Rattle.std.specs.Ordering.{nat_cmp, match_ordering}
use Rattle.std.specs.BTreeMap.{is_at, insert_entry}
use Rattle.std.specs.Map.{lookup, set_value, remove_entry}
use Rattle.bags.specs.Bag.{total}
use Rattle.layout_meaning.specs.Side.{Value, Pair, or_empty, rows_of, find_in_row, find, or_else, all_free, write_in_row, write, free_at, put_at, first_free, first_of, put_or, place_new, put_by, with_rows}
use Rattle.layout_meaning.specs.Sound.{one_if, has_pred, times, AreSoundRows, IsSoundList}
use Rattle.layout_meaning.proofs.RowSums.{write-total, place_new-total, first_free-is, free_row}
use Rattle.layout_meaning.proofs.Sums.{total-append}

-- all values of a map after a change
pub All-insert : {X : Type 0} (P : X → Type 0) (n : ℕ) (w : X) (es : List (ℕ × X)) → P w → AllByRecursion (λ (e : ℕ × X). P e.1) es → AllByRecursion (λ (e : ℕ × X). P e.1) (insert_entry nat_cmp es n w)
All-insert P n w [] p h = (p, tt)
All-insert {X} P n w (e ∷ es) p h = by (All-insert P n w es p h.1) (nat_cmp n e.0)
  where
    by : AllByRecursion (λ (e : ℕ × X). P e.1) (insert_entry nat_cmp es n w) → (o : Ordering) → AllByRecursion (λ (e : ℕ × X). P e.1) (match_ordering o ((n, w) ∷ e ∷ es) ((e.0, w) ∷ es) (e ∷ insert_entry nat_cmp es n w))
    by ih Less = (p, h)
    by ih Equal = (p, h.1)
    by ih Greater = (h.0, ih)

pub All-set : {X : Type 0} (P : X → Type 0) (n : ℕ) (w : X) (es : List (ℕ × X)) → P w → AllByRecursion (λ (e : ℕ × X). P e.1) es → AllByRecursion (λ (e : ℕ × X). P e.1) (set_value (is_at (nat_cmp n)) es w)
All-set P n w [] p h = tt
All-set {X} P n w (e ∷ es) p h = by (All-set P n w es p h.1) (is_at (nat_cmp n) e.0)
  where
    by : AllByRecursion (λ (e : ℕ × X). P e.1) (set_value (is_at (nat_cmp n)) es w) → (b : Bool) → AllByRecursion (λ (e : ℕ × X). P e.1) (cond b ((e.0, w) ∷ es) (e ∷ set_value (is_at (nat_cmp n)) es w))
    by ih true = (p, h.1)
    by ih false = (h.0, ih)

pub All-remove : {X : Type 0} (P : X → Type 0) (n : ℕ) (es : List (ℕ × X)) → AllByRecursion (λ (e : ℕ × X). P e.1) es → AllByRecursion (λ (e : ℕ × X). P e.1) (remove_entry (is_at (nat_cmp n)) es)
All-remove P n [] h = tt
All-remove {X} P n (e ∷ es) h = by (All-remove P n es h.1) (is_at (nat_cmp n) e.0)
  where
    by : AllByRecursion (λ (e : ℕ × X). P e.1) (remove_entry (is_at (nat_cmp n)) es) → (b : Bool) → AllByRecursion (λ (e : ℕ × X). P e.1) (cond b es (e ∷ remove_entry (is_at (nat_cmp n)) es))
    by ih true = h.1
    by ih false = (h.0, ih)

pub All-found : {X : Type 0} (P : X → Type 0) (n : ℕ) (w : X) (es : List (ℕ × X)) → AllByRecursion (λ (e : ℕ × X). P e.1) es → lookup (is_at (nat_cmp n)) es ≡ Some w → P w
All-found P n w [] h t = absurd (cc)
All-found {X} P n w (e ∷ es) h t = by (All-found P n w es h.1) (is_at (nat_cmp n) e.0) t
  where
    by : (lookup (is_at (nat_cmp n)) es ≡ Some w → P w) → (b : Bool) → cond b (Some e.1) (lookup (is_at (nat_cmp n)) es) ≡ Some w → P w
    by ih true t = let d : e.1 ≡ w = cc in subst P d h.0
    by ih false t = ih t

-- the rows of each entity, where the new rows of one are sound or none
pub All-with_rows : (P : List (List (Option Pair)) → Type 0) (ents : List (ℕ × List (List (Option Pair)))) (e : ℕ) (new : List (List (Option Pair)))
    → AllByRecursion (λ (en : ℕ × List (List (Option Pair))). P en.1) ents → (0 < length new → P new) → (lookup (is_at (nat_cmp e)) ents ≡ None → P new)
    → AllByRecursion (λ (en : ℕ × List (List (Option Pair))). P en.1) (with_rows ents e new)
All-with_rows P ents e new h some none = by (lookup (is_at (nat_cmp e)) ents) refl new some none
  where
    by : (o : Option (List (List (Option Pair)))) → lookup (is_at (nat_cmp e)) ents ≡ o → (new : List (List (Option Pair))) → (0 < length new → P new) → (lookup (is_at (nat_cmp e)) ents ≡ None → P new)
        → AllByRecursion (λ (en : ℕ × List (List (Option Pair))). P en.1) (put_by o ents e new)
    by None t new some none = All-insert P e new ents (none t) h
    by (Some old) t [] some none = All-remove P e ents h
    by (Some old) t (r ∷ rs) some none = All-set P e (r ∷ rs) ents (some (omega arith)) h

-- rows that are sound but for there being some
pub record RowsFit (k : ℕ) (rows : List (List (Option Pair))) : Type 0 where
  pub wide : AllByRecursion (λ (r : List (Option Pair)). length r ≡ k) rows
  pub full : AllByRecursion (λ (r : List (Option Pair)). all_free r ≡ false) rows
  pub once : (p : ℕ) → total (total (has_pred p)) rows ≤ 1

pub rows_fit : (k e : ℕ) (ents : List (ℕ × List (List (Option Pair)))) → AllByRecursion (λ (en : ℕ × List (List (Option Pair))). AreSoundRows k en.1) ents → RowsFit k (rows_of ents e)
rows_fit k e ents h = by (lookup (is_at (nat_cmp e)) ents) refl
  where
    by : (o : Option (List (List (Option Pair)))) → lookup (is_at (nat_cmp e)) ents ≡ o → RowsFit k (or_empty o)
    by None t = record { wide = tt; full = tt; once = λ p. omega arith }
    by (Some rs) t = let s = All-found (AreSoundRows k) e rs ents h t in record { wide = s.wide; full = s.full; once = s.once }

pub length-put_at : (r : List (Option Pair)) (c : ℕ) (new : Option Pair) → length (put_at r c new) ≡ length r
length-put_at [] c new = refl
length-put_at (o ∷ r) zero new = refl
length-put_at (o ∷ r) (suc c) new = omega (arith, length-put_at r c new)

pub length-free : (k : ℕ) → length {A = Option Pair} (replicate k None) ≡ k
length-free zero = refl
length-free (suc k) = omega (arith, length-free k)

pub full-put_at : (r : List (Option Pair)) (c : ℕ) (pair : Pair) → free_at r c ≡ true → all_free (put_at r c (Some pair)) ≡ false
full-put_at [] c pair h = cc
full-put_at (o ∷ r) zero pair h = refl
full-put_at (None ∷ r) (suc c) pair h = full-put_at r c pair h
full-put_at (Some q ∷ r) (suc c) pair h = refl

pub length-write_in_row : (p : ℕ) (new : Option Pair) (r : List (Option Pair)) → length (write_in_row p new r) ≡ length r
length-write_in_row p new [] = refl
length-write_in_row p new (None ∷ r) = omega (arith, length-write_in_row p new r)
length-write_in_row p new (Some q ∷ r) = by (length-write_in_row p new r) (q.pred == p)
  where
    by : length (write_in_row p new r) ≡ length r → (b : Bool) → length (if b then new ∷ r else Some q ∷ write_in_row p new r) ≡ length (Some q ∷ r)
    by ih true = refl
    by ih false = omega arith

pub some-place_new : (k : ℕ) (cs : List ℕ) (pair : Pair) (rs : List (List (Option Pair))) → 0 < length (place_new k cs pair rs)
some-place_new k cs pair [] = omega arith
some-place_new k cs pair (r ∷ rs) = by (first_free r cs)
  where
    by : (o : Option ℕ) → 0 < length (put_or o r pair rs (place_new k cs pair rs))
    by None = omega arith
    by (Some c) = omega arith

pub wide-place_new : (k : ℕ) (cs : List ℕ) (pair : Pair) (rs : List (List (Option Pair))) → AllByRecursion (λ (r : List (Option Pair)). length r ≡ k) rs → AllByRecursion (λ (r : List (Option Pair)). length r ≡ k) (place_new k cs pair rs)
wide-place_new k cs pair [] h = (length-put_at (replicate k None) (first_of cs) (Some pair) ∙ length-free k, tt)
wide-place_new k cs pair (r ∷ rs) h = by (wide-place_new k cs pair rs h.1) (first_free r cs)
  where
    by : AllByRecursion (λ (r : List (Option Pair)). length r ≡ k) (place_new k cs pair rs) → (o : Option ℕ) → AllByRecursion (λ (r : List (Option Pair)). length r ≡ k) (put_or o r pair rs (place_new k cs pair rs))
    by ih None = (h.0, ih)
    by ih (Some c) = (length-put_at r c (Some pair) ∙ h.0, h.1)

pub full-place_new : (k : ℕ) (cs : List ℕ) (pair : Pair) (rs : List (List (Option Pair))) → first_of cs < k → AllByRecursion (λ (r : List (Option Pair)). all_free r ≡ false) rs → AllByRecursion (λ (r : List (Option Pair)). all_free r ≡ false) (place_new k cs pair rs)
full-place_new k cs pair [] first h = (full-put_at (replicate k None) (first_of cs) pair (free_row k (first_of cs) first), tt)
full-place_new k cs pair (r ∷ rs) first h = by (full-place_new k cs pair rs first h.1) (first_free r cs) refl
  where
    by : AllByRecursion (λ (r : List (Option Pair)). all_free r ≡ false) (place_new k cs pair rs) → (o : Option ℕ) → first_free r cs ≡ o → AllByRecursion (λ (r : List (Option Pair)). all_free r ≡ false) (put_or o r pair rs (place_new k cs pair rs))
    by ih None t = (h.0, ih)
    by ih (Some c) t = (full-put_at r c pair (first_free-is r cs c t), h.1)

pub find_in_row-none : (p : ℕ) (r : List (Option Pair)) → find_in_row p r ≡ None → total (has_pred p) r ≡ 0
find_in_row-none p [] h = refl
find_in_row-none p (None ∷ r) h = omega (arith, find_in_row-none p r h)
find_in_row-none p (Some q ∷ r) h = by (find_in_row-none p r) (q.pred == p) h
  where
    by : (find_in_row p r ≡ None → total (has_pred p) r ≡ 0) → (b : Bool) → (if b then Some q.value else find_in_row p r) ≡ None → one_if b + total (has_pred p) r ≡ 0
    by ih true h = cc
    by ih false h = omega (arith, ih h)

pub find-none : (p : ℕ) (rs : List (List (Option Pair))) → find p rs ≡ None → total (total (has_pred p)) rs ≡ 0
find-none p [] h = refl
find-none p (r ∷ rs) h = by (find-none p rs) (find_in_row p r) refl h
  where
    by : (find p rs ≡ None → total (total (has_pred p)) rs ≡ 0) → (o : Option Value) → find_in_row p r ≡ o → or_else o (find p rs) ≡ None → total (has_pred p) r + total (total (has_pred p)) rs ≡ 0
    by ih None t h = omega (arith, ih h, find_in_row-none p r t)
    by ih (Some v) t h = cc

-- 1 where two numbers are one, given what holds of one of them
pub at_most : (p q n : ℕ) (times : ℕ → ℕ) → times q ≤ 1 → times p ≡ 0 → n ≡ times q + one_if (p == q) → n ≤ 1
at_most p q n times a z e = by (p == q) refl
  where
    by : (b : Bool) → (p == q) ≡ b → n ≤ 1
    by true t =
        let k : p ≡ q = grind arith in
        let c : times p ≡ times q = ap times k in
        let d : one_if (p == q) ≡ 1 = ap one_if t in
        omega arith
    by false t = let d : one_if (p == q) ≡ 0 = ap one_if t in omega arith

pub place_new-sound : (k : ℕ) (cs : List ℕ) (pair : Pair) (rs : List (List (Option Pair))) → first_of cs < k → RowsFit k rs → find pair.pred rs ≡ None → AreSoundRows k (place_new k cs pair rs)
place_new-sound k cs pair rs first h none = record {
  some = some-place_new k cs pair rs;
  wide = wide-place_new k cs pair rs h.wide;
  full = full-place_new k cs pair rs first h.full;
  once = λ (q : ℕ). at_most pair.pred q (total (total (has_pred q)) (place_new k cs pair rs)) (λ (p : ℕ). total (total (has_pred p)) rs) (h.once q) (find-none pair.pred rs none) (place_new-total (has_pred q) k cs pair rs refl first);
}

pub wide-write : (k p : ℕ) (new : Option Pair) (rs : List (List (Option Pair))) → AllByRecursion (λ (r : List (Option Pair)). length r ≡ k) rs → AllByRecursion (λ (r : List (Option Pair)). length r ≡ k) (write p new rs)
wide-write k p new [] h = tt
wide-write k p new (r ∷ rs) h = by (wide-write k p new rs h.1) (is_some (find_in_row p r)) (all_free (write_in_row p new r))
  where
    by : AllByRecursion (λ (r : List (Option Pair)). length r ≡ k) (write p new rs) → (b c : Bool) → AllByRecursion (λ (r : List (Option Pair)). length r ≡ k) (if b then (if c then rs else write_in_row p new r ∷ rs) else r ∷ write p new rs)
    by ih true true = h.1
    by ih true false = (length-write_in_row p new r ∙ h.0, h.1)
    by ih false c = (h.0, ih)

pub full-write : (p : ℕ) (new : Option Pair) (rs : List (List (Option Pair))) → AllByRecursion (λ (r : List (Option Pair)). all_free r ≡ false) rs → AllByRecursion (λ (r : List (Option Pair)). all_free r ≡ false) (write p new rs)
full-write p new [] h = tt
full-write p new (r ∷ rs) h = by (full-write p new rs h.1) (is_some (find_in_row p r)) (all_free (write_in_row p new r)) refl
  where
    by : AllByRecursion (λ (r : List (Option Pair)). all_free r ≡ false) (write p new rs) → (b c : Bool) → all_free (write_in_row p new r) ≡ c → AllByRecursion (λ (r : List (Option Pair)). all_free r ≡ false) (if b then (if c then rs else write_in_row p new r ∷ rs) else r ∷ write p new rs)
    by ih true true t = h.1
    by ih true false t = (t, h.1)
    by ih false c t = (h.0, ih)

-- the pair of a predicate becomes another of it, or none
pub write-sound : (k p : ℕ) (new : Option Pair) (v : Value) (rs : List (List (Option Pair))) → RowsFit k rs → find p rs ≡ Some v → ((q : ℕ) → has_pred q new ≤ one_if (p == q)) → 0 < length (write p new rs) → AreSoundRows k (write p new rs)
write-sound k p new v rs h found less some = record {
  some = some;
  wide = wide-write k p new rs h.wide;
  full = full-write p new rs h.full;
  once = λ (q : ℕ). (let a = write-total (has_pred q) p new v rs refl found in let b = less q in let c = h.once q in omega arith);
}

-- lists
pub times-none : (v : ℕ) (xs : List ℕ) → list_any (nat_eq v) xs ≡ false → times v xs ≡ 0
times-none v [] h = refl
times-none v (x ∷ xs) h = by (times-none v xs) (nat_eq v x) refl (x == v) refl h
  where
    by : (list_any (nat_eq v) xs ≡ false → times v xs ≡ 0) → (b : Bool) → nat_eq v x ≡ b → (c : Bool) → (x == v) ≡ c → (b || list_any (nat_eq v) xs) ≡ false → one_if c + times v xs ≡ 0
    by ih true t c u h = cc
    by ih false t true u h = absurd (grind arith)
    by ih false t false u h = omega (arith, ih h)

pub more-sound : (v : ℕ) (xs : List ℕ) → IsSoundList xs → list_any (nat_eq v) xs ≡ false → IsSoundList (xs ++ v ∷ [])
more-sound v xs h none = record {
  two = longer xs h.two;
  once = λ (w : ℕ). at_most v w (times w (xs ++ v ∷ [])) (λ (z : ℕ). times z xs) (h.once w) (times-none v xs none) (omega (arith, total-append (λ (z : ℕ). one_if (z == w)) xs (v ∷ [])));
}
  where
    longer : (xs : List ℕ) → 2 ≤ length xs → 2 ≤ length (xs ++ v ∷ [])
    longer xs h = omega (arith, length_push xs v)

pub two-sound : (v w : ℕ) → (nat_eq v w || false) ≡ false → IsSoundList (w ∷ v ∷ [])
two-sound v w apart = record {
  two = omega arith;
  once = λ (z : ℕ). at_most v z (times z (w ∷ v ∷ [])) (λ (z : ℕ). times z (w ∷ [])) (small z) (times-none v (w ∷ []) apart) (omega arith);
}
  where
    small : (z : ℕ) → one_if (w == z) + 0 ≤ 1
    small z = by (w == z)
      where
        by : (b : Bool) → one_if b + 0 ≤ 1
        by true = omega arith
        by false = omega arith

pub length-total : (xs : List ℕ) → total (λ (z : ℕ). 1) xs ≡ length xs
length-total [] = refl
length-total (x ∷ xs) = omega (arith, length-total xs)
