-- Placing an item and taking it back.
use Rattle.std.proofs.Common.{◌≡◌, ℕ, zero, suc, ◌<◌, ◌==◌, nat_eq, ◌||◌, Bool, true, false, cond, if◌then◌else◌, is_some, List, [], ◌∷◌, ◌++◌, Option, Some, None, replicate, arith, refl, ap, ◌∙◌, Ordering, Less, Equal, Greater}
use Rattle.std.specs.List.{list_any, AllByRecursion}
use Rattle.std.specs.Ordering.{nat_cmp, is_eq, match_ordering}
use Rattle.std.specs.BTreeMap.{is_at, insert_entry}
use Rattle.std.specs.Map.{lookup, set_value, remove_entry}
use Rattle.std.specs.Set.{remove_key}
use Rattle.layout_meaning.specs.Side.{Value, Pair, find_in_row, find, or_else, all_free, keep, write_in_row, write, free_at, put_at, first_free, first_of, put_or, place_new}
use Rattle.layout_meaning.proofs.RowSums.{first_free-is, free_row}
use Rattle.layout_meaning.proofs.Maps.{at_itself}

-- maps
pub remove-insert : {X : Type 0} (n : ℕ) (w : X) (es : List (ℕ × X)) → lookup (is_at (nat_cmp n)) es ≡ None → remove_entry (is_at (nat_cmp n)) (insert_entry nat_cmp es n w) ≡ es
remove-insert n w [] h = rw (at_itself n) refl
remove-insert {X} n w (e ∷ es) h = by (remove-insert n w es) (nat_cmp n e.0) refl h
  where
    by : (lookup (is_at (nat_cmp n)) es ≡ None → remove_entry (is_at (nat_cmp n)) (insert_entry nat_cmp es n w) ≡ es) → (o : Ordering) → nat_cmp n e.0 ≡ o → cond (is_eq o) (Some e.1) (lookup (is_at (nat_cmp n)) es) ≡ None
        → remove_entry (is_at (nat_cmp n)) (match_ordering o ((n, w) ∷ e ∷ es) ((e.0, w) ∷ es) (e ∷ insert_entry nat_cmp es n w)) ≡ e ∷ es
    by ih Less t h = rw (at_itself n) refl
    by ih Equal t h = cc
    by ih Greater t h = rw t (ap (λ (l : List (ℕ × X)). e ∷ l) (ih h))

pub set-set : {X : Type 0} (n : ℕ) (v w : X) (es : List (ℕ × X)) → lookup (is_at (nat_cmp n)) es ≡ Some v → set_value (is_at (nat_cmp n)) (set_value (is_at (nat_cmp n)) es w) v ≡ es
set-set n v w [] h = refl
set-set {X} n v w (e ∷ es) h = by (set-set n v w es) (is_at (nat_cmp n) e.0) refl h
  where
    by : (lookup (is_at (nat_cmp n)) es ≡ Some v → set_value (is_at (nat_cmp n)) (set_value (is_at (nat_cmp n)) es w) v ≡ es) → (b : Bool) → is_at (nat_cmp n) e.0 ≡ b → cond b (Some e.1) (lookup (is_at (nat_cmp n)) es) ≡ Some v
        → set_value (is_at (nat_cmp n)) (cond b ((e.0, w) ∷ es) (e ∷ set_value (is_at (nat_cmp n)) es w)) v ≡ e ∷ es
    by ih true t h = rw t (let d : v ≡ e.1 = cc in ap (λ (z : X). (e.0, z) ∷ es) d)
    by ih false t h = rw t (ap (λ (l : List (ℕ × X)). e ∷ l) (ih h))

-- a value put last into a list is taken out again
pub remove-last : (v : ℕ) (xs : List ℕ) → list_any (nat_eq v) xs ≡ false → remove_key (nat_eq v) (xs ++ v ∷ []) ≡ xs
remove-last v [] h = let e : nat_eq v v ≡ true = grind arith in rw e refl
remove-last v (x ∷ xs) h = by (remove-last v xs) (nat_eq v x) refl h
  where
    by : (list_any (nat_eq v) xs ≡ false → remove_key (nat_eq v) (xs ++ v ∷ []) ≡ xs) → (b : Bool) → nat_eq v x ≡ b → (b || list_any (nat_eq v) xs) ≡ false → cond b (xs ++ v ∷ []) (x ∷ remove_key (nat_eq v) (xs ++ v ∷ [])) ≡ x ∷ xs
    by ih true t h = cc
    by ih false t h = ap (λ (l : List ℕ). x ∷ l) (ih h)

-- rows
pub find-put_at : (p : ℕ) (v : Value) (r : List (Option Pair)) (c : ℕ) → find_in_row p r ≡ None → free_at r c ≡ true → find_in_row p (put_at r c (Some (record { pred = p; value = v }))) ≡ Some v
find-put_at p v [] c h f = cc
find-put_at p v (None ∷ r) zero h f = let e : (p == p) ≡ true = grind arith in rw e refl
find-put_at p v (Some q ∷ r) zero h f = cc
find-put_at p v (None ∷ r) (suc c) h f = find-put_at p v r c h f
find-put_at p v (Some q ∷ r) (suc c) h f = by (find-put_at p v r c) (q.pred == p) h
  where
    by : (find_in_row p r ≡ None → free_at r c ≡ true → find_in_row p (put_at r c (Some (record { pred = p; value = v }))) ≡ Some v) → (b : Bool) → (if b then Some q.value else find_in_row p r) ≡ None
        → (if b then Some q.value else find_in_row p (put_at r c (Some (record { pred = p; value = v })))) ≡ Some v
    by ih true h = cc
    by ih false h = ih h f

pub write-put_at : (p : ℕ) (v : Value) (r : List (Option Pair)) (c : ℕ) → find_in_row p r ≡ None → free_at r c ≡ true → write_in_row p None (put_at r c (Some (record { pred = p; value = v }))) ≡ r
write-put_at p v [] c h f = refl
write-put_at p v (None ∷ r) zero h f = let e : (p == p) ≡ true = grind arith in rw e refl
write-put_at p v (Some q ∷ r) zero h f = cc
write-put_at p v (None ∷ r) (suc c) h f = ap (λ (l : List (Option Pair)). None ∷ l) (write-put_at p v r c h f)
write-put_at p v (Some q ∷ r) (suc c) h f = by (write-put_at p v r c) (q.pred == p) h
  where
    by : (find_in_row p r ≡ None → free_at r c ≡ true → write_in_row p None (put_at r c (Some (record { pred = p; value = v }))) ≡ r) → (b : Bool) → (if b then Some q.value else find_in_row p r) ≡ None
        → (if b then None ∷ put_at r c (Some (record { pred = p; value = v })) else Some q ∷ write_in_row p None (put_at r c (Some (record { pred = p; value = v })))) ≡ Some q ∷ r
    by ih true h = cc
    by ih false h = ap (λ (l : List (Option Pair)). Some q ∷ l) (ih h f)

pub free-none : (p k : ℕ) → find_in_row p (replicate k None) ≡ None
free-none p zero = refl
free-none p (suc k) = free-none p k

pub free-free : (k : ℕ) → all_free (replicate k None) ≡ true
free-free zero = refl
free-free (suc k) = free-free k

none-first : (a b : Option Value) → or_else a b ≡ None → (a ≡ None) × (b ≡ None)
none-first None b h = (refl, h)
none-first (Some v) b h = absurd (some_none v h)
  where
    some_none : (v : Value) → Some v ≡ None → ⊥
    some_none v h = cc

-- a row in which a new pair was put, written back
put_back : (p : ℕ) (v : Value) (r back : List (Option Pair)) (rs out : List (List (Option Pair))) (c : ℕ) → find_in_row p r ≡ None → free_at r c ≡ true → keep r rs ≡ out
    → write p None (put_at r c (Some (record { pred = p; value = v })) ∷ rs) ≡ out
put_back p v r back rs out c h f e =
    ap (λ (o : Option Value). if is_some o then keep (write_in_row p None (put_at r c (Some (record { pred = p; value = v })))) rs else put_at r c (Some (record { pred = p; value = v })) ∷ write p None rs) (find-put_at p v r c h f)
    ∙ ap (λ (l : List (Option Pair)). keep l rs) (write-put_at p v r c h f) ∙ e

pub write-place_new : (k p : ℕ) (v : Value) (cs : List ℕ) (rs : List (List (Option Pair))) → first_of cs < k → AllByRecursion (λ (r : List (Option Pair)). all_free r ≡ false) rs → find p rs ≡ None
    → write p None (place_new k cs (record { pred = p; value = v }) rs) ≡ rs
write-place_new k p v cs [] first full h =
    put_back p v (replicate k None) [] [] [] (first_of cs) (free-none p k) (free_row k (first_of cs) first) (ap (λ (b : Bool). if b then [] else replicate k None ∷ []) (free-free k))
write-place_new k p v cs (r ∷ rs) first full h =
    let n = none-first (find_in_row p r) (find p rs) h in
    by n.0 (write-place_new k p v cs rs first full.1 n.1) (first_free r cs) refl
  where
    by : find_in_row p r ≡ None → write p None (place_new k cs (record { pred = p; value = v }) rs) ≡ rs → (o : Option ℕ) → first_free r cs ≡ o
        → write p None (put_or o r (record { pred = p; value = v }) rs (place_new k cs (record { pred = p; value = v }) rs)) ≡ r ∷ rs
    by n ih None t = rw n (ap (λ (l : List (List (Option Pair))). r ∷ l) ih)
    by n ih (Some c) t = put_back p v r r rs (r ∷ rs) c n (first_free-is r cs c t) (ap (λ (b : Bool). if b then rs else r ∷ rs) full.0)
