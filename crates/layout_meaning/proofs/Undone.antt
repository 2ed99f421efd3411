-- Placing an item and taking it back gives the side as it was, but for the next number.
use Rattle.std.proofs.Common.{◌≡◌, ℕ, ◌<◌, ◌==◌, Bool, true, false, if◌then◌else◌, is_some, List, [], ◌∷◌, Option, Some, None, length, replicate, arith, refl, ap, ◌∙◌}
use Rattle.std.specs.List.{AllByRecursion}
use Rattle.std.specs.Ordering.{nat_cmp}
use Rattle.std.specs.BTreeMap.{is_at, insert_entry}
use Rattle.std.specs.Map.{lookup, set_value}
use Rattle.layout_meaning.specs.Side.{Value, Pair, or_empty, rows_of, find_in_row, find, or_else, all_free, keep, write_in_row, write, first_free, first_of, put_or, place_new, put_by, with_rows}
use Rattle.layout_meaning.specs.Sound.{AreSoundRows}
use Rattle.layout_meaning.proofs.RowSums.{first_free-is, free_row}
use Rattle.layout_meaning.proofs.Maps.{set_value-same, insert_entry-same}
use Rattle.layout_meaning.proofs.RowsKept.{All-found}
use Rattle.layout_meaning.proofs.Back.{remove-insert, set-set, find-put_at, free-none}

pub rows-with_rows : (ents : List (ℕ × List (List (Option Pair)))) (e : ℕ) (new : List (List (Option Pair))) → 0 < length new → rows_of (with_rows ents e new) e ≡ new
rows-with_rows ents e new some = by (lookup (is_at (nat_cmp e)) ents) refl new some
  where
    by : (o : Option (List (List (Option Pair)))) → lookup (is_at (nat_cmp e)) ents ≡ o → (new : List (List (Option Pair))) → 0 < length new → rows_of (put_by o ents e new) e ≡ new
    by None t new some = ap (λ (o : Option (List (List (Option Pair)))). or_empty o) (insert_entry-same e new ents t)
    by (Some old) t [] some = absurd (omega arith)
    by (Some old) t (r ∷ rs) some = ap (λ (o : Option (List (List (Option Pair)))). or_empty o) (set_value-same e old (r ∷ rs) ents t)

pub with_back : (k : ℕ) (ents : List (ℕ × List (List (Option Pair)))) (e : ℕ) (new : List (List (Option Pair))) → AllByRecursion (λ (en : ℕ × List (List (Option Pair))). AreSoundRows k en.1) ents → 0 < length new
    → with_rows (with_rows ents e new) e (rows_of ents e) ≡ ents
with_back k ents e new sound some = by (lookup (is_at (nat_cmp e)) ents) refl new some
  where
    old_by : (old : List (List (Option Pair))) (r : List (Option Pair)) (rs : List (List (Option Pair))) → lookup (is_at (nat_cmp e)) ents ≡ Some old → 0 < length old
        → put_by (Some (r ∷ rs)) (set_value (is_at (nat_cmp e)) ents (r ∷ rs)) e old ≡ ents
    old_by [] r rs t some = absurd (omega arith)
    old_by (a ∷ as1) r rs t some = set-set e (a ∷ as1) (r ∷ rs) ents t

    by : (o : Option (List (List (Option Pair)))) → lookup (is_at (nat_cmp e)) ents ≡ o → (new : List (List (Option Pair))) → 0 < length new → with_rows (put_by o ents e new) e (or_empty o) ≡ ents
    by None t new some = ap (λ (o : Option (List (List (Option Pair)))). put_by o (insert_entry nat_cmp ents e new) e []) (insert_entry-same e new ents t) ∙ remove-insert e new ents t
    by (Some old) t [] some = absurd (omega arith)
    by (Some old) t (r ∷ rs) some = ap (λ (o : Option (List (List (Option Pair)))). put_by o (set_value (is_at (nat_cmp e)) ents (r ∷ rs)) e old) (set_value-same e old (r ∷ rs) ents t)
        ∙ old_by old r rs t (All-found (AreSoundRows k) e old ents sound t).some

-- rows
pub find_in-write : (p : ℕ) (v w : Value) (r : List (Option Pair)) → find_in_row p r ≡ Some w → find_in_row p (write_in_row p (Some (record { pred = p; value = v })) r) ≡ Some v
find_in-write p v w [] h = cc
find_in-write p v w (None ∷ r) h = find_in-write p v w r h
find_in-write p v w (Some q ∷ r) h = by (find_in-write p v w r) (q.pred == p) refl h
  where
    by : (find_in_row p r ≡ Some w → find_in_row p (write_in_row p (Some (record { pred = p; value = v })) r) ≡ Some v) → (b : Bool) → (q.pred == p) ≡ b → (if b then Some q.value else find_in_row p r) ≡ Some w
        → find_in_row p (if b then Some (record { pred = p; value = v }) ∷ r else Some q ∷ write_in_row p (Some (record { pred = p; value = v })) r) ≡ Some v
    by ih true t h = let e : (p == p) ≡ true = grind arith in rw e refl
    by ih false t h = rw t (ih h)

pub find_in-full : (p : ℕ) (w : Value) (r : List (Option Pair)) → find_in_row p r ≡ Some w → all_free r ≡ false
find_in-full p w [] h = cc
find_in-full p w (None ∷ r) h = find_in-full p w r h
find_in-full p w (Some q ∷ r) h = refl

pub write_in-back : (p : ℕ) (v w : Value) (r : List (Option Pair)) → find_in_row p r ≡ Some w → write_in_row p (Some (record { pred = p; value = w })) (write_in_row p (Some (record { pred = p; value = v })) r) ≡ r
write_in-back p v w [] h = refl
write_in-back p v w (None ∷ r) h = ap (λ (l : List (Option Pair)). None ∷ l) (write_in-back p v w r h)
write_in-back p v w (Some q ∷ r) h = by (write_in-back p v w r) (q.pred == p) refl h
  where
    by : (find_in_row p r ≡ Some w → write_in_row p (Some (record { pred = p; value = w })) (write_in_row p (Some (record { pred = p; value = v })) r) ≡ r) → (b : Bool) → (q.pred == p) ≡ b → (if b then Some q.value else find_in_row p r) ≡ Some w
        → write_in_row p (Some (record { pred = p; value = w })) (if b then Some (record { pred = p; value = v }) ∷ r else Some q ∷ write_in_row p (Some (record { pred = p; value = v })) r) ≡ Some q ∷ r
    by ih true t h =
        let e : (p == p) ≡ true = grind arith in
        let k : p ≡ q.pred = grind arith in
        let d : w ≡ q.value = cc in
        let a : record { pred = p; value = w } ≡ q = ap (λ (z : ℕ). let m : Pair = record { pred = z; value = w } in m) k ∙ ap (λ (z : Value). let m : Pair = record { pred = q.pred; value = z } in m) d in
        rw e (ap (λ (z : Pair). Some z ∷ r) a)
    by ih false t h = rw t (ap (λ (l : List (Option Pair)). Some q ∷ l) (ih h))

pub find-write : (p : ℕ) (v w : Value) (rs : List (List (Option Pair))) → find p rs ≡ Some w → find p (write p (Some (record { pred = p; value = v })) rs) ≡ Some v
find-write p v w [] h = cc
find-write p v w (r ∷ rs) h = by (find-write p v w rs) (find_in_row p r) refl h
  where
    by : (find p rs ≡ Some w → find p (write p (Some (record { pred = p; value = v })) rs) ≡ Some v) → (o : Option Value) → find_in_row p r ≡ o → or_else o (find p rs) ≡ Some w
        → find p (if is_some o then keep (write_in_row p (Some (record { pred = p; value = v })) r) rs else r ∷ write p (Some (record { pred = p; value = v })) rs) ≡ Some v
    by ih None t h = rw t (ih h)
    by ih (Some u) t h =
        let f = find_in-write p v u r t in
        let g = find_in-full p v (write_in_row p (Some (record { pred = p; value = v })) r) f in
        rw g (rw f refl)

pub write-back : (p : ℕ) (v w : Value) (rs : List (List (Option Pair))) → find p rs ≡ Some w → write p (Some (record { pred = p; value = w })) (write p (Some (record { pred = p; value = v })) rs) ≡ rs
write-back p v w [] h = refl
write-back p v w (r ∷ rs) h = by (write-back p v w rs) (find_in_row p r) refl h
  where
    by : (find p rs ≡ Some w → write p (Some (record { pred = p; value = w })) (write p (Some (record { pred = p; value = v })) rs) ≡ rs) → (o : Option Value) → find_in_row p r ≡ o → or_else o (find p rs) ≡ Some w
        → write p (Some (record { pred = p; value = w })) (if is_some o then keep (write_in_row p (Some (record { pred = p; value = v })) r) rs else r ∷ write p (Some (record { pred = p; value = v })) rs) ≡ r ∷ rs
    by ih None t h = rw t (ap (λ (l : List (List (Option Pair))). r ∷ l) (ih h))
    by ih (Some u) t h =
        let d : u ≡ w = cc in
        let here : find_in_row p r ≡ Some w = t ∙ h in
        let f = find_in-write p v u r t in
        let g = find_in-full p v (write_in_row p (Some (record { pred = p; value = v })) r) f in
        let b = write_in-back p v w r here in
        let full = find_in-full p w r here in
        rw g (rw f (rw b (rw full refl)))

pub find-place_new : (k p : ℕ) (v : Value) (cs : List ℕ) (rs : List (List (Option Pair))) → first_of cs < k → find p rs ≡ None → find p (place_new k cs (record { pred = p; value = v }) rs) ≡ Some v
find-place_new k p v cs [] first h = rw (find-put_at p v (replicate k None) (first_of cs) (free-none p k) (free_row k (first_of cs) first)) refl
find-place_new k p v cs (r ∷ rs) first h = by (find-place_new k p v cs rs first) (find_in_row p r) refl h (first_free r cs) refl
  where
    by : (find p rs ≡ None → find p (place_new k cs (record { pred = p; value = v }) rs) ≡ Some v) → (a : Option Value) → find_in_row p r ≡ a → or_else a (find p rs) ≡ None → (o : Option ℕ) → first_free r cs ≡ o
        → find p (put_or o r (record { pred = p; value = v }) rs (place_new k cs (record { pred = p; value = v }) rs)) ≡ Some v
    by ih None n h None t = rw n (ih h)
    by ih None n h (Some c) t = rw (find-put_at p v r c n (first_free-is r cs c t)) refl
    by ih (Some u) n h o t = cc
