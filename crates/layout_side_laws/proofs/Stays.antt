-- Pairs that stay where they are when another comes or goes.
use Rattle.std.proofs.Common.{◌≡◌, ◌⊎◌, inl, inr, ℕ, zero, suc, ◌+◌, ◌≤◌, ◌<◌, ◌==◌, not, Bool, true, false, cond, if◌then◌else◌, is_some, List, [], ◌∷◌, map, Option, Some, None, replicate, length, refl, sym, ap, ◌∙◌, arith}
use Rattle.std.specs.List.{AllByRecursion}
use Rattle.bags.specs.Bag.{total}
use Rattle.layout_meaning.specs.declared.value.Value.{Value}
use Rattle.layout_meaning.specs.Side.{Pair, Row, Rows, find_in_row, find, or_else, all_free, keep, write_in_row, write, free_at, put_at, first_free, first_of, put_or, place_new}
use Rattle.layout_meaning.specs.Sound.{one_if, has_pred, pair_at}
use Rattle.layout_meaning.proofs.RowSums.{first_free-is, free_row}
use Rattle.layout_meaning.proofs.Undone.{find_in-write, find_in-full}
use Rattle.layout_side_laws.specs.Places.{row_at, but, rows_but, StandsFirst}

-- a pair with this predicate
abbrev one : ℕ → Value → Option Pair
one p v = Some (record { pred = p; value = v })

-- ---- a pair that comes

put_at-but : (p : ℕ) (v : Value) (r : Row) (c d : ℕ) → free_at r c ≡ true → but p (pair_at (put_at r c (one p v)) d) ≡ but p (pair_at r d)
put_at-but p v [] c d h = refl
put_at-but p v (None ∷ r) zero zero h = let e : (p == p) ≡ true = grind arith in rw e refl
put_at-but p v (Some q ∷ r) zero d h = cc
put_at-but p v (None ∷ r) zero (suc d) h = refl
put_at-but p v (o ∷ r) (suc c) zero h = refl
put_at-but p v (o ∷ r) (suc c) (suc d) h = put_at-but p v r c d h

put_at-there : (r : Row) (c : ℕ) (new : Option Pair) → free_at r c ≡ true → pair_at (put_at r c new) c ≡ new
put_at-there [] c new h = cc
put_at-there (o ∷ r) zero new h = refl
put_at-there (o ∷ r) (suc c) new h = put_at-there r c new h

none-in_free : (k d : ℕ) → pair_at (replicate k None) d ≡ None
none-in_free zero d = refl
none-in_free (suc k) zero = refl
none-in_free (suc k) (suc d) = none-in_free k d

pub place_new-stays : (k p : ℕ) (v : Value) (cs : List ℕ) (rs : Rows) → first_of cs < k → (n d : ℕ)
    → but p (pair_at (row_at (place_new k cs (record { pred = p; value = v }) rs) n) d) ≡ but p (pair_at (row_at rs n) d)
place_new-stays k p v cs [] first zero d = put_at-but p v (replicate k None) (first_of cs) d (free_row k (first_of cs) first) ∙ ap (but p) (none-in_free k d)
place_new-stays k p v cs [] first (suc n) d = refl
place_new-stays k p v cs (r ∷ rs) first n d = by (first_free r cs) refl n (λ (m : ℕ). place_new-stays k p v cs rs first m d)
  where
    by : (o : Option ℕ) → first_free r cs ≡ o → (n : ℕ) → ((m : ℕ) → but p (pair_at (row_at (place_new k cs (record { pred = p; value = v }) rs) m) d) ≡ but p (pair_at (row_at rs m) d))
        → but p (pair_at (row_at (put_or o r (record { pred = p; value = v }) rs (place_new k cs (record { pred = p; value = v }) rs)) n) d) ≡ but p (pair_at (row_at (r ∷ rs) n) d)
    by None t zero ih = refl
    by None t (suc n) ih = ih n
    by (Some c) t zero ih = put_at-but p v r c d (first_free-is r cs c t)
    by (Some c) t (suc n) ih = refl

pub stands-new : (k : ℕ) (cs : List ℕ) (pair : Pair) (rs : Rows) → first_of cs < k → StandsFirst cs rs (place_new k cs pair rs) pair
stands-new k cs pair [] first = record {
  row = 0;
  column = first_of cs;
  first = record { none_before = λ (m : ℕ) (l : m < 0). absurd (omega arith); here = inr (refl, refl) };
  there = put_at-there (replicate k None) (first_of cs) (Some pair) (free_row k (first_of cs) first);
}
stands-new k cs pair (r ∷ rs) first = by (first_free r cs) refl (stands-new k cs pair rs first)
  where
    before : (n : ℕ) → first_free r cs ≡ None → ((m : ℕ) → m < n → first_free (row_at rs m) cs ≡ None) → (m : ℕ) → m < suc n → first_free (row_at (r ∷ rs) m) cs ≡ None
    before n t h zero l = t
    before n t h (suc m) l = h m (omega arith)

    here : (n c : ℕ) → (first_free (row_at rs n) cs ≡ Some c) ⊎ ((n ≡ length rs) × (c ≡ first_of cs)) → (first_free (row_at (r ∷ rs) (suc n)) cs ≡ Some c) ⊎ ((suc n ≡ length (r ∷ rs)) × (c ≡ first_of cs))
    here n c (inl h) = inl h
    here n c (inr h) = inr (ap suc h.0, h.1)

    by : (o : Option ℕ) → first_free r cs ≡ o → StandsFirst cs rs (place_new k cs pair rs) pair → StandsFirst cs (r ∷ rs) (put_or o r pair rs (place_new k cs pair rs)) pair
    by None t q = record {
      row = suc q.row;
      column = q.column;
      first = record { none_before = before q.row t q.first.none_before; here = here q.row q.column q.first.here };
      there = q.there;
    }
    by (Some c) t q = record {
      row = 0;
      column = c;
      first = record { none_before = λ (m : ℕ) (l : m < 0). absurd (omega arith); here = inl t };
      there = put_at-there r c (Some pair) (first_free-is r cs c t);
    }

-- ---- a pair that becomes another

write_in_row-stays : (p : ℕ) (v : Value) (r : Row) (d : ℕ) → but p (pair_at (write_in_row p (one p v) r) d) ≡ but p (pair_at r d)
write_in_row-stays p v [] d = refl
write_in_row-stays p v (None ∷ r) zero = refl
write_in_row-stays p v (None ∷ r) (suc d) = write_in_row-stays p v r d
write_in_row-stays p v (Some q ∷ r) d = by (q.pred == p) refl d (write_in_row-stays p v r)
  where
    by : (b : Bool) → (q.pred == p) ≡ b → (d : ℕ) → ((d : ℕ) → but p (pair_at (write_in_row p (one p v) r) d) ≡ but p (pair_at r d))
        → but p (pair_at (if b then one p v ∷ r else Some q ∷ write_in_row p (one p v) r) d) ≡ but p (pair_at (Some q ∷ r) d)
    by true t zero ih = let e : (p == p) ≡ true = grind arith in rw (e, t) refl
    by true t (suc d) ih = refl
    by false t zero ih = refl
    by false t (suc d) ih = ih d

pub write-stays : (p : ℕ) (v : Value) (rs : Rows) (n d : ℕ) → but p (pair_at (row_at (write p (one p v) rs) n) d) ≡ but p (pair_at (row_at rs n) d)
write-stays p v [] n d = refl
write-stays p v (r ∷ rs) n d = by (find_in_row p r) refl n (λ (m : ℕ). write-stays p v rs m d)
  where
    by : (o : Option Value) → find_in_row p r ≡ o → (n : ℕ) → ((m : ℕ) → but p (pair_at (row_at (write p (one p v) rs) m) d) ≡ but p (pair_at (row_at rs m) d))
        → but p (pair_at (row_at (if is_some o then keep (write_in_row p (one p v) r) rs else r ∷ write p (one p v) rs) n) d) ≡ but p (pair_at (row_at (r ∷ rs) n) d)
    by None t zero ih = refl
    by None t (suc n) ih = ih n
    by (Some w) t zero ih =
        let full : all_free (write_in_row p (one p v) r) ≡ false = find_in-full p v (write_in_row p (one p v) r) (find_in-write p v w r t) in
        rw full (write_in_row-stays p v r d)
    by (Some w) t (suc n) ih =
        let full : all_free (write_in_row p (one p v) r) ≡ false = find_in-full p v (write_in_row p (one p v) r) (find_in-write p v w r t) in
        rw full refl

-- ---- a pair that goes

none_found : (p : ℕ) (r : Row) → total (has_pred p) r ≡ 0 → find_in_row p r ≡ None
none_found p [] z = refl
none_found p (None ∷ r) z = none_found p r (omega arith)
none_found p (Some q ∷ r) z = by (q.pred == p) z (none_found p r)
  where
    by : (b : Bool) → one_if b + total (has_pred p) r ≡ 0 → (total (has_pred p) r ≡ 0 → find_in_row p r ≡ None) → (if b then Some q.value else find_in_row p r) ≡ None
    by true z ih = absurd (omega arith)
    by false z ih = ih (omega arith)

nowhere_found : (p : ℕ) (rs : Rows) → total (total (has_pred p)) rs ≡ 0 → find p rs ≡ None
nowhere_found p [] z = refl
nowhere_found p (r ∷ rs) z = let a = none_found p r (omega arith) in rw a (nowhere_found p rs (omega arith))

found_counts : (p : ℕ) (v : Value) (r : Row) → find_in_row p r ≡ Some v → 1 ≤ total (has_pred p) r
found_counts p v [] h = cc
found_counts p v (None ∷ r) h = let k = found_counts p v r h in omega arith
found_counts p v (Some q ∷ r) h = by (q.pred == p) h (found_counts p v r)
  where
    by : (b : Bool) → (if b then Some q.value else find_in_row p r) ≡ Some v → (find_in_row p r ≡ Some v → 1 ≤ total (has_pred p) r) → 1 ≤ one_if b + total (has_pred p) r
    by true h ih = omega arith
    by false h ih = let k = ih h in omega arith

row-same : (p : ℕ) (r : Row) → find_in_row p r ≡ None → map (but p) r ≡ r
row-same p [] h = refl
row-same p (None ∷ r) h = ap (λ (l : Row). None ∷ l) (row-same p r h)
row-same p (Some q ∷ r) h = by (q.pred == p) h (row-same p r)
  where
    by : (b : Bool) → (if b then Some q.value else find_in_row p r) ≡ None → (find_in_row p r ≡ None → map (but p) r ≡ r) → (if b then None else Some q) ∷ map (but p) r ≡ Some q ∷ r
    by true h ih = cc
    by false h ih = ap (λ (l : Row). Some q ∷ l) (ih h)

row-but : (p : ℕ) (v : Value) (r : Row) → find_in_row p r ≡ Some v → total (has_pred p) r ≤ 1 → write_in_row p None r ≡ map (but p) r
row-but p v [] h once = refl
row-but p v (None ∷ r) h once = ap (λ (l : Row). None ∷ l) (row-but p v r h (omega arith))
row-but p v (Some q ∷ r) h once = by (q.pred == p) h once (row-but p v r)
  where
    by : (b : Bool) → (if b then Some q.value else find_in_row p r) ≡ Some v → one_if b + total (has_pred p) r ≤ 1 → (find_in_row p r ≡ Some v → total (has_pred p) r ≤ 1 → write_in_row p None r ≡ map (but p) r)
        → (if b then None ∷ r else Some q ∷ write_in_row p None r) ≡ (if b then None else Some q) ∷ map (but p) r
    by true h once ih = let e : map (but p) r ≡ r = row-same p r (none_found p r (omega arith)) in rw e refl
    by false h once ih = ap (λ (l : Row). Some q ∷ l) (ih h (omega arith))

abbrev AreFull : Rows → Type 0
AreFull rs = AllByRecursion (λ (r : Row). all_free r ≡ false) rs

-- a row without the predicate stays
kept-first : (p : ℕ) (r : Row) (rs : Rows) → find_in_row p r ≡ None → all_free r ≡ false → rows_but p (r ∷ rs) ≡ r ∷ rows_but p rs
kept-first p r rs h full =
    ap (λ (l : Row). cond (not (all_free l)) (l ∷ rows_but p rs) (rows_but p rs)) (row-same p r h)
    ∙ ap (λ (b : Bool). cond (not b) (r ∷ rows_but p rs) (rows_but p rs)) full

rows-same : (p : ℕ) (rs : Rows) → AreFull rs → find p rs ≡ None → rows_but p rs ≡ rs
rows-same p [] full h = refl
rows-same p (r ∷ rs) full h = by (find_in_row p r) refl h (rows-same p rs full.1)
  where
    by : (o : Option Value) → find_in_row p r ≡ o → or_else o (find p rs) ≡ None → (find p rs ≡ None → rows_but p rs ≡ rs) → rows_but p (r ∷ rs) ≡ r ∷ rs
    by None t h ih = kept-first p r rs t full.0 ∙ ap (λ (l : Rows). r ∷ l) (ih h)
    by (Some v) t h ih = cc

kept-by : (b : Bool) (r : Row) (rs : Rows) → (if b then rs else r ∷ rs) ≡ cond (not b) (r ∷ rs) rs
kept-by true r rs = refl
kept-by false r rs = refl

pub rows-but : (p : ℕ) (v : Value) (rs : Rows) → AreFull rs → total (total (has_pred p)) rs ≤ 1 → find p rs ≡ Some v → write p None rs ≡ rows_but p rs
rows-but p v [] full once h = refl
rows-but p v (r ∷ rs) full once h = by (find_in_row p r) refl h (rows-but p v rs full.1)
  where
    by : (o : Option Value) → find_in_row p r ≡ o → or_else o (find p rs) ≡ Some v → (total (total (has_pred p)) rs ≤ 1 → find p rs ≡ Some v → write p None rs ≡ rows_but p rs)
        → (if is_some o then keep (write_in_row p None r) rs else r ∷ write p None rs) ≡ rows_but p (r ∷ rs)
    by None t h ih = ap (λ (l : Rows). r ∷ l) (ih (omega arith) h) ∙ sym (kept-first p r rs t full.0)
    by (Some w) t h ih =
        let some = found_counts p w r t in
        let e : write_in_row p None r ≡ map (but p) r = row-but p w r t (omega arith) in
        let rest : rows_but p rs ≡ rs = rows-same p rs full.1 (nowhere_found p rs (omega arith)) in
        ap (λ (l : Row). keep l rs) e ∙ kept-by (all_free (map (but p) r)) (map (but p) r) rs
        ∙ ap (λ (l : Rows). cond (not (all_free (map (but p) r))) (map (but p) r ∷ l) l) (sym rest)
