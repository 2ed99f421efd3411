-- What a change of an entity's rows does to the counts of rows and of predicates behind first rows.
use Rattle.std.proofs.Common.{◌≡◌, ℕ, zero, suc, ◌+◌, ◌-◌, ◌≤◌, ◌<◌, ◌==◌, nat_lt, Bool, true, false, not, if◌then◌else◌, is_some, List, [], ◌∷◌, ◌++◌, Option, Some, None, IsSome, length, refl, sym, ap, ◌∙◌, arith}
use Rattle.std.specs.Ordering.{nat_cmp}
use Rattle.std.specs.BTreeMap.{is_at}
use Rattle.std.specs.Map.{lookup, set_value, remove_entry}
use Rattle.bags.specs.Bag.{total}
use Rattle.layout_meaning.specs.declared.value.Value.{Value}
use Rattle.layout_meaning.specs.Side.{Pair, Row, Rows, Entities, or_empty, rows_of, find_in_row, find, or_else, all_free, keep, write_in_row, write, first_free, first_of, put_or, place_new, put_by, with_rows}
use Rattle.layout_meaning.specs.Sound.{one_if, has_pred}
use Rattle.std.specs.List.{list_any}
use Rattle.std.proofs.Common.{take, map, get_or, nat_eq, ◌||◌}
use Rattle.std.proofs.Math.Seq.{take-suc}
use Rattle.layout_meaning.specs.Rows.{later, is_spilled, IsCountOf}
use Rattle.layout_meaning.specs.Side.{is_pred}
use Rattle.layout_meaning.proofs.Maps.{set_value-same}
use Rattle.layout_meaning.proofs.Sums.{total-append}
use Rattle.primary_rows.specs.declared.cells.Pair as cells
use Rattle.primary_rows.specs.Cells.{pair_of}
use Rattle.primary_rows.proofs.RowSteps.{with_rows_set, with_rows_remove}
use Rattle.layout_meaning.proofs.Maps.{set_value-total, insert_entry-total, remove_entry-total}
use Rattle.layout_meaning.proofs.RowSums.{write-total, place_new-total}
use Rattle.layout_meaning.proofs.Undone.{find_in-write, find_in-full}
use Rattle.primary_rows.specs.Places.{opens, goes_behind, first_row, drops, gone}
use Rattle.primary_rows.specs.Counted.{count_in, spill_total, AreCounted}

pub with_rows-total : (f : Rows → ℕ) → f [] ≡ 0 → (ents : Entities) (e : ℕ) (new : Rows)
    → total (λ (en : ℕ × Rows). f en.1) (with_rows ents e new) + f (rows_of ents e) ≡ total (λ (en : ℕ × Rows). f en.1) ents + f new
with_rows-total f z ents e new = by (lookup (is_at (nat_cmp e)) ents) refl new
  where
    by : (o : Option Rows) → lookup (is_at (nat_cmp e)) ents ≡ o → (new : Rows) → total (λ (en : ℕ × Rows). f en.1) (put_by o ents e new) + f (or_empty o) ≡ total (λ (en : ℕ × Rows). f en.1) ents + f new
    by None t new = omega (arith, insert_entry-total (λ (en : ℕ × Rows). f en.1) e new ents t, z)
    by (Some old) t [] = omega (arith, remove_entry-total (λ (en : ℕ × Rows). f en.1) e old ents t, z)
    by (Some old) t (r ∷ rs) = omega (arith, set_value-total (λ (en : ℕ × Rows). f en.1) e old (r ∷ rs) ents t)

pub length-place_new : (k : ℕ) (cs : List ℕ) (pair : Pair) (rs : Rows) → length (place_new k cs pair rs) ≡ length rs + one_if (opens cs rs)
length-place_new k cs pair [] = omega arith
length-place_new k cs pair (r ∷ rs) = by (first_free r cs) (length-place_new k cs pair rs)
  where
    by : (o : Option ℕ) → length (place_new k cs pair rs) ≡ length rs + one_if (opens cs rs) → length (put_or o r pair rs (place_new k cs pair rs)) ≡ length (r ∷ rs) + one_if (if is_some o then false else opens cs rs)
    by None ih = omega (arith, ih)
    by (Some c) ih = omega arith

-- how much a weight grows behind the first row
pub later-place_new : (g : Option Pair → ℕ) (k : ℕ) (cs : List ℕ) (pair : Pair) (rs : Rows) → g None ≡ 0 → first_of cs < k
    → total (total g) (later (place_new k cs pair rs)) ≡ total (total g) (later rs) + (if goes_behind cs rs then g (Some pair) else 0)
later-place_new g k cs pair [] z first = refl
later-place_new g k cs pair (r ∷ rs) z first = by (first_free r cs)
  where
    by : (o : Option ℕ) → total (total g) (later (put_or o r pair rs (place_new k cs pair rs))) ≡ total (total g) rs + (if not (is_some o) then g (Some pair) else 0)
    by None = place_new-total g k cs pair rs z first
    by (Some c) = omega arith

pub length-rewrite : (p : ℕ) (v w : Value) (rs : Rows) → find p rs ≡ Some w → length (write p (Some (record { pred = p; value = v })) rs) ≡ length rs
length-rewrite p v w [] h = refl
length-rewrite p v w (r ∷ rs) h = by (length-rewrite p v w rs) (find_in_row p r) refl h
  where
    by : (find p rs ≡ Some w → length (write p (Some (record { pred = p; value = v })) rs) ≡ length rs) → (o : Option Value) → find_in_row p r ≡ o → or_else o (find p rs) ≡ Some w
        → length (if is_some o then keep (write_in_row p (Some (record { pred = p; value = v })) r) rs else r ∷ write p (Some (record { pred = p; value = v })) rs) ≡ length (r ∷ rs)
    by ih None t h = omega (arith, ih h)
    by ih (Some u) t h =
        let g = find_in-full p v (write_in_row p (Some (record { pred = p; value = v })) r) (find_in-write p v u r t) in
        rw g refl

pub later-rewrite : (q p : ℕ) (v w : Value) (rs : Rows) → find p rs ≡ Some w
    → total (total (has_pred q)) (later (write p (Some (record { pred = p; value = v })) rs)) ≡ total (total (has_pred q)) (later rs)
later-rewrite q p v w [] h = refl
later-rewrite q p v w (r ∷ rs) h = by (find_in_row p r) refl h
  where
    by : (o : Option Value) → find_in_row p r ≡ o → or_else o (find p rs) ≡ Some w
        → total (total (has_pred q)) (later (if is_some o then keep (write_in_row p (Some (record { pred = p; value = v })) r) rs else r ∷ write p (Some (record { pred = p; value = v })) rs)) ≡ total (total (has_pred q)) rs
    by None t h = (let a = write-total (has_pred q) p (Some (record { pred = p; value = v })) w rs refl h in omega arith)
    by (Some u) t h =
        let g = find_in-full p v (write_in_row p (Some (record { pred = p; value = v })) r) (find_in-write p v u r t) in
        rw g refl

pub length-clear : (p : ℕ) (rs : Rows) → length (write p None rs) + one_if (drops p rs) ≡ length rs
length-clear p rs = by (drops p rs) refl (most rs)
  where
    most : (rs : Rows) → (length (write p None rs) ≤ length rs) × (length rs ≤ length (write p None rs) + 1)
    most [] = (omega arith, omega arith)
    most (r ∷ rs) = at (is_some (find_in_row p r)) (all_free (write_in_row p None r)) (most rs)
      where
        at : (b c : Bool) → (length (write p None rs) ≤ length rs) × (length rs ≤ length (write p None rs) + 1)
            → (length (if b then (if c then rs else write_in_row p None r ∷ rs) else r ∷ write p None rs) ≤ length (r ∷ rs)) × (length (r ∷ rs) ≤ length (if b then (if c then rs else write_in_row p None r ∷ rs) else r ∷ write p None rs) + 1)
        at true true ih = (omega arith, omega arith)
        at true false ih = (omega arith, omega arith)
        at false c ih = (omega (arith, ih.0), omega (arith, ih.1))

    by : (b : Bool) → drops p rs ≡ b → (length (write p None rs) ≤ length rs) × (length rs ≤ length (write p None rs) + 1) → length (write p None rs) + one_if b ≡ length rs
    by true t m = (let a : length (write p None rs) < length rs = grind arith in omega (arith, m.1))
    by false t m = (let a : length rs ≤ length (write p None rs) = grind arith in omega (arith, m.0))

later-first : (q : ℕ) (rs : Rows) → total (total (has_pred q)) (later rs) + total (has_pred q) (first_row rs) ≡ total (total (has_pred q)) rs
later-first q [] = refl
later-first q (r ∷ rs) = omega arith

pub later-clear : (q p : ℕ) (v : Value) (rs : Rows) → find p rs ≡ Some v
    → total (total (has_pred q)) (later (write p None rs)) + gone p (is_some (find_in_row p (first_row rs))) (drops p rs) (write p None rs) q ≡ total (total (has_pred q)) (later rs)
later-clear q p v [] h = cc
later-clear q p v (r ∷ rs) h = by (find_in_row p r) refl h (all_free (write_in_row p None r))
  where
    no_drop : (n : ℕ) → nat_lt n n ≡ false
    no_drop n = grind arith

    drop : (n : ℕ) → nat_lt n (suc n) ≡ true
    drop n = grind arith

    by : (o : Option Value) → find_in_row p r ≡ o → or_else o (find p rs) ≡ Some v → (c : Bool)
        → total (total (has_pred q)) (later (if is_some o then (if c then rs else write_in_row p None r ∷ rs) else r ∷ write p None rs))
        + gone p (is_some o) (nat_lt (length (if is_some o then (if c then rs else write_in_row p None r ∷ rs) else r ∷ write p None rs)) (length (r ∷ rs))) (if is_some o then (if c then rs else write_in_row p None r ∷ rs) else r ∷ write p None rs) q
        ≡ total (total (has_pred q)) rs
    by None t h c = (let a = write-total (has_pred q) p None v rs refl h in omega arith)
    by (Some u) t h true = rw (drop (length rs)) (later-first q rs)
    by (Some u) t h false = rw (no_drop (suc (length rs))) (omega arith)

-- the counts after each change
pub counted-rewrite : (e p : ℕ) (v w : Value) (ents : Entities) (rows : ℕ) (counts : List (ℕ × ℕ)) → find p (rows_of ents e) ≡ Some w → AreCounted ents rows counts
    → AreCounted (with_rows ents e (write p (Some (record { pred = p; value = v })) (rows_of ents e))) rows counts
counted-rewrite e p v w ents rows counts h c = record {
  rows = (let a = with_rows-total (λ (rs : Rows). length rs) refl ents e (write p (Some (record { pred = p; value = v })) (rows_of ents e)) in
      let b = length-rewrite p v w (rows_of ents e) h in let d = c.rows in omega arith);
  spilled = λ (q : ℕ). (let a = with_rows-total (λ (rs : Rows). total (total (has_pred q)) (later rs)) refl ents e (write p (Some (record { pred = p; value = v })) (rows_of ents e)) in
      let b = later-rewrite q p v w (rows_of ents e) h in let d = c.spilled q in omega arith);
}

pub counted-place : (k e : ℕ) (cs : List ℕ) (pair : Pair) (ents : Entities) (rows more : ℕ) (counts new : List (ℕ × ℕ)) → first_of cs < k → AreCounted ents rows counts
    → more ≡ rows + one_if (opens cs (rows_of ents e)) → ((q : ℕ) → count_in new q ≡ count_in counts q + (if goes_behind cs (rows_of ents e) then one_if (pair.pred == q) else 0))
    → AreCounted (with_rows ents e (place_new k cs pair (rows_of ents e))) more new
counted-place k e cs pair ents rows more counts new first c h n = record {
  rows = (let a = with_rows-total (λ (rs : Rows). length rs) refl ents e (place_new k cs pair (rows_of ents e)) in
      let b = length-place_new k cs pair (rows_of ents e) in let d = c.rows in omega arith);
  spilled = λ (q : ℕ). (let a = with_rows-total (λ (rs : Rows). total (total (has_pred q)) (later rs)) refl ents e (place_new k cs pair (rows_of ents e)) in
      let b = later-place_new (has_pred q) k cs pair (rows_of ents e) refl first in let d = c.spilled q in let f = n q in omega arith);
}

pub counted-clear : (e p : ℕ) (v : Value) (ents : Entities) (rows less : ℕ) (counts new : List (ℕ × ℕ)) → find p (rows_of ents e) ≡ Some v → AreCounted ents rows counts
    → less + one_if (drops p (rows_of ents e)) ≡ rows
    → ((q : ℕ) → count_in new q ≡ count_in counts q - gone p (is_some (find_in_row p (first_row (rows_of ents e)))) (drops p (rows_of ents e)) (write p None (rows_of ents e)) q)
    → AreCounted (with_rows ents e (write p None (rows_of ents e))) less new
counted-clear e p v ents rows less counts new h c l n = record {
  rows = (let a = with_rows-total (λ (rs : Rows). length rs) refl ents e (write p None (rows_of ents e)) in
      let b = length-clear p (rows_of ents e) in let d = c.rows in omega arith);
  spilled = λ (q : ℕ). (let a = with_rows-total (λ (rs : Rows). total (total (has_pred q)) (later rs)) refl ents e (write p None (rows_of ents e)) in
      let b = later-clear q p v (rows_of ents e) h in let d = c.spilled q in let f = n q in omega arith);
}

-- a count is above 0 exactly where something is counted
positive-any : {X : Type 0} (f : X → ℕ) (t : X → Bool) → ((x : X) → nat_lt 0 (f x) ≡ t x) → (xs : List X) → nat_lt 0 (total f xs) ≡ list_any t xs
positive-any f t e [] = refl
positive-any f t e (x ∷ xs) = plus (f x) (total f xs) ∙ ap (λ (b : Bool). b || nat_lt 0 (total f xs)) (e x) ∙ ap (λ (b : Bool). t x || b) (positive-any f t e xs)
  where
    plus : (a b : ℕ) → nat_lt 0 (a + b) ≡ (nat_lt 0 a || nat_lt 0 b)
    plus zero b = ap (nat_lt 0) (let h : 0 + b ≡ b = omega arith in h)
    plus (suc a) b = grind arith

pub spilled-test : (p : ℕ) (ents : Entities) → nat_lt 0 (spill_total p ents) ≡ is_spilled p ents
spilled-test p ents =
    positive-any (λ (en : ℕ × Rows). total (total (has_pred p)) (later en.1)) (λ (en : ℕ × Rows). list_any (list_any (is_pred p)) (later en.1))
    (λ (en : ℕ × Rows). positive-any (total (has_pred p)) (list_any (is_pred p)) (λ (r : Row). positive-any (has_pred p) (is_pred p) (one p) r) (later en.1)) ents
  where
    test : (b : Bool) → nat_lt 0 (one_if b) ≡ b
    test true = refl
    test false = refl

    one : (p : ℕ) (o : Option Pair) → nat_lt 0 (has_pred p o) ≡ is_pred p o
    one p None = refl
    one p (Some q) = test (q.pred == p)

pub recounted : (f g : ℕ → Bool) (n : ℕ) → ((p : ℕ) → f p ≡ g p) → IsCountOf f n → IsCountOf g n
recounted f g n e c = record { names = c.names; distinct = c.distinct; exact = λ (p : ℕ). c.exact p ∙ e p; counted = c.counted }

map-push : (xs : List cells.Pair) (x : cells.Pair) → map pair_of (xs ++ x ∷ []) ≡ map pair_of xs ++ pair_of x ∷ []
map-push [] x = refl
map-push (y ∷ ys) x = ap (λ (l : Row). pair_of y ∷ l) (map-push ys x)

pub lowered-next : (q : ℕ) (xs : List cells.Pair) (i : ℕ) (x : cells.Pair) (a b d : ℕ) → i < length xs → b ≡ a - total (has_pred q) (map pair_of (take i xs)) → d ≡ b - has_pred q (pair_of (get_or xs i x))
    → d ≡ a - total (has_pred q) (map pair_of (take (i + 1) xs))
lowered-next q xs i x a b d within h e =
    let n : i + 1 ≡ suc i = omega arith in
    let t : take (i + 1) xs ≡ take i xs ++ get_or xs i x ∷ [] = ap (λ (m : ℕ). take m xs) n ∙ take-suc xs i x within in
    let s : total (has_pred q) (map pair_of (take (i + 1) xs)) ≡ total (has_pred q) (map pair_of (take i xs)) + (has_pred q (pair_of (get_or xs i x)) + 0) =
    ap (λ (l : List cells.Pair). total (has_pred q) (map pair_of l)) t ∙ ap (total (has_pred q)) (map-push (take i xs) (get_or xs i x)) ∙ total-append (has_pred q) (map pair_of (take i xs)) (pair_of (get_or xs i x) ∷ []) in
    omega arith

-- the entities after the rows of one were written and an empty entity was dropped
pub rows_of-set : (ents : Entities) (e : ℕ) (new : Rows) → IsSome (lookup (is_at (nat_cmp e)) ents) → rows_of (set_value (is_at (nat_cmp e)) ents new) e ≡ new
rows_of-set ents e new there = ap or_empty (set_value-same e (rows_of ents e) new ents (found (lookup (is_at (nat_cmp e)) ents) there))
  where
    found : (o : Option Rows) → IsSome o → o ≡ Some (or_empty o)
    found None there = cc
    found (Some rs) there = refl

pub written-entities : (ents after final : Entities) (e : ℕ) (new : Rows) → IsSome (lookup (is_at (nat_cmp e)) ents) → after ≡ set_value (is_at (nat_cmp e)) ents new
    → final ≡ (if nat_eq (length (rows_of after e)) 0 then remove_entry (is_at (nat_cmp e)) after else after) → final ≡ with_rows ents e new
written-entities ents after final e new there a f =
    f ∙ ap (λ (l : Entities). if nat_eq (length (rows_of l e)) 0 then remove_entry (is_at (nat_cmp e)) l else l) a
    ∙ ap (λ (rs : Rows). if nat_eq (length rs) 0 then remove_entry (is_at (nat_cmp e)) (set_value (is_at (nat_cmp e)) ents new) else set_value (is_at (nat_cmp e)) ents new) (rows_of-set ents e new there)
    ∙ by new
  where
    by : (new : Rows) → (if nat_eq (length new) 0 then remove_entry (is_at (nat_cmp e)) (set_value (is_at (nat_cmp e)) ents new) else set_value (is_at (nat_cmp e)) ents new) ≡ with_rows ents e new
    by [] = with_rows_remove ents e [] there refl
    by (r ∷ rs) = rw (no_zero (length rs)) (with_rows_set ents e (r ∷ rs) there (omega arith))
      where
        no_zero : (n : ℕ) → nat_eq (suc n) 0 ≡ false
        no_zero n = grind arith

-- an entity of which something is found is there
pub entity-there : (e p : ℕ) (ents : Entities) → IsSome (find p (rows_of ents e)) → IsSome (lookup (is_at (nat_cmp e)) ents)
entity-there e p ents h = by (lookup (is_at (nat_cmp e)) ents) h
  where
    by : (o : Option Rows) → IsSome (find p (or_empty o)) → IsSome o
    by None h = cc
    by (Some rs) h = refl

some-value : (o : Option Value) → IsSome o → (v : Value) × (o ≡ Some v)
some-value None h = absurd (no h)
  where
    no : IsSome {T = Value} None → ⊥
    no h = cc
some-value (Some v) h = (v, refl)

pub counted-rewritten : (e p : ℕ) (v : Value) (ents : Entities) (rows : ℕ) (counts : List (ℕ × ℕ)) → IsSome (find p (rows_of ents e)) → AreCounted ents rows counts
    → AreCounted (with_rows ents e (write p (Some (record { pred = p; value = v })) (rows_of ents e))) rows counts
counted-rewritten e p v ents rows counts h c = let w = some-value (find p (rows_of ents e)) h in counted-rewrite e p v w.0 ents rows counts w.1 c

pub counted-cleared : (e p : ℕ) (ents after : Entities) (rows less : ℕ) (counts new : List (ℕ × ℕ)) (first dropped : Bool) → IsSome (find p (rows_of ents e)) → AreCounted ents rows counts
    → after ≡ set_value (is_at (nat_cmp e)) ents (write p None (rows_of ents e)) → first ≡ is_some (find_in_row p (first_row (rows_of ents e))) → dropped ≡ drops p (rows_of ents e)
    → less + one_if dropped ≡ rows → ((q : ℕ) → count_in new q ≡ count_in counts q - gone p first dropped (rows_of after e) q)
    → AreCounted (with_rows ents e (write p None (rows_of ents e))) less new
counted-cleared e p ents after rows less counts new first dropped h c a f d l n =
    let w = some-value (find p (rows_of ents e)) h in
    let there = entity-there e p ents h in
    let r : rows_of after e ≡ write p None (rows_of ents e) = ap (λ (l : Entities). rows_of l e) a ∙ rows_of-set ents e (write p None (rows_of ents e)) there in
    counted-clear e p w.0 ents rows less counts new w.1 c (ap (λ (b : Bool). less + one_if b) (sym d) ∙ l)
    (λ (q : ℕ). n q ∙ ap (λ (b : Bool). count_in counts q - gone p b dropped (rows_of after e) q) f ∙ ap (λ (b : Bool). count_in counts q - gone p (is_some (find_in_row p (first_row (rows_of ents e)))) b (rows_of after e) q) d
    ∙ ap (λ (rs : Rows). count_in counts q - gone p (is_some (find_in_row p (first_row (rows_of ents e)))) (drops p (rows_of ents e)) rs q) r)

pub row-there : (e p : ℕ) (ents : Entities) (rows : ℕ) (counts : List (ℕ × ℕ)) (dropped : Bool) → AreCounted ents rows counts → dropped ≡ drops p (rows_of ents e) → one_if dropped ≤ rows
row-there e p ents rows counts dropped c d =
    let a = with_rows-total (λ (rs : Rows). length rs) refl ents e [] in
    let b = length-clear p (rows_of ents e) in
    let f = c.rows in
    let g : one_if dropped ≡ one_if (drops p (rows_of ents e)) = ap one_if d in
    omega arith
