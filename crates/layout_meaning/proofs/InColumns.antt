-- The columns of the predicates after a change.
use Rattle.std.proofs.Common.{◌≡◌, ℕ, zero, suc, ◌<◌, ◌==◌, nat_eq, ◌||◌, Bool, true, false, if◌then◌else◌, is_some, List, [], ◌∷◌, Option, Some, None, length, replicate, arith, refl, sym, ap, subst, ◌∙◌}
use Rattle.std.specs.List.{list_any, AllByRecursion}
use Rattle.std.specs.Ordering.{nat_cmp}
use Rattle.std.specs.BTreeMap.{is_at}
use Rattle.std.specs.Map.{lookup}
use Rattle.std.specs.Set.{remove_key}
use Rattle.layout_meaning.specs.Side.{Value, One, Many, Pair, Item, SideState, or_empty, rows_of, elements_of, find_in_row, find, all_free, write_in_row, write, free_at, put_at, first_free, first_of, put_or, place_new, with_rows, written, is_held, place_by, placed, left_over, take_by, taken}
use Rattle.layout_meaning.specs.Sound.{pair_at, RowKeeps, KeepsTo}
use Rattle.layout_meaning.proofs.RowsKept.{All-found, All-with_rows}

at-put_at : (P : ℕ → Pair → Type 0) (r : List (Option Pair)) (c : ℕ) (pair : Pair) → ((d : ℕ) (q : Pair) → pair_at r d ≡ Some q → P d q) → P c pair
    → (d : ℕ) (q : Pair) → pair_at (put_at r c (Some pair)) d ≡ Some q → P d q
at-put_at P [] c pair h new d q e = h d q e
at-put_at P (o ∷ r) zero pair h new zero q e = let k : pair ≡ q = cc in subst (P 0) k new
at-put_at P (o ∷ r) zero pair h new (suc d) q e = h (suc d) q e
at-put_at P (o ∷ r) (suc c) pair h new zero q e = h 0 q e
at-put_at P (o ∷ r) (suc c) pair h new (suc d) q e = at-put_at (λ (d : ℕ) (q : Pair). P (suc d) q) r c pair (λ (d : ℕ) (q : Pair) (e : pair_at r d ≡ Some q). h (suc d) q e) new d q e

at-write : (P : ℕ → Pair → Type 0) (p : ℕ) (new : Option Pair) (r : List (Option Pair)) → ((d : ℕ) (q : Pair) → pair_at r d ≡ Some q → P d q)
    → ((d : ℕ) (q z : Pair) → P d q → q.pred ≡ p → new ≡ Some z → P d z) → (d : ℕ) (q : Pair) → pair_at (write_in_row p new r) d ≡ Some q → P d q
at-write P p new [] h fits d q e = h d q e
at-write P p new (None ∷ r) h fits zero q e = h 0 q e
at-write P p new (None ∷ r) h fits (suc d) q e = at-write (λ (d : ℕ) (q : Pair). P (suc d) q) p new r (λ (d : ℕ) (q : Pair) (e : pair_at r d ≡ Some q). h (suc d) q e) (λ (d : ℕ) (q z : Pair). fits (suc d) q z) d q e
at-write P p new (Some x ∷ r) h fits d q e = by (at-write (λ (d : ℕ) (q : Pair). P (suc d) q) p new r (λ (d : ℕ) (q : Pair) (e : pair_at r d ≡ Some q). h (suc d) q e) (λ (d : ℕ) (q z : Pair). fits (suc d) q z)) (x.pred == p) refl d e
  where
    by : ((d : ℕ) (q : Pair) → pair_at (write_in_row p new r) d ≡ Some q → P (suc d) q) → (b : Bool) → (x.pred == p) ≡ b → (d : ℕ) → pair_at (if b then new ∷ r else Some x ∷ write_in_row p new r) d ≡ Some q → P d q
    by ih true t zero e = let k : x.pred ≡ p = grind arith in fits 0 x q (h 0 x refl) k e
    by ih true t (suc d) e = h (suc d) q e
    by ih false t zero e = h 0 q e
    by ih false t (suc d) e = ih d q e

free-at : (k d : ℕ) (q : Pair) → pair_at (replicate k None) d ≡ Some q → ⊥
free-at zero d q e = none_some q e
  where
    none_some : (q : Pair) → None ≡ Some q → ⊥
    none_some q e = cc
free-at (suc k) zero q e = none_some q e
  where
    none_some : (q : Pair) → None ≡ Some q → ⊥
    none_some q e = cc
free-at (suc k) (suc d) q e = free-at k d q e

first_free-in : (r : List (Option Pair)) (cs : List ℕ) (c : ℕ) → first_free r cs ≡ Some c → list_any (nat_eq c) cs ≡ true
first_free-in r [] c h = cc
first_free-in r (d ∷ cs) c h = by (first_free-in r cs c) (free_at r d) h (nat_eq c d) refl
  where
    by : (first_free r cs ≡ Some c → list_any (nat_eq c) cs ≡ true) → (b : Bool) → (if b then Some d else first_free r cs) ≡ Some c → (n : Bool) → nat_eq c d ≡ n → (n || list_any (nat_eq c) cs) ≡ true
    by ih b h true t = refl
    by ih true h false t = let k : d ≡ c = cc in absurd (grind arith)
    by ih false h false t = ih h

first_of-in : (cs : List ℕ) → 0 < length cs → list_any (nat_eq (first_of cs)) cs ≡ true
first_of-in [] h = absurd (omega arith)
first_of-in (c ∷ cs) h = let e : nat_eq c c ≡ true = grind arith in rw e refl

keeps-place_new : (k : ℕ) (candidates : ℕ → List ℕ) (pair : Pair) (rs : List (List (Option Pair))) → 0 < length (candidates pair.pred) → AllByRecursion (RowKeeps candidates) rs → AllByRecursion (RowKeeps candidates) (place_new k (candidates pair.pred) pair rs)
keeps-place_new k candidates pair [] some h = (record { in_columns = at-put_at (λ (d : ℕ) (q : Pair). list_any (nat_eq d) (candidates q.pred) ≡ true) (replicate k None) (first_of (candidates pair.pred)) pair (λ (d : ℕ) (q : Pair) (e : pair_at (replicate k None) d ≡ Some q). absurd (free-at k d q e)) (first_of-in (candidates pair.pred) some) }, tt)
keeps-place_new k candidates pair (r ∷ rs) some h = by (keeps-place_new k candidates pair rs some h.1) (first_free r (candidates pair.pred)) refl
  where
    by : AllByRecursion (RowKeeps candidates) (place_new k (candidates pair.pred) pair rs) → (o : Option ℕ) → first_free r (candidates pair.pred) ≡ o → AllByRecursion (RowKeeps candidates) (put_or o r pair rs (place_new k (candidates pair.pred) pair rs))
    by ih None t = (h.0, ih)
    by ih (Some c) t = (record { in_columns = at-put_at (λ (d : ℕ) (q : Pair). list_any (nat_eq d) (candidates q.pred) ≡ true) r c pair h.0.in_columns (first_free-in r (candidates pair.pred) c t) }, h.1)

keeps-write : (candidates : ℕ → List ℕ) (p : ℕ) (new : Option Pair) (rs : List (List (Option Pair))) → ((z : Pair) → new ≡ Some z → z.pred ≡ p) → AllByRecursion (RowKeeps candidates) rs → AllByRecursion (RowKeeps candidates) (write p new rs)
keeps-write candidates p new [] same h = tt
keeps-write candidates p new (r ∷ rs) same h = by (keeps-write candidates p new rs same h.1) (is_some (find_in_row p r)) (all_free (write_in_row p new r))
  where
    by : AllByRecursion (RowKeeps candidates) (write p new rs) → (b c : Bool) → AllByRecursion (RowKeeps candidates) (if b then (if c then rs else write_in_row p new r ∷ rs) else r ∷ write p new rs)
    by ih true true = h.1
    by ih true false = (
      record {
        in_columns = at-write (λ (d : ℕ) (q : Pair). list_any (nat_eq d) (candidates q.pred) ≡ true) p new r h.0.in_columns
            (λ (d : ℕ) (q z : Pair) (a : list_any (nat_eq d) (candidates q.pred) ≡ true) (e : q.pred ≡ p) (f : new ≡ Some z). subst (λ (n : ℕ). list_any (nat_eq d) (candidates n) ≡ true) (e ∙ sym (same z f)) a);
      },
      h.1,
    )
    by ih false c = (h.0, ih)

keeps-rows_of : (candidates : ℕ → List ℕ) (e : ℕ) (ents : List (ℕ × List (List (Option Pair)))) → AllByRecursion (λ (en : ℕ × List (List (Option Pair))). AllByRecursion (RowKeeps candidates) en.1) ents → AllByRecursion (RowKeeps candidates) (rows_of ents e)
keeps-rows_of candidates e ents h = by (lookup (is_at (nat_cmp e)) ents) refl
  where
    by : (o : Option (List (List (Option Pair)))) → lookup (is_at (nat_cmp e)) ents ≡ o → AllByRecursion (RowKeeps candidates) (or_empty o)
    by None t = tt
    by (Some rs) t = All-found (λ (rs : List (List (Option Pair))). AllByRecursion (RowKeeps candidates) rs) e rs ents h t

keeps-with_rows : (candidates : ℕ → List ℕ) (ents : List (ℕ × List (List (Option Pair)))) (e : ℕ) (new : List (List (Option Pair))) → AllByRecursion (λ (en : ℕ × List (List (Option Pair))). AllByRecursion (RowKeeps candidates) en.1) ents
    → AllByRecursion (RowKeeps candidates) new → AllByRecursion (λ (en : ℕ × List (List (Option Pair))). AllByRecursion (RowKeeps candidates) en.1) (with_rows ents e new)
keeps-with_rows candidates ents e new h n = All-with_rows (λ (rs : List (List (Option Pair))). AllByRecursion (RowKeeps candidates) rs) ents e new h (λ (l : 0 < length new). n) (λ (l : lookup (is_at (nat_cmp e)) ents ≡ None). n)

keeps-written : (candidates : ℕ → List ℕ) (x : Item) (new : Option Pair) (s : SideState) → ((z : Pair) → new ≡ Some z → z.pred ≡ x.pred) → KeepsTo candidates s → AllByRecursion (λ (en : ℕ × List (List (Option Pair))). AllByRecursion (RowKeeps candidates) en.1) (written x new s)
keeps-written candidates x new s same h = keeps-with_rows candidates s.entities x.entity (write x.pred new (rows_of s.entities x.entity)) h.rows (keeps-write candidates x.pred new (rows_of s.entities x.entity) same (keeps-rows_of candidates x.entity s.entities h.rows))

same_pair : (x : Item) (v : Value) (z : Pair) → Some (record { pred = x.pred; value = v }) ≡ Some z → z.pred ≡ x.pred
same_pair x v z e = let m : Pair = record { pred = x.pred; value = v } in let k : m ≡ z = cc in sym (ap (λ (y : Pair). y.pred) k)

no_pair : (x : Item) (z : Pair) → None ≡ Some z → z.pred ≡ x.pred
no_pair x z e = cc

keeps_by : (k : ℕ) (candidates : ℕ → List ℕ) (x : Item) (s : SideState) (o : Option Value) → KeepsTo candidates s → 0 < length (candidates x.pred) → KeepsTo candidates (place_by o k (candidates x.pred) x s)
keeps_by k candidates x s None h some = record {
  rows = keeps-with_rows candidates s.entities x.entity (place_new k (candidates x.pred) (record { pred = x.pred; value = One x.value }) (rows_of s.entities x.entity)) h.rows
      (keeps-place_new k candidates (record { pred = x.pred; value = One x.value }) (rows_of s.entities x.entity) some (keeps-rows_of candidates x.entity s.entities h.rows));
}
keeps_by k candidates x s (Some (One w)) h some = record { rows = keeps-written candidates x (Some (record { pred = x.pred; value = Many s.next })) s (same_pair x (Many s.next)) h }
keeps_by k candidates x s (Some (Many n)) h some = record { rows = h.rows }

pub columns_after_placing : (k : ℕ) (candidates : ℕ → List ℕ) (x : Item) (s : SideState) → KeepsTo candidates s → 0 < length (candidates x.pred) → KeepsTo candidates (placed k (candidates x.pred) x s)
columns_after_placing k candidates x s h some = by (is_held x s)
  where
    by : (b : Bool) → KeepsTo candidates (if b then s else place_by (find x.pred (rows_of s.entities x.entity)) k (candidates x.pred) x s)
    by true = h
    by false = keeps_by k candidates x s (find x.pred (rows_of s.entities x.entity)) h some

keeps-left : (candidates : ℕ → List ℕ) (ys : List ℕ) (n : ℕ) (x : Item) (s : SideState) → KeepsTo candidates s → KeepsTo candidates (left_over ys n x s)
keeps-left candidates [] n x s h = record { rows = h.rows }
keeps-left candidates (a ∷ []) n x s h = record { rows = keeps-written candidates x (Some (record { pred = x.pred; value = One a })) s (same_pair x (One a)) h }
keeps-left candidates (a ∷ b ∷ more) n x s h = record { rows = h.rows }

keeps-take : (candidates : ℕ → List ℕ) (x : Item) (s : SideState) (o : Option Value) → KeepsTo candidates s → KeepsTo candidates (take_by o x s)
keeps-take candidates x s None h = h
keeps-take candidates x s (Some (One w)) h = record { rows = keeps-written candidates x None s (no_pair x) h }
keeps-take candidates x s (Some (Many n)) h = keeps-left candidates (remove_key (nat_eq x.value) (elements_of s.lists n)) n x s h

pub columns_after_taking : (candidates : ℕ → List ℕ) (x : Item) (s : SideState) → KeepsTo candidates s → KeepsTo candidates (taken x s)
columns_after_taking candidates x s h = by (is_held x s)
  where
    by : (b : Bool) → KeepsTo candidates (if b then take_by (find x.pred (rows_of s.entities x.entity)) x s else s)
    by true = keeps-take candidates x s (find x.pred (rows_of s.entities x.entity)) h
    by false = h
