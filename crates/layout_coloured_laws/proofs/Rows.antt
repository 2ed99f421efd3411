-- A row in which each predicate has a column of its own.
use Rattle.std.proofs.Common.{◌≡◌, ◌<◌, ◌≤◌, ◌==◌, ℕ, zero, suc, Bool, true, false, if◌then◌else◌, is_some, [], ◌∷◌, replicate, Option, Some, None, length, refl, ap, ◌∙◌, arith, subst}
use Rattle.std.specs.List.{AllByRecursion}
use Rattle.layout_meaning.specs.declared.value.Value.{Value}
use Rattle.layout_meaning.specs.Side.{Pair, Row, Rows, find_in_row, find, or_else, all_free, keep, write_in_row, write, free_at, put_at, place_new}
use Rattle.layout_meaning.specs.Sound.{pair_at}

-- each pair stands in the column of its predicate, which is one of these
pub record Fits (k : ℕ) (col : ℕ → ℕ) (P : ℕ → Bool) (r : Row) : Type 0 where
  pub wide : length r ≡ k
  pub places : (c : ℕ) (q : Pair) → pair_at r c ≡ Some q → (c ≡ col q.pred) × (P q.pred ≡ true)

-- the columns tell these predicates apart
abbrev pub Apart : (ℕ → ℕ) → (ℕ → Bool) → Type 0
Apart col P = (p q : ℕ) → P p ≡ true → P q ≡ true → col p ≡ col q → p ≡ q

-- one row at most, which fits
abbrev pub OneFits : ℕ → (ℕ → ℕ) → (ℕ → Bool) → Rows → Type 0
OneFits k col P rs = (length rs ≤ 1) × AllByRecursion (Fits k col P) rs

free-from : (r : Row) (c : ℕ) → c < length r → pair_at r c ≡ None → free_at r c ≡ true
free-from [] c l e = absurd (omega arith)
free-from (None ∷ r) zero l e = refl
free-from (Some q ∷ r) zero l e = cc
free-from (o ∷ r) (suc c) l e = free-from r c (omega arith) e

found-at : (r : Row) (c : ℕ) (q : Pair) → pair_at r c ≡ Some q → find_in_row q.pred r ≡ None → ⊥
found-at [] c q e n = cc
found-at (None ∷ r) zero q e n = cc
found-at (None ∷ r) (suc c) q e n = found-at r c q e n
found-at (Some w ∷ r) zero q e n = by (w.pred == q.pred) refl n
  where
    same : Some w ≡ Some q → w ≡ q
    same h = cc

    by : (b : Bool) → (w.pred == q.pred) ≡ b → (if b then Some w.value else find_in_row q.pred r) ≡ None → ⊥
    by true t h = cc
    by false t h = let s : w.pred ≡ q.pred = ap (λ (x : Pair). x.pred) (same e) in absurd (grind arith)
found-at (Some w ∷ r) (suc c) q e n = by (w.pred == q.pred) n (found-at r c q e)
  where
    by : (b : Bool) → (if b then Some w.value else find_in_row q.pred r) ≡ None → (find_in_row q.pred r ≡ None → ⊥) → ⊥
    by true h rest = cc
    by false h rest = rest h

free-place : (k : ℕ) (col : ℕ → ℕ) (P : ℕ → Bool) (r : Row) (p : ℕ) → Apart col P → Fits k col P r → P p ≡ true → col p < k → find_in_row p r ≡ None → free_at r (col p) ≡ true
free-place k col P r p apart f in_p low none = by (pair_at r (col p)) refl
  where
    by : (o : Option Pair) → pair_at r (col p) ≡ o → free_at r (col p) ≡ true
    by None e = free-from r (col p) (omega (arith, f.wide)) e
    by (Some q) e =
        let at = f.places (col p) q e in
        let same : p ≡ q.pred = apart p q.pred in_p at.1 at.0 in
        absurd (found-at r (col p) q e (subst (λ (n : ℕ). find_in_row n r ≡ None) same none))

-- ---- a pair is put

put-wide : (r : Row) (c : ℕ) (o : Option Pair) → length (put_at r c o) ≡ length r
put-wide [] c o = refl
put-wide (x ∷ r) zero o = refl
put-wide (x ∷ r) (suc c) o = ap suc (put-wide r c o)

put-places : (Q : ℕ → Pair → Type 0) (r : Row) (c : ℕ) (pair : Pair) → ((d : ℕ) (q : Pair) → pair_at r d ≡ Some q → Q d q) → Q c pair → (d : ℕ) (q : Pair) → pair_at (put_at r c (Some pair)) d ≡ Some q → Q d q
put-places Q [] c pair h new d q e = cc
put-places Q (o ∷ r) zero pair h new zero q e = let s : pair ≡ q = cc in subst (Q 0) s new
put-places Q (o ∷ r) zero pair h new (suc d) q e = h (suc d) q e
put-places Q (o ∷ r) (suc c) pair h new zero q e = h 0 q e
put-places Q (o ∷ r) (suc c) pair h new (suc d) q e = put-places (λ (n : ℕ). Q (suc n)) r c pair (λ n. h (suc n)) new d q e

free-wide : (k : ℕ) → length (replicate {A = Option Pair} k None) ≡ k
free-wide zero = refl
free-wide (suc k) = ap suc (free-wide k)

free-places : (k d : ℕ) (q : Pair) → pair_at (replicate k None) d ≡ Some q → ⊥
free-places zero d q e = cc
free-places (suc k) zero q e = cc
free-places (suc k) (suc d) q e = free-places k d q e

put-fits : (k : ℕ) (col : ℕ → ℕ) (P : ℕ → Bool) (r : Row) (pair : Pair) → Fits k col P r → P pair.pred ≡ true → Fits k col P (put_at r (col pair.pred) (Some pair))
put-fits k col P r pair f in_p = record {
  wide = put-wide r (col pair.pred) (Some pair) ∙ f.wide;
  places = put-places (λ (c : ℕ) (q : Pair). (c ≡ col q.pred) × (P q.pred ≡ true)) r (col pair.pred) pair f.places (refl, in_p);
}

pub new-fits : (k : ℕ) (col : ℕ → ℕ) (P : ℕ → Bool) (rs : Rows) (pair : Pair) → Apart col P → OneFits k col P rs → P pair.pred ≡ true → col pair.pred < k → find pair.pred rs ≡ None
    → OneFits k col P (place_new k (col pair.pred ∷ []) pair rs) × (0 < length (place_new k (col pair.pred ∷ []) pair rs))
new-fits k col P [] pair apart h in_p low none =
    let free : Fits k col P (replicate k None) = record { wide = free-wide k; places = λ c q e. absurd (free-places k c q e) } in
    ((omega arith, (put-fits k col P (replicate k None) pair free in_p, tt)), omega arith)
new-fits k col P (r ∷ []) pair apart h in_p low none =
    let free : free_at r (col pair.pred) ≡ true = free-place k col P r pair.pred apart h.1.0 in_p low (first (find_in_row pair.pred r) none) in
    rw free ((omega arith, (put-fits k col P r pair h.1.0 in_p, tt)), omega arith)
  where
    first : (o : Option Value) → or_else o None ≡ None → o ≡ None
    first None e = refl
    first (Some v) e = cc
new-fits k col P (r ∷ s ∷ rs) pair apart h in_p low none = absurd (let l = h.0 in omega arith)

-- ---- a pair becomes another

write-wide : (p : ℕ) (o : Option Pair) (r : Row) → length (write_in_row p o r) ≡ length r
write-wide p o [] = refl
write-wide p o (None ∷ r) = ap suc (write-wide p o r)
write-wide p o (Some q ∷ r) = by (q.pred == p) (write-wide p o r)
  where
    by : (b : Bool) → length (write_in_row p o r) ≡ length r → length (if b then o ∷ r else Some q ∷ write_in_row p o r) ≡ length (Some q ∷ r)
    by true ih = refl
    by false ih = ap suc ih

write-places : (Q : ℕ → Pair → Type 0) (p : ℕ) (pair : Pair) (r : Row) → ((d : ℕ) (q : Pair) → pair_at r d ≡ Some q → Q d q) → ((d : ℕ) (q : Pair) → pair_at r d ≡ Some q → q.pred ≡ p → Q d pair)
    → (d : ℕ) (q : Pair) → pair_at (write_in_row p (Some pair) r) d ≡ Some q → Q d q
write-places Q p pair [] h new d q e = cc
write-places Q p pair (None ∷ r) h new zero q e = cc
write-places Q p pair (None ∷ r) h new (suc d) q e = write-places (λ (n : ℕ). Q (suc n)) p pair r (λ n. h (suc n)) (λ n. new (suc n)) d q e
write-places Q p pair (Some w ∷ r) h new d q e = by (w.pred == p) refl d e (λ (d : ℕ). write-places (λ (n : ℕ). Q (suc n)) p pair r (λ n. h (suc n)) (λ n. new (suc n)) d q)
  where
    by : (b : Bool) → (w.pred == p) ≡ b → (d : ℕ) → pair_at (if b then Some pair ∷ r else Some w ∷ write_in_row p (Some pair) r) d ≡ Some q
        → ((d : ℕ) → pair_at (write_in_row p (Some pair) r) d ≡ Some q → Q (suc d) q) → Q d q
    by true t zero k rest = let s : pair ≡ q = cc in subst (Q 0) s (new 0 w refl (let m : w.pred ≡ p = grind arith in m))
    by true t (suc d) k rest = h (suc d) q k
    by false t zero k rest = h 0 q k
    by false t (suc d) k rest = rest d k

write-fits : (k : ℕ) (col : ℕ → ℕ) (P : ℕ → Bool) (r : Row) (pair : Pair) → Fits k col P r → P pair.pred ≡ true → Fits k col P (write_in_row pair.pred (Some pair) r)
write-fits k col P r pair f in_p = record {
  wide = write-wide pair.pred (Some pair) r ∙ f.wide;
  places = write-places (λ (c : ℕ) (q : Pair). (c ≡ col q.pred) × (P q.pred ≡ true)) pair.pred pair r f.places (λ d q e m. ((f.places d q e).0 ∙ ap col m, in_p));
}

written-full : (p : ℕ) (pair : Pair) (r : Row) → is_some (find_in_row p r) ≡ true → all_free (write_in_row p (Some pair) r) ≡ false
written-full p pair [] e = cc
written-full p pair (None ∷ r) e = written-full p pair r e
written-full p pair (Some q ∷ r) e = by (q.pred == p)
  where
    by : (b : Bool) → all_free (if b then Some pair ∷ r else Some q ∷ write_in_row p (Some pair) r) ≡ false
    by true = refl
    by false = refl

pub write-one : (k : ℕ) (col : ℕ → ℕ) (P : ℕ → Bool) (rs : Rows) (pair : Pair) (v : Value) → OneFits k col P rs → P pair.pred ≡ true → find pair.pred rs ≡ Some v
    → OneFits k col P (write pair.pred (Some pair) rs) × (0 < length (write pair.pred (Some pair) rs))
write-one k col P [] pair v h in_p found = cc
write-one k col P (r ∷ []) pair v h in_p found = by (is_some (find_in_row pair.pred r)) refl
  where
    by : (b : Bool) → is_some (find_in_row pair.pred r) ≡ b
        → OneFits k col P (if b then keep (write_in_row pair.pred (Some pair) r) [] else r ∷ []) × (0 < length (if b then keep (write_in_row pair.pred (Some pair) r) [] else r ∷ []))
    by true e =
        let full = written-full pair.pred pair r e in
        rw full ((omega arith, (write-fits k col P r pair h.1.0 in_p, tt)), omega arith)
    by false e = (h, omega arith)
write-one k col P (r ∷ s ∷ rs) pair v h in_p found = absurd (let l = h.0 in omega arith)
