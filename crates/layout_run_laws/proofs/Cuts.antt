-- Cuts of sorted items.
use Rattle.std.proofs.Common.{◌≡◌, ◌≤◌, ℕ, zero, suc, ◌+◌, ◌-◌, ◌*◌, ◌/◌, ◌%◌, ◌==◌, min, Bool, true, false, if◌then◌else◌, List, [], ◌∷◌, ◌++◌, length, take, drop, Less, refl, sym, ap, ◌∙◌, arith, subst}
use Rattle.std.specs.List.{AllByRecursion, slice_range}
use Rattle.std.specs.Ordering.{nat_cmp, is_le}
use Rattle.std.proofs.lemmas.List.Folds.{drop_split}
use Rattle.std.proofs.lemmas.Cmp.{nat_cmp_total, on_total}
use Rattle.std.proofs.lemmas.Nat.{div-add-mod'}
use Rattle.std.proofs.Math.Seq.{drop-length}
use Rattle.std.specs.Cmp.{IsTotalOrder}
use Rattle.bags.specs.BagLaws.{each-weaker}
use Rattle.bags.specs.Sort.{sort}
use Rattle.bags.specs.SortLaws.{IsRising, rising-sort}
use Rattle.layout_meaning.specs.Side.{Item}
use Rattle.layout_meaning.specs.Columns.{ColumnsOf}
use Rattle.layout_bulk_meaning.specs.Bulk.{by_entity, empty_side, bulk_side}
use Rattle.layout_run_laws.specs.Runs.{StandBelow, joined, AreRuns, appended_runs}
use Rattle.layout_run_laws.specs.Cuts.{same_front, cut_after, cut_from, share, run_at, runs_from, runs_of}
use Rattle.layout_run_laws.proofs.Runs.{runs-bulk}

entity_same : (a b : ℕ) → (a == b) ≡ true → a ≡ b
entity_same a b h = grind arith

-- ---- where a cut is

same-least : (e m : ℕ) (xs : List Item) → same_front e xs ≤ cut_after e m xs
same-least e zero xs = omega arith
same-least e (suc m) [] = omega arith
same-least e (suc m) (x ∷ xs) = by (x.entity == e) refl (λ k. subst (λ (z : ℕ). same_front z xs ≤ cut_after x.entity m xs) k (same-least x.entity m xs))
  where
    by : (b : Bool) → (x.entity == e) ≡ b → (x.entity ≡ e → same_front e xs ≤ cut_after x.entity m xs) → (if b then suc (same_front e xs) else 0) ≤ suc (cut_after x.entity m xs)
    by true t ih = omega (arith, ih (entity_same x.entity e t))
    by false t ih = omega arith

after-rises : (e m n : ℕ) (xs : List Item) → m ≤ n → cut_after e m xs ≤ cut_after e n xs
after-rises e zero n xs h = same-least e n xs
after-rises e (suc m) zero xs h = absurd (omega arith)
after-rises e (suc m) (suc n) [] h = omega arith
after-rises e (suc m) (suc n) (x ∷ xs) h = omega (arith, after-rises x.entity m n xs (omega arith))

pub cut-rises : (m n : ℕ) (xs : List Item) → m ≤ n → cut_from m xs ≤ cut_from n xs
cut-rises zero n xs h = omega arith
cut-rises (suc m) zero xs h = absurd (omega arith)
cut-rises (suc m) (suc n) [] h = omega arith
cut-rises (suc m) (suc n) (x ∷ xs) h = omega (arith, after-rises x.entity m n xs (omega arith))

same-within : (e : ℕ) (xs : List Item) → same_front e xs ≤ length xs
same-within e [] = omega arith
same-within e (x ∷ xs) = by (x.entity == e) (same-within e xs)
  where
    by : (b : Bool) → same_front e xs ≤ length xs → (if b then suc (same_front e xs) else 0) ≤ length (x ∷ xs)
    by true ih = omega arith
    by false ih = omega arith

after-within : (e m : ℕ) (xs : List Item) → cut_after e m xs ≤ length xs
after-within e zero xs = same-within e xs
after-within e (suc m) [] = omega arith
after-within e (suc m) (x ∷ xs) = omega (arith, after-within x.entity m xs)

pub cut-within : (m : ℕ) (xs : List Item) → cut_from m xs ≤ length xs
cut-within zero xs = omega arith
cut-within (suc m) [] = omega arith
cut-within (suc m) (x ∷ xs) = omega (arith, after-within x.entity m xs)

after-whole : (e : ℕ) (xs : List Item) → cut_after e (length xs) xs ≡ length xs
after-whole e [] = refl
after-whole e (x ∷ xs) = ap suc (after-whole x.entity xs)

pub cut-whole : (xs : List Item) → cut_from (length xs) xs ≡ length xs
cut-whole [] = refl
cut-whole (x ∷ xs) = ap suc (after-whole x.entity xs)

-- ---- what stands before a cut is below what stands behind it

abbrev AllAbove : ℕ → List Item → Type 0
AllAbove e xs = AllByRecursion (λ (y : Item). nat_cmp e y.entity ≡ Less) xs

abbrev AllFrom : ℕ → List Item → Type 0
AllFrom e xs = AllByRecursion (λ (y : Item). is_le (nat_cmp e y.entity) ≡ true) xs

later_above : (e f g : ℕ) → (f == e) ≡ false → is_le (nat_cmp e f) ≡ true → is_le (nat_cmp f g) ≡ true → nat_cmp e g ≡ Less
later_above e f g a b c = grind arith

first_above : (e f : ℕ) → (f == e) ≡ false → is_le (nat_cmp e f) ≡ true → nat_cmp e f ≡ Less
first_above e f a b = grind arith

above_more : (e f g : ℕ) → is_le (nat_cmp e f) ≡ true → nat_cmp f g ≡ Less → nat_cmp e g ≡ Less
above_more e f g a b = grind arith

-- behind those of one entity, all are above it, and so are they above each of these
record Cut (e c : ℕ) (xs : List Item) : Type 0 where
  above : AllAbove e (drop c xs)
  apart : StandBelow (take c xs) (drop c xs)

cut-same : (e : ℕ) (xs : List Item) → AllFrom e xs → IsRising by_entity xs → Cut e (same_front e xs) xs
cut-same e [] f r = record { above = tt; apart = tt }
cut-same e (x ∷ xs) f r = by (x.entity == e) refl (cut-same e xs f.1 r.1)
  where
    by : (b : Bool) → (x.entity == e) ≡ b → Cut e (same_front e xs) xs → Cut e (if b then suc (same_front e xs) else 0) (x ∷ xs)
    by true t ih = record { above = ih.above; apart = (subst (λ (z : ℕ). AllAbove z (drop (same_front e xs) xs)) (sym (entity_same x.entity e t)) ih.above, ih.apart) }
    by false t ih = record {
      above = (first_above e x.entity t f.0, each-weaker (λ (y : Item). is_le (nat_cmp x.entity y.entity) ≡ true) (λ (y : Item). nat_cmp e y.entity ≡ Less) (λ y h. later_above e x.entity y.entity t f.0 h) xs r.0);
      apart = tt;
    }

cut-after : (e m : ℕ) (xs : List Item) → AllFrom e xs → IsRising by_entity xs → Cut e (cut_after e m xs) xs
cut-after e zero xs f r = cut-same e xs f r
cut-after e (suc m) [] f r = record { above = tt; apart = tt }
cut-after e (suc m) (x ∷ xs) f r =
    let ih = cut-after x.entity m xs r.0 r.1 in
    record {
      above = each-weaker (λ (y : Item). nat_cmp x.entity y.entity ≡ Less) (λ (y : Item). nat_cmp e y.entity ≡ Less) (λ y h. above_more e x.entity y.entity f.0 h) (drop (cut_after x.entity m xs) xs) ih.above;
      apart = (ih.above, ih.apart);
    }

each-none : (xs : List Item) → StandBelow [] xs
each-none xs = tt

pub cut-apart : (m : ℕ) (xs : List Item) → IsRising by_entity xs → StandBelow (take (cut_from m xs) xs) (drop (cut_from m xs) xs)
cut-apart zero xs r = each-none xs
cut-apart (suc m) [] r = tt
cut-apart (suc m) (x ∷ xs) r = let c = cut-after x.entity m xs r.0 r.1 in (c.above, c.apart)

-- ---- runs

share-first : (len pieces : ℕ) → share len pieces 0 ≡ 0
share-first len pieces = omega arith

pub share-next : (len pieces at : ℕ) → share len pieces at ≤ share len pieces (at + 1)
share-next len pieces at = next (len / pieces) at (len % pieces)
  where
    next : (q at r : ℕ) → q * at + min at r ≤ q * (at + 1) + min (at + 1) r
    next q at r = grind arith

share-last : (len pieces : ℕ) → 1 ≤ pieces → share len pieces pieces ≡ len
share-last len pieces h =
    let m : min pieces (len % pieces) ≡ len % pieces = grind arith in
    ap (λ (r : ℕ). len / pieces * pieces + r) m ∙ div-add-mod' len pieces

drop-all : (xs : List Item) (n : ℕ) → n ≡ length xs → drop n xs ≡ []
drop-all xs n e = rw e (drop-length xs)

module _ (pieces : ℕ) (xs : List Item) (some : 1 ≤ pieces) where
  -- where the run with this number begins
  begin : ℕ → ℕ
  begin at = cut_from (share (length xs) pieces at) xs

  begins-rise : (at : ℕ) → cut_from (share (length xs) pieces at) xs ≤ cut_from (share (length xs) pieces (at + 1)) xs
  begins-rise at = cut-rises (share (length xs) pieces at) (share (length xs) pieces (at + 1)) xs (share-next (length xs) pieces at)

  joined-from : (at n : ℕ) → at + n ≡ pieces → joined (runs_from pieces xs at n) ≡ drop (cut_from (share (length xs) pieces at) xs) xs
  joined-from at zero h =
      let e : at ≡ pieces = omega arith in
      sym (drop-all xs (cut_from (share (length xs) pieces at) xs) (ap (λ (k : ℕ). cut_from (share (length xs) pieces k) xs) e ∙ ap (λ (k : ℕ). cut_from k xs) (share-last (length xs) pieces some) ∙ cut-whole xs))
  joined-from at (suc n) h =
      ap (λ (l : List Item). run_at pieces xs at ++ l) (joined-from (at + 1) n (omega arith))
      ∙ sym (drop_split xs (cut_from (share (length xs) pieces at) xs) (cut_from (share (length xs) pieces (at + 1)) xs) (begins-rise at))

  pub cuts-whole : joined (runs_of pieces xs) ≡ xs
  cuts-whole = joined-from 0 pieces (omega arith) ∙ ap (λ (k : ℕ). drop (cut_from k xs) xs) (share-first (length xs) pieces)

each-drop : {X : Type 0} (P : X → Type 0) (n : ℕ) (xs : List X) → AllByRecursion P xs → AllByRecursion P (drop n xs)
each-drop P zero xs a = a
each-drop P (suc n) [] a = tt
each-drop P (suc n) (x ∷ xs) a = each-drop P n xs a.1

-- a stretch before a place is a part of what stands before it
each-range : {X : Type 0} (P : X → Type 0) (from to : ℕ) (xs : List X) → AllByRecursion P (take to xs) → AllByRecursion P (slice_range xs from to)
each-range P zero to xs a = let e : to - 0 ≡ to = omega arith in rw e a
each-range P (suc from) zero xs a = let e : 0 - suc from ≡ 0 = omega arith in rw e tt
each-range {X} P (suc from) (suc to) [] a = none (suc to - suc from)
  where
    none : (n : ℕ) → AllByRecursion P (take n [])
    none zero = tt
    none (suc n) = tt
each-range P (suc from) (suc to) (x ∷ xs) a = let e : suc to - suc from ≡ to - from = omega arith in rw e (each-range P from to xs a.1)

module _ (pieces : ℕ) (xs : List Item) (some : 1 ≤ pieces) (rising : IsRising by_entity xs) where
  runs-from : (at n : ℕ) → at + n ≡ pieces → AreRuns (runs_from pieces xs at n)
  runs-from at zero h = tt
  runs-from at (suc n) h =
      let from = cut_from (share (length xs) pieces at) xs in
      let to = cut_from (share (length xs) pieces (at + 1)) xs in (
        subst (λ (l : List Item). StandBelow (run_at pieces xs at) l) (sym (joined-from pieces xs some (at + 1) n (omega arith)))
            (each-range (λ (x : Item). AllAbove x.entity (drop to xs)) from to xs (cut-apart (share (length xs) pieces (at + 1)) xs rising)),
        runs-from (at + 1) n (omega arith),
      )

  pub cuts-runs : AreRuns (runs_of pieces xs)
  cuts-runs = runs-from 0 pieces (omega arith)

entity_total : IsTotalOrder by_entity
entity_total = on_total (λ (x : Item). x.entity) nat_cmp_total

pub sorted-runs : (pieces : ℕ) (items : List Item) → 1 ≤ pieces → AreRuns (runs_of pieces (sort by_entity items))
sorted-runs pieces items some = cuts-runs pieces (sort by_entity items) some (rising-sort entity_total items)

pub pieces-same : (columns : ColumnsOf) (iri_of : ℕ → List ℕ) (pieces : ℕ) (items : List Item) → 1 ≤ pieces → appended_runs columns iri_of (empty_side columns) (runs_of pieces (sort by_entity items)) ≡ bulk_side columns iri_of items
pieces-same columns iri_of pieces items some = runs-bulk columns iri_of items (runs_of pieces (sort by_entity items)) (sorted-runs pieces items some) (cuts-whole pieces (sort by_entity items) some)
