-- Pairs, rows and counts that are moved.
use Rattle.std.proofs.Common.{◌≡◌, ◌<◌, ◌≤◌, ◌+◌, ◌==◌, ℕ, zero, suc, Bool, true, false, if◌then◌else◌, List, [], ◌∷◌, ◌++◌, length, take, drop, set, get_or, Option, Some, None, IsSome, IsTrue, Less, refl, sym, ap, ◌∙◌, arith, subst}
use Rattle.std.specs.List.{list_all, flat_map, AllByRecursion}
use Rattle.std.specs.List.Sorted.{IsStrictlySortedBy}
use Rattle.std.specs.Ordering.{nat_cmp}
use Rattle.std.specs.BTreeMap.{is_at, insert_entry}
use Rattle.std.specs.Map.{lookup, keys_of}
use Rattle.std.specs.Cmp.{first_so, second_so}
use Rattle.std.proofs.lemmas.List.{get_or_default, drop-set-lt, take_all}
use Rattle.std.proofs.Math.Seq.{take-suc-set}
use Rattle.bags.specs.Bag.{total}
use Rattle.layout_meaning.specs.Side.{Rows, Entities, ValueLists, or_empty, elements_of}
use Rattle.layout_meaning.specs.Sound.{IsSoundList, has_pred}
use Rattle.layout_meaning.specs.Rows.{later, row_total}
use Rattle.layout_meaning.proofs.Sums.{total-append}
use Rattle.layout_meaning.specs.Lists.{ListsOf}
use Rattle.layout_bulk_meaning.specs.Appended.{in_turn, lists_in, given_row, given_rows, lists_in_rows, given_entity, given_entities, named_in_rows, with_lists, IsAbove}
use Rattle.layout_bulk_meaning.proofs.Turns.{turn-same, turn-length}
use Rattle.layout_bulk_meaning.proofs.Sides.{has-rows, count-rows}
use Rattle.layout_bulk_meaning.proofs.Going.{Going, going-good, going-next, going-made, going-lists, left-next, left-none, entry-last, above-first, above-next, sorted-next}
use Rattle.primary_rows.specs.declared.cells.Pair as cells
use Rattle.primary_rows.specs.Cells.{fits}
use Rattle.primary_rows.specs.Counted.{count_in, ArePositive, spill_total, AreCounted}

pub same_place : (xs : List ℕ) (i : ℕ) → i < length xs → get_or xs i 0 ≡ get_or xs i (get_or xs i 0)
same_place xs i l = get_or_default xs i 0 (get_or xs i 0) l

-- a list that is a list is there
pub list-known : (lists : ValueLists) (n : ℕ) → IsSoundList (elements_of lists n) → IsSome (lookup (is_at (nat_cmp n)) lists)
list-known lists n s = by (lookup (is_at (nat_cmp n)) lists) refl
  where
    by : (o : Option (List ℕ)) → lookup (is_at (nat_cmp n)) lists ≡ o → IsSome (lookup (is_at (nat_cmp n)) lists)
    by None e =
        let t : 2 ≤ length (elements_of lists n) = s.two in
        let z : length (elements_of lists n) ≡ 0 = ap (λ (o : Option (List ℕ)). length (or_empty o)) e in
        absurd (omega arith)
    by (Some xs) e = rw e refl

-- a pair in its place
pub fits-at : (ps : List cells.Pair) (i : ℕ) (p : cells.Pair) → IsTrue (list_all fits ps) → i < length ps → p ≡ get_or ps i p → IsTrue (fits p)
fits-at [] i p h l e = absurd (omega arith)
fits-at (x ∷ xs) zero p h l e = rw e (first_so (fits x) (list_all fits xs) h)
fits-at (x ∷ xs) (suc i) p h l e = fits-at xs i p (second_so (fits x) (list_all fits xs) h) (omega arith) e

pub fits-push : (ps : List cells.Pair) (p : cells.Pair) → IsTrue (list_all fits ps) → IsTrue (fits p) → IsTrue (list_all fits (ps ++ p ∷ []))
fits-push [] p h k = rw k refl
fits-push (x ∷ xs) p h k = rw (first_so (fits x) (list_all fits xs) h) (fits-push xs p (second_so (fits x) (list_all fits xs) h) k)

-- ---- counts of predicates

tail-none : (p : ℕ) (es : List (ℕ × ℕ)) → AllByRecursion (λ q. nat_cmp p q ≡ Less) (keys_of es) → count_in es p ≡ 0
tail-none p [] a = refl
tail-none p (e ∷ es) a =
    let h : is_at (nat_cmp p) e.0 ≡ false = apart p e.0 a.0 in
    rw h (tail-none p es a.1)
  where
    apart : (p q : ℕ) → nat_cmp p q ≡ Less → is_at (nat_cmp p) q ≡ false
    apart p q h = grind arith

-- one count went from those that are left to those that were added
pub sum-next : (before after : ℕ → ℕ) (rest more : List (ℕ × ℕ)) (p n total : ℕ) (q : ℕ) → IsStrictlySortedBy nat_cmp (keys_of rest) → rest ≡ (p, n) ∷ more
    → after q ≡ before q + (if p == q then n else 0) → before q + count_in rest q ≡ total → after q + count_in more q ≡ total
unfolding IsStrictlySortedBy
sum-next before after rest more p n total q s e a b = by (p == q) refl a
  where
    split : before q + count_in ((p, n) ∷ more) q ≡ total
    split = ap (λ (r : List (ℕ × ℕ)). before q + count_in r q) (sym e) ∙ b

    by : (t : Bool) → (p == q) ≡ t → after q ≡ before q + (if t then n else 0) → after q + count_in more q ≡ total
    by true t a =
        let same : p ≡ q = grind arith in
        let here : is_at (nat_cmp q) p ≡ true = grind arith in
        let now : count_in ((p, n) ∷ more) q ≡ n = rw here refl in
        let none : count_in more q ≡ 0 = subst (λ (r : ℕ). count_in more r ≡ 0) same (tail-none p more (subst (λ (r : List (ℕ × ℕ)). IsStrictlySortedBy nat_cmp (keys_of r)) e s).0) in
        omega (arith, split)
    by false t a =
        let here : is_at (nat_cmp q) p ≡ false = grind arith in
        let now : count_in ((p, n) ∷ more) q ≡ count_in more q = rw here refl in
        omega (arith, split)

pub rising-next : (rest more : List (ℕ × ℕ)) (x : ℕ × ℕ) → IsStrictlySortedBy nat_cmp (keys_of rest) → rest ≡ x ∷ more → IsStrictlySortedBy nat_cmp (keys_of more)
unfolding IsStrictlySortedBy
rising-next rest more x s e = (subst (λ (r : List (ℕ × ℕ)). IsStrictlySortedBy nat_cmp (keys_of r)) e s).1

pub positive-first : (rest more : List (ℕ × ℕ)) (x : ℕ × ℕ) → ArePositive rest → rest ≡ x ∷ more → 0 < x.1
positive-first rest more x s e = (subst ArePositive e s).0

pub positive-next : (rest more : List (ℕ × ℕ)) (x : ℕ × ℕ) → ArePositive rest → rest ≡ x ∷ more → ArePositive more
positive-next rest more x s e = (subst ArePositive e s).1

-- ---- counts of rows

rows-same : (n : ℕ) (ents : Entities) → row_total (given_entities n ents) ≡ row_total ents
rows-same n ents =
    turn-same (λ (en : ℕ × Rows). lists_in_rows en.1) given_entity (λ (en : ℕ × Rows). length en.1) (λ (en : ℕ × Rows). length en.1) (λ n en. turn-length (total lists_in) given_row n en.1) n ents

later-same : (p n : ℕ) (rs : Rows) → total (total (has_pred p)) (later (given_rows n rs)) ≡ total (total (has_pred p)) (later rs)
later-same p n [] = refl
later-same p n (r ∷ rs) = has-rows p (n + total lists_in r) rs

spills-same : (p n : ℕ) (ents : Entities) → spill_total p (given_entities n ents) ≡ spill_total p ents
spills-same p n ents =
    turn-same (λ (en : ℕ × Rows). lists_in_rows en.1) given_entity (λ (en : ℕ × Rows). total (total (has_pred p)) (later en.1)) (λ (en : ℕ × Rows). total (total (has_pred p)) (later en.1))
    (λ n en. later-same p n en.1) n ents

pub counted-both : (first others : Entities) (n a b : ℕ) (counts more both : List (ℕ × ℕ)) → AreCounted first a counts → AreCounted others b more → ((q : ℕ) → count_in both q ≡ count_in counts q + count_in more q)
    → AreCounted (first ++ given_entities n others) (a + b) both
counted-both first others n a b counts more both x y sum = record {
  rows = omega (arith, total-append (λ (en : ℕ × Rows). length en.1) first (given_entities n others), rows-same n others, x.rows, y.rows);
  spilled = λ p. omega (arith, sum p, total-append (λ (en : ℕ × Rows). total (total (has_pred p)) (later en.1)) first (given_entities n others), spills-same p n others, x.spilled p, y.spilled p);
}

-- ---- things that change in their places

-- one place on
pub place-next : {X : Type 0} (c : X → ℕ) (f : ℕ → X → X) (L : X → List (List ℕ)) (all xs new : List X) (at : ℕ) (x y : X) (start to after : ListsOf) → ((x : X) → length (L x) ≡ c x)
    → Going c f L [] (take at xs) all (drop at xs) start to → at < length xs → x ≡ get_or xs at x → y ≡ f to.next x → after ≡ with_lists to (L x) → new ≡ set xs at y
    → Going c f L [] (take (at + 1) new) all (drop (at + 1) new) start after
place-next {X} c f L all xs new at x y start to after count g within is made given put =
    let e : drop at xs ≡ x ∷ drop (at + 1) xs = left-next xs at x within is in
    let n : at + 1 ≡ suc at = omega arith in
    let front : take (at + 1) new ≡ take at xs ++ y ∷ [] = ap (take (at + 1)) put ∙ ap (λ (m : ℕ). take m (set xs at y)) n ∙ take-suc-set xs at y within in
    let back : drop (at + 1) new ≡ drop (at + 1) xs = ap (drop (at + 1)) put ∙ drop-set-lt (at + 1) xs at y (omega arith) in
    subst (λ (r : List X). Going c f L [] (take (at + 1) new) all r start after) (sym back)
    (going-next c f L [] (take at xs) (take (at + 1) new) all (drop at xs) (drop (at + 1) xs) x y start to after count g e made given front)

pub place-good : {X : Type 0} (c : X → ℕ) (f : ℕ → X → X) (L : X → List (List ℕ)) (all xs : List X) (at : ℕ) (x : X) (start to : ListsOf) → Going c f L [] (take at xs) all (drop at xs) start to
    → at < length xs → x ≡ get_or xs at x → AllByRecursion IsSoundList (L x)
place-good c f L all xs at x start to g within is = going-good c f L [] (take at xs) all (drop at xs) (drop (at + 1) xs) x start to g (left-next xs at x within is)

pub places-made : {X : Type 0} (c : X → ℕ) (f : ℕ → X → X) (L : X → List (List ℕ)) (all xs : List X) (at : ℕ) (start to : ListsOf) → Going c f L [] (take at xs) all (drop at xs) start to → length xs ≤ at
    → xs ≡ in_turn c f start.next all
places-made c f L all xs at start to g end = sym (take_all at xs end) ∙ going-made c f L [] (take at xs) all (drop at xs) start to g (left-none xs at end)

pub places-lists : {X : Type 0} (c : X → ℕ) (f : ℕ → X → X) (L : X → List (List ℕ)) (all xs : List X) (at : ℕ) (start to : ListsOf) → Going c f L [] (take at xs) all (drop at xs) start to → length xs ≤ at
    → to ≡ with_lists start (flat_map L all)
places-lists c f L all xs at start to g end = going-lists c f L [] (take at xs) all (drop at xs) start to g (left-none xs at end)

-- one more entity was moved
pub entities-next : (first done new all rest more : Entities) (entity : ℕ) (rows moved : Rows) (start to after : ListsOf) (lists : ValueLists)
    → Going (λ (en : ℕ × Rows). lists_in_rows en.1) given_entity (λ (en : ℕ × Rows). named_in_rows lists en.1) first done all rest start to → IsAbove done rest → IsStrictlySortedBy nat_cmp (keys_of rest)
    → rest ≡ (entity, rows) ∷ more → moved ≡ given_rows to.next rows → after ≡ with_lists to (named_in_rows lists rows) → new ≡ insert_entry nat_cmp done entity moved
    → Going (λ (en : ℕ × Rows). lists_in_rows en.1) given_entity (λ (en : ℕ × Rows). named_in_rows lists en.1) first new all more start after × IsAbove new more × IsStrictlySortedBy nat_cmp (keys_of more)
entities-next first done new all rest more entity rows moved start to after lists going above rising e made given put =
    let n : new ≡ done ++ (entity, moved) ∷ [] = put ∙ entry-last done entity moved (above-first done rest more (entity, rows) above e) in (
      going-next (λ (en : ℕ × Rows). lists_in_rows en.1) given_entity (λ (en : ℕ × Rows). named_in_rows lists en.1) first done new all rest more (entity, rows) (entity, moved) start to after
          (λ (en : ℕ × Rows). count-rows lists en.1) going e (ap (λ (rs : Rows). (entity, rs)) made) given n,
      above-next done new rest more (entity, rows) moved above rising e n,
      sorted-next rest more (entity, rows) rising e,
    )
