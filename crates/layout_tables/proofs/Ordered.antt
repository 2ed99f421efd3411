-- The rows of the tables of a store stand in order.
use Rattle.std.proofs.Common.{◌≡◌, inl, inr, ℕ, zero, suc, ◌+◌, ◌≤◌, ◌<◌, ◌==◌, Bool, true, false, List, [], ◌∷◌, ◌++◌, Less, refl, arith}
use Rattle.std.specs.Prelude.{All, AllPairs}
use Rattle.std.specs.List.{AllByRecursion}
use Rattle.std.specs.List.Sorted.{IsStrictlySortedBy}
use Rattle.std.specs.Ordering.{nat_cmp}
use Rattle.std.specs.Map.{keys_of}
use Rattle.bags.specs.BagLaws.{each-append}
use Rattle.rdf_meaning.specs.Terms.{RdfTerm}
use Rattle.table_meaning.specs.Tables.{NamedTable}
use Rattle.layout_meaning.specs.Side.{Rows, Entities, ValueLists, SideState}
use Rattle.layout_meaning.specs.Sound.{one_if, numbered}
use Rattle.layout_meaning.specs.Rows.{NumberedRow, rows_from, numbered_rows}
use Rattle.layout_standing_meaning.specs.Dictionary.{Entry, numbered_from}
use Rattle.layout_standing_meaning.specs.Contents.{contents_of, side_contents}
use Rattle.layout_standing_meaning.specs.Stored.{StoreOf, IsStore, sides_of, layout_of, tables_of}
use Rattle.layout_list_laws.specs.InOrder.{AreRising, AreInOrder}
use Rattle.layout_tables.specs.RowOrder.{StandsBefore, IsInOrder, StandInOrder}

-- each item and each later one, by recursion
abbrev Rises : {X : Type 0} → (X → X → Type 0) → List X → Type 0
Rises R [] = Unit {0}
Rises R (x ∷ xs) = AllByRecursion (R x) xs × Rises R xs

all-of : {X : Type 0} (P : X → Type 0) (xs : List X) → AllByRecursion P xs → All P xs
all-of P [] h k d l = absurd (omega arith)
all-of P (x ∷ xs) h zero d l = h.0
all-of P (x ∷ xs) h (suc k) d l = all-of P xs h.1 k d (omega arith)

pairs-of : {X : Type 0} (R : X → X → Type 0) (xs : List X) → Rises R xs → AllPairs R xs
pairs-of R [] r i j d l m = absurd (omega arith)
pairs-of R (x ∷ xs) r i zero d l m = absurd (omega arith)
pairs-of R (x ∷ xs) r zero (suc j) d l m = all-of (R x) xs r.0 j d (omega arith)
pairs-of R (x ∷ xs) r (suc i) (suc j) d l m = pairs-of R xs r.1 i j d (omega arith) (omega arith)

rises-append : {X : Type 0} (R : X → X → Type 0) (xs ys : List X) → Rises R xs → Rises R ys → AllByRecursion (λ x. AllByRecursion (R x) ys) xs → Rises R (xs ++ ys)
rises-append R [] ys r q h = q
rises-append R (x ∷ xs) ys r q h = (each-append (R x) xs ys r.0 h.0, rises-append R xs ys r.1 q h.1)

-- the rows of one entity
behind : (a : NumberedRow) (e n : ℕ) (rs : Rows) → a.entity ≡ e → a.spill < n → AllByRecursion (StandsBefore a) (rows_from e n rs)
behind a e n [] s l = tt
behind a e n (r ∷ rs) s l = (inr (s, l), behind a e (n + 1) rs s (omega arith))

from-rises : (e n : ℕ) (rs : Rows) → Rises StandsBefore (rows_from e n rs)
from-rises e n [] = tt
from-rises e n (r ∷ rs) = (behind (record { entity = e; spill = n; pairs = r }) e (n + 1) rs refl (omega arith), from-rises e (n + 1) rs)

-- the rows of higher entities
higher : (a : NumberedRow) (e n : ℕ) (rs : Rows) → a.entity < e → AllByRecursion (StandsBefore a) (rows_from e n rs)
higher a e n [] l = tt
higher a e n (r ∷ rs) l = (inl l, higher a e (n + 1) rs l)

below : (m n : ℕ) → nat_cmp m n ≡ Less → m < n
below m n h = grind arith

all-higher : (a : NumberedRow) (ents : Entities) → AllByRecursion (λ n. nat_cmp a.entity n ≡ Less) (keys_of ents) → AllByRecursion (StandsBefore a) (numbered_rows ents)
all-higher a [] h = tt
all-higher a (en ∷ ents) h =
    each-append (StandsBefore a) (rows_from en.0 0 en.1) (numbered_rows ents) (higher a en.0 0 en.1 (below a.entity en.0 h.0)) (all-higher a ents h.1)

each-higher : (e n : ℕ) (rs : Rows) (ents : Entities) → AllByRecursion (λ k. nat_cmp e k ≡ Less) (keys_of ents) → AllByRecursion (λ (a : NumberedRow). AllByRecursion (StandsBefore a) (numbered_rows ents)) (rows_from e n rs)
each-higher e n [] ents h = tt
each-higher e n (r ∷ rs) ents h = (all-higher (record { entity = e; spill = n; pairs = r }) ents h, each-higher e (n + 1) rs ents h)

rows-rise : (ents : Entities) → IsStrictlySortedBy nat_cmp (keys_of ents) → Rises StandsBefore (numbered_rows ents)
unfolding IsStrictlySortedBy
rows-rise [] h = tt
rows-rise (en ∷ ents) h =
    rises-append StandsBefore (rows_from en.0 0 en.1) (numbered_rows ents) (from-rises en.0 0 en.1) (rows-rise ents h.1) (each-higher en.0 0 en.1 ents h.0)

-- lists whose numbers don't fall, and of which no two have one number
differs : (m n : ℕ) → m ≤ n → one_if (n == m) ≡ 0 → m < n
differs m n l z = by (n == m) refl z
  where
    by : (b : Bool) → (n == m) ≡ b → one_if b ≡ 0 → m < n
    by true e h = absurd (omega arith)
    by false e h = grind arith

strict : (n : ℕ) (lists : ValueLists) → AllByRecursion (λ (m : ℕ × List ℕ). n ≤ m.0) lists → numbered n lists ≡ 0 → AllByRecursion (λ (m : ℕ × List ℕ). n < m.0) lists
strict n [] h z = tt
strict n (m ∷ lists) h z = (differs n m.0 h.0 (omega arith), strict n lists h.1 (omega arith))

self : (n : ℕ) → one_if (n == n) ≡ 1
self n = grind arith

lists-rise : (lists : ValueLists) → AreRising lists → ((n : ℕ) → numbered n lists ≤ 1) → Rises (λ (l m : ℕ × List ℕ). l.0 < m.0) lists
lists-rise [] r apart = tt
lists-rise (l ∷ lists) r apart =
    let z : numbered l.0 lists ≡ 0 = (let a = apart l.0 in let b = self l.0 in omega arith) in
    (strict l.0 lists r.0 z, lists-rise lists r.1 (λ (n : ℕ). let a = apart n in omega arith))

-- terms are numbered one after another
ids-higher : (m n : ℕ) (terms : List RdfTerm) → m < n → AllByRecursion (λ (f : Entry). m < f.id) (numbered_from n terms)
ids-higher m n [] l = tt
ids-higher m n (t ∷ terms) l = (l, ids-higher m (n + 1) terms (omega arith))

terms-rise : (n : ℕ) (terms : List RdfTerm) → Rises (λ (e f : Entry). e.id < f.id) (numbered_from n terms)
terms-rise n [] = tt
terms-rise n (t ∷ terms) = (ids-higher n (n + 1) terms (omega arith), terms-rise (n + 1) terms)

in-order : (s : SideState) → IsStrictlySortedBy nat_cmp (keys_of s.entities) → AreRising s.lists → ((n : ℕ) → numbered n s.lists ≤ 1) → IsInOrder (side_contents s)
in-order s rising lists apart = record {
  rows = pairs-of StandsBefore (numbered_rows s.entities) (rows-rise s.entities rising);
  lists = pairs-of (λ (l m : ℕ × List ℕ). l.0 < m.0) s.lists (lists-rise s.lists lists apart);
}

pub ordered : (s : StoreOf) (tables : List NamedTable) → IsStore s → AreInOrder (sides_of s) → IsStrictlySortedBy nat_cmp (keys_of s.direct.state.entities) → IsStrictlySortedBy nat_cmp (keys_of s.reverse.state.entities)
    → tables ≡ tables_of s → StandInOrder (layout_of s) (contents_of s.direct.state s.reverse.state s.terms) tables
ordered s tables h lists d r e = record {
  rows = e;
  direct = in-order s.direct.state d lists.direct h.sides.direct.sound.apart;
  reverse = in-order s.reverse.state r lists.reverse h.sides.reverse.sound.apart;
  terms = pairs-of (λ (a b : Entry). a.id < b.id) (numbered_from 1 s.terms) (terms-rise 1 s.terms);
}
