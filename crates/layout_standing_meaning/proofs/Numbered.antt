-- The rows of entities, numbered.
use Rattle.std.proofs.Common.{◌≡◌, ℕ, suc, ◌+◌, ◌≤◌, ◌<◌, ◌==◌, ◌&&◌, ◌||◌, Bool, true, false, if◌then◌else◌, List, [], ◌∷◌, ◌++◌, Less, refl, sym, ap, ◌∙◌, arith, subst}
use Rattle.std.specs.List.{list_any, flat_map, AllByRecursion}
use Rattle.std.specs.List.Sorted.{IsStrictlySortedBy}
use Rattle.std.specs.Ordering.{nat_cmp}
use Rattle.std.specs.Map.{keys_of}
use Rattle.bags.specs.Bag.{total}
use Rattle.bags.specs.BagLaws.{total-flat_map, total-same, total-zero, each-flat_map, each-weaker}
use Rattle.layout_meaning.specs.Side.{Row, Rows, Entities, Item, ValueLists, SideState, pair_items, items}
use Rattle.layout_meaning.specs.Sound.{one_if, over}
use Rattle.layout_meaning.specs.Rows.{NumberedRow, rows_from, numbered_rows}
use Rattle.layout_standing_meaning.specs.Contents.{said, side_contents}
use Rattle.layout_standing_meaning.specs.Sides.{AreOnce}
use Rattle.layout_standing_meaning.specs.Standing.{is_row}
use Rattle.layout_standing_meaning.proofs.Each.{total-below, any-flat_map, any-weaker}

from-total : (f : ℕ → Row → ℕ) (e n : ℕ) (rs : Rows) → total (λ (r : NumberedRow). f r.entity r.pairs) (rows_from e n rs) ≡ total (f e) rs
from-total f e n [] = refl
from-total f e n (r ∷ rs) = ap (λ (m : ℕ). f e r + m) (from-total f e (n + 1) rs)

pub numbered-total : (f : ℕ → Row → ℕ) (ents : Entities) → total (λ (r : NumberedRow). f r.entity r.pairs) (numbered_rows ents) ≡ total (λ (en : ℕ × Rows). total (f en.0) en.1) ents
numbered-total f ents =
    total-flat_map (λ (r : NumberedRow). f r.entity r.pairs) (λ (en : ℕ × Rows). rows_from en.0 0 en.1) ents
    ∙ total-same _ _ (λ (en : ℕ × Rows). from-total f en.0 0 en.1) ents

each-from : (P : ℕ → Row → Type 0) (e n : ℕ) (rs : Rows) → AllByRecursion (P e) rs → AllByRecursion (λ (r : NumberedRow). P r.entity r.pairs) (rows_from e n rs)
each-from P e n [] h = tt
each-from P e n (r ∷ rs) h = (h.0, each-from P e (n + 1) rs h.1)

pub each-numbered : (P : ℕ → Row → Type 0) (ents : Entities) → AllByRecursion (λ (en : ℕ × Rows). AllByRecursion (P en.0) en.1) ents → AllByRecursion (λ (r : NumberedRow). P r.entity r.pairs) (numbered_rows ents)
each-numbered P ents h =
    each-flat_map (λ (r : NumberedRow). P r.entity r.pairs) (λ (en : ℕ × Rows). rows_from en.0 0 en.1) ents
    (each-weaker (λ (en : ℕ × Rows). AllByRecursion (P en.0) en.1) (λ (en : ℕ × Rows). AllByRecursion (λ (r : NumberedRow). P r.entity r.pairs) (rows_from en.0 0 en.1)) (λ (en : ℕ × Rows) (k : AllByRecursion (P en.0) en.1). each-from P en.0 0 en.1 k) ents h)

-- rising entities stand once
pub keys-once : (ents : Entities) → IsStrictlySortedBy nat_cmp (keys_of ents) → AreOnce ents
unfolding IsStrictlySortedBy
keys-once [] h e = omega arith
keys-once (en ∷ ents) h e = by (en.0 == e) refl (keys-once ents h.1 e)
  where
    none : (k : ℕ) (ents : Entities) → AllByRecursion (λ n. nat_cmp k n ≡ Less) (keys_of ents) → total (λ (en : ℕ × Rows). one_if (en.0 == k)) ents ≡ 0
    none k [] h = refl
    none k (x ∷ xs) h = let a : (x.0 == k) ≡ false = apart k x.0 h.0 in let b : one_if (x.0 == k) ≡ 0 = ap one_if a in let c : total (λ (en : ℕ × Rows). one_if (en.0 == k)) xs ≡ 0 = none k xs h.1 in omega arith
      where
        apart : (k n : ℕ) → nat_cmp k n ≡ Less → (n == k) ≡ false
        apart k n h = grind arith

    by : (b : Bool) → (en.0 == e) ≡ b → total (λ (en : ℕ × Rows). one_if (en.0 == e)) ents ≤ 1 → one_if b + total (λ (en : ℕ × Rows). one_if (en.0 == e)) ents ≤ 1
    by true t ih =
        let k : en.0 ≡ e = grind arith in
        let z : total (λ (x : ℕ × Rows). one_if (x.0 == e)) ents ≡ 0 = subst (λ (n : ℕ). total (λ (x : ℕ × Rows). one_if (x.0 == n)) ents ≡ 0) k (none en.0 ents h.0) in omega arith
    by false t ih = omega arith

-- a row stands once
apart : (m n : ℕ) → n < m → (m == n) ≡ false
apart m n l = grind arith

no_and : (a b : Bool) → b ≡ false → one_if (a && b) ≡ 0
no_and true b h = ap one_if h
no_and false b h = refl

later-none : (e n k m : ℕ) (rs : Rows) → n < m → total (λ (r : NumberedRow). one_if (is_row e n r)) (rows_from k m rs) ≡ 0
later-none e n k m [] l = refl
later-none e n k m (r ∷ rs) l =
    let ih : total (λ (r : NumberedRow). one_if (is_row e n r)) (rows_from k (m + 1) rs) ≡ 0 = later-none e n k (m + 1) rs (omega arith) in
    let z : one_if ((k == e) && (m == n)) ≡ 0 = no_and (k == e) (m == n) (apart m n l) in omega arith

from-once : (e n k m : ℕ) (rs : Rows) → total (λ (r : NumberedRow). one_if (is_row e n r)) (rows_from k m rs) ≤ one_if (k == e)
from-once e n k m [] = omega arith
from-once e n k m (r ∷ rs) = by (m == n) refl (k == e) refl (from-once e n k (m + 1) rs)
  where
    by : (b : Bool) → (m == n) ≡ b → (a : Bool) → (k == e) ≡ a → total (λ (r : NumberedRow). one_if (is_row e n r)) (rows_from k (m + 1) rs) ≤ one_if (k == e)
        → one_if (a && b) + total (λ (r : NumberedRow). one_if (is_row e n r)) (rows_from k (m + 1) rs) ≤ one_if a
    by true t a s ih =
        let l : n < m + 1 = grind arith in
        let z : total (λ (r : NumberedRow). one_if (is_row e n r)) (rows_from k (m + 1) rs) ≡ 0 = later-none e n k (m + 1) rs l in
        both a z
      where
        both : (a : Bool) → total (λ (r : NumberedRow). one_if (is_row e n r)) (rows_from k (m + 1) rs) ≡ 0 → one_if (a && true) + total (λ (r : NumberedRow). one_if (is_row e n r)) (rows_from k (m + 1) rs) ≤ one_if a
        both true z = omega arith
        both false z = omega arith
    by false t true s ih = let i : one_if (k == e) ≡ 1 = ap one_if s in omega (arith, ih)
    by false t false s ih = let i : one_if (k == e) ≡ 0 = ap one_if s in omega (arith, ih)

pub rows-once : (ents : Entities) → AreOnce ents → (e n : ℕ) → total (λ (r : NumberedRow). one_if (is_row e n r)) (numbered_rows ents) ≤ 1
rows-once ents once e n =
    let a : total (λ (r : NumberedRow). one_if (is_row e n r)) (numbered_rows ents) ≡ total (λ (en : ℕ × Rows). total (λ (r : NumberedRow). one_if (is_row e n r)) (rows_from en.0 0 en.1)) ents
    = total-flat_map (λ (r : NumberedRow). one_if (is_row e n r)) (λ (en : ℕ × Rows). rows_from en.0 0 en.1) ents in
    let b : total (λ (en : ℕ × Rows). total (λ (r : NumberedRow). one_if (is_row e n r)) (rows_from en.0 0 en.1)) ents ≤ total (λ (en : ℕ × Rows). one_if (en.0 == e)) ents
    = below ents in
    let c : total (λ (en : ℕ × Rows). one_if (en.0 == e)) ents ≤ 1 = once e in
    omega arith
  where
    below : (ents : Entities) → total (λ (en : ℕ × Rows). total (λ (r : NumberedRow). one_if (is_row e n r)) (rows_from en.0 0 en.1)) ents ≤ total (λ (en : ℕ × Rows). one_if (en.0 == e)) ents
    below [] = omega arith
    below (en ∷ ents) = omega (arith, from-once e n en.0 0 en.1, below ents)

-- the row before it is there
same_entity : (e n k m : ℕ) (rs : Rows) → list_any (is_row e n) (rows_from k m rs) ≡ true → (k == e) ≡ true
same_entity e n k m [] h = cc
same_entity e n k m (r ∷ rs) h = by (k == e) refl h (same_entity e n k (m + 1) rs)
  where
    by : (b : Bool) → (k == e) ≡ b → (b && (m == n) || list_any (is_row e n) (rows_from k (m + 1) rs)) ≡ true → (list_any (is_row e n) (rows_from k (m + 1) rs) ≡ true → (k == e) ≡ true) → b ≡ true
    by true t h ih = refl
    by false t h ih = sym t ∙ ih h

from-gap : (e n k m : ℕ) (rs : Rows) → m ≤ n → list_any (is_row e (suc n)) (rows_from k m rs) ≡ true → list_any (is_row e n) (rows_from k m rs) ≡ true
from-gap e n k m [] l h = cc
from-gap e n k m (r ∷ rs) l h = by (k == e) (same_entity e (suc n) k m (r ∷ rs) h) (m == n) refl (from-gap e n k (m + 1) rs)
  where
    other : (m == suc n) ≡ false
    other = grind arith

    rest : (b : Bool) → (b && (m == suc n) || list_any (is_row e (suc n)) (rows_from k (m + 1) rs)) ≡ true → list_any (is_row e (suc n)) (rows_from k (m + 1) rs) ≡ true
    rest true h = ap (λ (c : Bool). c || list_any (is_row e (suc n)) (rows_from k (m + 1) rs)) (sym other) ∙ h
    rest false h = h

    or_right : (a b : Bool) → b ≡ true → (a || b) ≡ true
    or_right true b t = refl
    or_right false b t = t

    by : (a : Bool) → a ≡ true → (b : Bool) → (m == n) ≡ b → (m + 1 ≤ n → list_any (is_row e (suc n)) (rows_from k (m + 1) rs) ≡ true → list_any (is_row e n) (rows_from k (m + 1) rs) ≡ true)
        → (a && b || list_any (is_row e n) (rows_from k (m + 1) rs)) ≡ true
    by true s true t ih = refl
    by true s false t ih = let less : m + 1 ≤ n = grind arith in ih less (rest (k == e) h)
    by false s b t ih = cc

pub no-gap : (ents : Entities) → (e n : ℕ) → list_any (is_row e (suc n)) (numbered_rows ents) ≡ true → list_any (is_row e n) (numbered_rows ents) ≡ true
no-gap ents e n h =
    any-flat_map (is_row e n) (λ (en : ℕ × Rows). rows_from en.0 0 en.1) ents
    ∙ any-weaker (λ (en : ℕ × Rows). list_any (is_row e (suc n)) (rows_from en.0 0 en.1)) (λ (en : ℕ × Rows). list_any (is_row e n) (rows_from en.0 0 en.1))
    (λ (en : ℕ × Rows) (k : list_any (is_row e (suc n)) (rows_from en.0 0 en.1) ≡ true). from-gap e n en.0 0 en.1 (omega arith) k) ents
    (sym (any-flat_map (is_row e (suc n)) (λ (en : ℕ × Rows). rows_from en.0 0 en.1) ents) ∙ h)

-- a sum over the rows of one entity is within 1 where each entity's is
pub entity-once : (f : Row → ℕ) (ents : Entities) → AreOnce ents → AllByRecursion (λ (en : ℕ × Rows). total f en.1 ≤ 1) ents
    → (e : ℕ) → total (λ (r : NumberedRow). if r.entity == e then f r.pairs else 0) (numbered_rows ents) ≤ 1
entity-once f ents once each e =
    let a : total (λ (r : NumberedRow). if r.entity == e then f r.pairs else 0) (numbered_rows ents) ≡ total (λ (en : ℕ × Rows). total (λ (r : Row). if en.0 == e then f r else 0) en.1) ents
    = numbered-total (λ (k : ℕ) (r : Row). if k == e then f r else 0) ents in
    let b : total (λ (en : ℕ × Rows). total (λ (r : Row). if en.0 == e then f r else 0) en.1) ents ≤ total (λ (en : ℕ × Rows). one_if (en.0 == e)) ents
    = total-below (λ (en : ℕ × Rows). total f en.1 ≤ 1) (λ (en : ℕ × Rows). total (λ (r : Row). if en.0 == e then f r else 0) en.1) (λ (en : ℕ × Rows). one_if (en.0 == e))
    (λ (en : ℕ × Rows) (l : total f en.1 ≤ 1). by (en.0 == e) en.1 l) ents each in
    let c : total (λ (en : ℕ × Rows). one_if (en.0 == e)) ents ≤ 1 = once e in
    omega arith
  where
    by : (b : Bool) (rs : Rows) → total f rs ≤ 1 → total (λ (r : Row). if b then f r else 0) rs ≤ one_if b
    by true rs l = l
    by false rs l = let z : total (λ (r : Row). 0) rs ≡ 0 = total-zero rs in omega arith

-- the items of a side
said-from : (lists : ValueLists) (e n : ℕ) (rs : Rows) → flat_map (λ (r : NumberedRow). flat_map (pair_items lists r.entity) r.pairs) (rows_from e n rs) ≡ flat_map (flat_map (pair_items lists e)) rs
said-from lists e n [] = refl
said-from lists e n (r ∷ rs) = ap (λ (l : List Item). flat_map (pair_items lists e) r ++ l) (said-from lists e (n + 1) rs)

flat-both : {X Y : Type 0} (f : X → List Y) (xs ys : List X) → flat_map f (xs ++ ys) ≡ flat_map f xs ++ flat_map f ys
flat-both f [] ys = refl
flat-both {X} {Y} f (x ∷ xs) ys = ap (λ (l : List Y). f x ++ l) (flat-both f xs ys) ∙ append-turned (f x) (flat_map f xs) (flat_map f ys)
  where
    append-turned : (a b c : List Y) → a ++ (b ++ c) ≡ (a ++ b) ++ c
    append-turned [] b c = refl
    append-turned (y ∷ a) b c = ap (λ (l : List Y). y ∷ l) (append-turned a b c)

pub said-is : (s : SideState) → said (side_contents s) ≡ items s
said-is s = by s.entities
  where
    by : (ents : Entities) → flat_map (λ (r : NumberedRow). flat_map (pair_items s.lists r.entity) r.pairs) (numbered_rows ents) ≡ flat_map (λ (en : ℕ × Rows). flat_map (flat_map (pair_items s.lists en.0)) en.1) ents
    by [] = refl
    by (en ∷ ents) =
        flat-both (λ (r : NumberedRow). flat_map (pair_items s.lists r.entity) r.pairs) (rows_from en.0 0 en.1) (numbered_rows ents)
        ∙ ap (λ (l : List Item). l ++ flat_map (λ (r : NumberedRow). flat_map (pair_items s.lists r.entity) r.pairs) (numbered_rows ents)) (said-from s.lists en.0 0 en.1)
        ∙ ap (λ (l : List Item). flat_map (flat_map (pair_items s.lists en.0)) en.1 ++ l) (by ents)
