-- Sides one behind the other: what holds of them.
use Rattle.std.proofs.Common.{◌≡◌, ◌<◌, ◌≤◌, ℕ, zero, suc, ◌+◌, ◌==◌, ◌&&◌, nat_eq, nat_le, nat_lt, Bool, true, false, List, [], ◌∷◌, ◌++◌, length, Option, Some, None, refl, sym, ap, ◌∙◌, arith, subst}
use Rattle.std.specs.List.{list_any, flat_map, AllByRecursion}
use Rattle.std.specs.Ordering.{nat_cmp}
use Rattle.std.specs.BTreeMap.{is_at}
use Rattle.std.specs.Map.{lookup}
use Rattle.std.proofs.lemmas.Bool.Decides.{nat_tests}
use Rattle.bags.specs.Bag.{total, SameBag}
use Rattle.layout_meaning.specs.declared.value.Value.{Value}
use Rattle.layout_meaning.specs.declared.value.Value.TheVariants.{One, Many}
use Rattle.layout_meaning.specs.Side.{Pair, Row, Rows, Entities, Item, ValueLists, SideState, elements_of, values_of, all_free, items}
use Rattle.layout_meaning.specs.Sound.{one_if, over, has_pred, value_names, names, numbered, AreSoundRows, IsSoundList, IsSound, pair_at, RowKeeps, KeepsTo}
use Rattle.layout_meaning.proofs.RowsKept.{All-found}
use Rattle.layout_meaning.proofs.Sums.{weight, total-append, total-items, none-numbered}
use Rattle.layout_bulk_meaning.specs.Appended.{lists_in_value, lists_in, given_value, given_pair, given_row, given_rows, lists_in_rows, given_entity, given_entities, named_by_value, named_by, named_in_rows, named_lists, with_lists, lists_of, appended}
use Rattle.layout_bulk_meaning.proofs.Turns.{turn-length, turn-all, turn-same, inside, turn-inside, Hold, turn-holds, length-flat, each-append, flat-each}
use Rattle.layout_bulk_meaning.proofs.MoreLists.{below-all, numbered-all, sound-all, holds, weights-kept}

-- ---- how many lists are named

pub count-by : (lists : ValueLists) (o : Option Pair) → length (named_by lists o) ≡ lists_in o
count-by lists None = refl
count-by lists (Some q) = by q.value
  where
    by : (v : Value) → length (named_by_value lists v) ≡ lists_in_value v
    by (One v) = refl
    by (Many m) = refl

pub count-row : (lists : ValueLists) (r : Row) → length (flat_map (named_by lists) r) ≡ total lists_in r
count-row lists r = length-flat lists_in (named_by lists) (count-by lists) r

pub count-rows : (lists : ValueLists) (rs : Rows) → length (named_in_rows lists rs) ≡ lists_in_rows rs
count-rows lists rs = length-flat (total lists_in) (flat_map (named_by lists)) (count-row lists) rs

pub count-lists : (lists : ValueLists) (ents : Entities) → length (named_lists lists ents) ≡ total (λ (en : ℕ × Rows). lists_in_rows en.1) ents
count-lists lists ents = length-flat (λ (en : ℕ × Rows). lists_in_rows en.1) (λ (en : ℕ × Rows). named_in_rows lists en.1) (λ (en : ℕ × Rows). count-rows lists en.1) ents

-- ---- weights on which numbers have no bearing

has-same : (p n : ℕ) (o : Option Pair) → has_pred p (given_pair n o) ≡ has_pred p o
has-same p n None = refl
has-same p n (Some q) = refl

pub has-row : (p n : ℕ) (r : Row) → total (has_pred p) (given_row n r) ≡ total (has_pred p) r
has-row p n r = turn-same lists_in given_pair (has_pred p) (has_pred p) (has-same p) n r

pub has-rows : (p n : ℕ) (rs : Rows) → total (total (has_pred p)) (given_rows n rs) ≡ total (total (has_pred p)) rs
has-rows p n rs = turn-same (total lists_in) given_row (total (has_pred p)) (total (has_pred p)) (has-row p) n rs

-- ---- the numbers that are named

names-one : (m n : ℕ) → one_if (n == m) ≡ inside m n 1
names-one m n = by (n == m) refl (nat_le n m) refl (nat_lt m (n + 1)) refl
  where
    by : (p : Bool) → (n == m) ≡ p → (q : Bool) → nat_le n m ≡ q → (r : Bool) → nat_lt m (n + 1) ≡ r → one_if p ≡ one_if (q && r)
    by true e true f true g = refl
    by true e true f false g = absurd (grind (arith, nat_tests))
    by true e false f r g = absurd (grind (arith, nat_tests))
    by false e true f true g = absurd (grind (arith, nat_tests))
    by false e true f false g = refl
    by false e false f r g = refl

names-none : (m n : ℕ) → 0 ≡ inside m n 0
names-none m n = by (nat_le n m) refl (nat_lt m (n + 0)) refl
  where
    by : (a : Bool) → nat_le n m ≡ a → (b : Bool) → nat_lt m (n + 0) ≡ b → 0 ≡ one_if (a && b)
    by true t true u = absurd (grind (arith, nat_tests))
    by true t false u = refl
    by false t b u = refl

names-pair : (m n : ℕ) (o : Option Pair) → names m (given_pair n o) ≡ inside m n (lists_in o)
names-pair m n None = names-none m n
names-pair m n (Some q) = by q.value
  where
    by : (v : Value) → value_names m (given_value n v) ≡ inside m n (lists_in_value v)
    by (One v) = names-none m n
    by (Many k) = names-one m n

names-row : (m n : ℕ) (r : Row) → total (names m) (given_row n r) ≡ inside m n (total lists_in r)
names-row m n r = turn-inside lists_in given_pair (names m) m (names-pair m) n r

names-rows : (m n : ℕ) (rs : Rows) → total (total (names m)) (given_rows n rs) ≡ inside m n (lists_in_rows rs)
names-rows m n rs = turn-inside (total lists_in) given_row (total (names m)) m (names-row m) n rs

names-entities : (m n : ℕ) (ents : Entities) → over (λ e. names m) (given_entities n ents) ≡ inside m n (total (λ (en : ℕ × Rows). lists_in_rows en.1) ents)
names-entities m n ents = turn-inside (λ (en : ℕ × Rows). lists_in_rows en.1) given_entity (λ (en : ℕ × Rows). total (total (names m)) en.1) m (λ n en. names-rows m n en.1) n ents

-- ---- what is held

held-pair : (f : Item → ℕ) (lists new : ValueLists) (e n : ℕ) (o : Option Pair) → Hold new n (named_by lists o) → weight f new e (given_pair n o) ≡ weight f lists e o
held-pair f lists new e n None h = refl
held-pair f lists new e n (Some q) h = by q.value h
  where
    by : (v : Value) → Hold new n (named_by_value lists v) → total (λ (w : ℕ). f (record { entity = e; pred = q.pred; value = w })) (values_of new (given_value n v)) ≡ total (λ (w : ℕ). f (record { entity = e; pred = q.pred; value = w })) (values_of lists v)
    by (One v) h = refl
    by (Many m) h = ap (total (λ (w : ℕ). f (record { entity = e; pred = q.pred; value = w }))) h.0

held-row : (f : Item → ℕ) (lists new : ValueLists) (e n : ℕ) (r : Row) → Hold new n (flat_map (named_by lists) r) → total (weight f new e) (given_row n r) ≡ total (weight f lists e) r
held-row f lists new e n r h = turn-holds lists_in given_pair (weight f new e) (weight f lists e) (named_by lists) new (count-by lists) (held-pair f lists new e) n r h

held-rows : (f : Item → ℕ) (lists new : ValueLists) (e n : ℕ) (rs : Rows) → Hold new n (named_in_rows lists rs) → total (total (weight f new e)) (given_rows n rs) ≡ total (total (weight f lists e)) rs
held-rows f lists new e n rs h = turn-holds (total lists_in) given_row (total (weight f new e)) (total (weight f lists e)) (flat_map (named_by lists)) new (count-row lists) (held-row f lists new e) n rs h

held-entities : (f : Item → ℕ) (lists new : ValueLists) (n : ℕ) (ents : Entities) → Hold new n (named_lists lists ents) → over (weight f new) (given_entities n ents) ≡ over (weight f lists) ents
held-entities f lists new n ents h =
    turn-holds (λ (en : ℕ × Rows). lists_in_rows en.1) given_entity (λ (en : ℕ × Rows). total (total (weight f new en.0)) en.1) (λ (en : ℕ × Rows). total (total (weight f lists en.0)) en.1)
    (λ (en : ℕ × Rows). named_in_rows lists en.1) new (λ (en : ℕ × Rows). count-rows lists en.1) (λ n en. held-rows f lists new en.0 n en.1) n ents h

-- ---- the lists that are named are lists

good-pair : (lists : ValueLists) (o : Option Pair) → ((m : ℕ) → 0 < names m o → IsSoundList (elements_of lists m)) → AllByRecursion IsSoundList (named_by lists o)
good-pair lists None h = tt
good-pair lists (Some q) h = by q.value h
  where
    self : (m : ℕ) → 0 < one_if (m == m)
    self m = let e : (m == m) ≡ true = grind arith in rw e (omega arith)

    by : (v : Value) → ((m : ℕ) → 0 < value_names m v → IsSoundList (elements_of lists m)) → AllByRecursion IsSoundList (named_by_value lists v)
    by (One v) h = tt
    by (Many m) h = (h m (self m), tt)

good-row : (lists : ValueLists) (r : Row) → ((m : ℕ) → 0 < total (names m) r → IsSoundList (elements_of lists m)) → AllByRecursion IsSoundList (flat_map (named_by lists) r)
good-row lists r h = flat-each IsSoundList (λ m. IsSoundList (elements_of lists m)) (λ m. names m) (named_by lists) (good-pair lists) r h

good-rows : (lists : ValueLists) (rs : Rows) → ((m : ℕ) → 0 < total (total (names m)) rs → IsSoundList (elements_of lists m)) → AllByRecursion IsSoundList (named_in_rows lists rs)
good-rows lists rs h = flat-each IsSoundList (λ m. IsSoundList (elements_of lists m)) (λ m. total (names m)) (flat_map (named_by lists)) (good-row lists) rs h

good-lists : (lists : ValueLists) (ents : Entities) → ((m : ℕ) → 0 < over (λ e. names m) ents → IsSoundList (elements_of lists m)) → AllByRecursion IsSoundList (named_lists lists ents)
good-lists lists ents h =
    flat-each IsSoundList (λ m. IsSoundList (elements_of lists m)) (λ m (en : ℕ × Rows). total (total (names m)) en.1) (λ (en : ℕ × Rows). named_in_rows lists en.1) (λ (en : ℕ × Rows). good-rows lists en.1) ents h

listed : (k : ℕ) (t : SideState) → IsSound k t → (m : ℕ) → 0 < over (λ e. names m) t.entities → IsSoundList (elements_of t.lists m)
listed k t sound m h = by (lookup (is_at (nat_cmp m)) t.lists) refl
  where
    by : (o : Option (List ℕ)) → lookup (is_at (nat_cmp m)) t.lists ≡ o → IsSoundList (elements_of t.lists m)
    by None e = absurd (omega (arith, sound.named m, none-numbered m t.lists e))
    by (Some xs) e = rw e (All-found IsSoundList m xs t.lists sound.lists e)

pub good : (k : ℕ) (t : SideState) → IsSound k t → AllByRecursion IsSoundList (named_lists t.lists t.entities)
good k t sound = good-lists t.lists t.entities (listed k t sound)

-- ---- rows

free-row : (n : ℕ) (r : Row) → all_free (given_row n r) ≡ all_free r
free-row n [] = refl
free-row n (None ∷ r) = free-row (n + 0) r
free-row n (Some q ∷ r) = refl

rows-sound : (k n : ℕ) (rs : Rows) → AreSoundRows k rs → AreSoundRows k (given_rows n rs)
rows-sound k n rs a = record {
  some = (let e = turn-length (total lists_in) given_row n rs in let s = a.some in omega arith);
  wide = turn-all (total lists_in) given_row (λ (r : Row). length r ≡ k) (λ (r : Row). length r ≡ k) (λ n r h. turn-length lists_in given_pair n r ∙ h) n rs a.wide;
  full = turn-all (total lists_in) given_row (λ (r : Row). all_free r ≡ false) (λ (r : Row). all_free r ≡ false) (λ n r h. free-row n r ∙ h) n rs a.full;
  once = λ p. (let e = has-rows p n rs in let o = a.once p in omega arith);
}

below-zero : (m n k : ℕ) → n + k ≤ m → inside m n k ≡ 0
below-zero m n k h = by (nat_le n m) refl (nat_lt m (n + k)) refl
  where
    by : (a : Bool) → nat_le n m ≡ a → (b : Bool) → nat_lt m (n + k) ≡ b → one_if (a && b) ≡ 0
    by true t true u = absurd (grind (arith, nat_tests))
    by true t false u = refl
    by false t b u = refl

at_most_one : (m n k a : ℕ) → a ≤ 1 → (n ≤ m → a ≡ 0) → a + inside m n k ≤ 1
at_most_one m n k a l z = by (nat_le n m) refl (nat_lt m (n + k))
  where
    by : (p : Bool) → nat_le n m ≡ p → (q : Bool) → a + one_if (p && q) ≤ 1
    by true t true = let h : n ≤ m = grind (arith, nat_tests) in let e : a ≡ 0 = z h in omega arith
    by true t false = omega arith
    by false t q = omega arith

over-append : (g : ℕ → Option Pair → ℕ) (xs ys : Entities) → over g (xs ++ ys) ≡ over g xs + over g ys
over-append g xs ys = total-append (λ (en : ℕ × Rows). total (total (g en.0)) en.1) xs ys

pub sound-appended : (k : ℕ) (s t : SideState) → IsSound k s → IsSound k t → IsSound k (appended s t)
sound-appended k s t a b = record {
  rows = each-append (λ (en : ℕ × Rows). AreSoundRows k en.1) s.entities (given_entities s.next t.entities) a.rows
      (turn-all (λ (en : ℕ × Rows). lists_in_rows en.1) given_entity (λ (en : ℕ × Rows). AreSoundRows k en.1) (λ (en : ℕ × Rows). AreSoundRows k en.1) (λ n en h. rows-sound k n en.1 h) s.next t.entities b.rows);
  lists = sound-all (lists_of s) xss a.lists (good k t b);
  named = λ m. omega (arith, over-append (λ e. names m) s.entities (given_entities s.next t.entities), a.named m, names-entities m s.next t.entities, numbered-all m (lists_of s) xss a.below, same m);
  apart = λ m. (let e = numbered-all m (lists_of s) xss a.below in let o = at_most_one m s.next (length xss) (numbered m s.lists) (a.apart m) (a.below m) in omega arith);
  below = below-all (lists_of s) xss a.below;
}
  where
    xss : List (List ℕ)
    xss = named_lists t.lists t.entities

    same : (m : ℕ) → inside m s.next (total (λ (en : ℕ × Rows). lists_in_rows en.1) t.entities) ≡ inside m s.next (length (named_lists t.lists t.entities))
    same m = ap (inside m s.next) (sym (count-lists t.lists t.entities))

pub held-appended : (k : ℕ) (f : Item → ℕ) (s t : SideState) → IsSound k s → IsSound k t → total f (items (appended s t)) ≡ total f (items s) + total f (items t)
held-appended k f s t a b =
    let xss = named_lists t.lists t.entities in
    let new = (with_lists (lists_of s) xss).lists in
    let first : over (weight f new) s.entities ≡ over (weight f s.lists) s.entities = weights-kept f s.entities (lists_of s) xss a.below (λ m h. a.named m ∙ a.below m h) in
    let later : over (weight f new) (given_entities s.next t.entities) ≡ over (weight f t.lists) t.entities = held-entities f t.lists new s.next t.entities (holds (lists_of s) xss a.below) in
    omega (arith, total-items f (appended s t), total-items f s, total-items f t, over-append (weight f new) s.entities (given_entities s.next t.entities), first, later)

pub items-appended : (k : ℕ) (s t : SideState) → IsSound k s → IsSound k t → SameBag (items (appended s t)) (items s ++ items t)
items-appended k s t a b = record { totals = λ f. held-appended k f s t a b ∙ sym (total-append f (items s) (items t)) }

-- ---- columns

keeps-pair : (o : Option Pair) (n : ℕ) (q : Pair) → given_pair n o ≡ Some q → (p : Pair) × (o ≡ Some p) × (p.pred ≡ q.pred)
keeps-pair None n q e = cc
keeps-pair (Some p) n q e =
    let made : Pair = record { pred = p.pred; value = given_value n p.value } in
    let k : made ≡ q = cc in (p, refl, ap (λ (z : Pair). z.pred) k)

keeps-at : (r : Row) (n c : ℕ) (q : Pair) → pair_at (given_row n r) c ≡ Some q → (p : Pair) × (pair_at r c ≡ Some p) × (p.pred ≡ q.pred)
keeps-at [] n c q e = cc
keeps-at (o ∷ r) n zero q e = keeps-pair o n q e
keeps-at (o ∷ r) n (suc c) q e = keeps-at r (n + lists_in o) c q e

keeps-row : (candidates : ℕ → List ℕ) (n : ℕ) (r : Row) → RowKeeps candidates r → RowKeeps candidates (given_row n r)
keeps-row candidates n r h = record {
  in_columns = λ c q e. (let k = keeps-at r n c q e in subst (λ (p : ℕ). list_any (nat_eq c) (candidates p) ≡ true) k.2 (h.in_columns c k.0 k.1));
}

pub keeps-appended : (candidates : ℕ → List ℕ) (s t : SideState) → KeepsTo candidates s → KeepsTo candidates t → KeepsTo candidates (appended s t)
keeps-appended candidates s t a b = record {
  rows = each-append (λ (en : ℕ × Rows). AllByRecursion (RowKeeps candidates) en.1) s.entities (given_entities s.next t.entities) a.rows
      (turn-all (λ (en : ℕ × Rows). lists_in_rows en.1) given_entity (λ (en : ℕ × Rows). AllByRecursion (RowKeeps candidates) en.1) (λ (en : ℕ × Rows). AllByRecursion (RowKeeps candidates) en.1)
      (λ n en h. turn-all (total lists_in) given_row (RowKeeps candidates) (RowKeeps candidates) (λ n r k. keeps-row candidates n r k) n en.1 h) s.next t.entities b.rows);
}
