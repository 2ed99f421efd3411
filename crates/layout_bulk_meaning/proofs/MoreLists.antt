-- Lists that are given under the next numbers.
use Rattle.std.proofs.Common.{◌≡◌, ◌<◌, ◌≤◌, ℕ, ◌+◌, ◌==◌, ◌&&◌, nat_le, nat_lt, Bool, true, false, List, [], ◌∷◌, length, Option, None, refl, sym, ap, ◌∙◌, arith}
use Rattle.std.specs.List.{AllByRecursion}
use Rattle.std.specs.Ordering.{nat_cmp}
use Rattle.std.specs.BTreeMap.{is_at}
use Rattle.std.specs.Map.{lookup}
use Rattle.std.proofs.lemmas.Bool.Decides.{nat_tests}
use Rattle.layout_meaning.specs.Side.{Item, Entities, or_empty, elements_of}
use Rattle.layout_meaning.specs.Lists.{ListsOf, with_list}
use Rattle.layout_meaning.specs.Sound.{one_if, numbered, names, over, IsSoundList}
use Rattle.layout_meaning.proofs.Maps.{insert_entry-total, insert_entry-other, insert_entry-same}
use Rattle.layout_meaning.proofs.RowsKept.{All-insert}
use Rattle.layout_meaning.proofs.Sums.{weight, over-frame, numbered-none}
use Rattle.layout_bulk_meaning.specs.Appended.{with_lists}
use Rattle.layout_bulk_meaning.proofs.Turns.{inside, Hold}

-- no list has a number from the next one on
abbrev pub AreBelow : ListsOf → Type 0
AreBelow l = (m : ℕ) → l.next ≤ m → numbered m l.lists ≡ 0

pub free : (l : ListsOf) → AreBelow l → lookup (is_at (nat_cmp l.next)) l.lists ≡ None
free l b = numbered-none l.next l.lists (b l.next (omega arith))

one_more : (m : ℕ) (l : ListsOf) (xs : List ℕ) → AreBelow l → numbered m (with_list l xs).lists ≡ numbered m l.lists + one_if (l.next == m)
one_more m l xs b = insert_entry-total (λ (e : ℕ × List ℕ). one_if (e.0 == m)) l.next xs l.lists (free l b)

apart : (n m : ℕ) → n + 1 ≤ m → one_if (n == m) ≡ 0
apart n m h = let e : (n == m) ≡ false = grind arith in rw e refl

pub below-more : (l : ListsOf) (xs : List ℕ) → AreBelow l → AreBelow (with_list l xs)
below-more l xs b m h = omega (arith, one_more m l xs b, b m (omega arith), apart l.next m h)

pub below-all : (l : ListsOf) (xss : List (List ℕ)) → AreBelow l → AreBelow (with_lists l xss)
below-all l [] b = b
below-all l (xs ∷ xss) b = below-all (with_list l xs) xss (below-more l xs b)

pub next-all : (l : ListsOf) (xss : List (List ℕ)) → (with_lists l xss).next ≡ l.next + length xss
next-all l [] = omega arith
next-all l (xs ∷ xss) = omega (arith, next-all (with_list l xs) xss)

inside-first : (m n k : ℕ) → one_if (n == m) + inside m (n + 1) k ≡ inside m n (1 + k)
inside-first m n k = by (n == m) refl (nat_le (n + 1) m) refl (nat_lt m (n + 1 + k)) refl (nat_le n m) refl (nat_lt m (n + (1 + k))) refl
  where
    by : (p : Bool) → (n == m) ≡ p → (q : Bool) → nat_le (n + 1) m ≡ q → (r : Bool) → nat_lt m (n + 1 + k) ≡ r → (s : Bool) → nat_le n m ≡ s → (t : Bool) → nat_lt m (n + (1 + k)) ≡ t
        → one_if p + one_if (q && r) ≡ one_if (s && t)
    by true e true f r g s h t i = absurd (grind (arith, nat_tests))
    by true e false f r g true h true i = refl
    by true e false f r g true h false i = absurd (grind (arith, nat_tests))
    by true e false f r g false h t i = absurd (grind (arith, nat_tests))
    by false e true f true g true h true i = refl
    by false e true f true g true h false i = absurd (grind (arith, nat_tests))
    by false e true f true g false h t i = absurd (grind (arith, nat_tests))
    by false e true f false g true h true i = absurd (grind (arith, nat_tests))
    by false e true f false g true h false i = refl
    by false e true f false g false h t i = refl
    by false e false f r g true h t i = absurd (grind (arith, nat_tests))
    by false e false f r g false h t i = refl

pub numbered-all : (m : ℕ) (l : ListsOf) (xss : List (List ℕ)) → AreBelow l → numbered m (with_lists l xss).lists ≡ numbered m l.lists + inside m l.next (length xss)
numbered-all m l [] b = omega (arith, none m l.next)
  where
    none : (m n : ℕ) → inside m n 0 ≡ 0
    none m n = by (nat_le n m) refl (nat_lt m (n + 0)) refl
      where
        by : (a : Bool) → nat_le n m ≡ a → (b : Bool) → nat_lt m (n + 0) ≡ b → one_if (a && b) ≡ 0
        by true t true u = absurd (grind (arith, nat_tests))
        by true t false u = refl
        by false t b u = refl
numbered-all m l (xs ∷ xss) b =
    let e : inside m l.next (1 + length xss) ≡ inside m l.next (length (xs ∷ xss)) = ap (inside m l.next) (let n : 1 + length xss ≡ length (xs ∷ xss) = omega arith in n) in
    let h : numbered m (with_lists (with_list l xs) xss).lists ≡ numbered m (with_list l xs).lists + inside m (l.next + 1) (length xss) = numbered-all m (with_list l xs) xss (below-more l xs b) in
    omega (arith, h, one_more m l xs b, inside-first m l.next (length xss), e)

pub sound-all : (l : ListsOf) (xss : List (List ℕ)) → AllByRecursion (λ (e : ℕ × List ℕ). IsSoundList e.1) l.lists → AllByRecursion IsSoundList xss → AllByRecursion (λ (e : ℕ × List ℕ). IsSoundList e.1) (with_lists l xss).lists
sound-all l [] a h = a
sound-all l (xs ∷ xss) a h = sound-all (with_list l xs) xss (All-insert IsSoundList l.next xs l.lists h.0 a) h.1

other : (m n : ℕ) → m < n → m ≡ n → ⊥
other m n h e = omega arith

-- the lists below stay
pub kept : (m : ℕ) (l : ListsOf) (xss : List (List ℕ)) → AreBelow l → m < l.next → elements_of (with_lists l xss).lists m ≡ elements_of l.lists m
kept m l [] b h = refl
kept m l (xs ∷ xss) b h =
    kept m (with_list l xs) xss (below-more l xs b) (omega arith) ∙ ap (λ (o : Option (List ℕ)). or_empty o) (insert_entry-other l.next m xs l.lists (other m l.next h) (free l b))

pub holds : (l : ListsOf) (xss : List (List ℕ)) → AreBelow l → Hold (with_lists l xss).lists l.next xss
holds l [] b = tt
holds l (xs ∷ xss) b = (
  kept l.next (with_list l xs) xss (below-more l xs b) (omega arith) ∙ ap (λ (o : Option (List ℕ)). or_empty o) (insert_entry-same l.next xs l.lists (free l b)),
  holds (with_list l xs) xss (below-more l xs b),
)

-- what is held under the lists below stays
pub weights-kept : (f : Item → ℕ) (ents : Entities) (l : ListsOf) (xss : List (List ℕ)) → AreBelow l → ((m : ℕ) → l.next ≤ m → over (λ e. names m) ents ≡ 0) → over (weight f (with_lists l xss).lists) ents ≡ over (weight f l.lists) ents
weights-kept f ents l [] b h = refl
weights-kept f ents l (xs ∷ xss) b h =
    weights-kept f ents (with_list l xs) xss (below-more l xs b) (λ m k. h m (omega arith))
    ∙ sym (over-frame f l.next l.lists (with_list l xs).lists (λ m d. insert_entry-other l.next m xs l.lists d (free l b)) ents (h l.next (omega arith)))
