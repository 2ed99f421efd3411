-- What holds of all lists holds after each of their steps.
use Rattle.std.proofs.Common.{◌≡◌, ℕ, ◌+◌, ◌≤◌, ◌==◌, nat_eq, Bool, true, false, if◌then◌else◌, List, [], ◌∷◌, ◌++◌, Option, Some, None, IsSome, length, arith, refl, ap, ◌∙◌}
use Rattle.std.specs.List.{list_any}
use Rattle.std.specs.Ordering.{nat_cmp}
use Rattle.std.specs.BTreeMap.{is_at, insert_entry}
use Rattle.std.specs.Map.{lookup, set_value, remove_entry}
use Rattle.std.specs.Set.{remove_key}
use Rattle.bags.specs.Bag.{total}
use Rattle.std.specs.Option.{is_some}
use Rattle.layout_meaning.specs.Side.{ValueLists, elements_of, left_lists, or_empty, only}
use Rattle.layout_meaning.specs.Sound.{one_if, numbered, IsSoundList}
use Rattle.layout_meaning.specs.Lists.{ListsOf, AreLists, with_list, with_value, without_value}
use Rattle.layout_meaning.proofs.Maps.{set_value-total, insert_entry-total, remove_entry-total}
use Rattle.layout_meaning.proofs.Sums.{numbered-none, total-remove_key}
use Rattle.layout_meaning.proofs.RowsKept.{All-insert, All-set, All-remove, All-found, more-sound, length-total}

other : (k m : ℕ) → k + 1 ≤ m → (b : Bool) → (k == m) ≡ b → one_if b ≡ 0
other k m l true t = absurd (grind arith)
other k m l false t = refl

pub with_list-sound : (l : ListsOf) (xs : List ℕ) → AreLists l → IsSoundList xs → AreLists (with_list l xs)
with_list-sound l xs h sound = record {
  several = All-insert IsSoundList l.next xs l.lists sound h.several;
  below = λ (m : ℕ) (le : l.next + 1 ≤ m).
      (let a = h.below m (omega arith) in
      let b = insert_entry-total (λ (e : ℕ × List ℕ). one_if (e.0 == m)) l.next xs l.lists (numbered-none l.next l.lists (h.below l.next (omega arith))) in
      let c : one_if (l.next == m) ≡ 0 = other l.next m le (l.next == m) refl in
      omega arith);
}

-- the list of a number that is there
pub found : (n : ℕ) (lists : ValueLists) → IsSome (lookup (is_at (nat_cmp n)) lists) → lookup (is_at (nat_cmp n)) lists ≡ Some (elements_of lists n)
found n lists there = by (lookup (is_at (nat_cmp n)) lists) there
  where
    by : (o : Option (List ℕ)) → IsSome o → o ≡ Some (or_empty o)
    by None there = cc
    by (Some xs) there = refl

pub relisted-sound : (l : ListsOf) (n : ℕ) (ys : List ℕ) → AreLists l → IsSome (lookup (is_at (nat_cmp n)) l.lists) → IsSoundList ys
    → AreLists (record { lists = set_value (is_at (nat_cmp n)) l.lists ys; next = l.next })
relisted-sound l n ys h there sound = record {
  several = All-set IsSoundList n ys l.lists sound h.several;
  below = λ (m : ℕ) (le : l.next ≤ m).
      (let a = h.below m le in
      let b = set_value-total (λ (e : ℕ × List ℕ). one_if (e.0 == m)) n (elements_of l.lists n) ys l.lists (found n l.lists there) in
      omega arith);
}

pub elements-sound : (l : ListsOf) (n : ℕ) → AreLists l → IsSome (lookup (is_at (nat_cmp n)) l.lists) → IsSoundList (elements_of l.lists n)
elements-sound l n h there = All-found IsSoundList n (elements_of l.lists n) l.lists h.several (found n l.lists there)

pub added-sound : (l : ListsOf) (n x : ℕ) → AreLists l → IsSome (lookup (is_at (nat_cmp n)) l.lists) → list_any (nat_eq x) (elements_of l.lists n) ≡ false
    → AreLists (record { lists = set_value (is_at (nat_cmp n)) l.lists (elements_of l.lists n ++ x ∷ []); next = l.next })
added-sound l n x h there new = relisted-sound l n (elements_of l.lists n ++ x ∷ []) h there (more-sound x (elements_of l.lists n) (elements-sound l n h there) new)

set-same : (n : ℕ) (xs : List ℕ) (es : ValueLists) → lookup (is_at (nat_cmp n)) es ≡ Some xs → set_value (is_at (nat_cmp n)) es xs ≡ es
set-same n xs [] h = refl
set-same n xs (e ∷ es) h = by (set-same n xs es) (is_at (nat_cmp n) e.0) refl h
  where
    by : (lookup (is_at (nat_cmp n)) es ≡ Some xs → set_value (is_at (nat_cmp n)) es xs ≡ es) → (b : Bool) → is_at (nat_cmp n) e.0 ≡ b → (if b then Some e.1 else lookup (is_at (nat_cmp n)) es) ≡ Some xs
        → (if b then (e.0, xs) ∷ es else e ∷ set_value (is_at (nat_cmp n)) es xs) ≡ e ∷ es
    by ih true t h = let d : xs ≡ e.1 = cc in ap (λ (z : List ℕ). (e.0, z) ∷ es) d
    by ih false t h = ap (λ (l : ValueLists). e ∷ l) (ih h)

-- putting in a value that is there changes nothing
pub with_value-there : (l : ListsOf) (n x : ℕ) → IsSome (lookup (is_at (nat_cmp n)) l.lists) → list_any (nat_eq x) (elements_of l.lists n) ≡ true → with_value l n x ≡ l
with_value-there l n x there held =
    ap (λ (b : Bool). record { lists = set_value (is_at (nat_cmp n)) l.lists (if b then elements_of l.lists n else elements_of l.lists n ++ x ∷ []); next = l.next }) held
    ∙ ap (λ (z : ValueLists). record { lists = z; next = l.next }) (set-same n (elements_of l.lists n) l.lists (found n l.lists there))

pub with_value-new : (l : ListsOf) (n x : ℕ) → list_any (nat_eq x) (elements_of l.lists n) ≡ false
    → with_value l n x ≡ record { lists = set_value (is_at (nat_cmp n)) l.lists (elements_of l.lists n ++ x ∷ []); next = l.next }
with_value-new l n x new = ap (λ (b : Bool). record { lists = set_value (is_at (nat_cmp n)) l.lists (if b then elements_of l.lists n else elements_of l.lists n ++ x ∷ []); next = l.next }) new

left-sound : (v : ℕ) (xs ys : List ℕ) → IsSoundList xs → ((g : ℕ → ℕ) → total g ys + g v ≡ total g xs) → 2 ≤ length ys → IsSoundList ys
left-sound v xs ys h less two = record {
  two = two;
  once = λ (w : ℕ). (let a = less (λ (z : ℕ). one_if (z == w)) in let b = h.once w in omega arith);
}

pub left_lists-sound : (l : ListsOf) (n x : ℕ) (ys : List ℕ) → AreLists l → IsSome (lookup (is_at (nat_cmp n)) l.lists) → ((g : ℕ → ℕ) → total g ys + g x ≡ total g (elements_of l.lists n))
    → AreLists (record { lists = left_lists ys n l.lists; next = l.next })
left_lists-sound l n x [] h there less =
    let two = (elements-sound l n h there).two in
    let a = less (λ (z : ℕ). 1) in
    let b = length-total (elements_of l.lists n) in
    absurd (omega arith)
left_lists-sound l n x (a ∷ []) h there less = record {
  several = All-remove IsSoundList n l.lists h.several;
  below = λ (m : ℕ) (le : l.next ≤ m).
      (let a = h.below m le in
      let b = remove_entry-total (λ (e : ℕ × List ℕ). one_if (e.0 == m)) n (elements_of l.lists n) l.lists (found n l.lists there) in
      omega arith);
}
left_lists-sound l n x (a ∷ b ∷ more) h there less =
    relisted-sound l n (a ∷ b ∷ more) h there (left-sound x (elements_of l.lists n) (a ∷ b ∷ more) (elements-sound l n h there) less (omega arith))

pub without_value-held : (l : ListsOf) (n x : ℕ) → list_any (nat_eq x) (elements_of l.lists n) ≡ true
    → without_value l n x ≡ record { lists = left_lists (remove_key (nat_eq x) (elements_of l.lists n)) n l.lists; next = l.next }
without_value-held l n x held = ap (λ (b : Bool). record { lists = if b then left_lists (remove_key (nat_eq x) (elements_of l.lists n)) n l.lists else l.lists; next = l.next }) held

pub without_value-absent : (l : ListsOf) (n x : ℕ) → list_any (nat_eq x) (elements_of l.lists n) ≡ false → without_value l n x ≡ l
without_value-absent l n x absent = ap (λ (b : Bool). record { lists = if b then left_lists (remove_key (nat_eq x) (elements_of l.lists n)) n l.lists else l.lists; next = l.next }) absent

pub held-sound : (l : ListsOf) (n x : ℕ) → AreLists l → IsSome (lookup (is_at (nat_cmp n)) l.lists) → list_any (nat_eq x) (elements_of l.lists n) ≡ true
    → AreLists (record { lists = left_lists (remove_key (nat_eq x) (elements_of l.lists n)) n l.lists; next = l.next })
held-sound l n x h there held =
    left_lists-sound l n x (remove_key (nat_eq x) (elements_of l.lists n)) h there (λ (g : ℕ → ℕ). total-remove_key g x (elements_of l.lists n) held)

-- dropping a list of which one value stays
pub left_one : (ys : List ℕ) (n : ℕ) (lists : List (ℕ × List ℕ)) → is_some (only ys) ≡ true → remove_entry (is_at (nat_cmp n)) lists ≡ left_lists ys n lists
left_one [] n lists h = cc
left_one (a ∷ []) n lists h = refl
left_one (a ∷ b ∷ more) n lists h = cc
