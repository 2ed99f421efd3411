-- The invariant after an item was placed or taken.
use Rattle.std.proofs.Common.{◌≡◌, ℕ, ◌+◌, ◌≤◌, ◌<◌, ◌==◌, nat_eq, Bool, true, false, if◌then◌else◌, List, [], ◌∷◌, ◌++◌, Option, Some, None, length, arith, refl, sym, ap, ◌∙◌}
use Rattle.std.specs.List.{list_any, AllByRecursion}
use Rattle.std.specs.Ordering.{nat_cmp}
use Rattle.std.specs.BTreeMap.{is_at, insert_entry}
use Rattle.std.specs.Map.{lookup, set_value, remove_entry}
use Rattle.std.specs.Set.{remove_key}
use Rattle.bags.specs.Bag.{total}
use Rattle.layout_meaning.specs.Side.{Value, One, Many, Pair, Item, SideState, or_empty, rows_of, elements_of, found_values, find, write, place_new, written, is_held, place_by, placed, left_over, take_by, taken, first_of}
use Rattle.layout_meaning.specs.Sound.{one_if, names, has_pred, numbered, AreSoundRows, IsSoundList, IsSound}
use Rattle.layout_meaning.proofs.Maps.{set_value-total, insert_entry-total, remove_entry-total}
use Rattle.layout_meaning.proofs.RowSums.{place_new-total}
use Rattle.layout_meaning.proofs.Sums.{over-with_rows, written-total, total-remove_key, numbered-none}
use Rattle.layout_meaning.proofs.Held.{listed}
use Rattle.layout_meaning.proofs.RowsKept.{All-insert, All-set, All-remove, All-found, All-with_rows, rows_fit, place_new-sound, write-sound, more-sound, two-sound, length-total}

abbrev pair_of : Item → Value → Pair
pair_of x v = record { pred = x.pred; value = v }

-- an entity under which something is found is there
found_there : (x : Item) (ents : List (ℕ × List (List (Option Pair)))) (v : Value) → find x.pred (rows_of ents x.entity) ≡ Some v → lookup (is_at (nat_cmp x.entity)) ents ≡ None → ⊥
found_there x ents v h none =
    let e : None ≡ Some v = sym (ap (λ (o : Option (List (List (Option Pair)))). find x.pred (or_empty o)) none) ∙ h in
    elim (absurd_option v e) [ ]
  where
    absurd_option : (v : Value) → None ≡ Some v → ⊥
    absurd_option v e = cc

written-sound : (k : ℕ) (x : Item) (new : Option Pair) (v : Value) (s : SideState) → IsSound k s → find x.pred (rows_of s.entities x.entity) ≡ Some v → ((q : ℕ) → has_pred q new ≤ one_if (x.pred == q))
    → AllByRecursion (λ (en : ℕ × List (List (Option Pair))). AreSoundRows k en.1) (written x new s)
written-sound k x new v s sound h less =
    All-with_rows (AreSoundRows k) s.entities x.entity (write x.pred new (rows_of s.entities x.entity)) sound.rows
    (write-sound k x.pred new v (rows_of s.entities x.entity) (rows_fit k x.entity s.entities sound.rows) h less)
    (λ none. absurd (found_there x s.entities v h none))

same_pred : (x : Item) (v : Value) (q : ℕ) → has_pred q (Some (record { pred = x.pred; value = v })) ≤ one_if (x.pred == q)
same_pred x v q = omega arith

-- a list of a side becomes another
relisted-sound : (k n : ℕ) (xs ys : List ℕ) (s : SideState) → IsSound k s → lookup (is_at (nat_cmp n)) s.lists ≡ Some xs → IsSoundList ys
    → IsSound k (record { entities = s.entities; lists = set_value (is_at (nat_cmp n)) s.lists ys; next = s.next })
relisted-sound k n xs ys s sound there h = record {
  rows = sound.rows;
  lists = All-set IsSoundList n ys s.lists h sound.lists;
  named = λ (m : ℕ). sound.named m ∙ sym (same m);
  apart = λ (m : ℕ). (let a = sound.apart m in let b = same m in omega arith);
  below = λ (m : ℕ) (l : s.next ≤ m). same m ∙ sound.below m l;
}
  where
    same : (m : ℕ) → numbered m (set_value (is_at (nat_cmp n)) s.lists ys) ≡ numbered m s.lists
    same m = omega (arith, set_value-total (λ (l : ℕ × List ℕ). one_if (l.0 == m)) n xs ys s.lists there)

pub place_by-sound : (k : ℕ) (columns : List ℕ) (x : Item) (s : SideState) → IsSound k s → first_of columns < k
    → (o : Option Value) → find x.pred (rows_of s.entities x.entity) ≡ o → list_any (nat_eq x.value) (found_values s.lists o) ≡ false → IsSound k (place_by o k columns x s)
place_by-sound k columns x s sound first None h free = record {
  rows = All-with_rows (AreSoundRows k) s.entities x.entity (place_new k columns (pair_of x (One x.value)) (rows_of s.entities x.entity)) sound.rows (λ (l : 0 < length (place_new k columns (pair_of x (One x.value)) (rows_of s.entities x.entity))). fine) (λ (l : lookup (is_at (nat_cmp x.entity)) s.entities ≡ None). fine);
  lists = sound.lists;
  named = λ (m : ℕ). (let a = over-with_rows (λ e. names m) s.entities x.entity (place_new k columns (pair_of x (One x.value)) (rows_of s.entities x.entity)) in let b = place_new-total (names m) k columns (pair_of x (One x.value)) (rows_of s.entities x.entity) refl first in let c = sound.named m in omega arith);
  apart = sound.apart;
  below = sound.below;
}
  where
    fine : AreSoundRows k (place_new k columns (pair_of x (One x.value)) (rows_of s.entities x.entity))
    fine = place_new-sound k columns (pair_of x (One x.value)) (rows_of s.entities x.entity) first (rows_fit k x.entity s.entities sound.rows) h
place_by-sound k columns x s sound first (Some (One w)) h free = record {
  rows = written-sound k x (Some (pair_of x (Many s.next))) (One w) s sound h (same_pred x (Many s.next));
  lists = All-insert IsSoundList s.next (w ∷ x.value ∷ []) s.lists (two-sound x.value w free) sound.lists;
  named = λ (m : ℕ). (let a = written-total (λ e. names m) x (Some (pair_of x (Many s.next))) (One w) s refl h in let b = more m in let c = sound.named m in omega arith);
  apart = λ (m : ℕ). apart m (s.next == m) refl;
  below = λ (m : ℕ) (l : s.next + 1 ≤ m). (let a = sound.below m (omega arith) in let b = more m in let c : one_if (s.next == m) ≡ 0 = other m l (s.next == m) refl in omega arith);
}
  where
    more : (m : ℕ) → numbered m (insert_entry nat_cmp s.lists s.next (w ∷ x.value ∷ [])) ≡ numbered m s.lists + one_if (s.next == m)
    more m = insert_entry-total (λ (l : ℕ × List ℕ). one_if (l.0 == m)) s.next (w ∷ x.value ∷ []) s.lists (numbered-none s.next s.lists (sound.below s.next (omega arith)))

    apart : (m : ℕ) (b : Bool) → (s.next == m) ≡ b → numbered m (insert_entry nat_cmp s.lists s.next (w ∷ x.value ∷ [])) ≤ 1
    apart m true t =
        let k : s.next ≤ m = grind arith in
        let c : one_if (s.next == m) ≡ 1 = ap one_if t in
        let a = sound.below m k in
        let b = more m in
        omega arith
    apart m false t = let c : one_if (s.next == m) ≡ 0 = ap one_if t in let a = sound.apart m in let b = more m in omega arith

    other : (m : ℕ) → s.next + 1 ≤ m → (b : Bool) → (s.next == m) ≡ b → one_if b ≡ 0
    other m l true t = absurd (grind arith)
    other m l false t = refl
place_by-sound k columns x s sound first (Some (Many n)) h free =
    let there = listed k n x s sound h in
    relisted-sound k n (elements_of s.lists n) (elements_of s.lists n ++ x.value ∷ []) s sound there
    (more-sound x.value (elements_of s.lists n) (All-found IsSoundList n (elements_of s.lists n) s.lists sound.lists there) free)

pub sound_after_placing : (k : ℕ) (columns : List ℕ) (x : Item) (s : SideState) → IsSound k s → first_of columns < k → IsSound k (placed k columns x s)
sound_after_placing k columns x s sound first = by (is_held x s) refl
  where
    by : (b : Bool) → is_held x s ≡ b → IsSound k (if b then s else place_by (find x.pred (rows_of s.entities x.entity)) k columns x s)
    by true t = sound
    by false t = place_by-sound k columns x s sound first (find x.pred (rows_of s.entities x.entity)) refl t

-- what stays of a list is sound where it has two values
left_sound : (v : ℕ) (xs ys : List ℕ) → IsSoundList xs → ((g : ℕ → ℕ) → total g ys + g v ≡ total g xs) → 2 ≤ length ys → IsSoundList ys
left_sound v xs ys h less two = record {
  two = two;
  once = λ (w : ℕ). (let a = less (λ (z : ℕ). one_if (z == w)) in let b = h.once w in omega arith);
}

left_over-sound : (k n : ℕ) (x : Item) (s : SideState) → IsSound k s → find x.pred (rows_of s.entities x.entity) ≡ Some (Many n)
    → (ys : List ℕ) → ((g : ℕ → ℕ) → total g ys + g x.value ≡ total g (elements_of s.lists n)) → IsSound k (left_over ys n x s)
left_over-sound k n x s sound h [] less =
    let there = listed k n x s sound h in
    let two = (All-found IsSoundList n (elements_of s.lists n) s.lists sound.lists there).two in
    let a = less (λ (z : ℕ). 1) in
    let b = length-total (elements_of s.lists n) in
    absurd (omega arith)
left_over-sound k n x s sound h (a ∷ []) less = record {
  rows = written-sound k x (Some (pair_of x (One a))) (Many n) s sound h (same_pred x (One a));
  lists = All-remove IsSoundList n s.lists sound.lists;
  named = λ (m : ℕ). (let a = written-total (λ e. names m) x (Some (pair_of x (One a))) (Many n) s refl h in let b = fewer m in let c = sound.named m in omega arith);
  apart = λ (m : ℕ). (let a = sound.apart m in let b = fewer m in omega arith);
  below = λ (m : ℕ) (l : s.next ≤ m). (let a = sound.below m l in let b = fewer m in omega arith);
}
  where
    fewer : (m : ℕ) → numbered m (remove_entry (is_at (nat_cmp n)) s.lists) + one_if (n == m) ≡ numbered m s.lists
    fewer m = remove_entry-total (λ (l : ℕ × List ℕ). one_if (l.0 == m)) n (elements_of s.lists n) s.lists (listed k n x s sound h)
left_over-sound k n x s sound h (a ∷ b ∷ more) less =
    let there = listed k n x s sound h in
    relisted-sound k n (elements_of s.lists n) (a ∷ b ∷ more) s sound there
    (left_sound x.value (elements_of s.lists n) (a ∷ b ∷ more) (All-found IsSoundList n (elements_of s.lists n) s.lists sound.lists there) less (omega arith))

pub take_by-sound : (k : ℕ) (x : Item) (s : SideState) → IsSound k s → (o : Option Value) → find x.pred (rows_of s.entities x.entity) ≡ o
    → list_any (nat_eq x.value) (found_values s.lists o) ≡ true → IsSound k (take_by o x s)
take_by-sound k x s sound None h there = sound
take_by-sound k x s sound (Some (One w)) h there = record {
  rows = written-sound k x None (One w) s sound h (λ (q : ℕ). omega arith);
  lists = sound.lists;
  named = λ (m : ℕ). (let a = written-total (λ e. names m) x None (One w) s refl h in let c = sound.named m in omega arith);
  apart = sound.apart;
  below = sound.below;
}
take_by-sound k x s sound (Some (Many n)) h there =
    left_over-sound k n x s sound h (remove_key (nat_eq x.value) (elements_of s.lists n)) (λ (g : ℕ → ℕ). total-remove_key g x.value (elements_of s.lists n) there)

pub sound_after_taking : (k : ℕ) (x : Item) (s : SideState) → IsSound k s → IsSound k (taken x s)
sound_after_taking k x s sound = by (is_held x s) refl
  where
    by : (b : Bool) → is_held x s ≡ b → IsSound k (if b then take_by (find x.pred (rows_of s.entities x.entity)) x s else s)
    by true t = take_by-sound k x s sound (find x.pred (rows_of s.entities x.entity)) refl t
    by false t = sound
