-- What a side holds after an item was placed or taken.
use Rattle.std.proofs.Common.{◌≡◌, ℕ, ◌+◌, ◌<◌, ◌==◌, nat_eq, true, false, List, [], ◌∷◌, ◌++◌, Option, Some, None, arith, refl, ap, ◌∙◌}
use Rattle.std.specs.List.{list_any}
use Rattle.std.specs.Ordering.{nat_cmp}
use Rattle.std.specs.BTreeMap.{is_at, insert_entry}
use Rattle.std.specs.Map.{lookup, set_value, remove_entry}
use Rattle.std.specs.Set.{remove_key}
use Rattle.bags.specs.Bag.{total}
use Rattle.layout_meaning.specs.Side.{Value, One, Many, Pair, Item, SideState, or_empty, rows_of, elements_of, found_values, find, place_new, written, is_held, place_by, placed, left_over, take_by, taken, items, first_of}
use Rattle.layout_meaning.specs.Sound.{one_if, over, names, numbered, IsSound}
use Rattle.layout_meaning.proofs.Maps.{set_value-same, set_value-other, insert_entry-same, insert_entry-other, remove_entry-other}
use Rattle.layout_meaning.proofs.RowSums.{place_new-total}
use Rattle.layout_meaning.proofs.Sums.{weight, total-append, total-items, total-remove_key, over-with_rows, written-total, over-frame, numbered-none, none-numbered}

-- a list that a pair names is named once, and not after that pair is gone
pub named_once : (k n : ℕ) (x : Item) (new : Option Pair) (s : SideState) → IsSound k s → names n new ≡ 0 → find x.pred (rows_of s.entities x.entity) ≡ Some (Many n)
    → (over (λ e. names n) (written x new s) ≡ 0) × (numbered n s.lists ≡ 1)
named_once k n x new s sound z h =
    let w = written-total (λ e. names n) x new (Many n) s refl h in
    let one : one_if (n == n) ≡ 1 = grind arith in
    let a = sound.named n in
    let b = sound.apart n in
    (omega arith, omega arith)

pub listed : (k n : ℕ) (x : Item) (s : SideState) → IsSound k s → find x.pred (rows_of s.entities x.entity) ≡ Some (Many n) → lookup (is_at (nat_cmp n)) s.lists ≡ Some (elements_of s.lists n)
listed k n x s sound h = by (lookup (is_at (nat_cmp n)) s.lists) refl
  where
    by : (o : Option (List ℕ)) → lookup (is_at (nat_cmp n)) s.lists ≡ o → o ≡ Some (or_empty o)
    by None t =
        let z : numbered n s.lists ≡ 0 = none-numbered n s.lists t in
        let w : numbered n s.lists ≡ 1 = (named_once k n x None s sound refl h).1 in
        absurd (omega arith)
    by (Some xs) t = refl

-- the sums after the list of one pair became another
pub relisted : (k : ℕ) (f : Item → ℕ) (n : ℕ) (new : List (ℕ × List ℕ)) (x : Item) (s : SideState) → IsSound k s → find x.pred (rows_of s.entities x.entity) ≡ Some (Many n)
    → ((m : ℕ) → (m ≡ n → ⊥) → lookup (is_at (nat_cmp m)) new ≡ lookup (is_at (nat_cmp m)) s.lists)
    → over (weight f new) s.entities + weight f s.lists x.entity (Some (record { pred = x.pred; value = Many n }))
    ≡ over (weight f s.lists) s.entities + weight f new x.entity (Some (record { pred = x.pred; value = Many n }))
relisted k f n new x s sound h same =
    let z = (named_once k n x None s sound refl h).0 in
    let a = over-frame f n s.lists new same (written x None s) z in
    let b = written-total (weight f s.lists) x None (Many n) s refl h in
    let c = written-total (weight f new) x None (Many n) s refl h in
    omega arith

-- the weights of an item with other values
abbrev pub at_value : (Item → ℕ) → Item → ℕ → ℕ
at_value f x v = f (record { entity = x.entity; pred = x.pred; value = v })

pub held_by_place : (k : ℕ) (columns : List ℕ) (x : Item) (s : SideState) (f : Item → ℕ) → IsSound k s → first_of columns < k
    → (o : Option Value) → find x.pred (rows_of s.entities x.entity) ≡ o → total f (items (place_by o k columns x s)) ≡ total f (items s) + f x
held_by_place k columns x s f sound first None h =
    omega (
      arith,
      total-items f s,
      total-items f (place_by None k columns x s),
      over-with_rows (weight f s.lists) s.entities x.entity (place_new k columns (record { pred = x.pred; value = One x.value }) (rows_of s.entities x.entity)),
      place_new-total (weight f s.lists x.entity) k columns (record { pred = x.pred; value = One x.value }) (rows_of s.entities x.entity) refl first,
    )
held_by_place k columns x s f sound first (Some (One w)) h =
    let fresh : numbered s.next s.lists ≡ 0 = sound.below s.next (omega arith) in
    let none = numbered-none s.next s.lists fresh in
    let new : List (ℕ × List ℕ) = insert_entry nat_cmp s.lists s.next (w ∷ x.value ∷ []) in
    let z : over (λ e. names s.next) s.entities ≡ 0 = sound.named s.next ∙ fresh in
    let a = over-frame f s.next s.lists new (λ (m : ℕ) (d : m ≡ s.next → ⊥). insert_entry-other s.next m (w ∷ x.value ∷ []) s.lists d none) s.entities z in
    let b = written-total (weight f new) x (Some (record { pred = x.pred; value = Many s.next })) (One w) s refl h in
    let c : weight f new x.entity (Some (record { pred = x.pred; value = Many s.next })) ≡ at_value f x w + (f x + 0)
    = ap (λ (o : Option (List ℕ)). total (at_value f x) (or_empty o)) (insert_entry-same s.next (w ∷ x.value ∷ []) s.lists none) in
    omega (arith, total-items f s, total-items f (place_by (Some (One w)) k columns x s))
held_by_place k columns x s f sound first (Some (Many n)) h =
    let there = listed k n x s sound h in
    let more : List ℕ = elements_of s.lists n ++ x.value ∷ [] in
    let new : List (ℕ × List ℕ) = set_value (is_at (nat_cmp n)) s.lists more in
    let a = relisted k f n new x s sound h (λ (m : ℕ) (d : m ≡ n → ⊥). set_value-other n m more s.lists d) in
    let c : weight f new x.entity (Some (record { pred = x.pred; value = Many n })) ≡ total (at_value f x) more
    = ap (λ (o : Option (List ℕ)). total (at_value f x) (or_empty o)) (set_value-same n (elements_of s.lists n) more s.lists there) in
    omega (arith, total-items f s, total-items f (place_by (Some (Many n)) k columns x s), total-append (at_value f x) (elements_of s.lists n) (x.value ∷ []))

pub held_after_placing : (k : ℕ) (columns : List ℕ) (x : Item) (s : SideState) (f : Item → ℕ) → IsSound k s → first_of columns < k → is_held x s ≡ false
    → total f (items (placed k columns x s)) ≡ total f (items s) + f x
held_after_placing k columns x s f sound first free = rw free (held_by_place k columns x s f sound first (find x.pred (rows_of s.entities x.entity)) refl)

pub held_by_left : (k n : ℕ) (x : Item) (s : SideState) (f : Item → ℕ) → IsSound k s → find x.pred (rows_of s.entities x.entity) ≡ Some (Many n)
    → (ys : List ℕ) → total (at_value f x) ys + f x ≡ total (at_value f x) (elements_of s.lists n) → total f (items (left_over ys n x s)) + f x ≡ total f (items s)
held_by_left k n x s f sound h [] e =
    let there = listed k n x s sound h in
    let new : List (ℕ × List ℕ) = set_value (is_at (nat_cmp n)) s.lists [] in
    let a = relisted k f n new x s sound h (λ (m : ℕ) (d : m ≡ n → ⊥). set_value-other n m [] s.lists d) in
    let c : weight f new x.entity (Some (record { pred = x.pred; value = Many n })) ≡ 0
    = ap (λ (o : Option (List ℕ)). total (at_value f x) (or_empty o)) (set_value-same n (elements_of s.lists n) [] s.lists there) in
    omega (arith, total-items f s, total-items f (left_over [] n x s))
held_by_left k n x s f sound h (a ∷ []) e =
    let new : List (ℕ × List ℕ) = remove_entry (is_at (nat_cmp n)) s.lists in
    let one : Option Pair = Some (record { pred = x.pred; value = One a }) in
    let z = (named_once k n x one s sound refl h).0 in
    let b = over-frame f n s.lists new (λ (m : ℕ) (d : m ≡ n → ⊥). remove_entry-other n m s.lists d) (written x one s) z in
    let c = written-total (weight f s.lists) x one (Many n) s refl h in
    omega (arith, total-items f s, total-items f (left_over (a ∷ []) n x s))
held_by_left k n x s f sound h (a ∷ b ∷ more) e =
    let there = listed k n x s sound h in
    let ys : List ℕ = a ∷ b ∷ more in
    let new : List (ℕ × List ℕ) = set_value (is_at (nat_cmp n)) s.lists ys in
    let r = relisted k f n new x s sound h (λ (m : ℕ) (d : m ≡ n → ⊥). set_value-other n m ys s.lists d) in
    let c : weight f new x.entity (Some (record { pred = x.pred; value = Many n })) ≡ total (at_value f x) ys
    = ap (λ (o : Option (List ℕ)). total (at_value f x) (or_empty o)) (set_value-same n (elements_of s.lists n) ys s.lists there) in
    omega (arith, total-items f s, total-items f (left_over ys n x s))

pub held_by_take : (k : ℕ) (x : Item) (s : SideState) (f : Item → ℕ) → IsSound k s
    → (o : Option Value) → find x.pred (rows_of s.entities x.entity) ≡ o → list_any (nat_eq x.value) (found_values s.lists o) ≡ true → total f (items (take_by o x s)) + f x ≡ total f (items s)
held_by_take k x s f sound None h there = cc
held_by_take k x s f sound (Some (One w)) h there =
    let e : x.value ≡ w = grind arith in
    let d : f x ≡ at_value f x w = ap (at_value f x) e in
    omega (arith, total-items f s, total-items f (take_by (Some (One w)) x s), written-total (weight f s.lists) x None (One w) s refl h)
held_by_take k x s f sound (Some (Many n)) h there =
    held_by_left k n x s f sound h (remove_key (nat_eq x.value) (elements_of s.lists n)) (total-remove_key (at_value f x) x.value (elements_of s.lists n) there)

pub held_after_taking : (k : ℕ) (x : Item) (s : SideState) (f : Item → ℕ) → IsSound k s → is_held x s ≡ true → total f (items (taken x s)) + f x ≡ total f (items s)
held_after_taking k x s f sound there = rw there (held_by_take k x s f sound (find x.pred (rows_of s.entities x.entity)) refl there)
