-- What holds of both sides after a change.
use Rattle.std.proofs.Common.{◌≡◌, ℕ, ◌+◌, ◌≤◌, ◌<◌, ◌==◌, ◌&&◌, Bool, true, false, if◌then◌else◌, List, [], ◌∷◌, map, Option, Some, None, length, refl, sym, ap, ◌∙◌, arith, subst}
use Rattle.std.specs.List.{AllByRecursion}
use Rattle.std.specs.Ordering.{nat_cmp}
use Rattle.std.specs.BTreeMap.{is_at, insert_entry}
use Rattle.std.specs.Map.{lookup, set_value, remove_entry}
use Rattle.bags.specs.Bag.{total, SameBag}
use Rattle.bags.specs.BagLaws.{total-map, each-weaker}
use Rattle.layout_meaning.specs.declared.value.Value.{Value}
use Rattle.layout_meaning.specs.declared.value.Value.TheVariants.{One, Many}
use Rattle.layout_meaning.specs.Columns.{candidates_of}
use Rattle.layout_meaning.specs.Side.{Rows, Entities, Item, SideState, rows_of, elements_of, find, put_by, with_rows, is_held, place_by, placed, left_over, take_by, taken, items, first_of}
use Rattle.layout_meaning.specs.Sound.{one_if, has_pred, AreSoundRows, IsSound}
use Rattle.layout_meaning.specs.Rows.{SideOf, placed_in, taken_from}
use Rattle.layout_meaning.proofs.Maps.{set_value-total, insert_entry-total, remove_entry-total}
use Rattle.layout_meaning.proofs.Held.{held_after_placing, held_after_taking}
use Rattle.layout_meaning.proofs.Kept.{sound_after_placing, sound_after_taking}
use Rattle.layout_meaning.proofs.Changes.{next-placed, placed-held, taken-free}
use Rattle.layout_meaning.proofs.TakenBack.{taken_back}
use Rattle.std.specs.Set.{remove_key}
use Rattle.std.proofs.Common.{nat_eq}
use Rattle.layout_standing_meaning.specs.Contents.{side_contents}
use Rattle.layout_standing_meaning.specs.Sides.{SidesOf, turned, both_placed, both_taken, AreOnce, IsGoodSide, AreSides, AreAsBefore}
use Rattle.layout_standing_meaning.proofs.Each.{picked}
use Rattle.layout_standing_meaning.proofs.Numbered.{entity-once, said-is}
use Rattle.layout_standing_meaning.proofs.Once.{same_item, said-once}

-- entities stay once
none_here : (e : ℕ) (ents : Entities) → lookup (is_at (nat_cmp e)) ents ≡ None → total (λ (en : ℕ × Rows). one_if (en.0 == e)) ents ≡ 0
none_here e [] h = refl
none_here e (en ∷ ents) h = by (is_at (nat_cmp e) en.0) refl h (none_here e ents)
  where
    by : (b : Bool) → is_at (nat_cmp e) en.0 ≡ b → (if b then Some en.1 else lookup (is_at (nat_cmp e)) ents) ≡ None → (lookup (is_at (nat_cmp e)) ents ≡ None → total (λ (x : ℕ × Rows). one_if (x.0 == e)) ents ≡ 0) → one_if (en.0 == e) + total (λ (x : ℕ × Rows). one_if (x.0 == e)) ents ≡ 0
    by true t h ih = cc
    by false t h ih = let a : (en.0 == e) ≡ false = other (en.0 == e) refl in let z : one_if (en.0 == e) ≡ 0 = ap one_if a in let r : total (λ (x : ℕ × Rows). one_if (x.0 == e)) ents ≡ 0 = ih h in omega arith
      where
        other : (b : Bool) → (en.0 == e) ≡ b → b ≡ false
        other true q = let k : is_at (nat_cmp e) en.0 ≡ true = grind arith in cc
        other false q = refl

once-with_rows : (ents : Entities) (k : ℕ) (new : Rows) → AreOnce ents → AreOnce (with_rows ents k new)
once-with_rows ents k new once e = by (lookup (is_at (nat_cmp k)) ents) refl new
  where
    f : ℕ × Rows → ℕ
    f en = one_if (en.0 == e)

    added : lookup (is_at (nat_cmp k)) ents ≡ None → (b : Bool) → (k == e) ≡ b → total f ents + one_if b ≤ 1
    added t true q = let h : k ≡ e = grind arith in let z : total f ents ≡ 0 = subst (λ (n : ℕ). total (λ (en : ℕ × Rows). one_if (en.0 == n)) ents ≡ 0) h (none_here k ents t) in omega arith
    added t false q = let a : total f ents ≤ 1 = once e in omega arith

    by : (o : Option Rows) → lookup (is_at (nat_cmp k)) ents ≡ o → (new : Rows) → total f (put_by o ents k new) ≤ 1
    by None t new =
        let a : total f (insert_entry nat_cmp ents k new) ≡ total f ents + one_if (k == e) = insert_entry-total f k new ents t in
        let b : total f ents + one_if (k == e) ≤ 1 = added t (k == e) refl in omega arith
    by (Some old) t [] =
        let a : total f (remove_entry (is_at (nat_cmp k)) ents) + one_if (k == e) ≡ total f ents = remove_entry-total f k old ents t in
        let b : total f ents ≤ 1 = once e in omega arith
    by (Some old) t (r ∷ rs) =
        let a : total f (set_value (is_at (nat_cmp k)) ents (r ∷ rs)) + one_if (k == e) ≡ total f ents + one_if (k == e) = set_value-total f k old (r ∷ rs) ents t in
        let b : total f ents ≤ 1 = once e in omega arith

once-place_by : (o : Option Value) (k : ℕ) (columns : List ℕ) (x : Item) (s : SideState) → AreOnce s.entities → AreOnce (place_by o k columns x s).entities
once-place_by None k columns x s h = once-with_rows s.entities x.entity _ h
once-place_by (Some (One w)) k columns x s h = once-with_rows s.entities x.entity _ h
once-place_by (Some (Many n)) k columns x s h = h

once-placed : (k : ℕ) (columns : List ℕ) (x : Item) (s : SideState) → AreOnce s.entities → AreOnce (placed k columns x s).entities
once-placed k columns x s h = by (is_held x s)
  where
    by : (b : Bool) → AreOnce (if b then s else place_by (find x.pred (rows_of s.entities x.entity)) k columns x s).entities
    by true = h
    by false = once-place_by (find x.pred (rows_of s.entities x.entity)) k columns x s h

once-left : (ys : List ℕ) (n : ℕ) (x : Item) (s : SideState) → AreOnce s.entities → AreOnce (left_over ys n x s).entities
once-left [] n x s h = h
once-left (a ∷ []) n x s h = once-with_rows s.entities x.entity _ h
once-left (a ∷ b ∷ more) n x s h = h

once-take_by : (o : Option Value) (x : Item) (s : SideState) → AreOnce s.entities → AreOnce (take_by o x s).entities
once-take_by None x s h = h
once-take_by (Some (One w)) x s h = once-with_rows s.entities x.entity _ h
once-take_by (Some (Many n)) x s h = once-left (remove_key (nat_eq x.value) (elements_of s.lists n)) n x s h

once-taken : (x : Item) (s : SideState) → AreOnce s.entities → AreOnce (taken x s).entities
once-taken x s h = by (is_held x s)
  where
    by : (b : Bool) → AreOnce (if b then take_by (find x.pred (rows_of s.entities x.entity)) x s else s).entities
    by true = once-take_by (find x.pred (rows_of s.entities x.entity)) x s h
    by false = h

pub good-placed : (s : SideOf) (iri : List ℕ) (x : Item) → IsGoodSide s → IsGoodSide (placed_in s iri x)
good-placed s iri x h = record {
  sound = sound_after_placing s.columns.count (candidates_of s.columns iri) x s.state h.sound (h.first iri);
  once = once-placed s.columns.count (candidates_of s.columns iri) x s.state h.once;
  some = h.some;
  first = h.first;
}

pub good-taken : (s : SideOf) (x : Item) → IsGoodSide s → IsGoodSide (taken_from s x)
good-taken s x h = record {
  sound = sound_after_taking s.columns.count x s.state h.sound;
  once = once-taken x s.state h.once;
  some = h.some;
  first = h.first;
}

-- an item is held where it is among the items
pub items-once : (s : SideOf) → IsGoodSide s → (x : Item) → total (λ (y : Item). one_if (same_item y x)) (items s.state) ≤ 1
items-once s h x =
    subst (λ (l : List Item). total (λ (y : Item). one_if (same_item y x)) l ≤ 1) (said-is s.state)
    (said-once (side_contents s.state) h.sound.lists
    (λ (e p : ℕ). entity-once (total (has_pred p)) s.state.entities h.once
    (each-weaker (λ (en : ℕ × Rows). AreSoundRows s.columns.count en.1) (λ (en : ℕ × Rows). total (total (has_pred p)) en.1 ≤ 1) (λ (en : ℕ × Rows) (k : AreSoundRows s.columns.count en.1). k.once p) s.state.entities h.sound.rows) e) x)

pub itself : (x : Item) → same_item x x ≡ true
itself x = let a : (x.entity == x.entity) ≡ true = grind arith in let b : (x.pred == x.pred) ≡ true = grind arith in let c : (x.value == x.value) ≡ true = grind arith in rw (a, b, c) refl

pub count-held : (s : SideOf) → IsGoodSide s → (x : Item) → total (λ (y : Item). one_if (same_item y x)) (items s.state) ≡ one_if (is_held x s.state)
count-held s h x = by (is_held x s.state) refl
  where
    f : Item → ℕ
    f y = one_if (same_item y x)

    one : f x ≡ 1
    one = ap one_if (itself x)

    by : (b : Bool) → is_held x s.state ≡ b → total f (items s.state) ≡ one_if b
    by true t = let a = held_after_taking s.columns.count x s.state f h.sound t in let b : total f (items s.state) ≤ 1 = items-once s h x in let c : f x ≡ 1 = one in omega arith
    by false t =
        let a = held_after_placing s.columns.count (candidates_of s.columns []) x s.state f h.sound (h.first []) t in
        let b : total f (items (placed s.columns.count (candidates_of s.columns []) x s.state)) ≤ 1 = items-once (placed_in s [] x) (good-placed s [] x h) x in
        let c : f x ≡ 1 = one in omega arith

same_turned : (x y : Item) → same_item (turned y) (turned x) ≡ same_item y x
same_turned x y = by (y.value == x.value) (y.pred == x.pred) (y.entity == x.entity)
  where
    by : (a b c : Bool) → (a && (b && c)) ≡ (c && (b && a))
    by true true true = refl
    by true true false = refl
    by true false true = refl
    by true false false = refl
    by false true true = refl
    by false true false = refl
    by false false true = refl
    by false false false = refl

total-turned : (f g : Item → ℕ) → ((y : Item) → f (turned y) ≡ g y) → (xs : List Item) → total f (map turned xs) ≡ total g xs
total-turned f g h [] = refl
total-turned f g h (x ∷ xs) = let a : f (turned x) ≡ g x = h x in let b : total f (map turned xs) ≡ total g xs = total-turned f g h xs in omega arith

-- both sides hold the same
pub held-same : (s : SidesOf) → AreSides s → (x : Item) → is_held (turned x) s.reverse.state ≡ is_held x s.direct.state
held-same s h x =
    let a : total (λ (y : Item). one_if (same_item y (turned x))) (items s.reverse.state) ≡ one_if (is_held (turned x) s.reverse.state) = count-held s.reverse h.reverse (turned x) in
    let b : total (λ (y : Item). one_if (same_item y x)) (items s.direct.state) ≡ one_if (is_held x s.direct.state) = count-held s.direct h.direct x in
    let c : total (λ (y : Item). one_if (same_item y (turned x))) (items s.reverse.state) ≡ total (λ (y : Item). one_if (same_item y x)) (items s.direct.state)
    = h.same_items.totals (λ (y : Item). one_if (same_item y (turned x))) ∙ total-turned (λ (y : Item). one_if (same_item y (turned x))) (λ (y : Item). one_if (same_item y x)) (λ (y : Item). ap one_if (same_turned x y)) (items s.direct.state) in
    by (is_held (turned x) s.reverse.state) (is_held x s.direct.state) (sym a ∙ c ∙ b)
  where
    by : (a b : Bool) → one_if a ≡ one_if b → a ≡ b
    by true true e = refl
    by false false e = refl
    by true false e = absurd (omega arith)
    by false true e = absurd (omega arith)

pub sides-placed : (s : SidesOf) (iri : List ℕ) (x : Item) → AreSides s → is_held x s.direct.state ≡ false → AreSides (both_placed s iri x)
sides-placed s iri x h free = record {
  direct = good-placed s.direct iri x h.direct;
  reverse = good-placed s.reverse iri (turned x) h.reverse;
  same_items = record {
    totals = λ (g : Item → ℕ).
        (let a = held_after_placing s.reverse.columns.count (candidates_of s.reverse.columns iri) (turned x) s.reverse.state g h.reverse.sound (h.reverse.first iri) (held-same s h x ∙ free) in
        let b = held_after_placing s.direct.columns.count (candidates_of s.direct.columns iri) x s.direct.state (λ (y : Item). g (turned y)) h.direct.sound (h.direct.first iri) free in
        let c = h.same_items.totals g in
        let d = total-map g turned (items s.direct.state) in
        let e = total-map g turned (items (placed s.direct.columns.count (candidates_of s.direct.columns iri) x s.direct.state)) in
        omega arith);
  };
}

pub sides-taken : (s : SidesOf) (x : Item) → AreSides s → is_held x s.direct.state ≡ true → AreSides (both_taken s x)
sides-taken s x h there = record {
  direct = good-taken s.direct x h.direct;
  reverse = good-taken s.reverse (turned x) h.reverse;
  same_items = record {
    totals = λ (g : Item → ℕ).
        (let a = held_after_taking s.reverse.columns.count (turned x) s.reverse.state g h.reverse.sound (held-same s h x ∙ there) in
        let b = held_after_taking s.direct.columns.count x s.direct.state (λ (y : Item). g (turned y)) h.direct.sound there in
        let c = h.same_items.totals g in
        let d = total-map g turned (items s.direct.state) in
        let e = total-map g turned (items (taken x s.direct.state)) in
        omega arith);
  };
}

-- items that have a property keep it in an equal bag
pub same-is : (y x : Item) → same_item y x ≡ true → y ≡ x
same-is y x h = by (y.entity == x.entity) refl (y.pred == x.pred) refl (y.value == x.value) refl h
  where
    by : (a : Bool) → (y.entity == x.entity) ≡ a → (b : Bool) → (y.pred == x.pred) ≡ b → (c : Bool) → (y.value == x.value) ≡ c → (a && (b && c)) ≡ true → y ≡ x
    by true p true q true r h =
        let a : y.entity ≡ x.entity = grind arith in let b : y.pred ≡ x.pred = grind arith in let c : y.value ≡ x.value = grind arith in
        λ i. record { entity = a i; pred = b i; value = c i }
    by true p true q false r h = cc
    by true p false q c r h = cc
    by false p b q c r h = cc

each-there : (P : Item → Type 0) (xs : List Item) → ((z : Item) → 0 < total (λ (y : Item). one_if (same_item y z)) xs → P z) → AllByRecursion P xs
each-there P [] h = tt
each-there P (x ∷ xs) h =
    (h x (let a : one_if (same_item x x) ≡ 1 = ap one_if (itself x) in omega arith), each-there P xs (λ (z : Item) (l : 0 < total (λ (y : Item). one_if (same_item y z)) xs). h z (omega arith)))

pub each-bag_item : (P : Item → Type 0) (xs ys : List Item) → SameBag xs ys → AllByRecursion P ys → AllByRecursion P xs
each-bag_item P xs ys same h =
    each-there P xs (λ (z : Item) (l : 0 < total (λ (y : Item). one_if (same_item y z)) xs).
    picked P (P z) (λ (y : Item). one_if (same_item y z)) (λ (y : Item) (p : P y) (m : 0 < one_if (same_item y z)). by y z p (same_item y z) refl m) ys h
    (let e = same.totals (λ (y : Item). one_if (same_item y z)) in omega arith))
  where
    by : (y z : Item) → P y → (b : Bool) → same_item y z ≡ b → 0 < one_if b → P z
    by y z p true t m = subst P (same-is y z t) p
    by y z p false t m = absurd (omega arith)

-- a side that is as before but for its next list id
abbrev pub with_next : SideOf → ℕ → SideOf
with_next s n = record { columns = s.columns; state = record { entities = s.state.entities; lists = s.state.lists; next = n } }

pub good-next : (s : SideOf) (n : ℕ) → s.state.next ≤ n → IsGoodSide s → IsGoodSide (with_next s n)
good-next s n l h = record {
  sound = record { rows = h.sound.rows; lists = h.sound.lists; named = h.sound.named; apart = h.sound.apart; below = λ (m : ℕ) (k : n ≤ m). h.sound.below m (omega arith) };
  once = h.once;
  some = h.some;
  first = h.first;
}

pub sides-next : (s : SidesOf) (n : ℕ) → s.direct.state.next ≤ n → AreSides s → AreSides (record { direct = with_next s.direct n; reverse = s.reverse })
sides-next s n l h = record { direct = good-next s.direct n l h.direct; reverse = h.reverse; same_items = h.same_items }

-- an item that was placed is taken back
pub placed-back : (s : SideOf) (iri : List ℕ) (x : Item) → IsGoodSide s → is_held x s.state ≡ false → taken_from (placed_in s iri x) x ≡ with_next s (placed_in s iri x).state.next
placed-back s iri x h free =
    ap (λ (t : SideState). record { columns = s.columns; state = t }) (taken_back s.columns.count (candidates_of s.columns iri) x s.state h.sound (h.first iri) free)

pub before-back : (s : SidesOf) (iri : List ℕ) (x : Item) → AreAsBefore s (record { direct = with_next s.direct (placed_in s.direct iri x).state.next; reverse = s.reverse })
before-back s iri x =
    let n = next-placed s.direct.columns.count (candidates_of s.direct.columns iri) x s.direct.state in
    record { direct_columns = refl; direct_rows = refl; direct_lists = refl; direct_next = n.0; one_at_most = n.1; reverse = refl }

pub before-same : (s : SidesOf) → AreAsBefore s s
before-same s = record { direct_columns = refl; direct_rows = refl; direct_lists = refl; direct_next = omega arith; one_at_most = omega arith; reverse = refl }

-- placing what is held changes nothing
pub both-held : (s : SidesOf) (iri : List ℕ) (x : Item) → AreSides s → is_held x s.direct.state ≡ true → both_placed s iri x ≡ s
both-held s iri x h there =
    let a : placed_in s.direct iri x ≡ s.direct = ap (λ (t : SideState). record { columns = s.direct.columns; state = t }) (placed-held s.direct.columns.count (candidates_of s.direct.columns iri) x s.direct.state there) in
    let b : placed_in s.reverse iri (turned x) ≡ s.reverse = ap (λ (t : SideState). record { columns = s.reverse.columns; state = t }) (placed-held s.reverse.columns.count (candidates_of s.reverse.columns iri) (turned x) s.reverse.state (held-same s h x ∙ there)) in
    λ i. record { direct = a i; reverse = b i }

-- taking what isn't held changes nothing
pub both-free : (s : SidesOf) (x : Item) → AreSides s → is_held x s.direct.state ≡ false → both_taken s x ≡ s
both-free s x h free =
    let a : taken_from s.direct x ≡ s.direct = ap (λ (t : SideState). record { columns = s.direct.columns; state = t }) (taken-free x s.direct.state free) in
    let b : taken_from s.reverse (turned x) ≡ s.reverse = ap (λ (t : SideState). record { columns = s.reverse.columns; state = t }) (taken-free (turned x) s.reverse.state (held-same s h x ∙ free)) in
    λ i. record { direct = a i; reverse = b i }

-- placing and taking, whatever is held
pub sides_after_placing : (s : SidesOf) (iri : List ℕ) (x : Item) → AreSides s → AreSides (both_placed s iri x)
sides_after_placing s iri x h = by (is_held x s.direct.state) refl
  where
    by : (b : Bool) → is_held x s.direct.state ≡ b → AreSides (both_placed s iri x)
    by true t = subst AreSides (sym (both-held s iri x h t)) h
    by false t = sides-placed s iri x h t

pub sides_after_taking : (s : SidesOf) (x : Item) → AreSides s → AreSides (both_taken s x)
sides_after_taking s x h = by (is_held x s.direct.state) refl
  where
    by : (b : Bool) → is_held x s.direct.state ≡ b → AreSides (both_taken s x)
    by true t = sides-taken s x h t
    by false t = subst AreSides (sym (both-free s x h t)) h

-- two sides without rows
pub sides-empty : (s : SidesOf) → s.direct.state.entities ≡ [] → s.reverse.state.entities ≡ [] → IsSound s.direct.columns.count s.direct.state → IsSound s.reverse.columns.count s.reverse.state
    → ((iri : List ℕ) → 0 < length (candidates_of s.direct.columns iri)) → ((iri : List ℕ) → 0 < length (candidates_of s.reverse.columns iri))
    → ((iri : List ℕ) → first_of (candidates_of s.direct.columns iri) < s.direct.columns.count) → ((iri : List ℕ) → first_of (candidates_of s.reverse.columns iri) < s.reverse.columns.count) → AreSides s
sides-empty s d r a b c e f g = record {
  direct = record { sound = a; once = λ (n : ℕ). rw d (omega arith); some = c; first = f };
  reverse = record { sound = b; once = λ (n : ℕ). rw r (omega arith); some = e; first = g };
  same_items = record { totals = λ (h : Item → ℕ). rw (d, r) refl };
}
