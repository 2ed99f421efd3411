-- Placing an item and taking it back.
use Rattle.std.proofs.Common.{◌≡◌, ℕ, ◌+◌, ◌≤◌, ◌<◌, nat_eq, ◌||◌, Bool, true, false, if◌then◌else◌, List, [], ◌∷◌, ◌++◌, Option, Some, None, length, arith, refl, sym, ap, subst, ◌∙◌}
use Rattle.std.specs.List.{list_any}
use Rattle.std.specs.Ordering.{nat_cmp}
use Rattle.std.specs.BTreeMap.{is_at, insert_entry}
use Rattle.std.specs.Map.{set_value, remove_entry}
use Rattle.std.specs.Set.{remove_key}
use Rattle.layout_meaning.specs.Side.{Value, One, Many, Pair, Item, SideState, or_empty, rows_of, elements_of, found_values, find, write, place_new, with_rows, first_of, is_held, place_by, placed, left_over, take_by, taken}
use Rattle.layout_meaning.specs.Sound.{IsSound, IsSoundList}
use Rattle.layout_meaning.proofs.Maps.{set_value-same, insert_entry-same}
use Rattle.layout_meaning.proofs.Sums.{numbered-none}
use Rattle.layout_meaning.proofs.Held.{listed}
use Rattle.layout_meaning.proofs.RowsKept.{All-found, rows_fit, some-place_new}
use Rattle.layout_meaning.proofs.Back.{remove-insert, set-set, remove-last, write-place_new}
use Rattle.layout_meaning.proofs.Undone.{rows-with_rows, with_back, find-write, write-back, find-place_new}

taken-found : (x : Item) (s : SideState) (o : Option Value) → find x.pred (rows_of s.entities x.entity) ≡ o → list_any (nat_eq x.value) (found_values s.lists o) ≡ true → taken x s ≡ take_by o x s
taken-found x s o h t =
    let a : is_held x s ≡ true = ap (λ (o : Option Value). list_any (nat_eq x.value) (found_values s.lists o)) h ∙ t in
    ap (λ (b : Bool). if b then take_by (find x.pred (rows_of s.entities x.entity)) x s else s) a ∙ ap (λ (o : Option Value). take_by o x s) h

found-some : (p : ℕ) (v : Value) (rs : List (List (Option Pair))) → find p rs ≡ Some v → 0 < length rs
found-some p v [] h = cc
found-some p v (r ∷ rs) h = omega arith

itself : (v : ℕ) → nat_eq v v ≡ true
itself v = grind arith

or_false : (b : Bool) → (b || false) ≡ false → b ≡ false
or_false true h = h
or_false false h = refl

two-left : (v w : ℕ) → nat_eq v w ≡ false → remove_key (nat_eq v) (w ∷ v ∷ []) ≡ w ∷ []
two-left v w h = rw h (rw (itself v) refl)

two-any : (v w : ℕ) → list_any (nat_eq v) (w ∷ v ∷ []) ≡ true
two-any v w = by (nat_eq v w)
  where
    last : (b : Bool) → b ≡ true → (b || false) ≡ true
    last true h = refl
    last false h = h

    by : (b : Bool) → (b || (nat_eq v v || false)) ≡ true
    by true = refl
    by false = last (nat_eq v v) (itself v)

any-last : (v : ℕ) (xs : List ℕ) → list_any (nat_eq v) (xs ++ v ∷ []) ≡ true
any-last v [] = rw (itself v) refl
any-last v (x ∷ xs) = by (any-last v xs) (nat_eq v x)
  where
    by : list_any (nat_eq v) (xs ++ v ∷ []) ≡ true → (b : Bool) → (b || list_any (nat_eq v) (xs ++ v ∷ [])) ≡ true
    by ih true = refl
    by ih false = ih

left-many : (n : ℕ) (x : Item) (s : SideState) (xs : List ℕ) → 2 ≤ length xs → left_over xs n x s ≡ record { entities = s.entities; lists = set_value (is_at (nat_cmp n)) s.lists xs; next = s.next }
left-many n x s [] h = absurd (omega arith)
left-many n x s (a ∷ []) h = absurd (omega arith)
left-many n x s (a ∷ b ∷ more) h = refl

-- a state from its parts
abbrev state : List (ℕ × List (List (Option Pair))) → List (ℕ × List ℕ) → ℕ → SideState
state ents lists next = record { entities = ents; lists = lists; next = next }

back_by : (k : ℕ) (columns : List ℕ) (x : Item) (s : SideState) → IsSound k s → first_of columns < k → (o : Option Value) → find x.pred (rows_of s.entities x.entity) ≡ o
    → list_any (nat_eq x.value) (found_values s.lists o) ≡ false → taken x (place_by o k columns x s) ≡ state s.entities s.lists (place_by o k columns x s).next
back_by k columns x s sound first None h free =
    let rows : List (List (Option Pair)) = rows_of s.entities x.entity in
    let new : List (List (Option Pair)) = place_new k columns (record { pred = x.pred; value = One x.value }) rows in
    let ents : List (ℕ × List (List (Option Pair))) = with_rows s.entities x.entity new in
    let some = some-place_new k columns (record { pred = x.pred; value = One x.value }) rows in
    let r : rows_of ents x.entity ≡ new = rows-with_rows s.entities x.entity new some in
    let f : find x.pred (rows_of ents x.entity) ≡ Some (One x.value) = ap (find x.pred) r ∙ find-place_new k x.pred (One x.value) columns rows first h in
    let e : with_rows ents x.entity (write x.pred None (rows_of ents x.entity)) ≡ s.entities =
    ap (λ (l : List (List (Option Pair))). with_rows ents x.entity (write x.pred None l)) r
    ∙ ap (λ (l : List (List (Option Pair))). with_rows ents x.entity l) (write-place_new k x.pred (One x.value) columns rows first (rows_fit k x.entity s.entities sound.rows).full h)
    ∙ with_back k s.entities x.entity new sound.rows some in
    taken-found x (state ents s.lists s.next) (Some (One x.value)) f (any-last x.value []) ∙ ap (λ (en : List (ℕ × List (List (Option Pair)))). state en s.lists s.next) e
back_by k columns x s sound first (Some (One w)) h free =
    let rows : List (List (Option Pair)) = rows_of s.entities x.entity in
    let new : List (List (Option Pair)) = write x.pred (Some (record { pred = x.pred; value = Many s.next })) rows in
    let ents : List (ℕ × List (List (Option Pair))) = with_rows s.entities x.entity new in
    let lists : List (ℕ × List ℕ) = insert_entry nat_cmp s.lists s.next (w ∷ x.value ∷ []) in
    let none = numbered-none s.next s.lists (sound.below s.next (omega arith)) in
    let g = find-write x.pred (Many s.next) (One w) rows h in
    let some = found-some x.pred (Many s.next) new g in
    let r : rows_of ents x.entity ≡ new = rows-with_rows s.entities x.entity new some in
    let f : find x.pred (rows_of ents x.entity) ≡ Some (Many s.next) = ap (find x.pred) r ∙ g in
    let el : elements_of lists s.next ≡ w ∷ x.value ∷ [] = ap (λ (o : Option (List ℕ)). or_empty o) (insert_entry-same s.next (w ∷ x.value ∷ []) s.lists none) in
    let there : list_any (nat_eq x.value) (elements_of lists s.next) ≡ true = ap (list_any (nat_eq x.value)) el ∙ two-any x.value w in
    let ys : remove_key (nat_eq x.value) (elements_of lists s.next) ≡ w ∷ [] = ap (remove_key (nat_eq x.value)) el ∙ two-left x.value w (or_false (nat_eq x.value w) free) in
    let e : with_rows ents x.entity (write x.pred (Some (record { pred = x.pred; value = One w })) (rows_of ents x.entity)) ≡ s.entities =
    ap (λ (l : List (List (Option Pair))). with_rows ents x.entity (write x.pred (Some (record { pred = x.pred; value = One w })) l)) r
    ∙ ap (λ (l : List (List (Option Pair))). with_rows ents x.entity l) (write-back x.pred (Many s.next) (One w) rows h)
    ∙ with_back k s.entities x.entity new sound.rows some in
    taken-found x (state ents lists (s.next + 1)) (Some (Many s.next)) f there
    ∙ ap (λ (l : List ℕ). left_over l s.next x (state ents lists (s.next + 1))) ys
    ∙ ap (λ (en : List (ℕ × List (List (Option Pair)))). state en (remove_entry (is_at (nat_cmp s.next)) lists) (s.next + 1)) e
    ∙ ap (λ (l : List (ℕ × List ℕ)). state s.entities l (s.next + 1)) (remove-insert s.next (w ∷ x.value ∷ []) s.lists none)
back_by k columns x s sound first (Some (Many n)) h free =
    let xs : List ℕ = elements_of s.lists n in
    let lists : List (ℕ × List ℕ) = set_value (is_at (nat_cmp n)) s.lists (xs ++ x.value ∷ []) in
    let listed_here = listed k n x s sound h in
    let two = (All-found IsSoundList n xs s.lists sound.lists listed_here).two in
    let el : elements_of lists n ≡ xs ++ x.value ∷ [] = ap (λ (o : Option (List ℕ)). or_empty o) (set_value-same n xs (xs ++ x.value ∷ []) s.lists listed_here) in
    let there : list_any (nat_eq x.value) (elements_of lists n) ≡ true = ap (list_any (nat_eq x.value)) el ∙ any-last x.value xs in
    let ys : remove_key (nat_eq x.value) (elements_of lists n) ≡ xs = ap (remove_key (nat_eq x.value)) el ∙ remove-last x.value xs free in
    taken-found x (state s.entities lists s.next) (Some (Many n)) h there
    ∙ ap (λ (l : List ℕ). left_over l n x (state s.entities lists s.next)) ys
    ∙ left-many n x (state s.entities lists s.next) xs two
    ∙ ap (λ (l : List (ℕ × List ℕ)). state s.entities l s.next) (set-set n xs (xs ++ x.value ∷ []) s.lists listed_here)

pub taken_back : (k : ℕ) (columns : List ℕ) (x : Item) (s : SideState) → IsSound k s → first_of columns < k → is_held x s ≡ false
    → taken x (placed k columns x s) ≡ record { entities = s.entities; lists = s.lists; next = (placed k columns x s).next }
taken_back k columns x s sound first free =
    subst (λ (b : Bool). taken x (if b then s else place_by (find x.pred (rows_of s.entities x.entity)) k columns x s) ≡ state s.entities s.lists (if b then s else place_by (find x.pred (rows_of s.entities x.entity)) k columns x s).next)
    (sym free) (back_by k columns x s sound first (find x.pred (rows_of s.entities x.entity)) refl free)
