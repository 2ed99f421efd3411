-- The values of an entity under a predicate after a change, in order.
use Rattle.std.proofs.Common.{◌≡◌, ℕ, ◌≤◌, ◌<◌, ◌==◌, nat_eq, ◌||◌, not, Bool, true, false, cond, if◌then◌else◌, List, [], ◌∷◌, ◌++◌, map, Option, Some, None, length, refl, ap, ◌∙◌, arith}
use Rattle.std.specs.List.{list_any}
use Rattle.std.specs.Ordering.{nat_cmp}
use Rattle.std.specs.BTreeMap.{is_at, insert_entry}
use Rattle.std.specs.Map.{set_value}
use Rattle.std.specs.Set.{remove_key}
use Rattle.layout_meaning.specs.declared.value.Value.{Value}
use Rattle.layout_meaning.specs.declared.value.Value.TheVariants.{One, Many}
use Rattle.layout_meaning.specs.Columns.{candidates_of}
use Rattle.layout_meaning.specs.Side.{Item, Row, Rows, ValueLists, SideState, or_empty, rows_of, elements_of, found_values, find_in_row, find, all_free, write, place_new, first_of, held, is_held, place_by, left_over, take_by}
use Rattle.layout_meaning.specs.Sound.{IsSound}
use Rattle.layout_meaning.specs.Rows.{SideOf, placed_in, taken_from}
use Rattle.layout_meaning.proofs.Maps.{set_value-same, insert_entry-same}
use Rattle.layout_meaning.proofs.Sums.{numbered-none, total-remove_key}
use Rattle.layout_meaning.proofs.Held.{listed}
use Rattle.layout_meaning.proofs.RowsKept.{rows_fit, length-total}
use Rattle.layout_meaning.proofs.Undone.{find-write, find-place_new}
use Rattle.layout_standing_meaning.specs.Sides.{AreOnce, IsGoodSide}
use Rattle.layout_side_laws.specs.Places.{but, rows_but}
use Rattle.layout_side_laws.proofs.Rows.{rows-own}
use Rattle.layout_side_laws.proofs.Stays.{rows-but}
use Rattle.layout_side_laws.proofs.Sides.{under, several}

-- ---- placing

place-values : (k : ℕ) (columns : List ℕ) (x : Item) (s : SideState) → IsSound k s → AreOnce s.entities → first_of columns < k → (o : Option Value) → under x s ≡ o
    → held (place_by o k columns x s) x.entity x.pred ≡ found_values s.lists o ++ x.value ∷ []
place-values k columns x s sound once first None t =
    let rows = rows_of s.entities x.entity in
    let new = place_new k columns (record { pred = x.pred; value = One x.value }) rows in
    ap (λ (o : Option Value). found_values s.lists o) (ap (find x.pred) (rows-own s.entities x.entity new once) ∙ find-place_new k x.pred (One x.value) columns rows first t)
place-values k columns x s sound once first (Some (One w)) t =
    let rows = rows_of s.entities x.entity in
    let new = write x.pred (Some (record { pred = x.pred; value = Many s.next })) rows in
    let lists : ValueLists = insert_entry nat_cmp s.lists s.next (w ∷ x.value ∷ []) in
    ap (λ (o : Option Value). found_values lists o) (ap (find x.pred) (rows-own s.entities x.entity new once) ∙ find-write x.pred (Many s.next) (One w) rows t)
    ∙ ap (λ (o : Option (List ℕ)). or_empty o) (insert_entry-same s.next (w ∷ x.value ∷ []) s.lists (numbered-none s.next s.lists (sound.below s.next (omega arith))))
place-values k columns x s sound once first (Some (Many n)) t =
    let xs = elements_of s.lists n in
    let lists : ValueLists = set_value (is_at (nat_cmp n)) s.lists (xs ++ x.value ∷ []) in
    ap (λ (o : Option Value). found_values lists o) t
    ∙ ap (λ (o : Option (List ℕ)). or_empty o) (set_value-same n xs (xs ++ x.value ∷ []) s.lists (listed k n x s sound t))

pub placed-values : (s : SideOf) (iri : List ℕ) (x : Item) → IsGoodSide s → is_held x s.state ≡ false → held (placed_in s iri x).state x.entity x.pred ≡ held s.state x.entity x.pred ++ x.value ∷ []
placed-values s iri x g free =
    ap (λ (b : Bool). held (if b then s.state else place_by (under x s.state) s.columns.count (candidates_of s.columns iri) x s.state) x.entity x.pred) free
    ∙ place-values s.columns.count (candidates_of s.columns iri) x s.state g.sound g.once (g.first iri) (under x s.state) refl

-- ---- taking out

not_in_row : (p : ℕ) (r : Row) → find_in_row p (map (but p) r) ≡ None
not_in_row p [] = refl
not_in_row p (None ∷ r) = not_in_row p r
not_in_row p (Some q ∷ r) = by (q.pred == p) refl (not_in_row p r)
  where
    by : (b : Bool) → (q.pred == p) ≡ b → find_in_row p (map (but p) r) ≡ None → find_in_row p ((if b then None else Some q) ∷ map (but p) r) ≡ None
    by true t ih = ih
    by false t ih = rw t ih

not_there : (p : ℕ) (rs : Rows) → find p (rows_but p rs) ≡ None
not_there p [] = refl
not_there p (r ∷ rs) = by (all_free (map (but p) r)) (not_there p rs)
  where
    by : (b : Bool) → find p (rows_but p rs) ≡ None → find p (cond (not b) (map (but p) r ∷ rows_but p rs) (rows_but p rs)) ≡ None
    by true ih = ih
    by false ih = rw (not_in_row p r) ih

left-values : (k n : ℕ) (x : Item) (s : SideState) → IsSound k s → AreOnce s.entities → under x s ≡ Some (Many n) → (ys : List ℕ) → 1 ≤ length ys → held (left_over ys n x s) x.entity x.pred ≡ ys
left-values k n x s sound once t [] l = absurd (omega arith)
left-values k n x s sound once t (a ∷ []) l =
    let rows = rows_of s.entities x.entity in
    let new = write x.pred (Some (record { pred = x.pred; value = One a })) rows in
    ap (λ (o : Option Value). found_values (left_over (a ∷ []) n x s).lists o) (ap (find x.pred) (rows-own s.entities x.entity new once) ∙ find-write x.pred (One a) (Many n) rows t)
left-values k n x s sound once t (a ∷ b ∷ more) l =
    ap (λ (o : Option Value). found_values (set_value (is_at (nat_cmp n)) s.lists (a ∷ b ∷ more)) o) t
    ∙ ap (λ (o : Option (List ℕ)). or_empty o) (set_value-same n (elements_of s.lists n) (a ∷ b ∷ more) s.lists (listed k n x s sound t))

take-values : (k : ℕ) (x : Item) (s : SideState) → IsSound k s → AreOnce s.entities → (o : Option Value) → under x s ≡ o → list_any (nat_eq x.value) (found_values s.lists o) ≡ true
    → held (take_by o x s) x.entity x.pred ≡ remove_key (nat_eq x.value) (found_values s.lists o)
take-values k x s sound once None t there = cc
take-values k x s sound once (Some (One w)) t there =
    let rows = rows_of s.entities x.entity in
    let fit = rows_fit k x.entity s.entities sound.rows in
    let gone : find x.pred (rows_of (take_by (Some (One w)) x s).entities x.entity) ≡ None =
    ap (find x.pred) (rows-own s.entities x.entity (write x.pred None rows) once ∙ rows-but x.pred (One w) rows fit.full (fit.once x.pred) t) ∙ not_there x.pred rows in
    ap (λ (o : Option Value). found_values s.lists o) gone ∙ ends (nat_eq x.value w) there
  where
    ends : (b : Bool) → (b || false) ≡ true → [] ≡ cond b [] (w ∷ [])
    ends true h = refl
    ends false h = cc
take-values k x s sound once (Some (Many n)) t there =
    let xs = elements_of s.lists n in
    let ys = remove_key (nat_eq x.value) xs in
    let two = several k n x s sound t in
    let less = total-remove_key (λ (z : ℕ). 1) x.value xs there in
    let a = length-total xs in
    let b = length-total ys in
    left-values k n x s sound once t ys (omega arith)

pub taken-values : (s : SideOf) (x : Item) → IsGoodSide s → is_held x s.state ≡ true → held (taken_from s x).state x.entity x.pred ≡ remove_key (nat_eq x.value) (held s.state x.entity x.pred)
taken-values s x g there =
    ap (λ (b : Bool). held (if b then take_by (under x s.state) x s.state else s.state) x.entity x.pred) there
    ∙ take-values s.columns.count x s.state g.sound g.once (under x s.state) refl there
