-- What a change moves on a side.
use Rattle.std.proofs.Common.{◌≡◌, ℕ, ◌≤◌, ◌<◌, nat_eq, ◌||◌, Bool, true, false, if◌then◌else◌, List, [], ◌∷◌, Option, Some, None, length, refl, sym, ap, ◌∙◌, arith, subst}
use Rattle.std.specs.List.{list_any}
use Rattle.std.specs.Set.{remove_key}
use Rattle.layout_meaning.specs.declared.value.Value.{Value}
use Rattle.layout_meaning.specs.declared.value.Value.TheVariants.{One, Many}
use Rattle.layout_meaning.specs.Columns.{candidates_of}
use Rattle.layout_meaning.specs.Side.{Item, Rows, SideState, rows_of, elements_of, found_values, find, write, place_new, first_of, held, is_held, place_by, left_over, take_by}
use Rattle.layout_meaning.specs.Sound.{IsSound, IsSoundList}
use Rattle.layout_meaning.specs.Rows.{SideOf, placed_in, taken_from}
use Rattle.layout_meaning.proofs.Held.{listed}
use Rattle.layout_meaning.proofs.RowsKept.{All-found, rows_fit}
use Rattle.layout_standing_meaning.specs.Sides.{AreOnce, IsGoodSide}
use Rattle.layout_side_laws.specs.Places.{OthersStay, rows_but, StandsFirst}
use Rattle.layout_side_laws.proofs.Rows.{rows-other, rows-own}
use Rattle.layout_side_laws.proofs.Stays.{place_new-stays, stands-new, write-stays, rows-but}

-- what stands under an item's predicate
abbrev pub under : Item → SideState → Option Value
under x s = find x.pred (rows_of s.entities x.entity)

-- a list has two elements at least
pub several : (k n : ℕ) (x : Item) (s : SideState) → IsSound k s → under x s ≡ Some (Many n) → 2 ≤ length (elements_of s.lists n)
several k n x s sound h = (All-found IsSoundList n (elements_of s.lists n) s.lists sound.lists (listed k n x s sound h)).two

stays-same : (p : ℕ) (rs : Rows) → OthersStay p rs rs
stays-same p rs = record { same = λ (n c : ℕ). refl }

-- ---- other entities

other-place_by : (o : Option Value) (k : ℕ) (columns : List ℕ) (x : Item) (s : SideState) (e : ℕ) → (e ≡ x.entity → ⊥) → rows_of (place_by o k columns x s).entities e ≡ rows_of s.entities e
other-place_by None k columns x s e d = rows-other s.entities x.entity e (place_new k columns (record { pred = x.pred; value = One x.value }) (rows_of s.entities x.entity)) d
other-place_by (Some (One w)) k columns x s e d = rows-other s.entities x.entity e (write x.pred (Some (record { pred = x.pred; value = Many s.next })) (rows_of s.entities x.entity)) d
other-place_by (Some (Many n)) k columns x s e d = refl

pub other-placed : (s : SideOf) (iri : List ℕ) (x : Item) (e : ℕ) → (e ≡ x.entity → ⊥) → rows_of (placed_in s iri x).state.entities e ≡ rows_of s.state.entities e
other-placed s iri x e d = by (is_held x s.state)
  where
    by : (b : Bool) → rows_of (if b then s.state else place_by (under x s.state) s.columns.count (candidates_of s.columns iri) x s.state).entities e ≡ rows_of s.state.entities e
    by true = refl
    by false = other-place_by (under x s.state) s.columns.count (candidates_of s.columns iri) x s.state e d

other-left : (ys : List ℕ) (n : ℕ) (x : Item) (s : SideState) (e : ℕ) → (e ≡ x.entity → ⊥) → rows_of (left_over ys n x s).entities e ≡ rows_of s.entities e
other-left [] n x s e d = refl
other-left (a ∷ []) n x s e d = rows-other s.entities x.entity e (write x.pred (Some (record { pred = x.pred; value = One a })) (rows_of s.entities x.entity)) d
other-left (a ∷ b ∷ more) n x s e d = refl

other-take_by : (o : Option Value) (x : Item) (s : SideState) (e : ℕ) → (e ≡ x.entity → ⊥) → rows_of (take_by o x s).entities e ≡ rows_of s.entities e
other-take_by None x s e d = refl
other-take_by (Some (One w)) x s e d = rows-other s.entities x.entity e (write x.pred None (rows_of s.entities x.entity)) d
other-take_by (Some (Many n)) x s e d = other-left (remove_key (nat_eq x.value) (elements_of s.lists n)) n x s e d

pub other-taken : (s : SideOf) (x : Item) (e : ℕ) → (e ≡ x.entity → ⊥) → rows_of (taken_from s x).state.entities e ≡ rows_of s.state.entities e
other-taken s x e d = by (is_held x s.state)
  where
    by : (b : Bool) → rows_of (if b then take_by (under x s.state) x s.state else s.state).entities e ≡ rows_of s.state.entities e
    by true = other-take_by (under x s.state) x s.state e d
    by false = refl

-- ---- the item's entity

stays-place_by : (o : Option Value) (k : ℕ) (columns : List ℕ) (x : Item) (s : SideState) → AreOnce s.entities → first_of columns < k → OthersStay x.pred (rows_of s.entities x.entity) (rows_of (place_by o k columns x s).entities x.entity)
stays-place_by None k columns x s once first =
    subst (OthersStay x.pred (rows_of s.entities x.entity)) (sym (rows-own s.entities x.entity (place_new k columns (record { pred = x.pred; value = One x.value }) (rows_of s.entities x.entity)) once))
    (record { same = λ (n c : ℕ). place_new-stays k x.pred (One x.value) columns (rows_of s.entities x.entity) first n c })
stays-place_by (Some (One w)) k columns x s once first =
    subst (OthersStay x.pred (rows_of s.entities x.entity)) (sym (rows-own s.entities x.entity (write x.pred (Some (record { pred = x.pred; value = Many s.next })) (rows_of s.entities x.entity)) once))
    (record { same = λ (n c : ℕ). write-stays x.pred (Many s.next) (rows_of s.entities x.entity) n c })
stays-place_by (Some (Many n)) k columns x s once first = stays-same x.pred (rows_of s.entities x.entity)

pub stays-placed : (s : SideOf) (iri : List ℕ) (x : Item) → IsGoodSide s → OthersStay x.pred (rows_of s.state.entities x.entity) (rows_of (placed_in s iri x).state.entities x.entity)
stays-placed s iri x g = by (is_held x s.state)
  where
    by : (b : Bool) → OthersStay x.pred (rows_of s.state.entities x.entity) (rows_of (if b then s.state else place_by (under x s.state) s.columns.count (candidates_of s.columns iri) x s.state).entities x.entity)
    by true = stays-same x.pred (rows_of s.state.entities x.entity)
    by false = stays-place_by (under x s.state) s.columns.count (candidates_of s.columns iri) x s.state g.once (g.first iri)

-- a value that is there alone, or not at all
none-under : (s : SideOf) (x : Item) → IsGoodSide s → held s.state x.entity x.pred ≡ [] → under x s.state ≡ None
none-under s x g h = by (under x s.state) refl h
  where
    by : (o : Option Value) → under x s.state ≡ o → found_values s.state.lists o ≡ [] → o ≡ None
    by None t h = refl
    by (Some (One w)) t h = cc
    by (Some (Many n)) t h = let m = several s.columns.count n x s.state g.sound t in let z : length (elements_of s.state.lists n) ≡ 0 = ap length h in absurd (omega arith)

pub stands-placed : (s : SideOf) (iri : List ℕ) (x : Item) → IsGoodSide s → held s.state x.entity x.pred ≡ []
    → StandsFirst (candidates_of s.columns iri) (rows_of s.state.entities x.entity) (rows_of (placed_in s iri x).state.entities x.entity) (record { pred = x.pred; value = One x.value })
stands-placed s iri x g h =
    let free : is_held x s.state ≡ false = ap (list_any (nat_eq x.value)) h in
    let none : under x s.state ≡ None = none-under s x g h in
    let new : Rows = place_new s.columns.count (candidates_of s.columns iri) (record { pred = x.pred; value = One x.value }) (rows_of s.state.entities x.entity) in
    let e : rows_of (placed_in s iri x).state.entities x.entity ≡ new =
    ap (λ (b : Bool). rows_of (if b then s.state else place_by (under x s.state) s.columns.count (candidates_of s.columns iri) x s.state).entities x.entity) free
    ∙ ap (λ (o : Option Value). rows_of (place_by o s.columns.count (candidates_of s.columns iri) x s.state).entities x.entity) none
    ∙ rows-own s.state.entities x.entity new g.once in
    subst (λ (rs : Rows). StandsFirst (candidates_of s.columns iri) (rows_of s.state.entities x.entity) rs (record { pred = x.pred; value = One x.value })) (sym e)
    (stands-new s.columns.count (candidates_of s.columns iri) (record { pred = x.pred; value = One x.value }) (rows_of s.state.entities x.entity) (g.first iri))

stays-left : (ys : List ℕ) (n : ℕ) (x : Item) (s : SideState) → AreOnce s.entities → OthersStay x.pred (rows_of s.entities x.entity) (rows_of (left_over ys n x s).entities x.entity)
stays-left [] n x s once = stays-same x.pred (rows_of s.entities x.entity)
stays-left (a ∷ []) n x s once =
    subst (OthersStay x.pred (rows_of s.entities x.entity)) (sym (rows-own s.entities x.entity (write x.pred (Some (record { pred = x.pred; value = One a })) (rows_of s.entities x.entity)) once))
    (record { same = λ (m c : ℕ). write-stays x.pred (One a) (rows_of s.entities x.entity) m c })
stays-left (a ∷ b ∷ more) n x s once = stays-same x.pred (rows_of s.entities x.entity)

stays-take_by : (o : Option Value) (x : Item) (s : SideState) → AreOnce s.entities → 2 ≤ length (found_values s.lists o) → OthersStay x.pred (rows_of s.entities x.entity) (rows_of (take_by o x s).entities x.entity)
stays-take_by None x s once l = absurd (omega arith)
stays-take_by (Some (One w)) x s once l = absurd (omega arith)
stays-take_by (Some (Many n)) x s once l = stays-left (remove_key (nat_eq x.value) (elements_of s.lists n)) n x s once

pub stays-taken : (s : SideOf) (x : Item) → IsGoodSide s → 2 ≤ length (held s.state x.entity x.pred) → OthersStay x.pred (rows_of s.state.entities x.entity) (rows_of (taken_from s x).state.entities x.entity)
stays-taken s x g l = by (is_held x s.state)
  where
    by : (b : Bool) → OthersStay x.pred (rows_of s.state.entities x.entity) (rows_of (if b then take_by (under x s.state) x s.state else s.state).entities x.entity)
    by true = stays-take_by (under x s.state) x s.state g.once l
    by false = stays-same x.pred (rows_of s.state.entities x.entity)

one-under : (s : SideOf) (x : Item) → IsGoodSide s → held s.state x.entity x.pred ≡ x.value ∷ [] → under x s.state ≡ Some (One x.value)
one-under s x g h = by (under x s.state) refl h
  where
    by : (o : Option Value) → under x s.state ≡ o → found_values s.state.lists o ≡ x.value ∷ [] → o ≡ Some (One x.value)
    by None t h = cc
    by (Some (One w)) t h = let k : w ≡ x.value = cc in ap (λ (v : ℕ). Some (One v)) k
    by (Some (Many n)) t h = let m = several s.columns.count n x s.state g.sound t in let z : length (elements_of s.state.lists n) ≡ 1 = ap length h in absurd (omega arith)

pub only-taken : (s : SideOf) (x : Item) → IsGoodSide s → held s.state x.entity x.pred ≡ x.value ∷ [] → rows_of (taken_from s x).state.entities x.entity ≡ rows_but x.pred (rows_of s.state.entities x.entity)
only-taken s x g h =
    let there : is_held x s.state ≡ true = ap (list_any (nat_eq x.value)) h ∙ itself (nat_eq x.value x.value) (alike x.value) in
    let one : under x s.state ≡ Some (One x.value) = one-under s x g h in
    let fit = rows_fit s.columns.count x.entity s.state.entities g.sound.rows in
    ap (λ (b : Bool). rows_of (if b then take_by (under x s.state) x s.state else s.state).entities x.entity) there
    ∙ ap (λ (o : Option Value). rows_of (take_by o x s.state).entities x.entity) one
    ∙ rows-own s.state.entities x.entity (write x.pred None (rows_of s.state.entities x.entity)) g.once
    ∙ rows-but x.pred (One x.value) (rows_of s.state.entities x.entity) fit.full (fit.once x.pred) one
  where
    alike : (v : ℕ) → nat_eq v v ≡ true
    alike v = grind arith

    itself : (b : Bool) → b ≡ true → (b || false) ≡ true
    itself true e = refl
    itself false e = e
