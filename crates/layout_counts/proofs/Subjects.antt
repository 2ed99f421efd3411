-- The entities of a side are the terms of its items, each once.
use Rattle.std.proofs.Common.{◌≡◌, ℕ, suc, ◌+◌, ◌==◌, ◌<◌, ◌≤◌, ◌||◌, Bool, true, false, List, [], ◌∷◌, ◌++◌, map, Option, Some, None, length, refl, sym, ap, ◌∙◌, arith, subst}
use Rattle.std.specs.List.{list_any, flat_map, AllByRecursion, IsDistinct}
use Rattle.std.specs.Set.{distinct_count}
use Rattle.std.proofs.lemmas.Map.Keys.{IsDistinct-cons}
use Rattle.std.proofs.lemmas.Map.Made.{length-from_keys}
use Rattle.bags.specs.Bag.{total, SameBag}
use Rattle.bags.specs.BagLaws.{same-any, each-any, each-map, each-flat_map}
use Rattle.rdf_meaning.specs.Terms.{RdfTerm, same_term}
use Rattle.rdf_meaning.specs.TermLaws.{same_term-is, same_term_equiv}
use Rattle.layout_meaning.specs.declared.value.Value.{Value}
use Rattle.layout_meaning.specs.declared.value.Value.TheVariants.{One, Many}
use Rattle.layout_meaning.specs.Side.{Pair, Row, Rows, Entities, Item, ValueLists, SideState, values_of, elements_of, pair_items, items, all_free}
use Rattle.layout_meaning.specs.Sound.{one_if, names, value_names, numbered, IsSoundList, AreSoundRows, IsSound}
use Rattle.layout_meaning.proofs.RowsKept.{All-found}
use Rattle.layout_standing_meaning.specs.Dictionary.{id_of, entries_of}
use Rattle.layout_standing_meaning.specs.Sides.{AreOnce}
use Rattle.layout_standing_meaning.specs.Stored.{IsIdIn, term_at}
use Rattle.layout_standing_meaning.proofs.Each.{each-two, each-unmap, each-part, any-flat_map}
use Rattle.layout_standing_meaning.proofs.Known.{found_list}
use Rattle.layout_standing_meaning.proofs.Terms.{term_at-id}

abbrev AreSoundLists : ValueLists → Type 0
AreSoundLists lists = AllByRecursion (λ (l : ℕ × List ℕ). IsSoundList l.1) lists

-- the items of an entity's rows
abbrev pub items_in : ValueLists → ℕ → Rows → List Item
items_in lists e rows = flat_map (flat_map (pair_items lists e)) rows

-- ---- each entity has an item

some_front : {X : Type 0} (xs ys : List X) → 0 < length xs → 0 < length (xs ++ ys)
some_front [] ys l = absurd (omega arith)
some_front (x ∷ xs) ys l = omega arith

some_mapped : {X Y : Type 0} (f : X → Y) (xs : List X) → 0 < length xs → 0 < length (map f xs)
some_mapped f [] l = absurd (omega arith)
some_mapped f (x ∷ xs) l = omega arith

some_value : (lists : ValueLists) → AreSoundLists lists → (v : Value) → ((n : ℕ) → value_names n v ≤ numbered n lists) → 0 < length (values_of lists v)
some_value lists sound (One v) h = omega arith
some_value lists sound (Many n) h =
    let one : one_if (n == n) ≡ 1 = grind arith in
    let l : 1 ≤ numbered n lists = (let a = h n in omega arith) in
    let two : 2 ≤ length (elements_of lists n) = (All-found IsSoundList n (elements_of lists n) lists sound (found_list n lists l)).two in
    omega arith

some_in_row : (lists : ValueLists) → AreSoundLists lists → (e : ℕ) (r : Row) → all_free r ≡ false → AllByRecursion (λ (o : Option Pair). (n : ℕ) → names n o ≤ numbered n lists) r → 0 < length (flat_map (pair_items lists e) r)
some_in_row lists sound e [] full h = cc
some_in_row lists sound e (None ∷ r) full h = some_in_row lists sound e r full h.1
some_in_row lists sound e (Some q ∷ r) full h =
    some_front (pair_items lists e (Some q)) (flat_map (pair_items lists e) r) (some_mapped (λ v. record { entity = e; pred = q.pred; value = v }) (values_of lists q.value) (some_value lists sound q.value h.0))

some_item : (k : ℕ) (lists : ValueLists) → AreSoundLists lists → (e : ℕ) (rows : Rows) → AreSoundRows k rows → ((n : ℕ) → total (total (names n)) rows ≤ numbered n lists) → 0 < length (items_in lists e rows)
some_item k lists sound e [] s h = (let a = s.some in absurd (omega arith))
some_item k lists sound e (r ∷ rs) s h =
    some_front (flat_map (pair_items lists e) r) (items_in lists e rs)
    (some_in_row lists sound e r s.full.0 (each-part names (λ (n : ℕ). numbered n lists) r (λ (n : ℕ). (let a = h n in omega arith))))

pub have_items : (k : ℕ) (s : SideState) → IsSound k s → AllByRecursion (λ (en : ℕ × Rows). 0 < length (items_in s.lists en.0 en.1)) s.entities
have_items k s h =
    each-two (λ (en : ℕ × Rows). AreSoundRows k en.1) (λ (en : ℕ × Rows). (n : ℕ) → total (total (names n)) en.1 ≤ numbered n s.lists) (λ (en : ℕ × Rows). 0 < length (items_in s.lists en.0 en.1))
    (λ (en : ℕ × Rows) (a : AreSoundRows k en.1) (b : (n : ℕ) → total (total (names n)) en.1 ≤ numbered n s.lists). some_item k s.lists h.lists en.0 en.1 a b) s.entities h.rows
    (each-part (λ (n : ℕ) (en : ℕ × Rows). total (total (names n)) en.1) (λ (n : ℕ). numbered n s.lists) s.entities (λ (n : ℕ). (let a = h.named n in omega arith)))

-- ---- and its items have it as entity

own_pair : (lists : ValueLists) (e : ℕ) (o : Option Pair) → AllByRecursion (λ (x : Item). x.entity ≡ e) (pair_items lists e o)
own_pair lists e None = tt
own_pair lists e (Some q) = each-map (λ (x : Item). x.entity ≡ e) (λ v. record { entity = e; pred = q.pred; value = v }) (values_of lists q.value) (each-any (λ (v : ℕ). e ≡ e) (λ (v : ℕ). refl) (values_of lists q.value))

pub own_items : (lists : ValueLists) (e : ℕ) (rows : Rows) → AllByRecursion (λ (x : Item). x.entity ≡ e) (items_in lists e rows)
own_items lists e rows =
    each-flat_map (λ (x : Item). x.entity ≡ e) (flat_map (pair_items lists e)) rows
    (each-any (λ (r : Row). AllByRecursion (λ (x : Item). x.entity ≡ e) (flat_map (pair_items lists e) r))
    (λ (r : Row). each-flat_map (λ (x : Item). x.entity ≡ e) (pair_items lists e) r (each-any (λ (o : Option Pair). AllByRecursion (λ (x : Item). x.entity ≡ e) (pair_items lists e o)) (own_pair lists e) r)) rows)

-- ---- a test of entities

or_false : (b : Bool) → (b || false) ≡ b
or_false true = refl
or_false false = refl

or_self : (b : Bool) → (b || b) ≡ b
or_self true = refl
or_self false = refl

any_alike : (g : ℕ → Bool) (e : ℕ) (xs : List Item) → AllByRecursion (λ (x : Item). x.entity ≡ e) xs → 0 < length xs → list_any (λ (x : Item). g x.entity) xs ≡ g e
any_alike g e [] a l = absurd (omega arith)
any_alike g e (x ∷ []) a l = or_false (g x.entity) ∙ ap g a.0
any_alike g e (x ∷ y ∷ ys) a l =
    ap (λ (b : Bool). b || list_any (λ (z : Item). g z.entity) (y ∷ ys)) (ap g a.0)
    ∙ ap (λ (b : Bool). g e || b) (any_alike g e (y ∷ ys) a.1 (omega arith))
    ∙ or_self (g e)

any_each : {X : Type 0} (P : X → Type 0) (p q : X → Bool) → ((x : X) → P x → p x ≡ q x) → (xs : List X) → AllByRecursion P xs → list_any p xs ≡ list_any q xs
any_each P p q f [] a = refl
any_each P p q f (x ∷ xs) a = ap (λ (b : Bool). b || list_any p xs) (f x a.0) ∙ ap (λ (b : Bool). q x || b) (any_each P p q f xs a.1)

any_map : {X Y : Type 0} (p : Y → Bool) (f : X → Y) (xs : List X) → list_any p (map f xs) ≡ list_any (λ x. p (f x)) xs
any_map p f [] = refl
any_map p f (x ∷ xs) = ap (λ (b : Bool). p (f x) || b) (any_map p f xs)

entities-any : (k : ℕ) (s : SideState) (g : ℕ → Bool) → IsSound k s → list_any (λ (x : Item). g x.entity) (items s) ≡ list_any (λ (en : ℕ × Rows). g en.0) s.entities
entities-any k s g h =
    any-flat_map (λ (x : Item). g x.entity) (λ (en : ℕ × Rows). items_in s.lists en.0 en.1) s.entities
    ∙ any_each (λ (en : ℕ × Rows). 0 < length (items_in s.lists en.0 en.1)) (λ (en : ℕ × Rows). list_any (λ (x : Item). g x.entity) (items_in s.lists en.0 en.1)) (λ (en : ℕ × Rows). g en.0)
    (λ (en : ℕ × Rows) (l : 0 < length (items_in s.lists en.0 en.1)). any_alike g en.0 (items_in s.lists en.0 en.1) (own_items s.lists en.0 en.1) l) s.entities (have_items k s h)

-- ---- the terms of entities

first_id : (ts : List RdfTerm) (e : ℕ) (xs : List Item) → 0 < length xs → AllByRecursion (λ (x : Item). IsIdIn ts x.entity) xs → AllByRecursion (λ (x : Item). x.entity ≡ e) xs → IsIdIn ts e
first_id ts e [] l a b = absurd (omega arith)
first_id ts e (x ∷ xs) l a b = subst (IsIdIn ts) b.0 a.0

entity_ids : (k : ℕ) (s : SideState) (ts : List RdfTerm) → IsSound k s → AllByRecursion (λ (x : Item). IsIdIn ts x.entity) (items s) → AllByRecursion (λ (en : ℕ × Rows). IsIdIn ts en.0) s.entities
entity_ids k s ts h a =
    each-two (λ (en : ℕ × Rows). 0 < length (items_in s.lists en.0 en.1)) (λ (en : ℕ × Rows). AllByRecursion (λ (x : Item). IsIdIn ts x.entity) (items_in s.lists en.0 en.1)) (λ (en : ℕ × Rows). IsIdIn ts en.0)
    (λ (en : ℕ × Rows) (l : 0 < length (items_in s.lists en.0 en.1)) (b : AllByRecursion (λ (x : Item). IsIdIn ts x.entity) (items_in s.lists en.0 en.1)). first_id ts en.0 (items_in s.lists en.0 en.1) l b (own_items s.lists en.0 en.1))
    s.entities (have_items k s h) (each-unmap (λ (x : Item). IsIdIn ts x.entity) (λ (en : ℕ × Rows). items_in s.lists en.0 en.1) s.entities a)

-- ids that differ have terms that differ
apart : (ts : List RdfTerm) → IsDistinct same_term ts → (a b : ℕ) → IsIdIn ts a → IsIdIn ts b → (b == a) ≡ false → same_term (term_at ts a) (term_at ts b) ≡ false
apart ts d a b i j n = by (same_term (term_at ts a) (term_at ts b)) refl
  where
    by : (t : Bool) → same_term (term_at ts a) (term_at ts b) ≡ t → t ≡ false
    by false e = refl
    by true e =
        let k : a ≡ b = sym (term_at-id ts a d i) ∙ ap (id_of (entries_of ts)) (same_term-is (term_at ts a) (term_at ts b) e) ∙ term_at-id ts b d j in
        let l : (b == a) ≡ true = grind arith in
        sym l ∙ n

none_at : (e : ℕ) (ents : Entities) → total (λ (en : ℕ × Rows). one_if (en.0 == e)) ents ≡ 0 → AllByRecursion (λ (en : ℕ × Rows). (en.0 == e) ≡ false) ents
none_at e [] z = tt
none_at e (x ∷ xs) z = (by (x.0 == e) refl z, none_at e xs (omega arith))
  where
    by : (b : Bool) → (x.0 == e) ≡ b → one_if b + total (λ (en : ℕ × Rows). one_if (en.0 == e)) xs ≡ 0 → b ≡ false
    by true t z = absurd (omega arith)
    by false t z = refl

distinct_none : IsDistinct same_term []
unfolding IsDistinct
distinct_none = tt

entities-distinct : (ts : List RdfTerm) → IsDistinct same_term ts → (ents : Entities) → AreOnce ents → AllByRecursion (λ (en : ℕ × Rows). IsIdIn ts en.0) ents → IsDistinct same_term (map (λ (en : ℕ × Rows). term_at ts en.0) ents)
entities-distinct ts d [] once a = distinct_none
entities-distinct ts d (en ∷ ents) once a =
    let one : one_if (en.0 == en.0) ≡ 1 = grind arith in
    let z : total (λ (x : ℕ × Rows). one_if (x.0 == en.0)) ents ≡ 0 = (let l = once en.0 in omega arith) in
    IsDistinct-cons same_term (term_at ts en.0) (map (λ (x : ℕ × Rows). term_at ts x.0) ents)
    (each-map (λ y. same_term (term_at ts en.0) y ≡ false) (λ (x : ℕ × Rows). term_at ts x.0) ents
    (each-two (λ (x : ℕ × Rows). IsIdIn ts x.0) (λ (x : ℕ × Rows). (x.0 == en.0) ≡ false) (λ (x : ℕ × Rows). same_term (term_at ts en.0) (term_at ts x.0) ≡ false)
    (λ (x : ℕ × Rows) (i : IsIdIn ts x.0) (n : (x.0 == en.0) ≡ false). apart ts d en.0 x.0 a.0 i n) ents a.1 (none_at en.0 ents z)))
    (entities-distinct ts d ents (λ (e : ℕ). (let l = once e in omega arith)) a.1)

length_map : {X Y : Type 0} (f : X → Y) (xs : List X) → length (map f xs) ≡ length xs
length_map f [] = refl
length_map f (x ∷ xs) = ap suc (length_map f xs)

-- the distinct terms of entities
pub distinct-entities : (k : ℕ) (s : SideState) (ts : List RdfTerm) (xs : List Item) → IsSound k s → AreOnce s.entities → IsDistinct same_term ts → SameBag (items s) xs → AllByRecursion (λ (x : Item). IsIdIn ts x.entity) (items s)
    → length s.entities ≡ distinct_count same_term (map (λ (x : Item). term_at ts x.entity) xs)
distinct-entities k s ts xs sound once d same ids =
    sym (length_map (λ (en : ℕ × Rows). term_at ts en.0) s.entities)
    ∙ length-from_keys same_term_equiv (map (λ (en : ℕ × Rows). term_at ts en.0) s.entities) (map (λ (x : Item). term_at ts x.entity) xs)
    (entities-distinct ts d s.entities once (entity_ids k s ts sound ids))
    (λ (q : RdfTerm). any_map (same_term q) (λ (en : ℕ × Rows). term_at ts en.0) s.entities
    ∙ sym (entities-any k s (λ (e : ℕ). same_term q (term_at ts e)) sound)
    ∙ same-any (λ (x : Item). same_term q (term_at ts x.entity)) (items s) xs same
    ∙ sym (any_map (same_term q) (λ (x : Item). term_at ts x.entity) xs))
