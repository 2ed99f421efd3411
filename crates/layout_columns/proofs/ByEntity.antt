-- The predicates of entities, in a map and as the items name them.
use Rattle.std.proofs.Common.{◌≡◌, ◌==◌, ◌&&◌, ◌||◌, ◌<◌, ◌+◌, ℕ, nat_eq, not, cond, Bool, true, false, List, [], ◌∷◌, Some, map, take, get_or, length, Less, refl, sym, ap, ap₂, ◌∙◌, subst, arith}
use Rattle.std.specs.List.{list_any, filter, AllByRecursion}
use Rattle.std.specs.List.Sorted.{IsStrictlySortedBy}
use Rattle.std.specs.Option.{unwrap_or}
use Rattle.std.specs.Ordering.{nat_cmp}
use Rattle.std.specs.BTreeMap.{is_at}
use Rattle.std.specs.Map.{lookup, keys_of, values_of}
use Rattle.std.proofs.lemmas.List.Folds.{list_any_more}
use Rattle.layout_meaning.specs.Side.{Item}
use Rattle.pred_colour_meaning.specs.Interference.{Graph, has, neighbours_of, IsInterference}
use Rattle.pred_colour_meaning.proofs.Steps.{any-same, same_number, at_itself}
use Rattle.pred_colour.proofs.Joins.{any-map}
use Rattle.layout_standing_meaning.proofs.Each.{any-weaker}
use Rattle.shredder.specs.declared.bulk.Placed.{Placed}
use Rattle.shredder.specs.Items.{item_of}
use Rattle.layout_columns_meaning.specs.BulkColours.{preds_under, entities_of}
use Rattle.layout_columns.specs.Entities.{is_pair, has_both, JoinAlike}

-- one item more
or_assoc : (a b c : Bool) → ((a || b) || c) ≡ (a || (b || c))
or_assoc true b c = refl
or_assoc false b c = refl

pub pairs_more : (a : Bool) (e p : ℕ) (xs : List Placed) (i : ℕ) (d : Placed) → i < length xs
    → ((a || list_any (is_pair e p) (map item_of (take i xs))) || is_pair e p (item_of (get_or xs i d))) ≡ (a || list_any (is_pair e p) (map item_of (take (i + 1) xs)))
pairs_more a e p xs i d l =
    or_assoc a (list_any (is_pair e p) (map item_of (take i xs))) (is_pair e p (item_of (get_or xs i d)))
    ∙ ap (λ (b : Bool). a || b)
    (ap (λ (b : Bool). b || is_pair e p (item_of (get_or xs i d))) (any-map (is_pair e p) item_of (take i xs))
    ∙ sym (list_any_more (λ (x : Placed). is_pair e p (item_of x)) xs i d l)
    ∙ sym (any-map (is_pair e p) item_of (take (i + 1) xs)))

pub noted-more : (old now new : Graph) (xs : List Placed) (i : ℕ) (d : Placed) → i < length xs
    → ((e p : ℕ) → has p (neighbours_of now e) ≡ (has p (neighbours_of old e) || list_any (is_pair e p) (map item_of (take i xs))))
    → ((e p : ℕ) → has p (neighbours_of new e) ≡ (has p (neighbours_of now e) || is_pair e p (item_of (get_or xs i d))))
    → (e p : ℕ) → has p (neighbours_of new e) ≡ (has p (neighbours_of old e) || list_any (is_pair e p) (map item_of (take (i + 1) xs)))
noted-more old now new xs i d l h k e p =
    k e p ∙ ap (λ (b : Bool). b || is_pair e p (item_of (get_or xs i d))) (h e p) ∙ pairs_more (has p (neighbours_of old e)) e p xs i d l

-- what the items name
pub under_is : (e p : ℕ) (xs : List Item) → has p (preds_under xs e) ≡ list_any (is_pair e p) xs
under_is e p [] = refl
under_is e p (x ∷ xs) = by (x.entity == e) refl (nat_eq e x.entity) refl (under_is e p xs)
  where
    by : (a : Bool) → (x.entity == e) ≡ a → (b : Bool) → nat_eq e x.entity ≡ b → has p (preds_under xs e) ≡ list_any (is_pair e p) xs
        → has p (map (λ (y : Item). y.pred) (cond a (x ∷ filter (λ (y : Item). y.entity == e) xs) (filter (λ (y : Item). y.entity == e) xs))) ≡ ((b && nat_eq p x.pred) || list_any (is_pair e p) xs)
    by true t true u ih = ap (λ (c : Bool). nat_eq p x.pred || c) ih
    by true t false u ih = absurd (grind arith)
    by false t true u ih = absurd (grind arith)
    by false t false u ih = ih

pub and-parts : (a b : Bool) → (a && b) ≡ true → (a ≡ true) × (b ≡ true)
and-parts true b e = (refl, e)
and-parts false b e = cc

and-true : (a b : Bool) → a ≡ true → b ≡ true → (a && b) ≡ true
and-true a b e f = rw (e, f) refl

bool-same : (a b : Bool) → (a ≡ true → b ≡ true) → (b ≡ true → a ≡ true) → a ≡ b
bool-same true b f g = sym (f refl)
bool-same false true f g = g refl
bool-same false false f g = refl

-- each entry of a map is found under its key
later-found : (en : ℕ × List ℕ) (whole rest : Graph) → AllByRecursion (λ k. nat_cmp en.0 k ≡ Less) (keys_of rest) → AllByRecursion (λ (y : ℕ × List ℕ). neighbours_of whole y.0 ≡ y.1) rest
    → AllByRecursion (λ (y : ℕ × List ℕ). neighbours_of (en ∷ whole) y.0 ≡ y.1) rest
later-found en whole [] a b = tt
later-found en whole (y ∷ ys) a b = ((let h : is_at (nat_cmp y.0) en.0 ≡ false = (let l : nat_cmp en.0 y.0 ≡ Less = a.0 in grind arith) in rw h b.0), later-found en whole ys a.1 b.1)

each-found : (g : Graph) → IsStrictlySortedBy nat_cmp (keys_of g) → AllByRecursion (λ (y : ℕ × List ℕ). neighbours_of g y.0 ≡ y.1) g
unfolding IsStrictlySortedBy
each-found [] s = tt
each-found (en ∷ g) s = ((let h : is_at (nat_cmp en.0) en.0 ≡ true = at_itself en.0 in rw h refl), later-found en g g s.0 (each-found g s.1))

-- an item of a list that passes a test
pub record Picked {X : Type 0} (P : X → Type 0) (t : X → Bool) : Type 0 where
  pub item : X
  pub holds : P item
  pub passes : t item ≡ true

pub pick : {X : Type 0} (P : X → Type 0) (t : X → Bool) (xs : List X) → AllByRecursion P xs → list_any t xs ≡ true → Picked P t
pick P t [] a e = cc
pick P t (x ∷ xs) a e = by (t x) refl e (pick P t xs a.1)
  where
    by : (b : Bool) → t x ≡ b → (b || list_any t xs) ≡ true → (list_any t xs ≡ true → Picked P t) → Picked P t
    by true h k ih = record { item = x; holds = a.0; passes = h }
    by false h k ih = ih k

all-nothing : {X : Type 0} (xs : List X) → AllByRecursion (λ (x : X). Unit {0}) xs
all-nothing [] = tt
all-nothing (x ∷ xs) = (tt, all-nothing xs)

-- what is found in a map is among its values
found-any : (t : List ℕ → Bool) (g : Graph) (e : ℕ) → t [] ≡ false → t (neighbours_of g e) ≡ true → list_any t (values_of g) ≡ true
found-any t [] e none h = cc
found-any t (en ∷ g) e none h = by (is_at (nat_cmp e) en.0) h (found-any t g e none)
  where
    here : (b c : Bool) → b ≡ true → (b || c) ≡ true
    here true c k = refl
    here false c k = cc

    there : (b c : Bool) → c ≡ true → (b || c) ≡ true
    there true c k = refl
    there false c k = k

    by : (b : Bool) → t (unwrap_or (cond b (Some en.1) (lookup (is_at (nat_cmp e)) g)) []) ≡ true → (t (neighbours_of g e) ≡ true → list_any t (values_of g) ≡ true) → (t en.1 || list_any t (values_of g)) ≡ true
    by true k ih = here (t en.1) (list_any t (values_of g)) k
    by false k ih = there (t en.1) (list_any t (values_of g)) (ih k)

-- a map with the predicates of each entity
AreTold : Graph → List Item → Type 0
AreTold g items = (e p : ℕ) → has p (neighbours_of g e) ≡ list_any (is_pair e p) items

told : (g : Graph) (items : List Item) → AreTold g items → (e p : ℕ) → has p (neighbours_of g e) ≡ has p (preds_under items e)
unfolding AreTold
told g items h e p = h e p ∙ sym (under_is e p items)

told-both : (g : Graph) (items : List Item) → AreTold g items → (e p q : ℕ) → has_both p q (neighbours_of g e) ≡ has_both p q (preds_under items e)
told-both g items h e p q = ap₂ (λ (a b : Bool). a && b) (told g items h e p) (told g items h e q)

forth : (g : Graph) (items : List Item) (p q : ℕ) → IsStrictlySortedBy nat_cmp (keys_of g) → AreTold g items → list_any (has_both p q) (values_of g) ≡ true → list_any (has_both p q) (entities_of items) ≡ true
forth g items p q s h e =
    let k : list_any (λ (y : ℕ × List ℕ). has_both p q y.1) g ≡ true = sym (any-map (has_both p q) (λ (y : ℕ × List ℕ). y.1) g) ∙ e in
    let one = pick (λ (y : ℕ × List ℕ). neighbours_of g y.0 ≡ y.1) (λ (y : ℕ × List ℕ). has_both p q y.1) g (each-found g s) k in
    let key : ℕ = one.item.0 in
    let both : has_both p q (preds_under items key) ≡ true = sym (told-both g items h key p q) ∙ ap (has_both p q) one.holds ∙ one.passes in
    let there : list_any (is_pair key p) items ≡ true = sym (under_is key p items) ∙ (and-parts (has p (preds_under items key)) (has q (preds_under items key)) both).0 in
    any-map (has_both p q) (λ (x : Item). preds_under items x.entity) items ∙ any-weaker (is_pair key p) (λ (x : Item). has_both p q (preds_under items x.entity)) (each key both) items there
  where
    each : (key : ℕ) → has_both p q (preds_under items key) ≡ true → (x : Item) → is_pair key p x ≡ true → has_both p q (preds_under items x.entity) ≡ true
    each key both x m =
        let n : key ≡ x.entity = same_number key x.entity (and-parts (nat_eq key x.entity) (nat_eq p x.pred) m).0 in
        subst (λ (k : ℕ). has_both p q (preds_under items k) ≡ true) n both

back : (g : Graph) (items : List Item) (p q : ℕ) → AreTold g items → list_any (has_both p q) (entities_of items) ≡ true → list_any (has_both p q) (values_of g) ≡ true
back g items p q h e =
    let k : list_any (λ (x : Item). has_both p q (preds_under items x.entity)) items ≡ true = sym (any-map (has_both p q) (λ (x : Item). preds_under items x.entity) items) ∙ e in
    let one = pick (λ (x : Item). Unit {0}) (λ (x : Item). has_both p q (preds_under items x.entity)) items (all-nothing items) k in
    found-any (has_both p q) g one.item.entity refl (told-both g items h one.item.entity p q ∙ one.passes)

any-both : (g : Graph) (items : List Item) (p q : ℕ) → IsStrictlySortedBy nat_cmp (keys_of g) → AreTold g items → list_any (has_both p q) (values_of g) ≡ list_any (has_both p q) (entities_of items)
any-both g items p q s h = bool-same (list_any (has_both p q) (values_of g)) (list_any (has_both p q) (entities_of items)) (forth g items p q s h) (back g items p q h)

once-more : (p : ℕ) (entities : List (List ℕ)) → list_any (has p) entities ≡ list_any (has_both p p) entities
once-more p entities = any-same (has p) (has_both p p) (λ preds. twice (has p preds)) entities
  where
    twice : (b : Bool) → b ≡ (b && b)
    twice true = refl
    twice false = refl

-- a graph of lists that join alike is that of the items' entities
pub items_interfere : (sets : List (List ℕ)) (g graph : Graph) (items : List Item) → JoinAlike sets (values_of g) → IsStrictlySortedBy nat_cmp (keys_of g)
    → ((e p : ℕ) → has p (neighbours_of g e) ≡ list_any (is_pair e p) items) → IsInterference sets graph → IsInterference (entities_of items) graph
unfolding AreTold
items_interfere sets g graph items alike s h i = record {
  rising = i.rising;
  preds = λ p. i.preds p ∙ once-more p sets ∙ alike p p ∙ any-both g items p p s h ∙ sym (once-more p (entities_of items));
  once = i.once;
  joined = λ p q. i.joined p q ∙ ap (λ (b : Bool). not (nat_eq q p) && b) (alike p q ∙ any-both g items p q s h);
}
