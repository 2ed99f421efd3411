-- Appending one after another is appending what stands behind.
use Rattle.std.proofs.Common.{◌≡◌, ℕ, ◌+◌, false, List, [], ◌∷◌, ◌++◌, map, Option, Some, None, Less, refl, sym, ap, ◌∙◌, arith, append_assoc}
use Rattle.std.specs.List.{flat_map, AllByRecursion}
use Rattle.std.specs.Ordering.{nat_cmp}
use Rattle.std.specs.BTreeMap.{is_at}
use Rattle.std.specs.Map.{lookup}
use Rattle.std.proofs.lemmas.Grind.{flat_map-append}
use Rattle.bags.specs.Bag.{total}
use Rattle.layout_meaning.specs.declared.value.Value.{Value}
use Rattle.layout_meaning.specs.declared.value.Value.TheVariants.{One, Many}
use Rattle.layout_meaning.specs.Side.{Pair, Row, Rows, Entities, ValueLists, SideState, or_empty, elements_of}
use Rattle.layout_meaning.specs.Lists.{ListsOf, with_list}
use Rattle.layout_bulk_meaning.specs.Appended.{in_turn, lists_in_value, lists_in, given_value, given_pair, given_row, given_rows, lists_in_rows, given_entity, given_entities, named_by_value, named_by, named_in_rows, named_lists, with_lists, lists_of, appended}
use Rattle.layout_bulk_meaning.proofs.MoreLists.{next-all}
use Rattle.layout_bulk_meaning.proofs.Sides.{count-lists}
use Rattle.layout_run_laws.proofs.Keyed.{changed, lookup-before}
use Rattle.layout_run_laws.proofs.Glued.{raised_value, raised_pair, raised_row, raised_rows, raised_entities, same}
use Rattle.layout_run_laws.proofs.Sides.{raised_lists, glued, elements-behind}
use Rattle.layout_run_laws.proofs.Numbered.{ValueBelow, PairBelow, RowBelow, RowsBelow, EntitiesBelow, IsNumbered}

-- ---- in turn

pub turn-append : {X Y : Type 0} (c : X → ℕ) (f : ℕ → X → Y) (n : ℕ) (xs ys : List X) → in_turn c f n (xs ++ ys) ≡ in_turn c f n xs ++ in_turn c f (n + total c xs) ys
turn-append c f n [] ys = ap (λ (m : ℕ). in_turn c f m ys) (let e : n ≡ n + 0 = omega arith in e)
turn-append {X} {Y} c f n (x ∷ xs) ys =
    let e : n + c x + total c xs ≡ n + (c x + total c xs) = omega arith in
    ap (λ (l : List Y). f n x ∷ l) (turn-append c f (n + c x) xs ys ∙ ap (λ (m : ℕ). in_turn c f (n + c x) xs ++ in_turn c f m ys) e)

-- a change of the items that neither counts nor is seen
pub turn-map : {X Y : Type 0} (c : X → ℕ) (f : ℕ → X → Y) (h : X → X) → ((x : X) → c (h x) ≡ c x) → ((n : ℕ) (x : X) → f n (h x) ≡ f n x) → (n : ℕ) (xs : List X) → in_turn c f n (map h xs) ≡ in_turn c f n xs
turn-map c f h count each n [] = refl
turn-map c f h count each n (x ∷ xs) = rw (count x, each n x, turn-map c f h count each (n + c x) xs) refl

total-same_map : {X : Type 0} (c : X → ℕ) (h : X → X) → ((x : X) → c (h x) ≡ c x) → (xs : List X) → total c (map h xs) ≡ total c xs
total-same_map c h e [] = refl
total-same_map c h e (x ∷ xs) = rw (e x, total-same_map c h e xs) refl

module _ (k : ℕ) where
  value-count : (v : Value) → lists_in_value (raised_value k v) ≡ lists_in_value v
  value-count (One v) = refl
  value-count (Many m) = refl

  pair-count : (o : Option Pair) → lists_in (raised_pair k o) ≡ lists_in o
  pair-count None = refl
  pair-count (Some q) = value-count q.value

  row-count : (r : Row) → total lists_in (raised_row k r) ≡ total lists_in r
  row-count r = total-same_map lists_in (raised_pair k) pair-count r

  rows-count : (rs : Rows) → lists_in_rows (raised_rows k rs) ≡ lists_in_rows rs
  rows-count rs = total-same_map (total lists_in) (raised_row k) row-count rs

  value-given : (n : ℕ) (v : Value) → given_value n (raised_value k v) ≡ given_value n v
  value-given n (One v) = refl
  value-given n (Many m) = refl

  pair-given : (n : ℕ) (o : Option Pair) → given_pair n (raised_pair k o) ≡ given_pair n o
  pair-given n None = refl
  pair-given n (Some q) = ap (λ (v : Value). Some (record { pred = q.pred; value = v })) (value-given n q.value)

  row-given : (n : ℕ) (r : Row) → given_row n (raised_row k r) ≡ given_row n r
  row-given n r = turn-map lists_in given_pair (raised_pair k) pair-count pair-given n r

  rows-given : (n : ℕ) (rs : Rows) → given_rows n (raised_rows k rs) ≡ given_rows n rs
  rows-given n rs = turn-map (total lists_in) given_row (raised_row k) row-count row-given n rs

  entity-given : (n : ℕ) (en : ℕ × Rows) → given_entity n (changed same (raised_rows k) en) ≡ given_entity n en
  entity-given n en = ap (λ (rs : Rows). (en.0, rs)) (rows-given n en.1)

  pub entities-given : (n : ℕ) (ents : Entities) → given_entities n (raised_entities k ents) ≡ given_entities n ents
  entities-given n ents = turn-map (λ (en : ℕ × Rows). lists_in_rows en.1) given_entity (changed same (raised_rows k)) (λ en. rows-count en.1) entity-given n ents

-- ---- the lists that are named

-- another look at each item that shows the same
flat-each : {X Z : Type 0} (P : X → Type 0) (f g : X → List Z) → ((x : X) → P x → f x ≡ g x) → (xs : List X) → AllByRecursion P xs → flat_map f xs ≡ flat_map g xs
flat-each P f g e [] a = refl
flat-each P f g e (x ∷ xs) a = rw (e x a.0, flat-each P f g e xs a.1) refl

flat-map : {X Y Z : Type 0} (f : Y → List Z) (g : X → List Z) (h : X → Y) → ((x : X) → f (h x) ≡ g x) → (xs : List X) → flat_map f (map h xs) ≡ flat_map g xs
flat-map f g h e [] = refl
flat-map f g h e (x ∷ xs) = rw (e x, flat-map f g h e xs) refl

module _ (n : ℕ) (new lists : ValueLists) (kept : (m : ℕ) → nat_cmp m n ≡ Less → elements_of new m ≡ elements_of lists m) where
  named-value : (v : Value) → ValueBelow n v → named_by_value new v ≡ named_by_value lists v
  named-value (One v) h = refl
  named-value (Many m) h = ap (λ (xs : List ℕ). xs ∷ []) (kept m h)

  named-pair : (o : Option Pair) → PairBelow n o → named_by new o ≡ named_by lists o
  named-pair None h = refl
  named-pair (Some q) h = named-value q.value h

  named-rows : (rs : Rows) → RowsBelow n rs → named_in_rows new rs ≡ named_in_rows lists rs
  named-rows rs h = flat-each (RowBelow n) (flat_map (named_by new)) (flat_map (named_by lists)) (λ r a. flat-each (PairBelow n) (named_by new) (named_by lists) named-pair r a) rs h

  pub named-kept : (ents : Entities) → EntitiesBelow n ents → named_lists new ents ≡ named_lists lists ents
  named-kept ents h = flat-each (λ (en : ℕ × Rows). RowsBelow n en.1) (λ (en : ℕ × Rows). named_in_rows new en.1) (λ (en : ℕ × Rows). named_in_rows lists en.1) (λ en a. named-rows en.1 a) ents h

module _ (k : ℕ) (new lists : ValueLists) (found : (m : ℕ) → elements_of new (k + m) ≡ elements_of lists m) where
  raised-value : (v : Value) → named_by_value new (raised_value k v) ≡ named_by_value lists v
  raised-value (One v) = refl
  raised-value (Many m) = ap (λ (xs : List ℕ). xs ∷ []) (found m)

  raised-pair : (o : Option Pair) → named_by new (raised_pair k o) ≡ named_by lists o
  raised-pair None = refl
  raised-pair (Some q) = raised-value q.value

  raised-rows : (rs : Rows) → named_in_rows new (raised_rows k rs) ≡ named_in_rows lists rs
  raised-rows rs = flat-map (flat_map (named_by new)) (flat_map (named_by lists)) (raised_row k) (λ r. flat-map (named_by new) (named_by lists) (raised_pair k) raised-pair r) rs

  pub named-raised : (ents : Entities) → named_lists new (raised_entities k ents) ≡ named_lists lists ents
  named-raised ents = flat-map (λ (en : ℕ × Rows). named_in_rows new en.1) (λ (en : ℕ × Rows). named_in_rows lists en.1) (changed same (raised_rows k)) (λ en. raised-rows en.1) ents

not_raised : (k m n : ℕ) → nat_cmp m k ≡ Less → is_at (nat_cmp m) (k + n) ≡ false
not_raised k m n h = let e : nat_cmp m (k + n) ≡ Less = grind arith in rw e refl

raised-none : (k m : ℕ) (lists : ValueLists) → nat_cmp m k ≡ Less → lookup (is_at (nat_cmp m)) (raised_lists k lists) ≡ None
raised-none k m [] h = refl
raised-none k m (l ∷ ls) h = rw (not_raised k m l.0 h) (raised-none k m ls h)

kept-glued : (s t : SideState) (m : ℕ) → nat_cmp m s.next ≡ Less → elements_of (glued s t).lists m ≡ elements_of s.lists m
kept-glued s t m h = ap (λ (o : Option (List ℕ)). or_empty o) (lookup-before m s.lists (raised_lists s.next t.lists) (raised-none s.next m t.lists h))

pub named-glued : (s t : SideState) → IsNumbered s → named_lists (glued s t).lists (glued s t).entities ≡ named_lists s.lists s.entities ++ named_lists t.lists t.entities
named-glued s t h =
    flat_map-append (λ (en : ℕ × Rows). named_in_rows (glued s t).lists en.1) s.entities (raised_entities s.next t.entities)
    ∙ ap (λ (l : List (List ℕ)). l ++ named_lists (glued s t).lists (raised_entities s.next t.entities)) (named-kept s.next (glued s t).lists s.lists (kept-glued s t) s.entities h.named)
    ∙ ap (λ (l : List (List ℕ)). named_lists s.lists s.entities ++ l) (named-raised s.next (glued s t).lists t.lists (elements-behind s t h.low) t.entities)

lists-append : (l : ListsOf) (xss yss : List (List ℕ)) → with_lists l (xss ++ yss) ≡ with_lists (with_lists l xss) yss
lists-append l [] yss = refl
lists-append l (xs ∷ xss) yss = lists-append (with_list l xs) xss yss

-- appending both at once is appending one after the other
pub appended-glued : (r s t : SideState) → IsNumbered s → appended r (glued s t) ≡ appended (appended r s) t
appended-glued r s t h =
    let lists : with_lists (lists_of r) (named_lists (glued s t).lists (glued s t).entities) ≡ with_lists (lists_of (appended r s)) (named_lists t.lists t.entities) =
    ap (with_lists (lists_of r)) (named-glued s t h) ∙ lists-append (lists_of r) (named_lists s.lists s.entities) (named_lists t.lists t.entities) in
    let next : r.next + total (λ (en : ℕ × Rows). lists_in_rows en.1) s.entities ≡ (appended r s).next =
    sym (next-all (lists_of r) (named_lists s.lists s.entities) ∙ ap (λ (k : ℕ). r.next + k) (count-lists s.lists s.entities)) in
    let given : given_entities r.next (glued s t).entities ≡ given_entities r.next s.entities ++ given_entities (appended r s).next t.entities =
    turn-append (λ (en : ℕ × Rows). lists_in_rows en.1) given_entity r.next s.entities (raised_entities s.next t.entities)
    ∙ ap (λ (l : Entities). given_entities r.next s.entities ++ l) (entities-given s.next (r.next + total (λ (en : ℕ × Rows). lists_in_rows en.1) s.entities) t.entities
    ∙ ap (λ (n : ℕ). given_entities n t.entities) next) in
    ap (λ (l : ListsOf). record { entities = r.entities ++ given_entities r.next (glued s t).entities; lists = l.lists; next = l.next }) lists
    ∙ ap (λ (es : Entities). record { entities = es; lists = (appended (appended r s) t).lists; next = (appended (appended r s) t).next })
    (ap (λ (l : Entities). r.entities ++ l) given ∙ sym (append_assoc r.entities (given_entities r.next s.entities) (given_entities (appended r s).next t.entities)))
