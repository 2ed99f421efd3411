-- A side whose entities stand behind those of another, with lists of higher numbers: placing goes on in it as by itself.
use Rattle.std.proofs.Common.{◌≡◌, ℕ, ◌+◌, nat_eq, Bool, true, false, if◌then◌else◌, List, [], ◌∷◌, ◌++◌, map, Option, Some, None, option_map, Ordering, Less, Equal, Greater, refl, ap, ◌∙◌, arith}
use Rattle.std.specs.List.{list_any, AllByRecursion}
use Rattle.std.specs.Ordering.{nat_cmp}
use Rattle.std.specs.BTreeMap.{is_at, insert_entry}
use Rattle.std.specs.Map.{lookup, set_value, keys_of}
use Rattle.bags.specs.BagLaws.{each-weaker}
use Rattle.layout_meaning.specs.declared.value.Value.{Value}
use Rattle.layout_meaning.specs.declared.value.Value.TheVariants.{One, Many}
use Rattle.layout_meaning.specs.Side.{Pair, Item, Rows, Entities, ValueLists, SideState, or_empty, rows_of, elements_of, found_values, find, write, place_new, with_rows, written, is_held, place_by, placed}
use Rattle.layout_meaning.specs.Columns.{candidates_of}
use Rattle.layout_meaning.specs.Rows.{SideOf, placed_in}
use Rattle.layout_bulk_meaning.specs.Bulk.{placed_all}
use Rattle.layout_run_laws.proofs.Keyed.{changed, KeysBelow, lookup-behind, set-behind, insert-behind, lookup-changed, set-changed, insert-changed}
use Rattle.layout_run_laws.proofs.Glued.{raised_value, raised_pair, raised_entities, raised-find, raised-place_new, raised-write, rows-behind, with_rows-behind}

abbrev pub raise : ℕ → ℕ → ℕ
raise k n = k + n

abbrev pub as_is : List ℕ → List ℕ
as_is xs = xs

abbrev pub raised_lists : ℕ → ValueLists → ValueLists
raised_lists k lists = map (changed (raise k) as_is) lists

pub keeps_raise : (k a b : ℕ) → nat_cmp (raise k a) (raise k b) ≡ nat_cmp a b
keeps_raise k a b = by (nat_cmp a b) refl (nat_cmp (k + a) (k + b)) refl
  where
    by : (o : Ordering) → nat_cmp a b ≡ o → (p : Ordering) → nat_cmp (k + a) (k + b) ≡ p → p ≡ o
    by Less h Less i = refl
    by Less h Equal i = absurd (grind arith)
    by Less h Greater i = absurd (grind arith)
    by Equal h Less i = absurd (grind arith)
    by Equal h Equal i = refl
    by Equal h Greater i = absurd (grind arith)
    by Greater h Less i = absurd (grind arith)
    by Greater h Equal i = absurd (grind arith)
    by Greater h Greater i = refl

-- the second side behind the first, its lists behind the first's
abbrev pub glued : SideState → SideState → SideState
glued s t = record { entities = s.entities ++ raised_entities s.next t.entities; lists = s.lists ++ raised_lists s.next t.lists; next = s.next + t.next }

below_more : (l k n : ℕ) → nat_cmp l k ≡ Less → nat_cmp l (k + n) ≡ Less
below_more l k n h = grind arith

pub keys-more : {X : Type 0} (k n : ℕ) (es : List (ℕ × X)) → KeysBelow k es → KeysBelow (k + n) es
keys-more k n es h = each-weaker (λ l. nat_cmp l k ≡ Less) (λ l. nat_cmp l (k + n) ≡ Less) (λ l b. below_more l k n b) (keys_of es) h

module _ (s t : SideState) (low : KeysBelow s.next s.lists) where
  pub elements-behind : (n : ℕ) → elements_of (glued s t).lists (s.next + n) ≡ elements_of t.lists n
  elements-behind n =
      ap (λ (o : Option (List ℕ)). or_empty o) (lookup-behind (s.next + n) s.lists (raised_lists s.next t.lists) (keys-more s.next n s.lists low) ∙ lookup-changed (raise s.next) as_is (keeps_raise s.next) n t.lists)
      ∙ by (lookup (is_at (nat_cmp n)) t.lists)
    where
      by : (o : Option (List ℕ)) → or_empty (option_map as_is o) ≡ or_empty o
      by None = refl
      by (Some xs) = refl

  found-behind : (o : Option Value) → found_values (glued s t).lists (option_map (raised_value s.next) o) ≡ found_values t.lists o
  found-behind None = refl
  found-behind (Some (One v)) = refl
  found-behind (Some (Many n)) = elements-behind n

  set-lists : (n : ℕ) (xs : List ℕ) → set_value (is_at (nat_cmp (s.next + n))) (glued s t).lists xs ≡ s.lists ++ raised_lists s.next (set_value (is_at (nat_cmp n)) t.lists xs)
  set-lists n xs =
      set-behind (s.next + n) xs s.lists (raised_lists s.next t.lists) (keys-more s.next n s.lists low)
      ∙ ap (λ (l : ValueLists). s.lists ++ l) (set-changed (raise s.next) as_is (keeps_raise s.next) n xs t.lists)

  insert-lists : (n : ℕ) (xs : List ℕ) → insert_entry nat_cmp (glued s t).lists (s.next + n) xs ≡ s.lists ++ raised_lists s.next (insert_entry nat_cmp t.lists n xs)
  insert-lists n xs =
      insert-behind (s.next + n) xs s.lists (raised_lists s.next t.lists) (keys-more s.next n s.lists low)
      ∙ ap (λ (l : ValueLists). s.lists ++ l) (insert-changed (raise s.next) as_is (keeps_raise s.next) n xs t.lists)

  find-behind : (x : Item) → KeysBelow x.entity s.entities → find x.pred (rows_of (glued s t).entities x.entity) ≡ option_map (raised_value s.next) (find x.pred (rows_of t.entities x.entity))
  find-behind x above = ap (find x.pred) (rows-behind s.next x.entity s.entities t.entities above) ∙ raised-find s.next x.pred (rows_of t.entities x.entity)

  held-behind : (x : Item) → KeysBelow x.entity s.entities → is_held x (glued s t) ≡ is_held x t
  held-behind x above =
      ap (λ (vs : List ℕ). list_any (nat_eq x.value) vs) (ap (found_values (glued s t).lists) (find-behind x above) ∙ found-behind (find x.pred (rows_of t.entities x.entity)))

  written-behind : (x : Item) (new : Option Pair) → KeysBelow x.entity s.entities → written x (raised_pair s.next new) (glued s t) ≡ s.entities ++ raised_entities s.next (written x new t)
  written-behind x new above =
      ap (λ (rs : Rows). with_rows (glued s t).entities x.entity (write x.pred (raised_pair s.next new) rs)) (rows-behind s.next x.entity s.entities t.entities above)
      ∙ ap (with_rows (glued s t).entities x.entity) (raised-write s.next x.pred new (rows_of t.entities x.entity))
      ∙ with_rows-behind s.next x.entity s.entities t.entities (write x.pred new (rows_of t.entities x.entity)) above

  new-behind : (k : ℕ) (columns : List ℕ) (x : Item) → KeysBelow x.entity s.entities
      → with_rows (glued s t).entities x.entity (place_new k columns (record { pred = x.pred; value = One x.value }) (rows_of (glued s t).entities x.entity))
      ≡ s.entities ++ raised_entities s.next (with_rows t.entities x.entity (place_new k columns (record { pred = x.pred; value = One x.value }) (rows_of t.entities x.entity)))
  new-behind k columns x above =
      ap (λ (rs : Rows). with_rows (glued s t).entities x.entity (place_new k columns (record { pred = x.pred; value = One x.value }) rs)) (rows-behind s.next x.entity s.entities t.entities above)
      ∙ ap (with_rows (glued s t).entities x.entity) (raised-place_new s.next k columns x.pred x.value (rows_of t.entities x.entity))
      ∙ with_rows-behind s.next x.entity s.entities t.entities (place_new k columns (record { pred = x.pred; value = One x.value }) (rows_of t.entities x.entity)) above

  place_by-behind : (k : ℕ) (columns : List ℕ) (x : Item) → KeysBelow x.entity s.entities → (o : Option Value) → place_by (option_map (raised_value s.next) o) k columns x (glued s t) ≡ glued s (place_by o k columns x t)
  place_by-behind k columns x above None = ap (λ (es : Entities). record { entities = es; lists = (glued s t).lists; next = s.next + t.next }) (new-behind k columns x above)
  place_by-behind k columns x above (Some (One w)) =
      let next : s.next + t.next + 1 ≡ s.next + (t.next + 1) = omega arith in
      ap (λ (es : Entities). record { entities = es; lists = insert_entry nat_cmp (glued s t).lists (s.next + t.next) (w ∷ x.value ∷ []); next = s.next + t.next + 1 })
      (written-behind x (Some (record { pred = x.pred; value = Many t.next })) above)
      ∙ ap (λ (l : ValueLists). record { entities = s.entities ++ raised_entities s.next (written x (Some (record { pred = x.pred; value = Many t.next })) t); lists = l; next = s.next + t.next + 1 })
      (insert-lists t.next (w ∷ x.value ∷ []))
      ∙ ap (λ (n : ℕ). record { entities = s.entities ++ raised_entities s.next (written x (Some (record { pred = x.pred; value = Many t.next })) t); lists = s.lists ++ raised_lists s.next (insert_entry nat_cmp t.lists t.next (w ∷ x.value ∷ [])); next = n }) next
  place_by-behind k columns x above (Some (Many n)) =
      ap (λ (xs : List ℕ). record { entities = (glued s t).entities; lists = set_value (is_at (nat_cmp (s.next + n))) (glued s t).lists (xs ++ x.value ∷ []); next = s.next + t.next }) (elements-behind n)
      ∙ ap (λ (l : ValueLists). record { entities = (glued s t).entities; lists = l; next = s.next + t.next }) (set-lists n (elements_of t.lists n ++ x.value ∷ []))

  pub placed-behind : (k : ℕ) (columns : List ℕ) (x : Item) → KeysBelow x.entity s.entities → placed k columns x (glued s t) ≡ glued s (placed k columns x t)
  placed-behind k columns x above =
      rw (held-behind x above, find-behind x above)
      (by (is_held x t) (place_by-behind k columns x above (find x.pred (rows_of t.entities x.entity))))
    where
      by : (b : Bool) → place_by (option_map (raised_value s.next) (find x.pred (rows_of t.entities x.entity))) k columns x (glued s t) ≡ glued s (place_by (find x.pred (rows_of t.entities x.entity)) k columns x t)
          → (if b then glued s t else place_by (option_map (raised_value s.next) (find x.pred (rows_of t.entities x.entity))) k columns x (glued s t)) ≡ glued s (if b then t else place_by (find x.pred (rows_of t.entities x.entity)) k columns x t)
      by true h = refl
      by false h = h

abbrev pub glued_side : SideState → SideOf → SideOf
glued_side s t = record { columns = t.columns; state = glued s t.state }

-- items of entities above those of the first side
pub all-behind : (iri_of : ℕ → List ℕ) (s : SideState) (t : SideOf) (xs : List Item) → KeysBelow s.next s.lists → AllByRecursion (λ (x : Item). KeysBelow x.entity s.entities) xs
    → placed_all iri_of (glued_side s t) xs ≡ glued_side s (placed_all iri_of t xs)
all-behind iri_of s t [] low above = refl
all-behind iri_of s t (x ∷ xs) low above =
    ap (λ (u : SideState). placed_all iri_of (record { columns = t.columns; state = u }) xs) (placed-behind s t.state low t.columns.count (candidates_of t.columns (iri_of x.pred)) x above.0)
    ∙ all-behind iri_of s (placed_in t (iri_of x.pred) x) xs low above.1
