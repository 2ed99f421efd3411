-- Entities have a graph, and so a bulk has a layout.
use Rattle.std.proofs.Common.{◌≡◌, ℕ, nat_eq, ◌&&◌, ◌||◌, not, Bool, true, false, cond, List, [], ◌∷◌, map, Some, refl, sym, ap, ◌∙◌, subst}
use Rattle.std.specs.Option.{unwrap_or}
use Rattle.std.specs.List.{list_any, filter, IsDistinct}
use Rattle.std.specs.List.Sorted.{IsStrictlySortedBy}
use Rattle.std.specs.Ordering.{nat_cmp}
use Rattle.std.specs.BTreeMap.{is_at}
use Rattle.std.specs.Map.{lookup, keys_of}
use Rattle.std.proofs.lemmas.Bool.{and_parts, or_left, or_right}
use Rattle.std.proofs.lemmas.List.Kept.{IsStrictlySortedBy-filter}
use Rattle.rdf_meaning.specs.Terms.{RdfTerm}
use Rattle.line_change_meaning.specs.declared.change.Change.{Change}
use Rattle.line_change_meaning.specs.Present.{named, bulk}
use Rattle.run_meaning.specs.declared.command.Options.{Options}
use Rattle.colouring_file_meaning.specs.ColourLines.{ColourOf}
use Rattle.layout_meaning.specs.Columns.{ColumnsOf}
use Rattle.layout_meaning.specs.Side.{Item}
use Rattle.layout_standing_meaning.specs.Schemas.{LayoutOf}
use Rattle.layout_standing_meaning.specs.Sides.{turned}
use Rattle.layout_standing_meaning.specs.Stored.{text_of_id}
use Rattle.layout_bulk_laws.specs.BulkStore.{terms_of, bulk_items}
use Rattle.pred_colour_meaning.specs.Interference.{Graph, IsInterference, has, interfere, neighbours_of}
use Rattle.pred_colour_meaning.proofs.Steps.{is_at-same, same_number}
use Rattle.pred_colour_meaning.proofs.Made.{some_colouring}
use Rattle.layout_columns_meaning.specs.BulkColours.{AreKnown, AreColumnsFor, entities_of}
use Rattle.layout_columns_meaning.specs.Layouts.{ChoiceOf, IsLayoutFor}
use Rattle.layout_placed_meaning.specs.Chosen.{IsLayoutOf, choice_of}
use Rattle.layout_laws.proofs.Rising.{numbers_of, rising-numbers, distinct-rising, has-numbers}

-- ---- a graph by its neighbours

abbrev graph_by : (ℕ → List ℕ) → List ℕ → Graph
graph_by f preds = map (λ p. (p, f p)) preds

keys-graph : (f : ℕ → List ℕ) (preds : List ℕ) → keys_of (graph_by f preds) ≡ preds
keys-graph f [] = refl
keys-graph f (p ∷ preds) = ap (λ (ps : List ℕ). p ∷ ps) (keys-graph f preds)

neighbours-graph : (f : ℕ → List ℕ) (preds : List ℕ) (p : ℕ) → neighbours_of (graph_by f preds) p ≡ cond (has p preds) (f p) []
neighbours-graph f [] p = refl
neighbours-graph f (x ∷ preds) p = rw (is_at-same p x) (by (nat_eq p x) refl (neighbours-graph f preds p))
  where
    by : (b : Bool) → nat_eq p x ≡ b → neighbours_of (graph_by f preds) p ≡ cond (has p preds) (f p) []
        → unwrap_or (cond b (Some (f x)) (lookup (is_at (nat_cmp p)) (graph_by f preds))) [] ≡ cond (b || has p preds) (f p) []
    by true e ih = sym (ap f (same_number p x e))
    by false e ih = ih

-- ---- the graph of entities

pub any-weaker : {X : Type 0} (t u : X → Bool) → ((x : X) → t x ≡ true → u x ≡ true) → (xs : List X) → list_any t xs ≡ true → list_any u xs ≡ true
any-weaker t u w [] h = h
any-weaker t u w (x ∷ xs) h = by (t x) refl h (any-weaker t u w xs)
  where
    by : (b : Bool) → t x ≡ b → (b || list_any t xs) ≡ true → (list_any t xs ≡ true → list_any u xs ≡ true) → (u x || list_any u xs) ≡ true
    by true e h ih = or_left (u x) (list_any u xs) (w x e)
    by false e h ih = or_right (u x) (list_any u xs) (ih h)

-- predicates that interfere are those of an entity
first-there : (entities : List (List ℕ)) (p q : ℕ) → interfere entities p q ≡ true → list_any (has p) entities ≡ true
first-there entities p q h =
    any-weaker (λ preds. has p preds && has q preds) (has p) (λ preds e. (and_parts (has p preds) (has q preds) e).0) entities (and_parts (not (nat_eq q p)) (list_any (λ preds. has p preds && has q preds) entities) h).1

second-there : (entities : List (List ℕ)) (p q : ℕ) → interfere entities p q ≡ true → list_any (has q) entities ≡ true
second-there entities p q h =
    any-weaker (λ preds. has p preds && has q preds) (has q) (λ preds e. (and_parts (has p preds) (has q preds) e).1) entities (and_parts (not (nat_eq q p)) (list_any (λ preds. has p preds && has q preds) entities) h).1

pub has-filter : (t : ℕ → Bool) (q : ℕ) (xs : List ℕ) → has q (filter t xs) ≡ (t q && has q xs)
has-filter t q [] = none (t q)
  where
    none : (b : Bool) → false ≡ (b && false)
    none true = refl
    none false = refl
has-filter t q (x ∷ xs) = by (t x) (nat_eq q x) refl refl (has-filter t q xs)
  where
    or_and : (b : Bool) → (b && true) ≡ b
    or_and true = refl
    or_and false = refl

    same : nat_eq q x ≡ true → t q ≡ t x
    same e = ap t (same_number q x e)

    by : (b c : Bool) → t x ≡ b → nat_eq q x ≡ c → has q (filter t xs) ≡ (t q && has q xs) → has q (cond b (x ∷ filter t xs) (filter t xs)) ≡ (t q && (c || has q xs))
    by true true e f ih = rw f (sym (or_and (t q) ∙ same f ∙ e))
    by true false e f ih = rw f ih
    by false true e f ih = ih ∙ rw (same f ∙ e) refl
    by false false e f ih = ih

abbrev graph_of : List (List ℕ) → Graph
graph_of entities = graph_by (λ p. filter (interfere entities p) (numbers_of entities)) (numbers_of entities)

graph-joined : (entities : List (List ℕ)) (p q : ℕ) → has q (neighbours_of (graph_of entities) p) ≡ interfere entities p q
graph-joined entities p q =
    ap (has q) (neighbours-graph (λ r. filter (interfere entities r) (numbers_of entities)) (numbers_of entities) p)
    ∙ by (has p (numbers_of entities)) refl (interfere entities p q) refl
  where
    by : (b : Bool) → has p (numbers_of entities) ≡ b → (c : Bool) → interfere entities p q ≡ c → has q (cond b (filter (interfere entities p) (numbers_of entities)) []) ≡ c
    by true e true h = has-filter (interfere entities p) q (numbers_of entities) ∙ rw h (has-numbers q entities ∙ second-there entities p q h)
    by true e false h = has-filter (interfere entities p) q (numbers_of entities) ∙ rw h refl
    by false e true h = sym e ∙ has-numbers p entities ∙ first-there entities p q h
    by false e false h = refl

none-distinct : IsDistinct nat_eq []
unfolding IsDistinct
none-distinct = tt

graph-once : (entities : List (List ℕ)) (p : ℕ) → IsDistinct nat_eq (neighbours_of (graph_of entities) p)
graph-once entities p =
    subst (IsDistinct nat_eq) (sym (neighbours-graph (λ r. filter (interfere entities r) (numbers_of entities)) (numbers_of entities) p)) (by (has p (numbers_of entities)))
  where
    by : (b : Bool) → IsDistinct nat_eq (cond b (filter (interfere entities p) (numbers_of entities)) [])
    by true = distinct-rising (filter (interfere entities p) (numbers_of entities)) (IsStrictlySortedBy-filter nat_cmp (interfere entities p) (numbers_of entities) (rising-numbers entities))
    by false = none-distinct

is_interference : (entities : List (List ℕ)) → IsInterference entities (graph_of entities)
is_interference entities = record {
  rising = subst (IsStrictlySortedBy nat_cmp) (sym keys) (rising-numbers entities);
  preds = λ p. ap (has p) keys ∙ has-numbers p entities;
  once = graph-once entities;
  joined = graph-joined entities;
}
  where
    keys : keys_of (graph_of entities) ≡ numbers_of entities
    keys = keys-graph (λ p. filter (interfere entities p) (numbers_of entities)) (numbers_of entities)

pub some_graph : (entities : List (List ℕ)) → (g : Graph) × IsInterference entities g
some_graph entities = (graph_of entities, is_interference entities)

-- ---- a layout

some_known : (greedy : Bool) (chosen : ColumnsOf) (iri_of : ℕ → List ℕ) (items : List Item) → (known : List (List ℕ × ℕ)) × AreKnown greedy chosen iri_of items known
some_known false chosen iri_of items = (chosen.known, refl)
some_known true chosen iri_of items =
    let g = is_interference (entities_of items) in
    let c = some_colouring (graph_of (entities_of items)) chosen.count g.rising in
    (map (λ (c : ℕ × ℕ). (iri_of c.0, c.1)) c.0, record { graph = graph_of (entities_of items); colours = c.0; interferes = g; coloured = c.1; named = refl })

some_columns : (greedy : Bool) (chosen : ColumnsOf) (iri_of : ℕ → List ℕ) (items : List Item) → (columns : ColumnsOf) × AreColumnsFor greedy chosen iri_of items columns
some_columns greedy chosen iri_of items =
    let k = some_known greedy chosen iri_of items in
    (record { count = chosen.count; hashes = chosen.hashes; known = k.0 }, record { count = refl; hashes = refl; known = k.1 })

pub some_layout : (choice : ChoiceOf) (terms : List RdfTerm) (items : List Item) → (layout : LayoutOf) × IsLayoutFor choice terms items layout
some_layout choice terms items =
    let iri_of : ℕ → List ℕ = text_of_id terms in
    let d = some_columns choice.greedy choice.direct iri_of items in
    let r = some_columns choice.greedy choice.reverse iri_of (map turned items) in
    (record { direct = d.0; reverse = r.0 }, record { direct = d.1; reverse = r.1 })

pub some_chosen : (options : Options) (colours : List ColourOf) (changes : List Change) → (layout : LayoutOf) × IsLayoutOf options colours changes layout
some_chosen options colours changes = some_layout (choice_of options colours) (terms_of (map named (bulk changes))) (bulk_items (map named (bulk changes)))
