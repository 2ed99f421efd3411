-- Changes under options have a text of statistics.
use Rattle.std.proofs.Common.{◌≡◌, ◌&&◌, ◌||◌, ℕ, nat_eq, Bool, true, false, List, [], ◌∷◌, map, length, Option, Some, None, refl, ap, ◌∙◌, arith, subst}
use Rattle.std.specs.List.{list_any, filter, flat_map}
use Rattle.std.specs.Ordering.{nat_cmp}
use Rattle.std.proofs.lemmas.Bool.{or_right}
use Rattle.std.proofs.lemmas.List.Kept.{IsStrictlySortedBy-filter}
use Rattle.line_change_meaning.specs.declared.change.Change.{Change}
use Rattle.line_change_meaning.specs.Present.{named, bulk, present}
use Rattle.run_meaning.specs.declared.command.Options.{Options}
use Rattle.colouring_file_meaning.specs.ColourLines.{ColourOf, AreFit}
use Rattle.run_command_laws.specs.Ranges.{AreInRange}
use Rattle.layout_meaning.specs.Side.{Pair, Row, Rows, Entities, is_pred}
use Rattle.layout_meaning.specs.Rows.{SideOf, IsCountOf, is_spilled, later, row_total}
use Rattle.layout_standing_meaning.specs.Schemas.{LayoutOf}
use Rattle.layout_standing_meaning.specs.Contents.{side_contents}
use Rattle.layout_standing_meaning.specs.Stored.{StoreOf, IsStore, layout_of, tables_of, stored_triples}
use Rattle.layout_standing_meaning.proofs.Each.{any-flat_map}
use Rattle.layout_stats_meaning.specs.Statistics.{SideStatsOf, StatsOf, AreSideStats, AreStats, stats_text}
use Rattle.layout_stats_laws.proofs.Counts.{side-counted, store-counted}
use Rattle.layout_bulk_laws.specs.BulkStore.{terms_of, bulk_items}
use Rattle.pred_colour_meaning.specs.Interference.{has}
use Rattle.layout_placed_meaning.specs.Placed.{placed_store, placed_tables}
use Rattle.layout_placed_meaning.specs.Chosen.{IsCounted}
use Rattle.layout_placed_laws.proofs.Steps.{placed-layout}
use Rattle.layout_placed_laws.proofs.Same.{same-stats}
use Rattle.layout_laws.proofs.Rising.{numbers_of, rising-numbers, distinct-rising, has-numbers}
use Rattle.layout_laws.proofs.Existing.{any-weaker, has-filter, some_chosen}
use Rattle.layout_laws.proofs.Columns.{chosen-candidates}
use Rattle.layout_laws.proofs.Stores.{AreForms, placed-holds}

-- ---- a predicate that is spilled is one of a side

abbrev pair_preds : Option Pair → List ℕ
pair_preds None = []
pair_preds (Some q) = q.pred ∷ []

abbrev entity_preds : ℕ × Rows → List ℕ
entity_preds en = flat_map (flat_map pair_preds) en.1

pair-has : (p : ℕ) (o : Option Pair) → is_pred p o ≡ true → has p (pair_preds o) ≡ true
pair-has p None h = cc
pair-has p (Some q) h = let e : nat_eq p q.pred ≡ true = grind arith in rw e refl

rows-have : (p : ℕ) (rows : Rows) → list_any (list_any (is_pred p)) rows ≡ true → has p (flat_map (flat_map pair_preds) rows) ≡ true
rows-have p rows h =
    any-flat_map (nat_eq p) (flat_map pair_preds) rows
    ∙ any-weaker (list_any (is_pred p)) (λ (r : Row). has p (flat_map pair_preds r))
    (λ (r : Row) e. any-flat_map (nat_eq p) pair_preds r ∙ any-weaker (is_pred p) (λ (o : Option Pair). has p (pair_preds o)) (pair-has p) r e) rows h

later-have : (p : ℕ) (rows : Rows) → list_any (list_any (is_pred p)) (later rows) ≡ true → list_any (list_any (is_pred p)) rows ≡ true
later-have p [] h = h
later-have p (r ∷ rows) h = or_right (list_any (is_pred p) r) (list_any (list_any (is_pred p)) rows) h

abbrev side_preds : Entities → List ℕ
side_preds ents = numbers_of (map entity_preds ents)

any-map : {X Y : Type 0} (t : Y → Bool) (f : X → Y) (xs : List X) → list_any t (map f xs) ≡ list_any (λ x. t (f x)) xs
any-map t f [] = refl
any-map t f (x ∷ xs) = ap (λ (b : Bool). t (f x) || b) (any-map t f xs)

spilled-there : (p : ℕ) (ents : Entities) → is_spilled p ents ≡ true → has p (side_preds ents) ≡ true
spilled-there p ents h =
    has-numbers p (map entity_preds ents) ∙ any-map (has p) entity_preds ents
    ∙ any-weaker (λ (en : ℕ × Rows). list_any (list_any (is_pred p)) (later en.1)) (λ (en : ℕ × Rows). has p (entity_preds en)) (λ (en : ℕ × Rows) e. rows-have p en.1 (later-have p en.1 e)) ents h

abbrev spilled_preds : Entities → List ℕ
spilled_preds ents = filter (λ p. is_spilled p ents) (side_preds ents)

spilled-counted : (ents : Entities) → IsCountOf (λ p. is_spilled p ents) (length (spilled_preds ents))
spilled-counted ents = record {
  names = spilled_preds ents;
  distinct = distinct-rising (spilled_preds ents) (IsStrictlySortedBy-filter nat_cmp (λ p. is_spilled p ents) (side_preds ents) (rising-numbers (map entity_preds ents)));
  exact = λ p. has-filter (λ p. is_spilled p ents) p (side_preds ents) ∙ by p (is_spilled p ents) refl;
  counted = refl;
}
  where
    by : (p : ℕ) (b : Bool) → is_spilled p ents ≡ b → (b && has p (side_preds ents)) ≡ b
    by p true e = spilled-there p ents e
    by p false e = refl

-- ---- the statistics of a store

abbrev side_stats : SideOf → SideStatsOf
side_stats s = record { columns = s.columns.count; rows = row_total s.state.entities; lists = length s.state.lists; spilled = length (spilled_preds s.state.entities) }

are_side_stats : (s : SideOf) → AreSideStats s.columns (side_contents s.state) (side_stats s)
are_side_stats s = side-counted s (side_stats s) refl refl refl (spilled-counted s.state.entities)

abbrev store_stats : StoreOf → StatsOf
store_stats s = record { triples = length (stored_triples s); terms = length s.terms; direct = side_stats s.direct; reverse = side_stats s.reverse }

are_store_stats : (s : StoreOf) → IsStore s → AreStats (layout_of s) (tables_of s) (stored_triples s) (store_stats s)
are_store_stats s h = store-counted s (store_stats s) h refl refl (are_side_stats s.direct) (are_side_stats s.reverse)

pub some_told : (options : Options) (colours : List ColourOf) (changes : List Change) → AreInRange options → AreFit options.columns options.reverse colours → AreForms changes → (text : List ℕ) × IsCounted options colours changes text
some_told options colours changes r fit forms =
    let found = some_chosen options colours changes in
    let layout = found.0 in
    let triples = map named (bulk changes) in
    let s = placed_store layout changes in
    let held = placed-holds layout changes (chosen-candidates options colours (terms_of triples) (bulk_items triples) layout r fit found.1) forms in
    let are : AreStats layout (placed_tables layout changes) (stored_triples s) (store_stats s) =
    subst (λ (l : LayoutOf). AreStats l (tables_of s) (stored_triples s) (store_stats s)) (placed-layout layout changes) (are_store_stats s held.good) in (
      stats_text (store_stats s),
      record {
        layout = layout;
        chosen = found.1;
        told = record {
          stats = store_stats s;
          counted = same-stats layout (placed_tables layout changes) (stored_triples s) (present changes) (store_stats s) held.same are;
          written = refl;
        };
      },
    )
