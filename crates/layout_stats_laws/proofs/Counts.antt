-- What is counted of the rows, lists and terms of a store.
use Rattle.std.proofs.Common.{◌≡◌, ℕ, suc, ◌+◌, ◌==◌, ◌&&◌, ◌||◌, Bool, false, List, [], ◌∷◌, length, refl, sym, ap, ◌∙◌, arith}
use Rattle.std.specs.Prelude.{not}
use Rattle.std.specs.List.{list_any}
use Rattle.std.proofs.lemmas.List.Folds.{list_any-append}
use Rattle.bags.specs.Bag.{total}
use Rattle.bags.specs.BagLaws.{same-refl, total-one_each, total-same}
use Rattle.rdf_meaning.specs.Terms.{RdfTerm}
use Rattle.layout_meaning.specs.Side.{Rows, Entities, is_pred}
use Rattle.layout_meaning.specs.Rows.{SideOf, NumberedRow, IsCountOf, is_spilled, later, rows_from, row_total, numbered_rows}
use Rattle.layout_standing_meaning.specs.Dictionary.{numbered_from}
use Rattle.layout_standing_meaning.specs.Contents.{side_contents, contents_of, rows_said}
use Rattle.layout_standing_meaning.specs.Standing.{is_spilled_in}
use Rattle.layout_standing_meaning.specs.Stored.{StoreOf, IsStore, layout_of, tables_of, stored_triples}
use Rattle.layout_standing_meaning.proofs.Numbered.{numbered-total}
use Rattle.layout_stats_meaning.specs.Statistics.{SideStatsOf, AreSideStats, StatsOf, AreStats}
use Rattle.layout_stats_laws.proofs.Says.{says}

abbrev is_later : ℕ → NumberedRow → Bool
is_later p r = not (r.spill == 0) && list_any (is_pred p) r.pairs

above : (n : ℕ) → (n + 1 == 0) ≡ false
above n = grind arith

-- rows numbered above 0
later-any : (p e n : ℕ) (rs : Rows) → list_any (is_later p) (rows_from e (n + 1) rs) ≡ list_any (list_any (is_pred p)) rs
later-any p e n [] = refl
later-any p e n (r ∷ rs) =
    ap (λ (b : Bool). (not b && list_any (is_pred p) r) || list_any (is_later p) (rows_from e (n + 1 + 1) rs)) (above n)
    ∙ ap (λ (b : Bool). list_any (is_pred p) r || b) (later-any p e (n + 1) rs)

one-entity : (p e : ℕ) (rows : Rows) → list_any (is_later p) (rows_from e 0 rows) ≡ list_any (list_any (is_pred p)) (later rows)
one-entity p e [] = refl
one-entity p e (r ∷ rs) = later-any p e 0 rs

pub spilled-same : (p : ℕ) (ents : Entities) → is_spilled p ents ≡ is_spilled_in p (numbered_rows ents)
spilled-same p [] = refl
spilled-same p (en ∷ ents) =
    ap (λ (b : Bool). b || is_spilled p ents) (sym (one-entity p en.0 en.1))
    ∙ ap (λ (b : Bool). list_any (is_later p) (rows_from en.0 0 en.1) || b) (spilled-same p ents)
    ∙ sym (list_any-append (is_later p) (rows_from en.0 0 en.1) (numbered_rows ents))

rows-counted : (ents : Entities) → row_total ents ≡ length (numbered_rows ents)
rows-counted ents =
    total-same (λ (en : ℕ × Rows). length en.1) (λ (en : ℕ × Rows). total (λ r. 1) en.1) (λ (en : ℕ × Rows). sym (total-one_each en.1)) ents
    ∙ sym (numbered-total (λ (e : ℕ) r. 1) ents)
    ∙ total-one_each (numbered_rows ents)

pub side-counted : (s : SideOf) (stats : SideStatsOf) → stats.columns ≡ s.columns.count → stats.rows ≡ row_total s.state.entities → stats.lists ≡ length s.state.lists
    → IsCountOf (λ p. is_spilled p s.state.entities) stats.spilled → AreSideStats s.columns (side_contents s.state) stats
side-counted s stats columns rows lists spilled = record {
  columns = columns;
  rows = rows ∙ rows-counted s.state.entities;
  lists = lists;
  spilled = record {
    names = spilled.names;
    distinct = spilled.distinct;
    exact = λ n. spilled.exact n ∙ spilled-same n s.state.entities;
    counted = spilled.counted;
  };
}

terms-counted : (n : ℕ) (terms : List RdfTerm) → length terms ≡ length (numbered_from n terms)
terms-counted n [] = refl
terms-counted n (t ∷ terms) = ap suc (terms-counted (n + 1) terms)

-- the statistics of a store are those of its tables
pub store-counted : (s : StoreOf) (stats : StatsOf) → IsStore s → stats.triples ≡ length (stored_triples s) → stats.terms ≡ length s.terms
    → AreSideStats s.direct.columns (side_contents s.direct.state) stats.direct → AreSideStats s.reverse.columns (side_contents s.reverse.state) stats.reverse
    → AreStats (layout_of s) (tables_of s) (stored_triples s) stats
store-counted s stats h triples terms direct reverse = record {
  contents = contents_of s.direct.state s.reverse.state s.terms;
  exact_tables = record {
    rows = rows_said (contents_of s.direct.state s.reverse.state s.terms);
    five = refl;
    direct = same-refl _;
    direct_lists = same-refl _;
    reverse = same-refl _;
    reverse_lists = same-refl _;
    terms = same-refl _;
  };
  same_triples = says s h;
  triples = triples;
  terms = terms ∙ terms-counted 1 s.terms;
  direct = direct;
  reverse = reverse;
}
