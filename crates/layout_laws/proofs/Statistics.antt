-- Tables have one statistics, and changes under options one text of them.
use Rattle.std.proofs.Common.{◌≡◌, ℕ, zero, suc, List, [], ◌∷◌, sym, ap, ◌∙◌, subst}
use Rattle.bags.specs.Bag.{SameBag}
use Rattle.bags.specs.BagLaws.{same-sym, same-trans}
use Rattle.rdf_meaning.specs.Terms.{RdfTriple}
use Rattle.line_change_meaning.specs.declared.change.Change.{Change}
use Rattle.line_change_meaning.specs.Present.{present}
use Rattle.run_meaning.specs.declared.command.Options.{Options}
use Rattle.colouring_file_meaning.specs.ColourLines.{ColourOf}
use Rattle.table_meaning.specs.declared.cell.Cell.{Cell}
use Rattle.table_meaning.specs.Tables.{NamedTable}
use Rattle.layout_meaning.specs.Columns.{ColumnsOf}
use Rattle.layout_standing_meaning.specs.Dictionary.{Entry}
use Rattle.layout_standing_meaning.specs.Schemas.{LayoutOf, FiveRows, five_tables}
use Rattle.layout_standing_meaning.specs.Contents.{SideContents, Contents, rows_said, term_cells}
use Rattle.layout_standing_meaning.specs.Standing.{SideStands, AreTables}
use Rattle.layout_stats_meaning.specs.Statistics.{StatsOf, AreStats, stats_text}
use Rattle.layout_placed_meaning.specs.StatsText.{IsStatsText}
use Rattle.layout_placed_meaning.specs.Placed.{placed_tables}
use Rattle.layout_placed_meaning.specs.Chosen.{IsCounted}
use Rattle.layout_laws.proofs.Counts.{AreApartLists, rows-counted, one_side}
use Rattle.layout_laws.proofs.Layouts.{one_chosen}

-- the rows of the table at a place
abbrev rows_at : ℕ → List NamedTable → List (List Cell)
rows_at n [] = []
rows_at zero (t ∷ ts) = t.rows
rows_at (suc n) (t ∷ ts) = rows_at n ts

-- both contents of tables have the same rows
record SameRows (r q : FiveRows) : Type 0 where
  direct : SameBag r.direct q.direct
  direct_lists : SameBag r.direct_lists q.direct_lists
  reverse : SameBag r.reverse q.reverse
  reverse_lists : SameBag r.reverse_lists q.reverse_lists
  terms : SameBag r.terms q.terms

through : {X : Type 0} (a b c d : List X) → SameBag a b → a ≡ c → SameBag c d → SameBag b d
through {X} a b c d x e y = same-trans (same-sym x) (subst (λ (l : List X). SameBag l d) (sym e) y)

same_rows : (layout : LayoutOf) (c d : Contents) (tables : List NamedTable) → AreTables layout c tables → AreTables layout d tables → SameRows (rows_said c) (rows_said d)
same_rows layout c d tables x y = record {
  direct = through x.rows.direct (rows_said c).direct y.rows.direct (rows_said d).direct x.direct (ap (rows_at 0) e) y.direct;
  direct_lists = through x.rows.direct_lists (rows_said c).direct_lists y.rows.direct_lists (rows_said d).direct_lists x.direct_lists (ap (rows_at 1) e) y.direct_lists;
  reverse = through x.rows.reverse (rows_said c).reverse y.rows.reverse (rows_said d).reverse x.reverse (ap (rows_at 2) e) y.reverse;
  reverse_lists = through x.rows.reverse_lists (rows_said c).reverse_lists y.rows.reverse_lists (rows_said d).reverse_lists x.reverse_lists (ap (rows_at 3) e) y.reverse_lists;
  terms = through x.rows.terms (rows_said c).terms y.rows.terms (rows_said d).terms x.terms (ap (rows_at 4) e) y.terms;
}
  where
    e : five_tables layout x.rows ≡ five_tables layout y.rows
    e = sym x.five ∙ y.five

apart_lists : (columns : ColumnsOf) (es : List Entry) (s : SideContents) → SideStands columns es s → AreApartLists s.lists
apart_lists columns es s h = record { sound = h.lists_sound; once = h.lists_once }

pub one_statistics : (layout : LayoutOf) (tables : List NamedTable) (g : List RdfTriple) (s t : StatsOf) → AreStats layout tables g s → AreStats layout tables g t → s ≡ t
one_statistics layout tables g s t x y =
    let rows = same_rows layout x.contents y.contents tables x.exact_tables y.exact_tables in
    let m = x.triples ∙ sym y.triples in
    let n = x.terms ∙ rows-counted term_cells x.contents.terms y.contents.terms rows.terms ∙ sym y.terms in
    let d = one_side layout.direct x.contents.direct y.contents.direct s.direct t.direct
    (apart_lists layout.direct x.contents.terms x.contents.direct x.same_triples.direct_side) (apart_lists layout.direct y.contents.terms y.contents.direct y.same_triples.direct_side)
    rows.direct rows.direct_lists x.direct y.direct in
    let r = one_side layout.reverse x.contents.reverse y.contents.reverse s.reverse t.reverse
    (apart_lists layout.reverse x.contents.terms x.contents.reverse x.same_triples.reverse_side) (apart_lists layout.reverse y.contents.terms y.contents.reverse y.same_triples.reverse_side)
    rows.reverse rows.reverse_lists x.reverse y.reverse in
    λ i. record { triples = m i; terms = n i; direct = d i; reverse = r i }

pub one_text : (layout : LayoutOf) (changes : List Change) (a b : List ℕ) → IsStatsText layout changes a → IsStatsText layout changes b → a ≡ b
one_text layout changes a b x y =
    x.written ∙ ap stats_text (one_statistics layout (placed_tables layout changes) (present changes) x.stats y.stats x.counted y.counted) ∙ sym y.written

pub one_told : (options : Options) (colours : List ColourOf) (changes : List Change) (a b : List ℕ) → IsCounted options colours changes a → IsCounted options colours changes b → a ≡ b
one_told options colours changes a b x y =
    let e : y.layout ≡ x.layout = one_chosen options colours changes y.layout x.layout y.chosen x.chosen in
    one_text x.layout changes a b x.told (subst (λ (layout : LayoutOf). IsStatsText layout changes b) e y.told)
