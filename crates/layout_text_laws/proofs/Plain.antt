-- The five tables of a layout have plain names and columns.
use Rattle.std.proofs.Common.{◌≡◌, ℕ, zero, suc, ◌+◌, ◌≤◌, true, List, refl, ap, ◌∙◌, arith}
use Rattle.std.specs.Fmt.{digits}
use Rattle.std.specs.List.{list_all}
use Rattle.std.proofs.lemmas.Bool.{and_from, and_parts}
use Rattle.rdf_meaning.specs.Terms.{RdfTriple}
use Rattle.table_meaning.specs.Names.{is_name, body_words, source_words, order_words, value_words, test_words, case_words}
use Rattle.table_meaning.specs.Tables.{NamedTable}
use Rattle.table_text_meaning.specs.TableText.{is_plain_column, is_plain_table}
use Rattle.layout_standing_meaning.specs.Schemas.{LayoutOf, FiveRows, pair_columns, primary_schema, five_tables}
use Rattle.layout_standing_meaning.specs.Standing.{StandsFor}

-- fewer pairs
fewer : (m n at : ℕ) → m ≤ n → list_all is_plain_column (pair_columns n at) ≡ true → list_all is_plain_column (pair_columns m at) ≡ true
fewer zero n at l h = refl
fewer (suc m) zero at l h = absurd (omega arith)
fewer (suc m) (suc n) at l h =
    let outer = and_parts _ _ h in
    let inner = and_parts _ _ outer.1 in
    and_from _ _ outer.0 (and_from _ _ inner.0 (fewer m n (at + 1) (omega arith) inner.1))

most_plain : list_all is_plain_column (primary_schema 32) ≡ true
unfolding is_name body_words source_words order_words value_words test_words case_words digits
most_plain = refl

primary_plain : (k : ℕ) → k ≤ 32 → list_all is_plain_column (primary_schema k) ≡ true
primary_plain k l =
    let outer = and_parts _ _ most_plain in
    let inner = and_parts _ _ outer.1 in
    and_from _ _ outer.0 (and_from _ _ inner.0 (fewer k 32 1 l inner.1))

five_plain : (layout : LayoutOf) (rows : FiveRows) → layout.direct.count ≤ 32 → layout.reverse.count ≤ 32 → list_all is_plain_table (five_tables layout rows) ≡ true
unfolding is_name body_words source_words order_words value_words test_words case_words
five_plain layout rows l r = and_from _ _ (primary_plain layout.direct.count l) (and_from _ _ (primary_plain layout.reverse.count r) refl)

pub standing_plain : (layout : LayoutOf) (tables : List NamedTable) (g : List RdfTriple) → StandsFor layout tables g → layout.direct.count ≤ 32 → layout.reverse.count ≤ 32 → list_all is_plain_table tables ≡ true
standing_plain layout tables g stands l r = ap (list_all is_plain_table) stands.exact_tables.five ∙ five_plain layout stands.exact_tables.rows l r
