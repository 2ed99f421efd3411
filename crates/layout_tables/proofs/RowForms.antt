-- The rows of the five tables have the kinds of their columns.
use Rattle.std.proofs.Common.{◌≡◌, ℕ, ℤ, zero, suc, ◌+◌, ◌≤◌, ◌&&◌, true, List, [], ◌∷◌, ◌++◌, map, Option, Some, None, length, codes, refl, ap, ◌∙◌, arith}
use Rattle.std.specs.List.{flat_map, list_all, AllByRecursion}
use Rattle.std.proofs.lemmas.List.Folds.{list_all-append}
use Rattle.bags.specs.BagLaws.{each-weaker}
use Rattle.rdf_meaning.specs.Terms.{RdfTerm}
use Rattle.rdf_value_meaning.specs.Values.{value_of}
use Rattle.table_meaning.specs.declared.kind.Kind.TheVariants as kinds
use Rattle.table_meaning.specs.Schemas.{is_schema}
use Rattle.table_meaning.specs.Tables.{has_kind, NamedTable, is_row, are_rows, is_table_set}
use Rattle.layout_meaning.specs.declared.value.Value.{Value}
use Rattle.layout_meaning.specs.declared.value.Value.TheVariants.{One, Many}
use Rattle.layout_meaning.specs.Side.{Row, Rows, Entities, ValueLists}
use Rattle.layout_meaning.specs.Sound.{AreSoundRows}
use Rattle.layout_meaning.specs.Rows.{SideOf, NumberedRow, numbered_rows}
use Rattle.layout_standing_meaning.specs.Dictionary.{numbered_from, entries_of}
use Rattle.layout_standing_meaning.specs.Schemas.{pair_columns, primary_schema, list_schema, term_schema, table_of}
use Rattle.layout_standing_meaning.specs.Contents.{value_cell, pair_cells, row_cells, element_cells, number_cell, term_cells}
use Rattle.layout_standing_meaning.specs.Stored.{StoreOf, IsStore, tables_of}
use Rattle.layout_standing_meaning.proofs.Numbered.{each-numbered}
use Rattle.layout_schemas.proofs.ColumnNames.{both, primary-is}

value-kind : (v : Value) → has_kind kinds.Int (value_cell v) ≡ true
value-kind (One v) = refl
value-kind (Many n) = refl

pairs-row : (k at : ℕ) (ps : Row) → length ps ≡ k → is_row (pair_columns k at) (flat_map pair_cells ps) ≡ true
pairs-row zero at [] h = refl
pairs-row zero at (p ∷ ps) h = absurd (omega arith)
pairs-row (suc k) at [] h = absurd (omega arith)
pairs-row (suc k) at (None ∷ ps) h = pairs-row k (at + 1) ps (omega arith)
pairs-row (suc k) at (Some q ∷ ps) h = both _ _ (value-kind q.value) (pairs-row k (at + 1) ps (omega arith))

pub primary-rows : (k : ℕ) (rows : List NumberedRow) → AllByRecursion (λ (r : NumberedRow). length r.pairs ≡ k) rows → are_rows (primary_schema k) (map row_cells rows) ≡ true
primary-rows k [] h = refl
primary-rows k (r ∷ rows) h = both _ _ (pairs-row k 1 r.pairs h.0) (primary-rows k rows h.1)

list-rows : (n : ℕ) (vs : List ℕ) → are_rows list_schema (element_cells (n, vs)) ≡ true
list-rows n [] = refl
list-rows n (v ∷ vs) = list-rows n vs

pub lists-rows : (lists : ValueLists) → are_rows list_schema (flat_map element_cells lists) ≡ true
lists-rows [] = refl
lists-rows (l ∷ lists) = list_all-append (is_row list_schema) (element_cells l) (flat_map element_cells lists) ∙ both _ _ (list-rows l.0 l.1) (lists-rows lists)

number-kind : (o : Option ℤ) → has_kind kinds.Int (number_cell o) ≡ true
number-kind None = refl
number-kind (Some n) = refl

terms-rows : (n : ℕ) (terms : List RdfTerm) → are_rows term_schema (map term_cells (numbered_from n terms)) ≡ true
terms-rows n [] = refl
terms-rows n (t ∷ terms) = both _ _ (both _ _ (number-kind (value_of t)) refl) (terms-rows (n + 1) terms)

wide : (k : ℕ) (ents : Entities) → AllByRecursion (λ (en : ℕ × Rows). AreSoundRows k en.1) ents → AllByRecursion (λ (r : NumberedRow). length r.pairs ≡ k) (numbered_rows ents)
wide k ents h = each-numbered (λ (e : ℕ) (r : Row). length r ≡ k) ents
    (each-weaker (λ (en : ℕ × Rows). AreSoundRows k en.1) (λ (en : ℕ × Rows). AllByRecursion (λ (r : Row). length r ≡ k) en.1) (λ (en : ℕ × Rows) (s : AreSoundRows k en.1). s.wide) ents h)

-- the tables of a store with at most 32 columns on each side are a set of tables
pub five-are_set : (s : StoreOf) → IsStore s → s.direct.columns.count ≤ 32 → s.reverse.columns.count ≤ 32 → is_table_set (tables_of s) ≡ true
five-are_set s h d r =
    both _ _ (primary s.direct.columns.count s.direct.state.entities d h.sides.direct.sound.rows)
    (both _ _ (lists-rows s.direct.state.lists)
    (both _ _ (primary s.reverse.columns.count s.reverse.state.entities r h.sides.reverse.sound.rows)
    (both _ _ (lists-rows s.reverse.state.lists)
    (both _ _ (terms-rows 1 s.terms) refl))))
  where
    primary : (k : ℕ) (ents : Entities) → k ≤ 32 → AllByRecursion (λ (en : ℕ × Rows). AreSoundRows k en.1) ents → (is_schema (primary_schema k) && are_rows (primary_schema k) (map row_cells (numbered_rows ents))) ≡ true
    primary k ents few sound = both _ _ (primary-is k few) (primary-rows k (numbered_rows ents) (wide k ents sound))

-- the tables of a side
abbrev pub primary_of : List ℕ → SideOf → NamedTable
primary_of name s = table_of name (primary_schema s.columns.count) (map row_cells (numbered_rows s.state.entities))

abbrev pub lists_of : List ℕ → SideOf → NamedTable
lists_of name s = table_of name list_schema (flat_map element_cells s.state.lists)

-- tables that were put behind others
pub tables-are : (s : StoreOf) (d r : SideOf) (none two four five : List NamedTable) (t : NamedTable) → d ≡ s.direct → r ≡ s.reverse → none ≡ []
    → two ≡ none ++ primary_of (codes "DPH") d ∷ lists_of (codes "DS") d ∷ [] → four ≡ two ++ primary_of (codes "RPH") r ∷ lists_of (codes "RS") r ∷ [] → five ≡ four ++ t ∷ []
    → t ≡ table_of (codes "TERM") term_schema (map term_cells (entries_of s.terms)) → five ≡ tables_of s
tables-are s d r none two four five t dd rr n a b c last =
    c ∙ ap (λ (l : List NamedTable). l ++ t ∷ []) (b ∙ ap (λ (l : List NamedTable). l ++ primary_of (codes "RPH") r ∷ lists_of (codes "RS") r ∷ []) (a ∙ ap (λ (l : List NamedTable). l ++ primary_of (codes "DPH") d ∷ lists_of (codes "DS") d ∷ []) n))
    ∙ (λ i. primary_of (codes "DPH") (dd i) ∷ lists_of (codes "DS") (dd i) ∷ primary_of (codes "RPH") (rr i) ∷ lists_of (codes "RS") (rr i) ∷ last i ∷ [])
