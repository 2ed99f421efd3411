-- DISTINCT over numbers keeps the solutions whose shown parts differ.
use Rattle.std.specs.Prelude.{◌≡◌, ◌⊎◌, ℕ, ◌<◌, Bool, true, false, ◌&&◌, List, [], ◌∷◌, map, Option, Some, None, pos, refl}
use Rattle.std.proofs.Common.{sym, ap, ap₂, ◌∙◌, inl, inr}
use Rattle.std.proofs.lemmas.Bool.{cases_Bool, eq-eqb, or_left, or_right}
use Rattle.std.proofs.lemmas.Simd.{map-map}
use Rattle.std.specs.List.{AllByRecursion}
use Rattle.bags.specs.Bag.{total, SameBag}
use Rattle.bags.specs.BagLaws.{total-map, total-same, each-map, each-weaker}
use Rattle.bags.specs.Sort.{sort, by_items, same_items, firsts}
use Rattle.bags.specs.ItemsLaws.{items_total, items_ties}
use Rattle.rdf_meaning.specs.Terms.{RdfTerm}
use Rattle.query_eval_meaning.specs.Mapping.{Mapping, width}
use Rattle.query_eval_meaning.specs.Answer.{same_place}
use Rattle.table_meaning.specs.declared.cell.Cell.{Cell}
use Rattle.table_meaning.specs.declared.cell.Cell.TheVariants.{Int}
use Rattle.sql_meaning.specs.declared.script.Item.{Item}
use Rattle.sql_rows_meaning.specs.Cells.{cell_order, same_cell}
use Rattle.sql_rows_meaning.specs.Tables.{Relations}
use Rattle.sql_rows_meaning.specs.Sources.{with_row, nothing_in_sight}
use Rattle.sql_rows_meaning.specs.Selects.{key_order, item_cells, select_rows}
use Rattle.sql_rows_laws.specs.CellLaws.{cell_order_total, cell_order_ties}
use Rattle.sql_rows_laws.specs.SelectLaws.{each-firsts}
use Rattle.sql_gen_step_laws.specs.Carried.{Name, one, Ids, id_cell, carry, Over, Numbers, Carries, select_table}
use Rattle.sql_gen_step_laws.specs.StepSelects.{left_alias, has, one_item, variable_item, own_sql, project_core}
use Rattle.sql_gen_step_laws.specs.StepTests.{same_number}
use Rattle.sql_gen_step_laws.specs.JoinStep.{item_columns}
use Rattle.sql_gen_step_laws.specs.UnionStep.{total-projected}
use Rattle.sql_gen_last_laws.specs.DistinctSelect.{distinct_core, part, same_parts, distinct_parts}
use Rattle.sql_gen_last_laws.proofs.LastRows.{cells-same}
use Rattle.sql_gen_last_laws.proofs.Firsts.{firsts-mapped, firsts-same}

-- ---- a part of a mapping

pub part-at : (us : List ℕ) (m : Mapping) (u : ℕ) → has us u ≡ true → part us m u ≡ m u
part-at us m u e = rw e refl

part-under : (us ws : List ℕ) (m : Mapping) → ((u : ℕ) → has ws u ≡ true → has us u ≡ true) → map (part us m) ws ≡ map m ws
part-under us [] m f = refl
part-under us (w ∷ ws) m f = ap₂ (λ (x : Option RdfTerm) (xs : List (Option RdfTerm)). x ∷ xs) (part-at us m w (f w (or_left _ _ (eq-eqb w w refl)))) (part-under us ws m (λ u e. f u (or_right _ _ e)))

-- the part has the same terms
pub part-same : (us : List ℕ) (m : Mapping) → map (part us m) us ≡ map m us
part-same us m = part-under us us m (λ u e. e)

cells-of : (ids : Ids) (us : List ℕ) (m n : Mapping) → map m us ≡ map n us → map (λ v. id_cell ids (m v)) us ≡ map (λ v. id_cell ids (n v)) us
cells-of ids us m n e = sym (map-map (id_cell ids) m us) ∙ ap (map (id_cell ids)) e ∙ map-map (id_cell ids) n us

-- and the same numbers
carry-part : (ids : Ids) (us : List ℕ) (m : Mapping) → carry ids us m ≡ carry ids us (part us m)
carry-part ids us m = ap (λ (cs : List Cell). Int (pos 1) ∷ cs) (cells-of ids us m (part us m) (sym (part-same us m)))

pub part-over : (known : RdfTerm → Bool) (vs us : List ℕ) (m : Mapping) → Over vs known m → Over us known (part us m)
part-over known vs us m f = record { bound = λ v e. rw e refl; known_terms = λ v t e. knows v t (cases_Bool (has us v)) e }
  where
    knows : (v : ℕ) (t : RdfTerm) → (has us v ≡ true) ⊎ (has us v ≡ false) → part us m v ≡ Some t → known t ≡ true
    knows v t (inl h) e = f.known_terms v t (sym (part-at us m v h) ∙ e)
    knows v t (inr h) e = let no : part us m v ≡ None = rw h refl in let wrong : None ≡ Some t = sym no ∙ e in cc

-- ---- equal numbers are equal terms

same-place : (ids : Ids) (known : RdfTerm → Bool) → Numbers ids known → (x y : Option RdfTerm) → ((t : RdfTerm) → x ≡ Some t → known t ≡ true) → ((t : RdfTerm) → y ≡ Some t → known t ≡ true) →
    same_cell (id_cell ids x) (id_cell ids y) ≡ same_place x y
same-place ids known n None None p q = refl
same-place ids known n None (Some t) p q = refl
same-place ids known n (Some s) None p q = refl
same-place ids known n (Some s) (Some t) p q = same_number (ids s) (ids t) ∙ n s t (p s refl) (q t refl)

same-numbers : (ids : Ids) (known : RdfTerm → Bool) → Numbers ids known → (us ws : List ℕ) (m k : Mapping) → Over us known m → Over us known k →
    same_items same_cell (map (λ v. id_cell ids (m v)) ws) (map (λ v. id_cell ids (k v)) ws) ≡ same_items same_place (map m ws) (map k ws)
same-numbers ids known n us [] m k f g = refl
same-numbers ids known n us (w ∷ ws) m k f g = ap₂ (λ (a b : Bool). a && b) (same-place ids known n (m w) (k w) (f.known_terms w) (g.known_terms w)) (same-numbers ids known n us ws m k f g)

pub distinct-step : (ids : Ids) (known : RdfTerm → Bool) → Numbers ids known → (relations : Relations) (a : Name) (vs us : List ℕ) (ms : List Mapping) → Carries ids known vs ms (relations a) → AllByRecursion (λ v. v < width) us →
    Carries ids known us (distinct_parts us ms) (select_table relations (distinct_core a vs us))
distinct-step ids known n relations a vs us ms c below =
    record {
      columns = ap (λ (xs : List Name). one ∷ xs) (item_columns (own_sql vs) us);
      rows = record {
        totals = λ g.
            ap (λ (rows : List (List Cell)). total g (firsts (same_items same_cell) [] rows)) distinct_of
            ∙ (firsts-same (same_items same_cell) cells-same (by_items cell_order []) (items_total cell_order cell_order_total []) (items_ties cell_order cell_order_ties []) plain (map (carry ids us) parts) bag).totals g
            ∙ ap (total g) (firsts-mapped (Over us known) (same_parts us) (same_items same_cell) (carry ids us) (λ m k f h. same-numbers ids known n us us m k f h) [] parts tt over);
      };
      fits = each-firsts (Over us known) (same_parts us) [] parts over;
      below = below;
    }
  where
    parts : List Mapping
    parts = map (part us) ms

    items : List Item
    items = one_item ∷ map (variable_item (own_sql vs)) us

    plain : List (List Cell)
    plain = select_rows relations (project_core a vs us)

    distinct_of : map (item_cells items) (sort (key_order []) (map (λ row. with_row left_alias (relations a).columns row nothing_in_sight) (relations a).rows)) ≡ plain
    distinct_of = refl

    over : AllByRecursion (Over us known) parts
    over = each-map (Over us known) (part us) ms (each-weaker (Over vs known) (λ m. Over us known (part us m)) (part-over known vs us) ms c.fits)

    bag : SameBag plain (map (carry ids us) parts)
    bag = record {
      totals = λ g.
          total-projected g ids known relations a vs us ms c
          ∙ total-same (λ m. g (carry ids us m)) (λ m. g (carry ids us (part us m))) (λ m. ap g (carry-part ids us m)) ms
          ∙ sym (total-map g (carry ids us) parts ∙ total-map (λ m. g (carry ids us m)) (part us) ms);
    }
