-- A filter over a step carries what passes it.
use Rattle.std.proofs.Common.{◌≡◌, ℕ, Bool, cond, List, [], ◌∷◌, map, Some, None, sym, refl, ap, ap₂, ◌∙◌, pos}
use Rattle.std.specs.List.{filter}
use Rattle.query_eval_meaning.specs.Expressions.{Truth as Truth3, is_true as holds}
use Rattle.query_eval_meaning.specs.Mapping.{Mapping}
use Rattle.rdf_meaning.specs.Terms.{RdfTerm}
use Rattle.bags.specs.Bag.{total}
use Rattle.bags.specs.BagLaws.{total-map, total-filter, total-each, each-filter}
use Rattle.table_meaning.specs.declared.cell.Cell.{Cell}
use Rattle.sql_meaning.specs.declared.expression.SqlExpr.{SqlExpr}
use Rattle.sql_rows_meaning.specs.Values.{Sight, value_of, is_true}
use Rattle.sql_rows_meaning.specs.Tables.{Relations}
use Rattle.sql_rows_meaning.specs.Sources.{with_row, nothing_in_sight, all_joined}
use Rattle.sql_rows_meaning.specs.Selects.{item_cells}
use Rattle.sql_rows_meaning.specs.ValueLaws.{value_of-Int}
use Rattle.sql_gen_step_laws.specs.Carried.{Name, one, Ids, id_cell, carry, Over, Carries, select_table}
use Rattle.sql_gen_step_laws.specs.PlainSelects.{plain_rows}
use Rattle.sql_gen_step_laws.specs.StepSelects.{left_alias, one_item, variable_item, own_sql}
use Rattle.sql_gen_step_laws.specs.JoinStep.{item_columns}
use Rattle.sql_gen_step_laws.specs.UnionStep.{lone_env}
use Rattle.sql_gen_term_laws.specs.TermTable.{HasTerms, own_test, term_joins, with_terms}
use Rattle.sql_gen_term_laws.specs.TermChain.{Keeps, keeps-terms, own_seen, own_terms, shows_terms}
use Rattle.sql_gen_term_laws.specs.Filters.{filter_core, Means, truth_cell}

own_cells : (ids : Ids) (known : RdfTerm → Bool) (vs us : List ℕ) (m : Mapping) → Over vs known m → (env : Sight) → Keeps (lone_env ids vs m) env → item_cells (map (variable_item (own_sql vs)) us) env ≡ map (λ v. id_cell ids (m v)) us
own_cells ids known vs [] m f env k = refl
own_cells ids known vs (u ∷ us) m f env k = ap₂ (λ (x : Cell) (xs : List Cell). x ∷ xs) (own_seen ids known vs m f env k u) (own_cells ids known vs us m f env k)

pub own_items : (ids : Ids) (known : RdfTerm → Bool) (vs : List ℕ) (m : Mapping) → Over vs known m → (env : Sight) → Keeps (lone_env ids vs m) env → item_cells (one_item ∷ map (variable_item (own_sql vs)) vs) env ≡ carry ids vs m
own_items ids known vs m f env k = ap₂ (λ (x : Cell) (xs : List Cell). x ∷ xs) (value_of-Int (pos 1) env) (own_cells ids known vs vs m f env k)

pub holds_is : (v : Truth3) → is_true (truth_cell v) ≡ holds v
holds_is None = refl
holds_is (Some b) = refl

pub filter_step : (ids : Ids) (known : RdfTerm → Bool) (relations : Relations) (a terms : Name) → HasTerms ids known (relations terms) → (vs us : List ℕ) (ms : List Mapping) →
    Carries ids known vs ms (relations a) → (condition : SqlExpr) (truth : Mapping → Truth3) → Means us condition truth →
    Carries ids known vs (filter (λ m. holds (truth m)) ms) (select_table relations (filter_core a terms vs us condition))
filter_step ids known relations a terms st vs us ms c condition truth means = record {
  columns = ap (λ (xs : List Name). one ∷ xs) (item_columns (own_sql vs) vs);
  rows = record {
    totals = λ g.
        let items = one_item ∷ map (variable_item (own_sql vs)) vs in
        let envs = all_joined relations (term_joins terms (own_test vs) us) (map (λ row. with_row left_alias (relations a).columns row nothing_in_sight) (relations a).rows) in
        let env : Mapping → Sight = λ m. with_terms ids us m (lone_env ids vs m) in
        ap (total g) (plain_rows relations (filter_core a terms vs us condition) refl refl refl refl)
        ∙ total-map g (item_cells items) (filter (λ e. is_true (value_of condition e)) envs)
        ∙ total-filter (λ e. g (item_cells items e)) (λ e. is_true (value_of condition e)) envs
        ∙ (own_terms ids known relations a terms st vs us ms c).totals (λ e. cond (is_true (value_of condition e)) (g (item_cells items e)) 0)
        ∙ total-map (λ e. cond (is_true (value_of condition e)) (g (item_cells items e)) 0) env ms
        ∙ total-each _ _ (Over vs known) (λ m f. ap₂ (λ (b : Bool) (r : List Cell). cond b (g r) 0)
        (ap is_true (means m (env m) (shows_terms ids us m (lone_env ids vs m))) ∙ holds_is (truth m))
        (own_items ids known vs m f (env m) (keeps-terms ids us m (lone_env ids vs m)))) ms c.fits
        ∙ sym (total-filter (λ m. g (carry ids vs m)) (λ m. holds (truth m)) ms)
        ∙ sym (total-map g (carry ids vs) (filter (λ m. holds (truth m)) ms));
  };
  fits = each-filter (Over vs known) (λ m. holds (truth m)) ms c.fits;
  below = c.below;
}
