-- A union of two steps carries both lists.
use Rattle.std.proofs.Common.{◌≡◌, ℕ, ◌+◌, ◌<◌, ◌⊎◌, Bool, true, false, if◌then◌else◌, List, [], ◌∷◌, ◌++◌, map, sym, refl, ap, ap₂, ◌∙◌, inl, inr, pos}
use Rattle.std.proofs.lemmas.Bool.{cases_Bool}
use Rattle.std.proofs.lemmas.List.{append-nil}
use Rattle.std.specs.List.{filter}
use Rattle.query_eval_meaning.specs.Mapping.{Mapping, width}
use Rattle.rdf_meaning.specs.Terms.{RdfTerm}
use Rattle.bags.specs.Bag.{total}
use Rattle.bags.specs.BagLaws.{total-map, total-each, each-append, each-weaker, each-filter, total-append}
use Rattle.table_meaning.specs.declared.cell.Cell.{Cell}
use Rattle.sql_rows_meaning.specs.Values.{Sight, value_of}
use Rattle.sql_rows_meaning.specs.Tables.{Relations}
use Rattle.sql_rows_meaning.specs.Sources.{with_row, nothing_in_sight}
use Rattle.sql_rows_meaning.specs.Selects.{select_rows, item_cells}
use Rattle.sql_rows_meaning.specs.Rows.{body_relation}
use Rattle.sql_rows_meaning.specs.ValueLaws.{value_of-Name, value_of-Int, value_of-Null}
use Rattle.sql_gen_step_laws.specs.Carried.{Name, column, one, Ids, id_cell, carry, columns_of, Over, Carries}
use Rattle.sql_gen_step_laws.specs.Lookups.{cell_under_carry}
use Rattle.sql_gen_step_laws.specs.PlainSelects.{plain_rows}
use Rattle.sql_gen_step_laws.specs.StepSelects.{left_alias, has, one_item, variable_item, both, own_sql, project_core, union_body}
use Rattle.sql_gen_step_laws.specs.JoinStep.{total-carried, item_columns, in-both}
use Rattle.table_meaning.specs.declared.kind.Kind.TheVariants as kind

abbrev pub lone_env : Ids → List ℕ → Mapping → Sight
lone_env ids vs m = with_row left_alias (columns_of vs) (carry ids vs m) nothing_in_sight

own_value : (ids : Ids) (known : RdfTerm → Bool) (vs : List ℕ) (m : Mapping) → Over vs known m → (v : ℕ) → value_of (own_sql vs v) (lone_env ids vs m) ≡ id_cell ids (m v)
own_value ids known vs m f v = go (cases_Bool (has vs v))
  where
    go : (has vs v ≡ true) ⊎ (has vs v ≡ false) → value_of (own_sql vs v) (lone_env ids vs m) ≡ id_cell ids (m v)
    go (inl e) = rw e (value_of-Name left_alias (column v) (lone_env ids vs m) ∙ cell_under_carry ids known vs m v f)
    go (inr e) = rw (e, f.bound v e) (value_of-Null kind.Int (lone_env ids vs m))

own_cells : (ids : Ids) (known : RdfTerm → Bool) (vs us : List ℕ) (m : Mapping) → Over vs known m → item_cells (map (variable_item (own_sql vs)) us) (lone_env ids vs m) ≡ map (λ v. id_cell ids (m v)) us
own_cells ids known vs [] m f = refl
own_cells ids known vs (u ∷ us) m f = ap₂ (λ (x : Cell) (xs : List Cell). x ∷ xs) (own_value ids known vs m f u) (own_cells ids known vs us m f)

-- the rows of one step with other columns carry the same
pub total-projected : (g : List Cell → ℕ) (ids : Ids) (known : RdfTerm → Bool) (relations : Relations) (a : Name) (vs us : List ℕ) (ms : List Mapping) → Carries ids known vs ms (relations a) →
    total g (select_rows relations (project_core a vs us)) ≡ total (λ m. g (carry ids us m)) ms
total-projected g ids known relations a vs us ms c =
    let items = one_item ∷ map (variable_item (own_sql vs)) us in
    ap (total g) (plain_rows relations (project_core a vs us) refl refl refl refl)
    ∙ total-map g (item_cells items) (map (λ row. with_row left_alias (relations a).columns row nothing_in_sight) (relations a).rows)
    ∙ total-map (λ e. g (item_cells items e)) (λ row. with_row left_alias (relations a).columns row nothing_in_sight) (relations a).rows
    ∙ ap (λ (k : List Name). total (λ row. g (item_cells items (with_row left_alias k row nothing_in_sight))) (relations a).rows) c.columns
    ∙ total-carried ids known vs ms (relations a) (λ row. g (item_cells items (with_row left_alias (columns_of vs) row nothing_in_sight))) c
    ∙ total-each _ _ (Over vs known) (λ m f. ap g (ap₂ (λ (x : Cell) (xs : List Cell). x ∷ xs) (value_of-Int (pos 1) (lone_env ids vs m)) (own_cells ids known vs us m f))) ms c.fits

-- more variables may be named than are bound
pub wider : (known : RdfTerm → Bool) (vs us : List ℕ) → ((v : ℕ) → has us v ≡ false → has vs v ≡ false) → (m : Mapping) → Over vs known m → Over us known m
wider known vs us w m f = record { bound = λ v e. f.bound v (w v e); known_terms = f.known_terms }

pub union_step : (ids : Ids) (known : RdfTerm → Bool) (relations : Relations) (a b : Name) (vs ws : List ℕ) (ls rs : List Mapping) →
    Carries ids known vs ls (relations a) → Carries ids known ws rs (relations b) → Carries ids known (both vs ws) (ls ++ rs) (body_relation relations (union_body a b vs ws))
union_step ids known relations a b vs ws ls rs ca cb = record {
  columns = ap (λ (xs : List Name). one ∷ xs) (item_columns (own_sql vs) (both vs ws));
  rows = record {
    totals = λ g.
        total-append g (select_rows relations (project_core a vs (both vs ws))) (select_rows relations (project_core b ws (both vs ws)) ++ [])
        ∙ ap₂ (λ m n. m + n) (total-projected g ids known relations a vs (both vs ws) ls ca)
        (ap (total g) (append-nil (select_rows relations (project_core b ws (both vs ws)))) ∙ total-projected g ids known relations b ws (both vs ws) rs cb)
        ∙ sym (total-append (λ m. g (carry ids (both vs ws) m)) ls rs)
        ∙ sym (total-map g (carry ids (both vs ws)) (ls ++ rs));
  };
  fits = each-append (Over (both vs ws) known) ls rs
      (each-weaker (Over vs known) (Over (both vs ws) known) (wider known vs (both vs ws) (λ v e. (in-both vs ws v e).0)) ls ca.fits)
      (each-weaker (Over ws known) (Over (both vs ws) known) (wider known ws (both vs ws) (λ v e. (in-both vs ws v e).1)) rs cb.fits);
  below = each-append (λ v. v < width) vs (filter (λ w. if has vs w then false else true) ws) ca.below (each-filter (λ v. v < width) (λ w. if has vs w then false else true) ws cb.below);
}
