use Rattle.std.proofs.Common.{◌≡◌, List, ℕ, length, OnOk, ap, ◌∙◌, subst}
use Rattle.rel_cells.specs.Seen.{seen_cell}
use Rattle.sql_bind_meaning.specs.Values.{Picked, bound_value}
use Rattle.sql_bind_meaning.specs.Sources.{relation_rows, bound_where_true}
use Rattle.sql_index.specs.Columns.{column_cells}
use Rattle.sql_index.specs.Matches.{equal_rows}
use Rattle.sql_engine_values.specs.Places.{picked}
use Rattle.sql_engine_joins.specs.Runs.{rows_beside, IsAdded}
use Rattle.sql_engine_joins.proofs.Added.{picked_length}
use Rattle.sql_engine_joins.proofs.KeyLaws.{matched_rows}
use Rattle.sql_engine_joins.proofs.joins.add_keyed.Goals as goal

pub returns-clause-added : goal.returns-clause-added
returns-clause-added g c =
    let s = c.args.sources.now in
    let rows = relation_rows s.relations c.args.join.now.relation in
    let left = c.args.left.now.items in
    let key = c.args.keyed.now.key in
    let condition = c.args.join.now.on in
    let found : c.matches.result.now ≡ equal_rows (column_cells rows key.column) (bound_value key.other.now (picked s left)) =
    c.matches.ensures ∙ c.requires.index (seen_cell c.value-cell.result)
    ∙ ap (equal_rows (column_cells rows key.column)) (c.value-cell.ensures ∙ ap (λ (l : List ℕ). bound_value key.other.now (picked s l)) c.as_slice.ensures.value) in
    subst (λ (l : List Picked). OnOk c.add_some.result (IsAdded s c.args.into.now c.add_some.new.into l))
    (ap (λ (l : List ℕ). bound_where_true condition (rows_beside rows (picked s left) l)) found
    ∙ matched_rows (length left) condition key.column key.other.now (picked s left) rows c.requires.key (picked_length s.relations s.numbers left))
    c.add_some.ensures.added
