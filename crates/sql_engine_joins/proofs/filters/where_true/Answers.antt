use Rattle.std.proofs.Common.{true, false, List, [], ◌∷◌, ◌++◌, sym, ap, ◌∙◌, append-nil}
use Rattle.std.proofs.lemmas.List.{map-append}
use Rattle.sql_bind_meaning.specs.Values.{Picked}
use Rattle.sql_engine_values.specs.Places.{picked}
use Rattle.sql_engine_joins.specs.Rows.{PickedList, all_picked}
use Rattle.sql_engine_joins.proofs.Added.{kept_more}
use Rattle.sql_engine_joins.proofs.filters.where_true.Goals.{then-value_is_true+in_ok-push, else-value_is_true}
use Rattle.sql_engine_joins.proofs.filters.where_true.Goals as goal

pub loop-at-preserved : goal.loop-at-preserved
loop-at-preserved g c =
    let s = c.args.sources.now in
    let row = c.row-row.result.now in
    elim c.if-value_is_true.branch [
      | then-value_is_true+in_ok-push w ↦
          record {
            width = ap (λ (l : PickedList). l.width) (w.kept-is ∙ w.in_ok-push.ensures) ∙ c.loop-at.invariant.width;
            rows = ap (all_picked s) (w.kept-is ∙ w.in_ok-push.ensures) ∙ map-append (picked s) c.loop-at.kept.rows (row ∷ []) ∙ ap (λ (l : List Picked). l ++ picked s row ∷ []) c.loop-at.invariant.rows
                ∙ sym (kept_more s c.args.condition.now c.args.rows.now.rows c.loop-at.at row true c.row-row.ensures.row (sym c.value_is_true.ensures ∙ w.if-value_is_true.true));
          }
      | else-value_is_true w ↦
          record {
            width = ap (λ (l : PickedList). l.width) w.kept-is ∙ c.loop-at.invariant.width;
            rows = ap (all_picked s) w.kept-is ∙ c.loop-at.invariant.rows ∙ sym (append-nil _)
                ∙ sym (kept_more s c.args.condition.now c.args.rows.now.rows c.loop-at.at row false c.row-row.ensures.row (sym c.value_is_true.ensures ∙ w.if-value_is_true.false));
          }
    ]
