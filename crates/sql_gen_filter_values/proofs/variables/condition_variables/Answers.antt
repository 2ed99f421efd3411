use Rattle.std.proofs.Common.{ℕ, ◌++◌, ◌∷◌, [], ◌∙◌, sym, ap}
use Rattle.sparql_variables.specs.Bits.{members}
use Rattle.sql_gen_filter_values.proofs.Sets.{next_in, next_out, in_order}
use Rattle.sql_gen_filter_meaning.specs.ConditionVariables.{truth_variables}
use Rattle.sql_gen_filter_values.proofs.variables.condition_variables.Goals.{then-has+in_ok-push, else-has}
use Rattle.sql_gen_filter_values.proofs.variables.condition_variables.Goals as goal

pub loop-number-preserved : goal.loop-number-preserved
loop-number-preserved c =
    let set = members c.with_truth-set.result in
    let xs = c.loop-number.variables.items in
    let place = ap set (sym c.new-v.ensures) in
    elim c.if-has.branch [
      | then-has+in_ok-push w ↦ next_in set c.loop-number.number xs c.if-has.variables.items (place ∙ sym c.has.ensures ∙ w.if-has.true) c.loop-number.invariant
          (ap (λ v. v.items) w.variables-is ∙ w.in_ok-push.ensures.items ∙ ap (λ (n : ℕ). xs ++ n ∷ []) c.new-v.ensures)
      | else-has w ↦ ap (λ v. v.items) w.variables-is ∙ next_out set c.loop-number.number xs (place ∙ sym c.has.ensures ∙ w.if-has.false) c.loop-number.invariant
    ]

pub returns : goal.returns
returns c =
    in_order (truth_variables c.args.e.now) (members c.empty.result) (members c.with_truth-set.result) c.loop-number.number c.loop-number.variables.items
    c.empty.ensures c.with_truth-set.ensures c.loop-number-test.false c.loop-number.auto.number-end c.loop-number.invariant
