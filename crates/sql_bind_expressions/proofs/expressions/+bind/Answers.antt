-- What a part gave makes the answer of the whole; the laws of the paths say how.
use Rattle.std.proofs.Common.{rules, arith, ◌≡◌, map, Ok, Err, ◌∙◌}
use Rattle.std.proofs.lemmas.Result.{IfOk-weaker, IfErr-weaker}
use Rattle.sql_rows_meaning.specs.declared.fault.FaultKind.{FaultKind}
use Rattle.sql_rows_meaning.specs.Faults.{all_fine}
use Rattle.sql_rows_meaning.specs.Checks.{check}
use Rattle.sql_rows_meaning.specs.CheckLaws.{branch_kinds}
use Rattle.sql_bind_laws.specs.Places.{places_of}
use Rattle.sql_bind_names.specs.Newest.{scope_in}
use Rattle.sql_bind_names.specs.declared.stop.Stop.TheVariants as stop
use Rattle.sql_bind_expressions.specs.Levels.{branch_no_test, branch_no_value, branch_checked}
use Rattle.sql_bind_expressions.proofs.Walked.{parts_stop, branches_stop, kinds_kept, exprs_kept, branch_kinds_kept, branches_kept, branch_placed}
use Rattle.sql_bind_expressions.proofs.Paths.{all_stopped, all_told, all_placed, any_stopped, any_told, any_placed, first_stopped, first_told, first_placed, case_stopped, case_last_stopped, case_told}
use Rattle.sql_bind_expressions.proofs.expressions.+bind.Goals as goal

pub bind_expr-returns-in_err-bind_parts-in-All-clause-stop : goal.bind_expr-returns-in_err-bind_parts-in-All-clause-stop
bind_expr-returns-in_err-bind_parts-in-All-clause-stop t c =
    let h : (k : FaultKind) → c.in_err-bind_parts-in-All.field-0.0 ≡ stop.Fault k → check c.args.e.now (scope_in c.args.sources.now) ≡ Err k = λ k q. all_stopped _ _ _ _ _ c.in-All.is c.as_slice.ensures (c.in_err-bind_parts-in-All.ensures.stop k q) in
    search rules

pub bind_expr-returns-in_ok-bind_parts-in-All-clause-kind : goal.bind_expr-returns-in_ok-bind_parts-in-All-clause-kind
bind_expr-returns-in_ok-bind_parts-in-All-clause-kind t c =
    IfOk-weaker c.all.result _ _ (λ r a. all_told _ _ _ _ _ c.in-All.is c.as_slice.ensures c.in_ok-bind_parts-in-All.ensures.kinds ∙ a) c.all.ensures.kind

pub bind_expr-returns-in_ok-bind_parts-in-All-clause-expr : goal.bind_expr-returns-in_ok-bind_parts-in-All-clause-expr
bind_expr-returns-in_ok-bind_parts-in-All-clause-expr t c =
    IfOk-weaker c.all.result _ _ (λ r a. a ∙ all_placed _ _ _ _ _ c.in-All.is c.as_slice.ensures c.in_ok-bind_parts-in-All.ensures.exprs) c.all.ensures.expr

pub bind_expr-returns-in_ok-bind_parts-in-All-clause-stop : goal.bind_expr-returns-in_ok-bind_parts-in-All-clause-stop
bind_expr-returns-in_ok-bind_parts-in-All-clause-stop t c =
    IfErr-weaker c.all.result _ _ (λ r a k q. all_told _ _ _ _ _ c.in-All.is c.as_slice.ensures c.in_ok-bind_parts-in-All.ensures.kinds ∙ a k q) c.all.ensures.stop

pub bind_expr-returns-in_err-bind_parts-in-Any-clause-stop : goal.bind_expr-returns-in_err-bind_parts-in-Any-clause-stop
bind_expr-returns-in_err-bind_parts-in-Any-clause-stop t c =
    let h : (k : FaultKind) → c.in_err-bind_parts-in-Any.field-0.0 ≡ stop.Fault k → check c.args.e.now (scope_in c.args.sources.now) ≡ Err k = λ k q. any_stopped _ _ _ _ _ c.in-Any.is c.as_slice-in-Any.ensures (c.in_err-bind_parts-in-Any.ensures.stop k q) in
    search rules

pub bind_expr-returns-in_ok-bind_parts-in-Any-clause-kind : goal.bind_expr-returns-in_ok-bind_parts-in-Any-clause-kind
bind_expr-returns-in_ok-bind_parts-in-Any-clause-kind t c =
    IfOk-weaker c.any.result _ _ (λ r a. any_told _ _ _ _ _ c.in-Any.is c.as_slice-in-Any.ensures c.in_ok-bind_parts-in-Any.ensures.kinds ∙ a) c.any.ensures.kind

pub bind_expr-returns-in_ok-bind_parts-in-Any-clause-expr : goal.bind_expr-returns-in_ok-bind_parts-in-Any-clause-expr
bind_expr-returns-in_ok-bind_parts-in-Any-clause-expr t c =
    IfOk-weaker c.any.result _ _ (λ r a. a ∙ any_placed _ _ _ _ _ c.in-Any.is c.as_slice-in-Any.ensures c.in_ok-bind_parts-in-Any.ensures.exprs) c.any.ensures.expr

pub bind_expr-returns-in_ok-bind_parts-in-Any-clause-stop : goal.bind_expr-returns-in_ok-bind_parts-in-Any-clause-stop
bind_expr-returns-in_ok-bind_parts-in-Any-clause-stop t c =
    IfErr-weaker c.any.result _ _ (λ r a k q. any_told _ _ _ _ _ c.in-Any.is c.as_slice-in-Any.ensures c.in_ok-bind_parts-in-Any.ensures.kinds ∙ a k q) c.any.ensures.stop

pub bind_expr-returns-in_err-bind_parts-in-First-clause-stop : goal.bind_expr-returns-in_err-bind_parts-in-First-clause-stop
bind_expr-returns-in_err-bind_parts-in-First-clause-stop t c =
    let h : (k : FaultKind) → c.in_err-bind_parts-in-First.field-0.0 ≡ stop.Fault k → check c.args.e.now (scope_in c.args.sources.now) ≡ Err k = λ k q. first_stopped _ _ _ _ _ c.in-First.is c.as_slice-in-First.ensures (c.in_err-bind_parts-in-First.ensures.stop k q) in
    search rules

pub bind_expr-returns-in_ok-bind_parts-in-First-clause-kind : goal.bind_expr-returns-in_ok-bind_parts-in-First-clause-kind
bind_expr-returns-in_ok-bind_parts-in-First-clause-kind t c =
    IfOk-weaker c.first.result _ _ (λ r a. first_told _ _ _ _ _ c.in-First.is c.as_slice-in-First.ensures c.in_ok-bind_parts-in-First.ensures.kinds ∙ a) c.first.ensures.kind

pub bind_expr-returns-in_ok-bind_parts-in-First-clause-expr : goal.bind_expr-returns-in_ok-bind_parts-in-First-clause-expr
bind_expr-returns-in_ok-bind_parts-in-First-clause-expr t c =
    IfOk-weaker c.first.result _ _ (λ r a. a ∙ first_placed _ _ _ _ _ c.in-First.is c.as_slice-in-First.ensures c.in_ok-bind_parts-in-First.ensures.exprs) c.first.ensures.expr

pub bind_expr-returns-in_ok-bind_parts-in-First-clause-stop : goal.bind_expr-returns-in_ok-bind_parts-in-First-clause-stop
bind_expr-returns-in_ok-bind_parts-in-First-clause-stop t c =
    IfErr-weaker c.first.result _ _ (λ r a k q. first_told _ _ _ _ _ c.in-First.is c.as_slice-in-First.ensures c.in_ok-bind_parts-in-First.ensures.kinds ∙ a k q) c.first.ensures.stop

pub bind_expr-returns-in_err-branches-in-Case-clause-stop : goal.bind_expr-returns-in_err-branches-in-Case-clause-stop
bind_expr-returns-in_err-branches-in-Case-clause-stop t c =
    let h : (k : FaultKind) → c.in_err-branches-in-Case.field-0.0 ≡ stop.Fault k → check c.args.e.now (scope_in c.args.sources.now) ≡ Err k = λ k q. case_stopped _ _ _ _ _ _ c.in-Case.is c.as_slice-in-Case.ensures (c.in_err-branches-in-Case.ensures.stop k q) in
    search rules

pub bind_expr-returns-in_err-last-in-Case-clause-stop : goal.bind_expr-returns-in_err-last-in-Case-clause-stop
bind_expr-returns-in_err-last-in-Case-clause-stop t c =
    let h : (k : FaultKind) → c.in_err-last-in-Case.field-0.0 ≡ stop.Fault k → check c.args.e.now (scope_in c.args.sources.now) ≡ Err k = λ k q. case_last_stopped _ _ _ _ _ _ _ _ c.in-Case.is c.as_slice-in-Case.ensures c.get-in-Case.ensures c.in_ok-branches-in-Case.ensures.kinds (c.in_err-last-in-Case.ensures.stop k q) in
    search rules

pub bind_expr-returns-in_ok-last-in-Case-clause-kind : goal.bind_expr-returns-in_ok-last-in-Case-clause-kind
bind_expr-returns-in_ok-last-in-Case-clause-kind t c =
    IfOk-weaker c.case.result _ _ (λ r a. case_told _ _ _ _ _ _ _ _ c.in-Case.is c.as_slice-in-Case.ensures c.get-in-Case.ensures c.in_ok-branches-in-Case.ensures.kinds c.in_ok-last-in-Case.ensures.kind ∙ a) c.case.ensures.kind

pub bind_expr-returns-in_ok-last-in-Case-clause-stop : goal.bind_expr-returns-in_ok-last-in-Case-clause-stop
bind_expr-returns-in_ok-last-in-Case-clause-stop t c =
    IfErr-weaker c.case.result _ _ (λ r a k q. case_told _ _ _ _ _ _ _ _ c.in-Case.is c.as_slice-in-Case.ensures c.get-in-Case.ensures c.in_ok-branches-in-Case.ensures.kinds c.in_ok-last-in-Case.ensures.kind ∙ a k q) c.case.ensures.stop

pub bind_parts-returns-in_err-bound-clause-stop : goal.bind_parts-returns-in_err-bound-clause-stop
bind_parts-returns-in_err-bound-clause-stop t c =
    let h : (k : FaultKind) → c.in_err-bound.field-0.0 ≡ stop.Fault k → all_fine (map (λ e. check e (scope_in c.args.sources.now)) c.args.parts.now) ≡ Err k =
    λ k q. parts_stop (scope_in c.args.sources.now) c.args.parts.now c.loop-part.part-index c.part-item.result _ _ c.loop-part-test.true c.part-item.is c.loop-part.invariant.kinds (c.in_err-bound.ensures.stop k q) in
    search rules

pub bind_parts-loop-part-preserved : goal.bind_parts-loop-part-preserved
bind_parts-loop-part-preserved t c =
    record {
      kinds = kinds_kept (scope_in c.args.sources.now) c.args.parts.now c.loop-part.part-index c.part-item.result _ _ _ c.loop-part-test.true c.part-item.is c.loop-part.invariant.kinds c.in_ok-bound.ensures.kind c.in_ok-push-2.ensures.items;
      exprs = exprs_kept (places_of c.args.sources.now) c.args.parts.now c.loop-part.part-index c.part-item.result _ _ _ c.loop-part-test.true c.part-item.is c.loop-part.invariant.exprs c.in_ok-bound.ensures.expr c.in_ok-push.ensures.ok;
    }

pub bind_branches-returns-in_err-test-clause-stop : goal.bind_branches-returns-in_err-test-clause-stop
bind_branches-returns-in_err-test-clause-stop t c =
    let h : (k : FaultKind) → c.in_err-test.field-0.0 ≡ stop.Fault k → all_fine (map (λ b. branch_kinds b (scope_in c.args.sources.now)) c.args.branches.now) ≡ Err k =
    λ k q. branches_stop (scope_in c.args.sources.now) c.args.branches.now c.loop-branch.branch-index c.branch-item.result _ _ c.loop-branch-test.true c.branch-item.is c.loop-branch.invariant.kinds (branch_no_test _ _ _ (c.in_err-test.ensures.stop k q)) in
    search rules

pub bind_branches-returns-in_err-value-clause-stop : goal.bind_branches-returns-in_err-value-clause-stop
bind_branches-returns-in_err-value-clause-stop t c =
    let h : (k : FaultKind) → c.in_err-value.field-0.0 ≡ stop.Fault k → all_fine (map (λ b. branch_kinds b (scope_in c.args.sources.now)) c.args.branches.now) ≡ Err k =
    λ k q. branches_stop (scope_in c.args.sources.now) c.args.branches.now c.loop-branch.branch-index c.branch-item.result _ _ c.loop-branch-test.true c.branch-item.is c.loop-branch.invariant.kinds (branch_no_value _ _ _ _ c.in_ok-test.ensures.kind (c.in_err-value.ensures.stop k q)) in
    search rules

pub bind_branches-loop-branch-preserved : goal.bind_branches-loop-branch-preserved
bind_branches-loop-branch-preserved t c =
    record {
      kinds = branch_kinds_kept (scope_in c.args.sources.now) c.args.branches.now c.loop-branch.branch-index c.branch-item.result _ _ _ c.loop-branch-test.true c.branch-item.is c.loop-branch.invariant.kinds (branch_checked _ _ _ _ c.in_ok-test.ensures.kind c.in_ok-value.ensures.kind) c.in_ok-push-2.ensures.items;
      branches = branches_kept (places_of c.args.sources.now) c.args.branches.now c.loop-branch.branch-index c.branch-item.result _ _ _ c.loop-branch-test.true c.branch-item.is c.loop-branch.invariant.branches (branch_placed _ _ _ _ c.in_ok-test.ensures.expr c.in_ok-value.ensures.expr) c.in_ok-push.ensures.ok;
    }
