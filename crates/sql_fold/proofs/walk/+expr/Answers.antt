use Rattle.sql_fold.proofs.Children.{Each-at, Each-next, Each-whole, Keeps-refl, Keeps-then}
use Rattle.sql_fold.proofs.Shapes.{out-all, out-any, out-first, out-case}
use Rattle.sql_alias_meaning.specs.Each.{none}
use Rattle.sql_alias_meaning.specs.Nodes.{of_expr}
use Rattle.sql_meaning.specs.declared.expression.Branch.{Branch}
use Rattle.std.proofs.Common.{rules}
use Rattle.sql_fold.proofs.walk.+expr.Goals as goal

pub fold_parts-loop-part-init : goal.fold_parts-loop-part-init
fold_parts-loop-part-init g t c = (Keeps-refl _ _, rw c.new-outs.ensures.items none)

pub fold_parts-loop-part-preserved : goal.fold_parts-loop-part-preserved
fold_parts-loop-part-preserved g t c = (
  Keeps-then c.loop-part.invariant.0 c.fold_expr.ensures.kept,
  Each-next (λ x e. of_expr x e) _ _ _ _ _ _ _ _ _ _ c.fold_expr.ensures.kept c.loop-part.invariant.1 c.in_ok-out.ensures.out c.in_ok-push.ensures.items c.loop-part-test.true c.part-item.is,
)

pub fold_branches-loop-branch-init : goal.fold_branches-loop-branch-init
fold_branches-loop-branch-init g t c = (Keeps-refl _ _, rw c.new-tests.ensures.items none, rw c.new-answers.ensures.items none)

pub fold_branches-loop-branch-preserved : goal.fold_branches-loop-branch-preserved
fold_branches-loop-branch-preserved g t c =
    let both = Keeps-then c.fold_expr.ensures.kept c.fold_expr-in-loop-branch.ensures.kept in (
      Keeps-then c.loop-branch.invariant.0 both,
      Each-next (λ x (b : Branch). of_expr x b.test) _ _ _ _ _ _ _ _ _ _ both c.loop-branch.invariant.1 c.in_ok-test.ensures.out c.in_ok-push.ensures.items c.loop-branch-test.true c.branch-item.is,
      Each-next (λ x (b : Branch). of_expr x b.value) _ _ _ _ _ _ _ _ _ _ both c.loop-branch.invariant.2 (c.fold_expr.ensures.kept.meant _ c.in_ok-answer.ensures.out) c.in_ok-push-2.ensures.items c.loop-branch-test.true
          c.branch-item.is,
    )

pub fold_parts-returns-clause-out : goal.fold_parts-returns-clause-out
fold_parts-returns-clause-out g t c = Each-whole _ _ _ _ c.loop-part-test.false c.loop-part.invariant.1

pub fold_branches-returns-clause-tests : goal.fold_branches-returns-clause-tests
fold_branches-returns-clause-tests g t c = Each-whole _ _ _ _ c.loop-branch-test.false c.loop-branch.invariant.1

pub fold_branches-returns-clause-answers : goal.fold_branches-returns-clause-answers
fold_branches-returns-clause-answers g t c = Each-whole _ _ _ _ c.loop-branch-test.false c.loop-branch.invariant.2

pub fold_expr-all-requires-clause-shape : goal.fold_expr-all-requires-clause-shape
fold_expr-all-requires-clause-shape g t c = (c.in-All.parts, out-all _ _ c.in-All.is, Each-at _ _ _ _ c.as_slice.ensures c.in_ok-parts-in-All.ensures.out)

pub fold_expr-any-requires-clause-shape : goal.fold_expr-any-requires-clause-shape
fold_expr-any-requires-clause-shape g t c = (c.in-Any.parts, out-any _ _ c.in-Any.is, Each-at _ _ _ _ c.as_slice-in-Any.ensures c.in_ok-parts-in-Any.ensures.out)

pub fold_expr-first-requires-clause-shape : goal.fold_expr-first-requires-clause-shape
fold_expr-first-requires-clause-shape g t c = (c.in-First.parts, out-first _ _ c.in-First.is, Each-at _ _ _ _ c.as_slice-in-First.ensures c.in_ok-parts-in-First.ensures.out)

pub fold_expr-case-requires-clause-shape : goal.fold_expr-case-requires-clause-shape
fold_expr-case-requires-clause-shape g t c = (
  c.in-Case.branches,
  c.in-Case.last,
  out-case _ _ _ c.in-Case.is,
  Each-at _ _ _ _ c.as_slice-in-Case.ensures c.in_ok-outs-in-Case.ensures.tests,
  Each-at _ _ _ _ c.as_slice-in-Case.ensures c.in_ok-outs-in-Case.ensures.answers,
  search rules,
)
