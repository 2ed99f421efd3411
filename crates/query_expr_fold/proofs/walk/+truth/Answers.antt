use Rattle.sql_fold.proofs.Children.{Each-at, Each-next, Each-whole, Keeps-refl, Keeps-then}
use Rattle.query_expr_fold.proofs.Shapes.{out-all, out-any}
use Rattle.sql_alias_meaning.specs.Each.{none}
use Rattle.query_expr_fold.proofs.walk.+truth.Goals as goal

pub fold_parts-loop-part-init : goal.fold_parts-loop-part-init
fold_parts-loop-part-init g t c = (Keeps-refl _ _, rw c.new-outs.ensures.items none)

pub fold_parts-loop-part-preserved : goal.fold_parts-loop-part-preserved
fold_parts-loop-part-preserved g t c = (
  Keeps-then c.loop-part.invariant.0 c.fold_expr.ensures.kept,
  Each-next (λ x e. (x, e)) _ _ _ _ _ _ _ _ _ _ c.fold_expr.ensures.kept c.loop-part.invariant.1 c.in_ok-out.ensures.out c.in_ok-push.ensures.items c.loop-part-test.true c.part-item.is,
)

pub fold_parts-returns-clause-out : goal.fold_parts-returns-clause-out
fold_parts-returns-clause-out g t c = Each-whole _ _ _ _ c.loop-part-test.false c.loop-part.invariant.1

pub fold_expr-all-requires-clause-shape : goal.fold_expr-all-requires-clause-shape
fold_expr-all-requires-clause-shape g t c = (c.in-All.parts, out-all _ _ c.in-All.is, Each-at _ _ _ _ c.as_slice.ensures c.in_ok-parts-in-All.ensures.out)

pub fold_expr-any-requires-clause-shape : goal.fold_expr-any-requires-clause-shape
fold_expr-any-requires-clause-shape g t c = (c.in-Any.parts, out-any _ _ c.in-Any.is, Each-at _ _ _ _ c.as_slice-in-Any.ensures c.in_ok-parts-in-Any.ensures.out)
