use Rattle.std.proofs.Common.{take}
use Rattle.sql_alias_meaning.specs.Each.{Each, Keeps}
use Rattle.query_expr_fold.proofs.walk.+truth.Given as goal

-- the outs so far stand for the children so far
abbrev pub invariant-fold_parts-loop-part : goal.invariant-fold_parts-loop-part
invariant-fold_parts-loop-part g l =
    Keeps (g.V.ExprFold.fits l.initial.v) (g.V.ExprFold.fits l.v) (g.V.ExprFold.stands l.initial.v) (g.V.ExprFold.stands l.v)
    × Each (λ x e. g.V.ExprFold.stands l.v (x, e)) l.outs.items (take l.part-index l.parts)
