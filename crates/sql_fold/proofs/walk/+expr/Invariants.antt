use Rattle.std.proofs.Common.{take}
use Rattle.sql_meaning.specs.declared.expression.Branch.{Branch}
use Rattle.sql_alias_meaning.specs.Each.{Each, Keeps}
use Rattle.sql_alias_meaning.specs.Nodes.{of_expr}
use Rattle.sql_fold.proofs.walk.+expr.Given as goal

-- the outs so far stand for the children so far
abbrev pub invariant-fold_parts-loop-part : goal.invariant-fold_parts-loop-part
invariant-fold_parts-loop-part g l =
    Keeps (g.V.SqlFold.fits l.initial.v) (g.V.SqlFold.fits l.v) (g.V.SqlFold.stands l.initial.v) (g.V.SqlFold.stands l.v)
    × Each (λ x e. g.V.SqlFold.stands l.v (of_expr x e)) l.outs.items (take l.part-index l.parts)

abbrev pub invariant-fold_branches-loop-branch : goal.invariant-fold_branches-loop-branch
invariant-fold_branches-loop-branch g l =
    Keeps (g.V.SqlFold.fits l.initial.v) (g.V.SqlFold.fits l.v) (g.V.SqlFold.stands l.initial.v) (g.V.SqlFold.stands l.v)
    × Each (λ x (b : Branch). g.V.SqlFold.stands l.v (of_expr x b.test)) l.tests.items (take l.branch-index l.branches)
    × Each (λ x (b : Branch). g.V.SqlFold.stands l.v (of_expr x b.value)) l.answers.items (take l.branch-index l.branches)
