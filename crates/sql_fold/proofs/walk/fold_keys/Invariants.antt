use Rattle.std.proofs.Common.{take}
use Rattle.sql_meaning.specs.declared.script.SqlKey.{SqlKey}
use Rattle.sql_alias_meaning.specs.Each.{Each, Keeps}
use Rattle.sql_alias_meaning.specs.Nodes.{of_expr}
use Rattle.sql_fold.proofs.walk.fold_keys.Given as goal

-- the outs so far stand for the children so far
abbrev pub invariant-loop-key : goal.invariant-loop-key
invariant-loop-key g l =
    Keeps (g.V.SqlFold.fits l.initial.v) (g.V.SqlFold.fits l.v) (g.V.SqlFold.stands l.initial.v) (g.V.SqlFold.stands l.v)
    × Each (λ x (y : SqlKey). g.V.SqlFold.stands l.v (of_expr x y.expr)) l.outs.items (take l.key-index l.keys)
