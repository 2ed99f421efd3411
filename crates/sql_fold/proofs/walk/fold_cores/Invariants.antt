use Rattle.std.proofs.Common.{take}
use Rattle.sql_meaning.specs.declared.script.Core.{Core}
use Rattle.sql_alias_meaning.specs.Each.{Each, Keeps}
use Rattle.sql_alias_meaning.specs.Nodes.{of_core}
use Rattle.sql_fold.proofs.walk.fold_cores.Given as goal

-- the outs so far stand for the children so far
abbrev pub invariant-loop-core : goal.invariant-loop-core
invariant-loop-core g l =
    Keeps (g.V.SqlFold.fits l.initial.v) (g.V.SqlFold.fits l.v) (g.V.SqlFold.stands l.initial.v) (g.V.SqlFold.stands l.v)
    × Each (λ x (y : Core). g.V.SqlFold.stands l.v (of_core x y)) l.outs.items (take l.core-index l.cores)
