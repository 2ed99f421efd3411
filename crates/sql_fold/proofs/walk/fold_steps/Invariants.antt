use Rattle.std.proofs.Common.{take}
use Rattle.sql_meaning.specs.declared.script.Step.{Step}
use Rattle.sql_alias_meaning.specs.Each.{Each, Keeps}
use Rattle.sql_alias_meaning.specs.Nodes.{of_body}
use Rattle.sql_fold.proofs.walk.fold_steps.Given as goal

-- the outs so far stand for the children so far
abbrev pub invariant-loop-step : goal.invariant-loop-step
invariant-loop-step g l =
    Keeps (g.V.SqlFold.fits l.initial.v) (g.V.SqlFold.fits l.v) (g.V.SqlFold.stands l.initial.v) (g.V.SqlFold.stands l.v)
    × Each (λ x (y : Step). g.V.SqlFold.stands l.v (of_body x y.body)) l.outs.items (take l.step-index l.steps)
