use Rattle.std.proofs.lemmas.Result.{IfOk-weaker}
use Rattle.sql_gen.proofs.TreeOuts.{out-Join}
use Rattle.sql_gen.proofs.trees.CompilerTreeFoldItemsStar.join.Goals as goal

-- src/trees.rt
pub returns-clause-out : goal.returns-clause-out
returns-clause-out c =
    IfOk-weaker c.joined.result _ _
    (λ x is. out-Join _ _ _ _ _ c.args.left c.args.right x c.requires.shape.2 c.requires.shape.3 c.requires.shape.4 is)
    c.joined.ensures
