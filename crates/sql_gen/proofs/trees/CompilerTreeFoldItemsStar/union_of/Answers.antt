use Rattle.std.proofs.lemmas.Result.{IfOk-weaker}
use Rattle.sql_gen.proofs.TreeOuts.{out-Union}
use Rattle.sql_gen.proofs.trees.CompilerTreeFoldItemsStar.union_of.Goals as goal

-- src/trees.rt
pub returns-clause-out : goal.returns-clause-out
returns-clause-out c =
    IfOk-weaker c.united.result _ _
    (λ x is. out-Union _ _ _ _ _ c.args.left c.args.right x c.requires.shape.2 c.requires.shape.3 c.requires.shape.4 is)
    c.united.ensures
