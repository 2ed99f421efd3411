use Rattle.std.proofs.Common.{◌∙◌}
use Rattle.std.proofs.lemmas.Result.{IfOk-weaker}
use Rattle.sql_gen.proofs.TreeOuts.{out-LeftJoin, out-conditional, same_condition}
use Rattle.sql_gen.proofs.trees.CompilerTreeFoldItemsStar.left_join.Goals as goal

-- src/trees.rt
pub returns-in-None-clause-out : goal.returns-in-None-clause-out
returns-in-None-clause-out c =
    IfOk-weaker c.optional.result _ _
    (λ x is. out-LeftJoin _ _ _ _ _ c.args.left c.args.right x (same_condition _ _ _ _ _ _ _ _ c.requires.shape.3 c.in-LeftJoin.is c.in-None.is) c.requires.shape.4 c.requires.shape.5 is)
    c.optional.ensures

pub returns-in_ok-sql-in-Some-clause-out : goal.returns-in_ok-sql-in-Some-clause-out
returns-in_ok-sql-in-Some-clause-out c =
    IfOk-weaker c.conditional.result _ _
    (λ x is. out-conditional _ _ _ _ _ c.in-Some.condition _ c.in_ok-sql-in-Some.sql c.args.left c.args.right x (same_condition _ _ _ _ _ _ _ _ c.requires.shape.3 c.in-LeftJoin.is c.in-Some.is)
    c.requires.shape.4 c.requires.shape.5 c.in_ok-sql-in-Some.ensures.written (c.from_vec-terms.ensures ∙ c.in_ok-condition_variables-in-Some.ensures) c.in_ok-sql-in-Some.ensures.value is)
    c.conditional.ensures
