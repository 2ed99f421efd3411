use Rattle.sparql_constants.specs.Once.{twice, both-Join, both-LeftJoin, both-Union}
use Rattle.sparql_constants.proofs.constant_terms.+keep_tree.Goals as goal

pub returns-in_ok-keep_tree-in-Join-2 : goal.returns-in_ok-keep_tree-in-Join-2
returns-in_ok-keep_tree-in-Join-2 t c =
    twice _ _ _ _ _ _ _ _ (both-Join _ _ _ c.in-Join.is) c.get.ensures c.get-in-Join.ensures c.in_ok-keep_tree-in-Join.ensures c.in_ok-keep_tree-in-Join-2.ensures

pub returns-in_ok-keep_tree-in-LeftJoin-2 : goal.returns-in_ok-keep_tree-in-LeftJoin-2
returns-in_ok-keep_tree-in-LeftJoin-2 t c =
    twice _ _ _ _ _ _ _ _ (both-LeftJoin _ _ _ _ c.in-LeftJoin.is) c.get-in-LeftJoin.ensures c.get-in-LeftJoin-2.ensures c.in_ok-keep_tree-in-LeftJoin.ensures c.in_ok-keep_tree-in-LeftJoin-2.ensures

pub returns-in_ok-keep_tree-in-Union-2 : goal.returns-in_ok-keep_tree-in-Union-2
returns-in_ok-keep_tree-in-Union-2 t c =
    twice _ _ _ _ _ _ _ _ (both-Union _ _ _ c.in-Union.is) c.get-in-Union.ensures c.get-in-Union-2.ensures c.in_ok-keep_tree-in-Union.ensures c.in_ok-keep_tree-in-Union-2.ensures
