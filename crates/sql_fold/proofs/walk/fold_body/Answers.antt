use Rattle.sql_fold.proofs.Children.{Each-at}
use Rattle.sql_fold.proofs.walk.fold_body.Goals as goal

pub body-requires-clause-cores : goal.body-requires-clause-cores
body-requires-clause-cores g c = Each-at _ _ _ _ c.as_slice.ensures c.in_ok-cores.ensures.out
