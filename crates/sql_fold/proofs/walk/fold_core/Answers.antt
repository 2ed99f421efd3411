use Rattle.sql_fold.proofs.Children.{Each-at, Each-kept, Keeps-then}
use Rattle.sql_alias_meaning.specs.Nodes.{of_expr}
use Rattle.sql_meaning.specs.declared.script.Item.{Item}
use Rattle.sql_meaning.specs.declared.script.JoinTo.{JoinTo}
use Rattle.sql_fold.proofs.walk.fold_core.Goals as goal

pub core-requires-clause-items : goal.core-requires-clause-items
core-requires-clause-items g c =
    Each-kept (λ x (y : Item). of_expr x y.expr) _ _ _ c.as_slice.ensures (Keeps-then (Keeps-then c.fold_joins.ensures.kept c.fold_condition.ensures.kept) c.fold_keys.ensures.kept) c.in_ok-items.ensures.out

pub core-requires-clause-joins : goal.core-requires-clause-joins
core-requires-clause-joins g c =
    Each-kept (λ x (y : JoinTo). of_expr x y.on) _ _ _ c.as_slice-2.ensures (Keeps-then c.fold_condition.ensures.kept c.fold_keys.ensures.kept) c.in_ok-joins.ensures.out

pub core-requires-clause-keys : goal.core-requires-clause-keys
core-requires-clause-keys g c = Each-at _ _ _ _ c.as_slice-3.ensures c.in_ok-keys.ensures.out
