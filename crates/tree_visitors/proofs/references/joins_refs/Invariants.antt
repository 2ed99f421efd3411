use Rattle.std.proofs.Common.{◌≤◌, ◌^◌, ◌-◌, ◌≡◌, ◌+◌, drop}
use Rattle.std.specs.Prelude.{map}
use Rattle.sql_meaning.specs.Scripts.{total, up_to, join_refs}
use Rattle.tree_visitors.proofs.references.joins_refs.Given as goal

abbrev pub invariant-loop-join : goal.invariant-loop-join
invariant-loop-join l = (l.refs ≤ 2 ^ 64 - 1) × (up_to 64 (total (map join_refs l.joins)) ≡ up_to 64 (l.refs + total (map join_refs (drop l.join-index l.joins))))
