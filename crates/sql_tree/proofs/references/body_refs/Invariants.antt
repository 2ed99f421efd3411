use Rattle.std.proofs.Common.{◌≤◌, ◌^◌, ◌-◌, ◌≡◌, ◌+◌, drop}
use Rattle.std.specs.Prelude.{map}
use Rattle.sql_meaning.specs.Scripts.{total, up_to, core_refs}
use Rattle.sql_tree.proofs.references.body_refs.Given as goal

abbrev pub invariant-loop-core : goal.invariant-loop-core
invariant-loop-core l = (l.refs ≤ 2 ^ 64 - 1) × (up_to 64 (total (map core_refs l.core-items)) ≡ up_to 64 (l.refs + total (map core_refs (drop l.core-index l.core-items))))
