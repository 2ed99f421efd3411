use Rattle.std.proofs.Common.{◌≤◌, ◌^◌, ◌-◌, ◌≡◌, ◌+◌, drop}
use Rattle.sql_meaning.specs.Scripts.{total, up_to}
use Rattle.tree_visitors.proofs.references.total.Given as goal

abbrev pub invariant-loop-count : goal.invariant-loop-count
invariant-loop-count l = (l.sum ≤ 2 ^ 64 - 1) × (up_to 64 (total l.counts) ≡ up_to 64 (l.sum + total (drop l.count-index l.counts)))
