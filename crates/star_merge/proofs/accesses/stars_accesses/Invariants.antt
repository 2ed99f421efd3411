use Rattle.std.proofs.Common.{◌≤◌, ◌^◌, ◌-◌, ◌≡◌, ◌+◌, drop}
use Rattle.bags.specs.Bag.{total}
use Rattle.sql_meaning.specs.Scripts.{up_to}
use Rattle.query_merging_meaning.specs.Accesses.{star_accesses}
use Rattle.star_merge.proofs.accesses.stars_accesses.Given as goal

abbrev pub invariant-loop-star : goal.invariant-loop-star
invariant-loop-star l = (l.sum ≤ 2 ^ 64 - 1) × (up_to 64 (total (star_accesses l.facts) l.stars) ≡ up_to 64 (l.sum + total (star_accesses l.facts) (drop l.star-index l.stars)))
