use Rattle.std.proofs.Common.{◌+◌, ◌*◌, ◌<◌, length}
use Rattle.sparql_groups.specs.GroupSteps.{GroupAlong}
use Rattle.sparql_groups.specs.UnionSteps.{UnionsAlong}
use Rattle.sparql_groups.proofs.groups.+groups.Given as goal

abbrev pub decreases-read_group : goal.decreases-read_group
decreases-read_group l = 4 * length l.tokens.now

abbrev pub decreases-read_unions : goal.decreases-read_unions
decreases-read_unions l = 4 * length l.tokens.now + 1

abbrev pub decreases-read_other : goal.decreases-read_other
decreases-read_other l = 4 * length l.tokens.now + 2

abbrev pub decreases-read_part : goal.decreases-read_part
decreases-read_part l = 4 * length l.tokens.now + 3

abbrev pub invariant-read_unions-loop-after : goal.invariant-read_unions-loop-after
invariant-read_unions-loop-after l = UnionsAlong l.fn.tokens l.groups l.rest × (length l.rest < length l.fn.tokens)

abbrev pub decreases-read_unions-loop-after : goal.decreases-read_unions-loop-after
decreases-read_unions-loop-after l = length l.rest

abbrev pub invariant-read_group-parts : goal.invariant-read_group-parts
invariant-read_group-parts l = GroupAlong l.fn.tokens l.elements l.rest × (length l.rest < length l.fn.tokens)

abbrev pub decreases-read_group-parts : goal.decreases-read_group-parts
decreases-read_group-parts l = length l.rest
