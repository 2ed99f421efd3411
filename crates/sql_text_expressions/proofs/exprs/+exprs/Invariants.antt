use Rattle.std.proofs.Common.{◌+◌, ◌*◌, ◌<◌, length}
use Rattle.sql_text_expressions.specs.Lists.{MoreLoop, BranchLoop}
use Rattle.sql_text_expressions.proofs.exprs.+exprs.Given as goal

abbrev pub decreases-read_expr : goal.decreases-read_expr
decreases-read_expr l = 8 * length l.tokens.now + 2

abbrev pub decreases-read_brackets : goal.decreases-read_brackets
decreases-read_brackets l = 8 * length l.tokens.now + 1

abbrev pub decreases-read_inner : goal.decreases-read_inner
decreases-read_inner l = 8 * length l.tokens.now + 3

abbrev pub decreases-read_tail : goal.decreases-read_tail
decreases-read_tail l = 8 * length l.tokens.now + 4

abbrev pub decreases-read_pair : goal.decreases-read_pair
decreases-read_pair l = 8 * length l.tokens.now + 3

abbrev pub decreases-read_boxed : goal.decreases-read_boxed
decreases-read_boxed l = 8 * length l.tokens.now + 3

abbrev pub decreases-read_more : goal.decreases-read_more
decreases-read_more l = 8 * length l.tokens.now + 3

abbrev pub decreases-read_branch : goal.decreases-read_branch
decreases-read_branch l = 8 * length l.tokens.now

abbrev pub decreases-read_branches : goal.decreases-read_branches
decreases-read_branches l = 8 * length l.tokens.now + 1

abbrev pub decreases-read_tests : goal.decreases-read_tests
decreases-read_tests l = 8 * length l.tokens.now

abbrev pub decreases-read_cases : goal.decreases-read_cases
decreases-read_cases l = 8 * length l.tokens.now + 1

abbrev pub decreases-read_first : goal.decreases-read_first
decreases-read_first l = 8 * length l.tokens.now

abbrev pub decreases-read_firsts : goal.decreases-read_firsts
decreases-read_firsts l = 8 * length l.tokens.now + 1

abbrev pub invariant-read_more-loop-after : goal.invariant-read_more-loop-after
invariant-read_more-loop-after l = MoreLoop l.fn.separator l.fn.level l.fn.first l.fn.tokens l.parts l.rest × (length l.rest < length l.fn.tokens)

abbrev pub decreases-read_more-loop-after : goal.decreases-read_more-loop-after
decreases-read_more-loop-after l = length l.rest

abbrev pub invariant-read_branches-branches : goal.invariant-read_branches-branches
invariant-read_branches-branches l = BranchLoop l.fn.level l.fn.tokens l.branches l.rest × (length l.rest < length l.fn.tokens)

abbrev pub decreases-read_branches-branches : goal.decreases-read_branches-branches
decreases-read_branches-branches l = length l.rest
