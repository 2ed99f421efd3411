use Rattle.std.proofs.Common.{◌+◌, ◌*◌, length}
use Rattle.sparql_values.proofs.values.+values.Given as goal

abbrev pub decreases-read_bracketed : goal.decreases-read_bracketed
decreases-read_bracketed l = 4 * length l.tokens.now

abbrev pub decreases-read_function : goal.decreases-read_function
decreases-read_function l = 4 * length l.tokens.now + 1

abbrev pub decreases-read_plain_value : goal.decreases-read_plain_value
decreases-read_plain_value l = 4 * length l.tokens.now + 2

abbrev pub decreases-read_value : goal.decreases-read_value
decreases-read_value l = 4 * length l.tokens.now + 3
