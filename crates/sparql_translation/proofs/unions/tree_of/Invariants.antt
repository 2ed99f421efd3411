use Rattle.std.proofs.Common.{◌≡◌}
use Rattle.sparql_translation.specs.Unions.{tree_of}
use Rattle.sparql_translation.proofs.unions.tree_of.Given as goal

abbrev pub invariant-groups : goal.invariant-groups
invariant-groups l = l.tree ≡ tree_of l.yielded
