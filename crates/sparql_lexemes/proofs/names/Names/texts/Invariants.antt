use Rattle.std.proofs.Common.{◌≡◌, take}
use Rattle.sparql_lexemes.proofs.names.Names.texts.Given as goal

abbrev pub invariant-loop-at : goal.invariant-loop-at
invariant-loop-at l = l.texts ≡ take l.at l.self
