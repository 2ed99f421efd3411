use Rattle.std.proofs.Common.{◌≡◌, ◌<◌, [], map, take, drop, All}
use Rattle.pred_columns.specs.declared.columns.ColourPair.{ColourPair}
use Rattle.pred_columns.specs.Refusal.{known_of, fault_from}
use Rattle.pred_columns.proofs.columns.known_columns.Given as goal

abbrev pub invariant-loop-at : goal.invariant-loop-at
invariant-loop-at l = record {
  made : l.known.entries ≡ map known_of (take l.at l.pairs);
  below : All (λ p. p.1 < l.k) l.known.entries;
  rest : fault_from l.k [] l.pairs 0 ≡ fault_from l.k (map (λ (p : ColourPair). p.iri) (take l.at l.pairs)) (drop l.at l.pairs) l.at;
}
