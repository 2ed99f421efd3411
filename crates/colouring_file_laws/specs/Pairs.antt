-- Pairs of an IRI and its column.
use Rattle.std.specs.Prelude.{Bool}
use Rattle.pred_columns.specs.declared.columns.ColourPair.{ColourPair}
use Rattle.pred_columns.specs.Refusal.{same_text}

abbrev pub same_iri : ColourPair → ColourPair → Bool
same_iri p q = same_text p.iri q.iri
