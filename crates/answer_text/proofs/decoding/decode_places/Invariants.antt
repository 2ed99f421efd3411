use Rattle.std.proofs.Common.{length}
use Rattle.answer_text.proofs.Places.{PlacesLeft}
use Rattle.answer_text.proofs.decoding.decode_places.Given as goal

abbrev pub invariant-places : goal.invariant-places
invariant-places l = PlacesLeft l.cells l.places.items l.rest

abbrev pub decreases-places : goal.decreases-places
decreases-places l = length l.rest
