use Rattle.std.specs.Prelude.{length}
use Rattle.star_merge.proofs.places.+place_of_one.Given as goal

abbrev pub decreases-place_of_one : goal.decreases-place_of_one
decreases-place_of_one l = length l.stars.now
