use Rattle.std.specs.Prelude.{length}
use Rattle.star_merge.proofs.places.+place_that_takes.Given as goal

abbrev pub decreases-place_that_takes : goal.decreases-place_that_takes
decreases-place_that_takes l = length l.stars.now
