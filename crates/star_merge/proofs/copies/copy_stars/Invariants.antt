use Rattle.std.proofs.Common.{◌≡◌, take}
use Rattle.star_merge.proofs.copies.copy_stars.Given as goal

abbrev pub invariant-loop-star : goal.invariant-loop-star
invariant-loop-star l = l.copies ≡ take l.star-index l.stars
