use Rattle.std.proofs.Common.{◌≡◌, [], fold, take}
use Rattle.query_merging_meaning.specs.Merging.{put}
use Rattle.star_merge.proofs.leaves.merged_leaf.Given as goal

abbrev pub invariant-loop-star : goal.invariant-loop-star
invariant-loop-star l = l.merged ≡ fold (put l.spilled) [] (take l.star-index l.stars)
