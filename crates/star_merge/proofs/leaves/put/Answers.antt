use Rattle.std.proofs.Common.{rules}
use Rattle.star_merge.proofs.Putting.{put_found, put_last}
use Rattle.star_merge.proofs.leaves.put.Goals as goal

pub returns-in_ok-star-in-Some : goal.returns-in_ok-star-in-Some
returns-in_ok-star-in-Some c =
    put_found c.args.spilled.now c.args.merged.now c.set.new.self c.args.new.now c.index-as_slice-at.result c.in_ok-star-in-Some.star c.place_of_one.result c.in-Some.at
    c.set.ensures c.in_ok-star-in-Some.ensures (search rules) (search rules) (search rules)

pub returns-in_ok-push-in-None : goal.returns-in_ok-push-in-None
returns-in_ok-push-in-None c =
    put_last c.args.spilled.now c.args.merged.now c.push.new.self c.args.new.now c.in_ok-star-in-None.star c.place_of_one.result (search rules) (search rules) (search rules) (search rules)
