use Rattle.std.proofs.Common.{rules, arith, sym, ◌∙◌}
use Rattle.star_merge.proofs.Putting.{one_item, one_takes}
use Rattle.star_merge.proofs.leaves.merged_optional.Goals as goal

pub returns-in_ok-merged-in-len1 : goal.returns-in_ok-merged-in-len1
returns-in_ok-merged-in-len1 c =
    sym (one_takes c.args.spilled.now c.args.stars.now c.args.part.now c.set.new.self c.in-Some.lone.now c.index-stars-at.result c.in_ok-star-in-len1.star c.arm-item.result c.place_that_takes.result c.in-Some-place_that_takes.at
    (search rules) (search rules) (search rules) (search rules)
    (sym c.required_of.ensures ∙ one_item c.required_of.result.now c.arm-item.result (omega (arith, c.in-len1.len_at_least)) (omega (arith, c.in-len1.len_below)) c.arm-item.is)
    (search rules) (search rules) (search rules))
