use Rattle.std.proofs.Common.{◌<◌, ◌∙◌, map, length, ap, arith}
use Rattle.pred_columns.specs.Refusal.{known_of}
use Rattle.layout_columns.proofs.Colours.{at-id, pairs-more}
use Rattle.layout_columns.proofs.pairs.pairs_of.Goals as goal

pub pair-requires-clause-low : goal.pair-requires-clause-low
pair-requires-clause-low c = let within : c.loop-at.at < length c.args.colours.now = omega arith in (at-id c.args.iris.now c.args.colours.now c.loop-at.at _ within c.requires).0

pub pair-requires-clause-high : goal.pair-requires-clause-high
pair-requires-clause-high c = let within : c.loop-at.at < length c.args.colours.now = omega arith in (at-id c.args.iris.now c.args.colours.now c.loop-at.at _ within c.requires).1

pub loop-at-preserved : goal.loop-at-preserved
loop-at-preserved c =
    let within : c.loop-at.at < length c.args.colours.now = omega arith in
    ap (map known_of) c.in_ok-push.ensures.items ∙ pairs-more c.args.iris.now c.args.colours.now c.loop-at.at _ c.loop-at.pairs.items c.in_ok-both.both within c.loop-at.invariant c.in_ok-both.ensures
