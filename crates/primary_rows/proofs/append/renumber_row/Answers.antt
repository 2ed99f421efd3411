use Rattle.std.proofs.Common.{◌≡◌, ◌<◌, ◌∙◌, ap, arith, length, set}
use Rattle.std.proofs.lemmas.List.{length-set}
use Rattle.layout_meaning.specs.Side.{Row}
use Rattle.layout_bulk_meaning.specs.Appended.{lists_in, given_pair, named_by}
use Rattle.layout_bulk_meaning.proofs.Sides.{count-by}
use Rattle.primary_rows.specs.Cells.{pair_of}
use Rattle.primary_rows.proofs.CellSteps.{put_at_set}
use Rattle.primary_rows.proofs.Moved.{place-next}
use Rattle.primary_rows.proofs.append.renumber_row.Goals as goal

pub loop-at-preserved : goal.loop-at-preserved
loop-at-preserved c =
    let row : Row = c.loop-at.row in
    let within : c.loop-at.at < length row = omega arith in
    let put : c.set.new.self ≡ set row c.loop-at.at (pair_of c.in_ok-moved.moved) = c.set.ensures ∙ put_at_set row c.loop-at.at (pair_of c.in_ok-moved.moved) in
    record {
      going = place-next lists_in given_pair (named_by c.args.from.now.lists) c.args.row.now row c.set.new.self c.loop-at.at (pair_of c.pair.result) (pair_of c.in_ok-moved.moved) c.args.to.now c.loop-at.to c.moved_pair.new.to
          (count-by c.args.from.now.lists) c.loop-at.invariant.going within c.pair.ensures.value c.in_ok-moved.ensures.pair c.in_ok-moved.ensures.lists put;
      wide = ap (λ (r : Row). length r) put ∙ length-set row c.loop-at.at (pair_of c.in_ok-moved.moved) ∙ c.loop-at.invariant.wide;
    }
