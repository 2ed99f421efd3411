use Rattle.std.proofs.Common.{◌≡◌, ◌<◌, ◌∙◌, ap, arith, length, refl}
use Rattle.std.specs.List.{flat_map}
use Rattle.std.proofs.lemmas.List.{length-set}
use Rattle.bags.specs.Bag.{total}
use Rattle.layout_meaning.specs.Side.{Rows}
use Rattle.layout_bulk_meaning.specs.Appended.{lists_in, given_row, named_by}
use Rattle.layout_bulk_meaning.proofs.Sides.{count-row}
use Rattle.primary_rows.proofs.Moved.{place-good, place-next}
use Rattle.primary_rows.proofs.append.moved_rows.Goals as goal

pub renumber_row-requires : goal.renumber_row-requires
renumber_row-requires c =
    let rows : Rows = c.loop-at.rows.items in
    let same : length c.into_rows-rows.result.items ≡ length c.args.rows = ap (λ (rs : Rows). length rs) c.into_rows-rows.ensures.rows in
    let within : c.loop-at.at < length rows = omega arith in
    place-good (total lists_in) given_row (flat_map (named_by c.args.from.now.lists)) c.args.rows rows c.loop-at.at c.index_mut.result.now c.args.to.now c.loop-at.to c.loop-at.invariant.going within c.index_mut.ensures.value

pub loop-at-preserved : goal.loop-at-preserved
loop-at-preserved c =
    let rows : Rows = c.loop-at.rows.items in
    let same : length c.into_rows-rows.result.items ≡ length c.args.rows = ap (λ (rs : Rows). length rs) c.into_rows-rows.ensures.rows in
    let within : c.loop-at.at < length rows = omega arith in
    record {
      going = place-next (total lists_in) given_row (flat_map (named_by c.args.from.now.lists)) c.args.rows rows _ c.loop-at.at c.index_mut.result.now c.renumber_row.new.row c.args.to.now c.loop-at.to c.renumber_row.new.to
          (count-row c.args.from.now.lists) c.loop-at.invariant.going within c.index_mut.ensures.value c.in_ok-renumber_row.ensures.row c.in_ok-renumber_row.ensures.lists refl;
      long = length-set rows c.loop-at.at c.renumber_row.new.row ∙ c.loop-at.invariant.long;
    }
