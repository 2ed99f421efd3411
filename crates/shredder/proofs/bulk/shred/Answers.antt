use Rattle.std.proofs.Common.{◌≡◌, ◌≤◌, ◌∙◌, sym, ap, subst, map, arith, List}
use Rattle.std.specs.List.{AllByRecursion}
use Rattle.bags.specs.Sort.{sort}
use Rattle.layout_meaning.specs.Side.{Item}
use Rattle.layout_bulk_meaning.specs.Bulk.{by_entity}
use Rattle.layout_standing_meaning.specs.Stored.{IsIdIn, text_of_id}
use Rattle.shredder.specs.declared.bulk.Placed.{Placed}
use Rattle.shredder.specs.Items.{item_of}
use Rattle.shredder.proofs.Runs.{sorted-each}
use Rattle.shredder.proofs.Scans.{shred-can, shred-same}
use Rattle.shredder.proofs.bulk.shred.Goals as goal

pub placed_apart-requires-after_bounds : goal.placed_apart-requires-after_bounds
placed_apart-requires-after_bounds g c κs within =
    subst (λ (ps : List Placed). AllByRecursion (λ (x : Item). IsIdIn c.args.iris.now x.pred) (map item_of ps)) (sym c.as_slice.ensures.value)
    (sorted-each c.args.iris.now c.args.placed.now c.in_ok-sorted.sorted.items c.in_ok-sorted.ensures c.requires.preds)

pub all_appended-requires : goal.all_appended-requires
all_appended-requires g c =
    let some : 1 ≤ c.max-pieces.result = omega arith in
    let order : map item_of c.as_slice.result.now ≡ sort by_entity (map item_of c.args.placed.now) = ap (map item_of) c.as_slice.ensures.value ∙ c.in_ok-sorted.ensures in
    shred-can _ (text_of_id c.args.iris.now) c.max-pieces.result (map item_of c.args.placed.now) (map item_of c.as_slice.result.now) c.in_ok-parts.parts.items some order c.in_ok-parts.ensures.len c.in_ok-parts.ensures.each

pub returns : goal.returns
returns g c =
    let some : 1 ≤ c.max-pieces.result = omega arith in
    let order : map item_of c.as_slice.result.now ≡ sort by_entity (map item_of c.args.placed.now) = ap (map item_of) c.as_slice.ensures.value ∙ c.in_ok-sorted.ensures in
    shred-same _ (text_of_id c.args.iris.now) c.max-pieces.result (map item_of c.args.placed.now) (map item_of c.as_slice.result.now) c.in_ok-parts.parts.items some order c.in_ok-parts.ensures.len c.in_ok-parts.ensures.each c.all_appended.result c.all_appended.ensures
