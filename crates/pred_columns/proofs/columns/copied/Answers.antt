use Rattle.std.proofs.Common.{◌≡◌, ◌∙◌, sym, ap, Some, slice_get}
use Rattle.std.specs.Option.{option_map}
use Rattle.std.specs.Map.Iter.{deref_pair}
use Rattle.pred_columns.proofs.Known.{fresh_at, copied_more}
use Rattle.pred_columns.proofs.columns.copied.Goals as goal

pub add_new-requires : goal.add_new-requires
add_new-requires c =
    let h : slice_get c.args.known.now.entries c.loop-at.at ≡ Some (c.unwrap.result.0.now, c.unwrap.result.1.now) = sym c.get_index.ensures.entry ∙ ap (option_map deref_pair) c.unwrap.ensures in
    rw c.loop-at.invariant (fresh_at c.args.known.now.entries c.loop-at.at (c.unwrap.result.0.now, c.unwrap.result.1.now) h c.len-at-end.ensures.unique)

pub loop-at-preserved : goal.loop-at-preserved
loop-at-preserved c =
    let h : slice_get c.args.known.now.entries c.loop-at.at ≡ Some (c.unwrap.result.0.now, c.unwrap.result.1.now) = sym c.get_index.ensures.entry ∙ ap (option_map deref_pair) c.unwrap.ensures in
    copied_more c.args.known.now.entries c.loop-at.copy.entries c.add_new.new.known.entries c.loop-at.at (c.unwrap.result.0.now, c.unwrap.result.1.now) h c.loop-at.invariant c.in_ok-add_new.ensures
