use Rattle.std.proofs.Common.{◌≡◌, ◌++◌, map, fold, take, drop}
use Rattle.bags.specs.Bag.{SameBag}
use Rattle.line_change_meaning.specs.declared.change.Change.TheVariants.{Add}
use Rattle.line_change_meaning.specs.Present.{present}
use Rattle.layout_standing_meaning.specs.Stored.{IsStore, layout_of, stored_triples}
use Rattle.run_meaning.specs.Limits.{passed_from, passed_limit}
use Rattle.layout_bulk_laws.specs.BulkStore.{terms_of, bulk_items, bulk_store}
use Rattle.layout_placed_meaning.specs.Placed.{changed_in}
use Rattle.layout_columns_meaning.specs.Layouts.{IsLayoutFor}
use Rattle.run_store.proofs.placing.place.Given as goal

abbrev pub invariant-loop-change : goal.invariant-loop-change
invariant-loop-change g l =
    (l.store ≡ fold changed_in (bulk_store (layout_of l.store) l.bulk) (take l.change-index l.later))
    × SameBag (stored_triples l.store) (present (map Add l.bulk ++ take l.change-index l.later))
    × (passed_limit (map Add l.bulk ++ l.later) ≡ passed_from (map Add l.bulk ++ take l.change-index l.later) (drop l.change-index l.later))
    × IsLayoutFor l.choice (terms_of l.bulk) (bulk_items l.bulk) (layout_of l.store)
    × IsStore l.store
