use Rattle.std.proofs.Common.{map}
use Rattle.std.proofs.lemmas.Result.{err_from_is_err_and}
use Rattle.line_change_meaning.specs.declared.change.Change.TheVariants.{Add}
use Rattle.layout_standing_meaning.specs.Schemas.{LayoutOf}
use Rattle.layout_standing_meaning.specs.Stored.{layout_of}
use Rattle.layout_bulk_laws.specs.BulkStore.{terms_of, bulk_items}
use Rattle.layout_columns_meaning.specs.Layouts.{IsLayoutFor}
use Rattle.run_store.proofs.Making.{refused-front, begins, limits-begin, ids-left, placed-next, layout-next, holds-on, limits-on, refused-on}
use Rattle.run_store.proofs.placing.place.Goals as goal

pub returns-in_err-store-clause-passed : goal.returns-in_err-store-clause-passed
returns-in_err-store-clause-passed g c =
    let p = err_from_is_err_and c.from_residual.result c.from_residual.ensures.1 in
    rw (p.1, p.2) (refused-front c.in_err-store.field-0.0 (map Add c.args.bulk.now) c.args.later.now c.in_err-store.ensures.passed)

pub loop-change-init : goal.loop-change-init
loop-change-init g c = (
  c.in_ok-store.ensures.placed,
  begins c.in_ok-store.store (map Add c.args.bulk.now) c.args.later.now c.in_ok-store.ensures.triples,
  limits-begin (map Add c.args.bulk.now) c.args.later.now c.in_ok-store.ensures.within,
  c.in_ok-store.ensures.layout,
  c.in_ok-store.ensures.store,
)

pub make-requires : goal.make-requires
make-requires g c = ids-left (layout_of c.loop-change.store) c.args.bulk.now c.args.later.now c.loop-change.change-index c.loop-change.store c.loop-change.invariant.0 c.requires c.loop-change-test.true

pub loop-change-preserved : goal.loop-change-preserved
loop-change-preserved g c = (
  placed-next c.args.bulk.now c.loop-change.store c.make.new.store c.args.later.now c.loop-change.change-index c.change-item.result c.loop-change-test.true c.change-item.is c.loop-change.invariant.0 c.in_ok-make.ensures.changed,
  holds-on c.loop-change.store c.make.new.store (map Add c.args.bulk.now) c.args.later.now c.loop-change.change-index c.change-item.result c.loop-change-test.true c.change-item.is c.loop-change.invariant.1 c.in_ok-make.ensures.holds,
  limits-on (layout_of c.loop-change.store) c.args.bulk.now c.args.later.now c.loop-change.change-index c.change-item.result c.loop-change.store c.loop-change-test.true c.change-item.is c.loop-change.invariant.0 c.loop-change.invariant.1 c.in_ok-make.ensures.within c.loop-change.invariant.2,
  layout-next (λ (k : LayoutOf). IsLayoutFor c.args.choice.now (terms_of c.args.bulk.now) (bulk_items c.args.bulk.now) k) c.loop-change.store c.make.new.store c.change-item.result c.in_ok-make.ensures.changed c.loop-change.invariant.3,
  c.in_ok-make.ensures.store,
)

pub returns-in_err-make-clause-passed : goal.returns-in_err-make-clause-passed
returns-in_err-make-clause-passed g c =
    let p = err_from_is_err_and c.from_residual-in_err-make.result c.from_residual-in_err-make.ensures.1 in
    rw (p.1, p.2) (refused-on (layout_of c.loop-change.store) c.args.bulk.now c.args.later.now c.loop-change.change-index c.change-item.result c.loop-change.store c.in_err-make.field-0.0 c.loop-change-test.true c.change-item.is c.loop-change.invariant.0 c.loop-change.invariant.1 c.in_err-make.ensures.passed c.loop-change.invariant.2)
