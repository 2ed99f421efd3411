use Rattle.std.proofs.Common.{◌≡◌, IsSome, OnOk, subst, rules}
use Rattle.std.specs.Ordering.{nat_cmp}
use Rattle.std.specs.BTreeMap.{get}
use Rattle.layout_meaning.specs.Side.{Pair, Rows, Entities, place_new, rows_of}
use Rattle.layout_meaning.proofs.RowsKept.{some-place_new}
use Rattle.primary_rows.proofs.RowSteps.{with_rows_set}
use Rattle.primary_rows.proofs.table.put.Goals as goal

pub returns-then-there-clause-ok : goal.returns-then-there-clause-ok
returns-then-there-clause-ok c =
    let there : IsSome (get nat_cmp c.args.entities.now c.args.entity) = search rules in
    let pair : Pair = record { pred = c.args.pred; value = c.args.value } in
    let rows : Rows = rows_of c.args.entities.now.entries c.args.entity in
    let e = with_rows_set c.args.entities.now.entries c.args.entity (place_new c.args.width c.args.columns.now pair rows) there (some-place_new c.args.width c.args.columns.now pair rows) in
    subst (λ (es : Entities). OnOk c.put_into.result (c.put_into.new.entities.entries ≡ es)) e c.put_into.ensures.ok
