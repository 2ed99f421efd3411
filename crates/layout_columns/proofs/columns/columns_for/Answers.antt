use Rattle.std.proofs.Common.{Bool, map, sym, ap, subst}
use Rattle.std.specs.Prelude.{IfOk}
use Rattle.std.proofs.lemmas.Result.{IfOk-weaker}
use Rattle.layout_meaning.specs.Columns.{ColumnsOf}
use Rattle.layout_standing_meaning.specs.Stored.{text_of_id}
use Rattle.shredder.specs.Items.{item_of}
use Rattle.layout_columns_meaning.specs.BulkColours.{AreColumnsFor}
use Rattle.layout_columns.proofs.columns.columns_for.Goals as goal

pub returns-then-greedy : goal.returns-then-greedy
returns-then-greedy c =
    subst (λ (g : Bool). IfOk c.coloured_columns.result (λ w. AreColumnsFor g c.args.chosen.now (text_of_id c.args.iris.now) (map item_of c.args.placed.now) w)) (sym c.if-greedy.true) c.coloured_columns.ensures

pub returns-else-greedy : goal.returns-else-greedy
returns-else-greedy c =
    IfOk-weaker c.copy.result _ _
    (λ w e. subst (λ (g : Bool). AreColumnsFor g c.args.chosen.now (text_of_id c.args.iris.now) (map item_of c.args.placed.now) w) (sym c.if-greedy.false)
    (record { count = ap (λ (v : ColumnsOf). v.count) e; hashes = ap (λ (v : ColumnsOf). v.hashes) e; known = ap (λ (v : ColumnsOf). v.known) e }))
    c.copy.ensures
