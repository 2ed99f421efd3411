use Rattle.std.proofs.Common.{◌≡◌, ◌+◌, arith}
use Rattle.primary_rows.proofs.Moved.{counted-both}
use Rattle.primary_rows.proofs.table.Table.append.Goals as goal

pub invariant_of-result : goal.invariant_of-result
invariant_of-result c =
    let rows : c.in-Some.rows ≡ c.self.inside.rows + c.later.inside.rows = omega arith in
    rw (c.in_ok-move_entities.ensures.entities, rows)
    (counted-both c.self.inside.entities.entries c.later.inside.entities.entries c.args.to.now.next c.self.inside.rows c.later.inside.rows c.self.inside.spilled c.later.inside.spilled c.add.new.self c.self.invariant c.later.invariant
    c.in_ok-add.ensures)
