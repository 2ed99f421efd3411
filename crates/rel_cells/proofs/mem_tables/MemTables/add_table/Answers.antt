use Rattle.std.proofs.Common.{◌≡◌, true}
use Rattle.std.specs.Prelude.{not}
use Rattle.table_meaning.specs.Schemas.{is_schema}
use Rattle.table_meaning.specs.Tables.{are_rows, has_table}
use Rattle.table_meaning.specs.TableLaws.{is_table_set-added}
use Rattle.rel_cells.proofs.mem_tables.MemTables.add_table.Goals as goal

pub invariant_of-self-2 : goal.invariant_of-self-2
invariant_of-self-2 c =
    let fresh : not (has_table c.self.inside.tables.items c.in_ok-name.name) ≡ true = rw (c.self.view_is, c.in_ok-name.ensures) c.requires in
    let schema : is_schema c.args.rows.schema ≡ true = rw (← c.rows.view_is) c.rows.invariant.0 in
    let rows : are_rows c.args.rows.schema c.args.rows.rows ≡ true = rw (← c.rows.view_is) c.rows.invariant.1 in
    is_table_set-added c.self.inside.tables.items c.in_ok-name.name c.args.rows c.push.new.self.items c.in_ok-push.ensures.items c.self.invariant schema rows fresh
