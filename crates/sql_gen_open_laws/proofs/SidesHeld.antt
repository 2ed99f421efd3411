-- The tables of a side among the five.
use Rattle.std.proofs.Common.{List, refl, sym, subst}
use Rattle.std.specs.Prelude.{codes}
use Rattle.table_meaning.specs.Tables.{NamedTable}
use Rattle.sql_rows_meaning.specs.Tables.{relations_of}
use Rattle.layout_standing_meaning.specs.Schemas.{LayoutOf}
use Rattle.layout_standing_meaning.specs.Contents.{Contents}
use Rattle.layout_standing_meaning.specs.Standing.{AreTables}
use Rattle.sql_gen_star_meaning.specs.SideTables.{HoldsSide}

pub held_direct : (layout : LayoutOf) (c : Contents) (tables : List NamedTable) → AreTables layout c tables → HoldsSide layout.direct.count c.direct (relations_of tables (codes "DPH")) (relations_of tables (codes "DS"))
held_direct layout c tables h =
    subst (λ (ts : List NamedTable). HoldsSide layout.direct.count c.direct (relations_of ts (codes "DPH")) (relations_of ts (codes "DS"))) (sym h.five)
    (record { primary_names = refl; primary_rows = h.direct; list_names = refl; list_rows = h.direct_lists })

pub held_reverse : (layout : LayoutOf) (c : Contents) (tables : List NamedTable) → AreTables layout c tables → HoldsSide layout.reverse.count c.reverse (relations_of tables (codes "RPH")) (relations_of tables (codes "RS"))
held_reverse layout c tables h =
    subst (λ (ts : List NamedTable). HoldsSide layout.reverse.count c.reverse (relations_of ts (codes "RPH")) (relations_of ts (codes "RS"))) (sym h.five)
    (record { primary_names = refl; primary_rows = h.reverse; list_names = refl; list_rows = h.reverse_lists })
