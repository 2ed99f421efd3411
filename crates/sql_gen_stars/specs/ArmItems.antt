-- The columns of the cells of arms, arm after arm (this project's own).
use Rattle.std.specs.Prelude.{ℕ, suc, List, [], ◌∷◌}
use Rattle.sql_meaning.specs.declared.script.Item.{Item}
use Rattle.sql_gen_star_meaning.specs.declared.arm.StarArm.{StarArm}
use Rattle.sql_gen_star_meaning.specs.Partials.{cell_name}
use Rattle.sql_gen_star_meaning.specs.StarSelects.{found_sql}

-- the arms are numbered from i on
abbrev pub arm_items : ℕ → List StarArm → List Item
arm_items i [] = []
arm_items i (a ∷ arms) = record { expr = found_sql a.pred a.columns; name = cell_name i } ∷ arm_items (suc i) arms
