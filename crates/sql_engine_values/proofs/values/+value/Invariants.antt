use Rattle.std.proofs.Common.{◌≡◌, map, drop}
use Rattle.sql_rows_meaning.specs.Values.{and_cells, or_cells, all_cells, any_cells, first_cell}
use Rattle.sql_bind_meaning.specs.Values.{bound_value}
use Rattle.sql_engine_values.specs.Places.{picked}
use Rattle.sql_engine_values.specs.Known.{known, taken}
use Rattle.sql_engine_values.proofs.values.+value.Given as goal

abbrev pub invariant-all_of-loop-part : goal.invariant-all_of-loop-part
invariant-all_of-loop-part g l =
    all_cells (map (λ e. bound_value e (picked l.sources l.rows)) l.parts)
    ≡ and_cells (known l.so_far) (all_cells (map (λ e. bound_value e (picked l.sources l.rows)) (drop l.part-index l.parts)))

abbrev pub invariant-any_of-loop-part : goal.invariant-any_of-loop-part
invariant-any_of-loop-part g l =
    any_cells (map (λ e. bound_value e (picked l.sources l.rows)) l.parts)
    ≡ or_cells (known l.so_far) (any_cells (map (λ e. bound_value e (picked l.sources l.rows)) (drop l.part-index l.parts)))

abbrev pub invariant-case_of-loop-branch : goal.invariant-case_of-loop-branch
invariant-case_of-loop-branch g l = taken (picked l.sources l.rows) l.branches ≡ taken (picked l.sources l.rows) (drop l.branch-index l.branches)

abbrev pub invariant-first_of-loop-part : goal.invariant-first_of-loop-part
invariant-first_of-loop-part g l =
    first_cell (map (λ e. bound_value e (picked l.sources l.rows)) l.parts)
    ≡ first_cell (map (λ e. bound_value e (picked l.sources l.rows)) (drop l.part-index l.parts))
