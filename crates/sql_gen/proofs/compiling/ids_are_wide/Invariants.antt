use Rattle.std.proofs.Common.{◌≡◌, true, pos, take}
use Rattle.std.specs.List.{list_all}
use Rattle.layout_meaning.specs.Facts.{IdOf}
use Rattle.table_meaning.specs.Ints.{is_wide_int}
use Rattle.sql_gen.proofs.compiling.ids_are_wide.Given as goal

abbrev pub invariant-loop-pair : goal.invariant-loop-pair
invariant-loop-pair l = list_all (λ (i : IdOf). is_wide_int (pos i.id)) (take l.pair-index l.ids) ≡ true
