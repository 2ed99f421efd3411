-- Variables that there are: numbered below the width of mappings.
use Rattle.std.specs.Prelude.{Bool, true, ◌&&◌, nat_lt}
use Rattle.query_meaning.specs.declared.pattern.Slot.{Slot}
use Rattle.query_meaning.specs.declared.pattern.Slot.TheVariants.{Var, Const}
use Rattle.query_meaning.specs.declared.pattern.Pattern.{Pattern}
use Rattle.query_eval_meaning.specs.Mapping.{width}

abbrev pub slot_in_width : Slot → Bool
slot_in_width (Var v) = nat_lt v width
slot_in_width (Const t) = true

abbrev pub pattern_in_width : Pattern → Bool
pattern_in_width p = slot_in_width p.s && (slot_in_width p.p && slot_in_width p.o)
