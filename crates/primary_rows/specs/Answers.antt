-- What the calls on a side answer.
use Rattle.std.specs.Prelude.{Bool, true, false}
use Rattle.primary_rows.specs.declared.side.Took.{Took}
use Rattle.primary_rows.specs.declared.side.Took.TheVariants.{Removed, Absent}

-- from whether the item was held
abbrev pub took_of : Bool → Took
took_of true = Removed
took_of false = Absent
