-- Which list ids a change of a store uses up.
use Rattle.std.proofs.Common.{arith}
use Rattle.line_change_meaning.specs.declared.change.Change.{Change}
use Rattle.line_change_meaning.specs.declared.change.Change.TheVariants.{Add, Delete}
use Rattle.layout_standing_meaning.specs.Stored.{StoreOf}
use Rattle.layout_store_laws.specs.ListIds.{UseOneAtMost}
use Rattle.layout_store_laws.proofs.ListIds.{stored-one, taken-none}
use Rattle.layout_placed_meaning.specs.Placed.{changed_in}

pub changed-one : (s : StoreOf) (change : Change) → UseOneAtMost s (changed_in s change)
changed-one s (Add t) = stored-one s t
changed-one s (Delete t) =
    let k = taken-none s t in
    let d = k.0 in
    let r = k.1 in
    record { direct_on = omega arith; direct_one = omega arith; reverse_on = omega arith; reverse_one = omega arith }
