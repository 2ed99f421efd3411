use Rattle.std.proofs.Common.{◌≡◌, map}
use Rattle.line_change_meaning.specs.Present.{named, bulk}
use Rattle.layout_placed_meaning.specs.Placed.{later_changes}
use Rattle.run_store.proofs.cut.cut_at_deletion.Given as goal

abbrev pub invariant-changes : goal.invariant-changes
invariant-changes l = (l.cut.bulk.items ≡ map named (bulk l.yielded)) × (l.cut.later.items ≡ later_changes l.yielded)
