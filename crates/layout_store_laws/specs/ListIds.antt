-- The list ids that a change uses up (this project's own).
use Rattle.std.specs.Prelude.{◌+◌, ◌≤◌}
use Rattle.layout_standing_meaning.specs.Stored.{StoreOf}

-- at most one list id of each side is used up from one store to the next
pub record UseOneAtMost (old new : StoreOf) : Type 0 where
  pub direct_on : old.direct.state.next ≤ new.direct.state.next
  pub direct_one : new.direct.state.next ≤ old.direct.state.next + 1
  pub reverse_on : old.reverse.state.next ≤ new.reverse.state.next
  pub reverse_one : new.reverse.state.next ≤ old.reverse.state.next + 1
