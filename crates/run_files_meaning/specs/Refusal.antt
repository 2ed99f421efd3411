-- The statuses by their sorts.
use Rattle.std.specs.Prelude.{ℕ, List}
use Rattle.run_meaning.specs.declared.status.Status.{Status}
use Rattle.run_meaning.specs.declared.status.Status.TheVariants.{Done, WriteFault, ReadFault, NoMemory}

-- how a run ends: the text was put whole, or a front of it; a read of this name failed; memory ran out; or what was asked for is refused
pub data Ending : Type 0 where
  whole : Ending
  broken : Ending
  unread : List ℕ → Ending
  no_memory : Ending
  refused : Ending

abbrev pub ending_of : Status → Ending
ending_of Done = whole
ending_of WriteFault = broken
ending_of (ReadFault name) = unread name
ending_of NoMemory = no_memory
ending_of _ = refused

abbrev pub RefusedFor : Ending → Type 0 → Type 0
RefusedFor no_memory owed = Unit {0}
RefusedFor refused owed = owed
RefusedFor _ owed = ⊥

-- a refusal of what was read is the one that is owed; want of memory is free, and no other status comes of what was read
abbrev pub RefusedAs : Status → (Status → Type 0) → Type 0
RefusedAs status Owed = RefusedFor (ending_of status) (Owed status)
