-- The ranges of a command's options.
use Rattle.std.specs.Prelude.{ℕ, ◌≤◌}
use Rattle.run_meaning.specs.Limits.{most_columns, most_hashes, most_pieces}
use Rattle.run_meaning.specs.declared.command.Options.{Options}
use Rattle.run_meaning.specs.declared.command.Command.{Command}
use Rattle.run_meaning.specs.declared.command.Command.TheVariants.{Query, Show, Plan, Stats, Exec, Drill}

abbrev pub IsWithin : ℕ → ℕ → ℕ → Type 0
IsWithin low high n = (low ≤ n) × (n ≤ high)

-- 1 to 32 columns on each side, 1 to 4 hashes, 1 to 64 pieces
pub record AreInRange (options : Options) : Type 0 where
  pub columns : IsWithin 1 most_columns options.columns
  pub reverse : IsWithin 1 most_columns options.reverse
  pub hashes : IsWithin 1 most_hashes options.hashes
  pub pieces : IsWithin 1 most_pieces options.pieces

-- the options of a command are in range; exec has pieces alone
abbrev pub IsInRange : Command → Type 0
IsInRange (Query options data_files query_name) = AreInRange options
IsInRange (Show options data_files query_name) = AreInRange options
IsInRange (Plan options data_files query_name) = AreInRange options
IsInRange (Stats options data_files) = AreInRange options
IsInRange (Exec pieces file_name) = IsWithin 1 most_pieces pieces
IsInRange (Drill options count seed) = AreInRange options
