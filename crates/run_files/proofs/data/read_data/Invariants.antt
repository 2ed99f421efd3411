use Rattle.std.proofs.Common.{◌≡◌, ◌≤◌, ◌+◌, List, ℕ, length, drop}
use Rattle.run_meaning.specs.Limits.{most_file}
use Rattle.run_files_meaning.specs.Intake.{Leads}
use Rattle.run_files_meaning.specs.Files.{data_behind, data_read}
use Rattle.run_files.proofs.data.read_data.Given as goal

abbrev pub invariant-files : goal.invariant-files
invariant-files g l =
    Leads (g.F.Shelf.content l.fn.shelf) (data_read l.names) (data_behind l.file l.left l.changes.items (drop l.name-index l.names))
    × (l.file ≡ l.name-index) × (length l.changes.items + l.left ≤ most_file + l.name-index)
    × ((other : List ℕ) → g.F.Shelf.content l.shelf other ≡ g.F.Shelf.content l.fn.shelf other)
    × ((other : List ℕ) → g.F.Shelf.faults l.fn.shelf other ≤ g.F.Shelf.faults l.shelf other)
