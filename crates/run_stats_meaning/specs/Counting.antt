-- Counting the tables of changes.
use Rattle.std.specs.Prelude.{◌≡◌, ℕ, List}
use Rattle.line_change_meaning.specs.declared.change.Change.{Change}
use Rattle.colouring_file_meaning.specs.ColourLines.{ColourOf}
use Rattle.run_meaning.specs.declared.command.Options.{Options}
use Rattle.layout_placed_meaning.specs.Chosen.{IsCounted}
use Rattle.run_files_meaning.specs.Intake.{Intake, gives, behind}
use Rattle.run_files_meaning.specs.Files.{colours_read, data_read, judged_work}
use Rattle.run_files_meaning.specs.Job.{Job}

-- counting the tables of the changes, under the layout that the options ask for with the colours of their colouring file
pub record Counting : Type 0 where
  pub colours : List ColourOf
  pub changes : List Change

abbrev pub counting : List ColourOf → List Change → Counting
counting colours changes = record { colours = colours; changes = changes }

abbrev pub counted_read : Options → List (List ℕ) → Intake Counting
counted_read options data_names = behind (colours_read options) (λ colours. behind (data_read data_names) (λ changes. gives (counting colours changes)))

-- stats: at most the limits on triples and terms stand between the files and their text
abbrev pub stats_job : Options → List (List ℕ) → Job
stats_job options data_names = record {
  Input = Counting;
  Work = Counting;
  intake = counted_read options data_names;
  Asks = λ input o. o ≡ judged_work input.changes input;
  Fits = λ work text. IsCounted options work.colours work.changes text;
}
