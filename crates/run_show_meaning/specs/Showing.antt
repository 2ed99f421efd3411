-- Showing the tables of changes and the script of a query.
use Rattle.std.specs.Prelude.{◌≡◌, ℕ, List, [], ◌∷◌, ◌++◌, Result}
use Rattle.line_change_meaning.specs.declared.change.Change.{Change}
use Rattle.line_change_meaning.specs.Present.{present}
use Rattle.colouring_file_meaning.specs.ColourLines.{ColourOf}
use Rattle.table_meaning.specs.CellText.{ended}
use Rattle.table_text_meaning.specs.TableText.{sql_line, table_text}
use Rattle.layout_standing_meaning.specs.Schemas.{LayoutOf}
use Rattle.layout_standing_meaning.specs.Standing.{StandsFor}
use Rattle.layout_placed_meaning.specs.Placed.{placed_tables}
use Rattle.layout_placed_meaning.specs.Chosen.{IsLayoutOf}
use Rattle.query_meaning.specs.declared.query.Query.{Query}
use Rattle.sql_meaning.specs.declared.script.Script.{Script}
use Rattle.sql_meaning.specs.Canon.{canon}
use Rattle.run_meaning.specs.declared.status.Status.{Status}
use Rattle.run_meaning.specs.declared.command.Options.{Options}
use Rattle.run_files_meaning.specs.Files.{QueryFiles, query_read}
use Rattle.run_files_meaning.specs.Job.{Job}
use Rattle.run_query_meaning.specs.QueryFile.{AsksWork}
use Rattle.run_show_meaning.specs.Scripts.{IsScriptFor}

-- showing the tables of the changes, under the layout that the options ask for with the colours of their colouring file, and the
-- script of the query
pub record Showing : Type 0 where
  pub colours : List ColourOf
  pub changes : List Change
  pub query : Query

abbrev pub showing : List ColourOf → List Change → Query → Showing
showing colours changes query = record { colours = colours; changes = changes; query = query }

-- what the text of a query file asks for behind the changes
abbrev pub ShowAsks : List ColourOf → List Change → List ℕ → Result Showing Status → Type 0
ShowAsks colours changes text = AsksWork changes text (showing colours changes)

-- The text is that of tables under the layout, which stand for the triples that are present, the line that ends tables, and the one
-- spelling of a script for the query, with a line feed behind it.
pub record IsShown (options : Options) (work : Showing) (text : List ℕ) : Type 0 where
  pub layout : LayoutOf
  pub chosen : IsLayoutOf options work.colours work.changes layout
  pub stands : StandsFor layout (placed_tables layout work.changes) (present work.changes)
  pub script : Script
  pub is_script : IsScriptFor layout (placed_tables layout work.changes) (present work.changes) work.query script
  pub written : text ≡ table_text (placed_tables layout work.changes) ++ (ended sql_line ++ (canon script ++ 10 ∷ []))

-- show: the colouring file, the data files, and the query file
abbrev pub show_job : Options → List (List ℕ) → List ℕ → Job
show_job options data_names query_name = record {
  Input = QueryFiles;
  Work = Showing;
  intake = query_read options data_names query_name;
  Asks = λ files. ShowAsks files.colours files.changes files.text;
  Fits = IsShown options;
}
