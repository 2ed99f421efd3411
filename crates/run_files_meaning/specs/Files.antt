-- The files that commands name, in the order in which they are read: a colouring file, data files, and a query file.
use Rattle.std.specs.Prelude.{ℕ, ◌+◌, ◌-◌, List, [], ◌∷◌, ◌++◌, length, Option, Some, None, Result, Ok, Err, nat_lt, if◌then◌else◌}
use Rattle.line_change_meaning.specs.declared.change.Change.{Change}
use Rattle.line_meaning.specs.Changes.{Refused, TooLong, Bad, changes_of}
use Rattle.colouring_file_meaning.specs.ColourLines.{ColourOf}
use Rattle.colouring_file_meaning.specs.ColourReader.{colours_of}
use Rattle.run_meaning.specs.declared.status.Status.{Status}
use Rattle.run_meaning.specs.declared.status.Status.TheVariants.{BadData, Limit, BadColouring}
use Rattle.run_meaning.specs.declared.which.Which.{Which}
use Rattle.run_meaning.specs.declared.which.Which.TheVariants as which
use Rattle.run_meaning.specs.declared.command.Options.{Options}
use Rattle.run_meaning.specs.declared.command.Layout.{Layout}
use Rattle.run_meaning.specs.declared.command.Layout.TheVariants.{Colour, Hash, File}
use Rattle.run_meaning.specs.Limits.{most_file, most_query, passed_limit}
use Rattle.run_files_meaning.specs.Intake.{Intake, gives, refuses, reads, settled, behind}

-- the text of a file, which has at most this many bytes: its length goes before its content
abbrev pub text_read : ℕ → Which → List ℕ → Intake (List ℕ)
text_read most which name = reads name (λ text. if nat_lt most (length text) then refuses (Limit which) else gives text)

-- ---- the colouring file

abbrev pub colours_or_status : Result (List ColourOf) Refused → Result (List ColourOf) Status
colours_or_status (Ok colours) = Ok colours
colours_or_status (Err (TooLong line)) = Err (Limit which.Line)
colours_or_status (Err (Bad line)) = Err (BadColouring line)

-- the colours of a text, for sides with these counts of columns
abbrev pub judged_colours : ℕ → ℕ → List ℕ → Result (List ColourOf) Status
judged_colours direct reverse text = colours_or_status (colours_of direct reverse text)

abbrev pub colours_by : ℕ → ℕ → Layout → Intake (List ColourOf)
colours_by direct reverse Colour = gives []
colours_by direct reverse Hash = gives []
colours_by direct reverse (File name) = behind (text_read most_file which.File name) (λ text. settled (judged_colours direct reverse text))

-- the colours of the colouring file that options name, or none
abbrev pub colours_read : Options → Intake (List ColourOf)
colours_read options = colours_by options.columns options.reverse options.layout

-- ---- data files

abbrev pub changes_or_status : ℕ → Result (List Change) Refused → Result (List Change) Status
changes_or_status file (Ok changes) = Ok changes
changes_or_status file (Err (TooLong line)) = Err (Limit which.Line)
changes_or_status file (Err (Bad line)) = Err (BadData file line)

-- the changes of the text of the data file of this number
abbrev pub judged_data : ℕ → List ℕ → Result (List Change) Status
judged_data file text = changes_or_status file (changes_of file text)

-- the data files of these names, numbered from `file` on, behind others that gave these changes and left this many bytes of the limit
abbrev pub data_behind : (file left : ℕ) → List Change → List (List ℕ) → Intake (List Change)
data_behind file left changes [] = gives changes
data_behind file left changes (name ∷ names) =
    behind (text_read left which.File name) (λ text. behind (settled (judged_data file text)) (λ more. data_behind (file + 1) (left - length text) (changes ++ more) names))

-- the changes of data files, appended in the order of the files, which are numbered from 0; the limit holds for their bytes together
abbrev pub data_read : List (List ℕ) → Intake (List Change)
data_read names = data_behind 0 most_file [] names

-- ---- a query file behind them

pub record QueryFiles : Type 0 where
  pub colours : List ColourOf
  pub changes : List Change
  pub text : List ℕ

abbrev pub query_files : List ColourOf → List Change → List ℕ → QueryFiles
query_files colours changes text = record { colours = colours; changes = changes; text = text }

abbrev pub query_read : Options → List (List ℕ) → List ℕ → Intake QueryFiles
query_read options data_names query_name =
    behind (colours_read options) (λ colours. behind (data_read data_names) (λ changes. behind (text_read most_query which.Query query_name) (λ text. gives (query_files colours changes text))))

-- ---- the limits on triples and terms

abbrev pub unless_passed : {W : Type 0} → W → Option Which → Result W Status
unless_passed work None = Ok work
unless_passed work (Some which) = Err (Limit which)

-- work over what is present after the changes, within the limits on triples and terms
abbrev pub judged_work : {W : Type 0} → List Change → W → Result W Status
judged_work changes work = unless_passed work (passed_limit changes)
