-- Answering a query over the triples that are present.
use Rattle.std.specs.Prelude.{◌≡◌, ℕ, List, [], map, Result, slice_index_or}
use Rattle.rdf_meaning.specs.Terms.{RdfTriple}
use Rattle.line_change_meaning.specs.declared.change.Change.{Change}
use Rattle.line_change_meaning.specs.Present.{present}
use Rattle.query_meaning.specs.declared.query.Query.{Query}
use Rattle.query_eval_meaning.specs.AnswerText.{answer_text}
use Rattle.query_eval_meaning.specs.Eval.{answer_of}
use Rattle.run_meaning.specs.declared.status.Status.{Status}
use Rattle.run_meaning.specs.declared.command.Options.{Options}
use Rattle.run_files_meaning.specs.Files.{QueryFiles, query_read}
use Rattle.run_files_meaning.specs.Job.{Job}
use Rattle.run_query_meaning.specs.QueryFile.{AsksWork}

-- answering the query over what is present after the changes
pub record Answering : Type 0 where
  pub changes : List Change
  pub query : Query

abbrev pub answering : List Change → Query → Answering
answering changes query = record { changes = changes; query = query }

-- what the text of a query file asks for behind the changes
abbrev pub AnswerAsks : List Change → List ℕ → Result Answering Status → Type 0
AnswerAsks changes text = AsksWork changes text (answering changes)

-- the names of the shown variables; the name of variable v is the one at place v
abbrev pub shown_names : Query → List (List ℕ)
shown_names query = map (λ v. slice_index_or query.names v []) query.modifiers.shown

-- the names of the shown variables, and the rows of the ordered answer to the query over the triples
abbrev pub query_text : Query → List RdfTriple → List ℕ
query_text query triples = answer_text (shown_names query) (answer_of query triples)

-- the text of the answer over the triples that are present after the changes
abbrev pub FitsAnswer : Answering → List ℕ → Type 0
FitsAnswer work text = text ≡ query_text work.query (present work.changes)

-- query: the colouring file is judged, and its colours change no answer
abbrev pub query_job : Options → List (List ℕ) → List ℕ → Job
query_job options data_names query_name = record {
  Input = QueryFiles;
  Work = Answering;
  intake = query_read options data_names query_name;
  Asks = λ files. AnswerAsks files.changes files.text;
  Fits = FitsAnswer;
}
