-- The script of a query (this project's own).
use Rattle.std.specs.Prelude.{◌≡◌, true, List, [], Some, Ok, length}
use Rattle.rdf_meaning.specs.Terms.{RdfTriple}
use Rattle.table_meaning.specs.Tables.{NamedTable}
use Rattle.layout_meaning.specs.Facts.{FactsOf, IdOf}
use Rattle.layout_standing_meaning.specs.Schemas.{LayoutOf}
use Rattle.layout_facts_meaning.specs.Facts.{HaveFacts, terms_named}
use Rattle.query_meaning.specs.declared.query.Query.{Query}
use Rattle.query_eval_meaning.specs.Eval.{answer_of}
use Rattle.sparql_meaning.specs.Constants.{kept_once, tree_constants}
use Rattle.sql_meaning.specs.declared.script.Script.{Script}
use Rattle.sql_meaning.specs.Scripts.{is_writable}
use Rattle.sql_rows_meaning.specs.Binding.{check_script}
use Rattle.sql_rows_meaning.specs.Scopes.{schemas_in}
use Rattle.sql_rows_meaning.specs.Rows.{script_rows}
use Rattle.sql_gen_answer_meaning.specs.Columns.{answer_columns}
use Rattle.sql_gen_answer_meaning.specs.Decode.{decode}

-- The script has a text, and binds over the tables to the columns of an answer. Over these tables, and over all others under the
-- layout that stand for whichever triples and have the same ids and the same facts of the constants of the query's patterns, its
-- rows are read as the answer to the query over the triples.
pub record IsScriptFor (layout : LayoutOf) (tables : List NamedTable) (triples : List RdfTriple) (query : Query) (script : Script) : Type 0 where
  pub ids : List IdOf
  pub facts : FactsOf
  pub constants : terms_named ids ≡ kept_once [] (tree_constants query.tree)
  pub told : HaveFacts layout tables triples ids facts
  pub writable : is_writable script ≡ true
  pub binds : check_script script (schemas_in tables) ≡ Ok (answer_columns (length query.modifiers.shown))
  pub right : (others : List NamedTable) (g : List RdfTriple) → HaveFacts layout others g ids facts → decode (script_rows script others) ≡ Some (answer_of query g)
