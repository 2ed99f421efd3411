-- What a script for a query comes to over the tables of the store that it was made for.
use Rattle.std.proofs.Common.{◌≡◌, ℕ, List, [], ◌++◌, length, true, Some, Ok, sym, ap, ◌∙◌}
use Rattle.std.specs.Prelude.{Option, is_some, slice_index_or}
use Rattle.std.proofs.lemmas.List.{length-map}
use Rattle.table_meaning.specs.Tables.{NamedTable}
use Rattle.table_meaning.specs.declared.schema.Column.{Column}
use Rattle.layout_standing_meaning.specs.Stored.{StoreOf, layout_of, tables_of, stored_triples}
use Rattle.query_meaning.specs.declared.query.Query.{Query}
use Rattle.query_eval_meaning.specs.Answer.{Row}
use Rattle.query_eval_meaning.specs.AnswerText.{answer_text}
use Rattle.query_eval_meaning.specs.Eval.{answer_of}
use Rattle.sql_meaning.specs.declared.script.Script.{Script}
use Rattle.sql_rows_meaning.specs.declared.fault.Fault.{Fault}
use Rattle.sql_rows_meaning.specs.Faults.{Checked}
use Rattle.sql_rows_meaning.specs.Binding.{check_script}
use Rattle.sql_rows_meaning.specs.Rows.{script_rows}
use Rattle.sql_rows_meaning.specs.Scopes.{schemas_in}
use Rattle.sql_gen_answer_meaning.specs.Columns.{answer_columns}
use Rattle.sql_gen_answer_meaning.specs.Decode.{decode}
use Rattle.run_query_meaning.specs.Answering.{query_text, shown_names}
use Rattle.run_show_meaning.specs.Scripts.{IsScriptFor}

abbrev checked : List Column → Checked Fault (List Column)
checked columns = Ok columns

module _ (s : StoreOf) (tables : List NamedTable) (same : tables ≡ tables_of s) (q : Query) (script : Script) (is : IsScriptFor (layout_of s) (tables_of s) (stored_triples s) q script) where
  -- it binds to the columns of as many variables as names are shown
  pub binds_to_names : (names : List (List ℕ)) (count : ℕ) → names ≡ shown_names q → count ≡ length names → check_script script (schemas_in tables) ≡ Ok (answer_columns count)
  binds_to_names names count e n =
      let shown : length q.modifiers.shown ≡ count = sym (n ∙ ap length e ∙ length-map q.modifiers.shown (λ v. slice_index_or q.names v [])) in
      ap (λ (ts : List NamedTable). check_script script (schemas_in ts)) same ∙ is.binds ∙ ap (λ (m : ℕ). checked (answer_columns m)) shown

  -- its rows are read as the answer
  rows_read : decode (script_rows script tables) ≡ Some (answer_of q (stored_triples s))
  rows_read = ap (λ (ts : List NamedTable). decode (script_rows script ts)) same ∙ is.right (tables_of s) (stored_triples s) is.told

  pub rows_decode : is_some (decode (script_rows script tables)) ≡ true
  rows_decode = ap is_some rows_read

  abbrev some : List Row → Option (List Row)
  some rows = Some rows

  same-rows : (rows others : List Row) → some rows ≡ some others → rows ≡ others
  same-rows rows others e = cc

  -- and the text of the names and of what is read is the answer's text
  pub text_of_rows : (names : List (List ℕ)) (rows : List Row) (before text : List ℕ) → before ≡ [] → names ≡ shown_names q → decode (script_rows script tables) ≡ Some rows → text ≡ before ++ answer_text names rows → text ≡ query_text q (stored_triples s)
  text_of_rows names rows before text none e d w =
      w ∙ ap (λ (b : List ℕ). b ++ answer_text names rows) none ∙ ap (λ (ns : List (List ℕ)). answer_text ns rows) e ∙ ap (λ (rs : List Row). answer_text (shown_names q) rs) (same-rows rows (answer_of q (stored_triples s)) (sym d ∙ rows_read))
