-- The script of a planned query is one for the query.
use Rattle.std.proofs.Common.{◌≡◌, ℕ, ◌<◌, ◌≤◌, ◌^◌, true, List, [], ◌∷◌, length, map, All, Some, Ok, refl, sym, ap, ◌∙◌, subst, arith}
use Rattle.std.specs.Prelude.{Result, Err, IfOk}
use Rattle.std.proofs.lemmas.List.Elements.{All-head, All-tail}
use Rattle.std.specs.List.{AllByRecursion, IsDistinct}
use Rattle.bags.specs.Bag.{SameBag}
use Rattle.rdf_meaning.specs.Terms.{RdfTerm, RdfTriple, same_triple}
use Rattle.table_meaning.specs.Tables.{NamedTable}
use Rattle.layout_meaning.specs.Columns.{ColumnsOf, candidates_of}
use Rattle.layout_meaning.specs.Facts.{FactsOf, IdOf, CountsOf}
use Rattle.layout_standing_meaning.specs.Dictionary.{Entry}
use Rattle.layout_standing_meaning.specs.Schemas.{LayoutOf, FiveRows, five_tables}
use Rattle.layout_standing_meaning.specs.Stored.{StoreOf, layout_of, tables_of, stored_triples}
use Rattle.layout_facts_meaning.specs.Facts.{AreFacts, AreIds, HaveFacts, ids_told, store_contents, store_ids, terms_named}
use Rattle.layout_facts_laws.proofs.Told.{together}
use Rattle.query_meaning.specs.declared.query.Query.{Query}
use Rattle.query_meaning.specs.declared.modifiers.Modifiers.{Modifiers}
use Rattle.query_eval_meaning.specs.Eval.{answer_of, solutions}
use Rattle.query_eval_meaning.specs.Answer.{Row, ordered_answer}
use Rattle.query_algebra_laws.specs.OrderedAnswer.{order-same}
use Rattle.query_plan_meaning.specs.declared.plan.Plan.{Plan}
use Rattle.query_plan_meaning.specs.Plans.{ComesFrom}
use Rattle.query_plan_meaning.specs.Stars.{plan_solutions}
use Rattle.sparql_meaning.specs.Constants.{kept_once, tree_constants}
use Rattle.sql_meaning.specs.declared.script.Script.{Script}
use Rattle.sql_rows_meaning.specs.declared.schema.NamedSchema.{NamedSchema}
use Rattle.sql_rows_meaning.specs.declared.fault.Fault.{Fault}
use Rattle.sql_rows_meaning.specs.Faults.{Checked}
use Rattle.sql_rows_meaning.specs.Binding.{check_script}
use Rattle.table_meaning.specs.declared.schema.Column.{Column}
use Rattle.sql_rows_meaning.specs.Scopes.{schemas_in}
use Rattle.sql_rows_meaning.specs.Rows.{script_rows}
use Rattle.sql_gen_answer_meaning.specs.Columns.{answer_columns}
use Rattle.sql_gen_answer_meaning.specs.Decode.{decode}
use Rattle.sql_gen_meaning.specs.Compilable.{AreColumns}
use Rattle.sql_gen_meaning.specs.RightScripts.{IsRightScript, five_schemas}
use Rattle.sql_gen_star_fit_laws.proofs.Distinct.{distinct}
use Rattle.run_show_meaning.specs.Scripts.{IsScriptFor}

-- ---- columns

each_below : (k : ℕ) (cs : List ℕ) → All (λ c. c < k) cs → AllByRecursion (λ c. c < k) cs
each_below k [] all = tt
each_below k (c ∷ cs) all = (All-head (λ c. c < k) c cs all, each_below k cs (All-tail (λ c. c < k) c cs all))

pub columns_are : (columns : ColumnsOf) → 1 ≤ columns.count → columns.count ≤ 32 → ((iri : List ℕ) → 0 < length (candidates_of columns iri)) → ((iri : List ℕ) → All (λ c. c < columns.count) (candidates_of columns iri)) → AreColumns columns
columns_are columns low high some within = record {
  some = low;
  countable = omega arith;
  candidates = some;
  within = λ iri. each_below columns.count (candidates_of columns iri) (within iri);
}

-- ---- ids

named-told : (es : List Entry) (ts : List RdfTerm) → terms_named (ids_told es ts) ≡ ts
named-told es [] = refl
named-told es (t ∷ ts) = ap (λ (rest : List RdfTerm). t ∷ rest) (named-told es ts)

pub constants_named : (s : StoreOf) (ts : List RdfTerm) (ids : List IdOf) → ids ≡ store_ids s ts → terms_named ids ≡ ts
constants_named s ts ids e = ap terms_named e ∙ named-told (store_contents s).terms ts

-- ---- schemas

schemas-five : (layout : LayoutOf) (tables : List NamedTable) (g : List RdfTriple) (ids : List IdOf) (facts : FactsOf) → HaveFacts layout tables g ids facts → schemas_in tables ≡ five_schemas facts
schemas-five layout tables g ids facts d = ap schemas_in d.exact_tables.five ∙ sym (ap five_schemas d.same_facts)

-- ---- answers

answers-same : (q : Query) (plan : Plan) (g : List RdfTriple) → IsDistinct same_triple g → ComesFrom q plan → ordered_answer plan.modifiers (plan_solutions plan.tree g) ≡ answer_of q g
answers-same q plan g once comes = ap (λ (m : Modifiers). ordered_answer m (plan_solutions plan.tree g)) comes.modifiers ∙ order-same q.modifiers (plan_solutions plan.tree g) (solutions q.tree g) (comes.solutions g once)

-- ---- the script

abbrev checked : List Column → Checked Fault (List Column)
checked columns = Ok columns

pub is_script : (layout : LayoutOf) (tables : List NamedTable) (g : List RdfTriple) (q : Query) (ids : List IdOf) (facts : FactsOf) (plan : Plan) (script : Script) (ts : List RdfTerm) →
    terms_named ids ≡ ts → ts ≡ kept_once [] (tree_constants q.tree) → AreIds layout tables g ts ids → AreFacts layout tables g ts facts → ComesFrom q plan → IsRightScript plan facts ids script → IsScriptFor layout tables g q script
is_script layout tables g q ids facts plan script ts named constants are-ids are-facts comes right =
    let told : HaveFacts layout tables g ids facts = together layout tables g g ts ids facts are-ids are-facts in
    record {
      ids = ids;
      facts = facts;
      constants = named ∙ constants;
      told = told;
      writable = right.writable;
      binds = ap (check_script script) (schemas-five layout tables g ids facts told) ∙ right.binds ∙ ap (λ (m : Modifiers). checked (answer_columns (length m.shown))) comes.modifiers;
      right = λ others h d. right.answers layout others h d ∙ ap (λ (rows : List Row). Some rows) (answers-same q plan h (distinct h d.same_triples.triples) comes);
    }

-- where one was made
pub ok_script : {E : Type 0} (made : Result Script E) (layout : LayoutOf) (tables : List NamedTable) (g : List RdfTriple) (q : Query) (ids : List IdOf) (facts : FactsOf) (plan : Plan) (ts : List RdfTerm) →
    terms_named ids ≡ ts → ts ≡ kept_once [] (tree_constants q.tree) → AreIds layout tables g ts ids → AreFacts layout tables g ts facts → ComesFrom q plan → IfOk made (IsRightScript plan facts ids) → IfOk made (IsScriptFor layout tables g q)
ok_script (Ok script) layout tables g q ids facts plan ts named constants are-ids are-facts comes right = is_script layout tables g q ids facts plan script ts named constants are-ids are-facts comes right
ok_script (Err e) layout tables g q ids facts plan ts named constants are-ids are-facts comes right = tt
