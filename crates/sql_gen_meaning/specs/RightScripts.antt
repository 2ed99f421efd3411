-- Which scripts are right for a plan (this project's own).
use Rattle.std.specs.Prelude.{◌≡◌, true, List, [], ◌∷◌, length, Some, Ok, codes}
use Rattle.rdf_meaning.specs.Terms.{RdfTriple}
use Rattle.table_meaning.specs.Tables.{NamedTable}
use Rattle.layout_meaning.specs.Facts.{FactsOf, IdOf}
use Rattle.layout_standing_meaning.specs.Schemas.{LayoutOf, primary_schema, list_schema, term_schema}
use Rattle.layout_facts_meaning.specs.Facts.{HaveFacts}
use Rattle.query_eval_meaning.specs.Answer.{ordered_answer}
use Rattle.query_plan_meaning.specs.declared.plan.Plan.{Plan}
use Rattle.query_plan_meaning.specs.Stars.{plan_solutions}
use Rattle.query_merging_meaning.specs.Accesses.{accesses}
use Rattle.sql_meaning.specs.declared.script.Script.{Script}
use Rattle.sql_meaning.specs.Scripts.{refs_of, is_writable}
use Rattle.sql_rows_meaning.specs.declared.schema.NamedSchema.{NamedSchema}
use Rattle.sql_rows_meaning.specs.Binding.{check_script}
use Rattle.sql_rows_meaning.specs.Rows.{script_rows}
use Rattle.sql_gen_answer_meaning.specs.Columns.{answer_columns}
use Rattle.sql_gen_answer_meaning.specs.Decode.{decode}

-- the columns of the five tables, which follow from the counts of both sides
abbrev pub five_schemas : FactsOf → List NamedSchema
five_schemas facts =
    record { name = codes "DPH"; schema = primary_schema facts.direct.count }
    ∷ record { name = codes "DS"; schema = list_schema }
    ∷ record { name = codes "RPH"; schema = primary_schema facts.reverse.count }
    ∷ record { name = codes "RS"; schema = list_schema }
    ∷ record { name = codes "TERM"; schema = term_schema }
    ∷ []

-- The script has a text. It binds to the columns one, c1, t1, a1, c2 and so on, for each shown variable. It reads a primary
-- table as often as the plan counts accesses. And over all tables that stand for triples and have these facts and ids, its
-- rows are read as the ordered answer of the plan's solutions.
pub record IsRightScript (plan : Plan) (facts : FactsOf) (ids : List IdOf) (script : Script) : Type 0 where
  pub writable : is_writable script ≡ true
  pub binds : check_script script (five_schemas facts) ≡ Ok (answer_columns (length plan.modifiers.shown))
  pub same_refs : refs_of script ≡ accesses facts plan.tree
  pub answers : (layout : LayoutOf) (tables : List NamedTable) (g : List RdfTriple) → HaveFacts layout tables g ids facts →
      decode (script_rows script tables) ≡ Some (ordered_answer plan.modifiers (plan_solutions plan.tree g))
