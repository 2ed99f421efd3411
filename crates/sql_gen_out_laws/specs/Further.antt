-- What steps behind one out, or behind two, have to show (this project's own).
use Rattle.std.specs.Prelude.{◌++◌, ◌+◌, ◌<◌, ◌∷◌, ◌≡◌, List, Ok, Some, [], length, map, true, ℕ}
use Rattle.layout_facts_meaning.specs.Facts.{HaveFacts}
use Rattle.layout_meaning.specs.Facts.{FactsOf, IdOf}
use Rattle.layout_standing_meaning.specs.Dictionary.{has_term, id_of}
use Rattle.layout_standing_meaning.specs.Schemas.{LayoutOf}
use Rattle.query_eval_meaning.specs.Mapping.{Mapping}
use Rattle.query_eval_meaning.specs.Variables.{Variables}
use Rattle.rdf_meaning.specs.Terms.{RdfTriple}
use Rattle.sql_gen_binding_laws.specs.StepColumns.{step_schema}
use Rattle.sql_gen_chain_laws.specs.Chains.{SameBase}
use Rattle.sql_gen_form_laws.specs.Fits.{body_fits, step_fits}
use Rattle.sql_gen_numbered_meaning.specs.Namings.{KeepsApart, is_table}
use Rattle.sql_gen_numbered_meaning.specs.Numbered.{body_under, shifted, written_from}
use Rattle.sql_gen_numbered_meaning.specs.declared.numbered.NumberedBody.{NumberedBody}
use Rattle.sql_gen_out_laws.specs.Outs.{AreFree, BindsTo, HasTables, Out, count}
use Rattle.sql_gen_step_laws.specs.Carried.{Carries, Name}
use Rattle.sql_meaning.specs.Scripts.{all_of, body_refs, step_refs, total}
use Rattle.sql_rows_meaning.specs.Binding.{check_body}
use Rattle.sql_rows_meaning.specs.Rows.{after_steps, body_relation}
use Rattle.sql_rows_meaning.specs.Scopes.{Schemas}
use Rattle.sql_rows_meaning.specs.Tables.{Relations, relations_of}
use Rattle.table_meaning.specs.Names.{is_name}
use Rattle.table_meaning.specs.Tables.{NamedTable}

-- ---- behind two outs

abbrev pub behind_both : List NumberedBody → List NumberedBody → List NumberedBody → List NumberedBody
behind_both xs ys more = xs ++ shifted (length xs) ys ++ more

-- the steps of two outs, the second ones numbered on, and more steps, of which one is the last
abbrev pub put_behind : Out → Out → List NumberedBody → ℕ → List ℕ → Variables → Out
put_behind x y more n us certain = record { steps = behind_both x.steps y.steps more; last = n; variables = us; certain = certain }

abbrev pub before_more : Out → Out → ℕ
before_more x y = count x + count y

-- what more steps make of two outs, under every naming that keeps all numbers apart
pub record Further (facts : FactsOf) (ids : List IdOf) (x y : Out) (more : List NumberedBody) (n : ℕ) (us : List ℕ) (ls rs ns : List RdfTriple → List Mapping) (refs : ℕ) : Type 0 where
  pub same_refs : (name : ℕ → Name) → KeepsApart (before_more x y + length more) name → total (map step_refs (written_from name (before_more x y) more)) ≡ refs
  pub forms : (name : ℕ → Name) → KeepsApart (before_more x y + length more) name → ((i : ℕ) → i < before_more x y + length more → is_name (name i) ≡ true) → all_of step_fits (written_from name (before_more x y) more) ≡ true
  pub binds : (name : ℕ → Name) → KeepsApart (before_more x y + length more) name → (t : Schemas) → HasTables facts t → AreFree name (before_more x y) (length more) t →
      t (name x.last) ≡ Some (step_schema x.variables) → t (name (count x + y.last)) ≡ Some (step_schema y.variables) → BindsTo (written_from name (before_more x y) more) t (name n) (step_schema us)
  pub carries : (name : ℕ → Name) → KeepsApart (before_more x y + length more) name → (layout : LayoutOf) (tables : List NamedTable) (g : List RdfTriple) → (d : HaveFacts layout tables g ids facts) →
      (t : Relations) → SameBase is_table (relations_of tables) t →
      Carries (id_of d.contents.terms) (has_term d.contents.terms) x.variables (ls g) (t (name x.last)) → Carries (id_of d.contents.terms) (has_term d.contents.terms) y.variables (rs g) (t (name (count x + y.last))) →
      Carries (id_of d.contents.terms) (has_term d.contents.terms) us (ns g) (after_steps (written_from name (before_more x y) more) t (name n))

-- what one more step makes of two outs
pub record OneMore (facts : FactsOf) (ids : List IdOf) (x y : Out) (b : NumberedBody) (us : List ℕ) (ls rs ns : List RdfTriple → List Mapping) (refs : ℕ) : Type 0 where
  pub same_refs : (name : ℕ → Name) → KeepsApart (before_more x y) name → body_refs (body_under name b) ≡ refs
  pub forms : (name : ℕ → Name) → ((i : ℕ) → i < before_more x y → is_name (name i) ≡ true) → body_fits (body_under name b) ≡ true
  pub binds : (name : ℕ → Name) (t : Schemas) → HasTables facts t → t (name x.last) ≡ Some (step_schema x.variables) → t (name (count x + y.last)) ≡ Some (step_schema y.variables) →
      (n : ℕ) → check_body t n (body_under name b).cores ≡ Ok (step_schema us)
  pub carries : (name : ℕ → Name) (layout : LayoutOf) (tables : List NamedTable) (g : List RdfTriple) → (d : HaveFacts layout tables g ids facts) → (t : Relations) → SameBase is_table (relations_of tables) t →
      Carries (id_of d.contents.terms) (has_term d.contents.terms) x.variables (ls g) (t (name x.last)) → Carries (id_of d.contents.terms) (has_term d.contents.terms) y.variables (rs g) (t (name (count x + y.last))) →
      Carries (id_of d.contents.terms) (has_term d.contents.terms) us (ns g) (body_relation t (body_under name b))

-- ---- behind one out

-- the steps of an out, and more steps, of which one is the last
abbrev pub put_after : Out → List NumberedBody → ℕ → List ℕ → Variables → Out
put_after x more n us certain = record { steps = x.steps ++ more; last = n; variables = us; certain = certain }

-- what more steps make of an out, under every naming that keeps all numbers apart
pub record FurtherOne (facts : FactsOf) (ids : List IdOf) (x : Out) (more : List NumberedBody) (n : ℕ) (us : List ℕ) (ls ns : List RdfTriple → List Mapping) (refs : ℕ) : Type 0 where
  pub same_refs : (name : ℕ → Name) → KeepsApart (count x + length more) name → total (map step_refs (written_from name (count x) more)) ≡ refs
  pub forms : (name : ℕ → Name) → KeepsApart (count x + length more) name → ((i : ℕ) → i < count x + length more → is_name (name i) ≡ true) → all_of step_fits (written_from name (count x) more) ≡ true
  pub binds : (name : ℕ → Name) → KeepsApart (count x + length more) name → (t : Schemas) → HasTables facts t → AreFree name (count x) (length more) t →
      t (name x.last) ≡ Some (step_schema x.variables) → BindsTo (written_from name (count x) more) t (name n) (step_schema us)
  pub carries : (name : ℕ → Name) → KeepsApart (count x + length more) name → (layout : LayoutOf) (tables : List NamedTable) (g : List RdfTriple) → (d : HaveFacts layout tables g ids facts) →
      (t : Relations) → SameBase is_table (relations_of tables) t → Carries (id_of d.contents.terms) (has_term d.contents.terms) x.variables (ls g) (t (name x.last)) →
      Carries (id_of d.contents.terms) (has_term d.contents.terms) us (ns g) (after_steps (written_from name (count x) more) t (name n))

-- what one more step makes of an out
pub record OneAfter (facts : FactsOf) (ids : List IdOf) (x : Out) (b : NumberedBody) (us : List ℕ) (ls ns : List RdfTriple → List Mapping) (refs : ℕ) : Type 0 where
  pub same_refs : (name : ℕ → Name) → KeepsApart (count x) name → body_refs (body_under name b) ≡ refs
  pub forms : (name : ℕ → Name) → ((i : ℕ) → i < count x → is_name (name i) ≡ true) → body_fits (body_under name b) ≡ true
  pub binds : (name : ℕ → Name) (t : Schemas) → HasTables facts t → t (name x.last) ≡ Some (step_schema x.variables) → (n : ℕ) → check_body t n (body_under name b).cores ≡ Ok (step_schema us)
  pub carries : (name : ℕ → Name) (layout : LayoutOf) (tables : List NamedTable) (g : List RdfTriple) → (d : HaveFacts layout tables g ids facts) → (t : Relations) → SameBase is_table (relations_of tables) t →
      Carries (id_of d.contents.terms) (has_term d.contents.terms) x.variables (ls g) (t (name x.last)) → Carries (id_of d.contents.terms) (has_term d.contents.terms) us (ns g) (body_relation t (body_under name b))

-- ---- over tables alone

abbrev pub first_out : NumberedBody → List ℕ → Variables → Out
first_out b us certain = record { steps = b ∷ []; last = 0; variables = us; certain = certain }

-- what a step over tables alone carries
pub record FirstStep (facts : FactsOf) (ids : List IdOf) (b : NumberedBody) (us : List ℕ) (ns : List RdfTriple → List Mapping) (refs : ℕ) : Type 0 where
  pub same_refs : (name : ℕ → Name) → body_refs (body_under name b) ≡ refs
  pub forms : (name : ℕ → Name) → body_fits (body_under name b) ≡ true
  pub binds : (name : ℕ → Name) (t : Schemas) → HasTables facts t → (n : ℕ) → check_body t n (body_under name b).cores ≡ Ok (step_schema us)
  pub carries : (name : ℕ → Name) (layout : LayoutOf) (tables : List NamedTable) (g : List RdfTriple) → (d : HaveFacts layout tables g ids facts) → (t : Relations) → SameBase is_table (relations_of tables) t →
      Carries (id_of d.contents.terms) (has_term d.contents.terms) us (ns g) (body_relation t (body_under name b))
