-- What steps over two outs share.
use Rattle.std.specs.Prelude.{◌<◌, ◌||◌, ◌∷◌, ◌≡◌, ◌≤◌, List, None, Ok, Some, [], false, refl, true, ℕ}
use Rattle.std.proofs.Common.{◌∙◌, ◌⊎◌, ap, inl, inr, subst, sym}
use Rattle.std.proofs.lemmas.Bool.{and_parts, cases_Bool, or_from, or_left, or_right}
use Rattle.std.proofs.lemmas.List.{append-nil}
use Rattle.std.specs.List.{AllByRecursion}
use Rattle.bags.specs.BagLaws.{each-weaker}
use Rattle.layout_facts_laws.proofs.Ids.{told}
use Rattle.layout_facts_meaning.specs.Facts.{HaveFacts}
use Rattle.layout_meaning.specs.Facts.{FactsOf, IdOf}
use Rattle.layout_standing_meaning.specs.Dictionary.{AreEntries, Entry, has_term, id_of}
use Rattle.layout_standing_meaning.specs.Schemas.{LayoutOf, term_schema}
use Rattle.layout_table_laws.proofs.TermRows.{terms_held}
use Rattle.query_eval_meaning.specs.Mapping.{Mapping, width}
use Rattle.query_eval_meaning.specs.Variables.{Binds as BindsSet, Variables, in_both}
use Rattle.rdf_meaning.specs.Terms.{RdfTriple}
use Rattle.sql_gen_binding_laws.specs.StepBinds.{in_filter, of_both}
use Rattle.sql_gen_chain_laws.specs.Chains.{SameBase}
use Rattle.sql_gen_form_laws.proofs.Bodies.{body-fits, lone-body}
use Rattle.sql_gen_form_laws.proofs.Parts.{below_width}
use Rattle.sql_gen_form_laws.specs.Fits.{CoreFits, body_fits}
use Rattle.sql_gen_node_laws.specs.Nodes.{certain_shared}
use Rattle.sql_gen_numbered_meaning.specs.Namings.{is_table}
use Rattle.sql_gen_numbered_meaning.specs.Numbered.{lone, terms_name}
use Rattle.sql_gen_out_laws.specs.Outs.{HasTables, Out}
use Rattle.sql_gen_step_laws.specs.Carried.{Binds, Numbers, select_table}
use Rattle.sql_gen_step_laws.specs.JoinStep.{in-both}
use Rattle.sql_gen_step_laws.specs.StepSelects.{both, has, shared}
use Rattle.sql_gen_term_laws.specs.TermTable.{HasTerms}
use Rattle.sql_meaning.specs.Scripts.{body_refs, core_refs, most_levels}
use Rattle.sql_meaning.specs.declared.script.Core.{Core}
use Rattle.sql_rows_meaning.specs.Binding.{check_body, check_select}
use Rattle.sql_rows_meaning.specs.Rows.{body_names, body_relation}
use Rattle.sql_rows_meaning.specs.Scopes.{Schemas}
use Rattle.sql_rows_meaning.specs.Selects.{select_rows}
use Rattle.sql_rows_meaning.specs.Tables.{Relation, Relations, relations_of}
use Rattle.table_meaning.specs.Tables.{NamedTable}
use Rattle.table_meaning.specs.declared.cell.Cell.{Cell}
use Rattle.table_meaning.specs.declared.schema.Column.{Column}

-- solutions that bind a set bind each list within it
pub binds-list : (set : Variables) (cs : List ℕ) → ((v : ℕ) → has cs v ≡ true → v < width) → ((v : ℕ) → has cs v ≡ true → set v ≡ true) → (ms : List Mapping) → AllByRecursion (BindsSet set) ms → AllByRecursion (Binds cs) ms
binds-list set cs below within ms all = each-weaker (BindsSet set) (Binds cs) (λ m b v e. b.bound v (below v e) (within v e)) ms all

pub shared-left : (x y : Out) → AllByRecursion (λ v. v < width) x.variables → (ms : List Mapping) → AllByRecursion (BindsSet x.certain) ms → AllByRecursion (Binds (certain_shared x y)) ms
shared-left x y w = binds-list x.certain (certain_shared x y)
    (λ v e. below_width x.variables w v (in_filter (has x.variables) y.variables v (in_filter (in_both x.certain y.certain) (shared x.variables y.variables) v e).0).1)
    (λ v e. (and_parts (x.certain v) (y.certain v) (in_filter (in_both x.certain y.certain) (shared x.variables y.variables) v e).1).0)

pub shared-right : (x y : Out) → AllByRecursion (λ v. v < width) y.variables → (ms : List Mapping) → AllByRecursion (BindsSet y.certain) ms → AllByRecursion (Binds (certain_shared x y)) ms
shared-right x y w = binds-list y.certain (certain_shared x y)
    (λ v e. below_width y.variables w v (in_filter (has x.variables) y.variables v (in_filter (in_both x.certain y.certain) (shared x.variables y.variables) v e).0).0)
    (λ v e. (and_parts (x.certain v) (y.certain v) (in_filter (in_both x.certain y.certain) (shared x.variables y.variables) v e).1).1)

-- the variables of both sides
pub has-both : (vs ws : List ℕ) (v : ℕ) → has (both vs ws) v ≡ (has vs v || has ws v)
has-both vs ws v = go (cases_Bool (has (both vs ws) v))
  where
    go : (has (both vs ws) v ≡ true) ⊎ (has (both vs ws) v ≡ false) → has (both vs ws) v ≡ (has vs v || has ws v)
    go (inl e) = e ∙ sym (elim (of_both vs ws v e) [ inl h ↦ or_left (has vs v) (has ws v) h | inr h ↦ or_right (has vs v) (has ws v) h ])
    go (inr e) = let h = in-both vs ws v e in e ∙ sym (or_from (has vs v) (has ws v) h.0 h.1)

-- what one SELECT alone gives is its table
abbrev with_rows : Core → List (List Cell) → Relation
with_rows c rows = record { columns = body_names (c ∷ []); rows = rows }

pub lone-table : (t : Relations) (c : Core) → body_relation t (lone c) ≡ select_table t c
lone-table t c = ap (with_rows c) (append-nil (select_rows t c))

-- a body of one SELECT binds where the SELECT does
pub lone-binds : (t : Schemas) (c : Core) (columns : List Column) → check_select t None c ≡ Ok columns → (n : ℕ) → check_body t n (c ∷ []) ≡ Ok columns
lone-binds t c columns h n = rw h refl

-- a body of one SELECT fits where the SELECT does
pub lone-fits : (n : ℕ) (c : Core) → n ≤ most_levels → CoreFits n c → body_fits (lone c) ≡ true
lone-fits n c l p = body-fits n (lone c) l (lone-body n c p)

pub lone-no_refs : (c : Core) → core_refs c ≡ 0 → body_refs (lone c) ≡ 0
lone-no_refs c e = rw e refl

-- the table of terms has its rows, and its columns
pub terms-there : (layout : LayoutOf) (facts : FactsOf) (ids : List IdOf) (tables : List NamedTable) (g : List RdfTriple) → (d : HaveFacts layout tables g ids facts) → (t : Relations) → SameBase is_table (relations_of tables) t →
    HasTerms (id_of d.contents.terms) (has_term d.contents.terms) (t terms_name)
terms-there layout facts ids tables g d t same = subst (HasTerms (id_of d.contents.terms) (has_term d.contents.terms)) (sym (same terms_name refl)) (terms_held layout d.contents tables d.exact_tables d.same_triples.own_terms)

pub terms-seen_there : (facts : FactsOf) (t : Schemas) → HasTables facts t → t terms_name ≡ Some term_schema
terms-seen_there facts t h = h terms_name refl

-- the ids of entries tell their terms apart
pub ids-tell : (es : List Entry) → AreEntries es → Numbers (id_of es) (has_term es)
ids-tell es h s t p q = told es h s t q
