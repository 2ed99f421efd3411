-- Filter of an out, and the empty leaf.
use Rattle.std.specs.Prelude.{◌+◌, ◌∷◌, ◌≡◌, Bool, List, None, [], false, pos, refl, true, ℕ}
use Rattle.std.proofs.Common.{◌∙◌, ap, arith, subst, sym}
use Rattle.std.proofs.Math.Path.{fun_ext}
use Rattle.std.proofs.lemmas.List.{append-nil}
use Rattle.std.specs.List.{filter}
use Rattle.bags.specs.Bag.{total}
use Rattle.bags.specs.BagLaws.{each-filter}
use Rattle.layout_meaning.specs.Facts.{FactsOf, IdOf}
use Rattle.layout_standing_meaning.specs.Dictionary.{has_term, id_of}
use Rattle.query_eval_meaning.specs.Eval.{holds_over}
use Rattle.query_eval_meaning.specs.EvalLaws.{eval-Filter, eval-Leaf}
use Rattle.query_eval_meaning.specs.Expressions.{truth_over}
use Rattle.query_eval_meaning.specs.Mapping.{Mapping, nothing}
use Rattle.query_eval_meaning.specs.VariableLaws.{certain-Filter, certain-Leaf, variables-Filter, variables-Leaf}
use Rattle.query_eval_meaning.specs.Variables.{Binds, Variables}
use Rattle.query_meaning.specs.declared.expression.TruthExpr.{TruthExpr}
use Rattle.query_meaning.specs.declared.tree.Tree.{Tree}
use Rattle.query_plan_meaning.specs.Stars.{plan_solutions, stars_certain, stars_leaf, stars_variables}
use Rattle.query_plan_meaning.specs.declared.star.Star.{Star}
use Rattle.rdf_meaning.specs.Terms.{RdfTerm, RdfTriple}
use Rattle.sql_gen_binding_laws.specs.StepColumns.{step_schema}
use Rattle.sql_gen_binding_laws.specs.TermBinds.{filter_fine}
use Rattle.sql_gen_form_laws.proofs.Parts.{core-fits, no-condition, no-items, no-keys, one-before}
use Rattle.sql_gen_form_laws.proofs.Terms.{filter-fits, filter-no_refs}
use Rattle.sql_gen_form_laws.specs.Fits.{body_fits}
use Rattle.sql_gen_node_laws.proofs.Sides.{lone-binds, lone-fits, lone-no_refs, lone-table, terms-seen_there, terms-there}
use Rattle.sql_gen_node_laws.specs.Nodes.{IsCondition, empty_out, filtered_out}
use Rattle.sql_gen_numbered_meaning.specs.Numbered.{lone, single_core, terms_name}
use Rattle.sql_gen_numbered_meaning.specs.declared.numbered.NumberedBody.TheVariants.{Filtered, Single}
use Rattle.sql_gen_out_laws.proofs.Chained.{no-primary}
use Rattle.sql_gen_out_laws.proofs.OneOut.{first-stands, one_after}
use Rattle.sql_gen_out_laws.specs.Outs.{Out, StandsForNode, StandsOut}
use Rattle.sql_gen_step_laws.specs.Carried.{Carries, Ids}
use Rattle.sql_gen_step_laws.specs.PlainSelects.{plain_rows}
use Rattle.sql_gen_term_laws.specs.FilterStep.{filter_step}
use Rattle.sql_gen_term_laws.specs.Filters.{filter_core}
use Rattle.sql_meaning.specs.Scripts.{most_levels}
use Rattle.sql_meaning.specs.declared.expression.SqlExpr.{SqlExpr}
use Rattle.sql_rows_meaning.specs.CheckLaws.{check-Int}
use Rattle.sql_rows_meaning.specs.Rows.{body_relation}
use Rattle.sql_rows_meaning.specs.Selects.{select_rows}
use Rattle.sql_rows_meaning.specs.Sources.{nothing_in_sight}
use Rattle.sql_rows_meaning.specs.Tables.{Relations}
use Rattle.sql_rows_meaning.specs.ValueLaws.{value_of-Int}
use Rattle.table_meaning.specs.Names.{body_words, case_words, is_name, order_words, source_words, test_words, value_words}
use Rattle.table_meaning.specs.declared.cell.Cell.{Cell}
use Rattle.table_meaning.specs.declared.cell.Cell.TheVariants.{Int}
use Rattle.query_meaning.specs.declared.tree.Tree.TheVariants as trees

-- ---- Filter

-- the table of terms has a name of the dialect
pub terms-name : is_name terms_name ≡ true
unfolding is_name body_words source_words order_words value_words test_words case_words
terms-name = refl

pub filter-of_outs : (facts : FactsOf) (ids : List IdOf) (x : Out) (f : TruthExpr) (us : List ℕ) (condition : SqlExpr) (ls : List RdfTriple → List Mapping) (p : ℕ) → IsCondition f us condition →
    StandsOut facts ids ls p x → StandsOut facts ids (λ g. filter (holds_over f) (ls g)) (p + 0) (filtered_out x us condition)
filter-of_outs facts ids x f us condition ls p c sx =
    one_after facts ids x (Filtered x.last x.variables us condition) x.variables x.certain ls (λ g. filter (holds_over f) (ls g)) p 0 sx
    (record {
      same_refs = λ name a. lone-no_refs (filter_core (name x.last) terms_name x.variables us condition) (filter-no_refs (name x.last) terms_name (no-primary (name x.last) (a.no_table x.last sx.last_there)) refl x.variables us condition);
      forms = λ name h. lone-fits most_levels (filter_core (name x.last) terms_name x.variables us condition) (omega arith)
          (filter-fits most_levels (omega arith) (name x.last) terms_name (h x.last sx.last_there) terms-name x.variables us sx.in_width c.in_width condition c.fits);
      binds = λ name t ht hx. lone-binds t (filter_core (name x.last) terms_name x.variables us condition) (step_schema x.variables)
          (filter_fine t (name x.last) terms_name x.variables us hx (terms-seen_there facts t ht) sx.once c.once condition c.truth);
      carries = λ name layout tables g d t same cx.
          subst (Carries (id_of d.contents.terms) (has_term d.contents.terms) x.variables (filter (holds_over f) (ls g))) (sym (lone-table t (filter_core (name x.last) terms_name x.variables us condition)))
          (filter_step (id_of d.contents.terms) (has_term d.contents.terms) t (name x.last) terms_name (terms-there layout facts ids tables g d t same) x.variables us (ls g) cx condition (truth_over f) c.means);
    })
    sx.once sx.in_width (λ g. each-filter (Binds x.certain) (holds_over f) (ls g) (sx.bound g))

pub filter-of_nodes : (facts : FactsOf) (ids : List IdOf) (a : Tree (List Star)) (f : TruthExpr) (x : Out) (us : List ℕ) (condition : SqlExpr) (p : ℕ) → IsCondition f us condition →
    StandsForNode facts ids a p x → StandsForNode facts ids (trees.Filter f a) (p + 0) (filtered_out x us condition)
filter-of_nodes facts ids a f x us condition p c sx = record {
  solutions = subst (λ (s : List RdfTriple → List Mapping). StandsOut facts ids s (p + 0) (filtered_out x us condition)) (sym (fun_ext (λ g. eval-Filter (stars_leaf g) f a)))
      (filter-of_outs facts ids x f us condition (plan_solutions a) p c sx.solutions);
  variables = λ v. sx.variables v ∙ sym (ap (λ (s : Variables). s v) (variables-Filter stars_variables f a));
  certain = λ v. sx.certain v ∙ sym (ap (λ (s : Variables). s v) (certain-Filter stars_certain f a));
}

-- ---- the empty leaf

single-rows : (t : Relations) → select_rows t single_core ≡ (Int (pos 1) ∷ []) ∷ []
single-rows t = plain_rows t single_core refl refl refl refl ∙ ap (λ (c : Cell). (c ∷ []) ∷ []) (value_of-Int (pos 1) nothing_in_sight)

single-carries : (ids : Ids) (known : RdfTerm → Bool) (t : Relations) → Carries ids known [] (nothing ∷ []) (body_relation t (lone single_core))
single-carries ids known t = record {
  columns = refl;
  rows = record { totals = λ g. ap (total g) (append-nil (select_rows t single_core) ∙ single-rows t) };
  fits = (record { bound = λ v e. refl; known_terms = λ v s e. cc }, tt);
  below = tt;
}

-- the SELECT of the empty leaf fits
single-fits : body_fits (lone single_core) ≡ true
single-fits = lone-fits 1 single_core (omega arith) (core-fits 1 single_core (omega arith) (one-before 0 [] (no-items 1)) refl (omega arith) (no-condition 1) (no-keys 1) refl refl)

pub empty-leaf : (facts : FactsOf) (ids : List IdOf) → StandsForNode facts ids (trees.Leaf []) 0 empty_out
empty-leaf facts ids = record {
  solutions = subst (λ (s : List RdfTriple → List Mapping). StandsOut facts ids s 0 empty_out) (sym (fun_ext (λ g. eval-Leaf (stars_leaf g) [])))
      (first-stands facts ids Single [] (λ v. false) (λ g. nothing ∷ []) 0 (record {
        same_refs = λ name. refl;
        forms = λ name. single-fits;
        binds = λ name t ht n. rw (check-Int (pos 1) (λ a c. None)) refl;
        carries = λ name layout tables g d t same. single-carries (id_of d.contents.terms) (has_term d.contents.terms) t;
      }) tt tt (λ g. (record { bound = λ v l e. cc }, tt)));
  variables = λ v. sym (ap (λ (s : Variables). s v) (variables-Leaf stars_variables []));
  certain = λ v. sym (ap (λ (s : Variables). s v) (certain-Leaf stars_certain []));
}
