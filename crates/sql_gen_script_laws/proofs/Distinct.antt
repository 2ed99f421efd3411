-- The step of DISTINCT behind an out.
use Rattle.std.specs.Prelude.{◌+◌, ◌∷◌, ◌≡◌, List, [], false, nat_eq, refl, ℕ}
use Rattle.std.proofs.Common.{arith, subst, sym}
use Rattle.std.proofs.lemmas.Bool.{both_ways, eq-eqb, eqb-true, false_from_ne_true, or_from}
use Rattle.std.proofs.lemmas.Map.Keys.{IsDistinct-head, IsDistinct-tail}
use Rattle.std.specs.List.{AllByRecursion, IsDistinct}
use Rattle.layout_meaning.specs.Facts.{FactsOf, IdOf}
use Rattle.layout_standing_meaning.specs.Dictionary.{has_term, id_of}
use Rattle.query_eval_meaning.specs.Mapping.{Mapping}
use Rattle.query_eval_meaning.specs.Variables.{Binds}
use Rattle.rdf_meaning.specs.Terms.{RdfTriple}
use Rattle.sql_gen_binding_laws.specs.StepColumns.{Once, step_schema}
use Rattle.sql_gen_form_laws.specs.Fits.{AreVariables}
use Rattle.sql_gen_last_binding_laws.proofs.LastBinds.{distinct-fine}
use Rattle.sql_gen_last_form_laws.proofs.LastForms.{distinct-fits, distinct-no_refs}
use Rattle.sql_gen_last_laws.proofs.DistinctRows.{distinct-step}
use Rattle.sql_gen_last_laws.specs.DistinctSelect.{distinct_core, distinct_parts}
use Rattle.sql_gen_node_laws.proofs.Sides.{ids-tell, lone-binds, lone-fits, lone-no_refs, lone-table}
use Rattle.sql_gen_numbered_meaning.specs.declared.numbered.NumberedBody.TheVariants.{Distinct}
use Rattle.sql_gen_out_laws.proofs.Chained.{no-primary}
use Rattle.sql_gen_out_laws.proofs.OneOut.{one_after}
use Rattle.sql_gen_out_laws.specs.Outs.{Out, StandsOut}
use Rattle.sql_gen_script_laws.specs.Scripts.{distinct_out}
use Rattle.sql_gen_step_laws.specs.Carried.{Carries}
use Rattle.sql_gen_step_laws.specs.StepSelects.{has}

-- ---- variables once

apart-once : (v : ℕ) (vs : List ℕ) → AllByRecursion (λ w. nat_eq v w ≡ false) vs → has vs v ≡ false
apart-once v [] all = refl
apart-once v (w ∷ vs) all = or_from _ _ (false_from_ne_true _ (λ e. let q : w ≡ v = eqb-true w v e in both_ways (nat_eq v w) all.0 (eq-eqb v w (sym q)))) (apart-once v vs all.1)

pub once-distinct : (vs : List ℕ) → IsDistinct nat_eq vs → Once vs
once-distinct [] d = tt
once-distinct (v ∷ vs) d = (apart-once v vs (IsDistinct-head nat_eq v vs d), once-distinct vs (IsDistinct-tail nat_eq v vs d))

-- ---- the step of DISTINCT

none-bound : (ms : List Mapping) → AllByRecursion (Binds (λ v. false)) ms
none-bound [] = tt
none-bound (m ∷ ms) = (record { bound = λ v l e. cc }, none-bound ms)

-- an out and the step of DISTINCT
pub distinct-of_out : (facts : FactsOf) (ids : List IdOf) (x : Out) (shown : List ℕ) (ls : List RdfTriple → List Mapping) (p : ℕ) → Once shown → AreVariables shown → StandsOut facts ids ls p x →
    StandsOut facts ids (λ g. distinct_parts shown (ls g)) (p + 0) (distinct_out x shown)
distinct-of_out facts ids x shown ls p o w sx =
    one_after facts ids x (Distinct x.last x.variables shown) shown (λ v. false) ls (λ g. distinct_parts shown (ls g)) p 0 sx
    (record {
      same_refs = λ name a. lone-no_refs (distinct_core (name x.last) x.variables shown) (distinct-no_refs (name x.last) (no-primary (name x.last) (a.no_table x.last sx.last_there)) x.variables shown);
      forms = λ name h. lone-fits 1 (distinct_core (name x.last) x.variables shown) (omega arith) (distinct-fits (name x.last) (h x.last sx.last_there) x.variables shown w);
      binds = λ name t ht hx. lone-binds t (distinct_core (name x.last) x.variables shown) (step_schema shown) (distinct-fine t (name x.last) x.variables shown hx o);
      carries = λ name layout tables g d t same cx.
          subst (Carries (id_of d.contents.terms) (has_term d.contents.terms) shown (distinct_parts shown (ls g))) (sym (lone-table t (distinct_core (name x.last) x.variables shown)))
          (distinct-step (id_of d.contents.terms) (has_term d.contents.terms) (ids-tell d.contents.terms d.same_triples.own_terms) t (name x.last) x.variables shown (ls g) cx w);
    })
    o w (λ g. none-bound (distinct_parts shown (ls g)))
