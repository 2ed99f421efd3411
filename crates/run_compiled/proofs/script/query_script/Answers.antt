use Rattle.std.proofs.Common.{◌≡◌, List, ap, ◌∙◌, sym, subst}
use Rattle.layout_meaning.specs.Facts.{FactsOf}
use Rattle.layout_standing_meaning.specs.Stored.{layout_of, tables_of, stored_triples}
use Rattle.layout_facts_meaning.specs.Facts.{AreFacts, AreIds}
use Rattle.query_plan_meaning.specs.declared.plan.Plan.{Plan}
use Rattle.query_plan_meaning.specs.Plans.{ComesFrom}
use Rattle.rdf_meaning.specs.Terms.{RdfTerm}
use Rattle.sql_gen_meaning.specs.Compilable.{AreColumns, Compilable}
use Rattle.run_compiled.proofs.Compiled.{constants_named, ok_script}
use Rattle.run_compiled.proofs.script.query_script.Goals as goal

pub compile-requires : goal.compile-requires
compile-requires c =
    subst (λ (p : Plan). Compilable p c.in_ok-facts.facts c.in_ok-ids.ids) (sym c.in_ok-plan.ensures)
    (c.planned_plans_are_compilable.ensures c.in_ok-counts.counts c.in_ok-facts.facts c.in_ok-ids.ids c.args.query.now c.requires
    (constants_named c.args.store.now c.deref.result.now c.in_ok-ids.ids c.in_ok-ids.ensures.exact ∙ c.deref.ensures.value ∙ c.in_ok-terms.ensures)
    (subst AreColumns (ap (λ (f : FactsOf). f.direct) c.facts-2.view_is) c.know_columns.ensures) (subst AreColumns (ap (λ (f : FactsOf). f.reverse) c.facts-2.view_is) c.know_columns-2.ensures))

pub returns : goal.returns
returns c =
    ok_script c.compile.result (layout_of c.args.store.now) (tables_of c.args.store.now) (stored_triples c.args.store.now) c.args.query.now c.in_ok-ids.ids c.in_ok-facts.facts c.in_ok-plan.plan c.in_ok-terms.terms.items
    (constants_named c.args.store.now c.deref.result.now c.in_ok-ids.ids c.in_ok-ids.ensures.exact ∙ c.deref.ensures.value) c.in_ok-terms.ensures
    (subst (λ (ts : List RdfTerm). AreIds (layout_of c.args.store.now) (tables_of c.args.store.now) (stored_triples c.args.store.now) ts c.in_ok-ids.ids) c.deref.ensures.value c.in_ok-ids.ensures.told)
    (subst (λ (ts : List RdfTerm). AreFacts (layout_of c.args.store.now) (tables_of c.args.store.now) (stored_triples c.args.store.now) ts c.in_ok-facts.facts) c.deref-2.ensures.value c.in_ok-facts.ensures.told)
    (subst (ComesFrom c.args.query.now) (sym c.in_ok-plan.ensures) (c.fragment_plans_come_from_queries.ensures c.in_ok-counts.counts c.args.query.now c.requires))
    c.compile.ensures
