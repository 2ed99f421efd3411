-- The script of an out is right.
use Rattle.std.specs.Prelude.{◌+◌, ◌<◌, ◌^◌, ◌∷◌, ◌≡◌, ◌≤◌, List, None, Ok, Option, Some, [], false, length, refl, true, ℕ}
use Rattle.std.proofs.Common.{◌∙◌, ◌⊎◌, ap, ap₂, arith, inl, inr, length-append, subst}
use Rattle.std.proofs.lemmas.Bool.{cases_Bool, lt-ltb, or_cases}
use Rattle.std.proofs.lemmas.List.{append-nil}
use Rattle.std.specs.List.{AllByRecursion, filter}
use Rattle.layout_meaning.specs.Facts.{FactsOf, IdOf}
use Rattle.layout_standing_meaning.specs.Dictionary.{Entry, IsTerm, has_term, id_of}
use Rattle.query_eval_meaning.specs.Answer.{Row, ordered_answer}
use Rattle.query_eval_meaning.specs.Mapping.{Mapping}
use Rattle.query_meaning.specs.declared.modifiers.Modifiers.{Modifiers}
use Rattle.query_merging_meaning.specs.Accesses.{accesses}
use Rattle.query_plan_meaning.specs.Stars.{plan_solutions}
use Rattle.query_plan_meaning.specs.declared.plan.Plan.{Plan}
use Rattle.rdf_meaning.specs.TermLaws.{same_term-is}
use Rattle.rdf_meaning.specs.Terms.{RdfTerm, RdfTriple, is_term, same_term}
use Rattle.sql_gen_answer_meaning.specs.Columns.{answer_columns}
use Rattle.sql_gen_answer_meaning.specs.Decode.{decode}
use Rattle.sql_gen_chain_binding_laws.proofs.Behind.{script-binds}
use Rattle.sql_gen_chain_laws.proofs.Behind.{base-after}
use Rattle.sql_gen_chain_laws.specs.Chains.{SameBase}
use Rattle.sql_gen_form_laws.proofs.Bodies.{script-writable}
use Rattle.sql_gen_last_binding_laws.proofs.LastBinds.{last-fine}
use Rattle.sql_gen_last_form_laws.proofs.LastForms.{last-fits, last-no_refs}
use Rattle.sql_gen_last_form_laws.specs.Bounds.{AreBounded}
use Rattle.sql_gen_last_laws.proofs.DistinctAnswer.{distinct-answer}
use Rattle.sql_gen_last_laws.proofs.LastRows.{last-answer}
use Rattle.sql_gen_last_laws.specs.DistinctSelect.{distinct_parts, is_distinct_first, repeated}
use Rattle.sql_gen_last_laws.specs.LastSelect.{last_core}
use Rattle.sql_gen_meaning.specs.Compilable.{AreShort, IsShortBound}
use Rattle.sql_gen_meaning.specs.RightScripts.{IsRightScript, five_schemas}
use Rattle.sql_gen_node_laws.proofs.LoneNodes.{terms-name}
use Rattle.sql_gen_node_laws.proofs.Sides.{lone-binds, lone-fits, lone-no_refs, terms-seen_there, terms-there}
use Rattle.sql_gen_node_laws.specs.Nodes.{certain_own}
use Rattle.sql_gen_numbered_meaning.proofs.StepNames.{names-apart, names-are_names}
use Rattle.sql_gen_numbered_meaning.proofs.Written.{written-apart}
use Rattle.sql_gen_numbered_meaning.specs.Namings.{KeepsApart, is_table, step_name}
use Rattle.sql_gen_numbered_meaning.specs.Numbered.{lone, terms_name, written}
use Rattle.sql_gen_numbered_meaning.specs.declared.numbered.NumberedBody.TheVariants.{Distinct}
use Rattle.sql_gen_out_laws.proofs.Chained.{no-primary, tables-after}
use Rattle.sql_gen_out_laws.specs.Outs.{AreFree, HasTables, Out, StandsForNode, StandsOut, count}
use Rattle.sql_gen_script_laws.proofs.Distinct.{distinct-of_out, once-distinct}
use Rattle.sql_gen_script_laws.specs.Scripts.{distinct_out, script_of, script_over}
use Rattle.sql_meaning.specs.Scripts.{count_form}
use Rattle.sql_meaning.specs.declared.script.Core.{Core}
use Rattle.sql_rows_meaning.specs.Rows.{after_steps}
use Rattle.sql_rows_meaning.specs.Scopes.{schemas_of}
use Rattle.sql_rows_meaning.specs.Selects.{select_rows}
use Rattle.sql_rows_meaning.specs.Tables.{Relations, relations_of}

known-form : (es : List Entry) → AllByRecursion (λ (e : Entry). IsTerm e.term) es → (t : RdfTerm) → has_term es t ≡ true → is_term t.kind t.text t.aux ≡ true
known-form [] all t h = cc
known-form (e ∷ es) all t h = go (or_cases (same_term e.term t) (has_term es t) h) (known-form es all.1 t)
  where
    go : (same_term e.term t ≡ true) ⊎ (has_term es t ≡ true) → (has_term es t ≡ true → is_term t.kind t.text t.aux ≡ true) → is_term t.kind t.text t.aux ≡ true
    go (inl k) r = subst (λ (x : RdfTerm). IsTerm x) (same_term-is e.term t k) all.0
    go (inr k) r = r k

-- no table has a step's name
free-names : (facts : FactsOf) (m : ℕ) → AreFree step_name 0 m (schemas_of (five_schemas facts))
free-names facts m i l = refl

-- an out that stands for solutions, with the last SELECT behind it
pub script-right : (plan : Plan) (facts : FactsOf) (ids : List IdOf) (sols : List RdfTriple → List Mapping) (refs : ℕ) (out : Out) (certain : List ℕ) (q : Modifiers) → count out ≤ 2 ^ 64 → AreBounded q →
    StandsOut facts ids sols refs out → refs ≡ accesses facts plan.tree → q.shown ≡ plan.modifiers.shown → ((g : List RdfTriple) → ordered_answer q (sols g) ≡ ordered_answer plan.modifiers (plan_solutions plan.tree g)) →
    IsRightScript plan facts ids (script_over out certain q)
script-right plan facts ids sols refs out certain q few short s many shown answer = record {
  binds =
      let b = s.binds step_name apart (schemas_of (five_schemas facts)) (λ n e. refl) (free-names facts (count out)) in
      let tables : HasTables facts b.after = tables-after facts (written step_name out.steps) (schemas_of (five_schemas facts)) b.after b.bind (written-apart step_name (count out) 0 out.steps apart (omega arith)) (λ n e. refl) in
      script-binds (written step_name out.steps) (schemas_of (five_schemas facts)) b.after (last ∷ []) (answer_columns (length q.shown)) b.bind
      (λ n. lone-binds b.after last (answer_columns (length q.shown)) (last-fine b.after (step_name out.last) terms_name out.variables certain q b.there (terms-seen_there facts b.after tables) short.places) n) 1
      ∙ ap (λ (vs : List ℕ). Ok (answer_columns (length vs))) shown;
  writable = script-writable (written step_name out.steps) (lone last)
      (s.forms step_name apart (λ i l. names-are_names i (omega arith))) (lone-fits 3 last (omega arith) (last-fits (step_name out.last) terms_name (names-are_names out.last (omega (arith, s.last_there))) terms-name out.variables certain q short));
  same_refs =
      let z : refs + 0 ≡ refs = omega arith in
      ap₂ (λ i j. i + j) (s.same_refs step_name apart) (lone-no_refs last (last-no_refs (step_name out.last) terms_name (no-primary (step_name out.last) (apart.no_table out.last s.last_there)) refl out.variables certain q)) ∙ z ∙ many;
  answers = λ layout tables g d.
      let given : Relations = relations_of tables in
      let steps = written step_name out.steps in
      let after : Relations = after_steps steps given in
      let st = s.stands step_name apart layout tables g d in
      let same : SameBase is_table given after = base-after is_table given steps st.apart given (λ n e. refl) in
      ap decode (append-nil (select_rows after last))
      ∙ last-answer (id_of d.contents.terms) (has_term d.contents.terms) after (step_name out.last) terms_name (terms-there layout facts ids tables g d after same)
      (known-form d.contents.terms d.same_triples.own_terms.terms) out.variables certain (sols g) (st.carries given (λ n e. refl)) q
      ∙ ap (λ (rows : List Row). Some rows) (answer g);
}
  where
    apart : KeepsApart (count out) step_name
    apart = names-apart (count out) few

    last : Core
    last = last_core (step_name out.last) terms_name out.variables certain q

-- ---- bounds

-- counts of at most 18 digits have a text
most-bounded : (n : Option ℕ) → IsShortBound n → count_form n ≡ true
most-bounded None short = refl
most-bounded (Some n) short = lt-ltb n 1000000000000000000 short

bounded : (q : Modifiers) → AreShort q → AreBounded q
bounded q short = record { shown = short.in_width; keys = short.keys_in_width; places = omega (arith, short.few); most = most-bounded q.most short.most; skip = short.skip }

bounded-repeated : (q : Modifiers) → AreBounded q → AreBounded (repeated q)
bounded-repeated q b = record { shown = b.shown; keys = b.keys; places = b.places; most = b.most; skip = b.skip }

-- ---- the whole

pub scripts-right : (plan : Plan) (facts : FactsOf) (ids : List IdOf) (out : Out) → count out < 2 ^ 64 → AreShort plan.modifiers →
    StandsForNode facts ids plan.tree (accesses facts plan.tree) out → IsRightScript plan facts ids (script_of out plan.modifiers)
scripts-right plan facts ids out few short s = go (cases_Bool (is_distinct_first plan.modifiers))
  where
    q : Modifiers
    q = plan.modifiers

    go : (is_distinct_first q ≡ true) ⊎ (is_distinct_first q ≡ false) → IsRightScript plan facts ids (script_of out q)
    go (inl e) = rw e
        (script-right plan facts ids (λ g. distinct_parts q.shown (plan_solutions plan.tree g)) (accesses facts plan.tree + 0) (distinct_out out q.shown) (filter out.certain q.shown) (repeated q)
        (omega (arith, length-append out.steps (Distinct out.last out.variables q.shown ∷ []))) (bounded-repeated q (bounded q short))
        (distinct-of_out facts ids out q.shown (plan_solutions plan.tree) (accesses facts plan.tree) (once-distinct q.shown short.distinct) short.in_width s.solutions) (omega arith) refl (λ g. distinct-answer q (plan_solutions plan.tree g) e))
    go (inr e) = rw e (script-right plan facts ids (plan_solutions plan.tree) (accesses facts plan.tree) out (certain_own out) q (omega arith) (bounded q short) s.solutions refl refl (λ g. refl))
