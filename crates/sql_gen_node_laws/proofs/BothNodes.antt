-- Join, LeftJoin without a condition, and Union of two outs.
use Rattle.std.specs.Prelude.{◌&&◌, ◌++◌, ◌+◌, ◌||◌, ◌∷◌, Bool, List, None, [], false, true, ℕ}
use Rattle.std.proofs.Common.{◌∙◌, ap, ap₂, arith, subst, sym}
use Rattle.std.proofs.Math.Path.{fun_ext}
use Rattle.std.proofs.lemmas.Bool.{and_parts}
use Rattle.bags.specs.BagLaws.{each-append, each-weaker}
use Rattle.layout_meaning.specs.Facts.{FactsOf, IdOf}
use Rattle.layout_standing_meaning.specs.Dictionary.{has_term, id_of}
use Rattle.query_algebra_laws.specs.TreeSolutions.{binds-left, binds-merge, each-join, each-left_join}
use Rattle.query_eval_meaning.specs.Eval.{join, left_join}
use Rattle.query_eval_meaning.specs.EvalLaws.{eval-Join, eval-LeftJoin, eval-Union}
use Rattle.query_eval_meaning.specs.Mapping.{Mapping}
use Rattle.query_eval_meaning.specs.VariableLaws.{certain-Join, certain-LeftJoin, certain-Union, variables-Join, variables-LeftJoin, variables-Union}
use Rattle.query_eval_meaning.specs.Variables.{Binds, Variables, in_both, in_either}
use Rattle.query_meaning.specs.declared.tree.Tree.{Tree}
use Rattle.query_plan_meaning.specs.Stars.{plan_solutions, stars_certain, stars_leaf, stars_variables}
use Rattle.query_plan_meaning.specs.declared.star.Star.{Star}
use Rattle.rdf_meaning.specs.Terms.{RdfTriple}
use Rattle.sql_gen_binding_laws.specs.StepBinds.{join_fine, once-both, union_fine}
use Rattle.sql_gen_binding_laws.specs.StepColumns.{step_schema}
use Rattle.sql_gen_form_laws.proofs.Bodies.{body-fits}
use Rattle.sql_gen_form_laws.proofs.Joins.{join-fits, join-no_refs, union-fits, union-no_refs}
use Rattle.sql_gen_form_laws.proofs.Parts.{both-variables}
use Rattle.sql_gen_node_laws.proofs.Sides.{has-both, ids-tell, lone-binds, lone-fits, lone-no_refs, lone-table, shared-left, shared-right}
use Rattle.sql_gen_node_laws.specs.Nodes.{certain_shared}
use Rattle.sql_gen_numbered_meaning.specs.declared.numbered.NumberedBody.{NumberedBody}
use Rattle.sql_gen_numbered_meaning.specs.declared.numbered.NumberedBody.TheVariants.{Joined, United}
use Rattle.sql_gen_out_laws.proofs.Chained.{no-primary}
use Rattle.sql_gen_out_laws.proofs.TwoOuts.{one-goes-on}
use Rattle.sql_gen_out_laws.specs.Further.{before_more, put_behind}
use Rattle.sql_gen_out_laws.specs.Outs.{Out, StandsForNode, StandsOut, count}
use Rattle.sql_gen_step_laws.specs.Carried.{Carries}
use Rattle.sql_gen_step_laws.specs.JoinStep.{join_step}
use Rattle.sql_gen_step_laws.specs.LeftStep.{left_join_step}
use Rattle.sql_gen_step_laws.specs.StepSelects.{both, join_core, union_body}
use Rattle.sql_gen_step_laws.specs.UnionStep.{union_step}
use Rattle.query_meaning.specs.declared.tree.Tree.TheVariants as trees

-- ---- Join and LeftJoin

abbrev pub pair_step : Bool → Out → Out → NumberedBody
pair_step left x y = Joined left x.last (count x + y.last) x.variables y.variables (certain_shared x y)

abbrev pub joined_out : Out → Out → Out
joined_out x y = put_behind x y (pair_step false x y ∷ []) (before_more x y) (both x.variables y.variables) (in_either x.certain y.certain)

abbrev pub optional_out : Out → Out → Out
optional_out x y = put_behind x y (pair_step true x y ∷ []) (before_more x y) (both x.variables y.variables) x.certain

abbrev pub united_out : Out → Out → Out
united_out x y = put_behind x y (United x.last (count x + y.last) x.variables y.variables ∷ []) (before_more x y) (both x.variables y.variables) (in_both x.certain y.certain)

pub join-of_outs : (facts : FactsOf) (ids : List IdOf) (x y : Out) (ls rs : List RdfTriple → List Mapping) (p q : ℕ) →
    StandsOut facts ids ls p x → StandsOut facts ids rs q y → StandsOut facts ids (λ g. join (ls g) (rs g)) (p + q + 0) (joined_out x y)
join-of_outs facts ids x y ls rs p q sx sy =
    one-goes-on facts ids x y (pair_step false x y) (both x.variables y.variables) (in_either x.certain y.certain) ls rs (λ g. join (ls g) (rs g)) p q 0 sx sy
    (record {
      same_refs = λ name a. lone-no_refs (join_core false (name x.last) (name (count x + y.last)) x.variables y.variables (certain_shared x y))
          (join-no_refs false (name x.last) (name (count x + y.last)) (no-primary (name x.last) (a.no_table x.last (omega (arith, sx.last_there)))) (no-primary (name (count x + y.last)) (a.no_table (count x + y.last) (omega (arith, sy.last_there)))) x.variables y.variables (certain_shared x y));
      forms = λ name h. lone-fits 4 (join_core false (name x.last) (name (count x + y.last)) x.variables y.variables (certain_shared x y)) (omega arith)
          (join-fits false (name x.last) (name (count x + y.last)) (h x.last (omega (arith, sx.last_there))) (h (count x + y.last) (omega (arith, sy.last_there))) x.variables y.variables (certain_shared x y) sx.in_width sy.in_width);
      binds = λ name t ht hx hy. lone-binds t (join_core false (name x.last) (name (count x + y.last)) x.variables y.variables (certain_shared x y)) (step_schema (both x.variables y.variables))
          (join_fine t false (name x.last) (name (count x + y.last)) x.variables y.variables (certain_shared x y) hx hy sx.once sy.once);
      carries = λ name layout tables g d t same cx cy.
          subst (Carries (id_of d.contents.terms) (has_term d.contents.terms) (both x.variables y.variables) (join (ls g) (rs g))) (sym (lone-table t (join_core false (name x.last) (name (count x + y.last)) x.variables y.variables (certain_shared x y))))
          (join_step (id_of d.contents.terms) (has_term d.contents.terms) (ids-tell d.contents.terms d.same_triples.own_terms) t (name x.last) (name (count x + y.last)) x.variables y.variables (certain_shared x y) (ls g) (rs g) cx cy
          (shared-left x y sx.in_width (ls g) (sx.bound g)) (shared-right x y sy.in_width (rs g) (sy.bound g)));
    })
    (once-both x.variables y.variables sx.once sy.once) (both-variables x.variables y.variables sx.in_width sy.in_width)
    (λ g. each-join (Binds x.certain) (Binds y.certain) (Binds (in_either x.certain y.certain)) (λ a b h k. binds-merge x.certain y.certain a b h k) (ls g) (rs g) (sx.bound g) (sy.bound g))

pub optional-of_outs : (facts : FactsOf) (ids : List IdOf) (x y : Out) (ls rs : List RdfTriple → List Mapping) (p q : ℕ) →
    StandsOut facts ids ls p x → StandsOut facts ids rs q y → StandsOut facts ids (λ g. left_join (λ m. true) (ls g) (rs g)) (p + q + 0) (optional_out x y)
optional-of_outs facts ids x y ls rs p q sx sy =
    one-goes-on facts ids x y (pair_step true x y) (both x.variables y.variables) x.certain ls rs (λ g. left_join (λ m. true) (ls g) (rs g)) p q 0 sx sy
    (record {
      same_refs = λ name a. lone-no_refs (join_core true (name x.last) (name (count x + y.last)) x.variables y.variables (certain_shared x y))
          (join-no_refs true (name x.last) (name (count x + y.last)) (no-primary (name x.last) (a.no_table x.last (omega (arith, sx.last_there)))) (no-primary (name (count x + y.last)) (a.no_table (count x + y.last) (omega (arith, sy.last_there)))) x.variables y.variables (certain_shared x y));
      forms = λ name h. lone-fits 4 (join_core true (name x.last) (name (count x + y.last)) x.variables y.variables (certain_shared x y)) (omega arith)
          (join-fits true (name x.last) (name (count x + y.last)) (h x.last (omega (arith, sx.last_there))) (h (count x + y.last) (omega (arith, sy.last_there))) x.variables y.variables (certain_shared x y) sx.in_width sy.in_width);
      binds = λ name t ht hx hy. lone-binds t (join_core true (name x.last) (name (count x + y.last)) x.variables y.variables (certain_shared x y)) (step_schema (both x.variables y.variables))
          (join_fine t true (name x.last) (name (count x + y.last)) x.variables y.variables (certain_shared x y) hx hy sx.once sy.once);
      carries = λ name layout tables g d t same cx cy.
          subst (Carries (id_of d.contents.terms) (has_term d.contents.terms) (both x.variables y.variables) (left_join (λ m. true) (ls g) (rs g))) (sym (lone-table t (join_core true (name x.last) (name (count x + y.last)) x.variables y.variables (certain_shared x y))))
          (left_join_step (id_of d.contents.terms) (has_term d.contents.terms) (ids-tell d.contents.terms d.same_triples.own_terms) t (name x.last) (name (count x + y.last)) x.variables y.variables (certain_shared x y) (ls g) (rs g) cx cy
          (shared-left x y sx.in_width (ls g) (sx.bound g)) (shared-right x y sy.in_width (rs g) (sy.bound g)));
    })
    (once-both x.variables y.variables sx.once sy.once) (both-variables x.variables y.variables sx.in_width sy.in_width)
    (λ g. each-left_join (Binds x.certain) (Binds y.certain) (Binds x.certain) (λ m. true) (λ a b h k. binds-left x.certain a b h) (λ a h. h) (ls g) (rs g) (sx.bound g) (sy.bound g))

-- ---- Union

pub union-of_outs : (facts : FactsOf) (ids : List IdOf) (x y : Out) (ls rs : List RdfTriple → List Mapping) (p q : ℕ) →
    StandsOut facts ids ls p x → StandsOut facts ids rs q y → StandsOut facts ids (λ g. ls g ++ rs g) (p + q + 0) (united_out x y)
union-of_outs facts ids x y ls rs p q sx sy =
    one-goes-on facts ids x y (United x.last (count x + y.last) x.variables y.variables) (both x.variables y.variables) (in_both x.certain y.certain) ls rs (λ g. ls g ++ rs g) p q 0 sx sy
    (record {
      same_refs = λ name a. union-no_refs (name x.last) (name (count x + y.last)) (no-primary (name x.last) (a.no_table x.last (omega (arith, sx.last_there)))) (no-primary (name (count x + y.last)) (a.no_table (count x + y.last) (omega (arith, sy.last_there)))) x.variables y.variables;
      forms = λ name h. body-fits 1 (union_body (name x.last) (name (count x + y.last)) x.variables y.variables) (omega arith)
          (union-fits (name x.last) (name (count x + y.last)) (h x.last (omega (arith, sx.last_there))) (h (count x + y.last) (omega (arith, sy.last_there))) x.variables y.variables sx.in_width sy.in_width);
      binds = λ name t ht hx hy n. union_fine t n (name x.last) (name (count x + y.last)) x.variables y.variables hx hy sx.once sy.once;
      carries = λ name layout tables g d t same cx cy. union_step (id_of d.contents.terms) (has_term d.contents.terms) t (name x.last) (name (count x + y.last)) x.variables y.variables (ls g) (rs g) cx cy;
    })
    (once-both x.variables y.variables sx.once sy.once) (both-variables x.variables y.variables sx.in_width sy.in_width)
    (λ g. each-append (Binds (in_both x.certain y.certain)) (ls g) (rs g)
    (each-weaker (Binds x.certain) (Binds (in_both x.certain y.certain)) (λ m b. record { bound = λ v l e. b.bound v l (and_parts (x.certain v) (y.certain v) e).0 }) (ls g) (sx.bound g))
    (each-weaker (Binds y.certain) (Binds (in_both x.certain y.certain)) (λ m b. record { bound = λ v l e. b.bound v l (and_parts (x.certain v) (y.certain v) e).1 }) (rs g) (sy.bound g)))

-- ---- nodes

pub join-of_nodes : (facts : FactsOf) (ids : List IdOf) (a b : Tree (List Star)) (x y : Out) (p q : ℕ) →
    StandsForNode facts ids a p x → StandsForNode facts ids b q y → StandsForNode facts ids (trees.Join a b) (p + q + 0) (joined_out x y)
join-of_nodes facts ids a b x y p q sx sy = record {
  solutions = subst (λ (s : List RdfTriple → List Mapping). StandsOut facts ids s (p + q + 0) (joined_out x y)) (sym (fun_ext (λ g. eval-Join (stars_leaf g) a b)))
      (join-of_outs facts ids x y (plan_solutions a) (plan_solutions b) p q sx.solutions sy.solutions);
  variables = λ v. has-both x.variables y.variables v ∙ ap₂ (λ i j. i || j) (sx.variables v) (sy.variables v) ∙ sym (ap (λ (s : Variables). s v) (variables-Join stars_variables a b));
  certain = λ v. ap₂ (λ i j. i || j) (sx.certain v) (sy.certain v) ∙ sym (ap (λ (s : Variables). s v) (certain-Join stars_certain a b));
}

pub optional-of_nodes : (facts : FactsOf) (ids : List IdOf) (a b : Tree (List Star)) (x y : Out) (p q : ℕ) →
    StandsForNode facts ids a p x → StandsForNode facts ids b q y → StandsForNode facts ids (trees.LeftJoin a b None) (p + q + 0) (optional_out x y)
optional-of_nodes facts ids a b x y p q sx sy = record {
  solutions = subst (λ (s : List RdfTriple → List Mapping). StandsOut facts ids s (p + q + 0) (optional_out x y)) (sym (fun_ext (λ g. eval-LeftJoin (stars_leaf g) a b None)))
      (optional-of_outs facts ids x y (plan_solutions a) (plan_solutions b) p q sx.solutions sy.solutions);
  variables = λ v. has-both x.variables y.variables v ∙ ap₂ (λ i j. i || j) (sx.variables v) (sy.variables v) ∙ sym (ap (λ (s : Variables). s v) (variables-LeftJoin stars_variables a b None));
  certain = λ v. sx.certain v ∙ sym (ap (λ (s : Variables). s v) (certain-LeftJoin stars_certain a b None));
}

pub union-of_nodes : (facts : FactsOf) (ids : List IdOf) (a b : Tree (List Star)) (x y : Out) (p q : ℕ) →
    StandsForNode facts ids a p x → StandsForNode facts ids b q y → StandsForNode facts ids (trees.Union a b) (p + q + 0) (united_out x y)
union-of_nodes facts ids a b x y p q sx sy = record {
  solutions = subst (λ (s : List RdfTriple → List Mapping). StandsOut facts ids s (p + q + 0) (united_out x y)) (sym (fun_ext (λ g. eval-Union (stars_leaf g) a b)))
      (union-of_outs facts ids x y (plan_solutions a) (plan_solutions b) p q sx.solutions sy.solutions);
  variables = λ v. has-both x.variables y.variables v ∙ ap₂ (λ i j. i || j) (sx.variables v) (sy.variables v) ∙ sym (ap (λ (s : Variables). s v) (variables-Union stars_variables a b));
  certain = λ v. ap₂ (λ i j. i && j) (sx.certain v) (sy.certain v) ∙ sym (ap (λ (s : Variables). s v) (certain-Union stars_certain a b));
}
