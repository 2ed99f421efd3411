-- LeftJoin with a condition: three further steps, each of which reads the one before.
use Rattle.std.specs.Prelude.{◌+◌, ◌<◌, ◌||◌, ◌∷◌, ◌≡◌, Bool, List, Ok, Some, [], false, if◌then◌else◌, is_some, refl, true, ℕ}
use Rattle.std.proofs.Common.{◌∙◌, ap, ap₂, arith, subst, sym}
use Rattle.std.proofs.Math.Path.{fun_ext}
use Rattle.std.proofs.lemmas.Bool.{and_from, both_ways, eqb-true, false_from_ne_true}
use Rattle.std.proofs.lemmas.Slice.Eq.{bytes_eq-Decides}
use Rattle.std.specs.List.{AllByRecursion}
use Rattle.std.specs.Str.{bytes_eq}
use Rattle.layout_meaning.specs.Facts.{FactsOf, IdOf}
use Rattle.layout_standing_meaning.specs.Dictionary.{has_term, id_of}
use Rattle.layout_standing_meaning.specs.Schemas.{term_schema}
use Rattle.query_algebra_laws.specs.TreeSolutions.{binds-left, each-left_join}
use Rattle.query_eval_meaning.specs.Eval.{holds_over, left_join}
use Rattle.query_eval_meaning.specs.EvalLaws.{eval-LeftJoin}
use Rattle.query_eval_meaning.specs.Expressions.{truth_over}
use Rattle.query_eval_meaning.specs.Mapping.{Mapping}
use Rattle.query_eval_meaning.specs.Matches.{matches_of}
use Rattle.query_eval_meaning.specs.VariableLaws.{certain-LeftJoin, variables-LeftJoin}
use Rattle.query_eval_meaning.specs.Variables.{Binds as BindsSet, Variables}
use Rattle.query_meaning.specs.declared.expression.TruthExpr.{TruthExpr}
use Rattle.query_meaning.specs.declared.tree.Tree.{Tree}
use Rattle.query_plan_meaning.specs.Stars.{plan_solutions, stars_certain, stars_leaf, stars_variables}
use Rattle.query_plan_meaning.specs.declared.star.Star.{Star}
use Rattle.rdf_meaning.specs.Terms.{RdfTriple}
use Rattle.sql_gen_binding_laws.specs.StepBinds.{in_filter, once-both}
use Rattle.sql_gen_binding_laws.specs.StepColumns.{step_schema}
use Rattle.sql_gen_chain_binding_laws.specs.StepsBind.{no_step, one_step}
use Rattle.sql_gen_chain_laws.proofs.Behind.{base-after}
use Rattle.sql_gen_chain_laws.specs.Chains.{SameBase}
use Rattle.sql_gen_form_laws.proofs.Bodies.{body-fits, step-fits}
use Rattle.sql_gen_form_laws.proofs.Expressions.{truth-fits}
use Rattle.sql_gen_form_laws.proofs.Parts.{below_width, both-variables}
use Rattle.sql_gen_form_laws.proofs.Terms.{matches-fit, matches-no_refs, optional-fits, optional-no_refs}
use Rattle.sql_gen_form_laws.specs.Fits.{AreVariables, body_fits, step_fits}
use Rattle.sql_gen_matched_laws.proofs.Passed.{filter_matches}
use Rattle.sql_gen_matched_laws.proofs.PassedBinds.{passed_fine}
use Rattle.sql_gen_matched_laws.proofs.PassedFits.{passed-fits, passed-no_refs}
use Rattle.sql_gen_matched_laws.specs.PassedSelect.{passed_core}
use Rattle.sql_gen_node_laws.proofs.LoneNodes.{terms-name}
use Rattle.sql_gen_node_laws.proofs.Sides.{binds-list, has-both, ids-tell, lone-binds, lone-fits, lone-no_refs, lone-table, shared-left, shared-right, terms-seen_there, terms-there}
use Rattle.sql_gen_node_laws.specs.Nodes.{IsCondition, certain_own, certain_shared, conditional_out, conditional_steps, kept_step, matched_step, passed_step}
use Rattle.sql_gen_numbered_meaning.proofs.Apart.{different}
use Rattle.sql_gen_numbered_meaning.proofs.Written.{written-apart}
use Rattle.sql_gen_numbered_meaning.specs.Namings.{KeepsApart, is_table}
use Rattle.sql_gen_numbered_meaning.specs.Numbered.{body_under, lone, pairs_core, terms_name, written_from}
use Rattle.sql_gen_numbered_meaning.specs.declared.numbered.NumberedBody.{NumberedBody}
use Rattle.sql_gen_optional_binding_laws.specs.MatchBinds.{matches_fine, optional_fine}
use Rattle.sql_gen_optional_binding_laws.specs.MatchColumns.{match_schema}
use Rattle.sql_gen_optional_laws.specs.MatchRows.{Matches, optional_body}
use Rattle.sql_gen_optional_laws.specs.MatchStep.{match_step}
use Rattle.sql_gen_optional_laws.specs.OptionalStep.{optional_step}
use Rattle.sql_gen_out_laws.proofs.Chained.{no-primary}
use Rattle.sql_gen_out_laws.proofs.TwoOuts.{itself, outs-go-on}
use Rattle.sql_gen_out_laws.specs.Further.{Further, before_more}
use Rattle.sql_gen_out_laws.specs.Outs.{Out, StandsForNode, StandsOut, count}
use Rattle.sql_gen_step_laws.specs.Carried.{Binds, Carries, Name}
use Rattle.sql_gen_step_laws.specs.StepSelects.{both}
use Rattle.sql_gen_term_laws.specs.Filters.{Means}
use Rattle.sql_meaning.specs.Scripts.{body_refs, is_primary, most_levels}
use Rattle.sql_meaning.specs.declared.expression.SqlExpr.{SqlExpr}
use Rattle.sql_meaning.specs.declared.script.Core.{Core}
use Rattle.sql_meaning.specs.declared.script.Step.{Step}
use Rattle.sql_rows_meaning.specs.Binding.{check_body}
use Rattle.sql_rows_meaning.specs.CheckLaws.{check-Truth}
use Rattle.sql_rows_meaning.specs.Rows.{body_relation}
use Rattle.sql_rows_meaning.specs.Scopes.{Schemas, with_schema}
use Rattle.sql_rows_meaning.specs.Tables.{Relation, Relations, relations_of, with_relation}
use Rattle.sql_rows_meaning.specs.ValueLaws.{value_of-Truth}
use Rattle.query_meaning.specs.declared.tree.Tree.TheVariants as trees
use Rattle.sql_meaning.specs.declared.expression.SqlExpr.TheVariants as sql

-- the condition TRUE holds of every pair
every-means : Means [] (sql.Truth true) (λ m. Some true)
every-means m env shown = value_of-Truth true env

pub further : (facts : FactsOf) (ids : List IdOf) (x y : Out) (f : TruthExpr) (us : List ℕ) (condition : SqlExpr) (ls rs : List RdfTriple → List Mapping) (p q : ℕ) → IsCondition f us condition → StandsOut facts ids ls p x → StandsOut facts ids rs q y →
    Further facts ids x y (conditional_steps x y us condition) (before_more x y + 2) (both x.variables y.variables) ls rs (λ g. left_join (holds_over f) (ls g) (rs g)) 0
further facts ids x y f us condition ls rs p q c sx sy = record {
  same_refs = λ name a.
      let primary : (i : ℕ) → i < before_more x y + 3 → is_primary (name i) ≡ false = λ i l. no-primary (name i) (a.no_table i l) in
      let l = primary x.last (omega (arith, sx.last_there)) in
      let r = primary (count x + y.last) (omega (arith, sy.last_there)) in
      let m : body_refs (body_under name (matched_step x y)) ≡ 0 = lone-no_refs (pairs name) (matches-no_refs (name x.last) (name (count x + y.last)) terms_name l r refl x.variables y.variables [] (certain_shared x y) (sql.Truth true)) in
      let w : body_refs (body_under name (passed_step x y us condition)) ≡ 0 = lone-no_refs (kept name) (passed-no_refs (name (before_more x y)) terms_name (primary (before_more x y) (omega arith)) refl x.variables both_vars us condition) in
      let o : body_refs (body_under name (kept_step x y)) ≡ 0 = optional-no_refs (name x.last) (name (before_more x y + 1)) l (primary (before_more x y + 1) (omega arith)) x.variables y.variables (certain_own x) in
      ap₂ (λ i j. i + j) m (ap₂ (λ i j. i + (j + 0)) w o);
  forms = λ name a h.
      let l = h x.last (omega (arith, sx.last_there)) in
      let wide : AreVariables both_vars = both-variables x.variables y.variables sx.in_width sy.in_width in
      let m : body_fits (body_under name (matched_step x y)) ≡ true = lone-fits 4 (pairs name) (omega arith)
      (matches-fit 4 (omega arith) (name x.last) (name (count x + y.last)) terms_name l (h (count x + y.last) (omega (arith, sy.last_there))) terms-name x.variables y.variables [] (certain_shared x y) sx.in_width sy.in_width tt (sql.Truth true) (truth-fits 3 true)) in
      let w : body_fits (body_under name (passed_step x y us condition)) ≡ true = lone-fits most_levels (kept name) (omega arith)
      (passed-fits most_levels (omega arith) (name (before_more x y)) terms_name (h (before_more x y) (omega arith)) terms-name x.variables both_vars us sx.in_width wide c.in_width condition c.fits) in
      let o : body_fits (body_under name (kept_step x y)) ≡ true = body-fits 5 (body_under name (kept_step x y)) (omega arith)
      (optional-fits (name x.last) (name (before_more x y + 1)) l (h (before_more x y + 1) (omega arith)) x.variables y.variables (certain_own x) sx.in_width sy.in_width) in
      let one_of : (n : ℕ) (b : NumberedBody) → n < before_more x y + 3 → body_fits (body_under name b) ≡ true → step_fits (record { name = name n; body = body_under name b }) ≡ true =
      λ n b u e. step-fits (record { name = name n; body = body_under name b }) (h n u) e in
      and_from _ _ (one_of (before_more x y) (matched_step x y) (omega arith) m)
      (and_from _ _ (one_of (before_more x y + 1) (passed_step x y us condition) (omega arith) w) (and_from _ _ (one_of (before_more x y + 1 + 1) (kept_step x y) (omega arith) o) refl));
  binds = λ name a t ht free hx hy.
      let first = name (before_more x y) in
      let second = name (before_more x y + 1) in
      let third = name (before_more x y + 1 + 1) in
      let wide = match_schema x.variables both_vars in
      let columns = step_schema both_vars in
      let t1 : Schemas = with_schema first wide t in
      let t2 : Schemas = with_schema second wide t1 in
      let t3 : Schemas = with_schema third columns t2 in
      let new : is_some (t first) ≡ false = ap (λ i. is_some (t (name i))) (plus_none (before_more x y)) ∙ free 0 (omega arith) in
      let new1 : is_some (t1 second) ≡ false = ap (λ (v : Bool). is_some (if v then Some wide else t second)) (apart name a (before_more x y + 1) (before_more x y) (omega arith) (omega arith)) ∙ free 1 (omega arith) in
      let new2 : is_some (t2 third) ≡ false =
      ap (λ (v : Bool). is_some (if v then Some wide else t1 third)) (apart name a (before_more x y + 1 + 1) (before_more x y + 1) (omega arith) (omega arith))
      ∙ ap (λ (v : Bool). is_some (if v then Some wide else t third)) (apart name a (before_more x y + 1 + 1) (before_more x y) (omega arith) (omega arith))
      ∙ ap (λ i. is_some (t (name i))) (two_more (before_more x y)) ∙ free 2 (omega arith) in
      let left1 : t1 (name x.last) ≡ Some (step_schema x.variables) = ap (λ (v : Bool). if v then Some wide else t (name x.last)) (before name a x.last (before_more x y) (omega (arith, sx.last_there)) (omega arith)) ∙ hx in
      let left2 : t2 (name x.last) ≡ Some (step_schema x.variables) = ap (λ (v : Bool). if v then Some wide else t1 (name x.last)) (before name a x.last (before_more x y + 1) (omega (arith, sx.last_there)) (omega arith)) ∙ left1 in
      let pairs1 : t1 first ≡ Some wide = ap (λ (v : Bool). if v then Some wide else t first) (itself first) in
      let pairs2 : t2 second ≡ Some wide = ap (λ (v : Bool). if v then Some wide else t1 second) (itself second) in
      let terms1 : t1 terms_name ≡ Some term_schema = ap (λ (v : Bool). if v then Some wide else t terms_name) (no-terms first (a.no_table (before_more x y) (omega arith))) ∙ terms-seen_there facts t ht in
      let matched : (n : ℕ) → check_body t n (pairs name ∷ []) ≡ Ok wide = lone-binds t (pairs name) wide
      (matches_fine t (name x.last) (name (count x + y.last)) terms_name x.variables y.variables [] (certain_shared x y) hx hy (terms-seen_there facts t ht) sx.once sy.once tt (sql.Truth true) (λ s seen. check-Truth true s)) in
      let passed : (n : ℕ) → check_body t1 n (kept name ∷ []) ≡ Ok wide = lone-binds t1 (kept name) wide
      (passed_fine t1 first terms_name x.variables both_vars us pairs1 terms1 sx.once (once-both x.variables y.variables sx.once sy.once) c.once condition c.truth) in
      let whole : (n : ℕ) → check_body t2 n (optional_body (name x.last) second x.variables y.variables (certain_own x)).cores ≡ Ok columns =
      λ n. optional_fine t2 n (name x.last) second x.variables y.variables (certain_own x) left2 pairs2 sx.once sy.once in
      record {
        after = t3;
        bind = one_step (step_at name (before_more x y) (matched_step x y)) (step_at name (before_more x y + 1) (passed_step x y us condition) ∷ step_at name (before_more x y + 1 + 1) (kept_step x y) ∷ []) t t3 wide new matched
            (one_step (step_at name (before_more x y + 1) (passed_step x y us condition)) (step_at name (before_more x y + 1 + 1) (kept_step x y) ∷ []) t1 t3 wide new1 passed
            (one_step (step_at name (before_more x y + 1 + 1) (kept_step x y)) [] t2 t3 columns new2 whole (no_step t3)));
        there = ap (λ i. t3 (name i)) (sym (two_after (before_more x y))) ∙ ap (λ (v : Bool). if v then Some columns else t2 third) (itself third);
      };
  carries = λ name a layout tables g d t same cx cy.
      let first = name (before_more x y) in
      let second = name (before_more x y + 1) in
      let third = name (before_more x y + 1 + 1) in
      let es = d.contents.terms in
      let last = optional_body (name x.last) second x.variables y.variables (certain_own x) in
      let P : Relation → Type 0 = Carries (id_of es) (has_term es) both_vars (left_join (holds_over f) (ls g) (rs g)) in
      let t1 : Relations = with_relation first (body_relation t (lone (pairs name))) t in
      let t2 : Relations = with_relation second (body_relation t1 (lone (kept name))) t1 in
      let all : Matches (id_of es) (has_term es) x.variables both_vars (matches_of (λ m. true) (ls g) (rs g)) (t1 first) =
      subst (Matches (id_of es) (has_term es) x.variables both_vars (matches_of (λ m. true) (ls g) (rs g)))
      (sym (ap (λ (v : Bool). if v then body_relation t (lone (pairs name)) else t first) (itself first) ∙ lone-table t (pairs name)))
      (match_step (id_of es) (has_term es) (ids-tell es d.same_triples.own_terms) t (name x.last) (name (count x + y.last)) terms_name (terms-there layout facts ids tables g d t same) x.variables y.variables [] (certain_shared x y) (ls g) (rs g) cx cy
      (shared-left x y sx.in_width (ls g) (sx.bound g)) (shared-right x y sy.in_width (rs g) (sy.bound g)) (sql.Truth true) (λ m. Some true) every-means) in
      let same1 : SameBase is_table (relations_of tables) t1 =
      base-after is_table (relations_of tables) (written_from name (before_more x y) (matched_step x y ∷ [])) (written-apart name (before_more x y + 3) (before_more x y) (matched_step x y ∷ []) a (omega arith)) t same in
      let those : Matches (id_of es) (has_term es) x.variables both_vars (matches_of (holds_over f) (ls g) (rs g)) (t2 second) =
      subst (Matches (id_of es) (has_term es) x.variables both_vars (matches_of (holds_over f) (ls g) (rs g)))
      (sym (ap (λ (v : Bool). if v then body_relation t1 (lone (kept name)) else t1 second) (itself second) ∙ lone-table t1 (kept name)))
      (filter_matches (id_of es) (has_term es) t1 first terms_name (terms-there layout facts ids tables g d t1 same1) x.variables both_vars us (ls g) (rs g) all condition (truth_over f) c.means) in
      let left1 : t1 (name x.last) ≡ t (name x.last) = ap (λ (v : Bool). if v then body_relation t (lone (pairs name)) else t (name x.last)) (before name a x.last (before_more x y) (omega (arith, sx.last_there)) (omega arith)) in
      let left2 : t2 (name x.last) ≡ t1 (name x.last) = ap (λ (v : Bool). if v then body_relation t1 (lone (kept name)) else t1 (name x.last)) (before name a x.last (before_more x y + 1) (omega (arith, sx.last_there)) (omega arith)) in
      let left : Carries (id_of es) (has_term es) x.variables (ls g) (t2 (name x.last)) = subst (Carries (id_of es) (has_term es) x.variables (ls g)) (sym (left2 ∙ left1)) cx in
      let mine : AllByRecursion (Binds (certain_own x)) (ls g) = binds-list x.certain (certain_own x) (λ v e. below_width x.variables sx.in_width v (in_filter x.certain x.variables v e).0) (λ v e. (in_filter x.certain x.variables v e).1) (ls g) (sx.bound g) in
      let whole : P (body_relation t2 last) = optional_step (id_of es) (has_term es) (ids-tell es d.same_triples.own_terms) t2 (name x.last) second x.variables y.variables (certain_own x) (ls g) (rs g) (holds_over f) left cy.fits cy.below those mine in
      let is : with_relation third (body_relation t2 last) t2 third ≡ body_relation t2 last = ap (λ (v : Bool). if v then body_relation t2 last else t2 third) (itself third) in
      subst (λ i. P (with_relation third (body_relation t2 last) t2 (name i))) (two_after (before_more x y)) (subst P (sym is) whole);
}
  where
    both_vars : List ℕ
    both_vars = both x.variables y.variables

    pairs : (ℕ → Name) → Core
    pairs name = pairs_core (name x.last) (name (count x + y.last)) x.variables y.variables (certain_shared x y)

    kept : (ℕ → Name) → Core
    kept name = passed_core (name (before_more x y)) terms_name x.variables both_vars us condition

    step_at : (ℕ → Name) → ℕ → NumberedBody → Step
    step_at name n b = record { name = name n; body = body_under name b }

    plus_none : (n : ℕ) → n ≡ n + 0
    plus_none n = omega arith

    two_more : (n : ℕ) → n + 1 + 1 ≡ n + 2
    two_more n = omega arith

    two_after : (n : ℕ) → n + 1 + 1 ≡ n + 2
    two_after n = omega arith

    before : (name : ℕ → Name) → KeepsApart (before_more x y + 3) name → (i j : ℕ) → i < j → j < before_more x y + 3 → bytes_eq (name i) (name j) ≡ false
    before name a i j l m = a.own i j (omega arith) m ∙ different i j l

    apart : (name : ℕ → Name) → KeepsApart (before_more x y + 3) name → (i j : ℕ) → j < i → i < before_more x y + 3 → bytes_eq (name i) (name j) ≡ false
    apart name a i j l m = a.own i j m (omega arith) ∙ false_from_ne_true _ (λ e. let q : i ≡ j = eqb-true i j e in absurd (omega arith))

    no-terms : (n : Name) → is_table n ≡ false → bytes_eq terms_name n ≡ false
    no-terms n e = false_from_ne_true _ (λ h.
        let same : terms_name ≡ n = (bytes_eq-Decides terms_name n).0 h in
        both_ways (is_table n) e (subst (λ (z : Name). is_table z ≡ true) same refl))

pub conditional-of_outs : (facts : FactsOf) (ids : List IdOf) (x y : Out) (f : TruthExpr) (us : List ℕ) (condition : SqlExpr) (ls rs : List RdfTriple → List Mapping) (p q : ℕ) → IsCondition f us condition → StandsOut facts ids ls p x → StandsOut facts ids rs q y →
    StandsOut facts ids (λ g. left_join (holds_over f) (ls g) (rs g)) (p + q + 0) (conditional_out x y us condition)
conditional-of_outs facts ids x y f us condition ls rs p q c sx sy =
    outs-go-on facts ids x y (conditional_steps x y us condition) (before_more x y + 2) (both x.variables y.variables) x.certain ls rs (λ g. left_join (holds_over f) (ls g) (rs g)) p q 0 sx sy
    (further facts ids x y f us condition ls rs p q c sx sy) (omega arith) (once-both x.variables y.variables sx.once sy.once) (both-variables x.variables y.variables sx.in_width sy.in_width)
    (λ g. each-left_join (BindsSet x.certain) (BindsSet y.certain) (BindsSet x.certain) (holds_over f) (λ a b h k. binds-left x.certain a b h) (λ a h. h) (ls g) (rs g) (sx.bound g) (sy.bound g))

pub conditional-of_nodes : (facts : FactsOf) (ids : List IdOf) (a b : Tree (List Star)) (f : TruthExpr) (x y : Out) (us : List ℕ) (condition : SqlExpr) (p q : ℕ) → IsCondition f us condition →
    StandsForNode facts ids a p x → StandsForNode facts ids b q y → StandsForNode facts ids (trees.LeftJoin a b (Some f)) (p + q + 0) (conditional_out x y us condition)
conditional-of_nodes facts ids a b f x y us condition p q c sx sy = record {
  solutions = subst (λ (s : List RdfTriple → List Mapping). StandsOut facts ids s (p + q + 0) (conditional_out x y us condition)) (sym (fun_ext (λ g. eval-LeftJoin (stars_leaf g) a b (Some f))))
      (conditional-of_outs facts ids x y f us condition (plan_solutions a) (plan_solutions b) p q c sx.solutions sy.solutions);
  variables = λ v. has-both x.variables y.variables v ∙ ap₂ (λ i j. i || j) (sx.variables v) (sy.variables v) ∙ sym (ap (λ (s : Variables). s v) (variables-LeftJoin stars_variables a b (Some f)));
  certain = λ v. sx.certain v ∙ sym (ap (λ (s : Variables). s v) (certain-LeftJoin stars_certain a b (Some f)));
}
