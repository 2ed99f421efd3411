-- The SQL of a whole expression gives the expression's truth.
use Rattle.std.proofs.Common.{◌≡◌, ℕ, Bool, true, List, [], ◌∷◌, map, refl, sym, ap, ◌∙◌, subst}
use Rattle.std.specs.List.{list_all, AllByRecursion}
use Rattle.std.proofs.lemmas.Bool.{and_parts}
use Rattle.query_meaning.specs.declared.expression.ValueExpr.{ValueExpr}
use Rattle.query_meaning.specs.declared.expression.TruthExpr.{TruthExpr, map-TruthExpr}
use Rattle.query_meaning.specs.declared.expression.TruthExpr.TheOpen as truth
use Rattle.query_meaning.specs.declared.expression.TruthExpr.TheOpen.{TruthExpr-F}
use Rattle.query_meaning.specs.declared.expression.TruthExpr.TheFolds.{fold-roll-TruthExpr, ind-TruthExpr}
use Rattle.query_meaning.specs.declared.expression.TruthExpr.TheViews as truth_views
use Rattle.query_eval_meaning.specs.Mapping.{Mapping}
use Rattle.query_eval_meaning.specs.Expressions.{value_over, truth_step, truth_over, all3, any3}
use Rattle.query_eval_meaning.specs.Expressions.{Truth as Truth3}
use Rattle.sql_meaning.specs.declared.expression.SqlExpr.{SqlExpr}
use Rattle.sql_gen_step_laws.specs.StepSelects.{has}
use Rattle.sql_gen_term_laws.specs.Filters.{Means, truth_cell}
use Rattle.sql_gen_filter_laws.specs.Shown.{Gives}
use Rattle.sql_gen_filter_meaning.specs.Chains.{value_sql}
use Rattle.sql_gen_filter_meaning.specs.Filters.{filter_sql, filter_sql_step}
use Rattle.sql_gen_filter_meaning.specs.Leaves.{value_names, truth_names, truth_passes_step, any_term}
use Rattle.sql_gen_filter_laws.proofs.Chains.{value_gives}
use Rattle.sql_gen_filter_laws.proofs.Nodes.{means_compare, means_same, means_kind, means_effective, means_bound, means_not, means_all, means_any, means_one_of}

module _ (us : List ℕ) where
  values_give : (es : List ValueExpr) → list_all (value_names us) es ≡ true → AllByRecursion (λ e. Gives us (value_sql e) (value_over e)) es
  values_give [] h = _
  values_give (e ∷ es) h = let p = and_parts (value_names us e) (list_all (value_names us) es) h in (value_gives us e p.0, values_give es p.1)

  -- ---- truths

  abbrev TruthSo : TruthExpr → Type 0
  TruthSo e = truth_names us e ≡ true → Means us (filter_sql e) (truth_over e)

  truth_level : (d : TruthExpr-F TruthExpr) →
      (truth_passes_step (has us) any_term (map-TruthExpr TruthExpr Bool (truth_names us) d) ≡ true → Means us (filter_sql_step (map-TruthExpr TruthExpr SqlExpr filter_sql d)) (truth_step (map-TruthExpr TruthExpr (Mapping → Truth3) truth_over d)))
      → TruthSo (truth_views.roll-TruthExpr d)
  truth_level d h e =
      let names = fold-roll-TruthExpr Bool (truth_passes_step (has us) any_term) d in
      let meant = fold-roll-TruthExpr (Mapping → Truth3) truth_step d in
      subst (λ (s : SqlExpr). Means us s (truth_over (truth_views.roll-TruthExpr d))) (sym (fold-roll-TruthExpr SqlExpr filter_sql_step d))
      (subst (λ (f : Mapping → Truth3). Means us (filter_sql_step (map-TruthExpr TruthExpr SqlExpr filter_sql d)) f) (sym meant) (h (sym names ∙ e)))

  abbrev Parts : Type 0
  Parts = List ((t : TruthExpr) × TruthSo t)

  abbrev exprs : Parts → List TruthExpr
  exprs ps = map (λ e. e.0) ps

  parts_mean : (ps : Parts) → list_all (λ b. b) (map (truth_names us) (exprs ps)) ≡ true → AllByRecursion (λ e. Means us (filter_sql e) (truth_over e)) (exprs ps)
  parts_mean [] h = _
  parts_mean (p ∷ ps) h = let q = and_parts (truth_names us p.0) _ h in (p.1 q.0, parts_mean ps q.1)

  through : (m : Mapping) (es : List TruthExpr) → map (λ e. truth_over e m) es ≡ map (λ (f : Mapping → Truth3). f m) (map truth_over es)
  through m [] = refl
  through m (e ∷ es) = ap (λ (ts : List Truth3). truth_over e m ∷ ts) (through m es)

  pub filter_means : (e : TruthExpr) → TruthSo e
  filter_means = ind-TruthExpr TruthSo (λ x y is. subst (λ (z : TruthExpr-F TruthExpr). TruthSo (truth_views.roll-TruthExpr z)) is (node y))
    where
      node : (y : TruthExpr-F ((t : TruthExpr) × TruthSo t)) → TruthSo (truth_views.roll-TruthExpr (map-TruthExpr ((t : TruthExpr) × TruthSo t) TruthExpr (λ e. e.0) y))
      node (truth.Value e) = truth_level (truth.Value e) (λ h. means_effective us (value_sql e) (value_over e) (value_gives us e h))
      node (truth.Bound v) = truth_level (truth.Bound v) (λ h. means_bound us v h)
      node (truth.Compare c a b) = truth_level (truth.Compare c a b) (λ h. let p = and_parts (value_names us a) (value_names us b) h in means_compare us c (value_sql a) (value_sql b) (value_over a) (value_over b) (value_gives us a p.0) (value_gives us b p.1))
      node (truth.OneOf e es) = truth_level (truth.OneOf e es) (λ h. let p = and_parts (value_names us e) (list_all (value_names us) es) h in means_one_of us (value_sql e) (value_over e) value_sql value_over (value_gives us e p.0) es (values_give es p.1))
      node (truth.SameTerm a b) = truth_level (truth.SameTerm a b) (λ h. let p = and_parts (value_names us a) (value_names us b) h in means_same us (value_sql a) (value_sql b) (value_over a) (value_over b) (value_gives us a p.0) (value_gives us b p.1))
      node (truth.Is t e) = truth_level (truth.Is t e) (λ h. means_kind us t (value_sql e) (value_over e) (value_gives us e h))
      node (truth.Not e) = truth_level (truth.Not e.0) (λ h. means_not us (filter_sql e.0) (truth_over e.0) (e.1 h))
      node (truth.All es) = truth_level (truth.All (exprs es)) (λ h m env s. means_all us filter_sql truth_over (exprs es) (parts_mean es h) m env s ∙ ap (λ (ts : List Truth3). truth_cell (all3 ts)) (through m (exprs es)))
      node (truth.Any es) = truth_level (truth.Any (exprs es)) (λ h m env s. means_any us filter_sql truth_over (exprs es) (parts_mean es h) m env s ∙ ap (λ (ts : List Truth3). truth_cell (any3 ts)) (through m (exprs es)))
