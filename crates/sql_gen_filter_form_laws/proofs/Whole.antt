-- Whole expressions: nine levels, and one more for each connective.
use Rattle.std.proofs.Common.{◌≡◌, ℕ, suc, ◌+◌, ◌≤◌, max, arith, Bool, true, List, [], ◌∷◌, map, sym, subst, ◌∙◌}
use Rattle.std.specs.List.{list_all, AllByRecursion}
use Rattle.std.proofs.lemmas.Bool.{and_parts}
use Rattle.rdf_meaning.specs.Terms.{RdfTerm}
use Rattle.table_meaning.specs.declared.kind.Kind.{Kind}
use Rattle.table_meaning.specs.declared.kind.Kind.TheVariants as kind
use Rattle.sql_meaning.specs.declared.expression.SqlExpr.{SqlExpr}
use Rattle.sql_meaning.specs.declared.expression.SqlExpr.TheVariants as sql
use Rattle.sql_meaning.specs.Scripts.{largest}
use Rattle.query_meaning.specs.declared.expression.ValueExpr.{ValueExpr, map-ValueExpr}
use Rattle.query_meaning.specs.declared.expression.ValueExpr.TheOpen as value
use Rattle.query_meaning.specs.declared.expression.ValueExpr.TheOpen.{ValueExpr-F}
use Rattle.query_meaning.specs.declared.expression.ValueExpr.TheFolds.{fold-roll-ValueExpr, ind-ValueExpr}
use Rattle.query_meaning.specs.declared.expression.ValueExpr.TheViews as value_views
use Rattle.query_meaning.specs.declared.expression.TruthExpr.{TruthExpr, map-TruthExpr}
use Rattle.query_meaning.specs.declared.expression.TruthExpr.TheOpen as truth
use Rattle.query_meaning.specs.declared.expression.TruthExpr.TheOpen.{TruthExpr-F}
use Rattle.query_meaning.specs.declared.expression.TruthExpr.TheFolds.{fold-roll-TruthExpr, ind-TruthExpr}
use Rattle.query_meaning.specs.declared.expression.TruthExpr.TheViews as truth_views
use Rattle.sql_gen_step_laws.specs.StepSelects.{every}
use Rattle.sql_gen_filter_meaning.specs.Chains.{Chain, chain_step, chain_of, value_sql}
use Rattle.sql_gen_filter_meaning.specs.Tests.{some_of, same_sql, equal_sql, kind_sql, effective_sql, bound_sql}
use Rattle.sql_gen_filter_meaning.specs.Filters.{filter_sql, filter_sql_step}
use Rattle.sql_gen_filter_meaning.specs.Leaves.{value_passes, value_passes_step, truth_passes, truth_passes_step}
use Rattle.sql_gen_filter_meaning.specs.Connectives.{connectives, connectives_step}
use Rattle.sql_gen_filter_form_laws.proofs.Closed.{OfColumns, Closed}
use Rattle.sql_gen_filter_form_laws.proofs.Parts.{some-holds, every-holds, given-holds, equal-holds, same-holds, compare-holds, kind-holds, effective-holds, bound-holds}

left_below : (a b m : ℕ) → max a b ≤ m → a ≤ m
left_below a b m l = omega (arith, l)

right_below : (a b m : ℕ) → max a b ≤ m → b ≤ m
right_below a b m l = omega (arith, l)

module _ {Q : Kind → ℕ → SqlExpr → Type 0} {variable : ℕ → Bool} {constant : RdfTerm → Bool} (c : Closed Q variable constant) where
  -- ---- values

  abbrev ValueSo : ValueExpr → Type 0
  ValueSo e = value_passes variable constant e ≡ true → OfColumns Q 1 (chain_of e).start

  value_level : (d : ValueExpr-F ValueExpr) →
      (value_passes_step variable constant (map-ValueExpr ValueExpr Bool (value_passes variable constant) d) ≡ true → OfColumns Q 1 (chain_step (map-ValueExpr ValueExpr Chain chain_of d)).start)
      → ValueSo (value_views.roll-ValueExpr d)
  value_level d h e =
      subst (λ (s : Chain). OfColumns Q 1 s.start) (sym (fold-roll-ValueExpr Chain chain_step d))
      (h (sym (fold-roll-ValueExpr Bool (value_passes_step variable constant) d) ∙ e))

  start_holds : (e : ValueExpr) → ValueSo e
  start_holds = ind-ValueExpr ValueSo (λ x y is. subst (λ (z : ValueExpr-F ValueExpr). ValueSo (value_views.roll-ValueExpr z)) is (node y))
    where
      node : (y : ValueExpr-F ((t : ValueExpr) × ValueSo t)) → ValueSo (value_views.roll-ValueExpr (map-ValueExpr ((t : ValueExpr) × ValueSo t) ValueExpr (λ e. e.0) y))
      node (value.Var v) = value_level (value.Var v) (λ h. c.variables v h)
      node (value.Const t) = value_level (value.Const t) (λ h. c.constants t h)
      node (value.Str e) = value_level (value.Str e.0) e.1
      node (value.Lang e) = value_level (value.Lang e.0) e.1
      node (value.Datatype e) = value_level (value.Datatype e.0) e.1

  pub value_holds : (e : ValueExpr) → value_passes variable constant e ≡ true → OfColumns Q 4 (value_sql e)
  value_holds e h = given-holds c (chain_of e).given (chain_of e).start (start_holds e h)

  -- ---- truths

  abbrev TruthSo : TruthExpr → Type 0
  TruthSo e = truth_passes variable constant e ≡ true → Q kind.Truth (9 + connectives e) (filter_sql e)

  truth_level : (d : TruthExpr-F TruthExpr) →
      (truth_passes_step variable constant (map-TruthExpr TruthExpr Bool (truth_passes variable constant) d) ≡ true →
      Q kind.Truth (9 + connectives_step (map-TruthExpr TruthExpr ℕ connectives d)) (filter_sql_step (map-TruthExpr TruthExpr SqlExpr filter_sql d)))
      → TruthSo (truth_views.roll-TruthExpr d)
  truth_level d h e =
      subst (λ (n : ℕ). Q kind.Truth (9 + n) (filter_sql (truth_views.roll-TruthExpr d))) (sym (fold-roll-TruthExpr ℕ connectives_step d))
      (subst (λ (s : SqlExpr). Q kind.Truth (9 + connectives_step (map-TruthExpr TruthExpr ℕ connectives d)) s) (sym (fold-roll-TruthExpr SqlExpr filter_sql_step d))
      (h (sym (fold-roll-TruthExpr Bool (truth_passes_step variable constant) d) ∙ e)))

  abbrev Parts : Type 0
  Parts = List ((t : TruthExpr) × TruthSo t)

  abbrev exprs : Parts → List TruthExpr
  exprs ps = map (λ e. e.0) ps

  parts_hold : (m : ℕ) (ps : Parts) → largest (map connectives (exprs ps)) ≤ m → list_all (λ b. b) (map (truth_passes variable constant) (exprs ps)) ≡ true → AllByRecursion (Q kind.Truth (9 + m)) (map filter_sql (exprs ps))
  parts_hold m [] l h = tt
  parts_hold m (p ∷ ps) l h =
      let q = and_parts (truth_passes variable constant p.0) _ h in
      let mine : connectives p.0 ≤ m = left_below (connectives p.0) (largest (map connectives (exprs ps))) m l in (
        c.more kind.Truth (9 + connectives p.0) (9 + m) (filter_sql p.0) (omega (arith, mine)) (p.1 q.0),
        parts_hold m ps (right_below (connectives p.0) (largest (map connectives (exprs ps))) m l) q.1,
      )

  equals_hold : (e : ValueExpr) → OfColumns Q 4 (value_sql e) → (es : List ValueExpr) → list_all (value_passes variable constant) es ≡ true → AllByRecursion (Q kind.Truth 8) (map (λ d. equal_sql (value_sql e) (value_sql d)) es)
  equals_hold e p [] h = tt
  equals_hold e p (d ∷ es) h =
      let q = and_parts (value_passes variable constant d) (list_all (value_passes variable constant) es) h in
      (equal-holds c (value_sql e) (value_sql d) p (value_holds d q.0), equals_hold e p es q.1)

  low : (n : ℕ) (e : SqlExpr) → n ≤ 9 → Q kind.Truth n e → Q kind.Truth (9 + 0) e
  low n e l p = c.more kind.Truth n 9 e l p

  same_level : (n : ℕ) → n ≤ n
  same_level n = omega arith

  next_level : (n : ℕ) → 9 + n + 1 ≤ 9 + suc n
  next_level n = omega arith

  pub filter_holds : (e : TruthExpr) → TruthSo e
  filter_holds = ind-TruthExpr TruthSo (λ x y is. subst (λ (z : TruthExpr-F TruthExpr). TruthSo (truth_views.roll-TruthExpr z)) is (node y))
    where
      node : (y : TruthExpr-F ((t : TruthExpr) × TruthSo t)) → TruthSo (truth_views.roll-TruthExpr (map-TruthExpr ((t : TruthExpr) × TruthSo t) TruthExpr (λ e. e.0) y))
      node (truth.Value e) = truth_level (truth.Value e) (λ h. low 8 (effective_sql (value_sql e)) (omega arith) (effective-holds c (value_sql e) (value_holds e h)))
      node (truth.Bound v) = truth_level (truth.Bound v) (λ h. low 3 (bound_sql v) (omega arith) (bound-holds c v h))
      node (truth.Compare o a b) = truth_level (truth.Compare o a b) (λ h.
          let p = and_parts (value_passes variable constant a) (value_passes variable constant b) h in
          compare-holds c o (value_sql a) (value_sql b) (value_holds a p.0) (value_holds b p.1))
      node (truth.OneOf e es) = truth_level (truth.OneOf e es) (λ h.
          let p = and_parts (value_passes variable constant e) (list_all (value_passes variable constant) es) h in
          some-holds c 8 (map (λ d. equal_sql (value_sql e) (value_sql d)) es) (equals_hold e (value_holds e p.0) es p.1))
      node (truth.SameTerm a b) = truth_level (truth.SameTerm a b) (λ h.
          let p = and_parts (value_passes variable constant a) (value_passes variable constant b) h in
          low 6 (same_sql (value_sql a) (value_sql b)) (omega arith) (same-holds c (value_sql a) (value_sql b) (value_holds a p.0) (value_holds b p.1)))
      node (truth.Is t e) = truth_level (truth.Is t e) (λ h. low 5 (kind_sql t (value_sql e)) (omega arith) (kind-holds c t (value_sql e) (value_holds e h)))
      node (truth.Not e) = truth_level (truth.Not e.0) (λ h. c.more kind.Truth _ _ (sql.Not (filter_sql e.0)) (next_level (connectives e.0)) (c.negation (9 + connectives e.0) (filter_sql e.0) (e.1 h)))
      node (truth.All es) = truth_level (truth.All (exprs es)) (λ h.
          let m = largest (map connectives (exprs es)) in
          c.more kind.Truth _ _ (every (map filter_sql (exprs es))) (next_level m) (every-holds c (9 + m) (map filter_sql (exprs es)) (parts_hold m es (same_level m) h)))
      node (truth.Any es) = truth_level (truth.Any (exprs es)) (λ h.
          let m = largest (map connectives (exprs es)) in
          c.more kind.Truth _ _ (some_of (map filter_sql (exprs es))) (next_level m) (some-holds c (9 + m) (map filter_sql (exprs es)) (parts_hold m es (same_level m) h)))
