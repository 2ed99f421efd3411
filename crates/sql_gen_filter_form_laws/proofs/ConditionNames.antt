-- The variables of a condition, in order: each once, each below the width, and all of them.
use Rattle.std.proofs.Common.{◌≡◌, ℕ, zero, suc, ◌<◌, ◌≤◌, ◌⊎◌, inl, inr, arith, Bool, true, false, ◌&&◌, ◌||◌, ◌==◌, cond, List, [], ◌∷◌, ◌++◌, map, refl, sym, ap, ◌∙◌, subst}
use Rattle.std.specs.List.{list_all, list_any, filter, AllByRecursion}
use Rattle.std.proofs.lemmas.Bool.{and_parts, and_from, or_left, or_right, or_cases, cases_eq, eq-eqb, eqb-true, false_from_ne_true, both_ways, ltb-true}
use Rattle.std.proofs.lemmas.List.Elements.{filter-append}
use Rattle.std.proofs.lemmas.List.Folds.{list_any-append}
use Rattle.query_meaning.specs.declared.expression.ValueExpr.{ValueExpr, map-ValueExpr}
use Rattle.query_meaning.specs.declared.expression.ValueExpr.TheOpen as value
use Rattle.query_meaning.specs.declared.expression.ValueExpr.TheOpen.{ValueExpr-F}
use Rattle.query_meaning.specs.declared.expression.ValueExpr.TheFolds.{fold-roll-ValueExpr, ind-ValueExpr}
use Rattle.query_meaning.specs.declared.expression.ValueExpr.TheViews as value_views
use Rattle.query_meaning.specs.declared.expression.TruthExpr.{TruthExpr, map-TruthExpr}
use Rattle.query_meaning.specs.declared.expression.TruthExpr.TheOpen as truth
use Rattle.query_meaning.specs.declared.expression.TruthExpr.TheOpen.{TruthExpr-F}
use Rattle.query_meaning.specs.declared.expression.TruthExpr.TheFolds.{fold-roll-TruthExpr, ind-TruthExpr}
use Rattle.query_meaning.specs.declared.expression.TruthExpr.TheViews as truth_views
use Rattle.query_eval_meaning.specs.Mapping.{width}
use Rattle.query_eval_meaning.specs.Variables.{Variables}
use Rattle.sql_gen_step_laws.specs.StepSelects.{has}
use Rattle.sql_gen_binding_laws.specs.StepColumns.{Once}
use Rattle.sql_gen_form_laws.specs.Fits.{AreVariables}
use Rattle.sql_gen_filter_meaning.specs.Leaves.{any_term, value_passes_step, truth_passes_step, value_names, truth_names}
use Rattle.sql_gen_filter_meaning.specs.ConditionVariables.{value_variables, value_variables_step, truth_variables, truth_variables_step, numbers_below, condition_variables}
use Rattle.sql_gen_filter_form_laws.specs.Written.{is_variable, is_written_term, is_written_value, is_written}

-- ---- numbers that pass a test

module _ (p : ℕ → Bool) where
  next : (n : ℕ) → filter p (numbers_below (suc n)) ≡ filter p (numbers_below n) ++ cond (p n) (n ∷ []) []
  next n = filter-append p (numbers_below n) (n ∷ [])

  has_next : (n v : ℕ) → has (filter p (numbers_below (suc n))) v ≡ (has (filter p (numbers_below n)) v || has (cond (p n) (n ∷ []) []) v)
  has_next n v = ap (λ (xs : List ℕ). has xs v) (next n) ∙ list_any-append (λ w. w == v) (filter p (numbers_below n)) (cond (p n) (n ∷ []) [])

  pub there : (n v : ℕ) → v < n → p v ≡ true → has (filter p (numbers_below n)) v ≡ true
  there zero v l t = absurd (omega (arith, l))
  there (suc n) v l t = has_next n v ∙ go (cases_eq n v) (λ k. there n v k t)
    where
      go : (n ≡ v) ⊎ (n ≡ v → ⊥) → (v < n → has (filter p (numbers_below n)) v ≡ true) → (has (filter p (numbers_below n)) v || has (cond (p n) (n ∷ []) []) v) ≡ true
      go (inl e) rest = or_right (has (filter p (numbers_below n)) v) _ (ap (λ (b : Bool). has (cond b (n ∷ []) []) v) (ap p e ∙ t) ∙ or_left (n == v) false (eq-eqb n v e))
      go (inr ne) rest = or_left _ _ (rest (below n v l ne))
        where
          below : (n v : ℕ) → v < suc n → (n ≡ v → ⊥) → v < n
          below n v l ne = omega (arith, l, ne)

  one : (n : ℕ) (b : Bool) (v : ℕ) → has (cond b (n ∷ []) []) v ≡ true → n ≡ v
  one n true v h = elim (or_cases (n == v) false h) [ inl e ↦ eqb-true n v e | inr e ↦ cc ]
  one n false v h = cc

  below : (n v : ℕ) → has (filter p (numbers_below n)) v ≡ true → v < n
  below zero v h = cc
  below (suc n) v h = elim (or_cases (has (filter p (numbers_below n)) v) _ (sym (has_next n v) ∙ h)) [
    | inl k ↦ (let l = below n v k in omega (arith, l))
    | inr k ↦ (let e = one n (p n) v k in omega (arith, e))
  ]

  all_below : (n m : ℕ) → n ≤ m → AllByRecursion (λ v. v < m) (filter p (numbers_below n))
  all_below zero m l = tt
  all_below (suc n) m l = subst (AllByRecursion (λ v. v < m)) (sym (next n)) (both (filter p (numbers_below n)) (p n) (all_below n m (omega (arith, l))))
    where
      both : (xs : List ℕ) (b : Bool) → AllByRecursion (λ v. v < m) xs → AllByRecursion (λ v. v < m) (xs ++ cond b (n ∷ []) [])
      both [] true h = (omega (arith, l), tt)
      both [] false h = tt
      both (x ∷ xs) b h = (h.0, both xs b h.1)

  pub are_variables : AreVariables (filter p (numbers_below width))
  are_variables = all_below width width (omega arith)

  pub once : (n : ℕ) → Once (filter p (numbers_below n))
  once zero = tt
  once (suc n) = subst Once (sym (next n)) (last (filter p (numbers_below n)) (p n) (once n) (λ h. self (below n n h)))
    where
      self : n < n → ⊥
      self l = omega (arith, l)

      apart : (x : ℕ) (xs : List ℕ) (b : Bool) → has xs x ≡ false → (n ≡ x → ⊥) → has (xs ++ cond b (n ∷ []) []) x ≡ false
      apart x xs b h ne = false_from_ne_true _ (λ t. elim (or_cases (has xs x) _ (sym (list_any-append (λ w. w == x) xs (cond b (n ∷ []) [])) ∙ t)) [ inl k ↦ both_ways _ h k | inr k ↦ ne (one n b x k) ])

      last : (xs : List ℕ) (b : Bool) → Once xs → (has xs n ≡ true → ⊥) → Once (xs ++ cond b (n ∷ []) [])
      last [] true o new = (refl, tt)
      last [] false o new = tt
      last (x ∷ xs) b o new = (apart x xs b o.0 (λ e. new (or_left (x == n) (has xs n) (eq-eqb x n (sym e)))), last xs b o.1 (λ h. new (or_right (x == n) (has xs n) h)))

-- ---- all of the condition

-- each variable of the set that there is has its column
abbrev Covers : List ℕ → Variables → Type 0
Covers us vs = (v : ℕ) → vs v ≡ true → is_variable v ≡ true → has us v ≡ true

module _ (us : List ℕ) where
  abbrev ValueSo : ValueExpr → Type 0
  ValueSo e = Covers us (value_variables e) → is_written_value e ≡ true → value_names us e ≡ true

  abbrev value_layer : ValueExpr-F ValueExpr → Type 0
  value_layer d =
      Covers us (value_variables_step (map-ValueExpr ValueExpr Variables value_variables d)) → value_passes_step is_variable is_written_term (map-ValueExpr ValueExpr Bool is_written_value d) ≡ true →
      value_passes_step (has us) any_term (map-ValueExpr ValueExpr Bool (value_names us) d) ≡ true

  value_level : (d : ValueExpr-F ValueExpr) → value_layer d → ValueSo (value_views.roll-ValueExpr d)
  value_level d h c w =
      fold-roll-ValueExpr Bool (value_passes_step (has us) any_term) d
      ∙ h (subst (Covers us) (fold-roll-ValueExpr Variables value_variables_step d) c) (sym (fold-roll-ValueExpr Bool (value_passes_step is_variable is_written_term) d) ∙ w)

  value_named : (e : ValueExpr) → ValueSo e
  value_named = ind-ValueExpr ValueSo (λ x y is. subst (λ (z : ValueExpr-F ValueExpr). ValueSo (value_views.roll-ValueExpr z)) is (node y))
    where
      node : (y : ValueExpr-F ((t : ValueExpr) × ValueSo t)) → ValueSo (value_views.roll-ValueExpr (map-ValueExpr ((t : ValueExpr) × ValueSo t) ValueExpr (λ e. e.0) y))
      node (value.Var v) = value_level (value.Var v) (λ c w. c v (eq-eqb v v refl) w)
      node (value.Const t) = value_level (value.Const t) (λ c w. refl)
      node (value.Str e) = value_level (value.Str e.0) e.1
      node (value.Lang e) = value_level (value.Lang e.0) e.1
      node (value.Datatype e) = value_level (value.Datatype e.0) e.1

  values_named : (es : List ValueExpr) → Covers us (λ v. list_any (λ d. value_variables d v) es) → list_all is_written_value es ≡ true → list_all (value_names us) es ≡ true
  values_named [] c w = refl
  values_named (e ∷ es) c w =
      let p = and_parts (is_written_value e) (list_all is_written_value es) w in
      and_from _ _ (value_named e (λ v h. c v (or_left _ _ h)) p.0) (values_named es (λ v h. c v (or_right _ _ h)) p.1)

  two_named : (a b : ValueExpr) → Covers us (λ v. value_variables a v || value_variables b v) → (is_written_value a && is_written_value b) ≡ true → (value_names us a && value_names us b) ≡ true
  two_named a b c w =
      let p = and_parts (is_written_value a) (is_written_value b) w in
      and_from _ _ (value_named a (λ v h. c v (or_left _ _ h)) p.0) (value_named b (λ v h. c v (or_right _ _ h)) p.1)

  abbrev TruthSo : TruthExpr → Type 0
  TruthSo e = Covers us (truth_variables e) → is_written e ≡ true → truth_names us e ≡ true

  abbrev truth_layer : TruthExpr-F TruthExpr → Type 0
  truth_layer d =
      Covers us (truth_variables_step (map-TruthExpr TruthExpr Variables truth_variables d)) → truth_passes_step is_variable is_written_term (map-TruthExpr TruthExpr Bool is_written d) ≡ true →
      truth_passes_step (has us) any_term (map-TruthExpr TruthExpr Bool (truth_names us) d) ≡ true

  truth_level : (d : TruthExpr-F TruthExpr) → truth_layer d → TruthSo (truth_views.roll-TruthExpr d)
  truth_level d h c w =
      fold-roll-TruthExpr Bool (truth_passes_step (has us) any_term) d
      ∙ h (subst (Covers us) (fold-roll-TruthExpr Variables truth_variables_step d) c) (sym (fold-roll-TruthExpr Bool (truth_passes_step is_variable is_written_term) d) ∙ w)

  abbrev Parts : Type 0
  Parts = List ((t : TruthExpr) × TruthSo t)

  abbrev exprs : Parts → List TruthExpr
  exprs ps = map (λ e. e.0) ps

  parts_named : (ps : Parts) → Covers us (λ v. list_any (λ (f : Variables). f v) (map truth_variables (exprs ps))) → list_all (λ b. b) (map is_written (exprs ps)) ≡ true → list_all (λ b. b) (map (truth_names us) (exprs ps)) ≡ true
  parts_named [] c w = refl
  parts_named (p ∷ ps) c w =
      let q = and_parts (is_written p.0) _ w in
      and_from _ _ (p.1 (λ v h. c v (or_left _ _ h)) q.0) (parts_named ps (λ v h. c v (or_right (truth_variables p.0 v) _ h)) q.1)

  pub truth_named : (e : TruthExpr) → TruthSo e
  truth_named = ind-TruthExpr TruthSo (λ x y is. subst (λ (z : TruthExpr-F TruthExpr). TruthSo (truth_views.roll-TruthExpr z)) is (node y))
    where
      node : (y : TruthExpr-F ((t : TruthExpr) × TruthSo t)) → TruthSo (truth_views.roll-TruthExpr (map-TruthExpr ((t : TruthExpr) × TruthSo t) TruthExpr (λ e. e.0) y))
      node (truth.Value e) = truth_level (truth.Value e) (λ c w. value_named e c w)
      node (truth.Bound v) = truth_level (truth.Bound v) (λ c w. c v (eq-eqb v v refl) w)
      node (truth.Compare o a b) = truth_level (truth.Compare o a b) (two_named a b)
      node (truth.OneOf e es) = truth_level (truth.OneOf e es) (λ c w.
          let p = and_parts (is_written_value e) (list_all is_written_value es) w in
          and_from _ _ (value_named e (λ v h. c v (or_left _ _ h)) p.0) (values_named es (λ v h. c v (or_right (value_variables e v) _ h)) p.1))
      node (truth.SameTerm a b) = truth_level (truth.SameTerm a b) (two_named a b)
      node (truth.Is t e) = truth_level (truth.Is t e) (λ c w. value_named e c w)
      node (truth.Not e) = truth_level (truth.Not e.0) e.1
      node (truth.All es) = truth_level (truth.All (exprs es)) (parts_named es)
      node (truth.Any es) = truth_level (truth.Any (exprs es)) (parts_named es)

pub condition_named : (e : TruthExpr) → is_written e ≡ true → truth_names (condition_variables e) e ≡ true
condition_named e w = truth_named (condition_variables e) e (λ v h k. there (truth_variables e) width v (ltb-true v width k) h) w
