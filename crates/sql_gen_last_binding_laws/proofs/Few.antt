-- Variables that differ and have columns of their own are at most 64.
use Rattle.std.specs.Prelude.{◌≡◌, ◌⊎◌, ℕ, ◌<◌, ◌≤◌, true, false, ◌==◌, nat_eq, List, [], ◌∷◌, length}
use Rattle.std.proofs.Common.{sym, ◌∙◌, subst, inl, inr}
use Rattle.std.proofs.lemmas.Bool.{cases_eq, eq-eqb, eqb-true, ne_eqb, or_cases, or_parts}
use Rattle.std.proofs.lemmas.Map.Steps.{length-le_from_distinct_below}
use Rattle.std.specs.List.{list_any, AllByRecursion, IsDistinct}
use Rattle.query_eval_meaning.specs.Mapping.{width}
use Rattle.sql_gen_step_laws.specs.StepSelects.{has}
use Rattle.sql_gen_binding_laws.specs.StepColumns.{Once}

either-way : (v w : ℕ) → (w == v) ≡ (v == w)
either-way v w = go (cases_eq v w)
  where
    go : (v ≡ w) ⊎ (v ≡ w → ⊥) → (w == v) ≡ (v == w)
    go (inl e) = eq-eqb w v (sym e) ∙ sym (eq-eqb v w e)
    go (inr n) = ne_eqb w v (λ e. n (sym e)) ∙ sym (ne_eqb v w n)

others : (v : ℕ) (vs : List ℕ) → has vs v ≡ false → AllByRecursion (λ w. nat_eq v w ≡ false) vs
others v [] e = tt
others v (w ∷ vs) e = let h = or_parts (w == v) (has vs v) e in (sym (either-way v w) ∙ h.0, others v vs h.1)

differ : (vs : List ℕ) → Once vs → IsDistinct nat_eq vs
unfolding IsDistinct
differ [] o = tt
differ (v ∷ vs) o = (others v vs o.0, differ vs o.1)

below : (vs : List ℕ) → AllByRecursion (λ v. v < width) vs → (q : ℕ) → list_any (nat_eq q) vs ≡ true → q < width
below [] all q e = cc
below (v ∷ vs) all q e = go (or_cases (nat_eq q v) (list_any (nat_eq q) vs) e) (below vs all.1 q)
  where
    go : (nat_eq q v ≡ true) ⊎ (list_any (nat_eq q) vs ≡ true) → (list_any (nat_eq q) vs ≡ true → q < width) → q < width
    go (inl h) r = subst (λ u. u < width) (sym (eqb-true q v h)) all.0
    go (inr h) r = r h

pub few : (vs : List ℕ) → Once vs → AllByRecursion (λ v. v < width) vs → length vs ≤ width
few vs o all = length-le_from_distinct_below vs width (differ vs o) (below vs all)
