-- WHERE over several tests.
use Rattle.std.proofs.Common.{◌≡◌, ◌⊎◌, ℕ, Bool, true, false, cond, ◌||◌, List, [], ◌∷◌, ◌++◌, Option, Some, None, refl, sym, ap, ◌∙◌, subst, inl, inr, ◌==◌, is_some}
use Rattle.std.proofs.lemmas.Bool.{ne_eqb, eq-eqb, or_cases}
use Rattle.std.proofs.lemmas.List.Folds.{list_any-append}
use Rattle.std.specs.List.{list_all}
use Rattle.bags.specs.Bag.{total}
use Rattle.bags.specs.BagLaws.{total-filter, total-same}
use Rattle.table_meaning.specs.declared.cell.Cell.TheVariants.{Truth}
use Rattle.sql_meaning.specs.declared.expression.SqlExpr.{SqlExpr}
use Rattle.sql_rows_meaning.specs.Cells.{is_null, equal_cells}
use Rattle.sql_rows_meaning.specs.Values.{Sight, value_of, is_true, not_cell}
use Rattle.sql_rows_meaning.specs.Selects.{passed}
use Rattle.sql_gen_step_laws.specs.StepSelects.{every, has}
use Rattle.sql_gen_step_laws.specs.StepTests.{every_true, same_number}
use Rattle.sql_gen_star_meaning.specs.Asked.{is_number}
use Rattle.sql_gen_star_meaning.specs.SideTables.{id_or_null}
use Rattle.sql_gen_star_meaning.specs.StarSelects.{where_every}

abbrev pub all_hold : List SqlExpr → Sight → Bool
all_hold es sight = list_all (λ e. is_true (value_of e sight)) es

pub total-passed : (h : Sight → ℕ) (es : List SqlExpr) (sights : List Sight) → total h (passed (where_every es) sights) ≡ total (λ s. cond (all_hold es s) (h s) 0) sights
total-passed h [] sights = refl
total-passed h (e ∷ es) sights =
    total-filter h (λ s. is_true (value_of (every (e ∷ es)) s)) sights
    ∙ total-same _ _ (λ s. ap (λ (b : Bool). cond b (h s) 0) (every_true (e ∷ es) s)) sights

pub equal_numbers : (x y : Option ℕ) → is_true (equal_cells (id_or_null x) (id_or_null y)) ≡ is_number x y
equal_numbers None y = refl
equal_numbers (Some a) None = refl
equal_numbers (Some a) (Some b) = same_number a b

pub some_number : (x : Option ℕ) → is_true (not_cell (Truth (is_null (id_or_null x)))) ≡ is_some x
some_number None = refl
some_number (Some a) = refl

-- a variable that isn't the last one
pub has_before : (vs : List ℕ) (v w : ℕ) → has (vs ++ v ∷ []) w ≡ true → (w == v) ≡ false → has vs w ≡ true
has_before vs v w e q = last (or_cases (has vs w) (has (v ∷ []) w) (sym (list_any-append (λ u. u == w) vs (v ∷ [])) ∙ e))
  where
    turned : v ≡ w → ⊥
    turned x = let y : (w == w) ≡ false = subst (λ u. (w == u) ≡ false) x q in let z : (w == w) ≡ true = eq-eqb w w refl in cc

    last : (has vs w ≡ true) ⊎ (((v == w) || false) ≡ true) → has vs w ≡ true
    last (inl h) = h
    last (inr h) = let s : (v == w) ≡ false = ne_eqb v w turned in let t : false ≡ true = rw s at h in cc
