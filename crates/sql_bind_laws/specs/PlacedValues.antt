-- An expression with places has the value of the expression with names.
use Rattle.std.specs.Prelude.{◌≡◌, ℕ, List, [], ◌∷◌, map, refl}
use Rattle.std.proofs.Common.{sym, ap, ap₂, ◌∙◌}
use Rattle.std.specs.List.{AllByRecursion}
use Rattle.table_meaning.specs.declared.cell.Cell.{Cell}
use Rattle.table_meaning.specs.declared.cell.Cell.TheVariants.{Truth}
use Rattle.sql_meaning.specs.declared.expression.SqlExpr.{SqlExpr}
use Rattle.sql_meaning.specs.declared.expression.SqlExpr.TheVariants as sql
use Rattle.sql_meaning.specs.declared.expression.Branch.{Branch}
use Rattle.sql_rows_meaning.specs.Cells.{is_null, equal_cells, less_cells}
use Rattle.sql_rows_meaning.specs.Values.{Sight, Tried, value_of, all_cells, any_cells, not_cell, first_true, first_cell}
use Rattle.sql_rows_meaning.specs.ValueLaws.{tried, tried-is, value_of-Name, value_of-Int, value_of-Text, value_of-Truth, value_of-Null, value_of-Equal, value_of-Less, value_of-All, value_of-Any, value_of-Not, value_of-IsNull, value_of-Case, value_of-First}
use Rattle.sql_rows_laws.specs.ExpressionInduction.{OfBranch, IsPassedUp, every_expression}
use Rattle.sql_bind_meaning.specs.declared.expression.BoundExpr.{BoundExpr}
use Rattle.sql_bind_meaning.specs.declared.expression.BoundBranch.{BoundBranch}
use Rattle.sql_bind_meaning.specs.Values.{Picked, bound_value, bound_tried}
use Rattle.sql_bind_meaning.specs.ValueLaws.{bound_tried-is, bound_value-Int, bound_value-Text, bound_value-Truth, bound_value-Null, bound_value-Equal, bound_value-Less, bound_value-All, bound_value-Any, bound_value-Not, bound_value-IsNull, bound_value-Case, bound_value-First}
use Rattle.sql_bind_laws.specs.Places.{Places, place, place_branch}
use Rattle.sql_bind_laws.specs.PlaceLaws.{place_branch-is, place-Name, place-Int, place-Text, place-Truth, place-Null, place-Equal, place-Less, place-All, place-Any, place-Not, place-IsNull, place-Case, place-First}

-- each name has the cell in its place
pub record IsPlacedAt (places : Places) (sight : Sight) (picked : Picked) : Type 0 where
  pub each : (a c : List ℕ) → sight a c ≡ bound_value (places a c) picked

module _ {places : Places} {sight : Sight} {picked : Picked} (at : IsPlacedAt places sight picked) where
  abbrev Same : SqlExpr → Type 0
  Same e = value_of e sight ≡ bound_value (place e places) picked

  value-at : {x y : BoundExpr} → x ≡ y → bound_value y picked ≡ bound_value x picked
  value-at is = ap (λ (z : BoundExpr). bound_value z picked) (sym is)

  all-same : (es : List SqlExpr) → AllByRecursion Same es → map (λ e. value_of e sight) es ≡ map (λ e. bound_value e picked) (map (λ e. place e places) es)
  all-same [] h = refl
  all-same (e ∷ es) h = ap₂ (λ (x : Cell) (xs : List Cell). x ∷ xs) h.0 (all-same es h.1)

  tried-same : (b : Branch) → OfBranch Same b → tried b sight ≡ bound_tried (place_branch b places) picked
  tried-same b h =
      let t : value_of b.test sight ≡ bound_value (place b.test places) picked = h.0 in
      let u : value_of b.value sight ≡ bound_value (place b.value places) picked = h.1 in
      let pair : record { test = value_of b.test sight; value = value_of b.value sight } ≡ record { test = bound_value (place b.test places) picked; value = bound_value (place b.value places) picked } = λ i. record { test = t i; value = u i } in
      tried-is b sight ∙ pair ∙ sym (bound_tried-is (record { test = place b.test places; value = place b.value places }) picked)
      ∙ ap (λ (x : BoundBranch). bound_tried x picked) (sym (place_branch-is b places))

  tries-same : (bs : List Branch) → AllByRecursion (OfBranch Same) bs → map (λ b. tried b sight) bs ≡ map (λ b. bound_tried b picked) (map (λ b. place_branch b places) bs)
  tries-same [] h = refl
  tries-same (b ∷ bs) h = ap₂ (λ (x : Tried) (xs : List Tried). x ∷ xs) (tried-same b h.0) (tries-same bs h.1)

  passed_up : IsPassedUp Same
  passed_up = record {
    name = λ a c. value_of-Name a c sight ∙ at.each a c ∙ value-at (place-Name a c places);
    int = λ n. value_of-Int n sight ∙ sym (bound_value-Int n picked) ∙ value-at (place-Int n places);
    text = λ s. value_of-Text s sight ∙ sym (bound_value-Text s picked) ∙ value-at (place-Text s places);
    truth = λ b. value_of-Truth b sight ∙ sym (bound_value-Truth b picked) ∙ value-at (place-Truth b places);
    null = λ k. value_of-Null k sight ∙ sym (bound_value-Null picked) ∙ value-at (place-Null k places);
    equal = λ a b h k. value_of-Equal a b sight ∙ ap₂ equal_cells h k ∙ sym (bound_value-Equal (place a places) (place b places) picked) ∙ value-at (place-Equal a b places);
    less = λ a b h k. value_of-Less a b sight ∙ ap₂ less_cells h k ∙ sym (bound_value-Less (place a places) (place b places) picked) ∙ value-at (place-Less a b places);
    all = λ es h. value_of-All es sight ∙ ap all_cells (all-same es h) ∙ sym (bound_value-All (map (λ e. place e places) es) picked) ∙ value-at (place-All es places);
    any = λ es h. value_of-Any es sight ∙ ap any_cells (all-same es h) ∙ sym (bound_value-Any (map (λ e. place e places) es) picked) ∙ value-at (place-Any es places);
    not = λ a h. value_of-Not a sight ∙ ap not_cell h ∙ sym (bound_value-Not (place a places) picked) ∙ value-at (place-Not a places);
    is_null = λ a h. value_of-IsNull a sight ∙ ap (λ (c : Cell). Truth (is_null c)) h ∙ sym (bound_value-IsNull (place a places) picked) ∙ value-at (place-IsNull a places);
    case = λ bs a h k.
        value_of-Case bs a sight ∙ ap₂ first_true (tries-same bs h) k ∙ sym (bound_value-Case (map (λ b. place_branch b places) bs) (place a places) picked) ∙ value-at (place-Case bs a places);
    first = λ es h. value_of-First es sight ∙ ap first_cell (all-same es h) ∙ sym (bound_value-First (map (λ e. place e places) es) picked) ∙ value-at (place-First es places);
  }

  pub value-placed : (e : SqlExpr) → value_of e sight ≡ bound_value (place e places) picked
  value-placed e = every_expression Same passed_up e
