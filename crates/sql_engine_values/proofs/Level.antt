-- The value of each kind of expression, as the evaluator meets it.
use Rattle.std.specs.Prelude.{◌≡◌, Bool, true, false, List, [], ◌∷◌, map, if◌then◌else◌, Option, Some, unwrap_or, refl}
use Rattle.std.proofs.Common.{ap, ◌∙◌}
use Rattle.table_meaning.specs.declared.cell.Cell.{Cell}
use Rattle.sql_rows_meaning.specs.Values.{Tried, is_true, first_true}
use Rattle.sql_bind_meaning.specs.declared.expression.BoundExpr.{BoundExpr}
use Rattle.sql_bind_meaning.specs.declared.expression.BoundExpr.TheVariants as v
use Rattle.sql_bind_meaning.specs.declared.expression.BoundBranch.{BoundBranch}
use Rattle.sql_bind_meaning.specs.Values.{Picked, bound_value, bound_tried}
use Rattle.sql_bind_meaning.specs.ValueLaws.{bound_tried-is, bound_value-Cell, bound_value-Int, bound_value-Text, bound_value-Truth, bound_value-Null, bound_value-Equal, bound_value-Less, bound_value-All, bound_value-Any, bound_value-Not, bound_value-IsNull, bound_value-Case, bound_value-First}
use Rattle.sql_engine_values.specs.Known.{taken}

-- a test that is true decides
chosen : (b : Bool) (x last : Cell) (o : Option Cell) (other : Cell) → other ≡ unwrap_or o last → (if b then x else other) ≡ unwrap_or (if b then Some x else o) last
chosen true x last o other h = refl
chosen false x last o other h = h

first_taken : (bs : List BoundBranch) (last : Cell) (p : Picked) → first_true (map (λ b. bound_tried b p) bs) last ≡ unwrap_or (taken p bs) last
first_taken [] last p = refl
first_taken (b ∷ bs) last p =
    ap (λ (t : Tried). if is_true t.test then t.value else first_true (map (λ b. bound_tried b p) bs) last) (bound_tried-is b p)
    ∙ chosen (is_true (bound_value b.test p)) (bound_value b.value p) last (taken p bs) _ (first_taken bs last p)

pub value_case : (bs : List BoundBranch) (a : BoundExpr) (p : Picked) → bound_value (v.Case bs a) p ≡ unwrap_or (taken p bs) (bound_value a p)
value_case bs a p = bound_value-Case bs a p ∙ first_taken bs (bound_value a p) p

pub ruleset values = (bound_value-Cell, bound_value-Int, bound_value-Text, bound_value-Truth, bound_value-Null, bound_value-Equal, bound_value-Less, bound_value-All, bound_value-Any, bound_value-Not, bound_value-IsNull, value_case, bound_value-First)
