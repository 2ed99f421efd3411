-- What each kind of expression gives.
use Rattle.std.specs.Prelude.{◌≡◌, ℕ, List, [], ◌∷◌, map, Some, is_some, refl}
use Rattle.std.proofs.Common.{sym, ap, ◌∙◌}
use Rattle.rdf_meaning.specs.Terms.{RdfTerm, same_term}
use Rattle.query_meaning.specs.declared.expression.CompareOp.{CompareOp}
use Rattle.query_meaning.specs.declared.expression.TermTest.{TermTest}
use Rattle.query_meaning.specs.declared.expression.ValueExpr.{ValueExpr, out-ValueExpr, fold_out-ValueExpr, map-ValueExpr}
use Rattle.query_meaning.specs.declared.expression.ValueExpr.TheVariants as values
use Rattle.query_meaning.specs.declared.expression.ValueExpr.TheOpen as value_layer
use Rattle.query_meaning.specs.declared.expression.ValueExpr.TheOpen.{ValueExpr-F}
use Rattle.query_meaning.specs.declared.expression.ValueExpr.TheFolds.{fold-roll-ValueExpr}
use Rattle.query_meaning.specs.declared.expression.ValueExpr.TheViews as value_views
use Rattle.query_meaning.specs.declared.expression.TruthExpr.{TruthExpr, out-TruthExpr, fold_out-TruthExpr, map-TruthExpr}
use Rattle.query_meaning.specs.declared.expression.TruthExpr.TheVariants as truths
use Rattle.query_meaning.specs.declared.expression.TruthExpr.TheOpen as truth_layer
use Rattle.query_meaning.specs.declared.expression.TruthExpr.TheOpen.{TruthExpr-F}
use Rattle.query_meaning.specs.declared.expression.TruthExpr.TheFolds.{fold-roll-TruthExpr}
use Rattle.query_meaning.specs.declared.expression.TruthExpr.TheViews as truth_views
use Rattle.query_eval_meaning.specs.Mapping.{Mapping}
use Rattle.query_eval_meaning.specs.Expressions.{Value, Truth, value_step, value_over, truth_step, truth_over, on_value, on_values, str_of, lang_of, datatype_of, effective, compare, equal_terms, kind_passes, not3, all3, any3}

map_truths : (es : List TruthExpr) (m : Mapping) → map (λ (f : Mapping → Truth). f m) (map truth_over es) ≡ map (λ e. truth_over e m) es
map_truths [] m = refl
map_truths (e ∷ es) m = ap (λ (bs : List Truth). truth_over e m ∷ bs) (map_truths es m)

-- ---- by the constructor

pub value_over-Var : (v : ℕ) (m : Mapping) → value_over (values.Var v) m ≡ m v
value_over-Var v m = ap (λ (e : ValueExpr). value_over e m) (sym (value_views.rolls-Var v)) ∙ ap (λ (f : Mapping → Value). f m) (fold-roll-ValueExpr (Mapping → Value) value_step (value_layer.Var v))

pub value_over-Const : (t : RdfTerm) (m : Mapping) → value_over (values.Const t) m ≡ Some t
value_over-Const t m = ap (λ (e : ValueExpr). value_over e m) (sym (value_views.rolls-Const t)) ∙ ap (λ (f : Mapping → Value). f m) (fold-roll-ValueExpr (Mapping → Value) value_step (value_layer.Const t))

pub value_over-Str : (e : ValueExpr) (m : Mapping) → value_over (values.Str e) m ≡ on_value str_of (value_over e m)
value_over-Str e m = ap (λ (e : ValueExpr). value_over e m) (sym (value_views.rolls-Str e)) ∙ ap (λ (f : Mapping → Value). f m) (fold-roll-ValueExpr (Mapping → Value) value_step (value_layer.Str e))

pub value_over-Lang : (e : ValueExpr) (m : Mapping) → value_over (values.Lang e) m ≡ on_value lang_of (value_over e m)
value_over-Lang e m = ap (λ (e : ValueExpr). value_over e m) (sym (value_views.rolls-Lang e)) ∙ ap (λ (f : Mapping → Value). f m) (fold-roll-ValueExpr (Mapping → Value) value_step (value_layer.Lang e))

pub value_over-Datatype : (e : ValueExpr) (m : Mapping) → value_over (values.Datatype e) m ≡ on_value datatype_of (value_over e m)
value_over-Datatype e m = ap (λ (e : ValueExpr). value_over e m) (sym (value_views.rolls-Datatype e)) ∙ ap (λ (f : Mapping → Value). f m) (fold-roll-ValueExpr (Mapping → Value) value_step (value_layer.Datatype e))

pub truth_over-Value : (e : ValueExpr) (m : Mapping) → truth_over (truths.Value e) m ≡ on_value effective (value_over e m)
truth_over-Value e m = ap (λ (e : TruthExpr). truth_over e m) (sym (truth_views.rolls-Value e)) ∙ ap (λ (f : Mapping → Truth). f m) (fold-roll-TruthExpr (Mapping → Truth) truth_step (truth_layer.Value e))

pub truth_over-Bound : (v : ℕ) (m : Mapping) → truth_over (truths.Bound v) m ≡ Some (is_some (m v))
truth_over-Bound v m = ap (λ (e : TruthExpr). truth_over e m) (sym (truth_views.rolls-Bound v)) ∙ ap (λ (f : Mapping → Truth). f m) (fold-roll-TruthExpr (Mapping → Truth) truth_step (truth_layer.Bound v))

pub truth_over-Compare : (c : CompareOp) (a b : ValueExpr) (m : Mapping) → truth_over (truths.Compare c a b) m ≡ compare c (value_over a m) (value_over b m)
truth_over-Compare c a b m = ap (λ (e : TruthExpr). truth_over e m) (sym (truth_views.rolls-Compare c a b)) ∙ ap (λ (f : Mapping → Truth). f m) (fold-roll-TruthExpr (Mapping → Truth) truth_step (truth_layer.Compare c a b))

pub truth_over-OneOf : (e : ValueExpr) (es : List ValueExpr) (m : Mapping) → truth_over (truths.OneOf e es) m ≡ any3 (map (λ d. on_values equal_terms (value_over e m) (value_over d m)) es)
truth_over-OneOf e es m = ap (λ (e : TruthExpr). truth_over e m) (sym (truth_views.rolls-OneOf e es)) ∙ ap (λ (f : Mapping → Truth). f m) (fold-roll-TruthExpr (Mapping → Truth) truth_step (truth_layer.OneOf e es))

pub truth_over-SameTerm : (a b : ValueExpr) (m : Mapping) → truth_over (truths.SameTerm a b) m ≡ on_values (λ s t. Some (same_term s t)) (value_over a m) (value_over b m)
truth_over-SameTerm a b m = ap (λ (e : TruthExpr). truth_over e m) (sym (truth_views.rolls-SameTerm a b)) ∙ ap (λ (f : Mapping → Truth). f m) (fold-roll-TruthExpr (Mapping → Truth) truth_step (truth_layer.SameTerm a b))

pub truth_over-Is : (t : TermTest) (e : ValueExpr) (m : Mapping) → truth_over (truths.Is t e) m ≡ on_value (λ s. Some (kind_passes t s.kind)) (value_over e m)
truth_over-Is t e m = ap (λ (e : TruthExpr). truth_over e m) (sym (truth_views.rolls-Is t e)) ∙ ap (λ (f : Mapping → Truth). f m) (fold-roll-TruthExpr (Mapping → Truth) truth_step (truth_layer.Is t e))

pub truth_over-Not : (e : TruthExpr) (m : Mapping) → truth_over (truths.Not e) m ≡ not3 (truth_over e m)
truth_over-Not e m = ap (λ (e : TruthExpr). truth_over e m) (sym (truth_views.rolls-Not e)) ∙ ap (λ (f : Mapping → Truth). f m) (fold-roll-TruthExpr (Mapping → Truth) truth_step (truth_layer.Not e))

pub truth_over-All : (es : List TruthExpr) (m : Mapping) → truth_over (truths.All es) m ≡ all3 (map (λ e. truth_over e m) es)
truth_over-All es m = ap (λ (e : TruthExpr). truth_over e m) (sym (truth_views.rolls-All es)) ∙ ap (λ (f : Mapping → Truth). f m) (fold-roll-TruthExpr (Mapping → Truth) truth_step (truth_layer.All es)) ∙ ap all3 (map_truths es m)

pub truth_over-Any : (es : List TruthExpr) (m : Mapping) → truth_over (truths.Any es) m ≡ any3 (map (λ e. truth_over e m) es)
truth_over-Any es m = ap (λ (e : TruthExpr). truth_over e m) (sym (truth_views.rolls-Any es)) ∙ ap (λ (f : Mapping → Truth). f m) (fold-roll-TruthExpr (Mapping → Truth) truth_step (truth_layer.Any es)) ∙ ap any3 (map_truths es m)

-- ---- by what the expression opens to, as a walk over it sees it

value_opened : (n : ValueExpr) (m : Mapping) → value_over n m ≡ value_step (map-ValueExpr ValueExpr (Mapping → Value) value_over (out-ValueExpr n)) m
value_opened n m = ap (λ (f : Mapping → Value). f m) (fold_out-ValueExpr (Mapping → Value) value_step n)

truth_opened : (n : TruthExpr) (m : Mapping) → truth_over n m ≡ truth_step (map-TruthExpr TruthExpr (Mapping → Truth) truth_over (out-TruthExpr n)) m
truth_opened n m = ap (λ (f : Mapping → Truth). f m) (fold_out-TruthExpr (Mapping → Truth) truth_step n)

pub value_at-Var : (n : ValueExpr) (v : ℕ) (m : Mapping) → out-ValueExpr n ≡ value_layer.Var v → value_over n m ≡ m v
value_at-Var n v m is = value_opened n m ∙ ap (λ (d : ValueExpr-F ValueExpr). value_step (map-ValueExpr ValueExpr (Mapping → Value) value_over d) m) is

pub value_at-Const : (n : ValueExpr) (t : RdfTerm) (m : Mapping) → out-ValueExpr n ≡ value_layer.Const t → value_over n m ≡ Some t
value_at-Const n t m is = value_opened n m ∙ ap (λ (d : ValueExpr-F ValueExpr). value_step (map-ValueExpr ValueExpr (Mapping → Value) value_over d) m) is

pub value_at-Str : (n : ValueExpr) (e : ValueExpr) (m : Mapping) → out-ValueExpr n ≡ value_layer.Str e → value_over n m ≡ on_value str_of (value_over e m)
value_at-Str n e m is = value_opened n m ∙ ap (λ (d : ValueExpr-F ValueExpr). value_step (map-ValueExpr ValueExpr (Mapping → Value) value_over d) m) is

pub value_at-Lang : (n : ValueExpr) (e : ValueExpr) (m : Mapping) → out-ValueExpr n ≡ value_layer.Lang e → value_over n m ≡ on_value lang_of (value_over e m)
value_at-Lang n e m is = value_opened n m ∙ ap (λ (d : ValueExpr-F ValueExpr). value_step (map-ValueExpr ValueExpr (Mapping → Value) value_over d) m) is

pub value_at-Datatype : (n : ValueExpr) (e : ValueExpr) (m : Mapping) → out-ValueExpr n ≡ value_layer.Datatype e → value_over n m ≡ on_value datatype_of (value_over e m)
value_at-Datatype n e m is = value_opened n m ∙ ap (λ (d : ValueExpr-F ValueExpr). value_step (map-ValueExpr ValueExpr (Mapping → Value) value_over d) m) is

pub truth_at-Value : (n : TruthExpr) (e : ValueExpr) (m : Mapping) → out-TruthExpr n ≡ truth_layer.Value e → truth_over n m ≡ on_value effective (value_over e m)
truth_at-Value n e m is = truth_opened n m ∙ ap (λ (d : TruthExpr-F TruthExpr). truth_step (map-TruthExpr TruthExpr (Mapping → Truth) truth_over d) m) is

pub truth_at-Bound : (n : TruthExpr) (v : ℕ) (m : Mapping) → out-TruthExpr n ≡ truth_layer.Bound v → truth_over n m ≡ Some (is_some (m v))
truth_at-Bound n v m is = truth_opened n m ∙ ap (λ (d : TruthExpr-F TruthExpr). truth_step (map-TruthExpr TruthExpr (Mapping → Truth) truth_over d) m) is

pub truth_at-Compare : (n : TruthExpr) (c : CompareOp) (a b : ValueExpr) (m : Mapping) → out-TruthExpr n ≡ truth_layer.Compare c a b → truth_over n m ≡ compare c (value_over a m) (value_over b m)
truth_at-Compare n c a b m is = truth_opened n m ∙ ap (λ (d : TruthExpr-F TruthExpr). truth_step (map-TruthExpr TruthExpr (Mapping → Truth) truth_over d) m) is

pub truth_at-OneOf : (n : TruthExpr) (e : ValueExpr) (es : List ValueExpr) (m : Mapping) → out-TruthExpr n ≡ truth_layer.OneOf e es → truth_over n m ≡ any3 (map (λ d. on_values equal_terms (value_over e m) (value_over d m)) es)
truth_at-OneOf n e es m is = truth_opened n m ∙ ap (λ (d : TruthExpr-F TruthExpr). truth_step (map-TruthExpr TruthExpr (Mapping → Truth) truth_over d) m) is

pub truth_at-SameTerm : (n : TruthExpr) (a b : ValueExpr) (m : Mapping) → out-TruthExpr n ≡ truth_layer.SameTerm a b → truth_over n m ≡ on_values (λ s t. Some (same_term s t)) (value_over a m) (value_over b m)
truth_at-SameTerm n a b m is = truth_opened n m ∙ ap (λ (d : TruthExpr-F TruthExpr). truth_step (map-TruthExpr TruthExpr (Mapping → Truth) truth_over d) m) is

pub truth_at-Is : (n : TruthExpr) (t : TermTest) (e : ValueExpr) (m : Mapping) → out-TruthExpr n ≡ truth_layer.Is t e → truth_over n m ≡ on_value (λ s. Some (kind_passes t s.kind)) (value_over e m)
truth_at-Is n t e m is = truth_opened n m ∙ ap (λ (d : TruthExpr-F TruthExpr). truth_step (map-TruthExpr TruthExpr (Mapping → Truth) truth_over d) m) is

pub truth_at-Not : (n : TruthExpr) (e : TruthExpr) (m : Mapping) → out-TruthExpr n ≡ truth_layer.Not e → truth_over n m ≡ not3 (truth_over e m)
truth_at-Not n e m is = truth_opened n m ∙ ap (λ (d : TruthExpr-F TruthExpr). truth_step (map-TruthExpr TruthExpr (Mapping → Truth) truth_over d) m) is

pub truth_at-All : (n : TruthExpr) (es : List TruthExpr) (m : Mapping) → out-TruthExpr n ≡ truth_layer.All es → truth_over n m ≡ all3 (map (λ e. truth_over e m) es)
truth_at-All n es m is = truth_opened n m ∙ ap (λ (d : TruthExpr-F TruthExpr). truth_step (map-TruthExpr TruthExpr (Mapping → Truth) truth_over d) m) is ∙ ap all3 (map_truths es m)

pub truth_at-Any : (n : TruthExpr) (es : List TruthExpr) (m : Mapping) → out-TruthExpr n ≡ truth_layer.Any es → truth_over n m ≡ any3 (map (λ e. truth_over e m) es)
truth_at-Any n es m is = truth_opened n m ∙ ap (λ (d : TruthExpr-F TruthExpr). truth_step (map-TruthExpr TruthExpr (Mapping → Truth) truth_over d) m) is ∙ ap any3 (map_truths es m)
