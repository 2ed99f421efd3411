-- Variables of expressions and patterns that are below a number.
use Rattle.std.specs.Prelude.{◌≡◌, ℕ, Bool, true, ◌&&◌, nat_lt, List, [], ◌∷◌, map}
use Rattle.std.specs.List.{list_all}
use Rattle.std.proofs.Common.{sym, ap, ◌∙◌}
use Rattle.rdf_meaning.specs.Terms.{RdfTerm}
use Rattle.query_meaning.specs.declared.pattern.Slot.{Slot}
use Rattle.query_meaning.specs.declared.pattern.Slot.TheVariants as slot
use Rattle.query_meaning.specs.declared.pattern.Pattern.{Pattern}
use Rattle.query_meaning.specs.declared.expression.CompareOp.{CompareOp}
use Rattle.query_meaning.specs.declared.expression.TermTest.{TermTest}
use Rattle.query_meaning.specs.declared.expression.ValueExpr.{ValueExpr, fold-ValueExpr}
use Rattle.query_meaning.specs.declared.expression.ValueExpr.TheVariants as values
use Rattle.query_meaning.specs.declared.expression.ValueExpr.TheOpen as value_layer
use Rattle.query_meaning.specs.declared.expression.ValueExpr.TheOpen.{ValueExpr-F}
use Rattle.query_meaning.specs.declared.expression.ValueExpr.TheFolds.{fold-roll-ValueExpr}
use Rattle.query_meaning.specs.declared.expression.ValueExpr.TheViews as value_views
use Rattle.query_meaning.specs.declared.expression.TruthExpr.{TruthExpr, fold-TruthExpr}
use Rattle.query_meaning.specs.declared.expression.TruthExpr.TheVariants as truths
use Rattle.query_meaning.specs.declared.expression.TruthExpr.TheOpen as truth_layer
use Rattle.query_meaning.specs.declared.expression.TruthExpr.TheOpen.{TruthExpr-F}
use Rattle.query_meaning.specs.declared.expression.TruthExpr.TheFolds.{fold-roll-TruthExpr}
use Rattle.query_meaning.specs.declared.expression.TruthExpr.TheViews as truth_views

abbrev pub slot_within : ℕ → Slot → Bool
slot_within n (slot.Var v) = nat_lt v n
slot_within n (slot.Const t) = true

abbrev pub pattern_within : ℕ → Pattern → Bool
pattern_within n p = slot_within n p.s && (slot_within n p.p && slot_within n p.o)

abbrev pub value_within_step : ℕ → ValueExpr-F Bool → Bool
value_within_step n (value_layer.Var v) = nat_lt v n
value_within_step n (value_layer.Const t) = true
value_within_step n (value_layer.Str e) = e
value_within_step n (value_layer.Lang e) = e
value_within_step n (value_layer.Datatype e) = e

abbrev pub value_within : ℕ → ValueExpr → Bool
value_within n = fold-ValueExpr Bool (value_within_step n)

abbrev pub all_true : List Bool → Bool
all_true [] = true
all_true (b ∷ bs) = b && all_true bs

abbrev pub truth_within_step : ℕ → TruthExpr-F Bool → Bool
truth_within_step n (truth_layer.Value e) = value_within n e
truth_within_step n (truth_layer.Bound v) = nat_lt v n
truth_within_step n (truth_layer.Compare c a b) = value_within n a && value_within n b
truth_within_step n (truth_layer.OneOf e es) = value_within n e && list_all (value_within n) es
truth_within_step n (truth_layer.SameTerm a b) = value_within n a && value_within n b
truth_within_step n (truth_layer.Is t e) = value_within n e
truth_within_step n (truth_layer.Not e) = e
truth_within_step n (truth_layer.All es) = all_true es
truth_within_step n (truth_layer.Any es) = all_true es

-- each variable of the expression is below the number
abbrev pub truth_within : ℕ → TruthExpr → Bool
truth_within n = fold-TruthExpr Bool (truth_within_step n)

module _ (n : ℕ) where
  pub within-Var : (v : ℕ) → value_within n (values.Var v) ≡ nat_lt v n
  within-Var v = ap (value_within n) (sym (value_views.rolls-Var v)) ∙ fold-roll-ValueExpr Bool (value_within_step n) (value_layer.Var v)

  pub within-Const : (t : RdfTerm) → value_within n (values.Const t) ≡ true
  within-Const t = ap (value_within n) (sym (value_views.rolls-Const t)) ∙ fold-roll-ValueExpr Bool (value_within_step n) (value_layer.Const t)

  pub within-Str : (e : ValueExpr) → value_within n (values.Str e) ≡ value_within n e
  within-Str e = ap (value_within n) (sym (value_views.rolls-Str e)) ∙ fold-roll-ValueExpr Bool (value_within_step n) (value_layer.Str e)

  pub within-Lang : (e : ValueExpr) → value_within n (values.Lang e) ≡ value_within n e
  within-Lang e = ap (value_within n) (sym (value_views.rolls-Lang e)) ∙ fold-roll-ValueExpr Bool (value_within_step n) (value_layer.Lang e)

  pub within-Datatype : (e : ValueExpr) → value_within n (values.Datatype e) ≡ value_within n e
  within-Datatype e = ap (value_within n) (sym (value_views.rolls-Datatype e)) ∙ fold-roll-ValueExpr Bool (value_within_step n) (value_layer.Datatype e)

  pub within-Value : (e : ValueExpr) → truth_within n (truths.Value e) ≡ value_within n e
  within-Value e = ap (truth_within n) (sym (truth_views.rolls-Value e)) ∙ fold-roll-TruthExpr Bool (truth_within_step n) (truth_layer.Value e)

  pub within-Bound : (v : ℕ) → truth_within n (truths.Bound v) ≡ nat_lt v n
  within-Bound v = ap (truth_within n) (sym (truth_views.rolls-Bound v)) ∙ fold-roll-TruthExpr Bool (truth_within_step n) (truth_layer.Bound v)

  pub within-Compare : (c : CompareOp) (a b : ValueExpr) → truth_within n (truths.Compare c a b) ≡ (value_within n a && value_within n b)
  within-Compare c a b = ap (truth_within n) (sym (truth_views.rolls-Compare c a b)) ∙ fold-roll-TruthExpr Bool (truth_within_step n) (truth_layer.Compare c a b)

  pub within-OneOf : (e : ValueExpr) (es : List ValueExpr) → truth_within n (truths.OneOf e es) ≡ (value_within n e && list_all (value_within n) es)
  within-OneOf e es = ap (truth_within n) (sym (truth_views.rolls-OneOf e es)) ∙ fold-roll-TruthExpr Bool (truth_within_step n) (truth_layer.OneOf e es)

  pub within-SameTerm : (a b : ValueExpr) → truth_within n (truths.SameTerm a b) ≡ (value_within n a && value_within n b)
  within-SameTerm a b = ap (truth_within n) (sym (truth_views.rolls-SameTerm a b)) ∙ fold-roll-TruthExpr Bool (truth_within_step n) (truth_layer.SameTerm a b)

  pub within-Is : (t : TermTest) (e : ValueExpr) → truth_within n (truths.Is t e) ≡ value_within n e
  within-Is t e = ap (truth_within n) (sym (truth_views.rolls-Is t e)) ∙ fold-roll-TruthExpr Bool (truth_within_step n) (truth_layer.Is t e)

  pub within-Not : (e : TruthExpr) → truth_within n (truths.Not e) ≡ truth_within n e
  within-Not e = ap (truth_within n) (sym (truth_views.rolls-Not e)) ∙ fold-roll-TruthExpr Bool (truth_within_step n) (truth_layer.Not e)

  pub within-All : (es : List TruthExpr) → truth_within n (truths.All es) ≡ all_true (map (truth_within n) es)
  within-All es = ap (truth_within n) (sym (truth_views.rolls-All es)) ∙ fold-roll-TruthExpr Bool (truth_within_step n) (truth_layer.All es)

  pub within-Any : (es : List TruthExpr) → truth_within n (truths.Any es) ≡ all_true (map (truth_within n) es)
  within-Any es = ap (truth_within n) (sym (truth_views.rolls-Any es)) ∙ fold-roll-TruthExpr Bool (truth_within_step n) (truth_layer.Any es)
