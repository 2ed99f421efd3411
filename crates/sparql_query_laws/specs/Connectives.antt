-- How deep the connectives of a condition stand inside one another.
use Rattle.std.specs.Prelude.{◌≡◌, ◌≤◌, ℕ, suc, max, List, [], ◌∷◌, map}
use Rattle.std.specs.List.{AllByRecursion}
use Rattle.std.proofs.Common.{sym, ap, ◌∙◌, arith}
use Rattle.query_meaning.specs.declared.expression.CompareOp.{CompareOp}
use Rattle.query_meaning.specs.declared.expression.TermTest.{TermTest}
use Rattle.query_meaning.specs.declared.expression.ValueExpr.{ValueExpr}
use Rattle.query_meaning.specs.declared.expression.TruthExpr.{TruthExpr, fold-TruthExpr}
use Rattle.query_meaning.specs.declared.expression.TruthExpr.TheVariants as truths
use Rattle.query_meaning.specs.declared.expression.TruthExpr.TheOpen as layer
use Rattle.query_meaning.specs.declared.expression.TruthExpr.TheOpen.{TruthExpr-F}
use Rattle.query_meaning.specs.declared.expression.TruthExpr.TheFolds.{fold-roll-TruthExpr}
use Rattle.query_meaning.specs.declared.expression.TruthExpr.TheViews as views

abbrev pub deepest : List ℕ → ℕ
deepest [] = 0
deepest (n ∷ ns) = max n (deepest ns)

abbrev pub connectives_step : TruthExpr-F ℕ → ℕ
connectives_step (layer.Not e) = suc e
connectives_step (layer.All es) = suc (deepest es)
connectives_step (layer.Any es) = suc (deepest es)
connectives_step _ = 0

-- how many of `!`, `&&` and `||` stand inside one another at most
abbrev pub connectives : TruthExpr → ℕ
connectives = fold-TruthExpr ℕ connectives_step

pub connectives-Value : (e : ValueExpr) → connectives (truths.Value e) ≡ 0
connectives-Value e = ap connectives (sym (views.rolls-Value e)) ∙ fold-roll-TruthExpr ℕ connectives_step (layer.Value e)

pub connectives-Bound : (v : ℕ) → connectives (truths.Bound v) ≡ 0
connectives-Bound v = ap connectives (sym (views.rolls-Bound v)) ∙ fold-roll-TruthExpr ℕ connectives_step (layer.Bound v)

pub connectives-Compare : (c : CompareOp) (a b : ValueExpr) → connectives (truths.Compare c a b) ≡ 0
connectives-Compare c a b = ap connectives (sym (views.rolls-Compare c a b)) ∙ fold-roll-TruthExpr ℕ connectives_step (layer.Compare c a b)

pub connectives-OneOf : (e : ValueExpr) (es : List ValueExpr) → connectives (truths.OneOf e es) ≡ 0
connectives-OneOf e es = ap connectives (sym (views.rolls-OneOf e es)) ∙ fold-roll-TruthExpr ℕ connectives_step (layer.OneOf e es)

pub connectives-SameTerm : (a b : ValueExpr) → connectives (truths.SameTerm a b) ≡ 0
connectives-SameTerm a b = ap connectives (sym (views.rolls-SameTerm a b)) ∙ fold-roll-TruthExpr ℕ connectives_step (layer.SameTerm a b)

pub connectives-Is : (t : TermTest) (e : ValueExpr) → connectives (truths.Is t e) ≡ 0
connectives-Is t e = ap connectives (sym (views.rolls-Is t e)) ∙ fold-roll-TruthExpr ℕ connectives_step (layer.Is t e)

pub connectives-Not : (e : TruthExpr) → connectives (truths.Not e) ≡ suc (connectives e)
connectives-Not e = ap connectives (sym (views.rolls-Not e)) ∙ fold-roll-TruthExpr ℕ connectives_step (layer.Not e)

pub connectives-All : (es : List TruthExpr) → connectives (truths.All es) ≡ suc (deepest (map connectives es))
connectives-All es = ap connectives (sym (views.rolls-All es)) ∙ fold-roll-TruthExpr ℕ connectives_step (layer.All es)

pub connectives-Any : (es : List TruthExpr) → connectives (truths.Any es) ≡ suc (deepest (map connectives es))
connectives-Any es = ap connectives (sym (views.rolls-Any es)) ∙ fold-roll-TruthExpr ℕ connectives_step (layer.Any es)

pub deepest_within : (m : ℕ) (es : List TruthExpr) → AllByRecursion (λ e. connectives e ≤ m) es → deepest (map connectives es) ≤ m
deepest_within m [] h = omega arith
deepest_within m (e ∷ es) h = let a = h.0 in let b = deepest_within m es h.1 in omega (arith, a, b)
