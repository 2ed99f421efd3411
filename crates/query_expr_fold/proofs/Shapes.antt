-- The first level of an expression whose parts are in a list.
use Rattle.std.proofs.Common.{◌≡◌, List, sym, ap, ◌∙◌}
use Rattle.query_meaning.specs.declared.expression.TruthExpr.{TruthExpr, out-TruthExpr}
use Rattle.query_meaning.specs.declared.expression.TruthExpr.TheOpen as o
use Rattle.query_meaning.specs.declared.expression.TruthExpr.TheVariants as v
use Rattle.query_meaning.specs.declared.expression.TruthExpr.TheViews as views

pub out-all : (n : TruthExpr) (es : List TruthExpr) → n ≡ v.All es → out-TruthExpr n ≡ o.All es
out-all n es is = ap out-TruthExpr (is ∙ sym (views.rolls-All es)) ∙ views.out-roll-TruthExpr (o.All es)

pub out-any : (n : TruthExpr) (es : List TruthExpr) → n ≡ v.Any es → out-TruthExpr n ≡ o.Any es
out-any n es is = ap out-TruthExpr (is ∙ sym (views.rolls-Any es)) ∙ views.out-roll-TruthExpr (o.Any es)
