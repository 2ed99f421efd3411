-- The first level of an expression whose parts are in lists.
use Rattle.std.proofs.Common.{◌≡◌, List, sym, ap, ◌∙◌}
use Rattle.sql_meaning.specs.declared.expression.SqlExpr.{SqlExpr, out-SqlExpr}
use Rattle.sql_meaning.specs.declared.expression.SqlExpr.TheOpen as o
use Rattle.sql_meaning.specs.declared.expression.SqlExpr.TheVariants as v
use Rattle.sql_meaning.specs.declared.expression.SqlExpr.TheViews.{out-roll-SqlExpr}
use Rattle.sql_meaning.specs.declared.expression.Branch.{Branch}

pub out-all : (n : SqlExpr) (es : List SqlExpr) → n ≡ v.All es → out-SqlExpr n ≡ o.All es
out-all n es is = ap out-SqlExpr (is ∙ sym (v.rolls-All es)) ∙ out-roll-SqlExpr (o.All es)

pub out-any : (n : SqlExpr) (es : List SqlExpr) → n ≡ v.Any es → out-SqlExpr n ≡ o.Any es
out-any n es is = ap out-SqlExpr (is ∙ sym (v.rolls-Any es)) ∙ out-roll-SqlExpr (o.Any es)

pub out-first : (n : SqlExpr) (es : List SqlExpr) → n ≡ v.First es → out-SqlExpr n ≡ o.First es
out-first n es is = ap out-SqlExpr (is ∙ sym (v.rolls-First es)) ∙ out-roll-SqlExpr (o.First es)

pub out-case : (n : SqlExpr) (bs : List Branch) (last : SqlExpr) → n ≡ v.Case bs last → out-SqlExpr n ≡ o.Case bs last
out-case n bs last is = ap out-SqlExpr (is ∙ sym (v.rolls-Case bs last)) ∙ out-roll-SqlExpr (o.Case bs last)
