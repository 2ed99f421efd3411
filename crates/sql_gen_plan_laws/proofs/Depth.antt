-- Both ways to count the connectives of a condition agree.
use Rattle.std.specs.Prelude.{◌≡◌, ℕ, suc, max, List, [], ◌∷◌, refl}
use Rattle.std.proofs.Common.{ap}
use Rattle.query_meaning.specs.declared.expression.TruthExpr.{TruthExpr, fold-TruthExpr}
use Rattle.query_meaning.specs.declared.expression.TruthExpr.TheOpen as layer
use Rattle.query_meaning.specs.declared.expression.TruthExpr.TheOpen.{TruthExpr-F}
use Rattle.sparql_query_laws.specs.Connectives as written
use Rattle.sql_meaning.specs.Scripts.{largest}
use Rattle.sql_gen_filter_meaning.specs.Connectives.{connectives_step, connectives}

largest-deepest : (ns : List ℕ) → written.deepest ns ≡ largest ns
largest-deepest [] = refl
largest-deepest (n ∷ ns) = ap (max n) (largest-deepest ns)

same-step : (e : TruthExpr-F ℕ) → written.connectives_step e ≡ connectives_step e
same-step (layer.Value e) = refl
same-step (layer.Bound v) = refl
same-step (layer.Compare c a b) = refl
same-step (layer.OneOf e es) = refl
same-step (layer.SameTerm a b) = refl
same-step (layer.Is t e) = refl
same-step (layer.Not n) = refl
same-step (layer.All ns) = ap suc (largest-deepest ns)
same-step (layer.Any ns) = ap suc (largest-deepest ns)

pub same-connectives : (f : TruthExpr) → written.connectives f ≡ connectives f
same-connectives f = ap (λ (step : TruthExpr-F ℕ → ℕ). fold-TruthExpr ℕ step f) (λ i e. same-step e i)
