-- The truth expressions right inside a truth expression (this project's own).
use Rattle.std.specs.Prelude.{List, [], ◌∷◌}
use Rattle.query_meaning.specs.declared.expression.TruthExpr.{TruthExpr, out-TruthExpr}
use Rattle.query_meaning.specs.declared.expression.TruthExpr.TheOpen as o
use Rattle.query_meaning.specs.declared.expression.TruthExpr.TheOpen.{TruthExpr-F}

abbrev pub parts_in : TruthExpr-F TruthExpr → List TruthExpr
parts_in (o.Not e) = e ∷ []
parts_in (o.All es) = es
parts_in (o.Any es) = es
parts_in _ = []

-- value expressions aren't parts: they are handed over with their node
abbrev pub parts : TruthExpr → List TruthExpr
parts e = parts_in (out-TruthExpr e)
