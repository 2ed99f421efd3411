-- The nodes of a script and their parts (this project's own).
use Rattle.std.specs.Prelude.{List, [], ◌∷◌}
use Rattle.sql_meaning.specs.declared.expression.SqlExpr.{SqlExpr, out-SqlExpr}
use Rattle.sql_meaning.specs.declared.expression.SqlExpr.TheOpen as o
use Rattle.sql_meaning.specs.declared.expression.SqlExpr.TheOpen.{SqlExpr-F}
use Rattle.sql_meaning.specs.declared.expression.Branch.{Branch}
use Rattle.sql_meaning.specs.declared.script.Script.{Script}
use Rattle.sql_meaning.specs.declared.script.Body.{Body}
use Rattle.sql_meaning.specs.declared.script.Core.{Core}

pub data Node : Type 0 where
  an_expr : SqlExpr → Node
  a_core : Core → Node
  a_body : Body → Node
  a_script : Script → Node

-- what a visitor made of a node, beside the node
pub data Made (E C B S : Type 0) : Type 0 where
  of_expr : E → SqlExpr → Made E C B S
  of_core : C → Core → Made E C B S
  of_body : B → Body → Made E C B S
  of_script : S → Script → Made E C B S

-- the expressions right inside one level of an expression, but for those of branches
abbrev pub parts_in : SqlExpr-F SqlExpr Branch → List SqlExpr
parts_in (o.Equal a b) = a ∷ b ∷ []
parts_in (o.Less a b) = a ∷ b ∷ []
parts_in (o.All es) = es
parts_in (o.Any es) = es
parts_in (o.Not a) = a ∷ []
parts_in (o.IsNull a) = a ∷ []
parts_in (o.Case bs last) = last ∷ []
parts_in (o.First es) = es
parts_in _ = []

abbrev pub parts : SqlExpr → List SqlExpr
parts e = parts_in (out-SqlExpr e)

abbrev pub branches_in : SqlExpr-F SqlExpr Branch → List Branch
branches_in (o.Case bs last) = bs
branches_in _ = []

-- the branches of a CASE
abbrev pub branches : SqlExpr → List Branch
branches e = branches_in (out-SqlExpr e)
