-- Lists of parts around other expressions.
use Rattle.std.specs.Prelude.{List, [], ◌∷◌}
use Rattle.sql_meaning.specs.declared.expression.SqlExpr.{SqlExpr}
use Rattle.sql_meaning.specs.declared.expression.Branch.{Branch}
use Rattle.sql_meaning.specs.declared.script.Body.{Body}
use Rattle.sql_meaning.specs.declared.script.Item.{Item}
use Rattle.sql_meaning.specs.declared.script.JoinTo.{JoinTo}
use Rattle.sql_meaning.specs.declared.script.SqlKey.{SqlKey}
use Rattle.sql_meaning.specs.declared.script.Step.{Step}
use Rattle.sql_alias_laws.specs.Aliases.{NewNames, realias_source}

-- each first thing with the second one that stands at its place
abbrev pub paired : {A B C : Type 0} → (A → B → C) → List A → List B → List C
paired with [] ys = []
paired with (x ∷ xs) [] = []
paired with (x ∷ xs) (y ∷ ys) = with x y ∷ paired with xs ys

abbrev pub branches_of : List SqlExpr → List SqlExpr → List Branch
branches_of tests answers = paired (λ test value. record { test = test; value = value }) tests answers

abbrev pub items_with : List Item → List SqlExpr → List Item
items_with items exprs = paired (λ (i : Item) expr. record { expr = expr; name = i.name }) items exprs

abbrev pub joins_with : NewNames → List JoinTo → List SqlExpr → List JoinTo
joins_with f joins exprs = paired (λ (j : JoinTo) on. record { left = j.left; source = realias_source f j.source; on = on }) joins exprs

abbrev pub keys_with : List SqlKey → List SqlExpr → List SqlKey
keys_with keys exprs = paired (λ (k : SqlKey) expr. record { expr = expr; down = k.down }) keys exprs

abbrev pub steps_with : List Step → List Body → List Step
steps_with steps bodies = paired (λ (s : Step) body. record { name = s.name; body = body }) steps bodies
