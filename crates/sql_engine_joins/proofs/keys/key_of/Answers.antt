use Rattle.std.proofs.Common.{◌≡◌, Option, Some, None, sym, subst, rules}
use Rattle.std.specs.Prelude.{IfSome}
use Rattle.sql_bind_meaning.specs.declared.expression.BoundExpr.{BoundExpr}
use Rattle.sql_bind_meaning.specs.declared.expression.BoundExpr.TheVariants as v
use Rattle.sql_engine_joins.specs.Keys.{IsKeyOf}
use Rattle.sql_engine_joins.proofs.KeyLaws.{key_of_all}
use Rattle.sql_engine_joins.proofs.keys.key_of.Goals as goal

if_some : {X : Type 0} {P Q : X → Type 0} (o : Option X) → ((x : X) → P x → Q x) → IfSome o P → IfSome o Q
if_some None f h = tt
if_some (Some x) f h = f x h

pub returns-in-None : goal.returns-in-None
returns-in-None c =
    let is : c.args.condition.now ≡ v.All c.as_slice-in-None.result.now = search rules in
    if_some c.first_key-in-None.result
    (λ key h. subst (λ (e : BoundExpr). IsKeyOf c.args.new e key.column key.other.now) (sym is) (key_of_all c.args.new c.as_slice-in-None.result.now key.column key.other.now h))
    c.first_key-in-None.ensures
