-- The bounds of a query's modifiers (this project's own).
use Rattle.std.specs.Prelude.{◌≡◌, ◌<◌, ◌^◌, true, length}
use Rattle.std.specs.List.{AllByRecursion}
use Rattle.query_meaning.specs.declared.modifiers.Key.{Key}
use Rattle.query_meaning.specs.declared.modifiers.Modifiers.{Modifiers}
use Rattle.query_eval_meaning.specs.Mapping.{width}
use Rattle.sql_meaning.specs.Scripts.{count_form}
use Rattle.sql_gen_form_laws.specs.Fits.{AreVariables}

-- the variables have columns of their own, places are counted in 32 bits, and counts have up to 18 digits
pub record AreBounded (q : Modifiers) : Type 0 where
  pub shown : AreVariables q.shown
  pub keys : AllByRecursion (λ (k : Key). k.var < width) q.keys
  pub places : length q.shown < 2 ^ 32
  pub most : count_form q.most ≡ true
  pub skip : q.skip < 1000000000000000000
