use Rattle.std.proofs.Common.{◌≡◌, ◌++◌, drop}
use Rattle.sql_rows_meaning.specs.Scopes.{schemas_in}
use Rattle.run_script.proofs.schemas.schemas_of.Given as goal

abbrev pub invariant-loop-t : goal.invariant-loop-t
invariant-loop-t g l =
    l.schemas.items ++ schemas_in (drop l.t (g.T.TableSet.named_tables l.tables)) ≡ schemas_in (g.T.TableSet.named_tables l.tables)
