use Rattle.sql_alias_binding_laws.specs.BoundScripts.{script-bound}
use Rattle.sql_alias_binding_laws.proofs.scripts.renamed_scripts_bind_alike.Goals as goal

pub returns : goal.returns
returns c = λ f s told schemas. script-bound told s (λ a h. h) schemas
