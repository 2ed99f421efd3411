use Rattle.sql_alias_laws.specs.RenamedRows.{script-renamed}
use Rattle.sql_alias_laws.proofs.scripts.renamed_scripts_mean_the_same.Goals as goal

pub returns : goal.returns
returns c = λ f s told tables. script-renamed told s (λ a h. h) tables
