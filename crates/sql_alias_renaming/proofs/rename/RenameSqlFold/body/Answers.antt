use Rattle.sql_alias_renaming.specs.NewNames.{new_name}
use Rattle.sql_alias_renaming.specs.Renamed.{renamed_body}
use Rattle.sql_alias_renaming.proofs.rename.RenameSqlFold.body.Goals as goal

pub returns-clause-out : goal.returns-clause-out
returns-clause-out c = renamed_body (new_name c.args.self.now.names.items) c.args.node.now _ c.args.cores.items c.requires.cores c.from_vec.ensures
