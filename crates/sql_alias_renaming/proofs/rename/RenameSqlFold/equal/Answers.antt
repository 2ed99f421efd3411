use Rattle.std.proofs.Common.{◌∙◌}
use Rattle.sql_alias_renaming.specs.NewNames.{new_name}
use Rattle.sql_alias_renaming.specs.Renamed.{renamed_equal}
use Rattle.sql_alias_renaming.proofs.rename.RenameSqlFold.equal.Goals as goal

pub returns-clause-out : goal.returns-clause-out
returns-clause-out c =
    renamed_equal (new_name c.args.self.now.names.items) c.args._node.now _ _ _ _ c.requires.shape.2 (c.in_ok-left.ensures ∙ c.requires.shape.3) (c.in_ok-new.ensures ∙ c.requires.shape.4)
