use Rattle.std.proofs.Common.{◌∙◌}
use Rattle.sql_alias_renaming.specs.NewNames.{new_name}
use Rattle.sql_alias_renaming.specs.Renamed.{renamed_case}
use Rattle.sql_alias_renaming.proofs.rename.RenameSqlFold.case.Goals as goal

pub returns-clause-out : goal.returns-clause-out
returns-clause-out c =
    renamed_case (new_name c.args.self.now.names.items) c.args.node.now _ _ _ _ c.args.tests.items c.args.answers.items c.requires.shape.2 c.requires.shape.3 c.requires.shape.4 c.in_ok-branches.ensures
    (c.in_ok-new.ensures ∙ c.requires.shape.5)
