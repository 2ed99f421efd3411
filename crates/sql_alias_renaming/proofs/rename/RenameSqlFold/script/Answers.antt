use Rattle.std.proofs.Common.{List, ap, ◌∙◌}
use Rattle.sql_meaning.specs.declared.script.Step.{Step}
use Rattle.sql_alias_renaming.specs.Parts.{steps_with}
use Rattle.sql_alias_renaming.specs.Renamed.{renamed_script}
use Rattle.sql_alias_renaming.proofs.rename.RenameSqlFold.script.Goals as goal

pub returns-clause-out : goal.returns-clause-out
returns-clause-out c =
    renamed_script c.args.self.now.names.items c.args.node.now _ c.args.steps.items c.requires.fit c.requires.steps
    (c.in_ok-steps.ensures ∙ ap (λ (ss : List Step). steps_with ss c.args.steps.items) c.as_slice.ensures) c.requires.last
