use Rattle.std.proofs.Common.{ap, ◌∙◌}
use Rattle.sql_meaning.specs.declared.expression.SqlExpr.TheVariants as v
use Rattle.sql_alias_renaming.specs.NewNames.{new_name}
use Rattle.sql_alias_renaming.specs.Renamed.{renamed_any}
use Rattle.sql_alias_renaming.proofs.rename.RenameSqlFold.any.Goals as goal

pub returns-clause-out : goal.returns-clause-out
returns-clause-out c = ap v.Any c.from_vec.ensures ∙ renamed_any (new_name c.args.self.now.names.items) c.args.node.now _ c.args.parts.items c.requires.shape.1 c.requires.shape.2
