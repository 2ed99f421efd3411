use Rattle.std.proofs.Common.{List, refl, ap, ap₂, ◌∙◌}
use Rattle.sql_meaning.specs.declared.script.Item.{Item}
use Rattle.sql_meaning.specs.declared.script.JoinTo.{JoinTo}
use Rattle.sql_meaning.specs.declared.script.SqlKey.{SqlKey}
use Rattle.sql_alias_laws.specs.Aliases.{realias_from}
use Rattle.sql_alias_renaming.specs.NewNames.{new_name}
use Rattle.sql_alias_renaming.specs.Parts.{items_with, joins_with, keys_with}
use Rattle.sql_alias_renaming.specs.Renamed.{renamed_core}
use Rattle.sql_alias_renaming.specs.declared.names.AliasPair.{AliasPair}
use Rattle.sql_alias_renaming.proofs.rename.RenameSqlFold.core.Goals as goal

pub returns-clause-out : goal.returns-clause-out
returns-clause-out c =
    renamed_core (new_name c.args.self.now.names.items) c.args.node.now _ c.args.items.items c.args.joins.items c.args.keys.items c.args.condition c.requires.items c.requires.joins c.requires.condition c.requires.keys
    refl
    (c.in_ok-items.ensures ∙ ap (λ (is : List Item). items_with is c.args.items.items) c.as_slice.ensures)
    (c.in_ok-from.ensures ∙ ap (λ (ns : List AliasPair). realias_from (new_name ns) c.args.node.now.from) c.deref.ensures.value)
    (c.in_ok-joins.ensures ∙ ap₂ (λ (ns : List AliasPair) (js : List JoinTo). joins_with (new_name ns) js c.args.joins.items) c.deref-2.ensures.value c.as_slice-2.ensures)
    refl
    (c.in_ok-keys.ensures ∙ ap (λ (ks : List SqlKey). keys_with ks c.args.keys.items) c.as_slice-3.ensures)
    refl
    refl
