use Rattle.std.proofs.Common.{◌∙◌, ap, List, ℕ}
use Rattle.std.specs.Str.{bytes_eq}
use Rattle.indexmap.specs.IndexMap.{insert_entry}
use Rattle.indexmap.proofs.CallerLemmas.{insert_entry-new}
use Rattle.sql_bind_names.proofs.Headings.{not-there}
use Rattle.sql_bind_names.proofs.columns.add_column.Goals as goal

pub returns : goal.returns
returns c =
    c.in-Ok.ensures.entries ∙ ap (λ (k : List ℕ). insert_entry bytes_eq c.args.kinds.now.entries k c.args.column.now.kind) c.in_ok-copy.ensures
    ∙ insert_entry-new bytes_eq c.args.kinds.now c.args.column.now.name c.args.column.now.kind (not-there c.args.kinds.now.entries c.args.column.now.name c.requires)
