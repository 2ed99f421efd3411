use Rattle.std.proofs.Common.{◌∙◌, ap, List, ℕ}
use Rattle.std.specs.Str.{bytes_eq}
use Rattle.indexmap.specs.IndexMap.{insert_entry}
use Rattle.indexmap.proofs.CallerLemmas.{insert_entry-new}
use Rattle.sql_bind_names.proofs.Lookups.{not-there}
use Rattle.sql_bind_names.proofs.known.add_new.Goals as goal

pub returns : goal.returns
returns c =
    c.in-Ok.ensures.entries ∙ ap (λ (k : List ℕ). insert_entry bytes_eq c.args.relations.now.entries k c.args.columns) c.in_ok-copy.ensures
    ∙ insert_entry-new bytes_eq c.args.relations.now c.args.name.now c.args.columns (not-there c.args.relations.now.entries c.args.name.now c.requires)
