use Rattle.std.proofs.Common.{◌∙◌, ap, List, ℕ}
use Rattle.std.specs.Str.{bytes_eq}
use Rattle.indexmap.specs.IndexMap.{insert_entry}
use Rattle.indexmap.proofs.CallerLemmas.{insert_entry-new}
use Rattle.sql_bind_names.proofs.sources.add_new.Goals as goal

pub returns-clause-entries : goal.returns-clause-entries
returns-clause-entries c =
    c.in-Ok.ensures.entries ∙ ap (λ (k : List ℕ). insert_entry bytes_eq c.args.sources.now.entries k c.args.columns) c.in_ok-copy.ensures
    ∙ insert_entry-new bytes_eq c.args.sources.now c.args.alias.now c.args.columns c.requires.new
