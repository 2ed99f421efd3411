use Rattle.std.proofs.Common.{◌∙◌, ap, List, ℕ}
use Rattle.indexmap.specs.IndexMap.{insert_entry}
use Rattle.indexmap.proofs.CallerLemmas.{insert_entry-new}
use Rattle.pred_columns.specs.Refusal.{same_text}
use Rattle.pred_columns.proofs.columns.add_new.Goals as goal

pub returns : goal.returns
returns c =
    c.in-Ok.ensures.entries ∙ ap (λ (k : List ℕ). insert_entry same_text c.args.known.now.entries k c.args.column) c.in_ok-copy.ensures
    ∙ insert_entry-new same_text c.args.known.now c.args.iri.now c.args.column c.requires
