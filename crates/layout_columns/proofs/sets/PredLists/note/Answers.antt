use Rattle.std.proofs.Common.{◌∙◌, ℕ, nat_eq, List, map, ap}
use Rattle.std.specs.Prelude.{vec_items}
use Rattle.std.specs.Cmp.Lexicographic.{pointwise}
use Rattle.indexmap.specs.IndexSet.{insert_key}
use Rattle.layout_columns.proofs.Distinct.{items-insert}
use Rattle.layout_columns.proofs.sets.PredLists.note.Goals as goal

pub returns : goal.returns
returns c =
    ap (map vec_items) c.in_ok-insert.ensures.keys
    ∙ items-insert c.self.inside.lists.keys c.args.list
    ∙ ap (λ (lists : List (List ℕ)). insert_key (pointwise nat_eq) lists c.args.list.items) c.self.view_is
