use Rattle.std.proofs.Common.{◌∙◌, nat_eq, map, ap, subst}
use Rattle.std.specs.List.{IsDistinct}
use Rattle.std.specs.Prelude.{vec_items}
use Rattle.std.specs.Cmp.Lexicographic.{pointwise}
use Rattle.indexmap.proofs.CallerLemmas.{Drains-YieldsInOrder}
use Rattle.layout_columns.proofs.Distinct.{items-distinct}
use Rattle.layout_columns.proofs.sets.PredLists.into_lists.Goals as goal

pub returns : goal.returns
returns c =
    let ran = c.in_ok-lists.ensures.ran in
    let last = ran.3.2 tt in
    record {
      lists = ap (map vec_items) (ran.4.0 ∙ Drains-YieldsInOrder _ _ ran.0 ran.1 ran.2.2 (last.0, (ran.3.0, ran.3.1, last.1)) ∙ ran.2.0) ∙ c.self.view_is;
      once = subst (IsDistinct (pointwise nat_eq)) c.self.view_is (items-distinct c.self.inside.lists.keys c.len-count.ensures.unique);
    }
