use Rattle.std.proofs.Common.{◌∷◌, [], arith}
use Rattle.layout_meaning.specs.Lists.{ListsOf}
use Rattle.layout_meaning.proofs.ListsKept.{with_list-sound}
use Rattle.layout_meaning.proofs.RowsKept.{two-sound}
use Rattle.value_lists.proofs.Kept.{apart-test}
use Rattle.value_lists.proofs.lists.Lists.make_two.Goals as goal

pub invariant_of-self-2 : goal.invariant_of-self-2
invariant_of-self-2 c =
    let l : ListsOf = record { lists = c.self.inside.lists.entries; next = c.self.inside.next } in
    rw c.in_ok-insert_two.ensures.ok (record {
      lists = with_list-sound l (c.args.first ∷ c.args.second ∷ []) c.self.invariant.lists (two-sound c.args.second c.args.first (apart-test c.args.first c.args.second c.requires));
      ids = omega arith;
    })
