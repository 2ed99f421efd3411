use Rattle.std.proofs.Common.{◌∙◌, sym, ap, arith}
use Rattle.bags.specs.Bag.{total}
use Rattle.layout_meaning.specs.Side.{SideState, rows_of, items}
use Rattle.layout_meaning.specs.Rows.{SideOf, items_of}
use Rattle.primary_rows.proofs.Both.{good-later}
use Rattle.primary_rows.proofs.Among.{there-entity, rows-items, within-all}
use Rattle.primary_rows.proofs.side.Side.values_of.Goals as goal

pub values_of-requires-clause-there : goal.values_of-requires-clause-there
values_of-requires-clause-there c =
    let s : SideState = record { entities = c.self.inside.table; lists = c.self.inside.lists.lists; next = c.self.inside.lists.next } in
    there-entity s.lists s.entities c.args.entity (good-later c.self.inside.columns s c.self.inside.held c.self.invariant)

pub values_of-requires-clause-few : goal.values_of-requires-clause-few
values_of-requires-clause-few c =
    let most = within-all c.self.inside.lists.lists c.self.inside.table c.args.entity in
    let all = c.item_count-all.ensures ∙ ap (λ (x : SideOf). total (λ y. 1) (items x.state)) (sym c.self.view_is) in
    omega (arith, most, all, c.item_count-all.type_inv)

pub returns : goal.returns
returns c =
    let s : SideState = record { entities = c.self.inside.table; lists = c.self.inside.lists.lists; next = c.self.inside.lists.next } in
    c.values_of.ensures ∙ sym (rows-items s.lists c.args.entity (rows_of s.entities c.args.entity)) ∙ ap (λ (x : SideOf). total (λ y. 1) (items_of x.state c.args.entity)) c.self.view_is
