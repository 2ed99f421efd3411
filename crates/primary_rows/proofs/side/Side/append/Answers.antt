use Rattle.std.proofs.Common.{◌≡◌, ◌∙◌, ◌+◌, ◌≤◌, ◌^◌, refl, sym, ap, ap₂, subst, arith}
use Rattle.layout_meaning.specs.Side.{SideState}
use Rattle.layout_meaning.specs.Lists.{ListsOf}
use Rattle.layout_meaning.specs.Rows.{SideOf}
use Rattle.layout_bulk_meaning.specs.Appended.{appended, appended_side}
use Rattle.primary_rows.proofs.Both.{good-later, both-side, both-keep}
use Rattle.primary_rows.proofs.side.Side.append.Goals as goal

pub append-requires-clause-good : goal.append-requires-clause-good
append-requires-clause-good c =
    let t : SideState = record { entities = c.later.inside.table; lists = c.later.inside.lists.lists; next = c.later.inside.lists.next } in
    good-later c.later.inside.columns t c.later.inside.held c.later.invariant

pub invariant_of-result : goal.invariant_of-result
invariant_of-result c =
    let s : SideState = record { entities = c.self.inside.table; lists = c.self.inside.lists.lists; next = c.self.inside.lists.next } in
    let t : SideState = record { entities = c.later.inside.table; lists = c.later.inside.lists.lists; next = c.later.inside.lists.next } in
    let same : c.later.inside.columns ≡ c.self.inside.columns = ap (λ (x : SideOf). x.columns) c.later.view_is ∙ c.requires.same ∙ sym (ap (λ (x : SideOf). x.columns) c.self.view_is) in
    let held : c.in-Some.held ≡ c.self.inside.held + c.later.inside.held = omega arith in
    let last : c.append.new.to.next ≤ 2 ^ 62 = omega (arith, c.next_number-next.ensures.value, c.next_number-next.ensures.ids) in
    let ids : (appended s t).next ≤ 2 ^ 62 = subst (λ (l : ListsOf). l.next ≤ 2 ^ 62) c.in_ok-table.ensures.lists last in
    rw (c.in_ok-table.ensures.table, c.in_ok-table.ensures.lists, held) (both-side c.self.inside.columns c.later.inside.columns s t c.self.inside.held c.later.inside.held same c.self.invariant c.later.invariant ids)

pub returns-clause-keeps : goal.returns-clause-keeps
returns-clause-keeps c =
    let s : SideOf = record { columns = c.self.inside.columns; state = record { entities = c.self.inside.table; lists = c.self.inside.lists.lists; next = c.self.inside.lists.next } } in
    let t : SideOf = record { columns = c.later.inside.columns; state = record { entities = c.later.inside.table; lists = c.later.inside.lists.lists; next = c.later.inside.lists.next } } in
    let u : SideOf = record { columns = c.self.inside.columns; state = record { entities = c.in_ok-table.table; lists = c.append.new.to.lists; next = c.append.new.to.next } } in
    let made : u ≡ appended_side s t = rw (c.in_ok-table.ensures.table, c.in_ok-table.ensures.lists) refl in
    both-keep c.args.self c.args.later u c.requires.same (made ∙ ap₂ (λ (x y : SideOf). appended_side x y) c.self.view_is c.later.view_is)
