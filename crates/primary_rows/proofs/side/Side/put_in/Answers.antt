use Rattle.std.proofs.Common.{◌≡◌, ◌∙◌, ap, ◌≤◌, ◌+◌, ◌^◌, sym, arith, Option, Some, None, nat_eq, false}
use Rattle.std.specs.List.{list_any}
use Rattle.layout_meaning.specs.declared.value.Value.{Value}
use Rattle.layout_meaning.specs.declared.value.Value.TheVariants.{One, Many}
use Rattle.layout_meaning.specs.Side.{Item, SideState, elements_of, found_values}
use Rattle.layout_meaning.specs.Columns.{candidates_of}
use Rattle.layout_meaning.proofs.ListsKept.{with_value-new}
use Rattle.primary_rows.proofs.Sides.{placed-side, placed-found, list_there}
use Rattle.primary_rows.proofs.side.Side.put_in.Goals as goal

pub invariant_of-self-in-None : goal.invariant_of-self-in-None
invariant_of-self-in-None c =
    let s : SideState = record { entities = c.self.inside.table; lists = c.self.inside.lists.lists; next = c.self.inside.lists.next } in
    let x : Item = record { entity = c.args.entity; pred = c.args.pred; value = c.args.value } in
    rw c.in-Ok.ensures.ok (placed-side c.self.inside.columns (candidates_of c.self.inside.columns c.args.iri.now) x s c.self.inside.held c.in-Some.held c.find-found.result None c.holds.result c.self.invariant c.place.ensures.within
    c.find-found.ensures c.in-None.is c.holds.ensures c.if-holds.false c.self.invariant.ids (omega arith))

pub invariant_of-self-in-Some-One : goal.invariant_of-self-in-Some-One
invariant_of-self-in-Some-One c =
    let s : SideState = record { entities = c.self.inside.table; lists = c.self.inside.lists.lists; next = c.self.inside.lists.next } in
    let x : Item = record { entity = c.args.entity; pred = c.args.pred; value = c.args.value } in
    let f : c.in-Some-One.field-0 ≡ One c.in-Some-One.one = rw c.in-Some-One.is at c.in-Some-One.field-0-is in
    let d : c.find-found.result ≡ Some (One c.in-Some-One.one) = c.in-Some-One.is ∙ ap (λ (v : Value). Some v) f in
    let ids : c.self.inside.lists.next + 1 ≤ 2 ^ 62 = omega (arith, c.in_ok-number-in-Some-One.ensures.room) in
    rw c.rewrite.ensures (rw (c.in_ok-number-in-Some-One.ensures.ok, c.in_ok-number-in-Some-One.ensures.number) (placed-found c.self.inside.columns x s c.self.inside.held c.in-Some.held c.find-found.result (One c.in-Some-One.one) c.holds.result c.self.invariant
    c.find-found.ensures d c.holds.ensures c.if-holds.false ids (omega arith)))

pub append-requires : goal.append-requires
append-requires c =
    let s : SideState = record { entities = c.self.inside.table; lists = c.self.inside.lists.lists; next = c.self.inside.lists.next } in
    let x : Item = record { entity = c.args.entity; pred = c.args.pred; value = c.args.value } in
    let f : c.in-Some-Many.field-0 ≡ Many c.in-Some-Many.number = rw c.in-Some-Many.is at c.in-Some-Many.field-0-is in
    let d : c.find-found.result ≡ Some (Many c.in-Some-Many.number) = c.in-Some-Many.is ∙ ap (λ (v : Value). Some v) f in
    list_there c.self.inside.columns c.in-Some-Many.number x s c.self.inside.held c.find-found.result c.self.invariant c.find-found.ensures d

pub invariant_of-self-in-Some-Many : goal.invariant_of-self-in-Some-Many
invariant_of-self-in-Some-Many c =
    let s : SideState = record { entities = c.self.inside.table; lists = c.self.inside.lists.lists; next = c.self.inside.lists.next } in
    let x : Item = record { entity = c.args.entity; pred = c.args.pred; value = c.args.value } in
    let f : c.in-Some-Many.field-0 ≡ Many c.in-Some-Many.number = rw c.in-Some-Many.is at c.in-Some-Many.field-0-is in
    let d : c.find-found.result ≡ Some (Many c.in-Some-Many.number) = c.in-Some-Many.is ∙ ap (λ (v : Value). Some v) f in
    let new : list_any (nat_eq c.args.value) (elements_of c.self.inside.lists.lists c.in-Some-Many.number) ≡ false =
    ap (λ (o : Option Value). list_any (nat_eq c.args.value) (found_values c.self.inside.lists.lists o)) (sym d) ∙ sym c.holds.ensures ∙ c.if-holds.false in
    let e = c.in-Ok-append.ensures.ok ∙ with_value-new c.self.inside.lists c.in-Some-Many.number c.args.value new in
    rw e (placed-found c.self.inside.columns x s c.self.inside.held c.in-Some.held c.find-found.result (Many c.in-Some-Many.number) c.holds.result c.self.invariant
    c.find-found.ensures d c.holds.ensures c.if-holds.false c.self.invariant.ids (omega arith))
