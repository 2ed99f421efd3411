use Rattle.std.proofs.Common.{◌≡◌, ◌∙◌, ap, ◌-◌, sym, subst, arith, Option, Some, None, List, ℕ, nat_eq, true}
use Rattle.std.specs.Set.{remove_key}
use Rattle.std.specs.List.{list_any}
use Rattle.layout_meaning.proofs.ListsKept.{without_value-held}
use Rattle.layout_meaning.specs.declared.value.Value.{Value}
use Rattle.layout_meaning.specs.declared.value.Value.TheVariants.{One, Many}
use Rattle.layout_meaning.specs.Side.{Item, SideState, elements_of, found_values, only}
use Rattle.primary_rows.proofs.Sides.{taken-side, counts-some, left_over-one, left_over-none}
use Rattle.primary_rows.specs.Kept.{IsSide}
use Rattle.primary_rows.proofs.side.Side.take_away.Goals as goal

pub overflow_sub-self : goal.overflow_sub-self
overflow_sub-self c =
    let s : SideState = record { entities = c.self.inside.table; lists = c.self.inside.lists.lists; next = c.self.inside.lists.next } in
    let x : Item = record { entity = c.args.entity; pred = c.args.pred; value = c.args.value } in
    counts-some c.self.inside.columns x s c.self.inside.held c.find-found.result c.holds.result c.self.invariant c.find-found.ensures c.holds.ensures c.if-not-holds.false

pub invariant_of-self-in-Some-One : goal.invariant_of-self-in-Some-One
invariant_of-self-in-Some-One c =
    let s : SideState = record { entities = c.self.inside.table; lists = c.self.inside.lists.lists; next = c.self.inside.lists.next } in
    let x : Item = record { entity = c.args.entity; pred = c.args.pred; value = c.args.value } in
    let f : c.in-Some-One.field-0 ≡ One c.in-Some-One._one = rw c.in-Some-One.is at c.in-Some-One.field-0-is in
    let d : c.find-found.result ≡ Some (One c.in-Some-One._one) = c.in-Some-One.is ∙ ap (λ (v : Value). Some v) f in
    let some = counts-some c.self.inside.columns x s c.self.inside.held c.find-found.result c.holds.result c.self.invariant c.find-found.ensures c.holds.ensures c.if-not-holds.false in
    rw c.clear.ensures (taken-side c.self.inside.columns x s c.self.inside.held (c.self.inside.held - 1) c.find-found.result (Some (One c.in-Some-One._one)) c.holds.result c.self.invariant
    c.find-found.ensures d c.holds.ensures c.if-not-holds.false (omega arith))

pub invariant_of-self-in-Some : goal.invariant_of-self-in-Some
invariant_of-self-in-Some c =
    let s : SideState = record { entities = c.self.inside.table; lists = c.self.inside.lists.lists; next = c.self.inside.lists.next } in
    let x : Item = record { entity = c.args.entity; pred = c.args.pred; value = c.args.value } in
    let f : c.in-Some-Many.field-0 ≡ Many c.in-Some-Many.number = rw c.in-Some-Many.is at c.in-Some-Many.field-0-is in
    let d : c.find-found.result ≡ Some (Many c.in-Some-Many.number) = c.in-Some-Many.is ∙ ap (λ (v : Value). Some v) f in
    let ys : List ℕ = remove_key (nat_eq c.args.value) (elements_of c.self.inside.lists.lists c.in-Some-Many.number) in
    let held : list_any (nat_eq c.args.value) (elements_of c.self.inside.lists.lists c.in-Some-Many.number) ≡ true =
    ap (λ (o : Option Value). list_any (nat_eq c.args.value) (found_values c.self.inside.lists.lists o)) (sym d) ∙ sym c.holds.ensures ∙ c.if-not-holds.false in
    let some = counts-some c.self.inside.columns x s c.self.inside.held c.find-found.result c.holds.result c.self.invariant c.find-found.ensures c.holds.ensures c.if-not-holds.false in
    let side = taken-side c.self.inside.columns x s c.self.inside.held (c.self.inside.held - 1) c.find-found.result (Some (Many c.in-Some-Many.number)) c.holds.result c.self.invariant
    c.find-found.ensures d c.holds.ensures c.if-not-holds.false (omega arith) in
    let lists = c.take_out.ensures.lists ∙ without_value-held c.self.inside.lists c.in-Some-Many.number c.args.value held in
    let one : only ys ≡ Some c.in-Some.one = sym (c.take_out.ensures.one held) ∙ c.in-Some.is in
    rw c.rewrite.ensures (rw lists (subst (λ (t : SideState). IsSide c.self.inside.columns t (c.self.inside.held - 1)) (left_over-one ys c.in-Some-Many.number x s c.in-Some.one one) side))

pub invariant_of-self-in-None-take_out : goal.invariant_of-self-in-None-take_out
invariant_of-self-in-None-take_out c =
    let s : SideState = record { entities = c.self.inside.table; lists = c.self.inside.lists.lists; next = c.self.inside.lists.next } in
    let x : Item = record { entity = c.args.entity; pred = c.args.pred; value = c.args.value } in
    let f : c.in-Some-Many.field-0 ≡ Many c.in-Some-Many.number = rw c.in-Some-Many.is at c.in-Some-Many.field-0-is in
    let d : c.find-found.result ≡ Some (Many c.in-Some-Many.number) = c.in-Some-Many.is ∙ ap (λ (v : Value). Some v) f in
    let ys : List ℕ = remove_key (nat_eq c.args.value) (elements_of c.self.inside.lists.lists c.in-Some-Many.number) in
    let held : list_any (nat_eq c.args.value) (elements_of c.self.inside.lists.lists c.in-Some-Many.number) ≡ true =
    ap (λ (o : Option Value). list_any (nat_eq c.args.value) (found_values c.self.inside.lists.lists o)) (sym d) ∙ sym c.holds.ensures ∙ c.if-not-holds.false in
    let some = counts-some c.self.inside.columns x s c.self.inside.held c.find-found.result c.holds.result c.self.invariant c.find-found.ensures c.holds.ensures c.if-not-holds.false in
    let side = taken-side c.self.inside.columns x s c.self.inside.held (c.self.inside.held - 1) c.find-found.result (Some (Many c.in-Some-Many.number)) c.holds.result c.self.invariant
    c.find-found.ensures d c.holds.ensures c.if-not-holds.false (omega arith) in
    let lists = c.take_out.ensures.lists ∙ without_value-held c.self.inside.lists c.in-Some-Many.number c.args.value held in
    let one : only ys ≡ None = sym (c.take_out.ensures.one held) ∙ c.in-None-take_out.is in
    rw lists (subst (λ (t : SideState). IsSide c.self.inside.columns t (c.self.inside.held - 1)) (left_over-none ys c.in-Some-Many.number x s one) side)
