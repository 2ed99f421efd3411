use Rattle.std.proofs.Common.{◌≤◌, ◌^◌, ◌∙◌, arith}
use Rattle.std.proofs.lemmas.Result.{IfOk-weaker}
use Rattle.layout_elements.proofs.Numbers.{keys-are_numbers, elements-of_keys}
use Rattle.layout_elements.proofs.in_order.elements.Goals as goal

pub elements_of-requires : goal.elements_of-requires
elements_of-requires c =
    let few : c.args.side.now.state.next ≤ 2 ^ 62 = (let a = c.lists-lists.ensures.next in let b = c.next_number-next.ensures.value in let d = c.next_number-next.ensures.ids in omega arith) in
    keys-are_numbers c.args.side.now.columns c.args.side.now.state c.lists-lists.result.now c.as_slice.result.now c.lists-lists.ensures.sound c.lists-lists.ensures.lists few (c.as_slice.ensures.value ∙ c.in_ok-numbers.ensures)

pub returns : goal.returns
returns c =
    IfOk-weaker c.elements_of.result _ _
    (λ es h. h ∙ elements-of_keys c.args.side.now.columns c.args.side.now.state c.lists-lists.result.now c.as_slice.result.now c.lists-lists.ensures.sound c.lists-lists.ensures.lists (c.as_slice.ensures.value ∙ c.in_ok-numbers.ensures))
    c.elements_of.ensures
