use Rattle.std.proofs.Common.{◌≡◌, ℕ, List, Some, sym, ap, ◌∙◌}
use Rattle.layout_meaning.specs.Sound.{times}
use Rattle.primary_rows.specs.Cells.{pair_of}
use Rattle.layout_elements.specs.ElementRows.{named_list}
use Rattle.layout_elements.proofs.Numbers.{named-one}
use Rattle.layout_elements.proofs.in_order.push_number.Goals as goal

pub returns-in_ok-push : goal.returns-in_ok-push
returns-in_ok-push c =
    let named : named_list (pair_of c.args.pair) ≡ Some c.in-Some.number = sym c.list_in.ensures ∙ c.in-Some.is in
    λ (n : ℕ). ap (λ (l : List ℕ). times n l) c.in_ok-push.ensures.items ∙ named-one n (pair_of c.args.pair) c.in-Some.number c.args.numbers.now.items named
