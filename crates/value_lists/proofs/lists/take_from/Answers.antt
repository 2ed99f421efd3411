use Rattle.std.proofs.Common.{◌≡◌, ◌∙◌, ap, sym, List, ℕ, nat_eq, true}
use Rattle.std.specs.Option.{is_some}
use Rattle.std.specs.Ordering.{nat_cmp}
use Rattle.std.specs.BTreeMap.{is_at}
use Rattle.std.specs.Map.{remove_entry}
use Rattle.std.specs.Set.{remove_key}
use Rattle.layout_meaning.specs.Side.{elements_of, only}
use Rattle.layout_meaning.proofs.Maps.{remove-set}
use Rattle.layout_meaning.proofs.ListsKept.{left_one}
use Rattle.value_lists.proofs.lists.take_from.Goals as goal

pub returns-then-is_some-clause-lists : goal.returns-then-is_some-clause-lists
returns-then-is_some-clause-lists c =
    let ys : List ℕ = remove_key (nat_eq c.args.value) (elements_of c.args.lists.now.entries c.args.number) in
    let is : is_some (only ys) ≡ true = ap is_some (sym c.shrink-one.ensures.one) ∙ sym c.is_some.ensures ∙ c.if-is_some.true in
    c.remove.ensures.entries ∙ ap (λ (es : List (ℕ × List ℕ)). remove_entry (is_at (nat_cmp c.args.number)) es) c.shrink-one.ensures.lists
    ∙ remove-set c.args.number ys c.args.lists.now.entries ∙ left_one ys c.args.number c.args.lists.now.entries is
