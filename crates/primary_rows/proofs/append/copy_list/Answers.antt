use Rattle.std.proofs.Common.{◌≡◌, ◌<◌, ◌∙◌, ap, sym, subst, arith, IsSome, List, ℕ, take, get_or, length}
use Rattle.std.specs.Ordering.{nat_cmp}
use Rattle.std.specs.BTreeMap.{is_at}
use Rattle.std.specs.Map.{lookup}
use Rattle.layout_meaning.specs.Lists.{ListsOf, with_list, with_value}
use Rattle.layout_bulk_meaning.proofs.Going.{list-there, value-more, fresh-value, first-two, two-differ, take-next}
use Rattle.primary_rows.proofs.Moved.{same_place}
use Rattle.primary_rows.proofs.append.copy_list.Goals as goal

pub start-requires : goal.start-requires
start-requires c = two-differ c.args.values.now c.requires

pub loop-at-init : goal.loop-at-init
loop-at-init c = c.in-Ok.ensures.ok ∙ ap (with_list c.args.to.now) (first-two c.args.values.now c.requires.two)

pub add_to-requires : goal.add_to-requires
add_to-requires c =
    let l : ListsOf = c.args.to.now in
    subst (λ (n : ℕ). IsSome (lookup (is_at (nat_cmp n)) c.loop-at.to.lists)) (sym c.in-Ok.ensures.number)
    (subst (λ (w : ListsOf). IsSome (lookup (is_at (nat_cmp l.next)) w.lists)) (sym c.loop-at.invariant) (list-there l (take c.loop-at.at c.args.values.now) c.count-count.ensures.lists.below))

pub loop-at-preserved : goal.loop-at-preserved
loop-at-preserved c =
    let l : ListsOf = c.args.to.now in
    let i : ℕ = c.loop-at.at in
    let vs : List ℕ = c.args.values.now in
    let within : i < length vs = omega arith in
    let x : ℕ = get_or vs i 0 in
    let is : x ≡ get_or vs i x = same_place vs i within in
    c.in_ok-add_to.ensures.ok
    ∙ ap (λ (w : ListsOf). with_value w c.in-Ok.number x) c.loop-at.invariant
    ∙ ap (λ (n : ℕ). with_value (with_list l (take i vs)) n x) c.in-Ok.ensures.number
    ∙ value-more l (take i vs) x c.count-count.ensures.lists.below (fresh-value vs i x c.requires within is)
    ∙ ap (with_list l) (sym (take-next vs i x within is))
