use Rattle.std.proofs.Common.{◌||◌, Bool, nat_eq, ap, ap₂, ◌∙◌}
use Rattle.std.specs.List.{list_any}
use Rattle.bit_sets.proofs.Members.{has_one}
use Rattle.bit_sets.proofs.bit_set.BitSet.insert.Goals as goal

pub returns : goal.returns
returns c = λ n.
    c.in_ok-add_word.ensures.added n ∙ ap₂ (λ (a b : Bool). a || b) (ap (list_any (nat_eq n)) c.self.view_is) (has_one n c.args.number)
