use Rattle.std.proofs.Common.{rules, ◌≡◌, ◌∷◌, nat_eq, sym, subst}
use Rattle.std.specs.List.{IsDistinct}
use Rattle.layout_columns.proofs.Distinct.{first-apart}
use Rattle.layout_columns.proofs.entities.Preds.listed.Goals as goal

pub returns-clause-once : goal.returns-clause-once
unfolding IsDistinct
returns-clause-once c =
    let made : c.extend_from_slice.new.self.items ≡ c.self.inside.first ∷ c.self.inside.others.keys = search rules in
    subst (IsDistinct nat_eq) (sym made) (first-apart c.self.inside.first c.self.inside.others.keys c.self.invariant, c.as_slice.ensures.unique)
