use Rattle.layout_meaning.specs.Side.{Item}
use Rattle.layout_standing_meaning.specs.Sides.{SidesOf}
use Rattle.layout_standing_meaning.proofs.Steps.{sides_after_taking}
use Rattle.layout_sides.proofs.sides.TripleSides.delete.Goals as goal

pub invariant_of-self : goal.invariant_of-self
invariant_of-self c =
    let s : SidesOf = record { direct = c.self.inside.direct; reverse = c.self.inside.reverse } in
    let x : Item = record { entity = c.numbers-subject.result.0; pred = c.numbers-subject.result.1; value = c.numbers-subject.result.2 } in
    rw (c.delete-2.ensures.side, c.delete.ensures.side) (sides_after_taking s x c.self.invariant)
