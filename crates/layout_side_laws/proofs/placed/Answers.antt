use Rattle.std.proofs.Common.{◌≡◌, ℕ, List, Some}
use Rattle.layout_meaning.specs.Side.{Item}
use Rattle.layout_meaning.specs.Rows.{SideOf, KeepsToNames, name_in}
use Rattle.layout_meaning.proofs.Names.{keeps-placed_in}
use Rattle.layout_standing_meaning.specs.Sides.{IsGoodSide}
use Rattle.layout_standing_meaning.proofs.Steps.{good-placed}
use Rattle.layout_side_laws.proofs.Items.{placed-there, placed-items}
use Rattle.layout_side_laws.proofs.placed.Goals as goal

pub returns-clause-side : goal.returns-clause-side
returns-clause-side c = good-placed

pub returns-clause-items : goal.returns-clause-items
returns-clause-items c = placed-items

pub returns-clause-there : goal.returns-clause-there
returns-clause-there c = placed-there

pub returns-clause-columns : goal.returns-clause-columns
returns-clause-columns c = λ (names : List (ℕ × List ℕ)) (s : SideOf) (iri : List ℕ) (x : Item) (g : IsGoodSide s) (k : KeepsToNames names s) (e : name_in names x.pred ≡ Some iri). keeps-placed_in names s iri x (g.some iri) k e
