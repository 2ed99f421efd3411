use Rattle.std.proofs.Common.{List, ℕ, sym, subst}
use Rattle.layout_meaning.specs.Side.{Item}
use Rattle.layout_meaning.specs.Rows.{SideOf, KeepsToNames}
use Rattle.layout_meaning.proofs.Names.{keeps-taken_from}
use Rattle.primary_rows.proofs.side.Side.delete.Goals as goal

pub returns-clause-keeps : goal.returns-clause-keeps
returns-clause-keeps c = λ (names : List (ℕ × List ℕ)) (h : KeepsToNames names c.args.self.now).
    let x : Item = record { entity = c.args.entity; pred = c.args.pred; value = c.args.value } in
    subst (λ (t : SideOf). KeepsToNames names t) (sym c.take_away.ensures.side) (keeps-taken_from names c.args.self.now x h)
