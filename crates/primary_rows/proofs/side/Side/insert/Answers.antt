use Rattle.std.proofs.Common.{◌≡◌, List, ℕ, Some, sym, subst, ◌<◌, length}
use Rattle.layout_meaning.specs.Columns.{candidates_of}
use Rattle.std.proofs.lemmas.Result.{on_ok_weaker}
use Rattle.layout_meaning.specs.Side.{Item}
use Rattle.layout_meaning.specs.Rows.{SideOf, KeepsToNames, name_in, placed_in}
use Rattle.layout_meaning.proofs.Names.{keeps-placed_in}
use Rattle.primary_rows.proofs.side.Side.insert.Goals as goal

pub returns-clause-keeps : goal.returns-clause-keeps
returns-clause-keeps c =
    let x : Item = record { entity = c.args.entity; pred = c.args.pred; value = c.args.value } in
    let some = subst (λ (t : SideOf). (iri : List ℕ) → 0 < length (candidates_of t.columns iri)) c.self.view_is c.count-count.ensures.some c.args.iri.now in
    on_ok_weaker c.put_in.result
    (λ (e : c.put_in.new.self ≡ placed_in c.args.self.now c.args.iri.now x). λ (names : List (ℕ × List ℕ)) (h : KeepsToNames names c.args.self.now) (n : name_in names c.args.pred ≡ Some c.args.iri.now).
    subst (λ (t : SideOf). KeepsToNames names t) (sym e) (keeps-placed_in names c.args.self.now c.args.iri.now x some h n))
    c.put_in.ensures.ok
