use Rattle.std.proofs.Common.{◌≡◌, ◌∙◌, sym, ap, subst, true, false}
use Rattle.layout_meaning.specs.Side.{Item, is_held}
use Rattle.layout_meaning.specs.Rows.{SideOf, placed_in, taken_from}
use Rattle.layout_standing_meaning.specs.Sides.{SidesOf, both_placed, AreAsBefore}
use Rattle.layout_standing_meaning.proofs.Steps.{sides_after_placing, sides-next, placed-back, before-back, both-held, with_next}
use Rattle.layout_meaning.specs.Columns.{candidates_of}
use Rattle.layout_meaning.proofs.Changes.{next-placed}
use Rattle.layout_sides.specs.Items.{item_of}
use Rattle.layout_sides.proofs.Answers.{was_new, was_there, same_numbers}
use Rattle.layout_sides.proofs.sides.TripleSides.insert.Goals as goal

pub invariant_of-self-in-Ok : goal.invariant_of-self-in-Ok
invariant_of-self-in-Ok c =
    let s : SidesOf = record { direct = c.self.inside.direct; reverse = c.self.inside.reverse } in
    let x : Item = record { entity = c.numbers-subject.result.0; pred = c.numbers-subject.result.1; value = c.numbers-subject.result.2 } in
    rw (c.in_ok-insert.ensures.ok, c.in-Ok.ensures.ok) (sides_after_placing s c.args.iri.now x c.self.invariant)

pub invariant_of-self-in-Err : goal.invariant_of-self-in-Err
invariant_of-self-in-Err c =
    let s : SidesOf = record { direct = c.self.inside.direct; reverse = c.self.inside.reverse } in
    let x : Item = record { entity = c.numbers-subject.result.0; pred = c.numbers-subject.result.1; value = c.numbers-subject.result.2 } in
    let free : is_held x s.direct.state ≡ false = was_new c.in_ok-insert.field-0 (is_held x s.direct.state) c.in-Added.is c.in_ok-insert.ensures.put in
    let d : c.delete.new.self ≡ with_next s.direct (placed_in s.direct c.args.iri.now x).state.next
    = c.delete.ensures.side ∙ ap (λ (t : SideOf). taken_from t x) c.in_ok-insert.ensures.ok ∙ placed-back s.direct c.args.iri.now x c.self.invariant.direct free in
    let n = next-placed s.direct.columns.count (candidates_of s.direct.columns c.args.iri.now) x s.direct.state in
    rw (d, c.in-Err.ensures.err) (sides-next s (placed_in s.direct c.args.iri.now x).state.next n.0 c.self.invariant)

pub returns-in-There-clause-sides : goal.returns-in-There-clause-sides
returns-in-There-clause-sides c =
    let s : SidesOf = record { direct = c.self.inside.direct; reverse = c.self.inside.reverse } in
    let x : Item = record { entity = c.numbers-subject.result.0; pred = c.numbers-subject.result.1; value = c.numbers-subject.result.2 } in
    let there : is_held x s.direct.state ≡ true = was_there c.in_ok-insert.field-0 (is_held x s.direct.state) c.in-There.is c.in_ok-insert.ensures.put in
    let h : both_placed s c.args.iri.now x ≡ s = both-held s c.args.iri.now x c.self.invariant there in
    let e : c.insert.new.self ≡ s.direct = c.in_ok-insert.ensures.ok ∙ ap (λ (t : SidesOf). t.direct) h in
    let n : x ≡ item_of c.args.t = same_numbers x (item_of c.args.t) c.numbers-subject.ensures.subject c.numbers-subject.ensures.predicate c.numbers-subject.ensures.object in
    ap (λ (d : SideOf). let m : SidesOf = record { direct = d; reverse = s.reverse } in m) e ∙ sym h ∙ ap (λ (y : Item). both_placed s c.args.iri.now y) n ∙ ap (λ (t : SidesOf). both_placed t c.args.iri.now (item_of c.args.t)) c.self.view_is

pub returns-in-Err-clause-err : goal.returns-in-Err-clause-err
returns-in-Err-clause-err c =
    let s : SidesOf = record { direct = c.self.inside.direct; reverse = c.self.inside.reverse } in
    let x : Item = record { entity = c.numbers-subject.result.0; pred = c.numbers-subject.result.1; value = c.numbers-subject.result.2 } in
    let free : is_held x s.direct.state ≡ false = was_new c.in_ok-insert.field-0 (is_held x s.direct.state) c.in-Added.is c.in_ok-insert.ensures.put in
    let d : c.delete.new.self ≡ with_next s.direct (placed_in s.direct c.args.iri.now x).state.next
    = c.delete.ensures.side ∙ ap (λ (t : SideOf). taken_from t x) c.in_ok-insert.ensures.ok ∙ placed-back s.direct c.args.iri.now x c.self.invariant.direct free in
    subst (λ (w : SidesOf). AreAsBefore w (record { direct = c.delete.new.self; reverse = c.insert-in-Added.new.self })) c.self.view_is (rw (d, c.in-Err.ensures.err) (before-back s c.args.iri.now x))
